-- One more use of a name: the row that is put, and what is owed then.
use Rattle.std.proofs.Common.{◌≡◌, ◌≤◌, ℕ, ◌+◌, ◌^◌, List, [], ◌∷◌, Bool, true, false, cond, Option, None, Some, refl, sym, ap, ◌∙◌, subst, arith, eqb-true, lt-ltb}
use Rattle.std.specs.Prelude.{IsTrue, not, ◌==◌, count_by, is_some, nat_lt}
use Rattle.std.specs.List.{list_all}
use Rattle.std.specs.Cmp.{nat_cmp_total}
use Rattle.std.proofs.lemmas.Bool.{and_parts}
use Rattle.std.specs.FinMap.{nat_cmp-IsAntisymmetric, slice_cmp-IsAntisymmetric}
use Rattle.std.specs.Ordering.{is_eq}
use Rattle.s3_rows.specs.declared.change.Change.TheVariants as changes
use Rattle.s3_rows.specs.Rows.{Inode, Name, Content, Target, Attr, Parameters}
use Rattle.s3_rows.specs.Keyed.{has_key, put}
use Rattle.s3_rows.specs.Tables.{Tables, by_name}
use Rattle.s3_rows.specs.Batches.{tables_after}
use Rattle.s3_rows.specs.Selections.{name_at, name_of_bytes, bytes_cmp}
use Rattle.s3_rows.specs.Counts.{listed_name_count}
use Rattle.s3_rows.specs.Validity.{HasUniqueNames, any_kind, differ, finds_of_attr, has_inode, have_same_bytes, is_directory}
use Rattle.row_lemmas.proofs.Tests.{differ-map, equal_from_is_eq, find_none, find_passes, is_eq-nat_cmp, list_all_from_find, list_all_weaker}
use Rattle.row_lemmas.proofs.Sums.{count_by_none}
use Rattle.row_lemmas.proofs.Keyed.RowAt.{row_at_from_find}
use Rattle.row_lemmas.proofs.Keyed.Put.{differ-put, map-put_there}
use Rattle.tree_rows.specs.Premises.{finds_directory_and_name}
use Rattle.ref_counts.specs.Names.{Raised, raised, raised_of}
use Rattle.ref_counts.proofs.Named.{has_bytes}
use Rattle.row_steps.specs.Owed.{Owes}
use Rattle.row_steps.proofs.Owed.Contents.{bytes_turned}
use Rattle.row_steps.proofs.Owed.Draws.{Owes-params, apart_above, times_none}
use Rattle.row_steps.proofs.Owed.Inodes.{times_first, times_other}
use Rattle.row_steps.proofs.Owed.Names.{Owes-put_name, Owes-put_name_more, bytes_of_row}

-- the row that is put, the next name's id, and what holds of them
pub record IsRaise (t : Tables) (p : Parameters) (links uses : List ℕ) (more : Raised) (name : List ℕ) : Type 0 where
  pub row : Name
  pub next : ℕ
  pub after : tables_after more.changes t ≡ record t { params = Some (record p { next_name = next }); names = put by_name row t.names }
  -- also where inodes and targets were changed before
  pub after_rows : (inodes : List Inode) (targets : List Target) → tables_after more.changes (record t { inodes = inodes; targets = targets })
      ≡ record t { params = Some (record p { next_name = next }); names = put by_name row t.names; inodes = inodes; targets = targets }
  pub id : row.id ≡ more.id
  pub bytes : row.name ≡ name
  pub kept : (old : Name) → name_at t row.id ≡ Some old → old.name ≡ row.name
  pub least : p.next_name ≤ next
  pub most : next ≤ p.next_name + 1
  pub owes : Owes (record t { params = Some (record p { next_name = next }); names = put by_name row t.names }) (record p { next_name = next }) links (row.id ∷ uses)
  pub unique : HasUniqueNames t → IsTrue (differ have_same_bytes (put by_name row t.names))

abbrev same_text : List ℕ → List ℕ → Bool
same_text a b = is_eq (bytes_cmp a b)

one_text : (a b : List ℕ) → IsTrue (is_eq (bytes_cmp a b)) → a ≡ b
one_text a b same = slice_cmp-IsAntisymmetric nat_cmp-IsAntisymmetric a b (equal_from_is_eq (bytes_cmp a b) same)

module _ (t : Tables) (p : Parameters) (links uses : List ℕ) (name : List ℕ) (o : Owes t p links uses) where
  -- ---- a name that is there

  module _ (n : Name) (found : name_of_bytes t name ≡ Some n) where
    abbrev up : Name
    up = record n { refcount = n.refcount + 1 }

    there : name_at t n.id ≡ Some n
    there = row_at_from_find by_name nat_cmp_total (has_bytes name) t.names n o.ordered.names found

    found_unique : HasUniqueNames t → IsTrue (differ have_same_bytes (put by_name up t.names))
    found_unique unique =
        differ-map same_text bytes_of_row (put by_name up t.names)
        ∙ ap (differ same_text) (map-put_there by_name nat_cmp_total bytes_of_row up n t.names o.ordered.names there refl)
        ∙ sym (differ-map same_text bytes_of_row t.names) ∙ unique

    of_found : IsRaise t p links uses (record { id = n.id; changes = changes.PutName up ∷ [] }) name
    of_found = record {
      row = up;
      next = p.next_name;
      after = λ i. record t { params = (o.made) i; names = put by_name up t.names };
      after_rows = λ inodes targets i. record t { params = (o.made) i; names = put by_name up t.names; inodes = inodes; targets = targets };
      id = refl;
      bytes = one_text n.name name (find_passes (has_bytes name) t.names n found);
      kept =
          λ old is.
          let both : Some old ≡ Some n = sym is ∙ there in
          let same : old ≡ n = cc both in
          ap bytes_of_row same;
      least = omega arith;
      most = omega arith;
      owes =
          subst (λ (q : Option Parameters). Owes (record t { params = q; names = put by_name up t.names }) p links (n.id ∷ uses)) o.made
          (Owes-put_name_more t p n links uses o there);
      unique = found_unique;
    }

  -- ---- a new name

  module _ (none : name_of_bytes t name ≡ None) where
    abbrev first : Name
    first = record { id = p.next_name; refcount = 1; name = name }

    abbrev raised_params : Parameters
    raised_params = record p { next_name = p.next_name + 1 }

    absent : name_at t p.next_name ≡ None
    absent =
        find_none (has_key by_name p.next_name) (λ (r : Name). nat_lt r.id p.next_name)
        (λ r less. is_eq-nat_cmp p.next_name r.id ∙ apart_above r.id p.next_name less) t.names o.free.names

    not_next : (x : ℕ) → IsTrue (is_some (name_at t x)) → IsTrue (not (x == p.next_name))
    not_next x has = by_case (x == p.next_name) refl
      where
        by_case : (b : Bool) → (x == p.next_name) ≡ b → IsTrue (not b)
        by_case true is =
            let clash : false ≡ true = sym (ap is_some absent) ∙ subst (λ y. IsTrue (is_some (name_at t y))) (eqb-true x p.next_name is) has in
            absurd (cc clash)
        by_case false is = refl

    unlisted : listed_name_count t p.next_name ≡ 0
    unlisted =
        let entries : count_by (λ (r : Content). r.name_id == p.next_name) t.contents ≡ 0 =
        count_by_none (λ (r : Content). r.name_id == p.next_name) t.contents
        (list_all_weaker (finds_directory_and_name t) (λ r. not (r.name_id == p.next_name))
        (λ r finds. not_next r.name_id (and_parts (has_inode is_directory t r.parent) (is_some (name_at t r.name_id)) finds).1) t.contents o.rows.entries) in
        let attrs : count_by (λ (r : Attr). r.name_id == p.next_name) t.attrs ≡ 0 =
        count_by_none (λ (r : Attr). r.name_id == p.next_name) t.attrs
        (list_all_weaker (finds_of_attr t) (λ r. not (r.name_id == p.next_name))
        (λ r finds. not_next r.name_id (and_parts (has_inode any_kind t r.inode) (is_some (name_at t r.name_id)) finds).1) t.attrs o.rows.attrs) in
        omega (arith, entries, attrs)

    new_unique : HasUniqueNames t → IsTrue (differ have_same_bytes (put by_name first t.names))
    new_unique unique =
        let after : IsTrue (list_all (λ x. not (have_same_bytes x first)) t.names) = list_all_from_find (has_bytes name) t.names none in
        differ-put by_name have_same_bytes first t.names
        (list_all_weaker (λ x. not (have_same_bytes x first)) (λ x. not (have_same_bytes first x)) (λ x other. ap not (bytes_turned name x.name) ∙ other) t.names after)
        after unique

    of_new : IsTrue (list_all (λ x. nat_lt x p.next_name) uses)
        → IsRaise t p links uses (record { id = p.next_name; changes = changes.PutName first ∷ changes.SetParams raised_params ∷ [] }) name
    of_new below = record {
      row = first;
      next = p.next_name + 1;
      after = refl;
      after_rows = λ inodes targets. refl;
      id = refl;
      bytes = refl;
      kept =
          λ old is.
          let clash : None ≡ Some old = sym absent ∙ is in
          absurd (cc clash);
      least = omega arith;
      most = omega arith;
      owes =
          let free : Owes (record t { params = Some raised_params }) raised_params links uses =
          Owes-params t p p.next_inode (p.next_name + 1) links uses o (omega arith) (omega arith) in
          Owes-put_name (record t { params = Some raised_params }) raised_params first links uses (p.next_name ∷ uses) free
          (λ old is.
          let clash : None ≡ Some old = sym absent ∙ is in
          absurd (cc clash))
          (omega (arith, unlisted, times_first p.next_name uses, times_none p.next_name uses below)) refl
          (λ x other. times_other p.next_name x uses other) (lt-ltb p.next_name (p.next_name + 1) (omega arith));
      unique = new_unique;
    }

-- one more use of a name, where it may be used
pub IsRaise-raised : (t : Tables) (p : Parameters) (links uses : List ℕ) (more : Raised) (name : List ℕ) → Owes t p links uses
    → IsTrue (list_all (λ x. nat_lt x p.next_name) uses) → raised t name ≡ Some more → IsRaise t p links uses more name
IsRaise-raised t p links uses more name o below is =
    by_found (name_of_bytes t name) refl (sym (ap (raised_of name (name_of_bytes t name)) o.made) ∙ is)
  where
    by_count : (n : Name) → name_of_bytes t name ≡ Some n → (b : Bool)
        → cond b (Some (record { id = n.id; changes = changes.PutName (record n { refcount = n.refcount + 1 }) ∷ [] })) None ≡ Some more → IsRaise t p links uses more name
    by_count n found true row =
        let r : Raised = record { id = n.id; changes = changes.PutName (record n { refcount = n.refcount + 1 }) ∷ [] } in
        let same : r ≡ more = cc row in
        subst (λ m. IsRaise t p links uses m name) same (of_found t p links uses name o n found)
    by_count n found false row = absurd (cc row)

    by_next : name_of_bytes t name ≡ None → (b : Bool)
        → cond b (Some (record { id = p.next_name; changes = changes.PutName (record { id = p.next_name; refcount = 1; name = name }) ∷ changes.SetParams (record p { next_name = p.next_name + 1 }) ∷ [] })) None ≡ Some more → IsRaise t p links uses more name
    by_next none true row =
        let r : Raised = record { id = p.next_name; changes = changes.PutName (record { id = p.next_name; refcount = 1; name = name }) ∷ changes.SetParams (record p { next_name = p.next_name + 1 }) ∷ [] } in
        let same : r ≡ more = cc row in
        subst (λ m. IsRaise t p links uses m name) same (of_new t p links uses name o none below)
    by_next none false row = absurd (cc row)

    by_found : (found : Option Name) → name_of_bytes t name ≡ found → raised_of name found (Some p) ≡ Some more → IsRaise t p links uses more name
    by_found (Some n) found row = by_count n found (nat_lt (n.refcount + 1) (2 ^ 62)) row
    by_found None none row = by_next none (nat_lt p.next_name (2 ^ 62)) row
