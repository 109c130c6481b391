-- How often names are used after one use more.
use Rattle.std.proofs.Common.{◌≡◌, ◌≤◌, ◌<◌, ℕ, ◌+◌, ◌^◌, List, [], ◌∷◌, ◌++◌, Bool, true, false, cond, Option, None, Some, inl, inr, refl, sym, ap, ◌∙◌, subst, arith, lt-ltb, ltb-true}
use Rattle.std.proofs.lemmas.Bool.{cases_lt}
use Rattle.std.proofs.lemmas.Cmp.{nat_list_cmp_total}
use Rattle.std.proofs.lemmas.List.Sums.{sum_by-append, sum_by-cons}
use Rattle.std.specs.Cmp.{tied_itself}
use Rattle.std.specs.FinMap.{nat_cmp-IsAntisymmetric, slice_cmp-IsAntisymmetric}
use Rattle.std.specs.List.{list_all}
use Rattle.std.specs.Ordering.{is_eq}
use Rattle.std.specs.Prelude.{IsTrue, count_by, find, is_some, nat_lt, option_map, unwrap_or}
use Rattle.s3_rows.specs.declared.change.Change.{Change}
use Rattle.s3_rows.specs.declared.change.Change.TheVariants as changes
use Rattle.s3_rows.specs.Batches.{after_change, tables_after}
use Rattle.s3_rows.specs.Keyed.{has_key}
use Rattle.s3_rows.specs.Rows.{Name, Parameters}
use Rattle.s3_rows.specs.Selections.{bytes_cmp, name_at, name_of_bytes}
use Rattle.s3_rows.specs.Tables.{IsOrdered, Tables, by_name}
use Rattle.s3_rows.specs.Validity.{HasUniqueNames, differ, have_same_bytes}
use Rattle.row_lemmas.proofs.Keyed.Put.{list_all-put}
use Rattle.row_lemmas.proofs.Keyed.RowAt.{row_at_passes}
use Rattle.row_lemmas.proofs.Tables.{IsOrdered-tables_after}
use Rattle.row_lemmas.proofs.Tests.{equal_from_is_eq, find_none, is_eq-nat_cmp, list_all_weaker}
use Rattle.tree_laws.proofs.Node.Kind.{none_some, one_some}
use Rattle.tree_rows.proofs.NamedAttrs.{named_there}
use Rattle.ref_counts.specs.Names.{Raised, new_row_of, raised, raised_of}
use Rattle.ref_counts.specs.Plans.{next_name_of}
use Rattle.ref_counts.proofs.Named.{has_bytes, put_found}
use Rattle.ref_counts.proofs.Overlay.{kept}
use Rattle.block_steps.proofs.DebtsBlocks.{one_number}
use Rattle.row_steps.proofs.Owed.Contents.{bytes_turned}
use Rattle.row_steps.proofs.Owed.Draws.{apart_above}
use Rattle.tree_copy.specs.CopiedRows.{with_use}
use Rattle.tree_copy.proofs.NextAttrs.{StaysUnique-use}

-- ---- words

-- how often bytes are among names
abbrev pub used : List ℕ → List (List ℕ) → ℕ
used b names = count_by (λ x. is_eq (bytes_cmp b x)) names

abbrev one_of : List ℕ → List ℕ → ℕ
one_of b x = cond (is_eq (bytes_cmp b x)) 1 0

pub used-append : (b : List ℕ) (more names : List (List ℕ)) → used b (more ++ names) ≡ used b more + used b names
used-append b more names = sum_by-append (one_of b) more names

pub used-one : (b x : List ℕ) (own : Bool) → is_eq (bytes_cmp b x) ≡ own → used b (x ∷ []) ≡ cond own 1 0
used-one b x own is =
    let one : used b (x ∷ []) ≡ one_of b x + 0 = sum_by-cons (one_of b) x [] in
    let rest : one_of b x + 0 ≡ one_of b x = omega arith in
    one ∙ rest ∙ ap (λ c. cond c 1 0) is

pub one_text : (a b : List ℕ) → IsTrue (is_eq (bytes_cmp a b)) → a ≡ b
one_text a b same = slice_cmp-IsAntisymmetric nat_cmp-IsAntisymmetric a b (equal_from_is_eq (bytes_cmp a b) same)

pub own_text : (a b : List ℕ) → a ≡ b → IsTrue (is_eq (bytes_cmp a b))
own_text a b same = ap (λ x. is_eq (bytes_cmp x b)) same ∙ ap is_eq (tied_itself nat_list_cmp_total b)

-- how often a name is used, by its row
abbrev pub count_of : Option Name → ℕ
count_of None = 0
count_of (Some n) = n.refcount

abbrev pub uses : Tables → List ℕ → ℕ
uses w b = count_of (name_of_bytes w b)

-- ordered tables where no two names have the same bytes, with a next number of names
pub record HasItsNames (w : Tables) : Type 0 where
  pub params : Parameters
  pub made : w.params ≡ Some params
  pub ordered : IsOrdered w
  pub unique : HasUniqueNames w
  pub free : IsTrue (list_all (λ r. nat_lt r.id params.next_name) w.names)

pub next_is : (w : Tables) (h : HasItsNames w) → next_name_of w ≡ h.params.next_name
next_is w h = ap (λ (q : Option Parameters). unwrap_or (option_map (λ (x : Parameters). x.next_name) q) 0) h.made

-- ---- a row that is put

module _ (w : Tables) (row : Name) (h : HasItsNames w) (now : HasUniqueNames (after_change (changes.PutName row) w))
    (old : (m : Name) → name_at w row.id ≡ Some m → m.name ≡ row.name) where
  abbrev with_row : Tables
  with_row = after_change (changes.PutName row) w

  kept_other : (b : List ℕ) → is_eq (bytes_cmp row.name b) ≡ false → kept by_name row.id (name_of_bytes w b) ≡ name_of_bytes w b
  kept_other b fails = by_row (name_of_bytes w b) refl
    where
      by_key : (m : Name) → name_of_bytes w b ≡ Some m → (c : Bool) → has_key by_name row.id m ≡ c → cond c None (Some m) ≡ Some m
      by_key m there false key = refl
      by_key m there true key =
          let names = named_there w h.ordered.names b m there in
          let same : m.name ≡ row.name = old m (ap (name_at w) (one_number row.id m.id key) ∙ names.0) in
          let clash : true ≡ false = sym (own_text row.name b (sym same ∙ names.1)) ∙ fails in
          absurd (cc clash)

      by_row : (found : Option Name) → name_of_bytes w b ≡ found → kept by_name row.id found ≡ found
      by_row None none = refl
      by_row (Some m) there = by_key m there (has_key by_name row.id m) refl

  pub name_of_bytes-put : (b : List ℕ) → name_of_bytes with_row b ≡ cond (is_eq (bytes_cmp b row.name)) (Some row) (name_of_bytes w b)
  name_of_bytes-put b =
      sym (put_found w row b h.ordered h.unique now) ∙ by_test (is_eq (bytes_cmp row.name b)) refl
      ∙ ap (λ c. cond c (Some row) (name_of_bytes w b)) (bytes_turned row.name b)
    where
      by_test : (c : Bool) → is_eq (bytes_cmp row.name b) ≡ c → cond c (Some row) (kept by_name row.id (name_of_bytes w b)) ≡ cond c (Some row) (name_of_bytes w b)
      by_test true is = refl
      by_test false is = kept_other b is

  pub uses-put : row.refcount ≡ uses w row.name + 1 → (b : List ℕ) → uses with_row b ≡ uses w b + used b (row.name ∷ [])
  uses-put more b = ap count_of (name_of_bytes-put b) ∙ by_test (is_eq (bytes_cmp b row.name)) refl
    where
      by_test : (c : Bool) → is_eq (bytes_cmp b row.name) ≡ c → count_of (cond c (Some row) (name_of_bytes w b)) ≡ uses w b + used b (row.name ∷ [])
      by_test true is = omega (arith, more, ap (uses w) (one_text b row.name is), used-one b row.name true is)
      by_test false is = omega (arith, used-one b row.name false is)

-- ---- tables after uses of names that are there

-- a name that would count too many
pub record IsSpent (w : Tables) (names : List (List ℕ)) : Type 0 where
  pub bytes : List ℕ
  pub least : 1 ≤ used bytes names
  pub over : 2 ^ 62 ≤ uses w bytes + used bytes names

-- the tables after them, and whether they fit
pub record Counted (w v : Tables) (names : List (List ℕ)) (fits : Bool) : Type 0 where
  pub fine : HasItsNames v
  pub next : next_name_of v ≡ next_name_of w
  pub there : (b : List ℕ) → is_some (name_of_bytes v b) ≡ is_some (name_of_bytes w b)
  pub more : IsTrue fits → (b : List ℕ) → uses v b ≡ uses w b + used b names
  pub fit : IsTrue fits → (b : List ℕ) → 1 ≤ used b names → uses w b + used b names < 2 ^ 62
  pub spent : fits ≡ false → IsSpent w names

plus_zero : (n : ℕ) → n ≡ n + 0
plus_zero n = omega arith

-- other rows change
pub Counted-same : (w v : Tables) (q : Parameters) (h : HasItsNames w) → v.names ≡ w.names → v.params ≡ Some q → q.next_name ≡ h.params.next_name → IsOrdered v
    → Counted w v [] true
Counted-same w v q h names made next o = record {
  fine = fine;
  next = next_is v fine ∙ next ∙ sym (next_is w h);
  there = λ b. ap (λ (ns : List Name). is_some (find (has_bytes b) ns)) names;
  more = λ fits b. ap (λ (ns : List Name). count_of (find (has_bytes b) ns)) names ∙ plus_zero (uses w b);
  fit = λ fits b least. absurd (omega (arith, least));
  spent = λ is. absurd (cc is);
}
  where
    fine : HasItsNames v
    fine = record {
      params = q;
      made = made;
      ordered = o;
      unique = ap (differ have_same_bytes) names ∙ h.unique;
      free = ap (λ n. list_all (λ (r : Name). nat_lt r.id n) v.names) next ∙ ap (list_all (λ (r : Name). nat_lt r.id h.params.next_name)) names ∙ h.free;
    }

-- the use of a name that may be new: a number is drawn
pub record IsDrawn (w v : Tables) (name : List ℕ) (fits : Bool) : Type 0 where
  pub fine : IsTrue fits → HasItsNames v
  pub kept : IsTrue fits → (b : List ℕ) → IsTrue (is_some (name_of_bytes w b)) → IsTrue (is_some (name_of_bytes v b))
  pub more : IsTrue fits → (b : List ℕ) → uses v b ≡ uses w b + used b (name ∷ [])
  pub room : IsTrue fits → next_name_of w < 2 ^ 62
  pub worn : fits ≡ false → 2 ^ 62 ≤ next_name_of w

not_less : (n m : ℕ) → nat_lt n m ≡ false → m ≤ n
not_less n m fails =
    elim (cases_lt n m) [
      | inl less ↦
          let clash : true ≡ false = sym (lt-ltb n m less) ∙ fails in
          absurd (cc clash)
      | inr above ↦ above
    ]

-- ---- a use of a name

module _ (w : Tables) (h : HasItsNames w) (name : List ℕ) (row : ℕ → Change) (same_names : (k : ℕ) (u : Tables) → (after_change (row k) u).names ≡ u.names)
    (same_params : (k : ℕ) (u : Tables) → (after_change (row k) u).params ≡ u.params) where
  keeps_unique : (k : ℕ) (u : Tables) → HasUniqueNames u → HasUniqueNames (after_change (row k) u)
  keeps_unique k u unique = ap (differ have_same_bytes) (same_names k u) ∙ unique

  abbrev rows : ℕ → List Change
  rows k = row k ∷ []

  -- what the use of a name that is there makes of the tables
  module _ (n : Name) (found : name_of_bytes w name ≡ Some n) where
    abbrev up : Name
    up = record n { refcount = n.refcount + 1 }

    abbrev raise : Raised
    raise = record { id = n.id; changes = changes.PutName up ∷ [] }

    abbrev with_up : Tables
    with_up = after_change (changes.PutName up) w

    abbrev after_up : Tables
    after_up = after_change (row n.id) with_up

    own_row : (name_at w n.id ≡ Some n) × (n.name ≡ name)
    own_row = named_there w h.ordered.names name n found

    own_uses : uses w name ≡ n.refcount
    own_uses = ap count_of found

    one_use : used name (name ∷ []) ≡ 1
    one_use = used-one name name true (own_text name name refl)

    module _ (fits : nat_lt (n.refcount + 1) (2 ^ 62) ≡ true) where
      raised_is : raised w name ≡ Some raise
      raised_is = ap (λ f. raised_of name f w.params) found ∙ ap (λ c. cond c (Some raise) None) fits

      unique_up : HasUniqueNames with_up
      unique_up = (StaysUnique-use w [] name raise (row n.id) h.ordered h.unique raised_is (keeps_unique n.id)).1.0

      old_up : (m : Name) → name_at w n.id ≡ Some m → m.name ≡ n.name
      old_up m is = ap (λ (x : Name). x.name) (one_some (name_at w n.id) m n is own_row.0)

      fine_up : HasItsNames after_up
      fine_up =
          let below : Name → Bool = λ r. nat_lt r.id h.params.next_name in
          record {
            params = h.params;
            made = same_params n.id with_up ∙ h.made;
            ordered = IsOrdered-tables_after (changes.PutName up ∷ row n.id ∷ []) w h.ordered;
            unique = keeps_unique n.id with_up unique_up;
            free =
                ap (list_all below) (same_names n.id with_up)
                ∙ list_all-put by_name below up w.names (row_at_passes by_name below n.id w.names n h.free own_row.0) h.free;
          }

      there_up : (b : List ℕ) → is_some (name_of_bytes after_up b) ≡ is_some (name_of_bytes w b)
      there_up b =
          ap (λ (ns : List Name). is_some (find (has_bytes b) ns)) (same_names n.id with_up) ∙ ap is_some (name_of_bytes-put w up h unique_up old_up b)
          ∙ by_test (is_eq (bytes_cmp b n.name)) refl
        where
          by_test : (c : Bool) → is_eq (bytes_cmp b n.name) ≡ c → is_some (cond c (Some up) (name_of_bytes w b)) ≡ is_some (name_of_bytes w b)
          by_test true is = sym (ap is_some (ap (name_of_bytes w) (one_text b n.name is ∙ own_row.1) ∙ found))
          by_test false is = refl

      more_up : (b : List ℕ) → uses after_up b ≡ uses w b + used b (name ∷ [])
      more_up b =
          let raised_count : n.refcount + 1 ≡ uses w n.name + 1 = ap (λ x. x + 1) (sym (ap (uses w) own_row.1 ∙ own_uses)) in
          ap (λ (ns : List Name). count_of (find (has_bytes b) ns)) (same_names n.id with_up) ∙ uses-put w up h unique_up old_up raised_count b
          ∙ ap (λ x. uses w b + used b (x ∷ [])) own_row.1

      fit_up : (b : List ℕ) → 1 ≤ used b (name ∷ []) → uses w b + used b (name ∷ []) < 2 ^ 62
      fit_up b least = by_test (is_eq (bytes_cmp b name)) refl
        where
          by_test : (c : Bool) → is_eq (bytes_cmp b name) ≡ c → uses w b + used b (name ∷ []) < 2 ^ 62
          by_test true is = omega (arith, ltb-true (n.refcount + 1) (2 ^ 62) fits, own_uses, ap (uses w) (one_text b name is), used-one b name true is)
          by_test false is = absurd (omega (arith, least, used-one b name false is))

      Counted-up : Counted w after_up (name ∷ []) true
      Counted-up = record {
        fine = fine_up;
        next = ap (λ (q : Option Parameters). unwrap_or (option_map (λ (x : Parameters). x.next_name) q) 0) (same_params n.id with_up);
        there = there_up;
        more = λ is. more_up;
        fit = λ is. fit_up;
        spent = λ is. absurd (cc is);
      }

    Counted-spent : nat_lt (n.refcount + 1) (2 ^ 62) ≡ false → Counted w w (name ∷ []) false
    Counted-spent fails = record {
      fine = h;
      next = refl;
      there = λ b. refl;
      more = λ is. absurd (cc is);
      fit = λ is. absurd (cc is);
      spent =
          λ is. record {
            bytes = name;
            least = omega (arith, one_use);
            over = omega (arith, not_less (n.refcount + 1) (2 ^ 62) fails, own_uses, one_use);
          };
    }

    pub Counted-use : Counted w (tables_after (with_use (raised w name) rows) w) (name ∷ []) (is_some (raised w name))
    Counted-use =
        subst (λ (f : Option Name). Counted w (tables_after (with_use (raised_of name f w.params) rows) w) (name ∷ []) (is_some (raised_of name f w.params))) (sym found)
        (by_fits (nat_lt (n.refcount + 1) (2 ^ 62)) refl)
      where
        by_fits : (c : Bool) → nat_lt (n.refcount + 1) (2 ^ 62) ≡ c
            → Counted w (tables_after (with_use (cond c (Some raise) None) rows) w) (name ∷ []) (is_some (cond c (Some raise) None))
        by_fits true is = Counted-up is
        by_fits false is = Counted-spent is

  -- ---- a new name

  module _ (none : name_of_bytes w name ≡ None) where
    abbrev first : Name
    first = record { id = h.params.next_name; refcount = 1; name = name }

    abbrev params_after : Parameters
    params_after = record h.params { next_name = h.params.next_name + 1 }

    abbrev raise_new : Raised
    raise_new = record { id = h.params.next_name; changes = changes.PutName first ∷ changes.SetParams params_after ∷ [] }

    abbrev with_first : Tables
    with_first = after_change (changes.PutName first) w

    abbrev with_params : Tables
    with_params = after_change (changes.SetParams params_after) with_first

    abbrev after_new : Tables
    after_new = after_change (row h.params.next_name) with_params

    absent : name_at w h.params.next_name ≡ None
    absent =
        find_none (has_key by_name h.params.next_name) (λ (r : Name). nat_lt r.id h.params.next_name)
        (λ r less. is_eq-nat_cmp h.params.next_name r.id ∙ apart_above r.id h.params.next_name less) w.names h.free

    old_none : (m : Name) → name_at w h.params.next_name ≡ Some m → m.name ≡ name
    old_none m is = absurd (none_some (name_at w h.params.next_name) m absent is)

    module _ (fits : nat_lt h.params.next_name (2 ^ 62) ≡ true) where
      new_is : raised w name ≡ Some raise_new
      new_is = ap (λ f. raised_of name f w.params) none ∙ ap (new_row_of name) h.made ∙ ap (λ c. cond c (Some raise_new) None) fits

      unique_new : HasUniqueNames with_first
      unique_new = (StaysUnique-use w [] name raise_new (row h.params.next_name) h.ordered h.unique new_is (keeps_unique h.params.next_name)).1.0

      fine_new : HasItsNames after_new
      fine_new =
          let below : Name → Bool = λ r. nat_lt r.id (h.params.next_name + 1) in
          let wider : IsTrue (list_all below w.names) =
          list_all_weaker (λ (r : Name). nat_lt r.id h.params.next_name) below
          (λ r less. lt-ltb r.id (h.params.next_name + 1) (omega (arith, ltb-true r.id h.params.next_name less))) w.names h.free in
          record {
            params = params_after;
            made = same_params h.params.next_name with_params;
            ordered = IsOrdered-tables_after (changes.PutName first ∷ changes.SetParams params_after ∷ row h.params.next_name ∷ []) w h.ordered;
            unique = keeps_unique h.params.next_name with_params unique_new;
            free =
                ap (list_all below) (same_names h.params.next_name with_params)
                ∙ list_all-put by_name below first w.names (lt-ltb h.params.next_name (h.params.next_name + 1) (omega arith)) wider;
          }

      kept_new : (b : List ℕ) → IsTrue (is_some (name_of_bytes w b)) → IsTrue (is_some (name_of_bytes after_new b))
      kept_new b some =
          ap (λ (ns : List Name). is_some (find (has_bytes b) ns)) (same_names h.params.next_name with_params)
          ∙ ap is_some (name_of_bytes-put w first h unique_new old_none b) ∙ by_test (is_eq (bytes_cmp b name))
        where
          by_test : (c : Bool) → is_some (cond c (Some first) (name_of_bytes w b)) ≡ true
          by_test true = refl
          by_test false = some

      more_new : (b : List ℕ) → uses after_new b ≡ uses w b + used b (name ∷ [])
      more_new b =
          let count : 1 ≡ uses w name + 1 = ap (λ (f : Option Name). count_of f + 1) (sym none) in
          ap (λ (ns : List Name). count_of (find (has_bytes b) ns)) (same_names h.params.next_name with_params) ∙ uses-put w first h unique_new old_none count b

      IsDrawn-new : IsDrawn w after_new name true
      IsDrawn-new = record {
        fine = λ is. fine_new;
        kept = λ is. kept_new;
        more = λ is. more_new;
        room = λ is. omega (arith, next_is w h, ltb-true h.params.next_name (2 ^ 62) fits);
        worn = λ is. absurd (cc is);
      }

    IsDrawn-worn : nat_lt h.params.next_name (2 ^ 62) ≡ false → IsDrawn w w name false
    IsDrawn-worn fails = record {
      fine = λ is. h;
      kept = λ is. absurd (cc is);
      more = λ is. absurd (cc is);
      room = λ is. absurd (cc is);
      worn = λ is. omega (arith, next_is w h, not_less h.params.next_name (2 ^ 62) fails);
    }

    pub IsDrawn-use : IsDrawn w (tables_after (with_use (raised w name) rows) w) name (is_some (raised w name))
    IsDrawn-use =
        subst (λ (m : Option Raised). IsDrawn w (tables_after (with_use m rows) w) name (is_some m))
        (sym (ap (λ f. raised_of name f w.params) none ∙ ap (new_row_of name) h.made)) (by_fits (nat_lt h.params.next_name (2 ^ 62)) refl)
      where
        by_fits : (c : Bool) → nat_lt h.params.next_name (2 ^ 62) ≡ c
            → IsDrawn w (tables_after (with_use (cond c (Some raise_new) None) rows) w) name (is_some (cond c (Some raise_new) None))
        by_fits true is = IsDrawn-new is
        by_fits false is = IsDrawn-worn is
