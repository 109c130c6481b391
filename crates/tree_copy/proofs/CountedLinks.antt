-- A copy counts the entries that name it so far, which are fewer than those that name its original.
use Rattle.std.proofs.Common.{◌≡◌, ◌≢◌, inl, inr, ℕ, ◌+◌, ◌^◌, List, [], ◌∷◌, ◌++◌, length, Bool, true, false, cond, Option, None, Some, refl, sym, ap, ◌∙◌, subst, arith, eq-eqb, eqb-true}
use Rattle.std.proofs.lemmas.Bool.{both_ways, cases_eq, ne_eqb, or_cases, or_parts}
use Rattle.std.proofs.lemmas.List.{append_assoc}
use Rattle.std.proofs.lemmas.List.Sums.{sum_by-append, sum_by-cons}
use Rattle.std.specs.Cmp.{nat_cmp_total}
use Rattle.std.specs.Prelude.{◌==◌, count_by, nat_lt}
use Rattle.plain_tree.specs.Below.{is_among}
use Rattle.plain_tree.specs.Subtrees.{copy_number, place_of}
use Rattle.s3_rows.specs.declared.change.Change.{Change}
use Rattle.s3_rows.specs.declared.change.Change.TheVariants as changes
use Rattle.s3_rows.specs.declared.lists.NamedAttr.{NamedAttr}
use Rattle.s3_rows.specs.Batches.{after_change, tables_after}
use Rattle.s3_rows.specs.Keyed.{has_key, put, row_at}
use Rattle.s3_rows.specs.Rows.{Inode, Name, Parameters, Target}
use Rattle.s3_rows.specs.Selections.{inode_at, name_of_bytes, named_attrs, target_at}
use Rattle.s3_rows.specs.Tables.{Tables, by_inode}
use Rattle.row_lemmas.proofs.Keyed.Put.{row_at-put_other, row_at-put_same}
use Rattle.row_lemmas.proofs.Tables.{tables_after-tables_after}
use Rattle.row_lemmas.proofs.Tests.{is_eq-nat_cmp}
use Rattle.tree_laws.proofs.Copy.Nodes.{place_of-one, place_within}
use Rattle.tree_rows.proofs.Whole.{number_of}
use Rattle.ref_counts.specs.Names.{raised_of}
use Rattle.tree_copy.specs.CopiedRows.{AreVisits, IsVisit, Visit, all_seen, attr_copied, attrs_copied, child_copied, child_of_visit, copied_row, drawing, entry_copied, link_counted, node_copied, row_copied, seen_after, target_copied, visit_copied, visits_copied, with_use}
use Rattle.tree_copy.proofs.SameEntries.{among_first, among_last, place_last, place_none, place_stays}

-- ---- what the parts of a copy make of the table of inodes

-- a use of a name leaves it alone
uses_inodes : (bytes : List ℕ) (found : Option Name) (p : Option Parameters) (row : ℕ → Change) → ((k : ℕ) (u : Tables) → (after_change (row k) u).inodes ≡ u.inodes) → (t : Tables)
    → (tables_after (with_use (raised_of bytes found p) (λ k. row k ∷ [])) t).inodes ≡ t.inodes
uses_inodes bytes (Some n) p row same t = by_room (nat_lt (n.refcount + 1) (2 ^ 62))
  where
    by_room : (b : Bool) → (tables_after (with_use (cond b (Some (record { id = n.id; changes = changes.PutName (record n { refcount = n.refcount + 1 }) ∷ [] })) None) (λ k. row k ∷ [])) t).inodes ≡ t.inodes
    by_room true = same n.id (after_change (changes.PutName (record n { refcount = n.refcount + 1 })) t)
    by_room false = refl
uses_inodes bytes None None row same t = refl
uses_inodes bytes None (Some q) row same t = by_room (nat_lt q.next_name (2 ^ 62))
  where
    by_room : (b : Bool) → (tables_after (with_use (cond b (Some (record {
      id = q.next_name;
      changes = changes.PutName (record { id = q.next_name; refcount = 1; name = bytes }) ∷ changes.SetParams (record q { next_name = q.next_name + 1 }) ∷ [];
    })) None) (λ k. row k ∷ [])) t).inodes ≡ t.inodes
    by_room true =
        same q.next_name
        (after_change (changes.SetParams (record q { next_name = q.next_name + 1 })) (after_change (changes.PutName (record { id = q.next_name; refcount = 1; name = bytes })) t))
    by_room false = refl

pub entry_inodes : (directory id : ℕ) (name : List ℕ) (t : Tables) → (tables_after (entry_copied directory name id t) t).inodes ≡ t.inodes
entry_inodes directory id name t =
    uses_inodes name (name_of_bytes t name) t.params (λ k. changes.PutContent (record { parent = directory; name_id = k; inode = id })) (λ k u. refl) t

attrs_inodes : (id : ℕ) (attrs : List NamedAttr) (t : Tables) → (tables_after (attrs_copied id attrs t) t).inodes ≡ t.inodes
attrs_inodes id [] t = refl
attrs_inodes id (a ∷ attrs) t =
    let one : List Change = attr_copied id a t in
    ap (λ (u : Tables). u.inodes) (sym (tables_after-tables_after one (attrs_copied id attrs (tables_after one t)) t)) ∙ attrs_inodes id attrs (tables_after one t)
    ∙ uses_inodes a.name (name_of_bytes t a.name) t.params (λ k. changes.PutAttr (record { inode = id; name_id = k; value = a.row.value })) (λ k u. refl) t

pub node_inodes : (told : Tables) (id now : ℕ) (r : Inode) (t : Tables) → (tables_after (node_copied told id now r t) t).inodes ≡ put by_inode (copied_row id now r) t.inodes
node_inodes told id now r t =
    let row : List Change = row_copied told id now r t in
    ap (λ (u : Tables). u.inodes) (sym (tables_after-tables_after row (attrs_copied id (named_attrs told r.id) (tables_after row t)) t))
    ∙ attrs_inodes id (named_attrs told r.id) (tables_after row t) ∙ by_case t.params (target_at told r.id)
  where
    by_case : (p : Option Parameters) (x : Option Target)
        → (tables_after (drawing p ++ target_copied id x ++ changes.PutInode (copied_row id now r) ∷ []) t).inodes ≡ put by_inode (copied_row id now r) t.inodes
    by_case None None = refl
    by_case None (Some x) = refl
    by_case (Some p) None = refl
    by_case (Some p) (Some x) = refl

visit_inodes : (told : Tables) (next now : ℕ) (seen : List ℕ) (v : Visit) (t : Tables)
    → (tables_after (visit_copied told next now seen v t) t).inodes ≡ (tables_after (child_of_visit told next now seen v t) t).inodes
visit_inodes told next now seen v t =
    let child : List Change = child_of_visit told next now seen v t in
    ap (λ (u : Tables). u.inodes)
    (sym (tables_after-tables_after child (entry_copied (copy_number next seen v.directory) v.entry.name (copy_number next seen v.child.id) (tables_after child t)) t))
    ∙ entry_inodes (copy_number next seen v.directory) (copy_number next seen v.child.id) v.entry.name (tables_after child t)

-- ---- how often an inode was named

abbrev pub times : List Visit → ℕ → ℕ
times done x = count_by (λ v. v.child.id == x) done

pub times-last : (done : List Visit) (v : Visit) (x : ℕ) → times (done ++ v ∷ []) x ≡ times done x + cond {A = ℕ} (v.child.id == x) 1 0
times-last done v x =
    let one : Visit → ℕ = λ w. cond (w.child.id == x) 1 0 in
    omega (arith, sum_by-append one done (v ∷ []), sum_by-cons one v [])

-- the row of a copy counts them, and that of the source is as it came
pub record AreCounted (next now : ℕ) (top : Inode) (seen : List ℕ) (done : List Visit) (u : Tables) : Type 0 where
  pub rows : (y : ℕ) → is_among seen y ≡ true → y ≢ top.id → (r : Inode) × (inode_at u (copy_number next seen y) ≡ Some r) × (r.refcount ≡ times done y)
  pub none : (y : ℕ) → is_among seen y ≡ false → times done y ≡ 0
  pub source : is_among seen top.id ≡ true
  pub first : copy_number next seen top.id ≡ next
  pub source_row : inode_at u next ≡ Some (copied_row next now top)

module _ (told : Tables) (next now : ℕ) (top : Inode) where
  other_key : (id : ℕ) (row : Inode) → id ≢ row.id → has_key by_inode id row ≡ false
  other_key id row apart = is_eq-nat_cmp id row.id ∙ ne_eqb id row.id apart

  -- a row under another number leaves it alone
  pub unmoved : (id : ℕ) (row : Inode) (u w : Tables) → w.inodes ≡ put by_inode row u.inodes → id ≢ row.id → inode_at w id ≡ inode_at u id
  unmoved id row u w is apart = ap (row_at by_inode id) is ∙ row_at-put_other by_inode nat_cmp_total id row u.inodes (other_key id row apart)

  pub moved : (row : Inode) (u w : Tables) → w.inodes ≡ put by_inode row u.inodes → inode_at w row.id ≡ Some row
  moved row u w is = ap (row_at by_inode row.id) is ∙ row_at-put_same by_inode nat_cmp_total row u.inodes

  module _ (seen : List ℕ) (done : List Visit) (u : Tables) (counted : AreCounted next now top seen done u) (v : Visit) (not_top : v.child.id ≢ top.id) where
    abbrev id : ℕ
    id = copy_number next seen v.child.id

    abbrev w : Tables
    w = tables_after (visit_copied told next now seen v u) u

    zero_top : (y : ℕ) → y ≢ v.child.id → times (done ++ v ∷ []) y ≡ times done y
    zero_top y apart =
        let one : (v.child.id == y) ≡ false = ne_eqb v.child.id y (λ same. apart (sym same)) in
        times-last done v y ∙ ap (λ b. times done y + cond {A = ℕ} b 1 0) one ∙ omega arith

    one_more : (y : ℕ) → y ≡ v.child.id → times (done ++ v ∷ []) y ≡ times done y + 1
    one_more y same =
        let one : (v.child.id == y) ≡ true = eq-eqb v.child.id y (sym same) in
        times-last done v y ∙ ap (λ b. times done y + cond {A = ℕ} b 1 0) one

    counted_again : is_among seen v.child.id ≡ true → AreCounted next now top seen (done ++ v ∷ []) w
    counted_again among =
        let own = counted.rows v.child.id among not_top in
        let row : Inode = record own.0 { refcount = own.0.refcount + 1 } in
        let number : id ≡ own.0.id = number_of u id own.0 own.1 in
        let inodes : w.inodes ≡ put by_inode row u.inodes =
        visit_inodes told next now seen v u ∙ ap (λ b. (tables_after (child_copied b told id now v.child u) u).inodes) among
        ∙ ap (λ (found : Option Inode). (tables_after (link_counted found) u).inodes) own.1 in
        record {
          rows = λ y seen_y other.
              elim (cases_eq y v.child.id) [
                | inl same ↦ (
                  row,
                  ap (λ z. inode_at w (copy_number next seen z)) same ∙ ap (inode_at w) number ∙ moved row u w inodes,
                  ap (λ n. n + 1) (own.2 ∙ ap (times done) (sym same)) ∙ sym (one_more y same),
                )
                | inr apart ↦
                    let old = counted.rows y seen_y other in (
                      old.0,
                      unmoved (copy_number next seen y) row u w inodes (λ here. apart (place_of-one seen y v.child.id seen_y (places y (here ∙ sym number)))) ∙ old.1,
                      old.2 ∙ sym (zero_top y apart),
                    )
              ];
          none = λ y other. zero_top y (λ same. both_ways (is_among seen y) other (ap (is_among seen) same ∙ among)) ∙ counted.none y other;
          source = counted.source;
          first = counted.first;
          source_row =
              unmoved next row u w inodes
              (λ here. not_top (sym (place_of-one seen top.id v.child.id counted.source (places top.id (counted.first ∙ here ∙ sym number))))) ∙ counted.source_row;
        }
      where
        places : (y : ℕ) → copy_number next seen y ≡ id → place_of y seen ≡ place_of v.child.id seen
        places y same = omega (arith, same)

    counted_first : is_among seen v.child.id ≡ false → AreCounted next now top (seen ++ v.child.id ∷ []) (done ++ v ∷ []) w
    counted_first new =
        let row : Inode = copied_row id now v.child in
        let place : place_of v.child.id seen ≡ length seen = place_none seen v.child.id new in
        let last : place_of v.child.id (seen ++ v.child.id ∷ []) ≡ length seen = place_last seen v.child.id new in
        let inodes : w.inodes ≡ put by_inode row u.inodes =
        visit_inodes told next now seen v u ∙ ap (λ b. (tables_after (child_copied b told id now v.child u) u).inodes) new ∙ node_inodes told id now v.child u in
        record {
          rows = λ y seen_y other.
              elim (cases_eq y v.child.id) [
                | inl same ↦ (
                  row,
                  ap (λ z. inode_at w (copy_number next (seen ++ v.child.id ∷ []) z)) same ∙ ap (λ n. inode_at w (next + n)) (last ∙ sym place) ∙ moved row u w inodes,
                  sym (one_more y same ∙ ap (λ z. times done z + 1) same ∙ ap (λ n. n + 1) (counted.none v.child.id new)),
                )
                | inr apart ↦
                    let old_y : is_among seen y ≡ true = seen_before y apart seen_y in
                    let old = counted.rows y old_y other in (
                      old.0,
                      ap (λ n. inode_at w (next + n)) (place_stays seen (v.child.id ∷ []) y old_y)
                          ∙ unmoved (copy_number next seen y) row u w inodes (λ here. far y old_y here place) ∙ old.1,
                      old.2 ∙ sym (zero_top y apart),
                    )
              ];
          none = λ y other.
              let parts = or_parts (is_among seen y) (v.child.id == y) (sym (among_last seen v.child.id y) ∙ other) in
              zero_top y (λ same. both_ways (v.child.id == y) parts.1 (eq-eqb v.child.id y (sym same))) ∙ counted.none y parts.0;
          source = among_first seen (v.child.id ∷ []) top.id counted.source;
          first = ap (λ n. next + n) (place_stays seen (v.child.id ∷ []) top.id counted.source) ∙ counted.first;
          source_row = unmoved next row u w inodes (λ here. far top.id counted.source (counted.first ∙ here) place) ∙ counted.source_row;
        }
      where
        seen_before : (y : ℕ) → y ≢ v.child.id → is_among (seen ++ v.child.id ∷ []) y ≡ true → is_among seen y ≡ true
        seen_before y apart among =
            elim (or_cases (is_among seen y) (v.child.id == y) (sym (among_last seen v.child.id y) ∙ among)) [
              | inl old ↦ old
              | inr here ↦ absurd (apart (sym (eqb-true v.child.id y here)))
            ]

        far : (y : ℕ) → is_among seen y ≡ true → copy_number next seen y ≡ id → place_of v.child.id seen ≡ length seen → ⊥
        far y among here place = omega (arith, here, place, place_within seen y among)

    pub counted_more : AreCounted next now top (seen_after seen v) (done ++ v ∷ []) (tables_after (visit_copied told next now seen v u) u)
    counted_more = by_case (is_among seen v.child.id) refl
      where
        by_case : (b : Bool) → is_among seen v.child.id ≡ b → AreCounted next now top (cond b seen (seen ++ v.child.id ∷ [])) (done ++ v ∷ []) w
        by_case true among = counted_again among
        by_case false new = counted_first new

  pub counted_all : (visits : List Visit) (seen : List ℕ) (done : List Visit) (u : Tables) → AreVisits told seen done visits
      → ((w : Visit) (s : List ℕ) → IsVisit told s w → ((x : ℕ) → is_among s x ≡ true → is_among (all_seen seen visits) x ≡ true) → w.child.id ≢ top.id)
      → AreCounted next now top seen done u → AreCounted next now top (all_seen seen visits) (done ++ visits) (tables_after (visits_copied told next now seen visits u) u)
  counted_all [] seen done u are apart counted = subst (λ (ds : List Visit). AreCounted next now top seen ds u) (sym (nil done)) counted
    where
      nil : (ds : List Visit) → ds ++ [] ≡ ds
      nil [] = refl
      nil (d ∷ ds) = ap (λ xs. d ∷ xs) (nil ds)
  counted_all (v ∷ visits) seen done u are apart counted =
      let one : List Change = visit_copied told next now seen v u in
      let rest =
      counted_all visits (seen_after seen v) (done ++ v ∷ []) (tables_after one u) are.2 apart
      (counted_more seen done u counted v (apart v seen are.0 (λ x among. grows (v ∷ visits) seen x among))) in
      subst (λ (x : Tables). AreCounted next now top (all_seen seen (v ∷ visits)) (done ++ v ∷ visits) x)
      (tables_after-tables_after one (visits_copied told next now (seen_after seen v) visits (tables_after one u)) u)
      (subst (λ (ds : List Visit). AreCounted next now top (all_seen seen (v ∷ visits)) ds (tables_after (visits_copied told next now (seen_after seen v) visits (tables_after one u)) (tables_after one u)))
      (append_assoc done (v ∷ []) visits) rest)
    where
      after : (s : List ℕ) (w : Visit) (x : ℕ) → is_among s x ≡ true → is_among (seen_after s w) x ≡ true
      after s w x among = by_case (is_among s w.child.id)
        where
          by_case : (b : Bool) → is_among (cond b s (s ++ w.child.id ∷ [])) x ≡ true
          by_case true = among
          by_case false = among_first s (w.child.id ∷ []) x among

      grows : (ws : List Visit) (s : List ℕ) (x : ℕ) → is_among s x ≡ true → is_among (all_seen s ws) x ≡ true
      grows [] s x among = among
      grows (w ∷ ws) s x among = grows ws (seen_after s w) x (after s w x among)
