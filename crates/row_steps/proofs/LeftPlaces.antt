-- Nameless files that go with the last handles of a pass, after the places of all of them.
use Rattle.std.proofs.Common.{◌≡◌, ℕ, List, [], ◌∷◌, ◌++◌, Bool, true, false, Option, None, Some, refl, sym, ap, ◌∙◌, subst, arith, eqb-true, eq-eqb}
use Rattle.std.specs.Prelude.{IsTrue, not, ◌&&◌, ◌||◌, ◌==◌, filter, is_some, nat_le}
use Rattle.std.specs.List.{list_all, list_any}
use Rattle.std.specs.Ordering.{is_eq}
use Rattle.std.proofs.lemmas.Bool.{and_parts, and_from}
use Rattle.std.proofs.lemmas.Bool.Decides.{nat_tests}
use Rattle.op_frames.specs.declared.operation.Op.TheVariants as ops
use Rattle.plain_tree.specs.Tree.{Handle, Tree}
use Rattle.plain_tree.specs.Below.{is_among}
use Rattle.plain_tree.specs.Entries.{lives}
use Rattle.plain_tree.specs.Operations.{effect}
use Rattle.plain_tree.specs.WellFormed.{IsWellFormed}
use Rattle.s3_rows.specs.Rows.{Content, Inode, InodeBlock, Parameters, Slot}
use Rattle.s3_rows.specs.Keyed.{has_key, pair_cmp}
use Rattle.s3_rows.specs.Tables.{Tables, by_inode, by_spot}
use Rattle.s3_rows.specs.Batches.{tables_after}
use Rattle.s3_rows.specs.Selections.{inode_at}
use Rattle.s3_rows.specs.Validity.{IsValid, HasUniqueNames, differ}
use Rattle.row_lemmas.proofs.Tests.{false_from_not, find_passes_all, list_all-filter_same, list_all_weaker}
use Rattle.row_lemmas.proofs.Tables.{pair_cmp_total, tables_after-tables_after}
use Rattle.tree_rows.specs.Shapes.{Represents}
use Rattle.tree_rows.specs.Spots.{form_at}
use Rattle.tree_rows.proofs.Whole.{number_of}
use Rattle.ref_counts.specs.Links.{is_place_from, places_dropped, places_from, places_of}
use Rattle.ref_counts.specs.Plans.{IsStep}
use Rattle.ref_counts.specs.Removals.{removals}
use Rattle.block_steps.proofs.DebtsTables.{OwesPlaces-IsValid}
use Rattle.block_steps.proofs.DroppedPlaces.{IsValid-places_dropped, form_at-places_dropped, inode_blocks-places_dropped, is_one_of, is_one_of-filter, list_all-without_all, params-places_dropped}
use Rattle.block_steps.proofs.KeptNames.{HasUniqueNames-KeepsNames, Represents-KeepsNames}
use Rattle.block_steps.proofs.RelinkedForms.{is_eq-pair_cmp_other}
use Rattle.row_steps.specs.Owed.{IsBare}
use Rattle.row_steps.specs.RowChanges.{leaving}
use Rattle.row_steps.proofs.LeftFiles.{IsSwept, bare_files_step, swept_files}
use Rattle.row_steps.proofs.WithPlaces.{IsStep-cleared, cleared, inode_at-cleared, names-cleared, removals-cleared}

list_all-append : {R : Type 0} (p : R → Bool) (xs ys : List R) → IsTrue (list_all p xs) → IsTrue (list_all p ys) → IsTrue (list_all p (xs ++ ys))
list_all-append p [] ys one two = two
list_all-append p (x ∷ xs) ys one two =
    let parts = and_parts (p x) (list_all p xs) one in
    and_from (p x) (list_all p (xs ++ ys)) parts.0 (list_all-append p xs ys parts.1 two)

list_any-append : {R : Type 0} (p : R → Bool) (xs ys : List R) → list_any p (xs ++ ys) ≡ (list_any p xs || list_any p ys)
list_any-append p [] ys = refl
list_any-append p (x ∷ xs) ys = by_case (p x) (list_any-append p xs ys)
  where
    by_case : (b : Bool) → list_any p (xs ++ ys) ≡ (list_any p xs || list_any p ys) → (b || list_any p (xs ++ ys)) ≡ ((b || list_any p xs) || list_any p ys)
    by_case true others = refl
    by_case false others = others

none_among : (x : ℕ) (xs : List ℕ) → is_among xs x ≡ false → IsTrue (list_all (λ y. not (y == x)) xs)
none_among x [] is = refl
none_among x (y ∷ ys) is = by_case (y == x) (none_among x ys) is
  where
    by_case : (b : Bool) → (is_among ys x ≡ false → IsTrue (list_all (λ z. not (z == x)) ys)) → (b || is_among ys x) ≡ false → IsTrue (not b && list_all (λ z. not (z == x)) ys)
    by_case true others listed = absurd (cc listed)
    by_case false others listed = others listed

module _ (t : Tables) where
  -- places of some files are of these files
  list_all-places_of : (p : ℕ → Bool) (inodes : List ℕ) → IsTrue (list_all p inodes) → IsTrue (list_all (λ (r : InodeBlock). p r.inode) (places_of t inodes))
  list_all-places_of p [] all = refl
  list_all-places_of p (x ∷ xs) all =
      let parts = and_parts (p x) (list_all p xs) all in
      list_all-append (λ (r : InodeBlock). p r.inode) (places_from t x 0) (places_of t xs)
      (list_all_weaker (is_place_from x 0) (λ (r : InodeBlock). p r.inode)
      (λ r own. ap p (eqb-true r.inode x (and_parts (r.inode == x) (nat_le 0 r.blockno) own).0) ∙ parts.0) (places_from t x 0) (list_all-filter_same (is_place_from x 0) t.inode_blocks))
      (list_all-places_of p xs parts.1)

  -- the places of one of the files are among those of all
  is_one_of-places_of : (inodes : List ℕ) (x : ℕ) (r : InodeBlock) → IsTrue (is_among inodes x) → IsTrue (is_one_of by_spot (places_from t x 0) r) → IsTrue (is_one_of by_spot (places_of t inodes) r)
  is_one_of-places_of [] x r among own = absurd (cc among)
  is_one_of-places_of (y ∷ ys) x r among own =
      list_any-append (λ (l : InodeBlock). has_key by_spot (l.inode, l.blockno) r) (places_from t y 0) (places_of t ys) ∙ by_case (y == x) refl (λ listed. is_one_of-places_of ys x r listed own) among
    where
      either : (a b : Bool) → IsTrue a → IsTrue (a || b)
      either true b is = refl
      either false b is = absurd (cc is)

      other : (a b : Bool) → IsTrue b → IsTrue (a || b)
      other true b is = refl
      other false b is = is

      by_case : (b : Bool) → (y == x) ≡ b → (IsTrue (is_among ys x) → IsTrue (is_one_of by_spot (places_of t ys) r)) → IsTrue (b || is_among ys x) → IsTrue (is_one_of by_spot (places_from t y 0) r || is_one_of by_spot (places_of t ys) r)
      by_case true same others listed =
          either (is_one_of by_spot (places_from t y 0) r) (is_one_of by_spot (places_of t ys) r)
          (subst (λ (z : ℕ). IsTrue (is_one_of by_spot (places_from t z 0) r)) (sym (eqb-true y x same)) own)
      by_case false apart others listed = other (is_one_of by_spot (places_from t y 0) r) (is_one_of by_spot (places_of t ys) r) (others listed)

  module _ (inodes : List ℕ) where
    -- none of them is left
    none_left : (x : ℕ) → IsTrue (is_among inodes x) → IsTrue (list_all (λ (r : InodeBlock). not (r.inode == x)) (cleared t (places_of t inodes)).inode_blocks)
    none_left x among =
        subst (λ (rows : List InodeBlock). IsTrue (list_all (λ (r : InodeBlock). not (r.inode == x)) rows)) (sym (inode_blocks-places_dropped (places_of t inodes) t))
        (list_all-without_all by_spot (λ (r : InodeBlock). not (r.inode == x)) (places_of t inodes) t.inode_blocks
        (list_all_weaker (λ (r : InodeBlock). not (is_place_from x 0 r) || is_one_of by_spot (places_from t x 0) r)
        (λ (r : InodeBlock). not (r.inode == x) || is_one_of by_spot (places_of t inodes) r)
        (λ r. either (r.inode == x) (nat_le 0 r.blockno) (grind (arith, nat_tests)) (is_one_of by_spot (places_from t x 0) r) (is_one_of by_spot (places_of t inodes) r)
        (is_one_of-places_of inodes x r among))
        t.inode_blocks (is_one_of-filter by_spot pair_cmp_total (is_place_from x 0) t.inode_blocks)))
      where
        either : (a b : Bool) → b ≡ true → (c d : Bool) → (IsTrue c → IsTrue d) → IsTrue (not (a && b) || c) → IsTrue (not a || d)
        either false b reached c d follows is = refl
        either true true reached c d follows is = follows is
        either true false reached c d follows is = absurd (cc reached)

    -- places of other files keep their forms
    forms_left : IsValid t → (x blockno : ℕ) → is_among inodes x ≡ false → form_at (cleared t (places_of t inodes)) x blockno ≡ form_at t x blockno
    forms_left v x blockno other =
        form_at-places_dropped v.params [] x blockno (places_of t inodes) t (OwesPlaces-IsValid t v.params v v.is_made)
        (list_all_weaker (λ (r : InodeBlock). not (r.inode == x)) (λ (r : InodeBlock). not (is_eq (pair_cmp (x, blockno) (r.inode, r.blockno))))
        (λ r apart. ap not (is_eq-pair_cmp_other (x, blockno) (r.inode, r.blockno)
        (λ same number. let clash : false ≡ true = sym (ap not (eq-eqb r.inode x (sym same))) ∙ apart in
        cc clash)))
        (places_of t inodes) (list_all-places_of (λ y. not (y == x)) inodes (none_among x inodes other)))

pub left_files_step : (t : Tables) (whole : Tree) (p : Parameters) (pass now : ℕ) (inodes : List ℕ)
    → IsValid t → HasUniqueNames t → IsWellFormed whole → Represents t whole → t.params ≡ Some p
    → ((x : ℕ) → IsTrue (is_among inodes x) → IsTrue (list_all (λ (r : Content). not (r.parent == x)) t.contents))
    → ((x : ℕ) → IsTrue (is_among inodes x) → IsTrue (list_all (λ (r : Slot). not (r.inode == x)) t.slots)) → IsTrue (differ (λ a b. b == a) inodes)
    → ((r : Inode) → inode_at t r.id ≡ Some r
    → lives (record whole { handles = filter (λ (h : ℕ × Handle). not (h.1.pass == pass)) whole.handles }) r.id ≡ not (is_among inodes r.id))
    → IsStep t (tables_after (leaving t inodes) t) (effect whole pass ops.Leave now) 0
left_files_step t whole p pass now inodes v unique well same made empty slots apart dead =
    let next : Tree = effect whole pass ops.Leave now in
    subst (λ (w : Tables). IsStep t w next 0) (sym after_is)
    (IsStep-cleared t (places_of t inodes) (tables_after (removals u inodes u) u) next 0
    (λ x blockno living. forms_left t inodes v x blockno (stays x living))
    (bare_files_step u whole p pass now inodes valid (HasUniqueNames-KeepsNames t u (names-cleared t (places_of t inodes)) unique) well
    (Represents-KeepsNames t u (names-cleared t (places_of t inodes)) whole same) made_there bare apart
    (λ r there. dead r (sym (inode_at-cleared t (places_of t inodes) r.id) ∙ there))))
  where
    u : Tables
    u = cleared t (places_of t inodes)

    valid : IsValid u
    valid = IsValid-places_dropped (places_of t inodes) t v

    made_there : u.params ≡ Some p
    made_there = params-places_dropped (places_of t inodes) t ∙ made

    after_is : tables_after (leaving t inodes) t ≡ tables_after (removals u inodes u) u
    after_is =
        sym (tables_after-tables_after (places_dropped (places_of t inodes) t) (removals t inodes u) t)
        ∙ ap (λ cs. tables_after cs u) (removals-cleared t (places_of t inodes) inodes u)

    bare : (x : ℕ) → IsTrue (is_among inodes x) → IsBare u x
    bare x among = record {
      entries = subst (λ (rows : List Content). IsTrue (list_all (λ (r : Content). not (r.parent == x)) rows)) (sym (names-cleared t (places_of t inodes)).contents) (empty x among);
      inode_blocks = none_left t inodes x among;
      slots = subst (λ (rows : List Slot). IsTrue (list_all (λ (r : Slot). not (r.inode == x)) rows)) (sym (names-cleared t (places_of t inodes)).slots) (slots x among);
    }

    swept : IsSwept u (tables_after (removals u inodes u) u) p (is_among inodes)
    swept = swept_files u p inodes valid made_there bare apart

    -- an inode that has a row is none of them
    stays : (x : ℕ) → IsTrue (is_some (inode_at (tables_after (removals u inodes u) u) x)) → is_among inodes x ≡ false
    stays x living = by_row (inode_at (tables_after (removals u inodes u) u) x) refl living
      where
        by_row : (found : Option Inode) → inode_at (tables_after (removals u inodes u) u) x ≡ found → IsTrue (is_some found) → is_among inodes x ≡ false
        by_row None is none = absurd (cc none)
        by_row (Some r) is some =
            ap (is_among inodes) (number_of (tables_after (removals u inodes u) u) x r is)
            ∙ false_from_not (is_among inodes r.id)
            (find_passes_all (has_key by_inode x) (λ (y : Inode). not (is_among inodes y.id)) (tables_after (removals u inodes u) u).inodes r
            (subst (λ (rows : List Inode). IsTrue (list_all (λ (y : Inode). not (is_among inodes y.id)) rows)) (sym swept.inodes)
            (list_all-filter_same (λ (y : Inode). not (is_among inodes y.id)) u.inodes)) is)
