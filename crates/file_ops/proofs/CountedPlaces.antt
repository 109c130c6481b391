-- What the counts of places make of tables.
use Rattle.std.proofs.Common.{◌≡◌, ℕ, ◌+◌, ◌≤◌, ◌<◌, ◌^◌, List, [], ◌∷◌, ◌++◌, Bool, true, false, cond, Option, None, Some, refl, sym, ap, ◌∙◌, subst, arith, eqb-true}
use Rattle.std.specs.Prelude.{IsTrue, is_some, nat_lt, not, option_map}
use Rattle.std.specs.List.{list_all}
use Rattle.std.specs.Ordering.{is_eq, nat_cmp}
use Rattle.std.proofs.lemmas.Bool.Decides.{nat_tests}
use Rattle.std.proofs.lemmas.Cmp.{nat_cmp_total}
use Rattle.s3_rows.specs.declared.change.Change.{Change}
use Rattle.s3_rows.specs.declared.change.Change.TheVariants as changes
use Rattle.s3_rows.specs.declared.digest.Digest.{Digest}
use Rattle.s3_rows.specs.Rows.{Block, Object, Parameters}
use Rattle.s3_rows.specs.Keyed.{put}
use Rattle.s3_rows.specs.Tables.{Tables, IsOrdered, by_block, by_object}
use Rattle.s3_rows.specs.Batches.{tables_after}
use Rattle.s3_rows.specs.Selections.{block_at, block_of_digest, bytes_cmp, object_at}
use Rattle.row_lemmas.proofs.Tests.{false_from_not, find_none, find_passes, is_eq-nat_cmp, list_all_from_find}
use Rattle.row_lemmas.proofs.Keyed.Put.{list_all-put, row_at-put_other}
use Rattle.row_lemmas.proofs.Keyed.RowAt.{row_at_from_find, row_at_key, row_at_passes}
use Rattle.tree_rows.specs.Spots.{form_at, form_of_row}
use Rattle.core_model.specs.Safe.{new_object}
use Rattle.ref_counts.specs.Links.{counted_block, AreRowsOf}
use Rattle.block_steps.specs.Owed.{KeepsNames, OwesPlaces}
use Rattle.block_steps.specs.Places.{block_drawn, block_made}
use Rattle.file_ops.specs.declared.place.Place.{Place}
use Rattle.file_ops.specs.declared.place.Place.TheVariants as places
use Rattle.file_ops.specs.Placed.{with_next_block}
use Rattle.file_ops.specs.Resolved.{new_with}

-- ---- words

-- the row of a place is there, with its form
abbrev pub HasForm : Tables → Place → Type 0
HasForm u places.Zeros = Unit {0}
HasForm u (places.Known r) = option_map form_of_row (block_at u r.id) ≡ Some (form_of_row r)
HasForm u (places.New r) = option_map form_of_row (block_at u r.id) ≡ Some (form_of_row r)

abbrev pub HaveForms : Tables → List Place → Type 0
HaveForms u [] = Unit {0}
HaveForms u (x ∷ xs) = HasForm u x × HaveForms u xs

-- Tables between the tables before and those in which all places are counted: some are counted, whose blocks are owed. Of t the
-- blocks are those before, and objects up to the last are drawn.
pub record AreCounting (t u0 : Tables) (p : Parameters) (last : ℕ) (before : List Place) (block object : ℕ) (u : Tables) (ids : List ℕ) : Type 0 where
  pub owes : OwesPlaces u (with_next_block block p) ids
  pub names : KeepsNames u0 u
  pub spots : (inode blockno : ℕ) → form_at u inode blockno ≡ form_at u0 inode blockno
  pub old : (r : Block) → block_at t r.id ≡ Some r → option_map form_of_row (block_at u r.id) ≡ Some (form_of_row r)
  pub counted : HaveForms u before
  pub free : (d : Digest) → block_of_digest t d ≡ None → new_with d before ≡ None → block_of_digest u d ≡ None
  pub objects : (o : ℕ) → object ≤ o → o < last → object_at u o ≡ Some (new_object o)

-- the laws of counts of blocks
pub record CountLaws : Type 0 where
  pub counted_owes : (t : Tables) (p : Parameters) (b : Block) (blocks : List ℕ) (more : List Change) → OwesPlaces t p blocks → block_at t b.id ≡ Some b
      → counted_block (Some b) ≡ Some more → OwesPlaces (tables_after more t) p (b.id ∷ blocks)
  pub made_owes : (t : Tables) (p : Parameters) (object size : ℕ) (digest : Digest) (blocks : List ℕ) → OwesPlaces t p blocks → object_at t object ≡ Some (new_object object)
      → block_of_digest t digest ≡ None → size ≤ p.block_size → OwesPlaces (tables_after (block_made p object digest size) t) (block_drawn p) (p.next_block ∷ blocks)
  pub joined : (t middle after : Tables) → KeepsNames t middle → KeepsNames middle after → KeepsNames t after
  pub counted_names : (t : Tables) (b : Block) (more : List Change) → counted_block (Some b) ≡ Some more → KeepsNames t (tables_after more t)
  pub made_names : (t : Tables) (p : Parameters) (object size : ℕ) (digest : Digest) → t.params ≡ Some p → KeepsNames t (tables_after (block_made p object digest size) t)
  pub counted_rows : (t : Tables) (b : Block) (more : List Change) → block_at t b.id ≡ Some b → counted_block (Some b) ≡ Some more → AreRowsOf t (tables_after more t)
  pub counted_spots : (t : Tables) (b : Block) (more : List Change) (inode blockno : ℕ) → block_at t b.id ≡ Some b → counted_block (Some b) ≡ Some more
      → form_at (tables_after more t) inode blockno ≡ form_at t inode blockno
  pub counted_forms : (t : Tables) (b : Block) (more : List Change) (id : ℕ) → block_at t b.id ≡ Some b → counted_block (Some b) ≡ Some more
      → option_map form_of_row (block_at (tables_after more t) id) ≡ option_map form_of_row (block_at t id)
  pub made_own : (t : Tables) (p : Parameters) (object size : ℕ) (digest : Digest)
      → option_map form_of_row (block_at (tables_after (block_made p object digest size) t) p.next_block) ≡ Some (digest.0, size)
  pub made_spots : (t : Tables) (p : Parameters) (object size inode blockno : ℕ) (digest : Digest) (blocks : List ℕ) → OwesPlaces t p blocks
      → form_at (tables_after (block_made p object digest size) t) inode blockno ≡ form_at t inode blockno
  pub made_forms : (t : Tables) (p : Parameters) (object size id : ℕ) (digest : Digest) (blocks : List ℕ) → OwesPlaces t p blocks → IsTrue (is_some (block_at t id))
      → option_map form_of_row (block_at (tables_after (block_made p object digest size) t) id) ≡ option_map form_of_row (block_at t id)

-- ---- forms

HasForm-same : (u v : Tables) → ((id : ℕ) → IsTrue (is_some (block_at u id)) → option_map form_of_row (block_at v id) ≡ option_map form_of_row (block_at u id)) → (x : Place) → HasForm u x → HasForm v x
HasForm-same u v same places.Zeros form = tt
HasForm-same u v same (places.Known r) form = same r.id (there (block_at u r.id) form) ∙ form
  where
    there : (o : Option Block) → option_map form_of_row o ≡ Some (form_of_row r) → IsTrue (is_some o)
    there None is = absurd (cc is)
    there (Some b) is = refl
HasForm-same u v same (places.New r) form = same r.id (there (block_at u r.id) form) ∙ form
  where
    there : (o : Option Block) → option_map form_of_row o ≡ Some (form_of_row r) → IsTrue (is_some o)
    there None is = absurd (cc is)
    there (Some b) is = refl

HaveForms-same : (u v : Tables) → ((id : ℕ) → IsTrue (is_some (block_at u id)) → option_map form_of_row (block_at v id) ≡ option_map form_of_row (block_at u id)) → (xs : List Place) → HaveForms u xs → HaveForms v xs
HaveForms-same u v same [] forms = tt
HaveForms-same u v same (x ∷ xs) forms = (HasForm-same u v same x forms.0, HaveForms-same u v same xs forms.1)

HaveForms-push : (u : Tables) (xs : List Place) (x : Place) → HaveForms u xs → HasForm u x → HaveForms u (xs ++ x ∷ [])
HaveForms-push u [] x forms form = (form, tt)
HaveForms-push u (y ∷ ys) x forms form = (forms.0, HaveForms-push u ys x forms.1 form)

-- a new block that is found is among the places
pub HaveForms-new_with : (u : Tables) (xs : List Place) (d : Digest) (r : Block) → HaveForms u xs → new_with d xs ≡ Some r → HasForm u (places.Known r)
HaveForms-new_with u [] d r forms is = absurd (cc is)
HaveForms-new_with u (places.Zeros ∷ xs) d r forms is = HaveForms-new_with u xs d r forms.1 is
HaveForms-new_with u (places.Known x ∷ xs) d r forms is = HaveForms-new_with u xs d r forms.1 is
HaveForms-new_with u (places.New x ∷ xs) d r forms is = by_case (is_eq (bytes_cmp x.digest.0 d.0)) is (HaveForms-new_with u xs d r forms.1)
  where
    by_case : (b : Bool) → cond b (Some x) (new_with d xs) ≡ Some r → (new_with d xs ≡ Some r → HasForm u (places.Known r)) → HasForm u (places.Known r)
    by_case true found others = let same : x ≡ r = cc found in subst (λ (y : Block). HasForm u (places.Known y)) same forms.0
    by_case false found others = others found

-- ---- new_with

new_with-front : (d : Digest) (xs : List Place) (x : Place) → new_with d (xs ++ x ∷ []) ≡ None → new_with d xs ≡ None
new_with-front d [] x none = refl
new_with-front d (places.Zeros ∷ xs) x none = new_with-front d xs x none
new_with-front d (places.Known r ∷ xs) x none = new_with-front d xs x none
new_with-front d (places.New r ∷ xs) x none = by_case (is_eq (bytes_cmp r.digest.0 d.0)) none (new_with-front d xs x)
  where
    by_case : (b : Bool) → cond b (Some r) (new_with d (xs ++ x ∷ [])) ≡ None → (new_with d (xs ++ x ∷ []) ≡ None → new_with d xs ≡ None) → cond b (Some r) (new_with d xs) ≡ None
    by_case true is others = absurd (cc is)
    by_case false is others = others is

new_with-last : (d : Digest) (xs : List Place) (r : Block) → new_with d (xs ++ places.New r ∷ []) ≡ None → is_eq (bytes_cmp r.digest.0 d.0) ≡ false
new_with-last d [] r none = by_case (is_eq (bytes_cmp r.digest.0 d.0)) none
  where
    by_case : (b : Bool) → cond b (Some r) None ≡ None → b ≡ false
    by_case true is = absurd (cc is)
    by_case false is = refl
new_with-last d (places.Zeros ∷ xs) r none = new_with-last d xs r none
new_with-last d (places.Known x ∷ xs) r none = new_with-last d xs r none
new_with-last d (places.New x ∷ xs) r none = by_case (is_eq (bytes_cmp x.digest.0 d.0)) none (new_with-last d xs r)
  where
    by_case : (b : Bool) → cond b (Some x) (new_with d (xs ++ places.New r ∷ [])) ≡ None → (new_with d (xs ++ places.New r ∷ []) ≡ None → is_eq (bytes_cmp r.digest.0 d.0) ≡ false) → is_eq (bytes_cmp r.digest.0 d.0) ≡ false
    by_case true is others = absurd (cc is)
    by_case false is others = others is

-- ---- block_of_digest

-- where each row is one that was there, no digest comes
free_kept : (u v : Tables) (d : Digest) → IsOrdered v → AreRowsOf u v → block_of_digest u d ≡ None → block_of_digest v d ≡ None
free_kept u v d o rows none = by_case (block_of_digest v d) refl
  where
    by_case : (found : Option Block) → block_of_digest v d ≡ found → found ≡ None
    by_case None is = refl
    by_case (Some x) is =
        let at : block_at v x.id ≡ Some x = row_at_from_find by_block nat_cmp_total (λ (r : Block). is_eq (bytes_cmp r.digest.0 d.0)) v.blocks x o.blocks is in
        let was = rows x.id x at in
        let passes : IsTrue (is_eq (bytes_cmp x.digest.0 d.0)) = find_passes (λ (r : Block). is_eq (bytes_cmp r.digest.0 d.0)) v.blocks x is in
        let fails : IsTrue (not (is_eq (bytes_cmp was.0.digest.0 d.0))) =
        row_at_passes by_block (λ (r : Block). not (is_eq (bytes_cmp r.digest.0 d.0))) x.id u.blocks was.0 (list_all_from_find (λ (r : Block). is_eq (bytes_cmp r.digest.0 d.0)) u.blocks none) was.1 in
        let same : is_eq (bytes_cmp was.0.digest.0 d.0) ≡ true = ap (λ (e : Digest). is_eq (bytes_cmp e.0 d.0)) (sym was.2) ∙ passes in
        let clash : not true ≡ true = sym (ap not same) ∙ fails in
        absurd (cc clash)

free_put : (r : Block) (rows : List Block) (d : Digest) (u v : Tables) → u.blocks ≡ rows → v.blocks ≡ put by_block r rows → is_eq (bytes_cmp r.digest.0 d.0) ≡ false
    → block_of_digest u d ≡ None → block_of_digest v d ≡ None
free_put r rows d u v before after other none =
    let test = λ (x : Block). is_eq (bytes_cmp x.digest.0 d.0) in
    let all : IsTrue (list_all (λ (x : Block). not (is_eq (bytes_cmp x.digest.0 d.0))) u.blocks) = list_all_from_find test u.blocks none in
    let all_before : IsTrue (list_all (λ (x : Block). not (is_eq (bytes_cmp x.digest.0 d.0))) rows) = subst (λ (l : List Block). IsTrue (list_all (λ (x : Block). not (is_eq (bytes_cmp x.digest.0 d.0))) l)) before all in
    let all_after : IsTrue (list_all (λ (x : Block). not (is_eq (bytes_cmp x.digest.0 d.0))) v.blocks) =
    subst (λ (l : List Block). IsTrue (list_all (λ (x : Block). not (is_eq (bytes_cmp x.digest.0 d.0))) l)) (sym after)
    (list_all-put by_block (λ (x : Block). not (is_eq (bytes_cmp x.digest.0 d.0))) r rows (ap not other) all_before) in
    find_none test (λ (x : Block). not (is_eq (bytes_cmp x.digest.0 d.0))) (λ x is. false_from_not (is_eq (bytes_cmp x.digest.0 d.0)) is) v.blocks all_after

-- ---- steps

counted_objects : (u : Tables) (b : Block) (more : List Change) → counted_block (Some b) ≡ Some more → (tables_after more u).objects ≡ u.objects
counted_objects u b more is = by_case (nat_lt (b.refcount + 1) (2 ^ 62)) is
  where
    by_case : (k : Bool) → cond k (Some (changes.PutBlock (record b { refcount = b.refcount + 1 }) ∷ [])) None ≡ Some more → (tables_after more u).objects ≡ u.objects
    by_case true made = let same : changes.PutBlock (record b { refcount = b.refcount + 1 }) ∷ [] ≡ more = cc made in ap (λ (cs : List Change). (tables_after cs u).objects) (sym same)
    by_case false made = absurd (cc made)

module _ (laws : CountLaws) where
  module _ (t u0 : Tables) (p : Parameters) (last : ℕ) (before : List Place) (block object : ℕ) (u : Tables) (ids : List ℕ) (c : AreCounting t u0 p last before block object u ids) where
    -- a block of zeros
    pub counting_zeros : AreCounting t u0 p last (before ++ places.Zeros ∷ []) block object u ids
    counting_zeros = record {
      owes = c.owes;
      names = c.names;
      spots = c.spots;
      old = c.old;
      objects = c.objects;
      counted = HaveForms-push u before places.Zeros c.counted tt;
      free = λ d absent none. c.free d absent (new_with-front d before places.Zeros none);
    }

    -- one place more of a block that has a row
    pub counting_known : (r : Block) (more : List Change) → HasForm u (places.Known r) → counted_block (block_at u r.id) ≡ Some more
        → AreCounting t u0 p last (before ++ places.Known r ∷ []) block object (tables_after more u) (r.id ∷ ids)
    counting_known r more form counts = by_case (block_at u r.id) refl
      where
        by_row : (b : Block) → block_at u r.id ≡ Some b → r.id ≡ b.id → AreCounting t u0 p last (before ++ places.Known r ∷ []) block object (tables_after more u) (r.id ∷ ids)
        by_row b at own =
            let here : block_at u b.id ≡ Some b = ap (block_at u) (sym own) ∙ at in
            let is : counted_block (Some b) ≡ Some more = ap counted_block (sym at) ∙ counts in
            let after = tables_after more u in
            let owes : OwesPlaces after (with_next_block block p) (b.id ∷ ids) = laws.counted_owes u (with_next_block block p) b ids more c.owes here is in
            record {
              owes = subst (λ (id : ℕ). OwesPlaces after (with_next_block block p) (id ∷ ids)) (sym own) owes;
              names = laws.joined u0 u after c.names (laws.counted_names u b more is);
              spots = λ inode blockno. laws.counted_spots u b more inode blockno here is ∙ c.spots inode blockno;
              old = λ x there. laws.counted_forms u b more x.id here is ∙ c.old x there;
              counted =
                  HaveForms-push after before (places.Known r) (HaveForms-same u after (λ id there. laws.counted_forms u b more id here is) before c.counted)
                  (laws.counted_forms u b more r.id here is ∙ form);
              free =
                  λ d absent none.
                  free_kept u after d owes.ordered (laws.counted_rows u b more here is) (c.free d absent (new_with-front d before (places.Known r) none));
              objects =
                  λ o low high. ap (λ (rows : List Object). object_at (record u { objects = rows }) o) (counted_objects u b more is) ∙ c.objects o low high;
            }

        by_case : (found : Option Block) → block_at u r.id ≡ found → AreCounting t u0 p last (before ++ places.Known r ∷ []) block object (tables_after more u) (r.id ∷ ids)
        by_case None at = let clash : None ≡ Some (form_of_row r) = ap (option_map form_of_row) (sym at) ∙ form in absurd (cc clash)
        by_case (Some b) at =
            by_row b at (eqb-true r.id b.id (sym (is_eq-nat_cmp r.id b.id) ∙ ap is_eq (row_at_key by_block r.id u.blocks b at)))

    -- a block that comes
    pub counting_new : (d : Digest) (size : ℕ) → block_of_digest t d ≡ None → new_with d before ≡ None → size ≤ p.block_size → object < last
        → AreCounting t u0 p last (before ++ places.New (record { id = block; digest = d; refcount = 1; size = size; object = object }) ∷ []) (block + 1) (object + 1)
        (tables_after (block_made (with_next_block block p) object d size) u) (block ∷ ids)
    counting_new d size absent none within room =
        let q = with_next_block block p in
        let after = tables_after (block_made q object d size) u in
        let r : Block = record { id = block; digest = d; refcount = 1; size = size; object = object } in
        record {
          owes = laws.made_owes u q object size d ids c.owes (c.objects object (omega arith) room) (c.free d absent none) within;
          names = laws.joined u0 u after c.names (laws.made_names u q object size d c.owes.made);
          spots = λ inode blockno. laws.made_spots u q object size inode blockno d ids c.owes ∙ c.spots inode blockno;
          old = λ x there. laws.made_forms u q object size x.id d ids c.owes (there_from (block_at u x.id) x (c.old x there)) ∙ c.old x there;
          counted =
              HaveForms-push after before (places.New r) (HaveForms-same u after (λ id there. laws.made_forms u q object size id d ids c.owes there) before c.counted)
              (laws.made_own u q object size d);
          free =
              λ e gone unlike.
              free_put r u.blocks e u after refl refl (new_with-last e before r unlike) (c.free e gone (new_with-front e before (places.New r) unlike));
          objects =
              λ o low high.
              row_at-put_other by_object nat_cmp_total o (record { id = object; refcount = 1; size = Some size }) u.objects (apart o low)
              ∙ c.objects o (omega arith) high;
        }
      where
        there_from : (o : Option Block) (x : Block) → option_map form_of_row o ≡ Some (form_of_row x) → IsTrue (is_some o)
        there_from None x is = absurd (cc is)
        there_from (Some b) x is = refl

        apart : (o : ℕ) → object + 1 ≤ o → is_eq (nat_cmp o object) ≡ false
        apart o low = is_eq-nat_cmp o object ∙ grind (arith, nat_tests)
