-- Places of a file that name other blocks, one after the other.
use Rattle.std.proofs.Common.{◌≡◌, ℕ, inl, inr, List, [], ◌∷◌, Bool, true, false, not, Option, None, Some, IsTrue, refl, sym, ap, ◌∙◌, subst, eq-eqb}
use Rattle.std.specs.Prelude.{Contains, ◌==◌, ◌&&◌, ◌||◌, option_and_then, option_map}
use Rattle.std.specs.List.{cons_option, list_all, list_any}
use Rattle.std.specs.Ordering.{is_eq}
use Rattle.std.proofs.lemmas.Bool.{and_from, and_parts, and_right, or_left, or_parts}
use Rattle.s3_rows.specs.Rows.{Inode, Parameters}
use Rattle.s3_rows.specs.Keyed.{pair_cmp}
use Rattle.s3_rows.specs.Tables.{Tables}
use Rattle.s3_rows.specs.Batches.{tables_after}
use Rattle.s3_rows.specs.Selections.{block_at}
use Rattle.s3_rows.specs.Validity.{IsValid, differ, has_inode, is_in_file, is_regular}
use Rattle.row_lemmas.proofs.Tables.{tables_after-tables_after}
use Rattle.row_lemmas.proofs.Tests.{false_from_not}
use Rattle.tree_rows.specs.Spots.{form_at, form_of_row}
use Rattle.core_model.proofs.Elements.{Contains-none, Contains-cases}
use Rattle.ref_counts.specs.Links.{relinked}
use Rattle.block_steps.specs.Owed.{KeepsNames, OwesPlaces, is_owed}
use Rattle.block_steps.specs.Places.{Places, blocks_named, is_among_places, places_relinked}
use Rattle.block_steps.proofs.RelinkedForms.{form_at-relinked_none, form_at-relinked_other, form_at-relinked_same, form_of_row-relinked_owed, is_eq-pair_cmp_other, is_owed_first, is_owed_more}

-- ---- blocks that are owed

is_owed_cons : (new : Option ℕ) (owed : List ℕ) (id : ℕ) → IsTrue (is_owed owed id) → IsTrue (is_owed (cons_option new owed) id)
is_owed_cons None owed id owes = owes
is_owed_cons (Some first) owed id owes = is_owed_more first owed id owes

-- the block that a place names is
is_owed_named : (places : Places) (place : ℕ × Option ℕ) (id : ℕ) → Contains places place → place.1 ≡ Some id → IsTrue (is_owed (blocks_named places) id)
is_owed_named [] place id there names = absurd (Contains-none place there)
is_owed_named (first ∷ places) place id there names =
    elim (Contains-cases first places place there) [
      | inl same ↦ here first.1 (ap (λ (x : ℕ × Option ℕ). x.1) same ∙ names)
      | inr later ↦ is_owed_cons first.1 (blocks_named places) id (is_owed_named places place id later names)
    ]
  where
    here : (new : Option ℕ) → new ≡ Some id → IsTrue (is_owed (cons_option new (blocks_named places)) id)
    here None is = absurd (cc is)
    here (Some block) is =
        let same : block ≡ id = cc is in
        subst (λ n. IsTrue (is_owed (block ∷ blocks_named places) n)) same (is_owed_first block (blocks_named places))

-- ---- one place

-- it has the form of its block from then on
form_at-relinked : (t : Tables) (p : Parameters) (inode number : ℕ) (new : Option ℕ) (owed : List ℕ) → OwesPlaces t p (cons_option new owed)
    → form_at (tables_after (relinked t inode number new) t) inode number ≡ option_and_then (λ id. option_map form_of_row (block_at t id)) new
form_at-relinked t p inode number None owed o = form_at-relinked_none t inode number
form_at-relinked t p inode number (Some block) owed o = form_at-relinked_same t p (block ∷ owed) o inode number block (is_owed_first block owed)

-- another place is not the first, nor one of the others
module _ (inode : ℕ) (place : ℕ × Option ℕ) (places : Places) (other number : ℕ) (apart : is_among_places inode (place ∷ places) other number ≡ false) where
  apart_from_first : is_eq (pair_cmp (other, number) (inode, place.0)) ≡ false
  apart_from_first =
      is_eq-pair_cmp_other (other, number) (inode, place.0)
      (λ first second.
      let all : (other == inode && (place.0 == number || list_any (λ (x : ℕ × Option ℕ). x.0 == number) places)) ≡ true =
      and_from (other == inode) (place.0 == number || list_any (λ (x : ℕ × Option ℕ). x.0 == number) places) (eq-eqb other inode first)
      (or_left (place.0 == number) (list_any (λ (x : ℕ × Option ℕ). x.0 == number) places) (eq-eqb place.0 number (sym second))) in
      let clash : true ≡ false = sym all ∙ apart in
      cc clash)

  apart_from_rest : is_among_places inode places other number ≡ false
  apart_from_rest = by_test (other == inode) (place.0 == number) (list_any (λ (x : ℕ × Option ℕ). x.0 == number) places) apart
    where
      by_test : (a b c : Bool) → (a && (b || c)) ≡ false → (a && c) ≡ false
      by_test true b c is = (or_parts b c is).1
      by_test false b c is = refl

-- ---- what holds of tables before places of a file name the blocks that are owed

pub record AreOwed (t : Tables) (p : Parameters) (inode : ℕ) (places : Places) : Type 0 where
  pub owes : OwesPlaces t p (blocks_named places)
  pub regular : IsTrue (has_inode is_regular t inode)
  pub within : IsTrue (list_all (λ (place : ℕ × Option ℕ). is_in_file t p inode place.0) places)

module _ (pays_put : (t : Tables) (p : Parameters) (inode blockno block : ℕ) (blocks : List ℕ) → OwesPlaces t p (block ∷ blocks) → IsTrue (has_inode is_regular t inode)
    → IsTrue (is_in_file t p inode blockno) → OwesPlaces (tables_after (relinked t inode blockno (Some block)) t) p blocks)
    (pays_none : (t : Tables) (p : Parameters) (inode blockno : ℕ) (blocks : List ℕ) → OwesPlaces t p blocks
    → OwesPlaces (tables_after (relinked t inode blockno None) t) p blocks)
    (keeps : (t : Tables) (inode blockno : ℕ) (block : Option ℕ) → KeepsNames t (tables_after (relinked t inode blockno block) t)) where
  -- one place pays
  pays : (t : Tables) (p : Parameters) (inode number : ℕ) (new : Option ℕ) (owed : List ℕ) → OwesPlaces t p (cons_option new owed) → IsTrue (has_inode is_regular t inode)
      → IsTrue (is_in_file t p inode number) → OwesPlaces (tables_after (relinked t inode number new) t) p owed
  pays t p inode number None owed o regular within = pays_none t p inode number owed o
  pays t p inode number (Some block) owed o regular within = pays_put t p inode number block owed o regular within

  module _ (t : Tables) (p : Parameters) (inode : ℕ) (place : ℕ × Option ℕ) (places : Places) (h : AreOwed t p inode (place ∷ places)) where
    abbrev after_first : Tables
    after_first = tables_after (relinked t inode place.0 place.1) t

    AreOwed-after_first : AreOwed after_first p inode places
    AreOwed-after_first =
        let parts : IsTrue (is_in_file t p inode place.0) × IsTrue (list_all (λ (x : ℕ × Option ℕ). is_in_file t p inode x.0) places) =
        and_parts (is_in_file t p inode place.0) (list_all (λ (x : ℕ × Option ℕ). is_in_file t p inode x.0) places) h.within in
        let same : after_first.inodes ≡ t.inodes = (keeps t inode place.0 place.1).inodes in
        record {
          owes = pays t p inode place.0 place.1 (blocks_named places) h.owes h.regular parts.0;
          regular = subst (λ (rows : List Inode). IsTrue (has_inode is_regular (record t { inodes = rows }) inode)) (sym same) h.regular;
          within = subst (λ (rows : List Inode). IsTrue (list_all (λ (x : ℕ × Option ℕ). is_in_file (record t { inodes = rows }) p inode x.0) places)) (sym same) parts.1;
        }

  -- all places pay
  pub IsValid-places_relinked : ((t : Tables) (p : Parameters) → OwesPlaces t p [] → IsValid t) → (t : Tables) (p : Parameters) (inode : ℕ) (places : Places)
      → AreOwed t p inode places → IsValid (tables_after (places_relinked inode places t) t)
  IsValid-places_relinked back t p inode [] h = back t p h.owes
  IsValid-places_relinked back t p inode (place ∷ places) h =
      let first = relinked t inode place.0 place.1 in
      let now = tables_after first t in
      subst IsValid (tables_after-tables_after first (places_relinked inode places now) t)
      (IsValid-places_relinked back now p inode places (AreOwed-after_first t p inode place places h))

  -- other places keep their forms
  pub form_at-places_relinked_other : (t : Tables) (p : Parameters) (inode : ℕ) (places : Places) (other number : ℕ) → AreOwed t p inode places
      → is_among_places inode places other number ≡ false → form_at (tables_after (places_relinked inode places t) t) other number ≡ form_at t other number
  form_at-places_relinked_other t p inode [] other number h apart = refl
  form_at-places_relinked_other t p inode (place ∷ places) other number h apart =
      let first = relinked t inode place.0 place.1 in
      let now = tables_after first t in
      ap (λ (u : Tables). form_at u other number) (sym (tables_after-tables_after first (places_relinked inode places now) t))
      ∙ form_at-places_relinked_other now p inode places other number (AreOwed-after_first t p inode place places h) (apart_from_rest inode place places other number apart)
      ∙ form_at-relinked_other t p (cons_option place.1 (blocks_named places)) h.owes inode place.0 place.1 other number (apart_from_first inode place places other number apart)

  -- and each has the form of its block
  pub form_at-places_relinked : (t : Tables) (p : Parameters) (inode : ℕ) (places : Places) → AreOwed t p inode places
      → IsTrue (differ (λ (a b : ℕ × Option ℕ). b.0 == a.0) places) → (place : ℕ × Option ℕ) → Contains places place
      → form_at (tables_after (places_relinked inode places t) t) inode place.0 ≡ option_and_then (λ id. option_map form_of_row (block_at t id)) place.1
  form_at-places_relinked t p inode [] h unlike place there = absurd (Contains-none place there)
  form_at-places_relinked t p inode (first ∷ places) h unlike place there =
      ap (λ (u : Tables). form_at u inode place.0) (sym (tables_after-tables_after (relinked t inode first.0 first.1) (places_relinked inode places now) t))
      ∙ elim (Contains-cases first places place there) [
        | inl same ↦ subst (λ (x : ℕ × Option ℕ). form_at (tables_after (places_relinked inode places now) now) inode x.0 ≡ option_and_then (λ id. option_map form_of_row (block_at t id)) x.1) same here
        | inr later ↦ form_at-places_relinked now p inode places owed parts.1 place later ∙ kept place.1 (λ id names. is_owed_named places place id later names)
      ]
    where
      now : Tables
      now = tables_after (relinked t inode first.0 first.1) t

      owed : AreOwed now p inode places
      owed = AreOwed-after_first t p inode first places h

      parts : IsTrue (not (list_any (λ (b : ℕ × Option ℕ). b.0 == first.0) places)) × IsTrue (differ (λ (a b : ℕ × Option ℕ). b.0 == a.0) places)
      parts = and_parts (not (list_any (λ (b : ℕ × Option ℕ). b.0 == first.0) places)) (differ (λ (a b : ℕ × Option ℕ). b.0 == a.0) places) unlike

      here : form_at (tables_after (places_relinked inode places now) now) inode first.0 ≡ option_and_then (λ id. option_map form_of_row (block_at t id)) first.1
      here =
          form_at-places_relinked_other now p inode places inode first.0 owed
          (and_right (inode == inode) (list_any (λ (b : ℕ × Option ℕ). b.0 == first.0) places)
          (false_from_not (list_any (λ (b : ℕ × Option ℕ). b.0 == first.0) places) parts.0))
          ∙ form_at-relinked t p inode first.0 first.1 (blocks_named places) h.owes

      kept : (named : Option ℕ) → ((id : ℕ) → named ≡ Some id → IsTrue (is_owed (blocks_named places) id))
          → option_and_then (λ id. option_map form_of_row (block_at now id)) named ≡ option_and_then (λ id. option_map form_of_row (block_at t id)) named
      kept None owes = refl
      kept (Some id) owes =
          form_of_row-relinked_owed t p (cons_option first.1 (blocks_named places)) h.owes inode first.0 first.1 id
          (is_owed_cons first.1 (blocks_named places) id (owes id refl))

-- ---- names and rows

-- what each place keeps, and can be joined, all places keep
pub kept-places_relinked : (P : Tables → Tables → Type 0) → ((t : Tables) → P t t) → ((t middle after : Tables) → P t middle → P middle after → P t after)
    → ((t : Tables) (inode blockno : ℕ) (block : Option ℕ) → P t (tables_after (relinked t inode blockno block) t))
    → (t : Tables) (inode : ℕ) (places : Places) → P t (tables_after (places_relinked inode places t) t)
kept-places_relinked P same joined each t inode [] = same t
kept-places_relinked P same joined each t inode (place ∷ places) =
    let first = relinked t inode place.0 place.1 in
    let now = tables_after first t in
    subst (P t) (tables_after-tables_after first (places_relinked inode places now) t)
    (joined t now (tables_after (places_relinked inode places now) now) (each t inode place.0 place.1) (kept-places_relinked P same joined each now inode places))
