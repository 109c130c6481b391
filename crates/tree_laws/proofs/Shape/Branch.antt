-- Whole subtrees that go or are copied, and the tree of names that comes of it.
use Rattle.std.proofs.Common.{◌≡◌, ◌≢◌, ℕ, zero, suc, List, Bool, true, false, None, Some, refl, sym, ap, ◌∙◌, ◌⊎◌, inl, inr, subst}
use Rattle.std.proofs.lemmas.Bool.{false_from_ne_true, both_ways}
use Rattle.s3_base.specs.declared.node_kind.Kind.{Kind}
use Rattle.s3_base.specs.declared.node_kind.Kind.TheVariants as kinds
use Rattle.s3_base.specs.Numbers.{root}
use Rattle.plain_tree.specs.Tree.{lost_and_found}
use Rattle.tree_laws.proofs.Node.Kind.{one_some, none_some}
use Rattle.tree_laws.proofs.Shape.Gain.{IsBelow, outside_above, root_inside, holds_downwards, no_round}
use Rattle.tree_laws.proofs.Shape.Words.{Shape, Leads, IsUnnamed, Grown, NoneGoes, IsPlace, cases_place, one_entry, not_there, leads_on}

-- ---- a subtree that goes

-- what a removal does to what is inside, and leaves outside
pub record Uproots (v w : Shape) (p : ℕ) (n : List ℕ) (among : ℕ → Bool) : Type 0 where
  pub outside_kind : (y : ℕ) → among y ≡ false → w.kind y ≡ v.kind y
  pub inside_kind : (y : ℕ) (k : Kind) → among y ≡ true → w.kind y ≡ Some k → (v.kind y ≡ Some k) × (k ≢ kinds.Directory)
  pub stays : (y : ℕ) (k : Kind) → among y ≡ true → v.kind y ≡ Some k → k ≢ kinds.Directory → ((q : ℕ) × (m : List ℕ) × (w.entry q m ≡ Some y)) ⊎ (w.opened y ≡ true) → w.kind y ≡ Some k
  pub lives : (y : ℕ) (k : Kind) → among y ≡ true → w.kind y ≡ Some k → IsUnnamed w y → w.opened y ≡ true
  pub none : (q : ℕ) (m : List ℕ) → among q ≡ true → w.entry q m ≡ None
  pub gone : w.entry p n ≡ None
  pub rest : (q : ℕ) (m : List ℕ) → among q ≡ false → (IsPlace p n q m → ⊥) → w.entry q m ≡ v.entry q m
  pub opened : (y : ℕ) → w.opened y ≡ v.opened y

pub record MayUproot (v : Shape) (p : ℕ) (n : List ℕ) (x : ℕ) (among : ℕ → Bool) : Type 0 where
  pub names : v.entry p n ≡ Some x
  pub folder : v.kind x ≡ Some kinds.Directory
  pub other : IsPlace root lost_and_found p n → ⊥
  pub below : IsBelow v x among

-- where a subtree goes
module _ (v w : Shape) (p x : ℕ) (n : List ℕ) (among : ℕ → Bool) (uproots : Uproots v w p n among) (can : MayUproot v p n x among) (grown : Grown NoneGoes v) where
  left_entry : (q y : ℕ) (m : List ℕ) → w.entry q m ≡ Some y → (test : Bool) → among q ≡ test → (among q ≡ false) × (IsPlace p n q m → ⊥) × (v.entry q m ≡ Some y)
  left_entry q y m is true within = absurd (none_some _ y (uproots.none q m within) is)
  left_entry q y m is false out =
      elim (cases_place p n q m) [
        | inl same ↦ absurd (not_there w.entry p n q m y same uproots.gone is)
        | inr differs ↦ (out, differs, sym (uproots.rest q m out differs) ∙ is)
      ]

  -- a directory that an entry outside names is outside
  folder_out : (q y : ℕ) (m : List ℕ) → v.kind y ≡ Some kinds.Directory → v.entry q m ≡ Some y → among q ≡ false → (IsPlace p n q m → ⊥) → (test : Bool) → among y ≡ test → among y ≡ false
  folder_out q y m folder names out differs false test = test
  folder_out q y m folder names out differs true test =
      elim (can.below.up y test) [
        | inl same ↦ absurd (differs (grown.once p q y n m folder (can.names ∙ ap Some (sym same)) names))
        | inr from ↦
            absurd (both_ways _ (ap among (sym (grown.once from.0 q y from.1 m folder from.3 names).0) ∙ out) from.2)
      ]

  leads_left : (steps y : ℕ) → among y ≡ false → Leads v.entry steps y → Leads w.entry steps y
  leads_left zero y out leads = leads
  leads_left (suc steps) y out leads =
      let out_too : among leads.0 ≡ false = outside_above v x among can.below leads.0 y leads.1 out leads.2 in
      let differs : IsPlace p n leads.0 leads.1 → ⊥ = λ same.
      both_ways _ (ap among (sym (one_entry v.entry p n leads.0 leads.1 x y same can.names leads.2)) ∙ out) can.below.itself in
      (leads.0, leads.1, uproots.rest leads.0 leads.1 out_too differs ∙ leads.2, leads_left steps leads.0 out_too leads.3)

  -- the kind that a node had, and whether it was outside
  kind_was : (y : ℕ) (k : Kind) → w.kind y ≡ Some k → (test : Bool) → among y ≡ test → v.kind y ≡ Some k
  kind_was y k is true within = (uproots.inside_kind y k within is).0
  kind_was y k is false out = sym (uproots.outside_kind y out) ∙ is

  named_stays : (q y : ℕ) (m : List ℕ) → w.entry q m ≡ Some y → (k : Kind) → v.kind y ≡ Some k → (test : Bool) → among y ≡ test → w.kind y ≡ Some k
  named_stays q y m is k kind false out = uproots.outside_kind y out ∙ kind
  named_stays q y m is kinds.Directory kind true within =
      let old = left_entry q y m is (among q) refl in
      absurd (both_ways _ (folder_out q y m kind old.2 old.0 old.1 (among y) refl) within)
  named_stays q y m is kinds.Regular kind true within = uproots.stays y kinds.Regular within kind (λ same. cc same) (inl (q, m, is))
  named_stays q y m is kinds.Link kind true within = uproots.stays y kinds.Link within kind (λ same. cc same) (inl (q, m, is))

  orphan_left : (y : ℕ) (k : Kind) → w.kind y ≡ Some k → y ≢ root → IsUnnamed w y → (test : Bool) → among y ≡ test → (k ≡ kinds.Regular) × (w.opened y ≡ true)
  orphan_left y k is inner alone true within =
      let opened : w.opened y ≡ true = uproots.lives y k within is alone in
      (one_some _ k kinds.Regular (uproots.inside_kind y k within is).0 (grown.handles y (sym (uproots.opened y) ∙ opened)), opened)
  orphan_left y k is inner alone false out =
      let unnamed : IsUnnamed v y = λ q m names.
      let differs : IsPlace p n q m → ⊥ = λ same.
      both_ways _ (ap among (sym (one_entry v.entry p n q m x y same can.names names)) ∙ out) can.below.itself in
      alone q m (uproots.rest q m (outside_above v x among can.below q y m out names) differs ∙ names) in
      let found = grown.orphans y k (λ no. no) (sym (uproots.outside_kind y out) ∙ is) inner unnamed in
      (found.0, uproots.opened y ∙ found.1)

  opened_stays : (y : ℕ) → v.kind y ≡ Some kinds.Regular → w.opened y ≡ true → (test : Bool) → among y ≡ test → w.kind y ≡ Some kinds.Regular
  opened_stays y kind is true within = uproots.stays y kinds.Regular within kind (λ same. cc same) (inr is)
  opened_stays y kind is false out = uproots.outside_kind y out ∙ kind

  -- what is left is one tree of names
  pub Grown-uprooted : Grown NoneGoes w
  Grown-uprooted =
      let root_is_out : among root ≡ false = false_from_ne_true (among root) (λ within. grown.top p n (can.names ∙ ap Some (root_inside NoneGoes v x among can.below grown within))) in
      let keep_differs : IsPlace p n root lost_and_found → ⊥ = λ same. can.other (sym same.0, sym same.1) in
      let old : (q y : ℕ) (m : List ℕ) → w.entry q m ≡ Some y → v.entry q m ≡ Some y = λ q y m is. (left_entry q y m is (among q) refl).2 in
      record {
        rooted = uproots.outside_kind root root_is_out ∙ grown.rooted;
        top = λ q m is. grown.top q m (old q root m is);
        kept = (
          grown.kept.0,
          uproots.rest root lost_and_found root_is_out keep_differs ∙ grown.kept.1,
          uproots.outside_kind grown.kept.0 (folder_out root grown.kept.0 lost_and_found grown.kept.2 grown.kept.1 root_is_out keep_differs (among grown.kept.0) refl) ∙ grown.kept.2,
        );
        holds = λ q y m is.
            let was = left_entry q y m is (among q) refl in
            uproots.outside_kind q was.0 ∙ grown.holds q y m was.2;
        there = λ q y m is.
            let found = grown.there q y m (old q y m is) in
            (found.0, named_stays q y m is found.0 found.1 (among y) refl);
        once = λ q r y m l is first second. grown.once q r y m l (kind_was y _ is (among y) refl) (old q y m first) (old r y l second);
        leads = λ y stays is.
            let way = grown.leads y (λ no. no) (kind_was y _ is (among y) refl) in
            (way.0, leads_left way.0 y (false_from_ne_true (among y) (λ within. (uproots.inside_kind y kinds.Directory within is).1 refl)) way.1);
        orphans = λ y k stays is inner alone. orphan_left y k is inner alone (among y) refl;
        handles = λ y is. opened_stays y (grown.handles y (sym (uproots.opened y) ∙ is)) is (among y) refl;
        bare = λ y goes. absurd goes;
        empty = λ y m goes. absurd goes;
        inner = λ y goes. absurd goes;
      }

-- ---- a subtree that is copied

-- a node is a copy of one inside
pub record IsCopy (v : Shape) (among : ℕ → Bool) (copy : ℕ → ℕ) (z : ℕ) (k : Kind) : Type 0 where
  pub of : ℕ
  pub within : among of ≡ true
  pub is : z ≡ copy of
  pub kind : v.kind of ≡ Some k

-- an entry is a copy of one inside
pub record IsCopiedEntry (v : Shape) (among : ℕ → Bool) (copy : ℕ → ℕ) (q : ℕ) (m : List ℕ) (z : ℕ) : Type 0 where
  pub parent : ℕ
  pub named : ℕ
  pub within : among parent ≡ true
  pub parent_is : q ≡ copy parent
  pub is : z ≡ copy named
  pub names : v.entry parent m ≡ Some named

-- what a copy adds
pub record Copies (v w : Shape) (p : ℕ) (n : List ℕ) (source : ℕ) (among : ℕ → Bool) (copy : ℕ → ℕ) : Type 0 where
  pub old_kind : (y : ℕ) (k : Kind) → v.kind y ≡ Some k → w.kind y ≡ Some k
  pub new_kind : (y : ℕ) (k : Kind) → among y ≡ true → v.kind y ≡ Some k → w.kind (copy y) ≡ Some k
  pub from_kind : (z : ℕ) (k : Kind) → w.kind z ≡ Some k → (v.kind z ≡ Some k) ⊎ IsCopy v among copy z k
  pub fresh : (y : ℕ) → among y ≡ true → v.kind (copy y) ≡ None
  pub apart : (y z : ℕ) → among y ≡ true → among z ≡ true → copy y ≡ copy z → y ≡ z
  pub here : w.entry p n ≡ Some (copy source)
  pub old_entry : (q y : ℕ) (m : List ℕ) → v.entry q m ≡ Some y → w.entry q m ≡ Some y
  pub new_entry : (q y : ℕ) (m : List ℕ) → among q ≡ true → v.entry q m ≡ Some y → w.entry (copy q) m ≡ Some (copy y)
  pub from_entry : (q z : ℕ) (m : List ℕ) → w.entry q m ≡ Some z → (IsPlace p n q m × (z ≡ copy source)) ⊎ ((v.entry q m ≡ Some z) ⊎ IsCopiedEntry v among copy q m z)
  pub opened : (y : ℕ) → w.opened y ≡ v.opened y

pub record MayCopy (v : Shape) (p source : ℕ) (among : ℕ → Bool) : Type 0 where
  pub folder : v.kind source ≡ Some kinds.Directory
  pub parent : v.kind p ≡ Some kinds.Directory
  pub below : IsBelow v source among

-- the entries of a copy are the new one and copies
abbrev NamesCopy : (v : Shape) (p : ℕ) (n : List ℕ) (source : ℕ) (among : ℕ → Bool) (copy : ℕ → ℕ) (y q : ℕ) (m : List ℕ) → Type 0
NamesCopy v p n source among copy y q m = (IsPlace p n q m × (y ≡ source)) ⊎ ((r : ℕ) × (among r ≡ true) × (q ≡ copy r) × (v.entry r m ≡ Some y))

-- where a subtree is copied
module _ (v w : Shape) (p source : ℕ) (n : List ℕ) (among : ℕ → Bool) (copy : ℕ → ℕ) (copies : Copies v w p n source among copy) (can : MayCopy v p source among) (grown : Grown NoneGoes v) where
  -- the entries of a node that was there are the old ones
  old_named : (q z : ℕ) (m : List ℕ) (k : Kind) → v.kind z ≡ Some k → w.entry q m ≡ Some z → v.entry q m ≡ Some z
  old_named q z m k kind is =
      elim (copies.from_entry q z m is) [
        | inl new ↦ absurd (none_some _ k (copies.fresh source can.below.itself) (ap v.kind (sym new.1) ∙ kind))
        | inr other ↦ elim other [
          | inl old ↦ old
          | inr made ↦ absurd (none_some _ k (copies.fresh made.named (can.below.down made.parent made.named m made.within made.names)) (ap v.kind (sym made.is) ∙ kind))
        ]
      ]

  names_copy : (y q z : ℕ) (m : List ℕ) → among y ≡ true → z ≡ copy y → w.entry q m ≡ Some z → NamesCopy v p n source among copy y q m
  names_copy y q z m within same is =
      elim (copies.from_entry q z m is) [
        | inl new ↦ inl (new.0, copies.apart y source within can.below.itself (sym same ∙ new.1))
        | inr other ↦ elim other [
          | inl old ↦
              let found = grown.there q z m old in
              absurd (none_some _ found.0 (copies.fresh y within) (ap v.kind (sym same) ∙ found.1))
          | inr made ↦
              let one : made.named ≡ y =
              copies.apart made.named y (can.below.down made.parent made.named m made.within made.names) within (sym made.is ∙ same) in
              inr (made.parent, made.within, made.parent_is, made.names ∙ ap Some one)
        ]
      ]

  both_copies : (y q r : ℕ) (m l : List ℕ) → v.kind y ≡ Some kinds.Directory → NamesCopy v p n source among copy y q m → NamesCopy v p n source among copy y r l → (r ≡ q) × (l ≡ m)
  both_copies y q r m l folder (inl first) (inl second) = (second.0.0 ∙ sym first.0.0, second.0.1 ∙ sym first.0.1)
  both_copies y q r m l folder (inl first) (inr second) =
      absurd (no_round NoneGoes v source among can.below grown (λ no. no) can.folder second.0 l second.1 (second.3 ∙ ap Some first.1))
  both_copies y q r m l folder (inr first) (inl second) =
      absurd (no_round NoneGoes v source among can.below grown (λ no. no) can.folder first.0 m first.1 (first.3 ∙ ap Some second.1))
  both_copies y q r m l folder (inr first) (inr second) =
      let one = grown.once first.0 second.0 y m l folder first.3 second.3 in
      (second.2 ∙ ap copy one.0 ∙ sym first.2, one.1)

  -- with a copy it is one tree of names
  pub Grown-copied : Grown NoneGoes w
  Grown-copied = record {
    rooted = copies.old_kind root kinds.Directory grown.rooted;
    top = λ q m is. grown.top q m (old_named q root m kinds.Directory grown.rooted is);
    kept = (grown.kept.0, copies.old_entry root grown.kept.0 lost_and_found grown.kept.1, copies.old_kind grown.kept.0 kinds.Directory grown.kept.2);
    holds = λ q z m is.
        elim (copies.from_entry q z m is) [
          | inl new ↦ ap w.kind new.0.0 ∙ copies.old_kind p kinds.Directory can.parent
          | inr other ↦ elim other [
            | inl old ↦ copies.old_kind q kinds.Directory (grown.holds q z m old)
            | inr made ↦ ap w.kind made.parent_is ∙ copies.new_kind made.parent kinds.Directory made.within (grown.holds made.parent made.named m made.names)
          ]
        ];
    there = λ q z m is.
        elim (copies.from_entry q z m is) [
          | inl new ↦ (kinds.Directory, ap w.kind new.1 ∙ copies.new_kind source kinds.Directory can.below.itself can.folder)
          | inr other ↦ elim other [
            | inl old ↦
                let found = grown.there q z m old in
                (found.0, copies.old_kind z found.0 found.1)
            | inr made ↦
                let found = grown.there made.parent made.named m made.names in
                (found.0, ap w.kind made.is ∙ copies.new_kind made.named found.0 (can.below.down made.parent made.named m made.within made.names) found.1)
          ]
        ];
    once = λ q r z m l is first second.
        elim (copies.from_kind z kinds.Directory is) [
          | inl old ↦
              grown.once q r z m l old (old_named q z m kinds.Directory old first) (old_named r z l kinds.Directory old second)
          | inr copy_is ↦
              both_copies copy_is.of q r m l copy_is.kind
              (names_copy copy_is.of q z m copy_is.within copy_is.is first)
              (names_copy copy_is.of r z l copy_is.within copy_is.is second)
        ];
    leads = λ z stays is.
        elim (copies.from_kind z kinds.Directory is) [
          | inl old ↦
              let way = grown.leads z (λ no. no) old in
              (way.0, leads_on v.entry w.entry copies.old_entry way.0 z way.1)
          | inr copy_is ↦
              let way = grown.leads copy_is.of (λ no. no) copy_is.kind in
              let above = grown.leads p (λ no. no) can.parent in
              let up : (more : ℕ) × Leads w.entry more (copy copy_is.of) =
              holds_downwards NoneGoes v source among can.below grown (λ y. (more : ℕ) × Leads w.entry more (copy y)) (suc above.0, (p, n, copies.here, leads_on v.entry w.entry copies.old_entry above.0 p above.1))
              (λ q y m within apart names up. (suc up.0, (copy q, m, copies.new_entry q y m within names, up.1))) way.0 copy_is.of way.1 copy_is.kind copy_is.within in
              (up.0, subst (Leads w.entry up.0) (sym copy_is.is) up.1)
        ];
    orphans = λ z k stays is inner alone.
        elim (copies.from_kind z k is) [
          | inl old ↦
              let found = grown.orphans z k (λ no. no) old inner (λ q m names. alone q m (copies.old_entry q z m names)) in
              (found.0, copies.opened z ∙ found.1)
          | inr copy_is ↦ elim (can.below.up copy_is.of copy_is.within) [
            | inl same ↦ absurd (alone p n (copies.here ∙ ap Some (ap copy (sym same) ∙ sym copy_is.is)))
            | inr from ↦ absurd (alone (copy from.0) from.1 (copies.new_entry from.0 copy_is.of from.1 from.2 from.3 ∙ ap Some (sym copy_is.is)))
          ]
        ];
    handles = λ y is. copies.old_kind y kinds.Regular (grown.handles y (sym (copies.opened y) ∙ is));
    bare = λ y goes. absurd goes;
    empty = λ y m goes. absurd goes;
    inner = λ y goes. absurd goes;
  }
