-- Entries and nodes that come or move, and the tree of names that comes of it.
use Rattle.std.proofs.Common.{◌≡◌, ◌≢◌, ℕ, zero, suc, List, Bool, true, false, None, Some, refl, sym, ap, ◌∙◌, ◌⊎◌, inl, inr, subst}
use Rattle.std.proofs.lemmas.Bool.{false_from_ne_true, cases_eq, both_ways}
use Rattle.s3_base.specs.declared.node_kind.Kind.{Kind}
use Rattle.s3_base.specs.declared.node_kind.Kind.TheVariants as kinds
use Rattle.s3_base.specs.Numbers.{root}
use Rattle.plain_tree.specs.Tree.{lost_and_found}
use Rattle.tree_laws.proofs.Node.Kind.{one_some, none_some}
use Rattle.tree_laws.proofs.Shape.Words.{Shape, Leads, Grown, NoneGoes, IsPlace, cases_place, one_entry, not_there, leads_on}

-- ---- a new node, or a new name of a file

-- an entry of the name comes, for a node of some kind, which may be new
pub record Adds (v w : Shape) (p : ℕ) (n : List ℕ) (x : ℕ) (k : Kind) : Type 0 where
  pub is : w.kind x ≡ Some k
  pub kind : (y : ℕ) → y ≢ x → w.kind y ≡ v.kind y
  pub here : w.entry p n ≡ Some x
  pub rest : (q : ℕ) (m : List ℕ) → (IsPlace p n q m → ⊥) → w.entry q m ≡ v.entry q m
  pub opened : (y : ℕ) → y ≢ x → w.opened y ≡ v.opened y
  pub handled : w.opened x ≡ true → k ≡ kinds.Regular
  -- it was there, and is no directory, or it is new
  pub was : ((v.kind x ≡ Some k) × (k ≢ kinds.Directory)) ⊎ (v.kind x ≡ None)

-- where an entry comes
module _ (v w : Shape) (p x : ℕ) (n : List ℕ) (k : Kind) (adds : Adds v w p n x k) (grown : Grown NoneGoes v) where
  more : v.entry p n ≡ None → (q y : ℕ) (m : List ℕ) → v.entry q m ≡ Some y → w.entry q m ≡ Some y
  more free q y m is = adds.rest q m (λ same. not_there v.entry p n q m y same free is) ∙ is

  kind_stays : (y : ℕ) (j : Kind) → v.kind y ≡ Some j → w.kind y ≡ Some j
  kind_stays y j is =
      elim (cases_eq y x) [
        | inr apart ↦ adds.kind y apart ∙ is
        | inl same ↦ elim adds.was [
          | inl old ↦ ap w.kind same ∙ adds.is ∙ sym old.0 ∙ ap v.kind (sym same) ∙ is
          | inr new ↦ absurd (none_some _ j new (ap v.kind (sym same) ∙ is))
        ]
      ]

  -- the only entry of a directory that came is the new one
  only_new : (q y : ℕ) (m : List ℕ) → y ≡ x → w.kind y ≡ Some kinds.Directory → w.entry q m ≡ Some y → IsPlace p n q m
  only_new q y m same folder is =
      elim (cases_place p n q m) [
        | inl place ↦ place
        | inr differs ↦
            let old : v.entry q m ≡ Some x = sym (adds.rest q m differs) ∙ is ∙ ap Some same in
            elim adds.was [
              | inl was ↦
                  absurd (was.1 (one_some _ k kinds.Directory adds.is (ap w.kind (sym same) ∙ folder)))
              | inr new ↦
                  let found = grown.there q x m old in
                  absurd (none_some _ found.0 new found.1)
            ]
      ]

  -- an entry of another node is an old one
  old_entry : (q y : ℕ) (m : List ℕ) → y ≢ x → w.entry q m ≡ Some y → v.entry q m ≡ Some y
  old_entry q y m apart is =
      elim (cases_place p n q m) [
        | inl place ↦ absurd (apart (one_entry w.entry p n q m x y place adds.here is))
        | inr differs ↦ sym (adds.rest q m differs) ∙ is
      ]

  -- a new entry keeps one tree of names
  pub Grown-added : v.entry p n ≡ None → v.kind p ≡ Some kinds.Directory → Grown NoneGoes w
  Grown-added free parent =
      let on : (q y : ℕ) (m : List ℕ) → v.entry q m ≡ Some y → w.entry q m ≡ Some y = λ q y m is. more free q y m is in
      let keeps : (y : ℕ) (j : Kind) → v.kind y ≡ Some j → w.kind y ≡ Some j = λ y j is. kind_stays y j is in
      let inner : x ≢ root = λ same. elim adds.was [
        | inl old ↦
            old.1 (one_some _ k kinds.Directory old.0 (ap v.kind same ∙ grown.rooted))
        | inr new ↦ none_some _ kinds.Directory new (ap v.kind same ∙ grown.rooted)
      ] in
      record {
        rooted = keeps root kinds.Directory grown.rooted;
        top = λ q m is. grown.top q m (old_entry q root m (λ same. inner (sym same)) is);
        kept = (grown.kept.0, on root grown.kept.0 lost_and_found grown.kept.1, keeps grown.kept.0 kinds.Directory grown.kept.2);
        holds = λ q y m is.
            elim (cases_place p n q m) [
              | inl place ↦ ap w.kind place.0 ∙ keeps p kinds.Directory parent
              | inr differs ↦ keeps q kinds.Directory (grown.holds q y m (sym (adds.rest q m differs) ∙ is))
            ];
        there = λ q y m is.
            elim (cases_eq y x) [
              | inl same ↦ (k, ap w.kind same ∙ adds.is)
              | inr apart ↦
                  let found = grown.there q y m (old_entry q y m apart is) in
                  (found.0, keeps y found.0 found.1)
            ];
        once = λ q r y m l is first second.
            elim (cases_eq y x) [
              | inl same ↦
                  let one : IsPlace p n q m = only_new q y m same is first in
                  let other : IsPlace p n r l = only_new r y l same is second in
                  (other.0 ∙ sym one.0, other.1 ∙ sym one.1)
              | inr apart ↦
                  grown.once q r y m l (sym (adds.kind y apart) ∙ is) (old_entry q y m apart first) (old_entry r y l apart second)
            ];
        leads = λ y stays is.
            elim (cases_eq y x) [
              | inl same ↦
                  let way = grown.leads p (λ no. no) parent in
                  (suc way.0, (p, n, adds.here ∙ ap Some (sym same), leads_on v.entry w.entry on way.0 p way.1))
              | inr apart ↦
                  let way = grown.leads y (λ no. no) (sym (adds.kind y apart) ∙ is) in
                  (way.0, leads_on v.entry w.entry on way.0 y way.1)
            ];
        orphans = λ y j stays is below alone.
            elim (cases_eq y x) [
              | inl same ↦ absurd (alone p n (adds.here ∙ ap Some (sym same)))
              | inr apart ↦
                  let found = grown.orphans y j (λ no. no) (sym (adds.kind y apart) ∙ is) below (λ q m names. alone q m (on q y m names)) in
                  (found.0, adds.opened y apart ∙ found.1)
            ];
        handles = λ y is.
            elim (cases_eq y x) [
              | inl same ↦ ap w.kind same ∙ adds.is ∙ ap Some (adds.handled (ap w.opened (sym same) ∙ is))
              | inr apart ↦ adds.kind y apart ∙ grown.handles y (sym (adds.opened y apart) ∙ is)
            ];
        bare = λ y goes. absurd goes;
        empty = λ y m goes. absurd goes;
        inner = λ y goes. absurd goes;
      }

-- ---- what lies at and below a node

-- the test tells what lies at and below a node
pub record IsBelow (v : Shape) (x : ℕ) (among : ℕ → Bool) : Type 0 where
  pub itself : among x ≡ true
  pub down : (q y : ℕ) (m : List ℕ) → among q ≡ true → v.entry q m ≡ Some y → among y ≡ true
  pub up : (y : ℕ) → among y ≡ true → (y ≡ x) ⊎ ((q : ℕ) × (m : List ℕ) × (among q ≡ true) × (v.entry q m ≡ Some y))

-- what names a node outside is outside
pub outside_above : (v : Shape) (x : ℕ) (among : ℕ → Bool) → IsBelow v x among → (q y : ℕ) (m : List ℕ) → among y ≡ false → v.entry q m ≡ Some y → among q ≡ false
outside_above v x among below q y m out names = false_from_ne_true (among q) (λ within. both_ways _ out (below.down q y m within names))

-- what lies at and below a node
module _ (but : ℕ → Type 0) (v : Shape) (x : ℕ) (among : ℕ → Bool) (below : IsBelow v x among) (grown : Grown but v) where
  -- what names a directory inside, other than the first, is inside
  pub inside_above : (q y : ℕ) (m : List ℕ) → y ≢ x → v.kind y ≡ Some kinds.Directory → among y ≡ true → v.entry q m ≡ Some y → among q ≡ true
  inside_above q y m apart folder within names =
      elim (below.up y within) [
        | inl same ↦ absurd (apart same)
        | inr from ↦ ap among (grown.once from.0 q y from.1 m folder from.3 names).0 ∙ from.2
      ]

  -- the root is inside only where it is the first
  pub root_inside : among root ≡ true → x ≡ root
  root_inside within =
      elim (below.up root within) [
        | inl same ↦ sym same
        | inr from ↦ absurd (grown.top from.0 from.1 from.3)
      ]

  -- what holds of the first, and passes from a directory to a directory that it names, holds of each directory inside
  pub holds_downwards : (Q : ℕ → Type 0) → Q x → ((q y : ℕ) (m : List ℕ) → among q ≡ true → y ≢ x → v.entry q m ≡ Some y → Q q → Q y) → (steps y : ℕ) → Leads v.entry steps y → v.kind y ≡ Some kinds.Directory → among y ≡ true → Q y
  holds_downwards Q first next zero y leads folder within =
      subst Q (root_inside (ap among (sym leads) ∙ within) ∙ sym leads) first
  holds_downwards Q first next (suc steps) y leads folder within =
      elim (cases_eq y x) [
        | inl same ↦ subst Q (sym same) first
        | inr apart ↦
            let within_too : among leads.0 ≡ true = inside_above leads.0 y leads.1 apart folder within leads.2 in
            next leads.0 y leads.1 within_too apart leads.2
            (holds_downwards Q first next steps leads.0 leads.3 (grown.holds leads.0 y leads.1 leads.2) within_too)
      ]

  -- nothing inside names a first that is a directory
  no_way : (r : ℕ) (l : List ℕ) → among r ≡ true → v.entry r l ≡ Some x → (steps y : ℕ) → Leads v.entry steps y → v.kind y ≡ Some kinds.Directory → among y ≡ true → ⊥
  no_way r l round names zero y leads folder within =
      grown.top r l (names ∙ ap Some (root_inside (ap among (sym leads) ∙ within)))
  no_way r l round names (suc steps) y leads folder within =
      let within_too : among leads.0 ≡ true = elim (cases_eq y x) [
        | inl same ↦ ap among (grown.once r leads.0 y l leads.1 folder (names ∙ ap Some (sym same)) leads.2).0 ∙ round
        | inr apart ↦ inside_above leads.0 y leads.1 apart folder within leads.2
      ] in
      no_way r l round names steps leads.0 leads.3 (grown.holds leads.0 y leads.1 leads.2) within_too

  -- no directory at or below another names it
  pub no_round : (but x → ⊥) → v.kind x ≡ Some kinds.Directory → (r : ℕ) (l : List ℕ) → among r ≡ true → v.entry r l ≡ Some x → ⊥
  no_round stays folder r l round names =
      let way = grown.leads x stays folder in
      no_way r l round names way.0 x way.1 folder below.itself

-- ---- an entry that moves

-- an entry goes, and another names its node
pub record Moves (v w : Shape) (p : ℕ) (n : List ℕ) (np : ℕ) (nn : List ℕ) (x : ℕ) : Type 0 where
  pub kind : (y : ℕ) → w.kind y ≡ v.kind y
  pub opened : (y : ℕ) → w.opened y ≡ v.opened y
  pub here : w.entry np nn ≡ Some x
  pub gone : w.entry p n ≡ None
  pub rest : (q : ℕ) (m : List ℕ) → (IsPlace p n q m → ⊥) → (IsPlace np nn q m → ⊥) → w.entry q m ≡ v.entry q m

pub record MayMove (but : ℕ → Type 0) (v : Shape) (p : ℕ) (n : List ℕ) (np : ℕ) (nn : List ℕ) (x : ℕ) (among : ℕ → Bool) : Type 0 where
  pub names : v.entry p n ≡ Some x
  pub free : v.entry np nn ≡ None
  pub folder : v.kind np ≡ Some kinds.Directory
  pub stays : but x → ⊥
  pub parent_stays : but np → ⊥
  pub other : IsPlace root lost_and_found p n → ⊥
  pub below : IsBelow v x among
  pub outside : among np ≡ false

-- where an entry moves
module _ (but : ℕ → Type 0) (v w : Shape) (p np x : ℕ) (n nn : List ℕ) (among : ℕ → Bool) (moves : Moves v w p n np nn x) (can : MayMove but v p n np nn x among) (grown : Grown but v) where
  -- an entry of another node is as it was
  before_move : (q y : ℕ) (m : List ℕ) → y ≢ x → w.entry q m ≡ Some y → v.entry q m ≡ Some y
  before_move q y m apart is =
      elim (cases_place np nn q m) [
        | inl new ↦ absurd (apart (one_entry w.entry np nn q m x y new moves.here is))
        | inr not_new ↦ elim (cases_place p n q m) [
          | inl old ↦ absurd (not_there w.entry p n q m y old moves.gone is)
          | inr not_old ↦ sym (moves.rest q m not_old not_new) ∙ is
        ]
      ]

  after_move : (q y : ℕ) (m : List ℕ) → y ≢ x → v.entry q m ≡ Some y → w.entry q m ≡ Some y
  after_move q y m apart is =
      moves.rest q m (λ same. apart (one_entry v.entry p n q m x y same can.names is)) (λ same. not_there v.entry np nn q m y same can.free is) ∙ is

  -- the only entry of a directory that moved is the new one
  only_moved : v.entry p n ≡ Some x → (q y : ℕ) (m : List ℕ) → y ≡ x → v.kind y ≡ Some kinds.Directory → w.entry q m ≡ Some y → IsPlace np nn q m
  only_moved names q y m same folder is =
      elim (cases_place np nn q m) [
        | inl new ↦ new
        | inr not_new ↦ elim (cases_place p n q m) [
          | inl old ↦ absurd (not_there w.entry p n q m y old moves.gone is)
          | inr not_old ↦ absurd (not_old (grown.once p q y n m folder (names ∙ ap Some (sym same)) (sym (moves.rest q m not_old not_new) ∙ is)))
        ]
      ]

  leads_outside : (steps y : ℕ) → among y ≡ false → Leads v.entry steps y → Leads w.entry steps y
  leads_outside zero y out leads = leads
  leads_outside (suc steps) y out leads =
      let apart : y ≢ x = λ same.
      both_ways _ (ap among (sym same) ∙ out) can.below.itself in (
        leads.0,
        leads.1,
        after_move leads.0 y leads.1 apart leads.2,
        leads_outside steps leads.0 (outside_above v x among can.below leads.0 y leads.1 out leads.2) leads.3,
      )

  leads_moved : (steps y : ℕ) → Leads v.entry steps y → v.kind y ≡ Some kinds.Directory → (test : Bool) → among y ≡ test → (more : ℕ) × Leads w.entry more y
  leads_moved steps y leads folder false out = (steps, leads_outside steps y out leads)
  leads_moved steps y leads folder true within =
      let way = grown.leads np can.parent_stays can.folder in
      holds_downwards but v x among can.below grown (λ z. (more : ℕ) × Leads w.entry more z) (suc way.0, (np, nn, moves.here, leads_outside way.0 np can.outside way.1))
      (λ q z m inner apart names up. (suc up.0, (q, m, after_move q z m apart names, up.1)))
      steps y leads folder within

  -- a move keeps one tree of names
  pub Grown-moved : Grown but w
  Grown-moved =
      let not_root : root ≢ x = λ same. grown.top p n (can.names ∙ ap Some (sym same)) in
      record {
        rooted = moves.kind root ∙ grown.rooted;
        top = λ q m is. grown.top q m (before_move q root m not_root is);
        kept = (
          grown.kept.0,
          moves.rest root lost_and_found (λ same. can.other (sym same.0, sym same.1)) (λ same. not_there v.entry np nn root lost_and_found grown.kept.0 same can.free grown.kept.1) ∙ grown.kept.1,
          moves.kind grown.kept.0 ∙ grown.kept.2,
        );
        holds = λ q y m is.
            elim (cases_place np nn q m) [
              | inl new ↦ moves.kind q ∙ ap v.kind new.0 ∙ can.folder
              | inr not_new ↦ elim (cases_place p n q m) [
                | inl old ↦ absurd (not_there w.entry p n q m y old moves.gone is)
                | inr not_old ↦ moves.kind q ∙ grown.holds q y m (sym (moves.rest q m not_old not_new) ∙ is)
              ]
            ];
        there = λ q y m is.
            elim (cases_eq y x) [
              | inl same ↦
                  let found = grown.there p x n can.names in
                  (found.0, moves.kind y ∙ ap v.kind same ∙ found.1)
              | inr apart ↦
                  let found = grown.there q y m (before_move q y m apart is) in
                  (found.0, moves.kind y ∙ found.1)
            ];
        once = λ q r y m l is first second.
            let folder : v.kind y ≡ Some kinds.Directory = sym (moves.kind y) ∙ is in
            elim (cases_eq y x) [
              | inl same ↦
                  let one : IsPlace np nn q m = only_moved can.names q y m same folder first in
                  let other : IsPlace np nn r l = only_moved can.names r y l same folder second in
                  (other.0 ∙ sym one.0, other.1 ∙ sym one.1)
              | inr apart ↦ grown.once q r y m l folder (before_move q y m apart first) (before_move r y l apart second)
            ];
        leads = λ y stays is.
            let folder : v.kind y ≡ Some kinds.Directory = sym (moves.kind y) ∙ is in
            let way = grown.leads y stays folder in
            leads_moved way.0 y way.1 folder (among y) refl;
        orphans = λ y k stays is inner alone.
            elim (cases_eq y x) [
              | inl same ↦ absurd (alone np nn (moves.here ∙ ap Some (sym same)))
              | inr apart ↦
                  let found = grown.orphans y k stays (sym (moves.kind y) ∙ is) inner (λ q m names. alone q m (after_move q y m apart names)) in
                  (found.0, moves.opened y ∙ found.1)
            ];
        handles = λ y is. moves.kind y ∙ grown.handles y (sym (moves.opened y) ∙ is);
        bare = λ y goes is q m names.
            grown.bare y goes (sym (moves.kind y) ∙ is) q m (before_move q y m (λ same. can.stays (subst but same goes)) names);
        empty = λ y m goes.
            elim (cases_place np nn y m) [
              | inl new ↦ absurd (can.parent_stays (subst but new.0 goes))
              | inr not_new ↦ elim (cases_place p n y m) [
                | inl old ↦ ap (λ k. w.entry k m) old.0 ∙ ap (w.entry p) old.1 ∙ moves.gone
                | inr not_old ↦ moves.rest y m not_old not_new ∙ grown.empty y m goes
              ]
            ];
        inner = grown.inner;
      }
