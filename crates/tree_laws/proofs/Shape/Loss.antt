-- Entries and nodes that go, and the tree of names that is left.
use Rattle.std.proofs.Common.{◌≡◌, ◌≢◌, ℕ, zero, suc, List, Bool, true, false, cond, Option, None, Some, refl, sym, ap, ◌∙◌, inl, inr}
use Rattle.std.proofs.lemmas.Bool.{true_from_ne_false, cases_eq}
use Rattle.s3_base.specs.declared.node_kind.Kind.{Kind}
use Rattle.s3_base.specs.declared.node_kind.Kind.TheVariants as kinds
use Rattle.s3_base.specs.Numbers.{root}
use Rattle.plain_tree.specs.Tree.{lost_and_found}
use Rattle.tree_laws.proofs.Node.Kind.{one_some, file_no_folder, none_from, none_some}
use Rattle.tree_laws.proofs.Shape.Words.{Grown-reopened, Shape, Leads, IsUnnamed, Grown, NoneGoes, Only, IsPlace, cases_place, one_entry, not_there, leads_on}

-- ---- an entry that goes

-- an entry goes
pub record Unlinks (v w : Shape) (p : ℕ) (n : List ℕ) : Type 0 where
  pub kind : (inode : ℕ) → w.kind inode ≡ v.kind inode
  pub opened : (inode : ℕ) → w.opened inode ≡ v.opened inode
  pub gone : w.entry p n ≡ None
  pub rest : (q : ℕ) (m : List ℕ) → (IsPlace p n q m → ⊥) → w.entry q m ≡ v.entry q m

-- where an entry goes
module _ (v w : Shape) (p x : ℕ) (n : List ℕ) (unlinks : Unlinks v w p n) (grown : Grown NoneGoes v) (names : v.entry p n ≡ Some x) where
  fewer : (q y : ℕ) (m : List ℕ) → w.entry q m ≡ Some y → v.entry q m ≡ Some y
  fewer q y m is =
      elim (cases_place p n q m) [
        | inl same ↦ absurd (not_there w.entry p n q m y same unlinks.gone is)
        | inr differs ↦ sym (unlinks.rest q m differs) ∙ is
      ]

  leads_past : ((m : List ℕ) → v.entry x m ≡ None) → (steps y : ℕ) → y ≢ x → Leads v.entry steps y → Leads w.entry steps y
  leads_past empty zero y apart leads = leads
  leads_past empty (suc steps) y apart leads = (
    leads.0,
    leads.1,
    unlinks.rest leads.0 leads.1 (λ same. apart (one_entry v.entry p n leads.0 leads.1 x y same names leads.2)) ∙ leads.2,
    leads_past empty steps leads.0 (λ same. none_some _ y (empty leads.1) (ap (λ k. v.entry k leads.1) (sym same) ∙ leads.2)) leads.3,
  )

  -- what it named, without entries, may go
  pub Grown-unlinked : (IsPlace root lost_and_found p n → ⊥) → ((m : List ℕ) → v.entry x m ≡ None) → Grown (Only x) w
  Grown-unlinked free empty = record {
    rooted = unlinks.kind root ∙ grown.rooted;
    top = λ q m is. grown.top q m (fewer q root m is);
    kept = (grown.kept.0, unlinks.rest root lost_and_found (λ same. free (sym same.0, sym same.1)) ∙ grown.kept.1, unlinks.kind grown.kept.0 ∙ grown.kept.2);
    holds = λ q y m is. unlinks.kind q ∙ grown.holds q y m (fewer q y m is);
    there = λ q y m is.
        let found = grown.there q y m (fewer q y m is) in
        (found.0, unlinks.kind y ∙ found.1);
    once = λ q r y m l is first second. grown.once q r y m l (sym (unlinks.kind y) ∙ is) (fewer q y m first) (fewer r y l second);
    leads = λ y stays is.
        let way = grown.leads y (λ no. no) (sym (unlinks.kind y) ∙ is) in
        (way.0, leads_past empty way.0 y stays way.1);
    orphans = λ y k stays is inner unnamed.
        let found = grown.orphans y k (λ no. no) (sym (unlinks.kind y) ∙ is) inner
        (λ q m also. unnamed q m (unlinks.rest q m (λ same. stays (one_entry v.entry p n q m x y same names also)) ∙ also)) in
        (found.0, unlinks.opened y ∙ found.1);
    handles = λ y is. unlinks.kind y ∙ grown.handles y (sym (unlinks.opened y) ∙ is);
    bare = λ y goes is q m also.
        let place = grown.once p q y n m (sym (unlinks.kind y) ∙ is) (names ∙ ap Some (sym goes)) (fewer q y m also) in
        not_there w.entry p n q m y place unlinks.gone also;
    empty = λ y m goes. none_from (w.entry y m) (λ z is. none_some _ z (ap (λ k. v.entry k m) goes ∙ empty m) (fewer y z m is));
    inner = λ y goes same. grown.top p n (names ∙ ap Some (sym goes ∙ same));
  }

-- ---- a node that goes

-- a node goes
pub record Removes (v w : Shape) (x : ℕ) : Type 0 where
  pub gone : w.kind x ≡ None
  pub kind : (y : ℕ) → y ≢ x → w.kind y ≡ v.kind y
  pub entry : (q : ℕ) (m : List ℕ) → q ≢ x → w.entry q m ≡ v.entry q m
  pub none : (m : List ℕ) → w.entry x m ≡ None
  pub opened : (y : ℕ) → w.opened y ≡ v.opened y

-- where a node goes
module _ (v w : Shape) (x : ℕ) (removes : Removes v w x) where
  still_there : (y : ℕ) (k : Kind) → w.kind y ≡ Some k → v.kind y ≡ Some k
  still_there y k is =
      elim (cases_eq y x) [
        | inl same ↦ absurd (none_some _ k removes.gone (ap w.kind (sym same) ∙ is))
        | inr apart ↦ sym (removes.kind y apart) ∙ is
      ]

  same_entries : ((m : List ℕ) → v.entry x m ≡ None) → (q : ℕ) (m : List ℕ) → w.entry q m ≡ v.entry q m
  same_entries empty q m =
      elim (cases_eq q x) [
        | inl same ↦ ap (λ k. w.entry k m) same ∙ removes.none m ∙ sym (empty m) ∙ ap (λ k. v.entry k m) (sym same)
        | inr apart ↦ removes.entry q m apart
      ]

  -- what was about to go is gone
  pub Grown-removed : Grown (Only x) v → IsUnnamed v x → (v.opened x ≡ true → ⊥) → Grown NoneGoes w
  Grown-removed grown unnamed closed =
      let entry : (q : ℕ) (m : List ℕ) → w.entry q m ≡ v.entry q m = same_entries (λ m. grown.empty x m refl) in
      let apart : (q y : ℕ) (m : List ℕ) → v.entry q m ≡ Some y → y ≢ x = λ q y m is same. unnamed q m (is ∙ ap Some same) in
      record {
        rooted = removes.kind root (λ same. grown.inner x refl (sym same)) ∙ grown.rooted;
        top = λ q m is. grown.top q m (sym (entry q m) ∙ is);
        kept = (grown.kept.0, entry root lost_and_found ∙ grown.kept.1, removes.kind grown.kept.0 (apart root grown.kept.0 lost_and_found grown.kept.1) ∙ grown.kept.2);
        holds = λ q y m is.
            let old : v.entry q m ≡ Some y = sym (entry q m) ∙ is in
            removes.kind q (λ same. none_some _ y (grown.empty q m same) old) ∙ grown.holds q y m old;
        there = λ q y m is.
            let old : v.entry q m ≡ Some y = sym (entry q m) ∙ is in
            let found = grown.there q y m old in
            (found.0, removes.kind y (apart q y m old) ∙ found.1);
        once = λ q r y m l is first second. grown.once q r y m l (still_there y _ is) (sym (entry q m) ∙ first) (sym (entry r l) ∙ second);
        leads = λ y stays is.
            let old : v.kind y ≡ Some kinds.Directory = still_there y _ is in
            let way = grown.leads y (λ same. none_some _ kinds.Directory removes.gone (ap w.kind (sym same) ∙ is)) old in
            (way.0, leads_on v.entry w.entry (λ q z m names. entry q m ∙ names) way.0 y way.1);
        orphans = λ y k stays is inner alone.
            let found = grown.orphans y k (λ same. none_some _ k removes.gone (ap w.kind (sym same) ∙ is)) (still_there y k is) inner (λ q m names. alone q m (entry q m ∙ names)) in
            (found.0, removes.opened y ∙ found.1);
        handles = λ y is.
            let old : v.opened y ≡ true = sym (removes.opened y) ∙ is in
            removes.kind y (λ same. closed (ap v.opened (sym same) ∙ old)) ∙ grown.handles y old;
        bare = λ y goes. absurd goes;
        empty = λ y m goes. absurd goes;
        inner = λ y goes. absurd goes;
      }

-- a node that was about to go stays, since an entry names it or it is open
pub Grown-spared : (v : Shape) (x : ℕ) → Grown (Only x) v → (IsUnnamed v x → v.opened x ≡ true) → Grown NoneGoes v
Grown-spared v x grown lives = record {
  rooted = grown.rooted;
  top = grown.top;
  kept = grown.kept;
  holds = grown.holds;
  there = grown.there;
  once = grown.once;
  leads = λ y stays is.
      elim (cases_eq y x) [
        | inl same ↦
            let bare : IsUnnamed v y = grown.bare y same is in
            let opened : v.opened y ≡ true = ap v.opened same ∙ lives (λ q m names. bare q m (names ∙ ap Some (sym same))) in
            absurd (file_no_folder _ (grown.handles y opened) is)
        | inr apart ↦ grown.leads y apart is
      ];
  orphans = λ y k stays is inner alone.
      elim (cases_eq y x) [
        | inl same ↦
            let opened : v.opened y ≡ true = ap v.opened same ∙ lives (λ q m names. alone q m (names ∙ ap Some (sym same))) in
            (one_some _ k kinds.Regular is (grown.handles y opened), opened)
        | inr apart ↦ grown.orphans y k apart is inner alone
      ];
  handles = grown.handles;
  bare = λ y goes. absurd goes;
  empty = λ y m goes. absurd goes;
  inner = λ y goes. absurd goes;
}

-- ---- a handle that is closed

-- a handle on the inode goes
pub record Closes (v w : Shape) (x : ℕ) : Type 0 where
  pub kind : (y : ℕ) → w.kind y ≡ v.kind y
  pub entry : (q : ℕ) (m : List ℕ) → w.entry q m ≡ v.entry q m
  pub was : (y : ℕ) → w.opened y ≡ true → v.opened y ≡ true
  pub others : (y : ℕ) → y ≢ x → v.opened y ≡ true → w.opened y ≡ true

-- a regular file has no entries
pub no_entries : (v : Shape) → Grown NoneGoes v → (x : ℕ) → v.kind x ≡ Some kinds.Regular → (m : List ℕ) → v.entry x m ≡ None
no_entries v grown x file m = none_from (v.entry x m) (λ y is. file_no_folder _ file (grown.holds x y m is))

-- its file may go
pub Grown-closed : (v w : Shape) (x : ℕ) → Closes v w x → Grown NoneGoes v → v.kind x ≡ Some kinds.Regular → Grown (Only x) w
Grown-closed v w x closes grown file =
    let inner : (y : ℕ) → y ≡ x → v.kind y ≡ Some kinds.Directory → ⊥ = λ y goes is. file_no_folder _ (ap v.kind goes ∙ file) is in
    Grown-reopened NoneGoes (Only x) v w (λ y no. absurd no)
    (record { kind = closes.kind; entry = closes.entry; was = λ y is. grown.handles y (closes.was y is); stays = closes.others })
    grown (λ y goes is. absurd (inner y goes is)) (λ y m goes. ap (λ k. v.entry k m) goes ∙ no_entries v grown x file m) (λ y goes same. inner y goes (ap v.kind same ∙ grown.rooted))

-- ---- nodes that nothing keeps any more

-- all goes that nothing keeps
pub record Sweeps (v w : Shape) (lives : ℕ → Bool) : Type 0 where
  pub kind : (y : ℕ) → w.kind y ≡ cond (lives y) (v.kind y) None
  pub entry : (q : ℕ) (m : List ℕ) → w.entry q m ≡ cond (lives q) (v.entry q m) None
  pub was : (y : ℕ) → w.opened y ≡ true → v.opened y ≡ true
  pub dead : (y : ℕ) → lives y ≡ false → IsUnnamed v y × (w.opened y ≡ true → ⊥) × (y ≢ root)
  pub alive : (y : ℕ) → lives y ≡ true → IsUnnamed v y → y ≢ root → w.opened y ≡ true

kept_kind : (found : Option Kind) (test : Bool) (k : Kind) → cond test found None ≡ Some k → (test ≡ true) × (found ≡ Some k)
kept_kind found true k is = (refl, is)
kept_kind found false k is = absurd (cc is)

kept_entry : (found : Option ℕ) (test : Bool) (y : ℕ) → cond test found None ≡ Some y → found ≡ Some y
kept_entry found true y is = is
kept_entry found false y is = absurd (cc is)

-- what is left is one tree of names
pub Grown-swept : (v w : Shape) (lives : ℕ → Bool) → Sweeps v w lives → Grown NoneGoes v → Grown NoneGoes w
Grown-swept v w lives sweeps grown =
    let alive : (y : ℕ) → v.kind y ≡ Some kinds.Directory → lives y ≡ true = λ y is.
    true_from_ne_false (lives y) (λ no.
    let dead = sweeps.dead y no in
    let same : kinds.Directory ≡ kinds.Regular = (grown.orphans y kinds.Directory (λ no. no) is dead.2 dead.0).0 in
    cc same) in
    let old : (q y : ℕ) (m : List ℕ) → w.entry q m ≡ Some y → v.entry q m ≡ Some y = λ q y m is. kept_entry (v.entry q m) (lives q) y (sym (sweeps.entry q m) ∙ is) in
    let new : (q y : ℕ) (m : List ℕ) → v.entry q m ≡ Some y → w.entry q m ≡ Some y =
    λ q y m is. sweeps.entry q m ∙ ap (λ b. cond b (v.entry q m) None) (alive q (grown.holds q y m is)) ∙ is in
    let folder : (y : ℕ) → v.kind y ≡ Some kinds.Directory → w.kind y ≡ Some kinds.Directory = λ y is. sweeps.kind y ∙ ap (λ b. cond b (v.kind y) None) (alive y is) ∙ is in
    record {
      rooted = folder root grown.rooted;
      top = λ q m is. grown.top q m (old q root m is);
      kept = (grown.kept.0, new root grown.kept.0 lost_and_found grown.kept.1, folder grown.kept.0 grown.kept.2);
      holds = λ q y m is. folder q (grown.holds q y m (old q y m is));
      there = λ q y m is.
          let found = grown.there q y m (old q y m is) in
          (found.0, sweeps.kind y ∙ ap (λ b. cond b (v.kind y) None) (true_from_ne_false (lives y) (λ no. (sweeps.dead y no).0 q m (old q y m is))) ∙ found.1);
      once = λ q r y m l is first second. grown.once q r y m l (kept_kind (v.kind y) (lives y) _ (sym (sweeps.kind y) ∙ is)).1 (old q y m first) (old r y l second);
      leads = λ y stays is.
          let way = grown.leads y (λ no. no) (kept_kind (v.kind y) (lives y) _ (sym (sweeps.kind y) ∙ is)).1 in
          (way.0, leads_on v.entry w.entry (λ q z m names. new q z m names) way.0 y way.1);
      orphans = λ y k stays is inner alone.
          let was = kept_kind (v.kind y) (lives y) k (sym (sweeps.kind y) ∙ is) in
          let unnamed : IsUnnamed v y = λ q m names. alone q m (new q y m names) in
          ((grown.orphans y k (λ no. no) was.1 inner unnamed).0, sweeps.alive y was.0 unnamed inner);
      handles = λ y is. sweeps.kind y ∙ ap (λ b. cond b (v.kind y) None) (true_from_ne_false (lives y) (λ no. (sweeps.dead y no).1 is)) ∙ grown.handles y (sweeps.was y is);
      bare = λ y goes. absurd goes;
      empty = λ y m goes. absurd goes;
      inner = λ y goes. absurd goes;
    }
