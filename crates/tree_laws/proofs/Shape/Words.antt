-- What kinds of nodes there are, what the entries name, and which nodes are open; and what holds of these in every tree.
use Rattle.std.proofs.Common.{◌≡◌, ◌≢◌, ℕ, zero, suc, List, Bool, true, Option, None, Some, sym, ap, ◌∙◌, ◌⊎◌, inl, inr}
use Rattle.std.proofs.lemmas.Bool.{cases_eq}
use Rattle.s3_base.specs.declared.node_kind.Kind.{Kind}
use Rattle.s3_base.specs.declared.node_kind.Kind.TheVariants as kinds
use Rattle.s3_base.specs.Numbers.{root}
use Rattle.plain_tree.specs.Tree.{lost_and_found}
use Rattle.tree_laws.proofs.Node.Keys.{cases_name}
use Rattle.tree_laws.proofs.Node.Kind.{none_some, one_some}

-- what a tree is apart from bytes and times
pub record Shape : Type 0 where
  pub kind : ℕ → Option Kind
  pub entry : ℕ → List ℕ → Option ℕ
  pub opened : ℕ → Bool

-- so many steps up from an inode is the root
abbrev pub Leads : (ℕ → List ℕ → Option ℕ) → ℕ → ℕ → Type 0
Leads entry zero inode = inode ≡ root
Leads entry (suc steps) inode = (parent : ℕ) × (name : List ℕ) × (entry parent name ≡ Some inode) × Leads entry steps parent

-- no entry names the inode
abbrev pub IsUnnamed : Shape → ℕ → Type 0
IsUnnamed v inode = (parent : ℕ) (name : List ℕ) → v.entry parent name ≡ Some inode → ⊥

-- one tree of names from the root without orphans, but for inodes that are about to go: these have no entries, and no entry
-- names one that is a directory
pub record Grown (but : ℕ → Type 0) (v : Shape) : Type 0 where
  pub rooted : v.kind root ≡ Some kinds.Directory
  pub top : IsUnnamed v root
  pub kept : (x : ℕ) × (v.entry root lost_and_found ≡ Some x) × (v.kind x ≡ Some kinds.Directory)
  pub holds : (parent inode : ℕ) (name : List ℕ) → v.entry parent name ≡ Some inode → v.kind parent ≡ Some kinds.Directory
  pub there : (parent inode : ℕ) (name : List ℕ) → v.entry parent name ≡ Some inode → (k : Kind) × (v.kind inode ≡ Some k)
  pub once : (parent other inode : ℕ) (name another : List ℕ) → v.kind inode ≡ Some kinds.Directory → v.entry parent name ≡ Some inode → v.entry other another ≡ Some inode
      → (other ≡ parent) × (another ≡ name)
  pub leads : (inode : ℕ) → (but inode → ⊥) → v.kind inode ≡ Some kinds.Directory → (steps : ℕ) × Leads v.entry steps inode
  pub orphans : (inode : ℕ) (k : Kind) → (but inode → ⊥) → v.kind inode ≡ Some k → inode ≢ root → IsUnnamed v inode → (k ≡ kinds.Regular) × (v.opened inode ≡ true)
  pub handles : (inode : ℕ) → v.opened inode ≡ true → v.kind inode ≡ Some kinds.Regular
  pub bare : (inode : ℕ) → but inode → v.kind inode ≡ Some kinds.Directory → IsUnnamed v inode
  pub empty : (inode : ℕ) (name : List ℕ) → but inode → v.entry inode name ≡ None
  pub inner : (inode : ℕ) → but inode → inode ≢ root

-- no inode is about to go
abbrev pub NoneGoes : ℕ → Type 0
NoneGoes inode = ⊥

abbrev pub Only : ℕ → ℕ → Type 0
Only one inode = inode ≡ one

-- ---- places of entries

-- two places of entries are one
abbrev pub IsPlace : ℕ → List ℕ → ℕ → List ℕ → Type 0
IsPlace parent name q m = (q ≡ parent) × (m ≡ name)

pub cases_place : (parent : ℕ) (name : List ℕ) (q : ℕ) (m : List ℕ) → IsPlace parent name q m ⊎ (IsPlace parent name q m → ⊥)
cases_place parent name q m =
    elim (cases_eq q parent) [
      | inl same ↦ elim (cases_name m name) [
        | inl also ↦ inl (same, also)
        | inr differs ↦ inr (λ both. differs both.1)
      ]
      | inr differs ↦ inr (λ both. differs both.0)
    ]

-- an entry is at one place, and names one inode
pub one_entry : (entry : ℕ → List ℕ → Option ℕ) (parent : ℕ) (name : List ℕ) (q : ℕ) (m : List ℕ) (x y : ℕ) → IsPlace parent name q m → entry parent name ≡ Some x → entry q m ≡ Some y → y ≡ x
one_entry entry parent name q m x y same first second = one_some _ y x second (ap (λ k. entry k m) same.0 ∙ ap (entry parent) same.1 ∙ first)

pub not_there : (entry : ℕ → List ℕ → Option ℕ) (parent : ℕ) (name : List ℕ) (q : ℕ) (m : List ℕ) (y : ℕ) → IsPlace parent name q m → entry parent name ≡ None → entry q m ≡ Some y → ⊥
not_there entry parent name q m y same none is = none_some _ y none (ap (λ k. entry k name) (sym same.0) ∙ ap (entry q) (sym same.1) ∙ is)

-- ---- shapes that are the same

-- two shapes are alike
pub record Same (v w : Shape) : Type 0 where
  pub kind : (inode : ℕ) → w.kind inode ≡ v.kind inode
  pub entry : (parent : ℕ) (name : List ℕ) → w.entry parent name ≡ v.entry parent name
  pub opened : (inode : ℕ) → w.opened inode ≡ v.opened inode

-- a way up that every entry of it keeps
pub leads_on : (entry after : ℕ → List ℕ → Option ℕ) → ((parent inode : ℕ) (name : List ℕ) → entry parent name ≡ Some inode → after parent name ≡ Some inode) → (steps inode : ℕ)
    → Leads entry steps inode → Leads after steps inode
leads_on entry after keeps zero inode leads = leads
leads_on entry after keeps (suc steps) inode leads = (leads.0, leads.1, keeps leads.0 inode leads.1 leads.2, leads_on entry after keeps steps leads.0 leads.3)

-- shapes with the same nodes and entries: what is open now is a file, and what was open is so still, but for what goes
pub record Reopened (but : ℕ → Type 0) (v w : Shape) : Type 0 where
  pub kind : (y : ℕ) → w.kind y ≡ v.kind y
  pub entry : (q : ℕ) (m : List ℕ) → w.entry q m ≡ v.entry q m
  pub was : (y : ℕ) → w.opened y ≡ true → v.kind y ≡ Some kinds.Regular
  pub stays : (y : ℕ) → (but y → ⊥) → v.opened y ≡ true → w.opened y ≡ true

-- the shape stays grown where more is about to go, which is no root, has no entries and is unnamed as a directory
pub Grown-reopened : (but more : ℕ → Type 0) (v w : Shape) → ((y : ℕ) → but y → more y) → Reopened more v w → Grown but v → ((y : ℕ) → more y → v.kind y ≡ Some kinds.Directory → IsUnnamed v y)
    → ((y : ℕ) (m : List ℕ) → more y → v.entry y m ≡ None) → ((y : ℕ) → more y → y ≢ root) → Grown more w
Grown-reopened but more v w wider same grown bare empty inner = record {
  rooted = same.kind root ∙ grown.rooted;
  top = λ q m is. grown.top q m (sym (same.entry q m) ∙ is);
  kept = (grown.kept.0, same.entry root lost_and_found ∙ grown.kept.1, same.kind grown.kept.0 ∙ grown.kept.2);
  holds = λ q y m is. same.kind q ∙ grown.holds q y m (sym (same.entry q m) ∙ is);
  there = λ q y m is.
      let found = grown.there q y m (sym (same.entry q m) ∙ is) in
      (found.0, same.kind y ∙ found.1);
  once = λ q r y m l is first second. grown.once q r y m l (sym (same.kind y) ∙ is) (sym (same.entry q m) ∙ first) (sym (same.entry r l) ∙ second);
  leads = λ y stays is.
      let way = grown.leads y (λ goes. stays (wider y goes)) (sym (same.kind y) ∙ is) in
      (way.0, leads_on v.entry w.entry (λ q z m names. same.entry q m ∙ names) way.0 y way.1);
  orphans = λ y k stays is below alone.
      let found = grown.orphans y k (λ goes. stays (wider y goes)) (sym (same.kind y) ∙ is) below (λ q m names. alone q m (same.entry q m ∙ names)) in
      (found.0, same.stays y stays found.1);
  handles = λ y is. same.kind y ∙ same.was y is;
  bare = λ y goes is q m names. bare y goes (sym (same.kind y) ∙ is) q m (sym (same.entry q m) ∙ names);
  empty = λ y m goes. same.entry y m ∙ empty y m goes;
  inner = inner;
}

pub Grown-same : (but : ℕ → Type 0) (v w : Shape) → Same v w → Grown but v → Grown but w
Grown-same but v w same grown =
    Grown-reopened but but v w (λ y goes. goes)
    (record { kind = same.kind; entry = same.entry; was = λ y is. grown.handles y (sym (same.opened y) ∙ is); stays = λ y stays is. same.opened y ∙ is })
    grown grown.bare grown.empty grown.inner

-- a handle that is opened
pub Grown-opened : (v w : Shape) → Reopened NoneGoes v w → Grown NoneGoes v → Grown NoneGoes w
Grown-opened v w opens grown = Grown-reopened NoneGoes NoneGoes v w (λ y goes. goes) opens grown grown.bare grown.empty grown.inner
