-- The shape of a tree from its definition, and back.
use Rattle.std.proofs.Common.{◌≡◌, ◌≢◌, ℕ, zero, suc, List, true, Option, None, Some, IsSome, refl, ap, ◌∙◌}
use Rattle.std.proofs.lemmas.Bool.{both_ways}
use Rattle.std.specs.Prelude.{option_and_then}
use Rattle.s3_base.specs.declared.node_kind.Kind.TheVariants as kinds
use Rattle.plain_tree.specs.Checks.{name_check}
use Rattle.plain_tree.specs.Entries.{is_folder, entry_at}
use Rattle.plain_tree.specs.Names.{NamesInOrder}
use Rattle.plain_tree.specs.Numbers.{InOrder}
use Rattle.s3_base.specs.Numbers.{root}
use Rattle.plain_tree.specs.Tree.{Tree, lost_and_found, node_at}
use Rattle.plain_tree.specs.WellFormed.{entries_naming, LeadsToRoot, HasOneTree, HasNoOrphans}
use Rattle.tree_laws.proofs.Node.Kind.{one_some, kind_in, some_kind, kind_there, folder_kind, is_a_folder, file_kind, is_a_file, holds_kind}
use Rattle.tree_laws.proofs.Shape.Count.{sum_one, named_once}
use Rattle.tree_laws.proofs.Shape.Named.{unnamed_by, not_named, is_named_by}
use Rattle.tree_laws.proofs.Shape.Steps.{Sound}
use Rattle.tree_laws.proofs.Shape.Tree.{shape_of}
use Rattle.tree_laws.proofs.Shape.Words.{Leads, Grown, NoneGoes}

-- ---- from the definition

-- what the removal of a subtree asks of a tree
pub record Rooted (t : Tree) : Type 0 where
  pub ordered : InOrder t
  pub names : NamesInOrder t
  pub grown : Grown NoneGoes (shape_of t)

from_root : (t : Tree) (steps x : ℕ) → LeadsToRoot t steps x → Leads (entry_at t) steps x
from_root t zero x leads = leads
from_root t (suc steps) x leads = (leads.0, leads.1, leads.2, from_root t steps leads.0 leads.3)

-- from the definition
module _ (t : Tree) (tree : HasOneTree t) where
  pub root_unnamed : (p : ℕ) (n : List ℕ) → entry_at t p n ≡ Some root → ⊥
  root_unnamed p n is =
      both_ways _ tree.root_is_unnamed (is_named_by t root p n is)

  pub named_at_one_place : (p q x : ℕ) (n m : List ℕ) → kind_in (node_at t x) ≡ Some kinds.Directory → entry_at t p n ≡ Some x → entry_at t q m ≡ Some x → (q ≡ p) × (m ≡ n)
  named_at_one_place p q x n m folder first second =
      named_once t x p q n m (tree.once x (is_a_folder (node_at t x) folder) (λ same. root_unnamed p n (first ∙ ap Some same))) first second

  -- the parents of a directory lead to the root
  pub way_up : (x : ℕ) → kind_in (node_at t x) ≡ Some kinds.Directory → (steps : ℕ) × Leads (entry_at t) steps x
  way_up x folder =
      let way = tree.leads x (is_a_folder (node_at t x) folder) in
      (way.0, from_root t way.0 x way.1)

kept_of : (t : Tree) (found : Option ℕ) → entry_at t root lost_and_found ≡ found → is_folder (option_and_then (node_at t) found) ≡ true
    → (x : ℕ) × (entry_at t root lost_and_found ≡ Some x) × (kind_in (node_at t x) ≡ Some kinds.Directory)
kept_of t None is folder = absurd (cc folder)
kept_of t (Some x) is folder = (x, is, folder_kind (node_at t x) folder)

-- a tree that is well formed is grown
pub grown_of : (t : Tree) → InOrder t → NamesInOrder t → HasOneTree t → HasNoOrphans t → Grown NoneGoes (shape_of t)
grown_of t ordered names tree files = record {
  rooted = folder_kind (node_at t root) tree.is_rooted;
  top = λ p n is. root_unnamed t tree p n is;
  kept = kept_of t (entry_at t root lost_and_found) refl tree.keeps_lost_and_found;
  holds = λ p x n is. holds_kind (node_at t p) n x is;
  there = λ p x n is. some_kind (node_at t x) (tree.entries p x n is);
  once = λ p q x n m folder first second. named_at_one_place t tree p q x n m folder first second;
  leads = λ x stays folder. way_up t tree x folder;
  orphans = λ x k stays kind inner unnamed.
      let found = files.orphans x (kind_there (node_at t x) k kind) inner (not_named t ordered names x unnamed) in
      (one_some _ k kinds.Regular kind (file_kind (node_at t x) found.0), found.1);
  handles = λ x opened. file_kind (node_at t x) (files.handles x opened);
  bare = λ x goes. absurd goes;
  empty = λ x n goes. absurd goes;
  inner = λ x goes. absurd goes;
}

-- ---- and back

to_root : (t : Tree) (steps x : ℕ) → Leads (entry_at t) steps x → LeadsToRoot t steps x
to_root t zero x leads = leads
to_root t (suc steps) x leads = (leads.0, leads.1, leads.2, to_root t steps leads.0 leads.3)

-- and back to it
module _ (t : Tree) (sound : Sound t) where
  counted_once : (x : ℕ) → kind_in (node_at t x) ≡ Some kinds.Directory → x ≢ root → (steps : ℕ) → Leads (entry_at t) steps x → entries_naming t x ≡ 1
  counted_once x folder inner zero leads = absurd (inner leads)
  counted_once x folder inner (suc steps) leads =
      sum_one x leads.0 leads.1 0 t.nodes t.next_inode sound.ordered sound.names leads.2 (λ q m found. sound.grown.once leads.0 q x leads.1 m folder leads.2 found)

  pub named_there : (p x : ℕ) (n : List ℕ) → entry_at t p n ≡ Some x → IsSome (node_at t x)
  named_there p x n is =
      let found = sound.grown.there p x n is in
      kind_there (node_at t x) found.0 found.1

  -- a grown tree with legal names is one tree of names
  pub tree_of : ((p x : ℕ) (n : List ℕ) → entry_at t p n ≡ Some x → name_check n ≡ None) → HasOneTree t
  tree_of legal =
      let grown : Grown NoneGoes (shape_of t) = sound.grown in
      record {
        is_rooted = is_a_folder (node_at t root) grown.rooted;
        root_is_unnamed = not_named t sound.ordered sound.names root grown.top;
        keeps_lost_and_found = ap (λ x. is_folder (option_and_then (node_at t) x)) grown.kept.1 ∙ is_a_folder (node_at t grown.kept.0) grown.kept.2;
        entries = λ p x n is. named_there p x n is;
        names = λ p x n is. legal p x n is;
        once = λ x folder inner.
            let kind : kind_in (node_at t x) ≡ Some kinds.Directory = folder_kind (node_at t x) folder in
            let way = grown.leads x (λ none. none) kind in
            counted_once x kind inner way.0 way.1;
        leads = λ x folder.
            let way = grown.leads x (λ none. none) (folder_kind (node_at t x) folder) in
            (way.0, to_root t way.0 x way.1);
      }

  -- and has no orphans
  pub orphans_of : HasNoOrphans t
  orphans_of = record {
    orphans = λ x there inner unnamed.
        let kind = some_kind (node_at t x) there in
        let found = sound.grown.orphans x kind.0 (λ none. none) kind.1 inner (unnamed_by t x unnamed) in
        (is_a_file (node_at t x) (kind.1 ∙ ap Some found.0), found.1);
    handles = λ x opened. is_a_file (node_at t x) (sound.grown.handles x opened);
  }
