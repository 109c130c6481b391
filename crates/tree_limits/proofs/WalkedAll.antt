-- The walk of a copy, turn by turn, comes to all that the copy is of.
use Rattle.std.proofs.Common.{◌≡◌, ℕ, zero, suc, List, [], ◌∷◌, ◌++◌, Bool, true, false, Option, None, Some, refl, subst}
use Rattle.std.specs.Prelude.{find}
use Rattle.plain_tree.specs.Below.{is_among}
use Rattle.plain_tree.specs.Subtrees.{copy_number}
use Rattle.plain_tree.specs.Tree.{Tree}
use Rattle.s3_rows.specs.declared.lists.NamedEntry.{NamedEntry}
use Rattle.s3_rows.specs.Keyed.{is_past}
use Rattle.s3_rows.specs.Rows.{Inode}
use Rattle.s3_rows.specs.Selections.{by_entry_name, inode_at, named_entries}
use Rattle.s3_rows.specs.Tables.{Tables}
use Rattle.tree_copy.specs.declared.walk.Level.{Level}
use Rattle.tree_copy.specs.CopiedRows.{Visit, all_seen}
use Rattle.tree_copy.specs.CopyLevels.{HasCome, first_level, levels_after, visit_of}
use Rattle.tree_copy.specs.CopyWalks.{AreWalked, Walk, turned, walk_after, walk_on, walk_to}

-- by what each turn makes of it
module _ (t : Tables) (whole : Tree) (top : ℕ)
    (first : HasCome t whole top [] (first_level top whole.next_inode ∷ []))
    (done : (visits : List Visit) (l : Level) (levels : List Level) → HasCome t whole top visits (l ∷ levels) → find (is_past by_entry_name l.last) (named_entries t l.directory) ≡ None
    → HasCome t whole top visits levels)
    (again : (visits : List Visit) (l : Level) (levels : List Level) (e : NamedEntry) (r : Inode) → HasCome t whole top visits (l ∷ levels)
    → find (is_past by_entry_name l.last) (named_entries t l.directory) ≡ Some e → inode_at t e.row.inode ≡ Some r → is_among (all_seen (top ∷ []) visits) r.id ≡ true
    → HasCome t whole top (visits ++ visit_of l e r ∷ []) (levels_after l e r true 0 levels))
    (new : (copy : ℕ) (visits : List Visit) (l : Level) (levels : List Level) (e : NamedEntry) (r : Inode) → HasCome t whole top visits (l ∷ levels)
    → find (is_past by_entry_name l.last) (named_entries t l.directory) ≡ Some e → inode_at t e.row.inode ≡ Some r → is_among (all_seen (top ∷ []) visits) r.id ≡ false
    → copy ≡ copy_number whole.next_inode (all_seen (top ∷ []) visits) r.id
    → HasCome t whole top (visits ++ visit_of l e r ∷ []) (levels_after l e r false copy levels)) where
  abbrev Comes : Walk → Type 0
  Comes w = HasCome t whole top w.visits w.levels

  comes-turned : (visits : List Visit) (levels : List Level) → HasCome t whole top visits levels → Comes (turned t whole.next_inode top visits levels)
  comes-turned visits [] come = come
  comes-turned visits (l ∷ levels) come = by_entry (find (is_past by_entry_name l.last) (named_entries t l.directory)) refl
    where
      by_seen : (e : NamedEntry) (r : Inode) → find (is_past by_entry_name l.last) (named_entries t l.directory) ≡ Some e → inode_at t e.row.inode ≡ Some r
          → (b : Bool) → is_among (all_seen (top ∷ []) visits) r.id ≡ b
          → HasCome t whole top (visits ++ visit_of l e r ∷ []) (levels_after l e r b (copy_number whole.next_inode (all_seen (top ∷ []) visits) r.id) levels)
      by_seen e r next there true is = again visits l levels e r come next there is
      by_seen e r next there false is = new (copy_number whole.next_inode (all_seen (top ∷ []) visits) r.id) visits l levels e r come next there is refl

      by_row : (e : NamedEntry) → find (is_past by_entry_name l.last) (named_entries t l.directory) ≡ Some e → (found : Option Inode) → inode_at t e.row.inode ≡ found
          → Comes (walk_to whole.next_inode top visits l levels e found)
      by_row e next None there = come
      by_row e next (Some r) there = by_seen e r next there (is_among (all_seen (top ∷ []) visits) r.id) refl

      by_entry : (found : Option NamedEntry) → find (is_past by_entry_name l.last) (named_entries t l.directory) ≡ found
          → Comes (walk_on t whole.next_inode top visits l levels found)
      by_entry None none = done visits l levels come none
      by_entry (Some e) next = by_row e next (inode_at t e.row.inode) refl

  comes : (n : ℕ) → Comes (walk_after n t whole.next_inode top)
  comes zero = first
  comes (suc n) = comes-turned (walk_after n t whole.next_inode top).visits (walk_after n t whole.next_inode top).levels (comes n)

  -- where no level is left
  pub comes_to_all : (visits : List Visit) → AreWalked t whole.next_inode top visits → HasCome t whole top visits []
  comes_to_all visits walked = subst Comes walked.is (comes walked.turns)
