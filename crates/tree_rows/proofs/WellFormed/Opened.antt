-- The tree of valid tables in which every inode is named is well formed without handles.
use Rattle.std.proofs.Common.{◌≡◌, ℕ, List, [], Bool, true, false, refl, sym, ap, ◌∙◌, subst, arith}
use Rattle.std.specs.Prelude.{IsTrue, not, ◌||◌, ◌==◌}
use Rattle.std.specs.List.{list_all, list_any}
use Rattle.std.specs.Map.{keys_of}
use Rattle.plain_tree.specs.Tree.{Handle, Tree, node_at}
use Rattle.plain_tree.specs.Entries.{is_open}
use Rattle.plain_tree.specs.Numbers.{Ascend}
use Rattle.plain_tree.specs.WellFormed.{IsWellFormed, is_file}
use Rattle.s3_rows.specs.Ranges.{HasRanges}
use Rattle.s3_rows.specs.Rows.{Inode}
use Rattle.s3_rows.specs.Tables.{Tables}
use Rattle.s3_rows.specs.Validity.{IsValid, is_regular}
use Rattle.row_lemmas.proofs.Tests.{list_all_weaker}
use Rattle.tree_rows.specs.Premises.{HasItsHandles, is_named_or_regular, is_named_or_open}
use Rattle.tree_rows.specs.Shapes.{Represents}
use Rattle.tree_rows.proofs.WellFormed.Tree.{IsWellFormed_from_valid}

-- some entry names the inode
abbrev has_names : Inode → Bool
has_names r = not (r.refcount == 0)

named_or : (named other : Bool) → IsTrue named → IsTrue (named || other)
named_or true other is = refl
named_or false other is = absurd (cc is)

HasItsHandles_none : (t : Tables) (whole : Tree) → IsTrue (list_all has_names t.inodes) → whole.handles ≡ []
    → whole.next_handle ≡ 1 → HasItsHandles t whole
HasItsHandles_none t whole named none next = record {
  order =
      subst (λ (handles : List (ℕ × Handle)). Ascend 0 (keys_of handles) whole.next_handle) (sym none) (omega arith);
  next = omega (arith, next);
  files = not_open;
  nameless =
      list_all_weaker has_names (is_named_or_open whole)
      (λ r own. named_or (has_names r) (is_open whole r.id) own) t.inodes named;
}
  where
    not_open : (inode : ℕ) → IsTrue (is_open whole inode) → IsTrue (is_file (node_at whole inode))
    not_open inode open_there =
        let clash : false ≡ true = sym (ap (list_any (λ (h : ℕ × Handle). h.1.inode == inode)) none) ∙ open_there in
        absurd (cc clash)

pub IsWellFormed_from_named : (t : Tables) (whole : Tree) → IsValid t → HasRanges t
    → IsTrue (list_all (λ r. not (r.refcount == 0)) t.inodes) → Represents t whole → whole.handles ≡ []
    → whole.next_handle ≡ 1 → IsWellFormed whole
IsWellFormed_from_named t whole valid ranges named same none next =
    IsWellFormed_from_valid t whole valid ranges same
    (list_all_weaker has_names is_named_or_regular
    (λ r own. named_or (has_names r) (is_regular r.kind) own) t.inodes named)
    (HasItsHandles_none t whole named none next)
