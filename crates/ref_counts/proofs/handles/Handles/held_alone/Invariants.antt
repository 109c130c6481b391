use Rattle.std.proofs.Common.{◌≡◌, ℕ}
use Rattle.std.specs.Prelude.{IsTrue, ◌==◌, ◌&&◌, ◌||◌, not}
use Rattle.std.specs.List.{list_any}
use Rattle.plain_tree.specs.Below.{is_among}
use Rattle.plain_tree.specs.Tree.{Handle}
use Rattle.s3_rows.specs.Validity.{differ}
use Rattle.ref_counts.specs.Handles.{closed_all, is_held, is_held_alone}
use Rattle.ref_counts.proofs.handles.Handles.held_alone.Given as goal

-- what is listed and what is left of the handles of the pass
abbrev pub invariant-loop-handle : goal.invariant-loop-handle
invariant-loop-handle l = record {
  once : IsTrue (differ (λ a b. b == a) l.inodes);
  alone :
      (x : ℕ) → (is_among l.inodes x || (list_any (λ (h : Handle). h.pass == l.fn.pass && h.inode == x) l.handle-iterator && not (is_held (closed_all l.fn.pass l.fn.self) x)))
      ≡ is_held_alone l.fn.pass l.fn.self x;
}
