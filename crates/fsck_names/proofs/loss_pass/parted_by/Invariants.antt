use Rattle.std.proofs.Common.{◌≡◌, ◌==◌, ◌++◌, not, filter, drop}
use Rattle.fsck_names.proofs.loss_pass.parted_by.Given as goal

-- the entries so far, and those to come
abbrev pub invariant-loop-row : goal.invariant-loop-row
invariant-loop-row l = record {
  gone : l.gone.items ++ filter (λ r. r.inode == l.inode) (drop l.row-index l.rows) ≡ filter (λ r. r.inode == l.inode) l.rows;
  kept : l.kept.items ++ filter (λ r. not (r.inode == l.inode)) (drop l.row-index l.rows) ≡ filter (λ r. not (r.inode == l.inode)) l.rows;
}
