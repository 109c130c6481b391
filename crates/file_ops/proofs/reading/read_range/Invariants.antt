use Rattle.std.proofs.Common.{◌≡◌, ◌+◌, ◌≤◌, ℕ, length, min}
use Rattle.block_math.specs.Ranges.{piece_start}
use Rattle.plain_tree.specs.Files.{read_at}
use Rattle.file_ops.specs.FileBytes.{IfFile}
use Rattle.file_ops.proofs.reading.read_range.Given as goal

-- the devices tell what they did, and the range up to the k-th block is read
abbrev pub invariant-loop-k : goal.invariant-loop-k
invariant-loop-k g l = record {
  keeper_same : g.K.Keeper.told l.keeper ≡ g.K.Keeper.told l.fn.keeper;
  link_same : g.L.Link.told l.link ≡ g.L.Link.told l.fn.link;
  keeper_later : g.K.Keeper.faults l.fn.keeper ≤ g.K.Keeper.faults l.keeper;
  link_later : g.L.Link.faults l.fn.link ≤ g.L.Link.faults l.link;
  len : length l.bytes.items ≡ min l.len (piece_start l.off l.block_size l.k);
  bytes :
      (size : ℕ) → l.off + l.len ≤ size
      → IfFile (g.K.Keeper.told l.fn.keeper) (g.L.Link.told l.fn.link) l.inode size l.block_size
      (λ file. l.bytes.items ≡ read_at l.off (min l.len (piece_start l.off l.block_size l.k)) file);
}
