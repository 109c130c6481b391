use Rattle.std.proofs.Common.{◌≡◌, ◌++◌, map, length}
use Rattle.s3_rows.specs.Keyed.{row_at}
use Rattle.s3_rows.specs.Tables.{by_entry}
use Rattle.mem_keeper.specs.Holders.{naming}
use Rattle.mem_keeper.specs.Table.{rows_of}
use Rattle.mem_keeper.proofs.holders.rows_naming.Given as goal

abbrev pub invariant-loop-place : goal.invariant-loop-place
invariant-loop-place l =
    l.rows.items ++ rows_of (map (λ e. (e.0.1, naming l.inode (row_at by_entry e.0.1 (rows_of l.contents.entries)))) l.entries)
    ≡ rows_of (map (λ e. (e.0.1, naming l.inode (row_at by_entry e.0.1 (rows_of l.contents.entries)))) l.initial.entries)

abbrev pub decreases-loop-place : goal.decreases-loop-place
decreases-loop-place l = length l.entries
