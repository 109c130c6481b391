use Rattle.std.proofs.Common.{sym, ◌∙◌}
use Rattle.mem_keeper.specs.Table.{rows_of}
use Rattle.mem_keeper.proofs.Least.{not_these}
use Rattle.mem_keeper.proofs.indexes.unlist.Goals as goal

-- no row of the id has these bytes, so what is taken out is listed for no row
pub returns-then-not-has_bytes : goal.returns-then-not-has_bytes
returns-then-not-has_bytes g c = λ id r there. c.remove.ensures (g.R.Indexed.bytes r) id (λ bytes same. not_these g.R.Keyed.key g.R.Indexed.bytes (rows_of c.args.table.now.entries) c.bytes.result.now c.key.result id r (sym c.if-not-has_bytes.ensures) there (bytes ∙ c.bytes-then-not-has_bytes.ensures ∙ sym c.bytes.ensures) (same ∙ c.key-then-not-has_bytes.ensures.key ∙ sym c.key.ensures.key)) (c.requires.covers id r there)
