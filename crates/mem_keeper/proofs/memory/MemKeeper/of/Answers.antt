use Rattle.std.proofs.Common.{sym, subst, ◌∙◌}
use Rattle.s3_rows.specs.Ranges.{HasRanges}
use Rattle.mem_keeper.specs.Store.{tables_of}
use Rattle.mem_keeper.proofs.memory.MemKeeper.of.Goals as goal

pub invariant_of-result : goal.invariant_of-result
invariant_of-result c = record {
  maps = c.of.ensures.maps;
  ranges = subst HasRanges (sym c.of.ensures.tables) c.tell_all_ranges.ensures;
  standing = λ stands. absurd (cc (sym c.new.ensures ∙ stands));
  filed = c.new-2.ensures (tables_of c.of.result);
}
