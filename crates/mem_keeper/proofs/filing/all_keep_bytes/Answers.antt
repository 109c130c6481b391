use Rattle.std.proofs.Common.{All, take_all, subst, sym, ◌∙◌}
use Rattle.std.specs.Prelude.{IsTrue}
use Rattle.mem_keeper.specs.Filed.{keeps_bytes}
use Rattle.mem_keeper.specs.Table.{rows_of}
use Rattle.mem_keeper.proofs.Least.{all_step}
use Rattle.mem_keeper.proofs.filing.all_keep_bytes.Goals as goal

pub loop-change-preserved : goal.loop-change-preserved
loop-change-preserved c =
    all_step (λ d. IsTrue (keeps_bytes c.args.used (rows_of c.args.names.now.map.entries) d)) (λ d. IsTrue (keeps_bytes c.args.used (rows_of c.args.names.now.map.entries) d))
    c.args.changes.now c.loop-change.change-index c.change-item.result c.loop-change-test.true (λ d is. is) c.loop-change.invariant c.change-item.is
    (sym c.keeps_bytes_of.ensures ∙ c.if-not-keeps_bytes_of.false)

pub returns : goal.returns
returns c = λ _.
    subst (All (λ d. IsTrue (keeps_bytes c.args.used (rows_of c.args.names.now.map.entries) d))) (take_all c.loop-change.change-index c.args.changes.now c.loop-change-test.false) c.loop-change.invariant
