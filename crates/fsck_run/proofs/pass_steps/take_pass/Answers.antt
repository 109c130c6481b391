use Rattle.std.proofs.Common.{◌≡◌, Some}
use Rattle.std.specs.Prelude.{option_map}
use Rattle.s3_rows.specs.Tables.{IsOrdered}
use Rattle.s3_rows.specs.Told.{Told}
use Rattle.fsck_run.specs.Passes.{IsTaken, committed, found_in, is_some_batch}
use Rattle.fsck_run.proofs.TakenPasses.{if_ok_both, taken_told}
use Rattle.fsck_run.proofs.pass_steps.take_pass.Goals as goal

pub returns-clause-taken : goal.returns-clause-taken
returns-clause-taken g c =
    let found = g.P.Pass.found c.args.keys.now in
    let before = g.K.Keeper.told c.args.keeper.now in
    let middle = g.K.Keeper.told c.tables_of.new.keeper in
    let after = g.K.Keeper.told c.commit_some.new.keeper in
    let old = c.args.findings.now in
    let new = c.add_lines.new.findings in
    if_ok_both c.commit_some.result (λ _. after ≡ option_map (committed c.in_ok-repair.repair.batch) middle)
    (λ made. made ≡ is_some_batch c.in_ok-repair.repair.batch)
    (λ made. (s : Told) → before ≡ Some s → IsOrdered s.tables → IsTaken (found_in found s.tables) s after old new made)
    (λ made told made_is. taken_told found c.in_ok-repair.repair c.in_ok-tables.tables before middle after old new made
    c.in_ok-repair.ensures c.in_ok-tables.ensures.tables c.in_ok-tables.ensures.made c.tables_of.ensures.same told c.in_ok-add_lines.ensures made_is)
    c.commit_some.ensures.ok c.commit_some.ensures.made
