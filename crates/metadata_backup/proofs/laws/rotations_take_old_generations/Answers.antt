use Rattle.metadata_backup.proofs.GenerationLaws.{held_at-without_old_gone, held_at-without_old_kept}
use Rattle.metadata_backup.proofs.laws.rotations_take_old_generations.Goals as goal

pub returns : goal.returns
returns c = record {
  old = held_at-without_old_gone;
  others = held_at-without_old_kept;
}
