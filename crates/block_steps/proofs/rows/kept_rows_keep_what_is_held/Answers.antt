use Rattle.block_steps.proofs.KeptRows.{AreHeld-kept, HaveBytes-kept, HaveHeld-kept}
use Rattle.block_steps.proofs.rows.kept_rows_keep_what_is_held.Goals as goal

pub returns : goal.returns
returns c = record { held = HaveHeld-kept; known = HaveBytes-kept; stored = AreHeld-kept }
