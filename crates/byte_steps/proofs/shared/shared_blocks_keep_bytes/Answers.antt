use Rattle.byte_steps.proofs.KeptFiles.{SharesBlocks-names}
use Rattle.byte_steps.proofs.SharedBlocks.{HasBytes-shared, IsExact-shared}
use Rattle.byte_steps.proofs.shared.shared_blocks_keep_bytes.Goals as goal

pub returns-clause-names : goal.returns-clause-names
returns-clause-names c = λ t after whole next valid before represents rest size keeps. SharesBlocks-names t after whole next valid before represents rest size keeps

pub returns-clause-bytes : goal.returns-clause-bytes
returns-clause-bytes c =
    λ m t after whole next before ordered shares has.
    HasBytes-shared t after whole next shares m (c.kept_rows_keep_what_is_held.ensures.known m t after before ordered shares.rows has.fits) has

pub returns-clause-exact : goal.returns-clause-exact
returns-clause-exact c = λ digest_of t after whole next shares. IsExact-shared t after whole next shares digest_of

pub returns-clause-held : goal.returns-clause-held
returns-clause-held c =
    λ m held t after whole next before ordered shares. c.kept_rows_keep_what_is_held.ensures.held m held t after before ordered shares.rows

pub returns-clause-stored : goal.returns-clause-stored
returns-clause-stored c =
    λ digest_of held t after whole next before ordered shares. c.kept_rows_keep_what_is_held.ensures.stored digest_of held t after before ordered shares.rows
