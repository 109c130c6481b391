use Rattle.byte_steps.proofs.KeptFiles.{KeepsBytes-effect, SharesBlocks-names, block_size-effect}
use Rattle.byte_steps.proofs.SharedBlocks.{HasBytes-shared, IsExact-shared}
use Rattle.byte_steps.proofs.names.operations_on_names_keep_bytes.Goals as goal

pub returns-clause-files : goal.returns-clause-files
returns-clause-files c = KeepsBytes-effect

pub returns-clause-size : goal.returns-clause-size
returns-clause-size c = block_size-effect

pub returns-clause-bytes : goal.returns-clause-bytes
returns-clause-bytes c =
    λ m t after whole next valid sound before represents rest size keeps has.
    HasBytes-shared t after whole next (SharesBlocks-names t after whole next valid before represents rest size keeps) m
    (c.kept_rows_keep_what_is_held.ensures.known m t after valid.ordered sound.ordered rest.blocks has.fits) has

pub returns-clause-exact : goal.returns-clause-exact
returns-clause-exact c =
    λ digest_of t after whole next valid sound before represents rest size keeps.
    IsExact-shared t after whole next (SharesBlocks-names t after whole next valid before represents rest size keeps) digest_of

pub returns-clause-held : goal.returns-clause-held
returns-clause-held c =
    λ m held t after rest before ordered. c.kept_rows_keep_what_is_held.ensures.held m held t after before ordered rest.blocks

pub returns-clause-stored : goal.returns-clause-stored
returns-clause-stored c =
    λ digest_of held t after rest before ordered. c.kept_rows_keep_what_is_held.ensures.stored digest_of held t after before ordered rest.blocks
