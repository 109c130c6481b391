use Rattle.std.proofs.Common.{length}
use Rattle.block_math.specs.Changes.{resized, written_at}
use Rattle.core_model.specs.Changes.{blocks_of_resize, blocks_of_write}
use Rattle.byte_steps.specs.Changed.{stored_length}
use Rattle.byte_steps.proofs.ChangedFiles.{HasBytes-changed, IsExact-changed, stored_length-past}
use Rattle.byte_steps.proofs.ChangedNumbers.{grown-resized, grown-written_at}
use Rattle.byte_steps.proofs.files.changed_files_have_their_bytes.Goals as goal

pub returns-clause-written : goal.returns-clause-written
returns-clause-written c =
    λ digest_of m t after whole next inode off text old was some written ends changed fits known has.
    HasBytes-changed digest_of t after whole next inode old (written_at off text old)
    (blocks_of_write whole.block_size off (length text) (length old) (stored_length t inode)) was changed c.shown_pieces_may_be_resized.ensures m
    (λ n none. c.other_blocks_are_left.ensures.written whole.block_size off n text old (stored_length t inode) some written
    (stored_length-past t inode whole.block_size (length old) ends) none)
    fits known has

pub returns-clause-resized : goal.returns-clause-resized
returns-clause-resized c =
    λ digest_of m t after whole next inode longer old was some ends changed fits known has.
    HasBytes-changed digest_of t after whole next inode old (resized longer old) (blocks_of_resize whole.block_size longer (length old) (stored_length t inode)) was changed
    c.shown_pieces_may_be_resized.ensures m
    (λ n none. c.other_blocks_are_left.ensures.resized whole.block_size longer n old (stored_length t inode) some
    (stored_length-past t inode whole.block_size (length old) ends) none)
    fits known has

pub returns-clause-written_exact : goal.returns-clause-written_exact
returns-clause-written_exact c =
    λ digest_of t after whole next inode off text old was some written ends changed exact.
    IsExact-changed digest_of t after whole next inode old (written_at off text old)
    (blocks_of_write whole.block_size off (length text) (length old) (stored_length t inode)) was changed
    (λ n none. c.other_blocks_are_left.ensures.written whole.block_size off n text old (stored_length t inode) some written
    (stored_length-past t inode whole.block_size (length old) ends) none)
    (λ n none inside. grown-written_at whole.block_size off n text old) exact

pub returns-clause-resized_exact : goal.returns-clause-resized_exact
returns-clause-resized_exact c =
    λ digest_of t after whole next inode longer old was some ends changed exact.
    IsExact-changed digest_of t after whole next inode old (resized longer old) (blocks_of_resize whole.block_size longer (length old) (stored_length t inode)) was changed
    (λ n none. c.other_blocks_are_left.ensures.resized whole.block_size longer n old (stored_length t inode) some
    (stored_length-past t inode whole.block_size (length old) ends) none)
    (λ n none inside. grown-resized whole.block_size longer n old (stored_length t inode) some none inside) exact
