use Rattle.block_math.proofs.TrimmedLemmas.{trimmed-end, padded-trimmed, trimmed-padded, trimmed-block_of}
use Rattle.block_math.proofs.laws.trimmed_form_stands_for_its_block.Goals as goal

pub returns-clause-end : goal.returns-clause-end
returns-clause-end c = trimmed-end

pub returns-clause-padded : goal.returns-clause-padded
returns-clause-padded c = padded-trimmed

pub returns-clause-zeros : goal.returns-clause-zeros
returns-clause-zeros c = trimmed-padded

pub returns-clause-block : goal.returns-clause-block
returns-clause-block c = trimmed-block_of
