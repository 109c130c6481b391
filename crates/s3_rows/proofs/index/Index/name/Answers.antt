use Rattle.std.proofs.Common.{◌∙◌}
use Rattle.s3_rows.proofs.index.Index.name.Goals as goal

pub returns : goal.returns
returns c changes now = c.copied.ensures ∙ c.get.ensures.value ∙ now.names c.args.name.now
