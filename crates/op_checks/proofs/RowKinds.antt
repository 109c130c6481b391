-- Kinds of rows whose checks pass.
use Rattle.std.proofs.Common.{◌≡◌, None, refl}
use Rattle.std.specs.Prelude.{not}
use Rattle.s3_base.specs.Errors.{einval, enotdir}
use Rattle.s3_base.specs.declared.node_kind.Kind.{Kind}
use Rattle.s3_base.specs.declared.node_kind.Kind.TheVariants as kinds
use Rattle.plain_tree.specs.Checks.{fails_with}
use Rattle.s3_rows.specs.Validity.{is_directory, is_link}

pub Directory_from_passes : (kind : Kind) → fails_with enotdir (not (is_directory kind)) ≡ None → kind ≡ kinds.Directory
Directory_from_passes kinds.Directory passes = refl
Directory_from_passes kinds.Regular passes = absurd (cc passes)
Directory_from_passes kinds.Link passes = absurd (cc passes)

pub Link_from_passes : (kind : Kind) → fails_with einval (not (is_link kind)) ≡ None → kind ≡ kinds.Link
Link_from_passes kinds.Directory passes = absurd (cc passes)
Link_from_passes kinds.Regular passes = absurd (cc passes)
Link_from_passes kinds.Link passes = refl
