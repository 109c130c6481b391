use Rattle.std.proofs.Common.{rules, ◌≡◌, List, ℕ, sym, subst}
use Rattle.s3_rows.specs.Rows.{IsText}
use Rattle.fsck_names.specs.Entries.{moved_name}
use Rattle.fsck_names.proofs.MovedNames.{IsText-moved_name}
use Rattle.fsck_names.proofs.moves.moved_name.Goals as goal

pub returns : goal.returns
returns c =
    let same : c.from.result ≡ moved_name c.args.inode c.args.number = search rules in
    let Text : List ℕ → Type 0 = λ name. IsText 255 name in
    record {
      name = same;
      text = subst Text (sym same) (IsText-moved_name c.args.inode c.args.number c.ranges.inode.fits c.ranges.number.fits);
    }
