use Rattle.std.proofs.Common.{◌≡◌, true}
use Rattle.frame_fields.specs.Unread.{rest_of}
use Rattle.keeper_dump.specs.RowFields.{is_text}
use Rattle.keeper_dump.proofs.Ranges.{text_found}
use Rattle.keeper_dump.proofs.fields.text_of.Goals as goal

pub returns-clause-read : goal.returns-clause-read
returns-clause-read c =
    let text = c.in_ok-text.text.now in
    let passed : is_text text ≡ true = cc in
    text_found c.args.limit (rest_of c.args.unread) (rest_of c.in_ok-len.unread) (rest_of c.in_ok-text.after) c.in_ok-len.len text c.in_ok-from_slice.field-0
    c.in_ok-len.ensures.read c.in_ok-text.ensures.read passed c.in_ok-from_slice.ensures
