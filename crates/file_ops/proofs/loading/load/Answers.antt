use Rattle.std.proofs.Common.{◌≡◌, Some, None, sym, ap, ◌∙◌}
use Rattle.sha2.specs.Sha256.{sha256}
use Rattle.s3_rows.specs.Rows.{Block}
use Rattle.s3_devices.specs.Keys.{objects_in}
use Rattle.file_ops.specs.FileFaults.{block_named}
use Rattle.file_ops.proofs.BothTold.{IfBothTold-from, IfBothTold-tables}
use Rattle.file_ops.proofs.Loaded.{Shows-file, shown_none, shown_some, stored_some}
use Rattle.file_ops.proofs.loading.load.Goals as goal

pub returns-in_default-clause-file : goal.returns-in_default-clause-file
returns-in_default-clause-file g c =
    λ size block_size.
    IfBothTold-tables (g.K.Keeper.told c.args.keeper.now) (g.L.Link.told c.args.link.now) (λ t. c.in_ok-row.field-0 ≡ block_named t c.args.inode c.args.blockno) _
    (λ t o row file is.
    let none : block_named t c.args.inode c.args.blockno ≡ None = sym row ∙ c.in_default.is in
    Shows-file t o c.args.inode size block_size c.args.blockno c.new.result file
    (λ m held. shown_none t c.args.inode c.args.blockno none m ∙ ap Some (sym c.new.ensures)) is)
    c.in_ok-row.ensures.row

pub returns-clause-shown : goal.returns-clause-shown
returns-clause-shown g c =
    let kept : Block = record { id = c.row.inside.id; digest = c.row.inside.digest; refcount = c.row.inside.refcount; size = c.row.inside.size; object = c.row.inside.object } in
    let same : c.in_ok-row.field-0 ≡ Some kept = cc in
    IfBothTold-from (g.K.Keeper.told c.args.keeper.now) (g.L.Link.told c.args.link.now) (λ t. c.in_ok-row.field-0 ≡ block_named t c.args.inode c.args.blockno)
    (λ o. objects_in o kept.object ≡ Some c.in_ok-fetch.field-0) _
    (λ t o row held. shown_some t c.args.inode c.args.blockno kept (sym row ∙ same) o c.in_ok-fetch.field-0 held)
    c.in_ok-row.ensures.row c.in_ok-fetch.ensures.bytes

pub returns-clause-file : goal.returns-clause-file
returns-clause-file g c =
    let kept : Block = record { id = c.row.inside.id; digest = c.row.inside.digest; refcount = c.row.inside.refcount; size = c.row.inside.size; object = c.row.inside.object } in
    let same : c.in_ok-row.field-0 ≡ Some kept = cc in
    λ size block_size.
    IfBothTold-from (g.K.Keeper.told c.args.keeper.now) (g.L.Link.told c.args.link.now) (λ t. c.in_ok-row.field-0 ≡ block_named t c.args.inode c.args.blockno)
    (λ o. objects_in o kept.object ≡ Some c.in_ok-fetch.field-0) _
    (λ t o row held file is.
    Shows-file t o c.args.inode size block_size c.args.blockno c.in_ok-fetch.field-0 file
    (shown_some t c.args.inode c.args.blockno kept (sym row ∙ same) o c.in_ok-fetch.field-0 held) is)
    c.in_ok-row.ensures.row c.in_ok-fetch.ensures.bytes

pub returns-clause-size : goal.returns-clause-size
returns-clause-size g c =
    let kept : Block = record { id = c.row.inside.id; digest = c.row.inside.digest; refcount = c.row.inside.refcount; size = c.row.inside.size; object = c.row.inside.object } in
    let same : c.in_ok-row.field-0 ≡ Some kept = cc in
    IfBothTold-from (g.K.Keeper.told c.args.keeper.now) (g.L.Link.told c.args.link.now) (λ t. c.in_ok-row.field-0 ≡ block_named t c.args.inode c.args.blockno)
    (λ o. objects_in o kept.object ≡ Some c.in_ok-fetch.field-0) _
    (λ t o row held. stored_some t c.args.inode c.args.blockno kept (sym row ∙ same) sha256 o c.in_ok-fetch.field-0 held)
    c.in_ok-row.ensures.row c.in_ok-fetch.ensures.bytes
