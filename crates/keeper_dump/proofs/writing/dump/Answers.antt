use Rattle.std.proofs.Common.{◌≡◌, Some, sym, ap, ◌∙◌}
use Rattle.s3_rows.specs.Tables.{Tables}
use Rattle.frame_fields.specs.Fields.{u64_field}
use Rattle.keeper_dump.specs.Part.{table}
use Rattle.keeper_dump.specs.RowFields.{parameters_field, inode_rows, name_rows, content_rows, inode_block_rows}
use Rattle.keeper_dump.specs.Dump.{magic, magic_field, tables_part, dump_part, dump_parts}
use Rattle.keeper_dump.proofs.DumpLaws.{joined, dump_spelled}
use Rattle.keeper_dump.proofs.writing.dump.Goals as goal

pub returns : goal.returns
unfolding dump_part tables_part magic_field u64_field
returns c =
    let t = c.args.tables.now in
    let p = c.tables.inside.params in
    let there : t.params ≡ Some p = sym (ap (λ (x : Tables). x.params) c.tables.view_is) in
    let all : c.put_last_tables.new.out ≡ dump_part.spell (dump_parts p t) =
    joined c.new-out.result c.put_u64.new.out c.put_params.new.out c.put_first_tables.new.out c.put_last_tables.new.out
    (u64_field.spell magic) (parameters_field.spell p) ((table inode_rows).spell t.inodes) ((table name_rows).spell t.names)
    ((table content_rows).spell t.contents) ((table inode_block_rows).spell t.inode_blocks) _
    c.new-out.ensures c.in_ok-put_u64.ensures c.in_ok-put_params.ensures c.in_ok-put_first_tables.ensures c.in_ok-put_last_tables.ensures in
    all ∙ dump_spelled t p there
