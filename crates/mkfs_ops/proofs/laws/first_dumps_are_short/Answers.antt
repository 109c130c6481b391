use Rattle.std.proofs.Common.{refl}
use Rattle.frame_fields.specs.Fields.{u16_field, u32_field, u64_field, mode_field, node_kind_field, flag_field}
use Rattle.keeper_dump.specs.Part.{table}
use Rattle.keeper_dump.specs.RowFields.{id_field, count_field, next_field, file_size_field, text_field, revision_field, sizes_field, state_field, generations_field}
use Rattle.keeper_dump.specs.Dump.{magic_field, tables_part, dump_part, dump_of}
use Rattle.mkfs_ops.proofs.laws.first_dumps_are_short.Goals as goal

pub returns : goal.returns
unfolding dump_of dump_part tables_part table magic_field id_field count_field next_field file_size_field text_field revision_field sizes_field state_field generations_field u16_field u32_field u64_field mode_field node_kind_field flag_field
returns c = λ s. refl
