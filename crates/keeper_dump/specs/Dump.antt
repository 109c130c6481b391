-- The dump of tables, and what reading some bytes as a dump gives.
use Rattle.std.specs.Prelude.{ℕ, ◌-◌, ◌^◌, ◌==◌, List, [], length, Bool, false, if◌then◌else◌, Option, None, Some, Result, Ok, Err}
use Rattle.std.specs.Int.{w64}
use Rattle.s3_rows.specs.Rows.{Inode, Name, Content, InodeBlock, Block, Object, Target, Attr, Slot, Parameters}
use Rattle.s3_rows.specs.Tables.{Tables}
use Rattle.frame_fields.specs.declared.fault.FrameFault.{FrameFault}
use Rattle.frame_fields.specs.Format.{Rest, Format, ◌>>=◌, number, between}
use Rattle.keeper_dump.specs.declared.fault.DumpFault.{DumpFault}
use Rattle.keeper_dump.specs.declared.fault.DumpFault.TheVariants as faults
use Rattle.keeper_dump.specs.Part.{Part, of_field, plain, ◌▹◌, ◌⟫◌, table}
use Rattle.keeper_dump.specs.RowFields.{parameters_field, inode_rows, name_rows, content_rows, inode_block_rows, block_rows, object_rows, target_rows, attr_rows, slot_rows}

-- the first eight bytes, `S3QLDMP1`, as a number
abbrev pub magic : ℕ
magic = 5995224916965543985

-- the nine tables in order
abbrev pub TableParts : Type 0
TableParts = List Inode × (List Name × (List Content × (List InodeBlock × (List Block × (List Object × (List Target × (List Attr × List Slot)))))))

unfoldable pub tables_part : Part TableParts
tables_part =
    table inode_rows ▹ table name_rows ▹ table content_rows ▹ table inode_block_rows ▹ table block_rows ▹ table object_rows ▹ table target_rows ▹ table attr_rows ▹ table slot_rows

abbrev pub DumpParts : Type 0
DumpParts = ℕ × (Parameters × TableParts)

unfoldable pub magic_field : Format ℕ
magic_field = number w64 (between magic magic)

unfoldable pub dump_part : Part DumpParts
dump_part = plain magic_field ▹ plain parameters_field ▹ tables_part

abbrev pub dump_parts : Parameters → Tables → DumpParts
dump_parts p t =
    (magic, (p, (t.inodes, (t.names, (t.contents, (t.inode_blocks, (t.blocks, (t.objects, (t.targets, (t.attrs, t.slots))))))))))

abbrev pub tables_of : DumpParts → Tables
tables_of x = record {
  params = Some x.1.0;
  inodes = x.1.1.0;
  names = x.1.1.1.0;
  contents = x.1.1.1.1.0;
  inode_blocks = x.1.1.1.1.1.0;
  blocks = x.1.1.1.1.1.1.0;
  objects = x.1.1.1.1.1.1.1.0;
  targets = x.1.1.1.1.1.1.1.1.0;
  attrs = x.1.1.1.1.1.1.1.1.1.0;
  slots = x.1.1.1.1.1.1.1.1.1.1;
}

abbrev pub spelled_with : Option Parameters → Tables → List ℕ
spelled_with None t = []
spelled_with (Some p) t = dump_part.spell (dump_parts p t)

-- the tables with these parameters, as they are read
abbrev pub with_parameters : Parameters → Result (TableParts × Rest) DumpFault → Result (Tables × Rest) DumpFault
with_parameters p read = read ⟫ λ x. Ok (tables_of (magic, (p, x.0)), x.1)

-- the magic, and then the parameters
abbrev pub head_read : Rest → Result (Parameters × Rest) FrameFault
head_read r = magic_field.read r >>= λ m. parameters_field.read m.1

-- the tables behind the parameters
abbrev pub tables_behind : Parameters × Rest → Result (Tables × Rest) DumpFault
tables_behind x = with_parameters x.0 (tables_part.read x.1)

-- the dump of tables with parameters
unfoldable pub dump_of : Tables → List ℕ
dump_of t = spelled_with t.params t

abbrev pub allowed_with : Option Parameters → Tables → Bool
allowed_with None t = false
allowed_with (Some p) t = dump_part.allows (dump_parts p t)

-- there are parameters, each field is within its rule, and the rows of each table rise by key
unfoldable pub is_dumped : Tables → Bool
is_dumped t = allowed_with t.params t

-- at the first byte of a dump, which has no length in front: there is room for each field
abbrev pub at_start : List ℕ → Rest
at_start bytes = record { place = 0; room = 2 ^ 64 - 1; bytes = bytes }

-- the tables where no byte is left over
abbrev pub ended : DumpParts × Rest → Result Tables DumpFault
ended x = if length x.1.bytes == 0 then Ok (tables_of x.0) else Err (faults.Bad x.1.place)

abbrev pub ended_tables : Tables × Rest → Result Tables DumpFault
ended_tables x = if length x.1.bytes == 0 then Ok x.0 else Err (faults.Bad x.1.place)

-- the same, part by part
abbrev pub parts_read : List ℕ → Result Tables DumpFault
parts_read bytes = of_field (head_read (at_start bytes)) ⟫ tables_behind ⟫ ended_tables

-- the tables whose dump the bytes are, or the first fault
unfoldable pub dump_read : List ℕ → Result Tables DumpFault
dump_read bytes = dump_part.read (at_start bytes) ⟫ ended
