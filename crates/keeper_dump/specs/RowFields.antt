-- The fields of the parameters and of each row, in order.
use Rattle.std.specs.Prelude.{ℕ, ◌-◌, ◌*◌, ◌^◌, ◌==◌, List, ◌++◌, length, Bool, true, not, ◌&&◌, ◌||◌, nat_le, if◌then◌else◌, Option, None, Some, Result, Ok}
use Rattle.std.specs.List.{list_all}
use Rattle.std.specs.Int.{w16, w32, w64}
use Rattle.s3_base.specs.declared.node_kind.Kind.{Kind}
use Rattle.s3_rows.specs.declared.params.State.{State}
use Rattle.s3_rows.specs.declared.params.State.TheVariants as states
use Rattle.s3_rows.specs.declared.table_rows.RowKey.{RowKey}
use Rattle.s3_rows.specs.declared.table_rows.RowKey.TheVariants as keys
use Rattle.s3_rows.specs.Rows.{Inode, Name, Content, InodeBlock, Block, Object, Target, Attr, Slot, Parameters}
use Rattle.frame_fields.specs.declared.fault.FrameFault.{FrameFault}
use Rattle.frame_fields.specs.Format.{Rest, Format, ◌>>=◌, ◌▸◌, checked, made, shaped, coded, counted, fixed, number, between}
use Rattle.frame_fields.specs.Fields.{u32_field, u64_field, mode_field, digest_field, node_kind_field, flag_field}
use Rattle.keeper_dump.specs.Part.{RowFormat}

-- ---- kinds of fields

-- a field with one rule more
abbrev pub only : {A : Type 0} → (A → Bool) → Format A → Format A
only rule f = record {
  spell = λ x. f.spell x;
  allows = λ x. f.allows x && rule x;
  read = λ r. f.read r >>= λ x. checked (rule x.0) r.place x;
}

-- one behind the other, where the first value decides what the second may be
abbrev pub followed : {A B : Type 0} → Format A → (A → Format B) → Format (A × B)
followed f g = record {
  spell = λ x. f.spell x.0 ++ (g x.0).spell x.1;
  allows = λ x. f.allows x.0 && (g x.0).allows x.1;
  read = λ r. f.read r >>= λ x. (g x.0).read x.1 >>= λ y. Ok ((x.0, y.0), y.1);
}

-- the number of an inode, a name, a block or an object
unfoldable pub id_field : Format ℕ
id_field = number w64 (between 1 (2 ^ 62 - 1))

-- a time, a count or a generation
unfoldable pub count_field : Format ℕ
count_field = number w64 (between 0 (2 ^ 62 - 1))

-- a number that comes next, or a version
unfoldable pub next_field : Format ℕ
next_field = number w64 (between 1 (2 ^ 62))

-- a block's place in a file
unfoldable pub blockno_field : Format ℕ
blockno_field = number w64 (between 0 (2 ^ 38 - 1))

-- the bytes of a block's stored form
unfoldable pub block_size_field : Format ℕ
block_size_field = number w32 (between 1 10485760)

-- the length of a file
unfoldable pub file_size_field : Format ℕ
file_size_field = number w64 (between 0 (2 ^ 50))

-- no byte is 0
abbrev pub is_text : List ℕ → Bool
is_text bytes = list_all (λ b. not (b == 0)) bytes

-- two fields: a length, and so many bytes, none of them 0
unfoldable pub text_field : ℕ → Format (List ℕ)
text_field limit =
    shaped (λ x. x.1) (λ bytes. (length bytes, bytes)) (followed (number w16 (between 1 limit)) (λ n. only is_text (fixed n)))

-- the value of an attribute: four bytes of length, at most 65,536
unfoldable pub value_field : Format (List ℕ)
value_field = counted (number w32 (between 0 65536))

-- a slot of the cache disk
unfoldable pub slot_number_field : Format ℕ
slot_number_field = number w32 (between 0 65535)

-- how many bytes of a block a slot has
unfoldable pub slot_length_field : Format ℕ
slot_length_field = number w32 (between 0 10485760)

-- ---- parameters

-- the revision of the tables
unfoldable pub revision_field : Format ℕ
revision_field = number w32 (between 1 1)

-- the size of blocks, and how many slots of this size the cache disk has
unfoldable pub sizes_field : Format (ℕ × ℕ)
sizes_field =
    followed (number w32 (between 4096 10485760)) (λ size. number w32 (λ slots. nat_le slots 65536 && nat_le (slots * size) (2 ^ 32)))

abbrev pub state_code : State → ℕ
state_code states.Clean = 0
state_code states.Mounted = 1
state_code states.Restored = 2

abbrev pub state_of_code : ℕ → State
state_of_code code = if code == 0 then states.Clean else (if code == 1 then states.Mounted else states.Restored)

unfoldable pub state_field : Format State
state_field = coded (between 0 2) state_of_code state_code

-- the generation that was last begun, and the last that is stored whole
unfoldable pub generations_field : Format (ℕ × ℕ)
generations_field = followed count_field (λ generation. number w64 (between 0 generation))

abbrev pub ParameterParts : Type 0
ParameterParts = ℕ × ((ℕ × ℕ) × (State × (ℕ × (ℕ × (ℕ × (ℕ × (ℕ × ℕ)))))))

abbrev pub parameter_parts : Parameters → ParameterParts
parameter_parts p =
    (p.revision, ((p.block_size, p.slots), (p.state, (p.next_inode, (p.next_name, (p.next_block, (p.next_object, (p.generation, p.last_done))))))))

abbrev pub parameters_of : ParameterParts → Parameters
parameters_of x = record {
  revision = x.0;
  block_size = x.1.0.0;
  slots = x.1.0.1;
  state = x.1.1.0;
  next_inode = x.1.1.1.0;
  next_name = x.1.1.1.1.0;
  next_block = x.1.1.1.1.1.0;
  next_object = x.1.1.1.1.1.1.0;
  generation = x.1.1.1.1.1.1.1.0;
  last_done = x.1.1.1.1.1.1.1.1;
}

abbrev pub parameters_field : Format Parameters
parameters_field =
    shaped parameters_of parameter_parts
    (revision_field ▸ sizes_field ▸ state_field ▸ next_field ▸ next_field ▸ next_field ▸ next_field ▸ generations_field)

-- ---- rows

-- a key of one part in front
abbrev pub one_in_front : Rest → Result (RowKey × Rest) FrameFault
one_in_front r = made keys.One (u64_field.read r)

-- a key of two parts in front
abbrev pub two_in_front : Rest → Result (RowKey × Rest) FrameFault
two_in_front r = made (λ x. keys.Two x.0 x.1) ((u64_field ▸ u64_field).read r)

-- a slot's number in front
abbrev pub slot_in_front : Rest → Result (RowKey × Rest) FrameFault
slot_in_front r = made keys.One (u32_field.read r)

abbrev pub InodeParts : Type 0
InodeParts = ℕ × (Kind × (ℕ × (ℕ × (ℕ × (ℕ × (ℕ × (ℕ × (ℕ × Bool))))))))

abbrev pub inode_parts : Inode → InodeParts
inode_parts r = (r.id, (r.kind, (r.mode, (r.uid, (r.gid, (r.mtime, (r.ctime, (r.refcount, (r.size, r.locked)))))))))

abbrev pub inode_of : InodeParts → Inode
inode_of x = record {
  id = x.0;
  kind = x.1.0;
  mode = x.1.1.0;
  uid = x.1.1.1.0;
  gid = x.1.1.1.1.0;
  mtime = x.1.1.1.1.1.0;
  ctime = x.1.1.1.1.1.1.0;
  refcount = x.1.1.1.1.1.1.1.0;
  size = x.1.1.1.1.1.1.1.1.0;
  locked = x.1.1.1.1.1.1.1.1.1;
}

abbrev pub inode_field : Format Inode
inode_field =
    shaped inode_of inode_parts
    (id_field ▸ node_kind_field ▸ mode_field ▸ u32_field ▸ u32_field ▸ count_field ▸ count_field ▸ count_field ▸ file_size_field ▸ flag_field)

abbrev pub inode_rows : RowFormat Inode
inode_rows = record { fields = inode_field; key = λ r. keys.One r.id; front = one_in_front }

abbrev pub name_field : Format Name
name_field =
    shaped (λ x. record { id = x.0; refcount = x.1.0; name = x.1.1 }) (λ r. (r.id, (r.refcount, r.name)))
    (id_field ▸ count_field ▸ text_field 255)

abbrev pub name_rows : RowFormat Name
name_rows = record { fields = name_field; key = λ r. keys.One r.id; front = one_in_front }

abbrev pub content_field : Format Content
content_field =
    shaped (λ x. record { parent = x.0; name_id = x.1.0; inode = x.1.1 }) (λ r. (r.parent, (r.name_id, r.inode)))
    (id_field ▸ id_field ▸ id_field)

abbrev pub content_rows : RowFormat Content
content_rows = record { fields = content_field; key = λ r. keys.Two r.parent r.name_id; front = two_in_front }

abbrev pub inode_block_field : Format InodeBlock
inode_block_field =
    shaped (λ x. record { inode = x.0; blockno = x.1.0; block = x.1.1 }) (λ r. (r.inode, (r.blockno, r.block)))
    (id_field ▸ blockno_field ▸ id_field)

abbrev pub inode_block_rows : RowFormat InodeBlock
inode_block_rows = record { fields = inode_block_field; key = λ r. keys.Two r.inode r.blockno; front = two_in_front }

abbrev pub block_field : Format Block
block_field =
    shaped (λ x. record { id = x.0; digest = record { 0 = x.1.0 }; refcount = x.1.1.0; size = x.1.1.1.0; object = x.1.1.1.1 })
    (λ r. (r.id, (r.digest.0, (r.refcount, (r.size, r.object)))))
    (id_field ▸ digest_field ▸ count_field ▸ block_size_field ▸ id_field)

abbrev pub block_rows : RowFormat Block
block_rows = record { fields = block_field; key = λ r. keys.One r.id; front = one_in_front }

-- the size of an object that is not uploaded
abbrev pub no_size : ℕ
no_size = 4294967295

abbrev pub size_code : Option ℕ → ℕ
size_code None = no_size
size_code (Some n) = n

abbrev pub size_of_code : ℕ → Option ℕ
size_of_code n = if n == no_size then None else Some n

abbrev pub is_size : Option ℕ → Bool
is_size None = true
is_size (Some n) = between 1 10485760 n

-- the size of an object, or that it has none
unfoldable pub object_size_field : Format (Option ℕ)
object_size_field = record {
  spell = λ x. u32_field.spell (size_code x);
  allows = is_size;
  read = λ r. made size_of_code ((number w32 (λ n. between 1 10485760 n || n == no_size)).read r);
}

abbrev pub object_field : Format Object
object_field =
    shaped (λ x. record { id = x.0; refcount = x.1.0; size = x.1.1 }) (λ r. (r.id, (r.refcount, r.size)))
    (id_field ▸ count_field ▸ object_size_field)

abbrev pub object_rows : RowFormat Object
object_rows = record { fields = object_field; key = λ r. keys.One r.id; front = one_in_front }

abbrev pub target_field : Format Target
target_field =
    shaped (λ x. record { inode = x.0; target = x.1 }) (λ r. (r.inode, r.target)) (id_field ▸ text_field 4095)

abbrev pub target_rows : RowFormat Target
target_rows = record { fields = target_field; key = λ r. keys.One r.inode; front = one_in_front }

abbrev pub attr_field : Format Attr
attr_field =
    shaped (λ x. record { inode = x.0; name_id = x.1.0; value = x.1.1 }) (λ r. (r.inode, (r.name_id, r.value)))
    (id_field ▸ id_field ▸ value_field)

abbrev pub attr_rows : RowFormat Attr
attr_rows = record { fields = attr_field; key = λ r. keys.Two r.inode r.name_id; front = two_in_front }

abbrev pub slot_field : Format Slot
slot_field =
    shaped (λ x. record { slot = x.0; inode = x.1.0; blockno = x.1.1.0; version = x.1.1.1.0; len = x.1.1.1.1 })
    (λ r. (r.slot, (r.inode, (r.blockno, (r.version, r.len)))))
    (slot_number_field ▸ id_field ▸ blockno_field ▸ next_field ▸ slot_length_field)

abbrev pub slot_rows : RowFormat Slot
slot_rows = record { fields = slot_field; key = λ r. keys.One r.slot; front = slot_in_front }
