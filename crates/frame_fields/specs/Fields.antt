-- The kinds of plain fields.
use Rattle.std.specs.Prelude.{ℕ, ◌-◌, ◌^◌, ◌==◌, List, Bool, if◌then◌else◌, Option}
use Rattle.std.specs.Int.{w16, w32, w64}
use Rattle.s3_base.specs.declared.node_kind.Kind.{Kind}
use Rattle.s3_base.specs.declared.node_kind.Kind.TheVariants as kinds
use Rattle.frame_fields.specs.Format.{Format, number, counted, coded, fixed, optional, always, between}

unfoldable pub u16_field : Format ℕ
u16_field = number w16 always

unfoldable pub u32_field : Format ℕ
u32_field = number w32 always

unfoldable pub u64_field : Format ℕ
u64_field = number w64 always

-- a name, or the target of a link: two bytes of length
unfoldable pub name_field : Format (List ℕ)
name_field = counted u16_field

-- the data of a read or a write, or an attribute's value: four bytes of length, at most 131,072
unfoldable pub data_length_field : Format ℕ
data_length_field = number w32 (between 0 131072)

unfoldable pub data_field : Format (List ℕ)
data_field = counted data_length_field

-- who calls: 1 to 2^62 - 1
unfoldable pub pass_field : Format ℕ
pass_field = number w64 (between 1 (2 ^ 62 - 1))

-- when: below 2^62
unfoldable pub time_field : Format ℕ
time_field = number w64 (between 0 (2 ^ 62 - 1))

-- permission bits: at most 0o7777
unfoldable pub mode_field : Format ℕ
mode_field = number w16 (between 0 4095)

-- how many items a list has: at most 256
unfoldable pub item_count_field : Format ℕ
item_count_field = number w16 (between 0 256)

-- a name in a list: at most 255 bytes
unfoldable pub short_name_field : Format (List ℕ)
short_name_field = counted (number w16 (between 0 255))

-- the bytes of a SHA-256
unfoldable pub digest_field : Format (List ℕ)
digest_field = fixed 32

unfoldable pub digest_or_none_field : Format (Option (List ℕ))
digest_or_none_field = optional digest_field

-- what a node is
abbrev pub kind_code : Kind → ℕ
kind_code kinds.Directory = 1
kind_code kinds.Regular = 2
kind_code kinds.Link = 3

abbrev pub kind_of_code : ℕ → Kind
kind_of_code code = if code == 1 then kinds.Directory else (if code == 2 then kinds.Regular else kinds.Link)

unfoldable pub node_kind_field : Format Kind
node_kind_field = coded (between 1 3) kind_of_code kind_code

-- a bit as a byte
abbrev pub flag_code : Bool → ℕ
flag_code flag = if flag then 1 else 0

abbrev pub flag_of_code : ℕ → Bool
flag_of_code code = code == 1

unfoldable pub flag_field : Format Bool
flag_field = coded (between 0 1) flag_of_code flag_code
