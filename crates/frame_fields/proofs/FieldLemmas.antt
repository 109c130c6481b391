-- The laws of the plain fields.
use Rattle.std.proofs.Common.{◌≡◌, ℕ, ◌-◌, ◌^◌, ◌<◌, ◌≤◌, IsTrue, Bool, true, false, ◌&&◌, leb, ltb, List, length, refl, arith}
use Rattle.std.specs.Int.{w16}
use Rattle.std.proofs.lemmas.Bool.{and_parts, ltb-true, leb-true}
use Rattle.s3_base.specs.declared.node_kind.Kind.{Kind}
use Rattle.s3_base.specs.declared.node_kind.Kind.TheVariants as kinds
use Rattle.frame_fields.specs.Format.{number, always, between}
use Rattle.frame_fields.specs.Fields.{u16_field, u32_field, u64_field, name_field, data_length_field, data_field, pass_field, time_field, mode_field, item_count_field, short_name_field, digest_field, digest_or_none_field, kind_code, kind_of_code, node_kind_field, flag_code, flag_of_code, flag_field}
use Rattle.frame_fields.proofs.Formats.{IsFormat, number16_is, number32_is, number64_is, counted_is, fixed_is, ComesBack, numbered_is}
use Rattle.frame_fields.proofs.Options.{optional_is}

-- the highest value of a number that is checked
at_most : (n limit low high : ℕ) → (ltb n limit && between low high n) ≡ true → n ≤ high
at_most n limit low high h = leb-true n high (and_parts (leb low n) (leb n high) (and_parts (ltb n limit) (between low high n) h).1).1

pub u16_is : IsFormat u16_field 2
unfolding u16_field
u16_is = number16_is always

pub u32_is : IsFormat u32_field 4
unfolding u32_field
u32_is = number32_is always

pub u64_is : IsFormat u64_field 8
unfolding u64_field
u64_is = number64_is always

pub pass_is : IsFormat pass_field 8
unfolding pass_field
pass_is = number64_is (between 1 (2 ^ 62 - 1))

pub time_is : IsFormat time_field 8
unfolding time_field
time_is = number64_is (between 0 (2 ^ 62 - 1))

pub name_is : IsFormat name_field 65537
unfolding name_field u16_field
name_is = counted_is u16_field 2 65535 u16_is (λ n h. let lt = ltb-true _ _ (and_parts (ltb n 65536) true h).0 in omega (arith, lt))

pub data_is : IsFormat data_field 131076
unfolding data_field data_length_field
data_is = counted_is data_length_field 4 131072 (number32_is (between 0 131072)) (λ n h. at_most n (2 ^ 32) 0 131072 h)

pub mode_is : IsFormat mode_field 2
unfolding mode_field
mode_is = number16_is (between 0 4095)

pub item_count_is : IsFormat item_count_field 2
unfolding item_count_field
item_count_is = number16_is (between 0 256)

pub few_items : (n : ℕ) → item_count_field.allows n ≡ true → n ≤ 256
unfolding item_count_field
few_items n h = at_most n (2 ^ 16) 0 256 h

pub short_name_is : IsFormat short_name_field 257
unfolding short_name_field
short_name_is = counted_is (number w16 (between 0 255)) 2 255 (number16_is (between 0 255)) (λ n h. at_most n (2 ^ 16) 0 255 h)

pub short_name_length : (name : List ℕ) → short_name_field.allows name ≡ true → length name ≤ 255
unfolding short_name_field
short_name_length name h = at_most (length name) (2 ^ 16) 0 255 h

pub digest_is : IsFormat digest_field 32
unfolding digest_field
digest_is = fixed_is 32

pub digest_or_none_is : IsFormat digest_or_none_field 33
unfolding digest_or_none_field
digest_or_none_is = optional_is digest_field 32 digest_is

-- ---- what a writer needs

pub name_fits : (name : List ℕ) → IsTrue (name_field.allows name) → length name < 2 ^ 16
unfolding name_field u16_field
name_fits name h = ltb-true (length name) (2 ^ 16) (and_parts (ltb (length name) 65536) true h).0

pub data_fits : (bytes : List ℕ) → IsTrue (data_field.allows bytes) → length bytes ≤ 131072
unfolding data_field data_length_field
data_fits bytes h = at_most (length bytes) (2 ^ 32) 0 131072 h

-- ---- values of few

kind_back : (kind : Kind) → ComesBack 1 3 kind_of_code kind_code kind
kind_back kinds.Directory = (refl, refl)
kind_back kinds.Regular = (refl, refl)
kind_back kinds.Link = (refl, refl)

pub node_kind_is : IsFormat node_kind_field 1
unfolding node_kind_field
node_kind_is = numbered_is 1 3 kind_of_code kind_code kind_back refl

flag_back : (flag : Bool) → ComesBack 0 1 flag_of_code flag_code flag
flag_back true = (refl, refl)
flag_back false = (refl, refl)

pub flag_is : IsFormat flag_field 1
unfolding flag_field
flag_is = numbered_is 0 1 flag_of_code flag_code flag_back refl
