-- The numbers in keys of the store: which generation of the metadata a key names, and which data object.
use Rattle.std.specs.Prelude.{ℕ, ◌^◌, ◌==◌, List, length, take, drop, Bool, not, ◌&&◌, nat_le, nat_lt, nat_eq, Option, None, Some, codes, slice_index, if◌then◌else◌}
use Rattle.std.specs.List.{list_all}
use Rattle.std.specs.Cmp.Lexicographic.{pointwise}
use Rattle.std.specs.Str.Parse.{digits_value}

abbrev pub is_digit : ℕ → Bool
is_digit b = nat_le 48 b && nat_le b 57

-- the number from 1 to 2^62 - 1 that decimal digits write
unfoldable pub number_of : List ℕ → Option ℕ
number_of digits =
    if list_all is_digit digits && nat_lt 0 (digits_value 10 digits) && nat_lt (digits_value 10 digits) (2 ^ 62) then Some (digits_value 10 digits) else None

abbrev pub begins_with : List ℕ → List ℕ → Bool
begins_with prefix key = pointwise nat_eq (take (length prefix) key) prefix

-- `s3ql_metadata_` and exactly twenty digits
unfoldable pub generation_of : List ℕ → Option ℕ
generation_of key = if begins_with (codes "s3ql_metadata_") key && length key == 34 then number_of (drop 14 key) else None

-- `s3ql_data_` and digits of which the first is not 0
unfoldable pub object_of : List ℕ → Option ℕ
object_of key = if begins_with (codes "s3ql_data_") key && not (slice_index key 10 == 48) then number_of (drop 10 key) else None
