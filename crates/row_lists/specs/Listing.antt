-- Items with the bytes of their names, and the least of them.
use Rattle.std.specs.Prelude.{ℕ, List, [], Option, None, Some, option_map, unwrap_or, if◌then◌else◌}
use Rattle.std.specs.Ordering.{is_gt, nat_cmp, ordering_then}
use Rattle.s3_rows.specs.Rows.{Content, Name}
use Rattle.s3_rows.specs.Keyed.{Order, row_at}
use Rattle.s3_rows.specs.Tables.{by_name}
use Rattle.s3_rows.specs.Selections.{bytes_cmp}

-- by the bytes of their names
abbrev pub by_bytes : {T : Type 0} → (T → List ℕ) → Order (List ℕ) T
by_bytes name_of = record { compare = bytes_cmp; key = name_of }

-- a row with the bytes of its name; none where that has no row
abbrev pub with_name : {R T : Type 0} → (R → ℕ) → (R → List ℕ → T) → List Name → R → Option T
with_name id_of made names r = option_map (λ n. made r n.name) (row_at by_name (id_of r) names)

-- entries by parent and then by the bytes of their names, which are none where a name has no row
abbrev pub by_place : List Name → Order (ℕ × List ℕ) Content
by_place names = record {
  compare = λ a b. ordering_then (nat_cmp a.0 b.0) (bytes_cmp a.1 b.1);
  key = λ r. (r.parent, unwrap_or (option_map (λ n. n.name) (row_at by_name r.name_id names)) []);
}

-- the lesser of an item and of one behind it, the first where they have one key
abbrev pub lesser : {K T : Type 0} → Order K T → T → Option T → T
lesser o x None = x
lesser o x (Some y) = if is_gt (o.compare (o.key x) (o.key y)) then y else x
