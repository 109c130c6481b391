-- Where the entries that name an inode are listed.
use Rattle.std.specs.Prelude.{◌≡◌, ℕ, List, ◌==◌, Option, None, Some, IsSome, if◌then◌else◌}
use Rattle.std.specs.BTreeMap.{BTreeMap, get}
use Rattle.std.specs.declared.cmp.Ordering.{Ordering}
use Rattle.std.specs.Ordering.{nat_cmp, ordering_then}
use Rattle.s3_rows.specs.Rows.{Content}
use Rattle.s3_rows.specs.Keyed.{pair_cmp, row_at}
use Rattle.s3_rows.specs.Tables.{by_entry}

-- by the inode and then by the key of the entry
abbrev pub holder_cmp : ℕ × (ℕ × ℕ) → ℕ × (ℕ × ℕ) → Ordering
holder_cmp a b = ordering_then (nat_cmp a.0 b.0) (pair_cmp a.1 b.1)

abbrev pub holder_key : Content → ℕ × (ℕ × ℕ)
holder_key r = (r.inode, (r.parent, r.name_id))

-- the row, where it names the inode
abbrev pub naming : ℕ → Option Content → Option Content
naming inode None = None
naming inode (Some r) = if r.inode == inode then Some r else None

-- the entry is listed under its inode
abbrev pub IsHolder : BTreeMap (ℕ × (ℕ × ℕ)) (Unit {0}) → Content → Type 0
IsHolder holders r = IsSome (get holder_cmp holders (holder_key r))

-- each entry is
abbrev pub AllHold : BTreeMap (ℕ × (ℕ × ℕ)) (Unit {0}) → List Content → Type 0
AllHold holders rows = (k : ℕ × ℕ) (r : Content) → row_at by_entry k rows ≡ Some r → IsHolder holders r
