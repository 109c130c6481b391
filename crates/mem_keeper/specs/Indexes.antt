-- When the indexes list all names, blocks and entries, and the rows that changes put.
use Rattle.std.specs.Prelude.{ℕ, List}
use Rattle.s3_rows.specs.declared.change.Change.{Change}
use Rattle.s3_rows.specs.declared.change.Change.TheVariants as changes
use Rattle.s3_rows.specs.Rows.{Name, Block, Content}
use Rattle.s3_rows.specs.Tables.{Tables, by_name, by_block}
use Rattle.mem_keeper.specs.declared.indexes.Indexes.{Indexes}
use Rattle.mem_keeper.specs.Index.{Covers, IsListed}
use Rattle.mem_keeper.specs.Holders.{AllHold, IsHolder}

abbrev pub bytes_of_name : Name → List ℕ
bytes_of_name r = r.name

abbrev pub bytes_of_block : Block → List ℕ
bytes_of_block r = r.digest.0

-- each name, each block and each entry is listed
pub record Stand (x : Indexes) (t : Tables) : Type 0 where
  pub names : Covers by_name bytes_of_name x.names t.names
  pub blocks : Covers by_block bytes_of_block x.blocks t.blocks
  pub holders : AllHold x.holders t.contents

-- a name, a block or an entry that the change puts is listed
abbrev pub IsListedChange : Indexes → Change → Type 0
IsListedChange x (changes.PutName r) = IsListed x.names r.name r.id
IsListedChange x (changes.PutBlock r) = IsListed x.blocks r.digest.0 r.id
IsListedChange x (changes.PutContent r) = IsHolder x.holders r
IsListedChange x _ = Unit {0}

-- what was listed still is
pub record StayListed (x y : Indexes) : Type 0 where
  pub names : (bytes : List ℕ) (id : ℕ) → IsListed x.names bytes id → IsListed y.names bytes id
  pub blocks : (bytes : List ℕ) (id : ℕ) → IsListed x.blocks bytes id → IsListed y.blocks bytes id
  pub holders : (r : Content) → IsHolder x.holders r → IsHolder y.holders r
