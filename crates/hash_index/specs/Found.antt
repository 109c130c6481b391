-- Which block has a digest.
use Rattle.std.specs.Prelude.{◌≡◌, ◌≢◌, ◌≤◌, List, Option, None, Some, All, Contains}
use Rattle.s3_rows.specs.declared.digest.Digest.{Digest}
use Rattle.s3_rows.specs.Rows.{Block}

-- a block with the digest; none exactly where no block has it
abbrev pub IsFound : Digest → List Block → Option Block → Type 0
IsFound digest blocks None = All (λ b. b.digest ≢ digest) blocks
IsFound digest blocks (Some r) = Contains blocks r × (r.digest ≡ digest)

-- no block with the digest has a lower id
abbrev pub IsLeast : Digest → List Block → Block → Type 0
IsLeast digest blocks r = All (λ b. b.digest ≡ digest → r.id ≤ b.id) blocks
