-- How long bytes are with zeros behind them, and a file of another length.
use Rattle.std.proofs.Common.{◌≡◌, ℕ, ◌+◌, ◌-◌, ◌≤◌, List, length, replicate, ap, ◌∙◌, arith, length-append}
use Rattle.std.proofs.lemmas.List.{length-replicate, length-take-le}
use Rattle.block_math.specs.Changes.{padded, resized}

pub length-padded : (size : ℕ) (bytes : List ℕ) → length (padded size bytes) ≡ length bytes + (size - length bytes)
length-padded size bytes =
    length-append bytes (replicate (size - length bytes) 0) ∙ ap (λ n. length bytes + n) (length-replicate (size - length bytes) 0)

pub le-padded : (size : ℕ) (bytes : List ℕ) → size ≤ length (padded size bytes)
le-padded size bytes = omega (arith, length-padded size bytes)

pub length-resized : (size : ℕ) (bytes : List ℕ) → length (resized size bytes) ≡ size
length-resized size bytes = length-take-le size (padded size bytes) (le-padded size bytes)
