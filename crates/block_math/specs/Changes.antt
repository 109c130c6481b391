-- What a write and a change of its length do to the bytes of a file.
use Rattle.std.specs.Prelude.{ℕ, ◌+◌, ◌-◌, List, ◌++◌, length, take, drop, replicate}

-- lengthened with zeros to a length that it has not yet
abbrev pub padded : ℕ → List ℕ → List ℕ
padded size bytes = bytes ++ replicate (size - length bytes) 0

-- with the data at the offset: what it overlaps is replaced, and a gap is filled with zeros
abbrev pub written_at : ℕ → List ℕ → List ℕ → List ℕ
written_at offset new bytes = take offset (padded offset bytes) ++ new ++ drop (offset + length new) bytes

-- cut, or lengthened with zeros
abbrev pub resized : ℕ → List ℕ → List ℕ
resized size bytes = take size (padded size bytes)
