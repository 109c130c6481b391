-- What bytes with zeros behind them begin with.
use Rattle.std.proofs.Common.{◌≡◌, ◌⊎◌, ℕ, ◌<◌, ◌≤◌, List, length, get_or, sym, ap, ◌∙◌, inl, inr, arith}
use Rattle.std.proofs.lemmas.Bool.{cases_lt}
use Rattle.std.proofs.lemmas.List.{get_or_past, get_or-take, ext_get_or}
use Rattle.block_math.specs.Changes.{padded, resized}
use Rattle.block_math.proofs.FileLemmas.{get_or-padded}
use Rattle.block_math.proofs.LengthLemmas.{length-resized}
use Rattle.core_model.specs.Bytes.{Shows}

-- a byte of resized bytes is that of the bytes, or zero
pub get_or-resized : (len : ℕ) (bytes : List ℕ) (i : ℕ) → i < len → get_or (resized len bytes) i 0 ≡ get_or bytes i 0
get_or-resized len bytes i below = get_or-take len (padded len bytes) i 0 below ∙ get_or-padded len bytes i

-- the byte at a place, where the piece ends before it or has it
module _ (piece shown : List ℕ) (shows : Shows piece shown) where
  within : (i : ℕ) → i < length piece → get_or shown i 0 ≡ get_or piece i 0
  within i below = sym (get_or-resized (length piece) shown i below) ∙ ap (λ (xs : List ℕ). get_or xs i 0) shows

  each : (len : ℕ) → (len ≤ length piece) ⊎ (length shown ≤ length piece) → (i : ℕ) → i < len → get_or shown i 0 ≡ get_or piece i 0
  each len (inl short) i below = within i (omega arith)
  each len (inr short) i below = elim (cases_lt i (length piece)) [ inl here ↦ within i here | inr past ↦ get_or_past shown i 0 (omega arith) ∙ sym (get_or_past piece i 0 past) ]

  pub Shows-resized : (len : ℕ) → (len ≤ length piece) ⊎ (length shown ≤ length piece) → Shows (resized len piece) shown
  Shows-resized len either =
      let size : length (resized len piece) ≡ len = length-resized len piece in
      let own : length (resized len shown) ≡ len = length-resized len shown in
      ap (λ n. resized n shown) size
      ∙ ext_get_or 0 (resized len shown) (resized len piece) (own ∙ sym size)
      (λ i below. get_or-resized len shown i (omega (arith, own)) ∙ each len either i (omega (arith, own)) ∙ sym (get_or-resized len piece i (omega (arith, own))))
