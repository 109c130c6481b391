-- Blocks that are counted one after the other.
use Rattle.std.proofs.Common.{◌≡◌, List, ◌∷◌, ◌++◌, Bool, true, false, Option, None, Some, refl, sym, ap, ◌∙◌}
use Rattle.std.specs.Prelude.{option_and_then, option_map}
use Rattle.std.proofs.lemmas.List.{append_assoc}
use Rattle.s3_rows.specs.declared.change.Change.{Change}
use Rattle.s3_rows.specs.Rows.{Parameters}
use Rattle.s3_rows.specs.Tables.{Tables}
use Rattle.s3_rows.specs.Batches.{tables_after}
use Rattle.row_lemmas.proofs.Tables.{tables_after-tables_after}
use Rattle.file_ops.specs.declared.place.Place.{Place}
use Rattle.file_ops.specs.Placed.{AreCounted, place_counted, places_counted}

-- a batch with what is added to it, if anything may be
abbrev pub with_added : List Change → Option (List Change) → Option (List Change)
with_added batch added = option_map (λ more. batch ++ more) added

with_added-with_added : (a b : List Change) (added : Option (List Change)) → with_added a (with_added b added) ≡ with_added (a ++ b) added
with_added-with_added a b None = refl
with_added-with_added a b (Some more) = ap (λ (cs : List Change). Some cs) (sym (append_assoc a b more))

module _ (p : Parameters) (t : Tables) (batch : List Change) (x : Place) where
  -- one place more
  pub counted_more : (answer : Bool) → answer ≡ true → (now : List Change) (xs : List Place) → AreCounted (place_counted p x (tables_after batch t)) batch answer now
      → with_added now (places_counted p xs (tables_after now t)) ≡ with_added batch (places_counted p (x ∷ xs) (tables_after batch t))
  counted_more false is now xs one = absurd (cc is)
  counted_more true is now xs one = by_case (place_counted p x (tables_after batch t)) one
    where
      by_case : (added : Option (List Change)) → AreCounted added batch true now
          → with_added now (places_counted p xs (tables_after now t))
          ≡ with_added batch (option_and_then (λ more. option_map (λ rest. more ++ rest) (places_counted p xs (tables_after more (tables_after batch t)))) added)
      by_case None one = let clash : true ≡ false = one in absurd (cc clash)
      by_case (Some more) one =
          let is : now ≡ batch ++ more = one.1 in
          ap (λ (cs : List Change). with_added cs (places_counted p xs (tables_after cs t))) is
          ∙ ap (λ (u : Tables). with_added (batch ++ more) (places_counted p xs u)) (sym (tables_after-tables_after batch more t))
          ∙ sym (with_added-with_added batch more (places_counted p xs (tables_after more (tables_after batch t))))
