-- Names that are forbidden, by the tests in their order.
use Rattle.std.proofs.Common.{◌≡◌, ℕ, Bool, false, List, [], ◌∷◌, length, nat_eq}
use Rattle.std.specs.Prelude.{◌==◌, ◌||◌}
use Rattle.std.specs.Cmp.Lexicographic.{pointwise}
use Rattle.std.specs.List.{list_any}
use Rattle.s3_base.specs.Names.{is_forbidden_name}

-- where the first three tests fail, the last one decides
pub forbidden_by_last :
    (name dot dots : List ℕ) (e a d r : Bool) → e ≡ (length name == 0) → a ≡ list_any (λ b. b == 47 || b == 0) name → dot ≡ 46 ∷ []
    → d ≡ pointwise nat_eq name dot → dots ≡ 46 ∷ 46 ∷ [] → r ≡ pointwise nat_eq name dots → e ≡ false → a ≡ false → d ≡ false → r ≡ is_forbidden_name name
forbidden_by_last name dot dots e a d r he ha hdot hd hdots hr fe fa fd =
    let e1 : (length name == 0) ≡ false = cc in
    let e2 : list_any (λ b. b == 47 || b == 0) name ≡ false = cc in
    let e3 : pointwise nat_eq name (46 ∷ []) ≡ false = cc in
    let e4 : r ≡ pointwise nat_eq name (46 ∷ 46 ∷ []) = cc in
    rw (e1, e2, e3) e4
