-- Which names an entry of a directory may have.
use Rattle.std.specs.Prelude.{ℕ, ◌==◌, List, [], ◌∷◌, length, Bool, ◌||◌, nat_eq}
use Rattle.std.specs.List.{list_any}
use Rattle.std.specs.Cmp.Lexicographic.{pointwise}

-- empty, with a slash or a zero byte, `.` or `..`
abbrev pub is_forbidden_name : List ℕ → Bool
is_forbidden_name name =
    length name == 0 || list_any (λ b. b == 47 || b == 0) name || pointwise nat_eq name (46 ∷ []) || pointwise nat_eq name (46 ∷ 46 ∷ [])
