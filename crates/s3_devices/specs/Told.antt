-- What a device tells of its content, and how a call changes it.
use Rattle.std.specs.Prelude.{◌≡◌, Option, None, IfSome, MatchOption, IsSomeAnd}

-- the fact holds of the content, where it is told
abbrev pub IfTold : {T : Type 0} → Option T → (T → Type 0) → Type 0
IfTold told P = IfSome told P

-- a device that tells its content tells it after the call too, and it is as the relation says; one that does not goes on so
abbrev pub Becomes : {T : Type 0} → (T → T → Type 0) → Option T → Option T → Type 0
Becomes R before after = MatchOption before (after ≡ None) (λ t. IsSomeAnd after (R t))
