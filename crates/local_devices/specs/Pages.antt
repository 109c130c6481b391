-- Keys that come next in a page.
use Rattle.std.specs.Prelude.{◌≡◌, ℕ, List, [], ◌∷◌, ◌++◌}
use Rattle.std.specs.declared.cmp.Ordering.TheVariants.{Less}
use Rattle.s3_devices.specs.Objects.{key_cmp}
use Rattle.s3_devices.specs.declared.key_list.KeyItem.{KeyItem}

-- the key comes past one, and past the last of the items
pub record ComesNext (after : List ℕ) (items : List KeyItem) (key : List ℕ) : Type 0 where
  pub past : key_cmp after key ≡ Less
  pub last : (front : List KeyItem) (item : KeyItem) → items ≡ front ++ item ∷ [] → key_cmp item.key key ≡ Less
