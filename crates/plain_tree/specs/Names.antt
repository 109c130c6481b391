-- The names of entries and attributes.
use Rattle.std.specs.Prelude.{◌≡◌, ℕ, List, [], ◌∷◌}
use Rattle.std.specs.Cmp.Lexicographic.{slice_cmp}
use Rattle.std.specs.Map.{keys_of, values_of}
use Rattle.std.specs.Ordering.{nat_cmp}
use Rattle.std.specs.declared.cmp.Ordering.TheVariants.{Less}
use Rattle.plain_tree.specs.Tree.{Node, Tree}
use Rattle.plain_tree.specs.Entries.{entries_of}

-- each name is above the one before it by bytes, and the first above another
abbrev pub RiseFrom : List ℕ → List (List ℕ) → Type 0
RiseFrom low [] = Unit {0}
RiseFrom low (name ∷ names) = (slice_cmp nat_cmp low name ≡ Less) × RiseFrom name names

abbrev pub Rise : List (List ℕ) → Type 0
Rise [] = Unit {0}
Rise (name ∷ names) = RiseFrom name names

-- the entries of each directory are in the order of their names, and no two have one name
abbrev pub NamesRise : List Node → Type 0
NamesRise [] = Unit {0}
NamesRise (node ∷ nodes) = Rise (keys_of (entries_of node.content)) × NamesRise nodes

abbrev pub NamesInOrder : Tree → Type 0
NamesInOrder t = NamesRise (values_of t.nodes)

-- the attributes of each node are in the order of their names, and no two have one name
abbrev pub AttributesRise : List Node → Type 0
AttributesRise [] = Unit {0}
AttributesRise (node ∷ nodes) = Rise (keys_of node.attributes) × AttributesRise nodes

abbrev pub AttributesInOrder : Tree → Type 0
AttributesInOrder t = AttributesRise (values_of t.nodes)
