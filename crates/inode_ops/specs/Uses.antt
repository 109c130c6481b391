-- How often a tree uses a name.
use Rattle.std.specs.Prelude.{ℕ, ◌+◌, List, count_by, sum_by}
use Rattle.std.specs.Cmp.Lexicographic.{slice_cmp}
use Rattle.std.specs.Ordering.{is_eq, nat_cmp}
use Rattle.plain_tree.specs.Tree.{Content, Regular, Directory, Link, Tree}

-- how many entries of a directory have the name: one or none
abbrev pub entries_named : List ℕ → Content → ℕ
entries_named name (Directory entries) = count_by (λ e. is_eq (slice_cmp nat_cmp name e.0)) entries
entries_named name (Regular bytes) = 0
entries_named name (Link target) = 0

-- how many entries and attributes have the name
abbrev pub name_uses : Tree → List ℕ → ℕ
name_uses t name =
    sum_by (λ e. entries_named name e.1.content) t.nodes + sum_by (λ e. count_by (λ a. is_eq (slice_cmp nat_cmp name a.0)) e.1.attributes) t.nodes
