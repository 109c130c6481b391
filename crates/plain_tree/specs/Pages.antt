-- Extended attributes, and pages of what lies in the order of names.
use Rattle.std.specs.Prelude.{ℕ, List, take, map, filter, Option, None, Some, option_and_then}
use Rattle.std.specs.Map.{lookup, remove_entry}
use Rattle.std.specs.Ordering.{nat_cmp, is_lt}
use Rattle.std.specs.BTreeMap.{insert_entry, is_at}
use Rattle.std.specs.Cmp.Lexicographic.{slice_cmp}
use Rattle.op_frames.specs.declared.reply.DirEntry.{DirEntry}
use Rattle.s3_base.specs.declared.node_kind.Kind.{Kind}
use Rattle.s3_base.specs.declared.node_kind.Kind.TheVariants as kinds
use Rattle.plain_tree.specs.Tree.{Node, Tree, node_at}
use Rattle.plain_tree.specs.Attributes.{kind_of}
use Rattle.plain_tree.specs.Entries.{entries_of}

-- the first so many whose name is above this one by bytes
abbrev pub page_after : {X : Type 0} → List ℕ → ℕ → List (List ℕ × X) → List (List ℕ × X)
page_after after most items = take most (filter (λ e. is_lt (slice_cmp nat_cmp after e.0)) items)

-- the kind of the node that an entry names
abbrev pub kind_at : Tree → ℕ → Kind
kind_at t inode = elim (node_at t inode) [ Some node ↦ kind_of node.content | None ↦ kinds.Regular ]

-- a page of a directory
abbrev pub directory_page : Tree → Node → List ℕ → ℕ → List DirEntry
directory_page t node after most = map (λ e. record { inode = e.1; kind = kind_at t e.1; name = e.0 }) (page_after after most (entries_of node.content))

-- a page of the names of a node's attributes
abbrev pub attribute_page : Node → List ℕ → ℕ → List (List ℕ)
attribute_page node after most = map (λ e. e.0) (page_after after most node.attributes)

-- the value of an attribute
abbrev pub attribute_of : Node → List ℕ → Option (List ℕ)
attribute_of node name = lookup (is_at (slice_cmp nat_cmp name)) node.attributes

abbrev pub attribute_at : Tree → ℕ → List ℕ → Option (List ℕ)
attribute_at t inode name = option_and_then (λ node. attribute_of node name) (node_at t inode)

abbrev pub with_attribute : List ℕ → List ℕ → Node → Node
with_attribute name value node = record node { attributes = insert_entry (slice_cmp nat_cmp) node.attributes name value }

abbrev pub without_attribute : List ℕ → Node → Node
without_attribute name node = record node { attributes = remove_entry (is_at (slice_cmp nat_cmp name)) node.attributes }
