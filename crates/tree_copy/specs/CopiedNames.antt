-- The names and the numbers that a copy uses.
use Rattle.std.specs.Prelude.{◌≡◌, ◌+◌, ◌^◌, ◌++◌, ◌&&◌, ℕ, List, Bool, true, false, nat_lt, is_some, Option, None, Some, if◌then◌else◌}
use Rattle.plain_tree.specs.Checks.{attribute_name_check}
use Rattle.s3_rows.specs.declared.change.Change.{Change}
use Rattle.s3_rows.specs.declared.change.Change.TheVariants as changes
use Rattle.s3_rows.specs.declared.lists.NamedAttr.{NamedAttr}
use Rattle.s3_rows.specs.Batches.{tables_after}
use Rattle.s3_rows.specs.Keyed.{row_at}
use Rattle.s3_rows.specs.Rows.{Inode, Parameters}
use Rattle.s3_rows.specs.Selections.{by_attr_name, inode_at, named_attrs}
use Rattle.s3_rows.specs.Tables.{Tables}
use Rattle.ref_counts.specs.Names.{raised}
use Rattle.tree_copy.specs.CopiedRows.{child_copied, entry_copied, node_fits}

-- the attributes of an inode have names such as Setxattr takes
abbrev pub AreAttrNames : Tables → ℕ → Type 0
AreAttrNames t inode = (name : List ℕ) (a : NamedAttr) → row_at by_attr_name name (named_attrs t inode) ≡ Some a → attribute_name_check a.name ≡ None

-- an inode number is left to be drawn
abbrev pub may_draw_from : Parameters → Bool
may_draw_from p = nat_lt p.next_inode (2 ^ 62)

abbrev pub may_draw : Option Parameters → Bool
may_draw None = false
may_draw (Some p) = may_draw_from p

-- an inode may count one entry more
abbrev pub may_link_to : Inode → Bool
may_link_to r = nat_lt (r.refcount + 1) (2 ^ 62)

abbrev pub may_link : Option Inode → Bool
may_link None = true
may_link (Some r) = may_link_to r

-- what an entry names may come
abbrev pub child_may_come : Bool → Tables → ℕ → ℕ → Inode → Tables → Bool
child_may_come again told id now r t = if again then may_link (inode_at t id) else (may_draw t.params && node_fits told id now r t)

-- and the entry behind it
abbrev pub entry_may_come : Bool → Tables → ℕ → ℕ → Inode → List ℕ → Tables → Bool
entry_may_come again told id now r name t = child_may_come again told id now r t && is_some (raised (tables_after (child_copied again told id now r t) t) name)

-- an entry comes behind what it names
abbrev pub with_entry : List Change → ℕ → List ℕ → ℕ → Tables → List Change
with_entry body directory name id t = body ++ entry_copied directory name id (tables_after body t)
