-- Well-formed trees: what holds of every tree that was made and then changed by operations.
use Rattle.std.specs.Prelude.{◌≡◌, ◌≢◌, ℕ, zero, suc, ◌^◌, ◌<◌, ◌≤◌, List, [], ◌∷◌, length, sum_by, Bool, false, true, IsTrue, IsSome, Option, None, Some}
use Rattle.s3_base.specs.Numbers.{root}
use Rattle.plain_tree.specs.Tree.{Content, Regular, Directory, Link, Node, Tree, lost_and_found, node_at}
use Rattle.plain_tree.specs.Attributes.{names_in}
use Rattle.plain_tree.specs.Checks.{name_check, attribute_name_check, value_check, target_check}
use Rattle.plain_tree.specs.Names.{NamesInOrder, AttributesInOrder}
use Rattle.plain_tree.specs.Numbers.{InOrder, HandlesInOrder}
use Rattle.plain_tree.specs.Entries.{is_folder, entry_at, child_at, is_named, is_open}

-- it is a regular file that is there
abbrev pub is_file : Option Node → Bool
is_file None = false
is_file (Some node) = elim node.content [ Regular bytes ↦ true | Directory entries ↦ false | Link target ↦ false ]

-- how many entries name the inode
abbrev pub entries_naming : Tree → ℕ → ℕ
entries_naming t inode = sum_by (λ e. names_in inode e.1.content) t.nodes

-- after so many steps from an inode to a directory that has it, there is the root
abbrev pub LeadsToRoot : Tree → ℕ → ℕ → Type 0
LeadsToRoot t zero inode = inode ≡ root
LeadsToRoot t (suc steps) inode = (parent : ℕ) × (name : List ℕ) × (entry_at t parent name ≡ Some inode) × LeadsToRoot t steps parent

-- one tree of names from the root
pub record HasOneTree (t : Tree) : Type 0 where
  pub is_rooted : IsTrue (is_folder (node_at t root))
  pub root_is_unnamed : is_named t root ≡ false
  pub keeps_lost_and_found : IsTrue (is_folder (child_at t root lost_and_found))
  -- every entry names a node, and its name is legal
  pub entries : (parent inode : ℕ) (name : List ℕ) → entry_at t parent name ≡ Some inode → IsSome (node_at t inode)
  pub names : (parent inode : ℕ) (name : List ℕ) → entry_at t parent name ≡ Some inode → name_check name ≡ None
  -- every other directory is named by exactly one entry, and its parents lead to the root
  pub once : (inode : ℕ) → IsTrue (is_folder (node_at t inode)) → inode ≢ root → entries_naming t inode ≡ 1
  pub leads : (inode : ℕ) → IsTrue (is_folder (node_at t inode)) → (steps : ℕ) × LeadsToRoot t steps inode

-- a node but the root that no entry names is a regular file with an open handle, and handles name regular files
pub record HasNoOrphans (t : Tree) : Type 0 where
  pub orphans : (inode : ℕ) → IsSome (node_at t inode) → inode ≢ root → is_named t inode ≡ false → IsTrue (is_file (node_at t inode)) × IsTrue (is_open t inode)
  pub handles : (inode : ℕ) → IsTrue (is_open t inode) → IsTrue (is_file (node_at t inode))

-- the bytes of a file are at most 2^50, and a target is one that Symlink takes
abbrev pub IsWithinLimits : Content → Type 0
IsWithinLimits (Regular bytes) = length bytes ≤ 2 ^ 50
IsWithinLimits (Directory entries) = Unit {0}
IsWithinLimits (Link target) = target_check target ≡ None

-- the attributes are such as Setxattr takes
abbrev pub AreAttributes : List (List ℕ × List ℕ) → Type 0
AreAttributes [] = Unit {0}
AreAttributes (a ∷ attributes) = (attribute_name_check a.0 ≡ None) × (value_check a.1 ≡ None) × AreAttributes attributes

-- lengths, targets and attributes are within their rules, and so are the numbers that come next
abbrev pub AreWithinLimits : List (ℕ × Node) → Type 0
AreWithinLimits [] = Unit {0}
AreWithinLimits (e ∷ nodes) = IsWithinLimits e.1.content × AreAttributes e.1.attributes × AreWithinLimits nodes

pub record IsWithinRules (t : Tree) : Type 0 where
  pub nodes : AreWithinLimits t.nodes
  pub next_inode : t.next_inode ≤ 2 ^ 62
  pub next_handle : t.next_handle ≤ 2 ^ 62

-- modes have the twelve bits of permissions alone
abbrev pub HaveModes : List (ℕ × Node) → Type 0
HaveModes [] = Unit {0}
HaveModes (e ∷ nodes) = (e.1.mode ≤ 4095) × HaveModes nodes

-- what holds of every tree, whatever calls come, but for its times
pub record IsWellFormed (t : Tree) : Type 0 where
  pub nodes : InOrder t
  pub handles : HandlesInOrder t
  pub names : NamesInOrder t
  pub attributes : AttributesInOrder t
  pub tree : HasOneTree t
  pub orphans : HasNoOrphans t
  pub rules : IsWithinRules t
  pub modes : HaveModes t.nodes

-- times are below 2^62
abbrev pub AreTimes : List (ℕ × Node) → Type 0
AreTimes [] = Unit {0}
AreTimes (e ∷ nodes) = (e.1.mtime < 2 ^ 62) × (e.1.ctime < 2 ^ 62) × AreTimes nodes

-- the same where each call is made at such a time
abbrev pub HasTimes : Tree → Type 0
HasTimes t = AreTimes t.nodes
