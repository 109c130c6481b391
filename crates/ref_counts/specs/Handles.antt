-- Open handles, apart from the tree that they are of.
use Rattle.std.specs.Prelude.{◌≡◌, ℕ, ◌+◌, ◌<◌, ◌==◌, List, [], All, Bool, not, ◌&&◌, filter, Option, option_map}
use Rattle.std.specs.List.{list_any}
use Rattle.std.specs.Map.{keys_of, lookup, remove_entry}
use Rattle.std.specs.Ordering.{nat_cmp}
use Rattle.std.specs.BTreeMap.{insert_entry, is_at}
use Rattle.plain_tree.specs.Tree.{Handle, Tree, own_handle}

-- the open handles by their numbers, and the number that comes next
pub record OpenHandles : Type 0 where
  pub next : ℕ
  pub handles : List (ℕ × Handle)

-- they are those of the tree
abbrev pub HasHandles : OpenHandles → Tree → Type 0
HasHandles h whole = (whole.next_handle ≡ h.next) × (whole.handles ≡ h.handles)

-- each number in use is below the next one
abbrev pub AllBelow : {X : Type 0} → ℕ → List (ℕ × X) → Type 0
AllBelow next entries = All (λ k. k < next) (keys_of entries)

abbrev pub no_handles : OpenHandles
no_handles = record { next = 1; handles = [] }

-- the inode of an open handle, where it is the pass's own
abbrev pub inode_open : OpenHandles → ℕ → ℕ → Option ℕ
inode_open h pass number = option_map (λ x. x.inode) (own_handle pass (lookup (is_at (nat_cmp number)) h.handles))

-- with one more handle, under the next number
abbrev pub opened : Handle → OpenHandles → OpenHandles
opened handle h = record { next = h.next + 1; handles = insert_entry nat_cmp h.handles h.next handle }

-- without a handle
abbrev pub closed : ℕ → OpenHandles → OpenHandles
closed number h = record h { handles = remove_entry (is_at (nat_cmp number)) h.handles }

-- without the handles of a pass
abbrev pub closed_all : ℕ → OpenHandles → OpenHandles
closed_all pass h = record h { handles = filter (λ e. not (e.1.pass == pass)) h.handles }

-- some handle is open on the inode
abbrev pub is_held : OpenHandles → ℕ → Bool
is_held h inode = list_any (λ e. e.1.inode == inode) h.handles

-- handles of the pass are, and no other one
abbrev pub is_held_alone : ℕ → OpenHandles → ℕ → Bool
is_held_alone pass h inode = is_held h inode && not (is_held (closed_all pass h) inode)
