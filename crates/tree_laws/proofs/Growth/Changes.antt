-- How many entries name an inode after a primitive change.
use Rattle.std.proofs.Common.{◌≡◌, ◌≤◌, ℕ, ◌+◌, List, Bool, true, false, cond, Option, None, Some, refl, ap, arith}
use Rattle.std.specs.BTreeMap.{is_at}
use Rattle.std.specs.Cmp.Lexicographic.{slice_cmp}
use Rattle.std.specs.Ordering.{nat_cmp}
use Rattle.std.specs.List.{filter_map}
use Rattle.std.specs.Prelude.{◌==◌, ◌&&◌, not, filter}
use Rattle.plain_tree.specs.Attributes.{names_in}
use Rattle.plain_tree.specs.Below.{is_among, at_and_below}
use Rattle.plain_tree.specs.Entries.{is_directory, lives, settled, unnamed}
use Rattle.plain_tree.specs.Files.{resized, with_bytes, written_at}
use Rattle.plain_tree.specs.Subtrees.{dropped, left_over, with_lock, without_pass}
use Rattle.plain_tree.specs.Tree.{Content, Regular, Directory, Link, Node, Tree, change_node, changed_by, named, node_at, stamped, with_node, without_node}
use Rattle.plain_tree.specs.WellFormed.{entries_naming}
use Rattle.tree_laws.proofs.Growth.Sums.{total-filter, total-filter_map, total-insert_entry, total-map, total-remove_entry, total-set_value}
use Rattle.tree_laws.proofs.Walk.Edits.{Edit, Stamp, Resize, Write, Entry, NoEntry, edited, SparesEntries, NewNode, File, Folder, Symlink, built}

-- no inode has more names after than before, or so many more
abbrev pub Grows : ℕ → Tree → Tree → Type 0
Grows k t after = (y : ℕ) → entries_naming after y ≤ entries_naming t y + k

pub grows_twice : (j k : ℕ) (a b c : Tree) → Grows j a b → Grows k b c → Grows (j + k) a c
grows_twice j k a b c one two y = omega (arith, one y, two y)

pub grows_not : (t : Tree) → Grows 0 t t
grows_not t y = omega arith

-- ---- contents

-- an entry that names the inode
counted : ℕ → ℕ → ℕ
counted y x = cond (x == y) 1 0

counted_one : (y x : ℕ) → counted y x ≤ 1
unfolding counted
counted_one y x = by_test (x == y)
  where
    by_test : (b : Bool) → cond b 1 0 ≤ 1
    by_test true = let one : 1 ≤ 1 = omega arith in one
    by_test false = let none : 0 ≤ 1 = omega arith in none

names-with_bytes : (y : ℕ) (f : List ℕ → List ℕ) (content : Content) → names_in y (with_bytes f content) ≡ names_in y content
names-with_bytes y f (Regular bytes) = refl
names-with_bytes y f (Directory entries) = refl
names-with_bytes y f (Link target) = refl

names-named : (y : ℕ) (name : List ℕ) (inode : ℕ) (content : Content) → names_in y (named name inode content) ≤ names_in y content + 1
unfolding counted
names-named y name inode (Directory entries) = omega (arith, total-insert_entry (counted y) (slice_cmp nat_cmp) name inode entries, counted_one y inode)
names-named y name inode (Regular bytes) = omega arith
names-named y name inode (Link target) = omega arith

names-unnamed : (y : ℕ) (name : List ℕ) (content : Content) → names_in y (unnamed name content) ≤ names_in y content
unfolding counted
names-unnamed y name (Directory entries) = total-remove_entry (counted y) (is_at (slice_cmp nat_cmp name)) entries
names-unnamed y name (Regular bytes) = omega arith
names-unnamed y name (Link target) = omega arith

-- ---- nodes

abbrev in_node : ℕ → Node → ℕ
in_node y node = names_in y node.content

names-edited : (now y : ℕ) (e : Edit) (node : Node) → names_in y (edited now e node).content ≤ names_in y node.content + 1
names-edited now y (Entry name inode) node = names-named y name inode node.content
names-edited now y (NoEntry name) node = omega (arith, names-unnamed y name node.content)
names-edited now y (Resize size) node = omega (arith, names-with_bytes y (resized size) node.content)
names-edited now y (Write offset bytes) node = omega (arith, names-with_bytes y (written_at offset bytes) node.content)
names-edited now y e node = omega arith

names-spared : (now y : ℕ) (e : Edit) (node : Node) → SparesEntries e → names_in y (edited now e node).content ≤ names_in y node.content + 0
names-spared now y (Entry name inode) node spares = absurd spares
names-spared now y (NoEntry name) node spares = absurd spares
names-spared now y (Resize size) node spares = omega (arith, names-with_bytes y (resized size) node.content)
names-spared now y (Write offset bytes) node spares = omega (arith, names-with_bytes y (written_at offset bytes) node.content)
names-spared now y e node spares = omega arith

-- ---- trees

grows-change_node : (k x : ℕ) (f : Node → Node) (t : Tree) → ((y : ℕ) (node : Node) → names_in y (f node).content ≤ names_in y node.content + k) → Grows k t (change_node x f t)
grows-change_node k x f t more y = by_node (node_at t x) refl
  where
    by_node : (found : Option Node) → node_at t x ≡ found → entries_naming (changed_by f found x t) y ≤ entries_naming t y + k
    by_node None is = omega arith
    by_node (Some node) is = total-set_value (in_node y) k (is_at (nat_cmp x)) node (f node) (more y node) t.nodes is

pub grows-edit : (now x : ℕ) (e : Edit) (t : Tree) → Grows 1 t (change_node x (edited now e) t)
grows-edit now x e t = grows-change_node 1 x (edited now e) t (λ y node. names-edited now y e node)

pub grows-spared : (now x : ℕ) (e : Edit) (t : Tree) → SparesEntries e → Grows 0 t (change_node x (edited now e) t)
grows-spared now x e t spares = grows-change_node 0 x (edited now e) t (λ y node. names-spared now y e node spares)

pub grows-drop : (now x : ℕ) (name : List ℕ) (t : Tree) → Grows 0 t (change_node x (edited now (NoEntry name)) t)
grows-drop now x name t = grows-change_node 0 x (edited now (NoEntry name)) t (λ y node. omega (arith, names-unnamed y name node.content))

pub grows-without_node : (x : ℕ) (t : Tree) → Grows 0 t (without_node x t)
grows-without_node x t y = omega (arith, total-remove_entry (in_node y) (is_at (nat_cmp x)) t.nodes)

names-built : (now y : ℕ) (new : NewNode) → names_in y (built now new).content ≡ 0
names-built now y (File mode uid gid) = refl
names-built now y (Folder mode uid gid) = refl
names-built now y (Symlink target uid gid) = refl

pub grows-with_node : (now : ℕ) (new : NewNode) (t : Tree) → Grows 0 t (with_node (built now new) t)
grows-with_node now new t y = omega (arith, total-insert_entry (in_node y) nat_cmp t.next_inode (built now new) t.nodes, names-built now y new)

pub grows-settled : (x : ℕ) (t : Tree) → Grows 0 t (settled x t)
grows-settled x t y = by_test (lives t x)
  where
    by_test : (b : Bool) → entries_naming (cond b t (without_node x t)) y ≤ entries_naming t y + 0
    by_test true = omega arith
    by_test false = grows-without_node x t y

pub grows-dropped : (now : ℕ) (x : Option ℕ) (t : Tree) → Grows 0 t (dropped now x t)
grows-dropped now None t = grows_not t
grows-dropped now (Some x) t =
    grows_twice 0 0 t (change_node x (stamped now) t) (dropped now (Some x) t) (grows-spared now x Stamp t _) (grows-settled x (change_node x (stamped now) t))

pub grows-with_lock : (x : ℕ) (t : Tree) → Grows 0 t (with_lock x t)
grows-with_lock x t y = let same : entries_naming (with_lock x t) y ≡ entries_naming t y = total-map (in_node y) lock each t.nodes in omega (arith, same)
  where
    lock : ℕ × Node → ℕ × Node
    lock e = cond (is_among (at_and_below t x) e.0) (e.0, record e.1 { locked = true }) e

    each : (e : ℕ × Node) → in_node y (lock e).1 ≡ in_node y e.1
    each e = by_test (is_among (at_and_below t x) e.0)
      where
        by_test : (b : Bool) → names_in y (cond b (e.0, record e.1 { locked = true }) e).1.content ≡ names_in y e.1.content
        by_test true = refl
        by_test false = refl

pub grows-left_over : (without : Tree) (below : List ℕ) (now : ℕ) (t : Tree)
    → (y : ℕ) → entries_naming (record t { nodes = filter_map (left_over without below now) t.nodes }) y ≤ entries_naming t y
grows-left_over without below now t y = total-filter_map (in_node y) (left_over without below now) each t.nodes
  where
    each : (e z : ℕ × Node) → left_over without below now e ≡ Some z → in_node y z.1 ≤ in_node y e.1
    each e z is = by_tests (is_among below e.0) (lives without e.0 && not (is_directory e.1.content)) is
      where
        by_tests : (a b : Bool) → cond a (cond b (Some (e.0, stamped now e.1)) None) (Some e) ≡ Some z → in_node y z.1 ≤ in_node y e.1
        by_tests true true found =
            let one : (e.0, stamped now e.1) ≡ z = cc found in
            let same : in_node y e.1 ≡ in_node y z.1 = ap (λ (x : ℕ × Node). in_node y x.1) one in
            omega (arith, same)
        by_tests true false found = absurd (cc found)
        by_tests false b found =
            let one : e ≡ z = cc found in
            let same : in_node y e.1 ≡ in_node y z.1 = ap (λ (x : ℕ × Node). in_node y x.1) one in
            omega (arith, same)

pub grows-without_pass : (pass : ℕ) (t : Tree) → Grows 0 t (without_pass pass t)
grows-without_pass pass t y = omega (arith, total-filter (in_node y) (λ (e : ℕ × Node). lives (record t { handles = filter (λ h. not (h.1.pass == pass)) t.handles }) e.0) t.nodes)
