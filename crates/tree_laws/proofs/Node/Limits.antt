-- Lengths, targets, attributes, modes and times stay within their rules, and so do the numbers that come next.
use Rattle.std.proofs.Common.{◌≡◌, ◌≤◌, ◌<◌, ℕ, ◌+◌, ◌^◌, List, [], ◌∷◌, ◌++◌, Option, None, Some, arith, length-drop}
use Rattle.std.proofs.lemmas.List.{length-append, length-take-le}
use Rattle.std.specs.BTreeMap.{is_at}
use Rattle.std.specs.Cmp.Lexicographic.{slice_cmp}
use Rattle.std.specs.Ordering.{nat_cmp}
use Rattle.std.specs.Prelude.{◌-◌, length, take, drop}
use Rattle.op_frames.specs.declared.operation.Op.{Op}
use Rattle.plain_tree.specs.Checks.{attribute_name_check, value_check}
use Rattle.plain_tree.specs.Entries.{unnamed}
use Rattle.plain_tree.specs.Files.{padded, with_bytes, written_at, resized}
use Rattle.plain_tree.specs.Operations.{tree_after}
use Rattle.plain_tree.specs.Subtrees.{copied_content}
use Rattle.plain_tree.specs.Tree.{Content, Regular, Directory, Link, Node, Tree, node_at, changed_by, named}
use Rattle.plain_tree.specs.WellFormed.{IsWithinLimits, AreAttributes, AreWithinLimits, IsWithinRules, HaveModes, AreTimes, HasTimes}
use Rattle.block_math.proofs.LengthLemmas.{le-padded, length-resized}
use Rattle.tree_laws.proofs.Node.Each.{EachEntry, each-insert_entry, each-remove_entry, Each, Changes, Keeps, each-found, each-tree_after}
use Rattle.tree_laws.proofs.Walk.Calls.{walk-tree_after}
use Rattle.tree_laws.proofs.Walk.Edits.{Edit, Mode, Mtime, Resize, Write, Attribute, NoAttribute, Entry, NoEntry, edited, Fits, NewNode, File, Folder, Symlink, built, Begins}
use Rattle.tree_laws.proofs.Walk.Operations.{Walk}

abbrev IsAttribute : List ℕ → List ℕ → Type 0
IsAttribute name value = (attribute_name_check name ≡ None) × (value_check value ≡ None)

abbrev Limited : Node → Type 0
Limited node = IsWithinLimits node.content × EachEntry IsAttribute node.attributes

-- ---- contents

limit-named : (name : List ℕ) (inode : ℕ) (content : Content) → IsWithinLimits content → IsWithinLimits (named name inode content)
limit-named name inode (Directory entries) within = within
limit-named name inode (Regular bytes) within = within
limit-named name inode (Link target) within = within

limit-unnamed : (name : List ℕ) (content : Content) → IsWithinLimits content → IsWithinLimits (unnamed name content)
limit-unnamed name (Directory entries) within = within
limit-unnamed name (Regular bytes) within = within
limit-unnamed name (Link target) within = within

limit-copied : (next : ℕ) (order : List ℕ) (content : Content) → IsWithinLimits content → IsWithinLimits (copied_content next order content)
limit-copied next order (Directory entries) within = within
limit-copied next order (Regular bytes) within = within
limit-copied next order (Link target) within = within

limit-bytes : (f : List ℕ → List ℕ) → ((bytes : List ℕ) → length bytes ≤ 2 ^ 50 → length (f bytes) ≤ 2 ^ 50) → (content : Content) → IsWithinLimits content → IsWithinLimits (with_bytes f content)
limit-bytes f keeps (Regular bytes) within = keeps bytes within
limit-bytes f keeps (Directory entries) within = within
limit-bytes f keeps (Link target) within = within

length-written : (most offset : ℕ) (text old : List ℕ) → offset + length text ≤ most → length old ≤ most → length (written_at offset text old) ≤ most
length-written most offset text old ends fits =
    let head : List ℕ = take offset (padded offset old) in
    let tail : List ℕ = drop (offset + length text) old in
    let whole : length ((head ++ text) ++ tail) ≡ length (head ++ text) + length tail = length-append (head ++ text) tail in
    let front : length (head ++ text) ≡ length head + length text = length-append head text in
    let long : length head ≡ offset = length-take-le offset (padded offset old) (le-padded offset old) in
    let back : length tail ≡ length old - (offset + length text) = length-drop (offset + length text) old in
    omega (arith, whole, front, long, back, ends, fits)

-- ---- attributes

each_from_attributes : (attributes : List (List ℕ × List ℕ)) → AreAttributes attributes → EachEntry IsAttribute attributes
each_from_attributes [] are = _
each_from_attributes (a ∷ attributes) are = ((are.0, are.1), each_from_attributes attributes are.2)

attributes_from_each : (attributes : List (List ℕ × List ℕ)) → EachEntry IsAttribute attributes → AreAttributes attributes
attributes_from_each [] each = _
attributes_from_each (a ∷ attributes) each = (each.0.0, each.0.1, attributes_from_each attributes each.1)

-- ---- nodes

edit_keeps_limits : (now : ℕ) (e : Edit) → Fits e → Changes Limited (edited now e)
edit_keeps_limits now (Resize size) fits node within = (limit-bytes (resized size) (λ bytes old. omega (arith, length-resized size bytes, fits)) node.content within.0, within.1)
edit_keeps_limits now (Write offset bytes) fits node within =
    (limit-bytes (written_at offset bytes) (λ old short. length-written (2 ^ 50) offset bytes old fits short) node.content within.0, within.1)
edit_keeps_limits now (Attribute name value) fits node within = (within.0, each-insert_entry IsAttribute (slice_cmp nat_cmp) name value fits (λ other old are. (are.0, fits.1)) node.attributes within.1)
edit_keeps_limits now (NoAttribute name) fits node within = (within.0, each-remove_entry IsAttribute (is_at (slice_cmp nat_cmp name)) node.attributes within.1)
edit_keeps_limits now (Entry name inode) fits node within = (limit-named name inode node.content within.0, within.1)
edit_keeps_limits now (NoEntry name) fits node within = (limit-unnamed name node.content within.0, within.1)
edit_keeps_limits now e fits node within = within

new_has_limits : (now : ℕ) (new : NewNode) → Begins new → Limited (built now new)
new_has_limits now (File mode uid gid) begins = (omega arith, _)
new_has_limits now (Folder mode uid gid) begins = (_, _)
new_has_limits now (Symlink target uid gid) begins = (begins, _)

keeps_limits : (now : ℕ) → Keeps now Limited
keeps_limits now = record {
  edits = edit_keeps_limits now;
  makes = new_has_limits now;
  locks = λ node within. within;
  copies = λ next order node within. (limit-copied next order node.content within.0, within.1);
}

each_from_limits : (es : List (ℕ × Node)) → AreWithinLimits es → Each Limited es
each_from_limits [] within = _
each_from_limits (e ∷ es) within = ((within.0, each_from_attributes e.1.attributes within.1), each_from_limits es within.2)

limits_from_each : (es : List (ℕ × Node)) → Each Limited es → AreWithinLimits es
limits_from_each [] each = _
limits_from_each (e ∷ es) each = (each.0.0, attributes_from_each e.1.attributes each.0.1, limits_from_each es each.1)

-- ---- modes

abbrev HasMode : Node → Type 0
HasMode node = node.mode ≤ 4095

edit_keeps_mode : (now : ℕ) (e : Edit) → Fits e → Changes HasMode (edited now e)
edit_keeps_mode now (Mode mode) fits node holds = fits
edit_keeps_mode now e fits node holds = holds

new_has_mode : (now : ℕ) (new : NewNode) → Begins new → HasMode (built now new)
new_has_mode now (File mode uid gid) begins = begins
new_has_mode now (Folder mode uid gid) begins = begins
new_has_mode now (Symlink target uid gid) begins = omega arith

keeps_mode : (now : ℕ) → Keeps now HasMode
keeps_mode now = record { edits = edit_keeps_mode now; makes = new_has_mode now; locks = λ node holds. holds; copies = λ next order node holds. holds }

each_from_modes : (es : List (ℕ × Node)) → HaveModes es → Each HasMode es
each_from_modes [] have = _
each_from_modes (e ∷ es) have = (have.0, each_from_modes es have.1)

modes_from_each : (es : List (ℕ × Node)) → Each HasMode es → HaveModes es
modes_from_each [] each = _
modes_from_each (e ∷ es) each = (each.0, modes_from_each es each.1)

pub mode-node_at : (t : Tree) (x : ℕ) (node : Node) → HaveModes t.nodes → node_at t x ≡ Some node → node.mode ≤ 4095
mode-node_at t x node have is = each-found HasMode (is_at (nat_cmp x)) t.nodes node (each_from_modes t.nodes have) is

pub HaveModes-tree_after : (t : Tree) (pass now : ℕ) (op : Op) → HaveModes t.nodes → HaveModes (tree_after t pass op now).nodes
HaveModes-tree_after t pass now op have = modes_from_each (tree_after t pass op now).nodes (each-tree_after HasMode now (keeps_mode now) t pass op (each_from_modes t.nodes have))

-- ---- times

abbrev IsTimed : Node → Type 0
IsTimed node = (node.mtime < 2 ^ 62) × (node.ctime < 2 ^ 62)

edit_keeps_times : (now : ℕ) → now < 2 ^ 62 → (e : Edit) → Fits e → Changes IsTimed (edited now e)
edit_keeps_times now early (Mtime mtime) fits node timed = (fits, early)
edit_keeps_times now early (Resize size) fits node timed = (early, early)
edit_keeps_times now early (Write offset bytes) fits node timed = (early, early)
edit_keeps_times now early (Entry name inode) fits node timed = (early, early)
edit_keeps_times now early (NoEntry name) fits node timed = (early, early)
edit_keeps_times now early e fits node timed = (timed.0, early)

new_has_times : (now : ℕ) → now < 2 ^ 62 → (new : NewNode) → IsTimed (built now new)
new_has_times now early (File mode uid gid) = (early, early)
new_has_times now early (Folder mode uid gid) = (early, early)
new_has_times now early (Symlink target uid gid) = (early, early)

keeps_times : (now : ℕ) → now < 2 ^ 62 → Keeps now IsTimed
keeps_times now early = record {
  edits = edit_keeps_times now early;
  makes = λ new begins. new_has_times now early new;
  locks = λ node timed. timed;
  copies = λ next order node timed. (timed.0, early);
}

each_from_times : (es : List (ℕ × Node)) → AreTimes es → Each IsTimed es
each_from_times [] are = _
each_from_times (e ∷ es) are = ((are.0, are.1), each_from_times es are.2)

times_from_each : (es : List (ℕ × Node)) → Each IsTimed es → AreTimes es
times_from_each [] each = _
times_from_each (e ∷ es) each = (each.0.0, each.0.1, times_from_each es each.1)

pub HasTimes-tree_after : (t : Tree) (pass now : ℕ) (op : Op) → now < 2 ^ 62 → HasTimes t → HasTimes (tree_after t pass op now)
HasTimes-tree_after t pass now op early timed =
    times_from_each (tree_after t pass op now).nodes (each-tree_after IsTimed now (keeps_times now early) t pass op (each_from_times t.nodes timed))

-- ---- the numbers that come next

record Bounded (t : Tree) : Type 0 where
  pub inode : t.next_inode ≤ 2 ^ 62
  pub handle : t.next_handle ≤ 2 ^ 62

bounded_by : (f : Node → Node) (found : Option Node) (x : ℕ) (t : Tree) → Bounded t → Bounded (changed_by f found x t)
bounded_by f None x t bounded = bounded
bounded_by f (Some node) x t bounded = record { inode = bounded.inode; handle = bounded.handle }

bounded_walk : (before : Tree) (now : ℕ) (op : Op) → Walk before now op (λ a b. Bounded a → Bounded b)
bounded_walk before now op = record {
  same = λ t bounded. bounded;
  joined = λ a b c first second bounded. second (first bounded);
  edits = λ e x t fits allowed of_op bounded. bounded_by (edited now e) (node_at t x) x t bounded;
  removes = λ x t bounded. record { inode = bounded.inode; handle = bounded.handle };
  makes = λ new t begins fits bounded. record { inode = fits; handle = bounded.handle };
  opens = λ handle t fits bounded. record { inode = bounded.inode; handle = fits };
  closes = λ number t bounded. record { inode = bounded.inode; handle = bounded.handle };
  copies = λ source t of_trees fits bounded. record { inode = fits; handle = bounded.handle };
  locks = λ x t bounded. record { inode = bounded.inode; handle = bounded.handle };
  uproots = λ below t bounded. record { inode = bounded.inode; handle = bounded.handle };
  leaves = λ pass t bounded. record { inode = bounded.inode; handle = bounded.handle };
}

pub IsWithinRules-tree_after : (t : Tree) (pass now : ℕ) (op : Op) → IsWithinRules t → IsWithinRules (tree_after t pass op now)
IsWithinRules-tree_after t pass now op rules =
    let after : Tree = tree_after t pass op now in
    let bounded : Bounded after = walk-tree_after t pass now (λ a b. Bounded a → Bounded b) (bounded_walk t now) op (record { inode = rules.next_inode; handle = rules.next_handle }) in
    record {
      nodes = limits_from_each after.nodes (each-tree_after Limited now (keeps_limits now) t pass op (each_from_limits t.nodes rules.nodes));
      next_inode = bounded.inode;
      next_handle = bounded.handle;
    }
