-- Files under operations that write no bytes: each has the bytes that it had, or is new and empty, or a copy of one that was there.
use Rattle.std.proofs.Common.{◌≡◌, ◌≢◌, ◌≤◌, ◌<◌, ℕ, List, [], Bool, true, false, cond, Option, None, Some, refl, sym, ap, ◌∙◌, ◌⊎◌, inl, inr, arith}
use Rattle.std.proofs.lemmas.Bool.{cases_eq}
use Rattle.std.proofs.lemmas.Map.Entries.{lookup-filter-keys}
use Rattle.std.specs.BTreeMap.{is_at}
use Rattle.std.specs.Ordering.{nat_cmp}
use Rattle.std.specs.Prelude.{◌==◌, ◌&&◌, filter, not, option_and_then, option_map}
use Rattle.op_frames.specs.declared.operation.Op.{Op}
use Rattle.op_frames.specs.declared.operation.Op.TheVariants as ops
use Rattle.plain_tree.specs.Below.{at_and_below, is_among}
use Rattle.plain_tree.specs.Checks.{first_failure}
use Rattle.plain_tree.specs.Classes.{Bytes, class_of}
use Rattle.plain_tree.specs.Entries.{is_directory, lives, unnamed}
use Rattle.plain_tree.specs.Files.{bytes_of, file_at}
use Rattle.plain_tree.specs.Numbers.{InOrder}
use Rattle.plain_tree.specs.Operations.{checks, effect, tree_after}
use Rattle.plain_tree.specs.Subtrees.{copied_content, left_over, with_copy, with_lock, without_directories}
use Rattle.plain_tree.specs.Tree.{Content, Regular, Directory, Link, Node, Tree, change_node, named, node_at, stamped, touched, with_node, without_node}
use Rattle.tree_laws.specs.Files.{KeepsFiles, KeepsOldFiles, copies_files}
use Rattle.tree_laws.proofs.Copy.Nodes.{FromCopy, from_node, node_before, with_copies}
use Rattle.tree_laws.proofs.File.Alone.{changes_found}
use Rattle.tree_laws.proofs.Node.Keys.{lookup-remove_entry_other, numbers_tell, same_number}
use Rattle.tree_laws.proofs.Node.Order.{order_walk}
use Rattle.tree_laws.proofs.Node.Reading.{lookup-remove_entry_same, node_at-with_node_other, node_at-with_node_same, read_changed, read_mapped}
use Rattle.tree_laws.proofs.Node.Subtree.{left_of, left_over_found, lock_within, locked_found}
use Rattle.tree_laws.proofs.Walk.Calls.{after_call}
use Rattle.tree_laws.proofs.Walk.Edits.{Edit, Entry, NoEntry, Resize, Write, IsOf, edited, NewNode, File, Folder, Symlink, built}
use Rattle.tree_laws.proofs.Walk.Operations.{Walk, effects-effect, effects_by_walk}

-- the bytes of a node, if it is a file
abbrev file_in : Option Node → Option (List ℕ)
file_in found = option_and_then (λ node. bytes_of node.content) found

KeepsFiles-same : (t after : Tree) → t.next_inode ≤ after.next_inode → ((x : ℕ) (b : List ℕ) → file_at after x ≡ Some b → file_at t x ≡ Some b) → KeepsFiles t after
KeepsFiles-same t after more same = record { next_inode = more; files = λ x b is. inl (same x b is) }

KeepsFiles-refl : (t : Tree) → KeepsFiles t t
KeepsFiles-refl t = KeepsFiles-same t t (omega arith) (λ x b is. is)

KeepsFiles-trans : (a b c : Tree) → KeepsFiles a b → KeepsFiles b c → KeepsFiles a c
KeepsFiles-trans a b c first second = record { next_inode = omega (arith, first.next_inode, second.next_inode); files = each }
  where
    each : (x : ℕ) (text : List ℕ) → file_at c x ≡ Some text → (file_at a x ≡ Some text) ⊎ ((a.next_inode ≤ x) × (text ≡ []))
    each x text is =
        elim (second.files x text is) [
          | inl there ↦ first.files x text there
          | inr new ↦ inr (omega (arith, first.next_inode, new.0), new.1)
        ]

-- ---- each change

bytes-named : (name : List ℕ) (inode : ℕ) (content : Content) → bytes_of (named name inode content) ≡ bytes_of content
bytes-named name inode (Regular bytes) = refl
bytes-named name inode (Directory entries) = refl
bytes-named name inode (Link target) = refl

bytes-unnamed : (name : List ℕ) (content : Content) → bytes_of (unnamed name content) ≡ bytes_of content
bytes-unnamed name (Regular bytes) = refl
bytes-unnamed name (Directory entries) = refl
bytes-unnamed name (Link target) = refl

bytes-edited : (op : Op) → class_of op ≢ Bytes → (now : ℕ) (e : Edit) → IsOf op e → (node : Node) → bytes_of (edited now e node).content ≡ bytes_of node.content
bytes-edited op writes_none now (Resize size) of_op node = absurd (writes_none of_op)
bytes-edited op writes_none now (Write offset bytes) of_op node = absurd (writes_none of_op)
bytes-edited op writes_none now (Entry name inode) of_op node = bytes-named name inode node.content
bytes-edited op writes_none now (NoEntry name) of_op node = bytes-unnamed name node.content
bytes-edited op writes_none now e of_op node = refl

KeepsFiles-change_node : (f : Node → Node) → ((node : Node) → bytes_of (f node).content ≡ bytes_of node.content) → (y : ℕ) (t : Tree) → KeepsFiles t (change_node y f t)
KeepsFiles-change_node f keeps y t =
    let next : (change_node y f t).next_inode ≡ t.next_inode = (changes_found f y t (node_at t y) refl).next_inode in
    KeepsFiles-same t (change_node y f t) (omega (arith, next)) (λ x b is. sym (read_changed file_in f keeps y x t) ∙ is)

KeepsFiles-without_node : (y : ℕ) (t : Tree) → InOrder t → KeepsFiles t (without_node y t)
KeepsFiles-without_node y t ordered = KeepsFiles-same t (without_node y t) (omega arith) each
  where
    each : (x : ℕ) (b : List ℕ) → file_at (without_node y t) x ≡ Some b → file_at t x ≡ Some b
    each x b is =
        elim (cases_eq x y) [
          | inl same ↦
              let gone : file_at (without_node y t) x ≡ None =
              ap (λ k. file_at (without_node y t) k) same ∙ ap file_in (lookup-remove_entry_same y 0 t.nodes t.next_inode ordered) in
              let clash : None ≡ Some b = sym gone ∙ is in
              absurd (cc clash)
          | inr apart ↦ sym (ap file_in (lookup-remove_entry_other nat_cmp numbers_tell y x t.nodes apart)) ∙ is
        ]

empty_at_first : (now : ℕ) (new : NewNode) (b : List ℕ) → bytes_of (built now new).content ≡ Some b → b ≡ []
empty_at_first now (File mode uid gid) b is =
    let same : [] ≡ b = cc is in
    sym same
empty_at_first now (Folder mode uid gid) b is = absurd (cc is)
empty_at_first now (Symlink target uid gid) b is = absurd (cc is)

KeepsFiles-with_node : (now : ℕ) (new : NewNode) (t : Tree) → KeepsFiles t (with_node (built now new) t)
KeepsFiles-with_node now new t = record { next_inode = omega arith; files = each }
  where
    each : (x : ℕ) (b : List ℕ) → file_at (with_node (built now new) t) x ≡ Some b → (file_at t x ≡ Some b) ⊎ ((t.next_inode ≤ x) × (b ≡ []))
    each x b is =
        elim (cases_eq x t.next_inode) [
          | inl same ↦
              let here : file_at (with_node (built now new) t) x ≡ bytes_of (built now new).content =
              ap (λ k. file_at (with_node (built now new) t) k) same ∙ ap file_in (node_at-with_node_same (built now new) t) in
              inr (omega (arith, same), empty_at_first now new b (sym here ∙ is))
          | inr apart ↦ inl (sym (ap file_in (node_at-with_node_other (built now new) t x apart)) ∙ is)
        ]

bytes-locked : (among : Bool) (node : Node) → file_in (Some (lock_within among node)) ≡ file_in (Some node)
bytes-locked true node = refl
bytes-locked false node = refl

KeepsFiles-with_lock : (y : ℕ) (t : Tree) → KeepsFiles t (with_lock y t)
KeepsFiles-with_lock y t =
    KeepsFiles-same t (with_lock y t) (omega arith) (λ x b is.
    sym (ap file_in (locked_found (at_and_below t y) x t.nodes) ∙ read_mapped file_in (lock_within (is_among (at_and_below t y) x)) (bytes-locked (is_among (at_and_below t y) x)) (node_at t x)) ∙ is)

left_bytes : (among stays : Bool) (now x : ℕ) (node : Node) (b : List ℕ)
    → file_in (option_map (λ (p : ℕ × Node). p.1) (cond among (cond stays (Some (x, stamped now node)) None) (Some (x, node)))) ≡ Some b → bytes_of node.content ≡ Some b
left_bytes true true now x node b is = is
left_bytes true false now x node b is = absurd (cc is)
left_bytes false stays now x node b is = is

file_left : (below : List ℕ) (without : Tree) (now x : ℕ) (found : Option Node) (b : List ℕ) → file_in (left_of (left_over without below now) x found) ≡ Some b → file_in found ≡ Some b
file_left below without now x None b is = is
file_left below without now x (Some node) b is = left_bytes (is_among below x) (lives without x && not (is_directory node.content)) now x node b is

if_kept : (test : Bool) (found : Option Node) (b : List ℕ) → file_in (cond test found None) ≡ Some b → file_in found ≡ Some b
if_kept true found b is = is
if_kept false found b is = absurd (cc is)

-- ---- the operations

unwritten_walk : (before : Tree) (now : ℕ) (op : Op) → class_of op ≢ Bytes → copies_files op ≡ false → Walk before now op (λ a b. InOrder a → InOrder b × KeepsFiles a b)
unwritten_walk before now op writes_none copies_none =
    let order : Walk before now op (λ a b. InOrder a → InOrder b) = order_walk before now op in
    record {
      same = λ t ordered. (ordered, KeepsFiles-refl t);
      joined = λ a b c first second ordered.
          let one = first ordered in
          let two = second one.0 in
          (two.0, KeepsFiles-trans a b c one.1 two.1);
      edits = λ e x t fits allowed of_op ordered.
          (order.edits e x t fits allowed of_op ordered, KeepsFiles-change_node (edited now e) (bytes-edited op writes_none now e of_op) x t);
      removes = λ x t ordered. (order.removes x t ordered, KeepsFiles-without_node x t ordered);
      makes = λ new t begins fits ordered. (order.makes new t begins fits ordered, KeepsFiles-with_node now new t);
      opens = λ handle t fits ordered. (ordered, KeepsFiles-same t _ (omega arith) (λ x b is. is));
      closes = λ number t ordered. (ordered, KeepsFiles-same t _ (omega arith) (λ x b is. is));
      copies = λ source t copied fits.
          let clash : true ≡ false = sym copied ∙ copies_none in
          absurd (cc clash);
      locks = λ x t ordered. (order.locks x t ordered, KeepsFiles-with_lock x t);
      uproots = λ below t ordered.
          let without : Tree = without_directories below t in (
            order.uproots below t ordered,
            KeepsFiles-same t _ (omega arith) (λ x b is.
                file_left below without now x (node_at t x) b (sym (ap file_in (left_over_found below without now x 0 t.nodes t.next_inode ordered)) ∙ is)),
          );
      leaves = λ pass t ordered.
          let keeps : ℕ → Bool = lives (record t { handles = filter (λ h. not (h.1.pass == pass)) t.handles }) in (
            order.leaves pass t ordered,
            KeepsFiles-same t _ (omega arith) (λ x b is.
                if_kept (keeps x) (node_at t x) b (sym (ap file_in (lookup-filter-keys (is_at (nat_cmp x)) keeps (keeps x) (λ k here. ap keeps (sym (same_number x k here))) t.nodes)) ∙ is)),
          );
    }

pub KeepsFiles-effect : (t : Tree) (pass now : ℕ) (op : Op) → InOrder t → class_of op ≢ Bytes → copies_files op ≡ false → first_failure (checks t pass op) ≡ None → KeepsFiles t (effect t pass op now)
KeepsFiles-effect t pass now op ordered writes_none copies_none passes =
    (effects-effect t pass now op (λ b. InOrder t → InOrder b × KeepsFiles t b) (effects_by_walk t pass now op (λ a b. InOrder a → InOrder b × KeepsFiles a b) (unwritten_walk t now op writes_none copies_none)) passes ordered).1

-- ---- with copies

pub bytes-copied : (next : ℕ) (order : List ℕ) (content : Content) → bytes_of (copied_content next order content) ≡ bytes_of content
bytes-copied next order (Regular bytes) = refl
bytes-copied next order (Directory entries) = refl
bytes-copied next order (Link target) = refl

-- the entry that names a copy leaves the bytes of all files
pub file_at-with_copy : (source p : ℕ) (n : List ℕ) (now : ℕ) (t : Tree) (x : ℕ) → file_at (with_copy source p n now t) x ≡ file_at (with_copies t (at_and_below t source) now) x
file_at-with_copy source p n now t x =
    read_changed file_in (λ node. touched now (record node { content = named n t.next_inode node.content })) (λ node. bytes-named n t.next_inode node.content) p x
    (with_copies t (at_and_below t source) now)

KeepsOldFiles-with_copy : (source p : ℕ) (n : List ℕ) (now : ℕ) (t : Tree) → InOrder t → KeepsOldFiles t (with_copy source p n now t)
KeepsOldFiles-with_copy source p n now t ordered = record {
  next_inode =
      let next : (with_copy source p n now t).next_inode ≡ more.next_inode =
      (changes_found (λ node. touched now (record node { content = named n t.next_inode node.content })) p more (node_at more p) refl).next_inode in
      omega (arith, next);
  old = λ x b less is. sym (ap file_in (node_before t source now x less)) ∙ sym (file_at-with_copy source p n now t x) ∙ is;
  new = λ x b above is. inr (of_found x b (node_at more x) refl above (sym (file_at-with_copy source p n now t x) ∙ is));
}
  where
    more : Tree
    more = with_copies t (at_and_below t source) now

    of_node : (x : ℕ) (b : List ℕ) (node : Node) → t.next_inode ≤ x → bytes_of node.content ≡ Some b → (node_at t x ≡ Some node) ⊎ FromCopy t (at_and_below t source) now (at_and_below t source) x node
        → (of : ℕ) × (file_at t of ≡ Some b)
    of_node x b node above is (inl there) = (x, ap file_in there ∙ is)
    of_node x b node above is (inr from) =
        (from.of, ap file_in from.there ∙ sym (bytes-copied t.next_inode (at_and_below t source) from.original.content) ∙ sym (ap (λ (y : Node). bytes_of y.content) from.is) ∙ is)

    of_found : (x : ℕ) (b : List ℕ) (found : Option Node) → node_at more x ≡ found → t.next_inode ≤ x → file_in (node_at more x) ≡ Some b → (of : ℕ) × (file_at t of ≡ Some b)
    of_found x b None there above is =
        let clash : None ≡ Some b = sym (ap file_in there) ∙ is in
        absurd (cc clash)
    of_found x b (Some node) there above is = of_node x b node above (sym (ap file_in there) ∙ is) (from_node t (at_and_below t source) now x node there)

KeepsOldFiles-KeepsFiles : (t after : Tree) → KeepsFiles t after → KeepsOldFiles t after
KeepsOldFiles-KeepsFiles t after keeps = record { next_inode = keeps.next_inode; old = old; new = new }
  where
    old : (x : ℕ) (b : List ℕ) → x < t.next_inode → file_at after x ≡ Some b → file_at t x ≡ Some b
    old x b less is =
        elim (keeps.files x b is) [
          | inl there ↦ there
          | inr made ↦ absurd (omega (arith, less, made.0))
        ]

    new : (x : ℕ) (b : List ℕ) → t.next_inode ≤ x → file_at after x ≡ Some b → (b ≡ []) ⊎ ((of : ℕ) × (file_at t of ≡ Some b))
    new x b above is =
        elim (keeps.files x b is) [
          | inl there ↦ inr (x, there)
          | inr made ↦ inl made.1
        ]

pub KeepsOldFiles-effect : (t : Tree) (pass now : ℕ) (op : Op) → InOrder t → class_of op ≢ Bytes → first_failure (checks t pass op) ≡ None → KeepsOldFiles t (effect t pass op now)
KeepsOldFiles-effect t pass now (ops.CopyTree source p n) ordered writes_none passes = KeepsOldFiles-with_copy source p n now t ordered
KeepsOldFiles-effect t pass now op ordered writes_none passes = KeepsOldFiles-KeepsFiles t (effect t pass op now) (KeepsFiles-effect t pass now op ordered writes_none refl passes)

pub KeepsOldFiles-tree_after : (t : Tree) (pass now : ℕ) (op : Op) → InOrder t → class_of op ≢ Bytes → KeepsOldFiles t (tree_after t pass op now)
KeepsOldFiles-tree_after t pass now op ordered writes_none =
    after_call (KeepsOldFiles t) t pass now op (KeepsOldFiles-KeepsFiles t t (KeepsFiles-refl t)) (KeepsOldFiles-effect t pass now op ordered writes_none)

-- ---- without copies

pub KeepsFiles-tree_after : (t : Tree) (pass now : ℕ) (op : Op) → InOrder t → class_of op ≢ Bytes → copies_files op ≡ false → KeepsFiles t (tree_after t pass op now)
KeepsFiles-tree_after t pass now op ordered writes_none copies_none =
    after_call (KeepsFiles t) t pass now op (KeepsFiles-refl t) (KeepsFiles-effect t pass now op ordered writes_none copies_none)
