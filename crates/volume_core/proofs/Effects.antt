-- Handles and bytes after operations that are carried out by their plans.
use Rattle.std.proofs.Common.{◌≡◌, ◌≢◌, ℕ, ◌+◌, ◌≤◌, List, [], ◌∷◌, ◌++◌, Bool, true, false, cond, Option, None, Some, refl, sym, ap, ◌∙◌, subst, arith}
use Rattle.std.specs.Prelude.{IsTrue, ◌==◌, length, not, filter, unwrap_or}
use Rattle.std.specs.Map.{remove_entry}
use Rattle.std.specs.Ordering.{nat_cmp}
use Rattle.std.specs.BTreeMap.{insert_entry, is_at}
use Rattle.std.proofs.lemmas.Bool.Decides.{nat_tests}
use Rattle.op_frames.specs.declared.operation.Op.{Op}
use Rattle.op_frames.specs.declared.operation.Op.TheVariants as ops
use Rattle.frame_fields.specs.Fields.{data_field, data_length_field}
use Rattle.op_frames.specs.Operations.{is_op}
use Rattle.op_frames.specs.declared.reply.Reply.{Reply}
use Rattle.op_frames.specs.declared.reply.Reply.TheVariants as replies
use Rattle.plain_tree.specs.Tree as tree
use Rattle.plain_tree.specs.Tree.{Content, Node, Tree, node_at, handle_of, change_node, with_node, with_handle, without_handle, without_node, named, touched, stamped}
use Rattle.plain_tree.specs.Attributes.{attr_of}
use Rattle.plain_tree.specs.Classes.{Bytes, class_of}
use Rattle.tree_laws.specs.Files.{copies_files}
use Rattle.plain_tree.specs.Checks.{first_failure, node_check, file_check, hand_check}
use Rattle.plain_tree.specs.Entries.{entry_at, add_entry, drop_entry, lives, unnamed}
use Rattle.plain_tree.specs.Files.{inode_of}
use Rattle.plain_tree.specs.Operations.{checks, effect, success, attr_reply, new_directory, new_file, make_checks, new_link}
use Rattle.plain_tree.specs.Below.{at_and_below}
use Rattle.plain_tree.specs.Subtrees.{copies, dropped, is_same, moved_entry, without_tree}
use Rattle.plain_tree.specs.Pages.{attribute_page, directory_page, with_attribute, without_attribute}
use Rattle.ref_counts.specs.Handles.{OpenHandles, HasHandles, opened, closed, closed_all}
use Rattle.s3_rows.specs.Tables.{Tables}
use Rattle.volume_core.specs.Causes.{IsWornCopy, writes_blocks}
use Rattle.volume_core.specs.Plans.{is_by_plan, inode_opened, opened_by, closed_by}
use Rattle.volume_core.proofs.ChangedNodes.{next_handle_kept, handles_kept}

-- ---- classes

-- what is carried out by a plan writes no bytes, and copies no files
pub no_bytes : (op : Op) → IsTrue (is_by_plan op) → class_of op ≢ Bytes
no_bytes (ops.Truncate inode size) planned is = cc planned
no_bytes (ops.Read handle offset count) planned is = cc planned
no_bytes (ops.Write handle offset bytes) planned is = cc planned
no_bytes (ops.Fsync handle) planned is = cc planned
no_bytes _ planned is = cc is

pub no_copies : (op : Op) → IsTrue (is_by_plan op) → copies_files op ≡ false
no_copies (ops.CopyTree source parent name) planned = absurd (cc planned)
no_copies _ planned = refl

-- so it writes no blocks
pub writes_nothing : (op : Op) → IsTrue (is_by_plan op) → writes_blocks op ≡ false
writes_nothing (ops.Truncate inode size) planned = absurd (no_bytes (ops.Truncate inode size) planned refl)
writes_nothing (ops.Write handle offset bytes) planned = absurd (no_bytes (ops.Write handle offset bytes) planned refl)
writes_nothing _ planned = refl

-- and needs no count that a copy does
pub no_worn_copy : (op : Op) → IsTrue (is_by_plan op) → (t : Tables) (whole : Tree) (now : ℕ) → IsWornCopy t whole op now → ⊥
no_worn_copy (ops.CopyTree source parent name) planned t whole now worn = cc planned
no_worn_copy _ planned t whole now worn = worn

-- ---- changes of a node leave the handles

own_handles : (f : Node → Node) (inode : ℕ) (whole : Tree) (h : OpenHandles) → HasHandles h whole → HasHandles h (change_node inode f whole)
own_handles f inode whole h has = (next_handle_kept f inode whole ∙ has.0, handles_kept f inode whole ∙ has.1)

-- a node that loses an entry leaves them, whether it goes or not
drop_handles : (h : OpenHandles) (now : ℕ) (inode : Option ℕ) (whole : Tree) → HasHandles h whole → HasHandles h (dropped now inode whole)
drop_handles h now None whole has = has
drop_handles h now (Some inode) whole has = by_case (lives (change_node inode (stamped now) whole) inode)
  where
    by_case : (b : Bool) → HasHandles h (cond b (change_node inode (stamped now) whole) (without_node inode (change_node inode (stamped now) whole)))
    by_case true = own_handles (stamped now) inode whole h has
    by_case false = own_handles (stamped now) inode whole h has

-- and so does one that moves, whether it replaces another or not
move_handles : (h : OpenHandles) (parent : ℕ) (name : List ℕ) (new_parent : ℕ) (new_name : List ℕ) (now : ℕ) (inode : Option ℕ) (whole : Tree) → HasHandles h whole
    → (itself : Bool) → HasHandles h (cond itself whole (moved_entry parent name new_parent new_name now inode whole))
move_handles h parent name new_parent new_name now inode whole has true = has
move_handles h parent name new_parent new_name now None whole has false = has
move_handles h parent name new_parent new_name now (Some inode) whole has false =
    let left : Tree = drop_entry parent name now whole in
    let cleared : Tree = drop_entry new_parent new_name now left in
    let entered : Tree = add_entry new_parent new_name inode now cleared in
    drop_handles h now (entry_at whole new_parent new_name) (change_node inode (stamped now) entered)
    (own_handles (stamped now) inode entered h
    (own_handles (λ node. touched now (record node { content = named new_name inode node.content })) new_parent cleared h
    (own_handles (λ node. touched now (record node { content = unnamed new_name node.content })) new_parent left h
    (own_handles (λ node. touched now (record node { content = unnamed name node.content })) parent whole h has))))

-- and so does a tree that is removed
uproot_handles : (h : OpenHandles) (parent : ℕ) (name : List ℕ) (now : ℕ) (inode : Option ℕ) (whole : Tree) → HasHandles h whole → HasHandles h (without_tree parent name now inode whole)
uproot_handles h parent name now None whole has = has
uproot_handles h parent name now (Some inode) whole has = own_handles (λ node. touched now (record node { content = unnamed name node.content })) parent whole h has

-- and so does one that is copied
pub copy_handles : (h : OpenHandles) (whole : Tree) (pass source parent : ℕ) (name : List ℕ) (now : ℕ) → HasHandles h whole → HasHandles h (effect whole pass (ops.CopyTree source parent name) now)
copy_handles h whole pass source parent name now has =
    let order : List ℕ = at_and_below whole source in
    own_handles (λ node. touched now (record node { content = named name whole.next_inode node.content })) parent
    (record whole { next_inode = whole.next_inode + length order; nodes = whole.nodes ++ copies whole order now order }) h (has.0, has.1)

-- ---- a new file

module _ (whole : Tree) (pass parent : ℕ) (name : List ℕ) (mode uid gid now : ℕ) where
  abbrev entered : Node → Node
  entered node = touched now (record node { content = named name whole.next_inode node.content })

  abbrev made : Tree
  made = with_node (new_file mode uid gid now) (with_handle (record { inode = whole.next_inode; pass = pass }) whole)

  create_handles : (h : OpenHandles) → HasHandles h whole → HasHandles (opened (record { inode = whole.next_inode; pass = pass }) h) (effect whole pass (ops.Create parent name mode uid gid) now)
  create_handles h has =
      own_handles entered parent made (opened (record { inode = whole.next_inode; pass = pass }) h) (
        ap (λ n. n + 1) has.0,
        ap (λ n. insert_entry nat_cmp whole.handles n (record { inode = whole.next_inode; pass = pass })) has.0
            ∙ ap (λ (hs : List (ℕ × tree.Handle)). insert_entry nat_cmp hs h.next (record { inode = whole.next_inode; pass = pass })) has.1,
      )

-- ---- the last check

last_fails : (xs : List (Option ℕ)) (c : Option ℕ) → first_failure (xs ++ c ∷ []) ≡ None → c ≡ None
last_fails [] None is = refl
last_fails [] (Some errno) is = absurd (cc is)
last_fails (None ∷ xs) c is = last_fails xs c is
last_fails (Some errno ∷ xs) c is = absurd (cc is)

create_hand : (whole : Tree) (pass parent : ℕ) (name : List ℕ) (mode uid gid : ℕ) → first_failure (checks whole pass (ops.Create parent name mode uid gid)) ≡ None → hand_check whole ≡ None
create_hand whole pass parent name mode uid gid passes = last_fails (make_checks whole parent name mode) (hand_check whole) passes

open_hand : (whole : Tree) (pass inode : ℕ) → first_failure (checks whole pass (ops.Open inode)) ≡ None → hand_check whole ≡ None
open_hand whole pass inode passes = last_fails (node_check (node_at whole inode) ∷ file_check (node_at whole inode) ∷ []) (hand_check whole) passes

-- ---- Open

open_handles : (whole : Tree) (pass inode now : ℕ) (h : OpenHandles) → HasHandles h whole → first_failure (checks whole pass (ops.Open inode)) ≡ None
    → HasHandles (opened_by (inode_opened (success whole pass (ops.Open inode) now)) pass h) (effect whole pass (ops.Open inode) now)
open_handles whole pass inode now h has passes = by_node (node_at whole inode) refl
  where
    with_it : HasHandles (opened (record { inode = inode; pass = pass }) h) (effect whole pass (ops.Open inode) now)
    with_it = (
      ap (λ n. n + 1) has.0,
      ap (λ n. insert_entry nat_cmp whole.handles n (record { inode = inode; pass = pass })) has.0 ∙ ap (λ (hs : List (ℕ × tree.Handle)). insert_entry nat_cmp hs h.next (record { inode = inode; pass = pass })) has.1,
    )

    by_node : (found : Option Node) → node_at whole inode ≡ found → HasHandles (opened_by (inode_opened (success whole pass (ops.Open inode) now)) pass h) (effect whole pass (ops.Open inode) now)
    by_node None is =
        let clash : Some 2 ≡ None = sym (ap (λ (n : Option Node). first_failure (node_check n ∷ file_check n ∷ hand_check whole ∷ [])) is) ∙ passes in
        absurd (cc clash)
    by_node (Some node) is =
        let reply : success whole pass (ops.Open inode) now ≡ replies.Opened whole.next_handle (attr_of whole inode node) =
        ap (λ (n : Option Node). let r : Reply = elim n [ Some found ↦ replies.Opened whole.next_handle (attr_of whole inode found) | None ↦ replies.Done ] in r) is in
        subst (λ (r : Reply). HasHandles (opened_by (inode_opened r) pass h) (effect whole pass (ops.Open inode) now)) (sym reply) with_it

-- ---- Release and Leave

module _ (whole : Tree) (h : OpenHandles) (has : HasHandles h whole) (pass now : ℕ) where
  -- what goes with handles leaves the others
  release_effect : (number : ℕ) → HasHandles (closed number h) (effect whole pass (ops.Release number) now)
  release_effect number = by_case (lives (without_handle number whole) (inode_of (handle_of whole pass number)))
    where
      by_case : (b : Bool)
          → HasHandles (closed number h) (cond b (without_handle number whole) (without_node (inode_of (handle_of whole pass number)) (without_handle number whole)))
      by_case true = (has.0, ap (remove_entry (is_at (nat_cmp number))) has.1)
      by_case false = (has.0, ap (remove_entry (is_at (nat_cmp number))) has.1)

  leave_effect : HasHandles (closed_all pass h) (effect whole pass ops.Leave now)
  leave_effect = (has.0, ap (filter (λ (e : ℕ × tree.Handle). not (e.1.pass == pass))) has.1)

  -- ---- all of them

  -- What an operation that is carried out by its plan makes of handles, where no check fails. It opens a file only where a handle
  -- number is left.
  pub record Fulfils (op : Op) : Type 0 where
    pub hand : (inode : ℕ) → inode_opened (success whole pass op now) ≡ Some inode → hand_check whole ≡ None
    pub handles : HasHandles (closed_by pass op (opened_by (inode_opened (success whole pass op now)) pass h)) (effect whole pass op now)

  -- a page opens nothing
  page_opened : (found : Option Node) (page : Node → Reply) (empty : Reply) → ((node : Node) → inode_opened (page node) ≡ None) → inode_opened empty ≡ None
      → inode_opened (elim found as (λ _. Reply) [ Some node ↦ page node | None ↦ empty ]) ≡ None
  page_opened None page empty opens is = is
  page_opened (Some node) page empty opens is = opens node

  not_opened : (x : Tree) (inode : ℕ) → inode_opened (attr_reply x inode) ≡ None
  not_opened x inode = by_node (node_at x inode)
    where
      by_node : (found : Option Node) → inode_opened (elim found as (λ _. Reply) [ Some node ↦ replies.Attr (attr_of x inode node) | None ↦ replies.Done ]) ≡ None
      by_node None = refl
      by_node (Some node) = refl

  -- nothing is opened or closed
  keeps : (op : Op) → inode_opened (success whole pass op now) ≡ None → closed_by pass op h ≡ h → HasHandles h (effect whole pass op now) → Fulfils op
  keeps op none open_still handles = record {
    hand = λ inode some. let clash : None ≡ Some inode = sym none ∙ some in absurd (cc clash);
    handles = subst (λ (x : OpenHandles). HasHandles x (effect whole pass op now)) (sym (ap (λ o. closed_by pass op (opened_by o pass h)) none ∙ open_still)) handles;
  }

  -- one node is changed, with others there before
  changes : (op : Op) (f : Node → Node) (inode of : ℕ) (more : Tree) → HasHandles h more → effect whole pass op now ≡ change_node inode f more
      → success whole pass op now ≡ attr_reply (effect whole pass op now) of → closed_by pass op h ≡ h → Fulfils op
  changes op f inode of more own does gives open_still =
      keeps op (ap inode_opened gives ∙ not_opened (effect whole pass op now) of) open_still (subst (HasHandles h) (sym does) (own_handles f inode more h own))

  pub fulfils : (op : Op) → IsTrue (is_by_plan op) → first_failure (checks whole pass op) ≡ None → Fulfils op
  fulfils (ops.Lookup parent name) is passes = keeps (ops.Lookup parent name) (not_opened whole (unwrap_or (entry_at whole parent name) 0)) refl has
  fulfils (ops.Readlink inode) is passes = keeps (ops.Readlink inode) refl refl has
  fulfils (ops.Readdir inode after most) is passes =
      keeps (ops.Readdir inode after most) (page_opened (node_at whole inode) (λ node. replies.Entries (directory_page whole node after most)) (replies.Entries []) (λ node. refl) refl) refl has
  fulfils (ops.Getxattr inode name) is passes = keeps (ops.Getxattr inode name) refl refl has
  fulfils (ops.Listxattr inode after most) is passes =
      keeps (ops.Listxattr inode after most) (page_opened (node_at whole inode) (λ node. replies.Names (attribute_page node after most)) (replies.Names []) (λ node. refl) refl) refl has
  fulfils (ops.Getattr inode) is passes = keeps (ops.Getattr inode) (not_opened whole inode) refl has
  fulfils (ops.Chmod inode mode) is passes = changes (ops.Chmod inode mode) (λ node. stamped now (record node { mode = mode })) inode inode whole has refl refl refl
  fulfils (ops.Chown inode uid gid) is passes = changes (ops.Chown inode uid gid) (λ node. stamped now (record node { uid = uid; gid = gid })) inode inode whole has refl refl refl
  fulfils (ops.Utimes inode mtime) is passes = changes (ops.Utimes inode mtime) (λ node. stamped now (record node { mtime = mtime })) inode inode whole has refl refl refl
  fulfils ops.Statfs is passes = keeps ops.Statfs refl refl has
  fulfils (ops.Setxattr inode name flag value) is passes = keeps (ops.Setxattr inode name flag value) refl refl (own_handles (λ node. stamped now (with_attribute name value node)) inode whole h has)
  fulfils (ops.Removexattr inode name) is passes = keeps (ops.Removexattr inode name) refl refl (own_handles (λ node. stamped now (without_attribute name node)) inode whole h has)
  fulfils (ops.Create parent name mode uid gid) is passes = record {
    hand = λ inode some. create_hand whole pass parent name mode uid gid passes;
    handles = create_handles whole pass parent name mode uid gid now h has;
  }
  fulfils (ops.Mkdir parent name mode uid gid) is passes =
      changes (ops.Mkdir parent name mode uid gid) (entered whole pass parent name mode uid gid now) parent whole.next_inode (with_node (new_directory mode uid gid now) whole) (has.0, has.1) refl refl refl
  fulfils (ops.Link inode parent name) is passes =
      changes (ops.Link inode parent name) (stamped now) inode inode (add_entry parent name inode now whole)
      (own_handles (λ node. touched now (record node { content = named name inode node.content })) parent whole h has) refl refl refl
  fulfils (ops.Symlink parent name target uid gid) is passes =
      changes (ops.Symlink parent name target uid gid) (λ node. touched now (record node { content = named name whole.next_inode node.content })) parent whole.next_inode
      (with_node (new_link target uid gid now) whole) (has.0, has.1) refl refl refl
  fulfils (ops.Unlink parent name) is passes =
      keeps (ops.Unlink parent name) refl refl (drop_handles h now (entry_at whole parent name) (drop_entry parent name now whole)
      (own_handles (λ node. touched now (record node { content = unnamed name node.content })) parent whole h has))
  fulfils (ops.Rmdir parent name) is passes =
      keeps (ops.Rmdir parent name) refl refl (own_handles (λ node. touched now (record node { content = unnamed name node.content })) parent whole h has)
  fulfils (ops.Rename parent name new_parent new_name) is passes =
      keeps (ops.Rename parent name new_parent new_name) refl refl
      (move_handles h parent name new_parent new_name now (entry_at whole parent name) whole has (is_same (entry_at whole new_parent new_name) (entry_at whole parent name)))
  fulfils (ops.LockTree inode) is passes = keeps (ops.LockTree inode) refl refl has
  fulfils (ops.RemoveTree parent name) is passes =
      keeps (ops.RemoveTree parent name) refl refl (uproot_handles h parent name now (entry_at whole parent name) whole has)
  fulfils (ops.Open inode) is passes = record {
    hand = λ x some. open_hand whole pass inode passes;
    handles = open_handles whole pass inode now h has passes;
  }
  fulfils (ops.Release number) is passes = record { hand = λ inode some. absurd (cc some); handles = release_effect number }
  fulfils ops.Leave is passes = record { hand = λ inode some. absurd (cc some); handles = leave_effect }
  fulfils _ is passes = absurd (cc is)

-- the data of a write in a frame fit into one frame
pub short_write : (handle offset : ℕ) (bytes : List ℕ) → IsTrue (is_op (ops.Write handle offset bytes)) → length bytes ≤ 131072
unfolding data_field data_length_field
short_write handle offset bytes allowed = grind (arith, nat_tests)
