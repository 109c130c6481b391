-- A file after a write, and after a truncation, that are answered with success.
use Rattle.std.proofs.Common.{◌≡◌, ◌≤◌, ℕ, List, [], ◌∷◌, Option, None, Some, refl, ap, ◌∙◌, false, cond, sym, arith}
use Rattle.std.proofs.lemmas.Bool.{le-ltb, ne_eqb}
use Rattle.std.specs.Prelude.{take, drop, unwrap_or, ◌==◌, length}
use Rattle.op_frames.specs.declared.operation.Op.TheVariants as ops
use Rattle.op_frames.specs.declared.reply.Attr.{Attr}
use Rattle.op_frames.specs.declared.reply.Reply.TheVariants as replies
use Rattle.plain_tree.specs.Checks.{first_failure, fails_with, open_check, read_length_check}
use Rattle.plain_tree.specs.Files.{open_file, read_at, file_at, inode_of, with_bytes, written_at, resized}
use Rattle.plain_tree.specs.Operations.{reply_to, checks, tree_after}
use Rattle.plain_tree.specs.Tree.{Tree, Regular, Node, node_at, handle_of, changed_by, change_node, touched}
use Rattle.plain_tree.proofs.Replies.{reply_at, tree_at}
use Rattle.tree_laws.specs.Files.{with_content, IsWritten, IsResized, ReadsAs, ReadsThere}
use Rattle.block_math.proofs.LengthLemmas.{length-resized}
use Rattle.tree_laws.proofs.File.Bytes.{written_bytes, front-resized, zeros-resized}
use Rattle.tree_laws.proofs.Node.Kind.{file_of, opened_file}
use Rattle.tree_laws.proofs.Node.Reading.{node_at-changed_by_same, changed_by-changes_one, node_of_handle}
use Rattle.tree_laws.proofs.Walk.Calls.{passes_by}
use Rattle.tree_laws.proofs.Walk.Passed.{all_pass}

-- a node with its bytes changed, and touched
abbrev changed_bytes : (List ℕ → List ℕ) → ℕ → Node → Node
changed_bytes f now node = touched now (record node { content = with_bytes f node.content })

changed-is : (f : List ℕ → List ℕ) (now : ℕ) (node : Node) (old : List ℕ) → node.content ≡ Regular old → changed_bytes f now node ≡ with_content now (f old) node
changed-is f now node old is = ap (λ content. touched now (record node { content = with_bytes f content })) is

changed_there : (f : List ℕ → List ℕ) (now inode : ℕ) (t : Tree) (node : Node) (old : List ℕ) → node_at t inode ≡ Some node → node.content ≡ Regular old
    → node_at (changed_by (changed_bytes f now) (Some node) inode t) inode ≡ Some (with_content now (f old) node)
changed_there f now inode t node old was file = node_at-changed_by_same (changed_bytes f now) node inode t was ∙ ap Some (changed-is f now node old file)

changed_node : (f : Node → Node) (inode : ℕ) (t : Tree) (node : Node) → node_at t inode ≡ Some node → change_node inode f t ≡ changed_by f (Some node) inode t
changed_node f inode t node is = ap (λ found. changed_by f found inode t) is

-- ---- a read that all checks let pass

both_pass : (check other : Option ℕ) → check ≡ None → other ≡ None → first_failure (check ∷ other ∷ []) ≡ None
both_pass check other first second = rw (first, second) refl

read_allowed : (count : ℕ) → count ≤ 131072 → read_length_check count ≡ None
read_allowed count small = ap (fails_with 22) (le-ltb 131072 count small)

read_is : (t : Tree) (pass handle offset count now : ℕ) (bytes : List ℕ) → count ≤ 131072 → open_file t pass handle ≡ Some bytes
    → reply_to t pass (ops.Read handle offset count) now ≡ replies.Bytes (take count (drop offset bytes))
read_is t pass handle offset count now bytes small opened =
    reply_at t pass now (ops.Read handle offset count) None (both_pass (read_length_check count) (open_check (open_file t pass handle)) (read_allowed count small) (ap open_check opened))
    ∙ ap (λ found. replies.Bytes (read_at offset count (unwrap_or found []))) opened

reads_as : (t after : Tree) (inode : ℕ) (bytes : List ℕ) (node : Node) → after.handles ≡ t.handles → node_at after inode ≡ Some node → node.content ≡ Regular bytes
    → ReadsAs inode bytes t after
reads_as t after inode bytes node handles is file reader handle offset count now opened own same small =
    let here : handle_of after reader handle ≡ Some opened = rw handles own in
    let there : file_at after opened.inode ≡ Some bytes = rw (same, is, file) refl in
    let found : open_file after reader handle ≡ Some bytes = rw here there in
    read_is after reader handle offset count now bytes small found

-- ---- a write

written : (t : Tree) (inode offset now : ℕ) (text : List ℕ) (node : Node) (old : List ℕ) → node_at t inode ≡ Some node → node.content ≡ Regular old
    → IsWritten inode offset now text t (changed_by (changed_bytes (written_at offset text) now) (Some node) inode t)
written t inode offset now text node old was file =
    let f : Node → Node = changed_bytes (written_at offset text) now in
    let new : List ℕ = written_at offset text old in
    let is : node_at (changed_by f (Some node) inode t) inode ≡ Some (with_content now new node) = changed_there (written_at offset text) now inode t node old was file in
    record {
      node = node;
      old = old;
      new = new;
      was = was;
      was_file = file;
      is = is;
      bytes = written_bytes offset text old;
      reads = reads_as t (changed_by f (Some node) inode t) inode new (with_content now new node) refl is refl;
      only = changed_by-changes_one f node inode t was;
    }

reads_there : (t after : Tree) (inode offset now : ℕ) (text : List ℕ) → IsWritten inode offset now text t after → ReadsThere inode offset text t after
reads_there t after inode offset now text is reader handle later opened own same small =
    is.reads reader handle offset (length text) later opened own same small ∙ ap replies.Bytes is.bytes.there

abbrev pub Written : (t : Tree) (pass now handle offset count : ℕ) (text : List ℕ) → Type 0
Written t pass now handle offset count text =
    (count ≡ length text)
    × IsWritten (inode_of (handle_of t pass handle)) offset now text t (tree_after t pass (ops.Write handle offset text) now)
    × ReadsThere (inode_of (handle_of t pass handle)) offset text t (tree_after t pass (ops.Write handle offset text) now)

-- a Write that is answered with a count writes
pub write_done : (t : Tree) (pass now handle offset count : ℕ) (text : List ℕ) → reply_to t pass (ops.Write handle offset text) now ≡ replies.Count count → 1 ≤ count
    → Written t pass now handle offset count text
write_done t pass now handle offset count text replied some =
    let is : first_failure (checks t pass (ops.Write handle offset text)) ≡ None = passes_by t pass now (ops.Write handle offset text) (λ errno refused.
    let both : replies.Count count ≡ replies.Errno errno = sym replied ∙ refused in
    cc both) in
    let passed = all_pass (checks t pass (ops.Write handle offset text)) is in
    let inode : ℕ = inode_of (handle_of t pass handle) in
    let counted : replies.Count (length text) ≡ replies.Count count = sym (reply_at t pass now (ops.Write handle offset text) None is) ∙ replied in
    let all : length text ≡ count = cc counted in
    let not_empty : (length text == 0) ≡ false = ne_eqb (length text) 0 (λ empty. omega (arith, all, empty, some)) in
    let opened = opened_file (open_file t pass handle) passed.0 in
    let found = node_of_handle t (handle_of t pass handle) opened.0 opened.1 in
    let f : Node → Node = changed_bytes (written_at offset text) now in
    let after : tree_after t pass (ops.Write handle offset text) now ≡ changed_by f (Some found.0) inode t =
    tree_at t pass now (ops.Write handle offset text) None is
    ∙ ap (λ empty. cond empty t (change_node inode f t)) not_empty
    ∙ changed_node f inode t found.0 found.1 in
    let done : IsWritten inode offset now text t (changed_by f (Some found.0) inode t) = written t inode offset now text found.0 opened.0 found.1 found.2 in
    (sym all, rw after done, rw after (reads_there t (changed_by f (Some found.0) inode t) inode offset now text done))

-- ---- a truncation

truncated : (t : Tree) (inode size now : ℕ) (node : Node) (old : List ℕ) → node_at t inode ≡ Some node → node.content ≡ Regular old
    → IsResized inode size now t (changed_by (changed_bytes (resized size) now) (Some node) inode t)
truncated t inode size now node old was file =
    let f : Node → Node = changed_bytes (resized size) now in
    let new : List ℕ = resized size old in
    let is : node_at (changed_by f (Some node) inode t) inode ≡ Some (with_content now new node) = changed_there (resized size) now inode t node old was file in
    record {
      node = node;
      old = old;
      new = new;
      was = was;
      was_file = file;
      is = is;
      size_is = length-resized size old;
      front = front-resized size old;
      zeros = zeros-resized size old;
      reads = reads_as t (changed_by f (Some node) inode t) inode new (with_content now new node) refl is refl;
      only = changed_by-changes_one f node inode t was;
    }

-- a Truncate that is answered with attributes cuts or lengthens
pub truncate_done : (t : Tree) (pass now inode size : ℕ) (attr : Attr) → reply_to t pass (ops.Truncate inode size) now ≡ replies.Attr attr
    → IsResized inode size now t (tree_after t pass (ops.Truncate inode size) now)
truncate_done t pass now inode size attr replied =
    let is : first_failure (checks t pass (ops.Truncate inode size)) ≡ None = passes_by t pass now (ops.Truncate inode size) (λ errno refused.
    let both : replies.Attr attr ≡ replies.Errno errno = sym replied ∙ refused in
    cc both) in
    let all = all_pass (checks t pass (ops.Truncate inode size)) is in
    let found = file_of (node_at t inode) all.0 all.1.0 in
    let f : Node → Node = changed_bytes (resized size) now in
    let after : tree_after t pass (ops.Truncate inode size) now ≡ changed_by f (Some found.0) inode t =
    tree_at t pass now (ops.Truncate inode size) None is ∙ changed_node f inode t found.0 found.2 in
    rw after (truncated t inode size now found.0 found.1 found.2 found.3)
