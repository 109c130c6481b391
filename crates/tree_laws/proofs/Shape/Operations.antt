-- One tree of names without orphans, through every operation.
use Rattle.std.proofs.Common.{◌≡◌, ℕ, List, None, refl}
use Rattle.std.specs.List.{filter}
use Rattle.std.specs.Prelude.{◌==◌, not}
use Rattle.op_frames.specs.declared.operation.Op.{Op}
use Rattle.plain_tree.specs.Attributes.{kind_of}
use Rattle.plain_tree.specs.Entries.{lives}
use Rattle.plain_tree.specs.Files.{written_at, resized}
use Rattle.plain_tree.specs.Operations.{tree_after}
use Rattle.plain_tree.specs.Subtrees.{with_lock, without_pass}
use Rattle.plain_tree.specs.Tree.{Node, Tree, entry_of, change_node}
use Rattle.plain_tree.proofs.Changes.{change_after}
use Rattle.plain_tree.proofs.Handles.{below-change}
use Rattle.tree_laws.proofs.Name.Order.{NamesInOrder-tree_after}
use Rattle.tree_laws.proofs.Node.Kind.{kind_bytes, entry_bytes}
use Rattle.tree_laws.proofs.Node.Order.{InOrder-tree_after}
use Rattle.tree_laws.proofs.Rename.Shape.{Grown-moved_entry}
use Rattle.tree_laws.proofs.Shape.Loss.{Grown-swept}
use Rattle.tree_laws.proofs.Shape.Steps.{Grown-without_tree, Sound, Grown-with_new_node, Grown-with_new_file, Grown-link, Grown-open, Grown-release, Grown-unlink, Grown-rmdir, Grown-with_copy}
use Rattle.tree_laws.proofs.Shape.Subtree.{shape-with_lock, shape-without_pass}
use Rattle.tree_laws.proofs.Shape.Tree.{shape_of, shape-change_node}
use Rattle.tree_laws.proofs.Shape.Words.{Grown, NoneGoes, Same, Grown-same}
use Rattle.tree_laws.proofs.Walk.Calls.{effects-tree_after}
use Rattle.tree_laws.proofs.Walk.Edits.{Edit, Resize, Write, Entry, NoEntry, edited, SparesEntries, NewNode, File, Folder, Symlink, built}
use Rattle.tree_laws.proofs.Walk.Operations.{Effects}

-- ---- edits of one node

edit_spares_kind : (now : ℕ) (e : Edit) → SparesEntries e → (node : Node) → kind_of (edited now e node).content ≡ kind_of node.content
edit_spares_kind now (Resize size) spares node = kind_bytes (resized size) node.content
edit_spares_kind now (Write offset bytes) spares node = kind_bytes (written_at offset bytes) node.content
edit_spares_kind now (Entry name inode) spares node = absurd spares
edit_spares_kind now (NoEntry name) spares node = absurd spares
edit_spares_kind now e spares node = refl

edit_spares_entries : (now : ℕ) (e : Edit) → SparesEntries e → (name : List ℕ) (node : Node) → entry_of (edited now e node).content name ≡ entry_of node.content name
edit_spares_entries now (Resize size) spares name node = entry_bytes (resized size) name node.content
edit_spares_entries now (Write offset bytes) spares name node = entry_bytes (written_at offset bytes) name node.content
edit_spares_entries now (Entry other inode) spares name node = absurd spares
edit_spares_entries now (NoEntry other) spares name node = absurd spares
edit_spares_entries now e spares name node = refl

-- an edit that spares the entries leaves the shape
pub shape-edited : (now : ℕ) (e : Edit) → SparesEntries e → (x : ℕ) (t : Tree) → Same (shape_of t) (shape_of (change_node x (edited now e) t))
shape-edited now e spares x t = shape-change_node (edited now e) (edit_spares_kind now e spares) (edit_spares_entries now e spares) x t

-- ---- operations

new_has_no_entry : (now : ℕ) (new : NewNode) (m : List ℕ) → entry_of (built now new).content m ≡ None
new_has_no_entry now (File mode uid gid) m = refl
new_has_no_entry now (Folder mode uid gid) m = refl
new_has_no_entry now (Symlink target uid gid) m = refl

grown_effects : (t : Tree) (pass now : ℕ) (op : Op) → Sound t → Effects t pass now op (λ after. Grown NoneGoes (shape_of after))
grown_effects t pass now op sound = record {
  same = sound.grown;
  edits = λ e x fits allowed spares of_op. Grown-same NoneGoes (shape_of t) (shape_of (change_node x (edited now e) t)) (shape-edited now e spares x t) sound.grown;
  makes = λ p n new begins can. Grown-with_new_node t now sound p n (built now new) (new_has_no_entry now new) can;
  creates = λ p n mode uid gid fits can handles. Grown-with_new_file t now sound pass p n mode uid gid can;
  links = Grown-link t now sound;
  unlinks = Grown-unlink t now sound;
  unmakes = Grown-rmdir t now sound;
  moves = λ p n np nn can. Grown-moved_entry t p n np nn now sound can;
  opens = λ x there file handles. Grown-open t now sound x pass there file;
  closes = λ number opened. Grown-release t now sound pass number opened;
  copies = λ source p n of_trees can. Grown-with_copy t now sound source p n can;
  locks = λ x. Grown-same NoneGoes (shape_of t) (shape_of (with_lock x t)) (shape-with_lock x t) sound.grown;
  uproots = λ p n is can. Grown-without_tree t now sound p n can;
  leaves = Grown-swept (shape_of t) (shape_of (without_pass pass t)) (lives (record t { handles = filter (λ h. not (h.1.pass == pass)) t.handles })) (shape-without_pass pass t sound.ordered sound.names) sound.grown;
}

-- every operation keeps it
pub Sound-tree_after : (t : Tree) (pass now : ℕ) (op : Op) → Sound t → Sound (tree_after t pass op now)
Sound-tree_after t pass now op sound = record {
  ordered = InOrder-tree_after t pass now op sound.ordered;
  names = NamesInOrder-tree_after t pass now op sound.names;
  below = below-change t pass (tree_after t pass op now) (change_after t pass now op) sound.below;
  grown = effects-tree_after t pass now op (λ after. Grown NoneGoes (shape_of after)) (grown_effects t pass now op sound);
}
