-- What each operation does to the order of names.
use Rattle.std.proofs.Common.{◌≡◌, ℕ, List, [], ◌∷◌, Bool, Some, sym, subst}
use Rattle.std.proofs.lemmas.Map.Made.{keys_of-map_values}
use Rattle.std.specs.BTreeMap.{is_at}
use Rattle.std.specs.Cmp.Lexicographic.{slice_cmp}
use Rattle.std.specs.List.{filter}
use Rattle.std.specs.Map.{keys_of, values_of, lookup}
use Rattle.std.specs.Ordering.{nat_cmp}
use Rattle.op_frames.specs.declared.operation.Op.{Op}
use Rattle.plain_tree.specs.Entries.{settled, entries_of, add_entry, drop_entry}
use Rattle.plain_tree.specs.Names.{Rise, NamesRise, NamesInOrder, AttributesRise, AttributesInOrder}
use Rattle.plain_tree.specs.Operations.{tree_after}
use Rattle.plain_tree.specs.Tree.{Content, Regular, Directory, Link, Node, Tree, change_node, named, stamped}
use Rattle.tree_laws.proofs.Name.Rise.{Rise-insert_entry, Rise-remove_entry}
use Rattle.tree_laws.proofs.Node.Each.{KeepsEntries, entries-edited, keeps_by_entries, Each, Changes, Keeps, each-found, each-filter, each-change_node, each-settled, each-tree_after}
use Rattle.tree_laws.proofs.Walk.Edits.{Edit, Attribute, NoAttribute, NoEntry, edited, Fits, NewNode, File, Folder, Symlink, built}

abbrev HasNamesInOrder : Node → Type 0
HasNamesInOrder node = Rise (keys_of (entries_of node.content))

keeps_names : KeepsEntries (λ es. Rise (keys_of es))
keeps_names = record {
  none = _;
  inserts = λ name inode es legal rise. Rise-insert_entry es name inode rise;
  removes = λ name es rise. Rise-remove_entry (is_at (slice_cmp nat_cmp name)) es rise;
  renumbers = λ f es rise. subst Rise (sym (keys_of-map_values f es)) rise;
}

-- ---- lists of nodes

each_from_rise : (es : List (ℕ × Node)) → NamesRise (values_of es) → Each HasNamesInOrder es
each_from_rise [] rise = _
each_from_rise (e ∷ es) rise = (rise.0, each_from_rise es rise.1)

rise_from_each : (es : List (ℕ × Node)) → Each HasNamesInOrder es → NamesRise (values_of es)
rise_from_each [] each = _
rise_from_each (e ∷ es) each = (each.0, rise_from_each es each.1)

pub rise-found : (test : ℕ → Bool) (es : List (ℕ × Node)) (node : Node) → NamesRise (values_of es) → lookup test es ≡ Some node → HasNamesInOrder node
rise-found test es node rise is = each-found HasNamesInOrder test es node (each_from_rise es rise) is

pub NamesRise-filter : (test : ℕ × Node → Bool) (es : List (ℕ × Node)) → NamesRise (values_of es) → NamesRise (values_of (filter test es))
NamesRise-filter test es rise = rise_from_each (filter test es) (each-filter HasNamesInOrder test es (each_from_rise es rise))

rise-named : (name : List ℕ) (inode : ℕ) (content : Content) → Rise (keys_of (entries_of content)) → Rise (keys_of (entries_of (named name inode content)))
rise-named name inode (Directory entries) rise = Rise-insert_entry entries name inode rise
rise-named name inode (Regular bytes) rise = rise
rise-named name inode (Link target) rise = rise

-- ---- changes of a tree

change : (f : Node → Node) → Changes HasNamesInOrder f → (inode : ℕ) (t : Tree) → NamesInOrder t → NamesInOrder (change_node inode f t)
change f keeps inode t rise = rise_from_each (change_node inode f t).nodes (each-change_node HasNamesInOrder f keeps inode t (each_from_rise t.nodes rise))

pub NamesInOrder-add_entry : (parent : ℕ) (name : List ℕ) (inode now : ℕ) (t : Tree) → NamesInOrder t → NamesInOrder (add_entry parent name inode now t)
NamesInOrder-add_entry parent name inode now t rise = change _ (λ node sound. rise-named name inode node.content sound) parent t rise

pub NamesInOrder-drop_entry : (parent : ℕ) (name : List ℕ) (now : ℕ) (t : Tree) → NamesInOrder t → NamesInOrder (drop_entry parent name now t)
NamesInOrder-drop_entry parent name now t rise = change (edited now (NoEntry name)) (entries-edited (λ es. Rise (keys_of es)) keeps_names now (NoEntry name) _) parent t rise

pub NamesInOrder-stamped : (now inode : ℕ) (t : Tree) → NamesInOrder t → NamesInOrder (change_node inode (stamped now) t)
NamesInOrder-stamped now inode t rise = change (stamped now) (λ node sound. sound) inode t rise

pub NamesInOrder-settled : (inode : ℕ) (t : Tree) → NamesInOrder t → NamesInOrder (settled inode t)
NamesInOrder-settled inode t rise = rise_from_each (settled inode t).nodes (each-settled HasNamesInOrder inode t (each_from_rise t.nodes rise))

-- ---- the operations

pub NamesInOrder-tree_after : (t : Tree) (pass now : ℕ) (op : Op) → NamesInOrder t → NamesInOrder (tree_after t pass op now)
NamesInOrder-tree_after t pass now op rise = rise_from_each (tree_after t pass op now).nodes (each-tree_after HasNamesInOrder now (keeps_by_entries (λ es. Rise (keys_of es)) keeps_names now) t pass op (each_from_rise t.nodes rise))

-- ---- attributes

abbrev HasAttributesInOrder : Node → Type 0
HasAttributesInOrder node = Rise (keys_of node.attributes)

each_from_attributes : (es : List (ℕ × Node)) → AttributesRise (values_of es) → Each HasAttributesInOrder es
each_from_attributes [] rise = _
each_from_attributes (e ∷ es) rise = (rise.0, each_from_attributes es rise.1)

attributes_from_each : (es : List (ℕ × Node)) → Each HasAttributesInOrder es → AttributesRise (values_of es)
attributes_from_each [] each = _
attributes_from_each (e ∷ es) each = (each.0, attributes_from_each es each.1)

edit_keeps_attributes : (now : ℕ) (e : Edit) → Fits e → Changes HasAttributesInOrder (edited now e)
edit_keeps_attributes now (Attribute name value) fits node rise = Rise-insert_entry node.attributes name value rise
edit_keeps_attributes now (NoAttribute name) fits node rise = Rise-remove_entry (is_at (slice_cmp nat_cmp name)) node.attributes rise
edit_keeps_attributes now e fits node rise = rise

new_has_attributes : (now : ℕ) (new : NewNode) → HasAttributesInOrder (built now new)
new_has_attributes now (File mode uid gid) = _
new_has_attributes now (Folder mode uid gid) = _
new_has_attributes now (Symlink target uid gid) = _

keeps_attributes : (now : ℕ) → Keeps now HasAttributesInOrder
keeps_attributes now = record {
  edits = edit_keeps_attributes now;
  makes = λ new begins. new_has_attributes now new;
  locks = λ node rise. rise;
  copies = λ next order node rise. rise;
}

pub AttributesInOrder-tree_after : (t : Tree) (pass now : ℕ) (op : Op) → AttributesInOrder t → AttributesInOrder (tree_after t pass op now)
AttributesInOrder-tree_after t pass now op rise =
    attributes_from_each (tree_after t pass op now).nodes (each-tree_after HasAttributesInOrder now (keeps_attributes now) t pass op (each_from_attributes t.nodes rise))
