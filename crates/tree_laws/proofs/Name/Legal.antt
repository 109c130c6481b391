-- The names of entries stay legal.
use Rattle.std.proofs.Common.{sym, ◌≡◌, ℕ, ◌+◌, List, [], ◌∷◌, Bool, true, false, cond, Option, None, Some, refl, ap, ◌∙◌}
use Rattle.std.specs.BTreeMap.{is_at}
use Rattle.std.specs.Cmp.Lexicographic.{slice_cmp}
use Rattle.std.specs.Map.{keys_of, values_of, lookup}
use Rattle.std.specs.Ordering.{nat_cmp}
use Rattle.std.specs.Prelude.{map}
use Rattle.op_frames.specs.declared.operation.Op.{Op}
use Rattle.plain_tree.specs.Checks.{name_check}
use Rattle.plain_tree.specs.Entries.{entries_of, entry_at}
use Rattle.plain_tree.specs.Names.{Rise, NamesRise, NamesInOrder}
use Rattle.plain_tree.specs.Numbers.{Ascend, InOrder}
use Rattle.plain_tree.specs.Operations.{tree_after}
use Rattle.plain_tree.specs.Tree.{Content, Node, Tree, node_at, entry_of}
use Rattle.tree_laws.proofs.Name.Reading.{first_name, past_first}
use Rattle.tree_laws.proofs.Name.Rise.{Rise-tail}
use Rattle.tree_laws.proofs.Node.Each.{EachEntry, KeepsEntries, each-insert_entry, each-remove_entry, keeps_by_entries, Each, each-found, each-tree_after}
use Rattle.tree_laws.proofs.Node.Keys.{same_name}
use Rattle.tree_laws.proofs.Node.Kind.{entry_lookup, entry_in}
use Rattle.tree_laws.proofs.Node.Reading.{first_node, past_node}

abbrev AreLegal : List (List ℕ × ℕ) → Type 0
AreLegal es = EachEntry (λ name inode. name_check name ≡ None) es

abbrev HasLegalNames : Node → Type 0
HasLegalNames node = AreLegal (entries_of node.content)

-- ---- entries

legal-map : (f : ℕ → ℕ) (es : List (List ℕ × ℕ)) → AreLegal es → AreLegal (map (λ e. (e.0, f e.1)) es)
legal-map f [] all = all
legal-map f (e ∷ es) all = (all.0, legal-map f es all.1)

legal-here : (name : List ℕ) (inode : ℕ) (e : List ℕ × ℕ) (found : Option ℕ) (test : Bool) → is_at (slice_cmp nat_cmp name) e.0 ≡ test → name_check e.0 ≡ None
    → (found ≡ Some inode → name_check name ≡ None) → cond test (Some e.1) found ≡ Some inode → name_check name ≡ None
legal-here name inode e found true here legal rest is = ap name_check (same_name name e.0 here) ∙ legal
legal-here name inode e found false here legal rest is = rest is

legal-found : (name : List ℕ) (inode : ℕ) (es : List (List ℕ × ℕ)) → AreLegal es → lookup (is_at (slice_cmp nat_cmp name)) es ≡ Some inode → name_check name ≡ None
legal-found name inode [] all is = absurd (cc is)
legal-found name inode (e ∷ es) all is = legal-here name inode e _ (is_at (slice_cmp nat_cmp name) e.0) refl all.0 (legal-found name inode es all.1) is

-- ---- contents

legal-entry : (name : List ℕ) (inode : ℕ) (content : Content) → AreLegal (entries_of content) → entry_of content name ≡ Some inode → name_check name ≡ None
legal-entry name inode content all is = legal-found name inode (entries_of content) all (sym (entry_lookup name content) ∙ is)

-- ---- operations

keeps_legal : KeepsEntries AreLegal
keeps_legal = record {
  none = _;
  inserts = λ name inode es legal all. each-insert_entry (λ name inode. name_check name ≡ None) (slice_cmp nat_cmp) name inode legal (λ other old same. same) es all;
  removes = λ name es all. each-remove_entry (λ name inode. name_check name ≡ None) (is_at (slice_cmp nat_cmp name)) es all;
  renumbers = legal-map;
}

-- ---- names as look-ups find them

-- the name of every entry that a look-up finds is legal
abbrev pub NamesAreLegal : Tree → Type 0
NamesAreLegal t = (parent inode : ℕ) (name : List ℕ) → entry_at t parent name ≡ Some inode → name_check name ≡ None

legal_in : (found : Option Node) (inode : ℕ) (name : List ℕ) → ((node : Node) → found ≡ Some node → HasLegalNames node) → entry_in name found ≡ Some inode → name_check name ≡ None
legal_in None inode name all is = absurd (cc is)
legal_in (Some node) inode name all is = legal-entry name inode node.content (all node refl) is

from_each : (t : Tree) → Each HasLegalNames t.nodes → NamesAreLegal t
from_each t each parent inode name is = legal_in (node_at t parent) inode name (λ node found. each-found HasLegalNames (is_at (nat_cmp parent)) t.nodes node each found) is

abbrev AllFound : List (List ℕ × ℕ) → Type 0
AllFound es = (name : List ℕ) (inode : ℕ) → lookup (is_at (slice_cmp nat_cmp name)) es ≡ Some inode → name_check name ≡ None

legal_of : (es : List (List ℕ × ℕ)) → Rise (keys_of es) → AllFound es → AreLegal es
legal_of [] rise all = _
legal_of (e ∷ es) rise all =
    (all e.0 e.1 (first_name e es), legal_of es (Rise-tail e.0 (keys_of es) rise) (λ name inode is. all name inode (past_first name e es inode rise is)))

legal_content : (content : Content) → Rise (keys_of (entries_of content)) → ((name : List ℕ) (inode : ℕ) → entry_of content name ≡ Some inode → name_check name ≡ None) → AreLegal (entries_of content)
legal_content content rise all = legal_of (entries_of content) rise (λ name inode is. all name inode (entry_lookup name content ∙ is))

to_each : (low : ℕ) (es : List (ℕ × Node)) (next : ℕ) → Ascend low (keys_of es) next → NamesRise (values_of es)
    → ((parent inode : ℕ) (name : List ℕ) → entry_in name (lookup (is_at (nat_cmp parent)) es) ≡ Some inode → name_check name ≡ None) → Each HasLegalNames es
to_each low [] next ascend rise all = _
to_each low (e ∷ es) next ascend rise all = (
  legal_content e.1.content rise.0 (λ name inode is. all e.0 inode name (ap (entry_in name) (first_node e es) ∙ is)),
  to_each (e.0 + 1) es next ascend.1 rise.1 (λ parent inode name is. all parent inode name (past_node inode parent name e es next ascend.1 is).1),
)

pub NamesAreLegal-tree_after : (t : Tree) (pass now : ℕ) (op : Op) → InOrder t → NamesInOrder t → NamesAreLegal t → NamesAreLegal (tree_after t pass op now)
NamesAreLegal-tree_after t pass now op ordered names legal =
    from_each (tree_after t pass op now) (each-tree_after HasLegalNames now (keeps_by_entries AreLegal keeps_legal now) t pass op (to_each 0 t.nodes t.next_inode ordered names legal))
