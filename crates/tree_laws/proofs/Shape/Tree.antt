-- What each change of a tree does to its shape.
use Rattle.std.proofs.Common.{◌≡◌, ◌≢◌, ℕ, List, Option, None, Some, refl, ap, ◌∙◌, inl, inr}
use Rattle.std.proofs.lemmas.Bool.{cases_eq}
use Rattle.std.specs.BTreeMap.{is_at}
use Rattle.std.specs.Cmp.Lexicographic.{slice_cmp}
use Rattle.std.specs.List.{list_any}
use Rattle.std.specs.Map.{keys_of}
use Rattle.std.specs.Option.{option_map}
use Rattle.std.specs.Ordering.{nat_cmp}
use Rattle.std.specs.Prelude.{◌==◌}
use Rattle.s3_base.specs.declared.node_kind.Kind.TheVariants as kinds
use Rattle.plain_tree.specs.Attributes.{kind_of}
use Rattle.plain_tree.specs.Entries.{entries_of, entry_at, is_open, add_entry, drop_entry, unnamed}
use Rattle.plain_tree.specs.Names.{Rise, NamesInOrder}
use Rattle.plain_tree.specs.Numbers.{InOrder}
use Rattle.plain_tree.specs.Tree.{Content, Regular, Directory, Link, Node, Handle, Tree, node_at, entry_of, change_node, changed_by, without_node, named, touched}
use Rattle.tree_laws.proofs.Name.Order.{rise-found}
use Rattle.tree_laws.proofs.Name.Reading.{name_removed}
use Rattle.tree_laws.proofs.Node.Keys.{numbers_tell, names_tell, lookup-insert_entry_same, lookup-insert_entry_other, lookup-remove_entry_other}
use Rattle.tree_laws.proofs.Node.Kind.{kind_in, entry_in}
use Rattle.tree_laws.proofs.Node.Reading.{read_changed, node_at-change_node_other, node_at-change_node_same, lookup-remove_entry_same}
use Rattle.tree_laws.proofs.Shape.Loss.{Unlinks, Removes}
use Rattle.tree_laws.proofs.Shape.Words.{Shape, IsPlace, Same}

-- the shape of a tree
abbrev pub shape_of : Tree → Shape
shape_of t = record { kind = λ inode. kind_in (node_at t inode); entry = λ parent name. entry_at t parent name; opened = λ inode. is_open t inode }

-- ---- a change of a node

handles_by : (f : Node → Node) (found : Option Node) (i : ℕ) (t : Tree) → (changed_by f found i t).handles ≡ t.handles
handles_by f None i t = refl
handles_by f (Some node) i t = refl

opened_same : (f : Node → Node) (i x : ℕ) (t : Tree) → is_open (change_node i f t) x ≡ is_open t x
opened_same f i x t = ap (λ (hs : List (ℕ × Handle)). list_any (λ h. h.1.inode == x) hs) (handles_by f (node_at t i) i t)

-- a change that leaves kind and entries
pub shape-change_node : (f : Node → Node) → ((node : Node) → kind_of (f node).content ≡ kind_of node.content) → ((name : List ℕ) (node : Node) → entry_of (f node).content name ≡ entry_of node.content name)
    → (i : ℕ) (t : Tree) → Same (shape_of t) (shape_of (change_node i f t))
shape-change_node f kind entry i t = record {
  kind = λ x. read_changed kind_in f (λ node. ap Some (kind node)) i x t;
  entry = λ parent name. read_changed (entry_in name) f (entry name) i parent t;
  opened = λ x. opened_same f i x t;
}

-- ---- entries

kind_unnamed : (name : List ℕ) (content : Content) → kind_of (unnamed name content) ≡ kind_of content
kind_unnamed name (Directory entries) = refl
kind_unnamed name (Regular bytes) = refl
kind_unnamed name (Link target) = refl

unnamed_here : (name : List ℕ) (content : Content) → Rise (keys_of (entries_of content)) → entry_of (unnamed name content) name ≡ None
unnamed_here name (Directory entries) rise = name_removed name entries rise
unnamed_here name (Regular bytes) rise = refl
unnamed_here name (Link target) rise = refl

unnamed_there : (name other : List ℕ) (content : Content) → other ≢ name → entry_of (unnamed name content) other ≡ entry_of content other
unnamed_there name other (Directory entries) apart = lookup-remove_entry_other (slice_cmp nat_cmp) names_tell name other entries apart
unnamed_there name other (Regular bytes) apart = refl
unnamed_there name other (Link target) apart = refl

unnamed_found : (now : ℕ) (name : List ℕ) (found : Option Node) → ((node : Node) → found ≡ Some node → Rise (keys_of (entries_of node.content)))
    → entry_in name (option_map (λ node. touched now (record node { content = unnamed name node.content })) found) ≡ None
unnamed_found now name None rise = refl
unnamed_found now name (Some node) rise = unnamed_here name node.content (rise node refl)

-- the names of a directory rise
pub rise_at : (t : Tree) → NamesInOrder t → (i : ℕ) (node : Node) → node_at t i ≡ Some node → Rise (keys_of (entries_of node.content))
rise_at t names i node is = rise-found (is_at (nat_cmp i)) t.nodes node names is

-- an entry goes
pub shape-drop_entry : (p : ℕ) (n : List ℕ) (now : ℕ) (t : Tree) → NamesInOrder t → Unlinks (shape_of t) (shape_of (drop_entry p n now t)) p n
shape-drop_entry p n now t names =
    let f : Node → Node = λ node. touched now (record node { content = unnamed n node.content }) in
    record {
      kind = λ x. read_changed kind_in f (λ node. ap Some (kind_unnamed n node.content)) p x t;
      opened = λ x. opened_same f p x t;
      gone = ap (entry_in n) (node_at-change_node_same f p t) ∙ unnamed_found now n (node_at t p) (λ node is. rise_at t names p node is);
      rest = λ q m differs.
          elim (cases_eq q p) [
            | inl same ↦ read_changed (entry_in m) f (λ node. unnamed_there n m node.content (λ also. differs (same, also))) p q t
            | inr apart ↦ ap (entry_in m) (node_at-change_node_other f p q t apart)
          ];
    }

kind_named : (name : List ℕ) (inode : ℕ) (content : Content) → kind_of (named name inode content) ≡ kind_of content
kind_named name inode (Directory entries) = refl
kind_named name inode (Regular bytes) = refl
kind_named name inode (Link target) = refl

named_here : (name : List ℕ) (inode : ℕ) (content : Content) → kind_of content ≡ kinds.Directory → entry_of (named name inode content) name ≡ Some inode
named_here name inode (Directory entries) is = lookup-insert_entry_same (slice_cmp nat_cmp) names_tell name inode entries
named_here name inode (Regular bytes) is = absurd (cc is)
named_here name inode (Link target) is = absurd (cc is)

named_there : (name other : List ℕ) (inode : ℕ) (content : Content) → other ≢ name → entry_of (named name inode content) other ≡ entry_of content other
named_there name other inode (Directory entries) apart = lookup-insert_entry_other (slice_cmp nat_cmp) names_tell name other inode entries apart
named_there name other inode (Regular bytes) apart = refl
named_there name other inode (Link target) apart = refl

named_found : (now : ℕ) (name : List ℕ) (inode : ℕ) (found : Option Node) → kind_in found ≡ Some kinds.Directory
    → entry_in name (option_map (λ node. touched now (record node { content = named name inode node.content })) found) ≡ Some inode
named_found now name inode None is = absurd (cc is)
named_found now name inode (Some node) is =
    let folder : kind_of node.content ≡ kinds.Directory = cc is in
    named_here name inode node.content folder

-- an entry comes, or names another inode
pub record Links (v w : Shape) (p : ℕ) (n : List ℕ) (x : ℕ) : Type 0 where
  pub kind : (inode : ℕ) → w.kind inode ≡ v.kind inode
  pub opened : (inode : ℕ) → w.opened inode ≡ v.opened inode
  pub here : w.entry p n ≡ Some x
  pub rest : (q : ℕ) (m : List ℕ) → (IsPlace p n q m → ⊥) → w.entry q m ≡ v.entry q m

-- an entry comes
pub shape-add_entry : (p : ℕ) (n : List ℕ) (x now : ℕ) (t : Tree) → kind_in (node_at t p) ≡ Some kinds.Directory → Links (shape_of t) (shape_of (add_entry p n x now t)) p n x
shape-add_entry p n x now t folder =
    let f : Node → Node = λ node. touched now (record node { content = named n x node.content }) in
    record {
      kind = λ i. read_changed kind_in f (λ node. ap Some (kind_named n x node.content)) p i t;
      opened = λ i. opened_same f p i t;
      here = ap (entry_in n) (node_at-change_node_same f p t) ∙ named_found now n x (node_at t p) folder;
      rest = λ q m differs.
          elim (cases_eq q p) [
            | inl same ↦ read_changed (entry_in m) f (λ node. named_there n m x node.content (λ also. differs (same, also))) p q t
            | inr apart ↦ ap (entry_in m) (node_at-change_node_other f p q t apart)
          ];
    }

-- ---- nodes

-- a node goes
pub shape-without_node : (x : ℕ) (t : Tree) → InOrder t → Removes (shape_of t) (shape_of (without_node x t)) x
shape-without_node x t ordered =
    let gone : node_at (without_node x t) x ≡ None = lookup-remove_entry_same x 0 t.nodes t.next_inode ordered in
    record {
      gone = ap kind_in gone;
      kind = λ y apart. ap kind_in (lookup-remove_entry_other nat_cmp numbers_tell x y t.nodes apart);
      entry = λ q m apart. ap (entry_in m) (lookup-remove_entry_other nat_cmp numbers_tell x q t.nodes apart);
      none = λ m. ap (entry_in m) gone;
      opened = λ y. refl;
    }
