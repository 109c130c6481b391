-- One tree of names without orphans, through every operation.
use Rattle.std.proofs.Common.{◌≡◌, ◌≢◌, ℕ, List, Bool, true, false, None, Some, refl, sym, ap, ◌∙◌, inl, inr, subst, arith}
use Rattle.std.proofs.lemmas.Bool.{cases_eq}
use Rattle.std.specs.BTreeMap.{is_at}
use Rattle.std.specs.Map.{lookup}
use Rattle.std.specs.Ordering.{nat_cmp}
use Rattle.std.specs.Prelude.{unwrap_or, option_and_then}
use Rattle.s3_base.specs.declared.node_kind.Kind.TheVariants as kinds
use Rattle.plain_tree.specs.Attributes.{kind_of}
use Rattle.plain_tree.specs.Below.{is_among, at_and_below}
use Rattle.plain_tree.specs.Checks.{file_check, node_check, directory_check, empty_check, keep_check, open_check}
use Rattle.plain_tree.specs.Entries.{child_at, entry_at, is_open, settled, add_entry, drop_entry}
use Rattle.plain_tree.specs.Files.{open_file, inode_of}
use Rattle.plain_tree.specs.Names.{NamesInOrder}
use Rattle.plain_tree.specs.Numbers.{InOrder}
use Rattle.plain_tree.specs.Operations.{with_new_node, with_new_file, new_file, HandlesBelow}
use Rattle.plain_tree.specs.Subtrees.{dropped, copy_number, with_copy, without_tree}
use Rattle.s3_base.specs.Numbers.{root}
use Rattle.plain_tree.specs.Tree.{Node, Handle, Tree, lost_and_found, node_at, entry_of, handle_of, change_node, with_node, with_handle, without_handle, without_node, stamped}
use Rattle.tree_laws.proofs.Name.Order.{NamesInOrder-stamped, NamesInOrder-drop_entry}
use Rattle.tree_laws.proofs.Node.Handles.{own_is, opened_was, opened_stays}
use Rattle.tree_laws.proofs.Node.Kind.{free_is, folder_is, entry_there, node_there, file_of, file_no_folder, one_some, none_from, kind_in, entry_in, none_some, folder_of, opened_file, no_folder_is, empty_is}
use Rattle.tree_laws.proofs.Node.Order.{InOrder-change_node}
use Rattle.tree_laws.proofs.Node.Reading.{handle_there, node_of_file, node_at_none_next, node_at-with_node_same, node_at-with_node_other}
use Rattle.tree_laws.proofs.Shape.Below.{below_shape}
use Rattle.tree_laws.proofs.Shape.Branch.{Grown-uprooted, Grown-copied}
use Rattle.tree_laws.proofs.Shape.Copy.{shape-with_copy}
use Rattle.tree_laws.proofs.Shape.Gain.{Grown-added}
use Rattle.tree_laws.proofs.Shape.Loss.{Grown-removed, Grown-unlinked, Grown-closed}
use Rattle.tree_laws.proofs.Shape.Named.{Grown-settled}
use Rattle.tree_laws.proofs.Shape.Subtree.{shape-without_handle, shape-without_tree}
use Rattle.tree_laws.proofs.Shape.Tree.{shape_of, shape-change_node, shape-drop_entry, Links, shape-add_entry, shape-without_node}
use Rattle.tree_laws.proofs.Shape.Words.{Grown-opened, Shape, Grown, NoneGoes, Only, IsPlace, Grown-same}
use Rattle.tree_laws.proofs.Walk.Passed.{CanMake, CanLink, CanUnlink, CanUnmake, CanUproot, CanCopy}

-- one tree of names without orphans, in order
pub record Sound (t : Tree) : Type 0 where
  pub ordered : InOrder t
  pub names : NamesInOrder t
  pub below : HandlesBelow t
  pub grown : Grown NoneGoes (shape_of t)

-- ---- what the checks say

-- the entry is not that of lost+found
pub keep_is : (p : ℕ) (n : List ℕ) → keep_check p n ≡ None → IsPlace root lost_and_found p n → ⊥
keep_is p n is place =
    let kept : keep_check root lost_and_found ≡ None = sym (ap (λ k. keep_check k lost_and_found) place.0) ∙ sym (ap (keep_check p) place.1) ∙ is in
    cc kept

-- ---- entries of what is no directory

file_entries : (v : Shape) → Grown NoneGoes v → (x : ℕ) → (v.kind x ≡ Some kinds.Directory → ⊥) → (m : List ℕ) → v.entry x m ≡ None
file_entries v grown x file m = none_from (v.entry x m) (λ y is. file (grown.holds x y m is))

-- ---- changes of one node

Grown-alike : (f : Node → Node) → ((node : Node) → kind_of (f node).content ≡ kind_of node.content) → ((name : List ℕ) (node : Node) → entry_of (f node).content name ≡ entry_of node.content name)
    → (but : ℕ → Type 0) (i : ℕ) (t : Tree) → Grown but (shape_of t) → Grown but (shape_of (change_node i f t))
Grown-alike f kind entry but i t grown = Grown-same but (shape_of t) (shape_of (change_node i f t)) (shape-change_node f kind entry i t) grown

Grown-stamped : (but : ℕ → Type 0) (now i : ℕ) (t : Tree) → Grown but (shape_of t) → Grown but (shape_of (change_node i (stamped now) t))
Grown-stamped but now i t grown = Grown-alike (stamped now) (λ node. refl) (λ name node. refl) but i t grown

-- ---- new nodes and names

-- a new node of a kind that has no entries, where opened tells what is open in the tree with the handle
made : (v : Shape) (t : Tree) (p : ℕ) (n : List ℕ) (node : Node) (now : ℕ) → InOrder t → ((y : ℕ) → kind_in (node_at t y) ≡ v.kind y) → ((q : ℕ) (m : List ℕ) → entry_at t q m ≡ v.entry q m)
    → ((y : ℕ) → y ≢ t.next_inode → is_open t y ≡ v.opened y) → (is_open t t.next_inode ≡ true → kind_of node.content ≡ kinds.Regular) → ((m : List ℕ) → entry_of node.content m ≡ None)
    → Grown NoneGoes v → kind_in (node_at t p) ≡ Some kinds.Directory → entry_at t p n ≡ None → Grown NoneGoes (shape_of (add_entry p n t.next_inode now (with_node node t)))
made v t p n node now ordered kind entry opened handled bare grown folder free =
    let next : ℕ = t.next_inode in
    let more : Tree = with_node node t in
    let after : Tree = add_entry p n next now more in
    let none : node_at t next ≡ None = node_at_none_next t ordered next (omega arith) in
    let apart : p ≢ next = λ same. none_some (kind_in (node_at t p)) kinds.Directory (ap (λ k. kind_in (node_at t k)) same ∙ ap kind_in none) folder in
    let links : Links (shape_of more) (shape_of after) p n next = shape-add_entry p n next now more (ap kind_in (node_at-with_node_other node t p apart) ∙ folder) in
    let old : (q : ℕ) (m : List ℕ) → entry_at more q m ≡ entry_at t q m = λ q m.
    elim (cases_eq q next) [
      | inl same ↦
          ap (λ k. entry_in m (node_at more k)) same ∙ ap (entry_in m) (node_at-with_node_same node t) ∙ bare m ∙ sym (ap (entry_in m) none) ∙ ap (λ k. entry_in m (node_at t k)) (sym same)
      | inr differs ↦ ap (entry_in m) (node_at-with_node_other node t q differs)
    ] in
    Grown-added v (shape_of after) p next n (kind_of node.content)
    (record {
      is = links.kind next ∙ ap kind_in (node_at-with_node_same node t);
      kind = λ y differs. links.kind y ∙ ap kind_in (node_at-with_node_other node t y differs) ∙ kind y;
      here = links.here;
      rest = λ q m differs. links.rest q m differs ∙ old q m ∙ entry q m;
      opened = λ y differs. links.opened y ∙ opened y differs;
      handled = λ is. handled (sym (links.opened next) ∙ is);
      was = inr (sym (kind next) ∙ ap kind_in none);
    })
    grown (sym (entry p n) ∙ free) (sym (kind p) ∙ folder)

same_test : (a b : Bool) → (a ≡ true → b ≡ true) → (b ≡ true → a ≡ true) → a ≡ b
same_test true b first second = sym (first refl)
same_test false true first second = second refl
same_test false false first second = refl

-- a node that lost an entry is stamped, and goes where nothing keeps it
pub Grown-stamped_settled : (x now : ℕ) (t : Tree) → InOrder t → NamesInOrder t → Grown (Only x) (shape_of t) → Grown NoneGoes (shape_of (settled x (change_node x (stamped now) t)))
Grown-stamped_settled x now t ordered names grown =
    Grown-settled x (change_node x (stamped now) t) (InOrder-change_node (stamped now) x t ordered) (NamesInOrder-stamped now x t names) (Grown-stamped (Only x) now x t grown)

-- ---- operations

-- in a tree that is grown, at a time
module _ (t : Tree) (now : ℕ) (sound : Sound t) where
  pub Grown-with_new_node : (p : ℕ) (n : List ℕ) (node : Node) → ((m : List ℕ) → entry_of node.content m ≡ None) → CanMake t p n → Grown NoneGoes (shape_of (with_new_node p n node now t))
  Grown-with_new_node p n node bare can =
      made (shape_of t) t p n node now sound.ordered (λ y. refl) (λ q m. refl) (λ y differs. refl)
      (λ is. absurd (none_some _ kinds.Regular (ap kind_in (node_at_none_next t sound.ordered t.next_inode (omega arith))) (sound.grown.handles t.next_inode is)))
      bare sound.grown (folder_is (node_at t p) can.there can.folder) (free_is (node_at t p) n can.free)

  pub Grown-with_new_file : (pass p : ℕ) (n : List ℕ) (mode uid gid : ℕ) → CanMake t p n → Grown NoneGoes (shape_of (with_new_file t pass p n (new_file mode uid gid now) now))
  Grown-with_new_file pass p n mode uid gid can =
      let handle : Handle = record { inode = t.next_inode; pass = pass } in
      made (shape_of t) (with_handle handle t) p n (new_file mode uid gid now) now sound.ordered (λ y. refl) (λ q m. refl)
      (λ y differs.
      same_test (is_open (with_handle handle t) y) (is_open t y)
      (λ is. elim (opened_was y t.next_handle handle t.handles is) [ inl new ↦ absurd (differs (sym new)) | inr old ↦ old ])
      (λ is. opened_stays y t.next_handle handle t.handles sound.below is))
      (λ is. refl) (λ m. refl) sound.grown (folder_is (node_at t p) can.there can.folder) (free_is (node_at t p) n can.free)

  pub Grown-link : (x p : ℕ) (n : List ℕ) → CanLink t x p n → Grown NoneGoes (shape_of (change_node x (stamped now) (add_entry p n x now t)))
  Grown-link x p n can =
      let node = node_there (node_at t x) can.there in
      let folder : kind_in (node_at t p) ≡ Some kinds.Directory = folder_is (node_at t p) can.parent_there can.parent_folder in
      let links : Links (shape_of t) (shape_of (add_entry p n x now t)) p n x = shape-add_entry p n x now t folder in
      Grown-stamped NoneGoes now x (add_entry p n x now t)
      (Grown-added (shape_of t) (shape_of (add_entry p n x now t)) p x n (kind_of node.0.content)
      (record {
        is = links.kind x ∙ ap kind_in node.1;
        kind = λ y differs. links.kind y;
        here = links.here;
        rest = λ q m differs. links.rest q m differs;
        opened = λ y differs. links.opened y;
        handled = λ opened. one_some _ (kind_of node.0.content) kinds.Regular (ap kind_in node.1) (sound.grown.handles x (sym (links.opened x) ∙ opened));
        was = inl (ap kind_in node.1, λ same. no_folder_is 1 (node_at t x) can.file (ap kind_in node.1 ∙ ap Some same));
      })
      sound.grown (free_is (node_at t p) n can.free) folder)

  pub Grown-open : (x pass : ℕ) → node_check (node_at t x) ≡ None → file_check (node_at t x) ≡ None → Grown NoneGoes (shape_of (with_handle (record { inode = x; pass = pass }) t))
  Grown-open x pass there file =
      let node = file_of (node_at t x) there file in
      let handle : Handle = record { inode = x; pass = pass } in
      Grown-opened (shape_of t) (shape_of (with_handle handle t))
      (record {
        kind = λ y. refl;
        entry = λ q m. refl;
        was = λ y is.
            elim (opened_was y t.next_handle handle t.handles is) [
              | inl new ↦ ap (λ k. kind_in (node_at t k)) (sym new) ∙ ap kind_in node.2 ∙ ap (λ c. Some (kind_of c)) node.3
              | inr old ↦ sound.grown.handles y old
            ];
        stays = λ y goes is. opened_stays y t.next_handle handle t.handles sound.below is;
      })
      sound.grown

  pub Grown-release : (pass number : ℕ) → open_check (open_file t pass number) ≡ None → Grown NoneGoes (shape_of (settled (inode_of (handle_of t pass number)) (without_handle number t)))
  Grown-release pass number passes =
      let opened = opened_file (open_file t pass number) passes in
      let found = handle_there t (handle_of t pass number) opened.0 opened.1 in
      let node = node_of_file (node_at t found.0.inode) opened.0 found.2 in
      let file : kind_in (node_at t found.0.inode) ≡ Some kinds.Regular = ap kind_in node.1 ∙ ap (λ c. Some (kind_of c)) node.2 in
      let closes = shape-without_handle number found.0 t (own_is pass (lookup (is_at (nat_cmp number)) t.handles) found.0 found.1) in
      subst (λ k. Grown NoneGoes (shape_of (settled k (without_handle number t)))) (sym (ap inode_of found.1))
      (Grown-settled found.0.inode (without_handle number t) sound.ordered sound.names (Grown-closed (shape_of t) (shape_of (without_handle number t)) found.0.inode closes sound.grown file))

  pub Grown-unlink : (p : ℕ) (n : List ℕ) → CanUnlink t p n → Grown NoneGoes (shape_of (dropped now (entry_at t p n) (drop_entry p n now t)))
  Grown-unlink p n can =
      let named = entry_there (entry_at t p n) can.drop.entry in
      let one : Tree = drop_entry p n now t in
      subst (λ o. Grown NoneGoes (shape_of (dropped now o one))) (sym named.1)
      (Grown-stamped_settled named.0 now one (InOrder-change_node _ p t sound.ordered) (NamesInOrder-drop_entry p n now t sound.names)
      (Grown-unlinked (shape_of t) (shape_of one) p named.0 n (shape-drop_entry p n now t sound.names) sound.grown named.1 (keep_is p n can.drop.kept)
      (file_entries (shape_of t) sound.grown named.0 (λ folder. no_folder_is 21 (child_at t p n) can.file (ap (λ o. kind_in (option_and_then (node_at t) o)) named.1 ∙ folder)))))

  -- what an entry names is a directory, where the checks say so
  child_folder : (p : ℕ) (n : List ℕ) (x : ℕ) → entry_at t p n ≡ Some x → directory_check (child_at t p n) ≡ None → kind_in (node_at t x) ≡ Some kinds.Directory
  child_folder p n x names folder =
      let node = sound.grown.there p x n names in
      folder_of (node_at t x) node.0 node.1 (ap (λ o. directory_check (option_and_then (node_at t) o)) (sym names) ∙ folder)

  pub Grown-rmdir : (p : ℕ) (n : List ℕ) → CanUnmake t p n → Grown NoneGoes (shape_of (without_node (unwrap_or (entry_at t p n) 0) (drop_entry p n now t)))
  Grown-rmdir p n can =
      let named = entry_there (entry_at t p n) can.drop.entry in
      let x : ℕ = named.0 in
      let one : Tree = drop_entry p n now t in
      let drops = shape-drop_entry p n now t sound.names in
      let empty : (m : List ℕ) → entry_at t x m ≡ None = empty_is (node_at t x) (ap (λ o. empty_check (option_and_then (node_at t) o)) (sym named.1) ∙ can.empty) in
      let grown : Grown (Only x) (shape_of one) = Grown-unlinked (shape_of t) (shape_of one) p x n drops sound.grown named.1 (keep_is p n can.drop.kept) empty in
      let still : kind_in (node_at one x) ≡ Some kinds.Directory = drops.kind x ∙ child_folder p n x named.1 can.child_folder in
      subst (λ o. Grown NoneGoes (shape_of (without_node (unwrap_or o 0) one))) (sym named.1)
      (Grown-removed (shape_of one) (shape_of (without_node x one)) x (shape-without_node x one (InOrder-change_node _ p t sound.ordered)) grown (grown.bare x refl still)
      (λ opened. file_no_folder _ (grown.handles x opened) still))

  pub Grown-without_tree : (p : ℕ) (n : List ℕ) → CanUproot t p n → Grown NoneGoes (shape_of (without_tree p n now (entry_at t p n) t))
  Grown-without_tree p n can =
      let named = entry_there (entry_at t p n) can.drop.entry in
      let x : ℕ = named.0 in
      subst (λ o. Grown NoneGoes (shape_of (without_tree p n now o t))) (sym named.1)
      (Grown-uprooted (shape_of t) (shape_of (without_tree p n now (Some x) t)) p x n (is_among (at_and_below t x))
      (shape-without_tree p n now x t sound.ordered sound.names sound.grown.rooted)
      (record { names = named.1; folder = child_folder p n x named.1 can.child_folder; other = keep_is p n can.drop.kept; below = below_shape t sound.names x }) sound.grown)

  pub Grown-with_copy : (source p : ℕ) (n : List ℕ) → CanCopy t source p n → Grown NoneGoes (shape_of (with_copy source p n now t))
  Grown-with_copy source p n can =
      let below = below_shape t sound.names source in
      let parent : kind_in (node_at t p) ≡ Some kinds.Directory = folder_is (node_at t p) can.there can.folder in
      Grown-copied (shape_of t) (shape_of (with_copy source p n now t)) p source n (is_among (at_and_below t source)) (copy_number t.next_inode (at_and_below t source))
      (shape-with_copy source p n now t sound.ordered parent (free_is (node_at t p) n can.free) below.itself)
      (record { folder = folder_is (node_at t source) can.source_there can.source_folder; parent = parent; below = below }) sound.grown
