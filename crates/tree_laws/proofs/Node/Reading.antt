-- What look-ups find among nodes in the order of their numbers.
use Rattle.std.proofs.Common.{inr, inl, ◌≡◌, ◌≢◌, ℕ, List, true, false, cond, Option, None, Some, IsSome, refl, sym, ap, ◌∙◌, [], ◌∷◌, Bool, ◌+◌, arith, ◌≤◌, ◌<◌}
use Rattle.std.proofs.lemmas.Bool.{cases_eq, cond-true, cond-false}
use Rattle.std.proofs.lemmas.Cmp.{eq_by_cmp_equiv, nat_cmp_total}
use Rattle.std.proofs.lemmas.Map.{lookup-set_value}
use Rattle.std.specs.BTreeMap.{is_at, insert_entry}
use Rattle.std.specs.Cmp.{nat_cmp_is}
use Rattle.std.specs.Map.{keys_of, lookup, remove_entry}
use Rattle.std.specs.Option.{option_map}
use Rattle.std.specs.Ordering.{nat_cmp}
use Rattle.std.specs.Prelude.{option_and_then}
use Rattle.std.specs.declared.cmp.Ordering.TheVariants.{Greater}
use Rattle.plain_tree.specs.Files.{bytes_of, file_at, inode_of}
use Rattle.plain_tree.specs.Numbers.{Ascend, InOrder}
use Rattle.plain_tree.specs.Tree.{Content, Regular, Directory, Link, Node, Handle, Tree, node_at, changed_by, change_node, with_node}
use Rattle.tree_laws.specs.Changes.{ChangesOneNode}
use Rattle.tree_laws.proofs.Node.Ascend.{Ascend-least}
use Rattle.tree_laws.proofs.Node.Keys.{one_number, same_number, other_number, own_number, numbers_tell, lookup-insert_entry_same, lookup-insert_entry_other}
use Rattle.tree_laws.proofs.Node.Kind.{none_some, none_from, entry_in}

-- ---- numbers in order

-- no node is found below the first number
pub lookup_none_below : (inode low : ℕ) (es : List (ℕ × Node)) (next : ℕ) → Ascend low (keys_of es) next → inode < low → lookup (is_at (nat_cmp inode)) es ≡ None
lookup_none_below inode low [] next ascend less = refl
lookup_none_below inode low (e ∷ es) next ascend less =
    cond-false _ _ _ (other_number inode e.0 (λ same. omega (arith, same, less, ascend.0))) ∙ (lookup_none_below inode (e.0 + 1) es next ascend.1 (omega (arith, less, ascend.0)))

present_if : (inode low next : ℕ) (e : ℕ × Node) (es : List (ℕ × Node)) (node : Node) (test : Bool) → is_at (nat_cmp inode) e.0 ≡ test → Ascend low (keys_of (e ∷ es)) next
    → (lookup (is_at (nat_cmp inode)) es ≡ Some node → inode < next) → cond test (Some e.1) (lookup (is_at (nat_cmp inode)) es) ≡ Some node → inode < next
present_if inode low next e es node true here ascend rest is =
    let same : inode ≡ e.0 = same_number inode e.0 here in
    omega (arith, same, Ascend-least (e.0 + 1) (keys_of es) next ascend.1)
present_if inode low next e es node false here ascend rest is = rest is

-- a node that is found has a number below the next one
pub lookup_below_next : (inode low : ℕ) (es : List (ℕ × Node)) (next : ℕ) (node : Node) → Ascend low (keys_of es) next → lookup (is_at (nat_cmp inode)) es ≡ Some node → inode < next
lookup_below_next inode low [] next node ascend is = absurd (cc is)
lookup_below_next inode low (e ∷ es) next node ascend is =
    present_if inode low next e es node (is_at (nat_cmp inode) e.0) refl ascend (lookup_below_next inode (e.0 + 1) es next node ascend.1) is

number_gone : (x : ℕ) (test : Bool) (e : ℕ × Node) (es rest : List (ℕ × Node)) (next : ℕ) → is_at (nat_cmp x) e.0 ≡ test → Ascend (e.0 + 1) (keys_of es) next → lookup (is_at (nat_cmp x)) rest ≡ None
    → lookup (is_at (nat_cmp x)) (cond test es (e ∷ rest)) ≡ None
number_gone x true e es rest next is ascend none =
    let same : x ≡ e.0 = same_number x e.0 is in
    lookup_none_below x (e.0 + 1) es next ascend (omega (arith, same))
number_gone x false e es rest next is ascend none = cond-false _ _ _ is ∙ none

-- a removed node is not found
pub lookup-remove_entry_same : (x low : ℕ) (es : List (ℕ × Node)) (next : ℕ) → Ascend low (keys_of es) next → lookup (is_at (nat_cmp x)) (remove_entry (is_at (nat_cmp x)) es) ≡ None
lookup-remove_entry_same x low [] next ascend = refl
lookup-remove_entry_same x low (e ∷ es) next ascend =
    number_gone x (is_at (nat_cmp x) e.0) e es (remove_entry (is_at (nat_cmp x)) es) next refl ascend.1 (lookup-remove_entry_same x (e.0 + 1) es next ascend.1)

-- a new node leaves look-ups of lower numbers
pub lookup-insert_entry_next : (inode low : ℕ) (es : List (ℕ × Node)) (next : ℕ) (node : Node) → Ascend low (keys_of es) next → inode < next
    → lookup (is_at (nat_cmp inode)) (insert_entry nat_cmp es next node) ≡ lookup (is_at (nat_cmp inode)) es
lookup-insert_entry_next inode low [] next node ascend less = cond-false _ _ _ (other_number inode next (λ same. omega (arith, same, less)))
lookup-insert_entry_next inode low (e ∷ es) next node ascend less =
    let fits : e.0 < next = omega (arith, Ascend-least (e.0 + 1) (keys_of es) next ascend.1) in
    let above : nat_cmp next e.0 ≡ Greater = sym (nat_cmp_is next e.0 Greater fits) in
    simp above (ap (λ rest. cond (is_at (nat_cmp inode) e.0) (Some e.1) rest) (lookup-insert_entry_next inode (e.0 + 1) es next node ascend.1 less))

pub first_node : (e : ℕ × Node) (es : List (ℕ × Node)) → lookup (is_at (nat_cmp e.0)) (e ∷ es) ≡ Some e.1
first_node e es = cond-true _ _ _ (own_number e.0)

-- an entry of a later node is found past the first
pub past_node : (x q : ℕ) (m : List ℕ) (e : ℕ × Node) (es : List (ℕ × Node)) (next : ℕ) → Ascend (e.0 + 1) (keys_of es) next → entry_in m (lookup (is_at (nat_cmp q)) es) ≡ Some x
    → (q ≢ e.0) × (entry_in m (lookup (is_at (nat_cmp q)) (e ∷ es)) ≡ Some x)
past_node x q m e es next ascend is =
    let apart : q ≢ e.0 = λ same.
    none_some (entry_in m (lookup (is_at (nat_cmp q)) es)) x
    (ap (λ k. entry_in m (lookup (is_at (nat_cmp k)) es)) same ∙ ap (entry_in m) (lookup_none_below e.0 (e.0 + 1) es next ascend (omega arith))) is in
    (apart, ap (entry_in m) (cond-false _ _ _ (other_number q e.0 apart)) ∙ is)

-- ---- a changed node

-- what a look-up finds after a node is changed
found : (f : Node → Node) (node : Node) (inode x : ℕ) (t : Tree) → IsSome (node_at t inode)
    → node_at (changed_by f (Some node) inode t) x ≡ cond (is_at (nat_cmp inode) x) (Some (f node)) (node_at t x)
found f node inode x t there = lookup-set_value (eq_by_cmp_equiv nat_cmp_total) (is_at (nat_cmp inode)) (one_number inode) x (f node) t.nodes there

pub node_at-changed_by_same : (f : Node → Node) (node : Node) (inode : ℕ) (t : Tree) → node_at t inode ≡ Some node
    → node_at (changed_by f (Some node) inode t) inode ≡ Some (f node)
node_at-changed_by_same f node inode t is = found f node inode inode t (rw is refl) ∙ cond-true _ _ _ (own_number inode)

-- a changed node is the only one that changes
pub changed_by-changes_one : (f : Node → Node) (node : Node) (inode : ℕ) (t : Tree) → node_at t inode ≡ Some node → ChangesOneNode inode t (changed_by f (Some node) inode t)
changed_by-changes_one f node inode t is = record {
  others = λ x apart.
      found f node inode x t (rw is refl) ∙ cond-false _ _ _ (other_number inode x (λ same. apart (sym same)));
  handles = refl;
  next_inode = refl;
  next_handle = refl;
  block_size = refl;
}

here_by : (f : Node → Node) (found : Option Node) (i : ℕ) (t : Tree) → node_at t i ≡ found → node_at (changed_by f found i t) i ≡ option_map f found
here_by f None i t is = is
here_by f (Some node) i t is = node_at-changed_by_same f node i t is

pub node_at-change_node_same : (f : Node → Node) (i : ℕ) (t : Tree) → node_at (change_node i f t) i ≡ option_map f (node_at t i)
node_at-change_node_same f i t = here_by f (node_at t i) i t refl

there_by : (f : Node → Node) (found : Option Node) (i x : ℕ) (t : Tree) → node_at t i ≡ found → x ≢ i → node_at (changed_by f found i t) x ≡ node_at t x
there_by f None i x t is apart = refl
there_by f (Some node) i x t is apart = (changed_by-changes_one f node i t is).others x apart

pub node_at-change_node_other : (f : Node → Node) (i x : ℕ) (t : Tree) → x ≢ i → node_at (change_node i f t) x ≡ node_at t x
node_at-change_node_other f i x t apart = there_by f (node_at t i) i x t refl apart

-- ---- a new node

pub node_at-with_node_same : (node : Node) (t : Tree) → node_at (with_node node t) t.next_inode ≡ Some node
node_at-with_node_same node t = lookup-insert_entry_same nat_cmp numbers_tell t.next_inode node t.nodes

pub node_at-with_node_other : (node : Node) (t : Tree) (x : ℕ) → x ≢ t.next_inode → node_at (with_node node t) x ≡ node_at t x
node_at-with_node_other node t x apart = lookup-insert_entry_other nat_cmp numbers_tell t.next_inode x node t.nodes apart

-- no node has a number from the next one on
pub node_at_none_next : (t : Tree) → InOrder t → (x : ℕ) → t.next_inode ≤ x → node_at t x ≡ None
node_at_none_next t ordered x less = none_from (node_at t x) (λ node is. omega (arith, less, lookup_below_next x 0 t.nodes t.next_inode node ordered is))

-- ---- the file that a handle has open

pub handle_there : (t : Tree) (found : Option Handle) (old : List ℕ) → option_and_then (λ (h : Handle). file_at t h.inode) found ≡ Some old → (h : Handle) × (found ≡ Some h) × (file_at t h.inode ≡ Some old)
handle_there t None old is = absurd (cc is)
handle_there t (Some h) old is = (h, refl, is)

content_is : (content : Content) (old : List ℕ) → bytes_of content ≡ Some old → content ≡ Regular old
content_is (Regular bytes) old is = cc is
content_is (Directory entries) old is = absurd (cc is)
content_is (Link target) old is = absurd (cc is)

pub node_of_file : (found : Option Node) (old : List ℕ) → option_and_then (λ (node : Node). bytes_of node.content) found ≡ Some old
    → (node : Node) × (found ≡ Some node) × (node.content ≡ Regular old)
node_of_file None old is = absurd (cc is)
node_of_file (Some node) old is = (node, refl, content_is node.content old is)

pub node_of_handle : (t : Tree) (found : Option Handle) (old : List ℕ) → option_and_then (λ (h : Handle). file_at t h.inode) found ≡ Some old
    → (node : Node) × (node_at t (inode_of found) ≡ Some node) × (node.content ≡ Regular old)
node_of_handle t found old is =
    let handle = handle_there t found old is in
    let node = node_of_file (node_at t handle.0.inode) old handle.2 in
    (node.0, ap (λ f. node_at t (inode_of f)) handle.1 ∙ node.1, node.2)

-- ---- readings

-- a reading that a change of a node leaves is as before
pub read_mapped : {Y : Type 0} (h : Option Node → Y) (f : Node → Node) → ((node : Node) → h (Some (f node)) ≡ h (Some node)) → (found : Option Node) → h (option_map f found) ≡ h found
read_mapped h f keeps None = refl
read_mapped h f keeps (Some node) = keeps node

pub read_changed : {Y : Type 0} (h : Option Node → Y) (f : Node → Node) → ((node : Node) → h (Some (f node)) ≡ h (Some node)) → (i x : ℕ) (t : Tree)
    → h (node_at (change_node i f t) x) ≡ h (node_at t x)
read_changed h f keeps i x t =
    elim (cases_eq x i) [
      | inl same ↦ ap (λ k. h (node_at (change_node i f t) k)) same ∙ ap h (node_at-change_node_same f i t) ∙ read_mapped h f keeps (node_at t i) ∙ ap (λ k. h (node_at t k)) (sym same)
      | inr apart ↦ ap h (node_at-change_node_other f i x t apart)
    ]

pub read_cond : {Y : Type 0} (h : Option Node → Option Y) → h None ≡ None → (test : Bool) (found : Option Node) → h (cond test found None) ≡ cond test (h found) None
read_cond h none true found = refl
read_cond h none false found = none
