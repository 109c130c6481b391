-- A fact of every node, through all operations.
use Rattle.std.proofs.Common.{◌≡◌, ℕ, List, [], ◌∷◌, ◌++◌, Bool, true, false, cond, Option, None, Some, refl, subst}
use Rattle.std.proofs.lemmas.Bool.{cond_both}
use Rattle.std.specs.BTreeMap.{is_at, insert_entry}
use Rattle.std.specs.Cmp.Lexicographic.{slice_cmp}
use Rattle.std.specs.List.{filter, filter_map, cons_option}
use Rattle.std.specs.Map.{lookup, set_value, remove_entry}
use Rattle.std.specs.Ordering.{nat_cmp, match_ordering}
use Rattle.std.specs.Prelude.{◌==◌, not, ◌&&◌, map}
use Rattle.std.specs.declared.cmp.Ordering.{Ordering}
use Rattle.std.specs.declared.cmp.Ordering.TheVariants.{Less, Equal, Greater}
use Rattle.op_frames.specs.declared.operation.Op.{Op}
use Rattle.plain_tree.specs.Below.{is_among, at_and_below}
use Rattle.plain_tree.specs.Checks.{name_check}
use Rattle.plain_tree.specs.Entries.{entries_of, unnamed, is_directory, lives, settled}
use Rattle.plain_tree.specs.Files.{with_bytes, written_at, resized}
use Rattle.plain_tree.specs.Operations.{tree_after}
use Rattle.plain_tree.specs.Subtrees.{copied_content, copied_node, copy_number, copies, left_over, without_directories}
use Rattle.plain_tree.specs.Tree.{Content, Regular, Directory, Link, named, Node, Tree, node_at, change_node, changed_by, without_node, stamped}
use Rattle.tree_laws.proofs.Walk.Calls.{walk-tree_after}
use Rattle.tree_laws.proofs.Walk.Edits.{Resize, Write, Entry, NoEntry, File, Folder, Symlink, Edit, Stamp, edited, Fits, NewNode, built, Begins}
use Rattle.tree_laws.proofs.Walk.Operations.{Walk}

-- ---- lists of entries

-- the fact holds of every entry
abbrev pub EachEntry : {K X : Type 0} → (K → X → Type 0) → List (K × X) → Type 0
EachEntry good [] = Unit {0}
EachEntry good (e ∷ es) = good e.0 e.1 × EachEntry good es

each-match : {K X : Type 0} (good : K → X → Type 0) (order : Ordering) (a b c : List (K × X)) → EachEntry good a → EachEntry good b → EachEntry good c → EachEntry good (match_ordering order a b c)
each-match good Less a b c first second third = first
each-match good Equal a b c first second third = second
each-match good Greater a b c first second third = third

pub each-insert_entry : {K X : Type 0} (good : K → X → Type 0) (compare : K → K → Ordering) (k : K) (v : X) → good k v → ((l : K) (w : X) → good l w → good l v) → (es : List (K × X)) → EachEntry good es
    → EachEntry good (insert_entry compare es k v)
each-insert_entry good compare k v sound takes [] each = (sound, _)
each-insert_entry good compare k v sound takes (e ∷ es) each =
    each-match good (compare k e.0) ((k, v) ∷ e ∷ es) ((e.0, v) ∷ es) (e ∷ insert_entry compare es k v) (sound, each) (takes e.0 e.1 each.0, each.1)
    (each.0, each-insert_entry good compare k v sound takes es each.1)

pub each-remove_entry : {K X : Type 0} (good : K → X → Type 0) (test : K → Bool) (es : List (K × X)) → EachEntry good es → EachEntry good (remove_entry test es)
each-remove_entry good test [] each = each
each-remove_entry good test (e ∷ es) each =
    cond_both (test e.0) es (e ∷ remove_entry test es) (λ left. EachEntry good left) (λ is. each.1) (λ is. (each.0, each-remove_entry good test es each.1))

-- ---- lists of nodes

-- the fact holds of every node
abbrev pub Each : (Node → Type 0) → List (ℕ × Node) → Type 0
Each good es = EachEntry (λ inode node. good node) es

-- a change of a node keeps it
abbrev pub Changes : (Node → Type 0) → (Node → Node) → Type 0
Changes good f = (node : Node) → good node → good (f node)

-- all that is written into a node at a time keeps it, and new nodes have it
pub record Keeps (now : ℕ) (good : Node → Type 0) : Type 0 where
  pub edits : (e : Edit) → Fits e → Changes good (edited now e)
  pub makes : (new : NewNode) → Begins new → good (built now new)
  pub locks : Changes good (λ node. record node { locked = true })
  pub copies : (next : ℕ) (order : List ℕ) → Changes good (copied_node next order now)

found_if : (good : Node → Type 0) (test : Bool) (value node : Node) (found : Option Node) → good value → (found ≡ Some node → good node) → cond test (Some value) found ≡ Some node → good node
found_if good true value node found sound rest is =
    let same : value ≡ node = cc is in
    subst good same sound
found_if good false value node found sound rest is = rest is

pub each-found : (good : Node → Type 0) (test : ℕ → Bool) (es : List (ℕ × Node)) (node : Node) → Each good es → lookup test es ≡ Some node → good node
each-found good test [] node each is = absurd (cc is)
each-found good test (e ∷ es) node each is = found_if good (test e.0) e.1 node (lookup test es) each.0 (each-found good test es node each.1) is

each-set : (good : Node → Type 0) (test : ℕ → Bool) (es : List (ℕ × Node)) (w : Node) → Each good es → good w → Each good (set_value test es w)
each-set good test [] w each sound = each
each-set good test (e ∷ es) w each sound =
    cond_both (test e.0) ((e.0, w) ∷ es) (e ∷ set_value test es w) (λ (left : List (ℕ × Node)). Each good left) (λ is. (sound, each.1)) (λ is. (each.0, each-set good test es w each.1 sound))

pub each-filter : (good : Node → Type 0) (test : ℕ × Node → Bool) (es : List (ℕ × Node)) → Each good es → Each good (filter test es)
each-filter good test [] each = each
each-filter good test (e ∷ es) each =
    let rest : Each good (filter test es) = each-filter good test es each.1 in
    cond_both (test e) (e ∷ filter test es) (filter test es) (λ (left : List (ℕ × Node)). Each good left) (λ is. (each.0, rest)) (λ is. rest)

each-append : (good : Node → Type 0) (es others : List (ℕ × Node)) → Each good es → Each good others → Each good (es ++ others)
each-append good [] others first second = second
each-append good (e ∷ es) others first second = (first.0, each-append good es others first.1 second)

each-option : (good : Node → Type 0) (x : Option (ℕ × Node)) (others : List (ℕ × Node)) → ((e : ℕ × Node) → x ≡ Some e → good e.1) → Each good others → Each good (cons_option x others)
each-option good None others sound each = each
each-option good (Some e) others sound each = (sound e refl, each)

each-left : (good : Node → Type 0) (keep : ℕ × Node → Option (ℕ × Node)) → ((e x : ℕ × Node) → good e.1 → keep e ≡ Some x → good x.1) → (es : List (ℕ × Node)) → Each good es
    → Each good (filter_map keep es)
each-left good keep keeps [] each = each
each-left good keep keeps (e ∷ es) each = each-option good (keep e) (filter_map keep es) (λ x is. keeps e x each.0 is) (each-left good keep keeps es each.1)

-- a fact that all that is written keeps
module _ (good : Node → Type 0) (now : ℕ) (keeps : Keeps now good) where
  left_sound : (among stays : Bool) (e x : ℕ × Node) → good e.1 → cond among (cond stays (Some (e.0, stamped now e.1)) None) (Some e) ≡ Some x → good x.1
  left_sound true true e x sound is =
      let same : (e.0, stamped now e.1) ≡ x = cc is in
      subst (λ (p : ℕ × Node). good p.1) same (keeps.edits Stamp _ e.1 sound)
  left_sound true false e x sound is = absurd (cc is)
  left_sound false stays e x sound is =
      let same : e ≡ x = cc is in
      subst (λ (p : ℕ × Node). good p.1) same sound

  lock_sound : (among : Bool) (e : ℕ × Node) → good e.1 → good (cond among (e.0, record e.1 { locked = true }) e).1
  lock_sound true e sound = keeps.locks e.1 sound
  lock_sound false e sound = sound

  each-lock : (below : List ℕ) (es : List (ℕ × Node)) → Each good es → Each good (map (λ e. cond (is_among below e.0) (e.0, record e.1 { locked = true }) e) es)
  each-lock below [] each = each
  each-lock below (e ∷ es) each = (lock_sound (is_among below e.0) e each.0, each-lock below es each.1)

  copy_if : (t : Tree) (order : List ℕ) (inode : ℕ) (inodes : List ℕ) (x : Option Node) → ((node : Node) → x ≡ Some node → good node) → Each good (copies t order now inodes) → Each good (elim x as (λ _. List (ℕ × Node)) [ Some node ↦ (copy_number t.next_inode order inode, copied_node t.next_inode order now node) ∷ copies t order now inodes | None ↦ copies t order now inodes ])
  copy_if t order inode inodes None sound rest = rest
  copy_if t order inode inodes (Some node) sound rest = (keeps.copies t.next_inode order node (sound node refl), rest)

  each-copies : (t : Tree) (order : List ℕ) (inodes : List ℕ) → Each good t.nodes → Each good (copies t order now inodes)
  each-copies t order [] each = _
  each-copies t order (inode ∷ inodes) each =
      copy_if t order inode inodes (node_at t inode) (λ node is. each-found good (is_at (nat_cmp inode)) t.nodes node each is) (each-copies t order inodes each)

-- ---- changes of a tree

changed : (good : Node → Type 0) (f : Node → Node) → Changes good f → (x : Option Node) (inode : ℕ) (t : Tree) → ((node : Node) → x ≡ Some node → good node) → Each good t.nodes
    → Each good (changed_by f x inode t).nodes
changed good f keeps None inode t sound each = each
changed good f keeps (Some node) inode t sound each = each-set good (is_at (nat_cmp inode)) t.nodes (f node) each (keeps node (sound node refl))

pub each-change_node : (good : Node → Type 0) (f : Node → Node) → Changes good f → (inode : ℕ) (t : Tree) → Each good t.nodes → Each good (change_node inode f t).nodes
each-change_node good f keeps inode t each = changed good f keeps (node_at t inode) inode t (λ node is. each-found good (is_at (nat_cmp inode)) t.nodes node each is) each

pub each-settled : (good : Node → Type 0) (inode : ℕ) (t : Tree) → Each good t.nodes → Each good (settled inode t).nodes
each-settled good inode t each = cond_both (lives t inode) t (without_node inode t) (λ (after : Tree). Each good after.nodes) (λ is. each) (λ is. each-remove_entry (λ inode node. good node) (is_at (nat_cmp inode)) t.nodes each)

each_walk : (good : Node → Type 0) (now : ℕ) → Keeps now good → (before : Tree) (op : Op) → Walk before now op (λ a b. Each good a.nodes → Each good b.nodes)
each_walk good now keeps before op = record {
  same = λ t each. each;
  joined = λ a b c first second each. second (first each);
  edits = λ e x t fits allowed of_op each. each-change_node good (edited now e) (keeps.edits e fits) x t each;
  removes = λ x t each. each-remove_entry (λ inode node. good node) (is_at (nat_cmp x)) t.nodes each;
  makes = λ new t begins fits each. each-insert_entry (λ inode node. good node) nat_cmp t.next_inode (built now new) (keeps.makes new begins) (λ inode node sound. keeps.makes new begins) t.nodes each;
  opens = λ handle t fits each. each;
  closes = λ number t each. each;
  copies = λ source t of_trees fits each.
      let order : List ℕ = at_and_below t source in
      each-append good t.nodes (copies t order now order) each (each-copies good now keeps t order order each);
  locks = λ x t each. each-lock good now keeps (at_and_below t x) t.nodes each;
  uproots = λ below t each.
      let without : Tree = without_directories below t in
      each-left good (left_over without below now) (λ e x sound is. left_sound good now keeps (is_among below e.0) (lives without e.0 && not (is_directory e.1.content)) e x sound is) t.nodes each;
  leaves = λ pass t each. each-filter good (λ (e : ℕ × Node). lives (record t { handles = filter (λ h. not (h.1.pass == pass)) t.handles }) e.0) t.nodes each;
}

pub each-tree_after : (good : Node → Type 0) (now : ℕ) → Keeps now good → (t : Tree) (pass : ℕ) (op : Op) → Each good t.nodes → Each good (tree_after t pass op now).nodes
each-tree_after good now keeps t pass op each = walk-tree_after t pass now (λ a b. Each good a.nodes → Each good b.nodes) (each_walk good now keeps t) op each

-- ---- facts of the entries of directories

-- what an operation does to the entries of a directory keeps the fact
pub record KeepsEntries (good : List (List ℕ × ℕ) → Type 0) : Type 0 where
  pub none : good []
  pub inserts : (name : List ℕ) (inode : ℕ) (es : List (List ℕ × ℕ)) → name_check name ≡ None → good es → good (insert_entry (slice_cmp nat_cmp) es name inode)
  pub removes : (name : List ℕ) (es : List (List ℕ × ℕ)) → good es → good (remove_entry (is_at (slice_cmp nat_cmp name)) es)
  pub renumbers : (f : ℕ → ℕ) (es : List (List ℕ × ℕ)) → good es → good (map (λ e. (e.0, f e.1)) es)

entries-bytes : (good : List (List ℕ × ℕ) → Type 0) (f : List ℕ → List ℕ) (content : Content) → good (entries_of content) → good (entries_of (with_bytes f content))
entries-bytes good f (Regular bytes) holds = holds
entries-bytes good f (Directory entries) holds = holds
entries-bytes good f (Link target) holds = holds

-- a fact of entries that all that is written keeps
module _ (good : List (List ℕ × ℕ) → Type 0) (keeps : KeepsEntries good) where
  entries-named : (name : List ℕ) (inode : ℕ) (content : Content) → name_check name ≡ None → good (entries_of content) → good (entries_of (named name inode content))
  entries-named name inode (Directory entries) legal holds = keeps.inserts name inode entries legal holds
  entries-named name inode (Regular bytes) legal holds = holds
  entries-named name inode (Link target) legal holds = holds

  entries-unnamed : (name : List ℕ) (content : Content) → good (entries_of content) → good (entries_of (unnamed name content))
  entries-unnamed name (Directory entries) holds = keeps.removes name entries holds
  entries-unnamed name (Regular bytes) holds = holds
  entries-unnamed name (Link target) holds = holds

  entries-copied : (next : ℕ) (order : List ℕ) (content : Content) → good (entries_of content) → good (entries_of (copied_content next order content))
  entries-copied next order (Directory entries) holds = keeps.renumbers (copy_number next order) entries holds
  entries-copied next order (Regular bytes) holds = holds
  entries-copied next order (Link target) holds = holds

  pub entries-edited : (now : ℕ) (e : Edit) → Fits e → Changes (λ node. good (entries_of node.content)) (edited now e)
  entries-edited now (Resize size) fits node holds = entries-bytes good (resized size) node.content holds
  entries-edited now (Write offset bytes) fits node holds = entries-bytes good (written_at offset bytes) node.content holds
  entries-edited now (Entry name inode) fits node holds = entries-named name inode node.content fits holds
  entries-edited now (NoEntry name) fits node holds = entries-unnamed name node.content holds
  entries-edited now e fits node holds = holds

  entries-built : (now : ℕ) (new : NewNode) → good (entries_of (built now new).content)
  entries-built now (File mode uid gid) = keeps.none
  entries-built now (Folder mode uid gid) = keeps.none
  entries-built now (Symlink target uid gid) = keeps.none

  pub keeps_by_entries : (now : ℕ) → Keeps now (λ node. good (entries_of node.content))
  keeps_by_entries now = record {
    edits = entries-edited now;
    makes = λ new begins. entries-built now new;
    locks = λ node holds. holds;
    copies = λ next order node holds. entries-copied next order node.content holds;
  }
