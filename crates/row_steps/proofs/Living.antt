-- Which nodes entries and handles keep, by the counts of rows.
use Rattle.std.proofs.Common.{◌≡◌, ◌≢◌, ℕ, ◌+◌, List, [], ◌∷◌, Bool, true, false, cond, Option, None, Some, refl, sym, ap, ◌∙◌, arith, eqb-true, eq-eqb, ltb-false, ltb-true}
use Rattle.std.specs.Prelude.{IsTrue, nat_lt, not, ◌||◌, ◌==◌, count_by, sum_by}
use Rattle.std.specs.List.{list_all, list_any}
use Rattle.std.specs.Map.{remove_entry, set_value}
use Rattle.std.specs.BTreeMap.{is_at}
use Rattle.std.specs.Ordering.{nat_cmp}
use Rattle.std.proofs.lemmas.Bool.{and_from, and_parts}
use Rattle.std.proofs.lemmas.List.Sums.{sum_by-cons}
use Rattle.s3_base.specs.Numbers.{root}
use Rattle.plain_tree.specs.Tree as tree
use Rattle.plain_tree.specs.Tree.{Handle, Node, Tree, changed_by, change_node, node_at, without_node}
use Rattle.plain_tree.specs.Attributes.{names_in}
use Rattle.plain_tree.specs.Entries.{entries_of, is_named, is_open}
use Rattle.plain_tree.specs.WellFormed.{entries_naming}
use Rattle.s3_rows.specs.Rows.{Inode, Content, Parameters}
use Rattle.s3_rows.specs.Keyed.{put}
use Rattle.s3_rows.specs.Tables.{Tables, by_inode}
use Rattle.s3_rows.specs.Selections.{inode_at}
use Rattle.s3_rows.specs.Counts.{listed_inode_count}
use Rattle.s3_rows.specs.Validity.{IsValid, any_kind, finds_of_entry, has_inode}
use Rattle.row_lemmas.proofs.Tests.{list_all_weaker, list_all_weaker_both}
use Rattle.tree_rows.specs.Premises.{finds_directory_and_name}
use Rattle.tree_rows.specs.Shapes.{Represents}
use Rattle.tree_rows.proofs.Rooted.{link_count_is, stored_count}
use Rattle.tree_rows.proofs.Whole.{count_is}
use Rattle.row_steps.specs.Owed.{Owes}
use Rattle.row_steps.proofs.Owed.Inodes.{Keeps-put_there}

-- ---- an inode is named where some entry names it

some_of_two : (a b : ℕ) → (not (a == 0) || not (b == 0)) ≡ not (a + b == 0)
some_of_two a b = by_case (a == 0) refl (b == 0) refl (a + b == 0) refl
  where
    no_zero : {X : Type 0} (n : ℕ) → n ≡ 0 → (n == 0) ≡ false → X
    no_zero n none some =
        let clash : true ≡ false = sym (eq-eqb n 0 none) ∙ some in
        absurd (cc clash)

    by_case : (x : Bool) → (a == 0) ≡ x → (y : Bool) → (b == 0) ≡ y → (z : Bool) → (a + b == 0) ≡ z → (not x || not y) ≡ not z
    by_case true one true two true both = refl
    by_case true one true two false both = no_zero (a + b) (omega (arith, eqb-true a 0 one, eqb-true b 0 two)) both
    by_case true one false two true both = no_zero b (omega (arith, eqb-true (a + b) 0 both)) two
    by_case true one false two false both = refl
    by_case false one y two true both = no_zero a (omega (arith, eqb-true (a + b) 0 both)) one
    by_case false one y two false both = refl

list_any-sum_by : {X : Type 0} (f : X → Bool) (g : X → ℕ) → ((x : X) → f x ≡ not (g x == 0)) → (xs : List X) → list_any f xs ≡ not (sum_by g xs == 0)
list_any-sum_by f g same [] = refl
list_any-sum_by f g same (x ∷ xs) =
    (λ i. same x i || list_any-sum_by f g same xs i) ∙ some_of_two (g x) (sum_by g xs) ∙ ap (λ n. not (n == 0)) (sym (sum_by-cons g x xs))

named_in : (inode : ℕ) (content : tree.Content) → list_any (λ entry. entry.1 == inode) (entries_of content) ≡ not (names_in inode content == 0)
named_in inode (tree.Directory entries) =
    list_any-sum_by (λ (entry : List ℕ × ℕ). entry.1 == inode) (λ entry. cond (entry.1 == inode) 1 0) (λ entry. by_case (entry.1 == inode)) entries
  where
    by_case : (b : Bool) → b ≡ not (cond {A = ℕ} b 1 0 == 0)
    by_case true = refl
    by_case false = refl
named_in inode (tree.Regular bytes) = refl
named_in inode (tree.Link target) = refl

pub is_named-entries_naming : (whole : Tree) (inode : ℕ) → is_named whole inode ≡ not (entries_naming whole inode == 0)
is_named-entries_naming whole inode =
    list_any-sum_by (λ (e : ℕ × Node). list_any (λ entry. entry.1 == inode) (entries_of e.1.content)) (λ e. names_in inode e.1.content) (λ e. named_in inode e.1.content) whole.nodes

-- one link less is some where more than one was
pub some_left : (a b : ℕ) → a ≡ b + 1 → not (b == 0) ≡ nat_lt 1 a
some_left a b is = by_case (b == 0) refl (nat_lt 1 a) refl
  where
    by_case : (x : Bool) → (b == 0) ≡ x → (y : Bool) → nat_lt 1 a ≡ y → not x ≡ y
    by_case true none true more = absurd (omega (arith, is, eqb-true b 0 none, ltb-true 1 a more))
    by_case true none false less = refl
    by_case false some true more = refl
    by_case false some false less =
        let none : b ≡ 0 = omega (arith, is, ltb-false 1 a less) in
        let clash : true ≡ false = sym (eq-eqb b 0 none) ∙ some in
        absurd (cc clash)

-- ---- of tables that owe

-- the inodes of entries have rows
abbrev pub FindsChildren : Tables → Type 0
FindsChildren t = IsTrue (list_all (λ (c : Content). has_inode any_kind t c.inode) t.contents)

pub is_named-owes : (t : Tables) (p : Parameters) (links uses : List ℕ) (whole : Tree) (x : ℕ) → Owes t p links uses → FindsChildren t → Represents t whole
    → (x == root) ≡ false → is_named whole x ≡ not (listed_inode_count t x == 0)
is_named-owes t p links uses whole x o children same other =
    let finds : IsTrue (list_all (finds_of_entry t) t.contents) =
    list_all_weaker_both (finds_directory_and_name t) (λ (c : Content). has_inode any_kind t c.inode) (finds_of_entry t)
    (λ c a b. and_from (finds_directory_and_name t c) (has_inode any_kind t c.inode) a b) t.contents o.rows.entries children in
    is_named-entries_naming whole x
    ∙ ap (λ n. not (n == 0)) (count_is t finds o.unlike o.ordered.inodes whole same x)
    ∙ ap (λ b. not (cond b 1 (count_by (λ (c : Content). c.inode == x) t.contents) == 0)) (sym other)

pub FindsChildren-put : (t : Tables) (r new : Inode) → inode_at t new.id ≡ Some r → new.kind ≡ r.kind → new.size ≡ r.size → FindsChildren t
    → FindsChildren (record t { inodes = put by_inode new t.inodes })
FindsChildren-put t r new there kind size children =
    list_all_weaker (λ (c : Content). has_inode any_kind t c.inode) (λ (c : Content). has_inode any_kind (record t { inodes = put by_inode new t.inodes }) c.inode)
    (λ c own. Keeps-put_there t r new there kind size (λ kind size. any_kind kind) c.inode refl own) t.contents children

-- ---- of valid tables

pub FindsChildren-IsValid : (t : Tables) → IsValid t → FindsChildren t
FindsChildren-IsValid t v =
    list_all_weaker (finds_of_entry t) (λ (c : Content). has_inode any_kind t c.inode)
    (λ c own. (and_parts (finds_directory_and_name t c) (has_inode any_kind t c.inode) own).1) t.contents v.rows.entries

-- a node is the root, or an entry names it, where its row counts one
pub kept-refcount : (t : Tables) (whole : Tree) (x : ℕ) (r : Inode) → IsValid t → Represents t whole → inode_at t x ≡ Some r
    → (x == root || is_named whole x) ≡ not (r.refcount == 0)
kept-refcount t whole x r v same there = by_case (x == root) refl
  where
    by_case : (b : Bool) → (x == root) ≡ b → (b || is_named whole x) ≡ not (r.refcount == 0)
    by_case true here =
        let number : x ≡ root = eqb-true x root here in
        let count : r.refcount ≡ 1 = stored_count t root r v (ap (inode_at t) (sym number) ∙ there) in
        sym (ap (λ n. not (n == 0)) count)
    by_case false here =
        is_named-entries_naming whole x ∙ ap (λ n. not (n == 0)) (sym (link_count_is t whole x r v same there other))
      where
        other : x ≢ root
        other equal =
            let clash : true ≡ false = sym (eq-eqb x root equal) ∙ here in
            cc clash

-- ---- handles

pub is_open-change_node : (f : Node → Node) (i x : ℕ) (whole : Tree) → is_open (change_node i f whole) x ≡ is_open whole x
is_open-change_node f i x whole = ap (λ (handles : List (ℕ × Handle)). list_any (λ h. h.1.inode == x) handles) (handles (node_at whole i))
  where
    handles : (found : Option Node) → (changed_by f found i whole).handles ≡ whole.handles
    handles None = refl
    handles (Some node) = refl

-- ---- a node that is changed before it goes

remove_entry-set_value : (test : ℕ → Bool) (es : List (ℕ × Node)) (w : Node) → remove_entry test (set_value test es w) ≡ remove_entry test es
remove_entry-set_value test [] w = refl
remove_entry-set_value test (e ∷ es) w = by_case (remove_entry-set_value test es w) (test e.0) refl
  where
    by_case : remove_entry test (set_value test es w) ≡ remove_entry test es → (b : Bool) → test e.0 ≡ b
        → remove_entry test (cond b ((e.0, w) ∷ es) (e ∷ set_value test es w)) ≡ cond b es (e ∷ remove_entry test es)
    by_case others true is = ap (λ c. cond c es ((e.0, w) ∷ remove_entry test es)) is
    by_case others false is =
        ap (λ c. cond c (set_value test es w) (e ∷ remove_entry test (set_value test es w))) is ∙ ap (λ xs. e ∷ xs) others

pub without_node-change_node : (f : Node → Node) (inode : ℕ) (whole : Tree) → without_node inode (change_node inode f whole) ≡ without_node inode whole
without_node-change_node f inode whole = by_node (node_at whole inode)
  where
    by_node : (found : Option Node) → without_node inode (changed_by f found inode whole) ≡ without_node inode whole
    by_node None = refl
    by_node (Some node) = ap (λ (es : List (ℕ × Node)). record whole { nodes = es }) (remove_entry-set_value (is_at (nat_cmp inode)) whole.nodes (f node))
