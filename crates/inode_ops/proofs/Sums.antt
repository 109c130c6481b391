-- How many nodes, entries and bytes of regular files the tree of valid tables has.
use Rattle.std.proofs.Common.{◌≡◌, ℕ, List, [], ◌∷◌, length, Bool, true, false, cond, Option, None, Some, refl, sym, ap, ◌∙◌, subst, eqb-true}
use Rattle.std.specs.Prelude.{IsTrue, not, ◌==◌, is_some, count_by, sum_by, filter, map, option_map, unwrap_or}
use Rattle.std.specs.List.{list_all, AllByRecursion}
use Rattle.std.proofs.lemmas.List.{length-map}
use Rattle.std.proofs.lemmas.List.Sums.{length-filter}
use Rattle.std.proofs.lemmas.Cmp.{nat_list_cmp_total}
use Rattle.std.specs.Cmp.{nat_cmp_total}
use Rattle.std.specs.Ordering.{nat_cmp, is_eq}
use Rattle.s3_base.specs.declared.node_kind.Kind.{Kind}
use Rattle.s3_base.specs.declared.node_kind.Kind.TheVariants as kinds
use Rattle.op_frames.specs.declared.operation.Op.TheVariants as ops
use Rattle.op_frames.specs.declared.reply.Reply.TheVariants as replies
use Rattle.plain_tree.specs.Tree as tree
use Rattle.plain_tree.specs.Tree.{Node, Tree}
use Rattle.plain_tree.specs.Attributes.{at_most_u64, entries_in, bytes_in, entry_count, byte_count}
use Rattle.s3_rows.specs.declared.lists.NamedEntry.{NamedEntry}
use Rattle.s3_rows.specs.declared.table_rows.Row.TheVariants as rows
use Rattle.s3_rows.specs.declared.table_rows.TableName.TheVariants as tables
use Rattle.s3_rows.specs.Rows.{Inode, Content}
use Rattle.s3_rows.specs.Keyed.{rises, sorted_by}
use Rattle.s3_rows.specs.Tables.{Tables, by_inode}
use Rattle.s3_rows.specs.Selections.{inode_at, named_entries, by_entry_name, rows_of}
use Rattle.s3_rows.specs.Validity.{IsValid, finds_of_entry, has_inode, is_directory, is_regular, any_kind, have_one_name, differ}
use Rattle.tree_rows.specs.Shapes as shapes
use Rattle.tree_rows.specs.Shapes.{ContentShape, NodeShape, TreeShape, shape_of_content, shape_of_node, node_of_row, Represents}
use Rattle.tree_rows.proofs.Listed.{named, is_in, filter_map-with_entry_name, differ-named}
use Rattle.tree_rows.proofs.Whole.{content_of_kind}
use Rattle.ref_counts.specs.Plans.{IsPlanOf}
use Rattle.inode_ops.specs.declared.counting.Tally.{Tally}
use Rattle.inode_ops.specs.Tallies.{IsCounted, weight_of_row}
use Rattle.inode_ops.proofs.Planned.{idle_planned}
use Rattle.ref_counts.specs.Answers.{answer_plan}
use Rattle.op_frames.specs.declared.reply.Reply.{Reply}
use Rattle.s3_base.specs.declared.errors.Errno.{Errno}
use Rattle.std.specs.Prelude.{Result, Ok}
use Rattle.std.proofs.lemmas.Bool.{and_parts}
use Rattle.row_lemmas.proofs.Tests.{list_all_weaker, false_from_not, is_eq-nat_cmp}
use Rattle.row_lemmas.proofs.Sums.{sum_by-map, sum_by_agree, sum_by_comm, count_by_none, count_by_true}
use Rattle.row_lemmas.proofs.Keyed.RowAt.{row_at_own}
use Rattle.row_lemmas.proofs.Keyed.Count.{count_by-has_key_there}
use Rattle.row_lemmas.proofs.Keyed.Sorted.{count_by-sorted_by}

-- ---- over shapes

abbrev entries_in_shape : ContentShape → ℕ
entries_in_shape (shapes.Directory entries) = length entries
entries_in_shape (shapes.Regular size) = 0
entries_in_shape (shapes.Link target) = 0

abbrev bytes_in_shape : ContentShape → ℕ
bytes_in_shape (shapes.Directory entries) = 0
bytes_in_shape (shapes.Regular size) = size
bytes_in_shape (shapes.Link target) = 0

entries_alike : (content : tree.Content) → entries_in content ≡ entries_in_shape (shape_of_content content)
entries_alike (tree.Regular bytes) = refl
entries_alike (tree.Directory entries) = refl
entries_alike (tree.Link target) = refl

bytes_alike : (content : tree.Content) → bytes_in content ≡ bytes_in_shape (shape_of_content content)
bytes_alike (tree.Regular bytes) = refl
bytes_alike (tree.Directory entries) = refl
bytes_alike (tree.Link target) = refl

-- a sum over nodes is one over rows
module _ (t : Tables) (whole : Tree) (same : Represents t whole) where
  pub over_nodes : (f : Node → ℕ) (g : NodeShape → ℕ) → ((node : Node) → f node ≡ g (shape_of_node node))
      → sum_by (λ (e : ℕ × Node). f e.1) whole.nodes ≡ sum_by (λ (r : Inode). g (node_of_row t r)) t.inodes
  over_nodes f g alike =
      let of_shape : ℕ × NodeShape → ℕ = λ e. g e.1 in
      let made : Inode → ℕ × NodeShape = λ r. (r.id, node_of_row t r) in
      let shaped : ℕ × Node → ℕ × NodeShape = λ e. (e.0, shape_of_node e.1) in
      let of_node : ℕ × Node → ℕ = λ e. f e.1 in
      let of_shaped : ℕ × Node → ℕ = λ e. g (shape_of_node e.1) in
      let each : of_node ≡ of_shaped = λ i e. alike e.1 i in
      ap (λ (h : ℕ × Node → ℕ). sum_by h whole.nodes) each ∙ sym (sum_by-map of_shape shaped whole.nodes) ∙ ap (λ (s : TreeShape). sum_by of_shape s.nodes) (sym same) ∙ sum_by-map of_shape made t.inodes

  pub over_rows : (f : tree.Content → ℕ) (g : ContentShape → ℕ) → ((content : tree.Content) → f content ≡ g (shape_of_content content))
      → sum_by (λ (e : ℕ × Node). f e.1.content) whole.nodes ≡ sum_by (λ (r : Inode). g (node_of_row t r).content) t.inodes
  over_rows f g alike = over_nodes (λ (node : Node). f node.content) (λ (s : NodeShape). g s.content) (λ node. alike node.content)

  -- ---- nodes

  pub nodes_are : length whole.nodes ≡ length (rows_of t tables.Inodes)
  nodes_are =
      let made : Inode → ℕ × NodeShape = λ r. (r.id, node_of_row t r) in
      let shaped : ℕ × Node → ℕ × NodeShape = λ e. (e.0, shape_of_node e.1) in
      sym (length-map whole.nodes shaped) ∙ ap (λ (s : TreeShape). length s.nodes) (sym same) ∙ length-map t.inodes made ∙ sym (length-map t.inodes rows.Inode)

  -- ---- bytes

  pub bytes_are : byte_count whole ≡ sum_by weight_of_row (rows_of t tables.Inodes)
  bytes_are =
      let by_shape : Inode → ℕ = λ r. bytes_in_shape (node_of_row t r).content in
      let by_row : Inode → ℕ = λ r. weight_of_row (rows.Inode r) in
      let each : by_shape ≡ by_row = λ i r. bytes_of_kind r r.kind i in
      over_rows bytes_in bytes_in_shape bytes_alike ∙ ap (λ (h : Inode → ℕ). sum_by h t.inodes) each ∙ sym (sum_by-map weight_of_row rows.Inode t.inodes)
    where
      bytes_of_kind : (r : Inode) (kind : Kind) → bytes_in_shape (content_of_kind t r kind) ≡ cond (is_regular kind) r.size 0
      bytes_of_kind r kinds.Directory = refl
      bytes_of_kind r kinds.Regular = refl
      bytes_of_kind r kinds.Link = refl

-- ---- entries

abbrev always : {X : Type 0} → X → Bool
always x = true

module _ (t : Tables) (finds : IsTrue (list_all (finds_of_entry t) t.contents)) (unlike : IsTrue (differ (have_one_name t) t.contents)) (rise : IsTrue (rises by_inode t.inodes)) where
  -- a directory is listed with as many entries as it has rows
  entries_listed : (parent : ℕ) → length (shapes.entries_in t parent) ≡ count_by (is_in parent) t.contents
  entries_listed parent =
      let pair_of : NamedEntry → List ℕ × ℕ = λ e. (e.name, e.row.inode) in
      let found : List NamedEntry = map (named t) (filter (is_in parent) t.contents) in
      let any : NamedEntry → Bool = λ e. true in
      length-map (named_entries t parent) pair_of ∙ ap (λ es. length (sorted_by by_entry_name es)) (filter_map-with_entry_name t parent t.contents finds)
      ∙ sym (count_by_true (sorted_by by_entry_name found)) ∙ count_by-sorted_by by_entry_name nat_list_cmp_total any found (differ-named t parent t.contents unlike) ∙ count_by_true found
      ∙ length-map (filter (is_in parent) t.contents) (named t) ∙ length-filter (is_in parent) t.contents

  -- the parent of a row is a directory
  folder_of : (c : Content) → IsTrue (finds_of_entry t c) → IsTrue (has_inode is_directory t c.parent)
  folder_of c found = (and_parts (has_inode is_directory t c.parent) _ (and_parts _ (has_inode any_kind t c.inode) found).0).0

  pub no_parent : (r : Inode) → inode_at t r.id ≡ Some r → IsTrue (not (is_directory r.kind)) → (c : Content) → IsTrue (finds_of_entry t c) → IsTrue (not (is_in r.id c))
  no_parent r there other c found = by_case (c.parent == r.id) refl
    where
      by_case : (b : Bool) → (c.parent == r.id) ≡ b → IsTrue (not b)
      by_case false is = refl
      by_case true is =
          let here : IsTrue (has_inode is_directory t r.id) = subst (λ p. IsTrue (has_inode is_directory t p)) (eqb-true c.parent r.id is) (folder_of c found) in
          let own : IsTrue (is_directory r.kind) = subst (λ (row : Option Inode). IsTrue (elim row [ Some x ↦ is_directory x.kind | None ↦ false ])) there here in
          let clash : false ≡ true = sym (false_from_not (is_directory r.kind) other) ∙ own in
          absurd (cc clash)

  of_row : (r : Inode) → inode_at t r.id ≡ Some r → entries_in_shape (node_of_row t r).content ≡ count_by (is_in r.id) t.contents
  of_row r there = by_kind r.kind refl
    where
      none : IsTrue (not (is_directory r.kind)) → 0 ≡ count_by (is_in r.id) t.contents
      none other = sym (count_by_none (is_in r.id) t.contents (list_all_weaker (finds_of_entry t) (λ c. not (is_in r.id c)) (no_parent r there other) t.contents finds))

      by_kind : (kind : Kind) → r.kind ≡ kind → entries_in_shape (content_of_kind t r kind) ≡ count_by (is_in r.id) t.contents
      by_kind kinds.Directory is = entries_listed r.id
      by_kind kinds.Regular is = none (ap (λ k. not (is_directory k)) is)
      by_kind kinds.Link is = none (ap (λ k. not (is_directory k)) is)

  each_row : (rows : List Inode) → AllByRecursion (λ r. inode_at t r.id ≡ Some r) rows → AllByRecursion (λ r. entries_in_shape (node_of_row t r).content ≡ count_by (is_in r.id) t.contents) rows
  each_row [] there = tt
  each_row (r ∷ rs) there = (of_row r there.0, each_row rs there.1)

  -- an entry counts once among all directories
  once : (c : Content) → IsTrue (finds_of_entry t c) → sum_by (λ (r : Inode). cond (is_in r.id c) 1 0) t.inodes ≡ 1
  once c found =
      let below : Inode → Bool = λ r. c.parent == r.id in
      let has : Inode → Bool = λ r. is_eq (nat_cmp c.parent r.id) in
      let alike : below ≡ has = λ i r. sym (is_eq-nat_cmp c.parent r.id) i in
      ap (λ (p : Inode → Bool). count_by p t.inodes) alike ∙ count_by-has_key_there by_inode nat_cmp_total c.parent t.inodes rise (parent_there (inode_at t c.parent) (folder_of c found))
    where
      parent_there : (row : Option Inode) → IsTrue (elim row [ Some r ↦ is_directory r.kind | None ↦ false ]) → IsTrue (is_some row)
      parent_there None is = absurd (cc is)
      parent_there (Some r) is = refl

  each_entry : (cs : List Content) → IsTrue (list_all (finds_of_entry t) cs) → AllByRecursion (λ c. sum_by (λ (r : Inode). cond (is_in r.id c) 1 0) t.inodes ≡ 1) cs
  each_entry [] found = tt
  each_entry (c ∷ cs) found = (once c (and_parts (finds_of_entry t c) (list_all (finds_of_entry t) cs) found).0, each_entry cs (and_parts (finds_of_entry t c) (list_all (finds_of_entry t) cs) found).1)

  entries_are_rows : (whole : Tree) → Represents t whole → entry_count whole ≡ length t.contents
  entries_are_rows whole same =
      let by_shape : Inode → ℕ = λ r. entries_in_shape (node_of_row t r).content in
      let counted : Inode → ℕ = λ r. count_by (is_in r.id) t.contents in
      let one : Inode → Content → ℕ = λ r c. cond (is_in r.id c) 1 0 in
      let in_all : Content → ℕ = λ c. sum_by (λ (r : Inode). cond (is_in r.id c) 1 0) t.inodes in
      let own : Content → ℕ = λ c. 1 in
      over_rows t whole same entries_in entries_in_shape entries_alike
      ∙ sum_by_agree by_shape counted t.inodes (each_row t.inodes (row_at_own by_inode nat_cmp_total t.inodes rise))
      ∙ sum_by_comm one t.inodes t.contents
      ∙ sum_by_agree in_all own t.contents (each_entry t.contents finds)
      ∙ count_by_true t.contents

pub entries_are : (t : Tables) (whole : Tree) → IsValid t → Represents t whole → entry_count whole ≡ length (rows_of t tables.Contents)
entries_are t whole v same = entries_are_rows t v.rows.entries v.tree.unlike v.ordered.inodes whole same ∙ sym (length-map t.contents rows.Content)

-- ---- statfs

pub stat_planned : (t : Tables) (whole : Tree) (pass now block_size : ℕ) (inodes entries : Tally) (replied : Result Reply Errno) → IsValid t → Represents t whole
    → block_size ≡ unwrap_or (option_map (λ p. p.block_size) t.params) 0 → IsCounted (rows_of t tables.Inodes) inodes → IsCounted (rows_of t tables.Contents) entries
    → replied ≡ Ok (replies.Stat block_size inodes.rows entries.rows inodes.weight) → IsPlanOf t whole pass ops.Statfs now (answer_plan replied)
stat_planned t whole pass now block_size inodes entries replied v same size of_inodes of_entries is =
    let sizes : block_size ≡ whole.block_size = size ∙ ap (λ (s : TreeShape). s.block_size) same in
    let nodes : inodes.rows ≡ at_most_u64 (length whole.nodes) = of_inodes.0 ∙ ap at_most_u64 (sym (nodes_are t whole same)) in
    let names : entries.rows ≡ at_most_u64 (entry_count whole) = of_entries.0 ∙ ap at_most_u64 (sym (entries_are t whole v same)) in
    let bytes : inodes.weight ≡ at_most_u64 (byte_count whole) = of_inodes.1 ∙ ap at_most_u64 (sym (bytes_are t whole same)) in
    subst (λ (r : Result Reply Errno). IsPlanOf t whole pass ops.Statfs now (answer_plan r)) (sym is)
    (idle_planned t whole pass ops.Statfs now (Ok (replies.Stat block_size inodes.rows entries.rows inodes.weight)) None v same refl refl (λ i. replies.Stat (sizes i) (nodes i) (names i) (bytes i)) refl refl)
