-- One entry less in a directory that is touched, and one node less.
use Rattle.std.proofs.Common.{◌≡◌, ℕ, List, [], ◌∷◌, map, Bool, true, false, cond, Some, refl, sym, ap, ◌∙◌, subst, eq-eqb}
use Rattle.std.specs.Prelude.{IsTrue, not, ◌&&◌, ◌==◌, is_some, filter}
use Rattle.std.specs.List.{list_all, list_any, filter_map}
use Rattle.std.specs.Map.{remove_entry}
use Rattle.std.specs.Cmp.{nat_cmp_total}
use Rattle.std.proofs.lemmas.Cmp.{nat_list_cmp_total}
use Rattle.std.specs.Cmp.Lexicographic.{slice_cmp}
use Rattle.std.specs.Ordering.{nat_cmp, is_eq}
use Rattle.std.specs.BTreeMap.{is_at}
use Rattle.s3_base.specs.declared.node_kind.Kind.TheVariants as kinds
use Rattle.plain_tree.specs.Tree as tree
use Rattle.plain_tree.specs.Tree.{Node, Tree, touched, without_node}
use Rattle.plain_tree.specs.Entries.{drop_entry, unnamed}
use Rattle.s3_rows.specs.declared.lists.NamedEntry.{NamedEntry}
use Rattle.s3_rows.specs.Rows.{Inode, Content}
use Rattle.s3_rows.specs.Keyed.{rises, put, sorted_by, without}
use Rattle.s3_rows.specs.Tables.{Tables, by_entry, by_inode}
use Rattle.s3_rows.specs.Selections.{inode_at, name_at, entry_at, bytes_of_name, bytes_cmp, with_entry_name, named_entries, by_entry_name}
use Rattle.s3_rows.specs.Validity.{differ, have_one_name}
use Rattle.row_lemmas.proofs.Tests.{eqb_comm, false_from_not, is_eq-nat_cmp, list_all_weaker, list_any_from_list_all, pair_parts}
use Rattle.row_lemmas.proofs.Keyed.Filter.{filter-without_false}
use Rattle.row_lemmas.proofs.Keyed.Sorted.{rises-sorted_by, sorted_by-without}
use Rattle.row_lemmas.proofs.Keyed.Without.{list_all-without_unlike, map-without_entry}
use Rattle.row_lemmas.proofs.Tables.{pair_cmp_total}
use Rattle.tree_rows.specs.Shapes.{Regular, Directory, Link, NodeShape, TreeShape, shape_of_content, shape_of_node, shape_of_tables, node_of_row, content_of_row, entries_in, target_in, Represents}
use Rattle.tree_rows.proofs.Listed.{is_entry, is_in}
use Rattle.tree_rows.proofs.Whole.{content_of_kind}
use Rattle.row_steps.specs.RowChanges.{touched_row}
use Rattle.row_steps.proofs.Owed.Contents.{bytes_turned}
use Rattle.row_steps.proofs.Shape.Entries.{apart, found_bytes, is_other, listed}
use Rattle.row_steps.proofs.Shape.Rows.{changed_represents, row_shape, shaped}

-- an entry less of a directory's content
unnamed_shape : (content : tree.Content) (entries : List (List ℕ × ℕ)) (name : List ℕ) → shape_of_content content ≡ Directory entries
    → shape_of_content (unnamed name content) ≡ Directory (remove_entry (is_at (slice_cmp nat_cmp name)) entries)
unnamed_shape (tree.Directory own) entries name is =
    let same : own ≡ entries = cc is in
    ap (λ (es : List (List ℕ × ℕ)). Directory (remove_entry (is_at (slice_cmp nat_cmp name)) es)) same
unnamed_shape (tree.Regular bytes) entries name is = absurd (cc is)
unnamed_shape (tree.Link target) entries name is = absurd (cc is)

-- ---- one entry less

module _ (t : Tables) (c : Content) (rise : IsTrue (rises by_entry t.contents)) (unlike : IsTrue (differ (have_one_name t) t.contents))
    (there : entry_at t c.parent c.name_id ≡ Some c) (named : IsTrue (is_some (name_at t c.name_id))) where
  abbrev rows : List Content
  rows = without by_entry (c.parent, c.name_id) t.contents

  abbrev after : Tables
  after = record t { contents = rows }

  abbrev bytes : List ℕ
  bytes = bytes_of_name t c.name_id

  none : IsTrue (list_all (λ x. not (is_entry t c.parent bytes x)) rows)
  none =
      list_all_weaker (λ x. not (have_one_name t c x)) (λ x. not (is_entry t c.parent bytes x))
      (λ x apart. ap (λ b. not (b && is_eq (bytes_cmp bytes (bytes_of_name t x.name_id)))) (eqb_comm x.parent c.parent) ∙ apart)
      rows
      (list_all-without_unlike by_entry (have_one_name t)
      (λ a b i. eqb_comm a.parent b.parent i && bytes_turned (bytes_of_name t a.name_id) (bytes_of_name t b.name_id) i)
      (c.parent, c.name_id) c t.contents unlike there)

  free : list_any (is_entry t c.parent bytes) rows ≡ false
  free = false_from_not (list_any (is_entry t c.parent bytes) rows) (list_any_from_list_all (is_entry t c.parent bytes) rows none)

  entries_rest : (id : ℕ) → (c.parent == id) ≡ false → entries_in after id ≡ entries_in t id
  entries_rest id other =
      ap (λ (cs : List Content). map (λ (e : NamedEntry). (e.name, e.row.inode)) (sorted_by by_entry_name (filter_map (with_entry_name t) cs)))
      (filter-without_false by_entry (is_in id) (c.parent, c.name_id) t.contents
      (λ x own. ap (λ n. n == id) (sym (pair_parts (c.parent, c.name_id) (x.parent, x.name_id) own).0) ∙ other))

  entries_gone : entries_in after c.parent ≡ remove_entry (is_at (slice_cmp nat_cmp bytes)) (entries_in t c.parent)
  entries_gone =
      let inode_of : NamedEntry → ℕ = λ e. e.row.inode in
      let less : named_entries after c.parent ≡ without by_entry_name bytes (named_entries t c.parent) =
      sorted_by-without by_entry by_entry_name pair_cmp_total nat_list_cmp_total (with_entry_name t) (is_in c.parent) (is_other after c named free) c (listed after c named free)
      (eq-eqb c.parent c.parent refl) (found_bytes c (name_at t c.name_id) named) (apart after c named free) t.contents rise there none in
      ap (map (λ (e : NamedEntry). (e.name, e.row.inode))) less
      ∙ map-without_entry by_entry_name nat_list_cmp_total inode_of bytes (named_entries t c.parent)
      (rises-sorted_by by_entry_name nat_list_cmp_total (filter_map (with_entry_name t) (filter (is_in c.parent) t.contents)))

  -- an entry is deleted and its directory touched
  pub Represents-without_content : (whole : Tree) (d : Inode) (now : ℕ) → IsTrue (rises by_inode t.inodes) → Represents t whole
      → d.id ≡ c.parent → inode_at t d.id ≡ Some d → d.kind ≡ kinds.Directory
      → Represents (record t { contents = rows; inodes = put by_inode (touched_row now d) t.inodes }) (drop_entry d.id bytes now whole)
  Represents-without_content whole d now rise_inodes same parent found kind =
      changed_represents t (record t { contents = rows; inodes = put by_inode (touched_row now d) t.inodes }) whole d (touched_row now d)
      (λ node. touched now (record node { content = unnamed bytes node.content })) refl refl rise_inodes same found others alike
    where
      others : (x : Inode) → is_eq (nat_cmp d.id x.id) ≡ false
          → node_of_row (record t { contents = rows; inodes = put by_inode (touched_row now d) t.inodes }) x ≡ node_of_row t x
      others x apart_ids =
          let entries : entries_in after x.id ≡ entries_in t x.id =
          entries_rest x.id (ap (λ n. n == x.id) (sym parent) ∙ sym (is_eq-nat_cmp d.id x.id) ∙ apart_ids) in
          let content : content_of_row after x ≡ content_of_row t x =
          (λ i. elim x.kind [ kinds.Directory ↦ Directory (entries i) | kinds.Regular ↦ Regular x.size | kinds.Link ↦ Link (target_in t x.id) ]) in
          λ i. record (node_of_row t x) { content = content i }

      alike : (node : Node) → shape_of_node node ≡ node_of_row t d
          → shape_of_node (touched now (record node { content = unnamed bytes node.content }))
          ≡ node_of_row (record t { contents = rows; inodes = put by_inode (touched_row now d) t.inodes }) (touched_row now d)
      alike node shape =
          let content : shape_of_content node.content ≡ Directory (entries_in t d.id) =
          ap (λ (s : NodeShape). s.content) shape ∙ ap (content_of_kind t d) kind in
          let own : entries_in after d.id ≡ remove_entry (is_at (slice_cmp nat_cmp bytes)) (entries_in t d.id) =
          subst (λ id. entries_in after id ≡ remove_entry (is_at (slice_cmp nat_cmp bytes)) (entries_in t id)) (sym parent) entries_gone in
          let now_content : shape_of_content (unnamed bytes node.content) ≡ content_of_row after (touched_row now d) =
          unnamed_shape node.content (entries_in t d.id) bytes content ∙ ap Directory (sym own)
          ∙ ap (content_of_kind after (touched_row now d)) (sym kind) in
          λ i. record {
            mode = (ap (λ (s : NodeShape). s.mode) shape) i;
            uid = (ap (λ (s : NodeShape). s.uid) shape) i;
            gid = (ap (λ (s : NodeShape). s.gid) shape) i;
            mtime = now;
            ctime = now;
            locked = (ap (λ (s : NodeShape). s.locked) shape) i;
            attributes = (ap (λ (s : NodeShape). s.attributes) shape) i;
            content = now_content i;
          }

-- ---- one node less

shaped-remove : (test : ℕ → Bool) (es : List (ℕ × Node)) → map shaped (remove_entry test es) ≡ remove_entry test (map shaped es)
shaped-remove test [] = refl
shaped-remove test (e ∷ es) = by_case (shaped-remove test es) (test e.0)
  where
    by_case : map shaped (remove_entry test es) ≡ remove_entry test (map shaped es) → (b : Bool)
        → map shaped (cond b es (e ∷ remove_entry test es)) ≡ cond b (map shaped es) (shaped e ∷ remove_entry test (map shaped es))
    by_case others true = refl
    by_case others false = ap (λ xs. shaped e ∷ xs) others

pub Represents-without_inode : (t : Tables) (whole : Tree) (id : ℕ) → IsTrue (rises by_inode t.inodes) → Represents t whole
    → Represents (record t { inodes = without by_inode id t.inodes }) (without_node id whole)
Represents-without_inode t whole id rise same =
    let nodes : map (row_shape t) (without by_inode id t.inodes) ≡ map shaped (remove_entry (is_at (nat_cmp id)) whole.nodes) =
    map-without_entry by_inode nat_cmp_total (node_of_row t) id t.inodes rise ∙ ap (λ (s : TreeShape). remove_entry (is_at (nat_cmp id)) s.nodes) same
    ∙ sym (shaped-remove (is_at (nat_cmp id)) whole.nodes) in
    ap (λ (es : List (ℕ × NodeShape)). record (shape_of_tables t) { nodes = es }) nodes
    ∙ ap (λ (s : TreeShape). record s { nodes = map shaped (remove_entry (is_at (nat_cmp id)) whole.nodes) }) same
