-- One entry more in a directory that is touched.
use Rattle.std.proofs.Common.{◌≡◌, ℕ, List, [], map, Bool, true, false, Option, None, Some, refl, sym, ap, ◌∙◌, subst, eqb-true, eq-eqb}
use Rattle.std.specs.Prelude.{IsTrue, not, ◌==◌, is_some, option_map, unwrap_or}
use Rattle.std.specs.List.{list_any, filter_map}
use Rattle.std.specs.Cmp.{tied_itself}
use Rattle.std.proofs.lemmas.Cmp.{nat_list_cmp_total}
use Rattle.std.specs.Cmp.Lexicographic.{slice_cmp}
use Rattle.std.specs.FinMap.{nat_cmp-IsAntisymmetric, slice_cmp-IsAntisymmetric}
use Rattle.std.specs.Ordering.{nat_cmp, is_eq}
use Rattle.std.specs.BTreeMap.{insert_entry}
use Rattle.std.proofs.lemmas.Bool.{and_from}
use Rattle.s3_base.specs.declared.node_kind.Kind.TheVariants as kinds
use Rattle.plain_tree.specs.Tree as tree
use Rattle.plain_tree.specs.Tree.{Node, Tree, named, touched}
use Rattle.plain_tree.specs.Entries.{add_entry}
use Rattle.s3_rows.specs.declared.lists.NamedEntry.{NamedEntry}
use Rattle.s3_rows.specs.Rows.{Inode, Name, Content}
use Rattle.s3_rows.specs.Keyed.{rises, put, sorted_by}
use Rattle.s3_rows.specs.Tables.{Tables, by_entry, by_inode}
use Rattle.s3_rows.specs.Selections.{inode_at, name_at, bytes_of_name, bytes_cmp, with_entry_name, named_entries, by_entry_name}
use Rattle.row_lemmas.proofs.Tests.{false_from_not, is_eq-nat_cmp, list_all_from_list_any, pair_parts}
use Rattle.row_lemmas.proofs.Keyed.Put.{map-put_entry}
use Rattle.row_lemmas.proofs.Keyed.Filter.{filter-put_false}
use Rattle.row_lemmas.proofs.Keyed.Sorted.{sorted_by-put, IsApart}
use Rattle.tree_rows.specs.Shapes.{Regular, Directory, Link, NodeShape, shape_of_content, shape_of_node, node_of_row, content_of_row, entries_in, target_in, Represents}
use Rattle.tree_rows.proofs.Listed.{is_entry, is_in}
use Rattle.tree_rows.proofs.Whole.{content_of_kind}
use Rattle.row_steps.specs.RowChanges.{touched_row}
use Rattle.row_steps.proofs.Shape.Rows.{changed_represents}

-- the bytes of a row with its name
pub bytes_found : (c : Content) (found : Option Name) (y : NamedEntry) → option_map (λ (n : Name). let e : NamedEntry = record { row = c; name = n.name } in e) found ≡ Some y
    → unwrap_or (option_map (λ (n : Name). n.name) found) [] ≡ y.name
bytes_found c None y is = absurd (cc is)
bytes_found c (Some n) y is =
    let same : record { row = c; name = n.name } ≡ y = cc is in
    ap (λ (e : NamedEntry). e.name) same

pub found_bytes : (c : Content) (found : Option Name) → IsTrue (is_some found)
    → option_map (λ (n : Name). let e : NamedEntry = record { row = c; name = n.name } in e) found ≡ Some (record { row = c; name = unwrap_or (option_map (λ (n : Name). n.name) found) [] })
found_bytes c None is = absurd (cc is)
found_bytes c (Some n) is = refl

-- an entry more of a directory's content
named_shape : (content : tree.Content) (entries : List (List ℕ × ℕ)) (name : List ℕ) (inode : ℕ) → shape_of_content content ≡ Directory entries
    → shape_of_content (named name inode content) ≡ Directory (insert_entry (slice_cmp nat_cmp) entries name inode)
named_shape (tree.Directory own) entries name inode is =
    let same : own ≡ entries = cc is in
    ap (λ (es : List (List ℕ × ℕ)). Directory (insert_entry (slice_cmp nat_cmp) es name inode)) same
named_shape (tree.Regular bytes) entries name inode is = absurd (cc is)
named_shape (tree.Link target) entries name inode is = absurd (cc is)

module _ (t : Tables) (c : Content) where
  abbrev after : Tables
  after = record t { contents = put by_entry c t.contents }

  abbrev bytes : List ℕ
  bytes = bytes_of_name t c.name_id

  -- other directories keep their entries
  pub entries_other : (id : ℕ) → (c.parent == id) ≡ false → entries_in after id ≡ entries_in t id
  entries_other id other =
      ap (λ (rows : List Content). map (λ (e : NamedEntry). (e.name, e.row.inode)) (sorted_by by_entry_name (filter_map (with_entry_name t) rows)))
      (filter-put_false by_entry (is_in id) c t.contents other
      (λ x alike. ap (λ n. n == id) (sym (pair_parts (c.parent, c.name_id) (x.parent, x.name_id) (ap is_eq alike)).0) ∙ other))

  module _ (there : IsTrue (is_some (name_at t c.name_id))) (free : list_any (is_entry t c.parent bytes) t.contents ≡ false) where
    abbrev pub listed : NamedEntry
    listed = record { row = c; name = bytes }

    abbrev pub is_other : Content → Bool
    is_other x = not (is_entry t c.parent bytes x)

    not_named : (x : Content) → IsTrue (is_other x) → x.parent ≡ c.parent → bytes_of_name t x.name_id ≡ bytes → ⊥
    not_named x passes here text =
        let own : IsTrue (is_entry t c.parent bytes x) =
        and_from (x.parent == c.parent) (is_eq (bytes_cmp bytes (bytes_of_name t x.name_id))) (eq-eqb x.parent c.parent here)
        (ap (λ y. is_eq (bytes_cmp bytes y)) text ∙ ap is_eq (tied_itself nat_list_cmp_total bytes)) in
        let clash : false ≡ true = sym (false_from_not (is_entry t c.parent bytes x) passes) ∙ own in
        cc clash

    pub apart : (x : Content) → IsTrue (is_other x) → IsApart by_entry by_entry_name nat_list_cmp_total (with_entry_name t) (is_in c.parent) is_other c listed x
    apart x passes = (
      λ alike.
          let parts = pair_parts (c.parent, c.name_id) (x.parent, x.name_id) (ap is_eq alike) in
          not_named x passes (sym parts.0) (ap (bytes_of_name t) (sym parts.1)),
      λ here y is alike.
          not_named x passes (eqb-true x.parent c.parent here)
          (bytes_found x (name_at t x.name_id) y is ∙ slice_cmp-IsAntisymmetric nat_cmp-IsAntisymmetric y.name bytes alike),
    )

    -- the directory has one entry more
    pub entries_own : entries_in after c.parent ≡ insert_entry (slice_cmp nat_cmp) (entries_in t c.parent) bytes c.inode
    entries_own =
        let inode_of : NamedEntry → ℕ = λ e. e.row.inode in
        let more : named_entries after c.parent ≡ put by_entry_name listed (named_entries t c.parent) =
        sorted_by-put by_entry by_entry_name nat_list_cmp_total (with_entry_name t) (is_in c.parent) is_other c listed
        (eq-eqb c.parent c.parent refl) (found_bytes c (name_at t c.name_id) there) apart t.contents
        (list_all_from_list_any (is_entry t c.parent bytes) t.contents (ap not free)) in
        ap (map (λ (e : NamedEntry). (e.name, e.row.inode))) more
        ∙ map-put_entry by_entry_name (slice_cmp-IsAntisymmetric nat_cmp-IsAntisymmetric) inode_of listed (named_entries t c.parent)

    -- an entry is put and its directory touched
    pub Represents-put_content : (whole : Tree) (d : Inode) (now : ℕ) → IsTrue (rises by_inode t.inodes) → Represents t whole
        → d.id ≡ c.parent → inode_at t d.id ≡ Some d → d.kind ≡ kinds.Directory
        → Represents (record t { contents = put by_entry c t.contents; inodes = put by_inode (touched_row now d) t.inodes })
        (add_entry d.id bytes c.inode now whole)
    Represents-put_content whole d now rise same parent found kind =
        changed_represents t u whole d (touched_row now d) f refl refl rise same found others alike
      where
        u : Tables
        u = record t { contents = put by_entry c t.contents; inodes = put by_inode (touched_row now d) t.inodes }

        f : Node → Node
        f node = touched now (record node { content = named bytes c.inode node.content })

        others : (x : Inode) → is_eq (nat_cmp d.id x.id) ≡ false
            → node_of_row (record t { contents = put by_entry c t.contents; inodes = put by_inode (touched_row now d) t.inodes }) x ≡ node_of_row t x
        others x apart_ids =
            let entries : entries_in after x.id ≡ entries_in t x.id =
            entries_other x.id (ap (λ n. n == x.id) (sym parent) ∙ sym (is_eq-nat_cmp d.id x.id) ∙ apart_ids) in
            let content : content_of_row after x ≡ content_of_row t x =
            (λ i. elim x.kind [ kinds.Directory ↦ Directory (entries i) | kinds.Regular ↦ Regular x.size | kinds.Link ↦ Link (target_in t x.id) ]) in
            λ i. record (node_of_row t x) { content = content i }

        alike : (node : Node) → shape_of_node node ≡ node_of_row t d
            → shape_of_node (touched now (record node { content = named bytes c.inode node.content }))
            ≡ node_of_row (record t { contents = put by_entry c t.contents; inodes = put by_inode (touched_row now d) t.inodes }) (touched_row now d)
        alike node shape =
            let content : shape_of_content node.content ≡ Directory (entries_in t d.id) =
            ap (λ (s : NodeShape). s.content) shape ∙ ap (content_of_kind t d) kind in
            let own : entries_in after d.id ≡ insert_entry (slice_cmp nat_cmp) (entries_in t d.id) bytes c.inode =
            subst (λ id. entries_in after id ≡ insert_entry (slice_cmp nat_cmp) (entries_in t id) bytes c.inode) (sym parent) entries_own in
            let now_content : shape_of_content (named bytes c.inode node.content) ≡ content_of_row after (touched_row now d) =
            named_shape node.content (entries_in t d.id) bytes c.inode content ∙ ap Directory (sym own)
            ∙ ap (content_of_kind after (touched_row now d)) (sym kind) in
            λ i. record {
              mode = (ap (λ (s : NodeShape). s.mode) shape) i;
              uid = (ap (λ (s : NodeShape). s.uid) shape) i;
              gid = (ap (λ (s : NodeShape). s.gid) shape) i;
              mtime = now;
              ctime = now;
              locked = (ap (λ (s : NodeShape). s.locked) shape) i;
              attributes = (ap (λ (s : NodeShape). s.attributes) shape) i;
              content = now_content i;
            }
