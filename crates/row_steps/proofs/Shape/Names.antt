-- Other rows of names, with the bytes that entries and attributes have, leave the tree.
use Rattle.std.proofs.Common.{◌≡◌, ℕ, List, map, Bool, Option, None, Some, refl, sym, ap, ◌∙◌}
use Rattle.std.specs.Prelude.{IsTrue, ◌&&◌, ◌==◌, is_some, option_map}
use Rattle.std.specs.List.{list_all}
use Rattle.std.proofs.lemmas.Bool.{and_from, and_parts}
use Rattle.s3_base.specs.declared.node_kind.Kind.TheVariants as kinds
use Rattle.plain_tree.specs.Tree.{Tree}
use Rattle.s3_rows.specs.declared.lists.NamedEntry.{NamedEntry}
use Rattle.s3_rows.specs.declared.lists.NamedAttr.{NamedAttr}
use Rattle.s3_rows.specs.Rows.{Inode, Name, Content, Attr}
use Rattle.s3_rows.specs.Keyed.{sorted_by}
use Rattle.s3_rows.specs.Tables.{Tables}
use Rattle.s3_rows.specs.Selections.{name_at, with_attr_name, with_entry_name, by_attr_name, by_entry_name}
use Rattle.s3_rows.specs.Validity.{any_kind, finds_of_attr, has_inode, is_directory}
use Rattle.row_lemmas.proofs.Tests.{filter_map-filter_agree, list_all_weaker_both}
use Rattle.tree_rows.specs.Premises.{finds_directory_and_name}
use Rattle.tree_rows.specs.Shapes.{Directory, Regular, Link, NodeShape, attributes_in, content_of_row, entries_in, node_of_row, shape_of_tables, target_in, Represents}
use Rattle.tree_rows.proofs.Listed.{is_in}
use Rattle.row_steps.proofs.Owed.Names.{KeepsBytes, UsesOnly, bytes_of_row}

-- what is made of the bytes of a name
from_bytes : {X : Type 0} (f : List ℕ → X) (found : Option Name) → option_map (λ (n : Name). f n.name) found ≡ option_map f (option_map bytes_of_row found)
from_bytes f None = refl
from_bytes f (Some n) = refl

module _ (t : Tables) (rows : List Name) (ok : ℕ → Bool) (only : UsesOnly t ok) (keeps : KeepsBytes t rows ok)
    (entries : IsTrue (list_all (finds_directory_and_name t) t.contents)) (attrs : IsTrue (list_all (finds_of_attr t) t.attrs)) where
  abbrev after : Tables
  after = record t { names = rows }

  abbrev good_entry : Content → Bool
  good_entry r = ok r.name_id && is_some (name_at t r.name_id)

  abbrev good_attr : Attr → Bool
  good_attr r = ok r.name_id && is_some (name_at t r.name_id)

  entry_same : (x : Content) → IsTrue (good_entry x) → with_entry_name after x ≡ with_entry_name t x
  entry_same x good =
      let parts = and_parts (ok x.name_id) (is_some (name_at t x.name_id)) good in
      let make : List ℕ → NamedEntry = λ bytes. record { row = x; name = bytes } in
      from_bytes make (name_at after x.name_id) ∙ ap (option_map make) (keeps x.name_id parts.0 parts.1) ∙ sym (from_bytes make (name_at t x.name_id))

  attr_same : (x : Attr) → IsTrue (good_attr x) → with_attr_name after x ≡ with_attr_name t x
  attr_same x good =
      let parts = and_parts (ok x.name_id) (is_some (name_at t x.name_id)) good in
      let make : List ℕ → NamedAttr = λ bytes. record { row = x; name = bytes } in
      from_bytes make (name_at after x.name_id) ∙ ap (option_map make) (keeps x.name_id parts.0 parts.1) ∙ sym (from_bytes make (name_at t x.name_id))

  entries_after : (id : ℕ) → entries_in after id ≡ entries_in t id
  entries_after id =
      ap (λ (rows : List NamedEntry). map (λ e. (e.name, e.row.inode)) (sorted_by by_entry_name rows))
      (filter_map-filter_agree (with_entry_name after) (with_entry_name t) (is_in id) good_entry t.contents entry_same
      (list_all_weaker_both (λ (r : Content). ok r.name_id) (finds_directory_and_name t) good_entry
      (λ r good own. and_from (ok r.name_id) (is_some (name_at t r.name_id)) good (and_parts (has_inode is_directory t r.parent) (is_some (name_at t r.name_id)) own).1)
      t.contents only.entries entries))

  attributes_after : (id : ℕ) → attributes_in after id ≡ attributes_in t id
  attributes_after id =
      ap (λ (rows : List NamedAttr). map (λ a. (a.name, a.row.value)) (sorted_by by_attr_name rows))
      (filter_map-filter_agree (with_attr_name after) (with_attr_name t) (λ r. r.inode == id) good_attr t.attrs attr_same
      (list_all_weaker_both (λ (r : Attr). ok r.name_id) (finds_of_attr t) good_attr
      (λ r good own. and_from (ok r.name_id) (is_some (name_at t r.name_id)) good (and_parts (has_inode any_kind t r.inode) (is_some (name_at t r.name_id)) own).1)
      t.attrs only.attrs attrs))

  pub node_after : (x : Inode) → node_of_row after x ≡ node_of_row t x
  node_after x =
      let content : content_of_row after x ≡ content_of_row t x =
      (λ i. elim x.kind [ kinds.Directory ↦ Directory (entries_after x.id i) | kinds.Regular ↦ Regular x.size | kinds.Link ↦ Link (target_in t x.id) ]) in
      λ i. record { mode = x.mode; uid = x.uid; gid = x.gid; mtime = x.mtime; ctime = x.ctime; locked = x.locked; attributes = attributes_after x.id i; content = content i }

  pub Represents-names : (whole : Tree) → Represents t whole → Represents after whole
  Represents-names whole same =
      let nodes : map (λ (r : Inode). (r.id, node_of_row after r)) t.inodes ≡ map (λ (r : Inode). (r.id, node_of_row t r)) t.inodes =
      (λ i. map (λ (r : Inode). (r.id, node_after r i)) t.inodes) in
      ap (λ (es : List (ℕ × NodeShape)). record (shape_of_tables t) { nodes = es }) nodes ∙ same
