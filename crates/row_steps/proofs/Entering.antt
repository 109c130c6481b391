-- An entry that comes: a name is used once more, the entry is put, and its directory is touched.
use Rattle.std.proofs.Common.{◌≡◌, ℕ, List, [], ◌∷◌, true, false, None, Option, Some, refl, sym, ap, ◌∙◌, subst}
use Rattle.std.specs.Prelude.{IsTrue, not, ◌&&◌, ◌==◌, is_some, nat_lt, option_map, unwrap_or}
use Rattle.std.specs.List.{list_all, list_any}
use Rattle.std.specs.Cmp.{nat_cmp_total}
use Rattle.std.specs.Ordering.{is_eq}
use Rattle.std.proofs.lemmas.Bool.{and_from, and_parts}
use Rattle.s3_base.specs.Numbers.{root}
use Rattle.s3_base.specs.declared.node_kind.Kind.TheVariants as kinds
use Rattle.plain_tree.specs.Tree.{Tree}
use Rattle.plain_tree.specs.Entries.{add_entry}
use Rattle.s3_rows.specs.declared.change.Change.{Change}
use Rattle.s3_rows.specs.declared.change.Change.TheVariants as changes
use Rattle.s3_rows.specs.Rows.{Inode, Name, Content, Parameters}
use Rattle.s3_rows.specs.Keyed.{put}
use Rattle.s3_rows.specs.Tables.{Tables, by_entry, by_inode, by_name}
use Rattle.s3_rows.specs.Batches.{tables_after}
use Rattle.s3_rows.specs.Selections.{inode_at, name_at, bytes_cmp, bytes_of_name}
use Rattle.s3_rows.specs.Validity.{HasUniqueNames, has_inode, is_directory}
use Rattle.row_lemmas.proofs.Tests.{false_from_not, list_all_from_list_any, list_all_weaker_both, list_any_from_list_all}
use Rattle.row_lemmas.proofs.Keyed.Put.{row_at-put_same}
use Rattle.row_lemmas.proofs.Tables.{tables_after-tables_after}
use Rattle.tree_rows.specs.Premises.{finds_directory_and_name}
use Rattle.tree_rows.specs.Shapes.{Represents}
use Rattle.tree_rows.proofs.Listed.{is_entry}
use Rattle.ref_counts.specs.Names.{Raised, raised}
use Rattle.row_steps.specs.Owed.{Owes}
use Rattle.row_steps.specs.RowChanges.{entering, touched_row}
use Rattle.row_steps.proofs.Owed.Contents.{Owes-put_content}
use Rattle.row_steps.proofs.Owed.Inodes.{Owes-put_inode_same}
use Rattle.row_steps.proofs.Owed.Names.{KeepsBytes-put, any_name}
use Rattle.row_steps.proofs.Owed.Raised.{IsRaise, IsRaise-raised}
use Rattle.row_steps.proofs.Shape.Entries.{Represents-put_content}
use Rattle.row_steps.proofs.Shape.Names.{Represents-names}

module _ (t : Tables) (p : Parameters) (d : Inode) (more : Raised) (name : List ℕ) (inode now : ℕ) (links uses : List ℕ) (o : Owes t p (inode ∷ links) uses)
    (below : IsTrue (list_all (λ x. nat_lt x p.next_name) uses)) (used : raised t name ≡ Some more) (there : inode_at t d.id ≡ Some d)
    (kind : d.kind ≡ kinds.Directory) (free : list_any (is_entry t d.id name) t.contents ≡ false) (not_root : (inode == root) ≡ false)
    (number : IsTrue (nat_lt inode p.next_inode)) where
  abbrev pub raise : IsRaise t p (inode ∷ links) uses more name
  raise = IsRaise-raised t p (inode ∷ links) uses more name o below used

  abbrev pub named : Tables
  named = record t { params = Some (record p { next_name = raise.next }); names = put by_name raise.row t.names }

  abbrev pub entry : Content
  entry = record { parent = d.id; name_id = raise.row.id; inode = inode }

  abbrev pub after : Tables
  after = record named { contents = put by_entry entry t.contents; inodes = put by_inode (touched_row now d) t.inodes }

  row_there : name_at named raise.row.id ≡ Some raise.row
  row_there = row_at-put_same by_name nat_cmp_total raise.row t.names

  bytes_are : bytes_of_name named raise.row.id ≡ name
  bytes_are = ap (λ (found : Option Name). unwrap_or (option_map (λ (n : Name). n.name) found) []) row_there ∙ raise.bytes

  pub free_after : list_any (is_entry named d.id (bytes_of_name named raise.row.id)) t.contents ≡ false
  free_after =
      false_from_not (list_any (is_entry named d.id (bytes_of_name named raise.row.id)) t.contents)
      (list_any_from_list_all (is_entry named d.id (bytes_of_name named raise.row.id)) t.contents
      (list_all_weaker_both (finds_directory_and_name t) (λ x. not (is_entry t d.id name x))
      (λ x. not (is_entry named d.id (bytes_of_name named raise.row.id) x)) other t.contents o.rows.entries
      (list_all_from_list_any (is_entry t d.id name) t.contents (ap not free))))
    where
      other : (x : Content) → IsTrue (finds_directory_and_name t x) → IsTrue (not (is_entry t d.id name x))
          → IsTrue (not (is_entry named d.id (bytes_of_name named raise.row.id) x))
      other x finds apart =
          let kept : bytes_of_name named x.name_id ≡ bytes_of_name t x.name_id =
          ap (λ (found : Option (List ℕ)). unwrap_or found [])
          (KeepsBytes-put t raise.row raise.kept x.name_id refl (and_parts (has_inode is_directory t x.parent) (is_some (name_at t x.name_id)) finds).1) in
          (λ i. not (x.parent == d.id && is_eq (bytes_cmp (bytes_are i) (kept i)))) ∙ apart

  rest : ℕ → List Change
  rest id = changes.PutContent (record { parent = d.id; name_id = id; inode = inode }) ∷ changes.PutInode (touched_row now d) ∷ []

  pub after_is : tables_after (entering d more inode now) t ≡ after
  unfolding rest
  after_is =
      sym (tables_after-tables_after more.changes (rest more.id) t) ∙ ap (tables_after (rest more.id)) raise.after
      ∙ ap (λ id. tables_after (rest id) named) (sym raise.id)

  -- the link and the use that were owed are there
  pub Owes-entering : Owes (tables_after (entering d more inode now) t) (record p { next_name = raise.next }) links uses
  Owes-entering =
      subst (λ (u : Tables). Owes u (record p { next_name = raise.next }) links uses) (sym after_is)
      (Owes-put_inode_same (record named { contents = put by_entry entry t.contents }) (record p { next_name = raise.next }) d (touched_row now d) links uses
      (Owes-put_content named entry free_after (record p { next_name = raise.next }) links uses raise.owes
      (and_from (has_inode is_directory named d.id) (is_some (name_at named raise.row.id))
      (ap (λ (found : Option Inode). elim found [ Some r ↦ is_directory r.kind | None ↦ false ]) there ∙ ap is_directory kind)
      (ap is_some row_there))
      not_root number)
      there refl refl refl)

  -- and the tree has an entry more
  pub Represents-entering : (whole : Tree) → Represents t whole → Represents (tables_after (entering d more inode now) t) (add_entry d.id name inode now whole)
  Represents-entering whole same =
      let named_only : Tables = record t { names = put by_name raise.row t.names } in
      let first : Represents named_only whole =
      Represents-names t (put by_name raise.row t.names) (λ x. true) (any_name t) (KeepsBytes-put t raise.row raise.kept) o.rows.entries o.rows.attrs whole same in
      let params : Represents named whole = subst (λ (q : Option Parameters). Represents (record named_only { params = q }) whole) o.made first in
      let put_there : Represents after (add_entry d.id (bytes_of_name named raise.row.id) inode now whole) =
      Represents-put_content named entry (ap is_some row_there) free_after whole d now o.ordered.inodes params refl there kind in
      subst (λ (u : Tables). Represents u (add_entry d.id name inode now whole)) (sym after_is)
      (subst (λ (text : List ℕ). Represents after (add_entry d.id text inode now whole)) bytes_are put_there)

  pub HasUniqueNames-entering : HasUniqueNames t → HasUniqueNames (tables_after (entering d more inode now) t)
  HasUniqueNames-entering unique = subst (λ (u : Tables). HasUniqueNames u) (sym after_is) (raise.unique unique)
