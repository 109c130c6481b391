-- An entry that goes: it is deleted, its directory is touched, and its name is used once less. An attribute alike.
use Rattle.std.proofs.Common.{◌≡◌, ℕ, ◌+◌, List, [], ◌∷◌, false, Option, Some, refl, sym, ap, ◌∙◌, subst}
use Rattle.std.specs.Prelude.{◌==◌, is_some, option_map, unwrap_or}
use Rattle.std.specs.Cmp.{nat_cmp_total}
use Rattle.s3_base.specs.Numbers.{root}
use Rattle.s3_base.specs.declared.node_kind.Kind.TheVariants as kinds
use Rattle.plain_tree.specs.Tree.{Tree, change_node, stamped}
use Rattle.plain_tree.specs.Entries.{drop_entry}
use Rattle.s3_rows.specs.declared.change.Change.TheVariants as changes
use Rattle.s3_rows.specs.Rows.{Inode, Name, Content, Attr, Parameters}
use Rattle.s3_rows.specs.Keyed.{has_key, put, without}
use Rattle.s3_rows.specs.Tables.{Tables, by_attr, by_entry, by_inode, by_name}
use Rattle.s3_rows.specs.Batches.{after_change, tables_after}
use Rattle.s3_rows.specs.Selections.{inode_at, name_at, entry_at, attr_at}
use Rattle.s3_rows.specs.Validity.{HasUniqueNames}
use Rattle.row_lemmas.proofs.Tests.{find_passes, is_eq-nat_cmp}
use Rattle.row_lemmas.proofs.Keyed.Put.{row_at-put_other}
use Rattle.tree_rows.proofs.Replaced.{replaced_represents}
use Rattle.tree_rows.specs.Shapes.{node_of_row, Represents}
use Rattle.ref_counts.specs.Names.{lowered}
use Rattle.row_steps.specs.Owed.{Owes}
use Rattle.row_steps.specs.RowChanges.{counted_row, dropping, dropping_attr, touched_row}
use Rattle.row_steps.proofs.Owed.Attrs.{Owes-without_attr}
use Rattle.row_steps.proofs.Owed.Contents.{Owes-without_content}
use Rattle.row_steps.proofs.Owed.Inodes.{Owes-put_inode_less, Owes-put_inode_same, one_number}
use Rattle.row_steps.proofs.Owed.Lowered.{IsLower, IsLower-lowered}
use Rattle.row_steps.proofs.Shape.Absent.{node_of_row-without_attr_other}
use Rattle.row_steps.proofs.Shape.Deletes.{Represents-without_content}

module _ (t : Tables) (p : Parameters) (d : Inode) (c : Content) (n : Name) (now : ℕ) (links uses : List ℕ) (o : Owes t p links uses)
    (there : inode_at t d.id ≡ Some d) (parent : d.id ≡ c.parent) (entry : entry_at t c.parent c.name_id ≡ Some c) (named : name_at t c.name_id ≡ Some n)
    (not_root : (c.inode == root) ≡ false) where
  abbrev pub touched : Tables
  touched = record t { contents = without by_entry (c.parent, c.name_id) t.contents; inodes = put by_inode (touched_row now d) t.inodes }

  pub id_is : c.name_id ≡ n.id
  id_is = one_number c.name_id n.id (find_passes (has_key by_name c.name_id) t.names n named)

  -- the link and the use of the entry are owed
  pub owes_both : Owes touched p (c.inode ∷ links) (n.id ∷ uses)
  owes_both =
      subst (λ id. Owes touched p (c.inode ∷ links) (id ∷ uses)) id_is
      (Owes-put_inode_same (record t { contents = without by_entry (c.parent, c.name_id) t.contents }) p d (touched_row now d) (c.inode ∷ links) (c.name_id ∷ uses)
      (Owes-without_content t p c links uses o entry not_root) there refl refl refl)

  pub lower : IsLower touched p (c.inode ∷ links) uses (lowered n)
  lower = IsLower-lowered touched p n (c.inode ∷ links) uses owes_both (ap (name_at t) (sym id_is) ∙ named)

  -- the link of the entry is owed
  pub Owes-dropping : Owes (tables_after (dropping d c n now) t) p (c.inode ∷ links) uses
  Owes-dropping = subst (λ (u : Tables). Owes u p (c.inode ∷ links) uses) (sym lower.after) lower.owes

  -- and the tree has an entry less
  pub Represents-touched : (whole : Tree) → d.kind ≡ kinds.Directory → Represents t whole → Represents touched (drop_entry d.id n.name now whole)
  Represents-touched whole kind same =
      let deleted : Represents touched (drop_entry d.id (unwrap_or (option_map (λ (r : Name). r.name) (name_at t c.name_id)) []) now whole) =
      Represents-without_content t c o.ordered.contents o.unlike entry (ap is_some named) whole d now o.ordered.inodes same parent there kind in
      subst (λ (found : Option Name). Represents touched (drop_entry d.id (unwrap_or (option_map (λ (r : Name). r.name) found) []) now whole)) named deleted

  pub Represents-dropping : (whole : Tree) → d.kind ≡ kinds.Directory → Represents t whole → Represents (tables_after (dropping d c n now) t) (drop_entry d.id n.name now whole)
  Represents-dropping whole kind same =
      subst (λ (u : Tables). Represents u (drop_entry d.id n.name now whole)) (sym lower.after)
      (lower.represents (drop_entry d.id n.name now whole) (Represents-touched whole kind same))

  pub HasUniqueNames-dropping : HasUniqueNames t → HasUniqueNames (tables_after (dropping d c n now) t)
  HasUniqueNames-dropping unique = subst (λ (u : Tables). HasUniqueNames u) (sym lower.after) (lower.unique unique)

  -- ---- the inode that it named keeps its other links

  module _ (r : Inode) (child : r.id ≡ c.inode) (child_there : inode_at t r.id ≡ Some r) (apart : (r.id == d.id) ≡ false) (count : ℕ) (less : count + 1 ≡ r.refcount) where
    abbrev stamped_row : Inode
    stamped_row = counted_row count now r

    pub still_there : inode_at (tables_after (dropping d c n now) t) r.id ≡ Some r
    still_there =
        ap (λ (u : Tables). inode_at u r.id) lower.after
        ∙ row_at-put_other by_inode nat_cmp_total r.id (touched_row now d) t.inodes (is_eq-nat_cmp r.id d.id ∙ apart) ∙ child_there

    pub Owes-unlinking : Owes (after_change (changes.PutInode stamped_row) (tables_after (dropping d c n now) t)) p links uses
    Owes-unlinking =
        Owes-put_inode_less (tables_after (dropping d c n now) t) p r stamped_row links uses
        (subst (λ id. Owes (tables_after (dropping d c n now) t) p (id ∷ links) uses) (sym child) Owes-dropping) still_there refl refl less

    pub Represents-unlinking : (whole : Tree) → d.kind ≡ kinds.Directory → Represents t whole
        → Represents (after_change (changes.PutInode stamped_row) (tables_after (dropping d c n now) t)) (change_node r.id (stamped now) (drop_entry d.id n.name now whole))
    Represents-unlinking whole kind same =
        replaced_represents (tables_after (dropping d c n now) t) (drop_entry d.id n.name now whole) r stamped_row (stamped now)
        Owes-dropping.ordered.inodes (Represents-dropping whole kind same) still_there (λ node shape i. record (shape i) { ctime = now })

-- ---- an attribute

module _ (t : Tables) (p : Parameters) (a : Attr) (n : Name) (links uses : List ℕ) (o : Owes t p links uses)
    (there : attr_at t a.inode a.name_id ≡ Some a) (named : name_at t a.name_id ≡ Some n) where
  abbrev without_attr : Tables
  without_attr = record t { attrs = without by_attr (a.inode, a.name_id) t.attrs }

  attr_id_is : a.name_id ≡ n.id
  attr_id_is = one_number a.name_id n.id (find_passes (has_key by_name a.name_id) t.names n named)

  pub lower_attr : IsLower without_attr p links uses (lowered n)
  lower_attr =
      IsLower-lowered without_attr p n links uses
      (subst (λ id. Owes without_attr p links (id ∷ uses)) attr_id_is (Owes-without_attr t p a links uses o there)) (ap (name_at t) (sym attr_id_is) ∙ named)

  pub Owes-dropping_attr : Owes (tables_after (dropping_attr a n) t) p links uses
  Owes-dropping_attr = subst (λ (u : Tables). Owes u p links uses) (sym lower_attr.after) lower_attr.owes

  -- the nodes of other inodes stay
  pub node_of_row-dropping_attr : (x : Inode) → (x.id == a.inode) ≡ false → node_of_row (tables_after (dropping_attr a n) t) x ≡ node_of_row t x
  node_of_row-dropping_attr x apart =
      ap (λ (u : Tables). node_of_row u x) lower_attr.after ∙ lower_attr.nodes x ∙ node_of_row-without_attr_other t a.inode a.name_id x apart

  pub HasUniqueNames-dropping_attr : HasUniqueNames t → HasUniqueNames (tables_after (dropping_attr a n) t)
  HasUniqueNames-dropping_attr unique = subst (λ (u : Tables). HasUniqueNames u) (sym lower_attr.after) (lower_attr.unique unique)
