-- An entry that goes, found by its name, and the inode that it names.
use Rattle.std.proofs.Common.{◌≡◌, ℕ, List, [], ◌∷◌, ◌++◌, Bool, true, false, Option, Some, refl, sym, ap, ◌∙◌, subst, arith, eqb-true, eq-eqb}
use Rattle.std.specs.Prelude.{IsTrue, not, ◌==◌, option_map, unwrap_or}
use Rattle.std.specs.List.{list_all, list_any}
use Rattle.std.specs.Cmp.{nat_cmp_total}
use Rattle.std.specs.FinMap.{nat_cmp-IsAntisymmetric, slice_cmp-IsAntisymmetric}
use Rattle.std.specs.Ordering.{is_eq}
use Rattle.s3_base.specs.Numbers.{root}
use Rattle.s3_base.specs.declared.node_kind.Kind.TheVariants as kinds
use Rattle.plain_tree.specs.Tree.{Tree, without_node}
use Rattle.plain_tree.specs.Entries.{drop_entry, entry_at}
use Rattle.plain_tree.specs.WellFormed.{IsWellFormed}
use Rattle.s3_rows.specs.Rows.{Inode, Name, Content, Parameters}
use Rattle.s3_rows.specs.Keyed.{has_key, put, without}
use Rattle.s3_rows.specs.Tables.{Tables, by_entry, by_inode, by_name}
use Rattle.s3_rows.specs.Batches.{tables_after}
use Rattle.s3_rows.specs.Selections.{inode_at, name_at, bytes_cmp, bytes_of_name, name_of_bytes}
use Rattle.s3_rows.specs.Selections as selections
use Rattle.s3_rows.specs.Validity.{IsValid, HasUniqueNames}
use Rattle.row_lemmas.proofs.Tests.{equal_from_is_eq, find_passes, find_passes_all, is_eq-nat_cmp, list_any_from_find, pair_parts}
use Rattle.row_lemmas.proofs.Keyed.Put.{row_at-put_other}
use Rattle.row_lemmas.proofs.Keyed.Rest.{length-without}
use Rattle.row_lemmas.proofs.Keyed.RowAt.{row_at_from_find}
use Rattle.row_lemmas.proofs.Keyed.Without.{list_all-without}
use Rattle.row_lemmas.proofs.Tables.{tables_after-tables_after}
use Rattle.tree_rows.specs.Shapes.{Represents}
use Rattle.tree_rows.proofs.Rooted.{own_entry}
use Rattle.tree_rows.proofs.Whole.{number_of}
use Rattle.ref_counts.specs.Plans.{IsStep}
use Rattle.ref_counts.specs.Removals.{removal}
use Rattle.row_steps.specs.Owed.{IsBare, Owes, times}
use Rattle.row_steps.specs.RowChanges.{dropping, touched_row}
use Rattle.row_steps.proofs.Dropping.{HasUniqueNames-dropping, Owes-dropping, Represents-dropping, lower}
use Rattle.row_steps.proofs.Less.{IsLess, IsStep-less}
use Rattle.row_steps.proofs.Owed.Ends.{Owes-IsValid}
use Rattle.row_steps.proofs.Owed.Inodes.{times_other}
use Rattle.row_steps.proofs.Removing.{HasUniqueNames-removal, Owes-removal, Represents-removal, attrs-removal, gone, tables_after-removal}

-- the directory, the entry that has the name, and the inode that it names
pub record IsLeaving (t : Tables) (whole : Tree) (p : Parameters) (d r : Inode) (c : Content) (n : Name) (parent : ℕ) (name : List ℕ) : Type 0 where
  pub valid : IsValid t
  pub same : Represents t whole
  pub params : t.params ≡ Some p
  pub found : inode_at t parent ≡ Some d
  pub kind : d.kind ≡ kinds.Directory
  pub bytes : name_of_bytes t name ≡ Some n
  pub entry : selections.entry_at t parent n.id ≡ Some c
  pub child : inode_at t c.inode ≡ Some r

module _ (t : Tables) (whole : Tree) (p : Parameters) (d r : Inode) (c : Content) (n : Name) (now parent : ℕ) (name : List ℕ)
    (is : IsLeaving t whole p d r c n parent name) where
  pub owes : Owes t p [] []
  owes = Owes-IsValid t p is.valid is.params

  pub number : parent ≡ d.id
  number = number_of t parent d is.found

  pub there : inode_at t d.id ≡ Some d
  there = ap (inode_at t) (sym number) ∙ is.found

  parts : (parent ≡ c.parent) × (n.id ≡ c.name_id)
  parts = pair_parts (parent, n.id) (c.parent, c.name_id) (find_passes (has_key by_entry (parent, n.id)) t.contents c is.entry)

  pub in_directory : d.id ≡ c.parent
  in_directory = sym number ∙ parts.0

  pub entry_there : selections.entry_at t c.parent c.name_id ≡ Some c
  entry_there = (λ i. selections.entry_at t (sym parts.0 i) (sym parts.1 i)) ∙ is.entry

  pub named : name_at t c.name_id ≡ Some n
  named =
      ap (name_at t) (sym parts.1)
      ∙ row_at_from_find by_name nat_cmp_total (λ (x : Name). is_eq (bytes_cmp x.name name)) t.names n is.valid.ordered.names is.bytes

  pub name_is : n.name ≡ name
  name_is =
      slice_cmp-IsAntisymmetric nat_cmp-IsAntisymmetric n.name name
      (equal_from_is_eq (bytes_cmp n.name name) (find_passes (λ (x : Name). is_eq (bytes_cmp x.name name)) t.names n is.bytes))

  -- the tree has the entry
  pub entry_is : entry_at whole parent name ≡ Some c.inode
  entry_is =
      let own : bytes_of_name t c.name_id ≡ name = ap (λ (found : Option Name). unwrap_or (option_map (λ x. x.name) found) []) named ∙ name_is in
      (λ i. entry_at whole (parts.0 i) (sym own i)) ∙ own_entry t is.valid whole is.same (has_key by_entry (c.parent, c.name_id)) c entry_there

  pub child_number : c.inode ≡ r.id
  child_number = number_of t c.inode r is.child

  pub child_there : inode_at t r.id ≡ Some r
  child_there = ap (inode_at t) (sym child_number) ∙ is.child

  pub not_root : (c.inode == root) ≡ false
  not_root = by_case (c.inode == root) refl
    where
      by_case : (b : Bool) → (c.inode == root) ≡ b → b ≡ false
      by_case true here =
          let any : IsTrue (list_any (λ (x : Content). x.inode == root) t.contents) =
          list_any_from_find (has_key by_entry (parent, n.id)) (λ (x : Content). x.inode == root) t.contents c is.entry here in
          let clash : false ≡ true = sym (ap not any) ∙ is.valid.tree.root_is_unnamed in
          absurd (cc clash)
      by_case false here = refl

  -- ---- the tables without the entry

  abbrev pub dropped : Tables
  dropped = tables_after (dropping d c n now) t

  pub Owes-dropped : Owes dropped p (c.inode ∷ []) []
  Owes-dropped = Owes-dropping t p d c n now [] [] owes there in_directory entry_there named not_root

  pub Represents-dropped : Represents dropped (drop_entry parent name now whole)
  Represents-dropped =
      subst (λ x. Represents dropped (drop_entry x name now whole)) (sym number)
      (subst (λ bytes. Represents dropped (drop_entry d.id bytes now whole)) name_is
      (Represents-dropping t p d c n now [] [] owes there in_directory entry_there named not_root whole is.kind is.same))

  pub HasUniqueNames-dropped : HasUniqueNames t → HasUniqueNames dropped
  HasUniqueNames-dropped = HasUniqueNames-dropping t p d c n now [] [] owes there in_directory entry_there named not_root

  abbrev lower_names : List Name
  lower_names = (lower t p d c n now [] [] owes there in_directory entry_there named not_root).rows

  abbrev dropped_rows : Tables
  dropped_rows = record t {
    contents = without by_entry (c.parent, c.name_id) t.contents;
    inodes = put by_inode (touched_row now d) t.inodes;
    names = lower_names;
  }

  pub dropped_is : dropped ≡ dropped_rows
  dropped_is = (lower t p d c n now [] [] owes there in_directory entry_there named not_root).after

  pub IsLess-dropped : IsLess t dropped
  IsLess-dropped = subst (IsLess t) (sym dropped_is) (record {
    params = refl;
    inode_blocks = refl;
    blocks = refl;
    objects = refl;
    slots = refl;
    contents = length-without by_entry (c.parent, c.name_id) t.contents;
    attrs = omega arith;
  })

  -- ---- and without the inode

  module _ (empty : IsTrue (list_all (λ (x : Content). not (x.parent == r.id)) t.contents)) where
    apart : (r.id == d.id) ≡ false
    apart = by_case (r.id == d.id) refl
      where
        by_case : (b : Bool) → (r.id == d.id) ≡ b → b ≡ false
        by_case true here =
            let other : IsTrue (not (c.parent == r.id)) =
            find_passes_all (has_key by_entry (parent, n.id)) (λ (x : Content). not (x.parent == r.id)) t.contents c empty is.entry in
            let clash : false ≡ true = sym (ap not (eq-eqb c.parent r.id (sym (eqb-true r.id d.id here ∙ in_directory)))) ∙ other in
            absurd (cc clash)
        by_case false here = refl

    pub row_there : inode_at dropped r.id ≡ Some r
    row_there =
        ap (λ (u : Tables). inode_at u r.id) dropped_is
        ∙ row_at-put_other by_inode nat_cmp_total r.id (touched_row now d) t.inodes (is_eq-nat_cmp r.id d.id ∙ apart) ∙ child_there

  module _ (bare : IsBare t r.id) where
    pub bare_after : IsBare dropped r.id
    bare_after = subst (λ (u : Tables). IsBare u r.id) (sym dropped_is) (record {
      entries = list_all-without by_entry (λ (x : Content). not (x.parent == r.id)) (c.parent, c.name_id) t.contents bare.entries;
      inode_blocks = bare.inode_blocks;
      slots = bare.slots;
    })

    pub others : (x : ℕ) → (r.id == x) ≡ false → times x [] ≡ times x (c.inode ∷ [])
    others x other = sym (times_other c.inode x [] (ap (λ y. y == x) child_number ∙ other))

    abbrev left : Tables
    left = gone dropped p r.id (c.inode ∷ []) [] [] Owes-dropped bare_after others

    pub left_is : tables_after (dropping d c n now ++ removal t r.id dropped) t ≡ left
    left_is =
        sym (tables_after-tables_after (dropping d c n now) (removal t r.id dropped) t)
        ∙ ap (λ (u : Tables). tables_after (removal (record t { attrs = u.attrs; targets = u.targets }) r.id dropped) dropped) (sym dropped_is)
        ∙ tables_after-removal dropped p r.id (c.inode ∷ []) [] [] Owes-dropped bare_after others

    IsLess-left : IsLess t left
    IsLess-left =
        let before : IsLess t dropped = IsLess-dropped in
        record {
          params = before.params;
          inode_blocks = before.inode_blocks;
          blocks = before.blocks;
          objects = before.objects;
          slots = before.slots;
          contents = before.contents;
          attrs = omega (arith, before.attrs, attrs-removal dropped p r.id (c.inode ∷ []) [] [] Owes-dropped bare_after others);
        }

    pub IsStep-left : IsWellFormed (without_node c.inode (drop_entry parent name now whole))
        → IsStep t (tables_after (dropping d c n now ++ removal t r.id dropped) t) (without_node c.inode (drop_entry parent name now whole)) 0
    IsStep-left well =
        subst (λ (u : Tables). IsStep t u (without_node c.inode (drop_entry parent name now whole)) 0) (sym left_is)
        (IsStep-less t left (without_node c.inode (drop_entry parent name now whole)) p
        (Owes-removal dropped p r.id (c.inode ∷ []) [] [] Owes-dropped bare_after others)
        (subst (λ x. Represents left (without_node x (drop_entry parent name now whole))) (sym child_number)
        (Represents-removal dropped p r.id (c.inode ∷ []) [] [] Owes-dropped bare_after others (drop_entry parent name now whole) Represents-dropped))
        well
        (λ unique. HasUniqueNames-removal dropped p r.id (c.inode ∷ []) [] [] Owes-dropped bare_after others (HasUniqueNames-dropped unique))
        IsLess-left)
