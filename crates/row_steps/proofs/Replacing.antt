-- An entry that moves to the place of another: the inode of the one that is replaced counts one link less, or goes.
use Rattle.std.proofs.Common.{◌≡◌, ℕ, ◌+◌, ◌-◌, List, [], ◌∷◌, ◌++◌, Bool, true, false, cond, Option, Some, refl, sym, ap, ◌∙◌, subst, arith, eqb-true}
use Rattle.std.proofs.lemmas.Bool.{ne_eqb}
use Rattle.std.specs.Prelude.{IsTrue, not, ◌||◌, ◌==◌, is_some, nat_lt, option_map, unwrap_or}
use Rattle.std.specs.List.{list_all}
use Rattle.std.specs.Cmp.{nat_cmp_total}
use Rattle.std.specs.Ordering.{is_eq}
use Rattle.s3_base.specs.Numbers.{root}
use Rattle.plain_tree.specs.Tree.{Tree, change_node, stamped, without_node}
use Rattle.plain_tree.specs.Entries.{drop_entry, is_named, is_open, lives}
use Rattle.plain_tree.specs.Entries as entries
use Rattle.plain_tree.specs.Subtrees.{dropped}
use Rattle.plain_tree.specs.WellFormed.{IsWellFormed}
use Rattle.s3_rows.specs.declared.change.Change.{Change}
use Rattle.s3_rows.specs.declared.change.Change.TheVariants as changes
use Rattle.s3_rows.specs.Rows.{Inode, Name, Content, InodeBlock, Slot, Parameters}
use Rattle.s3_rows.specs.Keyed.{has_key, pair_cmp, put, row_at, without}
use Rattle.s3_rows.specs.Tables.{Tables, by_entry, by_inode, by_name}
use Rattle.s3_rows.specs.Batches.{tables_after}
use Rattle.s3_rows.specs.Selections.{inode_at, name_at, entry_at}
use Rattle.s3_rows.specs.Counts.{listed_inode_count}
use Rattle.s3_rows.specs.Validity.{any_kind, has_inode}
use Rattle.row_lemmas.proofs.Tests.{find_passes_all, is_eq-nat_cmp, is_some-option_map, list_all_weaker, pair_parts}
use Rattle.row_lemmas.proofs.Keyed.Put.{list_all-put, row_at-put_other, row_at-put_same}
use Rattle.row_lemmas.proofs.Keyed.Without.{list_all-without, put-without, row_at-without_other}
use Rattle.row_lemmas.proofs.Tables.{pair_cmp_total, tables_after-tables_after}
use Rattle.tree_laws.proofs.Rename.Apart.{replaces_no_new_parent, replaces_no_parent}
use Rattle.tree_laws.proofs.Rename.Shape.{replaces_empty}
use Rattle.tree_rows.specs.Shapes.{Represents}
use Rattle.tree_rows.proofs.Replaced.{replaced_represents}
use Rattle.ref_counts.specs.Names.{lowered}
use Rattle.ref_counts.specs.Plans.{IsStep}
use Rattle.ref_counts.specs.Removals.{removal}
use Rattle.row_steps.specs.Owed.{IsBare, Owes, owes_links, times}
use Rattle.row_steps.specs.RowChanges.{counted_row, moving, name_of_replaced, stamped_row, touched_row}
use Rattle.row_steps.proofs.Leaving.{IsLeaving}
use Rattle.row_steps.proofs.Leaving as leaving
use Rattle.row_steps.proofs.Living.{FindsChildren, is_named-owes, is_open-change_node, some_left, without_node-change_node}
use Rattle.row_steps.proofs.Less.{IsStep-less}
use Rattle.row_steps.proofs.MovedNames.{fewer, less, represents_gone, unnamed}
use Rattle.row_steps.proofs.Moving.{IsMoving, is_any, is_any-put, at_new_parent, at_parent, child, children, entry, final, is_open-final, left, lifted, moved, moved_there, row, touched_rows}
use Rattle.row_steps.proofs.Owed.Contents.{Owes-without_content}
use Rattle.row_steps.proofs.Owed.Ends.{Owes-times}
use Rattle.row_steps.proofs.Owed.Inodes.{Owes-put_inode_less, Owes-put_inode_same, times_first, times_other}
use Rattle.row_steps.proofs.Owed.Names.{bytes_of_row}
use Rattle.row_steps.proofs.Place.{no_entries_in}
use Rattle.row_steps.proofs.Removing.{HasUniqueNames-removal, Owes-removal, Represents-removal, attrs-removal, gone, tables_after-removal}
use Rattle.row_steps.proofs.Shape.Deletes.{Represents-without_content}

module _ (t : Tables) (whole : Tree) (p : Parameters) (d d2 r r2 : Inode) (c c2 : Content) (n n2 : Name) (now parent : ℕ) (name : List ℕ) (new_parent : ℕ)
    (new_name : List ℕ) (is : IsMoving t whole p d d2 r c n parent name new_parent new_name) (over : IsLeaving t whole p d2 r2 c2 n2 new_parent new_name) where
  -- ---- the entry that is replaced

  new_entry : entries.entry_at whole new_parent new_name ≡ Some c2.inode
  new_entry = leaving.entry_is t whole p d2 r2 c2 n2 now new_parent new_name over

  old_entry : entries.entry_at whole parent name ≡ Some c.inode
  old_entry = entry t whole p d d2 r c n now parent name new_parent new_name is

  number_is : c2.inode ≡ r2.id
  number_is = leaving.child_number t whole p d2 r2 c2 n2 now new_parent new_name over

  in_new : d2.id ≡ c2.parent
  in_new = leaving.in_directory t whole p d2 r2 c2 n2 now new_parent new_name over

  row_there : entry_at t c2.parent c2.name_id ≡ Some c2
  row_there = leaving.entry_there t whole p d2 r2 c2 n2 now new_parent new_name over

  keys_differ : is_eq (pair_cmp (c.parent, c.name_id) (c2.parent, c2.name_id)) ≡ false
  keys_differ = by_case (is_eq (pair_cmp (c.parent, c.name_id) (c2.parent, c2.name_id))) refl
    where
      by_case : (b : Bool) → is_eq (pair_cmp (c.parent, c.name_id) (c2.parent, c2.name_id)) ≡ b → b ≡ false
      by_case true same =
          let parts = pair_parts (c.parent, c.name_id) (c2.parent, c2.name_id) same in
          let both : Some c ≡ Some c2 =
          sym (leaving.entry_there t whole p d r c n now parent name is.leaving) ∙ (λ i. entry_at t (parts.0 i) (parts.1 i)) ∙ row_there in
          let one : c ≡ c2 = cc both in
          absurd ((replaces_empty whole parent name new_parent new_name c.inode c2.inode is.can old_entry new_entry).0 (ap (λ (x : Content). x.inode) one))
      by_case false same = refl

  abbrev before : Tables
  before = unnamed t whole p d d2 r c n now parent name new_parent new_name is

  abbrev names : List Name
  names = before.names

  still_there : entry_at before c2.parent c2.name_id ≡ Some c2
  still_there = row_at-without_other by_entry pair_cmp_total (c.parent, c.name_id) (c2.parent, c2.name_id) t.contents keys_differ ∙ row_there

  name_there : name_at t c2.name_id ≡ Some n2
  name_there = leaving.named t whole p d2 r2 c2 n2 now new_parent new_name over

  bytes_kept : option_map bytes_of_row (row_at by_name c2.name_id names) ≡ option_map bytes_of_row (name_at t c2.name_id)
  bytes_kept =
      (less t whole p d d2 r c n now parent name new_parent new_name is).kept (has_key by_entry (c2.parent, c2.name_id)) c2 still_there (ap is_some name_there)

  name_still : IsTrue (is_some (row_at by_name c2.name_id names))
  name_still =
      sym (is_some-option_map bytes_of_row (row_at by_name c2.name_id names)) ∙ ap is_some bytes_kept ∙ is_some-option_map bytes_of_row (name_at t c2.name_id)
      ∙ ap is_some name_there

  bytes_are : unwrap_or (option_map bytes_of_row (row_at by_name c2.name_id names)) [] ≡ new_name
  bytes_are =
      ap (λ (x : Option (List ℕ)). unwrap_or x []) (bytes_kept ∙ ap (option_map bytes_of_row) name_there)
      ∙ leaving.name_is t whole p d2 r2 c2 n2 now new_parent new_name over

  -- ---- the tables with the other in its place

  abbrev rows : List Content
  rows = without by_entry (c2.parent, c2.name_id) before.contents

  abbrev next : Tree
  next = final t whole p d d2 r c n now parent name new_parent new_name is

  abbrev replaced : Tables
  replaced = moved t whole p d d2 r c n now parent name new_parent new_name is t.params names c2.name_id

  both : Owes replaced p (c2.inode ∷ []) [] × Represents replaced next
  both =
      let lower = less t whole p d d2 r c n now parent name new_parent new_name is in
      let touched = row t whole p d d2 r c n now parent name new_parent new_name is in
      let deleted : Owes (record before { contents = rows }) p (c2.inode ∷ r.id ∷ []) (c2.name_id ∷ []) =
      Owes-without_content before p c2 (r.id ∷ []) [] lower.owes still_there (leaving.not_root t whole p d2 r2 c2 n2 now new_parent new_name over) in
      let entry_row : Content = record { parent = d2.id; name_id = c2.name_id; inode = r.id } in
      moved_there t whole p d d2 r c n now parent name new_parent new_name is t.params names rows p c2.name_id (c2.inode ∷ []) []
      (Owes-times _ p (c2.inode ∷ r.id ∷ []) (c2.name_id ∷ []) (r.id ∷ c2.inode ∷ [])
      (Owes-put_inode_same (record before { contents = rows }) p touched.row (touched_row now touched.row) (c2.inode ∷ r.id ∷ []) (c2.name_id ∷ []) deleted
      touched.there refl refl refl)
      (λ x. omega arith))
      (subst (λ text. Represents (record before { contents = rows; inodes = put by_inode (touched_row now touched.row) before.inodes })
      (drop_entry touched.row.id text now (left t whole p d d2 r c n now parent name new_parent new_name is))) bytes_are
      (Represents-without_content before c2 lower.owes.ordered.contents lower.owes.unlike still_there name_still
      (left t whole p d d2 r c n now parent name new_parent new_name is) touched.row now lower.owes.ordered.inodes
      (lower.represents (left t whole p d d2 r c n now parent name new_parent new_name is) (represents_gone t whole p d d2 r c n now parent name new_parent new_name is))
      (touched.id ∙ in_new) touched.there (touched.kind ∙ over.kind)))
      name_still bytes_are
      (list_all-without by_entry (λ (x : Content). has_inode any_kind t x.inode) (c2.parent, c2.name_id) before.contents
      (children t whole p d d2 r c n now parent name new_parent new_name is))
      (subst (λ k. put by_entry entry_row (without by_entry (k, c2.name_id) before.contents) ≡ put by_entry entry_row before.contents) in_new
      (put-without by_entry pair_cmp_total entry_row before.contents lower.owes.ordered.contents))

  -- ---- the inode that is replaced

  new_there : inode_at t r2.id ≡ Some r2
  new_there = leaving.child_there t whole p d2 r2 c2 n2 now new_parent new_name over

  abbrev replaced_twice : List Inode
  replaced_twice = put by_inode (touched_row now d2) (touched_rows t whole p d d2 r c n now parent name new_parent new_name is)

  other_new_parent : r2.id ≡ d2.id → ⊥
  other_new_parent same =
      replaces_no_new_parent whole is.well.names is.well.tree parent new_parent name new_name is.can c.inode old_entry c2.inode new_entry
      (number_is ∙ same ∙ sym (at_new_parent t whole p d d2 r c n now parent name new_parent new_name is))

  row_still : inode_at replaced r2.id ≡ Some r2
  row_still =
      row_at-put_other by_inode nat_cmp_total r2.id (stamped_row now r) replaced_twice (is_eq-nat_cmp r2.id r.id ∙ ne_eqb r2.id r.id other_inode)
      ∙ row_at-put_other by_inode nat_cmp_total r2.id (touched_row now d2) (touched_rows t whole p d d2 r c n now parent name new_parent new_name is)
      (is_eq-nat_cmp r2.id d2.id ∙ ne_eqb r2.id d2.id other_new_parent)
      ∙ row_at-put_other by_inode nat_cmp_total r2.id (touched_row now d) t.inodes (is_eq-nat_cmp r2.id d.id ∙ ne_eqb r2.id d.id other_parent) ∙ new_there
    where
      other_inode : r2.id ≡ r.id → ⊥
      other_inode same =
          (replaces_empty whole parent name new_parent new_name c.inode c2.inode is.can old_entry new_entry).0
          (child t whole p d d2 r c n now parent name new_parent new_name is ∙ sym same ∙ sym number_is)

      other_parent : r2.id ≡ d.id → ⊥
      other_parent same =
          replaces_no_parent whole is.well.names is.well.tree parent new_parent name new_name is.can c.inode old_entry c2.inode new_entry
          (number_is ∙ same ∙ sym (at_parent t whole p d d2 r c n now parent name new_parent new_name is))

  one_less : r2.refcount ≡ listed_inode_count replaced r2.id + 1
  one_less =
      let owed : IsTrue (owes_links replaced (c2.inode ∷ []) r2) =
      find_passes_all (has_key by_inode r2.id) (owes_links replaced (c2.inode ∷ [])) replaced.inodes r2 both.0.inodes row_still in
      let once : times r2.id (c2.inode ∷ []) ≡ 1 = ap (λ y. times r2.id (y ∷ [])) number_is ∙ times_first r2.id [] in
      omega (arith, eqb-true r2.refcount (listed_inode_count replaced r2.id + times r2.id (c2.inode ∷ [])) owed, once)

  abbrev low : Inode
  low = counted_row (r2.refcount - 1) now r2

  abbrev counted : Tables
  counted = record replaced { inodes = put by_inode low (put by_inode (stamped_row now r) replaced_twice) }

  owes_counted : Owes counted p [] []
  owes_counted =
      Owes-put_inode_less replaced p r2 low [] [] (subst (λ x. Owes replaced p (x ∷ []) []) number_is both.0) row_still refl refl (omega (arith, one_less))

  abbrev pub stamped_tree : Tree
  stamped_tree = change_node c2.inode (stamped now) next

  represents_counted : Represents counted stamped_tree
  represents_counted =
      subst (λ x. Represents counted (change_node x (stamped now) next)) (sym number_is)
      (replaced_represents replaced next r2 low (stamped now) both.0.ordered.inodes both.1 row_still (λ node shape i. record (shape i) { ctime = now }))

  found_children : FindsChildren counted
  found_children =
      list_all-put by_entry (λ (x : Content). has_inode any_kind counted x.inode) (record { parent = d2.id; name_id = c2.name_id; inode = r.id })
      (without by_entry (c.parent, c.name_id) t.contents)
      (is_any-put low (put by_inode (stamped_row now r) replaced_twice) r.id
      (ap is_any (row_at-put_same by_inode nat_cmp_total (stamped_row now r) replaced_twice)))
      (list_all_weaker (λ (x : Content). has_inode any_kind t x.inode) (λ (x : Content). has_inode any_kind counted x.inode)
      (λ x has. is_any-put low (put by_inode (stamped_row now r) replaced_twice) x.inode
      (is_any-put (stamped_row now r) replaced_twice x.inode
      (is_any-put (touched_row now d2) (touched_rows t whole p d d2 r c n now parent name new_parent new_name is) x.inode (is_any-put (touched_row now d) t.inodes x.inode has))))
      (without by_entry (c.parent, c.name_id) t.contents) (children t whole p d d2 r c n now parent name new_parent new_name is))

  -- it lives where it had another entry, or a handle
  pub lives_is : (held : Bool) → is_open whole c2.inode ≡ held → lives stamped_tree c2.inode ≡ (nat_lt 1 r2.refcount || held)
  lives_is held held_is =
      let other : (c2.inode == root) ≡ false = leaving.not_root t whole p d2 r2 c2 n2 now new_parent new_name over in
      let named : is_named stamped_tree c2.inode ≡ nat_lt 1 r2.refcount =
      is_named-owes counted p [] [] stamped_tree c2.inode owes_counted found_children represents_counted other
      ∙ ap (λ x. not (listed_inode_count replaced x == 0)) number_is ∙ some_left r2.refcount (listed_inode_count replaced r2.id) one_less in
      let handle : is_open stamped_tree c2.inode ≡ held =
      is_open-change_node (stamped now) c2.inode c2.inode next ∙ is_open-final t whole p d d2 r c n now parent name new_parent new_name is c2.inode ∙ held_is in
      (λ i. other i || named i || handle i)

  -- ---- a step

  abbrev batch : List Change
  batch = moving d d2 c (name_of_replaced n c2) r now

  rest : List Change
  rest =
      changes.PutContent (record { parent = d2.id; name_id = c2.name_id; inode = r.id }) ∷ changes.PutInode (touched_row now d2)
      ∷ changes.PutInode (stamped_row now r) ∷ []

  batch_is : tables_after batch t ≡ replaced
  unfolding rest
  batch_is =
      let lower = less t whole p d d2 r c n now parent name new_parent new_name is in
      sym (tables_after-tables_after (lowered n) rest (lifted t whole p d d2 r c n now parent name new_parent new_name is t.params t.names)) ∙ ap (tables_after rest) lower.after

  others : (x : ℕ) → (r2.id == x) ≡ false → times x [] ≡ times x (c2.inode ∷ [])
  others x other = sym (times_other c2.inode x [] (ap (λ y. y == x) number_is ∙ other))

  pub IsStep-replacing_kept : lives stamped_tree c2.inode ≡ true → IsWellFormed (dropped now (Some c2.inode) next)
      → IsStep t (tables_after (batch ++ changes.PutInode low ∷ []) t) (dropped now (Some c2.inode) next) 0
  IsStep-replacing_kept lives_on well =
      let tree_is : dropped now (Some c2.inode) next ≡ stamped_tree = ap (λ b. cond b stamped_tree (without_node c2.inode stamped_tree)) lives_on in
      let tables : tables_after (batch ++ changes.PutInode low ∷ []) t ≡ counted =
      sym (tables_after-tables_after batch (changes.PutInode low ∷ []) t) ∙ ap (tables_after (changes.PutInode low ∷ [])) batch_is in
      subst (λ (u : Tables). IsStep t u (dropped now (Some c2.inode) next) 0) (sym tables)
      (IsStep-less t counted (dropped now (Some c2.inode) next) p owes_counted (subst (Represents counted) (sym tree_is) represents_counted) well
      (less t whole p d d2 r c n now parent name new_parent new_name is).unique
      (record {
        params = refl;
        inode_blocks = refl;
        blocks = refl;
        objects = refl;
        slots = refl;
        contents = fewer t whole p d d2 r c n now parent name new_parent new_name is c2.name_id;
        attrs = omega arith;
      }))

  module _ (blocks : IsTrue (list_all (λ (x : InodeBlock). not (x.inode == r2.id)) t.inode_blocks))
      (slots : IsTrue (list_all (λ (x : Slot). not (x.inode == r2.id)) t.slots)) where
    bare : IsBare replaced r2.id
    bare = record {
      entries =
          list_all-put by_entry (λ (x : Content). not (x.parent == r2.id)) (record { parent = d2.id; name_id = c2.name_id; inode = r.id })
          (without by_entry (c.parent, c.name_id) t.contents) (ap not (ne_eqb d2.id r2.id (λ same. other_new_parent (sym same))))
          (list_all-without by_entry (λ (x : Content). not (x.parent == r2.id)) (c.parent, c.name_id) t.contents
          (subst (λ k. IsTrue (list_all (λ (x : Content). not (x.parent == k)) t.contents)) number_is
          (no_entries_in t whole is.leaving.valid is.leaving.same c2.inode
          (replaces_empty whole parent name new_parent new_name c.inode c2.inode is.can old_entry new_entry).1)));
      inode_blocks = blocks;
      slots = slots;
    }

    abbrev left_over : Tables
    left_over = gone replaced p r2.id (c2.inode ∷ []) [] [] both.0 bare others

    left_over_is : tables_after (batch ++ removal t r2.id (tables_after batch t)) t ≡ left_over
    left_over_is =
        sym (tables_after-tables_after batch (removal t r2.id (tables_after batch t)) t) ∙ ap (λ (u : Tables). tables_after (removal t r2.id u) u) batch_is
        ∙ tables_after-removal replaced p r2.id (c2.inode ∷ []) [] [] both.0 bare others

    pub IsStep-replacing_gone : lives stamped_tree c2.inode ≡ false → IsWellFormed (dropped now (Some c2.inode) next)
        → IsStep t (tables_after (batch ++ removal t r2.id (tables_after batch t)) t) (dropped now (Some c2.inode) next) 0
    IsStep-replacing_gone goes well =
        let tree_is : dropped now (Some c2.inode) next ≡ without_node c2.inode next =
        ap (λ b. cond b stamped_tree (without_node c2.inode stamped_tree)) goes ∙ without_node-change_node (stamped now) c2.inode next in
        subst (λ (u : Tables). IsStep t u (dropped now (Some c2.inode) next) 0) (sym left_over_is)
        (IsStep-less t left_over (dropped now (Some c2.inode) next) p (Owes-removal replaced p r2.id (c2.inode ∷ []) [] [] both.0 bare others)
        (subst (Represents left_over) (sym tree_is)
        (subst (λ x. Represents left_over (without_node x next)) (sym number_is)
        (Represents-removal replaced p r2.id (c2.inode ∷ []) [] [] both.0 bare others next both.1)))
        well
        (λ unique. HasUniqueNames-removal replaced p r2.id (c2.inode ∷ []) [] [] both.0 bare others
        ((less t whole p d d2 r c n now parent name new_parent new_name is).unique unique))
        (record {
          params = refl;
          inode_blocks = refl;
          blocks = refl;
          objects = refl;
          slots = refl;
          contents = fewer t whole p d d2 r c n now parent name new_parent new_name is c2.name_id;
          attrs = attrs-removal replaced p r2.id (c2.inode ∷ []) [] [] both.0 bare others;
        }))
