-- A file that loses an entry, and a nameless file that loses a handle: it goes where nothing keeps it.
use Rattle.std.proofs.Common.{◌≡◌, ℕ, ◌+◌, ◌-◌, List, [], ◌∷◌, ◌++◌, Bool, true, false, cond, Option, None, Some, refl, sym, ap, ◌∙◌, subst, arith, eqb-true}
use Rattle.std.proofs.lemmas.Bool.{and_parts}
use Rattle.std.specs.Prelude.{IsTrue, not, ◌||◌, ◌==◌, is_some, nat_lt, option_and_then}
use Rattle.std.specs.List.{list_all}
use Rattle.s3_base.specs.declared.node_kind.Kind.TheVariants as kinds
use Rattle.op_frames.specs.declared.operation.Op.TheVariants as ops
use Rattle.plain_tree.specs.Tree.{Handle, Node, Tree, node_at, change_node, handle_of, stamped, without_handle, without_node}
use Rattle.plain_tree.specs.Checks.{first_failure, no_directory_check}
use Rattle.plain_tree.specs.Classes.{keeps_rows}
use Rattle.plain_tree.specs.Entries.{child_at, drop_entry, is_folder, is_named, is_open, lives, settled}
use Rattle.plain_tree.specs.Entries as entries
use Rattle.plain_tree.specs.Files.{inode_of}
use Rattle.plain_tree.specs.Operations.{checks, effect}
use Rattle.plain_tree.specs.Subtrees as subtrees
use Rattle.plain_tree.specs.WellFormed.{IsWellFormed}
use Rattle.s3_rows.specs.declared.change.Change.TheVariants as changes
use Rattle.s3_rows.specs.Rows.{Inode, Name, Content, InodeBlock, Slot, Parameters}
use Rattle.s3_rows.specs.Keyed.{has_key, put}
use Rattle.s3_rows.specs.Tables.{Tables, by_entry, by_inode}
use Rattle.s3_rows.specs.Batches.{tables_after}
use Rattle.s3_rows.specs.Selections.{inode_at, entry_at, name_at, name_of_bytes}
use Rattle.s3_rows.specs.Counts.{listed_inode_count}
use Rattle.s3_rows.specs.Validity.{IsValid, HasUniqueNames, any_kind, has_inode, is_directory}
use Rattle.row_lemmas.proofs.Tests.{find_passes_all, list_all_weaker}
use Rattle.row_lemmas.proofs.Keyed.Without.{list_all-without}
use Rattle.row_lemmas.proofs.Tables.{tables_after-tables_after}
use Rattle.tree_laws.proofs.Walk.Passed.{CanUnlink, can_unlink, not_failed}
use Rattle.tree_laws.proofs.WellFormed.{IsWellFormed-effect}
use Rattle.tree_rows.specs.Premises.{finds_directory_and_name}
use Rattle.tree_rows.specs.Shapes.{Represents}
use Rattle.tree_rows.proofs.Replaced.{replaced_represents}
use Rattle.tree_rows.proofs.Whole.{folder_is, number_of}
use Rattle.ref_counts.specs.Links.{places_from}
use Rattle.ref_counts.specs.Plans.{IsStep}
use Rattle.ref_counts.specs.Removals.{removal}
use Rattle.block_steps.proofs.DroppedPlaces.{IsValid-places_dropped, params-places_dropped}
use Rattle.block_steps.proofs.KeptNames.{Represents-KeepsNames}
use Rattle.row_steps.specs.Owed.{IsBare, Owes, owes_links, times}
use Rattle.row_steps.specs.RowChanges.{counted_row, dropping, settling, unlinking, touched_row}
use Rattle.row_steps.proofs.Leaving.{IsLeaving, IsLess-dropped, IsStep-left, HasUniqueNames-dropped, Owes-dropped, Represents-dropped, child_number, child_there, dropped, dropped_is, entry_is, not_root, row_there, there}
use Rattle.row_steps.proofs.Less.{IsLess, IsLess-refl, IsStep-less}
use Rattle.row_steps.proofs.Living.{FindsChildren, FindsChildren-IsValid, FindsChildren-put, is_named-owes, is_open-change_node, kept-refcount, some_left, without_node-change_node}
use Rattle.row_steps.proofs.Owed.Ends.{Owes-IsValid}
use Rattle.row_steps.proofs.Owed.Inodes.{Owes-put_inode_less, times_first}
use Rattle.row_steps.proofs.Place.{kind_there}
use Rattle.row_steps.proofs.WithPlaces.{IsStep-gone, after_removal-cleared, after_removal_alone-cleared, cleared, entry_at-cleared, inode_at-cleared, inode_at-removal, name_of_bytes-cleared, names-cleared, no_places}
use Rattle.row_steps.proofs.Removing.{HasUniqueNames-removal, Owes-removal, Represents-removal, apart_by_kind, attrs-removal, gone, tables_after-removal}

no_folder : (found : Option Node) → no_directory_check 21 found ≡ None → is_folder found ≡ false
no_folder None is = refl
no_folder (Some node) is = not_failed 21 (entries.is_directory node.content) is

-- no entry is in what is no directory
pub no_entries : (t : Tables) (r : Inode) → inode_at t r.id ≡ Some r → is_directory r.kind ≡ false → {p : Parameters} → Owes t p [] []
    → IsTrue (list_all (λ (x : Content). not (x.parent == r.id)) t.contents)
no_entries t r there other o =
    list_all_weaker (finds_directory_and_name t) (λ (x : Content). not (x.parent == r.id))
    (λ x finds. apart_by_kind t r there is_directory other x.parent (and_parts (has_inode is_directory t x.parent) (is_some (name_at t x.name_id)) finds).0)
    t.contents o.rows.entries

-- ---- a row with one link less

module _ (t : Tables) (whole : Tree) (p : Parameters) (d r : Inode) (c : Content) (n : Name) (now parent : ℕ) (name : List ℕ)
    (is : IsLeaving t whole p d r c n parent name) (empty : IsTrue (list_all (λ (x : Content). not (x.parent == r.id)) t.contents)) where
  abbrev unnamed : Tables
  unnamed = dropped t whole p d r c n now parent name is

  owes_unnamed : Owes unnamed p (c.inode ∷ []) []
  owes_unnamed = Owes-dropped t whole p d r c n now parent name is

  row_unnamed : inode_at unnamed r.id ≡ Some r
  row_unnamed = row_there t whole p d r c n now parent name is empty

  number_is : c.inode ≡ r.id
  number_is = child_number t whole p d r c n now parent name is

  one_less : r.refcount ≡ listed_inode_count unnamed r.id + 1
  one_less =
      let owed : IsTrue (owes_links unnamed (c.inode ∷ []) r) =
      find_passes_all (has_key by_inode r.id) (owes_links unnamed (c.inode ∷ [])) unnamed.inodes r owes_unnamed.inodes row_unnamed in
      let once : times r.id (c.inode ∷ []) ≡ 1 = ap (λ y. times r.id (y ∷ [])) number_is ∙ times_first r.id [] in
      omega (arith, eqb-true r.refcount (listed_inode_count unnamed r.id + times r.id (c.inode ∷ [])) owed, once)

  abbrev row : Inode
  row = counted_row (r.refcount - 1) now r

  abbrev counted : Tables
  counted = record unnamed { inodes = put by_inode row unnamed.inodes }

  owes_counted : Owes counted p [] []
  owes_counted =
      Owes-put_inode_less unnamed p r row [] [] (subst (λ id. Owes unnamed p (id ∷ []) []) number_is owes_unnamed) row_unnamed refl refl
      (omega (arith, one_less))

  abbrev unlinked : Tree
  unlinked = drop_entry parent name now whole

  abbrev stamped_tree : Tree
  stamped_tree = change_node c.inode (stamped now) unlinked

  represents_counted : Represents counted stamped_tree
  represents_counted =
      subst (λ x. Represents counted (change_node x (stamped now) unlinked)) (sym number_is)
      (replaced_represents unnamed unlinked r row (stamped now) owes_unnamed.ordered.inodes (Represents-dropped t whole p d r c n now parent name is) row_unnamed
      (λ node shape i. record (shape i) { ctime = now }))

  children_unnamed : FindsChildren unnamed
  children_unnamed =
      subst (λ (u : Tables). FindsChildren u) (sym (dropped_is t whole p d r c n now parent name is))
      (list_all-without by_entry (λ (x : Content). has_inode any_kind (record t { inodes = put by_inode (touched_row now d) t.inodes }) x.inode) (c.parent, c.name_id) t.contents
      (FindsChildren-put t d (touched_row now d) (there t whole p d r c n now parent name is) refl refl (FindsChildren-IsValid t is.valid)))

  -- the node lives where it had another entry, or a handle
  lives_is : (held : Bool) → is_open whole c.inode ≡ held → lives stamped_tree c.inode ≡ (nat_lt 1 r.refcount || held)
  lives_is held held_is =
      let named : is_named stamped_tree c.inode ≡ nat_lt 1 r.refcount =
      is_named-owes counted p [] [] stamped_tree c.inode owes_counted (FindsChildren-put unnamed r row row_unnamed refl refl children_unnamed) represents_counted
      (not_root t whole p d r c n now parent name is)
      ∙ ap (λ x. not (listed_inode_count unnamed x == 0)) number_is ∙ some_left r.refcount (listed_inode_count unnamed r.id) one_less in
      let handle : is_open stamped_tree c.inode ≡ held =
      is_open-change_node (stamped now) c.inode c.inode unlinked ∙ is_open-change_node _ parent c.inode whole ∙ held_is in
      (λ i. not_root t whole p d r c n now parent name is i || named i || handle i)

  unlink_is : (pass : ℕ) → effect whole pass (ops.Unlink parent name) now ≡ cond (lives stamped_tree c.inode) stamped_tree (without_node c.inode stamped_tree)
  unlink_is pass = ap (λ (e : Option ℕ). subtrees.dropped now e unlinked) (entry_is t whole p d r c n now parent name is)

  kept_step : (pass : ℕ) → lives stamped_tree c.inode ≡ true → IsWellFormed (effect whole pass (ops.Unlink parent name) now)
      → IsStep t (tables_after (dropping d c n now ++ changes.PutInode row ∷ []) t) (effect whole pass (ops.Unlink parent name) now) 0
  kept_step pass lives_on well =
      let after : Tree = effect whole pass (ops.Unlink parent name) now in
      let tables : tables_after (dropping d c n now ++ changes.PutInode row ∷ []) t ≡ counted = sym (tables_after-tables_after (dropping d c n now) (changes.PutInode row ∷ []) t) in
      let tree_is : after ≡ stamped_tree = unlink_is pass ∙ ap (λ b. cond b stamped_tree (without_node c.inode stamped_tree)) lives_on in
      let before : IsLess t unnamed = IsLess-dropped t whole p d r c n now parent name is in
      subst (λ (u : Tables). IsStep t u after 0) (sym tables)
      (IsStep-less t counted after p owes_counted (subst (λ w. Represents counted w) (sym tree_is) represents_counted) well
      (λ u. HasUniqueNames-dropped t whole p d r c n now parent name is u)
      (record {
        params = before.params;
        inode_blocks = before.inode_blocks;
        blocks = before.blocks;
        objects = before.objects;
        slots = before.slots;
        contents = before.contents;
        attrs = before.attrs;
      }))

  gone_step : (pass : ℕ) (bare : IsBare t r.id) → lives stamped_tree c.inode ≡ false → IsWellFormed (effect whole pass (ops.Unlink parent name) now)
      → IsStep t (tables_after (dropping d c n now ++ removal t r.id (tables_after (dropping d c n now) t)) t) (effect whole pass (ops.Unlink parent name) now) 0
  gone_step pass bare goes well =
      let tree_is : effect whole pass (ops.Unlink parent name) now ≡ without_node c.inode unlinked =
      unlink_is pass ∙ ap (λ b. cond b stamped_tree (without_node c.inode stamped_tree)) goes ∙ without_node-change_node (stamped now) c.inode unlinked in
      subst (λ w. IsStep t (tables_after (dropping d c n now ++ removal t r.id (tables_after (dropping d c n now) t)) t) w 0) (sym tree_is)
      (IsStep-left t whole p d r c n now parent name is bare (subst IsWellFormed tree_is well))

-- the tables without the places of the file are those from which its entry goes
IsLeaving-cleared : (t : Tables) (whole : Tree) (p : Parameters) (d r : Inode) (c : Content) (n : Name) (parent : ℕ) (name : List ℕ) (rows : List InodeBlock)
    → IsLeaving t whole p d r c n parent name → IsLeaving (cleared t rows) whole p d r c n parent name
IsLeaving-cleared t whole p d r c n parent name rows is = record {
  valid = IsValid-places_dropped rows t is.valid;
  same = Represents-KeepsNames t (cleared t rows) (names-cleared t rows) whole is.same;
  params = params-places_dropped rows t ∙ is.params;
  found = inode_at-cleared t rows parent ∙ is.found;
  kind = is.kind;
  bytes = name_of_bytes-cleared t rows name ∙ is.bytes;
  entry = entry_at-cleared t rows parent n.id ∙ is.entry;
  child = inode_at-cleared t rows c.inode ∙ is.child;
}

pub old_link_step : (t : Tables) (whole : Tree) (p : Parameters) (directory r : Inode) (c : Content) (n : Name) (pass parent now : ℕ) (name : List ℕ) (held : Bool)
    → IsValid t → HasUniqueNames t → IsWellFormed whole → Represents t whole → t.params ≡ Some p → inode_at t parent ≡ Some directory
    → name_of_bytes t name ≡ Some n → entry_at t parent n.id ≡ Some c → inode_at t c.inode ≡ Some r
    → IsTrue (list_all (λ (x : Slot). not (x.inode == r.id)) t.slots)
    → is_open whole c.inode ≡ held → first_failure (checks whole pass (ops.Unlink parent name)) ≡ None
    → IsStep t (tables_after (unlinking (nat_lt 1 r.refcount || held) t directory r c n now) t) (effect whole pass (ops.Unlink parent name) now) 0
old_link_step t whole p directory r c n pass parent now name held v unique well same made found bytes entry row_is slots held_is passes =
    by_case (nat_lt 1 r.refcount || held) (lives_is t whole p directory r c n now parent name is empty held held_is)
  where
    can : CanUnlink whole parent name
    can = can_unlink whole pass parent name passes

    is : IsLeaving t whole p directory r c n parent name
    is = record {
      valid = v;
      same = same;
      params = made;
      found = found;
      kind = kind_there t whole v same parent directory found can.drop.there can.drop.folder;
      bytes = bytes;
      entry = entry;
      child = row_is;
    }

    child_is : child_at whole parent name ≡ node_at whole c.inode
    child_is = ap (option_and_then (node_at whole)) (entry_is t whole p directory r c n now parent name is)

    no_directory : is_directory r.kind ≡ false
    no_directory =
        sym (ap (λ (x : Option Inode). elim x [ Some y ↦ is_directory y.kind | None ↦ false ]) row_is) ∙ sym (folder_is t whole same c.inode)
        ∙ no_folder (node_at whole c.inode) (ap (no_directory_check 21) (sym child_is) ∙ can.file)

    empty : IsTrue (list_all (λ (x : Content). not (x.parent == r.id)) t.contents)
    empty = no_entries t r (child_there t whole p directory r c n now parent name is) no_directory (Owes-IsValid t p v made)

    after_well : IsWellFormed (effect whole pass (ops.Unlink parent name) now)
    after_well = IsWellFormed-effect whole pass now (ops.Unlink parent name) well passes

    rows : List InodeBlock
    rows = places_from t r.id 0

    u : Tables
    u = cleared t rows

    empty_there : IsTrue (list_all (λ (x : Content). not (x.parent == r.id)) u.contents)
    empty_there = subst (λ (xs : List Content). IsTrue (list_all (λ (x : Content). not (x.parent == r.id)) xs)) (sym (names-cleared t rows).contents) empty

    bare : IsBare u r.id
    bare = record {
      entries = empty_there;
      inode_blocks = no_places t v r.id;
      slots = subst (λ (xs : List Slot). IsTrue (list_all (λ (x : Slot). not (x.inode == r.id)) xs)) (sym (names-cleared t rows).slots) slots;
    }

    by_case : (kept : Bool) → lives (stamped_tree t whole p directory r c n now parent name is empty) c.inode ≡ kept
        → IsStep t (tables_after (unlinking kept t directory r c n now) t) (effect whole pass (ops.Unlink parent name) now) 0
    by_case true lives_on = kept_step t whole p directory r c n now parent name is empty pass lives_on after_well
    by_case false goes =
        let next : Tree = effect whole pass (ops.Unlink parent name) now in
        let there = IsLeaving-cleared t whole p directory r c n parent name rows is in
        subst (λ (w : Tables). IsStep t w next 0) (sym (after_removal-cleared t rows (dropping directory c n now) r.id))
        (IsStep-gone t v r.id (tables_after (dropping directory c n now ++ removal u r.id (tables_after (dropping directory c n now) u)) u) next 0
        (inode_at-removal u r.id (dropping directory c n now) u)
        (gone_step u whole p directory r c n now parent name there empty_there pass bare goes after_well))

-- ---- a nameless file

-- a file without places goes, where neither an entry nor another handle keeps it
bare_file_step : (t : Tables) (whole : Tree) (p : Parameters) (r : Inode) (number : ℕ) (next : Tree)
    → Owes t p [] [] → IsBare t r.id → Represents t whole → next ≡ without_node r.id (without_handle number whole) → IsWellFormed next
    → IsStep t (tables_after (removal t r.id t) t) next 0
bare_file_step t whole p r number next owes bare same tree_is well =
    let rest : Tables = gone t p r.id [] [] [] owes bare (λ x other. refl) in
    subst (λ (u : Tables). IsStep t u next 0) (sym (tables_after-removal t p r.id [] [] [] owes bare (λ x other. refl)))
    (IsStep-less t rest next p (Owes-removal t p r.id [] [] [] owes bare (λ x other. refl))
    (subst (λ w. Represents rest w) (sym tree_is) (Represents-removal t p r.id [] [] [] owes bare (λ x other. refl) (without_handle number whole) same))
    well
    (λ u. HasUniqueNames-removal t p r.id [] [] [] owes bare (λ x other. refl) u)
    (record {
      params = refl;
      inode_blocks = refl;
      blocks = refl;
      objects = refl;
      slots = refl;
      contents = omega arith;
      attrs = attrs-removal t p r.id [] [] [] owes bare (λ x other. refl);
    }))

pub old_file_step : (t : Tables) (whole : Tree) (p : Parameters) (r : Inode) (handle : Handle) (pass number now : ℕ) (held : Bool)
    → IsValid t → HasUniqueNames t → IsWellFormed whole → Represents t whole → t.params ≡ Some p → handle_of whole pass number ≡ Some handle
    → inode_at t handle.inode ≡ Some r → r.kind ≡ kinds.Regular → IsTrue (list_all (λ (x : Slot). not (x.inode == r.id)) t.slots)
    → is_open (without_handle number whole) handle.inode ≡ held → first_failure (checks whole pass (ops.Release number)) ≡ None
    → IsStep t (tables_after (settling (not (r.refcount == 0) || held) t r.id) t) (effect whole pass (ops.Release number) now) 0
    × (keeps_rows whole pass (ops.Release number) ≡ (not (r.refcount == 0) || held))
old_file_step t whole p r handle pass number now held v unique well same made has there_is kind slots held_is passes =
    (by_case (not (r.refcount == 0) || held) lives_on, ap (λ (h : Option Handle). lives (without_handle number whole) (inode_of h)) has ∙ lives_on)
  where
    owes : Owes t p [] []
    owes = Owes-IsValid t p v made

    id_is : handle.inode ≡ r.id
    id_is = number_of t handle.inode r there_is

    lives_on : lives (without_handle number whole) handle.inode ≡ (not (r.refcount == 0) || held)
    lives_on = (λ i. kept-refcount t whole handle.inode r v same there_is i || held_is i)

    settles : effect whole pass (ops.Release number) now ≡ cond (lives (without_handle number whole) handle.inode) (without_handle number whole) (without_node handle.inode (without_handle number whole))
    settles = ap (λ (h : Option Handle). settled (inode_of h) (without_handle number whole)) has

    well_after : IsWellFormed (effect whole pass (ops.Release number) now)
    well_after = IsWellFormed-effect whole pass now (ops.Release number) well passes

    rows : List InodeBlock
    rows = places_from t r.id 0

    u : Tables
    u = cleared t rows

    bare : IsBare u r.id
    bare = record {
      entries =
          subst (λ (xs : List Content). IsTrue (list_all (λ (x : Content). not (x.parent == r.id)) xs)) (sym (names-cleared t rows).contents)
          (no_entries t r (ap (inode_at t) (sym id_is) ∙ there_is) (ap is_directory kind) owes);
      inode_blocks = no_places t v r.id;
      slots = subst (λ (xs : List Slot). IsTrue (list_all (λ (x : Slot). not (x.inode == r.id)) xs)) (sym (names-cleared t rows).slots) slots;
    }

    by_case : (kept : Bool) → lives (without_handle number whole) handle.inode ≡ kept
        → IsStep t (tables_after (settling kept t r.id) t) (effect whole pass (ops.Release number) now) 0
    by_case true stays =
        let tree_is : effect whole pass (ops.Release number) now ≡ without_handle number whole =
        settles ∙ ap (λ b. cond b (without_handle number whole) (without_node handle.inode (without_handle number whole))) stays in
        IsStep-less t t (effect whole pass (ops.Release number) now) p owes (subst (λ w. Represents t w) (sym tree_is) same) well_after (λ x. x) (IsLess-refl t)
    by_case false goes =
        let next : Tree = effect whole pass (ops.Release number) now in
        let tree_is : next ≡ without_node r.id (without_handle number whole) =
        settles ∙ ap (λ b. cond b (without_handle number whole) (without_node handle.inode (without_handle number whole))) goes
        ∙ ap (λ x. without_node x (without_handle number whole)) id_is in
        let valid : IsValid u = IsValid-places_dropped rows t v in
        subst (λ (w : Tables). IsStep t w next 0) (sym (after_removal_alone-cleared t rows r.id))
        (IsStep-gone t v r.id (tables_after (removal u r.id u) u) next 0 (inode_at-removal u r.id [] u)
        (bare_file_step u whole p r number next (Owes-IsValid u p valid (params-places_dropped rows t ∙ made)) bare
        (Represents-KeepsNames t u (names-cleared t rows) whole same) tree_is well_after))
