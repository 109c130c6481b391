-- An entry that moves: the old one is deleted, and the new one put where the new directory has none of its name.
use Rattle.std.proofs.Common.{◌≡◌, ℕ, List, [], ◌∷◌, Bool, true, false, cond, Option, None, Some, refl, sym, ap, ◌∙◌, subst}
use Rattle.std.proofs.lemmas.Bool.{and_from, and_parts, ne_eqb}
use Rattle.std.specs.Prelude.{IsTrue, ◌==◌, is_some}
use Rattle.std.specs.List.{list_all}
use Rattle.std.specs.Cmp.{nat_cmp_total}
use Rattle.s3_base.specs.Numbers.{root}
use Rattle.s3_base.specs.declared.node_kind.Kind.TheVariants as kinds
use Rattle.plain_tree.specs.Tree as tree
use Rattle.plain_tree.specs.Tree.{Tree, change_node, stamped, touched}
use Rattle.plain_tree.specs.Entries.{add_entry, drop_entry, entry_at, is_open, unnamed}
use Rattle.plain_tree.specs.WellFormed.{IsWellFormed}
use Rattle.s3_rows.specs.Rows.{Inode, Name, Content, Parameters}
use Rattle.s3_rows.specs.Keyed.{has_key, put, row_at, without}
use Rattle.s3_rows.specs.Tables.{Tables, by_entry, by_inode}
use Rattle.s3_rows.specs.Selections.{inode_at, name_at, bytes_of_name}
use Rattle.s3_rows.specs.Validity.{any_kind, finds_of_entry, has_inode, is_directory}
use Rattle.row_lemmas.proofs.Tests.{is_eq-nat_cmp, list_all_weaker, list_all_weaker_both}
use Rattle.row_lemmas.proofs.Keyed.Put.{put-put, row_at-put, row_at-put_other, row_at-put_same}
use Rattle.row_lemmas.proofs.Keyed.Without.{list_all-without}
use Rattle.tree_laws.proofs.Name.Order.{NamesInOrder-drop_entry}
use Rattle.tree_laws.proofs.Node.Kind.{none_some}
use Rattle.tree_laws.proofs.Rename.Apart.{moves_from_another, moves_to_another}
use Rattle.tree_laws.proofs.Shape.Tree.{shape-drop_entry}
use Rattle.tree_laws.proofs.Walk.Passed.{CanMove}
use Rattle.tree_rows.specs.Premises.{finds_directory_and_name}
use Rattle.tree_rows.specs.Shapes.{Represents}
use Rattle.tree_rows.proofs.Whole.{number_of}
use Rattle.row_steps.specs.Owed.{Owes}
use Rattle.row_steps.specs.RowChanges.{stamped_row, touched_row}
use Rattle.row_steps.proofs.Leaving.{IsLeaving, child_number, child_there, entry_is, not_root, number, there}
use Rattle.row_steps.proofs.Living.{is_open-change_node}
use Rattle.row_steps.proofs.Owed.Inodes.{Owes-put_inode_same}
use Rattle.row_steps.proofs.Place.{is_entry_none, kind_there}
use Rattle.row_steps.proofs.Placing.{IsPlacing, IsTouchedRow, IsTouchedRow-put, Owes-placed, Represents-placed, placed}
use Rattle.row_steps.proofs.Shape.Unlisted.{Represents-touch_unlisted}

-- the entry that leaves its directory, the directory that it comes to, and the passed checks
pub record IsMoving (t : Tables) (whole : Tree) (p : Parameters) (d d2 r : Inode) (c : Content) (n : Name) (parent : ℕ) (name : List ℕ) (new_parent : ℕ)
    (new_name : List ℕ) : Type 0 where
  pub leaving : IsLeaving t whole p d r c n parent name
  pub well : IsWellFormed whole
  pub found : inode_at t new_parent ≡ Some d2
  pub can : CanMove whole parent name new_parent new_name

-- an inode with a row has one after a put
abbrev pub is_any : Option Inode → Bool
is_any found = elim found [ Some r ↦ any_kind r.kind | None ↦ false ]

pub is_any-put : (r : Inode) (rows : List Inode) (x : ℕ) → IsTrue (is_any (row_at by_inode x rows)) → IsTrue (is_any (row_at by_inode x (put by_inode r rows)))
is_any-put r rows x has = ap is_any (row_at-put by_inode nat_cmp_total x r rows) ∙ by_case (has_key by_inode x r)
  where
    by_case : (b : Bool) → is_any (cond b (Some r) (row_at by_inode x rows)) ≡ true
    by_case true = refl
    by_case false = has

module _ (t : Tables) (whole : Tree) (p : Parameters) (d d2 r : Inode) (c : Content) (n : Name) (now parent : ℕ) (name : List ℕ) (new_parent : ℕ) (new_name : List ℕ)
    (is : IsMoving t whole p d d2 r c n parent name new_parent new_name) where
  -- ---- the directories and the inode

  pub at_parent : parent ≡ d.id
  at_parent = number t whole p d r c n now parent name is.leaving

  pub at_new_parent : new_parent ≡ d2.id
  at_new_parent = number_of t new_parent d2 is.found

  pub child : c.inode ≡ r.id
  child = child_number t whole p d r c n now parent name is.leaving

  pub child_row : inode_at t r.id ≡ Some r
  child_row = child_there t whole p d r c n now parent name is.leaving

  pub entry : entry_at whole parent name ≡ Some c.inode
  entry = entry_is t whole p d r c n now parent name is.leaving

  pub new_there : inode_at t d2.id ≡ Some d2
  new_there = ap (inode_at t) (sym at_new_parent) ∙ is.found

  new_kind : d2.kind ≡ kinds.Directory
  new_kind = kind_there t whole is.leaving.valid is.leaving.same new_parent d2 is.found is.can.rename.new_there is.can.rename.new_folder

  from_another : (r.id == d.id) ≡ false
  from_another =
      ne_eqb r.id d.id
      (λ same. moves_from_another whole is.well.names is.well.tree parent new_parent name new_name is.can c.inode entry (child ∙ same ∙ sym at_parent))

  to_another : (r.id == d2.id) ≡ false
  to_another =
      ne_eqb r.id d2.id
      (λ same. moves_to_another whole is.well.names is.well.tree parent new_parent name new_name is.can c.inode entry (child ∙ same ∙ sym at_new_parent))

  -- ---- the tables with the old entry gone, and those with the new one there

  abbrev pub touched_rows : List Inode
  touched_rows = put by_inode (touched_row now d) t.inodes

  pub row : IsTouchedRow touched_rows d2 now
  row = IsTouchedRow-put t.inodes d d2 now (there t whole p d r c n now parent name is.leaving) new_there

  abbrev pub left : Tree
  left = drop_entry parent name now whole

  abbrev pub final : Tree
  final = change_node c.inode (stamped now) (add_entry new_parent new_name c.inode now (drop_entry new_parent new_name now left))

  pub is_open-final : (x : ℕ) → is_open final x ≡ is_open whole x
  is_open-final x =
      is_open-change_node (stamped now) c.inode x (add_entry new_parent new_name c.inode now (drop_entry new_parent new_name now left))
      ∙ is_open-change_node (λ node. touched now (record node { content = tree.named new_name c.inode node.content })) new_parent x (drop_entry new_parent new_name now left)
      ∙ is_open-change_node (λ node. touched now (record node { content = unnamed new_name node.content })) new_parent x left
      ∙ is_open-change_node (λ node. touched now (record node { content = unnamed name node.content })) parent x whole

  pub children : IsTrue (list_all (λ (x : Content). has_inode any_kind t x.inode) (without by_entry (c.parent, c.name_id) t.contents))
  children =
      list_all-without by_entry (λ (x : Content). has_inode any_kind t x.inode) (c.parent, c.name_id) t.contents
      (list_all_weaker (finds_of_entry t) (λ (x : Content). has_inode any_kind t x.inode)
      (λ x finds. (and_parts (finds_directory_and_name t x) (has_inode any_kind t x.inode) finds).1) t.contents is.leaving.valid.rows.entries)

  module _ (params : Option Parameters) (names : List Name) where
    abbrev pub lifted : Tables
    lifted = record t { params = params; names = names; contents = without by_entry (c.parent, c.name_id) t.contents; inodes = touched_rows }

    abbrev pub moved : ℕ → Tables
    moved m = record t {
      params = params;
      names = names;
      contents = put by_entry (record { parent = d2.id; name_id = m; inode = r.id }) (without by_entry (c.parent, c.name_id) t.contents);
      inodes = put by_inode (stamped_row now r) (put by_inode (touched_row now d2) touched_rows);
    }

    module _ (cs : List Content) (q : Parameters) (m : ℕ) (links uses : List ℕ) where
      abbrev pub ready : Tables
      ready = record t { params = params; names = names; contents = cs; inodes = put by_inode (touched_row now row.row) touched_rows }

      abbrev e : Inode
      e = touched_row now row.row

      abbrev cleared : Tree
      cleared = drop_entry row.row.id new_name now left

      placing : Owes ready q (r.id ∷ links) (m ∷ uses) → Represents ready cleared → IsTrue (is_some (name_at ready m)) → bytes_of_name ready m ≡ new_name
          → IsTrue (list_all (λ (x : Content). has_inode any_kind t x.inode) cs) → IsPlacing ready cleared q e r m new_name links uses
      placing o same named bytes own = record {
        owes = o;
        same = same;
        named = named;
        bytes = bytes;
        there = here;
        kind = row.kind ∙ new_kind;
        free =
            is_entry_none ready cleared same finds row.row.id
            (ap (λ (found : Option Inode). elim found [ Some x ↦ is_directory x.kind | None ↦ false ]) here ∙ ap is_directory (row.kind ∙ new_kind))
            new_name (shape-drop_entry row.row.id new_name now left (NamesInOrder-drop_entry parent name now whole is.well.names)).gone;
        child =
            row_at-put_other by_inode nat_cmp_total r.id (touched_row now row.row) touched_rows (is_eq-nat_cmp r.id row.row.id ∙ new_apart)
            ∙ row_at-put_other by_inode nat_cmp_total r.id (touched_row now d) t.inodes (is_eq-nat_cmp r.id d.id ∙ from_another) ∙ child_row;
        apart = new_apart;
        not_root = ap (λ k. k == root) (sym child) ∙ not_root t whole p d r c n now parent name is.leaving;
      }
        where
          new_apart : (r.id == row.row.id) ≡ false
          new_apart = ap (λ k. r.id == k) row.id ∙ to_another

          here : inode_at ready row.row.id ≡ Some (touched_row now row.row)
          here = row_at-put_same by_inode nat_cmp_total (touched_row now row.row) touched_rows

          finds : IsTrue (list_all (finds_of_entry ready) cs)
          finds =
              list_all_weaker_both (finds_directory_and_name ready) (λ (x : Content). has_inode any_kind t x.inode) (finds_of_entry ready)
              (λ x a b. and_from (finds_directory_and_name ready x) (has_inode any_kind ready x.inode) a
              (is_any-put (touched_row now row.row) touched_rows x.inode (is_any-put (touched_row now d) t.inodes x.inode b)))
              cs o.rows.entries own

      module _ (o : Owes ready q (r.id ∷ links) (m ∷ uses)) (same : Represents ready cleared) (named : IsTrue (is_some (name_at ready m)))
          (bytes : bytes_of_name ready m ≡ new_name) (own : IsTrue (list_all (λ (x : Content). has_inode any_kind t x.inode) cs))
          (rows : put by_entry (record { parent = d2.id; name_id = m; inode = r.id }) cs ≡ (moved m).contents) where
        is_placing : IsPlacing ready cleared q e r m new_name links uses
        is_placing = placing o same named bytes own

        abbrev placed_rows : Tables
        placed_rows = placed ready cleared q e r m now new_name links uses is_placing

        placed_is : placed_rows ≡ moved m
        placed_is =
            let contents : put by_entry (record { parent = row.row.id; name_id = m; inode = r.id }) cs ≡ (moved m).contents =
            ap (λ k. put by_entry (record { parent = k; name_id = m; inode = r.id }) cs) row.id ∙ rows in
            let inodes : put by_inode (stamped_row now r) (put by_inode (touched_row now row.row) (put by_inode (touched_row now row.row) touched_rows)) ≡ (moved m).inodes =
            ap (put by_inode (stamped_row now r)) (put-put by_inode nat_cmp_total (touched_row now row.row) touched_rows ∙ ap (λ x. put by_inode x touched_rows) row.again) in
            λ i. record (moved m) { contents = contents i; inodes = inodes i }

        pub Owes-moved : Owes (moved m) q links uses
        Owes-moved = subst (λ (u : Tables). Owes u q links uses) placed_is (Owes-placed ready cleared q e r m now new_name links uses is_placing)

        pub Represents-moved : Represents (moved m) final
        Represents-moved =
            subst (λ (u : Tables). Represents u final) placed_is
            (subst (λ k. Represents placed_rows (change_node k (stamped now) (add_entry new_parent new_name k now (drop_entry new_parent new_name now left)))) (sym child)
            (subst (λ k. Represents placed_rows (change_node r.id (stamped now) (add_entry k new_name r.id now (drop_entry k new_name now left)))) (row.id ∙ sym at_new_parent)
            (Represents-placed ready cleared q e r m now new_name links uses is_placing)))

        pub moved_there : Owes (moved m) q links uses × Represents (moved m) final
        moved_there = (Owes-moved, Represents-moved)

    -- where the new directory has no entry of the name
    pub moved_to_new : entry_at whole new_parent new_name ≡ None → (q : Parameters) (m : ℕ) → Owes lifted q (r.id ∷ []) (m ∷ []) → Represents lifted left
        → IsTrue (is_some (name_at lifted m)) → bytes_of_name lifted m ≡ new_name → Owes (moved m) q [] [] × Represents (moved m) final
    moved_to_new absent q m o same named bytes =
        moved_there (without by_entry (c.parent, c.name_id) t.contents) q m [] []
        (Owes-put_inode_same lifted q row.row (touched_row now row.row) (r.id ∷ []) (m ∷ []) o row.there refl refl refl)
        (Represents-touch_unlisted lifted left row.row new_name now o.ordered.inodes same row.there still_absent)
        named bytes children refl
      where
        still_absent : entry_at left row.row.id new_name ≡ None
        still_absent =
            ap (λ k. entry_at left k new_name) (row.id ∙ sym at_new_parent)
            ∙ (shape-drop_entry parent name now whole is.well.names).rest new_parent new_name
            (λ place. none_some (entry_at whole new_parent new_name) c.inode absent (ap (λ k. entry_at whole k new_name) place.0 ∙ ap (entry_at whole parent) place.1 ∙ entry))
            ∙ absent
