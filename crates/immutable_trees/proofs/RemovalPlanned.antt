-- The plan of a RemoveTree is right.
use Rattle.std.proofs.Common.{◌≡◌, ℕ, List, [], ◌∷◌, ◌++◌, length, Bool, true, false, Option, None, Some, refl, sym, ap, ◌∙◌, subst, arith, ne_eqb, length-append}
use Rattle.std.proofs.lemmas.Bool.{and_parts, false_from_ne_true}
use Rattle.std.proofs.lemmas.Cmp.{nat_list_cmp_total}
use Rattle.std.specs.Prelude.{IsTrue, ◌==◌, is_some, not, option_and_then, option_map, unwrap_or}
use Rattle.std.specs.Cmp.{tied_back, tied_itself}
use Rattle.std.specs.List.{list_all, list_any}
use Rattle.std.specs.Ordering.{is_eq}
use Rattle.s3_base.specs.declared.errors.Errno.{Errno}
use Rattle.s3_base.specs.declared.node_kind.Kind.TheVariants as kinds
use Rattle.op_frames.specs.declared.operation.Op.TheVariants as ops
use Rattle.plain_tree.specs.Below.{is_at_or_below}
use Rattle.plain_tree.specs.Checks.{directory_check, first_failure}
use Rattle.plain_tree.specs.Entries as tree
use Rattle.plain_tree.specs.Entries.{child_at, is_folder}
use Rattle.plain_tree.specs.Operations.{checks, drop_checks, effect}
use Rattle.plain_tree.specs.Tree.{Tree, node_at}
use Rattle.s3_rows.specs.declared.change.Change.{Change}
use Rattle.s3_rows.specs.Batches.{tables_after}
use Rattle.s3_rows.specs.Keyed.{has_key}
use Rattle.s3_rows.specs.Rows.{Content, Inode, Name}
use Rattle.s3_rows.specs.Selections.{bytes_cmp, bytes_of_name, entry_at, inode_at, name_at, name_of_bytes}
use Rattle.s3_rows.specs.Tables.{Tables, by_entry, by_name}
use Rattle.s3_rows.specs.Validity.{HasUniqueNames, IsValid, any_kind, finds_of_entry, has_inode, have_same_bytes, is_directory}
use Rattle.row_lemmas.proofs.Tests.{equal_from_is_eq, find_from_list_any, find_passes, find_passes_all, list_any_from_find}
use Rattle.tree_laws.proofs.Node.Kind.{folder_kind, kind_in, one_some}
use Rattle.tree_laws.proofs.Shape.Below.{below_shape}
use Rattle.tree_laws.proofs.Shape.Definition.{grown_of}
use Rattle.tree_laws.proofs.Shape.Gain.{no_round}
use Rattle.tree_laws.proofs.Shape.Tree.{shape_of}
use Rattle.tree_laws.proofs.Shape.Words.{Grown, NoneGoes}
use Rattle.tree_rows.proofs.Whole.{folder_is, number_of}
use Rattle.op_checks.specs.Rows.{directory_row_check}
use Rattle.op_checks.proofs.Nodes.{directory_check-row}
use Rattle.op_checks.proofs.RowKinds.{Directory_from_passes}
use Rattle.ref_counts.specs.Handles.{HasHandles, OpenHandles}
use Rattle.ref_counts.specs.Plans.{IsPlanOf, IsStep}
use Rattle.ref_counts.proofs.Idle.{IsStep-same, IsWorn-nameless}
use Rattle.row_steps.proofs.Owed.Inodes.{one_number}
use Rattle.dir_ops.proofs.FirstFailures.{first_failure-behind}
use Rattle.immutable_trees.specs.Branches.{CanRemove, IsThere}
use Rattle.immutable_trees.specs.Levels.{lock_plan}
use Rattle.immutable_trees.specs.Removals.{FindsEntry}
use Rattle.immutable_trees.specs.RemovedRows.{AreGone, Gone, HasOwn, all_taken, uprooted, uprooting}
use Rattle.immutable_trees.proofs.ListedRows.{entry_in_tree, same_row}
use Rattle.immutable_trees.proofs.RemovedSteps.{IsOnTheWay, all_steps, removed_step}
use Rattle.immutable_trees.proofs.ShrunkTree.{LeavesOuter-refl, Shrinks-refl}
use Rattle.immutable_trees.proofs.TakenRest.{Rest-refl}

some_of : {X : Type 0} (found : Option X) → IsTrue (is_some found) → (x : X) × (found ≡ Some x)
some_of None is = absurd (cc is)
some_of (Some x) is = (x, refl)

some_row : (found : Option Inode) → IsTrue (elim found [ Some r ↦ any_kind r.kind | None ↦ false ]) → (r : Inode) × (found ≡ Some r)
some_row None is = absurd (cc is)
some_row (Some r) is = (r, refl)

-- the name with its own bytes, where no two have the same
by_bytes : (t : Tables) → HasUniqueNames t → (id : ℕ) (n : Name) → name_at t id ≡ Some n → name_of_bytes t n.name ≡ Some n
by_bytes t unique id n found =
    let test : Name → Bool = λ x. is_eq (bytes_cmp x.name n.name) in
    let any : IsTrue (list_any test t.names) = list_any_from_find (has_key by_name id) test t.names n found (ap is_eq (tied_itself nat_list_cmp_total n.name)) in
    let x = find_from_list_any test t.names any in
    let first : IsTrue (have_same_bytes x.0 n) = find_passes test t.names x.0 x.1 in
    let second : IsTrue (have_same_bytes n x.0) = ap is_eq (tied_back nat_list_cmp_total x.0.name n.name (equal_from_is_eq (bytes_cmp x.0.name n.name) first)) in
    x.1 ∙ ap Some (same_row have_same_bytes test (has_key by_name id) t.names x.0 n unique x.1 found first second)

module _ (told : Tables) (whole : Tree) (pass parent now : ℕ) (name : List ℕ) (entry : Content) (child : Inode) (finds : FindsEntry told whole parent name entry child) where
  -- the tree has the entry
  entry_named : tree.entry_at whole parent name ≡ Some entry.inode
  entry_named = (λ i. tree.entry_at whole (sym finds.directory i) (sym finds.bytes i)) ∙ entry_in_tree told whole finds.valid finds.same entry finds.there

  checks_are : first_failure (checks whole pass (ops.RemoveTree parent name)) ≡ first_failure (directory_row_check (Some child) ∷ [])
  checks_are =
      first_failure-behind (drop_checks whole parent name) (directory_check (child_at whole parent name) ∷ []) finds.passes
      ∙ ap (λ c. first_failure (c ∷ []))
      (ap (λ found. directory_check (option_and_then (node_at whole) found)) entry_named ∙ directory_check-row told whole finds.same entry.inode ∙ ap directory_row_check finds.inode)

  pub removal_refused : (errno : Errno) → directory_row_check (Some child) ≡ Some errno.0 → first_failure (checks whole pass (ops.RemoveTree parent name)) ≡ Some errno.0
  removal_refused errno is = checks_are ∙ ap (λ c. first_failure (c ∷ [])) is

  module _ (directory : directory_row_check (Some child) ≡ None) where
    passes : first_failure (checks whole pass (ops.RemoveTree parent name)) ≡ None
    passes = checks_are ∙ ap (λ c. first_failure (c ∷ [])) directory

    folder : IsTrue (is_folder (node_at whole entry.inode))
    folder =
        folder_is told whole finds.same entry.inode ∙ ap (λ (row : Option Inode). elim row [ Some y ↦ is_directory y.kind | None ↦ false ]) finds.inode
        ∙ ap is_directory (Directory_from_passes child.kind directory)

    pub can_remove : (handles : OpenHandles) → HasHandles handles whole → CanRemove told whole parent entry.inode name handles
    can_remove handles held = record {
      valid = finds.valid;
      same = finds.same;
      well = finds.well;
      names = entry_named;
      folder = folder;
      slots = finds.slots;
      held = held;
    }

    grown : Grown NoneGoes (shape_of whole)
    grown = grown_of whole finds.well.nodes finds.well.names finds.well.tree finds.well.orphans

    outside : is_at_or_below whole entry.inode parent ≡ false
    outside =
        false_from_ne_true (is_at_or_below whole entry.inode parent)
        (λ within. no_round NoneGoes (shape_of whole) entry.inode (is_at_or_below whole entry.inode) (below_shape whole finds.well.names entry.inode) grown (λ no. no)
        (folder_kind (node_at whole entry.inode) folder) parent name within entry_named)

    module _ (gone : List Gone) (are : AreGone now whole entry.inode told gone) where
      abbrev left : Tables
      left = tables_after (all_taken now told gone) told

      way : IsOnTheWay whole now entry.inode parent name finds.well entry_named told left
      way =
          all_steps whole now entry.inode parent name finds.well entry_named told gone told
          (record {
            tree = whole;
            shrinks = Shrinks-refl whole now finds.well;
            outer = LeavesOuter-refl whole entry.inode;
            step = IsStep-same told whole 0 finds.valid finds.same;
            rest = Rest-refl told;
            kept = λ q id out. refl;
          }) are

      valid_left : IsValid left
      valid_left = way.step.valid

      there_left : IsThere left entry
      there_left = way.kept entry.parent entry.name_id (ap (is_at_or_below whole entry.inode) finds.directory ∙ outside) ∙ finds.there

      finds_left : IsTrue (finds_of_entry left entry)
      finds_left = find_passes_all (has_key by_entry (entry.parent, entry.name_id)) (finds_of_entry left) left.contents entry valid_left.rows.entries there_left

      name_left : (n : Name) × (name_at left entry.name_id ≡ Some n)
      name_left =
          some_of (name_at left entry.name_id)
          (and_parts (has_inode is_directory left entry.parent) (is_some (name_at left entry.name_id)) (and_parts _ (has_inode any_kind left entry.inode) finds_left).0).1

      child_left : (r : Inode) × (inode_at left entry.inode ≡ Some r)
      child_left = some_row (inode_at left entry.inode) (and_parts _ (has_inode any_kind left entry.inode) finds_left).1

      -- its directory has a row
      pub directory_left : inode_at left entry.parent ≡ None → ⊥
      directory_left none =
          let own : IsTrue (has_inode is_directory left entry.parent) =
          (and_parts (has_inode is_directory left entry.parent) (is_some (name_at left entry.name_id)) (and_parts _ (has_inode any_kind left entry.inode) finds_left).0).0 in
          let clash : false ≡ true = sym (ap (λ (row : Option Inode). elim row [ Some y ↦ is_directory y.kind | None ↦ false ]) none) ∙ own in
          cc clash

      -- the name has the same bytes still
      bytes_left : name_left.0.name ≡ name
      bytes_left =
          let last : Grown NoneGoes (shape_of way.tree) = grown_of way.tree way.shrinks.well.nodes way.shrinks.well.names way.shrinks.well.tree way.shrinks.well.orphans in
          let first : tree.entry_at way.tree parent name ≡ Some entry.inode = way.outer.entries parent name outside ∙ entry_named in
          let own : tree.entry_at way.tree entry.parent (bytes_of_name left entry.name_id) ≡ Some entry.inode =
          entry_in_tree left way.tree valid_left way.step.represents entry there_left in
          let kind = last.there parent entry.inode name first in
          let directory_kind : kind_in (node_at way.tree entry.inode) ≡ Some kinds.Directory =
          kind.1 ∙ ap Some (one_some (kind_in (node_at whole entry.inode)) kind.0 kinds.Directory (way.shrinks.kind entry.inode kind.0 kind.1) (folder_kind (node_at whole entry.inode) folder)) in
          let place = last.once parent entry.parent entry.inode name (bytes_of_name left entry.name_id) directory_kind first own in
          sym (ap (λ (found : Option Name). unwrap_or (option_map (λ x. x.name) found) []) name_left.1) ∙ place.1

      module _ (empty : IsTrue (list_all (λ (x : Content). not (x.parent == entry.inode)) left.contents)) (holder : Inode) (found : inode_at left entry.parent ≡ Some holder) where
        abbrev n : Name
        n = name_left.0

        abbrev r : Inode
        r = child_left.0

        number : entry.inode ≡ r.id
        number = number_of left entry.inode r child_left.1

        abbrev batch : List Change
        batch = uprooting now told gone holder r entry n

        step : IsStep told (tables_after batch told) (effect whole pass (ops.RemoveTree parent name) now) 0
        step =
            removed_step told whole holder r entry n gone pass parent now entry.inode name finds.valid finds.well finds.same passes entry_named are
            (ap (inode_at left) (sym finds.directory) ∙ found)
            (ap (name_of_bytes left) (sym bytes_left) ∙ by_bytes left (way.step.unique finds.unique) entry.name_id n name_left.1)
            (entry_key ∙ there_left) child_left.1 (subst (λ x. IsTrue (list_all (λ (c : Content). not (c.parent == x)) left.contents)) number empty)
          where
            entry_key : entry_at left parent n.id ≡ entry_at left entry.parent entry.name_id
            entry_key = (λ i. entry_at left (sym finds.directory i) (sym (name_id left entry.name_id n name_left.1) i))
              where
                name_id : (t : Tables) (id : ℕ) (m : Name) → name_at t id ≡ Some m → id ≡ m.id
                name_id t id m own = one_number id m.id (find_passes (has_key by_name id) t.names m own)

        some_batch : (length batch == 0) ≡ false
        some_batch =
            let more : List Change = uprooted now left holder r entry n in
            ne_eqb (length batch) 0 (λ none. absurd (omega (arith, none, length-append (all_taken now told gone) more)))

        pub removal_planned : (new : List Change)
            → ((m : Name) (x : Inode) → name_at left entry.name_id ≡ Some m → x.id ≡ entry.inode → HasOwn told left x.id → new ≡ all_taken now told gone ++ uprooted now left holder x entry m)
            → IsPlanOf told whole pass (ops.RemoveTree parent name) now (lock_plan (Some new))
        removal_planned new added =
            let living : IsTrue (is_some (inode_at left r.id)) = ap (λ x. is_some (inode_at left x)) (sym number) ∙ ap is_some child_left.1 in
            let own : HasOwn told left r.id = record { attrs = way.rest.attrs r.id living; target = way.rest.targets r.id living; places = way.rest.places r.id living } in
            subst (λ (b : List Change). IsPlanOf told whole pass (ops.RemoveTree parent name) now (lock_plan (Some b))) (sym (added n r name_left.1 (sym number) own))
            (passes, refl, step, some_batch, refl, IsWorn-nameless told whole (ops.RemoveTree parent name) refl)
