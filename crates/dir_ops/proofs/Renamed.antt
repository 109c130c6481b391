-- The plan of an entry that moves.
use Rattle.std.proofs.Common.{◌≡◌, ℕ, ◌-◌, List, [], ◌∷◌, ◌++◌, length, Bool, true, false, cond, drop, Option, None, Some, Ok, refl, sym, ap, ◌∙◌, subst, eqb-true}
use Rattle.std.specs.Prelude.{◌==◌, ◌&&◌, ◌||◌, nat_lt, nat_eq, is_some, option_map, if◌then◌else◌}
use Rattle.std.specs.Cmp.{nat_cmp_total}
use Rattle.std.specs.Cmp.Lexicographic.{other_text, pointwise, same_text}
use Rattle.std.specs.FinMap.{nat_cmp-IsAntisymmetric, slice_cmp-IsAntisymmetric}
use Rattle.std.specs.List.{list_any}
use Rattle.std.specs.Ordering.{is_eq}
use Rattle.s3_base.specs.Errors.{einval}
use Rattle.s3_base.specs.declared.errors.Errno.{Errno}
use Rattle.op_frames.specs.declared.operation.Op.{Op}
use Rattle.op_frames.specs.declared.operation.Op.TheVariants as ops
use Rattle.op_frames.specs.declared.reply.Reply.TheVariants as replies
use Rattle.plain_tree.specs.Tree.{Handle, Tree}
use Rattle.plain_tree.specs.Below.{is_at_or_below}
use Rattle.plain_tree.specs.Checks.{fails_with, first_failure}
use Rattle.plain_tree.specs.Classes.{keeps_rows, name_used}
use Rattle.plain_tree.specs.Entries.{child_at, entry_at, is_open}
use Rattle.plain_tree.specs.Operations.{checks, effect, move_checks}
use Rattle.plain_tree.specs.Subtrees.{is_same}
use Rattle.plain_tree.specs.WellFormed.{IsWellFormed}
use Rattle.s3_rows.specs.declared.change.Change.{Change}
use Rattle.s3_rows.specs.declared.change.Change.TheVariants as changes
use Rattle.s3_rows.specs.Rows.{Inode, Name, Content}
use Rattle.s3_rows.specs.Keyed.{has_key, put, without}
use Rattle.s3_rows.specs.Tables.{Tables, by_entry, by_inode, by_name}
use Rattle.s3_rows.specs.Batches.{tables_after}
use Rattle.s3_rows.specs.Selections.{inode_at, name_at, name_of_bytes, bytes_cmp}
use Rattle.s3_rows.specs.Selections as selections
use Rattle.s3_rows.specs.Validity.{IsValid, HasUniqueNames, is_directory}
use Rattle.row_lemmas.proofs.Tests.{equal_from_is_eq, find_passes, is_eq-nat_cmp}
use Rattle.row_lemmas.proofs.Keyed.RowAt.{row_at_from_find}
use Rattle.tree_rows.specs.Shapes.{Represents}
use Rattle.tree_rows.proofs.Whole.{number_of}
use Rattle.ref_counts.specs.Handles.{OpenHandles, HasHandles, is_held}
use Rattle.ref_counts.specs.Links.{places_of_gone}
use Rattle.ref_counts.specs.Removals.{removal}
use Rattle.ref_counts.specs.Names.{Raised, StaysUnique, raised, raised_of}
use Rattle.ref_counts.specs.Plans.{IsNameWorn, IsStep, IsPlanOf}
use Rattle.ref_counts.specs.declared.plan.Plan.{Plan}
use Rattle.ref_counts.specs.declared.plan.Plan.TheVariants as plans
use Rattle.ref_counts.proofs.Named.{delete_found, put_found}
use Rattle.ref_counts.proofs.Overlay.{kept}
use Rattle.ref_counts.proofs.NonEmpty.{some_between, some_change}
use Rattle.row_steps.specs.RowChanges.{counted_row, dropping, moving, name_of_replaced, other_name, replacing, same_name, touched_row}
use Rattle.row_steps.proofs.Leaving.{HasUniqueNames-dropped, IsLeaving, name_is, named}
use Rattle.dir_ops.specs.declared.moves.Move.{Move}
use Rattle.dir_ops.specs.Moves.{IsMove, both_checks, is_itself, moved_changes, over_checks}
use Rattle.dir_ops.specs.OldEntries.{child_named}
use Rattle.dir_ops.specs.Plans.{entry_plan}
use Rattle.dir_ops.proofs.Entering.{entering_planned}
use Rattle.dir_ops.proofs.FirstFailures.{failure_stays}
use Rattle.dir_ops.proofs.Moving.{itself_is, itself_passes, move_checks-rows, old_is, replaced_is, used_is}
use Rattle.dir_ops.proofs.OldEntries.{child_parts, is_leaving, name_found, old_name}

-- ---- a name that is used once less leaves the others

module _ (t : Tables) (v : IsValid t) (unique : HasUniqueNames t) (n : Name) (there : name_at t n.id ≡ Some n) (bytes : List ℕ) (other : is_eq (bytes_cmp n.name bytes) ≡ false) where
  found_beside : kept by_name n.id (name_of_bytes t bytes) ≡ name_of_bytes t bytes
  found_beside = by_row (name_of_bytes t bytes) refl
    where
      by_row : (found : Option Name) → name_of_bytes t bytes ≡ found → kept by_name n.id found ≡ found
      by_row None is = refl
      by_row (Some x) is = by_id (has_key by_name n.id x) refl
        where
          by_id : (b : Bool) → has_key by_name n.id x ≡ b → cond b None (Some x) ≡ Some x
          by_id false apart = refl
          by_id true alike =
              let own : name_at t x.id ≡ Some x = row_at_from_find by_name nat_cmp_total (λ (y : Name). is_eq (bytes_cmp y.name bytes)) t.names x v.ordered.names is in
              let same : n.id ≡ x.id = eqb-true n.id x.id (sym (is_eq-nat_cmp n.id x.id) ∙ alike) in
              let one : x ≡ n = cc (sym own ∙ ap (name_at t) (sym same) ∙ there) in
              let clash : false ≡ true =
              sym other ∙ ap (λ (y : Name). is_eq (bytes_cmp y.name bytes)) (sym one) ∙ find_passes (λ (y : Name). is_eq (bytes_cmp y.name bytes)) t.names x is in
              absurd (cc clash)

  module _ (d : Inode) (c : Content) (now : ℕ) where
    abbrev before : Tables
    before = record t { contents = without by_entry (c.parent, c.name_id) t.contents; inodes = put by_inode (touched_row now d) t.inodes }

    abbrev lower : Name
    lower = record n { refcount = n.refcount - 1 }

    abbrev changed : Bool → List Change
    changed b = if b then changes.DeleteName n.id ∷ [] else changes.PutName lower ∷ []

    raised_beside : (b : Bool) → HasUniqueNames (tables_after (changed b) before) → raised (tables_after (changed b) before) bytes ≡ raised t bytes
    raised_beside true after =
        ap (λ (found : Option Name). raised_of bytes found t.params) (sym (delete_found t n.id bytes unique) ∙ found_beside)
    raised_beside false after =
        ap (λ (found : Option Name). raised_of bytes found t.params)
        (sym (put_found t lower bytes v.ordered unique after)
        ∙ ap (λ b. cond b (Some lower) (kept by_name n.id (name_of_bytes t bytes))) other ∙ found_beside)

    pub raised-dropping : HasUniqueNames (tables_after (dropping d c n now) t) → raised (tables_after (dropping d c n now) t) bytes ≡ raised t bytes
    raised-dropping after = raised_beside (n.refcount == 1) after

-- names stay unique while an entry goes
module _ (t : Tables) (d : Inode) (c : Content) (n : Name) (now : ℕ) (unique : HasUniqueNames t) where
  abbrev left : Tables
  left = record t { contents = without by_entry (c.parent, c.name_id) t.contents; inodes = put by_inode (touched_row now d) t.inodes }

  abbrev last : Bool → List Change
  last b = if b then changes.DeleteName n.id ∷ [] else changes.PutName (record n { refcount = n.refcount - 1 }) ∷ []

  StaysUnique-last : (b : Bool) → HasUniqueNames (tables_after (last b) left) → StaysUnique (last b) left
  StaysUnique-last true after = (unique, after)
  StaysUnique-last false after = (unique, after)

  StaysUnique-dropping : HasUniqueNames (tables_after (dropping d c n now) t) → StaysUnique (dropping d c n now) t
  StaysUnique-dropping after = (unique, (unique, StaysUnique-last (n.refcount == 1) after))

-- ---- the plan

module _ (t : Tables) (whole : Tree) (pass parent new_parent now : ℕ) (name new_name : List ℕ) where
  abbrev op : Op
  op = ops.Rename parent name new_parent new_name

  -- a check of both names fails
  pub refused_both : (errno : Errno) → first_failure (both_checks whole parent name new_parent new_name) ≡ Some errno.0 → IsPlanOf t whole pass op now (plans.Refuse errno)
  refused_both errno refused =
      failure_stays (both_checks whole parent name new_parent new_name)
      (cond (is_same (entry_at whole new_parent new_name) (entry_at whole parent name)) []
      (move_checks whole (entry_at whole parent name) (child_at whole parent name) (child_at whole new_parent new_name) new_parent))
      errno.0 refused

  module _ (v : IsValid t) (unique : HasUniqueNames t) (same : Represents t whole) (well : IsWellFormed whole) (m : Move)
      (is : IsMove t whole parent name new_parent new_name (Ok m)) where
    -- what the batch of each form of a Rename by which an entry moves makes of tables
    pub record HasSteps : Type 0 where
      pub same_name : (n : Name) → name_of_bytes t name ≡ Some n → selections.entry_at t parent n.id ≡ Some m.old.entry → inode_at t m.old.entry.inode ≡ Some m.old.child
          → first_failure (checks whole pass (ops.Rename parent name new_parent name)) ≡ None → entry_at whole new_parent name ≡ None
          → IsStep t (tables_after (moving m.old.directory m.directory m.old.entry (same_name m.old.entry) m.old.child now) t)
          (effect whole pass (ops.Rename parent name new_parent name) now) 0
      pub other_name : (n : Name) (more : Raised) → name_of_bytes t name ≡ Some n → selections.entry_at t parent n.id ≡ Some m.old.entry
          → inode_at t m.old.entry.inode ≡ Some m.old.child → first_failure (checks whole pass op) ≡ None → entry_at whole new_parent new_name ≡ None
          → raised (tables_after (dropping m.old.directory m.old.entry n now) t) new_name ≡ Some more
          → IsStep t (tables_after (moving m.old.directory m.directory m.old.entry (other_name n more) m.old.child now) t) (effect whole pass op now) 1
      pub replaced : (n n2 : Name) (c2 : Content) (r2 : Inode) (held : Bool) → name_of_bytes t name ≡ Some n → selections.entry_at t parent n.id ≡ Some m.old.entry
          → inode_at t m.old.entry.inode ≡ Some m.old.child → name_of_bytes t new_name ≡ Some n2 → selections.entry_at t new_parent n2.id ≡ Some c2
          → inode_at t c2.inode ≡ Some r2 → is_open whole c2.inode ≡ held → first_failure (checks whole pass op) ≡ None → (c2.inode == m.old.entry.inode) ≡ false
          → IsStep t (tables_after (replacing (nat_lt 1 r2.refcount || held) t m.old.directory m.directory m.old.child r2 m.old.entry c2 n now) t) (effect whole pass op now) 0

    abbrev used_of : Bool → Option (List ℕ)
    used_of b = if b then None else Some new_name

    used : name_used whole op ≡ used_of (is_some m.replaced || pointwise nat_eq name new_name)
    used = used_is t whole v same parent name new_parent new_name m is pass

    keeps : keeps_rows whole pass op ≡ is_itself m
    keeps = itself_is t whole v same parent name new_parent new_name m is

    -- a batch that uses no name more
    settled : first_failure (checks whole pass op) ≡ None → (is_some m.replaced || pointwise nat_eq name new_name) ≡ true → (batch : List Change)
        → (length batch == 0) ≡ is_itself m → IsStep t (tables_after batch t) (effect whole pass op now) 0 → IsPlanOf t whole pass op now (entry_plan (Some batch) replies.Done)
    settled passes none batch some step =
        let no_name : name_used whole op ≡ None = used ∙ ap used_of none in (
          passes,
          refl,
          subst (λ (u : Option (List ℕ)). IsStep t (tables_after batch t) (effect whole pass op now) (cond (is_some u) 1 0)) (sym no_name) step,
          some ∙ sym keeps,
          refl,
          λ worn. subst (IsNameWorn t) no_name worn,
        )

    -- both names name one inode
    pub itself_planned : is_itself m ≡ true
        → (is_same (entry_at whole new_parent new_name) (entry_at whole parent name) ≡ true → IsStep t (tables_after [] t) (effect whole pass op now) 0) → (plan : Plan) → plan ≡ entry_plan (Some []) replies.Done → IsPlanOf t whole pass op now plan
    itself_planned itself step plan plan_is =
        subst (IsPlanOf t whole pass op now) (sym plan_is)
        (settled (itself_passes t whole v same parent name new_parent new_name m is pass itself) (replaced m.replaced itself) [] (sym itself)
        (step (itself_is t whole v same parent name new_parent new_name m is ∙ itself)))
      where
        replaced : (o : Option (Content × Inode)) → elim o [ Some e ↦ e.0.inode == m.old.entry.inode | None ↦ false ] ≡ true
            → (is_some o || pointwise nat_eq name new_name) ≡ true
        replaced None other = absurd (cc other)
        replaced (Some e) own = refl

    module _ (moves : is_itself m ≡ false) where
      abbrev below : Bool
      below = is_directory m.old.child.kind && is_at_or_below whole m.old.child.id m.directory.id

      checked : first_failure (checks whole pass op) ≡ first_failure (fails_with einval below ∷ over_checks t m.old.child m.replaced)
      checked = move_checks-rows t whole v same parent name new_parent new_name m is pass well moves

      pub refused_below : below ≡ true → first_failure (checks whole pass op) ≡ Some einval
      refused_below own = checked ∙ ap (λ b. first_failure (fails_with einval b ∷ over_checks t m.old.child m.replaced)) own

      module _ (apart : below ≡ false) where
        over : first_failure (checks whole pass op) ≡ first_failure (over_checks t m.old.child m.replaced)
        over = checked ∙ ap (λ b. first_failure (fails_with einval b ∷ over_checks t m.old.child m.replaced)) apart

        pub refused_over : (errno : Errno) → first_failure (over_checks t m.old.child m.replaced) ≡ Some errno.0 → IsPlanOf t whole pass op now (plans.Refuse errno)
        refused_over errno refused = over ∙ refused

        module _ (passes_over : first_failure (over_checks t m.old.child m.replaced) ≡ None) (steps : HasSteps) where
          passes : first_failure (checks whole pass op) ≡ None
          passes = over ∙ passes_over

          abbrev n : Name
          n = old_name t whole v unique same parent name m.old (old_is t whole v same parent name new_parent new_name m is)

          leaves : IsLeaving t whole v.params m.old.directory m.old.child m.old.entry n parent name
          leaves = is_leaving t whole v unique same parent name m.old (old_is t whole v same parent name new_parent new_name m is)

          abbrev lifted : Tables
          lifted = tables_after (dropping m.old.directory m.old.entry n now) t

          unique_after : HasUniqueNames lifted
          unique_after = HasUniqueNames-dropped t whole v.params m.old.directory m.old.child m.old.entry n now parent name leaves unique

          abbrev renamed : Raised → List Change
          renamed more = moving m.old.directory m.directory m.old.entry (other_name n more) m.old.child now

          abbrev stays : List Change
          stays = moving m.old.directory m.directory m.old.entry (same_name m.old.entry) m.old.child now

          -- no batch is empty
          changes_rows : (rest : List Change) → (length (changes.DeleteContent m.old.entry.parent m.old.entry.name_id ∷ rest) == 0) ≡ is_itself m
          changes_rows rest = some_change (changes.DeleteContent m.old.entry.parent m.old.entry.name_id) rest ∙ sym moves

          module _ (none : None ≡ m.replaced) where
            absent : entry_at whole new_parent new_name ≡ None
            absent = replaced_is t whole v same parent name new_parent new_name m is ∙ ap (option_map (λ (e : Content × Inode). e.0.inode)) (sym none)

            free : is_some m.replaced ≡ false
            free = ap is_some (sym none)

            same_name_planned : true ≡ pointwise nat_eq name new_name → IsPlanOf t whole pass op now (entry_plan (Some stays) replies.Done)
            same_name_planned alike =
                settled passes (λ i. free i || sym alike i) stays (changes_rows (drop 1 stays))
                (subst (λ (x : List ℕ). IsStep t (tables_after stays t) (effect whole pass (ops.Rename parent name new_parent x) now) 0) one
                (steps.same_name n leaves.bytes leaves.entry leaves.child
                (subst (λ (x : List ℕ). first_failure (checks whole pass (ops.Rename parent name new_parent x)) ≡ None) (sym one) passes)
                (ap (entry_at whole new_parent) one ∙ absent)))
              where
                one : name ≡ new_name
                one = same_text name new_name alike

            other_name_planned : false ≡ pointwise nat_eq name new_name → IsPlanOf t whole pass op now (entry_plan (option_map renamed (raised lifted new_name)) replies.Done)
            other_name_planned unlike =
                entering_planned t whole pass op now (raised lifted new_name) renamed replies.Done (record {
                  passes = passes;
                  worn = λ none_left. subst (IsNameWorn t) (sym one_more) (sym raised_is ∙ none_left);
                  usable = λ worn. raised_is ∙ subst (IsNameWorn t) one_more worn;
                  changes = keeps ∙ moves;
                  some = λ more. some_change (changes.DeleteContent m.old.entry.parent m.old.entry.name_id) (drop 1 (renamed more));
                  step = λ more some.
                      subst (λ (u : Option (List ℕ)). IsStep t (tables_after (renamed more) t) (effect whole pass op now) (cond (is_some u) 1 0)) (sym one_more)
                      (steps.other_name n more leaves.bytes leaves.entry leaves.child passes absent some);
                  replies = λ more some. refl;
                })
                (option_map renamed (raised lifted new_name)) refl
              where
                one_more : name_used whole op ≡ Some new_name
                one_more = used ∙ ap used_of (λ i. free i || sym unlike i)

                apart_bytes : (b : Bool) → is_eq (bytes_cmp n.name new_name) ≡ b → b ≡ false
                apart_bytes false own = refl
                apart_bytes true own =
                    absurd (other_text name new_name unlike
                    (sym (name_is t whole v.params m.old.directory m.old.child m.old.entry n now parent name leaves)
                    ∙ slice_cmp-IsAntisymmetric nat_cmp-IsAntisymmetric n.name new_name (equal_from_is_eq (bytes_cmp n.name new_name) own)))

                other_bytes : is_eq (bytes_cmp n.name new_name) ≡ false
                other_bytes = apart_bytes (is_eq (bytes_cmp n.name new_name)) refl

                own_row : name_at t n.id ≡ Some n
                own_row = row_at_from_find by_name nat_cmp_total (λ (x : Name). is_eq (bytes_cmp x.name name)) t.names n v.ordered.names leaves.bytes

                raised_is : raised lifted new_name ≡ raised t new_name
                raised_is = raised-dropping t v unique n own_row new_name other_bytes m.old.directory m.old.entry now unique_after

          module _ (h : OpenHandles) (has : HasHandles h whole) where
            over_planned : (c2 : Content) (r2 : Inode) → Some (c2, r2) ≡ m.replaced
                → IsPlanOf t whole pass op now
                (entry_plan (Some (replacing (nat_lt 1 r2.refcount || is_held h r2.id) t m.old.directory m.directory m.old.child r2 m.old.entry c2 n now)) replies.Done)
            over_planned c2 r2 there =
                let child : child_named t new_parent new_name ≡ Some (c2, r2) = is.3 ∙ sym there in
                let row : inode_at t c2.inode ≡ Some r2 = (child_parts t new_parent new_name c2 r2 child).1 in
                let own = name_found t new_parent new_name c2 r2 child v unique in
                let number : c2.inode ≡ r2.id = number_of t c2.inode r2 row in
                let held : is_open whole c2.inode ≡ is_held h r2.id = λ i. list_any (λ (e : ℕ × Handle). e.1.inode == number i) (has.1 i) in
                let other : (c2.inode == m.old.entry.inode) ≡ false =
                ap (λ (o : Option (Content × Inode)). elim o [ Some e ↦ e.0.inode == m.old.entry.inode | None ↦ false ]) there ∙ moves in
                let kept : Bool = nat_lt 1 r2.refcount || is_held h r2.id in
                let places : List Change = places_of_gone kept t r2.id in
                let delete : Change = changes.DeleteContent m.old.entry.parent m.old.entry.name_id in
                let more : List Change = drop 1 (moving m.old.directory m.directory m.old.entry (name_of_replaced n c2) m.old.child now) in
                let last : List Change = cond kept (changes.PutInode (counted_row (r2.refcount - 1) now r2) ∷ [])
                (removal t r2.id (tables_after (places ++ moving m.old.directory m.directory m.old.entry (name_of_replaced n c2) m.old.child now) t)) in
                let batch : List Change = replacing kept t m.old.directory m.directory m.old.child r2 m.old.entry c2 n now in
                settled passes (ap (λ (o : Option (Content × Inode)). is_some o || pointwise nat_eq name new_name) (sym there)) batch (some_between places delete more last ∙ sym moves)
                (steps.replaced n own.0 c2 r2 (is_held h r2.id) leaves.bytes leaves.entry leaves.child own.1 own.2 row held passes other)

            by_form : (o : Option (Content × Inode)) → o ≡ m.replaced → (alike : Bool) → alike ≡ pointwise nat_eq name new_name
                → IsPlanOf t whole pass op now (entry_plan
                (elim o as (λ _. Option (List Change)) [
                  | Some e ↦ Some (replacing (nat_lt 1 e.1.refcount || is_held h e.1.id) t m.old.directory m.directory m.old.child e.1 m.old.entry e.0 n now)
                  | None ↦ if alike then Some stays else option_map renamed (raised lifted new_name)
                ]) replies.Done)
            by_form (Some (c2, r2)) there alike own = over_planned c2 r2 there
            by_form None there true own = same_name_planned there own
            by_form None there false own = other_name_planned there own

            pub moved_planned : (alike : Bool) → alike ≡ pointwise nat_eq name new_name → (batch : Option (List Change))
                → ((x : Name) → name_at t m.old.entry.name_id ≡ Some x → StaysUnique (dropping m.old.directory m.old.entry x now) t → batch ≡ moved_changes t h m x alike new_name now)
                → (plan : Plan) → plan ≡ entry_plan batch replies.Done → IsPlanOf t whole pass op now plan
            moved_planned alike alike_is batch batch_is plan plan_is =
                let made : batch ≡ moved_changes t h m n alike new_name now =
                batch_is n (named t whole v.params m.old.directory m.old.child m.old.entry n now parent name leaves)
                (StaysUnique-dropping t m.old.directory m.old.entry n now unique unique_after) in
                subst (IsPlanOf t whole pass op now) (sym (plan_is ∙ ap (λ (b : Option (List Change)). entry_plan b replies.Done) made))
                (by_form m.replaced refl alike alike_is)
