-- The plan of a new file.
use Rattle.std.proofs.Common.{◌≡◌, ℕ, List, [], ◌∷◌, ◌++◌, Bool, false, Option, None, Some, refl, sym, ap, ◌∙◌, subst, arith}
use Rattle.std.specs.Prelude.{◌^◌, nat_le, option_map}
use Rattle.s3_base.specs.Errors.{enospc}
use Rattle.s3_base.specs.declared.errors.Errno.{Errno}
use Rattle.s3_base.specs.declared.node_kind.Kind.TheVariants as kinds
use Rattle.op_frames.specs.declared.operation.Op.TheVariants as ops
use Rattle.op_frames.specs.declared.reply.Attr.{Attr}
use Rattle.op_frames.specs.declared.reply.Reply.TheVariants as replies
use Rattle.plain_tree.specs.Tree.{Tree}
use Rattle.plain_tree.specs.Attributes.{attr_of}
use Rattle.plain_tree.specs.Checks.{fails_with, first_failure, name_check, mode_check, hand_check}
use Rattle.plain_tree.specs.Operations.{checks, effect, success, new_file}
use Rattle.s3_rows.specs.declared.change.Change.{Change}
use Rattle.s3_rows.specs.Rows.{Inode, Parameters}
use Rattle.s3_rows.specs.Tables.{Tables}
use Rattle.s3_rows.specs.Batches.{tables_after}
use Rattle.s3_rows.specs.Selections.{inode_at}
use Rattle.tree_rows.specs.Attrs.{attr_of_row}
use Rattle.tree_rows.specs.Shapes.{Represents}
use Rattle.tree_rows.proofs.Attributed.{attr_alike}
use Rattle.op_checks.proofs.Nodes.{next_inode-row, node_there}
use Rattle.ref_counts.specs.Handles.{OpenHandles, HasHandles}
use Rattle.ref_counts.specs.Names.{Raised, raised}
use Rattle.ref_counts.specs.Plans.{IsStep, IsPlanOf}
use Rattle.ref_counts.specs.declared.plan.Plan.{Plan}
use Rattle.ref_counts.specs.declared.plan.Plan.TheVariants as plans
use Rattle.row_steps.specs.RowChanges.{creation, new_file_row, with_drawn}
use Rattle.dir_ops.specs.Places.{place_checks}
use Rattle.dir_ops.specs.Plans.{entry_plan}
use Rattle.dir_ops.proofs.FirstFailures.{failure_stays, first_failure-behind}
use Rattle.dir_ops.proofs.NewEntry.{creation_planned}

-- ---- checks

-- the check of the handle is that of the handles at hand
pub hand_is : (whole : Tree) (h : OpenHandles) (full : Bool) → HasHandles h whole → full ≡ nat_le (2 ^ 62) h.next → hand_check whole ≡ fails_with enospc full
hand_is whole h full hands is = ap (λ n. fails_with enospc (nat_le (2 ^ 62) n)) hands.0 ∙ ap (fails_with enospc) (sym is)

module _ (t : Tables) (whole : Tree) (pass parent mode uid gid now : ℕ) (name : List ℕ) (legal : name_check name ≡ None) (fits : mode_check mode ≡ None) where
  behind : first_failure (checks whole pass (ops.Create parent name mode uid gid)) ≡ first_failure (place_checks whole parent name ++ hand_check whole ∷ [])
  behind = λ i. first_failure (legal i ∷ fits i ∷ place_checks whole parent name ++ hand_check whole ∷ [])

  -- the place is refused
  pub refused_place : (errno : Errno) → first_failure (place_checks whole parent name) ≡ Some errno.0 → IsPlanOf t whole pass (ops.Create parent name mode uid gid) now (plans.Refuse errno)
  refused_place errno refused = behind ∙ failure_stays (place_checks whole parent name) (hand_check whole ∷ []) errno.0 refused

  -- or no handle is left
  pub refused_hand : (errno : Errno) → first_failure (place_checks whole parent name) ≡ None → hand_check whole ≡ Some errno.0
      → IsPlanOf t whole pass (ops.Create parent name mode uid gid) now (plans.Refuse errno)
  refused_hand errno open_place full =
      behind ∙ first_failure-behind (place_checks whole parent name) (hand_check whole ∷ []) open_place ∙ ap (λ (check : Option ℕ). first_failure (check ∷ [])) full

  -- ---- the plan

  module _ (h : OpenHandles) (p : Parameters) (directory : Inode) (set : t.params ≡ Some p) (same : Represents t whole) (hands : HasHandles h whole)
      (open_place : first_failure (place_checks whole parent name) ≡ None) (free_hand : hand_check whole ≡ None) where
    abbrev new : Inode
    new = new_file_row p.next_inode mode uid gid now

    abbrev next : Tree
    next = effect whole pass (ops.Create parent name mode uid gid) now

    abbrev after : Raised → Tables
    after more = tables_after (creation p directory more new now) t

    passes : first_failure (checks whole pass (ops.Create parent name mode uid gid)) ≡ None
    passes = behind ∙ first_failure-behind (place_checks whole parent name) (hand_check whole ∷ []) open_place ∙ ap (λ (check : Option ℕ). first_failure (check ∷ [])) free_hand

    -- the reply is the tree's
    opened_is : (more : Raised) → IsStep t (after more) next 1 → inode_at (after more) p.next_inode ≡ Some new
        → replies.Opened h.next (attr_of_row new) ≡ success whole pass (ops.Create parent name mode uid gid) now
    opened_is more step there =
        let seen = node_there (after more) next step.represents p.next_inode new there in
        let alike : attr_of next p.next_inode seen.0 ≡ attr_of_row new = attr_alike (after more) next p.next_inode new seen.0 step.valid step.represents there (omega arith) seen.2 in
        let own : attr_of_row new ≡ attr_of next p.next_inode (new_file mode uid gid now) = λ i. record {
          inode = p.next_inode;
          kind = kinds.Regular;
          mode = mode;
          uid = uid;
          gid = gid;
          links = (ap (λ (a : Attr). a.links) (sym alike)) i;
          size = 0;
          mtime = now;
          ctime = now;
          locked = false;
        } in
        let number : p.next_inode ≡ whole.next_inode = sym (next_inode-row t whole p same set) in
        (λ i. replies.Opened (sym hands.0 i) (own i)) ∙ ap (λ x. replies.Opened whole.next_handle (attr_of next x (new_file mode uid gid now))) number

    pub file_planned : (row : Inode) → row ≡ new → (batch : Option (List Change)) → batch ≡ option_map (λ (more : Raised). creation p directory more row now) (raised (with_drawn p t) name)
        → (plan : Plan) → plan ≡ entry_plan batch (replies.Opened h.next (attr_of_row row))
        → (first_failure (checks whole pass (ops.Create parent name mode uid gid)) ≡ None → (more : Raised) → raised (with_drawn p t) name ≡ Some more → IsStep t (after more) next 1 × (inode_at (after more) p.next_inode ≡ Some new))
        → IsPlanOf t whole pass (ops.Create parent name mode uid gid) now plan
    file_planned row row_is batch batch_is plan plan_is steps =
        subst (λ (x : Plan). IsPlanOf t whole pass (ops.Create parent name mode uid gid) now x)
        (sym (plan_is ∙ ap (λ (r : Inode). entry_plan batch (replies.Opened h.next (attr_of_row r))) row_is))
        (creation_planned t whole pass (ops.Create parent name mode uid gid) now p directory new name (replies.Opened h.next (attr_of_row new)) (record {
          set = set;
          passes = passes;
          worn = λ is. is;
          usable = λ is. is;
          changes = refl;
          step = λ more used. (steps passes more used).0;
          replies = λ more used. opened_is more (steps passes more used).0 (steps passes more used).1;
        })
        batch (batch_is ∙ ap (λ (r : Inode). option_map (λ (more : Raised). creation p directory more r now) (raised (with_drawn p t) name)) row_is))
