-- The plan of a new directory.
use Rattle.std.proofs.Common.{◌≡◌, ℕ, List, ◌∷◌, Option, None, Some, refl, sym, ap, ◌∙◌, subst, arith}
use Rattle.std.specs.Prelude.{option_map}
use Rattle.s3_base.specs.declared.errors.Errno.{Errno}
use Rattle.op_frames.specs.declared.operation.Op.TheVariants as ops
use Rattle.op_frames.specs.declared.reply.Reply.TheVariants as replies
use Rattle.plain_tree.specs.Tree.{Tree}
use Rattle.plain_tree.specs.Checks.{first_failure, name_check, mode_check}
use Rattle.plain_tree.specs.Operations.{attr_reply, checks, effect}
use Rattle.s3_rows.specs.declared.change.Change.{Change}
use Rattle.s3_rows.specs.Rows.{Inode, Parameters}
use Rattle.s3_rows.specs.Tables.{Tables}
use Rattle.s3_rows.specs.Batches.{tables_after}
use Rattle.s3_rows.specs.Selections.{inode_at}
use Rattle.tree_rows.specs.Attrs.{attr_of_row}
use Rattle.tree_rows.specs.Shapes.{Represents}
use Rattle.tree_rows.proofs.Attributed.{attr_is}
use Rattle.op_checks.proofs.Nodes.{next_inode-row}
use Rattle.ref_counts.specs.Names.{Raised, raised}
use Rattle.ref_counts.specs.Plans.{IsStep, IsPlanOf}
use Rattle.ref_counts.specs.declared.plan.Plan.{Plan}
use Rattle.ref_counts.specs.declared.plan.Plan.TheVariants as plans
use Rattle.row_steps.specs.RowChanges.{creation, new_directory_row, with_drawn}
use Rattle.dir_ops.specs.Places.{place_checks}
use Rattle.dir_ops.specs.Plans.{entry_plan}
use Rattle.dir_ops.proofs.NewEntry.{creation_planned}

module _ (t : Tables) (whole : Tree) (pass parent mode uid gid now : ℕ) (name : List ℕ) (legal : name_check name ≡ None) (fits : mode_check mode ≡ None) where
  behind : first_failure (checks whole pass (ops.Mkdir parent name mode uid gid)) ≡ first_failure (place_checks whole parent name)
  behind = λ i. first_failure (legal i ∷ fits i ∷ place_checks whole parent name)

  -- the place is refused
  pub refused_place : (errno : Errno) → first_failure (place_checks whole parent name) ≡ Some errno.0 → IsPlanOf t whole pass (ops.Mkdir parent name mode uid gid) now (plans.Refuse errno)
  refused_place errno refused = behind ∙ refused

  module _ (p : Parameters) (directory : Inode) (set : t.params ≡ Some p) (same : Represents t whole) (open_place : first_failure (place_checks whole parent name) ≡ None) where
    abbrev new : Inode
    new = new_directory_row p.next_inode mode uid gid now

    abbrev next : Tree
    next = effect whole pass (ops.Mkdir parent name mode uid gid) now

    abbrev after : Raised → Tables
    after more = tables_after (creation p directory more new now) t

    passes : first_failure (checks whole pass (ops.Mkdir parent name mode uid gid)) ≡ None
    passes = behind ∙ open_place

    pub directory_planned : (row : Inode) → row ≡ new → (batch : Option (List Change)) → batch ≡ option_map (λ (more : Raised). creation p directory more row now) (raised (with_drawn p t) name)
        → (plan : Plan) → plan ≡ entry_plan batch (replies.Attr (attr_of_row row))
        → (first_failure (checks whole pass (ops.Mkdir parent name mode uid gid)) ≡ None → (more : Raised) → raised (with_drawn p t) name ≡ Some more → IsStep t (after more) next 1 × (inode_at (after more) p.next_inode ≡ Some new))
        → IsPlanOf t whole pass (ops.Mkdir parent name mode uid gid) now plan
    directory_planned row row_is batch batch_is plan plan_is steps =
        subst (λ (x : Plan). IsPlanOf t whole pass (ops.Mkdir parent name mode uid gid) now x)
        (sym (plan_is ∙ ap (λ (r : Inode). entry_plan batch (replies.Attr (attr_of_row r))) row_is))
        (creation_planned t whole pass (ops.Mkdir parent name mode uid gid) now p directory new name (replies.Attr (attr_of_row new)) (record {
          set = set;
          passes = passes;
          worn = λ is. is;
          usable = λ is. is;
          changes = refl;
          step = λ more used. (steps passes more used).0;
          replies = λ more used.
              let is = steps passes more used in
              sym (ap (attr_reply next) (next_inode-row t whole p same set) ∙ attr_is (after more) next p.next_inode new is.0.valid is.0.represents is.1 (omega arith));
        })
        batch (batch_is ∙ ap (λ (r : Inode). option_map (λ (more : Raised). creation p directory more r now) (raised (with_drawn p t) name)) row_is))
