-- The plan of a new symbolic link.
use Rattle.std.proofs.Common.{◌≡◌, ℕ, List, [], ◌∷◌, ◌++◌, Option, None, Some, refl, sym, ap, ◌∙◌, subst, arith}
use Rattle.std.specs.Prelude.{option_map}
use Rattle.s3_base.specs.declared.errors.Errno.{Errno}
use Rattle.op_frames.specs.declared.operation.Op.TheVariants as ops
use Rattle.op_frames.specs.declared.reply.Reply.TheVariants as replies
use Rattle.plain_tree.specs.Tree.{Tree}
use Rattle.plain_tree.specs.Checks.{first_failure, name_check, target_check}
use Rattle.plain_tree.specs.Operations.{attr_reply, checks, effect}
use Rattle.s3_rows.specs.declared.change.Change.{Change}
use Rattle.s3_rows.specs.declared.change.Change.TheVariants as changes
use Rattle.s3_rows.specs.Rows.{Inode, Parameters}
use Rattle.s3_rows.specs.Tables.{Tables}
use Rattle.s3_rows.specs.Batches.{tables_after}
use Rattle.s3_rows.specs.Selections.{inode_at}
use Rattle.row_lemmas.proofs.Tables.{tables_after-tables_after}
use Rattle.tree_rows.specs.Attrs.{attr_of_row}
use Rattle.tree_rows.specs.Shapes.{Represents}
use Rattle.tree_rows.proofs.Attributed.{attr_is}
use Rattle.op_checks.proofs.Nodes.{next_inode-row}
use Rattle.ref_counts.specs.Names.{Raised, raised}
use Rattle.ref_counts.specs.Plans.{IsStep, IsPlanOf}
use Rattle.ref_counts.specs.declared.plan.Plan.{Plan}
use Rattle.ref_counts.specs.declared.plan.Plan.TheVariants as plans
use Rattle.row_steps.specs.RowChanges.{creation, drawn, link_creation, new_link_row, with_drawn}
use Rattle.dir_ops.specs.Places.{place_checks}
use Rattle.dir_ops.specs.Plans.{entry_plan}
use Rattle.ref_counts.proofs.NonEmpty.{some_change}
use Rattle.dir_ops.proofs.Entering.{entering_planned}
use Rattle.dir_ops.proofs.NewEntry.{none_if_drawn, none_from_drawn}

-- changes that are put behind a batch, if there is one
added_to : (batch_of : Raised → List Change) (last : List Change) (usage : Option Raised)
    → option_map (λ cs. cs ++ last) (option_map batch_of usage) ≡ option_map (λ (more : Raised). batch_of more ++ last) usage
added_to batch_of last None = refl
added_to batch_of last (Some more) = refl

module _ (t : Tables) (whole : Tree) (pass parent uid gid now : ℕ) (name target : List ℕ) (legal : name_check name ≡ None) (fits : target_check target ≡ None) where
  behind : first_failure (checks whole pass (ops.Symlink parent name target uid gid)) ≡ first_failure (place_checks whole parent name)
  behind = λ i. first_failure (legal i ∷ fits i ∷ place_checks whole parent name)

  -- the place is refused
  pub refused_link : (errno : Errno) → first_failure (place_checks whole parent name) ≡ Some errno.0 → IsPlanOf t whole pass (ops.Symlink parent name target uid gid) now (plans.Refuse errno)
  refused_link errno refused = behind ∙ refused

  module _ (p : Parameters) (directory : Inode) (set : t.params ≡ Some p) (same : Represents t whole) (open_place : first_failure (place_checks whole parent name) ≡ None) where
    abbrev new : Inode
    new = new_link_row p.next_inode target uid gid now

    abbrev next : Tree
    next = effect whole pass (ops.Symlink parent name target uid gid) now

    abbrev batch_of : Raised → List Change
    batch_of more = link_creation p directory more target uid gid now

    abbrev last : List Change
    last = changes.PutTarget (record { inode = p.next_inode; target = target }) ∷ []

    pub passes : first_failure (checks whole pass (ops.Symlink parent name target uid gid)) ≡ None
    passes = behind ∙ open_place

    pub link_planned : (row : Inode) → row ≡ new → (made batch : Option (List Change))
        → made ≡ option_map (λ (more : Raised). creation p directory more row now) (raised (with_drawn p t) name)
        → batch ≡ option_map (λ cs. cs ++ changes.PutTarget (record { inode = row.id; target = target }) ∷ []) made
        → (plan : Plan) → plan ≡ entry_plan batch (replies.Attr (attr_of_row row))
        → ((more : Raised) → raised (with_drawn p t) name ≡ Some more → IsStep t (tables_after (batch_of more) t) next 1)
        → ((more : Raised) → raised (with_drawn p t) name ≡ Some more → inode_at (tables_after (creation p directory more new now) t) p.next_inode ≡ Some new)
        → IsPlanOf t whole pass (ops.Symlink parent name target uid gid) now plan
    link_planned row row_is made batch made_is batch_is plan plan_is steps rows =
        let all : batch ≡ option_map (λ (more : Raised). link_creation p directory more target uid gid now) (raised (with_drawn p t) name) =
        batch_is ∙ (λ i. option_map (λ cs. cs ++ changes.PutTarget (record { inode = (row_is i).id; target = target }) ∷ []) (made_is i))
        ∙ (λ i. option_map (λ cs. cs ++ last) (option_map (λ (more : Raised). creation p directory more (row_is i) now) (raised (with_drawn p t) name)))
        ∙ added_to (λ (more : Raised). creation p directory more new now) last (raised (with_drawn p t) name) in
        subst (λ (x : Plan). IsPlanOf t whole pass (ops.Symlink parent name target uid gid) now x)
        (sym (plan_is ∙ ap (λ (r : Inode). entry_plan batch (replies.Attr (attr_of_row r))) row_is))
        (entering_planned t whole pass (ops.Symlink parent name target uid gid) now (raised (with_drawn p t) name) batch_of (replies.Attr (attr_of_row new)) (record {
          passes = passes;
          worn = none_from_drawn t p name set;
          usable = none_if_drawn t p name set;
          changes = refl;
          some = λ more. some_change (changes.SetParams (drawn p)) _;
          step = steps;
          replies = λ more used.
              let step = steps more used in
              let there : inode_at (tables_after (link_creation p directory more target uid gid now) t) p.next_inode ≡ Some new =
              ap (λ (u : Tables). inode_at u p.next_inode) (sym (tables_after-tables_after (creation p directory more new now) last t)) ∙ rows more used in
              sym (ap (attr_reply next) (next_inode-row t whole p same set) ∙ attr_is (tables_after (batch_of more) t) next p.next_inode new step.valid step.represents there (omega arith));
        })
        batch all)
