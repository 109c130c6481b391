use Rattle.std.proofs.Common.{◌≡◌, true, false, Some, sym, refl, subst, ap, ◌∙◌}
use Rattle.std.specs.Prelude.{IsTrue, List, ◌==◌, ◌&&◌, not, Result}
use Rattle.std.specs.List.{list_all}
use Rattle.op_frames.specs.declared.reply.Reply.TheVariants as replies
use Rattle.s3_base.specs.declared.errors.Errno.{Errno}
use Rattle.plain_tree.specs.Below.{is_at_or_below}
use Rattle.plain_tree.specs.Checks.{first_failure}
use Rattle.s3_rows.specs.declared.change.Change.{Change}
use Rattle.s3_rows.specs.Rows.{Slot}
use Rattle.s3_rows.specs.Validity.{is_directory}
use Rattle.op_checks.specs.Checks.{Checks}
use Rattle.ref_counts.proofs.Told.{IfTold-all, IfTold-weaker, IfTold-weaker2, IfTold-weaker3, IfTold-same}
use Rattle.dir_ops.specs.Moves.{is_itself, over_checks}
use Rattle.dir_ops.specs.Plans.{entry_plan}
use Rattle.dir_ops.proofs.Moving.{new_folder}
use Rattle.dir_ops.proofs.Renamed.{itself_planned, moved_planned, refused_below, refused_over}
use Rattle.dir_ops.proofs.rename.rename.Goals as goal

pub returns-then-is_itself-clause-plan : goal.returns-then-is_itself-clause-plan
returns-then-is_itself-clause-plan g c =
    let now = c.args.now in
    let new_name = c.args.new_name.now in
    let m = c.args.moved.now in
    let itself : is_itself m ≡ true = sym c.is_itself.ensures ∙ c.if-is_itself.true in
    IfTold-all (g.K.Keeper.told c.args.keeper.now) _
    (λ t v unique slots whole pass parent new_parent name same well has is alike.
    itself_planned t whole pass parent new_parent now name new_name v unique same well m is itself
    (c.renames_are_steps.ensures.itself t whole pass parent new_parent now name new_name v same)
    c.with_reply.result (c.with_reply.ensures.plan ∙ ap (λ (b : List Change). entry_plan (Some b) replies.Done) c.new.ensures))

pub returns-in_default-clause-plan : goal.returns-in_default-clause-plan
returns-in_default-clause-plan g c =
    IfTold-weaker (g.K.Keeper.told c.args.keeper.now) _ _
    (λ t own v unique slots whole pass parent new_parent name same well has is alike.
    absurd (c.in_default.not-Some _ (own v whole same well (new_folder t whole v same parent name new_parent c.args.new_name.now c.args.moved.now is))))
    c.in_ok-below.ensures.below

pub returns-then-below-clause-plan : goal.returns-then-below-clause-plan
returns-then-below-clause-plan g c =
    let new_name = c.args.new_name.now in
    let m = c.args.moved.now in
    let moves : is_itself m ≡ false = sym c.is_itself.ensures ∙ c.if-is_itself.false in
    IfTold-weaker (g.K.Keeper.told c.args.keeper.now) _ _
    (λ t own v unique slots whole pass parent new_parent name same well has is alike.
    let is_below : c.in-Some.below ≡ (is_directory m.old.child.kind && is_at_or_below whole m.old.child.id m.directory.id) =
    cc (sym c.in-Some.is ∙ own v whole same well (new_folder t whole v same parent name new_parent new_name m is)) in
    refused_below t whole pass parent new_parent c.args.now name new_name v unique same well m is moves (sym is_below ∙ c.if-below.true))
    c.in_ok-below.ensures.below

pub returns-in-Err-clause-plan : goal.returns-in-Err-clause-plan
returns-in-Err-clause-plan g c =
    let told = g.K.Keeper.told c.args.keeper.now in
    let new_name = c.args.new_name.now in
    let m = c.args.moved.now in
    let moves : is_itself m ≡ false = sym c.is_itself.ensures ∙ c.if-is_itself.false in
    IfTold-weaker2 told _ _ _
    (λ t own over v unique slots whole pass parent new_parent name same well has is alike.
    let is_below : c.in-Some.below ≡ (is_directory m.old.child.kind && is_at_or_below whole m.old.child.id m.directory.id) =
    cc (sym c.in-Some.is ∙ own v whole same well (new_folder t whole v same parent name new_parent new_name m is)) in
    refused_over t whole pass parent new_parent c.args.now name new_name v unique same well m is moves (sym is_below ∙ c.if-below.false) c.in-Err.errno
    (subst (λ (r : Result (Unit {0}) Errno). Checks r (first_failure (over_checks t m.old.child m.replaced))) c.in-Err.is over))
    c.in_ok-below.ensures.below (IfTold-same told _ _ c.in_ok-below.ensures.same c.in_ok-errno.ensures.check)

pub returns-clause-plan : goal.returns-clause-plan
returns-clause-plan g c =
    let told = g.K.Keeper.told c.args.keeper.now in
    let now = c.args.now in
    let new_name = c.args.new_name.now in
    let m = c.args.moved.now in
    let d = m.old.directory in
    let d2 = m.directory in
    let e = m.old.entry in
    let r = m.old.child in
    let moves : is_itself m ≡ false = sym c.is_itself.ensures ∙ c.if-is_itself.false in
    IfTold-weaker3 told _ _ _ _
    (λ t own over made v unique slots whole pass parent new_parent name same well has is alike.
    let is_below : c.in-Some.below ≡ (is_directory r.kind && is_at_or_below whole r.id d2.id) =
    cc (sym c.in-Some.is ∙ own v whole same well (new_folder t whole v same parent name new_parent new_name m is)) in
    moved_planned t whole pass parent new_parent now name new_name v unique same well m is moves (sym is_below ∙ c.if-below.false)
    (subst (λ (x : Result (Unit {0}) Errno). Checks x (first_failure (over_checks t r m.replaced))) c.in_default-2.is over)
    (record {
      same_name = λ n bytes entry row passes absent.
          c.renames_are_steps.ensures.same_name t whole v.params d d2 r e n pass parent new_parent now name v well same v.is_made is.0 is.2 bytes entry row passes absent;
      other_name = λ n more bytes entry row passes absent used.
          c.renames_are_steps.ensures.other_name t whole v.params d d2 r e n more pass parent new_parent now name new_name v well same v.is_made is.0 is.2 bytes entry row passes absent used;
      replaced = λ n n2 c2 r2 held bytes entry row new_bytes new_entry new_row held_is passes other.
          c.renames_are_steps.ensures.replaced t whole v.params d d2 r r2 e c2 n n2 pass parent new_parent now name new_name held v well same v.is_made is.0 is.2 bytes entry row
          new_bytes new_entry new_row
          (subst (λ (rows : List Slot). IsTrue (list_all (λ (x : Slot). not (x.inode == r2.id)) rows)) (sym slots) refl) held_is passes other;
    })
    c.args.handles.now has c.args.same alike c.in_ok-batch.batch (made v.ordered) c.with_reply-2.result c.with_reply-2.ensures.plan)
    c.in_ok-below.ensures.below (IfTold-same told _ _ c.in_ok-below.ensures.same c.in_ok-errno.ensures.check)
    (IfTold-same told _ _ (c.in_ok-errno.ensures.same ∙ c.in_ok-below.ensures.same) c.in_ok-batch.ensures.batch)
