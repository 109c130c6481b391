use Rattle.std.proofs.Common.{◌≡◌, Option, Ok, Err, sym, ap, subst}
use Rattle.sha2.specs.Sha256.{sha256}
use Rattle.op_frames.specs.declared.reply.Reply.{Reply}
use Rattle.s3_base.specs.Faults.{HasRisen}
use Rattle.s3_devices.specs.Objects.{Objects}
use Rattle.volume_core.specs.Answers.{IsAnswered, refusal_reply}
use Rattle.volume_core.specs.declared.refusal.Refusal.{Refusal}
use Rattle.volume_core.specs.declared.refusal.Refusal.TheVariants.{Refused}
use Rattle.volume_core.specs.declared.row_core.RowCore.{RowCore}
use Rattle.volume_core.specs.Refusals.{has_keeper_failed, has_link_failed}
use Rattle.volume_core.proofs.Answered.{either, not_there, ok, refusal}
use Rattle.volume_core.proofs.row_core.RowCore.reply_to.Goals as goal

pub returns-in-Ok-clause-answer : goal.returns-in-Ok-clause-answer
returns-in-Ok-clause-answer g c whole s =
    let told = g.K.Keeper.told in
    let before : RowCore g.row.K.Denot = c.args.self.now in
    let after : RowCore g.row.K.Denot = c.carry_out.new.self in
    let objects : Option Objects = g.L.Link.told c.args.link.now in
    let later : Option Objects = g.L.Link.told c.carry_out.new.link in
    let risen = HasRisen (g.K.Keeper.faults before.keeper) (g.K.Keeper.faults after.keeper) in
    let failed = HasRisen (g.L.Link.faults c.args.link.now) (g.L.Link.faults c.carry_out.new.link) in
    either told before after sha256 objects later whole s c.args.pass c.args.op.now c.args.now risen failed c.in-Ok.reply
    (λ built. ok told before after sha256 objects later whole s c.args.pass c.args.op.now c.args.now risen failed built c.in-Ok.reply (c.in-Ok.ensures.built built whole s))
    (λ other. let clash : Ok c.in-Ok.reply ≡ Err (Refused (record { 0 = 38 })) = (c.in-Ok.ensures.unbuilt other).0 in absurd (cc clash))

pub returns-in-Err-clause-answer : goal.returns-in-Err-clause-answer
returns-in-Err-clause-answer g c whole s =
    let told = g.K.Keeper.told in
    let before : RowCore g.row.K.Denot = c.args.self.now in
    let after : RowCore g.row.K.Denot = c.carry_out.new.self in
    let objects : Option Objects = g.L.Link.told c.args.link.now in
    let later : Option Objects = g.L.Link.told c.carry_out.new.link in
    let risen = HasRisen (g.K.Keeper.faults before.keeper) (g.K.Keeper.faults after.keeper) in
    let failed = HasRisen (g.L.Link.faults c.args.link.now) (g.L.Link.faults c.carry_out.new.link) in
    let why : Refusal = c.in-Err.refusal in
    subst (λ (reply : Reply). IsAnswered told before after risen failed sha256 objects later whole (record { pass = c.args.pass; now = c.args.now; op = c.args.op.now }) reply) (sym c.reply_of.ensures.reply)
    (either told before after sha256 objects later whole s c.args.pass c.args.op.now c.args.now risen failed (refusal_reply why)
    (λ built. refusal told before after sha256 objects later whole s c.args.pass c.args.op.now c.args.now risen failed built why
    (λ is. c.in-Err.ensures.keeper.risen (ap (λ (r : Refusal). has_keeper_failed {T = Reply} (Err r)) is))
    (λ is. c.in-Err.ensures.link.risen (ap (λ (r : Refusal). has_link_failed {T = Reply} (Err r)) is))
    (c.in-Err.ensures.built built whole s))
    (λ other.
    let not = c.in-Err.ensures.unbuilt other in
    let own : why ≡ Refused (record { 0 = 38 }) = cc not.0 in
    subst (λ (r : Refusal). IsAnswered told before after risen failed sha256 objects later whole (record { pass = c.args.pass; now = c.args.now; op = c.args.op.now }) (refusal_reply r)) (sym own)
    (not_there told before after sha256 objects later whole s c.args.pass c.args.op.now c.args.now risen failed other not.1 not.2)))
