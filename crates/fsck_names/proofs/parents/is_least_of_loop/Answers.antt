use Rattle.std.proofs.Common.{◌≡◌, ◌==◌, Bool, true, false, refl, sym, ap, ◌∙◌, arith, ◌-◌}
use Rattle.std.specs.Prelude.{◌||◌}
use Rattle.fsck_names.specs.Entries.{above}
use Rattle.fsck_names.proofs.Loops.{closes, closes-more}
use Rattle.fsck_names.proofs.parents.is_least_of_loop.Goals as goal

was_met : (met same : Bool) → met ≡ true → met ≡ (met || same)
was_met true same is = refl
was_met false same is = absurd (cc is)

is_met_now : (met same : Bool) → met ≡ false → same ≡ (met || same)
is_met_now true same is = absurd (cc is)
is_met_now false same is = refl

pub loop-left-preserved-then-met : goal.loop-left-preserved-then-met
loop-left-preserved-then-met c =
    let parent = c.in-Some.parent.now in
    ap (λ b. closes b c.args.inode (above (c.loop-left.left - 1) c.args.tables.now parent)) (was_met c.loop-left.met (parent == c.args.inode) c.if-met.true)
    ∙ sym (closes-more c.args.tables.now c.loop-left.met c.args.inode c.loop-left.at c.loop-left.left parent c.loop-left-test.true
    (sym (c.requires c.loop-left.at) ∙ sym c.in-Some.ensures.value) (omega arith))
    ∙ c.loop-left.invariant

pub loop-left-preserved : goal.loop-left-preserved
loop-left-preserved c =
    let parent = c.in-Some.parent.now in
    ap (λ b. closes b c.args.inode (above (c.loop-left.left - 1) c.args.tables.now parent)) (is_met_now c.loop-left.met (parent == c.args.inode) c.if-met.false)
    ∙ sym (closes-more c.args.tables.now c.loop-left.met c.args.inode c.loop-left.at c.loop-left.left parent c.loop-left-test.true
    (sym (c.requires c.loop-left.at) ∙ sym c.in-Some.ensures.value) (omega arith))
    ∙ c.loop-left.invariant
