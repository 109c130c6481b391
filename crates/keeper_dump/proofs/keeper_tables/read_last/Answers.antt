use Rattle.std.proofs.Common.{◌∙◌}
use Rattle.keeper_dump.proofs.keeper_tables.read_last.Goals as goal

pub returns-clause-read : goal.returns-clause-read
returns-clause-read g c = λ s told ordered.
    let second = c.in_ok-blocks.ensures.same ∙ told in
    let third = c.in_ok-objects.ensures.same ∙ second in
    let fourth = c.in_ok-targets.ensures.same ∙ third in
    let fifth = c.in_ok-attrs.ensures.same ∙ fourth in
    (c.in_ok-blocks.ensures.read s told ordered.blocks, c.in_ok-objects.ensures.read s second ordered.objects, c.in_ok-targets.ensures.read s third ordered.targets, c.in_ok-attrs.ensures.read s fourth ordered.attrs, c.in_ok-slots.ensures.read s fifth ordered.slots)
