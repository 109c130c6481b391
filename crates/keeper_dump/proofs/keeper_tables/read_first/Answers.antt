use Rattle.std.proofs.Common.{◌∙◌}
use Rattle.keeper_dump.proofs.keeper_tables.read_first.Goals as goal

pub returns-clause-read : goal.returns-clause-read
returns-clause-read g c = λ s told ordered.
    let second = c.in_ok-inodes.ensures.same ∙ told in
    let third = c.in_ok-names.ensures.same ∙ second in
    let fourth = c.in_ok-contents.ensures.same ∙ third in
    (c.in_ok-inodes.ensures.read s told ordered.inodes, c.in_ok-names.ensures.read s second ordered.names, c.in_ok-contents.ensures.read s third ordered.contents, c.in_ok-inode_blocks.ensures.read s fourth ordered.inode_blocks)
