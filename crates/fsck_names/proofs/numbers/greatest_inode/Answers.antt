use Rattle.std.proofs.Common.{rules, map}
use Rattle.fsck_names.proofs.Greatest.{greatest_of_seven}
use Rattle.fsck_names.proofs.numbers.greatest_inode.Goals as goal

pub returns-clause-value : goal.returns-clause-value
returns-clause-value c =
    let t = c.args.tables.now in
    greatest_of_seven (map (λ r. r.id) t.inodes) (map (λ r. r.parent) t.contents) (map (λ r. r.inode) t.contents) (map (λ r. r.inode) t.inode_blocks)
    (map (λ r. r.inode) t.targets) (map (λ r. r.inode) t.attrs) (map (λ r. r.inode) t.slots) c.greatest_of-slots.result
    c.greatest_of-attrs.result c.greatest_of-targets.result c.greatest_of-blocks.result c.greatest_of-entries.result
    c.greatest_of-parents.result c.greatest_of.result (search rules) (search rules) (search rules) (search rules) (search rules)
    (search rules) (search rules)
