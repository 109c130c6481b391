use Rattle.std.proofs.Common.{rules, map}
use Rattle.fsck_names.proofs.Greatest.{greatest_of_three}
use Rattle.fsck_names.proofs.numbers.greatest_name.Goals as goal

pub returns-clause-value : goal.returns-clause-value
returns-clause-value c =
    let t = c.args.tables.now in
    greatest_of_three (map (λ r. r.id) t.names) (map (λ r. r.name_id) t.contents) (map (λ r. r.name_id) t.attrs) c.greatest_of-attrs.result
    c.greatest_of-names.result c.greatest_of.result (search rules) (search rules) (search rules)
