use Rattle.std.proofs.Common.{rules, ◌∙◌, ℕ, sym, ap, cond, Some}
use Rattle.std.specs.Option.{option_or}
use Rattle.std.specs.BTreeMap as tree
use Rattle.std.specs.BTreeMap.{BTreeMap}
use Rattle.s3_rows.specs.declared.row_id.RowId.{RowId}
use Rattle.s3_rows.specs.Latest.{id_named, id_hashed, same_row}
use Rattle.s3_rows.specs.Index.{Lists, row_cmp}
use Rattle.s3_rows.proofs.Indexed.{last_of-push, last_place-push, same_row-ties}
use Rattle.s3_rows.proofs.index.Index.add.Goals as goal

pub returns-clause-ok : goal.returns-clause-ok
returns-clause-ok c changes last now =
    let change = c.args.change.now in
    let after = record c.args.self.now { places = c.insert.new.self } in
    let lists : Lists change after c.add_bytes.new.self = search rules in
    record {
      places =
          λ id. ap (λ (m : BTreeMap RowId ℕ). tree.get row_cmp m id) c.add_bytes.ensures.places
          ∙ c.in_ok-before.ensures.updates.0 id
          ∙ (λ i. cond ((same_row-ties c.row_id-id.result id ∙ ap (λ r. same_row r id) c.row_id-id.ensures) i) (Some (sym last i)) (now.places id i))
          ∙ sym (last_place-push id changes change);
      names =
          λ bytes. lists.names bytes ∙ ap (λ a. option_or (id_named bytes change) a) (now.names bytes)
          ∙ sym (last_of-push (id_named bytes) changes change);
      digests =
          λ digest. lists.digests digest ∙ ap (λ a. option_or (id_hashed digest change) a) (now.digests digest)
          ∙ sym (last_of-push (id_hashed digest) changes change);
    }
