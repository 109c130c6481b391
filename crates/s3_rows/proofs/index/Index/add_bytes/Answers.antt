use Rattle.std.proofs.Common.{rules, sym, ap}
use Rattle.std.specs.Option.{option_or}
use Rattle.s3_rows.specs.Latest.{id_hashed}
use Rattle.s3_rows.specs.Index.{digest_in}
use Rattle.s3_rows.proofs.Indexed.{names_listed}
use Rattle.s3_rows.proofs.index.Index.add_bytes.Goals as goal

pub returns-in_ok-insert-in-PutName-clause-ok : goal.returns-in_ok-insert-in-PutName-clause-ok
returns-in_ok-insert-in-PutName-clause-ok c =
    let old = c.args.self.now in
    record {
      names =
          names_listed (λ k. k.items) old.names c.insert.new.self _ _ c.in-PutName.row c.args.change.now
          c.in-PutName.is (search rules) (search rules) c.in_ok-insert-in-PutName.ensures.updates;
      digests = λ digest. ap (λ change. option_or (id_hashed digest change) (digest_in old digest)) (sym c.in-PutName.is);
    }
