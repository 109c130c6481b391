use Rattle.std.proofs.Common.{◌<◌, sym, subst}
use Rattle.std.specs.Prelude.{option_map, unwrap_or}
use Rattle.tree_rows.proofs.Lengths.{stands_for}
use Rattle.tree_rows.proofs.made.tables_represent_their_tree.Goals as goal

pub returns : goal.returns
returns c contents t p is some = stands_for contents t (subst (λ found. 0 < unwrap_or (option_map (λ q. q.block_size) found) 0) (sym is) some)
