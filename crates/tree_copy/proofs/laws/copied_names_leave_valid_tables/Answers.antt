use Rattle.tree_copy.proofs.CopiedNames.{AreNamesOf-names, takes_copy}
use Rattle.tree_copy.proofs.laws.copied_names_leave_valid_tables.Goals as goal

pub returns : goal.returns
returns c t whole directory top visits pass source parent now name v unique well same passes found top_found are fits =
    AreNamesOf-names t whole v unique same well source parent now name (takes_copy whole pass source parent name passes) directory top found top_found visits are fits pass passes
