use Rattle.row_steps.proofs.Entering.{HasUniqueNames-entering, Owes-entering, Represents-entering, raise}
use Rattle.row_steps.proofs.entries.entries_that_come_are_owed_links.Goals as goal

pub returns : goal.returns
returns c = record {
  owes =
      λ t p directory more name inode now links uses o below used there kind free not_root number. (
        (raise t p directory more name inode now links uses o below used there kind free not_root number).next,
        Owes-entering t p directory more name inode now links uses o below used there kind free not_root number,
      );
  represents = Represents-entering;
  unique = HasUniqueNames-entering;
}
