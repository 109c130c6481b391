use Rattle.row_steps.proofs.Owed.Contents.{Owes-put_content, Owes-without_content}
use Rattle.row_steps.proofs.debts.entries_are_links_and_uses.Goals as goal

pub returns : goal.returns
returns c = record {
  put = λ t p c links uses o free finds not_root number. Owes-put_content t c free p links uses o finds not_root number;
  delete = Owes-without_content;
}
