use Rattle.row_steps.proofs.Shape.Attributes.{Represents-put_attr, Represents-without_attr}
use Rattle.row_steps.proofs.trees.attributes_are_attributes.Goals as goal

pub returns : goal.returns
returns c = record {
  put = λ t whole p r a n now links uses o same unique own there named. Represents-put_attr t unique a n named o.ordered.attrs o.ordered.inodes whole same r now own there;
  delete = λ t whole p r a n now links uses o same unique own there named here. Represents-without_attr t unique a n named o.ordered.attrs o.ordered.inodes whole same r now own there here;
}
