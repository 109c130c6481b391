use Rattle.core_model.proofs.Shown.{Shows-resized}
use Rattle.core_model.proofs.bytes.shown_pieces_may_be_resized.Goals as goal

pub returns : goal.returns
returns c piece shown len shows either = Shows-resized piece shown shows len either
