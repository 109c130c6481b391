use Rattle.std.proofs.Common.{subst, le-leb}
use Rattle.tree_laws.proofs.Node.Mode.{HasModes, HasModes-reply_to}
use Rattle.tree_laws.proofs.replies.replies_have_modes.Goals as goal

pub returns : goal.returns
returns c = record {
  attr = λ t pass now op attr have is. le-leb attr.mode 4095 (subst HasModes is (HasModes-reply_to t pass now op have));
  opened = λ t pass now handle op attr have is. le-leb attr.mode 4095 (subst HasModes is (HasModes-reply_to t pass now op have));
}
