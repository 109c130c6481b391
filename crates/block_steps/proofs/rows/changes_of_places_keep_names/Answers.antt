use Rattle.block_steps.proofs.KeptNames.{AreRowsOf-counted, AreRowsOf-relinked, AreRowsOf-trans, KeepsNames-counted, KeepsNames-made, KeepsNames-refl, KeepsNames-relinked, KeepsNames-trans}
use Rattle.block_steps.proofs.rows.changes_of_places_keep_names.Goals as goal

pub returns : goal.returns
returns c = record {
  same = KeepsNames-refl;
  joined = KeepsNames-trans;
  counted = KeepsNames-counted;
  made = KeepsNames-made;
  relinked = KeepsNames-relinked;
  counted_rows = AreRowsOf-counted;
  relinked_rows = AreRowsOf-relinked;
  joined_rows = AreRowsOf-trans;
}
