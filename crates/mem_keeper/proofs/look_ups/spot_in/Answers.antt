use Rattle.mem_keeper.proofs.look_ups.spot_in.Goals as goal

pub returns : goal.returns
returns c = c.copy_of_row.ensures
