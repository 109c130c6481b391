use Rattle.core_model.proofs.HeldBlocks.{HaveHeld-other, HaveHeld-put, HaveHeld-without, AreHeld-other, AreHeld-put, AreHeld-without}
use Rattle.core_model.proofs.safe.held_blocks_rest_on_their_objects.Goals as goal

pub returns-clause-others : goal.returns-clause-others
returns-clause-others c m = HaveHeld-other m

pub returns-clause-put : goal.returns-clause-put
returns-clause-put c m = HaveHeld-put m

pub returns-clause-without : goal.returns-clause-without
returns-clause-without c m = HaveHeld-without m

pub returns-clause-stored_others : goal.returns-clause-stored_others
returns-clause-stored_others c digest_of = AreHeld-other digest_of

pub returns-clause-stored_put : goal.returns-clause-stored_put
returns-clause-stored_put c digest_of = AreHeld-put digest_of

pub returns-clause-stored_without : goal.returns-clause-stored_without
returns-clause-stored_without c digest_of = AreHeld-without digest_of
