use Rattle.s3_devices.proofs.ObjectLemmas.{IsKeyPage-listed}
use Rattle.s3_devices.proofs.laws.listed_keys_are_a_page.Goals as goal

pub returns : goal.returns
returns c = IsKeyPage-listed
