use Rattle.std.proofs.Common.{rules}
use Rattle.layers.proofs.Backs.{back_erase}
use Rattle.layers.proofs.joint.JointChip.erase.Goals as goal

pub returns-in-Back : goal.returns-in-Back
returns-in-Back g c = back_erase _ _ _ _ _ c.erase-in-Back.result (search rules) (search rules) (search rules) (search rules) c.erase-in-Back.ensures
