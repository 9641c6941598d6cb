use Rattle.std.proofs.Common.{refl}
use Rattle.image.proofs.Held.{one_content}
use Rattle.image.proofs.check.holds_one_content.Goals as goal

pub returns : goal.returns
returns c = ((λ _. one_content), λ _. refl)
