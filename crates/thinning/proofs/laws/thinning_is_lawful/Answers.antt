use Rattle.std.proofs.Common.{refl}
use Rattle.thinning.proofs.Replaced.{thinning_laws}
use Rattle.thinning.proofs.laws.thinning_is_lawful.Goals as goal

pub returns : goal.returns
returns c = ((λ _. thinning_laws), λ _. refl)
