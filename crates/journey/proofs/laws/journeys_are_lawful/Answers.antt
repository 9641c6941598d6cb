use Rattle.std.proofs.Common.{refl}
use Rattle.journey.proofs.Follows.{journey_laws}
use Rattle.journey.proofs.laws.journeys_are_lawful.Goals as goal

pub returns : goal.returns
returns c = ((λ _. journey_laws), λ _. refl)
