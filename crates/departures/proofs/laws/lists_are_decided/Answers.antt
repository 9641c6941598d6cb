use Rattle.std.proofs.Common.{refl}
use Rattle.departures.proofs.Single.{one_list}
use Rattle.departures.proofs.laws.lists_are_decided.Goals as goal

pub returns : goal.returns
returns c = ((λ _. one_list), λ _. refl)
