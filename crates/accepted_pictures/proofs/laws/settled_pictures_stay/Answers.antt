use Rattle.accepted_pictures.proofs.Onward.{refused_on}
use Rattle.accepted_pictures.proofs.SettledFirst as lemmas
use Rattle.accepted_pictures.proofs.laws.settled_pictures_stay.Goals as goal

pub returns : goal.returns
returns c = record { stay = lemmas.stay; first = lemmas.are_first; refusals = refused_on; faults = lemmas.of_the_file }
