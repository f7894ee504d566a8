-- The picture info of the stream is one that a decoder takes.
use Rattle.std.proofs.Common.{◌≡◌, ℕ, ◌<◌, true, false, Bool, List, get_or, replicate, refl, ap, ◌∙◌}
use Rattle.std.proofs.lemmas.List.{get_or-replicate}
use Rattle.cb_types.specs.AcceptedInfo.{IsAcceptedBySome, accepted_fields, are_all_apart}
use Rattle.cb_maker.specs.declared.stream.TheConstants.{INFO}

all_true : (n k : ℕ) → k < n → get_or (replicate n true) k false ≡ true
all_true n k below = get_or-replicate n k true false below

fields_true : accepted_fields 0 16 INFO ≡ replicate 20 true
unfolding are_all_apart
fields_true = refl

pub info_accepted : IsAcceptedBySome INFO
info_accepted = (0, 16, λ field below. ap (λ (s : List Bool). get_or s field false) fields_true ∙ all_true 20 field below)
