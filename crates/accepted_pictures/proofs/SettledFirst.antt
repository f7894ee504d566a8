-- What a front of a file settles are the first pictures of the file.
use Rattle.std.proofs.Common.{inl, inr, true, List, ◌++◌, Some, sym, ap, ◌∙◌, append-nil}
use Rattle.access_units.proofs.Onward.{settled_on}
use Rattle.accepted_pictures.specs.Files.{Decoded}
use Rattle.accepted_pictures.specs.Laws.{RefusalsAreOfTheFile, SettledPicturesAreFirst, SettledPicturesStay}
use Rattle.accepted_pictures.proofs.OneReading.{first_pictures, one_reading}
use Rattle.accepted_pictures.proofs.Onward.{refused_on}

pub stay : SettledPicturesStay
stay text more ended decoded (inl none) = inl none
stay text more ended decoded (inr some) = inr (some.0, some.1, settled_on text more ended some.0 some.1 some.2, some.3)

pub are_first : SettledPicturesAreFirst
are_first text more first decoded fault (inl none) fits has = (decoded, sym (append-nil decoded) ∙ ap (λ (l : List Decoded). decoded ++ l) (sym none))
are_first text more first decoded fault (inr some) fits has =
    first_pictures (text ++ more) some.0 some.1 first decoded fault (settled_on text more true some.0 some.1 some.2) some.3 (has.1 fits)

pub of_the_file : RefusalsAreOfTheFile
of_the_file text more decoded all fault other to fits has =
    one_reading (text ++ more) all decoded other (Some fault) has ((λ long. absurd (fits long)), (λ short. refused_on text more true decoded fault to))
