-- What the front of a file settles.
use Rattle.std.proofs.Common.{◌≡◌, ℕ, Bool, true, false, List, ◌++◌, length, take, drop, refl, ap, ◌∙◌, subst}
use Rattle.std.proofs.lemmas.List.{take-append-drop}
use Rattle.access_units.specs.AccessUnits.{AccessUnit}
use Rattle.access_units.specs.Acceptors.{IsSettled}
use Rattle.accepted_pictures.specs.Streams.{Stream}
use Rattle.access_units.proofs.Onward.{settled_on}
use Rattle.vdplay.specs.Reading.{IsFrontOf}

by_end : (text file : List ℕ) (ended : Bool) (front : List AccessUnit) (au : AccessUnit) → text ≡ take (length text) file → (ended ≡ true → text ≡ file) → IsSettled text ended front au → IsSettled file true front au
by_end text file true front au is whole settled = let S : List ℕ → Type 0 = λ t. IsSettled t true front au in subst S (whole refl) settled
by_end text file false front au is whole settled =
    let S : List ℕ → Type 0 = λ t. IsSettled t true front au in
    let all : text ++ drop (length text) file ≡ file = ap (λ (xs : List ℕ). xs ++ drop (length text) file) is ∙ take-append-drop (length text) file in
    subst S all (settled_on text (drop (length text) file) true front au settled)

-- An access unit that the front of a file settles is settled in the file.
pub settled_in : (stream : Stream) (file : List ℕ) (front : List AccessUnit) (au : AccessUnit) → IsFrontOf stream file → IsSettled stream.text stream.ended front au → IsSettled file true front au
settled_in stream file front au is settled = by_end stream.text file stream.ended front au is.front is.whole settled
