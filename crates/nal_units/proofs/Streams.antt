-- Parts one behind the other: where they end, and what stands behind them.
use Rattle.std.proofs.Common.{◌≡◌, ℕ, ◌+◌, ◌≤◌, List, [], ◌∷◌, ◌++◌, length, refl, ◌∙◌, ap, append_assoc, arith, length-append}
use Rattle.std.specs.Prelude.{replicate}
use Rattle.std.specs.List.{AllByRecursion}
use Rattle.std.proofs.lemmas.List.{length-replicate}
use Rattle.nal_units.specs.Units.{Part, IsPart, stream, place, places, end_of, fewest}

pub stream-append : (parts : List Part) (rest more : List ℕ) → stream parts rest ++ more ≡ stream parts (rest ++ more)
stream-append [] rest more = refl
stream-append (part ∷ parts) rest more =
    append_assoc (replicate part.zeros 0) (1 ∷ (part.unit ++ stream parts rest)) more
    ∙ ap (λ s. replicate part.zeros 0 ++ 1 ∷ s) (append_assoc part.unit (stream parts rest) more ∙ ap (λ s. part.unit ++ s) (stream-append parts rest more))

pub stream-more : (parts : List Part) (part : Part) (rest : List ℕ)
    → stream (parts ++ part ∷ []) rest ≡ stream parts (replicate part.zeros 0 ++ 1 ∷ (part.unit ++ rest))
stream-more [] part rest = refl
stream-more (first ∷ parts) part rest = ap (λ s. replicate first.zeros 0 ++ 1 ∷ (first.unit ++ s)) (stream-more parts part rest)

pub places-more : (parts : List Part) (part : Part) (from : ℕ)
    → places from (parts ++ part ∷ []) ≡ places from parts ++ place (end_of from parts) part ∷ []
places-more [] part from = refl
places-more (first ∷ parts) part from = ap (λ s. place from first ∷ s) (places-more parts part (place from first).1)

pub end_of-more : (parts : List Part) (part : Part) (from : ℕ) → end_of from (parts ++ part ∷ []) ≡ (place (end_of from parts) part).1
end_of-more [] part from = refl
end_of-more (first ∷ parts) part from = end_of-more parts part (place from first).1

pub each-more : (parts : List Part) (part : Part) → AllByRecursion IsPart parts → IsPart part → AllByRecursion IsPart (parts ++ part ∷ [])
each-more [] part each is = (is, tt)
each-more (first ∷ parts) part each is = (each.0, each-more parts part each.1 is)

pub fewest-more : (parts : List Part) (part : Part) → fewest (parts ++ part ∷ []) ≡ 3
fewest-more [] part = refl
fewest-more (first ∷ parts) part = refl

pub length-stream : (parts : List Part) (rest : List ℕ) (from : ℕ) → from + length (stream parts rest) ≡ end_of from parts + length rest
length-stream [] rest from = refl
length-stream (part ∷ parts) rest from =
    let inner = length-stream parts rest (place from part).1 in
    let outer = length-append (replicate part.zeros 0) (1 ∷ (part.unit ++ stream parts rest)) in
    let middle = length-append part.unit (stream parts rest) in
    let zeros = length-replicate {A = ℕ} part.zeros 0 in
    omega arith

pub end_of-above : (parts : List Part) (from : ℕ) → from ≤ end_of from parts
end_of-above [] from = omega arith
end_of-above (part ∷ parts) from = omega (arith, end_of-above parts (place from part).1)
