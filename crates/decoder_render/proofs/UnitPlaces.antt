-- Where the units of a text stand: one behind the other, inside the text, each with a start code of three bytes or more before it.
use Rattle.std.proofs.Common.{◌≡◌, ℕ, zero, suc, ◌+◌, ◌*◌, ◌<◌, ◌≤◌, List, [], ◌∷◌, ◌++◌, length, replicate, Option, refl, sym, ap, subst, arith}
use Rattle.std.specs.List.{AllByRecursion}
use Rattle.std.proofs.lemmas.List.{length-append, length-replicate}
use Rattle.nal_units.specs.Units.{IsPart, Part, Units, end_of, place, places, stream}
use Rattle.decoder_render.specs.Submission.{place_at}

end_behind : (parts : List Part) (from : ℕ) → from ≤ end_of from parts
end_behind [] from = omega arith
end_behind (part ∷ parts) from = let further = end_behind parts (place from part).1 in omega (arith, further)

inside : (parts : List Part) (from k : ℕ) → k < length (places from parts) → ((place_at (places from parts) k).0 ≤ (place_at (places from parts) k).1) × ((place_at (places from parts) k).1 ≤ end_of from parts)
inside [] from k lt = absurd (omega arith)
inside (part ∷ parts) from zero lt = (omega arith, end_behind parts (place from part).1)
inside (part ∷ parts) from (suc k) lt = inside parts (place from part).1 k (omega arith)

stream_ends : (parts : List Part) (rest : List ℕ) (from : ℕ) → end_of from parts + length rest ≡ from + length (stream parts rest)
stream_ends [] rest from = refl
stream_ends (part ∷ parts) rest from =
    let further = stream_ends parts rest (place from part).1 in
    let unit = length-append part.unit (stream parts rest) in
    let whole = length-append (replicate part.zeros 0) (1 ∷ (part.unit ++ stream parts rest)) in
    let zeros = length-replicate {A = ℕ} part.zeros 0 in
    omega (arith, further, unit, whole, zeros)

four_each : (parts : List Part) (from : ℕ) → AllByRecursion IsPart parts → from + 4 * length (places from parts) ≤ end_of from parts
four_each [] from each = omega arith
four_each (part ∷ parts) from each =
    let further = four_each parts (place from part).1 each.1 in
    let zeros = each.0.zeros in
    let some = each.0.unit.some in
    omega (arith, further, zeros, some)

-- a unit ends where it begins or behind that, and inside the text
pub unit_inside : (text : List ℕ) (units : List (ℕ × ℕ)) (broken : Option ℕ) → Units text units broken → (k : ℕ) → k < length units → ((place_at units k).0 ≤ (place_at units k).1) × ((place_at units k).1 ≤ length text)
unit_inside text units broken are k lt =
    let same = are.placed in
    let here = inside are.parts 0 k (subst (λ (u : List (ℕ × ℕ)). k < length u) same lt) in
    let ends = stream_ends are.parts (replicate are.run 0 ++ are.tail) 0 in
    let spelled = ap length are.spelled in
    let first : (place_at units k).0 ≤ (place_at units k).1 = subst (λ (u : List (ℕ × ℕ)). (place_at u k).0 ≤ (place_at u k).1) (sym same) here.0 in
    let second : (place_at units k).1 ≤ end_of 0 are.parts = subst (λ (u : List (ℕ × ℕ)). (place_at u k).1 ≤ end_of 0 are.parts) (sym same) here.1 in
    (first, omega (arith, second, ends, spelled))

-- a text has at most a fourth as many units as bytes
pub units_few : (text : List ℕ) (units : List (ℕ × ℕ)) (broken : Option ℕ) → Units text units broken → 4 * length units ≤ length text
units_few text units broken are =
    let same = ap length are.placed in
    let each = four_each are.parts 0 are.each in
    let ends = stream_ends are.parts (replicate are.run 0 ++ are.tail) 0 in
    let spelled = ap length are.spelled in
    omega (arith, same, each, ends, spelled)
