-- The payloads of a submission's units are those of the slices that it is made of.
use Rattle.std.proofs.Common.{◌≡◌, ℕ, zero, suc, ◌+◌, ◌-◌, ◌<◌, inl, inr, true, false, List, [], ◌∷◌, ◌++◌, length, take, drop, Option, Some, None, refl, sym, ◌∙◌, ap, subst, append_assoc, arith, length-append}
use Rattle.std.specs.Prelude.{map, slice_index_or, slice_range, All}
use Rattle.std.specs.List.{AllByRecursion}
use Rattle.std.proofs.lemmas.List.{length-map}
use Rattle.std.proofs.Math.Seq.{take-append_seam, drop-append_seam}
use Rattle.bit_io.specs.Payload.{IsFirstForbidden, is_forbidden, payload}
use Rattle.nal_units.specs.Units.{Units, Part, IsPart, stream, places}
use Rattle.access_units.specs.Pictures.{payloads_of, submission_of}
use Rattle.access_units.proofs.WholeSlices.{IsWholeUnit}
use Rattle.decoder_render.specs.Submission.{ArePayloads, IsPayload, IsSpoiled, bytes_at, payload_at, place_at}

parts_of : List (List ℕ) → List Part
parts_of slices = map (λ (unit : List ℕ). record { zeros = 2; unit = unit }) slices

text_is : (slices : List (List ℕ)) → submission_of slices ≡ stream (parts_of slices) []
unfolding parts_of
text_is [] = refl
text_is (slice ∷ slices) = ap (λ s. 0 ∷ 0 ∷ 1 ∷ (slice ++ s)) (text_is slices)

each_is : (slices : List (List ℕ)) → All IsWholeUnit slices → AllByRecursion IsPart (parts_of slices)
unfolding parts_of
each_is [] each = tt
each_is (slice ∷ slices) each =
    let here : IsWholeUnit slice = each 0 [] (omega arith) in
    let later : All IsWholeUnit slices = λ k d lt. each (suc k) d (omega arith) in
    (record { zeros = omega arith; unit = here.unit }, each_is slices later)

length-places : (slices : List (List ℕ)) (from : ℕ) → length (places from (parts_of slices)) ≡ length slices
unfolding parts_of
length-places [] from = refl
length-places (slice ∷ slices) from = ap suc (length-places slices (from + 2 + 1 + length slice))

submission_units : (slices : List (List ℕ)) → All IsWholeUnit slices → Units (submission_of slices) (places 0 (parts_of slices)) None
submission_units slices each = record {
  parts = parts_of slices;
  run = 0;
  tail = [];
  each = each_is slices each;
  spelled = text_is slices;
  placed = refl;
  ending = refl;
}

-- the first slice, behind a front
slice_first : (front slice rest : List ℕ) (from : ℕ) → length front ≡ from
    → slice_range (front ++ (0 ∷ 0 ∷ 1 ∷ (slice ++ rest))) (from + 2 + 1) (from + 2 + 1 + length slice) ≡ slice
slice_first front slice rest from len =
    let code : List ℕ = 0 ∷ 0 ∷ 1 ∷ [] in
    let begun : List ℕ = front ++ code in
    let at : length begun ≡ from + 2 + 1 = omega (arith, length-append front code) in
    let text : front ++ (0 ∷ 0 ∷ 1 ∷ (slice ++ rest)) ≡ begun ++ (slice ++ rest) = sym (append_assoc front code (slice ++ rest)) in
    let count : from + 2 + 1 + length slice - (from + 2 + 1) ≡ length slice = omega arith in
    ap (λ t. slice_range t (from + 2 + 1) (from + 2 + 1 + length slice)) text
    ∙ ap (λ k. take (from + 2 + 1 + length slice - (from + 2 + 1)) (drop k (begun ++ (slice ++ rest)))) (sym at)
    ∙ ap (λ s. take (from + 2 + 1 + length slice - (from + 2 + 1)) s) (drop-append_seam begun (slice ++ rest))
    ∙ ap (λ k. take k (slice ++ rest)) count
    ∙ take-append_seam slice rest

slice_at : (slices : List (List ℕ)) (front : List ℕ) (from k : ℕ) → length front ≡ from → k < length slices
    → bytes_at (front ++ submission_of slices) (place_at (places from (parts_of slices)) k) ≡ slice_index_or slices k []
unfolding parts_of
slice_at [] front from k len lt = absurd (omega arith)
slice_at (slice ∷ slices) front from zero len lt = slice_first front slice (submission_of slices) from len
slice_at (slice ∷ slices) front from (suc k) len lt =
    let begun : List ℕ = front ++ (0 ∷ 0 ∷ 1 ∷ slice) in
    let next : length begun ≡ from + 2 + 1 + length slice = omega (arith, length-append front (0 ∷ 0 ∷ 1 ∷ slice)) in
    let text : front ++ ((0 ∷ 0 ∷ 1 ∷ slice) ++ submission_of slices) ≡ begun ++ submission_of slices = sym (append_assoc front (0 ∷ 0 ∷ 1 ∷ slice) (submission_of slices)) in
    ap (λ t. bytes_at t (place_at (places (from + 2 + 1 + length slice) (parts_of slices)) k)) text
    ∙ slice_at slices begun (from + 2 + 1 + length slice) k next (omega arith)

payload_is : (slices : List (List ℕ)) (k : ℕ) → k < length slices → payload_at (payloads_of slices) k ≡ Some (payload (slice_index_or slices k []))
payload_is [] k lt = absurd (omega arith)
payload_is (slice ∷ slices) zero lt = refl
payload_is (slice ∷ slices) (suc k) lt = payload_is slices k (omega arith)

-- a unit with no forbidden byte isn't spoiled in a text that is whole
not_spoiled : (text : List ℕ) (places : List (ℕ × ℕ)) (k : ℕ) (slice : List ℕ) → bytes_at text (place_at places k) ≡ slice → IsWholeUnit slice → IsSpoiled text places None k → ⊥
not_spoiled text places k slice is whole (inl forbidden) =
    let first : IsFirstForbidden slice forbidden.0 = subst (λ (unit : List ℕ). IsFirstForbidden unit forbidden.0) is forbidden.1 in
    let yes : is_forbidden slice forbidden.0 ≡ true = first.forbidden in
    let no : is_forbidden slice forbidden.0 ≡ false = whole.allowed forbidden.0 first.within in
    let both : true ≡ false = sym yes ∙ no in
    cc
not_spoiled text places k slice is whole (inr broken) = broken.0 refl

unit_is : (text : List ℕ) (places : List (ℕ × ℕ)) (k : ℕ) (slice : List ℕ) (unit : Option (List ℕ)) → bytes_at text (place_at places k) ≡ slice → IsWholeUnit slice → unit ≡ Some (payload slice)
    → IsPayload text places None k unit
unit_is text places k slice None is whole same = absurd (cc)
unit_is text places k slice (Some bytes) is whole same =
    let here : bytes ≡ payload slice = cc in
    (not_spoiled text places k slice is whole, here ∙ ap payload (sym is))

pub slices_have_payloads : (slices : List (List ℕ)) → All IsWholeUnit slices → ArePayloads (submission_of slices) (payloads_of slices)
slices_have_payloads slices each =
    let count : length (payloads_of slices) ≡ length slices = length-map slices (λ (slice : List ℕ). Some (payload slice)) in
    record {
      places = places 0 (parts_of slices);
      broken = None;
      units = submission_units slices each;
      count = count ∙ sym (length-places slices 0);
      each = λ k lt.
          let inside : k < length slices = omega (arith, count) in
          unit_is (submission_of slices) (places 0 (parts_of slices)) k (slice_index_or slices k []) (payload_at (payloads_of slices) k) (slice_at slices [] 0 k refl inside) (each k [] inside) (payload_is slices k inside);
    }
