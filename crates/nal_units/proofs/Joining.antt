-- A text that is joined from units has these units.
use Rattle.std.proofs.Common.{◌≡◌, ℕ, ◌+◌, ◌-◌, List, [], ◌∷◌, ◌++◌, length, take, drop, refl, sym, ◌∙◌, ap, append_assoc, arith, length-append, None}
use Rattle.std.specs.Prelude.{map, flat_map, slice_range, All}
use Rattle.std.specs.List.{AllByRecursion}
use Rattle.std.proofs.lemmas.List.Elements.{recursion_from_All}
use Rattle.std.proofs.Math.Seq.{take-append_seam, drop-append_seam}
use Rattle.nal_units.specs.Units.{Units, Part, IsPart, IsUnit, stream, place, places}
use Rattle.nal_units.specs.ByteStream.{start_code, joined_places, bytes_at}

parts_of : {A : Type 0} (f : A → List ℕ) → List A → List Part
parts_of f xs = map (λ x. record { zeros = 3; unit = f x }) xs

text_is : {A : Type 0} (f : A → List ℕ) (xs : List A) → flat_map (λ x. start_code ++ f x) xs ≡ stream (parts_of f xs) []
unfolding parts_of
text_is f [] = refl
text_is f (x ∷ xs) = ap (λ s. 0 ∷ 0 ∷ 0 ∷ 1 ∷ (f x ++ s)) (text_is f xs)

places_are : {A : Type 0} (f : A → List ℕ) (xs : List A) (from : ℕ) → joined_places from (map f xs) ≡ places from (parts_of f xs)
unfolding parts_of
places_are f [] from = refl
places_are f (x ∷ xs) from =
    let begin : from + 4 ≡ from + 3 + 1 = omega arith in
    ap (λ k. (k, k + length (f x)) ∷ joined_places (k + length (f x)) (map f xs)) begin
    ∙ ap (λ s. place from (record { zeros = 3; unit = f x }) ∷ s) (places_are f xs (from + 3 + 1 + length (f x)))

each_is : {A : Type 0} (f : A → List ℕ) (xs : List A) → AllByRecursion (λ x. IsUnit (f x)) xs → AllByRecursion IsPart (parts_of f xs)
unfolding parts_of
each_is f [] each = tt
each_is f (x ∷ xs) each = (record { zeros = omega arith; unit = each.0 }, each_is f xs each.1)

pub joined_units : {A : Type 0} (f : A → List ℕ) (xs : List A) (text : List ℕ) → text ≡ flat_map (λ x. start_code ++ f x) xs → All (λ x. IsUnit (f x)) xs
    → Units text (joined_places 0 (map f xs)) None
joined_units f xs text spelled each = record {
  parts = parts_of f xs;
  run = 0;
  tail = [];
  each = each_is f xs (recursion_from_All (λ x. IsUnit (f x)) xs each);
  spelled = spelled ∙ text_is f xs;
  placed = places_are f xs 0;
  ending = refl;
}

bytes_behind : {A : Type 0} (f : A → List ℕ) (xs : List A) (front : List ℕ) (from : ℕ) → length front ≡ from
    → bytes_at (front ++ flat_map (λ x. start_code ++ f x) xs) (joined_places from (map f xs)) ≡ map f xs
bytes_behind f [] front from len = refl
bytes_behind f (x ∷ xs) front from len =
    let rest : List ℕ = flat_map (λ x. start_code ++ f x) xs in
    let begun : List ℕ = front ++ start_code in
    let at : length begun ≡ from + 4 = omega (arith, length-append front start_code) in
    let next : length (begun ++ f x) ≡ from + 4 + length (f x) = omega (arith, length-append begun (f x)) in
    let text : front ++ ((start_code ++ f x) ++ rest) ≡ begun ++ (f x ++ rest) = sym (append_assoc front start_code (f x ++ rest)) in
    let here : slice_range (begun ++ (f x ++ rest)) (from + 4) (from + 4 + length (f x)) ≡ f x =
    ap (λ k. take (from + 4 + length (f x) - (from + 4)) (drop k (begun ++ (f x ++ rest)))) (sym at)
    ∙ ap (λ s. take (from + 4 + length (f x) - (from + 4)) s) (drop-append_seam begun (f x ++ rest))
    ∙ ap (λ k. take k (f x ++ rest)) (let e : from + 4 + length (f x) - (from + 4) ≡ length (f x) = omega arith in e)
    ∙ take-append_seam (f x) rest in
    ap (λ t. bytes_at t (joined_places from (map f (x ∷ xs)))) text
    ∙ ap (λ u. u ∷ bytes_at (begun ++ (f x ++ rest)) (joined_places (from + 4 + length (f x)) (map f xs))) here
    ∙ ap (λ us. f x ∷ us)
    (ap (λ t. bytes_at t (joined_places (from + 4 + length (f x)) (map f xs))) (sym (append_assoc begun (f x) rest))
    ∙ bytes_behind f xs (begun ++ f x) (from + 4 + length (f x)) next)

pub joined_bytes : {A : Type 0} (f : A → List ℕ) (xs : List A) (text : List ℕ) → text ≡ flat_map (λ x. start_code ++ f x) xs → bytes_at text (joined_places 0 (map f xs)) ≡ map f xs
joined_bytes f xs text spelled = ap (λ t. bytes_at t (joined_places 0 (map f xs))) spelled ∙ bytes_behind f xs [] 0 refl
