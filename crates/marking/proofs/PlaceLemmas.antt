-- Frames as the first of an array of places.
use Rattle.std.proofs.Common.{◌≡◌, ℕ, zero, suc, ◌+◌, ◌-◌, ◌<◌, ◌≤◌, List, [], ◌∷◌, ◌++◌, length, take, drop, get_or, set, refl, sym, ap, ◌∙◌, arith, inl, inr, length-append, length-drop}
use Rattle.std.specs.Prelude.{remove}
use Rattle.std.proofs.lemmas.Bool.Decides.{leb_tells}
use Rattle.std.proofs.lemmas.List.{ext_get_or, get_or-append_right, get_or-drop, get_or-take, get_or_append_left, length-take-le}

pub take_set : {A : Type 0} (n : ℕ) (xs : List A) (i : ℕ) (x : A) → take n (set xs i x) ≡ set (take n xs) i x
take_set zero [] i x = refl
take_set zero (y ∷ ys) zero x = refl
take_set zero (y ∷ ys) (suc i) x = refl
take_set (suc n) [] i x = refl
take_set (suc n) (y ∷ ys) zero x = refl
take_set (suc n) (y ∷ ys) (suc i) x = ap (λ zs. y ∷ zs) (take_set n ys i x)

-- An element goes, and those behind it stand one less far.
pub removed_one : {A : Type 0} (e : A) (xs new : List A) (at count : ℕ) → at < count → count ≤ length xs → length new ≡ length xs
    → ((k : ℕ) (d : A) → at ≤ k → k < count - 1 → get_or new k d ≡ get_or xs (k + 1) d)
    → ((k : ℕ) (d : A) → k < at → get_or new k d ≡ get_or xs k d)
    → take (count - 1) new ≡ remove (take count xs) at
removed_one {A} e xs new at count inside within size moved before =
    let all : length (take count xs) ≡ count = length-take-le count xs within in
    let front : length (take at (take count xs)) ≡ at = length-take-le at (take count xs) (omega (arith, all)) in
    let back : length (drop (suc at) (take count xs)) ≡ count - suc at = length-drop (suc at) (take count xs) ∙ ap (λ (n : ℕ). n - suc at) all in
    let right : length (take at (take count xs) ++ drop (suc at) (take count xs)) ≡ count - 1 = length-append (take at (take count xs)) (drop (suc at) (take count xs)) ∙ omega (arith, front, back) in
    let left : length (take (count - 1) new) ≡ count - 1 = length-take-le (count - 1) new (omega arith) in
    ext_get_or e (take (count - 1) new) (take at (take count xs) ++ drop (suc at) (take count xs)) (left ∙ sym right)
    (λ i h. let low : i < count - 1 = omega (arith, left, h) in
    get_or-take (count - 1) new i e low
    ∙ elim (leb_tells (suc i) at) [
      | inl below ↦ (let early : i < at = below.1 in
          before i e early ∙ sym (get_or_append_left (take at (take count xs)) (drop (suc at) (take count xs)) e i (omega (arith, front))
          ∙ get_or-take at (take count xs) i e early ∙ get_or-take count xs i e (omega arith)))
      | inr from ↦ (let late : at ≤ i = omega (arith, from.1) in
          let step : suc at + (i - at) ≡ i + 1 = omega arith in
          moved i e late low ∙ sym (get_or-append_right (take at (take count xs)) (drop (suc at) (take count xs)) at i e front late
          ∙ get_or-drop (suc at) (take count xs) (i - at) e ∙ ap (λ (n : ℕ). get_or (take count xs) n e) step ∙ get_or-take count xs (i + 1) e (omega arith)))
    ])
