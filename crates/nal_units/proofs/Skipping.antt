-- Bytes of a unit that find nothing.
use Rattle.std.proofs.Common.{◌≡◌, ℕ, zero, suc, ◌+◌, ◌-◌, ◌<◌, ◌≤◌, inl, inr, List, [], ◌∷◌, ◌++◌, length, get_or, take, drop, sym, ◌∙◌, ap, subst, append_assoc, arith, Option, Some, None}
use Rattle.std.proofs.lemmas.List.{append-nil, take_more, length-append, length-drop, length-take}
use Rattle.std.proofs.Math.Seq.{take-add, take-length}
use Rattle.std.proofs.lemmas.Bool.{cases_eq, cases_lt}
use Rattle.nal_units.specs.Units.{Units}
use Rattle.nal_units.specs.Settled.{Settles, unit_in, broken_in}
use Rattle.nal_units.specs.declared.finder.Found.{Found}
use Rattle.nal_units.specs.declared.finder.Found.TheVariants as found
use Rattle.nal_units.proofs.Pushing.{found_broken}
use Rattle.nal_units.specs.Finder.{IsInside, IsPhase, StandsFor}
use Rattle.nal_units.specs.declared.finder.Finder.{Finder}
use Rattle.nal_units.specs.declared.finder.Phase.{Phase}
use Rattle.nal_units.specs.declared.finder.Phase.TheVariants as phase
use Rattle.nal_units.proofs.Steps.{inside_zero, inside_byte}
use Rattle.nal_units.proofs.Settling.{phase_settles, settles_unique}

pub take_step : (t xs : List ℕ) (i : ℕ) → i < length xs → (t ++ take i xs) ++ get_or xs i 0 ∷ [] ≡ t ++ take (i + 1) xs
take_step t xs i below = append_assoc t (take i xs) (get_or xs i 0 ∷ []) ∙ ap (λ x. t ++ x) (sym (take_more xs i 0 below))

pub quiet_more : (t xs : List ℕ) (s : List (ℕ × ℕ)) (n : ℕ) → ((k : ℕ) → k ≤ n → Settles (t ++ take k xs) s None) → Settles (t ++ take (n + 1) xs) s None
    → (k : ℕ) → k ≤ n + 1 → Settles (t ++ take k xs) s None
quiet_more t xs s n before here k within =
    let P : ℕ → Type 0 = λ j. Settles (t ++ take j xs) s None in
    elim (cases_lt k (n + 1)) as (λ _. Settles (t ++ take k xs) s None) [
      | inl less ↦ before k (omega arith)
      | inr no_less ↦ subst P (omega arith) here
    ]

quiet_one : (t xs : List ℕ) (s : List (ℕ × ℕ)) (start z n : ℕ) → ((k : ℕ) → k ≤ n → Settles (t ++ take k xs) s None) → IsInside (t ++ take (n + 1) xs) s start z
    → (k : ℕ) → k ≤ n + 1 → Settles (t ++ take k xs) s None
quiet_one t xs s start z n before here = quiet_more t xs s n before (phase_settles (phase.Inside start z) (t ++ take (n + 1) xs) s here)

-- a byte behind fewer than two zero bytes
plain_byte : (t : List ℕ) (s : List (ℕ × ℕ)) (start z b : ℕ) → IsInside t s start z → z < 2 → (next : ℕ) × IsInside (t ++ b ∷ []) s start next × (next ≤ z + 1)
plain_byte t s start z b i few =
    elim (cases_eq b 0) as (λ _. (next : ℕ) × IsInside (t ++ b ∷ []) s start next × (next ≤ z + 1)) [
      | inl none ↦ (let P : ℕ → Type 0 = λ x. IsInside (t ++ x ∷ []) s start (z + 1) in (z + 1, subst P (sym none) (inside_zero t s start z i few), omega arith))
      | inr some ↦ (0, inside_byte t s start z b i some (λ e. omega arith), omega arith)
    ]

pub skip_three : (t xs : List ℕ) (s : List (ℕ × ℕ)) (start i : ℕ) → i + 2 < length xs → 1 < get_or xs (i + 2) 0
    → IsInside (t ++ take i xs) s start 0 → ((k : ℕ) → k ≤ i → Settles (t ++ take k xs) s None)
    → IsInside (t ++ take (i + 3) xs) s start 0 × ((k : ℕ) → k ≤ i + 3 → Settles (t ++ take k xs) s None)
skip_three t xs s start i fits above here quiet =
    let one = plain_byte (t ++ take i xs) s start 0 (get_or xs i 0) here (omega arith) in
    let P : List ℕ → Type 0 = λ x. IsInside x s start one.0 in
    let at_one = subst P (take_step t xs i (omega arith)) one.1 in
    let low = one.2 in
    let two = plain_byte (t ++ take (i + 1) xs) s start one.0 (get_or xs (i + 1) 0) at_one (omega arith) in
    let Q : List ℕ → Type 0 = λ x. IsInside x s start two.0 in
    let two_on : i + 1 + 1 ≡ i + 2 = omega arith in
    let at_two = subst Q (take_step t xs (i + 1) (omega arith) ∙ ap (λ k. t ++ take k xs) two_on) two.1 in
    let three = inside_byte (t ++ take (i + 2) xs) s start two.0 (get_or xs (i + 2) 0) at_two (λ e. omega arith) (λ e. above) in
    let R : List ℕ → Type 0 = λ x. IsInside x s start 0 in
    let three_on : i + 2 + 1 ≡ i + 3 = omega arith in
    let at_three = subst R (take_step t xs (i + 2) fits ∙ ap (λ k. t ++ take k xs) three_on) three in
    let quiet_on = quiet_one t xs s start one.0 i quiet at_one in
    let quiet_two = quiet_one t xs s start two.0 (i + 1) quiet_on (let Z : ℕ → Type 0 = λ k. IsInside (t ++ take k xs) s start two.0 in subst Z (sym two_on) at_two) in
    let quiet_three = quiet_one t xs s start 0 (i + 2) (λ k h. quiet_two k (omega arith)) (let Z : ℕ → Type 0 = λ k. IsInside (t ++ take k xs) s start 0 in subst Z (sym three_on) at_three) in
    (at_three, (λ k h. quiet_three k (omega arith)))

-- no byte more

pub no_more_inside : (t : List ℕ) (s : List (ℕ × ℕ)) (start : ℕ) → IsInside t s start 0 → IsInside (t ++ []) s start 0
no_more_inside t s start i = let P : List ℕ → Type 0 = λ x. IsInside x s start 0 in subst P (sym (append-nil t)) i

pub no_more_stands : (f : Finder) (t : List ℕ) → StandsFor f t → StandsFor f (t ++ [])
no_more_stands f t stands = let P : List ℕ → Type 0 = λ x. StandsFor f x in subst P (sym (append-nil t)) stands

pub no_more : (t xs : List ℕ) (s : List (ℕ × ℕ)) → Settles t s None → (k : ℕ) → k ≤ 0 → Settles (t ++ take k xs) s None
no_more t xs s known zero within = let P : List ℕ → Type 0 = λ x. Settles x s None in subst P (sym (append-nil t)) known
no_more t xs s known (suc k) within = absurd (omega arith)

-- the rest of a slice

rest_is : (xs : List ℕ) (i : ℕ) → take (length xs - i) (drop i xs) ≡ drop i xs
rest_is xs i = ap (λ n. take n (drop i xs)) (sym (length-drop i xs)) ∙ take-length (drop i xs)

pub rest_len : (xs : List ℕ) (i : ℕ) → length (take (length xs - i) (drop i xs)) ≡ length xs - i
rest_len xs i = ap length (rest_is xs i) ∙ length-drop i xs

pub rest_at : (t xs : List ℕ) (i r : ℕ) → (t ++ take i xs) ++ take r (take (length xs - i) (drop i xs)) ≡ t ++ take (i + r) xs
rest_at t xs i r =
    append_assoc t (take i xs) _ ∙ ap (λ x. t ++ (take i xs ++ take r x)) (rest_is xs i) ∙ ap (λ x. t ++ x) (sym (take-add i r xs))

pub room_on : (t xs : List ℕ) (i m n : ℕ) → length t + length xs ≤ n → i ≤ length xs → m ≤ length xs - i → length (t ++ take i xs) + m ≤ n
room_on t xs i m n room within fits =
    let len = length-append t (take i xs) in
    let front = length-take i xs in
    omega arith

-- A finder that took bytes of a unit at once.

pub skip_stands : (f : Finder) (t xs : List ℕ) (start r : ℕ) → f.phase ≡ phase.Inside start 0 → r < length xs
    → ((s : List (ℕ × ℕ)) → IsInside t s start 0 → IsInside (t ++ take r xs) s start 0) → StandsFor f t → StandsFor (record { position = f.position + r; phase = f.phase }) (t ++ take r xs)
skip_stands f t xs start r is below on stands =
    let P : Phase → Type 0 = λ ph. IsPhase ph t stands.0 in
    let Q : Phase → Type 0 = λ ph. IsPhase ph (t ++ take r xs) stands.0 in
    let len = length-append t (take r xs) in
    let front = length-take r xs in
    let counted = stands.1.counted in
    (stands.0, record { counted = omega arith; phase = subst Q (sym is) (on stands.0 (subst P is stands.1.phase)) })

pub skip_quiet : (f : Finder) (t xs : List ℕ) (s : List (ℕ × ℕ)) (start r : ℕ) → f.phase ≡ phase.Inside start 0
    → ((u : List (ℕ × ℕ)) → IsInside t u start 0 → (k : ℕ) → k ≤ r → Settles (t ++ take k xs) u None) → StandsFor f t → Settles t s None
    → (k : ℕ) → k ≤ r → Settles (t ++ take k xs) s None
skip_quiet f t xs s start r is quiet stands known k within =
    let P : Phase → Type 0 = λ ph. IsPhase ph t stands.0 in
    let i = subst P is stands.1.phase in
    let Q : List (ℕ × ℕ) → Type 0 = λ u. Settles (t ++ take k xs) u None in
    subst Q (settles_unique t stands.0 s None None (phase_settles (phase.Inside start 0) t stands.0 i) known).0 (quiet stands.0 i k within)

pub skip_unbroken : (f : Finder) (t : List ℕ) (s : List (ℕ × ℕ)) (start at : ℕ) → f.phase ≡ phase.Inside start 0 → StandsFor f t → Settles t s (Some at) → ⊥
skip_unbroken f t s start at is stands known =
    let P : Phase → Type 0 = λ ph. IsPhase ph t stands.0 in
    let apart : None ≡ Some at = (settles_unique t stands.0 s None (Some at) (phase_settles (phase.Inside start 0) t stands.0 (subst P is stands.1.phase)) known).1 in
    (cc)

-- The loop over a slice: i bytes were pushed, r more were skipped, and then one is pushed.

pub slice_stands : (t xs : List ℕ) (i r : ℕ) (f : Finder) → StandsFor f ((t ++ take i xs) ++ take r (take (length xs - i) (drop i xs))) → StandsFor f (t ++ take (i + r) xs)
slice_stands t xs i r f stands = let P : List ℕ → Type 0 = λ x. StandsFor f x in subst P (rest_at t xs i r) stands

pub slice_quiet : (t xs : List ℕ) (s : List (ℕ × ℕ)) (i r : ℕ) → ((k : ℕ) → k ≤ i → Settles (t ++ take k xs) s None)
    → ((k : ℕ) → k ≤ r → Settles ((t ++ take i xs) ++ take k (take (length xs - i) (drop i xs))) s None) → (k : ℕ) → k ≤ i + r → Settles (t ++ take k xs) s None
slice_quiet t xs s i r before after k within =
    elim (cases_lt k i) as (λ _. Settles (t ++ take k xs) s None) [
      | inl less ↦ before k (omega arith)
      | inr no_less ↦ (
          let P : List ℕ → Type 0 = λ x. Settles x s None in
          let on : i + (k - i) ≡ k = omega arith in
          subst P (rest_at t xs i (k - i) ∙ ap (λ j. t ++ take j xs) on) (after (k - i) (omega arith)))
    ]

pub slice_next : (t xs : List ℕ) (u : List (ℕ × ℕ)) (b : Option ℕ) (n : ℕ) → n < length xs → Settles ((t ++ take n xs) ++ get_or xs n 0 ∷ []) u b → Settles (t ++ take (n + 1) xs) u b
slice_next t xs u b n below settles = let P : List ℕ → Type 0 = λ x. Settles x u b in subst P (take_step t xs n below) settles

pub slice_next_stands : (t xs : List ℕ) (f : Finder) (n : ℕ) → n < length xs → StandsFor f ((t ++ take n xs) ++ get_or xs n 0 ∷ []) → StandsFor f (t ++ take (n + 1) xs)
slice_next_stands t xs f n below stands = let P : List ℕ → Type 0 = λ x. StandsFor f x in subst P (take_step t xs n below) stands

pub quiet_nothing : (t : List ℕ) (s : List (ℕ × ℕ)) → Settles t (s ++ []) None → Settles t s None
quiet_nothing t s settles = let P : List (ℕ × ℕ) → Type 0 = λ u. Settles t u None in subst P (append-nil s) settles

pub nothing_quiet : (t : List ℕ) (s : List (ℕ × ℕ)) → Settles t s None → Settles t (s ++ []) None
nothing_quiet t s settles = let P : List (ℕ × ℕ) → Type 0 = λ u. Settles t u None in subst P (sym (append-nil s)) settles

-- a broken text stays so
pub stays_broken : (t more : List ℕ) (s : List (ℕ × ℕ)) (at : ℕ) → Settles t s (Some at) → Settles (t ++ more) s (Some at)
stays_broken t more s at all further = let P : List ℕ → Type 0 = λ x. Units x s (Some at) in subst P (sym (append_assoc t more further)) (all (more ++ further))

-- behind a broken place a byte finds that place
pub broken_again : (t xs : List ℕ) (s : List (ℕ × ℕ)) (at n : ℕ) (f : Found) → Settles t s (Some at)
    → ((u : List (ℕ × ℕ)) (b : Option ℕ) → Settles (t ++ take n xs) u b → Settles ((t ++ take n xs) ++ get_or xs n 0 ∷ []) (u ++ unit_in f) (broken_in f)) → f ≡ found.Broken at
broken_again t xs s at n f known push =
    let here = stays_broken t (take n xs) s at known in
    let next = stays_broken (t ++ take n xs) (get_or xs n 0 ∷ []) s at here in
    found_broken f at (settles_unique _ _ _ (broken_in f) (Some at) (push s (Some at) here) next).1
