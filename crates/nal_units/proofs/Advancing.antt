-- A byte leads from one phase to the next.
use Rattle.std.proofs.Common.{◌≡◌, ◌≢◌, ℕ, ◌+◌, ◌-◌, ◌<◌, ◌≤◌, inl, inr, List, [], ◌∷◌, ◌++◌, length, refl, sym, subst, append_assoc, arith, Option, Some, None}
use Rattle.std.specs.Prelude.{replicate, min}
use Rattle.std.proofs.lemmas.List.{append-nil}
use Rattle.std.proofs.lemmas.Bool.{cases_eq, cases_lt}
use Rattle.nal_units.specs.Units.{Units, EndsUnit}
use Rattle.nal_units.specs.Settled.{unit_in}
use Rattle.nal_units.specs.Finder.{IsOutside, IsInside, IsPhase, Advances, broken_of}
use Rattle.nal_units.specs.declared.finder.Found.{Found}
use Rattle.nal_units.specs.declared.finder.Found.TheVariants as found
use Rattle.nal_units.specs.declared.finder.Phase.{Phase}
use Rattle.nal_units.specs.declared.finder.Phase.TheVariants as phase
use Rattle.nal_units.proofs.Steps.{inside_len, outside_zero, outside_start, outside_stray, inside_zero, inside_byte, end_zero, end_start, inside_empty}
use Rattle.nal_units.proofs.Settling.{phase_units}

-- nothing is found
quiet : (t : List ℕ) (s : List (ℕ × ℕ)) (b : ℕ) (next : Phase) → IsPhase next (t ++ b ∷ []) s → None ≡ broken_of next → Advances t s b next found.Nothing
quiet t s b next here whole =
    record {
      phase = (let P : List (ℕ × ℕ) → Type 0 = λ u. IsPhase next (t ++ b ∷ []) u in subst P (sym (append-nil s)) here);
      broken = whole;
      third = tt;
    }

-- the text is broken
breaks : (t : List ℕ) (s : List (ℕ × ℕ)) (b at : ℕ) → ((more : List ℕ) → Units ((t ++ b ∷ []) ++ more) s (Some at)) → Advances t s b (phase.Broken at) (found.Broken at)
breaks t s b at all =
    record {
      phase = (let P : List (ℕ × ℕ) → Type 0 = λ u. IsPhase (phase.Broken at) (t ++ b ∷ []) u in subst P (sym (append-nil s)) all);
      broken = refl;
      third = tt;
    }

pub outside_by_zero : (t : List ℕ) (s : List (ℕ × ℕ)) (z next b : ℕ) → IsOutside t s z → b ≡ 0 → next ≡ min (z + 1) 2 → Advances t s b (phase.Outside next) found.Nothing
outside_by_zero t s z next b o zero_byte counted =
    let P : ℕ → Type 0 = λ x. IsOutside (t ++ x ∷ []) s next in
    quiet t s b (phase.Outside next) (subst P (sym zero_byte) (outside_zero t s z next o counted)) refl

pub outside_by_start : (t : List ℕ) (s : List (ℕ × ℕ)) (z p b : ℕ) → IsOutside t s z → p ≡ length t → b ≡ 1 → z ≡ 2 → Advances t s b (phase.Inside (p + 1) 0) found.Nothing
outside_by_start t s z p b o here one two =
    let P : ℕ → Type 0 = λ x. IsInside (t ++ x ∷ []) s (p + 1) 0 in
    let Q : ℕ → Type 0 = λ x. IsInside (t ++ 1 ∷ []) s (x + 1) 0 in
    quiet t s b (phase.Inside (p + 1) 0) (subst P (sym one) (subst Q (sym here) (outside_start t s z o two))) refl

pub outside_by_stray : (t : List ℕ) (s : List (ℕ × ℕ)) (z p b : ℕ) → IsOutside t s z → p ≡ length t → b ≢ 0 → (b ≡ 1 → z ≡ 2 → ⊥) → Advances t s b (phase.Broken p) (found.Broken p)
outside_by_stray t s z p b o here nonzero no_start =
    let Q : ℕ → Type 0 = λ x. (more : List ℕ) → Units ((t ++ b ∷ []) ++ more) s (Some x) in
    breaks t s b p (subst Q (sym here) (outside_stray t s z b o nonzero (λ two one. no_start one two)))

pub inside_by_zero : (t : List ℕ) (s : List (ℕ × ℕ)) (start z b : ℕ) → IsInside t s start z → b ≡ 0 → z < 2 → Advances t s b (phase.Inside start (z + 1)) found.Nothing
inside_by_zero t s start z b i zero_byte few =
    let P : ℕ → Type 0 = λ x. IsInside (t ++ x ∷ []) s start (z + 1) in
    quiet t s b (phase.Inside start (z + 1)) (subst P (sym zero_byte) (inside_zero t s start z i few)) refl

pub inside_by_byte : (t : List ℕ) (s : List (ℕ × ℕ)) (start z b : ℕ) → IsInside t s start z → b ≢ 0 → (z ≡ 2 → 1 < b) → Advances t s b (phase.Inside start 0) found.Nothing
inside_by_byte t s start z b i nonzero above = quiet t s b (phase.Inside start 0) (inside_byte t s start z b i nonzero above) refl

pub empty_by : (t : List ℕ) (s : List (ℕ × ℕ)) (start end b : ℕ) → IsInside t s start 2 → end + 2 ≡ length t → start ≡ end → b ≤ 1 → Advances t s b (phase.Broken start) (found.Broken start)
empty_by t s start end b i third none low =
    breaks t s b start (λ more.
    let P : List ℕ → Type 0 = λ x. Units x s (Some start) in
    let ends : EndsUnit (replicate 2 0 ++ b ∷ more) = (refl, refl, low) in
    subst P (sym (append_assoc t (b ∷ []) more)) (inside_empty t s start 2 (b ∷ more) i (omega arith) ends))

pub unit_by_zero : (t : List ℕ) (s : List (ℕ × ℕ)) (start end b : ℕ) → IsInside t s start 2 → end + 2 ≡ length t → start ≢ end → b ≡ 0 → Advances t s b (phase.Outside 2) (found.Unit start end)
unit_by_zero t s start end b i third some zero_byte =
    let P : ℕ → Type 0 = λ x. IsOutside (t ++ x ∷ []) (s ++ (start, end) ∷ []) 2 in
    record { phase = subst P (sym zero_byte) (end_zero t s start end i third some); broken = refl; third = third }

pub unit_by_start : (t : List ℕ) (s : List (ℕ × ℕ)) (start end b : ℕ) → IsInside t s start 2 → end + 2 ≡ length t → start ≢ end → b ≡ 1 → Advances t s b (phase.Inside (end + 3) 0) (found.Unit start end)
unit_by_start t s start end b i third some one =
    let P : ℕ → Type 0 = λ x. IsInside (t ++ x ∷ []) (s ++ (start, end) ∷ []) (end + 3) 0 in
    let Q : ℕ → Type 0 = λ x. IsInside (t ++ 1 ∷ []) (s ++ (start, end) ∷ []) x 0 in
    record { phase = subst P (sym one) (subst Q (omega arith) (end_start t s start end i third some)); broken = refl; third = third }

pub broken_by : (t : List ℕ) (s : List (ℕ × ℕ)) (b at : ℕ) → ((more : List ℕ) → Units (t ++ more) s (Some at)) → Advances t s b (phase.Broken at) (found.Broken at)
broken_by t s b at all =
    breaks t s b at (λ more. let P : List ℕ → Type 0 = λ x. Units x s (Some at) in subst P (sym (append_assoc t (b ∷ []) more)) (all (b ∷ more)))

-- each byte leads to some phase, so each text has one

pub advance : (ph : Phase) (t : List ℕ) (s : List (ℕ × ℕ)) (b : ℕ) → IsPhase ph t s → (next : Phase) × (found : Found) × Advances t s b next found
advance (phase.Broken at) t s b all = (phase.Broken at, found.Broken at, broken_by t s b at all)
advance (phase.Outside z) t s b o =
    elim (cases_eq b 0) as (λ _. (next : Phase) × (found : Found) × Advances t s b next found) [
      | inl zero_byte ↦ (phase.Outside (min (z + 1) 2), found.Nothing, outside_by_zero t s z (min (z + 1) 2) b o zero_byte refl)
      | inr nonzero ↦ elim (cases_eq b 1) as (λ _. (next : Phase) × (found : Found) × Advances t s b next found) [
        | inr not_one ↦ (phase.Broken (length t), found.Broken (length t), outside_by_stray t s z (length t) b o refl nonzero (λ one two. not_one one))
        | inl one ↦ elim (cases_eq z 2) as (λ _. (next : Phase) × (found : Found) × Advances t s b next found) [
          | inl two ↦ (phase.Inside (length t + 1) 0, found.Nothing, outside_by_start t s z (length t) b o refl one two)
          | inr not_two ↦ (phase.Broken (length t), found.Broken (length t), outside_by_stray t s z (length t) b o refl nonzero (λ one two. not_two two))
        ]
      ]
    ]
advance (phase.Inside start z) t s b i =
    let few = i.few in
    let len = inside_len t s start z i in
    elim (cases_lt z 2) as (λ _. (next : Phase) × (found : Found) × Advances t s b next found) [
      | inl less ↦ elim (cases_eq b 0) as (λ _. (next : Phase) × (found : Found) × Advances t s b next found) [
        | inl zero_byte ↦ (phase.Inside start (z + 1), found.Nothing, inside_by_zero t s start z b i zero_byte less)
        | inr nonzero ↦ (phase.Inside start 0, found.Nothing, inside_by_byte t s start z b i nonzero (λ two. omega arith))
      ]
      | inr both ↦ elim (cases_lt 1 b) as (λ _. (next : Phase) × (found : Found) × Advances t s b next found) [
        | inl high ↦ (phase.Inside start 0, found.Nothing, inside_by_byte t s start z b i (λ e. omega arith) (λ two. high))
        | inr low ↦ (
            let P : ℕ → Type 0 = λ x. IsInside t s start x in
            let j : IsInside t s start 2 = subst P (omega arith) i in
            let end : ℕ = length t - 2 in
            let third : end + 2 ≡ length t = omega arith in
            elim (cases_eq start end) as (λ _. (next : Phase) × (found : Found) × Advances t s b next found) [
              | inl none ↦ (phase.Broken start, found.Broken start, empty_by t s start end b j third none low)
              | inr some ↦ elim (cases_eq b 0) as (λ _. (next : Phase) × (found : Found) × Advances t s b next found) [
                | inl zero_byte ↦ (phase.Outside 2, found.Unit start end, unit_by_zero t s start end b j third some zero_byte)
                | inr nonzero ↦ (phase.Inside (end + 3) 0, found.Unit start end, unit_by_start t s start end b j third some (omega arith))
              ]
            ])
      ]
    ]

phase_of_text : (more t : List ℕ) (ph : Phase) (s : List (ℕ × ℕ)) → IsPhase ph t s → (next : Phase) × (u : List (ℕ × ℕ)) × IsPhase next (t ++ more) u
phase_of_text [] t ph s here = (ph, s, (let P : List ℕ → Type 0 = λ x. IsPhase ph x s in subst P (sym (append-nil t)) here))
phase_of_text (b ∷ more) t ph s here =
    let a = advance ph t s b here in
    let rest = phase_of_text more (t ++ b ∷ []) a.0 (s ++ unit_in a.1) a.2.phase in
    (rest.0, rest.1, (let P : List ℕ → Type 0 = λ x. IsPhase rest.0 x rest.1 in subst P (append_assoc t (b ∷ []) more) rest.2))

pub begins : IsOutside [] [] 0
begins = record { parts = []; run = 0; each = tt; spelled = refl; placed = refl; closed = omega arith; counted = refl }

pub text_has_units : (t : List ℕ) → (list : List (ℕ × ℕ)) × (b : Option ℕ) × Units t list b
text_has_units t =
    let found = phase_of_text t [] (phase.Outside 0) [] begins in
    let units = phase_units found.0 t found.1 found.2 in
    (units.0, units.1, units.2)
