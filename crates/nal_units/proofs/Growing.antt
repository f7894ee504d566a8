-- The units that a text settles are the first of each text that goes on from it.
use Rattle.std.proofs.Common.{◌≡◌, ℕ, ◌-◌, inl, inr, List, [], ◌∷◌, ◌++◌, length, Option, Some, None, sym, ap, ◌∙◌, subst, append_assoc, arith}
use Rattle.std.proofs.lemmas.List.{append-nil}
use Rattle.std.proofs.lemmas.Bool.{cases_eq}
use Rattle.nal_units.specs.Finder.{IsPhase, broken_of}
use Rattle.nal_units.specs.Settled.{Settles, unit_in}
use Rattle.nal_units.specs.Units.{Units}
use Rattle.nal_units.specs.declared.finder.Phase.{Phase}
use Rattle.nal_units.specs.declared.finder.Phase.TheVariants as phase
use Rattle.nal_units.proofs.Advancing.{advance, begins}
use Rattle.nal_units.proofs.Settling.{broken_here, broken_inside, phase_settles, settles_unique, whole_inside, whole_outside}
use Rattle.nal_units.proofs.Steps.{inside_len}
use Rattle.nal_units.proofs.Unique.{units_unique}

-- the phase of a text that goes on
grown : (more t : List ℕ) (ph : Phase) (s : List (ℕ × ℕ)) → IsPhase ph t s → (next : Phase) × (later : List (ℕ × ℕ)) × IsPhase next (t ++ more) (s ++ later)
grown [] t ph s here =
    let P : List ℕ → Type 0 = λ x. IsPhase ph x (s ++ []) in
    let Q : List (ℕ × ℕ) → Type 0 = λ u. IsPhase ph t u in
    (ph, [], subst P (sym (append-nil t)) (subst Q (sym (append-nil s)) here))
grown (b ∷ more) t ph s here =
    let a = advance ph t s b here in
    let rest = grown more (t ++ b ∷ []) a.0 (s ++ unit_in a.1) a.2.phase in
    let P : List ℕ → Type 0 = λ x. IsPhase rest.0 x (s ++ (unit_in a.1 ++ rest.1)) in
    let Q : List (ℕ × ℕ) → Type 0 = λ u. IsPhase rest.0 ((t ++ b ∷ []) ++ more) u in
    (rest.0, unit_in a.1 ++ rest.1, subst P (append_assoc t (b ∷ []) more) (subst Q (append_assoc s (unit_in a.1) rest.1) rest.2))

-- What is settled are the first of the text's units.
phase_first : (ph : Phase) (t : List ℕ) (s : List (ℕ × ℕ)) → IsPhase ph t s → (later : List (ℕ × ℕ)) × (broken : Option ℕ) × Units t (s ++ later) broken
phase_first (phase.Outside z) t s o = let U : List (ℕ × ℕ) → Type 0 = λ u. Units t u None in ([], None, subst U (sym (append-nil s)) (whole_outside t s z o))
phase_first (phase.Broken at) t s all = let U : List (ℕ × ℕ) → Type 0 = λ u. Units t u (Some at) in ([], Some at, subst U (sym (append-nil s)) (broken_here t s at all))
phase_first (phase.Inside start z) t s i =
    let len = inside_len t s start z i in
    let few = i.few in
    let U : List (ℕ × ℕ) → Type 0 = λ u. Units t u (Some start) in
    elim (cases_eq start (length t - z)) as (λ _. (later : List (ℕ × ℕ)) × (broken : Option ℕ) × Units t (s ++ later) broken) [
      | inl e ↦ ([], Some start, subst U (sym (append-nil s)) (broken_inside t s start z i (omega arith)))
      | inr some ↦ ((start, length t - z) ∷ [], None, whole_inside t s start z (length t - z) i (omega arith) some)
    ]

pub settled_first : (t more : List ℕ) (s u : List (ℕ × ℕ)) (broken : Option ℕ) → Settles t s None → Units (t ++ more) u broken → (later : List (ℕ × ℕ)) × (u ≡ s ++ later)
settled_first t more s u broken settles units =
    let here = grown t [] (phase.Outside 0) [] begins in
    let same = settles_unique t here.1 s (broken_of here.0) None (phase_settles here.0 t here.1 here.2) settles in
    let next = grown more t here.0 here.1 here.2 in
    let first = phase_first next.0 (t ++ more) (here.1 ++ next.1) next.2 in
    let all = units_unique (t ++ more) u ((here.1 ++ next.1) ++ first.0) broken first.1 units first.2 in
    (next.1 ++ first.0, all.0 ∙ append_assoc here.1 next.1 first.0 ∙ ap (λ (x : List (ℕ × ℕ)). x ++ (next.1 ++ first.0)) same.0)
