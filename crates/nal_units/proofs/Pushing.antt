-- What a push and the end of a text find, in terms of the whole text.
use Rattle.std.proofs.Common.{◌≡◌, ◌≢◌, ◌↔◌, ℕ, zero, suc, ◌+◌, ◌≤◌, inl, inr, List, [], ◌∷◌, ◌++◌, length, sym, ◌∙◌, ap, subst, arith, length-append, Bool, true, false, cond, Option, Some, None}
use Rattle.std.specs.Prelude.{filter, nat_le, Contains}
use Rattle.std.proofs.lemmas.List.{append-nil}
use Rattle.std.proofs.lemmas.List.Elements.{All-contains, All-filter, All-contains_itself, filter_passes, Contains-push, Contains-append_cases}
use Rattle.std.proofs.lemmas.Bool.{cases_eq, le-leb, leb-true}
use Rattle.nal_units.specs.Units.{Units, HasUnit}
use Rattle.nal_units.specs.Settled.{IsBrokenAt, ended, Settles, unit_in, broken_in}
use Rattle.nal_units.specs.Finder.{IsOutside, IsInside, IsPhase, IsThird, Advances, broken_of}
use Rattle.nal_units.specs.declared.finder.Found.{Found}
use Rattle.nal_units.specs.declared.finder.Found.TheVariants as found
use Rattle.nal_units.specs.declared.finder.Phase.{Phase}
use Rattle.nal_units.specs.declared.finder.Phase.TheVariants as phase
use Rattle.nal_units.proofs.Unique.{units_unique}
use Rattle.nal_units.proofs.Settling.{phase_units, phase_settles, settles_unique, whole_outside, whole_inside, broken_inside, broken_here}

-- a filter keeps what passes it
contains_filter : {X : Type 0} (p : X → Bool) (xs : List X) (x : X) → p x ≡ true → Contains xs x → Contains (filter p xs) x
contains_filter p [] x passes (k, below, at) = absurd (omega arith)
contains_filter p (y ∷ ys) x passes (zero, below, at) =
    let P : Bool → Type 0 = λ b. Contains (cond b (y ∷ filter p ys) (filter p ys)) x in
    subst P (sym (ap p at ∙ passes)) (0, omega arith, at)
contains_filter p (y ∷ ys) x passes (suc k, below, at) =
    let inner = contains_filter p ys x passes (k, omega arith, at) in
    elim (p y) as (λ b. Contains (cond b (y ∷ filter p ys) (filter p ys)) x) [
      | true ↦ (suc inner.0, (let low = inner.1 in omega arith), inner.2)
      | false ↦ inner
    ]

contains_ended : (t : List ℕ) (units : List (ℕ × ℕ)) (start end : ℕ) → Contains (ended t units) (start, end) → Contains units (start, end) × (end + 3 ≤ length t)
contains_ended t units start end has = (
  All-contains (Contains units) (ended t units) (start, end) (All-filter _ (Contains units) units (All-contains_itself units)) has,
  leb-true _ _ (All-contains (λ (u : ℕ × ℕ). nat_le (u.1 + 3) (length t) ≡ true) (ended t units) (start, end) (filter_passes _ units) has),
)

found_unit : (f : Found) (start end : ℕ) → Contains (unit_in f) (start, end) → f ≡ found.Unit start end
found_unit found.Nothing start end (k, below, at) = absurd (omega arith)
found_unit (found.Broken at) start end (k, below, here) = absurd (omega arith)
found_unit (found.Unit a b) start end (zero, below, at) = ap (λ (p : ℕ × ℕ). found.Unit p.0 p.1) at
found_unit (found.Unit a b) start end (suc k, below, at) = absurd (omega arith)

pub push_unit : (ph next : Phase) (t : List ℕ) (s : List (ℕ × ℕ)) (b : ℕ) (f : Found) → IsPhase ph t s → Advances t s b next f → (start end : ℕ)
    → (f ≡ found.Unit start end) ↔ (HasUnit (t ++ b ∷ []) start end × (end + 3 ≡ length (t ++ b ∷ [])))
push_unit ph next t s b f here step start end =
    let longer = length-append t (b ∷ []) in
    let after = phase_units next (t ++ b ∷ []) (s ++ unit_in f) step.phase in
    let before = phase_units ph t s here in (
      (λ e.
          let third : end + 2 ≡ length t = (let P : Found → Type 0 = λ g. IsThird g (length t) in subst P e step.third) in
          let P : List (ℕ × ℕ) → Type 0 = λ u. Contains u (start, end) in
          let has : Contains (ended (t ++ b ∷ []) after.0) (start, end) = subst P (ap (λ g. s ++ unit_in g) (sym e) ∙ after.3) (Contains-push s (start, end)) in
          let both = contains_ended (t ++ b ∷ []) after.0 start end has in
          ((after.0, after.1, after.2, both.0), omega arith)),
      (λ has.
          let same = (units_unique (t ++ b ∷ []) _ _ _ _ has.0.2 after.2).0 in
          let P : List (ℕ × ℕ) → Type 0 = λ u. Contains u (start, end) in
          let among : Contains (ended (t ++ b ∷ []) after.0) (start, end) = contains_filter _ after.0 (start, end) (le-leb _ _ (omega arith)) (subst P same has.0.3) in
          elim (Contains-append_cases s (unit_in f) (start, end) (subst P (sym after.3) among)) as (λ _. f ≡ found.Unit start end) [
            | inl old ↦ absurd (let early = (contains_ended t before.0 start end (subst P before.3 old)).1 in let third = has.1 in omega arith)
            | inr new ↦ found_unit f start end new
          ]),
    )

settles_broken : (t : List ℕ) (u : List (ℕ × ℕ)) (b : Option ℕ) (at : ℕ) → Settles t u b → IsBrokenAt t at → b ≡ Some at
settles_broken t u None at settles all = (units_unique _ _ _ _ _ settles.0.2 (all settles.0.0).1).1
settles_broken t u (Some other) at settles all = (units_unique _ _ _ _ _ (settles []) (all []).1).1

pub found_broken : (f : Found) (at : ℕ) → broken_in f ≡ Some at → f ≡ found.Broken at
found_broken found.Nothing at e = absurd (cc)
found_broken (found.Unit start end) at e = absurd (cc)
found_broken (found.Broken other) at e = cc

pub push_broken : (next : Phase) (t : List ℕ) (s : List (ℕ × ℕ)) (b : ℕ) (f : Found) → Advances t s b next f → (at : ℕ) → (f ≡ found.Broken at) ↔ IsBrokenAt (t ++ b ∷ []) at
push_broken next t s b f step at =
    let settles = phase_settles next (t ++ b ∷ []) (s ++ unit_in f) step.phase in (
      (λ e more.
          let P : Option ℕ → Type 0 = λ x. Settles (t ++ b ∷ []) (s ++ unit_in f) x in
          let there = subst P (sym step.broken ∙ ap broken_in e) settles in
          (s ++ unit_in f, there more)),
      (λ all. found_broken f at (step.broken ∙ settles_broken (t ++ b ∷ []) _ _ at settles all)),
    )

pub push_settles : (ph next : Phase) (t : List ℕ) (s : List (ℕ × ℕ)) (b : ℕ) (f : Found) → IsPhase ph t s → Advances t s b next f
    → (u : List (ℕ × ℕ)) (broken : Option ℕ) → Settles t u broken → Settles (t ++ b ∷ []) (u ++ unit_in f) (broken_in f)
push_settles ph next t s b f here step u broken known =
    let same = settles_unique t s u (broken_of ph) broken (phase_settles ph t s here) known in
    let P : Option ℕ → Type 0 = λ x. Settles (t ++ b ∷ []) (s ++ unit_in f) x in
    let Q : List (ℕ × ℕ) → Type 0 = λ x. Settles (t ++ b ∷ []) (x ++ unit_in f) (broken_in f) in
    subst Q same.0 (subst P (sym step.broken) (phase_settles next (t ++ b ∷ []) (s ++ unit_in f) step.phase))

-- what the end of the text finds

nothing_more : (t : List ℕ) (s u : List (ℕ × ℕ)) (broken : Option ℕ) → s ≡ u → Units t s broken → Units t (u ++ []) broken
nothing_more t s u broken same units = let P : List (ℕ × ℕ) → Type 0 = λ x. Units t x broken in subst P (same ∙ sym (append-nil u)) units

pub finish_outside : (t : List ℕ) (s u : List (ℕ × ℕ)) (z : ℕ) (broken : Option ℕ) → IsOutside t s z → Settles t u broken → Units t (u ++ []) None
finish_outside t s u z broken o known =
    nothing_more t s u None (settles_unique t s u (broken_of (phase.Outside z)) broken (phase_settles (phase.Outside z) t s o) known).0 (whole_outside t s z o)

pub finish_broken : (t : List ℕ) (s u : List (ℕ × ℕ)) (at : ℕ) (broken : Option ℕ) → ((more : List ℕ) → Units (t ++ more) s (Some at)) → Settles t u broken → Units t (u ++ []) (Some at)
finish_broken t s u at broken all known =
    nothing_more t s u (Some at) (settles_unique t s u (broken_of (phase.Broken at)) broken (phase_settles (phase.Broken at) t s all) known).0 (broken_here t s at all)

pub finish_inside : (t : List ℕ) (s u : List (ℕ × ℕ)) (start z end : ℕ) (broken : Option ℕ) (f : Found) → IsInside t s start z → end + z ≡ length t
    → (start ≡ end → f ≡ found.Broken start) → (start ≢ end → f ≡ found.Unit start end) → Settles t u broken → Units t (u ++ unit_in f) (broken_in f)
finish_inside t s u start z end broken f i ends empty some known =
    let same = (settles_unique t s u (broken_of (phase.Inside start z)) broken (phase_settles (phase.Inside start z) t s i) known).0 in
    let P : Found → Type 0 = λ g. Units t (u ++ unit_in g) (broken_in g) in
    elim (cases_eq start end) as (λ _. Units t (u ++ unit_in f) (broken_in f)) [
      | inl none ↦ subst P (sym (empty none)) (nothing_more t s u (Some start) same (broken_inside t s start z i (omega arith)))
      | inr one ↦ subst P (sym (some one)) (let Q : List (ℕ × ℕ) → Type 0 = λ x. Units t (x ++ (start, end) ∷ []) None in subst Q same (whole_inside t s start z end i ends one))
    ]
