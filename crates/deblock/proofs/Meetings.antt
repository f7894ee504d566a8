-- What the macroblocks that meet at an edge determine.
use Rattle.std.proofs.Common.{◌≡◌, ℕ, Bool, List, [], ◌∷◌, Some, ap, ◌∙◌, sym}
use Rattle.cb_types.specs.declared.mark.MbMark.{MbMark}
use Rattle.deblock.specs.Edges.{before, mark_at, strength_at, strength_between, strength_from}

pub strength_met : (width : ℕ) (marks : List MbMark) (mb other : ℕ) (v : Bool) (edge place : ℕ) → before width mb v edge ≡ Some other
    → strength_between (mark_at marks other) (mark_at marks mb) v edge place ≡ strength_at width marks mb v edge place
unfolding strength_at
strength_met width marks mb other v edge place is = sym (ap (λ o. strength_from marks o mb v edge place) is)

pub strengths_met : (width : ℕ) (marks : List MbMark) (mb other : ℕ) (v : Bool) (edge : ℕ) (r : List ℕ) → before width mb v edge ≡ Some other
    → r ≡ (let at = strength_between (mark_at marks other) (mark_at marks mb) v edge in (at 0 ∷ at 1 ∷ at 2 ∷ at 3 ∷ []))
    → r ≡ (let at = strength_at width marks mb v edge in (at 0 ∷ at 1 ∷ at 2 ∷ at 3 ∷ []))
strengths_met width marks mb other v edge r is e =
    let met : (place : ℕ) → strength_between (mark_at marks other) (mark_at marks mb) v edge place ≡ strength_at width marks mb v edge place = λ place. strength_met width marks mb other v edge place is in
    let m0 = met 0 in
    let m1 = met 1 in
    let m2 = met 2 in
    let m3 = met 3 in
    e ∙ ap₄ m0 m1 m2 m3
  where
    ap₄ : {a b c d a' b' c' d' : ℕ} → a ≡ a' → b ≡ b' → c ≡ c' → d ≡ d' → (a ∷ b ∷ c ∷ d ∷ []) ≡ (a' ∷ b' ∷ c' ∷ d' ∷ [])
    ap₄ p q r s = cc
