-- A text has one list of units and one broken place at most.
use Rattle.std.proofs.Common.{◌≡◌, ◌≢◌, ℕ, zero, suc, ◌+◌, ◌-◌, ◌<◌, ◌≤◌, ◌⊎◌, inl, inr, List, [], ◌∷◌, ◌++◌, length, get_or, refl, sym, ◌∙◌, ap, take, arith, Option, Some}
use Rattle.std.specs.Prelude.{replicate}
use Rattle.std.specs.List.{AllByRecursion}
use Rattle.std.proofs.lemmas.List.{get_or_append_left, get_or-append_right, append_cancel_left}
use Rattle.std.proofs.lemmas.Bool.{cases_lt}
use Rattle.std.proofs.Math.Seq.{take-append_seam}
use Rattle.nal_units.specs.Units.{Units, Part, IsPart, IsUnit, EndsUnit, Ending, stream, place, places, end_of, fewest}

-- what stands behind zero bytes: no zero byte
abbrev StartsNonzero : List ℕ → Type 0
StartsNonzero [] = Unit {0}
StartsNonzero (b ∷ bs) = b ≢ 0

-- a run of zero bytes ends at one place
pub zeros_same : (m n : ℕ) (xs ys : List ℕ) → StartsNonzero xs → StartsNonzero ys → replicate m 0 ++ xs ≡ replicate n 0 ++ ys → (m ≡ n) × (xs ≡ ys)
zeros_same zero zero xs ys hx hy e = (refl, e)
zeros_same zero (suc n) [] ys hx hy e = absurd (cc)
zeros_same zero (suc n) (x ∷ xs) ys hx hy e = absurd (hx (cc))
zeros_same (suc m) zero xs [] hx hy e = absurd (cc)
zeros_same (suc m) zero xs (y ∷ ys) hx hy e = absurd (hy (cc))
zeros_same (suc m) (suc n) xs ys hx hy e =
    let inner = zeros_same m n xs ys hx hy (cc) in (ap suc inner.0, inner.1)

-- a unit, or nothing
abbrev IsContent : List ℕ → Type 0
IsContent unit = (unit ≡ []) ⊎ IsUnit unit

-- where no byte of a unit stands, two zero bytes do, or the end
front_zero : (xs : List ℕ) (d : ℕ) → EndsUnit xs → d < 2 → get_or xs d 0 ≡ 0
front_zero xs zero ends below = ends.0
front_zero xs (suc zero) ends below = ends.1
front_zero xs (suc (suc d)) ends below = absurd (omega arith)

-- of two readings of a unit in one text the first isn't shorter
not_shorter : (a b xs ys : List ℕ) → IsContent b → EndsUnit xs → a ++ xs ≡ b ++ ys → length a < length b → ⊥
not_shorter a b xs ys (inl e) ends same shorter = let none = ap length e in omega arith
not_shorter a b xs ys (inr u) ends same shorter =
    let read = λ (k : ℕ) (h : length a ≤ k) (below : k < length b). sym (get_or_append_left b ys 0 k below) ∙ sym (ap (λ s. get_or s k 0) same) ∙ get_or-append_right a xs (length a) k 0 refl h in
    elim (cases_lt (length a + 2) (length b)) [
      | inl far ↦
          let first : get_or b (length a) 0 ≡ 0 = read (length a) (omega arith) shorter ∙ front_zero xs (length a - length a) ends (omega arith) in
          let second : get_or b (length a + 1) 0 ≡ 0 = read (length a + 1) (omega arith) (omega arith) ∙ front_zero xs (length a + 1 - length a) ends (omega arith) in
          let third : get_or b (length a + 2) 0 ≡ get_or xs 2 0 = read (length a + 2) (omega arith) far ∙ ap (λ k. get_or xs k 0) (omega arith) in
          let above : 1 < get_or b (length a + 2) 0 = u.whole (length a) far first second in
          let low : get_or xs 2 0 ≤ 1 = ends.2 in
          omega arith
      | inr near ↦
          absurd (u.last (read (length b - 1) (omega arith) (omega arith) ∙ front_zero xs (length b - 1 - length a) ends (omega arith)))
    ]

same_length : (a b xs ys : List ℕ) → IsContent a → IsContent b → EndsUnit xs → EndsUnit ys → a ++ xs ≡ b ++ ys → length a ≡ length b
same_length a b xs ys ha hb hx hy same =
    elim (cases_lt (length a) (length b)) [
      | inl less ↦ absurd (not_shorter a b xs ys hb hx same less)
      | inr no_less ↦ elim (cases_lt (length b) (length a)) [
        | inl less ↦ absurd (not_shorter b a ys xs ha hy (sym same) less)
        | inr also ↦ omega arith
      ]
    ]

-- a text with a unit at its front has one such unit
pub same_unit : (a b xs ys : List ℕ) → IsContent a → IsContent b → EndsUnit xs → EndsUnit ys → a ++ xs ≡ b ++ ys → (a ≡ b) × (xs ≡ ys)
same_unit a b xs ys ha hb hx hy same =
    let len = same_length a b xs ys ha hb hx hy same in
    let front : a ≡ b = sym (take-append_seam a xs) ∙ ap (λ s. take (length a) s) same ∙ ap (λ k. take k (b ++ ys)) len ∙ take-append_seam b ys in
    (front, append_cancel_left b xs ys (ap (λ s. s ++ xs) (sym front) ∙ same))

-- behind a unit

pub ends_run : (run : ℕ) (xs : List ℕ) → 2 ≤ run → (3 ≤ run) ⊎ (get_or xs 0 0 ≤ 1) → EndsUnit (replicate run 0 ++ xs)
ends_run zero xs enough low = absurd (omega arith)
ends_run (suc zero) xs enough low = absurd (omega arith)
ends_run (suc (suc zero)) xs enough (inl more) = absurd (omega arith)
ends_run (suc (suc zero)) xs enough (inr low) = (refl, refl, low)
ends_run (suc (suc (suc run))) xs enough low = (refl, refl, omega arith)

pub ends_zeros : (run : ℕ) → EndsUnit (replicate run 0 ++ [])
ends_zeros zero = (refl, refl, omega arith)
ends_zeros (suc zero) = (refl, refl, omega arith)
ends_zeros (suc (suc zero)) = (refl, refl, omega arith)
ends_zeros (suc (suc (suc run))) = (refl, refl, omega arith)

pub ends_stream : (parts : List Part) (run : ℕ) (tail : List ℕ) (from : ℕ) (broken : Option ℕ)
    → AllByRecursion IsPart parts → Ending 3 from run tail broken → EndsUnit (stream parts (replicate run 0 ++ tail))
ends_stream [] run [] from broken each ending = ends_zeros run
ends_stream [] run (byte ∷ more) from broken each (inl stray) = ends_run run (byte ∷ more) (omega arith) (inl stray.2)
ends_stream [] run (byte ∷ more) from broken each (inr empty) = ends_run run (byte ∷ more) empty.0.0 (inr (omega (arith, empty.0.1)))
ends_stream (part ∷ parts) run tail from broken each ending = ends_run part.zeros _ each.0.zeros (inr (omega arith))

-- a tail begins with no zero byte
nonzero_tail : (least from run : ℕ) (tail : List ℕ) (broken : Option ℕ) → Ending least from run tail broken → StartsNonzero tail
nonzero_tail least from run [] broken ending = tt
nonzero_tail least from run (byte ∷ more) broken (inl stray) = stray.0
nonzero_tail least from run (byte ∷ more) broken (inr empty) = λ z. omega (arith, empty.0.1)

pub ending_weaker : (parts : List Part) (from run : ℕ) (tail : List ℕ) (broken : Option ℕ) → Ending 3 from run tail broken → Ending (fewest parts) from run tail broken
ending_weaker (part ∷ parts) from run tail broken ending = ending
ending_weaker [] from run [] broken ending = ending
ending_weaker [] from run (byte ∷ more) broken (inl stray) = inl (stray.0, stray.1, omega arith, stray.3)
ending_weaker [] from run (byte ∷ more) broken (inr empty) = inr empty

ending_same : (k l f g m n : ℕ) (xs ys : List ℕ) (b c : Option ℕ) → f ≡ g → m ≡ n → xs ≡ ys → Ending k f m xs b → Ending l g n ys c → b ≡ c
ending_same k l f g m n [] [] b c ef em ex hb hc = hb ∙ sym hc
ending_same k l f g m n [] (y ∷ ys) b c ef em ex hb hc = absurd (cc)
ending_same k l f g m n (x ∷ xs) [] b c ef em ex hb hc = absurd (cc)
ending_same k l f g m n (x ∷ xs) (y ∷ ys) b c ef em ex (inl s) (inl t) = s.3 ∙ ap Some (omega arith) ∙ sym t.3
ending_same k l f g m n (x ∷ xs) (y ∷ ys) b c ef em ex (inl s) (inr t) =
    let same : x ≡ y = cc in absurd (s.1 (omega (arith, t.0.0), same ∙ t.0.1))
ending_same k l f g m n (x ∷ xs) (y ∷ ys) b c ef em ex (inr s) (inl t) =
    let same : x ≡ y = cc in absurd (t.1 (omega (arith, s.0.0), sym same ∙ s.0.1))
ending_same k l f g m n (x ∷ xs) (y ∷ ys) b c ef em ex (inr s) (inr t) = s.2 ∙ ap Some (omega arith) ∙ sym t.2

-- where a unit stands the text doesn't end, nor is it broken
no_part : (k f m n : ℕ) (xs unit ys : List ℕ) (b : Option ℕ) → m ≡ n → xs ≡ 1 ∷ (unit ++ ys) → Ending k f m xs b → 2 ≤ n → IsUnit unit → EndsUnit ys → ⊥
no_part k f m n [] unit ys b em ex ending enough is ends = absurd (cc)
no_part k f m n (x ∷ xs) unit ys b em ex (inl stray) enough is ends = let one : x ≡ 1 = cc in stray.1 (omega arith, one)
no_part k f m n (x ∷ xs) unit ys b em ex (inr empty) enough is ends =
    let rest : xs ≡ unit ++ ys = cc in
    let none = (same_unit [] unit xs ys (inl refl) (inr is) empty.1 ends rest).0 in
    let some = is.some in
    let len = ap length none in
    omega arith

pub unique : (ps qs : List Part) (m n f g : ℕ) (xs ys : List ℕ) (b c : Option ℕ) → AllByRecursion IsPart ps → AllByRecursion IsPart qs
    → f ≡ g → Ending (fewest ps) (end_of f ps) m xs b → Ending (fewest qs) (end_of g qs) n ys c
    → stream ps (replicate m 0 ++ xs) ≡ stream qs (replicate n 0 ++ ys) → (places f ps ≡ places g qs) × (b ≡ c)
unique [] [] m n f g xs ys b c hp hq ef hb hc same =
    let z = zeros_same m n xs ys (nonzero_tail _ _ m xs b hb) (nonzero_tail _ _ n ys c hc) same in
    (refl, ending_same _ _ f g m n xs ys b c ef z.0 z.1 hb hc)
unique [] (q ∷ qs) m n f g xs ys b c hp hq ef hb hc same =
    let z = zeros_same m q.zeros xs (1 ∷ (q.unit ++ stream qs (replicate n 0 ++ ys))) (nonzero_tail _ _ m xs b hb) (λ e. omega arith) same in
    absurd (no_part _ _ m q.zeros xs q.unit _ b z.0 z.1 hb hq.0.zeros hq.0.unit (ends_stream qs n ys _ c hq.1 hc))
unique (p ∷ ps) [] m n f g xs ys b c hp hq ef hb hc same =
    let z = zeros_same n p.zeros ys (1 ∷ (p.unit ++ stream ps (replicate m 0 ++ xs))) (nonzero_tail _ _ n ys c hc) (λ e. omega arith) (sym same) in
    absurd (no_part _ _ n p.zeros ys p.unit _ c z.0 z.1 hc hp.0.zeros hp.0.unit (ends_stream ps m xs _ b hp.1 hb))
unique (p ∷ ps) (q ∷ qs) m n f g xs ys b c hp hq ef hb hc same =
    let z = zeros_same p.zeros q.zeros (1 ∷ (p.unit ++ stream ps (replicate m 0 ++ xs))) (1 ∷ (q.unit ++ stream qs (replicate n 0 ++ ys))) (λ e. omega arith) (λ e. omega arith) same in
    let tails : p.unit ++ stream ps (replicate m 0 ++ xs) ≡ q.unit ++ stream qs (replicate n 0 ++ ys) = cc in
    let u = same_unit p.unit q.unit (stream ps (replicate m 0 ++ xs)) (stream qs (replicate n 0 ++ ys)) (inr hp.0.unit) (inr hq.0.unit) (ends_stream ps m xs _ b hp.1 hb) (ends_stream qs n ys _ c hq.1 hc) tails in
    let len = ap length u.0 in
    let zeros = z.0 in
    let first : f + p.zeros + 1 ≡ g + q.zeros + 1 = omega arith in
    let next : f + p.zeros + 1 + length p.unit ≡ g + q.zeros + 1 + length q.unit = omega arith in
    let inner = unique ps qs m n (place f p).1 (place g q).1 xs ys b c hp.1 hq.1 next (ending_weaker ps _ m xs b hb) (ending_weaker qs _ n ys c hc) u.1 in
    let here : place f p ≡ place g q = cc in
    (ap (λ s. s ∷ places (place f p).1 ps) here ∙ ap (λ s. place g q ∷ s) inner.0, inner.1)

pub units_unique : (t : List ℕ) (l m : List (ℕ × ℕ)) (b c : Option ℕ) → Units t l b → Units t m c → (l ≡ m) × (b ≡ c)
units_unique t l m b c x y =
    let same = unique x.parts y.parts x.run y.run 0 0 x.tail y.tail b c x.each y.each refl x.ending y.ending (sym x.spelled ∙ y.spelled) in
    (x.placed ∙ same.0 ∙ sym y.placed, same.1)
