-- Samples by place: of an array, after a write, and of two arrays that agree.
use Rattle.std.proofs.Common.{◌≡◌, ℕ, ◌+◌, ◌*◌, ◌<◌, ◌≤◌, ◌/◌, ◌%◌, inl, inr, cond, eqb, ◌&&◌, List, length, take, drop, set, get_or, replicate, sym, ap, ◌∙◌, arith}
use Rattle.std.proofs.lemmas.Nat.{same_from_place, mul-add-lt, div-add-mod', mod_below, div_below}
use Rattle.std.proofs.lemmas.List.{ext_get_or, get_or-replicate, get_or_read, get_or-take, get_or-drop, get_or_past, length-take, get_or-set_same, get_or-set_other}
use Rattle.std.proofs.lemmas.Bool.{cases_lt, cases_eq}
use Rattle.std.proofs.lemmas.Bool.Decides.{nat_tests}
use Rattle.vd_plane.specs.SampleArray.{SampleArray, array_of, row, sample, IsPlane, IsInside, SameSides, PlanesAreTheirSamples}

-- inside a row, a sample's place in the list
pub sample_at : (a : SampleArray) (x y : ℕ) → x < a.width → sample a x y ≡ get_or a.samples (y * a.width + x) 0
unfolding sample row
sample_at a x y inside = get_or-take a.width (drop (y * a.width) a.samples) x 0 inside ∙ get_or-drop (y * a.width) a.samples x 0

-- past the end of a row
pub sample_beside : (a : SampleArray) (x y : ℕ) → a.width ≤ x → sample a x y ≡ 0
unfolding sample row
sample_beside a x y beside = get_or_past (take a.width (drop (y * a.width) a.samples)) x 0 (omega (arith, length-take a.width (drop (y * a.width) a.samples)))

-- a place inside has a number in the list
pub place_inside : (a : SampleArray) (x y : ℕ) → IsPlane a → IsInside a x y → y * a.width + x < length a.samples
place_inside a x y plane inside = omega (arith, plane.count, mul-add-lt y a.width x a.height inside.row inside.column)

-- the samples of an array that is filled with one
pub sample-filled : (w h v x y : ℕ) (s : List ℕ) → s ≡ replicate (w * h) v → IsInside (array_of w h s) x y → sample (array_of w h s) x y ≡ v
sample-filled w h v x y s is inside =
    sample_at (array_of w h s) x y inside.column
    ∙ (ap (λ l. get_or l (y * w + x) 0) is ∙ get_or-replicate (w * h) (y * w + x) v 0 (mul-add-lt y w x h inside.row inside.column))

-- the list of an array by place
get_or_at_place : (a : SampleArray) (k : ℕ) → 0 < a.width → get_or a.samples k 0 ≡ sample a (k % a.width) (k / a.width)
get_or_at_place a k some =
    ap (λ n. get_or a.samples n 0) (sym (div-add-mod' k a.width)) ∙ sym (sample_at a (k % a.width) (k / a.width) (mod_below k a.width some))

-- two arrays with the same parts are one
pub same_parts : (w w' h h' : ℕ) (s s' : List ℕ) → w ≡ w' → h ≡ h' → s ≡ s' → array_of w h s ≡ array_of w' h' s'
same_parts w w' h h' s s' e f g = cc

same_samples : (a b : SampleArray) → IsPlane a → IsPlane b → SameSides a b → ((x y : ℕ) → IsInside a x y → sample a x y ≡ sample b x y) → a.samples ≡ b.samples
same_samples a b plane_a plane_b same agree =
    ext_get_or 0 a.samples b.samples (sym same.count)
    (λ k within.
    let k_row : k / a.width < a.height = div_below k a.width a.height plane_a.some_column (omega (arith, plane_a.count)) in
    let here : IsInside a (k % a.width) (k / a.width) = record { column = mod_below k a.width plane_a.some_column; row = k_row } in
    get_or_at_place a k plane_a.some_column ∙ (agree (k % a.width) (k / a.width) here ∙ (ap (λ w. sample b (k % w) (k / w)) (sym same.width) ∙ sym (get_or_at_place b k plane_b.some_column))))

-- planes with the same sides and the same sample at each place inside are one
pub planes_are_their_samples : PlanesAreTheirSamples
planes_are_their_samples a b plane_a plane_b same agree =
    same_parts a.width b.width a.height b.height a.samples b.samples (sym same.width) (sym same.height) (same_samples a b plane_a plane_b same agree)

cong_place : (w x y x' y' : ℕ) → x' ≡ x → y' ≡ y → y' * w + x' ≡ y * w + x
cong_place w x y x' y' e f = cc

-- what a read of the list gives, by place
pub sample_read : (a : SampleArray) (x y r : ℕ) → IsPlane a → IsInside a x y → r ≡ get_or a.samples (y * a.width + x) r → r ≡ sample a x y
sample_read a x y r plane inside read =
    get_or_read a.samples (y * a.width + x) r (place_inside a x y plane inside) read 0 ∙ sym (sample_at a x y inside.column)

chosen : (x y x' y' v s : ℕ) → x' ≡ x → y' ≡ y → v ≡ cond (eqb x' x && eqb y' y) v s
chosen x y x' y' v s e f = grind (arith, nat_tests)

left_alone : (x y x' y' v s : ℕ) → (x' ≡ x → y' ≡ y → ⊥) → s ≡ cond (eqb x' x && eqb y' y) v s
left_alone x y x' y' v s apart = grind (arith, nat_tests)

-- the sample at each place after a write of one
pub sample-set : (a : SampleArray) (x y v x' y' : ℕ) → IsPlane a → IsInside a x y → sample (array_of a.width a.height (set a.samples (y * a.width + x) v)) x' y' ≡ cond (eqb x' x && eqb y' y) v (sample a x' y')
sample-set a x y v x' y' plane inside =
    let w : ℕ = a.width in
    let s : List ℕ = a.samples in
    let new : SampleArray = array_of a.width a.height (set a.samples (y * a.width + x) v) in
    let within : y * a.width + x < length a.samples = place_inside a x y plane inside in
    elim (cases_lt x' w) [
      | inl lt ↦ elim (cases_eq (y' * w + x') (y * w + x)) [
        | inl same ↦
            let apart : (y' ≡ y) × (x' ≡ x) = same_from_place y' x' y x w lt inside.column same in
            sample_at new x' y' lt ∙ (ap (λ n. get_or (set s (y * w + x) v) n 0) same ∙ (get_or-set_same s (y * w + x) v 0 within ∙ chosen x y x' y' v (sample a x' y') apart.1 apart.0))
        | inr ne ↦
            sample_at new x' y' lt ∙ (get_or-set_other s (y * w + x) (y' * w + x') v 0 ne ∙ (sym (sample_at a x' y' lt) ∙ left_alone x y x' y' v (sample a x' y') (λ e f. ne (cong_place w x y x' y' e f))))
      ]
      | inr beside ↦
          sample_beside new x' y' beside ∙ (sym (sample_beside a x' y' beside) ∙ left_alone x y x' y' v (sample a x' y') (λ e f. omega (arith, inside.column)))
    ]
