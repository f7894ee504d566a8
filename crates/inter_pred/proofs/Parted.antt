-- Parts of samples at quarter places, from the samples of a window.
use Rattle.std.proofs.Common.{◌≡◌, ℕ, ◌+◌, zero, suc, ◌*◌, ◌/◌, ◌%◌, ◌<◌, ◌≤◌, inl, inr, List, length, get_or, Fits, w8, ap, ◌∙◌, arith}
use Rattle.std.proofs.lemmas.Bool.{cases_lt}
use Rattle.std.proofs.lemmas.List.{get_or_past}
use Rattle.std.proofs.lemmas.Nat.{div-add-mod', div_below, mod_below}
use Rattle.inter_pred.specs.declared.parts.Part.TheVariants.{Centre}
use Rattle.inter_pred.specs.Luma.{Near, half, j, sum_across}
use Rattle.inter_pred.specs.Parts.{near_in, part_at}
use Rattle.inter_pred.specs.Rows.{centre, centre_in, half_in, raised, raised_in}
use Rattle.inter_pred.proofs.RowsOf.{six}
use Rattle.inter_pred.proofs.Sums.{centre-raised, taps-raised}

-- a half sample from six places that are known otherwise
pub half_at : (xs : List ℕ) (step k a b c d e f : ℕ) → k ≡ a → k + step ≡ b → k + 2 * step ≡ c → k + 3 * step ≡ d → k + 4 * step ≡ e → k + 5 * step ≡ f
    → half_in xs step k ≡ half (get_or xs a 0) (get_or xs b 0) (get_or xs c 0) (get_or xs d 0) (get_or xs e 0) (get_or xs f 0)
half_at xs step k a b c d e f p q r s t u =
    let at = λ (i : ℕ). get_or xs i 0 in
    six half (at k) (at (k + step)) (at (k + 2 * step)) (at (k + 3 * step)) (at (k + 4 * step)) (at (k + 5 * step)) (at a) (at b) (at c) (at d) (at e) (at f) (ap at p) (ap at q) (ap at r) (ap at s) (ap at t) (ap at u)

-- the raised sum over a row
abbrev raised_near : Near → ℕ → ℕ
raised_near n r = raised (n 0 r) (n 1 r) (n 2 r) (n 3 r) (n 4 r) (n 5 r)

raised_at : (xs : List ℕ) (stride i j t : ℕ) → raised_in xs 1 ((j + t) * stride + i) ≡ raised_near (near_in xs stride (j * stride + i)) t
raised_at xs stride i j t =
    let at = λ (k : ℕ). get_or xs k 0 in
    let k : ℕ = (j + t) * stride + i in
    let n : Near = near_in xs stride (j * stride + i) in
    six raised (at k) (at (k + 1)) (at (k + 2)) (at (k + 3)) (at (k + 4)) (at (k + 5)) (n 0 t) (n 1 t) (n 2 t) (n 3 t) (n 4 t) (n 5 t) (ap at (omega arith)) (ap at (omega arith)) (ap at (omega arith)) (ap at (omega arith)) (ap at (omega arith)) (ap at (omega arith))

-- the sample in the centre, from rows of raised sums
pub centre_at : (xs sums : List ℕ) (width stride i j : ℕ) → ((k : ℕ) → Fits w8 (get_or xs k 0)) → ((t : ℕ) → t ≤ 5 → get_or sums ((j + t) * width + i) 0 ≡ raised_in xs 1 ((j + t) * stride + i))
    → centre_in sums width (j * width + i) ≡ part_at Centre (near_in xs stride (j * stride + i))
unfolding part_at Rattle.inter_pred.specs.Luma.j
centre_at xs sums width stride i j fits sums_are =
    let n : Near = near_in xs stride (j * stride + i) in
    let below : (c r : ℕ) → n c r < 256 = λ c r. (fits (j * stride + i + r * stride + c)).fits in
    let row = λ (t : ℕ) (le : t ≤ 5) (m : ℕ) (is : m ≡ (j + t) * width + i). ap (λ k. get_or sums k 0) is ∙ (sums_are t le ∙ raised_at xs stride i j t) in
    let up = λ (r : ℕ). taps-raised (n 0 r) (n 1 r) (n 2 r) (n 3 r) (n 4 r) (n 5 r) (below 1 r) (below 4 r) in
    let k : ℕ = j * width + i in
    six centre _ _ _ _ _ _ (raised_near n 0) (raised_near n 1) (raised_near n 2) (raised_near n 3) (raised_near n 4) (raised_near n 5)
    (row 0 (omega arith) k (omega arith)) (row 1 (omega arith) (k + width) (omega arith)) (row 2 (omega arith) (k + 2 * width) (omega arith)) (row 3 (omega arith) (k + 3 * width) (omega arith)) (row 4 (omega arith) (k + 4 * width) (omega arith)) (row 5 (omega arith) (k + 5 * width) (omega arith))
    ∙ centre-raised (sum_across n 0) (sum_across n 1) (sum_across n 2) (sum_across n 3) (sum_across n 4) (sum_across n 5) (raised_near n 0) (raised_near n 1) (raised_near n 2) (raised_near n 3) (raised_near n 4) (raised_near n 5)
    (up 0) (up 1) (up 2) (up 3) (up 4) (up 5) (omega (arith, below 0 1, below 2 1, below 3 1, below 5 1)) (omega (arith, below 0 4, below 2 4, below 3 4, below 5 4))

at_most : (xs : List ℕ) (k : ℕ) → ((i : ℕ) → Fits w8 (get_or xs i 0)) → raised_in xs 1 k ≤ 13270
at_most xs k fits = omega (arith, (fits k).fits, (fits (k + 1)).fits, (fits (k + 2)).fits, (fits (k + 3)).fits, (fits (k + 4)).fits, (fits (k + 5)).fits)

positive : (width height k : ℕ) → k < width * height → 0 < width
positive zero height k lt = absurd (omega arith)
positive (suc n) height k lt = omega arith

-- rows of raised sums are bounded
pub sums_bound : (xs sums : List ℕ) (width height stride : ℕ) → ((k : ℕ) → Fits w8 (get_or xs k 0)) → length sums ≡ width * height → ((i j : ℕ) → i < width → j < height → get_or sums (j * width + i) 0 ≡ raised_in xs 1 (j * stride + i)) → (k : ℕ) → get_or sums k 0 ≤ 13270
sums_bound xs sums width height stride fits count sums_are k = elim (cases_lt k (length sums)) [
  | inr past ↦ omega (arith, get_or_past sums k 0 past)
  | inl within ↦
      let some : 0 < width = positive width height k (omega arith) in
      let place = div-add-mod' k width in
      omega (arith, ap (λ n. get_or sums n 0) place, sums_are (k % width) (k / width) (mod_below k width some) (div_below k width height some (omega arith)), at_most xs ((k / width) * stride + k % width) fits)
]
