-- Rows and rectangles of samples that are laid over others.
use Rattle.std.proofs.Common.{◌≡◌, ℕ, ◌+◌, ◌-◌, ◌*◌, ◌<◌, ◌≤◌, inl, inr, Bool, cond, eqb, ltb, leb, ◌&&◌, List, length, take, drop, get_or, sym, ap, ◌∙◌, arith}
use borrow.Rule.Slice.PartMut.{put_mid}
use Rattle.std.proofs.lemmas.Nat.{mul-le}
use Rattle.std.proofs.lemmas.List.{places, get_or-take, get_or-drop}
use Rattle.std.proofs.lemmas.Bool.{cases_lt, cases_order}
use Rattle.std.proofs.lemmas.Bool.Decides.{nat_tests}
use Rattle.vd_plane.specs.SampleArray.{SampleArray, array_of, covers, rect_at, sample}
use Rattle.vd_plane.proofs.Samples.{sample_at, sample_beside}

-- an element before, in and after the part of a list that was replaced
before_part : (a k i : ℕ) (s t : List ℕ) → i < a → a ≤ length s → get_or (put_mid a k s t) i 0 ≡ get_or s i 0
before_part a k i s t lt within = grind (arith, places)

in_part : (a k i : ℕ) (s t : List ℕ) → a ≤ length s → i < length t → get_or (put_mid a k s t) (a + i) 0 ≡ get_or t i 0
in_part a k i s t within lt = grind (arith, places)

after_part : (a k i : ℕ) (s t : List ℕ) → a + k ≤ length s → length t ≡ k → a + k ≤ i → get_or (put_mid a k s t) i 0 ≡ get_or s i 0
after_part a k i s t within length_t le = grind (arith, places)

-- where a row of n samples stands from column x of row y on
abbrev pub in_row : ℕ → ℕ → ℕ → ℕ → ℕ → Bool
in_row x y n x' y' = (leb x x' && ltb x' (x + n)) && eqb y' y

in_row-yes : (x y n x' y' u v : ℕ) → x ≤ x' → x' < x + n → y' ≡ y → u ≡ cond (in_row x y n x' y') u v
in_row-yes x y n x' y' u v p q e = grind (arith, nat_tests)

in_row-before : (x y n x' y' u v : ℕ) → x' < x → v ≡ cond (in_row x y n x' y') u v
in_row-before x y n x' y' u v p = grind (arith, nat_tests)

in_row-after : (x y n x' y' u v : ℕ) → x + n ≤ x' → v ≡ cond (in_row x y n x' y') u v
in_row-after x y n x' y' u v p = grind (arith, nat_tests)

in_row-other : (x y n x' y' u v : ℕ) → (y' ≡ y → ⊥) → v ≡ cond (in_row x y n x' y') u v
in_row-other x y n x' y' u v p = grind (arith, nat_tests)

-- the sample at each place after a row of samples was laid down from column x of row y on
pub sample-put_mid : (w h x y n k : ℕ) (s t : List ℕ) → x + n ≤ w → y * w + x + n ≤ length s → length t ≡ n → k ≡ n → (x' y' : ℕ) → sample (array_of w h (put_mid (y * w + x) k s t)) x' y' ≡ cond (in_row x y n x' y') (get_or t (x' - x) 0) (sample (array_of w h s) x' y')
sample-put_mid w h x y n k s t across within length_t count x' y' =
    let new : SampleArray = array_of w h (put_mid (y * w + x) k s t) in
    let old : SampleArray = array_of w h s in
    let u : ℕ = get_or t (x' - x) 0 in
    elim (cases_lt x' w) [
      | inr beside ↦ sample_beside new x' y' beside ∙ (sym (sample_beside old x' y' beside) ∙ in_row-after x y n x' y' u (sample old x' y') (omega arith))
      | inl lt ↦ elim (cases_order y' y) [
        | inl same ↦ elim (cases_lt x' x) [
          | inl left ↦
              let place : y' * w + x' < y * w + x = omega (arith, ap (λ n. n * w) same) in
              sample_at new x' y' lt ∙ (before_part (y * w + x) k (y' * w + x') s t place (omega arith) ∙ (sym (sample_at old x' y' lt) ∙ in_row-before x y n x' y' u (sample old x' y') left))
          | inr right ↦ elim (cases_lt x' (x + n)) [
            | inl inside ↦
                let place : y' * w + x' ≡ y * w + x + (x' - x) = omega (arith, ap (λ n. n * w) same) in
                sample_at new x' y' lt ∙ (ap (λ n. get_or (put_mid (y * w + x) k s t) n 0) place ∙ (in_part (y * w + x) k (x' - x) s t (omega arith) (omega arith) ∙ in_row-yes x y n x' y' u (sample old x' y') right inside same))
            | inr past ↦
                let place : y * w + x + k ≤ y' * w + x' = omega (arith, ap (λ n. n * w) same) in
                sample_at new x' y' lt ∙ (after_part (y * w + x) k (y' * w + x') s t (omega arith) (omega arith) place ∙ (sym (sample_at old x' y' lt) ∙ in_row-after x y n x' y' u (sample old x' y') past))
          ]
        ]
        | inr other ↦ elim other [
          | inl above ↦
              let up : y' * w + w ≤ y * w = omega (arith, mul-le (y' + 1) w y w (omega arith) (omega arith)) in
              sample_at new x' y' lt ∙ (before_part (y * w + x) k (y' * w + x') s t (omega arith) (omega arith) ∙ (sym (sample_at old x' y' lt) ∙ in_row-other x y n x' y' u (sample old x' y') (λ e. omega arith)))
          | inr below ↦
              let down : y * w + w ≤ y' * w = omega (arith, mul-le (y + 1) w y' w (omega arith) (omega arith)) in
              sample_at new x' y' lt ∙ (after_part (y * w + x) k (y' * w + x') s t (omega arith) (omega arith) (omega arith) ∙ (sym (sample_at old x' y' lt) ∙ in_row-other x y n x' y' u (sample old x' y') (λ e. omega arith)))
        ]
      ]
    ]

-- a rectangle of r + 1 rows is one of r rows with one more
one_more : (x y n r x' y' u v b : ℕ) → (x ≤ x' → x' < x + n → y' ≡ y + r → u ≡ v) → cond (in_row x (y + r) n x' y') u (cond (covers (rect_at x y n r) x' y') v b) ≡ cond (covers (rect_at x y n (r + 1)) x' y') v b
one_more x y n r x' y' u v b here = grind (arith, nat_tests)

-- an element of a part of a list
part_at : (s t : List ℕ) (j k m i : ℕ) → t ≡ take j (drop k s) → i < j → m ≡ k + i → get_or t i 0 ≡ get_or s m 0
part_at s t j k m i is lt place =
    ap (λ l. get_or l i 0) is ∙ (get_or-take j (drop k s) i 0 lt ∙ (get_or-drop k s i 0 ∙ ap (λ n. get_or s n 0) (sym place)))

-- one more row of a rectangle is laid down
pub rect_more : (w h x y n r k j : ℕ) (s start from t : List ℕ) → x + n ≤ w → (y + r) * w + x + n ≤ length s → length t ≡ n → k ≡ n → j ≡ n → t ≡ take j (drop (r * n) from) → (x' y' : ℕ)
    → sample (array_of w h s) x' y' ≡ cond (covers (rect_at x y n r) x' y') (get_or from ((y' - y) * n + (x' - x)) 0) (sample (array_of w h start) x' y')
    → sample (array_of w h (put_mid ((y + r) * w + x) k s t)) x' y' ≡ cond (covers (rect_at x y n (r + 1)) x' y') (get_or from ((y' - y) * n + (x' - x)) 0) (sample (array_of w h start) x' y')
rect_more w h x y n r k j s start from t across within length_t count_k count_j is x' y' before =
    let u : ℕ = get_or t (x' - x) 0 in
    let v : ℕ = get_or from ((y' - y) * n + (x' - x)) 0 in
    let b : ℕ = sample (array_of w h start) x' y' in
    let here : x ≤ x' → x' < x + n → y' ≡ y + r → u ≡ v =
    λ p q e.
    let row : y' - y ≡ r = omega arith in
    part_at from t j (r * n) ((y' - y) * n + (x' - x)) (x' - x) is (omega arith) (ap (λ m. m * n + (x' - x)) row) in
    sample-put_mid w h x (y + r) n k s t across within length_t count_k x' y' ∙ (ap (λ m. cond (in_row x (y + r) n x' y') u m) before ∙ one_more x y n r x' y' u v b here)

-- what is so of each row above and of the next one, which was laid down, is so of each above the one after
pub rows_more : (f : ℕ → ℕ → ℕ) (n r k : ℕ) (s t : List ℕ) → r * n + n ≤ length s → length t ≡ n → k ≡ n
    → ((x' y' : ℕ) → x' < n → y' < r → get_or s (y' * n + x') 0 ≡ f x' y')
    → ((x' : ℕ) → x' < n → get_or t x' 0 ≡ f x' r)
    → (x' y' : ℕ) → x' < n → y' < r + 1 → get_or (put_mid (r * n) k s t) (y' * n + x') 0 ≡ f x' y'
rows_more f n r k s t within length_t count above next x' y' lt lower = elim (cases_lt y' r) [
  | inl less ↦
      let up : y' * n + n ≤ r * n = omega (arith, mul-le (y' + 1) n r n (omega arith) (omega arith)) in
      before_part (r * n) k (y' * n + x') s t (omega arith) (omega arith) ∙ above x' y' lt less
  | inr le ↦
      let same : y' ≡ r = omega arith in
      ap (λ y. get_or (put_mid (r * n) k s t) (y * n + x') 0) same ∙ (in_part (r * n) k x' s t (omega arith) (omega arith) ∙ (next x' lt ∙ ap (λ y. f x' y) (sym same)))
]
