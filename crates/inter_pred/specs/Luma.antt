-- Luma samples at quarter places (H.264, 8.4.2.2.1, with the names of its Figure 8-4).
use Rattle.std.specs.Prelude.{ℕ, ◌+◌, ◌/◌, ℤ, pos, ◌+ℤ◌, ◌-ℤ◌, ◌*ℤ◌, [], ◌∷◌, slice_index}
use Rattle.std.specs.Int.{int_shr}
use Rattle.std.specs.List.{slice_index_or}
use Rattle.vd_plane.specs.SampleArray.{SampleArray, nearest_sample}
use Rattle.inter_pred.specs.Places.{clip, fraction, whole}

-- The samples at whole places about one of them, which is G: n c r stands in column c and row r of those
-- from two columns left of G and two rows above it on.
abbrev pub Near : Type 0
Near = ℕ → ℕ → ℕ

abbrev pub near : SampleArray → ℤ → ℤ → Near
near a x y c r = nearest_sample a ((x -ℤ pos 2) +ℤ pos c) ((y -ℤ pos 2) +ℤ pos r)

-- the filter of six taps: E - 5 F + 20 G + 20 H - 5 I + J
abbrev pub six_taps : ℤ → ℤ → ℤ → ℤ → ℤ → ℤ → ℤ
six_taps e f g h i j = ((e +ℤ j) -ℤ (pos 5 *ℤ (f +ℤ i))) +ℤ (pos 20 *ℤ (g +ℤ h))

-- the same, of samples
abbrev pub taps : ℕ → ℕ → ℕ → ℕ → ℕ → ℕ → ℤ
taps e f g h i j = six_taps (pos e) (pos f) (pos g) (pos h) (pos i) (pos j)

-- the sample half way between the third and the fourth of six: ( b1 + 16 ) >> 5, clipped
unfoldable pub half : ℕ → ℕ → ℕ → ℕ → ℕ → ℕ → ℕ
half e f g h i j = clip (int_shr (taps e f g h i j +ℤ pos 16) 5)

-- the sum over row r, from which the sample half a sample right of column 2 comes
abbrev pub sum_across : Near → ℕ → ℤ
sum_across n r = taps (n 0 r) (n 1 r) (n 2 r) (n 3 r) (n 4 r) (n 5 r)

-- half a sample right of G, and right of the sample below it
unfoldable pub b : Near → ℕ
b n = half (n 0 2) (n 1 2) (n 2 2) (n 3 2) (n 4 2) (n 5 2)

unfoldable pub s : Near → ℕ
s n = half (n 0 3) (n 1 3) (n 2 3) (n 3 3) (n 4 3) (n 5 3)

-- half a sample below G, and below the sample right of it
unfoldable pub h : Near → ℕ
h n = half (n 2 0) (n 2 1) (n 2 2) (n 2 3) (n 2 4) (n 2 5)

unfoldable pub m : Near → ℕ
m n = half (n 3 0) (n 3 1) (n 3 2) (n 3 3) (n 3 4) (n 3 5)

-- half a sample right and half a sample down, from sums that weren't rounded: ( j1 + 512 ) >> 10, clipped
unfoldable pub j : Near → ℕ
j n = clip (int_shr (six_taps (sum_across n 0) (sum_across n 1) (sum_across n 2) (sum_across n 3) (sum_across n 4) (sum_across n 5) +ℤ pos 512) 10)

-- the mean, rounded up
unfoldable pub mean : ℕ → ℕ → ℕ
mean u v = (u + v + 1) / 2

-- the sample so many quarters right of G and so many below it: a row of the table for each quarter down (Table 8-12).
-- H stands right of G, and M below it
unfoldable pub quarter : Near → ℕ → ℕ → ℕ
quarter n right below = slice_index (slice_index_or (
    (G ∷ mean G (b n) ∷ b n ∷ mean H (b n) ∷ []) ∷
    (mean G (h n) ∷ mean (b n) (h n) ∷ mean (b n) (j n) ∷ mean (b n) (m n) ∷ []) ∷
    (h n ∷ mean (h n) (j n) ∷ j n ∷ mean (j n) (m n) ∷ []) ∷
    (mean M (h n) ∷ mean (h n) (s n) ∷ mean (j n) (s n) ∷ mean (m n) (s n) ∷ []) ∷
    []) below []) right
  where
    G : ℕ
    G = n 2 2

    H : ℕ
    H = n 3 2

    M : ℕ
    M = n 2 3

-- the luma sample at a place in quarters
unfoldable pub luma_at : SampleArray → ℤ → ℤ → ℕ
luma_at a x y = quarter (near a (whole x 4) (whole y 4)) (fraction x 4) (fraction y 4)
