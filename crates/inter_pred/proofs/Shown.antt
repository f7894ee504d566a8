-- Windows that show samples of a plane.
use Rattle.std.proofs.Common.{◌≡◌, ℕ, ◌+◌, ◌-◌, ◌*◌, ◌<◌, ◌≤◌, ℤ, pos, ◌+ℤ◌, ◌-ℤ◌, List, length, take, drop, get_or, Option, None, Some, sym, ap, ap₂, ◌∙◌, arith}
use Rattle.std.specs.Int.{int_shr}
use Rattle.std.proofs.lemmas.Int.{ints}
use Rattle.std.proofs.lemmas.List.{length-drop, length-take}
use Rattle.std.proofs.lemmas.Nat.{mul-le}
use Rattle.vd_plane.specs.SampleArray.{SampleArray, IsPlane, nearest, nearest_sample, sample}
use Rattle.vd_plane.proofs.Samples.{sample_at}
use Rattle.inter_pred.specs.declared.parts.Part.{Part}
use Rattle.inter_pred.specs.declared.parts.Part.TheVariants.{Whole, WholeRight, WholeBelow, Across, AcrossBelow, Down, DownRight, Centre}
use Rattle.inter_pred.specs.declared.parts.Parts.{Parts}
use Rattle.inter_pred.specs.Luma.{Near, b, h, half, m, mean, near, s, six_taps, sum_across, taps}
use Rattle.inter_pred.specs.Parts.{mean_of, mean_with, near_in, part_at}
use Rattle.inter_pred.specs.Places.{clip}
use Rattle.inter_pred.specs.Windows.{Shows}
use Rattle.inter_pred.proofs.RowsOf.{at_part, six}

-- a place inside is the nearest to itself
itself : (side n : ℕ) (z : ℤ) → n < side → z ≡ pos n → n ≡ nearest side z
itself side n z lt is = let e : n ≡ nearest side (pos n) = omega arith in e ∙ ap (nearest side) (sym is)

-- the plane's own samples show a rectangle inside it
pub inside_shows : (a : SampleArray) (x y : ℤ) (left top columns rows n : ℕ) → IsPlane a → x ≡ pos left → y ≡ pos top → left + columns ≤ a.width → top + rows ≤ a.height → n ≡ length a.samples - (top * a.width + left)
    → Shows a x y columns rows (take n (drop (top * a.width + left) a.samples)) a.width
inside_shows a x y left top columns rows n plane is_x is_y across down is_n =
    let w : ℕ = a.width in
    let place : ℕ = top * w + left in
    let within = λ (r : ℕ) (lt : r < rows). mul-le (top + r + 1) w a.height w (omega arith) (omega arith) in
    record {
      samples_are = λ c r c_lt r_lt.
          at_part a.samples n place (r * w + c) ((top + r) * w + (left + c)) (omega (arith, within r r_lt, plane.count)) (omega arith)
          ∙ (sym (sample_at a (left + c) (top + r) (omega arith))
          ∙ ap₂ (sample a) (itself w (left + c) (x +ℤ pos c) (omega arith) (ap (λ z. z +ℤ pos c) is_x)) (itself a.height (top + r) (y +ℤ pos r) (omega arith) (ap (λ z. z +ℤ pos r) is_y)));
      room = λ r lt. omega (arith, within r lt, plane.count, length-take n (drop place a.samples), length-drop place a.samples);
    }

six_sums : (f : ℤ → ℤ → ℤ → ℤ → ℤ → ℤ → ℕ) (a b c d e g a' b' c' d' e' g' : ℤ) → a ≡ a' → b ≡ b' → c ≡ c' → d ≡ d' → e ≡ e' → g ≡ g' → f a b c d e g ≡ f a' b' c' d' e' g'
six_sums f a b c d e g a' b' c' d' e' g' p q r s t u = cc

six_taken : (a b c d e g a' b' c' d' e' g' : ℕ) → a ≡ a' → b ≡ b' → c ≡ c' → d ≡ d' → e ≡ e' → g ≡ g' → taps a b c d e g ≡ taps a' b' c' d' e' g'
six_taken a b c d e g a' b' c' d' e' g' p q r s t u = cc

-- where the samples of the six columns and rows about a place agree
abbrev Agree : Near → Near → Type 0
Agree n n' = (c r : ℕ) → c ≤ 5 → r ≤ 5 → n c r ≡ n' c r

sums_agree : (n n' : Near) → Agree n n' → (r : ℕ) → r ≤ 5 → sum_across n r ≡ sum_across n' r
sums_agree n n' same r le =
    six_taken (n 0 r) (n 1 r) (n 2 r) (n 3 r) (n 4 r) (n 5 r) (n' 0 r) (n' 1 r) (n' 2 r) (n' 3 r) (n' 4 r) (n' 5 r)
    (same 0 r (omega arith) le) (same 1 r (omega arith) le) (same 2 r (omega arith) le) (same 3 r (omega arith) le) (same 4 r (omega arith) le) (same 5 r (omega arith) le)

half_across : (n n' : Near) → Agree n n' → (r : ℕ) → r ≤ 5 → half (n 0 r) (n 1 r) (n 2 r) (n 3 r) (n 4 r) (n 5 r) ≡ half (n' 0 r) (n' 1 r) (n' 2 r) (n' 3 r) (n' 4 r) (n' 5 r)
half_across n n' same r le =
    six half (n 0 r) (n 1 r) (n 2 r) (n 3 r) (n 4 r) (n 5 r) (n' 0 r) (n' 1 r) (n' 2 r) (n' 3 r) (n' 4 r) (n' 5 r)
    (same 0 r (omega arith) le) (same 1 r (omega arith) le) (same 2 r (omega arith) le) (same 3 r (omega arith) le) (same 4 r (omega arith) le) (same 5 r (omega arith) le)

half_down : (n n' : Near) → Agree n n' → (c : ℕ) → c ≤ 5 → half (n c 0) (n c 1) (n c 2) (n c 3) (n c 4) (n c 5) ≡ half (n' c 0) (n' c 1) (n' c 2) (n' c 3) (n' c 4) (n' c 5)
half_down n n' same c le =
    six half (n c 0) (n c 1) (n c 2) (n c 3) (n c 4) (n c 5) (n' c 0) (n' c 1) (n' c 2) (n' c 3) (n' c 4) (n' c 5)
    (same c 0 le (omega arith)) (same c 1 le (omega arith)) (same c 2 le (omega arith)) (same c 3 le (omega arith)) (same c 4 le (omega arith)) (same c 5 le (omega arith))

-- then each part agrees
parts_agree : (p : Part) (n n' : Near) → Agree n n' → part_at p n ≡ part_at p n'
unfolding part_at b s h m Rattle.inter_pred.specs.Luma.j
parts_agree Whole n n' same = same 2 2 (omega arith) (omega arith)
parts_agree WholeRight n n' same = same 3 2 (omega arith) (omega arith)
parts_agree WholeBelow n n' same = same 2 3 (omega arith) (omega arith)
parts_agree Across n n' same = half_across n n' same 2 (omega arith)
parts_agree AcrossBelow n n' same = half_across n n' same 3 (omega arith)
parts_agree Down n n' same = half_down n n' same 2 (omega arith)
parts_agree DownRight n n' same = half_down n n' same 3 (omega arith)
parts_agree Centre n n' same =
    six_sums (λ u v w x y z. clip (int_shr (six_taps u v w x y z +ℤ pos 512) 10)) _ _ _ _ _ _ _ _ _ _ _ _ (sums_agree n n' same 0 (omega arith)) (sums_agree n n' same 1 (omega arith)) (sums_agree n n' same 2 (omega arith)) (sums_agree n n' same 3 (omega arith)) (sums_agree n n' same 4 (omega arith)) (sums_agree n n' same 5 (omega arith))

means_agree : (first : Part) (second : Option Part) (n n' : Near) → Agree n n' → mean_with (part_at first n) second n ≡ mean_with (part_at first n') second n'
means_agree first None n n' same = parts_agree first n n' same
means_agree first (Some second) n n' same = ap₂ mean (parts_agree first n n' same) (parts_agree second n n' same)

-- a window about a block shows what lies about each of its places
pub means_shown : (a : SampleArray) (x y : ℤ) (width height stride : ℕ) (xs : List ℕ) (parts : Parts) → Shows a (x -ℤ pos 2) (y -ℤ pos 2) (width + 5) (height + 5) xs stride → (i k : ℕ) → i < width → k < height
    → mean_of parts (near_in xs stride (k * stride + i)) ≡ mean_of parts (near a (x +ℤ pos i) (y +ℤ pos k))
means_shown a x y width height stride xs parts shows i k across down =
    means_agree parts.first parts.second (near_in xs stride (k * stride + i)) (near a (x +ℤ pos i) (y +ℤ pos k))
    (λ c r c_le r_le.
    let place : k * stride + i + r * stride + c ≡ (k + r) * stride + (i + c) = omega arith in
    let column : (x -ℤ pos 2) +ℤ pos (i + c) ≡ ((x +ℤ pos i) -ℤ pos 2) +ℤ pos c = omega (arith, ints) in
    let row : (y -ℤ pos 2) +ℤ pos (k + r) ≡ ((y +ℤ pos k) -ℤ pos 2) +ℤ pos r = omega (arith, ints) in
    ap (λ n. get_or xs n 0) place ∙ (shows.samples_are (i + c) (k + r) (omega arith) (omega arith) ∙ ap₂ (nearest_sample a) column row))

-- such a rectangle begins before the samples end
pub begins_within : (w h stride left top columns rows n : ℕ) → stride ≡ w → n ≡ w * h → left + columns ≤ stride → top + rows ≤ h → 1 ≤ rows → top * stride + left ≤ n
begins_within w h stride left top columns rows n same count across down some =
    omega (arith, mul-le (top + 1) stride h stride (omega arith) (omega arith), ap (λ z. h * z) same)

-- a rectangle that was copied shows it too
pub rect_shows : (a : SampleArray) (x y x' y' : ℤ) (columns rows : ℕ) (xs : List ℕ) → x' ≡ x → y' ≡ y → length xs ≡ columns * rows → ((c r : ℕ) → c < columns → r < rows → get_or xs (r * columns + c) 0 ≡ nearest_sample a (x' +ℤ pos c) (y' +ℤ pos r))
    → Shows a x y columns rows xs columns
rect_shows a x y x' y' columns rows xs is_x is_y count samples = record {
  samples_are = λ c r c_lt r_lt. samples c r c_lt r_lt ∙ ap₂ (nearest_sample a) (ap (λ z. z +ℤ pos c) is_x) (ap (λ z. z +ℤ pos r) is_y);
  room = λ r lt. omega (arith, mul-le (r + 1) columns rows columns (omega arith) (omega arith));
}

-- the same window, by other words for its place
pub shows_same : (a : SampleArray) (x y x' y' : ℤ) (columns rows stride stride' : ℕ) (xs : List ℕ) → x' ≡ x → y' ≡ y → stride' ≡ stride → Shows a x' y' columns rows xs stride → Shows a x y columns rows xs stride'
shows_same a x y x' y' columns rows stride stride' xs is_x is_y is_stride shows = record {
  samples_are = λ c r c_lt r_lt. ap (λ s. get_or xs (r * s + c) 0) is_stride ∙ (shows.samples_are c r c_lt r_lt ∙ ap₂ (nearest_sample a) (ap (λ z. z +ℤ pos c) is_x) (ap (λ z. z +ℤ pos r) is_y));
  room = λ r lt. omega (arith, shows.room r lt, ap (λ s. r * s) is_stride);
}

-- a row of a rectangle
pub row_within : (columns rows n r : ℕ) → n ≡ columns * rows → r < rows → r * columns + columns ≤ n
row_within columns rows n r count lt = omega (arith, mul-le (r + 1) columns rows columns (omega arith) (omega arith))
