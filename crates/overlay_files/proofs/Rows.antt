-- Rows of pixels, as a bitmap is laid over them one by one.
use Rattle.std.proofs.Common.{◌≡◌, ℕ, ◌+◌, ◌*◌, ◌<◌, ◌≤◌, inl, inr, List, length, take, drop, get_or, refl, sym, ap, ap₂, subst, ◌∙◌, arith}
use Rattle.std.proofs.lemmas.Bool.{cases_lt}
use Rattle.std.proofs.lemmas.List.{places}
use Rattle.std.proofs.lemmas.Nat.{mul-le}
use borrow.Rule.Slice.PartMut.{put_mid}
use Rattle.mixer.specs.Mixed.{pixel_at}
use Rattle.mixer.proofs.Pixels.{pixel_before, pixel_inside}
use Rattle.overlay_files.specs.Blended.{IsBeside, IsBlended, over}
use Rattle.overlay_files.specs.Pixels.{pixels_of}

after_part : (a k i : ℕ) (s t : List ℕ) → a + k ≤ i → length t ≡ k → a + k ≤ length s → get_or (put_mid a k s t) i 0 ≡ get_or s i 0
after_part a k i s t behind long within = grind (arith, places)

cut_part : (a k i : ℕ) (s : List ℕ) → i < k → get_or (take k (drop a s)) i 0 ≡ get_or s (a + i) 0
cut_part a k i s few = grind (arith, places)

at_start : (n : ℕ) → 4 * n + 0 ≡ 4 * n
at_start n = omega arith

four_of : (s t : List ℕ) (n m : ℕ) → ((i : ℕ) → i < 4 → get_or s (4 * n + i) 0 ≡ get_or t (4 * m + i) 0) → pixel_at s n ≡ pixel_at t m
four_of s t n m same =
    let first : get_or s (4 * n) 0 ≡ get_or t (4 * m) 0 = ap (λ i. get_or s i 0) (sym (at_start n)) ∙ (same 0 (omega arith) ∙ ap (λ i. get_or t i 0) (at_start m)) in
    let second = same 1 (omega arith) in
    let third = same 2 (omega arith) in
    let fourth = same 3 (omega arith) in
    cc

-- a pixel behind the part of a list that was replaced, and one of a part that was cut out
pub pixel_after : (a k n : ℕ) (s t : List ℕ) → a + k ≤ 4 * n → length t ≡ k → a + k ≤ length s → pixel_at (put_mid a k s t) n ≡ pixel_at s n
pixel_after a k n s t behind long within = four_of (put_mid a k s t) s n n (λ i few. after_part a k (4 * n + i) s t (omega (arith, behind)) long within)

pub pixel_cut : (a k n m : ℕ) (s : List ℕ) → 4 * m ≡ a + 4 * n → 4 * n + 4 ≤ k → pixel_at (take k (drop a s)) n ≡ pixel_at s m
pixel_cut a k n m s place few =
    four_of (take k (drop a s)) s n m
    (λ i small.
    let at : a + (4 * n + i) ≡ 4 * m + i = omega (arith, place) in
    cut_part a k (4 * n + i) s (omega (arith, few, small)) ∙ ap (λ j. get_or s j 0) at)

-- the pixels of a row of which so many are done
pub record RowSoFar (upper old : List ℕ) (done : ℕ) (now : List ℕ) : Type 0 where
  pub front : (n : ℕ) → n < done → pixel_at now n ≡ over (pixel_at upper n) (pixel_at old n)
  pub back : (n : ℕ) → done ≤ n → pixel_at now n ≡ pixel_at old n

pub row_more : (upper old s t : List ℕ) (done k : ℕ) → k ≡ 4 → 4 * done + 4 ≤ length s → length t ≡ 4 → RowSoFar upper old done s → pixel_at t 0 ≡ over (pixel_at upper done) (pixel_at s done)
    → RowSoFar upper old (done + 1) (put_mid (4 * done) k s t)
row_more upper old s t done k four within long r here = record {
  front = λ n lt. elim (cases_lt n done) [
    | inl less ↦ pixel_before (4 * done) k n s t (omega (arith, less)) (omega (arith, within)) ∙ r.front n less
    | inr le ↦
        let same : n ≡ done = omega (arith, le, lt) in
        ap (pixel_at (put_mid (4 * done) k s t)) same
        ∙ (pixel_inside (4 * done) k done 0 s t (omega arith) (omega (arith, within)) (omega (arith, long))
        ∙ (here ∙ (ap (over (pixel_at upper done)) (r.back done (omega arith)) ∙ ap (λ m. over (pixel_at upper m) (pixel_at old m)) (sym same))))
  ];
  back = λ n le. pixel_after (4 * done) k n s t (omega (arith, le, four)) (omega (arith, long, four)) (omega (arith, within, four)) ∙ r.back n (omega (arith, le));
}

-- ---- a bitmap of which so many rows are laid over the pixels

-- what one row of the bitmap makes of the part of a row of pixels that it falls on
abbrev pub IsRowOver : List ℕ → List ℕ → List ℕ → Type 0
IsRowOver upper lower t = (n : ℕ) → 4 * n + 4 ≤ length lower → pixel_at t n ≡ over (pixel_at upper n) (pixel_at lower n)

-- what `blend` knows of the part that a row of the bitmap falls on: it begins at `start` and has `columns` pixels
pub record Part (w bw x y row columns start : ℕ) (s : List ℕ) : Type 0 where
  pub start_is : start ≡ 4 * ((y + row) * w + x)
  pub within : x + columns ≤ w
  pub few : columns ≤ bw
  pub all : (i : ℕ) → i < bw → x + i < w → i < columns
  pub room : start + 4 * columns ≤ length s

row_before : (w y row start x N px py : ℕ) → start ≡ 4 * ((y + row) * w + x) → N ≡ py * w + px → px < w → py < y + row → 4 * N + 4 ≤ start
row_before w y row start x N px py is place lt lower =
    let up : (py + 1) * w ≤ (y + row) * w = mul-le (py + 1) w (y + row) w (omega (arith, lower)) (omega arith) in
    omega (arith, is, place, lt, up)

row_behind : (w y row start x columns N px py : ℕ) → start ≡ 4 * ((y + row) * w + x) → x + columns ≤ w → N ≡ py * w + px → y + row < py → start + 4 * columns ≤ 4 * N
row_behind w y row start x columns N px py is within place higher =
    let up : (y + row + 1) * w ≤ py * w = mul-le (y + row + 1) w py w (omega (arith, higher)) (omega arith) in
    omega (arith, is, place, within, up)

row_right : (w y row start x columns N px py : ℕ) → start ≡ 4 * ((y + row) * w + x) → N ≡ py * w + px → x + columns ≤ px → y + row ≤ py → start + 4 * columns ≤ 4 * N
row_right w y row start x columns N px py is place right lower =
    let up : (y + row) * w ≤ py * w = mul-le (y + row) w py w (omega (arith, lower)) (omega arith) in
    omega (arith, is, place, right, up)

row_left : (w y row start x N px py : ℕ) → start ≡ 4 * ((y + row) * w + x) → N ≡ py * w + px → px < x → py ≤ y + row → 4 * N + 4 ≤ start
row_left w y row start x N px py is place left lower =
    let up : py * w ≤ (y + row) * w = mul-le py w (y + row) w (omega (arith, lower)) (omega arith) in
    omega (arith, is, place, left, up)

-- pixels beside the part stay
kept_before : (start k N : ℕ) (old s t : List ℕ) → 4 * N + 4 ≤ start → start ≤ length s → pixel_at s N ≡ pixel_at old N → pixel_at (put_mid start k s t) N ≡ pixel_at old N
kept_before start k N old s t lt within same = pixel_before start k N s t lt within ∙ same

kept_behind : (start k N : ℕ) (old s t : List ℕ) → start + k ≤ 4 * N → length t ≡ k → start + k ≤ length s → pixel_at s N ≡ pixel_at old N → pixel_at (put_mid start k s t) N ≡ pixel_at old N
kept_behind start k N old s t lt long within same = pixel_after start k N s t lt long within ∙ same

beside_less : (bw row : ℕ) (bb : List ℕ) (h x y px py : ℕ) → IsBeside (pixels_of bw (row + 1) bb) x y px py → IsBeside (pixels_of bw row bb) x y px py
beside_less bw row bb h x y px py (inl left) = inl left
beside_less bw row bb h x y px py (inr (inl right)) = inr (inl right)
beside_less bw row bb h x y px py (inr (inr (inl above))) = inr (inr (inl above))
beside_less bw row bb h x y px py (inr (inr (inr below))) = inr (inr (inr (omega (arith, below))))

beside_kept : (w bw x y row columns start k px py : ℕ) (bb old s t : List ℕ) → k ≡ 4 * columns → length t ≡ k → Part w bw x y row columns start s → px < w
    → IsBeside (pixels_of bw (row + 1) bb) x y px py → pixel_at s (py * w + px) ≡ pixel_at old (py * w + px) → pixel_at (put_mid start k s t) (py * w + px) ≡ pixel_at old (py * w + px)
beside_kept w bw x y row columns start k px py bb old s t is long p lt (inl left) same = elim (cases_lt py (y + row + 1)) [
  | inl less ↦ kept_before start k (py * w + px) old s t (row_left w y row start x (py * w + px) px py p.start_is (omega arith) left (omega (arith, less))) (omega (arith, p.room)) same
  | inr more ↦ kept_behind start k (py * w + px) old s t (omega (arith, is, row_behind w y row start x columns (py * w + px) px py p.start_is p.within (omega arith) (omega (arith, more)))) long (omega (arith, is, p.room)) same
]
beside_kept w bw x y row columns start k px py bb old s t is long p lt (inr (inl right)) same = elim (cases_lt py (y + row)) [
  | inl less ↦ kept_before start k (py * w + px) old s t (row_before w y row start x (py * w + px) px py p.start_is (omega arith) lt less) (omega (arith, p.room)) same
  | inr more ↦ kept_behind start k (py * w + px) old s t (omega (arith, is, row_right w y row start x columns (py * w + px) px py p.start_is (omega arith) (omega (arith, right, p.few)) more)) long (omega (arith, is, p.room)) same
]
beside_kept w bw x y row columns start k px py bb old s t is long p lt (inr (inr (inl above))) same =
    kept_before start k (py * w + px) old s t (row_before w y row start x (py * w + px) px py p.start_is (omega arith) lt (omega (arith, above))) (omega (arith, p.room)) same
beside_kept w bw x y row columns start k px py bb old s t is long p lt (inr (inr (inr below))) same =
    kept_behind start k (py * w + px) old s t (omega (arith, is, row_behind w y row start x columns (py * w + px) px py p.start_is p.within (omega arith) (omega (arith, below)))) long (omega (arith, is, p.room)) same

-- one pixel of the row that is laid over now
under_now : (w bw x y row columns start k from i : ℕ) (bb old s t : List ℕ) → k ≡ 4 * columns → length t ≡ k → Part w bw x y row columns start s → from ≡ row * (4 * bw) → i < columns → 4 * columns ≤ length s
    → length (take k (drop start s)) ≡ k → IsRowOver (take k (drop from bb)) (take k (drop start s)) t
    → pixel_at s ((y + row) * w + (x + i)) ≡ pixel_at old ((y + row) * w + (x + i))
    → pixel_at (put_mid start k s t) ((y + row) * w + (x + i)) ≡ over (pixel_at bb (row * bw + i)) (pixel_at old ((y + row) * w + (x + i)))
under_now w bw x y row columns start k from i bb old s t is long p from_is few fits cut over_row same =
    pixel_inside start k ((y + row) * w + (x + i)) i s t (omega (arith, p.start_is)) (omega (arith, p.room)) (omega (arith, long, is, few))
    ∙ (over_row i (omega (arith, cut, is, few))
    ∙ ap₂ over (pixel_cut from k i (row * bw + i) bb (omega (arith, from_is)) (omega (arith, is, few))) (pixel_cut start k i ((y + row) * w + (x + i)) s (omega (arith, p.start_is)) (omega (arith, is, few)) ∙ same))

under_more : (w h bw x y row columns start k from i j : ℕ) (bb old s t : List ℕ) → k ≡ 4 * columns → length t ≡ k → Part w bw x y row columns start s → from ≡ row * (4 * bw)
    → length (take k (drop start s)) ≡ k → IsRowOver (take k (drop from bb)) (take k (drop start s)) t
    → IsBlended (pixels_of w h old) (pixels_of bw row bb) x y (pixels_of w h s)
    → i < bw → j < row + 1 → x + i < w → y + j < h
    → pixel_at (put_mid start k s t) ((y + j) * w + (x + i)) ≡ over (pixel_at bb (j * bw + i)) (pixel_at old ((y + j) * w + (x + i)))
under_more w h bw x y row columns start k from i j bb old s t is long p from_is cut over_row b lt lower column inside = elim (cases_lt j row) [
  | inl less ↦
      pixel_before start k ((y + j) * w + (x + i)) s t (row_before w y row start x ((y + j) * w + (x + i)) (x + i) (y + j) p.start_is (omega arith) column (omega (arith, less))) (omega (arith, p.room))
      ∙ b.under i j lt less column inside
  | inr more ↦
      let same : j ≡ row = omega (arith, more, lower) in
      let here : y + row < h = omega (arith, same, inside) in
      subst (λ (v : ℕ). pixel_at (put_mid start k s t) ((y + v) * w + (x + i)) ≡ over (pixel_at bb (v * bw + i)) (pixel_at old ((y + v) * w + (x + i)))) (sym same)
      (under_now w bw x y row columns start k from i bb old s t is long p from_is (p.all i lt column) (omega (arith, p.room)) cut over_row
      (b.beside (x + i) (y + row) column here (inr (inr (inr (omega arith))))))
]

pub blended_more : (w h bw x y row columns start k from : ℕ) (bb old s t : List ℕ) → k ≡ 4 * columns → length t ≡ k → Part w bw x y row columns start s → from ≡ row * (4 * bw)
    → length (take k (drop start s)) ≡ k → IsRowOver (take k (drop from bb)) (take k (drop start s)) t
    → IsBlended (pixels_of w h old) (pixels_of bw row bb) x y (pixels_of w h s)
    → IsBlended (pixels_of w h old) (pixels_of bw (row + 1) bb) x y (pixels_of w h (put_mid start k s t))
blended_more w h bw x y row columns start k from bb old s t is long p from_is cut over_row b = record {
  under = λ i j lt lower column inside. under_more w h bw x y row columns start k from i j bb old s t is long p from_is cut over_row b lt lower column inside;
  beside = λ px py lt inside aside. beside_kept w bw x y row columns start k px py bb old s t is long p lt aside (b.beside px py lt inside (beside_less bw row bb h x y px py aside));
}

-- no row is laid over yet
pub nothing_blended : (w h bw x y : ℕ) (bb old : List ℕ) → IsBlended (pixels_of w h old) (pixels_of bw 0 bb) x y (pixels_of w h old)
nothing_blended w h bw x y bb old = record { under = λ i j lt lower. absurd (omega (arith, lower)); beside = λ px py lt inside aside. refl }

fewer : (w h bw bh rows x y px py : ℕ) (bb : List ℕ) → rows ≤ bh → IsBeside (pixels_of bw bh bb) x y px py → IsBeside (pixels_of bw rows bb) x y px py
fewer w h bw bh rows x y px py bb few (inl left) = inl left
fewer w h bw bh rows x y px py bb few (inr (inl right)) = inr (inl right)
fewer w h bw bh rows x y px py bb few (inr (inr (inl above))) = inr (inr (inl above))
fewer w h bw bh rows x y px py bb few (inr (inr (inr below))) = inr (inr (inr (omega (arith, below, few))))

-- all rows that fall inside are laid over
pub all_blended : (w h bw bh rows x y : ℕ) (bb old now : List ℕ) → rows ≤ bh → ((j : ℕ) → j < bh → y + j < h → j < rows) → IsBlended (pixels_of w h old) (pixels_of bw rows bb) x y (pixels_of w h now)
    → IsBlended (pixels_of w h old) (pixels_of bw bh bb) x y (pixels_of w h now)
all_blended w h bw bh rows x y bb old now few all b = record {
  under = λ i j lt lower column inside. b.under i j lt (all j lower inside) column inside;
  beside = λ px py lt inside aside. b.beside px py lt inside (fewer w h bw bh rows x y px py bb few aside);
}

-- nothing of the bitmap falls inside
pub none_blended : (w h bw bh x y : ℕ) (bb old : List ℕ) → w ≤ x → IsBlended (pixels_of w h old) (pixels_of bw bh bb) x y (pixels_of w h old)
none_blended w h bw bh x y bb old right = record { under = λ i j lt lower column. absurd (omega (arith, column, right)); beside = λ px py lt inside aside. refl }

-- a row of the pixels is within theirs
pub part_fits : (w h y row x columns count : ℕ) → count ≡ 4 * (w * h) → x + columns ≤ w → y + row < h → 4 * ((y + row) * w + x) + 4 * columns ≤ count
part_fits w h y row x columns count is within lt =
    let up : (y + row + 1) * w ≤ h * w = mul-le (y + row + 1) w h w (omega (arith, lt)) (omega arith) in
    omega (arith, is, within, up)

-- rows that are laid over are inside
pub row_inside : (h y row rows : ℕ) → row < rows → (y < h → y + rows ≤ h) → (h ≤ y → rows ≡ 0) → y + row < h
row_inside h y row rows lt within empty = elim (cases_lt y h) [
  | inl less ↦ omega (arith, lt, within less)
  | inr more ↦ absurd (omega (arith, lt, empty more))
]
