-- Places in blocks that lie row by row.
use Rattle.std.proofs.Common.{◌≡◌, ℕ, ◌+◌, ◌-◌, ◌*◌, ◌<◌, ◌≤◌, true, false, ◌&&◌, ◌⊎◌, cond, eqb, leb, ltb, List, length, get_or, refl, sym, ap, ◌∙◌, inl, inr, arith}
use Rattle.std.proofs.Math.Nat.{mul_comm}
use Rattle.std.proofs.lemmas.Bool.{cases_order, eq-eqb, le-leb, le-ltb, lt-leb, lt-ltb, ne_eqb}
use Rattle.std.proofs.lemmas.Nat.{mul-le}

-- the rows before a row end where it begins, at the latest
row_end : (w y' y : ℕ) → y' < y → w * y' + w ≤ y * w
row_end w y' y h = omega (arith, mul-le (y' + 1) w y w (omega arith) (omega arith))

place_in : (w y : ℕ) → w * y ≡ y * w
place_in w y = mul_comm w y

-- which row a place is in
pub same_row : (w y x : ℕ) → x < w → (leb (y * w) (w * y + x) && ltb (w * y + x) (y * w + w)) ≡ true
same_row w y x h =
    let e = place_in w y in
    let a = le-leb (y * w) (w * y + x) (omega arith) in
    let b = lt-ltb (w * y + x) (y * w + w) (omega arith) in
    rw (a, b)

pub row_above : (w y' y x : ℕ) → x < w → y' < y → (leb (y * w) (w * y' + x) && ltb (w * y' + x) (y * w + w)) ≡ false
row_above w y' y x h above =
    let e = row_end w y' y above in
    let a = lt-leb (y * w) (w * y' + x) (omega arith) in
    rw a

pub row_below : (w y' y x : ℕ) → x < w → y < y' → (leb (y * w) (w * y' + x) && ltb (w * y' + x) (y * w + w)) ≡ false
row_below w y' y x h below =
    let e = row_end w y y' below in
    let f = place_in w y in
    let g = place_in w y' in
    let a = le-leb (y * w) (w * y' + x) (omega arith) in
    let b = le-ltb (w * y' + x) (y * w + w) (omega arith) in
    rw (a, b)

-- what a row written at its place leaves
pub row_written : (w y : ℕ) (new old row : List ℕ) → length row ≡ w
    → ((k : ℕ) → get_or new k 0 ≡ cond (leb (y * w) k && ltb k (y * w + w)) (get_or row (k - y * w) 0) (get_or old k 0))
    → (x y' : ℕ) → x < w → get_or new (w * y' + x) 0 ≡ cond (eqb y' y) (get_or row x 0) (get_or old (w * y' + x) 0)
row_written w y new old row count h x y' below = elim (cases_order y' y) [
  | inl same ↦ same_is y' same
  | inr other ↦ elim other [
    | inl above ↦
        let a = row_above w y' y x below above in
        let b = ne_eqb y' y (omega arith) in
        h (w * y' + x) ∙ rw (a, b)
    | inr under ↦
        let a = row_below w y' y x below under in
        let b = ne_eqb y' y (omega arith) in
        h (w * y' + x) ∙ rw (a, b)
  ]
]
  where
    same_is : (y' : ℕ) → y' ≡ y → get_or new (w * y' + x) 0 ≡ cond (eqb y' y) (get_or row x 0) (get_or old (w * y' + x) 0)
    same_is y' same =
        let e = place_in w y in
        let a = same_row w y x below in
        let b = eq-eqb y y refl in
        let c : w * y + x - y * w ≡ x = omega arith in
        rw (same, b) (h (w * y + x) ∙ rw (a, c))

-- ---- one row more

abbrev pub PutsRow : ℕ → ℕ → List ℕ → List ℕ → List ℕ → Type 0
PutsRow w y new old row = (x y' : ℕ) → x < w → get_or new (w * y' + x) 0 ≡ cond (eqb y' y) (get_or row x 0) (get_or old (w * y' + x) 0)

at_row : (w y : ℕ) (new old row : List ℕ) → PutsRow w y new old row → (x y' : ℕ) → x < w → y' ≡ y → get_or new (w * y' + x) 0 ≡ get_or row x 0
at_row w y new old row put x y' below same = let e = eq-eqb y' y same in put x y' below ∙ rw e

beside_row : (w y : ℕ) (new old row : List ℕ) → PutsRow w y new old row → (x y' : ℕ) → x < w → (y' ≡ y → ⊥) → get_or new (w * y' + x) 0 ≡ get_or old (w * y' + x) 0
beside_row w y new old row put x y' below other = let e = ne_eqb y' y other in put x y' below ∙ rw e

pub row_more : (w y low : ℕ) (value : ℕ → ℕ → ℕ) (new old row : List ℕ) → PutsRow w y new old row
    → ((x y' : ℕ) → x < w → low ≤ y' → y' < y → get_or old (w * y' + x) 0 ≡ value x y')
    → ((x : ℕ) → x < w → get_or row x 0 ≡ value x y)
    → (x y' : ℕ) → x < w → low ≤ y' → y' < y + 1 → get_or new (w * y' + x) 0 ≡ value x y'
row_more w y low value new old row put before now x y' below above under = elim (cases_order y' y) [
  | inl same ↦ at_row w y new old row put x y' below same ∙ (now x below ∙ ap (λ (j : ℕ). value x j) (sym same))
  | inr other ↦ beside_row w y new old row put x y' below (differs other) ∙ before x y' below above (earlier other)
]
  where
    differs : (y' < y) ⊎ (y < y') → y' ≡ y → ⊥
    differs o e = elim o [ inl h ↦ omega arith | inr h ↦ omega arith ]

    earlier : (y' < y) ⊎ (y < y') → y' < y
    earlier o = elim o [ inl h ↦ h | inr h ↦ omega arith ]

pub row_kept : (w y low : ℕ) (new old first row : List ℕ) → low ≤ y → PutsRow w y new old row
    → ((x y' : ℕ) → x < w → y' < low → get_or old (w * y' + x) 0 ≡ get_or first (w * y' + x) 0)
    → (x y' : ℕ) → x < w → y' < low → get_or new (w * y' + x) 0 ≡ get_or first (w * y' + x) 0
row_kept w y low new old first row h put before x y' below under = beside_row w y new old row put x y' below (λ e. omega arith) ∙ before x y' below under
