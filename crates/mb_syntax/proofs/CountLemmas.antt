-- The counts beside a macroblock and its blocks, and nC from them.
use Rattle.std.proofs.Common.{◌≡◌, ◌≢◌, ℕ, zero, suc, ◌+◌, ◌-◌, ◌*◌, ◌/◌, ◌%◌, ◌<◌, ◌≤◌, ◌⊎◌, inl, inr, List, [], ◌∷◌, ◌++◌, length, get_or, set, Option, Some, None, option_map, slice_get, refl, sym, ap, ◌∙◌, subst, arith, eq-eqb, ne_eqb, lt-ltb, le-ltb, ℤ}
use Rattle.std.proofs.lemmas.Bool.{cases_eq, cases_lt, le-leb, lt-leb}
use Rattle.std.proofs.lemmas.List.{get_or-set_other, get_or-set_same, length-set, length-append}
use Rattle.std.proofs.lemmas.Nat.{div-add-mod', mod-mul-add}
use Rattle.std.proofs.lemmas.Option.{get_or_from_slice_get, slice_get_cases, slice_get_read, slice_get_within}
use Rattle.std.proofs.Math.Nat.{add-mod_right, mod-lt, mul-le-mul_right, suc-mul, zero-mod}
use Rattle.cb_types.specs.Blocks.{block_at, block_column, block_row}
use Rattle.cb_types.specs.declared.macroblock.Macroblock.{Macroblock}
use Rattle.mb_syntax.specs.Around.{AreColumns, IsAround, IsChromaSoFar, IsCountOf, IsCountOfAny, IsLumaSoFar, chroma_counts}
use Rattle.mb_syntax.specs.Counts.{chroma_above, chroma_left, chroma_place, count_in, luma_above, luma_left, luma_place}
use Rattle.mb_syntax.specs.Slice.{above, left_of, of_slice}
use Rattle.mb_syntax.specs.declared.counts.Around.{Around}
use Rattle.mb_syntax.specs.declared.counts.Columns.{Columns}
use Rattle.mb_syntax.specs.declared.counts.Counts.{Counts}
use Rattle.mb_syntax.specs.declared.slice.Slice.{Slice}

-- columns

pred_mod : (a w : ℕ) → 1 ≤ w → 0 < a % w → (a - 1) % w ≡ a % w - 1
pred_mod a w some h =
    let split = div-add-mod' a w in
    let below = mod-lt a some in
    let same : a - 1 ≡ a / w * w + (a % w - 1) = omega arith in
    ap (λ (x : ℕ). x % w) same ∙ mod-mul-add (a / w) w (a % w - 1) (omega arith)

back_mod : (a w : ℕ) → w ≤ a → (a - w) % w ≡ a % w
back_mod a w h =
    let same : a - w + w ≡ a = omega arith in
    sym (add-mod_right (a - w) w) ∙ ap (λ (x : ℕ). x % w) same

other_mod : (x y w : ℕ) → x < y → y < x + w → x % w ≢ y % w
other_mod x y w less near e =
    let split_x = div-add-mod' x w in
    let split_y = div-add-mod' y w in
    elim (cases_lt (x / w) (y / w)) [
      | inl h ↦ let more : suc (x / w) * w ≤ y / w * w = mul-le-mul_right w h in let step : suc (x / w) * w ≡ x / w * w + w = suc-mul (x / w) w in absurd (omega arith)
      | inr h ↦ let fewer : y / w * w ≤ x / w * w = mul-le-mul_right w h in absurd (omega arith)
    ]

at_place : (slice : Slice) (before : List Macroblock) (address k : ℕ) → address ≡ slice.first + k → of_slice slice before (Some address) ≡ slice_get before k
unfolding of_slice
at_place slice before address k e =
    let from : slice.first ≤ address = omega arith in
    let back : address - slice.first ≡ k = omega arith in
    rw (le-leb slice.first address from) (ap (slice_get before) back)

before_slice : (slice : Slice) (before : List Macroblock) (address : ℕ) → address < slice.first → of_slice slice before (Some address) ≡ None
unfolding of_slice
before_slice slice before address e = rw (lt-leb slice.first address e) refl

nowhere : (slice : Slice) (before : List Macroblock) → of_slice slice before None ≡ None
unfolding of_slice
nowhere slice before = refl

append_left : {X : Type 0} (xs ys : List X) (k : ℕ) → k < length xs → slice_get (xs ++ ys) k ≡ slice_get xs k
append_left [] ys k h = absurd (omega (arith, h))
append_left (x ∷ xs) ys zero h = refl
append_left (x ∷ xs) ys (suc k) h = append_left xs ys k (omega (arith, h))

append_seam : {X : Type 0} (xs : List X) (y : X) → slice_get (xs ++ y ∷ []) (length xs) ≡ Some y
append_seam [] y = refl
append_seam (x ∷ xs) y = append_seam xs y

module _ (slice : Slice) (before : List Macroblock) (columns : Columns) (some : 1 ≤ slice.width) (are : AreColumns slice before columns) where
  -- the counts of the macroblock that is so many behind the first
  kept : (k column : ℕ) (d : Counts) → k < length before → length before ≤ k + slice.width → (slice.first + k) % slice.width ≡ column → IsCountOfAny (Some (get_or columns.counts column d)) (slice_get before k)
  kept k column d below near e =
      elim ((slice_get_cases before k).1) [
        | inl w ↦
            let found = are.each k w.0 w.2 near in
            let is : get_or columns.counts column d ≡ found.0 = get_or_from_slice_get columns.counts column found.0 d (ap (slice_get columns.counts) (sym e) ∙ found.1) in
            subst (λ (x : Option Macroblock). IsCountOfAny (Some (get_or columns.counts column d)) x) (sym w.2) (subst (λ (x : Counts). IsCountOf x w.0) (sym is) found.2)
        | inr w ↦ absurd (omega (arith, w.0))
      ]

  pub left_some : (d : Counts) → 0 < (slice.first + length before) % slice.width → 0 < length before
      → IsCountOfAny (Some (get_or columns.counts ((slice.first + length before) % slice.width - 1) d)) (left_of slice before)
  left_some d column behind =
      let a = slice.first + length before in
      let k = length before - 1 in
      let back : a - 1 ≡ slice.first + k = omega arith in
      let left : left_of slice before ≡ slice_get before k = rw (lt-ltb 0 (a % slice.width) column) (at_place slice before (a - 1) k back) in
      subst (λ (x : Option Macroblock). IsCountOfAny (Some (get_or columns.counts (a % slice.width - 1) d)) x) (sym left)
      (kept k (a % slice.width - 1) d (omega arith) (omega arith) (ap (λ (x : ℕ). x % slice.width) (sym back) ∙ pred_mod a slice.width some column))

  pub above_some : (d : Counts) → slice.width ≤ length before
      → IsCountOfAny (Some (get_or columns.counts ((slice.first + length before) % slice.width) d)) (above slice before)
  above_some d enough =
      let a = slice.first + length before in
      let w = slice.width in
      let k = length before - w in
      let back : a - w ≡ slice.first + k = omega arith in
      let up : above slice before ≡ slice_get before k = rw (le-leb w a (omega arith)) (at_place slice before (a - w) k back) in
      subst (λ (x : Option Macroblock). IsCountOfAny (Some (get_or columns.counts (a % w) d)) x) (sym up)
      (kept k (a % w) d (omega arith) (omega arith) (ap (λ (x : ℕ). x % w) (sym back) ∙ back_mod a w (omega arith)))

  module _ (n : ℕ) (same : length before ≡ n) (d : Counts) where
    pub left_at : (o : Option Counts) → o ≡ Some (get_or columns.counts ((slice.first + n) % slice.width - 1) d) → 0 < (slice.first + n) % slice.width → 0 < n
        → IsCountOfAny o (left_of slice before)
    left_at o is column behind =
        subst (λ (x : Option Counts). IsCountOfAny x (left_of slice before)) (sym is)
        (subst (λ (m : ℕ). IsCountOfAny (Some (get_or columns.counts ((slice.first + m) % slice.width - 1) d)) (left_of slice before)) same
        (left_some d (subst (λ (m : ℕ). 0 < (slice.first + m) % slice.width) (sym same) column) (omega arith)))

    pub above_at : slice.width ≤ n → IsCountOfAny (Some (get_or columns.counts ((slice.first + n) % slice.width) d)) (above slice before)
    above_at enough =
        subst (λ (m : ℕ). IsCountOfAny (Some (get_or columns.counts ((slice.first + m) % slice.width) d)) (above slice before)) same (above_some d (omega arith))

  pub keeps : (counts : Counts) (mb : Macroblock) → slice.width ≤ 256 → IsCountOf counts mb
      → AreColumns slice (before ++ mb ∷ []) (record { counts = set columns.counts ((slice.first + length before) % slice.width) counts })
  keeps counts mb few is =
      let n = length before in
      let w = slice.width in
      let column = (slice.first + n) % w in
      let long = length-append before (mb ∷ []) in
      let below = mod-lt (slice.first + n) some in
      record {
        size = length-set columns.counts column counts ∙ are.size;
        each = λ k other at near.
            let within = slice_get_within (before ++ mb ∷ []) k other at in
            elim (cases_lt k n) [
              | inl h ↦
                  let found = are.each k other (sym (append_left before (mb ∷ []) k h) ∙ at) (omega arith) in
                  let place = (slice.first + k) % w in
                  let apart : place ≢ column = other_mod (slice.first + k) (slice.first + n) w (omega arith) (omega arith) in
                  let same = get_or-set_other columns.counts column place counts found.0 apart ∙ get_or_from_slice_get columns.counts place found.0 found.0 found.1 in
                  let inside = slice_get_within columns.counts place found.0 found.1 in
                  (found.0, slice_get_read (set columns.counts column counts) (length columns.counts) place found.0 (sym (length-set columns.counts column counts)) inside (sym same), found.2)
              | inr h ↦
                  let here : n ≡ k = omega arith in
                  let mine : Some mb ≡ Some other = sym (append_seam before mb) ∙ ap (slice_get (before ++ mb ∷ [])) here ∙ at in
                  let same_mb : mb ≡ other = cc in
                  let inside : column < length columns.counts = omega (arith, are.size) in
                  let put = slice_get_read (set columns.counts column counts) (length columns.counts) column counts (sym (length-set columns.counts column counts)) inside
                  (sym (get_or-set_same columns.counts column counts counts inside)) in
                  (counts, subst (λ (x : ℕ). slice_get (set columns.counts column counts) ((slice.first + x) % w) ≡ Some counts) here put, subst (IsCountOf counts) same_mb is)
            ];
      }

module _ (slice : Slice) (before : List Macroblock) where
  pub left_none : ((slice.first + length before) % slice.width ≡ 0) ⊎ (length before ≡ 0) → None ≡ left_of slice before
  left_none none =
      let a = slice.first + length before in
      elim (cases_lt 0 (a % slice.width)) [
        | inl h ↦ elim none [
          | inl e ↦ absurd (omega (arith, e))
          | inr e ↦ rw (lt-ltb 0 (a % slice.width) h) (elim (cases_lt 0 a) [
            | inl k ↦ sym (before_slice slice before (a - 1) (omega arith))
            | inr k ↦ let zero_is : a ≡ 0 = omega arith in absurd (omega (arith, ap (λ (x : ℕ). x % slice.width) zero_is, zero-mod slice.width))
          ])
        ]
        | inr h ↦ rw (le-ltb 0 (a % slice.width) h) (sym (nowhere slice before))
      ]

  pub above_none : length before < slice.width → None ≡ above slice before
  above_none few =
      let a = slice.first + length before in
      let w = slice.width in
      elim (cases_lt a w) [
        | inl h ↦ rw (lt-leb w a h) (sym (nowhere slice before))
        | inr h ↦ rw (le-leb w a h) (sym (before_slice slice before (a - w) (omega arith)))
      ]

  module _ (n : ℕ) (same : length before ≡ n) where
    pub left_nowhere : (o : Option Counts) → o ≡ None → ((0 < (slice.first + n) % slice.width × (n ≤ 0)) ⊎ ((slice.first + n) % slice.width ≤ 0)) → IsCountOfAny o (left_of slice before)
    left_nowhere o is none =
        let no_left : None ≡ left_of slice before = left_none (elim none [
          | inl e ↦ inr (omega (arith, e.1))
          | inr e ↦ inl (let at : (slice.first + length before) % slice.width ≡ (slice.first + n) % slice.width = ap (λ (m : ℕ). (slice.first + m) % slice.width) same in omega arith)
        ]) in
        subst (λ (x : Option Counts). IsCountOfAny x (left_of slice before)) (sym is) (subst (λ (m : Option Macroblock). IsCountOfAny None m) no_left tt)

    pub above_nowhere : n < slice.width → IsCountOfAny None (above slice before)
    above_nowhere few = subst (λ (m : Option Macroblock). IsCountOfAny None m) (above_none (omega arith)) tt

-- blocks

luma_of : (o : Option Counts) (m : Option Macroblock) (block : ℕ) → block < 16 → IsCountOfAny o m → option_map (λ counts. get_or counts.luma block 0) o ≡ option_map (λ mb. count_in mb (luma_place block)) m
luma_of (Some counts) (Some mb) block few is = ap Some (is.luma block few)
luma_of (Some counts) None block few is = absurd is
luma_of None (Some mb) block few is = absurd is
luma_of None None block few is = refl

chroma_of : (o : Option Counts) (m : Option Macroblock) (plane block : ℕ) → plane < 2 → block < 4 → IsCountOfAny o m
    → option_map (λ counts. get_or (chroma_counts counts plane) block 0) o ≡ option_map (λ mb. count_in mb (chroma_place plane block)) m
chroma_of (Some counts) (Some mb) plane block two few is =
    elim (cases_eq plane 0) [
      | inl e ↦ subst (λ (p : ℕ). Some (get_or (chroma_counts counts p) block 0) ≡ Some (count_in mb (chroma_place p block))) (sym e) (ap Some (is.cb block few))
      | inr n ↦ let one : plane ≡ 1 = omega arith in subst (λ (p : ℕ). Some (get_or (chroma_counts counts p) block 0) ≡ Some (count_in mb (chroma_place p block))) (sym one) (ap Some (is.cr block few))
    ]
chroma_of (Some counts) None plane block two few is = absurd is
chroma_of None (Some mb) plane block two few is = absurd is
chroma_of None None plane block two few is = refl

module _ (slice : Slice) (before : List Macroblock) (around : Around) (blocks : List (List ℤ)) (beside : IsAround slice before around) where
  module _ (counts : List ℕ) (block : ℕ) (few : block < 16) (so_far : IsLumaSoFar blocks counts block) where
    pub luma_left_is : (left : Option ℕ)
        → (block_column block ≡ 0 → left ≡ option_map (λ counts. get_or counts.luma (block_at 3 (block_row block)) 0) around.left)
        → (block_column block ≢ 0 → left ≡ Some (get_or counts (block_at (block_column block - 1) (block_row block)) 0)) → left ≡ luma_left slice before blocks block
    unfolding luma_left
    luma_left_is left first others =
        elim (cases_eq (block_column block) 0) [
          | inl e ↦ rw (eq-eqb (block_column block) 0 e) (first e ∙ luma_of around.left (left_of slice before) (block_at 3 (block_row block)) (omega arith) beside.left)
          | inr n ↦ rw (ne_eqb (block_column block) 0 n) (others n ∙ ap Some (so_far (block_at (block_column block - 1) (block_row block)) (omega arith)))
        ]

    pub luma_above_is : (up : Option ℕ)
        → (block_row block ≡ 0 → up ≡ option_map (λ counts. get_or counts.luma (block_at (block_column block) 3) 0) around.above)
        → (block_row block ≢ 0 → up ≡ Some (get_or counts (block_at (block_column block) (block_row block - 1)) 0)) → up ≡ luma_above slice before blocks block
    unfolding luma_above
    luma_above_is up first others =
        elim (cases_eq (block_row block) 0) [
          | inl e ↦ rw (eq-eqb (block_row block) 0 e) (first e ∙ luma_of around.above (above slice before) (block_at (block_column block) 3) (omega arith) beside.above)
          | inr n ↦ rw (ne_eqb (block_row block) 0 n) (others n ∙ ap Some (so_far (block_at (block_column block) (block_row block - 1)) (omega arith)))
        ]

  module _ (counts : List ℕ) (plane block : ℕ) (two : plane < 2) (few : block < 4) (so_far : IsChromaSoFar blocks plane counts block) where
    pub chroma_left_is : (left : Option ℕ) → (block % 2 ≡ 0 → left ≡ option_map (λ counts. get_or (chroma_counts counts plane) (block + 1) 0) around.left)
        → (block % 2 ≢ 0 → left ≡ Some (get_or counts (block - 1) 0)) → left ≡ chroma_left slice before blocks plane block
    unfolding chroma_left
    chroma_left_is left first others =
        elim (cases_eq (block % 2) 0) [
          | inl e ↦ rw (eq-eqb (block % 2) 0 e) (first e ∙ chroma_of around.left (left_of slice before) plane (block + 1) two (omega arith) beside.left)
          | inr n ↦ rw (ne_eqb (block % 2) 0 n) (others n ∙ ap Some (so_far (block - 1) (omega arith)))
        ]

    pub chroma_above_is : (up : Option ℕ) → (block < 2 → up ≡ option_map (λ counts. get_or (chroma_counts counts plane) (block + 2) 0) around.above)
        → (2 ≤ block → up ≡ Some (get_or counts (block - 2) 0)) → up ≡ chroma_above slice before blocks plane block
    unfolding chroma_above
    chroma_above_is up first others =
        elim (cases_lt block 2) [
          | inl h ↦ rw (lt-ltb block 2 h) (first h ∙ chroma_of around.above (above slice before) plane (block + 2) two (omega arith) beside.above)
          | inr h ↦ rw (le-ltb block 2 h) (others h ∙ ap Some (so_far (block - 2) (omega arith)))
        ]
