-- Samples that no line reaches.
use Rattle.std.proofs.Common.{◌≡◌, ◌≢◌, ℕ, zero, suc, ◌+◌, ◌-◌, ◌*◌, ◌/◌, ◌%◌, ◌<◌, ◌≤◌, Bool, true, false, cond, eqb, nat_lt, nat_le, List, get_or, Some, None, ℤ, inl, inr, refl, ap, sym, ◌∙◌, arith}
use Rattle.std.proofs.lemmas.Bool.{cases_lt}
use Rattle.std.proofs.lemmas.Bool.Decides.{nat_tests}
use Rattle.std.proofs.lemmas.List.{get_or-set_other}
use Rattle.std.proofs.lemmas.Nat.{mod_below, same_from_place}
use Rattle.cb_types.specs.SizeMbs.{macroblocks}
use Rattle.cb_types.specs.declared.mark.MbMark.{MbMark}
use Rattle.vd_plane.proofs.Samples.{sample_at}
use Rattle.deblock.specs.declared.line.Filter.{Filter}
use Rattle.deblock.specs.Deblocked.{after_lines, deblocked_chroma, deblocked_luma}
use Rattle.deblock.specs.Edges.{before, strength_at}
use Rattle.deblock.specs.Laws.{FarChromaStays, FarLumaStays, IsBeside, IsNear}
use Rattle.deblock.specs.Lines.{Line, after_chroma_line, after_luma_line, edge_line, line, line_of}
use Rattle.deblock.specs.Thresholds.{chroma, luma}
use Rattle.deblock.proofs.EdgeRuns.{row_above}
use Rattle.deblock.proofs.IdleEdges.{at_picture_edge, none_strength}
use Rattle.deblock.proofs.Places.{chroma_leaves, luma_leaves, weak}

stays : (r : Line → List ℕ → List ℕ) (l : ℕ → Line) (first n : ℕ) (s : List ℕ) (p : ℕ) → ((k : ℕ) → k < n → (t : List ℕ) → get_or (r (l (first + k)) t) p 0 ≡ get_or t p 0) → get_or (after_lines r l first n s) p 0 ≡ get_or s p 0
unfolding after_lines
stays r l first zero s p left = refl
stays r l first (suc n) s p left = left n (omega arith) (after_lines r l first n s) ∙ stays r l first n s p (λ k h. left k (omega arith))

-- the places that a line changes
pub record IsApart (reach at step p : ℕ) : Type 0 where
  pub p0 : p ≢ at - step
  pub q0 : p ≢ at
  pub p1 : 1 < reach → p ≢ at - 2 * step
  pub p2 : 1 < reach → p ≢ at - 3 * step
  pub q1 : 1 < reach → p ≢ at + step
  pub q2 : 1 < reach → p ≢ at + 2 * step

luma_other : (f : Filter) (at step p : ℕ) (t : List ℕ) → IsApart 3 at step p → get_or (after_luma_line (line_of at step f) t) p 0 ≡ get_or t p 0
unfolding after_luma_line
luma_other f at step p t h =
    get_or-set_other _ _ p _ 0 (h.q2 (omega arith)) ∙ (get_or-set_other _ _ p _ 0 (h.q1 (omega arith)) ∙ (get_or-set_other _ _ p _ 0 h.q0
    ∙ (get_or-set_other _ _ p _ 0 (h.p2 (omega arith)) ∙ (get_or-set_other _ _ p _ 0 (h.p1 (omega arith)) ∙ get_or-set_other _ _ p _ 0 h.p0))))

chroma_other : (f : Filter) (at step p : ℕ) (t : List ℕ) → IsApart 1 at step p → get_or (after_chroma_line (line_of at step f) t) p 0 ≡ get_or t p 0
unfolding after_chroma_line
chroma_other f at step p t h = get_or-set_other _ _ p _ 0 h.q0 ∙ get_or-set_other _ _ p _ 0 h.p0

-- across a vertical edge in column c, on row r, in rows of w samples
across : (reach w r c x y z : ℕ) → x < w → z < w → (y ≡ r → IsNear reach c x → ⊥) → c ≤ z + reach → z < c + reach → y * w + x ≡ r * w + z → ⊥
across reach w r c x y z hx hz far low high e =
    let apart : (y ≡ r) × (x ≡ z) = same_from_place y x r z w hx hz e in far apart.0 (record { from = omega (arith, apart.1); below = omega (arith, apart.1) })

across_apart : (reach w r c x y p : ℕ) → 1 ≤ reach → reach ≤ 3 → (1 < reach → 3 ≤ reach) → x < w → 4 ≤ c → c + 3 < w → (y ≡ r → IsNear reach c x → ⊥) → p ≡ y * w + x → IsApart reach (r * w + c) 1 p
across_apart reach w r c x y p some most three hx left right far is = record {
  p0 = λ e. across reach w r c x y (c - 1) hx (omega arith) far (omega arith) (omega arith) (sym is ∙ (e ∙ omega arith));
  q0 = λ e. across reach w r c x y c hx (omega arith) far (omega arith) (omega arith) (sym is ∙ e);
  p1 = λ more e. across reach w r c x y (c - 2) hx (omega arith) far (omega (arith, three more)) (omega arith) (sym is ∙ (e ∙ omega arith));
  p2 = λ more e. across reach w r c x y (c - 3) hx (omega arith) far (omega (arith, three more)) (omega arith) (sym is ∙ (e ∙ omega arith));
  q1 = λ more e. across reach w r c x y (c + 1) hx (omega arith) far (omega arith) (omega (arith, three more)) (sym is ∙ (e ∙ omega arith));
  q2 = λ more e. across reach w r c x y (c + 2) hx (omega arith) far (omega arith) (omega (arith, three more)) (sym is ∙ (e ∙ omega arith));
}

-- across a horizontal edge above row r, in column c
down : (reach w r c x y z : ℕ) → x < w → c < w → (x ≡ c → IsNear reach r y → ⊥) → r ≤ z + reach → z < r + reach → y * w + x ≡ z * w + c → ⊥
down reach w r c x y z hx hc far low high e =
    let apart : (y ≡ z) × (x ≡ c) = same_from_place y x z c w hx hc e in far apart.1 (record { from = omega (arith, apart.0); below = omega (arith, apart.0) })

rows_up : (i r w c : ℕ) → i ≤ r → r * w + c - i * w ≡ (r - i) * w + c
rows_up i r w c h =
    let q : ℕ = r - i in
    let e : r * w ≡ (q + i) * w = ap (λ n. n * w) (omega arith) in
    omega (arith, e)

down_apart : (reach w r c x y p : ℕ) → 1 ≤ reach → reach ≤ 3 → (1 < reach → 3 ≤ reach) → x < w → 4 ≤ r → c < w → (x ≡ c → IsNear reach r y → ⊥) → p ≡ y * w + x → IsApart reach (r * w + c) w p
down_apart reach w r c x y p some most three hx top right far is = record {
  p0 = λ e. down reach w r c x y (r - 1) hx right far (omega arith) (omega arith) (sym is ∙ (e ∙ omega (arith, rows_up 1 r w c (omega arith))));
  q0 = λ e. down reach w r c x y r hx right far (omega arith) (omega arith) (sym is ∙ e);
  p1 = λ more e. down reach w r c x y (r - 2) hx right far (omega (arith, three more)) (omega arith) (sym is ∙ (e ∙ rows_up 2 r w c (omega arith)));
  p2 = λ more e. down reach w r c x y (r - 3) hx right far (omega (arith, three more)) (omega arith) (sym is ∙ (e ∙ rows_up 3 r w c (omega arith)));
  q1 = λ more e. down reach w r c x y (r + 1) hx right far (omega arith) (omega (arith, three more)) (sym is ∙ (e ∙ omega arith));
  q2 = λ more e. down reach w r c x y (r + 2) hx right far (omega arith) (omega (arith, three more)) (sym is ∙ (e ∙ omega arith));
}

-- where something is filtered, there is a macroblock before the edge
not_below : (w mb : ℕ) → mb < w → nat_le w mb ≡ false
not_below w mb h = grind (arith, nat_tests)

not_above : (n : ℕ) → n ≤ 0 → nat_lt 0 n ≡ false
not_above n h = grind (arith, nat_tests)

some_row : (q w : ℕ) → 1 ≤ w → w ≤ q * w → 1 ≤ q
some_row zero w some h = absurd (omega arith)
some_row (suc q) w some h = omega arith

pub starts : (w : ℕ) (marks : List MbMark) (mb : ℕ) (v : Bool) (e p : ℕ) → 1 ≤ w → 0 < strength_at w marks mb v e p → 1 ≤ e + cond v (mb % w) (mb / w)
starts w marks mb v (suc e) p some h = omega arith
starts w marks mb true zero p some h = elim (cases_lt 0 (mb % w)) [
  | inl lt ↦ omega arith
  | inr le ↦ absurd (omega (arith, at_picture_edge w marks mb true 0 p (ap (λ b. cond b (Some (mb - 1)) None) (not_above (mb % w) le))))
]
starts w marks mb false zero p some h = elim (cases_lt mb w) [
  | inl lt ↦ absurd (omega (arith, at_picture_edge w marks mb false 0 p (ap (λ b. cond b (Some (mb - w)) None) (not_below w mb lt))))
  | inr le ↦ omega (arith, some_row (mb / w) w some (row_above w mb some le))
]

luma_edge_apart : (w mb : ℕ) (v : Bool) (e k x y p : ℕ) → 1 ≤ w → 1 ≤ e + cond v (mb % w) (mb / w) → x < 16 * w → e < 4 → k < 16 → (IsBeside 16 w 3 mb v e k x y → ⊥) → p ≡ y * (16 * w) + x
    → IsApart 3 ((16 * (mb / w) + cond v k (4 * e)) * (16 * w) + (16 * (mb % w) + cond v (4 * e) k)) (cond v 1 (16 * w)) p
luma_edge_apart w mb true e k x y p some start hx he hk far is =
    across_apart 3 (16 * w) (16 * (mb / w) + k) (16 * (mb % w) + 4 * e) x y p (omega arith) (omega arith) (λ h. omega arith) hx (omega arith) (omega (arith, mod_below mb w some)) (λ a b. far (a, b)) is
luma_edge_apart w mb false e k x y p some start hx he hk far is =
    down_apart 3 (16 * w) (16 * (mb / w) + 4 * e) (16 * (mb % w) + k) x y p (omega arith) (omega arith) (λ h. omega arith) hx (omega arith) (omega (arith, mod_below mb w some)) (λ a b. far (a, b)) is

chroma_edge_apart : (w mb : ℕ) (v : Bool) (e k x y p : ℕ) → 1 ≤ w → 1 ≤ 2 * e + cond v (mb % w) (mb / w) → x < 8 * w → e < 2 → k < 8 → (IsBeside 8 w 1 mb v e k x y → ⊥) → p ≡ y * (8 * w) + x
    → IsApart 1 ((8 * (mb / w) + cond v k (4 * e)) * (8 * w) + (8 * (mb % w) + cond v (4 * e) k)) (cond v 1 (8 * w)) p
chroma_edge_apart w mb true e k x y p some start hx he hk far is =
    across_apart 1 (8 * w) (8 * (mb / w) + k) (8 * (mb % w) + 4 * e) x y p (omega arith) (omega arith) (λ h. absurd (omega arith)) hx (omega arith) (omega (arith, mod_below mb w some)) (λ a b. far (a, b)) is
chroma_edge_apart w mb false e k x y p some start hx he hk far is =
    down_apart 1 (8 * w) (8 * (mb / w) + 4 * e) (8 * (mb % w) + k) x y p (omega arith) (omega arith) (λ h. absurd (omega arith)) hx (omega arith) (omega (arith, mod_below mb w some)) (λ a b. far (a, b)) is

-- a line leaves what is far from it
luma_edge_stays : (w : ℕ) (marks : List MbMark) (mb : ℕ) (v : Bool) (e k x y p : ℕ) (t : List ℕ) → 1 ≤ w → x < 16 * w → e < 4 → k < 16 → (0 < strength_at w marks mb v e (k / 4) → IsBeside 16 w 3 mb v e k x y → ⊥) → p ≡ y * (16 * w) + x
    → get_or (after_luma_line (edge_line luma w marks mb v e k) t) p 0 ≡ get_or t p 0
luma_edge_stays w marks mb v e k x y p t some hx he hk far is =
    let le : 1 * e ≡ e = omega arith in
    let place : 1 * k / 4 ≡ k / 4 = omega arith in
    let s : ℕ = strength_at w marks mb v (1 * e) (1 * k / 4) in
    let same : s ≡ strength_at w marks mb v e (k / 4) = ap (λ n. strength_at w marks mb v n (1 * k / 4)) le ∙ ap (strength_at w marks mb v e) place in
    elim (cases_lt 0 s) [
      | inl some_strength ↦
          let positive : 0 < strength_at w marks mb v e (k / 4) = omega (arith, same) in
          luma_other _ _ _ p t (luma_edge_apart w mb v e k x y p some (starts w marks mb v e (k / 4) some positive) hx he hk (far positive) is)
      | inr none ↦
          let zero_strength : s ≡ 0 = omega arith in
          ap (λ l. get_or l p 0) (luma_leaves.leaves _ _ _ (weak _ (none_strength luma marks (before w mb v (1 * e)) mb s ∙ zero_strength)) t)
    ]

chroma_edge_stays : (o : ℤ) (w : ℕ) (marks : List MbMark) (mb : ℕ) (v : Bool) (e k x y p : ℕ) (t : List ℕ) → 1 ≤ w → x < 8 * w → e < 2 → k < 8 → (0 < strength_at w marks mb v (2 * e) (k / 2) → IsBeside 8 w 1 mb v e k x y → ⊥) → p ≡ y * (8 * w) + x
    → get_or (after_chroma_line (edge_line (chroma o) w marks mb v e k) t) p 0 ≡ get_or t p 0
chroma_edge_stays o w marks mb v e k x y p t some hx he hk far is =
    let place : 2 * k / 4 ≡ k / 2 = omega arith in
    let s : ℕ = strength_at w marks mb v (2 * e) (2 * k / 4) in
    let same : s ≡ strength_at w marks mb v (2 * e) (k / 2) = ap (strength_at w marks mb v (2 * e)) place in
    elim (cases_lt 0 s) [
      | inl some_strength ↦
          let positive : 0 < strength_at w marks mb v (2 * e) (k / 2) = omega (arith, same) in
          chroma_other _ _ _ p t (chroma_edge_apart w mb v e k x y p some (starts w marks mb v (2 * e) (k / 2) some positive) hx he hk (far positive) is)
      | inr none ↦
          let zero_strength : s ≡ 0 = omega arith in
          ap (λ l. get_or l p 0) (chroma_leaves.leaves _ _ _ (weak _ (none_strength (chroma o) marks (before w mb v (2 * e)) mb s ∙ zero_strength)) t)
    ]

luma_line_stays : (w : ℕ) (marks : List MbMark) (n total x y p : ℕ) (t : List ℕ) → 1 ≤ w → x < 16 * w → n < 128 * total
    → ((mb : ℕ) (v : Bool) (e k : ℕ) → mb < total → e < 4 → k < 16 → 0 < strength_at w marks mb v e (k / 4) → IsBeside 16 w 3 mb v e k x y → ⊥) → p ≡ y * (16 * w) + x
    → get_or (after_luma_line (line luma w marks n) t) p 0 ≡ get_or t p 0
unfolding line
luma_line_stays w marks n total x y p t some hx h far is =
    luma_edge_stays w marks (n / 128) (eqb (n / 64 % 2) 0) (n / 16 % 4) (n % 16) x y p t some hx (omega arith) (omega arith) (far (n / 128) (eqb (n / 64 % 2) 0) (n / 16 % 4) (n % 16) (omega arith) (omega arith) (omega arith)) is

chroma_line_stays : (o : ℤ) (w : ℕ) (marks : List MbMark) (n total x y p : ℕ) (t : List ℕ) → 1 ≤ w → x < 8 * w → n < 32 * total
    → ((mb : ℕ) (v : Bool) (e k : ℕ) → mb < total → e < 2 → k < 8 → 0 < strength_at w marks mb v (2 * e) (k / 2) → IsBeside 8 w 1 mb v e k x y → ⊥) → p ≡ y * (8 * w) + x
    → get_or (after_chroma_line (line (chroma o) w marks n) t) p 0 ≡ get_or t p 0
unfolding line
chroma_line_stays o w marks n total x y p t some hx h far is =
    chroma_edge_stays o w marks (n / 32) (eqb (n / 16 % 2) 0) (n / 8 % 2) (n % 8) x y p t some hx (omega arith) (omega arith) (far (n / 32) (eqb (n / 16 % 2) 0) (n / 8 % 2) (n % 8) (omega arith) (omega arith) (omega arith)) is

pub far_luma_stays : FarLumaStays
far_luma_stays size marks a x y some wide inside far =
    let p : ℕ = y * a.width + x in
    let hx : x < 16 * size.width = omega (arith, inside.column, wide) in
    sample_at (deblocked_luma size marks a) x y inside.column
    ∙ (stays after_luma_line (line luma size.width marks) 0 (128 * macroblocks size) a.samples p
    (λ k h t. luma_line_stays size.width marks (0 + k) (macroblocks size) x y p t some hx (omega arith) far (ap (λ w. y * w + x) wide))
    ∙ sym (sample_at a x y inside.column))

pub far_chroma_stays : FarChromaStays
far_chroma_stays size marks o a x y some wide inside far =
    let p : ℕ = y * a.width + x in
    let hx : x < 8 * size.width = omega (arith, inside.column, wide) in
    sample_at (deblocked_chroma o size marks a) x y inside.column
    ∙ (stays after_chroma_line (line (chroma o) size.width marks) 0 (32 * macroblocks size) a.samples p
    (λ k h t. chroma_line_stays o size.width marks (0 + k) (macroblocks size) x y p t some hx (omega arith) far (ap (λ w. y * w + x) wide))
    ∙ sym (sample_at a x y inside.column))
