-- The rest of a slice's data, macroblock by macroblock.
use Rattle.std.proofs.Common.{◌≡◌, ◌≢◌, ℕ, zero, suc, ◌+◌, ◌-◌, ◌%◌, ◌≤◌, ◌⊎◌, ◌==◌, inl, inr, Bool, true, false, if◌then◌else◌, IsTrue, List, [], ◌∷◌, ◌++◌, length, replicate, refl, sym, ap, ap₂, ◌∙◌, subst, arith, append_assoc, append-nil, ne_eqb}
use Rattle.std.proofs.lemmas.List.{length-append, length-replicate}
use Rattle.bit_io.proofs.LastOneLemmas.{ends-no_more}
use Rattle.bit_io.specs.Bits.{u}
use Rattle.bit_io.specs.Codewords.{IsUe, exponent, ue}
use Rattle.bit_io.specs.Trailing.{EndsHere, HasMoreData, trailing_bits}
use Rattle.cavlc.specs.Turns.{AreInTurn, in_turn, state_behind}
use Rattle.cb_types.specs.declared.macroblock.Macroblock.{Macroblock}
use Rattle.mb_syntax.proofs.WholeMbs.{mb_at_same_place, mb_some, not_skip}
use Rattle.mb_syntax.specs.Kinds.{is_skip}
use Rattle.mb_syntax.specs.MacroblockLayer.{IsCoded, mb_bits, place_before}
use Rattle.mb_syntax.specs.Progress.{Follows}
use Rattle.mb_syntax.specs.SliceData.{HasSpelling, IsRest, IsSkipped, SoFar, behind, bits_from, end_bits, last_run, next_bits, run_bits, skipped}
use Rattle.mb_syntax.specs.declared.slice.Slice.{Slice}

-- ---- bits

-- a 1 and zeros at the end
abbrev pub HasOne : List Bool → Type 0
HasOne bits = (front : List Bool) × (zeros : ℕ) × (bits ≡ front ++ true ∷ replicate zeros false)

pub more_behind : (x rest bits : List Bool) → 1 ≤ length x → bits ≡ x ++ rest → HasOne rest → HasMoreData bits
more_behind [] rest bits some e one = absurd (omega (arith, some))
more_behind (b ∷ x) rest bits some e (front, zeros, f) =
    (b, x ++ front, zeros, e ∙ ap (λ (y : List Bool). b ∷ (x ++ y)) f ∙ ap (λ (y : List Bool). b ∷ y) (sym (append_assoc x front (true ∷ replicate zeros false))))

trailing_one : (place : ℕ) → HasOne (trailing_bits place)
trailing_one place = ([], 7 - place % 8, refl)

pub one_behind : (x rest bits : List Bool) → bits ≡ x ++ rest → HasOne rest → HasOne bits
one_behind x rest bits e (front, zeros, f) = (x ++ front, zeros, e ∙ ap (λ (y : List Bool). x ++ y) f ∙ sym (append_assoc x front (true ∷ replicate zeros false)))

pub ends_trailing : (place : ℕ) (bits : List Bool) → (place + length bits) % 8 ≡ 0 → EndsHere bits → bits ≡ trailing_bits place
ends_trailing place bits whole (zeros, few, e) =
    let long : length bits ≡ suc zeros = ap length e ∙ ap suc (length-replicate zeros false) in
    let same : zeros ≡ 7 - place % 8 = omega (arith, whole, few, long) in
    e ∙ ap (λ (n : ℕ). true ∷ replicate n false) same

pub trailing_ends : (place : ℕ) (bits : List Bool) → bits ≡ trailing_bits place → EndsHere bits
trailing_ends place bits e = (7 - place % 8, omega arith, e)

pub some_ue : (n : ℕ) → 1 ≤ length (ue n)
unfolding ue u
some_ue n = let k = exponent 32 (n + 1) in omega (arith, length-append (replicate k false) (u (n + 1) (suc k)))

zero_ue : ue 0 ≡ [] → ⊥
zero_ue e = omega (arith, some_ue 0, ap length e)

-- ---- how far a slice is spelled

module _ (slice : Slice) where
  bits-nil : (at : SoFar) (run : List Bool) → bits_from slice at [] run ≡ end_bits at run
  unfolding bits_from in_turn state_behind
  bits-nil at run = refl

  bits-cons : (at : SoFar) (mb : Macroblock) (mbs : List Macroblock) (run : List Bool) → bits_from slice at (mb ∷ mbs) run ≡ next_bits slice at mb ++ bits_from slice (behind slice at mb) mbs run
  unfolding bits_from in_turn state_behind
  bits-cons at mb mbs run =
      append_assoc (next_bits slice at mb) (in_turn (next_bits slice) (behind slice) (behind slice at mb) mbs) (end_bits (state_behind (behind slice) (behind slice at mb) mbs) run)

  pub record Uncons (at : SoFar) (bits : List Bool) (mb : Macroblock) (mbs : List Macroblock) : Type 0 where
    pub is : HasSpelling slice at.before mb
    pub rest : List Bool
    pub parts : bits ≡ next_bits slice at mb ++ rest
    pub tail : IsRest slice (behind slice at mb) rest mbs

  uncons : (at : SoFar) (bits : List Bool) (mb : Macroblock) (mbs : List Macroblock) → IsRest slice at bits (mb ∷ mbs) → Uncons at bits mb mbs
  unfolding AreInTurn state_behind
  uncons at bits mb mbs h =
      let run = h.last.0 in
      record {
        is = h.each.0;
        rest = bits_from slice (behind slice at mb) mbs run;
        parts = h.last.2 ∙ bits-cons at mb mbs run;
        tail = record { within = omega (arith, length-append at.before (mb ∷ []), h.within); each = h.each.1; last = (run, h.last.1, refl) };
      }

  rest_cons : (at : SoFar) (bits rest : List Bool) (mb : Macroblock) (mbs : List Macroblock) → HasSpelling slice at.before mb → bits ≡ next_bits slice at mb ++ rest
      → IsRest slice (behind slice at mb) rest mbs → IsRest slice at bits (mb ∷ mbs)
  unfolding AreInTurn state_behind
  rest_cons at bits rest mb mbs is e h =
      let run = h.last.0 in
      record {
        within = omega (arith, length-append at.before (mb ∷ []), h.within);
        each = (is, h.each);
        last = (run, h.last.1, e ∙ ap (λ (x : List Bool). next_bits slice at mb ++ x) h.last.2 ∙ sym (bits-cons at mb mbs run));
      }

  pub has_one : (at : SoFar) (bits : List Bool) (mbs : List Macroblock) → IsRest slice at bits mbs → HasOne bits
  unfolding bits_from
  has_one at bits mbs h =
      let end = state_behind (behind slice) at mbs in
      let last = last_run end ++ h.last.0 in
      let place = end.place + length last in
      one_behind (in_turn (next_bits slice) (behind slice) at mbs) (last ++ trailing_bits place) bits h.last.2 (one_behind last (trailing_bits place) (last ++ trailing_bits place) refl (trailing_one place))

  -- ---- a macroblock that isn't skipped

  pub coded_bits : (at : SoFar) (mb : Macroblock) → IsCoded slice at.before mb → next_bits slice at mb ≡ run_bits slice at ++ mb_bits slice (at.place + length (run_bits slice at)) at.before mb
  coded_bits at mb is = ap (λ (b : Bool). if b then [] else run_bits slice at ++ mb_bits slice (at.place + length (run_bits slice at)) at.before mb) (not_skip slice at.before mb is)

  -- the place, by what is left behind it
  pub mb_here : (place : ℕ) (bits : List Bool) (before : List Macroblock) (mb : Macroblock) → (place + length bits) % 8 ≡ 0 → mb_bits slice place before mb ≡ mb_bits slice (place_before bits) before mb
  mb_here place bits before mb whole = mb_at_same_place slice place (place_before bits) before mb (omega (arith, whole))

  -- ---- skipped macroblocks

  unfoldable pub skips : ℕ → SoFar → SoFar
  skips zero at = at
  skips (suc n) at = skips n (behind slice at skipped)

  pub skips-before : (n : ℕ) (at : SoFar) → (skips n at).before ≡ at.before ++ replicate n skipped
  unfolding skips
  skips-before zero at = sym (append-nil at.before)
  skips-before (suc n) at = skips-before n (behind slice at skipped) ∙ append_assoc at.before (skipped ∷ []) (replicate n skipped)

  pub skips-run : (n : ℕ) (at : SoFar) → (skips n at).run ≡ at.run + n
  unfolding skips
  skips-run zero at = omega arith
  skips-run (suc n) at = skips-run n (behind slice at skipped) ∙ omega arith

  pub skips-place : (n : ℕ) (at : SoFar) → (skips n at).place ≡ at.place
  unfolding skips
  skips-place zero at = refl
  skips-place (suc n) at = skips-place n (behind slice at skipped) ∙ omega arith

  pub skips_forward : IsTrue slice.is_p → (n : ℕ) (at : SoFar) (bits : List Bool) (mbs : List Macroblock) → IsRest slice (skips n at) bits mbs → IsRest slice at bits (replicate n skipped ++ mbs)
  unfolding skips
  skips_forward p zero at bits mbs h = h
  skips_forward p (suc n) at bits mbs h =
      rest_cons at bits bits skipped (replicate n skipped ++ mbs) (inl (record { in_p = p; same = refl })) refl (skips_forward p n (behind slice at skipped) bits mbs h)

  -- ---- the end

  abbrev ending : ℕ → ℕ → List Bool → List Bool
  ending q place run = let last = (if q == 0 then [] else ue q) ++ run in last ++ trailing_bits (place + length last)

  ending-suc : (q place : ℕ) → ending (suc q) place [] ≡ ue (suc q) ++ trailing_bits (place + length (ue (suc q)))
  ending-suc q place =
      ap (λ (b : Bool). let last = (if b then [] else ue (suc q)) ++ [] in last ++ trailing_bits (place + length last)) (ne_eqb (suc q) 0 (λ e. omega (arith, e)))
      ∙ ap (λ (x : List Bool). x ++ trailing_bits (place + length x)) (append-nil (ue (suc q)))

  -- what a slice ends with: the trailing bits, or a run before them
  abbrev pub IsLast : ℕ → List Bool → Type 0
  IsLast q bits = ((q ≡ 0) × EndsHere bits) ⊎ ((q ≡ 0 → IsTrue slice.is_p) × (mid : List Bool) × (bits ≡ ue q ++ mid) × EndsHere mid)

  last_of : (q place : ℕ) (run bits : List Bool) → (run ≡ []) ⊎ (run ≡ ue 0) → (run ≢ [] → IsTrue slice.is_p × (q ≡ 0)) → bits ≡ ending q place run → IsLast q bits
  last_of zero place run bits (inl none) where_some e = inl (refl, trailing_ends (place + 0) bits (e ∙ ap (ending 0 place) none))
  last_of zero place run bits (inr is) where_some e =
      let end = trailing_bits (place + length (ue 0)) in
      inr ((λ zero. (where_some (λ none. zero_ue (sym is ∙ none))).0), end, e ∙ ap (ending 0 place) is, trailing_ends (place + length (ue 0)) end refl)
  last_of (suc q) place run bits (inl none) where_some e =
      let at = place + length (ue (suc q)) in
      inr ((λ zero. absurd (omega (arith, zero))), trailing_bits at, e ∙ ap (ending (suc q) place) none ∙ ending-suc q place, trailing_ends at (trailing_bits at) refl)
  last_of (suc q) place run bits (inr is) where_some e =
      let both = where_some (λ none. zero_ue (sym is ∙ none)) in
      absurd (omega (arith, both.1))

  pub nil_last : (at : SoFar) (bits : List Bool) → IsRest slice at bits [] → IsLast at.run bits
  unfolding state_behind
  nil_last at bits h = last_of at.run at.place h.last.0 bits h.last.1.either h.last.1.where_some (h.last.2 ∙ bits-nil at h.last.0)

  pub nil_open : (at : SoFar) (bits : List Bool) → at.run ≡ 0 → length at.before ≤ slice.left → (at.place + length bits) % 8 ≡ 0 → EndsHere bits → IsRest slice at bits []
  unfolding AreInTurn state_behind
  nil_open at bits none few whole ends = record {
    within = omega (arith, few);
    each = tt;
    last = (
      [],
      record { either = inl refl; where_some = λ some. absurd (some refl) },
      ends_trailing at.place bits whole ends ∙ ap trailing_bits (omega arith) ∙ ap (λ (q : ℕ). ending q at.place []) (sym none) ∙ sym (bits-nil at []),
    );
  }

  -- the last run, by its value
  record Last (q place : ℕ) (bits : List Bool) : Type 0 where
    run : List Bool
    either : (run ≡ []) ⊎ (run ≡ ue 0)
    zero_where : run ≢ [] → q ≡ 0
    same : bits ≡ ending q place run

  last_run_is : (q place : ℕ) (mid : List Bool) → (place + length (ue q) + length mid) % 8 ≡ 0 → EndsHere mid → Last q place (ue q ++ mid)
  last_run_is zero place mid whole ends = record {
    run = ue 0;
    either = inr refl;
    zero_where = λ some. refl;
    same = ap (λ (x : List Bool). ue 0 ++ x) (ends_trailing (place + length (ue 0)) mid whole ends);
  }
  last_run_is (suc q) place mid whole ends = record {
    run = [];
    either = inl refl;
    zero_where = λ some. absurd (some refl);
    same = ap (λ (x : List Bool). ue (suc q) ++ x) (ends_trailing (place + length (ue (suc q))) mid whole ends) ∙ sym (ending-suc q place);
  }

  pub nil_run : (at : SoFar) (mid : List Bool) → (at.run ≡ 0 → IsTrue slice.is_p) → length at.before ≤ slice.left → (at.place + length (ue at.run) + length mid) % 8 ≡ 0 → EndsHere mid → IsRest slice at (ue at.run ++ mid) []
  unfolding AreInTurn state_behind
  nil_run at mid p few whole ends =
      let l = last_run_is at.run at.place mid whole ends in
      record {
        within = omega (arith, few);
        each = tt;
        last = (l.run, record { either = l.either; where_some = λ some. (p (l.zero_where some), l.zero_where some) }, l.same ∙ sym (bits-nil at l.run));
      }

  -- ---- more data

  skip_rest : (at : SoFar) (bits : List Bool) (mb : Macroblock) (mbs : List Macroblock) (u : Uncons at bits mb mbs) → IsSkipped slice mb → IsRest slice (behind slice at skipped) bits mbs
  skip_rest at bits mb mbs u is =
      let none : next_bits slice at mb ≡ [] = ap (λ (m : Macroblock). next_bits slice at m) is.same in
      let parts : bits ≡ u.rest = u.parts ∙ ap (λ (x : List Bool). x ++ u.rest) none in
      subst (λ (x : List Bool). IsRest slice (behind slice at skipped) x mbs) (sym parts) (subst (λ (m : Macroblock). IsRest slice (behind slice at m) u.rest mbs) is.same u.tail)

  coded_more : (at : SoFar) (bits : List Bool) (mb : Macroblock) (mbs : List Macroblock) (u : Uncons at bits mb mbs) → IsCoded slice at.before mb → HasMoreData bits
  coded_more at bits mb mbs u is =
      let place = at.place + length (run_bits slice at) in
      let mine = mb_bits slice place at.before mb in
      more_behind (run_bits slice at ++ mine) u.rest bits
      (omega (arith, length-append (run_bits slice at) mine, mb_some slice place at.before mb is)) (u.parts ∙ ap (λ (x : List Bool). x ++ u.rest) (coded_bits at mb is)) (has_one (behind slice at mb) u.rest mbs u.tail)

  pub more_of : (at : SoFar) (bits : List Bool) (mbs : List Macroblock) → IsRest slice at bits mbs → (1 ≤ at.run) ⊎ (1 ≤ length mbs) → HasMoreData bits
  more_of at bits [] h some =
      elim (nil_last at bits h) [
        | inl none ↦ absurd (elim some [ inl run ↦ omega (arith, run, none.0) | inr mbs ↦ omega (arith, mbs) ])
        | inr last ↦ more_behind (ue at.run) last.1 bits (some_ue at.run) last.2 ([], last.3.0, last.3.2)
      ]
  more_of at bits (mb ∷ mbs) h some =
      let u = uncons at bits mb mbs h in
      elim u.is [
        | inl skip ↦ more_of (behind slice at skipped) bits mbs (skip_rest at bits mb mbs u skip) (inl (omega arith))
        | inr coded ↦ coded_more at bits mb mbs u coded
      ]

  -- ---- what follows a run

  pub record RunOf (at : SoFar) (bits : List Bool) (mbs : List Macroblock) : Type 0 where
    pub count : ℕ
    pub left : List Bool
    pub tail : List Macroblock
    pub is : IsUe (at.run + count)
    pub parts : bits ≡ ue (at.run + count) ++ left
    pub same : mbs ≡ replicate count skipped ++ tail
    pub follows : Follows slice (skips count at) left tail

  pub run_here : IsTrue slice.is_p → (at : SoFar) → run_bits slice at ≡ ue at.run
  run_here p at = ap (λ (b : Bool). if b then ue at.run else []) p

  pub no_run_here : slice.is_p ≡ false → (at : SoFar) → run_bits slice at ≡ []
  no_run_here i at = ap (λ (b : Bool). if b then ue at.run else []) i

  coded_follows : (at : SoFar) (bits left : List Bool) (mb : Macroblock) (mbs : List Macroblock) (u : Uncons at bits mb mbs) → IsCoded slice at.before mb → (run : List Bool) → run_bits slice at ≡ run
      → left ≡ mb_bits slice (at.place + length (run_bits slice at)) at.before mb ++ u.rest → (at.place + length bits) % 8 ≡ 0 → (bits ≡ run ++ left) × Follows slice at left (mb ∷ mbs)
  coded_follows at bits left mb mbs u is run run_is left_is whole =
      let place = at.place + length (run_bits slice at) in
      let mine = mb_bits slice place at.before mb in
      let parts : bits ≡ run ++ left =
      u.parts ∙ ap (λ (x : List Bool). x ++ u.rest) (coded_bits at mb is) ∙ append_assoc (run_bits slice at) mine u.rest ∙ ap₂ (λ (x y : List Bool). x ++ y) run_is (sym left_is) in
      let here : (place + length left) % 8 ≡ 0 = omega (arith, whole, ap length parts, length-append run left, ap length run_is) in
      (parts, (is, u.rest, left_is ∙ ap (λ (x : List Bool). x ++ u.rest) (mb_here place left at.before mb here), u.tail))

  no_skips : (at : SoFar) (bits left : List Bool) (mbs : List Macroblock) → IsUe at.run → bits ≡ ue at.run ++ left → Follows slice at left mbs → RunOf at bits mbs
  unfolding skips
  no_skips at bits left mbs is parts f =
      let same : at.run ≡ at.run + 0 = omega arith in
      record {
        count = 0;
        left = left;
        tail = mbs;
        is = subst (λ (n : ℕ). IsUe n) same is;
        parts = parts ∙ ap (λ (n : ℕ). ue n ++ left) same;
        same = refl;
        follows = f;
      }

  one_skip_more : (at : SoFar) (bits : List Bool) (mb : Macroblock) (mbs : List Macroblock) → mb ≡ skipped → RunOf (behind slice at skipped) bits mbs → RunOf at bits (mb ∷ mbs)
  unfolding skips
  one_skip_more at bits mb mbs is r =
      let same : suc at.run + r.count ≡ at.run + suc r.count = omega arith in
      record {
        count = suc r.count;
        left = r.left;
        tail = r.tail;
        is = subst (λ (n : ℕ). IsUe n) same r.is;
        parts = r.parts ∙ ap (λ (n : ℕ). ue n ++ r.left) same;
        same = ap₂ (λ (x : Macroblock) (xs : List Macroblock). x ∷ xs) is r.same;
        follows = r.follows;
      }

  pub run_of : IsUe slice.left → IsTrue slice.is_p → (mbs : List Macroblock) (at : SoFar) (bits : List Bool) → IsRest slice at bits mbs → HasMoreData bits → at.run ≤ length at.before
      → (at.place + length bits) % 8 ≡ 0 → RunOf at bits mbs
  run_of small p [] at bits h more few whole =
      elim (nil_last at bits h) [
        | inl none ↦ absurd (ends-no_more bits none.1 more)
        | inr last ↦ no_skips at bits last.1 [] (omega (arith, small, few, h.within)) last.2 last.3
      ]
  run_of small p (mb ∷ mbs) at bits h more few whole =
      let u = uncons at bits mb mbs h in
      elim u.is [
        | inl skip ↦
            one_skip_more at bits mb mbs skip.same
            (run_of small p mbs (behind slice at skipped) bits (skip_rest at bits mb mbs u skip) more (omega (arith, few, length-append at.before (skipped ∷ []))) (omega (arith, whole)))
        | inr coded ↦
            let left = mb_bits slice (at.place + length (run_bits slice at)) at.before mb ++ u.rest in
            let f = coded_follows at bits left mb mbs u coded (ue at.run) (run_here p at) refl whole in
            no_skips at bits left (mb ∷ mbs) (omega (arith, small, few, h.within)) f.0 f.1
      ]

  -- in an I slice there is no run
  pub here_of : slice.is_p ≡ false → (at : SoFar) (bits : List Bool) (mbs : List Macroblock) → IsRest slice at bits mbs → at.run ≡ 0 → (at.place + length bits) % 8 ≡ 0 → Follows slice at bits mbs
  here_of i at bits [] h none whole =
      elim (nil_last at bits h) [
        | inl end ↦ end.1
        | inr last ↦ let p : slice.is_p ≡ true = last.0 none in absurd cc
      ]
  here_of i at bits (mb ∷ mbs) h none whole =
      let u = uncons at bits mb mbs h in
      elim u.is [
        | inl skip ↦ let p : slice.is_p ≡ true = skip.in_p in absurd cc
        | inr coded ↦
            let left = mb_bits slice (at.place + length (run_bits slice at)) at.before mb ++ u.rest in
            let f = coded_follows at bits left mb mbs u coded [] (no_run_here i at) refl whole in
            subst (λ (x : List Bool). Follows slice at x (mb ∷ mbs)) (sym f.0) f.1
      ]

  -- and the other way round
  pub rest_of_follows : (at : SoFar) (left : List Bool) (mbs : List Macroblock) (run : List Bool) → run_bits slice at ≡ run → (at.place + length run + length left) % 8 ≡ 0
      → IsRest slice at (run ++ left) [] ⊎ (1 ≤ length mbs) → Follows slice at left mbs → IsRest slice at (run ++ left) mbs
  rest_of_follows at left [] run run_is whole end f = elim end [ inl is ↦ is | inr some ↦ absurd (omega (arith, some)) ]
  rest_of_follows at left (mb ∷ mbs) run run_is whole end f =
      let place = at.place + length (run_bits slice at) in
      let mine = mb_bits slice place at.before mb in
      let here : (place + length left) % 8 ≡ 0 = omega (arith, whole, ap length run_is) in
      let left_is : left ≡ mine ++ f.1 = f.2 ∙ ap (λ (x : List Bool). x ++ f.1) (sym (mb_here place left at.before mb here)) in
      rest_cons at (run ++ left) f.1 mb mbs (inr f.0)
      (ap₂ (λ (x y : List Bool). x ++ y) (sym run_is) left_is ∙ sym (append_assoc (run_bits slice at) mine f.1) ∙ ap (λ (x : List Bool). x ++ f.1) (sym (coded_bits at mb f.0))) f.3

  -- ---- the place in the payload

  pub whole_of : (mbs : List Macroblock) (at : SoFar) (bits : List Bool) → IsRest slice at bits mbs → (at.place + length bits) % 8 ≡ 0
  unfolding state_behind
  whole_of [] at bits h =
      let last = last_run at ++ h.last.0 in
      let n = at.place + length last in
      omega (arith, ap length (h.last.2 ∙ bits-nil at h.last.0), length-append last (trailing_bits n), length-replicate (7 - n % 8) false)
  whole_of (mb ∷ mbs) at bits h =
      let u = uncons at bits mb mbs h in
      omega (arith, ap length u.parts, length-append (next_bits slice at mb) u.rest, whole_of mbs (behind slice at mb) u.rest u.tail)

  same_bits : (at to : SoFar) (mb : Macroblock) → HasSpelling slice at.before mb → at.before ≡ to.before → at.run ≡ to.run → at.place % 8 ≡ to.place % 8 → next_bits slice at mb ≡ next_bits slice to mb
  same_bits at to mb (inl skip) before run place = ap (λ (m : Macroblock). next_bits slice at m) skip.same ∙ sym (ap (λ (m : Macroblock). next_bits slice to m) skip.same)
  same_bits at to mb (inr coded) before run place =
      let runs : run_bits slice at ≡ run_bits slice to = ap (λ (n : ℕ). if slice.is_p then ue n else []) run in
      let from = at.place + length (run_bits slice at) in
      let onto = to.place + length (run_bits slice to) in
      coded_bits at mb coded
      ∙ ap₂ (λ (x y : List Bool). x ++ y) runs (mb_at_same_place slice from onto at.before mb (omega (arith, place, ap length runs)) ∙ ap (λ (x : List Macroblock). mb_bits slice onto x mb) before)
      ∙ sym (coded_bits to mb (subst (λ (x : List Macroblock). IsCoded slice x mb) before coded))

  -- only where whole bytes end counts of the place
  pub elsewhere : (mbs : List Macroblock) (at to : SoFar) (bits : List Bool) → at.before ≡ to.before → at.run ≡ to.run → at.place % 8 ≡ to.place % 8 → IsRest slice at bits mbs → IsRest slice to bits mbs
  elsewhere [] at to bits before run place h =
      let whole = whole_of [] at bits h in
      let few : length to.before ≤ slice.left = omega (arith, h.within, ap length before) in
      elim (nil_last at bits h) [
        | inl end ↦ nil_open to bits (sym run ∙ end.0) few (omega (arith, whole, place)) end.1
        | inr last ↦
            let parts : bits ≡ ue to.run ++ last.1 = last.2 ∙ ap (λ (n : ℕ). ue n ++ last.1) run in
            subst (λ (x : List Bool). IsRest slice to x []) (sym parts)
            (nil_run to last.1 (λ none. last.0 (run ∙ none)) few (omega (arith, whole, place, ap length parts, length-append (ue to.run) last.1)) last.3)
      ]
  elsewhere (mb ∷ mbs) at to bits before run place h =
      let u = uncons at bits mb mbs h in
      let same = same_bits at to mb u.is before run place in
      rest_cons to bits u.rest mb mbs (subst (λ (x : List Macroblock). HasSpelling slice x mb) before u.is) (u.parts ∙ ap (λ (x : List Bool). x ++ u.rest) same)
      (elsewhere mbs (behind slice at mb) (behind slice to mb) u.rest (ap (λ (x : List Macroblock). x ++ mb ∷ []) before) (ap (λ (n : ℕ). if is_skip mb.kind then suc n else 0) run)
      (omega (arith, place, ap length same)) u.tail)
