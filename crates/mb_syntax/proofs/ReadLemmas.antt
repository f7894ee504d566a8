-- What is read of a slice's data, step by step, and that its bits are those of one list of macroblocks at most.
use Rattle.std.proofs.Common.{◌≡◌, ℕ, zero, suc, ◌+◌, ◌%◌, ◌^◌, ◌<◌, ◌≤◌, inl, inr, Bool, true, false, if◌then◌else◌, IsTrue, List, [], ◌∷◌, ◌++◌, drop, length, replicate, take, refl, sym, ap, ap₂, ◌∙◌, subst, arith, append_assoc, append-nil}
use Rattle.std.proofs.lemmas.List.{length-append, length-replicate, length-take-le}
use Rattle.bit_io.proofs.LastOneLemmas.{ends-no_more}
use Rattle.bit_io.proofs.LawLemmas.{ue_prefix_free}
use Rattle.bit_io.specs.Codewords.{IsUe, ue}
use Rattle.bit_io.specs.Reads.{BeginsNone}
use Rattle.bit_io.specs.Trailing.{EndsHere, HasMoreData}
use Rattle.cb_types.specs.declared.macroblock.Macroblock.{Macroblock}
use Rattle.cavlc.specs.Turns.{state_behind}
use Rattle.cb_types.specs.SizeMbs.{IsWithinLimits}
use Rattle.cb_types.specs.Slices.{active_entries}
use Rattle.cb_types.specs.declared.header.Header.{Header}
use Rattle.cb_types.specs.declared.picture_info.PictureInfo.{PictureInfo}
use Rattle.cb_types.specs.declared.size.SizeMbs.{SizeMbs}
use Rattle.mb_syntax.proofs.PlaceLemmas.{taken_part}
use Rattle.mb_syntax.proofs.RestLemmas.{RunOf, coded_bits, elsewhere, has_one, here_of, mb_here, more_behind, more_of, nil_last, nil_open, nil_run, no_run_here, rest_of_follows, run_here, run_of, skips, skips-before, skips-place, skips-run, skips_forward, some_ue, whole_of}
use Rattle.mb_syntax.proofs.WholeMbs.{mb_free, mb_some, not_skip}
use Rattle.mb_syntax.specs.MacroblockLayer.{IsCoded, mb_bits, place_before}
use Rattle.mb_syntax.proofs.Steps.{none_behind, none_of_fewer}
use Rattle.mb_syntax.specs.Around.{AreColumns}
use Rattle.mb_syntax.specs.Progress.{AreRead, Follows, IsAt, IsBehindAll, IsBehindCoded, IsBehindRun, IsEnd, IsReadOn, NoneIs}
use Rattle.mb_syntax.specs.Slice.{slice_of}
use Rattle.mb_syntax.specs.SliceData.{AreSliceData, IsRest, IsSliceData, SoFar, Spells, behind, run_bits, skipped, slice_bits, start}
use Rattle.mb_syntax.specs.declared.counts.Columns.{Columns}
use Rattle.mb_syntax.specs.declared.slice.Slice.{Slice}

module _ (slice : Slice) where
  follows_more : (at : SoFar) (bits : List Bool) (mb : Macroblock) (mbs : List Macroblock) → Follows slice at bits (mb ∷ mbs) → HasMoreData bits
  follows_more at bits mb mbs f =
      let mine = mb_bits slice (place_before bits) at.before mb in
      more_behind mine f.1 bits (mb_some slice (place_before bits) at.before mb f.0) f.2 (has_one slice (behind slice at mb) f.1 mbs f.3)

  -- ---- steps

  pub then_read : (at to : SoFar) (old mid : List Bool) (first second : List Macroblock) (IsTail : List Macroblock → Type 0) → AreRead slice at old first (IsRest slice to mid)
      → AreRead slice to mid second IsTail → AreRead slice at old (first ++ second) IsTail
  then_read at to old mid first second IsTail h k = record {
    forward = λ tail is. subst (λ (x : List Macroblock). IsRest slice at old x) (sym (append_assoc first second tail)) (h.forward (second ++ tail) (k.forward tail is));
    back = λ all is.
        let a = h.back all is in
        let b = k.back a.0 a.2 in
        (b.0, a.1 ∙ ap (λ (x : List Macroblock). first ++ x) b.1 ∙ sym (append_assoc first second b.0), b.2);
  }

  pub none_then : (at to : SoFar) (old mid : List Bool) (mbs : List Macroblock) → AreRead slice at old mbs (IsRest slice to mid) → NoneIs slice to mid → NoneIs slice at old
  none_then at to old mid mbs h none all is = let a = h.back all is in none a.0 a.2

  pub nothing_read : (at : SoFar) (old : List Bool) → AreRead slice at old [] (IsRest slice at old)
  nothing_read at old = record { forward = λ tail is. is; back = λ all is. (all, refl, is) }

  -- ---- runs

  module _ (small : IsUe slice.left) (at : SoFar) (old : List Bool) (no_run : at.run ≡ 0) (whole : (at.place + length old) % 8 ≡ 0) where
    pub no_run_read : IsTrue slice.is_p → HasMoreData old → (k : ℕ) → length at.before ≡ k → BeginsNone (λ (run : ℕ). k + run ≤ slice.left) ue old → NoneIs slice at old
    no_run_read p more k size none all is =
        let r = run_of slice small p all at old is more (omega (arith, no_run)) whole in
        let long = ap length r.same ∙ length-append (replicate r.count skipped) r.tail in
        none (at.run + r.count) r.left (omega (arith, no_run, size, is.within, long, length-replicate r.count skipped)) r.parts

    module _ (p : IsTrue slice.is_p) (n : ℕ) (mid : List Bool) (is : IsUe n) (e : old ≡ ue n ++ mid) where
      run_is : (skips slice n at).run ≡ n
      run_is = skips-run slice n at ∙ omega (arith, no_run)

      spelled : run_bits slice (skips slice n at) ≡ ue n
      spelled = run_here slice p (skips slice n at) ∙ ap ue run_is

      pub whole_behind : ((skips slice n at).place + length (run_bits slice (skips slice n at)) + length mid) % 8 ≡ 0
      whole_behind = omega (arith, whole, ap length e, length-append (ue n) mid, skips-place slice n at, ap length spelled)

      pub run_read : HasMoreData old → length at.before + n ≤ slice.left → AreRead slice at old (replicate n skipped) (Follows slice (skips slice n at) mid)
      run_read more within = record {
        forward = λ tail f.
            let to = skips slice n at in
            let same : ue to.run ++ mid ≡ old = ap (λ (x : ℕ). ue x ++ mid) run_is ∙ sym e in
            let here : (to.place + length (ue to.run) + length mid) % 8 ≡ 0 = omega (arith, whole_behind, ap length spelled, ap (λ (x : ℕ). length (ue x)) run_is) in
            let few : length to.before ≤ slice.left = omega (arith, within, ap length (skips-before slice n at), length-append at.before (replicate n skipped), length-replicate n skipped) in
            skips_forward slice p n at old tail (subst (λ (x : List Bool). IsRest slice to x tail) same (after p to mid tail few here f));
        back = λ all h.
            let r = run_of slice small p all at old h more (omega (arith, no_run)) whole in
            let both = ue_prefix_free (at.run + r.count) n r.left mid r.is is (sym r.parts ∙ e) in
            let count : r.count ≡ n = omega (arith, both.0, no_run) in (
              r.tail,
              r.same ∙ ap (λ (x : ℕ). replicate x skipped ++ r.tail) count,
              subst (λ (x : List Bool). Follows slice (skips slice n at) x r.tail) both.1 (subst (λ (x : ℕ). Follows slice (skips slice x at) r.left r.tail) count r.follows),
            );
      }
        where
          after : IsTrue slice.is_p → (to : SoFar) (mid : List Bool) (tail : List Macroblock) → length to.before ≤ slice.left → (to.place + length (ue to.run) + length mid) % 8 ≡ 0
              → Follows slice to mid tail → IsRest slice to (ue to.run ++ mid) tail
          after p to mid [] few whole f = nil_run slice to mid (λ none. p) few whole f
          after p to mid (mb ∷ mbs) few whole f = rest_of_follows slice to mid (mb ∷ mbs) (ue to.run) (run_here slice p to) whole (inr (omega arith)) f

    pub here_read : slice.is_p ≡ false → length at.before ≤ slice.left → AreRead slice at old [] (Follows slice at old)
    here_read i within = record {
      forward = λ tail f. after tail f;
      back = λ all h. (all, refl, here_of slice i at old all h no_run whole);
    }
      where
        none : run_bits slice at ≡ []
        none = no_run_here slice i at

        here : (at.place + length {A = Bool} [] + length old) % 8 ≡ 0
        here = omega (arith, whole)

        after : (tail : List Macroblock) → Follows slice at old tail → IsRest slice at old tail
        after [] f = nil_open slice at old no_run within whole f
        after (mb ∷ mbs) f = rest_of_follows slice at old (mb ∷ mbs) [] none here (inr (omega arith)) f

  -- ---- where the reader stands behind them

  pub run_step : slice.left < 2 ^ 31 → (at : SoFar) (old mid : List Bool) (n m : ℕ) (count end : ℕ) (before after : Columns) → at.run ≡ 0 → IsAt slice at.place at.before old before count → IsTrue slice.is_p
      → HasMoreData old → IsUe n → old ≡ ue n ++ mid → m ≡ n → end ≡ count + n → end ≤ slice.left → AreColumns slice (at.before ++ replicate m skipped) after
      → IsBehindRun slice at old (replicate m skipped) mid after end
  run_step small at old mid n m count end before after no_run stands p more is e same end_is within columns =
      let to = skips slice n at in
      let few : IsUe slice.left = omega (arith, small) in
      let front = skips-before slice n at in
      record {
        to = to;
        stands = record {
          size = omega (arith, ap length front, length-append at.before (replicate n skipped), length-replicate n skipped, stands.size, end_is);
          whole = whole_behind few at old no_run stands.whole p n mid is e;
          counts = subst (λ (x : List Macroblock). AreColumns slice x after) (sym front) (subst (λ (x : ℕ). AreColumns slice (at.before ++ replicate x skipped) after) same columns);
        };
        are = subst (λ (x : ℕ). AreRead slice at old (replicate x skipped) (Follows slice to mid)) (sym same)
            (run_read few at old no_run stands.whole p n mid is e more (omega (arith, stands.size, end_is, within)));
      }

  pub here_step : slice.left < 2 ^ 31 → (at : SoFar) (old : List Bool) (m : ℕ) (count : ℕ) (columns : Columns) → at.run ≡ 0 → IsAt slice at.place at.before old columns count → slice.is_p ≡ false
      → m ≡ 0 → count ≤ slice.left → IsBehindRun slice at old (replicate m skipped) old columns count
  here_step small at old m count columns no_run stands i same within =
      let few : IsUe slice.left = omega (arith, small) in
      record {
        to = at;
        stands = record { size = stands.size; whole = omega (arith, stands.whole, ap length (no_run_here slice i at)); counts = stands.counts };
        are = subst (λ (x : ℕ). AreRead slice at old (replicate x skipped) (Follows slice at old)) (sym same) (here_read few at old no_run stands.whole i (omega (arith, stands.size, within)));
      }

  pub no_run_step : slice.left < 2 ^ 31 → (at : SoFar) (old : List Bool) (count : ℕ) (columns : Columns) → at.run ≡ 0 → IsAt slice at.place at.before old columns count → IsTrue slice.is_p
      → HasMoreData old → BeginsNone IsUe ue old → NoneIs slice at old
  no_run_step small at old count columns no_run stands p more none =
      no_run_read (omega (arith, small)) at old no_run stands.whole p more count stands.size
      (none_of_fewer (λ (run : ℕ). count + run ≤ slice.left) IsUe ue old (λ run few. omega (arith, small, few)) none)

  pub long_run_step : slice.left < 2 ^ 31 → (at : SoFar) (old mid : List Bool) (n : ℕ) (count : ℕ) (columns : Columns) → at.run ≡ 0 → IsAt slice at.place at.before old columns count → IsTrue slice.is_p
      → HasMoreData old → IsUe n → old ≡ ue n ++ mid → slice.left < count + n → NoneIs slice at old
  long_run_step small at old mid n count columns no_run stands p more is e long =
      no_run_read (omega (arith, small)) at old no_run stands.whole p more count stands.size
      (none_behind (λ (run : ℕ). count + run ≤ slice.left) IsUe ue ue_prefix_free old mid n is e (λ run few. omega (arith, small, few)) (λ few. omega (arith, long, few)))

  -- ---- macroblocks that aren't skipped

  module _ (at to : SoFar) (old mid : List Bool) (mbs : List Macroblock) (h : AreRead slice at old mbs (Follows slice to mid)) where
    pub end_read : (HasMoreData mid → ⊥) → AreRead slice at old mbs (IsEnd mid)
    end_read no_more = record {
      forward = λ tail is. h.forward tail (subst (λ (x : List Macroblock). Follows slice to mid x) (sym is.0) is.1);
      back = λ all is. let a = h.back all is in (a.0, a.1, ends a.0 a.2);
    }
      where
        ends : (tail : List Macroblock) → Follows slice to mid tail → IsEnd mid tail
        ends [] f = (refl, f)
        ends (mb ∷ mbs) f = absurd (no_more (follows_more to mid mb mbs f))

    coded_there : HasMoreData mid → (tail : List Macroblock) → Follows slice to mid tail
        → (mb : Macroblock) × (more : List Macroblock) × (tail ≡ mb ∷ more) × Follows slice to mid (mb ∷ more)
    coded_there more [] f = absurd (ends-no_more mid f more)
    coded_there more (mb ∷ mbs) f = (mb, mbs, refl, f)

    pub no_room : HasMoreData mid → slice.left ≤ length to.before → NoneIs slice at old
    no_room more full all is =
        let a = h.back all is in
        let c = coded_there more a.0 a.2 in
        omega (arith, full, c.3.3.within, length-append to.before (c.0 ∷ []))

    pub no_coded : HasMoreData mid → BeginsNone (IsCoded slice to.before) (mb_bits slice (place_before mid) to.before) mid → NoneIs slice at old
    no_coded more none all is =
        let a = h.back all is in
        let c = coded_there more a.0 a.2 in
        none c.0 c.3.1 c.3.0 c.3.2

    pub coded_read : slice.active ≤ 16 → HasMoreData mid → (mb : Macroblock) (new : List Bool) → IsCoded slice to.before mb → mid ≡ mb_bits slice (place_before mid) to.before mb ++ new
        → AreRead slice at old (mbs ++ mb ∷ []) (IsRest slice (behind slice to mb) new)
    coded_read active more mb new is e = record {
      forward = λ tail r. subst (λ (x : List Macroblock). IsRest slice at old x) (sym (append_assoc mbs (mb ∷ []) tail)) (h.forward (mb ∷ tail) (is, new, e, r));
      back = λ all r.
          let a = h.back all r in
          let c = coded_there more a.0 a.2 in
          let both = mb_free slice (place_before mid) to.before active c.0 mb c.3.1 new c.3.0 is (sym c.3.2 ∙ e) in (
            c.1,
            a.1 ∙ ap (λ (x : List Macroblock). mbs ++ x) c.2 ∙ ap (λ (x : Macroblock). mbs ++ x ∷ c.1) both.0 ∙ sym (append_assoc mbs (mb ∷ []) c.1),
            subst (λ (x : List Bool). IsRest slice (behind slice to mb) x c.1) both.1 (subst (λ (x : Macroblock). IsRest slice (behind slice to x) c.3.1 c.1) both.0 c.3.3),
          );
    }

  pub coded_step : slice.active ≤ 16 → (at : SoFar) (old mid new : List Bool) (mbs : List Macroblock) (before after : Columns) (count : ℕ) (b : IsBehindRun slice at old mbs mid before count) → HasMoreData mid
      → (mb : Macroblock) → IsCoded slice b.to.before mb → mid ≡ mb_bits slice (place_before mid) b.to.before mb ++ new → AreColumns slice (b.to.before ++ mb ∷ []) after
      → IsBehindCoded slice at old (mbs ++ mb ∷ []) new after (count + 1)
  coded_step active at old mid new mbs before after count b more mb is e columns =
      let to = b.to in
      let place = to.place + length (run_bits slice to) in
      let mine = mb_bits slice place to.before mb in
      let own = ap length (coded_bits slice to mb is) in
      let here = ap length (mb_here slice place mid to.before mb b.stands.whole) in
      record {
        to = behind slice to mb;
        no_run = ap (λ (x : Bool). if x then suc to.run else 0) (not_skip slice to.before mb is);
        stands = record {
          size = omega (arith, length-append to.before (mb ∷ []), b.stands.size);
          whole = omega (arith, b.stands.whole, ap length e, length-append (mb_bits slice (place_before mid) to.before mb) new, own, here, length-append (run_bits slice to) mine);
          counts = columns;
        };
        are = coded_read at to old mid mbs b.are active more mb new is e;
      }

  -- ---- the end of the slice

  pub close : (at to : SoFar) (old new : List Bool) (mbs : List Macroblock) → to.run ≡ 0 → length to.before ≤ slice.left → (to.place + length new) % 8 ≡ 0 → (HasMoreData new → ⊥)
      → AreRead slice at old mbs (IsRest slice to new) → AreRead slice at old mbs (IsEnd new)
  close at to old new mbs none within whole no_more h = record {
    forward = λ tail is. h.forward tail (subst (λ (x : List Macroblock). IsRest slice to new x) (sym is.0) (nil_open slice to new none within whole is.1));
    back = λ all r. let a = h.back all r in (a.0, a.1, ends a.0 a.2);
  }
    where
      ends : (tail : List Macroblock) → IsRest slice to new tail → IsEnd new tail
      ends [] r =
          elim (nil_last slice to new r) [
            | inl end ↦ (refl, end.1)
            | inr last ↦ absurd (no_more (more_behind (ue to.run) last.1 new (some_ue to.run) last.2 ([], last.3.0, last.3.2)))
          ]
      ends (mb ∷ mbs) r = absurd (no_more (more_of slice to new (mb ∷ mbs) r (inr (omega arith))))

  -- ---- from step to step

  pub begun : (old : List Bool) (columns : Columns) → AreColumns slice [] columns → IsReadOn slice (start (place_before old)) old [] old columns 0
  begun old columns counts = inl (record {
    to = start (place_before old);
    no_run = refl;
    stands = record { size = refl; whole = omega arith; counts = counts };
    are = nothing_read (start (place_before old)) old;
  })

  module _ (at : SoFar) (old mid : List Bool) (first : List Macroblock) (columns : Columns) (count : ℕ) where
    -- more data stands there: so it isn't the end
    pub stands_there : IsReadOn slice at old first mid columns count → HasMoreData mid → IsBehindCoded slice at old first mid columns count
    stands_there h more = elim h [ inl here ↦ here | inr all ↦ absurd (all.no_more more) ]

    pub read_on : (b : IsBehindCoded slice at old first mid columns count) → (second all : List Macroblock) (new : List Bool) (after : Columns) (next : ℕ) → all ≡ first ++ second → IsReadOn slice b.to mid second new after next
        → IsReadOn slice at old all new after next
    read_on b second all new after next same h =
        elim h [
          | inl here ↦ inl (record { to = here.to; no_run = here.no_run; stands = here.stands; are = subst (λ (x : List Macroblock). AreRead slice at old x (IsRest slice here.to new)) (sym same) (then_read at b.to old mid first second (IsRest slice here.to new) b.are here.are) })
          | inr end ↦ inr (record { no_more = end.no_more; are = subst (λ (x : List Macroblock). AreRead slice at old x (IsEnd new)) (sym same) (then_read at b.to old mid first second (IsEnd new) b.are end.are) })
        ]

    pub none_on : (b : IsBehindCoded slice at old first mid columns count) → NoneIs slice b.to mid → NoneIs slice at old
    none_on b none = none_then at b.to old mid first b.are none

    pub all_read : count ≤ slice.left → (HasMoreData mid → ⊥) → IsReadOn slice at old first mid columns count → IsBehindAll slice at old first mid
    all_read within no_more h =
        elim h [
          | inl here ↦ record { no_more = no_more; are = close at here.to old mid first here.no_run (omega (arith, here.stands.size, within)) here.stands.whole no_more here.are }
          | inr all ↦ all
        ]

  pub all_spelled : (place : ℕ) (old new : List Bool) (mbs : List Macroblock) → IsBehindAll slice (start place) old mbs new → EndsHere new → 1 ≤ length mbs → Spells slice place mbs old
  all_spelled place old new mbs h ends some = (some, subst (λ (x : List Macroblock). IsRest slice (start place) old x) (append-nil mbs) (h.are.forward [] (refl, ends)))

  -- ---- one list at most

  module _ (small : IsUe slice.left) (active : slice.active ≤ 16) where
    same_follows : (fuel : ℕ) → ((at : SoFar) (bits : List Bool) (v w : List Macroblock) → length v < fuel → at.run ≡ 0 → (at.place + length bits) % 8 ≡ 0 → IsRest slice at bits v → IsRest slice at bits w → v ≡ w)
        → (at : SoFar) (bits : List Bool) (v w : List Macroblock) → length v < suc fuel → (at.place + length (run_bits slice at) + length bits) % 8 ≡ 0 → Follows slice at bits v → Follows slice at bits w → v ≡ w
    same_follows fuel rest at bits [] [] few whole h k = refl
    same_follows fuel rest at bits [] (mb ∷ mbs) few whole h k = absurd (ends-no_more bits h (follows_more at bits mb mbs k))
    same_follows fuel rest at bits (mb ∷ mbs) [] few whole h k = absurd (ends-no_more bits k (follows_more at bits mb mbs h))
    same_follows fuel rest at bits (v ∷ vs) (w ∷ ws) few whole h k =
        let both = mb_free slice (place_before bits) at.before active v w h.1 k.1 h.0 k.0 (sym h.2 ∙ k.2) in
        let other : IsRest slice (behind slice at v) h.1 ws =
        subst (λ (x : Macroblock). IsRest slice (behind slice at x) h.1 ws) (sym both.0) (subst (λ (x : List Bool). IsRest slice (behind slice at w) x ws) (sym both.1) k.3) in
        let skip = not_skip slice at.before v h.0 in
        let no_run : (behind slice at v).run ≡ 0 = ap (λ (b : Bool). if b then suc at.run else 0) skip in
        let mine = mb_bits slice (at.place + length (run_bits slice at)) at.before v in
        let own = ap length (coded_bits slice at v h.0) in
        let here = ap length (mb_here slice (at.place + length (run_bits slice at)) bits at.before v whole) in
        let far : ((behind slice at v).place + length h.1) % 8 ≡ 0 =
        omega (arith, whole, ap length h.2, length-append (mb_bits slice (place_before bits) at.before v) h.1, own, here, length-append (run_bits slice at) mine) in
        ap₂ (λ (x : Macroblock) (xs : List Macroblock). x ∷ xs) both.0 (rest (behind slice at v) h.1 vs ws (omega (arith, few)) no_run far h.3 other)

    with_run : (fuel : ℕ) → ((at : SoFar) (bits : List Bool) (v w : List Macroblock) → length v < fuel → at.run ≡ 0 → (at.place + length bits) % 8 ≡ 0 → IsRest slice at bits v → IsRest slice at bits w → v ≡ w)
        → IsTrue slice.is_p → (at : SoFar) (bits : List Bool) (v w : List Macroblock) → length v < suc fuel → (at.place + length bits) % 8 ≡ 0 → RunOf slice at bits v → RunOf slice at bits w → v ≡ w
    with_run fuel rest p at bits v w few whole r q =
        let both = ue_prefix_free (at.run + r.count) (at.run + q.count) r.left q.left r.is q.is (sym r.parts ∙ q.parts) in
        let count : q.count ≡ r.count = omega (arith, both.0) in
        let to = skips slice r.count at in
        let other : Follows slice to r.left q.tail =
        subst (λ (x : ℕ). Follows slice (skips slice x at) r.left q.tail) count (subst (λ (x : List Bool). Follows slice (skips slice q.count at) x q.tail) (sym both.1) q.follows) in
        let long = ap length r.same ∙ length-append (replicate r.count skipped) r.tail in
        let spelled = ap length (run_here slice p to ∙ ap ue (skips-run slice r.count at)) in
        let here : (to.place + length (run_bits slice to) + length r.left) % 8 ≡ 0 =
        omega (arith, whole, ap length r.parts, length-append (ue (at.run + r.count)) r.left, skips-place slice r.count at, spelled) in
        let tails = same_follows fuel rest to r.left r.tail q.tail (omega (arith, few, long)) here r.follows other in
        r.same ∙ ap₂ (λ (n : ℕ) (x : List Macroblock). replicate n skipped ++ x) (sym count) tails ∙ sym q.same

    by_kind : (b : Bool) → slice.is_p ≡ b → (fuel : ℕ) → ((at : SoFar) (bits : List Bool) (v w : List Macroblock) → length v < fuel → at.run ≡ 0 → (at.place + length bits) % 8 ≡ 0 → IsRest slice at bits v → IsRest slice at bits w → v ≡ w)
        → (at : SoFar) (bits : List Bool) (v w : List Macroblock) → length v < suc fuel → at.run ≡ 0 → (at.place + length bits) % 8 ≡ 0 → IsRest slice at bits v → IsRest slice at bits w → HasMoreData bits → v ≡ w
    by_kind true p fuel rest at bits v w few none whole h k more =
        with_run fuel rest p at bits v w few whole (run_of slice small p v at bits h more (omega (arith, none)) whole) (run_of slice small p w at bits k more (omega (arith, none)) whole)
    by_kind false i fuel rest at bits v w few none whole h k more =
        same_follows fuel rest at bits v w few (omega (arith, whole, ap length (no_run_here slice i at))) (here_of slice i at bits v h none whole) (here_of slice i at bits w k none whole)

    unique : (fuel : ℕ) (at : SoFar) (bits : List Bool) (v w : List Macroblock) → length v < fuel → at.run ≡ 0 → (at.place + length bits) % 8 ≡ 0 → IsRest slice at bits v → IsRest slice at bits w → v ≡ w
    unique zero at bits v w few none whole h k = absurd (omega (arith, few))
    unique (suc fuel) at bits [] [] few none whole h k = refl
    unique (suc fuel) at bits [] (mb ∷ mbs) few none whole h k =
        by_kind slice.is_p refl fuel (unique fuel) at bits [] (mb ∷ mbs) few none whole h k (more_of slice at bits (mb ∷ mbs) k (inr (omega arith)))
    unique (suc fuel) at bits (mb ∷ mbs) w few none whole h k =
        by_kind slice.is_p refl fuel (unique fuel) at bits (mb ∷ mbs) w few none whole h k (more_of slice at bits (mb ∷ mbs) h (inr (omega arith)))

    one_list : (place : ℕ) (bits : List Bool) (v w : List Macroblock) → Spells slice place v bits → Spells slice place w bits → v ≡ w
    one_list place bits v w h k = unique (suc (length v)) (start place) bits v w (omega arith) refl (whole_of slice v (start place) bits h.1) h.1 k.1

-- ---- in the picture

pub read_whole : (info : PictureInfo) (header : Header) (size : SizeMbs) (slice : Slice) → slice ≡ slice_of info header size → (old new : List Bool) (ys part post : List Macroblock) (count : ℕ)
    → slice.first ≤ length ys → count ≤ length part → 1 ≤ count → IsBehindAll slice (start (place_before old)) old (take count part) new → EndsHere new
    → AreSliceData info header size old (take count (drop header.first_mb (take slice.first ys ++ (part ++ post))))
read_whole info header size slice is old new ys part post count few within some h ends =
    let long = length-take-le count part within in
    let spelled = all_spelled slice (place_before old) old new (take count part) h ends (omega (arith, long, some)) in
    let first : slice.first ≡ header.first_mb = ap (λ (s : Slice). s.first) is in
    let same : take count part ≡ take count (drop header.first_mb (take slice.first ys ++ (part ++ post))) =
    sym (taken_part ys part post slice.first count few within) ∙ ap (λ (n : ℕ). take count (drop n (take slice.first ys ++ (part ++ post)))) first in
    subst (λ (x : List Macroblock). AreSliceData info header size old x) same (subst (λ (s : Slice). Spells s (place_before old) (take count part) old) is spelled)

pub one_slice_data : (info : PictureInfo) (header : Header) (size : SizeMbs) (bits : List Bool) (v w : List Macroblock) → IsWithinLimits size → active_entries info header ≤ 16
    → AreSliceData info header size bits v → AreSliceData info header size bits w → v ≡ w
one_slice_data info header size bits v w limits few h k = one_list (slice_of info header size) (omega (arith, limits.count)) few (place_before bits) bits v w h k

pub reads_back : (info : PictureInfo) (header : Header) (size : SizeMbs) (place : ℕ) (mbs : List Macroblock) → IsSliceData (slice_of info header size) mbs
    → AreSliceData info header size (slice_bits (slice_of info header size) place mbs) mbs
unfolding state_behind
reads_back info header size place mbs is =
    let slice = slice_of info header size in
    let bits = slice_bits slice place mbs in
    let here : IsRest slice (start place) bits mbs = record {
      within = omega (arith, is.within);
      each = is.each;
      last = ([], record { either = inl refl; where_some = λ some. absurd (some refl) }, refl);
    } in
    let whole = whole_of slice mbs (start place) bits here in
    (is.some, elsewhere slice mbs (start place) (start (place_before bits)) bits refl refl (omega (arith, whole)) here)
