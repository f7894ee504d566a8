-- Macroblocks of a slice that are written.
use Rattle.std.proofs.Common.{◌≡◌, ℕ, ◌+◌, ◌<◌, ◌≤◌, inl, inr, Bool, true, false, if◌then◌else◌, List, [], ◌∷◌, ◌++◌, length, get_or, replicate, take, refl, sym, ap, ap₂, ◌==◌, ◌∙◌, subst, arith, append_assoc, append-nil}
use Rattle.std.proofs.lemmas.List.{get_or-replicate, length-append, length-take-le, take_all, take_more}
use Rattle.bit_io.specs.Codewords.{ue}
use Rattle.bit_io.specs.Trailing.{trailing_bits}
use Rattle.cavlc.proofs.TurnLemmas.{is_at, state_more, written_more}
use Rattle.cavlc.specs.Turns.{in_turn, state_behind}
use Rattle.cb_types.specs.declared.macroblock.Macroblock.{Macroblock}
use Rattle.mb_syntax.proofs.SkipLemmas.{skipped_counts}
use Rattle.mb_syntax.proofs.WholeMbs.{not_skip}
use Rattle.mb_syntax.specs.Around.{AreColumns, IsCountOf}
use Rattle.mb_syntax.specs.Blocks.{residual_bits}
use Rattle.mb_syntax.specs.Counts.{blocks_of, chroma_place, luma_place, total_at}
use Rattle.mb_syntax.specs.Kinds.{is_pcm, is_skip}
use Rattle.mb_syntax.specs.MacroblockLayer.{IsCoded, mb_bits, qp_delta_bits}
use Rattle.mb_syntax.specs.Prediction.{kind_bits}
use Rattle.mb_syntax.specs.Progress.{AreWritten, IsNext}
use Rattle.mb_syntax.specs.SliceData.{HasSpelling, IsSliceData, SoFar, behind, bits_from, last_run, mb_behind, next_bits, slice_bits, start}
use Rattle.mb_syntax.specs.declared.counts.Columns.{Columns}
use Rattle.mb_syntax.specs.declared.counts.Counts.{Counts}
use Rattle.mb_syntax.specs.declared.slice.Slice.{Slice}

-- ---- one macroblock

abbrev pub sixteens : Counts
sixteens = record { luma = replicate 16 16; cb = replicate 4 16; cr = replicate 4 16 }

pub pcm_counts : (mb : Macroblock) → is_pcm mb.kind ≡ true → IsCountOf sixteens mb
pcm_counts mb is =
    let at : (place : ℕ) → 16 ≡ (if is_pcm mb.kind then 16 else total_at (blocks_of mb) place) = λ place. sym (ap (λ (b : Bool). if b then 16 else total_at (blocks_of mb) place) is) in
    record {
      luma = λ block below. get_or-replicate 16 block 16 0 below ∙ at (luma_place block);
      cb = λ block below. get_or-replicate 4 block 16 0 below ∙ at (chroma_place 0 block);
      cr = λ block below. get_or-replicate 4 block 16 0 below ∙ at (chroma_place 1 block);
    }

pub mb_written : (slice : Slice) (before : List Macroblock) (mb : Macroblock) (old mid low new : List Bool) → mid ≡ old ++ kind_bits slice (length old) mb.kind → low ≡ mid ++ qp_delta_bits mb.kind mb.qp_delta
    → new ≡ low ++ residual_bits slice before mb.kind (blocks_of mb) → new ≡ old ++ mb_bits slice (length old) before mb
unfolding mb_bits
mb_written slice before mb old mid low new e f g =
    let kind = kind_bits slice (length old) mb.kind in
    let delta = qp_delta_bits mb.kind mb.qp_delta in
    let blocks = residual_bits slice before mb.kind (blocks_of mb) in
    g ∙ ap (λ (x : List Bool). x ++ blocks) (f ∙ ap (λ (x : List Bool). x ++ delta) e ∙ append_assoc old kind delta) ∙ append_assoc old (kind ++ delta) blocks

pub skip_counts : (slice : Slice) (before : List Macroblock) (mb : Macroblock) → HasSpelling slice before mb → is_skip mb.kind ≡ true → IsCountOf (record { luma = replicate 16 0; cb = replicate 4 0; cr = replicate 4 0 }) mb
skip_counts slice before mb (inl skip) is = subst (λ (m : Macroblock). IsCountOf (record { luma = replicate 16 0; cb = replicate 4 0; cr = replicate 4 0 }) m) (sym skip.same) skipped_counts
skip_counts slice before mb (inr coded) is = let other = not_skip slice before mb coded in absurd cc

pub coded_here : (slice : Slice) (before : List Macroblock) (mb : Macroblock) → HasSpelling slice before mb → is_skip mb.kind ≡ false → IsCoded slice before mb
coded_here slice before mb (inl skip) is = let same : is_skip mb.kind ≡ true = ap (λ (m : Macroblock). is_skip m.kind) skip.same in absurd cc
coded_here slice before mb (inr coded) is = coded

-- ---- all of them

pub before_is : (slice : Slice) (at : SoFar) (mbs : List Macroblock) → (state_behind (behind slice) at mbs).before ≡ at.before ++ mbs
unfolding state_behind
before_is slice at [] = sym (append-nil at.before)
before_is slice at (mb ∷ mbs) = before_is slice (behind slice at mb) mbs ∙ append_assoc at.before (mb ∷ []) mbs

pub list_is : (before mbs : List Macroblock) → state_behind mb_behind before mbs ≡ before ++ mbs
unfolding state_behind
list_is before [] = sym (append-nil before)
list_is before (mb ∷ mbs) = list_is (mb_behind before mb) mbs ∙ append_assoc before (mb ∷ []) mbs

module _ (slice : Slice) (mbs : List Macroblock) (old : List Bool) where
  abbrev pub at : ℕ → SoFar
  at k = state_behind (behind slice) (start (length old)) (take k mbs)

  abbrev IsAny : SoFar → Macroblock → Type 0
  IsAny at mb = Unit {0}

  pub none_yet : AreWritten slice (take 0 mbs) old old 0
  unfolding in_turn state_behind
  none_yet = record { bits = sym (append-nil old); place = refl; same_run = refl }

  pub next_is : (out : List Bool) (columns : Columns) (k run : ℕ) (d : Macroblock) → IsSliceData slice mbs → k < length mbs → AreWritten slice (take k mbs) old out run → AreColumns slice (take k mbs) columns
      → IsNext slice (at k) out columns k run (get_or mbs k d)
  next_is out columns k run d whole below written counts =
      let front : (at k).before ≡ take k mbs = before_is slice (start (length old)) (take k mbs) in
      let is = is_at (HasSpelling slice) (λ (before : List Macroblock) (mb : Macroblock). []) mb_behind [] mbs k d below whole.each in
      record {
        place = written.place;
        size = ap length front ∙ length-take-le k mbs (omega (arith, below));
        counts = subst (λ (x : List Macroblock). AreColumns slice x columns) (sym front) counts;
        same_run = written.same_run;
        is = subst (λ (x : List Macroblock). HasSpelling slice x (get_or mbs k d)) (list_is [] (take k mbs) ∙ sym front) is;
      }

  pub one_written : (out new : List Bool) (k run next : ℕ) (d : Macroblock) → k < length mbs → AreWritten slice (take k mbs) old out run → new ≡ out ++ next_bits slice (at k) (get_or mbs k d)
      → next ≡ (behind slice (at k) (get_or mbs k d)).run → AreWritten slice (take (k + 1) mbs) old new next
  one_written out new k run next d below written e same =
      let mb = get_or mbs k d in
      let state = state_more IsAny (next_bits slice) (behind slice) (start (length old)) mbs k d below in
      record {
        bits = written_more IsAny (next_bits slice) (behind slice) (start (length old)) mbs k d old out new below written.bits e;
        place = omega (arith, ap length e, length-append out (next_bits slice (at k) mb), written.place, ap (λ (s : SoFar). s.place) state);
        same_run = ap (λ (s : SoFar). s.run) state ∙ sym same;
      }

  pub columns_more : (columns : Columns) (k : ℕ) (d : Macroblock) → k < length mbs → AreColumns slice ((at k).before ++ get_or mbs k d ∷ []) columns → AreColumns slice (take (k + 1) mbs) columns
  columns_more columns k d below counts =
      subst (λ (x : List Macroblock). AreColumns slice x columns) (ap (λ (x : List Macroblock). x ++ get_or mbs k d ∷ []) (before_is slice (start (length old)) (take k mbs)) ∙ sym (take_more mbs k d below)) counts

  pub all_written : (out : List Bool) (k run : ℕ) → length mbs ≤ k → AreWritten slice (take k mbs) old out run → AreWritten slice mbs old out run
  all_written out k run all written = subst (λ (x : List Macroblock). AreWritten slice x old out run) (take_all k mbs all) written

  pub ended : (mid low : List Bool) (run : ℕ) → AreWritten slice mbs old mid run → low ≡ mid ++ (if run == 0 then [] else ue run) → low ++ trailing_bits (length low) ≡ old ++ slice_bits slice (length old) mbs
  unfolding bits_from
  ended mid low run written e =
      let end = state_behind (behind slice) (start (length old)) mbs in
      let turn = in_turn (next_bits slice) (behind slice) (start (length old)) mbs in
      let last = last_run end in
      let low_is : low ≡ mid ++ last = e ∙ ap (λ (n : ℕ). mid ++ (if n == 0 then [] else ue n)) (sym written.same_run) in
      let long : length low ≡ end.place + length last = omega (arith, ap length low_is, length-append mid last, written.place) in
      ap₂ (λ (x : List Bool) (n : ℕ). x ++ trailing_bits n) (low_is ∙ ap (λ (x : List Bool). x ++ last) written.bits) long
      ∙ append_assoc (old ++ turn) last (trailing_bits (end.place + length last)) ∙ append_assoc old turn (last ++ trailing_bits (end.place + length last))
      ∙ ap (λ (x : List Bool). old ++ (turn ++ (x ++ trailing_bits (end.place + length x)))) (sym (append-nil last))
