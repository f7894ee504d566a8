-- The macroblocks of a slice, put behind those before them in the picture.
use Rattle.std.proofs.Common.{◌≡◌, ℕ, ◌+◌, ◌≤◌, List, [], ◌∷◌, ◌++◌, length, take, drop, sym, ap, ◌∙◌, subst, arith}
use Rattle.std.proofs.lemmas.List.{drop-append-le, drop_all, length-take-le, length_push}
use Rattle.cb_types.specs.declared.header.Header.{Header}
use Rattle.cb_types.specs.declared.macroblock.Macroblock.{Macroblock}
use Rattle.mb_syntax.specs.Slice.{slice_of}
use Rattle.mb_syntax.specs.declared.slice.Slice.{Slice}
use Rattle.cb_maker.specs.Draws.{each_below}
use Rattle.cb_maker.specs.Macroblocks.{drawn_macroblock}
use Rattle.cb_maker.specs.Slices.{drawn_mbs}
use Rattle.cb_maker.specs.declared.stream.TheConstants.{INFO, SIZE, SLICE_MBS}
use Rattle.cb_maker.proofs.Drawing.{more_below, none_below}

pub record PutSo (slice : Slice) (first i : ℕ) (mbs : List Macroblock) (x y : ℕ) : Type 0 where
  pub size : length mbs ≡ first + i
  pub drawn : each_below i (λ behind. drawn_macroblock slice (first + behind)) x ≡ (drop first mbs, y)

module _ (slice : Slice) (first : ℕ) where
  pub none_put : (old mbs : List Macroblock) (x : ℕ) → first ≤ length old → mbs ≡ take first old → PutSo slice first 0 mbs x x
  none_put old mbs x within e =
      let long : length mbs ≡ first = ap length e ∙ length-take-le first old within in
      record {
        size = omega (arith, long);
        drawn = none_below (λ behind. drawn_macroblock slice (first + behind)) x ∙ ap (λ (s : List Macroblock). (s, x)) (sym (drop_all first mbs (omega (arith, long))));
      }

  pub more_put : (i x y z : ℕ) (mbs new : List Macroblock) (mb : Macroblock) → PutSo slice first i mbs x y → drawn_macroblock slice (first + i) y ≡ (mb, z) → new ≡ mbs ++ mb ∷ []
      → PutSo slice first (i + 1) new x z
  more_put i x y z mbs new mb h e f = record {
    size = ap length f ∙ length_push mbs mb ∙ omega (arith, h.size);
    drawn = more_below (λ behind. drawn_macroblock slice (first + behind)) i x y z (drop first mbs) mb h.drawn e
        ∙ ap (λ (s : List Macroblock). (s, z)) (sym (ap (drop first) f ∙ drop-append-le first mbs (mb ∷ []) (omega (arith, h.size))));
  }

pub all_put : (header : Header) (slice : Slice) (i x y : ℕ) (mbs : List Macroblock) → slice ≡ slice_of INFO header SIZE → i ≡ SLICE_MBS → PutSo slice header.first_mb i mbs x y
    → drawn_mbs header x ≡ (drop header.first_mb mbs, y)
unfolding drawn_mbs
all_put header slice i x y mbs e f h =
    let same = subst (λ (s : Slice). PutSo s header.first_mb i mbs x y) e h in
    (subst (λ (k : ℕ). PutSo (slice_of INFO header SIZE) header.first_mb k mbs x y) f same).drawn
