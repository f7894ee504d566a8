-- Which macroblocks can be drawn: those that have a spelling in their slice.
use Rattle.std.proofs.Common.{◌≡◌, ℕ, suc, ◌≤◌, Bool, true, false, List, [], ◌∷◌, ◌++◌, length, ℤ, pos, negsuc, ◌≤ℤ◌, unsigned_abs, refl, sym, ap, ◌∙◌, arith, inl, inr, if◌then◌else◌}
use Rattle.std.proofs.lemmas.Int.{ints}
use Rattle.std.specs.List.{All}
use Rattle.cavlc.specs.Turns.{AreInTurn}
use Rattle.cb_types.specs.declared.macroblock.ChromaLevels.{ChromaLevels}
use Rattle.cb_types.specs.declared.macroblock.DcLevels.{DcLevels}
use Rattle.cb_types.specs.declared.macroblock.Macroblock.{Macroblock}
use Rattle.cb_types.specs.declared.macroblock.MbKind.{MbKind}
use Rattle.cb_types.specs.declared.macroblock.MbKind.TheVariants.{Skip, Pcm, Intra4, Intra16, Whole, Wide, Tall, Four, FourFirst}
use Rattle.mb_syntax.specs.Counts.{luma_place}
use Rattle.mb_syntax.specs.Kinds.{has_qp_delta, is_skip}
use Rattle.mb_syntax.specs.MacroblockLayer.{IsQpDelta}
use Rattle.mb_syntax.specs.Prediction.{IsKind}
use Rattle.mb_syntax.specs.SliceData.{HasSpelling, mb_behind, skipped}
use Rattle.mb_syntax.specs.declared.slice.Slice.{Slice}
use Rattle.cb_maker.specs.Blocks.{drawn_block, drawn_chroma, drawn_dc, drawn_luma}
use Rattle.cb_maker.specs.Draws.{Made, each_below}
use Rattle.cb_maker.specs.Kinds.{drawn_kind}
use Rattle.cb_maker.specs.Macroblocks.{drawn_macroblock, drawn_of_kind, drawn_qp_delta}
use Rattle.cb_maker.proofs.Giving.{AreBelow, Gives, gives_either, gives_made, gives_then}
use Rattle.cb_maker.proofs.GivenBlocks.{FitChroma, FitLevels, Fits, FitsDc, are_blocks, gives_block, gives_chroma, gives_dcs, gives_luma}
use Rattle.cb_maker.proofs.GivenKinds.{IsAnyKind, gives_around, gives_kind}

around_least : (v : ℤ) → unsigned_abs v ≤ 2 → negsuc 25 ≤ℤ v
around_least v h = omega (arith, ints)

around_most : (v : ℤ) → unsigned_abs v ≤ 2 → v ≤ℤ pos 25
around_most v h = omega (arith, ints)

gives_qp_delta : (kind : MbKind) → Gives (drawn_qp_delta kind) (IsQpDelta kind)
unfolding drawn_qp_delta
gives_qp_delta kind = gives_either (has_qp_delta kind) _ _ (IsQpDelta kind)
    (λ has x. let small = gives_around 2 x in
    record { least = around_least _ small; greatest = around_most _ small; absent = λ no. let wrong : true ≡ false = sym has ∙ no in cc })
    (λ no. gives_made (pos 0) (IsQpDelta kind) (record { least = around_least (pos 0) (omega arith); greatest = around_most (pos 0) (omega arith); absent = λ _. refl }))

no_skip : (slice : Slice) (kind : MbKind) → IsKind slice kind → is_skip kind ≡ true → ⊥
no_skip slice Skip h e = h
no_skip slice (Pcm samples) h e = let wrong : false ≡ true = e in cc
no_skip slice (Intra4 modes chroma pattern) h e = let wrong : false ≡ true = e in cc
no_skip slice (Intra16 mode chroma pattern) h e = let wrong : false ≡ true = e in cc
no_skip slice (Whole part pattern) h e = let wrong : false ≡ true = e in cc
no_skip slice (Wide parts pattern) h e = let wrong : false ≡ true = e in cc
no_skip slice (Tall parts pattern) h e = let wrong : false ≡ true = e in cc
no_skip slice (Four subs pattern) h e = let wrong : false ≡ true = e in cc
no_skip slice (FourFirst subs pattern) h e = let wrong : false ≡ true = e in cc

module _ (slice : Slice) where
  -- wherever it stands in the slice
  abbrev pub IsSpelled : Macroblock → Type 0
  IsSpelled mb = (before : List Macroblock) → HasSpelling slice before mb

  dc_sizes : (kind : MbKind) (dcs : List DcLevels) → AreBelow (FitsDc kind) 2 dcs → All (λ levels. length levels.0 ≡ 4) dcs
  dc_sizes kind dcs h i d below = (h.each i d (omega (arith, below, h.size))).size

  chroma_sizes : (kind : MbKind) (planes : List ChromaLevels) → AreBelow (FitChroma kind) 2 planes → All (λ levels. length levels.0 ≡ 4) planes
  chroma_sizes kind planes h i d below = (h.each i d (omega (arith, below, h.size))).size

  module _ (kind : MbKind) (is : IsKind slice kind) where
    gives_coded : Gives (drawn_of_kind kind) IsSpelled
    unfolding drawn_of_kind
    gives_coded = gives_then (drawn_qp_delta kind) _ (IsQpDelta kind) IsSpelled (gives_qp_delta kind)
        (λ qp_delta q. gives_then (drawn_block kind 0) _ (Fits kind 0) IsSpelled (gives_block kind 0)
        (λ luma_dc d. gives_then (each_below 16 (drawn_luma kind)) _ (AreBelow (λ block. FitLevels kind (luma_place block)) 16) IsSpelled (gives_luma kind)
        (λ luma l. gives_then (each_below 2 (drawn_dc kind)) _ (AreBelow (FitsDc kind) 2) IsSpelled (gives_dcs kind)
        (λ chroma_dc e. gives_then (each_below 2 (drawn_chroma kind)) _ (AreBelow (FitChroma kind) 2) IsSpelled (gives_chroma kind)
        (λ chroma c. let mb : Macroblock = record { kind = kind; qp_delta = qp_delta; luma_dc = luma_dc; luma = luma; chroma_dc = chroma_dc; chroma = chroma } in
        gives_made mb IsSpelled (λ before. inr (record {
          kind = is;
          qp_delta = q;
          luma = l.size;
          chroma_dc = e.size;
          chroma_dc_levels = dc_sizes kind chroma_dc e;
          chroma = c.size;
          chroma_blocks = chroma_sizes kind chroma c;
          blocks = are_blocks kind slice before mb refl d l e c;
        })))))))

  of_kind : (kind : MbKind) (skip : Bool) → is_skip kind ≡ skip → IsAnyKind slice kind → Gives (if skip then Made skipped else drawn_of_kind kind) IsSpelled
  of_kind kind true e (inl h) = gives_made skipped IsSpelled (λ before. inl (record { in_p = h.0; same = refl }))
  of_kind kind true e (inr h) = absurd (no_skip slice kind h e)
  of_kind kind false e (inl h) = let wrong : true ≡ false = ap is_skip (sym h.1) ∙ e in absurd cc
  of_kind kind false e (inr h) = gives_coded kind h

  pub gives_macroblock : (mb : ℕ) → 1 ≤ slice.active → Gives (drawn_macroblock slice mb) IsSpelled
  unfolding drawn_macroblock
  gives_macroblock mb some = gives_then (drawn_kind slice mb) _ (IsAnyKind slice) IsSpelled (gives_kind slice some mb)
      (λ kind h. of_kind kind (is_skip kind) refl h)

  in_turn : (before mbs : List Macroblock) → All IsSpelled mbs → AreInTurn (HasSpelling slice) mb_behind before mbs
  unfolding AreInTurn
  in_turn before [] h = tt
  in_turn before (mb ∷ mbs) h = (h 0 mb (omega arith) before, in_turn (before ++ mb ∷ []) mbs (λ i d below. h (suc i) d (omega (arith, below))))

  pub all_in_turn : (mbs : List Macroblock) → All IsSpelled mbs → AreInTurn (HasSpelling slice) mb_behind [] mbs
  all_in_turn mbs h = in_turn [] mbs h
