use Rattle.std.proofs.Common.{◌≡◌, ◌∙◌, ◌≤◌, ℕ, List, FitsSigned, length, inr, refl, sym, ap, subst, to_z, of_z, w32, arith}
use Rattle.std.proofs.lemmas.Int.{ints, to_z-of_z}
use Rattle.cb_types.specs.declared.macroblock.Vector.{Vector}
use Rattle.motion.specs.Around.{AreBefore, around_of}
use Rattle.motion.specs.Border.{border_of, macroblock_at}
use Rattle.motion.specs.Vectors.{AreVectors}
use Rattle.motion.specs.declared.border.Border.{Border}
use Rattle.motion.proofs.VectorLemmas.{shared_vectors}
use Rattle.recon.specs.Availability.{usable_around}
use Rattle.recon.specs.Marks.{IsMarkOf}
use Rattle.recon.specs.Rebuilt.{IsTile, luma_qp_at}
use Rattle.recon.specs.References.{pictures_of}
use Rattle.recon.specs.Slice.{Slice, kind_at, macroblock, slice_of}
use Rattle.recon.proofs.AroundLemmas.{around_before, fewer_before, usable_before}
use Rattle.recon.proofs.KeptLemmas.{mark_beside, rebuilt_more, tile_beside, whole_set}
use Rattle.recon.proofs.QuantizerLemmas.{by_one, columns_start, qp_start, qp_step}
use Rattle.recon.proofs.construction.rebuild.Goals as goal

pub loop-number-init : goal.loop-number-init
loop-number-init c = record {
  qp = c.first_qp-qp.ensures.qp ∙ qp_start c.args.info.now c.args.header.now c.args.macroblocks.now;
  few = c.first_qp-qp.ensures.limit;
  columns = columns_start c.args.info.now.constrained_intra_pred_flag c.args.header.now.first_mb c.args.size.width c.args.macroblocks.now c.new-columns.result (c.new-columns.ensures c.args.header.now.first_mb c.args.size.width);
  rebuilt = λ k lt. absurd (omega arith);
  whole = λ before. before;
  other_marks = λ k le. refl;
  other_tiles = λ k le. refl;
}

pub usable_around-usable-requires : goal.usable_around-usable-requires
usable_around-usable-requires c =
    let first : ℕ = c.args.header.now.first_mb in
    let width : ℕ = c.args.size.width in
    let n : ℕ = c.loop-number.number in
    let some : 1 ≤ width = c.requires.slice.size.some_column in
    let around_is : c.around_of-around.result ≡ around_of first width n = c.around_of-around.ensures in
    let before : AreBefore n c.around_of-around.result = subst (AreBefore n) (sym around_is) (around_before first width n some) in
    fewer_before n (length c.args.macroblocks.now) c.around_of-around.result (omega arith) before

pub next_modes-modes-requires-clause-before : goal.next_modes-modes-requires-clause-before
next_modes-modes-requires-clause-before c =
    let first : ℕ = c.args.header.now.first_mb in
    let width : ℕ = c.args.size.width in
    let n : ℕ = c.loop-number.number in
    let some : 1 ≤ width = c.requires.slice.size.some_column in
    let around_is : c.around_of-around.result ≡ around_of first width n = c.around_of-around.ensures in
    let before : AreBefore n c.around_of-around.result = subst (AreBefore n) (sym around_is) (around_before first width n some) in
    let usable : AreBefore n c.usable_around-usable.result = subst (AreBefore n) (sym c.usable_around-usable.ensures) (usable_before c.args.info.now.constrained_intra_pred_flag c.args.macroblocks.now n c.around_of-around.result before) in
    usable

pub border_of-border-requires-clause-macroblocks : goal.border_of-border-requires-clause-macroblocks
border_of-border-requires-clause-macroblocks c =
    let first : ℕ = c.args.header.now.first_mb in
    let width : ℕ = c.args.size.width in
    let n : ℕ = c.loop-number.number in
    let some : 1 ≤ width = c.requires.slice.size.some_column in
    let around_is : c.around_of-around.result ≡ around_of first width n = c.around_of-around.ensures in
    let before : AreBefore n c.around_of-around.result = subst (AreBefore n) (sym around_is) (around_before first width n some) in
    fewer_before n (length c.args.macroblocks.now) c.around_of-around.result (omega arith) before

pub border_of-border-requires-clause-marks : goal.border_of-border-requires-clause-marks
border_of-border-requires-clause-marks c =
    let first : ℕ = c.args.header.now.first_mb in
    let width : ℕ = c.args.size.width in
    let n : ℕ = c.loop-number.number in
    let some : 1 ≤ width = c.requires.slice.size.some_column in
    let around_is : c.around_of-around.result ≡ around_of first width n = c.around_of-around.ensures in
    let before : AreBefore n c.around_of-around.result = subst (AreBefore n) (sym around_is) (around_before first width n some) in
    fewer_before n (length c.loop-number.marks) c.around_of-around.result (omega arith) before

pub tile_of-requires-clause-tiles : goal.tile_of-requires-clause-tiles
tile_of-requires-clause-tiles c =
    let first : ℕ = c.args.header.now.first_mb in
    let width : ℕ = c.args.size.width in
    let n : ℕ = c.loop-number.number in
    let some : 1 ≤ width = c.requires.slice.size.some_column in
    let around_is : c.around_of-around.result ≡ around_of first width n = c.around_of-around.ensures in
    let before : AreBefore n c.around_of-around.result = subst (AreBefore n) (sym around_is) (around_before first width n some) in
    let usable : AreBefore n c.usable_around-usable.result = subst (AreBefore n) (sym c.usable_around-usable.ensures) (usable_before c.args.info.now.constrained_intra_pred_flag c.args.macroblocks.now n c.around_of-around.result before) in
    fewer_before n (length c.loop-number.into) c.usable_around-usable.result (omega arith) usable

pub tile_of-requires-clause-qp : goal.tile_of-requires-clause-qp
tile_of-requires-clause-qp c =
    let range = c.requires.slice.each c.loop-number.number (omega arith) in
    let delta = (macroblock_at c.args.macroblocks.now c.loop-number.number).qp_delta in
    let least = range.least_delta in
    let greatest = range.greatest_delta in
    let fits : FitsSigned w32 delta = omega (arith, ints) in
    let qp : c.next_qp-qp.result ≡ luma_qp_at (slice_of c.args.info.now c.args.header.now c.args.list.now.entries (pictures_of c.args.refs.now) c.args.size c.args.macroblocks.now) c.loop-number.number =
    qp_step c.args.info.now c.args.header.now c.args.macroblocks.now c.loop-number.number c.loop-number.qp c.next_qp-qp.result (to_z w32 (of_z w32 delta)) c.loop-number.invariant.qp (to_z-of_z w32 delta fits) c.next_qp-qp.ensures.qp in
    qp

pub tile_of-requires-clause-shared : goal.tile_of-requires-clause-shared
tile_of-requires-clause-shared c =
    shared_vectors c.border_of-border.result (macroblock_at c.args.macroblocks.now c.loop-number.number).kind c.in-Some.vectors c.in-Some.ensures

pub loop-number-preserved : goal.loop-number-preserved
loop-number-preserved c =
    let first : ℕ = c.args.header.now.first_mb in
    let width : ℕ = c.args.size.width in
    let n : ℕ = c.loop-number.number in
    let some : 1 ≤ width = c.requires.slice.size.some_column in
    let around_is : c.around_of-around.result ≡ around_of first width n = c.around_of-around.ensures in
    let before : AreBefore n c.around_of-around.result = subst (AreBefore n) (sym around_is) (around_before first width n some) in
    let range = c.requires.slice.each c.loop-number.number (omega arith) in
    let delta = (macroblock_at c.args.macroblocks.now c.loop-number.number).qp_delta in
    let least = range.least_delta in
    let greatest = range.greatest_delta in
    let fits : FitsSigned w32 delta = omega (arith, ints) in
    let qp : c.next_qp-qp.result ≡ luma_qp_at (slice_of c.args.info.now c.args.header.now c.args.list.now.entries (pictures_of c.args.refs.now) c.args.size c.args.macroblocks.now) c.loop-number.number =
    qp_step c.args.info.now c.args.header.now c.args.macroblocks.now c.loop-number.number c.loop-number.qp c.next_qp-qp.result (to_z w32 (of_z w32 delta)) c.loop-number.invariant.qp (to_z-of_z w32 delta fits) c.next_qp-qp.ensures.qp in
    let mbs = c.args.macroblocks.now in
    let constrained = c.args.info.now.constrained_intra_pred_flag in
    let slice : Slice = slice_of c.args.info.now c.args.header.now c.args.list.now.entries (pictures_of c.args.refs.now) c.args.size mbs in
    let usable_is : c.usable_around-usable.result ≡ usable_around constrained mbs (around_of first width n) = c.usable_around-usable.ensures ∙ ap (usable_around constrained mbs) around_is in
    let border : c.border_of-border.result ≡ border_of mbs c.loop-number.marks (around_of first width n) = c.border_of-border.ensures ∙ ap (border_of mbs c.loop-number.marks) around_is in
    let mark = c.mark_of.result in
    let tile = c.in-Some-tile_of.tile in
    let parts = c.in-Some-tile_of.ensures.tile in
    let made : mark.vectors ≡ c.in-Some.vectors = c.mark_of.ensures.vectors in
    record {
      qp = qp ∙ by_one c.args.info.now c.args.header.now mbs n;
      few = c.next_qp-qp.ensures.limit;
      columns = (c.next_modes-modes.ensures constrained usable_is c.loop-number.invariant.columns).1;
      rebuilt = rebuilt_more slice c.loop-number.marks c.loop-number.into n mark tile some (omega arith) (omega arith) c.loop-number.invariant.rebuilt
          (record {
            of_mark = subst (λ (q : ℕ). IsMarkOf slice.header slice.list (macroblock slice n) q mark) qp c.mark_of.ensures.mark;
            vectors = subst (λ (v : List Vector). AreVectors (border_of mbs c.loop-number.marks (around_of first width n)) (kind_at slice n) 16 v) (sym made) (subst (λ (b : Border). AreVectors b (kind_at slice n) 16 c.in-Some.vectors) border c.in-Some.ensures);
            pictures = parts.0;
            samples = parts.1;
            of_tile = subst (λ (v : List Vector). IsTile slice n v c.loop-number.into tile) (sym made) parts.2;
          });
      whole = λ before. whole_set c.loop-number.marks c.loop-number.into c.args.count n mark tile (omega arith) (omega arith) c.mark_of.ensures.whole c.in-Some-tile_of.ensures.whole (c.loop-number.invariant.whole before);
      other_marks = λ k le. sym (mark_beside c.loop-number.marks n k mark (λ e. omega arith)) ∙ c.loop-number.invariant.other_marks k (omega arith);
      other_tiles = λ k le. sym (tile_beside c.loop-number.into n k tile (λ e. omega arith)) ∙ c.loop-number.invariant.other_tiles k (omega arith);
    }

pub returns-in_default-tile_of-clause-rebuilt : goal.returns-in_default-tile_of-clause-rebuilt
returns-in_default-tile_of-clause-rebuilt c = record {
  number = c.loop-number.number;
  inside = omega arith;
  before = c.loop-number.invariant.rebuilt;
  stops = inr c.in_default-tile_of.ensures.tile;
}
