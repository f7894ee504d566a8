use Rattle.std.proofs.Common.{inl, inr}
use Rattle.mb_syntax.proofs.IntraLemmas.{IsLuma, intra16_none, intra16_read}
use Rattle.mb_syntax.specs.MacroblockLayer.{place_before}
use Rattle.mb_syntax.proofs.intra.read_intra16.Goals as goal
use Rattle.mb_syntax.proofs.intra.read_intra16.Goals.{then-number-gt12, else-number-gt12}

pub returns-in_err-chroma : goal.returns-in_err-chroma
returns-in_err-chroma c = rw c.from_residual.ensures (intra16_none c.args.slice.now (place_before c.args.reader.now) c.args.number c.requires.some c.requires.few c.args.reader.now c.in_err-chroma.ensures)

pub returns : goal.returns
returns c =
    let is : IsLuma c.args.number c.if-number-gt12.luma = elim c.if-number-gt12.branch [
      | then-number-gt12 w ↦ record { either = inl (w.if-number-gt12.true, w.luma-is) }
      | else-number-gt12 w ↦ record { either = inr (w.if-number-gt12.false, w.luma-is) }
    ] in
    intra16_read c.args.slice.now (place_before c.args.reader.now) c.args.number c.if-number-gt12.luma c.in_ok-chroma.chroma c.args.reader.now c.read_chroma_mode.new.reader
    c.requires.some c.requires.few is c.in_ok-chroma.ensures.0 c.in_ok-chroma.ensures.1
