use Rattle.std.proofs.Common.{◌≡◌, ◌++◌, ap, sym, ◌∙◌, rules, SFits, w32, to_z-of_z}
use Rattle.bit_io.proofs.LawLemmas.{se_is, se_number-IsUe}
use Rattle.bit_io.proofs.ReadLemmas.{BeginsNone-along}
use Rattle.bit_io.specs.Codewords.{IsUe, ue, IsSe, se, se_number}
use Rattle.bit_io.proofs.reader.BitReader.read_se.Goals as goal

pub returns-in_err-number : goal.returns-in_err-number
returns-in_err-number c =
    let read = c.in_err-number.ensures.reads in
    record { reads = rw c.from_residual.ensures (read.0, BeginsNone-along IsUe ue IsSe se se_number (λ v h. (se_number-IsUe v h, se_is v)) c.args.self.now read.1) }

pub returns : goal.returns
returns c =
    let read = c.in_ok-number.ensures.reads in
    let fits : SFits w32 c.signed.result = search rules in
    let same = to_z-of_z fits in
    let word : ue c.in_ok-number.number ≡ se c.signed.result = ap ue (sym c.signed.ensures.number) ∙ sym (se_is c.signed.result) in
    record { reads = rw same (c.signed.ensures.value, read.1 ∙ ap (λ x. x ++ c.read_ue.new.self) word) }
