use Rattle.std.proofs.Common.{ℕ, Option, subst, sym}
use Rattle.access_units.specs.Readable.{IsSetNumber}
use Rattle.access_units.proofs.ContentLemmas.{first_none, second_none, third_read}
use Rattle.access_units.proofs.content.picture_set_number.Goals as goal

pub returns-in_err-read_ue : goal.returns-in_err-read_ue
returns-in_err-read_ue c = subst (λ (id : Option ℕ). IsSetNumber c.args.reader id) (sym c.from_residual.ensures)
    (first_none c.args.reader c.read_ue.new.self c.in_err-read_ue.ensures.reads)

pub returns-in_err-read_ue-2 : goal.returns-in_err-read_ue-2
returns-in_err-read_ue-2 c = subst (λ (id : Option ℕ). IsSetNumber c.args.reader id) (sym c.from_residual-in_err-read_ue-2.ensures)
    (second_none c.args.reader c.read_ue.new.self c.read_ue-2.new.self c.in_ok-read_ue.field-0 c.in_ok-read_ue.ensures.reads c.in_err-read_ue-2.ensures.reads)

pub returns : goal.returns
returns c = third_read c.args.reader c.read_ue.new.self c.read_ue-2.new.self c.read_ue-3.new.self c.in_ok-read_ue.field-0 c.in_ok-read_ue-2.field-0 c.read_ue-3.result
    c.in_ok-read_ue.ensures.reads c.in_ok-read_ue-2.ensures.reads c.read_ue-3.ensures.reads
