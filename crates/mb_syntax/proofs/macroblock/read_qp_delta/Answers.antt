use Rattle.std.proofs.Common.{SFits, rules, sym, to_z-of_z, w32, ◌∙◌}
use Rattle.mb_syntax.proofs.MbLemmas.{no_delta_there, too_great, too_small}
use Rattle.mb_syntax.proofs.macroblock.read_qp_delta.Goals as goal
use Rattle.mb_syntax.proofs.macroblock.read_qp_delta.Goals.{then-delta-ltminus26-via-then-delta-ltminus26, then-delta-ltminus26-via-else-delta-ltminus26+then-delta-gt25}

pub returns-then-delta-ltminus26 : goal.returns-then-delta-ltminus26
returns-then-delta-ltminus26 c =
    let fits : SFits w32 c.in_ok-delta.delta = search rules in
    no_delta_there c.args.kind.now c.in_ok-delta.delta c.args.reader.now c.read_se.new.self (sym c.has_qp_delta.ensures ∙ c.if-not-has_qp_delta.false)
    c.in_ok-delta.ensures.reads.0 c.in_ok-delta.ensures.reads.1
    (λ is. elim c.then-delta-ltminus26.branch [
      | then-delta-ltminus26-via-then-delta-ltminus26 w ↦ too_small c.args.kind.now c.in_ok-delta.delta (rw (to_z-of_z fits) at w.if-delta-ltminus26.true) is
      | then-delta-ltminus26-via-else-delta-ltminus26+then-delta-gt25 w ↦ too_great c.args.kind.now c.in_ok-delta.delta (rw (to_z-of_z fits) at w.if-delta-gt25.true) is
    ])
