use Rattle.std.proofs.Common.{rules, ◌++◌, codes}
use Rattle.std.proofs.Output.{has_written_append}
use Rattle.std.specs.Fmt.{HasWritten, decimal}
use Rattle.vd_status.proofs.refusal.counts.Goals as goal

pub returns : goal.returns
returns g c = λ plain ok.
    let first : HasWritten g.W.Write.write_str_gives c.args.f.now (decimal c.args.live ++ codes " handles are live, ") c.write.new.self = search rules in
    let second : HasWritten g.W.Write.write_str_gives c.write.new.self (decimal c.args.given ++ codes " were given") c.write-2.new.self = search rules in
    has_written_append _ _ _ _ _ _ first second
