use Rattle.std.proofs.Common.{sym, arith}
use Rattle.vdplay.proofs.NextLemmas.{no_periods}
use Rattle.vdplay.proofs.line_writer.LineWriter.new.Goals as goal

pub returns : goal.returns
returns c = record { periods = sym no_periods; few = omega arith; some = λ none. absurd (omega arith) }
