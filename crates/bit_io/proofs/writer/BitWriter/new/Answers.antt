use Rattle.std.proofs.Common.{[], ap, ◌∙◌, arith}
use Rattle.bit_io.proofs.ByteLemmas.{bits_of_nil}
use Rattle.bit_io.proofs.WriteLemmas.{all_but_is, has_free}
use Rattle.bit_io.specs.Bits.{bits_of}
use Rattle.bit_io.proofs.writer.BitWriter.new.Goals as goal

pub invariant_of-result : goal.invariant_of-result
invariant_of-result c = has_free c.new.result.items 0 [] (omega arith) (ap bits_of c.new.ensures.items ∙ bits_of_nil)

pub returns : goal.returns
returns c = all_but_is c.new.result.items 0 [] (ap bits_of c.new.ensures.items ∙ bits_of_nil)
