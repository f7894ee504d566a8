use Rattle.std.proofs.Common.{ap, ◌∙◌, drop, arith}
use Rattle.bit_io.proofs.ByteLemmas.{window_is}
use Rattle.bit_io.specs.Bits.{bits_of}
use Rattle.bit_io.specs.Numbers.{number, ahead}
use Rattle.bit_io.proofs.reader.BitReader.window.Goals as goal

pub returns : goal.returns
returns c =
    window_is (bits_of (drop c.self.inside.place.byte c.self.inside.bytes.now)) c.self.inside.place.bit c.word_at.result (omega arith) c.word_at.ensures
    ∙ ap (λ x. number (ahead 57 x)) c.self.view_is
