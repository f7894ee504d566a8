use Rattle.std.proofs.Common.{◌+◌, length, ap, sym, ◌∙◌, drop, arith}
use Rattle.bit_io.proofs.ByteLemmas.{window_is}
use Rattle.bit_io.proofs.PlaceLemmas.{length_left, moved_3}
use Rattle.bit_io.specs.Bits.{bits_of}
use Rattle.bit_io.specs.Numbers.{number, ahead}
use Rattle.bit_io.proofs.reader.BitReader.later_window.Goals as goal

pub word_at-requires : goal.word_at-requires
word_at-requires c =
    let left = ap length (sym c.self.view_is) ∙ length_left c.self.inside.bytes.now c.self.inside.place.byte c.self.inside.place.bit in
    omega (arith, left)

pub returns : goal.returns
returns c =
    let r = c.self.inside in
    window_is (bits_of (drop (r.place.byte + 3) r.bytes.now)) r.place.bit c.word_at.result c.self.invariant.of_byte c.word_at.ensures
    ∙ ap (λ x. number (ahead 57 x)) (moved_3 r.bytes.now r.place.byte r.place.bit c.self.invariant.of_byte ∙ ap (drop 24) c.self.view_is)
