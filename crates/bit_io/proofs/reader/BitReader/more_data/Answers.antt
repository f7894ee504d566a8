use Rattle.std.proofs.Common.{◌+◌, ◌*◌, ap, sym, ◌∙◌, arith, lt-ltb, ltb-true, eqb-true}
use Rattle.bit_io.proofs.LastOneLemmas.{more-data, through-drop}
use Rattle.bit_io.proofs.PlaceLemmas.{from_first}
use Rattle.bit_io.specs.Bits.{bits_of}
use Rattle.bit_io.specs.Places.{through_last_one}
use Rattle.bit_io.proofs.reader.BitReader.more_data.Goals as goal

pub returns-then-self : goal.returns-then-self
returns-then-self c =
    let r = c.self.inside in
    let left = ap through_last_one (sym c.self.view_is ∙ from_first r.bytes.now r.place.byte r.place.bit) ∙ through-drop (8 * r.place.byte + r.place.bit) (bits_of r.bytes.now) in
    let more = more-data c.args.self.now in
    (λ t. more.1 (omega (arith, left)), λ h. lt-ltb r.place.byte r.last_one.byte (omega arith))

pub returns-then-self-2 : goal.returns-then-self-2
returns-then-self-2 c =
    let r = c.self.inside in
    let left = ap through_last_one (sym c.self.view_is ∙ from_first r.bytes.now r.place.byte r.place.bit) ∙ through-drop (8 * r.place.byte + r.place.bit) (bits_of r.bytes.now) in
    let more = more-data c.args.self.now in
    (λ t. more.1 (omega (arith, left, ltb-true r.place.bit r.last_one.bit t)), λ h. lt-ltb r.place.bit r.last_one.bit (omega (arith, left, more.0 h)))

pub returns-else-self-2 : goal.returns-else-self-2
returns-else-self-2 c =
    let r = c.self.inside in
    let left = ap through_last_one (sym c.self.view_is ∙ from_first r.bytes.now r.place.byte r.place.bit) ∙ through-drop (8 * r.place.byte + r.place.bit) (bits_of r.bytes.now) in
    let more = more-data c.args.self.now in
    (λ t. absurd (c.if-self-2.false (eqb-true r.place.byte r.last_one.byte t)), λ h. absurd (omega (arith, left, more.0 h)))
