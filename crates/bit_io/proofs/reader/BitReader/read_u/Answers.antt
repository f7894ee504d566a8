use Rattle.std.proofs.Common.{◌^◌, ◌<◌, refl, rules, subst, ℕ}
use Rattle.bit_io.proofs.PlaceLemmas.{too_short}
use Rattle.bit_io.proofs.NumberLemmas.{spelled, number-lt, length-ahead}
use Rattle.bit_io.specs.Numbers.{number, ahead}
use Rattle.bit_io.proofs.reader.BitReader.read_u.Goals as goal

pub returns-then-not-holds : goal.returns-then-not-holds
returns-then-not-holds c = record { reads = (refl, λ v rest h e. too_short c.args.n v c.args.self.now rest (search rules) e) }

pub returns : goal.returns
returns c =
    let next = ahead c.args.n c.args.self.now in
    let small : number next < 2 ^ c.args.n = subst (λ (x : ℕ). number next < 2 ^ x) (length-ahead c.args.n c.args.self.now) (number-lt next) in
    let bits = spelled c.args.n c.peek-value.result c.args.self.now (search rules) c.peek-value.ensures in
    record { reads = (rw c.peek-value.ensures small, rw c.skip.ensures bits) }
