use Rattle.std.proofs.Common.{◌<◌, ◌/◌, ◌^◌, length, rules, eqb-true, eq-eqb}
use Rattle.bit_io.proofs.EndLemmas.{ends}
use Rattle.bit_io.proofs.reader.BitReader.ends_here.Goals as goal

pub returns-then-not-holds : goal.returns-then-not-holds
returns-then-not-holds c =
    let w = c.window.result in
    let few : length c.args.self.now < 9 = search rules in
    let both = ends w c.args.self.now few c.window.ensures in
    (λ t. both.0 (eqb-true (w / 2 ^ 7) (2 ^ 56) t), λ h. eq-eqb (w / 2 ^ 7) (2 ^ 56) (both.1 h))
