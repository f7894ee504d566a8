use mir.Val.{bool_byte}
use Rattle.std.proofs.Common.{refl, ◌≡◌, ◌+◌, ◌-◌, ◌≤◌, ℕ, Bool, true, false, cond, ◌∷◌, ap, sym, ◌∙◌, subst, arith}
use Rattle.access_units.specs.Pictures.{periods}
use Rattle.accepted_pictures.specs.Files.{pictures_in}
use Rattle.vdplay.proofs.NextLemmas.{few_periods, joins_decoded, length_pictures, periods_next, some_periods}
use Rattle.vdplay.proofs.line_writer.LineWriter.period_of.Goals as goal

abbrev bit : Bool → ℕ
bit b = cond b 1 0

byte_is : (b : Bool) → bool_byte b ≡ bit b
byte_is true = refl
byte_is false = refl

bit_le : (b : Bool) → bit b ≤ 1
bit_le true = omega arith
bit_le false = omega arith

pub overflow_add-self : goal.overflow_add-self
overflow_add-self c =
    let r = c.requires in
    let few = few_periods c.args.self.now r.0 r.1.1 in
    let most = bit_le c.args.begins in
    let from : c.from.result ≡ bit c.args.begins = c.from.ensures ∙ byte_is c.args.begins in
    omega (arith, few, most, from)

pub returns-clause-number : goal.returns-clause-number
returns-clause-number c = λ decoded one counts next is.
    let more : c.args.self.now.periods + c.from.result ≡ periods (pictures_in (one ∷ decoded)) =
    ap (λ (k : ℕ). c.args.self.now.periods + k) (c.from.ensures ∙ byte_is c.args.begins ∙ ap bit is) ∙ periods_next c.args.self.now decoded one counts in
    ap (λ (n : ℕ). n - 1) more

pub returns-clause-periods : goal.returns-clause-periods
returns-clause-periods c = λ decoded one counts next is.
    let from : c.from.result ≡ bit one.picture.begun.period = c.from.ensures ∙ byte_is c.args.begins ∙ ap bit is in
    let more : c.args.self.now.periods + c.from.result ≡ periods (pictures_in (one ∷ decoded)) =
    ap (λ (k : ℕ). c.args.self.now.periods + k) from ∙ periods_next c.args.self.now decoded one counts in
    let P : ℕ → Type 0 = λ k. 1 ≤ c.args.self.now.periods + k in
    let some : 1 ≤ c.args.self.now.periods + c.from.result = subst P (sym from) (some_periods c.args.self.now decoded one counts next) in
    let room = (joins_decoded decoded one next).few in
    let same = length_pictures decoded in
    record { periods = more; few = omega arith; some = λ _. some }
