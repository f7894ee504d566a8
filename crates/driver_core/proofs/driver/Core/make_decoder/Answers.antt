use Rattle.std.proofs.Common.{◌≡◌, inl, inr, nat_lt, true, false, Some, refl, sym, arith}
use Rattle.std.proofs.lemmas.Bool.Decides.{nat_tests}
use Rattle.driver_model.specs.Creates.{decoder_create, new_decoder}
use Rattle.driver_model.specs.Sizes.{is_profile}
use Rattle.driver_model.specs.declared.numbers.TheConstants as number
use Rattle.driver_core.proofs.Asking.{decoder_room}
use Rattle.driver_core.proofs.Creating.{created}
use Rattle.driver_core.proofs.driver.Core.make_decoder.Goals as goal

pub returns : goal.returns
returns c d caller stands =
    let a = c.args in
    let on = c.in_ok-on.ensures.finds d stands in
    let is : is_profile a.profile ≡ true = grind (arith, c.is_profile.ensures, c.if-not-is_profile.false) in
    let few : nat_lt number.MAX_REFERENCES a.max_references ≡ false = grind (arith, nat_tests, c.if-max_references-gt-MAX_REFERENCES.false) in
    let looks = decoder_room d a.device a.width a.height on.0 on.1 c.in_ok-on.on on.2 c.in_ok-size.size (sym c.in_ok-size.ensures.exact) a.profile a.max_references is few in
    let so = created a.self.now c.add.new.self d stands number.DECODER (Some c.in_ok-on.on) _ (new_decoder a.profile a.width a.height a.max_references) refl refl (refl, c.in_ok-size.ensures.sides, refl)
    (decoder_create d a.device a.profile a.width a.height a.max_references) false (λ what. what ≡ new_decoder a.profile a.width a.height a.max_references) refl looks refl c.add.result c.add.ensures.ok c.add.ensures.full c.add.ensures.err in
    record { after = so.new; step = elim so.does [ inl memory ↦ inl (refl, memory) | inr does ↦ inr does ]; stands = so.stands }
