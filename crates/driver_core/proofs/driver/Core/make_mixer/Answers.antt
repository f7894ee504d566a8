use Rattle.std.proofs.Common.{◌≡◌, inl, inr, false, Some, refl, sym}
use Rattle.driver_model.specs.Creates.{mixer_create, new_mixer}
use Rattle.driver_model.specs.declared.numbers.TheConstants as number
use Rattle.driver_core.proofs.Asking.{mixer_room}
use Rattle.driver_core.proofs.Creating.{created}
use Rattle.driver_core.proofs.driver.Core.make_mixer.Goals as goal

pub returns : goal.returns
returns c d caller stands =
    let a = c.args in
    let on = c.in_ok-on.ensures.finds d stands in
    let looks = mixer_room d a.device a.width a.height on.0 on.1 c.in_ok-on.on on.2 c.in_ok-size.size (sym c.in_ok-size.ensures.exact) in
    let so = created a.self.now c.add.new.self d stands number.VIDEO_MIXER (Some c.in_ok-on.on) _ (new_mixer a.width a.height) refl refl (c.in_ok-size.ensures.sides, refl)
    (mixer_create d a.device a.width a.height) false (λ what. what ≡ new_mixer a.width a.height) refl looks refl c.add.result c.add.ensures.ok c.add.ensures.full c.add.ensures.err in
    record { after = so.new; step = elim so.does [ inl memory ↦ inl (refl, memory) | inr does ↦ inr does ]; stands = so.stands }
