use Rattle.std.proofs.Common.{◌≡◌, inl, inr, ◌==◌, ◌||◌, true, false, length, None, Ok, Err, refl, sym, ap, ◌∙◌, arith}
use Rattle.std.specs.Option.{is_some}
use Rattle.std.proofs.lemmas.Bool.Decides.{nat_tests}
use Rattle.vd_status.specs.declared.refusal.Refusal.TheVariants.{HandlesFull}
use Rattle.driver_model.specs.Creates.{device_create, handles_full, is_full, live_devices, live_objects, new_device}
use Rattle.driver_model.specs.Objects as model
use Rattle.driver_model.specs.Refusals.{refused_if, ◌>>◌}
use Rattle.driver_model.specs.declared.numbers.TheConstants as number
use Rattle.driver_objects.specs.Kinds.{is_device}
use Rattle.driver_objects.specs.declared.content.Content.TheVariants as content
use Rattle.driver_core.proofs.Creating.{created}
use Rattle.driver_core.proofs.Live.{devices_agree, live_all, live_counted}
use Rattle.driver_core.proofs.Steps.{refusing}
use Rattle.driver_core.proofs.driver.Core.device_create.Goals as goal

pub returns-then-count_devices : goal.returns-then-count_devices
returns-then-count_devices c d caller stands =
    let core = c.args.self.now in
    let devices : live_devices d ≡ 16 = sym (live_counted core d stands (λ what. is_some (model.as_device what)) is_device devices_agree) ∙ (sym (rw c.kept.ensures at c.count_devices.ensures) ∙ c.if-count_devices.true) in
    let full : (is_full d || live_devices d == number.MAX_DEVICES) ≡ true = grind (arith, nat_tests, devices) in
    let looks : device_create d ≡ Err (handles_full d) = ap (λ b. refused_if b (handles_full d) >> Ok (length d.objects)) full in
    let live : c.live.result ≡ live_objects d = c.live.ensures ∙ live_all core d stands in
    let given : c.made.result ≡ length d.objects = c.made.ensures ∙ stands.made in
    record { after = d; step = inr (refusing _ _ (device_create d) (handles_full d) looks (λ i. Err (HandlesFull (live i) (given i)), refl)); stands = stands }

pub returns : goal.returns
returns c d caller stands =
    let core = c.args.self.now in
    let devices : live_devices d ≡ c.count_devices.result = sym (live_counted core d stands (λ what. is_some (model.as_device what)) is_device devices_agree) ∙ sym (rw c.kept.ensures at c.count_devices.ensures) in
    let few : (live_devices d == number.MAX_DEVICES) ≡ false = grind (arith, nat_tests, devices, c.if-count_devices.false) in
    let so = created core c.add.new.self d stands number.DEVICE None (content.Device (record { time = 0; is_preempted = false })) new_device refl refl (refl, refl)
    (device_create d) (live_devices d == number.MAX_DEVICES) (λ what. what ≡ new_device) refl refl few c.add.result c.add.ensures.ok c.add.ensures.full c.add.ensures.err in
    record { after = so.new; step = elim so.does [ inl memory ↦ inl (refl, memory) | inr does ↦ inr does ]; stands = so.stands }
