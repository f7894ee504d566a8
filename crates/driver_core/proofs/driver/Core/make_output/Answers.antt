use Rattle.std.proofs.Common.{◌≡◌, inl, inr, ◌||◌, true, false, length, replicate, Some, Ok, Err, refl, sym, ap, ◌∙◌, arith}
use Rattle.vd_status.specs.declared.refusal.Refusal.TheVariants.{HandlesFull}
use Rattle.driver_model.specs.Creates.{handles_full, is_full, live_objects, new_output, output_create}
use Rattle.driver_model.specs.Refusals.{refused_if, ◌>>◌}
use Rattle.driver_model.specs.Sizes.{is_rgba_format, pixel_bytes}
use Rattle.driver_model.specs.declared.numbers.TheConstants as number
use Rattle.driver_core.proofs.Asking.{output_room}
use Rattle.driver_core.proofs.Creating.{created}
use Rattle.driver_core.proofs.Holders.{holders_full}
use Rattle.driver_core.proofs.Live.{live_all}
use Rattle.driver_core.proofs.Steps.{refusing}
use Rattle.driver_core.proofs.driver.Core.make_output.Goals as goal

pub returns-in_default : goal.returns-in_default
returns-in_default c d caller stands =
    let a = c.args in
    let on = c.in_ok-on.ensures.finds d stands in
    let is : is_rgba_format a.format ≡ true = grind (arith, c.is_rgba_format.ensures, c.if-not-is_rgba_format.false) in
    let full = holders_full a.self.now (rw c.kept.ensures at c.in_default.ensures.none) d stands in
    let both : (is_full d || false) ≡ true = grind (arith, full) in
    let looks : output_create d a.device a.format a.width a.height ≡ Err (handles_full d) =
    output_room d a.device a.width a.height on.0 on.1 c.in_ok-on.on on.2 c.in_ok-size.size (sym c.in_ok-size.ensures.exact) a.format is ∙ ap (λ b. refused_if b (handles_full d) >> Ok c.in_ok-on.on) both in
    let live : c.live.result ≡ live_objects d = c.live.ensures ∙ live_all a.self.now d stands in
    let given : c.made.result ≡ length d.objects = c.made.ensures ∙ stands.made in
    record { after = d; step = inr (refusing _ _ (output_create d a.device a.format a.width a.height) (handles_full d) looks (λ i. Err (HandlesFull (live i) (given i)), refl)); stands = stands }

pub returns : goal.returns
returns c d caller stands =
    let a = c.args in
    let on = c.in_ok-on.ensures.finds d stands in
    let is : is_rgba_format a.format ≡ true = grind (arith, c.is_rgba_format.ensures, c.if-not-is_rgba_format.false) in
    let looks = output_room d a.device a.width a.height on.0 on.1 c.in_ok-on.on on.2 c.in_ok-size.size (sym c.in_ok-size.ensures.exact) a.format is in
    let sides = c.in_ok-size.ensures.sides in
    let items = c.in-Ok.ensures.items_if_clones_equal (λ y is. is) ∙ ap (λ n. replicate n 0) (c.pixel_bytes.ensures ∙ ap pixel_bytes sides) in
    let so = created a.self.now c.add.new.self d stands number.OUTPUT_SURFACE (Some c.in_ok-on.on) _ (new_output a.format a.width a.height) refl refl (refl, sides, refl, λ _. items)
    (output_create d a.device a.format a.width a.height) false (λ what. what ≡ new_output a.format a.width a.height) refl looks refl c.add.result c.add.ensures.ok c.add.ensures.full c.add.ensures.err in
    record { after = so.new; step = elim so.does [ inl memory ↦ inl (refl, memory) | inr does ↦ inr does ]; stands = so.stands }
