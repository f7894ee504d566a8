use Rattle.std.proofs.Common.{◌≡◌, inr, false, length, refl, sym, ◌∙◌, subst, arith}
use Rattle.vd_plane.specs.Picture.{SameSize}
use Rattle.vd_plane.specs.declared.picture.Picture.{Picture}
use Rattle.driver_model.specs.Objects as model
use Rattle.driver_model.specs.States.{is_out}
use Rattle.driver_objects.specs.Stored.{value_of}
use Rattle.driver_core.proofs.Bits.{bits_wait, found_bits}
use Rattle.driver_core.proofs.Fitting.{video_fits}
use Rattle.driver_core.proofs.Out.{not_out_not_owed}
use Rattle.driver_core.proofs.SamePictures.{keeps_size, same_bytes, same_size}
use Rattle.driver_core.proofs.Steps.{finding, same_queues}
use Rattle.driver_core.proofs.driver.Core.video_put_bits.Goals as goal

pub returns-then-is_out : goal.returns-then-is_out
returns-then-is_out c d caller stands =
    let a = c.args in
    let e = c.in-Ok.ensures in
    (bits_wait a.self.now a.surface a.format (length a.bytes.now) c.in-Ok.index e.live e.finds e.format e.count c.object.result.now c.object.ensures d stands (sym (c.is_out.ensures d stands) ∙ c.if-is_out.true), stands)

pub of_size-requires : goal.of_size-requires
of_size-requires c =
    let has = c.video_at.ensures in
    (c.args.self.now.sound.videos c.in-Ok.index has.object c.video_at.result.now has.there has.has).0

pub put-requires-clause-count : goal.put-requires-clause-count
put-requires-clause-count c =
    let what = c.video_at.result.now in
    let has = c.video_at.ensures in
    let size = c.args.self.now.sound.videos c.in-Ok.index has.object what has.there has.has in
    c.in-Ok.ensures.count what has ∙ same_bytes (value_of what.samples) c.in-Ok-of_size.picture what.size size.1 c.in-Ok-of_size.ensures.size

pub write-requires : goal.write-requires
write-requires c =
    let what = c.video_at.result.now in
    let has = c.video_at.ensures in
    let size = c.args.self.now.sound.videos c.in-Ok.index has.object what has.there has.has in
    (_, has, record { kind = refl; device = refl; holder = refl; number = refl }, video_fits _ size.0 (keeps_size c.in-Ok-of_size.picture c.put.new.picture what.size c.in-Ok-of_size.ensures.size c.put.ensures.size))

pub returns-in-Ok-of_size : goal.returns-in-Ok-of_size
returns-in-Ok-of_size c d caller stands =
    let a = c.args in
    let e = c.in-Ok.ensures in
    let what = c.video_at.result.now in
    let has = c.video_at.ensures in
    let object = c.object.result.now in
    let found = found_bits a.self.now a.surface a.format (length a.bytes.now) c.in-Ok.index e.live e.finds e.format e.count object c.object.ensures d stands what has in
    let home : is_out d object.place ≡ false = sym (c.is_out.ensures d stands) ∙ c.if-is_out.false in
    let size = a.self.now.sound.videos c.in-Ok.index has.object what has.there has.has in
    let of_size = keeps_size c.in-Ok-of_size.picture c.put.new.picture what.size c.in-Ok-of_size.ensures.size c.put.ensures.size in
    let same : SameSize found.value.picture c.put.new.picture =
    subst (λ (p : Picture). SameSize p c.put.new.picture) (found.is_content.1 (not_out_not_owed d object.place home)) (same_size (value_of what.samples) c.put.new.picture what.size size.1 of_size) in
    let content = model.VideoObject (record found.value { picture = c.put.new.picture }) in
    let queues = same_queues a.self.now d stands c.in-Ok.index object content c.object.ensures (λ q. let k = found.kind in absurd (omega (arith, k, q))) refl in
    record {
      after = _;
      step = inr (finding _ _ _ _ found.looks (home, (c.put.new.picture, same, c.put.ensures.bytes, (refl, refl))));
      stands = c.write.ensures d object content stands c.object.ensures queues (found.is_content.0, λ _. refl);
    }
