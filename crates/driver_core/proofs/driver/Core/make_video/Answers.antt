use Rattle.std.proofs.Common.{◌≡◌, inl, inr, ◌==◌, true, false, Some, refl, sym, subst, arith}
use Rattle.std.proofs.lemmas.Bool.Decides.{nat_tests}
use Rattle.cb_types.specs.declared.size.SizeMbs.{SizeMbs}
use Rattle.vd_plane.specs.Picture.{IsZeros}
use Rattle.driver_model.specs.Creates.{IsNewVideo, video_create}
use Rattle.driver_model.specs.Objects as model
use Rattle.driver_model.specs.Sizes.{size_of_sides}
use Rattle.driver_model.specs.declared.numbers.TheConstants as number
use Rattle.driver_core.proofs.Asking.{video_room}
use Rattle.driver_core.proofs.Creating.{created}
use Rattle.driver_core.proofs.driver.Core.make_video.Goals as goal

pub returns : goal.returns
returns c d caller stands =
    let a = c.args in
    let on = c.in_ok-on.ensures.finds d stands in
    let is : (a.chroma == number.CHROMA_420) ≡ true = grind (arith, nat_tests) in
    let looks = video_room d a.device a.width a.height on.0 on.1 c.in_ok-on.on on.2 c.in_ok-size.size (sym c.in_ok-size.ensures.exact) a.chroma is in
    let sides = c.in_ok-size.ensures.sides in
    let so = created a.self.now c.add.new.self d stands number.VIDEO_SURFACE (Some c.in_ok-on.on) _ (model.VideoObject (record { size = size_of_sides a.width a.height; picture = c.in-Ok.picture })) refl refl (sides, λ _. refl)
    (video_create d a.device a.chroma a.width a.height) false (IsNewVideo a.width a.height) (c.in-Ok.picture, subst (λ (size : SizeMbs). IsZeros c.in-Ok.picture size.width size.height) sides c.in-Ok.ensures.zeros, refl) looks refl c.add.result c.add.ensures.ok c.add.ensures.full c.add.ensures.err in
    record { after = so.new; step = elim so.does [ inl memory ↦ inl (refl, memory) | inr does ↦ inr does ]; stands = so.stands }
