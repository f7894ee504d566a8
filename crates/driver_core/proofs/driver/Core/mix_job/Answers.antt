use Rattle.std.proofs.Common.{◌≡◌, ◌<◌, length, replicate, slice_get, Some, sym, ap, ◌∙◌, subst, arith}
use Rattle.std.proofs.lemmas.Bool.Decides.{nat_tests}
use Rattle.std.proofs.lemmas.Option.{slice_get_within}
use Rattle.vd_plane.specs.Picture.{HasSize}
use Rattle.driver_model.specs.States.{free_number, with_content, with_note}
use Rattle.decoder_render.specs.declared.outcome.Outcome.TheVariants as outcome
use Rattle.driver_objects.specs.Contents.{HasContent}
use Rattle.driver_objects.specs.Kept.{kept_of}
use Rattle.driver_objects.specs.declared.content.Content.TheVariants as content
use Rattle.driver_objects.specs.declared.object.Object.{Object}
use Rattle.driver_objects.specs.declared.objects.Objects.{Objects}
use Rattle.driver_objects.proofs.Alike.{alike_at, alike_within}
use Rattle.driver_core.specs.Jobs.{HasBytesThere}
use Rattle.driver_core.specs.Stands.{Stands}
use Rattle.driver_core.proofs.Bits.{is_video_of}
use Rattle.driver_core.proofs.MixLooks.{one_size}
use Rattle.driver_core.proofs.NotedStands.{numbers_same}
use Rattle.driver_core.proofs.driver.Core.mix_job.Goals as goal

pub pixel_bytes-requires : goal.pixel_bytes-requires
pixel_bytes-requires c = let has = c.output_at-output.ensures in (c.args.self.now.sound.outputs c.args.at.output has.object c.output_at-output.result.now has.there has.has).0

pub share_samples-requires : goal.share_samples-requires
share_samples-requires c =
    let live = c.requires.live.video in
    let v = is_video_of live.object.content live.of_kind in
    (v.0, subst (λ (objects : Objects). HasContent (kept_of objects) c.args.at.video (content.Video v.0)) (sym c.reserve_job.ensures.objects) (record { object = live.object; there = live.there; has = v.1 }))

pub note-number-requires-clause-there : goal.note-number-requires-clause-there
note-number-requires-clause-there c =
    let has = c.output_at-output.ensures in
    let within : c.args.at.output < length (kept_of c.reserve_job.new.self.objects) =
    subst (λ (objects : Objects). c.args.at.output < length (kept_of objects)) (sym c.reserve_job.ensures.objects) (slice_get_within (kept_of c.args.self.now.objects) c.args.at.output has.object has.there) in
    alike_within (kept_of c.reserve_job.new.self.objects) (kept_of c.share_samples.new.self.objects) (sym c.share_samples.ensures.shares.alike) c.args.at.output within

pub new-requires-clause-format : goal.new-requires-clause-format
new-requires-clause-format c =
    let has = c.output_at-output.ensures in
    let is = (c.args.self.now.sound.outputs c.args.at.output has.object c.output_at-output.result.now has.there has.has).2 in
    grind (arith, nat_tests, is)

pub new-requires-clause-size : goal.new-requires-clause-size
new-requires-clause-size c =
    let live = c.requires.live.video in
    let v = is_video_of live.object.content live.of_kind in
    let size = one_size c.mixer_at.result.size v.0.size c.output_at-output.result.now.size (c.requires.size c.mixer_at.result v.0 c.output_at-output.result.now c.mixer_at.ensures (record { object = live.object; there = live.there; has = v.1 }) c.output_at-output.ensures) in
    let fits = (c.args.self.now.sound.videos c.args.at.video live.object v.0 live.there v.1).1 in
    let mid = subst (λ (objects : Objects). HasContent (kept_of objects) c.args.at.video (content.Video v.0)) (sym c.reserve_job.ensures.objects) (record { object = live.object; there = live.there; has = v.1 }) in
    subst (HasSize _) size (subst (λ picture. HasSize picture v.0.size) (sym (c.in-Ok-share_samples.ensures.samples v.0 mid)) fits)

pub returns-clause-ok : goal.returns-clause-ok
returns-clause-ok c =
    let live = c.requires.live.video in
    let v = is_video_of live.object.content live.of_kind in
    let has : HasContent (kept_of c.args.self.now.objects) c.args.at.video (content.Video v.0) = record { object = live.object; there = live.there; has = v.1 } in
    let mid = subst (λ (objects : Objects). HasContent (kept_of objects) c.args.at.video (content.Video v.0)) (sym c.reserve_job.ensures.objects) has in
    let shares = c.share_samples.ensures.shares in
    record {
      mixer = c.mixer_at.result;
      video = v.0;
      output = c.output_at-output.result.now;
      has_mixer = c.mixer_at.ensures;
      has_video = has;
      has_output = c.output_at-output.ensures;
      size = c.new.ensures.size;
      picture = c.new.ensures.picture ∙ c.in-Ok-share_samples.ensures.samples v.0 mid;
      matrix = c.new.ensures.matrix;
      format = c.new.ensures.format;
      zeros = c.new.ensures.pixels ∙ (c.in-Ok.ensures.items_if_clones_equal (λ y is. is) ∙ ap (λ n. replicate n 0) c.pixel_bytes.ensures);
      numbered = λ d stands. c.new.ensures.number ∙ (c.note-number.ensures.numbered ∙ ap free_number (numbers_same c.share_samples.new.self d (shares.stands d (c.reserve_job.ensures.stands d stands))));
      stands = λ d caller object what stands there has_bytes.
          let there_mid = subst (λ (objects : Objects). slice_get (kept_of objects) c.args.at.output ≡ Some object) (sym c.reserve_job.ensures.objects) there in
          let b = alike_at (kept_of c.reserve_job.new.self.objects) (kept_of c.share_samples.new.self.objects) (sym shares.alike) c.args.at.output object there_mid in
          let place = ap (λ (o : Object). o.place) (sym b.2) in
          subst (λ p. Stands c.note-number.new.self (with_note (with_content d p what) caller p outcome.Ok)) place
          (c.note-number.ensures.bytes d caller b.0 what (shares.stands d (c.reserve_job.ensures.stands d stands)) b.1 (subst (λ p. HasBytesThere d p what) (sym place) has_bytes));
    }
