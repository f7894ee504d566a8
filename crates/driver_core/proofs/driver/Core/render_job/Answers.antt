use Rattle.std.proofs.Common.{◌≡◌, ◌<◌, length, slice_get, Some, sym, ap, ◌∙◌, subst}
use Rattle.std.proofs.lemmas.List.{length-map}
use Rattle.std.proofs.lemmas.Option.{slice_get_within}
use Rattle.recon.specs.References.{pictures_of}
use Rattle.decoder_render.specs.Submission.{ArePayloads}
use Rattle.decoder_render.specs.declared.outcome.Outcome.TheVariants as outcome
use Rattle.vd_plane.specs.Picture.{IsZeros}
use Rattle.driver_model.specs.States.{free_number, with_content, with_note}
use Rattle.driver_objects.specs.Contents.{HasVideo}
use Rattle.driver_objects.specs.Kept.{kept_of}
use Rattle.driver_objects.specs.declared.object.Object.{Object}
use Rattle.driver_objects.specs.declared.objects.Objects.{Objects}
use Rattle.driver_objects.proofs.Alike.{alike_at, alike_within}
use Rattle.driver_core.specs.Jobs.{HasPictureThere}
use Rattle.driver_core.specs.RenderStarts.{AreLent}
use Rattle.driver_core.specs.Stands.{Stands}
use Rattle.driver_core.proofs.NotedStands.{numbers_same}
use Rattle.driver_core.proofs.driver.Core.render_job.Goals as goal

pub share_references-requires : goal.share_references-requires
share_references-requires c = λ place index within is.
    subst (λ (objects : Objects). HasVideo (kept_of objects) index) (sym c.reserve_job.ensures.objects) (c.requires.videos.references place index within is)

pub note-number-requires-clause-there : goal.note-number-requires-clause-there
note-number-requires-clause-there c =
    let target = c.args.on.now.target in
    let has = c.requires.videos.target.1 in
    let within : target < length (kept_of c.reserve_job.new.self.objects) =
    subst (λ (objects : Objects). target < length (kept_of objects)) (sym c.reserve_job.ensures.objects) (slice_get_within (kept_of c.args.self.now.objects) target has.object has.there) in
    alike_within (kept_of c.reserve_job.new.self.objects) (kept_of c.share_references.new.self.objects) (sym c.share_references.ensures.shares.alike) target within

pub returns-clause-ok : goal.returns-clause-ok
returns-clause-ok c =
    let target = c.args.on.now.target in
    let shares = c.share_references.ensures.shares in
    -- the target, behind the sharing
    let later : (object : Object) → slice_get (kept_of c.args.self.now.objects) target ≡ Some object
    → (b : Object) × (slice_get (kept_of c.share_references.new.self.objects) target ≡ Some b) × (b.place ≡ object.place) =
    λ object there.
    let mid = subst (λ (objects : Objects). slice_get (kept_of objects) target ≡ Some object) (sym c.reserve_job.ensures.objects) there in
    let b = alike_at (kept_of c.reserve_job.new.self.objects) (kept_of c.share_references.new.self.objects) (sym shares.alike) target object mid in
    (b.0, b.1, ap (λ (o : Object). o.place) (sym b.2)) in
    record {
      pictures = pictures_of c.in-Ok-share_references.refs;
      count = length-map c.in-Ok-share_references.refs.pictures _ ∙ c.in-Ok-share_references.ensures.count;
      lent = subst (λ (objects : Objects). AreLent (kept_of objects) c.args.on.now.references (pictures_of c.in-Ok-share_references.refs)) c.reserve_job.ensures.objects c.in-Ok-share_references.ensures.lent;
      given = c.new-2.ensures.given;
      units = subst (ArePayloads c.args.bytes.now) (sym c.new-2.ensures.payloads) c.in-Ok.ensures.units;
      zeros = subst (λ p. IsZeros p c.args.on.now.decoder.size.width c.args.on.now.decoder.size.height) (sym c.new-2.ensures.picture) c.in-Ok.ensures.picture;
      numbered = λ d stands. c.new-2.ensures.number ∙ (c.note-number.ensures.numbered ∙ ap free_number (numbers_same c.share_references.new.self d (shares.stands d (c.reserve_job.ensures.stands d stands))));
      picture = λ d caller object what stands there has.
          let b = later object there in
          subst (λ p. Stands c.note-number.new.self (with_note (with_content d p what) caller p outcome.Ok)) b.2
          (c.note-number.ensures.picture d caller b.0 what (shares.stands d (c.reserve_job.ensures.stands d stands)) b.1 (subst (λ p. HasPictureThere d p what) (sym b.2) has));
      nothing = λ d caller object comes_to stands there.
          let b = later object there in
          subst (λ p. Stands c.note-number.new.self (with_note d caller p comes_to)) b.2 (c.note-number.ensures.nothing d caller b.0 comes_to (shares.stands d (c.reserve_job.ensures.stands d stands)) b.1);
    }
