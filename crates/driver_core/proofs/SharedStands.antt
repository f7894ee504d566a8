-- A core whose samples come to have several owners stands for what it stood for.
use Rattle.std.proofs.Common.{◌≡◌, ℕ, zero, suc, Bool, List, [], ◌∷◌, slice_get, Some, refl, sym, ap, ◌∙◌, subst}
use Rattle.present_queue.specs.Queue.{Queue}
use Rattle.present_queue.specs.Queues.{Surface}
use Rattle.vd_plane.specs.Picture.{HasSize}
use Rattle.driver_model.specs.Kept.{live_queues_of}
use Rattle.driver_model.specs.Objects as model
use Rattle.driver_model.specs.States.{State, changed_at, with_content as with_model_content}
use Rattle.driver_objects.specs.Alike.{SharesAt}
use Rattle.driver_objects.specs.Kept.{IsGiven, kept_of, made_of}
use Rattle.driver_objects.specs.declared.content.Content.TheVariants as content
use Rattle.driver_objects.specs.declared.content.VideoSurface.{VideoSurface}
use Rattle.driver_objects.specs.declared.object.Object.{Object}
use Rattle.driver_core.specs.Roles.{SameRole}
use Rattle.driver_core.specs.Sound.{IsSound}
use Rattle.driver_core.specs.Stands.{IsContent, Stands, is_owed}
use Rattle.driver_core.specs.declared.driver.Core.{Core}
use Rattle.driver_objects.proofs.Lists.{element_is}
use Rattle.driver_core.proofs.ContentSound.{content_sound}
use Rattle.driver_core.proofs.ContentStands.{content_stands}
use Rattle.driver_core.proofs.Fitting.{video_fits}

-- what is kept of a video surface stands for one
pub video_of : (queues : List (Queue Surface)) (owed : Bool) (what : model.Content) (kept : VideoSurface) → IsContent queues owed what (content.Video kept)
    → (of : model.VideoSurface) × (what ≡ model.VideoObject of) × IsContent queues owed (model.VideoObject of) (content.Video kept)
video_of queues owed (model.DeviceObject of) kept is = elim is [ ]
video_of queues owed (model.VideoObject of) kept is = (of, refl, is)
video_of queues owed (model.OutputObject of) kept is = elim is [ ]
video_of queues owed (model.DecoderObject of) kept is = elim is [ ]
video_of queues owed (model.MixerObject of) kept is = elim is [ ]
video_of queues owed (model.QueueObject of) kept is = elim is [ ]

-- the object has the content that it had
pub changed_same : (change : model.Object → model.Object) (place : ℕ) (objects : List model.Object) (one : model.Object) → slice_get objects place ≡ Some one → change one ≡ one → changed_at place change objects ≡ objects
unfolding changed_at
changed_same change place [] one at same = refl
changed_same change zero (first ∷ later) one at same =
    let is = element_is first one at in
    ap (λ o. o ∷ later) (ap change is ∙ (same ∙ sym is))
changed_same change (suc place) (first ∷ later) one at same = ap (λ rest. first ∷ rest) (changed_same change place later one at same)

module _ (core : Core) (index : ℕ) where
  pub shared_sound : (new : List Object) → SharesAt (kept_of core.objects) new index → IsSound new (made_of core.objects) core.queues core.jobs.items
  shared_sound new s =
      let now : VideoSurface = record s.surface { samples = s.samples } in
      let role : SameRole s.object.content (content.Video now) = subst (λ was. SameRole was (content.Video now)) (sym s.has) (record { kind = refl; device = refl; holder = refl; number = refl }) in
      let fits = core.sound.videos index s.object s.surface s.there s.has in
      subst (λ kept. IsSound kept (made_of core.objects) core.queues core.jobs.items) (sym s.now)
      (content_sound (kept_of core.objects) (made_of core.objects) core.queues core.jobs.items core.sound index s.object (content.Video now) s.there role
      (video_fits now fits.0 (subst (λ p. HasSize p s.surface.size) (sym s.same) fits.1)))

  pub shared_stands : (after : Core) → SharesAt (kept_of core.objects) (kept_of after.objects) index → made_of after.objects ≡ made_of core.objects
      → ((names : List ℕ) → IsGiven core.objects names → IsGiven after.objects names) → after.queues ≡ core.queues → after.jobs ≡ core.jobs
      → (d : State) → Stands core d → Stands after d
  shared_stands after s made given queues jobs d stands =
      let k = stands.kept index s.object s.there in
      let has = subst (IsContent core.queues (is_owed d s.object.place) k.0.content) s.has k.3.content in
      let of = video_of core.queues (is_owed d s.object.place) k.0.content s.surface has in
      let now : VideoSurface = record s.surface { samples = s.samples } in
      let same : with_model_content d s.object.place (model.VideoObject of.0) ≡ d =
      ap (λ objects. record d { objects = objects }) (changed_same (λ o. record o { content = model.VideoObject of.0 }) s.object.place d.objects k.0 k.1 (ap (λ what. record k.0 { content = what }) (sym of.1))) in
      subst (Stands after) same
      (content_stands core d stands index s.object s.there (content.Video now) (model.VideoObject of.0) (λ dead. refl) (ap live_queues_of same) after s.now made given queues jobs (of.2.0, λ home. s.same ∙ of.2.1 home))
