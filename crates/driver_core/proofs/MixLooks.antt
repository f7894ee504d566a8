-- What the looks of a mix come to.
use Rattle.std.proofs.Common.{◌≡◌, ℕ, ◌==◌, ◌&&◌, Bool, true, List, slice_get, Some, Ok, Err, refl, sym, ap, ◌∙◌, subst, arith}
use Rattle.std.proofs.lemmas.Bool.Decides.{nat_tests}
use Rattle.cb_types.specs.declared.size.SizeMbs.{SizeMbs}
use Rattle.present_queue.specs.Queue.{Queue}
use Rattle.present_queue.specs.Queues.{Surface}
use Rattle.vd_status.specs.declared.refusal.Refusal.{Refusal}
use Rattle.driver_model.specs.Mixes.{mix}
use Rattle.driver_model.specs.Objects as model
use Rattle.driver_model.specs.Refusals.{first_handle, further_handle}
use Rattle.driver_model.specs.Sizes.{is_same_size}
use Rattle.driver_model.specs.States.{Found, State, named}
use Rattle.driver_model.specs.declared.numbers.TheConstants as number
use Rattle.driver_model.proofs.Named.{found_of}
use Rattle.driver_objects.specs.Contents.{HasContent}
use Rattle.driver_objects.specs.Kept.{kept_of}
use Rattle.driver_objects.specs.declared.content.Content.{Content}
use Rattle.driver_objects.specs.declared.content.Content.TheVariants as content
use Rattle.driver_objects.specs.declared.content.VideoMixer.{VideoMixer}
use Rattle.driver_objects.specs.declared.object.Object.{Object}
use Rattle.driver_objects.proofs.Lists.{one_kept}
use Rattle.driver_core.specs.Found.{FindsAt}
use Rattle.driver_core.specs.Looked.{IsFurther}
use Rattle.driver_core.specs.MixStarts.{AreNamed, AreOneSize, IsNamed, IsThere, RefusesMix}
use Rattle.driver_core.specs.Stands.{IsContent, Stands, is_owed}
use Rattle.driver_core.specs.declared.driver.Core.{Core}
use Rattle.driver_core.specs.declared.mixes.Mixing.{Mixing}
use Rattle.driver_core.proofs.Handles.{further_err, further_ok}
use Rattle.driver_core.proofs.ModelKinds.{output_is, output_kind, output_other, video_is, video_kind, video_other}
use Rattle.driver_core.proofs.Targets.{kept_output, kept_video}

-- ---- the looks of the model

module _ (d : State) (handle structure surface onto : ℕ) (mixer : Found model.VideoMixer) (of_mixer : first_handle d (named d model.as_mixer handle) ≡ Ok mixer) where
  mix_of_no_video : (refusal : Refusal) → further_handle 1 mixer.device (named d model.as_video surface) ≡ Err refusal → mix d handle structure surface onto ≡ Err refusal
  mix_of_no_video refusal none = simp (of_mixer, none) refl

  module _ (video : Found model.VideoSurface) (of_video : further_handle 1 mixer.device (named d model.as_video surface) ≡ Ok video) where
    mix_of_no_output : (refusal : Refusal) → further_handle 2 mixer.device (named d model.as_output onto) ≡ Err refusal → mix d handle structure surface onto ≡ Err refusal
    mix_of_no_output refusal none = simp (of_mixer, of_video, none) refl

    pub mix_found : (output : Found model.OutputSurface) → further_handle 2 mixer.device (named d model.as_output onto) ≡ Ok output
        → (structure == number.FRAME) ≡ true → (is_same_size mixer.value.size video.value.size && is_same_size mixer.value.size output.value.size) ≡ true
        → mix d handle structure surface onto ≡ Ok (record { mixer = mixer; video = video; output = output })
    mix_found output of_output frame one = simp (of_mixer, of_video, of_output, frame, one) refl

-- ---- what is kept

-- what stands there stands for it
pub there_is : (core : Core) (d : State) (index place : ℕ) (what : model.Content) (kept : Content) → IsThere core d index place what → HasContent (kept_of core.objects) index kept
    → IsContent core.queues (is_owed d place) what kept
there_is core d index place what kept is has =
    let same : is.object ≡ has.object = one_kept (kept_of core.objects) index is.object has.object is.there has.there in
    subst (IsContent core.queues (is_owed d place) what) (ap (λ (o : Object). o.content) same ∙ has.has) is.is

kept_mixer : (queues : List (Queue Surface)) (owed : Bool) (mixer : model.VideoMixer) (kept : Content) → IsContent queues owed (model.MixerObject mixer) kept → (of : VideoMixer) × (kept ≡ content.Mixer of) × (of.size ≡ mixer.size)
kept_mixer queues owed mixer (content.Device kept) is = elim is [ ]
kept_mixer queues owed mixer (content.Video kept) is = elim is [ ]
kept_mixer queues owed mixer (content.Output kept) is = elim is [ ]
kept_mixer queues owed mixer (content.Decoder kept) is = elim is [ ]
kept_mixer queues owed mixer (content.Mixer kept) is = (kept, refl, is.0)
kept_mixer queues owed mixer (content.Queue kept) is = elim is [ ]

pub one_size : (mixer video output : SizeMbs) → (is_same_size mixer video && is_same_size mixer output) ≡ true → video ≡ output
one_size mixer video output same =
    let width : video.width ≡ output.width = grind (arith, nat_tests, same) in
    let height : video.height ≡ output.height = grind (arith, nat_tests, same) in
    λ i. record { width = width i; height = height i }

-- the sizes in the state are those that are kept
pub sizes_there : (core : Core) (handle surface onto : ℕ) (at : Mixing) (d : State) (is : IsNamed core handle surface onto at d) → AreOneSize (kept_of core.objects) at
    → (is_same_size is.on.mixer.value.size is.on.video.value.size && is_same_size is.on.mixer.value.size is.on.output.value.size) ≡ true
sizes_there core handle surface onto at d is one =
    let mixer = kept_mixer core.queues (is_owed d is.on.mixer.place) is.on.mixer.value is.mixer.object.content is.mixer.is in
    let video = kept_video core.queues (is_owed d is.on.video.place) is.on.video.value is.video.object.content is.video.is in
    let output = kept_output core.queues (is_owed d is.on.output.place) is.on.output.value is.output.object.content is.output.is in
    let same = one mixer.0 video.0 output.0 (record { object = is.mixer.object; there = is.mixer.there; has = mixer.1 }) (record { object = is.video.object; there = is.video.there; has = video.1 })
    (record { object = is.output.object; there = is.output.there; has = output.1 }) in
    (λ i. is_same_size (sym mixer.2 i) (sym video.2 i) && is_same_size (sym mixer.2 i) (sym output.2.1 i)) ∙ same

-- ---- the handles

module _ (core : Core) (handle surface onto of : ℕ) (finds : FindsAt model.as_mixer (λ value. model.MixerObject value) core 0 handle of) (on : Object) (there : slice_get (kept_of core.objects) of ≡ Some on) where
  record IsMixerFound (d : State) : Type 0 where
    mixer : Found model.VideoMixer
    looks : first_handle d (named d model.as_mixer handle) ≡ Ok mixer
    device : mixer.device ≡ on.device
    is : IsThere core d of mixer.place (model.MixerObject mixer.value)

  mixer_found : (d : State) → Stands core d → IsMixerFound d
  mixer_found d stands =
      let f = finds on.content (record { object = on; there = there; has = refl }) d stands in
      record {
        mixer = found_of f.object.place f.object.device f.value;
        looks = f.looks;
        device = ap (λ (o : Object). o.device) (one_kept (kept_of core.objects) of f.object on f.there there);
        is = record { object = f.object; there = f.there; at_place = refl; is = subst (IsContent core.queues (is_owed d f.object.place) (model.MixerObject f.value)) (sym f.has) f.is };
      }

  record IsFromFound (from : ℕ) (d : State) : Type 0 where
    video : Found model.VideoSurface
    looks : further_handle 1 on.device (named d model.as_video surface) ≡ Ok video
    is : IsThere core d from video.place (model.VideoObject video.value)

  from_found : (from : ℕ) → IsFurther (kept_of core.objects) 1 number.VIDEO_SURFACE surface on.device (Ok from) → (d : State) → Stands core d → IsFromFound from d
  from_found from is d stands =
      let o = is.0.0.object in
      let f = further_ok model.as_video (λ value. model.VideoObject value) number.VIDEO_SURFACE video_kind video_other video_is core 1 surface on.device from o.content is (record { object = o; there = is.0.0.stands; has = refl }) d stands in
      record {
        video = found_of f.object.place f.object.device f.value;
        looks = f.looks;
        is = record { object = f.object; there = f.there; at_place = refl; is = subst (IsContent core.queues (is_owed d f.object.place) (model.VideoObject f.value)) (sym f.has) f.is };
      }

  record IsOntoFound (to : ℕ) (d : State) : Type 0 where
    output : Found model.OutputSurface
    looks : further_handle 2 on.device (named d model.as_output onto) ≡ Ok output
    is : IsThere core d to output.place (model.OutputObject output.value)

  onto_found : (to : ℕ) → IsFurther (kept_of core.objects) 2 number.OUTPUT_SURFACE onto on.device (Ok to) → (d : State) → Stands core d → IsOntoFound to d
  onto_found to is d stands =
      let o = is.0.0.object in
      let f = further_ok model.as_output (λ value. model.OutputObject value) number.OUTPUT_SURFACE output_kind output_other output_is core 2 onto on.device to o.content is (record { object = o; there = is.0.0.stands; has = refl }) d stands in
      record {
        output = found_of f.object.place f.object.device f.value;
        looks = f.looks;
        is = record { object = f.object; there = f.there; at_place = refl; is = subst (IsContent core.queues (is_owed d f.object.place) (model.OutputObject f.value)) (sym f.has) f.is };
      }

  pub video_refused : (refusal : Refusal) → IsFurther (kept_of core.objects) 1 number.VIDEO_SURFACE surface on.device (Err refusal) → (structure : ℕ) → RefusesMix core handle structure surface onto refusal
  video_refused refusal is structure d stands =
      let m = mixer_found d stands in
      let none = further_err model.as_video (λ value. model.VideoObject value) number.VIDEO_SURFACE video_kind video_other video_is core 1 surface on.device refusal is d stands in
      mix_of_no_video d handle structure surface onto m.mixer m.looks refusal (ap (λ device. further_handle 1 device (named d model.as_video surface)) m.device ∙ none)

  pub output_refused : (from : ℕ) → IsFurther (kept_of core.objects) 1 number.VIDEO_SURFACE surface on.device (Ok from)
      → (refusal : Refusal) → IsFurther (kept_of core.objects) 2 number.OUTPUT_SURFACE onto on.device (Err refusal) → (structure : ℕ) → RefusesMix core handle structure surface onto refusal
  output_refused from video refusal is structure d stands =
      let m = mixer_found d stands in
      let v = from_found from video d stands in
      let none = further_err model.as_output (λ value. model.OutputObject value) number.OUTPUT_SURFACE output_kind output_other output_is core 2 onto on.device refusal is d stands in
      mix_of_no_output d handle structure surface onto m.mixer m.looks v.video (ap (λ device. further_handle 1 device (named d model.as_video surface)) m.device ∙ v.looks) refusal
      (ap (λ device. further_handle 2 device (named d model.as_output onto)) m.device ∙ none)

  pub all_named : (from to : ℕ) → IsFurther (kept_of core.objects) 1 number.VIDEO_SURFACE surface on.device (Ok from) → IsFurther (kept_of core.objects) 2 number.OUTPUT_SURFACE onto on.device (Ok to)
      → AreNamed core handle surface onto (record { mixer = of; video = from; output = to })
  all_named from to video output d stands =
      let m = mixer_found d stands in
      let v = from_found from video d stands in
      let o = onto_found to output d stands in
      record {
        on = record { mixer = m.mixer; video = v.video; output = o.output };
        of_mixer = m.looks;
        of_video = ap (λ device. further_handle 1 device (named d model.as_video surface)) m.device ∙ v.looks;
        of_output = ap (λ device. further_handle 2 device (named d model.as_output onto)) m.device ∙ o.looks;
        mixer = m.is;
        video = v.is;
        output = o.is;
      }
