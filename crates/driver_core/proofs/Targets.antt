-- What jobs write, and whether what they give fits.
use Rattle.std.proofs.Common.{◌≡◌, ℕ, ◌==◌, ◌&&◌, not, Bool, false, List, slice_get, Some, option_and_then, option_map, refl, sym, ap, ◌∙◌, arith}
use Rattle.std.proofs.lemmas.Bool.Decides.{nat_tests}
use Rattle.cb_types.specs.declared.size.SizeMbs.{SizeMbs}
use Rattle.driver_model.specs.Objects as model
use Rattle.driver_model.specs.States.{State, content_at}
use Rattle.present_queue.specs.Queue.{Queue}
use Rattle.present_queue.specs.Queues.{Surface}
use Rattle.driver_objects.specs.Contents.{flip_of}
use Rattle.driver_objects.specs.Stored.{value_of}
use Rattle.driver_objects.specs.declared.content.Content.{Content}
use Rattle.driver_objects.specs.declared.content.Content.TheVariants as content
use Rattle.driver_objects.specs.declared.content.OutputSurface.{OutputSurface}
use Rattle.driver_objects.specs.declared.content.VideoSurface.{VideoSurface}
use Rattle.driver_core.specs.Stands.{IsContent}
use Rattle.driver_core.proofs.ModelKinds.{output_is, video_is}

module _ (d : State) (place : ℕ) (one : model.Object) (there : slice_get d.objects place ≡ Some one) where
  -- the object at a place of which such content is known has it
  pub has_video : (surface : model.VideoSurface) → content_at d model.as_video place ≡ Some surface → one.content ≡ model.VideoObject surface
  has_video surface is = video_is one.content surface (sym (ap (option_and_then (λ (o : model.Object). model.as_video o.content)) there) ∙ is)

  pub has_output : (surface : model.OutputSurface) → content_at d model.as_output place ≡ Some surface → one.content ≡ model.OutputObject surface
  has_output surface is = output_is one.content surface (sym (ap (option_and_then (λ (o : model.Object). model.as_output o.content)) there) ∙ is)

module _ (queues : List (Queue Surface)) (owed : Bool) where
  -- what is kept of a surface is one
  pub kept_video : (surface : model.VideoSurface) (kept : Content) → IsContent queues owed (model.VideoObject surface) kept → (of : VideoSurface) × (kept ≡ content.Video of) × (of.size ≡ surface.size)
  kept_video surface (content.Device kept) is = elim is [ ]
  kept_video surface (content.Video kept) is = (kept, refl, is.0)
  kept_video surface (content.Output kept) is = elim is [ ]
  kept_video surface (content.Decoder kept) is = elim is [ ]
  kept_video surface (content.Mixer kept) is = elim is [ ]
  kept_video surface (content.Queue kept) is = elim is [ ]

  pub kept_output : (surface : model.OutputSurface) (kept : Content) → IsContent queues owed (model.OutputObject surface) kept
      → (of : OutputSurface) × (kept ≡ content.Output of) × IsContent queues owed (model.OutputObject surface) (content.Output of)
  kept_output surface (content.Device kept) is = elim is [ ]
  kept_output surface (content.Video kept) is = elim is [ ]
  kept_output surface (content.Output kept) is = (kept, refl, is)
  kept_output surface (content.Decoder kept) is = elim is [ ]
  kept_output surface (content.Mixer kept) is = elim is [ ]
  kept_output surface (content.Queue kept) is = elim is [ ]

-- Content that has what a video surface owes, or an output surface, and all else as it was, is all that the surface has.
module _ (queues : List (Queue Surface)) where
  pub video_is_given : (surface : model.VideoSurface) (what : VideoSurface) → what.size ≡ surface.size → value_of what.samples ≡ surface.picture
      → IsContent queues false (model.VideoObject surface) (content.Video what)
  video_is_given surface what size samples = (size, λ home. samples)

  pub output_is_given : (owed : Bool) (surface : model.OutputSurface) (before what : OutputSurface) → IsContent queues owed (model.OutputObject surface) (content.Output before)
      → what.format ≡ before.format → what.size ≡ surface.size → what.last_flip ≡ before.last_flip → (value_of what.pixels).items ≡ surface.bytes
      → IsContent queues false (model.OutputObject surface) (content.Output what)
  output_is_given owed surface before what is format size flip pixels = (format ∙ is.0, size, ap (option_map flip_of) flip ∙ is.2, λ home. pixels)

-- sizes that aren't told apart are one
pub size_is : (a b : SizeMbs) → not (a.width == b.width && a.height == b.height) ≡ false → a ≡ b
size_is a b same =
    let width : a.width ≡ b.width = grind (arith, nat_tests, same) in
    let height : a.height ≡ b.height = grind (arith, nat_tests, same) in
    λ i. record { width = width i; height = height i }
