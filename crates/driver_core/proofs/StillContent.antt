-- What is kept of an object stands for it still where other queues have changed.
use Rattle.std.proofs.Common.{◌≡◌, Bool, List, refl, sym, ap, ◌∙◌}
use Rattle.present_queue.specs.Queue.{Queue}
use Rattle.present_queue.specs.Queues.{Surface, queue_at}
use Rattle.driver_model.specs.Objects as model
use Rattle.driver_objects.specs.declared.content.Content.{Content}
use Rattle.driver_objects.specs.declared.content.Content.TheVariants as content
use Rattle.driver_objects.specs.declared.content.PresentationQueue.{PresentationQueue}
use Rattle.driver_core.specs.Stands.{IsContent, by_place}

-- what is kept of a queue says what it has
pub queue_of : (queues : List (Queue Surface)) (owed : Bool) (what : model.Content) (kept : PresentationQueue) → IsContent queues owed what (content.Queue kept)
    → (of : model.PresentationQueue) × (what ≡ model.QueueObject of) × (kept.window ≡ of.window) × (of.queue ≡ by_place (queue_at queues kept.number))
queue_of queues owed (model.DeviceObject of) kept is = elim is [ ]
queue_of queues owed (model.VideoObject of) kept is = elim is [ ]
queue_of queues owed (model.OutputObject of) kept is = elim is [ ]
queue_of queues owed (model.DecoderObject of) kept is = elim is [ ]
queue_of queues owed (model.MixerObject of) kept is = elim is [ ]
queue_of queues owed (model.QueueObject of) kept is = (of, refl, is.0, is.1)

module _ (before after : List (Queue Surface)) (owed : Bool) where
  pub content_still : (what : model.Content) (kept : Content) → ((queue : PresentationQueue) → kept ≡ content.Queue queue → queue_at after queue.number ≡ queue_at before queue.number)
      → IsContent before owed what kept → IsContent after owed what kept
  content_still (model.DeviceObject of) (content.Device kept) same is = is
  content_still (model.DeviceObject of) (content.Video kept) same is = elim is [ ]
  content_still (model.DeviceObject of) (content.Output kept) same is = elim is [ ]
  content_still (model.DeviceObject of) (content.Decoder kept) same is = elim is [ ]
  content_still (model.DeviceObject of) (content.Mixer kept) same is = elim is [ ]
  content_still (model.DeviceObject of) (content.Queue kept) same is = elim is [ ]
  content_still (model.VideoObject of) (content.Device kept) same is = elim is [ ]
  content_still (model.VideoObject of) (content.Video kept) same is = is
  content_still (model.VideoObject of) (content.Output kept) same is = elim is [ ]
  content_still (model.VideoObject of) (content.Decoder kept) same is = elim is [ ]
  content_still (model.VideoObject of) (content.Mixer kept) same is = elim is [ ]
  content_still (model.VideoObject of) (content.Queue kept) same is = elim is [ ]
  content_still (model.OutputObject of) (content.Device kept) same is = elim is [ ]
  content_still (model.OutputObject of) (content.Video kept) same is = elim is [ ]
  content_still (model.OutputObject of) (content.Output kept) same is = is
  content_still (model.OutputObject of) (content.Decoder kept) same is = elim is [ ]
  content_still (model.OutputObject of) (content.Mixer kept) same is = elim is [ ]
  content_still (model.OutputObject of) (content.Queue kept) same is = elim is [ ]
  content_still (model.DecoderObject of) (content.Device kept) same is = elim is [ ]
  content_still (model.DecoderObject of) (content.Video kept) same is = elim is [ ]
  content_still (model.DecoderObject of) (content.Output kept) same is = elim is [ ]
  content_still (model.DecoderObject of) (content.Decoder kept) same is = is
  content_still (model.DecoderObject of) (content.Mixer kept) same is = elim is [ ]
  content_still (model.DecoderObject of) (content.Queue kept) same is = elim is [ ]
  content_still (model.MixerObject of) (content.Device kept) same is = elim is [ ]
  content_still (model.MixerObject of) (content.Video kept) same is = elim is [ ]
  content_still (model.MixerObject of) (content.Output kept) same is = elim is [ ]
  content_still (model.MixerObject of) (content.Decoder kept) same is = elim is [ ]
  content_still (model.MixerObject of) (content.Mixer kept) same is = is
  content_still (model.MixerObject of) (content.Queue kept) same is = elim is [ ]
  content_still (model.QueueObject of) (content.Device kept) same is = elim is [ ]
  content_still (model.QueueObject of) (content.Video kept) same is = elim is [ ]
  content_still (model.QueueObject of) (content.Output kept) same is = elim is [ ]
  content_still (model.QueueObject of) (content.Decoder kept) same is = elim is [ ]
  content_still (model.QueueObject of) (content.Mixer kept) same is = elim is [ ]
  content_still (model.QueueObject of) (content.Queue kept) same is = (is.0, is.1 ∙ ap by_place (sym (same kept refl)))
