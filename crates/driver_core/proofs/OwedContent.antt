-- What is kept of an object stands for it still where less, or more, is owed.
use Rattle.std.proofs.Common.{◌≡◌, Bool, false, List}
use Rattle.present_queue.specs.Queue.{Queue}
use Rattle.present_queue.specs.Queues.{Surface}
use Rattle.driver_model.specs.Objects as model
use Rattle.driver_objects.specs.declared.content.Content.{Content}
use Rattle.driver_objects.specs.declared.content.Content.TheVariants as content
use Rattle.driver_core.specs.Stands.{IsContent}

module _ (queues : List (Queue Surface)) (before after : Bool) (less : after ≡ false → before ≡ false) where
  pub content_owed : (what : model.Content) (kept : Content) → IsContent queues before what kept → IsContent queues after what kept
  content_owed (model.DeviceObject of) (content.Device kept) is = is
  content_owed (model.DeviceObject of) (content.Video kept) is = elim is [ ]
  content_owed (model.DeviceObject of) (content.Output kept) is = elim is [ ]
  content_owed (model.DeviceObject of) (content.Decoder kept) is = elim is [ ]
  content_owed (model.DeviceObject of) (content.Mixer kept) is = elim is [ ]
  content_owed (model.DeviceObject of) (content.Queue kept) is = elim is [ ]
  content_owed (model.VideoObject of) (content.Device kept) is = elim is [ ]
  content_owed (model.VideoObject of) (content.Video kept) is = (is.0, λ home. is.1 (less home))
  content_owed (model.VideoObject of) (content.Output kept) is = elim is [ ]
  content_owed (model.VideoObject of) (content.Decoder kept) is = elim is [ ]
  content_owed (model.VideoObject of) (content.Mixer kept) is = elim is [ ]
  content_owed (model.VideoObject of) (content.Queue kept) is = elim is [ ]
  content_owed (model.OutputObject of) (content.Device kept) is = elim is [ ]
  content_owed (model.OutputObject of) (content.Video kept) is = elim is [ ]
  content_owed (model.OutputObject of) (content.Output kept) is = (is.0, is.1, is.2, λ home. is.3 (less home))
  content_owed (model.OutputObject of) (content.Decoder kept) is = elim is [ ]
  content_owed (model.OutputObject of) (content.Mixer kept) is = elim is [ ]
  content_owed (model.OutputObject of) (content.Queue kept) is = elim is [ ]
  content_owed (model.DecoderObject of) (content.Device kept) is = elim is [ ]
  content_owed (model.DecoderObject of) (content.Video kept) is = elim is [ ]
  content_owed (model.DecoderObject of) (content.Output kept) is = elim is [ ]
  content_owed (model.DecoderObject of) (content.Decoder kept) is = is
  content_owed (model.DecoderObject of) (content.Mixer kept) is = elim is [ ]
  content_owed (model.DecoderObject of) (content.Queue kept) is = elim is [ ]
  content_owed (model.MixerObject of) (content.Device kept) is = elim is [ ]
  content_owed (model.MixerObject of) (content.Video kept) is = elim is [ ]
  content_owed (model.MixerObject of) (content.Output kept) is = elim is [ ]
  content_owed (model.MixerObject of) (content.Decoder kept) is = elim is [ ]
  content_owed (model.MixerObject of) (content.Mixer kept) is = is
  content_owed (model.MixerObject of) (content.Queue kept) is = elim is [ ]
  content_owed (model.QueueObject of) (content.Device kept) is = elim is [ ]
  content_owed (model.QueueObject of) (content.Video kept) is = elim is [ ]
  content_owed (model.QueueObject of) (content.Output kept) is = elim is [ ]
  content_owed (model.QueueObject of) (content.Decoder kept) is = elim is [ ]
  content_owed (model.QueueObject of) (content.Mixer kept) is = elim is [ ]
  content_owed (model.QueueObject of) (content.Queue kept) is = is
