-- One step of a driver: from a state, by a caller's call and its reply, to a state.
use Rattle.std.specs.Prelude.{◌≡◌, ◌⊎◌, ℕ, Bool, true, false, List}
use Rattle.vd_status.specs.declared.refusal.Refusal.TheVariants.{OutOfMemory}
use Rattle.driver_model.specs.Answers.{IsRefused, Reply}
use Rattle.driver_model.specs.Clock.{Advance, DeviceDestroy, Preempt}
use Rattle.driver_model.specs.Creates.{Creates, IsNewVideo, decoder_create, device_create, mixer_create, new_decoder, new_device, new_mixer, new_output, new_queue, output_create, queue_create, video_create}
use Rattle.driver_model.specs.Kept.{TellsKept}
use Rattle.driver_model.specs.Mixes.{Mix}
use Rattle.driver_model.specs.Queues.{BlockUntilIdle, GetTime, Promise, QueryStatus, QueueDestroy, QueueDisplay}
use Rattle.driver_model.specs.Renders.{Render}
use Rattle.driver_model.specs.States.{State}
use Rattle.driver_model.specs.Surfaces.{DecoderDestroy, DecoderQuery, MixerDestroy, MixerSetMatrix, OutputDestroy, OutputGetBits, OutputPutBits, VideoDestroy, VideoGetBits, VideoParameters, VideoPutBits}
use Rattle.driver_model.specs.Wishes.{Poll, WaitUntil}
use Rattle.driver_model.specs.declared.calls.Call.{Call}
use Rattle.driver_model.specs.declared.calls.Call.TheVariants as call

-- The call takes memory, and may answer that there is none.
abbrev pub takes_memory : Call → Bool
takes_memory call.DeviceCreate = true
takes_memory (call.VideoCreate device chroma width height) = true
takes_memory (call.VideoPutBits surface format bytes) = true
takes_memory (call.OutputCreate device format width height) = true
takes_memory (call.OutputPutBits surface bytes) = true
takes_memory (call.DecoderCreate device profile width height max_references) = true
takes_memory (call.MixerCreate device width height) = true
takes_memory (call.QueueCreate device window) = true
takes_memory (call.Advance device time) = true
takes_memory (call.Render decoder target info bytes) = true
takes_memory (call.Mix mixer structure video output) = true
takes_memory _ = false

module _ (old : State) (caller : List ℕ) where
  -- what the call does with memory enough
  abbrev pub Does : Call → Reply → State → Type 0
  Does call.DeviceCreate reply new = Creates old reply new (device_create old) (λ content. content ≡ new_device)
  Does (call.DeviceDestroy device) reply new = DeviceDestroy old reply new device
  Does (call.VideoCreate device chroma width height) reply new =
      Creates old reply new (video_create old device chroma width height) (IsNewVideo width height)
  Does (call.VideoParameters surface) reply new = VideoParameters old reply new surface
  Does (call.VideoGetBits surface format length) reply new = VideoGetBits old reply new surface format length
  Does (call.VideoPutBits surface format bytes) reply new = VideoPutBits old reply new surface format bytes
  Does (call.VideoDestroy surface) reply new = VideoDestroy old reply new surface
  Does (call.OutputCreate device format width height) reply new =
      Creates old reply new (output_create old device format width height) (λ content. content ≡ new_output format width height)
  Does (call.OutputGetBits surface length) reply new = OutputGetBits old reply new surface length
  Does (call.OutputPutBits surface bytes) reply new = OutputPutBits old reply new surface bytes
  Does (call.OutputDestroy surface) reply new = OutputDestroy old reply new surface
  Does (call.DecoderQuery device profile) reply new = DecoderQuery old reply new device profile
  Does (call.DecoderCreate device profile width height max_references) reply new =
      Creates old reply new (decoder_create old device profile width height max_references)
      (λ content. content ≡ new_decoder profile width height max_references)
  Does (call.DecoderDestroy decoder) reply new = DecoderDestroy old reply new decoder
  Does (call.MixerCreate device width height) reply new =
      Creates old reply new (mixer_create old device width height) (λ content. content ≡ new_mixer width height)
  Does (call.MixerSetMatrix mixer matrix) reply new = MixerSetMatrix old reply new mixer matrix
  Does (call.MixerDestroy mixer) reply new = MixerDestroy old reply new mixer
  Does (call.QueueCreate device window) reply new =
      Creates old reply new (queue_create old device) (λ content. content ≡ new_queue window)
  Does (call.QueueDestroy queue) reply new = QueueDestroy old reply new queue
  Does (call.QueueDisplay queue surface earliest) reply new = QueueDisplay old reply new queue surface earliest
  Does (call.QueryStatus queue surface) reply new = QueryStatus old reply new queue surface
  Does (call.BlockUntilIdle queue surface) reply new = BlockUntilIdle old reply new queue surface
  Does (call.GetTime queue) reply new = GetTime old reply new queue
  Does (call.Promise queue time) reply new = Promise old reply new queue time
  Does (call.Advance device time) reply new = Advance old reply new device time
  Does (call.Preempt device) reply new = Preempt old reply new device
  Does (call.Poll wishes) reply new = Poll old reply new wishes
  Does (call.WaitUntil wishes) reply new = WaitUntil old reply new wishes
  Does call.Kept reply new = TellsKept old reply new
  Does (call.Render decoder target info bytes) reply new = Render old reply new caller decoder target info bytes
  Does (call.Mix mixer structure video output) reply new = Mix old reply new caller mixer structure video output

  -- What a call answers follows from the state, but for this: one that allocates may fail for want of memory at any time, and then
  -- nothing has changed.
  abbrev pub Step : Call → Reply → State → Type 0
  Step call reply new =
      ((takes_memory call ≡ true) × IsRefused old reply new OutOfMemory) ⊎ Does call reply new
