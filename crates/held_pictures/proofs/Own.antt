-- What is held stays behind each own item that leaves it.
use Rattle.std.proofs.Common.{◌≡◌, inl, inr, ℕ, false, List, Option, Ok, Err, refl, ap, sym, ◌∙◌, subst}
use Rattle.std.proofs.lemmas.Bool.{cases_Bool, false≢true}
use Rattle.vd_status.specs.declared.refusal.Refusal.{Refusal}
use Rattle.vd_status.specs.declared.refusal.Refusal.TheVariants.{Bitstream, Incomplete}
use Rattle.driver_model.specs.Answers.{Reply}
use Rattle.driver_model.specs.Histories.{Happens, IsStateOf}
use Rattle.driver_model.specs.Objects.{Content, as_decoder, as_mixer, as_output, as_queue, as_video}
use Rattle.driver_model.specs.Passes.{is_of_job}
use Rattle.driver_model.specs.States.{State, found_from, named}
use Rattle.driver_model.specs.declared.calls.Call.{Call}
use Rattle.driver_model.specs.declared.calls.Call.TheVariants as call
use Rattle.driver_model.specs.declared.items.Entry.{Entry}
use Rattle.driver_model.specs.declared.items.Item.{Item}
use Rattle.driver_model.specs.declared.items.Item.TheVariants.{Called, Ended}
use Rattle.driver_model.proofs.Leading.{refusals_leave}
use Rattle.driver_model.specs.Laws.{is_of_bitstream}
use Rattle.driver_model.specs.Steps.{Step}
use Rattle.picture_buffer.proofs.HandleDecoders.{items_leave_decoders}
use Rattle.picture_buffer.proofs.HandleSurfaces.{items_leave_surfaces}
use Rattle.picture_buffer.specs.Handles.{LeavesDecoder, LeavesSurface}
use Rattle.stream_calls.proofs.KeptNames.{items_keep_mixers, items_keep_outputs, items_keep_queues}
use Rattle.stream_calls.specs.KeptObjects.{LeavesObject}
use Rattle.stream_calls.specs.OneDevice.{is_left_out}
use Rattle.held_pictures.specs.Held.{Decoder, Held, Holds, Mixer, Output, Pixels, Queue, Video}
use Rattle.held_pictures.specs.Keeping.{EmptyItemsKeepHeld, IsSteady, ItemChangesNothing, LeavesName, OwnItemsKeepHeld}

-- ---- the same objects

same_named : {T : Type 0} (as_kind : Content → Option T) (s t : State) (name : ℕ) → t.objects ≡ s.objects → named t as_kind name ≡ named s as_kind name
same_named as_kind s t name same = ap (found_from as_kind name 0) same

pub holds_by : (s t : State) (device name : ℕ) (held : Held) → t.objects ≡ s.objects → Holds s device name held → Holds t device name held
holds_by s t device name (Decoder size) same has = record { place = has.place; names = same_named as_decoder s t name same ∙ has.names }
holds_by s t device name (Video size picture) same has = record { place = has.place; is = record { names = same_named as_video s t name same ∙ has.is.names; kind = has.is.kind; sized = has.is.sized } }
holds_by s t device name (Mixer size) same has = record { place = has.place; names = same_named as_mixer s t name same ∙ has.names }
holds_by s t device name (Output size) same has = record { on = has.on; names = same_named as_output s t name same ∙ has.names; of_device = has.of_device; format = has.format; sides = has.sides }
holds_by s t device name (Pixels size picture) same has =
    let o = has.output in
    record { output = record { on = o.on; names = same_named as_output s t name same ∙ o.names; of_device = o.of_device; format = o.format; sides = o.sides }; sized = has.sized; pixels = has.pixels }
holds_by s t device name (Queue window) same has = record { place = has.place; queue = has.queue; names = same_named as_queue s t name same ∙ has.names }

-- ---- refusals

pub record IsRefusal (reply : Reply) : Type 0 where
  pub refusal : Refusal
  pub is : reply ≡ Err refusal
  pub other : is_of_bitstream refusal ≡ false

refused : (reply : Reply) → is_of_job reply ≡ false → IsRefusal reply
refused (Ok value) e = absurd (false≢true (sym e))
refused (Err (Bitstream slice)) e = absurd (false≢true (sym e))
refused (Err (Incomplete macroblocks)) e = absurd (false≢true (sym e))
refused (Err refusal) e = record { refusal = refusal; is = refl; other = not_bitstream refusal e } where
  not_bitstream : (r : Refusal) → is_of_job (Err r) ≡ false → is_of_bitstream r ≡ false
  not_bitstream (Bitstream slice) k = absurd (false≢true (sym k))
  not_bitstream (Incomplete macroblocks) k = absurd (false≢true (sym k))
  not_bitstream _ k = refl

pub same_objects : (s t : State) (item : Item) → Happens s item t → ItemChangesNothing item → t.objects ≡ s.objects
same_objects s t (Called entry) happens nothing =
    let r = refused entry.reply nothing in
    let still : happens.0 ≡ s = refusals_leave s happens.0 entry.caller entry.call r.refusal r.other (subst (λ (reply : Reply). Step s entry.caller entry.call reply happens.0) r.is happens.1) in
    ap (λ (u : State). u.objects) happens.2 ∙ ap (λ (u : State). u.objects) still
same_objects s t (Ended mark) happens nothing = ap (λ (u : State). u.objects) happens.1

pub empty_items_keep_held : EmptyItemsKeepHeld
empty_items_keep_held device name held s t item happens nothing has = holds_by s t device name held (same_objects s t item happens nothing) has

-- ---- calls that leave the name

video_left : (s : State) (name device : ℕ) (asked : Call) → is_left_out asked ≡ false → LeavesName name asked → LeavesSurface s name device asked
video_left s name device (call.DeviceDestroy other) out leaves = absurd (false≢true (sym out))
video_left s name device (call.VideoDestroy other) out leaves = leaves
video_left s name device (call.VideoPutBits other format bytes) out leaves = absurd (false≢true (sym out))
video_left s name device (call.Render decoder other info bytes) out leaves = leaves
video_left s name device asked out leaves = tt

decoder_left : (s : State) (name device : ℕ) (asked : Call) → is_left_out asked ≡ false → LeavesName name asked → LeavesDecoder s name device asked
decoder_left s name device (call.DeviceDestroy other) out leaves = absurd (false≢true (sym out))
decoder_left s name device (call.DecoderDestroy other) out leaves = leaves
decoder_left s name device asked out leaves = tt

object_left : (s : State) (name device : ℕ) (asked : Call) → is_left_out asked ≡ false → LeavesName name asked → LeavesObject s name device asked
object_left s name device (call.DeviceDestroy other) out leaves = absurd (false≢true (sym out))
object_left s name device (call.OutputDestroy other) out leaves = leaves
object_left s name device (call.MixerDestroy other) out leaves = leaves
object_left s name device (call.MixerSetMatrix other matrix) out leaves = absurd (false≢true (sym out))
object_left s name device (call.QueueDestroy other) out leaves = absurd (false≢true (sym out))
object_left s name device asked out leaves = tt

done_keeps : (history : List Item) (device name : ℕ) (held : Held) (s t : State) (entry : Entry) → IsSteady held → IsStateOf history s → Happens s (Called entry) t
    → is_left_out entry.call ≡ false → LeavesName name entry.call → Holds s device name held → Holds t device name held
done_keeps history device name (Decoder size) s t entry steady state happens out leaves has = record {
  place = has.place;
  names = items_leave_decoders history name _ s t (Called entry) state has.names (decoder_left s name device entry.call out leaves) happens;
}
done_keeps history device name (Video size picture) s t entry steady state happens out leaves has = record {
  place = has.place;
  is = items_leave_surfaces history name has.place device size picture s t (Called entry) state has.is (video_left s name device entry.call out leaves) happens;
}
done_keeps history device name (Mixer size) s t entry steady state happens out leaves has = record {
  place = has.place;
  names = items_keep_mixers history name _ s t (Called entry) state has.names (object_left s name device entry.call out leaves) happens;
}
done_keeps history device name (Output size) s t entry steady state happens out leaves has =
    let r = items_keep_outputs history name has.on s t (Called entry) state has.names (object_left s name has.on.device entry.call out leaves) happens in
    record { on = record (has.on) { value = r.0 }; names = r.1; of_device = has.of_device; format = r.2.format ∙ has.format; sides = r.2.size ∙ has.sides }
done_keeps history device name (Pixels size picture) s t entry steady state happens out leaves has = absurd steady
done_keeps history device name (Queue window) s t entry steady state happens out leaves has =
    let r = items_keep_queues history name _ s t (Called entry) state has.names (object_left s name device entry.call out leaves) happens in
    record { place = has.place; queue = r.0; names = r.1 }

pub own_items_keep_held : OwnItemsKeepHeld
own_items_keep_held history device name held s t (Ended mark) steady state happens leaves has = empty_items_keep_held device name held s t (Ended mark) happens tt has
own_items_keep_held history device name held s t (Called entry) steady state happens leaves has = elim (cases_Bool (is_of_job entry.reply)) [
  | inl done ↦ let both = leaves done in done_keeps history device name held s t entry steady state happens both.0 both.1 has
  | inr not_done ↦ empty_items_keep_held device name held s t (Called entry) happens not_done has
]
