-- What a name finds of mixers, output surfaces and queues is kept by an item that doesn't destroy them.
use Rattle.std.proofs.Common.{◌≡◌, ◌≢◌, ℕ, true, List, [], ◌∷◌, ◌++◌, Option, Some, None, slice_get, refl, ap, sym, ◌∙◌}
use Rattle.std.proofs.lemmas.Bool.{eq-eqb, eqb-true}
use Rattle.present_queue.specs.Queue.{Queue, empty_queue}
use Rattle.driver_model.specs.Answers.{Reply}
use Rattle.driver_model.specs.Histories.{IsStateOf}
use Rattle.driver_model.specs.Objects.{Content, DecoderObject, Device, DeviceObject, MixerObject, Object, OutputObject, OutputSurface, PresentationQueue, QueueObject, VideoMixer, VideoObject, as_mixer, as_output, as_queue}
use Rattle.driver_model.specs.States.{Found, State, counted, found_from, named}
use Rattle.driver_model.specs.Steps.{Step}
use Rattle.driver_model.specs.declared.calls.Call.{Call}
use Rattle.driver_model.specs.declared.calls.Call.TheVariants as call
use Rattle.driver_model.specs.declared.items.Item.{Item}
use Rattle.driver_model.specs.declared.items.Item.TheVariants.{Called, Ended}
use Rattle.driver_model.proofs.Leading.{histories_go_on}
use Rattle.driver_model.proofs.Named.{found_of, named-Some, named-is}
use Rattle.driver_model.proofs.NoteLists.{nothing_at, some_is}
use Rattle.driver_model.proofs.PartNames.{place_of_name}
use Rattle.player_laws.proofs.States.{names_apart}
use Rattle.stream_calls.specs.KeptObjects.{IsSameOutput, ItemsKeepMixers, ItemsKeepOutputs, ItemsKeepQueues, LeavesObject}
use Rattle.stream_calls.proofs.KeptSteps.{LeavesPlace, is_kept, step_stays, still}

-- the object that a name of another object finds stands elsewhere
elsewhere : {T U : Type 0} (as_kind : Content → Option T) (as_other : Content → Option U) (s : State) (name other : ℕ) (on : Found T) (found : Found U)
    → named s as_kind name ≡ Some on → named s as_other other ≡ Some found → name ≢ other → found.place ≢ on.place
elsewhere as_kind as_other s name other on found is also differs same =
    let a = named-Some as_kind name s on is in
    let b = named-Some as_other other s found also in
    let one : b.0 ≡ a.0 = some_is b.0 a.0 (sym b.1 ∙ (ap (slice_get s.objects) same ∙ a.1)) in
    differs (sym a.2.has_name ∙ (sym (ap (λ (o : Object). o.name) one) ∙ b.2.has_name))

module _ {T : Type 0} (as_kind : Content → Option T) (kept : (content : Content) (of : T) → as_kind content ≡ Some of → is_kept content ≡ true) (name : ℕ) (on : Found T) (old : State) (there : named old as_kind name ≡ Some on) where
  not_on : (device : Found Device) → device.place ≢ on.device → (one : Object) → slice_get old.objects on.place ≡ Some one → one.device ≢ device.place
  not_on device differs one at same =
      let is = named-Some as_kind name old on there in
      let here : is.0 ≡ one = some_is is.0 one (sym is.1 ∙ at) in
      differs (sym same ∙ (ap (λ (o : Object). o.device) (sym here) ∙ sym is.2.of_device))

  leaves_place : (asked : Call) → LeavesObject old name on.device asked → LeavesPlace old on.place asked
  leaves_place (call.DeviceDestroy other) leaves = λ device found one at. not_on device (leaves device found) one at
  leaves_place (call.OutputDestroy other) leaves = λ found is. elsewhere as_kind as_output old name other on found there is leaves
  leaves_place (call.MixerDestroy other) leaves = λ found is. elsewhere as_kind as_mixer old name other on found there is leaves
  leaves_place (call.MixerSetMatrix other matrix) leaves = λ found is. elsewhere as_kind as_mixer old name other on found there is leaves
  leaves_place (call.QueueDestroy other) leaves = λ found is. elsewhere as_kind as_queue old name other on found there is leaves
  leaves_place asked leaves = tt

  -- what was found, and what is there now
  pub record Both (new : State) : Type 0 where
    pub was : Object
    pub now : Object
    pub is_kind : as_kind was.content ≡ Some on.value
    pub content : still now.content ≡ still was.content
    pub finds : (value : T) → as_kind now.content ≡ Some value → named new as_kind name ≡ Some (record on { value = value })

  both : (history : List Item) (new : State) (caller : List ℕ) (asked : Call) (reply : Reply) → IsStateOf history old → Step old caller asked reply new
      → LeavesObject old name on.device asked → Both new
  both history new caller asked reply state step leaves =
      let is = named-Some as_kind name old on there in
      let stays = step_stays on.place old new caller reply asked (leaves_place asked leaves) step is.0 is.1 (kept is.0.content on.value is.2.is_kind) in
      let item : Item = Called (record { caller = caller; call = asked; reply = reply }) in
      let apart = names_apart (history ++ item ∷ []) (counted new) (histories_go_on history old (counted new) item state (new, step, refl)) in
      let p = place_of_name name new.objects apart in
      let has : stays.0.name ≡ name = stays.2.name ∙ is.2.has_name in
      let here : on.place ≡ p.0 = eqb-true on.place p.0 (p.1 on.place stays.0 stays.1 ∙ eq-eqb stays.0.name name has) in
      let of : stays.0.device ≡ on.device = stays.2.device ∙ sym is.2.of_device in
      record {
        was = is.0;
        now = stays.0;
        is_kind = is.2.is_kind;
        content = stays.2.content;
        finds = λ value kind.
            named-is as_kind name new on.place stays.0 value stays.1 (stays.2.is_live ∙ is.2.is_live) has kind
            (λ other object at live called. eqb-true other p.0 (p.1 other object at ∙ eq-eqb object.name name called) ∙ sym here)
            ∙ ap (λ d. Some (found_of on.place d value)) of;
      }

-- ---- each kind

mixer_kept : (content : Content) (of : VideoMixer) → as_mixer content ≡ Some of → is_kept content ≡ true
mixer_kept (MixerObject is) of e = refl
mixer_kept (DeviceObject is) of e = nothing_at of e
mixer_kept (VideoObject is) of e = nothing_at of e
mixer_kept (OutputObject is) of e = nothing_at of e
mixer_kept (DecoderObject is) of e = nothing_at of e
mixer_kept (QueueObject is) of e = nothing_at of e

output_kept : (content : Content) (of : OutputSurface) → as_output content ≡ Some of → is_kept content ≡ true
output_kept (OutputObject is) of e = refl
output_kept (DeviceObject is) of e = nothing_at of e
output_kept (VideoObject is) of e = nothing_at of e
output_kept (MixerObject is) of e = nothing_at of e
output_kept (DecoderObject is) of e = nothing_at of e
output_kept (QueueObject is) of e = nothing_at of e

queue_kept : (content : Content) (of : PresentationQueue) → as_queue content ≡ Some of → is_kept content ≡ true
queue_kept (QueueObject is) of e = refl
queue_kept (DeviceObject is) of e = nothing_at of e
queue_kept (VideoObject is) of e = nothing_at of e
queue_kept (MixerObject is) of e = nothing_at of e
queue_kept (DecoderObject is) of e = nothing_at of e
queue_kept (OutputObject is) of e = nothing_at of e

mixer_now : (a b : Content) (of : VideoMixer) → as_mixer a ≡ Some of → still b ≡ still a → as_mixer b ≡ Some of
mixer_now (MixerObject is) b of e same = by b (ap as_mixer same ∙ e) where
  by : (b : Content) → as_mixer (still b) ≡ Some of → as_mixer b ≡ Some of
  by (MixerObject now) k = k
  by (DeviceObject now) k = nothing_at of k
  by (VideoObject now) k = nothing_at of k
  by (OutputObject now) k = nothing_at of k
  by (DecoderObject now) k = nothing_at of k
  by (QueueObject now) k = nothing_at of k
mixer_now (DeviceObject is) b of e same = nothing_at of e
mixer_now (VideoObject is) b of e same = nothing_at of e
mixer_now (OutputObject is) b of e same = nothing_at of e
mixer_now (DecoderObject is) b of e same = nothing_at of e
mixer_now (QueueObject is) b of e same = nothing_at of e

abbrev plain_output : OutputSurface → OutputSurface
plain_output of = record of { bytes = []; last_flip = None }

output_now : (a b : Content) (of : OutputSurface) → as_output a ≡ Some of → still b ≡ still a
    → (now : OutputSurface) × (as_output b ≡ Some now) × IsSameOutput of now
output_now (OutputObject is) b of e same = by b (ap as_output same ∙ ap (λ (x : OutputSurface). Some (plain_output x)) (some_is is of e)) where
  by : (b : Content) → as_output (still b) ≡ Some (plain_output of) → (now : OutputSurface) × (as_output b ≡ Some now) × IsSameOutput of now
  by (OutputObject now) k =
      let one : plain_output now ≡ plain_output of = some_is (plain_output now) (plain_output of) k in
      (now, refl, record { format = ap (λ (x : OutputSurface). x.format) one; size = ap (λ (x : OutputSurface). x.size) one })
  by (DeviceObject now) k = nothing_at (plain_output of) k
  by (VideoObject now) k = nothing_at (plain_output of) k
  by (MixerObject now) k = nothing_at (plain_output of) k
  by (DecoderObject now) k = nothing_at (plain_output of) k
  by (QueueObject now) k = nothing_at (plain_output of) k
output_now (DeviceObject is) b of e same = nothing_at of e
output_now (VideoObject is) b of e same = nothing_at of e
output_now (MixerObject is) b of e same = nothing_at of e
output_now (DecoderObject is) b of e same = nothing_at of e
output_now (QueueObject is) b of e same = nothing_at of e

abbrev plain_queue : PresentationQueue → PresentationQueue
plain_queue of = record of { queue = empty_queue }

queue_now : (a b : Content) (of : PresentationQueue) → as_queue a ≡ Some of → still b ≡ still a
    → (now : Queue ℕ) × (as_queue b ≡ Some (record of { queue = now }))
queue_now (QueueObject is) b of e same = by b (ap as_queue same ∙ ap (λ (x : PresentationQueue). Some (plain_queue x)) (some_is is of e)) where
  by : (b : Content) → as_queue (still b) ≡ Some (plain_queue of) → (now : Queue ℕ) × (as_queue b ≡ Some (record of { queue = now }))
  by (QueueObject now) k =
      let one : plain_queue now ≡ plain_queue of = some_is (plain_queue now) (plain_queue of) k in
      (now.queue, ap (λ (x : PresentationQueue). Some (record x { queue = now.queue })) one)
  by (DeviceObject now) k = nothing_at (plain_queue of) k
  by (VideoObject now) k = nothing_at (plain_queue of) k
  by (MixerObject now) k = nothing_at (plain_queue of) k
  by (DecoderObject now) k = nothing_at (plain_queue of) k
  by (OutputObject now) k = nothing_at (plain_queue of) k
queue_now (DeviceObject is) b of e same = nothing_at of e
queue_now (VideoObject is) b of e same = nothing_at of e
queue_now (MixerObject is) b of e same = nothing_at of e
queue_now (DecoderObject is) b of e same = nothing_at of e
queue_now (OutputObject is) b of e same = nothing_at of e

-- ---- the laws

-- how many items there were, and which jobs run, says nothing of what a name finds
same_found : {T : Type 0} (as_kind : Content → Option T) (name : ℕ) (s t : State) → t.objects ≡ s.objects → named t as_kind name ≡ named s as_kind name
same_found as_kind name s t same = ap (found_from as_kind name 0) same

pub items_keep_mixers : ItemsKeepMixers
items_keep_mixers history name mixer old new (Called entry) state there leaves happens =
    let b = both as_mixer mixer_kept name mixer old there history happens.0 entry.caller entry.call entry.reply state happens.1 leaves in
    same_found as_mixer name happens.0 new (ap (λ (s : State). s.objects) happens.2) ∙ b.finds mixer.value (mixer_now b.was.content b.now.content mixer.value b.is_kind b.content)
items_keep_mixers history name mixer old new (Ended mark) state there leaves happens = same_found as_mixer name old new (ap (λ (s : State). s.objects) happens.1) ∙ there

pub items_keep_outputs : ItemsKeepOutputs
items_keep_outputs history name output old new (Called entry) state there leaves happens =
    let b = both as_output output_kept name output old there history happens.0 entry.caller entry.call entry.reply state happens.1 leaves in
    let now = output_now b.was.content b.now.content output.value b.is_kind b.content in
    (now.0, same_found as_output name happens.0 new (ap (λ (s : State). s.objects) happens.2) ∙ b.finds now.0 now.1, now.2)
items_keep_outputs history name output old new (Ended mark) state there leaves happens =
    (output.value, same_found as_output name old new (ap (λ (s : State). s.objects) happens.1) ∙ there, record { format = refl; size = refl })

pub items_keep_queues : ItemsKeepQueues
items_keep_queues history name queue old new (Called entry) state there leaves happens =
    let b = both as_queue queue_kept name queue old there history happens.0 entry.caller entry.call entry.reply state happens.1 leaves in
    let now = queue_now b.was.content b.now.content queue.value b.is_kind b.content in
    (now.0, same_found as_queue name happens.0 new (ap (λ (s : State). s.objects) happens.2) ∙ b.finds (record queue.value { queue = now.0 }) now.1)
items_keep_queues history name queue old new (Ended mark) state there leaves happens = (queue.value.queue, same_found as_queue name old new (ap (λ (s : State). s.objects) happens.1) ∙ there)
