-- Each step leaves the surfaces that running jobs write.
use Rattle.std.proofs.Common.{◌≡◌, inl, inr, ℕ, zero, suc, ◌==◌, ◌||◌, Bool, true, false, true≢false, not, if◌then◌else◌, List, [], ◌∷◌, filter, length, slice_get, Option, Some, None, Ok, Err, MatchOption, refl, ap, sym, ◌∙◌, subst, arith}
use Rattle.std.specs.List.{list_any}
use Rattle.std.specs.Option.{option_and_then}
use Rattle.std.proofs.lemmas.Bool.Decides.{nat_tests}
use Rattle.cb_types.specs.declared.picture_info.PictureInfo.{PictureInfo}
use Rattle.decoder_render.specs.declared.outcome.Outcome.{Outcome}
use Rattle.decoder_render.specs.declared.outcome.Outcome.TheVariants as outcome
use Rattle.vd_plane.specs.declared.picture.Picture.{Picture}
use Rattle.driver_model.specs.Answers.{Goes, Reply, Tells}
use Rattle.driver_model.specs.Clock as clock
use Rattle.driver_model.specs.Clock.{Due, all_shown, destroyed_on, let_go, shown, with_flip, with_tick}
use Rattle.driver_model.specs.Creates.{Creates, decoder_create, device_create, mixer_create, output_create, queue_create, video_create}
use Rattle.driver_model.specs.Mixes.{Mixes, mix}
use Rattle.driver_model.specs.Objects.{Content, DeviceObject, Object, as_device, as_mixer, as_output, as_queue, as_video}
use Rattle.driver_model.specs.Owed.{CountsKeepTargets, EndsKeepTargets, KeepsSurface, StepsKeepTargets}
use Rattle.driver_model.specs.Queues as queues
use Rattle.driver_model.specs.Refusals.{Looked, first_handle}
use Rattle.driver_model.specs.Renders.{Counts, Decodes, Rendering, decoded, render, some_reference, units_counted}
use Rattle.driver_model.specs.States.{State, Found, Note, changed_at, content_at, is_note_of, is_out, named, with_content}
use Rattle.driver_model.specs.Steps.{Does, Step}
use Rattle.driver_model.specs.Surfaces as surfaces
use Rattle.driver_model.specs.Wishes.{first_wish}
use Rattle.driver_model.specs.declared.calls.Call.{Call}
use Rattle.driver_model.specs.declared.calls.Call.TheVariants as call
use Rattle.driver_model.specs.declared.replies.Answer.TheVariants.{Holds}
use Rattle.driver_model.proofs.NoteLists.{get_in, nothing_at, some_is}
use Rattle.driver_model.proofs.OwedPlaces.{Keeps, is_surface, keeps_all_shown, keeps_changed, keeps_ended, keeps_same, keeps_then, no_device, no_mixer, no_queue, output_surface, video_surface}
use Rattle.driver_model.proofs.NoteSteps.{NoteStep, step_notes}
use Rattle.driver_model.proofs.SoundLooks.{Stands, advance_stands, display_stands, first_stands}

-- ---- one step

module _ (place : ℕ) (old new : State) (caller : List ℕ) (reply : Reply) (out : is_out old place ≡ true) where
  left : (after : State) → Keeps place old.objects after.objects → new ≡ after → Keeps place old.objects new.objects
  left after keeps e = subst (λ (t : State). Keeps place old.objects t.objects) (sym e) keeps

  same : new ≡ old → Keeps place old.objects new.objects
  same e = left old (keeps_same place old.objects) e

  goes : {A : Type 0} (looked : Looked A) (D : A → Type 0) → ((on : A) → looked ≡ Ok on → D on → Keeps place old.objects new.objects) → Goes old reply new looked D → Keeps place old.objects new.objects
  goes (Ok on) D row p = row on refl p
  goes (Err r) D row p = same p.1

  makes : (looked : Looked ℕ) (IsContent : Content → Type 0) → Creates old reply new looked IsContent → Keeps place old.objects new.objects
  makes (Err r) IsContent p = same p.1
  makes (Ok device) IsContent (inr p) = same p.1.1
  makes (Ok device) IsContent (inl p) =
      let made : Object = record { name = p.name; device = device; is_live = true; content = p.content } in
      left _ (λ one at is. (one, get_in old.objects (made ∷ []) place one at, refl)) p.after

  -- another place is written, which isn't out
  home : (other : ℕ) (content : Content) → is_out old other ≡ false → Keeps place old.objects (with_content old other content).objects
  home other content at_home = keeps_changed place (λ object. record object { content = content }) other old.objects (λ one e at is. absurd (true≢false (sym out ∙ (ap (is_out old) (sym e) ∙ at_home))))

  -- what is no surface is written
  plain : {T : Type 0} (as_kind : Content → Option T) (no_surface : (content : Content) (of : T) → as_kind content ≡ Some of → is_surface content ≡ false) (on : Found T) → Stands old as_kind on
      → (change : Object → Object) → Keeps place old.objects (changed_at on.place change old.objects)
  plain as_kind no_surface on stands change =
      keeps_changed place change on.place old.objects (λ one e at is.
      let one_is : stands.0 ≡ one = some_is stands.0 one (sym stands.1 ∙ (ap (slice_get old.objects) e ∙ at)) in
      absurd (true≢false (sym is ∙ (ap (λ (o : Object). is_surface o.content) (sym one_is) ∙ no_surface stands.0.content on.value stands.4))))

  gone : (other : ℕ) → Keeps place old.objects (changed_at other (λ object. record object { is_live = false }) old.objects)
  gone other = keeps_changed place (λ object. record object { is_live = false }) other old.objects (λ one e at is. refl)

  wish : (found : Option ℕ) → MatchOption found ⊥ (λ n. Tells old reply new (Holds (Some n))) → Keeps place old.objects new.objects
  wish None p = absurd p
  wish (Some n) p = same p.1

  decodes : (target : Found _) (picture : Picture) (o : Outcome) → is_out old target.place ≡ false → Keeps place old.objects (decoded old target picture o).objects
  decodes target picture outcome.Ok at_home = home target.place _ at_home
  decodes target picture (outcome.Bitstream slice) at_home = keeps_same place old.objects
  decodes target picture (outcome.Incomplete macroblocks) at_home = keeps_same place old.objects

  first_false : (a b : Bool) → (a || b) ≡ false → a ≡ false
  first_false true b e = absurd (true≢false e)
  first_false false b e = refl

  second_false : (a b : Bool) → (a || b) ≡ false → b ≡ false
  second_false true b e = absurd (true≢false e)
  second_false false b e = e

  counts : (info : PictureInfo) (bytes : List ℕ) (on : Rendering) → Counts old reply new caller info bytes on → Keeps place old.objects new.objects
  counts info bytes on p =
      goes (units_counted info (length p.payloads)) (λ nothing. Decodes old reply new caller info p.payloads on) (λ nothing h a.
      left _ (decodes on.target a.picture a.outcome (first_false (is_out old on.target.place) (some_reference (λ found. is_out old found.place) on) a.at_home)) a.after) p.goes

  does : (asked : Call) → Does old caller asked reply new → Keeps place old.objects new.objects
  does call.DeviceCreate p = makes (device_create old) _ p
  does (call.DeviceDestroy device) p = goes (clock.device_destroy old device) _ (λ on h a. left _ (keeps_ended place on.place old.objects) a.1) p
  does (call.VideoCreate device chroma width height) p = makes (video_create old device chroma width height) _ p
  does (call.VideoParameters surface) p = goes (surfaces.video old surface) _ (λ on h a. same a.1) p
  does (call.VideoGetBits surface format count) p = goes (surfaces.video_bits old surface format count) _ (λ on h a. same a.1.1) p
  does (call.VideoPutBits surface format bytes) p = goes (surfaces.video_bits old surface format (length bytes)) _ (λ on h a. left (surfaces.with_picture old on a.1.0) (home on.place _ a.0) a.1.3.1) p
  does (call.VideoDestroy surface) p = goes (surfaces.video old surface) _ (λ on h a. left _ (gone on.place) a.1) p
  does (call.OutputCreate device format width height) p = makes (output_create old device format width height) _ p
  does (call.OutputGetBits surface count) p = goes (surfaces.output_bits old surface count) _ (λ on h a. same a.1.1) p
  does (call.OutputPutBits surface bytes) p = goes (surfaces.output_bits old surface (length bytes)) _ (λ on h a. left (surfaces.with_bytes old on bytes) (home on.place _ a.0) a.1.1) p
  does (call.OutputDestroy surface) p = goes (surfaces.output old surface) _ (λ on h a. left _ (gone on.place) a.1) p
  does (call.DecoderQuery device profile) p = goes (first_handle old (named old as_device device)) _ (λ on h a. same a.1) p
  does (call.DecoderCreate device profile width height max_references) p = makes (decoder_create old device profile width height max_references) _ p
  does (call.DecoderDestroy decoder) p = goes (surfaces.decoder old decoder) _ (λ on h a. left _ (gone on.place) a.1) p
  does (call.MixerCreate device width height) p = makes (mixer_create old device width height) _ p
  does (call.MixerSetMatrix mixer matrix) p = goes (surfaces.mixer old mixer) _ (λ on h a. left (surfaces.with_matrix old on matrix) (plain as_mixer no_mixer on (first_stands old as_mixer mixer on h) _) a.1) p
  does (call.MixerDestroy mixer) p = goes (surfaces.mixer old mixer) _ (λ on h a. left _ (gone on.place) a.1) p
  does (call.QueueCreate device window) p = makes (queue_create old device) _ p
  does (call.QueueDestroy queue) p = goes (queues.queue old queue) _ (λ on h a. left _ (plain as_queue no_queue on (first_stands old as_queue queue on h) _) a.1) p
  does (call.QueueDisplay queue surface earliest) p = goes (queues.queue_display old queue surface earliest) _ (λ on h a. left _ (plain as_queue no_queue on.queue (display_stands old queue surface earliest on h).0.0 _) a.1) p
  does (call.QueryStatus queue surface) p = goes (queues.presented old queue surface) _ (λ on h a. same a.1) p
  does (call.BlockUntilIdle queue surface) p = goes (queues.presented old queue surface) _ (λ on h a. same a.1.1) p
  does (call.GetTime queue) p = goes (queues.queue old queue) _ (λ on h a. same a.1) p
  does (call.Promise queue time) p = goes (queues.queue old queue) _ (λ on h a. left _ (plain as_queue no_queue on (first_stands old as_queue queue on h) _) a.1) p
  does (call.Advance device time) p =
      goes (clock.advance old device time) _ (λ on h a.
      let timed : State = with_content old on.place (DeviceObject (record on.value { time = time })) in
      left (clock.ticked_at old on time)
      (keeps_then place old.objects timed.objects (clock.ticked_at old on time).objects
      (plain as_device no_device on (advance_stands old device time on h) (λ object. record object { content = DeviceObject (record on.value { time = time }) }))
      (keeps_all_shown place time (clock.all_due old on.place time) timed.objects (is_out old) out a.0)) a.2) p
  does (call.Preempt device) p = goes (clock.device old device) _ (λ on h a. left _ (plain as_device no_device on (first_stands old as_device device on h) _) a.1) p
  does (call.Poll wishes) p = goes (first_wish old wishes) _ (λ on h a. same a.1) p
  does (call.WaitUntil wishes) p = goes (first_wish old wishes) _ (λ on h a. wish on a) p
  does call.Kept p = same p.1
  does (call.Render decoder target info bytes) p = goes (render old decoder target info) (Counts old reply new caller info bytes) (λ on h a. counts info bytes on a) p
  does (call.Mix mixer structure video output) p =
      goes (mix old mixer structure video output) (Mixes old reply new caller) (λ on h a.
      left _ (home on.output.place _ (second_false (is_out old on.video.place) (is_out old on.output.place) a.at_home)) a.leaves.1) p

  step : (asked : Call) → Step old caller asked reply new → Keeps place old.objects new.objects
  step asked (inl lacks) = same lacks.1.1
  step asked (inr is) = does asked is

-- ---- the laws

module _ (old new : State) (place : ℕ) (keeps : Keeps place old.objects new.objects) where
  content_keeps : {T : Type 0} (as_kind : Content → Option T) (is_one : (content : Content) (of : T) → as_kind content ≡ Some of → is_surface content ≡ true)
      → (of : T) → content_at old as_kind place ≡ Some of → content_at new as_kind place ≡ Some of
  content_keeps as_kind is_one of e = by_object (slice_get old.objects place) refl e where
    by_object : (o : Option Object) → slice_get old.objects place ≡ o → option_and_then (λ object. as_kind object.content) o ≡ Some of → content_at new as_kind place ≡ Some of
    by_object None at is = nothing_at of is
    by_object (Some one) at is =
        let k = keeps one at (is_one one.content of is) in
        ap (option_and_then (λ object. as_kind object.content)) k.1 ∙ (ap as_kind k.2 ∙ is)

  surface_keeps : KeepsSurface old new place
  surface_keeps = record { video = content_keeps as_video video_surface; output = content_keeps as_output output_surface }

-- the target of a note is out
out_of : (notes : List Note) (index : ℕ) (note : Note) → slice_get notes index ≡ Some note → list_any (λ (other : Note). other.target == note.target) notes ≡ true
out_of [] index note at = nothing_at note at
out_of (first ∷ later) zero note at =
    let same : first.target ≡ note.target = ap (λ (n : Note). n.target) (some_is first note at) in
    grind (arith, nat_tests, same)
out_of (first ∷ later) (suc index) note at = grind (arith, out_of later index note at)

pub steps_keep_targets : StepsKeepTargets
steps_keep_targets old new caller asked reply index note is at =
    (notes_stay (step_notes old new caller reply asked is), surface_keeps old new note.target (step note.target old new caller reply (out_of old.notes index note at) asked is))
  where
    notes_stay : NoteStep old new caller asked reply → slice_get new.notes index ≡ Some note
    notes_stay (inl stay) = ap (λ notes. slice_get notes index) stay.1.0 ∙ at
    notes_stay (inr begun) = ap (λ notes. slice_get notes index) begun.notes ∙ get_in old.notes _ index note at

pub counts_keep_targets : CountsKeepTargets
counts_keep_targets s index note at = (at, record { video = λ surface is. is; output = λ surface is. is })

pub ends_keep_targets : EndsKeepTargets
ends_keep_targets s caller place index note at other = (stays s.notes index at, record { video = λ surface is. is; output = λ surface is. is }) where
  stays : (notes : List Note) (index : ℕ) → slice_get notes index ≡ Some note → (k : ℕ) × (slice_get (filter (λ n. not (is_note_of caller place n)) notes) k ≡ Some note)
  stays [] index at = nothing_at note at
  stays (first ∷ later) zero at =
      let first_other : not (is_note_of caller place first) ≡ true = ap (λ n. not (is_note_of caller place n)) (some_is first note at) ∙ ap not other in
      (0, ap (λ b. slice_get (if b then first ∷ filter (λ n. not (is_note_of caller place n)) later else filter (λ n. not (is_note_of caller place n)) later) 0) first_other ∙ at)
  stays (first ∷ later) (suc index) at = by_first (not (is_note_of caller place first)) (stays later index at) where
    by_first : (b : Bool) → ((k : ℕ) × (slice_get (filter (λ n. not (is_note_of caller place n)) later) k ≡ Some note))
        → (k : ℕ) × (slice_get (if b then first ∷ filter (λ n. not (is_note_of caller place n)) later else filter (λ n. not (is_note_of caller place n)) later) k ≡ Some note)
    by_first true rest = (suc rest.0, rest.1)
    by_first false rest = rest
