-- Each step leaves the objects with what their sizes and kinds say.
use Rattle.std.proofs.Common.{◌≡◌, inl, inr, ℕ, zero, suc, ◌*◌, ◌==◌, Bool, true, false, if◌then◌else◌, List, [], ◌∷◌, length, map, replicate, slice_get, Option, Some, None, Ok, Err, MatchOption, ℤ, refl, ap, sym, ◌∙◌, subst}
use Rattle.std.specs.List.{AllByRecursion}
use Rattle.cb_types.specs.declared.picture_info.PictureInfo.{PictureInfo}
use Rattle.decoder_render.specs.Outcomes.{IsOutcome}
use Rattle.decoder_render.specs.declared.outcome.Outcome.{Outcome}
use Rattle.decoder_render.specs.declared.outcome.Outcome.TheVariants as outcome
use Rattle.vd_plane.specs.Picture.{HasSize}
use Rattle.vd_plane.specs.declared.picture.Picture.{Picture}
use Rattle.driver_model.specs.Answers.{Goes, Reply, Tells}
use Rattle.driver_model.specs.Clock as clock
use Rattle.driver_model.specs.Clock.{Due, all_shown, destroyed_on, let_go, shown, with_flip, with_tick}
use Rattle.driver_model.specs.Creates.{Creates, IsNewVideo, decoder_create, device_create, mixer_create, new_decoder, new_device, new_mixer, new_output, new_queue, output_create, queue_create, video_create}
use Rattle.driver_model.specs.Histories.{Happens, Leads}
use Rattle.driver_model.specs.Laws.{MatricesAreWhole, ObjectsAreSized}
use Rattle.driver_model.specs.Mixes.{Mixes, Mixing, mix}
use Rattle.driver_model.specs.Objects.{Content, DeviceObject, VideoObject, OutputObject, DecoderObject, MixerObject, QueueObject, VideoSurface, OutputSurface, Object, as_device, as_output, as_video}
use Rattle.driver_model.specs.Queues as queues
use Rattle.driver_model.specs.Refusals.{Looked, first_handle}
use Rattle.driver_model.specs.Renders.{Counts, Decodes, Rendering, decoded, given_now, render, units_counted}
use Rattle.driver_model.specs.Sized.{HasWholeMatrix, IsSized, IsWholeMatrix, SetsWholeMatrices}
use Rattle.driver_model.specs.Sizes.{is_rgba_format, is_same_size, pixel_bytes, size_of_sides}
use Rattle.driver_model.specs.States.{State, Found, changed_at, empty_state, named, with_content}
use Rattle.driver_model.specs.Steps.{Does, Step}
use Rattle.driver_model.specs.Surfaces as surfaces
use Rattle.driver_model.specs.Wishes.{first_wish}
use Rattle.driver_model.specs.declared.calls.Call.{Call}
use Rattle.driver_model.specs.declared.calls.Call.TheVariants as call
use Rattle.driver_model.specs.declared.items.Entry.{Entry}
use Rattle.driver_model.specs.declared.items.Item.{Item}
use Rattle.driver_model.specs.declared.items.Item.TheVariants.{Called, Ended}
use Rattle.driver_model.specs.declared.replies.Answer.TheVariants.{Holds}
use Rattle.driver_model.proofs.Named.{object_is}
use Rattle.driver_model.proofs.NoteLists.{all_more}
use Rattle.driver_model.proofs.SizedLooks.{decoder_numbers, mix_sizes, output_bits_count, output_format, render_sizes, same_back, size_of_other}
use Rattle.driver_model.proofs.SoundChanges.{nothing_there}
use Rattle.driver_model.proofs.SoundLooks.{Stands, output_bits_stands, video_bits_stands}

not_of_kind : {T : Type 0} {A : Type 0} (of : T) → (let o : Option T = None in o ≡ Some of) → A
not_of_kind of e = absurd (let k : (let o : Option _ = None in o ≡ Some of) = e in cc)

is_one : {T : Type 0} (a b : T) → Some a ≡ Some b → a ≡ b
is_one a b e = cc

video_content : (content : Content) (of : VideoSurface) → as_video content ≡ Some of → IsSized content → HasSize of.picture of.size
video_content (DeviceObject is) of e sized = not_of_kind of e
video_content (VideoObject is) of e sized = subst (λ (o : VideoSurface). HasSize o.picture o.size) (is_one is of e) sized
video_content (OutputObject is) of e sized = not_of_kind of e
video_content (DecoderObject is) of e sized = not_of_kind of e
video_content (MixerObject is) of e sized = not_of_kind of e
video_content (QueueObject is) of e sized = not_of_kind of e

output_content : (content : Content) (of : OutputSurface) → as_output content ≡ Some of → IsSized content → (is_rgba_format of.format ≡ true) × (length of.bytes ≡ pixel_bytes of.size)
output_content (DeviceObject is) of e sized = not_of_kind of e
output_content (VideoObject is) of e sized = not_of_kind of e
output_content (OutputObject is) of e sized = subst (λ (o : OutputSurface). (is_rgba_format o.format ≡ true) × (length o.bytes ≡ pixel_bytes o.size)) (is_one is of e) sized
output_content (DecoderObject is) of e sized = not_of_kind of e
output_content (MixerObject is) of e sized = not_of_kind of e
output_content (QueueObject is) of e sized = not_of_kind of e

length_replicate : (n : ℕ) → length {A = ℕ} (replicate n 0) ≡ n
length_replicate zero = refl
length_replicate (suc n) = ap (λ k. suc k) (length_replicate n)

-- Where the calls give whole matrices is a premise of its own.
module _ (Whole : Type 0) where
  abbrev Fits : Content → Type 0
  Fits content = IsSized content × (Whole → HasWholeMatrix content)

  abbrev AllFit : List Object → Type 0
  AllFit objects = AllByRecursion (λ object. Fits object.content) objects

  fit_at : (objects : List Object) (place : ℕ) (a : Object) → slice_get objects place ≡ Some a → AllFit objects → Fits a.content
  fit_at [] place a e all = nothing_there a e
  fit_at (one ∷ later) zero a e all = subst (λ (o : Object). Fits o.content) (object_is one a e) all.0
  fit_at (one ∷ later) (suc place) a e all = fit_at later place a e all.1

  fit_changed : (change : Object → Object) (place : ℕ) (objects : List Object) → ((a : Object) → slice_get objects place ≡ Some a → Fits a.content → Fits (change a).content) → AllFit objects → AllFit (changed_at place change objects)
  unfolding changed_at
  fit_changed change place [] keeps all = tt
  fit_changed change zero (one ∷ later) keeps all = (keeps one refl all.0, all.1)
  fit_changed change (suc place) (one ∷ later) keeps all = (all.0, fit_changed change place later keeps all.1)

  fit_map : (change : Object → Object) → ((a : Object) → Fits a.content → Fits (change a).content) → (objects : List Object) → AllFit objects → AllFit (map change objects)
  fit_map change keeps [] all = tt
  fit_map change keeps (one ∷ later) all = (keeps one all.0, fit_map change keeps later all.1)

  fit_let_go : (content : Content) → Fits content → Fits (let_go content)
  fit_let_go (DeviceObject of) fits = fits
  fit_let_go (VideoObject of) fits = fits
  fit_let_go (OutputObject of) fits = fits
  fit_let_go (DecoderObject of) fits = fits
  fit_let_go (MixerObject of) fits = fits
  fit_let_go (QueueObject of) fits = (tt, λ whole. tt)

  fit_with_tick : (time : ℕ) (content : Content) → Fits content → Fits (with_tick time content)
  fit_with_tick time (DeviceObject of) fits = fits
  fit_with_tick time (VideoObject of) fits = fits
  fit_with_tick time (OutputObject of) fits = fits
  fit_with_tick time (DecoderObject of) fits = fits
  fit_with_tick time (MixerObject of) fits = fits
  fit_with_tick time (QueueObject of) fits = (tt, λ whole. tt)

  fit_with_flip : (queue time : ℕ) (content : Content) → Fits content → Fits (with_flip queue time content)
  fit_with_flip queue time (DeviceObject of) fits = fits
  fit_with_flip queue time (VideoObject of) fits = fits
  fit_with_flip queue time (OutputObject of) fits = fits
  fit_with_flip queue time (DecoderObject of) fits = fits
  fit_with_flip queue time (MixerObject of) fits = fits
  fit_with_flip queue time (QueueObject of) fits = fits

  fit_shown : (time : ℕ) (due : Due) (objects : List Object) → AllFit objects → AllFit (shown time due objects)
  fit_shown time due objects all =
      let tick : Object → Object = λ object. record object { content = with_tick time object.content } in
      let flip : Object → Object = λ object. record object { content = with_flip due.queue time object.content } in
      fit_changed flip due.surface (changed_at due.queue tick objects) (λ a e fits. fit_with_flip due.queue time a.content fits)
      (fit_changed tick due.queue objects (λ a e fits. fit_with_tick time a.content fits) all)

  fit_all_shown : (time : ℕ) (dues : List Due) (objects : List Object) → AllFit objects → AllFit (all_shown time dues objects)
  unfolding all_shown
  fit_all_shown time [] objects all = all
  fit_all_shown time (due ∷ later) objects all = fit_all_shown time later (shown time due objects) (fit_shown time due objects all)

  fit_destroyed_on : (on : ℕ) (objects : List Object) → AllFit objects → AllFit (map (destroyed_on on) objects)
  fit_destroyed_on on = fit_map (destroyed_on on) (λ a fits. by_device (a.device == on) a fits) where
    by_device : (is_its : Bool) (a : Object) → Fits a.content → Fits (if is_its then record a { is_live = false; content = let_go a.content } else a).content
    by_device true a fits = fit_let_go a.content fits
    by_device false a fits = fits

  -- ---- one step

  module _ (old new : State) (caller : List ℕ) (reply : Reply) (all : AllFit old.objects) where
    left : (after : State) → AllFit after.objects → new ≡ after → AllFit new.objects
    left after is e = subst (λ (t : State). AllFit t.objects) (sym e) is

    goes_fit : {A : Type 0} (looked : Looked A) (D : A → Type 0) → ((on : A) → looked ≡ Ok on → D on → AllFit new.objects) → Goes old reply new looked D → AllFit new.objects
    goes_fit (Ok on) D row p = row on refl p
    goes_fit (Err r) D row p = left old all p.1

    creates_fit : (looked : Looked ℕ) (IsContent : Content → Type 0) → ((place : ℕ) → looked ≡ Ok place → (content : Content) → IsContent content → Fits content) → Creates old reply new looked IsContent → AllFit new.objects
    creates_fit (Err r) IsContent is p = left old all p.1
    creates_fit (Ok device) IsContent is (inr p) = left old all p.1.1
    creates_fit (Ok device) IsContent is (inl p) =
        let one : Object = record { name = p.name; device = device; is_live = true; content = p.content } in
        left _ (all_more (λ (object : Object). Fits object.content) old.objects one all (is device refl p.content p.is_content)) p.after

    content_fit : (place : ℕ) (content : Content) → Fits content → AllFit (with_content old place content).objects
    content_fit place content fits = fit_changed (λ object. record object { content = content }) place old.objects (λ a e was. fits) all

    gone_fit : (place : ℕ) → AllFit (changed_at place (λ object. record object { is_live = false }) old.objects)
    gone_fit place = fit_changed (λ object. record object { is_live = false }) place old.objects (λ a e was. was) all

    video_fits : (on : Found VideoSurface) → Stands old as_video on → HasSize on.value.picture on.value.size
    video_fits on is = video_content is.0.content on.value is.4 (fit_at old.objects on.place is.0 is.1 all).0

    output_fits : (on : Found OutputSurface) → Stands old as_output on → (bytes : List ℕ) → length bytes ≡ pixel_bytes on.value.size → Fits (OutputObject (record on.value { bytes = bytes }))
    output_fits on is bytes count = (((output_content is.0.content on.value is.4 (fit_at old.objects on.place is.0 is.1 all).0).0, count), λ whole. tt)

    wish_fit : (place : Option ℕ) → MatchOption place ⊥ (λ found. Tells old reply new (Holds (Some found))) → AllFit new.objects
    wish_fit None p = absurd p
    wish_fit (Some found) p = left old all p.1

    decoded_fit : (info : PictureInfo) (payloads : List (Option (List ℕ))) (on : Rendering) (picture : Picture) (o : Outcome) → is_same_size on.target.value.size on.decoder.value.size ≡ true → IsOutcome (given_now info on) payloads o picture
        → AllFit (decoded old on.target picture o).objects
    decoded_fit info payloads on picture outcome.Ok same is =
        let of_decoder : HasSize picture on.decoder.value.size = record { width = ap (λ a. a.width) is.decoded.y ∙ is.decoded.size.width; height = ap (λ a. a.height) is.decoded.y ∙ is.decoded.size.height } in
        content_fit on.target.place (VideoObject (record on.target.value { picture = picture }))
        (size_of_other on.decoder.value.size on.target.value.size picture (same_back on.target.value.size on.decoder.value.size same) of_decoder, λ whole. tt)
    decoded_fit info payloads on picture (outcome.Bitstream slice) same is = all
    decoded_fit info payloads on picture (outcome.Incomplete macroblocks) same is = all

    counts_fit : (info : PictureInfo) (bytes : List ℕ) (on : Rendering) → is_same_size on.target.value.size on.decoder.value.size ≡ true → Counts old reply new caller info bytes on → AllFit new.objects
    counts_fit info bytes on same p =
        goes_fit (units_counted info (length p.payloads)) (λ nothing. Decodes old reply new caller info p.payloads on) (λ nothing h a. left _ (decoded_fit info p.payloads on a.picture a.outcome same a.is_outcome) a.after) p.goes

    mix_fit : (handle structure surface onto : ℕ) (on : Mixing) → mix old handle structure surface onto ≡ Ok on → Mixes old reply new caller on → AllFit new.objects
    mix_fit handle structure surface onto on h p =
        let is = mix_sizes old handle structure surface onto on h in
        let picture : Picture = on.video.value.picture in
        let of_mixer = size_of_other on.video.value.size on.mixer.value.size picture (same_back on.mixer.value.size on.video.value.size is.2) (video_fits on.video is.0) in
        let of_output = size_of_other on.mixer.value.size on.output.value.size picture is.3 of_mixer in
        left _ (content_fit on.output.place _ (output_fits on.output is.1 p.bytes (p.pixels.count ∙ (λ i. 4 * (of_output.width i * of_output.height i))))) p.leaves.1

    -- the call gives a whole matrix, if it sets one
    abbrev GivesWhole : Call → Type 0
    GivesWhole asked = (mixer : ℕ) (matrix : List ℤ) → asked ≡ call.MixerSetMatrix mixer matrix → Whole → IsWholeMatrix matrix

    does_fit : (asked : Call) → GivesWhole asked → Does old caller asked reply new → AllFit new.objects
    does_fit call.DeviceCreate gives p = creates_fit (device_create old) (λ content. content ≡ new_device) (λ place h content e. subst Fits (sym e) (tt, λ whole. tt)) p
    does_fit (call.DeviceDestroy device) gives p = goes_fit (clock.device_destroy old device) _ (λ on h a. left _ (fit_destroyed_on on.place old.objects all) a.1) p
    does_fit (call.VideoCreate device chroma width height) gives p =
        creates_fit (video_create old device chroma width height) (IsNewVideo width height)
        (λ place h content e. subst Fits (sym e.2) (record { width = ap (λ a. a.width) e.1.y; height = ap (λ a. a.height) e.1.y }, λ whole. tt)) p
    does_fit (call.VideoParameters surface) gives p = goes_fit (surfaces.video old surface) _ (λ on h a. left old all a.1) p
    does_fit (call.VideoGetBits surface format count) gives p = goes_fit (surfaces.video_bits old surface format count) _ (λ on h a. left old all a.1.1) p
    does_fit (call.VideoPutBits surface format bytes) gives p =
        goes_fit (surfaces.video_bits old surface format (length bytes)) _ (λ on h a.
        let was = video_fits on (video_bits_stands old surface format (length bytes) on h) in
        let now : HasSize a.1.0 on.value.size = record { width = a.1.1.y.width ∙ was.width; height = a.1.1.y.height ∙ was.height } in
        left (surfaces.with_picture old on a.1.0) (content_fit on.place (VideoObject (record on.value { picture = a.1.0 })) (now, λ whole. tt)) a.1.3.1) p
    does_fit (call.VideoDestroy surface) gives p = goes_fit (surfaces.video old surface) _ (λ on h a. left _ (gone_fit on.place) a.1) p
    does_fit (call.OutputCreate device format width height) gives p =
        creates_fit (output_create old device format width height) (λ content. content ≡ new_output format width height)
        (λ place h content e. subst Fits (sym e) ((output_format old device format width height place h, length_replicate (pixel_bytes (size_of_sides width height))), λ whole. tt)) p
    does_fit (call.OutputGetBits surface count) gives p = goes_fit (surfaces.output_bits old surface count) _ (λ on h a. left old all a.1.1) p
    does_fit (call.OutputPutBits surface bytes) gives p =
        goes_fit (surfaces.output_bits old surface (length bytes)) _ (λ on h a.
        left (surfaces.with_bytes old on bytes) (content_fit on.place _ (output_fits on (output_bits_stands old surface (length bytes) on h) bytes (output_bits_count old surface (length bytes) on h))) a.1.1) p
    does_fit (call.OutputDestroy surface) gives p = goes_fit (surfaces.output old surface) _ (λ on h a. left _ (gone_fit on.place) a.1) p
    does_fit (call.DecoderQuery device profile) gives p = goes_fit (first_handle old (named old as_device device)) _ (λ on h a. left old all a.1) p
    does_fit (call.DecoderCreate device profile width height max_references) gives p =
        creates_fit (decoder_create old device profile width height max_references) (λ content. content ≡ new_decoder profile width height max_references)
        (λ place h content e. subst Fits (sym e) (decoder_numbers old device profile width height max_references place h, λ whole. tt)) p
    does_fit (call.DecoderDestroy decoder) gives p = goes_fit (surfaces.decoder old decoder) _ (λ on h a. left _ (gone_fit on.place) a.1) p
    does_fit (call.MixerCreate device width height) gives p = creates_fit (mixer_create old device width height) (λ content. content ≡ new_mixer width height) (λ place h content e. subst Fits (sym e) (tt, λ whole. refl)) p
    does_fit (call.MixerSetMatrix mixer matrix) gives p =
        goes_fit (surfaces.mixer old mixer) _ (λ on h a. left (surfaces.with_matrix old on matrix) (content_fit on.place (MixerObject (record on.value { matrix = matrix })) (tt, λ whole. gives mixer matrix refl whole)) a.1) p
    does_fit (call.MixerDestroy mixer) gives p = goes_fit (surfaces.mixer old mixer) _ (λ on h a. left _ (gone_fit on.place) a.1) p
    does_fit (call.QueueCreate device window) gives p = creates_fit (queue_create old device) (λ content. content ≡ new_queue window) (λ place h content e. subst Fits (sym e) (tt, λ whole. tt)) p
    does_fit (call.QueueDestroy queue) gives p =
        goes_fit (queues.queue old queue) _ (λ on h a.
        left _ (fit_changed (λ object. record object { is_live = false; content = QueueObject (queues.emptied on.value) }) on.place old.objects (λ b e was. (tt, λ whole. tt)) all) a.1) p
    does_fit (call.QueueDisplay queue surface earliest) gives p = goes_fit (queues.queue_display old queue surface earliest) _ (λ on h a. left _ (content_fit on.queue.place _ (tt, λ whole. tt)) a.1) p
    does_fit (call.QueryStatus queue surface) gives p = goes_fit (queues.presented old queue surface) _ (λ on h a. left old all a.1) p
    does_fit (call.BlockUntilIdle queue surface) gives p = goes_fit (queues.presented old queue surface) _ (λ on h a. left old all a.1.1) p
    does_fit (call.GetTime queue) gives p = goes_fit (queues.queue old queue) _ (λ on h a. left old all a.1) p
    does_fit (call.Promise queue time) gives p = goes_fit (queues.queue old queue) _ (λ on h a. left _ (content_fit on.place _ (tt, λ whole. tt)) a.1) p
    does_fit (call.Advance device time) gives p =
        goes_fit (clock.advance old device time) _ (λ on h a.
        left _ (fit_all_shown time (clock.all_due old on.place time) _ (content_fit on.place (DeviceObject (record on.value { time = time })) (tt, λ whole. tt))) a.2) p
    does_fit (call.Preempt device) gives p = goes_fit (clock.device old device) _ (λ on h a. left _ (content_fit on.place _ (tt, λ whole. tt)) a.1) p
    does_fit (call.Poll wishes) gives p = goes_fit (first_wish old wishes) _ (λ on h a. left old all a.1) p
    does_fit (call.WaitUntil wishes) gives p = goes_fit (first_wish old wishes) _ (λ on h a. wish_fit on a) p
    does_fit call.Kept gives p = left old all p.1
    does_fit (call.Render decoder target info bytes) gives p =
        goes_fit (render old decoder target info) (Counts old reply new caller info bytes) (λ on h a. counts_fit info bytes on (render_sizes old decoder target info on h) a) p
    does_fit (call.Mix mixer structure video output) gives p =
        goes_fit (mix old mixer structure video output) (Mixes old reply new caller) (λ on h a. mix_fit mixer structure video output on h a) p

    step_fit : (asked : Call) → GivesWhole asked → Step old caller asked reply new → AllFit new.objects
    step_fit asked gives (inl lacks) = left old all lacks.1.1
    step_fit asked gives (inr does) = does_fit asked gives does

  -- ---- a history

  happens_fit : (s t : State) (item : Item) → ((entry : Entry) (mixer : ℕ) (matrix : List ℤ) → item ≡ Called entry → entry.call ≡ call.MixerSetMatrix mixer matrix → Whole → IsWholeMatrix matrix)
      → AllFit s.objects → Happens s item t → AllFit t.objects
  happens_fit s t (Called entry) gives all h = subst (λ (u : State). AllFit u.objects) (sym h.2) (step_fit s h.0 entry.caller entry.reply all entry.call (λ mixer matrix e whole. gives entry mixer matrix refl e whole) h.1)
  happens_fit s t (Ended mark) gives all h = subst (λ (u : State). AllFit u.objects) (sym h.1) all

  leads_fit : (s t : State) (history : List Item) → (Whole → SetsWholeMatrices history) → AllFit s.objects → Leads s history t → AllFit t.objects
  unfolding Leads
  leads_fit s t [] gives all leads = subst (λ (u : State). AllFit u.objects) (sym leads) all
  leads_fit s t (item ∷ later) gives all leads =
      leads_fit leads.0 t later (λ whole place entry mixer matrix at is. gives whole (suc place) entry mixer matrix at is)
      (happens_fit s leads.0 item (λ entry mixer matrix same is whole. gives whole 0 entry mixer matrix (ap (λ (x : Item). Some x) same) is) all leads.1) leads.2

all_so : (P Q : Object → Type 0) → ((a : Object) → P a → Q a) → (objects : List Object) → AllByRecursion P objects → AllByRecursion Q objects
all_so P Q so [] all = tt
all_so P Q so (a ∷ objects) all = (so a all.0, all_so P Q so objects all.1)

pub objects_are_sized : ObjectsAreSized
objects_are_sized history s leads =
    all_so (λ a. IsSized a.content × (⊥ → HasWholeMatrix a.content)) (λ a. IsSized a.content) (λ a fits. fits.0) s.objects (leads_fit ⊥ empty_state s history (λ whole. absurd whole) tt leads)

pub matrices_are_whole : MatricesAreWhole
matrices_are_whole history s leads whole =
    all_so (λ a. IsSized a.content × (SetsWholeMatrices history → HasWholeMatrix a.content)) (λ a. HasWholeMatrix a.content) (λ a fits. fits.1 whole) s.objects
    (leads_fit (SetsWholeMatrices history) empty_state s history (λ is. is) tt leads)
