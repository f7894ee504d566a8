-- What each call does to queues and to the pixels of surfaces.
use Rattle.std.proofs.Common.{◌≡◌, ◌≢◌, ◌⊎◌, inl, inr, ℕ, zero, suc, ◌==◌, ◌≤◌, nat_lt, Bool, true, false, if◌then◌else◌, List, [], ◌∷◌, length, map, slice_get, Option, Some, None, Ok, Err, MatchOption, refl, ap, sym, ◌∙◌, subst, arith}
use Rattle.std.proofs.lemmas.Bool.{cases_eq}
use Rattle.std.proofs.lemmas.Bool.Decides.{nat_tests}
use Rattle.std.specs.Option.{ok_or}
use Rattle.cb_types.specs.declared.picture_info.PictureInfo.{PictureInfo}
use Rattle.decoder_render.specs.declared.outcome.Outcome.{Outcome}
use Rattle.decoder_render.specs.declared.outcome.Outcome.TheVariants as outcome
use Rattle.present_queue.specs.Queue.{Queue, answer_to_display, displayed, promised}
use Rattle.vd_plane.specs.declared.picture.Picture.{Picture}
use Rattle.vd_status.specs.declared.refusal.Refusal.{Refusal}
use Rattle.vd_status.specs.declared.refusal.Refusal.TheVariants.{EarlierThanPromise, InvalidHandle, OutOfMemory, QueueFull}
use Rattle.driver_model.specs.Answers.{Goes, Leaves, Reply, Tells}
use Rattle.driver_model.specs.Clock as clock
use Rattle.driver_model.specs.Creates.{Creates, IsNewVideo, decoder_create, device_create, mixer_create, new_queue, output_create, queue_create, video_create}
use Rattle.driver_model.specs.FlipText.{flips_told}
use Rattle.driver_model.specs.Jobs.{reply_of}
use Rattle.driver_model.specs.Mixes.{Mixes, mix}
use Rattle.driver_model.specs.Objects.{Content, DeviceObject, VideoObject, OutputObject, QueueObject, Device, VideoSurface, OutputSurface, PresentationQueue, Object, as_decoder, as_device, as_mixer, as_output, as_queue, as_video}
use Rattle.driver_model.specs.Parts.{first_name, name_given}
use Rattle.driver_model.specs.Queues as queues
use Rattle.driver_model.specs.Queues.{QueueAndSurface}
use Rattle.driver_model.specs.Refusals.{Looked, ◌>>=◌, ◌>>◌, first_handle, further_handle}
use Rattle.driver_model.specs.Renders.{Counts, Decodes, Rendering, decoded, render, units_counted}
use Rattle.driver_model.specs.States.{State, Found, changed_at, destroyed, destroyed_with, is_given, named, with_content, with_object}
use Rattle.driver_model.specs.Steps.{Does, Step}
use Rattle.driver_model.specs.Surfaces as surfaces
use Rattle.driver_model.specs.Wishes.{first_wish}
use Rattle.driver_model.specs.declared.calls.Call.{Call}
use Rattle.driver_model.specs.declared.calls.Call.TheVariants as call
use Rattle.driver_model.specs.declared.replies.Answer.{Answer}
use Rattle.driver_model.specs.declared.replies.Answer.TheVariants.{Done, Flips, Holds, Name}
use Rattle.driver_model.proofs.Looks.{err_not_ok, first_handle-Ok, ok_is, then_ok, unless_ok}
use Rattle.driver_model.proofs.Named.{object_is, named-Some}
use Rattle.driver_model.proofs.OwedPlaces.{changed_here}
use Rattle.driver_model.proofs.PartFirsts.{advance_named, mix_named, output_bits_named, queue_made, render_named, video_bits_named}
use Rattle.driver_model.proofs.SoundLooks.{Stands, first_stands, further-Ok, named_stands}
use Rattle.player_laws.specs.Displays.{asked_in, tick_in}

-- ---- what an object keeps

-- The object keeps its name and its device; as a queue it keeps what it has, and its life; and as a surface its pixels.
pub record Kept (a b : Object) : Type 0 where
  pub name : b.name ≡ a.name
  pub device : b.device ≡ a.device
  pub queue : (of : PresentationQueue) → a.content ≡ QueueObject of → (b.content ≡ QueueObject of) × (b.is_live ≡ a.is_live)
  pub output : (of : OutputSurface) → a.content ≡ OutputObject of → (now : OutputSurface) × (b.content ≡ OutputObject now) × (now.format ≡ of.format) × (now.size ≡ of.size) × (now.bytes ≡ of.bytes)

pub kept_same : (a : Object) → Kept a a
kept_same a = record { name = refl; device = refl; queue = λ of e. (e, refl); output = λ of e. (of, e, refl, refl, refl) }

pub kept_then : (a b c : Object) → Kept a b → Kept b c → Kept a c
kept_then a b c one two = record {
  name = two.name ∙ one.name;
  device = two.device ∙ one.device;
  queue = λ of e.
      let p = one.queue of e in
      let r = two.queue of p.0 in
      (r.0, r.1 ∙ p.1);
  output = λ of e.
      let p = one.output of e in
      let r = two.output p.0 p.1 in
      (r.0, r.1, r.2 ∙ p.2, r.3 ∙ p.3, r.4 ∙ p.4);
}

-- so does each object of the list, but at this place if there is one
abbrev pub AllKept : List Object → List Object → Type 0
AllKept old new = (place : ℕ) (a : Object) → slice_get old place ≡ Some a → (b : Object) × (slice_get new place ≡ Some b) × Kept a b

pub all_kept : (objects : List Object) → AllKept objects objects
all_kept objects place a e = (a, e, kept_same a)

pub changed_other : (change : Object → Object) (other place : ℕ) (objects : List Object) → other ≢ place → slice_get (changed_at other change objects) place ≡ slice_get objects place
unfolding changed_at
changed_other change other place [] apart = refl
changed_other change zero zero (first ∷ later) apart = absurd (apart refl)
changed_other change zero (suc place) (first ∷ later) apart = refl
changed_other change (suc other) zero (first ∷ later) apart = refl
changed_other change (suc other) (suc place) (first ∷ later) apart = changed_other change other place later (λ e. apart (ap suc e))

-- a change of one object that keeps it
pub kept_changed : (change : Object → Object) (other : ℕ) (objects : List Object) → ((a : Object) → slice_get objects other ≡ Some a → Kept a (change a)) → AllKept objects (changed_at other change objects)
kept_changed change other objects keeps place a e = elim (cases_eq other place) [
  | inl same ↦ (change a, changed_here change other place objects a same e, keeps a (ap (slice_get objects) same ∙ e))
  | inr apart ↦ (a, changed_other change other place objects apart ∙ e, kept_same a)
]

-- ---- what a call does

pub record Calm (queue device : ℕ) (old : State) (asked : Call) (reply : Reply) : Type 0 where
  pub asks : asked_in old queue asked reply ≡ []
  pub ticks : tick_in device asked reply ≡ None
  pub tells : flips_told reply ≡ []

-- Every queue and every surface's pixels stay.
pub record Quiet (queue device : ℕ) (old new : State) (asked : Call) (reply : Reply) : Type 0 where
  pub calm : Calm queue device old asked reply
  pub gives : name_given reply ≡ None
  pub kept : AllKept old.objects new.objects

-- An object is made, which is no queue or an empty one on the device that the call names first.
pub record IsNewQueue (old : State) (asked : Call) (one : Object) : Type 0 where
  pub window : ℕ
  pub content : one.content ≡ new_queue window
  pub live : one.is_live ≡ true
  pub root : Object
  pub stands : slice_get old.objects one.device ≡ Some root
  pub first : first_name asked ≡ Some root.name
  pub handle : ℕ
  pub created : asked ≡ call.QueueCreate handle window

pub record Grows (queue device : ℕ) (old new : State) (asked : Call) (reply : Reply) : Type 0 where
  pub calm : Calm queue device old asked reply
  pub one : Object
  pub grows : new ≡ with_object old one
  pub answers : reply ≡ Ok (Name one.name)
  pub gives : name_given reply ≡ Some one.name
  pub fresh : is_given old one.name ≡ false
  pub kind : (as_queue one.content ≡ None) ⊎ IsNewQueue old asked one

pub record Displays (old new : State) (asked : Call) (reply : Reply) : Type 0 where
  pub handle : ℕ
  pub surface : ℕ
  pub earliest : ℕ
  pub is_call : asked ≡ call.QueueDisplay handle surface earliest
  pub answers : reply ≡ Ok Done
  pub on : Found PresentationQueue
  pub queue : named old as_queue handle ≡ Some on
  pub of : Found OutputSurface
  pub shown : named old as_output surface ≡ Some of
  pub in_time : on.value.queue.promise ≤ earliest
  pub leaves : new ≡ queues.with_queue old on (displayed on.value.queue (record { surface = of.place; earliest = earliest }))

pub record Promises (old new : State) (asked : Call) (reply : Reply) : Type 0 where
  pub handle : ℕ
  pub time : ℕ
  pub is_call : asked ≡ call.Promise handle time
  pub answers : reply ≡ Ok Done
  pub on : Found PresentationQueue
  pub queue : named old as_queue handle ≡ Some on
  pub leaves : new ≡ queues.with_queue old on (promised on.value.queue time)

pub record QueueEnds (old new : State) (asked : Call) (reply : Reply) : Type 0 where
  pub handle : ℕ
  pub is_call : asked ≡ call.QueueDestroy handle
  pub answers : reply ≡ Ok Done
  pub on : Found PresentationQueue
  pub queue : named old as_queue handle ≡ Some on
  pub leaves : new ≡ destroyed_with old on.place (QueueObject (queues.emptied on.value))

pub record DeviceEnds (old new : State) (asked : Call) (reply : Reply) : Type 0 where
  pub handle : ℕ
  pub is_call : asked ≡ call.DeviceDestroy handle
  pub answers : reply ≡ Ok Done
  pub on : Found Device
  pub device : named old as_device handle ≡ Some on
  pub leaves : new ≡ record old { objects = map (clock.destroyed_on on.place) old.objects }

abbrev pub IsPut : Call → ℕ → Type 0
IsPut asked surface = (bytes : List ℕ) × (asked ≡ call.OutputPutBits surface bytes)

abbrev pub IsMix : Call → ℕ → Type 0
IsMix asked surface = (mixer : ℕ) × (structure : ℕ) × (video : ℕ) × (asked ≡ call.Mix mixer structure video surface)

pub record Writes (old new : State) (asked : Call) (reply : Reply) : Type 0 where
  pub surface : ℕ
  pub is_call : IsPut asked surface ⊎ IsMix asked surface
  pub answers : reply ≡ Ok Done
  pub on : Found OutputSurface
  pub output : named old as_output surface ≡ Some on
  pub content : Content
  pub leaves : new.objects ≡ (with_content old on.place content).objects

pub record Ticks (old new : State) (asked : Call) (reply : Reply) : Type 0 where
  pub handle : ℕ
  pub time : ℕ
  pub is_call : asked ≡ call.Advance handle time
  pub on : Found Device
  pub device : named old as_device handle ≡ Some on
  pub answers : reply ≡ Ok (Flips (map (clock.flip_of old time) (clock.all_due old on.place time)))
  pub leaves : new ≡ clock.ticked_at old on time

pub data Kind (queue device : ℕ) (old new : State) (asked : Call) (reply : Reply) : Type 0 where
  IsQuiet : Quiet queue device old new asked reply → Kind queue device old new asked reply
  IsGrown : Grows queue device old new asked reply → Kind queue device old new asked reply
  IsDisplay : Displays old new asked reply → Kind queue device old new asked reply
  IsPromise : Promises old new asked reply → Kind queue device old new asked reply
  IsQueueEnd : QueueEnds old new asked reply → Kind queue device old new asked reply
  IsDeviceEnd : DeviceEnds old new asked reply → Kind queue device old new asked reply
  IsWrite : Writes old new asked reply → Kind queue device old new asked reply
  IsTick : Ticks old new asked reply → Kind queue device old new asked reply

-- ---- looks

displayed_finds : (s : State) (handle surface earliest : ℕ) (on : QueueAndSurface) → queues.queue_display s handle surface earliest ≡ Ok on
    → (named s as_queue handle ≡ Some on.queue) × (named s as_output surface ≡ Some on.surface) × (on.queue.value.queue.promise ≤ earliest)
displayed_finds s handle surface earliest on h =
    let checked : QueueAndSurface → Looked QueueAndSurface = λ at. answer_to_display at.queue.value.queue earliest >> Ok at in
    let first = then_ok (queues.presented s handle surface) checked on h in
    let second = unless_ok (answer_to_display first.0.queue.value.queue earliest) (Ok first.0) on first.2 in
    let is : first.0 ≡ on = ok_is first.0 on second.1 in
    let presented : queues.presented s handle surface ≡ Ok on = first.1 ∙ ap (λ (q : QueueAndSurface). Ok q) is in
    let of_queue : Found PresentationQueue → Looked QueueAndSurface = λ q. further_handle 1 q.device (named s as_output surface) >>= λ o. Ok (record { queue = q; surface = o }) in
    let third = then_ok (queues.queue s handle) of_queue on presented in
    let of_surface : Found OutputSurface → Looked QueueAndSurface = λ o. Ok (record { queue = third.0; surface = o }) in
    let fourth = then_ok (further_handle 1 third.0.device (named s as_output surface)) of_surface on third.2 in
    let both : record { queue = third.0; surface = fourth.0 } ≡ on = ok_is (record { queue = third.0; surface = fourth.0 }) on fourth.2 in
    let named_queue : named s as_queue handle ≡ Some on.queue = first_handle-Ok s (named s as_queue handle) third.0 third.1 ∙ ap (λ (q : QueueAndSurface). Some q.queue) both in
    let named_surface : named s as_output surface ≡ Some on.surface = (further-Ok 1 third.0.device (named s as_output surface) fourth.0 fourth.1).0 ∙ ap (λ (q : QueueAndSurface). Some q.surface) both in
    (named_queue, named_surface, in_time on.queue.value.queue (ap (λ (q : QueueAndSurface). answer_to_display q.queue.value.queue earliest) (sym is) ∙ second.0))
  where
    in_time : (of : Queue ℕ) → answer_to_display of earliest ≡ Ok tt → of.promise ≤ earliest
    in_time of e = by_tests (length of.entries == 64) (nat_lt earliest of.promise) refl e where
      by_tests : (a b : Bool) → nat_lt earliest of.promise ≡ b → (let m : Looked (Unit {0}) = if a then Err QueueFull else if b then Err (EarlierThanPromise of.promise) else Ok tt in m ≡ Ok tt) → of.promise ≤ earliest
      by_tests true b k r = absurd (err_not_ok QueueFull tt r)
      by_tests false true k r = absurd (err_not_ok (EarlierThanPromise of.promise) tt r)
      by_tests false false k r = grind (arith, nat_tests)

destroyed_finds : (s : State) (name : ℕ) (on : Found Device) → clock.device_destroy s name ≡ Ok on → named s as_device name ≡ Some on
destroyed_finds s name on h = by_option (named s as_device name) h where
  by_option : (o : Option (Found Device)) → ok_or o (InvalidHandle 0) ≡ Ok on → o ≡ Some on
  by_option None k = absurd (err_not_ok (InvalidHandle 0) on k)
  by_option (Some found) k = ap (λ (f : Found Device). Some f) (ok_is found on k)

asked-refused : (queue : ℕ) (s : State) (asked : Call) (r : Refusal) → asked_in s queue asked (Err r) ≡ []
asked-refused queue s (call.QueueDisplay on surface earliest) r = refl
asked-refused queue s other r = refl

tick-refused : (device : ℕ) (asked : Call) (r : Refusal) → tick_in device asked (Err r) ≡ None
tick-refused device (call.Advance on time) r = refl
tick-refused device other r = refl

none_some : {T A : Type 0} (value : T) → (let o : Option T = None in o ≡ Some value) → A
none_some {T} value e = absurd (let k : (let o : Option T = None in o ≡ Some value) = e in cc)

-- ---- each call

module _ (queue device : ℕ) (old new : State) (caller : List ℕ) (reply : Reply) where
  abbrev Is : Call → Type 0
  Is asked = Kind queue device old new asked reply

  same_kept : new ≡ old → AllKept old.objects new.objects
  same_kept same = subst (λ (u : State). AllKept old.objects u.objects) (sym same) (all_kept old.objects)

  refused : (asked : Call) (r : Refusal) → reply ≡ Err r → new ≡ old → Is asked
  refused asked r tells same = IsQuiet (record {
    calm = record { asks = ap (asked_in old queue asked) tells ∙ asked-refused queue old asked r; ticks = ap (tick_in device asked) tells ∙ tick-refused device asked r; tells = ap flips_told tells };
    gives = ap name_given tells;
    kept = same_kept same;
  })

  -- the call asks for nothing, and answers something
  quiet : (asked : Call) (x : Answer) → asked_in old queue asked reply ≡ [] → tick_in device asked reply ≡ None → (let r : Reply = Ok x in flips_told r ≡ []) → (let r : Reply = Ok x in name_given r ≡ None) → reply ≡ Ok x → AllKept old.objects new.objects → Is asked
  quiet asked x asks ticks none nameless tells kept = IsQuiet (record { calm = record { asks = asks; ticks = ticks; tells = ap flips_told tells ∙ none }; gives = ap name_given tells ∙ nameless; kept = kept })

  told : (asked : Call) (x : Answer) → asked_in old queue asked reply ≡ [] → tick_in device asked reply ≡ None → (let r : Reply = Ok x in flips_told r ≡ []) → (let r : Reply = Ok x in name_given r ≡ None) → Tells old reply new x → Is asked
  told asked x asks ticks none nameless p = quiet asked x asks ticks none nameless p.0 (same_kept p.1)

  goes : {A : Type 0} (asked : Call) (looked : Looked A) (D : A → Type 0) → ((on : A) → looked ≡ Ok on → D on → Is asked) → Goes old reply new looked D → Is asked
  goes asked (Ok on) D row p = row on refl p
  goes asked (Err r) D row p = refused asked r p.0 p.1

  -- ---- changes of what is no queue and no pixels

  left : (after : State) → AllKept old.objects after.objects → new ≡ after → AllKept old.objects new.objects
  left after kept e = subst (λ (u : State). AllKept old.objects u.objects) (sym e) kept

  left_objects : (objects : List Object) → AllKept old.objects objects → new.objects ≡ objects → AllKept old.objects new.objects
  left_objects objects kept e = subst (AllKept old.objects) (sym e) kept

  module _ {T : Type 0} (as_kind : Content → Option T) (no_queue : (of : PresentationQueue) → as_kind (QueueObject of) ≡ None) (on : Found T) (stands : Stands old as_kind on) where
    not_queue : {A : Type 0} (a : Object) (of : PresentationQueue) → slice_get old.objects on.place ≡ Some a → a.content ≡ QueueObject of → A
    not_queue a of e is =
        let same : stands.0 ≡ a = object_is stands.0 a (sym stands.1 ∙ e) in
        none_some on.value (sym (no_queue of) ∙ (ap as_kind (sym is) ∙ (ap (λ (o : Object). as_kind o.content) (sym same) ∙ stands.4)))

    gone_kept : AllKept old.objects (destroyed old on.place).objects
    gone_kept =
        kept_changed (λ object. record object { is_live = false }) on.place old.objects
        (λ a e. record { name = refl; device = refl; queue = λ of is. not_queue a of e is; output = λ of is. (of, is, refl, refl, refl) })

    content_kept : ((of : OutputSurface) → as_kind (OutputObject of) ≡ None) → (content : Content) → AllKept old.objects (with_content old on.place content).objects
    content_kept no_output content =
        kept_changed (λ object. record object { content = content }) on.place old.objects (λ a e. record {
          name = refl;
          device = refl;
          queue = λ of is. not_queue a of e is;
          output = λ of is.
              let same : stands.0 ≡ a = object_is stands.0 a (sym stands.1 ∙ e) in
              none_some on.value (sym (no_output of) ∙ (ap as_kind (sym is) ∙ (ap (λ (o : Object). as_kind o.content) (sym same) ∙ stands.4)));
        })

  gone : {T : Type 0} (as_kind : Content → Option T) (asked : Call) (name : ℕ) (on : Found T) → ((of : PresentationQueue) → as_kind (QueueObject of) ≡ None) → asked_in old queue asked reply ≡ [] → tick_in device asked reply ≡ None
      → first_handle old (named old as_kind name) ≡ Ok on → Leaves old reply new (destroyed old on.place) → Is asked
  gone as_kind asked name on no_queue asks ticks h a = quiet asked Done asks ticks refl refl a.0 (left (destroyed old on.place) (gone_kept as_kind no_queue on (first_stands old as_kind name on h)) a.1)

  -- ---- creates

  makes : (asked : Call) (looked : Looked ℕ) (IsContent : Content → Type 0) → asked_in old queue asked reply ≡ [] → tick_in device asked reply ≡ None
      → ((place : ℕ) (content : Content) → looked ≡ Ok place → IsContent content
      → (as_queue content ≡ None) ⊎ ((window : ℕ) × (content ≡ new_queue window) × (root : Object) × (slice_get old.objects place ≡ Some root) × (first_name asked ≡ Some root.name) × ((handle : ℕ) × (asked ≡ call.QueueCreate handle window))))
      → Creates old reply new looked IsContent → Is asked
  makes asked (Err r) IsContent asks ticks kind p = refused asked r p.0 p.1
  makes asked (Ok place) IsContent asks ticks kind (inr p) = refused asked _ p.1.0 p.1.1
  makes asked (Ok place) IsContent asks ticks kind (inl p) = IsGrown (record {
    calm = record { asks = asks; ticks = ticks; tells = ap flips_told p.tells };
    one = record { name = p.name; device = place; is_live = true; content = p.content };
    grows = p.after;
    answers = p.tells;
    gives = ap name_given p.tells;
    fresh = p.fresh;
    kind = elim (kind place p.content refl p.is_content) [
      | inl none ↦ inl none
      | inr is ↦ inr (record { window = is.0; content = is.1; live = refl; root = is.2; stands = is.3; first = is.4; handle = is.5.0; created = is.5.1 })
    ];
  })

  decodes : (target : Found VideoSurface) → Stands old as_video target → (picture : Picture) (o : Outcome) → AllKept old.objects (decoded old target picture o).objects
  decodes target stands picture outcome.Ok = content_kept as_video (λ of. refl) target stands (λ of. refl) (VideoObject (record target.value { picture = picture }))
  decodes target stands picture (outcome.Bitstream slice) = all_kept old.objects
  decodes target stands picture (outcome.Incomplete macroblocks) = all_kept old.objects

  outcome_flips : (o : Outcome) → flips_told (reply_of o) ≡ []
  outcome_flips outcome.Ok = refl
  outcome_flips (outcome.Bitstream slice) = refl
  outcome_flips (outcome.Incomplete macroblocks) = refl

  outcome_name : (o : Outcome) → name_given (reply_of o) ≡ None
  outcome_name outcome.Ok = refl
  outcome_name (outcome.Bitstream slice) = refl
  outcome_name (outcome.Incomplete macroblocks) = refl

  counts : (asked : Call) (info : PictureInfo) (bytes : List ℕ) (on : Rendering) → asked_in old queue asked reply ≡ [] → tick_in device asked reply ≡ None → Stands old as_video on.target → Counts old reply new caller info bytes on → Is asked
  counts asked info bytes on asks ticks stands p =
      goes asked (units_counted info (length p.payloads)) (λ nothing. Decodes old reply new caller info p.payloads on) (λ nothing h d. IsQuiet (record {
        calm = record { asks = asks; ticks = ticks; tells = ap flips_told d.tells ∙ outcome_flips d.outcome };
        gives = ap name_given d.tells ∙ outcome_name d.outcome;
        kept = left_objects (decoded old on.target d.picture d.outcome).objects (decodes on.target stands d.picture d.outcome) (ap (λ (u : State). u.objects) d.after);
      })) p.goes

  waited : (asked : Call) (place : Option ℕ) → asked_in old queue asked reply ≡ [] → tick_in device asked reply ≡ None → MatchOption place ⊥ (λ found. Tells old reply new (Holds (Some found))) → Is asked
  waited asked None asks ticks p = absurd p
  waited asked (Some found) asks ticks p = told asked (Holds (Some found)) asks ticks refl refl p

  does : (asked : Call) → Does old caller asked reply new → Is asked
  does call.DeviceCreate p = makes call.DeviceCreate (device_create old) _ refl refl (λ place content h e. inl (ap as_queue e)) p
  does (call.DeviceDestroy handle) p =
      goes (call.DeviceDestroy handle) (clock.device_destroy old handle) _ (λ on h a. IsDeviceEnd (record { handle = handle; is_call = refl; answers = a.0; on = on; device = destroyed_finds old handle on h; leaves = a.1 })) p
  does (call.VideoCreate on chroma width height) p = makes (call.VideoCreate on chroma width height) (video_create old on chroma width height) (IsNewVideo width height) refl refl (λ place content h e. inl (ap as_queue e.2)) p
  does (call.VideoParameters surface) p = goes (call.VideoParameters surface) (surfaces.video old surface) _ (λ on h a. told (call.VideoParameters surface) _ refl refl refl refl a) p
  does (call.VideoGetBits surface format count) p = goes (call.VideoGetBits surface format count) (surfaces.video_bits old surface format count) _ (λ on h a. told (call.VideoGetBits surface format count) _ refl refl refl refl a.1) p
  does (call.VideoPutBits surface format bytes) p =
      goes (call.VideoPutBits surface format bytes) (surfaces.video_bits old surface format (length bytes)) _ (λ on h a.
      quiet (call.VideoPutBits surface format bytes) Done refl refl refl refl a.1.3.0
      (left (surfaces.with_picture old on a.1.0) (content_kept as_video (λ of. refl) on (named_stands old as_video surface on (video_bits_named old surface format (length bytes) on h)) (λ of. refl) _) a.1.3.1)) p
  does (call.VideoDestroy surface) p = goes (call.VideoDestroy surface) (surfaces.video old surface) _ (λ on h a. gone as_video (call.VideoDestroy surface) surface on (λ of. refl) refl refl h a) p
  does (call.OutputCreate on format width height) p = makes (call.OutputCreate on format width height) (output_create old on format width height) _ refl refl (λ place content h e. inl (ap as_queue e)) p
  does (call.OutputGetBits surface count) p = goes (call.OutputGetBits surface count) (surfaces.output_bits old surface count) _ (λ on h a. told (call.OutputGetBits surface count) _ refl refl refl refl a.1) p
  does (call.OutputPutBits surface bytes) p =
      goes (call.OutputPutBits surface bytes) (surfaces.output_bits old surface (length bytes)) _ (λ on h a.
      IsWrite (record { surface = surface; is_call = inl (bytes, refl); answers = a.1.0; on = on; output = output_bits_named old surface (length bytes) on h; content = _; leaves = ap (λ (u : State). u.objects) a.1.1 })) p
  does (call.OutputDestroy surface) p = goes (call.OutputDestroy surface) (surfaces.output old surface) _ (λ on h a. gone as_output (call.OutputDestroy surface) surface on (λ of. refl) refl refl h a) p
  does (call.DecoderQuery handle profile) p = goes (call.DecoderQuery handle profile) (first_handle old (named old as_device handle)) _ (λ on h a. told (call.DecoderQuery handle profile) _ refl refl refl refl a) p
  does (call.DecoderCreate on profile width height max_references) p =
      makes (call.DecoderCreate on profile width height max_references) (decoder_create old on profile width height max_references) _ refl refl (λ place content h e. inl (ap as_queue e)) p
  does (call.DecoderDestroy decoder) p = goes (call.DecoderDestroy decoder) (surfaces.decoder old decoder) _ (λ on h a. gone as_decoder (call.DecoderDestroy decoder) decoder on (λ of. refl) refl refl h a) p
  does (call.MixerCreate on width height) p = makes (call.MixerCreate on width height) (mixer_create old on width height) _ refl refl (λ place content h e. inl (ap as_queue e)) p
  does (call.MixerSetMatrix mixer matrix) p =
      goes (call.MixerSetMatrix mixer matrix) (surfaces.mixer old mixer) _ (λ on h a.
      quiet (call.MixerSetMatrix mixer matrix) Done refl refl refl refl a.0 (left (surfaces.with_matrix old on matrix) (content_kept as_mixer (λ of. refl) on (first_stands old as_mixer mixer on h) (λ of. refl) _) a.1)) p
  does (call.MixerDestroy mixer) p = goes (call.MixerDestroy mixer) (surfaces.mixer old mixer) _ (λ on h a. gone as_mixer (call.MixerDestroy mixer) mixer on (λ of. refl) refl refl h a) p
  does (call.QueueCreate on window) p =
      makes (call.QueueCreate on window) (queue_create old on) (λ content. content ≡ new_queue window) refl refl (λ place content h e.
      let at = queue_made old on place h in
      let is = named-Some as_device on old at.1 at.2 in
      inr (window, e, is.0, subst (λ n. slice_get old.objects n ≡ Some is.0) at.3 is.1, ap (λ (n : ℕ). Some n) (sym is.2.has_name), (on, refl))) p
  does (call.QueueDestroy handle) p =
      goes (call.QueueDestroy handle) (queues.queue old handle) _ (λ on h a. IsQueueEnd (record { handle = handle; is_call = refl; answers = a.0; on = on; queue = first_handle-Ok old (named old as_queue handle) on h; leaves = a.1 })) p
  does (call.QueueDisplay handle surface earliest) p =
      goes (call.QueueDisplay handle surface earliest) (queues.queue_display old handle surface earliest) _ (λ on h a.
      let found = displayed_finds old handle surface earliest on h in
      IsDisplay (record { handle = handle; surface = surface; earliest = earliest; is_call = refl; answers = a.0; on = on.queue; queue = found.0; of = on.surface; shown = found.1; in_time = found.2; leaves = a.1 })) p
  does (call.QueryStatus handle surface) p = goes (call.QueryStatus handle surface) (queues.presented old handle surface) _ (λ on h a. told (call.QueryStatus handle surface) _ refl refl refl refl a) p
  does (call.BlockUntilIdle handle surface) p = goes (call.BlockUntilIdle handle surface) (queues.presented old handle surface) _ (λ on h a. told (call.BlockUntilIdle handle surface) _ refl refl refl refl a.1) p
  does (call.GetTime handle) p = goes (call.GetTime handle) (queues.queue old handle) _ (λ on h a. told (call.GetTime handle) _ refl refl refl refl a) p
  does (call.Promise handle time) p =
      goes (call.Promise handle time) (queues.queue old handle) _ (λ on h a.
      IsPromise (record { handle = handle; time = time; is_call = refl; answers = a.0; on = on; queue = first_handle-Ok old (named old as_queue handle) on h; leaves = a.1 })) p
  does (call.Advance handle time) p =
      goes (call.Advance handle time) (clock.advance old handle time) _ (λ on h a.
      IsTick (record { handle = handle; time = time; is_call = refl; on = on; device = advance_named old handle time on h; answers = a.1; leaves = a.2 })) p
  does (call.Preempt handle) p =
      goes (call.Preempt handle) (clock.device old handle) _ (λ on h a.
      quiet (call.Preempt handle) Done refl refl refl refl a.0 (left (with_content old on.place (DeviceObject (record on.value { is_preempted = true }))) (content_kept as_device (λ of. refl) on (first_stands old as_device handle on h) (λ of. refl) _) a.1)) p
  does (call.Poll wishes) p = goes (call.Poll wishes) (first_wish old wishes) _ (λ on h a. told (call.Poll wishes) _ refl refl refl refl a) p
  does (call.WaitUntil wishes) p = goes (call.WaitUntil wishes) (first_wish old wishes) _ (λ on h a. waited (call.WaitUntil wishes) on refl refl a) p
  does call.Kept p = told call.Kept _ refl refl refl refl p
  does (call.Render decoder target info bytes) p =
      goes (call.Render decoder target info bytes) (render old decoder target info) (Counts old reply new caller info bytes) (λ on h a.
      counts (call.Render decoder target info bytes) info bytes on refl refl (named_stands old as_video target on.target (render_named old decoder target info on h).1) a) p
  does (call.Mix mixer structure video output) p =
      goes (call.Mix mixer structure video output) (mix old mixer structure video output) (Mixes old reply new caller) (λ on h a.
      IsWrite (record { surface = output; is_call = inr (mixer, structure, video, refl); answers = a.leaves.0; on = on.output; output = (mix_named old mixer structure video output on h).1; content = _; leaves = ap (λ (u : State). u.objects) a.leaves.1 })) p

  pub step_kind : (asked : Call) → Step old caller asked reply new → Is asked
  step_kind asked (inl lacks) = refused asked OutOfMemory lacks.1.0 lacks.1.1
  step_kind asked (inr is) = does asked is
