-- How a queue stands at each moment: its entries are what was asked for and not shown yet.
use Rattle.std.proofs.Common.{◌≡◌, ◌≢◌, ◌⊎◌, inl, inr, ℕ, zero, suc, ◌==◌, ◌≤◌, ◌<◌, max, nat_le, Bool, true, false, ◌&&◌, ◌||◌, if◌then◌else◌, List, [], ◌∷◌, ◌++◌, AllPairs, drop, filter, filter_map, map, slice_get, Option, Some, None, Ok, refl, ap, sym, ◌∙◌, subst, arith}
use Rattle.std.proofs.lemmas.Bool.{cases_eq, eq-eqb, eqb-true, false≢true, leb-true, ne_eqb}
use Rattle.std.proofs.lemmas.Bool.Decides.{nat_tests}
use Rattle.std.proofs.lemmas.List.{append-nil}
use Rattle.std.proofs.lemmas.List.Folds.{list_any-append}
use Rattle.std.specs.List.{AllByRecursion, AllZip, cons_option, list_any}
use Rattle.std.specs.Option.{option_and_then, option_map, option_map_or, option_to_list, unwrap_or}
use Rattle.std.specs.Result.{is_ok}
use Rattle.cb_types.specs.SizeMbs.{luma_height, luma_width}
use Rattle.present_queue.specs.Queue.{Queue, Queued, displayed, due, first_due, promised, ticked_by}
use Rattle.script_ticks.specs.Ticks.{Rises}
use Rattle.driver_model.specs.Answers.{Reply}
use Rattle.driver_model.specs.Clock.{Due, all_due, all_shown, destroyed_on, flip_of, let_go, no_output}
use Rattle.driver_model.specs.FlipText.{flips_told}
use Rattle.driver_model.specs.Objects.{Content, DeviceObject, VideoObject, OutputObject, DecoderObject, MixerObject, QueueObject, Device, OutputSurface, PresentationQueue, Object, as_device, as_output, as_queue, kind_number}
use Rattle.driver_model.specs.Parts.{first_name, is_first, name_given}
use Rattle.driver_model.specs.Presented.{is_idle_at, queue_in}
use Rattle.driver_model.specs.States.{State, Found, changed_at, content_at, name_at, named, with_content}
use Rattle.driver_model.specs.Steps.{Step}
use Rattle.driver_model.specs.declared.calls.Call.{Call}
use Rattle.driver_model.specs.declared.calls.Call.TheVariants as call
use Rattle.driver_model.specs.declared.numbers.TheConstants.{PRESENTATION_QUEUE}
use Rattle.driver_model.specs.declared.replies.Answer.TheVariants.{Done}
use Rattle.driver_model.specs.declared.replies.Flipped.{Flipped}
use Rattle.driver_model.proofs.Changes.{names}
use Rattle.driver_model.proofs.Leading.{has_entry, idle_surfaces_are_not_named}
use Rattle.driver_model.proofs.Named.{named-Some, object_is}
use Rattle.driver_model.proofs.OwedPlaces.{changed_here}
use Rattle.driver_model.proofs.PartCalls.{step_effect}
use Rattle.driver_model.proofs.PartCreates.{get-last}
use Rattle.driver_model.proofs.PartEffects.{Effect}
use Rattle.driver_model.proofs.PartNames.{IsAt, place_of_name}
use Rattle.driver_model.proofs.PartOwned.{IsSane, get_more, get_still}
use Rattle.driver_model.proofs.PartStill.{still_back}
use Rattle.driver_model.proofs.SoundChanges.{nothing_there}
use Rattle.player_laws.specs.Displays.{IsPromisedPast, asked_in, flip_asked, flips_asked, is_of, is_on, tick_in, window_of}
use Rattle.player_laws.proofs.QueueSteps.{AllKept, Displays, DeviceEnds, IsDeviceEnd, IsDisplay, IsGrown, IsPromise, IsQueueEnd, IsQuiet, IsTick, IsWrite, Grows, IsMix, IsPut, Kind, Promises, Quiet, QueueEnds, Ticks, Writes, changed_other, kept_changed, kept_same}
use Rattle.player_laws.proofs.QueueTicks.{all_stays, entry_due, flips_of_queue, no_flips, queue_ticks}

-- ---- names

one_place : (name : ℕ) (objects : List Object) → AllPairs (λ a b. a ≢ b) (names objects) → (i j : ℕ) (a b : Object) → slice_get objects i ≡ Some a → slice_get objects j ≡ Some b → a.name ≡ name → b.name ≡ name → i ≡ j
one_place name objects apart i j a b at there a_is b_is =
    let place = place_of_name name objects apart in
    let one : i ≡ place.0 = eqb-true i place.0 (place.1 i a at ∙ eq-eqb a.name name a_is) in
    let other : j ≡ place.0 = eqb-true j place.0 (place.1 j b there ∙ eq-eqb b.name name b_is) in
    one ∙ sym other

pub is_at : (name : ℕ) (objects : List Object) → AllPairs (λ a b. a ≢ b) (names objects) → (place : ℕ) (a : Object) → slice_get objects place ≡ Some a → a.name ≡ name → IsAt name place objects
is_at name objects apart place a at named k b there =
    let p = place_of_name name objects apart in
    let same : place ≡ p.0 = eqb-true place p.0 (p.1 place a at ∙ eq-eqb a.name name named) in
    ap (λ n. k == n) same ∙ p.1 k b there

-- ---- an entry that waits

module _ (queue : ℕ) where
  -- The entry is of this flip, which will have what the surface has.
  pub record Waits (objects : List Object) (window : ℕ) (entry : Queued ℕ) (flip : Flipped) : Type 0 where
    pub surface : Object
    pub stands : slice_get objects entry.surface ≡ Some surface
    pub of : OutputSurface
    pub content : surface.content ≡ OutputObject of
    pub is : flip ≡ flip_asked queue window surface.name entry.earliest of

  flip_same : (window name other time : ℕ) (of now : OutputSurface) → other ≡ name → now.format ≡ of.format → now.size ≡ of.size → now.bytes ≡ of.bytes → flip_asked queue window name time of ≡ flip_asked queue window other time now
  flip_same window name other time of now names formats sizes bytes = λ i. record {
    queue = queue;
    window = window;
    surface = sym names i;
    time = time;
    width = luma_width (sym sizes i);
    height = luma_height (sym sizes i);
    format = sym formats i;
    bytes = sym bytes i;
  }

  -- The surface at this place keeps its name and its pixels.
  abbrev pub KeepsPixels : List Object → List Object → ℕ → Type 0
  KeepsPixels old new place =
      (a : Object) (of : OutputSurface) → slice_get old place ≡ Some a → a.content ≡ OutputObject of
      → (b : Object) × (slice_get new place ≡ Some b) × (b.name ≡ a.name) × (now : OutputSurface) × (b.content ≡ OutputObject now) × (now.format ≡ of.format) × (now.size ≡ of.size) × (now.bytes ≡ of.bytes)

  waits_still : (old new : List Object) (window : ℕ) (entry : Queued ℕ) (flip : Flipped) → KeepsPixels old new entry.surface → Waits old window entry flip → Waits new window entry flip
  waits_still old new window entry flip keeps w =
      let r = keeps w.surface w.of w.stands w.content in
      record { surface = r.0; stands = r.1; of = r.3; content = r.4; is = w.is ∙ flip_same window w.surface.name r.0.name entry.earliest w.of r.3 r.2 r.5 r.6 r.7 }

  all_still : (old new : List Object) (window : ℕ) (entries : List (Queued ℕ)) (flips : List Flipped) → ((entry : Queued ℕ) → list_any (λ other. other.surface == entry.surface) entries ≡ true → KeepsPixels old new entry.surface)
      → AllZip (Waits old window) entries flips → AllZip (Waits new window) entries flips
  all_still old new window [] [] keeps w = tt
  all_still old new window [] (flip ∷ flips) keeps w = absurd w
  all_still old new window (entry ∷ entries) [] keeps w = absurd w
  all_still old new window (entry ∷ entries) (flip ∷ flips) keeps w = (
    waits_still old new window entry flip (keeps entry (here entry.surface (list_any (λ other. other.surface == entry.surface) entries))) w.0,
    all_still old new window entries flips (λ other is. keeps other (behind (entry.surface == other.surface) (list_any (λ x. x.surface == other.surface) entries) is)) w.1,
  )
    where
      here : (n : ℕ) (b : Bool) → ((n == n) || b) ≡ true
      here n b = let e : n ≡ n = refl in ap (λ t. t || b) (eq-eqb n n e)

      behind : (a b : Bool) → b ≡ true → (a || b) ≡ true
      behind true b e = refl
      behind false b e = e

  kept_pixels : (old new : List Object) → AllKept old new → (place : ℕ) → KeepsPixels old new place
  kept_pixels old new kept place a of e is =
      let r = kept place a e in
      let p = r.2.output of is in
      (r.0, r.1, r.2.name, p.0, p.1, p.2, p.3, p.4)

  -- ---- the queue

  -- no queue has the name
  abbrev pub NoQueue : List Object → Type 0
  NoQueue objects = (place : ℕ) (a : Object) → slice_get objects place ≡ Some a → a.name ≡ queue → as_queue a.content ≡ None

  pub record Here (device : ℕ) (objects : List Object) (ticks : List ℕ) (waiting : List Flipped) : Type 0 where
    pub place : ℕ
    pub object : Object
    pub stands : slice_get objects place ≡ Some object
    pub named : object.name ≡ queue
    pub live : object.is_live ≡ true
    pub of : PresentationQueue
    pub content : object.content ≡ QueueObject of
    pub root : Object
    pub root_stands : slice_get objects object.device ≡ Some root
    pub root_named : root.name ≡ device
    pub waits : AllZip (Waits objects of.window) of.queue.entries waiting
    pub promised : AllByRecursion (λ time. time < of.queue.promise) ticks

  pub record Missing (objects : List Object) (ticks : List ℕ) (waiting : List Flipped) : Type 0 where
    pub none : NoQueue objects
    pub no_ticks : ticks ≡ []
    pub no_flips : waiting ≡ []

  abbrev pub Standing : ℕ → List Object → List ℕ → List Flipped → Type 0
  Standing device objects ticks waiting = Missing objects ticks waiting ⊎ Here device objects ticks waiting

-- each flip is later than each tick
abbrev pub AreLate : List ℕ → List Flipped → Type 0
AreLate ticks flips = AllByRecursion (λ (flip : Flipped). AllByRecursion (λ time. time < flip.time) ticks) flips

abbrev pub times_of : List Flipped → List ℕ
times_of flips = map (λ (flip : Flipped). flip.time) flips

abbrev pub ticked_on : List ℕ → Option ℕ → List ℕ
ticked_on ticks None = ticks
ticked_on ticks (Some time) = ticks ++ time ∷ []

pub record Stepped (queue device : ℕ) (new : List Object) (asked : List Flipped) (tick : Option ℕ) (told : List Flipped) (ticks : List ℕ) (waiting : List Flipped) : Type 0 where
  pub shown : List Flipped
  pub left : List Flipped
  pub standing : Standing queue device new (ticked_on ticks tick) left
  pub flips : filter (is_on queue) told ≡ shown
  pub moves : waiting ++ asked ≡ shown ++ left
  pub on_tick : AllByRecursion (λ (flip : Flipped). is_of (option_to_list tick) flip.time ≡ true) shown
  pub late : AreLate (ticked_on ticks tick) left

-- ---- ticks of the clock

not_of : (ticks : List ℕ) (time : ℕ) → AllByRecursion (λ t. t < time) ticks → is_of ticks time ≡ false
not_of [] time below = refl
not_of (t ∷ ticks) time below =
    let less = below.0 in
    let apart : (t == time) ≡ false = ne_eqb t time (λ same. omega (arith, same, less)) in
    ap (λ b. b || is_of ticks time) apart ∙ not_of ticks time below.1

pub late_not_of : (ticks : List ℕ) (time : ℕ) → AllByRecursion (λ t. t < time) ticks → is_of ticks time ≡ false
late_not_of ticks time below = not_of ticks time below

above_all : (times : List ℕ) (low time : ℕ) → AllByRecursion (λ other. low < other) times → is_of times time ≡ true → low < time
above_all [] low time above is = absurd (false≢true is)
above_all (t ∷ times) low time above is = by_test (t == time) refl is (above_all times low time above.1) where
  by_test : (b : Bool) → (t == time) ≡ b → (b || is_of times time) ≡ true → (is_of times time ≡ true → low < time) → low < time
  by_test true e k rest = let same = eqb-true t time e in let less = above.0 in omega (arith, same, less)
  by_test false e k rest = rest k

rises_behind : (xs ys : List ℕ) → Rises (xs ++ ys) → Rises ys
rises_behind [] ys rises = rises
rises_behind (x ∷ xs) ys rises = rises_behind xs ys rises.1

pub rises_end : (xs ys : List ℕ) → Rises (xs ++ ys) → Rises ys
rises_end xs ys rises = rises_behind xs ys rises

-- a time of the clock that no tick has reached, and that is no later than the next tick, is that of the next tick
next_tick : (ticks : List ℕ) (time : ℕ) (later : List ℕ) (at : ℕ) → Rises (ticks ++ time ∷ later) → is_of (ticks ++ time ∷ later) at ≡ true → AllByRecursion (λ t. t < at) ticks → at ≤ time → at ≡ time
next_tick ticks time later at rises is below le =
    let any : (is_of ticks at || is_of (time ∷ later) at) ≡ true = sym (list_any-append (λ other. other == at) ticks (time ∷ later)) ∙ is in
    let behind : is_of (time ∷ later) at ≡ true = ap (λ b. b || is_of (time ∷ later) at) (sym (not_of ticks at below)) ∙ any in
    by_test (time == at) refl behind
  where
    by_test : (b : Bool) → (time == at) ≡ b → (b || is_of later at) ≡ true → at ≡ time
    by_test true e k = sym (eqb-true time at e)
    by_test false e k =
        let more = above_all later time at (rises_behind ticks (time ∷ later) rises).0 k in
        absurd (omega (arith, more, le))

all_push : (P : ℕ → Type 0) (xs : List ℕ) (x : ℕ) → AllByRecursion P xs → P x → AllByRecursion P (xs ++ x ∷ [])
all_push P [] x all is = (is, tt)
all_push P (y ∷ xs) x all is = (all.0, all_push P xs x all.1 is)

late_more : (ticks : List ℕ) (time : ℕ) (flips : List Flipped) → AreLate ticks flips → AllByRecursion (λ (flip : Flipped). time < flip.time) flips → AreLate (ticks ++ time ∷ []) flips
late_more ticks time [] late after = tt
late_more ticks time (flip ∷ flips) late after = (all_push (λ t. t < flip.time) ticks time late.0 after.0, late_more ticks time flips late.1 after.1)

times_above : (time : ℕ) (flips : List Flipped) → AllByRecursion (λ other. time < other) (times_of flips) → AllByRecursion (λ (flip : Flipped). time < flip.time) flips
times_above time [] all = tt
times_above time (flip ∷ flips) all = (all.0, times_above time flips all.1)

pub late_append : (ticks : List ℕ) (xs ys : List Flipped) → AreLate ticks xs → AreLate ticks ys → AreLate ticks (xs ++ ys)
late_append ticks [] ys one other = other
late_append ticks (x ∷ xs) ys one other = (one.0, late_append ticks xs ys one.1 other)

none_is : {T A : Type 0} (value : T) → (let o : Option T = None in o ≡ Some value) → A
none_is {T} value e = absurd (let k : (let o : Option T = None in o ≡ Some value) = e in cc)

pub content_queue : (content : Content) (of : PresentationQueue) → as_queue content ≡ Some of → content ≡ QueueObject of
content_queue (DeviceObject is) of e = none_is of e
content_queue (VideoObject is) of e = none_is of e
content_queue (OutputObject is) of e = none_is of e
content_queue (DecoderObject is) of e = none_is of e
content_queue (MixerObject is) of e = none_is of e
content_queue (QueueObject is) of e = ap QueueObject (let k : Some is ≡ Some of = e in cc)

content_output : (content : Content) (of : OutputSurface) → as_output content ≡ Some of → content ≡ OutputObject of
content_output (DeviceObject is) of e = none_is of e
content_output (VideoObject is) of e = none_is of e
content_output (OutputObject is) of e = ap OutputObject (let k : Some is ≡ Some of = e in cc)
content_output (DecoderObject is) of e = none_is of e
content_output (MixerObject is) of e = none_is of e
content_output (QueueObject is) of e = none_is of e

no_queue_kind : (content : Content) (kind : ℕ) → kind_number content ≡ kind → (kind == PRESENTATION_QUEUE) ≡ false → as_queue content ≡ None
no_queue_kind (DeviceObject is) kind e other = refl
no_queue_kind (VideoObject is) kind e other = refl
no_queue_kind (OutputObject is) kind e other = refl
no_queue_kind (DecoderObject is) kind e other = refl
no_queue_kind (MixerObject is) kind e other = refl
no_queue_kind (QueueObject is) kind e other = absurd (false≢true (sym other ∙ eq-eqb kind PRESENTATION_QUEUE (sym e)))

none_kind : (content : Content) → as_queue content ≡ None → (kind_number content == PRESENTATION_QUEUE) ≡ false
none_kind (DeviceObject is) e = refl
none_kind (VideoObject is) e = refl
none_kind (OutputObject is) e = refl
none_kind (DecoderObject is) e = refl
none_kind (MixerObject is) e = refl
none_kind (QueueObject is) e = absurd (let k : (let o : Option PresentationQueue = None in Some is ≡ o) = e in cc)

-- what the queue's name finds
pub found_value : (queue device : ℕ) (s : State) → AllPairs (λ a b. a ≢ b) (names s.objects) → (ticks : List ℕ) (waiting : List Flipped) (h : Here queue device s.objects ticks waiting) (on : Found PresentationQueue) → named s as_queue queue ≡ Some on → on.value ≡ h.of
found_value queue device s apart ticks waiting h on found =
    let is = named-Some as_queue queue s on found in
    let same : on.place ≡ h.place = one_place queue s.objects apart on.place h.place is.0 h.object is.1 h.stands is.2.has_name h.named in
    let object : is.0 ≡ h.object = object_is is.0 h.object (sym is.1 ∙ (ap (slice_get s.objects) same ∙ h.stands)) in
    let value : Some h.of ≡ Some on.value = ap as_queue (sym h.content) ∙ (ap (λ (o : Object). as_queue o.content) (sym object) ∙ is.2.is_kind) in
    cc

-- ---- the entries at a tick

abbrev pub after_due : Option (Queued ℕ) → List (Queued ℕ) → List (Queued ℕ)
after_due None entries = entries
after_due (Some entry) entries = drop 1 entries

pub record TickedEntries (queue : ℕ) (objects : List Object) (window time : ℕ) (ticks : List ℕ) (told : Queued ℕ → Flipped) (entries : List (Queued ℕ)) (waiting : List Flipped) : Type 0 where
  pub shown : List Flipped
  pub left : List Flipped
  pub moves : waiting ≡ shown ++ left
  pub waits : AllZip (Waits queue objects window) (after_due (first_due entries time) entries) left
  pub on_tick : AllByRecursion (λ (flip : Flipped). is_of (time ∷ []) flip.time ≡ true) shown
  pub late : AreLate (ticks ++ time ∷ []) left
  pub tells : map told (option_to_list (first_due entries time)) ≡ shown

all_above : (low high : ℕ) (times : List ℕ) → low < high → AllByRecursion (λ other. high < other) times → AllByRecursion (λ other. low < other) times
all_above low high [] less all = tt
all_above low high (t ∷ times) less all = let more = all.0 in (omega (arith, less, more), all_above low high times less all.1)

ticked_entries : (queue : ℕ) (objects : List Object) (window time : ℕ) (ticks later : List ℕ) (told : Queued ℕ → Flipped) → ((entry : Queued ℕ) (flip : Flipped) → Waits queue objects window entry flip → entry.earliest ≡ time → told entry ≡ flip)
    → (entries : List (Queued ℕ)) (waiting : List Flipped) → AllZip (Waits queue objects window) entries waiting → Rises (ticks ++ time ∷ later) → AllByRecursion (λ (flip : Flipped). is_of (ticks ++ time ∷ later) flip.time ≡ true) waiting
    → Rises (times_of waiting) → AreLate ticks waiting → TickedEntries queue objects window time ticks told entries waiting
ticked_entries queue objects window time ticks later told tells [] [] waits rises in_clock rising late = record { shown = []; left = []; moves = refl; waits = tt; on_tick = tt; late = tt; tells = refl }
ticked_entries queue objects window time ticks later told tells [] (flip ∷ waiting) waits rises in_clock rising late = absurd waits
ticked_entries queue objects window time ticks later told tells (entry ∷ entries) [] waits rises in_clock rising late = absurd waits
ticked_entries queue objects window time ticks later told tells (entry ∷ entries) (flip ∷ waiting) waits rises in_clock rising late = by_test (nat_le entry.earliest time) refl where
  at : flip.time ≡ entry.earliest
  at = ap (λ (f : Flipped). f.time) waits.0.is

  by_test : (b : Bool) → nat_le entry.earliest time ≡ b → TickedEntries queue objects window time ticks told (entry ∷ entries) (flip ∷ waiting)
  by_test true e =
      let le : entry.earliest ≤ time = leb-true entry.earliest time e in
      let same : flip.time ≡ time = next_tick ticks time later flip.time rises in_clock.0 late.0 (omega (arith, at, le)) in
      let due_is : first_due (entry ∷ entries) time ≡ Some entry = ap (λ b. if b then Some entry else None) e in
      record {
        shown = flip ∷ [];
        left = waiting;
        moves = refl;
        waits = subst (λ o. AllZip (Waits queue objects window) (after_due o (entry ∷ entries)) waiting) (sym due_is) waits.1;
        on_tick = (ap (λ b. b || false) (eq-eqb time flip.time (sym same)), tt);
        late = late_more ticks time waiting late.1 (times_above time waiting (subst (λ t. AllByRecursion (λ other. t < other) (times_of waiting)) same rising.0));
        tells = ap (λ o. map told (option_to_list o)) due_is ∙ ap (λ f. f ∷ []) (tells entry flip waits.0 (sym at ∙ same));
      }
  by_test false e =
      let more : time < flip.time = let k : time < entry.earliest = grind (arith, nat_tests) in omega (arith, at, k) in
      let due_is : first_due (entry ∷ entries) time ≡ None = ap (λ b. if b then Some entry else None) e in
      record {
        shown = [];
        left = flip ∷ waiting;
        moves = refl;
        waits = subst (λ o. AllZip (Waits queue objects window) (after_due o (entry ∷ entries)) (flip ∷ waiting)) (sym due_is) waits;
        on_tick = tt;
        late = late_more ticks time (flip ∷ waiting) late (more, times_above time waiting (all_above time flip.time (times_of waiting) more rising.0));
        tells = ap (λ o. map told (option_to_list o)) due_is;
      }

zip_push : (R : Queued ℕ → Flipped → Type 0) (xs : List (Queued ℕ)) (ys : List Flipped) (x : Queued ℕ) (y : Flipped) → AllZip R xs ys → R x y → AllZip R (xs ++ x ∷ []) (ys ++ y ∷ [])
zip_push R [] [] x y all is = (is, tt)
zip_push R [] (b ∷ ys) x y all is = absurd all
zip_push R (a ∷ xs) [] x y all is = absurd all
zip_push R (a ∷ xs) (b ∷ ys) x y all is = (all.0, zip_push R xs ys x y all.1 is)

-- ---- one step

module _ (queue device : ℕ) (old new : State) (caller : List ℕ) (asked : Call) (reply : Reply) (sane : IsSane old) (apart : AllPairs (λ a b. a ≢ b) (names old.objects)) (step : Step old caller asked reply new) where
  abbrev Goal : List ℕ → List Flipped → Type 0
  Goal ticks waiting = Stepped queue device new.objects (asked_in old queue asked reply) (tick_in device asked reply) (flips_told reply) ticks waiting

  -- where no name was given, there is no new queue
  none_still : name_given reply ≡ None → NoQueue queue old.objects → NoQueue queue new.objects
  none_still nameless none = by_effect (step_effect old new caller reply sane.rooted sane.sound asked step) where
    by_effect : Effect old new caller asked reply → NoQueue queue new.objects
    by_effect (inl (given, inl same)) place a e = none place a (ap (λ (u : State). slice_get u.objects place) (sym same) ∙ e)
    by_effect (inl (given, inr changed)) place a e = λ named.
        let was = still_back changed.device old.objects new.objects changed.still place a e in
        no_queue_kind a.content (kind_number was.0.content) was.2.kind (none_kind was.0.content (none place was.0 was.1 (sym was.2.name ∙ named)))
    by_effect (inr grown) place a e = λ named. none_is grown.one.name (sym nameless ∙ ap name_given grown.tells)

  -- what the queue's name finds is the queue
  own_place : (ticks : List ℕ) (waiting : List Flipped) (h : Here queue device old.objects ticks waiting) (on : Found PresentationQueue) → named old as_queue queue ≡ Some on → (on.place ≡ h.place) × (on.value ≡ h.of)
  own_place ticks waiting h on found =
      let is = named-Some as_queue queue old on found in
      let same : on.place ≡ h.place = one_place queue old.objects apart on.place h.place is.0 h.object is.1 h.stands is.2.has_name h.named in
      let object : is.0 ≡ h.object = object_is is.0 h.object (sym is.1 ∙ (ap (slice_get old.objects) same ∙ h.stands)) in
      let value : Some h.of ≡ Some on.value = ap as_queue (sym h.content) ∙ (ap (λ (o : Object). as_queue o.content) (sym object) ∙ is.2.is_kind) in
      let back : on.value ≡ h.of = cc in
      (same, back)

  missing_not : {A : Type 0} (ticks : List ℕ) (waiting : List Flipped) → Missing queue old.objects ticks waiting → (on : Found PresentationQueue) → named old as_queue queue ≡ Some on → A
  missing_not ticks waiting m on found = let is = named-Some as_queue queue old on found in none_is on.value (sym (m.none on.place is.0 is.1 is.2.has_name) ∙ is.2.is_kind)

  missing_still : (ticks : List ℕ) (waiting : List Flipped) → name_given reply ≡ None → Missing queue old.objects ticks waiting → Standing queue device new.objects ticks waiting
  missing_still ticks waiting nameless m = inl (record { none = none_still nameless m.none; no_ticks = m.no_ticks; no_flips = m.no_flips })

  -- ---- what leaves the queue and the pixels

  -- The queue's object, its device and the surfaces of its entries are as they were, but for what doesn't concern them.
  pub record Untouched (h_place : ℕ) (h_object h_root : Object) (entries : List (Queued ℕ)) : Type 0 where
    pub object : Object
    pub stands : slice_get new.objects h_place ≡ Some object
    pub name : object.name ≡ h_object.name
    pub same_device : object.device ≡ h_object.device
    pub live : object.is_live ≡ h_object.is_live
    pub root : Object
    pub root_stands : slice_get new.objects h_object.device ≡ Some root
    pub root_name : root.name ≡ h_root.name
    pub pixels : (entry : Queued ℕ) → list_any (λ other. other.surface == entry.surface) entries ≡ true → KeepsPixels queue old.objects new.objects entry.surface

  -- then it stands with what it has now
  stands_with : (ticks more : List ℕ) (waiting left : List Flipped) (h : Here queue device old.objects ticks waiting) (u : Untouched h.place h.object h.root h.of.queue.entries) (of : PresentationQueue) → u.object.content ≡ QueueObject of
      → AllZip (Waits queue new.objects of.window) of.queue.entries left → AllByRecursion (λ time. time < of.queue.promise) more → Here queue device new.objects more left
  stands_with ticks more waiting left h u of content waits promised = record {
    place = h.place;
    object = u.object;
    stands = u.stands;
    named = u.name ∙ h.named;
    live = u.live ∙ h.live;
    of = of;
    content = content;
    root = u.root;
    root_stands = ap (slice_get new.objects) u.same_device ∙ u.root_stands;
    root_named = u.root_name ∙ h.root_named;
    waits = waits;
    promised = promised;
  }

  still_waits : (ticks : List ℕ) (waiting : List Flipped) (h : Here queue device old.objects ticks waiting) (u : Untouched h.place h.object h.root h.of.queue.entries) → AllZip (Waits queue new.objects h.of.window) h.of.queue.entries waiting
  still_waits ticks waiting h u = all_still queue old.objects new.objects h.of.window h.of.queue.entries waiting u.pixels h.waits

  here_kept : (ticks : List ℕ) (waiting : List Flipped) → AllKept old.objects new.objects → Here queue device old.objects ticks waiting → Here queue device new.objects ticks waiting
  here_kept ticks waiting kept h =
      let b = kept h.place h.object h.stands in
      let q = b.2.queue h.of h.content in
      let r = kept h.object.device h.root h.root_stands in
      let u : Untouched h.place h.object h.root h.of.queue.entries =
      record { object = b.0; stands = b.1; name = b.2.name; same_device = b.2.device; live = q.1; root = r.0; root_stands = r.1; root_name = r.2.name; pixels = λ entry is. kept_pixels queue old.objects new.objects kept entry.surface } in
      stands_with ticks ticks waiting waiting h u h.of q.0 (still_waits ticks waiting h u) h.promised

  calm : (ticks : List ℕ) (waiting : List Flipped) → asked_in old queue asked reply ≡ [] → tick_in device asked reply ≡ None → flips_told reply ≡ [] → Standing queue device new.objects ticks waiting → AreLate ticks waiting → Goal ticks waiting
  calm ticks waiting asks tick tells standing late =
      subst (λ a. Stepped queue device new.objects a (tick_in device asked reply) (flips_told reply) ticks waiting) (sym asks)
      (subst (λ t. Stepped queue device new.objects [] t (flips_told reply) ticks waiting) (sym tick)
      (subst (λ f. Stepped queue device new.objects [] None f ticks waiting) (sym tells) (record { shown = []; left = waiting; standing = standing; flips = refl; moves = append-nil waiting; on_tick = tt; late = late })))

  quiet_step : (ticks : List ℕ) (waiting : List Flipped) → Quiet queue device old new asked reply → Standing queue device old.objects ticks waiting → AreLate ticks waiting → Goal ticks waiting
  quiet_step ticks waiting p standing late = calm ticks waiting p.calm.asks p.calm.ticks p.calm.tells (by_standing standing) late where
    by_standing : Standing queue device old.objects ticks waiting → Standing queue device new.objects ticks waiting
    by_standing (inl m) = missing_still ticks waiting p.gives m
    by_standing (inr h) = inr (here_kept ticks waiting p.kept h)

  -- ---- a new object

  grown_step : (ticks : List ℕ) (waiting : List Flipped) → (name_given reply ≡ Some queue → is_first device asked ≡ true) → Grows queue device old new asked reply → Standing queue device old.objects ticks waiting → AreLate ticks waiting → Goal ticks waiting
  grown_step ticks waiting on_device p standing late = calm ticks waiting p.calm.asks p.calm.ticks p.calm.tells (by_standing standing) late where
    lists : new.objects ≡ old.objects ++ p.one ∷ []
    lists = ap (λ (u : State). u.objects) p.grows

    no_more : Missing queue old.objects ticks waiting → (p.one.name ≡ queue → as_queue p.one.content ≡ None) → Standing queue device new.objects ticks waiting
    no_more m other = inl (record {
      none = λ place a e named. elim (get_more old.objects p.one place a (ap (λ l. slice_get l place) (sym lists) ∙ e)) [
        | inl before ↦ m.none place a before named
        | inr last ↦ ap (λ (o : Object). as_queue o.content) (sym last.1) ∙ other (ap (λ (o : Object). o.name) last.1 ∙ named)
      ];
      no_ticks = m.no_ticks;
      no_flips = m.no_flips;
    })

    new_queue_here : Missing queue old.objects ticks waiting → p.one.name ≡ queue → (window : ℕ) → p.one.content ≡ QueueObject (record { window = window; queue = record { entries = []; visible = None; promise = 0 } }) → p.one.is_live ≡ true → (root : Object)
        → slice_get old.objects p.one.device ≡ Some root → first_name asked ≡ Some root.name → Here queue device new.objects ticks waiting
    new_queue_here m named window content live root stands first =
        let first_is : is_first device asked ≡ (root.name == device) = ap (λ (o : Option ℕ). option_map_or (λ n. n == device) o false) first in
        let asks : is_first device asked ≡ true = on_device (p.gives ∙ ap (λ n. Some n) named) in
        let whole : Here queue device (old.objects ++ p.one ∷ []) [] [] = record {
          place = _;
          object = p.one;
          stands = get-last old.objects p.one;
          named = named;
          live = live;
          of = record { window = window; queue = record { entries = []; visible = None; promise = 0 } };
          content = content;
          root = root;
          root_stands = get_still old.objects p.one p.one.device root stands;
          root_named = eqb-true root.name device (sym first_is ∙ asks);
          waits = tt;
          promised = tt;
        } in
        subst (λ l. Here queue device l ticks waiting) (sym lists) (subst (λ t. Here queue device (old.objects ++ p.one ∷ []) t waiting) (sym m.no_ticks) (subst (λ w. Here queue device (old.objects ++ p.one ∷ []) [] w) (sym m.no_flips) whole))

    by_standing : Standing queue device old.objects ticks waiting → Standing queue device new.objects ticks waiting
    by_standing (inr h) = inr (here_kept ticks waiting (subst (AllKept old.objects) (sym lists) (λ place a e. (a, get_still old.objects p.one place a e, kept_same a))) h)
    by_standing (inl m) = elim p.kind [
      | inl none ↦ no_more m (λ named. none)
      | inr is ↦ elim (cases_eq p.one.name queue) [
        | inl named ↦ inr (new_queue_here m named is.window is.content is.live is.root is.stands is.first)
        | inr other ↦ no_more m (λ named. absurd (other named))
      ]
    ]

  -- ---- a change of one object

  -- An object of another name that is a queue is changed, or one that is none: the queue is untouched, as far as the pixels are.
  other_untouched : (ticks : List ℕ) (waiting : List Flipped) (h : Here queue device old.objects ticks waiting) (place : ℕ) (change : Object → Object) → ((a : Object) → ((change a).name ≡ a.name) × ((change a).device ≡ a.device)) → place ≢ h.place
      → new.objects ≡ changed_at place change old.objects → ((entry : Queued ℕ) → list_any (λ other. other.surface == entry.surface) h.of.queue.entries ≡ true → KeepsPixels queue old.objects new.objects entry.surface) → Untouched h.place h.object h.root h.of.queue.entries
  other_untouched ticks waiting h place change keeps other lists pixels =
      let root = by_place (cases_eq place h.object.device) in
      record {
        object = h.object;
        stands = ap (λ l. slice_get l h.place) lists ∙ (changed_other change place h.place old.objects other ∙ h.stands);
        name = refl;
        same_device = refl;
        live = refl;
        root = root.0;
        root_stands = root.1;
        root_name = root.2;
        pixels = pixels;
      }
    where
      by_place : (place ≡ h.object.device) ⊎ (place ≢ h.object.device) → (root : Object) × (slice_get new.objects h.object.device ≡ Some root) × (root.name ≡ h.root.name)
      by_place (inl same) = (change h.root, ap (λ l. slice_get l h.object.device) lists ∙ changed_here change place h.object.device old.objects h.root same h.root_stands, (keeps h.root).0)
      by_place (inr away) = (h.root, ap (λ l. slice_get l h.object.device) lists ∙ (changed_other change place h.object.device old.objects away ∙ h.root_stands), refl)

  -- where what is changed is no surface, all pixels stay
  changed_pixels : (place : ℕ) (change : Object → Object) (there : Object) → slice_get old.objects place ≡ Some there → ((of : OutputSurface) → there.content ≡ OutputObject of → ⊥) → new.objects ≡ changed_at place change old.objects → (surface : ℕ) → KeepsPixels queue old.objects new.objects surface
  changed_pixels place change there stands no_output lists surface a of e is = elim (cases_eq place surface) [
    | inl same ↦ absurd (no_output of (ap (λ (o : Object). o.content) (object_is there a (sym stands ∙ (ap (slice_get old.objects) same ∙ e))) ∙ is))
    | inr apart ↦ (a, ap (λ l. slice_get l surface) lists ∙ (changed_other change place surface old.objects apart ∙ e), refl, of, is, refl, refl, refl)
  ]

  queue_no_output : (content : Content) (on : PresentationQueue) → as_queue content ≡ Some on → (of : OutputSurface) → content ≡ OutputObject of → ⊥
  queue_no_output content on is of e = none_is on (sym (ap as_queue e) ∙ is)

  -- ---- queues

  done_name : reply ≡ Ok Done → name_given reply ≡ None
  done_name e = ap name_given e

  done_flips : reply ≡ Ok Done → flips_told reply ≡ []
  done_flips e = ap flips_told e

  done_ok : reply ≡ Ok Done → is_ok reply ≡ true
  done_ok e = ap is_ok e

  -- another queue is changed
  other_queue : (ticks : List ℕ) (waiting : List Flipped) (handle : ℕ) (on : Found PresentationQueue) (change : Object → Object) → named old as_queue handle ≡ Some on → handle ≢ queue → ((a : Object) → ((change a).name ≡ a.name) × ((change a).device ≡ a.device))
      → new.objects ≡ changed_at on.place change old.objects → reply ≡ Ok Done → asked_in old queue asked reply ≡ [] → tick_in device asked reply ≡ None → Standing queue device old.objects ticks waiting → AreLate ticks waiting → Goal ticks waiting
  unfolding other_untouched
  other_queue ticks waiting handle on change found other keeps lists done asks tick standing late = calm ticks waiting asks tick (done_flips done) (by_standing standing) late where
    by_standing : Standing queue device old.objects ticks waiting → Standing queue device new.objects ticks waiting
    by_standing (inl m) = missing_still ticks waiting (done_name done) m
    by_standing (inr h) =
        let is = named-Some as_queue handle old on found in
        let elsewhere : on.place ≢ h.place = λ same. other (sym is.2.has_name ∙ (ap (λ (o : Object). o.name) (object_is is.0 h.object (sym is.1 ∙ (ap (slice_get old.objects) same ∙ h.stands))) ∙ h.named)) in
        let pixels = changed_pixels on.place change is.0 is.1 (queue_no_output is.0.content on.value is.2.is_kind) lists in
        let u = other_untouched ticks waiting h on.place change keeps elsewhere lists (λ entry k. pixels entry.surface) in
        inr (stands_with ticks ticks waiting waiting h u h.of h.content (still_waits ticks waiting h u) h.promised)

  -- the queue itself is changed, and lives on
  own_queue : (ticks more : List ℕ) (waiting left : List Flipped) (on : Found PresentationQueue) (now : Queue ℕ) → named old as_queue queue ≡ Some on → new ≡ with_content old on.place (QueueObject (record on.value { queue = now }))
      → (h : Here queue device old.objects ticks waiting)
      → ((pixels : (surface : ℕ) → KeepsPixels queue old.objects new.objects surface) → AllZip (Waits queue new.objects h.of.window) h.of.queue.entries waiting → AllZip (Waits queue new.objects on.value.window) now.entries left)
      → AllByRecursion (λ time. time < now.promise) more → Here queue device new.objects more left
  own_queue ticks more waiting left on now found leaves h waits promised =
      let is = named-Some as_queue queue old on found in
      let own = own_place ticks waiting h on found in
      let change : Object → Object = λ object. record object { content = QueueObject (record on.value { queue = now }) } in
      let lists : new.objects ≡ changed_at on.place change old.objects = ap (λ (u : State). u.objects) leaves in
      let pixels = changed_pixels on.place change is.0 is.1 (queue_no_output is.0.content on.value is.2.is_kind) lists in
      let root = by_place lists (cases_eq on.place h.object.device) in
      let u : Untouched h.place h.object h.root h.of.queue.entries = record {
        object = change h.object;
        stands = ap (λ l. slice_get l h.place) lists ∙ changed_here change on.place h.place old.objects h.object own.0 h.stands;
        name = refl;
        same_device = refl;
        live = refl;
        root = root.0;
        root_stands = root.1;
        root_name = root.2;
        pixels = λ entry k. pixels entry.surface;
      } in
      stands_with ticks more waiting left h u (record on.value { queue = now }) refl (waits pixels (still_waits ticks waiting h u)) promised
    where
      by_place : new.objects ≡ changed_at on.place (λ object. record object { content = QueueObject (record on.value { queue = now }) }) old.objects → (on.place ≡ h.object.device) ⊎ (on.place ≢ h.object.device)
          → (root : Object) × (slice_get new.objects h.object.device ≡ Some root) × (root.name ≡ h.root.name)
      by_place lists (inl same) = (
        record (h.root) { content = QueueObject (record on.value { queue = now }) },
        ap (λ l. slice_get l h.object.device) lists ∙ changed_here (λ object. record object { content = QueueObject (record on.value { queue = now }) }) on.place h.object.device old.objects h.root same h.root_stands,
        refl,
      )
      by_place lists (inr away) =
          (h.root, ap (λ l. slice_get l h.object.device) lists ∙ (changed_other (λ object. record object { content = QueueObject (record on.value { queue = now }) }) on.place h.object.device old.objects away ∙ h.root_stands), refl)

  quiet_asks : (call_is : Call) → asked ≡ call_is → ((r : Reply) → asked_in old queue call_is r ≡ []) → asked_in old queue asked reply ≡ []
  quiet_asks call_is e none = ap (λ c. asked_in old queue c reply) e ∙ none reply

  quiet_ticks : (call_is : Call) → asked ≡ call_is → ((r : Reply) → tick_in device call_is r ≡ None) → tick_in device asked reply ≡ None
  quiet_ticks call_is e none = ap (λ c. tick_in device c reply) e ∙ none reply

  promise_step : (ticks : List ℕ) (waiting : List Flipped) → Promises old new asked reply → Standing queue device old.objects ticks waiting → AreLate ticks waiting → Goal ticks waiting
  promise_step ticks waiting p standing late =
      let asks = quiet_asks (call.Promise p.handle p.time) p.is_call (λ r. refl) in
      let tick = quiet_ticks (call.Promise p.handle p.time) p.is_call (λ r. refl) in
      elim (cases_eq p.handle queue) [
        | inl same ↦ calm ticks waiting asks tick (done_flips p.answers) (by_standing (ap (named old as_queue) (sym same) ∙ p.queue) standing) late
        | inr other ↦ other_queue ticks waiting p.handle p.on _ p.queue other (λ a. (refl, refl)) (ap (λ (u : State). u.objects) p.leaves) p.answers asks tick standing late
      ]
    where
      greater : (most time : ℕ) (times : List ℕ) → AllByRecursion (λ t. t < most) times → AllByRecursion (λ t. t < max most time) times
      greater most time [] all = tt
      greater most time (t ∷ times) all = let less = all.0 in (omega (arith, less), greater most time times all.1)

      by_standing : named old as_queue queue ≡ Some p.on → Standing queue device old.objects ticks waiting → Standing queue device new.objects ticks waiting
      by_standing found (inl m) = missing_not ticks waiting m p.on found
      by_standing found (inr h) =
          let own = own_place ticks waiting h p.on found in
          inr (own_queue ticks ticks waiting waiting p.on (promised p.on.value.queue p.time) found p.leaves h
          (λ pixels waits. subst (λ (of : PresentationQueue). AllZip (Waits queue new.objects of.window) of.queue.entries waiting) (sym own.1) waits)
          (subst (λ (of : PresentationQueue). AllByRecursion (λ t. t < max of.queue.promise p.time) ticks) (sym own.1) (greater h.of.queue.promise p.time ticks h.promised)))

  queue_end_step : (ticks : List ℕ) (waiting : List Flipped) → (asked ≡ call.QueueDestroy queue → is_ok reply ≡ false) → QueueEnds old new asked reply → Standing queue device old.objects ticks waiting → AreLate ticks waiting → Goal ticks waiting
  queue_end_step ticks waiting stays p standing late =
      let asks = quiet_asks (call.QueueDestroy p.handle) p.is_call (λ r. refl) in
      let tick = quiet_ticks (call.QueueDestroy p.handle) p.is_call (λ r. refl) in
      other_queue ticks waiting p.handle p.on _ p.queue (λ same. false≢true (sym (stays (p.is_call ∙ ap call.QueueDestroy same)) ∙ done_ok p.answers)) (λ a. (refl, refl)) (ap (λ (u : State). u.objects) p.leaves) p.answers asks tick standing late

  display_step : (ticks : List ℕ) (waiting : List Flipped) → Displays old new asked reply → Standing queue device old.objects ticks waiting → AreLate ticks waiting → Goal ticks waiting
  display_step ticks waiting p standing late = elim (cases_eq p.handle queue) [
    | inl same ↦ by_standing same (ap (named old as_queue) (sym same) ∙ p.queue) standing
    | inr other ↦
        let off : (p.handle == queue) ≡ false = ne_eqb p.handle queue other in
        let asks : asked_in old queue asked reply ≡ [] = asks_are ∙ ap (λ b. if b then flips_asked old queue p.surface p.earliest else []) off in
        other_queue ticks waiting p.handle p.on _ p.queue other (λ a. (refl, refl)) (ap (λ (u : State). u.objects) p.leaves) p.answers asks tick standing late
  ]
    where
      tick : tick_in device asked reply ≡ None
      tick = quiet_ticks (call.QueueDisplay p.handle p.surface p.earliest) p.is_call (λ r. refl)

      asks_are : asked_in old queue asked reply ≡ (if p.handle == queue then flips_asked old queue p.surface p.earliest else [])
      asks_are = ap (λ c. asked_in old queue c reply) p.is_call ∙ ap (λ r. asked_in old queue (call.QueueDisplay p.handle p.surface p.earliest) r) p.answers

      after_all : (most : ℕ) (times : List ℕ) → most ≤ p.earliest → AllByRecursion (λ t. t < most) times → AllByRecursion (λ t. t < p.earliest) times
      after_all most [] le all = tt
      after_all most (t ∷ times) le all = let less = all.0 in (omega (arith, less, le), after_all most times le all.1)

      by_standing : p.handle ≡ queue → named old as_queue queue ≡ Some p.on → Standing queue device old.objects ticks waiting → Goal ticks waiting
      by_standing same found (inl m) = missing_not ticks waiting m p.on found
      by_standing same found (inr h) =
          let own = own_place ticks waiting h p.on found in
          let of = named-Some as_output p.surface old p.of p.shown in
          let flip : Flipped = flip_asked queue p.on.value.window p.surface p.earliest p.of.value in
          let window : window_of old queue ≡ p.on.value.window = ap (λ (o : Option (Found PresentationQueue)). option_map_or (λ (on : Found PresentationQueue). on.value.window) o 0) found in
          let asks : asked_in old queue asked reply ≡ flip ∷ [] =
          asks_are ∙ (ap (λ b. if b then flips_asked old queue p.surface p.earliest else []) (eq-eqb p.handle queue same)
          ∙ (ap (λ (o : Option (Found OutputSurface)). option_map_or (λ (on : Found OutputSurface). flip_asked queue (window_of old queue) p.surface p.earliest on.value ∷ []) o []) p.shown ∙ ap (λ w. flip_asked queue w p.surface p.earliest p.of.value ∷ []) window)) in
          let entry : Queued ℕ = record { surface = p.of.place; earliest = p.earliest } in
          let late_flip : AllByRecursion (λ t. t < p.earliest) ticks = after_all h.of.queue.promise ticks (subst (λ (q : PresentationQueue). q.queue.promise ≤ p.earliest) own.1 p.in_time) h.promised in
          let here = own_queue ticks ticks waiting (waiting ++ flip ∷ []) p.on (displayed p.on.value.queue entry) found p.leaves h
          (λ pixels waits.
          let old_waits : AllZip (Waits queue new.objects p.on.value.window) p.on.value.queue.entries waiting = subst (λ (q : PresentationQueue). AllZip (Waits queue new.objects q.window) q.queue.entries waiting) (sym own.1) waits in
          let now = pixels p.of.place of.0 p.of.value of.1 (content_output of.0.content p.of.value of.2.is_kind) in
          let new_wait : Waits queue new.objects p.on.value.window entry flip = record {
            surface = now.0;
            stands = now.1;
            of = now.3;
            content = now.4;
            is = flip_same queue p.on.value.window p.surface now.0.name p.earliest p.of.value now.3 (now.2 ∙ of.2.has_name) now.5 now.6 now.7;
          } in
          zip_push (Waits queue new.objects p.on.value.window) p.on.value.queue.entries waiting entry flip old_waits new_wait)
          (subst (λ (q : PresentationQueue). AllByRecursion (λ t. t < q.queue.promise) ticks) (sym own.1) h.promised) in
          subst (λ a. Stepped queue device new.objects a (tick_in device asked reply) (flips_told reply) ticks waiting) (sym asks)
          (subst (λ t. Stepped queue device new.objects (flip ∷ []) t (flips_told reply) ticks waiting) (sym tick)
          (subst (λ f. Stepped queue device new.objects (flip ∷ []) None f ticks waiting) (sym (done_flips p.answers))
          (record { shown = []; left = waiting ++ flip ∷ []; standing = inr here; flips = refl; moves = refl; on_tick = tt; late = late_append ticks waiting (flip ∷ []) late (late_flip, tt) })))

  -- ---- the end of another device

  device_end_step : (ticks : List ℕ) (waiting : List Flipped) → (asked ≡ call.DeviceDestroy device → is_ok reply ≡ false) → DeviceEnds old new asked reply → Standing queue device old.objects ticks waiting → AreLate ticks waiting → Goal ticks waiting
  device_end_step ticks waiting stays p standing late =
      calm ticks waiting (quiet_asks (call.DeviceDestroy p.handle) p.is_call (λ r. refl)) (quiet_ticks (call.DeviceDestroy p.handle) p.is_call (λ r. refl)) (done_flips p.answers) (by_standing standing) late
    where
      lists : new.objects ≡ map (destroyed_on p.on.place) old.objects
      lists = ap (λ (u : State). u.objects) p.leaves

      mapped : (objects : List Object) (place : ℕ) (a : Object) → slice_get objects place ≡ Some a → slice_get (map (destroyed_on p.on.place) objects) place ≡ Some (destroyed_on p.on.place a)
      mapped [] place a e = nothing_there a e
      mapped (first ∷ later) zero a e = ap (λ o. Some (destroyed_on p.on.place o)) (object_is first a e)
      mapped (first ∷ later) (suc place) a e = mapped later place a e

      kept_name : (b : Bool) (a : Object) → (if b then record a { is_live = false; content = let_go a.content } else a).name ≡ a.name
      kept_name true a = refl
      kept_name false a = refl

      kept_output : (b : Bool) (a : Object) (of : OutputSurface) → a.content ≡ OutputObject of → (if b then record a { is_live = false; content = let_go a.content } else a).content ≡ OutputObject of
      kept_output true a of is = ap let_go is
      kept_output false a of is = is

      by_standing : Standing queue device old.objects ticks waiting → Standing queue device new.objects ticks waiting
      by_standing (inl m) = missing_still ticks waiting (done_name p.answers) m
      by_standing (inr h) =
          let is = named-Some as_device p.handle old p.on p.device in
          let other : h.object.device ≢ p.on.place = λ same.
          let object : h.root ≡ is.0 = object_is h.root is.0 (sym h.root_stands ∙ (ap (slice_get old.objects) same ∙ is.1)) in
          let handle : p.handle ≡ device = sym is.2.has_name ∙ (ap (λ (o : Object). o.name) (sym object) ∙ h.root_named) in
          false≢true (sym (stays (p.is_call ∙ ap call.DeviceDestroy handle)) ∙ done_ok p.answers) in
          let apart_test : (h.object.device == p.on.place) ≡ false = ne_eqb h.object.device p.on.place other in
          let same : destroyed_on p.on.place h.object ≡ h.object = ap (λ b. if b then record (h.object) { is_live = false; content = let_go h.object.content } else h.object) apart_test in
          let u : Untouched h.place h.object h.root h.of.queue.entries = record {
            object = h.object;
            stands = ap (λ l. slice_get l h.place) lists ∙ (mapped old.objects h.place h.object h.stands ∙ ap (λ o. Some o) same);
            name = refl;
            same_device = refl;
            live = refl;
            root = destroyed_on p.on.place h.root;
            root_stands = ap (λ l. slice_get l h.object.device) lists ∙ mapped old.objects h.object.device h.root h.root_stands;
            root_name = kept_name (h.root.device == p.on.place) h.root;
            pixels = λ entry k a of e output. (
              destroyed_on p.on.place a,
              ap (λ l. slice_get l entry.surface) lists ∙ mapped old.objects entry.surface a e,
              kept_name (a.device == p.on.place) a,
              of,
              kept_output (a.device == p.on.place) a of output,
              refl,
              refl,
              refl,
            );
          } in
          inr (stands_with ticks ticks waiting waiting h u h.of h.content (still_waits ticks waiting h u) h.promised)

  -- ---- pixels are written

  in_queues : (objects : List Object) (place : ℕ) (a : Object) (of : PresentationQueue) → slice_get objects place ≡ Some a → a.content ≡ QueueObject of → (k : ℕ) × (slice_get (filter_map queue_in objects) k ≡ Some of.queue)
  in_queues [] place a of e is = nothing_there a e
  in_queues (first ∷ later) zero a of e is =
      let there : queue_in first ≡ Some of.queue = ap queue_in (object_is first a e) ∙ ap (λ c. option_map (λ (q : PresentationQueue). q.queue) (as_queue c)) is in
      (0, ap (λ o. slice_get (cons_option o (filter_map queue_in later)) 0) there)
  in_queues (first ∷ later) (suc place) a of e is = by_first (queue_in first) (in_queues later place a of e is) where
    by_first : (o : Option (Queue ℕ)) → ((k : ℕ) × (slice_get (filter_map queue_in later) k ≡ Some of.queue)) → (k : ℕ) × (slice_get (cons_option o (filter_map queue_in later)) k ≡ Some of.queue)
    by_first None r = r
    by_first (Some q) r = (suc r.0, r.1)

  write_step : (ticks : List ℕ) (waiting : List Flipped) → (p : Writes old new asked reply) → is_idle_at old p.on.place ≡ true → Standing queue device old.objects ticks waiting → AreLate ticks waiting → Goal ticks waiting
  unfolding other_untouched
  write_step ticks waiting p idle standing late = calm ticks waiting (asks p.is_call) (tick p.is_call) (done_flips p.answers) (by_standing standing) late where
    asks : IsPut asked p.surface ⊎ IsMix asked p.surface → asked_in old queue asked reply ≡ []
    asks (inl put) = quiet_asks (call.OutputPutBits p.surface put.0) put.1 (λ r. refl)
    asks (inr mix) = quiet_asks (call.Mix mix.0 mix.1 mix.2 p.surface) mix.3 (λ r. refl)

    tick : IsPut asked p.surface ⊎ IsMix asked p.surface → tick_in device asked reply ≡ None
    tick (inl put) = quiet_ticks (call.OutputPutBits p.surface put.0) put.1 (λ r. refl)
    tick (inr mix) = quiet_ticks (call.Mix mix.0 mix.1 mix.2 p.surface) mix.3 (λ r. refl)

    by_standing : Standing queue device old.objects ticks waiting → Standing queue device new.objects ticks waiting
    by_standing (inl m) = missing_still ticks waiting (done_name p.answers) m
    by_standing (inr h) =
        let is = named-Some as_output p.surface old p.on p.output in
        let elsewhere : p.on.place ≢ h.place = λ same.
        let object : is.0 ≡ h.object = object_is is.0 h.object (sym is.1 ∙ (ap (slice_get old.objects) same ∙ h.stands)) in
        none_is p.on.value (ap as_output (sym h.content) ∙ (ap (λ (o : Object). as_output o.content) (sym object) ∙ is.2.is_kind)) in
        let there = in_queues old.objects h.place h.object h.of h.stands h.content in
        let change : Object → Object = λ object. record object { content = p.content } in
        let pixels : (entry : Queued ℕ) → list_any (λ other. other.surface == entry.surface) h.of.queue.entries ≡ true → KeepsPixels queue old.objects new.objects entry.surface = λ entry k a of e output.
        let apart_place : p.on.place ≢ entry.surface = λ same.
        (idle_surfaces_are_not_named old p.on.place).0 idle there.0 h.of.queue there.1 (inl (has_entry p.on.place h.of.queue.entries (ap (λ n. list_any (λ (other : Queued ℕ). other.surface == n) h.of.queue.entries) same ∙ k))) in
        (a, ap (λ l. slice_get l entry.surface) p.leaves ∙ (changed_other change p.on.place entry.surface old.objects apart_place ∙ e), refl, of, output, refl, refl, refl) in
        let u = other_untouched ticks waiting h p.on.place change (λ a. (refl, refl)) elsewhere p.leaves pixels in
        inr (stands_with ticks ticks waiting waiting h u h.of h.content (still_waits ticks waiting h u) h.promised)

  -- ---- a tick

  -- what a tick of the device is to find
  pub record NextTick (ticks : List ℕ) (waiting : List Flipped) (time : ℕ) : Type 0 where
    pub promised : IsPromisedPast old queue time
    pub later : List ℕ
    pub rises : Rises (ticks ++ time ∷ later)
    pub in_clock : AllByRecursion (λ (flip : Flipped). is_of (ticks ++ time ∷ later) flip.time ≡ true) waiting

  device_kept : (handle : ℕ) (on : Found Device) (content : Device) → named old as_device handle ≡ Some on → AllKept old.objects (with_content old on.place (DeviceObject content)).objects
  device_kept handle on content found =
      let is = named-Some as_device handle old on found in
      kept_changed (λ object. record object { content = DeviceObject content }) on.place old.objects (λ a e.
      let same : is.0 ≡ a = object_is is.0 a (sym is.1 ∙ e) in
      let device_is : as_device a.content ≡ Some on.value = ap (λ (o : Object). as_device o.content) (sym same) ∙ is.2.is_kind in
      record {
        name = refl;
        device = refl;
        queue = λ of k. none_is on.value (sym (ap as_device k) ∙ device_is);
        output = λ of k. none_is on.value (sym (ap as_device k) ∙ device_is);
      })

  ticked_list : (o : Option (Queued ℕ)) (q : Queue ℕ) → (ticked_by o q).entries ≡ after_due o q.entries
  ticked_list None q = refl
  ticked_list (Some entry) q = refl

  ticked_promise : (o : Option (Queued ℕ)) (q : Queue ℕ) → (ticked_by o q).promise ≡ q.promise
  ticked_promise None q = refl
  ticked_promise (Some entry) q = refl

  tick_step : (ticks : List ℕ) (waiting : List Flipped) → ((time : ℕ) → tick_in device asked reply ≡ Some time → NextTick ticks waiting time) → Rises (times_of waiting) → Ticks old new asked reply → Standing queue device old.objects ticks waiting → AreLate ticks waiting
      → Goal ticks waiting
  tick_step ticks waiting next rising p standing late = by_device (cases_eq p.handle device) standing where
    tick_is : tick_in device asked reply ≡ (if p.handle == device then Some p.time else None)
    tick_is = ap (λ c. tick_in device c reply) p.is_call ∙ ap (λ r. tick_in device (call.Advance p.handle p.time) r) p.answers

    asks : asked_in old queue asked reply ≡ []
    asks = quiet_asks (call.Advance p.handle p.time) p.is_call (λ r. refl)

    nameless : name_given reply ≡ None
    nameless = ap name_given p.answers

    told : flips_told reply ≡ map (flip_of old p.time) (all_due old p.on.place p.time)
    told = ap flips_told p.answers

    timed : List Object
    timed = (with_content old p.on.place (DeviceObject (record (p.on.value) { time = p.time }))).objects

    kept : AllKept old.objects timed
    kept = device_kept p.handle p.on (record (p.on.value) { time = p.time }) p.device

    lists : new.objects ≡ all_shown p.time (all_due old p.on.place p.time) timed
    lists = ap (λ (u : State). u.objects) p.leaves

    stepped : (tick : Option ℕ) → tick_in device asked reply ≡ tick → (shown left : List Flipped) → Standing queue device new.objects (ticked_on ticks tick) left → filter (is_on queue) (flips_told reply) ≡ shown → waiting ≡ shown ++ left
        → AllByRecursion (λ (flip : Flipped). is_of (option_to_list tick) flip.time ≡ true) shown → AreLate (ticked_on ticks tick) left → Goal ticks waiting
    stepped tick e shown left stands flips moves on_tick late_left =
        subst (λ a. Stepped queue device new.objects a (tick_in device asked reply) (flips_told reply) ticks waiting) (sym asks)
        (subst (λ t. Stepped queue device new.objects [] t (flips_told reply) ticks waiting) (sym e)
        (record { shown = shown; left = left; standing = stands; flips = flips; moves = append-nil waiting ∙ moves; on_tick = on_tick; late = late_left }))

    pixels : (surface : ℕ) → KeepsPixels queue old.objects new.objects surface
    pixels surface a of e is =
        let k = kept surface a e in
        let o = k.2.output of is in
        let s = all_stays p.time (all_due old p.on.place p.time) surface timed k.0 k.1 in
        let r = s.2.output o.0 o.1 in
        (s.0, ap (λ l. slice_get l surface) lists ∙ s.1, s.2.name ∙ k.2.name, r.0, r.1, r.2 ∙ o.2, r.3 ∙ o.3, r.4 ∙ o.4)

    -- the queue behind the tick
    now_at : (h : Here queue device old.objects ticks waiting) → (u : Untouched h.place h.object h.root h.of.queue.entries) × (u.object.content ≡ QueueObject (record (h.of) { queue = ticked_by (entry_due p.on.place p.time h.object h.of) h.of.queue }))
    now_at h =
        let b = kept h.place h.object h.stands in
        let q = b.2.queue h.of h.content in
        let t = queue_ticks p.on.place p.time h.place old.objects timed h.object b.0 h.of h.stands h.content b.1 q.0 in
        let k = kept h.object.device h.root h.root_stands in
        let r = all_stays p.time (all_due old p.on.place p.time) h.object.device timed k.0 k.1 in (
          record {
            object = t.0;
            stands = ap (λ l. slice_get l h.place) lists ∙ t.1;
            name = t.2.name ∙ b.2.name;
            same_device = t.2.device ∙ b.2.device;
            live = t.2.live ∙ q.1;
            root = r.0;
            root_stands = ap (λ l. slice_get l h.object.device) lists ∙ r.1;
            root_name = r.2.name ∙ k.2.name;
            pixels = λ entry e. pixels entry.surface;
          },
          t.3,
        )

    flips_are : (h : Here queue device old.objects ticks waiting) → filter (is_on queue) (flips_told reply) ≡ map (flip_of old p.time) (option_to_list (option_map {U = Due} (λ x. record { queue = h.place; surface = x.surface }) (entry_due p.on.place p.time h.object h.of)))
    flips_are h = ap (filter (is_on queue)) told ∙ flips_of_queue queue old p.on.place p.time h.place h.object h.of (is_at queue old.objects apart h.place h.object h.stands h.named) h.stands h.named h.content

    -- what is told of an entry that is due
    told_is : (h : Here queue device old.objects ticks waiting) (entry : Queued ℕ) (flip : Flipped) → Waits queue old.objects h.of.window entry flip → entry.earliest ≡ p.time → flip_of old p.time (record { queue = h.place; surface = entry.surface }) ≡ flip
    told_is h entry flip w same =
        let surface : unwrap_or (content_at old as_output entry.surface) no_output ≡ w.of = ap (λ (o : Option Object). unwrap_or (option_and_then (λ (x : Object). as_output x.content) o) no_output) w.stands ∙ ap (λ c. unwrap_or (as_output c) no_output) w.content in
        let names : name_at old h.place ≡ queue = ap (λ (o : Option Object). option_map_or (λ (x : Object). x.name) o 0) h.stands ∙ h.named in
        let shows : name_at old entry.surface ≡ w.surface.name = ap (λ (o : Option Object). option_map_or (λ (x : Object). x.name) o 0) w.stands in
        let window : option_map_or (λ (on : PresentationQueue). on.window) (content_at old as_queue h.place) 0 ≡ h.of.window =
        ap (λ (o : Option Object). option_map_or (λ (on : PresentationQueue). on.window) (option_and_then (λ (x : Object). as_queue x.content) o) 0) h.stands ∙ ap (λ c. option_map_or (λ (on : PresentationQueue). on.window) (as_queue c) 0) h.content in
        (λ i. record {
          queue = names i;
          window = window i;
          surface = shows i;
          time = sym same i;
          width = luma_width (surface i).size;
          height = luma_height (surface i).size;
          format = (surface i).format;
          bytes = (surface i).bytes;
        }) ∙ sym w.is

    by_device : (p.handle ≡ device) ⊎ (p.handle ≢ device) → Standing queue device old.objects ticks waiting → Goal ticks waiting
    by_device (inr other) (inl m) =
        let off : tick_in device asked reply ≡ None = tick_is ∙ ap (λ b. if b then Some p.time else None) (ne_eqb p.handle device other) in
        stepped None off [] waiting (missing_still ticks waiting nameless m) (ap (filter (is_on queue)) told ∙ no_flips queue old p.on.place p.time m.none) refl tt late
    by_device (inl same) (inl m) =
        let on_tick : tick_in device asked reply ≡ Some p.time = tick_is ∙ ap (λ b. if b then Some p.time else None) (eq-eqb p.handle device same) in
        let past = (next p.time on_tick).promised in
        missing_not ticks waiting m past.on past.stands
    by_device (inr other) (inr h) =
        let off : tick_in device asked reply ≡ None = tick_is ∙ ap (λ b. if b then Some p.time else None) (ne_eqb p.handle device other) in
        let is = named-Some as_device p.handle old p.on p.device in
        let elsewhere : h.object.device ≢ p.on.place = λ same.
        let object : h.root ≡ is.0 = object_is h.root is.0 (sym h.root_stands ∙ (ap (slice_get old.objects) same ∙ is.1)) in
        other (sym is.2.has_name ∙ (ap (λ (o : Object). o.name) (sym object) ∙ h.root_named)) in
        let none : entry_due p.on.place p.time h.object h.of ≡ None =
        ap (λ b. if h.object.is_live && b then due h.of.queue p.time else None) (ne_eqb h.object.device p.on.place elsewhere) ∙ and_false h.object.is_live in
        let now = now_at h in
        let content : now.0.object.content ≡ QueueObject h.of = now.1 ∙ ap (λ o. QueueObject (record (h.of) { queue = ticked_by o h.of.queue })) none in
        let here = stands_with ticks ticks waiting waiting h now.0 h.of content (still_waits ticks waiting h now.0) h.promised in
        stepped None off [] waiting (inr here) (flips_are h ∙ ap (λ o. map (flip_of old p.time) (option_to_list (option_map {U = Due} (λ x. record { queue = h.place; surface = x.surface }) o))) none) refl tt late
      where
        and_false : (b : Bool) → (if b && false then due h.of.queue p.time else None) ≡ None
        and_false true = refl
        and_false false = refl
    by_device (inl same) (inr h) =
        let on_tick : tick_in device asked reply ≡ Some p.time = tick_is ∙ ap (λ b. if b then Some p.time else None) (eq-eqb p.handle device same) in
        let found = next p.time on_tick in
        let past = found.promised in
        let is = named-Some as_device p.handle old p.on p.device in
        let on_place : h.object.device ≡ p.on.place = one_place device old.objects apart h.object.device p.on.place h.root is.0 h.root_stands is.1 h.root_named (is.2.has_name ∙ same) in
        let entry : entry_due p.on.place p.time h.object h.of ≡ first_due h.of.queue.entries p.time =
        ap (λ b. if b && (h.object.device == p.on.place) then due h.of.queue p.time else None) h.live ∙ ap (λ b. if b then due h.of.queue p.time else None) (eq-eqb h.object.device p.on.place on_place) in
        let told_of : Queued ℕ → Flipped = λ x. flip_of old p.time (record { queue = h.place; surface = x.surface }) in
        let t = ticked_entries queue old.objects h.of.window p.time ticks found.later told_of (told_is h) h.of.queue.entries waiting h.waits found.rises found.in_clock rising late in
        let now = now_at h in
        let queue_now : Queue ℕ = ticked_by (first_due h.of.queue.entries p.time) h.of.queue in
        let content : now.0.object.content ≡ QueueObject (record (h.of) { queue = queue_now }) = now.1 ∙ ap (λ o. QueueObject (record (h.of) { queue = ticked_by o h.of.queue })) entry in
        let entries : queue_now.entries ≡ after_due (first_due h.of.queue.entries p.time) h.of.queue.entries = ticked_list (first_due h.of.queue.entries p.time) h.of.queue in
        let old_waits : AllZip (Waits queue old.objects h.of.window) queue_now.entries t.left = subst (λ l. AllZip (Waits queue old.objects h.of.window) l t.left) (sym entries) t.waits in
        let waits = all_still queue old.objects new.objects h.of.window queue_now.entries t.left (λ x k. pixels x.surface) old_waits in
        let own = own_place ticks waiting h past.on past.stands in
        let less : p.time < h.of.queue.promise = subst (λ (q : PresentationQueue). p.time < q.queue.promise) own.1 past.past in
        let promised_all = subst (λ n. AllByRecursion (λ t. t < n) (ticks ++ p.time ∷ [])) (sym (ticked_promise (first_due h.of.queue.entries p.time) h.of.queue)) (all_push (λ t. t < h.of.queue.promise) ticks p.time h.promised less) in
        let here = stands_with ticks (ticks ++ p.time ∷ []) waiting t.left h now.0 (record (h.of) { queue = queue_now }) content waits promised_all in
        stepped (Some p.time) on_tick t.shown t.left (inr here) (flips_are h ∙ (ap (λ o. map (flip_of old p.time) (option_to_list (option_map {U = Due} (λ x. record { queue = h.place; surface = x.surface }) o))) entry ∙ (listed h (first_due h.of.queue.entries p.time) ∙ t.tells))) t.moves t.on_tick t.late
      where
        listed : (k : Here queue device old.objects ticks waiting) (o : Option (Queued ℕ)) → map (flip_of old p.time) (option_to_list (option_map {U = Due} (λ x. record { queue = k.place; surface = x.surface }) o)) ≡ map (λ (x : Queued ℕ). flip_of old p.time (record { queue = k.place; surface = x.surface })) (option_to_list o)
        listed k None = refl
        listed k (Some x) = refl

  -- ---- any call

  pub record Premises (ticks : List ℕ) (waiting : List Flipped) : Type 0 where
    pub on_device : name_given reply ≡ Some queue → is_first device asked ≡ true
    pub queue_stays : asked ≡ call.QueueDestroy queue → is_ok reply ≡ false
    pub device_stays : asked ≡ call.DeviceDestroy device → is_ok reply ≡ false
    pub no_puts : (surface : ℕ) (bytes : List ℕ) → asked ≡ call.OutputPutBits surface bytes → is_ok reply ≡ false
    pub idle : (mixer structure video output : ℕ) (on : Found OutputSurface) → asked ≡ call.Mix mixer structure video output → is_ok reply ≡ true → named old as_output output ≡ Some on → is_idle_at old on.place ≡ true
    pub next : (time : ℕ) → tick_in device asked reply ≡ Some time → NextTick ticks waiting time
    pub rising : Rises (times_of waiting)

  written : (p : Writes old new asked reply) (ticks : List ℕ) (waiting : List Flipped) → Premises ticks waiting → IsPut asked p.surface ⊎ IsMix asked p.surface → is_idle_at old p.on.place ≡ true
  written p ticks waiting given (inl put) = absurd (false≢true (sym (given.no_puts p.surface put.0 put.1) ∙ done_ok p.answers))
  written p ticks waiting given (inr mix) = given.idle mix.0 mix.1 mix.2 p.surface p.on mix.3 (done_ok p.answers) p.output

  pub any_step : (ticks : List ℕ) (waiting : List Flipped) → Premises ticks waiting → Kind queue device old new asked reply → Standing queue device old.objects ticks waiting → AreLate ticks waiting → Goal ticks waiting
  any_step ticks waiting given (IsQuiet p) standing late = quiet_step ticks waiting p standing late
  any_step ticks waiting given (IsGrown p) standing late = grown_step ticks waiting given.on_device p standing late
  any_step ticks waiting given (IsDisplay p) standing late = display_step ticks waiting p standing late
  any_step ticks waiting given (IsPromise p) standing late = promise_step ticks waiting p standing late
  any_step ticks waiting given (IsQueueEnd p) standing late = queue_end_step ticks waiting given.queue_stays p standing late
  any_step ticks waiting given (IsDeviceEnd p) standing late = device_end_step ticks waiting given.device_stays p standing late
  any_step ticks waiting given (IsWrite p) standing late = write_step ticks waiting p (written p ticks waiting given p.is_call) standing late
  any_step ticks waiting given (IsTick p) standing late = tick_step ticks waiting given.next given.rising p standing late
