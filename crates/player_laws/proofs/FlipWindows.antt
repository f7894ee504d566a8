-- Each flip is in the window of its queue.
use Rattle.std.proofs.Common.{◌≡◌, inl, inr, ℕ, zero, suc, ◌==◌, Bool, true, false, if◌then◌else◌, List, [], ◌∷◌, ◌++◌, flat_map, length, map, slice_get, Option, Some, None, Ok, refl, ap, sym, ◌∙◌, subst, arith}
use Rattle.std.proofs.lemmas.Bool.{cases_eq}
use Rattle.std.proofs.lemmas.List.{append_assoc}
use Rattle.std.specs.List.{AllByRecursion}
use Rattle.std.specs.Option.{option_and_then, option_map_or}
use Rattle.present_queue.specs.Queue.{displayed, empty_queue, promised, ticked}
use Rattle.driver_model.specs.Answers.{Reply}
use Rattle.driver_model.specs.Clock.{Due, all_due, all_shown, destroyed_on, flip_of, let_go, shown, with_flip, with_tick}
use Rattle.driver_model.specs.FlipText.{flips_in, flips_told}
use Rattle.driver_model.specs.Histories.{Happens, IsStateOf, Leads}
use Rattle.driver_model.specs.Objects.{Content, Device, DeviceObject, VideoObject, OutputObject, DecoderObject, MixerObject, QueueObject, OutputSurface, PresentationQueue, Object, as_device, as_output, as_queue, kind_number}
use Rattle.driver_model.specs.Parts.{name_given}
use Rattle.driver_model.specs.Queues.{emptied}
use Rattle.driver_model.specs.States.{State, Found, changed_at, content_at, empty_state, name_at, named, with_content}
use Rattle.driver_model.specs.Steps.{Step}
use Rattle.driver_model.specs.declared.calls.Call.{Call}
use Rattle.driver_model.specs.declared.calls.Call.TheVariants as call
use Rattle.driver_model.specs.declared.items.Entry.{Entry}
use Rattle.driver_model.specs.declared.items.Item.{Item}
use Rattle.driver_model.specs.declared.items.Item.TheVariants.{Called, Ended}
use Rattle.driver_model.specs.declared.numbers.TheConstants.{PRESENTATION_QUEUE}
use Rattle.driver_model.specs.declared.replies.Answer.TheVariants.{Name}
use Rattle.driver_model.specs.declared.replies.Flipped.{Flipped}
use Rattle.driver_model.proofs.Named.{named-Some, object_is}
use Rattle.driver_model.proofs.OwedPlaces.{changed_here}
use Rattle.driver_model.proofs.PartCalls.{step_effect}
use Rattle.driver_model.proofs.PartEffects.{Effect}
use Rattle.driver_model.proofs.PartOwned.{IsSane, get_more, get_still}
use Rattle.driver_model.proofs.PartStill.{still_back}
use Rattle.driver_model.proofs.SoundChanges.{nothing_there}
use Rattle.player_laws.specs.FlipWindows.{FlipsAreInTheirWindows, IsWindowOf}
use Rattle.player_laws.proofs.QueueSteps.{Grows, IsDeviceEnd, IsDisplay, IsGrown, IsPromise, IsQueueEnd, IsQuiet, IsTick, IsWrite, Kind, changed_other, step_kind}
use Rattle.player_laws.proofs.QueueStands.{content_queue}
use Rattle.player_laws.proofs.QueueTicks.{IsQueueAt, are_queues}
use Rattle.player_laws.proofs.States.{leads_on, state_sane}

-- ---- windows stay

abbrev KeepsWindow : Object → Object → Type 0
KeepsWindow a b = (of : PresentationQueue) → a.content ≡ QueueObject of → (now : PresentationQueue) × (b.content ≡ QueueObject now) × (now.window ≡ of.window)

abbrev AllWindows : List Object → List Object → Type 0
AllWindows old new = (place : ℕ) (a : Object) → slice_get old place ≡ Some a → (b : Object) × (slice_get new place ≡ Some b) × KeepsWindow a b

window_same : (a : Object) → KeepsWindow a a
window_same a of e = (of, e, refl)

all_same : (objects : List Object) → AllWindows objects objects
all_same objects place a e = (a, e, window_same a)

all_then : (one two three : List Object) → AllWindows one two → AllWindows two three → AllWindows one three
all_then one two three f s place a e =
    let x = f place a e in
    let y = s place x.0 x.1 in (
      y.0,
      y.1,
      λ of is.
          let p = x.2 of is in
          let q = y.2 p.0 p.1 in
          (q.0, q.1, q.2 ∙ p.2),
    )

changed_windows : (change : Object → Object) (other : ℕ) (objects : List Object) → ((a : Object) → slice_get objects other ≡ Some a → KeepsWindow a (change a)) → AllWindows objects (changed_at other change objects)
changed_windows change other objects keeps place a e = elim (cases_eq other place) [
  | inl same ↦ (change a, changed_here change other place objects a same e, keeps a (ap (slice_get objects) same ∙ e))
  | inr apart ↦ (a, changed_other change other place objects apart ∙ e, window_same a)
]

shown_windows : (time : ℕ) (dues : List Due) (objects : List Object) → AllWindows objects (all_shown time dues objects)
unfolding all_shown
shown_windows time [] objects = all_same objects
shown_windows time (one ∷ later) objects =
    let ticks : Object → Object = λ object. record object { content = with_tick time object.content } in
    let flips : Object → Object = λ object. record object { content = with_flip one.queue time object.content } in
    let first : AllWindows objects (changed_at one.queue ticks objects) = changed_windows ticks one.queue objects (λ a e of is. (record of { queue = ticked of.queue time }, ap (with_tick time) is, refl)) in
    let second : AllWindows (changed_at one.queue ticks objects) (shown time one objects) = changed_windows flips one.surface (changed_at one.queue ticks objects) (λ a e of is. (of, ap (with_flip one.queue time) is, refl)) in
    all_then objects (shown time one objects) (all_shown time later (shown time one objects)) (all_then objects (changed_at one.queue ticks objects) (shown time one objects) first second) (shown_windows time later (shown time one objects))

ended_windows : (on : ℕ) (objects : List Object) → AllWindows objects (map (destroyed_on on) objects)
ended_windows on objects place a e = (destroyed_on on a, mapped objects place e, λ of is. by_test (a.device == on) of is) where
  mapped : (objects : List Object) (place : ℕ) → slice_get objects place ≡ Some a → slice_get (map (destroyed_on on) objects) place ≡ Some (destroyed_on on a)
  mapped [] place at = nothing_there a at
  mapped (first ∷ later) zero at = ap (λ o. Some (destroyed_on on o)) (object_is first a at)
  mapped (first ∷ later) (suc place) at = mapped later place at

  by_test : (b : Bool) (of : PresentationQueue) → a.content ≡ QueueObject of → (now : PresentationQueue) × ((if b then record a { is_live = false; content = let_go a.content } else a).content ≡ QueueObject now) × (now.window ≡ of.window)
  by_test true of is = (emptied of, ap let_go is, refl)
  by_test false of is = (of, is, refl)

one_queue : (a b : PresentationQueue) → QueueObject a ≡ QueueObject b → a ≡ b
one_queue a b e = cc

-- ---- each step

module _ (old new : State) (caller : List ℕ) (asked : Call) (reply : Reply) where
  -- a queue that was found is changed but for its window
  found_windows : (name : ℕ) (on : Found PresentationQueue) → named old as_queue name ≡ Some on → (change : Object → Object) (now : PresentationQueue) → ((a : Object) → (change a).content ≡ QueueObject now) → now.window ≡ on.value.window → new.objects ≡ changed_at on.place change old.objects → AllWindows old.objects new.objects
  found_windows name on found change now is window lists = subst (AllWindows old.objects) (sym lists) (changed_windows change on.place old.objects (λ a e of content.
      let x = named-Some as_queue name old on found in
      let same : x.0 ≡ a = object_is x.0 a (sym x.1 ∙ e) in
      let there : QueueObject on.value ≡ QueueObject of = sym (content_queue x.0.content on.value x.2.is_kind) ∙ (ap (λ (o : Object). o.content) same ∙ content) in
      (now, is a, window ∙ ap (λ (q : PresentationQueue). q.window) (one_queue on.value of there))))

  windows : Kind 0 0 old new asked reply → AllWindows old.objects new.objects
  windows (IsQuiet p) = λ place a e. let k = p.kept place a e in (k.0, k.1, λ of is. (of, (k.2.queue of is).0, refl))
  windows (IsGrown p) = subst (λ (u : State). AllWindows old.objects u.objects) (sym p.grows) (λ place a e. (a, get_still old.objects p.one place a e, window_same a))
  windows (IsDisplay p) = found_windows p.handle p.on p.queue (λ object. record object { content = QueueObject (record (p.on.value) { queue = displayed p.on.value.queue (record { surface = p.of.place; earliest = p.earliest }) }) }) (record (p.on.value) { queue = displayed p.on.value.queue (record { surface = p.of.place; earliest = p.earliest }) }) (λ a. refl) refl (ap (λ (u : State). u.objects) p.leaves)
  windows (IsPromise p) = found_windows p.handle p.on p.queue (λ object. record object { content = QueueObject (record (p.on.value) { queue = promised p.on.value.queue p.time }) }) (record (p.on.value) { queue = promised p.on.value.queue p.time }) (λ a. refl) refl (ap (λ (u : State). u.objects) p.leaves)
  windows (IsQueueEnd p) = found_windows p.handle p.on p.queue (λ object. record object { is_live = false; content = QueueObject (emptied p.on.value) }) (emptied p.on.value) (λ a. refl) refl (ap (λ (u : State). u.objects) p.leaves)
  windows (IsDeviceEnd p) = subst (λ (u : State). AllWindows old.objects u.objects) (sym p.leaves) (ended_windows p.on.place old.objects)
  windows (IsWrite p) = subst (AllWindows old.objects) (sym p.leaves) (changed_windows (λ object. record object { content = p.content }) p.on.place old.objects (λ a e of is.
      let x = named-Some as_output p.surface old p.on p.output in
      let same : x.0 ≡ a = object_is x.0 a (sym x.1 ∙ e) in
      absurd (let k : (let o : Option OutputSurface = None in o ≡ Some p.on.value) = ap as_output (sym is) ∙ (ap (λ (o : Object). as_output o.content) (sym same) ∙ x.2.is_kind) in cc)))
  windows (IsTick p) =
      let timed : List Object = (with_content old p.on.place (DeviceObject (record (p.on.value) { time = p.time }))).objects in
      subst (λ (u : State). AllWindows old.objects u.objects) (sym p.leaves)
      (all_then old.objects timed (all_shown p.time (all_due old p.on.place p.time) timed)
      (changed_windows (λ object. record object { content = DeviceObject (record (p.on.value) { time = p.time }) }) p.on.place old.objects (λ a e of is.
      let x = named-Some as_device p.handle old p.on p.device in
      let same : x.0 ≡ a = object_is x.0 a (sym x.1 ∙ e) in
      absurd (let k : (let o : Option Device = None in o ≡ Some p.on.value) = ap as_device (sym is) ∙ (ap (λ (o : Object). as_device o.content) (sym same) ∙ x.2.is_kind) in cc)))
      (shown_windows p.time (all_due old p.on.place p.time) timed))

-- ---- the queues' windows at each moment

abbrev HaveWindows : List Item → List Object → Type 0
HaveWindows front objects = (place : ℕ) (a : Object) (of : PresentationQueue) → slice_get objects place ≡ Some a → a.content ≡ QueueObject of → IsWindowOf front a.name of.window

get_front : (front : List Item) (more : List Item) (place : ℕ) (item : Item) → slice_get front place ≡ Some item → slice_get (front ++ more) place ≡ Some item
get_front [] more place item e = absurd (let k : (let o : Option Item = slice_get [] place in o ≡ Some item) = e in cc)
get_front (first ∷ front) more zero item e = e
get_front (first ∷ front) more (suc place) item e = get_front front more place item e

get_end : (front : List Item) (item : Item) → slice_get (front ++ item ∷ []) (length front) ≡ Some item
get_end [] item = refl
get_end (first ∷ front) item = get_end front item

pub window_later : (front more : List Item) (queue window : ℕ) → IsWindowOf front queue window → IsWindowOf (front ++ more) queue window
window_later front more queue window w = record { place = w.place; entry = w.entry; stands = get_front front more w.place (Called w.entry) w.stands; device = w.device; made = w.made; named = w.named }

queue_by_kind : (content other : Content) (of : PresentationQueue) → content ≡ QueueObject of → kind_number content ≡ kind_number other → (was : PresentationQueue) × (other ≡ QueueObject was)
queue_by_kind content other of is kind = by_content other (ap kind_number (sym is) ∙ kind) where
  by_content : (c : Content) → PRESENTATION_QUEUE ≡ kind_number c → (was : PresentationQueue) × (c ≡ QueueObject was)
  by_content (DeviceObject x) e = absurd (omega (arith, e))
  by_content (VideoObject x) e = absurd (omega (arith, e))
  by_content (OutputObject x) e = absurd (omega (arith, e))
  by_content (DecoderObject x) e = absurd (omega (arith, e))
  by_content (MixerObject x) e = absurd (omega (arith, e))
  by_content (QueueObject x) e = (x, refl)

step_have : (front : List Item) (old new : State) (entry : Entry) → IsSane old → Step old entry.caller entry.call entry.reply new → HaveWindows front old.objects → HaveWindows (front ++ Called entry ∷ []) new.objects
step_have front old new entry sane step have = by_kind (step_kind 0 0 old new entry.caller entry.reply entry.call step) where
  kept : AllWindows old.objects new.objects → name_given entry.reply ≡ None → HaveWindows (front ++ Called entry ∷ []) new.objects
  kept all nameless = by_effect (step_effect old new entry.caller entry.reply sane.rooted sane.sound entry.call step) where
    by_effect : Effect old new entry.caller entry.call entry.reply → HaveWindows (front ++ Called entry ∷ []) new.objects
    by_effect (inl (given, inl same)) place a of e is = window_later front (Called entry ∷ []) a.name of.window (have place a of (ap (λ (u : State). slice_get u.objects place) (sym same) ∙ e) is)
    by_effect (inl (given, inr changed)) place a of e is =
        let was = still_back changed.device old.objects new.objects changed.still place a e in
        let q = queue_by_kind a.content was.0.content of is was.2.kind in
        let k = all place was.0 was.1 in
        let now = k.2 q.0 q.1 in
        let same : k.0 ≡ a = object_is k.0 a (sym k.1 ∙ e) in
        let one : now.0 ≡ of = one_queue now.0 of (sym now.1 ∙ (ap (λ (o : Object). o.content) same ∙ is)) in
        let window : q.0.window ≡ of.window = sym now.2 ∙ ap (λ (x : PresentationQueue). x.window) one in
        subst (λ n. IsWindowOf (front ++ Called entry ∷ []) n of.window) (sym was.2.name) (subst (λ w. IsWindowOf (front ++ Called entry ∷ []) was.0.name w) window (window_later front (Called entry ∷ []) was.0.name q.0.window (have place was.0 q.0 was.1 q.1)))
    by_effect (inr grown) place a of e is = absurd (let k : (let o : Option ℕ = None in o ≡ Some grown.one.name) = sym nameless ∙ ap name_given grown.tells in cc)

  grown_have : Grows 0 0 old new entry.call entry.reply → HaveWindows (front ++ Called entry ∷ []) new.objects
  grown_have p place a of e is = elim (get_more old.objects p.one place a (ap (λ (u : State). slice_get u.objects place) (sym p.grows) ∙ e)) [
    | inl before ↦ window_later front (Called entry ∷ []) a.name of.window (have place a of before is)
    | inr last ↦ elim p.kind [
      | inl none ↦ absurd (let k : (let o : Option PresentationQueue = None in o ≡ Some of) = sym none ∙ (ap (λ (o : Object). as_queue o.content) last.1 ∙ ap as_queue is) in cc)
      | inr made ↦
          let first : PresentationQueue = record { window = made.window; queue = empty_queue } in
          let content : QueueObject first ≡ QueueObject of = sym made.content ∙ (ap (λ (o : Object). o.content) last.1 ∙ is) in
          let window : made.window ≡ of.window = ap (λ (q : PresentationQueue). q.window) (one_queue first of content) in
          record {
            place = length front;
            entry = entry;
            stands = get_end front (Called entry);
            device = made.handle;
            made = made.created ∙ ap (call.QueueCreate made.handle) window;
            named = p.answers ∙ ap (λ (o : Object). Ok (Name o.name)) last.1;
          }
    ]
  ]

  by_kind : Kind 0 0 old new entry.call entry.reply → HaveWindows (front ++ Called entry ∷ []) new.objects
  by_kind (IsQuiet p) = kept (windows old new entry.caller entry.call entry.reply (IsQuiet p)) p.gives
  by_kind (IsGrown p) = grown_have p
  by_kind (IsDisplay p) = kept (windows old new entry.caller entry.call entry.reply (IsDisplay p)) (ap name_given p.answers)
  by_kind (IsPromise p) = kept (windows old new entry.caller entry.call entry.reply (IsPromise p)) (ap name_given p.answers)
  by_kind (IsQueueEnd p) = kept (windows old new entry.caller entry.call entry.reply (IsQueueEnd p)) (ap name_given p.answers)
  by_kind (IsDeviceEnd p) = kept (windows old new entry.caller entry.call entry.reply (IsDeviceEnd p)) (ap name_given p.answers)
  by_kind (IsWrite p) = kept (windows old new entry.caller entry.call entry.reply (IsWrite p)) (ap name_given p.answers)
  by_kind (IsTick p) = kept (windows old new entry.caller entry.call entry.reply (IsTick p)) (ap name_given p.answers)

-- ---- the flips of a step

abbrev InWindows : List Item → List Flipped → Type 0
InWindows front flips = AllByRecursion (λ (flip : Flipped). IsWindowOf front flip.queue flip.window) flips

due_windows : (front : List Item) (s : State) (on time : ℕ) → HaveWindows front s.objects → (dues : List Due) → AllByRecursion (IsQueueAt on time s.objects) dues → InWindows front (map (flip_of s time) dues)
due_windows front s on time have [] all = tt
due_windows front s on time have (one ∷ later) all =
    let q = all.0 in
    let content : q.object.content ≡ QueueObject q.of = content_queue q.object.content q.of q.is_queue in
    let name : name_at s one.queue ≡ q.object.name = ap (λ (o : Option Object). option_map_or (λ (x : Object). x.name) o 0) q.stands in
    let window : option_map_or (λ (on : PresentationQueue). on.window) (content_at s as_queue one.queue) 0 ≡ q.of.window =
    ap (λ (o : Option Object). option_map_or (λ (on : PresentationQueue). on.window) (option_and_then (λ (x : Object). as_queue x.content) o) 0) q.stands ∙ ap (λ (o : Option PresentationQueue). option_map_or (λ (on : PresentationQueue). on.window) o 0) q.is_queue in (
      subst (λ n. IsWindowOf front n (option_map_or (λ (on : PresentationQueue). on.window) (content_at s as_queue one.queue) 0)) (sym name) (subst (λ w. IsWindowOf front q.object.name w) (sym window) (have one.queue q.object q.of q.stands content)),
      due_windows front s on time have later all.1,
    )

step_flips : (front : List Item) (old new : State) (entry : Entry) → HaveWindows front old.objects → Kind 0 0 old new entry.call entry.reply → InWindows front (flips_told entry.reply)
step_flips front old new entry have (IsQuiet p) = subst (InWindows front) (sym p.calm.tells) tt
step_flips front old new entry have (IsGrown p) = subst (InWindows front) (sym p.calm.tells) tt
step_flips front old new entry have (IsDisplay p) = subst (λ r. InWindows front (flips_told r)) (sym p.answers) tt
step_flips front old new entry have (IsPromise p) = subst (λ r. InWindows front (flips_told r)) (sym p.answers) tt
step_flips front old new entry have (IsQueueEnd p) = subst (λ r. InWindows front (flips_told r)) (sym p.answers) tt
step_flips front old new entry have (IsDeviceEnd p) = subst (λ r. InWindows front (flips_told r)) (sym p.answers) tt
step_flips front old new entry have (IsWrite p) = subst (λ r. InWindows front (flips_told r)) (sym p.answers) tt
step_flips front old new entry have (IsTick p) = subst (λ r. InWindows front (flips_told r)) (sym p.answers) (due_windows front old p.on.place p.time have (all_due old p.on.place p.time) (are_queues p.on.place p.time old.objects))

all_later : (front more : List Item) (flips : List Flipped) → InWindows front flips → InWindows (front ++ more) flips
all_later front more [] all = tt
all_later front more (flip ∷ flips) all = (window_later front more flip.queue flip.window all.0, all_later front more flips all.1)

join_windows : (front : List Item) (xs ys : List Flipped) → InWindows front xs → InWindows front ys → InWindows front (xs ++ ys)
join_windows front [] ys one other = other
join_windows front (x ∷ xs) ys one other = (one.0, join_windows front xs ys one.1 other)

item_windows : (front : List Item) (s t : State) (item : Item) → IsSane s → Happens s item t → HaveWindows front s.objects → HaveWindows (front ++ item ∷ []) t.objects × InWindows front (flips_in item)
item_windows front s t (Called entry) sane h have =
    let same : h.0.objects ≡ t.objects = ap (λ (u : State). u.objects) (sym h.2) in
    (subst (HaveWindows (front ++ Called entry ∷ [])) same (step_have front s h.0 entry sane h.1 have), step_flips front s h.0 entry have (step_kind 0 0 s h.0 entry.caller entry.reply entry.call h.1))
item_windows front s t (Ended mark) sane h have =
    let same : s.objects ≡ t.objects = ap (λ (u : State). u.objects) (sym h.1) in
    (subst (HaveWindows (front ++ Ended mark ∷ [])) same (λ place a of e is. window_later front (Ended mark ∷ []) a.name of.window (have place a of e is)), tt)

run : (front later : List Item) (s t : State) → IsStateOf front s → Leads s later t → HaveWindows front s.objects → InWindows (front ++ later) (flat_map flips_in later)
unfolding Leads
run front [] s t state leads have = tt
run front (item ∷ later) s t state leads have =
    let one = item_windows front s leads.0 item (state_sane front s state) leads.1 have in
    let after : IsStateOf (front ++ item ∷ []) leads.0 = leads_on empty_state s leads.0 front (item ∷ []) state (leads.0, leads.1, refl) in
    let rest = run (front ++ item ∷ []) later leads.0 t after leads.2 one.0 in
    let lists : (front ++ item ∷ []) ++ later ≡ front ++ item ∷ later = append_assoc front (item ∷ []) later in
    join_windows (front ++ item ∷ later) (flips_in item) (flat_map flips_in later) (all_later front (item ∷ later) (flips_in item) one.1) (subst (λ l. InWindows l (flat_map flips_in later)) lists rest)

pub flips_are_in_their_windows : FlipsAreInTheirWindows
unfolding Leads
flips_are_in_their_windows history legal = run [] history empty_state legal.0 refl legal.1 (λ place a of e is. nothing_there a e)
