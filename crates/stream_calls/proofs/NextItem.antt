-- One item more of a caller that stays on one device.
use Rattle.std.proofs.Common.{◌≡◌, ◌⊎◌, inl, inr, ℕ, zero, suc, ◌+◌, ◌*◌, ◌≤◌, ◌==◌, Bool, true, false, cond, ◌||◌, if◌then◌else◌, List, [], ◌∷◌, ◌++◌, count_by, filter_map, length, map, slice_get, Option, Some, None, Ok, Err, refl, ap, sym, ◌∙◌, subst, arith}
use Rattle.std.proofs.lemmas.Bool.{and_parts, eq-eqb, eqb-true, false≢true, or_from, or_left}
use Rattle.std.proofs.lemmas.List.{append-nil, length-append, same_from_push}
use Rattle.std.proofs.lemmas.List.Elements.{filter_map-append}
use Rattle.std.proofs.lemmas.List.Folds.{list_any-append}
use Rattle.std.proofs.lemmas.List.Sums.{sum_by-append, sum_by_push}
use Rattle.std.specs.List.{cons_option, list_any}
use Rattle.std.specs.Option.{option_map_or}
use Rattle.device_lock.specs.Numbers.{items_of}
use Rattle.device_lock.proofs.Callers.{items_mine}
use Rattle.handle_table.specs.Name.{kind_of}
use Rattle.driver_model.specs.Answers.{Reply}
use Rattle.driver_model.specs.Creates.{Creates, device_create, new_device}
use Rattle.driver_model.specs.Histories.{Happens, IsStateOf, Leads}
use Rattle.driver_model.specs.Objects.{as_decoder, as_mixer, as_output, as_video}
use Rattle.driver_model.specs.Parts.{first_name, given_by, is_among, is_creation, is_first, made_on, name_given, names_in, names_of, reference_name, wish_name}
use Rattle.driver_model.specs.Passes.{caller_of}
use Rattle.driver_model.specs.Refusals.{Looked}
use Rattle.driver_model.specs.States.{State, empty_state, is_given}
use Rattle.driver_model.specs.Steps.{Step}
use Rattle.driver_model.specs.declared.calls.Call.{Call}
use Rattle.driver_model.specs.declared.calls.Call.TheVariants as call
use Rattle.driver_model.specs.declared.items.Entry.{Entry}
use Rattle.driver_model.specs.declared.items.Item.{Item}
use Rattle.driver_model.specs.declared.items.Item.TheVariants.{Called, Ended}
use Rattle.driver_model.specs.declared.numbers.TheConstants.{DEVICE}
use Rattle.driver_model.specs.declared.replies.Answer.TheVariants.{Name}
use Rattle.driver_model.proofs.Leading.{histories_go_on, histories_lead_to_one, leads_front}
use Rattle.driver_model.proofs.PartCalls.{step_effect}
use Rattle.driver_model.proofs.PartEffects.{Effect, Grown, IsMade, IsNewRoot}
use Rattle.driver_model.proofs.PartHistories.{devices_have_their_kind}
use Rattle.driver_model.proofs.PartOwned.{IsSane, happens_sane}
use Rattle.player_laws.specs.Room.{given_in, is_live_name, live_made}
use Rattle.player_laws.proofs.Counts.{own_among}
use Rattle.player_laws.proofs.Room.{live_objects_only_die}
use Rattle.player_laws.proofs.States.{device_place, names_apart, state_sane}
use Rattle.stream_calls.specs.Counted.{device_made, device_of, has_done, is_call, is_counted, is_device_create, is_done, is_queue_create, is_render, renders_in}
use Rattle.stream_calls.specs.DeviceLaws.{OwnCallsKeepOneDevice}
use Rattle.stream_calls.specs.HeldNames.{HoldsNames, MayCall, MayMake, all_but, held_after, held_behind, held_when_done}
use Rattle.stream_calls.specs.OneDevice.{NamesTheDevice, StaysOnOneDevice, is_left_out}
use Rattle.stream_calls.proofs.Holding.{live_objects_are_held, others_keep_one_device}
use Rattle.stream_calls.proofs.ItemLists.{among_back, among_either, among_front, among_given, among_listed, among_one, but_keeps, but_less, device_item, device_kept, device_new, device_same, device_there, front_or_whole, get_at, get_end, given_end, names_kept, names_new, no_item, own_there, split_end}
use Rattle.stream_calls.proofs.LiveNames.{destroyed_name, given_there, happens_back, live_is_given}

-- ---- what a call names

abbrev FirstIsAmong : Call → Type 0
FirstIsAmong asked = (name : ℕ) → first_name asked ≡ Some name → is_among (names_in asked) name ≡ true

some_is : (a b : ℕ) → (let o : Option ℕ = Some a in o ≡ Some b) → a ≡ b
some_is a b e = cc

no_name : {A : Type 0} (name : ℕ) → (let o : Option ℕ = None in o ≡ Some name) → A
no_name name e = absurd (let k : (let o : Option ℕ = None in o ≡ Some name) = e in cc)

heads : (one name : ℕ) (others : List ℕ) → (let o : Option ℕ = Some one in o ≡ Some name) → is_among (one ∷ others) name ≡ true
heads one name others e = or_left (one == name) (is_among others name) (eq-eqb one name (some_is one name e))

-- its first name is among all of them
first_is_among : (asked : Call) → FirstIsAmong asked
first_is_among (call.QueueDisplay queue surface earliest) name e = heads queue name (surface ∷ []) e
first_is_among (call.QueryStatus queue surface) name e = heads queue name (surface ∷ []) e
first_is_among (call.BlockUntilIdle queue surface) name e = heads queue name (surface ∷ []) e
first_is_among (call.Poll []) name e = no_name name e
first_is_among (call.Poll (one ∷ others)) name e = heads (wish_name one) name (map wish_name others) e
first_is_among (call.WaitUntil []) name e = no_name name e
first_is_among (call.WaitUntil (one ∷ others)) name e = heads (wish_name one) name (map wish_name others) e
first_is_among (call.Render decoder target info bytes) name e = heads decoder name (target ∷ filter_map reference_name info.references) e
first_is_among (call.Mix mixer structure video output) name e = heads mixer name (video ∷ output ∷ []) e
first_is_among other name e = among_listed (first_name other) name e

-- ---- created devices

-- Where a device was asked for and made, its name was given.
created_name : (old new : State) (caller : List ℕ) (asked : Call) (reply : Reply) → Step old caller asked reply new → is_device_create asked ≡ true
    → is_done reply ≡ true → (name : ℕ) × (name_given reply ≡ Some name)
created_name old new caller call.DeviceCreate reply (inl lacks) is done = absurd (false≢true (sym (ap is_done lacks.1.0) ∙ done))
created_name old new caller call.DeviceCreate reply (inr does) is done = by_look (device_create old) does where
  by_look : (look : Looked ℕ) → Creates old reply new look (λ content. content ≡ new_device) → (name : ℕ) × (name_given reply ≡ Some name)
  by_look (Err refusal) p = absurd (false≢true (sym (ap is_done p.0) ∙ done))
  by_look (Ok place) (inl made) = (made.name, ap name_given made.tells)
  by_look (Ok place) (inr full) = absurd (false≢true (sym (ap is_done full.1.0) ∙ done))
created_name old new caller other reply step is done = absurd (false≢true is)

-- the step of an entry of a legal history
pub record IsStepOf (entry : Entry) : Type 0 where
  pub old : State
  pub new : State
  pub sane : IsSane old
  pub step : Step old entry.caller entry.call entry.reply new

pub step_at : (s t : State) (history : List Item) (place : ℕ) (entry : Entry) → IsSane s → Leads s history t → slice_get history place ≡ Some (Called entry)
    → IsStepOf entry
unfolding Leads
step_at s t [] place entry sane leads e = no_item (Called entry) e
step_at s t (item ∷ later) zero entry sane leads e =
    let is : item ≡ Called entry = (let k : Some item ≡ Some (Called entry) = e in cc) in
    let h : Happens s (Called entry) leads.0 = subst (λ (i : Item). Happens s i leads.0) is leads.1 in
    record { old = s; new = h.0; sane = sane; step = h.1 }
step_at s t (item ∷ later) (suc place) entry sane leads e = step_at leads.0 t later place entry (happens_sane s leads.0 item sane leads.1) leads.2 e

empty_sane : IsSane empty_state
unfolding Leads
empty_sane = state_sane [] empty_state refl

pub step_of : (history : List Item) (s : State) (place : ℕ) (entry : Entry) → IsStateOf history s → slice_get history place ≡ Some (Called entry)
    → IsStepOf entry
step_of history s place entry state e = step_at empty_state s history place entry empty_sane state e

made_name : (entry : Entry) (name : ℕ) → is_device_create entry.call ≡ true → name_given entry.reply ≡ Some name → device_made (Called entry) ≡ Some name
made_name entry name is given = ap (λ b. if b then name_given entry.reply else None) is ∙ given

-- the device's name that such an entry gives
abbrev made_by : Call → Reply → Option ℕ
made_by asked reply = if is_device_create asked then name_given reply else None

nothing_made : (asked : Call) (reply : Reply) → name_given reply ≡ None → made_by asked reply ≡ None
nothing_made asked reply none = by_test (is_device_create asked) where
  by_test : (b : Bool) → (let o : Option ℕ = if b then name_given reply else None in o ≡ None)
  by_test true = none
  by_test false = refl

-- the entry that made the device is its creation
creation : (device : ℕ) (asked : Call) (reply : Reply) → made_by asked reply ≡ Some device → is_creation device asked reply ≡ true
creation device call.DeviceCreate (Ok (Name name)) e = eq-eqb name device (some_is name device e)
creation device call.DeviceCreate (Ok answer) e = no_name device e
creation device call.DeviceCreate (Err refusal) e = no_name device e
creation device other reply e = no_name device e

device_kind : (history own : List Item) (caller : List ℕ) (s : State) (device : ℕ) → IsStateOf history s → items_of caller_of caller history ≡ own
    → device_of own ≡ Some device → kind_of device ≡ DEVICE
device_kind history own caller s device state is_own e =
    let r = device_item own device e in
    let at = own_there caller history r.0 r.1 (ap (λ items. slice_get items r.0) is_own ∙ r.2) in
    by_item r.1 at.0 at.1 r.3
  where
    by_item : (item : Item) (place : ℕ) → slice_get history place ≡ Some item → device_made item ≡ Some device → kind_of device ≡ DEVICE
    by_item (Called entry) place at made = devices_have_their_kind history place device entry (s, state) at (creation device entry.call entry.reply made)
    by_item (Ended mark) place at made = no_name device made

only : (s t : State) (item : Item) → Happens s item t → Leads s (item ∷ []) t
unfolding Leads
only s t item h = (t, h, refl)

one_happens : (s t : State) (item : Item) → Leads s (item ∷ []) t → Happens s item t
unfolding Leads
one_happens s t item leads = subst (λ (u : State). Happens s item u) (sym leads.2) leads.1

given_on : (front rest : List Item) (name : ℕ) → is_among (filter_map given_by front) name ≡ true → is_among (filter_map given_by (front ++ rest)) name ≡ true
given_on front rest name is =
    ap (λ l. is_among l name) (filter_map-append given_by front rest) ∙ among_front (filter_map given_by front) (filter_map given_by rest) name is

-- ---- the next item

module _ (seen own : List Item) (caller : List ℕ) (stream : ℕ) (held : List ℕ) (item : Item) where
  abbrev own_then : List Item
  own_then = own ++ item ∷ []

  abbrev seen_then : List Item
  seen_then = seen ++ item ∷ []

  -- a name that is given is held, one more than before
  held_longer : (i : Item) (name : ℕ) → given_by i ≡ Some name → length (held_after held i) ≡ length held + 1
  held_longer (Called entry) name e = by_reply entry.reply e where
    by_reply : (reply : Reply) → name_given reply ≡ Some name → length (held_behind held entry.call reply) ≡ length held + 1
    by_reply (Ok (Name one)) k = length-append held (one ∷ [])
    by_reply (Ok answer) k = no_name name k
    by_reply (Err refusal) k = no_name name k
  held_longer (Ended mark) name e = no_name name e

  -- the item comes in this state, and leaves that one, of a caller who stays on one device, holds these names, and may make it
  pub record IsNext (s t : State) : Type 0 where
    pub state : IsStateOf seen s
    pub happens : Happens s item t
    pub is_own : items_of caller_of caller seen ≡ own
    pub stays : StaysOnOneDevice seen own stream
    pub holds : HoldsNames seen own held
    pub may : MayMake own stream held item

  module _ (s t : State) (n : IsNext s t) where
    sane : IsSane s
    sane = state_sane seen s n.state

    -- the entry's first name is held, so there is a device
    has_device : (asked : Call) → MayCall own stream held asked → (name : ℕ) → first_name asked ≡ Some name → (device : ℕ) × (device_of own ≡ Some device)
    has_device asked may_call name first = by_device (device_of own) refl where
      among : is_among held name ≡ true
      among = may_call.all name (first_is_among asked name first)

      by_device : (o : Option ℕ) → device_of own ≡ o → (device : ℕ) × (device_of own ≡ Some device)
      by_device None e = absurd (false≢true (ap (λ l. is_among l name) (sym (n.holds.none e)) ∙ among))
      by_device (Some device) e = (device, e)

    -- what is given is what its object is named
    grown : (entry : Entry) (name : ℕ) (new : State) → Step s entry.caller entry.call entry.reply new → name_given entry.reply ≡ Some name
        → (p : Grown s new entry.call entry.reply) × (p.one.name ≡ name)
    grown entry name new step given = by_effect (step_effect s new entry.caller entry.reply sane.rooted sane.sound entry.call step) where
      by_effect : Effect s new entry.caller entry.call entry.reply → (p : Grown s new entry.call entry.reply) × (p.one.name ≡ name)
      by_effect (inl (none, other)) = no_name name (sym none ∙ given)
      by_effect (inr p) = (p, some_is p.one.name name (sym (ap name_given p.tells) ∙ given))

    -- a name that the item gives wasn't given before
    fresh : (name : ℕ) → given_by item ≡ Some name → is_given s name ≡ false
    fresh name given = by_item item n.happens given where
      by_item : (i : Item) → Happens s i t → given_by i ≡ Some name → is_given s name ≡ false
      by_item (Called entry) h e = let p = grown entry name h.0 h.1 e in ap (is_given s) (sym p.1) ∙ p.0.fresh
      by_item (Ended mark) h e = no_name name e

    own_given : (name : ℕ) → is_among (filter_map given_by own) name ≡ true → is_given s name ≡ true
    own_given name among =
        let its : is_among (filter_map given_by (items_of caller_of caller seen)) name ≡ true =
        ap (λ items. is_among (filter_map given_by items) name) n.is_own ∙ among in
        sym (given_there seen s name n.state) ∙ own_among caller seen name its

    -- ---- names held

    -- an object that is made on a held name is made on the device
    made_on_device : (entry : Entry) (new : State) (p : Grown s new entry.call entry.reply) (device : ℕ) → device_of own ≡ Some device
        → MayCall own stream held entry.call → IsMade s entry.call p.one → made_on device (Called entry) ≡ Some p.one.name
    made_on_device entry new p device e may_call made =
        let among : is_among (names_of seen device) made.name ≡ true =
        n.holds.on_device device made.name e (may_call.all made.name (first_is_among entry.call made.name made.first)) in
        let there = device_place seen s device (device_kind seen own caller s device n.state n.is_own e) n.state in
        let root = sane.rooted p.one.device made.root made.stands in
        let its : is_among (names_of seen device) made.root.name ≡ true = ap (is_among (names_of seen device)) made.has_name ∙ among in
        let of : made.root.device ≡ there.on = eqb-true made.root.device there.on (sym (there.are.own p.one.device made.root made.stands) ∙ its) in
        let at : p.one.device ≡ there.on = sym (root.is_device made.is_device) ∙ of in
        let named : made.root.name ≡ device =
        eqb-true made.root.name device (sym (there.is_at p.one.device made.root made.stands) ∙ eq-eqb p.one.device there.on at) in
        let first : is_first device entry.call ≡ true =
        ap (λ o. option_map_or (λ name. name == device) o false) made.first ∙ eq-eqb made.name device (sym made.has_name ∙ named) in
        ap (λ b. if b then name_given entry.reply else None) first ∙ ap name_given p.tells

    less_when_done : (asked : Call) (name : ℕ) → is_among (held_when_done held asked) name ≡ true → is_among held name ≡ true
    less_when_done (call.VideoDestroy surface) name is = but_less surface held name is
    less_when_done (call.OutputDestroy surface) name is = but_less surface held name is
    less_when_done (call.DecoderDestroy decoder) name is = but_less decoder held name is
    less_when_done (call.MixerDestroy mixer) name is = but_less mixer held name is
    less_when_done other name is = is

    abbrev IsOfDevice : ℕ → ℕ → Type 0
    IsOfDevice device name = is_among (names_of seen_then device) name ≡ true

    on_device_then : (device name : ℕ) → device_of own_then ≡ Some device → is_among (held_after held item) name ≡ true → IsOfDevice device name
    on_device_then device name e among = by_item item refl n.happens among where
      old : device_made item ≡ None → is_among held name ≡ true → IsOfDevice device name
      old none is = names_kept seen (item ∷ []) device name (n.holds.on_device device name (sym (device_same own item none) ∙ e) is)

      given : (entry : Entry) (one : ℕ) → item ≡ Called entry → Happens s (Called entry) t → entry.reply ≡ Ok (Name one)
          → is_among (held ++ one ∷ []) name ≡ true → IsOfDevice device name
      given entry one is h tells in_held = by_origin p.0.origin where
        may_call : MayCall own stream held entry.call
        may_call = n.may.may_call entry is

        p : (p : Grown s h.0 entry.call entry.reply) × (p.one.name ≡ one)
        p = grown entry one h.0 h.1 (ap name_given tells)

        by_origin : IsNewRoot s entry.call p.0.one ⊎ IsMade s entry.call p.0.one → IsOfDevice device name
        by_origin (inl root) =
            let create : is_device_create entry.call ≡ true = ap is_device_create root.0 in
            let none : device_of own ≡ None = may_call.one_device create in
            let made : device_made item ≡ Some one = ap device_made is ∙ made_name entry one create (ap name_given tells) in
            let its : one ≡ device = some_is one device (sym made ∙ (sym (device_new own item none) ∙ e)) in
            let alone = ap (λ l. is_among (l ++ one ∷ []) name) (sym (n.holds.none none)) ∙ in_held in
            let same : one ≡ name = some_is one name (among_one (Some one) name alone) in
            or_left (device == name) (is_among (filter_map (made_on device) seen_then) name) (eq-eqb device name (sym its ∙ same))
        by_origin (inr made) =
            let its = has_device entry.call may_call made.name made.first in
            let same : its.0 ≡ device = some_is its.0 device (sym (device_kept own item its.0 its.1) ∙ e) in
            let of : device_of own ≡ Some device = its.1 ∙ ap (λ n. Some n) same in
            elim (among_either held (one ∷ []) name in_held) [
              | inl before ↦ names_kept seen (item ∷ []) device name (n.holds.on_device device name of before)
              | inr new ↦
                  let here : one ≡ name = some_is one name (among_one (Some one) name new) in
                  let made_here : made_on device item ≡ Some name =
                  ap (made_on device) is ∙ (made_on_device entry h.0 p.0 device of may_call made ∙ ap (λ n. Some n) (p.1 ∙ here)) in
                  names_new seen item device name made_here
            ]

      by_reply : (entry : Entry) (reply : Reply) → item ≡ Called entry → entry.reply ≡ reply → Happens s (Called entry) t
          → is_among (held_behind held entry.call reply) name ≡ true → IsOfDevice device name
      by_reply entry (Ok (Name one)) is tells h k = given entry one is h tells k
      by_reply entry (Ok answer) is tells h k =
          old (ap device_made is ∙ nothing_made entry.call entry.reply (ap name_given tells)) (less_when_done entry.call name k)
      by_reply entry (Err refusal) is tells h k = old (ap device_made is ∙ nothing_made entry.call entry.reply (ap name_given tells)) k

      by_item : (i : Item) → item ≡ i → Happens s i t → is_among (held_after held i) name ≡ true → IsOfDevice device name
      by_item (Called entry) is h k = by_reply entry entry.reply is refl h k
      by_item (Ended mark) is h k = old (ap device_made is) k

    none_when_done : (asked : Call) → held_when_done [] asked ≡ []
    none_when_done (call.VideoDestroy surface) = refl
    none_when_done (call.OutputDestroy surface) = refl
    none_when_done (call.DecoderDestroy decoder) = refl
    none_when_done (call.MixerDestroy mixer) = refl
    none_when_done other = refl

    none_then : device_of own_then ≡ None → held_after held item ≡ []
    none_then none = by_device (device_of own) refl where
      by_device : (o : Option ℕ) → device_of own ≡ o → held_after held item ≡ []
      by_device (Some device) e = absurd (let k : (let o : Option ℕ = Some device in o ≡ None) = sym (device_kept own item device e) ∙ none in cc)
      by_device None e = by_item item refl n.happens where
        empty : held ≡ []
        empty = n.holds.none e

        given : (entry : Entry) (one : ℕ) → item ≡ Called entry → Happens s (Called entry) t → entry.reply ≡ Ok (Name one) → held ++ one ∷ [] ≡ []
        given entry one is h tells = by_origin p.0.origin where
          may_call : MayCall own stream held entry.call
          may_call = n.may.may_call entry is

          p : (p : Grown s h.0 entry.call entry.reply) × (p.one.name ≡ one)
          p = grown entry one h.0 h.1 (ap name_given tells)

          by_origin : IsNewRoot s entry.call p.0.one ⊎ IsMade s entry.call p.0.one → held ++ one ∷ [] ≡ []
          by_origin (inl root) =
              let made : device_made item ≡ Some one = ap device_made is ∙ made_name entry one (ap is_device_create root.0) (ap name_given tells) in
              no_name one (sym none ∙ (device_new own item e ∙ made))
          by_origin (inr made) =
              let its = has_device entry.call may_call made.name made.first in
              no_name its.0 (sym e ∙ its.1)

        by_reply : (entry : Entry) (reply : Reply) → item ≡ Called entry → entry.reply ≡ reply → Happens s (Called entry) t
            → held_behind held entry.call reply ≡ []
        by_reply entry (Ok (Name one)) is tells h = given entry one is h tells
        by_reply entry (Ok answer) is tells h = ap (λ l. held_when_done l entry.call) empty ∙ none_when_done entry.call
        by_reply entry (Err refusal) is tells h = empty

        by_item : (i : Item) → item ≡ i → Happens s i t → held_after held i ≡ []
        by_item (Called entry) is h = by_reply entry entry.reply is refl h
        by_item (Ended mark) is h = empty

    -- a held name that still lives isn't the one that a call destroyed
    abbrev LivesOn : State → Call → Reply → Type 0
    LivesOn new asked reply = (name : ℕ) → is_live_name new name ≡ true → is_among held name ≡ true → is_among (held_when_done held asked) name ≡ true

    not_destroyed : (new : State) (gone name : ℕ) → is_live_name new gone ≡ false → is_live_name new name ≡ true → is_among held name ≡ true
        → is_among (all_but gone held) name ≡ true
    not_destroyed new gone name off live is = but_keeps gone held name (λ same. false≢true (sym off ∙ (ap (is_live_name new) (sym same) ∙ live))) is

    keeps_live : (who : List ℕ) (new : State) (asked : Call) (reply : Reply) → Step s who asked reply new → is_done reply ≡ true → LivesOn new asked reply
    keeps_live who new (call.VideoDestroy surface) reply (inl lacks) done name live is = absurd (false≢true lacks.0)
    keeps_live who new (call.VideoDestroy surface) reply (inr does) done name live is =
        not_destroyed new surface name (destroyed_name as_video s new reply surface (names_apart seen s n.state) does done) live is
    keeps_live who new (call.OutputDestroy surface) reply (inl lacks) done name live is = absurd (false≢true lacks.0)
    keeps_live who new (call.OutputDestroy surface) reply (inr does) done name live is =
        not_destroyed new surface name (destroyed_name as_output s new reply surface (names_apart seen s n.state) does done) live is
    keeps_live who new (call.DecoderDestroy decoder) reply (inl lacks) done name live is = absurd (false≢true lacks.0)
    keeps_live who new (call.DecoderDestroy decoder) reply (inr does) done name live is =
        not_destroyed new decoder name (destroyed_name as_decoder s new reply decoder (names_apart seen s n.state) does done) live is
    keeps_live who new (call.MixerDestroy mixer) reply (inl lacks) done name live is = absurd (false≢true lacks.0)
    keeps_live who new (call.MixerDestroy mixer) reply (inr does) done name live is =
        not_destroyed new mixer name (destroyed_name as_mixer s new reply mixer (names_apart seen s n.state) does done) live is
    keeps_live who new other reply step done name live is = is

    living_then : (name : ℕ) → is_among (filter_map given_by own_then) name ≡ true → is_live_name t name ≡ true → is_among (held_after held item) name ≡ true
    living_then name among live =
        elim (among_either (filter_map given_by own) (cons_option (given_by item) []) name (ap (λ l. is_among l name) (sym (given_end own item)) ∙ among)) [
          | inl before ↦
              let lived : is_live_name s name ≡ true = happens_back s t item name sane n.happens (own_given name before) live in
              by_item item n.happens (n.holds.living s name n.state before lived)
          | inr new ↦ now item (among_one (given_by item) name new)
        ]
      where
        by_reply : (entry : Entry) (reply : Reply) (new : State) → entry.reply ≡ reply → Step s entry.caller entry.call reply new
            → is_live_name new name ≡ true → is_among held name ≡ true → is_among (held_behind held entry.call reply) name ≡ true
        by_reply entry (Ok (Name one)) new tells step on is = among_front held (one ∷ []) name is
        by_reply entry (Ok answer) new tells step on is = keeps_live entry.caller new entry.call (Ok answer) step refl name on is
        by_reply entry (Err refusal) new tells step on is = is

        by_item : (i : Item) → Happens s i t → is_among held name ≡ true → is_among (held_after held i) name ≡ true
        by_item (Called entry) h is = by_reply entry entry.reply h.0 refl h.1 (ap (λ (u : State). is_live_name u name) (sym h.2) ∙ live) is
        by_item (Ended mark) h is = is

        given : (entry : Entry) (reply : Reply) → name_given reply ≡ Some name → is_among (held_behind held entry.call reply) name ≡ true
        given entry (Ok (Name one)) e = among_back held (one ∷ []) name (among_given (Some one) name e)
        given entry (Ok answer) e = no_name name e
        given entry (Err refusal) e = no_name name e

        now : (i : Item) → given_by i ≡ Some name → is_among (held_after held i) name ≡ true
        now (Called entry) e = given entry entry.reply e
        now (Ended mark) e = no_name name e

    -- ---- its calls

    -- where a device was made there is one
    has_made : (front later : List Item) (entry : Entry) → own ≡ front ++ Called entry ∷ later → is_device_create entry.call ≡ true
        → is_done entry.reply ≡ true → device_of own ≡ None → ⊥
    has_made front later entry splits create done none =
        let stands : slice_get (items_of caller_of caller seen) (length front) ≡ Some (Called entry) =
        ap (λ items. slice_get items (length front)) (n.is_own ∙ splits) ∙ get_at front later (Called entry) in
        let at = own_there caller seen (length front) (Called entry) stands in
        let its = step_of seen s at.0 entry n.state at.1 in
        let name = created_name its.old its.new entry.caller entry.call entry.reply its.step create done in
        device_there front later (Called entry) name.0 (made_name entry name.0 create name.1) (ap device_of (sym splits) ∙ none)

    no_create : (front later : List Item) (entry : Entry) → own ≡ front ++ Called entry ∷ later → is_device_create entry.call ≡ true
        → is_done entry.reply ≡ true → (i : Item) → item ≡ i → is_call is_device_create i ≡ false
    no_create front later entry splits create done (Ended mark) is = refl
    no_create front later entry splits create done (Called next) is = by_test (is_device_create next.call) refl where
      by_test : (b : Bool) → is_device_create next.call ≡ b → b ≡ false
      by_test false e = refl
      by_test true e = absurd (has_made front later entry splits create done ((n.may.may_call next is).one_device e))

    one_device_then : (front later : List Item) (entry : Entry) → own_then ≡ front ++ Called entry ∷ later → is_device_create entry.call ≡ true
        → is_done entry.reply ≡ true → list_any (is_call is_device_create) later ≡ false
    one_device_then front later entry splits create done = elim (split_end own item front later (Called entry) splits) [
      | inl last ↦ ap (list_any (is_call is_device_create)) last
      | inr r ↦
          ap (list_any (is_call is_device_create)) r.1
          ∙ (list_any-append (is_call is_device_create) r.0 (item ∷ [])
          ∙ or_from (list_any (is_call is_device_create) r.0) (is_call is_device_create item || false) (n.stays.one_device front r.0 entry r.2 create done)
          (or_from (is_call is_device_create item) false (no_create front r.0 entry r.2 create done item refl) refl))
    ]

    on_device_now : (entry : Entry) → item ≡ Called entry → is_device_create entry.call ≡ false
        → (device : ℕ) × (device_of own_then ≡ Some device) × NamesTheDevice seen_then device entry.call
    on_device_now entry is other = by_first (first_name entry.call) refl where
      may_call : MayCall own stream held entry.call
      may_call = n.may.may_call entry is

      by_first : (o : Option ℕ) → first_name entry.call ≡ o → (device : ℕ) × (device_of own_then ≡ Some device) × NamesTheDevice seen_then device entry.call
      by_first None e = absurd (may_call.some other e)
      by_first (Some name) e =
          let its = has_device entry.call may_call name e in
          let all : (one : ℕ) → is_among (names_in entry.call) one ≡ true → is_among (names_of seen_then its.0) one ≡ true =
          λ one among. names_kept seen (item ∷ []) its.0 one (n.holds.on_device its.0 one its.1 (may_call.all one among)) in
          (its.0, device_kept own item its.0 its.1, record { some = may_call.some other; all = all })

    on_device_all : (place : ℕ) (entry : Entry) → slice_get own_then place ≡ Some (Called entry) → is_device_create entry.call ≡ false
        → (device : ℕ) × (device_of own_then ≡ Some device) × NamesTheDevice seen_then device entry.call
    on_device_all place entry e other = elim (get_end own item place (Called entry) e) [
      | inl before ↦
          let r = n.stays.on_device place entry before other in
          (r.0, device_kept own item r.0 r.1, record { some = r.2.some; all = λ one among. names_kept seen (item ∷ []) r.0 one (r.2.all one among) })
      | inr is ↦ on_device_now entry is other
    ]

    -- ---- counts

    more : (test : Item → Bool) → count_by test own_then ≡ count_by test own + cond (test item) 1 0
    more test = sum_by_push (λ i. cond (test i) 1 0) own item

    one_queue_then : count_by (has_done is_queue_create) own_then ≤ 1
    one_queue_then = by_item item refl where
      none : count_by (has_done is_queue_create) own_then ≡ count_by (has_done is_queue_create) own + 0 → count_by (has_done is_queue_create) own_then ≤ 1
      none e = let before = n.stays.one_queue in omega (arith, e, before)

      by_done : (entry : Entry) → item ≡ Called entry → (b : Bool) → has_done is_queue_create (Called entry) ≡ b
          → count_by (has_done is_queue_create) own_then ≤ 1
      by_done entry is true e =
          let zero_before = (n.may.may_call entry is).one_queue (and_parts (is_queue_create entry.call) (is_done entry.reply) e).0 in
          let count : count_by (has_done is_queue_create) own_then ≡ count_by (has_done is_queue_create) own + 1 =
          more (has_done is_queue_create) ∙ ap (λ b. count_by (has_done is_queue_create) own + cond b 1 0) (ap (has_done is_queue_create) is ∙ e) in
          omega (arith, zero_before, count)
      by_done entry is false e =
          none (more (has_done is_queue_create) ∙ ap (λ b. count_by (has_done is_queue_create) own + cond b 1 0) (ap (has_done is_queue_create) is ∙ e))

      by_item : (i : Item) → item ≡ i → count_by (has_done is_queue_create) own_then ≤ 1
      by_item (Called entry) is = by_done entry is (has_done is_queue_create (Called entry)) refl
      by_item (Ended mark) is =
          none (more (has_done is_queue_create) ∙ ap (λ i. count_by (has_done is_queue_create) own + cond (has_done is_queue_create i) 1 0) is)

    window_then : (place : ℕ) (entry : Entry) (device window : ℕ) → slice_get own_then place ≡ Some (Called entry)
        → entry.call ≡ call.QueueCreate device window → is_done entry.reply ≡ true → window ≡ stream
    window_then place entry device window e asked done = elim (get_end own item place (Called entry) e) [
      | inl before ↦ n.stays.window place entry device window before asked done
      | inr is ↦ (n.may.may_call entry is).window device window asked
    ]

    left_out_then : list_any (is_call is_left_out) own_then ≡ false
    left_out_then =
        list_any-append (is_call is_left_out) own (item ∷ [])
        ∙ or_from (list_any (is_call is_left_out) own) (is_call is_left_out item || false) n.stays.left_out
        (or_from (is_call is_left_out item) false (by_item item refl) refl)
      where
        by_item : (i : Item) → item ≡ i → is_call is_left_out i ≡ false
        by_item (Called entry) is = (n.may.may_call entry is).left_out
        by_item (Ended mark) is = refl

    renders_more : renders_in own ≤ renders_in own_then
    renders_more = let count = more (has_done is_render) in omega (arith, count)

    made_then : given_in own_then ≤ 4 * renders_in own_then + 6
    made_then = by_name (given_by item) refl where
      long : given_in own_then ≡ given_in own + length (cons_option (given_by item) [])
      long = ap length (given_end own item) ∙ length-append (filter_map given_by own) (cons_option (given_by item) [])

      by_name : (o : Option ℕ) → given_by item ≡ o → given_in own_then ≤ 4 * renders_in own_then + 6
      by_name None e =
          let count : given_in own_then ≡ given_in own + 0 = long ∙ ap (λ o. given_in own + length (cons_option o [])) e in
          let before = n.stays.made in
          omega (arith, count, before, renders_more)
      by_name (Some name) e =
          let count : given_in own_then ≡ given_in own + 1 = long ∙ ap (λ o. given_in own + length (cons_option o [])) e in
          let now = n.may.made (λ none. no_name name (sym none ∙ e)) in
          omega (arith, count, now)

    counted_then : count_by is_counted own_then ≤ 40 * (renders_in own_then + 1)
    counted_then = by_test (is_counted item) refl where
      by_test : (b : Bool) → is_counted item ≡ b → count_by is_counted own_then ≤ 40 * (renders_in own_then + 1)
      by_test true e =
          let count : count_by is_counted own_then ≡ count_by is_counted own + 1 = more is_counted ∙ ap (λ b. count_by is_counted own + cond b 1 0) e in
          let now = n.may.counted e in
          omega (arith, count, now)
      by_test false e =
          let count : count_by is_counted own_then ≡ count_by is_counted own + 0 = more is_counted ∙ ap (λ b. count_by is_counted own + cond b 1 0) e in
          let before = n.stays.counted in
          omega (arith, count, before, renders_more)

    -- ---- what lives

    live_end : (u : State) → live_made u own_then ≡ live_made u own + count_by (is_live_name u) (cons_option (given_by item) [])
    live_end u =
        ap (count_by (is_live_name u)) (given_end own item)
        ∙ sum_by-append (λ name. cond (is_live_name u name) 1 0) (filter_map given_by own) (cons_option (given_by item) [])

    -- at a moment before it, the item's name doesn't live
    live_before : (front rest : List Item) (u : State) → seen ≡ front ++ rest → IsStateOf front u → live_made u own_then ≤ 63
    live_before front rest u splits at = by_name (given_by item) refl where
      before : live_made u own ≤ 63
      before = n.stays.live front rest u splits at

      by_name : (o : Option ℕ) → given_by item ≡ o → live_made u own_then ≤ 63
      by_name None e =
          let count : live_made u own_then ≡ live_made u own + 0 = live_end u ∙ ap (λ o. live_made u own + count_by (is_live_name u) (cons_option o [])) e in
          omega (arith, count, before)
      by_name (Some name) e = by_live (is_live_name u name) refl where
        by_live : (b : Bool) → is_live_name u name ≡ b → live_made u own_then ≤ 63
        by_live true live =
            let given : is_among (filter_map given_by front) name ≡ true = given_there front u name at ∙ live_is_given u.objects name live in
            let later : is_given s name ≡ true =
            sym (given_there seen s name n.state) ∙ (ap (λ l. is_among (filter_map given_by l) name) splits ∙ given_on front rest name given) in
            absurd (false≢true (sym (fresh name e) ∙ later))
        by_live false dead =
            let none : count_by (is_live_name u) (name ∷ []) ≡ 0 = sum_by_push (λ n. cond (is_live_name u n) 1 0) [] name ∙ ap (λ b. 0 + cond b 1 0) dead in
            let count : live_made u own_then ≡ live_made u own + 0 =
            live_end u ∙ (ap (λ o. live_made u own + count_by (is_live_name u) (cons_option o [])) e ∙ ap (λ n. live_made u own + n) none) in
            omega (arith, count, before)

    -- and behind it as many as there are held names, or as many as before
    live_now : IsStateOf seen_then t → items_of caller_of caller seen_then ≡ own_then → HoldsNames seen_then own_then (held_after held item)
        → live_made t own_then ≤ 63
    live_now now is_own_then holds_then = by_name (given_by item) refl where
      by_name : (o : Option ℕ) → given_by item ≡ o → live_made t own_then ≤ 63
      by_name None e =
          let count : live_made t own_then ≡ live_made t own + 0 = live_end t ∙ ap (λ o. live_made t own + count_by (is_live_name t) (cons_option o [])) e in
          let least = live_objects_only_die seen (item ∷ []) s t caller n.state (only s t item n.happens) in
          let fewer : live_made t own ≤ live_made s own =
          subst (λ items. live_made t items ≤ live_made s items) n.is_own least in
          let before = n.stays.live seen [] s (sym (append-nil seen)) n.state in
          omega (arith, count, fewer, before)
      by_name (Some name) e =
          let most = live_objects_are_held seen_then own_then caller (held_after held item) t now is_own_then holds_then in
          let room = n.may.room (λ none. no_name name (sym none ∙ e)) in
          let long = held_longer item name e in
          omega (arith, most, room, long)

    holds_then : HoldsNames seen_then own_then (held_after held item)
    holds_then = record {
      living = λ u name at among live.
          let is : u ≡ t = histories_lead_to_one seen_then u t at (histories_go_on seen s t item n.state n.happens) in
          living_then name among (ap (λ (v : State). is_live_name v name) (sym is) ∙ live);
      on_device = λ device name e among. on_device_then device name e among;
      none = λ none. none_then none;
    }

    live_then : items_of caller_of caller seen_then ≡ own_then → (front later : List Item) (u : State) → seen_then ≡ front ++ later → IsStateOf front u
        → live_made u own_then ≤ 63
    live_then is_own_then front later u splits at = elim (front_or_whole seen item front later splits) [
      | inl whole ↦
          let now : IsStateOf seen_then t = histories_go_on seen s t item n.state n.happens in
          let is : u ≡ t = histories_lead_to_one seen_then u t (subst (λ l. IsStateOf l u) whole at) now in
          subst (λ (v : State). live_made v own_then ≤ 63) (sym is) (live_now now is_own_then holds_then)
      | inr r ↦ live_before front r.0 u r.1 at
    ]

    stays_then : items_of caller_of caller seen_then ≡ own_then → StaysOnOneDevice seen_then own_then stream
    stays_then is_own_then = record {
      one_device = one_device_then;
      on_device = on_device_all;
      one_queue = one_queue_then;
      window = window_then;
      left_out = left_out_then;
      live = live_then is_own_then;
      made = made_then;
      counted = counted_then;
    }

pub own_calls_keep_one_device : OwnCallsKeepOneDevice
own_calls_keep_one_device before after item place stream held knows adds stays holds may =
    let middle : List Item = before.seen ++ adds.between in
    let caller : List ℕ = before.number in
    let seen_then : IsStateOf (middle ++ item ∷ []) adds.legal.0 = subst (λ l. IsStateOf l adds.legal.0) adds.seen adds.legal.1 in
    let parts = leads_front empty_state adds.legal.0 middle (item ∷ []) seen_then in
    let happens = one_happens parts.0 adds.legal.0 item parts.2 in
    let own_after : items_of caller_of caller (middle ++ item ∷ []) ≡ before.own ++ item ∷ [] =
    ap (items_of caller_of caller) (sym adds.seen) ∙ (ap (λ c. items_of caller_of c after.seen) (sym adds.number) ∙ (adds.knows.0.0 ∙ adds.own)) in
    let own_before : items_of caller_of caller middle ≡ before.own =
    (same_from_push (items_of caller_of caller middle) before.own item item (sym (items_mine caller_of caller middle item adds.caller) ∙ own_after)).0 in
    let kept = others_keep_one_device before.seen adds.between before.own caller stream held knows.0.0 stays holds in
    let next : IsNext middle before.own caller stream held item parts.0 adds.legal.0 =
    record { state = parts.1; happens = happens; is_own = own_before; stays = kept.0; holds = kept.1; may = may } in
    let now = stays_then middle before.own caller stream held item parts.0 adds.legal.0 next own_after in
    let its = holds_then middle before.own caller stream held item parts.0 adds.legal.0 next in
    let now_own = subst (λ own. StaysOnOneDevice (middle ++ item ∷ []) own stream) (sym adds.own) now in
    let its_own = subst (λ own. HoldsNames (middle ++ item ∷ []) own (held_after held item)) (sym adds.own) its in (
      subst (λ seen. StaysOnOneDevice seen after.own stream) (sym adds.seen) now_own,
      subst (λ seen. HoldsNames seen after.own (held_after held item)) (sym adds.seen) its_own,
    )
