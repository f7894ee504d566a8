-- Held names: at first, as a set, while others call, and how many there are.
use Rattle.std.proofs.Common.{◌≡◌, inl, inr, ℕ, ◌≤◌, true, false, List, [], ◌∷◌, ◌++◌, filter_map, Option, Some, None, refl, ap, sym, ◌∙◌, subst, arith}
use Rattle.std.proofs.lemmas.Bool.{false≢true}
use Rattle.std.proofs.lemmas.List.{append-nil}
use Rattle.device_lock.specs.Numbers.{items_of}
use Rattle.driver_model.specs.Histories.{IsStateOf}
use Rattle.driver_model.specs.Parts.{given_by, is_among, names_of}
use Rattle.driver_model.specs.Passes.{caller_of}
use Rattle.driver_model.specs.States.{State, empty_state, is_given}
use Rattle.driver_model.specs.declared.calls.Call.{Call}
use Rattle.driver_model.specs.declared.calls.Call.TheVariants as call
use Rattle.driver_model.specs.declared.items.Entry.{Entry}
use Rattle.driver_model.specs.declared.items.Item.{Item}
use Rattle.driver_model.specs.declared.items.Item.TheVariants.{Called}
use Rattle.driver_model.proofs.Leading.{leads_front, names_are_given_once}
use Rattle.player_laws.specs.Room.{is_live_name, live_made}
use Rattle.player_laws.proofs.Counts.{own_among}
use Rattle.player_laws.proofs.Room.{live_objects_only_die}
use Rattle.player_laws.proofs.States.{state_sane}
use Rattle.stream_calls.specs.DeviceLaws.{HeldNamesAreASet, HeldNamesAreWorked, LiveObjectsAreHeld, NoNamesAreHeldFirst, OthersKeepOneDevice}
use Rattle.stream_calls.specs.HeldNames.{HoldsNames, MayCall}
use Rattle.stream_calls.specs.OneDevice.{StaysOnOneDevice}
use Rattle.stream_calls.proofs.ItemLists.{AreApart, among_here, are_apart, cut, names_kept, no_more_apart, own_apart}
use Rattle.stream_calls.proofs.LiveNames.{given_there, leads_back}

-- ---- at first, and in any order

pub no_names_are_held_first : NoNamesAreHeldFirst
no_names_are_held_first seen = record {
  living = λ s name state among live. among;
  on_device = λ device name e among. absurd (false≢true among);
  none = λ none. refl;
}

none_among : (names : List ℕ) → ((name : ℕ) → is_among names name ≡ false) → names ≡ []
none_among [] none = refl
none_among (name ∷ names) none = absurd (false≢true (sym (none name) ∙ among_here name names))

pub held_names_are_a_set : HeldNamesAreASet
held_names_are_a_set seen own held others same h = record {
  living = λ s name state among live. sym (same name) ∙ h.living s name state among live;
  on_device = λ device name e among. h.on_device device name e (same name ∙ among);
  none = λ none. none_among others (λ name. sym (same name) ∙ ap (λ l. is_among l name) (h.none none));
}

-- ---- how many live

pub live_objects_are_held : LiveObjectsAreHeld
live_objects_are_held seen own caller held s state is_own h =
    let all = are_apart (filter_map given_by seen) (names_are_given_once seen (s, state)) in
    let apart =
    subst (λ items. AreApart (filter_map given_by items)) is_own (own_apart caller (λ history name among. own_among caller history name among) seen all) in
    no_more_apart (is_live_name s) (filter_map given_by own) held apart (λ name among live. h.living s name state among live)

-- ---- others' calls

module _ (seen between own : List Item) (caller : List ℕ) (stream : ℕ) (held : List ℕ) (is_own : items_of caller_of caller seen ≡ own) where
  names_more : (device : ℕ) (name : ℕ) → is_among (names_of seen device) name ≡ true → is_among (names_of (seen ++ between) device) name ≡ true
  names_more device name is = names_kept seen between device name is

  few_live : StaysOnOneDevice seen own stream → (front later : List Item) (s : State) → seen ++ between ≡ front ++ later → IsStateOf front s
      → live_made s own ≤ 63
  few_live stays front later s e state = elim (cut seen between front later e) [
    | inl within ↦ stays.live front within.0 s within.1 state
    | inr beyond ↦
        let parts = leads_front empty_state s seen beyond.0 (subst (λ l. IsStateOf l s) beyond.1 state) in
        let before = stays.live seen [] parts.0 (sym (append-nil seen)) parts.1 in
        let fewer : live_made s own ≤ live_made parts.0 own =
        subst (λ items. live_made s items ≤ live_made parts.0 items) is_own (live_objects_only_die seen beyond.0 parts.0 s caller parts.1 parts.2) in
        omega (arith, before, fewer)
  ]

  stays_among : StaysOnOneDevice seen own stream → StaysOnOneDevice (seen ++ between) own stream
  stays_among stays = record {
    one_device = stays.one_device;
    on_device = λ place entry e other.
        let r = stays.on_device place entry e other in
        (r.0, r.1, record { some = r.2.some; all = λ name among. names_more r.0 name (r.2.all name among) });
    one_queue = stays.one_queue;
    window = stays.window;
    left_out = stays.left_out;
    live = few_live stays;
    made = stays.made;
    counted = stays.counted;
  }

  -- what the caller made is given
  own_given : (s : State) (name : ℕ) → IsStateOf seen s → is_among (filter_map given_by own) name ≡ true → is_given s name ≡ true
  own_given s name state among =
      let its : is_among (filter_map given_by (items_of caller_of caller seen)) name ≡ true =
      ap (λ items. is_among (filter_map given_by items) name) is_own ∙ among in
      sym (given_there seen s name state) ∙ own_among caller seen name its

  still_held : HoldsNames seen own held → HoldsNames (seen ++ between) own held
  still_held h = record {
    living = λ s name state among live.
        let parts = leads_front empty_state s seen between state in
        let given = own_given parts.0 name parts.1 among in
        h.living parts.0 name parts.1 among (leads_back parts.0 s between name (state_sane seen parts.0 parts.1) parts.2 given live);
    on_device = λ device name e among. names_more device name (h.on_device device name e among);
    none = h.none;
  }

pub others_keep_one_device : OthersKeepOneDevice
others_keep_one_device seen between own caller stream held is_own stays h =
    (stays_among seen between own caller stream held is_own stays, still_held seen between own caller stream held is_own h)

-- ---- worked cases

one_call : (a b : Entry) → Called a ≡ Called b → a ≡ b
one_call a b e = cc

pub held_names_are_worked : HeldNamesAreWorked
held_names_are_worked = record {
  given = refl;
  lacking = refl;
  destroyed = refl;
  refused = refl;
  first = record {
    may_call = λ entry is. subst (λ (asked : Call). MayCall [] 3 [] asked) (ap (λ (e : Entry). e.call) (one_call _ entry is)) (record {
      one_device = λ create. refl;
      some = λ other. absurd (false≢true (sym other));
      all = λ name among. among;
      one_queue = λ create. absurd (false≢true create);
      window = λ device window is. absurd (let k : call.DeviceCreate ≡ call.QueueCreate device window = is in cc);
      left_out = refl;
    });
    room = λ gives. omega arith;
    made = λ gives. omega arith;
    counted = λ counts. omega arith;
  };
  second = λ may. let k : (let o : Option ℕ = Some 5 in o ≡ None) = (may.may_call _ refl).one_device refl in absurd cc;
}
