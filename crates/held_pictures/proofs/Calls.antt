-- What is held when a call is made, and behind it.
use Rattle.std.proofs.Common.{◌≡◌, ℕ, false, List, [], ◌∷◌, ◌++◌, Some, append_assoc, refl, ap, sym, ◌∙◌, subst}
use Rattle.device_lock.specs.Numbers.{items_of}
use Rattle.device_lock.specs.declared.view.View.{View}
use Rattle.driver_model.specs.Histories.{Happens, IsStateOf, Leads}
use Rattle.driver_model.specs.Passes.{caller_of}
use Rattle.driver_model.specs.States.{State, empty_state}
use Rattle.driver_model.specs.declared.items.Item.{Item}
use Rattle.player_laws.proofs.States.{happens_stays, state_sane}
use Rattle.stream_calls.proofs.LastItems.{last_happens, others_come_between}
use Rattle.stream_calls.proofs.OthersGo.{no_strangers_go_on}
use Rattle.stream_calls.specs.Counted.{device_of}
use Rattle.stream_calls.specs.Strangers.{has_strangers, is_preempted_by}
use Rattle.held_pictures.specs.Held.{Always, HasDevice, Held, Holds}
use Rattle.held_pictures.specs.Keeping.{CallsFindDevices, CallsFindHeld, CallsFindIdle, CallsGainAlone, CallsKeepDevices, CallsKeepHeld, EmptyCallsKeepHeld, GainsAlone, ItemsKeepDevices}
use Rattle.held_pictures.proofs.Alone.{device_stays}
use Rattle.held_pictures.proofs.Others.{others_keep_devices, others_keep_held, others_keep_idle}
use Rattle.held_pictures.proofs.Own.{empty_items_keep_held, own_items_keep_held}

-- ---- histories

split : (s t : State) (front later : List Item) → Leads s (front ++ later) t → (m : State) × Leads s front m × Leads m later t
unfolding Leads
split s t [] later leads = (s, refl, leads)
split s t (item ∷ front) later leads = let more = split leads.0 t front later leads.2 in (more.0, (leads.0, leads.1, more.1), more.2)

pub items_keep_devices : ItemsKeepDevices
items_keep_devices history device place s t item state happens root =
    let r = happens_stays s t item (state_sane history s state) happens place root.object root.stands in
    record { kind = root.kind; object = r.0; stands = r.1; called = r.2.name ∙ root.called }

-- ---- alone

pub calls_gain_alone : CallsGainAlone
calls_gain_alone before after item s t script stream device place gains device_is none root =
    let adds = gains.adds in
    let first = split empty_state s before.seen adds.between gains.state in
    let whole : List Item = before.seen ++ (adds.between ++ item ∷ []) in
    let history : after.seen ≡ whole = adds.seen ∙ append_assoc before.seen adds.between (item ∷ []) in
    let own : items_of caller_of before.number whole ≡ after.own =
    ap (λ h. items_of caller_of before.number h) (sym history) ∙ (ap (λ n. items_of caller_of n after.seen) (sym adds.number) ∙ adds.knows.0.0) in
    let made : device_of after.own ≡ Some device = ap device_of adds.own ∙ device_stays before.own item device device_is in
    let still : has_strangers whole (items_of caller_of before.number whole) before.number script stream ≡ false =
    ap (λ h. has_strangers h (items_of caller_of before.number whole) before.number script stream) (sym history)
    ∙ (ap (λ o. has_strangers after.seen o before.number script stream) own
    ∙ (ap (λ c. has_strangers after.seen after.own c script stream) (sym adds.number) ∙ none)) in
    record {
      gains = gains;
      may_preempt = is_preempted_by script stream;
      go = no_strangers_go_on before.seen adds.between (item ∷ []) before.number script stream device (root first.0 first.1).kind
          (others_come_between before after item gains.place adds gains.knows) (ap device_of own ∙ made) still;
      root = root;
    }

-- ---- when the item happens

module _ (before after : View Item) (item : Item) (s t : State) (device place : ℕ) (alone : GainsAlone before item after s t device place) where
  first : (m : State) × IsStateOf before.seen m × Leads m alone.gains.adds.between s
  first = split empty_state s before.seen alone.gains.adds.between alone.gains.state

  root_first : HasDevice first.0 device place
  root_first = alone.root first.0 first.1

  pub device_now : HasDevice s device place
  device_now = others_keep_devices before.seen alone.gains.adds.between before.number device place alone.may_preempt first.0 s first.1 first.2 alone.go root_first

  pub held_now : (name : ℕ) (held : Held) → Always before.seen (λ u. Holds u place name held) → Holds s place name held
  held_now name held always =
      others_keep_held before.seen alone.gains.adds.between before.number device place alone.may_preempt first.0 s name held first.1 first.2 alone.go root_first (always first.0 first.1)

  happens_to : (u : State) → IsStateOf after.seen u → Happens s item u
  happens_to u state = last_happens (before.seen ++ alone.gains.adds.between) item s u alone.gains.state (subst (λ h. IsStateOf h u) alone.gains.adds.seen state)

pub calls_find_devices : CallsFindDevices
calls_find_devices before after item s t device place alone = device_now before after item s t device place alone

pub calls_find_held : CallsFindHeld
calls_find_held before after item s t device place name held alone always = held_now before after item s t device place alone name held always

pub calls_find_idle : CallsFindIdle
calls_find_idle before after item s t device place name size alone always idle =
    let m = first before after item s t device place alone in
    others_keep_idle before.seen alone.gains.adds.between before.number device place alone.may_preempt m.0 s name size m.1 m.2 alone.go
    (root_first before after item s t device place alone) (always m.0 m.1) (idle m.0 m.1)

-- ---- and behind it

pub calls_keep_devices : CallsKeepDevices
calls_keep_devices before after item s t device place alone u state =
    items_keep_devices (before.seen ++ alone.gains.adds.between) device place s u item alone.gains.state (happens_to before after item s t device place alone u state) (device_now before after item s t device place alone)

pub calls_keep_held : CallsKeepHeld
calls_keep_held before after item s t device place name held steady alone leaves always u state =
    own_items_keep_held (before.seen ++ alone.gains.adds.between) place name held s u item steady alone.gains.state (happens_to before after item s t device place alone u state) leaves
    (held_now before after item s t device place alone name held always)

pub empty_calls_keep_held : EmptyCallsKeepHeld
empty_calls_keep_held before after item s t device place name held alone nothing always u state =
    empty_items_keep_held place name held s u item (happens_to before after item s t device place alone u state) nothing
    (held_now before after item s t device place alone name held always)
