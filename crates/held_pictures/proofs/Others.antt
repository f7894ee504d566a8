-- What is held stays while others call.
use Rattle.std.proofs.Common.{◌≡◌, ℕ, Bool, true, List, Option, Some, refl, ap, sym, ◌∙◌, subst}
use Rattle.std.proofs.lemmas.Bool.{eq-eqb, eqb-true}
use Rattle.driver_model.specs.Histories.{IsStateOf, Leads}
use Rattle.driver_model.specs.Objects.{Content, OutputSurface, as_decoder, as_mixer, as_output, as_queue, as_video}
use Rattle.driver_model.specs.Parts.{is_among, names_of}
use Rattle.driver_model.specs.Presented.{is_idle_at}
use Rattle.driver_model.specs.States.{Found, State, named}
use Rattle.driver_model.specs.declared.items.Item.{Item}
use Rattle.driver_model.proofs.Named.{named-Some}
use Rattle.player_laws.proofs.States.{HasPlace, device_place, leads_stays, state_sane}
use Rattle.stream_calls.proofs.OthersFound.{others_leave_names}
use Rattle.stream_calls.proofs.OthersLead.{others_leave_idle}
use Rattle.stream_calls.specs.OthersLeave.{IsFoundLeft, OthersGoOn}
use Rattle.held_pictures.specs.Held.{Decoder, HasDevice, Held, Holds, Mixer, Output, Pixels, Queue, Video}
use Rattle.held_pictures.specs.Keeping.{OthersKeepDevices, OthersKeepHeld, OthersKeepIdle}

-- ---- names of the device

module _ (front : List Item) (s : State) (device place : ℕ) (state : IsStateOf front s) (root : HasDevice s device place) where
  at_place : HasPlace (names_of front device) device s
  at_place = device_place front s device root.kind state

  same_place : place ≡ at_place.on
  same_place = eqb-true place at_place.on (at_place.is_at place root.object root.stands ∙ eq-eqb root.object.name device root.called)

  pub device_among : is_among (names_of front device) device ≡ true
  device_among = at_place.are.first

  pub among : {T : Type 0} (as_kind : Content → Option T) (name : ℕ) (on : Found T) → named s as_kind name ≡ Some on → on.device ≡ place
      → is_among (names_of front device) name ≡ true
  among as_kind name on e of =
      let is = named-Some as_kind name s on e in
      sym (ap (is_among (names_of front device)) is.2.has_name) ∙ (at_place.are.own on.place is.0 is.1 ∙ eq-eqb is.0.device at_place.on (sym is.2.of_device ∙ (of ∙ same_place)))

-- ---- the laws

module _ (front others : List Item) (caller : List ℕ) (device place : ℕ) (may_preempt : Bool) (s t : State) (state : IsStateOf front s) (leads : Leads s others t)
    (go : OthersGoOn front others caller device may_preempt) (root : HasDevice s device place) where
  left : {T : Type 0} (as_kind : Content → Option T) (name : ℕ) (on : Found T) → named s as_kind name ≡ Some on → on.device ≡ place → IsFoundLeft may_preempt s t name
  left as_kind name on e of = others_leave_names front others caller device may_preempt s t name state leads go (among front s device place state root as_kind name on e of)

  pub device_kept : HasDevice t device place
  device_kept =
      let r = leads_stays s t others (state_sane front s state) leads place root.object root.stands in
      record { kind = root.kind; object = r.0; stands = r.1; called = r.2.name ∙ root.called }

  pub held_kept : (name : ℕ) (held : Held) → Holds s place name held → Holds t place name held
  held_kept name (Decoder size) has = record { place = has.place; names = (left as_decoder name _ has.names refl).decoder _ has.names }
  held_kept name (Video size picture) has = record {
    place = has.place;
    is = record { names = (left as_video name _ has.is.names refl).video _ has.is.names; kind = has.is.kind; sized = has.is.sized };
  }
  held_kept name (Mixer size) has = record { place = has.place; names = (left as_mixer name _ has.names refl).mixer _ has.names }
  held_kept name (Output size) has =
      let r = (left as_output name has.on has.names has.of_device).output has.on has.names in
      record { on = record (has.on) { value = record (has.on.value) { last_flip = r.0 } }; names = r.1; of_device = has.of_device; format = has.format; sides = has.sides }
  held_kept name (Pixels size picture) has =
      let o = has.output in
      let r = (left as_output name o.on o.names o.of_device).output o.on o.names in
      record {
        output = record { on = record (o.on) { value = record (o.on.value) { last_flip = r.0 } }; names = r.1; of_device = o.of_device; format = o.format; sides = o.sides };
        sized = has.sized;
        pixels = has.pixels;
      }
  held_kept name (Queue window) has =
      let r = (left as_queue name _ has.names refl).queue _ has.names in
      record { place = has.place; queue = r.0; names = r.1 }

pub others_keep_devices : OthersKeepDevices
others_keep_devices front others caller device place may_preempt s t state leads go root = device_kept front others caller device place may_preempt s t state leads go root

pub others_keep_held : OthersKeepHeld
others_keep_held front others caller device place may_preempt s t name held state leads go root has = held_kept front others caller device place may_preempt s t state leads go root name held has

some_same : {T : Type 0} (a b : T) → (let o : Option T = Some a in o ≡ Some b) → a ≡ b
some_same a b e = cc

pub others_keep_idle : OthersKeepIdle
others_keep_idle front others caller device place may_preempt s t name size state leads go root o idle on is =
    let own = among front s device place state root as_output name o.on o.names o.of_device in
    let found = named-Some as_output name s o.on o.names in
    let r = (others_leave_names front others caller device may_preempt s t name state leads go own).output o.on o.names in
    let same : (let f : Found OutputSurface = record (o.on) { value = record (o.on.value) { last_flip = r.0 } } in f ≡ on) = some_same _ on (sym r.1 ∙ is) in
    subst (λ (f : Found OutputSurface). is_idle_at t f.place ≡ true) same
    (others_leave_idle front others caller device may_preempt s t o.on.place found.0 state leads go found.1
    (ap (is_among (names_of front device)) found.2.has_name ∙ own) (idle o.on o.names))
