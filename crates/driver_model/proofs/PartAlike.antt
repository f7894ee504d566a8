-- What the part's state has of the device and its objects is what the whole's state has of them.
use Rattle.std.proofs.Common.{◌≡◌, inl, inr, ℕ, zero, suc, true, List, [], ◌∷◌, ◌++◌, map, Contains, Option, Some, None, MatchOption, refl, ap, sym, ◌∙◌, subst, arith}
use Rattle.std.proofs.lemmas.Bool.{eq-eqb}
use Rattle.std.specs.Option.{option_map}
use Rattle.present_queue.specs.Queue.{Names, Queue, Queued}
use Rattle.driver_model.specs.Laws.{PartsHaveTheDevice}
use Rattle.driver_model.specs.Objects.{Content, PresentationQueue, as_decoder, as_device, as_mixer, as_output, as_queue, as_video}
use Rattle.driver_model.specs.Parts.{is_among, names_of, part_of_front}
use Rattle.driver_model.specs.Presented.{queue_in, status_at}
use Rattle.driver_model.specs.SameDevice.{IsAlike, IsToldAlike, with_names}
use Rattle.driver_model.specs.Sound.{IsSoundQueue}
use Rattle.driver_model.specs.States.{State, Found, is_out, name_at, named}
use Rattle.driver_model.proofs.Leading.{histories_lead_to_one}
use Rattle.driver_model.proofs.Named.{named-Some}
use Rattle.driver_model.proofs.PartContents.{Moves, decoder_moves, device_moves, mixer_moves, moved_entry, moved_output, moved_presentation, moved_queue, output_moves, queue_moves, video_moves}
use Rattle.driver_model.proofs.PartHistories.{front_meets}
use Rattle.driver_model.proofs.PartItems.{item_in}
use Rattle.driver_model.proofs.PartItemSteps.{pair}
use Rattle.driver_model.proofs.PartLooks.{IsOwnFound, IsOwnName, moved_found, own_found, part-name, part-named}
use Rattle.driver_model.proofs.PartNotes.{part-out}
use Rattle.driver_model.proofs.PartPlaces.{Cut, place_in}
use Rattle.driver_model.proofs.PartStages.{Fits, Stage}
use Rattle.driver_model.proofs.PartStates.{part-status}

module _ (c : Cut) (v on : ℕ) (all : List ℕ) (first_is : is_among all v ≡ true) (places : List ℕ) (here : ℕ) (s t : State) (stage : Stage c places here s t) (fits : Fits c v on all s) (name : ℕ) (own : is_among all name ≡ true) where
  own_name : IsOwnName c.own s.objects name
  own_name place a e is = fits.own_name place a e ∙ (ap (is_among all) is ∙ own)

  module _ {T X : Type 0} (as_kind : Content → Option T) (move : T → T) (moves : Moves c as_kind move) (tell : State → Found T → X) where
    told_in : (o : Option (Found T)) → ((found : Found T) → o ≡ Some found → tell t (moved_found c move found) ≡ tell s found) → option_map (tell t) (option_map (moved_found c move) o) ≡ option_map (tell s) o
    told_in None same = refl
    told_in (Some found) same = ap (λ x. Some x) (same found refl)

    told : ((found : Found T) → named s as_kind name ≡ Some found → IsOwnFound c on found → tell t (moved_found c move found) ≡ tell s found) → IsToldAlike s t name as_kind tell
    told same =
        ap (option_map (tell t)) (part-named c as_kind move moves s t name stage.objects own_name)
        ∙ told_in (named s as_kind name) (λ found e. same found e (own_found c on s fits.are_of stage.sane.rooted as_kind name found own_name e))

  -- ---- queues by names

  abbrev with_name : State → Queued ℕ → Queued ℕ
  with_name u entry = record { surface = name_at u entry.surface; earliest = entry.earliest }

  names_in_entries : (entries : List (Queued ℕ)) → ((place : ℕ) → Contains (map (λ (e : Queued ℕ). e.surface) entries) place → c.own place ≡ true)
      → map (with_name t) (map (moved_entry c) entries) ≡ map (with_name s) entries
  names_in_entries [] owns = refl
  names_in_entries (entry ∷ later) owns =
      let first : name_at t (place_in c entry.surface) ≡ name_at s entry.surface = part-name c s t entry.surface stage.objects (owns entry.surface (zero, omega arith, refl)) in
      let rest = names_in_entries later (λ place there. owns place (suc there.0, omega (arith, there.1), there.2)) in
      λ i. record { surface = first i; earliest = entry.earliest } ∷ rest i

  names_in_visible : (visible : Option ℕ) → ((place : ℕ) → visible ≡ Some place → c.own place ≡ true) → option_map (name_at t) (option_map (place_in c) visible) ≡ option_map (name_at s) visible
  names_in_visible None owns = refl
  names_in_visible (Some place) owns = ap (λ n. Some n) (part-name c s t place stage.objects (owns place refl))

  same_queue : (found : Found PresentationQueue) → named s as_queue name ≡ Some found → IsOwnFound c on found → with_names t (moved_queue c found.value.queue) ≡ with_names s found.value.queue
  same_queue found e is =
      let at = named-Some as_queue name s found e in
      let there : queue_in at.0 ≡ Some found.value.queue = ap (λ o. option_map (λ (of : PresentationQueue). of.queue) o) at.2.is_kind in
      let sound : IsSoundQueue s.objects at.0.device at.0.is_live found.value.queue =
      subst (λ (o : Option (Queue ℕ)). MatchOption o (Unit {0}) (IsSoundQueue s.objects at.0.device at.0.is_live)) there (stage.sane.sound found.place at.0 at.1) in
      let device : at.0.device ≡ on = sym at.2.of_device ∙ is.on_device in
      let owns : (place : ℕ) → Names found.value.queue place → c.own place ≡ true = λ place names.
      let output = sound.surfaces place names in
      fits.are_of place output.object output.stands ∙ eq-eqb output.object.device on (output.of_device ∙ device) in
      let entries = names_in_entries found.value.queue.entries (λ place names. owns place (inl names)) in
      let visible = names_in_visible found.value.queue.visible (λ place shown. owns place (inr shown)) in
      λ i. record { entries = entries i; visible = visible i; promise = found.value.queue.promise }

  -- ---- the law

  out : (place : ℕ) → c.own place ≡ true → is_out t (place_in c place) ≡ is_out s place
  out place owned = part-out c (item_in places) s t stage.notes stage.targets place owned

  alike : IsAlike s t name
  alike = record {
    device = told as_device (λ of. of) (device_moves c) (λ u on. on.value) (λ found e is. refl);
    decoder = told as_decoder (λ of. of) (decoder_moves c) (λ u on. on.value) (λ found e is. refl);
    mixer = told as_mixer (λ of. of) (mixer_moves c) (λ u on. on.value) (λ found e is. refl);
    video = told as_video (λ of. of) (video_moves c) (λ u on. on.value) (λ found e is. refl);
    video_out = told as_video (λ of. of) (video_moves c) (λ u on. is_out u on.place) (λ found e is. out found.place is.place);
    output_format = told as_output (moved_output c) (output_moves c) (λ u on. on.value.format) (λ found e is. refl);
    output_size = told as_output (moved_output c) (output_moves c) (λ u on. on.value.size) (λ found e is. refl);
    output_bytes = told as_output (moved_output c) (output_moves c) (λ u on. on.value.bytes) (λ found e is. refl);
    output_out = told as_output (moved_output c) (output_moves c) (λ u on. is_out u on.place) (λ found e is. out found.place is.place);
    output_status = told as_output (moved_output c) (output_moves c) (λ u on. status_at u on.place) (λ found e is. status found.place is.place);
    window = told as_queue (moved_presentation c) (queue_moves c) (λ u on. on.value.window) (λ found e is. refl);
    queue = told as_queue (moved_presentation c) (queue_moves c) (λ u on. with_names u on.value.queue) same_queue;
  }
    where
      status : (place : ℕ) → c.own place ≡ true → status_at t (place_in c place) ≡ status_at s place
      status place owned = part-status c on (item_in (places ++ here ∷ [])) s t (pair c v on all first_is places here s t stage fits) place owned

pub parts_have_the_device : PartsHaveTheDevice
parts_have_the_device front rest v s t legal device calls leads part_leads name own =
    let m = front_meets front rest v s legal device calls leads in
    let same : m.state ≡ t = histories_lead_to_one (part_of_front (front ++ rest) v front) m.state t m.leads part_leads in
    subst (λ (u : State). IsAlike s u name) same (alike m.cut v m.on (names_of (front ++ rest) v) m.first m.places m.here s m.state m.stage m.fits name own)
