-- Each item of a legal history leads from a moment to the next: one that is about the device is an item of the part, and each other one
-- leaves the part.
use Rattle.std.proofs.Common.{◌≡◌, ◌⊎◌, inl, inr, ℕ, ◌+◌, ◌==◌, Bool, true, false, ◌||◌, List, [], ◌∷◌, ◌++◌, length, slice_get, Option, Some, None, Err, refl, ap, sym, ◌∙◌, subst, arith}
use Rattle.std.proofs.lemmas.Bool.{eq-eqb, eqb-true, false≢true, ne_eqb, or_cases}
use Rattle.std.proofs.Math.ListN.{length-append}
use Rattle.std.specs.List.{list_any}
use Rattle.std.specs.Option.{is_some}
use Rattle.vd_status.specs.declared.refusal.Refusal.{Refusal}
use Rattle.vd_status.specs.declared.refusal.Refusal.TheVariants.{HandlesFull}
use Rattle.driver_model.specs.Answers.{Reply}
use Rattle.driver_model.specs.Creates.{device_create, new_device}
use Rattle.driver_model.specs.Laws.{is_of_bitstream}
use Rattle.driver_model.specs.Parts.{first_name, is_among, is_creation, is_first, is_out_of_handles, name_given, names_in}
use Rattle.driver_model.specs.States.{State, counted}
use Rattle.driver_model.specs.Steps.{Does, Step}
use Rattle.driver_model.specs.declared.calls.Call.{Call}
use Rattle.driver_model.specs.declared.calls.Call.TheVariants as call
use Rattle.driver_model.proofs.Leading.{refusals_leave}
use Rattle.driver_model.proofs.PartContents.{moved_content, moved_object, part_of}
use Rattle.driver_model.proofs.PartCreates.{creates_too, get-last, makeable_device}
use Rattle.driver_model.proofs.PartCalls.{step_effect}
use Rattle.driver_model.proofs.PartEffects.{Changed, Effect, Grown, IsMade, IsNewRoot, IsNoted, IsOn}
use Rattle.driver_model.proofs.PartItems.{all_below, all_below-more, item_in, item_in-last, item_in-none}
use Rattle.driver_model.proofs.PartLooks.{IsOwnName}
use Rattle.driver_model.proofs.PartNotes.{AreTargets, notes_in, other-with_note, targets-with_note}
use Rattle.driver_model.proofs.PartOwned.{IsSane, step_sane}
use Rattle.driver_model.proofs.PartPlaces.{Cut, kept-other, kept-same, length-kept, place_in, place_in-own}
use Rattle.driver_model.proofs.PartRows.{Too, refused_too}
use Rattle.driver_model.proofs.PartStages.{Fits, Stage, creation_is, first_among, more-notes, more-targets, not_among, notes_below, step_items}
use Rattle.driver_model.proofs.PartStates.{After, Pair}
use Rattle.driver_model.proofs.PartSteps.{does_own}
use Rattle.driver_model.proofs.PartStill.{still_same}

pub counted_sane : (u : State) → IsSane u → IsSane (counted u)
counted_sane u is = record { rooted = is.rooted; sound = is.sound; within = record { objects = is.within.objects; devices = is.within.devices; queues = is.within.queues } }

pub count_more : (places : List ℕ) (here n : ℕ) → n ≡ length places → n + 1 ≡ length (places ++ here ∷ [])
count_more places here n is = let count = length-append places (here ∷ []) in omega (arith, is, count)

pub no_name : (n : ℕ) → (let o : Option ℕ = None in o ≡ Some n) → ⊥
no_name n e = cc

pub same_name : (a b : ℕ) → Some a ≡ Some b → a ≡ b
same_name a b e = cc

-- a create that found no room
full_is : (reply : Reply) → is_out_of_handles reply ≡ true → (refusal : Refusal) × (reply ≡ Err refusal) × (is_of_bitstream refusal ≡ false)
full_is (Err (HandlesFull live given)) e = (HandlesFull live given, refl, refl)
full_is _ e = absurd (false≢true e)

module _ (c : Cut) (v on : ℕ) (all : List ℕ) (first_is : is_among all v ≡ true) (places : List ℕ) (here : ℕ) (s t : State) (stage : Stage c places here s t) (fits : Fits c v on all s) where
  -- ---- calls about the device

  pub pair : Pair c on (item_in (places ++ here ∷ [])) s t
  pair = record {
    objects = stage.objects;
    notes = stage.notes ∙ sym (more-notes c places here s.notes stage.note_places);
    item = ap (item_in (places ++ here ∷ [])) stage.items ∙ (item_in-last places here stage.below ∙ ap (λ n. Some n) (sym stage.part_items));
    targets = more-targets c places here s.notes stage.note_places stage.targets;
    are_of = fits.are_of;
    rooted = stage.sane.rooted;
    sound = stage.sane.sound;
  }

  module _ (s' : State) (caller : List ℕ) (asked : Call) (reply : Reply) (fits' : Fits c v on all s') (step : Step s caller asked reply s') where
    effect : Effect s s' caller asked reply
    effect = step_effect s s' caller reply stage.sane.rooted stage.sane.sound asked step

    -- the device of the call's first name
    on_is : (device : ℕ) → IsOn s asked device → (b : Bool) → ((name : ℕ) → first_name asked ≡ Some name → is_among all name ≡ b) → (device == on) ≡ b
    on_is device is b named =
        ap (λ d. d == on) (sym is.of_device)
        ∙ (sym (fits.are_of is.place is.object is.stands) ∙ (fits.own_name is.place is.object is.stands ∙ (ap (is_among all) is.has_name ∙ named is.name is.first)))

    own_targets : ((name : ℕ) → first_name asked ≡ Some name → is_among all name ≡ true) → Effect s s' caller asked reply → AreTargets c (item_in (places ++ here ∷ [])) s'.notes
    own_targets named (inl (none, inl same)) = subst (λ (u : State). AreTargets c (item_in (places ++ here ∷ [])) u.notes) (sym same) (pair).targets
    own_targets named (inl (none, inr changed)) = by_notes changed.notes where
      by_notes : (s'.notes ≡ s.notes) ⊎ IsNoted s s' caller changed.device → AreTargets c (item_in (places ++ here ∷ [])) s'.notes
      by_notes (inl same) = subst (AreTargets c (item_in (places ++ here ∷ []))) (sym same) (pair).targets
      by_notes (inr noted) =
          let own : c.own noted.target ≡ true = fits.are_of noted.target noted.object noted.stands ∙ (ap (λ d. d == on) noted.of_device ∙ on_is changed.device changed.on true named) in
          subst (AreTargets c (item_in (places ++ here ∷ []))) (sym noted.notes)
          (targets-with_note c (item_in (places ++ here ∷ [])) s caller noted.target noted.outcome (pair).targets (ap is_some (pair).item ∙ sym own))
    own_targets named (inr grown) = subst (λ (u : State). AreTargets c (item_in (places ++ here ∷ [])) u.notes) (sym grown.grows) (pair).targets

    own_stage : ((name : ℕ) → first_name asked ≡ Some name → is_among all name ≡ true) → (u : State) → After c (item_in (places ++ here ∷ [])) t s' u → Stage c (places ++ here ∷ []) (here + 1) (counted s') (counted u)
    own_stage named u after = record {
      objects = after.objects;
      notes = after.notes;
      items = ap (λ n. n + 1) (step_items s s' caller asked reply effect ∙ stage.items);
      part_items = count_more places here u.items (after.items ∙ stage.part_items);
      below = all_below-more places here stage.below;
      note_places = notes_below c places here s s' caller asked reply stage.items stage.note_places effect;
      targets = own_targets named effect;
      sane = counted_sane s' (step_sane s s' caller asked reply stage.sane step);
    }

    -- where the device itself is made
    made_here : name_given reply ≡ Some v → Effect s s' caller asked reply → c.own (length s.objects) ≡ true
    made_here gives (inl (none, other)) = absurd (no_name v (sym none ∙ gives))
    made_here gives (inr grown) =
        let stands : slice_get s'.objects (length s.objects) ≡ Some grown.one = ap (λ (u : State). slice_get u.objects (length s.objects)) grown.grows ∙ get-last s.objects grown.one in
        let is : grown.one.name ≡ v = same_name grown.one.name v (sym (ap name_given grown.tells) ∙ gives) in
        fits'.own_name (length s.objects) grown.one stands ∙ (ap (is_among all) is ∙ first_is)

    creation_too : is_out_of_handles reply ≡ false → name_given reply ≡ Some v → Does s caller call.DeviceCreate reply s'
        → Too c on (item_in (places ++ here ∷ [])) s t pair s' reply (λ u. Does t caller call.DeviceCreate reply u)
    creation_too not_full gives does =
        let own : c.own (length s.objects) ≡ true = made_here gives effect in
        let count : length t.objects ≡ place_in c (length s.objects) = ap length stage.objects ∙ (length-kept (moved_object c) c.own s.objects ∙ sym (place_in-own c (length s.objects) own)) in
        creates_too c on (item_in (places ++ here ∷ [])) s t pair stage.sane.within s' reply not_full (λ place. Unit {0}) (device_create s) (device_create t) (λ content. content ≡ new_device)
        (λ content e. ap (moved_content c) e ∙ sym e) (makeable_device c on (item_in (places ++ here ∷ [])) s t pair stage.sane.within count) (λ a one o d e. own) does

    -- A step of the part, and the next moment.
    abbrev OwnStep : Type 0
    OwnStep = (u : State) × Step t caller asked reply u × Stage c (places ++ here ∷ []) (here + 1) (counted s') (counted u)

    pub own_call : is_out_of_handles reply ≡ false → (is_creation v asked reply || list_any (λ name. is_first name asked) all) ≡ true
        → (list_any (λ name. is_first name asked) all ≡ true → (n : ℕ) → is_among (names_in asked) n ≡ true → IsOwnName c.own s.objects n)
        → OwnStep
    own_call not_full about own_names = elim (or_cases (is_creation v asked reply) (list_any (λ name. is_first name asked) all) about) [
      | inl creation ↦
          let is = creation_is v asked reply creation in
          let none : (name : ℕ) → first_name asked ≡ Some name → is_among all name ≡ true = λ name e. absurd (no_name name (sym (ap first_name is.0) ∙ e)) in
          by_step step none (λ does.
          let r = creation_too not_full is.1 (subst (λ (k : Call). Does s caller k reply s') is.0 does) in
          (r.0, subst (λ (k : Call). Does t caller k reply r.0) (sym is.0) r.1, r.2))
      | inr first ↦
          let is = first_among asked all first in
          let named : (name : ℕ) → first_name asked ≡ Some name → is_among all name ≡ true = λ name e. ap (is_among all) (same_name name is.0 (sym e ∙ is.1)) ∙ is.2 in
          by_step step named (λ does. does_own c on (item_in (places ++ here ∷ [])) s t pair stage.sane.within s' reply not_full fits'.are_of caller asked is.0 is.1 (own_names first) does)
    ]
      where
        by_step : Step s caller asked reply s' → ((name : ℕ) → first_name asked ≡ Some name → is_among all name ≡ true)
            → (Does s caller asked reply s' → Too c on (item_in (places ++ here ∷ [])) s t pair s' reply (λ u. Does t caller asked reply u)) → OwnStep
        by_step (inl lacks) named too =
            let r = refused_too c on (item_in (places ++ here ∷ [])) s t pair s' reply (λ u. Step t caller asked reply u) lacks.1.1 (inl (lacks.0, (lacks.1.0, refl))) in
            (r.0, r.1, own_stage named r.0 r.2)
        by_step (inr does) named too = let r = too does in (r.0, inr r.1, own_stage named r.0 r.2)

    -- ---- other calls

    -- what the step leaves of the part
    pub record Leaves : Type 0 where
      pub objects : part_of c s'.objects ≡ part_of c s.objects
      pub notes : notes_in c (item_in places) s'.notes ≡ notes_in c (item_in places) s.notes
      pub targets : AreTargets c (item_in places) s'.notes

    leaves_same : s' ≡ s → Leaves
    leaves_same same = record {
      objects = ap (λ (u : State). part_of c u.objects) same;
      notes = ap (λ (u : State). notes_in c (item_in places) u.notes) same;
      targets = subst (λ (u : State). AreTargets c (item_in places) u.notes) (sym same) stage.targets;
    }

    leaves_changed : ((name : ℕ) → first_name asked ≡ Some name → is_among all name ≡ false) → Changed s s' caller asked → Leaves
    leaves_changed other changed = by_notes changed.notes where
      apart : (changed.device == on) ≡ false
      apart = on_is changed.device changed.on false other

      objects : part_of c s'.objects ≡ part_of c s.objects
      objects =
          kept-same (moved_object c) c.own s.objects s'.objects
          (still_same changed.device c.own s.objects s'.objects changed.still
          (λ place a e own.
          let device : a.device ≡ on = eqb-true a.device on (sym (fits.are_of place a e) ∙ own) in
          ne_eqb a.device changed.device (λ same. false≢true (sym apart ∙ eq-eqb changed.device on (sym same ∙ device)))))

      none : item_in places s.items ≡ None
      none = ap (item_in places) stage.items ∙ item_in-none places here stage.below

      by_notes : (s'.notes ≡ s.notes) ⊎ IsNoted s s' caller changed.device → Leaves
      by_notes (inl same) = record { objects = objects; notes = ap (notes_in c (item_in places)) same; targets = subst (AreTargets c (item_in places)) (sym same) stage.targets }
      by_notes (inr noted) =
          let not_own : c.own noted.target ≡ false = fits.are_of noted.target noted.object noted.stands ∙ (ap (λ d. d == on) noted.of_device ∙ apart) in
          record {
            objects = objects;
            notes = ap (notes_in c (item_in places)) noted.notes ∙ other-with_note c (item_in places) s caller noted.target noted.outcome none;
            targets = subst (AreTargets c (item_in places)) (sym noted.notes) (targets-with_note c (item_in places) s caller noted.target noted.outcome stage.targets (ap is_some none ∙ sym not_own));
          }

    -- a new object isn't the device's
    other_new : is_creation v asked reply ≡ false → ((name : ℕ) → first_name asked ≡ Some name → is_among all name ≡ false) → (grown : Grown s s' asked reply) → c.own (length s.objects) ≡ false
    other_new no_creation other grown = by_origin grown.origin where
      stands : slice_get s'.objects (length s.objects) ≡ Some grown.one
      stands = ap (λ (u : State). slice_get u.objects (length s.objects)) grown.grows ∙ get-last s.objects grown.one

      by_origin : IsNewRoot s asked grown.one ⊎ IsMade s asked grown.one → c.own (length s.objects) ≡ false
      by_origin (inl is) =
          let creation : is_creation v asked reply ≡ (grown.one.name == v) = λ i. is_creation v (is.0 i) (grown.tells i) in
          fits'.are_of (length s.objects) grown.one stands ∙ (ap (λ d. d == on) is.1 ∙ (fits'.is_at (length s.objects) grown.one stands ∙ (sym creation ∙ no_creation)))
      by_origin (inr is) =
          let itself : is.root.device ≡ grown.one.device = (stage.sane.rooted grown.one.device is.root is.stands).is_device is.is_device in
          fits'.are_of (length s.objects) grown.one stands
          ∙ (ap (λ d. d == on) (sym itself)
          ∙ (sym (fits.are_of grown.one.device is.root is.stands) ∙ (fits.own_name grown.one.device is.root is.stands ∙ (ap (is_among all) is.has_name ∙ other is.name is.first))))

    leaves_grown : is_creation v asked reply ≡ false → ((name : ℕ) → first_name asked ≡ Some name → is_among all name ≡ false) → Grown s s' asked reply → Leaves
    leaves_grown no_creation other grown = record {
      objects = ap (λ (u : State). part_of c u.objects) grown.grows ∙ kept-other (moved_object c) c.own s.objects grown.one (other_new no_creation other grown);
      notes = ap (λ (u : State). notes_in c (item_in places) u.notes) grown.grows;
      targets = subst (λ (u : State). AreTargets c (item_in places) u.notes) (sym grown.grows) stage.targets;
    }

    pub other_leaves : (is_out_of_handles reply ≡ true) ⊎ ((is_creation v asked reply ≡ false) × (list_any (λ name. is_first name asked) all ≡ false)) → Leaves
    other_leaves (inl full) =
        let is = full_is reply full in
        leaves_same (refusals_leave s s' caller asked is.0 is.2 (subst (λ (r : Reply). Step s caller asked r s') is.1 step))
    other_leaves (inr other) = by_effect effect where
      named : (name : ℕ) → first_name asked ≡ Some name → is_among all name ≡ false
      named name e = not_among asked all name other.1 e

      by_effect : Effect s s' caller asked reply → Leaves
      by_effect (inl (none, inl same)) = leaves_same same
      by_effect (inl (none, inr changed)) = leaves_changed named changed
      by_effect (inr grown) = leaves_grown other.0 named grown

    pub other_call : (is_out_of_handles reply ≡ true) ⊎ ((is_creation v asked reply ≡ false) × (list_any (λ name. is_first name asked) all ≡ false)) → Stage c places (here + 1) (counted s') t
    other_call other =
        let leaves = other_leaves other in
        record {
          objects = stage.objects ∙ sym leaves.objects;
          notes = stage.notes ∙ sym leaves.notes;
          items = ap (λ n. n + 1) (step_items s s' caller asked reply effect ∙ stage.items);
          part_items = stage.part_items;
          below = all_below places here stage.below;
          note_places = notes_below c places here s s' caller asked reply stage.items stage.note_places effect;
          targets = leaves.targets;
          sane = counted_sane s' (step_sane s s' caller asked reply stage.sane step);
        }
