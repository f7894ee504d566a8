-- The flips of what is about a device.
use Rattle.std.proofs.Common.{◌≡◌, ℕ, ◌+◌, ◌==◌, not, ◌&&◌, ◌||◌, Bool, true, false, if◌then◌else◌, List, [], ◌∷◌, ◌++◌, filter, flat_map, map, slice_get, Option, Some, None, refl, ap, sym, ◌∙◌, arith}
use Rattle.std.proofs.lemmas.Bool.Decides.{nat_tests}
use Rattle.std.proofs.lemmas.List.Elements.{filter-append}
use Rattle.std.specs.List.{AllByRecursion, list_any, position}
use Rattle.std.specs.Option.{is_some, option_map_or}
use Rattle.driver_model.specs.Clock.{Due, all_due, flip_of}
use Rattle.driver_model.specs.FlipText.{flips_in, flips_told}
use Rattle.driver_model.specs.Histories.{Leads}
use Rattle.driver_model.specs.Objects.{Object}
use Rattle.driver_model.specs.Parts.{is_about, is_among, is_creation, is_first, is_out_of_handles, names_of, part_from}
use Rattle.driver_model.specs.States.{State, empty_state, name_at}
use Rattle.driver_model.specs.declared.calls.Call.TheVariants as call
use Rattle.driver_model.specs.declared.items.Entry.{Entry}
use Rattle.driver_model.specs.declared.items.Item.{Item}
use Rattle.driver_model.specs.declared.items.Item.TheVariants.{Called, Ended}
use Rattle.driver_model.specs.declared.replies.Flipped.{Flipped}
use Rattle.driver_model.specs.Objects.{as_device}
use Rattle.driver_model.proofs.Named.{named-Some}
use Rattle.driver_model.proofs.PartClock.{IsDueOn, all_due_on}
use Rattle.driver_model.proofs.PartOwned.{Extends, IsSane, happens_extends, happens_sane, leads_extends}
use Rattle.player_laws.specs.FlipParts.{FlipsAreOfTheirParts, is_on_one_of}
use Rattle.player_laws.proofs.QueueSteps.{IsDeviceEnd, IsDisplay, IsGrown, IsPromise, IsQueueEnd, IsQuiet, IsTick, IsWrite, Kind, Ticks, step_kind}
use Rattle.player_laws.proofs.States.{device_place, state_sane}

same_test : (a b : ℕ) → (a == b) ≡ (b == a)
same_test a b = grind (arith, nat_tests)

first_among : (names : List ℕ) (handle time : ℕ) → list_any (λ name. is_first name (call.Advance handle time)) names ≡ is_among names handle
first_among [] handle time = refl
first_among (name ∷ names) handle time = λ i. same_test handle name i || first_among names handle time i

-- flips that are all of the device, or none
kept_or_none : (names : List ℕ) (b : Bool) (flips : List Flipped) → AllByRecursion (λ flip. is_on_one_of names flip ≡ b) flips → filter (is_on_one_of names) flips ≡ (if b then flips else [])
kept_or_none names true [] all = refl
kept_or_none names false [] all = refl
kept_or_none names true (flip ∷ flips) all = ap (λ t. if t then flip ∷ filter (is_on_one_of names) flips else filter (is_on_one_of names) flips) all.0 ∙ ap (λ l. flip ∷ l) (kept_or_none names true flips all.1)
kept_or_none names false (flip ∷ flips) all = ap (λ t. if t then flip ∷ filter (is_on_one_of names) flips else filter (is_on_one_of names) flips) all.0 ∙ kept_or_none names false flips all.1

module _ (names : List ℕ) (device on : ℕ) (final : State) (own : (place : ℕ) (a : Object) → slice_get final.objects place ≡ Some a → is_among names a.name ≡ (a.device == on)) where
  no_flips : (entry : Entry) → flips_told entry.reply ≡ [] → filter (is_on_one_of names) (flips_told entry.reply) ≡ (if is_about device names entry then flips_told entry.reply else [])
  no_flips entry none = ap (filter (is_on_one_of names)) none ∙ (by_test (is_about device names entry) ∙ ap (λ l. if is_about device names entry then l else []) (sym none)) where
    by_test : (b : Bool) → (let l : List Flipped = [] in l ≡ (if b then [] else []))
    by_test true = refl
    by_test false = refl

  module _ (s : State) (sane : IsSane s) (extends : Extends s final) where
    own_now : (place : ℕ) (a : Object) → slice_get s.objects place ≡ Some a → is_among names a.name ≡ (a.device == on)
    own_now place a e =
        let r = extends place a e in
        ap (is_among names) (sym r.2) ∙ (own place r.0 r.1 ∙ ap (λ d. d == on) r.3)

    due_flips : (root : ℕ) (time : ℕ) (dues : List Due) → AllByRecursion (IsDueOn s.objects root) dues → AllByRecursion (λ flip. is_on_one_of names flip ≡ (root == on)) (map (flip_of s time) dues)
    due_flips root time [] all = tt
    due_flips root time (one ∷ later) all =
        let q = all.0 in
        let name : name_at s one.queue ≡ q.queue.name = ap (λ (o : Option Object). option_map_or (λ (x : Object). x.name) o 0) q.queue_stands in
        (ap (is_among names) name ∙ (own_now one.queue q.queue q.queue_stands ∙ ap (λ d. d == on) q.queue_device), due_flips root time later all.1)

    tick_flips : (entry : Entry) (after : State) → Ticks s after entry.call entry.reply → filter (is_on_one_of names) (flips_told entry.reply) ≡ (if is_about device names entry then flips_told entry.reply else [])
    tick_flips entry after p =
        let is = named-Some as_device p.handle s p.on p.device in
        let root : is.0.device ≡ p.on.place = (sane.rooted p.on.place is.0 is.1).is_device (ap is_some is.2.is_kind) in
        let flips : flips_told entry.reply ≡ map (flip_of s p.time) (all_due s p.on.place p.time) = ap flips_told p.answers in
        let all = due_flips p.on.place p.time (all_due s p.on.place p.time) (all_due_on s.objects sane.sound p.on.place p.time) in
        let handle : is_among names p.handle ≡ (p.on.place == on) = ap (is_among names) (sym is.2.has_name) ∙ (own_now p.on.place is.0 is.1 ∙ ap (λ d. d == on) root) in
        let about : is_about device names entry ≡ (p.on.place == on) =
        ap (λ c. (is_creation device c entry.reply || list_any (λ name. is_first name c) names) && not (is_out_of_handles entry.reply)) p.is_call
        ∙ (ap (λ r. (is_creation device (call.Advance p.handle p.time) r || list_any (λ name. is_first name (call.Advance p.handle p.time)) names) && not (is_out_of_handles r)) p.answers
        ∙ (and_true (list_any (λ name. is_first name (call.Advance p.handle p.time)) names) ∙ (first_among names p.handle p.time ∙ handle))) in
        ap (filter (is_on_one_of names)) flips
        ∙ (kept_or_none names (p.on.place == on) (map (flip_of s p.time) (all_due s p.on.place p.time)) all
        ∙ (ap (λ b. if b then map (flip_of s p.time) (all_due s p.on.place p.time) else []) (sym about) ∙ ap (λ l. if is_about device names entry then l else []) (sym flips)))
      where
        and_true : (b : Bool) → ((false || b) && true) ≡ b
        and_true true = refl
        and_true false = refl

    entry_flips : (entry : Entry) (after : State) → Kind 0 0 s after entry.call entry.reply → filter (is_on_one_of names) (flips_told entry.reply) ≡ (if is_about device names entry then flips_told entry.reply else [])
    entry_flips entry after (IsQuiet p) = no_flips entry p.calm.tells
    entry_flips entry after (IsGrown p) = no_flips entry p.calm.tells
    entry_flips entry after (IsDisplay p) = no_flips entry (ap flips_told p.answers)
    entry_flips entry after (IsPromise p) = no_flips entry (ap flips_told p.answers)
    entry_flips entry after (IsQueueEnd p) = no_flips entry (ap flips_told p.answers)
    entry_flips entry after (IsDeviceEnd p) = no_flips entry (ap flips_told p.answers)
    entry_flips entry after (IsWrite p) = no_flips entry (ap flips_told p.answers)
    entry_flips entry after (IsTick p) = tick_flips entry after p

  parts : (places : List ℕ) (here : ℕ) (s : State) (items : List Item) → IsSane s → Leads s items final → flat_map flips_in (part_from device names places here items) ≡ filter (is_on_one_of names) (flat_map flips_in items)
  unfolding part_from Leads
  parts places here s [] sane leads = refl
  parts places here s (Called entry ∷ later) sane leads =
      let then_sane : IsSane leads.0 = happens_sane s leads.0 (Called entry) sane leads.1 in
      let extends : Extends s final = both s leads.0 final (happens_extends s leads.0 (Called entry) sane leads.1) (leads_extends leads.0 final later then_sane leads.2) in
      let kind = step_kind 0 0 s leads.1.0 entry.caller entry.reply entry.call leads.1.1 in
      let its = entry_flips s sane extends entry leads.1.0 kind in
      by_test (is_about device names entry) its (parts (places ++ here ∷ []) (here + 1) leads.0 later then_sane leads.2) (parts places (here + 1) leads.0 later then_sane leads.2)
      ∙ sym (filter-append (is_on_one_of names) (flips_told entry.reply) (flat_map flips_in later))
    where
      both : (a b c : State) → Extends a b → Extends b c → Extends a c
      both a b c one two k x at =
          let r = one k x at in
          let t = two k r.0 r.1 in
          (t.0, t.1, t.2 ∙ r.2, t.3 ∙ r.3)

      by_test : (b : Bool) → filter (is_on_one_of names) (flips_told entry.reply) ≡ (if b then flips_told entry.reply else [])
          → flat_map flips_in (part_from device names (places ++ here ∷ []) (here + 1) later) ≡ filter (is_on_one_of names) (flat_map flips_in later)
          → flat_map flips_in (part_from device names places (here + 1) later) ≡ filter (is_on_one_of names) (flat_map flips_in later)
          → flat_map flips_in (if b then Called entry ∷ part_from device names (places ++ here ∷ []) (here + 1) later else part_from device names places (here + 1) later)
          ≡ filter (is_on_one_of names) (flips_told entry.reply) ++ filter (is_on_one_of names) (flat_map flips_in later)
      by_test true its with_it without = λ i. sym its i ++ with_it i
      by_test false its with_it without = without ∙ ap (λ l. l ++ filter (is_on_one_of names) (flat_map flips_in later)) (sym its)
  parts places here s (Ended mark ∷ later) sane leads =
      let then_sane : IsSane leads.0 = happens_sane s leads.0 (Ended mark) sane leads.1 in
      by_place (position (λ place. place == mark.place) places) (parts (places ++ here ∷ []) (here + 1) leads.0 later then_sane leads.2) (parts places (here + 1) leads.0 later then_sane leads.2)
    where
      by_place : (o : Option ℕ) → flat_map flips_in (part_from device names (places ++ here ∷ []) (here + 1) later) ≡ filter (is_on_one_of names) (flat_map flips_in later)
          → flat_map flips_in (part_from device names places (here + 1) later) ≡ filter (is_on_one_of names) (flat_map flips_in later)
          → flat_map flips_in (elim o as (λ found. List Item) [
            | None ↦ part_from device names places (here + 1) later
            | Some place ↦ Ended (record mark { place = place }) ∷ part_from device names (places ++ here ∷ []) (here + 1) later
          ]) ≡ filter (is_on_one_of names) (flat_map flips_in later)
      by_place None with_it without = without
      by_place (Some place) with_it without = with_it

pub flips_are_of_their_parts : FlipsAreOfTheirParts
unfolding Leads
flips_are_of_their_parts history device legal kind =
    let there = device_place history legal.0 device kind legal.1 in
    parts (names_of history device) device there.on legal.0 there.are.own [] 0 empty_state history (state_sane [] empty_state refl) legal.1
