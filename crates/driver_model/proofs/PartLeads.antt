-- The items of a whole history, and those of its part about a device, lead from one moment to the other.
use Rattle.std.proofs.Common.{◌≡◌, ◌⊎◌, inl, inr, ℕ, suc, ◌+◌, ◌<◌, Bool, true, false, not, ◌||◌, if◌then◌else◌, List, [], ◌∷◌, ◌++◌, filter, slice_get, Option, Some, None, refl, ap, sym, ◌∙◌, subst}
use Rattle.std.proofs.lemmas.Bool.{and_cases, and_parts, not-false, not-true, or_parts}
use Rattle.std.specs.List.{AllByRecursion, list_any}
use Rattle.driver_model.specs.Histories.{Happens, Leads}
use Rattle.driver_model.specs.Objects.{Object}
use Rattle.driver_model.specs.Parts.{is_about, is_among, is_creation, is_first, is_out_of_handles, names_in, part_from}
use Rattle.driver_model.specs.States.{State, Note, counted, has_note, is_note_of, without_note}
use Rattle.driver_model.specs.declared.items.Entry.{Entry}
use Rattle.driver_model.specs.declared.items.Item.{Item}
use Rattle.driver_model.specs.declared.items.Item.TheVariants.{Called, Ended}
use Rattle.driver_model.specs.declared.items.Mark.{Mark}
use Rattle.driver_model.proofs.PartItems.{all_below, all_below-more, item_in, item_in-one}
use Rattle.driver_model.proofs.PartItemSteps.{count_more, counted_sane, other_call, own_call}
use Rattle.driver_model.proofs.PartLooks.{IsOwnName}
use Rattle.driver_model.proofs.PartNotes.{other-without_note, part-has_note, part-without_note, targets-without_note}
use Rattle.driver_model.proofs.PartOwned.{Extends, IsSane, extends_then, happens_extends, happens_sane, leads_extends}
use Rattle.driver_model.proofs.PartPlaces.{Cut}
use Rattle.driver_model.proofs.PartStages.{Fits, Stage, later-notes, more-notes, more-targets}

-- ---- marks

below-filter : (test : Note → Bool) (here : ℕ) (notes : List Note) → AllByRecursion (λ note. note.place < here) notes → AllByRecursion (λ note. note.place < here) (filter test notes)
below-filter test here [] below = tt
below-filter test here (note ∷ later) below = by_test (test note) (below-filter test here later below.1) where
  by_test : (b : Bool) → AllByRecursion (λ n. n.place < here) (filter test later) → AllByRecursion (λ n. n.place < here) (if b then note ∷ filter test later else filter test later)
  by_test true rest = (below.0, rest)
  by_test false rest = rest

module _ (c : Cut) (places : List ℕ) (here : ℕ) (s t : State) (stage : Stage c places here s t) (mark : Mark) where
  without_sane : IsSane (without_note s mark.caller mark.place)
  without_sane = record {
    rooted = stage.sane.rooted;
    sound = stage.sane.sound;
    within = record { objects = stage.sane.within.objects; devices = stage.sane.within.devices; queues = stage.sane.within.queues };
  }

  without_below : AllByRecursion (λ note. note.place < here) (without_note s mark.caller mark.place).notes
  without_below = below-filter (λ note. not (is_note_of mark.caller mark.place note)) here s.notes stage.note_places

  -- a job that isn't of the part has ended
  other_mark : item_in places mark.place ≡ None → Stage c places (here + 1) (counted (without_note s mark.caller mark.place)) t
  other_mark none = record {
    objects = stage.objects;
    notes = stage.notes ∙ sym (other-without_note c (item_in places) s mark.caller mark.place none);
    items = ap (λ n. n + 1) stage.items;
    part_items = stage.part_items;
    below = all_below places here stage.below;
    note_places = later-notes c places here (without_note s mark.caller mark.place).notes without_below;
    targets = targets-without_note c (item_in places) s mark.caller mark.place stage.targets;
    sane = counted_sane (without_note s mark.caller mark.place) without_sane;
  }

  -- and one of the part has
  own_mark : (k : ℕ) → item_in places mark.place ≡ Some k → Stage c (places ++ here ∷ []) (here + 1) (counted (without_note s mark.caller mark.place)) (counted (without_note t mark.caller k))
  own_mark k is = record {
    objects = stage.objects;
    notes =
        part-without_note c (item_in places) (item_in-one places) mark.caller mark.place k is s t stage.notes
        ∙ sym (more-notes c places here (without_note s mark.caller mark.place).notes without_below);
    items = ap (λ n. n + 1) stage.items;
    part_items = count_more places here t.items stage.part_items;
    below = all_below-more places here stage.below;
    note_places = later-notes c places here (without_note s mark.caller mark.place).notes without_below;
    targets = more-targets c places here (without_note s mark.caller mark.place).notes without_below (targets-without_note c (item_in places) s mark.caller mark.place stage.targets);
    sane = counted_sane (without_note s mark.caller mark.place) without_sane;
  }

  own_has : (k : ℕ) → item_in places mark.place ≡ Some k → has_note s mark.caller mark.place ≡ true → has_note t mark.caller k ≡ true
  own_has k is has = part-has_note c (item_in places) (item_in-one places) mark.caller mark.place k is s t stage.notes has

-- ---- which entries are about the device

about_both : (v : ℕ) (all : List ℕ) (entry : Entry) → is_about v all entry ≡ true → ((is_creation v entry.call entry.reply || list_any (λ name. is_first name entry.call) all) ≡ true) × (is_out_of_handles entry.reply ≡ false)
about_both v all entry e =
    let parts = and_parts (is_creation v entry.call entry.reply || list_any (λ name. is_first name entry.call) all) (not (is_out_of_handles entry.reply)) e in
    (parts.0, not-true (is_out_of_handles entry.reply) parts.1)

about_not : (v : ℕ) (all : List ℕ) (entry : Entry) → is_about v all entry ≡ false
    → (is_out_of_handles entry.reply ≡ true) ⊎ ((is_creation v entry.call entry.reply ≡ false) × (list_any (λ name. is_first name entry.call) all ≡ false))
about_not v all entry e = elim (and_cases (is_creation v entry.call entry.reply || list_any (λ name. is_first name entry.call) all) (not (is_out_of_handles entry.reply)) e) [
  | inl neither ↦ inr (or_parts (is_creation v entry.call entry.reply) (list_any (λ name. is_first name entry.call) all) neither)
  | inr full ↦ inl (not-false (is_out_of_handles entry.reply) full)
]

-- ---- a history

module _ (c : Cut) (v on : ℕ) (all : List ℕ) (first_is : is_among all v ≡ true) (final : State) (fit : (s : State) → Extends s final → Fits c v on all s) where
  -- The calls about the device name its own objects.
  abbrev pub AreOwnCalls : List Item → Type 0
  AreOwnCalls history =
      (k : ℕ) (entry : Entry) → slice_get history k ≡ Some (Called entry) → list_any (λ name. is_first name entry.call) all ≡ true
      → (n : ℕ) → is_among (names_in entry.call) n ≡ true → (place : ℕ) (a : Object) → slice_get final.objects place ≡ Some a → a.name ≡ n → is_among all n ≡ true

  own_at : (s : State) → Extends s final → (n : ℕ) → ((place : ℕ) (a : Object) → slice_get final.objects place ≡ Some a → a.name ≡ n → is_among all n ≡ true) → IsOwnName c.own s.objects n
  own_at s extends n own place a e is =
      let r = extends place a e in
      (fit s extends).own_name place a e ∙ (ap (is_among all) is ∙ own place r.0 r.1 (r.2 ∙ is))

  -- The items lead to a state that has what is the device's of the whole's.
  abbrev pub Reaches : State → State → List Item → Type 0
  Reaches end t history = (u : State) × Leads t history u × (places : List ℕ) × (here : ℕ) × Stage c places here end u

  -- so the part of the items up to the end, from a moment of it
  abbrev Rest : List Item → ℕ → State → State → Type 0
  Rest later here s end = (places : List ℕ) (t : State) → Stage c places here s t → Reaches end t (part_from v all places here later)

  called : (entry : Entry) (later : List Item) (places : List ℕ) (here : ℕ) (s t between end : State) → Stage c places here s t → Happens s (Called entry) between → Extends s final → Extends between final
      → (list_any (λ name. is_first name entry.call) all ≡ true → (n : ℕ) → is_among (names_in entry.call) n ≡ true → IsOwnName c.own s.objects n)
      → Rest later (here + 1) between end → Reaches end t (part_from v all places here (Called entry ∷ later))
  unfolding part_from Leads
  called entry later places here s t between end stage h before after own rest = by_about (is_about v all entry) refl where
    fits : Fits c v on all s
    fits = fit s before

    fits' : Fits c v on all h.0
    fits' = fit h.0 (subst (λ (u : State). Extends u final) h.2 after)

    by_about : (b : Bool) → is_about v all entry ≡ b
        → Reaches end t (if b then Called entry ∷ part_from v all (places ++ here ∷ []) (here + 1) later else part_from v all places (here + 1) later)
    by_about true e =
        let about = about_both v all entry e in
        let r = own_call c v on all first_is places here s t stage fits h.0 entry.caller entry.call entry.reply fits' h.1 about.1 about.0 own in
        let next = rest (places ++ here ∷ []) (counted r.0) (subst (λ (u : State). Stage c (places ++ here ∷ []) (here + 1) u (counted r.0)) (sym h.2) r.2) in
        (next.0, (counted r.0, (r.0, r.1, refl), next.1), next.2, next.3, next.4)
    by_about false e =
        rest places t
        (subst (λ (u : State). Stage c places (here + 1) u t) (sym h.2) (other_call c v on all first_is places here s t stage fits h.0 entry.caller entry.call entry.reply fits' h.1 (about_not v all entry e)))

  ended : (mark : Mark) (later : List Item) (places : List ℕ) (here : ℕ) (s t between end : State) → Stage c places here s t → Happens s (Ended mark) between → Rest later (here + 1) between end
      → Reaches end t (part_from v all places here (Ended mark ∷ later))
  unfolding part_from Leads
  ended mark later places here s t between end stage h rest = by_place (item_in places mark.place) refl where
    by_place : (o : Option ℕ) → item_in places mark.place ≡ o
        → Reaches end t (elim o as (λ found. List Item) [
          | None ↦ part_from v all places (here + 1) later
          | Some place ↦ Ended (record mark { place = place }) ∷ part_from v all (places ++ here ∷ []) (here + 1) later
        ])
    by_place None e = rest places t (subst (λ (u : State). Stage c places (here + 1) u t) (sym h.1) (other_mark c places here s t stage mark e))
    by_place (Some k) e =
        let u : State = counted (without_note t mark.caller k) in
        let next = rest (places ++ here ∷ []) u (subst (λ (x : State). Stage c (places ++ here ∷ []) (here + 1) x u) (sym h.1) (own_mark c places here s t stage mark k e)) in
        (next.0, (u, (own_has c places here s t stage mark k e h.0, refl), next.1), next.2, next.3, next.4)

  pub part_leads : (later : List Item) (here : ℕ) (s end : State) → IsSane s → Leads s later end → Extends end final → AreOwnCalls later → Rest later here s end
  unfolding part_from Leads
  part_leads [] here s end sane leads extends own places t stage = (t, refl, places, here, subst (λ (u : State). Stage c places here u t) (sym leads) stage)
  part_leads (Called entry ∷ later) here s end sane leads extends own places t stage =
      let next_sane = happens_sane s leads.0 (Called entry) sane leads.1 in
      let after = extends_then leads.0 end final (leads_extends leads.0 end later next_sane leads.2) extends in
      let before = extends_then s leads.0 final (happens_extends s leads.0 (Called entry) sane leads.1) after in
      called entry later places here s t leads.0 end stage leads.1 before after (λ first n among. own_at s before n (own 0 entry refl first n among))
      (part_leads later (here + 1) leads.0 end next_sane leads.2 extends (λ k e is. own (suc k) e is))
  part_leads (Ended mark ∷ later) here s end sane leads extends own places t stage =
      ended mark later places here s t leads.0 end stage leads.1
      (part_leads later (here + 1) leads.0 end (happens_sane s leads.0 (Ended mark) sane leads.1) leads.2 extends (λ k e is. own (suc k) e is))
