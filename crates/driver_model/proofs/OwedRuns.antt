-- What running jobs owe stays over whole runs of items, and each note's target is what its entry's call writes.
use Rattle.std.proofs.Common.{◌≡◌, ◌⊎◌, inl, inr, ℕ, zero, suc, ◌<◌, ◌||◌, Bool, true, false, true≢false, not, if◌then◌else◌, List, [], ◌∷◌, ◌++◌, filter, length, map, slice_get, Some, Ok, Err, refl, ap, sym, ◌∙◌, subst, arith}
use Rattle.std.proofs.lemmas.List.{append_assoc, append-nil}
use Rattle.std.specs.List.{AllByRecursion, list_any}
use Rattle.std.specs.Option.{option_and_then}
use Rattle.decoder_render.specs.declared.outcome.Outcome.{Outcome}
use Rattle.decoder_render.specs.declared.outcome.Outcome.TheVariants as outcome
use Rattle.vd_plane.specs.declared.picture.Picture.{Picture}
use Rattle.driver_model.specs.Answers.{Goes, Reply}
use Rattle.driver_model.specs.Histories.{Happens, Leads}
use Rattle.driver_model.specs.Mixes.{Mixes, mix}
use Rattle.driver_model.specs.Notes.{IsOfEntry, is_end_of}
use Rattle.driver_model.specs.Objects.{Content, Object, OutputObject, OutputSurface, VideoObject, VideoSurface, as_output, as_video}
use Rattle.driver_model.specs.Owed.{HasTarget, KeepsSurface, NotesHaveTargets, RunsKeepTargets}
use Rattle.driver_model.specs.Passes.{is_job}
use Rattle.driver_model.specs.Renders.{Counts, Decodes, decoded, render, units_counted}
use Rattle.driver_model.specs.States.{State, Found, Note, content_at, counted, empty_state, free_number, is_note_of, with_content, with_note, without_note}
use Rattle.driver_model.specs.Steps.{Step}
use Rattle.driver_model.specs.declared.calls.Call.{Call}
use Rattle.driver_model.specs.declared.calls.Call.TheVariants as call
use Rattle.driver_model.specs.declared.items.Entry.{Entry}
use Rattle.driver_model.specs.declared.items.Item.{Item}
use Rattle.driver_model.specs.declared.items.Item.TheVariants.{Called, Ended}
use Rattle.driver_model.proofs.NoteEntries.{AreKept, happens_kept, nothing_kept}
use Rattle.driver_model.proofs.NoteLists.{get_below, get_or_end, nothing_at, some_is}
use Rattle.driver_model.proofs.NoteSteps.{NoteStep, step_notes}
use Rattle.driver_model.proofs.OwedPlaces.{changed_here}
use Rattle.driver_model.proofs.OwedSteps.{ends_keep_targets, steps_keep_targets}
use Rattle.driver_model.proofs.PartFirsts.{mix_named, render_named}
use Rattle.driver_model.proofs.SoundLooks.{Stands, named_stands}

-- ---- runs of items

keeps_then : (s t u : State) (place : ℕ) → KeepsSurface s t place → KeepsSurface t u place → KeepsSurface s u place
keeps_then s t u place first second = record { video = λ surface is. second.video surface (first.video surface is); output = λ surface is. second.output surface (first.output surface is) }

first_false : (a b : Bool) → (a || b) ≡ false → a ≡ false
first_false true b e = absurd (true≢false e)
first_false false b e = refl

second_false : (a b : Bool) → (a || b) ≡ false → b ≡ false
second_false true b e = absurd (true≢false e)
second_false false b e = e

abbrev Stays : State → State → Note → Type 0
Stays s t note = ((other : ℕ) × (slice_get t.notes other ≡ Some note)) × KeepsSurface s t note.target

happens_keeps : (s t : State) (item : Item) (index : ℕ) (note : Note) → Happens s item t → slice_get s.notes index ≡ Some note → is_end_of note.caller note.place item ≡ false → Stays s t note
happens_keeps s t (Called entry) index note h at runs =
    let k = steps_keep_targets s h.0 entry.caller entry.call entry.reply index note h.1 at in
    subst (λ u. Stays s u note) (sym h.2) ((index, k.0), record { video = k.1.video; output = k.1.output })
happens_keeps s t (Ended mark) index note h at runs =
    let k = ends_keep_targets s mark.caller mark.place index note at runs in
    subst (λ u. Stays s u note) (sym h.1) (k.0, record { video = k.1.video; output = k.1.output })

pub runs_keep_targets : RunsKeepTargets
unfolding Leads
runs_keep_targets s t [] index note leads at runs = subst (λ u. Stays s u note) (sym leads) ((index, at), record { video = λ surface is. is; output = λ surface is. is })
runs_keep_targets s t (item ∷ later) index note leads at runs =
    let here = first_false (is_end_of note.caller note.place item) (list_any (is_end_of note.caller note.place) later) runs in
    let behind = second_false (is_end_of note.caller note.place item) (list_any (is_end_of note.caller note.place) later) runs in
    let first = happens_keeps s leads.0 item index note leads.1 at here in
    let second = runs_keep_targets leads.0 t later first.0.0 note leads.2 first.0.1 behind in
    (second.0, keeps_then s leads.0 t note.target first.1 second.1)

-- ---- the target of a job that begins

abbrev IsNoted : State → State → List ℕ → Call → Type 0
IsNoted old new caller asked = (target : ℕ) × (outcome : Outcome) × (new.notes ≡ (with_note old caller target outcome).notes) × HasTarget new target asked

module _ (old new : State) (caller : List ℕ) (reply : Reply) where
  abbrev Left : Type 0
  Left = new.notes ≡ old.notes

  goes : {A : Type 0} (asked : Call) (looked : _) (D : A → Type 0) → ((on : A) → looked ≡ Ok on → D on → Left ⊎ IsNoted old new caller asked) → Goes old reply new looked D → Left ⊎ IsNoted old new caller asked
  goes asked (Ok on) D row p = row on refl p
  goes asked (Err r) D row p = inl (ap (λ (u : State). u.notes) p.1)

  no_job : (asked : Call) → is_job asked ≡ false → Step old caller asked reply new → Left ⊎ IsNoted old new caller asked
  no_job asked plain is = by_notes (step_notes old new caller reply asked is) where
    by_notes : NoteStep old new caller asked reply → Left ⊎ IsNoted old new caller asked
    by_notes (inl stay) = inl stay.1.0
    by_notes (inr begun) = absurd (true≢false (sym begun.job ∙ plain))

  written : (place : ℕ) (one : Object) (content : Content) → slice_get old.objects place ≡ Some one → slice_get (with_content old place content).objects place ≡ Some (record one { content = content })
  written place one content at = changed_here (λ object. record object { content = content }) place place old.objects one refl at

  decoded_notes : (target : Found VideoSurface) (picture : Picture) (o : Outcome) (place : ℕ) → (with_note (decoded old target picture o) caller place o).notes ≡ (with_note old caller place o).notes
  decoded_notes target picture outcome.Ok place = refl
  decoded_notes target picture (outcome.Bitstream slice) place = refl
  decoded_notes target picture (outcome.Incomplete macroblocks) place = refl

  decoded_target : (target : Found VideoSurface) (picture : Picture) (o : Outcome) → Stands old as_video target → (surface : VideoSurface) × (content_at (decoded old target picture o) as_video target.place ≡ Some surface)
  decoded_target target picture outcome.Ok is = (record target.value { picture = picture }, ap (option_and_then (λ object. as_video object.content)) (written target.place is.0 (VideoObject (record target.value { picture = picture })) is.1))
  decoded_target target picture (outcome.Bitstream slice) is = (target.value, ap (option_and_then (λ object. as_video object.content)) is.1 ∙ is.4)
  decoded_target target picture (outcome.Incomplete macroblocks) is = (target.value, ap (option_and_then (λ object. as_video object.content)) is.1 ∙ is.4)

  noted : (asked : Call) → Step old caller asked reply new → Left ⊎ IsNoted old new caller asked
  noted (call.Render decoder target info bytes) (inl lacks) = inl (ap (λ (u : State). u.notes) lacks.1.1)
  noted (call.Render decoder target info bytes) (inr does) =
      goes (call.Render decoder target info bytes) (render old decoder target info) (Counts old reply new caller info bytes) (λ on h a.
      let is = named_stands old as_video target on.target (render_named old decoder target info on h).1 in
      goes (call.Render decoder target info bytes) (units_counted info (length a.payloads)) (λ nothing. Decodes old reply new caller info a.payloads on) (λ nothing k b.
      let t = decoded_target on.target b.picture b.outcome is in
      inr (on.target.place, b.outcome, ap (λ (u : State). u.notes) b.after ∙ decoded_notes on.target b.picture b.outcome on.target.place, (t.0, ap (λ (u : State). content_at u as_video on.target.place) b.after ∙ t.1))) a.goes) does
  noted (call.Mix mixer structure video output) (inl lacks) = inl (ap (λ (u : State). u.notes) lacks.1.1)
  noted (call.Mix mixer structure video output) (inr does) =
      goes (call.Mix mixer structure video output) (mix old mixer structure video output) (Mixes old reply new caller) (λ on h a.
      let is = named_stands old as_output output on.output (mix_named old mixer structure video output on h).1 in
      let surface : OutputSurface = record on.output.value { bytes = a.bytes } in
      inr (on.output.place, outcome.Ok, ap (λ (u : State). u.notes) a.leaves.1, (surface, ap (λ (u : State). content_at u as_output on.output.place) a.leaves.1 ∙ ap (option_and_then (λ object. as_output object.content)) (written on.output.place is.0 (OutputObject surface) is.1)))) does
  noted asked is = no_job asked refl is

-- ---- the targets of all notes

abbrev HaveTargets : List Item → State → Type 0
HaveTargets past s = (index : ℕ) (note : Note) (entry : Entry) → slice_get s.notes index ≡ Some note → slice_get past note.place ≡ Some (Called entry) → HasTarget s note.target entry.call

all_at : {X : Type 0} (P : X → Type 0) (xs : List X) (i : ℕ) (x : X) → AllByRecursion P xs → slice_get xs i ≡ Some x → P x
all_at P [] i x all at = nothing_at x at
all_at P (y ∷ xs) zero x all at = subst P (some_is y x at) all.0
all_at P (y ∷ xs) (suc i) x all at = all_at P xs i x all.1 at

target_stays : (s t : State) (place : ℕ) (asked : Call) → KeepsSurface s t place → HasTarget s place asked → HasTarget t place asked
target_stays s t place (call.Render decoder target info bytes) keeps has = (has.0, keeps.video has.0 has.1)
target_stays s t place (call.Mix mixer structure video output) keeps has = (has.0, keeps.output has.0 has.1)
target_stays s t place _ keeps has = absurd has

called_is : (a b : Entry) → Called a ≡ Called b → a ≡ b
called_is a b e = cc

ended_not_called : (mark : _) (entry : Entry) → Ended mark ≡ Called entry → ⊥
ended_not_called mark entry e = cc

module _ (past : List Item) (s : State) (kept : AreKept past s) (have : HaveTargets past s) where
  below : (index : ℕ) (note : Note) → slice_get s.notes index ≡ Some note → note.place < length past
  below index note at =
      let is = all_at (IsOfEntry past s) s.notes index note kept.entries at in
      get_below past note.place (Called is.entry) is.at_place

  -- a note that was there
  earlier : (item : Item) (index : ℕ) (note : Note) (entry : Entry) → slice_get s.notes index ≡ Some note → slice_get (past ++ item ∷ []) note.place ≡ Some (Called entry) → HasTarget s note.target entry.call
  earlier item index note entry at is = elim (get_or_end past item note.place (Called entry) is) [
    | inl before ↦ have index note entry at before
    | inr last ↦ absurd (let b = below index note at in let e = last.0 in omega (arith, b, e))
  ]

  called : (t after : State) (entry : Entry) → Step s entry.caller entry.call entry.reply after → t ≡ counted after → HaveTargets (past ++ Called entry ∷ []) t
  called t after entry step e index note other at is = by_notes (noted s after entry.caller entry.reply entry.call step) where
    at_after : slice_get after.notes index ≡ Some note
    at_after = ap (λ (u : State). slice_get u.notes index) (sym e) ∙ at

    old_one : slice_get s.notes index ≡ Some note → HasTarget t note.target other.call
    old_one there =
        let k = steps_keep_targets s after entry.caller entry.call entry.reply index note step there in
        subst (λ (u : State). HasTarget u note.target other.call) (sym e) (target_stays s (counted after) note.target other.call (record { video = k.1.video; output = k.1.output }) (earlier (Called entry) index note other there is))

    new_one : (target : ℕ) (o : Outcome) → (let one : Note = record { place = s.items; caller = entry.caller; target = target; outcome = o; number = free_number (map (λ n. n.number) s.notes) } in one ≡ note) → HasTarget after target entry.call → HasTarget t note.target other.call
    new_one target o same has = elim (get_or_end past (Called entry) note.place (Called other) is) [
      | inl before ↦ absurd (let b = get_below past note.place (Called other) before in let p = ap (λ (n : Note). n.place) same in let items = kept.items in omega (arith, b, p, items))
      | inr last ↦
          subst (λ (u : State). HasTarget u note.target other.call) (sym e)
          (subst (λ (x : Entry). HasTarget (counted after) note.target x.call) (called_is entry other last.1)
          (subst (λ (p : ℕ). HasTarget (counted after) p entry.call) (ap (λ (n : Note). n.target) same) (target_stays after (counted after) target entry.call (record { video = λ surface has_it. has_it; output = λ surface has_it. has_it }) has)))
    ]

    by_notes : (after.notes ≡ s.notes) ⊎ IsNoted s after entry.caller entry.call → HasTarget t note.target other.call
    by_notes (inl stay) = old_one (ap (λ (l : List Note). slice_get l index) (sym stay) ∙ at_after)
    by_notes (inr new) = elim (get_or_end s.notes _ index note (ap (λ (l : List Note). slice_get l index) (sym new.2) ∙ at_after)) [
      | inl before ↦ old_one before
      | inr last ↦ new_one new.0 new.1 last.1 new.3
    ]

  ended : (t : State) (caller : List ℕ) (place : ℕ) (item : Item) → t ≡ counted (without_note s caller place) → HaveTargets (past ++ item ∷ []) t
  ended t caller place item e index note entry at is =
      let there = in_filtered s.notes index (ap (λ (u : State). slice_get u.notes index) (sym e) ∙ at) in
      subst (λ (u : State). HasTarget u note.target entry.call) (sym e)
      (target_stays s (counted (without_note s caller place)) note.target entry.call (record { video = λ surface has. has; output = λ surface has. has }) (earlier item there.0 note entry there.1 is))
    where
      in_filtered : (notes : List Note) (k : ℕ) → slice_get (filter (λ n. not (is_note_of caller place n)) notes) k ≡ Some note → (j : ℕ) × (slice_get notes j ≡ Some note)
      in_filtered [] k got = nothing_at note got
      in_filtered (first ∷ later) k got = by_first (not (is_note_of caller place first)) k (in_filtered later) got where
        by_first : (b : Bool) (k : ℕ) → ((i : ℕ) → slice_get (filter (λ n. not (is_note_of caller place n)) later) i ≡ Some note → (j : ℕ) × (slice_get later j ≡ Some note))
            → slice_get (if b then first ∷ filter (λ n. not (is_note_of caller place n)) later else filter (λ n. not (is_note_of caller place n)) later) k ≡ Some note → (j : ℕ) × (slice_get (first ∷ later) j ≡ Some note)
        by_first true zero rest got = (0, got)
        by_first true (suc i) rest got = let r = rest i got in (suc r.0, r.1)
        by_first false i rest got = let r = rest i got in (suc r.0, r.1)

  happens : (t : State) (item : Item) → Happens s item t → HaveTargets (past ++ item ∷ []) t
  happens t (Called entry) h = called t h.0 entry h.1 h.2
  happens t (Ended mark) h = ended t mark.caller mark.place (Ended mark) h.1

leads_have : (past : List Item) (s t : State) (history : List Item) → AreKept past s → HaveTargets past s → Leads s history t → HaveTargets (past ++ history) t
unfolding Leads
leads_have past s t [] kept have leads = subst (λ l. HaveTargets l t) (sym (append-nil past)) (subst (HaveTargets past) (sym leads) have)
leads_have past s t (item ∷ later) kept have leads =
    subst (λ l. HaveTargets l t) (append_assoc past (item ∷ []) later)
    (leads_have (past ++ item ∷ []) leads.0 t later (happens_kept past s leads.0 item kept leads.1) (happens past s kept have leads.0 item leads.1) leads.2)

pub notes_have_targets : NotesHaveTargets
notes_have_targets history s index note entry leads at is =
    leads_have [] empty_state s history nothing_kept (λ i n e none. nothing_at n none) leads index note entry at is
