-- What a render of a number's picture comes to.
use Rattle.std.proofs.Common.{◌≡◌, ◌≢◌, inl, inr, ℕ, ◌+◌, ◌<◌, true, false, not, if◌then◌else◌, All, List, [], ◌∷◌, ◌++◌, filter, length, map, slice_index_or, slice_get, Option, Some, Ok, Err, refl, sym, ap, ◌∙◌, subst, arith, length-append}
use Rattle.std.specs.List.{AllPairs}
use Rattle.std.specs.Option.{option_and_then}
use Rattle.std.proofs.lemmas.Bool.{both_ways, eq-eqb, or_from}
use Rattle.std.proofs.lemmas.Bool.Decides.{nat_tests}
use Rattle.cb_types.specs.AcceptedInfo.{IsAccepted}
use Rattle.cb_types.specs.declared.picture_info.PictureInfo.{PictureInfo}
use Rattle.cb_types.specs.declared.size.SizeMbs.{SizeMbs}
use Rattle.decoder_render.specs.Coverage.{Given, given}
use Rattle.decoder_render.specs.Outcomes.{IsOutcome}
use Rattle.decoder_render.specs.Submission.{ArePayloads}
use Rattle.decoder_render.specs.declared.outcome.Outcome.{Outcome}
use Rattle.decoder_render.specs.declared.outcome.Outcome.TheVariants as outcome
use Rattle.decoder_render.proofs.OneReading.{payloads_one}
use Rattle.decoder_render.proofs.RenamedInfos.{renamed_back, renamed_outcome}
use Rattle.device_lock.proofs.Callers.{same_self}
use Rattle.vd_plane.specs.Picture.{HasSize}
use Rattle.vd_plane.specs.declared.picture.Picture.{Picture}
use Rattle.vd_status.specs.declared.refusal.Refusal.{Refusal}
use Rattle.vd_status.specs.declared.refusal.Refusal.TheVariants.{OutOfMemory, SliceCount}
use Rattle.driver_jobs.specs.Renders as jobs
use Rattle.driver_jobs.specs.declared.renders.CoreRender.{CoreRender}
use Rattle.driver_jobs.specs.declared.renders.CoreRenderDone.{CoreRenderDone}
use Rattle.driver_model.specs.Answers.{Goes, Reply}
use Rattle.driver_model.specs.Jobs.{reply_of}
use Rattle.driver_model.specs.Objects.{Object, VideoObject, VideoSurface, as_video}
use Rattle.driver_model.specs.Refusals.{Looked, refused_if}
use Rattle.driver_model.specs.Renders.{Counts, Decodes, Rendering, decoded, given_now, is_render_held, render, units_counted}
use Rattle.driver_model.specs.Renders as model
use Rattle.driver_model.specs.States.{Note, State, content_at, is_note_of, is_out, without_note}
use Rattle.driver_model.specs.Steps.{Step}
use Rattle.driver_model.specs.Waits.{Waits}
use Rattle.driver_model.specs.declared.calls.Call.TheVariants as call
use Rattle.driver_model.proofs.Looks.{ok_is}
use Rattle.driver_core.proofs.Comings.{begun_with}
use Rattle.driver_core.specs.Begun.{BeginsRender, TakesWith}
use Rattle.driver_core.specs.Owed.{IsOut, OwesPicture}
use Rattle.driver_core.specs.Stands.{Stands, is_ok}
use Rattle.driver_core.specs.declared.driver.Core.{Core}
use Rattle.driver_core.proofs.ContentStands.{get_changed_same}
use Rattle.driver_model.proofs.Named.{named-Some}
use Rattle.picture_buffer.specs.Buffers.{HasUnits, pictures_after}
use Rattle.picture_buffer.specs.Renaming.{HasNumber, IsOther, handle_of, picture_of, renamed}
use Rattle.picture_buffer.specs.Rest.{IsAtRest}
use Rattle.picture_buffer.proofs.Entries.{accepted_still, info_renamed}
use Rattle.picture_buffer.proofs.Looking.{gives, none_is, on, renders, test_by}
use Rattle.picture_buffer.proofs.Moving.{rests_moved, rests_still}
use Rattle.picture_buffer.proofs.Reading.{none_out}

-- ---- replies of jobs

no_memory : (o : Outcome) → (let r : Reply = Err OutOfMemory in reply_of o ≡ r) → ⊥
no_memory outcome.Ok e = cc (e)
no_memory (outcome.Bitstream slice) e = cc (e)
no_memory (outcome.Incomplete macroblocks) e = cc (e)

one_outcome : (a b : Outcome) → reply_of a ≡ reply_of b → a ≡ b
one_outcome outcome.Ok outcome.Ok e = refl
one_outcome outcome.Ok (outcome.Bitstream slice) e = absurd (cc (e))
one_outcome outcome.Ok (outcome.Incomplete macroblocks) e = absurd (cc (e))
one_outcome (outcome.Bitstream slice) outcome.Ok e = absurd (cc (e))
one_outcome (outcome.Bitstream slice) (outcome.Bitstream other) e = let k : slice ≡ other = cc (e) in ap outcome.Bitstream k
one_outcome (outcome.Bitstream slice) (outcome.Incomplete macroblocks) e = absurd (cc (e))
one_outcome (outcome.Incomplete macroblocks) outcome.Ok e = absurd (cc (e))
one_outcome (outcome.Incomplete macroblocks) (outcome.Bitstream slice) e = absurd (cc (e))
one_outcome (outcome.Incomplete macroblocks) (outcome.Incomplete other) e = let k : macroblocks ≡ other = cc (e) in ap outcome.Incomplete k

-- ---- notes

only_note : (before notes : List Note) (a b : Note) → before ≡ [] → notes ≡ a ∷ [] → notes ≡ before ++ b ∷ [] → a ≡ b
only_note before notes a b none one again =
    let both : (let xs : List Note = a ∷ [] in xs ≡ b ∷ []) = sym one ∙ (again ∙ ap (λ xs. xs ++ b ∷ []) none) in
    cc (both)

same_surface : (a b : VideoSurface) → (let o : Option VideoSurface = Some a in o ≡ Some b) → a ≡ b
same_surface a b e = cc (e)

alone : {X : Type 0} (R : X → X → Type 0) (x : X) (xs : List X) → xs ≡ x ∷ [] → AllPairs R xs
alone R x xs is i j d less within = let few : length xs ≡ 1 = ap length is in absurd (omega (arith, less, within, few))

none_left : (note : Note) → filter (λ other. not (is_note_of note.caller note.place other)) (note ∷ []) ≡ []
none_left note =
    let own : is_note_of note.caller note.place note ≡ true = let self = same_self note.caller in grind (arith, nat_tests, self) in
    ap (λ b. if not b then note ∷ [] else []) own

decoded_notes : (d : State) (target : _) (picture : Picture) (o : Outcome) → (decoded d target picture o).notes ≡ d.notes
decoded_notes d target picture outcome.Ok = refl
decoded_notes d target picture (outcome.Bitstream slice) = refl
decoded_notes d target picture (outcome.Incomplete macroblocks) = refl

module _ (core : Core) (decoder : ℕ) (surfaces : List ℕ) (size : SizeMbs) (pictures : ℕ → Picture) (d : State) (rests : IsAtRest core decoder surfaces size pictures d)
    (number : ℕ) (small : number < 17) (info : PictureInfo) (others : All (IsOther number) info.references) (taken : IsAccepted 0 16 info)
    (bytes : List ℕ) (units : HasUnits bytes info) where
  abbrev inside : PictureInfo
  inside = renamed surfaces info

  still : IsAccepted 0 16 inside
  still = accepted_still core decoder surfaces size pictures d rests info (λ k e lt used present. (others k e lt used present).0) taken

  abbrev found : Rendering
  found = on core decoder surfaces size pictures d rests number small info others still

  finds : render d decoder (handle_of surfaces number) inside ≡ Ok found
  finds = renders core decoder surfaces size pictures d rests number small info others still

  counted : (payloads : List (Option (List ℕ))) → ArePayloads bytes payloads → units_counted inside (length payloads) ≡ Ok tt
  counted payloads are =
      let same : length payloads ≡ info.slice_count = ap length (payloads_one bytes payloads units.payloads are units.are) ∙ sym units.count in
      ap (λ b. refused_if (not b) (SliceCount (length payloads))) (eq-eqb (length payloads) info.slice_count same)

  -- a render that isn't refused for want of memory decodes
  record HasDecoded (reply : Reply) (after : State) : Type 0 where
    payloads : List (Option (List ℕ))
    are : ArePayloads bytes payloads
    decodes : Decodes d reply after [] inside payloads found

  has_decoded : (reply : Reply) (after : State) → model.Render d reply after [] decoder (handle_of surfaces number) inside bytes → HasDecoded reply after
  has_decoded reply after does =
      let counts : Counts d reply after [] inside bytes found = subst (λ (l : Looked Rendering). Goes d reply after l (Counts d reply after [] inside bytes)) finds does in
      record {
        payloads = counts.payloads;
        are = counts.units;
        decodes = subst (λ (l : Looked (Unit {0})). Goes d reply after l (λ nothing. Decodes d reply after [] inside counts.payloads found)) (counted counts.payloads counts.units) counts.goes;
      }

  -- ---- refused, or put off

  pub only_memory : (refusal : Refusal) → Step d [] (call.Render decoder (handle_of surfaces number) inside bytes) (Err refusal) d → refusal ≡ OutOfMemory
  only_memory refusal (inl wants) = let e = wants.1.0 in cc (e)
  only_memory refusal (inr does) =
      let of = (has_decoded (Err refusal) d does).decodes in
      let none : length d.notes ≡ 0 = ap length rests.idle in
      let more : length d.notes ≡ length (decoded d found.target of.picture of.outcome).notes + 1 = ap (λ (s : State). length s.notes) of.after ∙ length-append (decoded d found.target of.picture of.outcome).notes _ in
      absurd (omega (arith, none, more))

  not_held : is_render_held d found ≡ false
  not_held =
      or_from (is_out d found.target.place) _ (none_out d found.target.place rests.idle)
      (none_is core decoder surfaces size pictures d rests (λ one. is_out d one.place) info.references (λ k e lt.
      test_by core decoder surfaces size pictures d rests (λ one. is_out d one.place) (slice_index_or info.references k e) (λ used present. none_out d _ rests.idle)))

  pub never_waits : Waits d (call.Render decoder (handle_of surfaces number) inside bytes) → ⊥
  never_waits waits =
      let w = rw finds at waits in
      let held = rw (counted w.0 w.1) at w.2 in
      both_ways (is_render_held d found) not_held held

  -- ---- begun, run and ended

  module _ (middle new : Core) (job : CoreRender) (begins : BeginsRender middle d [] decoder (handle_of surfaces number) inside bytes job)
      (done : CoreRenderDone) (is : jobs.IsDoneOf job done)
      (ends : (s : State) (note : Note) → Stands middle s → IsOut s (jobs.done_number done) note → note.outcome ≡ jobs.outcome_of done
      → OwesPicture s note (jobs.done_size done) (jobs.picture_of done) → Stands new (without_note s note.caller note.place)) where
    abbrev outcome_is : Outcome
    outcome_is = jobs.outcome_of done

    abbrev picture_is : Picture
    picture_is = jobs.picture_of done

    abbrev references_are : List (Option Picture)
    references_are = map (picture_of pictures) info.references

    on_is : begins.on ≡ found
    on_is = ok_is begins.on found (sym begins.looks ∙ finds)

    given_is : jobs.given_of job ≡ given inside size references_are
    given_is = begins.holds ∙ (ap (given_now inside) on_is ∙ gives core decoder surfaces size pictures d rests number small info others still)

    size_is : jobs.done_size done ≡ size
    size_is = is.size ∙ ap (λ (g : Given). g.size) given_is

    pub comes_to : IsOutcome (given info size references_are) (jobs.payloads_of job) outcome_is picture_is
    comes_to =
        let has : All HasNumber info.references = λ k e lt used present. (others k e lt used present).0 in
        let back = renamed_back info inside (info_renamed core decoder surfaces size pictures d rests info has) in
        renamed_outcome inside info size references_are (jobs.payloads_of job) outcome_is picture_is back
        (subst (λ (g : Given). IsOutcome g (jobs.payloads_of job) outcome_is picture_is) given_is is.outcome)

    abbrev Owes : State → Note → Type 0
    Owes after note = OwesPicture after note begins.on.decoder.value.size picture_is

    takes : TakesWith middle d [] (call.Render decoder (handle_of surfaces number) inside bytes) outcome_is (jobs.number_of job) Owes
    takes = begun_with middle d [] decoder (handle_of surfaces number) inside bytes job begins outcome_is picture_is is.outcome

    decodes : HasDecoded (reply_of outcome_is) takes.after
    decodes = elim takes.step [
      | inl wants ↦ absurd (no_memory outcome_is wants.1.0)
      | inr does ↦ has_decoded (reply_of outcome_is) takes.after does
    ]

    abbrev came : Decodes d (reply_of outcome_is) takes.after [] inside decodes.payloads found
    came = decodes.decodes

    outcome_same : came.outcome ≡ outcome_is
    outcome_same = sym (one_outcome outcome_is came.outcome came.tells)

    -- one job runs
    one_note : takes.after.notes ≡ takes.note ∷ []
    one_note = takes.noted ∙ ap (λ notes. notes ++ takes.note ∷ []) rests.idle

    target_is : takes.note.target ≡ found.target.place
    target_is =
        ap (λ (n : Note). n.target)
        (only_note _ takes.after.notes takes.note _ (decoded_notes d found.target came.picture came.outcome ∙ rests.idle) one_note (ap (λ (s : State). s.notes) came.after))

    out : IsOut takes.after (jobs.done_number done) takes.note
    out = record {
      index = 0;
      there = ap (λ notes. slice_get notes 0) one_note;
      numbered = takes.numbered ∙ sym is.number;
      places = alone (λ a b. a ≢ b) takes.note.place _ (ap (λ notes. map (λ (other : Note). other.place) notes) one_note);
      numbers = alone (λ a b. a ≢ b) takes.note.number _ (ap (λ notes. map (λ (other : Note). other.number) notes) one_note);
    }

    owed : OwesPicture takes.after takes.note (jobs.done_size done) picture_is
    owed = subst (λ of. OwesPicture takes.after takes.note of picture_is) (ap (λ (g : Given). g.size) (sym begins.holds) ∙ sym is.size) takes.owes

    pub left : State
    left = without_note takes.after takes.note.caller takes.note.place

    stands : Stands new left
    unfolding left
    stands = ends takes.after takes.note takes.stands out takes.comes_to owed

    idle : left.notes ≡ []
    unfolding left
    idle = ap (λ notes. filter (λ other. not (is_note_of takes.note.caller takes.note.place other)) notes) one_note ∙ none_left takes.note

    objects_are : takes.after.objects ≡ (decoded d found.target came.picture came.outcome).objects
    objects_are = ap (λ (s : State). s.objects) came.after

    sized : HasSize picture_is size
    sized = subst (HasSize picture_is) size_is done.sized

    picture_same : came.outcome ≡ outcome.Ok → came.picture ≡ picture_is
    picture_same ok =
        let place = found.target.place in
        let value : VideoSurface = record { size = size; picture = came.picture } in
        let change : Object → Object = λ object. record object { content = VideoObject value } in
        let one = named-Some as_video (handle_of surfaces number) d found.target (rests.each number small).names in
        let there : slice_get takes.after.objects place ≡ Some (change one.0) =
        ap (λ objects. slice_get objects place) (objects_are ∙ ap (λ o. (decoded d found.target came.picture o).objects) ok) ∙ get_changed_same change place d.objects one.0 one.1 in
        let content : content_at takes.after as_video place ≡ Some value = ap (option_and_then (λ (object : Object). as_video object.content)) there in
        let owes = takes.owes in
        let is_surface = same_surface value owes.surface (sym content ∙ (ap (content_at takes.after as_video) (sym target_is) ∙ owes.there)) in
        ap (λ (surface : VideoSurface). surface.picture) is_surface ∙ owes.owed (ap is_ok (takes.comes_to ∙ (sym outcome_same ∙ ok)))

    pub rests_after : IsAtRest new decoder surfaces size (pictures_after pictures number outcome_is picture_is) left
    unfolding left
    rests_after = by outcome_is refl where
      by : (o : Outcome) → outcome_is ≡ o → IsAtRest new decoder surfaces size (pictures_after pictures number o picture_is) left
      by outcome.Ok e =
          let ok = outcome_same ∙ e in
          rests_moved core decoder surfaces size pictures d rests number small new left idle stands picture_is sized
          (objects_are ∙ (ap (λ o. (decoded d found.target came.picture o).objects) ok ∙ ap (λ p. (decoded d found.target p outcome.Ok).objects) (picture_same ok)))
      by (outcome.Bitstream slice) e =
          rests_still core decoder surfaces size pictures d rests number small new left idle stands (objects_are ∙ ap (λ o. (decoded d found.target came.picture o).objects) (outcome_same ∙ e))
      by (outcome.Incomplete macroblocks) e =
          rests_still core decoder surfaces size pictures d rests number small new left idle stands (objects_are ∙ ap (λ o. (decoded d found.target came.picture o).objects) (outcome_same ∙ e))
