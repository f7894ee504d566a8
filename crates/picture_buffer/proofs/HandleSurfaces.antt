-- One surface by its name: what keeps it, and what a render into it or into another one leaves.
use Rattle.std.proofs.Common.{◌≡◌, ◌≢◌, ◌⊎◌, inl, inr, ℕ, ◌+◌, ◌==◌, if◌then◌else◌, All, slice_get, slice_index_or, Some, refl, ap, sym, ◌∙◌, arith}
use Rattle.std.proofs.lemmas.Bool.{eq-eqb, ne_eqb}
use Rattle.std.proofs.lemmas.List.{get_or_default}
use Rattle.std.specs.Option.{option_map}
use Rattle.cb_types.specs.declared.picture_info.PictureInfo.{PictureInfo}
use Rattle.cb_types.specs.declared.size.SizeMbs.{SizeMbs}
use Rattle.decoder_render.specs.declared.outcome.Outcome.{Outcome}
use Rattle.decoder_render.specs.declared.outcome.Outcome.TheVariants as outcome
use Rattle.vd_plane.specs.Picture.{HasSize}
use Rattle.vd_plane.specs.declared.picture.Picture.{Picture}
use Rattle.vd_status.specs.declared.refusal.Refusal.TheVariants.{OutOfMemory}
use Rattle.driver_model.specs.Answers.{IsRefused}
use Rattle.driver_model.specs.Objects.{Device, Object, VideoObject, VideoSurface, as_decoder, as_device, as_video}
use Rattle.driver_model.specs.Renders.{decoded}
use Rattle.driver_model.specs.States.{Found, State, changed_at, found_from, named}
use Rattle.driver_model.specs.declared.calls.Call.{Call}
use Rattle.driver_model.specs.declared.calls.Call.TheVariants as call
use Rattle.driver_model.specs.declared.items.Item.TheVariants.{Called, Ended}
use Rattle.driver_model.proofs.Named.{named-Some}
use Rattle.driver_model.proofs.NoteLists.{some_is}
use Rattle.picture_buffer.specs.Handles.{IsNamedBy, ItemsLeaveSurfaces, KeepsOtherSurfaces, LeavesSurface, RendersFindReferences, RendersPicture, picture_after}
use Rattle.picture_buffer.specs.Rest.{NamesSurface, surface_at}
use Rattle.picture_buffer.proofs.FoundAfter.{found_moved, moved}
use Rattle.picture_buffer.proofs.HandleEntries.{HasSome}
use Rattle.picture_buffer.proofs.HandleKept.{elsewhere, found_content, found_still, kinds_apart, video_decoder, video_device, video_plain}
use Rattle.picture_buffer.proofs.HandleRenders.{Rendered, renders_find}
use Rattle.picture_buffer.proofs.HandleSteps.{LeavesPlace}

-- ---- what keeps it

module _ (s : State) (name place device : ℕ) (size : SizeMbs) (picture : Picture) (there : NamesSurface s name place device size picture) where
  abbrev surface : Found VideoSurface
  surface = surface_at place device size picture

  not_on : (on : Found Device) → on.place ≢ device → (one : Object) → slice_get s.objects place ≡ Some one → one.device ≢ on.place
  not_on on differs one at same =
      let is = named-Some as_video name s surface there.names in
      let here : is.0 ≡ one = some_is is.0 one (sym is.1 ∙ at) in
      differs (sym same ∙ (ap (λ (o : Object). o.device) (sym here) ∙ sym is.2.of_device))

  leaves_place : (asked : Call) → LeavesSurface s name device asked → LeavesPlace s place asked
  leaves_place (call.DeviceDestroy other) leaves = λ on found one at none. not_on on (leaves on found) one at
  leaves_place (call.Preempt other) leaves = λ on found same.
      kinds_apart as_video as_device video_device s place on.place surface.value on.value (found_content as_video s name surface there.names) (found_content as_device s other on found) (sym same)
  leaves_place (call.DecoderDestroy other) leaves = λ on found same.
      kinds_apart as_video as_decoder video_decoder s place on.place surface.value on.value (found_content as_video s name surface there.names) (found_content as_decoder s other on found) (sym same)
  leaves_place (call.VideoPutBits other format bytes) leaves = λ on found. elsewhere as_video as_video s name other surface on there.names found leaves
  leaves_place (call.VideoDestroy other) leaves = λ on found. elsewhere as_video as_video s name other surface on there.names found leaves
  leaves_place (call.Render decoder other info bytes) leaves = λ on found. elsewhere as_video as_video s name other surface on there.names found leaves
  leaves_place asked leaves = tt

-- where all objects stay
surface_still : (s t : State) → t.objects ≡ s.objects → (name place device : ℕ) (size : SizeMbs) (picture : Picture)
    → NamesSurface s name place device size picture → NamesSurface t name place device size picture
surface_still s t same name place device size picture there = record { names = ap (found_from as_video name 0) same ∙ there.names; kind = there.kind; sized = there.sized }

pub items_leave_surfaces : ItemsLeaveSurfaces
items_leave_surfaces history name place device size picture old new (Called entry) leads there leaves happens =
    let between : NamesSurface happens.0 name place device size picture = record {
      names = found_still history old happens.0 entry.caller entry.call entry.reply leads happens.1 as_video video_plain name (surface_at place device size picture) (leaves_place old name place device size picture there entry.call leaves) there.names;
      kind = there.kind;
      sized = there.sized;
    } in
    surface_still happens.0 new (ap (λ (s : State). s.objects) happens.2) name place device size picture between
items_leave_surfaces history name place device size picture old new (Ended mark) leads there leaves happens =
    surface_still old new (ap (λ (s : State). s.objects) happens.1) name place device size picture there

-- ---- renders

module _ (old new : State) (target place device : ℕ) (size : SizeMbs) (before picture : Picture) (there : NamesSurface old target place device size before)
    (changed : new.objects ≡ changed_at place (λ (object : Object). record object { content = VideoObject (record { size = size; picture = picture }) }) old.objects) where
  abbrev value : VideoSurface
  value = record { size = size; picture = picture }

  -- what a name finds
  finds_now : (name : ℕ) (on : Found VideoSurface) → named old as_video name ≡ Some on
      → named new as_video name ≡ Some (if on.place == place then record on { value = value } else on)
  finds_now name on found =
      let is = named-Some as_video target old (surface_at place device size before) there.names in
      let zero_more : 0 + place ≡ place = omega arith in
      ap (found_from as_video name 0) changed
      ∙ (found_moved as_video name (VideoObject value) value refl 0 place old.objects is.0 _ is.1 is.2.is_kind
      ∙ (ap (λ p. option_map (moved as_video name (VideoObject value) value refl p) (named old as_video name)) zero_more
      ∙ ap (option_map (moved as_video name (VideoObject value) value refl place)) found))

  has_picture : HasSize picture size → NamesSurface new target place device size picture
  has_picture sized =
      let on = surface_at place device size before in
      record {
        names = finds_now target on there.names ∙ ap (λ b. Some (if b then record on { value = value } else on)) (eq-eqb place place refl);
        kind = there.kind;
        sized = sized;
      }

  keeps_others : KeepsOtherSurfaces old new target
  keeps_others name at of other_size p differs names =
      let on = surface_at at of other_size p in
      let apart : at ≢ place = elsewhere as_video as_video old target name (surface_at place device size before) on there.names names.names (λ same. differs (sym same)) in
      record {
        names = finds_now name on names.names ∙ ap (λ b. Some (if b then record on { value = value } else on)) (ne_eqb at place apart);
        kind = names.kind;
        sized = names.sized;
      }

has_named : (info : PictureInfo) → All (HasSome (IsNamedBy info)) info.references
has_named info k e lt used present = (slice_index_or info.references k e, (k, lt, get_or_default info.references k (slice_index_or info.references k e) e lt), used, present, refl)

after_render : (old new : State) (target place device : ℕ) (size : SizeMbs) (before : Picture) → NamesSurface old target place device size before
    → (o : Outcome) (picture : Picture) → (o ≡ outcome.Ok → HasSize picture size)
    → new.objects ≡ (decoded old (surface_at place device size before) picture o).objects → NamesSurface new target place device size (picture_after before o picture) × KeepsOtherSurfaces old new target
after_render old new target place device size before there outcome.Ok picture whole objects =
    (has_picture old new target place device size before picture there objects (whole refl), keeps_others old new target place device size before picture there objects)
after_render old new target place device size before there (outcome.Bitstream slice) picture whole objects =
    (surface_still old new objects target place device size before there, λ name at of other_size p differs names. surface_still old new objects name at of other_size p names)
after_render old new target place device size before there (outcome.Incomplete macroblocks) picture whole objects =
    (surface_still old new objects target place device size before there, λ name at of other_size p differs names. surface_still old new objects name at of other_size p names)

pub renders_find_references : RendersFindReferences
renders_find_references decoder handles size pictures old new caller target place before info bytes reply finds there away accepted units step =
    by_kind (renders_find (IsNamedBy info) decoder handles size pictures old finds target place before there.names away info (has_named info) accepted bytes units new caller reply step)
  where
    by_kind : IsRefused old reply new OutOfMemory ⊎ Rendered size pictures info bytes reply old new (surface_at place finds.device size before)
        → IsRefused old reply new OutOfMemory
        ⊎ ((r : RendersPicture size pictures info bytes reply) × NamesSurface new target place finds.device size (picture_after before r.outcome r.picture) × KeepsOtherSurfaces old new target)
    by_kind (inl wants) = inl wants
    by_kind (inr r) =
        let after = after_render old new target place finds.device size before there r.is.outcome r.is.picture r.whole r.objects in
        inr (r.is, after.0, after.1)
