-- What a render comes to whose references are given by the handles of their numbers' surfaces.
use Rattle.std.proofs.Common.{◌≡◌, ◌≢◌, ◌⊎◌, inl, inr, ℕ, ◌<◌, not, All, List, length, map, Option, Some, Ok, refl, ap, sym, ◌∙◌, subst}
use Rattle.std.proofs.lemmas.Bool.{eq-eqb}
use Rattle.cb_types.specs.AcceptedInfo.{IsAccepted}
use Rattle.cb_types.specs.declared.picture_info.PictureInfo.{PictureInfo}
use Rattle.cb_types.specs.declared.size.SizeMbs.{SizeMbs}
use Rattle.decoder_render.specs.Coverage.{Given, given}
use Rattle.decoder_render.specs.Outcomes.{IsOutcome, IsWhole}
use Rattle.decoder_render.specs.Submission.{ArePayloads}
use Rattle.decoder_render.specs.declared.outcome.Outcome.{Outcome}
use Rattle.decoder_render.specs.declared.outcome.Outcome.TheVariants as outcome
use Rattle.decoder_render.proofs.OneReading.{payloads_one}
use Rattle.decoder_render.proofs.RenamedInfos.{renamed_back, renamed_outcome}
use Rattle.vd_plane.specs.Picture.{HasSize}
use Rattle.vd_plane.specs.declared.picture.Picture.{Picture}
use Rattle.vd_plane.specs.SampleArray.{SampleArray}
use Rattle.vd_status.specs.declared.refusal.Refusal.TheVariants.{OutOfMemory, SliceCount}
use Rattle.driver_model.specs.Answers.{Goes, IsRefused, Reply}
use Rattle.driver_model.specs.Refusals.{Looked, refused_if}
use Rattle.driver_model.specs.Renders.{Counts, Decodes, Rendering, decoded, given_now, render, units_counted}
use Rattle.driver_model.specs.Renders as model
use Rattle.driver_model.specs.Objects.{VideoSurface, as_video}
use Rattle.driver_model.specs.States.{Found, State, named}
use Rattle.driver_model.specs.Steps.{Step}
use Rattle.driver_model.specs.declared.calls.Call.TheVariants as call
use Rattle.picture_buffer.specs.Buffers.{HasUnits, pictures_after}
use Rattle.picture_buffer.specs.Handles.{FindsNumbers, FindsPictures, RendersFindPictures, RendersPicture}
use Rattle.picture_buffer.specs.Renaming.{handle_of, picture_of, renamed}
use Rattle.picture_buffer.specs.Rest.{surface_at}
use Rattle.picture_buffer.proofs.HandleEntries.{HasSome, accepted_still, info_renamed}
use Rattle.picture_buffer.proofs.HandleLooks.{gives, on, renders}
use Rattle.picture_buffer.proofs.HandleMoves.{finds_moved, finds_still}

-- a whole picture has the size that it was to have
whole_size : (g : Given) (units : List (Option (List ℕ))) (picture : Picture) → IsWhole g units picture → HasSize picture g.size
whole_size g units picture is = record {
  width = ap (λ (a : SampleArray). a.width) is.decoded.y ∙ is.decoded.size.width;
  height = ap (λ (a : SampleArray). a.height) is.decoded.y ∙ is.decoded.size.height;
}

-- what a render does beside its answer
pub record Rendered (size : SizeMbs) (pictures : ℕ → Picture) (info : PictureInfo) (bytes : List ℕ) (reply : Reply) (old new : State) (onto : Found VideoSurface) : Type 0 where
  pub is : RendersPicture size pictures info bytes reply
  pub objects : new.objects ≡ (decoded old onto is.picture is.outcome).objects
  pub whole : is.outcome ≡ outcome.Ok → HasSize is.picture size

module _ (IsNumber : ℕ → Type 0) (decoder : ℕ) (surfaces : List ℕ) (size : SizeMbs) (pictures : ℕ → Picture) (d : State) (finds : FindsNumbers IsNumber decoder surfaces size pictures d)
    (target place : ℕ) (before : Picture) (there : named d as_video target ≡ Some (surface_at place finds.device size before)) (away : (number : ℕ) → IsNumber number → finds.place_of number ≢ place)
    (info : PictureInfo) (has : All (HasSome IsNumber) info.references) (taken : IsAccepted 0 16 info)
    (bytes : List ℕ) (units : HasUnits bytes info) (new : State) (caller : List ℕ) (reply : Reply) where
  abbrev inside : PictureInfo
  inside = renamed surfaces info

  still : IsAccepted 0 16 inside
  still = accepted_still IsNumber decoder surfaces size pictures d finds info has taken

  abbrev onto : Found VideoSurface
  onto = surface_at place finds.device size before

  abbrev found : Rendering
  found = on IsNumber decoder surfaces size pictures d finds target place before there away info has still

  looks : render d decoder target inside ≡ Ok found
  looks = renders IsNumber decoder surfaces size pictures d finds target place before there away info has still

  counted : (payloads : List (Option (List ℕ))) → ArePayloads bytes payloads → units_counted inside (length payloads) ≡ Ok tt
  counted payloads are =
      let same : length payloads ≡ info.slice_count = ap length (payloads_one bytes payloads units.payloads are units.are) ∙ sym units.count in
      ap (λ b. refused_if (not b) (SliceCount (length payloads))) (eq-eqb (length payloads) info.slice_count same)

  comes : (payloads : List (Option (List ℕ))) (o : Outcome) (picture : Picture) → IsOutcome (given_now inside found) payloads o picture
      → IsOutcome (given info size (map (picture_of pictures) info.references)) payloads o picture
  comes payloads o picture is =
      let back = renamed_back info inside (info_renamed IsNumber decoder surfaces size pictures d finds info has) in
      renamed_outcome inside info size (map (picture_of pictures) info.references) payloads o picture back
      (subst (λ (g : Given). IsOutcome g payloads o picture) (gives IsNumber decoder surfaces size pictures d finds target place before there away info has still) is)

  sized : (payloads : List (Option (List ℕ))) (o : Outcome) (picture : Picture)
      → IsOutcome (given info size (map (picture_of pictures) info.references)) payloads o picture → o ≡ outcome.Ok → HasSize picture size
  sized payloads outcome.Ok picture is e = whole_size (given info size (map (picture_of pictures) info.references)) payloads picture is
  sized payloads (outcome.Bitstream slice) picture is e = absurd (cc (e))
  sized payloads (outcome.Incomplete macroblocks) picture is e = absurd (cc (e))

  abbrev Done : Type 0
  Done = Rendered size pictures info bytes reply d new onto

  decodes : (payloads : List (Option (List ℕ))) → ArePayloads bytes payloads → Decodes d reply new caller inside payloads found → Done
  decodes payloads are does =
      let is = comes payloads does.outcome does.picture does.is_outcome in record {
        is = record { payloads = payloads; units = are; outcome = does.outcome; picture = does.picture; comes_to = is; replies = does.tells };
        objects = ap (λ (s : State). s.objects) does.after;
        whole = sized payloads does.outcome does.picture is;
      }

  rendered : model.Render d reply new caller decoder target inside bytes → Done
  rendered does =
      let counts : Counts d reply new caller inside bytes found = subst (λ (l : Looked Rendering). Goes d reply new l (Counts d reply new caller inside bytes)) looks does in
      decodes counts.payloads counts.units
      (subst (λ (l : Looked (Unit {0})). Goes d reply new l (λ nothing. Decodes d reply new caller inside counts.payloads found)) (counted counts.payloads counts.units) counts.goes)

  pub renders_find : Step d caller (call.Render decoder target inside bytes) reply new → IsRefused d reply new OutOfMemory ⊎ Done
  renders_find (inl wants) = inl wants.1
  renders_find (inr does) = inr (rendered does)

-- ---- a number's own surface

module _ (decoder : ℕ) (handles : List ℕ) (size : SizeMbs) (pictures : ℕ → Picture) (old : State) (finds : FindsPictures decoder handles size pictures old) (number : ℕ) (small : number < 17) where
  -- the other numbers
  abbrev IsOne : ℕ → Type 0
  IsOne other = (other < 17) × (other ≢ number)

  abbrev others : FindsNumbers IsOne decoder handles size pictures old
  others = record {
    device = finds.device;
    root = finds.root;
    stands = finds.stands;
    awake = finds.awake;
    decoder_place = finds.decoder_place;
    decodes = finds.decodes;
    place_of = finds.place_of;
    apart = λ one other p q same. finds.apart one other p.0 q.0 same;
    each = λ other p. finds.each other p.0;
  }

  found_after : (new : State) (o : Outcome) (picture : Picture) → (o ≡ outcome.Ok → HasSize picture size)
      → new.objects ≡ (decoded old (surface_at (finds.place_of number) finds.device size (pictures number)) picture o).objects → FindsPictures decoder handles size (pictures_after pictures number o picture) new
  found_after new outcome.Ok picture whole objects = finds_moved decoder handles size pictures old finds number small new picture (whole refl) objects
  found_after new (outcome.Bitstream slice) picture whole objects = finds_still decoder handles size pictures old finds number small new objects
  found_after new (outcome.Incomplete macroblocks) picture whole objects = finds_still decoder handles size pictures old finds number small new objects

pub renders_find_pictures : RendersFindPictures
renders_find_pictures decoder handles size pictures old new caller number info bytes reply finds small named_others accepted units step =
    by_kind (renders_find (IsOne decoder handles size pictures old finds number small) decoder handles size pictures old (others decoder handles size pictures old finds number small)
    (handle_of handles number) (finds.place_of number) (pictures number) (finds.each number small).names
    (λ other p same. p.1 (finds.apart other number p.0 small same)) info named_others accepted bytes units new caller reply step)
  where
    by_kind : IsRefused old reply new OutOfMemory ⊎ Rendered size pictures info bytes reply old new (surface_at (finds.place_of number) finds.device size (pictures number))
        → IsRefused old reply new OutOfMemory ⊎ ((r : RendersPicture size pictures info bytes reply) × FindsPictures decoder handles size (pictures_after pictures number r.outcome r.picture) new)
    by_kind (inl wants) = inl wants
    by_kind (inr r) = inr (r.is, found_after decoder handles size pictures old finds number small new r.is.outcome r.is.picture r.whole r.objects)
