-- The decoding of a picture into a video surface (vdpau.h, VdpDecoderRender).
use Rattle.std.specs.Prelude.{◌≡◌, ℕ, ◌+◌, ◌==◌, Bool, false, not, ◌||◌, if◌then◌else◌, List, [], ◌∷◌, length, map, Option, Some, None, Ok, Err}
use Rattle.std.specs.List.{list_any, position}
use Rattle.std.specs.Option.{option_map, option_map_or}
use Rattle.cb_types.specs.AcceptedInfo.{accepted_fields}
use Rattle.cb_types.specs.References.{is_absent, is_unused}
use Rattle.cb_types.specs.declared.picture_info.PictureInfo.{PictureInfo}
use Rattle.cb_types.specs.declared.picture_info.Reference.{Reference}
use Rattle.decoder_render.specs.Coverage.{Given, given}
use Rattle.decoder_render.specs.Outcomes.{IsOutcome}
use Rattle.decoder_render.specs.Submission.{ArePayloads}
use Rattle.decoder_render.specs.declared.outcome.Outcome.{Outcome}
use Rattle.decoder_render.specs.declared.outcome.Outcome.TheVariants as outcome
use Rattle.vd_plane.specs.declared.picture.Picture.{Picture}
use Rattle.vd_status.specs.declared.refusal.Refusal.TheVariants.{BadInfo, BadSize, SliceCount, TargetIsReference}
use Rattle.driver_model.specs.Answers.{Goes, Reply}
use Rattle.driver_model.specs.Jobs.{reply_of}
use Rattle.driver_model.specs.Objects.{Decoder, VideoSurface, as_decoder, as_video}
use Rattle.driver_model.specs.Refusals.{Looked, ◌>>=◌, ◌>>◌, first_handle, further_handle, refused_if}
use Rattle.driver_model.specs.Sizes.{is_same_size}
use Rattle.driver_model.specs.States.{State, Found, is_out, named, with_note}
use Rattle.driver_model.specs.Surfaces.{with_picture}

-- ---- what is looked at

-- An entry of the info's references that is used and isn't an absent frame names a video surface of the decoder's device.
abbrev pub reference : State → ℕ → ℕ → Reference → Looked (Option (Found VideoSurface))
reference s device arg entry =
    if is_unused entry || is_absent entry then Ok None
    else do
      on ← further_handle arg device (named s as_video entry.surface)
      Ok (Some on)

-- so each of these entries, whose handles have the numbers from this one on
unfoldable pub references : State → ℕ → ℕ → List Reference → Looked (List (Option (Found VideoSurface)))
references s device arg [] = Ok []
references s device arg (entry ∷ later) = do
  found ← reference s device arg entry
  others ← references s device (arg + 1) later
  Ok (found ∷ others)

-- what a render finds: its decoder, its target, and its reference surfaces by their places in the info
pub record Rendering : Type 0 where
  pub decoder : Found Decoder
  pub target : Found VideoSurface
  pub references : List (Option (Found VideoSurface))

-- some reference surface is so
abbrev pub some_reference : (Found VideoSurface → Bool) → Rendering → Bool
some_reference test on = list_any (λ found. option_map_or test found false) on.references

abbrev pub rendering : State → (handle surface : ℕ) → List Reference → Looked Rendering
rendering s handle surface entries = do
  decoder ← first_handle s (named s as_decoder handle)
  target ← further_handle 1 decoder.device (named s as_video surface)
  found ← references s decoder.device 2 entries
  Ok (record { decoder = decoder; target = target; references = found })

-- the target is one of the references
abbrev pub is_own_reference : Rendering → Bool
is_own_reference on = some_reference (λ found. found.place == on.target.place) on

-- the target or a reference hasn't the decoder's size
abbrev pub is_of_other_size : Rendering → Bool
is_of_other_size on =
    not (is_same_size on.target.value.size on.decoder.value.size)
    || some_reference (λ found. not (is_same_size found.value.size on.decoder.value.size)) on

-- The refusal names the first field of the info that the decoder doesn't take.
abbrev pub info_taken : Decoder → PictureInfo → Looked (Unit {0})
info_taken decoder info =
    elim (position not (accepted_fields decoder.profile decoder.max_references info)) as (λ field. Looked (Unit {0})) [
      | None ↦ Ok tt
      | Some field ↦ Err (BadInfo field)
    ]

-- VdpDecoderRender, up to the bytes
abbrev pub render : State → (handle surface : ℕ) → PictureInfo → Looked Rendering
render s handle surface info = do
  on ← rendering s handle surface info.references
  refused_if (is_own_reference on) TargetIsReference
  refused_if (is_of_other_size on) BadSize
  info_taken on.decoder.value info
  Ok on

-- and at the bytes last: they have as many units as the info says
abbrev pub units_counted : PictureInfo → ℕ → Looked (Unit {0})
units_counted info units = refused_if (not (units == info.slice_count)) (SliceCount units)

-- ---- what is done

-- No render begins while another job writes its target or a reference.
abbrev pub is_render_held : State → Rendering → Bool
is_render_held s on = is_out s on.target.place || some_reference (λ found. is_out s found.place) on

-- what the picture is decoded with: the references' samples of now
abbrev pub given_now : PictureInfo → Rendering → Given
given_now info on =
    given info on.decoder.value.size (map (λ found. option_map (λ of. of.value.picture) found) on.references)

-- Only where all is well the target has the picture.
abbrev pub decoded : State → Found VideoSurface → Picture → Outcome → State
decoded s target picture outcome.Ok = with_picture s target picture
decoded s target picture (outcome.Bitstream slice) = s
decoded s target picture (outcome.Incomplete macroblocks) = s

module _ (old : State) (reply : Reply) (new : State) where
  -- The outcome is that of the units over the samples of now. It is the answer, and on each outcome the job is noted.
  pub record Decodes (caller : List ℕ) (info : PictureInfo) (payloads : List (Option (List ℕ))) (on : Rendering) : Type 0 where
    pub at_home : is_render_held old on ≡ false
    pub outcome : Outcome
    pub picture : Picture
    pub is_outcome : IsOutcome (given_now info on) payloads outcome picture
    pub tells : reply ≡ reply_of outcome
    pub after : new ≡ with_note (decoded old on.target picture outcome) caller on.target.place outcome

  -- The bytes are a byte stream with these payloads, which are counted.
  pub record Counts (caller : List ℕ) (info : PictureInfo) (bytes : List ℕ) (on : Rendering) : Type 0 where
    pub payloads : List (Option (List ℕ))
    pub units : ArePayloads bytes payloads
    pub goes : Goes old reply new (units_counted info (length payloads)) (λ nothing. Decodes caller info payloads on)

  -- VdpDecoderRender: of what the bytes have, only a render speaks that finds no other fault
  abbrev pub Render : (caller : List ℕ) (handle surface : ℕ) → PictureInfo → List ℕ → Type 0
  Render caller handle surface info bytes = Goes old reply new (render old handle surface info) (Counts caller info bytes)
