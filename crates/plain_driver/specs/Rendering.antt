-- How the program finds what a render needs, and what a render whose outcome is handed in leaves.
use Rattle.std.specs.Prelude.{◌≡◌, ℕ, Bool, false, not, List, map, Option, Ok, Err, option_map}
use Rattle.std.specs.List.{list_any}
use Rattle.std.specs.Option.{option_map_or}
use Rattle.cb_types.specs.declared.picture_info.PictureInfo.{PictureInfo}
use Rattle.cb_types.specs.declared.size.SizeMbs.{SizeMbs}
use Rattle.decoder_render.specs.Outcomes.{IsOutcome}
use Rattle.decoder_render.specs.declared.outcome.Outcome.{Outcome}
use Rattle.decoder_render.specs.declared.outcome.Outcome.TheVariants as outcome
use Rattle.vd_plane.specs.declared.picture.Picture.{Picture}
use Rattle.driver_model.specs.Objects.{Content, VideoObject, VideoSurface, as_video}
use Rattle.driver_model.specs.Refusals.{Looked}
use Rattle.driver_model.specs.Renders.{Rendering, given_now, render}
use Rattle.driver_model.specs.Sizes.{is_same_size}
use Rattle.driver_model.specs.States.{State, Found, content_at, with_content}
use Rattle.plain_driver.specs.declared.renders.RenderPlaces.{RenderPlaces}

-- the places of what was found
abbrev pub place_of_found : Option (Found VideoSurface) → Option ℕ
place_of_found found = option_map (λ f. f.place) found

abbrev pub one_placed : Looked (Option (Found VideoSurface)) → Looked (Option ℕ)
one_placed (Ok found) = Ok (place_of_found found)
one_placed (Err refusal) = Err refusal

abbrev pub all_placed : Looked (List (Option (Found VideoSurface))) → Looked (List (Option ℕ))
all_placed (Ok found) = Ok (map place_of_found found)
all_placed (Err refusal) = Err refusal

abbrev pub render_placed : Looked Rendering → Looked RenderPlaces
render_placed (Ok found) = Ok (record { decoder = found.decoder.place; target = found.target.place; references = map place_of_found found.references })
render_placed (Err refusal) = Err refusal

-- some reference's place passes the test
abbrev pub some_place : (ℕ → Bool) → List (Option ℕ) → Bool
some_place test places = list_any (λ place. option_map_or test place false) places

-- this is a video surface of another size
abbrev pub is_other_size_in : SizeMbs → Content → Bool
is_other_size_in size content = option_map_or (λ of. not (is_same_size of.size size)) (as_video content) false

-- the video surface at this place has another size
abbrev pub is_other_size_at : State → SizeMbs → ℕ → Bool
is_other_size_at s size place = option_map_or (λ of. not (is_same_size of.size size)) (content_at s as_video place) false

-- This outcome and this picture are those of the render's units, over the samples of now.
abbrev pub IsHandedIn : State → (decoder target : ℕ) → PictureInfo → List (Option (List ℕ)) → Outcome → Picture → Type 0
IsHandedIn s decoder target info payloads outcome picture =
    (on : Rendering) → render s decoder target info ≡ Ok on → IsOutcome (given_now info on) payloads outcome picture

-- where all is well the surface at the place has the picture
abbrev pub decoded_at : State → ℕ → SizeMbs → Picture → Outcome → State
decoded_at s place size picture outcome.Ok = (let of : VideoSurface = record { size = size; picture = picture } in with_content s place (VideoObject of))
decoded_at s place size picture (outcome.Bitstream slice) = s
decoded_at s place size picture (outcome.Incomplete macroblocks) = s
