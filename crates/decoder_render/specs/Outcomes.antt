-- What a picture's units come to.
use Rattle.std.specs.Prelude.{◌≡◌, ℕ, ◌+◌, ◌<◌, ◌≤◌, List, length, Option}
use Rattle.cb_types.specs.SizeMbs.{macroblocks}
use Rattle.vd_plane.specs.Picture.{HasSize}
use Rattle.vd_plane.specs.Tiles.{ShowsTiles}
use Rattle.vd_plane.specs.declared.picture.Picture.{Picture}
use Rattle.deblock.specs.Deblocked.{deblocked_chroma, deblocked_luma}
use Rattle.decoder_render.specs.Coverage.{AreAccepted, Covered, Given, IsRefused}
use Rattle.decoder_render.specs.Submission.{payload_at}
use Rattle.decoder_render.specs.declared.outcome.Outcome.{Outcome}
use Rattle.decoder_render.specs.declared.outcome.Outcome.TheVariants as outcome

-- The picture is the constructed one, which shows the tiles of its macroblocks, after the deblocking filter (H.264, 8.7).
pub record IsDecoded (g : Given) (covered : Covered) (picture : Picture) : Type 0 where
  pub constructed : Picture
  pub size : HasSize constructed g.size
  pub shows : ShowsTiles covered.tiles g.size.width constructed
  pub y : picture.y ≡ deblocked_luma g.size covered.marks constructed.y
  pub cb : picture.cb ≡ deblocked_chroma g.info.chroma_qp_index_offset g.size covered.marks constructed.cb
  pub cr : picture.cr ≡ deblocked_chroma g.info.chroma_qp_index_offset g.size covered.marks constructed.cr

-- All units are accepted, and cover the whole picture.
pub record IsWhole (g : Given) (units : List (Option (List ℕ))) (picture : Picture) : Type 0 where
  pub covered : Covered
  pub accepted : AreAccepted g units (length units) covered
  pub all : length covered.tiles ≡ macroblocks g.size
  pub decoded : IsDecoded g covered picture

-- The unit of this number is the first that isn't accepted.
pub record IsFault (g : Given) (units : List (Option (List ℕ))) (number : ℕ) : Type 0 where
  pub within : number < length units
  pub covered : Covered
  pub before : AreAccepted g units number covered
  pub refused : IsRefused g covered (payload_at units number)

-- All units are accepted, and so many macroblocks aren't covered.
pub record Lacks (g : Given) (units : List (Option (List ℕ))) (missing : ℕ) : Type 0 where
  pub covered : Covered
  pub accepted : AreAccepted g units (length units) covered
  pub some : 1 ≤ missing
  pub count : length covered.tiles + missing ≡ macroblocks g.size

-- The outcome of a picture's units, and the picture where they are all that it needs.
abbrev pub IsOutcome : Given → List (Option (List ℕ)) → Outcome → Picture → Type 0
IsOutcome g units outcome.Ok picture = IsWhole g units picture
IsOutcome g units (outcome.Bitstream slice) picture = IsFault g units slice
IsOutcome g units (outcome.Incomplete macroblocks) picture = Lacks g units macroblocks
