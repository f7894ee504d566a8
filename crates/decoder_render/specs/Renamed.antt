-- An info whose references have other names: their surfaces, by which nothing is decoded. A name tells only whether an entry is unused, an
-- absent frame or a picture; which picture that is stands in the list of pictures.
use Rattle.std.specs.Prelude.{◌≡◌, ◌≢◌, ℕ, ◌<◌, true, false, List, length, Option}
use Rattle.cb_types.specs.AcceptedInfo.{IsAccepted, IsAcceptedBySome}
use Rattle.cb_types.specs.References.{is_absent, is_unused}
use Rattle.cb_types.specs.declared.picture_info.PictureInfo.{PictureInfo}
use Rattle.cb_types.specs.declared.picture_info.Reference.{Reference}
use Rattle.cb_types.specs.declared.size.SizeMbs.{SizeMbs}
use Rattle.recon.specs.References.{reference_at}
use Rattle.vd_plane.specs.declared.picture.Picture.{Picture}
use Rattle.decoder_render.specs.Coverage.{given}
use Rattle.decoder_render.specs.Outcomes.{IsOutcome}
use Rattle.decoder_render.specs.declared.outcome.Outcome.{Outcome}

-- The entry names a surface: it is neither unused nor an absent frame.
pub record NamesSurface (entry : Reference) : Type 0 where
  pub used : is_unused entry ≡ false
  pub present : is_absent entry ≡ false

-- the entry with this surface
abbrev pub with_surface : Reference → ℕ → Reference
with_surface entry surface = record entry { surface = surface }

-- The new entry is the old one with a surface of its own where the old one names a surface, and the same where it names none.
pub record IsRenamedEntry (old new : Reference) : Type 0 where
  pub others : new ≡ with_surface old new.surface
  pub unused : is_unused old ≡ true → new.surface ≡ old.surface
  pub absent : is_absent old ≡ true → new.surface ≡ old.surface
  pub named : NamesSurface old → NamesSurface new

-- the info with these references
abbrev pub with_references : PictureInfo → List Reference → PictureInfo
with_references info references = record info { references = references }

-- The new info is the old one with renamed references.
pub record IsRenamed (old new : PictureInfo) : Type 0 where
  pub others : new ≡ with_references old new.references
  pub count : length new.references ≡ length old.references
  pub entries : (place : ℕ) → place < length old.references → IsRenamedEntry (reference_at old place) (reference_at new place)

-- No two entries at different places name one surface.
abbrev pub AreSurfacesApart : PictureInfo → Type 0
AreSurfacesApart info =
    (one other : ℕ) → one < length info.references → other < length info.references → one ≢ other
    → NamesSurface (reference_at info one) → NamesSurface (reference_at info other)
    → (reference_at info one).surface ≢ (reference_at info other).surface

-- What a picture's units come to with an info, they come to with a renamed one too.
abbrev pub OutcomesDontAskNames : Type 0
OutcomesDontAskNames =
    (old new : PictureInfo) (size : SizeMbs) (pictures : List (Option Picture)) (units : List (Option (List ℕ))) (outcome : Outcome) (picture : Picture)
    → IsRenamed old new → IsOutcome (given old size pictures) units outcome picture → IsOutcome (given new size pictures) units outcome picture

-- A renaming can be undone: the info before is a renamed one of the new info.
abbrev pub RenamingGoesBack : Type 0
RenamingGoesBack = (old new : PictureInfo) → IsRenamed old new → IsRenamed new old

-- A decoder that takes an info takes a renamed one too, where its references have different surfaces.
abbrev pub RenamedInfosAreAccepted : Type 0
RenamedInfosAreAccepted =
    (profile max_references : ℕ) (old new : PictureInfo)
    → IsRenamed old new → AreSurfacesApart new → IsAccepted profile max_references old → IsAccepted profile max_references new

-- The references of an info that a decoder takes have different surfaces.
abbrev pub AcceptedSurfacesAreApart : Type 0
AcceptedSurfacesAreApart = (profile max_references : ℕ) (info : PictureInfo) → IsAccepted profile max_references info → AreSurfacesApart info

-- The decoder with weighted prediction and sixteen references takes each info that some decoder takes.
abbrev pub WidestDecoderTakesAll : Type 0
WidestDecoderTakesAll = (info : PictureInfo) → IsAcceptedBySome info → IsAccepted 1 16 info

-- So it does with a renamed one.
abbrev pub WidestDecoderTakesRenamed : Type 0
WidestDecoderTakesRenamed = (old new : PictureInfo) → IsAcceptedBySome old → IsRenamed old new → AreSurfacesApart new → IsAccepted 1 16 new
