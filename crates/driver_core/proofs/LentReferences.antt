-- The samples that a render's references lend out.
use Rattle.std.proofs.Common.{◌≡◌, ℕ, suc, ◌<◌, ◌||◌, Bool, false, List, [], ◌∷◌, length, map, get_or, Option, Some, None, refl, sym, ap, ◌∙◌, arith}
use Rattle.std.specs.List.{list_any}
use Rattle.std.specs.Option.{option_map, option_map_or}
use Rattle.vd_plane.specs.declared.picture.Picture.{Picture}
use Rattle.driver_model.specs.Objects as model
use Rattle.driver_model.specs.States.{Found, State, is_out}
use Rattle.driver_objects.specs.Contents.{HasVideo}
use Rattle.driver_objects.specs.Kept.{kept_of}
use Rattle.driver_objects.proofs.Alike.{alike_has_video, alike_video}
use Rattle.driver_core.specs.RenderStarts.{IsLent}
use Rattle.driver_core.specs.Rendered.{AreSeen, IsSeenIf}
use Rattle.driver_core.specs.Shared.{Shares}
use Rattle.driver_core.specs.declared.driver.Core.{Core}
use Rattle.driver_core.proofs.Out.{not_out_not_owed}

-- ---- one lent after the other

pub shares_none : (core : Core) → Shares core core
shares_none core = record { alike = refl; queues = refl; jobs = refl; stands = λ d stands. stands }

pub shares_both : (first mid last : Core) → Shares first mid → Shares mid last → Shares first last
shares_both first mid last one other = record {
  alike = other.alike ∙ one.alike;
  queues = other.queues ∙ one.queues;
  jobs = other.jobs ∙ one.jobs;
  stands = λ d stands. other.stands d (one.stands d stands);
}

module _ (old mid : Core) (shares : Shares old mid) where
  pub still_video : (index : ℕ) → HasVideo (kept_of old.objects) index → HasVideo (kept_of mid.objects) index
  still_video index is = alike_has_video (kept_of old.objects) (kept_of mid.objects) (sym shares.alike) index is

  -- what is lent later was there before
  pub lent_before : (slot : Option ℕ) (picture : Option Picture) → IsLent (kept_of mid.objects) slot picture → IsLent (kept_of old.objects) slot picture
  lent_before None None lent = tt
  lent_before None (Some picture) lent = absurd lent
  lent_before (Some index) None lent = absurd lent
  lent_before (Some index) (Some picture) lent = λ surface has.
      let v = alike_video (kept_of old.objects) (kept_of mid.objects) (sym shares.alike) index surface has in
      lent v.surface v.has ∙ v.samples

-- ---- all that are lent

module _ (core : Core) (d : State) where
  abbrev pub picture_of : Option (Found model.VideoSurface) → Option Picture
  picture_of found = option_map (λ (of : Found model.VideoSurface). of.value.picture) found

  or_first : (a b : Bool) → (a || b) ≡ false → a ≡ false
  or_first a b is = grind (arith, is)

  or_later : (a b : Bool) → (a || b) ≡ false → b ≡ false
  or_later a b is = grind (arith, is)

  abbrev pub out : Option (Found model.VideoSurface) → Bool
  out found = option_map_or (λ (of : Found model.VideoSurface). is_out d of.place) found false

  -- the pictures are those of the state, where no job writes the surfaces
  pub lent_pictures : (slots : List (Option ℕ)) (found : List (Option (Found model.VideoSurface))) (pictures : List (Option Picture)) → AreSeen core d slots found → length pictures ≡ length slots
      → ((place : ℕ) → place < length slots → IsLent (kept_of core.objects) (get_or slots place None) (get_or pictures place None))
      → list_any out found ≡ false
      → pictures ≡ map picture_of found
  unfolding AreSeen
  lent_pictures [] [] [] seen same lent home = refl
  lent_pictures [] [] (picture ∷ pictures) seen same lent home = absurd (omega (arith, same))
  lent_pictures [] (found ∷ later) pictures seen same lent home = absurd seen
  lent_pictures (slot ∷ slots) [] pictures seen same lent home = absurd seen
  lent_pictures (slot ∷ slots) (found ∷ later) [] seen same lent home = absurd (omega (arith, same))
  lent_pictures (slot ∷ slots) (found ∷ later) (picture ∷ pictures) seen same lent home =
      let rest = lent_pictures slots later pictures seen.1 (omega (arith, same)) (λ place lt. lent (suc place) (omega (arith, lt))) (or_later (out found) (list_any out later) home) in
      λ i. by_slot slot found picture seen.0 (lent 0 (omega arith)) (or_first (out found) (list_any out later) home) i ∷ rest i where
        by_slot : (slot : Option ℕ) (found : Option (Found model.VideoSurface)) (picture : Option Picture) → IsSeenIf core d slot found → IsLent (kept_of core.objects) slot picture → out found ≡ false → picture ≡ picture_of found
        by_slot None None None seen lent home = refl
        by_slot None None (Some picture) seen lent home = absurd lent
        by_slot None (Some found) picture seen lent home = absurd seen
        by_slot (Some index) None picture seen lent home = absurd seen
        by_slot (Some index) (Some found) None seen lent home = absurd lent
        by_slot (Some index) (Some found) (Some picture) seen lent home =
            ap Some (lent seen.surface (record { object = seen.object; there = seen.there; has = seen.has }) ∙ seen.is.1 (not_out_not_owed d seen.object.place (ap (is_out d) seen.at_place ∙ home)))
