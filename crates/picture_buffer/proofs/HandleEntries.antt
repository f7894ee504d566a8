-- The references of an info by the handles of their surfaces, in any state that has these.
use Rattle.std.proofs.Common.{◌≡◌, ◌≢◌, ℕ, ◌<◌, Bool, true, false, ◌||◌, if◌then◌else◌, All, List, length, Option, Some, refl, sym, ap, ◌∙◌, subst, arith}
use Rattle.std.proofs.lemmas.Bool.{both_ways, or_from, or_parts}
use Rattle.std.proofs.lemmas.List.{get_or-map, length-map}
use Rattle.cb_types.specs.AcceptedInfo.{IsAccepted}
use Rattle.cb_types.specs.References.{is_absent, is_unused}
use Rattle.cb_types.specs.declared.picture_info.PictureInfo.{PictureInfo}
use Rattle.cb_types.specs.declared.picture_info.Reference.{Reference}
use Rattle.cb_types.specs.declared.size.SizeMbs.{SizeMbs}
use Rattle.decoder_render.specs.Renamed.{AreSurfacesApart, IsRenamed, IsRenamedEntry, NamesSurface, with_surface}
use Rattle.decoder_render.proofs.RenamedAccepted.{accepted_apart, renamed_accepted}
use Rattle.decoder_render.proofs.RenamedInfos.{renamed_back}
use Rattle.recon.specs.References.{no_reference, reference_at}
use Rattle.vd_plane.specs.declared.picture.Picture.{Picture}
use Rattle.driver_model.specs.Objects.{VideoSurface, as_video}
use Rattle.driver_model.specs.States.{Found, State, named}
use Rattle.picture_buffer.specs.Renaming.{handle_of, renamed, renamed_entry}
use Rattle.picture_buffer.proofs.Entries.{no_other_name}
use Rattle.picture_buffer.specs.Handles.{FindsNumbers}

same_place : (a b : Found VideoSurface) → (let o : Option (Found VideoSurface) = Some a in o ≡ Some b) → a.place ≡ b.place
same_place a b e = let k : a ≡ b = cc (e) in ap (λ (f : Found VideoSurface). f.place) k

-- an entry that is used, and isn't an absent frame, names such a number
abbrev pub HasSome : (ℕ → Type 0) → Reference → Type 0
HasSome IsNumber entry = is_unused entry ≡ false → is_absent entry ≡ false → IsNumber entry.surface

module _ (IsNumber : ℕ → Type 0) (decoder : ℕ) (surfaces : List ℕ) (size : SizeMbs) (pictures : ℕ → Picture) (d : State) (finds : FindsNumbers IsNumber decoder surfaces size pictures d) where
  entry_by : (entry : Reference) → HasSome IsNumber entry → (b : Bool) → (is_unused entry || is_absent entry) ≡ b
      → IsRenamedEntry entry (if b then entry else with_surface entry (handle_of surfaces entry.surface))
  entry_by entry has true e = record { others = refl; unused = λ unused. refl; absent = λ absent. refl; named = λ names. names }
  entry_by entry has false e =
      let parts = or_parts (is_unused entry) (is_absent entry) e in
      let there = finds.each entry.surface (has parts.0 parts.1) in
      let name = no_other_name entry (handle_of surfaces entry.surface) there.kind in
      record {
        others = refl;
        unused = λ unused. absurd (both_ways (is_unused entry) parts.0 unused);
        absent = λ absent. absurd (both_ways (is_absent entry) parts.1 absent);
        named = λ names. record { used = name.0; present = name.1 };
      }

  entry_renamed : (entry : Reference) → HasSome IsNumber entry → IsRenamedEntry entry (renamed_entry surfaces entry)
  entry_renamed entry has = entry_by entry has (is_unused entry || is_absent entry) refl

  module _ (info : PictureInfo) (has : All (HasSome IsNumber) info.references) where
    entry_at : (place : ℕ) → place < length info.references → reference_at (renamed surfaces info) place ≡ renamed_entry surfaces (reference_at info place)
    entry_at place inside = get_or-map (renamed_entry surfaces) info.references place no_reference no_reference inside

    pub info_renamed : IsRenamed info (renamed surfaces info)
    info_renamed = record {
      others = refl;
      count = length-map info.references (renamed_entry surfaces);
      entries = λ place inside. subst (IsRenamedEntry (reference_at info place)) (sym (entry_at place inside)) (entry_renamed (reference_at info place) (has place no_reference inside));
    }

    -- where an entry names a surface, it is that of its number
    handle_is : (entry : Reference) → NamesSurface entry → (renamed_entry surfaces entry).surface ≡ handle_of surfaces entry.surface
    handle_is entry names =
        let other : (is_unused entry || is_absent entry) ≡ false = or_from (is_unused entry) (is_absent entry) names.used names.present in
        ap (λ b. (if b then entry else with_surface entry (handle_of surfaces entry.surface)).surface) other

    handles_apart : (one other : ℕ) → IsNumber one → IsNumber other → handle_of surfaces one ≡ handle_of surfaces other → one ≡ other
    handles_apart one other small also same =
        finds.apart one other small also (same_place _ _ (sym (finds.each one small).names ∙ (ap (λ handle. named d as_video handle) same ∙ (finds.each other also).names)))

    module _ (accepted : IsAccepted 0 16 info) where
      apart_by : (one other : ℕ) → one < length info.references → other < length info.references → one ≢ other
          → NamesSurface (reference_at (renamed surfaces info) one) → NamesSurface (reference_at (renamed surfaces info) other)
          → (reference_at (renamed surfaces info) one).surface ≢ (reference_at (renamed surfaces info) other).surface
      apart_by one other inside also differ names also_names same =
          let back = renamed_back info (renamed surfaces info) info_renamed in
          let in_new : one < length (renamed surfaces info).references = omega (arith, inside, length-map info.references (renamed_entry surfaces)) in
          let also_new : other < length (renamed surfaces info).references = omega (arith, also, length-map info.references (renamed_entry surfaces)) in
          let first = (back.entries one in_new).named names in
          let second = (back.entries other also_new).named also_names in
          let handles : handle_of surfaces (reference_at info one).surface ≡ handle_of surfaces (reference_at info other).surface =
          sym (handle_is (reference_at info one) first) ∙ (ap (λ (r : Reference). r.surface) (sym (entry_at one inside)) ∙ (same ∙ (ap (λ (r : Reference). r.surface) (entry_at other also) ∙ handle_is (reference_at info other) second))) in
          accepted_apart 0 16 info accepted one other inside also differ first second
          (handles_apart (reference_at info one).surface (reference_at info other).surface (has one no_reference inside first.used first.present) (has other no_reference also second.used second.present) handles)

      pub surfaces_apart : AreSurfacesApart (renamed surfaces info)
      surfaces_apart one other inside also =
          let count = length-map info.references (renamed_entry surfaces) in
          apart_by one other (omega (arith, inside, count)) (omega (arith, also, count))

      pub accepted_still : IsAccepted 0 16 (renamed surfaces info)
      accepted_still = renamed_accepted 0 16 info (renamed surfaces info) info_renamed surfaces_apart accepted
