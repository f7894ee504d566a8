-- What a render of a number's picture finds, in any state that has the numbers' surfaces.
use Rattle.std.proofs.Common.{◌≡◌, ◌≢◌, ℕ, suc, ◌+◌, ◌<◌, ◌==◌, nat_lt, Bool, true, false, not, ◌||◌, if◌then◌else◌, All, List, [], ◌∷◌, map, slice_index_or, Option, Some, None, Ok, Err, refl, ap, ◌∙◌, arith}
use Rattle.std.specs.List.{list_any, position, position_or_len}
use Rattle.std.specs.Option.{option_map, option_map_or}
use Rattle.std.proofs.lemmas.Bool.{eq-eqb, or_from, or_parts}
use Rattle.std.proofs.lemmas.Bool.Decides.{nat_tests}
use Rattle.std.proofs.lemmas.List.Sums.{position_or_len_is}
use Rattle.cb_types.specs.AcceptedInfo.{IsAccepted, accepted_fields}
use Rattle.cb_types.specs.References.{is_absent, is_unused}
use Rattle.cb_types.specs.declared.picture_info.PictureInfo.{PictureInfo}
use Rattle.cb_types.specs.declared.picture_info.Reference.{Reference}
use Rattle.cb_types.specs.declared.size.SizeMbs.{SizeMbs}
use Rattle.decoder_render.specs.Coverage.{given}
use Rattle.decoder_render.specs.Renamed.{with_surface}
use Rattle.vd_plane.specs.declared.picture.Picture.{Picture}
use Rattle.vd_status.specs.declared.refusal.Refusal.TheVariants.{BadInfo, BadSize, DeviceMismatch, TargetIsReference}
use Rattle.driver_model.specs.Objects.{Decoder, Device, VideoSurface, as_decoder, as_device, as_video}
use Rattle.driver_model.specs.Refusals.{Looked, ◌>>=◌, ◌>>◌, further_handle, refused_if}
use Rattle.driver_model.specs.Renders.{Rendering, given_now, info_taken, is_of_other_size, is_own_reference, reference, references, render, rendering}
use Rattle.driver_model.specs.Sizes.{is_same_size}
use Rattle.driver_model.specs.States.{Found, State, content_at, is_preempted, named}
use Rattle.driver_model.proofs.Rows.{in_use-is}
use Rattle.picture_buffer.specs.Renaming.{handle_of, picture_of, renamed, renamed_entry}
use Rattle.picture_buffer.specs.Handles.{FindsNumbers}
use Rattle.picture_buffer.specs.Rest.{decoder_at, surface_at}
use Rattle.picture_buffer.proofs.Entries.{no_other_name}
use Rattle.picture_buffer.proofs.HandleEntries.{HasSome}

-- a device that stands there and isn't preempted
not_preempted : (d : State) (device : ℕ) (root : Device) → content_at d as_device device ≡ Some root → root.is_preempted ≡ false → is_preempted d device ≡ false
not_preempted d device root stands awake = ap (λ (o : Option Device). option_map_or (λ (of : Device). of.is_preempted) o false) stands ∙ awake

-- ---- the fields of the info

info_by : Option ℕ → Looked (Unit {0})
info_by field = elim field as (λ f. Looked (Unit {0})) [ None ↦ Ok tt | Some n ↦ Err (BadInfo n) ]

taken : (decoder : Decoder) (info : PictureInfo) → IsAccepted decoder.profile decoder.max_references info → info_taken decoder info ≡ Ok tt
unfolding info_by
taken decoder info accepted =
    let tests = accepted_fields decoder.profile decoder.max_references info in
    let all : position_or_len not tests ≡ 20 = position_or_len_is not tests 20 false (omega arith) (λ k h. ap not (accepted k h)) (λ h. absurd (let k : 20 < 20 = h in omega arith)) in
    let none : position not tests ≡ None = ap (λ k. if nat_lt k 20 then Some k else None) all in
    ap info_by none

further_is : (arg device : ℕ) (found : Option (Found VideoSurface)) (on : Found VideoSurface) → found ≡ Some on → on.device ≡ device → further_handle arg device found ≡ Ok on
further_is arg device found on is same = ap (further_handle arg device) is ∙ ap (λ b. if b then Ok on else Err (DeviceMismatch arg)) (eq-eqb on.device device same)

reference_by : Bool → Looked (Found VideoSurface) → Looked (Option (Found VideoSurface))
reference_by none found = if none then Ok None else (found >>= λ on. Ok (Some on))

module _ (IsNumber : ℕ → Type 0) (decoder : ℕ) (surfaces : List ℕ) (size : SizeMbs) (pictures : ℕ → Picture) (d : State) (finds : FindsNumbers IsNumber decoder surfaces size pictures d) where
  -- the surface of a number
  abbrev pub surface : ℕ → Found VideoSurface
  surface number = surface_at (finds.place_of number) finds.device size (pictures number)

  -- the surface that an entry names
  abbrev pub named_by : Reference → Option (Found VideoSurface)
  named_by entry = if is_unused entry || is_absent entry then None else Some (surface entry.surface)

  one_found : (arg : ℕ) (entry : Reference) → HasSome IsNumber entry → reference d finds.device arg (renamed_entry surfaces entry) ≡ Ok (named_by entry)
  unfolding reference_by
  one_found arg entry has = by (is_unused entry || is_absent entry) refl where
    by : (b : Bool) → (is_unused entry || is_absent entry) ≡ b
        → reference d finds.device arg (if b then entry else with_surface entry (handle_of surfaces entry.surface)) ≡ Ok (if b then None else Some (surface entry.surface))
    by true e = ap (λ t. reference_by t (further_handle arg finds.device (named d as_video entry.surface))) e
    by false e =
        let parts = or_parts (is_unused entry) (is_absent entry) e in
        let there = finds.each entry.surface (has parts.0 parts.1) in
        let handle = handle_of surfaces entry.surface in
        let name = no_other_name entry handle there.kind in
        let none : (is_unused (with_surface entry handle) || is_absent (with_surface entry handle)) ≡ false = or_from (is_unused (with_surface entry handle)) (is_absent (with_surface entry handle)) name.0 name.1 in
        ap (λ t. reference_by t (further_handle arg finds.device (named d as_video handle))) none
        ∙ ap (λ (l : Looked (Found VideoSurface)). l >>= λ on. Ok (Some on)) (further_is arg finds.device (named d as_video handle) (surface entry.surface) there.names refl)

  all_found : (arg : ℕ) (entries : List Reference) → All (HasSome IsNumber) entries → references d finds.device arg (map (renamed_entry surfaces) entries) ≡ Ok (map named_by entries)
  unfolding references
  all_found arg [] has = refl
  all_found arg (entry ∷ later) has =
      ap (λ (l : Looked (Option (Found VideoSurface))). l >>= λ found. references d finds.device (arg + 1) (map (renamed_entry surfaces) later) >>= λ others. Ok (found ∷ others)) (one_found arg entry (has 0 entry (omega arith)))
      ∙ ap (λ (l : Looked (List (Option (Found VideoSurface)))). l >>= λ others. Ok (named_by entry ∷ others)) (all_found (arg + 1) later (λ k e lt. has (suc k) e (omega arith)))

  -- no named surface is so
  pub none_is : (test : Found VideoSurface → Bool) (entries : List Reference) → All (λ entry. option_map_or test (named_by entry) false ≡ false) entries → list_any (λ found. option_map_or test found false) (map named_by entries) ≡ false
  none_is test [] each = refl
  none_is test (entry ∷ later) each =
      or_from (option_map_or test (named_by entry) false) (list_any (λ found. option_map_or test found false) (map named_by later)) (each 0 entry (omega arith))
      (none_is test later (λ k e lt. each (suc k) e (omega arith)))

  pub test_by : (test : Found VideoSurface → Bool) (entry : Reference) → ((is_unused entry ≡ false) → (is_absent entry ≡ false) → test (surface entry.surface) ≡ false) → option_map_or test (named_by entry) false ≡ false
  test_by test entry not_so = by (is_unused entry || is_absent entry) refl where
    by : (b : Bool) → (is_unused entry || is_absent entry) ≡ b → option_map_or test (if b then None else Some (surface entry.surface)) false ≡ false
    by true e = refl
    by false e = let parts = or_parts (is_unused entry) (is_absent entry) e in not_so parts.0 parts.1

  same_size : is_same_size size size ≡ true
  same_size = let a = eq-eqb size.width size.width refl in let b = eq-eqb size.height size.height refl in grind (arith, nat_tests, a, b)

  -- a render into a surface that is none of the numbers'
  module _ (target place : ℕ) (before : Picture) (there : named d as_video target ≡ Some (surface_at place finds.device size before)) (away : (number : ℕ) → IsNumber number → finds.place_of number ≢ place)
      (info : PictureInfo) (has : All (HasSome IsNumber) info.references) (accepted : IsAccepted 0 16 (renamed surfaces info)) where
    abbrev pub on : Rendering
    on = record { decoder = decoder_at finds.decoder_place finds.device size; target = surface_at place finds.device size before; references = map named_by info.references }

    not_own : is_own_reference on ≡ false
    not_own = none_is (λ found. found.place == place) info.references (λ k e lt.
        let entry = slice_index_or info.references k e in
        test_by (λ found. found.place == place) entry (λ used present.
        let apart : finds.place_of entry.surface ≢ place = away entry.surface (has k e lt used present) in
        grind (arith, nat_tests, apart)))

    not_other_size : is_of_other_size on ≡ false
    not_other_size =
        or_from (not (is_same_size size size)) _ (ap not same_size)
        (none_is (λ found. not (is_same_size found.value.size size)) info.references (λ k e lt.
        test_by (λ found. not (is_same_size found.value.size size)) (slice_index_or info.references k e) (λ used present. ap not same_size)))

    abbrev entries : List Reference
    entries = (renamed surfaces info).references

    rendering_is : rendering d decoder target entries ≡ Ok on
    rendering_is =
        let behind : Found Decoder → Looked Rendering = λ one. further_handle 1 one.device (named d as_video target) >>= λ onto. references d one.device 2 entries >>= λ found. Ok (record { decoder = one; target = onto; references = found }) in
        let decodes = decoder_at finds.decoder_place finds.device size in
        ap (λ (l : Looked (Found Decoder)). l >>= behind) (in_use-is d 0 (named d as_decoder decoder) decodes finds.decodes (not_preempted d finds.device finds.root finds.stands finds.awake))
        ∙ (ap (λ (l : Looked (Found VideoSurface)). l >>= λ onto. references d finds.device 2 entries >>= λ found. Ok (record { decoder = decodes; target = onto; references = found }))
        (further_is 1 finds.device (named d as_video target) (surface_at place finds.device size before) there refl)
        ∙ ap (λ (l : Looked (List (Option (Found VideoSurface)))). l >>= λ found. Ok (record { decoder = decodes; target = surface_at place finds.device size before; references = found })) (all_found 2 info.references has))

    pub renders : render d decoder target (renamed surfaces info) ≡ Ok on
    renders =
        let at_info : Rendering → Looked Rendering = λ found. info_taken found.decoder.value (renamed surfaces info) >> Ok found in
        let at_sizes : Rendering → Looked Rendering = λ found. refused_if (is_of_other_size found) BadSize >> at_info found in
        let at_own : Rendering → Looked Rendering = λ found. refused_if (is_own_reference found) TargetIsReference >> at_sizes found in
        ap (λ (l : Looked Rendering). l >>= at_own) rendering_is
        ∙ (ap (λ b. refused_if b TargetIsReference >> at_sizes on) not_own
        ∙ (ap (λ b. refused_if b BadSize >> at_info on) not_other_size
        ∙ ap (λ (l : Looked (Unit {0})). l >> Ok on) (taken on.decoder.value (renamed surfaces info) accepted)))

    picture_by : (entry : Reference) → option_map (λ (of : Found VideoSurface). of.value.picture) (named_by entry) ≡ picture_of pictures entry
    picture_by entry = by (is_unused entry || is_absent entry) where
      by : (b : Bool) → option_map (λ (of : Found VideoSurface). of.value.picture) (if b then None else Some (surface entry.surface)) ≡ (if b then None else Some (pictures entry.surface))
      by true = refl
      by false = refl

    pictures_by : (some : List Reference) → map (λ found. option_map (λ (of : Found VideoSurface). of.value.picture) found) (map named_by some) ≡ map (picture_of pictures) some
    pictures_by [] = refl
    pictures_by (entry ∷ later) = λ i. picture_by entry i ∷ pictures_by later i

    -- the references' pictures are those of their numbers
    pub gives : given_now (renamed surfaces info) on ≡ given (renamed surfaces info) size (map (picture_of pictures) info.references)
    gives = ap (given (renamed surfaces info) size) (pictures_by info.references)
