-- Renders and mixes in the part about a device.
use Rattle.std.proofs.Common.{◌≡◌, ℕ, ◌+◌, ◌==◌, Bool, true, false, not, ◌||◌, if◌then◌else◌, List, [], ◌∷◌, filter_map, length, map, Option, Some, None, Ok, Err, refl, ap, sym, ◌∙◌, subst}
use Rattle.std.specs.List.{AllByRecursion, cons_option, list_any}
use Rattle.std.specs.Option.{option_map, option_map_or}
use Rattle.cb_types.specs.References.{is_absent, is_unused}
use Rattle.cb_types.specs.declared.picture_info.PictureInfo.{PictureInfo}
use Rattle.cb_types.specs.declared.picture_info.Reference.{Reference}
use Rattle.decoder_render.specs.Coverage.{Given, given}
use Rattle.decoder_render.specs.Outcomes.{IsOutcome}
use Rattle.decoder_render.specs.declared.outcome.Outcome.{Outcome}
use Rattle.decoder_render.specs.declared.outcome.Outcome.TheVariants as outcome
use Rattle.vd_plane.specs.declared.picture.Picture.{Picture}
use Rattle.vd_status.specs.declared.refusal.Refusal.TheVariants.{BadSize, TargetIsReference}
use Rattle.driver_model.specs.Answers.{Reply}
use Rattle.driver_model.specs.Mixes.{Mixes, Mixing}
use Rattle.driver_model.specs.Objects.{Decoder, OutputObject, VideoObject, VideoSurface, as_decoder, as_video}
use Rattle.driver_model.specs.Parts.{is_among, reference_name}
use Rattle.driver_model.specs.Refusals.{Looked, ◌>>=◌, ◌>>◌, first_handle, further_handle, refused_if}
use Rattle.driver_model.specs.Renders.{Counts, Decodes, Rendering, decoded, given_now, info_taken, is_of_other_size, is_own_reference, is_render_held, reference, references, render, rendering, some_reference, units_counted}
use Rattle.driver_model.specs.Sizes.{is_same_size}
use Rattle.driver_model.specs.States.{State, Found, is_out, named, with_note}
use Rattle.driver_model.specs.Surfaces.{with_bytes, with_picture}
use Rattle.driver_model.proofs.PartContents.{decoder_moves, video_moves}
use Rattle.driver_model.proofs.PartFinds.{Alike, IsOwnMixing, alike_first, alike_further, guard_alike, moved_mixing, ok_alike, then_alike}
use Rattle.driver_model.proofs.PartLooks.{IsOwnFound, IsOwnName, moved_found}
use Rattle.driver_model.proofs.PartNotes.{part-out, part-with_note}
use Rattle.driver_model.proofs.PartPlaces.{Cut, place_in, place_in-one}
use Rattle.driver_model.proofs.PartRows.{Too, after_content, after_none, goes_too, leaves_too}
use Rattle.driver_model.proofs.PartStates.{After, Pair}
use Rattle.driver_model.proofs.PartWishes.{Anything, among_first, among_later, same_value}

-- where one test holds in place of another, also of some element
any_same : {A B : Type 0} (f : A → B) (P : A → Type 0) (test : A → Bool) (other : B → Bool) → ((a : A) → P a → other (f a) ≡ test a) → (xs : List A) → AllByRecursion P xs → list_any other (map f xs) ≡ list_any test xs
any_same f P test other same [] all = refl
any_same f P test other same (x ∷ later) all = λ i. same x all.0 i || any_same f P test other same later all.1 i

module _ (c : Cut) (on : ℕ) where
  abbrev pub moved_video : Found VideoSurface → Found VideoSurface
  moved_video found = moved_found c (λ (of : VideoSurface). of) found

  abbrev pub moved_reference : Option (Found VideoSurface) → Option (Found VideoSurface)
  moved_reference found = option_map moved_video found

  abbrev pub moved_rendering : Rendering → Rendering
  moved_rendering on = record {
    decoder = moved_found c (λ (of : Decoder). of) on.decoder;
    target = moved_video on.target;
    references = map moved_reference on.references;
  }

  -- A reference that is there is the device's own.
  abbrev pub IsOwnReference : Option (Found VideoSurface) → Type 0
  IsOwnReference None = Unit {0}
  IsOwnReference (Some found) = IsOwnFound c on found

  abbrev pub AreOwnReferences : List (Option (Found VideoSurface)) → Type 0
  AreOwnReferences found = AllByRecursion IsOwnReference found

  pub record IsOwnRendering (at : Rendering) : Type 0 where
    pub target : IsOwnFound c on at.target
    pub references : AreOwnReferences at.references

  some-same : (test other : Found VideoSurface → Bool) → ((found : Found VideoSurface) → IsOwnFound c on found → other (moved_video found) ≡ test found) → (at : Rendering) → AreOwnReferences at.references
      → some_reference other (moved_rendering at) ≡ some_reference test at
  some-same test other same at own =
      any_same moved_reference IsOwnReference (λ found. option_map_or test found false) (λ found. option_map_or other found false) by_option at.references own
    where
      by_option : (found : Option (Found VideoSurface)) → IsOwnReference found → option_map_or other (moved_reference found) false ≡ option_map_or test found false
      by_option None own = refl
      by_option (Some found) own = same found own

  own_reference-same : (at : Rendering) → AreOwnReferences at.references → is_own_reference (moved_rendering at) ≡ is_own_reference at
  own_reference-same at own =
      some-same (λ found. found.place == at.target.place) (λ found. found.place == place_in c at.target.place) (λ found is. place_in-one c found.place at.target.place) at own

  other_size-same : (at : Rendering) → AreOwnReferences at.references → is_of_other_size (moved_rendering at) ≡ is_of_other_size at
  other_size-same at own =
      ap (λ b. not (is_same_size at.target.value.size at.decoder.value.size) || b)
      (some-same (λ found. not (is_same_size found.value.size at.decoder.value.size)) (λ found. not (is_same_size found.value.size at.decoder.value.size)) (λ found is. refl) at own)

  -- what is decoded with is the same
  pictures-same : (found : List (Option (Found VideoSurface))) → map (λ (o : Option (Found VideoSurface)). option_map (λ (of : Found VideoSurface). of.value.picture) o) (map moved_reference found) ≡ map (λ o. option_map (λ of. of.value.picture) o) found
  pictures-same [] = refl
  pictures-same (None ∷ later) = ap (λ l. None ∷ l) (pictures-same later)
  pictures-same (Some found ∷ later) = ap (λ l. Some found.value.picture ∷ l) (pictures-same later)

  given-same : (info : PictureInfo) (at : Rendering) → given_now info (moved_rendering at) ≡ given_now info at
  given-same info at = ap (given info at.decoder.value.size) (pictures-same at.references)

module _ (c : Cut) (on : ℕ) (q : ℕ → Option ℕ) (s t : State) (pair : Pair c on q s t) where
  -- ---- references

  -- Each name of the entries that are used is the device's own.
  abbrev pub AreOwnEntries : List Reference → Type 0
  AreOwnEntries entries = (name : ℕ) → is_among (filter_map reference_name entries) name ≡ true → IsOwnName c.own s.objects name

  -- what is looked at of an entry that is used
  abbrev found_in : State → (arg device : ℕ) → Reference → Looked (Option (Found VideoSurface))
  found_in st arg device entry = further_handle arg device (named st as_video entry.surface) >>= λ found. Ok (Some found)

  alike_reference : (arg device : ℕ) (entry : Reference) (later : List Reference) → AreOwnEntries (entry ∷ later)
      → Alike (moved_reference c on) (IsOwnReference c on) (reference s device arg entry) (reference t (place_in c device) arg entry)
  alike_reference arg device entry later own = by_use (is_unused entry || is_absent entry) refl where
    by_use : (b : Bool) → (is_unused entry || is_absent entry) ≡ b
        → Alike (moved_reference c on) (IsOwnReference c on) (if b then Ok None else found_in s arg device entry) (if b then Ok None else found_in t arg (place_in c device) entry)
    by_use true e = ok_alike (moved_reference c on) (IsOwnReference c on) None tt
    by_use false e =
        let here : reference_name entry ≡ Some entry.surface = ap (λ b. if b then None else Some entry.surface) e in
        let among : is_among (filter_map reference_name (entry ∷ later)) entry.surface ≡ true =
        ap (λ o. is_among (cons_option o (filter_map reference_name later)) entry.surface) here ∙ among_first entry.surface (filter_map reference_name later) in
        then_alike (moved_video c on) (IsOwnFound c on) (moved_reference c on) (IsOwnReference c on) (further_handle arg device (named s as_video entry.surface)) (further_handle arg (place_in c device) (named t as_video entry.surface))
        (λ found. Ok (Some found)) (λ found. Ok (Some found)) (alike_further c on q s t pair as_video (λ of. of) (video_moves c) arg device entry.surface (own entry.surface among))
        (λ found is. ok_alike (moved_reference c on) (IsOwnReference c on) (Some found) is)

  later_entries : (entry : Reference) (later : List Reference) → AreOwnEntries (entry ∷ later) → AreOwnEntries later
  later_entries entry later own name is = own name (by_name (reference_name entry)) where
    by_name : (o : Option ℕ) → is_among (cons_option o (filter_map reference_name later)) name ≡ true
    by_name None = is
    by_name (Some other) = among_later other name (filter_map reference_name later) is

  alike_references : (arg device : ℕ) (entries : List Reference) → AreOwnEntries entries
      → Alike (λ found. map (moved_reference c on) found) (AreOwnReferences c on) (references s device arg entries) (references t (place_in c device) arg entries)
  unfolding references
  alike_references arg device [] own = ok_alike (λ found. map (moved_reference c on) found) (AreOwnReferences c on) [] tt
  alike_references arg device (entry ∷ later) own =
      let f : List (Option (Found VideoSurface)) → List (Option (Found VideoSurface)) = λ found. map (moved_reference c on) found in
      let last : Option (Found VideoSurface) → List (Option (Found VideoSurface)) → Looked (List (Option (Found VideoSurface))) = λ found others. Ok (found ∷ others) in
      let behind : State → ℕ → Option (Found VideoSurface) → Looked (List (Option (Found VideoSurface))) = λ st dev found. references st dev (arg + 1) later >>= last found in
      let rest = alike_references (arg + 1) device later (later_entries entry later own) in
      then_alike (moved_reference c on) (IsOwnReference c on) f (AreOwnReferences c on) (reference s device arg entry) (reference t (place_in c device) arg entry) (behind s device) (behind t (place_in c device))
      (alike_reference arg device entry later own)
      (λ found is.
      then_alike f (AreOwnReferences c on) f (AreOwnReferences c on) (references s device (arg + 1) later) (references t (place_in c device) (arg + 1) later) (last found) (last (moved_reference c on found)) rest
      (λ others are. ok_alike f (AreOwnReferences c on) (found ∷ others) (is, are)))

  -- ---- what a render looks at

  abbrev rendering_of : Found Decoder → Found VideoSurface → List (Option (Found VideoSurface)) → Rendering
  rendering_of one two three = record { decoder = one; target = two; references = three }

  alike_rendering : (handle surface : ℕ) (entries : List Reference) → IsOwnName c.own s.objects handle → IsOwnName c.own s.objects surface → AreOwnEntries entries
      → Alike (moved_rendering c on) (IsOwnRendering c on) (rendering s handle surface entries) (rendering t handle surface entries)
  alike_rendering handle surface entries handle_own surface_own own =
      let f : Found Decoder → Found Decoder = moved_found c (λ (of : Decoder). of) in
      let h : List (Option (Found VideoSurface)) → List (Option (Found VideoSurface)) = λ found. map (moved_reference c on) found in
      let last : Found Decoder → Found VideoSurface → List (Option (Found VideoSurface)) → Looked Rendering = λ one two three. Ok (rendering_of one two three) in
      let third : State → Found Decoder → Found VideoSurface → Looked Rendering = λ st one two. references st one.device 2 entries >>= last one two in
      let second : State → Found Decoder → Looked Rendering = λ st one. further_handle 1 one.device (named st as_video surface) >>= third st one in
      then_alike f (IsOwnFound c on) (moved_rendering c on) (IsOwnRendering c on) (first_handle s (named s as_decoder handle)) (first_handle t (named t as_decoder handle)) (second s) (second t)
      (alike_first c on q s t pair as_decoder (λ of. of) (decoder_moves c) handle handle_own)
      (λ one one_own.
      then_alike (moved_video c on) (IsOwnFound c on) (moved_rendering c on) (IsOwnRendering c on) (further_handle 1 one.device (named s as_video surface)) (further_handle 1 (place_in c one.device) (named t as_video surface))
      (third s one) (third t (f one)) (alike_further c on q s t pair as_video (λ of. of) (video_moves c) 1 one.device surface surface_own)
      (λ two two_own.
      then_alike h (AreOwnReferences c on) (moved_rendering c on) (IsOwnRendering c on) (references s one.device 2 entries) (references t (place_in c one.device) 2 entries) (last one two) (last (f one) (moved_video c on two))
      (alike_references 2 one.device entries own)
      (λ three three_own. ok_alike (moved_rendering c on) (IsOwnRendering c on) (rendering_of one two three) (record { target = two_own; references = three_own }))))

  pub alike_render : (handle surface : ℕ) (info : PictureInfo) → IsOwnName c.own s.objects handle → IsOwnName c.own s.objects surface → AreOwnEntries info.references
      → Alike (moved_rendering c on) (IsOwnRendering c on) (render s handle surface info) (render t handle surface info)
  alike_render handle surface info handle_own surface_own own =
      let taken : Rendering → Looked Rendering = λ at. info_taken at.decoder.value info >> Ok at in
      let sized : Rendering → Looked Rendering = λ at. refused_if (is_of_other_size at) BadSize >> taken at in
      let apart : Rendering → Looked Rendering = λ at. refused_if (is_own_reference at) TargetIsReference >> sized at in
      let f : Rendering → Rendering = moved_rendering c on in
      let Own : Rendering → Type 0 = IsOwnRendering c on in
      then_alike f Own f Own (rendering s handle surface info.references) (rendering t handle surface info.references) apart apart (alike_rendering handle surface info.references handle_own surface_own own)
      (λ at is.
      subst (λ b. Alike f Own (apart at) (refused_if b TargetIsReference >> sized (f at))) (sym (own_reference-same c on at is.references))
      (guard_alike f Own (refused_if (is_own_reference at) TargetIsReference) (sized at) (sized (f at))
      (subst (λ b. Alike f Own (sized at) (refused_if b BadSize >> taken (f at))) (sym (other_size-same c on at is.references))
      (guard_alike f Own (refused_if (is_of_other_size at) BadSize) (taken at) (taken (f at))
      (guard_alike f Own (info_taken at.decoder.value info) (Ok at) (Ok (f at)) (ok_alike f Own at is))))))

  -- ---- what is done

  out : (place : ℕ) → c.own place ≡ true → is_out t (place_in c place) ≡ is_out s place
  out place own = part-out c q s t pair.notes pair.targets place own

  render_held-same : (at : Rendering) → IsOwnRendering c on at → is_render_held t (moved_rendering c on at) ≡ is_render_held s at
  render_held-same at own =
      λ i. out at.target.place own.target.place i || some-same c on (λ found. is_out s found.place) (λ found. is_out t found.place) (λ found is. out found.place is.place) at own.references i

  abbrev noted : State → (caller : List ℕ) (target : ℕ) → Outcome → State
  noted st caller target outcome = with_note st caller target outcome

  after_note : (left other : State) (caller : List ℕ) (target : ℕ) (o : Outcome) → left.notes ≡ s.notes → other.notes ≡ t.notes → left.items ≡ s.items → other.items ≡ t.items → After c q t left other
      → After c q t (with_note left caller target o) (with_note other caller (place_in c target) o)
  after_note left other caller target o left_notes other_notes left_items other_items after =
      let item : q left.items ≡ Some other.items = ap q left_items ∙ (pair.item ∙ ap (λ n. Some n) (sym other_items)) in
      record { objects = after.objects; notes = part-with_note c q left other caller target o after.notes item; items = after.items }

  after_decoded : (target : Found VideoSurface) → c.own target.place ≡ true → (picture : Picture) (o : Outcome) (caller : List ℕ)
      → After c q t (with_note (decoded s target picture o) caller target.place o) (with_note (decoded t (moved_video c on target) picture o) caller (place_in c target.place) o)
  after_decoded target own picture outcome.Ok caller =
      after_note (with_picture s target picture) (with_picture t (moved_video c on target) picture) caller target.place outcome.Ok refl refl refl refl
      (after_content c on q s t pair target.place (VideoObject (record target.value { picture = picture })) (VideoObject (record target.value { picture = picture })) refl own)
  after_decoded target own picture (outcome.Bitstream slice) caller = after_note s t caller target.place (outcome.Bitstream slice) refl refl refl refl (after_none c on q s t pair)
  after_decoded target own picture (outcome.Incomplete macroblocks) caller = after_note s t caller target.place (outcome.Incomplete macroblocks) refl refl refl refl (after_none c on q s t pair)

  module _ (new : State) (reply : Reply) (caller : List ℕ) where
    decodes_too : (info : PictureInfo) (payloads : List (Option (List ℕ))) (at : Rendering) → IsOwnRendering c on at → Decodes s reply new caller info payloads at
        → Too c on q s t pair new reply (λ u. Decodes t reply u caller info payloads (moved_rendering c on at))
    decodes_too info payloads at own p =
        let after : State = with_note (decoded t (moved_video c on at.target) p.picture p.outcome) caller (place_in c at.target.place) p.outcome in
        let does : Decodes t reply after caller info payloads (moved_rendering c on at) = record {
          at_home = render_held-same at own ∙ p.at_home;
          outcome = p.outcome;
          picture = p.picture;
          is_outcome = subst (λ (g : Given). IsOutcome g payloads p.outcome p.picture) (sym (given-same c on info at)) p.is_outcome;
          tells = p.tells;
          after = refl;
        } in
        (after, does, subst (λ u. After c q t u after) (sym p.after) (after_decoded at.target own.target.place p.picture p.outcome caller))

    pub counts_too : (info : PictureInfo) (bytes : List ℕ) (at : Rendering) → IsOwnRendering c on at → Counts s reply new caller info bytes at
        → Too c on q s t pair new reply (λ u. Counts t reply u caller info bytes (moved_rendering c on at))
    counts_too info bytes at own p =
        let looked : Looked (Unit {0}) = units_counted info (length p.payloads) in
        let r = goes_too c on q s t pair new reply (same_value {A = Unit {0}}) Anything looked looked (λ nothing. Decodes s reply new caller info p.payloads at) (λ u nothing. Decodes t reply u caller info p.payloads (moved_rendering c on at))
        (same_look looked) (λ nothing is d. decodes_too info p.payloads at own d) p.goes in
        (r.0, record { payloads = p.payloads; units = p.units; goes = r.1 }, r.2)
      where
        same_look : (m : Looked (Unit {0})) → Alike (same_value {A = Unit {0}}) Anything m m
        same_look (Ok nothing) = record { same = refl; own = λ a e. tt }
        same_look (Err refusal) = record { same = refl; own = λ a e. tt }

    -- ---- mixes

    pub mixes_too : (at : Mixing) → IsOwnMixing c on at → Mixes s reply new caller at → Too c on q s t pair new reply (λ u. Mixes t reply u caller (moved_mixing c on at))
    mixes_too at own p =
        let there : Mixing = moved_mixing c on at in
        let left : State = with_bytes s at.output p.bytes in
        let other : State = with_bytes t there.output p.bytes in
        let content : After c q t left other = after_content c on q s t pair at.output.place (OutputObject (record at.output.value { bytes = p.bytes })) (OutputObject (record there.output.value { bytes = p.bytes })) refl own.1.place in
        let after : State = with_note other caller (place_in c at.output.place) outcome.Ok in
        let r = leaves_too c on q s t pair new reply (with_note left caller at.output.place outcome.Ok) after (after_note left other caller at.output.place outcome.Ok refl refl refl refl content) p.leaves in
        (r.0, record { at_home = (λ i. out at.video.place own.0.place i || out at.output.place own.1.place i) ∙ p.at_home; bytes = p.bytes; pixels = p.pixels; leaves = r.1 }, r.2)
