-- Which video surfaces a render's further handles name.
use Rattle.std.proofs.Common.{◌≡◌, ℕ, zero, suc, ◌+◌, ◌<◌, ◌==◌, ◌||◌, Bool, true, false, if◌then◌else◌, List, [], ◌∷◌, length, get_or, Option, Some, None, unwrap_or, Result, Ok, Err, IfOk, IfErr, refl, ap, ◌∙◌, subst, arith}
use Rattle.std.specs.Option.{option_and_then}
use Rattle.std.proofs.lemmas.Bool.Decides.{nat_tests}
use Rattle.cb_types.specs.References.{is_absent, is_unused}
use Rattle.cb_types.specs.declared.picture_info.Reference.{Reference}
use Rattle.recon.specs.References.{no_reference}
use Rattle.vd_status.specs.declared.refusal.Refusal.{Refusal}
use Rattle.vd_status.specs.declared.refusal.Refusal.TheVariants.{DeviceMismatch}
use Rattle.driver_model.specs.Objects as model
use Rattle.driver_model.specs.Refusals.{Looked, ◌>>=◌, further_handle}
use Rattle.driver_model.specs.Renders.{reference, references}
use Rattle.driver_model.specs.States.{Found, State, named}
use Rattle.driver_model.specs.declared.numbers.TheConstants as number
use Rattle.driver_model.proofs.Named.{found_of}
use Rattle.driver_objects.specs.Contents.{HasVideo}
use Rattle.driver_objects.specs.Kept.{kept_of}
use Rattle.driver_objects.specs.Kinds.{kind_number}
use Rattle.driver_objects.specs.declared.content.Content.{Content}
use Rattle.driver_objects.specs.declared.content.Content.TheVariants as content
use Rattle.driver_objects.specs.declared.content.VideoSurface.{VideoSurface}
use Rattle.driver_objects.specs.declared.object.Object.{Object}
use Rattle.driver_core.specs.Looked.{IsFurther}
use Rattle.driver_core.specs.Rendered.{AreSeen, RefusesSurface, SeesEntry, SeesSurface}
use Rattle.driver_core.specs.Stands.{IsContent, Stands, is_owed}
use Rattle.driver_core.specs.declared.driver.Core.{Core}
use Rattle.driver_core.proofs.Handles.{called_kind, further_err}
use Rattle.driver_core.proofs.ModelKinds.{video_is, video_kind, video_other}
use Rattle.driver_core.proofs.Named.{found_some}

video_by_number : (what : Content) → kind_number what ≡ number.VIDEO_SURFACE → (surface : VideoSurface) × (what ≡ content.Video surface)
video_by_number (content.Device of) is = absurd (omega (arith, is))
video_by_number (content.Video of) is = (of, refl)
video_by_number (content.Output of) is = absurd (omega (arith, is))
video_by_number (content.Decoder of) is = absurd (omega (arith, is))
video_by_number (content.Mixer of) is = absurd (omega (arith, is))
video_by_number (content.Queue of) is = absurd (omega (arith, is))

-- ---- a further handle

module _ (core : Core) (arg name device : ℕ) where
  -- what a look at it comes to
  pub record SurfaceLooks (result : Result ℕ Refusal) : Type 0 where
    pub video : IfOk result (HasVideo (kept_of core.objects))
    pub sees : IfOk result (SeesSurface core arg name device)
    pub refuses : IfErr result (RefusesSurface core arg name device)

  module _ (index : ℕ) (is : IsFurther (kept_of core.objects) arg number.VIDEO_SURFACE name device (Ok index)) where
    abbrev o : Object
    o = is.0.0.object

    video_there : (surface : VideoSurface) × (o.content ≡ content.Video surface)
    video_there = video_by_number o.content (called_kind core number.VIDEO_SURFACE name index is.0 o.content (record { object = o; there = is.0.0.stands; has = refl }))

    on_device : (value : model.VideoSurface) (b : Bool) → (o.device == device) ≡ b
        → further_handle arg device (Some (found_of o.place o.device value)) ≡ (if b then Ok (found_of o.place o.device value) else Err (DeviceMismatch arg))
    on_device value b same = ap (λ test. if test then Ok (found_of o.place o.device value) else Err (DeviceMismatch arg)) same

    seen_there : SeesSurface core arg name device index
    seen_there d stands =
        let f = found_some model.as_video number.VIDEO_SURFACE video_kind video_other core d stands name index o is.0 is.0.0.stands in
        let on : (o.device == device) ≡ true = let e = is.1 o is.0.0.stands in grind (arith, nat_tests, e) in (
          found_of o.place o.device f.value,
          ap (further_handle arg device) f.found ∙ on_device f.value true on,
          record {
            object = o;
            there = is.0.0.stands;
            at_place = refl;
            surface = video_there.0;
            has = video_there.1;
            is = subst (λ c. IsContent core.queues (is_owed d o.place) c (content.Video video_there.0)) (video_is f.one.content f.value f.has) (subst (IsContent core.queues (is_owed d o.place) f.one.content) video_there.1 f.is_object.content);
            stands = ap (λ (x : Option model.Object). option_and_then (λ (one : model.Object). model.as_video one.content) x) f.at_place ∙ f.has;
          },
        )

  pub surface_looks : (result : Result ℕ Refusal) → IsFurther (kept_of core.objects) arg number.VIDEO_SURFACE name device result → SurfaceLooks result
  surface_looks (Ok index) is = record {
    video = let v = video_there index is in (v.0, record { object = is.0.0.object; there = is.0.0.stands; has = v.1 });
    sees = seen_there index is;
    refuses = tt;
  }
  surface_looks (Err refusal) is = record {
    video = tt;
    sees = tt;
    refuses = further_err model.as_video (λ of. model.VideoObject of) number.VIDEO_SURFACE video_kind video_other video_is core arg name device refusal is;
  }

-- ---- an entry

neither : (a b : Bool) → a ≡ false → b ≡ false → (a || b) ≡ false
neither a b a_is b_is = ap (λ x. x || b) a_is ∙ b_is

module _ (core : Core) (device arg : ℕ) (entry : Reference) (used : is_unused entry ≡ false) (there : is_absent entry ≡ false) where
  by_surface : (d : State) → reference d device arg entry ≡ (further_handle arg device (named d model.as_video entry.surface) >>= (λ on. Ok (Some on)))
  by_surface d =
      ap (λ b. if b then Ok None else (further_handle arg device (named d model.as_video entry.surface) >>= (λ on. Ok (Some on)))) (neither (is_unused entry) (is_absent entry) used there)

  pub entry_seen : (index : ℕ) → HasVideo (kept_of core.objects) index → SeesSurface core arg entry.surface device index → SeesEntry core device arg entry (Some index)
  entry_seen index video sees = record {
    video = λ other same. subst (HasVideo (kept_of core.objects)) (ap (λ o. unwrap_or o index) same) video;
    sees = λ d stands.
        let s = sees d stands in
        (Some s.0, by_surface d ∙ ap (λ (l : Looked (Found model.VideoSurface)). l >>= (λ on. Ok (Some on))) s.1, s.2);
  }

-- ---- all entries

module _ (core : Core) (device : ℕ) (d : State) (stands : Stands core d) where
  behind : ℕ → List Reference → Option (Found model.VideoSurface) → Looked (List (Option (Found model.VideoSurface)))
  behind arg entries found = references d device arg entries >>= (λ others. Ok (found ∷ others))

  at_first : (arg : ℕ) (entry : Reference) (slot : Option ℕ) → SeesEntry core device (arg + 0) entry slot → SeesEntry core device arg entry slot
  at_first arg entry slot sees = subst (λ n. SeesEntry core device n entry slot) (let e : arg + 0 ≡ arg = omega arith in e) sees

  at_later : (arg place : ℕ) (entry : Reference) (slot : Option ℕ) → SeesEntry core device (arg + suc place) entry slot → SeesEntry core device (arg + 1 + place) entry slot
  at_later arg place entry slot sees = subst (λ n. SeesEntry core device n entry slot) (let e : arg + suc place ≡ arg + 1 + place = omega arith in e) sees

  pub all_seen : (arg : ℕ) (entries : List Reference) (slots : List (Option ℕ)) → length slots ≡ length entries
      → ((place : ℕ) → place < length entries → SeesEntry core device (arg + place) (get_or entries place no_reference) (get_or slots place None))
      → (found : List (Option (Found model.VideoSurface))) × (references d device arg entries ≡ Ok found) × AreSeen core d slots found
  unfolding references AreSeen behind
  all_seen arg [] [] same each = ([], refl, tt)
  all_seen arg [] (slot ∷ slots) same each = absurd (omega (arith, same))
  all_seen arg (entry ∷ entries) [] same each = absurd (omega (arith, same))
  all_seen arg (entry ∷ entries) (slot ∷ slots) same each =
      let one = (at_first arg entry slot (each 0 (omega arith))).sees d stands in
      let rest = all_seen (arg + 1) entries slots (omega (arith, same)) (λ place lt. at_later arg place (get_or entries place no_reference) (get_or slots place None) (each (suc place) (omega (arith, lt)))) in
      (one.0 ∷ rest.0, ap (λ l. l >>= behind (arg + 1) entries) one.1 ∙ ap (λ l. l >>= (λ others. Ok (one.0 ∷ others))) rest.1, (one.2, rest.2))

  -- the first that is refused
  pub one_refused : (arg : ℕ) (entries : List Reference) (slot : ℕ → Option ℕ) (i : ℕ) (refusal : Refusal) → i < length entries
      → ((place : ℕ) → place < i → SeesEntry core device (arg + place) (get_or entries place no_reference) (slot place))
      → reference d device (arg + i) (get_or entries i no_reference) ≡ Err refusal
      → references d device arg entries ≡ Err refusal
  unfolding references behind
  one_refused arg [] slot i refusal below each refused = absurd (omega (arith, below))
  one_refused arg (entry ∷ entries) slot zero refusal below each refused =
      ap (λ l. l >>= behind (arg + 1) entries) (subst (λ n. reference d device n entry ≡ Err refusal) (let e : arg + 0 ≡ arg = omega arith in e) refused)
  one_refused arg (entry ∷ entries) slot (suc i) refusal below each refused =
      let one = (at_first arg entry (slot 0) (each 0 (omega arith))).sees d stands in
      let later = one_refused (arg + 1) entries (λ p. slot (suc p)) i refusal (omega (arith, below)) (λ place lt. at_later arg place (get_or entries place no_reference) (slot (suc place)) (each (suc place) (omega (arith, lt))))
      (subst (λ n. reference d device n (get_or entries i no_reference) ≡ Err refusal) (let e : arg + suc i ≡ arg + 1 + i = omega arith in e) refused) in
      ap (λ l. l >>= behind (arg + 1) entries) one.1 ∙ ap (λ l. l >>= (λ others. Ok (one.0 ∷ others))) later
