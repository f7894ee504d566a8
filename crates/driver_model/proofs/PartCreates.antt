-- Creates in the part about a device. It has less objects than the whole, so it has room where the whole has.
use Rattle.std.proofs.Common.{◌≡◌, ◌⊎◌, inl, inr, ℕ, ◌≤◌, ◌==◌, nat_lt, Bool, true, false, not, ◌&&◌, ◌||◌, List, [], ◌∷◌, ◌++◌, length, slice_get, Option, Some, Ok, Err, refl, ap, sym, ◌∙◌, subst, arith}
use Rattle.std.proofs.lemmas.Bool.{eq-eqb, eqb-false, false≢true, ne_eqb, or_from, or_parts}
use Rattle.std.specs.List.{count_by, list_any}
use Rattle.std.specs.Option.{is_some}
use Rattle.vd_status.specs.declared.refusal.Refusal.{Refusal}
use Rattle.vd_status.specs.declared.refusal.Refusal.TheVariants.{BadChroma, BadInfo, BadProfile, BadRgba}
use Rattle.driver_model.specs.Answers.{Goes, Reply}
use Rattle.driver_model.specs.Creates.{Creates, Makes, MayBeFull, decoder_create, device_create, handles_full, is_full, live_devices, live_objects, live_queues, mixer_create, output_create, queue_create, room, video_create}
use Rattle.driver_model.specs.Objects.{Content, Device, Object, as_device, as_queue}
use Rattle.driver_model.specs.Parts.{is_out_of_handles}
use Rattle.driver_model.specs.Refusals.{Looked, ◌>>=◌, ◌>>◌, first_handle, refused_if}
use Rattle.driver_model.specs.Sizes.{is_profile, is_rgba_format, size_for}
use Rattle.driver_model.specs.States.{State, Found, is_given, live_count, named, with_object}
use Rattle.driver_model.specs.declared.numbers.TheConstants.{CHROMA_420, MAX_DEVICES, MAX_OBJECTS, MAX_QUEUES, MAX_REFERENCES}
use Rattle.driver_model.proofs.Looks.{err_not_ok, ok_is}
use Rattle.driver_model.proofs.PartContents.{is_device-moved, is_queue-moved, moved_content, moved_object, part_of}
use Rattle.driver_model.proofs.PartFinds.{Alike, IsRoot, alike_device, moved_root}
use Rattle.driver_model.proofs.PartLooks.{IsOwnName}
use Rattle.driver_model.proofs.PartPlaces.{Cut, count-kept, kept-more, none-kept, place_in}
use Rattle.driver_model.proofs.PartRows.{Too, stays}
use Rattle.driver_model.proofs.PartStates.{After, Pair}
use Rattle.driver_model.proofs.PartTicks.{AreOf}

-- ---- room

-- No more objects live than may.
pub record IsWithinRoom (s : State) : Type 0 where
  pub objects : live_objects s ≤ MAX_OBJECTS
  pub devices : live_devices s ≤ MAX_DEVICES
  pub queues : live_queues s ≤ MAX_QUEUES

not_full : (few many most : ℕ) → few ≤ many → many ≤ most → (many == most) ≡ false → (few == most) ≡ false
not_full few many most less within other = ne_eqb few most (λ e. let apart = eqb-false many most other in apart (omega (arith, e, less, within)))

pub get-last : (objects : List Object) (one : Object) → slice_get (objects ++ one ∷ []) (length objects) ≡ Some one
get-last [] one = refl
get-last (object ∷ later) one = get-last later one

-- ---- looks

-- The look of a create in the whole, and the one in the part, which may find room where the whole has none.
pub record Makeable (c : Cut) (Own : ℕ → Type 0) (m n : Looked ℕ) : Type 0 where
  pub found : (a : ℕ) → m ≡ Ok a → (n ≡ Ok (place_in c a)) × Own a
  pub refused : (refusal : Refusal) → m ≡ Err refusal → (is_out_of_handles (Err refusal) ≡ true) ⊎ (n ≡ Err refusal)

refusal_is : {A : Type 0} (a b : Refusal) → (let m : Looked A = Err a in m ≡ Err b) → a ≡ b
refusal_is a b e = cc

then_makeable : {A B : Type 0} (c : Cut) (Own : ℕ → Type 0) (f : A → B) (P : A → Type 0) (m : Looked A) (n : Looked B) (later : A → Looked ℕ) (also : B → Looked ℕ)
    → Alike f P m n → ((a : A) → P a → Makeable c Own (later a) (also (f a))) → Makeable c Own (m >>= later) (n >>= also)
then_makeable c Own f P (Ok a) n later also is rest =
    let same : (n >>= also) ≡ also (f a) = ap (λ l. l >>= also) is.same in
    subst (λ (l : Looked ℕ). Makeable c Own (later a) l) (sym same) (rest a (is.own a refl))
then_makeable c Own f P (Err refusal) n later also is rest = record {
  found = λ a e. absurd (err_not_ok refusal a e);
  refused = λ r e. inr (ap (λ l. l >>= also) is.same ∙ e);
}

-- a look that is the same in both
always : {A : Type 0} (c : Cut) (Own : ℕ → Type 0) (m : Looked A) (later also : Looked ℕ) → Makeable c Own later also → Makeable c Own (m >>= λ a. later) (m >>= λ a. also)
always c Own (Ok a) later also is = is
always c Own (Err refusal) later also is = record { found = λ a e. absurd (err_not_ok refusal a e); refused = λ r e. inr e }

unless : (c : Cut) (Own : ℕ → Type 0) (m : Looked (Unit {0})) (later also : Looked ℕ) → Makeable c Own later also → Makeable c Own (m >> later) (m >> also)
unless c Own (Ok nothing) later also is = is
unless c Own (Err refusal) later also is = record { found = λ a e. absurd (err_not_ok refusal a e); refused = λ r e. inr e }

module _ (c : Cut) (on : ℕ) (q : ℕ → Option ℕ) (s t : State) (pair : Pair c on q s t) (within : IsWithinRoom s) where
  -- ---- what is looked at

  fewer : (test : Content → Bool) → ((content : Content) → test (moved_content c content) ≡ test content) → live_count t test ≤ live_count s test
  fewer test same =
      subst (λ l. count_by (λ object. object.is_live && test object.content) l ≤ live_count s test) (sym pair.objects)
      (count-kept (moved_object c) (λ object. object.is_live && test object.content) (λ object. object.is_live && test object.content) (λ object. ap (λ b. object.is_live && b) (same object.content)) c.own s.objects)

  not_full-objects : is_full s ≡ false → is_full t ≡ false
  not_full-objects e = not_full (live_objects t) (live_objects s) MAX_OBJECTS (fewer (λ content. true) (λ content. refl)) within.objects e

  not_full-devices : (live_devices s == MAX_DEVICES) ≡ false → (live_devices t == MAX_DEVICES) ≡ false
  not_full-devices e = not_full (live_devices t) (live_devices s) MAX_DEVICES (fewer (λ content. is_some (as_device content)) (is_device-moved c)) within.devices e

  not_full-queues : (live_queues s == MAX_QUEUES) ≡ false → (live_queues t == MAX_QUEUES) ≡ false
  not_full-queues e = not_full (live_queues t) (live_queues s) MAX_QUEUES (fewer (λ content. is_some (as_queue content)) (is_queue-moved c)) within.queues e

  room_makeable : (Own : ℕ → Type 0) (b d : Bool) (a there : ℕ) → (b ≡ false → d ≡ false) → there ≡ place_in c a → Own a → Makeable c Own (room s b >> Ok a) (room t d >> Ok there)
  room_makeable Own b d a there same is own = by_full (is_full s || b) refl where
    by_full : (full : Bool) → (is_full s || b) ≡ full → Makeable c Own (refused_if full (handles_full s) >> Ok a) (refused_if (is_full t || d) (handles_full t) >> Ok there)
    by_full true e = record {
      found = λ x k. absurd (err_not_ok (handles_full s) x k);
      refused = λ r k. inl (subst (λ x. is_out_of_handles (Err x) ≡ true) (refusal_is (handles_full s) r k) refl);
    }
    by_full false e =
        let parts = or_parts (is_full s) b e in
        let free : (is_full t || d) ≡ false = or_from (is_full t) d (not_full-objects parts.0) (same parts.1) in
        record {
          found = λ x k.
              let here : a ≡ x = ok_is a x k in
              (ap (λ full. refused_if full (handles_full t) >> Ok there) free ∙ (ap (λ (p : ℕ). Ok p) is ∙ ap (λ (p : ℕ). Ok (place_in c p)) here), subst Own here own);
          refused = λ r k. absurd (err_not_ok r a (sym k));
        }

  -- A create on a device: its object is the device itself.
  abbrev pub OnRoot : ℕ → Type 0
  OnRoot place = place ≡ on

  on_device : (name : ℕ) → IsOwnName c.own s.objects name → (later also : Found Device → Looked ℕ) → ((found : Found Device) → IsRoot c on found → Makeable c OnRoot (later found) (also (moved_root c on found)))
      → Makeable c OnRoot (first_handle s (named s as_device name) >>= later) (first_handle t (named t as_device name) >>= also)
  on_device name is_own later also rest =
      then_makeable c OnRoot (moved_root c on) (IsRoot c on) (first_handle s (named s as_device name)) (first_handle t (named t as_device name)) later also (alike_device c on q s t pair name is_own) rest

  -- the room for an object that isn't of a kind with a limit
  plain_room : (found : Found Device) → IsRoot c on found → Makeable c OnRoot (room s false >> Ok found.place) (room t false >> Ok (moved_root c on found).place)
  plain_room found is = room_makeable OnRoot false false found.place (place_in c found.place) (λ e. e) refl is.1

  pub makeable_video : (name chroma width height : ℕ) → IsOwnName c.own s.objects name → Makeable c OnRoot (video_create s name chroma width height) (video_create t name chroma width height)
  makeable_video name chroma width height is_own =
      let sized : State → Found Device → Looked ℕ = λ st found. size_for width height >>= λ _. room st false >> Ok found.place in
      let later : State → Found Device → Looked ℕ = λ st found. refused_if (not (chroma == CHROMA_420)) BadChroma >> sized st found in
      on_device name is_own (later s) (later t) (λ found is.
      unless c OnRoot (refused_if (not (chroma == CHROMA_420)) BadChroma) (sized s found) (sized t (moved_root c on found))
      (always c OnRoot (size_for width height) (room s false >> Ok found.place) (room t false >> Ok (moved_root c on found).place) (plain_room found is)))

  pub makeable_output : (name format width height : ℕ) → IsOwnName c.own s.objects name → Makeable c OnRoot (output_create s name format width height) (output_create t name format width height)
  makeable_output name format width height is_own =
      let sized : State → Found Device → Looked ℕ = λ st found. size_for width height >>= λ _. room st false >> Ok found.place in
      let later : State → Found Device → Looked ℕ = λ st found. refused_if (not (is_rgba_format format)) BadRgba >> sized st found in
      on_device name is_own (later s) (later t) (λ found is.
      unless c OnRoot (refused_if (not (is_rgba_format format)) BadRgba) (sized s found) (sized t (moved_root c on found))
      (always c OnRoot (size_for width height) (room s false >> Ok found.place) (room t false >> Ok (moved_root c on found).place) (plain_room found is)))

  pub makeable_decoder : (name profile width height max_references : ℕ) → IsOwnName c.own s.objects name
      → Makeable c OnRoot (decoder_create s name profile width height max_references) (decoder_create t name profile width height max_references)
  makeable_decoder name profile width height max_references is_own =
      let many : Bool = nat_lt MAX_REFERENCES max_references in
      let counted : State → Found Device → Looked ℕ = λ st found. refused_if many (BadInfo 0) >> (room st false >> Ok found.place) in
      let sized : State → Found Device → Looked ℕ = λ st found. size_for width height >>= λ _. counted st found in
      let later : State → Found Device → Looked ℕ = λ st found. refused_if (not (is_profile profile)) BadProfile >> sized st found in
      on_device name is_own (later s) (later t) (λ found is.
      unless c OnRoot (refused_if (not (is_profile profile)) BadProfile) (sized s found) (sized t (moved_root c on found))
      (always c OnRoot (size_for width height) (counted s found) (counted t (moved_root c on found))
      (unless c OnRoot (refused_if many (BadInfo 0)) (room s false >> Ok found.place) (room t false >> Ok (moved_root c on found).place) (plain_room found is))))

  pub makeable_mixer : (name width height : ℕ) → IsOwnName c.own s.objects name → Makeable c OnRoot (mixer_create s name width height) (mixer_create t name width height)
  makeable_mixer name width height is_own =
      let later : State → Found Device → Looked ℕ = λ st found. size_for width height >>= λ _. room st false >> Ok found.place in
      on_device name is_own (later s) (later t) (λ found is.
      always c OnRoot (size_for width height) (room s false >> Ok found.place) (room t false >> Ok (moved_root c on found).place) (plain_room found is))

  pub makeable_queue : (name : ℕ) → IsOwnName c.own s.objects name → Makeable c OnRoot (queue_create s name) (queue_create t name)
  makeable_queue name is_own =
      let later : State → Found Device → Looked ℕ = λ st found. room st (live_queues st == MAX_QUEUES) >> Ok found.place in
      on_device name is_own (later s) (later t) (λ found is.
      room_makeable OnRoot (live_queues s == MAX_QUEUES) (live_queues t == MAX_QUEUES) found.place (place_in c found.place) not_full-queues refl is.1)

  -- the device's own creation
  pub makeable_device : length t.objects ≡ place_in c (length s.objects) → Makeable c (λ place. Unit {0}) (device_create s) (device_create t)
  makeable_device is = room_makeable (λ place. Unit {0}) (live_devices s == MAX_DEVICES) (live_devices t == MAX_DEVICES) (length s.objects) (length t.objects) not_full-devices is tt

  -- ---- what is made

  module _ (new : State) (reply : Reply) (not_full_said : is_out_of_handles reply ≡ false) where
    made_too : (IsContent : Content → Type 0) → ((content : Content) → IsContent content → moved_content c content ≡ content) → (a : ℕ) → c.own (length s.objects) ≡ true
        → Makes s reply new a IsContent → Too c on q s t pair new reply (λ u. Makes t reply u (place_in c a) IsContent)
    made_too IsContent moves a own p =
        let one : Object = record { name = p.name; device = a; is_live = true; content = p.content } in
        let there : Object = record { name = p.name; device = place_in c a; is_live = true; content = p.content } in
        let same : moved_object c one ≡ there = ap (λ content. record { name = p.name; device = place_in c a; is_live = true; content = content }) (moves p.content p.is_content) in
        let free : is_given t p.name ≡ false =
        ap (list_any (λ (object : Object). object.name == p.name)) pair.objects
        ∙ none-kept (moved_object c) (λ object. object.name == p.name) (λ object. object.name == p.name) (λ object. refl) c.own s.objects p.fresh in
        let does : Makes t reply (with_object t there) (place_in c a) IsContent = record {
          name = p.name;
          content = p.content;
          is_content = p.is_content;
          kind = p.kind;
          fresh = free;
          tells = p.tells;
          after = refl;
        } in
        let objects : t.objects ++ there ∷ [] ≡ part_of c (s.objects ++ one ∷ []) =
        (λ i. pair.objects i ++ sym same i ∷ []) ∙ sym (kept-more (moved_object c) c.own s.objects one own) in
        let after : After c q t (with_object s one) (with_object t there) = record { objects = objects; notes = pair.notes; items = refl } in
        (with_object t there, does, subst (λ u. After c q t u (with_object t there)) (sym p.after) after)

    full_not_said : (refusal : Refusal) → reply ≡ Err refusal → is_out_of_handles (Err refusal) ≡ true → ⊥
    full_not_said refusal is full = false≢true (sym not_full_said ∙ (ap is_out_of_handles is ∙ full))

    pub creates_too : (Own : ℕ → Type 0) (m n : Looked ℕ) (IsContent : Content → Type 0) → ((content : Content) → IsContent content → moved_content c content ≡ content) → Makeable c Own m n
        → ((a : ℕ) (one : Object) → Own a → one.device ≡ a → new ≡ with_object s one → c.own (length s.objects) ≡ true)
        → Creates s reply new m IsContent → Too c on q s t pair new reply (λ u. Creates t reply u n IsContent)
    creates_too Own (Ok a) n IsContent moves is own (inr p) = absurd (full_not_said (handles_full s) p.1.0 refl)
    creates_too Own (Ok a) n IsContent moves is own (inl p) =
        let found = is.found a refl in
        let one : Object = record { name = p.name; device = a; is_live = true; content = p.content } in
        let r = made_too IsContent moves a (own a one found.1 refl p.after) p in
        (r.0, subst (λ l. Goes t reply r.0 l (λ device. Makes t reply r.0 device IsContent ⊎ MayBeFull t reply r.0)) (sym found.0) (inl r.1), r.2)
    creates_too Own (Err refusal) n IsContent moves is own p = elim (is.refused refusal refl) [
      | inl full ↦ absurd (full_not_said refusal p.0 full)
      | inr same ↦ (t, subst (λ l. Goes t reply t l (λ device. Makes t reply t device IsContent ⊎ MayBeFull t reply t)) (sym same) (p.0, refl), stays c on q s t pair new reply p.1)
    ]

    -- on a device, whose objects are those of the new state
    pub own_new : AreOf c.own on new.objects → (a : ℕ) (one : Object) → OnRoot a → one.device ≡ a → new ≡ with_object s one → c.own (length s.objects) ≡ true
    own_new are a one root device is =
        let stands : slice_get new.objects (length s.objects) ≡ Some one = ap (λ (u : State). slice_get u.objects (length s.objects)) is ∙ get-last s.objects one in
        are (length s.objects) one stands ∙ eq-eqb one.device on (device ∙ root)
