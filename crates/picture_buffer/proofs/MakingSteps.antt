-- What the creates of a new buffer's driver make.
use Rattle.std.proofs.Common.{◌≡◌, ◌≢◌, ◌⊎◌, inl, inr, ℕ, ◌+◌, ◌*◌, ◌<◌, ◌≤◌, ◌==◌, nat_lt, true, false, not, List, [], length, Option, Some, Result, Ok, Err, IfOk, refl, ap, sym, ◌∙◌, subst, arith, length-append, get_or-set_other, get_or-set_same}
use Rattle.std.proofs.Math.ListN.{set}
use Rattle.std.proofs.lemmas.Bool.{cases_eq, cases_lt}
use Rattle.cb_types.specs.SizeMbs.{luma_height, luma_width}
use Rattle.cb_types.specs.declared.size.SizeMbs.{SizeMbs}
use Rattle.handle_table.specs.Name.{kind_of}
use Rattle.vd_plane.specs.Picture.{HasSize, IsZeros}
use Rattle.vd_plane.specs.declared.picture.Picture.{Picture}
use Rattle.vd_status.specs.declared.refusal.Refusal.{Refusal}
use Rattle.vd_status.specs.declared.refusal.Refusal.TheVariants.{BadChroma, BadInfo, BadProfile}
use Rattle.driver_model.specs.Answers.{Reply}
use Rattle.driver_model.specs.Creates.{Creates, IsNewVideo, decoder_create, device_create, new_decoder, new_device, room, video_create}
use Rattle.driver_model.specs.Objects.{Content, Decoder, Device, Object, VideoSurface, as_decoder, as_device, as_video, kind_number}
use Rattle.driver_model.specs.Refusals.{Looked, ◌>>=◌, ◌>>◌, first_handle, refused_if}
use Rattle.driver_model.specs.Sizes.{is_profile, size_for, size_of_sides, whole_macroblocks}
use Rattle.driver_model.specs.States.{Found, State, empty_state, is_given, named, with_object}
use Rattle.driver_model.specs.Steps.{Does, Step}
use Rattle.driver_model.specs.declared.calls.Call.{Call}
use Rattle.driver_model.specs.declared.calls.Call.TheVariants as call
use Rattle.driver_model.specs.declared.numbers.TheConstants.{CHROMA_420, CONSTRAINED_BASELINE, MAX_REFERENCES}
use Rattle.driver_model.specs.declared.replies.Answer.TheVariants.{Name}
use Rattle.driver_model.proofs.Looks.{first_handle-Ok, ok_is, then_ok, unless_ok}
use Rattle.driver_core.specs.Answered.{Calls, IsAnswer, Takes}
use Rattle.driver_core.specs.Stands.{Stands}
use Rattle.driver_core.specs.declared.answer.CoreAnswer.{CoreAnswer}
use Rattle.driver_core.specs.declared.answer.CoreAnswer.TheVariants.{Now}
use Rattle.driver_core.specs.declared.driver.Core.{Core}
use Rattle.picture_buffer.specs.Buffers.{AreZeros}
use Rattle.picture_buffer.specs.Making.{HasMade, HasSurface, MakesSurface, first_device}
use Rattle.picture_buffer.specs.Renaming.{handle_of}
use Rattle.picture_buffer.specs.Rest.{IsAtRest, NamesSurface, decoder_at, surface_at}
use Rattle.picture_buffer.proofs.MakingFinds.{awake_as_found, found_new, found_still}

-- ---- what a create has done

ok_name : (a b : ℕ) → (let reply : Reply = Ok (Name a) in reply ≡ Ok (Name b)) → b ≡ a
ok_name a b e = cc

ok_not_err : (name : ℕ) (refusal : Refusal) → (let reply : Reply = Ok (Name name) in reply ≡ Err refusal) → ⊥
ok_not_err name refusal e = cc

some_found : {T : Type 0} (a b : Found T) → (let o : Option (Found T) = Some a in o ≡ Some b) → a ≡ b
some_found a b e = cc

-- A create whose answer is this name has added an object of this name on this device, and for such a state the core stands.
pub record IsCreated (new : Core) (d : State) (looked : Looked ℕ) (IsNew : Content → Type 0) (name : ℕ) : Type 0 where
  pub device : ℕ
  pub looks : looked ≡ Ok device
  pub content : Content
  pub is_new : IsNew content
  pub kind : kind_of name ≡ kind_number content
  pub fresh : is_given d name ≡ false
  pub stands : Stands new (with_object d (record { name = name; device = device; is_live = true; content = content }))

module _ (new : Core) (d after : State) (stands : Stands new after) (IsNew : Content → Type 0) (name : ℕ) where
  created : (looked : Looked ℕ) → Creates d (Ok (Name name)) after looked IsNew → IsCreated new d looked IsNew name
  created (Ok device) (inl makes) =
      let same : makes.name ≡ name = ok_name name makes.name makes.tells in
      record {
        device = device;
        looks = refl;
        content = makes.content;
        is_new = makes.is_content;
        kind = subst (λ n. kind_of n ≡ kind_number makes.content) same makes.kind;
        fresh = subst (λ n. is_given d n ≡ false) same makes.fresh;
        stands = subst (λ n. Stands new (with_object d (record { name = n; device = device; is_live = true; content = makes.content }))) same (subst (Stands new) makes.after stands);
      }
  created (Ok device) (inr full) = absurd (ok_not_err name _ full.1.0)
  created (Err refusal) refused = absurd (ok_not_err name refusal refused.0)

module _ (old new : Core) (d : State) (stands : Stands old d) (name : ℕ) (answer : CoreAnswer ℕ) (is : answer ≡ Now (Ok name)) where
  taken : (asked : Call) → Calls old new asked Name answer → Takes new d [] asked (Ok (Name name))
  taken asked calls = subst (IsAnswer new d [] asked Name) is (calls d [] stands)

  done : (asked : Call) (after : State) → Step d [] asked (Ok (Name name)) after → Does d [] asked (Ok (Name name)) after
  done asked after (inl wants) = absurd (ok_not_err name _ wants.1.0)
  done asked after (inr does) = does

  device_created : Calls old new call.DeviceCreate Name answer → IsCreated new d (device_create d) (λ content. content ≡ new_device) name
  device_created calls =
      let t = taken call.DeviceCreate calls in
      created new d t.after t.stands (λ content. content ≡ new_device) name (device_create d) (done call.DeviceCreate t.after t.step)

  decoder_created : (device profile width height references : ℕ) → Calls old new (call.DecoderCreate device profile width height references) Name answer
      → IsCreated new d (decoder_create d device profile width height references) (λ content. content ≡ new_decoder profile width height references) name
  decoder_created device profile width height references calls =
      let asked : Call = call.DecoderCreate device profile width height references in
      let t = taken asked calls in
      created new d t.after t.stands (λ content. content ≡ new_decoder profile width height references) name (decoder_create d device profile width height references) (done asked t.after t.step)

  video_created : (device chroma width height : ℕ) → Calls old new (call.VideoCreate device chroma width height) Name answer
      → IsCreated new d (video_create d device chroma width height) (IsNewVideo width height) name
  video_created device chroma width height calls =
      let asked : Call = call.VideoCreate device chroma width height in
      let t = taken asked calls in
      created new d t.after t.stands (IsNewVideo width height) name (video_create d device chroma width height) (done asked t.after t.step)

-- ---- the device that a create has found

module _ (d : State) (handle : ℕ) (on : Found Device) (is : named d as_device handle ≡ Some on) where
  found_on : (a : Found Device) → first_handle d (named d as_device handle) ≡ Ok a → a ≡ on
  found_on a found = some_found a on (sym (first_handle-Ok d (named d as_device handle) a found) ∙ is)

  decoder_on : (profile width height references place : ℕ) → decoder_create d handle profile width height references ≡ Ok place → place ≡ on.place
  decoder_on profile width height references place looks =
      let roomy : Found Device → Looked ℕ = λ a. room d false >> Ok a.place in
      let few : Found Device → Looked ℕ = λ a. refused_if (nat_lt MAX_REFERENCES references) (BadInfo 0) >> roomy a in
      let sized : Found Device → Looked ℕ = λ a. size_for width height >>= λ size. few a in
      let formed : Found Device → Looked ℕ = λ a. refused_if (not (is_profile profile)) BadProfile >> sized a in
      let first = then_ok (first_handle d (named d as_device handle)) formed place looks in
      let second = unless_ok (refused_if (not (is_profile profile)) BadProfile) (sized first.0) place first.2 in
      let third = then_ok (size_for width height) (λ size. few first.0) place second.1 in
      let fourth = unless_ok (refused_if (nat_lt MAX_REFERENCES references) (BadInfo 0)) (roomy first.0) place third.2 in
      let last = unless_ok (room d false) (Ok first.0.place) place fourth.1 in
      sym (ok_is first.0.place place last.1) ∙ ap (λ (a : Found Device). a.place) (found_on first.0 first.1)

  video_on : (chroma width height place : ℕ) → video_create d handle chroma width height ≡ Ok place → place ≡ on.place
  video_on chroma width height place looks =
      let roomy : Found Device → Looked ℕ = λ a. room d false >> Ok a.place in
      let sized : Found Device → Looked ℕ = λ a. size_for width height >>= λ size. roomy a in
      let formed : Found Device → Looked ℕ = λ a. refused_if (not (chroma == CHROMA_420)) BadChroma >> sized a in
      let first = then_ok (first_handle d (named d as_device handle)) formed place looks in
      let second = unless_ok (refused_if (not (chroma == CHROMA_420)) BadChroma) (sized first.0) place first.2 in
      let third = then_ok (size_for width height) (λ size. roomy first.0) place second.1 in
      let last = unless_ok (room d false) (Ok first.0.place) place third.2 in
      sym (ok_is first.0.place place last.1) ∙ ap (λ (a : Found Device). a.place) (found_on first.0 first.1)

-- ---- sizes

whole_side : (n : ℕ) → whole_macroblocks (16 * n) ≡ n
whole_side n = omega arith

pub sides : (size : SizeMbs) (width height : ℕ) → width ≡ luma_width size → height ≡ luma_height size → size_of_sides width height ≡ size
sides size width height across down =
    let w : whole_macroblocks width ≡ size.width = ap whole_macroblocks across ∙ whole_side size.width in
    let h : whole_macroblocks height ≡ size.height = ap whole_macroblocks down ∙ whole_side size.height in
    λ i. record { width = w i; height = h i }

zeros_sized : (picture : Picture) (size other : SizeMbs) → IsZeros picture other.width other.height → other ≡ size → HasSize picture size
zeros_sized picture size other zeros same = record {
  width = ap (λ a. a.width) zeros.y ∙ ap (λ (z : SizeMbs). 16 * z.width) same;
  height = ap (λ a. a.height) zeros.y ∙ ap (λ (z : SizeMbs). 16 * z.height) same;
}

-- ---- a surface more

module _ (old new : Core) (device decoder : ℕ) (size : SizeMbs) (surfaces : List ℕ) (count : ℕ) (made : HasMade old device decoder size surfaces count)
    (width height : ℕ) (across : width ≡ luma_width size) (down : height ≡ luma_height size) (surface : ℕ)
    (c : IsCreated new made.state (video_create made.state device CHROMA_420 width height) (IsNewVideo width height) surface) where
  abbrev next : State
  next = with_object made.state (record { name = surface; device = c.device; is_live = true; content = c.content })

  abbrev picture : Picture
  picture = c.is_new.0

  new_surface : HasSurface next size surface count
  new_surface =
      let same = sides size width height across down in
      let on : c.device ≡ 0 = video_on made.state device first_device made.has_device CHROMA_420 width height c.device c.looks in
      let value : VideoSurface = record { size = size; picture = picture } in
      let is : as_video c.content ≡ Some value = ap as_video c.is_new.2 ∙ ap (λ (z : SizeMbs). Some (let v : VideoSurface = record { size = z; picture = picture } in v)) same in
      record {
        picture = picture;
        is = record {
          names = found_new as_video surface made.state c.device c.content value c.fresh is ∙ (ap (λ p. Some (surface_at p c.device size picture)) made.many ∙ ap (λ p. Some (surface_at (2 + count) p size picture)) on);
          kind = c.kind ∙ ap kind_number c.is_new.2;
          sized = zeros_sized picture size (size_of_sides width height) c.is_new.1 same;
        };
        zeros = subst (λ (z : SizeMbs). IsZeros picture z.width z.height) same c.is_new.1;
      }

  surface_still : (number : ℕ) → HasSurface made.state size (handle_of surfaces number) number → HasSurface next size (handle_of surfaces number) number
  surface_still number was = record {
    picture = was.picture;
    is = record {
      names = found_still as_video (handle_of surfaces number) made.state _ _ was.is.names;
      kind = was.is.kind;
      sized = was.is.sized;
    };
    zeros = was.zeros;
  }

  surface_more : handle_of surfaces count ≡ surface → HasMade new device decoder size surfaces (count + 1)
  surface_more is_next = record {
    state = next;
    stands = c.stands;
    idle = made.idle;
    has_device = found_still as_device device made.state _ first_device made.has_device;
    decodes = found_still as_decoder decoder made.state _ _ made.decodes;
    many = omega (arith, length-append {A = Object}, made.many);
    each = λ number small.
        elim (cases_eq number count) [
          | inl same ↦ subst (λ n. HasSurface next size (handle_of surfaces n) n) (sym same) (subst (λ h. HasSurface next size h count) (sym is_next) new_surface)
          | inr other ↦ let below : number < count = omega arith in surface_still number (made.each number below)
        ];
  }

pub surface_made : {E : Type 0} (old new : Core) (device : ℕ) (size : SizeMbs) (width height : ℕ) → width ≡ luma_width size → height ≡ luma_height size
    → (answer : CoreAnswer ℕ) → Calls old new (call.VideoCreate device CHROMA_420 width height) Name answer
    → (result : Result ℕ E) → IfOk result (λ handle. answer ≡ Now (Ok handle)) → IfOk result (λ surface. MakesSurface old new device size surface)
surface_made old new device size width height across down answer calls (Ok surface) is = λ decoder count surfaces is_next made.
    surface_more old new device decoder size surfaces count made width height across down surface (video_created old new made.state made.stands surface answer is device CHROMA_420 width height calls) is_next
surface_made old new device size width height across down answer calls (Err wants) is = tt

-- ---- a surface for each number

module _ (core : Core) (device decoder : ℕ) (size : SizeMbs) (count : ℕ) where
  -- What was made is told by the handles of the lowest numbers.
  told_by_lowest : (a b : List ℕ) → ((number : ℕ) → number < count → handle_of a number ≡ handle_of b number) → HasMade core device decoder size a count → HasMade core device decoder size b count
  told_by_lowest a b same made = record {
    state = made.state;
    stands = made.stands;
    idle = made.idle;
    has_device = made.has_device;
    decodes = made.decodes;
    many = made.many;
    each = λ number small. subst (λ h. HasSurface made.state size h number) (same number small) (made.each number small);
  }

-- No handle tells of nothing.
pub none_made : (core : Core) (device decoder : ℕ) (size : SizeMbs) (surfaces : List ℕ) → HasMade core device decoder size [] 0 → HasMade core device decoder size surfaces 0
none_made core device decoder size surfaces = told_by_lowest core device decoder size 0 [] surfaces (λ number small. absurd (omega (arith, small)))

pub one_more_made : (first old new : Core) (device : ℕ) (size : SizeMbs) (surfaces : List ℕ) (count surface : ℕ) → count < length surfaces → MakesSurface old new device size surface
    → ((decoder : ℕ) → HasMade first device decoder size [] 0 → HasMade old device decoder size surfaces count)
    → (decoder : ℕ) → HasMade first device decoder size [] 0 → HasMade new device decoder size (set surfaces count surface) (count + 1)
one_more_made first old new device size surfaces count surface within makes so_far decoder at_first =
    let other : (number : ℕ) → number < count → handle_of surfaces number ≡ handle_of (set surfaces count surface) number =
    λ number small. let apart : number ≢ count = omega (arith, small) in sym (get_or-set_other surfaces count number surface 0 apart) in
    makes decoder count (set surfaces count surface) (get_or-set_same surfaces count surface 0 within)
    (told_by_lowest old device decoder size count surfaces (set surfaces count surface) other (so_far decoder at_first))

-- ---- the device and the decoder

-- The core stands for a state that has the device and nothing else.
pub record HasDevice (core : Core) (device : ℕ) : Type 0 where
  pub state : State
  pub stands : Stands core state
  pub idle : state.notes ≡ []
  pub has_device : named state as_device device ≡ Some first_device
  pub alone : length state.objects ≡ 1

pub device_made : (old new : Core) → Stands old empty_state → (device : ℕ) (answer : CoreAnswer ℕ) → answer ≡ Now (Ok device) → Calls old new call.DeviceCreate Name answer → HasDevice new device
device_made old new stands device answer is calls =
    let c = device_created old new empty_state stands device answer is calls in
    let at_place : c.device ≡ 0 = sym (ok_is 0 c.device c.looks) in
    let is_device : as_device c.content ≡ Some first_device.value = ap as_device c.is_new in
    record {
      state = with_object empty_state (record { name = device; device = c.device; is_live = true; content = c.content });
      stands = c.stands;
      idle = refl;
      has_device = found_new as_device device empty_state c.device c.content first_device.value c.fresh is_device ∙ ap (λ p. Some (let f : Found Device = record { place = 0; device = p; value = first_device.value } in f)) at_place;
      alone = refl;
    }

pub decoder_made : (old new : Core) (size : SizeMbs) (width height : ℕ) → width ≡ luma_width size → height ≡ luma_height size
    → (device decoder : ℕ) (answer : CoreAnswer ℕ) → answer ≡ Now (Ok decoder) → Calls old new (call.DecoderCreate device CONSTRAINED_BASELINE width height MAX_REFERENCES) Name answer
    → HasDevice old device → HasMade new device decoder size [] 0
decoder_made old new size width height across down device decoder answer is calls had =
    let c = decoder_created old new had.state had.stands decoder answer is device CONSTRAINED_BASELINE width height MAX_REFERENCES calls in
    let on : c.device ≡ 0 = decoder_on had.state device first_device had.has_device CONSTRAINED_BASELINE width height MAX_REFERENCES c.device c.looks in
    let value : Decoder = record { profile = CONSTRAINED_BASELINE; size = size; max_references = MAX_REFERENCES } in
    let is_decoder : as_decoder c.content ≡ Some value =
    ap as_decoder c.is_new
    ∙ ap (λ (z : SizeMbs). Some (let v : Decoder = record { profile = CONSTRAINED_BASELINE; size = z; max_references = MAX_REFERENCES } in v)) (sides size width height across down) in
    record {
      state = with_object had.state (record { name = decoder; device = c.device; is_live = true; content = c.content });
      stands = c.stands;
      idle = had.idle;
      has_device = found_still as_device device had.state _ first_device had.has_device;
      decodes = found_new as_decoder decoder had.state c.device c.content value c.fresh is_decoder ∙ (ap (λ p. Some (decoder_at p c.device size)) had.alone ∙ ap (λ p. Some (decoder_at 1 p size)) on);
      many = omega (arith, length-append {A = Object}, had.alone);
      each = λ number small. absurd (omega (arith, small));
    }

-- ---- the whole

module _ (core : Core) (device decoder : ℕ) (size : SizeMbs) (surfaces : List ℕ) (made : HasMade core device decoder size surfaces 17) where
  -- a number above the last has the picture of the first
  picture_by : (number : ℕ) → (number < 17) ⊎ (17 ≤ number) → Picture
  picture_by number (inl small) = (made.each number small).picture
  picture_by number (inr large) = (made.each 0 (omega arith)).picture

  pub pictures_made : ℕ → Picture
  pictures_made number = picture_by number (cases_lt number 17)

  names_by : (number : ℕ) → number < 17 → (side : (number < 17) ⊎ (17 ≤ number)) → NamesSurface made.state (handle_of surfaces number) (2 + number) 0 size (picture_by number side)
  unfolding picture_by
  names_by number small (inl below) = (made.each number below).is
  names_by number small (inr large) = absurd (omega (arith, small, large))

  zeros_by : (number : ℕ) (side : (number < 17) ⊎ (17 ≤ number)) → IsZeros (picture_by number side) size.width size.height
  unfolding picture_by
  zeros_by number (inl small) = (made.each number small).zeros
  zeros_by number (inr large) = (made.each 0 (omega arith)).zeros

  pub zeros_made : AreZeros size pictures_made
  unfolding pictures_made
  zeros_made number small = zeros_by number (cases_lt number 17)

  pub rests_when_made : IsAtRest core decoder surfaces size pictures_made made.state
  unfolding pictures_made
  rests_when_made = record {
    stands = made.stands;
    idle = made.idle;
    device = 0;
    awake = awake_as_found made.state device first_device made.has_device;
    decoder_place = 1;
    decodes = made.decodes;
    place_of = λ number. 2 + number;
    apart = λ one other below above same. omega (arith, same);
    each = λ number small. names_by number small (cases_lt number 17);
  }
