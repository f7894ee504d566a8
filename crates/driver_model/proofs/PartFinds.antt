-- What the calls of the part about a device look at: each look finds there what it finds in the whole, and this is the device's own.
use Rattle.std.proofs.Common.{◌≡◌, ℕ, ◌==◌, nat_le, Bool, not, ◌&&◌, Option, Some, None, Ok, Err, refl, ap, sym, ◌∙◌, subst}
use Rattle.std.specs.Option.{ok_or, option_map}
use Rattle.present_queue.specs.Queue.{answer_to_display}
use Rattle.vd_status.specs.declared.refusal.Refusal.{Refusal}
use Rattle.vd_status.specs.declared.refusal.Refusal.TheVariants.{BadSize, BadStructure, BadYCbCr, InvalidHandle, TimeNotAfter}
use Rattle.driver_model.specs.Clock.{advance, device, device_destroy}
use Rattle.driver_model.specs.Mixes.{Mixing, mix}
use Rattle.driver_model.specs.Objects.{Content, Device, VideoSurface, OutputSurface, PresentationQueue, VideoMixer, as_device, as_mixer, as_output, as_queue, as_video}
use Rattle.driver_model.specs.Queues.{QueueAndSurface, presented, queue, queue_display}
use Rattle.driver_model.specs.Refusals.{Looked, ◌>>=◌, ◌>>◌, first_handle, further_handle, in_use, refused_if}
use Rattle.driver_model.specs.Sizes.{is_same_size, is_ycbcr_format, pixel_bytes, sample_bytes}
use Rattle.driver_model.specs.States.{State, Found, named}
use Rattle.driver_model.specs.Surfaces.{output, output_bits, video, video_bits}
use Rattle.driver_model.specs.declared.numbers.TheConstants.{FRAME}
use Rattle.driver_model.proofs.Looks.{err_not_ok, in_use-Ok, ok_is}
use Rattle.driver_model.proofs.PartContents.{Moves, answer-moved, device_moves, mixer_moves, moved_output, moved_presentation, output_moves, queue_moves, video_moves}
use Rattle.driver_model.proofs.PartLooks.{IsOwnFound, IsOwnName, moved_found, moved_look, own_found, own_root, part-further, part-named, part-use}
use Rattle.driver_model.proofs.PartPlaces.{Cut, place_in}
use Rattle.driver_model.proofs.PartStates.{Pair}
use Rattle.driver_model.proofs.SoundLooks.{further-Ok}

-- A look in the whole and one in the part find the same, and what they find is so.
pub record Alike {A B : Type 0} (f : A → B) (Own : A → Type 0) (m : Looked A) (n : Looked B) : Type 0 where
  pub same : n ≡ moved_look f m
  pub own : (a : A) → m ≡ Ok a → Own a

pub ok_alike : {A B : Type 0} (f : A → B) (Own : A → Type 0) (a : A) → Own a → Alike f Own (Ok a) (Ok (f a))
ok_alike f Own a own = record { same = refl; own = λ b e. subst Own (ok_is a b e) own }

pub then_alike : {A B C D : Type 0} (f : A → C) (P : A → Type 0) (g : B → D) (Q : B → Type 0) (m : Looked A) (n : Looked C) (later : A → Looked B) (also : C → Looked D)
    → Alike f P m n → ((a : A) → P a → Alike g Q (later a) (also (f a))) → Alike g Q (m >>= later) (n >>= also)
then_alike f P g Q (Ok a) n later also is rest =
    let behind = rest a (is.own a refl) in
    record { same = ap (λ l. l >>= also) is.same ∙ behind.same; own = behind.own }
then_alike f P g Q (Err refusal) n later also is rest = record { same = ap (λ l. l >>= also) is.same; own = λ b e. absurd (err_not_ok refusal b e) }

pub guard_alike : {B D : Type 0} (g : B → D) (Q : B → Type 0) (m : Looked (Unit {0})) (later : Looked B) (also : Looked D) → Alike g Q later also → Alike g Q (m >> later) (m >> also)
guard_alike g Q (Ok nothing) later also is = is
guard_alike g Q (Err refusal) later also is = record { same = refl; own = λ b e. absurd (err_not_ok refusal b e) }

-- what the looks find, as the part has it, and that it is the device's own
module _ (c : Cut) (on : ℕ) where
  -- the device itself
  abbrev pub IsRoot : Found Device → Type 0
  IsRoot found = IsOwnFound c on found × (found.place ≡ on)

  abbrev pub moved_root : Found Device → Found Device
  moved_root found = moved_found c (λ (of : Device). of) found

  abbrev pub moved_pair : QueueAndSurface → QueueAndSurface
  moved_pair pair = record { queue = moved_found c (moved_presentation c) pair.queue; surface = moved_found c (moved_output c) pair.surface }

  abbrev pub AreOwn : QueueAndSurface → Type 0
  AreOwn pair = IsOwnFound c on pair.queue × IsOwnFound c on pair.surface

  abbrev pub moved_mixing : Mixing → Mixing
  moved_mixing found = record {
    mixer = moved_found c (λ (of : VideoMixer). of) found.mixer;
    video = moved_found c (λ (of : VideoSurface). of) found.video;
    output = moved_found c (moved_output c) found.output;
  }

  abbrev pub IsOwnMixing : Mixing → Type 0
  IsOwnMixing mixing = IsOwnFound c on mixing.video × IsOwnFound c on mixing.output

module _ (c : Cut) (on : ℕ) (q : ℕ → Option ℕ) (s t : State) (pair : Pair c on q s t) where
  -- ---- handles

  module _ {T : Type 0} (as_kind : Content → Option T) (move : T → T) (moves : Moves c as_kind move) where
    pub alike_use : (arg name : ℕ) → IsOwnName c.own s.objects name → Alike (moved_found c move) (IsOwnFound c on) (in_use s arg (named s as_kind name)) (in_use t arg (named t as_kind name))
    alike_use arg name is_own = record {
      same = part-use c on s pair.are_of pair.rooted as_kind move moves t pair.objects arg name is_own;
      own = λ found e. own_found c on s pair.are_of pair.rooted as_kind name found is_own (in_use-Ok s arg (named s as_kind name) found e);
    }

    pub alike_first : (name : ℕ) → IsOwnName c.own s.objects name → Alike (moved_found c move) (IsOwnFound c on) (first_handle s (named s as_kind name)) (first_handle t (named t as_kind name))
    alike_first name is_own = alike_use 0 name is_own

    pub alike_further : (arg device name : ℕ) → IsOwnName c.own s.objects name
        → Alike (moved_found c move) (IsOwnFound c on) (further_handle arg device (named s as_kind name)) (further_handle arg (place_in c device) (named t as_kind name))
    alike_further arg device name is_own = record {
      same = part-further c on s pair.are_of pair.rooted as_kind move moves t pair.objects arg device name is_own;
      own = λ found e. own_found c on s pair.are_of pair.rooted as_kind name found is_own (further-Ok arg device (named s as_kind name) found e).0;
    }

  -- ---- surfaces

  pub alike_video_bits : (name format count : ℕ) → IsOwnName c.own s.objects name → Alike (moved_found c (λ (of : VideoSurface). of)) (IsOwnFound c on) (video_bits s name format count) (video_bits t name format count)
  alike_video_bits name format count is_own =
      let f : Found VideoSurface → Found VideoSurface = moved_found c (λ (of : VideoSurface). of) in
      let sized : Found VideoSurface → Looked (Found VideoSurface) = λ at. refused_if (not (count == sample_bytes at.value.size)) BadSize >> Ok at in
      let later : Found VideoSurface → Looked (Found VideoSurface) = λ at. refused_if (not (is_ycbcr_format format)) BadYCbCr >> sized at in
      then_alike f (IsOwnFound c on) f (IsOwnFound c on) (video s name) (video t name) later later (alike_first as_video (λ of. of) (video_moves c) name is_own)
      (λ a own.
      guard_alike f (IsOwnFound c on) (refused_if (not (is_ycbcr_format format)) BadYCbCr) (sized a) (sized (f a))
      (guard_alike f (IsOwnFound c on) (refused_if (not (count == sample_bytes a.value.size)) BadSize) (Ok a) (Ok (f a)) (ok_alike f (IsOwnFound c on) a own)))

  pub alike_output_bits : (name count : ℕ) → IsOwnName c.own s.objects name → Alike (moved_found c (moved_output c)) (IsOwnFound c on) (output_bits s name count) (output_bits t name count)
  alike_output_bits name count is_own =
      let f : Found OutputSurface → Found OutputSurface = moved_found c (moved_output c) in
      let later : Found OutputSurface → Looked (Found OutputSurface) = λ at. refused_if (not (count == pixel_bytes at.value.size)) BadSize >> Ok at in
      then_alike f (IsOwnFound c on) f (IsOwnFound c on) (output s name) (output t name) later later (alike_first as_output (moved_output c) (output_moves c) name is_own)
      (λ a own. guard_alike f (IsOwnFound c on) (refused_if (not (count == pixel_bytes a.value.size)) BadSize) (Ok a) (Ok (f a)) (ok_alike f (IsOwnFound c on) a own))

  -- ---- devices

  pub alike_device : (name : ℕ) → IsOwnName c.own s.objects name → Alike (moved_root c on) (IsRoot c on) (first_handle s (named s as_device name)) (first_handle t (named t as_device name))
  alike_device name is_own =
      let is = alike_first as_device (λ of. of) (device_moves c) name is_own in
      record {
        same = is.same;
        own = λ found e. (is.own found e, own_root c on s pair.are_of pair.rooted name found is_own (in_use-Ok s 0 (named s as_device name) found e));
      }

  ok_or_moved : (found : Option (Found Device)) (refusal : Refusal) → ok_or (option_map (moved_root c on) found) refusal ≡ moved_look (moved_root c on) (ok_or found refusal)
  ok_or_moved None refusal = refl
  ok_or_moved (Some f) refusal = refl

  ok_or-Ok : (found : Option (Found Device)) (refusal : Refusal) (f : Found Device) → ok_or found refusal ≡ Ok f → found ≡ Some f
  ok_or-Ok None refusal f e = absurd (err_not_ok refusal f e)
  ok_or-Ok (Some g) refusal f e = ap (λ (x : Found Device). Some x) (ok_is g f e)

  pub alike_destroy : (name : ℕ) → IsOwnName c.own s.objects name → Alike (moved_root c on) (IsRoot c on) (device_destroy s name) (device_destroy t name)
  alike_destroy name is_own = record {
    same = ap (λ (o : Option (Found Device)). ok_or o (InvalidHandle 0)) (part-named c as_device (λ of. of) (device_moves c) s t name pair.objects is_own) ∙ ok_or_moved (named s as_device name) (InvalidHandle 0);
    own = λ found e.
        let named_so = ok_or-Ok (named s as_device name) (InvalidHandle 0) found e in
        (own_found c on s pair.are_of pair.rooted as_device name found is_own named_so, own_root c on s pair.are_of pair.rooted name found is_own named_so);
  }

  pub alike_advance : (name time : ℕ) → IsOwnName c.own s.objects name → Alike (moved_root c on) (IsRoot c on) (advance s name time) (advance t name time)
  alike_advance name time is_own =
      let later : Found Device → Looked (Found Device) = λ at. refused_if (nat_le time at.value.time) (TimeNotAfter at.value.time) >> Ok at in
      then_alike (moved_root c on) (IsRoot c on) (moved_root c on) (IsRoot c on) (device s name) (device t name) later later (alike_device name is_own)
      (λ a own. guard_alike (moved_root c on) (IsRoot c on) (refused_if (nat_le time a.value.time) (TimeNotAfter a.value.time)) (Ok a) (Ok ((moved_root c on) a)) (ok_alike (moved_root c on) (IsRoot c on) a own))

  -- ---- queues

  abbrev pair_of : Found PresentationQueue → Found OutputSurface → QueueAndSurface
  pair_of one other = record { queue = one; surface = other }

  pub alike_presented : (name surface : ℕ) → IsOwnName c.own s.objects name → IsOwnName c.own s.objects surface → Alike (moved_pair c on) (AreOwn c on) (presented s name surface) (presented t name surface)
  alike_presented name surface is_own surface_own =
      let f : Found PresentationQueue → Found PresentationQueue = moved_found c (moved_presentation c) in
      let g : Found OutputSurface → Found OutputSurface = moved_found c (moved_output c) in
      let inner : Found PresentationQueue → Found OutputSurface → Looked QueueAndSurface = λ one other. Ok (pair_of one other) in
      let behind : State → Found PresentationQueue → Looked QueueAndSurface = λ st one. further_handle 1 one.device (named st as_output surface) >>= inner one in
      then_alike f (IsOwnFound c on) (moved_pair c on) (AreOwn c on) (queue s name) (queue t name) (behind s) (behind t) (alike_first as_queue (moved_presentation c) (queue_moves c) name is_own)
      (λ one own.
      then_alike g (IsOwnFound c on) (moved_pair c on) (AreOwn c on) (further_handle 1 one.device (named s as_output surface)) (further_handle 1 (place_in c one.device) (named t as_output surface)) (inner one) (inner (f one))
      (alike_further as_output (moved_output c) (output_moves c) 1 one.device surface surface_own)
      (λ other own_too. ok_alike (moved_pair c on) (AreOwn c on) (pair_of one other) (own, own_too)))

  pub alike_display : (name surface earliest : ℕ) → IsOwnName c.own s.objects name → IsOwnName c.own s.objects surface → Alike (moved_pair c on) (AreOwn c on) (queue_display s name surface earliest) (queue_display t name surface earliest)
  alike_display name surface earliest is_own surface_own =
      let later : QueueAndSurface → Looked QueueAndSurface = λ at. answer_to_display at.queue.value.queue earliest >> Ok at in
      then_alike (moved_pair c on) (AreOwn c on) (moved_pair c on) (AreOwn c on) (presented s name surface) (presented t name surface) later later (alike_presented name surface is_own surface_own)
      (λ a own.
      subst (λ (l : Looked (Unit {0})). Alike (moved_pair c on) (AreOwn c on) (answer_to_display a.queue.value.queue earliest >> Ok a) (l >> Ok ((moved_pair c on) a))) (sym (answer-moved c a.queue.value.queue earliest))
      (guard_alike (moved_pair c on) (AreOwn c on) (answer_to_display a.queue.value.queue earliest) (Ok a) (Ok ((moved_pair c on) a)) (ok_alike (moved_pair c on) (AreOwn c on) a own)))

  -- ---- mixes

  abbrev mixing_of : Found VideoMixer → Found VideoSurface → Found OutputSurface → Mixing
  mixing_of one two three = record { mixer = one; video = two; output = three }

  pub alike_mix : (handle structure surface onto : ℕ) → IsOwnName c.own s.objects handle → IsOwnName c.own s.objects surface → IsOwnName c.own s.objects onto
      → Alike (moved_mixing c on) (IsOwnMixing c on) (mix s handle structure surface onto) (mix t handle structure surface onto)
  alike_mix handle structure surface onto handle_own surface_own onto_own =
      let f : Found VideoMixer → Found VideoMixer = moved_found c (λ (of : VideoMixer). of) in
      let g : Found VideoSurface → Found VideoSurface = moved_found c (λ (of : VideoSurface). of) in
      let h : Found OutputSurface → Found OutputSurface = moved_found c (moved_output c) in
      let fit : Found VideoMixer → Found VideoSurface → Found OutputSurface → Bool = λ one two three. not (is_same_size one.value.size two.value.size && is_same_size one.value.size three.value.size) in
      let sized : Found VideoMixer → Found VideoSurface → Found OutputSurface → Looked Mixing = λ one two three. refused_if (fit one two three) BadSize >> Ok (mixing_of one two three) in
      let last : Found VideoMixer → Found VideoSurface → Found OutputSurface → Looked Mixing = λ one two three. refused_if (not (structure == FRAME)) BadStructure >> sized one two three in
      let third : State → Found VideoMixer → Found VideoSurface → Looked Mixing = λ st one two. further_handle 2 one.device (named st as_output onto) >>= last one two in
      let second : State → Found VideoMixer → Looked Mixing = λ st one. further_handle 1 one.device (named st as_video surface) >>= third st one in
      then_alike f (IsOwnFound c on) (moved_mixing c on) (IsOwnMixing c on) (first_handle s (named s as_mixer handle)) (first_handle t (named t as_mixer handle)) (second s) (second t) (alike_first as_mixer (λ of. of) (mixer_moves c) handle handle_own)
      (λ one own.
      then_alike g (IsOwnFound c on) (moved_mixing c on) (IsOwnMixing c on) (further_handle 1 one.device (named s as_video surface)) (further_handle 1 (place_in c one.device) (named t as_video surface)) (third s one) (third t (f one))
      (alike_further as_video (λ of. of) (video_moves c) 1 one.device surface surface_own)
      (λ two two_own.
      then_alike h (IsOwnFound c on) (moved_mixing c on) (IsOwnMixing c on) (further_handle 2 one.device (named s as_output onto)) (further_handle 2 (place_in c one.device) (named t as_output onto)) (last one two) (last (f one) (g two))
      (alike_further as_output (moved_output c) (output_moves c) 2 one.device onto onto_own)
      (λ three three_own.
      guard_alike (moved_mixing c on) (IsOwnMixing c on) (refused_if (not (structure == FRAME)) BadStructure) (sized one two three) (sized (f one) (g two) (h three))
      (guard_alike (moved_mixing c on) (IsOwnMixing c on) (refused_if (fit one two three) BadSize) (Ok (mixing_of one two three)) (Ok (mixing_of (f one) (g two) (h three))) (ok_alike (moved_mixing c on) (IsOwnMixing c on) (mixing_of one two three) (two_own, three_own))))))
