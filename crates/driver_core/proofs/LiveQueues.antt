-- How many queues live.
use Rattle.std.proofs.Common.{◌≡◌, ℕ, ◌<◌, ◌==◌, ◌&&◌, ◌||◌, Bool, true, false, true≢false, if◌then◌else◌, List, [], ◌∷◌, ◌++◌, length, slice_get, Option, Some, None, refl, sym, ap, ◌∙◌, arith}
use Rattle.std.specs.List.{cons_option, count_by, filter_map, list_any}
use Rattle.std.specs.Option.{is_some}
use Rattle.std.proofs.lemmas.Option.{none-some}
use Rattle.present_queue.specs.Queue.{Queue, empty_queue, holds, is_queued, is_shown, shows}
use Rattle.present_queue.specs.Queues.{Surface}
use Rattle.driver_model.specs.Creates.{live_queues, new_queue}
use Rattle.driver_model.specs.Kept.{is_in_queue, live_queue}
use Rattle.driver_model.specs.Objects as model
use Rattle.driver_model.specs.States.{State, with_object}
use Rattle.driver_objects.specs.Kept.{kept_of}
use Rattle.driver_objects.specs.Kinds.{has_number, is_queue, number_of}
use Rattle.driver_objects.specs.declared.content.Content.{Content}
use Rattle.driver_objects.specs.declared.content.Content.TheVariants as content
use Rattle.driver_objects.specs.declared.object.Object.{Object}
use Rattle.driver_objects.proofs.OwnNumbers.{has_number_is, number_has}
use Rattle.driver_objects.proofs.Lists.{any_append, any_at, some_passes}
use Rattle.driver_objects.proofs.Numbers.{count_ge, count_le, count_lt, length_filtered}
use Rattle.driver_core.specs.Added.{made_in}
use Rattle.driver_core.specs.Stands.{IsContent, Stands}
use Rattle.driver_core.specs.declared.driver.Core.{Core}
use Rattle.driver_core.proofs.DeadQueues.{dead_number}
use Rattle.driver_core.proofs.Live.{live_counted}

queues_agree : (queues : List (Queue Surface)) (owed : Bool) (what : model.Content) (kept : Content) → IsContent queues owed what kept → is_some (model.as_queue what) ≡ is_queue kept
queues_agree queues owed (model.DeviceObject of) (content.Device kept) is = refl
queues_agree queues owed (model.DeviceObject of) (content.Video kept) is = elim is [ ]
queues_agree queues owed (model.DeviceObject of) (content.Output kept) is = elim is [ ]
queues_agree queues owed (model.DeviceObject of) (content.Decoder kept) is = elim is [ ]
queues_agree queues owed (model.DeviceObject of) (content.Mixer kept) is = elim is [ ]
queues_agree queues owed (model.DeviceObject of) (content.Queue kept) is = elim is [ ]
queues_agree queues owed (model.VideoObject of) (content.Device kept) is = elim is [ ]
queues_agree queues owed (model.VideoObject of) (content.Video kept) is = refl
queues_agree queues owed (model.VideoObject of) (content.Output kept) is = elim is [ ]
queues_agree queues owed (model.VideoObject of) (content.Decoder kept) is = elim is [ ]
queues_agree queues owed (model.VideoObject of) (content.Mixer kept) is = elim is [ ]
queues_agree queues owed (model.VideoObject of) (content.Queue kept) is = elim is [ ]
queues_agree queues owed (model.OutputObject of) (content.Device kept) is = elim is [ ]
queues_agree queues owed (model.OutputObject of) (content.Video kept) is = elim is [ ]
queues_agree queues owed (model.OutputObject of) (content.Output kept) is = refl
queues_agree queues owed (model.OutputObject of) (content.Decoder kept) is = elim is [ ]
queues_agree queues owed (model.OutputObject of) (content.Mixer kept) is = elim is [ ]
queues_agree queues owed (model.OutputObject of) (content.Queue kept) is = elim is [ ]
queues_agree queues owed (model.DecoderObject of) (content.Device kept) is = elim is [ ]
queues_agree queues owed (model.DecoderObject of) (content.Video kept) is = elim is [ ]
queues_agree queues owed (model.DecoderObject of) (content.Output kept) is = elim is [ ]
queues_agree queues owed (model.DecoderObject of) (content.Decoder kept) is = refl
queues_agree queues owed (model.DecoderObject of) (content.Mixer kept) is = elim is [ ]
queues_agree queues owed (model.DecoderObject of) (content.Queue kept) is = elim is [ ]
queues_agree queues owed (model.MixerObject of) (content.Device kept) is = elim is [ ]
queues_agree queues owed (model.MixerObject of) (content.Video kept) is = elim is [ ]
queues_agree queues owed (model.MixerObject of) (content.Output kept) is = elim is [ ]
queues_agree queues owed (model.MixerObject of) (content.Decoder kept) is = elim is [ ]
queues_agree queues owed (model.MixerObject of) (content.Mixer kept) is = refl
queues_agree queues owed (model.MixerObject of) (content.Queue kept) is = elim is [ ]
queues_agree queues owed (model.QueueObject of) (content.Device kept) is = elim is [ ]
queues_agree queues owed (model.QueueObject of) (content.Video kept) is = elim is [ ]
queues_agree queues owed (model.QueueObject of) (content.Output kept) is = elim is [ ]
queues_agree queues owed (model.QueueObject of) (content.Decoder kept) is = elim is [ ]
queues_agree queues owed (model.QueueObject of) (content.Mixer kept) is = elim is [ ]
queues_agree queues owed (model.QueueObject of) (content.Queue kept) is = refl

-- the number of a live queue
abbrev pub live_number : Object → Option ℕ
live_number object = if object.is_live then number_of object.content else None

has_some : (object : Object) → is_some (live_number object) ≡ (object.is_live && is_queue object.content)
has_some object = by_life object.is_live object.content where
  by_life : (b : Bool) (what : Content) → is_some (if b then number_of what else None) ≡ (b && is_queue what)
  by_life false what = refl
  by_life true (content.Device of) = refl
  by_life true (content.Video of) = refl
  by_life true (content.Output of) = refl
  by_life true (content.Decoder of) = refl
  by_life true (content.Mixer of) = refl
  by_life true (content.Queue of) = refl

number_if_live : (object : Object) (number : ℕ) → live_number object ≡ Some number → number_of object.content ≡ Some number
number_if_live object number is = by_life object.is_live is where
  by_life : (b : Bool) → (if b then number_of object.content else None) ≡ Some number → number_of object.content ≡ Some number
  by_life true is = is
  by_life false is = absurd (none-some number is)

module _ (core : Core) where
  abbrev live_numbers : List ℕ
  live_numbers = filter_map live_number (kept_of core.objects)

  apart : (i j : ℕ) (a b : Object) (number : ℕ) → slice_get (kept_of core.objects) i ≡ Some a → slice_get (kept_of core.objects) j ≡ Some b → live_number a ≡ Some number → live_number b ≡ Some number → i ≡ j
  apart i j a b number at bt ia ib = core.sound.numbers_apart i j a b number at bt (number_if_live a number ia) (number_if_live b number ib)

  below : (i : ℕ) (object : Object) (number : ℕ) → slice_get (kept_of core.objects) i ≡ Some object → live_number object ≡ Some number → number < 64
  below i object number at is = core.sound.numbers i object number at (number_if_live object number is)

  counted : (d : State) → Stands core d → length live_numbers ≡ live_queues d
  counted d stands =
      length_filtered live_number (kept_of core.objects)
      ∙ ((λ i. count_by (λ (o : Object). has_some o i) (kept_of core.objects)) ∙ live_counted core d stands (λ what. is_some (model.as_queue what)) is_queue queues_agree)

  -- where each number is taken there are as many as there can be
  pub queues_full : ((number : ℕ) → number < 64 → list_any (has_number number) (kept_of core.objects) ≡ true) → (d : State) → Stands core d → live_queues d ≡ 64
  queues_full taken d stands =
      let most = count_le live_number (kept_of core.objects) apart 64 below in
      let least = count_ge live_number (kept_of core.objects) 64 (λ number within.
      let s = some_passes (has_number number) (kept_of core.objects) (taken number within) in
      let is = has_number_is number s.1 s.3 in
      let live = dead_number core s.0 s.1 number s.2 is in
      (s.0, s.1, s.2, ap (λ b. if b then number_of s.1.content else None) live ∙ is)) in
      let same = counted d stands in
      omega (arith, most, least, same)

  -- where one is free there are fewer
  pub queues_few : (number : ℕ) → number < 64 → list_any (has_number number) (kept_of core.objects) ≡ false → (d : State) → Stands core d → live_queues d < 64
  queues_few number within free d stands =
      let fewer = count_lt live_number (kept_of core.objects) apart 64 below number within (λ i object at is. true≢false (sym (any_at (has_number number) (kept_of core.objects) i object at (number_has number object (number_if_live object number is))) ∙ free)) in
      let same = counted d stands in
      omega (arith, fewer, same)

-- ---- a queue more, which is empty

one_more : (objects : List model.Object) (one : model.Object) (queue : Queue ℕ) → live_queue one ≡ Some queue → filter_map live_queue (objects ++ one ∷ []) ≡ filter_map live_queue objects ++ queue ∷ []
one_more [] one queue is = ap (λ q. cons_option q []) is
one_more (first ∷ later) one queue is = by_first (live_queue first) (one_more later one queue is) where
  by_first : (o : Option (Queue ℕ)) → filter_map live_queue (later ++ one ∷ []) ≡ filter_map live_queue later ++ queue ∷ [] → cons_option o (filter_map live_queue (later ++ one ∷ [])) ≡ cons_option o (filter_map live_queue later) ++ queue ∷ []
  by_first None rest = rest
  by_first (Some q) rest = ap (λ qs. q ∷ qs) rest

pub empty_added : (d : State) (device : Option ℕ) (window name place : ℕ) → is_in_queue (with_object d (made_in d name device (new_queue window))) place ≡ is_in_queue d place
empty_added d device window name place =
    let more = one_more d.objects (made_in d name device (new_queue window)) empty_queue refl in
    let queued = any_append (holds (λ p. p == place)) (filter_map live_queue d.objects) empty_queue in
    let shown = any_append (shows (λ p. p == place)) (filter_map live_queue d.objects) empty_queue in
    ap (λ qs. is_queued (λ p. p == place) qs || is_shown (λ p. p == place) qs) more
    ∙ (λ i. queued i || shown i)
    ∙ both (is_queued (λ p. p == place) (filter_map live_queue d.objects)) (is_shown (λ p. p == place) (filter_map live_queue d.objects))
  where
    both : (a b : Bool) → ((a || false) || (b || false)) ≡ (a || b)
    both true b = refl
    both false true = refl
    both false false = refl
