-- How many objects live, in what is kept and in the state.
use Rattle.std.proofs.Common.{◌≡◌, ℕ, suc, [], ◌∷◌, ◌==◌, ◌&&◌, ◌||◌, Bool, true, false, List, map, slice_get, Contains, Some, refl, ap, ◌∙◌, subst, arith}
use Rattle.std.specs.List.{count_by, list_any}
use Rattle.std.specs.Option.{is_some}
use Rattle.std.proofs.lemmas.Bool.Decides.{nat_tests}
use Rattle.present_queue.specs.Queue.{Queue}
use Rattle.present_queue.specs.Queues.{Surface}
use Rattle.driver_model.specs.Creates.{live_objects}
use Rattle.driver_model.specs.Kept.{is_in_queue}
use Rattle.driver_model.specs.Objects as model
use Rattle.driver_model.specs.States.{State, is_given, live_count}
use Rattle.driver_objects.specs.Kept.{kept_of}
use Rattle.driver_objects.specs.Kinds.{is_device}
use Rattle.driver_objects.specs.declared.content.Content.{Content}
use Rattle.driver_objects.specs.declared.content.Content.TheVariants as content
use Rattle.driver_objects.specs.declared.object.Object.{Object}
use Rattle.driver_objects.proofs.Counting.{same_count}
use Rattle.driver_core.specs.Stands.{IsContent, Stands, is_owed}
use Rattle.driver_core.specs.declared.driver.Core.{Core}
use Rattle.driver_core.proofs.Named.{one_at}

module _ (core : Core) (d : State) (stands : Stands core d) (test : model.Content → Bool) (kept_test : Content → Bool)
    (agree : (queues : List (Queue Surface)) (owed : Bool) (content : model.Content) (kept : Content) → IsContent queues owed content kept → test content ≡ kept_test kept) where
  passes_kept : Object → Bool
  passes_kept object = object.is_live && kept_test object.content

  passes : model.Object → Bool
  passes object = object.is_live && test object.content

  -- as many live objects pass the test
  pub live_counted : count_by (λ (object : Object). object.is_live && kept_test object.content) (kept_of core.objects) ≡ live_count d test
  live_counted = same_count (λ (object : Object). object.is_live && kept_test object.content) (λ (object : model.Object). object.is_live && test object.content) (λ (object : Object). object.place) 0 (kept_of core.objects) d.objects (record {
    rising = core.objects.sound.rising;
    least = λ i a at. omega arith;
    there = λ i a at t.
        let k = stands.kept i a at in
        let same : test k.0.content ≡ kept_test a.content = agree core.queues (is_owed d a.place) k.0.content a.content k.3.content in
        (a.place, k.0, omega arith, k.1, grind (arith, same, k.3.live, t));
    back = λ p o at t.
        let live : o.is_live ≡ true = grind (arith, t) in
        let n = stands.needed p o at (ap (λ b. b || is_in_queue d p) live) in
        let k = stands.kept n.0 n.1 n.2 in
        let one : k.0 ≡ o = one_at d.objects p k.0 o (subst (λ q. slice_get d.objects q ≡ Some k.0) n.3 k.1) at in
        let same : test k.0.content ≡ kept_test n.1.content = agree core.queues (is_owed d n.1.place) k.0.content n.1.content k.3.content in
        let passes_one : (k.0.is_live && test k.0.content) ≡ true = ap (λ (x : model.Object). x.is_live && test x.content) one ∙ t in
        (n.0, n.1, n.2, omega (arith, n.3), grind (arith, same, k.3.live, passes_one));
  })

-- a name that isn't in the list of all names was never given
pub not_given : (d : State) (name : ℕ) → (Contains (map (λ (o : model.Object). o.name) d.objects) name → ⊥) → is_given d name ≡ false
not_given d name none = by_list d.objects none where
  by_list : (objects : List model.Object) → (Contains (map (λ (o : model.Object). o.name) objects) name → ⊥) → list_any (λ (o : model.Object). o.name == name) objects ≡ false
  by_list [] absent = refl
  by_list (first ∷ later) absent =
      let other : (first.name ≡ name) → ⊥ = λ e. absent (0, omega arith, e) in
      let rest : list_any (λ (o : model.Object). o.name == name) later ≡ false = by_list later (λ c. absent (suc c.0, omega (arith, c.1), c.2)) in
      grind (arith, nat_tests, other, rest)

and_true : (b : Bool) → b ≡ (b && true)
and_true true = refl
and_true false = refl

-- the numbers of a full table are those of the state
pub live_all : (core : Core) (d : State) → Stands core d → count_by (λ (object : Object). object.is_live) (kept_of core.objects) ≡ live_objects d
live_all core d stands =
    live_with (kept_of core.objects) ∙ live_counted core d stands (λ content. true) (λ kept. true) (λ queues owed content kept is. refl)
  where
    live_with : (kept : List Object) → count_by (λ (object : Object). object.is_live) kept ≡ count_by (λ (object : Object). object.is_live && true) kept
    live_with kept = λ i. count_by (λ (object : Object). and_true object.is_live i) kept

-- ---- live objects of a kind

pub devices_agree : (queues : List (Queue Surface)) (owed : Bool) (what : model.Content) (kept : Content) → IsContent queues owed what kept → is_some (model.as_device what) ≡ is_device kept
devices_agree queues owed (model.DeviceObject of) (content.Device kept) is = refl
devices_agree queues owed (model.DeviceObject of) (content.Video kept) is = elim is [ ]
devices_agree queues owed (model.DeviceObject of) (content.Output kept) is = elim is [ ]
devices_agree queues owed (model.DeviceObject of) (content.Decoder kept) is = elim is [ ]
devices_agree queues owed (model.DeviceObject of) (content.Mixer kept) is = elim is [ ]
devices_agree queues owed (model.DeviceObject of) (content.Queue kept) is = elim is [ ]
devices_agree queues owed (model.VideoObject of) (content.Device kept) is = elim is [ ]
devices_agree queues owed (model.VideoObject of) (content.Video kept) is = refl
devices_agree queues owed (model.VideoObject of) (content.Output kept) is = elim is [ ]
devices_agree queues owed (model.VideoObject of) (content.Decoder kept) is = elim is [ ]
devices_agree queues owed (model.VideoObject of) (content.Mixer kept) is = elim is [ ]
devices_agree queues owed (model.VideoObject of) (content.Queue kept) is = elim is [ ]
devices_agree queues owed (model.OutputObject of) (content.Device kept) is = elim is [ ]
devices_agree queues owed (model.OutputObject of) (content.Video kept) is = elim is [ ]
devices_agree queues owed (model.OutputObject of) (content.Output kept) is = refl
devices_agree queues owed (model.OutputObject of) (content.Decoder kept) is = elim is [ ]
devices_agree queues owed (model.OutputObject of) (content.Mixer kept) is = elim is [ ]
devices_agree queues owed (model.OutputObject of) (content.Queue kept) is = elim is [ ]
devices_agree queues owed (model.DecoderObject of) (content.Device kept) is = elim is [ ]
devices_agree queues owed (model.DecoderObject of) (content.Video kept) is = elim is [ ]
devices_agree queues owed (model.DecoderObject of) (content.Output kept) is = elim is [ ]
devices_agree queues owed (model.DecoderObject of) (content.Decoder kept) is = refl
devices_agree queues owed (model.DecoderObject of) (content.Mixer kept) is = elim is [ ]
devices_agree queues owed (model.DecoderObject of) (content.Queue kept) is = elim is [ ]
devices_agree queues owed (model.MixerObject of) (content.Device kept) is = elim is [ ]
devices_agree queues owed (model.MixerObject of) (content.Video kept) is = elim is [ ]
devices_agree queues owed (model.MixerObject of) (content.Output kept) is = elim is [ ]
devices_agree queues owed (model.MixerObject of) (content.Decoder kept) is = elim is [ ]
devices_agree queues owed (model.MixerObject of) (content.Mixer kept) is = refl
devices_agree queues owed (model.MixerObject of) (content.Queue kept) is = elim is [ ]
devices_agree queues owed (model.QueueObject of) (content.Device kept) is = elim is [ ]
devices_agree queues owed (model.QueueObject of) (content.Video kept) is = elim is [ ]
devices_agree queues owed (model.QueueObject of) (content.Output kept) is = elim is [ ]
devices_agree queues owed (model.QueueObject of) (content.Decoder kept) is = elim is [ ]
devices_agree queues owed (model.QueueObject of) (content.Mixer kept) is = elim is [ ]
devices_agree queues owed (model.QueueObject of) (content.Queue kept) is = refl
