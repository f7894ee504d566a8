-- An output surface or a queue is destroyed, and what isn't needed any more is let go.
use Rattle.std.proofs.Common.{◌≡◌, ◌≢◌, inl, inr, ℕ, ◌<◌, ◌≤◌, ◌==◌, ◌||◌, Bool, true, false, true≢false, if◌then◌else◌, List, filter, length, map, set, slice_get, Some, None, option_map, refl, sym, ap, ◌∙◌, subst, arith}
use Rattle.std.specs.List.{list_any}
use Rattle.std.specs.Option.{option_map_or}
use Rattle.std.proofs.lemmas.Option.{none-some}
use Rattle.std.proofs.lemmas.List.{length-set}
use Rattle.present_queue.specs.Queue.{Names, Queue, empty_queue, is_queued, is_shown, most_entries}
use Rattle.present_queue.specs.Queues.{IsWithinLimits, Surface, queue_at}
use Rattle.present_queue.proofs.NameLemmas.{Names-empty}
use Rattle.driver_model.specs.Kept.{is_in_queue, live_queue}
use Rattle.driver_model.specs.Objects as model
use Rattle.driver_model.specs.Queues.{emptied}
use Rattle.driver_model.specs.States.{State, destroyed as destroyed_in, destroyed_with}
use Rattle.driver_model.specs.declared.numbers.TheConstants as number
use Rattle.driver_model.proofs.Changes.{names-changed}
use Rattle.driver_objects.specs.Kept.{IsGiven, kept_of, made_of}
use Rattle.driver_objects.specs.Kinds.{has_number, holder_of, is_device, is_output, kind_number, number_of}
use Rattle.driver_objects.specs.Listed.{destroyed}
use Rattle.driver_objects.specs.Swept.{AreWithin, is_held, is_wanted}
use Rattle.driver_objects.specs.declared.content.Content.{Content}
use Rattle.driver_objects.specs.declared.content.Content.TheVariants as content
use Rattle.driver_objects.specs.declared.content.PresentationQueue.{PresentationQueue}
use Rattle.driver_objects.specs.declared.object.Object.{Object}
use Rattle.driver_objects.proofs.Cases.{either, true_or_false}
use Rattle.driver_objects.proofs.Filters.{filter_get}
use Rattle.driver_objects.proofs.OwnNumbers.{has_number_is}
use Rattle.driver_objects.proofs.Lists.{any_at, element_is, get_set, get_set_apart, one_kept, some_passes}
use Rattle.driver_objects.proofs.QueueLists.{queue_set_other, queue_set_same}
use Rattle.driver_objects.proofs.Searched.{place_is_one}
use Rattle.driver_core.specs.Covers.{IsOf}
use Rattle.driver_core.specs.Sound.{IsSound}
use Rattle.driver_core.specs.Stands.{AreIdle, Stands, is_owed, told_by}
use Rattle.driver_core.specs.declared.driver.Core.{Core}
use Rattle.driver_core.proofs.ContentStands.{get_changed_other, get_changed_same, length_changed, queues_changed}
use Rattle.driver_core.proofs.Covering.{idle_changed, stands_from}
use Rattle.driver_core.proofs.DeadQueues.{dead_number}
use Rattle.driver_core.proofs.ModelKinds.{queue_other}
use Rattle.driver_core.proofs.Named.{kinds_same, one_at}
use Rattle.driver_core.proofs.NamedBoth.{core_named, state_named}
use Rattle.driver_core.proofs.NamesOfQueues.{InQueue, in_queue, queue_in}
use Rattle.driver_core.proofs.QueueSound.{number_within}
use Rattle.driver_core.proofs.QueueStands.{other_numbers}
use Rattle.driver_core.proofs.StillContent.{content_still}
use Rattle.driver_core.proofs.Sweeping.{swept, swept_covers, swept_needed, swept_sound}

-- ---- holders

pub output_number : (what : Content) → is_output what ≡ true → kind_number what ≡ number.OUTPUT_SURFACE
output_number (content.Device of) is = absurd (true≢false (sym is))
output_number (content.Video of) is = absurd (true≢false (sym is))
output_number (content.Output of) is = refl
output_number (content.Decoder of) is = absurd (true≢false (sym is))
output_number (content.Mixer of) is = absurd (true≢false (sym is))
output_number (content.Queue of) is = absurd (true≢false (sym is))

pub destroyed_within : (core : Core) (index : ℕ) (object : Object) → slice_get (kept_of core.objects) index ≡ Some object → (kept : List Object) → kept ≡ set (kept_of core.objects) index (destroyed object) → AreWithin kept
destroyed_within core index object there kept is i o holder at has = elim (get_set (kept_of core.objects) index i (destroyed object) o (sym (ap (λ k. slice_get k i) is) ∙ at)) [
  | inl here ↦ core.sound.holders index object holder there (ap (λ (x : Object). holder_of x.content) here.1 ∙ has)
  | inr same ↦ core.sound.holders i o holder same.1 has
]

-- ---- numbers without a queue

module _ (core : Core) (index : ℕ) (object : Object) (there : slice_get (kept_of core.objects) index ≡ Some object)
    (queues : List (Queue Surface)) (fewer : (number : ℕ) (surface : Surface) → Names (queue_at queues number) surface → Names (queue_at core.queues number) surface)
    (own : (number : ℕ) → number_of object.content ≡ Some number → queue_at queues number ≡ empty_queue)
    (still : (number : ℕ) → queue_at core.queues number ≡ empty_queue → queue_at queues number ≡ empty_queue) where
  pub swept_unused : (number : ℕ) → list_any (has_number number) (swept core index object there queues fewer) ≡ false → queue_at queues number ≡ empty_queue
  swept_unused number none = elim (true_or_false (list_any (has_number number) (kept_of core.objects))) [
    | inl any ↦
        let s = some_passes (has_number number) (kept_of core.objects) any in
        let has = has_number_is number s.1 s.3 in
        elim (either s.0 index) [
          | inl e ↦ own number (ap (λ (x : Object). number_of x.content) (one_kept (kept_of core.objects) index object s.1 there (subst (λ i. slice_get (kept_of core.objects) i ≡ Some s.1) e s.2)) ∙ has)
          | inr apart ↦
              let live = dead_number core s.0 s.1 number s.2 has in
              let f = filter_get (is_wanted queues) (set (kept_of core.objects) index (destroyed object)) s.0 s.1 (get_set_apart (kept_of core.objects) index s.0 (destroyed object) s.1 apart s.2) (grind (arith, live)) in
              absurd (true≢false (sym (any_at (has_number number) (swept core index object there queues fewer) f.0 s.1 f.1 s.3) ∙ none))
        ]
    | inr unused ↦ still number (core.sound.unused number unused)
  ]

-- ---- an output surface

module _ (core : Core) (index : ℕ) (object : Object) (there : slice_get (kept_of core.objects) index ≡ Some object) (output : kind_number object.content ≡ number.OUTPUT_SURFACE) where
  abbrev all : (number : ℕ) (surface : Surface) → Names (queue_at core.queues number) surface → Names (queue_at core.queues number) surface
  all number surface named = named

  no_number : (own : ℕ) → number_of object.content ≡ Some own → ⊥
  no_number own has = by_content object.content output has where
    by_content : (what : Content) → kind_number what ≡ number.OUTPUT_SURFACE → number_of what ≡ Some own → ⊥
    by_content (content.Device of) is has = none-some own has
    by_content (content.Video of) is has = none-some own has
    by_content (content.Output of) is has = none-some own has
    by_content (content.Decoder of) is has = none-some own has
    by_content (content.Mixer of) is has = none-some own has
    by_content (content.Queue of) is has = absurd (omega (arith, is))

  no_device : is_device object.content ≡ false
  no_device = by_content object.content output where
    by_content : (what : Content) → kind_number what ≡ number.OUTPUT_SURFACE → is_device what ≡ false
    by_content (content.Device of) is = absurd (omega (arith, is))
    by_content (content.Video of) is = refl
    by_content (content.Output of) is = refl
    by_content (content.Decoder of) is = refl
    by_content (content.Mixer of) is = refl
    by_content (content.Queue of) is = refl

  pub output_gone_sound : (kept : List Object) (made : ℕ) → kept ≡ filter (is_wanted core.queues) (set (kept_of core.objects) index (destroyed object)) → made ≡ made_of core.objects
      → ((i j : ℕ) (a b : Object) → slice_get kept i ≡ Some a → slice_get kept j ≡ Some b → a.place ≡ b.place → j ≡ i)
      → IsSound kept made core.queues core.jobs.items
  output_gone_sound kept made is same one_place =
      rw (is, same) (swept_sound core index object there core.queues all no_device
      (λ i j a b at bt e. one_place i j a b (ap (λ k. slice_get k i) is ∙ at) (ap (λ k. slice_get k j) is ∙ bt) e)
      core.sound.limits
      (swept_unused core index object there core.queues all (λ own has. absurd (no_number own has)) (λ number empty. empty)))

  module _ (d : State) (stands : Stands core d) where
    abbrev new : State
    new = destroyed_in d object.place

    abbrev change : model.Object → model.Object
    change one = record one { is_live = false }

    no_queue : (one : model.Object) → IsOf core.queues d one object → model.as_queue one.content ≡ None
    no_queue one is = queue_other one.content (λ e. let k = kinds_same core.queues (is_owed d object.place) one.content object.content is.content in omega (arith, e, k, output))

    same_names : (place : ℕ) → is_in_queue new place ≡ is_in_queue d place
    same_names place =
        let k = stands.kept index object there in
        let none = no_queue k.0 (record { name = k.3.name; device = k.3.device; live = k.3.live; content = k.3.content }) in
        let nothing : live_queue (change k.0) ≡ live_queue k.0 = no_live k.0 k.0.is_live none in
        ap (λ qs. is_queued (λ p. p == place) qs || is_shown (λ p. p == place) qs) (queues_changed change object.place d.objects k.0 k.1 nothing)
      where
        no_live : (one : model.Object) (b : Bool) → model.as_queue one.content ≡ None → None ≡ (if b then option_map (λ (x : model.PresentationQueue). x.queue) (model.as_queue one.content) else None)
        no_live one true none = sym (ap (option_map (λ (x : model.PresentationQueue). x.queue)) none)
        no_live one false none = refl

    pub output_gone_stands : (after : Core) → kept_of after.objects ≡ filter (is_wanted core.queues) (set (kept_of core.objects) index (destroyed object)) → made_of after.objects ≡ made_of core.objects
        → ((names : List ℕ) → IsGiven core.objects names → IsGiven after.objects names) → after.queues ≡ core.queues → after.jobs ≡ core.jobs
        → Stands after new
    output_gone_stands after kept made given queues jobs =
        stands_from after new
        (rw (kept, queues) (swept_covers core index object there core.queues all d stands change from_state to_state (λ one. refl)
        (λ wanted one at is. record { name = is.name; device = is.device; live = refl; content = is.content })
        (λ i o one apart at is. record { name = is.name; device = is.device; live = is.live; content = is.content })
        (λ place queued. sym (same_names place) ∙ queued)))
        (rw kept (swept_needed core index object there core.queues all d stands change from_state to_state))
        (made ∙ (stands.made ∙ sym (length_changed change object.place d.objects)))
        (subst (IsGiven after.objects) (sym (names-changed change (λ one. refl) object.place d.objects)) (given (map (λ (one : model.Object). one.name) d.objects) stands.given))
        (ap (λ j. map told_by j.items) jobs ∙ stands.jobs)
        idle
      where
        from_state : (place : ℕ) → is_in_queue new place ≡ true → (number : ℕ) × (surface : Surface) × Names (queue_at core.queues number) surface × (surface.object ≡ place)
        from_state place queued = let n = state_named core d stands place (in_queue d place (sym (same_names place) ∙ queued)) in (n.number, n.surface, n.named, n.at_place)

        to_state : (number : ℕ) (surface : Surface) → Names (queue_at core.queues number) surface → is_in_queue new surface.object ≡ true
        to_state number surface named = same_names surface.object ∙ queue_in d surface.object (core_named core d stands number surface named).in_state

        idle : AreIdle new.objects
        idle =
            let k = stands.kept index object there in
            let none = no_queue k.0 (record { name = k.3.name; device = k.3.device; live = k.3.live; content = k.3.content }) in
            idle_changed d.objects object.place change k.0 k.1 stands.idle_queues (λ queue surface dead is names. none-some queue (sym (ap (option_map (λ (x : model.PresentationQueue). x.queue)) none) ∙ is))

-- ---- a queue

module _ (core : Core) (index : ℕ) (object : Object) (of_kept : PresentationQueue) (there : slice_get (kept_of core.objects) index ≡ Some object) (has : object.content ≡ content.Queue of_kept) where
  abbrev cleared : List (Queue Surface)
  cleared = set core.queues of_kept.number empty_queue

  own_number : number_of object.content ≡ Some of_kept.number
  own_number = ap number_of has

  within : of_kept.number < length core.queues
  within = number_within (kept_of core.objects) (made_of core.objects) core.queues core.jobs.items core.sound index object of_kept.number there own_number

  cleared_own : queue_at cleared of_kept.number ≡ empty_queue
  cleared_own = queue_set_same core.queues of_kept.number empty_queue within

  fewer : (number : ℕ) (surface : Surface) → Names (queue_at cleared number) surface → Names (queue_at core.queues number) surface
  fewer number surface named = elim (either number of_kept.number) [
    | inl e ↦ absurd (Names-empty surface (subst (λ q. Names q surface) cleared_own (subst (λ n. Names (queue_at cleared n) surface) e named)))
    | inr apart ↦ subst (λ q. Names q surface) (queue_set_other core.queues of_kept.number empty_queue number apart) named
  ]

  still_empty : (number : ℕ) → queue_at core.queues number ≡ empty_queue → queue_at cleared number ≡ empty_queue
  still_empty number empty = elim (either number of_kept.number) [
    | inl e ↦ ap (queue_at cleared) e ∙ cleared_own
    | inr apart ↦ queue_set_other core.queues of_kept.number empty_queue number apart ∙ empty
  ]

  few : IsWithinLimits cleared
  few = record {
    count = length-set core.queues of_kept.number empty_queue ∙ core.sound.limits.count;
    entries = λ other. elim (either other of_kept.number) [
      | inl e ↦ subst (λ (q : Queue Surface). length q.entries ≤ most_entries) (sym (ap (queue_at cleared) e ∙ cleared_own)) (omega arith)
      | inr apart ↦ subst (λ (q : Queue Surface). length q.entries ≤ most_entries) (sym (queue_set_other core.queues of_kept.number empty_queue other apart)) (core.sound.limits.entries other)
    ];
  }

  pub queue_gone_sound : (kept : List Object) (made : ℕ) (queues : List (Queue Surface)) → queues ≡ cleared → kept ≡ filter (is_wanted queues) (set (kept_of core.objects) index (destroyed object)) → made ≡ made_of core.objects
      → ((i j : ℕ) (a b : Object) → slice_get kept i ≡ Some a → slice_get kept j ≡ Some b → a.place ≡ b.place → j ≡ i)
      → IsSound kept made queues core.jobs.items
  queue_gone_sound kept made queues now is same one_place =
      let kept_is : kept ≡ filter (is_wanted cleared) (set (kept_of core.objects) index (destroyed object)) = is ∙ ap (λ q. filter (is_wanted q) (set (kept_of core.objects) index (destroyed object))) now in
      rw (kept_is, same, now) (swept_sound core index object there cleared fewer (ap is_device has)
      (λ i j a b at bt e. one_place i j a b (ap (λ k. slice_get k i) kept_is ∙ at) (ap (λ k. slice_get k j) kept_is ∙ bt) e)
      few
      (swept_unused core index object there cleared fewer (λ own own_has. ap (queue_at cleared) (element_is own of_kept.number (sym own_has ∙ own_number)) ∙ cleared_own) still_empty))

  module _ (d : State) (stands : Stands core d) (value : model.PresentationQueue) where
    abbrev gone : State
    gone = destroyed_with d object.place (model.QueueObject (emptied value))

    abbrev lost : model.Object → model.Object
    lost one = record one { is_live = false; content = model.QueueObject (emptied value) }

    -- a queue that names something is another one
    far : (place : ℕ) (q : InQueue gone place) → q.other ≢ object.place
    far place q e =
        let k = stands.kept index object there in
        let same : lost k.0 ≡ q.one = one_at gone.objects object.place (lost k.0) q.one (get_changed_same lost object.place d.objects k.0 k.1) (subst (λ p. slice_get gone.objects p ≡ Some q.one) e q.at_other) in
        true≢false (sym q.live ∙ ap (λ (x : model.Object). x.is_live) (sym same))

    in_before : (place : ℕ) (q : InQueue gone place) → InQueue d place
    in_before place q = record { other = q.other; one = q.one; at_other = sym (get_changed_other lost object.place q.other d.objects (far place q)) ∙ q.at_other; live = q.live; value = q.value; is = q.is; names = q.names }

    from_state : (place : ℕ) → is_in_queue gone place ≡ true → (number : ℕ) × (surface : Surface) × Names (queue_at cleared number) surface × (surface.object ≡ place)
    from_state place queued =
        let q = in_queue gone place queued in
        let n = state_named core d stands place (record { other = q.other; one = q.one; at_other = sym (get_changed_other lost object.place q.other d.objects (far place q)) ∙ q.at_other; live = q.live; value = q.value; is = q.is; names = q.names }) in
        let apart : n.number ≢ of_kept.number = λ e. far place q (sym n.at_other ∙ ap (λ (x : Object). x.place) (one_kept (kept_of core.objects) index n.object object
        (subst (λ i. slice_get (kept_of core.objects) i ≡ Some n.object) (core.sound.numbers_apart n.index index n.object object of_kept.number n.there there (n.has ∙ ap Some e) own_number) n.there) there)) in
        (n.number, n.surface, subst (λ x. Names x n.surface) (sym (queue_set_other core.queues of_kept.number empty_queue n.number apart)) n.named, n.at_place)

    to_state : (number : ℕ) (surface : Surface) → Names (queue_at cleared number) surface → is_in_queue gone surface.object ≡ true
    to_state number surface named = elim (either number of_kept.number) [
      | inl e ↦ absurd (Names-empty surface (subst (λ q. Names q surface) cleared_own (subst (λ n. Names (queue_at cleared n) surface) e named)))
      | inr apart ↦
          let n = core_named core d stands number surface (fewer number surface named) in
          let q = n.in_state in
          let away : q.other ≢ object.place = λ e.
          let here = place_is_one core.objects.names (kept_of core.objects) (made_of core.objects) core.objects.sound index n.index object n.object there n.there (sym (sym n.same ∙ e)) in
          let same = one_kept (kept_of core.objects) index n.object object (subst (λ i. slice_get (kept_of core.objects) i ≡ Some n.object) here n.there) there in
          apart (element_is number of_kept.number (sym n.has ∙ (ap (λ (x : Object). number_of x.content) same ∙ own_number))) in
          queue_in gone surface.object (record { other = q.other; one = q.one; at_other = get_changed_other lost object.place q.other d.objects away ∙ q.at_other; live = q.live; value = q.value; is = q.is; names = q.names })
    ]

    pub queue_gone_stands : (after : Core) → kept_of after.objects ≡ filter (is_wanted after.queues) (set (kept_of core.objects) index (destroyed object)) → made_of after.objects ≡ made_of core.objects
        → ((names : List ℕ) → IsGiven core.objects names → IsGiven after.objects names) → after.queues ≡ cleared → after.jobs ≡ core.jobs
        → Stands after gone
    queue_gone_stands after is made given queues jobs =
        let kept : kept_of after.objects ≡ filter (is_wanted cleared) (set (kept_of core.objects) index (destroyed object)) = is ∙ ap (λ q. filter (is_wanted q) (set (kept_of core.objects) index (destroyed object))) queues in
        stands_from after gone
        (rw (kept, queues) (swept_covers core index object there cleared fewer d stands lost from_state to_state (λ one. refl)
        (λ wanted. absurd (true≢false (sym wanted ∙ ap (λ c. option_map_or (is_held cleared) (holder_of c) false) has)))
        (λ i o one apart at is_of. record { name = is_of.name; device = is_of.device; live = is_of.live; content = content_still core.queues cleared (is_owed d o.place) one.content o.content (other_numbers (kept_of core.objects) (made_of core.objects) core.queues core.jobs.items core.sound index object of_kept there has empty_queue i o apart at) is_of.content })
        (λ place queued. queue_in d place (in_before place (in_queue gone place queued)))))
        (rw kept (swept_needed core index object there cleared fewer d stands lost from_state to_state))
        (made ∙ (stands.made ∙ sym (length_changed lost object.place d.objects)))
        (subst (IsGiven after.objects) (sym (names-changed lost (λ one. refl) object.place d.objects)) (given (map (λ (one : model.Object). one.name) d.objects) stands.given))
        (ap (λ j. map told_by j.items) jobs ∙ stands.jobs)
        (let k = stands.kept index object there in idle_changed d.objects object.place lost k.0 k.1 stands.idle_queues (λ queue surface dead is_queue names. names_nothing surface (subst (λ q. Names q surface) (sym (element_is (emptied value).queue queue is_queue)) names)))
      where
        names_nothing : (surface : ℕ) → Names (emptied value).queue surface → ⊥
        names_nothing surface (inl entry) = omega (arith, entry.1)
        names_nothing surface (inr shown) = none-some surface shown
