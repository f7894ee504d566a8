-- As many entries are kept as the live queues of the state have.
use Rattle.std.proofs.Common.{◌≡◌, ◌≢◌, inl, inr, ℕ, zero, suc, ◌+◌, Bool, true, false, if◌then◌else◌, List, [], ◌∷◌, length, set, slice_get, Option, Some, None, refl, sym, ap, ◌∙◌, subst, arith}
use Rattle.std.specs.List.{cons_option, filter_map, list_any, sum_by}
use Rattle.std.proofs.lemmas.List.{length-map}
use Rattle.std.proofs.lemmas.List.Sums.{sum_by-cons}
use Rattle.std.proofs.lemmas.Option.{none-some}
use Rattle.present_queue.specs.Queue.{Queue, Queued, empty_queue}
use Rattle.present_queue.specs.Queues.{Surface, count_entries, queue_at}
use Rattle.driver_model.specs.Kept.{live_queue, live_queues_of}
use Rattle.driver_model.specs.Objects as model
use Rattle.driver_model.specs.Presented.{queue_in}
use Rattle.driver_model.specs.States.{State}
use Rattle.driver_objects.specs.Kept.{kept_of, made_of}
use Rattle.driver_objects.specs.Kinds.{has_number, number_of}
use Rattle.driver_objects.specs.declared.object.Object.{Object}
use Rattle.driver_objects.proofs.Cases.{either}
use Rattle.driver_objects.proofs.OwnNumbers.{has_number_is}
use Rattle.driver_objects.proofs.Lists.{element_is, one_kept, some_passes}
use Rattle.driver_objects.proofs.Searched.{place_is_one}
use Rattle.driver_core.specs.Stands.{Stands, by_place}
use Rattle.driver_core.specs.declared.driver.Core.{Core}
use Rattle.driver_core.proofs.Presenting.{queue_from, queue_is}

-- how many entries the queue of a number has
abbrev entries_at : List (Queue Surface) → ℕ → ℕ
entries_at queues number = length (queue_at queues number).entries

-- ---- a queue is taken away

count_cons : (queue : Queue Surface) (queues : List (Queue Surface)) → count_entries (queue ∷ queues) ≡ length queue.entries + count_entries queues
count_cons queue queues = sum_by-cons (λ (q : Queue Surface). length q.entries) queue queues

abbrev without : List (Queue Surface) → ℕ → List (Queue Surface)
without queues number = set queues number empty_queue

count_without : (queues : List (Queue Surface)) (number : ℕ) → count_entries queues ≡ entries_at queues number + count_entries (without queues number)
count_without [] number = refl
count_without (queue ∷ queues) zero =
    let all = count_cons queue queues in
    let rest = count_cons empty_queue queues in
    omega (arith, all, rest)
count_without (queue ∷ queues) (suc number) =
    let all = count_cons queue queues in
    let rest = count_cons queue (without queues number) in
    let later = count_without queues number in
    omega (arith, all, rest, later)

other_without : (queues : List (Queue Surface)) (number other : ℕ) → other ≢ number → entries_at (without queues number) other ≡ entries_at queues other
other_without [] number other apart = refl
other_without (queue ∷ queues) zero zero apart = absurd (apart refl)
other_without (queue ∷ queues) zero (suc other) apart = refl
other_without (queue ∷ queues) (suc number) zero apart = refl
other_without (queue ∷ queues) (suc number) (suc other) apart = other_without queues number other (λ e. apart (ap suc e))

same_without : (queues : List (Queue Surface)) (number : ℕ) → entries_at (without queues number) number ≡ 0
same_without [] number = refl
same_without (queue ∷ queues) zero = refl
same_without (queue ∷ queues) (suc number) = same_without queues number

none_counted : (queues : List (Queue Surface)) → ((number : ℕ) → entries_at queues number ≡ 0) → count_entries queues ≡ 0
none_counted [] none = refl
none_counted (queue ∷ queues) none =
    let all = count_cons queue queues in
    let first = none 0 in
    let later = none_counted queues (λ number. none (suc number)) in
    omega (arith, all, first, later)

-- ---- queues by their places, and by their numbers

-- The queue at a place has a number: each place has one at most, and each number is one place's at most.
module _ (Has : ℕ → ℕ → Type 0) (one_number : (place n m : ℕ) → Has place n → Has place m → n ≡ m) (one_place : (p q number : ℕ) → Has p number → Has q number → p ≡ q) where
  -- Each live queue of the objects from this place on has as many entries as that of its number, and the others have none.
  pub record Agree (from : ℕ) (objects : List model.Object) (queues : List (Queue Surface)) : Type 0 where
    pub there : (p : ℕ) (o : model.Object) (queue : Queue ℕ) → slice_get objects p ≡ Some o → live_queue o ≡ Some queue → (number : ℕ) × Has (from + p) number × (length queue.entries ≡ entries_at queues number)
    pub back : (number : ℕ) → entries_at queues number ≢ 0 → (p : ℕ) × (o : model.Object) × (queue : Queue ℕ) × (slice_get objects p ≡ Some o) × (live_queue o ≡ Some queue) × Has (from + p) number

  abbrev counted : List model.Object → ℕ
  counted objects = sum_by (λ (queue : Queue ℕ). length queue.entries) (filter_map live_queue objects)

  module _ (from : ℕ) (first : model.Object) (later : List model.Object) (queues : List (Queue Surface)) (agree : Agree from (first ∷ later) queues) where
    next : (p : ℕ) → from + suc p ≡ suc from + p
    next p = omega arith

    without_none : live_queue first ≡ None → Agree (suc from) later queues
    without_none none = record {
      there = λ p o queue at is. let t = agree.there (suc p) o queue at is in (t.0, subst (λ k. Has k t.0) (next p) t.1, t.2);
      back = λ number some. let b = agree.back number some in behind b.0 b.1 b.2 number b.3 b.4 b.5;
    }
      where
        behind : (p : ℕ) (o : model.Object) (queue : Queue ℕ) (number : ℕ) → slice_get (first ∷ later) p ≡ Some o → live_queue o ≡ Some queue → Has (from + p) number
            → (r : ℕ) × (o : model.Object) × (queue : Queue ℕ) × (slice_get later r ≡ Some o) × (live_queue o ≡ Some queue) × Has (suc from + r) number
        behind zero o queue number at is has = absurd (none-some queue (sym none ∙ (ap live_queue (element_is first o at) ∙ is)))
        behind (suc r) o queue number at is has = (r, o, queue, at, is, subst (λ k. Has k number) (next r) has)

    module _ (queue : Queue ℕ) (is : live_queue first ≡ Some queue) where
      number : ℕ
      number = (agree.there 0 first queue refl is).0

      has : Has (from + 0) number
      unfolding number
      has = (agree.there 0 first queue refl is).1

      as_many : length queue.entries ≡ entries_at queues number
      unfolding number
      as_many = (agree.there 0 first queue refl is).2

      apart_from : (p other : ℕ) → Has (from + suc p) other → other ≢ number
      apart_from p other at e = let same = one_place (from + suc p) (from + 0) number (subst (Has (from + suc p)) e at) has in absurd (omega (arith, same))

      without_it : Agree (suc from) later (without queues number)
      without_it = record {
        there = λ p o q at l.
            let t = agree.there (suc p) o q at l in
            (t.0, subst (λ k. Has k t.0) (next p) t.1, t.2 ∙ sym (other_without queues number t.0 (apart_from p t.0 t.1)));
        back = λ other some. elim (either other number) [
          | inl same ↦ absurd (some (ap (entries_at (without queues number)) same ∙ same_without queues number))
          | inr apart ↦ let b = agree.back other (λ e. some (other_without queues number other apart ∙ e)) in behind b.0 b.1 b.2 other apart b.3 b.4 b.5
        ];
      }
        where
          behind : (p : ℕ) (o : model.Object) (q : Queue ℕ) (other : ℕ) → other ≢ number → slice_get (first ∷ later) p ≡ Some o → live_queue o ≡ Some q → Has (from + p) other
              → (r : ℕ) × (o : model.Object) × (q : Queue ℕ) × (slice_get later r ≡ Some o) × (live_queue o ≡ Some q) × Has (suc from + r) other
          behind zero o q other apart at l had = absurd (apart (one_number (from + 0) other number had has))
          behind (suc r) o q other apart at l had = (r, o, q, at, l, subst (λ k. Has k other) (next r) had)

  pub same_entries : (from : ℕ) (objects : List model.Object) (queues : List (Queue Surface)) → Agree from objects queues → count_entries queues ≡ counted objects
  same_entries from [] queues agree = none_counted queues (λ number. elim (either (entries_at queues number) 0) [ inl none ↦ none | inr some ↦ let b = agree.back number some in absurd (none-some b.1 b.3) ])
  same_entries from (first ∷ later) queues agree = by_first (live_queue first) refl (λ others. same_entries (suc from) later others) where
    by_first : (o : Option (Queue ℕ)) → live_queue first ≡ o → ((others : List (Queue Surface)) → Agree (suc from) later others → count_entries others ≡ counted later) → count_entries queues ≡ counted (first ∷ later)
    by_first None is further =
        further queues (without_none from first later queues agree is) ∙ ap (λ q. sum_by (λ (queue : Queue ℕ). length queue.entries) (cons_option q (filter_map live_queue later))) (sym is)
    by_first (Some queue) is further =
        let n = number from first later queues agree queue is in
        let rest = further (without queues n) (without_it from first later queues agree queue is) in
        let all = count_without queues n in
        let many = as_many from first later queues agree queue is in
        let cons = sum_by-cons (λ (q : Queue ℕ). length q.entries) queue (filter_map live_queue later) in
        let sum : count_entries queues ≡ sum_by (λ (q : Queue ℕ). length q.entries) (queue ∷ filter_map live_queue later) = omega (arith, rest, all, many, cons) in
        sum ∙ ap (λ q. sum_by (λ (queue : Queue ℕ). length queue.entries) (cons_option q (filter_map live_queue later))) (sym is)

-- ---- the whole

module _ (core : Core) (d : State) (stands : Stands core d) where
  record HasAt (place number : ℕ) : Type 0 where
    index : ℕ
    object : Object
    there : slice_get (kept_of core.objects) index ≡ Some object
    at_place : object.place ≡ place
    has : number_of object.content ≡ Some number

  number_is_one : (place n m : ℕ) → HasAt place n → HasAt place m → n ≡ m
  number_is_one place n m a b =
      let here = place_is_one core.objects.names (kept_of core.objects) (made_of core.objects) core.objects.sound a.index b.index a.object b.object a.there b.there (a.at_place ∙ sym b.at_place) in
      let same = one_kept (kept_of core.objects) a.index b.object a.object (subst (λ i. slice_get (kept_of core.objects) i ≡ Some b.object) here b.there) a.there in
      element_is n m (sym a.has ∙ (ap (λ (o : Object). number_of o.content) (sym same) ∙ b.has))

  place_has_one : (p q number : ℕ) → HasAt p number → HasAt q number → p ≡ q
  place_has_one p q number a b =
      let here = core.sound.numbers_apart b.index a.index b.object a.object number b.there a.there b.has a.has in
      let same = one_kept (kept_of core.objects) a.index b.object a.object (subst (λ i. slice_get (kept_of core.objects) i ≡ Some b.object) here b.there) a.there in
      sym a.at_place ∙ (ap (λ (o : Object). o.place) (sym same) ∙ b.at_place)

  live_parts : (o : model.Object) (queue : Queue ℕ) → live_queue o ≡ Some queue → (o.is_live ≡ true) × (queue_in o ≡ Some queue)
  live_parts o queue is = by_live o.is_live refl is where
    by_live : (live : Bool) → o.is_live ≡ live → (if live then queue_in o else None) ≡ Some queue → (o.is_live ≡ true) × (queue_in o ≡ Some queue)
    by_live true l e = (l, e)
    by_live false l e = absurd (none-some queue e)

  length_by_place : (queue : Queue Surface) → length (by_place queue).entries ≡ length queue.entries
  length_by_place queue = length-map queue.entries (λ (entry : Queued Surface). record { surface = entry.surface.object; earliest = entry.earliest })

  pub entries_same : count_entries core.queues ≡ sum_by (λ (queue : Queue ℕ). length queue.entries) (live_queues_of d)
  entries_same = same_entries HasAt number_is_one place_has_one 0 d.objects core.queues (record {
    there = λ p o queue at is.
        let l = live_parts o queue is in
        let f = queue_from core d stands p o queue at l.0 l.1 in
        (f.number, record { index = f.index; object = f.object; there = f.there; at_place = omega (arith, f.at_place); has = f.has }, ap (λ (q : Queue ℕ). length q.entries) f.is ∙ length_by_place (queue_at core.queues f.number));
    back = λ number some. by_kept number some (list_any (has_number number) (kept_of core.objects)) refl;
  })
    where
      by_kept : (number : ℕ) → entries_at core.queues number ≢ 0 → (any : Bool) → list_any (has_number number) (kept_of core.objects) ≡ any
          → (p : ℕ) × (o : model.Object) × (queue : Queue ℕ) × (slice_get d.objects p ≡ Some o) × (live_queue o ≡ Some queue) × HasAt (0 + p) number
      by_kept number some false any = absurd (some (ap (λ (q : Queue Surface). length q.entries) (core.sound.unused number any)))
      by_kept number some true any =
          let s = some_passes (has_number number) (kept_of core.objects) any in
          let has = has_number_is number s.1 s.3 in
          let q = queue_is core d stands s.0 s.1 number s.2 has in (
            s.1.place,
            q.one,
            by_place (queue_at core.queues number),
            q.at_place,
            ap (λ live. if live then queue_in q.one else None) q.live ∙ q.queue,
            record { index = s.0; object = s.1; there = s.2; at_place = omega arith; has = has },
          )
