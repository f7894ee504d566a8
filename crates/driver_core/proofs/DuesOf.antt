-- The queues that are due are those of the state, in the same order.
use Rattle.std.proofs.Common.{◌≡◌, ◌⊎◌, inl, inr, ℕ, zero, suc, ◌+◌, ◌<◌, ◌≤◌, ◌==◌, ◌&&◌, ◌||◌, Bool, true, false, if◌then◌else◌, List, [], ◌∷◌, map, slice_get, Option, Some, None, option_map, refl, sym, ap, ◌∙◌, subst, arith}
use Rattle.std.specs.List.{cons_option, enumerate_from, filter_map}
use Rattle.std.specs.Option.{option_and_then}
use Rattle.std.proofs.lemmas.Option.{none-some}
use Rattle.present_queue.specs.Queue.{Queue, Queued, due}
use Rattle.present_queue.specs.Queues.{Surface, queue_at}
use Rattle.driver_model.specs.Clock as clock
use Rattle.driver_model.specs.Kept.{is_in_queue}
use Rattle.driver_model.specs.Objects as model
use Rattle.driver_model.specs.States.{State}
use Rattle.driver_model.specs.declared.numbers.TheConstants as number
use Rattle.driver_objects.specs.Kept.{kept_of}
use Rattle.driver_objects.specs.Kinds.{kind_number}
use Rattle.driver_objects.specs.Ticks.{due_in, due_of, due_with, placed}
use Rattle.driver_objects.specs.declared.content.Content.{Content}
use Rattle.driver_objects.specs.declared.content.Content.TheVariants as content
use Rattle.driver_objects.specs.declared.object.Object.{Object}
use Rattle.driver_objects.proofs.Cases.{true_or_false}
use Rattle.driver_objects.proofs.Lists.{element_is}
use Rattle.driver_core.specs.Stands.{IsContent, Stands, is_owed}
use Rattle.driver_core.specs.declared.driver.Core.{Core}
use Rattle.driver_core.proofs.ModelKinds.{queue_other}
use Rattle.driver_core.proofs.Named.{kinds_same}
use Rattle.driver_core.proofs.StillContent.{queue_of}
use Rattle.driver_core.proofs.TickedQueues.{due_by_place}

-- ---- two lists, one of them with gaps

module _ {X Y Z : Type 0} (f : X → Option Z) (g : ℕ × Y → Option Z) (place : X → ℕ) where
  -- The elements of the first stand by rising places, from this one on; each stands at its place in the second and gives what that one
  -- gives. What isn't in the first gives nothing.
  record Agree (from : ℕ) (xs : List X) (ys : List Y) : Type 0 where
    rising : (i j : ℕ) (a b : X) → i < j → slice_get xs i ≡ Some a → slice_get xs j ≡ Some b → place a < place b
    there : (i : ℕ) (a : X) → slice_get xs i ≡ Some a → (p : ℕ) × (o : Y) × (place a ≡ from + p) × (slice_get ys p ≡ Some o) × (f a ≡ g (place a, o))
    back : (p : ℕ) (o : Y) → slice_get ys p ≡ Some o → ((i : ℕ) × (a : X) × (slice_get xs i ≡ Some a) × (place a ≡ from + p)) ⊎ (g (from + p, o) ≡ None)

  module _ (from : ℕ) (x : X) (xs : List X) (y : Y) (ys : List Y) (agree : Agree from (x ∷ xs) (y ∷ ys)) where
    least : (i : ℕ) (a : X) → slice_get (x ∷ xs) i ≡ Some a → place x ≤ place a
    least zero a at = let e : place x ≡ place a = ap place (element_is x a at) in omega (arith, e)
    least (suc i) a at = let lt = agree.rising 0 (suc i) x a (omega arith) refl at in omega (arith, lt)

    from_least : from ≤ place x
    from_least = let t = agree.there 0 x refl in let e = t.2 in omega (arith, e)

    behind : (i : ℕ) (a : X) → slice_get xs i ≡ Some a → place x < place a
    behind i a at = agree.rising 0 (suc i) x a (omega arith) refl at

    -- what stands behind the first of the second list
    later : (q : ℕ) (o : Y) (p : ℕ) → from < q → q ≡ from + p → slice_get (y ∷ ys) p ≡ Some o → (r : ℕ) × (q ≡ from + 1 + r) × (slice_get ys r ≡ Some o)
    later q o zero above same at = absurd (omega (arith, above, same))
    later q o (suc r) above same at = (r, omega (arith, same), at)

    -- the first of both is the same one
    module _ (here : place x ≡ from) where
      same_first : f x ≡ g (from, y)
      same_first =
          let t = agree.there 0 x refl in
          let zeroth : t.0 ≡ 0 = let e = t.2 in omega (arith, here, e) in
          let is : y ≡ t.1 = element_is y t.1 (subst (λ p. slice_get (y ∷ ys) p ≡ Some t.1) zeroth t.3) in
          t.4 ∙ λ i. g (here i, sym is i)

      without_both : Agree (from + 1) xs ys
      without_both = record {
        rising = λ i j a b lt at bt. agree.rising (suc i) (suc j) a b (omega (arith, lt)) at bt;
        there = λ i a at.
            let t = agree.there (suc i) a at in
            let lt = behind i a at in
            let r = later (place a) t.1 t.0 (omega (arith, lt, here)) t.2 t.3 in
            (r.0, t.1, r.1, r.2, t.4);
        back = λ p o at. elim (agree.back (suc p) o at) [
          | inl b ↦ inl (not_first p b.0 b.1 b.2 b.3)
          | inr none ↦ inr (let e : from + suc p ≡ from + 1 + p = omega arith in ap (λ q. g (q, o)) (sym e) ∙ none)
        ];
      }
        where
          not_first : (p i : ℕ) (a : X) → slice_get (x ∷ xs) i ≡ Some a → place a ≡ from + suc p → (j : ℕ) × (b : X) × (slice_get xs j ≡ Some b) × (place b ≡ from + 1 + p)
          not_first p zero a at same = absurd (let e : place x ≡ place a = ap place (element_is x a at) in omega (arith, e, same, here))
          not_first p (suc j) a at same = (j, a, at, omega (arith, same))

    -- the second list's first isn't in the first list
    module _ (above : from < place x) where
      missing : g (from, y) ≡ None
      missing = elim (agree.back 0 y refl) [
        | inl b ↦ absurd (let le = least b.0 b.1 b.2 in let e = b.3 in omega (arith, above, le, e))
        | inr none ↦ let e : from + 0 ≡ from = omega arith in ap (λ q. g (q, y)) (sym e) ∙ none
      ]

      without_one : Agree (from + 1) (x ∷ xs) ys
      without_one = record {
        rising = agree.rising;
        there = λ i a at.
            let t = agree.there i a at in
            let le = least i a at in
            let r = later (place a) t.1 t.0 (omega (arith, le, above)) t.2 t.3 in
            (r.0, t.1, r.1, r.2, t.4);
        back = λ p o at. elim (agree.back (suc p) o at) [
          | inl b ↦ inl (b.0, b.1, b.2, let e = b.3 in omega (arith, e))
          | inr none ↦ inr (let e : from + suc p ≡ from + 1 + p = omega arith in ap (λ q. g (q, o)) (sym e) ∙ none)
        ];
      }

  here_or_above : (m n : ℕ) → m ≤ n → (n ≡ m) ⊎ (m < n)
  here_or_above m n le = grind (arith, le)

  same_filter : (from : ℕ) (xs : List X) (ys : List Y) → Agree from xs ys → filter_map f xs ≡ filter_map g (enumerate_from from ys)
  same_filter from [] [] agree = refl
  same_filter from (x ∷ xs) [] agree = absurd (let t = agree.there 0 x refl in none-some t.1 t.3)
  same_filter from [] (y ∷ ys) agree =
      let none : g (from, y) ≡ None = elim (agree.back 0 y refl) [
        | inl b ↦ absurd (none-some b.1 b.2)
        | inr none ↦ let e : from + 0 ≡ from = omega arith in ap (λ q. g (q, y)) (sym e) ∙ none
      ] in
      same_filter (from + 1) [] ys (record {
        rising = λ i j a b lt at bt. agree.rising i j a b lt at bt;
        there = λ i a at. absurd (none-some a at);
        back = λ p o at. elim (agree.back (suc p) o at) [
          | inl b ↦ absurd (none-some b.1 b.2)
          | inr none ↦ inr (let e : from + suc p ≡ from + 1 + p = omega arith in ap (λ q. g (q, o)) (sym e) ∙ none)
        ];
      })
      ∙ ap (λ o. cons_option o (filter_map g (enumerate_from (from + 1) ys))) (sym none)
  same_filter from (x ∷ xs) (y ∷ ys) agree = elim (here_or_above from (place x) (from_least from x xs y ys agree)) [
    | inl here ↦ λ i. cons_option (same_first from x xs y ys agree here i) (same_filter (from + 1) xs ys (without_both from x xs y ys agree here) i)
    | inr above ↦ same_filter (from + 1) (x ∷ xs) ys (without_one from x xs y ys agree above) ∙ ap (λ o. cons_option o (filter_map g (enumerate_from (from + 1) ys))) (sym (missing from x xs y ys agree above))
  ]

map_filter : {X Y Z : Type 0} (f : X → Option Y) (change : Y → Z) (xs : List X) → map change (filter_map f xs) ≡ filter_map (λ x. option_map change (f x)) xs
map_filter f change [] = refl
map_filter f change (x ∷ xs) = by_first (f x) (map_filter f change xs) where
  by_first : (o : Option _) → map change (filter_map f xs) ≡ filter_map (λ x. option_map change (f x)) xs
      → map change (cons_option o (filter_map f xs)) ≡ cons_option (option_map change o) (filter_map (λ x. option_map change (f x)) xs)
  by_first None rest = rest
  by_first (Some y) rest = ap (λ zs. change y ∷ zs) rest

-- ---- one object

module _ (queues : List (Queue Surface)) (owed : Bool) (on time : ℕ) (object : Object) where
  none_due : (what : model.Content) (kept : Content) → IsContent queues owed what kept → (kind_number kept ≡ number.PRESENTATION_QUEUE → ⊥) → option_and_then (clock.due_in time object.place) (model.as_queue what) ≡ None
  none_due what kept is other = ap (option_and_then (clock.due_in time object.place)) (queue_other what (λ e. other (sym (kinds_same queues owed what kept is) ∙ e)))

  own_due : (what : model.Content) (kept : Content) → IsContent queues owed what kept → option_map placed (due_in queues time object kept) ≡ option_and_then (clock.due_in time object.place) (model.as_queue what)
  own_due what (content.Device of) is = sym (none_due what (content.Device of) is (λ e. omega (arith, e)))
  own_due what (content.Video of) is = sym (none_due what (content.Video of) is (λ e. omega (arith, e)))
  own_due what (content.Output of) is = sym (none_due what (content.Output of) is (λ e. omega (arith, e)))
  own_due what (content.Decoder of) is = sym (none_due what (content.Decoder of) is (λ e. omega (arith, e)))
  own_due what (content.Mixer of) is = sym (none_due what (content.Mixer of) is (λ e. omega (arith, e)))
  own_due what (content.Queue of) is =
      let q = queue_of queues owed what of is in
      by_entry (due (queue_at queues of.number) time)
      ∙ (ap (option_map (λ (entry : Queued ℕ). record { queue = object.place; surface = entry.surface })) (sym (due_by_place time (queue_at queues of.number)) ∙ ap (λ x. due x time) (sym q.3))
      ∙ ap (λ c. option_and_then (clock.due_in time object.place) (model.as_queue c)) (sym q.1))
    where
      by_entry : (o : Option (Queued Surface)) → option_map placed (option_map (due_with object of) o)
          ≡ option_map (λ (entry : Queued ℕ). record { queue = object.place; surface = entry.surface }) (option_map (λ (entry : Queued Surface). record { surface = entry.surface.object; earliest = entry.earliest }) o)
      by_entry None = refl
      by_entry (Some entry) = refl

  pub due_same : (one : model.Object) → object.is_live ≡ one.is_live → object.device ≡ one.device → IsContent queues owed one.content object.content
      → option_map placed (due_of queues on time object) ≡ clock.due_at on time (object.place, one)
  due_same one live device is =
      by_test (object.is_live && object.device == on)
      ∙ (ap (λ o. if object.is_live && object.device == on then o else None) (own_due one.content object.content is)
      ∙ λ i. if live i && device i == on then option_and_then (clock.due_in time object.place) (model.as_queue one.content) else None)
    where
      by_test : (b : Bool) → option_map placed (if b then due_in queues time object object.content else None) ≡ (if b then option_map placed (due_in queues time object object.content) else None)
      by_test true = refl
      by_test false = refl

-- ---- all of them

pub dues_same : (core : Core) (d : State) (on time : ℕ) → Stands core d → map placed (filter_map (due_of core.queues on time) (kept_of core.objects)) ≡ clock.all_due d on time
dues_same core d on time stands =
    map_filter (due_of core.queues on time) placed (kept_of core.objects)
    ∙ same_filter (λ (o : Object). option_map placed (due_of core.queues on time o)) (clock.due_at on time) (λ (o : Object). o.place) 0 (kept_of core.objects) d.objects (record {
      rising = core.objects.sound.rising;
      there = λ i o at.
          let k = stands.kept i o at in
          (o.place, k.0, omega arith, k.1, due_same core.queues (is_owed d o.place) on time o k.0 k.3.live k.3.device k.3.content);
      back = λ p one at. elim (true_or_false one.is_live) [
        | inl live ↦ let n = stands.needed p one at (ap (λ b. b || is_in_queue d p) live) in let e = n.3 in inl (n.0, n.1, n.2, omega (arith, e))
        | inr dead ↦ inr (ap (λ b. if b && one.device == on then option_and_then (clock.due_in time (0 + p)) (model.as_queue one.content) else None) dead)
      ];
    })
