-- The queues that are due are kept, and so are the surfaces that they are to show.
use Rattle.std.proofs.Common.{◌≡◌, inl, ℕ, zero, suc, ◌<◌, ◌==◌, ◌&&◌, Bool, true, false, if◌then◌else◌, List, [], ◌∷◌, Contains, map, slice_get, Option, Some, None, option_map, refl, sym, ap, ◌∙◌, subst, arith}
use Rattle.std.specs.List.{cons_option, filter_map}
use Rattle.std.specs.Prelude.{nat_le}
use Rattle.std.proofs.lemmas.Bool.Decides.{nat_tests}
use Rattle.std.proofs.lemmas.Option.{none-some}
use Rattle.present_queue.specs.Queue.{Names, Queue, Queued, due, first_due}
use Rattle.present_queue.specs.Queues.{Surface, queue_at}
use Rattle.driver_objects.specs.Flips.{HasSurface}
use Rattle.driver_objects.specs.Kept.{kept_of, made_of}
use Rattle.driver_objects.specs.Kinds.{holder_of, number_of}
use Rattle.driver_objects.specs.Ticks.{due_in, due_of, due_with}
use Rattle.driver_objects.specs.declared.content.Content.{Content}
use Rattle.driver_objects.specs.declared.content.Content.TheVariants as content
use Rattle.driver_objects.specs.declared.content.OutputSurface.{OutputSurface}
use Rattle.driver_objects.specs.declared.content.PresentationQueue.{PresentationQueue}
use Rattle.driver_objects.specs.declared.object.Object.{Object}
use Rattle.driver_objects.specs.declared.ticks.Due.{Due}
use Rattle.driver_objects.proofs.Cases.{same_bool}
use Rattle.driver_objects.proofs.Lists.{element_is, one_kept, some_passes}
use Rattle.driver_objects.proofs.Searched.{place_is_one}
use Rattle.driver_core.specs.Sound.{is_surface}
use Rattle.driver_core.specs.declared.driver.Core.{Core}
use Rattle.driver_core.proofs.Presenting.{holder_is}

-- what stands in a list of what elements give, one of them gave
pub in_filtered : {X Z : Type 0} (f : X → Option Z) (xs : List X) (i : ℕ) (z : Z) → slice_get (filter_map f xs) i ≡ Some z → (j : ℕ) × (x : X) × (slice_get xs j ≡ Some x) × (f x ≡ Some z)
in_filtered f [] i z at = absurd (none-some z at)
in_filtered f (x ∷ xs) i z at = by_first (f x) refl (in_filtered f xs) i at where
  by_first : (o : Option _) → f x ≡ o → ((i : ℕ) (z : _) → slice_get (filter_map f xs) i ≡ Some z → (j : ℕ) × (x : _) × (slice_get xs j ≡ Some x) × (f x ≡ Some z))
      → (i : ℕ) → slice_get (cons_option o (filter_map f xs)) i ≡ Some z → (j : ℕ) × (y : _) × (slice_get (x ∷ xs) j ≡ Some y) × (f y ≡ Some z)
  by_first None e rest i at = let r = rest i z at in (suc r.0, r.1, r.2, r.3)
  by_first (Some first) e rest zero at = (0, x, refl, e ∙ at)
  by_first (Some first) e rest (suc i) at = let r = rest i z at in (suc r.0, r.1, r.2, r.3)

-- a queue that is due
pub record IsDue (queues : List (Queue Surface)) (on time : ℕ) (object : Object) (one : Due) : Type 0 where
  pub of : PresentationQueue
  pub has : object.content ≡ content.Queue of
  pub live : object.is_live ≡ true
  pub device : (object.device == on) ≡ true
  pub entry : Queued Surface
  pub is_due : due (queue_at queues of.number) time ≡ Some entry
  pub is : one ≡ due_with object of entry

module _ (queues : List (Queue Surface)) (on time : ℕ) (object : Object) (one : Due) where
  by_entry : (of : PresentationQueue) (o : Option (Queued Surface)) → option_map (due_with object of) o ≡ Some one → (entry : Queued Surface) × (o ≡ Some entry) × (one ≡ due_with object of entry)
  by_entry of None e = absurd (none-some one e)
  by_entry of (Some entry) e = (entry, refl, element_is one (due_with object of entry) (sym e))

  by_content : (what : Content) → object.content ≡ what → object.is_live ≡ true → (object.device == on) ≡ true → due_in queues time object what ≡ Some one → IsDue queues on time object one
  by_content (content.Device of) has live device e = absurd (none-some one e)
  by_content (content.Video of) has live device e = absurd (none-some one e)
  by_content (content.Output of) has live device e = absurd (none-some one e)
  by_content (content.Decoder of) has live device e = absurd (none-some one e)
  by_content (content.Mixer of) has live device e = absurd (none-some one e)
  by_content (content.Queue of) has live device e =
      let b = by_entry of (due (queue_at queues of.number) time) e in
      record { of = of; has = has; live = live; device = device; entry = b.0; is_due = b.1; is = b.2 }

  pub due_is : due_of queues on time object ≡ Some one → IsDue queues on time object one
  due_is e = by_test (object.is_live && object.device == on) refl e where
    by_test : (b : Bool) → (object.is_live && object.device == on) ≡ b → (if b then due_in queues time object object.content else None) ≡ Some one → IsDue queues on time object one
    by_test true test e = by_content object.content refl (grind (arith, test)) (grind (arith, test)) e
    by_test false test e = absurd (none-some one e)

-- the queue names what it is to show
due_named : (time : ℕ) (queue : Queue Surface) (entry : Queued Surface) → due queue time ≡ Some entry → Names queue entry.surface
due_named time queue entry is = of_entries queue.entries refl is where
  of_entries : (entries : List (Queued Surface)) → queue.entries ≡ entries → first_due entries time ≡ Some entry → Names queue entry.surface
  of_entries [] e is = absurd (none-some entry is)
  of_entries (first ∷ rest) e is = by_time (nat_le first.earliest time) is where
    by_time : (b : Bool) → (if b then Some first else None) ≡ Some entry → Names queue entry.surface
    by_time true is = inl (subst (λ es. Contains (map (λ (x : Queued Surface). x.surface) es) entry.surface) (sym e) (0, omega arith, ap (λ (x : Queued Surface). x.surface) (element_is first entry is)))
    by_time false is = absurd (none-some entry is)

module _ (core : Core) (on time : ℕ) where
  abbrev pub dues_of : List Due
  dues_of = filter_map (due_of core.queues on time) (kept_of core.objects)

  -- each is of a queue that is kept
  pub record OfQueue (one : Due) : Type 0 where
    pub index : ℕ
    pub object : Object
    pub there : slice_get (kept_of core.objects) index ≡ Some object
    pub is : IsDue core.queues on time object one

  pub of_queue : (i : ℕ) (one : Due) → slice_get dues_of i ≡ Some one → OfQueue one
  of_queue i one at =
      let f = in_filtered (due_of core.queues on time) (kept_of core.objects) i one at in
      record { index = f.0; object = f.1; there = f.2; is = due_is core.queues on time f.1 one f.3 }

  number_is : (one : Due) (q : OfQueue one) → number_of q.object.content ≡ Some one.number
  number_is one q = ap number_of q.is.has ∙ ap (λ (d : Due). Some d.number) (sym q.is.is)

  pub number_within : (i : ℕ) (one : Due) → slice_get dues_of i ≡ Some one → one.number < 64
  number_within i one at = let q = of_queue i one at in core.sound.numbers q.index q.object one.number q.there (number_is one q)

  -- what it is to show is kept
  pub surface_there : (i : ℕ) (one : Due) → slice_get dues_of i ≡ Some one → HasSurface (kept_of core.objects) one.surface
  surface_there i one at =
      let q = of_queue i one at in
      let surface = q.is.entry.surface in
      let s = some_passes (is_surface surface) (kept_of core.objects) (core.sound.surfaces q.is.of.number surface (due_named time (queue_at core.queues q.is.of.number) q.is.entry q.is.is_due)) in
      let is = holder_is surface s.1 s.3 in
      let o = output_by_holder s.1.content surface.holder is.1 in
      record {
        index = s.0;
        object = s.1;
        surface = o.0;
        there = s.2;
        at_place = is.0 ∙ ap (λ (d : Due). d.surface) (sym q.is.is);
        has = o.1;
        within = (core.sound.outputs s.0 s.1 o.0 s.2 o.1).0;
      }
    where
      output_by_holder : (what : Content) (holder : ℕ) → holder_of what ≡ Some holder → (of : OutputSurface) × (what ≡ content.Output of)
      output_by_holder (content.Device of) holder is = absurd (none-some holder is)
      output_by_holder (content.Video of) holder is = absurd (none-some holder is)
      output_by_holder (content.Output of) holder is = (of, refl)
      output_by_holder (content.Decoder of) holder is = absurd (none-some holder is)
      output_by_holder (content.Mixer of) holder is = absurd (none-some holder is)
      output_by_holder (content.Queue of) holder is = absurd (none-some holder is)

  -- a kept queue is due by its number where it is by its place
  pub same_queue : (index number : ℕ) (object : Object) → slice_get (kept_of core.objects) index ≡ Some object → number_of object.content ≡ Some number
      → (i : ℕ) (one : Due) → slice_get dues_of i ≡ Some one → (number == one.number) ≡ (object.place == one.queue)
  same_queue index number object there has i one at =
      same_bool (number == one.number) (object.place == one.queue) to back
    where
      q : OfQueue one
      q = of_queue i one at

      queue_place : one.queue ≡ q.object.place
      queue_place = ap (λ (d : Due). d.queue) q.is.is

      to : (number == one.number) ≡ true → (object.place == one.queue) ≡ true
      to e =
          let n : number ≡ one.number = grind (arith, nat_tests, e) in
          let here = core.sound.numbers_apart index q.index object q.object number there q.there has (number_is one q ∙ ap Some (sym n)) in
          let o : object ≡ q.object = one_kept (kept_of core.objects) q.index object q.object (subst (λ k. slice_get (kept_of core.objects) k ≡ Some object) here there) q.there in
          let p : object.place ≡ one.queue = ap (λ (x : Object). x.place) o ∙ sym queue_place in
          grind (arith, nat_tests, p)

      back : (object.place == one.queue) ≡ true → (number == one.number) ≡ true
      back e =
          let p : object.place ≡ one.queue = grind (arith, nat_tests, e) in
          let here = place_is_one core.objects.names (kept_of core.objects) (made_of core.objects) core.objects.sound index q.index object q.object there q.there (p ∙ queue_place) in
          let o : q.object ≡ object = one_kept (kept_of core.objects) index q.object object (subst (λ k. slice_get (kept_of core.objects) k ≡ Some q.object) here q.there) there in
          let n : number ≡ one.number = element_is number one.number (sym has ∙ (ap (λ (x : Object). number_of x.content) (sym o) ∙ number_is one q)) in
          grind (arith, nat_tests, n)
