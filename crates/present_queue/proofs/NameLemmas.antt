-- For callers: which surfaces the queues name after a step.
use Rattle.std.proofs.Common.{◌≡◌, ◌⊎◌, ℕ, zero, suc, cond, leb, true, false, Bool, List, [], ◌∷◌, set, map, replicate, Option, Some, None, refl, subst, inl, inr, arith}
use Rattle.std.specs.List.{Contains}
use Rattle.std.proofs.lemmas.List.{map_push}
use Rattle.std.proofs.lemmas.List.Elements.{Contains-push_cases}
use Rattle.present_queue.specs.Queue.{Names, Queue, Queued, displayed, empty_queue, promised, ticked, ticked_by}
use Rattle.present_queue.specs.Queues.{Surface, queue_at}

module _ {S : Type 0} (s : S) where
  pub Names-empty : Names (empty_queue {S = S}) s → ⊥
  Names-empty (inl there) = absurd (omega (arith, there.1))
  Names-empty (inr shown) = absurd (cc)

  pub Names-displayed : (queue : Queue S) (entry : Queued S) → Names (displayed queue entry) s → Names queue s ⊎ (entry.surface ≡ s)
  Names-displayed queue entry (inr shown) = inl (inr shown)
  Names-displayed queue entry (inl there) =
      let P : List S → Type 0 = λ surfaces. Contains surfaces s in
      elim (Contains-push_cases (map (λ (e : Queued S). e.surface) queue.entries) entry.surface s (subst P (map_push (λ (e : Queued S). e.surface) queue.entries entry) there)) [
        | inl before ↦ inl (inl before)
        | inr last ↦ inr last
      ]

  pub Names-promised : (queue : Queue S) (time : ℕ) → Names (promised queue time) s → Names queue s
  Names-promised queue time (inl there) = inl there
  Names-promised queue time (inr shown) = inr shown

  Contains-rest : (x : S) (xs : List S) → Contains xs s → Contains (x ∷ xs) s
  Contains-rest x xs there = (suc there.0, omega arith, there.2)

  -- an entry that is taken was the first one
  taken : (entries : List (Queued S)) (visible : Option S) (promise time : ℕ) → Names (ticked (record { entries = entries; visible = visible; promise = promise }) time) s → Names (record { entries = entries; visible = visible; promise = promise }) s
  taken [] visible promise time named = named
  taken (entry ∷ rest) visible promise time named = by_time (leb entry.earliest time) named
    where
      by_time : (is_due : Bool) → Names (ticked_by (cond is_due (Some entry) None) (record { entries = entry ∷ rest; visible = visible; promise = promise })) s → Names (record { entries = entry ∷ rest; visible = visible; promise = promise }) s
      by_time false named = named
      by_time true (inl there) = inl (Contains-rest entry.surface (map (λ (e : Queued S). e.surface) rest) there)
      by_time true (inr shown) = let is : entry.surface ≡ s = cc in inl (0, omega arith, is)

  pub Names-ticked : (queue : Queue S) (time : ℕ) → Names (ticked queue time) s → Names queue s
  Names-ticked queue time named = taken queue.entries queue.visible queue.promise time named

-- Only the queue that changed may name another surface.
pub Names-set : (surface : Surface) (queues : List (Queue Surface)) (changed : ℕ) (queue : Queue Surface) (number : ℕ) → Names (queue_at (set queues changed queue) number) surface → Names queue surface ⊎ Names (queue_at queues number) surface
Names-set surface [] changed queue number named = inr named
Names-set surface (q ∷ queues) zero queue zero named = inl named
Names-set surface (q ∷ queues) zero queue (suc number) named = inr named
Names-set surface (q ∷ queues) (suc changed) queue zero named = inr named
Names-set surface (q ∷ queues) (suc changed) queue (suc number) named = Names-set surface queues changed queue number named

pub queue_at-empty : (count number : ℕ) → queue_at (replicate count (empty_queue {S = Surface})) number ≡ empty_queue
queue_at-empty zero number = refl
queue_at-empty (suc count) zero = refl
queue_at-empty (suc count) (suc number) = queue_at-empty count number
