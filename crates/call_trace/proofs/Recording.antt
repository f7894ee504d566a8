-- A tick and its flips, recorded one after the other.
use Rattle.std.proofs.Common.{◌≡◌, Bool, true, false, ℕ, zero, suc, ◌+◌, ◌<◌, List, [], ◌∷◌, ◌++◌, length, map, take, slice_get, Option, Some, None, refl, ap, sym, ◌∙◌, append_assoc, add-one, arith}
use Rattle.std.proofs.lemmas.Bool.{false≢true}
use Rattle.std.proofs.lemmas.List.{take_all}
use Rattle.driver_model.specs.declared.replies.Flipped.{Flipped}
use Rattle.trace_records.specs.Traces.{flip_event, record_at}
use Rattle.trace_records.specs.declared.record.Event.{Event}
use Rattle.trace_records.specs.declared.record.Event.TheVariants.{Advance}
use Rattle.trace_records.specs.declared.record.Record.{Record}

-- what is recorded when so many flips are
abbrev pub so_far : List Record → ℕ → Event → List Flipped → ℕ → List Record
so_far before place tick flips i = before ++ map (record_at place) (tick ∷ map flip_event (take i flips))

one_is : (one other : Flipped) → Some one ≡ Some other → one ≡ other
one_is one other e = ap (λ (o : Option Flipped). held o) e where
  held : Option Flipped → Flipped
  held (Some it) = it
  held None = one

nothing_there : {X : Type 0} (flip : Flipped) → None ≡ Some flip → X
nothing_there flip e = absurd (false≢true (ap is_there e)) where
  is_there : Option Flipped → Bool
  is_there (Some it) = true
  is_there None = false

one_more : (place : ℕ) (flips : List Flipped) (i : ℕ) (flip : Flipped) → slice_get flips i ≡ Some flip
    → map (record_at place) (map flip_event (take (i + 1) flips)) ≡ map (record_at place) (map flip_event (take i flips)) ++ record_at place (flip_event flip) ∷ []
one_more place flips i flip at = ap (λ n. map (record_at place) (map flip_event (take n flips))) (add-one i) ∙ one flips i at where
  one : (some : List Flipped) (n : ℕ) → slice_get some n ≡ Some flip
      → map (record_at place) (map flip_event (take (suc n) some)) ≡ map (record_at place) (map flip_event (take n some)) ++ record_at place (flip_event flip) ∷ []
  one [] n is = nothing_there flip is
  one (first ∷ later) zero is = ap (λ f. record_at place (flip_event f) ∷ []) (one_is first flip is)
  one (first ∷ later) (suc n) is = ap (λ rest. record_at place (flip_event first) ∷ rest) (one later n is)

-- and one flip more
pub tick_more : (before : List Record) (place : ℕ) (tick : Event) (flips : List Flipped) (i : ℕ) (flip : Flipped) → slice_get flips i ≡ Some flip
    → so_far before place tick flips (i + 1) ≡ so_far before place tick flips i ++ record_at place (flip_event flip) ∷ []
tick_more before place tick flips i flip at =
    ap (λ rest. before ++ record_at place tick ∷ rest) (one_more place flips i flip at)
    ∙ sym (append_assoc before (record_at place tick ∷ map (record_at place) (map flip_event (take i flips))) (record_at place (flip_event flip) ∷ []))

-- all of them
pub tick_whole : (before : List Record) (place : ℕ) (tick : Event) (flips : List Flipped) (i : ℕ) → i ≡ length flips
    → so_far before place tick flips i ≡ before ++ map (record_at place) (tick ∷ map flip_event flips)
tick_whole before place tick flips i e = ap (λ some. before ++ map (record_at place) (tick ∷ map flip_event some)) (take_all i flips (omega (arith, e)))
