-- Where units to come stand.
use Rattle.std.proofs.Common.{ℕ, ◌≤◌, inl, inr, List, [], ◌∷◌, ◌++◌, sym, subst, arith, length-append}
use Rattle.std.proofs.lemmas.List.{get_or_append_left}
use Rattle.access_units.specs.Contents.{Told, places_of}
use Rattle.access_units.specs.Standing.{IsBehindStart}
use Rattle.access_units.proofs.UnitLemmas.{places_of-cons}

start_append : (places more : List (ℕ × ℕ)) (from : ℕ) → IsBehindStart places from → IsBehindStart (places ++ more) from
start_append places more from (inl zero) = inl zero
start_append places more from (inr at) = inr (at.0, omega (arith, at.1, length-append places more), subst (λ (p : ℕ × ℕ). from ≤ p.0) (sym (get_or_append_left places more (0, 0) at.0 at.1)) at.2)

-- so they do with one unit more
pub start_more : (unit : Told) (told : List Told) (from : ℕ) → IsBehindStart (places_of told) from → IsBehindStart (places_of (unit ∷ told)) from
start_more unit told from start =
    subst (λ (places : List (ℕ × ℕ)). IsBehindStart places from) (sym (places_of-cons unit told)) (start_append (places_of told) (unit.place ∷ []) from start)
