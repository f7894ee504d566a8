-- What a stable sort by place leaves of each place.
use Rattle.std.proofs.Common.{◌≡◌, ℕ, Bool, true, false, cond, ◌==◌, inl, inr, eq-eqb, eqb-true, List, filter, refl, ap₂, ◌∙◌, sym, arith, not, ◌&&◌, nat_lt}
use Rattle.std.specs.List.Sorted.{IsStableByKey, ties}
use Rattle.std.specs.Ordering.{is_lt, nat_cmp}
use Rattle.std.specs.declared.cmp.Ordering.TheVariants.{Equal, Greater, Less}
use Rattle.std.proofs.lemmas.Bool.{cases_order, le-ltb, lt-ltb}
use Rattle.std.proofs.lemmas.List.Elements.{filter_agree}
use Rattle.trace_records.specs.Places.{is_at}
use Rattle.trace_records.specs.declared.record.Event.TheVariants.{Preempt}
use Rattle.trace_records.specs.declared.record.Record.{Record}

abbrev before : Record → Record → Bool
before r s = is_lt (nat_cmp r.place s.place)

less-is : (p q : Bool) → is_lt (cond p Less (cond q Equal Greater)) ≡ p
less-is true q = refl
less-is false true = refl
less-is false false = refl

not-true : (b : Bool) → (b ≡ true → ⊥) → b ≡ false
not-true true refused = absurd (refused refl)
not-true false refused = refl

differ : (a b : ℕ) → (a ≡ b → ⊥) → (a == b) ≡ false
differ a b apart = not-true (a == b) (λ h. apart (eqb-true a b h))

tied-by : (x y : ℕ) → (y == x) ≡ not (nat_lt x y) && not (nat_lt y x)
tied-by x y = elim (cases_order x y) [
  | inl same ↦
      let e : (y == x) ≡ true = eq-eqb y x (sym same) in
      let a : nat_lt x y ≡ false = le-ltb x y (omega arith) in
      let b : nat_lt y x ≡ false = le-ltb y x (omega arith) in
      rw (e, a, b) refl
  | inr (inl below) ↦
      let e : (y == x) ≡ false = differ y x (λ same. omega (arith, same, below)) in
      let a : nat_lt x y ≡ true = lt-ltb x y below in
      rw (e, a) refl
  | inr (inr above) ↦
      let e : (y == x) ≡ false = differ y x (λ same. omega (arith, same, above)) in
      let a : nat_lt x y ≡ false = le-ltb x y (omega arith) in
      let b : nat_lt y x ≡ true = lt-ltb y x above in
      rw (e, a, b) refl
]

tied : (x y : ℕ) → (y == x) ≡ not (is_lt (nat_cmp x y)) && not (is_lt (nat_cmp y x))
tied x y =
    tied-by x y ∙ ap₂ (λ a b. not a && not b) (sym (less-is (nat_lt x y) (x == y))) (sym (less-is (nat_lt y x) (y == x)))

ties-is : (place : ℕ) (r : Record) → is_at place r ≡ ties before (record { place = place; event = Preempt 0 }) r
ties-is place r = tied place r.place

pub each_place : (records sorted : List Record) → IsStableByKey (λ (r : Record). r.place) nat_cmp records sorted → (place : ℕ) → filter (is_at place) sorted ≡ filter (is_at place) records
each_place records sorted stable place =
    filter_agree (is_at place) _ (ties-is place) sorted ∙ stable (record { place = place; event = Preempt 0 }) ∙ sym (filter_agree (is_at place) _ (ties-is place) records)
