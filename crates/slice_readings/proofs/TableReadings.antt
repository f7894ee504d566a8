-- What bits spell by a table of elements is few.
use Rattle.std.proofs.Common.{◌≡◌, ◌-◌, ◌^◌, Bool, List, [], ◌++◌, None, refl, sym, ap, ap₂, ◌∙◌, append_assoc}
use Rattle.bit_io.specs.Bits as bits
use Rattle.bit_io.specs.Codewords as codewords
use Rattle.bit_io.specs.Codewords.{IsU, IsUe, IsSe}
use Rattle.element_tables.specs.Syntax.{BeginsWith, Made, Rule, Se, Spells, Syntax, Takes, U, Ue}
use Rattle.finite.specs.Finite.{Finite}
use Rattle.finite.proofs.Deciding.{both, decided_as}
use Rattle.finite.proofs.Equal.{equal_booleans, is_none}
use Rattle.finite.proofs.Lists.{begins}
use Rattle.finite.proofs.Numbers.{integers_below, numbers_below, numbers_up_to}
use Rattle.finite.proofs.Sets.{same, single}

-- An element begins the bits, and what is read behind it is few.
BeginsBefore : {A V : Type 0} → (V → Type 0) → (V → List Bool) → Rule V → (V → Syntax A) → List Bool → A × List Bool → Type 0
BeginsBefore {A} {V} IsValue code rule more whole p =
    (v : V) × (rest : List Bool) × IsValue v × (rule v ≡ None) × (whole ≡ code v ++ rest) × Takes (more v) rest p.0 p.1

begins_few : {A V : Type 0} (IsValue : V → Type 0) (code : V → List Bool) (rule : Rule V) (more : V → Syntax A) (whole : List Bool) → Finite IsValue
    → ((v : V) (rest : List Bool) → Finite (λ (p : A × List Bool). Takes (more v) rest p.0 p.1)) → Finite (BeginsBefore IsValue code rule more whole)
unfolding BeginsBefore
begins_few {A} {V} IsValue code rule more whole values behind = record {
  find = λ Q each. decided_as
      (λ found. (found.2.1.2.0, (found.0, found.2.1.0, found.1, found.2.0, found.2.1.1, found.2.1.2.1), found.2.1.2.2))
      (λ found. (found.1.0, found.1.2, (found.1.3, (found.1.1, found.1.4, (found.0, found.1.5, found.2)))))
      (values.find (λ v. (rule v ≡ None)
      × ((rest : List Bool) × (whole ≡ code v ++ rest) × ((p : A × List Bool) × Takes (more v) rest p.0 p.1 × Q p)))
      (λ v is. both (is_none (rule v)) (λ accepted. begins equal_booleans (code v) whole _
      (λ rest e. (behind v rest).find Q (λ p takes. each p (v, rest, is, accepted, e, takes))))));
}

-- ---- the elements of a table

module _ {A V : Type 0} (IsValue : V → Type 0) (code : V → List Bool) (rule : Rule V) (more : V → Syntax A) where
  parted : (front rest : List Bool) (a : A) (whole : List Bool) → BeginsWith IsValue code rule (λ v rest. Spells (more v) rest a) front
      → whole ≡ front ++ rest
      → BeginsBefore IsValue code rule more whole (a, rest)
  unfolding BeginsBefore
  parted front rest a whole (v, left, is, accepted, e, spelled) parts = (
    v,
    left ++ rest,
    is,
    accepted,
    parts ∙ ap (λ (x : List Bool). x ++ rest) e ∙ append_assoc (code v) left rest,
    record { front = left; spelled = spelled; parts = refl },
  )

  Joined : List Bool → A → List Bool → Type 0
  Joined whole a rest = (front : List Bool) × BeginsWith IsValue code rule (λ v rest. Spells (more v) rest a) front × (whole ≡ front ++ rest)

  joined : (whole : List Bool) (a : A) (rest : List Bool) → BeginsBefore IsValue code rule more whole (a, rest) → Joined whole a rest
  unfolding BeginsBefore Joined
  joined whole a rest (v, left, is, accepted, e, takes) = (
    code v ++ takes.front,
    (v, takes.front, is, accepted, refl, takes.spelled),
    e ∙ ap (λ (x : List Bool). code v ++ x) takes.parts ∙ sym (append_assoc (code v) takes.front rest),
  )

made_few : {A : Type 0} (a : A) (whole : List Bool) → Finite (λ (p : A × List Bool). Takes (Made a) whole p.0 p.1)
made_few {A} a whole = same (λ (p : A × List Bool). Takes (Made a) whole p.0 p.1) (single {A = A × List Bool} (a, whole))
    (λ p e. made p e) (λ p h. is_made p h)
  where
    made : (p : A × List Bool) → p ≡ (a, whole) → Takes (Made a) whole p.0 p.1
    made p e = record { front = []; spelled = (refl, ap (λ (p : A × List Bool). p.0) (sym e)); parts = ap (λ (p : A × List Bool). p.1) (sym e) }

    is_made : (p : A × List Bool) → Takes (Made a) whole p.0 p.1 → p ≡ (a, whole)
    is_made p h =
        let left : whole ≡ p.1 = h.parts ∙ ap (λ (x : List Bool). x ++ p.1) h.spelled.0 in
        ap₂ (λ (b : A) (rest : List Bool). let q : A × List Bool = (b, rest) in q) (sym h.spelled.1) (sym left)

pub takes_few : {A : Type 0} (table : Syntax A) (whole : List Bool) → Finite (λ (p : A × List Bool). Takes table whole p.0 p.1)
unfolding Joined
takes_few (Made a) whole = made_few a whole
takes_few {A} (U n rule more) whole = same (λ (p : A × List Bool). Takes (U n rule more) whole p.0 p.1)
    (begins_few (IsU n) (λ v. bits.u v n) rule more whole (numbers_below (2 ^ n)) (λ v rest. takes_few (more v) rest))
    (λ p h. let j = joined (IsU n) (λ v. bits.u v n) rule more whole p.0 p.1 h in record { front = j.0; spelled = j.1; parts = j.2 })
    (λ p h. parted (IsU n) (λ v. bits.u v n) rule more h.front p.1 p.0 whole h.spelled h.parts)
takes_few {A} (Ue rule more) whole = same (λ (p : A × List Bool). Takes (Ue rule more) whole p.0 p.1)
    (begins_few IsUe codewords.ue rule more whole (numbers_up_to (2 ^ 32 - 2)) (λ v rest. takes_few (more v) rest))
    (λ p h. let j = joined IsUe codewords.ue rule more whole p.0 p.1 h in record { front = j.0; spelled = j.1; parts = j.2 })
    (λ p h. parted IsUe codewords.ue rule more h.front p.1 p.0 whole h.spelled h.parts)
takes_few {A} (Se rule more) whole = same (λ (p : A × List Bool). Takes (Se rule more) whole p.0 p.1)
    (begins_few IsSe codewords.se rule more whole (integers_below (2 ^ 31)) (λ v rest. takes_few (more v) rest))
    (λ p h. let j = joined IsSe codewords.se rule more whole p.0 p.1 h in record { front = j.0; spelled = j.1; parts = j.2 })
    (λ p h. parted IsSe codewords.se rule more h.front p.1 p.0 whole h.spelled h.parts)
