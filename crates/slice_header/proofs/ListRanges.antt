-- The ranges of elements that repeat.
use Rattle.std.proofs.Common.{◌≡◌, ◌≢◌, ℕ, zero, suc, ◌-◌, ◌^◌, ◌<◌, ◌≤◌, Bool, true, false, cond, eqb, List, ◌⊎◌, inl, inr, All, length, replicate, refl, sym, ap, subst, arith}
use Rattle.std.proofs.lemmas.List.{length-append, length-replicate, take_at}
use Rattle.std.proofs.lemmas.List.Elements.{All-cons, All-nil}
use Rattle.std.proofs.lemmas.Nat.{pow_pos}
use Rattle.element_tables.specs.Syntax.{Syntax, Takes, times, up_to}
use Rattle.element_tables.proofs.OneElement.{ue_range}
use Rattle.element_tables.proofs.Rules.{up_to_most}
use Rattle.element_tables.proofs.Tables.{made_is, takes_parts}
use Rattle.slice_header.specs.Headers.{AreFirst}
use Rattle.slice_header.specs.Lists.{listed, padded}

-- what a choice takes
pub takes_choice : {A : Type 0} (b : Bool) (first second : Syntax A) (whole : List Bool) (a : A) (rest : List Bool) → Takes (cond b first second) whole a rest
    → ((b ≡ true) × Takes first whole a rest) ⊎ ((b ≡ false) × Takes second whole a rest)
takes_choice true first second whole a rest h = inl (refl, h)
takes_choice false first second whole a rest h = inr (refl, h)

-- not the number that ends, by the test
pub number_apart : (n end : ℕ) → eqb n end ≡ false → n ≢ end
number_apart n end e = grind arith

pub number_is : (n m : ℕ) → eqb n m ≡ true → n ≡ m
number_is n m e = grind arith

pub pow_positive : (n : ℕ) → 0 < 2 ^ n
pow_positive n = pow_pos n

pub record Within {A : Type 0} (Is : A → Type 0) (most : ℕ) (xs : List A) : Type 0 where
  pub few : length xs ≤ most
  pub values : All Is xs

abbrev ItemsAre : {A : Type 0} → (A → Type 0) → ℕ → ℕ → (ℕ → Syntax A) → Type 0
ItemsAre {A} Is greatest end item = (n : ℕ) (whole : List Bool) (x : A) (rest : List Bool) → n ≤ greatest → n ≢ end → Takes (item n) whole x rest → Is x

pub listed_range : {A : Type 0} (Is : A → Type 0) (greatest end : ℕ) (item : ℕ → Syntax A) (most : ℕ) (whole : List Bool) (xs : List A) (rest : List Bool) → ItemsAre Is greatest end item
    → Takes (listed greatest end item most) whole xs rest → Within Is most xs
unfolding listed
listed_range Is greatest end item zero whole xs rest on h =
    let p = takes_parts _ h in
    subst (Within Is 0) (made_is p.3) (record { few = omega arith; values = All-nil Is })
listed_range Is greatest end item (suc most) whole xs rest on h =
    let p = takes_parts _ h in
    elim (takes_choice (eqb p.0 end) _ _ p.1 xs rest p.3) [
      | inl ends ↦ subst (Within Is (suc most)) (made_is ends.1) (record { few = omega arith; values = All-nil Is })
      | inr goes ↦
          let q = takes_parts _ goes.1 in
          let r = takes_parts _ q.3 in
          let others = listed_range Is greatest end item most q.1 r.0 r.1 on r.2 in
          let few = others.few in
          let number = up_to_most p.0 greatest (ue_range (up_to greatest) p.2.front p.0 p.2.spelled).1 in
          let first = on p.0 p.1 q.0 q.1 number (number_apart p.0 end goes.0) q.2 in
          subst (Within Is (suc most)) (made_is r.3) (record { few = omega (arith, few); values = All-cons Is q.0 r.0 first others.values })
    ]

pub record Exactly {A : Type 0} (Is : A → Type 0) (count : ℕ) (xs : List A) : Type 0 where
  pub all : length xs ≡ count
  pub values : All Is xs

pub times_range : {A : Type 0} (Is : A → Type 0) (t : Syntax A) (n : ℕ) (whole : List Bool) (xs : List A) (rest : List Bool) → ((whole : List Bool) (x : A) (rest : List Bool) → Takes t whole x rest → Is x)
    → Takes (times n t) whole xs rest → Exactly Is n xs
unfolding times
times_range Is t zero whole xs rest on h = subst (Exactly Is 0) (made_is h) (record { all = refl; values = All-nil Is })
times_range Is t (suc n) whole xs rest on h =
    let a = takes_parts _ h in
    let b = takes_parts _ a.3 in
    let others = times_range Is t n a.1 b.0 b.1 on b.2 in
    subst (Exactly Is (suc n)) (made_is b.3) (record { all = ap suc others.all; values = All-cons Is a.0 b.0 (on whole a.0 a.1 a.2) others.values })

-- in an array
pub are_first : {A : Type 0} (places : ℕ) (filler : A) (Is : A → Type 0) (xs : List A) → length xs ≤ places → All Is xs → AreFirst places Is (length xs) (padded places filler xs)
are_first places filler Is xs most all =
    let others = replicate (places - length xs) filler in
    record {
      most = most;
      long = omega (arith, most, length-append xs others, length-replicate (places - length xs) filler);
      values = subst (All Is) (sym (take_at xs others (length xs) refl)) all;
    }
