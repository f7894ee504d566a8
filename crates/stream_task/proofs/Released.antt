-- A picture that waits no more: its surface is free.
use Rattle.std.proofs.Common.{◌≡◌, ◌≢◌, inl, inr, ℕ, zero, suc, ◌+◌, ◌<◌, ◌==◌, true, cond, List, [], ◌∷◌, count_by, get_or, set, length, slice_get, Option, Some, None, refl, ap, sym, ◌∙◌, subst, arith}
use Rattle.std.specs.Option.{is_some}
use Rattle.std.proofs.lemmas.Bool.{cases_Bool, eq-eqb, eqb-true, false≢true}
use Rattle.std.proofs.lemmas.List.{length-set}
use Rattle.std.proofs.lemmas.List.Sums.{sum_by-set}
use Rattle.driver_model.specs.Parts.{is_among}
use Rattle.stream_course.specs.Way.{Way}
use Rattle.stream_task.specs.Keeping.{Wait}
use Rattle.stream_task.specs.Surfaces.{IsIn, waiting_in}
use Rattle.stream_task.specs.declared.objects.Objects.{Objects}
use Rattle.stream_task.specs.declared.slots.Slots.{Slots}

one_other : (let o : Option (Option ℕ) = Some None in (number : ℕ) → o ≡ Some (Some number) → ⊥)
one_other number e = (let k : (let o : Option (Option ℕ) = Some None in o ≡ Some (Some number)) = e in cc)

set_same : (waits : List (Option ℕ)) (surface number : ℕ) → surface < length waits → slice_get (set waits surface None) surface ≡ Some (Some number) → ⊥
set_same [] surface number inside e = omega (arith, inside)
set_same (one ∷ waits) zero number inside e = one_other number e
set_same (one ∷ waits) (suc surface) number inside e = set_same waits surface number (omega (arith, inside)) e

pub set_other : (waits : List (Option ℕ)) (surface other : ℕ) (x : Option ℕ) → other ≢ surface → slice_get (set waits surface x) other ≡ slice_get waits other
set_other [] surface other x apart = refl
set_other (one ∷ waits) zero zero x apart = absurd (apart refl)
set_other (one ∷ waits) zero (suc other) x apart = refl
set_other (one ∷ waits) (suc surface) zero x apart = refl
set_other (one ∷ waits) (suc surface) (suc other) x apart = set_other waits surface other x (λ e. apart (ap suc e))

get_got : (waits : List (Option ℕ)) (surface number : ℕ) → slice_get waits surface ≡ Some (Some number) → (surface < length waits) × (get_or waits surface None ≡ Some number)
get_got [] surface number e = absurd (let k : (let o : Option (Option ℕ) = None in o ≡ Some (Some number)) = e in cc)
get_got (one ∷ waits) zero number e = (omega (arith), (let k : (let o : Option (Option ℕ) = Some one in o ≡ Some (Some number)) = e in cc))
get_got (one ∷ waits) (suc surface) number e = let there = get_got waits surface number e in ((let l = there.0 in omega (arith, l)), there.1)

one_fewer : (waits : List (Option ℕ)) (surface number : ℕ) → slice_get waits surface ≡ Some (Some number) → count_by is_some (set waits surface None) + 1 ≡ count_by is_some waits
one_fewer waits surface number e =
    let there = get_got waits surface number e in
    let sum : count_by is_some (set waits surface None) + cond (is_some (get_or waits surface None)) 1 0 ≡ count_by is_some waits + 0 = sum_by-set (λ y. cond (is_some y) 1 0) waits surface None None there.0 in
    let one : (let n : ℕ = cond (is_some (get_or waits surface None)) 1 0 in n ≡ 1) = ap (λ o. cond (is_some o) 1 0) there.1 in
    omega (arith, sum, one)

-- The other pictures wait as before.
pub wait_released : (slots new : Slots) (objects : Objects) (way : Way) (surface number : ℕ)
    → Wait slots objects way (number ∷ []) → IsIn slots surface number → is_among way.told number ≡ true → new.waits ≡ set slots.waits surface None
    → Wait new objects way []
wait_released slots new objects way surface number wait is_in told waits =
    let fewer = one_fewer slots.waits surface number is_in in
    let there_now : (other : ℕ) → other ≢ surface → slice_get new.waits other ≡ slice_get slots.waits other = λ other apart. ap (λ l. slice_get l other) waits ∙ set_other slots.waits surface other None apart in
    let not_now : (n : ℕ) → slice_get new.waits surface ≡ Some (Some n) → ⊥ = λ n is. set_same slots.waits surface n (get_got slots.waits surface number is_in).0 (sym (ap (λ l. slice_get l surface) waits) ∙ is) in
    record {
      places = ap length waits ∙ (length-set slots.waits surface None ∙ wait.places);
      made = λ other n is. elim (cases_Bool (other == surface)) [
        | inl t ↦ absurd (not_now n (subst (λ s. slice_get new.waits s ≡ Some (Some n)) (eqb-true other surface t) is))
        | inr f ↦ wait.made other n (sym (there_now other (λ same. false≢true (sym f ∙ eq-eqb other surface same))) ∙ is)
      ];
      each = λ n below untold.
          let before = wait.each n below untold in (
            before.0,
            there_now before.0 (λ same.
                let both : (let x : Option (Option ℕ) = Some (Some n) in x ≡ Some (Some number)) = sym before.1 ∙ (ap (λ s. slice_get slots.waits s) same ∙ is_in) in
                let numbers_are : n ≡ number = (let k : (let x : Option (Option ℕ) = Some (Some n) in x ≡ Some (Some number)) = both in cc) in
                false≢true (sym untold ∙ (ap (λ m. is_among way.told m) numbers_are ∙ told))) ∙ before.1,
          );
      few = (let few = wait.few in let now : waiting_in new ≡ count_by is_some (set slots.waits surface None) = ap (λ l. count_by is_some l) waits in omega (arith, few, fewer, now));
    }
