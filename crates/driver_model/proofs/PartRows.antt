-- How a row of the step is made in the part about a device, of the row that was made in the whole.
use Rattle.std.proofs.Common.{◌≡◌, ℕ, true, false, Option, Ok, Err, refl, ap, sym, ◌∙◌, subst}
use Rattle.driver_model.specs.Answers.{Goes, Leaves, Reply, Tells}
use Rattle.driver_model.specs.Objects.{Content, Object}
use Rattle.driver_model.specs.Refusals.{Looked}
use Rattle.driver_model.specs.States.{State, changed_at, destroyed, destroyed_with, with_content}
use Rattle.driver_model.specs.declared.replies.Answer.{Answer}
use Rattle.driver_model.proofs.PartContents.{moved_content, moved_object}
use Rattle.driver_model.proofs.PartFinds.{Alike}
use Rattle.driver_model.proofs.PartPlaces.{Cut, place_in}
use Rattle.driver_model.proofs.PartStates.{After, Pair}
use Rattle.driver_model.proofs.PartTicks.{part-changed}

module _ (c : Cut) (on : ℕ) (q : ℕ → Option ℕ) (s t : State) (pair : Pair c on q s t) where
  -- ---- states

  pub after_none : After c q t s t
  after_none = record { objects = pair.objects; notes = pair.notes; items = refl }

  -- one object is changed
  pub after_change : (change moved_change : Object → Object) → ((a : Object) → moved_object c (change a) ≡ moved_change (moved_object c a)) → (place : ℕ) → c.own place ≡ true
      → After c q t (record s { objects = changed_at place change s.objects }) (record t { objects = changed_at (place_in c place) moved_change t.objects })
  after_change change moved_change moves place own = record {
    objects = ap (changed_at (place_in c place) moved_change) pair.objects ∙ sym (part-changed c change moved_change moves place s.objects own);
    notes = pair.notes;
    items = refl;
  }

  pub after_content : (place : ℕ) (content other : Content) → moved_content c content ≡ other → c.own place ≡ true → After c q t (with_content s place content) (with_content t (place_in c place) other)
  after_content place content other is own =
      after_change (λ object. record object { content = content }) (λ object. record object { content = other })
      (λ a. ap (λ o. record { name = a.name; device = place_in c a.device; is_live = a.is_live; content = o }) is) place own

  pub after_destroyed : (place : ℕ) → c.own place ≡ true → After c q t (destroyed s place) (destroyed t (place_in c place))
  after_destroyed place own = after_change (λ object. record object { is_live = false }) (λ object. record object { is_live = false }) (λ a. refl) place own

  pub after_destroyed_with : (place : ℕ) (content other : Content) → moved_content c content ≡ other → c.own place ≡ true → After c q t (destroyed_with s place content) (destroyed_with t (place_in c place) other)
  after_destroyed_with place content other is own =
      after_change (λ object. record object { is_live = false; content = content }) (λ object. record object { is_live = false; content = other })
      (λ a. ap (λ o. record { name = a.name; device = place_in c a.device; is_live = false; content = o }) is) place own

  -- ---- rows

  module _ (new : State) (reply : Reply) where
    -- The part makes such a step too, and its state then is what it has of the new one.
    abbrev pub Too : (State → Type 0) → Type 0
    Too Step = (after : State) × Step after × After c q t new after

    pub stays : new ≡ s → After c q t new t
    stays e = subst (λ u. After c q t u t) (sym e) after_none

    pub refused_too : (Step : State → Type 0) → new ≡ s → Step t → Too Step
    refused_too Step e step = (t, step, stays e)

    pub tells_too : (x y : Answer) → y ≡ x → Tells s reply new x → Too (λ u. Tells t reply u y)
    tells_too x y is p = (t, (p.0 ∙ ap (λ (a : Answer). Ok a) (sym is), refl), stays p.1)

    pub leaves_too : (left other : State) → After c q t left other → Leaves s reply new left → Too (λ u. Leaves t reply u other)
    leaves_too left other after p = (other, (p.0, refl), subst (λ u. After c q t u other) (sym p.1) after)

    pub goes_too : {A B : Type 0} (f : A → B) (Own : A → Type 0) (m : Looked A) (n : Looked B) (D : A → Type 0) (E : State → B → Type 0) → Alike f Own m n
        → ((a : A) → Own a → D a → Too (λ u. E u (f a))) → Goes s reply new m D → Too (λ u. Goes t reply u n (E u))
    goes_too f Own (Ok a) n D E is row p =
        let r = row a (is.own a refl) p in
        (r.0, subst (λ l. Goes t reply r.0 l (E r.0)) (sym is.same) r.1, r.2)
    goes_too f Own (Err refusal) n D E is row p =
        (t, subst (λ l. Goes t reply t l (E t)) (sym is.same) (p.0, refl), stays p.1)
