-- Which names live from one moment to the next: what was given lives only where it lived before, and what a call destroyed doesn't.
use Rattle.std.proofs.Common.{◌≡◌, ◌≢◌, inl, inr, ℕ, zero, suc, ◌==◌, Bool, true, false, ◌&&◌, ◌||◌, List, [], ◌∷◌, ◌++◌, AllPairs, filter_map, slice_get, Option, Some, Ok, Err, refl, ap, sym, ◌∙◌, arith}
use Rattle.std.proofs.lemmas.Bool.{and_from, and_parts, and_right, eq-eqb, eqb-true, false≢true, ne_eqb, or_cases, or_from, or_left, or_right}
use Rattle.std.proofs.lemmas.List.Folds.{list_any-append}
use Rattle.std.specs.List.{list_any}
use Rattle.std.specs.Option.{option_to_list}
use Rattle.driver_model.specs.Answers.{Goes, Leaves, Reply}
use Rattle.driver_model.specs.Histories.{Happens, IsStateOf, Leads}
use Rattle.driver_model.specs.Objects.{Content, Object}
use Rattle.driver_model.specs.Parts.{given_by, is_among}
use Rattle.driver_model.specs.Refusals.{Looked, first_handle}
use Rattle.driver_model.specs.States.{State, Found, changed_at, destroyed, is_given, named}
use Rattle.driver_model.specs.Steps.{Step}
use Rattle.driver_model.specs.declared.calls.Call.{Call}
use Rattle.driver_model.specs.declared.items.Item.{Item}
use Rattle.driver_model.specs.declared.items.Item.TheVariants.{Called, Ended}
use Rattle.driver_model.proofs.Changes.{names}
use Rattle.driver_model.proofs.Leading.{happens_names, names_are_given}
use Rattle.driver_model.proofs.Looks.{first_handle-Ok}
use Rattle.driver_model.proofs.Named.{named-Some}
use Rattle.driver_model.proofs.PartCalls.{step_effect}
use Rattle.driver_model.proofs.PartEffects.{Effect}
use Rattle.driver_model.proofs.PartNames.{place_of_name}
use Rattle.driver_model.proofs.PartOwned.{IsSane, happens_sane}
use Rattle.driver_model.proofs.PartStill.{AreStill}
use Rattle.player_laws.specs.Room.{is_live_name}
use Rattle.stream_calls.specs.Counted.{is_done}

-- ---- given names

given_names : (objects : List Object) (name : ℕ) → list_any (λ object. object.name == name) objects ≡ is_among (names objects) name
given_names [] name = refl
given_names (first ∷ later) name = ap (λ b. (first.name == name) || b) (given_names later name)

-- what a history gave is given in its state
pub given_there : (history : List Item) (s : State) (name : ℕ) → IsStateOf history s → is_among (filter_map given_by history) name ≡ is_given s name
given_there history s name state = ap (λ l. is_among l name) (sym (names_are_given history s state)) ∙ sym (given_names s.objects name)

pub given_stays : (s t : State) (item : Item) (name : ℕ) → Happens s item t → is_given s name ≡ true → is_given t name ≡ true
given_stays s t item name h is =
    given_names t.objects name
    ∙ (ap (λ l. is_among l name) (happens_names s t item h)
    ∙ (list_any-append (λ other. other == name) (names s.objects) (option_to_list (given_by item))
    ∙ or_left (is_among (names s.objects) name) (is_among (option_to_list (given_by item)) name) (sym (given_names s.objects name) ∙ is)))

-- ---- live names

abbrev pub is_live_one : ℕ → Object → Bool
is_live_one name object = object.is_live && object.name == name

abbrev pub some_live : ℕ → List Object → Bool
some_live name objects = list_any (λ object. object.is_live && object.name == name) objects

pub live_is_given : (objects : List Object) (name : ℕ) → some_live name objects ≡ true
    → list_any (λ object. object.name == name) objects ≡ true
live_is_given [] name is = is
live_is_given (first ∷ later) name is = elim (or_cases (is_live_one name first) (some_live name later) is) [
  | inl here ↦ or_left (first.name == name) (list_any (λ object. object.name == name) later) (and_parts first.is_live (first.name == name) here).1
  | inr there ↦ or_right (first.name == name) (list_any (λ object. object.name == name) later) (live_is_given later name there)
]

still_back : (name on : ℕ) (old new : List Object) → AreStill on old new → some_live name new ≡ true
    → some_live name old ≡ true
still_back name on [] [] still is = is
still_back name on [] (b ∷ bs) still is = absurd still
still_back name on (a ∷ others) [] still is = absurd still
still_back name on (a ∷ others) (b ∷ bs) still is = elim (or_cases (is_live_one name b) (some_live name bs) is) [
  | inl here ↦
      let parts = and_parts b.is_live (b.name == name) here in
      let named : (a.name == name) ≡ true = ap (λ n. n == name) (sym still.0.name) ∙ parts.1 in
      or_left (is_live_one name a) (some_live name others) (and_from a.is_live (a.name == name) (still.0.live parts.0) named)
  | inr there ↦ or_right (is_live_one name a) (some_live name others) (still_back name on others bs still.1 there)
]

step_back : (old new : State) (caller : List ℕ) (call : Call) (reply : Reply) (name : ℕ) → IsSane old → Step old caller call reply new
    → is_given old name ≡ true → is_live_name new name ≡ true → is_live_name old name ≡ true
step_back old new caller call reply name sane step given live = by_effect (step_effect old new caller reply sane.rooted sane.sound call step) where
  by_effect : Effect old new caller call reply → is_live_name old name ≡ true
  by_effect (inl (none, inl same)) = ap (λ (u : State). is_live_name u name) (sym same) ∙ live
  by_effect (inl (none, inr changed)) = still_back name changed.device old.objects new.objects changed.still live
  by_effect (inr grown) =
      let e : some_live name (old.objects ++ grown.one ∷ []) ≡ true = ap (λ (u : State). is_live_name u name) (sym grown.grows) ∙ live in
      let parts = list_any-append (is_live_one name) old.objects (grown.one ∷ []) in
      elim (or_cases (is_live_name old name) (is_live_one name grown.one || false) (sym parts ∙ e)) [
        | inl before ↦ before
        | inr last ↦ elim (or_cases (is_live_one name grown.one) false last) [
          | inl here ↦
              let is : grown.one.name ≡ name = eqb-true grown.one.name name (and_parts grown.one.is_live (grown.one.name == name) here).1 in
              absurd (false≢true (sym grown.fresh ∙ (ap (is_given old) is ∙ given)))
          | inr there ↦ absurd (false≢true there)
        ]
      ]

pub happens_back : (s t : State) (item : Item) (name : ℕ) → IsSane s → Happens s item t → is_given s name ≡ true → is_live_name t name ≡ true
    → is_live_name s name ≡ true
happens_back s t (Called entry) name sane h given live =
    step_back s h.0 entry.caller entry.call entry.reply name sane h.1 given (ap (λ (u : State). is_live_name u name) (sym h.2) ∙ live)
happens_back s t (Ended mark) name sane h given live = ap (λ (u : State). is_live_name u name) (sym h.1) ∙ live

pub leads_back : (s t : State) (items : List Item) (name : ℕ) → IsSane s → Leads s items t → is_given s name ≡ true → is_live_name t name ≡ true
    → is_live_name s name ≡ true
unfolding Leads
leads_back s t [] name sane leads given live = ap (λ (u : State). is_live_name u name) (sym leads) ∙ live
leads_back s t (item ∷ later) name sane leads given live =
    let then_live : is_live_name leads.0 name ≡ true =
    leads_back leads.0 t later name (happens_sane s leads.0 item sane leads.1) leads.2 (given_stays s leads.0 item name leads.1 given) live in
    happens_back s leads.0 item name sane leads.1 given then_live

-- ---- destroyed names

abbrev pub without : ℕ → List Object → List Object
without place objects = changed_at place (λ object. record object { is_live = false }) objects

none_lives : (name : ℕ) (objects : List Object) → ((place : ℕ) (object : Object) → slice_get objects place ≡ Some object → object.name ≡ name → ⊥)
    → some_live name objects ≡ false
none_lives name [] other = refl
none_lives name (first ∷ later) other =
    or_from (is_live_one name first) (some_live name later) (and_right first.is_live (first.name == name) (ne_eqb first.name name (other 0 first refl)))
    (none_lives name later (λ place object e. other (suc place) object e))

destroyed_dies : (name : ℕ) (objects : List Object) (at : ℕ)
    → ((place : ℕ) (object : Object) → slice_get objects place ≡ Some object → object.name ≡ name → place ≡ at)
    → some_live name (without at objects) ≡ false
unfolding changed_at
destroyed_dies name [] at only = refl
destroyed_dies name (first ∷ later) zero only =
    none_lives name later (λ place object e is. let k : suc place ≡ 0 = only (suc place) object e is in omega (arith, k))
destroyed_dies name (first ∷ later) (suc at) only =
    or_from (is_live_one name first) (some_live name (without at later))
    (and_right first.is_live (first.name == name) (ne_eqb first.name name (λ is. let k : 0 ≡ suc at = only 0 first refl is in omega (arith, k))))
    (destroyed_dies name later at (λ place object e is. let k : suc place ≡ suc at = only (suc place) object e is in omega (arith, k)))

-- A call that found the object of its first name and destroyed it: the name doesn't live.
pub destroyed_name : {T : Type 0} (as_kind : Content → Option T) (old new : State) (reply : Reply) (name : ℕ) → AllPairs (λ a b. a ≢ b) (names old.objects)
    → Goes old reply new (first_handle old (named old as_kind name)) (λ on. Leaves old reply new (destroyed old on.place)) → is_done reply ≡ true
    → is_live_name new name ≡ false
destroyed_name {T} as_kind old new reply name apart goes done = by_look (first_handle old (named old as_kind name)) refl goes where
  by_look : (look : Looked (Found T)) → first_handle old (named old as_kind name) ≡ look
      → Goes old reply new look (λ (on : Found T). Leaves old reply new (destroyed old on.place)) → is_live_name new name ≡ false
  by_look (Err refusal) e p = absurd (false≢true (sym (ap is_done p.0) ∙ done))
  by_look (Ok on) e p =
      let there = named-Some as_kind name old on (first_handle-Ok old (named old as_kind name) on e) in
      let at = place_of_name name old.objects apart in
      let here : on.place ≡ at.0 = eqb-true on.place at.0 (at.1 on.place there.0 there.1 ∙ eq-eqb there.0.name name there.2.has_name) in
      let only : (place : ℕ) (object : Object) → slice_get old.objects place ≡ Some object → object.name ≡ name → place ≡ on.place =
      λ place object stands is. eqb-true place at.0 (at.1 place object stands ∙ eq-eqb object.name name is) ∙ sym here in
      ap (λ (u : State). is_live_name u name) p.1 ∙ destroyed_dies name old.objects on.place only
