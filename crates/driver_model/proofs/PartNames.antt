-- The objects of a device are those that have one of its names.
use Rattle.std.proofs.Common.{◌≡◌, ◌≢◌, ◌⊎◌, inl, inr, ℕ, zero, suc, ◌<◌, ◌==◌, Bool, true, false, ◌||◌, if◌then◌else◌, List, [], ◌∷◌, ◌++◌, AllPairs, filter_map, get_or, length, slice_get, Option, Some, None, refl, ap, sym, ◌∙◌, subst, arith}
use Rattle.std.proofs.lemmas.Bool.{cases_eq, cases_order, eq-eqb, eqb-true, false≢true, false_from_ne_true, ne_eqb, or_cases, or_parts, or_left}
use Rattle.std.proofs.lemmas.List.{append-nil}
use Rattle.std.proofs.lemmas.List.Folds.{list_any-append}
use Rattle.std.specs.List.{list_any}
use Rattle.std.specs.Option.{is_some, option_map_or, option_to_list}
use Rattle.handle_table.specs.Name.{kind_of}
use Rattle.driver_model.specs.Answers.{Reply}
use Rattle.driver_model.specs.Histories.{Happens, Leads}
use Rattle.driver_model.specs.Objects.{Object, as_device, kind_number}
use Rattle.driver_model.specs.Parts.{first_name, is_among, is_first, made_on, name_given}
use Rattle.driver_model.specs.States.{State, is_given}
use Rattle.driver_model.specs.declared.calls.Call.{Call}
use Rattle.driver_model.specs.declared.items.Item.{Item}
use Rattle.driver_model.specs.declared.items.Item.TheVariants.{Called, Ended}
use Rattle.driver_model.specs.declared.numbers.TheConstants.{DEVICE}
use Rattle.driver_model.proofs.Changes.{names}
use Rattle.driver_model.proofs.Leading.{cons_given}
use Rattle.driver_model.proofs.Named.{object_is}
use Rattle.driver_model.proofs.PartCreates.{get-last}
use Rattle.driver_model.proofs.PartCalls.{step_effect}
use Rattle.driver_model.proofs.PartEffects.{Changed, Effect, Grown, IsMade, IsNewRoot}
use Rattle.driver_model.proofs.PartOwned.{Extends, IsSane, get_more, get_still, happens_extends, happens_sane, leads_extends}
use Rattle.driver_model.proofs.PartStill.{is_device-kind, still_back, still_get}
use Rattle.driver_model.proofs.SoundChanges.{nothing_there}

-- ---- where the device stands

-- The object at this place, and no other, has this name.
abbrev pub IsAt : ℕ → ℕ → List Object → Type 0
IsAt name place objects = (k : ℕ) (object : Object) → slice_get objects k ≡ Some object → (k == place) ≡ (object.name == name)

get_or-names : (objects : List Object) (k d : ℕ) (a : Object) → slice_get objects k ≡ Some a → (k < length (names objects)) × (get_or (names objects) k d ≡ a.name)
get_or-names [] k d a e = nothing_there a e
get_or-names (object ∷ later) zero d a e = (omega arith, ap (λ (o : Object). o.name) (object_is object a e))
get_or-names (object ∷ later) (suc k) d a e = let r = get_or-names later k d a e in (omega (arith, r.0), r.1)

-- one name stands at one place
name_once : (objects : List Object) → AllPairs (λ a b. a ≢ b) (names objects) → (i j : ℕ) (a b : Object) → slice_get objects i ≡ Some a → slice_get objects j ≡ Some b → a.name ≡ b.name → i ≡ j
name_once objects apart i j a b p q same = elim (cases_order i j) [
  | inl e ↦ e
  | inr (inl less) ↦
      let one = get_or-names objects i 0 a p in
      let two = get_or-names objects j 0 b q in
      absurd (apart i j 0 less two.0 (one.1 ∙ (same ∙ sym two.1)))
  | inr (inr more) ↦
      let one = get_or-names objects i 0 a p in
      let two = get_or-names objects j 0 b q in
      absurd (apart j i 0 more one.0 (two.1 ∙ (sym same ∙ sym one.1)))
]

pub get_within : (objects : List Object) (k : ℕ) (a : Object) → slice_get objects k ≡ Some a → k < length objects
get_within [] k a e = nothing_there a e
get_within (object ∷ later) zero a e = omega arith
get_within (object ∷ later) (suc k) a e = let r = get_within later k a e in omega (arith, r)

abbrev pub Found : ℕ → List Object → Type 0
Found name objects = (place : ℕ) × (object : Object) × (slice_get objects place ≡ Some object) × (object.name ≡ name)

search_name : (name : ℕ) (objects : List Object) → Found name objects ⊎ ((k : ℕ) (object : Object) → slice_get objects k ≡ Some object → object.name ≡ name → ⊥)
search_name name [] = inr (λ k object e is. nothing_there object e)
search_name name (object ∷ later) = elim (cases_eq object.name name) [
  | inl here ↦ inl (0, object, refl, here)
  | inr apart ↦ elim (search_name name later) [
    | inl there ↦ inl (suc there.0, there.1, there.2, there.3)
    | inr none ↦ inr (by_place apart none)
  ]
]
  where
    by_place : (object.name ≡ name → ⊥) → ((k : ℕ) (other : Object) → slice_get later k ≡ Some other → other.name ≡ name → ⊥) → (k : ℕ) (other : Object) → slice_get (object ∷ later) k ≡ Some other → other.name ≡ name → ⊥
    by_place apart none zero other e is = apart (ap (λ (o : Object). o.name) (object_is object other e) ∙ is)
    by_place apart none (suc k) other e is = none k other e is

-- a name has a place, also where no object has it
pub place_of_name : (name : ℕ) (objects : List Object) → AllPairs (λ a b. a ≢ b) (names objects) → (place : ℕ) × IsAt name place objects
place_of_name name objects apart = elim (search_name name objects) [
  | inl found ↦ (
    found.0,
    λ k object e. elim (cases_eq object.name name) [
      | inl is ↦ eq-eqb k found.0 (name_once objects apart k found.0 object found.1 e found.2 (is ∙ sym found.3)) ∙ sym (eq-eqb object.name name is)
      | inr other ↦ ne_eqb k found.0 (λ at. other (ap (λ (o : Object). o.name) (object_is object found.1 (sym e ∙ (ap (slice_get objects) at ∙ found.2))) ∙ found.3)) ∙ sym (ne_eqb object.name name other)
    ],
  )
  | inr none ↦ (
    length objects,
    λ k object e.
        let less = get_within objects k object e in
        ne_eqb k (length objects) (λ at. omega (arith, at, less)) ∙ sym (ne_eqb object.name name (none k object e)),
  )
]

-- ---- whose names they are

module _ (v on : ℕ) where
  -- The names of the list are those of the device at the place and of its objects, as far as they are given.
  pub record AreNames (all : List ℕ) (objects : List Object) : Type 0 where
    pub own : (place : ℕ) (a : Object) → slice_get objects place ≡ Some a → is_among all a.name ≡ (a.device == on)
    pub given : (name : ℕ) → is_among all name ≡ true → (name ≡ v) ⊎ Found name objects
    pub first : is_among all v ≡ true

  names_still : (all : List ℕ) (old new : State) (caller : List ℕ) (call : Call) → Changed old new caller call → AreNames all old.objects → AreNames all new.objects
  names_still all old new caller call p are = record {
    own = λ place b e.
        let was = still_back p.device old.objects new.objects p.still place b e in
        ap (is_among all) was.2.name ∙ (are.own place was.0 was.1 ∙ ap (λ d. d == on) (sym was.2.device));
    given = λ name is. elim (are.given name is) [
      | inl e ↦ inl e
      | inr found ↦ let r = still_get p.device old.objects new.objects p.still found.0 found.1 found.2 in inr (found.0, r.0, r.1, r.2.name ∙ found.3)
    ];
    first = are.first;
  }

  not_given_at : (objects : List Object) (name : ℕ) → list_any (λ object. object.name == name) objects ≡ false → (place : ℕ) (a : Object) → slice_get objects place ≡ Some a → a.name ≡ name → ⊥
  not_given_at [] name none place a e is = nothing_there a e
  not_given_at (object ∷ later) name none zero a e is =
      false≢true (sym (or_parts (object.name == name) (list_any (λ o. o.name == name) later) none).0 ∙ eq-eqb object.name name (ap (λ (o : Object). o.name) (object_is object a e) ∙ is))
  not_given_at (object ∷ later) name none (suc place) a e is = not_given_at later name (or_parts (object.name == name) (list_any (λ o. o.name == name) later) none).1 place a e is

  among-more : (all : List ℕ) (one name : ℕ) → is_among (all ++ one ∷ []) name ≡ (is_among all name || ((one == name) || false))
  among-more all one name = list_any-append (λ other. other == name) all (one ∷ [])

  or_none : (b : Bool) → (b || (false || false)) ≡ b
  or_none true = refl
  or_none false = refl

  or_some : (b : Bool) → (b || (true || false)) ≡ true
  or_some true = refl
  or_some false = refl

  found_more : (objects : List Object) (one : Object) (name : ℕ) → Found name objects → Found name (objects ++ one ∷ [])
  found_more objects one name found = (found.0, found.1, get_still objects one found.0 found.1 found.2, found.3)

  -- a new object whose name isn't one of the device's
  names_apart : (all : List ℕ) (objects : List Object) (one : Object) → AreNames all objects → is_among all one.name ≡ (one.device == on) → AreNames all (objects ++ one ∷ [])
  names_apart all objects one are new = record {
    own = λ place b e. elim (get_more objects one place b e) [
      | inl before ↦ are.own place b before
      | inr last ↦ subst (λ (o : Object). is_among all o.name ≡ (o.device == on)) last.1 new
    ];
    given = λ name is. elim (are.given name is) [
      | inl e ↦ inl e
      | inr found ↦ inr (found_more objects one name found)
    ];
    first = are.first;
  }

  -- and one whose name is
  names_more : (all : List ℕ) (objects : List Object) (one : Object) → AreNames all objects → list_any (λ object. object.name == one.name) objects ≡ false → (one.device == on) ≡ true → AreNames (all ++ one.name ∷ []) (objects ++ one ∷ [])
  names_more all objects one are fresh new = record {
    own = λ place b e. elim (get_more objects one place b e) [
      | inl before ↦
          among-more all one.name b.name
          ∙ (ap (λ t. is_among all b.name || (t || false)) (ne_eqb one.name b.name (λ same. not_given_at objects one.name fresh place b before (sym same)))
          ∙ (or_none (is_among all b.name) ∙ are.own place b before))
      | inr last ↦
          subst (λ (o : Object). is_among (all ++ one.name ∷ []) o.name ≡ (o.device == on)) last.1
          (among-more all one.name one.name ∙ (ap (λ t. is_among all one.name || (t || false)) (eq-eqb one.name one.name refl) ∙ (or_some (is_among all one.name) ∙ sym new)))
    ];
    given = λ name is. elim (or_cases (is_among all name) ((one.name == name) || false) (sym (among-more all one.name name) ∙ is)) [
      | inl old ↦ elim (are.given name old) [
        | inl e ↦ inl e
        | inr found ↦ inr (found_more objects one name found)
      ]
      | inr last ↦ inr (length objects, one, get-last objects one, eqb-true one.name name (or_false (one.name == name) last))
    ];
    first = among-more all one.name v ∙ or_left (is_among all v) ((one.name == v) || false) are.first;
  }
    where
      or_false : (b : Bool) → (b || false) ≡ true → b ≡ true
      or_false true e = refl
      or_false false e = e

  -- ---- one step

  -- what the item adds to the device's names
  abbrev added : Call → Reply → List ℕ
  added call reply = option_to_list (if is_first v call then name_given reply else None)

  nothing_added : (call : Call) (reply : Reply) → name_given reply ≡ None → added call reply ≡ []
  nothing_added call reply none = by_first (is_first v call) where
    by_first : (b : Bool) → option_to_list (if b then name_given reply else None) ≡ []
    by_first true = ap option_to_list none
    by_first false = refl

  same_names : (all : List ℕ) (call : Call) (reply : Reply) (objects : List Object) → added call reply ≡ [] → AreNames all objects → AreNames (all ++ added call reply) objects
  same_names all call reply objects none are = subst (λ l. AreNames l objects) (sym (ap (λ r. all ++ r) none ∙ append-nil all)) are

  is_first-some : (call : Call) (name : ℕ) → first_name call ≡ Some name → is_first v call ≡ (name == v)
  is_first-some call name e = ap (λ (o : Option ℕ). option_map_or (λ first. first == v) o false) e

  module _ (device : kind_of v ≡ DEVICE) (old new : State) (caller : List ℕ) (call : Call) (reply : Reply) (rooted_at : IsAt v on new.objects) (before_at : IsAt v on old.objects) where
    -- a name that isn't given is one of the device's only if it is its own
    fresh_among : (all : List ℕ) → AreNames all old.objects → (name : ℕ) → is_given old name ≡ false → (name ≡ v → ⊥) → is_among all name ≡ false
    fresh_among all are name fresh other = false_from_ne_true (is_among all name) (λ is. elim (are.given name is) [
      | inl e ↦ other e
      | inr found ↦ not_given_at old.objects name fresh found.0 found.1 found.2 found.3
    ])

    grown_names : (all : List ℕ) → AreNames all old.objects → (p : Grown old new call reply) → AreNames (all ++ added call reply) (old.objects ++ p.one ∷ [])
    grown_names all are p = by_origin p.origin where
      last_at : slice_get new.objects (length old.objects) ≡ Some p.one
      last_at = ap (λ (u : State). slice_get u.objects (length old.objects)) p.grows ∙ get-last old.objects p.one

      gives : name_given reply ≡ Some p.one.name
      gives = ap name_given p.tells

      by_name : (b : Bool) → (p.one.name == v) ≡ b → is_among all p.one.name ≡ b
      by_name true e = ap (is_among all) (eqb-true p.one.name v e) ∙ are.first
      by_name false e = fresh_among all are p.one.name p.fresh (λ same. false≢true (sym e ∙ eq-eqb p.one.name v same))

      by_first : (d : Bool) → (b : Bool) → is_first v call ≡ b → (p.one.device == on) ≡ b → is_some (as_device p.one.content) ≡ false → AreNames (all ++ added call reply) (old.objects ++ p.one ∷ [])
      by_first d true first at none =
          let adds : added call reply ≡ p.one.name ∷ [] = ap (λ b. option_to_list (if b then name_given reply else None)) first ∙ ap option_to_list gives in
          subst (λ l. AreNames (all ++ l) (old.objects ++ p.one ∷ [])) (sym adds) (names_more all old.objects p.one are p.fresh at)
      by_first d false first at none =
          let adds : added call reply ≡ [] = ap (λ b. option_to_list (if b then name_given reply else None)) first in
          let other : p.one.name ≡ v → ⊥ = λ same. false≢true (sym none ∙ (is_device-kind p.one.content ∙ eq-eqb (kind_number p.one.content) DEVICE (sym p.kind ∙ (ap kind_of same ∙ device)))) in
          same_names all call reply (old.objects ++ p.one ∷ []) adds (names_apart all old.objects p.one are (fresh_among all are p.one.name p.fresh other ∙ sym at))

      by_origin : IsNewRoot old call p.one ⊎ IsMade old call p.one → AreNames (all ++ added call reply) (old.objects ++ p.one ∷ [])
      by_origin (inl is) =
          let adds : added call reply ≡ [] = ap (λ (asked : Call). option_to_list (if is_first v asked then name_given reply else None)) is.0 in
          let at : (p.one.device == on) ≡ (p.one.name == v) = ap (λ k. k == on) is.1 ∙ rooted_at (length old.objects) p.one last_at in
          same_names all call reply (old.objects ++ p.one ∷ []) adds (names_apart all old.objects p.one are (by_name (p.one.name == v) refl ∙ sym at))
      by_origin (inr is) =
          let at : (p.one.device == on) ≡ (is.name == v) = before_at p.one.device is.root is.stands ∙ ap (λ k. k == v) is.has_name in
          by_first true (is.name == v) (is_first-some call is.name is.first) at is.no_device

    pub step_names : (all : List ℕ) → AreNames all old.objects → Effect old new caller call reply → AreNames (all ++ added call reply) new.objects
    step_names all are (inl (none, inl same)) = same_names all call reply new.objects (nothing_added call reply none) (subst (λ (u : State). AreNames all u.objects) (sym same) are)
    step_names all are (inl (none, inr changed)) = same_names all call reply new.objects (nothing_added call reply none) (names_still all old new caller call changed are)
    step_names all are (inr grown) = subst (λ (u : State). AreNames (all ++ added call reply) u.objects) (sym grown.grows) (grown_names all are grown)

  -- ---- a history

  -- what holds of the last state's places holds of the earlier ones'
  pub at_before : (s t : State) → Extends s t → IsAt v on t.objects → IsAt v on s.objects
  at_before s t extends at k a e = let r = extends k a e in at k r.0 r.1 ∙ ap (λ n. n == v) r.2

  happens_names : kind_of v ≡ DEVICE → (s t : State) (item : Item) (all : List ℕ) → IsSane s → IsAt v on s.objects → IsAt v on t.objects → AreNames all s.objects → Happens s item t → AreNames (all ++ option_to_list (made_on v item)) t.objects
  happens_names device s t (Called entry) all sane before at are h =
      let there : IsAt v on h.0.objects = subst (λ (u : State). IsAt v on u.objects) h.2 at in
      subst (λ (u : State). AreNames (all ++ added entry.call entry.reply) u.objects) (sym h.2)
      (step_names device s h.0 entry.caller entry.call entry.reply there before all are (step_effect s h.0 entry.caller entry.reply sane.rooted sane.sound entry.call h.1))
  happens_names device s t (Ended mark) all sane before at are h =
      subst (λ (u : State). AreNames (all ++ []) u.objects) (sym h.1) (subst (λ l. AreNames l s.objects) (sym (append-nil all)) are)

  pub leads_names : kind_of v ≡ DEVICE → (s t : State) (history : List Item) (all : List ℕ) → IsSane s → IsAt v on t.objects → AreNames all s.objects → Leads s history t → AreNames (all ++ filter_map (made_on v) history) t.objects
  unfolding Leads
  leads_names device s t [] all sane at are leads =
      subst (λ (u : State). AreNames (all ++ []) u.objects) (sym leads) (subst (λ l. AreNames l s.objects) (sym (append-nil all)) are)
  leads_names device s t (item ∷ later) all sane at are leads =
      let then_sane : IsSane leads.0 = happens_sane s leads.0 item sane leads.1 in
      let middle : IsAt v on leads.0.objects = at_before leads.0 t (leads_extends leads.0 t later then_sane leads.2) at in
      let before : IsAt v on s.objects = at_before s leads.0 (happens_extends s leads.0 item sane leads.1) middle in
      let names_then = happens_names device s leads.0 item all sane before middle are leads.1 in
      subst (λ l. AreNames l t.objects) (cons_given (made_on v item) all (filter_map (made_on v) later))
      (leads_names device leads.0 t later (all ++ option_to_list (made_on v item)) then_sane at names_then leads.2)
