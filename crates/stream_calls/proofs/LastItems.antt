-- The last item of a history, and what others' items leave.
use Rattle.std.proofs.Common.{◌≡◌, ◌⊎◌, inl, inr, ℕ, ◌+◌, Bool, true, false, cond, ◌&&◌, ◌||◌, List, [], ◌∷◌, ◌++◌, length, refl, ap, sym, ◌∙◌, subst, arith}
use Rattle.std.specs.List.{count_by, list_any}
use Rattle.std.proofs.lemmas.List.{length-append}
use Rattle.std.proofs.lemmas.List.Elements.{filter-append}
use Rattle.std.proofs.lemmas.List.Sums.{sum_by-cons}
use Rattle.device_lock.specs.Lists.{same}
use Rattle.device_lock.specs.Numbers.{items_of}
use Rattle.device_lock.proofs.Callers.{items_mine}
use Rattle.driver_model.specs.Histories.{Happens, IsStateOf, Leads}
use Rattle.driver_model.specs.Passes.{caller_of}
use Rattle.driver_model.specs.States.{State, empty_state}
use Rattle.driver_model.specs.declared.items.Item.{Item}
use Rattle.driver_model.proofs.Leading.{histories_lead_to_one, leads_front}
use Rattle.stream_calls.specs.Gained.{CallsLeadOn, GainedItemsHappen, OthersComeBetween, OwnItemsGrow}

-- ---- lists

pub empty_of : {A : Type 0} (xs : List A) → length xs ≡ 0 → xs ≡ []
empty_of [] e = refl
empty_of (x ∷ xs) e = absurd (omega arith)

pub or_parts : (a b : Bool) → (a || b) ≡ false → (a ≡ false) × (b ≡ false)
or_parts true b e = absurd (let k : true ≡ false = e in cc)
or_parts false b e = (refl, e)

pub and_false : (a b : Bool) → b ≡ false → (a && b) ≡ false
and_false true b e = e
and_false false b e = refl

pub and_true : (a b : Bool) → a ≡ true → b ≡ true → (a && b) ≡ true
and_true true b e f = f
and_true false b e f = absurd (let k : false ≡ true = e in cc)

-- Where one more item follows a list, an item of both is in the list, or is that one.
pub split_last : (xs front behind : List Item) (y x : Item) → xs ++ y ∷ [] ≡ front ++ x ∷ behind
    → ((more : List Item) × (xs ≡ front ++ x ∷ more)) ⊎ ((y ≡ x) × (front ≡ xs))
split_last [] [] behind y x e = let first : y ≡ x = (let k : y ∷ [] ≡ x ∷ behind = e in cc) in inr (first, refl)
split_last [] (z ∷ front) behind y x e =
    let long : 1 ≡ length (z ∷ (front ++ x ∷ behind)) = ap length e in
    let parts = length-append front (x ∷ behind) in
    absurd (omega (arith, long, parts))
split_last (w ∷ xs) [] behind y x e = let first : w ≡ x = (let k : w ∷ (xs ++ y ∷ []) ≡ x ∷ behind = e in cc) in inl (xs, ap (λ z. z ∷ xs) first)
split_last (w ∷ xs) (z ∷ front) behind y x e =
    let k : w ∷ (xs ++ y ∷ []) ≡ z ∷ (front ++ x ∷ behind) = e in
    let first : w ≡ z = cc in
    let later : xs ++ y ∷ [] ≡ front ++ x ∷ behind = cc in
    elim (split_last xs front behind y x later) [
      | inl there ↦ inl (there.0, ap (λ v. v ∷ xs) first ∙ ap (λ l. z ∷ l) there.1)
      | inr here ↦ inr (here.0, ap (λ l. z ∷ l) here.1 ∙ ap (λ v. v ∷ xs) (sym first))
    ]

-- An item of two lists, one behind the other, is in the first or in the second.
pub split_both : (xs ys front behind : List Item) (x : Item) → xs ++ ys ≡ front ++ x ∷ behind
    → ((more : List Item) × (xs ≡ front ++ x ∷ more)) ⊎ ((mid : List Item) × (ys ≡ mid ++ x ∷ behind))
split_both [] ys front behind x e = inr (front, e)
split_both (w ∷ xs) ys [] behind x e = let first : w ≡ x = (let k : w ∷ (xs ++ ys) ≡ x ∷ behind = e in cc) in inl (xs, ap (λ z. z ∷ xs) first)
split_both (w ∷ xs) ys (z ∷ front) behind x e =
    let k : w ∷ (xs ++ ys) ≡ z ∷ (front ++ x ∷ behind) = e in
    let first : w ≡ z = cc in
    let later : xs ++ ys ≡ front ++ x ∷ behind = cc in
    elim (split_both xs ys front behind x later) [
      | inl there ↦ inl (there.0, ap (λ v. v ∷ xs) first ∙ ap (λ l. z ∷ l) there.1)
      | inr here ↦ inr here
    ]

-- ---- whose items they are

module _ (caller : List ℕ) where
  abbrev own : List Item → List Item
  own items = items_of caller_of caller items

  -- the first item isn't the caller's, where it has none
  not_first : (item : Item) (later : List Item) → own (item ∷ later) ≡ [] → (same caller (caller_of item) ≡ false) × (own later ≡ [])
  not_first item later none = by_test (same caller (caller_of item)) refl none where
    by_test : (b : Bool) → same caller (caller_of item) ≡ b → cond b (item ∷ own later) (own later) ≡ []
        → (same caller (caller_of item) ≡ false) × (own later ≡ [])
    by_test true e k = absurd (let z : (let l : List Item = [] in item ∷ own later ≡ l) = k in cc)
    by_test false e k = (e, k)

  pub not_among : (front behind : List Item) (item : Item) → own (front ++ item ∷ behind) ≡ [] → same caller (caller_of item) ≡ false
  not_among [] behind item none = (not_first item behind none).0
  not_among (first ∷ front) behind item none = not_among front behind item (not_first first (front ++ item ∷ behind) none).1

  -- of others' items none is of the caller
  pub none_own : (test : Item → Bool) (items : List Item) → own items ≡ [] → list_any (λ item. same caller (caller_of item) && test item) items ≡ false
  none_own test [] none = refl
  none_own test (item ∷ later) none =
      let others = not_first item later none in
      let rest = none_own test later others.1 in
      rw others.0 rest

  -- how many of the own items pass a test
  pub count_own : (test : Item → Bool) (item : Item) (later : List Item)
      → count_by test (own (item ∷ later)) ≡ cond (same caller (caller_of item) && test item) 1 0 + count_by test (own later)
  count_own test item later = by_test (same caller (caller_of item)) where
    by_test : (b : Bool) → count_by test (cond b (item ∷ own later) (own later)) ≡ cond (b && test item) 1 0 + count_by test (own later)
    by_test true = sum_by-cons (λ one. cond (test one) 1 0) item (own later)
    by_test false = omega arith

-- ---- the last item

pub last_happens : (front : List Item) (item : Item) (s t : State) → IsStateOf front s → IsStateOf (front ++ item ∷ []) t → Happens s item t
unfolding Leads
last_happens front item s t before behind =
    let parts = leads_front empty_state t front (item ∷ []) behind in
    let one : parts.0 ≡ s = histories_lead_to_one front parts.0 s parts.1 before in
    let step : Happens parts.0 item t = subst (λ (u : State). Happens parts.0 item u) (sym parts.2.2) parts.2.1 in
    subst (λ (u : State). Happens u item t) one step

pub gained_items_happen : GainedItemsHappen
gained_items_happen before after item s t g =
    let whole : IsStateOf ((before.seen ++ g.adds.between) ++ item ∷ []) t = subst (λ items. IsStateOf items t) g.adds.seen g.behind in
    last_happens (before.seen ++ g.adds.between) item s t g.state whole

pub others_come_between : OthersComeBetween
others_come_between before after item place adds knows =
    let n = before.number in
    let mine : List Item → List Item = λ items. items_of caller_of n items in
    let parts : mine (before.seen ++ adds.between) ≡ mine before.seen ++ mine adds.between =
    filter-append (λ one. same n (caller_of one)) before.seen adds.between in
    let whole : mine after.seen ≡ mine (before.seen ++ adds.between) ++ item ∷ [] =
    ap mine adds.seen ∙ items_mine caller_of n (before.seen ++ adds.between) item adds.caller in
    let kept : mine after.seen ≡ before.own ++ item ∷ [] = subst (λ c. items_of caller_of c after.seen ≡ after.own) adds.number adds.knows.0.0 ∙ adds.own in
    let first : length (mine before.seen) ≡ length before.own = ap length knows.0.0 in
    let a = ap length parts in
    let b = length-append (mine before.seen) (mine adds.between) in
    let c = ap length (sym whole ∙ kept) in
    let d = length-append (mine (before.seen ++ adds.between)) (item ∷ []) in
    let e = length-append before.own (item ∷ []) in
    empty_of (mine adds.between) (omega (arith, first, a, b, c, d, e))

pub calls_lead_on : CallsLeadOn
calls_lead_on before after item place adds knows =
    let t = adds.legal.0 in
    let parts = leads_front empty_state t (before.seen ++ adds.between) (item ∷ []) (subst (λ items. IsStateOf items t) adds.seen adds.legal.1) in
    (parts.0, t, record { place = place; adds = adds; knows = knows; state = parts.1; behind = adds.legal.1 })

pub own_items_grow : OwnItemsGrow
own_items_grow before after item s t g = g.adds.knows.0.0 ∙ (g.adds.own ∙ ap (λ l. l ++ item ∷ []) (sym g.knows.0.0))
