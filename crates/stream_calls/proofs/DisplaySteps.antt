-- How the displays of a stream go on, and its mixes.
use Rattle.std.proofs.Common.{◌≡◌, inl, inr, ℕ, ◌+◌, Bool, true, false, cond, List, [], ◌∷◌, ◌++◌, length, refl, ap, sym, ◌∙◌, subst, arith}
use Rattle.std.specs.List.{list_any}
use Rattle.std.proofs.lemmas.List.{append-nil}
use Rattle.device_lock.specs.Lists.{same}
use Rattle.device_lock.specs.Numbers.{items_of}
use Rattle.device_lock.specs.declared.view.View.{View}
use Rattle.device_lock.proofs.Callers.{same_self}
use Rattle.vd_plane.specs.declared.picture.Picture.{Picture}
use Rattle.driver_model.specs.Histories.{Happens, IsStateOf, Leads}
use Rattle.driver_model.specs.Passes.{caller_of}
use Rattle.driver_model.specs.ShownPictures.{ShownPicture}
use Rattle.driver_model.specs.States.{State, empty_state}
use Rattle.driver_model.specs.declared.calls.Call.{Call}
use Rattle.driver_model.specs.declared.calls.Call.TheVariants as call
use Rattle.driver_model.specs.declared.items.Item.{Item}
use Rattle.driver_model.specs.declared.items.Item.TheVariants.{Called, Ended}
use Rattle.driver_model.proofs.Leading.{histories_lead_to_one, leads_front}
use Rattle.stream_calls.specs.Counted.{displays_in, has_done, is_call, is_display}
use Rattle.stream_calls.specs.Displays.{AreDisplayed, IsDisplayAt, TakesShown, is_own_display}
use Rattle.stream_calls.specs.DisplaysGoOn.{DisplaysAreCounted, DisplaysGoOn, FindsIdle, FindsIdleAt, MixesFindIdle, MixesGoOn, OtherCallsDisplayNothing, OtherCallsLeaveMixes, OthersDisplayNothing, OthersLeaveMixes, is_mix}
use Rattle.stream_calls.specs.Gained.{Gains}
use Rattle.stream_calls.proofs.LastItems.{and_false, and_true, count_own, gained_items_happen, none_own, not_among, or_parts, others_come_between, split_both, split_last}

abbrev Shown : Type 0
Shown = ShownPicture Picture

takes_more : (b : Bool) (s : State) (item : Item) (shown others more : List Shown) → TakesShown b s item shown others
    → TakesShown b s item (shown ++ more) (others ++ more)
takes_more true s item shown others more takes = (takes.0, ap (λ l. l ++ more) takes.1, takes.2)
takes_more false s item shown others more takes = ap (λ l. l ++ more) takes

taken_count : (b : Bool) (s : State) (item : Item) (shown others : List Shown) → TakesShown b s item shown others → length shown ≡ cond b 1 0 + length others
taken_count true s item shown others takes = let e : length shown ≡ length (takes.0 ∷ others) = ap length takes.1 in omega (arith, e)
taken_count false s item shown others takes = let e : length shown ≡ length others = ap length takes in omega (arith, e)

module _ (caller : List ℕ) where
  -- no display of the caller that was done is among these
  none_displayed : (s t : State) (items : List Item) → Leads s items t → list_any (is_own_display caller) items ≡ false → AreDisplayed caller s items []
  unfolding AreDisplayed Leads
  none_displayed s t [] leads none = refl
  none_displayed s t (item ∷ later) leads none =
      let both = or_parts (is_own_display caller item) (list_any (is_own_display caller) later) none in
      let rest = none_displayed leads.0 t later leads.2 both.1 in
      (leads.0, leads.1, [], subst (λ b. TakesShown b s item [] []) (sym both.0) refl, rest)

  displayed_append : (s : State) (front behind : List Item) (shown more : List Shown) → AreDisplayed caller s front shown
      → ((m : State) → Leads s front m → AreDisplayed caller m behind more) → AreDisplayed caller s (front ++ behind) (shown ++ more)
  unfolding AreDisplayed Leads
  displayed_append s [] behind shown more are rest = subst (λ l. AreDisplayed caller s behind (l ++ more)) (sym are) (rest s refl)
  displayed_append s (item ∷ front) behind shown more are rest =
      let later = displayed_append are.0 front behind are.2 more are.4 (λ m leads. rest m (are.0, are.1, leads)) in
      (are.0, are.1, are.2 ++ more, takes_more (is_own_display caller item) s item shown are.2 more are.3, later)

  -- one display of a shown picture, or one item that is none
  one_displayed : (s t : State) (item : Item) (one : Shown) → Happens s item t → is_own_display caller item ≡ true → IsDisplayAt s item one
      → AreDisplayed caller s (item ∷ []) (one ∷ [])
  unfolding AreDisplayed
  one_displayed s t item one happens is at = (t, happens, [], subst (λ b. TakesShown b s item (one ∷ []) []) (sym is) (one, refl, at), refl)

  other_displayed : (s t : State) (item : Item) → Happens s item t → is_own_display caller item ≡ false → AreDisplayed caller s (item ∷ []) []
  unfolding AreDisplayed
  other_displayed s t item happens not = (t, happens, [], subst (λ b. TakesShown b s item [] []) (sym not) refl, refl)

  others_displayed : (seen between : List Item) (s : State) (shown : List Shown) → IsStateOf (seen ++ between) s → items_of caller_of caller between ≡ []
      → AreDisplayed caller empty_state seen shown → AreDisplayed caller empty_state (seen ++ between) shown
  others_displayed seen between s shown state none are =
      let parts = leads_front empty_state s seen between state in
      let nothing = none_displayed parts.0 s between parts.2 (none_own caller (has_done is_display) between none) in
      let here : (m : State) → IsStateOf seen m → AreDisplayed caller m between [] =
      λ m leads. subst (λ (u : State). AreDisplayed caller u between []) (histories_lead_to_one seen parts.0 m parts.1 leads) nothing in
      subst (λ l. AreDisplayed caller empty_state (seen ++ between) l) (append-nil shown) (displayed_append empty_state seen between shown [] are here)

  -- from the state before the last item
  last_displayed : (front : List Item) (item : Item) (s : State) (shown more : List Shown) → IsStateOf front s → AreDisplayed caller empty_state front shown
      → AreDisplayed caller s (item ∷ []) more → AreDisplayed caller empty_state (front ++ item ∷ []) (shown ++ more)
  last_displayed front item s shown more state are last =
      displayed_append empty_state front (item ∷ []) shown more are
      (λ m leads. subst (λ (u : State). AreDisplayed caller u (item ∷ []) more) (histories_lead_to_one front s m state leads) last)

  displayed_count : (s : State) (seen : List Item) (shown : List Shown) → AreDisplayed caller s seen shown
      → displays_in (items_of caller_of caller seen) ≡ length shown
  unfolding AreDisplayed
  displayed_count s [] shown are = sym (ap length are)
  displayed_count s (item ∷ later) shown are =
      let rest = displayed_count are.0 later are.2 are.4 in
      let here = count_own caller (has_done is_display) item later in
      let taken = taken_count (is_own_display caller item) s item shown are.2 are.3 in
      here ∙ (ap (λ n. cond (is_own_display caller item) 1 0 + n) rest ∙ sym taken)

pub others_display_nothing : OthersDisplayNothing
others_display_nothing caller seen between s shown state none are = others_displayed caller seen between s shown state none are

pub displays_are_counted : DisplaysAreCounted
displays_are_counted caller s seen shown are = displayed_count caller s seen shown are

-- ---- the caller's next item

module _ (before after : View Item) (item : Item) (s t : State) (g : Gains before item after s t) where
  behind_others : (shown : List Shown) → AreDisplayed before.number empty_state before.seen shown
      → AreDisplayed before.number empty_state (before.seen ++ g.adds.between) shown
  behind_others shown are =
      others_displayed before.number before.seen g.adds.between s shown g.state (others_come_between before after item g.place g.adds g.knows) are

  gained : (shown : List Shown) → AreDisplayed before.number empty_state ((before.seen ++ g.adds.between) ++ item ∷ []) shown
      → AreDisplayed after.number empty_state after.seen shown
  gained shown are =
      let here = subst (λ items. AreDisplayed before.number empty_state items shown) (sym g.adds.seen) are in
      subst (λ c. AreDisplayed c empty_state after.seen shown) (sym g.adds.number) here

  other : (shown : List Shown) → has_done is_display item ≡ false → AreDisplayed before.number empty_state before.seen shown
      → AreDisplayed after.number empty_state after.seen shown
  other shown not are =
      let test : is_own_display before.number item ≡ false = and_false (same before.number (caller_of item)) (has_done is_display item) not in
      let last = other_displayed before.number s t item (gained_items_happen before after item s t g) test in
      let whole = last_displayed before.number (before.seen ++ g.adds.between) item s shown [] g.state (behind_others shown are) last in
      gained shown (subst (λ l. AreDisplayed before.number empty_state ((before.seen ++ g.adds.between) ++ item ∷ []) l) (append-nil shown) whole)

  next : (shown : List Shown) (one : Shown) → has_done is_display item ≡ true → IsDisplayAt s item one
      → AreDisplayed before.number empty_state before.seen shown → AreDisplayed after.number empty_state after.seen (shown ++ one ∷ [])
  next shown one done at are =
      let test : is_own_display before.number item ≡ true =
      and_true (same before.number (caller_of item)) (has_done is_display item) (ap (same before.number) g.adds.caller ∙ same_self before.number) done in
      let last = one_displayed before.number s t item one (gained_items_happen before after item s t g) test at in
      gained (shown ++ one ∷ []) (last_displayed before.number (before.seen ++ g.adds.between) item s shown (one ∷ []) g.state (behind_others shown are) last)

pub other_calls_display_nothing : OtherCallsDisplayNothing
other_calls_display_nothing before after item s t shown g not are = other before after item s t g shown not are

pub displays_go_on : DisplaysGoOn
displays_go_on before after item s t shown one g done at are = next before after item s t g shown one done at are

-- ---- mixes

pub others_leave_mixes : OthersLeaveMixes
others_leave_mixes caller seen between none mixes front behind s entry splits state mine =
    elim (split_both seen between front behind (Called entry) splits) [
      | inl there ↦ mixes front there.0 s entry there.1 state mine
      | inr here ↦
          let other : same caller entry.caller ≡ false = not_among caller here.0 behind (Called entry) (ap (items_of caller_of caller) (sym here.1) ∙ none) in
          absurd (let k : true ≡ false = sym mine ∙ other in cc)
    ]

pub finds_other : (s : State) (asked : Call) → is_mix asked ≡ false → FindsIdle s asked
finds_other s (call.Mix mixer structure video output) not = absurd (let k : true ≡ false = not in cc)
finds_other s _ not = tt

finds_other_at : (s : State) (item : Item) → is_call is_mix item ≡ false → FindsIdleAt s item
finds_other_at s (Called entry) not = finds_other s entry.call not
finds_other_at s (Ended mark) not = tt

pub mixes_go_on : MixesGoOn
mixes_go_on before after item s t g finds mixes front behind u entry splits state mine =
    let n = before.number in
    let between = g.adds.between in
    let own : same n entry.caller ≡ true = subst (λ c. same c entry.caller ≡ true) g.adds.number mine in
    let earlier : MixesFindIdle (before.seen ++ between) n =
    others_leave_mixes n before.seen between (others_come_between before after item g.place g.adds g.knows) mixes in
    elim (split_last (before.seen ++ between) front behind item (Called entry) (sym g.adds.seen ∙ splits)) [
      | inl there ↦ earlier front there.0 u entry there.1 state own
      | inr here ↦
          let at : IsStateOf (before.seen ++ between) u = subst (λ items. IsStateOf items u) here.1 state in
          let one : s ≡ u = histories_lead_to_one (before.seen ++ between) s u g.state at in
          let found : FindsIdleAt s (Called entry) = subst (λ (i : Item). FindsIdleAt s i) here.0 finds in
          subst (λ (v : State). FindsIdle v entry.call) one found
    ]

pub other_calls_leave_mixes : OtherCallsLeaveMixes
other_calls_leave_mixes before after item s t g not mixes = mixes_go_on before after item s t g (finds_other_at s item not) mixes
