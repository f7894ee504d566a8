-- How the renders of a stream go on.
use Rattle.std.proofs.Common.{◌≡◌, ℕ, ◌+◌, Bool, true, false, cond, List, [], ◌∷◌, ◌++◌, length, refl, ap, sym, ◌∙◌, subst, arith}
use Rattle.std.specs.List.{list_any}
use Rattle.std.proofs.lemmas.List.{append-nil}
use Rattle.device_lock.specs.Lists.{same}
use Rattle.device_lock.specs.Numbers.{items_of}
use Rattle.device_lock.specs.declared.view.View.{View}
use Rattle.device_lock.proofs.Callers.{same_self}
use Rattle.driver_model.specs.Histories.{Happens, IsStateOf, Leads}
use Rattle.driver_model.specs.Passes.{caller_of}
use Rattle.driver_model.specs.States.{State, empty_state}
use Rattle.driver_model.specs.declared.items.Item.{Item}
use Rattle.driver_model.proofs.Leading.{histories_lead_to_one, leads_front}
use Rattle.accepted_pictures.specs.Files.{Decoded}
use Rattle.stream_calls.specs.Counted.{has_done, is_render, renders_in}
use Rattle.stream_calls.specs.Gained.{Gains}
use Rattle.stream_calls.specs.Renders.{AreRendered, IsRenderAt, TakesPicture, is_own_render}
use Rattle.stream_calls.specs.RendersGoOn.{OtherCallsRenderNothing, OthersRenderNothing, RendersAreCounted, RendersGoOn}
use Rattle.stream_calls.proofs.LastItems.{and_false, and_true, count_own, gained_items_happen, none_own, or_parts, others_come_between}

takes_more : (b : Bool) (item : Item) (after : State) (pictures others more : List Decoded) → TakesPicture b item after pictures others
    → TakesPicture b item after (pictures ++ more) (others ++ more)
takes_more true item after pictures others more takes = (takes.0, ap (λ l. l ++ more) takes.1, takes.2)
takes_more false item after pictures others more takes = ap (λ l. l ++ more) takes

taken_count : (b : Bool) (item : Item) (after : State) (pictures others : List Decoded) → TakesPicture b item after pictures others
    → length pictures ≡ cond b 1 0 + length others
taken_count true item after pictures others takes = let e : length pictures ≡ length (takes.0 ∷ others) = ap length takes.1 in omega (arith, e)
taken_count false item after pictures others takes = let e : length pictures ≡ length others = ap length takes in omega (arith, e)

module _ (caller : List ℕ) where
  -- no render of the caller that was done is among these
  none_rendered : (s t : State) (items : List Item) → Leads s items t → list_any (is_own_render caller) items ≡ false → AreRendered caller s items []
  unfolding AreRendered Leads
  none_rendered s t [] leads none = refl
  none_rendered s t (item ∷ later) leads none =
      let both = or_parts (is_own_render caller item) (list_any (is_own_render caller) later) none in
      let rest = none_rendered leads.0 t later leads.2 both.1 in
      (leads.0, leads.1, [], subst (λ b. TakesPicture b item leads.0 [] []) (sym both.0) refl, rest)

  rendered_append : (s : State) (front behind : List Item) (pictures more : List Decoded) → AreRendered caller s front pictures
      → ((m : State) → Leads s front m → AreRendered caller m behind more) → AreRendered caller s (front ++ behind) (pictures ++ more)
  unfolding AreRendered Leads
  rendered_append s [] behind pictures more are rest = subst (λ l. AreRendered caller s behind (l ++ more)) (sym are) (rest s refl)
  rendered_append s (item ∷ front) behind pictures more are rest =
      let later = rendered_append are.0 front behind are.2 more are.4 (λ m leads. rest m (are.0, are.1, leads)) in
      (are.0, are.1, are.2 ++ more, takes_more (is_own_render caller item) item are.0 pictures are.2 more are.3, later)

  -- one render of a picture, or one item that is none
  one_rendered : (s t : State) (item : Item) (one : Decoded) → Happens s item t → is_own_render caller item ≡ true → IsRenderAt item t one
      → AreRendered caller s (item ∷ []) (one ∷ [])
  unfolding AreRendered
  one_rendered s t item one happens is at = (t, happens, [], subst (λ b. TakesPicture b item t (one ∷ []) []) (sym is) (one, refl, at), refl)

  other_rendered : (s t : State) (item : Item) → Happens s item t → is_own_render caller item ≡ false → AreRendered caller s (item ∷ []) []
  unfolding AreRendered
  other_rendered s t item happens not = (t, happens, [], subst (λ b. TakesPicture b item t [] []) (sym not) refl, refl)

  others_rendered : (seen between : List Item) (s : State) (pictures : List Decoded) → IsStateOf (seen ++ between) s → items_of caller_of caller between ≡ []
      → AreRendered caller empty_state seen pictures → AreRendered caller empty_state (seen ++ between) pictures
  others_rendered seen between s pictures state none are =
      let parts = leads_front empty_state s seen between state in
      let nothing = none_rendered parts.0 s between parts.2 (none_own caller (has_done is_render) between none) in
      let here : (m : State) → IsStateOf seen m → AreRendered caller m between [] =
      λ m leads. subst (λ (u : State). AreRendered caller u between []) (histories_lead_to_one seen parts.0 m parts.1 leads) nothing in
      subst (λ l. AreRendered caller empty_state (seen ++ between) l) (append-nil pictures) (rendered_append empty_state seen between pictures [] are here)

  -- from the state before the last item
  last_rendered : (front : List Item) (item : Item) (s : State) (pictures more : List Decoded) → IsStateOf front s
      → AreRendered caller empty_state front pictures
      → AreRendered caller s (item ∷ []) more → AreRendered caller empty_state (front ++ item ∷ []) (pictures ++ more)
  last_rendered front item s pictures more state are last =
      rendered_append empty_state front (item ∷ []) pictures more are
      (λ m leads. subst (λ (u : State). AreRendered caller u (item ∷ []) more) (histories_lead_to_one front s m state leads) last)

  rendered_count : (s : State) (seen : List Item) (pictures : List Decoded) → AreRendered caller s seen pictures
      → renders_in (items_of caller_of caller seen) ≡ length pictures
  unfolding AreRendered
  rendered_count s [] pictures are = sym (ap length are)
  rendered_count s (item ∷ later) pictures are =
      let rest = rendered_count are.0 later are.2 are.4 in
      let here = count_own caller (has_done is_render) item later in
      let taken = taken_count (is_own_render caller item) item are.0 pictures are.2 are.3 in
      here ∙ (ap (λ n. cond (is_own_render caller item) 1 0 + n) rest ∙ sym taken)

pub others_render_nothing : OthersRenderNothing
others_render_nothing caller seen between s pictures state none are = others_rendered caller seen between s pictures state none are

pub renders_are_counted : RendersAreCounted
renders_are_counted caller s seen pictures are = rendered_count caller s seen pictures are

-- ---- the caller's next item

module _ (before after : View Item) (item : Item) (s t : State) (g : Gains before item after s t) where
  behind_others : (pictures : List Decoded) → AreRendered before.number empty_state before.seen pictures
      → AreRendered before.number empty_state (before.seen ++ g.adds.between) pictures
  behind_others pictures are =
      others_rendered before.number before.seen g.adds.between s pictures g.state (others_come_between before after item g.place g.adds g.knows) are

  gained : (pictures : List Decoded) → AreRendered before.number empty_state ((before.seen ++ g.adds.between) ++ item ∷ []) pictures
      → AreRendered after.number empty_state after.seen pictures
  gained pictures are =
      let here = subst (λ items. AreRendered before.number empty_state items pictures) (sym g.adds.seen) are in
      subst (λ c. AreRendered c empty_state after.seen pictures) (sym g.adds.number) here

  other : (pictures : List Decoded) → has_done is_render item ≡ false → AreRendered before.number empty_state before.seen pictures
      → AreRendered after.number empty_state after.seen pictures
  other pictures not are =
      let test : is_own_render before.number item ≡ false = and_false (same before.number (caller_of item)) (has_done is_render item) not in
      let last = other_rendered before.number s t item (gained_items_happen before after item s t g) test in
      let whole = last_rendered before.number (before.seen ++ g.adds.between) item s pictures [] g.state (behind_others pictures are) last in
      gained pictures (subst (λ l. AreRendered before.number empty_state ((before.seen ++ g.adds.between) ++ item ∷ []) l) (append-nil pictures) whole)

  next : (pictures : List Decoded) (one : Decoded) → has_done is_render item ≡ true → IsRenderAt item t one
      → AreRendered before.number empty_state before.seen pictures → AreRendered after.number empty_state after.seen (pictures ++ one ∷ [])
  next pictures one done at are =
      let test : is_own_render before.number item ≡ true =
      and_true (same before.number (caller_of item)) (has_done is_render item) (ap (same before.number) g.adds.caller ∙ same_self before.number) done in
      let last = one_rendered before.number s t item one (gained_items_happen before after item s t g) test at in
      let whole = last_rendered before.number (before.seen ++ g.adds.between) item s pictures (one ∷ []) g.state (behind_others pictures are) last in
      gained (pictures ++ one ∷ []) whole

pub other_calls_render_nothing : OtherCallsRenderNothing
other_calls_render_nothing before after item s t pictures g not are = other before after item s t g pictures not are

pub renders_go_on : RendersGoOn
renders_go_on before after item s t pictures one g done at are = next before after item s t g pictures one done at are
