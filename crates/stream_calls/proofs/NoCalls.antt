-- Who has made no calls yet, and what is fed.
use Rattle.std.proofs.Common.{◌≡◌, ℕ, Bool, true, false, cond, ◌&&◌, List, [], ◌∷◌, ◌++◌, slice_get, Option, Some, refl, ap, sym, ◌∙◌, subst, arith}
use Rattle.std.proofs.lemmas.List.{append_assoc}
use Rattle.device_lock.specs.Lists.{same}
use Rattle.device_lock.specs.Numbers.{items_of}
use Rattle.vd_plane.specs.declared.picture.Picture.{Picture}
use Rattle.driver_model.specs.Histories.{IsLegal, Leads}
use Rattle.driver_model.specs.Passes.{caller_of}
use Rattle.driver_model.specs.ShownPictures.{ShownPicture}
use Rattle.driver_model.specs.States.{State, empty_state}
use Rattle.driver_model.specs.declared.items.Item.{Item}
use Rattle.driver_model.specs.declared.items.Item.TheVariants.{Called}
use Rattle.accepted_pictures.specs.Files.{Decoded}
use Rattle.stream_calls.specs.Counted.{has_done, is_display, is_render}
use Rattle.stream_calls.specs.Displays.{AreDisplayed, TakesShown}
use Rattle.stream_calls.specs.Laws.{FeedingKeepsStreamCalls, NoCallsAreAStreams, feeding}
use Rattle.stream_calls.specs.OneDevice.{StaysOnOneDevice}
use Rattle.stream_calls.specs.Promises.{PromisesInTime}
use Rattle.stream_calls.specs.Renders.{AreRendered, TakesPicture}
use Rattle.stream_calls.specs.StreamCalls.{Fed, FollowsTheFile, MayBeFile, Stream, shown_of}

not_empty : {A : Type 0} (front later : List Item) (item : Item) → (let l : List Item = [] in l ≡ front ++ item ∷ later) → A
not_empty [] later item e = absurd (let k : (let l : List Item = [] in l ≡ item ∷ later) = e in cc)
not_empty (first ∷ front) later item e = absurd (let k : (let l : List Item = [] in l ≡ first ∷ (front ++ item ∷ later)) = e in cc)

nothing_there : {A : Type 0} (place : ℕ) (item : Item) → slice_get [] place ≡ Some item → A
nothing_there place item e = absurd (let k : (let o : Option Item = slice_get [] place in o ≡ Some item) = e in cc)

-- ---- no items

nothing_stays : (seen : List Item) (stream : ℕ) → StaysOnOneDevice seen [] stream
nothing_stays seen stream = record {
  one_device = λ front later entry e asked done. not_empty front later (Called entry) e;
  on_device = λ place entry e other. nothing_there place (Called entry) e;
  one_queue = omega arith;
  window = λ place entry device window e asked done. nothing_there place (Called entry) e;
  left_out = refl;
  live = λ front later s splits state. omega arith;
  made = omega arith;
  counted = omega arith;
}

nothing_promised : (shown : List (ShownPicture Picture)) → PromisesInTime [] shown
nothing_promised shown = record { promised = λ front later entry queue time e asked done. not_empty front later (Called entry) e }

module _ (caller : List ℕ) where
  abbrev own : List Item → List Item
  own items = items_of caller_of caller items

  -- the first item isn't the caller's, where it has none
  not_first : (item : Item) (later : List Item) → own (item ∷ later) ≡ [] → (same caller (caller_of item) ≡ false) × (own later ≡ [])
  not_first item later none = by_test (same caller (caller_of item)) refl none where
    by_test : (b : Bool) → same caller (caller_of item) ≡ b → cond b (item ∷ own later) (own later) ≡ [] → (same caller (caller_of item) ≡ false) × (own later ≡ [])
    by_test true e k = absurd (let z : (let l : List Item = [] in item ∷ own later ≡ l) = k in cc)
    by_test false e k = (e, k)

  not_own : (front behind : List Item) (item : Item) → own (front ++ item ∷ behind) ≡ [] → same caller (caller_of item) ≡ false
  not_own [] behind item none = (not_first item behind none).0
  not_own (first ∷ front) behind item none = not_own front behind item (not_first first (front ++ item ∷ behind) none).1

  other_item : (test : Item → Bool) (item : Item) → same caller (caller_of item) ≡ false → (same caller (caller_of item) && test item) ≡ false
  other_item test item other = ap (λ b. b && test item) other

  nothing_rendered : (s t : State) (items : List Item) → Leads s items t → own items ≡ [] → AreRendered caller s items []
  unfolding AreRendered Leads
  nothing_rendered s t [] leads none = refl
  nothing_rendered s t (item ∷ later) leads none =
      let others = not_first item later none in
      let rest = nothing_rendered leads.0 t later leads.2 others.1 in
      (leads.0, leads.1, [], subst (λ b. TakesPicture b item leads.0 [] []) (sym (other_item (has_done is_render) item others.0)) refl, rest)

  nothing_displayed : (s t : State) (items : List Item) → Leads s items t → own items ≡ [] → AreDisplayed caller s items []
  unfolding AreDisplayed Leads
  nothing_displayed s t [] leads none = refl
  nothing_displayed s t (item ∷ later) leads none =
      let others = not_first item later none in
      let rest = nothing_displayed leads.0 t later leads.2 others.1 in
      (leads.0, leads.1, [], subst (λ b. TakesShown b s item [] []) (sym (other_item (has_done is_display) item others.0)) refl, rest)

  pub follows_nothing : (stream : Stream) (seen : List Item) (accepted : List Decoded) → IsLegal seen → own seen ≡ [] → FollowsTheFile stream seen caller accepted
  follows_nothing stream seen accepted legal none = record {
    renders = record { rendered = []; later = _; first = refl; are = nothing_rendered empty_state legal.0 seen legal.1 none };
    displays = record {
      displayed = [];
      later = shown_of stream accepted;
      first = refl;
      are = nothing_displayed empty_state legal.0 seen legal.1 none;
      idle = λ front behind s entry mixer structure video output on splits state mine asked found.
          let other : same caller entry.caller ≡ false = not_own front behind (Called entry) (ap own (sym splits) ∙ none) in
          absurd (let k : true ≡ false = sym mine ∙ other in cc);
    };
    promises = subst (λ items. PromisesInTime items (shown_of stream accepted)) (sym none) (nothing_promised (shown_of stream accepted));
  }

pub no_calls_are_a_streams : NoCallsAreAStreams
no_calls_are_a_streams stream fed seen caller legal none = record {
  device = subst (λ items. StaysOnOneDevice seen items stream.number) (sym none) (nothing_stays seen stream.number);
  follows = λ alone file accepted fault may has. follows_nothing caller stream seen accepted legal none;
}

-- ---- what is fed

may_be_file : (fed : Fed) (bytes file : List ℕ) → fed.ended ≡ false → MayBeFile (feeding fed bytes) file → MayBeFile fed file
may_be_file fed [] file going may = record { rest = may.rest; begins = may.begins; short = may.short; whole = λ ended. absurd (let k : true ≡ false = sym ended ∙ going in cc) }
may_be_file fed (byte ∷ bytes) file going may = record {
  rest = byte ∷ (bytes ++ may.rest);
  begins = may.begins ∙ append_assoc fed.bytes (byte ∷ bytes) may.rest;
  short = may.short;
  whole = λ ended. absurd (let k : true ≡ false = sym ended ∙ going in cc);
}

pub feeding_keeps_stream_calls : FeedingKeepsStreamCalls
feeding_keeps_stream_calls stream fed bytes seen caller going calls = record {
  device = calls.device;
  follows = λ alone file accepted fault may has. calls.follows alone file accepted fault (may_be_file fed bytes file going may) has;
}
