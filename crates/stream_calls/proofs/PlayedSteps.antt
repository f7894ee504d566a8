-- How what is played goes on, and what of it is a file's.
use Rattle.std.proofs.Common.{◌≡◌, ℕ, Bool, true, false, ◌&&◌, List, [], ◌∷◌, ◌++◌, length, reverse, refl, ap, sym, ◌∙◌, subst}
use Rattle.std.proofs.lemmas.List.{append-nil, reverse-append}
use Rattle.device_lock.specs.Numbers.{items_of}
use Rattle.driver_model.specs.Passes.{caller_of}
use Rattle.driver_model.specs.States.{empty_state}
use Rattle.driver_model.specs.declared.calls.Call.{Call}
use Rattle.driver_model.specs.declared.calls.Call.TheVariants as call
use Rattle.driver_model.specs.declared.items.Item.{Item}
use Rattle.driver_model.specs.declared.items.Item.TheVariants.{Called, Ended}
use Rattle.stream_calls.specs.Counted.{displays_in, has_done, is_call, is_display, is_done, is_render}
use Rattle.stream_calls.specs.Displays.{AreDisplayed}
use Rattle.stream_calls.specs.DisplaysGoOn.{FindsIdle, is_mix}
use Rattle.stream_calls.specs.Played.{DisplaysArePlayed, HasPlayed, NoCallsPlayNothing, NothingIsOfEachFile, OtherCallsPlayNothing, OtherCallsStayOfTheFile, OthersPlayNothing, PromisesStayOfTheFile, RendersArePlayed, WhatIsPlayedFollows, nothing_played}
use Rattle.stream_calls.specs.Promises.{PromisesInTime}
use Rattle.stream_calls.specs.Renders.{AreRendered}
use Rattle.stream_calls.specs.StreamCalls.{shown_of}
use Rattle.stream_calls.proofs.DisplaySteps as displays
use Rattle.stream_calls.proofs.PromiseSteps.{other_calls_promise_nothing, promises_go_on_behind}
use Rattle.stream_calls.proofs.RenderSteps as renders

pub what_is_played_follows : WhatIsPlayedFollows
what_is_played_follows stream seen caller played accepted has of = record {
  renders = record {
    rendered = reverse played.rendered;
    later = reverse of.first.later;
    first = ap reverse of.first.pictures ∙ reverse-append of.first.later played.rendered;
    are = has.renders;
  };
  displays = record {
    displayed = played.displayed;
    later = of.first.others;
    first = of.first.shown;
    are = has.displays;
    idle = λ front behind s entry mixer structure video output on splits state mine asked found.
        let finds : FindsIdle s (call.Mix mixer structure video output) = subst (λ c. FindsIdle s c) asked (has.mixes front behind s entry splits state mine) in
        finds on found;
  };
  promises = of.promises;
}

-- ---- one call is of one kind

left_true : (a b : Bool) → (a && b) ≡ true → a ≡ true
left_true true b e = refl
left_true false b e = e

not_false : (a b : Bool) → a ≡ false → (a && b) ≡ false
not_false true b e = absurd (let k : true ≡ false = e in cc)
not_false false b e = refl

a_render : (asked : Call) → is_render asked ≡ true → (is_display asked ≡ false) × (is_mix asked ≡ false)
a_render (call.Render decoder target info bytes) is = (refl, refl)
a_render _ is = absurd (let k : false ≡ true = is in cc)

a_display : (asked : Call) → is_display asked ≡ true → (is_render asked ≡ false) × (is_mix asked ≡ false)
a_display (call.QueueDisplay queue surface earliest) is = (refl, refl)
a_display _ is = absurd (let k : false ≡ true = is in cc)

render_only : (item : Item) → has_done is_render item ≡ true → (has_done is_display item ≡ false) × (is_call is_mix item ≡ false)
render_only (Called entry) done =
    let kinds = a_render entry.call (left_true (is_render entry.call) (is_done entry.reply) done) in
    (not_false (is_display entry.call) (is_done entry.reply) kinds.0, kinds.1)
render_only (Ended mark) done = (refl, refl)

display_only : (item : Item) → has_done is_display item ≡ true → (has_done is_render item ≡ false) × (is_call is_mix item ≡ false)
display_only (Called entry) done =
    let kinds = a_display entry.call (left_true (is_display entry.call) (is_done entry.reply) done) in
    (not_false (is_render entry.call) (is_done entry.reply) kinds.0, kinds.1)
display_only (Ended mark) done = (refl, refl)

-- ---- the history

pub others_play_nothing : OthersPlayNothing
others_play_nothing caller seen between played legal nothing has = record {
  renders = renders.others_render_nothing caller seen between legal.0 (reverse played.rendered) legal.1 nothing has.renders;
  displays = displays.others_display_nothing caller seen between legal.0 played.displayed legal.1 nothing has.displays;
  mixes = displays.others_leave_mixes caller seen between nothing has.mixes;
}

pub other_calls_play_nothing : OtherCallsPlayNothing
other_calls_play_nothing before after item s t played g no_render no_display finds has = record {
  renders = renders.other_calls_render_nothing before after item s t (reverse played.rendered) g no_render has.renders;
  displays = displays.other_calls_display_nothing before after item s t played.displayed g no_display has.displays;
  mixes = displays.mixes_go_on before after item s t g finds has.mixes;
}

pub renders_are_played : RendersArePlayed
renders_are_played before after item s t played one g done at has =
    let grown = renders.renders_go_on before after item s t (reverse played.rendered) one g done at has.renders in
    record {
      renders = subst (λ l. AreRendered after.number empty_state after.seen l) (sym (reverse-append (one ∷ []) played.rendered)) grown;
      displays = displays.other_calls_display_nothing before after item s t played.displayed g (render_only item done).0 has.displays;
      mixes = displays.other_calls_leave_mixes before after item s t g (render_only item done).1 has.mixes;
    }

pub displays_are_played : DisplaysArePlayed
displays_are_played before after item s t played one g done at has = record {
  renders = renders.other_calls_render_nothing before after item s t (reverse played.rendered) g (display_only item done).0 has.renders;
  displays = displays.displays_go_on before after item s t played.displayed one g done at has.displays;
  mixes = displays.other_calls_leave_mixes before after item s t g (display_only item done).1 has.mixes;
}

-- ---- who has made no calls

not_empty : {A : Type 0} (front behind : List Item) (item : Item) → (let l : List Item = [] in l ≡ front ++ item ∷ behind) → A
not_empty [] behind item e = absurd (let k : (let l : List Item = [] in l ≡ item ∷ behind) = e in cc)
not_empty (first ∷ front) behind item e = absurd (let k : (let l : List Item = [] in l ≡ first ∷ (front ++ item ∷ behind)) = e in cc)

nothing_seen : (caller : List ℕ) → HasPlayed [] caller nothing_played
unfolding AreRendered AreDisplayed
nothing_seen caller = record {
  renders = refl;
  displays = refl;
  mixes = λ front behind s entry splits state mine. not_empty front behind (Called entry) splits;
}

pub no_calls_play_nothing : NoCallsPlayNothing
no_calls_play_nothing seen caller legal nothing = others_play_nothing caller [] seen nothing_played legal nothing (nothing_seen caller)

-- ---- the file

pub nothing_is_of_each_file : NothingIsOfEachFile
nothing_is_of_each_file stream accepted = record {
  first = record { later = accepted; pictures = sym (append-nil accepted); others = shown_of stream accepted; shown = refl };
  promises = record { promised = λ front later entry queue time e asked done. not_empty front later (Called entry) e };
}

pub other_calls_stay_of_the_file : OtherCallsStayOfTheFile
other_calls_stay_of_the_file stream own item old new accepted not of first = record {
  first = first;
  promises = other_calls_promise_nothing own item (shown_of stream accepted) not of.promises;
}

pub promises_stay_of_the_file : PromisesStayOfTheFile
promises_stay_of_the_file stream seen caller entry queue time played accepted others has of asks shown all =
    let own = items_of caller_of caller seen in
    let count : displays_in own ≡ length played.displayed = displays.displays_are_counted caller empty_state seen played.displayed has.displays in
    let old : PromisesInTime own (played.displayed ++ others) = subst (λ l. PromisesInTime own l) shown of.promises in
    let more = promises_go_on_behind own entry queue time played.displayed others asks count all old in
    record { first = of.first; promises = subst (λ l. PromisesInTime (own ++ Called entry ∷ []) l) (sym shown) more }
