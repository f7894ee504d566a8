-- What a pacer's state says of its script.
use Rattle.std.proofs.Common.{◌≡◌, ◌≢◌, ℕ, zero, suc, ◌+◌, ◌-◌, ◌*◌, ◌^◌, ◌<◌, ◌≤◌, nat_le, nat_lt, Bool, true, false, ◌==◌, if◌then◌else◌, List, [], ◌∷◌, ◌++◌, drop, Option, Some, None, position, add-one, mul_comm, refl, ap, sym, ◌∙◌, subst, arith}
use Rattle.std.proofs.lemmas.Bool.{and_parts, ltb-true}
use Rattle.std.proofs.lemmas.Bool.Decides.{nat_tests}
use Rattle.std.proofs.Math.Nat.{mul-le-mul_right}
use Rattle.std.specs.List.{AllByRecursion}
use Rattle.std.specs.Option.{option_map, option_map_or, option_or, unwrap_or}
use Rattle.clock_script.specs.Script.{IsInOrder, IsLegal, is_preemption_of, is_time}
use Rattle.clock_script.specs.declared.script.ScriptLine.{ScriptLine}
use Rattle.clock_script.specs.declared.script.ScriptLine.TheVariants.{Preempt, Tick}
use Rattle.script_ticks.proofs.Searches.{later_searches_go_on, no_later_ticks}
use Rattle.script_ticks.specs.Ticks.{first_tick}
use Rattle.script_ticks.specs.declared.ticks.ScriptTick.{ScriptTick}
use Rattle.vd_plane.specs.declared.picture.Picture.{Picture}
use Rattle.driver_model.specs.ShownPictures.{ShownPicture, shown_at, shown_from, tick_in_time, tick_of}
use Rattle.player_laws.proofs.Shown.{late_none, later_pictures_show_later, ticks_are_found, ticks_in_time_are_found}
use Rattle.player_laws.specs.Shown.{gives_way, settled_at, time_before, time_in}
use Rattle.frame_pacer.specs.Laws.{PromisesAreKept}
use Rattle.frame_pacer.specs.Paced.{IsLast, IsPaced, IsSettled, last_tick, no_time, promised, settled_time, shown_if}
use Rattle.frame_pacer.specs.declared.pacer.Pacer.{Pacer}

-- ---- no script has a tick so late

beyond : (streams time number : ℕ) (earlier lines : List ScriptLine) → 2 ^ 63 ≤ time → IsInOrder streams earlier lines → first_tick time number lines ≡ None
unfolding IsInOrder first_tick
beyond streams time number earlier [] late order = refl
beyond streams time number earlier (Tick ticks ∷ lines) late order =
    let is : is_time ticks ≡ true = (and_parts (is_time ticks) _ order.0).0 in
    let less : ticks < 2 ^ 63 = ltb-true ticks (2 ^ 63) (and_parts (nat_le 1 ticks) (nat_lt ticks (2 ^ 63)) is).1 in
    let test : nat_le time ticks ≡ false = grind (arith, nat_tests, late, less) in
    ap (λ b. option_or (if b then Some (record { line = number; time = ticks }) else None) (first_tick time (number + 1) lines)) test
    ∙ beyond streams time (number + 1) (earlier ++ Tick ticks ∷ []) lines late order.1
beyond streams time number earlier (Preempt preempts stream ∷ lines) late order =
    beyond streams time (number + 1) (earlier ++ Preempt preempts stream ∷ []) lines late order.1

pub no_tick_beyond : (streams time : ℕ) (script : List ScriptLine) → 2 ^ 63 ≤ time → IsLegal streams script → first_tick time 0 script ≡ None
no_tick_beyond streams time script late legal = beyond streams time 0 [] script late legal

-- ---- the tick of the next picture

no_tick : {A : Type 0} (tick : ScriptTick) → (let o : Option ScriptTick = None in o ≡ Some tick) → A
no_tick tick e = absurd (let k : (let o : Option ScriptTick = None in o ≡ Some tick) = e in cc)

module _ (script : List ScriptLine) (period : ℕ) where
  pub next_is : (count : ℕ) → last_tick script period (count + 1) ≡ first_tick ((count + 1) * period) 0 script
  next_is count = ap (last_tick script period) (add-one count)

  rises : (number : ℕ) → (number + 1) * period ≤ (suc number + 1) * period
  rises number = mul-le-mul_right period (omega arith)

  -- It is found from the line of the last one's tick on, and isn't there where that one has none.
  pub next_after : (count : ℕ) (tick : ScriptTick) → last_tick script period count ≡ Some tick
      → first_tick ((count + 1) * period) tick.line (drop tick.line script) ≡ last_tick script period (count + 1)
  next_after zero tick is = no_tick tick is
  next_after (suc number) tick is =
      sym (next_is (suc number) ∙ later_searches_go_on ((number + 1) * period) ((suc number + 1) * period) 0 script tick (rises number) is)

  pub next_none : (number : ℕ) → last_tick script period (suc number) ≡ None → last_tick script period (suc number + 1) ≡ None
  next_none number none = next_is (suc number) ∙ no_later_ticks ((number + 1) * period) ((suc number + 1) * period) 0 script (rises number) none

-- ---- ticks in time

module _ (script : List ScriptLine) (stream period : ℕ) where
  pub in_time : (number : ℕ) → tick_in_time script stream period number ≡ time_in (position (is_preemption_of stream) script) (last_tick script period (suc number))
  in_time number = ticks_in_time_are_found ((number + 1) * period) stream script

  pub tick_is : (number : ℕ) → tick_of script stream period number ≡ option_map (λ (tick : ScriptTick). tick.time) (last_tick script period (suc number))
  tick_is number = ticks_are_found ((number + 1) * period) script

  -- what is in time is the tick
  pub is_tick_of : (number time : ℕ) → tick_in_time script stream period number ≡ Some time → tick_of script stream period number ≡ Some time
  is_tick_of number time e = by_tick (last_tick script period (suc number)) refl where
    by_line : (line : Option ℕ) (tick : ScriptTick) → time_before line tick ≡ Some time → Some tick.time ≡ Some time
    by_line None tick k = k
    by_line (Some line) tick k = by_test (nat_lt tick.line line) k where
      by_test : (b : Bool) → (if b then Some tick.time else None) ≡ Some time → Some tick.time ≡ Some time
      by_test true k = k
      by_test false k = absurd cc

    by_tick : (tick : Option ScriptTick) → last_tick script period (suc number) ≡ tick → tick_of script stream period number ≡ Some time
    by_tick None is = absurd (let k : (let o : Option ℕ = None in o ≡ Some time) = sym (in_time number ∙ ap (time_in _) is) ∙ e in cc)
    by_tick (Some tick) is = tick_is number ∙ (ap (option_map (λ (tick : ScriptTick). tick.time)) is ∙ by_line _ tick (sym (in_time number ∙ ap (time_in _) is) ∙ e))

-- ---- what is shown

module _ (script : List ScriptLine) (stream period number : ℕ) where
  pub shown_last : (time : Option ℕ) (picture : Picture) → shown_at script stream period number time picture [] ≡ shown_if time picture
  shown_last None picture = refl
  shown_last (Some time) picture = refl

-- ---- promises

any_time : (shown : List (ShownPicture Picture)) → AllByRecursion (λ (one : ShownPicture Picture). 0 ≤ one.time) shown
any_time [] = tt
any_time (one ∷ shown) = (omega arith, any_time shown)

pub promises_are_kept : PromisesAreKept
promises_are_kept streams script stream period zero pictures legal = any_time (shown_from script stream period (zero - 1) pictures)
promises_are_kept streams script stream period (suc number) pictures legal = by_time (tick_in_time script stream period number) refl where
  AllFrom : ℕ → List (ShownPicture Picture) → Type 0
  AllFrom time shown = AllByRecursion (λ (one : ShownPicture Picture). time ≤ one.time) shown

  same : suc number - 1 ≡ number
  same = omega arith

  by_time : (time : Option ℕ) → tick_in_time script stream period number ≡ time → AllFrom (promised script stream period (suc number)) (shown_from script stream period (suc number - 1) pictures)
  by_time None is =
      let none : shown_from script stream period (suc number - 1) pictures ≡ [] = ap (λ n. shown_from script stream period n pictures) same ∙ late_none script stream period number pictures is in
      subst (AllFrom (promised script stream period (suc number))) (sym none) tt
  by_time (Some time) is =
      let all : AllFrom time (shown_from script stream period number pictures) = later_pictures_show_later streams script stream period number time pictures legal (is_tick_of script stream period number time is) in
      subst (λ n. AllFrom n (shown_from script stream period (suc number - 1) pictures)) (sym (ap (λ t. unwrap_or t no_time) is))
      (subst (λ n. AllFrom time (shown_from script stream period n pictures)) (sym same) all)

-- ---- of a pacer

module _ (pacer : Pacer) (script : List ScriptLine) (stream period count : ℕ) (paced : IsPaced pacer script stream period count) where
  -- the time of its last picture
  pub time_is : time_in pacer.preemption pacer.tick ≡ time_in (position (is_preemption_of stream) script) (last_tick script period count)
  time_is = ap (λ line. time_in line pacer.tick) paced.preempted ∙ ap (time_in (position (is_preemption_of stream) script)) paced.tick

pub is_last : (pacer : Pacer) (script : List ScriptLine) (stream period count : ℕ) → IsPaced pacer script stream period count → IsLast script stream period count (time_in pacer.preemption pacer.tick)
is_last pacer script stream period zero paced = time_is pacer script stream period zero paced
is_last pacer script stream period (suc number) paced = λ picture.
    ap (λ t. shown_at script stream period number t picture []) (in_time script stream period number ∙ sym (time_is pacer script stream period (suc number) paced))
    ∙ shown_last script stream period number (time_in pacer.preemption pacer.tick) picture

pub is_promised : (pacer : Pacer) (script : List ScriptLine) (stream period number : ℕ) → IsPaced pacer script stream period (suc number)
    → unwrap_or (time_in pacer.preemption pacer.tick) no_time ≡ promised script stream period (suc number)
is_promised pacer script stream period number paced =
    ap (λ t. unwrap_or t no_time) (time_is pacer script stream period (suc number) paced ∙ sym (in_time script stream period number))

-- whether the next picture has this tick's time
abbrev has_time : ℕ → Option ScriptTick → Bool
has_time time next = option_map_or (λ (tick : ScriptTick). tick.time == time) next false

gives : (script : List ScriptLine) (stream period number time : ℕ) → gives_way script stream period number time ≡ has_time time (last_tick script period (suc number + 1))
gives script stream period number time =
    ap (λ (o : Option ℕ). option_map_or (λ other. other == time) o false) (tick_is script stream period (number + 1))
    ∙ (by_tick (last_tick script period (suc (number + 1)))
    ∙ ap (has_time time) (ap (λ n. last_tick script period n) same))
  where
    same : suc (number + 1) ≡ suc number + 1
    same = omega arith

    by_tick : (next : Option ScriptTick) → option_map_or (λ other. other == time) (option_map (λ (tick : ScriptTick). tick.time) next) false ≡ has_time time next
    by_tick None = refl
    by_tick (Some tick) = refl

settled_is : (script : List ScriptLine) (stream period number : ℕ) (time : Option ℕ) (next : Option ScriptTick) → next ≡ last_tick script period (suc number + 1)
    → (picture : Picture) → settled_at script stream period number time picture ≡ shown_if (settled_time time next) picture
settled_is script stream period number None next is picture = refl
settled_is script stream period number (Some time) next is picture =
    ap (λ b. if b then [] else record { picture = picture; time = time } ∷ []) (gives script stream period number time ∙ ap (has_time time) (sym is))
    ∙ by_test (has_time time next)
  where
    by_test : (b : Bool) → (if b then [] else record { picture = picture; time = time } ∷ []) ≡ shown_if (if b then None else Some time) picture
    by_test true = refl
    by_test false = refl

pub is_settled : (pacer : Pacer) (script : List ScriptLine) (stream period count : ℕ) (next : Option ScriptTick) → IsPaced pacer script stream period count
    → next ≡ last_tick script period (count + 1) → IsSettled script stream period count (settled_time (time_in pacer.preemption pacer.tick) next)
is_settled pacer script stream period zero next paced is = ap (λ t. settled_time t next) (time_is pacer script stream period zero paced)
is_settled pacer script stream period (suc number) next paced is = λ picture.
    ap (λ t. settled_at script stream period number t picture) (in_time script stream period number ∙ sym (time_is pacer script stream period (suc number) paced))
    ∙ settled_is script stream period number (time_in pacer.preemption pacer.tick) next is picture

pub promised_first : (pacer : Pacer) (script : List ScriptLine) (stream period count : ℕ) → IsPaced pacer script stream period count → pacer.count ≡ 0 → 0 ≡ promised script stream period count
promised_first pacer script stream period zero paced none = refl
promised_first pacer script stream period (suc number) paced none = absurd (let k : suc number ≡ 0 = sym paced.counted ∙ none in omega (arith, k))

pub promised_later : (pacer : Pacer) (script : List ScriptLine) (stream period count : ℕ) → IsPaced pacer script stream period count → pacer.count ≢ 0
    → unwrap_or (time_in pacer.preemption pacer.tick) no_time ≡ promised script stream period count
promised_later pacer script stream period zero paced some = absurd (some paced.counted)
promised_later pacer script stream period (suc number) paced some = is_promised pacer script stream period number paced

-- Where the last picture has no tick, neither has the next one.
pub no_next : (pacer : Pacer) (script : List ScriptLine) (stream period count : ℕ) → IsPaced pacer script stream period count → pacer.count ≢ 0 → pacer.tick ≡ None
    → last_tick script period (count + 1) ≡ None
no_next pacer script stream period zero paced some none = absurd (some paced.counted)
no_next pacer script stream period (suc number) paced some none = next_none script period number (sym paced.tick ∙ none)

-- where the next picture's time has more than 64 bits, it has no tick
pub no_tick_so_late : (pacer : Pacer) (streams : ℕ) (script : List ScriptLine) (stream period count : ℕ) → IsPaced pacer script stream period count → IsLegal streams script
    → (pacer.period * (pacer.count + 1) < 2 ^ 64 → ⊥) → last_tick script period (count + 1) ≡ None
no_tick_so_late pacer streams script stream period count paced legal late =
    let same : pacer.period * (pacer.count + 1) ≡ (count + 1) * period = ap (λ p. p * (pacer.count + 1)) paced.of_period ∙ (ap (λ n. period * (n + 1)) paced.counted ∙ mul_comm period (count + 1)) in
    let long : ((count + 1) * period < 2 ^ 63) → ⊥ = λ less. late (omega (arith, same, less)) in
    next_is script period count ∙ no_tick_beyond streams ((count + 1) * period) script (not_less ((count + 1) * period) (2 ^ 63) long) legal
  where
    not_less : (a b : ℕ) → (a < b → ⊥) → b ≤ a
    not_less a b never = grind (arith, never)
