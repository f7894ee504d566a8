-- Ticks rise, and the search for a later one goes on from an earlier one.
use Rattle.std.proofs.Common.{◌≡◌, ℕ, suc, ◌+◌, ◌<◌, ◌≤◌, nat_le, nat_lt, Bool, true, false, cond, if◌then◌else◌, List, [], ◌∷◌, ◌++◌, add-one, drop, drop-cons, filter_map, get_or, length, length-drop, Option, Some, None, refl, ap, sym, ◌∙◌, subst, arith}
use Rattle.std.proofs.lemmas.Bool.{and_parts, ltb-true}
use Rattle.std.proofs.lemmas.Bool.Decides.{nat_tests}
use Rattle.std.proofs.lemmas.List.{append_assoc}
use Rattle.std.proofs.lemmas.List.Folds.{list_all-append}
use Rattle.std.proofs.Math.ListN.{drop_of_length-le}
use Rattle.std.proofs.lemmas.List.Sums.{position_or_len_is}
use Rattle.std.specs.List.{AllByRecursion, list_all, position, position_or_len}
use Rattle.std.specs.Option.{option_or}
use Rattle.clock_script.specs.Script.{IsInOrder, is_before_tick}
use Rattle.clock_script.specs.declared.script.ScriptLine.{ScriptLine}
use Rattle.clock_script.specs.declared.script.ScriptLine.TheVariants.{Preempt, Tick}
use Rattle.script_ticks.specs.Laws.{EarlierTicksStandBefore, LaterSearchesGoOn, NoLaterTicks, TicksRise}
use Rattle.script_ticks.specs.Ticks.{Rises, first_tick, first_tick_at, tick_time}
use Rattle.script_ticks.specs.declared.ticks.ScriptTick.{ScriptTick}

-- ---- ticks rise

-- the time of a tick among the lines that stand before is less than a tick's that may follow
less_there : (front back : List ScriptLine) (time ticks : ℕ) → list_all (is_before_tick ticks) (front ++ Tick time ∷ back) ≡ true → time < ticks
less_there front back time ticks all =
    let parts = and_parts (list_all (is_before_tick ticks) front) (list_all (is_before_tick ticks) (Tick time ∷ back)) (sym (list_all-append (is_before_tick ticks) front (Tick time ∷ back)) ∙ all) in
    ltb-true time ticks (and_parts (is_before_tick ticks (Tick time)) (list_all (is_before_tick ticks) back) parts.1).0

behind : (streams time : ℕ) (front back lines : List ScriptLine) → IsInOrder streams (front ++ Tick time ∷ back) lines → AllByRecursion (λ other. time < other) (filter_map tick_time lines)
unfolding IsInOrder
behind streams time front back [] order = tt
behind streams time front back (Tick ticks ∷ lines) order =
    let more : IsInOrder streams (front ++ Tick time ∷ (back ++ Tick ticks ∷ [])) lines = subst (λ (l : List ScriptLine). IsInOrder streams l lines) (append_assoc front (Tick time ∷ back) (Tick ticks ∷ [])) order.1 in
    (less_there front back time ticks (and_parts _ _ (and_parts _ _ order.0).1).0, behind streams time front (back ++ Tick ticks ∷ []) lines more)
behind streams time front back (Preempt preempts stream ∷ lines) order =
    behind streams time front (back ++ Preempt preempts stream ∷ []) lines (subst (λ (l : List ScriptLine). IsInOrder streams l lines) (append_assoc front (Tick time ∷ back) (Preempt preempts stream ∷ [])) order.1)

rise : (streams : ℕ) (earlier lines : List ScriptLine) → IsInOrder streams earlier lines → Rises (filter_map tick_time lines)
unfolding IsInOrder
rise streams earlier [] order = tt
rise streams earlier (Tick time ∷ lines) order = (behind streams time earlier [] lines order.1, rise streams (earlier ++ Tick time ∷ []) lines order.1)
rise streams earlier (Preempt time stream ∷ lines) order = rise streams (earlier ++ Preempt time stream ∷ []) lines order.1

pub ticks_rise : TicksRise
ticks_rise streams lines legal = rise streams [] lines legal

-- ---- searches

no_tick : {A : Type 0} (tick : ScriptTick) → (let o : Option ScriptTick = None in o ≡ Some tick) → A
no_tick tick e = absurd (let k : (let o : Option ScriptTick = None in o ≡ Some tick) = e in cc)

some_tick : {A : Type 0} (tick : ScriptTick) → (let o : Option ScriptTick = Some tick in o ≡ None) → A
some_tick tick e = absurd (let k : (let o : Option ScriptTick = Some tick in o ≡ None) = e in cc)

one_tick : (a b : ScriptTick) → Some a ≡ Some b → a ≡ b
one_tick a b e = cc

-- what the tests of the earlier and of the later time say of one tick
data Tested (time later ticks : ℕ) : Type 0 where
  Both : nat_le time ticks ≡ true → nat_le later ticks ≡ true → Tested time later ticks
  Earlier : nat_le time ticks ≡ true → nat_le later ticks ≡ false → Tested time later ticks
  Neither : nat_le time ticks ≡ false → nat_le later ticks ≡ false → Tested time later ticks

tested : (time later ticks : ℕ) → time ≤ later → Tested time later ticks
tested time later ticks le = by_tests (nat_le time ticks) (nat_le later ticks) refl refl where
  by_tests : (a b : Bool) → nat_le time ticks ≡ a → nat_le later ticks ≡ b → Tested time later ticks
  by_tests true true x y = Both x y
  by_tests true false x y = Earlier x y
  by_tests false false x y = Neither x y
  by_tests false true x y = absurd (grind (arith, nat_tests))

abbrev from_test : ℕ → ℕ → List ScriptLine → ℕ → Bool → Option ScriptTick
from_test number ticks lines search test = option_or (if test then Some (record { line = number; time = ticks }) else None) (first_tick search (number + 1) lines)

-- what is found has a number from the first one on
pub numbered : (time number : ℕ) (lines : List ScriptLine) (tick : ScriptTick) → first_tick time number lines ≡ Some tick → number ≤ tick.line
unfolding first_tick
numbered time number [] tick e = no_tick tick e
numbered time number (Tick ticks ∷ lines) tick e = by_test (nat_le time ticks) e (numbered time (number + 1) lines tick) where
  by_test : (b : Bool) → option_or (if b then Some (record { line = number; time = ticks }) else None) (first_tick time (number + 1) lines) ≡ Some tick → (first_tick time (number + 1) lines ≡ Some tick → number + 1 ≤ tick.line) → number ≤ tick.line
  by_test true k rest = let same : number ≡ tick.line = ap (λ (t : ScriptTick). t.line) (one_tick _ tick k) in omega arith
  by_test false k rest = let more = rest k in omega arith
numbered time number (Preempt preempts stream ∷ lines) tick e = let more = numbered time (number + 1) lines tick e in omega arith

pub no_later_ticks : NoLaterTicks
unfolding first_tick
no_later_ticks time later number [] le e = refl
no_later_ticks time later number (Tick ticks ∷ lines) le e = by_case (tested time later ticks le) (λ k. no_later_ticks time later (number + 1) lines le k) where
  by_case : Tested time later ticks → (first_tick time (number + 1) lines ≡ None → first_tick later (number + 1) lines ≡ None) → first_tick later number (Tick ticks ∷ lines) ≡ None
  by_case (Both x y) rest = some_tick _ (ap (from_test number ticks lines time) (sym x) ∙ e)
  by_case (Earlier x y) rest = some_tick _ (ap (from_test number ticks lines time) (sym x) ∙ e)
  by_case (Neither x y) rest = ap (from_test number ticks lines later) y ∙ rest (ap (from_test number ticks lines time) (sym x) ∙ e)
no_later_ticks time later number (Preempt preempts stream ∷ lines) le e = no_later_ticks time later (number + 1) lines le e

pub earlier_ticks_stand_before : EarlierTicksStandBefore
unfolding first_tick
earlier_ticks_stand_before time later number [] second le e = no_tick second e
earlier_ticks_stand_before time later number (Tick ticks ∷ lines) second le e = by_case (tested time later ticks le) (λ k. earlier_ticks_stand_before time later (number + 1) lines second le k) where
  by_case : Tested time later ticks → (first_tick later (number + 1) lines ≡ Some second → (first : ScriptTick) × (first_tick time (number + 1) lines ≡ Some first) × (first.line ≤ second.line)) → (first : ScriptTick) × (first_tick time number (Tick ticks ∷ lines) ≡ Some first) × (first.line ≤ second.line)
  by_case (Both x y) rest =
      let same : number ≡ second.line = ap (λ (t : ScriptTick). t.line) (one_tick _ second (ap (from_test number ticks lines later) (sym y) ∙ e)) in
      (record { line = number; time = ticks }, ap (from_test number ticks lines time) x, omega arith)
  by_case (Earlier x y) rest =
      let more = numbered later (number + 1) lines second (ap (from_test number ticks lines later) (sym y) ∙ e) in
      (record { line = number; time = ticks }, ap (from_test number ticks lines time) x, omega arith)
  by_case (Neither x y) rest =
      let r = rest (ap (from_test number ticks lines later) (sym y) ∙ e) in
      (r.0, ap (from_test number ticks lines time) x ∙ r.1, r.2)
earlier_ticks_stand_before time later number (Preempt preempts stream ∷ lines) second le e = earlier_ticks_stand_before time later (number + 1) lines second le e

drop_next : (from : ℕ) (lines rest : List ScriptLine) (line : ScriptLine) → drop from lines ≡ line ∷ rest → drop (from + 1) lines ≡ rest
drop_next from lines rest line e =
    let long : from < length lines = omega (arith, length-drop from lines, ap length e) in
    let parts : get_or lines from line ∷ drop (suc from) lines ≡ line ∷ rest = sym (drop-cons lines from line long) ∙ e in
    let tail : drop (suc from) lines ≡ rest = cc in
    rw add-one tail

go_on : (time later : ℕ) (lines xs : List ScriptLine) (from : ℕ) (first : ScriptTick) → time ≤ later → drop from lines ≡ xs → first_tick time from xs ≡ Some first → first_tick later from xs ≡ first_tick later first.line (drop first.line lines)
unfolding first_tick
go_on time later lines [] from first le at e = no_tick first e
go_on time later lines (Tick ticks ∷ xs) from first le at e = by_case (tested time later ticks le) (λ k. go_on time later lines xs (from + 1) first le (drop_next from lines xs (Tick ticks) at) k) where
  here : nat_le time ticks ≡ true → first_tick later from (Tick ticks ∷ xs) ≡ first_tick later first.line (drop first.line lines)
  here x =
      let same : from ≡ first.line = ap (λ (t : ScriptTick). t.line) (one_tick _ first (ap (from_test from ticks xs time) (sym x) ∙ e)) in
      ap (first_tick later from) (sym at) ∙ ap (λ n. first_tick later n (drop n lines)) same

  by_case : Tested time later ticks → (first_tick time (from + 1) xs ≡ Some first → first_tick later (from + 1) xs ≡ first_tick later first.line (drop first.line lines)) → first_tick later from (Tick ticks ∷ xs) ≡ first_tick later first.line (drop first.line lines)
  by_case (Both x y) rest = here x
  by_case (Earlier x y) rest = here x
  by_case (Neither x y) rest = ap (from_test from ticks xs later) y ∙ rest (ap (from_test from ticks xs time) (sym x) ∙ e)
go_on time later lines (Preempt preempts stream ∷ xs) from first le at e = go_on time later lines xs (from + 1) first le (drop_next from lines xs (Preempt preempts stream) at) e

pub later_searches_go_on : LaterSearchesGoOn
later_searches_go_on time later from lines first le e = go_on time later lines (drop from lines) from first le refl e

-- ---- one line more

pub from_line : (time line : ℕ) (lines : List ScriptLine) (one : ScriptLine) → line < length lines → get_or lines line one ≡ one
    → first_tick time line (drop line lines) ≡ option_or (first_tick_at time line one) (first_tick time (line + 1) (drop (line + 1) lines))
unfolding first_tick
from_line time line lines one inside is =
    let next : drop (suc line) lines ≡ drop (line + 1) lines = rw add-one refl in
    ap (first_tick time line) (drop-cons lines line one inside ∙ (ap (λ l. l ∷ drop (suc line) lines) is ∙ ap (λ l. one ∷ l) next))

pub past_lines : (time line : ℕ) (lines : List ScriptLine) → length lines ≤ line → first_tick time line (drop line lines) ≡ None
unfolding first_tick
past_lines time line lines past = ap (first_tick time line) (drop_of_length-le lines past)

-- ---- the first line that passes

pub first_place : {A : Type 0} (p : A → Bool) (xs : List A) (i : ℕ) (d : A) → i < length xs → ((k : ℕ) → k < i → p (get_or xs k d) ≡ false) → p (get_or xs i d) ≡ true → position p xs ≡ Some i
first_place p xs i d inside before here =
    let is : position_or_len p xs ≡ i = position_or_len_is p xs i d (omega (arith, inside)) before (λ less. here) in
    let test : nat_lt i (length xs) ≡ true = grind (arith, nat_tests) in
    ap (λ n. cond (nat_lt n (length xs)) (Some n) None) is ∙ ap (λ b. cond b (Some i) None) test

pub no_place : {A : Type 0} (p : A → Bool) (xs : List A) (d : A) → ((k : ℕ) → k < length xs → p (get_or xs k d) ≡ false) → position p xs ≡ None
no_place p xs d before =
    let is : position_or_len p xs ≡ length xs = position_or_len_is p xs (length xs) d (omega arith) before (λ less. absurd (omega (arith, less))) in
    let test : nat_lt (length xs) (length xs) ≡ false = grind (arith, nat_tests) in
    ap (λ n. cond (nat_lt n (length xs)) (Some n) None) is ∙ ap (λ b. cond b (Some (length xs)) None) test
