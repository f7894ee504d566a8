-- What is kept of lines, with one more.
use Rattle.std.proofs.Common.{◌≡◌, ℕ, ◌+◌, ◌<◌, ◌≤◌, List, [], ◌∷◌, ◌++◌, Bool, true, false, ◌&&◌, cond, ltb, leb, refl, sym, ap, ◌∙◌, arith}
use Rattle.std.specs.List.{count_by}
use Rattle.std.proofs.lemmas.Bool.Decides.{nat_tests}
use Rattle.std.proofs.lemmas.Bool.{leb-true, ltb-true}
use Rattle.std.proofs.lemmas.List.Folds.{list_all-append}
use Rattle.std.proofs.lemmas.List.Sums.{fold-append}
use Rattle.clock_script.specs.Draft.{Sums}
use Rattle.clock_script.specs.Script.{is_before_tick, is_tick, may_follow, most_ticks, time_of}
use Rattle.clock_script.specs.declared.script.ScriptLine.{ScriptLine}
use Rattle.clock_script.specs.declared.script.ScriptLine.TheVariants.{Tick}

counted_push : (lines : List ScriptLine) (time : ℕ) → count_by is_tick (lines ++ Tick time ∷ []) ≡ count_by is_tick lines + 1
counted_push lines time = fold-append (λ (a : ℕ) (one : ScriptLine). a + cond (is_tick one) 1 0) 0 lines (Tick time ∷ [])

tick_tests : (tick time t u : ℕ) → tick < t → time ≤ t → (ltb tick u && leb time u) && (ltb t u && true) ≡ (ltb t u && leb t u)
tick_tests tick time t u a b = grind (arith, nat_tests)

line_tests : (time t u : ℕ) → time ≤ t → (leb time u && (leb t u && true)) ≡ leb t u
line_tests time t u b = grind (arith, nat_tests)

pub tick_more : (lines : List ScriptLine) (ticks last_tick last_time time : ℕ) → ticks < most_ticks → last_tick < time → last_time ≤ time → Sums lines ticks last_tick last_time → Sums (lines ++ Tick time ∷ []) (ticks + 1) time time
tick_more lines ticks last_tick last_time time few later not_before s = record {
  counted = omega (arith, counted_push lines time, s.counted);
  few = omega (arith, few);
  order = omega arith;
  tick = λ u some. list_all-append (is_before_tick u) lines (Tick time ∷ []) ∙ (ap (λ b. b && (ltb time u && true)) (s.tick u some) ∙ tick_tests last_tick last_time time u later not_before);
  line = λ u. list_all-append (λ line. leb (time_of line) u) lines (Tick time ∷ []) ∙ (ap (λ b. b && (leb time u && true)) (s.line u) ∙ line_tests last_time time u not_before);
}

both : (a b : Bool) → (a && b) ≡ true → (a ≡ true) × (b ≡ true)
both true b e = (refl, e)
both false b e = absurd cc

-- a tick that may follow, by what is kept
pub record TickFits (time ticks last_tick last_time : ℕ) : Type 0 where
  pub few : ticks < most_ticks
  pub later : last_tick < time
  pub not_before : last_time ≤ time

pub tick_fits : (streams : ℕ) (lines : List ScriptLine) (ticks last_tick last_time time : ℕ) → Sums lines ticks last_tick last_time → may_follow streams lines (Tick time) ≡ true → TickFits time ticks last_tick last_time
tick_fits streams lines ticks last_tick last_time time s may =
    let a = both _ _ may in
    let range = both _ _ a.0 in
    let rest = both _ _ a.1 in
    let some : 1 ≤ time = leb-true 1 time range.0 in
    let times = both _ _ (sym (s.tick time (omega (arith, some))) ∙ rest.0) in
    record {
      few = omega (arith, ltb-true (count_by is_tick lines) most_ticks rest.1, s.counted);
      later = ltb-true last_tick time times.0;
      not_before = leb-true last_time time times.1;
    }
