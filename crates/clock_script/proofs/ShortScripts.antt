-- How long a script can be.
use Rattle.std.proofs.Common.{◌≡◌, ℕ, zero, suc, ◌+◌, ◌*◌, ◌<◌, ◌≤◌, ◌^◌, ◌||◌, inl, inr, List, [], ◌∷◌, ◌++◌, length, Bool, true, false, not, cond, eqb, refl, sym, ap, ◌∙◌, arith}
use Rattle.std.specs.Prelude.{decimal}
use Rattle.std.specs.List.{count_by, list_any}
use Rattle.std.proofs.lemmas.Bool.{cases_eq, ltb-true}
use Rattle.std.proofs.lemmas.Bool.Decides.{nat_tests}
use Rattle.std.proofs.lemmas.Fmt.{length-decimal-le}
use Rattle.std.proofs.lemmas.List.{length-append}
use Rattle.std.proofs.lemmas.List.Folds.{list_any-append}
use Rattle.std.proofs.lemmas.List.Sums.{fold-append}
use Rattle.clock_script.specs.Script.{IsInOrder, is_preemption_of, is_tick, most_ticks}
use Rattle.clock_script.specs.Texts.{ScriptsAreShort, line_text, text_of}
use Rattle.clock_script.specs.declared.script.ScriptLine.{ScriptLine}
use Rattle.clock_script.specs.declared.script.ScriptLine.TheVariants.{Preempt, Tick}
use Rattle.clock_script.proofs.LineTexts.{both, in_range}

abbrev ticks_in : List ScriptLine → ℕ
ticks_in [] = 0
ticks_in (Tick time ∷ lines) = suc (ticks_in lines)
ticks_in (Preempt time stream ∷ lines) = ticks_in lines

abbrev preemptions_in : List ScriptLine → ℕ
preemptions_in [] = 0
preemptions_in (Tick time ∷ lines) = preemptions_in lines
preemptions_in (Preempt time stream ∷ lines) = suc (preemptions_in lines)

-- ---- ticks

few_ticks : (streams : ℕ) (earlier lines : List ScriptLine) → IsInOrder streams earlier lines → count_by is_tick earlier ≤ most_ticks → count_by is_tick earlier + ticks_in lines ≤ most_ticks
unfolding IsInOrder
few_ticks streams earlier [] order few = omega (arith, few)
few_ticks streams earlier (Tick time ∷ lines) order few =
    let below : count_by is_tick earlier < most_ticks = ltb-true (count_by is_tick earlier) most_ticks (both _ _ (both _ _ order.0).1).1 in
    let more : count_by is_tick (earlier ++ Tick time ∷ []) ≡ count_by is_tick earlier + 1 = fold-append (λ (a : ℕ) (one : ScriptLine). a + cond (is_tick one) 1 0) 0 earlier (Tick time ∷ []) in
    omega (arith, few_ticks streams (earlier ++ Tick time ∷ []) lines order.1 (omega (arith, below, more)), more)
few_ticks streams earlier (Preempt time stream ∷ lines) order few =
    let more : count_by is_tick (earlier ++ Preempt time stream ∷ []) ≡ count_by is_tick earlier + 0 = fold-append (λ (a : ℕ) (one : ScriptLine). a + cond (is_tick one) 1 0) 0 earlier (Preempt time stream ∷ []) in
    omega (arith, few_ticks streams (earlier ++ Preempt time stream ∷ []) lines order.1 (omega (arith, few, more)), more)

-- ---- preemptions: how many of the first streams are preempted

abbrev is_preempted : List ScriptLine → ℕ → Bool
is_preempted lines stream = list_any (is_preemption_of stream) lines

abbrev preempted : ℕ → List ScriptLine → ℕ
preempted zero lines = 0
preempted (suc n) lines = preempted n lines + cond (is_preempted lines n) 1 0

one_at_most : (b : Bool) (p n : ℕ) → p ≤ n → p + cond b 1 0 ≤ suc n
one_at_most true p n le = omega (arith, le)
one_at_most false p n le = omega (arith, le)

at_most : (n : ℕ) (lines : List ScriptLine) → preempted n lines ≤ n
at_most zero lines = omega arith
at_most (suc n) lines = one_at_most (is_preempted lines n) (preempted n lines) n (at_most n lines)

or_false : (b : Bool) → (b || (false || false)) ≡ b
or_false true = refl
or_false false = refl

tick_same : (n time : ℕ) (lines : List ScriptLine) → preempted n (lines ++ Tick time ∷ []) ≡ preempted n lines
tick_same zero time lines = refl
tick_same (suc n) time lines =
    let here : is_preempted (lines ++ Tick time ∷ []) n ≡ is_preempted lines n = list_any-append (is_preemption_of n) lines (Tick time ∷ []) ∙ or_false (is_preempted lines n) in
    omega (arith, tick_same n time lines, ap {B = ℕ} (λ b. cond b 1 0) here)

this_stream : (b : Bool) (stream n : ℕ) → stream ≡ n → (b || (eqb stream n || false)) ≡ true
this_stream b stream n same = grind (arith, nat_tests)

other_stream : (b : Bool) (stream n : ℕ) → (stream ≡ n → ⊥) → (b || (eqb stream n || false)) ≡ b
other_stream b stream n other = grind (arith, nat_tests)

same_streams : (n time stream : ℕ) (lines : List ScriptLine) → n ≤ stream → preempted n (lines ++ Preempt time stream ∷ []) ≡ preempted n lines
same_streams zero time stream lines le = refl
same_streams (suc n) time stream lines le =
    let here : is_preempted (lines ++ Preempt time stream ∷ []) n ≡ is_preempted lines n = list_any-append (is_preemption_of n) lines (Preempt time stream ∷ []) ∙ other_stream (is_preempted lines n) stream n (λ e. omega (arith, e, le)) in
    omega (arith, same_streams n time stream lines (omega (arith, le)), ap {B = ℕ} (λ b. cond b 1 0) here)

one_more : (n time stream : ℕ) (lines : List ScriptLine) → stream < n → is_preempted lines stream ≡ false → preempted n (lines ++ Preempt time stream ∷ []) ≡ preempted n lines + 1
one_more zero time stream lines lt free = absurd (omega (arith, lt))
one_more (suc n) time stream lines lt free = elim (cases_eq stream n) [
  | inl same ↦
      let was : ◌≡◌ {A = ℕ} (cond (is_preempted lines n) 1 0) 0 = ap {B = ℕ} (λ b. cond b 1 0) (ap (is_preempted lines) (sym same) ∙ free) in
      let now : is_preempted (lines ++ Preempt time stream ∷ []) n ≡ true = list_any-append (is_preemption_of n) lines (Preempt time stream ∷ []) ∙ this_stream (is_preempted lines n) stream n same in
      omega (arith, same_streams n time stream lines (omega (arith, same)), was, ap {B = ℕ} (λ b. cond b 1 0) now)
  | inr other ↦
      let here : is_preempted (lines ++ Preempt time stream ∷ []) n ≡ is_preempted lines n = list_any-append (is_preemption_of n) lines (Preempt time stream ∷ []) ∙ other_stream (is_preempted lines n) stream n other in
      omega (arith, one_more n time stream lines (omega (arith, lt, other)) free, ap {B = ℕ} (λ b. cond b 1 0) here)
]

not_true : (b : Bool) → not b ≡ true → b ≡ false
not_true true e = absurd cc
not_true false e = refl

few_preemptions : (streams : ℕ) (earlier lines : List ScriptLine) → IsInOrder streams earlier lines → preempted streams earlier + preemptions_in lines ≤ streams
unfolding IsInOrder
few_preemptions streams earlier [] order = omega (arith, at_most streams earlier)
few_preemptions streams earlier (Tick time ∷ lines) order = omega (arith, few_preemptions streams (earlier ++ Tick time ∷ []) lines order.1, tick_same streams time earlier)
few_preemptions streams earlier (Preempt time stream ∷ lines) order =
    let a = both _ _ (both _ _ order.0).1 in
    let free : is_preempted earlier stream ≡ false = not_true (is_preempted earlier stream) (both _ _ a.1).1 in
    omega (arith, few_preemptions streams (earlier ++ Preempt time stream ∷ []) lines order.1, one_more streams time stream earlier (ltb-true stream streams a.0) free)

-- ---- lengths

tick_length : (time : ℕ) → time < 2 ^ 63 → length (line_text (Tick time) ++ 10 ∷ []) ≤ 25
tick_length time small = omega (arith, length-append (line_text (Tick time)) (10 ∷ []), length-decimal-le 19 time (omega arith) (omega (arith, small)) (omega (arith, small)))

preempt_length : (time stream : ℕ) → time < 2 ^ 63 → stream < 16 → length (line_text (Preempt time stream) ++ 10 ∷ []) ≤ 31
preempt_length time stream small few =
    omega (
      arith,
      length-append (line_text (Preempt time stream)) (10 ∷ []),
      length-append (decimal time) (32 ∷ decimal stream),
      length-decimal-le 19 time (omega arith) (omega (arith, small)) (omega (arith, small)),
      length-decimal-le 2 stream (omega arith) (omega (arith, few)) (omega (arith, few)),
    )

text_length : (streams : ℕ) (earlier lines : List ScriptLine) → streams ≤ 16 → IsInOrder streams earlier lines → length (text_of lines) ≤ 25 * ticks_in lines + 31 * preemptions_in lines
unfolding IsInOrder
text_length streams earlier [] few order = omega arith
text_length streams earlier (Tick time ∷ lines) few order =
    let range : time < 2 ^ 63 = in_range streams earlier (Tick time) (omega (arith, few)) order.0 in
    omega (arith, length-append (line_text (Tick time) ++ 10 ∷ []) (text_of lines), tick_length time range, text_length streams (earlier ++ Tick time ∷ []) lines few order.1)
text_length streams earlier (Preempt time stream ∷ lines) few order =
    let range = in_range streams earlier (Preempt time stream) (omega (arith, few)) order.0 in
    let below : stream < streams = ltb-true stream streams (both _ _ (both _ _ order.0).1).0 in
    omega (arith, length-append (line_text (Preempt time stream) ++ 10 ∷ []) (text_of lines), preempt_length time stream range.0 (omega (arith, below, few)), text_length streams (earlier ++ Preempt time stream ∷ []) lines few order.1)

pub scripts_are_short : ScriptsAreShort
scripts_are_short streams lines text few script =
    let length_is : length (text_of lines) ≤ 25 * ticks_in lines + 31 * preemptions_in lines = text_length streams [] lines few script.legal in
    let ticks : 0 + ticks_in lines ≤ most_ticks = few_ticks streams [] lines script.legal (omega arith) in
    let preemptions = few_preemptions streams [] lines script.legal in
    elim script.is [
      | inl e ↦ omega (arith, length_is, ticks, preemptions, few, ap length e)
      | inr e ↦ omega (arith, length_is, ticks, preemptions, few, ap length e, length-append text (10 ∷ []))
    ]
