-- What a script shows of the first pictures of a stream.
use Rattle.std.proofs.Common.{◌≡◌, ◌⊎◌, inl, inr, ℕ, zero, suc, ◌+◌, ◌*◌, ◌<◌, ◌≤◌, nat_le, nat_lt, ◌==◌, not, Bool, true, false, cond, if◌then◌else◌, List, [], ◌∷◌, ◌++◌, filter_map, length, map, take, Option, Some, None, refl, ap, sym, ◌∙◌, subst, arith}
use Rattle.std.proofs.Math.Nat.{mul-le-mul_right}
use Rattle.std.proofs.lemmas.Bool.{eqb-false}
use Rattle.std.proofs.lemmas.Bool.Decides.{nat_tests}
use Rattle.std.proofs.lemmas.List.Sums.{take_while-cons}
use Rattle.std.specs.List.{AllByRecursion, position, position_or_len}
use Rattle.std.specs.Option.{option_map, option_map_or, option_or}
use Rattle.clock_script.specs.Script.{is_preemption_of}
use Rattle.clock_script.specs.declared.script.ScriptLine.{ScriptLine}
use Rattle.clock_script.specs.declared.script.ScriptLine.TheVariants.{Preempt, Tick}
use Rattle.script_ticks.specs.Ticks.{Rises, first_tick, tick_time}
use Rattle.script_ticks.specs.declared.ticks.ScriptTick.{ScriptTick}
use Rattle.script_ticks.proofs.Searches.{numbered, ticks_rise}
use Rattle.driver_model.specs.ShownPictures.{ShownPicture, before_preemption, is_passed_over, shown_at, shown_from, tick_from, tick_in_time, tick_of}
use Rattle.player_laws.specs.Shown.{FrontsAreSettled, LastsAreOpen, LatePicturesAreNotShown, LaterPicturesShowLater, ShownTimesRise, TicksAreFound, TicksInTimeAreFound, gives_way, settled_at, settled_from, time_before, time_in}

-- ---- lists

pub all_append : {A : Type 0} (P : A → Type 0) (xs ys : List A) → AllByRecursion P xs → AllByRecursion P ys → AllByRecursion P (xs ++ ys)
all_append P [] ys one other = other
all_append P (x ∷ xs) ys one other = (one.0, all_append P xs ys one.1 other)

no_time : {A : Type 0} (time : ℕ) → (let o : Option ℕ = None in o ≡ Some time) → A
no_time time e = absurd (let k : (let o : Option ℕ = None in o ≡ Some time) = e in cc)

some_time : {A : Type 0} (time : ℕ) → (let o : Option ℕ = Some time in o ≡ None) → A
some_time time e = absurd (let k : (let o : Option ℕ = Some time in o ≡ None) = e in cc)

one_time : (a b : ℕ) → Some a ≡ Some b → a ≡ b
one_time a b e = cc

-- ---- the first tick at a time

data Tested (time later ticks : ℕ) : Type 0 where
  Both : nat_le time ticks ≡ true → nat_le later ticks ≡ true → Tested time later ticks
  Earlier : nat_le time ticks ≡ true → nat_le later ticks ≡ false → Tested time later ticks
  Neither : nat_le time ticks ≡ false → nat_le later ticks ≡ false → Tested time later ticks

tested : (time later ticks : ℕ) → time ≤ later → Tested time later ticks
tested time later ticks le = by_tests (nat_le time ticks) (nat_le later ticks) refl refl where
  by_tests : (a b : Bool) → nat_le time ticks ≡ a → nat_le later ticks ≡ b → Tested time later ticks
  by_tests true true x y = Both x y
  by_tests true false x y = Earlier x y
  by_tests false false x y = Neither x y
  by_tests false true x y = absurd (grind (arith, nat_tests))

abbrev tick_by : Bool → ℕ → ℕ → List ScriptLine → Option ℕ
tick_by test search ticks lines = if test then Some ticks else tick_from search lines

-- a tick among lines that are all later is later
later_tick : (ticks time found : ℕ) (lines : List ScriptLine) → AllByRecursion (λ other. ticks < other) (filter_map tick_time lines) → tick_from time lines ≡ Some found → ticks < found
later_tick ticks time found [] all e = no_time found e
later_tick ticks time found (Tick other ∷ lines) all e = by_test (nat_le time other) e (later_tick ticks time found lines all.1) where
  by_test : (b : Bool) → tick_by b time other lines ≡ Some found → (tick_from time lines ≡ Some found → ticks < found) → ticks < found
  by_test true k rest = let same = one_time other found k in let more = all.0 in omega (arith, same, more)
  by_test false k rest = rest k
later_tick ticks time found (Preempt preempts stream ∷ lines) all e = later_tick ticks time found lines all e

-- where a later time has a tick, so has an earlier one, and that is no later
pub earlier_tick : (time later found : ℕ) (lines : List ScriptLine) → time ≤ later → Rises (filter_map tick_time lines) → tick_from later lines ≡ Some found → (first : ℕ) × (tick_from time lines ≡ Some first) × (first ≤ found)
earlier_tick time later found [] le rises e = no_time found e
earlier_tick time later found (Tick ticks ∷ lines) le rises e = by_case (tested time later ticks le) (λ k. earlier_tick time later found lines le rises.1 k) where
  by_case : Tested time later ticks → (tick_from later lines ≡ Some found → (first : ℕ) × (tick_from time lines ≡ Some first) × (first ≤ found)) → (first : ℕ) × (tick_from time (Tick ticks ∷ lines) ≡ Some first) × (first ≤ found)
  by_case (Both x y) rest =
      let same = one_time ticks found (ap (λ b. tick_by b later ticks lines) (sym y) ∙ e) in
      (ticks, ap (λ b. tick_by b time ticks lines) x, omega (arith, same))
  by_case (Earlier x y) rest =
      let more = later_tick ticks later found lines rises.0 (ap (λ b. tick_by b later ticks lines) (sym y) ∙ e) in
      (ticks, ap (λ b. tick_by b time ticks lines) x, omega (arith, more))
  by_case (Neither x y) rest =
      let r = rest (ap (λ b. tick_by b later ticks lines) (sym y) ∙ e) in
      (r.0, ap (λ b. tick_by b time ticks lines) x ∙ r.1, r.2)
earlier_tick time later found (Preempt preempts stream ∷ lines) le rises e = earlier_tick time later found lines le rises e

pub no_later_tick : (time later : ℕ) (lines : List ScriptLine) → time ≤ later → tick_from time lines ≡ None → tick_from later lines ≡ None
no_later_tick time later [] le e = refl
no_later_tick time later (Tick ticks ∷ lines) le e = by_case (tested time later ticks le) (λ k. no_later_tick time later lines le k) where
  by_case : Tested time later ticks → (tick_from time lines ≡ None → tick_from later lines ≡ None) → tick_from later (Tick ticks ∷ lines) ≡ None
  by_case (Both x y) rest = some_time ticks (ap (λ b. tick_by b time ticks lines) (sym x) ∙ e)
  by_case (Earlier x y) rest = some_time ticks (ap (λ b. tick_by b time ticks lines) (sym x) ∙ e)
  by_case (Neither x y) rest = ap (λ b. tick_by b later ticks lines) y ∙ rest (ap (λ b. tick_by b time ticks lines) (sym x) ∙ e)
no_later_tick time later (Preempt preempts stream ∷ lines) le e = no_later_tick time later lines le e

-- the first tick of a front is the first tick
tick_of_front : (count time found : ℕ) (lines : List ScriptLine) → tick_from time (take count lines) ≡ Some found → tick_from time lines ≡ Some found
tick_of_front zero time found lines e = no_time found e
tick_of_front (suc count) time found [] e = no_time found e
tick_of_front (suc count) time found (Tick ticks ∷ lines) e = by_test (nat_le time ticks) e (tick_of_front count time found lines) where
  by_test : (b : Bool) → tick_by b time ticks (take count lines) ≡ Some found → (tick_from time (take count lines) ≡ Some found → tick_from time lines ≡ Some found) → tick_by b time ticks lines ≡ Some found
  by_test true k rest = k
  by_test false k rest = rest k
tick_of_front (suc count) time found (Preempt preempts stream ∷ lines) e = tick_of_front count time found lines e

-- ---- fronts

module _ (script : List ScriptLine) (stream period : ℕ) where
  module _ {P : Type 0} where
    followed : (number : ℕ) (tick : Option ℕ) (picture one : P) (later more : List P) → shown_at script stream period number tick picture (later ++ one ∷ more) ≡ settled_at script stream period number tick picture
    followed number None picture one later more = refl
    followed number (Some time) picture one [] more = refl
    followed number (Some time) picture one (next ∷ later) more = refl

    pub fronts_from : (number : ℕ) (front : List P) (one : P) (more : List P)
        → shown_from script stream period number (front ++ one ∷ more) ≡ settled_from script stream period number front ++ shown_from script stream period (number + length front) (one ∷ more)
    unfolding settled_from shown_from
    fronts_from number [] one more = let zeroth : number ≡ number + 0 = omega arith in ap (λ n. shown_from script stream period n (one ∷ more)) zeroth
    fronts_from number (first ∷ later) one more =
        let next : number + 1 + length later ≡ number + length (first ∷ later) = omega arith in
        let rest = fronts_from (number + 1) later one more ∙ ap (λ n. settled_from script stream period (number + 1) later ++ shown_from script stream period n (one ∷ more)) next in
        ap (λ l. l ++ shown_from script stream period (number + 1) (later ++ one ∷ more)) (followed number (tick_in_time script stream period number) first one later more)
        ∙ (ap (λ l. settled_at script stream period number (tick_in_time script stream period number) first ++ l) rest
        ∙ sym (append_again (settled_at script stream period number (tick_in_time script stream period number) first) (settled_from script stream period (number + 1) later) (shown_from script stream period (number + length (first ∷ later)) (one ∷ more))))
      where
        append_again : (a b c : List (ShownPicture P)) → (a ++ b) ++ c ≡ a ++ (b ++ c)
        append_again [] b c = refl
        append_again (x ∷ a) b c = ap (λ l. x ∷ l) (append_again a b c)

    pub last_open : (number : ℕ) (tick : Option ℕ) (picture : P) → (settled_at script stream period number tick picture ≡ shown_at script stream period number tick picture [])
        ⊎ ((settled_at script stream period number tick picture ≡ []) × (option_map_or (gives_way script stream period number) tick false ≡ true))
    last_open number None picture = inl refl
    last_open number (Some time) picture = by_test (gives_way script stream period number time) refl where
      by_test : (b : Bool) → gives_way script stream period number time ≡ b
          → (settled_at script stream period number (Some time) picture ≡ shown_at script stream period number (Some time) picture [])
          ⊎ ((settled_at script stream period number (Some time) picture ≡ []) × (gives_way script stream period number time ≡ true))
      by_test true e = inr (ap (λ b. if b then [] else record { picture = picture; time = time } ∷ []) e, e)
      by_test false e = inl (ap (λ b. if b then [] else record { picture = picture; time = time } ∷ []) e)

    pub late_none : (number : ℕ) (pictures : List P) → tick_in_time script stream period number ≡ None → shown_from script stream period number pictures ≡ []
    unfolding shown_from
    late_none number [] none = refl
    late_none number (picture ∷ later) none =
        let le : (number + 1) * period ≤ (number + 1 + 1) * period = mul-le-mul_right period (omega arith) in
        let next = no_later_tick ((number + 1) * period) ((number + 1 + 1) * period) (before_preemption stream script) le none in
        ap (λ tick. shown_at script stream period number tick picture later ++ shown_from script stream period (number + 1) later) none ∙ late_none (number + 1) later next

  -- ---- times

  in_time : (number time : ℕ) → tick_in_time script stream period number ≡ Some time → tick_of script stream period number ≡ Some time
  in_time number time e = tick_of_front _ ((number + 1) * period) time script e

  module _ (rises : Rises (filter_map tick_time script)) {P : Type 0} where
    abbrev Late : ℕ → List (ShownPicture P) → Type 0
    Late time shown = AllByRecursion (λ (one : ShownPicture P). time ≤ one.time) shown

    -- pictures from a number on are shown no earlier than at the tick of an earlier number
    late_from : (first number time : ℕ) (pictures : List P) → first ≤ number → tick_of script stream period first ≡ Some time → Late time (shown_from script stream period number pictures)
    unfolding shown_from
    late_from first number time [] le e = tt
    late_from first number time (picture ∷ later) le e =
        all_append (λ (one : ShownPicture P). time ≤ one.time) (shown_at script stream period number (tick_in_time script stream period number) picture later) (shown_from script stream period (number + 1) later)
        (by_tick (tick_in_time script stream period number) refl) (late_from first (number + 1) time later (omega arith) e)
      where
        by_tick : (tick : Option ℕ) → tick_in_time script stream period number ≡ tick → Late time (shown_at script stream period number tick picture later)
        by_tick None is = tt
        by_tick (Some at) is =
            let times : (first + 1) * period ≤ (number + 1) * period = mul-le-mul_right period (omega (arith, le)) in
            let early = earlier_tick ((first + 1) * period) ((number + 1) * period) at script times rises (in_time number at is) in
            let same = one_time time early.0 (sym e ∙ early.1) in
            let order : time ≤ at = omega (arith, same, early.2) in
            by_test (is_passed_over script stream period number at later) order
          where
            by_test : (b : Bool) → time ≤ at → Late time (if b then [] else record { picture = picture; time = at } ∷ [])
            by_test true order = tt
            by_test false order = (order, tt)

    abbrev times : List (ShownPicture P) → List ℕ
    times shown = map (λ (one : ShownPicture P). one.time) shown

    -- all of pictures from a number on are shown later, where the number's tick is later
    later_from : (time number : ℕ) (pictures : List P) → ((next : ℕ) → tick_of script stream period number ≡ Some next → time < next) → AllByRecursion (λ other. time < other) (times (shown_from script stream period number pictures))
    later_from time number pictures later = by_tick (tick_of script stream period number) refl where
      raised : (next : ℕ) (shown : List (ShownPicture P)) → time < next → Late next shown → AllByRecursion (λ other. time < other) (times shown)
      raised next [] less late = tt
      raised next (one ∷ shown) less late = let here = late.0 in (omega (arith, here, less), raised next shown less late.1)

      by_tick : (tick : Option ℕ) → tick_of script stream period number ≡ tick → AllByRecursion (λ other. time < other) (times (shown_from script stream period number pictures))
      by_tick None is =
          let none : tick_in_time script stream period number ≡ None = not_in_time (tick_in_time script stream period number) refl in
          subst (λ (l : List (ShownPicture P)). AllByRecursion (λ other. time < other) (times l)) (sym (late_none number pictures none)) tt
        where
          not_in_time : (tick : Option ℕ) → tick_in_time script stream period number ≡ tick → tick_in_time script stream period number ≡ None
          not_in_time None e = e
          not_in_time (Some at) e = some_time at (sym (in_time number at e) ∙ is)
      by_tick (Some next) is = raised next (shown_from script stream period number pictures) (later next is) (late_from number number next pictures (omega arith) is)

    rise_from : (number : ℕ) (pictures : List P) → Rises (times (shown_from script stream period number pictures))
    unfolding shown_from
    rise_from number [] = tt
    rise_from number (picture ∷ later) = by_tick (tick_in_time script stream period number) refl (rise_from (number + 1) later) where
      one_later : (at : ℕ) (others : List P) → tick_in_time script stream period number ≡ Some at → is_passed_over script stream period number at others ≡ false
          → AllByRecursion (λ other. at < other) (times (shown_from script stream period (number + 1) others))
      one_later at [] is not_passed = tt
      one_later at (next ∷ others) is not_passed =
          later_from at (number + 1) (next ∷ others) (λ time e.
          let apart : (time == at) ≡ false = ap (λ (tick : Option ℕ). option_map_or (λ other. other == at) tick false) (sym e) ∙ not_passed in
          let le : (number + 1) * period ≤ (number + 1 + 1) * period = mul-le-mul_right period (omega arith) in
          let early = earlier_tick ((number + 1) * period) ((number + 1 + 1) * period) time script le rises e in
          let same = one_time at early.0 (sym (in_time number at is) ∙ early.1) in
          let order : at ≤ time = omega (arith, same, early.2) in
          let other : time ≡ at → ⊥ = eqb-false time at apart in
          omega arith)

      by_tick : (tick : Option ℕ) → tick_in_time script stream period number ≡ tick → Rises (times (shown_from script stream period (number + 1) later)) → Rises (times (shown_at script stream period number tick picture later ++ shown_from script stream period (number + 1) later))
      by_tick None is rest = rest
      by_tick (Some at) is rest = by_test (is_passed_over script stream period number at later) refl where
        by_test : (b : Bool) → is_passed_over script stream period number at later ≡ b → Rises (times ((if b then [] else record { picture = picture; time = at } ∷ []) ++ shown_from script stream period (number + 1) later))
        by_test true e = rest
        by_test false e = (one_later at later is e, rest)

-- ---- ticks by their lines

pub ticks_are_found-from : (time number : ℕ) (script : List ScriptLine) → tick_from time script ≡ option_map (λ (tick : ScriptTick). tick.time) (first_tick time number script)
unfolding first_tick
ticks_are_found-from time number [] = refl
ticks_are_found-from time number (Tick ticks ∷ lines) = by_test (nat_le time ticks) (ticks_are_found-from time (number + 1) lines) where
  by_test : (b : Bool) → tick_from time lines ≡ option_map (λ (tick : ScriptTick). tick.time) (first_tick time (number + 1) lines)
      → tick_by b time ticks lines ≡ option_map (λ (tick : ScriptTick). tick.time) (option_or (if b then Some (record { line = number; time = ticks }) else None) (first_tick time (number + 1) lines))
  by_test true rest = refl
  by_test false rest = rest
ticks_are_found-from time number (Preempt preempts stream ∷ lines) = ticks_are_found-from time (number + 1) lines

position-cons : {A : Type 0} (p : A → Bool) (x : A) (xs : List A) → position p (x ∷ xs) ≡ cond (p x) (Some 0) (option_map (λ n. 1 + n) (position p xs))
position-cons p x xs = by_test (p x) where
  by_test : (b : Bool) → cond (nat_lt (cond (not b) (1 + position_or_len p xs) 0) (length (x ∷ xs))) (Some (cond (not b) (1 + position_or_len p xs) 0)) None ≡ cond b (Some 0) (option_map (λ n. 1 + n) (position p xs))
  by_test true = let k : nat_lt 0 (length (x ∷ xs)) ≡ true = grind (arith, nat_tests) in ap (λ t. cond t (Some 0) None) k
  by_test false = by_less (nat_lt (position_or_len p xs) (length xs)) refl where
    by_less : (b : Bool) → nat_lt (position_or_len p xs) (length xs) ≡ b → cond (nat_lt (1 + position_or_len p xs) (length (x ∷ xs))) (Some (1 + position_or_len p xs)) None ≡ option_map {U = ℕ} (λ n. 1 + n) (cond b (Some (position_or_len p xs)) None)
    by_less true e = let k : nat_lt (1 + position_or_len p xs) (length (x ∷ xs)) ≡ true = grind (arith, nat_tests) in ap (λ b. cond b (Some (1 + position_or_len p xs)) None) k
    by_less false e = let k : nat_lt (1 + position_or_len p xs) (length (x ∷ xs)) ≡ false = grind (arith, nat_tests) in ap (λ b. cond b (Some (1 + position_or_len p xs)) None) k

module _ (stream : ℕ) where
  abbrev preempts_it : ScriptLine → Bool
  preempts_it line = is_preemption_of stream line

  -- the preemption's line, where the first line has this number
  abbrev preempted_from : ℕ → List ScriptLine → Option ℕ
  preempted_from number lines = option_map (λ place. number + place) (position preempts_it lines)

  preempted-next : (number : ℕ) (line : ScriptLine) (lines : List ScriptLine) → preempts_it line ≡ false → preempted_from number (line ∷ lines) ≡ preempted_from (number + 1) lines
  preempted-next number line lines e =
      ap (λ (o : Option ℕ). option_map {U = ℕ} (λ place. number + place) o) (position-cons preempts_it line lines)
      ∙ (ap (λ b. option_map {U = ℕ} (λ place. number + place) (cond b (Some 0) (option_map (λ n. 1 + n) (position preempts_it lines)))) e
      ∙ more (position preempts_it lines))
    where
      more : (o : Option ℕ) → option_map {U = ℕ} (λ place. number + place) (option_map (λ n. 1 + n) o) ≡ option_map (λ place. number + 1 + place) o
      more None = refl
      more (Some place) = let same : number + (1 + place) ≡ number + 1 + place = omega arith in ap (λ n. Some n) same

  preempted-here : (number : ℕ) (line : ScriptLine) (lines : List ScriptLine) → preempts_it line ≡ true → preempted_from number (line ∷ lines) ≡ Some number
  preempted-here number line lines e =
      let zeroth : number + 0 ≡ number = omega arith in
      ap (λ (o : Option ℕ). option_map {U = ℕ} (λ place. number + place) o) (position-cons preempts_it line lines)
      ∙ (ap (λ b. option_map {U = ℕ} (λ place. number + place) (cond b (Some 0) (option_map (λ n. 1 + n) (position preempts_it lines)))) e
      ∙ ap (λ n. Some n) zeroth)

  front-next : (line : ScriptLine) (lines : List ScriptLine) → preempts_it line ≡ false → before_preemption stream (line ∷ lines) ≡ line ∷ before_preemption stream lines
  front-next line lines e = take_while-cons (λ l. not (preempts_it l)) line lines ∙ ap (λ b. cond (not b) (line ∷ before_preemption stream lines) []) e

  front-here : (line : ScriptLine) (lines : List ScriptLine) → preempts_it line ≡ true → before_preemption stream (line ∷ lines) ≡ []
  front-here line lines e = take_while-cons (λ l. not (preempts_it l)) line lines ∙ ap (λ b. cond (not b) (line ∷ before_preemption stream lines) []) e

  -- a tick of a later line isn't in time
  too_late : (time number : ℕ) (lines : List ScriptLine) → time_in (Some number) (first_tick time (number + 1) lines) ≡ None
  too_late time number lines = by_tick (first_tick time (number + 1) lines) refl where
    by_tick : (tick : Option ScriptTick) → first_tick time (number + 1) lines ≡ tick → time_in (Some number) tick ≡ None
    by_tick None e = refl
    by_tick (Some tick) e =
        let behind = numbered time (number + 1) lines tick e in
        let not_before : nat_lt tick.line number ≡ false = grind (arith, nat_tests, behind) in
        ap (λ b. if b then Some tick.time else None) not_before

  at_once : (number ticks : ℕ) (o : Option ℕ) → time_before (option_map (λ place. number + 1 + place) o) (record { line = number; time = ticks }) ≡ Some ticks
  at_once number ticks None = refl
  at_once number ticks (Some place) = let before : nat_lt number (number + 1 + place) ≡ true = grind (arith, nat_tests) in ap (λ b. if b then Some ticks else None) before

  found_in_time : (time number : ℕ) (lines : List ScriptLine) → tick_from time (before_preemption stream lines) ≡ time_in (preempted_from number lines) (first_tick time number lines)
  unfolding first_tick
  found_in_time time number [] = refl
  found_in_time time number (Tick ticks ∷ lines) =
      ap (tick_from time) (front-next (Tick ticks) lines refl)
      ∙ (by_test (nat_le time ticks) (found_in_time time (number + 1) lines)
      ∙ ap (λ o. time_in o (first_tick time number (Tick ticks ∷ lines))) (sym (preempted-next number (Tick ticks) lines refl)))
    where
      by_test : (b : Bool) → tick_from time (before_preemption stream lines) ≡ time_in (preempted_from (number + 1) lines) (first_tick time (number + 1) lines)
          → tick_by b time ticks (before_preemption stream lines) ≡ time_in (preempted_from (number + 1) lines) (option_or (if b then Some (record { line = number; time = ticks }) else None) (first_tick time (number + 1) lines))
      by_test true rest = sym (at_once number ticks (position preempts_it lines))
      by_test false rest = rest
  found_in_time time number (Preempt preempts other ∷ lines) = by_test (other == stream) refl (found_in_time time (number + 1) lines) where
    by_test : (b : Bool) → (other == stream) ≡ b → tick_from time (before_preemption stream lines) ≡ time_in (preempted_from (number + 1) lines) (first_tick time (number + 1) lines) → tick_from time (before_preemption stream (Preempt preempts other ∷ lines)) ≡ time_in (preempted_from number (Preempt preempts other ∷ lines)) (first_tick time (number + 1) lines)
    by_test true e rest =
        ap (tick_from time) (front-here (Preempt preempts other) lines e)
        ∙ (sym (too_late time number lines)
        ∙ ap (λ o. time_in o (first_tick time (number + 1) lines)) (sym (preempted-here number (Preempt preempts other) lines e)))
    by_test false e rest =
        ap (tick_from time) (front-next (Preempt preempts other) lines e)
        ∙ (rest
        ∙ ap (λ o. time_in o (first_tick time (number + 1) lines)) (sym (preempted-next number (Preempt preempts other) lines e)))

-- ---- the laws

pub fronts_are_settled : FrontsAreSettled
fronts_are_settled script stream period front one more =
    let zeroth : 0 + length front ≡ length front = omega arith in
    fronts_from script stream period 0 front one more
    ∙ ap (λ n. settled_from script stream period 0 front ++ shown_from script stream period n (one ∷ more)) zeroth

pub lasts_are_open : LastsAreOpen
lasts_are_open script stream period number tick picture = last_open script stream period number tick picture

pub shown_times_rise : ShownTimesRise
shown_times_rise streams script stream period pictures legal = rise_from script stream period (ticks_rise streams script legal) 0 pictures

pub later_pictures_show_later : LaterPicturesShowLater
later_pictures_show_later streams script stream period number time pictures legal e =
    late_from script stream period (ticks_rise streams script legal) number number time pictures (omega arith) e

pub late_pictures_are_not_shown : LatePicturesAreNotShown
late_pictures_are_not_shown script stream period number pictures none = late_none script stream period number pictures none

pub ticks_are_found : TicksAreFound
ticks_are_found time script = ticks_are_found-from time 0 script

pub ticks_in_time_are_found : TicksInTimeAreFound
ticks_in_time_are_found time stream script =
    found_in_time stream time 0 script ∙ ap (λ o. time_in o (first_tick time 0 script)) (from_zero (position (is_preemption_of stream) script))
  where
    from_zero : (o : Option ℕ) → option_map {U = ℕ} (λ place. 0 + place) o ≡ o
    from_zero None = refl
    from_zero (Some place) = let same : 0 + place ≡ place = omega arith in ap (λ n. Some n) same
