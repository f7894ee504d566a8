-- What is shown of the pictures that came out, and what is promised of those to come.
use Rattle.std.proofs.Common.{◌≡◌, ℕ, suc, ◌+◌, ◌-◌, ◌*◌, ◌^◌, ◌<◌, ◌≤◌, nat_le, nat_lt, Bool, true, false, if◌then◌else◌, List, [], ◌∷◌, ◌++◌, length, Option, Some, None, refl, sym, ap, subst, ◌∙◌, arith, append-nil, append_assoc, length-append}
use Rattle.std.specs.Prelude.{option_to_list}
use Rattle.std.specs.List.{AllByRecursion}
use Rattle.std.specs.Option.{unwrap_or}
use Rattle.std.proofs.lemmas.Bool.{and_parts, leb-true}
use Rattle.clock_script.specs.Script.{IsInOrder, IsLegal, is_time}
use Rattle.clock_script.specs.declared.script.ScriptLine.{ScriptLine}
use Rattle.clock_script.specs.declared.script.ScriptLine.TheVariants.{Preempt, Tick}
use Rattle.vd_plane.specs.declared.picture.Picture as samples
use Rattle.driver_model.specs.ShownPictures.{ShownPicture, shown_at, shown_from, shown_pictures, tick_from, tick_in_time}
use Rattle.player_laws.specs.Shown.{settled_at, settled_from}
use Rattle.player_laws.proofs.Shown.{fronts_from}
use Rattle.frame_pacer.specs.Paced.{IsLast, IsSettled, no_time, promised, shown_if}
use Rattle.frame_pacer.proofs.Pacing.{is_tick_of, promises_are_kept}
use Rattle.stream_calls.specs.StreamCalls as calls
use Rattle.stream_course.specs.Standing.{ArePromises, IsKept}

pub length_more : {A : Type 0} (xs : List A) (x : A) → length (xs ++ x ∷ []) ≡ suc (length xs)
length_more xs x = let all = length-append xs (x ∷ []) in omega (arith, all)

-- ---- what is shown

abbrev Shows : Type 0
Shows = ShownPicture samples.Picture

module _ (script : List ScriptLine) (stream period : ℕ) where
  settled_one : (number other : ℕ) (one : samples.Picture) → number ≡ other
      → settled_from script stream period number (one ∷ []) ≡ settled_at script stream period other (tick_in_time script stream period other) one
  unfolding settled_from
  settled_one number other one same =
      append-nil (settled_at script stream period number (tick_in_time script stream period number) one)
      ∙ ap (λ n. settled_at script stream period n (tick_in_time script stream period n) one) same

  settled_more : (number : ℕ) (front : List samples.Picture) (one : samples.Picture)
      → settled_from script stream period number (front ++ one ∷ [])
      ≡ settled_from script stream period number front ++ settled_at script stream period (number + length front) (tick_in_time script stream period (number + length front)) one
  unfolding settled_from
  settled_more number [] one = settled_one number (number + 0) one (omega arith)
  settled_more number (first ∷ later) one =
      let next : number + 1 + length later ≡ number + length (first ∷ later) = omega arith in
      let here = settled_at script stream period number (tick_in_time script stream period number) first in
      let rest =
      settled_more (number + 1) later one
      ∙ ap (λ n. settled_from script stream period (number + 1) later ++ settled_at script stream period n (tick_in_time script stream period n) one) next in
      ap (λ (l : List Shows). here ++ l) rest
      ∙ sym (append_assoc here (settled_from script stream period (number + 1) later) (settled_at script stream period (number + length (first ∷ later)) (tick_in_time script stream period (number + length (first ∷ later))) one))

  -- The last one is settled by the one behind it,
  pub settled_next : (front : List samples.Picture) (one : samples.Picture) (count : ℕ) (time : Option ℕ) → length front ≡ count
      → IsSettled script stream period (suc count) time
      → settled_from script stream period 0 front ++ shown_if time one ≡ settled_from script stream period 0 (front ++ one ∷ [])
  settled_next front one count time many is =
      let same : count ≡ 0 + length front = omega (arith, many) in
      ap (λ (l : List Shows). settled_from script stream period 0 front ++ l)
      (sym (is one) ∙ ap (λ n. settled_at script stream period n (tick_in_time script stream period n) one) same)
      ∙ sym (settled_more 0 front one)

  shown_one : (number : ℕ) (one : samples.Picture)
      → shown_from script stream period number (one ∷ []) ≡ shown_at script stream period number (tick_in_time script stream period number) one []
  unfolding shown_from
  shown_one number one = append-nil (shown_at script stream period number (tick_in_time script stream period number) one [])

  -- or by the end.
  pub settled_last : (front : List samples.Picture) (one : samples.Picture) (count : ℕ) (time : Option ℕ) → length front ≡ count
      → IsLast script stream period (suc count) time
      → settled_from script stream period 0 front ++ shown_if time one ≡ shown_pictures script stream period (front ++ one ∷ [])
  settled_last front one count time many is =
      let same : count ≡ 0 + length front = omega (arith, many) in
      ap (λ (l : List Shows). settled_from script stream period 0 front ++ l)
      (sym (is one) ∙ sym (shown_one count one) ∙ ap (λ n. shown_from script stream period n (one ∷ [])) same)
      ∙ sym (fronts_from script stream period 0 front one [])

  pub none_shown : shown_pictures script stream period {P = samples.Picture} [] ≡ settled_from script stream period 0 []
  unfolding shown_from settled_from
  none_shown = refl

  pub nothing_shown : shown_pictures script stream period {P = samples.Picture} [] ≡ []
  unfolding shown_from
  nothing_shown = refl

  -- ---- what is shown later

  abbrev Late : ℕ → List Shows → Type 0
  Late time shown = AllByRecursion (λ (one : Shows). time ≤ one.time) shown

  late_right : (time : ℕ) (xs ys : List Shows) → Late time (xs ++ ys) → Late time ys
  late_right time [] ys all = all
  late_right time (x ∷ xs) ys all = late_right time xs ys all.1

  pub late_next : (time number : ℕ) (one : samples.Picture) (pictures : List samples.Picture)
      → Late time (shown_from script stream period number (one ∷ pictures)) → Late time (shown_from script stream period (number + 1) pictures)
  unfolding shown_from
  late_next time number one pictures all =
      late_right time (shown_at script stream period number (tick_in_time script stream period number) one pictures) (shown_from script stream period (number + 1) pictures) all

-- The one that came out last, and all behind it, are shown at its tick or later.
pub kept_by_tick : (of : calls.Stream) (streams time count : ℕ) (last : Option ℕ) (told : List ℕ) → IsLegal streams of.script
    → count ≡ length (told ++ option_to_list last) → time ≡ promised of.script of.number of.period count
    → IsKept of last (length told) time
kept_by_tick of streams time count None told legal many is = tt
kept_by_tick of streams time count (Some last) told legal many is = λ pictures.
    let before : count - 1 ≡ length told = (let more = length_more told last in omega (arith, many, more)) in
    let all = promises_are_kept streams of.script of.number of.period count pictures legal in
    subst (λ t. Late of.script of.number of.period t (shown_from of.script of.number of.period (length told) pictures)) (sym is)
    (subst (λ n. Late of.script of.number of.period (promised of.script of.number of.period count) (shown_from of.script of.number of.period n pictures)) before all)

pub kept_next : (of : calls.Stream) (last number count next time : ℕ) (one : samples.Picture) → next ≡ count + 1 → IsKept of (Some last) count time
    → IsKept of (Some number) next time
kept_next of last number count next time one is kept = λ pictures.
    subst (λ n. Late of.script of.number of.period time (shown_from of.script of.number of.period n pictures)) (sym is) (late_next of.script of.number of.period time count one pictures (kept (one ∷ pictures)))

-- ---- no tick is at time 0

no_tick : {A : Type 0} (time : ℕ) → (let o : Option ℕ = None in o ≡ Some time) → A
no_tick time e = absurd (let k : (let o : Option ℕ = None in o ≡ Some time) = e in cc)

positive : (streams time found : ℕ) (earlier lines : List ScriptLine) → IsInOrder streams earlier lines → tick_from time lines ≡ Some found → 0 < found
unfolding IsInOrder
positive streams time found earlier [] order e = no_tick found e
positive streams time found earlier (Tick ticks ∷ lines) order e =
    let is : is_time ticks ≡ true = (and_parts (is_time ticks) _ order.0).0 in
    let some : 1 ≤ ticks = leb-true 1 ticks (and_parts (nat_le 1 ticks) (nat_lt ticks (2 ^ 63)) is).0 in
    by_test (nat_le time ticks) some e (positive streams time found (earlier ++ Tick ticks ∷ []) lines order.1)
  where
    by_test : (b : Bool) → 1 ≤ ticks → (if b then Some ticks else tick_from time lines) ≡ Some found → (tick_from time lines ≡ Some found → 0 < found)
        → 0 < found
    by_test true some k rest = let same : ticks ≡ found = cc in omega (arith, same, some)
    by_test false some k rest = rest k
positive streams time found earlier (Preempt preempts stream ∷ lines) order e =
    positive streams time found (earlier ++ Preempt preempts stream ∷ []) lines order.1 e

pub promised_some : (streams : ℕ) (script : List ScriptLine) (stream period : ℕ) → IsLegal streams script → 0 < promised script stream period 1
promised_some streams script stream period legal = by_tick (tick_in_time script stream period 0) refl where
  by_tick : (tick : Option ℕ) → tick_in_time script stream period 0 ≡ tick → 0 < unwrap_or (tick_in_time script stream period 0) no_time
  by_tick None is = subst (λ t. 0 < unwrap_or t no_time) (sym is) (omega arith)
  by_tick (Some time) is =
      subst (λ t. 0 < unwrap_or t no_time) (sym is) (positive streams ((0 + 1) * period) time [] script legal (is_tick_of script stream period 0 time is))

-- ---- how many promises

pub promises_next : (of : calls.Stream) (count next time promises : ℕ) → next ≡ count + 1 → ArePromises of count time promises
    → ArePromises of next time promises
promises_next of count next time promises is are = record {
  fits = are.fits;
  most = (let most = are.most in omega (arith, is, most));
  before_last = λ less. (let few = are.before_last less in omega (arith, is, few));
  before_tick = λ less tick. (let few = are.before_last less in omega (arith, is, few));
}

pub promises_tick : (of : calls.Stream) (count time next promises : ℕ) → time < next → next ≤ no_time → next ≡ promised of.script of.number of.period count
    → ArePromises of count time promises
    → ArePromises of count next (promises + 1) × (promises + 1 ≤ count)
promises_tick of count time next promises less most is are =
    let few : promises + 1 ≤ count = are.before_tick (omega (arith, less, most)) (subst (λ t. time < t) is less) in (
      record {
        fits = most;
        most = omega (arith, few);
        before_last = λ k. few;
        before_tick = λ k tick. let same : next < next = subst (λ t. next < t) (sym is) tick in absurd (omega (arith, same));
      },
      few,
    )

pub promises_last : (of : calls.Stream) (count time promises : ℕ) → time < no_time → ArePromises of count time promises
    → ArePromises of count no_time (promises + 1) × (promises ≤ count)
promises_last of count time promises less are =
    let few = are.before_last less in (
      record {
        fits = omega arith;
        most = omega (arith, few);
        before_last = λ k. absurd (omega (arith, k));
        before_tick = λ k tick. absurd (omega (arith, k));
      },
      few,
    )

pub no_promises : (of : calls.Stream) → ArePromises of 0 0 0
no_promises of = record { fits = omega arith; most = omega arith; before_last = λ k. omega arith; before_tick = λ k tick. absurd (omega (arith, tick)) }
