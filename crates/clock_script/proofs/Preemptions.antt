-- Preemptions from their texts.
use Rattle.std.proofs.Common.{◌≡◌, ℕ, ◌+◌, ◌<◌, ◌^◌, List, ◌∷◌, ◌++◌, length, take, drop, get_or, Option, Some, None, Bool, true, false, cond, refl, sym, ap, subst, ◌∙◌, arith}
use Rattle.std.specs.Prelude.{MatchOption, decimal, nat_lt}
use Rattle.std.proofs.lemmas.Str.Parse.{digit_at}
use Rattle.std.proofs.lemmas.Fmt.{decimal_injective, decimal_is_IsNumeral}
use Rattle.std.proofs.lemmas.Bool.{ltb-false, ltb-true}
use Rattle.std.proofs.lemmas.List.{length-append}
use Rattle.std.proofs.Math.ListN.{get_or-append}
use Rattle.std.proofs.Math.Seq.{get_or-append_seam}
use Rattle.clock_script.specs.Lines.{IsInRange, IsPreemptionOf, preemption}
use Rattle.clock_script.specs.declared.script.ScriptLine.{ScriptLine}
use Rattle.clock_script.specs.declared.script.ScriptLine.TheVariants.{Preempt}
use Rattle.clock_script.proofs.Parts.{IsFirst, Lacks, around, parted}

-- a number's text has digits alone
pub decimal_lacks : (byte n : ℕ) → byte < 48 → n < 2 ^ 63 → Lacks byte (decimal n)
decimal_lacks byte n below small k within is =
    let digit = digit_at (decimal n) k (decimal_is_IsNumeral n (omega arith)).0.1 within in
    omega (arith, digit.0, is, below)

-- what read_number says of a text
abbrev pub IsNumberOf : List ℕ → Option ℕ → Type 0
IsNumberOf text found = MatchOption found ((n : ℕ) → n < 2 ^ 63 → text ≡ decimal n → ⊥) (λ n. (n < 2 ^ 63) × (text ≡ decimal n))

-- where the text is a preemption's, the numbers stand on both sides of the first space
parts_of : (text : List ℕ) (place time stream : ℕ) → time < 2 ^ 63 → IsFirst 32 text place → text ≡ decimal time ++ 32 ∷ decimal stream → (take place text ≡ decimal time) × (drop (place + 1) text ≡ decimal stream)
parts_of text place time stream small first is =
    let p = parted 32 (decimal time) (decimal stream) place (decimal_lacks 32 time (omega arith) small) (subst (λ (t : List ℕ). IsFirst 32 t place) is first) in
    (ap (take place) is ∙ p.front_is, ap (drop (place + 1)) is ∙ p.back_is)

abbrev Reads : List ℕ → Option ScriptLine → Type 0
Reads text found = MatchOption found ((time stream : ℕ) → IsInRange (Preempt time stream) → text ≡ decimal time ++ 32 ∷ decimal stream → ⊥) (λ line. IsPreemptionOf line text)

joined : (text front back : List ℕ) (place byte : ℕ) → place < length text → get_or text place 0 ≡ byte → take place text ≡ front → drop (place + 1) text ≡ back → text ≡ front ++ byte ∷ back
joined text front back place byte within is before behind = around text place within ∙ rw (is, before, behind) refl

both_read : (text : List ℕ) (place t s : ℕ) (fits : Bool) → place < length text → IsFirst 32 text place → IsNumberOf (take place text) (Some t) → IsNumberOf (drop (place + 1) text) (Some s) → nat_lt s (2 ^ 32) ≡ fits → Reads text (cond fits (Some (Preempt t s)) None)
both_read text place t s true within first front back is = (t, s, front.0, ltb-true s (2 ^ 32) is, refl, joined text (decimal t) (decimal s) place 32 within (first.there within) front.1 back.1)
both_read text place t s false within first front back is = λ time stream range e.
    let same : s ≡ stream = decimal_injective s stream (omega (arith, back.0)) (omega (arith, range.1)) (sym back.1 ∙ (parts_of text place time stream range.0 first e).1) in
    omega (arith, same, range.1, ltb-false s (2 ^ 32) is)

pub preemption_read : (text : List ℕ) (place : ℕ) (a b : Option ℕ) → place < length text → IsFirst 32 text place → IsNumberOf (take place text) a → IsNumberOf (drop (place + 1) text) b → Reads text (preemption a b)
preemption_read text place None b within first front back = λ time stream range e. front time range.0 (parts_of text place time stream range.0 first e).0
preemption_read text place (Some t) None within first front back = λ time stream range e. back stream (omega (arith, range.1)) (parts_of text place time stream range.0 first e).1
preemption_read text place (Some t) (Some s) within first front back = both_read text place t s (nat_lt s (2 ^ 32)) within first front back refl

pub no_space : (text : List ℕ) (place time stream : ℕ) → IsInRange (Preempt time stream) → IsFirst 32 text place → place ≡ length text → text ≡ decimal time ++ 32 ∷ decimal stream → ⊥
no_space text place time stream range first end is =
    let p = parted 32 (decimal time) (decimal stream) place (decimal_lacks 32 time (omega arith) range.0) (subst (λ (t : List ℕ). IsFirst 32 t place) is first) in
    omega (arith, p.place_is, end, ap length is, length-append (decimal time) (32 ∷ decimal stream))

-- the first space is behind the time
pub first_space : (time stream : ℕ) → time < 2 ^ 63 → IsFirst 32 (decimal time ++ 32 ∷ decimal stream) (length (decimal time))
first_space time stream small = record {
  within = omega (arith, length-append (decimal time) (32 ∷ decimal stream));
  before = λ k less is. decimal_lacks 32 time (omega arith) small k less (sym (get_or-append (decimal time) (32 ∷ decimal stream) 0 k less) ∙ is);
  there = λ inside. get_or-append_seam (decimal time) 32 (decimal stream) 0;
}
