-- Lines by their texts.
use Rattle.std.proofs.Common.{◌≡◌, ℕ, ◌+◌, ◌<◌, ◌≤◌, ◌^◌, ◌&&◌, List, ◌∷◌, ◌++◌, length, take, drop, get_or, Bool, true, false, refl, sym, ap, ap₂, subst, ◌∙◌, arith}
use Rattle.std.specs.Prelude.{decimal}
use Rattle.std.proofs.Math.Seq.{drop-append-add, take-append_seam}
use Rattle.std.proofs.lemmas.Bool.{ltb-true}
use Rattle.std.proofs.lemmas.Fmt.{decimal_injective}
use Rattle.clock_script.specs.Lines.{IsInRange}
use Rattle.clock_script.specs.Script.{is_time, may_follow}
use Rattle.clock_script.specs.Texts.{line_text}
use Rattle.clock_script.specs.declared.script.ScriptLine.{ScriptLine}
use Rattle.clock_script.specs.declared.script.ScriptLine.TheVariants.{Preempt, Tick}
use Rattle.clock_script.proofs.Parts.{IsFirst, Parted, parted}
use Rattle.clock_script.proofs.Preemptions.{decimal_lacks, first_space}

pub both : (a b : Bool) → (a && b) ≡ true → (a ≡ true) × (b ≡ true)
both true b e = (refl, e)
both false b e = absurd cc

time_in_range : (time : ℕ) → is_time time ≡ true → time < 2 ^ 63
time_in_range time is = ltb-true time (2 ^ 63) (both _ _ is).1

-- a line that may follow has numbers in range
pub in_range : (streams : ℕ) (earlier : List ScriptLine) (line : ScriptLine) → streams ≤ 2 ^ 32 → may_follow streams earlier line ≡ true → IsInRange line
in_range streams earlier (Tick time) few may = time_in_range time (both _ _ may).0
in_range streams earlier (Preempt time stream) few may =
    let a = both _ _ may in
    let below : stream < streams = ltb-true stream streams (both _ _ a.1).0 in
    (time_in_range time a.0, omega (arith, below, few))

-- one text, one line
pub one_line : (a b : ScriptLine) → IsInRange a → IsInRange b → line_text a ≡ line_text b → a ≡ b
one_line (Tick s) (Tick t) in_a in_b same = ap Tick (decimal_injective s t (omega (arith, in_a)) (omega (arith, in_b)) (ap (drop 5) same))
one_line (Tick s) (Preempt t stream) in_a in_b same = absurd (omega (arith, ap (λ l. get_or l 0 0) same))
one_line (Preempt s stream) (Tick t) in_a in_b same = absurd (omega (arith, ap (λ l. get_or l 0 0) same))
one_line (Preempt s x) (Preempt t y) in_a in_b same =
    let operands : decimal s ++ 32 ∷ decimal x ≡ decimal t ++ 32 ∷ decimal y = ap (drop 8) same in
    let mine = first_space s x in_a.0 in
    let theirs : Parted (decimal t ++ 32 ∷ decimal y) (decimal t) (decimal y) (length (decimal s)) =
    parted 32 (decimal t) (decimal y) (length (decimal s)) (decimal_lacks 32 t (omega arith) in_b.0) (subst (λ (l : List ℕ). IsFirst 32 l (length (decimal s))) operands mine) in
    let front : decimal s ≡ decimal t = sym (take-append_seam (decimal s) (32 ∷ decimal x)) ∙ (ap (take (length (decimal s))) operands ∙ theirs.front_is) in
    let back : decimal x ≡ decimal y = sym (drop-append-add (decimal s) (32 ∷ decimal x) 1) ∙ (ap (drop (length (decimal s) + 1)) operands ∙ theirs.back_is) in
    ap₂ Preempt (decimal_injective s t (omega (arith, in_a.0)) (omega (arith, in_b.0)) front) (decimal_injective x y (omega (arith, in_a.1)) (omega (arith, in_b.1)) back)
