-- Elements and trailing bits fill whole bytes.
use Rattle.std.proofs.Common.{◌≡◌, ℕ, suc, ◌+◌, ◌-◌, ◌*◌, ◌%◌, ◌<◌, Bool, false, List, [], ◌++◌, inr, length, replicate, refl, sym, ap, subst, ◌∙◌, arith}
use Rattle.std.proofs.lemmas.List.{append-nil, length-append, length-replicate}
use Rattle.bit_io.specs.Bits.{Holds, bits_of}
use Rattle.bit_io.specs.Trailing.{EndsHere, trailing_bits}
use Rattle.bit_io.proofs.ByteLemmas.{length-bits_of}
use Rattle.cb_types.specs.SizeMbs.{IsWithinLimits}
use Rattle.param_sets.specs.Pps.{IsPpsOf, IsWrittenPps, pic_parameter_set_data}
use Rattle.param_sets.specs.Sps.{IsSpsOf, IsWrittenSps, seq_parameter_set_data, size_of}
use Rattle.element_tables.specs.Syntax.{Appends}
use Rattle.param_sets.specs.declared.pps.Pps.{Pps}
use Rattle.param_sets.specs.declared.sps.Sps.{Sps}

pub ends : (n : ℕ) → EndsHere (trailing_bits n)
ends n = (7 - n % 8, omega arith, refl)

whole : (n few_bits count : ℕ) → few_bits < 8 → 8 * count ≡ n + suc (7 - n % 8) + few_bits → few_bits ≡ 0
whole n few_bits count few e = omega (arith, few, e)

pub filled : (bytes : List ℕ) (elements finished : List Bool) → Holds bytes finished → finished ≡ elements ++ trailing_bits (length elements) → bits_of bytes ≡ elements ++ trailing_bits (length elements)
filled bytes elements finished (zeros, few, held) e =
    let n = length elements in
    let long : length finished ≡ n + suc (7 - n % 8) = ap length e ∙ length-append elements (trailing_bits n) ∙ ap (λ (x : ℕ). n + suc x) (length-replicate (7 - n % 8) false) in
    let all : 8 * length bytes ≡ length finished + zeros = sym (length-bits_of bytes) ∙ ap length held ∙ length-append finished (replicate zeros false) ∙ ap (λ (x : ℕ). length finished + x) (length-replicate zeros false) in
    let none : zeros ≡ 0 = whole n zeros (length bytes) few (all ∙ ap (λ (x : ℕ). x + zeros) long) in
    held ∙ ap (λ (x : ℕ). finished ++ replicate x false) none ∙ append-nil finished ∙ e

pub sps_finished : (bytes : List ℕ) (s : Sps) (empty elements finished : List Bool) → empty ≡ [] → Appends seq_parameter_set_data (s, false) empty elements
    → finished ≡ elements ++ trailing_bits (length elements) → Holds bytes finished → IsWrittenSps bytes s
sps_finished bytes s empty elements finished none f e held =
    let same : f.added ≡ elements = sym (f.parts ∙ ap (λ (x : List Bool). x ++ f.added) none) in
    (f.added, f.spelled, subst (λ (x : List Bool). bits_of bytes ≡ x ++ trailing_bits (length x)) (sym same) (filled bytes elements finished held e))

pub sps_reads_back : (bytes : List ℕ) (s : Sps) → IsWithinLimits (size_of s) → IsWrittenSps bytes s → IsSpsOf bytes s
sps_reads_back bytes s within (elements, spelled, parts) =
    ((false, trailing_bits (length elements), record { front = elements; spelled = spelled; parts = parts }, inr (ends (length elements))), within)

pub pps_finished : (bytes : List ℕ) (p : Pps) (empty elements finished : List Bool) → empty ≡ [] → Appends pic_parameter_set_data p empty elements
    → finished ≡ elements ++ trailing_bits (length elements) → Holds bytes finished → IsWrittenPps bytes p
pps_finished bytes p empty elements finished none f e held =
    let same : f.added ≡ elements = sym (f.parts ∙ ap (λ (x : List Bool). x ++ f.added) none) in
    (f.added, f.spelled, subst (λ (x : List Bool). bits_of bytes ≡ x ++ trailing_bits (length x)) (sym same) (filled bytes elements finished held e))

pub pps_reads_back : (bytes : List ℕ) (p : Pps) → IsWrittenPps bytes p → IsPpsOf bytes p
pps_reads_back bytes p (elements, spelled, parts) = (trailing_bits (length elements), record { front = elements; spelled = spelled; parts = parts }, ends (length elements))
