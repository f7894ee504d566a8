-- What is written of a slice is its unit.
use Rattle.std.proofs.Common.{◌≡◌, ℕ, zero, suc, ◌+◌, ◌-◌, ◌*◌, ◌%◌, Bool, false, List, [], ◌∷◌, ◌++◌, length, replicate, refl, sym, ap, ◌∙◌, subst, arith}
use Rattle.std.proofs.lemmas.List.{append-nil, length-append, length-replicate}
use Rattle.bit_io.specs.Bits.{Holds, bits_of, u}
use Rattle.bit_io.specs.Escaped.{escaped}
use Rattle.bit_io.specs.Trailing.{trailing_bits}
use Rattle.bit_io.proofs.ByteLemmas.{length-bits_of}
use Rattle.cavlc.specs.Turns.{in_turn, state_behind}
use Rattle.cb_types.specs.declared.header.Header.{Header}
use Rattle.cb_types.specs.declared.macroblock.Macroblock.{Macroblock}
use Rattle.element_tables.specs.Syntax.{Appends, Spells}
use Rattle.mb_syntax.specs.Slice.{slice_of}
use Rattle.mb_syntax.specs.SliceData.{SoFar, behind, bits_from, last_run, next_bits, slice_bits, start}
use Rattle.mb_syntax.specs.declared.slice.Slice.{Slice}
use Rattle.slice_header.specs.Headers.{as_read}
use Rattle.slice_header.specs.Spelling.{slice_header}
use Rattle.cb_maker.specs.Stream.{IsSliceUnit, first_byte}
use Rattle.cb_maker.specs.declared.stream.TheConstants.{INFO, SIZE}

place_is : (slice : Slice) (at : SoFar) (mbs : List Macroblock) → (state_behind (behind slice) at mbs).place ≡ at.place + length (in_turn (next_bits slice) (behind slice) at mbs)
unfolding in_turn state_behind
place_is slice at [] = omega arith
place_is slice at (mb ∷ mbs) =
    let here = next_bits slice at mb in
    let rest = in_turn (next_bits slice) (behind slice) (behind slice at mb) mbs in
    omega (arith, place_is slice (behind slice at mb) mbs, length-append here rest)

length-trailing : (n : ℕ) → length (trailing_bits n) ≡ suc (7 - n % 8)
length-trailing n = ap suc (length-replicate (7 - n % 8) false)

fills : (place turn last : ℕ) → (place + (turn + (last + suc (7 - (place + turn + last) % 8)))) % 8 ≡ 0
fills place turn last = omega arith

whole : (slice : Slice) (place : ℕ) (mbs : List Macroblock) → (place + length (slice_bits slice place mbs)) % 8 ≡ 0
unfolding bits_from
whole slice place mbs =
    let turn = in_turn (next_bits slice) (behind slice) (start place) mbs in
    let end = state_behind (behind slice) (start place) mbs in
    let last = last_run end ++ [] in
    let at : end.place ≡ place + length turn = place_is slice (start place) mbs in
    let sizes : length (turn ++ (last ++ trailing_bits (end.place + length last))) ≡ length turn + (length last + suc (7 - (place + length turn + length last) % 8)) =
    length-append turn (last ++ trailing_bits (end.place + length last))
    ∙ ap (λ (n : ℕ). length turn + n) (length-append last (trailing_bits (end.place + length last)) ∙ ap (λ (n : ℕ). length last + n) (length-trailing (end.place + length last)))
    ∙ ap (λ (n : ℕ). length turn + (length last + suc (7 - (n + length last) % 8))) at in
    ap (λ (n : ℕ). (place + n) % 8) sizes ∙ fills place (length turn) (length last)

length-u : (v n : ℕ) → length (u v n) ≡ n
unfolding u
length-u v zero = refl
length-u v (suc n) = ap suc (length-u v n)

filled : (bytes : List ℕ) (bits : List Bool) → Holds bytes bits → length bits % 8 ≡ 0 → bits_of bytes ≡ bits
filled bytes bits (zeros, few, held) whole_bits =
    let all : 8 * length bytes ≡ length bits + zeros =
    sym (length-bits_of bytes) ∙ ap length held ∙ length-append bits (replicate zeros false) ∙ ap (λ (x : ℕ). length bits + x) (length-replicate zeros false) in
    let none : zeros ≡ 0 = omega (arith, all, few, whole_bits) in
    held ∙ ap (λ (x : ℕ). bits ++ replicate x false) none ∙ append-nil bits

pub unit_written : (header : Header) (mbs : List Macroblock) (bytes unit : List ℕ) (empty one two three : List Bool) → empty ≡ [] → one ≡ empty ++ u (first_byte header.head) 8
    → Appends (slice_header header.head INFO) (as_read INFO header) one two → as_read INFO header ≡ header → three ≡ two ++ slice_bits (slice_of INFO header SIZE) (length two) mbs
    → Holds bytes three → unit ≡ escaped bytes → IsSliceUnit (record { header = header; mbs = mbs }) unit
unit_written header mbs bytes unit empty one two three n e f same g held h =
    let slice = slice_of INFO header SIZE in
    let first = u (first_byte header.head) 8 in
    let one_is : one ≡ first = e ∙ ap (λ (x : List Bool). x ++ first) n in
    let two_is : two ≡ first ++ f.added = f.parts ∙ ap (λ (x : List Bool). x ++ f.added) one_is in
    let two_long : length two ≡ 8 + length f.added = ap length two_is ∙ length-append first f.added ∙ ap (λ (k : ℕ). k + length f.added) (length-u (first_byte header.head) 8) in
    let three_whole : length three % 8 ≡ 0 =
    ap (λ (x : List Bool). length x % 8) g ∙ ap (λ (k : ℕ). k % 8) (length-append two (slice_bits slice (length two) mbs)) ∙ whole slice (length two) mbs in
    record {
      payload = bytes;
      spelled = h;
      elements = f.added;
      header = subst (λ (x : Header). Spells (slice_header header.head INFO) f.added x) same f.spelled;
      bits = filled bytes three held three_whole ∙ g ∙ ap (λ (k : ℕ). two ++ slice_bits slice k mbs) two_long
          ∙ ap (λ (x : List Bool). x ++ slice_bits slice (8 + length f.added) mbs) two_is;
    }
