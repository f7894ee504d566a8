-- What each byte does to the phase of a text.
use Rattle.std.proofs.Common.{◌≡◌, ◌≢◌, ℕ, ◌+◌, ◌-◌, ◌<◌, ◌≤◌, ◌⊎◌, inl, inr, List, [], ◌∷◌, ◌++◌, length, get_or, refl, sym, ◌∙◌, ap, append_assoc, arith, length-append, Some}
use Rattle.std.specs.Prelude.{replicate, min}
use Rattle.std.specs.List.{AllByRecursion}
use Rattle.std.proofs.lemmas.List.{length-replicate, get_or_append_left, get_or-append_right, append-nil, replicate_more}
use Rattle.std.proofs.lemmas.Bool.{cases_lt}
use Rattle.nal_units.specs.Units.{Units, Part, IsPart, IsUnit, EndsUnit, stream, place, places, end_of, fewest}
use Rattle.nal_units.specs.Finder.{IsOutside, IsInside}
use Rattle.nal_units.proofs.Streams.{stream-append, stream-more, places-more, end_of-more, each-more, fewest-more, length-stream}

-- how long a text is that ends outside or inside a unit

pub outside_len : (t : List ℕ) (s : List (ℕ × ℕ)) (z : ℕ) (o : IsOutside t s z) → length t ≡ end_of 0 o.parts + o.run
outside_len t s z o =
    let len = length-stream o.parts (replicate o.run 0) 0 in
    let same = ap length o.spelled in
    let zeros = length-replicate {A = ℕ} o.run 0 in
    omega arith

pub inside_len : (t : List ℕ) (s : List (ℕ × ℕ)) (start z : ℕ) (i : IsInside t s start z) → length t ≡ start + length i.unit + z
inside_len t s start z i =
    let len = length-stream i.parts (replicate i.run 0 ++ 1 ∷ (i.unit ++ replicate z 0)) 0 in
    let same = ap length i.spelled in
    let begun = i.begun in
    let outer = length-append (replicate i.run 0) (1 ∷ (i.unit ++ replicate z 0)) in
    let inner = length-append i.unit (replicate z 0) in
    let zeros = length-replicate {A = ℕ} i.run 0 in
    let pending = length-replicate {A = ℕ} z 0 in
    omega arith

-- outside a unit

pub outside_zero : (t : List ℕ) (s : List (ℕ × ℕ)) (z next : ℕ) → IsOutside t s z → next ≡ min (z + 1) 2 → IsOutside (t ++ 0 ∷ []) s next
outside_zero t s z next o e =
    let closed = o.closed in
    let counted = o.counted in
    record {
      parts = o.parts;
      run = o.run + 1;
      each = o.each;
      spelled = ap (λ x. x ++ 0 ∷ []) o.spelled ∙ stream-append o.parts (replicate o.run 0) (0 ∷ []) ∙ ap (λ x. stream o.parts x) (replicate_more o.run 0);
      placed = o.placed;
      closed = omega arith;
      counted = omega arith;
    }

pub outside_start : (t : List ℕ) (s : List (ℕ × ℕ)) (z : ℕ) → IsOutside t s z → z ≡ 2 → IsInside (t ++ 1 ∷ []) s (length t + 1) 0
outside_start t s z o e =
    let counted = o.counted in
    let len = outside_len t s z o in
    record {
      parts = o.parts;
      run = o.run;
      unit = [];
      each = o.each;
      spelled = ap (λ x. x ++ 1 ∷ []) o.spelled ∙ stream-append o.parts (replicate o.run 0) (1 ∷ []);
      placed = o.placed;
      enough = omega arith;
      begun = omega arith;
      content = inl refl;
      few = omega arith;
    }

pub outside_stray : (t : List ℕ) (s : List (ℕ × ℕ)) (z b : ℕ) → IsOutside t s z → b ≢ 0 → (z ≡ 2 → b ≡ 1 → ⊥) → (more : List ℕ) → Units ((t ++ b ∷ []) ++ more) s (Some (length t))
outside_stray t s z b o nonzero no_start more =
    let counted = o.counted in
    let len = outside_len t s z o in
    record {
      parts = o.parts;
      run = o.run;
      tail = b ∷ more;
      each = o.each;
      spelled = append_assoc t (b ∷ []) more ∙ ap (λ x. x ++ b ∷ more) o.spelled ∙ stream-append o.parts (replicate o.run 0) (b ∷ more);
      placed = o.placed;
      ending = inl (nonzero, (λ start. no_start (omega (arith, start.0)) start.1), o.closed, ap Some len);
    }

-- inside a unit

pub inside_zero : (t : List ℕ) (s : List (ℕ × ℕ)) (start z : ℕ) → IsInside t s start z → z < 2 → IsInside (t ++ 0 ∷ []) s start (z + 1)
inside_zero t s start z i few =
    record {
      parts = i.parts;
      run = i.run;
      unit = i.unit;
      each = i.each;
      spelled = ap (λ x. x ++ 0 ∷ []) i.spelled ∙ stream-append i.parts _ (0 ∷ [])
          ∙ ap (λ x. stream i.parts x) (append_assoc (replicate i.run 0) (1 ∷ (i.unit ++ replicate z 0)) (0 ∷ [])
          ∙ ap (λ x. replicate i.run 0 ++ 1 ∷ x) (append_assoc i.unit (replicate z 0) (0 ∷ []) ∙ ap (λ x. i.unit ++ x) (replicate_more z 0)));
      placed = i.placed;
      enough = i.enough;
      begun = i.begun;
      content = i.content;
      few = omega arith;
    }

-- zero bytes and a byte that isn't one belong to the unit before them, if that byte ends no unit
grown : (unit : List ℕ) (z b : ℕ) → (unit ≡ []) ⊎ IsUnit unit → z ≤ 2 → b ≢ 0 → (z ≡ 2 → 1 < b) → IsUnit (unit ++ (replicate z 0 ++ b ∷ []))
grown unit z b content few nonzero above =
    let w : List ℕ = unit ++ (replicate z 0 ++ b ∷ []) in
    let zeros = length-replicate {A = ℕ} z 0 in
    let behind = length-append (replicate z 0) (b ∷ []) in
    let len : length w ≡ length unit + z + 1 = omega (arith, length-append unit (replicate z 0 ++ b ∷ [])) in
    let front : (k : ℕ) → k < length unit → get_or w k 0 ≡ get_or unit k 0 = λ k h. get_or_append_left unit (replicate z 0 ++ b ∷ []) 0 k h in
    let at_end : (k : ℕ) → k ≡ length unit + z → get_or w k 0 ≡ b = λ k h.
    ap (λ j. get_or w j 0) h
    ∙ get_or-append_right unit (replicate z 0 ++ b ∷ []) (length unit) (length unit + z) 0 refl (omega arith)
    ∙ ap (λ j. get_or (replicate z 0 ++ b ∷ []) j 0) (let e : length unit + z - length unit ≡ z = omega arith in e)
    ∙ get_or-append_right (replicate z 0) (b ∷ []) z z 0 zeros (omega arith)
    ∙ ap (λ j. get_or (b ∷ []) j 0) (let e : z - z ≡ 0 = omega arith in e) in
    let no_last : (k : ℕ) → k + 1 ≡ length unit → get_or w k 0 ≡ 0 → ⊥ = λ k h zero_there.
    elim content as (λ _. ⊥) [
      | inl e ↦ (let none = ap length e in omega arith)
      | inr is ↦ is.last (ap (λ j. get_or unit j 0) (omega arith) ∙ sym (front k (omega arith)) ∙ zero_there)
    ] in
    record {
      some = omega arith;
      last = λ e. nonzero (sym (at_end (length w - 1) (omega arith)) ∙ e);
      whole = λ k below first second.
          elim (cases_lt k (length unit)) as (λ _. 1 < get_or w (k + 2) 0) [
            | inr past ↦ (let is_b = at_end (k + 2) (omega arith) in let high = above (omega arith) in omega arith)
            | inl before ↦ elim (cases_lt (k + 1) (length unit)) as (λ _. 1 < get_or w (k + 2) 0) [
              | inr past ↦ absurd (no_last k (omega arith) first)
              | inl before' ↦ elim (cases_lt (k + 2) (length unit)) as (λ _. 1 < get_or w (k + 2) 0) [
                | inr past ↦ absurd (no_last (k + 1) (omega arith) second)
                | inl inside ↦ elim content as (λ _. 1 < get_or w (k + 2) 0) [
                  | inl e ↦ absurd (let none = ap length e in omega arith)
                  | inr is ↦ (
                      let high = is.whole k inside (sym (front k before) ∙ first) (sym (front (k + 1) before') ∙ second) in
                      let same = front (k + 2) inside in
                      omega arith)
                ]
              ]
            ]
          ];
    }

pub inside_byte : (t : List ℕ) (s : List (ℕ × ℕ)) (start z b : ℕ) → IsInside t s start z → b ≢ 0 → (z ≡ 2 → 1 < b) → IsInside (t ++ b ∷ []) s start 0
inside_byte t s start z b i nonzero above =
    record {
      parts = i.parts;
      run = i.run;
      unit = i.unit ++ (replicate z 0 ++ b ∷ []);
      each = i.each;
      spelled = ap (λ x. x ++ b ∷ []) i.spelled ∙ stream-append i.parts _ (b ∷ [])
          ∙ ap (λ x. stream i.parts x) (append_assoc (replicate i.run 0) (1 ∷ (i.unit ++ replicate z 0)) (b ∷ [])
          ∙ ap (λ x. replicate i.run 0 ++ 1 ∷ x) (append_assoc i.unit (replicate z 0) (b ∷ []) ∙ sym (append-nil (i.unit ++ (replicate z 0 ++ b ∷ [])))));
      placed = i.placed;
      enough = i.enough;
      begun = i.begun;
      content = inr (grown i.unit z b i.content i.few nonzero above);
      few = omega arith;
    }

-- the end of a unit

-- a unit that isn't empty where its end isn't its start
is_unit : (t : List ℕ) (s : List (ℕ × ℕ)) (start z end : ℕ) (i : IsInside t s start z) → end + z ≡ length t → start ≢ end → IsUnit i.unit
is_unit t s start z end i ends some =
    elim i.content as (λ _. IsUnit i.unit) [
      | inl e ↦ absurd (some (let none = ap length e in let len = inside_len t s start z i in omega arith))
      | inr is ↦ is
    ]

part_of : (t : List ℕ) (s : List (ℕ × ℕ)) (start z : ℕ) (i : IsInside t s start z) → Part
part_of t s start z i = record { zeros = i.run; unit = i.unit }

pub inside_parts : (t : List ℕ) (s : List (ℕ × ℕ)) (start z end : ℕ) → IsInside t s start z → end + z ≡ length t → start ≢ end
    → (parts : List Part) × AllByRecursion IsPart parts × (t ≡ stream parts (replicate z 0)) × (s ++ (start, end) ∷ [] ≡ places 0 parts) × (fewest parts ≡ 3) × (end_of 0 parts ≡ end)
inside_parts t s start z end i ends some =
    let part : Part = record { zeros = i.run; unit = i.unit } in
    let len = inside_len t s start z i in
    let begun = i.begun in
    let here : place (end_of 0 i.parts) part ≡ (start, end) = ap (λ k. (k, k + length i.unit)) (sym begun) ∙ ap (λ k. (start, k)) (omega arith) in (
      i.parts ++ part ∷ [],
      each-more i.parts part i.each (record { zeros = i.enough; unit = is_unit t s start z end i ends some }),
      i.spelled ∙ sym (stream-more i.parts part (replicate z 0)),
      ap (λ x. x ++ (start, end) ∷ []) i.placed ∙ ap (λ x. places 0 i.parts ++ x ∷ []) (sym here) ∙ sym (places-more i.parts part 0),
      fewest-more i.parts part,
      end_of-more i.parts part 0 ∙ ap (λ (x : ℕ × ℕ). x.1) here,
    )

pub end_zero : (t : List ℕ) (s : List (ℕ × ℕ)) (start end : ℕ) → IsInside t s start 2 → end + 2 ≡ length t → start ≢ end → IsOutside (t ++ 0 ∷ []) (s ++ (start, end) ∷ []) 2
end_zero t s start end i ends some =
    let p = inside_parts t s start 2 end i ends some in
    let three = p.4 in
    record {
      parts = p.0;
      run = 3;
      each = p.1;
      spelled = ap (λ x. x ++ 0 ∷ []) p.2 ∙ stream-append p.0 (replicate 2 0) (0 ∷ []);
      placed = p.3;
      closed = omega arith;
      counted = refl;
    }

pub end_start : (t : List ℕ) (s : List (ℕ × ℕ)) (start end : ℕ) → IsInside t s start 2 → end + 2 ≡ length t → start ≢ end → IsInside (t ++ 1 ∷ []) (s ++ (start, end) ∷ []) (length t + 1) 0
end_start t s start end i ends some =
    let p = inside_parts t s start 2 end i ends some in
    let at = p.5 in
    record {
      parts = p.0;
      run = 2;
      unit = [];
      each = p.1;
      spelled = ap (λ x. x ++ 1 ∷ []) p.2 ∙ stream-append p.0 (replicate 2 0) (1 ∷ []);
      placed = p.3;
      enough = omega arith;
      begun = omega arith;
      content = inl refl;
      few = omega arith;
    }

is_empty : (t : List ℕ) (s : List (ℕ × ℕ)) (start z : ℕ) (i : IsInside t s start z) → start + z ≡ length t → i.unit ≡ []
is_empty t s start z i ends =
    elim i.content as (λ _. i.unit ≡ []) [
      | inl e ↦ e
      | inr is ↦ absurd (let some = is.some in let len = inside_len t s start z i in omega arith)
    ]

-- a start code with no unit behind it
pub inside_empty : (t : List ℕ) (s : List (ℕ × ℕ)) (start z : ℕ) (rest : List ℕ) → IsInside t s start z → start + z ≡ length t → EndsUnit (replicate z 0 ++ rest)
    → Units (t ++ rest) s (Some start)
inside_empty t s start z rest i ends none =
    let e = is_empty t s start z i ends in
    record {
      parts = i.parts;
      run = i.run;
      tail = 1 ∷ (replicate z 0 ++ rest);
      each = i.each;
      spelled = ap (λ x. x ++ rest) i.spelled ∙ stream-append i.parts _ rest
          ∙ ap (λ x. stream i.parts x) (append_assoc (replicate i.run 0) (1 ∷ (i.unit ++ replicate z 0)) rest ∙ ap (λ u. replicate i.run 0 ++ 1 ∷ ((u ++ replicate z 0) ++ rest)) e);
      placed = i.placed;
      ending = inr ((i.enough, refl), none, ap Some i.begun);
    }
