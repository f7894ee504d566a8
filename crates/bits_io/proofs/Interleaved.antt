-- Two lists in turn, one pair longer, and taken apart again.
use Rattle.std.proofs.Common.{◌≡◌, ℕ, ◌+◌, ◌*◌, ◌<◌, List, [], ◌∷◌, ◌++◌, length, take, set, get_or, sym, refl, ap, ◌∙◌, arith}
use Rattle.std.proofs.lemmas.List.{append_assoc, length-set, length-take, take_more, take_more_set}
use Rattle.bits_io.specs.ByteOrder.{interleaved}

pub length-interleaved : (xs ys : List ℕ) → length ys ≡ length xs → length (interleaved xs ys) ≡ 2 * length xs
length-interleaved [] ys same = omega arith
length-interleaved (x ∷ xs) [] same = omega arith
length-interleaved (x ∷ xs) (y ∷ ys) same = omega (arith, length-interleaved xs ys (omega arith))

interleaved-push : (xs ys : List ℕ) (x y : ℕ) → length ys ≡ length xs → interleaved (xs ++ x ∷ []) (ys ++ y ∷ []) ≡ interleaved xs ys ++ (x ∷ (y ∷ []))
interleaved-push [] [] x y same = refl
interleaved-push [] (b ∷ ys) x y same = absurd (omega arith)
interleaved-push (a ∷ xs) [] x y same = absurd (omega arith)
interleaved-push (a ∷ xs) (b ∷ ys) x y same = ap (λ l. a ∷ (b ∷ l)) (interleaved-push xs ys x y (omega arith))

-- the first i + 1 pairs
take_pair : (zs : List ℕ) (i : ℕ) → 2 * i + 1 < length zs → take (2 * (i + 1)) zs ≡ take (2 * i) zs ++ (get_or zs (2 * i) 0 ∷ (get_or zs (2 * i + 1) 0 ∷ []))
take_pair zs i within =
    let next : 2 * (i + 1) ≡ 2 * i + 1 + 1 = omega arith in
    ap (λ n. take n zs) next ∙ (take_more zs (2 * i + 1) 0 within ∙ (ap (λ l. l ++ get_or zs (2 * i + 1) 0 ∷ []) (take_more zs (2 * i) 0 (omega arith)) ∙ append_assoc (take (2 * i) zs) (get_or zs (2 * i) 0 ∷ []) (get_or zs (2 * i + 1) 0 ∷ [])))

-- and after a pair was written
take_pair_set : (zs : List ℕ) (i x y : ℕ) → 2 * i + 1 < length zs → take (2 * (i + 1)) (set (set zs (2 * i) x) (2 * i + 1) y) ≡ take (2 * i) zs ++ (x ∷ (y ∷ []))
take_pair_set zs i x y within =
    let next : 2 * (i + 1) ≡ 2 * i + 1 + 1 = omega arith in
    ap (λ n. take n (set (set zs (2 * i) x) (2 * i + 1) y)) next
    ∙ (take_more_set (set zs (2 * i) x) (2 * i + 1) y (omega (arith, length-set zs (2 * i) x))
    ∙ (ap (λ l. l ++ y ∷ []) (take_more_set zs (2 * i) x (omega arith)) ∙ append_assoc (take (2 * i) zs) (x ∷ []) (y ∷ [])))

-- one more pair is written
pub interleave_more : (xs ys zs : List ℕ) (i : ℕ) → length ys ≡ length xs → length zs ≡ 2 * length xs → i < length xs → take (2 * i) zs ≡ interleaved (take i xs) (take i ys)
    → take (2 * (i + 1)) (set (set zs (2 * i) (get_or xs i 0)) (2 * i + 1) (get_or ys i 0)) ≡ interleaved (take (i + 1) xs) (take (i + 1) ys)
interleave_more xs ys zs i same room within before =
    let x : ℕ = get_or xs i 0 in
    let y : ℕ = get_or ys i 0 in
    take_pair_set zs i x y (omega arith)
    ∙ (ap (λ l. l ++ (x ∷ (y ∷ []))) before
    ∙ (sym (interleaved-push (take i xs) (take i ys) x y (omega (arith, length-take i xs, length-take i ys)))
    ∙ (ap (λ l. interleaved l (take i ys ++ y ∷ [])) (sym (take_more xs i 0 within)) ∙ ap (interleaved (take (i + 1) xs)) (sym (take_more ys i 0 (omega arith))))))

-- one more pair is taken apart
pub deinterleave_more : (xs ys zs : List ℕ) (i : ℕ) → length ys ≡ length xs → length zs ≡ 2 * length xs → i < length xs → interleaved (take i xs) (take i ys) ≡ take (2 * i) zs
    → interleaved (take (i + 1) (set xs i (get_or zs (2 * i) 0))) (take (i + 1) (set ys i (get_or zs (2 * i + 1) 0))) ≡ take (2 * (i + 1)) zs
deinterleave_more xs ys zs i same room within before =
    let x : ℕ = get_or zs (2 * i) 0 in
    let y : ℕ = get_or zs (2 * i + 1) 0 in
    ap (λ l. interleaved l (take (i + 1) (set ys i y))) (take_more_set xs i x within)
    ∙ (ap (interleaved (take i xs ++ x ∷ [])) (take_more_set ys i y (omega arith))
    ∙ (interleaved-push (take i xs) (take i ys) x y (omega (arith, length-take i xs, length-take i ys))
    ∙ (ap (λ l. l ++ (x ∷ (y ∷ []))) before ∙ sym (take_pair zs i (omega arith)))))
