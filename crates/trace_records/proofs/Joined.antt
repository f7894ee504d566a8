-- Six words that stand one behind the other.
use Rattle.std.proofs.Common.{◌≡◌, ℕ, ◌+◌, List, [], ◌++◌, length, take, drop, refl, sym, append_assoc, arith}
use Rattle.std.proofs.lemmas.List.{append-nil, drop-drop, drop_all, take-append-drop}

-- a part of eight, and all that is behind it
pub next : (k : ℕ) (part rest xs : List ℕ) → part ≡ take 8 (drop k xs) → rest ≡ drop (k + 8) xs → part ++ rest ≡ drop k xs
next k part rest xs e r =
    let more : drop (k + 8) xs ≡ drop 8 (drop k xs) = sym (drop-drop 8 k xs) in
    rw (e, r, more) (take-append-drop 8 (drop k xs))

pub joined : (p0 p1 p2 p3 p4 p5 xs : List ℕ) → length xs ≡ 48
    → p0 ≡ take 8 (drop 0 xs) → p1 ≡ take 8 (drop 8 xs) → p2 ≡ take 8 (drop 16 xs) → p3 ≡ take 8 (drop 24 xs) → p4 ≡ take 8 (drop 32 xs) → p5 ≡ take 8 (drop 40 xs)
    → p0 ++ (p1 ++ (p2 ++ (p3 ++ (p4 ++ (p5 ++ []))))) ≡ xs
joined p0 p1 p2 p3 p4 p5 xs len e0 e1 e2 e3 e4 e5 =
    let none : [] ≡ drop 48 xs = sym (drop_all 48 xs (omega (arith, len))) in
    next 0 p0 _ xs e0 (next 8 p1 _ xs e1 (next 16 p2 _ xs e2 (next 24 p3 _ xs e3 (next 32 p4 _ xs e4 (next 40 p5 [] xs e5 none)))))

-- six parts, each put behind all before it
pub put_behind : (b0 b1 b2 b3 b4 b5 b6 p0 p1 p2 p3 p4 p5 : List ℕ)
    → b1 ≡ b0 ++ p0 → b2 ≡ b1 ++ p1 → b3 ≡ b2 ++ p2 → b4 ≡ b3 ++ p3 → b5 ≡ b4 ++ p4 → b6 ≡ b5 ++ p5
    → b6 ≡ b0 ++ (p0 ++ (p1 ++ (p2 ++ (p3 ++ (p4 ++ (p5 ++ []))))))
put_behind b0 b1 b2 b3 b4 b5 b6 p0 p1 p2 p3 p4 p5 e1 e2 e3 e4 e5 e6 =
    rw (e6, e5, e4, e3, e2, e1) (simp (append_assoc, append-nil) refl)
