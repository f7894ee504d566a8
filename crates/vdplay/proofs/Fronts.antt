-- Fronts of lists that grow.
use Rattle.std.proofs.Common.{◌≡◌, ◌+◌, ◌-◌, ◌≤◌, ◌++◌, ℕ, List, length, take, drop, arith, ap, sym, subst, ◌∙◌, length-drop, take-add}
use Rattle.std.proofs.Common.{append_assoc}
use Rattle.std.proofs.Math.Seq.{take-append-add, take-append_seam, take-length}
use borrow.Rule.Slice.PartMut.{put_mid, same_len_mid}
use Rattle.std.specs.Prelude.{IfSome, None, Some}
use Rattle.std.specs.declared.option.Option.{Option}
use Rattle.vd_outside.specs.Shelf.{Fills}
use Rattle.std.specs.Io.KnownBytes.{Appends}
use Rattle.std.proofs.KnownBytes.{Appends-trans}
use Rattle.std.proofs.lemmas.List.{length-take-le}

-- the bytes of a front, and then n more of the bytes behind it
pub appends_more : (a b c : Option (List ℕ)) (bytes rest : List ℕ) (done n : ℕ) → rest ≡ drop done bytes → n ≤ length rest → done ≤ length bytes → Appends a b (take done bytes) → Appends b c (take n rest) → (done + n ≤ length bytes) × Appends a c (take (done + n) bytes)
appends_more a b c bytes rest done n is within fits first second =
    let room : length rest ≡ length bytes - done = ap length is ∙ length-drop done bytes in
    (omega arith, subst (Appends a c) (ap (λ xs. take done bytes ++ take n xs) is ∙ sym (take-add done n bytes)) (Appends-trans a b c (take done bytes) (take n rest) first second))

-- what stands from a place on, as a slice has it
pub rest_from : (n : ℕ) (xs : List ℕ) → take (length xs - n) (drop n xs) ≡ drop n xs
rest_from n xs = ap (λ k. take k (drop n xs)) (sym (length-drop n xs)) ∙ take-length (drop n xs)

-- a front that grows by what a read gave
abbrev pub HasFront : Option (List ℕ) → ℕ → List ℕ → Type 0
HasFront known n buf = IfSome known (λ file. (n ≤ length file) × (take n buf ≡ take n file))

given_front : (given rest post : List ℕ) (n : ℕ) → length given ≡ n → take n ((given ++ rest) ++ post) ≡ given
given_front given rest post n is = ap (take n) (append_assoc given rest post) ∙ ap (λ k. take k (given ++ (rest ++ post))) (sym is) ∙ take-append_seam given (rest ++ post)

front_grows : (file buf mid sub post : List ℕ) (filled n : ℕ) → filled ≤ length buf → take filled buf ≡ take filled file → Fills file filled n mid sub → take (filled + n) (take filled buf ++ (sub ++ post)) ≡ take (filled + n) file
front_grows file buf mid sub post filled n room same fills =
    let size : length (take filled buf) ≡ filled = length-take-le filled buf room in
    let count : length (take n (drop filled file)) ≡ n = length-take-le n (drop filled file) fills.within in
    ap (λ k. take (k + n) (take filled buf ++ (sub ++ post))) (sym size)
    ∙ take-append-add (take filled buf) (sub ++ post) n
    ∙ ap (λ xs. take filled buf ++ take n (xs ++ post)) fills.given
    ∙ ap (λ xs. take filled buf ++ xs) (given_front (take n (drop filled file)) (drop n mid) post n count)
    ∙ ap (λ xs. xs ++ take n (drop filled file)) same
    ∙ sym (take-add filled n file)

within_more : (file : List ℕ) (filled n : ℕ) → filled ≤ length file → n ≤ length (drop filled file) → filled + n ≤ length file
within_more file filled n within fits = let room : length (drop filled file) ≡ length file - filled = length-drop filled file in omega arith

front_more_of : (known : Option (List ℕ)) (buf mid sub post : List ℕ) (filled n : ℕ) → filled ≤ length buf → HasFront known filled buf → IfSome known (λ file. Fills file filled n mid sub) → HasFront known (filled + n) (take filled buf ++ (sub ++ post))
front_more_of None buf mid sub post filled n room before read = tt
front_more_of (Some file) buf mid sub post filled n room before read = (within_more file filled n before.0 read.within, front_grows file buf mid sub post filled n room before.1 read)

-- what a read at the front's end gave makes the front longer
pub front_more : (known now : Option (List ℕ)) (buf mid sub post : List ℕ) (filled n : ℕ) → now ≡ known → filled ≤ length buf → HasFront known filled buf → IfSome now (λ file. Fills file filled n mid sub) → HasFront known (filled + n) (take filled buf ++ (sub ++ post))
front_more known now buf mid sub post filled n same room before read = front_more_of known buf mid sub post filled n room before (subst (λ k. IfSome k (λ file. Fills file filled n mid sub)) same read)

-- a part of a buffer, written, leaves the buffer as long
pub fits_mid : (filled : ℕ) (buf sub : List ℕ) (n : ℕ) → filled ≤ length buf → length sub ≡ length (take (length buf - filled) (drop filled buf)) → n ≤ length (take (length buf - filled) (drop filled buf)) → filled + n ≤ length (put_mid filled (length buf - filled) buf sub)
fits_mid filled buf sub n within same fits =
    let long : length (put_mid filled (length buf - filled) buf sub) ≡ length buf = same_len_mid filled (length buf - filled) buf sub same in
    let mid : length (take (length buf - filled) (drop filled buf)) ≡ length buf - filled = ap length (rest_from filled buf) ∙ length-drop filled buf in
    omega arith
