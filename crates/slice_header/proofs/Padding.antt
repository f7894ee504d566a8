-- Arrays whose first places are filled.
use Rattle.std.proofs.Common.{◌≡◌, ℕ, ◌+◌, ◌-◌, ◌<◌, ◌≤◌, List, ◌++◌, length, take, drop, replicate, set, sym, ap, ◌∙◌, arith}
use Rattle.std.proofs.lemmas.List.{drop-drop, drop-replicate, drop-set-lt, length-set, length-take-le, take-append-drop}
use Rattle.slice_header.specs.Lists.{padded}

pub record Filled {A : Type 0} (places : ℕ) (filler : A) (count : ℕ) (xs : List A) : Type 0 where
  pub most : count ≤ places
  pub long : length xs ≡ places
  pub others : drop count xs ≡ replicate (places - count) filler

pub filled_first : {A : Type 0} (places : ℕ) (filler : A) (xs : List A) → length xs ≡ places → xs ≡ replicate places filler → Filled places filler 0 xs
filled_first places filler xs long e = record {
  most = omega arith;
  long = long;
  others = ap (drop 0) e ∙ drop-replicate 0 places filler;
}

pub filled_more : {A : Type 0} (places : ℕ) (filler : A) (i : ℕ) (xs : List A) (x : A) → i < places → Filled places filler i xs → Filled places filler (i + 1) (set xs i x)
filled_more places filler i xs x lt f =
    let above : i < i + 1 = omega arith in
    let count : places - i - 1 ≡ places - (i + 1) = omega arith in
    record {
      most = omega (arith, lt);
      long = length-set xs i x ∙ f.long;
      others = drop-set-lt (i + 1) xs i x above ∙ sym (drop-drop 1 i xs) ∙ ap (drop 1) f.others ∙ drop-replicate 1 (places - i) filler ∙ ap (λ n. replicate n filler) count;
    }

pub filled_length : {A : Type 0} (places : ℕ) (filler : A) (count : ℕ) (xs : List A) → Filled places filler count xs → length (take count xs) ≡ count
filled_length places filler count xs f = length-take-le count xs (omega (arith, f.most, f.long))

pub filled_whole : {A : Type 0} (places : ℕ) (filler : A) (count : ℕ) (xs : List A) → Filled places filler count xs → padded places filler (take count xs) ≡ xs
filled_whole places filler count xs f =
    ap (λ n. take count xs ++ replicate (places - n) filler) (filled_length places filler count xs f)
    ∙ ap (λ ys. take count xs ++ ys) (sym f.others) ∙ take-append-drop count xs
