-- Rows of samples from a part of a slice.
use Rattle.std.proofs.Common.{◌≡◌, ℕ, ◌+◌, ◌*◌, ◌<◌, ◌≤◌, List, length, take, drop, get_or, sym, ap, ◌∙◌, arith}
use borrow.Rule.Slice.PartMut.{put_mid}
use Rattle.std.proofs.lemmas.List.{get_or-drop, get_or-take, places}
use Rattle.inter_pred.specs.Luma.{half}
use Rattle.inter_pred.specs.Rows.{centre, centre_in, half_in, raised, raised_in}

pub six : (f : ℕ → ℕ → ℕ → ℕ → ℕ → ℕ → ℕ) (a b c d e g a' b' c' d' e' g' : ℕ) → a ≡ a' → b ≡ b' → c ≡ c' → d ≡ d' → e ≡ e' → g ≡ g' → f a b c d e g ≡ f a' b' c' d' e' g'
six f a b c d e g a' b' c' d' e' g' p q r s t u = cc

-- an element of the n from a place on
pub at_part : (xs : List ℕ) (n place k m : ℕ) → k < n → m ≡ place + k → get_or (take n (drop place xs)) k 0 ≡ get_or xs m 0
at_part xs n place k m within is = get_or-take n (drop place xs) k 0 within ∙ (get_or-drop place xs k 0 ∙ ap (λ i. get_or xs i 0) (sym is))

pub half_in-part : (xs : List ℕ) (n place step k : ℕ) → k + 5 * step < n → half_in (take n (drop place xs)) step k ≡ half_in xs step (place + k)
half_in-part xs n place step k within = six half _ _ _ _ _ _ _ _ _ _ _ _ (at_part xs n place (k) (place + k) (omega arith) (omega arith)) (at_part xs n place (k + step) (place + k + step) (omega arith) (omega arith)) (at_part xs n place (k + 2 * step) (place + k + 2 * step) (omega arith) (omega arith)) (at_part xs n place (k + 3 * step) (place + k + 3 * step) (omega arith) (omega arith)) (at_part xs n place (k + 4 * step) (place + k + 4 * step) (omega arith) (omega arith)) (at_part xs n place (k + 5 * step) (place + k + 5 * step) (omega arith) (omega arith))

pub raised_in-part : (xs : List ℕ) (n place k : ℕ) → k + 5 < n → raised_in (take n (drop place xs)) 1 k ≡ raised_in xs 1 (place + k)
raised_in-part xs n place k within = six raised _ _ _ _ _ _ _ _ _ _ _ _ (at_part xs n place (k) (place + k) (omega arith) (omega arith)) (at_part xs n place (k + 1) (place + k + 1) (omega arith) (omega arith)) (at_part xs n place (k + 2) (place + k + 2) (omega arith) (omega arith)) (at_part xs n place (k + 3) (place + k + 3) (omega arith) (omega arith)) (at_part xs n place (k + 4) (place + k + 4) (omega arith) (omega arith)) (at_part xs n place (k + 5) (place + k + 5) (omega arith) (omega arith))

pub centre_in-part : (xs : List ℕ) (n place step k : ℕ) → k + 5 * step < n → centre_in (take n (drop place xs)) step k ≡ centre_in xs step (place + k)
centre_in-part xs n place step k within = six centre _ _ _ _ _ _ _ _ _ _ _ _ (at_part xs n place (k) (place + k) (omega arith) (omega arith)) (at_part xs n place (k + step) (place + k + step) (omega arith) (omega arith)) (at_part xs n place (k + 2 * step) (place + k + 2 * step) (omega arith) (omega arith)) (at_part xs n place (k + 3 * step) (place + k + 3 * step) (omega arith) (omega arith)) (at_part xs n place (k + 4 * step) (place + k + 4 * step) (omega arith) (omega arith)) (at_part xs n place (k + 5 * step) (place + k + 5 * step) (omega arith) (omega arith))

-- an element behind the part of a list that was replaced
pub after_part : (place n i : ℕ) (xs ys : List ℕ) → place + n ≤ length xs → length ys ≡ n → place + n ≤ i → get_or (put_mid place n xs ys) i 0 ≡ get_or xs i 0
after_part place n i xs ys within count le = grind (arith, places)
