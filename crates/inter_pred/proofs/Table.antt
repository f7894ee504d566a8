-- Parts of samples at quarter places.
use Rattle.std.proofs.Common.{◌≡◌, ℕ, ap, sym, ◌∙◌, arith}
use Rattle.inter_pred.specs.declared.parts.Parts.{Parts}
use Rattle.inter_pred.specs.Luma.{Near, mean, quarter}
use Rattle.inter_pred.specs.Parts.{mean_of}

-- a mean doesn't look at the order
pub mean-swap : (u v : ℕ) → mean u v ≡ mean v u
unfolding mean
mean-swap u v = omega arith

-- what the parts at a place are, as they are found
pub found : (p : Parts) (k l : ℕ) → ((n : Near) → mean_of p n ≡ quarter n k l) → (r : Parts) (x y : ℕ) → r ≡ p → x ≡ k → y ≡ l → (n : Near) → mean_of r n ≡ quarter n x y
found p k l so r x y is across down n = ap (λ q. mean_of q n) is ∙ (so n ∙ (ap (λ z. quarter n z l) (sym across) ∙ ap (λ z. quarter n x z) (sym down)))
