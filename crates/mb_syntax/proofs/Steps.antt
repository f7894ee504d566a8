-- Reading a value element by element. A value's bits are those of its first element and a tail; what was read so far and what
-- was left behind it determine the tail.
use Rattle.std.proofs.Common.{◌≡◌, Bool, List, ◌++◌, sym, ap, ◌∙◌, subst, append_assoc}
use Rattle.bit_io.specs.Reads.{BeginsNone, IsPrefixFree}

-- A first element: a value whose bits begin with those of an element of this kind.
pub record Starts {A : Type 0} (IsA : A → Type 0) (code : A → List Bool) (whole : List Bool) : Type 0 where
  pub first : A
  pub tail : List Bool
  pub is : IsA first
  pub parts : whole ≡ code first ++ tail

-- No element of its first kind begins the bits: so no value does.
pub none_starts : {A V : Type 0} (IsA : A → Type 0) (code : A → List Bool) (IsV : V → Type 0) (bits_of_v : V → List Bool) (bits : List Bool)
    → BeginsNone IsA code bits → ((v : V) → IsV v → Starts IsA code (bits_of_v v)) → BeginsNone IsV bits_of_v bits
none_starts IsA code IsV bits_of_v bits none starts = λ v rest is e.
    let s = starts v is in
    none s.first (s.tail ++ rest) s.is (e ∙ ap (λ (x : List Bool). x ++ rest) s.parts ∙ append_assoc (code s.first) s.tail rest)

-- The first element was read: a value whose bits begin the same bits has it, and its tail begins what is left.
pub behind : {A : Type 0} (IsA : A → Type 0) (code : A → List Bool) → IsPrefixFree IsA code → (old mid : List Bool) (a : A) → IsA a → old ≡ code a ++ mid
    → (b : A) (tail rest : List Bool) → IsA b → old ≡ (code b ++ tail) ++ rest → (b ≡ a) × (mid ≡ tail ++ rest)
behind IsA code free old mid a is_a e b tail rest is_b f =
    let same = free a b mid (tail ++ rest) is_a is_b (sym e ∙ f ∙ append_assoc (code b) tail rest) in
    (sym same.0, same.1)

-- two elements after one another
pub joined : (old mid new first second : List Bool) → old ≡ first ++ mid → mid ≡ second ++ new → old ≡ (first ++ second) ++ new
joined old mid new first second e f = e ∙ ap (λ (x : List Bool). first ++ x) f ∙ sym (append_assoc first second new)

-- Fewer values have codewords that begin the bits.
pub none_of_fewer : {V : Type 0} (IsV IsW : V → Type 0) (code : V → List Bool) (bits : List Bool) → ((v : V) → IsV v → IsW v) → BeginsNone IsW code bits → BeginsNone IsV code bits
none_of_fewer IsV IsW code bits fewer none = λ v rest is e. none v rest (fewer v is) e

-- A codeword begins the bits whose value isn't one of these: so none of these begins them.
pub none_behind : {V : Type 0} (IsV IsW : V → Type 0) (code : V → List Bool) → IsPrefixFree IsW code → (bits mid : List Bool) (a : V) → IsW a → bits ≡ code a ++ mid
    → ((v : V) → IsV v → IsW v) → (IsV a → ⊥) → BeginsNone IsV code bits
none_behind {V} IsV IsW code free bits mid a is_a e fewer other = λ v rest is f.
    let same = free a v mid rest is_a (fewer v is) (sym e ∙ f) in
    other (subst (λ (x : V). IsV x) (sym same.0) is)
