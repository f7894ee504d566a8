-- What it is to read one kind of syntax element: it has values, and each value has its bits.
use Rattle.std.specs.Prelude.{◌≡◌, ◌≢◌, Bool, List, ◌++◌, Option, Some, None}

-- No value's bits begin these.
abbrev pub BeginsNone : {V : Type 0} → (V → Type 0) → (V → List Bool) → List Bool → Type 0
BeginsNone {V} IsValue code bits = (v : V) (rest : List Bool) → IsValue v → bits ≢ code v ++ rest

-- What a read answers and leaves, from what was left before: Some v where the bits of v begin it, and they alone are
-- consumed; None where no value's bits do, and nothing is consumed.
abbrev pub Reads : {V : Type 0} → (V → Type 0) → (V → List Bool) → List Bool → Option V → List Bool → Type 0
Reads IsValue code old (Some v) new = IsValue v × (old ≡ code v ++ new)
Reads IsValue code old None new = (new ≡ old) × BeginsNone IsValue code old

-- No value's bits begin another's, so what a read gives is determined.
abbrev pub IsPrefixFree : {V : Type 0} → (V → Type 0) → (V → List Bool) → Type 0
IsPrefixFree {V} IsValue code =
    (v w : V) (after_v after_w : List Bool) → IsValue v → IsValue w → code v ++ after_v ≡ code w ++ after_w → (v ≡ w) × (after_v ≡ after_w)
