-- What reading one kind of syntax element says, for those who read several or read one by another.
use Rattle.std.proofs.Common.{◌≡◌, ◌++◌, Bool, List, sym, ap, ◌∙◌, Some, append_assoc}
use Rattle.bit_io.specs.Reads.{BeginsNone, IsPrefixFree, Reads}

-- where each value w is spelled as the value f w of another kind
pub BeginsNone-along : {V W : Type 0} (IsV : V → Type 0) (code_v : V → List Bool) (IsW : W → Type 0) (code_w : W → List Bool) (f : W → V)
    → ((w : W) → IsW w → IsV (f w) × (code_w w ≡ code_v (f w))) → (bits : List Bool) → BeginsNone IsV code_v bits → BeginsNone IsW code_w bits
BeginsNone-along IsV code_v IsW code_w f same bits none w rest h e =
    none (f w) rest (same w h).0 (e ∙ ap (λ (x : List Bool). x ++ rest) (same w h).1)

-- A value that begins what was left is the one that was read, and what follows it is what is left.
pub Reads-same : {V : Type 0} (IsV : V → Type 0) (code : V → List Bool) → IsPrefixFree IsV code → (old new rest : List Bool) (v w : V)
    → Reads IsV code old (Some v) new → IsV w → old ≡ code w ++ rest → (v ≡ w) × (new ≡ rest)
Reads-same IsV code free old new rest v w read h e = free v w new rest read.0 h (sym read.1 ∙ e)

-- Where nothing begins the bits that could be the first part of p, no p begins them.
pub BeginsNone-front : {A P : Type 0} (IsA : A → Type 0) (a : A → List Bool) (IsP : P → Type 0) (code : P → List Bool) (first : P → A) (tail : P → List Bool)
    → ((p : P) → IsP p → IsA (first p) × (code p ≡ a (first p) ++ tail p)) → (bits : List Bool) → BeginsNone IsA a bits → BeginsNone IsP code bits
BeginsNone-front IsA a IsP code first tail parts bits none p rest h e =
    none (first p) (tail p ++ rest) (parts p h).0 (e ∙ ap (λ (x : List Bool). x ++ rest) (parts p h).1 ∙ append_assoc (a (first p)) (tail p) rest)

-- The first part has been read as x: where nothing begins what is left that could follow x, no p begins the whole.
pub BeginsNone-behind : {A B P : Type 0} (IsA : A → Type 0) (a : A → List Bool) (IsB : B → Type 0) (b : B → List Bool) (IsP : P → Type 0) (code : P → List Bool)
    (first : P → A) (second : P → B) (tail : P → List Bool) (x : A) → IsPrefixFree IsA a
    → ((p : P) → IsP p → IsA (first p) × (code p ≡ a (first p) ++ tail p))
    → ((p : P) → IsP p → first p ≡ x → IsB (second p) × (tail p ≡ b (second p)))
    → (old mid : List Bool) → IsA x → old ≡ a x ++ mid → BeginsNone IsB b mid → BeginsNone IsP code old
BeginsNone-behind IsA a IsB b IsP code first second tail x free parts follows old mid is read none p rest h e =
    let same = free x (first p) mid (tail p ++ rest) is (parts p h).0 (sym read ∙ e ∙ ap (λ (y : List Bool). y ++ rest) (parts p h).1 ∙ append_assoc (a (first p)) (tail p) rest) in
    let next = follows p h (sym same.0) in
    none (second p) rest next.0 (same.1 ∙ ap (λ (y : List Bool). y ++ rest) next.1)
