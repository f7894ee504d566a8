-- Values whose bits are those of two parts, one behind the other; how the second is spelled may depend on the first.
use Rattle.std.proofs.Common.{◌≡◌, Bool, List, ◌++◌, sym, ap, ap₂, ◌∙◌, subst, append_assoc}
use Rattle.bit_io.specs.Reads.{BeginsNone, IsPrefixFree}

module _ {A B : Type 0} (IsA : A → Type 0) (code_a : A → List Bool) (IsB : A → B → Type 0) (code_b : A → B → List Bool) where
  abbrev pub AreBoth : A × B → Type 0
  AreBoth p = IsA p.0 × IsB p.0 p.1

  abbrev pub both_bits : A × B → List Bool
  both_bits p = code_a p.0 ++ code_b p.0 p.1

  pub none_first : (bits : List Bool) → BeginsNone IsA code_a bits → BeginsNone AreBoth both_bits bits
  none_first bits none = λ p rest is e. none p.0 (code_b p.0 p.1 ++ rest) is.0 (e ∙ append_assoc (code_a p.0) (code_b p.0 p.1) rest)

  pub none_second : IsPrefixFree IsA code_a → (a : A) (old mid : List Bool) → IsA a → old ≡ code_a a ++ mid → BeginsNone (IsB a) (code_b a) mid → BeginsNone AreBoth both_bits old
  none_second free a old mid is e none = λ p rest h f.
      let same = free p.0 a (code_b p.0 p.1 ++ rest) mid h.0 is (sym (append_assoc (code_a p.0) (code_b p.0 p.1) rest) ∙ sym f ∙ e) in
      none p.1 rest (subst (λ (x : A). IsB x p.1) same.0 h.1) (sym same.1 ∙ ap (λ (x : A). code_b x p.1 ++ rest) same.0)

  pub both_free : IsPrefixFree IsA code_a → ((a : A) → IsA a → IsPrefixFree (IsB a) (code_b a)) → IsPrefixFree AreBoth both_bits
  both_free free_a free_b p q after_p after_q h k e =
      let first = free_a p.0 q.0 (code_b p.0 p.1 ++ after_p) (code_b q.0 q.1 ++ after_q) h.0 k.0
      (sym (append_assoc (code_a p.0) (code_b p.0 p.1) after_p) ∙ e ∙ append_assoc (code_a q.0) (code_b q.0 q.1) after_q) in
      let back : q.0 ≡ p.0 = sym first.0 in
      let second = free_b p.0 h.0 p.1 q.1 after_p after_q h.1 (subst (λ (x : A). IsB x q.1) back k.1) (first.1 ∙ ap (λ (x : A). code_b x q.1 ++ after_q) back) in
      (ap₂ (λ (x : A) (y : B). (x, y)) first.0 second.0, second.1)

-- A value is made of parts, which have its bits.
pub record Made {V T : Type 0} (IsT : T → Type 0) (code : T → List Bool) (make : T → V) (value : V) (bits : List Bool) : Type 0 where
  pub parts : T
  pub are : IsT parts
  pub same : value ≡ make parts
  pub spelled : bits ≡ code parts

module _ {V T : Type 0} (IsV : V → Type 0) (code_v : V → List Bool) (IsT : T → Type 0) (code_t : T → List Bool) (make : T → V)
    (split : (v : V) → IsV v → Made IsT code_t make v (code_v v)) where
  pub none_made : (bits : List Bool) → BeginsNone IsT code_t bits → BeginsNone IsV code_v bits
  none_made bits none = λ v rest is e.
      let m = split v is in
      none m.parts rest m.are (e ∙ ap (λ (x : List Bool). x ++ rest) m.spelled)

  pub made_free : IsPrefixFree IsT code_t → IsPrefixFree IsV code_v
  made_free free v w after_v after_w h k e =
      let m = split v h in
      let n = split w k in
      let both = free m.parts n.parts after_v after_w m.are n.are (ap (λ (x : List Bool). x ++ after_v) (sym m.spelled) ∙ e ∙ ap (λ (x : List Bool). x ++ after_w) n.spelled) in
      (m.same ∙ ap make both.0 ∙ sym n.same, both.1)
