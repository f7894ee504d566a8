use Rattle.std.proofs.Common.{ℕ, ◌≡◌, ◌-◌, ◌++◌, ap, sym, ◌∙◌, refl, arith, drop}
use Rattle.bit_io.proofs.LawLemmas.{te_one_at, te_more, ue_prefix_free}
use Rattle.bit_io.proofs.ReadLemmas.{BeginsNone-along}
use Rattle.bit_io.specs.Bits.{u}
use Rattle.bit_io.specs.Codewords.{IsU, IsUe, ue, IsTe, te}
use Rattle.bit_io.proofs.reader.BitReader.read_te.Goals as goal

pub returns-in_err-reverse : goal.returns-in_err-reverse
returns-in_err-reverse c =
    let read = c.in_err-reverse.ensures.reads in
    let greatest = c.args.greatest in
    let is : greatest ≡ 1 = c.if-greatest-eq1.true in
    record {
      reads = rw c.from_residual.ensures (
        read.0,
        BeginsNone-along (IsU 1) (λ v. u v 1) (IsTe greatest) (λ v. te v greatest) (λ v. 1 - v) (λ v h. (omega arith, te_one_at v greatest is h.0)) c.args.self.now read.1,
      );
    }

pub returns-then-greatest-eq1 : goal.returns-then-greatest-eq1
returns-then-greatest-eq1 c =
    let read = c.in_ok-reverse.ensures.reads in
    let reverse = c.in_ok-reverse.reverse in
    let is : c.args.greatest ≡ 1 = c.if-greatest-eq1.true in
    let back : 1 - (1 - reverse) ≡ reverse = omega (arith, read.0) in
    let word : te (1 - reverse) c.args.greatest ≡ u reverse 1 = te_one_at (1 - reverse) c.args.greatest is (omega arith) ∙ ap (λ (x : ℕ). u x 1) back in
    record { reads = ((omega arith, omega arith), read.1 ∙ ap (λ x. x ++ c.read_u.new.self) (sym word)) }

pub returns-in_err-code : goal.returns-in_err-code
returns-in_err-code c =
    let greatest = c.args.greatest in
    record {
      reads = rw c.from_residual-in_err-code.ensures
          (refl, BeginsNone-along IsUe ue (IsTe greatest) (λ v. te v greatest) (λ v. v) (λ v h. (h.1, te_more v greatest c.if-greatest-eq1.false)) c.args.self.now c.in_err-code.ensures);
    }

pub returns-then-code-greatest : goal.returns-then-code-greatest
returns-then-code-greatest c =
    let code = c.in_ok-code.code in
    let found = c.in_ok-code.ensures in
    record {
      reads = (
        refl,
        λ v rest h e.
            let word = sym found.1 ∙ e ∙ ap (λ x. x ++ rest) (te_more v c.args.greatest c.if-greatest-eq1.false) in
            let same = ue_prefix_free code.value v (drop code.length c.args.self.now) rest found.0 h.1 word in
            omega (arith, same.0, h.0),
      );
    }

pub returns : goal.returns
returns c =
    let code = c.in_ok-code.code in
    let found = c.in_ok-code.ensures in
    let word = ap (λ x. x ++ drop code.length c.args.self.now) (sym (te_more code.value c.args.greatest c.if-greatest-eq1.false)) in
    record { reads = ((omega arith, found.0), rw c.skip.ensures (found.1 ∙ word)) }
