use Rattle.std.proofs.Common.{◌≡◌, ◌<◌, ◌≤◌, ℕ, List, ◌++◌, length, take, drop, Option, Some, None, Result, Ok, Err, sym, ap, ◌∙◌, arith, append_assoc}
use Rattle.std.specs.Prelude.{IfSome, IfOk}
use Rattle.std.proofs.lemmas.List.{drop-append-le, length-take-le, take-append-drop}
use Rattle.vd_outside.specs.Shelf.{Fills}
use Rattle.vd_outside.specs.declared.shelf.Failed.{Failed}
use Rattle.vdplay.proofs.tests.ShortShelfShelf.read_at.Goals as goal

-- What fills a front of a buffer fills the buffer.
fills : (file : List ℕ) (at n room : ℕ) (old new : List ℕ) → room ≤ length old → (0 < length old → 0 < room) → n ≤ length (take room old) → Fills file at n (take room old) new → Fills file at n old (new ++ drop room old)
fills file at n room old new within some count front =
    let rest : drop n (take room old) ++ drop room old ≡ drop n old =
    sym (drop-append-le n (take room old) (drop room old) count) ∙ ap (drop n) (take-append-drop room old) in
    record {
      given = ap (λ xs. xs ++ drop room old) front.given ∙ append_assoc (take n (drop at file)) (drop n (take room old)) (drop room old) ∙ ap (λ xs. take n (drop at file) ++ xs) rest;
      within = front.within;
      end = λ none long. front.end none (omega (arith, some long, length-take-le room old within));
    }

filled : (result : Result ℕ Failed) (known : Option (List ℕ)) (at room : ℕ) (old new : List ℕ) → room ≤ length old → (0 < length old → 0 < room) → IfOk result (λ n. n ≤ length (take room old))
    → IfOk result (λ n. IfSome known (λ file. Fills file at n (take room old) new)) → IfOk result (λ n. IfSome known (λ file. Fills file at n old (new ++ drop room old)))
filled (Err fault) known at room old new within some count front = front
filled (Ok n) None at room old new within some count front = front
filled (Ok n) (Some file) at room old new within some count front = fills file at n room old new within some count front

pub returns-clause-bytes : goal.returns-clause-bytes
returns-clause-bytes c =
    let five = c.min-room.ensures in
    filled c.read_at.result _ c.args.at c.min-room.result c.args.buf.now c.read_at.new.buf (omega (arith, five)) (λ some. omega (arith, five, some)) c.read_at.ensures.count c.read_at.ensures.bytes
