-- The offsets.
use Rattle.std.proofs.Common.{◌≡◌, ℕ, suc, ◌+◌, ◌-◌, ◌<◌, ℤ, pos, Bool, List, [], ◌∷◌, ◌++◌, length, take, drop, replicate, set, Ok, Err, refl, sym, ap, subst, ◌∙◌, append_assoc, arith}
use Rattle.std.proofs.lemmas.List.{append-nil, drop-drop, drop-replicate, drop-set-lt, length-drop, length-replicate, length-take, take-append-drop, take_all}
use Rattle.element_tables.specs.declared.elements.Stop.{Stop}
use Rattle.param_sets.specs.Sps.{offsets}
use Rattle.element_tables.specs.Syntax.{Appends, Gives, Takes, Stops, Syntax, any, se, times}
use Rattle.element_tables.proofs.Repeats.{spells_more, stops_behind}
use Rattle.element_tables.proofs.Tables.{appends_made, appends_then, gives_made, gives_then, gives_stop}

-- ---- reading

abbrev offset : Syntax ℤ
offset = se any

pub takes_more : (i : ℕ) (old mid new : List Bool) (xs : List ℤ) (x : ℤ) → Takes (times i offset) old xs mid → Gives offset mid (Ok x) new → Takes (times (i + 1) offset) old (xs ++ x ∷ []) new
takes_more i old mid new xs x f g =
    let count : suc i ≡ i + 1 = omega arith in
    subst (λ (n : ℕ). Takes (times n offset) old (xs ++ x ∷ []) new) count (record {
      front = f.front ++ g.answer.front;
      spelled = spells_more offset i f.front g.answer.front xs x f.spelled g.answer.spelled;
      parts = f.parts ∙ ap (λ (z : List Bool). f.front ++ z) g.answer.parts ∙ sym (append_assoc f.front g.answer.front new);
    })

pub takes_none : (old : List Bool) → Takes (times 0 offset) old [] old
unfolding times
takes_none old = record { front = []; spelled = (refl, refl); parts = refl }

pub offsets_stop : (count i : ℕ) (old mid new : List Bool) (xs : List ℤ) (stop : Stop) → i < count → Takes (times i offset) old xs mid → Gives offset mid (Err stop) new → Gives (offsets count) old (Err stop) new
unfolding offsets
offsets_stop count i old mid new xs stop lt f g =
    let m = count - suc i in
    let n : i + suc m ≡ count = omega arith in
    let inner : Stops (times count offset) (f.front ++ mid) stop = subst (λ (z : ℕ). Stops (times z offset) (f.front ++ mid) stop) n (stops_behind offset i m f.front mid xs stop f.spelled g.answer) in
    let here : Gives (times count offset) old (Err stop) new = record { answer = subst (λ (z : List Bool). Stops (times count offset) z stop) (sym f.parts) inner } in
    gives_stop _ here

pub offsets_given : (count : ℕ) (old new : List Bool) (xs : List ℤ) → drop count xs ≡ replicate (255 - count) (pos 0) → Takes (times count offset) old (take count xs) new → Gives (offsets count) old (Ok xs) new
unfolding offsets
offsets_given count old new xs zeros f =
    let here : Gives (times count offset) old (Ok (take count xs)) new = record { answer = f } in
    let whole : take count xs ++ replicate (255 - count) (pos 0) ≡ xs = ap (λ (z : List ℤ). take count xs ++ z) (sym zeros) ∙ take-append-drop count xs in
    subst (λ (z : List ℤ). Gives (offsets count) old (Ok z) new) whole (gives_then _ here (gives_made _ _))

pub first_zeros : (count : ℕ) → drop 0 (replicate count (pos 0)) ≡ replicate (count - 0) (pos 0)
first_zeros count = drop-replicate 0 count (pos 0)

pub one_less : (xs : List ℤ) (i : ℕ) (x : ℤ) → drop i xs ≡ replicate (255 - i) (pos 0) → drop (i + 1) (set xs i x) ≡ replicate (255 - (i + 1)) (pos 0)
one_less xs i x e =
    let above : i < i + 1 = omega arith in
    let count : 255 - i - 1 ≡ 255 - (i + 1) = omega arith in
    drop-set-lt (i + 1) xs i x above ∙ sym (drop-drop 1 i xs) ∙ ap (drop 1) e ∙ drop-replicate 1 (255 - i) (pos 0) ∙ ap (λ (n : ℕ). replicate n (pos 0)) count

pub has_place : (xs : List ℤ) (i : ℕ) → i < 255 → drop i xs ≡ replicate (255 - i) (pos 0) → i < length xs
has_place xs i lt e = omega (arith, ap length e, length-drop i xs, length-replicate (255 - i) (pos 0))

-- ---- writing

pub appends_none : (old : List Bool) → Appends (times 0 offset) [] old old
unfolding times
appends_none old = record { added = []; spelled = (refl, refl); parts = sym (append-nil old) }

pub appends_more : (i : ℕ) (old mid new : List Bool) (xs : List ℤ) (x : ℤ) → Appends (times i offset) xs old mid → Appends offset x mid new → Appends (times (i + 1) offset) (xs ++ x ∷ []) old new
appends_more i old mid new xs x f g =
    let count : suc i ≡ i + 1 = omega arith in
    subst (λ (n : ℕ). Appends (times n offset) (xs ++ x ∷ []) old new) count (record {
      added = f.added ++ g.added;
      spelled = spells_more offset i f.added g.added xs x f.spelled g.spelled;
      parts = g.parts ∙ ap (λ (z : List Bool). z ++ g.added) f.parts ∙ append_assoc old f.added g.added;
    })

pub offsets_appended : (count : ℕ) (old new : List Bool) (xs : List ℤ) → drop count xs ≡ replicate (255 - count) (pos 0) → Appends (times count offset) (take count xs) old new → Appends (offsets count) xs old new
unfolding offsets
offsets_appended count old new xs zeros f =
    let whole : take count xs ++ replicate (255 - count) (pos 0) ≡ xs = ap (λ (z : List ℤ). take count xs ++ z) (sym zeros) ∙ take-append-drop count xs in
    subst (λ (z : List ℤ). Appends (offsets count) z old new) whole (appends_then _ f (appends_made _ _))

pub take_take : (n : ℕ) (xs : List ℤ) → take n (take n xs) ≡ take n xs
take_take n xs = take_all n (take n xs) (omega (arith, length-take n xs))
