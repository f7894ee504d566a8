-- A table so many times.
use Rattle.std.proofs.Common.{◌≡◌, ℕ, zero, suc, ◌+◌, Bool, List, [], ◌∷◌, ◌++◌, refl, sym, ap, subst, ◌∙◌, append_assoc, arith}
use Rattle.std.proofs.lemmas.List.{append-nil}
use Rattle.element_tables.specs.declared.elements.Stop.{Stop}
use Rattle.element_tables.specs.Syntax.{Made, Spells, Stops, Syntax, times, ◌>>=◌}
use Rattle.element_tables.proofs.Tables.{spells_parts, spells_then, stops_first, stops_later}

-- one more behind
pub spells_more : {A : Type 0} (t : Syntax A) (i : ℕ) (front ys : List Bool) (xs : List A) (x : A) → Spells (times i t) front xs → Spells t ys x → Spells (times (suc i) t) (front ++ ys) (xs ++ x ∷ [])
unfolding times ◌>>=◌
spells_more {A} t zero front ys xs x (none, same) h =
    let one : Spells (times 1 t) (ys ++ []) (x ∷ []) = spells_then t (λ first. times 0 t >>= λ others. Made (first ∷ others)) ys [] x (x ∷ []) h (refl, refl) in
    let here : Spells (times 1 t) ys (x ∷ []) = subst (λ (z : List Bool). Spells (times 1 t) z (x ∷ [])) (append-nil ys) one in
    let values = subst (λ (z : List A). Spells (times 1 t) ys (z ++ x ∷ [])) same here in
    subst (λ (z : List Bool). Spells (times 1 t) (z ++ ys) (xs ++ x ∷ [])) (sym none) values
spells_more {A} t (suc i) front ys xs x f h =
    let p = spells_parts t (λ first. times i t >>= λ others. Made (first ∷ others)) front xs f in
    let q = spells_parts (times i t) (λ others. Made (p.0 ∷ others)) p.2 xs p.4 in
    let more = spells_more t i q.1 ys q.0 x q.3 h in
    let behind = spells_then (times (suc i) t) (λ others. Made (p.0 ∷ others)) (q.1 ++ ys) [] (q.0 ++ x ∷ []) (p.0 ∷ (q.0 ++ x ∷ [])) more (refl, refl) in
    let all = spells_then t (λ first. times (suc i) t >>= λ others. Made (first ∷ others)) p.1 ((q.1 ++ ys) ++ []) p.0 (p.0 ∷ (q.0 ++ x ∷ [])) p.3 behind in
    let tail : p.2 ≡ q.1 = q.5 ∙ ap (λ (z : List Bool). q.1 ++ z) q.4.0 ∙ append-nil q.1 in
    let bits : p.1 ++ ((q.1 ++ ys) ++ []) ≡ front ++ ys =
    ap (λ (z : List Bool). p.1 ++ z) (append-nil (q.1 ++ ys)) ∙ sym (append_assoc p.1 q.1 ys) ∙ ap (λ (z : List Bool). (p.1 ++ z) ++ ys) (sym tail) ∙ ap (λ (z : List Bool). z ++ ys) (sym p.5) in
    let values : p.0 ∷ (q.0 ++ x ∷ []) ≡ xs ++ x ∷ [] = ap (λ (z : List A). z ++ x ∷ []) q.4.1 in
    subst (λ (z : List A). Spells (times (suc (suc i)) t) (front ++ ys) z) values
    (subst (λ (z : List Bool). Spells (times (suc (suc i)) t) z (p.0 ∷ (q.0 ++ x ∷ []))) bits all)

-- it stops at the one behind so many
pub stops_behind : {A : Type 0} (t : Syntax A) (i m : ℕ) (front ys : List Bool) (xs : List A) (stop : Stop) → Spells (times i t) front xs → Stops t ys stop → Stops (times (i + suc m) t) (front ++ ys) stop
unfolding times ◌>>=◌
stops_behind {A} t zero m front ys xs stop (none, same) h =
    let first = stops_first t (λ first. times m t >>= λ others. Made (first ∷ others)) ys stop h in
    let count : suc m ≡ 0 + suc m = omega arith in
    subst (λ (n : ℕ). Stops (times n t) (front ++ ys) stop) count (subst (λ (z : List Bool). Stops (times (suc m) t) (z ++ ys) stop) (sym none) first)
stops_behind {A} t (suc i) m front ys xs stop f h =
    let p = spells_parts t (λ first. times i t >>= λ others. Made (first ∷ others)) front xs f in
    let q = spells_parts (times i t) (λ others. Made (p.0 ∷ others)) p.2 xs p.4 in
    let tail : p.2 ≡ q.1 = q.5 ∙ ap (λ (z : List Bool). q.1 ++ z) q.4.0 ∙ append-nil q.1 in
    let inner = stops_first (times (i + suc m) t) (λ others. Made (p.0 ∷ others)) (q.1 ++ ys) stop (stops_behind t i m q.1 ys q.0 stop q.3 h) in
    let all = stops_later t (λ first. times (i + suc m) t >>= λ others. Made (first ∷ others)) p.1 (q.1 ++ ys) p.0 stop p.3 inner in
    let bits : p.1 ++ (q.1 ++ ys) ≡ front ++ ys = sym (append_assoc p.1 q.1 ys) ∙ ap (λ (z : List Bool). (p.1 ++ z) ++ ys) (sym tail) ∙ ap (λ (z : List Bool). z ++ ys) (sym p.5) in
    let count : suc (i + suc m) ≡ suc i + suc m = omega arith in
    subst (λ (n : ℕ). Stops (times n t) (front ++ ys) stop) count (subst (λ (z : List Bool). Stops (times (suc (i + suc m)) t) z stop) bits all)
