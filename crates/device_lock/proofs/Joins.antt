-- What the rule says after a split and after a join, and of the lists that were joined.
use Rattle.std.proofs.Common.{◌≡◌, ℕ, ◌<◌, ◌≤◌, ◌≢◌, inl, inr, false, List, [], ◌∷◌, ◌++◌, length, set, Option, Some, None, sym, refl, ap, ◌∙◌, subst, ⊎_elim, arith, append_assoc, length-append}
use mathlib.Core.Logic.{dite}
use mathlib.Core.List.{IsPrefix, append-nil}
use mathlib.Core.Option.{none, some}
use mathlib.Core.Option as maybe
use native.Mathlib.Decide.{ℕ_discrete}
use Rattle.atomic_table.proofs.Lists.{set_else}
use Rattle.device_lock.specs.declared.view.Account.{Account}
use Rattle.device_lock.specs.declared.view.View.{View}
use Rattle.device_lock.specs.declared.view.Turn.TheVariants.{Waiting, Holding, HasLogged}
use Rattle.device_lock.specs.Lists.{At, Each}
use Rattle.device_lock.specs.Views.{IsInTurn, with_item, split_left, split_right, joined_view, spent_view}
use Rattle.device_lock.specs.Numbers.{Joined}
use Rattle.device_lock.specs.Rule.{Queue, Past, Hold}
use Rattle.device_lock.proofs.Places.{all_set, all_snoc, here_set, some_snoc, at_once}
use Rattle.device_lock.proofs.Sums.{each_append, by_length}

module _ {I : Type 0} (at_rest : List I → Type 0) where
  further : (history xs : List I) (x : I) → IsPrefix xs history → IsPrefix xs (history ++ x ∷ [])
  further history xs x p = (p.0 ++ x ∷ [], sym (append_assoc xs p.0 (x ∷ [])) ∙ ap (λ (l : List I). l ++ x ∷ []) p.1)

  pub joined_stay : (vs : List (View I)) (id : ℕ) (history : List I) (v w : View I) → At vs id v → w.joined ≡ v.joined → w.met ≡ v.met → Joined vs at_rest history → Joined (set vs id w) at_rest history
  joined_stay vs id history v w at same same' r = record {
    rests = all_set (λ _ u. Each (λ a. at_rest a.own) u.joined) vs id w (subst (Each (λ (a : Account I). at_rest a.own)) (sym same) (r.rests id v at)) (λ j u _ a. r.rests j u a);
    met = all_set (λ _ u. IsPrefix u.met history) vs id w (subst (λ (l : List I). IsPrefix l history) (sym same') (r.met id v at)) (λ j u _ a. r.met j u a);
  }

  pub joined_log : (vs : List (View I)) (id : ℕ) (history : List I) (v : View I) (x : I) → At vs id v → Joined vs at_rest history → Joined (set vs id (with_item v x)) at_rest (history ++ x ∷ [])
  joined_log vs id history v x at r = record {
    rests = all_set (λ _ u. Each (λ a. at_rest a.own) u.joined) vs id (with_item v x) (r.rests id v at) (λ j u _ a. r.rests j u a);
    met = all_set (λ _ u. IsPrefix u.met (history ++ x ∷ [])) vs id (with_item v x) (further history v.met x (r.met id v at)) (λ j u _ a. further history u.met x (r.met j u a));
  }

  pub joined_split : (vs : List (View I)) (id : ℕ) (history : List I) (v : View I) → At vs id v → Joined vs at_rest history → Joined (set vs id (split_left v) ++ split_right v ∷ []) at_rest history
  joined_split vs id history v at r = let s = joined_stay vs id history v (split_left v) at refl refl r in record {
    rests = all_snoc (λ _ u. Each (λ a. at_rest a.own) u.joined) (set vs id (split_left v)) (split_right v) (λ _. tt) s.rests;
    met = all_snoc (λ _ u. IsPrefix u.met history) (set vs id (split_left v)) (split_right v) (λ _. (history, refl)) s.met;
  }

  pub joined_join : (vs : List (View I)) (id other : ℕ) (history : List I) (v w : View I) → At vs id v → At vs other w → IsPrefix v.seen history → IsPrefix w.seen history → at_rest w.own
      → Joined vs at_rest history → Joined (set (set vs id (joined_view v w)) other spent_view) at_rest history
  joined_join vs id other history v w at there begun begun' still r = let b : View I = joined_view v w in record {
    rests = all_set (λ _ u. Each (λ a. at_rest a.own) u.joined) (set vs id b) other spent_view tt
        (λ j u _ a. all_set (λ _ u. Each (λ a. at_rest a.own) u.joined) vs id b
        (each_append (λ (a : Account I). at_rest a.own) v.joined (record { number = w.number; own = w.own } ∷ w.joined) (r.rests id v at) (still, r.rests other w there)) (λ j u _ a. r.rests j u a) j u a);
    met = all_set (λ _ u. IsPrefix u.met history) (set vs id b) other spent_view (history, refl)
        (λ j u _ a. all_set (λ _ u. IsPrefix u.met history) vs id b (by_length (λ long short. IsPrefix short history) v.seen w.seen (λ _. begun) (λ _. begun')) (λ j u _ a. r.met j u a) j u a);
  }

module _ {I : Type 0} where
  -- a pass without a ticket comes
  pub queue_more : (vs : List (View I)) (next serving : ℕ) (u : View I) → u.ticket ≡ None → Queue vs next serving → Queue (vs ++ u ∷ []) next serving
  queue_more vs next serving u none_yet q = let no : (t : ℕ) → u.ticket ≡ Some t → ⊥ = λ t e. let both : None ≡ Some t = sym none_yet ∙ e in cc (both) in record {
    in_order = q.in_order;
    below = q.below;
    in_range = λ j z t a e. all_snoc (λ _ z. (t : ℕ) → z.ticket ≡ Some t → (serving ≤ t) × (t < next)) vs u (λ _ t e. absurd (no t e)) (λ j z a t e. q.in_range j z t a e) j z a t e;
    each = λ t from below. some_snoc (λ (z : View I). z.ticket ≡ Some t) vs u (q.each t from below);
    once = λ j k y z t a b e f. all_snoc (λ j y. y.ticket ≡ Some t → j ≡ k) vs u (λ _ e. absurd (no t e))
        (λ j y a e. all_snoc (λ k z. z.ticket ≡ Some t → j ≡ k) vs u (λ _ f. absurd (no t f)) (λ k z b f. q.once j k y z t a b e f) k z b f) j y a e;
  }

module _ {I T : Type 0} (stands : T → List I → Type 0) where
  pub past_more : (vs : List (View I)) (logged : ℕ) (history : List I) (u : View I) → IsPrefix u.seen history → Past vs stands logged history → Past (vs ++ u ∷ []) stands logged history
  past_more vs logged history u begun p = record {
    counted = p.counted;
    legal = p.legal;
    begun = all_snoc (λ _ z. IsPrefix z.seen history) vs u (λ _. begun) p.begun;
    longest = some_snoc (λ (z : View I). (z.spent ≡ false) × (z.seen ≡ history)) vs u p.longest;
  }

  pub hold_more : (vs : List (View I)) (homes : List (maybe.Option (Option T))) (serving logged : ℕ) (history : List I) (u : View I) → u.turn ≡ Waiting → Hold vs stands homes serving logged history
      → Hold (vs ++ u ∷ []) stands homes serving logged history
  hold_more vs homes serving logged history u idle h = record {
    turn = all_snoc (λ _ z. IsInTurn z.turn → (z.ticket ≡ Some serving) × (z.seen ≡ history)) vs u (λ _ busy. absurd (subst IsInTurn idle busy)) h.turn;
    out = all_snoc (λ _ z. z.turn ≡ Holding → homes ≡ none ∷ []) vs u (λ _ e. let no : Waiting ≡ Holding = sym idle ∙ e in absurd (cc (no))) h.out;
    slot = ⊎_elim (λ a. inl (a.0, some_snoc (λ (z : View I). z.turn ≡ Holding) vs u a.1)) (λ b. inr b) h.slot;
    one_event = ⊎_elim (λ a. inl a) (λ b. inr (b.0, some_snoc (λ (z : View I). z.turn ≡ HasLogged) vs u b.1)) h.one_event;
  }

  none_left : (xs : List I) → length xs ≡ 0 → xs ≡ []
  none_left [] e = refl
  none_left (x ∷ xs) e = absurd (omega arith)

  whole : (xs history : List I) → IsPrefix xs history → length history ≤ length xs → xs ≡ history
  whole xs history p le = let a = length-append xs p.0 in let b = ap length p.1 in
      let nothing : p.0 ≡ [] = none_left p.0 (omega arith) in sym (append-nil xs) ∙ (ap (λ l. xs ++ l) (sym nothing) ∙ p.1)

  pub past_join : (vs : List (View I)) (id other logged : ℕ) (history : List I) (v w : View I) → At vs id v → v.spent ≡ false → other ≢ id → At vs other w
      → Past vs stands logged history → Past (set (set vs id (joined_view v w)) other spent_view) stands logged history
  past_join vs id other logged history v w at live ne there p = let b : View I = joined_view v w in let ws : List (View I) = set vs id b in let us : List (View I) = set ws other spent_view in
      let bv = p.begun id v at in let bw = p.begun other w there in let back : id ≢ other = λ is. ne (sym is) in let there' : At ws other w = set_else vs id other b ne ∙ there in
      let here : At us id b = set_else ws other id spent_view back ∙ here_set vs id v b at in record {
        counted = p.counted;
        legal = p.legal;
        begun = all_set (λ _ u. IsPrefix u.seen history) ws other spent_view (history, refl)
            (λ j u _ a. all_set (λ _ u. IsPrefix u.seen history) vs id b (by_length (λ long short. IsPrefix long history) v.seen w.seen (λ _. bw) (λ _. bv)) (λ j u _ a. p.begun j u a) j u a);
        longest = let l = p.longest in dite (ℕ_discrete l.0 id)
            (λ is. let e : v.seen ≡ history = ap (λ (u : View I). u.seen) (at_once vs id l.0 v l.1 at l.2 (sym is)) ∙ l.3.1 in (
              id,
              b,
              here,
              (live, by_length (λ long short. long ≡ history) v.seen w.seen (λ less. let n = ap length e in let m = length-append w.seen bw.0 in let o = ap length bw.1 in absurd (omega arith)) (λ _. e)),
            ))
            (λ isnt. dite (ℕ_discrete l.0 other)
            (λ is. let e : w.seen ≡ history = ap (λ (u : View I). u.seen) (at_once vs other l.0 w l.1 there l.2 (sym is)) ∙ l.3.1 in (
              id,
              b,
              here,
              (live, by_length (λ long short. long ≡ history) v.seen w.seen (λ _. e) (λ more. let n = ap length e in whole v.seen history bv (omega arith))),
            ))
            (λ isnt'. (l.0, l.1, set_else ws other l.0 spent_view isnt' ∙ (set_else vs id l.0 b isnt ∙ l.2), l.3)));
      }
