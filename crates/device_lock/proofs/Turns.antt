-- What the rule says of tickets, of the history and of the value, after one seat's view was changed.
use Rattle.std.proofs.Common.{◌≡◌, ℕ, ◌+◌, ◌^◌, ◌<◌, ◌≤◌, ◌≢◌, ◌⊎◌, inl, inr, false, List, [], ◌∷◌, ◌++◌, set, Option, Some, None, sym, refl, ap, ◌∙◌, subst, ⊎_elim, arith, append_assoc, length-append}
use mathlib.Core.Logic.{dite}
use mathlib.Core.List.{IsPrefix, append-nil}
use mathlib.Core.Option.{none, some}
use mathlib.Core.Option as maybe
use native.Mathlib.Decide.{ℕ_discrete}
use Rattle.atomic_table.proofs.Lists.{at_set}
use Rattle.device_lock.specs.declared.view.View.{View}
use Rattle.device_lock.specs.declared.view.Turn.{Turn}
use Rattle.device_lock.specs.declared.view.Turn.TheVariants.{Waiting, Holding, HasLogged}
use Rattle.device_lock.specs.Lists.{At}
use Rattle.device_lock.specs.Views.{IsInTurn, with_ticket, with_turn, with_item, without_turn}
use Rattle.device_lock.specs.Rule.{Queue, Past, Hold}
use Rattle.device_lock.proofs.Places.{all_set, here_set, some_set, at_once}

module _ {I : Type 0} where
  Tickets : List (View I) → Type 0
  Tickets vs = (j k : ℕ) (u z : View I) (t : ℕ) → At vs j u → At vs k z → u.ticket ≡ Some t → z.ticket ≡ Some t → j ≡ k

  -- no ticket stands twice, where no other seat has the ticket of the new view
  once_set : (vs : List (View I)) (id : ℕ) (w : View I) → ((t : ℕ) → w.ticket ≡ Some t → (k : ℕ) (z : View I) → k ≢ id → At vs k z → z.ticket ≢ Some t)
      → ((j k : ℕ) (u z : View I) (t : ℕ) → At vs j u → At vs k z → u.ticket ≡ Some t → z.ticket ≡ Some t → j ≡ k)
      → (j k : ℕ) (u z : View I) (t : ℕ) → At (set vs id w) j u → At (set vs id w) k z → u.ticket ≡ Some t → z.ticket ≡ Some t → j ≡ k
  once_set vs id w apart old j k u z t a b e f =
      ⊎_elim
      (λ (here : (j ≡ id) × (w ≡ u)). ⊎_elim (λ (there : (k ≡ id) × (w ≡ z)). here.0 ∙ sym there.0)
      (λ (there : (k ≢ id) × At vs k z). absurd (apart t (ap (λ (x : View I). x.ticket) here.1 ∙ e) k z there.0 there.1 f)) (at_set vs id k w z b))
      (λ (here : (j ≢ id) × At vs j u). ⊎_elim (λ (there : (k ≡ id) × (w ≡ z)). absurd (apart t (ap (λ (x : View I). x.ticket) there.1 ∙ f) j u here.0 here.1 e))
      (λ (there : (k ≢ id) × At vs k z). old j k u z t here.1 there.1 e f) (at_set vs id k w z b))
      (at_set vs id j w u a)

  -- a seat that has drawn no ticket draws the next one
  pub queue_draws : (vs : List (View I)) (id next serving : ℕ) (v : View I) → At vs id v → v.ticket ≡ None → next + 1 < 2 ^ 64 → Queue vs next serving
      → Queue (set vs id (with_ticket v next)) (next + 1) serving
  queue_draws vs id next serving v at none_yet small q = let w : View I = with_ticket v next in let ordered = q.in_order in record {
    in_order = omega arith;
    below = small;
    in_range = λ j u t there e. all_set (λ _ u. (t : ℕ) → u.ticket ≡ Some t → (serving ≤ t) × (t < next + 1)) vs id w
        (λ t e. let is : next ≡ t = cc (e) in (omega arith, omega arith))
        (λ j u _ there t e. let r = q.in_range j u t there e in let l = r.1 in (r.0, omega arith)) j u there t e;
    each = λ t from below. dite (ℕ_discrete t next)
        (λ is. (id, w, here_set vs id v w at, ap (λ (n : ℕ). Some n) (sym is)))
        (λ isnt. some_set (λ (u : View I). u.ticket ≡ Some t) vs id v w at (λ (e : v.ticket ≡ Some t). let no : None ≡ Some t = sym none_yet ∙ e in absurd (cc (no))) (q.each t from (omega arith)));
    once = once_set vs id w (λ t e k z _ there f. let is : next ≡ t = cc (e) in let r = q.in_range k z t there f in let l = r.1 in omega arith) q.once;
  }

  -- a seat keeps its ticket
  pub queue_stays : (vs : List (View I)) (id next serving : ℕ) (v w : View I) → At vs id v → w.ticket ≡ v.ticket → Queue vs next serving → Queue (set vs id w) next serving
  queue_stays vs id next serving v w at same q = record {
    in_order = q.in_order;
    below = q.below;
    in_range = λ j u t there e. all_set (λ _ u. (t : ℕ) → u.ticket ≡ Some t → (serving ≤ t) × (t < next)) vs id w
        (λ t e. q.in_range id v t at (sym same ∙ e)) (λ j u _ there t e. q.in_range j u t there e) j u there t e;
    each = λ t from below. some_set (λ (u : View I). u.ticket ≡ Some t) vs id v w at (λ (e : v.ticket ≡ Some t). same ∙ e) (q.each t from below);
    once = once_set vs id w (λ t e k z other there f. other (q.once k id z v t there at f (sym same ∙ e))) q.once;
  }

  -- the seat whose ticket is being served gives it up, and the next one is served
  pub queue_serves : (vs : List (View I)) (id next serving : ℕ) (v : View I) → At vs id v → v.ticket ≡ Some serving → Queue vs next serving → Queue (set vs id (without_turn v)) next (serving + 1)
  queue_serves vs id next serving v at mine q = let w : View I = without_turn v in let range = q.in_range id v serving at mine in let l = range.1 in record {
    in_order = omega arith;
    below = q.below;
    in_range = λ j u t there e. all_set (λ _ u. (t : ℕ) → u.ticket ≡ Some t → (serving + 1 ≤ t) × (t < next)) vs id w
        (λ t e. absurd (cc (e)))
        (λ j u other there t e. let r = q.in_range j u t there e in let a = r.0 in
        let ne : t ≢ serving = λ is. other (q.once j id u v serving there at (e ∙ ap (λ (n : ℕ). Some n) is) mine) in (omega arith, r.1)) j u there t e;
    each = λ t from below. some_set (λ (u : View I). u.ticket ≡ Some t) vs id v w at (λ (e : v.ticket ≡ Some t). let is : Some serving ≡ Some t = sym mine ∙ e in let is' : serving ≡ t = cc (is) in absurd (omega arith)) (q.each t (omega arith) below);
    once = once_set vs id w (λ t e k z other there f. cc (e)) q.once;
  }

module _ {I T : Type 0} (stands : T → List I → Type 0) where
  -- a seat has seen as much as before, or the whole history
  pub past_stays : (vs : List (View I)) (id logged : ℕ) (history : List I) (v w : View I) → At vs id v → w.spent ≡ v.spent → (w.seen ≡ v.seen) ⊎ (w.seen ≡ history)
      → Past vs stands logged history → Past (set vs id w) stands logged history
  past_stays vs id logged history v w at on same p = record {
    counted = p.counted;
    legal = p.legal;
    begun = all_set (λ _ u. IsPrefix u.seen history) vs id w
        (⊎_elim (λ (e : w.seen ≡ v.seen). subst (λ (l : List I). IsPrefix l history) (sym e) (p.begun id v at)) (λ (e : w.seen ≡ history). ([], append-nil w.seen ∙ e)) same)
        (λ j u _ there. p.begun j u there);
    longest = some_set (λ (u : View I). (u.spent ≡ false) × (u.seen ≡ history)) vs id v w at (λ (e : (v.spent ≡ false) × (v.seen ≡ history)). (on ∙ e.0, ⊎_elim (λ (f : w.seen ≡ v.seen). f ∙ e.1) (λ f. f) same)) p.longest;
  }

  -- a seat that has seen the whole history logs an item
  pub past_logs : (vs : List (View I)) (id logged : ℕ) (history : List I) (v : View I) (x : I) (y : T) → At vs id v → v.spent ≡ false → v.seen ≡ history → stands y (v.seen ++ x ∷ [])
      → Past vs stands logged history → Past (set vs id (with_item v x)) stands (logged + 1) (history ++ x ∷ [])
  past_logs vs id logged history v x y at live whole legal p = let w : View I = with_item v x in let longer : w.seen ≡ history ++ x ∷ [] = ap (λ (l : List I). l ++ x ∷ []) whole in record {
    counted = let n = p.counted in omega (arith, length-append history (x ∷ []));
    legal = (y, subst (stands y) longer legal);
    begun = all_set (λ _ u. IsPrefix u.seen (history ++ x ∷ [])) vs id w ([], append-nil w.seen ∙ longer)
        (λ j u _ there. let b = p.begun j u there in (b.0 ++ x ∷ [], sym (append_assoc u.seen b.0 (x ∷ [])) ∙ ap (λ (l : List I). l ++ x ∷ []) b.1));
    longest = (id, w, here_set vs id v w at, (live, longer));
  }

  module _ (vs : List (View I)) (homes : List (maybe.Option (Option T))) (id next serving logged : ℕ) (history : List I) (v : View I) (at : At vs id v) (q : Queue vs next serving)
      (h : Hold vs stands homes serving logged history) where
    in_turn : (u : View I) (t : Turn) → u.turn ≡ t → IsInTurn t → IsInTurn u.turn
    in_turn u t e i = subst IsInTurn (sym e) i

    -- whose ticket is being served is in its turn, and no other
    alone : v.ticket ≡ Some serving → (j : ℕ) (u : View I) → At vs j u → IsInTurn u.turn → j ≡ id
    alone mine j u there busy = q.once j id u v serving there at (h.turn j u there busy).0 mine

    is_me : v.ticket ≡ Some serving → (j : ℕ) (u : View I) → At vs j u → IsInTurn u.turn → v ≡ u
    is_me mine j u there busy = at_once vs id j v u at there (sym (alone mine j u there busy))

    -- a seat that is not in its turn stays so
    pub hold_stays : (w : View I) → v.turn ≡ Waiting → w.turn ≡ Waiting → Hold (set vs id w) stands homes serving logged history
    hold_stays w idle idle' = record {
      turn = all_set (λ _ u. IsInTurn u.turn → (u.ticket ≡ Some serving) × (u.seen ≡ history)) vs id w (λ busy. absurd (subst IsInTurn idle' busy)) (λ j u _ there. h.turn j u there);
      out = all_set (λ _ u. u.turn ≡ Holding → homes ≡ none ∷ []) vs id w (λ e. let no : Waiting ≡ Holding = sym idle' ∙ e in absurd (cc (no))) (λ j u _ there. h.out j u there);
      slot = ⊎_elim (λ a. inl (a.0, some_set (λ (u : View I). u.turn ≡ Holding) vs id v w at (λ e. let no : Waiting ≡ Holding = sym idle ∙ e in absurd (cc (no))) a.1)) (λ b. inr b) h.slot;
      one_event = ⊎_elim (λ a. inl a) (λ b. inr (b.0, some_set (λ (u : View I). u.turn ≡ HasLogged) vs id v w at (λ e. let no : Waiting ≡ HasLogged = sym idle ∙ e in absurd (cc (no))) b.1)) h.one_event;
    }

    -- the value is at home for whose turn has come
    pub at_home : v.turn ≡ Waiting → v.ticket ≡ Some serving → (x : T) × (homes ≡ some (Some x) ∷ []) × stands x history
    at_home idle mine = ⊎_elim (λ a. let s = a.1 in let same : v ≡ s.1 = is_me mine s.0 s.1 s.2 (in_turn s.1 Holding s.3 tt) in let no : Waiting ≡ Holding = sym idle ∙ (ap (λ (u : View I). u.turn) same ∙ s.3) in absurd (cc (no)))
        (λ b. b) h.slot

    pub hold_takes : v.turn ≡ Waiting → v.ticket ≡ Some serving → Hold (set vs id (with_turn v history)) stands (none ∷ []) serving logged history
    hold_takes idle mine = let w : View I = with_turn v history in record {
      turn = all_set (λ _ u. IsInTurn u.turn → (u.ticket ≡ Some serving) × (u.seen ≡ history)) vs id w (λ _. (mine, refl)) (λ j u _ there. h.turn j u there);
      out = λ j u _ _. refl;
      slot = inl (refl, (id, w, here_set vs id v w at, refl));
      one_event = ⊎_elim (λ a. inl a) (λ b. inr (b.0, some_set (λ (u : View I). u.turn ≡ HasLogged) vs id v w at (λ e. let no : Waiting ≡ HasLogged = sym idle ∙ e in absurd (cc (no))) b.1)) h.one_event;
    }

    -- nothing was logged yet in a turn in which the value is held
    pub not_logged : v.turn ≡ Holding → logged ≤ serving
    not_logged holding = let mine = (h.turn id v at (in_turn v Holding holding tt)).0 in ⊎_elim (λ a. a)
        (λ b. let s = b.1 in let same : v ≡ s.1 = is_me mine s.0 s.1 s.2 (in_turn s.1 HasLogged s.3 tt) in let no : Holding ≡ HasLogged = sym holding ∙ (ap (λ (u : View I). u.turn) same ∙ s.3) in absurd (cc (no)))
        h.one_event

    pub hold_logs : (x : I) (y : T) → v.turn ≡ Holding → stands y (v.seen ++ x ∷ []) → Hold (set vs id (with_item v x)) stands (some (Some y) ∷ []) serving (logged + 1) (history ++ x ∷ [])
    hold_logs x y holding legal = let w : View I = with_item v x in let now = h.turn id v at (in_turn v Holding holding tt) in let longer : w.seen ≡ history ++ x ∷ [] = ap (λ (l : List I). l ++ x ∷ []) now.1 in
        let some_room = not_logged holding in record {
          turn = all_set (λ _ u. IsInTurn u.turn → (u.ticket ≡ Some serving) × (u.seen ≡ history ++ x ∷ [])) vs id w (λ _. (now.0, longer)) (λ j u other there busy. absurd (other (alone now.0 j u there busy)));
          out = all_set (λ _ u. u.turn ≡ Holding → some (Some y) ∷ [] ≡ none ∷ []) vs id w (λ e. absurd (cc (e))) (λ j u other there e. absurd (other (alone now.0 j u there (in_turn u Holding e tt))));
          slot = inr (y, refl, subst (stands y) longer legal);
          one_event = inr (omega arith, (id, w, here_set vs id v w at, refl));
        }

    -- the turn is over, with the value at home
    pub hold_serves : (y : T) → IsInTurn v.turn → stands y history → Hold (set vs id (without_turn v)) stands (some (Some y) ∷ []) (serving + 1) logged history
    hold_serves y busy legal = let w : View I = without_turn v in let mine = (h.turn id v at busy).0 in record {
      turn = all_set (λ _ u. IsInTurn u.turn → (u.ticket ≡ Some (serving + 1)) × (u.seen ≡ history)) vs id w (λ no. absurd no) (λ j u other there on. absurd (other (alone mine j u there on)));
      out = all_set (λ _ u. u.turn ≡ Holding → some (Some y) ∷ [] ≡ none ∷ []) vs id w (λ e. absurd (cc (e))) (λ j u other there e. absurd (other (alone mine j u there (in_turn u Holding e tt))));
      slot = inr (y, refl, legal);
      one_event = inl (⊎_elim (λ a. omega arith) (λ b. b.0) h.one_event);
    }

    -- the value is at home after an item was logged
    pub home_after : v.turn ≡ HasLogged → (x : T) × (homes ≡ some (Some x) ∷ []) × stands x history
    home_after done = let mine = (h.turn id v at (in_turn v HasLogged done tt)).0 in
        ⊎_elim (λ a. let s = a.1 in let same : v ≡ s.1 = is_me mine s.0 s.1 s.2 (in_turn s.1 Holding s.3 tt) in let no : HasLogged ≡ Holding = sym done ∙ (ap (λ (u : View I). u.turn) same ∙ s.3) in absurd (cc (no)))
        (λ b. b) h.slot
