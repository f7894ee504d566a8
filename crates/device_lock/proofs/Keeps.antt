-- Each step keeps the rule, and tells what it says it does.
use Rattle.std.proofs.Common.{◌≡◌, ℕ, zero, suc, ◌+◌, ◌-◌, ◌%◌, if◌then◌else◌, ◌^◌, ◌<◌, ◌≤◌, eqb, false, inl, inr, List, [], ◌∷◌, ◌++◌, length, get_or, set, Option, Some, None, IsSome, IfSome, sym, refl, ap, ◌∙◌, subst, arith, eq-eqb, ne_eqb}
use mathlib.Core.Logic.{dite}
use mathlib.Core.List.{IsPrefix, append-nil}
use mathlib.Core.Option.{none, some, some-injective, some-ne-none}
use mathlib.Core.Option as maybe
use native.Mathlib.Decide.{ℕ_discrete}
use lib.ListN.{get_elem?}
use lib.Seq.{set-get_or}
use prog.Atomic.{either}
use Rattle.atomic_table.proofs.Lists.{set_again, set_else}
use Rattle.atomic_table.specs.Table.{State, Me, Act, step, keeps, takes, gives, rest, homes_after, stepped, Allows, Splits, Joins, opening}
use Rattle.device_lock.specs.declared.view.View.{View}
use Rattle.device_lock.specs.declared.view.Turn.TheVariants.{Waiting, Holding, HasLogged}
use Rattle.device_lock.specs.Lists.{At, Each}
use Rattle.device_lock.specs.Views.{IsInTurn, IsAway, first_view, with_ticket, with_turn, with_item, without_turn, split_left, split_right, joined_view, spent_view}
use Rattle.device_lock.specs.Rule.{Queue, Hold, Rule}
use Rattle.device_lock.specs.Steps.{drew, looked, logs, learned, served}
use Rattle.device_lock.proofs.Places.{here_set}
use Rattle.device_lock.specs.Lists.{same}
use Rattle.device_lock.specs.Views.{numbers}
use Rattle.device_lock.specs.Numbers.{Keeps}
use Rattle.device_lock.proofs.Callers.{no_longer}
use Rattle.device_lock.proofs.Sums.{by_bool, prefix_self, prefix_shorter}
use Rattle.device_lock.proofs.Numbered.{numbers_stay, numbers_log, numbers_split, numbers_join, knows}
use Rattle.device_lock.proofs.Joins.{joined_stay, joined_log, joined_split, joined_join, queue_more, past_more, hold_more, past_join}
use Rattle.device_lock.proofs.Turns.{queue_draws, queue_stays, queue_serves, past_stays, past_logs, hold_stays, at_home, hold_takes, not_logged, hold_logs, hold_serves, home_after}

-- what is so of the item that is named
pub named : {I : Type 0} (P Q : I → Type 0) (item : Option I) → IsSome item → IfSome item P → IfSome item Q → (x : I) × (item ≡ Some x) × P x × Q x
named P Q (Some x) is p q = (x, refl, p, q)
named P Q None is p q = absurd (cc (is))

module _ {I T : Type 0} (caller : I → List ℕ) (stands : T → List I → Type 0) (at_rest : List I → Type 0) where
  abbrev St : Type 0
  St = State (Option T) (View I)

  abbrev Sat : Type 0
  Sat = Me (Option T) (View I)

  same_some : (a b : ℕ) → Some a ≡ Some b → a ≡ b
  same_some a b e = cc (e)

  all_first : (j : ℕ) (v : View I) → At (first_view ∷ []) j v → first_view ≡ v
  all_first zero v at = some-injective first_view v at
  all_first (suc j) v at = absurd (some-ne-none v (sym at))

  word_is : (s : St) (r : Rule caller stands at_rest s) (i : ℕ) → get_or s.words i 0 ≡ get_or (r.next ∷ r.serving ∷ r.logged ∷ []) i 0
  word_is s r i = ap (λ (ws : List ℕ). get_or ws i 0) r.words

  words_set : (s : St) (r : Rule caller stands at_rest s) (i n : ℕ) → set s.words i n ≡ set (r.next ∷ r.serving ∷ r.logged ∷ []) i n
  words_set s r i n = ap (λ (ws : List ℕ). set ws i n) r.words

  -- the step that changes nothing
  unmoved : (s : St) (r : Rule caller stands at_rest s) (i id : ℕ) (m : Sat) → At s.views id m.0 → Rule caller stands at_rest (stepped s i (get_or s.words i 0) id m.1 m.0 keeps)
  unmoved s r i id m at = subst (λ (p : List ℕ × List (View I)). Rule caller stands at_rest record { words = p.0; homes = s.homes; views = p.1 }) (λ k. (sym (set-get_or s.words i 0) k, sym (set_again s.views id m.0 at) k)) r

  pub draws : (slots id n : ℕ) (m : Sat) → IsAway m.0 → n + 1 < 2 ^ 64 → Allows (Rule caller stands at_rest) slots id m 0 (λ x. either (eqb x n) (n + 1) x) (drew (step slots 0 n (n + 1) none) m)
  draws slots id n m away small s r _ at _ = let x : ℕ = get_or s.words 0 0 in let v : View I = m.0 in dite (ℕ_discrete x n)
      (λ e. let w : View I = with_ticket v x in let is : x ≡ r.next = word_is s r 0 in (
        w,
        keeps,
        tt,
        subst (λ b. Rule caller stands at_rest (stepped s 0 (either b (n + 1) x) id m.1 w keeps)) (sym (eq-eqb x n e)) record {
          next = r.next + 1;
          serving = r.serving;
          logged = r.logged;
          history = r.history;
          words = words_set s r 0 (n + 1) ∙ ap (λ (k : ℕ). (k + 1) ∷ r.serving ∷ r.logged ∷ []) (sym e ∙ is);
          queue = subst (λ (k : ℕ). Queue (set s.views id (with_ticket v k)) (r.next + 1) r.serving) (sym is) (queue_draws s.views id r.next r.serving v at away.0 (omega arith) r.queue);
          past = past_stays stands s.views id r.logged r.history v w at refl (inl refl) r.past;
          hold = hold_stays stands s.views s.homes id r.next r.serving r.logged r.history v at r.queue r.hold w away.1 away.1;
          numbers = numbers_stay caller s.views id r.history v v.seen (Some x) v.turn at (inl refl) r.numbers;
          joined = joined_stay at_rest s.views id r.history v w at refl refl r.joined;
        },
        ((λ _. refl), λ ne. absurd (ne e)),
      ))
      (λ ne. (
        v,
        keeps,
        tt,
        subst (λ b. Rule caller stands at_rest (stepped s 0 (either b (n + 1) x) id m.1 v keeps)) (sym (ne_eqb x n ne)) (unmoved s r 0 id m at),
        ((λ e. absurd (ne e)), λ _. refl),
      ))

  pub looks : (slots id t : ℕ) (m : Sat) → m.0.ticket ≡ Some t → m.0.turn ≡ Waiting → m.0.spent ≡ false → Allows (Rule caller stands at_rest) slots id m 1 (λ x. x) (looked caller stands (step slots 1 0 0 none) m)
  looks slots id t m mine idle live s r _ at _ = let x : ℕ = get_or s.words 1 0 in let v : View I = m.0 in let is : x ≡ r.serving = word_is s r 1 in dite (ℕ_discrete x t)
      (λ e. let served : v.ticket ≡ Some r.serving = mine ∙ ap (λ (k : ℕ). Some k) (sym e ∙ is) in let w : View I = with_turn v r.history in
      let numbers = numbers_stay caller s.views id r.history v r.history v.ticket Holding at (inr refl) r.numbers in
      let home = at_home stands s.views s.homes id r.next r.serving r.logged r.history v at r.queue r.hold idle served in (
        w,
        takes 0 (Some home.0),
        ap (λ (hs : List (maybe.Option (Option T))). get_elem? hs 0) home.1,
        record {
          next = r.next;
          serving = r.serving;
          logged = r.logged;
          history = r.history;
          words = set-get_or s.words 1 0 ∙ r.words;
          queue = queue_stays s.views id r.next r.serving v w at refl r.queue;
          past = past_stays stands s.views id r.logged r.history v w at refl (inr refl) r.past;
          hold = subst (λ (hs : List (maybe.Option (Option T))). Hold (set s.views id w) stands hs r.serving r.logged r.history) (sym (ap (λ (hs : List (maybe.Option (Option T))). set hs 0 none) home.1))
              (hold_takes stands s.views s.homes id r.next r.serving r.logged r.history v at r.queue r.hold idle served);
          numbers = numbers;
          joined = joined_stay at_rest s.views id r.history v w at refl refl r.joined;
        },
        ((λ _. (r.history, home.0, refl, home.2, r.past.begun id v at, knows caller (set s.views id w) id r.history w (here_set s.views id v w at) live (prefix_self r.history) numbers)), λ no. absurd (no (mine ∙ ap (λ (k : ℕ). Some k) (sym e)))),
      ))
      (λ ne. (
        v,
        keeps,
        tt,
        unmoved s r 1 id m at,
        ((λ e. let both : Some t ≡ Some x = sym mine ∙ e in absurd (ne (sym (same_some t x both)))), λ _. refl),
      ))

  pub logs_item : (slots id : ℕ) (m : Sat) (item : Option I) (x : I) (y : T) → m.0.turn ≡ Holding → m.0.spent ≡ false → m.1 ≡ (0, Some y) ∷ [] → item ≡ Some x → caller x ≡ m.0.number → stands y (m.0.seen ++ x ∷ [])
      → Allows (Rule caller stands at_rest) slots id m 2 (λ n. (n + 1) % 2 ^ 64) (logs caller item (step slots 2 1 0 none) m)
  logs_item slots id m item x y holding live hand named own legal s r _ at _ = let n : ℕ = get_or s.words 2 0 in let v : View I = m.0 in let is : n ≡ r.logged = word_is s r 2 in let w : View I = with_item v x in
      let q = r.queue in let now = r.hold.turn id v at (subst IsInTurn (sym holding) tt) in let few = not_logged stands s.views s.homes id r.next r.serving r.logged r.history v at q r.hold holding in
      let range = q.in_range id v r.serving at now.0 in let below = q.below in let above = range.1 in let next_is : (n + 1) % 2 ^ 64 ≡ r.logged + 1 = omega arith in
      let out = r.hold.out id v at holding in
      let numbers = numbers_log caller s.views id r.history v x at live own now.1 r.numbers in
      let homes_are : homes_after s.homes m.1 gives ≡ some (Some y) ∷ [] = λ k. homes_after (out k) (hand k) gives in (
        w,
        gives,
        tt,
        record {
          next = r.next;
          serving = r.serving;
          logged = r.logged + 1;
          history = r.history ++ x ∷ [];
          words = words_set s r 2 ((n + 1) % 2 ^ 64) ∙ ap (λ (k : ℕ). r.next ∷ r.serving ∷ k ∷ []) next_is;
          queue = queue_stays s.views id r.next r.serving v w at refl q;
          past = past_logs stands s.views id r.logged r.history v x y at live now.1 legal r.past;
          hold = subst (λ (hs : List (maybe.Option (Option T))). Hold (set s.views id w) stands hs r.serving (r.logged + 1) (r.history ++ x ∷ [])) (sym homes_are)
              (hold_logs stands s.views s.homes id r.next r.serving r.logged r.history v at q r.hold x y holding legal);
          numbers = numbers;
          joined = joined_log at_rest s.views id r.history v x at r.joined;
        },
        (λ x' named'. let both : Some x ≡ Some x' = sym named ∙ named' in let same : x ≡ x' = cc (both) in (
          (λ k. (with_item v (same k), rest (hand k))),
          is ∙ (r.past.counted ∙ ap length (sym now.1)),
          knows caller (set s.views id w) id (r.history ++ x ∷ []) w (here_set s.views id v w at) live ([], append-nil (v.seen ++ x ∷ []) ∙ ap (λ (l : List I). l ++ x ∷ []) now.1) numbers,
        )),
      )

  -- the turn is over, by a step after which the value y is at home
  ends : (s : St) (r : Rule caller stands at_rest s) (id : ℕ) (m : Sat) (a : Act (Option T)) (y : T) → At s.views id m.0 → IsInTurn m.0.turn → stands y r.history → homes_after s.homes m.1 a ≡ some (Some y) ∷ []
      → Rule caller stands at_rest (stepped s 1 ((get_or s.words 1 0 + 1) % 2 ^ 64) id m.1 (without_turn m.0) a)
  ends s r id m a y at busy legal homes_are = let n : ℕ = get_or s.words 1 0 in let v : View I = m.0 in let is : n ≡ r.serving = word_is s r 1 in let w : View I = without_turn v in let q = r.queue in
      let now = r.hold.turn id v at busy in let range = q.in_range id v r.serving at now.0 in let below = q.below in let above = range.1 in let next_is : (n + 1) % 2 ^ 64 ≡ r.serving + 1 = omega arith in record {
        next = r.next;
        serving = r.serving + 1;
        logged = r.logged;
        history = r.history;
        words = words_set s r 1 ((n + 1) % 2 ^ 64) ∙ ap (λ (k : ℕ). r.next ∷ k ∷ r.logged ∷ []) next_is;
        queue = queue_serves s.views id r.next r.serving v at now.0 q;
        past = past_stays stands s.views id r.logged r.history v w at refl (inl refl) r.past;
        hold = subst (λ (hs : List (maybe.Option (Option T))). Hold (set s.views id w) stands hs (r.serving + 1) r.logged r.history) (sym homes_are)
            (hold_serves stands s.views s.homes id r.next r.serving r.logged r.history v at q r.hold y busy legal);
        numbers = numbers_stay caller s.views id r.history v v.seen None Waiting at (inl refl) r.numbers;
        joined = joined_stay at_rest s.views id r.history v w at refl refl r.joined;
      }

  pub serves_held : (slots id : ℕ) (m : Sat) (y : T) → m.0.turn ≡ Holding → m.1 ≡ (0, Some y) ∷ [] → stands y m.0.seen → Allows (Rule caller stands at_rest) slots id m 1 (λ n. (n + 1) % 2 ^ 64) (served (step slots 1 1 0 none) m)
  serves_held slots id m y holding hand legal s r _ at _ = let v : View I = m.0 in let busy = subst IsInTurn (sym holding) tt in let now = r.hold.turn id v at busy in let out = r.hold.out id v at holding in (
    without_turn v,
    gives,
    tt,
    ends s r id m gives y at busy (subst (stands y) now.1 legal) (λ k. homes_after (out k) (hand k) gives),
    (λ k. (without_turn v, rest (hand k))),
  )

  pub serves_logged : (slots id : ℕ) (m : Sat) → m.0.turn ≡ HasLogged → m.1 ≡ [] → Allows (Rule caller stands at_rest) slots id m 1 (λ n. (n + 1) % 2 ^ 64) (served (step slots 1 1 0 none) m)
  serves_logged slots id m done hand s r _ at _ = let v : View I = m.0 in let home = home_after stands s.views s.homes id r.next r.serving r.logged r.history v at r.queue r.hold done in (
    without_turn v,
    keeps,
    tt,
    ends s r id m keeps home.0 at (subst IsInTurn (sym done) tt) home.2 home.1,
    (λ k. (without_turn v, hand k)),
  )

  -- a new lock
  pub opens : (y : T) → stands y [] → Rule caller stands at_rest (opening (0 ∷ 0 ∷ 0 ∷ []) (Some y ∷ []) first_view)
  opens y legal = let only = all_first in record {
    next = 0;
    serving = 0;
    logged = 0;
    history = [];
    words = refl;
    queue = record {
      in_order = omega arith;
      below = omega arith;
      in_range = λ j v t at e. absurd (let no : None ≡ Some t = ap (λ (u : View I). u.ticket) (only j v at) ∙ e in cc (no));
      each = λ t from below. absurd (omega arith);
      once = λ j k v w t at _ e _. absurd (let no : None ≡ Some t = ap (λ (u : View I). u.ticket) (only j v at) ∙ e in cc (no));
    };
    past = record {
      counted = refl;
      legal = (y, legal);
      begun = λ j v at. ([], append-nil v.seen ∙ sym (ap (λ (u : View I). u.seen) (only j v at)));
      longest = (0, first_view, refl, (refl, refl));
    };
    hold = record {
      turn = λ j v at busy. absurd (subst IsInTurn (sym (ap (λ (u : View I). u.turn) (only j v at))) busy);
      out = λ j v at e. absurd (let no : Waiting ≡ Holding = ap (λ (u : View I). u.turn) (only j v at) ∙ e in cc (no));
      slot = inr (y, refl, legal);
      one_event = inl (omega arith);
    };
    numbers = record {
      one_place = λ c. by_bool (λ b. ((if b then 1 else 0) + 0) + 0 ≤ 1) (same c []) (λ _. omega arith) (λ _. omega arith);
      kept = λ j v at _. subst (λ (u : View I). Keeps caller u [] × Keeps caller u u.seen) (only j v at) ((refl, tt), (refl, tt));
      others = λ c _. refl;
      fresh = λ j k v w at at' _. subst (λ (u : View I). Each (λ c. (n : ℕ) → u.splits ≤ n → ¬ IsPrefix (u.number ++ n ∷ []) c) (numbers w)) (only j v at)
          (subst (λ (u : View I). Each (λ c. (n : ℕ) → 0 ≤ n → ¬ IsPrefix ([] ++ n ∷ []) c) (numbers u)) (only k w at') ((λ n _ p. no_longer [] n p), tt));
      at_most_whole = λ e _. let same_power : 2 ^ (e - 0) ≡ 2 ^ e = let is : e - 0 ≡ e = omega arith in ap (λ n. 2 ^ n) is in omega arith;
      some_share = λ j v at _. subst (λ (u : View I). 0 < u.share.parts) (only j v at) (omega arith);
    };
    joined = record {
      rests = λ j v at. subst (λ (u : View I). Each (λ a. at_rest a.own) u.joined) (only j v at) tt;
      met = λ j v at. subst (λ (u : View I). IsPrefix u.met []) (only j v at) ([], refl);
    };
  }

  -- a look at how much was logged
  pub learns : (slots id : ℕ) (m : Sat) → m.0.spent ≡ false → Allows (Rule caller stands at_rest) slots id m 2 (λ x. x) (learned caller (step slots 2 0 0 none) m)
  learns slots id m live s r _ at _ = let v : View I = m.0 in let begun = r.past.begun id v at in (
    v,
    keeps,
    tt,
    unmoved s r 2 id m at,
    (refl, knows caller s.views id r.history v at live begun r.numbers, λ le. prefix_shorter v.met v.seen r.history (r.joined.met id v at) begun le),
  )

  -- a pass is split off
  pub splits : (id : ℕ) (v : View I) → IsAway v → Splits (Rule caller stands at_rest) id v (split_left v) (split_right v)
  splits id v away s r at = let l : View I = split_left v in let u : View I = split_right v in let vs : List (View I) = set s.views id l in let begun = r.past.begun id v at in record {
    next = r.next;
    serving = r.serving;
    logged = r.logged;
    history = r.history;
    words = r.words;
    queue = queue_more vs r.next r.serving u refl (queue_stays s.views id r.next r.serving v l at refl r.queue);
    past = past_more stands vs r.logged r.history u begun (past_stays stands s.views id r.logged r.history v l at refl (inl refl) r.past);
    hold = hold_more stands vs s.homes r.serving r.logged r.history u refl (hold_stays stands s.views s.homes id r.next r.serving r.logged r.history v at r.queue r.hold l away.1 away.1);
    numbers = numbers_split caller s.views id r.history v at away.2 begun r.numbers;
    joined = joined_split at_rest s.views id r.history v at r.joined;
  }

  -- a pass is joined into another one
  pub joins : (id : ℕ) (v : View I) (other : ℕ) (w : View I) → IsAway v → IsAway w → at_rest w.own → Joins (Rule caller stands at_rest) id v other w (joined_view v w) spent_view
  joins id v other w away away' still s r at ne there' = let b : View I = joined_view v w in let vs : List (View I) = set s.views id b in let there : At s.views other w = sym (set_else s.views id other b ne) ∙ there' in
      let begun = r.past.begun id v at in let begun' = r.past.begun other w there in let q = queue_stays s.views id r.next r.serving v b at refl r.queue in
      let h = hold_stays stands s.views s.homes id r.next r.serving r.logged r.history v at r.queue r.hold b away.1 away.1 in record {
        next = r.next;
        serving = r.serving;
        logged = r.logged;
        history = r.history;
        words = r.words;
        queue = queue_stays vs other r.next r.serving w spent_view there' (sym away'.0) q;
        past = past_join stands s.views id other r.logged r.history v w at away.2 ne there r.past;
        hold = hold_stays stands vs s.homes other r.next r.serving r.logged r.history w there' q h spent_view away'.1 refl;
        numbers = numbers_join caller s.views id other r.history v w at ne there' away.2 away'.2 begun begun' r.numbers;
        joined = joined_join at_rest s.views id other r.history v w at there begun begun' still r.joined;
      }
