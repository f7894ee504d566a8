-- What the rule says of numbers, own lists and shares, after a step.
use Rattle.std.proofs.Common.{◌≡◌, ℕ, ◌+◌, ◌-◌, ◌*◌, ◌^◌, ◌<◌, ◌≤◌, ◌≢◌, ◌⊎◌, Bool, true, false, if◌then◌else◌, List, [], ◌∷◌, ◌++◌, map, set, Option, sym, refl, ap, ◌∙◌, subst, ⊎_elim, arith, le_refl}
use mathlib.Core.Logic.{dite}
use mathlib.Core.List.{IsPrefix, append-nil, map-append}
use native.Mathlib.Decide.{ℕ_discrete}
use Rattle.device_lock.specs.declared.view.Account.{Account}
use Rattle.device_lock.specs.declared.view.View.{View}
use Rattle.device_lock.specs.declared.view.Turn.{Turn}
use Rattle.device_lock.specs.Lists.{At, Each, total, same, times}
use Rattle.device_lock.specs.Views.{IsWhole, numbers, with_item, split_left, split_right, joined_view, spent_view}
use Rattle.device_lock.specs.Numbers.{items_of, Keeps, Knows, places, shares, Numbers}
use Rattle.device_lock.proofs.Places.{all_set, all_snoc, here_set, all_unset, pairs_set, pairs_snoc}
use Rattle.atomic_table.proofs.Lists.{at_longer, set_else}
use Rattle.std.proofs.lemmas.Nat.{pow_pos}
use Rattle.std.proofs.Math.Nat.{mul-pos}
use Rattle.device_lock.proofs.Parts.{half_part, both_part, whole_part}
use Rattle.device_lock.proofs.Sums.{by_bool, total_set, total_append, part_of, two_of, total_none, total_one, each_map, each_zip, each_append, prefix_shorter, by_length}
use Rattle.device_lock.proofs.Callers.{same_self, same_is, not_same, times_none, times_here, items_mine, items_other, items_between, not_among, prefix_snoc, snoc_is, no_longer, prefix_front}

module _ {I : Type 0} where
  -- of a pass that was not joined into another one
  pub numbers_live : (v : View I) → v.spent ≡ false → numbers v ≡ v.number ∷ map (λ a. a.number) v.joined
  numbers_live v live = ap (λ (b : Bool). if b then [] else v.number ∷ map (λ a. a.number) v.joined) live

  pub places_same : (vs : List (View I)) (id : ℕ) (v w : View I) (c : List ℕ) → At vs id v → numbers w ≡ numbers v → places (set vs id w) c ≡ places vs c
  places_same vs id v w c at e = let s = total_set (λ u. times c (numbers u)) vs id v w at in let t = ap (times c) e in omega arith

  Stays : View I → View I → Type 0
  Stays v w = (w.number ≡ v.number) × (w.splits ≡ v.splits) × (w.joined ≡ v.joined) × (w.share ≡ v.share) × (w.spent ≡ v.spent)

module _ {I : Type 0} (caller : I → List ℕ) where
  -- What was seen, the ticket and the turn may change.
  pub numbers_stay : (vs : List (View I)) (id : ℕ) (history : List I) (v : View I) (h : List I) (o : Option ℕ) (t : Turn) → At vs id v → (h ≡ v.seen) ⊎ (h ≡ history)
      → Numbers vs caller history → Numbers (set vs id (record v { seen = h; ticket = o; turn = t })) caller history
  numbers_stay vs id history v h o t at new n = let w : View I = record v { seen = h; ticket = o; turn = t } in record {
    one_place = λ c. let s = places_same vs id v w c at refl in let m = n.one_place c in omega arith;
    kept = all_set (λ _ u. u.spent ≡ false → Keeps caller u history × Keeps caller u u.seen) vs id w
        (λ live. let k = n.kept id v at live in (k.0, ⊎_elim (λ (e : h ≡ v.seen). subst (Keeps caller v) (sym e) k.1) (λ (e : h ≡ history). subst (Keeps caller v) (sym e) k.0) new))
        (λ j u _ there. n.kept j u there);
    others = λ c none. n.others c (sym (places_same vs id v w c at refl) ∙ none);
    fresh = pairs_set (λ u z. u.spent ≡ false → Each (λ c. (m : ℕ) → u.splits ≤ m → ¬ IsPrefix (u.number ++ m ∷ []) c) (numbers z)) vs id w (n.fresh id id v v at at) (λ k z _ there. n.fresh id k v z at there)
        (λ j u _ there. n.fresh j id u v there at) (λ j k u z _ _ a b. n.fresh j k u z a b);
    at_most_whole = λ e small. let s : shares (set vs id w) e + v.share.parts * 2 ^ (e - v.share.halvings) ≡ shares vs e + v.share.parts * 2 ^ (e - v.share.halvings) = total_set (λ u. u.share.parts * 2 ^ (e - u.share.halvings)) vs id v w at in
        let m = n.at_most_whole e (all_unset (λ u. u.share.halvings ≤ e) vs id v w at (λ le. le) small) in omega arith;
    some_share = all_set (λ _ u. u.spent ≡ false → 0 < u.share.parts) vs id w (n.some_share id v at) (λ j u _ there. n.some_share j u there);
  }

  -- of accounts whose numbers are others, the items stay
  others_keep : (history : List I) (x : I) (accounts : List (Account I)) → times (caller x) (map (λ a. a.number) accounts) ≡ 0 → Each (λ a. items_of caller a.number history ≡ a.own) accounts
      → Each (λ a. items_of caller a.number (history ++ x ∷ []) ≡ a.own) accounts
  others_keep history x [] none each = tt
  others_keep history x (a ∷ rest) none each = let t = times_none (caller x) a.number (map (λ a. a.number) rest) none in (
    items_other caller a.number history x (not_same a.number (caller x) (λ e. let yes : same (caller x) a.number ≡ true = subst (λ c. same (caller x) c ≡ true) (sym e) (same_self (caller x)) in let both : true ≡ false = sym yes ∙ t.0 in cc (both))) ∙ each.0,
    others_keep history x rest t.1 each.1,
  )

  has_own : (v : View I) → v.spent ≡ false → times v.number (numbers v) ≡ 1 + times v.number (map (λ a. a.number) v.joined)
  has_own v live = ap (times v.number) (numbers_live v live) ∙ times_here v.number (map (λ a. a.number) v.joined)

  -- a number stands with one view, so no other view has it
  apart : (vs : List (View I)) (id j : ℕ) (history : List I) (v u : View I) → At vs id v → At vs j u → j ≢ id → v.spent ≡ false → Numbers vs caller history → times v.number (numbers u) ≡ 0
  apart vs id j history v u at there ne live n = let own = has_own v live in let two = two_of (λ u. times v.number (numbers u)) vs id j v u at there ne in let m = n.one_place v.number in omega arith

  -- A pass that has seen the whole history logs an item of its own.
  pub numbers_log : (vs : List (View I)) (id : ℕ) (history : List I) (v : View I) (x : I) → At vs id v → v.spent ≡ false → caller x ≡ v.number → v.seen ≡ history
      → Numbers vs caller history → Numbers (set vs id (with_item v x)) caller (history ++ x ∷ [])
  numbers_log vs id history v x at live mine whole n = let w : View I = with_item v x in let own = has_own v live in let here = part_of (λ u. times v.number (numbers u)) vs id v at in let most = n.one_place v.number in
      let k = (n.kept id v at live).0 in
      let mine_keeps : Keeps caller w (history ++ x ∷ []) = (
        items_mine caller v.number history x mine ∙ ap (λ l. l ++ x ∷ []) k.0,
        others_keep history x v.joined (ap (λ c. times c (map (λ a. a.number) v.joined)) mine ∙ omega arith) k.1,
      ) in record {
        one_place = λ c. let s = places_same vs id v w c at refl in let m = n.one_place c in omega arith;
        kept = all_set (λ _ u. u.spent ≡ false → Keeps caller u (history ++ x ∷ []) × Keeps caller u u.seen) vs id w
            (λ _. (mine_keeps, subst (λ l. Keeps caller w (l ++ x ∷ [])) (sym whole) mine_keeps))
            (λ j u ne there on. let was = n.kept j u there on in
            let none : times (caller x) (u.number ∷ map (λ a. a.number) u.joined) ≡ 0 = ap (λ c. times c (u.number ∷ map (λ a. a.number) u.joined)) mine ∙ (ap (times v.number) (sym (numbers_live u on)) ∙ apart vs id j history v u at there ne live n) in
            let head = times_none (caller x) u.number (map (λ a. a.number) u.joined) none in
            let differs : same u.number (caller x) ≡ false = not_same u.number (caller x) (λ e. let yes : same (caller x) u.number ≡ true = subst (λ c. same (caller x) c ≡ true) (sym e) (same_self (caller x)) in let both : true ≡ false = sym yes ∙ head.0 in cc (both)) in
            ((items_other caller u.number history x differs ∙ was.0.0, others_keep history x u.joined head.1 was.0.1), was.1));
        others = λ c none. let was : places vs c ≡ 0 = sym (places_same vs id v w c at refl) ∙ none in
            items_other caller c history x (not_same c (caller x) (λ e. let is : c ≡ v.number = e ∙ mine in let zero_there : places vs v.number ≡ 0 = ap (places vs) (sym is) ∙ was in omega arith)) ∙ n.others c was;
        fresh = pairs_set (λ u z. u.spent ≡ false → Each (λ c. (m : ℕ) → u.splits ≤ m → ¬ IsPrefix (u.number ++ m ∷ []) c) (numbers z)) vs id w (n.fresh id id v v at at) (λ k z _ there. n.fresh id k v z at there)
            (λ j u _ there. n.fresh j id u v there at) (λ j k u z _ _ a b. n.fresh j k u z a b);
        at_most_whole = λ e small. let s : shares (set vs id w) e + v.share.parts * 2 ^ (e - v.share.halvings) ≡ shares vs e + v.share.parts * 2 ^ (e - v.share.halvings) = total_set (λ u. u.share.parts * 2 ^ (e - u.share.halvings)) vs id v w at in
            let m = n.at_most_whole e (all_unset (λ u. u.share.halvings ≤ e) vs id v w at (λ le. le) small) in omega arith;
        some_share = all_set (λ _ u. u.spent ≡ false → 0 < u.share.parts) vs id w (n.some_share id v at) (λ j u _ there. n.some_share j u there);
      }

  -- the number of the pass that is split off was not given
  new_number : (vs : List (View I)) (id : ℕ) (history : List I) (v : View I) → At vs id v → v.spent ≡ false → Numbers vs caller history → places vs (v.number ++ v.splits ∷ []) ≡ 0
  new_number vs id history v at live n = let new : List ℕ = v.number ++ v.splits ∷ [] in total_none (λ u. times new (numbers u)) vs
      (λ j u there. not_among new (numbers u) (each_map (λ c. (m : ℕ) → v.splits ≤ m → ¬ IsPrefix (v.number ++ m ∷ []) c) (λ c. c ≢ new) (λ c f e. f v.splits (le_refl v.splits) ([], append-nil new ∙ sym e)) (numbers u) (n.fresh id j v u at there live)))

  -- The views after a split.
  pub numbers_split : (vs : List (View I)) (id : ℕ) (history : List I) (v : View I) → At vs id v → v.spent ≡ false → IsPrefix v.seen history → Numbers vs caller history
      → Numbers (set vs id (split_left v) ++ split_right v ∷ []) caller history
  numbers_split vs id history v at live begun n =
      let l : View I = split_left v in let r : View I = split_right v in let new : List ℕ = v.number ++ v.splits ∷ [] in let ws : List (View I) = set vs id l ++ r ∷ [] in
      let free = new_number vs id history v at live n in
      let below : (z : View I) → Each (λ c. (m : ℕ) → v.splits ≤ m → ¬ IsPrefix (v.number ++ m ∷ []) c) (numbers z) → Each (λ c. (m : ℕ) → 0 ≤ m → ¬ IsPrefix (new ++ m ∷ []) c) (numbers z) =
      λ z. each_map (λ c. (m : ℕ) → v.splits ≤ m → ¬ IsPrefix (v.number ++ m ∷ []) c) (λ c. (m : ℕ) → 0 ≤ m → ¬ IsPrefix (new ++ m ∷ []) c) (λ c f m _ p. f v.splits (le_refl v.splits) (prefix_front new c m p)) (numbers z) in
      let later : (z : View I) → Each (λ c. (m : ℕ) → v.splits ≤ m → ¬ IsPrefix (v.number ++ m ∷ []) c) (numbers z) → Each (λ c. (m : ℕ) → v.splits + 1 ≤ m → ¬ IsPrefix (v.number ++ m ∷ []) c) (numbers z) =
      λ z. each_map (λ c. (m : ℕ) → v.splits ≤ m → ¬ IsPrefix (v.number ++ m ∷ []) c) (λ c. (m : ℕ) → v.splits + 1 ≤ m → ¬ IsPrefix (v.number ++ m ∷ []) c) (λ c f m le p. f m (omega arith) p) (numbers z) in
      let F : View I → View I → Type 0 = λ u z. u.spent ≡ false → Each (λ c. (m : ℕ) → u.splits ≤ m → ¬ IsPrefix (u.number ++ m ∷ []) c) (numbers z) in
      let at_places : (c : List ℕ) → places ws c ≡ places vs c + times c (new ∷ []) = λ c. total_append (λ u. times c (numbers u)) (set vs id l) (r ∷ []) ∙ (let s = places_same vs id v l c at refl in omega arith) in record {
        one_place = λ c. let s = at_places c in let m = n.one_place c in by_bool (λ b. same c new ≡ b → places ws c ≤ 1) (same c new)
            (λ _ e. let is : c ≡ new = same_is c new e in let none : places vs c ≡ 0 = ap (places vs) is ∙ free in let once : times c (new ∷ []) ≡ 1 = ap (λ (b : Bool). (if b then 1 else 0) + 0) e in omega arith)
            (λ _ e. let none : times c (new ∷ []) ≡ 0 = ap (λ (b : Bool). (if b then 1 else 0) + 0) e in omega arith) refl;
        kept = all_snoc (λ _ u. u.spent ≡ false → Keeps caller u history × Keeps caller u u.seen) (set vs id l) r
            (λ _ _. let none = n.others new free in ((none, tt), (items_between caller new [] v.seen history [] (v.seen, refl) begun refl none, tt)))
            (all_set (λ _ u. u.spent ≡ false → Keeps caller u history × Keeps caller u u.seen) vs id l (n.kept id v at) (λ j u _ there. n.kept j u there));
        others = λ c none. let s = at_places c in n.others c (omega arith);
        fresh = pairs_snoc F (set vs id l) r (λ _. ((λ m _ p. no_longer new m p), tt))
            (all_set (λ _ z. F r z) vs id l (λ _. below v (n.fresh id id v v at at live)) (λ k z _ there _. below z (n.fresh id k v z at there live)))
            (all_set (λ _ u. F u r) vs id l
            (λ _. ((λ m le p. ⊎_elim (λ (q : IsPrefix (v.number ++ m ∷ []) v.number). no_longer v.number m q) (λ (e : v.number ++ m ∷ [] ≡ new). let is = (snoc_is v.number v.number m v.splits e).1 in omega arith) (prefix_snoc (v.number ++ m ∷ []) v.number v.splits p)), tt))
            (λ j u ne there on. (
              (λ m le p. ⊎_elim
                  (λ (q : IsPrefix (u.number ++ m ∷ []) v.number). (subst (Each (λ c. (m : ℕ) → u.splits ≤ m → ¬ IsPrefix (u.number ++ m ∷ []) c)) (numbers_live v live) (n.fresh j id u v there at on)).0 m le q)
                  (λ (e : u.number ++ m ∷ [] ≡ new). let is = (snoc_is u.number v.number m v.splits e).0 in let none = apart vs id j history v u at there ne live n in let one = has_own u on in
                  let none' : times u.number (numbers u) ≡ 0 = ap (λ c. times c (numbers u)) is ∙ none in omega arith)
                  (prefix_snoc (u.number ++ m ∷ []) v.number v.splits p)),
              tt,
            )))
            (pairs_set F vs id l (λ _. later v (n.fresh id id v v at at live)) (λ k z _ there _. later z (n.fresh id k v z at there live)) (λ j u _ there on. n.fresh j id u v there at on) (λ j k u z _ _ a b. n.fresh j k u z a b));
        at_most_whole = λ e small. let small_set : (j : ℕ) (u : View I) → At (set vs id l) j u → u.share.halvings ≤ e = λ j u there. small j u (at_longer (set vs id l) (r ∷ []) j u there) in
            let fits : v.share.halvings + 1 ≤ e = small_set id l (here_set vs id v l at) in
            let m = n.at_most_whole e (all_unset (λ u. u.share.halvings ≤ e) vs id v l at (λ le. omega arith) small_set) in
            let f : View I → ℕ = λ u. u.share.parts * 2 ^ (e - u.share.halvings) in
            let a : shares ws e ≡ shares (set vs id l) e + (f r + 0) = total_append f (set vs id l) (r ∷ []) in
            let s : shares (set vs id l) e + f v ≡ shares vs e + f l = total_set f vs id v l at in
            let h : f v ≡ f l + f l = half_part v.share.parts v.share.halvings e fits in
            let t : f r ≡ f l = refl in omega arith;
        some_share = all_snoc (λ _ u. u.spent ≡ false → 0 < u.share.parts) (set vs id l) r (λ _ _. n.some_share id v at live)
            (all_set (λ _ u. u.spent ≡ false → 0 < u.share.parts) vs id l (n.some_share id v at) (λ j u _ there. n.some_share j u there));
      }

  numbers_both : (v w : View I) → v.spent ≡ false → w.spent ≡ false → numbers (joined_view v w) ≡ numbers v ++ numbers w
  numbers_both v w live live' = numbers_live (joined_view v w) live ∙ (ap (λ (ns : List (List ℕ)). v.number ∷ ns) (map-append (λ (a : Account I). a.number) v.joined (record { number = w.number; own = w.own } ∷ w.joined))
      ∙ λ k. sym (numbers_live v live) k ++ sym (numbers_live w live') k)

  both_keep : (v w : View I) (h : List I) → Keeps caller v h → Keeps caller w h → Keeps caller (joined_view v w) h
  both_keep v w h a b = (a.0, each_append (λ (c : Account I). items_of caller c.number h ≡ c.own) v.joined (record { number = w.number; own = w.own } ∷ w.joined) a.1 (b.0, b.1))

  -- what is kept of the beginning that was seen, and of the whole, is kept of what lies between
  pub raised : (u : View I) (h history : List I) → IsPrefix u.seen h → IsPrefix h history → Keeps caller u u.seen → Keeps caller u history → Keeps caller u h
  raised u h history p q low high = (
    items_between caller u.number u.seen h history u.own p q low.0 high.0,
    each_zip (λ a. items_of caller a.number u.seen ≡ a.own) (λ a. items_of caller a.number history ≡ a.own) (λ a. items_of caller a.number h ≡ a.own) (λ a. items_between caller a.number u.seen h history a.own p q) u.joined low.1 high.1,
  )

  -- The views after a join.
  pub numbers_join : (vs : List (View I)) (id other : ℕ) (history : List I) (v w : View I) → At vs id v → other ≢ id → At (set vs id (joined_view v w)) other w → v.spent ≡ false → w.spent ≡ false → IsPrefix v.seen history → IsPrefix w.seen history
      → Numbers vs caller history → Numbers (set (set vs id (joined_view v w)) other spent_view) caller history
  numbers_join vs id other history v w at ne there live live' begun begun' n =
      let b : View I = joined_view v w in let s : View I = spent_view in let ws : List (View I) = set vs id b in let us : List (View I) = set ws other s in
      let there' : At vs other w = sym (set_else vs id other b ne) ∙ there in let kv = n.kept id v at live in let kw = n.kept other w there' live' in
      let F : View I → View I → Type 0 = λ u z. u.spent ≡ false → Each (λ c. (m : ℕ) → u.splits ≤ m → ¬ IsPrefix (u.number ++ m ∷ []) c) (numbers z) in
      let K : View I → Type 0 = λ u. u.spent ≡ false → Keeps caller u history × Keeps caller u u.seen in
      let same_places : (c : List ℕ) → places us c ≡ places vs c = λ c. let f : View I → ℕ = λ u. times c (numbers u) in
      let one : total f ws + f v ≡ total f vs + f b = total_set f vs id v b at in let two : total f us + f w ≡ total f ws + 0 = total_set f ws other w s there in
      let sum : f b ≡ f v + f w = ap (times c) (numbers_both v w live live') ∙ total_append (λ m. if same c m then 1 else 0) (numbers v) (numbers w) in omega arith in
      let on_both : (u : View I) → u.spent ≡ false → Each (λ c. (m : ℕ) → u.splits ≤ m → ¬ IsPrefix (u.number ++ m ∷ []) c) (numbers v) → Each (λ c. (m : ℕ) → u.splits ≤ m → ¬ IsPrefix (u.number ++ m ∷ []) c) (numbers w)
      → Each (λ c. (m : ℕ) → u.splits ≤ m → ¬ IsPrefix (u.number ++ m ∷ []) c) (numbers b) =
      λ u _ d e. subst (Each (λ c. (m : ℕ) → u.splits ≤ m → ¬ IsPrefix (u.number ++ m ∷ []) c)) (sym (numbers_both v w live live')) (each_append (λ c. (m : ℕ) → u.splits ≤ m → ¬ IsPrefix (u.number ++ m ∷ []) c) (numbers v) (numbers w) d e) in
      record {
        one_place = λ c. let p = same_places c in let m = n.one_place c in omega arith;
        kept = all_set (λ _ u. K u) ws other s (λ e. absurd (cc (e)))
            (λ j u _ a. all_set (λ _ u. K u) vs id b
            (λ _. (
              both_keep v w history kv.0 kw.0,
              by_length (λ long short. Keeps caller b long) v.seen w.seen
                  (λ less. both_keep v w w.seen (raised v w.seen history (prefix_shorter v.seen w.seen history begun begun' (omega arith)) begun' kv.1 kv.0) kw.1)
                  (λ more. both_keep v w v.seen kv.1 (raised w v.seen history (prefix_shorter w.seen v.seen history begun' begun more) begun kw.1 kw.0)),
            ))
            (λ j u _ a. n.kept j u a) j u a);
        others = λ c none. n.others c (sym (same_places c) ∙ none);
        fresh = pairs_set F ws other s (λ e. absurd (cc (e))) (λ k z _ a e. absurd (cc (e))) (λ j u _ a _. tt)
            (λ j k u z _ _ a a'. pairs_set F vs id b (λ _. on_both b live (n.fresh id id v v at at live) (n.fresh id other v w at there' live)) (λ k z _ a _. n.fresh id k v z at a live)
            (λ j u _ a on. on_both u on (n.fresh j id u v a at on) (n.fresh j other u w a there' on)) (λ j k u z _ _ a a'. n.fresh j k u z a a') j k u z a a');
        at_most_whole = λ e small. let back : id ≢ other = λ is. ne (sym is) in
            let fits : v.share.halvings + w.share.halvings ≤ e = small id b (set_else ws other id s back ∙ here_set vs id v b at) in
            let small' = all_unset (λ u. u.share.halvings ≤ e) ws other w s there (λ _. omega arith) small in
            let m = n.at_most_whole e (all_unset (λ u. u.share.halvings ≤ e) vs id v b at (λ _. omega arith) small') in
            let f : View I → ℕ = λ u. u.share.parts * 2 ^ (e - u.share.halvings) in
            let one : total f ws + f v ≡ total f vs + f b = total_set f vs id v b at in let two : total f us + f w ≡ total f ws + f s = total_set f ws other w s there in
            let none : f s ≡ 0 = omega arith in
            let sum : f b ≡ f v + f w = both_part v.share.parts v.share.halvings w.share.parts w.share.halvings e fits in omega arith;
        some_share = all_set (λ _ u. u.spent ≡ false → 0 < u.share.parts) ws other s (λ e. absurd (cc (e)))
            (λ j u _ a. all_set (λ _ u. u.spent ≡ false → 0 < u.share.parts) vs id b (λ _. let p : 0 < v.share.parts * 2 ^ w.share.halvings = mul-pos (n.some_share id v at live) (pow_pos w.share.halvings) in omega arith) (λ j u _ a. n.some_share j u a) j u a);
      }

  -- each item has a number that counts, where numbers that don't have no item
  pub stray_from : (f : List ℕ → ℕ) (xs : List I) → ((c : List ℕ) → f c ≡ 0 → items_of caller c xs ≡ []) → Each (λ x. 0 < f (caller x)) xs
  stray_from f [] none = tt
  stray_from f (x ∷ xs) none = (
    dite (ℕ_discrete (f (caller x)) 0)
        (λ z. let all : (if same (caller x) (caller x) then x ∷ items_of caller (caller x) xs else items_of caller (caller x) xs) ≡ [] = none (caller x) z in
        let first : x ∷ items_of caller (caller x) xs ≡ [] = sym (ap (λ (b : Bool). if b then x ∷ items_of caller (caller x) xs else items_of caller (caller x) xs) (same_self (caller x))) ∙ all in absurd (cc (first)))
        (λ some_there. omega arith),
    stray_from f xs (λ c z. by_bool (λ b. (if b then x ∷ items_of caller c xs else items_of caller c xs) ≡ [] → items_of caller c xs ≡ []) (same c (caller x)) (λ _ e. absurd (cc (e))) (λ _ e. e) (none c z)),
  )

  -- beside the whole share there is no other
  pub no_other : (vs : List (View I)) (id j : ℕ) (history : List I) (v u : View I) → At vs id v → At vs j u → j ≢ id → u.spent ≡ false → IsWhole v.share → Numbers vs caller history → ⊥
  no_other vs id j history v u at there ne on all n = let e : ℕ = total (λ u. u.share.halvings) vs in let f : View I → ℕ = λ u. u.share.parts * 2 ^ (e - u.share.halvings) in
      let most : shares vs e ≤ 2 ^ e = n.at_most_whole e (λ k z a. part_of (λ u. u.share.halvings) vs k z a) in
      let two : f v + f u ≤ total f vs = two_of f vs id j v u at there ne in
      let mine : f v ≡ 2 ^ e = ap (λ p. p * 2 ^ (e - v.share.halvings)) all ∙ whole_part v.share.halvings e (part_of (λ u. u.share.halvings) vs id v at) in
      let more : 0 < f u = mul-pos (n.some_share j u there on) (pow_pos (e - u.share.halvings)) in omega arith

  -- two passes have two numbers
  pub one_number : (vs : List (View I)) (id j : ℕ) (history : List I) (v u : View I) → At vs id v → At vs j u → v.spent ≡ false → u.spent ≡ false → u.number ≡ v.number → Numbers vs caller history → j ≡ id
  one_number vs id j history v u at there live on is n = dite (ℕ_discrete j id) (λ e. e) (λ ne. let none = apart vs id j history v u at there ne live n in let one = has_own u on in
      let none' : times u.number (numbers u) ≡ 0 = ap (λ c. times c (numbers u)) is ∙ none in absurd (omega arith))

  -- Who has the whole share keeps each number that was given.
  alone : (vs : List (View I)) (id : ℕ) (history : List I) (v : View I) (c : List ℕ) → At vs id v → IsWhole v.share → Numbers vs caller history → places vs c ≡ times c (numbers v)
  alone vs id history v c at all n = total_one (λ u. times c (numbers u)) vs id v at (λ j u ne there. by_bool (λ b. u.spent ≡ b → times c (numbers u) ≡ 0) u.spent
      (λ _ gone. ap (λ (b : Bool). times c (if b then [] else u.number ∷ map (λ a. a.number) u.joined)) gone)
      (λ _ on. absurd (no_other vs id j history v u at there ne on all n)) refl)

  -- What the rule tells a pass of what it has seen.
  pub knows : (vs : List (View I)) (id : ℕ) (history : List I) (v : View I) → At vs id v → v.spent ≡ false → IsPrefix v.seen history → Numbers vs caller history → Knows caller v
  knows vs id history v at live begun n = ((n.kept id v at live).1, n.some_share id v at live, λ all. stray_from (λ c. times c (numbers v)) v.seen (λ c none. items_between caller c [] v.seen history [] (v.seen, refl) begun refl (n.others c (alone vs id history v c at all n ∙ none))))

  -- A beginning of the history has only numbers that were given.
  pub are_given : (vs : List (View I)) (history xs : List I) → IsPrefix xs history → Numbers vs caller history → Each (λ x. 0 < places vs (caller x)) xs
  are_given vs history xs begun n = stray_from (λ c. places vs c) xs (λ c none. items_between caller c [] xs history [] (xs, refl) begun refl (n.others c none))
