-- As many surfaces are kept as the state counts, and they aren't many.
use Rattle.std.proofs.Common.{◌≡◌, ℕ, zero, suc, ◌+◌, ◌≤◌, ◌==◌, ◌&&◌, ◌||◌, Bool, true, false, if◌then◌else◌, List, [], ◌∷◌, length, slice_get, Option, Some, None, true≢false, refl, sym, ap, ◌∙◌, subst, arith}
use Rattle.std.specs.List.{AllByRecursion, IsDistinct, cons_option, count_by, enumerate_from, filter_map, list_any}
use Rattle.std.specs.Option.{is_some}
use Rattle.std.proofs.Math.Logic.{∥∥₁_elim}
use Rattle.std.proofs.lemmas.Bool.Decides.{nat_tests}
use Rattle.std.proofs.lemmas.List.Sums.{sum_by-cons}
use Rattle.std.proofs.lemmas.Map.Keys.{IsDistinct-cons}
use Rattle.std.proofs.lemmas.Map.Steps.{length-le_from_distinct_below}
use Rattle.std.proofs.lemmas.Option.{none-some}
use Rattle.driver_model.specs.Kept.{is_in_queue, is_kept}
use Rattle.driver_model.specs.Objects as model
use Rattle.driver_model.specs.States.{State}
use Rattle.driver_objects.specs.Counted.{has_picture}
use Rattle.driver_objects.specs.Kept.{kept_of}
use Rattle.driver_objects.specs.Kinds.{holder_of, kind_number}
use Rattle.driver_objects.specs.declared.content.Content.{Content}
use Rattle.driver_objects.specs.declared.content.Content.TheVariants as content
use Rattle.driver_objects.specs.declared.object.Object.{Object}
use Rattle.driver_objects.proofs.Counting.{same_count}
use Rattle.driver_objects.proofs.Lists.{element_is}
use Rattle.driver_core.specs.Stands.{Stands, is_owed}
use Rattle.driver_core.specs.declared.driver.Core.{Core}
use Rattle.driver_core.proofs.Named.{kinds_same, one_at}

-- ---- places

module _ {X : Type 0} where
  place_of : (from : ℕ) (xs : List X) (p : ℕ) (entry : ℕ × X) → slice_get (enumerate_from from xs) p ≡ Some entry → (entry.0 ≡ from + p) × (slice_get xs p ≡ Some entry.1)
  place_of from [] p entry at = absurd (none-some entry at)
  place_of from (x ∷ xs) zero entry at = let same : (from, x) ≡ entry = element_is (from, x) entry at in (sym (ap (λ (e : ℕ × X). e.0) same) ∙ omega arith, ap (λ (e : ℕ × X). Some e.1) same)
  place_of from (x ∷ xs) (suc p) entry at = let l = place_of (from + 1) xs p entry at in (omega (arith, l.0), l.1)

  entry_at : (from : ℕ) (xs : List X) (p : ℕ) (x : X) → slice_get xs p ≡ Some x → slice_get (enumerate_from from xs) p ≡ Some (from + p, x)
  entry_at from [] p x at = absurd (none-some x at)
  entry_at from (y ∷ xs) zero x at = let e : from ≡ from + 0 = omega arith in λ i. Some (e i, element_is y x at i)
  entry_at from (y ∷ xs) (suc p) x at = let e : from + 1 + p ≡ from + suc p = omega arith in entry_at (from + 1) xs p x at ∙ ap (λ k. Some (k, x)) e

-- ---- surfaces by their kinds

abbrev is_picture_kind : ℕ → Bool
is_picture_kind kind = kind == 1 || kind == 2

kept_kind : (what : Content) → has_picture what ≡ is_picture_kind (kind_number what)
kept_kind (content.Device of) = refl
kept_kind (content.Video of) = refl
kept_kind (content.Output of) = refl
kept_kind (content.Decoder of) = refl
kept_kind (content.Mixer of) = refl
kept_kind (content.Queue of) = refl

abbrev has_surface : model.Content → Bool
has_surface what = is_some (model.as_video what) || is_some (model.as_output what)

state_kind : (what : model.Content) → has_surface what ≡ is_picture_kind (model.kind_number what)
state_kind (model.DeviceObject of) = refl
state_kind (model.VideoObject of) = refl
state_kind (model.OutputObject of) = refl
state_kind (model.DecoderObject of) = refl
state_kind (model.MixerObject of) = refl
state_kind (model.QueueObject of) = refl

module _ (core : Core) (d : State) (stands : Stands core d) where
  abbrev counts : Object → Bool
  counts object = has_picture object.content

  -- as many are kept as the state counts
  pub surfaces_same : count_by (λ (object : Object). has_picture object.content) (kept_of core.objects) ≡ count_by (is_kept d) (enumerate_from 0 d.objects)
  surfaces_same = same_count counts (is_kept d) (λ (object : Object). object.place) 0 (kept_of core.objects) (enumerate_from 0 d.objects) (record {
    rising = core.objects.sound.rising;
    least = λ i a at. omega arith;
    there = λ i a at passes.
        let k = stands.kept i a at in
        let kinds = kinds_same core.queues (is_owed d a.place) k.0.content a.content k.3.content in
        let same : has_surface k.0.content ≡ true = state_kind k.0.content ∙ (ap is_picture_kind kinds ∙ (sym (kept_kind a.content) ∙ passes)) in
        (a.place, (a.place, k.0), omega arith, entry_at 0 d.objects a.place k.0 k.1 ∙ ap (λ n. Some (n, k.0)) (omega arith), both (has_surface k.0.content) (k.0.is_live || is_in_queue d a.place) same k.2);
    back = λ p entry at passes.
        let e = place_of 0 d.objects p entry at in
        let parts = each (has_surface entry.1.content) (entry.1.is_live || is_in_queue d entry.0) passes in
        let here : entry.0 ≡ p = omega (arith, e.0) in
        let n = stands.needed p entry.1 e.1 (subst (λ q. (entry.1.is_live || is_in_queue d q) ≡ true) here parts.1) in
        let k = stands.kept n.0 n.1 n.2 in
        let one : k.0 ≡ entry.1 = one_at d.objects p k.0 entry.1 (subst (λ q. slice_get d.objects q ≡ Some k.0) n.3 k.1) e.1 in
        let kinds = kinds_same core.queues (is_owed d n.1.place) k.0.content n.1.content k.3.content in
        let same : has_picture n.1.content ≡ true = kept_kind n.1.content ∙ (ap is_picture_kind (sym kinds) ∙ (sym (state_kind k.0.content) ∙ (ap (λ (o : model.Object). has_surface o.content) one ∙ parts.0))) in
        (n.0, n.1, n.2, omega (arith, n.3), same);
  })
    where
      both : (a b : Bool) → a ≡ true → b ≡ true → (a && b) ≡ true
      both true b is so = so
      both false b is so = is

      each : (a b : Bool) → (a && b) ≡ true → (a ≡ true) × (b ≡ true)
      each true b is = (refl, is)
      each false b is = absurd (true≢false (sym is))

-- ---- how many there are at most

abbrev holder_in : Object → Option ℕ
holder_in object = holder_of object.content

holder_there : (kept : List Object) (holder : ℕ) → list_any (λ own. holder == own) (filter_map holder_in kept) ≡ true → (i : ℕ) × (object : Object) × (slice_get kept i ≡ Some object) × (holder_in object ≡ Some holder)
holder_there [] holder any = absurd (true≢false (sym any))
holder_there (first ∷ later) holder any = by_first (holder_in first) refl any (holder_there later holder) where
  by_first : (o : Option ℕ) → holder_in first ≡ o → list_any (λ own. holder == own) (cons_option o (filter_map holder_in later)) ≡ true
      → (list_any (λ own. holder == own) (filter_map holder_in later) ≡ true → (i : ℕ) × (object : Object) × (slice_get later i ≡ Some object) × (holder_in object ≡ Some holder))
      → (i : ℕ) × (object : Object) × (slice_get (first ∷ later) i ≡ Some object) × (holder_in object ≡ Some holder)
  by_first None is any further = let f = further any in (suc f.0, f.1, f.2, f.3)
  by_first (Some own) is any further = by_test (holder == own) refl any where
    by_test : (b : Bool) → (holder == own) ≡ b → (b || list_any (λ o. holder == o) (filter_map holder_in later)) ≡ true → (i : ℕ) × (object : Object) × (slice_get (first ∷ later) i ≡ Some object) × (holder_in object ≡ Some holder)
    by_test true test any = let same : own ≡ holder = grind (arith, nat_tests, test) in (0, first, refl, is ∙ ap Some same)
    by_test false test any = let f = further any in (suc f.0, f.1, f.2, f.3)

-- no two of them have one holder
abbrev AreApart : List Object → Type 0
AreApart kept = (i j : ℕ) (a b : Object) (holder : ℕ) → slice_get kept i ≡ Some a → slice_get kept j ≡ Some b → holder_in a ≡ Some holder → holder_in b ≡ Some holder → i ≡ j

none_equal : (holder : ℕ) (others : List ℕ) → (list_any (λ own. holder == own) others ≡ true → ⊥) → AllByRecursion (λ own. (holder == own) ≡ false) others
none_equal holder [] none = tt
none_equal holder (own ∷ others) none = (by_test (holder == own) refl, none_equal holder others (λ any. none (second (holder == own) (list_any (λ o. holder == o) others) any))) where
  second : (a b : Bool) → b ≡ true → (a || b) ≡ true
  second true b is = refl
  second false b is = is

  by_test : (b : Bool) → (holder == own) ≡ b → b ≡ false
  by_test true test = absurd (none (ap (λ t. t || list_any (λ o. holder == o) others) test))
  by_test false test = refl

holders_distinct : (kept : List Object) → AreApart kept → IsDistinct (λ a b. a == b) (filter_map holder_in kept)
unfolding IsDistinct
holders_distinct [] apart = tt
holders_distinct (first ∷ later) apart = by_first (holder_in first) refl (holders_distinct later (λ i j a b holder at bt ah bh. let e = apart (suc i) (suc j) a b holder at bt ah bh in omega (arith, e))) where
  by_first : (o : Option ℕ) → holder_in first ≡ o → IsDistinct (λ a b. a == b) (filter_map holder_in later) → IsDistinct (λ a b. a == b) (cons_option o (filter_map holder_in later))
  by_first None is rest = rest
  by_first (Some holder) is rest =
      IsDistinct-cons (λ a b. a == b) holder (filter_map holder_in later)
      (none_equal holder (filter_map holder_in later) (λ any. let t = holder_there later holder any in let e = apart 0 (suc t.0) first t.1 holder refl t.2 is t.3 in absurd (omega (arith, e))))
      rest

one_more : (shows lives : Bool) (holder : Option ℕ) (rest : List ℕ) (before all live_before live : ℕ) → (lives ≡ false → holder ≡ None → ⊥) → before ≤ live_before + length rest
    → all ≡ (if shows then 1 else 0) + before → live ≡ (if lives then 1 else 0) + live_before → all ≤ live + length (cons_option holder rest)
one_more true true None rest before all live_before live dead le a l = omega (arith, le, a, l)
one_more true true (Some h) rest before all live_before live dead le a l = omega (arith, le, a, l)
one_more true false None rest before all live_before live dead le a l = absurd (dead refl refl)
one_more true false (Some h) rest before all live_before live dead le a l = omega (arith, le, a, l)
one_more false true None rest before all live_before live dead le a l = omega (arith, le, a, l)
one_more false true (Some h) rest before all live_before live dead le a l = omega (arith, le, a, l)
one_more false false None rest before all live_before live dead le a l = omega (arith, le, a, l)
one_more false false (Some h) rest before all live_before live dead le a l = omega (arith, le, a, l)

few_by : (kept : List Object) → ((i : ℕ) (object : Object) → slice_get kept i ≡ Some object → object.is_live ≡ false → holder_in object ≡ None → ⊥)
    → count_by (λ (object : Object). has_picture object.content) kept ≤ count_by (λ (object : Object). object.is_live) kept + length (filter_map holder_in kept)
few_by [] dead = omega arith
few_by (first ∷ later) dead =
    one_more (has_picture first.content) first.is_live (holder_in first) (filter_map holder_in later)
    (count_by (λ (object : Object). has_picture object.content) later) (count_by (λ (object : Object). has_picture object.content) (first ∷ later))
    (count_by (λ (object : Object). object.is_live) later) (count_by (λ (object : Object). object.is_live) (first ∷ later))
    (dead 0 first refl) (few_by later (λ i. dead (suc i)))
    (sum_by-cons (λ (o : Object). if has_picture o.content then 1 else 0) first later) (sum_by-cons (λ (o : Object). if o.is_live then 1 else 0) first later)

no_two : (a b : ⊥) → a ≡ b
no_two a b = absurd a

-- 1,024 objects live at most, and each destroyed one that is kept has a holder of its own
pub surfaces_few : (core : Core) → count_by (λ (object : Object). has_picture object.content) (kept_of core.objects) ≤ 6208
surfaces_few core =
    let kept = kept_of core.objects in
    let all = few_by kept (λ i object at dead none. ∥∥₁_elim (core.sound.named i object at dead) no_two (λ n. none-some n.0 (sym none ∙ n.1))) in
    let live = core.objects.sound.counted in
    let few = core.objects.sound.few in
    let holders = length-le_from_distinct_below (filter_map holder_in kept) 5184 (holders_distinct kept core.sound.holders_apart)
    (λ holder any. let t = holder_there kept holder any in core.sound.holders t.0 t.1 holder t.2 t.3) in
    omega (arith, all, live, few, holders)
