-- How the pictures that came stand in the output order.
use Rattle.std.proofs.Common.{◌≡◌, ◌≢◌, ℕ, ◌+◌, ◌<◌, Bool, true, false, if◌then◌else◌, List, [], ◌∷◌, ◌++◌, length, ℤ, Option, Some, None, is_some, Result, Ok, Err, is_err, OnOk, refl, sym, ap, ◌∙◌, arith}
use Rattle.std.proofs.lemmas.List.{length-append, length-map}
use Rattle.marking.specs.Begun.{begun_of}
use Rattle.marking.specs.declared.begun.Begun.{Begun}
use Rattle.marking.specs.declared.marker.Marker.{Marker}
use Rattle.output_order.specs.OutputOrder as order
use Rattle.output_order.specs.OutputOrder.{History, MayPush, arriving, has_settled, in_order, is_late, popping, pushing}
use Rattle.output_order.specs.Waiting as waiting
use Rattle.output_order.specs.declared.waiting.Waiting.{Waiting}
use Rattle.param_sets.specs.declared.sps.Sps.{Sps}
use Rattle.access_units.specs.Depth.{depth_of}
use Rattle.access_units.specs.Pictures.{Picture, ordered, ordered_behind, periods, with_count}
use Rattle.access_units.specs.Stands.{HasItsSet, IsLater, IsOrdered, last_set}
use Rattle.access_units.specs.declared.content.Named.{Named}
use Rattle.access_units.proofs.PictureLemmas.{begun_idr}

abbrev order_picture : ℕ → ℤ → ℕ → order.Picture
order_picture number count period = record { number = number; count = count; period = period }

pub arriving_behind : (h : History) (before : List Picture) (begun : Begun) (number : ℕ) (count : ℤ) → IsOrdered h before → number ≡ length before → count ≡ begun.poc
    → arriving h number count begun.period ≡ ordered_behind before begun
arriving_behind h before begun number count o here same =
    ap (λ (n : ℕ). order_picture n count (if begun.period then h.period + 1 else h.period)) here
    ∙ ap (λ (z : ℤ). order_picture (length before) z (if begun.period then h.period + 1 else h.period)) same
    ∙ ap (λ (p : ℕ). order_picture (length before) begun.poc (if begun.period then p + 1 else p)) o.period

pub late_behind : (h : History) (before : List Picture) (begun : Begun) (number : ℕ) (count : ℤ) (depth : ℕ) (sps : Sps) → IsOrdered h before → number ≡ length before → count ≡ begun.poc
    → depth ≡ depth_of sps → is_late depth h.pushed (arriving h number count begun.period) ≡ is_late (depth_of sps) (ordered before) (ordered_behind before begun)
late_behind h before begun number count depth sps o here same deep =
    ap (λ (p : order.Picture). is_late depth h.pushed p) (arriving_behind h before begun number count o here same)
    ∙ ap (λ (xs : List order.Picture). is_late depth xs (ordered_behind before begun)) o.pushed
    ∙ ap (λ (d : ℕ). is_late d (ordered before) (ordered_behind before begun)) deep

-- what a push told
pub in_time : (h : History) (before : List Picture) (begun : Begun) (number : ℕ) (count : ℤ) (depth : ℕ) (sps : Sps) (late : Bool) → IsOrdered h before → number ≡ length before → count ≡ begun.poc
    → depth ≡ depth_of sps → late ≡ is_late depth h.pushed (arriving h number count begun.period) → is_late (depth_of sps) (ordered before) (ordered_behind before begun) ≡ late
in_time h before begun number count depth sps late o here same deep told = sym (told ∙ late_behind h before begun number count depth sps o here same deep)

pub late_again : (before : List Picture) (sps : Sps) (begun one : Begun) → one ≡ begun → is_late (depth_of sps) (ordered before) (ordered_behind before begun) ≡ false
    → is_late (depth_of sps) (ordered before) (ordered_behind before one) ≡ false
late_again before sps begun one same e = ap (λ (b : Begun). is_late (depth_of sps) (ordered before) (ordered_behind before b)) same ∙ e

-- ---- it may be pushed

some_set : (a b : Sps) → Some a ≡ Some b → a ≡ b
some_set a b e = cc

depth_kept : (h : History) (before : List Picture) (sps : Sps) (depth : ℕ) → IsOrdered h before → last_set before ≡ Some sps → h.pushed ≢ [] → depth ≡ depth_of sps → depth ≡ h.depth
unfolding ordered
depth_kept h [] sps depth o e some deep = absurd (some o.pushed)
depth_kept h (last ∷ before) sps depth o e some deep = deep ∙ ap depth_of (sym (some_set last.sps sps e)) ∙ sym o.depth

pub may_push : (h : History) (before : List Picture) (marker : Marker) (named : Named) (begun : Begun) (depth : ℕ) (last : Option Sps) → IsOrdered h before → last ≡ last_set before → HasItsSet last named
    → begun_of marker named.sps named.pps named.header ≡ Ok begun → depth ≡ depth_of named.sps → MayPush h begun.period depth
may_push h before marker named begun depth last o is has e deep = record {
  nothing_settled = o.nothing_settled;
  not_ended = o.not_ended;
  same_depth = λ none some. depth_kept h before named.sps depth o (sym is ∙ has (begun_idr marker named.sps named.pps named.header begun e none)) some deep;
}

-- ---- pushed, and those come out whose turn is settled

pub ordered_more : (h after : History) (before : List Picture) (named : Named) (begun : Begun) (picture : Picture) (slices : ℕ) (number : ℕ) (count : ℤ) (depth : ℕ) → IsOrdered h before
    → number ≡ length before → count ≡ begun.poc → depth ≡ depth_of named.sps → picture.sps ≡ named.sps → picture.begun ≡ with_count slices begun
    → IsLater (pushing h (arriving h number count begun.period) depth) after → has_settled after ≡ false → IsOrdered after (picture ∷ before)
unfolding ordered periods
ordered_more h after before named begun picture slices number count depth o here same deep set is later none =
    let period : begun.period ≡ picture.begun.period = sym (ap (λ (b : Begun). b.period) is) in
    let poc : begun.poc ≡ picture.begun.poc = sym (ap (λ (b : Begun). b.poc) is) in
    let one : arriving h number count begun.period ≡ ordered_behind before picture.begun =
    arriving_behind h before begun number count o here same
    ∙ ap (λ (z : ℤ). order_picture (length before) z (if begun.period then periods before + 1 else periods before)) poc
    ∙ ap (λ (b : Bool). order_picture (length before) picture.begun.poc (if b then periods before + 1 else periods before)) period in
    record {
      pushed = later.pushed ∙ ap (λ (xs : List order.Picture). xs ++ arriving h number count begun.period ∷ []) o.pushed ∙ ap (λ (p : order.Picture). ordered before ++ p ∷ []) one;
      period = later.period ∙ ap (λ (p : order.Picture). p.period) one;
      nothing_settled = none;
      not_ended = later.ended ∙ o.not_ended;
      depth = later.depth ∙ deep ∙ ap depth_of (sym set);
    }

pub later_same : (h : History) → IsLater h h
later_same h = record { pushed = refl; period = refl; depth = refl; ended = refl }

pub later_popped : (h after : History) (number : Option ℕ) → IsLater h after → IsLater h (popping after number)
later_popped h after None l = l
later_popped h after (Some number) l = record { pushed = l.pushed; period = l.period; depth = l.depth; ended = l.ended }

-- as many wait as came and didn't come out
waiting_of : (w : Waiting) (h : History) → waiting.StandsFor w h → w.length + length h.out ≡ length (in_order h.pushed)
waiting_of w h s =
    let all = ap length s.ordered ∙ length-append s.came (s.before ++ s.now) in
    let out = ap length s.out ∙ length-map s.came (λ (one : order.Picture). one.number) in
    omega (arith, all, out, s.counted)

pub fewer_wait : (w after : Waiting) (h : History) (number : ℕ) → waiting.StandsFor w h → waiting.StandsFor after (popping h (Some number)) → after.length < w.length
fewer_wait w after h number s t =
    let before = waiting_of w h s in
    let behind = waiting_of after (popping h (Some number)) t in
    let more = length-append h.out (number ∷ []) in
    omega (arith, before, behind, more)

some_there : (number : ℕ) → is_some (Some number) ≡ false → ⊥
some_there number e = cc

none_there : is_some {T = ℕ} None ≡ true → ⊥
none_there e = cc

pub fewer_if_some : (w after : Waiting) (h : History) (r : Option ℕ) → is_some r ≡ true → waiting.StandsFor w h → waiting.StandsFor after (popping h r) → after.length < w.length
fewer_if_some w after h None e s t = absurd (none_there e)
fewer_if_some w after h (Some number) e s t = fewer_wait w after h number s t

pub none_came : (r : Option ℕ) → is_some r ≡ false → r ≡ None
none_came None e = refl
none_came (Some number) e = absurd (some_there number e)

-- ---- a push that isn't late

err_there : (T E : Type 0) (e : E) → is_err {T = T} (Err e) ≡ false → ⊥
err_there T E e k = cc

pub pushed : (T E : Type 0) (r : Result T E) (old new : Waiting) (number : ℕ) (count : ℤ) (begins : Bool) (depth : ℕ) → is_err r ≡ false
    → OnOk r ((h : History) → waiting.StandsFor old h → waiting.StandsFor new (pushing h (arriving h number count begins) depth))
    → (h : History) → waiting.StandsFor old h → waiting.StandsFor new (pushing h (arriving h number count begins) depth)
pushed T E (Ok x) old new number count begins depth e s = s
pushed T E (Err y) old new number count begins depth e s = absurd (err_there T E y e)
