-- A picture joins those that wait.
use Rattle.std.proofs.Common.{◌≡◌, ℕ, ◌+◌, ◌<◌, Bool, true, false, ◌||◌, if◌then◌else◌, List, [], ◌∷◌, ◌++◌, length, Result, Ok, Err, ℤ, refl, sym, ap, subst, ◌∙◌}
use Rattle.std.specs.Prelude.{OnOk, is_err}
use Rattle.cb_types.specs.Slices.{is_idr}
use Rattle.cb_types.specs.declared.header.Header.{Header}
use Rattle.marking.specs.Begun.{begun_by, begun_or_fault, settled_of}
use Rattle.marking.specs.declared.begun.Begun.{Begun}
use Rattle.marking.specs.declared.begun.MarkFault.{MarkFault}
use Rattle.marking.specs.declared.marker.Settled.{Settled}
use Rattle.output_order.specs.OutputOrder as order
use Rattle.output_order.specs.Waiting as waiting
use Rattle.output_order.specs.declared.waiting.Late.{Late}
use Rattle.output_order.specs.declared.waiting.Waiting.{Waiting}
use Rattle.param_sets.specs.declared.pps.Pps.{Pps}
use Rattle.param_sets.specs.declared.sps.Sps.{Sps}
use Rattle.access_units.specs.AccessUnits.{AccessUnit}
use Rattle.access_units.specs.Depth.{depth_of}
use Rattle.access_units.specs.Pictures.{IsPicture, IsSameSet, Picture, ordered, ordered_behind, periods}
use Rattle.access_units.specs.Stands.{HasDepth}
use Rattle.accepted_pictures.specs.Files.{Decoded, pictures_in}
use Rattle.stream_course.specs.Standing.{Waits}
use Rattle.stream_course.proofs.Numbers.{length_pictures, no_ordered, ordered_more}

-- ---- what the output order asks of the next picture

pub periods_more : (one : Picture) (before : List Picture) → periods (one ∷ before) ≡ (if one.begun.period then periods before + 1 else periods before)
unfolding periods
periods_more one before = refl

no_periods : periods [] ≡ 0
unfolding periods
no_periods = refl

or_left : (a b : Bool) → (a || b) ≡ false → a ≡ false
or_left true b e = absurd cc
or_left false b e = refl

of_result : (sps : Sps) (pps : Pps) (header : Header) (r : Result Settled MarkFault) (begun : Begun) → begun_or_fault sps pps header r ≡ Ok begun
    → begun.period ≡ false → is_idr header ≡ false
of_result sps pps header (Ok settled) begun is none =
    let same : begun_by sps pps header settled ≡ begun = cc in
    or_left (is_idr header) settled.marks.is_reset (ap (λ (b : Begun). b.period) same ∙ none)
of_result sps pps header (Err fault) begun is none = absurd cc

pub record Joins (before : List Picture) (one : Picture) : Type 0 where
  pub few : length before < 7000000
  pub same_set : one.begun.period ≡ false → IsSameSet before one.sps
  pub in_time : order.is_late (depth_of one.sps) (ordered before) (ordered_behind before one.begun) ≡ false

pub joins : (before : List Picture) (au : AccessUnit) (one : Picture) → IsPicture before au one → Joins before one
joins before au one p =
    let sps_is : one.sps ≡ p.named.sps = ap (λ (q : Picture). q.sps) p.is in
    let period_is : one.begun.period ≡ p.begun.period = ap (λ (q : Picture). q.begun.period) p.is in
    let late : Picture → Bool = λ q. order.is_late (depth_of q.sps) (ordered before) (ordered_behind before q.begun) in
    let S : Sps → Type 0 = λ sps. IsSameSet before sps in
    record {
      few = p.begins.few;
      same_set = λ none. subst S (sym sps_is) (p.begins.same_set
          (of_result p.named.sps p.named.pps p.named.header (settled_of p.begins.marker p.named.sps p.named.header) p.begun p.begins.begins (sym period_is ∙ none)));
      in_time = ap late p.is ∙ p.begins.in_time;
    }

-- ---- it is pushed

same_depth : (before : List Picture) (one : Picture) (h : order.History) → HasDepth h before → IsSameSet before one.sps → depth_of one.sps ≡ h.depth
same_depth [] one h depth same = absurd same
same_depth (last ∷ before) one h depth same = ap depth_of (sym same) ∙ sym depth

pub may_push : (w : Waiting) (decoded : List Decoded) (one : Picture) (h : order.History) (begins : Bool) (depth : ℕ) → Waits w decoded h
    → order.has_settled h ≡ false → h.ended ≡ false
    → Joins (pictures_in decoded) one → begins ≡ one.begun.period → depth ≡ depth_of one.sps → order.MayPush h begins depth
may_push w decoded one h begins depth waits none not_ended joins begun deep = record {
  nothing_settled = none;
  not_ended = not_ended;
  same_depth = λ no some. deep ∙ same_depth (pictures_in decoded) one h waits.depth (joins.same_set (sym begun ∙ no));
}

abbrev pushed_by : order.History → List Decoded → Picture → order.History
pushed_by h decoded one = order.pushing h (ordered_behind (pictures_in decoded) one.begun) (depth_of one.sps)

ok_of : {A E : Type 0} (r : Result A E) (P : Type 0) → is_err r ≡ false → OnOk r P → P
ok_of (Ok value) P e p = p
ok_of (Err fault) P e p = absurd cc

arriving_is : (w : Waiting) (decoded : List Decoded) (one : Picture) (h : order.History) (number : ℕ) (poc : ℤ) (begins : Bool) → Waits w decoded h
    → number ≡ length decoded → poc ≡ one.begun.poc → begins ≡ one.begun.period
    → order.arriving h number poc begins ≡ ordered_behind (pictures_in decoded) one.begun
arriving_is w decoded one h number poc begins waits at count begun =
    let same : number ≡ length (pictures_in decoded) = at ∙ sym (length_pictures decoded) in
    let period : h.period ≡ periods (pictures_in decoded) = waits.period in
    cc

module _ (old new : Waiting) (decoded : List Decoded) (one : Decoded) (h : order.History) (number : ℕ) (poc : ℤ) (begins : Bool) (depth : ℕ) (r : Result (Unit {0}) Late) (waits : Waits old decoded h)
    (joins : Joins (pictures_in decoded) one.picture) (at : number ≡ length decoded) (count : poc ≡ one.picture.begun.poc) (begun : begins ≡ one.picture.begun.period) (deep : depth ≡ depth_of one.picture.sps)
    (late : (g : order.History) → waiting.StandsFor old g → is_err r ≡ order.is_late depth g.pushed (order.arriving g number poc begins))
    (stands : OnOk r ((g : order.History) → waiting.StandsFor old g → waiting.StandsFor new (order.pushing g (order.arriving g number poc begins) depth))) where
  pushed_waiting : waiting.StandsFor new (pushed_by h decoded one.picture)
  pushed_waiting =
      let is = arriving_is old decoded one.picture h number poc begins waits at count begun in
      let in_time : order.is_late depth h.pushed (order.arriving h number poc begins) ≡ false =
      ap (λ (o : order.Picture). order.is_late depth h.pushed o) is
      ∙ ap (λ (n : ℕ). order.is_late n h.pushed (ordered_behind (pictures_in decoded) one.picture.begun)) deep
      ∙ ap (λ (xs : List order.Picture). order.is_late (depth_of one.picture.sps) xs (ordered_behind (pictures_in decoded) one.picture.begun)) waits.pushed
      ∙ joins.in_time in
      let fine : is_err r ≡ false = late h waits.stands ∙ in_time in
      let go =
      ok_of r ((g : order.History) → waiting.StandsFor old g → waiting.StandsFor new (order.pushing g (order.arriving g number poc begins) depth)) fine stands in
      let P : order.Picture → Type 0 = λ o. waiting.StandsFor new (order.pushing h o depth) in
      let Q : ℕ → Type 0 = λ n. waiting.StandsFor new (order.pushing h (ordered_behind (pictures_in decoded) one.picture.begun) n) in
      subst Q deep (subst P is (go h waits.stands))

  -- It waits, too, and nothing came out.
  pub pushed : (now : order.History) × Waits new (one ∷ decoded) now × (now.out ≡ h.out) × (now.ended ≡ h.ended)
  pushed = (
    pushed_by h decoded one.picture,
    record {
      stands = pushed_waiting;
      pushed =
          ap (λ (xs : List order.Picture). xs ++ ordered_behind (pictures_in decoded) one.picture.begun ∷ []) waits.pushed
          ∙ sym (ordered_more one.picture (pictures_in decoded));
      period = sym (periods_more one.picture (pictures_in decoded));
      depth = refl;
    },
    refl,
    refl,
  )

-- ---- nothing waits

pub waits_none : (w : Waiting) → waiting.StandsFor w order.nothing_yet → Waits w [] order.nothing_yet
waits_none w stands = record { stands = stands; pushed = sym no_ordered; period = sym no_periods; depth = tt }
