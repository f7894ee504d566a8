-- What is known of the next picture.
use Rattle.std.proofs.Common.{◌≡◌, ℕ, ◌+◌, ◌<◌, ◌≤◌, Bool, true, false, ◌||◌, if◌then◌else◌, List, [], ◌∷◌, length, Result, Ok, Err, refl, sym, ap, subst, ◌∙◌, arith}
use Rattle.cb_types.specs.Slices.{is_idr}
use Rattle.cb_types.specs.declared.header.Header.{Header}
use Rattle.marking.specs.Begun.{begun_by, begun_or_fault, settled_of}
use Rattle.marking.specs.declared.begun.Begun.{Begun}
use Rattle.marking.specs.declared.begun.MarkFault.{MarkFault}
use Rattle.marking.specs.declared.marker.Settled.{Settled}
use Rattle.output_order.specs.OutputOrder as order
use Rattle.param_sets.specs.declared.pps.Pps.{Pps}
use Rattle.param_sets.specs.declared.sps.Sps.{Sps}
use Rattle.access_units.specs.AccessUnits.{AccessUnit}
use Rattle.access_units.specs.Depth.{depth_of}
use Rattle.access_units.specs.Pictures.{IsPicture, IsSameSet, Picture, ordered, ordered_behind, periods}
use Rattle.accepted_pictures.specs.Files.{Decoded, pictures_in}
use Rattle.vdplay.specs.Reports.{CountsPeriods, IsNextOf}
use Rattle.vdplay.specs.declared.line_writer.LineWriter.{LineWriter}

pub periods_more : (one : Picture) (before : List Picture) → periods (one ∷ before) ≡ (if one.begun.period then periods before + 1 else periods before)
unfolding periods
periods_more one before = refl

pub no_periods : periods [] ≡ 0
unfolding periods
no_periods = refl

or_left : (a b : Bool) → (a || b) ≡ false → a ≡ false
or_left true b e = absurd cc
or_left false b e = refl

of_result : (sps : Sps) (pps : Pps) (header : Header) (r : Result Settled MarkFault) (begun : Begun) → begun_or_fault sps pps header r ≡ Ok begun → begun.period ≡ false → is_idr header ≡ false
of_result sps pps header (Ok settled) begun is none =
    let same : begun_by sps pps header settled ≡ begun = cc in
    or_left (is_idr header) settled.marks.is_reset (ap (λ (b : Begun). b.period) same ∙ none)
of_result sps pps header (Err fault) begun is none = absurd cc

-- what the output order asks of the next picture
pub record Joins (before : List Picture) (one : Picture) : Type 0 where
  pub few : length before < 7000000
  pub same_set : one.begun.period ≡ false → IsSameSet before one.sps
  pub in_time : order.is_late (depth_of one.sps) (ordered before) (ordered_behind before one.begun) ≡ false

pub joins : (before : List Picture) (au : AccessUnit) (one : Picture) → IsPicture before au one → Joins before one
joins before au one p =
    let sps_is : one.sps ≡ p.named.sps = ap (λ (q : Picture). q.sps) p.is in
    let period_is : one.begun.period ≡ p.begun.period = ap (λ (q : Picture). q.begun.period) p.is in
    let late : Picture → Bool = λ q. order.is_late (depth_of q.sps) (ordered before) (ordered_behind before q.begun) in
    let S : Sps → Type 0 = λ sps. IsSameSet before sps in
    record {
      few = p.begins.few;
      same_set = λ none. subst S (sym sps_is) (p.begins.same_set
          (of_result p.named.sps p.named.pps p.named.header (settled_of p.begins.marker p.named.sps p.named.header) p.begun p.begins.begins (sym period_is ∙ none)));
      in_time = ap late p.is ∙ p.begins.in_time;
    }

pub joins_decoded : (decoded : List Decoded) (one : Decoded) → IsNextOf decoded one → Joins (pictures_in decoded) one.picture
joins_decoded decoded one next = joins (pictures_in decoded) next.au one.picture next.picture

pub length_pictures : (decoded : List Decoded) → length (pictures_in decoded) ≡ length decoded
length_pictures [] = refl
length_pictures (one ∷ before) = let more = length_pictures before in omega (arith, more)

-- A picture that begins no period isn't the first.
pub some_before : (decoded : List Decoded) (one : Decoded) → IsNextOf decoded one → one.picture.begun.period ≡ false → 1 ≤ length decoded
some_before [] one next none = absurd ((joins_decoded [] one next).same_set none)
some_before (last ∷ before) one next none = omega arith

bit_more : (b : Bool) (n m : ℕ) → m ≡ n → n + (if b then 1 else 0) ≡ (if b then m + 1 else m)
bit_more true n m e = omega (arith, e)
bit_more false n m e = omega (arith, e)

pub periods_next : (writer : LineWriter) (decoded : List Decoded) (one : Decoded) → CountsPeriods writer decoded → writer.periods + (if one.picture.begun.period then 1 else 0) ≡ periods (pictures_in (one ∷ decoded))
periods_next writer decoded one counts =
    bit_more one.picture.begun.period writer.periods (periods (pictures_in decoded)) (sym counts.periods) ∙ sym (periods_more one.picture (pictures_in decoded))

le_more : (b : Bool) (n m : ℕ) → n ≤ m → (if b then n + 1 else n) ≤ m + 1
le_more true n m h = omega arith
le_more false n m h = omega arith

pub periods_le : (pictures : List Picture) → periods pictures ≤ length pictures
periods_le [] = let P : ℕ → Type 0 = λ n. n ≤ 0 in subst P (sym no_periods) (omega arith)
periods_le (one ∷ before) =
    let P : ℕ → Type 0 = λ n. n ≤ length before + 1 in
    let more : periods (one ∷ before) ≤ length before + 1 = subst P (sym (periods_more one before)) (le_more one.begun.period (periods before) (length before) (periods_le before)) in
    omega (arith, more)

pub few_periods : (writer : LineWriter) (decoded : List Decoded) → CountsPeriods writer decoded → writer.periods ≤ 7000000
few_periods writer decoded counts = let most = periods_le (pictures_in decoded) in let same = length_pictures decoded in omega (arith, counts.periods, counts.few)

begun_some : (b : Bool) (n k : ℕ) → (b ≡ false → 1 ≤ k) → (1 ≤ k → 1 ≤ n) → 1 ≤ n + (if b then 1 else 0)
begun_some true n k first some = omega arith
begun_some false n k first some = let here = some (first refl) in omega (arith, here)

pub some_periods : (writer : LineWriter) (decoded : List Decoded) (one : Decoded) → CountsPeriods writer decoded → IsNextOf decoded one → 1 ≤ writer.periods + (if one.picture.begun.period then 1 else 0)
some_periods writer decoded one counts next = begun_some one.picture.begun.period writer.periods (length decoded) (some_before decoded one next) counts.some
