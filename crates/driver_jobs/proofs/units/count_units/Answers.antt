use Rattle.std.proofs.Common.{◌≡◌, ◌+◌, ◌∷◌, ◌++◌, [], ℕ, List, length, take, sym, ap, ◌∙◌, refl, subst, arith, None, Some}
use Rattle.std.proofs.lemmas.List.{append-nil, length-append}
use Rattle.std.proofs.Math.Seq.{take-length}
use Rattle.nal_units.specs.Settled.{broken_in, unit_in}
use Rattle.nal_units.specs.Units.{Units}
use Rattle.nal_units.specs.declared.finder.Found.{Found}
use Rattle.nal_units.specs.declared.finder.Found.TheVariants as found
use Rattle.decoder_render.proofs.Pieces.{rest_len, piece_on, stands_on, settles_on, broken_text}
use Rattle.decoder_render.proofs.UnitPlaces.{units_few}
use Rattle.driver_jobs.proofs.Readings.{has_units}
use Rattle.driver_jobs.proofs.units.count_units.Goals as goal

-- a text whose end was reached
ended : (text : List ℕ) (place : ℕ) (units : List (ℕ × ℕ)) (found : Found) → place ≡ length text → Units (take place text) (units ++ unit_in found) (broken_in found) → Units text (units ++ unit_in found) (broken_in found)
ended text place units found all reads = subst (λ t. Units t (units ++ unit_in found) (broken_in found)) (ap (λ k. take k text) all ∙ take-length text) reads

-- so many units and those that its end finds
counted : (units : List (ℕ × ℕ)) (found : Found) (count more : ℕ) → count ≡ length units → more ≡ length (unit_in found) → count + more ≡ length (units ++ unit_in found)
counted units found count more is more_is = let all = length-append units (unit_in found) in omega (arith, is, more_is, all)

pub loop-place-preserved-in-Nothing : goal.loop-place-preserved-in-Nothing
loop-place-preserved-in-Nothing c =
    let text = c.args.bytes.now in
    let i = c.loop-place.place in
    let n = c.push_slice-taken.result.0 in
    let s = c.loop-place.invariant.settles in
    let rest = rest_len text i in
    let taken = c.push_slice-taken.ensures.taken in
    record {
      within = omega (arith, rest, taken);
      few = let few = c.loop-place.invariant.few in omega (arith, few);
      stands = stands_on c.push_slice-taken.new.self _ _ (piece_on text i n) (c.push_slice-taken.ensures.stands (take i text) c.loop-place.invariant.stands);
      settles = (
        s.0,
        settles_on _ (take (i + n) text) s.0 s.0 c.push_slice-taken.result.1 found.Nothing (piece_on text i n) c.in-Nothing.is (append-nil s.0)
            (c.push_slice-taken.ensures.settles (take i text) s.0 c.loop-place.invariant.stands s.1),
        s.2,
      );
    }

pub loop-place-preserved : goal.loop-place-preserved
loop-place-preserved c =
    let text = c.args.bytes.now in
    let i = c.loop-place.place in
    let n = c.push_slice-taken.result.0 in
    let s = c.loop-place.invariant.settles in
    let unit : List (ℕ × ℕ) = (c.in-Unit.start, c.in-Unit.end) ∷ [] in
    let rest = rest_len text i in
    let more = c.loop-place-test.true in
    let taken = c.push_slice-taken.ensures.taken in
    let some = c.push_slice-taken.ensures.some (omega (arith, rest, more)) in
    record {
      within = omega (arith, rest, taken);
      few = let few = c.loop-place.invariant.few in omega (arith, few, some);
      stands = stands_on c.push_slice-taken.new.self _ _ (piece_on text i n) (c.push_slice-taken.ensures.stands (take i text) c.loop-place.invariant.stands);
      settles = (
        s.0 ++ unit,
        settles_on _ (take (i + n) text) s.0 (s.0 ++ unit) c.push_slice-taken.result.1 (found.Unit c.in-Unit.start c.in-Unit.end) (piece_on text i n) c.in-Unit.is refl
            (c.push_slice-taken.ensures.settles (take i text) s.0 c.loop-place.invariant.stands s.1),
        ap (λ k. k + 1) s.2 ∙ sym (length-append s.0 unit),
      );
    }

pub returns-in-Broken : goal.returns-in-Broken
returns-in-Broken c =
    let text = c.args.bytes.now in
    let i = c.loop-place.place in
    let n = c.push_slice-taken.result.0 in
    let s = c.loop-place.invariant.settles in
    has_units text s.0 (Some c.in-Broken.at) c.loop-place.count
    (broken_text text (i + n) s.0 c.in-Broken.at
    (settles_on _ (take (i + n) text) s.0 s.0 c.push_slice-taken.result.1 (found.Broken c.in-Broken.at) (piece_on text i n) c.in-Broken.is (append-nil s.0)
    (c.push_slice-taken.ensures.settles (take i text) s.0 c.loop-place.invariant.stands s.1)))
    s.2

pub overflow_add-result : goal.overflow_add-result
overflow_add-result c =
    let text = c.args.bytes.now in
    let s = c.loop-place.invariant.settles in
    let within = c.loop-place.invariant.within in
    let end = c.loop-place-test.false in
    let few = units_few text (s.0 ++ unit_in c.finish.result) (broken_in c.finish.result)
    (ended text c.loop-place.place s.0 c.finish.result (omega (arith, within, end)) (c.finish.ensures (take c.loop-place.place text) s.0 None c.loop-place.invariant.stands s.1)) in
    let count = counted s.0 c.finish.result c.loop-place.count c.units_in.result s.2 c.units_in.ensures in
    let short = c.requires in
    omega (arith, few, count, short)

pub returns : goal.returns
returns c =
    let text = c.args.bytes.now in
    let s = c.loop-place.invariant.settles in
    let within = c.loop-place.invariant.within in
    let end = c.loop-place-test.false in
    has_units text (s.0 ++ unit_in c.finish.result) (broken_in c.finish.result) (c.loop-place.count + c.units_in.result)
    (ended text c.loop-place.place s.0 c.finish.result (omega (arith, within, end)) (c.finish.ensures (take c.loop-place.place text) s.0 None c.loop-place.invariant.stands s.1))
    (counted s.0 c.finish.result c.loop-place.count c.units_in.result s.2 c.units_in.ensures)
