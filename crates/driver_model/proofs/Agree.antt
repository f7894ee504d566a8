-- Limits and profiles, which cb_types has too.
use Rattle.std.proofs.Common.{◌≡◌, Bool, true, false, ◌&&◌}
use Rattle.std.proofs.lemmas.Bool.{eq-eqb, eqb-true, le-leb}
use Rattle.cb_types.specs.SizeMbs.{IsWithinLimits, macroblocks}
use Rattle.cb_types.specs.declared.size.SizeMbs.{SizeMbs}
use Rattle.driver_model.specs.Laws.{LimitsAreOne, OneProfileTakesWeights}
use Rattle.driver_model.specs.Sizes.{is_within_limits}
use Rattle.driver_model.proofs.OneStep.{limits_of}

and_both : (a b : Bool) → a ≡ true → b ≡ true → (a && b) ≡ true
and_both true b p q = q
and_both false b p q = absurd (let k : false ≡ true = p in cc)

within : (size : SizeMbs) → IsWithinLimits size → is_within_limits size ≡ true
within size is =
    and_both _ _
    (and_both _ _ (and_both _ _ (le-leb 1 size.width is.some_column) (le-leb size.width _ is.columns)) (and_both _ _ (le-leb 1 size.height is.some_row) (le-leb size.height _ is.rows)))
    (le-leb (macroblocks size) _ is.count)

pub limits_are_one : LimitsAreOne
limits_are_one size = (limits_of size, within size)

pub one_profile_takes_weights : OneProfileTakesWeights
one_profile_takes_weights profile = (eqb-true profile 1, eq-eqb profile 1)
