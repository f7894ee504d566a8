-- The two places of delta_pic_order_cnt.
use Rattle.std.proofs.Common.{◌≡◌, ℤ, pos, List, [], ◌∷◌, get_or, refl, sym, subst}
use Rattle.std.specs.Prelude.{IsFalse}
use Rattle.bit_io.specs.Codewords.{IsSe}
use Rattle.cb_types.specs.declared.picture_info.PictureInfo.{PictureInfo}
use Rattle.slice_header.specs.Conditions.{has_delta, has_second_delta}
use Rattle.slice_header.specs.Headers.{AreDeltas}

pub record Places (info : PictureInfo) (xs : List ℤ) : Type 0 where
  pub whole : get_or xs 0 (pos 0) ∷ get_or xs 1 (pos 0) ∷ [] ≡ xs
  pub first : IsSe (get_or xs 0 (pos 0))
  pub second : IsSe (get_or xs 1 (pos 0))
  pub first_absent : IsFalse (has_delta info) → get_or xs 0 (pos 0) ≡ pos 0
  pub second_absent : IsFalse (has_second_delta info) → get_or xs 1 (pos 0) ≡ pos 0

pub places : (info : PictureInfo) (xs : List ℤ) → AreDeltas info xs → Places info xs
places info xs are = subst (Places info) (sym are.both) (record { whole = refl; first = are.first_value; second = are.second_value; first_absent = are.first_absent; second_absent = are.second_absent })
