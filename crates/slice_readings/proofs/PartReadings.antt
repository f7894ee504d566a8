-- Whether a block or a header begins bits, and whether bits are a slice's macroblocks.
use Rattle.std.proofs.Common.{◌≡◌, ℕ, Bool, List, ◌++◌, ℤ}
use Rattle.cavlc.specs.Blocks.{block_bits}
use Rattle.cb_types.specs.declared.header.Header.{Header}
use Rattle.cb_types.specs.declared.header.UnitHead.{UnitHead}
use Rattle.cb_types.specs.declared.picture_info.PictureInfo.{PictureInfo}
use Rattle.cb_types.specs.declared.size.SizeMbs.{SizeMbs}
use Rattle.finite.specs.Decided.{Decided}
use Rattle.finite.proofs.Deciding.{always, decided_as}
use Rattle.finite.proofs.Equal.{equal_booleans}
use Rattle.finite.proofs.Lists.{begins}
use Rattle.slice_header.specs.Spelling.{slice_header}
use Rattle.slice_readings.proofs.BlockChoices.{spelled_blocks_few}
use Rattle.slice_readings.proofs.SliceDataChoices.{slice_data_few}
use Rattle.slice_readings.proofs.TableReadings.{takes_few}
use Rattle.slice_readings.specs.Readings.{AreSomeSliceData, BeginsWithBlock, BeginsWithHeader}

pub block_decided : (nc : ℤ) (most : ℕ) (bits : List Bool) → Decided (BeginsWithBlock nc most bits)
block_decided nc most bits = (spelled_blocks_few nc most).find (λ block. (rest : List Bool) × (bits ≡ block_bits nc most block ++ rest))
    (λ block h. decided_as (λ found. (found.0, found.1)) (λ found. (found.0, found.1, tt))
    (begins equal_booleans (block_bits nc most block) bits (λ rest. Unit {0}) (λ rest e. always tt)))

pub header_decided : (head : UnitHead) (info : PictureInfo) (bits : List Bool) → Decided (BeginsWithHeader head info bits)
header_decided head info bits =
    decided_as (λ found. (found.0.0, found.0.1, found.1)) (λ found. ((found.0, found.1), found.2, tt))
    ((takes_few (slice_header head info) bits).find (λ p. Unit {0}) (λ p h. always tt))

pub slice_data_decided : (info : PictureInfo) (header : Header) (size : SizeMbs) (bits : List Bool) → Decided (AreSomeSliceData info header size bits)
slice_data_decided info header size bits =
    decided_as (λ found. (found.0, found.1)) (λ found. (found.0, found.1, tt))
    ((slice_data_few info header size bits).find (λ mbs. Unit {0}) (λ mbs h. always tt))
