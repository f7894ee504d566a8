-- The headers that reading can give, with the sets that they name.
use Rattle.std.specs.Prelude.{◌≡◌, ℕ, Bool, List, IfSome, Option, Some, None}
use Rattle.bit_io.specs.Bits.{bits_of}
use Rattle.cb_types.specs.declared.header.UnitHead.{UnitHead}
use Rattle.element_tables.specs.Syntax.{Syntax, Made, ◌>>=◌, ue, any, Takes}
use Rattle.param_sets.specs.Accepted.{IsAcceptedPps, IsAcceptedSps}
use Rattle.marking.specs.HeaderInfo.{header_info}
use Rattle.slice_header.specs.Headers.{IsHeader}
use Rattle.slice_header.specs.Spelling.{slice_header}
use Rattle.access_units.specs.Sets.{Sets, picture_set, sequence_set}
use Rattle.access_units.specs.declared.content.Content.{Content}
use Rattle.access_units.specs.declared.content.Content.TheVariants.{PictureSet, SequenceSet, Slice}
use Rattle.access_units.specs.declared.content.Named.{Named}

pub record IsReadable (named : Named) : Type 0 where
  pub sps : IsAcceptedSps named.sps
  pub pps : IsAcceptedPps named.pps
  pub header : IsHeader (header_info named.sps named.pps) named.header

-- so is what a unit tells
abbrev pub IsReadableContent : Content → Type 0
IsReadableContent (Slice named) = IfSome named IsReadable
IsReadableContent (SequenceSet sps) = IsAcceptedSps sps
IsReadableContent (PictureSet pps) = IsAcceptedPps pps
IsReadableContent content = Unit {0}

-- the elements that begin a slice header whatever the sets are, up to the number of the picture set
unfoldable pub set_number : Syntax ℕ
set_number = do
  first_mb_in_slice ← ue any
  slice_type ← ue any
  pic_parameter_set_id ← ue any
  Made pic_parameter_set_id

-- The bits begin with this number and what stands before it, or with no such elements.
abbrev pub IsSetNumber : List Bool → Option ℕ → Type 0
IsSetNumber bits (Some id) = (rest : List Bool) × Takes set_number bits id rest
IsSetNumber bits None = (id : ℕ) (rest : List Bool) → ¬ Takes set_number bits id rest

-- The elements of this header begin the bytes, by the sets that it names, and these are known.
pub record IsNamedIn (sets : Sets) (head : UnitHead) (rbsp : List ℕ) (named : Named) : Type 0 where
  pub pps : picture_set sets named.header.pps ≡ Some named.pps
  pub sps : sequence_set sets named.pps.seq_parameter_set_id ≡ Some named.sps
  pub rest : List Bool
  pub elements : Takes (slice_header head (header_info named.sps named.pps)) (bits_of rbsp) named.header rest

abbrev pub HasHeaderIn : Sets → UnitHead → List ℕ → Option Named → Type 0
HasHeaderIn sets head rbsp (Some named) = IsNamedIn sets head rbsp named
HasHeaderIn sets head rbsp None = (named : Named) → ¬ IsNamedIn sets head rbsp named
