-- Which access unit and which NAL unit are in hand.
use Rattle.std.specs.Prelude.{◌≡◌, ℕ, List, map, slice_range}
use Rattle.access_units.specs.AccessUnits.{AccessUnit}
use Rattle.access_units.specs.Contents.{Told, first_byte}
use Rattle.access_units.specs.declared.hand.InHand.{InHand}
use Rattle.access_units.specs.declared.hand.NalUnit.{NalUnit}

-- The unit is this one of the text.
pub record IsOf (unit : NalUnit) (text : List ℕ) (told : Told) : Type 0 where
  pub bytes : told.bytes ≡ slice_range text told.place.0 told.place.1
  pub start : unit.start ≡ told.place.0
  pub end : unit.end ≡ told.place.1
  pub first_byte : unit.first_byte ≡ first_byte told.bytes
  pub content : unit.content ≡ told.content

-- The access unit in hand is this one of the text.
pub record Holds (hand : InHand) (text : List ℕ) (au : AccessUnit) : Type 0 where
  pub offset : hand.offset ≡ au.offset
  pub refused : hand.refused ≡ au.refused
  pub slices : map (λ (place : ℕ × ℕ). slice_range text place.0 place.1) hand.slices.items ≡ au.slices
  pub first : hand.first ≡ au.first
  pub last : hand.last ≡ au.last

-- The access unit in hand is as it was; only the room that its list has may be another.
pub record IsUnchanged (old new : InHand) : Type 0 where
  pub offset : new.offset ≡ old.offset
  pub refused : new.refused ≡ old.refused
  pub slices : new.slices.items ≡ old.slices.items
  pub first : new.first ≡ old.first
  pub last : new.last ≡ old.last
