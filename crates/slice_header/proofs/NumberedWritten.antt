-- Commands and operations behind their numbers, as they are written.
use Rattle.std.proofs.Common.{◌≡◌, ℕ, ◌-◌, ◌<◌, ◌≤◌, List, Bool, ◌++◌, refl, arith}
use Rattle.bit_io.specs.Codewords as codewords
use Rattle.bit_io.specs.Codewords.{IsUe}
use Rattle.cb_types.specs.declared.header.ListEdit.TheVariants.{Add, Long, Subtract}
use Rattle.cb_types.specs.declared.header.Mmco.TheVariants.{CurrentLong, MakeLong, MaxLong, Reset, UnmarkLong, UnmarkShort}
use Rattle.element_tables.specs.Syntax.{any, up_to}
use Rattle.element_tables.proofs.OneElement.{ue_appended}
use Rattle.element_tables.proofs.Rules.{up_to_is}
use Rattle.element_tables.proofs.Tables.{appends_made, appends_then}
use Rattle.slice_header.specs.Lists.{AppendsItem}
use Rattle.slice_header.specs.Spelling.{command, operation}

pub put_1 : (v : ℕ) (old new : List Bool) → IsUe v → new ≡ (old ++ codewords.ue 1) ++ codewords.ue v → AppendsItem 6 0 operation (UnmarkShort v) old new
unfolding operation
put_1 v old new is e = record {
  number = 1;
  between = old ++ codewords.ue 1;
  most = omega arith;
  goes_on = omega arith;
  first = ue_appended (up_to 6) 1 old _ (omega arith) refl refl;
  second = appends_then _ (ue_appended any v (old ++ codewords.ue 1) new is refl e) (appends_made _ _);
}

pub put_2 : (v : ℕ) (old new : List Bool) → IsUe v → new ≡ (old ++ codewords.ue 2) ++ codewords.ue v → AppendsItem 6 0 operation (UnmarkLong v) old new
unfolding operation
put_2 v old new is e = record {
  number = 2;
  between = old ++ codewords.ue 2;
  most = omega arith;
  goes_on = omega arith;
  first = ue_appended (up_to 6) 2 old _ (omega arith) refl refl;
  second = appends_then _ (ue_appended any v (old ++ codewords.ue 2) new is refl e) (appends_made _ _);
}

pub put_4 : (v : ℕ) (old new : List Bool) → IsUe v → new ≡ (old ++ codewords.ue 4) ++ codewords.ue v → AppendsItem 6 0 operation (MaxLong v) old new
unfolding operation
put_4 v old new is e = record {
  number = 4;
  between = old ++ codewords.ue 4;
  most = omega arith;
  goes_on = omega arith;
  first = ue_appended (up_to 6) 4 old _ (omega arith) refl refl;
  second = appends_then _ (ue_appended any v (old ++ codewords.ue 4) new is refl e) (appends_made _ _);
}

pub put_6 : (v : ℕ) (old new : List Bool) → IsUe v → new ≡ (old ++ codewords.ue 6) ++ codewords.ue v → AppendsItem 6 0 operation (CurrentLong v) old new
unfolding operation
put_6 v old new is e = record {
  number = 6;
  between = old ++ codewords.ue 6;
  most = omega arith;
  goes_on = omega arith;
  first = ue_appended (up_to 6) 6 old _ (omega arith) refl refl;
  second = appends_then _ (ue_appended any v (old ++ codewords.ue 6) new is refl e) (appends_made _ _);
}

pub put_3 : (v w : ℕ) (old mid new : List Bool) → IsUe v → IsUe w → mid ≡ (old ++ codewords.ue 3) ++ codewords.ue v → new ≡ mid ++ codewords.ue w → AppendsItem 6 0 operation (MakeLong v w) old new
unfolding operation
put_3 v w old mid new is_v is_w e f = record {
  number = 3;
  between = old ++ codewords.ue 3;
  most = omega arith;
  goes_on = omega arith;
  first = ue_appended (up_to 6) 3 old _ (omega arith) refl refl;
  second = appends_then _ (ue_appended any v (old ++ codewords.ue 3) mid is_v refl e) (appends_then _ (ue_appended any w mid new is_w refl f) (appends_made _ _));
}

pub put_5 : (old new : List Bool) → new ≡ old ++ codewords.ue 5 → AppendsItem 6 0 operation Reset old new
unfolding operation
put_5 old new e = record {
  number = 5;
  between = new;
  most = omega arith;
  goes_on = omega arith;
  first = ue_appended (up_to 6) 5 old new (omega arith) refl e;
  second = appends_made _ _;
}

below : (v m : ℕ) → v < m → v ≤ m - 1
below v m h = omega (arith, h)

pub put_command_0 : (m v : ℕ) (old new : List Bool) → v < m → IsUe v → new ≡ (old ++ codewords.ue 0) ++ codewords.ue v → AppendsItem 3 3 (command m) (Subtract v) old new
unfolding command
put_command_0 m v old new lt is e = record {
  number = 0;
  between = old ++ codewords.ue 0;
  most = omega arith;
  goes_on = omega arith;
  first = ue_appended (up_to 3) 0 old _ (omega arith) refl refl;
  second = appends_then _ (ue_appended (up_to (m - 1)) v (old ++ codewords.ue 0) new is (up_to_is v (m - 1) (below v m lt)) e) (appends_made _ _);
}

pub put_command_1 : (m v : ℕ) (old new : List Bool) → v < m → IsUe v → new ≡ (old ++ codewords.ue 1) ++ codewords.ue v → AppendsItem 3 3 (command m) (Add v) old new
unfolding command
put_command_1 m v old new lt is e = record {
  number = 1;
  between = old ++ codewords.ue 1;
  most = omega arith;
  goes_on = omega arith;
  first = ue_appended (up_to 3) 1 old _ (omega arith) refl refl;
  second = appends_then _ (ue_appended (up_to (m - 1)) v (old ++ codewords.ue 1) new is (up_to_is v (m - 1) (below v m lt)) e) (appends_made _ _);
}

pub put_command_2 : (m v : ℕ) (old new : List Bool) → IsUe v → new ≡ (old ++ codewords.ue 2) ++ codewords.ue v → AppendsItem 3 3 (command m) (Long v) old new
unfolding command
put_command_2 m v old new is e = record {
  number = 2;
  between = old ++ codewords.ue 2;
  most = omega arith;
  goes_on = omega arith;
  first = ue_appended (up_to 3) 2 old _ (omega arith) refl refl;
  second = appends_then _ (ue_appended any v (old ++ codewords.ue 2) new is refl e) (appends_made _ _);
}
