-- Tables that depend on a condition, and the tests of values.
use Rattle.std.proofs.Common.{◌≡◌, ◌≢◌, ◌≤◌, ◌^◌, ◌-◌, ℕ, Bool, true, false, cond, List, Some, None, Result, Ok, Err, refl, eq-eqb, ne_eqb, arith}
use Rattle.element_tables.specs.declared.elements.Stop.{Stop}
use Rattle.element_tables.specs.declared.elements.Stop.TheVariants.{Malformed}
use Rattle.element_tables.specs.Syntax.{Gives, Syntax, any, flag}
use Rattle.element_tables.proofs.Tables.{gives_absent, gives_made, gives_present, gives_stop, gives_then}
use Rattle.slice_header.specs.Lists.{exactly, flagged, optional}
use Rattle.slice_header.specs.Spelling.{is_slice_type, slice_types}

pub chosen : {A : Type 0} (b : Bool) (first second : Syntax A) (old new : List Bool) (r : Result A Stop) → b ≡ true → Gives first old r new → Gives (cond b first second) old r new
chosen true first second old new r e h = h
chosen false first second old new r e h = absurd cc

pub passed : {A : Type 0} (b : Bool) (first second : Syntax A) (old new : List Bool) (r : Result A Stop) → b ≡ false → Gives second old r new → Gives (cond b first second) old r new
passed true first second old new r e h = absurd cc
passed false first second old new r e h = h

pub optional_absent : {A : Type 0} (t : Syntax A) (condition : Bool) (old : List Bool) → condition ≡ false → Gives (optional condition t) old (Ok None) old
unfolding optional
optional_absent t condition old e = gives_absent _ None condition old e

pub optional_given : {A : Type 0} (t : Syntax A) (condition : Bool) (old new : List Bool) (v : A) → condition ≡ true → Gives t old (Ok v) new → Gives (optional condition t) old (Ok (Some v)) new
unfolding optional
optional_given t condition old new v e h = gives_present _ None condition old new (Ok (Some v)) e (gives_then _ h (gives_made _ _))

pub optional_stop : {A : Type 0} (t : Syntax A) (condition : Bool) (old new : List Bool) (stop : Stop) → condition ≡ true → Gives t old (Err stop) new → Gives (optional condition t) old (Err stop) new
unfolding optional
optional_stop t condition old new stop e h = gives_present _ None condition old new (Err stop) e (gives_stop _ h)

pub flagged_absent : {A : Type 0} (t : Syntax A) (f : Bool) (old new : List Bool) → f ≡ false → Gives (flag any) old (Ok f) new → Gives (flagged t) old (Ok None) new
unfolding flagged
flagged_absent t f old new e h = gives_then _ h (optional_absent t f new e)

pub flagged_given : {A : Type 0} (t : Syntax A) (f : Bool) (old mid new : List Bool) (v : A) → f ≡ true → Gives (flag any) old (Ok f) mid → Gives t mid (Ok v) new → Gives (flagged t) old (Ok (Some v)) new
unfolding flagged
flagged_given t f old mid new v e h i = gives_then _ h (optional_given t f mid new v e i)

pub flagged_stop : {A : Type 0} (t : Syntax A) (f : Bool) (old mid new : List Bool) (stop : Stop) → f ≡ true → Gives (flag any) old (Ok f) mid → Gives t mid (Err stop) new → Gives (flagged t) old (Err stop) new
unfolding flagged
flagged_stop t f old mid new stop e h i = gives_then _ h (optional_stop t f mid new stop e i)

pub flagged_unread : {A : Type 0} (t : Syntax A) (old new : List Bool) (stop : Stop) → Gives (flag any) old (Err stop) new → Gives (flagged t) old (Err stop) new
unfolding flagged
flagged_unread t old new stop h = gives_stop _ h

pub exactly_is : (v wanted : ℕ) → v ≡ wanted → exactly wanted v ≡ None
exactly_is v wanted e = rw (eq-eqb v wanted e) refl

pub exactly_other : (v wanted : ℕ) → v ≢ wanted → exactly wanted v ≡ Some Malformed
exactly_other v wanted e = rw (ne_eqb v wanted e) refl

pub type_is : (v : ℕ) → is_slice_type v ≡ true → slice_types v ≡ None
type_is v e = rw e refl

pub type_other : (v : ℕ) → is_slice_type v ≡ false → slice_types v ≡ Some Malformed
type_other v e = rw e refl

none_only : (b : Bool) → cond b None (Some Malformed) ≡ None → b ≡ true
none_only true e = refl
none_only false e = absurd cc

pub type_accepted : (v : ℕ) → slice_types v ≡ None → is_slice_type v ≡ true
type_accepted v e = none_only (is_slice_type v) e

pub type_value : (v : ℕ) → is_slice_type v ≡ true → v ≤ 2 ^ 32 - 2
type_value v e = grind arith
