-- One element.
use Rattle.std.proofs.Common.{◌≡◌, ℕ, ◌^◌, ◌<◌, ℤ, Bool, true, false, cond, eqb, List, [], ◌++◌, ◌⊎◌, inl, inr, Option, None, Some, Ok, Err, refl, sym, ap, subst, ◌∙◌, arith}
use Rattle.std.proofs.lemmas.List.{append-nil}
use Rattle.std.specs.Option.{ok_or}
use Rattle.bit_io.specs.Bits as bits
use Rattle.bit_io.specs.Codewords as codewords
use Rattle.bit_io.specs.Codewords.{IsU, IsUe, IsSe}
use Rattle.bit_io.specs.Reads.{Reads}
use Rattle.element_tables.specs.declared.elements.Stop.{Stop}
use Rattle.element_tables.specs.declared.elements.Stop.TheVariants.{Malformed}
use Rattle.element_tables.specs.Syntax.{Appends, BeginsWith, Gives, IsRefused, Rule, Spells, any, flag, se, u, ue}

-- an element alone is its codeword
abbrev Alone : {V W : Type 0} → (V → W) → W → V → List Bool → Type 0
Alone view a v rest = (rest ≡ []) × (view v ≡ a)

abbrev Never : {V : Type 0} → V → List Bool → Type 0
Never v rest = ⊥

word : {V W : Type 0} (view : V → W) (IsValue : V → Type 0) (code : V → List Bool) (rule : Rule W) (v : V) → IsValue v → rule (view v) ≡ None → BeginsWith IsValue code (λ w. rule (view w)) (Alone view (view v)) (code v)
word view IsValue code rule v is accepted = (v, [], is, accepted, sym (append-nil (code v)), (refl, refl))

accepted_word : {V W : Type 0} (view : V → W) (IsValue : V → Type 0) (code : V → List Bool) (rule : Rule W) (a : W) (front : List Bool)
    → rule a ≡ None → BeginsWith IsValue code any (Alone view a) front → BeginsWith IsValue code (λ w. rule (view w)) (Alone view a) front
accepted_word view IsValue code rule a front accepts (w, rest, is, acc, e, (none, same)) = (w, rest, is, ap rule same ∙ accepts, e, (none, same))

refused_word : {V W : Type 0} (view : V → W) (IsValue : V → Type 0) (code : V → List Bool) (rule : Rule W) (a : W) (stop : Stop) (front old new : List Bool)
    → rule a ≡ Some stop → BeginsWith IsValue code any (Alone view a) front → old ≡ front ++ new → IsRefused IsValue code (λ w. rule (view w)) old stop
refused_word view IsValue code rule a stop front old new refuses (w, rest, is, acc, e, (none, same)) whole =
    inr (w, new, is, ap rule same ∙ refuses, whole ∙ ap (λ (x : List Bool). x ++ new) (e ∙ ap (λ (x : List Bool). code w ++ x) none ∙ append-nil (code w)))

stopped_word : {V : Type 0} (IsValue : V → Type 0) (code : V → List Bool) (rule : Rule V) (stop : Stop) (old : List Bool)
    → IsRefused IsValue code any old stop ⊎ BeginsWith IsValue code any Never old → IsRefused IsValue code rule old stop ⊎ BeginsWith IsValue code rule Never old
stopped_word IsValue code rule stop old (inl (inl none)) = inl (inl none)
stopped_word IsValue code rule stop old (inl (inr (v, rest, is, refuses, e))) = absurd cc
stopped_word IsValue code rule stop old (inr (v, rest, is, acc, e, never)) = absurd never

-- ---- u(n)

pub u_given : (n : ℕ) (old new : List Bool) (found : Option ℕ) → Reads (IsU n) (λ v. bits.u v n) old found new → Gives (u n any) old (ok_or found Malformed) new
unfolding u
u_given n old new (Some v) read = record { answer = record { front = bits.u v n; spelled = word (λ w. w) (IsU n) (λ w. bits.u w n) any v read.0 refl; parts = read.1 } }
u_given n old new None read = record { answer = inl (inl (read.1, refl)) }

pub u_accepted : (n : ℕ) (rule : Rule ℕ) (v : ℕ) (old new : List Bool) → rule v ≡ None → Gives (u n any) old (Ok v) new → Gives (u n rule) old (Ok v) new
unfolding u
u_accepted n rule v old new accepts h = record { answer = record { front = h.answer.front; spelled = accepted_word (λ w. w) (IsU n) (λ w. bits.u w n) rule v h.answer.front accepts h.answer.spelled; parts = h.answer.parts } }

pub u_refused : (n : ℕ) (rule : Rule ℕ) (v : ℕ) (stop : Stop) (old new : List Bool) → rule v ≡ Some stop → Gives (u n any) old (Ok v) new → Gives (u n rule) old (Err stop) new
unfolding u
u_refused n rule v stop old new refuses h = record { answer = inl (refused_word (λ w. w) (IsU n) (λ w. bits.u w n) rule v stop h.answer.front old new refuses h.answer.spelled h.answer.parts) }

pub u_stopped : (n : ℕ) (rule : Rule ℕ) (stop : Stop) (old new : List Bool) → Gives (u n any) old (Err stop) new → Gives (u n rule) old (Err stop) new
unfolding u
u_stopped n rule stop old new h = record { answer = stopped_word (IsU n) (λ w. bits.u w n) rule stop old h.answer }

-- ---- flags

abbrev is_one : ℕ → Bool
is_one v = eqb v 1

as_flag : (v : ℕ) (front : List Bool) → BeginsWith (IsU 1) (λ w. bits.u w 1) any (Alone (λ w. w) v) front → BeginsWith (IsU 1) (λ w. bits.u w 1) any (Alone is_one (is_one v)) front
as_flag v front (w, rest, is, acc, e, (none, same)) = (w, rest, is, acc, e, (none, ap is_one same))

pub flag_given : (old new : List Bool) (v : ℕ) → Gives (u 1 any) old (Ok v) new → Gives (flag any) old (Ok (eqb v 1)) new
unfolding u flag
flag_given old new v h = record { answer = record { front = h.answer.front; spelled = as_flag v h.answer.front h.answer.spelled; parts = h.answer.parts } }

pub flag_unread : (rule : Rule Bool) (stop : Stop) (old new : List Bool) → Gives (u 1 any) old (Err stop) new → Gives (flag rule) old (Err stop) new
unfolding u flag
flag_unread rule stop old new h = record { answer = stopped_word (IsU 1) (λ w. bits.u w 1) (λ w. rule (is_one w)) stop old h.answer }

pub flag_accepted : (rule : Rule Bool) (f : Bool) (old new : List Bool) → rule f ≡ None → Gives (flag any) old (Ok f) new → Gives (flag rule) old (Ok f) new
unfolding flag
flag_accepted rule f old new accepts h = record { answer = record { front = h.answer.front; spelled = accepted_word is_one (IsU 1) (λ w. bits.u w 1) rule f h.answer.front accepts h.answer.spelled; parts = h.answer.parts } }

pub flag_refused : (rule : Rule Bool) (f : Bool) (stop : Stop) (old new : List Bool) → rule f ≡ Some stop → Gives (flag any) old (Ok f) new → Gives (flag rule) old (Err stop) new
unfolding flag
flag_refused rule f stop old new refuses h = record { answer = inl (refused_word is_one (IsU 1) (λ w. bits.u w 1) rule f stop h.answer.front old new refuses h.answer.spelled h.answer.parts) }

pub flag_stopped : (rule : Rule Bool) (stop : Stop) (old new : List Bool) → Gives (flag any) old (Err stop) new → Gives (flag rule) old (Err stop) new
unfolding flag
flag_stopped rule stop old new h = record { answer = stopped_word (IsU 1) (λ w. bits.u w 1) (λ w. rule (is_one w)) stop old h.answer }

-- ---- ue(v)

pub ue_given : (old new : List Bool) (found : Option ℕ) → Reads IsUe codewords.ue old found new → Gives (ue any) old (ok_or found Malformed) new
unfolding ue
ue_given old new (Some v) read = record { answer = record { front = codewords.ue v; spelled = word (λ w. w) IsUe codewords.ue any v read.0 refl; parts = read.1 } }
ue_given old new None read = record { answer = inl (inl (read.1, refl)) }

pub ue_accepted : (rule : Rule ℕ) (v : ℕ) (old new : List Bool) → rule v ≡ None → Gives (ue any) old (Ok v) new → Gives (ue rule) old (Ok v) new
unfolding ue
ue_accepted rule v old new accepts h = record { answer = record { front = h.answer.front; spelled = accepted_word (λ w. w) IsUe codewords.ue rule v h.answer.front accepts h.answer.spelled; parts = h.answer.parts } }

pub ue_refused : (rule : Rule ℕ) (v : ℕ) (stop : Stop) (old new : List Bool) → rule v ≡ Some stop → Gives (ue any) old (Ok v) new → Gives (ue rule) old (Err stop) new
unfolding ue
ue_refused rule v stop old new refuses h = record { answer = inl (refused_word (λ w. w) IsUe codewords.ue rule v stop h.answer.front old new refuses h.answer.spelled h.answer.parts) }

pub ue_stopped : (rule : Rule ℕ) (stop : Stop) (old new : List Bool) → Gives (ue any) old (Err stop) new → Gives (ue rule) old (Err stop) new
unfolding ue
ue_stopped rule stop old new h = record { answer = stopped_word IsUe codewords.ue rule stop old h.answer }

-- ---- se(v)

pub se_given : (old new : List Bool) (found : Option ℤ) → Reads IsSe codewords.se old found new → Gives (se any) old (ok_or found Malformed) new
unfolding se
se_given old new (Some v) read = record { answer = record { front = codewords.se v; spelled = word (λ w. w) IsSe codewords.se any v read.0 refl; parts = read.1 } }
se_given old new None read = record { answer = inl (inl (read.1, refl)) }

pub se_accepted : (rule : Rule ℤ) (v : ℤ) (old new : List Bool) → rule v ≡ None → Gives (se any) old (Ok v) new → Gives (se rule) old (Ok v) new
unfolding se
se_accepted rule v old new accepts h = record { answer = record { front = h.answer.front; spelled = accepted_word (λ w. w) IsSe codewords.se rule v h.answer.front accepts h.answer.spelled; parts = h.answer.parts } }

pub se_refused : (rule : Rule ℤ) (v : ℤ) (stop : Stop) (old new : List Bool) → rule v ≡ Some stop → Gives (se any) old (Ok v) new → Gives (se rule) old (Err stop) new
unfolding se
se_refused rule v stop old new refuses h = record { answer = inl (refused_word (λ w. w) IsSe codewords.se rule v stop h.answer.front old new refuses h.answer.spelled h.answer.parts) }

pub se_stopped : (rule : Rule ℤ) (stop : Stop) (old new : List Bool) → Gives (se any) old (Err stop) new → Gives (se rule) old (Err stop) new
unfolding se
se_stopped rule stop old new h = record { answer = stopped_word IsSe codewords.se rule stop old h.answer }

-- ---- writing

pub u_appended : (n : ℕ) (rule : Rule ℕ) (v : ℕ) (old new : List Bool) → v < 2 ^ n → rule v ≡ None → new ≡ old ++ bits.u v n → Appends (u n rule) v old new
unfolding u
u_appended n rule v old new is accepts e = record { added = bits.u v n; spelled = word (λ w. w) (IsU n) (λ w. bits.u w n) rule v is accepts; parts = e }

pub ue_appended : (rule : Rule ℕ) (v : ℕ) (old new : List Bool) → IsUe v → rule v ≡ None → new ≡ old ++ codewords.ue v → Appends (ue rule) v old new
unfolding ue
ue_appended rule v old new is accepts e = record { added = codewords.ue v; spelled = word (λ w. w) IsUe codewords.ue rule v is accepts; parts = e }

pub se_appended : (rule : Rule ℤ) (v : ℤ) (old new : List Bool) → IsSe v → rule v ≡ None → new ≡ old ++ codewords.se v → Appends (se rule) v old new
unfolding se
se_appended rule v old new is accepts e = record { added = codewords.se v; spelled = word (λ w. w) IsSe codewords.se rule v is accepts; parts = e }

pub flag_appended : (rule : Rule Bool) (f : Bool) (old new : List Bool) → rule f ≡ None → new ≡ old ++ bits.u (cond f 1 0) 1 → Appends (flag rule) f old new
unfolding flag
flag_appended rule true old new accepts e = record { added = bits.u 1 1; spelled = word is_one (IsU 1) (λ w. bits.u w 1) rule 1 (omega arith) accepts; parts = e }
flag_appended rule false old new accepts e = record { added = bits.u 0 1; spelled = word is_one (IsU 1) (λ w. bits.u w 1) rule 0 (omega arith) accepts; parts = e }

-- ---- ranges

pub u_range : (n : ℕ) (rule : Rule ℕ) (front : List Bool) (v : ℕ) → Spells (u n rule) front v → (v < 2 ^ n) × (rule v ≡ None)
unfolding u
u_range n rule front v (w, rest, is, acc, e, (none, same)) = (subst (λ (x : ℕ). x < 2 ^ n) same is, ap rule (sym same) ∙ acc)

pub ue_range : (rule : Rule ℕ) (front : List Bool) (v : ℕ) → Spells (ue rule) front v → IsUe v × (rule v ≡ None)
unfolding ue
ue_range rule front v (w, rest, is, acc, e, (none, same)) = (subst IsUe same is, ap rule (sym same) ∙ acc)

pub se_range : (rule : Rule ℤ) (front : List Bool) (v : ℤ) → Spells (se rule) front v → IsSe v × (rule v ≡ None)
unfolding se
se_range rule front v (w, rest, is, acc, e, (none, same)) = (subst IsSe same is, ap rule (sym same) ∙ acc)

pub flag_range : (rule : Rule Bool) (front : List Bool) (f : Bool) → Spells (flag rule) front f → rule f ≡ None
unfolding flag
flag_range rule front f (w, rest, is, acc, e, (none, same)) = ap rule (sym same) ∙ acc
