-- Commands and operations, by their numbers.
use Rattle.std.proofs.Common.{◌≡◌, ◌≢◌, ℕ, zero, suc, ◌-◌, ◌≤◌, List, Bool, Ok, Err, sym, subst, refl, arith}
use Rattle.cb_types.specs.declared.header.ListEdit.TheVariants.{Add, Long, Subtract}
use Rattle.cb_types.specs.declared.header.Mmco.TheVariants.{CurrentLong, MakeLong, MaxLong, Reset, UnmarkLong, UnmarkShort}
use Rattle.element_tables.specs.declared.elements.Stop.{Stop}
use Rattle.element_tables.specs.Syntax.{Gives, any, ue, up_to}
use Rattle.element_tables.proofs.Tables.{gives_made, gives_stop, gives_then}
use Rattle.slice_header.specs.Spelling.{command, operation}

pub op_1 : (n : ℕ) (old new : List Bool) (v : ℕ) → n ≡ 1 → Gives (ue any) old (Ok v) new → Gives (operation n) old (Ok (UnmarkShort v)) new
unfolding operation
op_1 n old new v e h =
    let here : Gives (operation 1) old (Ok (UnmarkShort v)) new = gives_then _ h (gives_made _ _) in
    subst (λ (k : ℕ). Gives (operation k) old (Ok (UnmarkShort v)) new) (sym e) here

pub op_2 : (n : ℕ) (old new : List Bool) (v : ℕ) → n ≡ 2 → Gives (ue any) old (Ok v) new → Gives (operation n) old (Ok (UnmarkLong v)) new
unfolding operation
op_2 n old new v e h =
    let here : Gives (operation 2) old (Ok (UnmarkLong v)) new = gives_then _ h (gives_made _ _) in
    subst (λ (k : ℕ). Gives (operation k) old (Ok (UnmarkLong v)) new) (sym e) here

pub op_4 : (n : ℕ) (old new : List Bool) (v : ℕ) → n ≡ 4 → Gives (ue any) old (Ok v) new → Gives (operation n) old (Ok (MaxLong v)) new
unfolding operation
op_4 n old new v e h =
    let here : Gives (operation 4) old (Ok (MaxLong v)) new = gives_then _ h (gives_made _ _) in
    subst (λ (k : ℕ). Gives (operation k) old (Ok (MaxLong v)) new) (sym e) here

pub op_6 : (n : ℕ) (old new : List Bool) (v : ℕ) → n ≡ 6 → Gives (ue any) old (Ok v) new → Gives (operation n) old (Ok (CurrentLong v)) new
unfolding operation
op_6 n old new v e h =
    let here : Gives (operation 6) old (Ok (CurrentLong v)) new = gives_then _ h (gives_made _ _) in
    subst (λ (k : ℕ). Gives (operation k) old (Ok (CurrentLong v)) new) (sym e) here

pub op_3 : (n : ℕ) (old mid new : List Bool) (v w : ℕ) → n ≡ 3 → Gives (ue any) old (Ok v) mid → Gives (ue any) mid (Ok w) new → Gives (operation n) old (Ok (MakeLong v w)) new
unfolding operation
op_3 n old mid new v w e h i =
    let here : Gives (operation 3) old (Ok (MakeLong v w)) new = gives_then _ h (gives_then _ i (gives_made _ _)) in
    subst (λ (k : ℕ). Gives (operation k) old (Ok (MakeLong v w)) new) (sym e) here

pub op_3_stops : (n : ℕ) (old mid new : List Bool) (v : ℕ) (stop : Stop) → n ≡ 3 → Gives (ue any) old (Ok v) mid → Gives (ue any) mid (Err stop) new → Gives (operation n) old (Err stop) new
unfolding operation
op_3_stops n old mid new v stop e h i =
    let here : Gives (operation 3) old (Err stop) new = gives_then _ h (gives_stop _ i) in
    subst (λ (k : ℕ). Gives (operation k) old (Err stop) new) (sym e) here

pub op_reset : (n : ℕ) (old : List Bool) → n ≡ 5 → Gives (operation n) old (Ok Reset) old
unfolding operation
op_reset n old e =
    let here : Gives (operation 5) old (Ok Reset) old = gives_made _ _ in
    subst (λ (k : ℕ). Gives (operation k) old (Ok Reset) old) (sym e) here

-- an operation with an operand stops where its first operand does
pub op_stops : (n : ℕ) (old new : List Bool) (stop : Stop) → n ≢ 0 → n ≤ 6 → n ≢ 5 → Gives (ue any) old (Err stop) new → Gives (operation n) old (Err stop) new
unfolding operation
op_stops zero old new stop some most other h = absurd (some refl)
op_stops (suc zero) old new stop some most other h = gives_stop _ h
op_stops (suc (suc zero)) old new stop some most other h = gives_stop _ h
op_stops (suc (suc (suc zero))) old new stop some most other h = gives_stop _ h
op_stops (suc (suc (suc (suc zero)))) old new stop some most other h = gives_stop _ h
op_stops (suc (suc (suc (suc (suc zero))))) old new stop some most other h = absurd (other refl)
op_stops (suc (suc (suc (suc (suc (suc zero)))))) old new stop some most other h = gives_stop _ h
op_stops (suc (suc (suc (suc (suc (suc (suc n))))))) old new stop some most other h = absurd (omega (arith, most))

pub command_0 : (m n : ℕ) (old new : List Bool) (v : ℕ) → n ≡ 0 → Gives (ue (up_to (m - 1))) old (Ok v) new → Gives (command m n) old (Ok (Subtract v)) new
unfolding command
command_0 m n old new v e h =
    let here : Gives (command m 0) old (Ok (Subtract v)) new = gives_then _ h (gives_made _ _) in
    subst (λ (k : ℕ). Gives (command m k) old (Ok (Subtract v)) new) (sym e) here

pub command_1 : (m n : ℕ) (old new : List Bool) (v : ℕ) → n ≡ 1 → Gives (ue (up_to (m - 1))) old (Ok v) new → Gives (command m n) old (Ok (Add v)) new
unfolding command
command_1 m n old new v e h =
    let here : Gives (command m 1) old (Ok (Add v)) new = gives_then _ h (gives_made _ _) in
    subst (λ (k : ℕ). Gives (command m k) old (Ok (Add v)) new) (sym e) here

pub command_2 : (m n : ℕ) (old new : List Bool) (v : ℕ) → n ≡ 2 → Gives (ue any) old (Ok v) new → Gives (command m n) old (Ok (Long v)) new
unfolding command
command_2 m n old new v e h =
    let here : Gives (command m 2) old (Ok (Long v)) new = gives_then _ h (gives_made _ _) in
    subst (λ (k : ℕ). Gives (command m k) old (Ok (Long v)) new) (sym e) here

pub command_2_stops : (m n : ℕ) (old new : List Bool) (stop : Stop) → n ≡ 2 → Gives (ue any) old (Err stop) new → Gives (command m n) old (Err stop) new
unfolding command
command_2_stops m n old new stop e h =
    let here : Gives (command m 2) old (Err stop) new = gives_stop _ h in
    subst (λ (k : ℕ). Gives (command m k) old (Err stop) new) (sym e) here

pub command_stops : (m n : ℕ) (old new : List Bool) (stop : Stop) → n ≤ 1 → Gives (ue (up_to (m - 1))) old (Err stop) new → Gives (command m n) old (Err stop) new
unfolding command
command_stops m zero old new stop most h = gives_stop _ h
command_stops m (suc zero) old new stop most h = gives_stop _ h
command_stops m (suc (suc n)) old new stop most h = absurd (omega (arith, most))
