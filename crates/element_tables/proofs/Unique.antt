-- Tables are read in one way alone.
use Rattle.std.proofs.Common.{◌≡◌, Bool, List, [], ◌++◌, inl, inr, Some, sym, ap, subst, ◌∙◌, append_assoc, Option}
use Rattle.std.proofs.lemmas.List.{append-nil}
use Rattle.bit_io.specs.Bits as bits
use Rattle.bit_io.specs.Codewords as codewords
use Rattle.bit_io.specs.Codewords.{IsU, IsUe, IsSe}
use Rattle.bit_io.specs.Reads.{IsPrefixFree}
use Rattle.bit_io.proofs.LawLemmas.{se_prefix_free, u_prefix_free, ue_prefix_free}
use Rattle.element_tables.specs.declared.elements.Stop.{Stop}
use Rattle.element_tables.specs.Syntax.{BeginsWith, IsRefused, Made, Rule, Se, Spells, Stops, Syntax, Takes, U, Ue}

same_word : {V : Type 0} (IsValue : V → Type 0) (code : V → List Bool) → IsPrefixFree IsValue code → (v w : V) (xs ys rest_v rest_w p q : List Bool)
    → IsValue v → IsValue w → xs ≡ code v ++ rest_v → ys ≡ code w ++ rest_w → xs ++ p ≡ ys ++ q → (v ≡ w) × (rest_v ++ p ≡ rest_w ++ q)
same_word IsValue code free v w xs ys rest_v rest_w p q is_v is_w e_v e_w e =
    let left : xs ++ p ≡ code v ++ (rest_v ++ p) = ap (λ (x : List Bool). x ++ p) e_v ∙ append_assoc (code v) rest_v p in
    let right : ys ++ q ≡ code w ++ (rest_w ++ q) = ap (λ (x : List Bool). x ++ q) e_w ∙ append_assoc (code w) rest_w q in
    free v w (rest_v ++ p) (rest_w ++ q) is_v is_w (sym left ∙ e ∙ right)

-- Two readings that begin at the same bits go on behind the same value.
both : {V C : Type 0} (IsValue : V → Type 0) (code : V → List Bool) → IsPrefixFree IsValue code → (rule : Rule V) (K L : V → List Bool → Type 0) (xs ys p q : List Bool)
    → ((v : V) (rest_v rest_w : List Bool) → K v rest_v → L v rest_w → rest_v ++ p ≡ rest_w ++ q → C)
    → BeginsWith IsValue code rule K xs → BeginsWith IsValue code rule L ys → xs ++ p ≡ ys ++ q → C
both {V} IsValue code free rule K L xs ys p q on (v, rest_v, is_v, acc_v, e_v, k) (w, rest_w, is_w, acc_w, e_w, l) e =
    let same = same_word IsValue code free v w xs ys rest_v rest_w p q is_v is_w e_v e_w e in
    on w rest_v rest_w (subst (λ (x : V). K x rest_v) same.0 k) l same.1

pub spells_same : {A : Type 0} (t : Syntax A) (xs ys p q : List Bool) (a b : A) → Spells t xs a → Spells t ys b → xs ++ p ≡ ys ++ q → (a ≡ b) × (p ≡ q)
spells_same (Made c) xs ys p q a b (none_x, is_a) (none_y, is_b) e =
    (sym is_a ∙ is_b, sym (ap (λ (x : List Bool). x ++ p) none_x) ∙ e ∙ ap (λ (x : List Bool). x ++ q) none_y)
spells_same (U n rule more) xs ys p q a b f g e = both (IsU n) (λ v. bits.u v n) (u_prefix_free n) rule (λ v rest. Spells (more v) rest a) (λ v rest. Spells (more v) rest b) xs ys p q (λ v r s. spells_same (more v) r s p q a b) f g e
spells_same (Ue rule more) xs ys p q a b f g e = both IsUe codewords.ue ue_prefix_free rule (λ v rest. Spells (more v) rest a) (λ v rest. Spells (more v) rest b) xs ys p q (λ v r s. spells_same (more v) r s p q a b) f g e
spells_same (Se rule more) xs ys p q a b f g e = both IsSe codewords.se se_prefix_free rule (λ v rest. Spells (more v) rest a) (λ v rest. Spells (more v) rest b) xs ys p q (λ v r s. spells_same (more v) r s p q a b) f g e

-- a value that is accepted isn't refused
not_refused : {V : Type 0} (IsValue : V → Type 0) (code : V → List Bool) → IsPrefixFree IsValue code → (rule : Rule V) (K : V → List Bool → Type 0) (xs p : List Bool) (stop : Stop)
    → BeginsWith IsValue code rule K xs → IsRefused IsValue code rule (xs ++ p) stop → ⊥
not_refused IsValue code free rule K xs p stop (v, rest, is, accepted, e, k) (inl (none, why)) =
    none v (rest ++ p) is (ap (λ (x : List Bool). x ++ p) e ∙ append_assoc (code v) rest p)
not_refused IsValue code free rule K xs p stop (v, rest, is, accepted, e, k) (inr (w, after, is_w, refused, e_w)) =
    let here : code v ++ (rest ++ p) ≡ code w ++ after = sym (ap (λ (x : List Bool). x ++ p) e ∙ append_assoc (code v) rest p) ∙ e_w in
    let same = free v w (rest ++ p) after is is_w here in
    let yes = accepted in
    let against = ap rule same.0 ∙ refused in
    cc

-- Where elements begin the bits and further ones the whole, the further ones go on behind the same value.
goes_on : {V : Type 0} (IsValue : V → Type 0) (code : V → List Bool) → IsPrefixFree IsValue code → (rule : Rule V) (K L : V → List Bool → Type 0) (xs p : List Bool)
    → BeginsWith IsValue code rule K xs → BeginsWith IsValue code rule L (xs ++ p) → (v : V) × (rest : List Bool) × K v rest × L v (rest ++ p)
goes_on {V} IsValue code free rule K L xs p f g =
    both IsValue code free rule K L xs (xs ++ p) p []
    (λ v r s k l e. (v, r, k, subst (λ (x : List Bool). L v x) (sym (append-nil s) ∙ sym e) l)) f g (sym (append-nil (xs ++ p)))

pub spells_or_stops : {A : Type 0} (t : Syntax A) (xs p : List Bool) (a : A) (stop : Stop) → Spells t xs a → Stops t (xs ++ p) stop → ⊥
spells_or_stops (Made c) xs p a stop f g = g
spells_or_stops (U n rule more) xs p a stop f (inl r) = not_refused (IsU n) (λ v. bits.u v n) (u_prefix_free n) rule (λ v rest. Spells (more v) rest a) xs p stop f r
spells_or_stops (U n rule more) xs p a stop f (inr g) =
    let h = goes_on (IsU n) (λ v. bits.u v n) (u_prefix_free n) rule (λ v rest. Spells (more v) rest a) (λ v rest. Stops (more v) rest stop) xs p f g in
    spells_or_stops (more h.0) h.1 p a stop h.2 h.3
spells_or_stops (Ue rule more) xs p a stop f (inl r) = not_refused IsUe codewords.ue ue_prefix_free rule (λ v rest. Spells (more v) rest a) xs p stop f r
spells_or_stops (Ue rule more) xs p a stop f (inr g) =
    let h = goes_on IsUe codewords.ue ue_prefix_free rule (λ v rest. Spells (more v) rest a) (λ v rest. Stops (more v) rest stop) xs p f g in
    spells_or_stops (more h.0) h.1 p a stop h.2 h.3
spells_or_stops (Se rule more) xs p a stop f (inl r) = not_refused IsSe codewords.se se_prefix_free rule (λ v rest. Spells (more v) rest a) xs p stop f r
spells_or_stops (Se rule more) xs p a stop f (inr g) =
    let h = goes_on IsSe codewords.se se_prefix_free rule (λ v rest. Spells (more v) rest a) (λ v rest. Stops (more v) rest stop) xs p f g in
    spells_or_stops (more h.0) h.1 p a stop h.2 h.3

some_same : (x : Option Stop) (stop other : Stop) → x ≡ Some stop → x ≡ Some other → stop ≡ other
some_same x stop other e f = cc

refused_same : {V : Type 0} (IsValue : V → Type 0) (code : V → List Bool) → IsPrefixFree IsValue code → (rule : Rule V) (xs : List Bool) (stop other : Stop)
    → IsRefused IsValue code rule xs stop → IsRefused IsValue code rule xs other → stop ≡ other
refused_same IsValue code free rule xs stop other (inl (none, why)) (inl (none', why')) = why ∙ sym why'
refused_same IsValue code free rule xs stop other (inl (none, why)) (inr (w, rest, is, against, e)) = absurd (none w rest is e)
refused_same IsValue code free rule xs stop other (inr (v, rest, is, against, e)) (inl (none, why)) = absurd (none v rest is e)
refused_same IsValue code free rule xs stop other (inr (v, rest_v, is_v, no_v, e_v)) (inr (w, rest_w, is_w, no_w, e_w)) =
    let same = free v w rest_v rest_w is_v is_w (sym e_v ∙ e_w) in
    some_same (rule w) stop other (sym (ap rule same.0) ∙ no_v) no_w

-- the same of elements that are accepted, at their very end
refused_here : {V : Type 0} (IsValue : V → Type 0) (code : V → List Bool) → IsPrefixFree IsValue code → (rule : Rule V) (K : V → List Bool → Type 0) (xs : List Bool) (stop : Stop)
    → BeginsWith IsValue code rule K xs → IsRefused IsValue code rule xs stop → ⊥
refused_here IsValue code free rule K xs stop f r =
    not_refused IsValue code free rule K xs [] stop f (subst (λ (x : List Bool). IsRefused IsValue code rule x stop) (sym (append-nil xs)) r)

go_on : {V : Type 0} (IsValue : V → Type 0) (code : V → List Bool) → IsPrefixFree IsValue code → (rule : Rule V) (K L : V → List Bool → Type 0) (xs : List Bool)
    → BeginsWith IsValue code rule K xs → BeginsWith IsValue code rule L xs → (v : V) × (rest : List Bool) × K v rest × L v rest
go_on IsValue code free rule K L xs f g =
    let h = goes_on IsValue code free rule K L xs [] f (subst (λ (x : List Bool). BeginsWith IsValue code rule L x) (sym (append-nil xs)) g) in
    (h.0, h.1, h.2, subst (λ (x : List Bool). L h.0 x) (append-nil h.1) h.3)

pub stops_same : {A : Type 0} (t : Syntax A) (xs : List Bool) (stop other : Stop) → Stops t xs stop → Stops t xs other → stop ≡ other
stops_same (Made c) xs stop other f g = absurd f
stops_same (U n rule more) xs stop other (inl r) (inl s) = refused_same (IsU n) (λ v. bits.u v n) (u_prefix_free n) rule xs stop other r s
stops_same (U n rule more) xs stop other (inl r) (inr g) = absurd (refused_here (IsU n) (λ v. bits.u v n) (u_prefix_free n) rule (λ v rest. Stops (more v) rest other) xs stop g r)
stops_same (U n rule more) xs stop other (inr f) (inl s) = absurd (refused_here (IsU n) (λ v. bits.u v n) (u_prefix_free n) rule (λ v rest. Stops (more v) rest stop) xs other f s)
stops_same (U n rule more) xs stop other (inr f) (inr g) =
    let h = go_on (IsU n) (λ v. bits.u v n) (u_prefix_free n) rule (λ v rest. Stops (more v) rest stop) (λ v rest. Stops (more v) rest other) xs f g in
    stops_same (more h.0) h.1 stop other h.2 h.3
stops_same (Ue rule more) xs stop other (inl r) (inl s) = refused_same IsUe codewords.ue ue_prefix_free rule xs stop other r s
stops_same (Ue rule more) xs stop other (inl r) (inr g) = absurd (refused_here IsUe codewords.ue ue_prefix_free rule (λ v rest. Stops (more v) rest other) xs stop g r)
stops_same (Ue rule more) xs stop other (inr f) (inl s) = absurd (refused_here IsUe codewords.ue ue_prefix_free rule (λ v rest. Stops (more v) rest stop) xs other f s)
stops_same (Ue rule more) xs stop other (inr f) (inr g) =
    let h = go_on IsUe codewords.ue ue_prefix_free rule (λ v rest. Stops (more v) rest stop) (λ v rest. Stops (more v) rest other) xs f g in
    stops_same (more h.0) h.1 stop other h.2 h.3
stops_same (Se rule more) xs stop other (inl r) (inl s) = refused_same IsSe codewords.se se_prefix_free rule xs stop other r s
stops_same (Se rule more) xs stop other (inl r) (inr g) = absurd (refused_here IsSe codewords.se se_prefix_free rule (λ v rest. Stops (more v) rest other) xs stop g r)
stops_same (Se rule more) xs stop other (inr f) (inl s) = absurd (refused_here IsSe codewords.se se_prefix_free rule (λ v rest. Stops (more v) rest stop) xs other f s)
stops_same (Se rule more) xs stop other (inr f) (inr g) =
    let h = go_on IsSe codewords.se se_prefix_free rule (λ v rest. Stops (more v) rest stop) (λ v rest. Stops (more v) rest other) xs f g in
    stops_same (more h.0) h.1 stop other h.2 h.3

-- ---- of whole tables

pub takes_same : {A : Type 0} (t : Syntax A) (whole p q : List Bool) (a b : A) → Takes t whole a p → Takes t whole b q → (a ≡ b) × (p ≡ q)
takes_same t whole p q a b f g = spells_same t f.front g.front p q a b f.spelled g.spelled (sym f.parts ∙ g.parts)

pub takes_or_stops : {A : Type 0} (t : Syntax A) (whole p : List Bool) (a : A) (stop : Stop) → Takes t whole a p → Stops t whole stop → ⊥
takes_or_stops t whole p a stop f g = spells_or_stops t f.front p a stop f.spelled (subst (λ (x : List Bool). Stops t x stop) f.parts g)
