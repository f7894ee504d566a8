-- One table behind another.
use Rattle.std.proofs.Common.{◌≡◌, Bool, true, false, List, [], ◌++◌, ◌⊎◌, inl, inr, Result, Ok, Err, refl, sym, ap, subst, ◌∙◌, append_assoc}
use Rattle.std.proofs.lemmas.List.{append-nil}
use Rattle.bit_io.specs.Bits as bits
use Rattle.bit_io.specs.Codewords as codewords
use Rattle.bit_io.specs.Codewords.{IsU, IsUe, IsSe}
use Rattle.element_tables.specs.declared.elements.Stop.{Stop}
use Rattle.element_tables.specs.Syntax.{Appends, BeginsWith, Gives, Takes, Made, present, Rule, Se, Spells, Stops, Syntax, U, Ue, ◌>>=◌}

behind : {V : Type 0} (IsValue : V → Type 0) (code : V → List Bool) (rule : Rule V) (K L : V → List Bool → Type 0) (xs ys : List Bool)
    → ((v : V) (rest : List Bool) → K v rest → L v (rest ++ ys)) → BeginsWith IsValue code rule K xs → BeginsWith IsValue code rule L (xs ++ ys)
behind IsValue code rule K L xs ys on (v, rest, is, accepted, e, k) =
    (v, rest ++ ys, is, accepted, ap (λ (x : List Bool). x ++ ys) e ∙ append_assoc (code v) rest ys, on v rest k)

pub spells_then : {A B : Type 0} (t : Syntax A) (k : A → Syntax B) (xs ys : List Bool) (a : A) (b : B) → Spells t xs a → Spells (k a) ys b → Spells (t >>= k) (xs ++ ys) b
unfolding ◌>>=◌
spells_then {A} {B} (Made c) k xs ys a b (none, same) h =
    let here : Spells (k c) ys b = subst (λ (x : A). Spells (k x) ys b) (sym same) h in
    subst (λ (x : List Bool). Spells (k c) (x ++ ys) b) (sym none) here
spells_then (U n rule more) k xs ys a b f h = behind (IsU n) (λ v. bits.u v n) rule _ (λ v rest. Spells (more v >>= k) rest b) xs ys (λ v rest g. spells_then (more v) k rest ys a b g h) f
spells_then (Ue rule more) k xs ys a b f h = behind IsUe codewords.ue rule _ (λ v rest. Spells (more v >>= k) rest b) xs ys (λ v rest g. spells_then (more v) k rest ys a b g h) f
spells_then (Se rule more) k xs ys a b f h = behind IsSe codewords.se rule _ (λ v rest. Spells (more v >>= k) rest b) xs ys (λ v rest g. spells_then (more v) k rest ys a b g h) f

pub stops_later : {A B : Type 0} (t : Syntax A) (k : A → Syntax B) (xs ys : List Bool) (a : A) (stop : Stop) → Spells t xs a → Stops (k a) ys stop → Stops (t >>= k) (xs ++ ys) stop
unfolding ◌>>=◌
stops_later {A} {B} (Made c) k xs ys a stop (none, same) h =
    let here : Stops (k c) ys stop = subst (λ (x : A). Stops (k x) ys stop) (sym same) h in
    subst (λ (x : List Bool). Stops (k c) (x ++ ys) stop) (sym none) here
stops_later (U n rule more) k xs ys a stop f h = inr (behind (IsU n) (λ v. bits.u v n) rule _ (λ v rest. Stops (more v >>= k) rest stop) xs ys (λ v rest g. stops_later (more v) k rest ys a stop g h) f)
stops_later (Ue rule more) k xs ys a stop f h = inr (behind IsUe codewords.ue rule _ (λ v rest. Stops (more v >>= k) rest stop) xs ys (λ v rest g. stops_later (more v) k rest ys a stop g h) f)
stops_later (Se rule more) k xs ys a stop f h = inr (behind IsSe codewords.se rule _ (λ v rest. Stops (more v >>= k) rest stop) xs ys (λ v rest g. stops_later (more v) k rest ys a stop g h) f)

within : {V : Type 0} (IsValue : V → Type 0) (code : V → List Bool) (rule : Rule V) (K L : V → List Bool → Type 0) (xs : List Bool)
    → ((v : V) (rest : List Bool) → K v rest → L v rest) → BeginsWith IsValue code rule K xs → BeginsWith IsValue code rule L xs
within IsValue code rule K L xs on (v, rest, is, accepted, e, k) = (v, rest, is, accepted, e, on v rest k)

pub stops_first : {A B : Type 0} (t : Syntax A) (k : A → Syntax B) (xs : List Bool) (stop : Stop) → Stops t xs stop → Stops (t >>= k) xs stop
unfolding ◌>>=◌
stops_first (Made c) k xs stop h = absurd h
stops_first (U n rule more) k xs stop (inl r) = inl r
stops_first (U n rule more) k xs stop (inr f) = inr (within (IsU n) (λ v. bits.u v n) rule (λ v rest. Stops (more v) rest stop) (λ v rest. Stops (more v >>= k) rest stop) xs (λ v rest g. stops_first (more v) k rest stop g) f)
stops_first (Ue rule more) k xs stop (inl r) = inl r
stops_first (Ue rule more) k xs stop (inr f) = inr (within IsUe codewords.ue rule (λ v rest. Stops (more v) rest stop) (λ v rest. Stops (more v >>= k) rest stop) xs (λ v rest g. stops_first (more v) k rest stop g) f)
stops_first (Se rule more) k xs stop (inl r) = inl r
stops_first (Se rule more) k xs stop (inr f) = inr (within IsSe codewords.se rule (λ v rest. Stops (more v) rest stop) (λ v rest. Stops (more v >>= k) rest stop) xs (λ v rest g. stops_first (more v) k rest stop g) f)

-- ---- reading

pub gives_made : {A : Type 0} (a : A) (old : List Bool) → Gives (Made a) old (Ok a) old
gives_made a old = record { answer = record { front = []; spelled = (refl, refl); parts = refl } }

pub takes_then : {A B : Type 0} {t : Syntax A} (k : A → Syntax B) {a : A} {b : B} {old mid new : List Bool} → Takes t old a mid → Takes (k a) mid b new → Takes (t >>= k) old b new
takes_then {A} {B} {t} k {a} {b} {old} {mid} {new} f g = record {
  front = f.front ++ g.front;
  spelled = spells_then t k f.front g.front a b f.spelled g.spelled;
  parts = f.parts ∙ ap (λ (x : List Bool). f.front ++ x) g.parts ∙ sym (append_assoc f.front g.front new);
}

then_cases : {A B : Type 0} (t : Syntax A) (k : A → Syntax B) (a : A) (old mid new : List Bool) (r : Result B Stop) → Takes t old a mid → Gives (k a) mid r new → Gives (t >>= k) old r new
then_cases t k a old mid new (Ok b) f g = record { answer = takes_then k f g.answer }
then_cases t k a old mid new (Err stop) f g = record { answer = subst (λ (x : List Bool). Stops (t >>= k) x stop) (sym f.parts) (stops_later t k f.front mid a stop f.spelled g.answer) }

pub gives_then : {A B : Type 0} {t : Syntax A} (k : A → Syntax B) {a : A} {old mid new : List Bool} {r : Result B Stop} → Gives t old (Ok a) mid → Gives (k a) mid r new → Gives (t >>= k) old r new
gives_then {A} {B} {t} k {a} {old} {mid} {new} {r} f g = then_cases t k a old mid new r f.answer g

pub gives_stop : {A B : Type 0} {t : Syntax A} (k : A → Syntax B) {old mid new : List Bool} {stop : Stop} → Gives t old (Err stop) mid → Gives (t >>= k) old (Err stop) new
gives_stop {A} {B} {t} k {old} {mid} {new} {stop} f = record { answer = stops_first t k old stop f.answer }

-- ---- writing

pub appends_made : {A : Type 0} (a : A) (old : List Bool) → Appends (Made a) a old old
appends_made a old = record { added = []; spelled = (refl, refl); parts = sym (append-nil old) }

pub appends_then : {A B : Type 0} {t : Syntax A} (k : A → Syntax B) {a : A} {b : B} {old mid new : List Bool} → Appends t a old mid → Appends (k a) b mid new → Appends (t >>= k) b old new
appends_then {A} {B} {t} k {a} {b} {old} {mid} {new} f g = record {
  added = f.added ++ g.added;
  spelled = spells_then t k f.added g.added a b f.spelled g.spelled;
  parts = g.parts ∙ ap (λ (x : List Bool). x ++ g.added) f.parts ∙ append_assoc old f.added g.added;
}

-- ---- back to the parts

kept : {V : Type 0} (code : V → List Bool) (v : V) (xs rest ys zs : List Bool) → xs ≡ code v ++ rest → rest ≡ ys ++ zs → xs ≡ (code v ++ ys) ++ zs
kept code v xs rest ys zs e f = e ∙ ap (λ (x : List Bool). code v ++ x) f ∙ sym (append_assoc (code v) ys zs)

pub spells_parts : {A B : Type 0} (t : Syntax A) (k : A → Syntax B) (xs : List Bool) (b : B) → Spells (t >>= k) xs b
    → (a : A) × (ys : List Bool) × (zs : List Bool) × Spells t ys a × Spells (k a) zs b × (xs ≡ ys ++ zs)
unfolding ◌>>=◌
spells_parts (Made c) k xs b h = (c, [], xs, (refl, refl), h, refl)
spells_parts (U n rule more) k xs b (v, rest, is, accepted, e, h) =
    let p = spells_parts (more v) k rest b h in
    (p.0, bits.u v n ++ p.1, p.2, (v, p.1, is, accepted, refl, p.3), p.4, kept (λ w. bits.u w n) v xs rest p.1 p.2 e p.5)
spells_parts (Ue rule more) k xs b (v, rest, is, accepted, e, h) =
    let p = spells_parts (more v) k rest b h in
    (p.0, codewords.ue v ++ p.1, p.2, (v, p.1, is, accepted, refl, p.3), p.4, kept codewords.ue v xs rest p.1 p.2 e p.5)
spells_parts (Se rule more) k xs b (v, rest, is, accepted, e, h) =
    let p = spells_parts (more v) k rest b h in
    (p.0, codewords.se v ++ p.1, p.2, (v, p.1, is, accepted, refl, p.3), p.4, kept codewords.se v xs rest p.1 p.2 e p.5)

-- ---- where a condition holds

pub gives_absent : {A : Type 0} (t : Syntax A) (absent : A) (condition : Bool) (old : List Bool) → condition ≡ false → Gives (present condition t absent) old (Ok absent) old
unfolding present
gives_absent t absent true old e = absurd cc
gives_absent t absent false old e = gives_made absent old

pub gives_present : {A : Type 0} (t : Syntax A) (absent : A) (condition : Bool) (old new : List Bool) (r : Result A Stop) → condition ≡ true → Gives t old r new → Gives (present condition t absent) old r new
unfolding present
gives_present t absent true old new r e h = h
gives_present t absent false old new r e h = absurd cc

pub appends_absent : {A : Type 0} (t : Syntax A) (absent : A) (condition : Bool) (old : List Bool) → condition ≡ false → Appends (present condition t absent) absent old old
unfolding present
appends_absent t absent true old e = absurd cc
appends_absent t absent false old e = appends_made absent old

pub appends_present : {A : Type 0} (t : Syntax A) (absent made : A) (condition : Bool) (old new : List Bool) → condition ≡ true → Appends t made old new → Appends (present condition t absent) made old new
unfolding present
appends_present t absent made true old new e h = h
appends_present t absent made false old new e h = absurd cc

pub takes_parts : {A B : Type 0} {t : Syntax A} (k : A → Syntax B) {whole : List Bool} {b : B} {rest : List Bool} → Takes (t >>= k) whole b rest
    → (a : A) × (mid : List Bool) × Takes t whole a mid × Takes (k a) mid b rest
takes_parts {A} {B} {t} k {whole} {b} {rest} h =
    let p = spells_parts t k h.front b h.spelled in (
      p.0,
      p.2 ++ rest,
      record { front = p.1; spelled = p.3; parts = h.parts ∙ ap (λ (x : List Bool). x ++ rest) p.5 ∙ append_assoc p.1 p.2 rest },
      record { front = p.2; spelled = p.4; parts = refl },
    )

pub made_is : {A : Type 0} {a b : A} {whole rest : List Bool} → Takes (Made a) whole b rest → a ≡ b
made_is h = h.spelled.1

pub takes_present : {A : Type 0} (t : Syntax A) (absent : A) (condition : Bool) (whole : List Bool) (a : A) (rest : List Bool) → Takes (present condition t absent) whole a rest
    → ((condition ≡ true) × Takes t whole a rest) ⊎ ((condition ≡ false) × (absent ≡ a))
unfolding present
takes_present t absent true whole a rest h = inl (refl, h)
takes_present t absent false whole a rest h = inr (refl, made_is h)
