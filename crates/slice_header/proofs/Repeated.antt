-- Lists of elements, as far as they are read.
use Rattle.std.proofs.Common.{◌≡◌, ◌≢◌, ℕ, suc, Bool, List, [], ◌∷◌, ◌++◌, Ok, Err, sym, subst, append_assoc, eqb, eq-eqb, ne_eqb}
use Rattle.std.proofs.lemmas.List.{append-nil}
use Rattle.element_tables.specs.declared.elements.Stop.{Stop}
use Rattle.element_tables.specs.Syntax.{Gives, Stops, Syntax, Takes, times, ue, up_to}
use Rattle.element_tables.proofs.Tables.{gives_made, gives_stop, gives_then}
use Rattle.slice_header.specs.Lists.{exactly, listed}
use Rattle.slice_header.proofs.Choices.{chosen, passed}

-- Of the whole table's list these are read, and where the rest of it is read here, the whole is.
pub record Goes {A : Type 0} (whole : Syntax (List A)) (old : List Bool) (done : List A) (rest : Syntax (List A)) (here : List Bool) : Type 0 where
  pub takes : (later : List A) (new : List Bool) → Takes rest here later new → Takes whole old (done ++ later) new
  pub stops : (stop : Stop) → Stops rest here stop → Stops whole old stop

pub goes_first : {A : Type 0} (table : ℕ → Syntax (List A)) (m n : ℕ) (old : List Bool) → n ≡ m → Goes (table m) old [] (table n) old
goes_first table m n old e = subst (λ (i : ℕ). Goes (table m) old [] (table i) old) (sym e) (record { takes = λ later new h. h; stops = λ stop h. h })

pub goes_given : {A : Type 0} {whole rest : Syntax (List A)} {old here new : List Bool} {done : List A} → Goes whole old done rest here → Gives rest here (Ok []) new → Gives whole old (Ok done) new
goes_given {A} {whole} {rest} {old} {here} {new} {done} g h = record { answer = subst (λ (xs : List A). Takes whole old xs new) (append-nil done) (g.takes [] new h.answer) }

pub goes_stopped : {A : Type 0} {whole rest : Syntax (List A)} {old here mid new : List Bool} {done : List A} {stop : Stop} → Goes whole old done rest here → Gives rest here (Err stop) mid → Gives whole old (Err stop) new
goes_stopped {A} {whole} {rest} {old} {here} {mid} {new} {done} {stop} g h = record { answer = g.stops stop h.answer }

-- one more is read
goes_on : {A : Type 0} (whole rest less : Syntax (List A)) (old here new : List Bool) (done : List A) (x : A) → Goes whole old done rest here
    → ((later : List A) (end : List Bool) → Takes less new later end → Takes rest here (x ∷ later) end) → ((stop : Stop) → Stops less new stop → Stops rest here stop)
    → Goes whole old (done ++ x ∷ []) less new
goes_on {A} whole rest less old here new done x g takes stops = record {
  takes = λ later end h. subst (λ (xs : List A). Takes whole old xs end) (sym (append_assoc done (x ∷ []) later)) (g.takes (x ∷ later) end (takes later end h));
  stops = λ stop h. g.stops stop (stops stop h);
}

-- ---- so many times

pub times_more : {A : Type 0} (t : Syntax A) (m n : ℕ) (whole : Syntax (List A)) (old here new : List Bool) (done : List A) (x : A) → m ≡ suc n
    → Goes whole old done (times m t) here → Gives t here (Ok x) new → Goes whole old (done ++ x ∷ []) (times n t) new
unfolding times
times_more {A} t m n whole old here new done x e g h =
    let from : Goes whole old done (times (suc n) t) here = subst (λ (i : ℕ). Goes whole old done (times i t) here) e g in
    goes_on whole (times (suc n) t) (times n t) old here new done x from
    (λ later end f.
    let others : Gives (times n t) new (Ok later) end = record { answer = f } in
    let all : Gives (times (suc n) t) here (Ok (x ∷ later)) end = gives_then _ h (gives_then _ others (gives_made _ _)) in
    all.answer)
    (λ stop f.
    let others : Gives (times n t) new (Err stop) new = record { answer = f } in
    let all : Gives (times (suc n) t) here (Err stop) new = gives_then _ h (gives_stop _ others) in
    all.answer)

pub times_stop : {A : Type 0} (t : Syntax A) (m n : ℕ) (here new : List Bool) (stop : Stop) → m ≡ suc n → Gives t here (Err stop) new → Gives (times m t) here (Err stop) new
unfolding times
times_stop t m n here new stop e h =
    let here' : Gives (times (suc n) t) here (Err stop) new = gives_stop _ h in
    subst (λ (i : ℕ). Gives (times i t) here (Err stop) new) (sym e) here'

pub times_end : {A : Type 0} (t : Syntax A) (m : ℕ) (here : List Bool) → m ≡ 0 → Gives (times m t) here (Ok []) here
unfolding times
times_end {A} t m here e =
    let none : Gives (times 0 t) here (Ok []) here = gives_made [] here in
    subst (λ (i : ℕ). Gives (times i t) here (Ok []) here) (sym e) none

-- ---- up to a number

abbrev Number : ℕ → Syntax ℕ
Number greatest = ue (up_to greatest)

pub listed_more : {A : Type 0} (greatest end : ℕ) (item : ℕ → Syntax A) (m n number : ℕ) (whole : Syntax (List A)) (old here mid new : List Bool) (done : List A) (x : A)
    → m ≡ suc n → number ≢ end → Goes whole old done (listed greatest end item m) here → Gives (Number greatest) here (Ok number) mid → Gives (item number) mid (Ok x) new
    → Goes whole old (done ++ x ∷ []) (listed greatest end item n) new
unfolding listed
listed_more {A} greatest end item m n number whole old here mid new done x e other g h i =
    let all = listed greatest end item in
    let from : Goes whole old done (all (suc n)) here = subst (λ (k : ℕ). Goes whole old done (all k) here) e g in
    goes_on whole (all (suc n)) (all n) old here new done x from
    (λ later last f.
    let others : Gives (all n) new (Ok later) last = record { answer = f } in
    let whole : Gives (all (suc n)) here (Ok (x ∷ later)) last = gives_then _ h (passed (eqb number end) _ _ _ _ _ (ne_eqb number end other) (gives_then _ i (gives_then _ others (gives_made _ _)))) in
    whole.answer)
    (λ stop f.
    let others : Gives (all n) new (Err stop) new = record { answer = f } in
    let whole : Gives (all (suc n)) here (Err stop) new = gives_then _ h (passed (eqb number end) _ _ _ _ _ (ne_eqb number end other) (gives_then _ i (gives_stop _ others))) in
    whole.answer)

pub listed_ends : {A : Type 0} (greatest end : ℕ) (item : ℕ → Syntax A) (m n number : ℕ) (here new : List Bool) → m ≡ suc n → number ≡ end
    → Gives (Number greatest) here (Ok number) new → Gives (listed greatest end item m) here (Ok []) new
unfolding listed
listed_ends greatest end item m n number here new e same h =
    let one : Gives (listed greatest end item (suc n)) here (Ok []) new = gives_then _ h (chosen (eqb number end) _ _ _ _ _ (eq-eqb number end same) (gives_made _ _)) in
    subst (λ (i : ℕ). Gives (listed greatest end item i) here (Ok []) new) (sym e) one

pub listed_stops : {A : Type 0} (greatest end : ℕ) (item : ℕ → Syntax A) (m n : ℕ) (here new : List Bool) (stop : Stop) → m ≡ suc n
    → Gives (Number greatest) here (Err stop) new → Gives (listed greatest end item m) here (Err stop) new
unfolding listed
listed_stops greatest end item m n here new stop e h =
    let one : Gives (listed greatest end item (suc n)) here (Err stop) new = gives_stop _ h in
    subst (λ (i : ℕ). Gives (listed greatest end item i) here (Err stop) new) (sym e) one

pub item_stops : {A : Type 0} (greatest end : ℕ) (item : ℕ → Syntax A) (m n number : ℕ) (here mid new : List Bool) (stop : Stop) → m ≡ suc n → number ≢ end
    → Gives (Number greatest) here (Ok number) mid → Gives (item number) mid (Err stop) new → Gives (listed greatest end item m) here (Err stop) new
unfolding listed
item_stops greatest end item m n number here mid new stop e other h i =
    let one : Gives (listed greatest end item (suc n)) here (Err stop) new = gives_then _ h (passed (eqb number end) _ _ _ _ _ (ne_eqb number end other) (gives_stop _ i)) in
    subst (λ (k : ℕ). Gives (listed greatest end item k) here (Err stop) new) (sym e) one

pub last_given : {A : Type 0} (greatest end : ℕ) (item : ℕ → Syntax A) (m number : ℕ) (here new : List Bool) → m ≡ 0
    → Gives (ue (exactly end)) here (Ok number) new → Gives (listed greatest end item m) here (Ok []) new
unfolding listed
last_given greatest end item m number here new e h =
    let one : Gives (listed greatest end item 0) here (Ok []) new = gives_then _ h (gives_made _ _) in
    subst (λ (i : ℕ). Gives (listed greatest end item i) here (Ok []) new) (sym e) one

pub last_stops : {A : Type 0} (greatest end : ℕ) (item : ℕ → Syntax A) (m : ℕ) (here new : List Bool) (stop : Stop) → m ≡ 0
    → Gives (ue (exactly end)) here (Err stop) new → Gives (listed greatest end item m) here (Err stop) new
unfolding listed
last_stops greatest end item m here new stop e h =
    let one : Gives (listed greatest end item 0) here (Err stop) new = gives_stop _ h in
    subst (λ (i : ℕ). Gives (listed greatest end item i) here (Err stop) new) (sym e) one
