-- Fronts of what is written.
use Rattle.std.proofs.Common.{◌≡◌, ◌+◌, ◌++◌, ℕ, List, length, take, min, arith, sym, subst, ◌∙◌}
use Rattle.std.proofs.Math.Seq.{take-append-add, take-length}
use Rattle.std.proofs.lemmas.List.{take-append-le, take_min}
use Rattle.std.specs.Prelude.{IfNone, OnErr, OnOk, Result, Ok, Err, Some, None}
use Rattle.std.specs.declared.option.Option.{Option}
use Rattle.std.specs.Io.KnownBytes.{Appends}
use Rattle.std.proofs.KnownBytes.{Appends-nil, Appends-trans}
use Rattle.vdplay.specs.Run.{AppendsFront}

pub nothing_front : (a : Option (List ℕ)) (bytes : List ℕ) → AppendsFront a a bytes
nothing_front a bytes = (0, Appends-nil a)

pub whole_front : (a b : Option (List ℕ)) (bytes : List ℕ) → Appends a b bytes → AppendsFront a b bytes
whole_front a b bytes whole = (length bytes, subst (Appends a b) (sym (take-length bytes)) whole)

pub front_longer : (a b : Option (List ℕ)) (bytes more : List ℕ) → AppendsFront a b bytes → AppendsFront a b (bytes ++ more)
front_longer a b bytes more (n, front) =
    (min n (length bytes), subst (Appends a b) (sym (take-append-le (min n (length bytes)) bytes more (omega arith) ∙ take_min n bytes)) front)

pub whole_longer : (a b : Option (List ℕ)) (bytes more : List ℕ) → Appends a b bytes → AppendsFront a b (bytes ++ more)
whole_longer a b bytes more whole = front_longer a b bytes more (whole_front a b bytes whole)

pub front_after : (a b c : Option (List ℕ)) (bytes more : List ℕ) → Appends a b bytes → AppendsFront b c more → AppendsFront a c (bytes ++ more)
front_after a b c bytes more first (n, front) =
    (length bytes + n, subst (Appends a c) (sym (take-append-add bytes more n)) (Appends-trans a b c bytes (take n more) first front))

-- ---- by results

pub on_ok_then : {A E : Type 0} (r : Result A E) (P Q : Type 0) → (P → Q) → OnOk r P → OnOk r Q
on_ok_then (Ok value) P Q f p = f p
on_ok_then (Err fault) P Q f p = tt

pub on_err_then : {A E : Type 0} (r : Result A E) (P Q : Type 0) → (P → Q) → OnErr r P → OnErr r Q
on_err_then (Ok value) P Q f p = tt
on_err_then (Err fault) P Q f p = f p

pub by_result : {A E : Type 0} (r : Result A E) (P : Type 0) → OnOk r P → OnErr r P → P
by_result (Ok value) P ok err = ok
by_result (Err fault) P ok err = err

-- ---- three planes

pub y_front : (a b : Option (List ℕ)) (y cb cr bytes : List ℕ) → bytes ≡ y → AppendsFront a b bytes → AppendsFront a b (y ++ cb ++ cr)
y_front a b y cb cr bytes is front = front_longer a b (y ++ cb) cr (front_longer a b y cb (subst (AppendsFront a b) is front))

pub cb_front : (a b c : Option (List ℕ)) (y cb cr first bytes : List ℕ) → first ≡ y → bytes ≡ cb → Appends a b first → AppendsFront b c bytes → AppendsFront a c (y ++ cb ++ cr)
cb_front a b c y cb cr first bytes is more whole front =
    front_longer a c (y ++ cb) cr (front_after a b c y cb (subst (Appends a b) is whole) (subst (AppendsFront b c) more front))

pub cr_front : (a b c d : Option (List ℕ)) (y cb cr first second bytes : List ℕ) → first ≡ y → second ≡ cb → bytes ≡ cr → Appends a b first → Appends b c second → AppendsFront c d bytes → AppendsFront a d (y ++ cb ++ cr)
cr_front a b c d y cb cr first second bytes is more last whole next front =
    front_after a c d (y ++ cb) cr (Appends-trans a b c y cb (subst (Appends a b) is whole) (subst (Appends b c) more next)) (subst (AppendsFront c d) last front)

-- what holds in any case holds of one

pub if_none_any : {A : Type 0} (o : Option A) (P : Type 0) → P → IfNone o P
if_none_any None P p = p
if_none_any (Some value) P p = tt

pub on_err_any : {A E : Type 0} (r : Result A E) (P : Type 0) → P → OnErr r P
on_err_any (Ok value) P p = tt
on_err_any (Err fault) P p = p
