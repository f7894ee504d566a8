-- Reading the prediction of inter macroblocks, part by part.
use Rattle.std.proofs.Common.{◌≡◌, ◌≢◌, ℕ, suc, ◌+◌, ◌-◌, ◌<◌, ◌≤◌, inl, inr, Bool, List, [], ◌∷◌, ◌++◌, length, get_or, set, take, drop, refl, sym, ap, ap₂, ◌∙◌, subst, arith, ℤ, Option, Some, None, eq-eqb, ne_eqb}
use Rattle.std.proofs.lemmas.Bool.{cases_eq}
use Rattle.std.proofs.lemmas.List.{drop-drop, drop-set-lt, get_or-drop, get_or-take, length-drop, length-set, length-take-le, take-append-drop, take_all, take_more_set}
use Rattle.std.proofs.lemmas.List.Elements.{All-drop, All-head, All-tail}
use Rattle.std.specs.List.{All, flat_map}
use Rattle.bit_io.specs.Codewords.{IsSe, IsTe, IsUe, se, te, ue}
use Rattle.bit_io.specs.Reads.{BeginsNone, IsPrefixFree, Reads}
use Rattle.bit_io.proofs.LawLemmas.{se_prefix_free, te_prefix_free, ue_prefix_free}
use Rattle.cavlc.proofs.TurnLemmas.{AreInTurn-push, none_in_turn, read_more, turns_prefix_free}
use Rattle.cavlc.specs.Parts.{Gives}
use Rattle.cavlc.specs.Turns.{AreInTurn, in_turn, state_behind}
use Rattle.cb_types.specs.declared.macroblock.Sub.{Sub}
use Rattle.cb_types.specs.declared.macroblock.Vector.{Vector}
use Rattle.mb_syntax.proofs.Lists.{ReadSo, elements_free, more_read, none_longer, none_read}
use Rattle.mb_syntax.proofs.Pairs.{Made, both_free, made_free, none_first, none_made, none_second}
use Rattle.mb_syntax.proofs.Steps.{joined}
use Rattle.mb_syntax.specs.KindSteps.{AreDeltas, AreSubsOf, IsNextSub, IsSubKind, behind_sub, deltas_bits}
use Rattle.mb_syntax.specs.Kinds.{sub_parts}
use Rattle.mb_syntax.specs.Prediction.{IsReference, IsVector, IsZeroVector, reference_bits, sub_vector_bits, vector_bits}
use Rattle.mb_syntax.specs.declared.slice.Slice.{Slice}

-- ---- ref_idx_l0

only_one : (slice : Slice) (reference : ℕ) → slice.active ≡ 1 → reference_bits slice reference ≡ []
only_one slice reference e = rw (eq-eqb slice.active 1 e) refl

several : (slice : Slice) (reference : ℕ) → slice.active ≢ 1 → reference_bits slice reference ≡ te reference (slice.active - 1)
several slice reference other = rw (ne_eqb slice.active 1 other) refl

pub reference_unspelled : (slice : Slice) (old : List Bool) → slice.active ≡ 1 → IsReference slice 0 × (old ≡ reference_bits slice 0 ++ old)
reference_unspelled slice old e = (omega (arith, e), ap (λ (x : List Bool). x ++ old) (sym (only_one slice 0 e)))

is_te : (slice : Slice) (reference : ℕ) → slice.active ≤ 16 → IsReference slice reference → IsTe (slice.active - 1) reference
is_te slice reference few is = (omega arith, omega arith)

pub reference_read : (slice : Slice) (old new : List Bool) (result : Option ℕ) → 1 ≤ slice.active → slice.active ≤ 16 → slice.active ≢ 1 → Reads (IsTe (slice.active - 1)) (λ v. te v (slice.active - 1)) old result new
    → Gives (IsReference slice) (reference_bits slice) old result new
reference_read slice old new None some few other h = λ reference rest is e.
    h.1 reference rest (is_te slice reference few is) (e ∙ ap (λ (x : List Bool). x ++ rest) (several slice reference other))
reference_read slice old new (Some reference) some few other h =
    let within : reference ≤ slice.active - 1 = h.0.0 in
    (omega (arith, within), h.1 ∙ ap (λ (x : List Bool). x ++ new) (sym (several slice reference other)))

pub reference_free : (slice : Slice) → slice.active ≤ 16 → IsPrefixFree (IsReference slice) (reference_bits slice)
reference_free slice few v w after_v after_w h k e = elim (cases_eq slice.active 1) [
  | inl one ↦ (omega (arith, one, h, k), ap (λ (x : List Bool). x ++ after_v) (sym (only_one slice v one)) ∙ e ∙ ap (λ (x : List Bool). x ++ after_w) (only_one slice w one))
  | inr other ↦ te_prefix_free (slice.active - 1) v w after_v after_w (is_te slice v few h) (is_te slice w few k)
      (ap (λ (x : List Bool). x ++ after_v) (sym (several slice v other)) ∙ e ∙ ap (λ (x : List Bool). x ++ after_w) (several slice w other))
]

-- ---- mvd_l0

abbrev AreXy : ℤ × ℤ → Type 0
AreXy p = IsSe p.0 × IsSe p.1

abbrev xy_bits : ℤ × ℤ → List Bool
xy_bits p = se p.0 ++ se p.1

abbrev make_vector : ℤ × ℤ → Vector
make_vector p = record { x = p.0; y = p.1 }

split_vector : (vector : Vector) → IsVector vector → Made AreXy xy_bits make_vector vector (vector_bits vector)
split_vector vector h = record { parts = (vector.x, vector.y); are = (h.x, h.y); same = refl; spelled = refl }

pub vector_free : IsPrefixFree IsVector vector_bits
vector_free = made_free IsVector vector_bits AreXy xy_bits make_vector split_vector (both_free IsSe se (λ x. IsSe) (λ x. se) se_prefix_free (λ x h. se_prefix_free))

pub no_x : (old : List Bool) → BeginsNone IsSe se old → BeginsNone IsVector vector_bits old
no_x old none = none_made IsVector vector_bits AreXy xy_bits make_vector split_vector old (none_first IsSe se (λ x. IsSe) (λ x. se) old none)

pub no_y : (x : ℤ) (old mid : List Bool) → IsSe x → old ≡ se x ++ mid → BeginsNone IsSe se mid → BeginsNone IsVector vector_bits old
no_y x old mid is e none = none_made IsVector vector_bits AreXy xy_bits make_vector split_vector old (none_second IsSe se (λ x. IsSe) (λ x. se) se_prefix_free x old mid is e none)

pub vector_read : (x y : ℤ) (old mid new : List Bool) → IsSe x → old ≡ se x ++ mid → IsSe y → mid ≡ se y ++ new → IsVector (make_vector (x, y)) × (old ≡ vector_bits (make_vector (x, y)) ++ new)
vector_read x y old mid new is_x e is_y f = (record { x = is_x; y = is_y }, joined old mid new (se x) (se y) e f)

-- ---- sub_mb_type

sub_kind-IsUe : (kind : ℕ) → IsSubKind kind → IsUe kind
sub_kind-IsUe kind h = omega arith

pub sub_kind_free : IsPrefixFree IsSubKind ue
sub_kind_free v w after_v after_w h k e = ue_prefix_free v w after_v after_w (sub_kind-IsUe v h) (sub_kind-IsUe w k) e

pub no_sub_kind : (old : List Bool) → BeginsNone IsUe ue old → BeginsNone IsSubKind ue old
no_sub_kind old none = λ kind rest is e. none kind rest (sub_kind-IsUe kind is) e

pub wrong_sub_kind : (kind : ℕ) (old new : List Bool) → IsUe kind → old ≡ ue kind ++ new → 3 < kind → BeginsNone IsSubKind ue old
wrong_sub_kind kind old new is e large = λ other rest h f.
    let same = ue_prefix_free kind other new rest is (sub_kind-IsUe other h) (sym e ∙ f) in
    omega (arith, large, same.0, h)

-- ---- mvd_l0 of a sub-macroblock

pub few_parts : (kind : ℕ) → sub_parts kind ≤ 4
few_parts kind = elim (cases_eq kind 0) [
  | inl none ↦ rw (eq-eqb kind 0 none) (omega arith)
  | inr some ↦ elim (cases_eq kind 3) [
    | inl four ↦ rw (ne_eqb kind 0 some, eq-eqb kind 3 four) (omega arith)
    | inr two ↦ rw (ne_eqb kind 0 some, ne_eqb kind 3 two) (omega arith)
  ]
]

pub record ReadDeltas (i : ℕ) (deltas : List Vector) (old mid : List Bool) : Type 0 where
  pub so : ReadSo IsVector vector_bits 4 i deltas old mid
  pub others : All IsZeroVector (drop i deltas)

pub none_deltas : (deltas : List Vector) (old : List Bool) → length deltas ≡ 4 → All IsZeroVector deltas → ReadDeltas 0 deltas old old
none_deltas deltas old l zeros = record { so = none_read IsVector vector_bits 4 deltas old l; others = zeros }

pub more_deltas : (i : ℕ) (deltas : List Vector) (v : Vector) (old mid new : List Bool) → i < 4 → ReadDeltas i deltas old mid → IsVector v → mid ≡ vector_bits v ++ new → ReadDeltas (i + 1) (set deltas i v) old new
more_deltas i deltas v old mid new below h is e =
    let behind : drop (i + 1) (set deltas i v) ≡ drop 1 (drop i deltas) = drop-set-lt (i + 1) deltas i v (omega arith) ∙ sym (drop-drop 1 i deltas) in
    record {
      so = more_read IsVector vector_bits 4 i deltas v old mid new below h.so is e;
      others = subst (λ (x : List Vector). All IsZeroVector x) (sym behind) (All-drop IsZeroVector 1 (drop i deltas) h.others);
    }

pub all_deltas : (kind i : ℕ) (deltas : List Vector) (old new : List Bool) → i ≡ sub_parts kind → ReadDeltas i deltas old new → AreDeltas kind deltas × (old ≡ deltas_bits kind deltas ++ new)
all_deltas kind i deltas old new end h = (
  record {
    size = h.so.size;
    spelled = subst (λ (n : ℕ). All IsVector (take n deltas)) end h.so.each;
    others = subst (λ (n : ℕ). All IsZeroVector (drop n deltas)) end h.others;
  },
  h.so.bits ∙ ap (λ (n : ℕ). flat_map vector_bits (take n deltas) ++ new) end,
)

pub no_deltas : (kind i : ℕ) (deltas : List Vector) (old mid : List Bool) → i < sub_parts kind → ReadDeltas i deltas old mid → BeginsNone IsVector vector_bits mid → BeginsNone (AreDeltas kind) (deltas_bits kind) old
no_deltas kind i deltas old mid below h none = λ others rest is f.
    let few = few_parts kind in
    let here : length (take i deltas) ≡ i = length-take-le i deltas (omega (arith, h.so.size, few, below)) in
    let all : length (take (sub_parts kind) others) ≡ sub_parts kind = length-take-le (sub_parts kind) others (omega (arith, is.size, few)) in
    none_longer IsVector vector_bits vector_free (take i deltas) (take (sub_parts kind) others) old mid rest (omega (arith, here, all, below)) h.so.each h.so.bits none is.spelled f

zero_vector : (v w : Vector) → IsZeroVector v → IsZeroVector w → v ≡ w
zero_vector v w h k = ap₂ (λ (x y : ℤ). make_vector (x, y)) (h.0 ∙ sym k.0) (h.1 ∙ sym k.1)

zeros_same : (vs ws : List Vector) → length vs ≡ length ws → All IsZeroVector vs → All IsZeroVector ws → vs ≡ ws
zeros_same [] [] l h k = refl
zeros_same [] (w ∷ ws) l h k = absurd (omega (arith, l))
zeros_same (v ∷ vs) [] l h k = absurd (omega (arith, l))
zeros_same (v ∷ vs) (w ∷ ws) l h k =
    ap₂ (λ (x : Vector) (xs : List Vector). x ∷ xs) (zero_vector v w (All-head IsZeroVector v vs h) (All-head IsZeroVector w ws k))
    (zeros_same vs ws (omega (arith, l)) (All-tail IsZeroVector v vs h) (All-tail IsZeroVector w ws k))

pub deltas_free : (kind : ℕ) → IsPrefixFree (AreDeltas kind) (deltas_bits kind)
deltas_free kind v w after_v after_w h k e =
    let n = sub_parts kind in
    let few = few_parts kind in
    let v_long : length (take n v) ≡ n = length-take-le n v (omega (arith, h.size, few)) in
    let w_long : length (take n w) ≡ n = length-take-le n w (omega (arith, k.size, few)) in
    let front = elements_free IsVector vector_bits vector_free (take n v) (take n w) after_v after_w (v_long ∙ sym w_long) h.spelled k.spelled e in
    let behind = zeros_same (drop n v) (drop n w) (length-drop n v ∙ ap (λ (x : ℕ). x - n) (h.size ∙ sym k.size) ∙ sym (length-drop n w)) h.others k.others in
    (sym (take-append-drop n v) ∙ ap₂ (λ (xs ys : List Vector). xs ++ ys) front.0 behind ∙ take-append-drop n w, front.1)

-- ---- sub-macroblocks

abbrev sub_of : ℕ → ℕ → List Vector → Sub
sub_of kind reference deltas = record { reference = reference; kind = kind; deltas = deltas }

split_next : (next : List ℕ × List ℕ) (sub : Sub) → IsNextSub next sub → Made (AreDeltas (get_or next.0 0 0)) (deltas_bits (get_or next.0 0 0)) (sub_of (get_or next.0 0 0) (get_or next.1 0 0)) sub (sub_vector_bits sub)
split_next next sub h = record {
  parts = sub.deltas;
  are = subst (λ (x : ℕ). AreDeltas x sub.deltas) h.kind h.deltas;
  same = ap₂ (λ (x y : ℕ). sub_of x y sub.deltas) h.kind h.reference;
  spelled = ap (λ (x : ℕ). deltas_bits x sub.deltas) h.kind;
}

abbrev pub next_bits : List ℕ × List ℕ → Sub → List Bool
next_bits next sub = sub_vector_bits sub

next_free : (next : List ℕ × List ℕ) → IsPrefixFree (IsNextSub next) (next_bits next)
next_free next = made_free (IsNextSub next) sub_vector_bits (AreDeltas (get_or next.0 0 0)) (deltas_bits (get_or next.0 0 0)) (sub_of (get_or next.0 0 0) (get_or next.1 0 0)) (split_next next) (deltas_free (get_or next.0 0 0))

no_next : (next : List ℕ × List ℕ) (bits : List Bool) → BeginsNone (AreDeltas (get_or next.0 0 0)) (deltas_bits (get_or next.0 0 0)) bits → BeginsNone (IsNextSub next) (next_bits next) bits
no_next next bits none = none_made (IsNextSub next) sub_vector_bits (AreDeltas (get_or next.0 0 0)) (deltas_bits (get_or next.0 0 0)) (sub_of (get_or next.0 0 0) (get_or next.1 0 0)) (split_next next) bits none

in_turn_is : (next : List ℕ × List ℕ) (subs : List Sub) → in_turn next_bits behind_sub next subs ≡ flat_map sub_vector_bits subs
unfolding in_turn
in_turn_is next [] = refl
in_turn_is next (sub ∷ subs) = ap (λ (x : List Bool). sub_vector_bits sub ++ x) (in_turn_is (behind_sub next sub) subs)

drop_more : (n : ℕ) (xs : List ℕ) → drop n (drop 1 xs) ≡ drop (suc n) xs
drop_more n xs = let same : 1 + n ≡ suc n = omega arith in drop-drop n 1 xs ∙ ap (λ (x : ℕ). drop x xs) same

state_is : (next : List ℕ × List ℕ) (subs : List Sub) → state_behind behind_sub next subs ≡ (drop (length subs) next.0, drop (length subs) next.1)
unfolding state_behind
state_is next [] = refl
state_is next (sub ∷ subs) =
    state_is (behind_sub next sub) subs ∙ ap₂ (λ (xs ys : List ℕ). (xs, ys)) (drop_more (length subs) next.0) (drop_more (length subs) next.1)

pub record ReadSubs (kinds references : List ℕ) (i : ℕ) (subs : List Sub) (old mid : List Bool) : Type 0 where
  pub size : length subs ≡ 4
  pub each : AreInTurn IsNextSub behind_sub (kinds, references) (take i subs)
  pub bits : old ≡ in_turn next_bits behind_sub (kinds, references) (take i subs) ++ mid

pub none_subs : (kinds references : List ℕ) (subs : List Sub) (old : List Bool) → length subs ≡ 4 → ReadSubs kinds references 0 subs old old
unfolding in_turn AreInTurn
none_subs kinds references subs old l = record { size = l; each = tt; bits = refl }

state_at : (kinds references : List ℕ) (i : ℕ) (subs : List Sub) → i < 4 → length subs ≡ 4 → state_behind behind_sub (kinds, references) (take i subs) ≡ (drop i kinds, drop i references)
state_at kinds references i subs below l =
    state_is (kinds, references) (take i subs) ∙ ap (λ (n : ℕ). (drop n kinds, drop n references)) (length-take-le i subs (omega (arith, l, below)))

first_left : (i : ℕ) (xs : List ℕ) → get_or (drop i xs) 0 0 ≡ get_or xs i 0
first_left i xs = let same : i + 0 ≡ i = omega arith in get_or-drop i xs 0 0 ∙ ap (λ (x : ℕ). get_or xs x 0) same

pub more_subs : (kinds references : List ℕ) (i : ℕ) (subs : List Sub) (deltas : List Vector) (old mid new : List Bool) → i < 4 → ReadSubs kinds references i subs old mid
    → AreDeltas (get_or kinds i 0) deltas → mid ≡ deltas_bits (get_or kinds i 0) deltas ++ new → ReadSubs kinds references (i + 1) (set subs i (sub_of (get_or kinds i 0) (get_or references i 0) deltas)) old new
more_subs kinds references i subs deltas old mid new below h is e =
    let sub = sub_of (get_or kinds i 0) (get_or references i 0) deltas in
    let front = take_more_set subs i sub (omega (arith, below, h.size)) in
    let state = state_at kinds references i subs below h.size in
    let here : IsNextSub (drop i kinds, drop i references) sub = record { kind = sym (first_left i kinds); reference = sym (first_left i references); deltas = is } in
    let there = subst (λ (x : List ℕ × List ℕ). IsNextSub x sub) (sym state) here in
    record {
      size = length-set subs i sub ∙ h.size;
      each = subst (λ (x : List Sub). AreInTurn IsNextSub behind_sub (kinds, references) x) (sym front) (AreInTurn-push IsNextSub next_bits behind_sub (kinds, references) (take i subs) sub h.each there);
      bits = read_more IsNextSub next_bits behind_sub (kinds, references) (take i subs) sub old mid new h.bits e ∙ ap (λ (x : List Sub). in_turn next_bits behind_sub (kinds, references) x ++ new) (sym front);
    }

pub all_subs : (kinds references : List ℕ) (i : ℕ) (subs : List Sub) (old new : List Bool) → i ≡ 4 → ReadSubs kinds references i subs old new → AreSubsOf kinds references subs × (old ≡ flat_map sub_vector_bits subs ++ new)
all_subs kinds references i subs old new end h =
    let all : take i subs ≡ subs = take_all i subs (omega (arith, h.size, end)) in (
      (h.size, subst (λ (x : List Sub). AreInTurn IsNextSub behind_sub (kinds, references) x) all h.each),
      h.bits ∙ ap (λ (x : List Sub). in_turn next_bits behind_sub (kinds, references) x ++ new) all ∙ ap (λ (x : List Bool). x ++ new) (in_turn_is (kinds, references) subs),
    )

pub no_subs : (kinds references : List ℕ) (i : ℕ) (subs : List Sub) (old mid : List Bool) → i < 4 → ReadSubs kinds references i subs old mid → BeginsNone (AreDeltas (get_or kinds i 0)) (deltas_bits (get_or kinds i 0)) mid
    → BeginsNone (AreSubsOf kinds references) (flat_map sub_vector_bits) old
no_subs kinds references i subs old mid below h none = λ others rest is f.
    let state = state_at kinds references i subs below h.size in
    let none_left = no_next (drop i kinds, drop i references) mid (subst (λ (x : ℕ). BeginsNone (AreDeltas x) (deltas_bits x) mid) (sym (first_left i kinds)) none) in
    let none_next = subst (λ (x : List ℕ × List ℕ). BeginsNone (IsNextSub x) (next_bits x) mid) (sym state) none_left in
    let long : length (take i subs) < length others = omega (arith, length-take-le i subs (omega (arith, h.size, below)), is.0, below) in
    none_in_turn IsNextSub next_bits behind_sub next_free (kinds, references) (take i subs) others old mid rest long h.each h.bits none_next is.1
    (f ∙ ap (λ (x : List Bool). x ++ rest) (sym (in_turn_is (kinds, references) others)))

pub subs_of_free : (kinds references : List ℕ) → IsPrefixFree (AreSubsOf kinds references) (flat_map sub_vector_bits)
subs_of_free kinds references v w after_v after_w h k e =
    turns_prefix_free IsNextSub next_bits behind_sub next_free (kinds, references) v w after_v after_w (h.0 ∙ sym k.0) h.1 k.1
    (ap (λ (x : List Bool). x ++ after_v) (in_turn_is (kinds, references) v) ∙ e ∙ ap (λ (x : List Bool). x ++ after_w) (sym (in_turn_is (kinds, references) w)))

pub spelled_at : (kind i : ℕ) (deltas : List Vector) (d : Vector) → i < sub_parts kind → AreDeltas kind deltas → IsVector (get_or deltas i d)
spelled_at kind i deltas d below h =
    let few = few_parts kind in
    let long : i < length (take (sub_parts kind) deltas) = omega (arith, length-take-le (sub_parts kind) deltas (omega (arith, few, h.size)), below) in
    subst (λ (x : Vector). IsVector x) (get_or-take (sub_parts kind) deltas i d below) (h.spelled i d long)
