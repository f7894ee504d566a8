use Rattle.std.proofs.Common.{◌≡◌, length, Bool, true, false, List, [], ◌∷◌, refl, arith}
use Rattle.std.specs.List.{list_all}
use Rattle.cb_types.specs.AcceptedInfo.{are_all_apart, are_apart}
use Rattle.cb_types.specs.declared.picture_info.Reference.{Reference}
use Rattle.cb_types.proofs.info_fields.+are_all_apart.Goals as goal

none_apart : (entries : List Reference) → length entries ≡ 0 → true ≡ are_all_apart entries
unfolding are_all_apart
none_apart [] e = refl
none_apart (entry ∷ later) e = absurd (omega arith)

all_apart : (entry : Reference) (later entries : List Reference) (answer : Bool) → entries ≡ entry ∷ later → true ≡ list_all (are_apart entry) later → answer ≡ are_all_apart later → answer ≡ are_all_apart entries
unfolding are_all_apart
all_apart entry later entries answer e first rest = rw e (rw (← first) rest)

not_apart : (entry : Reference) (later entries : List Reference) → entries ≡ entry ∷ later → false ≡ list_all (are_apart entry) later → false ≡ are_all_apart entries
unfolding are_all_apart
not_apart entry later entries e first = rw e (rw (← first) refl)

pub returns-in-None : goal.returns-in-None
returns-in-None t c = none_apart _ c.in-None.ensures.cases

pub returns-then-is_apart_from_all : goal.returns-then-is_apart_from_all
returns-then-is_apart_from_all t c = all_apart c.in-Some.entry.now c.in-Some.later.now _ _ c.in-Some.ensures.cases.0 c.if-is_apart_from_all.ensures c.are_all_apart.ensures

pub returns-else-is_apart_from_all : goal.returns-else-is_apart_from_all
returns-else-is_apart_from_all t c = rw c.if-is_apart_from_all.false (not_apart c.in-Some.entry.now c.in-Some.later.now _ c.in-Some.ensures.cases.0 c.if-is_apart_from_all.ensures)
