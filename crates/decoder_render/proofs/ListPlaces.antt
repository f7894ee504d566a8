-- The entries of a reference list are places of the info's references that are used.
use Rattle.std.proofs.Common.{◌≡◌, ℕ, suc, ◌+◌, ◌-◌, ◌<◌, Bool, true, false, not, cond, List, [], ◌∷◌, ◌++◌, All, Option, Some, None, inl, inr, length, map, filter, find, take, drop, get_or, replicate, refl, sym, ap, subst, ◌∙◌, arith}
use Rattle.std.specs.Prelude.{IfSome}
use Rattle.std.specs.List.{enumerate_from}
use Rattle.std.specs.Option.{option_and_then, option_map}
use Rattle.std.proofs.lemmas.Bool.{cases_lt}
use Rattle.std.proofs.lemmas.List.{get_or-drop, get_or-take, get_or_past}
use Rattle.std.proofs.lemmas.List.Elements.{All-append, All-cons, All-drop, All-filter, All-map, All-nil, All-replicate, All-take}
use Rattle.cb_types.specs.References.{is_unused}
use Rattle.cb_types.specs.Slices.{active_entries}
use Rattle.cb_types.specs.declared.header.Header.{Header}
use Rattle.cb_types.specs.declared.header.ListEdit.{ListEdit}
use Rattle.cb_types.specs.declared.picture_info.PictureInfo.{PictureInfo}
use Rattle.cb_types.specs.declared.picture_info.Reference.{Reference}
use Rattle.ref_lists.specs.ReferenceList.{Modified, Numbers, Placed, comes_before, counted_to, fitted, in_order, initial_list, is_meant, is_other, modified_by, modified_by_all, moved_up, numbers_of, put_in_order, reference_list, references_of}
use Rattle.recon.specs.References.{ArePlaces, place_of, reference_at, no_reference}

abbrev pub IsUsed : PictureInfo → ℕ → Type 0
IsUsed info place = (place < 16) × (is_unused (reference_at info place) ≡ false)

abbrev pub IsEntry : PictureInfo → Option ℕ → Type 0
IsEntry info None = Unit {0}
IsEntry info (Some place) = IsUsed info place

abbrev IsPlaced : PictureInfo → Placed → Type 0
IsPlaced info placed = IsUsed info placed.0

-- ---- the references

kept_if : {A : Type 0} (P : A → Type 0) (p : A → Bool) (x : A) (xs : List A) → (p x ≡ true → P x) → All P (filter p xs) → (b : Bool) → p x ≡ b → All P (cond b (x ∷ filter p xs) (filter p xs))
kept_if P p x xs on h true e = All-cons P x (filter p xs) (on e) h
kept_if P p x xs on h false e = h

not_true : (b : Bool) → not b ≡ true → b ≡ false
not_true true e = absurd cc
not_true false e = refl

abbrev is_used : Placed → Bool
is_used placed = not (is_unused placed.1)

used_from : (Is : ℕ → Type 0) (xs : List Reference) (a : ℕ) → ((k : ℕ) → k < length xs → is_unused (get_or xs k no_reference) ≡ false → Is (a + k))
    → All (λ placed. Is placed.0) (filter is_used (enumerate_from a xs))
used_from Is [] a on = All-nil (λ (placed : Placed). Is placed.0)
used_from Is (x ∷ xs) a on =
    let here : a + 0 ≡ a = omega arith in
    kept_if (λ (placed : Placed). Is placed.0) is_used (a, x) (enumerate_from (a + 1) xs)
    (λ used. subst Is here (on 0 (omega arith) (not_true (is_unused x) used)))
    (used_from Is xs (a + 1) (λ k below used. let next : a + suc k ≡ a + 1 + k = omega arith in subst Is next (on (suc k) (omega (arith, below)) used)))
    (is_used (a, x)) refl

references_used : (info : PictureInfo) → length info.references ≡ 16 → All (IsPlaced info) (references_of info)
references_used info size = used_from (IsUsed info) info.references 0 (λ k below used. let at : 0 + k ≡ k = omega arith in subst (IsUsed info) (sym at) (omega (arith, size, below), used))

-- ---- their order

put_all : (P : Placed → Type 0) (numbers : Numbers) (one : Placed) (others : List Placed) → P one → All P others → All P (put_in_order numbers one others)
unfolding put_in_order
put_all P numbers one [] h all = All-cons P one [] h (All-nil P)
put_all P numbers one (other ∷ others) h all =
    let first : P other = all 0 other (omega arith) in
    let later : All P others = λ k d below. all (suc k) d (omega (arith, below)) in
    elim (comes_before numbers one other) as (λ b. All P (cond b (one ∷ other ∷ others) (other ∷ put_in_order numbers one others))) [
      | true ↦ All-cons P one (other ∷ others) h all
      | false ↦ All-cons P other (put_in_order numbers one others) first (put_all P numbers one others h later)
    ]

order_all : (P : Placed → Type 0) (numbers : Numbers) (xs : List Placed) → All P xs → All P (in_order numbers xs)
unfolding in_order
order_all P numbers [] all = All-nil P
order_all P numbers (one ∷ others) all = put_all P numbers one (in_order numbers others) (all 0 one (omega arith)) (order_all P numbers others (λ k d below. all (suc k) d (omega (arith, below))))

-- ---- entries

fitted_all : (info : PictureInfo) (active : ℕ) (entries : List (Option ℕ)) → All (IsEntry info) entries → All (IsEntry info) (fitted active entries)
fitted_all info active entries all =
    All-take (IsEntry info) active (entries ++ replicate active None) (All-append (IsEntry info) entries (replicate active None) all (All-replicate (IsEntry info) active None tt))

initial_all : (info : PictureInfo) (header : Header) → length info.references ≡ 16 → All (IsEntry info) (initial_list info header)
initial_all info header size =
    let ordered = order_all (IsPlaced info) (numbers_of info header) (references_of info) (references_used info size) in
    fitted_all info (active_entries info header) (map (λ placed. Some placed.0) (in_order (numbers_of info header) (references_of info)))
    (All-map (IsEntry info) (λ (placed : Placed). Some placed.0) (in_order (numbers_of info header) (references_of info)) ordered)

moved_all : (info : PictureInfo) (active settled place : ℕ) (entries : List (Option ℕ)) → IsUsed info place → All (IsEntry info) entries → All (IsEntry info) (moved_up active settled place entries)
moved_all info active settled place entries used all =
    let others = filter (is_other place) (drop settled entries) in
    let behind = All-filter (is_other place) (IsEntry info) (drop settled entries) (All-drop (IsEntry info) settled entries all) in
    fitted_all info active (take settled entries ++ Some place ∷ others)
    (All-append (IsEntry info) (take settled entries) (Some place ∷ others) (All-take (IsEntry info) settled entries all) (All-cons (IsEntry info) (Some place) others used behind))

found_one : (P : Placed → Type 0) (p : Placed → Bool) (xs : List Placed) → All P xs → IfSome (find p xs) P
found_one P p [] all = tt
found_one P p (x ∷ xs) all =
    elim (p x) as (λ b. IfSome (cond b (Some x) (find p xs)) P) [
      | true ↦ all 0 x (omega arith)
      | false ↦ found_one P p xs (λ k d below. all (suc k) d (omega (arith, below)))
    ]

abbrev AreEntries : PictureInfo → Modified → Type 0
AreEntries info list = All (IsEntry info) list.entries

module _ (info : PictureInfo) (numbers : Numbers) (active : ℕ) where
  modified_as : (settled counted : ℕ) (entries : List (Option ℕ)) (found : Option Placed) → IfSome found (IsPlaced info) → All (IsEntry info) entries
      → IfSome (option_map (λ (placed : Placed). let made : Modified = record { predicted = counted; settled = suc settled; entries = moved_up active settled placed.0 entries } in made) found) (AreEntries info)
  modified_as settled counted entries None used all = tt
  modified_as settled counted entries (Some placed) used all = moved_all info active settled placed.0 entries used all

  modified_one : (list : Modified) (edit : ListEdit) (references : List Placed) → All (IsPlaced info) references → AreEntries info list
      → IfSome (modified_by numbers active references list edit) (AreEntries info)
  unfolding modified_by
  modified_one list edit references used all =
      let counted = counted_to numbers list.predicted edit in
      modified_as list.settled counted list.entries (find (is_meant numbers counted edit) references) (found_one (IsPlaced info) (is_meant numbers counted edit) references used) all

  and_then : (next : Modified → Option Modified) (first : Option Modified) → IfSome first (AreEntries info) → ((list : Modified) → AreEntries info list → IfSome (next list) (AreEntries info))
      → IfSome (option_and_then next first) (AreEntries info)
  and_then next None h on = tt
  and_then next (Some list) h on = on list h

  modified_all : (edits : List ListEdit) (references : List Placed) (list : Modified) → All (IsPlaced info) references → AreEntries info list
      → IfSome (modified_by_all numbers active references edits list) (AreEntries info)
  unfolding modified_by_all
  modified_all [] references list used all = all
  modified_all (edit ∷ edits) references list used all =
      and_then (modified_by_all numbers active references edits) (modified_by numbers active references list edit) (modified_one list edit references used all)
      (λ next h. modified_all edits references next used h)

its_entries : (info : PictureInfo) (list : Option Modified) (entries : List (Option ℕ)) → IfSome list (AreEntries info) → option_map (λ (l : Modified). l.entries) list ≡ Some entries → All (IsEntry info) entries
its_entries info None entries h e = absurd cc
its_entries info (Some list) entries h e =
    let same : list.entries ≡ entries = grind arith in
    subst (All (IsEntry info)) same h

pub list_entries : (info : PictureInfo) (header : Header) (entries : List (Option ℕ)) → length info.references ≡ 16 → reference_list info header ≡ Some entries → All (IsEntry info) entries
list_entries info header entries size is =
    let start : Modified = record { predicted = header.frame_num; settled = 0; entries = initial_list info header } in
    let list = modified_by_all (numbers_of info header) (active_entries info header) (references_of info) (take header.edit_count header.edits) start in
    its_entries info list entries
    (modified_all info (numbers_of info header) (active_entries info header) (take header.edit_count header.edits) (references_of info) start (references_used info size) (initial_all info header size)) is

-- ---- places

at_entry : (info : PictureInfo) (o : Option ℕ) (place : ℕ) → IsEntry info o → o ≡ Some place → IsUsed info place
at_entry info o place h e = subst (IsEntry info) e h

entries_places : (info : PictureInfo) (entries : List (Option ℕ)) → All (IsEntry info) entries → ArePlaces info entries
entries_places info entries all entry place is = elim (cases_lt entry (length entries)) [
  | inl below ↦ at_entry info (place_of entries entry) place (all entry None below) is
  | inr past ↦ absurd (let none = get_or_past entries entry None past in let wrong : None ≡ Some place = sym none ∙ is in cc)
]

-- A list that is made for a header has places of used references alone.
pub list_places : (info : PictureInfo) (header : Header) (count : ℕ) (entries : List (Option ℕ)) → length info.references ≡ 16 → reference_list info header ≡ Some (take count entries)
    → drop count entries ≡ replicate (16 - count) None → ArePlaces info entries
list_places info header count entries size is behind entry place at = elim (cases_lt entry count) [
  | inl below ↦
      entries_places info (take count entries) (list_entries info header (take count entries) size is) entry place (get_or-take count entries entry None below ∙ at)
  | inr past ↦
      let back : count + (entry - count) ≡ entry = omega arith in
      let moved : place_of entries entry ≡ get_or (replicate (16 - count) None) (entry - count) None =
      ap (λ (n : ℕ). get_or entries n None) (sym back) ∙ sym (get_or-drop count entries (entry - count) None) ∙ ap (λ (xs : List (Option ℕ)). get_or xs (entry - count) None) behind in
      entries_places info (replicate (16 - count) None) (All-replicate (IsEntry info) (16 - count) None tt) (entry - count) place (sym moved ∙ at)
]

-- A list in which nothing is has none.
pub no_places : (info : PictureInfo) (n : ℕ) → ArePlaces info (replicate n None)
no_places info n = entries_places info (replicate n None) (All-replicate (IsEntry info) n None tt)
