-- The reference list of a slice doesn't ask for names.
use Rattle.std.proofs.Common.{◌≡◌, ℕ, suc, List, [], ◌∷◌, map, find, filter, not, take, Option, Some, None, refl, sym, ap, ◌∙◌}
use Rattle.std.specs.Option.{option_and_then, option_map}
use Rattle.cb_types.specs.References.{is_unused}
use Rattle.cb_types.specs.Slices.{active_entries}
use Rattle.cb_types.specs.declared.header.Header.{Header}
use Rattle.cb_types.specs.declared.header.ListEdit.{ListEdit}
use Rattle.cb_types.specs.declared.header.ListEdit.TheVariants.{Subtract, Add, Long}
use Rattle.cb_types.specs.declared.picture_info.PictureInfo.{PictureInfo}
use Rattle.cb_types.specs.declared.picture_info.Reference.{Reference}
use Rattle.ref_lists.specs.ReferenceList.{Modified, Numbers, Placed, counted_to, fitted, in_order, initial_list, is_meant, modified_by, modified_by_all, moved_up, numbers_of, reference_list, references_of}
use Rattle.decoder_render.specs.Renamed.{with_references}
use Rattle.decoder_render.proofs.BareEntries.{bare, bare_placed, enumerate_bare, find_bare, in_order_bare, places_bare, used_bare}
use Rattle.std.specs.List.{enumerate_from}

abbrev bare_info : PictureInfo → PictureInfo
bare_info info = with_references info (map bare info.references)

-- an edit means a reference by no name
meant_bare : (numbers : Numbers) (counted : ℕ) (edit : ListEdit) (placed : Placed) → is_meant numbers counted edit (bare_placed placed) ≡ is_meant numbers counted edit placed
meant_bare numbers counted (Subtract minus1) placed = refl
meant_bare numbers counted (Add minus1) placed = refl
meant_bare numbers counted (Long number) placed = refl

-- the list with the reference at the next place
abbrev with_placed : ℕ → ℕ → Modified → Placed → Modified
with_placed active counted list placed = record {
  predicted = counted;
  settled = suc list.settled;
  entries = moved_up active list.settled placed.0 list.entries;
}

put_by_place : (active counted : ℕ) (list : Modified) (found : Option Placed) → option_map (with_placed active counted list) (option_map bare_placed found) ≡ option_map (with_placed active counted list) found
put_by_place active counted list None = refl
put_by_place active counted list (Some placed) = refl

modified_bare : (numbers : Numbers) (active : ℕ) (references : List Placed) (list : Modified) (edit : ListEdit)
    → modified_by numbers active (map bare_placed references) list edit ≡ modified_by numbers active references list edit
unfolding modified_by
modified_bare numbers active references list edit =
    let counted = counted_to numbers list.predicted edit in
    ap (option_map (with_placed active counted list)) (find_bare (is_meant numbers counted edit) (meant_bare numbers counted edit) references)
    ∙ put_by_place active counted list (find (is_meant numbers counted edit) references)

then_same : (f g : Modified → Option Modified) (found : Option Modified) → ((list : Modified) → f list ≡ g list) → option_and_then f found ≡ option_and_then g found
then_same f g None same = refl
then_same f g (Some list) same = same list

all_bare : (numbers : Numbers) (active : ℕ) (references : List Placed) (edits : List ListEdit) (list : Modified)
    → modified_by_all numbers active (map bare_placed references) edits list ≡ modified_by_all numbers active references edits list
unfolding modified_by_all
all_bare numbers active references [] list = refl
all_bare numbers active references (edit ∷ edits) list =
    ap (option_and_then (modified_by_all numbers active (map bare_placed references) edits)) (modified_bare numbers active references list edit)
    ∙ then_same (modified_by_all numbers active (map bare_placed references) edits) (modified_by_all numbers active references edits) (modified_by numbers active references list edit) (all_bare numbers active references edits)

references_bare : (info : PictureInfo) → references_of (bare_info info) ≡ map bare_placed (references_of info)
references_bare info = ap (filter (λ (placed : Placed). not (is_unused placed.1))) (enumerate_bare info.references 0) ∙ used_bare (enumerate_from 0 info.references)

initial_bare : (info : PictureInfo) (header : Header) → initial_list (bare_info info) header ≡ initial_list info header
initial_bare info header =
    ap (λ (references : List Placed). fitted (active_entries info header) (map (λ (p : Placed). Some p.0) (in_order (numbers_of info header) references))) (references_bare info)
    ∙ ap (λ (places : List (Option ℕ)). fitted (active_entries info header) places)
    (ap (map (λ (p : Placed). Some p.0)) (in_order_bare (numbers_of info header) (references_of info)) ∙ places_bare (in_order (numbers_of info header) (references_of info)))

-- the list that the edits make of one
abbrev edited : PictureInfo → Header → List Placed → List (Option ℕ) → Option (List (Option ℕ))
edited info header references initial = option_map (λ (list : Modified). list.entries)
    (modified_by_all (numbers_of info header) (active_entries info header) references (take header.edit_count header.edits) (record { predicted = header.frame_num; settled = 0; entries = initial }))

list_bare : (info : PictureInfo) (header : Header) → reference_list (bare_info info) header ≡ reference_list info header
list_bare info header =
    ap (λ (references : List Placed). edited info header references (initial_list (bare_info info) header)) (references_bare info)
    ∙ (ap (edited info header (map bare_placed (references_of info))) (initial_bare info header)
    ∙ ap (option_map (λ (list : Modified). list.entries))
    (all_bare (numbers_of info header) (active_entries info header) (references_of info) (take header.edit_count header.edits)
    (record { predicted = header.frame_num; settled = 0; entries = initial_list info header })))

-- References that are alike but for their names make one list.
pub list_same : (info : PictureInfo) (entries : List Reference) (header : Header) → map bare info.references ≡ map bare entries
    → reference_list info header ≡ reference_list (with_references info entries) header
list_same info entries header alike =
    sym (list_bare info header)
    ∙ (ap (λ (bared : List Reference). reference_list (with_references info bared) header) alike
    ∙ list_bare (with_references info entries) header)
