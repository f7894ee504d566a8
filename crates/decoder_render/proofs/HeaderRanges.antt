-- What a header that is read says to what stands on it: its list and the construction of its slice.
use Rattle.std.proofs.Common.{◌≡◌, ℕ, ◌+◌, ◌-◌, ◌<◌, ◌≤◌, Bool, true, false, List, [], ◌∷◌, ◌++◌, All, Option, length, take, drop, replicate, get_or, inl, inr, refl, sym, ap, subst, ◌∙◌, arith}
use Rattle.std.specs.Prelude.{IfSome, IsFalse, IsTrue}
use Rattle.std.specs.Option.{ForSome}
use Rattle.std.proofs.lemmas.Bool.{cases_lt}
use Rattle.std.proofs.lemmas.Int.{ints}
use Rattle.std.proofs.lemmas.List.{drop-append-le, drop-replicate, drop_all, get_or-drop, get_or-replicate, get_or-take, length-take-le}
use Rattle.std.proofs.lemmas.List.Elements.{All-cons, All-nil}
use Rattle.cb_types.specs.AcceptedInfo.{IsAcceptedBySome, max_frame_num}
use Rattle.cb_types.specs.Slices.{active_entries}
use Rattle.cb_types.specs.declared.header.EntryWeights.{EntryWeights}
use Rattle.cb_types.specs.declared.header.Header.{Header}
use Rattle.cb_types.specs.declared.header.ListEdit.{ListEdit}
use Rattle.cb_types.specs.declared.header.ListEdit.TheVariants.{Add, Long, Subtract}
use Rattle.cb_types.specs.declared.header.UnitHead.{UnitHead}
use Rattle.cb_types.specs.declared.header.Weight.{Weight}
use Rattle.cb_types.specs.declared.header.Weights.{Weights}
use Rattle.cb_types.specs.declared.picture_info.PictureInfo.{PictureInfo}
use Rattle.element_tables.specs.Syntax.{Takes, present}
use Rattle.element_tables.proofs.Tables.{made_is, takes_parts, takes_present}
use Rattle.slice_header.specs.Conditions.{active_of, has_weights}
use Rattle.slice_header.specs.Headers as headers
use Rattle.slice_header.specs.Headers.{IsEdit, IsHeader}
use Rattle.slice_header.specs.Lists.{padded}
use Rattle.slice_header.specs.Spelling.{all_entries, entry_weights, no_entry, no_weights, pred_weight_table, slice_header}
use Rattle.slice_header.proofs.Found.{found_header}
use Rattle.slice_header.proofs.InfoRanges.{info_ranges}
use Rattle.slice_header.proofs.ListRanges.{times_range}
use Rattle.ref_lists.specs.ReferenceList.{IsCounted}
use Rattle.recon.specs.Conditions.{AreWeights, IsEntry, IsHeaderRange, IsWeight, unweighted}

-- ---- the list's edits

counted_edit : (info : PictureInfo) (edit : ListEdit) → IsEdit info edit → IsCounted (max_frame_num info) edit
counted_edit info (Subtract v) h = h
counted_edit info (Add v) h = h
counted_edit info (Long v) h = tt

-- the differences of the edits that count are below MaxFrameNum, as the list asks
pub edits_counted : (info : PictureInfo) (header : Header) → IsHeader info header → All (IsCounted (max_frame_num info)) (take header.edit_count header.edits)
edits_counted info header h k d below = counted_edit info _ (h.edits.values k d below)

-- ---- weights

weight_range : (w : Weight) → headers.IsWeight w → IsWeight w
weight_range w h = record {
  of_weight = omega (arith, ints, h.weight_least, h.weight_most);
  of_offset = omega (arith, ints, h.offset_least, h.offset_most);
}

two_weights : (cb cr : Weight) → headers.IsWeight cb → headers.IsWeight cr → All IsWeight (cb ∷ cr ∷ [])
two_weights cb cr h k = All-cons IsWeight cb (cr ∷ []) (weight_range cb h) (All-cons IsWeight cr [] (weight_range cr k) (All-nil IsWeight))

chroma_range : (weights : List Weight) → headers.AreChroma weights → All IsWeight weights
chroma_range weights h = subst (All IsWeight) (sym h.both) (two_weights h.cb h.cr h.cb_value h.cr_value)

of_some : {A : Type 0} (P Q : A → Type 0) (o : Option A) → ((x : A) → P x → Q x) → IfSome o P → ForSome o Q
of_some {A} P Q o on h = λ x e. on x (subst (λ (o : Option A). IfSome o P) e h)

entry_range : (entry : EntryWeights) → headers.IsEntry entry → IsEntry entry
entry_range entry h = record {
  of_luma = of_some headers.IsWeight IsWeight entry.luma weight_range h.luma;
  of_chroma = of_some headers.AreChroma (All IsWeight) entry.chroma chroma_range h.chroma;
}

no_weights_here : IsEntry unweighted
no_weights_here = record { of_luma = λ x e. absurd cc; of_chroma = λ x e. absurd cc }

-- the active entries have weights in their ranges, and those behind them none
each_entry : (active : ℕ) (entries : List EntryWeights) → active ≤ 16 → headers.AreFirst 16 headers.IsEntry active entries
    → drop active entries ≡ replicate (16 - active) no_entry → (entry : ℕ) → entry < 16 → IsEntry (get_or entries entry unweighted)
each_entry active entries few first behind entry below = elim (cases_lt entry active) [
  | inl lt ↦
      let long = length-take-le active entries (omega (arith, few, first.long)) in
      subst IsEntry (get_or-take active entries entry unweighted lt) (entry_range _ (first.values entry unweighted (omega (arith, long, lt))))
  | inr past ↦
      let back : active + (entry - active) ≡ entry = omega arith in
      let inside : entry - active < 16 - active = omega arith in
      let none : get_or entries entry unweighted ≡ no_entry =
      ap (λ (n : ℕ). get_or entries n unweighted) (sym back) ∙ sym (get_or-drop active entries (entry - active) unweighted)
      ∙ ap (λ (xs : List EntryWeights). get_or xs (entry - active) unweighted) behind ∙ get_or-replicate (16 - active) (entry - active) no_entry unweighted inside in
      subst IsEntry (sym none) no_weights_here
]

zero_weights : AreWeights no_weights
zero_weights = record {
  luma = omega arith;
  chroma = omega arith;
  each = λ entry below. subst IsEntry (sym (get_or-replicate 16 entry no_entry unweighted below)) no_weights_here;
}

either_weights : (b : Bool) (active : ℕ) (w : Weights) → active ≤ 16 → (IsTrue b → headers.AreWeights active w) → (IsFalse b → w ≡ no_weights)
    → drop active w.entries ≡ replicate (16 - active) no_entry → AreWeights w
either_weights true active w few there absent behind =
    let h = there refl in
    record { luma = h.luma_denom; chroma = h.chroma_denom; each = each_entry active w.entries few h.entries behind }
either_weights false active w few there absent behind = subst AreWeights (sym (absent refl)) zero_weights

-- ---- what stands behind the active entries' weights

padded_behind : (count : ℕ) (xs : List EntryWeights) → length xs ≡ count → drop count (padded 16 no_entry xs) ≡ replicate (16 - count) no_entry
padded_behind count xs size =
    let filler = replicate (16 - length xs) no_entry in
    drop-append-le count xs filler (omega (arith, size)) ∙ ap (λ (ys : List EntryWeights). ys ++ filler) (drop_all count xs (omega (arith, size)))
    ∙ ap (λ (n : ℕ). replicate (16 - n) no_entry) size

entries_behind : (active : ℕ) (whole : List Bool) (entries : List EntryWeights) (rest : List Bool) → Takes (all_entries active) whole entries rest → drop active entries ≡ replicate (16 - active) no_entry
unfolding all_entries
entries_behind active whole entries rest h =
    let a = takes_parts _ h in
    let all = times_range (λ (e : EntryWeights). Unit {0}) entry_weights active whole a.0 a.1 (λ w x r t. tt) a.2 in
    ap (drop active) (sym (made_is a.3)) ∙ padded_behind active a.0 all.all

table_behind : (active : ℕ) (whole : List Bool) (w : Weights) (rest : List Bool) → Takes (pred_weight_table active) whole w rest → drop active w.entries ≡ replicate (16 - active) no_entry
unfolding pred_weight_table
table_behind active whole w rest h =
    let a = takes_parts _ h in
    let b = takes_parts _ a.3 in
    let c = takes_parts _ b.3 in
    ap (λ (v : Weights). drop active v.entries) (sym (made_is c.3)) ∙ entries_behind active b.1 c.0 c.1 c.2

weights_behind : (active : ℕ) (condition : Bool) (whole : List Bool) (w : Weights) (rest : List Bool) → Takes (present condition (pred_weight_table active) no_weights) whole w rest
    → drop active w.entries ≡ replicate (16 - active) no_entry
weights_behind active condition whole w rest h = elim (takes_present (pred_weight_table active) no_weights condition whole w rest h) [
  | inl there ↦ table_behind active whole w rest there.1
  | inr absent ↦ ap (λ (v : Weights). drop active v.entries) (sym absent.1) ∙ drop-replicate active 16 no_entry
]

-- Behind the active entries there are no weights in a header that is read.
pub none_behind : (head : UnitHead) (info : PictureInfo) (whole : List Bool) (header : Header) (rest : List Bool) → Takes (slice_header head info) whole header rest
    → drop (active_entries info header) header.weights.entries ≡ replicate (16 - active_entries info header) no_entry
unfolding slice_header
none_behind head info whole header rest h =
    let a = takes_parts _ h in
    let b = takes_parts _ a.3 in
    let c = takes_parts _ b.3 in
    let d = takes_parts _ c.3 in
    let e = takes_parts _ d.3 in
    let f = takes_parts _ e.3 in
    subst (λ (x : Header). drop (active_entries info x) x.weights.entries ≡ replicate (16 - active_entries info x) no_entry) (made_is f.3)
    (weights_behind (active_of info c.0.active_override) (has_weights info a.0.slice_type) c.1 d.0 d.1 d.2)

-- ---- the header

-- A header in its ranges without weights behind its active entries is in the ranges of its slice's construction.
pub header_range : (info : PictureInfo) (header : Header) → IsHeader info header
    → drop (active_entries info header) header.weights.entries ≡ replicate (16 - active_entries info header) no_entry → IsHeaderRange info header
header_range info header h behind = record {
  least_qp = h.qp_least;
  greatest_qp = h.qp_most;
  alpha = omega (arith, ints, h.alpha_least, h.alpha_most);
  beta = omega (arith, ints, h.beta_least, h.beta_most);
  weights = either_weights (has_weights info header.slice_type) (active_entries info header) header.weights h.active h.weights h.weights_absent behind;
}

-- A header that is read is one.
pub taken_header : (head : UnitHead) (info : PictureInfo) (whole : List Bool) (header : Header) (rest : List Bool) → IsAcceptedBySome info → Takes (slice_header head info) whole header rest → IsHeader info header
taken_header head info whole header rest accepted h = (found_header head info whole header rest (info_ranges info accepted) h).0

pub taken_header_range : (head : UnitHead) (info : PictureInfo) (whole : List Bool) (header : Header) (rest : List Bool) → IsAcceptedBySome info → Takes (slice_header head info) whole header rest → IsHeaderRange info header
taken_header_range head info whole header rest accepted h =
    header_range info header (taken_header head info whole header rest accepted h) (none_behind head info whole header rest h)
