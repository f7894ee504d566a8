-- The ranges of a header's parts, as they are read.
use Rattle.std.proofs.Common.{◌≡◌, ◌≢◌, ℕ, ◌+◌, ◌-◌, ◌^◌, ◌<◌, ◌≤◌, ℤ, pos, negsuc, ◌≤ℤ◌, Bool, true, false, eqb, List, inl, inr, Option, None, refl, sym, ap, subst, arith}
use Rattle.std.proofs.lemmas.List.Elements.{All-nil}
use Rattle.std.specs.Prelude.{IfSome, IsFalse, IsTrue}
use Rattle.bit_io.specs.Codewords.{IsSe, IsUe}
use Rattle.cb_types.specs.AcceptedInfo.{max_frame_num}
use Rattle.cb_types.specs.declared.header.EntryWeights.{EntryWeights}
use Rattle.cb_types.specs.declared.header.ListEdit.{ListEdit}
use Rattle.cb_types.specs.declared.header.ListEdit.TheVariants.{Subtract}
use Rattle.cb_types.specs.declared.header.Marking.{Marking}
use Rattle.cb_types.specs.declared.header.Marking.TheVariants.{Sliding}
use Rattle.cb_types.specs.declared.header.Mmco.{Mmco}
use Rattle.cb_types.specs.declared.header.Mmco.TheVariants.{Reset}
use Rattle.cb_types.specs.declared.header.UnitHead.{UnitHead}
use Rattle.cb_types.specs.declared.header.Weight.{Weight}
use Rattle.cb_types.specs.declared.header.Weights.{Weights}
use Rattle.cb_types.specs.declared.picture_info.PictureInfo.{PictureInfo}
use Rattle.element_tables.specs.Syntax.{Syntax, Takes, any, between, present, se, u, ue, up_to}
use Rattle.element_tables.proofs.OneElement.{se_range, u_range, ue_range}
use Rattle.element_tables.proofs.Rules.{between_ends, up_to_most}
use Rattle.element_tables.proofs.Tables.{made_is, takes_parts, takes_present}
use Rattle.slice_header.specs.Conditions.{HasRanges, active_of, has_bottom, has_delta, has_lsb, has_offsets, has_second_delta, is_idr_unit}
use Rattle.slice_header.specs.Headers.{AreChroma, AreDeltas, AreFirst, AreWeights, IsEdit, IsEntry, IsMarkingOf, IsOperation, IsWeight}
use Rattle.slice_header.specs.Lists.{flagged, padded}
use Rattle.slice_header.specs.Spelling.{all_entries, chroma_weights, command, dec_ref_pic_marking, edits, entry_weights, filter, greatest_qp_delta, idr_marking, is_slice_type, later_marking, least_qp_delta, no_edits, no_entry, no_references, no_weights, numbers, operation, operations, orders, pred_weight_table, references, slice_types, weight}
use Rattle.slice_header.specs.declared.parts.Edits.{Edits}
use Rattle.slice_header.specs.declared.parts.Filter.{Filter}
use Rattle.slice_header.specs.declared.parts.Numbers.{Numbers}
use Rattle.slice_header.specs.declared.parts.Orders.{Orders}
use Rattle.slice_header.specs.declared.parts.References.{References}
use Rattle.slice_header.proofs.Actives.{IsOverride, active_most, override_range, takes_flagged}
use Rattle.slice_header.proofs.Choices.{type_accepted}
use Rattle.slice_header.proofs.ListRanges.{are_first, listed_range, number_apart, number_is, pow_positive, takes_choice, times_range}

apart : {C : Type 0} (b : Bool) → b ≡ true → b ≡ false → C
apart b e f = absurd cc

-- ---- single elements where they are present

ue_present : (condition : Bool) (most : ℕ) (whole : List Bool) (v : ℕ) (rest : List Bool) → Takes (present condition (ue (up_to most)) 0) whole v rest → (v ≤ most) × (condition ≡ false → v ≡ 0)
ue_present condition most whole v rest h =
    elim (takes_present (ue (up_to most)) 0 condition whole v rest h) [
      | inl there ↦ (up_to_most v most (ue_range (up_to most) there.1.front v there.1.spelled).1, λ e. apart condition there.0 e)
      | inr absent ↦ (omega (arith, absent.1), λ e. sym absent.1)
    ]

se_present : (condition : Bool) (whole : List Bool) (v : ℤ) (rest : List Bool) → Takes (present condition (se any) (pos 0)) whole v rest → IsSe v × (condition ≡ false → v ≡ pos 0)
se_present condition whole v rest h =
    elim (takes_present (se any) (pos 0) condition whole v rest h) [
      | inl there ↦ ((se_range any there.1.front v there.1.spelled).0, λ e. apart condition there.0 e)
      | inr absent ↦ (subst IsSe absent.1 (omega arith), λ e. sym absent.1)
    ]

zero_within : (v : ℤ) → pos 0 ≡ v → (negsuc 5 ≤ℤ v) × (v ≤ℤ pos 6)
zero_within v e = subst (λ (x : ℤ). (negsuc 5 ≤ℤ x) × (x ≤ℤ pos 6)) e (record { le = tt }, record { le = tt })

offset_present : (condition : Bool) (whole : List Bool) (v : ℤ) (rest : List Bool) → Takes (present condition (se (between (negsuc 5) (pos 6))) (pos 0)) whole v rest
    → ((negsuc 5 ≤ℤ v) × (v ≤ℤ pos 6)) × (condition ≡ false → v ≡ pos 0)
offset_present condition whole v rest h =
    elim (takes_present (se (between (negsuc 5) (pos 6))) (pos 0) condition whole v rest h) [
      | inl there ↦ (between_ends (negsuc 5) (pos 6) v (se_range (between (negsuc 5) (pos 6)) there.1.front v there.1.spelled).1, λ e. apart condition there.0 e)
      | inr absent ↦ (zero_within v absent.1, λ e. sym absent.1)
    ]

-- ---- numbers and orders

pub record InNumbers (head : UnitHead) (info : PictureInfo) (n : Numbers) : Type 0 where
  pub first_mb : IsUe n.first_mb
  pub slice_type : IsTrue (is_slice_type n.slice_type)
  pub pps : n.pps ≤ 255
  pub frame_num : n.frame_num < max_frame_num info
  pub idr_pic_id : n.idr_pic_id ≤ 65535
  pub idr_pic_id_absent : IsFalse (is_idr_unit head) → n.idr_pic_id ≡ 0

pub numbers_range : (head : UnitHead) (info : PictureInfo) (whole : List Bool) (n : Numbers) (rest : List Bool) → Takes (numbers head info) whole n rest → InNumbers head info n
unfolding numbers
numbers_range head info whole n rest h =
    let a = takes_parts _ h in
    let b = takes_parts _ a.3 in
    let c = takes_parts _ b.3 in
    let d = takes_parts _ c.3 in
    let e = takes_parts _ d.3 in
    let idr = ue_present (is_idr_unit head) 65535 d.1 e.0 e.1 e.2 in
    subst (InNumbers head info) (made_is e.3) (record {
      first_mb = (ue_range any a.2.front a.0 a.2.spelled).0;
      slice_type = type_accepted b.0 (ue_range slice_types b.2.front b.0 b.2.spelled).1;
      pps = up_to_most c.0 255 (ue_range (up_to 255) c.2.front c.0 c.2.spelled).1;
      frame_num = (u_range (info.log2_max_frame_num_minus4 + 4) any d.2.front d.0 d.2.spelled).0;
      idr_pic_id = idr.0;
      idr_pic_id_absent = idr.1;
    })

pub record InOrders (info : PictureInfo) (o : Orders) : Type 0 where
  pub poc_lsb : o.poc_lsb < 2 ^ (info.log2_max_pic_order_cnt_lsb_minus4 + 4)
  pub poc_lsb_absent : IsFalse (has_lsb info) → o.poc_lsb ≡ 0
  pub delta_bottom : IsSe o.delta_bottom
  pub delta_bottom_absent : IsFalse (has_bottom info) → o.delta_bottom ≡ pos 0
  pub delta_poc : AreDeltas info o.delta_poc

lsb_present : (condition : Bool) (n : ℕ) (whole : List Bool) (v : ℕ) (rest : List Bool) → Takes (present condition (u n any) 0) whole v rest → (v < 2 ^ n) × (condition ≡ false → v ≡ 0)
lsb_present condition n whole v rest h =
    elim (takes_present (u n any) 0 condition whole v rest h) [
      | inl there ↦ ((u_range n any there.1.front v there.1.spelled).0, λ e. apart condition there.0 e)
      | inr absent ↦ (subst (λ (x : ℕ). x < 2 ^ n) absent.1 (pow_positive n), λ e. sym absent.1)
    ]

pub orders_range : (info : PictureInfo) (whole : List Bool) (o : Orders) (rest : List Bool) → Takes (orders info) whole o rest → InOrders info o
unfolding orders
orders_range info whole o rest h =
    let a = takes_parts _ h in
    let b = takes_parts _ a.3 in
    let c = takes_parts _ b.3 in
    let d = takes_parts _ c.3 in
    let lsb = lsb_present (has_lsb info) (info.log2_max_pic_order_cnt_lsb_minus4 + 4) whole a.0 a.1 a.2 in
    let bottom = se_present (has_bottom info) a.1 b.0 b.1 b.2 in
    let first = se_present (has_delta info) b.1 c.0 c.1 c.2 in
    let second = se_present (has_second_delta info) c.1 d.0 d.1 d.2 in
    subst (InOrders info) (made_is d.3) (record {
      poc_lsb = lsb.0;
      poc_lsb_absent = lsb.1;
      delta_bottom = bottom.0;
      delta_bottom_absent = bottom.1;
      delta_poc = record { first = c.0; second = d.0; both = refl; first_value = first.0; second_value = second.0; first_absent = first.1; second_absent = second.1 };
    })

-- ---- references

below : (v m : ℕ) → v ≤ m - 1 → 0 < m → v < m
below v m h p = omega (arith, h, p)

pub command_range : (info : PictureInfo) (n : ℕ) (whole : List Bool) (e : ListEdit) (rest : List Bool) → Takes (command (max_frame_num info) n) whole e rest → IsEdit info e
unfolding command
command_range info n whole e rest h =
    let m = max_frame_num info in
    let some : 0 < m = pow_positive (info.log2_max_frame_num_minus4 + 4) in
    elim (takes_choice (eqb n 0) _ _ whole e rest h) [
      | inl h ↦
          let a = takes_parts _ h.1 in
          subst (IsEdit info) (made_is a.3) (below a.0 m (up_to_most a.0 (m - 1) (ue_range (up_to (m - 1)) a.2.front a.0 a.2.spelled).1) some)
      | inr h ↦
          elim (takes_choice (eqb n 1) _ _ whole e rest h.1) [
            | inl h ↦
                let a = takes_parts _ h.1 in
                subst (IsEdit info) (made_is a.3) (below a.0 m (up_to_most a.0 (m - 1) (ue_range (up_to (m - 1)) a.2.front a.0 a.2.spelled).1) some)
            | inr h ↦
                let a = takes_parts _ h.1 in
                subst (IsEdit info) (made_is a.3) (ue_range any a.2.front a.0 a.2.spelled).0
          ]
    ]

pub record InEdits (info : PictureInfo) (active : ℕ) (e : Edits) : Type 0 where
  pub few : e.count ≤ active
  pub list : AreFirst 16 (IsEdit info) e.count e.list

edits_range : (info : PictureInfo) (active : ℕ) (whole : List Bool) (e : Edits) (rest : List Bool) → active ≤ 16 → Takes (edits (max_frame_num info) active) whole e rest → InEdits info active e
unfolding edits
edits_range info active whole e rest most h =
    let a = takes_parts _ h in
    let within = listed_range (IsEdit info) 3 3 (command (max_frame_num info)) active whole a.0 a.1 (λ n w x r below other t. command_range info n w x r t) a.2 in
    let few = within.few in
    subst (InEdits info active) (made_is a.3) (record { few = few; list = are_first 16 (Subtract 0) (IsEdit info) a.0 (omega (arith, few, most)) within.values })

no_edits_range : (info : PictureInfo) (active : ℕ) → InEdits info active no_edits
no_edits_range info active = record { few = omega arith; list = record { most = omega arith; long = refl; values = All-nil (IsEdit info) } }

pub record InReferences (info : PictureInfo) (r : References) : Type 0 where
  pub active_override : IsOverride r.active_override
  pub edits : InEdits info (active_of info r.active_override) r.edits
  pub edits_absent : IsFalse r.edited → r.edits.count ≡ 0

no_references_range : (info : PictureInfo) → InReferences info no_references
no_references_range info = record { active_override = tt; edits = no_edits_range info _; edits_absent = λ e. refl }

references_range : (info : PictureInfo) (whole : List Bool) (r : References) (rest : List Bool) → HasRanges info → Takes (references info) whole r rest → InReferences info r
unfolding references
references_range info whole r rest ranges h =
    let a = takes_parts _ h in
    let b = takes_parts _ a.3 in
    let c = takes_parts _ b.3 in
    let override = override_range whole a.0 a.1 a.2 in
    let active = active_of info a.0 in
    subst (InReferences info) (made_is c.3)
    (elim (takes_present (edits (max_frame_num info) active) no_edits b.0 b.1 c.0 c.1 c.2) [
      | inl there ↦ record { active_override = override; edits = edits_range info active b.1 c.0 c.1 (active_most info a.0 ranges override) there.1; edits_absent = λ e. apart b.0 there.0 e }
      | inr absent ↦ record {
        active_override = override;
        edits = subst (InEdits info active) absent.1 (no_edits_range info active);
        edits_absent = λ e. sym (ap (λ (x : Edits). x.count) absent.1);
      }
    ])

pub record InPresent (info : PictureInfo) (condition : Bool) (r : References) : Type 0 where
  pub references : InReferences info r
  pub active_override_absent : condition ≡ false → r.active_override ≡ None
  pub edited_absent : condition ≡ false → IsFalse r.edited

pub present_range : (info : PictureInfo) (condition : Bool) (whole : List Bool) (r : References) (rest : List Bool) → HasRanges info → Takes (present condition (references info) no_references) whole r rest → InPresent info condition r
present_range info condition whole r rest ranges h =
    elim (takes_present (references info) no_references condition whole r rest h) [
      | inl there ↦ record {
        references = references_range info whole r rest ranges there.1;
        active_override_absent = λ e. apart condition there.0 e;
        edited_absent = λ e. apart condition there.0 e;
      }
      | inr absent ↦ record {
        references = subst (InReferences info) absent.1 (no_references_range info);
        active_override_absent = λ e. sym (ap (λ (x : References). x.active_override) absent.1);
        edited_absent = λ e. sym (ap (λ (x : References). x.edited) absent.1);
      }
    ]

-- ---- weights

weight_range : (whole : List Bool) (w : Weight) (rest : List Bool) → Takes weight whole w rest → IsWeight w
unfolding weight
weight_range whole w rest h =
    let a = takes_parts _ h in
    let b = takes_parts _ a.3 in
    let rule = between (negsuc 127) (pos 127) in
    let first = between_ends (negsuc 127) (pos 127) a.0 (se_range rule a.2.front a.0 a.2.spelled).1 in
    let second = between_ends (negsuc 127) (pos 127) b.0 (se_range rule b.2.front b.0 b.2.spelled).1 in
    subst IsWeight (made_is b.3) (record { weight_least = first.0; weight_most = first.1; offset_least = second.0; offset_most = second.1 })

chroma_range : (whole : List Bool) (ws : List Weight) (rest : List Bool) → Takes chroma_weights whole ws rest → AreChroma ws
unfolding chroma_weights
chroma_range whole ws rest h =
    let a = takes_parts _ h in
    let b = takes_parts _ a.3 in
    subst AreChroma (made_is b.3) (record { cb = a.0; cr = b.0; both = refl; cb_value = weight_range whole a.0 a.1 a.2; cr_value = weight_range a.1 b.0 b.1 b.2 })

flagged_range : {A : Type 0} (Is : A → Type 0) (t : Syntax A) (whole : List Bool) (o : Option A) (rest : List Bool) → ((mid : List Bool) (x : A) → Takes t mid x rest → Is x)
    → Takes (flagged t) whole o rest → IfSome o Is
flagged_range {A} Is t whole o rest on h =
    elim (takes_flagged t whole o rest h) [
      | inl there ↦ subst (λ (x : Option A). IfSome x Is) (sym there.1.is) (on there.0 there.1.value there.1.takes)
      | inr absent ↦ subst (λ (x : Option A). IfSome x Is) (sym absent) tt
    ]

entry_range : (whole : List Bool) (e : EntryWeights) (rest : List Bool) → Takes entry_weights whole e rest → IsEntry e
unfolding entry_weights
entry_range whole e rest h =
    let a = takes_parts _ h in
    let b = takes_parts _ a.3 in
    subst IsEntry (made_is b.3) (record {
      luma = flagged_range IsWeight weight whole a.0 a.1 (λ m x t. weight_range m x a.1 t) a.2;
      chroma = flagged_range AreChroma chroma_weights a.1 b.0 b.1 (λ m x t. chroma_range m x b.1 t) b.2;
    })

entries_range : (active : ℕ) (whole : List Bool) (xs : List EntryWeights) (rest : List Bool) → active ≤ 16 → Takes (all_entries active) whole xs rest → AreFirst 16 IsEntry active xs
unfolding all_entries
entries_range active whole xs rest most h =
    let a = takes_parts _ h in
    let all = times_range IsEntry entry_weights active whole a.0 a.1 entry_range a.2 in
    let long = all.all in
    let first = are_first 16 no_entry IsEntry a.0 (omega (arith, long, most)) all.values in
    subst (AreFirst 16 IsEntry active) (made_is a.3) (subst (λ (n : ℕ). AreFirst 16 IsEntry n (padded 16 no_entry a.0)) long first)

weights_range : (active : ℕ) (whole : List Bool) (w : Weights) (rest : List Bool) → active ≤ 16 → Takes (pred_weight_table active) whole w rest → AreWeights active w
unfolding pred_weight_table
weights_range active whole w rest most h =
    let a = takes_parts _ h in
    let b = takes_parts _ a.3 in
    let c = takes_parts _ b.3 in
    subst (AreWeights active) (made_is c.3) (record {
      luma_denom = up_to_most a.0 7 (ue_range (up_to 7) a.2.front a.0 a.2.spelled).1;
      chroma_denom = up_to_most b.0 7 (ue_range (up_to 7) b.2.front b.0 b.2.spelled).1;
      entries = entries_range active b.1 c.0 c.1 most c.2;
    })

pub present_weights : (active : ℕ) (condition : Bool) (whole : List Bool) (w : Weights) (rest : List Bool) → active ≤ 16 → Takes (present condition (pred_weight_table active) no_weights) whole w rest
    → (condition ≡ true → AreWeights active w) × (condition ≡ false → w ≡ no_weights)
present_weights active condition whole w rest most h =
    elim (takes_present (pred_weight_table active) no_weights condition whole w rest h) [
      | inl there ↦ (λ e. weights_range active whole w rest most there.1, λ e. apart condition there.0 e)
      | inr absent ↦ (λ e. apart condition e absent.0, λ e. sym absent.1)
    ]

-- ---- marking

operation_range : (n : ℕ) (whole : List Bool) (m : Mmco) (rest : List Bool) → Takes (operation n) whole m rest → IsOperation m
unfolding operation
operation_range n whole m rest h =
    elim (takes_choice (eqb n 1) _ _ whole m rest h) [
      | inl h ↦ let a = takes_parts _ h.1 in subst IsOperation (made_is a.3) (ue_range any a.2.front a.0 a.2.spelled).0
      | inr h ↦ elim (takes_choice (eqb n 2) _ _ whole m rest h.1) [
        | inl h ↦ let a = takes_parts _ h.1 in subst IsOperation (made_is a.3) (ue_range any a.2.front a.0 a.2.spelled).0
        | inr h ↦ elim (takes_choice (eqb n 3) _ _ whole m rest h.1) [
          | inl h ↦
              let a = takes_parts _ h.1 in
              let b = takes_parts _ a.3 in
              subst IsOperation (made_is b.3) ((ue_range any a.2.front a.0 a.2.spelled).0, (ue_range any b.2.front b.0 b.2.spelled).0)
          | inr h ↦ elim (takes_choice (eqb n 4) _ _ whole m rest h.1) [
            | inl h ↦ let a = takes_parts _ h.1 in subst IsOperation (made_is a.3) (ue_range any a.2.front a.0 a.2.spelled).0
            | inr h ↦ elim (takes_choice (eqb n 5) _ _ whole m rest h.1) [
              | inl h ↦ subst IsOperation (made_is h.1) tt
              | inr h ↦ let a = takes_parts _ h.1 in subst IsOperation (made_is a.3) (ue_range any a.2.front a.0 a.2.spelled).0
            ]
          ]
        ]
      ]
    ]

idr_range : (head : UnitHead) (whole : List Bool) (m : Marking) (rest : List Bool) → head.ref_idc ≢ 0 → IsTrue (is_idr_unit head) → Takes idr_marking whole m rest → IsMarkingOf head m
unfolding idr_marking
idr_range head whole m rest some idr h =
    let a = takes_parts _ h in
    let b = takes_parts _ a.3 in
    subst (IsMarkingOf head) (made_is b.3) (some, idr)

operations_range : (head : UnitHead) (whole : List Bool) (m : Marking) (rest : List Bool) → head.ref_idc ≢ 0 → IsFalse (is_idr_unit head) → Takes operations whole m rest → IsMarkingOf head m
unfolding operations
operations_range head whole m rest some other h =
    let a = takes_parts _ h in
    let within = listed_range IsOperation 6 0 operation 64 whole a.0 a.1 (λ n w x r below apart t. operation_range n w x r t) a.2 in
    subst (IsMarkingOf head) (made_is a.3) (some, other, are_first 64 Reset IsOperation a.0 within.few within.values)

later_range : (head : UnitHead) (whole : List Bool) (m : Marking) (rest : List Bool) → head.ref_idc ≢ 0 → IsFalse (is_idr_unit head) → Takes later_marking whole m rest → IsMarkingOf head m
unfolding later_marking
later_range head whole m rest some other h =
    let a = takes_parts _ h in
    elim (takes_present operations Sliding a.0 a.1 m rest a.3) [
      | inl there ↦ operations_range head a.1 m rest some other there.1
      | inr absent ↦ subst (IsMarkingOf head) absent.1 (some, other)
    ]

pub marking_range : (head : UnitHead) (whole : List Bool) (m : Marking) (rest : List Bool) → Takes (dec_ref_pic_marking head) whole m rest → IsMarkingOf head m
unfolding dec_ref_pic_marking
marking_range head whole m rest h =
    elim (takes_choice (eqb head.ref_idc 0) _ _ whole m rest h) [
      | inl h ↦ subst (IsMarkingOf head) (made_is h.1) (number_is head.ref_idc 0 h.0)
      | inr h ↦
          let some = number_apart head.ref_idc 0 h.0 in
          elim (takes_choice (is_idr_unit head) _ _ whole m rest h.1) [
            | inl h ↦ idr_range head whole m rest some h.0 h.1
            | inr h ↦ later_range head whole m rest some h.0 h.1
          ]
    ]

-- ---- the filter

pub record InFilter (info : PictureInfo) (f : Filter) : Type 0 where
  pub delta : (least_qp_delta info ≤ℤ f.qp_delta) × (f.qp_delta ≤ℤ greatest_qp_delta info)
  pub idc : (f.idc ≤ 2) × (IsFalse info.deblocking_filter_control_present_flag → f.idc ≡ 0)
  pub alpha : ((negsuc 5 ≤ℤ f.alpha_half) × (f.alpha_half ≤ℤ pos 6)) × (IsFalse (has_offsets info f.idc) → f.alpha_half ≡ pos 0)
  pub beta : ((negsuc 5 ≤ℤ f.beta_half) × (f.beta_half ≤ℤ pos 6)) × (IsFalse (has_offsets info f.idc) → f.beta_half ≡ pos 0)

pub filter_range : (info : PictureInfo) (whole : List Bool) (f : Filter) (rest : List Bool) → Takes (filter info) whole f rest → InFilter info f
unfolding filter
filter_range info whole f rest h =
    let a = takes_parts _ h in
    let b = takes_parts _ a.3 in
    let c = takes_parts _ b.3 in
    let d = takes_parts _ c.3 in
    let least = least_qp_delta info in
    let greatest = greatest_qp_delta info in
    subst (InFilter info) (made_is d.3) (record {
      delta = between_ends least greatest a.0 (se_range (between least greatest) a.2.front a.0 a.2.spelled).1;
      idc = ue_present info.deblocking_filter_control_present_flag 2 a.1 b.0 b.1 b.2;
      alpha = offset_present (has_offsets info b.0) b.1 c.0 c.1 c.2;
      beta = offset_present (has_offsets info b.0) c.1 d.0 d.1 d.2;
    })
