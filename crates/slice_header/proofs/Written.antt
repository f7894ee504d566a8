-- What is written behind what was there.
use Rattle.std.proofs.Common.{◌≡◌, ℕ, zero, suc, ◌≤◌, Bool, true, false, eqb, eq-eqb, ne_eqb, cond, List, [], ◌∷◌, ◌++◌, get_or, None, Some, refl, sym, ap, subst, ◌∙◌, append_assoc}
use Rattle.std.proofs.lemmas.List.{append-nil}
use Rattle.bit_io.specs.Codewords as codewords
use Rattle.bit_io.specs.Codewords.{IsUe}
use Rattle.element_tables.specs.Syntax.{Appends, Syntax, any, flag, times, up_to}
use Rattle.element_tables.proofs.OneElement.{ue_appended}
use Rattle.element_tables.proofs.Rules.{up_to_is}
use Rattle.element_tables.proofs.Tables.{appends_absent, appends_made, appends_present, appends_then}
use Rattle.slice_header.specs.Lists.{AppendsItem, Extends, exactly, flagged, listed, optional}
use Rattle.slice_header.proofs.Choices.{exactly_is}

pub extends_same : {old new : List Bool} → new ≡ old → Extends old new
extends_same {old} {new} e = record { added = []; parts = e ∙ sym (append-nil old) }

pub extends_more : {old mid new : List Bool} (xs : List Bool) → mid ≡ old ++ xs → Extends mid new → Extends old new
extends_more {old} {mid} {new} xs e f = record { added = xs ++ f.added; parts = f.parts ∙ ap (λ (x : List Bool). x ++ f.added) e ∙ append_assoc old xs f.added }

pub extends_then : {A : Type 0} {t : Syntax A} {a : A} {old mid new : List Bool} → Appends t a old mid → Extends mid new → Extends old new
extends_then h f = extends_more h.added h.parts f

pub extends_both : {old mid new : List Bool} → Extends old mid → Extends mid new → Extends old new
extends_both h f = extends_more h.added h.parts f

pub item_extends : {A : Type 0} {greatest end : ℕ} {item : ℕ → Syntax A} {x : A} {old new : List Bool} → AppendsItem greatest end item x old new → Extends old new
item_extends h = extends_then h.first (record { added = h.second.added; parts = h.second.parts })

-- ---- choices

pub appends_chosen : {A : Type 0} (b : Bool) (first second : Syntax A) (a : A) (old new : List Bool) → b ≡ true → Appends first a old new → Appends (cond b first second) a old new
appends_chosen true first second a old new e h = h
appends_chosen false first second a old new e h = absurd cc

pub appends_passed : {A : Type 0} (b : Bool) (first second : Syntax A) (a : A) (old new : List Bool) → b ≡ false → Appends second a old new → Appends (cond b first second) a old new
appends_passed true first second a old new e h = absurd cc
appends_passed false first second a old new e h = h

pub flagged_some : {A : Type 0} (t : Syntax A) (v : A) (old mid new : List Bool) → Appends (flag any) true old mid → Appends t v mid new → Appends (flagged t) (Some v) old new
unfolding flagged optional
flagged_some t v old mid new h i = appends_then _ h (appends_present _ None (Some v) true mid new refl (appends_then _ i (appends_made _ _)))

pub flagged_none : {A : Type 0} (t : Syntax A) (old new : List Bool) → Appends (flag any) false old new → Appends (flagged t) None old new
unfolding flagged optional
flagged_none t old new h = appends_then _ h (appends_absent _ None false new refl)

-- ---- lists

-- Of the whole table's list these are left, and where the rest of it is written behind here, the whole is.
pub record Puts {A : Type 0} (whole : Syntax (List A)) (all : List A) (old : List Bool) (rest : Syntax (List A)) (left : List A) (here : List Bool) : Type 0 where
  pub appends : (new : List Bool) → Appends rest left here new → Appends whole all old new
  pub extends : Extends old here

pub puts_first : {A : Type 0} (table : ℕ → Syntax (List A)) (m n : ℕ) (all left : List A) (old : List Bool) → n ≡ m → left ≡ all → Puts (table m) all old (table n) left old
puts_first {A} table m n all left old e f =
    subst (λ (i : ℕ). Puts (table m) all old (table i) left old) (sym e) (subst (λ (xs : List A). Puts (table m) all old (table m) xs old) (sym f) (record { appends = λ new h. h; extends = extends_same refl }))

pub puts_once : {A : Type 0} (t : Syntax A) (m n : ℕ) (whole : Syntax (List A)) (all left less : List A) (x : A) (old here new : List Bool) → m ≡ suc n → left ≡ x ∷ less
    → Puts whole all old (times m t) left here → Appends t x here new → Puts whole all old (times n t) less new
unfolding times
puts_once {A} t m n whole all left less x old here new e f p h =
    let from : Puts whole all old (times (suc n) t) (x ∷ less) here = subst (λ (xs : List A). Puts whole all old (times (suc n) t) xs here) f (subst (λ (i : ℕ). Puts whole all old (times i t) left here) e p) in
    record {
      appends = λ last others. from.appends last (appends_then _ h (appends_then _ others (appends_made _ _)));
      extends = extends_both p.extends (extends_then h (extends_same refl));
    }

pub puts_done : {A : Type 0} (t : Syntax A) (m : ℕ) (whole : Syntax (List A)) (all left : List A) (old here : List Bool) → m ≡ 0 → left ≡ [] → Puts whole all old (times m t) left here → Appends whole all old here
unfolding times
puts_done {A} t m whole all left old here e f p =
    let from : Puts whole all old (times 0 t) [] here = subst (λ (xs : List A). Puts whole all old (times 0 t) xs here) f (subst (λ (i : ℕ). Puts whole all old (times i t) left here) e p) in
    from.appends here (appends_made _ _)

pub puts_item : {A : Type 0} (greatest end : ℕ) (item : ℕ → Syntax A) (m n : ℕ) (whole : Syntax (List A)) (all left less : List A) (x : A) (old here new : List Bool) → m ≡ suc n → left ≡ x ∷ less
    → Puts whole all old (listed greatest end item m) left here → AppendsItem greatest end item x here new → Puts whole all old (listed greatest end item n) less new
unfolding listed
puts_item {A} greatest end item m n whole all left less x old here new e f p h =
    let table = listed greatest end item in
    let from : Puts whole all old (table (suc n)) (x ∷ less) here = subst (λ (xs : List A). Puts whole all old (table (suc n)) xs here) f (subst (λ (i : ℕ). Puts whole all old (table i) left here) e p) in
    record {
      appends = λ last others. from.appends last (appends_then _ h.first (appends_passed (eqb h.number end) _ _ _ _ _ (ne_eqb h.number end h.goes_on) (appends_then _ h.second (appends_then _ others (appends_made _ _)))));
      extends = extends_both p.extends (item_extends h);
    }

end_appended : {A : Type 0} (greatest end : ℕ) (item : ℕ → Syntax A) (m : ℕ) (here new : List Bool) → end ≤ greatest → IsUe end → new ≡ here ++ codewords.ue end → Appends (listed greatest end item m) [] here new
unfolding listed
end_appended greatest end item zero here new most is e = appends_then _ (ue_appended (exactly end) end here new is (exactly_is end end refl) e) (appends_made _ _)
end_appended greatest end item (suc m) here new most is e =
    appends_then _ (ue_appended (up_to greatest) end here new is (up_to_is end greatest most) e) (appends_chosen (eqb end end) _ _ _ _ _ (eq-eqb end end refl) (appends_made _ _))

pub puts_end : {A : Type 0} (greatest end : ℕ) (item : ℕ → Syntax A) (m : ℕ) (whole : Syntax (List A)) (all left : List A) (old here new : List Bool) → left ≡ [] → end ≤ greatest → IsUe end → new ≡ here ++ codewords.ue end
    → Puts whole all old (listed greatest end item m) left here → Appends whole all old new
puts_end {A} greatest end item m whole all left old here new f most is e p =
    p.appends new (subst (λ (xs : List A). Appends (listed greatest end item m) xs here new) (sym f) (end_appended greatest end item m here new most is e))

-- a list of two is its two places
pub pair_whole : {A : Type 0} {xs : List A} {a b : A} (d e : A) → xs ≡ a ∷ b ∷ [] → get_or xs 0 d ∷ get_or xs 1 e ∷ [] ≡ xs
pair_whole {A} {xs} {a} {b} d e same = subst (λ (ys : List A). get_or ys 0 d ∷ get_or ys 1 e ∷ [] ≡ ys) (sym same) refl
