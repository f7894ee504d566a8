-- A schedule's text that was read up to a place.
use Rattle.std.proofs.Common.{◌≡◌, ℕ, ◌+◌, ◌<◌, ◌≤◌, inl, inr, List, [], ◌∷◌, ◌++◌, length, take, drop, refl, sym, ap, ap₂, subst, ◌∙◌, arith}
use Rattle.std.specs.Prelude.{All}
use Rattle.std.proofs.lemmas.Grind.{flat_map-append}
use Rattle.std.proofs.lemmas.List.{append_assoc, append-nil, drop-drop, drop_all, length-append, length-drop, take_all}
use Rattle.std.proofs.lemmas.List.Elements.{All-nil, All-push}
use Rattle.clock_script.proofs.Parts.{IsFirst, around, parted, whole}
use Rattle.overlay_files.specs.Cues.{Cue, IsCue, most_cues}
use Rattle.overlay_files.specs.ReadCues.{MayFollow}
use Rattle.overlay_files.specs.Schedules.{BeginsWithCue, IsFirstBadCue, IsSchedule, cue_text, cues_text}
use Rattle.overlay_files.proofs.CueTexts.{cue_lacks}

cues_push : (cues : List Cue) (c : Cue) → cues_text (cues ++ c ∷ []) ≡ cues_text cues ++ (cue_text c ++ 10 ∷ [])
cues_push cues c = flat_map-append (λ one. cue_text one ++ 10 ∷ []) cues (c ∷ []) ∙ ap (λ l. cues_text cues ++ l) (append-nil (cue_text c ++ 10 ∷ []))

-- these lines were read, and the text goes on at this place
pub record CuesUpTo (text : List ℕ) (at : ℕ) (cues : List Cue) : Type 0 where
  pub within : at ≤ length text
  pub front : text ≡ cues_text cues ++ drop at text
  pub each : All IsCue cues
  pub few : length cues ≤ most_cues

pub cues_none : (text : List ℕ) → CuesUpTo text 0 []
cues_none text = record { within = omega arith; front = refl; each = All-nil IsCue; few = omega arith }

pub cues_all : (text : List ℕ) (at : ℕ) (cues : List Cue) → CuesUpTo text at cues → length text ≤ at → IsSchedule cues text
cues_all text at cues r end =
    let rest : drop at text ≡ [] = drop_all at text end in
    record { is = inl (r.front ∙ (ap (λ l. cues_text cues ++ l) rest ∙ append-nil (cues_text cues))); each = r.each; few = r.few }

-- the line that begins the rest is the part before its first line feed
front_is : (rest : List ℕ) (place : ℕ) (c : Cue) → IsCue c → IsFirst 10 rest place → BeginsWithCue c rest → take place rest ≡ cue_text c
front_is rest place c is first (inl begins) =
    let p = parted 10 (cue_text c) begins.0 place (cue_lacks c is) (subst (λ (t : List ℕ). IsFirst 10 t place) begins.1 first) in
    ap (take place) begins.1 ∙ p.front_is
front_is rest place c is first (inr same) =
    let end = whole 10 (cue_text c) place (cue_lacks c is) (subst (λ (t : List ℕ). IsFirst 10 t place) same first) in
    ap (take place) same ∙ (ap (λ n. take n (cue_text c)) end ∙ take_all (length (cue_text c)) (cue_text c) (omega arith))

pub first_bad_cue : (text : List ℕ) (at place : ℕ) (cues : List Cue) → at < length text → CuesUpTo text at cues → IsFirst 10 (drop at text) place
    → ((c : Cue) → MayFollow (length cues) c → take place (drop at text) ≡ cue_text c → ⊥) → IsFirstBadCue (length cues + 1) text
first_bad_cue text at place cues within r first bad = record {
  before = cues;
  rest = drop at text;
  numbered = refl;
  each = r.each;
  few = r.few;
  front = r.front;
  some = λ none. omega (arith, ap length none, length-drop at text, within);
  bad = λ c few is begins. bad c (few, is) (front_is (drop at text) place c is first begins);
}

one_more : (cues : List Cue) (c : Cue) → length cues < most_cues → length (cues ++ c ∷ []) ≤ most_cues
one_more cues c few = omega (arith, few, length-append cues (c ∷ []))

pub cue_last : (text : List ℕ) (at place : ℕ) (cues : List Cue) (c : Cue) → CuesUpTo text at cues → MayFollow (length cues) c → take place (drop at text) ≡ cue_text c → place ≡ length (drop at text)
    → IsSchedule (cues ++ c ∷ []) text
cue_last text at place cues c r may is end =
    let rest : drop at text ≡ cue_text c = sym (take_all place (drop at text) (omega (arith, end))) ∙ is in
    record {
      is = inr (ap (λ t. t ++ 10 ∷ []) (r.front ∙ ap (λ l. cues_text cues ++ l) rest) ∙ (append_assoc (cues_text cues) (cue_text c) (10 ∷ []) ∙ sym (cues_push cues c)));
      each = All-push IsCue cues c r.each may.1;
      few = one_more cues c may.0;
    }

joined : (xs ys zs : List ℕ) → xs ++ (ys ++ 10 ∷ zs) ≡ (xs ++ (ys ++ 10 ∷ [])) ++ zs
joined xs ys zs = sym (append_assoc xs (ys ++ 10 ∷ []) zs ∙ ap (λ l. xs ++ l) (append_assoc ys (10 ∷ []) zs))

pub cue_more : (text : List ℕ) (at place : ℕ) (cues : List Cue) (c : Cue) → CuesUpTo text at cues → IsFirst 10 (drop at text) place → MayFollow (length cues) c → take place (drop at text) ≡ cue_text c
    → place < length (drop at text) → CuesUpTo text (at + (place + 1)) (cues ++ c ∷ [])
cue_more text at place cues c r first may is inside =
    let rest : drop at text ≡ cue_text c ++ 10 ∷ drop (place + 1) (drop at text) = around (drop at text) place inside ∙ ap₂ (λ l b. l ++ b ∷ drop (place + 1) (drop at text)) is (first.there inside) in
    let behind : drop (place + 1) (drop at text) ≡ drop (at + (place + 1)) text = drop-drop (place + 1) at text in
    record {
      within = omega (arith, inside, length-drop at text);
      front =
          r.front ∙ (ap (λ l. cues_text cues ++ l) (rest ∙ ap (λ l. cue_text c ++ 10 ∷ l) behind)
          ∙ joined (cues_text cues) (cue_text c) (drop (at + (place + 1)) text) ∙ ap (λ l. l ++ drop (at + (place + 1)) text) (sym (cues_push cues c)));
      each = All-push IsCue cues c r.each may.1;
      few = one_more cues c may.0;
    }
