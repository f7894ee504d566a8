-- Where the lines of an edge stand: inside the plane, and as their numbers say.
use Rattle.std.proofs.Common.{◌≡◌, ℕ, zero, suc, ◌+◌, ◌*◌, ◌/◌, ◌%◌, ◌<◌, ◌≤◌, Bool, true, false, cond, List, [], ◌∷◌, get_or, length, Option, Some, None, sym, refl, ap, ◌∙◌, arith}
use Rattle.std.proofs.lemmas.Bool.{leb-true, ltb-true}
use Rattle.std.proofs.lemmas.Nat.{div-add-mod', div_below, mod_below, mul-le}
use Rattle.std.specs.Prelude.{ℤ}
use Rattle.cb_types.specs.declared.mark.MbMark.{MbMark}
use Rattle.deblock.specs.declared.edges.Run.{Run}
use Rattle.deblock.specs.declared.line.Filter.{Filter}
use Rattle.deblock.specs.declared.thresholds.Indexes.{Indexes}
use Rattle.deblock.specs.Deblocked.{after_lines}
use Rattle.deblock.specs.Edges.{before, mark_at, strength_at, strength_from}
use Rattle.deblock.specs.Lines.{Line, edge_line, filter_from, line, line_of}
use Rattle.deblock.specs.Runs.{edge_run, run_line}
use Rattle.deblock.specs.Strength.{strength}
use Rattle.deblock.specs.Thresholds.{Channel, chroma, filter_by, index_a, index_b, luma}
use Rattle.deblock.proofs.Decoded.{chroma_line_at, luma_line_at}
use Rattle.deblock.proofs.Steps.{same_lines}

-- the four places of an edge
abbrev pub four : (ℕ → ℕ) → List ℕ
four f = f 0 ∷ f 1 ∷ f 2 ∷ f 3 ∷ []

get_four : (f : ℕ → ℕ) (p : ℕ) → p < 4 → get_or (four f) p 0 ≡ f p
get_four f zero h = refl
get_four f (suc zero) h = refl
get_four f (suc (suc zero)) h = refl
get_four f (suc (suc (suc zero))) h = refl
get_four f (suc (suc (suc (suc p)))) h = absurd (omega arith)

filter_met : (c : Channel) (w : ℕ) (marks : List MbMark) (mb other : ℕ) (v : Bool) (le : ℕ) (ix : Indexes) (st : List ℕ) (p : ℕ) → before w mb v le ≡ Some other → ix.a ≡ index_a c (mark_at marks other) (mark_at marks mb)
    → ix.b ≡ index_b c (mark_at marks other) (mark_at marks mb) → st ≡ four (strength_at w marks mb v le) → p < 4
    → filter_from c marks (before w mb v le) mb (strength_at w marks mb v le p) ≡ filter_by ix.a ix.b (get_or st p 0)
filter_met c w marks mb other v le ix st p met ea eb es h =
    let s : ℕ = strength_at w marks mb v le p in
    ap (λ o. filter_from c marks o mb s) met
    ∙ (ap (λ a. filter_by a (index_b c (mark_at marks other) (mark_at marks mb)) s) (sym ea)
    ∙ (ap (λ b. filter_by ix.a b s) (sym eb) ∙ ap (filter_by ix.a ix.b) (sym (ap (λ l. get_or l p 0) es ∙ get_four (strength_at w marks mb v le) p h))))

line_same : (at at' step step' : ℕ) (f f' : Filter) → at ≡ at' → step ≡ step' → f ≡ f' → line_of at step f ≡ line_of at' step' f'
line_same at at' step step' f f' a b c = ap (λ x. line_of x step f) a ∙ (ap (λ x. line_of at' x f) b ∙ ap (line_of at' step') c)

luma_place_is : (w mb : ℕ) (v : Bool) (e k : ℕ) → (16 * (mb / w) + cond v k (4 * e)) * (16 * w) + (16 * (mb % w) + cond v (4 * e) k) ≡ (edge_run 16 w mb v e).first + k * (edge_run 16 w mb v e).along
luma_place_is w mb true e k = omega arith
luma_place_is w mb false e k = omega arith

chroma_place_is : (w mb : ℕ) (v : Bool) (e k : ℕ) → (8 * (mb / w) + cond v k (4 * e)) * (8 * w) + (8 * (mb % w) + cond v (4 * e) k) ≡ (edge_run 8 w mb v e).first + k * (edge_run 8 w mb v e).along
chroma_place_is w mb true e k = omega arith
chroma_place_is w mb false e k = omega arith

luma_step_is : (w mb : ℕ) (v : Bool) (e : ℕ) → cond v 1 (16 * w) ≡ (edge_run 16 w mb v e).step
luma_step_is w mb true e = refl
luma_step_is w mb false e = refl

chroma_step_is : (w mb : ℕ) (v : Bool) (e : ℕ) → cond v 1 (8 * w) ≡ (edge_run 8 w mb v e).step
chroma_step_is w mb true e = refl
chroma_step_is w mb false e = refl

-- what is known of an edge: the macroblock of p0, the rows of the tables, and the strengths
pub record IsMet (c : Channel) (w : ℕ) (marks : List MbMark) (mb other : ℕ) (v : Bool) (le : ℕ) (ix : Indexes) (st : List ℕ) : Type 0 where
  pub met : before w mb v le ≡ Some other
  pub a : ix.a ≡ index_a c (mark_at marks other) (mark_at marks mb)
  pub b : ix.b ≡ index_b c (mark_at marks other) (mark_at marks mb)
  pub strengths : st ≡ four (strength_at w marks mb v le)

luma_edge_line : (w : ℕ) (marks : List MbMark) (mb other : ℕ) (v : Bool) (e k : ℕ) (ix : Indexes) (st : List ℕ) → IsMet luma w marks mb other v e ix st → k < 16
    → edge_line luma w marks mb v e k ≡ run_line (edge_run 16 w mb v e) ix st 4 k
luma_edge_line w marks mb other v e k ix st m h =
    let le : 1 * e ≡ e = omega arith in
    let place : 1 * k / 4 ≡ k / 4 = omega arith in
    line_same _ _ _ _ _ _ (luma_place_is w mb v e k) (luma_step_is w mb v e)
    (ap (λ x. filter_from luma marks (before w mb v x) mb (strength_at w marks mb v x (1 * k / 4))) le
    ∙ (ap (λ x. filter_from luma marks (before w mb v e) mb (strength_at w marks mb v e x)) place ∙ filter_met luma w marks mb other v e ix st (k / 4) m.met m.a m.b m.strengths (omega arith)))

chroma_edge_line : (o : ℤ) (w : ℕ) (marks : List MbMark) (mb other : ℕ) (v : Bool) (e k : ℕ) (ix : Indexes) (st : List ℕ) → IsMet (chroma o) w marks mb other v (2 * e) ix st → k < 8
    → edge_line (chroma o) w marks mb v e k ≡ run_line (edge_run 8 w mb v e) ix st 2 k
chroma_edge_line o w marks mb other v e k ix st m h =
    let place : 2 * k / 4 ≡ k / 2 = omega arith in
    line_same _ _ _ _ _ _ (chroma_place_is w mb v e k) (chroma_step_is w mb v e)
    (ap (λ x. filter_from (chroma o) marks (before w mb v (2 * e)) mb (strength_at w marks mb v (2 * e) x)) place ∙ filter_met (chroma o) w marks mb other v (2 * e) ix st (k / 2) m.met m.a m.b m.strengths (omega arith))

-- the lines of an edge are those of its numbers
pub luma_run_is : (r : Line → List ℕ → List ℕ) (w : ℕ) (marks : List MbMark) (mb other : ℕ) (v : Bool) (e : ℕ) (run : Run) (ix : Indexes) (st s out : List ℕ) → e < 4 → IsMet luma w marks mb other v e ix st → run ≡ edge_run 16 w mb v e
    → out ≡ after_lines r (run_line run ix st 4) 0 16 s → out ≡ after_lines r (line luma w marks) (128 * mb + cond v 0 64 + 16 * e) 16 s
luma_run_is r w marks mb other v e run ix st s out he m er eo =
    eo ∙ (ap (λ x. after_lines r (run_line x ix st 4) 0 16 s) er
    ∙ same_lines r (run_line (edge_run 16 w mb v e) ix st 4) (line luma w marks) 0 (128 * mb + cond v 0 64 + 16 * e) 16 s
    (λ k h. let same : 0 + k ≡ k = omega arith in ap (run_line (edge_run 16 w mb v e) ix st 4) same ∙ sym (luma_line_at w marks mb v e k _ he h refl ∙ luma_edge_line w marks mb other v e k ix st m h)))

pub chroma_run_is : (r : Line → List ℕ → List ℕ) (o : ℤ) (w : ℕ) (marks : List MbMark) (mb other : ℕ) (v : Bool) (e : ℕ) (run : Run) (ix : Indexes) (st s out : List ℕ) → e < 2 → IsMet (chroma o) w marks mb other v (2 * e) ix st → run ≡ edge_run 8 w mb v e
    → out ≡ after_lines r (run_line run ix st 2) 0 8 s → out ≡ after_lines r (line (chroma o) w marks) (32 * mb + cond v 0 16 + 8 * e) 8 s
chroma_run_is r o w marks mb other v e run ix st s out he m er eo =
    eo ∙ (ap (λ x. after_lines r (run_line x ix st 2) 0 8 s) er
    ∙ same_lines r (run_line (edge_run 8 w mb v e) ix st 2) (line (chroma o) w marks) 0 (32 * mb + cond v 0 16 + 8 * e) 8 s
    (λ k h. let same : 0 + k ≡ k = omega arith in ap (run_line (edge_run 8 w mb v e) ix st 2) same ∙ sym (chroma_line_at o w marks mb v e k _ he h refl ∙ chroma_edge_line o w marks mb other v e k ix st m h)))

row_end : (r h w : ℕ) → r < h → r * w + w ≤ h * w
row_end r h w below = omega (arith, mul-le (r + 1) w h w (omega arith) (omega arith))

edge_end : (e w : ℕ) → e < 4 → e * w ≤ 3 * w
edge_end e w h = omega (arith, mul-le e w 3 w (omega arith) (omega arith))

luma_end : (w h mb : ℕ) (v : Bool) (e : ℕ) → 1 ≤ w → mb / w < h → mb % w < w → e < 4 → (edge_run 16 w mb v e).first + 15 * (edge_run 16 w mb v e).along + 3 * (edge_run 16 w mb v e).step < 256 * (w * h)
luma_end w h mb true e some row column he = omega (arith, row_end (mb / w) h w row)
luma_end w h mb false e some row column he = omega (arith, row_end (mb / w) h w row, edge_end e w he)

chroma_end : (w h mb : ℕ) (v : Bool) (e : ℕ) → 1 ≤ w → mb / w < h → mb % w < w → e < 2 → (edge_run 8 w mb v e).first + 7 * (edge_run 8 w mb v e).along + (edge_run 8 w mb v e).step < 64 * (w * h)
chroma_end w h mb true e some row column he = omega (arith, row_end (mb / w) h w row)
chroma_end w h mb false e some row column he = omega (arith, row_end (mb / w) h w row, mul-le e w 1 w (omega arith) (omega arith))

pub luma_inside : (w h mb : ℕ) (v : Bool) (e : ℕ) (run : Run) (n : ℕ) → 1 ≤ w → mb < w * h → e < 4 → run ≡ edge_run 16 w mb v e → n ≡ 256 * (w * h) → run.first + 15 * run.along + 3 * run.step < n
luma_inside w h mb v e run n some inside he er en =
    rw (er, en) (luma_end w h mb v e some (div_below mb w h some (omega arith)) (mod_below mb w some) he)

pub chroma_inside : (w h mb : ℕ) (v : Bool) (e : ℕ) (run : Run) (n : ℕ) → 1 ≤ w → mb < w * h → e < 2 → run ≡ edge_run 8 w mb v e → n ≡ 64 * (w * h) → run.first + 7 * run.along + run.step < n
chroma_inside w h mb v e run n some inside he er en =
    rw (er, en) (chroma_end w h mb v e some (div_below mb w h some (omega arith)) (mod_below mb w some) he)

all_four : (f : ℕ → ℕ) (n k d : ℕ) → ((p : ℕ) → f p ≤ n) → k < 4 → get_or (four f) k d ≤ n
all_four f n zero d most h = most 0
all_four f n (suc zero) d most h = most 1
all_four f n (suc (suc zero)) d most h = most 2
all_four f n (suc (suc (suc zero))) d most h = most 3
all_four f n (suc (suc (suc (suc k)))) d most h = absurd (omega arith)

least : (a b c d : Bool) → cond a (cond b 4 3) (cond c 2 (cond d 1 0)) ≤ 4
least true true c d = omega arith
least true false c d = omega arith
least false b true d = omega arith
least false b false true = omega arith
least false b false false = omega arith

strength_most : (b : Bool) (p : MbMark) (i : ℕ) (q : MbMark) (j : ℕ) → strength b p i q j ≤ 4
unfolding strength
strength_most b p i q j = least _ b _ _

or_none : (b : Bool) (n : ℕ) → n ≤ 4 → cond b n 0 ≤ 4
or_none true n h = h
or_none false n h = omega arith

strength_from_most : (marks : List MbMark) (o : Option ℕ) (mb : ℕ) (v : Bool) (e p : ℕ) → strength_from marks o mb v e p ≤ 4
strength_from_most marks None mb v e p = omega arith
strength_from_most marks (Some other) mb v e p = or_none _ _ (strength_most _ _ _ _ _)

strength_at_most : (w : ℕ) (marks : List MbMark) (mb : ℕ) (v : Bool) (e p : ℕ) → strength_at w marks mb v e p ≤ 4
unfolding strength_at
strength_at_most w marks mb v e p = strength_from_most marks _ mb v e p

pub strengths_most : (w : ℕ) (marks : List MbMark) (mb : ℕ) (v : Bool) (e : ℕ) (st : List ℕ) → st ≡ four (strength_at w marks mb v e) → (k d : ℕ) → k < length st → get_or st k d ≤ 4
strengths_most w marks mb v e st is k d h = rw is (all_four _ 4 k d (strength_at_most w marks mb v e) (omega (arith, ap length is)))

-- the first edge has a macroblock before it
is_some : (b : Bool) (x y : ℕ) → cond b (Some x) None ≡ Some y → b ≡ true
is_some true x y e = refl
is_some false x y e = cc

whole : (q w m n : ℕ) → q * w + m ≡ n → m < w → w ≤ n → w ≤ q * w
whole zero w m n e h le = absurd (omega arith)
whole (suc q) w m n e h le = omega arith

pub row_above : (w mb : ℕ) → 1 ≤ w → w ≤ mb → w ≤ mb / w * w
row_above w mb some le = whole (mb / w) w (mb % w) mb (div-add-mod' mb w) (mod_below mb w some) le

chroma_start : (w mb other : ℕ) (v : Bool) (e : ℕ) → 1 ≤ w → e < 2 → before w mb v (2 * e) ≡ Some other → 2 * (edge_run 8 w mb v e).step ≤ (edge_run 8 w mb v e).first
chroma_start w mb other true zero some h met = omega (arith, ltb-true 0 (mb % w) (is_some _ _ other met))
chroma_start w mb other false zero some h met = omega (arith, row_above w mb some (leb-true w mb (is_some _ _ other met)))
chroma_start w mb other true (suc zero) some h met = omega arith
chroma_start w mb other false (suc zero) some h met = omega arith
chroma_start w mb other v (suc (suc e)) some h met = absurd (omega arith)

pub chroma_before : (w mb other : ℕ) (v : Bool) (e : ℕ) (run : Run) → 1 ≤ w → e < 2 → before w mb v (2 * e) ≡ Some other → run ≡ edge_run 8 w mb v e → 2 * run.step ≤ run.first
chroma_before w mb other v e run some h met is = rw is (chroma_start w mb other v e some h met)
