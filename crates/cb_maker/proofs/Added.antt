-- The units of the stream's slices, one behind the other.
use Rattle.std.proofs.Common.{◌≡◌, ℕ, ◌+◌, ◌*◌, ◌/◌, ◌%◌, List, [], ◌∷◌, ◌++◌, Vec, flat_map, map, refl, sym, ap, ◌∙◌, subst, append_assoc}
use Rattle.std.proofs.lemmas.List.{append-nil, map_push}
use Rattle.std.specs.List.{AllZip}
use Rattle.std.specs.declared.alloc.Global.{Global}
use Rattle.nal_units.specs.ByteStream.{start_code}
use Rattle.cb_maker.specs.Draws.{each_below}
use Rattle.cb_maker.specs.Slices.{MadeSlice, drawn_slice, drawn_slices, slices_of}
use Rattle.cb_maker.specs.Stream.{IsMade, IsSliceUnit, information, picture_set, sequence_set, stream_of}
use Rattle.cb_maker.specs.declared.stream.TheConstants.{PICTURES, PICTURE_SLICES}
use Rattle.cb_maker.proofs.Drawing.{more_below, none_below}
use Rattle.cb_maker.proofs.Units.{zip-push}

abbrev pub items_of : Vec ℕ Global → List ℕ
items_of unit = unit.items

abbrev pub one_slice : ℕ → ℕ → MadeSlice × ℕ
one_slice slice = drawn_slice (slice / PICTURE_SLICES) (slice % PICTURE_SLICES)

-- The units of the first slices stand behind the others.
pub record AddedSo (number i : ℕ) (old new : List (Vec ℕ Global)) (y : ℕ) : Type 0 where
  pub slices : List MadeSlice
  pub added : List (Vec ℕ Global)
  pub drawn : each_below i one_slice number ≡ (slices, y)
  pub parts : new ≡ old ++ added
  pub units : AllZip IsSliceUnit slices (map items_of added)

pub none_added : (number : ℕ) (old : List (Vec ℕ Global)) (y : ℕ) → y ≡ number → AddedSo number 0 old old y
none_added number old y e = record {
  slices = [];
  added = [];
  drawn = none_below one_slice number ∙ ap (λ (k : ℕ). let none : List MadeSlice = [] in (none, k)) (sym e);
  parts = sym (append-nil old);
  units = tt;
}

pub more_added : (number i y z : ℕ) (old mid new : List (Vec ℕ Global)) (unit : Vec ℕ Global) → AddedSo number i old mid y → IsSliceUnit (one_slice i y).0 unit.items → z ≡ (one_slice i y).1
    → new ≡ mid ++ unit ∷ [] → AddedSo number (i + 1) old new z
more_added number i y z old mid new unit h is e f =
    let slice = (one_slice i y).0 in
    record {
      slices = h.slices ++ slice ∷ [];
      added = h.added ++ unit ∷ [];
      drawn = more_below one_slice i number y z h.slices slice h.drawn (ap (λ (k : ℕ). (slice, k)) (sym e));
      parts = f ∙ ap (λ (s : List (Vec ℕ Global)). s ++ unit ∷ []) h.parts ∙ append_assoc old h.added (unit ∷ []);
      units = subst (λ (s : List (List ℕ)). AllZip IsSliceUnit (h.slices ++ slice ∷ []) s) (sym (map_push items_of h.added unit))
          (zip-push IsSliceUnit h.slices (map items_of h.added) slice unit.items h.units is);
    }

pub all_added : (number i y : ℕ) (old new : List (Vec ℕ Global)) → i ≡ PICTURES * PICTURE_SLICES → AddedSo number i old new y
    → (added : List (Vec ℕ Global)) × (new ≡ old ++ added) × AllZip IsSliceUnit (slices_of number) (map items_of added)
unfolding drawn_slices
all_added number i y old new e h =
    let whole : (drawn_slices number).0 ≡ h.slices = ap (λ (k : ℕ). (each_below k one_slice number).0) (sym e) ∙ ap (λ (d : List MadeSlice × ℕ). d.0) h.drawn in
    (h.added, h.parts, subst (λ (s : List MadeSlice). AllZip IsSliceUnit s (map items_of h.added)) (sym whole) h.units)

-- ---- the text

flat_items : (units : List (Vec ℕ Global)) → flat_map (λ unit. start_code ++ unit.items) units ≡ stream_of (map items_of units)
flat_items [] = refl
flat_items (unit ∷ units) = ap (λ (x : List ℕ). (start_code ++ unit.items) ++ x) (flat_items units)

three_pushed : (a b c : Vec ℕ Global) (u_0 u_1 u_2 u_3 units added : List (Vec ℕ Global)) → u_0 ≡ [] → u_1 ≡ u_0 ++ a ∷ [] → u_2 ≡ u_1 ++ b ∷ [] → u_3 ≡ u_2 ++ c ∷ [] → units ≡ u_3 ++ added
    → units ≡ a ∷ b ∷ c ∷ added
three_pushed a b c u_0 u_1 u_2 u_3 units added e f g h i =
    let first : u_1 ≡ a ∷ [] = f ∙ ap (λ (s : List (Vec ℕ Global)). s ++ a ∷ []) e in
    let second : u_2 ≡ a ∷ b ∷ [] = g ∙ ap (λ (s : List (Vec ℕ Global)). s ++ b ∷ []) first in
    let third : u_3 ≡ a ∷ b ∷ c ∷ [] = h ∙ ap (λ (s : List (Vec ℕ Global)). s ++ c ∷ []) second in
    i ∙ ap (λ (s : List (Vec ℕ Global)). s ++ added) third

pub made : (number : ℕ) (a b c : Vec ℕ Global) (u_0 u_1 u_2 u_3 units : List (Vec ℕ Global)) (text : List ℕ) → u_0 ≡ [] → u_1 ≡ u_0 ++ a ∷ [] → u_2 ≡ u_1 ++ b ∷ [] → u_3 ≡ u_2 ++ c ∷ []
    → a.items ≡ information → b.items ≡ sequence_set → c.items ≡ picture_set
    → (added : List (Vec ℕ Global)) × (units ≡ u_3 ++ added) × AllZip IsSliceUnit (slices_of number) (map items_of added)
    → text ≡ flat_map (λ unit. start_code ++ unit.items) units → IsMade number text
made number a b c u_0 u_1 u_2 u_3 units text e f g h j k l all t =
    let added = all.0 in
    let whole = three_pushed a b c u_0 u_1 u_2 u_3 units added e f g h all.1 in
    let rest = map items_of added in
    record {
      units = rest;
      slices = all.2;
      joined = t ∙ flat_items units ∙ ap (λ (s : List (Vec ℕ Global)). stream_of (map items_of s)) whole
          ∙ ap (λ (s : List ℕ). stream_of (s ∷ b.items ∷ c.items ∷ rest)) j ∙ ap (λ (s : List ℕ). stream_of (information ∷ s ∷ c.items ∷ rest)) k
          ∙ ap (λ (s : List ℕ). stream_of (information ∷ sequence_set ∷ s ∷ rest)) l;
    }
