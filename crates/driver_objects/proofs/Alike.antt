-- Kept objects that are the same, but for how many owners pixels and samples have.
use Rattle.std.proofs.Common.{◌≡◌, ℕ, ◌<◌, List, get_or, length, map, slice_get, Some, refl, sym, ap, ◌∙◌, subst, arith}
use Rattle.std.proofs.lemmas.Bool.Decides.{nat_tests}
use Rattle.std.proofs.lemmas.List.{length-map}
use Rattle.cb_types.specs.SizeMbs.{IsWithinLimits}
use Rattle.driver_objects.specs.Alike.{AreAlike, SharesAt, owned, owned_by}
use Rattle.driver_objects.specs.Contents.{HasContent, HasVideo}
use Rattle.driver_objects.specs.Flips.{HasSurface, IsFlip, shown_by}
use Rattle.driver_objects.specs.Listed.{IsOnly, is_at, with_content}
use Rattle.driver_objects.specs.Stored.{value_of}
use Rattle.driver_objects.specs.declared.content.Content.{Content}
use Rattle.driver_objects.specs.declared.content.Content.TheVariants as content
use Rattle.driver_objects.specs.declared.content.OutputSurface.{OutputSurface}
use Rattle.driver_objects.specs.declared.content.VideoSurface.{VideoSurface}
use Rattle.driver_objects.specs.declared.flips.Flip.{Flip}
use Rattle.driver_objects.specs.declared.object.Object.{Object}
use Rattle.driver_objects.specs.declared.stored.Stored.TheVariants.{Own}
use Rattle.driver_objects.specs.declared.ticks.Due.{Due}
use Rattle.driver_objects.proofs.Ending.{read_there}
use Rattle.driver_objects.proofs.Lists.{one_kept}
use Rattle.driver_objects.proofs.Maps.{get_map, map_get, map_set}

-- the same surface, with one owner of its pixels
abbrev pub own : OutputSurface → OutputSurface
own of = record of { pixels = Own (value_of of.pixels) }

output_is : (a b : OutputSurface) → content.Output a ≡ content.Output b → a ≡ b
output_is a b same = cc

-- ---- one content

pub alike_output : (these those : Content) (of : OutputSurface) → owned these ≡ owned those → those ≡ content.Output of → (same : OutputSurface) × (these ≡ content.Output same) × (own same ≡ own of)
alike_output (content.Device it) those of same is = absurd (let e : content.Device it ≡ content.Output (own of) = same ∙ ap owned is in cc)
alike_output (content.Video it) those of same is = absurd (let e : content.Video (record it { samples = Own (value_of it.samples) }) ≡ content.Output (own of) = same ∙ ap owned is in cc)
alike_output (content.Output it) those of same is = (it, refl, output_is (own it) (own of) (same ∙ ap owned is))
alike_output (content.Decoder it) those of same is = absurd (let e : content.Decoder it ≡ content.Output (own of) = same ∙ ap owned is in cc)
alike_output (content.Mixer it) those of same is = absurd (let e : content.Mixer it ≡ content.Output (own of) = same ∙ ap owned is in cc)
alike_output (content.Queue it) those of same is = absurd (let e : content.Queue it ≡ content.Output (own of) = same ∙ ap owned is in cc)

video_owned : (what : Content) (of : VideoSurface) → owned what ≡ content.Video of → (surface : VideoSurface) × (what ≡ content.Video surface) × (content.Video of ≡ owned (content.Video surface))
video_owned (content.Device it) of is = absurd (let e : content.Device it ≡ content.Video of = is in cc)
video_owned (content.Video it) of is = (it, refl, sym is)
video_owned (content.Output it) of is = absurd (let e : content.Output (record it { pixels = Own (value_of it.pixels) }) ≡ content.Video of = is in cc)
video_owned (content.Decoder it) of is = absurd (let e : content.Decoder it ≡ content.Video of = is in cc)
video_owned (content.Mixer it) of is = absurd (let e : content.Mixer it ≡ content.Video of = is in cc)
video_owned (content.Queue it) of is = absurd (let e : content.Queue it ≡ content.Video of = is in cc)

video_same : (a b : VideoSurface) → content.Video a ≡ content.Video b → a ≡ b
video_same a b same = cc

-- ---- lists

module _ (these those : List Object) (alike : AreAlike these those) where
  pub alike_at : (i : ℕ) (a : Object) → slice_get these i ≡ Some a → (b : Object) × (slice_get those i ≡ Some b) × (owned_by a ≡ owned_by b)
  alike_at i a at =
      let there : slice_get (map owned_by those) i ≡ Some (owned_by a) = ap (λ k. slice_get k i) (sym alike) ∙ map_get owned_by these i a at in
      let g = get_map owned_by those i (owned_by a) there in
      (g.0, g.1, sym g.2)

  -- the output surface at the same place
  pub record IsAlike (s : OutputSurface) (a b : Object) : Type 0 where
    pub surface : OutputSurface
    pub has : b.content ≡ content.Output surface
    pub pixels : own surface ≡ own s
    pub object : owned_by b ≡ owned_by a

  pub alike_there : (i : ℕ) (a b : Object) (s : OutputSurface) → slice_get these i ≡ Some a → slice_get those i ≡ Some b → a.content ≡ content.Output s → IsAlike s a b
  alike_there i a b s at there has =
      let w = alike_at i a at in
      let same : w.0 ≡ b = one_kept those i w.0 b w.1 there in
      let e : owned_by b ≡ owned_by a = ap owned_by (sym same) ∙ sym w.2 in
      let o = alike_output b.content a.content s (ap (λ (x : Object). x.content) e) has in
      record { surface = o.0; has = o.1; pixels = o.2; object = e }

  -- an output surface is one there, too
  pub surface_alike : (place : ℕ) → HasSurface these place → HasSurface those place
  surface_alike place s =
      let b = alike_at s.index s.object s.there in
      let o = alike_there s.index s.object b.0 s.surface s.there b.1 s.has in
      record {
        index = s.index;
        object = b.0;
        surface = o.surface;
        there = b.1;
        at_place = ap (λ (x : Object). x.place) o.object ∙ s.at_place;
        has = o.has;
        within = subst (λ (x : OutputSurface). IsWithinLimits x.size) (sym o.pixels) s.within;
      }

  -- and a flip to it is one there
  pub flip_alike : (time : ℕ) (due : Due) (flip : Flip) → IsFlip these time due flip → IsFlip those time due flip
  unfolding surface_alike
  flip_alike time due flip is =
      let s = is.surface in
      let b = alike_at s.index s.object s.there in
      let o = alike_there s.index s.object b.0 s.surface s.there b.1 s.has in
      record {
        surface = surface_alike due.surface s;
        tells = is.tells ∙ λ i. shown_by time due (sym o.object i) (sym o.pixels i);
      }

  pub alike_within : (i : ℕ) → i < length these → i < length those
  alike_within i within =
      let same : length these ≡ length those = sym (length-map these owned_by) ∙ (ap length alike ∙ length-map those owned_by) in
      omega (arith, same)

  -- a video surface is one there, of the same size and samples
  pub record IsAlikeVideo (i : ℕ) (a : VideoSurface) : Type 0 where
    pub surface : VideoSurface
    pub has : HasContent those i (content.Video surface)
    pub size : surface.size ≡ a.size
    pub samples : value_of surface.samples ≡ value_of a.samples

  pub alike_video : (i : ℕ) (a : VideoSurface) → HasContent these i (content.Video a) → IsAlikeVideo i a
  alike_video i a has =
      let b = alike_at i has.object has.there in
      let own_a : VideoSurface = record a { samples = Own (value_of a.samples) } in
      let is : owned b.0.content ≡ content.Video own_a = ap (λ (o : Object). o.content) (sym b.2) ∙ ap owned has.has in
      let v = video_owned b.0.content own_a is in
      let same = video_same own_a (record v.0 { samples = Own (value_of v.0.samples) }) v.2 in
      record {
        surface = v.0;
        has = record { object = b.0; there = b.1; has = v.1 };
        size = ap (λ (x : VideoSurface). x.size) (sym same);
        samples = ap (λ (x : VideoSurface). value_of x.samples) (sym same);
      }

  pub alike_has_video : (i : ℕ) → HasVideo these i → HasVideo those i
  alike_has_video i is = let v = alike_video i is.0 is.1 in (v.surface, v.has)

-- the samples of one surface came to have several owners
pub shared_alike : (old new : List Object) (index : ℕ) → SharesAt old new index → AreAlike new old
shared_alike old new index s =
    let same : owned (content.Video (record s.surface { samples = s.samples })) ≡ owned s.object.content =
    ap (λ v. content.Video (record s.surface { samples = Own v })) s.same ∙ ap owned (sym s.has) in
    ap (map owned_by) s.now ∙ map_set owned_by old index s.object _ s.there (ap (with_content s.object) same)

-- the search by a place finds the surface
pub found_there : (kept : List Object) (place : ℕ) (s : HasSurface kept place) (index : ℕ) → IsOnly (is_at place) kept (Some index) → slice_get kept index ≡ Some s.object
found_there kept place s index only =
    let at = s.at_place in
    let same : s.index ≡ index = only.1 s.index (record { object = s.object; stands = s.there; passes = grind (arith, nat_tests, at) }) in
    subst (λ i. slice_get kept i ≡ Some s.object) same s.there

-- what is read there after pixels were lent out
pub after_lent : (before after : List Object) (alike : AreAlike after before) (place : ℕ) (s : HasSurface before place) (index : ℕ) → IsOnly (is_at place) before (Some index)
    → (read : List Object) (o : Object) → index < length after → read ≡ after → o ≡ get_or read index o → IsAlike before after (sym alike) s.surface s.object o
after_lent before after alike place s index only read o within same is =
    alike_there before after (sym alike) index s.object o s.surface (found_there before place s index only) (read_there after read index o within same is) s.has
