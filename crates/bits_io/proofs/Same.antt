-- Pictures of one size with the same bytes have the same samples.
use Rattle.std.proofs.Common.{◌≡◌, ℕ, List, [], ◌∷◌, ◌++◌, length, take, drop, Bool, true, false, cond, eqb, sym, refl, ap, ◌∙◌, arith}
use Rattle.std.proofs.lemmas.List.{take_at, drop_at, nil_from_length}
use Rattle.bits_io.proofs.Counts.{cr_count}
use Rattle.bits_io.specs.ByteOrder.{interleaved, nv12_bytes, yv12_bytes}
use Rattle.bits_io.specs.Laws.{PutAfterGet}
use Rattle.vd_plane.proofs.Samples.{same_parts}
use Rattle.vd_plane.specs.Picture.{SameSamples, SameSize}
use Rattle.vd_plane.specs.SampleArray.{SampleArray, SameSides}
use Rattle.vd_plane.specs.declared.picture.Picture.{Picture}

-- two lists that begin with as many elements
front : (a b c d : List ℕ) → length a ≡ length c → a ++ b ≡ c ++ d → a ≡ c
front a b c d same e = sym (take_at a b (length a) refl) ∙ (ap (take (length a)) e ∙ take_at c d (length a) (sym same))

back : (a b c d : List ℕ) → length a ≡ length c → a ++ b ≡ c ++ d → b ≡ d
back a b c d same e = sym (drop_at a b (length a) refl) ∙ (ap (drop (length a)) e ∙ drop_at c d (length a) (sym same))

-- lists that are the same in turn are the same
apart : (a b c d : List ℕ) → length b ≡ length a → length c ≡ length a → length d ≡ length a → interleaved a b ≡ interleaved c d → (a ≡ c) × (b ≡ d)
apart [] b c d lb lc ld e = (sym (nil_from_length c lc), nil_from_length b lb ∙ sym (nil_from_length d ld))
apart (x ∷ a) [] c d lb lc ld e = absurd (omega arith)
apart (x ∷ a) (y ∷ b) [] d lb lc ld e = absurd (omega arith)
apart (x ∷ a) (y ∷ b) (z ∷ c) [] lb lc ld e = absurd (omega arith)
apart (x ∷ a) (y ∷ b) (z ∷ c) (w ∷ d) lb lc ld e =
    let tails : interleaved a b ≡ interleaved c d = cc in
    let rest : (a ≡ c) × (b ≡ d) = apart a b c d (omega arith) (omega arith) (omega arith) tails in
    (cc, cc)

-- the sides of an array through two steps, with the same samples
same_array : (a b c : SampleArray) → SameSides a b → SameSides b c → a.samples ≡ c.samples → a ≡ c
same_array a b c first second samples = same_parts a.width c.width a.height c.height a.samples c.samples (sym (second.width ∙ first.width)) (sym (second.height ∙ first.height)) samples

same_counts : (a b c : SampleArray) → SameSides a b → SameSides b c → length a.samples ≡ length c.samples
same_counts a b c first second = sym (second.count ∙ first.count)

same_chroma : (p : Picture) → length p.cr.samples ≡ length p.cb.samples
same_chroma p = p.format.cr_plane.count ∙ (cr_count p ∙ sym p.format.cb_plane.count)

module _ (source old new : Picture) (same : SameSize source old) (kept : SameSize old new) where
  y_count : length source.y.samples ≡ length new.y.samples
  y_count = same_counts source.y old.y new.y same.y kept.y

  cb_count : length source.cb.samples ≡ length new.cb.samples
  cb_count = same_counts source.cb old.cb new.cb same.cb kept.cb

  from_lists : source.y.samples ≡ new.y.samples → source.cb.samples ≡ new.cb.samples → source.cr.samples ≡ new.cr.samples → SameSamples source new
  from_lists y cb cr = record {
    y = same_array source.y old.y new.y same.y kept.y y;
    cb = same_array source.cb old.cb new.cb same.cb kept.cb cb;
    cr = same_array source.cr old.cr new.cr same.cr kept.cr cr;
  }

  same_from_nv12 : nv12_bytes source ≡ nv12_bytes new → SameSamples source new
  same_from_nv12 e =
      let y = front source.y.samples (interleaved source.cb.samples source.cr.samples) new.y.samples (interleaved new.cb.samples new.cr.samples) y_count e in
      let turns = back source.y.samples (interleaved source.cb.samples source.cr.samples) new.y.samples (interleaved new.cb.samples new.cr.samples) y_count e in
      let chroma = apart source.cb.samples source.cr.samples new.cb.samples new.cr.samples (same_chroma source) (sym cb_count) (same_chroma new ∙ sym cb_count) turns in
      from_lists y chroma.0 chroma.1

  same_from_yv12 : yv12_bytes source ≡ yv12_bytes new → SameSamples source new
  same_from_yv12 e =
      let y = front source.y.samples (source.cr.samples ++ source.cb.samples) new.y.samples (new.cr.samples ++ new.cb.samples) y_count e in
      let planes = back source.y.samples (source.cr.samples ++ source.cb.samples) new.y.samples (new.cr.samples ++ new.cb.samples) y_count e in
      let cr_count = same_counts source.cr old.cr new.cr same.cr kept.cr in
      from_lists y (back source.cr.samples source.cb.samples new.cr.samples new.cb.samples cr_count planes) (front source.cr.samples source.cb.samples new.cr.samples new.cb.samples cr_count planes)

  same_from_either : (is_nv12 : Bool) → cond is_nv12 (nv12_bytes source) (yv12_bytes source) ≡ cond is_nv12 (nv12_bytes new) (yv12_bytes new) → SameSamples source new
  same_from_either true e = same_from_nv12 e
  same_from_either false e = same_from_yv12 e

pub put_after_get : PutAfterGet
put_after_get format source old new bytes read same kept written = same_from_either source old new same kept (eqb format 0) (sym (written ∙ read))
