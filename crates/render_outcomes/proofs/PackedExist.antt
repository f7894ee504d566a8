-- As many bytes as a picture has are those of a picture of its size.
use Rattle.std.proofs.Common.{◌≡◌, ℕ, zero, suc, ◌+◌, ◌*◌, Bool, true, false, cond, eqb, List, [], ◌∷◌, ◌++◌, length, take, drop, sym, refl, ap, ◌∙◌, arith}
use Rattle.std.proofs.lemmas.List.{length-drop, length-take-le, take-append-drop}
use Rattle.bits_io.specs.ByteOrder.{byte_count, bytes_of, interleaved, nv12_bytes, yv12_bytes}
use Rattle.bits_io.proofs.Counts.{byte_count-is, cr_count}
use Rattle.vd_plane.specs.Picture.{SameSize}
use Rattle.vd_plane.specs.SampleArray.{SampleArray, SameSides, array_of}
use Rattle.vd_plane.specs.declared.picture.Picture.{Picture}
use Rattle.render_outcomes.specs.Bytes.{PackedPicturesExist}
use Rattle.render_outcomes.proofs.PicturesExist.{with_planes, with_planes-parts}

-- every other element, from the first on and from the second on
firsts : List ℕ → List ℕ
firsts [] = []
firsts (x ∷ []) = x ∷ []
firsts (x ∷ (y ∷ others)) = x ∷ firsts others

seconds : List ℕ → List ℕ
seconds [] = []
seconds (x ∷ []) = []
seconds (x ∷ (y ∷ others)) = y ∷ seconds others

-- Samples of Cb and Cr, so many each, that stand in these bytes in one of the two orders.
record AreChroma (is_nv12 : Bool) (count : ℕ) (bytes cb cr : List ℕ) : Type 0 where
  of_cb : length cb ≡ count
  of_cr : length cr ≡ count
  joined : cond is_nv12 (interleaved cb cr) (cr ++ cb) ≡ bytes

taken_apart : (count : ℕ) (bytes : List ℕ) → length bytes ≡ 2 * count → AreChroma true count bytes (firsts bytes) (seconds bytes)
unfolding firsts seconds
taken_apart zero [] long = record { of_cb = refl; of_cr = refl; joined = refl }
taken_apart zero (x ∷ others) long = absurd (omega arith)
taken_apart (suc count) [] long = absurd (omega arith)
taken_apart (suc count) (x ∷ []) long = absurd (omega arith)
taken_apart (suc count) (x ∷ (y ∷ others)) long =
    let rest = taken_apart count others (omega arith) in
    record { of_cb = ap suc rest.of_cb; of_cr = ap suc rest.of_cr; joined = ap (λ l. x ∷ (y ∷ l)) rest.joined }

cut : (count : ℕ) (bytes : List ℕ) → length bytes ≡ 2 * count → AreChroma false count bytes (drop count bytes) (take count bytes)
cut count bytes long = record {
  of_cb = omega (arith, length-drop count bytes);
  of_cr = length-take-le count bytes (omega arith);
  joined = take-append-drop count bytes;
}

chroma_of : (is_nv12 : Bool) (count : ℕ) (bytes : List ℕ) → length bytes ≡ 2 * count → (cb : List ℕ) × (cr : List ℕ) × AreChroma is_nv12 count bytes cb cr
chroma_of true count bytes long = (firsts bytes, seconds bytes, taken_apart count bytes long)
chroma_of false count bytes long = (drop count bytes, take count bytes, cut count bytes long)

same_sides : (old new : SampleArray) (samples : List ℕ) → new ≡ array_of old.width old.height samples → length samples ≡ length old.samples → SameSides old new
same_sides old new samples is same = record {
  width = ap (λ (a : SampleArray). a.width) is;
  height = ap (λ (a : SampleArray). a.height) is;
  count = ap (λ (a : SampleArray). length a.samples) is ∙ same;
}

-- luma and chroma, one behind the other, in either order
joined_bytes : (is_nv12 : Bool) (y cb cr chroma bytes : List ℕ) → cond is_nv12 (interleaved cb cr) (cr ++ cb) ≡ chroma → y ++ chroma ≡ bytes
    → cond is_nv12 (y ++ interleaved cb cr) (y ++ (cr ++ cb)) ≡ bytes
joined_bytes true y cb cr chroma bytes is all = ap (λ l. y ++ l) is ∙ all
joined_bytes false y cb cr chroma bytes is all = ap (λ l. y ++ l) is ∙ all

module _ (format : ℕ) (old : Picture) (bytes : List ℕ) (long : length bytes ≡ byte_count old) where
  luma : ℕ
  luma = old.y.width * old.y.height

  chroma : ℕ
  chroma = old.cb.width * old.cb.height

  counts : length bytes ≡ luma + 2 * chroma
  unfolding luma chroma
  counts = long ∙ byte_count-is old

  long_y : length (take luma bytes) ≡ luma
  long_y = length-take-le luma bytes (omega (arith, counts))

  long_chroma : length (drop luma bytes) ≡ 2 * chroma
  long_chroma = omega (arith, counts, length-drop luma bytes)

  packed : (new : Picture) × SameSize old new × (bytes_of format new ≡ bytes)
  unfolding luma chroma
  packed =
      let y : List ℕ = take luma bytes in
      let parts = chroma_of (eqb format 0) chroma (drop luma bytes) long_chroma in
      let cb : List ℕ = parts.0 in
      let cr : List ℕ = parts.1 in
      let are = parts.2 in
      let plane = old.format in
      let same_y : length y ≡ length old.y.samples = long_y ∙ sym plane.y_plane.count in
      let same_cb : length cb ≡ length old.cb.samples = are.of_cb ∙ sym plane.cb_plane.count in
      let same_cr : length cr ≡ length old.cr.samples = are.of_cr ∙ sym (plane.cr_plane.count ∙ cr_count old) in
      let new : Picture = with_planes old y cb cr same_y same_cb same_cr in
      let is = with_planes-parts old y cb cr same_y same_cb same_cr in (
        new,
        record { y = same_sides old.y new.y y is.0 same_y; cb = same_sides old.cb new.cb cb is.1 same_cb; cr = same_sides old.cr new.cr cr is.2 same_cr },
        in_bytes (eqb format 0) new y cb cr is.0 is.1 is.2 (joined_bytes (eqb format 0) y cb cr (drop luma bytes) bytes are.joined (take-append-drop luma bytes)),
      )
    where
      in_bytes : (is_nv12 : Bool) (new : Picture) (y cb cr : List ℕ) → new.y ≡ array_of old.y.width old.y.height y → new.cb ≡ array_of old.cb.width old.cb.height cb → new.cr ≡ array_of old.cr.width old.cr.height cr
          → cond is_nv12 (y ++ interleaved cb cr) (y ++ (cr ++ cb)) ≡ bytes → cond is_nv12 (nv12_bytes new) (yv12_bytes new) ≡ bytes
      in_bytes is_nv12 new y cb cr e f g all =
          ap (λ (a : SampleArray). cond is_nv12 (a.samples ++ interleaved new.cb.samples new.cr.samples) (a.samples ++ (new.cr.samples ++ new.cb.samples))) e
          ∙ (ap (λ (a : SampleArray). cond is_nv12 (y ++ interleaved a.samples new.cr.samples) (y ++ (new.cr.samples ++ a.samples))) f
          ∙ (ap (λ (a : SampleArray). cond is_nv12 (y ++ interleaved cb a.samples) (y ++ (a.samples ++ cb))) g ∙ all))

pub packed_pictures_exist : PackedPicturesExist
packed_pictures_exist format old bytes long = packed format old bytes long
