-- Samples made from others that stand in a slice.
use Rattle.std.specs.Prelude.{ℕ, ◌+◌, ◌-◌, ◌*◌, ◌/◌, min, List, slice_index}
use Rattle.inter_pred.specs.Chroma.{eighth}
use Rattle.inter_pred.specs.Luma.{half}

-- the half sample from six that stand so far apart, from place k on
abbrev pub half_in : List ℕ → ℕ → ℕ → ℕ
half_in samples step k = half (slice_index samples k) (slice_index samples (k + step)) (slice_index samples (k + 2 * step)) (slice_index samples (k + 3 * step)) (slice_index samples (k + 4 * step)) (slice_index samples (k + 5 * step))

-- the sum of six taps, raised by 2,560, so that it is never negative
abbrev pub raised : ℕ → ℕ → ℕ → ℕ → ℕ → ℕ → ℕ
raised e f g h i j = e + j + 20 * (g + h) + 2560 - 5 * (f + i)

-- the same of six samples that stand so far apart, from place k on
abbrev pub raised_in : List ℕ → ℕ → ℕ → ℕ
raised_in samples step k = raised (slice_index samples k) (slice_index samples (k + step)) (slice_index samples (k + 2 * step)) (slice_index samples (k + 3 * step)) (slice_index samples (k + 4 * step)) (slice_index samples (k + 5 * step))

-- the sample from six sums that were raised, which is kept from going below zero by 720 * 1,024: the raised sums have 32 * 2,560 too much,
-- and 512 rounds
abbrev pub centre : ℕ → ℕ → ℕ → ℕ → ℕ → ℕ → ℕ
centre e f g h i j = min ((e + j + 20 * (g + h) + 655872 - 5 * (f + i)) / 1024 - 720) 255

abbrev pub centre_in : List ℕ → ℕ → ℕ → ℕ
centre_in sums step k = centre (slice_index sums k) (slice_index sums (k + step)) (slice_index sums (k + 2 * step)) (slice_index sums (k + 3 * step)) (slice_index sums (k + 4 * step)) (slice_index sums (k + 5 * step))

-- the chroma sample between four of an upper and a lower row, from place k on
abbrev pub eighth_in : ℕ → ℕ → List ℕ → List ℕ → ℕ → ℕ
eighth_in right below upper lower k = eighth right below (slice_index upper k) (slice_index upper (k + 1)) (slice_index lower k) (slice_index lower (k + 1))
