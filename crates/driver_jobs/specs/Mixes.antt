-- What a contract sees of a mix, and what is done when it was run.
use Rattle.std.specs.Prelude.{◌≡◌, ℕ, List, ℤ}
use Rattle.std.specs.Arc.{arc_value}
use Rattle.cb_types.specs.declared.size.SizeMbs.{SizeMbs}
use Rattle.mixer.specs.Mixed.{IsMixed}
use Rattle.vd_plane.specs.declared.picture.Picture.{Picture}
use Rattle.driver_jobs.specs.declared.mixes.CoreMix.{CoreMix}
use Rattle.driver_jobs.specs.declared.mixes.CoreMixDone.{CoreMixDone}

abbrev pub number_of : CoreMix → ℕ
number_of job = job.number

abbrev pub size_of : CoreMix → SizeMbs
size_of job = job.size

-- the picture that it mixes
abbrev pub picture_of : CoreMix → Picture
picture_of job = arc_value job.picture

abbrev pub matrix_of : CoreMix → List ℤ
matrix_of job = job.matrix

abbrev pub format_of : CoreMix → ℕ
format_of job = job.format

-- the bytes whose memory it holds
abbrev pub held_by : CoreMix → List ℕ
held_by job = job.pixels.items

abbrev pub done_number : CoreMixDone → ℕ
done_number done = done.number

abbrev pub done_size : CoreMixDone → SizeMbs
done_size done = done.size

abbrev pub pixels_of : CoreMixDone → List ℕ
pixels_of done = done.pixels.items

-- It has the job's number and size, and the bytes are the picture's pixels by the job's matrix, in its format.
pub record IsDoneOf (job : CoreMix) (done : CoreMixDone) : Type 0 where
  pub number : done_number done ≡ number_of job
  pub size : done_size done ≡ size_of job
  pub pixels : IsMixed (picture_of job) (matrix_of job) (format_of job) (pixels_of done)
