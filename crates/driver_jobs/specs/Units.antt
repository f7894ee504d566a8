-- How many slice units bytes have.
use Rattle.std.specs.Prelude.{◌≡◌, ℕ, List, length, Option}
use Rattle.decoder_render.specs.Submission.{ArePayloads}

-- The bytes are a byte stream with so many units (H.264, Annex B).
abbrev pub HasUnits : List ℕ → ℕ → Type 0
HasUnits bytes count = (payloads : List (Option (List ℕ))) × ArePayloads bytes payloads × (count ≡ length payloads)
