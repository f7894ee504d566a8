use Rattle.std.proofs.Common.{◌≡◌, ◌<◌, ℕ, length}
use Rattle.decoder_render.specs.Submission.{IsPayload, bytes_of, payload_at}
use Rattle.decoder_render.proofs.submission.payloads.Given as goal

abbrev pub invariant-loop-number : goal.invariant-loop-number
invariant-loop-number l =
    record {
      count : length l.payloads.items ≡ l.number;
      each : (k : ℕ) → k < l.number → IsPayload l.text l.places.units.items l.places.broken k (payload_at (bytes_of l.payloads.items) k);
    }
