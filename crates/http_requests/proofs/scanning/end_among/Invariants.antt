use Rattle.std.proofs.Common.{◌≡◌, ℕ, ◌+◌, ◌<◌, ◌⊎◌, false, slice_index}
use Rattle.std.specs.Int.{bit_at}
use Rattle.http_requests.specs.Scanning.{ends_at}
use Rattle.http_requests.proofs.scanning.end_among.Given as goal

-- the marks are line feeds, and each line feed is still marked, or no block ends with it
abbrev pub invariant-loop-left : goal.invariant-loop-left
invariant-loop-left l = record {
  feeds : (k : ℕ) → k < 64 → bit_at l.left k ≡ 1 → slice_index l.s (l.at + k) ≡ 10;
  each : (k : ℕ) → k < 64 → slice_index l.s (l.at + k) ≡ 10 → (bit_at l.left k ≡ 1) ⊎ (ends_at l.s (l.at + k + 1) ≡ false);
}

abbrev pub decreases-loop-left : goal.decreases-loop-left
decreases-loop-left l = l.left
