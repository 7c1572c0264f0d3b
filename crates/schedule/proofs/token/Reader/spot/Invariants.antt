use Rattle.std.proofs.Common.{◌≡◌, ◌+◌, ◌≤◌, drop}
use Rattle.schedule.specs.Saying.{spot_after, spot_of}
use Rattle.schedule.proofs.token.Reader.spot.Given as goal

abbrev pub invariant-loop-byte : goal.invariant-loop-byte
invariant-loop-byte l =
    (spot_after l.spot (drop l.byte-index l.byte-items) ≡ spot_of l.self.text.now l.self.at) ×
    (l.spot.line ≤ l.byte-index + 1) × (l.spot.column ≤ l.byte-index + 1)
