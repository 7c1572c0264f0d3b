-- What is left to seek, in this word from this bit on and in the words after it, comes to what the whole does. Assumes nothing.
use Rattle.std.proofs.Common.{◌≡◌, ◌+◌, ◌-◌, ◌*◌, ◌<◌, ◌≤◌}
use Rattle.bits.specs.Seek.{seek}
use Rattle.hall.specs.Index.{bit_in}
use Rattle.hall.proofs.display.next.Given as goal

abbrev pub invariant-loop-k : goal.invariant-loop-k
invariant-loop-k l = record {
  left : seek (bit_in l.index) l.from (256 - l.from) ≡ seek (bit_in l.index) (64 * l.k + l.bit) (256 - (64 * l.k + l.bit));
  in_word : l.bit < 64;
  within : 64 * l.k + l.bit ≤ 256;
}
