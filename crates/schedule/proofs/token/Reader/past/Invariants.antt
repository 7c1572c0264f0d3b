use Rattle.std.proofs.Common.{◌+◌, ◌≡◌, drop}
use Rattle.schedule.specs.Tokens.{span}
use Rattle.schedule.specs.Results.{run_number}
use Rattle.schedule.proofs.token.Reader.past.Given as goal

abbrev pub invariant-loop-end : goal.invariant-loop-end
invariant-loop-end l =
    let kind = run_number l.run in
    l.end + span kind (drop l.end l.self.text.now) ≡ l.at + span kind (drop l.at l.self.text.now)
