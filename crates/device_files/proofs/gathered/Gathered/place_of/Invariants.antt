-- None of the lines so far is it.
use Rattle.std.proofs.Common.{◌≢◌, ℕ, ◌<◌, get_or}
use Rattle.device_files.specs.PlacedLines.{no_place}
use Rattle.device_files.proofs.gathered.Gathered.place_of.Given as goal

abbrev pub invariant-places : goal.invariant-places
invariant-places l = (i : ℕ) → i < l.at → (get_or l.self.lines i no_place).line ≢ l.line
