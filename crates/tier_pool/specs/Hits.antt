-- A touch of a copy or of a frame, by the fields.
use Rattle.std.specs.Prelude.{ℕ}
use Rattle.clock_sweep.specs.Clock.{touched}
use Rattle.tier_rules.specs.Tallies.{dram_hit, nvm_hit}
use Rattle.tier_rules.specs.Parts.{Parts}

-- a copy is touched, and a frame
abbrev pub full_hit : ℕ → Parts → Parts
full_hit i parts = record parts { full_clock = touched i parts.full_clock; tally = dram_hit parts.tally }

abbrev pub mini_hit : ℕ → Parts → Parts
mini_hit j parts = record parts { mini_clock = touched j parts.mini_clock; tally = dram_hit parts.tally }

abbrev pub frame_hit : ℕ → Parts → Parts
frame_hit k parts = record parts { nvm_clock = touched k parts.nvm_clock; tally = nvm_hit parts.tally }
