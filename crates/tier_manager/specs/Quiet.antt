-- When a touch of a line changes no placement and stores nothing to NVM.
use Rattle.std.specs.Prelude.{ℕ, Bool}
use Rattle.page_frame.specs.Frames.{resident_lines}
use Rattle.tier_rules.specs.Parts.{Parts, copy_at}
use Rattle.tier_rules.specs.Quiet.{quiet_at}
use Rattle.tier_manager.specs.declared.tiers.Tiers.{Tiers}
use Rattle.tier_manager.specs.Fields.{parts_of}

abbrev pub quiet_in : Parts → ℕ → ℕ → Bool
quiet_in parts page line =
    let place = parts.map.place page in
    quiet_at place (resident_lines (copy_at place parts.arena parts.minis)) line

-- what `quiet` answers
abbrev pub is_quiet : Tiers → ℕ → ℕ → Bool
is_quiet t page line = quiet_in (parts_of t) page line
