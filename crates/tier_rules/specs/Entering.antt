-- The beginning of an access.
use Rattle.std.specs.Prelude.{ℕ, zero, suc, Bool, true, false, not, ◌==◌, ◌&&◌, Option, Some, None}
use Rattle.std.specs.Bool.{beq}
use Rattle.tier_map.specs.declared.place.Place.{Place}
use Rattle.tier_map.specs.declared.place.Place.TheVariants.{Absent, Full, Mini}
use Rattle.migration_policy.specs.declared.policy.Question.TheVariants.{NvmRead}
use Rattle.tier_rules.specs.Plans.{dram_question}
use Rattle.clock_sweep.specs.Clock.{touched}
use Rattle.tier_rules.specs.Tallies.{dram_hit, nvm_hit}
use Rattle.tier_rules.specs.State.{TierState, counting}
use Rattle.tier_rules.specs.NvmRoom.{framed}
use Rattle.tier_rules.specs.FullRoom.{Answer, draw, plain_no, answered}
use Rattle.tier_rules.specs.Bringing.{brought, brought_through, brought_past}

-- a touch of another page or kind than the open access begins a new one
abbrev pub begins : Option (ℕ × Bool) → ℕ → Bool → Bool
begins None page writes = true
begins (Some now) page writes = not (now.0 == page && beq now.1 writes)

abbrev pub brought_if : Bool → ℕ → TierState → TierState
brought_if true page s = brought page s
brought_if false page s = s

abbrev pub framed_if : Bool → ℕ → TierState → TierState
framed_if true page s = brought_through page s
framed_if false page s = framed page s

-- whether a page on SSD goes through NVM, where there is any
abbrev pub through_nvm : ℕ → TierState → Answer
through_nvm zero s = plain_no s
through_nvm (suc f) s = draw NvmRead s

abbrev pub read_in : Bool → ℕ → Bool → TierState → TierState
read_in false page writes s = brought_past page s
read_in true page writes s = let answer = draw (dram_question writes) s in framed_if answer.yes page (answered answer s)

-- by the page's DRAM copy and its NVM frame
abbrev pub entered_at : Place → Option ℕ → ℕ → Bool → TierState → TierState
entered_at (Full i) frame page writes s = counting dram_hit (record s { full_clock = touched i s.full_clock })
entered_at (Mini j) frame page writes s = counting dram_hit (record s { mini_clock = touched j s.mini_clock })
entered_at Absent (Some k) page writes s =
    let answer = draw (dram_question writes) s in
    brought_if answer.yes page (answered answer (counting nvm_hit (record s { nvm_clock = touched k s.nvm_clock })))
entered_at Absent None page writes s = let answer = through_nvm s.frames s in read_in answer.yes page writes (answered answer s)

-- The access to a page begins.
unfoldable pub entered : ℕ → Bool → TierState → TierState
entered page writes s = entered_at (s.map.place page) (s.map.nvm page) page writes (record s { access = Some (page, writes) })

abbrev pub entered_if : Bool → ℕ → Bool → TierState → TierState
entered_if true page writes s = entered page writes s
entered_if false page writes s = s

-- The access stands open: it begins here, or goes on.
unfoldable pub accessed : ℕ → Bool → TierState → TierState
accessed page writes s = entered_if (begins s.access page writes) page writes s

-- no access is open
abbrev pub rested : TierState → TierState
rested s = record s { access = None }
