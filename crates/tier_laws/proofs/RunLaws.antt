-- Whole runs keep what holds in every state.
use Rattle.std.proofs.Common.{ℕ, ◌<◌, ◌≤◌, Bool, List, [], ◌∷◌, length, take, pred}
use Rattle.std.specs.Prelude.{Option, Some, None}
use Rattle.tier_rules.specs.declared.trace.TraceLine.{TraceLine}
use Rattle.tier_rules.specs.declared.trace.TraceLine.TheVariants.{Read, Write, Settle, Clean, LogReads}
use Rattle.tier_rules.specs.Plans.{Plan}
use Rattle.migration_policy.specs.Policies.{Rates}
use Rattle.tier_rules.specs.State.{TierState}
use Rattle.tier_rules.specs.Sound.{Sound}
use Rattle.tier_rules.specs.Entering.{rested}
use Rattle.tier_rules.specs.Cleaning.{written, cleaned, all_cleaned, clean, settled}
use Rattle.tier_rules.specs.Opening.{IsTable, opened}
use Rattle.tier_rules.specs.Runs.{read_of, write_of, traced, Printed, trace, reply, epoch, with_rates, after_line, after_lines, tier_run}
use Rattle.tier_laws.proofs.OpenLaws.{opened-sound}
use Rattle.tier_laws.proofs.StepLaws.{with_access}
use Rattle.tier_laws.proofs.TouchLaws.{tier_step-sound}

written-sound : (o : Option ℕ) (dirty : Bool) (s : TierState) → Sound s → Sound (written o dirty s)
written-sound None dirty s h = record {
  held = h.held;
  full_clock = h.full_clock;
  mini_clock = h.mini_clock;
  nvm_clock = h.nvm_clock;
  some_full = h.some_full;
  some_mini = h.some_mini;
  some_frame = h.some_frame;
}
written-sound (Some k) dirty s h = record {
  held = h.held;
  full_clock = h.full_clock;
  mini_clock = h.mini_clock;
  nvm_clock = h.nvm_clock;
  some_full = h.some_full;
  some_mini = h.some_mini;
  some_frame = h.some_frame;
}

cleaned-sound : (p : ℕ) (s : TierState) → Sound s → Sound (cleaned p s)
unfolding cleaned
cleaned-sound p s h =
    let w = written-sound (s.map.nvm p) _ (record s { dirty = _ }) (record {
      held = h.held;
      full_clock = h.full_clock;
      mini_clock = h.mini_clock;
      nvm_clock = h.nvm_clock;
      some_full = h.some_full;
      some_mini = h.some_mini;
      some_frame = h.some_frame;
    }) in
    record {
      held = w.held;
      full_clock = w.full_clock;
      mini_clock = w.mini_clock;
      nvm_clock = w.nvm_clock;
      some_full = w.some_full;
      some_mini = w.some_mini;
      some_frame = w.some_frame;
    }

all_cleaned-sound : (ps : List ℕ) (s : TierState) → Sound s → Sound (all_cleaned ps s)
unfolding all_cleaned
all_cleaned-sound [] s h = h
all_cleaned-sound (p ∷ ps) s h = all_cleaned-sound ps (cleaned p s) (cleaned-sound p s h)

pub clean-sound : (n : ℕ) (s : TierState) → Sound s → Sound (clean n s)
unfolding clean
clean-sound n s h = all_cleaned-sound _ s h

pub settled-sound : (s : TierState) → Sound s → Sound (settled s)
unfolding settled
settled-sound s h = all_cleaned-sound _ s h

-- each touched line is a line of a page
abbrev pub InRange : TraceLine → Type 0
InRange (Read page l) = l < 64
InRange (Write page l) = l < 64
InRange Settle = Unit {0}
InRange (Clean n) = Unit {0}
InRange (LogReads n) = Unit {0}

abbrev pub AllInRange : List Printed → Type 0
AllInRange [] = Unit {0}
AllInRange (trace line ∷ lines) = InRange line × AllInRange lines
AllInRange (reply ∷ lines) = AllInRange lines
AllInRange (epoch rates ∷ lines) = AllInRange lines

pub traced-sound : (line : TraceLine) (s : TierState) → InRange line → Sound s → Sound (traced line s)
unfolding traced
traced-sound (Read page l) s h sound = tier_step-sound (read_of page l) s h sound
traced-sound (Write page l) s h sound = tier_step-sound (write_of page l) s h sound
traced-sound Settle s h sound = settled-sound s sound
traced-sound (Clean n) s h sound = clean-sound n s sound
traced-sound (LogReads n) s h sound = record {
  held = sound.held;
  full_clock = sound.full_clock;
  mini_clock = sound.mini_clock;
  nvm_clock = sound.nvm_clock;
  some_full = sound.some_full;
  some_mini = sound.some_mini;
  some_frame = sound.some_frame;
}

pub with_rates-sound : (rates : Rates) (s : TierState) → Sound s → Sound (with_rates rates s)
with_rates-sound rates s h = record {
  held = h.held;
  full_clock = h.full_clock;
  mini_clock = h.mini_clock;
  nvm_clock = h.nvm_clock;
  some_full = h.some_full;
  some_mini = h.some_mini;
  some_frame = h.some_frame;
}

after_lines-sound : (lines : List Printed) (s : TierState) → AllInRange lines → Sound s → Sound (after_lines lines s)
unfolding after_lines after_line
after_lines-sound [] s h sound = sound
after_lines-sound (trace line ∷ lines) s h sound = after_lines-sound lines (traced line s) h.1 (traced-sound line s h.0 sound)
after_lines-sound (reply ∷ lines) s h sound = after_lines-sound lines (rested s) h (with_access s None sound)
after_lines-sound (epoch rates ∷ lines) s h sound = after_lines-sound lines (with_rates rates s) h (with_rates-sound rates s sound)

-- every state of a run is sound
pub tier_run-sound : (plan : Plan) (words : List ℕ) (lines : List Printed) → 1 ≤ plan.dram_frames → IsTable (take (pred (length words)) words) → AllInRange lines → Sound (tier_run plan words lines)
unfolding tier_run
tier_run-sound plan words lines some table h = after_lines-sound lines (opened plan words) h (opened-sound plan words some table)
