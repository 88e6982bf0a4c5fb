-- One name for all definitions of the tiers: what says `unfolding rules` computes with each of them.
use Rattle.std.specs.Prelude.{ℕ}
use Rattle.rand_core.specs.Pcg32Seed.{pcg32_seed}
use Rattle.rand_core.specs.Steps.{word_bytes, u32_at}
use Rattle.rand_pcg.specs.Lcg.{state_after}
use Rattle.page_frame.specs.LineSets.{count_below, line_count}
use Rattle.page_frame.specs.Frames.{resident_lines}
use Rattle.clock_sweep.specs.Clock.{lowest_empty, first_cut, victim}
use Rattle.migration_policy.specs.Draws.{generator, generator_after, word}
use Rattle.migration_policy.specs.Admission.{asked}
use Rattle.tier_rules.specs.NvmRoom.{room_in_nvm, installed, framed}
use Rattle.tier_rules.specs.FullRoom.{admission, moved_down, room_in_full}
use Rattle.tier_rules.specs.Bringing.{fetched, room_in_mini, room_in_dram, copied, brought, brought_through, brought_past}
use Rattle.tier_rules.specs.Entering.{entered, accessed}
use Rattle.tier_rules.specs.Touching.{outgrown, made_ready, marked}
use Rattle.tier_rules.specs.Step.{ready_step, tier_step}
use Rattle.tier_rules.specs.Cleaning.{pages_in_dram, dirty_pages, cleaned, all_cleaned, clean, settled}
use Rattle.tier_rules.specs.Opening.{opened}
use Rattle.tier_rules.specs.Runs.{traced, after_line, after_lines, tier_run}

unfoldable pub rules : ℕ
unfolding pcg32_seed word_bytes u32_at state_after count_below line_count resident_lines lowest_empty first_cut victim generator generator_after word asked room_in_nvm installed framed admission moved_down room_in_full fetched room_in_mini room_in_dram copied brought brought_through brought_past entered accessed outgrown made_ready marked ready_step tier_step pages_in_dram dirty_pages cleaned all_cleaned clean settled opened traced after_line after_lines tier_run
rules = 0
