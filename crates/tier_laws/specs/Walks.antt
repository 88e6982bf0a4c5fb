-- Runs beside what another program, written from the rules as they are told, made of them.
use Rattle.std.specs.Prelude.{◌≡◌, ℕ, Bool, List, [], ◌∷◌, map, Option}
use Rattle.std.specs.List.{range_with_len}
use Rattle.clock_sweep.specs.Clock.{Circle}
use Rattle.migration_policy.specs.Policies.{Rates}
use Rattle.tier_map.specs.declared.place.Place.{Place}
use Rattle.tier_rules.specs.declared.tally.Tally.{Tally}
use Rattle.tier_rules.specs.declared.trace.TraceLine.TheVariants.{Read, Write}
use Rattle.tier_rules.specs.Plans.{Plan}
use Rattle.tier_rules.specs.State.{TierState}
use Rattle.tier_rules.specs.Runs.{Printed, trace, tier_run}

-- where a page lies, and the lines of its copy
pub record Seen : Type 0 where
  pub place : Place
  pub nvm : Option ℕ
  pub resident : ℕ
  pub dirty : ℕ

abbrev pub seen : Place → Option ℕ → ℕ → ℕ → Seen
seen place nvm resident dirty = record { place = place; nvm = nvm; resident = resident; dirty = dirty }

-- All that a state says of its first pages. Of each frame it has the page, and whether the frame is dirty.
pub record Snapshot : Type 0 where
  pub tally : Tally
  pub drawn : ℕ
  pub queue : List ℕ
  pub pages : List Seen
  pub frames : List (Option ℕ × Bool)
  pub full_clock : Circle
  pub mini_clock : Circle
  pub nvm_clock : Circle

abbrev pub snapshot : ℕ → TierState → Snapshot
snapshot pages s = record {
  tally = s.tally;
  drawn = s.drawn;
  queue = s.queue;
  pages = map (λ page. seen (s.map.place page) (s.map.nvm page) (s.resident page) (s.dirty page)) (range_with_len 0 pages);
  frames = map (λ k. (s.map.frame_page k, s.frame_dirty k)) (range_with_len 0 s.frames);
  full_clock = s.full_clock;
  mini_clock = s.mini_clock;
  nvm_clock = s.nvm_clock;
}

-- a run over some pages, and what it ends with
pub record Walk : Type 0 where
  pub plan : Plan
  pub words : List ℕ
  pub lines : List Printed
  pub pages : ℕ
  pub end : Snapshot

abbrev pub rates : ℕ → ℕ → ℕ → ℕ → Rates
rates dr dw nr nw = record { dr = dr; dw = dw; nr = nr; nw = nw }

-- the four probabilities, the length of the queue, the seed, and the numbers of full and of mini places
abbrev pub plan : ℕ → ℕ → ℕ → ℕ → ℕ → ℕ → ℕ → ℕ → Plan
plan dr dw nr nw queue_len seed dram_frames minis = record {
  rates = rates dr dw nr nw;
  queue_len = queue_len;
  seed = seed;
  dram_frames = dram_frames;
  minis = minis;
}

-- touches of these lines of a page
abbrev pub reads : ℕ → List ℕ → List Printed
reads page lines = map (λ l. trace (Read page l)) lines

abbrev pub writes : ℕ → List ℕ → List Printed
writes page lines = map (λ l. trace (Write page l)) lines

-- the rules end where the other program ended
abbrev pub Comes : Walk → Type 0
Comes walk = snapshot walk.pages (tier_run walk.plan walk.words walk.lines) ≡ walk.end

abbrev pub AllCome : List Walk → Type 0
AllCome [] = Unit {0}
AllCome (walk ∷ walks) = Comes walk × AllCome walks
