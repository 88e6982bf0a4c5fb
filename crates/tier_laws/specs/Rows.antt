-- Worked examples of the rules, and of what they stand on.
use Rattle.std.specs.Prelude.{codes, ◌≡◌, ℕ, zero, suc, ◌+◌, ◌*◌, ◌^◌, Bool, true, false, List, [], ◌∷◌, map, Some, None}
use Rattle.std.specs.List.{concat}
use Rattle.texts.specs.Lines.{ended}
use Rattle.nvm_model.specs.declared.line.Line.{Line}
use Rattle.page_frame.specs.Frames.{resident_lines}
use Rattle.mini_page.specs.MiniPages.{MiniPage, empty_mini, added, changed_line, is_full}
use Rattle.clock_sweep.specs.declared.clock.Slot.TheVariants.{Empty, Clear, Set}
use Rattle.clock_sweep.specs.Clock.{victim, new_clock, inserted, touched}
use Rattle.migration_policy.specs.Draws.{word}
use Rattle.migration_policy.specs.Admission.{is_queued, asked}
use Rattle.tier_map.specs.declared.place.Place.TheVariants.{Absent, Full, Mini}
use Rattle.tier_rules.specs.declared.tally.Tally.{Tally}
use Rattle.tier_rules.specs.declared.trace.TraceLine.TheVariants.{Read, Write, Settle, Clean, LogReads}
use Rattle.tier_rules.specs.Plans.{Plan}
use Rattle.tier_rules.specs.Tallies.{zero_tally}
use Rattle.tier_rules.specs.State.{TierState}
use Rattle.tier_rules.specs.Runs.{Printed, trace, reply, epoch, tier_run}
use Rattle.tier_rules.specs.Printing.{printed}
use Rattle.tier_rules.specs.Texts.{tally_text, trace_text}
use Rattle.tier_laws.specs.Walks.{plan, rates}

-- what the queue answers to these pages, one after another
abbrev pub answers : ℕ → List ℕ → List ℕ → List Bool
answers len [] queue = []
answers len (page ∷ pages) queue = is_queued page queue ∷ answers len pages (asked len page queue)

-- the tally of a run
abbrev pub counted : Plan → List ℕ → List Printed → Tally
counted p words lines = (tier_run p words lines).tally

-- four empty NVM frames
abbrev pub four : List ℕ
four = 0 ∷ 0 ∷ 0 ∷ 0 ∷ 0 ∷ []

-- two look-ups of an unknown name
abbrev pub twice : List Printed
twice = trace (Read 0 0) ∷ reply ∷ trace (Read 0 0) ∷ reply ∷ []

-- an access of one touch, with its reply
abbrev pub read : ℕ → ℕ → List Printed → List Printed
read page l lines = trace (Read page l) ∷ reply ∷ lines

abbrev pub write : ℕ → ℕ → List Printed → List Printed
write page l lines = trace (Write page l) ∷ reply ∷ lines

-- writes of n lines of page 0, from line l on
abbrev pub writes_from : ℕ → ℕ → List Printed → List Printed
writes_from l zero lines = lines
writes_from l (suc n) lines = trace (Write 0 l) ∷ writes_from (l + 1) n lines

-- Page 9 stands in the one full place without a frame. Page 0 has a mini copy with 16 dirty lines over the one frame.
abbrev pub crowded : ℕ → List Printed → TierState
crowded nw lines = tier_run (plan 1000 1000 0 1000 0 1 1 1) (0 ∷ 0 ∷ []) (write 9 0 (epoch (rates 1000 1000 1000 nw) ∷ writes_from 0 16 lines))

abbrev pub value : ℕ → Line
value n = record { words = n ∷ 0 ∷ 0 ∷ 0 ∷ 0 ∷ 0 ∷ 0 ∷ 0 ∷ [] }

abbrev pub with_lines : ℕ → ℕ → MiniPage → MiniPage
with_lines l zero mini = mini
with_lines l (suc n) mini = with_lines (l + 1) n (added l (value l) mini)

-- Worked examples, each of which comes out by computing.
pub record WorkedRows : Type 0 where
  -- draws:
  -- the first words of the generator of seed 0, as one number of 64 bits
  pub first_words : word 0 0 + word 0 1 * 2 ^ 32 ≡ 18195738587432868099
  -- the admission queue:
  pub queue_of_two : answers 2 (5 ∷ 5 ∷ 5 ∷ 6 ∷ 7 ∷ 5 ∷ 7 ∷ []) [] ≡ false ∷ true ∷ false ∷ false ∷ false ∷ false ∷ true ∷ []
  -- the clock:
  pub three_set : victim (inserted 2 (inserted 1 (inserted 0 (new_clock 3))))
      ≡ Some (record { place = 0; steps = 4; clock = (1, Clear) ∷ (2, Clear) ∷ (0, Empty) ∷ [] })
  pub touched_once : victim (touched 1 ((1, Clear) ∷ (2, Clear) ∷ (0, Empty) ∷ []))
      ≡ Some (record { place = 2; steps = 2; clock = (0, Empty) ∷ (1, Clear) ∷ (2, Empty) ∷ [] })
  -- whole runs:
  -- nothing is asked
  pub empty_run : counted (plan 10 10 500 1000 0 1 8 0) (0 ∷ []) [] ≡ zero_tally
  -- a look-up of an unknown name
  pub one_lookup : counted (plan 10 10 500 1000 0 1 8 0) (0 ∷ []) (trace (Read 0 0) ∷ reply ∷ [])
      ≡ record zero_tally { fetches = 1 }
  -- one full frame and no NVM frame: a look-up reads the catalog and one leaf
  pub one_frame : counted (plan 10 10 500 1000 0 1 1 0) (0 ∷ [])
      (trace (Read 0 0) ∷ trace (Read 0 2) ∷ trace (Read 1 0) ∷ trace (Read 1 1) ∷ trace (Read 1 63) ∷ reply ∷ [])
      ≡ record zero_tally { fetches = 2; dram_evictions = 1 }
  -- each page goes through NVM to DRAM
  pub two_lookups : counted (plan 1000 10 1000 1000 0 1 8 0) four twice
      ≡ record zero_tally { dram_hits = 1; fetches = 1; nvm_installs = 1; dram_loads = 1; lines = 1 }
  -- the same with mini pages
  pub two_lookups_mini : counted (plan 1000 10 1000 1000 0 1 8 2) four twice
      ≡ record zero_tally { dram_hits = 1; fetches = 1; nvm_installs = 1; dram_loads = 1; lines = 1 }
  -- a page stays in NVM and is used in place
  pub in_place : counted (plan 0 10 1000 1000 0 1 8 0) four twice
      ≡ record zero_tally { nvm_hits = 1; fetches = 1; nvm_installs = 1 }
  -- opened again, the page is there
  pub in_place_again : counted (plan 0 10 1000 1000 0 1 8 0) (1 ∷ 0 ∷ 0 ∷ 0 ∷ 0 ∷ []) (trace (Read 0 0) ∷ reply ∷ [])
      ≡ record zero_tally { nvm_hits = 1 }
  -- what becomes of the page that leaves a full place:
  -- it has an NVM frame: its dirty line goes back there, and the frame is dirty
  pub leaves_over_frame : let s = tier_run (plan 1000 1000 1000 1000 0 1 1 0) (0 ∷ 0 ∷ 0 ∷ []) (read 0 0 (write 0 3 (read 1 7 []))) in
      (s.tally ≡ record zero_tally { dram_hits = 1; fetches = 2; nvm_installs = 2; dram_loads = 2; lines = 3; dram_evictions = 1 })
      × (s.map.place 0 ≡ Absent) × (s.map.nvm 0 ≡ Some 0) × (s.frame_dirty 0 ≡ true)
      × (s.map.place 1 ≡ Full 0) × (s.map.nvm 1 ≡ Some 1) × (s.frame_dirty 1 ≡ false) × (s.drawn ≡ 4)
  -- it is dirty and admitted: it gets a frame, which is dirty
  pub leaves_admitted : let s = tier_run (plan 1000 1000 0 1000 0 1 1 0) (0 ∷ 0 ∷ []) (write 0 0 (read 1 0 [])) in
      (s.tally ≡ record zero_tally { fetches = 2; nvm_installs = 1; dram_evictions = 1 })
      × (s.map.nvm 0 ≡ Some 0) × (s.frame_dirty 0 ≡ true) × (s.map.place 1 ≡ Full 0) × (s.drawn ≡ 3)
  -- it is dirty and not admitted: it passes through
  pub leaves_passing : let s = tier_run (plan 1000 1000 0 0 0 1 1 0) (0 ∷ 0 ∷ []) (write 0 0 (read 1 0 [])) in
      (s.tally ≡ record zero_tally { fetches = 2; dram_evictions = 1; passes = 1 }) × (s.map.nvm 0 ≡ None)
      × (s.drawn ≡ 3)
  -- it is clean: it is dropped, and no word is drawn for it
  pub leaves_clean : let s = tier_run (plan 1000 1000 0 1000 0 1 1 0) (0 ∷ 0 ∷ []) (read 0 0 (read 1 0 [])) in
      (s.tally ≡ record zero_tally { fetches = 2; dram_evictions = 1 }) × (s.map.nvm 0 ≡ None)
      × (s.drawn ≡ 2)
  -- with a queue a clean page is asked for too: it is admitted when it leaves for the second time
  pub leaves_queued : let s = tier_run (plan 1000 1000 0 0 2 1 1 0) (0 ∷ 0 ∷ []) (read 0 0 (read 1 0 (read 0 0 (read 1 0 [])))) in
      (s.tally ≡ record zero_tally { fetches = 4; nvm_installs = 1; dram_evictions = 3 })
      × (s.map.nvm 0 ≡ Some 0) × (s.frame_dirty 0 ≡ false) × (s.queue ≡ 1 ∷ []) × (s.drawn ≡ 4)
  -- what stands over a frame that is released:
  -- its dirty line is stored back, and the copy is dropped from the clock of the full places
  pub over_victim : let s = tier_run (plan 1000 1000 1000 1000 0 1 2 0) (0 ∷ 0 ∷ []) (write 0 5 (read 1 0 [])) in
      (s.tally ≡ record zero_tally { fetches = 2; nvm_installs = 2; dram_loads = 2; lines = 2; nvm_evictions = 1 })
      × (s.map.place 0 ≡ Absent) × (s.map.nvm 0 ≡ None) × (s.map.frame_page 0 ≡ Some 1)
      × (s.map.place 1 ≡ Full 1)
      × (s.full_clock ≡ (0, Empty) ∷ (1, Set) ∷ []) × (s.frame_dirty 0 ≡ false)
  -- promotion:
  pub before_promotion : let s = crowded 0 [] in
      (s.tally ≡ record zero_tally { fetches = 2; nvm_installs = 1; dram_loads = 1; lines = 16 })
      × (s.map.place 0 ≡ Mini 0) × (s.resident 0 ≡ 65535) × (s.dirty 0 ≡ 65535)
  -- page 9 passes through, and the lines of page 0 move to the full place
  pub promotion : let s = crowded 0 (trace (Write 0 40) ∷ []) in
      (s.tally ≡ record zero_tally { fetches = 2; nvm_installs = 1; dram_loads = 1; lines = 17; promotions = 1; dram_evictions = 1; passes = 1 })
      × (s.map.place 0 ≡ Full 0) × (s.resident 0 ≡ 65535 + 2 ^ 40) × (s.dirty 0 ≡ 65535 + 2 ^ 40)
      × (s.mini_clock ≡ (0, Empty) ∷ []) × (s.map.mini_owner 0 ≡ None) × (s.map.nvm 0 ≡ Some 0)
  -- page 9 takes the frame of page 0, which is fetched again: each line is there, and only the new one is dirty
  pub promotion_frame_lost : let s = crowded 1000 (trace (Write 0 40) ∷ []) in
      (s.tally ≡ record zero_tally { fetches = 3; nvm_installs = 2; dram_loads = 1; lines = 16; dram_evictions = 1; nvm_evictions = 1 })
      × (s.map.place 0 ≡ Full 0) × (s.map.nvm 0 ≡ None) × (s.map.nvm 9 ≡ Some 0) × (s.frame_dirty 0 ≡ true)
      × (s.resident 0 ≡ 18446744073709551615) × (s.dirty 0 ≡ 2 ^ 40) × (s.mini_clock ≡ (0, Empty) ∷ [])
  -- There a further write of line 0 in the same access, which the trace does not print again, makes line 0 dirty
  -- again, and changes nothing else.
  pub touched_again : let s = crowded 1000 (trace (Write 0 40) ∷ trace (Write 0 0) ∷ []) in
      (s.dirty 0 ≡ 1 + 2 ^ 40)
      × (s.tally ≡ record zero_tally { fetches = 3; nvm_installs = 2; dram_loads = 1; lines = 16; dram_evictions = 1; nvm_evictions = 1 })
  -- cleaning:
  -- the full copy of page 9 passes through, and the mini copy of page 0 is stored back; each stays
  pub cleaned_one : let s = crowded 0 (reply ∷ trace (Clean 1) ∷ []) in
      (s.tally ≡ record zero_tally { fetches = 2; nvm_installs = 1; dram_loads = 1; lines = 16; passes = 1; cleaned = 1 })
      × (s.dirty 9 ≡ 0) × (s.dirty 0 ≡ 65535) × (s.frame_dirty 0 ≡ false) × (s.map.place 9 ≡ Full 0)
  pub settled_all : let s = crowded 0 (reply ∷ trace Settle ∷ []) in
      (s.tally ≡ record zero_tally { fetches = 2; nvm_installs = 1; dram_loads = 1; lines = 16; passes = 1; cleaned = 2 })
      × (s.dirty 0 ≡ 0) × (s.frame_dirty 0 ≡ true) × (s.map.place 0 ≡ Mini 0)
  -- mini pages:
  pub sixteen_lines : let mini = changed_line 3 (value 99) (with_lines 0 16 empty_mini) in
      (is_full mini ≡ true) × (resident_lines mini.places ≡ 65535) × (mini.dirty ≡ 8)
      × (is_full (with_lines 0 15 empty_mini) ≡ false)
  -- texts:
  -- the text of that look-up's tally, and of lines of a trace
  pub tally_lines : tally_text (record zero_tally { fetches = 1 }) ≡ concat (map ended (
      codes "# dram_hits 0" ∷ codes "# nvm_hits 0" ∷ codes "# fetches 1" ∷ codes "# nvm_installs 0"
      ∷ codes "# dram_loads 0" ∷ codes "# lines 0" ∷ codes "# promotions 0" ∷ codes "# dram_evictions 0"
      ∷ codes "# nvm_evictions 0" ∷ codes "# passes 0" ∷ codes "# cleaned 0" ∷ codes "# log_reads 0" ∷ []))
  pub trace_lines : map trace_text (Read 0 0 ∷ Write 12 63 ∷ Settle ∷ Clean 7 ∷ LogReads 64 ∷ []) ≡ map ended (
      codes "+ read 0 0" ∷ codes "+ write 12 63" ∷ codes "+ settle" ∷ codes "+ clean 7" ∷ codes "+ log 64" ∷ [])
  -- which touches are printed:
  -- of each access the first of each line; a reply ends an access, and so does a touch of another page or kind
  pub printed_touches : printed None [] (
      trace (Read 1 0) ∷ trace (Read 1 2) ∷ trace (Read 1 0) ∷ trace (Write 1 0) ∷ trace (Write 1 0) ∷ trace (Read 1 0) ∷ reply
      ∷ trace (Read 1 0) ∷ trace (Read 1 0) ∷ [])
      ≡ trace (Read 1 0) ∷ trace (Read 1 2) ∷ trace (Write 1 0) ∷ trace (Read 1 0) ∷ reply ∷ trace (Read 1 0) ∷ []
