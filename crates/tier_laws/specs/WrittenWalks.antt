-- Runs of some 250 touches, written out, with what another program made of each.
use Rattle.std.specs.Prelude.{ℕ, zero, suc, Bool, true, false, ◌==◌, ◌+◌, ◌*◌, ◌/◌, ◌%◌, List, [], ◌∷◌, ◌++◌, slice_index_or, Some, None}
use Rattle.clock_sweep.specs.declared.clock.Slot.TheVariants.{Empty, Clear, Set}
use Rattle.tier_map.specs.declared.place.Place.TheVariants.{Absent, Full, Mini}
use Rattle.tier_rules.specs.declared.trace.TraceLine.TheVariants.{Read, Write, Settle, Clean, LogReads}
use Rattle.tier_rules.specs.Tallies.{zero_tally}
use Rattle.tier_rules.specs.Runs.{Printed, trace, reply, epoch}
use Rattle.tier_laws.specs.Walks.{Walk, seen, reads, writes, plan, rates}

unfoldable pub touches_0 : List Printed
touches_0 =
    writes 1 (25 ∷ []) ++ reads 3 (34 ∷ []) ++ reply ∷ writes 2 (13 ∷ 21 ∷ 14 ∷ 19 ∷ 13 ∷ 11 ∷ 9 ∷ 12 ∷ 22 ∷ 23 ∷
    26 ∷ 13 ∷ 25 ∷ 29 ∷ 35 ∷ 17 ∷ 24 ∷ 10 ∷ 7 ∷ 11 ∷ 0 ∷ 38 ∷ 25 ∷ 9 ∷ 36 ∷ 10 ∷ 12 ∷ 10 ∷ 1 ∷ 15 ∷ 28 ∷ 24 ∷ 8 ∷
    39 ∷ 35 ∷ 3 ∷ 38 ∷ 15 ∷ 39 ∷ 32 ∷ []) ++ writes 4 (21 ∷ 34 ∷ 23 ∷ 30 ∷ 25 ∷ 3 ∷ 6 ∷ 19 ∷ 27 ∷ 16 ∷ 15 ∷ 27 ∷ 32
    ∷ 31 ∷ 37 ∷ 16 ∷ 9 ∷ 3 ∷ 37 ∷ 20 ∷ 10 ∷ 3 ∷ 17 ∷ 7 ∷ 3 ∷ 38 ∷ 14 ∷ 19 ∷ 33 ∷ 39 ∷ 13 ∷ 36 ∷ 22 ∷ 21 ∷ 29 ∷ 0 ∷
    7 ∷ 30 ∷ 12 ∷ 33 ∷ []) ++ reply ∷ writes 0 (25 ∷ []) ++ reads 1 (30 ∷ 34 ∷ 2 ∷ 28 ∷ 10 ∷ 3 ∷ 30 ∷ 3 ∷ 12 ∷ 15 ∷
    10 ∷ 6 ∷ 2 ∷ 8 ∷ 13 ∷ 5 ∷ 7 ∷ 16 ∷ 4 ∷ 25 ∷ 2 ∷ 34 ∷ 27 ∷ 30 ∷ 28 ∷ 21 ∷ 29 ∷ 33 ∷ 12 ∷ 38 ∷ 37 ∷ 16 ∷ 26 ∷ 9 ∷
    13 ∷ 26 ∷ 4 ∷ 38 ∷ 17 ∷ 25 ∷ []) ++ writes 0 (24 ∷ 2 ∷ 1 ∷ []) ++ writes 4 (0 ∷ 5 ∷ 14 ∷ []) ++ reply ∷ reads 0
    (22 ∷ 20 ∷ 28 ∷ 2 ∷ 11 ∷ 5 ∷ 1 ∷ 39 ∷ 22 ∷ 35 ∷ 9 ∷ 10 ∷ 0 ∷ 0 ∷ 20 ∷ 32 ∷ 25 ∷ 11 ∷ 24 ∷ 24 ∷ 28 ∷ 12 ∷ 13 ∷
    10 ∷ 38 ∷ 36 ∷ 35 ∷ 17 ∷ 4 ∷ 29 ∷ []) ++ writes 1 (32 ∷ 7 ∷ 19 ∷ 8 ∷ 7 ∷ 37 ∷ 39 ∷ 14 ∷ 3 ∷ 25 ∷ 29 ∷ 27 ∷ 22 ∷
    5 ∷ 4 ∷ 2 ∷ 28 ∷ 26 ∷ 1 ∷ 36 ∷ 9 ∷ 30 ∷ 6 ∷ 5 ∷ 18 ∷ 6 ∷ 35 ∷ 36 ∷ 9 ∷ 8 ∷ []) ++ reads 4 (22 ∷ []) ++ reads 3
    (6 ∷ 31 ∷ 20 ∷ 7 ∷ 30 ∷ 18 ∷ 14 ∷ 22 ∷ 14 ∷ 2 ∷ 0 ∷ 14 ∷ 32 ∷ 7 ∷ 35 ∷ 5 ∷ 8 ∷ 30 ∷ 3 ∷ 30 ∷ 22 ∷ 32 ∷ 30 ∷ 13
    ∷ 31 ∷ 3 ∷ 32 ∷ 37 ∷ 16 ∷ 1 ∷ 38 ∷ 33 ∷ 33 ∷ 6 ∷ 11 ∷ 2 ∷ 37 ∷ 14 ∷ 29 ∷ 0 ∷ []) ++ reply ∷ writes 2 (6 ∷ 19 ∷
    []) ++ reply ∷ reads 3 (20 ∷ []) ++ reply ∷ writes 4 (27 ∷ []) ++ reply ∷ writes 1 (7 ∷ []) ++ reply ∷ writes 0
    (10 ∷ 30 ∷ 38 ∷ 2 ∷ 34 ∷ 28 ∷ 22 ∷ 0 ∷ 5 ∷ 31 ∷ 3 ∷ 27 ∷ 24 ∷ 9 ∷ 12 ∷ 27 ∷ 11 ∷ 13 ∷ 17 ∷ 16 ∷ 13 ∷ 18 ∷ 25 ∷
    25 ∷ 16 ∷ 21 ∷ 1 ∷ 17 ∷ 15 ∷ 33 ∷ []) ++ reply ∷ []

-- 274 lines
unfoldable pub walk_0 : Walk
walk_0 = record {
  plan = plan 500 500 500 500 0 7 2 0;
  words = 0 ∷ 0 ∷ 0 ∷ [];
  lines = touches_0;
  pages = 5;
  end = record {
    tally = record zero_tally {
      dram_hits = 2;
      nvm_hits = 4;
      fetches = 11;
      nvm_installs = 10;
      dram_loads = 4;
      lines = 75;
      dram_evictions = 2;
      nvm_evictions = 8;
    };
    drawn = 25;
    queue = [];
    pages = seen (Full 1) (Some 1) 304328719919 304328719919 ∷ seen Absent (Some 0) 0 0 ∷
        seen Absent None 0 0 ∷ seen (Full 0) None 18446744073709551615 0 ∷ seen Absent None 0 0 ∷ [];
    frames = (Some 1, true) ∷ (Some 0, false) ∷ [];
    full_clock = (0, Clear) ∷ (1, Set) ∷ [];
    mini_clock = [];
    nvm_clock = (0, Clear) ∷ (1, Set) ∷ [];
  };
}

unfoldable pub touches_1 : List Printed
touches_1 =
    reads 4 (22 ∷ 29 ∷ 3 ∷ 32 ∷ 13 ∷ 38 ∷ 14 ∷ 18 ∷ 31 ∷ 13 ∷ 21 ∷ 28 ∷ 4 ∷ 16 ∷ 12 ∷ 10 ∷ 5 ∷ 28 ∷ 34 ∷ 23 ∷ 12 ∷
    30 ∷ 20 ∷ 15 ∷ 25 ∷ 27 ∷ 13 ∷ 4 ∷ 27 ∷ 29 ∷ []) ++ reply ∷ trace Settle ∷ reads 4 (17 ∷ 25 ∷ 24 ∷ 14 ∷ 27 ∷ 4 ∷
    25 ∷ 26 ∷ 0 ∷ 29 ∷ 13 ∷ 34 ∷ 6 ∷ 22 ∷ 1 ∷ 23 ∷ 23 ∷ 0 ∷ 16 ∷ 36 ∷ 9 ∷ 2 ∷ 27 ∷ 11 ∷ 17 ∷ 4 ∷ 9 ∷ 25 ∷ 23 ∷ 36 ∷
    30 ∷ 10 ∷ 31 ∷ 32 ∷ 19 ∷ 11 ∷ 33 ∷ 0 ∷ 5 ∷ 4 ∷ []) ++ reply ∷ reads 3 (39 ∷ 11 ∷ []) ++ reads 1 (28 ∷ 8 ∷ 5 ∷ 9
    ∷ 19 ∷ 21 ∷ 24 ∷ 4 ∷ 3 ∷ 35 ∷ 35 ∷ 22 ∷ 29 ∷ 3 ∷ 12 ∷ 17 ∷ 20 ∷ 5 ∷ 17 ∷ 9 ∷ 16 ∷ 29 ∷ 13 ∷ 27 ∷ 7 ∷ 33 ∷ 20 ∷
    15 ∷ 6 ∷ 17 ∷ []) ++ writes 1 (25 ∷ 39 ∷ 29 ∷ 36 ∷ 2 ∷ 21 ∷ 15 ∷ 17 ∷ 30 ∷ 12 ∷ 35 ∷ 37 ∷ 34 ∷ 20 ∷ 21 ∷ 1 ∷ 8
    ∷ 18 ∷ 22 ∷ 23 ∷ 25 ∷ 25 ∷ 3 ∷ 14 ∷ 33 ∷ 4 ∷ 13 ∷ 9 ∷ 7 ∷ 9 ∷ 21 ∷ 7 ∷ 23 ∷ 1 ∷ 28 ∷ 12 ∷ 23 ∷ 32 ∷ 35 ∷ 13 ∷
    []) ++ reply ∷ writes 2 (16 ∷ 15 ∷ []) ++ writes 1 (2 ∷ 15 ∷ []) ++ reply ∷ writes 3 (17 ∷ []) ++ reply ∷ reads
    0 (39 ∷ 3 ∷ 0 ∷ []) ++ reply ∷ reads 2 (31 ∷ []) ++ writes 0 (38 ∷ 7 ∷ []) ++ reads 4 (33 ∷ 4 ∷ []) ++ reply ∷
    writes 3 (15 ∷ []) ++ reply ∷ writes 4 (12 ∷ []) ++ reads 1 (12 ∷ 28 ∷ 8 ∷ 2 ∷ 12 ∷ 33 ∷ 32 ∷ 14 ∷ 6 ∷ 37 ∷ 33
    ∷ 0 ∷ 21 ∷ 32 ∷ 8 ∷ 36 ∷ 30 ∷ 8 ∷ 7 ∷ 7 ∷ 2 ∷ 28 ∷ 39 ∷ 36 ∷ 39 ∷ 38 ∷ 5 ∷ 17 ∷ 25 ∷ 8 ∷ []) ++ writes 0 (3 ∷ 6
    ∷ 19 ∷ 18 ∷ 15 ∷ 10 ∷ 24 ∷ 35 ∷ 24 ∷ 9 ∷ 21 ∷ 2 ∷ 15 ∷ 19 ∷ 24 ∷ 15 ∷ 30 ∷ 15 ∷ 12 ∷ 26 ∷ 9 ∷ 38 ∷ 10 ∷ 31 ∷ 28
    ∷ 31 ∷ 12 ∷ 17 ∷ 1 ∷ 12 ∷ []) ++ reply ∷ trace (Clean 2) ∷ writes 4 (8 ∷ 16 ∷ 37 ∷ 39 ∷ 16 ∷ 3 ∷ []) ++ reply ∷
    reads 1 (30 ∷ 2 ∷ []) ++ writes 3 (14 ∷ []) ++ reply ∷ reads 3 (11 ∷ 26 ∷ 28 ∷ 17 ∷ 23 ∷ 13 ∷ 38 ∷ 18 ∷ 25 ∷ 8
    ∷ 10 ∷ 33 ∷ 31 ∷ 19 ∷ 14 ∷ 26 ∷ 33 ∷ 2 ∷ 3 ∷ 33 ∷ 6 ∷ 0 ∷ 31 ∷ 18 ∷ 29 ∷ 23 ∷ 39 ∷ 18 ∷ 8 ∷ 23 ∷ 30 ∷ 15 ∷ 8 ∷
    28 ∷ 4 ∷ 24 ∷ 6 ∷ 39 ∷ 30 ∷ 6 ∷ []) ++ []

-- 279 lines
unfoldable pub walk_1 : Walk
walk_1 = record {
  plan = plan 500 500 500 500 2 3 1 1;
  words = 0 ∷ 0 ∷ 0 ∷ [];
  lines = touches_1;
  pages = 5;
  end = record {
    tally = record zero_tally {
      dram_hits = 7;
      nvm_hits = 4;
      fetches = 9;
      nvm_installs = 6;
      dram_loads = 5;
      lines = 70;
      promotions = 2;
      dram_evictions = 5;
      nvm_evictions = 4;
      passes = 1;
      cleaned = 2;
    };
    drawn = 19;
    queue = 3 ∷ 0 ∷ [];
    pages = seen Absent None 0 0 ∷ seen Absent (Some 0) 0 0 ∷ seen Absent None 0 0 ∷
        seen (Full 0) (Some 1) 837376994653 0 ∷ seen Absent None 0 0 ∷ [];
    frames = (Some 1, false) ∷ (Some 3, true) ∷ [];
    full_clock = (0, Set) ∷ [];
    mini_clock = (0, Empty) ∷ [];
    nvm_clock = (0, Set) ∷ (1, Set) ∷ [];
  };
}

unfoldable pub touches_2 : List Printed
touches_2 =
    reads 1 (10 ∷ 35 ∷ []) ++ writes 4 (39 ∷ 27 ∷ []) ++ reply ∷ trace (Clean 3) ∷ reads 4 (11 ∷ 24 ∷ 28 ∷ 14 ∷ 32
    ∷ 8 ∷ 5 ∷ 3 ∷ 11 ∷ 38 ∷ 36 ∷ 28 ∷ 32 ∷ 14 ∷ 33 ∷ 33 ∷ 9 ∷ 31 ∷ 39 ∷ 26 ∷ 30 ∷ 4 ∷ 15 ∷ 39 ∷ 5 ∷ 21 ∷ 24 ∷ 12 ∷
    32 ∷ 27 ∷ []) ++ reads 3 (10 ∷ []) ++ reply ∷ trace (Clean 1) ∷ writes 2 (39 ∷ 28 ∷ 17 ∷ 20 ∷ 30 ∷ 34 ∷ 28 ∷ 32
    ∷ 13 ∷ 25 ∷ 15 ∷ 13 ∷ 38 ∷ 37 ∷ 34 ∷ 39 ∷ 10 ∷ 34 ∷ 23 ∷ 33 ∷ 3 ∷ 25 ∷ 7 ∷ 30 ∷ 11 ∷ 19 ∷ 4 ∷ 33 ∷ 24 ∷ 16 ∷
    []) ++ reply ∷ writes 1 (12 ∷ 10 ∷ 14 ∷ []) ++ reply ∷ writes 4 (0 ∷ []) ++ reply ∷ writes 1 (0 ∷ []) ++ reply
    ∷ writes 3 (27 ∷ []) ++ reply ∷ writes 1 (29 ∷ []) ++ reply ∷ writes 1 (24 ∷ []) ++ writes 3 (17 ∷ 26 ∷ []) ++
    reply ∷ reads 1 (7 ∷ []) ++ reply ∷ reads 2 (11 ∷ []) ++ reads 0 (9 ∷ 8 ∷ 28 ∷ 38 ∷ 25 ∷ 30 ∷ 4 ∷ 21 ∷ 34 ∷ 8 ∷
    29 ∷ 29 ∷ 15 ∷ 8 ∷ 0 ∷ 16 ∷ 37 ∷ 17 ∷ 35 ∷ 9 ∷ 30 ∷ 12 ∷ 4 ∷ 5 ∷ 35 ∷ 12 ∷ 28 ∷ 1 ∷ 16 ∷ 32 ∷ 30 ∷ 35 ∷ 37 ∷ 38
    ∷ 10 ∷ 30 ∷ 16 ∷ 17 ∷ 6 ∷ 11 ∷ []) ++ reads 4 (6 ∷ 7 ∷ 13 ∷ 9 ∷ 4 ∷ 11 ∷ 25 ∷ 14 ∷ 26 ∷ 8 ∷ 21 ∷ 30 ∷ 17 ∷ 22 ∷
    16 ∷ 28 ∷ 15 ∷ 13 ∷ 30 ∷ 13 ∷ 25 ∷ 6 ∷ 2 ∷ 21 ∷ 22 ∷ 31 ∷ 34 ∷ 5 ∷ 38 ∷ 3 ∷ 29 ∷ 13 ∷ 1 ∷ 28 ∷ 1 ∷ 7 ∷ 19 ∷ 33
    ∷ 1 ∷ 3 ∷ []) ++ writes 3 (28 ∷ []) ++ writes 1 (17 ∷ []) ++ reads 1 (12 ∷ 18 ∷ 5 ∷ 7 ∷ 35 ∷ 16 ∷ 18 ∷ 32 ∷ 12
    ∷ 13 ∷ 5 ∷ 1 ∷ 11 ∷ 34 ∷ 14 ∷ 15 ∷ 38 ∷ 17 ∷ 0 ∷ 13 ∷ 28 ∷ 38 ∷ 25 ∷ 39 ∷ 15 ∷ 38 ∷ 37 ∷ 10 ∷ 25 ∷ 31 ∷ 32 ∷ 0
    ∷ 34 ∷ 1 ∷ 27 ∷ 18 ∷ 32 ∷ 4 ∷ 33 ∷ 15 ∷ []) ++ reply ∷ trace Settle ∷ reads 3 (27 ∷ []) ++ writes 0 (23 ∷ [])
    ++ reads 0 (6 ∷ 18 ∷ 0 ∷ 20 ∷ 31 ∷ 32 ∷ 2 ∷ 11 ∷ 12 ∷ 13 ∷ 24 ∷ 15 ∷ 24 ∷ 21 ∷ 34 ∷ 9 ∷ 32 ∷ 0 ∷ 5 ∷ 32 ∷ 33 ∷
    18 ∷ 38 ∷ 2 ∷ 31 ∷ 24 ∷ 23 ∷ 27 ∷ 2 ∷ 1 ∷ 30 ∷ 22 ∷ 39 ∷ 34 ∷ 23 ∷ 17 ∷ 18 ∷ 6 ∷ 15 ∷ 17 ∷ []) ++ reply ∷ []

-- 256 lines
unfoldable pub walk_2 : Walk
walk_2 = record {
  plan = plan 300 700 600 400 0 11 2 2;
  words = 0 ∷ 4 ∷ 0 ∷ 0 ∷ [];
  lines = touches_2;
  pages = 5;
  end = record {
    tally = record zero_tally {
      dram_hits = 12;
      nvm_hits = 4;
      fetches = 6;
      nvm_installs = 5;
      dram_loads = 4;
      lines = 67;
      promotions = 2;
      dram_evictions = 2;
      nvm_evictions = 3;
      passes = 2;
      cleaned = 2;
    };
    drawn = 15;
    queue = [];
    pages = seen (Full 0) (Some 0) 1030724501367 8388608 ∷ seen (Full 1) None 18446744073709551615 0 ∷
        seen Absent None 0 0 ∷ seen Absent (Some 2) 0 0 ∷ seen Absent (Some 1) 0 0 ∷ [];
    frames = (Some 0, false) ∷ (Some 4, true) ∷ (Some 3, true) ∷ [];
    full_clock = (1, Set) ∷ (0, Set) ∷ [];
    mini_clock = (1, Empty) ∷ (0, Empty) ∷ [];
    nvm_clock = (0, Set) ∷ (1, Set) ∷ (2, Set) ∷ [];
  };
}

unfoldable pub touches_3 : List Printed
touches_3 =
    reads 3 (13 ∷ 4 ∷ 38 ∷ 7 ∷ 24 ∷ 29 ∷ 21 ∷ 7 ∷ 31 ∷ 5 ∷ 8 ∷ 14 ∷ 37 ∷ 1 ∷ 2 ∷ 14 ∷ 6 ∷ 8 ∷ 38 ∷ 33 ∷ 18 ∷ 11 ∷
    26 ∷ 37 ∷ 26 ∷ 14 ∷ 36 ∷ 39 ∷ 15 ∷ 5 ∷ 23 ∷ 12 ∷ 37 ∷ 13 ∷ 39 ∷ 32 ∷ 30 ∷ 16 ∷ 18 ∷ 13 ∷ []) ++ reads 4 (33 ∷
    12 ∷ 33 ∷ []) ++ reply ∷ writes 1 (16 ∷ 6 ∷ 30 ∷ 22 ∷ 6 ∷ 5 ∷ 19 ∷ 31 ∷ 7 ∷ 36 ∷ 6 ∷ 24 ∷ 18 ∷ 1 ∷ 35 ∷ 30 ∷ 38
    ∷ 39 ∷ 25 ∷ 24 ∷ 28 ∷ 16 ∷ 4 ∷ 11 ∷ 28 ∷ 2 ∷ 20 ∷ 18 ∷ 0 ∷ 34 ∷ []) ++ reply ∷ writes 1 (9 ∷ 37 ∷ 5 ∷ []) ++
    writes 3 (21 ∷ 5 ∷ 35 ∷ []) ++ reply ∷ trace (Clean 2) ∷ reads 1 (19 ∷ 25 ∷ 11 ∷ []) ++ reply ∷ writes 4 (31 ∷
    22 ∷ 8 ∷ 21 ∷ 4 ∷ 1 ∷ 39 ∷ 24 ∷ 10 ∷ 26 ∷ 27 ∷ 18 ∷ 18 ∷ 38 ∷ 34 ∷ 20 ∷ 26 ∷ 16 ∷ 17 ∷ 33 ∷ 2 ∷ 25 ∷ 38 ∷ 28 ∷
    21 ∷ 26 ∷ 9 ∷ 8 ∷ 29 ∷ 28 ∷ []) ++ reads 4 (0 ∷ 7 ∷ 31 ∷ 1 ∷ 21 ∷ 9 ∷ 15 ∷ 38 ∷ 29 ∷ 24 ∷ 7 ∷ 16 ∷ 0 ∷ 38 ∷ 35
    ∷ 34 ∷ 7 ∷ 39 ∷ 3 ∷ 8 ∷ 9 ∷ 33 ∷ 22 ∷ 3 ∷ 35 ∷ 16 ∷ 15 ∷ 16 ∷ 27 ∷ 5 ∷ []) ++ reads 3 (19 ∷ 12 ∷ 26 ∷ []) ++
    reads 4 (37 ∷ 14 ∷ 21 ∷ 6 ∷ 22 ∷ 18 ∷ 39 ∷ 32 ∷ 18 ∷ 5 ∷ 30 ∷ 29 ∷ 25 ∷ 3 ∷ 17 ∷ 31 ∷ 1 ∷ 8 ∷ 11 ∷ 33 ∷ 6 ∷ 38
    ∷ 15 ∷ 20 ∷ 18 ∷ 22 ∷ 24 ∷ 21 ∷ 12 ∷ 7 ∷ 6 ∷ 4 ∷ 20 ∷ 29 ∷ 17 ∷ 9 ∷ 28 ∷ 20 ∷ 20 ∷ 17 ∷ []) ++ reply ∷ writes 0
    (10 ∷ 30 ∷ []) ++ reply ∷ reads 2 (35 ∷ 17 ∷ 2 ∷ 9 ∷ 31 ∷ 10 ∷ 26 ∷ 0 ∷ 17 ∷ 22 ∷ 27 ∷ 6 ∷ 17 ∷ 22 ∷ 7 ∷ 16 ∷
    35 ∷ 2 ∷ 1 ∷ 29 ∷ 34 ∷ 12 ∷ 23 ∷ 18 ∷ 1 ∷ 21 ∷ 16 ∷ 6 ∷ 23 ∷ 0 ∷ 39 ∷ 17 ∷ 22 ∷ 9 ∷ 12 ∷ 29 ∷ 19 ∷ 26 ∷ 13 ∷ 13
    ∷ []) ++ writes 4 (37 ∷ 29 ∷ 20 ∷ 5 ∷ 10 ∷ 19 ∷ 27 ∷ 15 ∷ 21 ∷ 34 ∷ 11 ∷ 28 ∷ 19 ∷ 38 ∷ 16 ∷ 10 ∷ 17 ∷ 14 ∷ 38
    ∷ 7 ∷ 28 ∷ 39 ∷ 37 ∷ 30 ∷ 36 ∷ 34 ∷ 20 ∷ 5 ∷ 13 ∷ 3 ∷ 7 ∷ 1 ∷ 20 ∷ 34 ∷ 15 ∷ 25 ∷ 9 ∷ 21 ∷ 11 ∷ 21 ∷ []) ++ []

-- 274 lines
unfoldable pub walk_3 : Walk
walk_3 = record {
  plan = plan 1000 1000 500 1000 3 5 1 2;
  words = 1 ∷ 0 ∷ 0 ∷ [];
  lines = touches_3;
  pages = 5;
  end = record {
    tally = record zero_tally {
      dram_hits = 3;
      nvm_hits = 3;
      fetches = 7;
      nvm_installs = 3;
      dram_loads = 5;
      lines = 92;
      promotions = 3;
      dram_evictions = 7;
      nvm_evictions = 2;
      passes = 2;
      cleaned = 1;
    };
    drawn = 12;
    queue = 4 ∷ 0 ∷ 2 ∷ [];
    pages = seen Absent None 0 0 ∷ seen Absent None 0 0 ∷ seen Absent None 0 0 ∷
        seen (Mini 0) (Some 1) 67637248 0 ∷ seen (Full 0) (Some 0) 1050022768298 1050022768298 ∷ [];
    frames = (Some 4, true) ∷ (Some 3, false) ∷ [];
    full_clock = (0, Set) ∷ [];
    mini_clock = (0, Set) ∷ (1, Empty) ∷ [];
    nvm_clock = (0, Set) ∷ (1, Set) ∷ [];
  };
}

unfoldable pub touches_4 : List Printed
touches_4 =
    reads 0 (14 ∷ 25 ∷ 21 ∷ 0 ∷ 8 ∷ 1 ∷ 10 ∷ 6 ∷ 9 ∷ 7 ∷ 4 ∷ 21 ∷ 23 ∷ 3 ∷ 12 ∷ 37 ∷ 16 ∷ 25 ∷ 20 ∷ 39 ∷ 10 ∷ 19 ∷
    26 ∷ 2 ∷ 29 ∷ 28 ∷ 34 ∷ 15 ∷ 16 ∷ 11 ∷ 36 ∷ 2 ∷ 6 ∷ 2 ∷ 38 ∷ 7 ∷ 10 ∷ 16 ∷ 35 ∷ 26 ∷ []) ++ reply ∷ trace
    (Clean 3) ∷ writes 4 (2 ∷ []) ++ reads 3 (30 ∷ 8 ∷ 14 ∷ 9 ∷ 11 ∷ 33 ∷ 11 ∷ 2 ∷ 34 ∷ 24 ∷ 2 ∷ 9 ∷ 29 ∷ 10 ∷ 13 ∷
    39 ∷ 28 ∷ 5 ∷ 3 ∷ 9 ∷ 4 ∷ 0 ∷ 8 ∷ 15 ∷ 7 ∷ 4 ∷ 30 ∷ 39 ∷ 35 ∷ 26 ∷ []) ++ writes 4 (27 ∷ []) ++ reply ∷ reads 0
    (31 ∷ 33 ∷ 33 ∷ 1 ∷ 37 ∷ 1 ∷ 16 ∷ 1 ∷ 12 ∷ 31 ∷ 28 ∷ 7 ∷ 5 ∷ 12 ∷ 37 ∷ 15 ∷ 37 ∷ 5 ∷ 39 ∷ 19 ∷ 6 ∷ 36 ∷ 10 ∷ 4
    ∷ 0 ∷ 26 ∷ 13 ∷ 10 ∷ 24 ∷ 21 ∷ 34 ∷ 11 ∷ 15 ∷ 5 ∷ 11 ∷ 13 ∷ 14 ∷ 15 ∷ 37 ∷ 5 ∷ []) ++ writes 0 (14 ∷ 32 ∷ 33 ∷
    15 ∷ 30 ∷ 12 ∷ 31 ∷ 0 ∷ 4 ∷ 18 ∷ 36 ∷ 5 ∷ 25 ∷ 14 ∷ 35 ∷ 4 ∷ 2 ∷ 31 ∷ 3 ∷ 25 ∷ 13 ∷ 24 ∷ 39 ∷ 39 ∷ 28 ∷ 17 ∷ 4
    ∷ 32 ∷ 8 ∷ 32 ∷ 22 ∷ 2 ∷ 37 ∷ 10 ∷ 29 ∷ 0 ∷ 11 ∷ 35 ∷ 17 ∷ 27 ∷ []) ++ writes 2 (2 ∷ 11 ∷ 10 ∷ []) ++ reply ∷
    reads 2 (19 ∷ []) ++ reply ∷ writes 0 (31 ∷ 6 ∷ 23 ∷ 15 ∷ 4 ∷ 17 ∷ 6 ∷ 20 ∷ 20 ∷ 30 ∷ 28 ∷ 27 ∷ 32 ∷ 13 ∷ 39 ∷
    14 ∷ 9 ∷ 36 ∷ 23 ∷ 10 ∷ 6 ∷ 37 ∷ 20 ∷ 9 ∷ 27 ∷ 19 ∷ 37 ∷ 14 ∷ 13 ∷ 15 ∷ []) ++ reads 0 (23 ∷ 36 ∷ 9 ∷ 9 ∷ 15 ∷
    2 ∷ 21 ∷ 8 ∷ 13 ∷ 0 ∷ 18 ∷ 38 ∷ 29 ∷ 11 ∷ 13 ∷ 4 ∷ 35 ∷ 18 ∷ 11 ∷ 0 ∷ 18 ∷ 34 ∷ 39 ∷ 2 ∷ 9 ∷ 26 ∷ 7 ∷ 38 ∷ 34 ∷
    15 ∷ 5 ∷ 26 ∷ 23 ∷ 15 ∷ 10 ∷ 33 ∷ 12 ∷ 7 ∷ 33 ∷ 20 ∷ []) ++ writes 3 (20 ∷ 30 ∷ 3 ∷ 28 ∷ 17 ∷ 39 ∷ 37 ∷ 3 ∷ 25
    ∷ 20 ∷ 32 ∷ 10 ∷ 24 ∷ 6 ∷ 21 ∷ 16 ∷ 34 ∷ 8 ∷ 39 ∷ 2 ∷ 19 ∷ 0 ∷ 31 ∷ 3 ∷ 35 ∷ 32 ∷ 12 ∷ 17 ∷ 36 ∷ 7 ∷ 2 ∷ 17 ∷ 7
    ∷ 31 ∷ 5 ∷ 5 ∷ 21 ∷ 38 ∷ 26 ∷ 37 ∷ []) ++ reply ∷ []

-- 272 lines
unfoldable pub walk_4 : Walk
walk_4 = record {
  plan = plan 500 500 500 500 0 9 3 0;
  words = 0 ∷ [];
  lines = touches_4;
  pages = 5;
  end = record {
    tally = record zero_tally { dram_hits = 6; fetches = 5; dram_evictions = 2; passes = 2 };
    drawn = 0;
    queue = [];
    pages = seen (Full 1) None 18446744073709551615 763843241552 ∷ seen Absent None 0 0 ∷
        seen (Full 0) None 18446744073709551615 3076 ∷ seen (Full 2) None 18446744073709551615 1090237699565 ∷
        seen Absent None 0 0 ∷ [];
    frames = [];
    full_clock = (2, Set) ∷ (0, Set) ∷ (1, Set) ∷ [];
    mini_clock = [];
    nvm_clock = [];
  };
}

abbrev pub written_walks : List Walk
written_walks = walk_0 ∷ walk_1 ∷ walk_2 ∷ walk_3 ∷ walk_4 ∷ []
