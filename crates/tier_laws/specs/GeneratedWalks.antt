-- Runs of some hundreds of touches each, made by a generator, with what another program made of each.
use Rattle.std.specs.Prelude.{ℕ, zero, suc, Bool, true, false, ◌==◌, ◌+◌, ◌*◌, ◌/◌, ◌%◌, List, [], ◌∷◌, ◌++◌, slice_index_or, nat_lt, if◌then◌else◌, Some, None}
use Rattle.clock_sweep.specs.declared.clock.Slot.TheVariants.{Empty, Clear, Set}
use Rattle.tier_map.specs.declared.place.Place.TheVariants.{Absent, Full, Mini}
use Rattle.tier_rules.specs.declared.trace.TraceLine.TheVariants.{Read, Write, Settle, Clean, LogReads}
use Rattle.tier_rules.specs.Tallies.{zero_tally}
use Rattle.tier_rules.specs.Runs.{Printed, trace, reply, epoch}
use Rattle.tier_laws.specs.Walks.{Walk, seen, reads, writes, plan, rates}

-- the next number of the generator, and one of n answers by it
abbrev pub following : ℕ → ℕ
following x = (x * 1103515245 + 12345) % 2147483648

abbrev pub picked : ℕ → ℕ → ℕ
picked n x = x / 65536 % n

abbrev pub touch_of : Bool → ℕ → ℕ → Printed
touch_of true page l = trace (Write page l)
touch_of false page l = trace (Read page l)

-- n touches of lines of one page, by the generator
unfoldable pub touches : Bool → ℕ → ℕ → ℕ → List Printed
touches writing page zero x = []
touches writing page (suc n) x = touch_of writing page (picked 48 x) ∷ touches writing page n (following x)

-- how many touches an access has
abbrev pub touch_count : ℕ → ℕ
touch_count x = slice_index_or (1 ∷ 1 ∷ 2 ∷ 3 ∷ 20 ∷ 40 ∷ []) (picked 6 x) 1

-- what stands between two accesses: mostly a reply or nothing
abbrev pub between_by : ℕ → ℕ → List Printed
between_by k x =
    if k == 0 then reply ∷ trace (Clean 1) ∷ []
    else if k == 1 then reply ∷ trace (Clean 2) ∷ []
    else if k == 2 then reply ∷ trace Settle ∷ []
    else if k == 3 then trace (LogReads 3) ∷ reply ∷ []
    else if k == 4 then epoch (rates (picked 1001 (x * 11)) (picked 1001 (x * 13)) (picked 1001 (x * 17)) (picked 1001 (x * 19))) ∷ []
    else if nat_lt k 20 then reply ∷ [] else []

-- n accesses to some pages, by the generator
unfoldable pub generated : ℕ → ℕ → ℕ → List Printed
unfolding touches
generated pages zero x = []
generated pages (suc n) x =
    touches (picked 2 (x * 3 + 1) == 0) (picked pages x) (touch_count (x * 5 + 2)) (following (x + 1))
    ++ between_by (picked 32 (x * 7 + 3)) x
    ++ generated pages n (following x)

-- 934 lines
unfoldable pub generated_0 : Walk
generated_0 = record {
  plan = plan 500 500 500 500 0 21 2 0;
  words = 0 ∷ 0 ∷ 0 ∷ [];
  lines = generated 6 60 1000;
  pages = 6;
  end = record {
    tally = record zero_tally {
      dram_hits = 16;
      nvm_hits = 13;
      fetches = 33;
      nvm_installs = 25;
      dram_loads = 13;
      lines = 177;
      dram_evictions = 22;
      nvm_evictions = 23;
      passes = 5;
      cleaned = 4;
      log_reads = 3;
    };
    drawn = 72;
    queue = [];
    pages = seen (Full 1) (Some 0) 17592186044416 0 ∷ seen Absent None 0 0 ∷ seen Absent None 0 0 ∷
        seen (Full 0) None 18446744073709551615 140728629198507 ∷ seen Absent (Some 1) 0 0 ∷
        seen Absent None 0 0 ∷ [];
    frames = (Some 0, true) ∷ (Some 4, false) ∷ [];
    full_clock = (0, Clear) ∷ (1, Set) ∷ [];
    mini_clock = [];
    nvm_clock = (1, Clear) ∷ (0, Set) ∷ [];
  };
}

-- 693 lines
unfoldable pub generated_1 : Walk
generated_1 = record {
  plan = plan 500 500 500 500 2 22 2 2;
  words = 0 ∷ 3 ∷ 0 ∷ 0 ∷ [];
  lines = generated 6 60 1077;
  pages = 6;
  end = record {
    tally = record zero_tally {
      dram_hits = 28;
      nvm_hits = 10;
      fetches = 20;
      nvm_installs = 15;
      dram_loads = 14;
      lines = 244;
      promotions = 8;
      dram_evictions = 10;
      nvm_evictions = 13;
      passes = 3;
      cleaned = 9;
      log_reads = 6;
    };
    drawn = 43;
    queue = 3 ∷ [];
    pages = seen Absent (Some 0) 0 0 ∷ seen Absent None 0 0 ∷ seen (Mini 0) (Some 2) 8796093022208 0 ∷
        seen Absent None 0 0 ∷ seen (Full 0) None 18446744073709551615 2147518480 ∷ seen Absent (Some 1) 0 0 ∷
        [];
    frames = (Some 0, true) ∷ (Some 5, false) ∷ (Some 2, true) ∷ [];
    full_clock = (0, Set) ∷ (1, Empty) ∷ [];
    mini_clock = (0, Set) ∷ (1, Empty) ∷ [];
    nvm_clock = (1, Clear) ∷ (2, Set) ∷ (0, Set) ∷ [];
  };
}

-- 698 lines
unfoldable pub generated_2 : Walk
generated_2 = record {
  plan = plan 1000 1000 0 0 1 23 1 1;
  words = 0 ∷ 0 ∷ 0 ∷ [];
  lines = generated 6 60 1154;
  pages = 6;
  end = record {
    tally = record zero_tally {
      dram_hits = 12;
      nvm_hits = 7;
      fetches = 38;
      nvm_installs = 13;
      dram_loads = 10;
      lines = 129;
      promotions = 5;
      dram_evictions = 30;
      nvm_evictions = 11;
      passes = 14;
      cleaned = 3;
      log_reads = 3;
    };
    drawn = 57;
    queue = 3 ∷ [];
    pages = seen Absent (Some 0) 0 0 ∷ seen Absent None 0 0 ∷ seen Absent None 0 0 ∷ seen Absent None 0 0 ∷
        seen (Full 0) None 18446744073709551615 0 ∷ seen (Mini 0) (Some 1) 4398046511104 0 ∷ [];
    frames = (Some 0, true) ∷ (Some 5, false) ∷ [];
    full_clock = (0, Set) ∷ [];
    mini_clock = (0, Set) ∷ [];
    nvm_clock = (1, Set) ∷ (0, Set) ∷ [];
  };
}

-- 635 lines
unfoldable pub generated_3 : Walk
generated_3 = record {
  plan = plan 300 700 600 400 0 24 1 0;
  words = 1 ∷ 2 ∷ 0 ∷ [];
  lines = generated 6 60 1231;
  pages = 6;
  end = record {
    tally = record zero_tally {
      dram_hits = 5;
      nvm_hits = 19;
      fetches = 35;
      nvm_installs = 32;
      dram_loads = 20;
      lines = 202;
      dram_evictions = 22;
      nvm_evictions = 32;
      cleaned = 3;
      log_reads = 3;
    };
    drawn = 84;
    queue = [];
    pages = seen Absent None 0 0 ∷ seen (Full 0) (Some 1) 179103873083841 0 ∷ seen Absent None 0 0 ∷
        seen Absent None 0 0 ∷ seen Absent None 0 0 ∷ seen Absent (Some 0) 0 0 ∷ [];
    frames = (Some 5, true) ∷ (Some 1, true) ∷ [];
    full_clock = (0, Set) ∷ [];
    mini_clock = [];
    nvm_clock = (0, Set) ∷ (1, Set) ∷ [];
  };
}

-- 766 lines
unfoldable pub generated_4 : Walk
generated_4 = record {
  plan = plan 1000 1000 1000 1000 0 25 1 1;
  words = 0 ∷ 0 ∷ [];
  lines = generated 6 60 1308;
  pages = 6;
  end = record {
    tally = record zero_tally {
      dram_hits = 9;
      fetches = 48;
      nvm_installs = 46;
      dram_loads = 43;
      lines = 472;
      promotions = 15;
      dram_evictions = 29;
      nvm_evictions = 45;
      cleaned = 3;
      log_reads = 9;
    };
    drawn = 94;
    queue = [];
    pages = seen Absent None 0 0 ∷ seen Absent None 0 0 ∷ seen Absent None 0 0 ∷
        seen (Full 0) None 18446744073709551615 48275403869181 ∷ seen Absent None 0 0 ∷
        seen Absent (Some 0) 0 0 ∷ [];
    frames = (Some 5, true) ∷ [];
    full_clock = (0, Set) ∷ [];
    mini_clock = (0, Empty) ∷ [];
    nvm_clock = (0, Set) ∷ [];
  };
}

-- 766 lines
unfoldable pub generated_5 : Walk
generated_5 = record {
  plan = plan 700 300 300 1000 4 26 3 1;
  words = 0 ∷ 0 ∷ 0 ∷ 5 ∷ 0 ∷ 0 ∷ [];
  lines = generated 6 60 1385;
  pages = 6;
  end = record {
    tally = record zero_tally {
      dram_hits = 29;
      nvm_hits = 19;
      fetches = 9;
      nvm_installs = 4;
      dram_loads = 11;
      lines = 136;
      promotions = 3;
      dram_evictions = 14;
      passes = 6;
      cleaned = 7;
      log_reads = 6;
    };
    drawn = 30;
    queue = 2 ∷ 3 ∷ [];
    pages = seen (Mini 0) (Some 0) 1048576 1048576 ∷ seen Absent (Some 4) 0 0 ∷ seen Absent (Some 1) 0 0 ∷
        seen (Full 1) None 18446744073709551615 0 ∷ seen (Full 2) (Some 3) 281436313616127 133120 ∷
        seen (Full 0) (Some 2) 281406257102841 0 ∷ [];
    frames = (Some 0, true) ∷ (Some 2, true) ∷ (Some 5, true) ∷ (Some 4, true) ∷ (Some 1, false) ∷ [];
    full_clock = (1, Set) ∷ (2, Set) ∷ (0, Set) ∷ [];
    mini_clock = (0, Set) ∷ [];
    nvm_clock = (0, Set) ∷ (1, Set) ∷ (2, Set) ∷ (3, Set) ∷ (4, Set) ∷ [];
  };
}

-- 857 lines
unfoldable pub generated_6 : Walk
generated_6 = record {
  plan = plan 500 500 500 500 0 27 2 0;
  words = 0 ∷ [];
  lines = generated 6 60 1462;
  pages = 6;
  end = record {
    tally = record zero_tally {
      dram_hits = 17;
      fetches = 42;
      dram_evictions = 40;
      passes = 21;
      cleaned = 4;
      log_reads = 9;
    };
    drawn = 0;
    queue = [];
    pages = seen (Full 0) None 18446744073709551615 0 ∷ seen (Full 1) None 18446744073709551615 0 ∷
        seen Absent None 0 0 ∷ seen Absent None 0 0 ∷ seen Absent None 0 0 ∷ seen Absent None 0 0 ∷ [];
    frames = [];
    full_clock = (0, Clear) ∷ (1, Set) ∷ [];
    mini_clock = [];
    nvm_clock = [];
  };
}

-- 472 lines
unfoldable pub generated_7 : Walk
generated_7 = record {
  plan = plan 100 100 900 500 3 28 1 3;
  words = 6 ∷ 0 ∷ 1 ∷ 0 ∷ [];
  lines = generated 6 60 1539;
  pages = 6;
  end = record {
    tally = record zero_tally {
      dram_hits = 20;
      nvm_hits = 9;
      fetches = 27;
      nvm_installs = 22;
      dram_loads = 16;
      lines = 179;
      promotions = 6;
      dram_evictions = 12;
      nvm_evictions = 21;
      passes = 4;
      cleaned = 7;
      log_reads = 15;
    };
    drawn = 54;
    queue = 0 ∷ [];
    pages = seen (Mini 0) (Some 0) 175921860476992 175921860444224 ∷ seen Absent None 0 0 ∷
        seen Absent (Some 1) 0 0 ∷ seen Absent None 0 0 ∷ seen (Mini 1) (Some 2) 137472507904 137472507904 ∷
        seen Absent None 0 0 ∷ [];
    frames = (Some 0, true) ∷ (Some 2, true) ∷ (Some 4, false) ∷ [];
    full_clock = (0, Empty) ∷ [];
    mini_clock = (0, Set) ∷ (1, Set) ∷ (2, Empty) ∷ [];
    nvm_clock = (0, Clear) ∷ (1, Set) ∷ (2, Set) ∷ [];
  };
}

-- 793 lines
unfoldable pub generated_8 : Walk
generated_8 = record {
  plan = plan 1000 1000 1000 500 0 29 1 0;
  words = 0 ∷ 0 ∷ [];
  lines = generated 6 60 1616;
  pages = 6;
  end = record {
    tally = record zero_tally {
      dram_hits = 8;
      nvm_hits = 4;
      fetches = 46;
      nvm_installs = 38;
      dram_loads = 13;
      lines = 95;
      dram_evictions = 20;
      nvm_evictions = 37;
      passes = 6;
      cleaned = 7;
      log_reads = 9;
    };
    drawn = 89;
    queue = [];
    pages = seen Absent (Some 0) 0 0 ∷ seen (Full 0) None 18446744073709551615 1073741824 ∷
        seen Absent None 0 0 ∷ seen Absent None 0 0 ∷ seen Absent None 0 0 ∷ seen Absent None 0 0 ∷ [];
    frames = (Some 0, true) ∷ [];
    full_clock = (0, Set) ∷ [];
    mini_clock = [];
    nvm_clock = (0, Set) ∷ [];
  };
}

-- 899 lines
unfoldable pub generated_9 : Walk
generated_9 = record {
  plan = plan 0 0 1000 500 0 30 1 0;
  words = 0 ∷ 0 ∷ 0 ∷ 0 ∷ [];
  lines = generated 6 60 1693;
  pages = 6;
  end = record {
    tally = record zero_tally {
      nvm_hits = 27;
      fetches = 30;
      nvm_installs = 30;
      nvm_evictions = 27;
      log_reads = 6;
    };
    drawn = 87;
    queue = [];
    pages = seen Absent None 0 0 ∷ seen Absent (Some 0) 0 0 ∷ seen Absent (Some 2) 0 0 ∷
        seen Absent (Some 1) 0 0 ∷ seen Absent None 0 0 ∷ seen Absent None 0 0 ∷ [];
    frames = (Some 1, true) ∷ (Some 3, true) ∷ (Some 2, true) ∷ [];
    full_clock = (0, Empty) ∷ [];
    mini_clock = [];
    nvm_clock = (0, Clear) ∷ (1, Clear) ∷ (2, Set) ∷ [];
  };
}

-- 622 lines
unfoldable pub generated_10 : Walk
generated_10 = record {
  plan = plan 1000 1000 500 1000 0 40 1 1;
  words = 0 ∷ 0 ∷ [];
  lines = generated 3 60 1798;
  pages = 3;
  end = record {
    tally = record zero_tally {
      dram_hits = 30;
      nvm_hits = 7;
      fetches = 29;
      nvm_installs = 23;
      dram_loads = 19;
      lines = 219;
      promotions = 3;
      dram_evictions = 24;
      nvm_evictions = 22;
      passes = 3;
      cleaned = 7;
      log_reads = 6;
    };
    drawn = 52;
    queue = [];
    pages = seen (Full 0) None 18446744073709551615 0 ∷ seen Absent (Some 0) 0 0 ∷ seen Absent None 0 0 ∷ [];
    frames = (Some 1, true) ∷ [];
    full_clock = (0, Set) ∷ [];
    mini_clock = (0, Empty) ∷ [];
    nvm_clock = (0, Set) ∷ [];
  };
}

abbrev pub generated_walks : List Walk
generated_walks = generated_0 ∷ generated_1 ∷ generated_2 ∷ generated_3 ∷ generated_4 ∷ generated_5 ∷ generated_6 ∷ generated_7 ∷ generated_8 ∷ generated_9 ∷ generated_10 ∷ []
