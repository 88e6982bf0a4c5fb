-- The tally: twelve counts, each of which stands still at the end of its type.
use Rattle.std.specs.Prelude.{codes, ℕ, ◌+◌, min, List, [], ◌∷◌, map}
use Rattle.tier_rules.specs.declared.tally.Tally.{Tally}

abbrev pub last_count : ℕ
last_count = 18446744073709551615

abbrev pub counted : ℕ → ℕ → ℕ
counted n count = min (count + n) last_count

abbrev pub zero_tally : Tally
zero_tally = record {
  dram_hits = 0;
  nvm_hits = 0;
  fetches = 0;
  nvm_installs = 0;
  dram_loads = 0;
  lines = 0;
  promotions = 0;
  dram_evictions = 0;
  nvm_evictions = 0;
  passes = 0;
  cleaned = 0;
  log_reads = 0;
}

abbrev pub dram_hit : Tally → Tally
dram_hit t = record t { dram_hits = counted 1 t.dram_hits }

abbrev pub nvm_hit : Tally → Tally
nvm_hit t = record t { nvm_hits = counted 1 t.nvm_hits }

abbrev pub one_fetch : Tally → Tally
one_fetch t = record t { fetches = counted 1 t.fetches }

abbrev pub nvm_install : Tally → Tally
nvm_install t = record t { nvm_installs = counted 1 t.nvm_installs }

abbrev pub dram_load : Tally → Tally
dram_load t = record t { dram_loads = counted 1 t.dram_loads }

abbrev pub lines_loaded : ℕ → Tally → Tally
lines_loaded n t = record t { lines = counted n t.lines }

abbrev pub one_promotion : Tally → Tally
one_promotion t = record t { promotions = counted 1 t.promotions }

abbrev pub dram_eviction : Tally → Tally
dram_eviction t = record t { dram_evictions = counted 1 t.dram_evictions }

abbrev pub nvm_eviction : Tally → Tally
nvm_eviction t = record t { nvm_evictions = counted 1 t.nvm_evictions }

abbrev pub one_pass : Tally → Tally
one_pass t = record t { passes = counted 1 t.passes }

abbrev pub one_cleaned : Tally → Tally
one_cleaned t = record t { cleaned = counted 1 t.cleaned }

abbrev pub log_lines_read : ℕ → Tally → Tally
log_lines_read n t = record t { log_reads = counted n t.log_reads }

-- the twelve counts with their names, in the order in which they are printed
abbrev pub named_counts : Tally → List (List ℕ × ℕ)
named_counts t =
    (codes "dram_hits", t.dram_hits)
    ∷ (codes "nvm_hits", t.nvm_hits)
    ∷ (codes "fetches", t.fetches)
    ∷ (codes "nvm_installs", t.nvm_installs)
    ∷ (codes "dram_loads", t.dram_loads)
    ∷ (codes "lines", t.lines)
    ∷ (codes "promotions", t.promotions)
    ∷ (codes "dram_evictions", t.dram_evictions)
    ∷ (codes "nvm_evictions", t.nvm_evictions)
    ∷ (codes "passes", t.passes)
    ∷ (codes "cleaned", t.cleaned)
    ∷ (codes "log_reads", t.log_reads)
    ∷ []

-- the twelve numbers
abbrev pub tally_numbers : Tally → List ℕ
tally_numbers t = map (λ count. count.1) (named_counts t)
