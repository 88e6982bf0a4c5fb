-- What is remembered after lines were read.
use Rattle.std.proofs.Common.{◌≡◌, ◌≢◌, ℕ, ◌+◌, ◌*◌, ◌<◌, ◌≤◌, ◌%◌, List, Option, Some, None, refl, sym, ap, ◌∙◌, subst, inl, inr, ◌⊎◌, arith, drop, slice_range}
use Rattle.std.specs.Prelude.{IfSome}
use Rattle.std.proofs.lemmas.Bool.{cases_eq}
use Rattle.std.proofs.lemmas.List.{drop-drop}
use Rattle.byteorder.specs.Endian.{little_number, IsRead}
use Rattle.nvm_model.specs.declared.line.Line.{Line}
use Rattle.device_files.specs.declared.line_cache.LineCache.{LineCache}
use Rattle.device_files.specs.declared.gathered.Gathered.{Gathered}
use Rattle.device_files.specs.declared.line_memory.LineMemory.{LineMemory}
use Rattle.device_files.specs.Positioned.{padded, bytes_from}
use Rattle.device_files.specs.LineBytes.{line_start}
use Rattle.device_files.specs.DeviceFile.{ReadsAt, IsLineOf, LoadsLine}
use Rattle.device_files.specs.LineCache.{IsCached}
use Rattle.device_files.specs.LineMemory.{Recalls, IsUnknown, Learns}
use Rattle.device_files.specs.NvmFile.{InChunk, Loads}
use Rattle.device_files.proofs.PositionLaws.{padded_part}

-- this line alone, with this value
abbrev pub IsThis : ℕ → Line → ℕ → Line → Type 0
IsThis line value other found = (other ≡ line) × (found ≡ value)

pub learns_nothing : (IsSo : ℕ → Line → Type 0) (memory : LineMemory) → Learns IsSo memory.gathered memory.cache memory.gathered memory.cache
learns_nothing IsSo memory = record { same = refl; each = λ line value h. inl h }

-- a line of which nothing was known is kept
pub learns_kept : (line : ℕ) (value : Line) (gathered : Gathered) (cache new_cache : LineCache) → IsUnknown gathered cache line
    → ((found : Line) → IsCached new_cache line found → found ≡ value)
    → ((other : ℕ) (found : Line) → other ≢ line → IsCached new_cache other found → IsCached cache other found)
    → Learns (IsThis line value) gathered cache gathered new_cache
learns_kept line value gathered cache new_cache unknown alone fewer =
    let one : (other : ℕ) (found : Line) → (other ≡ line) ⊎ (other ≢ line) → Recalls gathered new_cache other found
    → Recalls gathered cache other found ⊎ (IsUnknown gathered cache other × IsThis line value other found) =
    λ other found which h. elim h [
      | inl hg ↦ inl (inl hg)
      | inr hc ↦ elim which [
        | inl e ↦ inr (subst (λ (k : ℕ). IsUnknown gathered cache k) (sym e) unknown, (e, alone found (subst (λ (k : ℕ). IsCached new_cache k found) e hc)))
        | inr ne ↦ inl (inr (fewer other found ne hc))
      ]
    ] in
    record { same = refl; each = λ other found h. one other found (cases_eq other line) h }

-- lines of other slots stay
pub recalls_still : (line : ℕ) (gathered : Gathered) (cache new_cache : LineCache)
    → ((other : ℕ) (found : Line) → other % 4096 ≢ line % 4096 → IsCached cache other found → IsCached new_cache other found)
    → (other : ℕ) (found : Line) → other % 4096 ≢ line % 4096 → Recalls gathered cache other found → Recalls gathered new_cache other found
recalls_still line gathered cache new_cache stay other found apart h = elim h [ inl hg ↦ inl hg | inr hc ↦ inr (stay other found apart hc) ]

-- What is learned of a chunk so far: what was known of the lines from place i on, but for one, is known still, and that one is.
pub record IsLearning (first i place : ℕ) (chunk : List ℕ) (found : Line) (old now : LineMemory) : Type 0 where
  pub learns : Learns (InChunk first chunk) old.gathered old.cache now.gathered now.cache
  pub ahead : (j : ℕ) (value : Line) → i ≤ j → j < 64 → j ≢ place → Recalls old.gathered old.cache (first + j) value → Recalls now.gathered now.cache (first + j) value
  pub kept : IsUnknown old.gathered old.cache (first + place) → Recalls now.gathered now.cache (first + place) found

-- two lines of a chunk have two slots
pub slots_apart : (first i j : ℕ) → i < 64 → j < 64 → i ≢ j → (first + i) % 4096 ≢ (first + j) % 4096
slots_apart first i j hi hj ne e = ne (omega arith)

-- the one line first
pub learning_first : (first place : ℕ) (chunk : List ℕ) (found : Line) (old now : LineMemory) → place < 64 → InChunk first chunk (first + place) found
    → Learns (IsThis (first + place) found) old.gathered old.cache now.gathered now.cache
    → (IsUnknown old.gathered old.cache (first + place) → Recalls now.gathered now.cache (first + place) found)
    → ((other : ℕ) (value : Line) → other % 4096 ≢ (first + place) % 4096 → Recalls old.gathered old.cache other value → Recalls now.gathered now.cache other value)
    → IsLearning first 0 place chunk found old now
learning_first first place chunk found old now below is learns kept stay = record {
  learns = record {
    same = learns.same;
    each = λ other value h. elim (learns.each other value h) [
      | inl before ↦ inl before
      | inr (unknown, (at, same)) ↦ inr (unknown, subst (λ (k : ℕ). InChunk first chunk k value) (sym at) (subst (λ (v : Line). InChunk first chunk (first + place) v) (sym same) is))
    ];
  };
  ahead = λ j value _ in_chunk ne h. stay (first + j) value (slots_apart first j place in_chunk below ne) h;
  kept = kept;
}

-- one line more
pub learning_more : (first i place : ℕ) (chunk : List ℕ) (found value : Line) (old now new : LineMemory) → place < 64 → i < 64 → i ≢ place
    → InChunk first chunk (first + i) value → IsLearning first i place chunk found old now → Learns (IsThis (first + i) value) now.gathered now.cache new.gathered new.cache
    → ((other : ℕ) (v : Line) → other % 4096 ≢ (first + i) % 4096 → Recalls now.gathered now.cache other v → Recalls new.gathered new.cache other v)
    → IsLearning first (i + 1) place chunk found old new
learning_more first i place chunk found value old now new below in_chunk ne is before learns stay = record {
  learns = record {
    same = learns.same ∙ before.learns.same;
    each = λ other v h. elim (learns.each other v h) [
      | inl known ↦ before.learns.each other v known
      | inr (unknown, (at, same)) ↦
          inr ((
            λ w hw. unknown w (subst (λ (k : ℕ). Recalls now.gathered now.cache k w) (sym at)
                (before.ahead i w (omega arith) in_chunk ne (subst (λ (k : ℕ). Recalls old.gathered old.cache k w) at hw))),
            subst (λ (k : ℕ). InChunk first chunk k v) (sym at) (subst (λ (u : Line). InChunk first chunk (first + i) u) (sym same) is),
          ))
    ];
  };
  ahead = λ j v far in_j nj h. stay (first + j) v (slots_apart first j i in_j in_chunk (omega arith)) (before.ahead j v (omega arith) in_j nj h);
  kept = λ unknown. stay (first + place) found (slots_apart first place i below in_chunk (λ e. ne (sym e))) (before.kept unknown);
}

-- a line that is passed over
pub learning_past : (first i place : ℕ) (chunk : List ℕ) (found : Line) (old now : LineMemory) → IsLearning first i place chunk found old now
    → IsLearning first (i + 1) place chunk found old now
learning_past first i place chunk found old now before = record {
  learns = before.learns;
  ahead = λ j v far in_j nj h. before.ahead j v (omega arith) in_j nj h;
  kept = before.kept;
}

-- a line of a chunk that was read is read where it stands
pub line_of_read : (known : Option (List ℕ)) (first line : ℕ) (chunk : List ℕ) (value : Line)
    → IfSome (bytes_from known (line_start first)) (λ left. chunk ≡ padded 4096 left) → InChunk first chunk line value → IfSome known (λ xs. IsLineOf xs line value)
line_of_read None first line chunk value filled is = tt
line_of_read (Some xs) first line chunk value filled is =
    let at = 64 * is.place in
    let below = is.below in
    let line_is = is.line_is in
    let start : line_start first + at ≡ line_start line = omega arith in
    let part : slice_range chunk at (at + 64) ≡ padded 64 (drop (line_start line) xs) =
    ap (λ (l : List ℕ). slice_range l at (at + 64)) filled ∙ padded_part 4096 at 64 (drop (line_start first) xs) (omega arith)
    ∙ ap (padded 64) (drop-drop at (line_start first) xs ∙ ap (λ (n : ℕ). drop n xs) start) in
    record { words = subst (λ (l : List ℕ). IsRead little_number 8 l value.words) part is.words }

pub loads_of_chunk : {F : Type 0} (known : F → Option (List ℕ)) (first line : ℕ) (open_file new_file : Option F) (chunk : List ℕ) (value : Line)
    → ReadsAt known (line_start first) 4096 open_file new_file chunk → InChunk first chunk line value → LoadsLine known line open_file new_file value
loads_of_chunk known first line open_file None chunk value reads is = absurd reads.filled
loads_of_chunk known first line open_file (Some file) chunk value reads is =
    record { same = reads.same; read = line_of_read (known file) first line chunk value reads.filled is }

-- the lines that were learned of a chunk were read
pub loads_unknown : {F : Type 0} (known : F → Option (List ℕ)) (first place line start size : ℕ) (open_file new_file : Option F) (chunk : List ℕ) (old new : LineMemory) (found : Line)
    → first + place ≡ line → IsUnknown old.gathered old.cache line → start ≡ line_start first → size ≡ 4096
    → ReadsAt known start size open_file new_file chunk → InChunk first chunk (first + place) found
    → (IsUnknown old.gathered old.cache (first + place) → Recalls new.gathered new.cache (first + place) found)
    → Learns (InChunk first chunk) old.gathered old.cache new.gathered new.cache → Loads known line open_file new_file old new found
loads_unknown known first place line start size open_file new_file chunk old new found at unknown start_is size_is read is now learns =
    let reads : ReadsAt known (line_start first) 4096 open_file new_file chunk =
    subst (λ (n : ℕ). ReadsAt known (line_start first) n open_file new_file chunk) size_is (subst (λ (n : ℕ). ReadsAt known n size open_file new_file chunk) start_is read) in
    record {
      recalled = λ value h. absurd (unknown value h);
      read = λ _. loads_of_chunk known first line open_file new_file chunk found reads (subst (λ (k : ℕ). InChunk first chunk k found) at is);
      now = subst (λ (k : ℕ). Recalls new.gathered new.cache k found) at (now (subst (λ (k : ℕ). IsUnknown old.gathered old.cache k) (sym at) unknown));
      others = record {
        same = learns.same;
        each = λ other value h. elim (learns.each other value h) [
          | inl before ↦ inl before
          | inr (none, of_chunk) ↦ inr (none, loads_of_chunk known first other open_file new_file chunk value reads of_chunk)
        ];
      };
    }
