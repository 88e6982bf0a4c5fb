-- As many blocks are read as fetches are counted: room takes no fetch, and each fetch one.
use Rattle.std.proofs.Common.{Bool, true, false, ◌≡◌, ℕ, refl, sym, ap, ◌∙◌, Result, Ok, Err}
use Rattle.std.specs.Prelude.{OnOk, Option, Some, None, ◌==◌}
use Rattle.devices.specs.World.{Standing}
use Rattle.line_pages.specs.declared.stop.Stop.{Stop}
use Rattle.tier_map.specs.declared.place.Place.{Place}
use Rattle.tier_map.specs.declared.place.Place.TheVariants.{Absent, Full, Mini}
use Rattle.page_frame.specs.LineSets.{no_lines}
use Rattle.clock_sweep.specs.Clock.{Swept, lowest_empty, victim}
use Rattle.tier_rules.specs.declared.tally.Tally.{Tally}
use Rattle.tier_rules.specs.Parts.{Parts, dirty_at}
use Rattle.tier_pool.specs.Places.{copy_cleaned, copy_dropped, copy_stored, frame_marked, place_emptied, stored_unless}
use Rattle.tier_pool.specs.NvmRoom.{PartsRoom, copy_given_up, victim_left, frame_swept, frame_room_by, frame_room}
use Rattle.tier_pool.specs.FullRoom.{drawn_if, admission_by, admitted, moved_if, handed_by, handed_down, full_dirty_at, full_left, full_swept, full_room_by, full_room}
use Rattle.tier_pool.specs.Bringing.{PartsPlace, mini_given_up, mini_left, mini_swept, mini_room_by, dram_room_by, dram_room, placed_at}
use Rattle.tier_pool.specs.Calls.{FetchesCounted}

-- ---- the counts of two calls

pub fetches_before : (p q r : Parts) (a b c : Standing) → q.tally.fetches ≡ p.tally.fetches → b.block_reads ≡ a.block_reads → FetchesCounted q r b c → FetchesCounted p r a c
fetches_before p q r a b c same reads it = rw (sym same, sym reads) (record { count = it.count; reads = it.reads; fetches = it.fetches })

pub fetches_behind : {p q : Parts} (r : Parts) {a b : Standing} (c : Standing) → FetchesCounted p q a b → r.tally.fetches ≡ q.tally.fetches → c.block_reads ≡ b.block_reads → FetchesCounted p r a c
fetches_behind r c it same reads = record { count = it.count; reads = reads ∙ it.reads; fetches = same ∙ it.fetches }

-- ---- copies and frames that are given up

cleaned_tally : (place : Place) (parts : Parts) → (copy_cleaned place parts).tally ≡ parts.tally
cleaned_tally Absent parts = refl
cleaned_tally (Full i) parts = refl
cleaned_tally (Mini j) parts = refl

unless_tally : (clean : Bool) (place : Place) (k : ℕ) (parts : Parts) → (stored_unless clean place k parts).tally ≡ parts.tally
unless_tally true place k parts = refl
unless_tally false place k parts = cleaned_tally place (frame_marked k parts)

stored_tally : (place : Place) (k : ℕ) (parts : Parts) → (copy_stored place k parts).tally ≡ parts.tally
stored_tally place k parts = unless_tally (dirty_at place parts.full_dirty parts.minis == no_lines) place k parts

emptied_tally : (place : Place) (parts : Parts) → (place_emptied place parts).tally ≡ parts.tally
emptied_tally Absent parts = refl
emptied_tally (Full i) parts = refl
emptied_tally (Mini j) parts = refl

dropped_tally : (page : ℕ) (parts : Parts) → (copy_dropped page parts).tally ≡ parts.tally
dropped_tally page parts = emptied_tally (parts.map.place page) parts

given_tally : (page k : ℕ) (parts : Parts) → (copy_given_up page k parts).tally ≡ parts.tally
given_tally page k parts = dropped_tally page (copy_stored (parts.map.place page) k parts) ∙ stored_tally (parts.map.place page) k parts

-- ---- room in NVM

left_fetches : (o : Option ℕ) (k : ℕ) (parts : Parts) → (victim_left o k parts).tally.fetches ≡ parts.tally.fetches
left_fetches None k parts = refl
left_fetches (Some page) k parts = ap (λ (t : Tally). t.fetches) (given_tally page k parts)

frame_swept_fetches : (o : Option Swept) (parts : Parts) → (frame_swept o parts).parts.tally.fetches ≡ parts.tally.fetches
frame_swept_fetches None parts = refl
frame_swept_fetches (Some v) parts = refl

frame_fetches_by : (o : Option ℕ) (parts : Parts) → (frame_room_by o parts).parts.tally.fetches ≡ parts.tally.fetches
frame_fetches_by (Some k) parts = refl
frame_fetches_by None parts =
    let swept = frame_swept (victim parts.nvm_clock) parts in
    left_fetches (swept.parts.map.frame_page swept.place) swept.place swept.parts ∙ frame_swept_fetches (victim parts.nvm_clock) parts

pub frame_room_fetches : (parts after : Parts) (k : ℕ) → frame_room parts ≡ record { place = k; parts = after } → after.tally.fetches ≡ parts.tally.fetches
frame_room_fetches parts after k is = ap (λ (room : PartsRoom). room.parts.tally.fetches) (sym is) ∙ frame_fetches_by (lowest_empty parts.nvm_clock) parts

-- ---- room for a full copy

drawn_tally : (dirty : Bool) (parts : Parts) → (drawn_if dirty parts).parts.tally ≡ parts.tally
drawn_tally true parts = refl
drawn_tally false parts = refl

admission_tally : (no_frames no_queue dirty : Bool) (page : ℕ) (parts : Parts) → (admission_by no_frames no_queue dirty page parts).parts.tally ≡ parts.tally
admission_tally true no_queue dirty page parts = refl
admission_tally false true dirty page parts = drawn_tally dirty parts
admission_tally false false dirty page parts = refl

moved_fetches : (yes dirty : Bool) (page i : ℕ) (parts : Parts) → (moved_if yes dirty page i parts).tally.fetches ≡ parts.tally.fetches
moved_fetches true dirty page i parts = frame_fetches_by (lowest_empty parts.nvm_clock) parts
moved_fetches false true page i parts = refl
moved_fetches false false page i parts = refl

handed_fetches : (o : Option ℕ) (page i : ℕ) (parts : Parts) → (handed_by o page i parts).tally.fetches ≡ parts.tally.fetches
handed_fetches (Some k) page i parts = ap (λ (t : Tally). t.fetches) (stored_tally (Full i) k parts)
handed_fetches None page i parts =
    let dirty = full_dirty_at i parts in let answer = admitted dirty page parts in
    moved_fetches answer.yes dirty page i answer.parts ∙ ap (λ (t : Tally). t.fetches) (admission_tally (parts.frames == 0) (parts.plan.queue_len == 0) dirty page parts)

full_left_fetches : (o : Option ℕ) (i : ℕ) (parts : Parts) → (full_left o i parts).tally.fetches ≡ parts.tally.fetches
full_left_fetches None i parts = refl
full_left_fetches (Some page) i parts =
    ap (λ (t : Tally). t.fetches) (dropped_tally page (handed_down page i parts)) ∙ handed_fetches (parts.map.nvm page) page i parts

full_swept_fetches : (o : Option Swept) (parts : Parts) → (full_swept o parts).parts.tally.fetches ≡ parts.tally.fetches
full_swept_fetches None parts = refl
full_swept_fetches (Some v) parts = refl

full_fetches_by : (o : Option ℕ) (parts : Parts) → (full_room_by o parts).parts.tally.fetches ≡ parts.tally.fetches
full_fetches_by (Some i) parts = refl
full_fetches_by None parts =
    let swept = full_swept (victim parts.full_clock) parts in
    full_left_fetches (swept.parts.map.full_page swept.place) swept.place swept.parts ∙ full_swept_fetches (victim parts.full_clock) parts

pub full_room_fetches : (parts after : Parts) (i : ℕ) → full_room parts ≡ record { place = i; parts = after } → after.tally.fetches ≡ parts.tally.fetches
full_room_fetches parts after i is = ap (λ (room : PartsRoom). room.parts.tally.fetches) (sym is) ∙ full_fetches_by (lowest_empty parts.full_clock) parts

-- ---- room in DRAM

mini_given_fetches : (o : Option ℕ) (page : ℕ) (parts : Parts) → (mini_given_up o page parts).tally.fetches ≡ parts.tally.fetches
mini_given_fetches None page parts = refl
mini_given_fetches (Some k) page parts = ap (λ (t : Tally). t.fetches) (given_tally page k parts)

mini_left_fetches : (o : Option ℕ) (parts : Parts) → (mini_left o parts).tally.fetches ≡ parts.tally.fetches
mini_left_fetches None parts = refl
mini_left_fetches (Some page) parts = mini_given_fetches (parts.map.nvm page) page parts

mini_swept_fetches : (o : Option Swept) (parts : Parts) → (mini_swept o parts).parts.tally.fetches ≡ parts.tally.fetches
mini_swept_fetches None parts = refl
mini_swept_fetches (Some v) parts = refl

mini_fetches_by : (o : Option ℕ) (parts : Parts) → (mini_room_by o parts).parts.tally.fetches ≡ parts.tally.fetches
mini_fetches_by (Some j) parts = refl
mini_fetches_by None parts =
    let swept = mini_swept (victim parts.mini_clock) parts in
    mini_left_fetches (swept.parts.map.mini_owner swept.place) swept.parts ∙ mini_swept_fetches (victim parts.mini_clock) parts

dram_fetches_by : (no_minis : Bool) (parts : Parts) → (dram_room_by no_minis parts).parts.tally.fetches ≡ parts.tally.fetches
dram_fetches_by true parts = full_fetches_by (lowest_empty parts.full_clock) parts
dram_fetches_by false parts = mini_fetches_by (lowest_empty parts.mini_clock) parts

pub dram_room_fetches : (parts after : Parts) (place : Place) → dram_room parts ≡ record { place = place; parts = after } → after.tally.fetches ≡ parts.tally.fetches
dram_room_fetches parts after place is = ap (λ (room : PartsPlace). room.parts.tally.fetches) (sym is) ∙ dram_fetches_by (parts.plan.minis == 0) parts

-- a copy that is placed
pub placed_fetches : (place : Place) (page : ℕ) (parts : Parts) → (placed_at place page parts).tally.fetches ≡ parts.tally.fetches
placed_fetches Absent page parts = refl
placed_fetches (Full i) page parts = refl
placed_fetches (Mini j) page parts = refl

-- ---- calls whose answer is handed on

pub counted_before : {T : Type 0} (p q r : Parts) (a b c : Standing) (x : Result T Stop) → q.tally.fetches ≡ p.tally.fetches → b.block_reads ≡ a.block_reads
    → OnOk x (FetchesCounted q r b c) → OnOk x (FetchesCounted p r a c)
counted_before p q r a b c (Ok v) same reads it = fetches_before p q r a b c same reads it
counted_before p q r a b c (Err why) same reads it = tt

pub counted_behind : {T : Type 0} (p q r made : Parts) (a b c : Standing) (x : Result T Stop) → FetchesCounted p q a b → OnOk x (r ≡ made) → made.tally.fetches ≡ q.tally.fetches → c.block_reads ≡ b.block_reads
    → OnOk x (FetchesCounted p r a c)
counted_behind p q r made a b c (Ok v) it is same reads = fetches_behind r c it (ap (λ (n : Parts). n.tally.fetches) is ∙ same) reads
counted_behind p q r made a b c (Err why) it is same reads = tt
