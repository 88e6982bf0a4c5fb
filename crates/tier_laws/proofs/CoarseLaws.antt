-- Of the dirty lines of a copy the rules read only whether there is one. A state that keeps no more than that goes the same way.
use Rattle.std.proofs.Common.{◌≡◌, ℕ, zero, suc, Bool, true, false, not, cond, refl, ap, sym, ◌∙◌}
use Rattle.std.specs.Prelude.{Option, Some, None, ◌==◌, nat_lt}
use Rattle.tier_map.specs.declared.place.Place.{Place}
use Rattle.tier_map.specs.declared.place.Place.TheVariants.{Absent, Full, Mini}
use Rattle.page_frame.specs.LineSets.{no_lines, has_line, line_count}
use Rattle.tier_map.specs.Placement.{changed}
use Rattle.tier_rules.specs.Plans.{dram_question}
use Rattle.clock_sweep.specs.Clock.{Swept, lowest_empty, victim, touched}
use Rattle.tier_rules.specs.Tallies.{one_fetch, nvm_hit, dram_eviction, nvm_eviction}
use Rattle.tier_rules.specs.State.{TierState, Room, counting, is_dirty}
use Rattle.tier_rules.specs.Storing.{stored_back, dropped, frame_emptied}
use Rattle.tier_rules.specs.NvmRoom.{released, nvm_evicted, nvm_room, room_in_nvm, installed, framed}
use Rattle.tier_rules.specs.FullRoom.{answered, draw, admission_by, admission, moved_down, moved_if, handed_down, given_up, full_evicted, full_room, room_in_full}
use Rattle.tier_rules.specs.Bringing.{fetched, mini_given_up, mini_evicted, mini_room, room_in_mini, DramRoom, room_by, room_in_dram, copied, brought_to, brought, brought_through, brought_past}
use Rattle.tier_rules.specs.Entering.{begins, brought_if, framed_if, through_nvm, read_in, entered_at, entered, entered_if, accessed}
use Rattle.tier_rules.specs.Touching.{promoted_to, outgrown, mini_touched, full_touched, ready_at, made_ready}
use Rattle.tier_rules.specs.Step.{Touch, ready_step}

-- one line where there is any
unfoldable pub some_line : Bool → ℕ
some_line true = 1
some_line false = 0

-- the state with one dirty line in each dirty copy
unfoldable pub coarse : TierState → TierState
coarse s = record s { dirty = λ page. some_line (is_dirty page s) }

unfoldable pub coarse_room : Room → Room
coarse_room room = record { place = room.place; state = coarse room.state }

unfoldable pub coarse_dram : DramRoom → DramRoom
coarse_dram room = record { place = room.place; state = coarse room.state }

-- one name for what the steps below look through
unfoldable pub look : ℕ
unfolding coarse coarse_room coarse_dram some_line
look = 0

still : (b : Bool) → not (some_line b == no_lines) ≡ b
unfolding look
still true = refl
still false = refl

pub is_dirty-coarse : (page : ℕ) (s : TierState) → is_dirty page (coarse s) ≡ is_dirty page s
unfolding look
is_dirty-coarse page s = still (is_dirty page s)

-- a page is clean
clean_line : (page : ℕ) (d : ℕ → ℕ) (q : ℕ) → some_line (not (changed page no_lines d q == no_lines)) ≡ changed page no_lines (λ r. some_line (not (d r == no_lines))) q
unfolding look
clean_line page d q = elim (q == page) as (λ b. some_line (not (cond b no_lines (d q) == no_lines)) ≡ cond b no_lines (some_line (not (d q == no_lines)))) [ true ↦ refl | false ↦ refl ]

pub clean_lines : (page : ℕ) (s : TierState) → ◌≡◌ {A = ℕ → ℕ} (λ q. some_line (not (changed page no_lines s.dirty q == no_lines))) (changed page no_lines (coarse s).dirty)
unfolding look
clean_lines page s = λ i q. clean_line page s.dirty q i

pub dropped-coarse : (page : ℕ) (s : TierState) → coarse (dropped page s) ≡ dropped page (coarse s)
unfolding look
dropped-coarse page s = ap (λ d. record (dropped page s) { dirty = d }) (clean_lines page s)

-- ---- room in NVM

released-coarse : (o : Option ℕ) (s : TierState) → coarse (released o s) ≡ released o (coarse s)
unfolding look
released-coarse None s = refl
released-coarse (Some page) s =
    ap (λ t. frame_emptied page (stored_back (s.map.nvm page) (is_dirty page s) t)) (dropped-coarse page s)
    ∙ ap (λ b. frame_emptied page (stored_back (s.map.nvm page) b (dropped page (coarse s)))) (sym (is_dirty-coarse page s))

nvm_evicted-coarse : (o : Option Swept) (s : TierState) → coarse_room (nvm_evicted o s) ≡ nvm_evicted o (coarse s)
unfolding look
nvm_evicted-coarse None s = refl
nvm_evicted-coarse (Some v) s = ap (λ t. record { place = v.place; state = t }) (released-coarse (s.map.frame_page v.place) (counting nvm_eviction (record s { nvm_clock = v.clock })))

nvm_room-coarse : (o : Option ℕ) (s : TierState) → coarse_room (nvm_room o s) ≡ nvm_room o (coarse s)
unfolding look
nvm_room-coarse (Some k) s = refl
nvm_room-coarse None s = nvm_evicted-coarse (victim s.nvm_clock) s

room_in_nvm-coarse : (s : TierState) → coarse_room (room_in_nvm s) ≡ room_in_nvm (coarse s)
unfolding look room_in_nvm
room_in_nvm-coarse s = nvm_room-coarse (lowest_empty s.nvm_clock) s

framed-coarse : (page : ℕ) (s : TierState) → coarse (framed page s) ≡ framed page (coarse s)
unfolding look framed installed
framed-coarse page s = ap (λ room. installed page room.place false (counting one_fetch room.state)) (room_in_nvm-coarse s)

-- ---- room for a full copy

admission_by-coarse : (f len : ℕ) (dirty : Bool) (page : ℕ) (s : TierState) → admission_by f len dirty page (coarse s) ≡ admission_by f len dirty page s
unfolding look
admission_by-coarse zero len dirty page s = refl
admission_by-coarse (suc f) zero false page s = refl
admission_by-coarse (suc f) zero true page s = refl
admission_by-coarse (suc f) (suc len) dirty page s = refl

admission-coarse : (dirty : Bool) (page : ℕ) (s : TierState) → admission dirty page (coarse s) ≡ admission dirty page s
unfolding look admission
admission-coarse dirty page s = admission_by-coarse s.frames s.plan.queue_len dirty page s

moved_down-coarse : (dirty : Bool) (page : ℕ) (s : TierState) → coarse (moved_down dirty page s) ≡ moved_down dirty page (coarse s)
unfolding look moved_down installed
moved_down-coarse dirty page s = ap (λ room. installed page room.place dirty room.state) (room_in_nvm-coarse s)

moved_if-coarse : (yes dirty : Bool) (page : ℕ) (s : TierState) → coarse (moved_if yes dirty page s) ≡ moved_if yes dirty page (coarse s)
unfolding look
moved_if-coarse true dirty page s = moved_down-coarse dirty page s
moved_if-coarse false true page s = refl
moved_if-coarse false false page s = refl

handed_down-coarse : (o : Option ℕ) (dirty : Bool) (page : ℕ) (s : TierState) → coarse (handed_down o dirty page s) ≡ handed_down o dirty page (coarse s)
unfolding look
handed_down-coarse (Some k) dirty page s = refl
handed_down-coarse None dirty page s =
    let answer = admission dirty page s in
    moved_if-coarse answer.yes dirty page (answered answer s)
    ∙ ap (λ a. moved_if a.yes dirty page (answered a (coarse s))) (sym (admission-coarse dirty page s))

given_up-coarse : (o : Option ℕ) (s : TierState) → coarse (given_up o s) ≡ given_up o (coarse s)
unfolding look
given_up-coarse None s = refl
given_up-coarse (Some page) s =
    handed_down-coarse (s.map.nvm page) (is_dirty page s) page (dropped page s)
    ∙ ap (λ t. handed_down (s.map.nvm page) (is_dirty page s) page t) (dropped-coarse page s)
    ∙ ap (λ b. handed_down (s.map.nvm page) b page (dropped page (coarse s))) (sym (is_dirty-coarse page s))

full_evicted-coarse : (o : Option Swept) (s : TierState) → coarse_room (full_evicted o s) ≡ full_evicted o (coarse s)
unfolding look
full_evicted-coarse None s = refl
full_evicted-coarse (Some v) s = ap (λ t. record { place = v.place; state = t }) (given_up-coarse (s.map.full_page v.place) (counting dram_eviction (record s { full_clock = v.clock })))

full_room-coarse : (o : Option ℕ) (s : TierState) → coarse_room (full_room o s) ≡ full_room o (coarse s)
unfolding look
full_room-coarse (Some i) s = refl
full_room-coarse None s = full_evicted-coarse (victim s.full_clock) s

room_in_full-coarse : (s : TierState) → coarse_room (room_in_full s) ≡ room_in_full (coarse s)
unfolding look room_in_full
room_in_full-coarse s = full_room-coarse (lowest_empty s.full_clock) s

-- ---- the ways to DRAM

fetched-coarse : (page i : ℕ) (s : TierState) → coarse (fetched page i s) ≡ fetched page i (coarse s)
unfolding look fetched
fetched-coarse page i s = ap (λ d. record (fetched page i s) { dirty = d }) (clean_lines page s)

mini_given_up-coarse : (o : Option ℕ) (s : TierState) → coarse (mini_given_up o s) ≡ mini_given_up o (coarse s)
unfolding look
mini_given_up-coarse None s = refl
mini_given_up-coarse (Some page) s =
    ap (λ t. stored_back (s.map.nvm page) (is_dirty page s) t) (dropped-coarse page s)
    ∙ ap (λ b. stored_back (s.map.nvm page) b (dropped page (coarse s))) (sym (is_dirty-coarse page s))

mini_evicted-coarse : (o : Option Swept) (s : TierState) → coarse_room (mini_evicted o s) ≡ mini_evicted o (coarse s)
unfolding look
mini_evicted-coarse None s = refl
mini_evicted-coarse (Some v) s = ap (λ t. record { place = v.place; state = t }) (mini_given_up-coarse (s.map.mini_owner v.place) (counting dram_eviction (record s { mini_clock = v.clock })))

mini_room-coarse : (o : Option ℕ) (s : TierState) → coarse_room (mini_room o s) ≡ mini_room o (coarse s)
unfolding look
mini_room-coarse (Some j) s = refl
mini_room-coarse None s = mini_evicted-coarse (victim s.mini_clock) s

room_in_mini-coarse : (s : TierState) → coarse_room (room_in_mini s) ≡ room_in_mini (coarse s)
unfolding look room_in_mini
room_in_mini-coarse s = mini_room-coarse (lowest_empty s.mini_clock) s

room_by-coarse : (minis : ℕ) (s : TierState) → coarse_dram (room_by minis s) ≡ room_by minis (coarse s)
unfolding look
room_by-coarse zero s = ap (λ room. record { place = Full room.place; state = room.state }) (room_in_full-coarse s)
room_by-coarse (suc minis) s = ap (λ room. record { place = Mini room.place; state = room.state }) (room_in_mini-coarse s)

room_in_dram-coarse : (s : TierState) → coarse_dram (room_in_dram s) ≡ room_in_dram (coarse s)
unfolding look room_in_dram
room_in_dram-coarse s = room_by-coarse s.plan.minis s

copied-coarse : (page : ℕ) (place : Place) (s : TierState) → coarse (copied page place s) ≡ copied page place (coarse s)
unfolding look copied
copied-coarse page place s = ap (λ d. record (copied page place s) { dirty = d }) (clean_lines page s)

brought_to-coarse : (o : Option ℕ) (page : ℕ) (place : Place) (s : TierState) → coarse (brought_to o page place s) ≡ brought_to o page place (coarse s)
unfolding look
brought_to-coarse (Some k) page place s = copied-coarse page place s
brought_to-coarse None page (Full i) s = fetched-coarse page i s
brought_to-coarse None page (Mini j) s = refl
brought_to-coarse None page Absent s = refl

brought-coarse : (page : ℕ) (s : TierState) → coarse (brought page s) ≡ brought page (coarse s)
unfolding look brought
brought-coarse page s =
    let room = room_in_dram s in
    brought_to-coarse (room.state.map.nvm page) page room.place room.state
    ∙ ap (λ r. brought_to (r.state.map.nvm page) page r.place r.state) (room_in_dram-coarse s)

brought_through-coarse : (page : ℕ) (s : TierState) → coarse (brought_through page s) ≡ brought_through page (coarse s)
unfolding look brought_through
brought_through-coarse page s =
    let room = room_in_dram s in
    copied-coarse page room.place (framed page room.state)
    ∙ ap (λ t. copied page room.place t) (framed-coarse page room.state)
    ∙ ap (λ r. copied page r.place (framed page r.state)) (room_in_dram-coarse s)

brought_past-coarse : (page : ℕ) (s : TierState) → coarse (brought_past page s) ≡ brought_past page (coarse s)
unfolding look brought_past
brought_past-coarse page s =
    let room = room_in_full s in
    fetched-coarse page room.place room.state
    ∙ ap (λ r. fetched page r.place r.state) (room_in_full-coarse s)

-- ---- the beginning of an access

brought_if-coarse : (yes : Bool) (page : ℕ) (s : TierState) → coarse (brought_if yes page s) ≡ brought_if yes page (coarse s)
brought_if-coarse true page s = brought-coarse page s
brought_if-coarse false page s = refl

framed_if-coarse : (yes : Bool) (page : ℕ) (s : TierState) → coarse (framed_if yes page s) ≡ framed_if yes page (coarse s)
framed_if-coarse true page s = brought_through-coarse page s
framed_if-coarse false page s = framed-coarse page s

through_nvm-coarse : (f : ℕ) (s : TierState) → through_nvm f (coarse s) ≡ through_nvm f s
unfolding look
through_nvm-coarse zero s = refl
through_nvm-coarse (suc f) s = refl

read_in-coarse : (yes : Bool) (page : ℕ) (writes : Bool) (s : TierState) → coarse (read_in yes page writes s) ≡ read_in yes page writes (coarse s)
unfolding look
read_in-coarse false page writes s = brought_past-coarse page s
read_in-coarse true page writes s = let answer = draw (dram_question writes) s in framed_if-coarse answer.yes page (answered answer s)

entered_at-coarse : (place : Place) (o : Option ℕ) (page : ℕ) (writes : Bool) (s : TierState) → coarse (entered_at place o page writes s) ≡ entered_at place o page writes (coarse s)
unfolding look
entered_at-coarse (Full i) o page writes s = refl
entered_at-coarse (Mini j) o page writes s = refl
entered_at-coarse Absent (Some k) page writes s =
    let answer = draw (dram_question writes) s in
    brought_if-coarse answer.yes page (answered answer (counting nvm_hit (record s { nvm_clock = touched k s.nvm_clock })))
entered_at-coarse Absent None page writes s =
    let answer = through_nvm s.frames s in
    read_in-coarse answer.yes page writes (answered answer s)
    ∙ ap (λ a. read_in a.yes page writes (answered a (coarse s))) (sym (through_nvm-coarse s.frames s))

entered-coarse : (page : ℕ) (writes : Bool) (s : TierState) → coarse (entered page writes s) ≡ entered page writes (coarse s)
unfolding look entered
entered-coarse page writes s = entered_at-coarse (s.map.place page) (s.map.nvm page) page writes (record s { access = Some (page, writes) })

entered_if-coarse : (b : Bool) (page : ℕ) (writes : Bool) (s : TierState) → coarse (entered_if b page writes s) ≡ entered_if b page writes (coarse s)
entered_if-coarse true page writes s = entered-coarse page writes s
entered_if-coarse false page writes s = refl

accessed-coarse : (page : ℕ) (writes : Bool) (s : TierState) → coarse (accessed page writes s) ≡ accessed page writes (coarse s)
unfolding look accessed
accessed-coarse page writes s = entered_if-coarse (begins s.access page writes) page writes s

-- ---- a line is touched

promoted_to-coarse : (place : Place) (page l i : ℕ) (s : TierState) → coarse (promoted_to place page l i s) ≡ promoted_to place page l i (coarse s)
unfolding look
promoted_to-coarse Absent page l i s = fetched-coarse page i s
promoted_to-coarse (Full h) page l i s = refl
promoted_to-coarse (Mini j) page l i s = refl

outgrown-coarse : (page l : ℕ) (s : TierState) → coarse (outgrown page l s) ≡ outgrown page l (coarse s)
unfolding look outgrown
outgrown-coarse page l s =
    let room = room_in_full s in
    promoted_to-coarse (room.state.map.place page) page l room.place room.state
    ∙ ap (λ r. promoted_to (r.state.map.place page) page l r.place r.state) (room_in_full-coarse s)

mini_touched-coarse : (b fits : Bool) (page l : ℕ) (s : TierState) → coarse (mini_touched b fits page l s) ≡ mini_touched b fits page l (coarse s)
unfolding look
mini_touched-coarse true fits page l s = refl
mini_touched-coarse false true page l s = refl
mini_touched-coarse false false page l s = outgrown-coarse page l s

full_touched-coarse : (b : Bool) (page l : ℕ) (s : TierState) → coarse (full_touched b page l s) ≡ full_touched b page l (coarse s)
unfolding look
full_touched-coarse true page l s = refl
full_touched-coarse false page l s = refl

ready_at-coarse : (place : Place) (page l : ℕ) (s : TierState) → coarse (ready_at place page l s) ≡ ready_at place page l (coarse s)
unfolding look
ready_at-coarse Absent page l s = refl
ready_at-coarse (Full i) page l s = full_touched-coarse (has_line (s.resident page) l) page l s
ready_at-coarse (Mini j) page l s = mini_touched-coarse (has_line (s.resident page) l) (nat_lt (line_count (s.resident page)) 16) page l s

made_ready-coarse : (page l : ℕ) (s : TierState) → coarse (made_ready page l s) ≡ made_ready page l (coarse s)
unfolding look made_ready
made_ready-coarse page l s = ready_at-coarse (s.map.place page) page l s

pub ready_step-coarse : (touch : Touch) (s : TierState) → coarse (ready_step touch s) ≡ ready_step touch (coarse s)
unfolding ready_step
ready_step-coarse touch s =
    made_ready-coarse touch.page touch.line (accessed touch.page touch.writes s)
    ∙ ap (λ t. made_ready touch.page touch.line t) (accessed-coarse touch.page touch.writes s)
