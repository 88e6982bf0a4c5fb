-- A touch of a line keeps what holds of the fields between two calls.
use Rattle.std.proofs.Common.{◌≡◌, ℕ, zero, suc, ◌<◌, ◌≤◌, Bool, true, false, refl, sym, ap, ◌∙◌, subst, arith, is_some}
use Rattle.std.specs.Prelude.{Option, Some, None, ◌==◌, nat_lt, IsTrue}
use Rattle.nvm_model.specs.declared.line.Line.{Line}
use Rattle.tier_map.specs.declared.place.Place.{Place}
use Rattle.tier_map.specs.declared.place.Place.TheVariants.{Absent, Full, Mini}
use Rattle.tier_map.proofs.PlacementLaws.{changed-same}
use Rattle.page_frame.specs.LineSets.{has_line, line_count}
use Rattle.page_frame.specs.Frames.{Frame, line_at, resident_lines}
use Rattle.page_frame.proofs.FrameLaws.{resident-has}
use Rattle.migration_policy.specs.declared.policy.Question.TheVariants.{NvmRead}
use Rattle.tier_rules.specs.Plans.{Plan, dram_question}
use Rattle.tier_rules.specs.Entering.{begins}
use Rattle.tier_rules.specs.Parts.{Parts, copy_at}
use Rattle.tier_pool.specs.Places.{copy_dropped}
use Rattle.tier_pool.specs.FullRoom.{drawn, full_room}
use Rattle.tier_pool.specs.Hits.{frame_hit}
use Rattle.tier_pool.specs.Touching.{lines_moved, promoted}
use Rattle.tier_manager.specs.Entering.{BroughtIf, ThroughIf, through_by, ReadInIf, ReadInBy, EnteredBelow, EnteredAt, Entered, Begun, BegunIf, Opened}
use Rattle.tier_manager.specs.Touching.{IsThere, lines_at, FullReadied, PromotedTo, MiniReadied, ReadiedAt, Readied, Touched, marked_if, written_at, line_written}
use Rattle.tier_pool.specs.Standing.{IsSteady}
use Rattle.tier_pool.proofs.FullRoomLaws.{full_room_free}
use Rattle.tier_pool.proofs.SteadyRooms.{plan_full_room, steady_full_room, full_room_place}
use Rattle.tier_pool.proofs.SteadyLaws.{steady_access, steady_drawn, steady_full_hit, steady_mini_hit, steady_frame_hit, steady_marked, steady_fetched_into, steady_fetched_to_nvm, steady_brought, steady_brought_through, steady_brought_past, steady_full_load, steady_mini_load, steady_full_written, steady_mini_written, steady_promoted, full_low}

-- ---- the beginning of an access

drawn_steady : (page : ℕ) (writes : Bool) (parts : Parts) → IsSteady parts → IsSteady (drawn (dram_question writes) parts).parts
drawn_steady page writes parts s = steady_drawn (dram_question writes) parts (drawn (dram_question writes) parts).parts (drawn (dram_question writes) parts).yes refl s

brought_if : (said : Bool) (page : ℕ) (old new : Parts) → BroughtIf said page old new → old.map.place page ≡ Absent → IsSteady old → IsSteady new
brought_if true page old new is absent s = steady_brought page is.place old new is.is absent s
brought_if false page old new is absent s = subst IsSteady (sym is) s

through_if : (said : Bool) (page : ℕ) (old new : Parts) → ThroughIf said page old new → old.map.place page ≡ Absent → old.map.nvm page ≡ None → 1 ≤ old.frames → IsSteady old → IsSteady new
through_if true page old new is absent homeless some s = steady_brought_through page old new is.place is.is absent homeless some s
through_if false page old new is absent homeless some s = subst IsSteady (sym is) (steady_fetched_to_nvm page old some homeless s)

some_frames : (n : ℕ) → (n == 0) ≡ false → 1 ≤ n
some_frames zero e = absurd (let no : ⊥ = cc in no)
some_frames (suc n) e = omega arith

read_in : (said : Bool) (page : ℕ) (writes : Bool) (old new : Parts) → (said ≡ true → 1 ≤ old.frames) → ReadInIf said page writes old new → old.map.place page ≡ Absent → old.map.nvm page ≡ None → IsSteady old → IsSteady new
read_in false page writes old new some is absent homeless s = steady_brought_past page old new is absent s
read_in true page writes old new some is absent homeless s =
    through_if (drawn (dram_question writes) old).yes page (drawn (dram_question writes) old).parts new is absent homeless (some refl) (drawn_steady page writes old s)

homed : (no_frames : Bool) (page : ℕ) (writes : Bool) (old new : Parts) → (old.frames == 0) ≡ no_frames → ReadInBy (through_by no_frames old) page writes new
    → old.map.place page ≡ Absent → old.map.nvm page ≡ None → IsSteady old → IsSteady new
homed true page writes old new e is absent homeless s = read_in false page writes old new (λ said. absurd (let no : ⊥ = cc in no)) is absent homeless s
homed false page writes old new e is absent homeless s =
    let answer = through_by false old in
    read_in answer.yes page writes answer.parts new (λ said. some_frames old.frames e) is absent homeless (steady_drawn NvmRead old answer.parts answer.yes refl s)

entered_below : (o : Option ℕ) (page : ℕ) (writes : Bool) (old new : Parts) → EnteredBelow o page writes old new → old.map.nvm page ≡ o → old.map.place page ≡ Absent → IsSteady old → IsSteady new
entered_below (Some k) page writes old new is e absent s =
    let hit = frame_hit k old in
    brought_if (drawn (dram_question writes) hit).yes page (drawn (dram_question writes) hit).parts new is absent (drawn_steady page writes hit (steady_frame_hit old s k))
entered_below None page writes old new is e absent s = homed (old.frames == 0) page writes old new refl is absent e s

entered_at : (place : Place) (page : ℕ) (writes : Bool) (old new : Parts) → EnteredAt place page writes old new → old.map.place page ≡ place → IsSteady old → IsSteady new
entered_at Absent page writes old new is here s = entered_below (old.map.nvm page) page writes old new is refl here s
entered_at (Full i) page writes old new is here s = subst IsSteady (sym is) (steady_full_hit old s i)
entered_at (Mini j) page writes old new is here s = subst IsSteady (sym is) (steady_mini_hit old s j)

pub steady_entered : (page : ℕ) (writes : Bool) (old new : Parts) → Entered page writes old new → IsSteady old → IsSteady new
steady_entered page writes old new is s = entered_at (old.map.place page) page writes old new is refl s

pub steady_begun : (page : ℕ) (writes : Bool) (old new : Parts) → Begun page writes old new → IsSteady old → IsSteady new
steady_begun page writes old new begun s = subst IsSteady (sym begun.opened) (steady_access begun.entered (steady_entered page writes old begun.entered begun.is s) _)

opened_if : (b : Bool) (page : ℕ) (writes : Bool) (old new : Parts) → BegunIf b page writes old new → IsSteady old → IsSteady new
opened_if true page writes old new begun s = steady_begun page writes old new begun s
opened_if false page writes old new same s = subst IsSteady (sym same) s

pub steady_opened : (page : ℕ) (writes : Bool) (old new : Parts) → Opened page writes old new → IsSteady old → IsSteady new
steady_opened page writes old new opened s = opened_if (begins old.access page writes) page writes old new opened s

-- ---- a line is there

full_readied : (there : Bool) (page i line : ℕ) (old new : Parts) → FullReadied there i line old new → old.map.place page ≡ Full i → IsSteady old → IsSteady new
full_readied true page i line old new same here s = subst IsSteady (sym same) s
full_readied false page i line old new loaded here s = steady_full_load i line page old new loaded here (full_low page i old here s) s

promoted_to : (place : Place) (page line i : ℕ) (old new : Parts) → PromotedTo place page line i old new → old.map.place page ≡ place → old.map.full_page i ≡ None → i < old.plan.dram_frames
    → IsSteady old → IsSteady new
promoted_to (Mini j) page line i old new is here free low s =
    let after = steady_promoted page j i old here free low s in
    let at = changed-same page (Full i) (copy_dropped page (lines_moved j i old)).map.place page refl in
    steady_full_load i line page (promoted page j i old) new is at (full_low page i (promoted page j i old) at after) after
promoted_to Absent page line i old new is here free low s = steady_fetched_into page i old new is here free low s
promoted_to (Full h) page line i old new is here free low s = subst IsSteady (sym is) s

mini_readied : (there fits : Bool) (page j line : ℕ) (old new : Parts) → MiniReadied there fits page j line old new → old.map.place page ≡ Mini j → IsSteady old → IsSteady new
mini_readied true fits page j line old new same here s = subst IsSteady (sym same) s
mini_readied false true page j line old new loaded here s = steady_mini_load j line page old new loaded here s
mini_readied false false page j line old new is here s =
    let room = full_room old in
    promoted_to (room.parts.map.place page) page line room.place room.parts new is refl
    (full_room_free old room.parts room.place refl s.standing.fulls s.agrees)
    (subst (λ (plan : Plan). room.place < plan.dram_frames) (sym (plan_full_room old).plan) (full_room_place old s))
    (steady_full_room old s)

readied_at : (place : Place) (page line : ℕ) (old new : Parts) → ReadiedAt place page line old new → old.map.place page ≡ place → IsSteady old → IsSteady new
readied_at Absent page line old new same here s = subst IsSteady (sym same) s
readied_at (Full i) page line old new is here s = full_readied (has_line (lines_at (Full i) old) line) page i line old new is here s
readied_at (Mini j) page line old new is here s =
    mini_readied (has_line (lines_at (Mini j) old) line) (nat_lt (line_count (lines_at (Mini j) old)) 16) page j line old new is here s

pub steady_readied : (page line : ℕ) (old new : Parts) → Readied page line old new → IsSteady old → IsSteady new
steady_readied page line old new is s = readied_at (old.map.place page) page line old new is refl s

pub steady_touched : (page line : ℕ) (writes : Bool) (old new : Parts) → Touched page line writes old new → IsSteady old → IsSteady new
steady_touched page line writes old new touched s = steady_readied page line touched.opened new touched.readied (steady_opened page writes old touched.opened touched.opens s)

-- ---- a line is written

pub value_at : (frame : Frame) (line : ℕ) → IsTrue (has_line (resident_lines frame) line) → (value : Line) × (line_at frame line ≡ Some value)
value_at frame line there = by (line_at frame line) refl
  where
    by : (o : Option Line) → line_at frame line ≡ o → (value : Line) × (line_at frame line ≡ Some value)
    by (Some value) e = (value, e)
    by None e = absurd (let some = sym (resident-has frame line) ∙ there in let none = ap (λ (o : Option Line). is_some o) e in let no : ⊥ = cc in no)

marked : (o : Option ℕ) (parts : Parts) → IsSteady parts → IsSteady (marked_if o parts)
marked None parts s = s
marked (Some k) parts s = steady_marked parts s k

written : (place : Place) (page line : ℕ) (value : Line) (parts : Parts) → parts.map.place page ≡ place → line < 64 → IsThere place line parts → IsSteady parts → IsSteady (written_at place page line value parts)
written Absent page line value parts here small there s = marked (parts.map.nvm page) parts s
written (Full i) page line value parts here small there s =
    let was = value_at (copy_at (Full i) parts.arena parts.minis) line there in
    steady_full_written i line page value was.0 parts here (full_low page i parts here s) small (ap (λ (p : Place). line_at (copy_at p parts.arena parts.minis) line) here ∙ was.1) s
written (Mini j) page line value parts here small there s =
    let was = value_at (copy_at (Mini j) parts.arena parts.minis) line there in
    steady_mini_written j line page value was.0 parts here small (ap (λ (p : Place). line_at (copy_at p parts.arena parts.minis) line) here ∙ was.1) s

-- the line is there where the page has a copy
pub steady_line_written : (page line : ℕ) (value : Line) (parts : Parts) → line < 64 → IsThere (parts.map.place page) line parts → IsSteady parts → IsSteady (line_written page line value parts)
steady_line_written page line value parts small there s = written (parts.map.place page) page line value parts refl small there s
