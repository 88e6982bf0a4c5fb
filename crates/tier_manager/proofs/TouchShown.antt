-- A touch of a line: the fields do what the rules do.
use Rattle.std.proofs.Common.{◌≡◌, ℕ, ◌<◌, Bool, true, false, refl, sym, ap, ◌∙◌, subst}
use Rattle.std.specs.Prelude.{Option, Some, None, nat_lt}
use Rattle.nvm_model.specs.declared.line.Line.{Line}
use Rattle.tier_map.specs.declared.place.Place.{Place}
use Rattle.tier_map.specs.declared.place.Place.TheVariants.{Absent, Full, Mini}
use Rattle.tier_map.proofs.PlacementLaws.{changed-same}
use Rattle.page_frame.specs.LineSets.{has_line, line_count}
use Rattle.page_frame.specs.Frames.{line_at, resident_lines}
use Rattle.migration_policy.specs.Draws.{generator_after}
use Rattle.tier_rules.specs.Plans.{Plan}
use Rattle.tier_rules.specs.State.{TierState}
use Rattle.tier_rules.specs.FullRoom.{room_in_full}
use Rattle.tier_rules.specs.Entering.{accessed}
use Rattle.tier_rules.specs.Touching as rule
use Rattle.tier_rules.specs.Touching.{loaded, made_ready, outgrown, marked}
use Rattle.tier_rules.specs.Sound.{Sound}
use Rattle.tier_rules.specs.Step.{ready_step, tier_step}
use Rattle.tier_rules.specs.Parts.{Parts, copy_at}
use Rattle.tier_laws.proofs.TouchLaws.{IsReady, made_ready-ready}
use Rattle.pool_laws.specs.States.{IsAfter, state_of, IsState}
use Rattle.tier_pool.specs.Places.{copy_dropped, frame_marked}
use Rattle.tier_pool.specs.FullRoom.{full_room}
use Rattle.tier_pool.specs.Touching.{LoadedToFull, LoadedToMini, loaded_to_full, loaded_to_mini, full_written, mini_written, lines_moved, promoted}
use Rattle.tier_manager.specs.Touching.{IsThere, lines_at, FullReadied, PromotedTo, MiniReadied, ReadiedAt, Readied, Touched, marked_if, written_at, line_written, Wrote}
use Rattle.tier_pool.specs.Standing.{IsSteady}
use Rattle.tier_pool.proofs.FullRoomLaws.{full_room_free}
use Rattle.tier_pool.proofs.SteadyPieces.{steady_to}
use Rattle.tier_pool.proofs.SteadyRooms.{plan_dropped, plan_full_room, steady_full_room, full_room_place}
use Rattle.tier_pool.proofs.SteadyLaws.{steady_promoted}
use Rattle.tier_manager.proofs.SteadyTouch.{value_at, steady_opened, steady_readied}
use Rattle.pool_laws.proofs.StateLaws.{shown_at}
use Rattle.pool_laws.proofs.StoreShown.{state_marked}
use Rattle.pool_laws.proofs.DrawsKept.{draws_dropped}
use Rattle.pool_laws.proofs.DramShown.{state_is, frame_low}
use Rattle.pool_laws.proofs.RoomShown.{state_full_room}
use Rattle.pool_laws.proofs.BringShown.{of_state, shown_fetched}
use Rattle.pool_laws.proofs.LineShown.{state_full_loaded, state_full_written, state_mini_loaded, state_mini_written, state_promoted}
use Rattle.tier_manager.proofs.EnterShown.{shown_opened}
use Rattle.pool_laws.proofs.SoundShown.{steady_sound}

-- ---- a line is loaded

module _ (n page l : ℕ) (small : l < 64) (old new : Parts) (after : IsAfter n old) (s : IsSteady old) where
  full_loaded : (i : ℕ) → LoadedToFull i l old new → old.map.place page ≡ Full i → IsState new (loaded page l (state_of n old))
  full_loaded i is here =
      subst (λ (parts : Parts). IsState parts (loaded page l (state_of n old))) (sym is.is)
      (shown_at n (loaded_to_full i l is.value old) (loaded page l (state_of n old)) (state_full_loaded n page old s i l is.value here small) after.draws)

  mini_loaded : (j : ℕ) → LoadedToMini j l old new → old.map.place page ≡ Mini j → IsState new (loaded page l (state_of n old))
  mini_loaded j is here =
      subst (λ (parts : Parts). IsState parts (loaded page l (state_of n old))) (sym is.is)
      (shown_at n (loaded_to_mini j l is.value old) (loaded page l (state_of n old)) (state_mini_loaded n page old s j l is.value here small) after.draws)

  same_shown : new ≡ old → IsState new (state_of n old)
  same_shown is = subst (λ (parts : Parts). IsState parts (state_of n old)) (sym is) (state_is n old after)

shown_promoted : (n page j i : ℕ) (parts : Parts) → parts.map.place page ≡ Mini j → parts.map.full_page i ≡ None → i < parts.plan.dram_frames → IsAfter n parts → IsSteady parts
    → IsState (promoted page j i parts) (rule.promoted page i (state_of n parts))
shown_promoted n page j i parts here free low after s =
    shown_at n (promoted page j i parts) (rule.promoted page i (state_of n parts)) (state_promoted n page parts s j i here free low)
    (draws_dropped page (lines_moved j i parts) ∙ after.draws ∙ ap (λ (plan : Plan). generator_after plan.seed n) (sym (plan_dropped page (lines_moved j i parts)).plan))

promoted_to : (n : ℕ) (place : Place) (page l i : ℕ) (old new : Parts) → l < 64 → PromotedTo place page l i old new → old.map.place page ≡ place → old.map.full_page i ≡ None → i < old.plan.dram_frames
    → IsAfter n old → IsSteady old → IsState new (rule.promoted_to place page l i (state_of n old))
promoted_to n (Mini j) page l i old new small is here free low after s =
    of_state (promoted page j i old) (rule.promoted page i (state_of n old)) (λ t. IsState new (loaded page l t)) (shown_promoted n page j i old here free low after s)
    (λ now. full_loaded (rule.promoted page i (state_of n old)).drawn page l small (promoted page j i old) new now (steady_promoted page j i old here free low s) i is
    (changed-same page (Full i) (copy_dropped page (lines_moved j i old)).map.place page refl))
promoted_to n Absent page l i old new small is here free low after s = shown_fetched n page i old new is free low after s
promoted_to n (Full h) page l i old new small is here free low after s = subst (λ (parts : Parts). IsState parts (state_of n old)) (sym is) (state_is n old after)

-- ---- a line is there

full_readied : (n : ℕ) (there : Bool) (page i l : ℕ) (old new : Parts) → l < 64 → FullReadied there i l old new → old.map.place page ≡ Full i → IsAfter n old → IsSteady old
    → IsState new (rule.full_touched there page l (state_of n old))
full_readied n true page i l old new small is here after s = same_shown n page l small old new after s is
full_readied n false page i l old new small is here after s = full_loaded n page l small old new after s i is here

mini_readied : (n : ℕ) (there fits : Bool) (page j l : ℕ) (old new : Parts) → l < 64 → MiniReadied there fits page j l old new → old.map.place page ≡ Mini j → IsAfter n old → IsSteady old
    → IsState new (rule.mini_touched there fits page l (state_of n old))
unfolding outgrown
mini_readied n true fits page j l old new small is here after s = same_shown n page l small old new after s is
mini_readied n false true page j l old new small is here after s = mini_loaded n page l small old new after s j is here
mini_readied n false false page j l old new small is here after s =
    let room = full_room old in let shown = room_in_full (state_of n old) in
    let shows = state_full_room n old after (steady_to old s) in
    subst (λ (i : ℕ). IsState new (rule.promoted_to (shown.state.map.place page) page l i shown.state)) shows.place
    (of_state room.parts shown.state (λ t. IsState new (rule.promoted_to (t.map.place page) page l room.place t)) shows.state
    (λ now. promoted_to shown.state.drawn (room.parts.map.place page) page l room.place room.parts new small is refl
    (full_room_free old room.parts room.place refl s.standing.fulls s.agrees)
    (subst (λ (plan : Plan). room.place < plan.dram_frames) (sym (plan_full_room old).plan) (full_room_place old s)) now (steady_full_room old s)))

ready_at : (n : ℕ) (place : Place) (page l : ℕ) (old new : Parts) → l < 64 → ReadiedAt place page l old new → old.map.place page ≡ place → IsAfter n old → IsSteady old
    → IsState new (rule.ready_at place page l (state_of n old))
ready_at n Absent page l old new small is here after s = same_shown n page l small old new after s is
ready_at n (Full i) page l old new small is here after s =
    subst (λ (p : Place). IsState new (rule.full_touched (has_line (resident_lines (copy_at p old.arena old.minis)) l) page l (state_of n old))) (sym here)
    (full_readied n (has_line (lines_at (Full i) old) l) page i l old new small is here after s)
ready_at n (Mini j) page l old new small is here after s =
    subst (λ (p : Place). let lines = resident_lines (copy_at p old.arena old.minis) in IsState new (rule.mini_touched (has_line lines l) (nat_lt (line_count lines) 16) page l (state_of n old))) (sym here)
    (mini_readied n (has_line (lines_at (Mini j) old) l) (nat_lt (line_count (lines_at (Mini j) old)) 16) page j l old new small is here after s)

pub shown_readied : (page l : ℕ) (old new : Parts) (s : TierState) → l < 64 → IsState old s → Readied page l old new → IsSteady old → IsState new (made_ready page l s)
unfolding made_ready
shown_readied page l old new s small shown is steady =
    of_state old s (λ t. IsState new (made_ready page l t)) shown (λ after. ready_at s.drawn (old.map.place page) page l old new small is refl after steady)

-- the touch up to the new value
pub shown_touched : (page l : ℕ) (writes : Bool) (old new : Parts) (s : TierState) → l < 64 → IsState old s → Touched page l writes old new → IsSteady old
    → IsState new (ready_step (record { page = page; line = l; writes = writes }) s)
unfolding ready_step
shown_touched page l writes old new s small shown touched steady =
    shown_readied page l touched.opened new (accessed page writes s) small (shown_opened page writes old touched.opened s shown touched.opens steady) touched.readied
    (steady_opened page writes old touched.opened touched.opens steady)

-- ---- a line is written

marked_at : (n : ℕ) (o : Option ℕ) (page : ℕ) (parts : Parts) → parts.map.nvm page ≡ o → IsAfter n parts → IsSteady parts → IsState (marked_if o parts) (rule.marked_frame o (state_of n parts))
marked_at n None page parts e after s = state_is n parts after
marked_at n (Some k) page parts e after s =
    shown_at n (frame_marked k parts) (rule.marked_frame (Some k) (state_of n parts)) (state_marked n k parts (frame_low page k parts e (steady_to parts s))) after.draws

written_shown : (n : ℕ) (place : Place) (page l : ℕ) (value : Line) (parts : Parts) → parts.map.place page ≡ place → l < 64 → IsThere place l parts → IsAfter n parts → IsSteady parts
    → IsState (written_at place page l value parts) (rule.marked_at place page l (state_of n parts))
written_shown n Absent page l value parts here small there after s = marked_at n (parts.map.nvm page) page parts refl after s
written_shown n (Full i) page l value parts here small there after s =
    let was = value_at (copy_at (Full i) parts.arena parts.minis) l there in
    shown_at n (full_written i l value parts) (rule.marked_line page l (state_of n parts))
    (state_full_written n page parts s i l value here small was.0 (ap (λ (p : Place). line_at (copy_at p parts.arena parts.minis) l) here ∙ was.1)) after.draws
written_shown n (Mini j) page l value parts here small there after s =
    let was = value_at (copy_at (Mini j) parts.arena parts.minis) l there in
    shown_at n (mini_written j l value parts) (rule.marked_line page l (state_of n parts))
    (state_mini_written n page parts s j l value here small was.0 (ap (λ (p : Place). line_at (copy_at p parts.arena parts.minis) l) here ∙ was.1)) after.draws

pub shown_line_written : (page l : ℕ) (value : Line) (parts : Parts) (s : TierState) → l < 64 → IsState parts s → IsThere (parts.map.place page) l parts → IsSteady parts
    → IsState (line_written page l value parts) (marked page l s)
unfolding marked
shown_line_written page l value parts s small shown there steady =
    of_state parts s (λ t. IsState (line_written page l value parts) (marked page l t)) shown (λ after. written_shown s.drawn (parts.map.place page) page l value parts refl small there after steady)

-- behind the first part of a touch the line is there
there_by : (place : Place) (page l : ℕ) (parts : Parts) → parts.map.place page ≡ place → IsReady place (resident_lines (copy_at (parts.map.place page) parts.arena parts.minis)) l → IsThere place l parts
unfolding IsReady
there_by Absent page l parts here ready = tt
there_by (Full i) page l parts here ready = ap (λ (p : Place). has_line (resident_lines (copy_at p parts.arena parts.minis)) l) (sym here) ∙ ready
there_by (Mini j) page l parts here ready = ap (λ (p : Place). has_line (resident_lines (copy_at p parts.arena parts.minis)) l) (sym here) ∙ ready

pub touched_there : (page l : ℕ) (writes : Bool) (old new : Parts) (s : TierState) → l < 64 → IsState old s → Touched page l writes old new → IsSteady old → IsThere (new.map.place page) l new
touched_there page l writes old new s small shown touched steady =
    let opened = shown_opened page writes old touched.opened s shown touched.opens steady in
    let steady_then = steady_opened page writes old touched.opened touched.opens steady in
    let readied = shown_readied page l touched.opened new (accessed page writes s) small opened touched.readied steady_then in
    let ready = made_ready-ready page l (accessed page writes s) small (subst Sound opened.is (steady_sound (accessed page writes s).drawn touched.opened steady_then)) in
    there_by (new.map.place page) page l new refl (subst (λ (t : TierState). IsReady (t.map.place page) (t.resident page) l) (sym readied.is) ready)

-- the whole touch
pub shown_wrote : (page l : ℕ) (value : Line) (old new : Parts) (s : TierState) → l < 64 → IsState old s → Wrote page l value old new → IsSteady old
    → IsState new (tier_step (record { page = page; line = l; writes = true }) s)
unfolding tier_step
shown_wrote page l value old new s small shown wrote steady =
    let touched = shown_touched page l true old wrote.touched s small shown wrote.touch steady in
    let then = steady_readied page l wrote.touch.opened wrote.touched wrote.touch.readied (steady_opened page true old wrote.touch.opened wrote.touch.opens steady) in
    subst (λ (parts : Parts). IsState parts (tier_step (record { page = page; line = l; writes = true }) s)) (sym wrote.is)
    (shown_line_written page l value wrote.touched (ready_step (record { page = page; line = l; writes = true }) s) small touched (touched_there page l true old wrote.touched s small shown wrote.touch steady) then)
