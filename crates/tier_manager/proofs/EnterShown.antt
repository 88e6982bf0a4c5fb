-- The beginning of an access: the fields do what the rules do.
use Rattle.std.proofs.Common.{◌≡◌, ℕ, zero, suc, ◌≤◌, Bool, true, false, refl, sym, ap, subst, arith}
use Rattle.std.specs.Prelude.{Option, Some, None, ◌==◌}
use Rattle.std.proofs.lemmas.Bool.{eqb-true}
use Rattle.tier_map.specs.declared.place.Place.{Place}
use Rattle.tier_map.specs.declared.place.Place.TheVariants.{Absent, Full, Mini}
use Rattle.migration_policy.specs.declared.policy.Question.{Question}
use Rattle.migration_policy.specs.declared.policy.Question.TheVariants.{NvmRead}
use Rattle.tier_rules.specs.Plans.{dram_question}
use Rattle.tier_rules.specs.State.{TierState}
use Rattle.tier_rules.specs.FullRoom.{draw, answered}
use Rattle.tier_rules.specs.Entering as rule
use Rattle.tier_rules.specs.Entering.{begins, entered, accessed}
use Rattle.tier_rules.specs.Parts.{Parts}
use Rattle.pool_laws.specs.States.{IsAfter, state_of, IsState}
use Rattle.tier_pool.specs.FullRoom.{drawn}
use Rattle.tier_pool.specs.Hits.{full_hit, mini_hit, frame_hit}
use Rattle.tier_manager.specs.Entering.{BroughtIf, ThroughIf, through_by, ReadInIf, ReadInBy, EnteredBelow, EnteredAt, Entered, BegunIf, Opened}
use Rattle.tier_pool.specs.Standing.{IsSteady}
use Rattle.tier_pool.proofs.SteadyLaws.{steady_drawn, steady_frame_hit}
use Rattle.pool_laws.proofs.DramShown.{state_is, draw_shown}
use Rattle.pool_laws.proofs.AccessLaws.{with_entered_at}
use Rattle.pool_laws.proofs.BringShown.{of_state, shown_brought, shown_brought_through, shown_brought_past, shown_fetched_to_nvm}

-- a question is drawn, and what follows is that of the state after the answer
draws_state : (n : ℕ) (question : Question) (parts new : Parts) → IsAfter n parts → (P : Bool → TierState → TierState)
    → (IsAfter (draw question (state_of n parts)).drawn (drawn question parts).parts → IsState new (P (drawn question parts).yes (state_of (draw question (state_of n parts)).drawn (drawn question parts).parts)))
    → IsState new (let answer = draw question (state_of n parts) in P answer.yes (answered answer (state_of n parts)))
draws_state n question parts new after P given =
    let shown = draw_shown n parts after question in
    let answer = draw question (state_of n parts) in
    subst (λ (t : TierState). IsState new (P answer.yes t)) shown.state
    (subst (λ (b : Bool). IsState new (P b (state_of answer.drawn (drawn question parts).parts))) shown.said
    (given (record { draws = shown.draws })))

after_drawn : (question : Question) (parts : Parts) → IsSteady parts → IsSteady (drawn question parts).parts
after_drawn question parts s = steady_drawn question parts (drawn question parts).parts (drawn question parts).yes refl s

brought_if : (n : ℕ) (said : Bool) (page : ℕ) (old new : Parts) → BroughtIf said page old new → old.map.place page ≡ Absent → IsAfter n old → IsSteady old → IsState new (rule.brought_if said page (state_of n old))
brought_if n true page old new is absent after s = shown_brought n page old absent after s is.place new is.is
brought_if n false page old new is absent after s = subst (λ (parts : Parts). IsState parts (state_of n old)) (sym is) (state_is n old after)

framed_if : (n : ℕ) (said : Bool) (page : ℕ) (old new : Parts) → ThroughIf said page old new → old.map.place page ≡ Absent → old.map.nvm page ≡ None → 1 ≤ old.frames → IsAfter n old → IsSteady old
    → IsState new (rule.framed_if said page (state_of n old))
framed_if n true page old new is absent homeless some after s = shown_brought_through n page old absent after s homeless some new is.place is.is
framed_if n false page old new is absent homeless some after s =
    subst (λ (parts : Parts). IsState parts (rule.framed_if false page (state_of n old))) (sym is) (shown_fetched_to_nvm n page old some after s)

read_in : (n : ℕ) (said : Bool) (page : ℕ) (writes : Bool) (old new : Parts) → (said ≡ true → 1 ≤ old.frames) → ReadInIf said page writes old new → old.map.place page ≡ Absent → old.map.nvm page ≡ None
    → IsAfter n old → IsSteady old → IsState new (rule.read_in said page writes (state_of n old))
read_in n false page writes old new some is absent homeless after s = shown_brought_past n page old absent after s new is
read_in n true page writes old new some is absent homeless after s =
    draws_state n (dram_question writes) old new after (λ said t. rule.framed_if said page t)
    (λ now. framed_if (draw (dram_question writes) (state_of n old)).drawn (drawn (dram_question writes) old).yes page (drawn (dram_question writes) old).parts new is absent homeless (some refl) now (after_drawn (dram_question writes) old s))

homed : (n frames : ℕ) (no_frames : Bool) (page : ℕ) (writes : Bool) (old new : Parts) → old.frames ≡ frames → (frames == 0) ≡ no_frames → ReadInBy (through_by no_frames old) page writes new
    → old.map.place page ≡ Absent → old.map.nvm page ≡ None → IsAfter n old → IsSteady old
    → IsState new (let answer = rule.through_nvm frames (state_of n old) in rule.read_in answer.yes page writes (answered answer (state_of n old)))
homed n zero true page writes old new count e is absent homeless after s = read_in n false page writes old new (λ said. absurd (let no : ⊥ = cc in no)) is absent homeless after s
homed n zero false page writes old new count e is absent homeless after s = absurd (let no : ⊥ = cc in no)
homed n (suc f) true page writes old new count e is absent homeless after s = absurd (let no = eqb-true (suc f) 0 e in omega arith)
homed n (suc f) false page writes old new count e is absent homeless after s =
    draws_state n NvmRead old new after (λ said t. rule.read_in said page writes t)
    (λ now. read_in (draw NvmRead (state_of n old)).drawn (drawn NvmRead old).yes page writes (drawn NvmRead old).parts new (λ said. let up : 1 ≤ old.frames = omega arith in up) is absent homeless now (after_drawn NvmRead old s))

below : (n : ℕ) (o : Option ℕ) (page : ℕ) (writes : Bool) (old new : Parts) → EnteredBelow o page writes old new → old.map.nvm page ≡ o → old.map.place page ≡ Absent → IsAfter n old → IsSteady old
    → IsState new (rule.entered_at Absent o page writes (state_of n old))
below n (Some k) page writes old new is e absent after s =
    let hit = frame_hit k old in
    draws_state n (dram_question writes) hit new (record { draws = after.draws }) (λ said t. rule.brought_if said page t)
    (λ now. brought_if (draw (dram_question writes) (state_of n hit)).drawn (drawn (dram_question writes) hit).yes page (drawn (dram_question writes) hit).parts new is absent now
    (after_drawn (dram_question writes) hit (steady_frame_hit old s k)))
below n None page writes old new is e absent after s = homed n old.frames (old.frames == 0) page writes old new refl refl is absent e after s

at_place : (n : ℕ) (place : Place) (page : ℕ) (writes : Bool) (old new : Parts) → EnteredAt place page writes old new → old.map.place page ≡ place → IsAfter n old → IsSteady old
    → IsState new (rule.entered_at place (old.map.nvm page) page writes (state_of n old))
at_place n Absent page writes old new is here after s = below n (old.map.nvm page) page writes old new is refl here after s
at_place n (Full i) page writes old new is here after s =
    subst (λ (parts : Parts). IsState parts (rule.entered_at (Full i) (old.map.nvm page) page writes (state_of n old))) (sym is) (state_is n (full_hit i old) (record { draws = after.draws }))
at_place n (Mini j) page writes old new is here after s =
    subst (λ (parts : Parts). IsState parts (rule.entered_at (Mini j) (old.map.nvm page) page writes (state_of n old))) (sym is) (state_is n (mini_hit j old) (record { draws = after.draws }))

pub shown_entered : (n page : ℕ) (writes : Bool) (old new : Parts) → Entered page writes old new → IsAfter n old → IsSteady old
    → IsState (record new { access = Some (page, writes) }) (entered page writes (state_of n old))
unfolding entered
shown_entered n page writes old new is after s =
    let shown = at_place n (old.map.place page) page writes old new is refl after s in
    let t = rule.entered_at (old.map.place page) (old.map.nvm page) page writes (state_of n old) in
    subst (IsState (record new { access = Some (page, writes) })) (sym (with_entered_at (Some (page, writes)) (old.map.place page) (old.map.nvm page) page writes (state_of n old)))
    (record { is = ap (λ (u : TierState). record u { access = Some (page, writes) }) shown.is; draws = shown.draws })

opened_if : (n : ℕ) (b : Bool) (page : ℕ) (writes : Bool) (old new : Parts) → BegunIf b page writes old new → IsAfter n old → IsSteady old → IsState new (rule.entered_if b page writes (state_of n old))
opened_if n true page writes old new begun after s =
    subst (λ (parts : Parts). IsState parts (entered page writes (state_of n old))) (sym begun.opened) (shown_entered n page writes old begun.entered begun.is after s)
opened_if n false page writes old new same after s = subst (λ (parts : Parts). IsState parts (state_of n old)) (sym same) (state_is n old after)

-- the access stands open
pub shown_opened : (page : ℕ) (writes : Bool) (old new : Parts) (s : TierState) → IsState old s → Opened page writes old new → IsSteady old → IsState new (accessed page writes s)
unfolding accessed
shown_opened page writes old new s shown opened steady =
    of_state old s (λ t. IsState new (accessed page writes t)) shown (λ after. opened_if s.drawn (begins old.access page writes) page writes old new opened after steady)
