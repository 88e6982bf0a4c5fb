-- A whole touch keeps what holds in every state, and a touch that comes again at once changes nothing.
use Rattle.std.proofs.Common.{◌≡◌, ℕ, ◌<◌, inl, inr, Bool, true, false, not, ◌&&◌, cond, refl, ap, sym, ◌∙◌, arith, ◌^◌, ◌/◌, ◌%◌, max}
use Rattle.std.specs.Prelude.{Option, Some, None, ◌==◌, nat_lt, bit_or}
use Rattle.std.specs.Bool.{beq}
use Rattle.std.specs.Int.{bit_at}
use Rattle.std.proofs.lemmas.Bool.{eq-eqb, eqb-true}
use Rattle.std.proofs.lemmas.Nat.Bits.{bit_at_ones, bit_at_or, bit_at-pow_same, bit_at-lt, same_from_bits}
use Rattle.tier_map.specs.declared.place.Place.{Place}
use Rattle.tier_map.specs.declared.place.Place.TheVariants.{Absent, Full, Mini}
use Rattle.page_frame.specs.LineSets.{all_lines, has_line, with_line, line_count}
use Rattle.tier_map.specs.Placement.{changed}
use Rattle.tier_rules.specs.State.{TierState}
use Rattle.tier_rules.specs.Sound.{Sound}
use Rattle.tier_rules.specs.FullRoom.{room_in_full}
use Rattle.tier_rules.specs.Bringing.{fetched}
use Rattle.tier_rules.specs.Entering.{begins, entered_if, accessed}
use Rattle.tier_rules.specs.Touching.{loaded, promoted, promoted_to, outgrown, mini_touched, full_touched, ready_at, made_ready, marked_frame, marked_line, marked_at, marked}
use Rattle.tier_rules.specs.Step.{Touch, ready_step, completed, tier_step}
use Rattle.tier_map.proofs.PlacementLaws.{changed-same}
use Rattle.tier_laws.proofs.SoundLaws.{room_in_full-ok}
use Rattle.tier_laws.proofs.StepLaws.{Next, Open, entered-ok, made_ready-ok, marked-ok}

-- ---- the access

tests_hold : (a b : Bool) → not (a && b) ≡ false → (a ≡ true) × (b ≡ true)
tests_hold true true h = (refl, refl)
tests_hold true false h = absurd (cc)
tests_hold false b h = absurd (cc)

same_kind : (a b : Bool) → beq a b ≡ true → a ≡ b
same_kind true true h = refl
same_kind true false h = absurd (cc)
same_kind false true h = absurd (cc)
same_kind false false h = refl

itself : (b : Bool) → beq b b ≡ true
itself true = refl
itself false = refl

pub goes_on : (o : Option (ℕ × Bool)) (p : ℕ) (w : Bool) → begins o p w ≡ false → o ≡ Some (p, w)
goes_on None p w h = absurd (cc)
goes_on (Some now) p w h =
    let both = tests_hold (now.0 == p) (beq now.1 w) h in
    let page = eqb-true now.0 p both.0 in
    let kind = same_kind now.1 w both.1 in
    λ i. Some (page i, kind i)

pub still_open : (p : ℕ) (w : Bool) → begins (Some (p, w)) p w ≡ false
still_open p w = rw (eq-eqb p p refl, itself w) refl

pub entered_if-ok : (b : Bool) (p : ℕ) (w : Bool) (s : TierState) → begins s.access p w ≡ b → Sound s → Open p w s (entered_if b p w s)
entered_if-ok true p w s e sound = entered-ok p w s sound
entered_if-ok false p w s e sound = record { sound = sound; plan = refl; frames = refl; access = goes_on s.access p w e }

pub accessed-ok : (p : ℕ) (w : Bool) (s : TierState) → Sound s → Open p w s (accessed p w s)
unfolding accessed
accessed-ok p w s sound = entered_if-ok (begins s.access p w) p w s refl sound

pub open_stays : (p : ℕ) (w : Bool) (s : TierState) → s.access ≡ Some (p, w) → accessed p w s ≡ s
unfolding accessed
open_stays p w s e =
    let no : begins s.access p w ≡ false = ap (λ o. begins o p w) e ∙ still_open p w in
    ap (λ b. entered_if b p w s) no

pub completed-ok : (b : Bool) (p l : ℕ) (s : TierState) → Sound s → Next s (completed b p l s)
completed-ok true p l s sound = marked-ok p l s sound
completed-ok false p l s sound = record { sound = sound; plan = refl; frames = refl; access = refl }

-- ---- each touch keeps what holds

pub ready_step-sound : (touch : Touch) (s : TierState) → touch.line < 64 → Sound s → Sound (ready_step touch s)
unfolding ready_step
ready_step-sound touch s h sound =
    let a = accessed-ok touch.page touch.writes s sound in
    (made_ready-ok touch.page touch.line (accessed touch.page touch.writes s) h a.sound).sound

pub tier_step-sound : (touch : Touch) (s : TierState) → touch.line < 64 → Sound s → Sound (tier_step touch s)
unfolding tier_step
tier_step-sound touch s h sound = (completed-ok touch.writes touch.page touch.line (ready_step touch s) (ready_step-sound touch s h sound)).sound

-- ---- a touch that comes again

-- the line is there, or the page is used in place
unfoldable pub IsReady : Place → ℕ → ℕ → Type 0
IsReady Absent set l = Unit {0}
IsReady (Full i) set l = has_line set l ≡ true
IsReady (Mini j) set l = has_line set l ≡ true

pub has-with : (set l : ℕ) → has_line (with_line set l) l ≡ true
has-with set l =
    let bit : bit_at (bit_or set (2 ^ l)) l ≡ max (bit_at set l) (bit_at (2 ^ l) l) = bit_at_or set (2 ^ l) l in
    let one = bit_at-pow_same l in
    let low = bit_at-lt set l in
    eq-eqb (with_line set l / 2 ^ l % 2) 1 (omega arith)

pub has_loaded : (p l : ℕ) (s : TierState) → has_line ((loaded p l s).resident p) l ≡ true
has_loaded p l s = rw (changed-same p (with_line (s.resident p) l) s.resident p refl) (has-with (s.resident p) l)

pub ready_by : (place : Place) (p l : ℕ) (s : TierState) → has_line (s.resident p) l ≡ true → IsReady place (s.resident p) l
unfolding IsReady
ready_by Absent p l s h = tt
ready_by (Full i) p l s h = h
ready_by (Mini j) p l s h = h

pub all_there : (l : ℕ) → l < 64 → has_line all_lines l ≡ true
all_there l h = eq-eqb (all_lines / 2 ^ l % 2) 1 (bit_at_ones 64 l h)

promoted_to-there : (place : Place) (p l i : ℕ) (t : TierState) → l < 64 → ((h : ℕ) → place ≡ Full h → ⊥) → has_line ((promoted_to place p l i t).resident p) l ≡ true
unfolding fetched
promoted_to-there Absent p l i t h never = rw (changed-same p all_lines t.resident p refl) (all_there l h)
promoted_to-there (Full k) p l i t h never = absurd (never k refl)
promoted_to-there (Mini j) p l i t h never = has_loaded p l (promoted p i t)

pub mini_not_full : (j h : ℕ) → Mini j ≡ Full h → ⊥
mini_not_full j h e = cc

pub absent_not_full : (h : ℕ) → Absent ≡ Full h → ⊥
absent_not_full h e = cc

outgrown-there : (p l j : ℕ) (s : TierState) → l < 64 → s.map.place p ≡ Mini j → Sound s → has_line ((outgrown p l s).resident p) l ≡ true
unfolding outgrown
outgrown-there p l j s h at sound =
    let ok = room_in_full-ok s sound in
    let room = room_in_full s in
    promoted_to-there (room.state.map.place p) p l room.place room.state h
    (λ k full. elim (ok.leaves.kept p) [
      | inl same ↦ mini_not_full j k (sym at ∙ sym same.0 ∙ full)
      | inr gone ↦ absent_not_full k (sym gone ∙ full)
    ])

mini_touched-there : (b fits : Bool) (p l j : ℕ) (s : TierState) → has_line (s.resident p) l ≡ b → l < 64 → s.map.place p ≡ Mini j → Sound s → has_line ((mini_touched b fits p l s).resident p) l ≡ true
mini_touched-there true fits p l j s e h at sound = e
mini_touched-there false true p l j s e h at sound = has_loaded p l s
mini_touched-there false false p l j s e h at sound = outgrown-there p l j s h at sound

full_touched-there : (b : Bool) (p l : ℕ) (s : TierState) → has_line (s.resident p) l ≡ b → has_line ((full_touched b p l s).resident p) l ≡ true
full_touched-there true p l s e = e
full_touched-there false p l s e = has_loaded p l s

ready_at-ready : (place : Place) (p l : ℕ) (s : TierState) → s.map.place p ≡ place → l < 64 → Sound s → IsReady ((ready_at place p l s).map.place p) ((ready_at place p l s).resident p) l
unfolding IsReady
ready_at-ready Absent p l s at h sound = rw at tt
ready_at-ready (Full i) p l s at h sound = let t = full_touched (has_line (s.resident p) l) p l s in ready_by (t.map.place p) p l t (full_touched-there (has_line (s.resident p) l) p l s refl)
ready_at-ready (Mini j) p l s at h sound =
    let fits = nat_lt (line_count (s.resident p)) 16 in
    let t = mini_touched (has_line (s.resident p) l) fits p l s in
    ready_by (t.map.place p) p l t (mini_touched-there (has_line (s.resident p) l) fits p l j s refl h at sound)

pub made_ready-ready : (p l : ℕ) (s : TierState) → l < 64 → Sound s → IsReady ((made_ready p l s).map.place p) ((made_ready p l s).resident p) l
unfolding made_ready
made_ready-ready p l s h sound = ready_at-ready (s.map.place p) p l s refl h sound

ready_stays-at : (place : Place) (p l : ℕ) (s : TierState) → IsReady place (s.resident p) l → ready_at place p l s ≡ s
unfolding IsReady
ready_stays-at Absent p l s r = refl
ready_stays-at (Full i) p l s r = ap (λ b. full_touched b p l s) r
ready_stays-at (Mini j) p l s r = ap (λ b. mini_touched b (nat_lt (line_count (s.resident p)) 16) p l s) r

pub ready_stays : (p l : ℕ) (s : TierState) → IsReady (s.map.place p) (s.resident p) l → made_ready p l s ≡ s
unfolding made_ready
ready_stays p l s r = ready_stays-at (s.map.place p) p l s r

-- the marks of a write
with-twice : (set l : ℕ) → with_line (with_line set l) l ≡ with_line set l
with-twice set l = same_from_bits (with_line (with_line set l) l) (with_line set l) (λ i.
    let outer : bit_at (bit_or (bit_or set (2 ^ l)) (2 ^ l)) i ≡ max (bit_at (bit_or set (2 ^ l)) i) (bit_at (2 ^ l) i) = bit_at_or (bit_or set (2 ^ l)) (2 ^ l) i in
    let inner : bit_at (bit_or set (2 ^ l)) i ≡ max (bit_at set i) (bit_at (2 ^ l) i) = bit_at_or set (2 ^ l) i in
    omega arith)

changed-twice : {A : Type 0} (k : ℕ) (v : A) (f : ℕ → A) → changed k v (changed k v f) ≡ changed k v f
changed-twice k v f = λ i j. elim (j == k) as (λ b. cond b v (cond b v (f j)) ≡ cond b v (f j)) [ true ↦ refl | false ↦ refl ] i

marked_line-twice : (p l : ℕ) (s : TierState) → marked_line p l (marked_line p l s) ≡ marked_line p l s
marked_line-twice p l s =
    let once = changed p (with_line (s.dirty p) l) s.dirty in
    let there : once p ≡ with_line (s.dirty p) l = changed-same p (with_line (s.dirty p) l) s.dirty p refl in
    let same : with_line (once p) l ≡ with_line (s.dirty p) l = ap (λ set. with_line set l) there ∙ with-twice (s.dirty p) l in
    ap (λ d. record s { dirty = d }) (ap (λ set. changed p set once) same ∙ changed-twice p (with_line (s.dirty p) l) s.dirty)

marked_frame-twice : (o : Option ℕ) (s : TierState) → marked_frame o (marked_frame o s) ≡ marked_frame o s
marked_frame-twice None s = refl
marked_frame-twice (Some k) s = ap (λ d. record s { frame_dirty = d }) (changed-twice k true s.frame_dirty)

-- what a second mark finds
framed-twice : (o : Option ℕ) (p l : ℕ) (s : TierState) → s.map.place p ≡ Absent → s.map.nvm p ≡ o → marked p l (marked_frame o s) ≡ marked_frame o s
unfolding marked
framed-twice None p l s at e = ap (λ place. marked_at place p l s) at ∙ ap (λ o. marked_frame o s) e
framed-twice (Some k) p l s at e =
    let t = marked_frame (Some k) s in
    ap (λ place. marked_at place p l t) at ∙ ap (λ o. marked_frame o t) e ∙ marked_frame-twice (Some k) s

marked_at-twice : (place : Place) (p l : ℕ) (s : TierState) → s.map.place p ≡ place → marked p l (marked_at place p l s) ≡ marked_at place p l s
unfolding marked
marked_at-twice Absent p l s at = framed-twice (s.map.nvm p) p l s at refl
marked_at-twice (Full i) p l s at = ap (λ place. marked_at place p l (marked_line p l s)) at ∙ marked_line-twice p l s
marked_at-twice (Mini j) p l s at = ap (λ place. marked_at place p l (marked_line p l s)) at ∙ marked_line-twice p l s

completed-twice : (b : Bool) (p l : ℕ) (s : TierState) → completed b p l (completed b p l s) ≡ completed b p l s
unfolding marked
completed-twice true p l s = marked_at-twice (s.map.place p) p l s refl
completed-twice false p l s = refl

framed-ready : (o : Option ℕ) (p l : ℕ) (s : TierState) → IsReady (s.map.place p) (s.resident p) l → IsReady ((marked_frame o s).map.place p) ((marked_frame o s).resident p) l
unfolding IsReady
framed-ready None p l s r = r
framed-ready (Some k) p l s r = r

marked_at-ready : (place : Place) (p l : ℕ) (s : TierState) → IsReady (s.map.place p) (s.resident p) l → IsReady ((marked_at place p l s).map.place p) ((marked_at place p l s).resident p) l
unfolding IsReady
marked_at-ready Absent p l s r = framed-ready (s.map.nvm p) p l s r
marked_at-ready (Full i) p l s r = r
marked_at-ready (Mini j) p l s r = r

pub completed-ready : (b : Bool) (p l : ℕ) (s : TierState) → IsReady (s.map.place p) (s.resident p) l → IsReady ((completed b p l s).map.place p) ((completed b p l s).resident p) l
unfolding marked
completed-ready true p l s r = marked_at-ready (s.map.place p) p l s r
completed-ready false p l s r = r

pub touch-again : (touch : Touch) (s : TierState) → touch.line < 64 → Sound s → tier_step touch (tier_step touch s) ≡ tier_step touch s
unfolding tier_step ready_step
touch-again touch s h sound =
    let p = touch.page in
    let l = touch.line in
    let w = touch.writes in
    let a = accessed p w s in
    let open_a = accessed-ok p w s sound in
    let b = made_ready p l a in
    let next_b = made_ready-ok p l a h open_a.sound in
    let c = completed w p l b in
    let next_c = completed-ok w p l b next_b.sound in
    let same_access : accessed p w c ≡ c = open_stays p w c (next_c.access ∙ next_b.access ∙ open_a.access) in
    let same_lines : made_ready p l c ≡ c = ready_stays p l c (completed-ready w p l b (made_ready-ready p l a h open_a.sound)) in
    ap (λ t. completed w p l (made_ready p l t)) same_access
    ∙ ap (λ t. completed w p l t) same_lines
    ∙ completed-twice w p l b

-- to make a line ready and then to touch it for writing is one touch for writing
pub ready_then_step : (touch : Touch) (s : TierState) → touch.line < 64 → Sound s → tier_step touch (ready_step touch s) ≡ tier_step touch s
unfolding tier_step ready_step
ready_then_step touch s h sound =
    let p = touch.page in
    let l = touch.line in
    let w = touch.writes in
    let a = accessed p w s in
    let open_a = accessed-ok p w s sound in
    let b = made_ready p l a in
    let next_b = made_ready-ok p l a h open_a.sound in
    let same_access : accessed p w b ≡ b = open_stays p w b (next_b.access ∙ open_a.access) in
    let same_lines : made_ready p l b ≡ b = ready_stays p l b (made_ready-ready p l a h open_a.sound) in
    ap (λ t. completed w p l (made_ready p l t)) same_access
    ∙ ap (λ t. completed w p l t) same_lines
