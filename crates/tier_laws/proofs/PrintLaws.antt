-- The tally of a run is that of its printed touches.
use Rattle.std.proofs.Common.{◌≡◌, ℕ, ◌<◌, ◌≤◌, ◌⊎◌, inl, inr, Bool, true, false, not, cond, ◌||◌, List, [], ◌∷◌, refl, ap, sym, ◌∙◌, arith, ◌^◌, ◌/◌, ◌%◌, take, max, subst, length, pred}
use Rattle.std.specs.Prelude.{Option, Some, None, ◌==◌, nat_lt, filter, bit_or}
use Rattle.std.specs.Int.{bit_at}
use Rattle.std.proofs.lemmas.Bool.{eq-eqb, eqb-true, false_from_ne_true}
use Rattle.std.proofs.lemmas.Nat.Bits.{bit_at-zero, bit_at_or, bit_at-lt}
use Rattle.tier_map.specs.declared.place.Place.{Place}
use Rattle.tier_map.specs.declared.place.Place.TheVariants.{Absent, Full, Mini}
use Rattle.tier_rules.specs.declared.trace.TraceLine.{TraceLine}
use Rattle.tier_rules.specs.declared.trace.TraceLine.TheVariants.{Read, Write, Settle, Clean, LogReads}
use Rattle.page_frame.specs.LineSets.{no_lines, all_lines, has_line, with_line, line_count}
use Rattle.tier_map.specs.Placement.{changed}
use Rattle.tier_rules.specs.Plans.{Plan}
use Rattle.migration_policy.specs.Policies.{Rates}
use Rattle.tier_rules.specs.Tallies.{one_cleaned, log_lines_read}
use Rattle.tier_rules.specs.State.{TierState, counting, is_dirty}
use Rattle.tier_rules.specs.Sound.{Sound}
use Rattle.tier_rules.specs.FullRoom.{room_in_full}
use Rattle.tier_rules.specs.Bringing.{fetched}
use Rattle.tier_rules.specs.Entering.{begins, accessed, rested}
use Rattle.tier_rules.specs.Touching.{loaded, promoted, promoted_to, outgrown, mini_touched, full_touched, ready_at, made_ready, marked_frame, marked_line, marked_at, marked}
use Rattle.tier_rules.specs.Step.{Touch, ready_step, completed, tier_step}
use Rattle.tier_rules.specs.Cleaning.{pages_in_dram, dirty_pages, written, cleaned, all_cleaned, clean, settled}
use Rattle.tier_rules.specs.Runs.{read_of, write_of, traced, Printed, trace, reply, epoch, with_rates, after_line, after_lines, tier_run}
use Rattle.tier_rules.specs.Opening.{IsTable, opened}
use Rattle.tier_rules.specs.Printing.{seen_before, is_seen, printed_unless, printed, IsAtRest, IsRun}
use Rattle.tier_map.proofs.PlacementLaws.{changed-same, changed-kept}
use Rattle.tier_laws.proofs.CoarseLaws.{some_line, coarse, look, is_dirty-coarse, clean_lines, ready_step-coarse}
use Rattle.tier_laws.proofs.SoundLaws.{room_in_full-ok}
use Rattle.tier_laws.proofs.StepLaws.{made_ready-ok, with_access}
use Rattle.tier_laws.proofs.OpenLaws.{opened-sound}
use Rattle.tier_laws.proofs.RunLaws.{traced-sound, with_rates-sound, AllInRange, tier_run-sound}
use Rattle.tier_laws.proofs.TouchLaws.{has-with, IsReady, ready_by, all_there, ready_stays, open_stays, made_ready-ready, completed-ok, goes_on, accessed-ok, mini_not_full, absent_not_full, tier_step-sound}

-- ---- marks

with_line-some : (set l : ℕ) → (with_line set l == no_lines) ≡ false
with_line-some set l = false_from_ne_true (with_line set l == no_lines) (λ none.
    let zero_set : with_line set l ≡ 0 = eqb-true (with_line set l) 0 none in
    let there : has_line 0 l ≡ true = ap (λ n. has_line n l) (sym zero_set) ∙ has-with set l in
    let one : bit_at 0 l ≡ 1 = eqb-true (bit_at 0 l) 1 there in
    let nothing = bit_at-zero l in
    absurd (omega arith))

-- a write marks the page's copy, or its frame
coarse_marked_at : Place → ℕ → TierState → TierState
coarse_marked_at Absent page s = marked_frame (s.map.nvm page) s
coarse_marked_at (Full i) page s = record s { dirty = changed page 1 s.dirty }
coarse_marked_at (Mini j) page s = record s { dirty = changed page 1 s.dirty }

marked_some : (page l : ℕ) (s : TierState) → ◌≡◌ {A = ℕ → ℕ} (λ q. some_line (not (changed page (with_line (s.dirty page) l) s.dirty q == no_lines))) (changed page 1 (λ q. some_line (is_dirty q s)))
unfolding look
marked_some page l s = λ i q. one_page q i
  where
    one_page : (q : ℕ) → some_line (not (changed page (with_line (s.dirty page) l) s.dirty q == no_lines)) ≡ changed page 1 (λ r. some_line (is_dirty r s)) q
    one_page q = elim (q == page) as (λ b. some_line (not (cond b (with_line (s.dirty page) l) (s.dirty q) == no_lines)) ≡ cond b 1 (some_line (not (s.dirty q == no_lines)))) [
      | true ↦ rw (with_line-some (s.dirty page) l) refl
      | false ↦ refl
    ]

marked_frame-coarse : (o : Option ℕ) (s : TierState) → coarse (marked_frame o s) ≡ marked_frame o (coarse s)
unfolding look
marked_frame-coarse None s = refl
marked_frame-coarse (Some k) s = refl

marked_at-coarse : (place : Place) (page l : ℕ) (s : TierState) → coarse (marked_at place page l s) ≡ coarse_marked_at place page (coarse s)
unfolding look coarse_marked_at
marked_at-coarse Absent page l s = marked_frame-coarse (s.map.nvm page) s
marked_at-coarse (Full i) page l s = ap (λ d. record s { dirty = d }) (marked_some page l s)
marked_at-coarse (Mini j) page l s = ap (λ d. record s { dirty = d }) (marked_some page l s)

coarse_completed : Bool → ℕ → TierState → TierState
unfolding coarse_marked_at
coarse_completed true page s = coarse_marked_at (s.map.place page) page s
coarse_completed false page s = s

completed-coarse : (b : Bool) (page l : ℕ) (s : TierState) → coarse (completed b page l s) ≡ coarse_completed b page (coarse s)
unfolding look coarse_completed marked
completed-coarse true page l s = marked_at-coarse (s.map.place page) page l s
completed-coarse false page l s = refl

-- ---- states that differ only in which lines of a dirty copy are dirty go the same way

pub Alike : TierState → TierState → Type 0
Alike s t = coarse s ≡ coarse t

pub alike_trans : (s t u : TierState) → Alike s t → Alike t u → Alike s u
unfolding Alike
alike_trans s t u a b = a ∙ b

pub tier_step-alike : (touch : Touch) (s t : TierState) → Alike s t → Alike (tier_step touch s) (tier_step touch t)
unfolding Alike tier_step
tier_step-alike touch s t same =
    completed-coarse touch.writes touch.page touch.line (ready_step touch s)
    ∙ ap (coarse_completed touch.writes touch.page) (ready_step-coarse touch s ∙ ap (ready_step touch) same ∙ sym (ready_step-coarse touch t))
    ∙ sym (completed-coarse touch.writes touch.page touch.line (ready_step touch t))

written-coarse : (o : Option ℕ) (b : Bool) (s : TierState) → coarse (written o b s) ≡ written o b (coarse s)
unfolding look
written-coarse None b s = refl
written-coarse (Some k) b s = refl

cleaned-coarse : (page : ℕ) (s : TierState) → coarse (cleaned page s) ≡ cleaned page (coarse s)
unfolding look cleaned
cleaned-coarse page s =
    ap (counting one_cleaned) (
    written-coarse (s.map.nvm page) (is_dirty page s) (record s { dirty = changed page no_lines s.dirty })
    ∙ ap (λ d. written (s.map.nvm page) (is_dirty page s) (record s { dirty = d })) (clean_lines page s)
    ∙ ap (λ b. written (s.map.nvm page) b (record s { dirty = changed page no_lines (coarse s).dirty })) (sym (is_dirty-coarse page s)))

all_cleaned-coarse : (pages : List ℕ) (s : TierState) → coarse (all_cleaned pages s) ≡ all_cleaned pages (coarse s)
unfolding all_cleaned
all_cleaned-coarse [] s = refl
all_cleaned-coarse (page ∷ pages) s = all_cleaned-coarse pages (cleaned page s) ∙ ap (all_cleaned pages) (cleaned-coarse page s)

dirty_pages-coarse : (s : TierState) → dirty_pages (coarse s) ≡ dirty_pages s
unfolding look dirty_pages pages_in_dram
dirty_pages-coarse s = λ i. filter (λ page. is_dirty-coarse page s i) (pages_in_dram s)

clean-coarse : (n : ℕ) (s : TierState) → coarse (clean n s) ≡ clean n (coarse s)
unfolding clean
clean-coarse n s = all_cleaned-coarse (take n (dirty_pages s)) s ∙ ap (λ pages. all_cleaned (take n pages) (coarse s)) (sym (dirty_pages-coarse s))

settled-coarse : (s : TierState) → coarse (settled s) ≡ settled (coarse s)
unfolding settled
settled-coarse s = all_cleaned-coarse (dirty_pages s) s ∙ ap (λ pages. all_cleaned pages (coarse s)) (sym (dirty_pages-coarse s))

pub traced-alike : (line : TraceLine) (s t : TierState) → Alike s t → Alike (traced line s) (traced line t)
unfolding Alike traced look
traced-alike (Read page l) s t same = tier_step-alike (read_of page l) s t same
traced-alike (Write page l) s t same = tier_step-alike (write_of page l) s t same
traced-alike Settle s t same = settled-coarse s ∙ ap settled same ∙ sym (settled-coarse t)
traced-alike (Clean n) s t same = clean-coarse n s ∙ ap (clean n) same ∙ sym (clean-coarse n t)
traced-alike (LogReads n) s t same = ap (counting (log_lines_read n)) same

-- ---- what was touched in the access that is open

-- the copy is dirty, or in place the frame is
pub IsMarked : Place → Option ℕ → ℕ → (ℕ → Bool) → Type 0
IsMarked Absent None lines marks = Unit {0}
IsMarked Absent (Some k) lines marks = marks k ≡ true
IsMarked (Full i) frame lines marks = (lines == no_lines) ≡ false
IsMarked (Mini j) frame lines marks = (lines == no_lines) ≡ false

-- each line that was touched is there, and where the access writes there is a mark
pub record Seen (p : ℕ) (w : Bool) (seen : List ℕ) (s : TierState) : Type 0 where
  pub ready : (l : ℕ) → is_seen l seen ≡ true → (l < 64) × IsReady (s.map.place p) (s.resident p) l
  pub mark : w ≡ true → IsMarked (s.map.place p) (s.map.nvm p) (s.dirty p) s.frame_dirty

-- ---- a touch of a line that was touched before in the access

frame_again : (o : Option ℕ) (s : TierState) → IsMarked Absent o 0 s.frame_dirty → marked_frame o s ≡ s
unfolding IsMarked
frame_again None s m = refl
frame_again (Some k) s m = ap (λ marks. record s { frame_dirty = marks }) (λ i j. changed-kept k true s.frame_dirty m j i)

-- the marks of a frame do not depend on lines
any_lines : (o : Option ℕ) (lines : ℕ) (marks : ℕ → Bool) → IsMarked Absent o lines marks → IsMarked Absent o 0 marks
unfolding IsMarked
any_lines None lines marks m = tt
any_lines (Some k) lines marks m = m

line_again : (p l : ℕ) (s : TierState) → (s.dirty p == no_lines) ≡ false → Alike (marked_line p l s) s
unfolding Alike look
line_again p l s m =
    let one : some_line (is_dirty p s) ≡ 1 = ap (λ b. some_line (not b)) m in
    ap (λ d. record s { dirty = d }) (marked_some p l s ∙ (λ i j. changed-kept p 1 (λ q. some_line (is_dirty q s)) one j i))

mark_again : (place : Place) (p l : ℕ) (s : TierState) → IsMarked place (s.map.nvm p) (s.dirty p) s.frame_dirty → Alike (marked_at place p l s) s
unfolding Alike IsMarked
mark_again Absent p l s m = ap coarse (frame_again (s.map.nvm p) s (any_lines (s.map.nvm p) (s.dirty p) s.frame_dirty m))
mark_again (Full i) p l s m = line_again p l s m
mark_again (Mini j) p l s m = line_again p l s m

completed_again : (w : Bool) (p l : ℕ) (s : TierState) → (w ≡ true → IsMarked (s.map.place p) (s.map.nvm p) (s.dirty p) s.frame_dirty) → Alike (completed w p l s) s
unfolding Alike marked
completed_again true p l s m = mark_again (s.map.place p) p l s (m refl)
completed_again false p l s m = refl

pub seen_again : (touch : Touch) (seen : List ℕ) (s : TierState) → s.access ≡ Some (touch.page, touch.writes) → Seen touch.page touch.writes seen s → is_seen touch.line seen ≡ true → Alike (tier_step touch s) s
unfolding tier_step ready_step Alike
seen_again touch seen s open_is known there =
    let p = touch.page in
    let l = touch.line in
    let w = touch.writes in
    let same_access : accessed p w s ≡ s = open_stays p w s open_is in
    let same_lines : made_ready p l s ≡ s = ready_stays p l s (known.ready l there).1 in
    ap (λ t. coarse (completed w p l (made_ready p l t))) same_access
    ∙ ap (λ t. coarse (completed w p l t)) same_lines
    ∙ completed_again w p l s known.mark

-- ---- a touch of another line

pub has-kept : (set k l : ℕ) → has_line set l ≡ true → has_line (with_line set k) l ≡ true
has-kept set k l h =
    let was : bit_at set l ≡ 1 = eqb-true (bit_at set l) 1 h in
    let bit : bit_at (bit_or set (2 ^ k)) l ≡ max (bit_at set l) (bit_at (2 ^ k) l) = bit_at_or set (2 ^ k) l in
    let low = bit_at-lt (2 ^ k) l in
    eq-eqb (with_line set k / 2 ^ l % 2) 1 (omega arith)

kept_loaded : (p k l : ℕ) (s : TierState) → has_line (s.resident p) l ≡ true → has_line ((loaded p k s).resident p) l ≡ true
kept_loaded p k l s h = rw (changed-same p (with_line (s.resident p) k) s.resident p refl) (has-kept (s.resident p) k l h)

full_kept : (b : Bool) (p k l : ℕ) (s : TierState) → has_line (s.resident p) l ≡ true → has_line ((full_touched b p k s).resident p) l ≡ true
full_kept true p k l s h = h
full_kept false p k l s h = kept_loaded p k l s h

-- making room leaves the lines of a page that keeps its copy
promoted_to_kept : (place : Place) (p k l i : ℕ) (t : TierState) → l < 64 → ((h : ℕ) → place ≡ Full h → ⊥) → ((j : ℕ) → place ≡ Mini j → has_line (t.resident p) l ≡ true)
    → has_line ((promoted_to place p k i t).resident p) l ≡ true
unfolding fetched
promoted_to_kept Absent p k l i t h never kept = rw (changed-same p all_lines t.resident p refl) (all_there l h)
promoted_to_kept (Full g) p k l i t h never kept = absurd (never g refl)
promoted_to_kept (Mini j) p k l i t h never kept = kept_loaded p k l (promoted p i t) (kept j refl)

outgrown_kept : (p k l j : ℕ) (s : TierState) → l < 64 → s.map.place p ≡ Mini j → Sound s → has_line (s.resident p) l ≡ true → has_line ((outgrown p k s).resident p) l ≡ true
unfolding outgrown
outgrown_kept p k l j s h at sound there =
    let ok = room_in_full-ok s sound in
    let room = room_in_full s in
    promoted_to_kept (room.state.map.place p) p k l room.place room.state h
    (λ g full. elim (ok.leaves.kept p) [
      | inl same ↦ mini_not_full j g (sym at ∙ sym same.0 ∙ full)
      | inr gone ↦ absent_not_full g (sym gone ∙ full)
    ])
    (λ i mini. elim (ok.leaves.kept p) [
      | inl same ↦ ap (λ set. has_line set l) same.1 ∙ there
      | inr gone ↦ absurd (let both = sym gone ∙ mini in cc)
    ])

mini_kept : (b fits : Bool) (p k l j : ℕ) (s : TierState) → l < 64 → s.map.place p ≡ Mini j → Sound s → has_line (s.resident p) l ≡ true → has_line ((mini_touched b fits p k s).resident p) l ≡ true
mini_kept true fits p k l j s h at sound there = there
mini_kept false true p k l j s h at sound there = kept_loaded p k l s there
mini_kept false false p k l j s h at sound there = outgrown_kept p k l j s h at sound there

-- a line that is ready in place, or there
pub ready_there : (place : Place) (set l : ℕ) → (place ≡ Absent → ⊥) → IsReady place set l → has_line set l ≡ true
unfolding IsReady
ready_there Absent set l never r = absurd (never refl)
ready_there (Full i) set l never r = r
ready_there (Mini j) set l never r = r

ready_at_kept : (place : Place) (p k l : ℕ) (s : TierState) → s.map.place p ≡ place → l < 64 → Sound s → IsReady (s.map.place p) (s.resident p) l
    → IsReady ((ready_at place p k s).map.place p) ((ready_at place p k s).resident p) l
ready_at_kept Absent p k l s at h sound r = r
ready_at_kept (Full i) p k l s at h sound r =
    let t = full_touched (has_line (s.resident p) k) p k s in
    let there = ready_there (s.map.place p) (s.resident p) l (λ none. absent_not_full i (sym none ∙ at)) r in
    ready_by (t.map.place p) p l t (full_kept (has_line (s.resident p) k) p k l s there)
ready_at_kept (Mini j) p k l s at h sound r =
    let fits = nat_lt (line_count (s.resident p)) 16 in
    let t = mini_touched (has_line (s.resident p) k) fits p k s in
    let there = ready_there (s.map.place p) (s.resident p) l (λ none. let both = sym none ∙ at in cc) r in
    ready_by (t.map.place p) p l t (mini_kept (has_line (s.resident p) k) fits p k l j s h at sound there)

made_ready_kept : (p k l : ℕ) (s : TierState) → l < 64 → Sound s → IsReady (s.map.place p) (s.resident p) l → IsReady ((made_ready p k s).map.place p) ((made_ready p k s).resident p) l
unfolding made_ready
made_ready_kept p k l s h sound r = ready_at_kept (s.map.place p) p k l s refl h sound r

-- a write leaves a mark
frame_marks : (o : Option ℕ) (p : ℕ) (s : TierState) → s.map.place p ≡ Absent → s.map.nvm p ≡ o
    → IsMarked ((marked_frame o s).map.place p) ((marked_frame o s).map.nvm p) ((marked_frame o s).dirty p) (marked_frame o s).frame_dirty
unfolding IsMarked
frame_marks None p s at e = rw (at, e) tt
frame_marks (Some k) p s at e = rw (at, e) (changed-same k true s.frame_dirty k refl)

line_marks : (place : Place) (frame : Option ℕ) (p l : ℕ) (s : TierState) (marks : ℕ → Bool) → (place ≡ Absent → ⊥) → IsMarked place frame ((marked_line p l s).dirty p) marks
unfolding IsMarked
line_marks Absent frame p l s marks never = absurd (never refl)
line_marks (Full i) frame p l s marks never = rw (changed-same p (with_line (s.dirty p) l) s.dirty p refl) (with_line-some (s.dirty p) l)
line_marks (Mini j) frame p l s marks never = rw (changed-same p (with_line (s.dirty p) l) s.dirty p refl) (with_line-some (s.dirty p) l)

marks_at : (place : Place) (p l : ℕ) (s : TierState) → s.map.place p ≡ place
    → IsMarked ((marked_at place p l s).map.place p) ((marked_at place p l s).map.nvm p) ((marked_at place p l s).dirty p) (marked_at place p l s).frame_dirty
marks_at Absent p l s at = frame_marks (s.map.nvm p) p s at refl
marks_at (Full i) p l s at = line_marks (s.map.place p) (s.map.nvm p) p l s s.frame_dirty (λ none. absent_not_full i (sym none ∙ at))
marks_at (Mini j) p l s at = line_marks (s.map.place p) (s.map.nvm p) p l s s.frame_dirty (λ none. let both = sym none ∙ at in cc)

completed_marks : (w : Bool) (p l : ℕ) (s : TierState) → w ≡ true
    → IsMarked ((completed w p l s).map.place p) ((completed w p l s).map.nvm p) ((completed w p l s).dirty p) (completed w p l s).frame_dirty
unfolding marked
completed_marks true p l s writes = marks_at (s.map.place p) p l s refl
completed_marks false p l s writes = absurd (cc)

is_seen-cases : (b rest : Bool) → b || rest ≡ true → (b ≡ true) ⊎ (rest ≡ true)
is_seen-cases true rest h = inl refl
is_seen-cases false rest h = inr h

frame_keeps : (o : Option ℕ) (p q : ℕ) (s : TierState) → IsReady (s.map.place p) (s.resident p) q → IsReady ((marked_frame o s).map.place p) ((marked_frame o s).resident p) q
frame_keeps None p q s r = r
frame_keeps (Some k) p q s r = r

mark_keeps : (place : Place) (p l q : ℕ) (s : TierState) → IsReady (s.map.place p) (s.resident p) q → IsReady ((marked_at place p l s).map.place p) ((marked_at place p l s).resident p) q
mark_keeps Absent p l q s r = frame_keeps (s.map.nvm p) p q s r
mark_keeps (Full i) p l q s r = r
mark_keeps (Mini j) p l q s r = r

completed_keeps : (w : Bool) (p l q : ℕ) (s : TierState) → IsReady (s.map.place p) (s.resident p) q → IsReady ((completed w p l s).map.place p) ((completed w p l s).resident p) q
unfolding marked
completed_keeps true p l q s r = mark_keeps (s.map.place p) p l q s r
completed_keeps false p l q s r = r

-- what is known after a touch
touch_seen : (touch : Touch) (before : List ℕ) (s : TierState) → touch.line < 64 → Sound s
    → ((q : ℕ) → is_seen q before ≡ true → (q < 64) × IsReady ((accessed touch.page touch.writes s).map.place touch.page) ((accessed touch.page touch.writes s).resident touch.page) q)
    → Seen touch.page touch.writes (touch.line ∷ before) (tier_step touch s)
unfolding tier_step ready_step
touch_seen touch before s h sound known =
    let p = touch.page in
    let l = touch.line in
    let w = touch.writes in
    let a = accessed p w s in
    let open_a = accessed-ok p w s sound in
    let b = made_ready p l a in
    record {
      ready = λ q there. elim (is_seen-cases (l == q) (is_seen q before) there) [
        | inl e ↦
            let same : l ≡ q = eqb-true l q e in
            let here : IsReady ((completed w p l b).map.place p) ((completed w p l b).resident p) l = completed_keeps w p l l b (made_ready-ready p l a h open_a.sound) in
            (omega arith, subst (λ (n : ℕ). IsReady ((completed w p l b).map.place p) ((completed w p l b).resident p) n) same here)
        | inr there_before ↦
            let was = known q there_before in
            (was.0, completed_keeps w p l q b (made_ready_kept p l q a was.0 open_a.sound was.1))
      ];
      mark = completed_marks w p l b;
    }

-- ---- whole runs

pub SeenBy : Option (ℕ × Bool) → List ℕ → TierState → Type 0
SeenBy None seen s = Unit {0}
SeenBy (Some now) seen s = Seen now.0 now.1 seen s

-- the lines that were touched before are ready once the access stands
known_before : (fresh : Bool) (access : Option (ℕ × Bool)) (p : ℕ) (w : Bool) (seen : List ℕ) (s : TierState) → begins access p w ≡ fresh → s.access ≡ access → SeenBy access seen s
    → (q : ℕ) → is_seen q (seen_before fresh seen) ≡ true → (q < 64) × IsReady ((accessed p w s).map.place p) ((accessed p w s).resident p) q
unfolding SeenBy
known_before true access p w seen s e at known q there = absurd (cc)
known_before false access p w seen s e at known q there =
    let same : access ≡ Some (p, w) = goes_on access p w e in
    let was : Seen p w seen s = subst (λ (a : Option (ℕ × Bool)). SeenBy a seen s) same known in
    rw (open_stays p w s (at ∙ same)) (was.ready q there)

-- a line that was touched before was so in this access
seen_in_access : (fresh : Bool) (access : Option (ℕ × Bool)) (p : ℕ) (w : Bool) (l : ℕ) (seen : List ℕ) → begins access p w ≡ fresh → is_seen l (seen_before fresh seen) ≡ true
    → (access ≡ Some (p, w)) × (is_seen l seen ≡ true)
seen_in_access true access p w l seen e there = absurd (cc)
seen_in_access false access p w l seen e there = (goes_on access p w e, there)

tier_step-access : (touch : Touch) (s : TierState) → touch.line < 64 → Sound s → (tier_step touch s).access ≡ Some (touch.page, touch.writes)
unfolding tier_step ready_step
tier_step-access touch s h sound =
    let open_a = accessed-ok touch.page touch.writes s sound in
    let next_b = made_ready-ok touch.page touch.line (accessed touch.page touch.writes s) h open_a.sound in
    let next_c = completed-ok touch.writes touch.page touch.line (made_ready touch.page touch.line (accessed touch.page touch.writes s)) next_b.sound in
    next_c.access ∙ next_b.access ∙ open_a.access

-- One touch in a run: printed, or alike to none. `go` is the rest of the run, from both states.
print_step : (b : Bool) (line : TraceLine) (touch : Touch) (access : Option (ℕ × Bool)) (seen : List ℕ) (s t : TierState) (lines rest : List Printed)
    → ((u : TierState) → traced line u ≡ tier_step touch u)
    → is_seen touch.line (seen_before (begins access touch.page touch.writes) seen) ≡ b → touch.line < 64 → s.access ≡ access → SeenBy access seen s → Sound s → Alike s t
    → ((u v : TierState) → u.access ≡ Some (touch.page, touch.writes) → SeenBy (Some (touch.page, touch.writes)) (touch.line ∷ seen_before (begins access touch.page touch.writes) seen) u → Sound u → Alike u v
    → Alike (after_lines lines u) (after_lines rest v))
    → Alike (after_lines lines (tier_step touch s)) (after_lines (printed_unless b (trace line) rest) t)
unfolding SeenBy after_lines after_line
print_step true line touch access seen s t lines rest is e h at known sound alike go =
    let p = touch.page in
    let w = touch.writes in
    let within = seen_in_access (begins access p w) access p w touch.line seen refl e in
    let was : Seen p w seen s = subst (λ (a : Option (ℕ × Bool)). SeenBy a seen s) within.0 known in
    let same : Alike (tier_step touch s) s = seen_again touch seen s (at ∙ within.0) was within.1 in
    go (tier_step touch s) t (tier_step-access touch s h sound)
    (touch_seen touch (seen_before (begins access p w) seen) s h sound (known_before (begins access p w) access p w seen s refl at known))
    (tier_step-sound touch s h sound) (alike_trans (tier_step touch s) s t same alike)
print_step false line touch access seen s t lines rest is e h at known sound alike go =
    let p = touch.page in
    let w = touch.writes in
    subst (λ (v : TierState). Alike (after_lines lines (tier_step touch s)) (after_lines rest v)) (sym (is t))
    (go (tier_step touch s) (tier_step touch t) (tier_step-access touch s h sound)
    (touch_seen touch (seen_before (begins access p w) seen) s h sound (known_before (begins access p w) access p w seen s refl at known))
    (tier_step-sound touch s h sound) (tier_step-alike touch s t alike))

at_rest : (access : Option (ℕ × Bool)) → IsAtRest access → access ≡ None
at_rest None h = refl
at_rest (Some now) h = absurd h

rested-alike : (s t : TierState) → Alike s t → Alike (rested s) (rested t)
unfolding Alike look
rested-alike s t same = ap rested same

with_rates-alike : (rates : Rates) (s t : TierState) → Alike s t → Alike (with_rates rates s) (with_rates rates t)
unfolding Alike look
with_rates-alike rates s t same = ap (with_rates rates) same

none_seen : (access : Option (ℕ × Bool)) (seen : List ℕ) (u : TierState) → access ≡ None → SeenBy access seen u
unfolding SeenBy
none_seen None seen u e = tt
none_seen (Some now) seen u e = absurd (cc)

counted-seen : (access : Option (ℕ × Bool)) (seen : List ℕ) (n : ℕ) (s : TierState) → SeenBy access seen s → SeenBy access seen (traced (LogReads n) s)
unfolding SeenBy traced
counted-seen None seen n s k = tt
counted-seen (Some now) seen n s k = record { ready = k.ready; mark = k.mark }

rated-seen : (access : Option (ℕ × Bool)) (seen : List ℕ) (rates : Rates) (s : TierState) → SeenBy access seen s → SeenBy access seen (with_rates rates s)
unfolding SeenBy
rated-seen None seen rates s k = tt
rated-seen (Some now) seen rates s k = record { ready = k.ready; mark = k.mark }

all_cleaned-access : (pages : List ℕ) (s : TierState) → (all_cleaned pages s).access ≡ s.access
unfolding all_cleaned cleaned
all_cleaned-access [] s = refl
all_cleaned-access (page ∷ pages) s = all_cleaned-access pages (cleaned page s) ∙ written-access (s.map.nvm page) _ (record s { dirty = changed page no_lines s.dirty })
  where
    written-access : (o : Option ℕ) (b : Bool) (u : TierState) → (written o b u).access ≡ u.access
    written-access None b u = refl
    written-access (Some k) b u = refl

clean-access : (n : ℕ) (s : TierState) → (clean n s).access ≡ s.access
unfolding clean
clean-access n s = all_cleaned-access (take n (dirty_pages s)) s

settled-access : (s : TierState) → (settled s).access ≡ s.access
unfolding settled
settled-access s = all_cleaned-access (dirty_pages s) s

read-is : (page l : ℕ) (u : TierState) → traced (Read page l) u ≡ tier_step (read_of page l) u
unfolding traced
read-is page l u = refl

write-is : (page l : ℕ) (u : TierState) → traced (Write page l) u ≡ tier_step (write_of page l) u
unfolding traced
write-is page l u = refl

settle-is : (u : TierState) → traced Settle u ≡ settled u
unfolding traced
settle-is u = refl

clean-is : (n : ℕ) (u : TierState) → traced (Clean n) u ≡ clean n u
unfolding traced
clean-is n u = refl

log-is : (n : ℕ) (u : TierState) → traced (LogReads n) u ≡ counting (log_lines_read n) u
unfolding traced
log-is n u = refl

opened-access : (plan : Plan) (words : List ℕ) → (opened plan words).access ≡ None
unfolding opened
opened-access plan words = refl

alike_refl : (s : TierState) → Alike s s
unfolding Alike
alike_refl s = refl

run-alike : (lines : List Printed) (access : Option (ℕ × Bool)) (seen : List ℕ) (s t : TierState) → s.access ≡ access → SeenBy access seen s → Sound s → Alike s t → IsRun access lines
    → Alike (after_lines lines s) (after_lines (printed access seen lines) t)
unfolding after_lines after_line printed
run-alike [] access seen s t at known sound alike run = alike
run-alike (trace (Read page l) ∷ lines) access seen s t at known sound alike run =
    let before = seen_before (begins access page false) seen in
    subst (λ (u : TierState). Alike (after_lines lines u) (after_lines (printed_unless (is_seen l before) (trace (Read page l)) (printed (Some (page, false)) (l ∷ before) lines)) t)) (sym (read-is page l s))
    (print_step (is_seen l before) (Read page l) (read_of page l) access seen s t lines (printed (Some (page, false)) (l ∷ before) lines) (read-is page l) refl run.0 at known sound alike
    (λ u v a k so al. run-alike lines (Some (page, false)) (l ∷ before) u v a k so al run.1))
run-alike (trace (Write page l) ∷ lines) access seen s t at known sound alike run =
    let before = seen_before (begins access page true) seen in
    subst (λ (u : TierState). Alike (after_lines lines u) (after_lines (printed_unless (is_seen l before) (trace (Write page l)) (printed (Some (page, true)) (l ∷ before) lines)) t)) (sym (write-is page l s))
    (print_step (is_seen l before) (Write page l) (write_of page l) access seen s t lines (printed (Some (page, true)) (l ∷ before) lines) (write-is page l) refl run.0 at known sound alike
    (λ u v a k so al. run-alike lines (Some (page, true)) (l ∷ before) u v a k so al run.1))
run-alike (trace Settle ∷ lines) access seen s t at known sound alike run =
    let same : (traced Settle s).access ≡ access = ap (λ u. u.access) (settle-is s) ∙ settled-access s ∙ at in
    run-alike lines access seen (traced Settle s) (traced Settle t) same (none_seen access seen (traced Settle s) (at_rest access run.0))
    (traced-sound Settle s tt sound) (traced-alike Settle s t alike) run.1
run-alike (trace (Clean n) ∷ lines) access seen s t at known sound alike run =
    let same : (traced (Clean n) s).access ≡ access = ap (λ u. u.access) (clean-is n s) ∙ clean-access n s ∙ at in
    run-alike lines access seen (traced (Clean n) s) (traced (Clean n) t) same (none_seen access seen (traced (Clean n) s) (at_rest access run.0))
    (traced-sound (Clean n) s tt sound) (traced-alike (Clean n) s t alike) run.1
run-alike (trace (LogReads n) ∷ lines) access seen s t at known sound alike run =
    run-alike lines access seen (traced (LogReads n) s) (traced (LogReads n) t) (counted-access n s ∙ at) (counted-seen access seen n s known)
    (traced-sound (LogReads n) s tt sound) (traced-alike (LogReads n) s t alike) run
  where
    counted-access : (n : ℕ) (u : TierState) → (traced (LogReads n) u).access ≡ u.access
    counted-access n u = ap (λ v. v.access) (log-is n u)
run-alike (reply ∷ lines) access seen s t at known sound alike run =
    run-alike lines None [] (rested s) (rested t) refl (none_seen None [] (rested s) refl) (with_access s None sound) (rested-alike s t alike) run
run-alike (epoch rates ∷ lines) access seen s t at known sound alike run =
    run-alike lines access seen (with_rates rates s) (with_rates rates t) at (rated-seen access seen rates s known) (with_rates-sound rates s sound) (with_rates-alike rates s t alike) run

same_tally : (s t : TierState) → Alike s t → s.tally ≡ t.tally
unfolding Alike look
same_tally s t same = ap (λ u. u.tally) same

-- The tally of a run of all touches is that of the run of its printed touches.
pub printed-tally : (plan : Plan) (words : List ℕ) (lines : List Printed) → 1 ≤ plan.dram_frames → IsTable (take (pred (length words)) words) → IsRun None lines
    → (tier_run plan words lines).tally ≡ (tier_run plan words (printed None [] lines)).tally
unfolding tier_run
printed-tally plan words lines some table run =
    same_tally (after_lines lines (opened plan words)) (after_lines (printed None [] lines) (opened plan words))
    (run-alike lines None [] (opened plan words) (opened plan words) (opened-access plan words) (none_seen None [] (opened plan words) refl) (opened-sound plan words some table) (alike_refl (opened plan words)) run)

pub in_range : (access : Option (ℕ × Bool)) (lines : List Printed) → IsRun access lines → AllInRange lines
in_range access [] h = tt
in_range access (trace (Read page l) ∷ lines) h = (h.0, in_range (Some (page, false)) lines h.1)
in_range access (trace (Write page l) ∷ lines) h = (h.0, in_range (Some (page, true)) lines h.1)
in_range access (trace Settle ∷ lines) h = (tt, in_range access lines h.1)
in_range access (trace (Clean n) ∷ lines) h = (tt, in_range access lines h.1)
in_range access (trace (LogReads n) ∷ lines) h = (tt, in_range access lines h)
in_range access (reply ∷ lines) h = in_range None lines h
in_range access (epoch rates ∷ lines) h = in_range access lines h

pub run-sound : (plan : Plan) (words : List ℕ) (lines : List Printed) → 1 ≤ plan.dram_frames → IsTable (take (pred (length words)) words) → IsRun None lines → Sound (tier_run plan words lines)
run-sound plan words lines some table run = tier_run-sound plan words lines some table (in_range None lines run)
