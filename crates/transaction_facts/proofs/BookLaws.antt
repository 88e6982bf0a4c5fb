-- What holds of a store: as the tiers want it, and what a harden, both ends, a drain and an emptied log make of it.
use Rattle.std.proofs.Common.{◌≡◌, ℕ, zero, suc, ◌+◌, ◌*◌, ◌<◌, ◌≤◌, true, false, List, [], ◌∷◌, ◌++◌, length, get_or, refl, sym, ap, ◌∙◌, subst, inr, arith, None}
use Rattle.nvm_model.specs.declared.line.Line.{Line}
use Rattle.devices.specs.State.{State, current, fresh}
use Rattle.store_model.specs.Layout.{Sizes, pages, ring_lines, ring_blocks, floor64}
use Rattle.store_model.specs.Log.{Words, Change}
use Rattle.store_model.specs.Log.Entry.{commit, abort}
use Rattle.store_model.specs.Format.{Format, entries, log_check, zero_line}
use Rattle.store_model.specs.Format.Format.{whole_lines, named_words, with_cuts}
use Rattle.store_model.specs.Append.{commit_lines, abort_lines}
use Rattle.store_model.specs.Blocks.{drain_all_calls, AreCopied}
use Rattle.store_model.specs.Put.{IsLine}
use Rattle.store_model.specs.Pending.{record_entries, harden_calls, end_calls}
use Rattle.log_laws.proofs.StartLaws.{start_calls}
use Rattle.device_calls.specs.Leads.{Steps, Given, Lifts}
use Rattle.nvm_log.specs.Offsets.{Offsets}
use Rattle.tier_facts.specs.Data.{Data}
use Rattle.tier_facts.specs.Facts.{Aim, Held, Facts, Hard, Settled, AreClean, IsHardened}
use Rattle.tier_facts.proofs.CopyLaws.{facts_same, facts_loose, puts}
use Rattle.tier_facts.proofs.ShownLaws.{facts_read}
use Rattle.transaction_facts.specs.Records.{Records, FitsBehind}
use Rattle.transaction_facts.specs.Books.{BookData, Goal, Holds, HoldsCommitted, HoldsTaking, HoldsSettled, IsClosed, HeldGoal, HeldEnd, SameBook, Drains, CopiesRing, aim_of, goal_with, goal_committed, took_back, all_hard, all_ended, all_drained, all_emptied}
use Rattle.transaction_facts.proofs.RecordSteps.{harden_steps, harden_records, harden_waiting, commit_steps, commit_records, abort_steps, abort_records}
use Rattle.transaction_facts.proofs.DrainSteps.{drain_steps, drain_records}
use Rattle.transaction_facts.proofs.EmptySteps.{empty_steps, empty_records}

-- ---- as the tiers want it

pub no_pending : (format : Format) (xs : List Line) (cs : List Change) → entries format 0 xs ≡ record_entries cs → length xs ≡ 0 → cs ≡ []
no_pending format [] [] holds none = refl
no_pending format [] (c ∷ cs) holds none = cc
no_pending format (x ∷ xs) cs holds none = absurd (omega arith)

-- where nothing was stored behind the tail, no record waits
pub none_waits : (b : BookData) (goal : Goal) (s : State) (it : Holds b goal s) → b.log.written ≡ b.log.tail → IsHardened (aim_of b goal it.lines it.behind it.pending)
none_waits b goal s it same = record { none = no_pending goal.format it.behind it.pending it.records.waiting.holds (let count = it.count in omega (arith, count, same)) }

-- with other tiers
abbrev pub holds_tiers : (b : BookData) (goal : Goal) (s : State) (it : Holds b goal s) (t : Data) (n : State) → Facts t (aim_of b goal it.lines it.behind it.pending) n → Holds (record b { tiers = t }) goal n
holds_tiers b goal s it t n facts = record { format_same = it.format_same; lines = it.lines; behind = it.behind; pending = it.pending; facts = facts; records = it.records; count = it.count }

-- a call of the tiers that stores no line of a copy
pub lift_quiet : (b : BookData) (t : Data) (goal : Goal) (s : State) → Holds b goal s → Lifts Held (Facts b.tiers) (Facts t) HeldGoal (Holds (record b { tiers = t })) goal s
lift_quiet b t goal s it = record {
  aim = aim_of b goal it.lines it.behind it.pending;
  before = it.facts;
  held = λ mid held. held;
  after = λ n facts. holds_tiers b goal s it t n facts;
}

-- any other, where no record waits
pub lift_hard : (b : BookData) (t : Data) → b.log.written ≡ b.log.tail → (goal : Goal) (s : State) → Holds b goal s → Lifts Held (Hard b.tiers) (Hard t) HeldGoal (Holds (record b { tiers = t })) goal s
lift_hard b t same goal s it = record {
  aim = aim_of b goal it.lines it.behind it.pending;
  before = record { of_aim = none_waits b goal s it same; holds = it.facts };
  held = λ mid held. held;
  after = λ n facts. holds_tiers b goal s it t n facts.holds;
}

-- every dirty line stored, and a fence, where besides no write waits for a commit
pub lift_settle : (b : BookData) (t : Data) → b.log.written ≡ b.log.tail → (goal : Goal) (s : State) → Given IsClosed (Holds b) goal s → Lifts Held (Hard b.tiers) (Settled t) HeldGoal (HoldsSettled (record b { tiers = t })) goal s
lift_settle b t same goal s it = record {
  aim = aim_of b goal it.holds.lines it.holds.behind it.holds.pending;
  before = record { of_aim = none_waits b goal s it.holds same; holds = it.holds.facts };
  held = λ mid held. held;
  after = λ n settled. record { holds = holds_tiers b goal s it.holds t n settled.facts; settled = settled; closed = it.of_aim };
}

-- what goes on behind a commit: no write waits any more
pub lift_committed : (b c : BookData) (goal : Goal) (s : State) → HoldsCommitted b goal s → Lifts HeldGoal (Given IsClosed (Holds b)) (Holds c) HeldEnd (HoldsCommitted c) goal s
lift_committed b c goal s it = record {
  aim = goal_committed goal;
  before = record { of_aim = record { same = λ p l w word. refl }; holds = it };
  held = λ mid held. record { keeps = held.keeps; format_is = held.format_is; sizes = held.sizes; committed = λ n. inr (ap (λ (k : ℕ → Words). k n) held.committed); facts = held.facts };
  after = λ t holds. holds;
}

pub holds_held : (b : BookData) (goal : Goal) (s : State) → Holds b goal s → HeldGoal goal s
holds_held b goal s it = record { keeps = _; format_is = refl; sizes = refl; committed = refl; facts = it.facts.facts }

-- the same of what one reads
pub holds_read : (b : BookData) (goal : Goal) (s : State) → Holds b goal s → Holds b goal (fresh (current s))
holds_read b goal s it = record {
  format_same = it.format_same;
  lines = it.lines;
  behind = it.behind;
  pending = it.pending;
  facts = facts_read b.tiers (aim_of b goal it.lines it.behind it.pending) s it.facts;
  records = it.records;
  count = it.count;
}

-- ---- books that say the same

pub holds_same : {b c : BookData} → SameBook b c → (goal : Goal) (s : State) → Holds b goal s → Holds c goal s
holds_same {b} {c} same goal s it = record {
  format_same = same.format ∙ it.format_same;
  lines = it.lines;
  behind = it.behind;
  pending = it.pending;
  facts = subst (λ (o : Offsets). Facts c.tiers (aim_of (record c { log = o }) goal it.lines it.behind it.pending) s) (sym same.log)
      (facts_same same.tiers (aim_of (record b { loose = c.loose }) goal it.lines it.behind it.pending) s
      (facts_loose b.tiers (aim_of b goal it.lines it.behind it.pending) s c.loose
      (λ p l hp hl dirty. same.loose p l (in_pages p hp) hl ∙ it.facts.loose p l hp hl dirty)
      (λ p l w word is. it.facts.recorded p l w word (sym (same.loose p l (in_pages p word.page) word.line) ∙ is)) it.facts));
  records = subst (λ (o : Offsets). Records (aim_of (record c { log = o }) goal it.lines it.behind it.pending)) (sym same.log) (record {
    waiting = record { room = it.records.waiting.room; are_lines = it.records.waiting.are_lines; passes = it.records.waiting.passes; holds = it.records.waiting.holds; right = it.records.waiting.right };
    ends = it.records.ends;
  });
  count = ap (λ (o : Offsets). o.tail + length it.behind) same.log ∙ it.count ∙ sym (ap (λ (o : Offsets). o.written) same.log);
}
  where
    in_pages : (p : ℕ) → p < pages goal.sizes → p < pages b.tiers.sizes
    in_pages p hp = subst (λ (g : Sizes). p < pages g) (sym it.facts.sizes_same) hp

-- ---- a harden

pub harden_holds : (b : BookData) (goal : Goal) (s : State) → Holds b goal s → Steps HeldGoal (Holds (all_hard b)) (harden_calls b.log.written) goal s
harden_holds b goal s it = subst (λ (n : ℕ). Steps HeldGoal (Holds (record b { log = record b.log { tail = n } })) (harden_calls n) goal s) it.count
    (let aim : Aim = aim_of b goal it.lines it.behind it.pending in
    let steps = harden_steps b.tiers aim s it.facts it.records.waiting in
    record {
      facts = record {
        format_same = it.format_same;
        lines = aim.log ++ it.behind;
        behind = [];
        pending = [];
        facts = steps.facts;
        records = harden_records b.tiers aim s it.facts it.records;
        count = (let count = it.count in omega (arith, count));
      };
      moments = λ mid amid. steps.moments mid amid;
    })

-- ---- ends

commit_fits : (aim : Aim) → aim.super.tail + length aim.behind + 1 ≤ aim.super.drained + ring_lines aim.super.sizes → FitsBehind aim commit_lines commit
commit_fits aim room = record { room = room; are_lines = one; passes = λ at. checks aim.format at; holds = reads aim.format }
  where
    one : (k : ℕ) → k < 1 → IsLine (get_or commit_lines k zero_line)
    one zero h = refl
    one (suc k) h = absurd (omega arith)

    checks : (format : Format) (at : ℕ) → log_check format aim.super.sizes at 0 commit_lines ≡ None
    checks whole_lines at = refl
    checks named_words at = refl
    checks with_cuts at = refl

    reads : (format : Format) → entries format 0 commit_lines ≡ commit ∷ []
    reads whole_lines = refl
    reads named_words = refl
    reads with_cuts = refl

abort_fits : (aim : Aim) → aim.super.tail + length aim.behind + 1 ≤ aim.super.drained + ring_lines aim.super.sizes → FitsBehind aim abort_lines abort
abort_fits aim room = record { room = room; are_lines = one; passes = λ at. checks aim.format at; holds = reads aim.format }
  where
    one : (k : ℕ) → k < 1 → IsLine (get_or abort_lines k zero_line)
    one zero h = refl
    one (suc k) h = absurd (omega arith)

    checks : (format : Format) (at : ℕ) → log_check format aim.super.sizes at 0 abort_lines ≡ None
    checks whole_lines at = refl
    checks named_words at = refl
    checks with_cuts at = refl

    reads : (format : Format) → entries format 0 abort_lines ≡ abort ∷ []
    reads whole_lines = refl
    reads named_words = refl
    reads with_cuts = refl

-- of a commit
pub end_holds : (b : BookData) → b.log.written + 1 ≤ b.log.drained + ring_lines b.tiers.sizes → (goal : Goal) (s : State) → Holds b goal s
    → Steps HeldEnd (HoldsCommitted (all_ended b)) (end_calls b.tiers.sizes b.log.written commit_lines) goal s
end_holds b room goal s it =
    let aim : Aim = aim_of b goal it.lines it.behind it.pending in
    let here : b.log.written + 1 ≤ b.log.drained + ring_lines goal.sizes = subst (λ (g : Sizes). b.log.written + 1 ≤ b.log.drained + ring_lines g) it.facts.sizes_same room in
    let fits : FitsBehind aim commit_lines commit = commit_fits aim (let count = it.count in omega (arith, count, here)) in
    let steps = commit_steps b.tiers aim s it.facts it.records commit_lines fits in
    let made : Steps HeldEnd (HoldsCommitted (record b { log = record b.log { tail = b.log.tail + length it.behind + 1; written = b.log.tail + length it.behind + 1 } })) (end_calls goal.sizes (b.log.tail + length it.behind) commit_lines) goal s = record {
      facts = record {
        format_same = it.format_same;
        lines = it.lines ++ (it.behind ++ commit_lines);
        behind = [];
        pending = [];
        facts = steps.facts;
        records = commit_records b.tiers aim s it.facts it.records commit_lines fits;
        count = omega arith;
      };
      moments = λ mid amid. steps.moments mid amid;
    } in
    subst (λ (g : Sizes). Steps HeldEnd (HoldsCommitted (all_ended b)) (end_calls g b.log.written commit_lines) goal s) (sym it.facts.sizes_same)
    (subst (λ (n : ℕ). Steps HeldEnd (HoldsCommitted (record b { log = record b.log { tail = n + 1; written = n + 1 } })) (end_calls goal.sizes n commit_lines) goal s) it.count made)

-- ---- an abort

-- it begins where a store holds
abbrev pub takes_from : (b : BookData) (goal : Goal) (s : State) → Holds b goal s → HoldsTaking b goal s
takes_from b goal s it = record { format_same = it.format_same; lines = it.lines; behind = it.behind; pending = it.pending; facts = it.facts; waiting = it.records.waiting; count = it.count }

-- a loose line of a copy gets a value again
abbrev pub takes_line : (b : BookData) (page line : ℕ) (value : Line) → b.loose page line ≡ true → (goal : Goal) (s : State) → HoldsTaking b goal s
    → HoldsTaking (took_back page line value b) (goal_with page line value goal) s
takes_line b page line value loose goal s it = record {
  format_same = it.format_same;
  lines = it.lines;
  behind = it.behind;
  pending = it.pending;
  facts = puts b.tiers page line value (aim_of b goal it.lines it.behind it.pending) s (record { of_aim = record { loose = loose }; holds = it.facts });
  waiting = record { room = it.waiting.room; are_lines = it.waiting.are_lines; passes = it.waiting.passes; holds = it.waiting.holds; right = it.waiting.right };
  count = it.count;
}

-- a call of the tiers goes on within it
pub lift_taking : (b : BookData) (t : Data) (goal : Goal) (s : State) → HoldsTaking b goal s → Lifts Held (Facts b.tiers) (Facts t) HeldGoal (HoldsTaking (record b { tiers = t })) goal s
lift_taking b t goal s it = record {
  aim = aim_of b goal it.lines it.behind it.pending;
  before = it.facts;
  held = λ mid held. held;
  after = λ n facts. record { format_same = it.format_same; lines = it.lines; behind = it.behind; pending = it.pending; facts = facts; waiting = it.waiting; count = it.count };
}

-- also one that stores lines of copies, where no record waits
pub lift_taking_hard : (b : BookData) (t : Data) → b.log.written ≡ b.log.tail → (goal : Goal) (s : State) → HoldsTaking b goal s
    → Lifts Held (Hard b.tiers) (Hard t) HeldGoal (HoldsTaking (record b { tiers = t })) goal s
lift_taking_hard b t same goal s it = record {
  aim = aim_of b goal it.lines it.behind it.pending;
  before = record { of_aim = record { none = no_pending goal.format it.behind it.pending it.waiting.holds (let count = it.count in omega (arith, count, same)) }; holds = it.facts };
  held = λ mid held. held;
  after = λ n facts. record { format_same = it.format_same; lines = it.lines; behind = it.behind; pending = it.pending; facts = facts.holds; waiting = it.waiting; count = it.count };
}

-- a harden within it
pub harden_taking : (b : BookData) (goal : Goal) (s : State) → HoldsTaking b goal s → Steps HeldGoal (HoldsTaking (all_hard b)) (harden_calls b.log.written) goal s
harden_taking b goal s it = subst (λ (n : ℕ). Steps HeldGoal (HoldsTaking (record b { log = record b.log { tail = n } })) (harden_calls n) goal s) it.count
    (let aim : Aim = aim_of b goal it.lines it.behind it.pending in
    let steps = harden_steps b.tiers aim s it.facts it.waiting in
    record {
      facts = record {
        format_same = it.format_same;
        lines = it.lines ++ it.behind;
        behind = [];
        pending = [];
        facts = steps.facts;
        waiting = harden_waiting b.tiers aim s it.facts it.waiting;
        count = (let count = it.count in omega (arith, count));
      };
      moments = λ mid amid. steps.moments mid amid;
    })

-- and where all were taken back, its end is written
pub abort_holds : (b : BookData) → b.log.written + 1 ≤ b.log.drained + ring_lines b.tiers.sizes → (goal : Goal) (s : State) → Given IsClosed (HoldsTaking b) goal s
    → Steps HeldGoal (Holds (all_ended b)) (end_calls b.tiers.sizes b.log.written abort_lines) goal s
abort_holds b room goal s given =
    let it : HoldsTaking b goal s = given.holds in
    let aim : Aim = aim_of b goal it.lines it.behind it.pending in
    let here : b.log.written + 1 ≤ b.log.drained + ring_lines goal.sizes = subst (λ (g : Sizes). b.log.written + 1 ≤ b.log.drained + ring_lines g) it.facts.sizes_same room in
    let fits : FitsBehind aim abort_lines abort = abort_fits aim (let count = it.count in omega (arith, count, here)) in
    let steps = abort_steps b.tiers aim s it.facts it.waiting abort_lines fits in
    let made : Steps HeldGoal (Holds (record b { log = record b.log { tail = b.log.tail + length it.behind + 1; written = b.log.tail + length it.behind + 1 } })) (end_calls goal.sizes (b.log.tail + length it.behind) abort_lines) goal s = record {
      facts = record {
        format_same = it.format_same;
        lines = it.lines ++ (it.behind ++ abort_lines);
        behind = [];
        pending = [];
        facts = steps.facts;
        records = abort_records b.tiers aim s it.facts it.waiting abort_lines fits (λ p l w word. given.of_aim.same p l w word);
        count = omega arith;
      };
      moments = λ mid amid. steps.moments mid amid;
    } in
    subst (λ (g : Sizes). Steps HeldGoal (Holds (all_ended b)) (end_calls g b.log.written abort_lines) goal s) (sym it.facts.sizes_same)
    (subst (λ (n : ℕ). Steps HeldGoal (Holds (record b { log = record b.log { tail = n + 1; written = n + 1 } })) (end_calls goal.sizes n abort_lines) goal s) it.count made)

-- ---- a drain

pub drain_holds : (b : BookData) (blocks : List (List ℕ)) → Drains b blocks → (goal : Goal) (s : State) → CopiesRing b blocks s → Holds b goal s
    → Steps HeldGoal (Holds (all_drained (length blocks) b)) (drain_all_calls b.tiers.sizes b.log.drained blocks) goal s
drain_holds b blocks drains goal s copied it =
    let aim : Aim = aim_of b goal it.lines it.behind it.pending in
    let same : b.tiers.sizes ≡ goal.sizes = it.facts.sizes_same in
    let steps = drain_steps b.tiers aim s it.facts blocks drains.lines
    (subst (λ (g : Sizes). b.log.drained + 64 * length blocks ≤ floor64 b.log.start + 64 * ring_blocks g) same drains.room)
    (subst (λ (g : Sizes). length blocks ≤ ring_blocks g) same drains.few)
    (subst (λ (g : Sizes). AreCopied g b.log.drained blocks s) same copied) in
    subst (λ (g : Sizes). Steps HeldGoal (Holds (all_drained (length blocks) b)) (drain_all_calls g b.log.drained blocks) goal s) (sym same) (record {
      facts = record {
        format_same = it.format_same;
        lines = it.lines;
        behind = it.behind;
        pending = it.pending;
        facts = steps.facts;
        records = drain_records aim (64 * length blocks) it.records;
        count = it.count;
      };
      moments = λ mid amid. steps.moments mid amid;
    })

-- ---- a start that is moved

pub start_holds : (b : BookData) → AreClean b.tiers → b.log.written ≡ b.log.tail → (goal : Goal) (s : State) → HoldsSettled b goal s
    → Steps HeldGoal (Holds (all_emptied b)) (start_calls b.log.tail) goal s
start_holds b clean hard goal s settled =
    let it : Holds b goal s = settled.holds in
    let aim : Aim = aim_of b goal it.lines it.behind it.pending in
    let steps = empty_steps b.tiers clean aim s settled.settled (λ p l w word. settled.closed.same p l w word) in
    record {
      facts = record {
        format_same = it.format_same;
        lines = [];
        behind = [];
        pending = [];
        facts = steps.facts;
        records = empty_records aim (λ p l. false) it.records;
        count = omega (arith, hard);
      };
      moments = λ mid amid. steps.moments mid amid;
    }
