-- The facts of an open store with its open group, over a write and both ends of a transaction.
use Rattle.std.proofs.Common.{◌≡◌, ℕ, ◌+◌, ◌-◌, ◌<◌, ◌≤◌, List, length, refl, sym, ap, ◌∙◌, subst, arith, IsTrue, Result}
use Rattle.std.specs.Prelude.{OnOk}
use Rattle.nvm_model.specs.declared.line.Line.{Line}
use Rattle.devices.specs.State.{State, Image, Call, current, fresh, line_at, after_all}
use Rattle.devices.specs.World.{Standing, Goes, MakesAll, now}
use Rattle.flat_store_meaning.specs.Layout.{Sizes, pages, frame_line, ring_lines}
use Rattle.flat_store_meaning.specs.Log.{Change}
use Rattle.flat_store_meaning.specs.Put.{IsLine, append_calls}
use Rattle.flat_store_meaning.specs.Append.{commit_lines}
use Rattle.flat_store_meaning.specs.Recovered.{log_lines}
use Rattle.flat_store_meaning.proofs.AtEndLaws.{OnOk_map}
use Rattle.flat_store_laws.specs.ShownPages.{committed_in}
use Rattle.flat_transactions.specs.StoreCalls.{LeavesOnly, HoldsAlong}
use Rattle.flat_store_laws.specs.OpenFacts.{OpenFacts}
use Rattle.flat_store_laws.specs.OpenGroup.{OpenGroup}
use Rattle.flat_store_laws.specs.Calls.{write_calls}
use Rattle.flat_store_laws.specs.Steps.{LeadsTo}
use Rattle.flat_store_laws.proofs.OpenLaws.{facts_range}
use Rattle.flat_store_laws.proofs.AsReadLaws.{after_as, current_as, fresh_as, open_read}
use Rattle.flat_store_laws.proofs.GroupLaws.{group_write, group_commit}
use Rattle.flat_store_laws.proofs.WriteLaws.{write_log, write_held}
use Rattle.flat_store_laws.proofs.EndLaws.{commit_log, commit_open}
use Rattle.flat_store_laws.proofs.StepLaws.{write_step, steady_held, open_left}
use Rattle.flat_transactions.specs.StoreStanding.{Stands}
use Rattle.flat_transactions.proofs.ClosingLaws.{lines_between}

-- they hold of what one reads of the state too
pub stands_read : (g : Sizes) (start tail first : ℕ) (s : State) → Stands g start tail first s → Stands g start tail first (fresh (current s))
stands_read g start tail first s it = record { facts = open_read g start tail s it.facts; group = it.group }

-- a write
pub write_leads : (g : Sizes) (start tail first : ℕ) (s : State) → Stands g start tail first s → (page line : ℕ) (value : Line) → page < pages g → line < 64 → IsLine value → tail + 3 ≤ start + ring_lines g
    → LeadsTo g (Stands g start (tail + 3) first) (write_calls g tail page line value s) s
write_leads g start tail first s it page line value hp hl is_line room =
    let step : _ = write_step g start tail s it.facts page line value hp hl is_line room in
    let change : Change = record { page = page; line = line; mask = 255; before = line_at s (frame_line g page line); after = value } in
    record {
      facts = record {
        facts = (step.leads).facts;
        group = group_write g start first (current (after_all (write_calls g tail page line value s) s)) (current s) change it.group (record { page = hp; line = hl; mask = refl })
            (write_log g start tail s it.facts page line value hp hl is_line room);
      };
      moments = (step.leads).moments;
    }

-- at each moment of a write the facts of a store hold
pub write_along : {T E : Type 0} (g : Sizes) (start tail first : ℕ) (a b : Standing) (r : Result T E) → Goes a b → IsTrue a.told → Stands g start tail first (now a)
    → (page line : ℕ) (value : Line) → page < pages g → line < 64 → IsLine value → tail + 3 ≤ start + ring_lines g → MakesAll (write_calls g tail page line value (now a)) a b r → HoldsAlong g a b
write_along g start tail first a b r goes told it page line value hp hl is_line room makes =
    steady_held (write_calls g tail page line value (now a)) a b r goes makes told g (write_held g start tail (now a) it.facts page line value hp hl is_line room)

-- the end of a commit leaves an empty group
pub commit_stands : (g : Sizes) (start tail first : ℕ) (s : State) → Stands g start tail first s → tail + 1 ≤ start + ring_lines g
    → Stands g start (tail + 1) (tail + 1) (after_all (append_calls g tail commit_lines) s)
commit_stands g start tail first s it room =
    let s₁ : State = after_all (append_calls g tail commit_lines) s in
    let facts : OpenFacts g start (tail + 1) s₁ = commit_open g start tail s it.facts room in
    let started : start ≤ tail + 1 = (facts_range g start (tail + 1) facts.words facts.kept s₁ facts.facts facts.super_words).0 in
    let behind : ℕ = start + length (log_lines (current s₁)) in
    let long : length (log_lines (current s₁)) ≡ tail + 1 - start = lines_between g start (tail + 1) (current s₁) facts.super_words in
    let next : behind ≡ tail + 1 = omega arith in
    let group : OpenGroup g start behind (current s₁) = group_commit g start first (current s₁) (current s) it.group (commit_log g start tail s it.facts room) in
    record { facts = facts; group = subst (λ n. OpenGroup g start n (current s₁)) next group }

-- what calls lead to, as one reads it
pub after_read : {T E : Type 0} (calls : List Call) (a b : Standing) (r : Result T E) → MakesAll calls a b r → IsTrue a.told
    → (Facts : State → Type 0) → ((s : State) → Facts s → Facts (fresh (current s))) → Facts (after_all calls (fresh (current (now a)))) → OnOk r (Facts (fresh (current (now b))))
after_read calls a b r makes told Facts reads facts =
    OnOk_map r (λ (done : now b ≡ after_all calls (now a)).
    subst (λ (i : Image). Facts (fresh i))
    (sym (ap current done ∙ current_as (after_all calls (now a)) (after_all calls (fresh (current (now a)))) (after_as calls (now a) (fresh (current (now a))) (fresh_as (now a)))))
    (reads (after_all calls (fresh (current (now a)))) facts)) (makes.whole told)

pub after_steady : {T E : Type 0} (calls : List Call) (a b : Standing) (r : Result T E) → MakesAll calls a b r → IsTrue a.told
    → (Facts : State → Type 0) → Facts (after_all calls (now a)) → OnOk r (Facts (now b))
after_steady calls a b r makes told Facts facts = OnOk_map r (λ (done : now b ≡ after_all calls (now a)). subst Facts (sym done) facts) (makes.whole told)

-- whatever a crash leaves of a store that stands recovers to its committed lines
pub stands_leaves : (g : Sizes) (start tail first : ℕ) (d : Standing) → Stands g start tail first (now d) → LeavesOnly g (committed_in (now d)) d
stands_leaves g start tail first d it lines left = open_left g start tail (now d) it.facts lines left.0 left.1 left.2
