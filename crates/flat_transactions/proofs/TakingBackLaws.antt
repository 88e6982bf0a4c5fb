-- An abort takes back record after record.
use Rattle.std.proofs.Common.{◌≡◌, ℕ, zero, suc, ◌+◌, ◌-◌, ◌*◌, ◌<◌, ◌≤◌, List, [], ◌∷◌, drop, length, refl, sym, ◌∙◌, subst, arith, inl, inr, IsTrue, Result, Ok, Err}
use Rattle.std.proofs.lemmas.Bool.{cases_lt}
use Rattle.devices.specs.State.{State, Amid, current, fresh}
use Rattle.devices.specs.World.{Standing, Goes, MakesAll, now}
use Rattle.line_pages.specs.declared.stop.Stop.{Stop}
use Rattle.flat_store_meaning.specs.Layout.{Sizes}
use Rattle.flat_store_meaning.specs.Log.{Change, undone}
use Rattle.flat_store_meaning.specs.Recovered.{log_line}
use Rattle.flat_store_meaning.specs.InPlace.{store_calls}
use Rattle.flat_store_laws.specs.OpenGroup.{IsOfStore, AreOfStore, RecordAt}
use Rattle.flat_store_laws.specs.Steps.{HoldsFacts, LeadsTo}
use Rattle.flat_store_laws.specs.Undoing.{TakingBack}
use Rattle.flat_store_laws.proofs.OpenLaws.{facts_range}
use Rattle.flat_store_laws.proofs.ReadBackLaws.{group_tail, group_reads}
use Rattle.flat_store_laws.proofs.StepLaws.{back_leads, back_read, read_facts, read_committed, steady_facts, steady_during, steady_held, leaves_earlier}
use Rattle.flat_store_laws.proofs.TakingBackLaws.{back_held}
use Rattle.flat_transactions.specs.TakenBack.{StandsAt, TakesLine, BackRead, BackSteady, TakesBack}

of_store_at : (g : Sizes) (k : ℕ) (cs : List Change) (c : Change) (rest : List Change) → AreOfStore g cs → drop k cs ≡ c ∷ rest → IsOfStore g c
of_store_at g zero [] c rest all at = absurd (cc)
of_store_at g (suc k) [] c rest all at = absurd (cc)
of_store_at g zero (x ∷ xs) c rest all at = let same : x ≡ c = cc in subst (λ (y : Change). IsOfStore g y) same all.0
of_store_at g (suc k) (x ∷ xs) c rest all at = of_store_at g k xs c rest all.1 at

-- The record that is taken back next, where it stands, and what its calls lead to.
record NextRecord (g : Sizes) (start tail first k : ℕ) (s : State) : Type 0 where
  change : Change
  stands : StandsAt g (log_line g start (current s)) (first + 3 * k) change
  leads : LeadsTo g (TakingBack g start tail first k) (store_calls g change.page change.line change.before) s
  held : (mid : State) → Amid s (store_calls g change.page change.line change.before) mid → HoldsFacts g mid

next_record : (g : Sizes) (start tail first k : ℕ) (s : State) → TakingBack g start tail first (suc k) s → first + 3 * k + 3 ≤ tail → NextRecord g start tail first k s
next_record g start tail first k s it within =
    let started : start ≤ tail = (facts_range g start tail (undone (drop (suc k) (it.group).group) it.words) it.kept s (it.undoing).facts (it.undoing).super_words).0 in
    let long : tail ≡ first + 3 * length (it.group).group = group_tail g start tail first (current s) it.group (it.undoing).super_words started in
    let at : RecordAt (log_line g start (current s)) (first + 3 * k) k (it.group).group = group_reads g start tail first (current s) it.group (it.undoing).super_words k (omega arith) in
    record {
      change = at.change;
      stands = record { of_store = of_store_at g k (it.group).group at.change at.rest (it.group).of_store at.next; head = at.head; before = at.before };
      leads = back_leads g start tail first k s it at.change at.rest at.next;
      held = back_held g start tail first k s it at.change at.rest at.next;
    }

-- one record taken back
pub back_one : {T : Type 0} (g : Sizes) (start tail first k : ℕ) (a b : Standing) (r : Result T Stop) → Goes a b → IsTrue a.told → first + 3 * k + 3 ≤ tail
    → TakesLine g start (first + 3 * k) a b r → TakesBack g start tail first (suc k) k a b r
back_one g start tail first k a b r goes told within line = record {
  read = λ it.
      let next : NextRecord g start tail first k (fresh (current (now a))) = next_record g start tail first k (fresh (current (now a))) it within in
      let makes : MakesAll (store_calls g (next.change).page (next.change).line (next.change).before) a b r = line.makes next.change next.stands in
      record {
        stops = line.stops next.change next.stands;
        left = read_facts (store_calls g (next.change).page (next.change).line (next.change).before) a b r goes makes told (TakingBack g start tail first k) (back_read g start tail first k) next.leads;
        committed = read_committed (store_calls g (next.change).page (next.change).line (next.change).before) a b r goes makes told next.leads;
      };
  steady = λ it.
      let next : NextRecord g start tail first k (now a) = next_record g start tail first k (now a) it within in
      let makes : MakesAll (store_calls g (next.change).page (next.change).line (next.change).before) a b r = line.makes next.change next.stands in
      record {
        left = steady_facts (store_calls g (next.change).page (next.change).line (next.change).before) a b r goes makes told (TakingBack g start tail first k) next.leads;
        during = steady_during (store_calls g (next.change).page (next.change).line (next.change).before) a b r goes makes told next.leads;
        held = steady_held (store_calls g (next.change).page (next.change).line (next.change).before) a b r goes makes told g next.held;
      };
}

-- none, and some after others
pub back_none : (g : Sizes) (start tail first n k : ℕ) (a : Standing) → n ≡ k → TakesBack {T = Unit {0}} g start tail first n k a a (Ok tt)
back_none g start tail first n k a same = record {
  read = λ it. record { stops = tt; left = subst (λ j. TakingBack g start tail first j (fresh (current (now a)))) same it; committed = refl };
  steady = λ it. record { left = subst (λ j. TakingBack g start tail first j (now a)) same it; during = λ m low high lines h. absurd (omega arith); held = λ m low high. absurd (omega arith) };
}

pub back_then : {T U : Type 0} {v : U} (g : Sizes) (start tail first n j k : ℕ) (a b c : Standing) (r : Result T Stop) → Goes a b → Goes b c
    → TakesBack {T = U} g start tail first n j a b (Ok v) → TakesBack g start tail first j k b c r → TakesBack g start tail first n k a c r
back_then g start tail first n j k a b c r goes goes_on front back = record {
  read = λ it.
      let once : BackRead g start tail first j a b (Ok _) = front.read it in
      let more : BackRead g start tail first k b c r = back.read once.left in
      record { stops = more.stops; left = more.left; committed = more.committed ∙ once.committed };
  steady = λ it.
      let once : BackSteady g start tail first j a b (Ok _) = front.steady it in
      let more : BackSteady g start tail first k b c r = back.steady once.left in
      record {
        left = more.left;
        during = λ m low high lines h. elim (cases_lt b.clock m) [
          | inl later ↦ more.during m later high lines h ∙ (front.read (back_read g start tail first n (now a) it)).committed
          | inr earlier ↦ once.during m low earlier lines (leaves_earlier g b c goes_on m lines earlier h)
        ];
        held = λ m low high. elim (cases_lt b.clock m) [
          | inl later ↦ more.held m later high
          | inr earlier ↦ subst (λ (s : State). HoldsFacts g s) (sym (goes_on.earlier m earlier)) (once.held m low earlier)
        ];
      };
}

-- the next of so many records, after some were taken back
pub back_next : {T U : Type 0} {v : U} (g : Sizes) (start tail first records taken : ℕ) (a b c : Standing) (r : Result T Stop) → Goes a b → Goes b c → IsTrue a.told
    → taken < records → first + 3 * records ≤ tail → TakesBack {T = U} g start tail first records (records - taken) a b (Ok v)
    → TakesLine g start (first + 3 * (records - 1 - taken)) b c r → TakesBack g start tail first records (records - (taken + 1)) a c r
back_next {T = T} g start tail first records taken a b c r goes goes_on told more within front line =
    let this : suc (records - 1 - taken) ≡ records - taken = omega arith in
    let left : records - 1 - taken ≡ records - (taken + 1) = omega arith in
    subst (λ n. TakesBack g start tail first records n a c r) left
    (back_then g start tail first records (records - taken) (records - 1 - taken) a b c r goes goes_on front
    (subst (λ n. TakesBack g start tail first n (records - 1 - taken) b c r) this
    (back_one g start tail first (records - 1 - taken) b c r goes_on (subst (λ t. IsTrue t) (sym goes.told) told) (omega arith) line)))

-- a stop that is handed on, however many are left
pub back_on : {T U : Type 0} {why : Stop} (g : Sizes) (start tail first n j k : ℕ) (a b : Standing) (r : Result U Stop) → r ≡ Err why
    → TakesBack {T = T} g start tail first n j a b (Err why) → TakesBack g start tail first n k a b r
back_on {U = U} {why = why} g start tail first n j k a b r is stop =
    subst (λ (x : Result U Stop). TakesBack g start tail first n k a b x) (sym is)
    (record {
      read = λ it. let once : BackRead g start tail first j a b (Err why) = stop.read it in record { stops = once.stops; left = tt; committed = once.committed };
      steady = λ it. let once : BackSteady g start tail first j a b (Err why) = stop.steady it in record { left = tt; during = once.during; held = once.held };
    })
