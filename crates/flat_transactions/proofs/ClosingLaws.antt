-- What a checkpoint and an abort lead to, by their calls.
use Rattle.std.proofs.Common.{◌≡◌, ℕ, zero, suc, ◌+◌, ◌-◌, ◌*◌, ◌/◌, ◌≤◌, List, [], ◌∷◌, ◌++◌, length, refl, sym, ap, ◌∙◌, subst, arith, inl, inr, IsTrue, Result, Ok, Err}
use Rattle.std.specs.Prelude.{IfErr}
use Rattle.std.proofs.lemmas.Bool.{cases_lt}
use Rattle.nvm_model.specs.declared.line.Line.{Line}
use Rattle.devices.specs.State.{State, Image, current, fresh, after_all}
use Rattle.devices.specs.World.{Standing, Goes, MakesAll, now}
use Rattle.line_pages.specs.declared.stop.Stop.{Stop}
use Rattle.flat_store_meaning.specs.Layout.{Sizes, ring_lines}
use Rattle.flat_store_meaning.specs.Log.{Change, changes}
use Rattle.flat_store_meaning.specs.Format.Format.{whole_lines}
use Rattle.flat_store_meaning.specs.Recovered.{Super, super_of, from, log_line, log_lines, log_of}
use Rattle.flat_store_meaning.specs.Put.{append_calls}
use Rattle.flat_store_meaning.specs.Append.{abort_lines}
use Rattle.flat_store_meaning.proofs.FactsLaws.{current_leaves}
use Rattle.flat_store_meaning.proofs.AtEndLaws.{OnOk_map}
use Rattle.flat_store_laws.specs.OpenFacts.{OpenFacts, super_with}
use Rattle.flat_store_laws.specs.OpenGroup.{OpenGroup}
use Rattle.flat_store_laws.specs.ShownPages.{pages_in, committed_in}
use Rattle.flat_store_laws.specs.Calls.{checkpoint_calls}
use Rattle.flat_store_laws.specs.Steps.{HoldsFacts, LeadsTo}
use Rattle.flat_store_laws.specs.Undoing.{TakingBack}
use Rattle.flat_store_laws.proofs.OpenLaws.{facts_range}
use Rattle.flat_store_laws.proofs.AsReadLaws.{open_read}
use Rattle.flat_store_laws.proofs.GroupLaws.{group_changes, group_none, group_abort}
use Rattle.flat_store_laws.proofs.ReadBackLaws.{group_tail}
use Rattle.flat_store_laws.proofs.CheckpointLaws.{checkpoint_open, checkpoint_empty, checkpoint_held, checkpoint_moment}
use Rattle.flat_store_laws.proofs.TakingBackLaws.{back_begins, back_open, back_log, back_ends, back_end_held}
use Rattle.flat_store_laws.proofs.StepLaws.{checkpoint_step, abort_step, back_read, leaves_earlier, read_facts, read_committed, read_current, steady_facts, steady_during, steady_held}
use Rattle.flat_transactions.specs.Closing.{IsClosed, ClosesRead, ClosesSteady, Empties, Aborts}
use Rattle.flat_transactions.specs.TakenBack.{IsNvm, BackRead, BackSteady, TakesBack}

no_records : (cs : List Change) → length cs ≡ 0 → cs ≡ []
no_records [] none = refl
no_records (c ∷ cs) none = absurd (cc)

-- A group that begins at the tail is empty.
pub nothing_open : (g : Sizes) (start tail : ℕ) (s : State) → OpenFacts g start tail s → OpenGroup g start tail (current s) → changes (log_of whole_lines (current s)).open_items ≡ []
nothing_open g start tail s it group =
    let started : start ≤ tail = (facts_range g start tail it.words it.kept s it.facts it.super_words).0 in
    let long : tail ≡ tail + 3 * length group.group = group_tail g start tail tail (current s) group it.super_words started in
    group_changes g start tail (current s) group ∙ no_records group.group (omega arith)

pub closed_read : (g : Sizes) (start tail : ℕ) (s : State) → IsClosed g start tail s → IsClosed g start tail (fresh (current s))
closed_read g start tail s it = record { facts = open_read g start tail s it.facts; group = it.group }

pub checkpoint_leads : (g : Sizes) (start tail : ℕ) (s : State) → OpenFacts g start tail s → OpenGroup g start tail (current s) → LeadsTo g (IsClosed g tail tail) (checkpoint_calls tail) s
checkpoint_leads g start tail s it group =
    let closed : changes (log_of whole_lines (current s)).open_items ≡ [] = nothing_open g start tail s it group in
    let s₁ : State = after_all (checkpoint_calls tail) s in
    record {
      facts = record {
        facts = checkpoint_open g start tail s it closed;
        group = group_none g tail (current s₁) (checkpoint_empty g start tail s it closed (current s₁) (current_leaves s₁));
      };
      moments = checkpoint_moment g start tail s it closed;
    }

-- A function that made the calls of a checkpoint emptied the log.
pub checkpoint_empties : {T E : Type 0} (g : Sizes) (start tail : ℕ) (old new : Standing) (r : Result T E) → Goes old new → MakesAll (checkpoint_calls tail) old new r → IsTrue old.told
    → Empties g start tail old new r
checkpoint_empties g start tail old new r goes makes told = record {
  read = λ it group.
      let leads : LeadsTo g (IsClosed g tail tail) (checkpoint_calls tail) (fresh (current (now old))) = checkpoint_leads g start tail (fresh (current (now old))) it group in
      record {
        closed = read_facts (checkpoint_calls tail) old new r goes makes told (IsClosed g tail tail) (closed_read g tail tail) leads;
        current = read_current (checkpoint_calls tail) old new r goes makes told g tail tail
            (checkpoint_step g start tail (fresh (current (now old))) it (nothing_open g start tail (fresh (current (now old))) it group));
        committed = read_committed (checkpoint_calls tail) old new r goes makes told leads;
      };
  steady = λ it group.
      let leads : LeadsTo g (IsClosed g tail tail) (checkpoint_calls tail) (now old) = checkpoint_leads g start tail (now old) it group in
      record {
        closed = steady_facts (checkpoint_calls tail) old new r goes makes told (IsClosed g tail tail) leads;
        during = steady_during (checkpoint_calls tail) old new r goes makes told leads;
        held = steady_held (checkpoint_calls tail) old new r goes makes told g (checkpoint_held g start tail (now old) it (nothing_open g start tail (now old) it group));
      };
}

-- the lines of a log are those between its offsets
pub lines_between : (g : Sizes) (start tail : ℕ) (i : Image) → super_of i ≡ super_with g start tail → length (log_lines i) ≡ tail - start
lines_between g start tail i is =
    ap (λ (x : Super). length (from (log_line x.sizes x.drained i) x.start (x.tail - x.start))) is ∙ so_many (log_line g start i) start (tail - start)
  where
    so_many : (f : ℕ → Line) (at n : ℕ) → length (from f at n) ≡ n
    so_many f at zero = refl
    so_many f at (suc n) = ap suc (so_many f (at + 1) n)

-- The end of an abort behind a group: the next one begins at the tail.
pub abort_closes : (g : Sizes) (start tail first : ℕ) (s : State) (j : Image) → OpenFacts g start tail s → OpenGroup g start first j → log_lines (current s) ≡ log_lines j ++ abort_lines → IsClosed g start tail s
abort_closes g start tail first s j it group more =
    let started : start ≤ tail = (facts_range g start tail it.words it.kept s it.facts it.super_words).0 in
    let long : length (log_lines (current s)) ≡ tail - start = lines_between g start tail (current s) it.super_words in
    let next : start + length (log_lines (current s)) ≡ tail = omega arith in
    record { facts = it; group = subst (λ n. OpenGroup g start n (current s)) next (group_abort g start first (current s) j group more) }

pub end_leads : (g : Sizes) (start tail first : ℕ) (s : State) → TakingBack g start tail first 0 s → tail + 1 ≤ start + ring_lines g
    → LeadsTo g (IsClosed g start (tail + 1)) (append_calls g tail abort_lines) s
end_leads g start tail first s it room = record {
  facts = abort_closes g start (tail + 1) first (after_all (append_calls g tail abort_lines) s) (current s) (back_open g start tail first s it room) it.group
      (back_log g start tail first s it room);
  moments = back_ends g start tail first s it room;
}

-- before the first record was taken back all of them stand
pub all_stand : (g : Sizes) (start tail first : ℕ) (s : State) → OpenFacts g start tail s → OpenGroup g start first (current s) → TakingBack g start tail first ((tail - first) / 3) s
all_stand g start tail first s it group =
    let started : start ≤ tail = (facts_range g start tail it.words it.kept s it.facts it.super_words).0 in
    let long : tail ≡ first + 3 * length group.group = group_tail g start tail first (current s) group it.super_words started in
    let many : length group.group ≡ (tail - first) / 3 = omega arith in
    subst (λ n. TakingBack g start tail first n s) many (back_begins g start tail first s it group)

-- A function that took back all records, and then made the calls of the end, did an abort.
module _ (g : Sizes) (start tail first : ℕ) (a b c : Standing) (r : Result (Unit {0}) Stop) (goes : Goes a b) (goes_on : Goes b c) (told : IsTrue a.told)
    (front : TakesBack {T = Unit {0}} g start tail first ((tail - first) / 3) 0 a b (Ok tt)) (makes : MakesAll (append_calls g tail abort_lines) b c r)
    (room : tail + 1 ≤ start + ring_lines g) (stops : IfErr r IsNvm) where
  still_told : IsTrue b.told
  still_told = subst (λ t. IsTrue t) (sym goes.told) told

  ends_read : TakingBack g start tail first ((tail - first) / 3) (fresh (current (now a))) → ClosesRead g start (tail + 1) (committed_in (now a)) a c r
  ends_read begun =
      let back : BackRead g start tail first 0 a b (Ok tt) = front.read begun in
      let leads : LeadsTo g (IsClosed g start (tail + 1)) (append_calls g tail abort_lines) (fresh (current (now b))) = end_leads g start tail first (fresh (current (now b))) back.left room in
      record {
        closed = read_facts (append_calls g tail abort_lines) b c r goes_on makes still_told (IsClosed g start (tail + 1)) (closed_read g start (tail + 1)) leads;
        current = OnOk_map r (λ (e : pages_in g (now c) ≡ committed_in (now b)). e ∙ back.committed)
            (read_current (append_calls g tail abort_lines) b c r goes_on makes still_told g start (tail + 1) (abort_step g start tail first (fresh (current (now b))) back.left room));
        committed = read_committed (append_calls g tail abort_lines) b c r goes_on makes still_told leads ∙ back.committed;
      }

  ends_steady : TakingBack g start tail first ((tail - first) / 3) (now a) → ClosesSteady g start (tail + 1) a c r
  ends_steady begun =
      let back : BackSteady g start tail first 0 a b (Ok tt) = front.steady begun in
      let same : committed_in (now b) ≡ committed_in (now a) = (front.read (back_read g start tail first ((tail - first) / 3) (now a) begun)).committed in
      let leads : LeadsTo g (IsClosed g start (tail + 1)) (append_calls g tail abort_lines) (now b) = end_leads g start tail first (now b) back.left room in
      record {
        closed = steady_facts (append_calls g tail abort_lines) b c r goes_on makes still_told (IsClosed g start (tail + 1)) leads;
        during = λ m low high lines h. elim (cases_lt b.clock m) [
          | inl later ↦ steady_during (append_calls g tail abort_lines) b c r goes_on makes still_told leads m later high lines h ∙ same
          | inr earlier ↦ back.during m low earlier lines (leaves_earlier g b c goes_on m lines earlier h)
        ];
        held = λ m low high. elim (cases_lt b.clock m) [
          | inl later ↦ steady_held (append_calls g tail abort_lines) b c r goes_on makes still_told g (back_end_held g start tail first (now b) back.left room) m later high
          | inr earlier ↦ subst (λ (s : State). HoldsFacts g s) (sym (goes_on.earlier m earlier)) (back.held m low earlier)
        ];
      }

  pub ends_aborts : Aborts g start tail first a c r
  ends_aborts = record {
    stops = λ it group. stops;
    read = λ it group. ends_read (all_stand g start tail first (fresh (current (now a))) it group);
    steady = λ it group. ends_steady (all_stand g start tail first (now a) it group);
  }

-- One that was stopped before the end.
pub stops_aborts : {T U : Type 0} {why : Stop} (g : Sizes) (start tail first : ℕ) (a b : Standing) (r : Result U Stop) → r ≡ Err why
    → TakesBack {T = T} g start tail first ((tail - first) / 3) 0 a b (Err why) → Aborts g start tail first a b r
stops_aborts {U = U} {why = why} g start tail first a b r is front =
    subst (λ (x : Result U Stop). Aborts g start tail first a b x) (sym is)
    (record {
      stops = λ it group. (front.read (all_stand g start tail first (fresh (current (now a))) it group)).stops;
      read = λ it group. record { closed = tt; current = tt; committed = (front.read (all_stand g start tail first (fresh (current (now a))) it group)).committed };
      steady = λ it group.
          let back : BackSteady g start tail first 0 a b (Err why) = front.steady (all_stand g start tail first (now a) it group) in
          record { closed = tt; during = back.during; held = back.held };
    })

-- Where the log is empty nothing is open.
pub empty_closed : (g : Sizes) (start : ℕ) (s : State) → OpenFacts g start start s → IsClosed g start start s
empty_closed g start s it =
    let none : start - start ≡ 0 = omega arith in
    record {
      facts = it;
      group = group_none g start (current s)
          (ap (λ (x : Super). from (log_line x.sizes x.drained (current s)) x.start (x.tail - x.start)) it.super_words ∙ ap (λ n. from (log_line g start (current s)) start n) none);
    }
