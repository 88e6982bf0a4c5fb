-- The clauses of the calls of a log, out of the device calls that they make.
use Rattle.std.proofs.Common.{◌≡◌, ◌≢◌, ℕ, zero, suc, ◌+◌, ◌*◌, ◌<◌, ◌≤◌, List, [], ◌∷◌, ◌++◌, length, length-append, get_or, refl, sym, ap, ◌∙◌, subst, inl, inr, arith, true, false, Some, None, IsTrue, Result, Ok, Err}
use Rattle.std.specs.Prelude.{OnOk, IsErr, if◌then◌else◌, ◌==◌}
use Rattle.std.proofs.lemmas.Bool.{cases_Bool, cond-true, cond-false, eq-eqb, ne_eqb}
use Rattle.nvm_model.specs.declared.line.Line.{Line}
use Rattle.devices.specs.State.{State, Call, Image, Leaves, current, Amid, after_all}
use Rattle.devices.specs.World.{Standing, MakesAll, now}
use Rattle.devices.proofs.MomentLaws.{Moments-map}
use Rattle.devices.proofs.JoinLaws.{Moments-at}
use Rattle.store_model.specs.Layout.{Sizes, ring_lines}
use Rattle.store_model.specs.Log.{Log as Groups, Change, Entry, grouped, extended, no_log, is_logged}
use Rattle.store_model.specs.Log.Item.{write}
use Rattle.store_model.specs.Log.Entry.{item, commit, abort}
use Rattle.store_model.specs.Format.{Format, IsWhole, entries, lines_behind, zero_line, log_check, word_in}
use Rattle.store_model.specs.Format.Format.{whole_lines}
use Rattle.store_model.specs.Recovered.{Super, super_of, entry_at, frame_of, home, log_lines, log_of}
use Rattle.store_model.specs.InOrder.{HomeStands}
use Rattle.store_model.specs.StoreFacts.{Gate, Bookkeeping, IsWord, StoreFacts, committed_from}
use Rattle.store_model.specs.Put.{put_calls, IsLine, CanPut}
use Rattle.store_model.specs.Pending.{harden_calls, end_calls, record_entries, with_records, CanPutEntry, PendingStands, IsConstant, pending_with, none_pending}
use Rattle.store_model.specs.Seen.{gate_calls, changing_to}
use Rattle.home_laws.proofs.FactsLaws.{current_leaves}
use Rattle.home_laws.proofs.RecoveredLaws.{entries-append}
use Rattle.home_laws.proofs.SeenLaws.{facts_changing, facts_log}
use Rattle.log_laws.proofs.StandLaws.{home_stands}
use Rattle.log_laws.proofs.PendingFacts.{record_entries-append, append_pending_facts, append_pending_done, append_pending_stands, harden_facts, harden_done, commit_pending_facts, commit_pending_done, abort_pending_facts, abort_pending_done, nothing_stands, nothing_pending}
use Rattle.log_laws.proofs.LengthenedFacts.{append_lengthened, harden_lengthened, end_lengthened}
use Rattle.log_laws.proofs.StartLaws.{start_facts, start_done}
use Rattle.nvm_layout.specs.Sizes.{sizes_of}
use Rattle.nvm_log.specs.Entries.{change_of, record_lines, record_entry, end_lines, end_entry}
use Rattle.nvm_log.specs.Offsets.{Offsets, offsets_of, appended, hardened, emptied}
use Rattle.nvm_log.specs.Standing.{IsLogOf, HasPending}
use Rattle.nvm_log.specs.Groups.{HasGroups, HasEither, groups_now, Regroups, AppendsPending, HardenGroups}
use Rattle.nvm_log.specs.Facts.{HasFacts, Keeps, CanRecord, CanEmpty, HardenKeeps, CanEnd, ending, ended}
use Rattle.nvm_log.specs.declared.log.Log.{Log}
use Rattle.nvm_log.specs.declared.record.LineRecord.{LineRecord}
use Rattle.nvm_log.specs.declared.record.EndKind.{EndKind}
use Rattle.nvm_log.specs.declared.record.EndKind.TheVariants.{Commit, Abort}
use Rattle.nvm_log.proofs.EntryLaws.{record_are_lines, record_passes, end_are_lines, end_passes, end_entries}
use Rattle.nvm_log.proofs.GroupLaws.{log_durable, append_groups, more_stands, more_super, more_lines, harden_groups, harden_groups_done, harden_super, end_groups, end_groups_done, end_super, start_groups, start_groups_done, start_super}

OnOk_give : {T E : Type 0} {P Q : Type 0} (r : Result T E) → (P → Q) → OnOk r P → OnOk r Q
OnOk_give (Ok v) f p = f p
OnOk_give (Err e) f p = tt

-- the calls by the log in memory are those by the superblock
made_at : {T E : Type 0} {a b : Standing} {r : Result T E} (calls : Sizes → ℕ → List Call) (g h : Sizes) (n m : ℕ) → g ≡ h → n ≡ m → MakesAll (calls g n) a b r → MakesAll (calls h m) a b r
made_at {a = a} {b = d} {r = r} calls g h n m e f makes =
    subst (λ (x : Sizes). MakesAll (calls x m) a d r) e (subst (λ (k : ℕ). MakesAll (calls g k) a d r) f makes)

-- what holds of where the call leads, where it answers ok, holds of where the log in memory stands
moved_to : {T E : Type 0} (P : Offsets → Type 0) (at to : Offsets) (r : Result T E) → OnOk r (at ≡ to) → OnOk r (P to) → OnOk r (P at)
moved_to P at to (Ok v) moved p = subst P (sym moved) p
moved_to P at to (Err e) moved p = tt

-- where the call fails the log in memory stays
pub stays_put : {T E : Type 0} (P : Type 0) (r : Result T E) → IsErr r → OnOk r P
stays_put P (Ok v) failed = cc
stays_put P (Err e) failed = tt

-- calls with an equal line
pub made_with : {T E : Type 0} {a b : Standing} {r : Result T E} (calls : Line → List Call) (x y : Line) → x ≡ y → MakesAll (calls x) a b r → MakesAll (calls y) a b r
made_with {a = a} {b = d} {r = r} calls x y e makes = subst (λ (line : Line). MakesAll (calls line) a d r) e makes

-- the clauses of the calls, by where the log in memory stands behind them
abbrev AppendGroupsTo : {T E : Type 0} → Log → Offsets → LineRecord → Standing → Standing → Result T E → Type 0
AppendGroupsTo log to change old new result = (lines : List Line) (pending : List Change) → IsTrue old.told → HasPending whole_lines (sizes_of log.geometry) (offsets_of log) lines pending (now old)
    → AppendsPending whole_lines (sizes_of log.geometry) to (lines ++ record_lines change) (pending ++ change_of change ∷ []) old new result

abbrev HardenGroupsTo : {T E : Type 0} → Log → Offsets → Standing → Standing → Result T E → Type 0
HardenGroupsTo log to old new result = (lines : List Line) (pending : List Change) → IsTrue old.told → HasPending whole_lines (sizes_of log.geometry) (offsets_of log) lines pending (now old)
    → Regroups whole_lines (sizes_of log.geometry) to (with_records (groups_now whole_lines old) pending) old new result

abbrev EndGroupsTo : {T E : Type 0} → EndKind → Log → Offsets → Standing → Standing → Result T E → Type 0
EndGroupsTo kind log to old new result = (lines : List Line) (pending : List Change) → IsTrue old.told → HasPending whole_lines (sizes_of log.geometry) (offsets_of log) lines pending (now old)
    → Regroups whole_lines (sizes_of log.geometry) to (extended (with_records (groups_now whole_lines old) pending) (end_entry kind)) old new result

abbrev StartGroupsTo : {T E : Type 0} → Log → Offsets → Standing → Standing → Result T E → Type 0
StartGroupsTo log to old new result = IsTrue old.told → IsLogOf (sizes_of log.geometry) (offsets_of log) (now old) → CanPut (now old) 0
    → Regroups whole_lines (sizes_of log.geometry) to no_log old new result

-- where the store keeps these facts, it keeps those
abbrev KeepsTo : {T E : Type 0} → Log → Offsets → (Bookkeeping → State → Type 0) → (Bookkeeping → Bookkeeping) → (Bookkeeping → Bookkeeping) → (List Line → List Line) → Standing → Standing → Result T E → Type 0
KeepsTo log to Can during after left old new result = (b : Bookkeeping) (lines : List Line) → IsTrue old.told → HasFacts whole_lines (sizes_of log.geometry) (offsets_of log) b lines (now old) → Can b (now old)
    → Keeps whole_lines (sizes_of log.geometry) to (during b) (after b) (left lines) old new result

pub whole-append : (format : Format) (skip : ℕ) (xs ys : List Line) → IsWhole format skip xs → IsWhole format 0 ys → IsWhole format skip (xs ++ ys)
whole-append format zero [] ys whole behind = behind
whole-append format (suc skip) [] ys whole behind = absurd (omega arith)
whole-append format (suc skip) (x ∷ xs) ys whole behind = whole-append format skip xs ys whole behind
whole-append format zero (x ∷ xs) ys whole behind = whole-append format (lines_behind format x) xs ys whole behind

no_lines : (xs : List Line) → length xs ≡ 0 → xs ≡ []
no_lines [] e = refl
no_lines (x ∷ xs) e = absurd (omega arith)

no_records : (cs : List Change) → [] ≡ record_entries cs → cs ≡ []
no_records [] e = refl
no_records (c ∷ cs) e = cc

-- the superblock of a log in memory
pub super_log : (g : Sizes) (at : Offsets) (s t : State) (n : ℕ) → IsLogOf g at s → super_of (current t) ≡ record (super_of (current s)) { tail = n } → n ≡ at.written
    → IsLogOf g (hardened at) t
super_log g at s t n is e f = record {
  sizes = ap (λ (x : Super). x.sizes) e ∙ is.sizes;
  start = ap (λ (x : Super). x.start) e ∙ is.start;
  drained = ap (λ (x : Super). x.drained) e ∙ is.drained;
  tail = ap (λ (x : Super). x.tail) e ∙ f;
}

pub same_log : (g : Sizes) (at : Offsets) (s t : State) (n : ℕ) → IsLogOf g at s → super_of (current t) ≡ super_of (current s) → IsLogOf g (appended n at) t
same_log g at s t n is e = record {
  sizes = ap (λ (x : Super). x.sizes) e ∙ is.sizes;
  start = ap (λ (x : Super). x.start) e ∙ is.start;
  drained = ap (λ (x : Super). x.drained) e ∙ is.drained;
  tail = ap (λ (x : Super). x.tail) e ∙ is.tail;
}

emptied_log : (g : Sizes) (at : Offsets) (s t : State) → IsLogOf g at s → super_of (current t) ≡ record (super_of (current s)) { start = (super_of (current s)).tail } → IsLogOf g (emptied at) t
emptied_log g at s t is e = record {
  sizes = ap (λ (x : Super). x.sizes) e ∙ is.sizes;
  start = ap (λ (x : Super). x.start) e ∙ is.tail;
  drained = ap (λ (x : Super). x.drained) e ∙ is.drained;
  tail = ap (λ (x : Super). x.tail) e ∙ is.tail;
}

-- where the next line goes
pub next_is : (g : Sizes) (at : Offsets) (s : State) (n : ℕ) → IsLogOf g at s → at.tail + n ≡ at.written → at.written ≡ (super_of (current s)).tail + n
next_is g at s n is count = sym count ∙ ap (λ k. k + n) (sym is.tail)

-- the room in the ring, by the superblock
pub room_is : (g : Sizes) (at : Offsets) (s : State) (n m : ℕ) → IsLogOf g at s → at.tail + n ≡ at.written → at.written + m ≤ at.drained + ring_lines g
    → (super_of (current s)).tail + n + m ≤ (super_of (current s)).drained + ring_lines (super_of (current s)).sizes
room_is g at s n m is count room =
    let e : (super_of (current s)).tail ≡ at.tail = is.tail in
    let d : (super_of (current s)).drained ≡ at.drained = is.drained in
    let b : (super_of (current s)).sizes.log_blocks ≡ g.log_blocks = ap (λ (x : Sizes). x.log_blocks) is.sizes in
    omega arith

-- The groups, of calls of which a law says what they make of every image.
regroups : {T E : Type 0} {a b : Standing} {r : Result T E} (format : Format) (log : Log) (at : Offsets) (to : Offsets) (after : Groups) (calls : List Call) → IsTrue a.told
    → OnOk r (at ≡ to) → MakesAll calls a b r → ((mid : State) → Amid (now a) calls mid → HasEither format (groups_now format a) after mid)
    → HasGroups format after (after_all calls (now a)) → IsLogOf (sizes_of log.geometry) to (after_all calls (now a))
    → Regroups format (sizes_of log.geometry) at after a b r
regroups {b = d} {r = r} format log at to after calls told moved makes moments done is = record {
  part = Moments-map moments (makes.part told);
  whole = OnOk_give r (λ e. subst (λ (t : State). HasGroups format after t) (sym e) done) (makes.whole told);
  stands = moved_to (λ to. IsLogOf (sizes_of log.geometry) to (now d)) at to r moved (OnOk_give r (λ e. subst (λ (t : State). IsLogOf (sizes_of log.geometry) to t) (sym e) is) (makes.whole told));
}

-- Lines of one record are stored behind those that stand there: it is pending too.
module _ (format : Format) (g : Sizes) (at : Offsets) (lines : List Line) (pending : List Change) (s : State) (has : HasPending format g at lines pending s) (c : Change) (ys : List Line)
    (room : at.written + length ys ≤ at.drained + ring_lines g) (are_lines : (k : ℕ) → k < length ys → IsLine (get_or ys k zero_line))
    (is : entries format 0 ys ≡ item (write c) ∷ []) (whole : IsWhole format 0 ys) where
  room_here : (super_of (current s)).tail + length lines + length ys ≤ (super_of (current s)).drained + ring_lines (super_of (current s)).sizes
  room_here = room_is g at s (length lines) (length ys) has.log_is has.count room

  pub pending_appended : HasPending format g (appended (length ys) at) (lines ++ ys) (pending ++ c ∷ []) (after_all (put_calls (super_of (current s)).sizes ((super_of (current s)).tail + length lines) ys) s)
  pending_appended = record {
    log_is = same_log g at s _ (length ys) has.log_is (more_super format s lines has.stands ys room_here are_lines);
    whole = subst (λ (zs : List Line). IsWhole format 0 zs) (sym (more_lines format s lines has.stands ys room_here are_lines)) has.whole;
    stands = more_stands format s lines has.stands ys room_here are_lines;
    count = (let long : length (lines ++ ys) ≡ length lines + length ys = length-append lines ys in let count : at.tail + length lines ≡ at.written = has.count in omega arith);
    holds = entries-append format 0 lines ys has.whole_behind ∙ ap (λ (es : List Entry). es ++ entries format 0 ys) has.holds
        ∙ ap (λ (es : List Entry). record_entries pending ++ es) is ∙ sym (record_entries-append pending c);
    whole_behind = whole-append format 0 lines ys has.whole_behind whole;
  }

  pub groups_appended : (mid : State) → Amid s (put_calls (super_of (current s)).sizes ((super_of (current s)).tail + length lines) ys) mid → HasGroups format (log_of format (current s)) mid
  groups_appended = append_groups format s lines has.stands ys room_here are_lines

pub append_clause : {T E : Type 0} {a b : Standing} {r : Result T E} (log : Log) (at : Offsets) (change : LineRecord) → IsLine change.before → IsLine change.after
    → log.written + 3 ≤ log.drained + 64 * log.geometry.log_blocks → OnOk r (at ≡ appended 3 (offsets_of log))
    → MakesAll (put_calls (sizes_of log.geometry) log.written (record_lines change)) a b r → AppendGroupsTo log at change a b r
append_clause {a = a} {b = d} {r = r} log at change before after room moved makes lines pending told has =
    let s : State = now a in
    let made : MakesAll (put_calls (super_of (current s)).sizes ((super_of (current s)).tail + length lines) (record_lines change)) a d r =
    made_at (λ g n. put_calls g n (record_lines change)) (sizes_of log.geometry) (super_of (current s)).sizes log.written ((super_of (current s)).tail + length lines)
    (sym (has.log_is).sizes) (next_is (sizes_of log.geometry) (offsets_of log) s (length lines) has.log_is has.count) makes in
    record {
      part = Moments-map (groups_appended whole_lines (sizes_of log.geometry) (offsets_of log) lines pending s has (change_of change) (record_lines change) room (record_are_lines change before after) refl refl) (made.part told);
      whole = moved_to (λ to. HasPending whole_lines (sizes_of log.geometry) to (lines ++ record_lines change) (pending ++ change_of change ∷ []) (now d)) at (appended 3 (offsets_of log)) r moved
          (OnOk_give r (λ e. subst (λ (t : State). HasPending whole_lines (sizes_of log.geometry) (appended 3 (offsets_of log)) (lines ++ record_lines change) (pending ++ change_of change ∷ []) t) (sym e)
          (pending_appended whole_lines (sizes_of log.geometry) (offsets_of log) lines pending s has (change_of change) (record_lines change) room (record_are_lines change before after) refl refl)) (made.whole told));
    }

pub harden_clause : {T E : Type 0} {a b : Standing} {r : Result T E} (log : Log) (at : Offsets) → OnOk r (at ≡ hardened (offsets_of log))
    → MakesAll (harden_calls log.written) a b r → HardenGroupsTo log at a b r
harden_clause {a = a} {b = d} {r = r} log at moved makes lines pending told has =
    let s : State = now a in
    let next : log.written ≡ (super_of (current s)).tail + length lines = next_is (sizes_of log.geometry) (offsets_of log) s (length lines) has.log_is has.count in
    let after : grouped (groups_now whole_lines a) (entries whole_lines 0 lines) ≡ with_records (groups_now whole_lines a) pending = ap (grouped (groups_now whole_lines a)) has.holds in
    regroups whole_lines log at (hardened (offsets_of log)) (with_records (groups_now whole_lines a) pending) (harden_calls ((super_of (current s)).tail + length lines)) told moved
    (subst (λ n. MakesAll (harden_calls n) a d r) next makes)
    (subst (λ (x : Groups). (mid : State) → Amid s (harden_calls ((super_of (current s)).tail + length lines)) mid → HasEither whole_lines (groups_now whole_lines a) x mid) after
    (harden_groups whole_lines s lines has.stands has.whole))
    (subst (λ (x : Groups). HasGroups whole_lines x (after_all (harden_calls ((super_of (current s)).tail + length lines)) s)) after (harden_groups_done whole_lines s lines has.stands has.whole))
    (super_log (sizes_of log.geometry) (offsets_of log) s _ ((super_of (current s)).tail + length lines) has.log_is (harden_super whole_lines s lines has.stands) (sym next))

-- where nothing is pending no call is made
pub harden_idle : {E : Type 0} {a : Standing} (log : Log) → log.tail ≡ log.written → HardenGroups {T = Unit {0}} {E = E} log log a a (Ok tt)
harden_idle {a = a} log same lines pending told has =
    let s : State = now a in
    let count : log.tail + length lines ≡ log.written = has.count in
    let none : pending ≡ [] = no_records pending (sym (ap (entries whole_lines 0) (no_lines lines (omega arith))) ∙ has.holds) in
    let all : (i : Image) → Leaves s i → log_of whole_lines i ≡ with_records (groups_now whole_lines a) pending =
    (λ i left. log_durable whole_lines s (length lines) (has.stands).can i left ∙ sym (ap (with_records (groups_now whole_lines a)) none)) in
    record { part = Moments-at {a = a} (λ i left. inr (all i left)); whole = all; stands = record { sizes = (has.log_is).sizes; start = (has.log_is).start; drained = (has.log_is).drained; tail = (has.log_is).tail } }

pub end_clause : {T E : Type 0} {a b : Standing} {r : Result T E} (kind : EndKind) (log : Log) (at : Offsets) → log.written + 1 ≤ log.drained + 64 * log.geometry.log_blocks
    → OnOk r (at ≡ hardened (appended 1 (offsets_of log))) → MakesAll (end_calls (sizes_of log.geometry) log.written (end_lines kind)) a b r → EndGroupsTo kind log at a b r
end_clause {a = a} {b = d} {r = r} kind log at room moved makes lines pending told has =
    let s : State = now a in
    let g : Sizes = sizes_of log.geometry in
    let next : log.written ≡ (super_of (current s)).tail + length lines = next_is g (offsets_of log) s (length lines) has.log_is has.count in
    let after : extended (grouped (groups_now whole_lines a) (entries whole_lines 0 lines)) (end_entry kind) ≡ extended (with_records (groups_now whole_lines a) pending) (end_entry kind) =
    ap (λ (es : List Entry). extended (grouped (groups_now whole_lines a) es) (end_entry kind)) has.holds in
    let room_here : (super_of (current s)).tail + length lines + 1 ≤ (super_of (current s)).drained + ring_lines (super_of (current s)).sizes = room_is g (offsets_of log) s (length lines) 1 has.log_is has.count room in
    regroups whole_lines log at (hardened (appended 1 (offsets_of log))) (extended (with_records (groups_now whole_lines a) pending) (end_entry kind))
    (end_calls (super_of (current s)).sizes ((super_of (current s)).tail + length lines) (end_lines kind)) told moved
    (made_at (λ g n. end_calls g n (end_lines kind)) g (super_of (current s)).sizes log.written ((super_of (current s)).tail + length lines) (sym (has.log_is).sizes) next makes)
    (subst (λ (x : Groups). (mid : State) → Amid s (end_calls (super_of (current s)).sizes ((super_of (current s)).tail + length lines) (end_lines kind)) mid → HasEither whole_lines (groups_now whole_lines a) x mid) after
    (end_groups whole_lines s lines has.stands (end_lines kind) room_here (end_are_lines kind) has.whole has.whole_behind (end_entry kind) (end_entries kind)))
    (subst (λ (x : Groups). HasGroups whole_lines x (after_all (end_calls (super_of (current s)).sizes ((super_of (current s)).tail + length lines) (end_lines kind)) s)) after
    (end_groups_done whole_lines s lines has.stands (end_lines kind) room_here (end_are_lines kind) has.whole has.whole_behind (end_entry kind) (end_entries kind)))
    (super_log g (appended 1 (offsets_of log)) s _ ((super_of (current s)).tail + length lines + 1) (same_log g (offsets_of log) s s 1 has.log_is refl)
    (end_super whole_lines s lines has.stands (end_lines kind) room_here (end_are_lines kind)) (ap (λ n. n + 1) (sym next)))

pub start_clause : {T E : Type 0} {a b : Standing} {r : Result T E} (log : Log) (at : Offsets) → OnOk r (at ≡ emptied (offsets_of log))
    → MakesAll (gate_calls Gate.start log.tail) a b r → StartGroupsTo log at a b r
start_clause {a = a} {b = d} {r = r} log at moved makes told is can =
    regroups whole_lines log at (emptied (offsets_of log)) no_log (gate_calls Gate.start (super_of (current (now a))).tail) told moved
    (subst (λ n. MakesAll (gate_calls Gate.start n) a d r) (sym is.tail) makes)
    (start_groups whole_lines (now a) can) (start_groups_done whole_lines (now a) can)
    (emptied_log (sizes_of log.geometry) (offsets_of log) (now a) _ is (start_super (now a)))

-- The facts, of calls of which a law says that they keep them.
keeps_by : {T E : Type 0} {a b : Standing} {r : Result T E} (format : Format) (log : Log) (at : Offsets) (to : Offsets) (during after : Bookkeeping) (lines : List Line) (calls : List Call)
    → IsTrue a.told → OnOk r (at ≡ to) → MakesAll calls a b r → ((mid : State) → Amid (now a) calls mid → StoreFacts during mid)
    → HasFacts format (sizes_of log.geometry) to after lines (after_all calls (now a)) → Keeps format (sizes_of log.geometry) at during after lines a b r
keeps_by {b = d} {r = r} format log at to during after lines calls told moved makes moments done = record {
  part = Moments-map moments (makes.part told);
  whole = moved_to (λ to. HasFacts format (sizes_of log.geometry) to after lines (now d)) at to r moved
      (OnOk_give r (λ e. subst (λ (t : State). HasFacts format (sizes_of log.geometry) to after lines t) (sym e) done) (makes.whole told));
}

sizes_are : (format : Format) (g : Sizes) (at : Offsets) (b : Bookkeeping) (lines : List Line) (s : State) → HasFacts format g at b lines s → g ≡ b.sizes
sizes_are format g at b lines s has = sym (has.log_is).sizes ∙ (has.facts).sizes (current s) (current_leaves s)

-- the room in the ring, by what the store keeps
room_kept : (format : Format) (g : Sizes) (at : Offsets) (b : Bookkeeping) (lines : List Line) (s : State) (m : ℕ) → HasFacts format g at b lines s
    → at.written + m ≤ at.drained + ring_lines g → (super_of (current s)).tail + length lines + m ≤ (super_of (current s)).drained + ring_lines b.sizes
room_kept format g at b lines s m has room =
    subst (λ (x : Sizes). (super_of (current s)).tail + length lines + m ≤ (super_of (current s)).drained + ring_lines x) ((has.facts).sizes (current s) (current_leaves s))
    (room_is g at s (length lines) m has.log_is has.count room)

pub record_keeps : {T E : Type 0} {a b : Standing} {r : Result T E} (log : Log) (at : Offsets) (change : LineRecord) → IsLine change.before → IsLine change.after
    → log.written + 3 ≤ log.drained + 64 * log.geometry.log_blocks → OnOk r (at ≡ appended 3 (offsets_of log))
    → MakesAll (put_calls (sizes_of log.geometry) log.written (record_lines change)) a b r → KeepsTo log at (CanRecord change) (λ b. b) (λ b. pending_with b (change_of change)) (λ lines. lines ++ record_lines change) a b r
record_keeps {a = a} {b = d} {r = r} log at change before after room moved makes b lines told has can =
    let s : State = now a in
    let g : Sizes = sizes_of log.geometry in
    let from_here : Offsets = offsets_of log in
    let ys : List Line = record_lines change in
    let puts : CanPutEntry b s (length lines) ys (item (write (change_of change))) = record {
      room = room_kept whole_lines g from_here b lines s 3 has room;
      are_lines = record_are_lines change before after;
      passes = λ o. subst (λ (f : Format). log_check f b.sizes o 0 ys ≡ None) (sym has.format_is) (record_passes b.sizes change can.page can.line o);
      holds = subst (λ (f : Format). entries f 0 ys ≡ record_entry change ∷ []) (sym has.format_is) refl;
    } in
    keeps_by whole_lines log at (appended 3 from_here) b (pending_with b (change_of change)) (lines ++ ys) (put_calls b.sizes ((super_of (current s)).tail + length lines) ys) told moved
    (made_at (λ g n. put_calls g n ys) g b.sizes log.written ((super_of (current s)).tail + length lines) (sizes_are whole_lines g from_here b lines s has) (next_is g from_here s (length lines) has.log_is has.count) makes)
    (append_pending_facts b s has.facts has.still lines has.stands (change_of change) ys puts)
    (record {
      log_is = same_log g from_here s _ 3 has.log_is (append_lengthened b s has.facts has.still lines (has.stands).behind ys puts.room puts.are_lines puts.passes).super_is;
      facts = append_pending_done b s has.facts has.still lines has.stands (change_of change) ys puts;
      still = has.still;
      format_is = has.format_is;
      stands = append_pending_stands b s has.facts has.still lines has.stands (change_of change) ys puts can.before;
      count = (let long : length (lines ++ ys) ≡ length lines + 3 = length-append lines ys in let count : log.tail + length lines ≡ log.written = has.count in omega arith);
    })

-- what a store keeps when all that was pending is part of the log
kept_none : (format : Format) (g : Sizes) (at : Offsets) (b : Bookkeeping) (s : State) → IsLogOf g at s → at.tail ≡ at.written → StoreFacts b s → b.changing ≡ None → b.format ≡ format → b.pending ≡ []
    → HasFacts format g at b [] s
kept_none format g at b s is same facts still format_is none = record {
  log_is = is;
  facts = facts;
  still = still;
  format_is = format_is;
  stands = nothing_stands b s facts still none;
  count = (let e : at.tail ≡ at.written = same in omega arith);
}

pub harden_keeps : {T E : Type 0} {a b : Standing} {r : Result T E} (log : Log) (at : Offsets) → OnOk r (at ≡ hardened (offsets_of log))
    → MakesAll (harden_calls log.written) a b r → KeepsTo log at (λ b s. IsConstant b log.tail log.written) (λ b. changing_to b Gate.tail log.tail log.written b.committed) none_pending (λ lines. []) a b r
harden_keeps {a = a} {b = d} {r = r} log at moved makes b lines told has constant =
    let s : State = now a in
    let g : Sizes = sizes_of log.geometry in
    let from_here : Offsets = offsets_of log in
    let next : log.written ≡ (super_of (current s)).tail + length lines = next_is g from_here s (length lines) has.log_is has.count in
    let constant' : IsConstant b (super_of (current s)).tail ((super_of (current s)).tail + length lines) =
    subst (λ n. IsConstant b (super_of (current s)).tail n) next (subst (λ n. IsConstant b n log.written) (sym (has.log_is).tail) constant) in
    keeps_by whole_lines log at (hardened from_here) (changing_to b Gate.tail log.tail log.written b.committed) (none_pending b) [] (harden_calls ((super_of (current s)).tail + length lines)) told moved
    (subst (λ n. MakesAll (harden_calls n) a d r) next makes)
    (λ mid amid. subst (λ n. StoreFacts (changing_to b Gate.tail n log.written b.committed) mid) (has.log_is).tail
    (subst (λ n. StoreFacts (changing_to b Gate.tail (super_of (current s)).tail n b.committed) mid) (sym next) (harden_facts b s has.facts has.still lines has.stands constant' mid amid)))
    (kept_none whole_lines g (hardened from_here) (none_pending b) _
    (super_log g from_here s _ ((super_of (current s)).tail + length lines) has.log_is (harden_lengthened b s has.facts has.still lines (has.stands).behind).super_is (sym next))
    refl (harden_done b s has.facts has.still lines has.stands constant') has.still has.format_is refl)

pub harden_keeps_idle : {E : Type 0} {a : Standing} (log : Log) → log.tail ≡ log.written → HardenKeeps {T = Unit {0}} {E = E} log log a a (Ok tt)
harden_keeps_idle {a = a} log same b lines told has constant =
    let s : State = now a in
    let count : log.tail + length lines ≡ log.written = has.count in
    let none : b.pending ≡ [] = nothing_pending b s (subst (λ (xs : List Line). PendingStands b s xs) (no_lines lines (omega arith)) has.stands) in
    record {
      part = Moments-at {a = a} (facts_changing b s has.facts has.still Gate.tail tt log.tail log.written (has.log_is).tail b.committed (λ p l w. refl));
      whole = kept_none whole_lines (sizes_of log.geometry) (offsets_of log) (none_pending b) s has.log_is same
          (subst (λ (cs : List Change). StoreFacts (record b { pending = cs }) s) none has.facts) has.still has.format_is refl;
    }

-- an end may be put
end_puts : (kind : EndKind) (log : Log) (b : Bookkeeping) (lines : List Line) (s : State) → HasFacts whole_lines (sizes_of log.geometry) (offsets_of log) b lines s
    → log.written + 1 ≤ log.drained + 64 * log.geometry.log_blocks → CanPutEntry b s (length lines) (end_lines kind) (end_entry kind)
end_puts kind log b lines s has room = record {
  room = room_kept whole_lines (sizes_of log.geometry) (offsets_of log) b lines s 1 has room;
  are_lines = end_are_lines kind;
  passes = λ o. subst (λ (f : Format). log_check f b.sizes o 0 (end_lines kind) ≡ None) (sym has.format_is) (end_passes b.sizes kind o);
  holds = subst (λ (f : Format). entries f 0 (end_lines kind) ≡ end_entry kind ∷ []) (sym has.format_is) (end_entries kind);
}

-- An end, of which a law says what it keeps.
ends_by : {T E : Type 0} {a d : Standing} {r : Result T E} (kind : EndKind) (log : Log) (at : Offsets) (room : log.written + 1 ≤ log.drained + 64 * log.geometry.log_blocks)
    → OnOk r (at ≡ hardened (appended 1 (offsets_of log))) → MakesAll (end_calls (sizes_of log.geometry) log.written (end_lines kind)) a d r
    → (b : Bookkeeping) (lines : List Line) → IsTrue a.told → (has : HasFacts whole_lines (sizes_of log.geometry) (offsets_of log) b lines (now a))
    → (during : ℕ → ℕ → Bookkeeping) (after : Bookkeeping) → after.changing ≡ None → after.format ≡ whole_lines → after.pending ≡ []
    → ((mid : State) → Amid (now a) (end_calls b.sizes ((super_of (current (now a))).tail + length lines) (end_lines kind)) mid
    → StoreFacts (during (super_of (current (now a))).tail ((super_of (current (now a))).tail + length lines + 1)) mid)
    → StoreFacts after (after_all (end_calls b.sizes ((super_of (current (now a))).tail + length lines) (end_lines kind)) (now a))
    → Keeps whole_lines (sizes_of log.geometry) at (during log.tail (log.written + 1)) after [] a d r
ends_by {a = a} {d = d} {r = r} kind log at room moved makes b lines told has during after still format none moments done =
    let s : State = now a in
    let g : Sizes = sizes_of log.geometry in
    let from_here : Offsets = offsets_of log in
    let next : log.written ≡ (super_of (current s)).tail + length lines = next_is g from_here s (length lines) has.log_is has.count in
    let puts : CanPutEntry b s (length lines) (end_lines kind) (end_entry kind) = end_puts kind log b lines s has room in
    keeps_by whole_lines log at (hardened (appended 1 from_here)) (during log.tail (log.written + 1)) after [] (end_calls b.sizes ((super_of (current s)).tail + length lines) (end_lines kind)) told moved
    (made_at (λ g n. end_calls g n (end_lines kind)) g b.sizes log.written ((super_of (current s)).tail + length lines) (sizes_are whole_lines g from_here b lines s has) next makes)
    (λ mid amid. subst (λ n. StoreFacts (during n (log.written + 1)) mid) (has.log_is).tail
    (subst (λ n. StoreFacts (during (super_of (current s)).tail (n + 1)) mid) (sym next) (moments mid amid)))
    (kept_none whole_lines g (hardened (appended 1 from_here)) after _
    (super_log g (appended 1 from_here) s _ ((super_of (current s)).tail + length lines + 1) (same_log g from_here s s 1 has.log_is refl)
    (end_lengthened b s has.facts has.still lines (has.stands).behind (end_lines kind) puts.room puts.are_lines puts.passes).super_is (ap (λ n. n + 1) (sym next)))
    refl done still format none)

pub end_keeps : {T E : Type 0} {a b : Standing} {r : Result T E} (kind : EndKind) (log : Log) (at : Offsets) → log.written + 1 ≤ log.drained + 64 * log.geometry.log_blocks
    → OnOk r (at ≡ hardened (appended 1 (offsets_of log))) → MakesAll (end_calls (sizes_of log.geometry) log.written (end_lines kind)) a b r → KeepsTo log at (CanEnd kind log) (ending kind log) (ended kind) (λ lines. []) a b r
end_keeps {a = a} Commit log at room moved makes = λ b lines told has ends.
    ends_by Commit log at room moved makes b lines told has (λ t n. changing_to b Gate.tail t n (committed_from n b.current b.committed)) (ended Commit b) has.still has.format_is refl
    (commit_pending_facts b (now a) has.facts has.still lines has.stands commit (end_lines Commit) (end_puts Commit log b lines (now a) has room) refl ends)
    (commit_pending_done b (now a) has.facts has.still lines has.stands commit (end_lines Commit) (end_puts Commit log b lines (now a) has room) refl ends)
end_keeps {a = a} Abort log at room moved makes = λ b lines told has constant.
    let s : State = now a in
    let next : log.written ≡ (super_of (current s)).tail + length lines = next_is (sizes_of log.geometry) (offsets_of log) s (length lines) has.log_is has.count in
    let constant' : IsConstant b (super_of (current s)).tail ((super_of (current s)).tail + length lines + 1) =
    subst (λ n. IsConstant b (super_of (current s)).tail (n + 1)) next (subst (λ n. IsConstant b n (log.written + 1)) (sym (has.log_is).tail) constant) in
    ends_by Abort log at room moved makes b lines told has (λ t n. changing_to b Gate.tail t n b.committed) (none_pending b) has.still has.format_is refl
    (abort_pending_facts b s has.facts has.still lines has.stands abort (end_lines Abort) (end_puts Abort log b lines s has room) refl constant')
    (abort_pending_done b s has.facts has.still lines has.stands abort (end_lines Abort) (end_puts Abort log b lines s has room) refl constant')

-- What the condition of an empty log gives: the homes of the words that the log names are durable, and all copies are homes.
module _ (b : Bookkeeping) (s : State) (facts : StoreFacts b s) (still : b.changing ≡ None) (can : CanEmpty b s) where
  logged_now : (j : Image) → Leaves s j → (p l w : ℕ) → is_logged (log_of b.format j) p l w ≡ is_logged (log_of b.format (current s)) p l w
  logged_now j left p l w = ap (λ (xs : List Line). is_logged (grouped no_log (entries b.format 0 xs)) p l w) (facts_log b s facts still j left)

  homes_durable : (j : Image) → Leaves s j → (p l w : ℕ) → IsWord b.sizes p l w → is_logged (log_of b.format j) p l w ≡ true
      → HomeStands b.sizes (frame_of (entry_at j) (b.sizes.frames + 1) p) s p l w × (home j p l w ≡ b.current p l w) × (home j p l w ≡ b.committed (super_of j).tail p l w)
  homes_durable j left p l w word logged = (
    home_stands b s facts still (b.current p l w) p l w
        (λ i left_i. (can.homes i left_i p l w word (logged_now i left_i p l w ∙ sym (logged_now j left p l w) ∙ logged)).0) j left,
    (can.homes j left p l w word logged).0,
    (can.homes j left p l w word logged).1,
  )

  copies_home : (j : Image) → Leaves s j → (p l w : ℕ) (line : Line) → IsWord b.sizes p l w → b.copy p l ≡ Some line → word_in line w ≡ home j p l w
  copies_home j left p l w line word copy = elim (cases_Bool (is_logged (log_of b.format j) p l w)) [
    | inl logged ↦ can.copies p l w line word (sym (logged_now j left p l w) ∙ logged) copy ∙ sym (can.homes j left p l w word logged).0
    | inr unlogged ↦ facts.copies j left p l w line word copy (let none : b.pending ≡ [] = can.nothing in rw (unlogged, none) refl)
  ]

pub start_keeps : {T E : Type 0} {a d : Standing} {r : Result T E} (log : Log) (at : Offsets) → log.tail ≡ log.written → OnOk r (at ≡ emptied (offsets_of log))
    → MakesAll (gate_calls Gate.start log.tail) a d r → (b : Bookkeeping) → IsTrue a.told → HasFacts whole_lines (sizes_of log.geometry) (offsets_of log) b [] (now a) → CanEmpty b (now a)
    → Keeps whole_lines (sizes_of log.geometry) at (changing_to b Gate.start log.start log.tail b.committed) b [] a d r
start_keeps {a = a} {d = d} {r = r} log at same moved makes b told has can =
    let s : State = now a in
    let g : Sizes = sizes_of log.geometry in
    let from_here : Offsets = offsets_of log in
    let tail : (super_of (current s)).tail ≡ log.tail = (has.log_is).tail in
    keeps_by whole_lines log at (emptied from_here) (changing_to b Gate.start log.start log.tail b.committed) b [] (gate_calls Gate.start (super_of (current s)).tail) told moved
    (subst (λ n. MakesAll (gate_calls Gate.start n) a d r) (sym tail) makes)
    (λ mid amid. subst (λ n. StoreFacts (changing_to b Gate.start n log.tail b.committed) mid) (has.log_is).start
    (subst (λ n. StoreFacts (changing_to b Gate.start (super_of (current s)).start n b.committed) mid) tail (start_facts b s has.facts has.still can.nothing (homes_durable b s has.facts has.still can) (copies_home b s has.facts has.still can) mid amid)))
    (kept_none whole_lines g (emptied from_here) b _ (emptied_log g from_here s _ has.log_is (start_super s)) same
    (start_done b s has.facts has.still can.nothing (homes_durable b s has.facts has.still can) (copies_home b s has.facts has.still can)) has.still has.format_is can.nothing)

-- which calls a harden makes
pub harden_made : {T E : Type 0} {a b : Standing} {r : Result T E} (log : Log) → log.tail ≢ log.written → MakesAll (harden_calls log.written) a b r
    → MakesAll (if log.tail == log.written then [] else harden_calls log.written) a b r
harden_made {a = a} {b = d} {r = r} log apart makes =
    subst (λ (calls : List Call). MakesAll calls a d r) (sym (cond-false (log.tail == log.written) [] (harden_calls log.written) (ne_eqb log.tail log.written apart))) makes

pub harden_made_none : {E : Type 0} {a : Standing} (log : Log) → log.tail ≡ log.written
    → MakesAll {T = Unit {0}} {E = E} (if log.tail == log.written then [] else harden_calls log.written) a a (Ok tt)
harden_made_none {E = E} {a = a} log same =
    subst (λ (calls : List Call). MakesAll {T = Unit {0}} {E = E} calls a a (Ok tt)) (sym (cond-true (log.tail == log.written) [] (harden_calls log.written) (eq-eqb log.tail log.written same)))
    (record { whole = λ told. refl; part = λ told. Moments-at {a = a} refl })
