-- A log is checked, replayed and emptied over a device.
use Rattle.std.proofs.Common.{◌≡◌, ℕ, ◌-◌, ◌<◌, List, [], ◌++◌, refl, sym, ap, ◌∙◌, subst, IsTrue, Option, Some, None, Result, Ok, Err}
use Rattle.nvm_model.specs.declared.line.Line.{Line}
use Rattle.devices.specs.State.{Image, Call, current}
use Rattle.devices.specs.World.{Standing, Goes, Stays, MakesAll, now}
use Rattle.devices.specs.declared.traits.Failed.{Failed}
use Rattle.devices.proofs.MomentLaws.{Goes-trans}
use Rattle.devices.proofs.CallLaws.{makes_then, makes_stop}
use Rattle.flat_nvm_layout.specs.Gates.{gates_of}
use Rattle.flat_nvm_layout.specs.Opening.{IsOpen}
use Rattle.flat_nvm_layout.specs.Sizes.{sizes_of}
use Rattle.flat_nvm_layout.specs.declared.geometry.Geometry.{Geometry}
use Rattle.flat_nvm_layout.specs.declared.superblock.Super.{Super as Gates}
use Rattle.flat_nvm_log.specs.declared.log.Log.{Log}
use Rattle.flat_store_meaning.specs.Layout.{Sizes}
use Rattle.flat_store_meaning.specs.Log.{grouped, no_log}
use Rattle.flat_store_meaning.specs.Format.{entries, log_check, LogFault}
use Rattle.flat_store_meaning.specs.Format.Format.{whole_lines}
use Rattle.flat_store_meaning.specs.Recovered.{Super, super_of, log_of, log_line, from, image_log_check}
use Rattle.flat_store_meaning.proofs.CheckLaws.{super_passes, allowed_ring}
use Rattle.flat_store_laws.specs.OpenFacts.{super_with}
use Rattle.flat_recovery.specs.Calls.{super_calls, replay_calls, settle_calls, recover_calls}
use Rattle.flat_recovery.specs.Reading.{entries_from, PassFrom}
use Rattle.flat_recovery.specs.Heads.{KeepsEvidence, IsFoundFault, FindsFault, ChecksLog, fault_in}
use Rattle.flat_recovery.specs.Replaying.{held_lines, MakesCalls, ReplaysLog}
use Rattle.flat_recovery.specs.Opening.{ReopensLog}
use Rattle.flat_recovery.specs.declared.errors.OpenError.{OpenError}
use Rattle.flat_recovery.specs.declared.errors.OpenError.TheVariants.{Nvm, Ssd, NotAStore, TooSmall, LogEnded, Damaged, NoMemory}
use Rattle.flat_recovery.proofs.CallsLaws.{makes_as}
use Rattle.flat_recovery.proofs.SuperLaws.{super_current}
use Rattle.flat_recovery.proofs.ReplayingLaws.{held_same, told_then, makes_behind, err_is}

-- where no check fails only a fault stops the check
only_fault : (g : Sizes) (tail : ℕ) (found : Option LogFault) (line_at : ℕ → Line) (why : OpenError) → KeepsEvidence g tail why → IsFoundFault found line_at tail why → found ≡ None → why ≡ Nvm
only_fault g tail found line_at Nvm keeps finds none = refl
only_fault g tail found line_at (Damaged kept) keeps finds none = absurd (clash finds.fault finds.first)
  where
    clash : (fault : LogFault) → found ≡ Some fault → ⊥
    clash fault some = absurd (cc)
only_fault g tail found line_at Ssd keeps finds none = absurd keeps
only_fault g tail found line_at NotAStore keeps finds none = absurd keeps
only_fault g tail found line_at TooSmall keeps finds none = absurd keeps
only_fault g tail found line_at LogEnded keeps finds none = absurd keeps
only_fault g tail found line_at NoMemory keeps finds none = absurd keeps

-- the log in memory is that of the superblock
pub record IsOf (log : Log) (gates : Gates) : Type 0 where
  pub geometry : log.geometry ≡ gates.geometry
  pub start : log.start ≡ gates.start
  pub tail : log.tail ≡ gates.tail

module _ (gates : Gates) (log : Log) (of : IsOf log gates) (a b : Standing) (goes : Goes a b) (stays : Stays a b) where
  abbrev i : Image
  i = current (now a)

  abbrev g : Sizes
  g = sizes_of log.geometry

  super_is : super_of i ≡ gates_of gates → super_of i ≡ super_with g log.start log.tail
  super_is e =
      e ∙ ap (λ (x : Geometry). super_with (sizes_of x) gates.start gates.tail) (sym of.geometry)
      ∙ ap (λ n. super_with g n gates.tail) (sym of.start) ∙ ap (λ n. super_with g log.start n) (sym of.tail)

  -- what is found of the log is what is found of the image
  found_is : {T : Type 0} (r : Result T OpenError) → super_of i ≡ gates_of gates → FindsFault (fault_in log (held_lines log a)) (held_lines log a) log.tail r
      → FindsFault (image_log_check whole_lines i) (log_line (super_of i).sizes (super_of i).start i) (super_of i).tail r
  found_is r e finds =
      subst (λ (x : Super). FindsFault (log_check whole_lines x.sizes x.start 0 (from (log_line x.sizes x.drained i) x.start (x.tail - x.start))) (log_line x.sizes x.start i) x.tail r) (sym (super_is e)) finds

  fault_is : super_of i ≡ gates_of gates → fault_in log (held_lines log a) ≡ image_log_check whole_lines i
  fault_is e = ap (λ (x : Super). log_check whole_lines x.sizes x.start 0 (from (log_line x.sizes x.drained i) x.start (x.tail - x.start))) (sym (super_is e))

  calls_are : super_of i ≡ gates_of gates
      → super_calls ++ (replay_calls g (grouped no_log (entries_from (held_lines log a) log.tail log.start)) ++ settle_calls g log.tail) ≡ recover_calls (super_of i).sizes (log_of whole_lines i) (super_of i).tail
  calls_are e =
      ap (λ (x : Super). recover_calls x.sizes (grouped no_log (entries whole_lines 0 (from (log_line x.sizes x.drained i) x.start (x.tail - x.start)))) x.tail) (sym (super_is e))

  -- where a check fails, it is not found that none does
  no_refusal : super_of i ≡ gates_of gates → (fault : LogFault) → image_log_check whole_lines i ≡ Some fault → fault_in log (held_lines log a) ≡ None → ⊥
  no_refusal e fault some none = let both : Some fault ≡ None = sym some ∙ sym (fault_is e) ∙ none in absurd (cc)

  -- the check stops
  pub check_stops : {T U : Type 0} (why : OpenError) (r : Result T OpenError) → r ≡ Err why → ChecksLog {T = U} log a (Err why) → ReopensLog gates a b r
  check_stops {T} why r is checks =
      let nothing : MakesAll {T = Unit {0}} {E = OpenError} [] a b (Err why) = record { whole = λ told. tt; part = stays } in
      subst (λ (x : Result T OpenError). ReopensLog gates a b x) (sym is) (record {
        finds = λ told e. found_is {T = T} (Err why) e (checks.finds told);
        writes = λ told e none. record {
          makes = makes_stop (recover_calls (super_of i).sizes (log_of whole_lines i) (super_of i).tail) {e = why} (Err why) (err_is T why) nothing;
          only = only_fault g log.tail (fault_in log (held_lines log a)) (held_lines log a) why checks.keeps (checks.finds told) (fault_is e ∙ none);
        };
        nothing = λ told e other. stays;
        refused = λ told e fault some. stays;
      })

  -- no check fails, and the superblock is made durable
  module _ (checks : ChecksLog {T = Unit {0}} log a (Ok tt)) (ring : 0 < log.geometry.log_blocks) (c : Standing) (goes_c : Goes b c) where
    abbrev all_replays : List Call
    all_replays = replay_calls g (grouped no_log (entries_from (held_lines log a) log.tail log.start))

    pub super_stops : {T : Type 0} (why : Failed) (r : Result T OpenError) → r ≡ Err Nvm → MakesAll {T = Unit {0}} {E = Failed} super_calls b c (Err why) → ReopensLog gates a c r
    super_stops {T} why r is makes = subst (λ (x : Result T OpenError). ReopensLog gates a c x) (sym is) (record {
      finds = λ told e. tt;
      writes = λ told e none. record {
        makes = makes_as (calls_are e) (makes_stop (all_replays ++ settle_calls g log.tail) {e = why} (Err Nvm) (err_is T Nvm) (makes_behind goes goes_c stays makes));
        only = refl;
      };
      nothing = λ told e other. absurd (other refl);
      refused = λ told e fault some. absurd (no_refusal e fault some (checks.finds told));
    })

    -- and the log is replayed
    module _ (supers : MakesAll {T = Unit {0}} {E = Failed} super_calls b c (Ok tt)) (d : Standing) (goes_d : Goes c d) where
      -- the lines of the log are as they were read
      held_on : IsTrue a.told → held_lines log c ≡ held_lines log a
      held_on told =
          ap (λ (x : Image). log_line g log.start x) (ap current (supers.whole (told_then goes told)) ∙ super_current (now b))
          ∙ held_same log a b goes stays told

      -- the superblock, and what is made behind it
      behind : {T : Type 0} {calls : List Call} {end : Standing} (r : Result T OpenError) → Goes c end → MakesAll calls c end r → MakesAll (super_calls ++ calls) a end r
      behind r goes_end rest =
          let front : MakesAll {T = Unit {0}} {E = OpenError} super_calls b c (Ok tt) = record { whole = supers.whole; part = supers.part } in
          makes_then (Goes-trans goes goes_c) goes_end (makes_behind goes goes_c stays front) rest

      replayed : {T : Type 0} (r : Result T OpenError) → ReplaysLog log c d r → IsTrue a.told → MakesCalls all_replays c d r
      replayed r replays told =
          let same : held_lines log c ≡ held_lines log a = held_on told in
          let there : MakesCalls (replay_calls g (grouped no_log (entries_from (held_lines log c) log.tail log.start))) c d r =
          replays.writes (told_then goes_c (told_then goes told)) ring (subst (λ (x : ℕ → Line). PassFrom g x log.tail log.start) (sym same) (checks.finds told)) in
          record {
            makes = makes_as (ap (λ (x : ℕ → Line). replay_calls g (grouped no_log (entries_from x log.tail log.start))) same) there.makes;
            only = there.only;
          }

      pub replay_stops : {T : Type 0} (why : OpenError) (r : Result T OpenError) → r ≡ Err why → ReplaysLog {T = Unit {0}} log c d (Err why) → ReopensLog gates a d r
      replay_stops {T} why r is replays = subst (λ (x : Result T OpenError). ReopensLog gates a d x) (sym is) (record {
        finds = λ told e.
            subst (λ (x : OpenError). IsFoundFault (image_log_check whole_lines i) (log_line (super_of i).sizes (super_of i).start i) (super_of i).tail x) (sym (replayed (Err why) replays told).only) tt;
        writes = λ told e none.
            let made : MakesCalls {T = Unit {0}} all_replays c d (Err why) = replayed (Err why) replays told in
            record { makes = makes_as (calls_are e) (behind (Err why) goes_d (makes_stop (settle_calls g log.tail) {e = why} (Err why) (err_is T why) made.makes)); only = made.only };
        nothing = λ told e other. absurd (other (replayed (Err why) replays told).only);
        refused = λ told e fault some. absurd (no_refusal e fault some (checks.finds told));
      })

      -- and emptied
      module _ (replays : ReplaysLog {T = Unit {0}} log c d (Ok tt)) (f : Standing) (goes_f : Goes d f) where
        emptied : {T : Type 0} (r : Result T OpenError) → MakesAll (settle_calls g log.tail) d f r → IsTrue a.told → super_of i ≡ gates_of gates
            → MakesAll (recover_calls (super_of i).sizes (log_of whole_lines i) (super_of i).tail) a f r
        emptied r settles told e = makes_as (calls_are e) (behind r (Goes-trans goes_d goes_f) (makes_then goes_d goes_f (replayed (Ok tt) replays told).makes settles))

        pub settle_stops : {T : Type 0} (why : Failed) (r : Result T OpenError) → r ≡ Err Nvm → MakesAll {T = Unit {0}} {E = Failed} (settle_calls g log.tail) d f (Err why) → ReopensLog gates a f r
        settle_stops {T} why r is settles = subst (λ (x : Result T OpenError). ReopensLog gates a f x) (sym is) (record {
          finds = λ told e. tt;
          writes = λ told e none. record { makes = emptied {T = T} (Err Nvm) (record { whole = λ told. tt; part = settles.part }) told e; only = refl };
          nothing = λ told e other. absurd (other refl);
          refused = λ told e fault some. absurd (no_refusal e fault some (checks.finds told));
        })

        pub reopened : {T : Type 0} (done : T) → MakesAll {T = Unit {0}} {E = Failed} (settle_calls g log.tail) d f (Ok tt) → ReopensLog gates a f (Ok done)
        reopened {T} done settles = record {
          finds = λ told e. found_is {T = T} (Ok done) e (checks.finds told);
          writes = λ told e none. record { makes = emptied {T = T} (Ok done) (record { whole = settles.whole; part = settles.part }) told e; only = tt };
          nothing = λ told e. tt;
          refused = λ told e fault some. absurd (no_refusal e fault some (checks.finds told));
        }

-- the ring of a superblock that passes its checks
pub open_ring : (lines blocks : ℕ) (gates : Gates) (log : Log) → IsOpen lines blocks gates → log.geometry ≡ gates.geometry → 0 < log.geometry.log_blocks
open_ring lines blocks gates log is e =
    let some : 0 < (sizes_of gates.geometry).log_blocks = allowed_ring (sizes_of gates.geometry) (super_passes (gates_of gates) is.checks).sizes in
    subst (λ (x : Geometry). 0 < (sizes_of x).log_blocks) (sym e) some
