-- The clauses of a drain, out of the device calls that it makes.
use Rattle.std.proofs.Common.{◌≡◌, ℕ, ◌+◌, ◌*◌, ◌%◌, ◌<◌, ◌≤◌, List, [], ◌∷◌, length, refl, sym, ap, ◌∙◌, subst, arith, None, IsTrue, Result, Ok, Err}
use Rattle.std.specs.Prelude.{OnOk, IsErr}
use Rattle.devices.specs.State.{State, Call, Leaves, current}
use Rattle.devices.specs.State.Call.{store_word, flush, fence, sync}
use Rattle.devices.specs.World.{Standing, Goes, MakesAll, now}
use Rattle.devices.proofs.MomentLaws.{Moments-map, Goes-refl, Goes-trans}
use Rattle.devices.proofs.JoinLaws.{Stays-refl}
use Rattle.devices.proofs.CallLaws.{makes_then, makes_stop}
use Rattle.store_model.specs.Layout.{Sizes, ring_blocks, floor64}
use Rattle.store_model.specs.Recovered.{Super, super_of}
use Rattle.store_model.specs.Put.{CanPut}
use Rattle.store_model.specs.StoreFacts.{Gate, Bookkeeping, StoreFacts}
use Rattle.store_model.specs.Seen.{changing_to}
use Rattle.store_model.specs.Blocks.{block_calls, drain_all_calls, AreCopied, CanDrainAll}
use Rattle.home_laws.proofs.FactsLaws.{current_leaves, facts_can_put_none}
use Rattle.home_laws.proofs.SeenLaws.{facts_changing}
use Rattle.log_laws.proofs.BlocksLaws.{drain_all_lines, drain_all_super}
use Rattle.log_laws.proofs.BlocksFacts.{drain_all_facts, drain_all_done}
use Rattle.nvm_layout.specs.Sizes.{sizes_of}
use Rattle.nvm_log.specs.Offsets.{Offsets, offsets_of}
use Rattle.nvm_log.specs.Standing.{IsLogOf}
use Rattle.nvm_log.specs.Puts.{gate_put}
use Rattle.nvm_log.proofs.GroupLaws.{lines_durable}
use Rattle.nvm_log.specs.declared.log.Log.{Log}
use Rattle.log_drain.specs.Drains.{raised, drain_makes, Drains, KeepsLines, KeepsRaised}
use Rattle.log_drain.proofs.CopyLaws.{not_ok, OnOk_of, makes_none, none_copied}

OnOk_give : {T E : Type 0} {P Q : Type 0} (r : Result T E) → (P → Q) → OnOk r P → OnOk r Q
OnOk_give (Ok v) f p = f p
OnOk_give (Err e) f p = tt

OnOk_both : {T E : Type 0} {P Q R : Type 0} (r : Result T E) → (P → Q → R) → OnOk r P → OnOk r Q → OnOk r R
OnOk_both (Ok v) f p q = f p q
OnOk_both (Err e) f p q = tt

-- The calls of a drain, by the point at which it ends.
abbrev gate_calls_of : ℕ → List Call
gate_calls_of drained = store_word 2 0 drained ∷ flush 2 ∷ fence ∷ []

-- the copies failed
pub makes_unsettled : {T U E F : Type 0} {a b : Standing} {e : F} (g : Sizes) (offset : ℕ) (blocks : List (List ℕ)) (r : Result T E) → IsErr r
    → MakesAll {T = U} {E = F} (block_calls g offset blocks) a b (Err e) → MakesAll (drain_makes g offset blocks) a b r
makes_unsettled g offset [] r failed makes = record { whole = λ told. not_ok _ r failed; part = makes.part }
makes_unsettled {U = U} {F = F} {a = a} {b = b} {e = e} g offset (x ∷ xs) r failed makes =
    makes_stop {U = U} {F = F} (gate_calls_of (offset + 64 * length (x ∷ xs))) r failed (makes_stop {T = U} {U = U} {E = F} {F = F} (sync ∷ []) (Err e) refl makes)

-- the sync failed
pub makes_unraised : {T U V E F : Type 0} {a b c : Standing} {v : U} {e : F} (g : Sizes) (offset : ℕ) (blocks : List (List ℕ)) (r : Result T E) → IsErr r → 0 < length blocks
    → Goes a b → Goes b c → MakesAll {T = U} {E = F} (block_calls g offset blocks) a b (Ok v) → MakesAll {T = V} {E = F} (sync ∷ []) b c (Err e) → MakesAll (drain_makes g offset blocks) a c r
makes_unraised g offset [] r failed some first second copies settles = absurd (omega arith)
makes_unraised g offset (x ∷ xs) r failed some first second copies settles =
    makes_stop (gate_calls_of (offset + 64 * length (x ∷ xs))) r failed (makes_then first second copies settles)

-- the gate was raised, or failed to be
pub makes_raised : {T U V E : Type 0} {a b c d : Standing} {u : U} {v : V} {r : Result T E} (g : Sizes) (offset n drained : ℕ) (blocks : List (List ℕ)) → 0 < n → length blocks ≡ n
    → drained ≡ offset + 64 * n → Goes a b → Goes b c → Goes c d → MakesAll {T = U} {E = E} (block_calls g offset blocks) a b (Ok u) → MakesAll {T = V} {E = E} (sync ∷ []) b c (Ok v)
    → MakesAll (gate_put 2 drained) c d r → MakesAll (drain_makes g offset blocks) a d r
makes_raised g offset n drained [] some long at first second third copies settles raises = absurd (omega arith)
makes_raised {c = c} {d = d} {r = r} g offset n drained (x ∷ xs) some long at first second third copies settles raises =
    makes_then (Goes-trans first second) third (makes_then first second copies settles)
    (subst (λ k. MakesAll (gate_calls_of k) c d r) (at ∙ ap (λ k. offset + 64 * k) (sym long)) raises)

-- What a drain of these blocks needs, by the log in memory.
pub can_drain : (g : Sizes) (at : Offsets) (blocks : List (List ℕ)) (s : State) → IsLogOf g at s → CanPut s 0 → at.drained % 64 ≡ 0 → at.drained + 64 * length blocks ≤ at.tail
    → at.drained + 64 * length blocks ≤ floor64 at.start + 64 * ring_blocks g → length blocks ≤ ring_blocks g → AreCopied g at.drained blocks s → CanDrainAll s blocks
can_drain g at blocks s is can aligned lines room few copied =
    let start : (super_of (current s)).start ≡ at.start = is.start in
    let drained : (super_of (current s)).drained ≡ at.drained = is.drained in
    let tail : (super_of (current s)).tail ≡ at.tail = is.tail in
    let writes : (super_of (current s)).sizes.writes ≡ g.writes = ap (λ (x : Sizes). x.writes) is.sizes in
    record {
      can = can;
      aligned = omega arith;
      lines = omega arith;
      room = omega arith;
      few = omega arith;
      copied = subst (λ (x : Sizes). AreCopied x (super_of (current s)).drained blocks s) (sym is.sizes) (subst (λ n. AreCopied g n blocks s) (sym is.drained) copied);
    }

-- the calls by the log in memory are those by the superblock
drains_at : {T E : Type 0} {a b : Standing} {r : Result T E} (g : Sizes) (at : Offsets) (blocks : List (List ℕ)) → IsLogOf g at (now a) → MakesAll (drain_all_calls g at.drained blocks) a b r
    → MakesAll (drain_all_calls (super_of (current (now a))).sizes (super_of (current (now a))).drained blocks) a b r
drains_at {a = a} {b = b} {r = r} g at blocks is makes =
    subst (λ (x : Sizes). MakesAll (drain_all_calls x (super_of (current (now a))).drained blocks) a b r) (sym is.sizes)
    (subst (λ n. MakesAll (drain_all_calls g n blocks) a b r) (sym is.drained) makes)

drained_log : (g : Sizes) (at : Offsets) (n : ℕ) (s t : State) → IsLogOf g at s → super_of (current t) ≡ record (super_of (current s)) { drained = (super_of (current s)).drained + 64 * n }
    → IsLogOf g (raised n at) t
drained_log g at n s t is e = record {
  sizes = ap (λ (x : Super). x.sizes) e ∙ is.sizes;
  start = ap (λ (x : Super). x.start) e ∙ is.start;
  drained = ap (λ (x : Super). x.drained) e ∙ ap (λ k. k + 64 * n) is.drained;
  tail = ap (λ (x : Super). x.tail) e ∙ is.tail;
}

-- nothing is drained
raised_none : (g : Sizes) (at : Offsets) (s : State) → IsLogOf g at s → IsLogOf g (raised 0 at) s
raised_none g at s is = record { sizes = is.sizes; start = is.start; drained = is.drained ∙ (omega arith); tail = is.tail }

-- What is known where a drain makes its calls: how many blocks, and where the log in memory stands behind them.
record Drained {T E : Type 0} (g : Sizes) (most : ℕ) (at to : Offsets) (blocks : List (List ℕ)) (a b : Standing) (r : Result T E) : Type 0 where
  pub makes : MakesAll (drain_makes g at.drained blocks) a b r
  pub copied : IsTrue a.told → AreCopied g at.drained blocks (now a)
  pub aligned : at.drained % 64 ≡ 0
  pub lines : at.drained + 64 * length blocks ≤ at.tail
  pub room : at.drained + 64 * length blocks ≤ floor64 at.start + 64 * ring_blocks g
  pub few : length blocks ≤ ring_blocks g
  pub bound : length blocks ≤ most
  pub reached : OnOk r (to ≡ raised (length blocks) at)

-- The log lines of every image are the same.
drained_lines : {T E : Type 0} {a b : Standing} {r : Result T E} (g : Sizes) (most : ℕ) (at to : Offsets) (blocks : List (List ℕ)) → Drained g most at to blocks a b r
    → IsTrue a.told → IsLogOf g at (now a) → CanPut (now a) 0 → KeepsLines g to a b r
drained_lines {a = a} {b = b} {r = r} g most at to [] d told is can = record {
  part = Moments-map (λ mid same i left. lines_durable (now a) 0 can i (subst (λ (s : State). Leaves s i) same left)) (d.makes.part told);
  whole = OnOk_both r (λ reached same. subst (λ (x : Offsets). IsLogOf g x (now b)) (sym reached)
      (subst (λ (s : State). IsLogOf g (raised 0 at) s) (sym same) (raised_none g at (now a) is))) d.reached (d.makes.whole told);
}
drained_lines {a = a} {b = b} {r = r} g most at to (x ∷ xs) d told is can =
    let drains : CanDrainAll (now a) (x ∷ xs) = can_drain g at (x ∷ xs) (now a) is can d.aligned d.lines d.room d.few (d.copied told) in
    let makes : MakesAll (drain_all_calls (super_of (current (now a))).sizes (super_of (current (now a))).drained (x ∷ xs)) a b r = drains_at g at (x ∷ xs) is (record { whole = d.makes.whole; part = d.makes.part }) in
    record {
      part = Moments-map (drain_all_lines (now a) (x ∷ xs) drains) (makes.part told);
      whole = OnOk_both r (λ reached same. subst (λ (x : Offsets). IsLogOf g x (now b)) (sym reached)
          (drained_log g at (length (x ∷ xs)) (now a) (now b) is (ap (λ (s : State). super_of (current s)) same ∙ drain_all_super (now a) (x ∷ xs) drains))) d.reached (makes.whole told);
    }

-- The facts hold.
drained_keeps : {T E : Type 0} {a d : Standing} {r : Result T E} (g : Sizes) (most : ℕ) (at to : Offsets) (blocks : List (List ℕ)) → Drained g most at to blocks a d r
    → (b : Bookkeeping) → IsTrue a.told → IsLogOf g at (now a) → StoreFacts b (now a) → b.changing ≡ None → KeepsRaised g at.drained most to b a d r
drained_keeps {a = a} {d = d} {r = r} g most at to [] drained b told is facts still =
    let lines : KeepsLines g to a d r = drained_lines g most at to [] drained told is (facts_can_put_none b (now a) facts still) in
    record {
      to = at.drained + 64 * 0;
      bound = omega arith;
      part = Moments-map (λ mid same. subst (λ (s : State). StoreFacts (changing_to b Gate.drained at.drained (at.drained + 64 * 0) b.committed) s) (sym same)
          (facts_changing b (now a) facts still Gate.drained tt at.drained (at.drained + 64 * 0) is.drained b.committed (λ p l w. refl))) (drained.makes.part told);
      whole = OnOk_give r (λ same. subst (λ (s : State). StoreFacts b s) (sym same) facts) (drained.makes.whole told);
      reached = OnOk_give r (λ reached. ap (λ (x : Offsets). x.drained) reached) drained.reached;
      log_is = lines.whole;
    }
drained_keeps {a = a} {d = d} {r = r} g most at to (x ∷ xs) drained b told is facts still =
    let can : CanPut (now a) 0 = facts_can_put_none b (now a) facts still in
    let drains : CanDrainAll (now a) (x ∷ xs) = can_drain g at (x ∷ xs) (now a) is can drained.aligned drained.lines drained.room drained.few (drained.copied told) in
    let makes : MakesAll (drain_all_calls (super_of (current (now a))).sizes (super_of (current (now a))).drained (x ∷ xs)) a d r = drains_at g at (x ∷ xs) is (record { whole = drained.makes.whole; part = drained.makes.part }) in
    let makes_b : MakesAll (drain_all_calls b.sizes (super_of (current (now a))).drained (x ∷ xs)) a d r =
    subst (λ (y : Sizes). MakesAll (drain_all_calls y (super_of (current (now a))).drained (x ∷ xs)) a d r) (facts.sizes (current (now a)) (current_leaves (now a))) makes in
    let lines : KeepsLines g to a d r = drained_lines g most at to (x ∷ xs) drained told is can in
    record {
      to = at.drained + 64 * length (x ∷ xs);
      bound = (let bound : length (x ∷ xs) ≤ most = drained.bound in omega arith);
      part = Moments-map (λ mid amid. subst (λ n. StoreFacts (changing_to b Gate.drained n (n + 64 * length (x ∷ xs)) b.committed) mid) is.drained
          (drain_all_facts b (now a) facts still (x ∷ xs) drains mid amid)) (makes_b.part told);
      whole = OnOk_give r (λ same. subst (λ (s : State). StoreFacts b s) (sym same) (drain_all_done b (now a) facts still (x ∷ xs) drains)) (makes_b.whole told);
      reached = OnOk_give r (λ reached. ap (λ (x : Offsets). x.drained) reached) drained.reached;
      log_is = lines.whole;
    }

-- Both, of the log in memory and of where it stands behind the call.
is_drained : {T E : Type 0} {a b : Standing} {r : Result T E} (log : Log) (most : ℕ) (to : Offsets) (n : ℕ) (d : Drains log most n a b r) → log.drained % 64 ≡ 0 → OnOk r (to ≡ raised (length d.blocks) (offsets_of log))
    → Drained (sizes_of log.geometry) most (offsets_of log) to d.blocks a b r
is_drained log most to n d aligned reached = record { makes = d.makes; copied = d.copied; aligned = aligned; lines = d.lines; room = d.room; few = d.few; bound = d.bound; reached = reached }

pub lines_clause : {T E : Type 0} {a b : Standing} {r : Result T E} (log : Log) (most : ℕ) (to : Offsets) (n : ℕ) (d : Drains log most n a b r) → log.drained % 64 ≡ 0 → OnOk r (to ≡ raised (length d.blocks) (offsets_of log))
    → IsTrue a.told → IsLogOf (sizes_of log.geometry) (offsets_of log) (now a) → CanPut (now a) 0 → KeepsLines (sizes_of log.geometry) to a b r
lines_clause log most to n d aligned reached = drained_lines (sizes_of log.geometry) most (offsets_of log) to d.blocks (is_drained log most to n d aligned reached)

pub keeps_clause : {T E : Type 0} {a d : Standing} {r : Result T E} (log : Log) (most : ℕ) (to : Offsets) (n : ℕ) (drains : Drains log most n a d r) → log.drained % 64 ≡ 0
    → OnOk r (to ≡ raised (length drains.blocks) (offsets_of log)) → (b : Bookkeeping) → IsTrue a.told → IsLogOf (sizes_of log.geometry) (offsets_of log) (now a) → StoreFacts b (now a) → b.changing ≡ None
    → KeepsRaised (sizes_of log.geometry) log.drained most to b a d r
keeps_clause log most to n drains aligned reached = drained_keeps (sizes_of log.geometry) most (offsets_of log) to drains.blocks (is_drained log most to n drains aligned reached)

-- What a drain of n blocks made, up to where it ends.
pub drains_of : {T E : Type 0} {a b : Standing} {r : Result T E} (log : Log) (n drained : ℕ) (blocks : List (List ℕ)) → length blocks ≤ n → log.drained + 64 * n ≤ log.tail
    → log.drained + 64 * n ≤ floor64 log.start + 64 * ring_blocks (sizes_of log.geometry) → n ≤ ring_blocks (sizes_of log.geometry) → OnOk r (drained ≡ log.drained + 64 * length blocks)
    → MakesAll (drain_makes (sizes_of log.geometry) log.drained blocks) a b r → (IsTrue a.told → AreCopied (sizes_of log.geometry) log.drained blocks (now a)) → Drains log n drained a b r
drains_of log n drained blocks most lines room few count makes copied = record {
  blocks = blocks;
  makes = makes;
  copied = copied;
  lines = omega arith;
  room = omega arith;
  few = omega arith;
  bound = most;
  count = count;
}

-- no block is drained, by no call
pub drains_none : {T E : Type 0} {a : Standing} (log : Log) (most : ℕ) (r : Result T E) → log.drained ≤ log.tail → log.drained ≤ floor64 log.start + 64 * ring_blocks (sizes_of log.geometry) → Drains log most log.drained a a r
drains_none {a = a} log most r below in_blocks = record {
  blocks = [];
  makes = makes_none r (Goes-refl a) (Stays-refl a);
  copied = λ told. none_copied (sizes_of log.geometry) log.drained (now a);
  lines = omega arith;
  room = omega arith;
  few = omega arith;
  bound = omega arith;
  count = OnOk_of r (omega arith);
}

-- where the gate stands, the log in memory stands
pub reached_by : (at : Offsets) (k m : ℕ) → k ≡ at.drained + 64 * m → record at { drained = k } ≡ raised m at
reached_by at k m e = ap (λ n. record at { drained = n }) e
