-- What a call makes of a world in memory.
use Rattle.std.proofs.Common.{◌≡◌, inl, inr, ℕ, ◌+◌, ◌≤◌, List, [], ◌∷◌, ◌++◌, length, take, Result, Ok, Err, OnOk, IsErr, refl, sym, ◌∙◌, ap, subst, arith, length-append}
use Rattle.std.proofs.lemmas.Bool.{cases_lt}
use Rattle.std.proofs.lemmas.Result.{IfOk-from_err}
use Rattle.std.proofs.lemmas.List.{take-append-le, take_all}
use Rattle.devices.specs.declared.images.Images.{Images}
use Rattle.devices.specs.declared.step.Step.{Step}
use Rattle.devices.specs.declared.step.Entry.{Entry}
use Rattle.devices.specs.declared.step.Sending.{Sending}
use Rattle.devices.specs.declared.past.Past.{Past}
use Rattle.devices.specs.State.{State, Call, after, Part}
use Rattle.devices.specs.World.{Standing, Outside, now, Goes, Stays, Makes}
use Rattle.devices.specs.Past.{image_of, made, replay, standing_state, changes_of, Same, Kept}
use Rattle.devices.specs.MemWorld.{standing_of}
use Rattle.devices.proofs.GrowthLaws.{Part-whole, Part-none}
use Rattle.devices.proofs.PastLaws.{state_kept}

-- the state at a moment
abbrev pub state_at : Past → ℕ → State
state_at p m = replay (image_of p.base) (take m p.entries.items)

pub at_end : (p : Past) (m : ℕ) → length p.entries.items ≤ m → state_at p m ≡ standing_state p
at_end p m le = ap (λ (es : List Entry). replay (image_of p.base) es) (take_all m p.entries.items le)

pub at_same : (p q : Past) → Same p q → (m : ℕ) → state_at q m ≡ state_at p m
at_same p q same m = ap (λ (b : Images). replay (image_of b) (take m q.entries.items)) same.stands.base ∙ ap (λ (es : List Entry). replay (image_of p.base) (take m es)) same.entries

-- the moments gone by
pub at_earlier : (p q : Past) (e : Entry) → q.base ≡ p.base → q.entries.items ≡ p.entries.items ++ e ∷ [] → (m : ℕ) → m ≤ length p.entries.items → state_at q m ≡ state_at p m
at_earlier p q e base entries m le =
    ap (λ (b : Images). replay (image_of b) (take m q.entries.items)) base
    ∙ ap (λ (es : List Entry). replay (image_of p.base) (take m es)) entries
    ∙ ap (λ (es : List Entry). replay (image_of p.base) es) (take-append-le m p.entries.items (e ∷ []) le)

module _ (p q : Past) (nvm_faults later_nvm_faults ssd_faults later_ssd_faults block_reads later_block_reads : ℕ) (settings input : List ℕ) (settings_faults source_faults sink_faults : ℕ) where
  abbrev Before : Standing
  Before = standing_of p nvm_faults ssd_faults block_reads settings input settings_faults source_faults sink_faults

  abbrev After : Standing
  After = standing_of q later_nvm_faults later_ssd_faults later_block_reads settings input settings_faults source_faults sink_faults

  outside_same : q.sendings.items ≡ p.sendings.items → q.sent.items ≡ p.sent.items → After.outside ≡ Before.outside
  outside_same sendings sent =
      ap (λ (l : List (ℕ × List ℕ)). let o : Outside = record { settings = settings; input = input; changes = l; settings_faults = settings_faults; source_faults = source_faults; sink_faults = sink_faults } in o)
      (ap (λ (l : List Sending). changes_of l q.sent.items) sendings ∙ ap (λ (l : List ℕ). changes_of p.sendings.items l) sent)

  -- nothing was done
  pub goes_same : Same p q → nvm_faults ≤ later_nvm_faults → ssd_faults ≤ later_ssd_faults → block_reads ≤ later_block_reads → Goes Before After
  goes_same same nvm ssd reads = record {
    lines = same.stands.lines;
    blocks = same.stands.blocks;
    told = refl;
    honest = refl;
    outside = outside_same same.sendings same.sent;
    clock = omega (arith, ap length same.entries);
    earlier = λ m le. at_same p q same m;
    nvm_faults = nvm;
    ssd_faults = ssd;
    block_reads = reads;
  }

  pub stays_same : Same p q → Stays Before After
  stays_same same = λ told. record {
    each = λ m low high. let end : m ≡ length p.entries.items = omega (arith, ap length same.entries) in at_same p q same m ∙ ap (λ (k : ℕ). state_at p k) end;
  }

  pub makes_none : {T E : Type 0} (call : Call) (r : Result T E) → Same p q → IsErr r → Makes call Before After r
  makes_none call r same failed = record {
    whole = λ told. IfOk-from_err r _ failed;
    part = λ told. record { each = λ m low high. subst (λ (s : State). Part call (now Before) s) (sym ((stays_same same told).each m low high)) (Part-none call (now Before)) };
  }

  -- one call was kept
  pub longer : {event : ℕ} {step : Step} → Kept event step p q → length q.entries.items ≡ length p.entries.items + 1
  longer {event} {step} kept = ap length kept.entries ∙ length-append p.entries.items (record { event = event; step = step } ∷ [])

  pub goes_kept : {event : ℕ} {step : Step} → Kept event step p q → nvm_faults ≤ later_nvm_faults → ssd_faults ≤ later_ssd_faults → block_reads ≤ later_block_reads → Goes Before After
  goes_kept {event} {step} kept nvm ssd reads = record {
    lines = kept.stands.lines;
    blocks = kept.stands.blocks;
    told = refl;
    honest = refl;
    outside = outside_same kept.sendings kept.sent;
    clock = omega (arith, longer kept);
    earlier = at_earlier p q (record { event = event; step = step }) kept.stands.base kept.entries;
    nvm_faults = nvm;
    ssd_faults = ssd;
    block_reads = reads;
  }

  pub makes_kept : {T E : Type 0} {event : ℕ} {step : Step} (call : Call) (r : Result T E) → ((s : State) → made step s ≡ after call s) → Kept event step p q → Makes call Before After r
  makes_kept {event = event} {step = step} call r does kept = record {
    whole = λ told. on_ok r whole;
    part = λ told. record {
      each = λ m low high. elim (cases_lt (length p.entries.items) m) [
        | inl behind ↦ subst (λ (s : State). Part call (now Before) s) (sym (at_end q m (omega (arith, longer kept, behind)) ∙ sym (at_end q (length q.entries.items) (omega arith)) ∙ whole)) (Part-whole call (now Before))
        | inr before ↦ let end : m ≡ length p.entries.items = omega (arith, low, before) in
            subst (λ (s : State). Part call (now Before) s) (sym (at_earlier p q (record { event = event; step = step }) kept.stands.base kept.entries m before ∙ ap (λ (k : ℕ). state_at p k) end)) (Part-none call (now Before))
      ];
    };
  }
    where
      on_ok : {T E P : Type 0} (r : Result T E) → P → OnOk r P
      on_ok (Ok x) p = p
      on_ok (Err e) p = tt

      whole : now After ≡ after call (now Before)
      whole = at_end q (length q.entries.items) (omega arith) ∙ state_kept p q kept ∙ does (standing_state p) ∙ ap (λ (s : State). after call s) (sym (at_end p (length p.entries.items) (omega arith)))

-- a world where only its counts have changed
pub same_past : (p : Past) → Same p p
same_past p = record { stands = record { lines = refl; blocks = refl; base = refl }; entries = refl; sent = refl; sendings = refl }
