-- What a write makes of a world in memory.
use Rattle.std.proofs.Common.{◌≡◌, inl, inr, ℕ, ◌<◌, ◌≤◌, List, ◌++◌, length, take, Ok, Err, refl, sym, ◌∙◌, ap, arith}
use Rattle.std.proofs.lemmas.Bool.{cases_lt}
use Rattle.std.proofs.lemmas.List.{take_all, append-nil}
use Rattle.devices.specs.declared.step.Step.TheVariants.{Send}
use Rattle.devices.specs.declared.step.Sending.{Sending}
use Rattle.devices.specs.declared.past.Past.{Past}
use Rattle.devices.specs.World.{Standing, sent_by, sent, sent_at, WorldCall, Sends}
use Rattle.devices.specs.Past.{changes_of, IsSound, Same, Sent}
use Rattle.devices.specs.MemWorld.{standing_of}
use Rattle.devices.proofs.SentLaws.{one_more, later_sent, earlier_sent, state_sent}
use Rattle.devices.proofs.WorldLaws.{state_at, at_end, at_same, at_earlier}

module _ (p q : Past) (nvm_faults ssd_faults block_reads : ℕ) (settings input : List ℕ) (settings_faults source_faults sink_faults later_sink_faults : ℕ) where
  abbrev Before : Standing
  Before = standing_of p nvm_faults ssd_faults block_reads settings input settings_faults source_faults sink_faults

  abbrev After : Standing
  After = standing_of q nvm_faults ssd_faults block_reads settings input settings_faults source_faults later_sink_faults

  -- nothing was done
  sent_same : Same p q → (m : ℕ) → sent_at After m ≡ sent_at Before m
  sent_same same m = ap (λ (l : List Sending). sent_by (changes_of l q.sent.items) m) same.sendings ∙ ap (λ (l : List ℕ). sent_by (changes_of p.sendings.items l) m) same.sent

  pub call_same : Same p q → sink_faults ≤ later_sink_faults → WorldCall Before After
  call_same same sink = record {
    goes = record {
      lines = same.stands.lines;
      blocks = same.stands.blocks;
      told = refl;
      honest = refl;
      clock = omega (arith, ap length same.entries);
      earlier = λ m le. at_same p q same m;
      earlier_sent = λ m le. sent_same same m;
      nvm_faults = omega arith;
      ssd_faults = omega arith;
      block_reads = omega arith;
      settings_faults = omega arith;
      source_faults = omega arith;
      sink_faults = sink;
    };
    stays = λ told. record {
      each = λ m low high. let end : m ≡ length p.entries.items = omega (arith, ap length same.entries) in at_same p q same m ∙ ap (λ (k : ℕ). state_at p k) end;
    };
    nvm_faults = refl;
    ssd_faults = refl;
    block_reads = refl;
  }

  pub sends_none : {E : Type 0} (bytes : List ℕ) (e : E) → Same p q → Sends {E = E} Before After bytes (Err e)
  sends_none bytes e same = record {
    ok = λ told. tt;
    within = λ told. tt;
    err = λ told. record {
      each = λ m low high. let end : m ≡ length p.entries.items = omega (arith, ap length same.entries) in sent_same same m ∙ ap (λ (k : ℕ). sent_at Before k) end;
    };
  }

  -- the bytes were sent
  pub call_sent : {event : ℕ} {bytes : List ℕ} → IsSound p → Sent event bytes p q → sink_faults ≤ later_sink_faults → WorldCall Before After
  call_sent {event} {bytes} sound is sink = record {
    goes = record {
      lines = is.stands.lines;
      blocks = is.stands.blocks;
      told = refl;
      honest = refl;
      clock = omega (arith, one_more p q sound is);
      earlier = at_earlier p q (record { event = event; step = Send }) is.stands.base is.entries;
      earlier_sent = earlier_sent p q sound is;
      nvm_faults = omega arith;
      ssd_faults = omega arith;
      block_reads = omega arith;
      settings_faults = omega arith;
      source_faults = omega arith;
      sink_faults = sink;
    };
    stays = λ told. record {
      each = λ m low high. elim (cases_lt (length p.entries.items) m) [
        | inl behind ↦ at_end q m (omega (arith, one_more p q sound is, behind)) ∙ state_sent p q sound is ∙ sym (at_end p (length p.entries.items) (omega arith))
        | inr before ↦ let end : m ≡ length p.entries.items = omega (arith, low, before) in
            at_earlier p q (record { event = event; step = Send }) is.stands.base is.entries m before ∙ ap (λ (k : ℕ). state_at p k) end
      ];
    };
    nvm_faults = refl;
    ssd_faults = refl;
    block_reads = refl;
  }

  pub sends_sent : {E : Type 0} {event : ℕ} {bytes : List ℕ} → IsSound p → Sent event bytes p q → Sends {E = E} Before After bytes (Ok (length bytes))
  sends_sent {E} {event} {bytes} sound is = record {
    ok = λ told. behind (length q.entries.items) (omega (arith, one_more p q sound is));
    within = λ told. record {
      each = λ m low high. elim (cases_lt (length p.entries.items) m) [
        | inl later ↦ (length bytes, omega arith, behind m later)
        | inr before ↦ let end : m ≡ length p.entries.items = omega (arith, low, before) in
            (0, omega arith, earlier_sent p q sound is m before ∙ ap (λ (k : ℕ). sent_at Before k) end ∙ sym (append-nil (sent Before)))
      ];
    };
    err = λ told. tt;
  }
    where
      behind : (m : ℕ) → length p.entries.items < m → sent_at After m ≡ sent Before ++ take (length bytes) bytes
      behind m lt = later_sent p q sound is m lt ∙ is.sent
          ∙ ap (λ (l : List ℕ). l ++ bytes) (sym sound.all_sent) ∙ ap (λ (l : List ℕ). sent Before ++ l) (sym (take_all (length bytes) bytes (omega arith)))
