-- A record that is put behind the tail, a harden, and the ends of a commit and of an abort: each leads from facts to facts.
use Rattle.std.proofs.Common.{◌≡◌, ◌⊎◌, ℕ, ◌+◌, ◌≤◌, ◌||◌, Bool, true, false, List, [], ◌∷◌, ◌++◌, append-nil, length, get_or, refl, sym, ap, ◌∙◌, subst, inl, inr, arith, eqb, slice_index}
use Rattle.std.proofs.lemmas.Bool.{cond-true, cond-false}
use Rattle.nvm_model.specs.declared.line.Line.{Line}
use Rattle.devices.specs.State.{State, Call, Amid, current, after_all}
use Rattle.devices.specs.Growth.{AreWithin}
use Rattle.store_model.specs.Layout.{ring_lines, ring_line}
use Rattle.store_model.specs.Log.{Words, Change, Entry, Log, no_log, grouped, extended, names, named_in, is_logged}
use Rattle.store_model.specs.Log.Item.{write}
use Rattle.store_model.specs.Log.Entry.{item, commit, abort}
use Rattle.store_model.specs.Format.{entries, IsWhole, word_in, zero_line}
use Rattle.store_model.specs.Recovered.{Super, super_of, log_lines, replay}
use Rattle.store_model.specs.Put.{put_calls, IsFlushed}
use Rattle.store_model.specs.Pending.{record_entries, harden_calls, end_calls, IsBehind, PendingStands, EndsRight, CanPutEntry}
use Rattle.store_model.specs.Shown.{Lengthened}
use Rattle.store_model.specs.StoreFacts.{IsWord, StoreFacts, committed_from}
use Rattle.home_laws.proofs.RecoveredLaws.{entries-append}
use Rattle.home_laws.proofs.LogLaws.{grouped-append}
use Rattle.home_laws.proofs.CheckLaws.{checked_whole}
use Rattle.home_laws.proofs.FactsLaws.{replay-abort}
use Rattle.log_laws.proofs.TailLaws.{not_logged_grouped}
use Rattle.log_laws.proofs.PendingFacts.{records_named, append_pending_facts, append_pending_done, append_pending_stands, harden_facts, harden_done, commit_pending_facts, commit_pending_done, abort_pending_facts, abort_pending_done}
use Rattle.log_laws.proofs.EndsFacts.{has_before, append_ends}
use Rattle.log_laws.proofs.EndsLaws.{commit_untouched, commit_logged, abort_logged}
use Rattle.log_laws.proofs.BehindLaws.{behind_stands}
use Rattle.log_laws.proofs.LengthenedFacts.{append_lengthened, harden_lengthened, end_lengthened}
use Rattle.kept_laws.proofs.CopyFacts.{copies_stand}
use Rattle.device_calls.specs.Leads.{Steps}
use Rattle.tier_facts.specs.Data.{Data}
use Rattle.tier_facts.specs.Facts.{Aim, Held, Facts, aim_sizes, keeping, log_in, is_recorded}
use Rattle.tier_facts.proofs.PlaceLaws.{positive}
use Rattle.transaction_facts.specs.Records.{Records, Waiting, FitsBehind, log_ahead, recorded, hardened, lengthened, ended, HeldEither}
use Rattle.transaction_facts.proofs.RecordLaws.{stands_behind, stands_pending, ends_right, records_from, whole_log, puts_low, harden_low, within_both, low_stores, low_writes, log_after}

or_cases : (x y : Bool) → (x || y) ≡ true → (x ≡ true) ⊎ (y ≡ true)
or_cases true y h = inl refl
or_cases false y h = inr h

or_left : (x y : Bool) → x ≡ true → (x || y) ≡ true
or_left true y h = refl
or_left false y h = absurd (let no : ⊥ = cc in no)

pub or_right : (x y : Bool) → y ≡ true → (x || y) ≡ true
or_right true y h = refl
or_right false y h = h

named_before : (cs : List Change) (c : Change) (p l w : ℕ) → named_in cs p l w ≡ true → named_in (cs ++ c ∷ []) p l w ≡ true
named_before [] c p l w h = absurd (let no : ⊥ = cc in no)
named_before (x ∷ cs) c p l w h = elim (or_cases (names x p l w) (named_in cs p l w) h) [
  | inl here ↦ or_left (names x p l w) (named_in (cs ++ c ∷ []) p l w) here
  | inr later ↦ or_right (names x p l w) (named_in (cs ++ c ∷ []) p l w) (named_before cs c p l w later)
]

-- what a record named, the log with the records names
pub ahead_named : (aim : Aim) (p l w : ℕ) → is_recorded aim p l w ≡ true → is_logged (log_ahead aim) p l w ≡ true
ahead_named aim p l w h = by (is_logged (log_ahead aim) p l w) refl
  where
    no : {A : Type 0} → false ≡ true → A
    no e = absurd (let n : ⊥ = cc in n)

    by : (x : Bool) → is_logged (log_ahead aim) p l w ≡ x → is_logged (log_ahead aim) p l w ≡ true
    by true e = e
    by false e = elim (or_cases (is_logged (log_in aim) p l w) (named_in aim.pending p l w) h) [
      | inl logged ↦ no (sym (not_logged_grouped (log_in aim) (record_entries aim.pending) p l w e) ∙ logged)
      | inr named ↦ no (sym (records_named (log_in aim) aim.pending p l w e) ∙ named)
    ]

-- the entry as the laws of the log want it
can_put : (t : Data) (aim : Aim) (s : State) → Facts t aim s → (e : Entry) (ys : List Line) → FitsBehind aim ys e → CanPutEntry (keeping t aim) s (length aim.behind) ys e
can_put t aim s it e ys fits = record {
  room = subst (λ (x : Super). x.tail + length aim.behind + length ys ≤ x.drained + ring_lines (aim_sizes aim)) (sym it.super_words) fits.room;
  are_lines = fits.are_lines;
  passes = fits.passes;
  holds = fits.holds;
}

-- ---- a record that waits

module _ (t : Data) (aim : Aim) (s : State) (it : Facts t aim s) (records : Records aim) (c : Change) (ys : List Line) (fits : FitsBehind aim ys (item (write c))) where
  abbrev calls : List Call
  calls = put_calls (aim_sizes aim) (aim.super.tail + length aim.behind) ys

  abbrev next : State
  next = after_all calls s

  can : CanPutEntry (keeping t aim) s (length aim.behind) ys (item (write c))
  can = can_put t aim s it (item (write c)) ys fits

  behind : IsBehind (keeping t aim) s aim.behind
  behind = stands_behind t aim s it records.waiting

  stands : PendingStands (keeping t aim) s aim.behind
  stands = stands_pending t aim s it records.waiting

  -- the state by the tail of the aim
  at_tail : (P : State → Type 0) → P (after_all (put_calls (aim_sizes aim) ((super_of (current s)).tail + length aim.behind) ys) s) → P next
  at_tail P = subst (λ (x : Super). P (after_all (put_calls (aim_sizes aim) (x.tail + length aim.behind) ys) s)) it.super_words

  longer : Lengthened (aim_sizes aim) s next (super_of (current s)) []
  longer = at_tail (λ n. Lengthened (aim_sizes aim) s n (super_of (current s)) []) (append_lengthened (keeping t aim) s it.facts refl aim.behind behind ys can.room can.are_lines can.passes)

  super_is : super_of (current next) ≡ aim.super
  super_is = longer.super_is ∙ it.super_words

  log_is : log_lines (current next) ≡ aim.log
  log_is = longer.log ∙ append-nil (log_lines (current s)) ∙ it.log_same

  all_behind : IsBehind (keeping t aim) next (aim.behind ++ ys)
  all_behind = at_tail (λ n. IsBehind (keeping t aim) n (aim.behind ++ ys)) (behind_stands (keeping t aim) s it.facts refl aim.behind behind ys can.room can.are_lines can.passes)

  record_facts : Facts t (recorded c ys aim) next
  record_facts = log_after t aim s it calls (puts_low (aim_sizes aim) (positive t aim s it) (aim.super.tail + length aim.behind) ys)
      aim.super.start aim.super.drained aim.super.tail aim.log (aim.behind ++ ys) (aim.pending ++ c ∷ []) aim.kept
      super_is log_is longer.entries
      (at_tail (λ n. StoreFacts (keeping t (recorded c ys aim)) n) (append_pending_done (keeping t aim) s it.facts refl aim.behind stands c ys can))
      (λ p l w word loose. elim (or_cases (is_logged (log_in aim) p l w) (named_in aim.pending p l w) (it.recorded p l w word loose)) [
        | inl logged ↦ or_left (is_logged (log_in aim) p l w) (named_in (aim.pending ++ c ∷ []) p l w) logged
        | inr named ↦ or_right (is_logged (log_in aim) p l w) (named_in (aim.pending ++ c ∷ []) p l w) (named_before aim.pending c p l w named)
      ])
      (λ k w less hw. subst (λ (x : Super). IsFlushed (next.nvm (ring_line (aim_sizes aim) (x.tail + k)) w) (word_in (get_or (aim.behind ++ ys) k zero_line) w)) super_is (all_behind.flushed k w less hw))

  -- A record whose lines are put behind the tail waits there.
  pub record_steps : Steps Held (λ (a : Aim). Facts t (recorded c ys a)) calls aim s
  record_steps = record { facts = record_facts; moments = moments }
    where
      moments : (mid : State) → Amid s calls mid → Held aim mid
      moments mid amid = record {
        keeps = keeping t aim;
        format_is = refl;
        sizes = refl;
        committed = refl;
        facts = append_pending_facts (keeping t aim) s it.facts refl aim.behind stands c ys can mid
            (subst (λ (x : Super). Amid s (put_calls (aim_sizes aim) (x.tail + length aim.behind) ys) mid) (sym it.super_words) amid);
      }

  -- With the values before it as current words, and those behind it as words from then on, the records stay right.
  pub record_records : (words : Words) (loose : ℕ → ℕ → Bool)
      → ((p l w : ℕ) → IsWord (aim_sizes aim) p l w → names c p l w ≡ true → slice_index c.before.words w ≡ aim.words p l w)
      → ((p l w : ℕ) → IsWord (aim_sizes aim) p l w → names c p l w ≡ true → slice_index c.after.words w ≡ words p l w)
      → ((p l w : ℕ) → IsWord (aim_sizes aim) p l w → names c p l w ≡ false → aim.words p l w ≡ words p l w)
      → Records (record (recorded c ys aim) { words = words; loose = loose })
  record_records words loose before named other = records_from t (record (recorded c ys aim) { words = words; loose = loose }) next super_is log_is
      (at_tail (λ n. PendingStands (record (keeping t (recorded c ys aim)) { current = words; copy = t.copy }) n (aim.behind ++ ys))
      (copies_stand (keeping t (recorded c ys aim)) (after_all (put_calls (aim_sizes aim) ((super_of (current s)).tail + length aim.behind) ys) s) (aim.behind ++ ys)
      (append_pending_stands (keeping t aim) s it.facts refl aim.behind stands c ys can (has_before (keeping t aim) s it.facts refl aim.behind stands (ends_right t aim s it records) c before))
      words t.copy))
      (at_tail (λ n. EndsRight (record (keeping t (recorded c ys aim)) { current = words; copy = t.copy }) n)
      (append_ends (keeping t aim) s it.facts refl aim.behind stands (ends_right t aim s it records) c ys can words t.copy named other))

-- ---- a harden

-- the log with the lines that waited is the log with the records
pub log_hardened : (aim : Aim) → IsWhole aim.format 0 aim.log → Waiting aim → log_in (hardened aim) ≡ log_ahead aim
log_hardened aim whole waiting = ap (grouped no_log) (entries-append aim.format 0 aim.log aim.behind whole) ∙ grouped-append no_log (entries aim.format 0 aim.log) (entries aim.format 0 aim.behind)
    ∙ ap (grouped (log_in aim)) waiting.holds

hardened_recorded : (aim : Aim) → IsWhole aim.format 0 aim.log → Waiting aim → (p l w : ℕ) → is_recorded aim p l w ≡ true → is_recorded (hardened aim) p l w ≡ true
hardened_recorded aim whole waiting p l w h =
    or_left (is_logged (log_in (hardened aim)) p l w) false (ap (λ (x : Log). is_logged x p l w) (log_hardened aim whole waiting) ∙ ahead_named aim p l w h)

hardened_waiting : (aim : Aim) → IsWhole aim.format 0 aim.log → Waiting aim → Waiting (hardened aim)
hardened_waiting aim whole waiting =
    let log : log_in (hardened aim) ≡ log_ahead aim = log_hardened aim whole waiting in
    record {
      room = (let room = waiting.room in omega (arith, room));
      are_lines = λ k less. absurd (omega arith);
      passes = λ at. refl;
      holds = refl;
      right = λ p l w word h homes. ap (λ (x : Log). replay aim.format x homes p l w) log ∙ waiting.right p l w word (sym (ap (λ (x : Log). is_logged x p l w) log) ∙ h) homes;
    }

pub hardened_records : (aim : Aim) → IsWhole aim.format 0 aim.log → Records aim → Records (hardened aim)
hardened_records aim whole records =
    let log : log_in (hardened aim) ≡ log_ahead aim = log_hardened aim whole records.waiting in
    record {
      waiting = hardened_waiting aim whole records.waiting;
      ends = λ p l w word h homes. ap (λ (x : Log). replay aim.format (extended x commit) homes p l w) log
          ∙ records.ends p l w word (sym (ap (λ (x : Log). is_logged (extended x commit) p l w) log) ∙ h) homes;
    }

-- It asks for nothing of what a commit would give, so it serves within an abort too.
module _ (t : Data) (aim : Aim) (s : State) (it : Facts t aim s) (waiting : Waiting aim) where
  abbrev hard_state : State
  hard_state = after_all (harden_calls (aim.super.tail + length aim.behind)) s

  hard_stands : PendingStands (keeping t aim) s aim.behind
  hard_stands = stands_pending t aim s it waiting

  hard_tail : (P : ℕ → State → Type 0) → P (super_of (current s)).tail (after_all (harden_calls ((super_of (current s)).tail + length aim.behind)) s) → P aim.super.tail hard_state
  hard_tail P = subst (λ (x : Super). P x.tail (after_all (harden_calls (x.tail + length aim.behind)) s)) it.super_words

  hard_longer : Lengthened (aim_sizes aim) s hard_state (record (super_of (current s)) { tail = aim.super.tail + length aim.behind }) aim.behind
  hard_longer = hard_tail (λ n x. Lengthened (aim_sizes aim) s x (record (super_of (current s)) { tail = n + length aim.behind }) aim.behind)
      (harden_lengthened (keeping t aim) s it.facts refl aim.behind (stands_behind t aim s it waiting))

  pub harden_steps : Steps Held (λ (a : Aim). Facts t (hardened a)) (harden_calls (aim.super.tail + length aim.behind)) aim s
  harden_steps = record {
    facts = log_after t aim s it (harden_calls (aim.super.tail + length aim.behind)) (harden_low (aim_sizes aim) (aim.super.tail + length aim.behind))
        aim.super.start aim.super.drained (aim.super.tail + length aim.behind) (aim.log ++ aim.behind) [] [] aim.kept
        (hard_longer.super_is ∙ ap (λ (x : Super). record x { tail = aim.super.tail + length aim.behind }) it.super_words)
        (hard_longer.log ∙ ap (λ (xs : List Line). xs ++ aim.behind) it.log_same)
        hard_longer.entries
        (hard_tail (λ n x. StoreFacts (keeping t (hardened aim)) x) (harden_done (keeping t aim) s it.facts refl aim.behind hard_stands (λ p l w. refl)))
        (λ p l w word loose. hardened_recorded aim (whole_log t aim s it) waiting p l w (it.recorded p l w word loose))
        (λ k w less hw. absurd (omega arith));
    moments = λ mid amid. record {
      keeps = _;
      format_is = refl;
      sizes = refl;
      committed = refl;
      facts = harden_facts (keeping t aim) s it.facts refl aim.behind hard_stands (λ p l w. refl) mid
          (subst (λ (x : Super). Amid s (harden_calls (x.tail + length aim.behind)) mid) (sym it.super_words) amid);
    };
  }

  pub harden_waiting : Waiting (hardened aim)
  harden_waiting = hardened_waiting aim (whole_log t aim s it) waiting

pub harden_records : (t : Data) (aim : Aim) (s : State) → Facts t aim s → Records aim → Records (hardened aim)
harden_records t aim s it records = hardened_records aim (whole_log t aim s it) records

-- ---- an end

module _ (t : Data) (aim : Aim) (s : State) (it : Facts t aim s) (waiting : Waiting aim) (e : Entry) (ys : List Line) (fits : FitsBehind aim ys e) where
  abbrev end_list : List Call
  end_list = end_calls (aim_sizes aim) (aim.super.tail + length aim.behind) ys

  abbrev end_state : State
  end_state = after_all end_list s

  end_can : CanPutEntry (keeping t aim) s (length aim.behind) ys e
  end_can = can_put t aim s it e ys fits

  at_end : (P : ℕ → State → Type 0) → P (super_of (current s)).tail (after_all (end_calls (aim_sizes aim) ((super_of (current s)).tail + length aim.behind) ys) s) → P aim.super.tail end_state
  at_end P = subst (λ (x : Super). P x.tail (after_all (end_calls (aim_sizes aim) (x.tail + length aim.behind) ys) s)) it.super_words

  end_longer : Lengthened (aim_sizes aim) s end_state (record (super_of (current s)) { tail = aim.super.tail + length aim.behind + length ys }) (aim.behind ++ ys)
  end_longer = at_end (λ n x. Lengthened (aim_sizes aim) s x (record (super_of (current s)) { tail = n + length aim.behind + length ys }) (aim.behind ++ ys))
      (end_lengthened (keeping t aim) s it.facts refl aim.behind (stands_behind t aim s it waiting) ys end_can.room end_can.are_lines end_can.passes)

  end_low : AreWithin (low_stores (aim_sizes aim)) (low_writes (aim_sizes aim)) end_list
  end_low = within_both (low_stores (aim_sizes aim)) (low_writes (aim_sizes aim)) (put_calls (aim_sizes aim) (aim.super.tail + length aim.behind) ys) (harden_calls (aim.super.tail + length aim.behind + length ys))
      (puts_low (aim_sizes aim) (positive t aim s it) (aim.super.tail + length aim.behind) ys) (harden_low (aim_sizes aim) (aim.super.tail + length aim.behind + length ys))

  -- the log with what waited and the end
  log_ended : log_in (lengthened ys aim) ≡ extended (log_ahead aim) e
  log_ended = ap (grouped no_log) (entries-append aim.format 0 aim.log (aim.behind ++ ys) (whole_log t aim s it)) ∙ grouped-append no_log (entries aim.format 0 aim.log) (entries aim.format 0 (aim.behind ++ ys))
      ∙ ap (grouped (log_in aim)) (entries-append aim.format 0 aim.behind ys (checked_whole aim.format (aim_sizes aim) 0 0 aim.behind (waiting.passes 0) (omega arith)))
      ∙ grouped-append (log_in aim) (entries aim.format 0 aim.behind) (entries aim.format 0 ys)
      ∙ ap (λ (es : List Entry). grouped (grouped (log_in aim) (entries aim.format 0 aim.behind)) es) fits.holds
      ∙ ap (λ (es : List Entry). extended (grouped (log_in aim) es) e) waiting.holds

  -- it names what a record named
  end_recorded : ((log : Log) (p l w : ℕ) → is_logged (extended log e) p l w ≡ is_logged log p l w) → (p l w : ℕ) → is_recorded aim p l w ≡ true → is_recorded (lengthened ys aim) p l w ≡ true
  end_recorded same p l w h = or_left (is_logged (log_in (lengthened ys aim)) p l w) false (ap (λ (x : Log). is_logged x p l w) log_ended ∙ same (log_ahead aim) p l w ∙ ahead_named aim p l w h)

  -- the facts of the aim with the end, and these committed words
  end_facts : (kept : Words) → ((log : Log) (p l w : ℕ) → is_logged (extended log e) p l w ≡ is_logged log p l w)
      → StoreFacts (keeping t (record (lengthened ys aim) { kept = kept })) end_state → Facts t (record (lengthened ys aim) { kept = kept }) end_state
  end_facts kept same facts = log_after t aim s it end_list end_low aim.super.start aim.super.drained (aim.super.tail + length aim.behind + length ys) (aim.log ++ (aim.behind ++ ys)) [] [] kept
      (end_longer.super_is ∙ ap (λ (x : Super). record x { tail = aim.super.tail + length aim.behind + length ys }) it.super_words)
      (end_longer.log ∙ ap (λ (xs : List Line). xs ++ (aim.behind ++ ys)) it.log_same)
      end_longer.entries facts
      (λ p l w word loose. end_recorded same p l w (it.recorded p l w word loose))
      (λ k w less hw. absurd (omega arith))

  -- and its records, by what the log gives
  end_waiting : (kept : Words) → ((p l w : ℕ) → IsWord (aim_sizes aim) p l w → is_logged (extended (log_ahead aim) e) p l w ≡ true → (homes : Words) → replay aim.format (extended (log_ahead aim) e) homes p l w ≡ kept p l w)
      → Waiting (record (lengthened ys aim) { kept = kept })
  end_waiting kept right = record {
    room = (let room = fits.room in omega (arith, room));
    are_lines = λ k less. absurd (omega arith);
    passes = λ at. refl;
    holds = refl;
    right = λ p l w word h homes. ap (λ (x : Log). replay aim.format x homes p l w) log_ended ∙ right p l w word (sym (ap (λ (x : Log). is_logged x p l w) log_ended) ∙ h) homes;
  }

-- that of a commit
module _ (t : Data) (aim : Aim) (s : State) (it : Facts t aim s) (records : Records aim) (ys : List Line) (fits : FitsBehind aim ys commit) where
  commit_stands : PendingStands (keeping t aim) s aim.behind
  commit_stands = stands_pending t aim s it records.waiting

  commit_moment : (mid : State) → Amid s (end_calls (aim_sizes aim) (aim.super.tail + length aim.behind) ys) mid → HeldEither aim mid
  commit_moment mid amid = record {
    keeps = _;
    format_is = refl;
    sizes = refl;
    committed = λ n. either n (eqb n ((super_of (current s)).tail + length aim.behind + length ys)) refl;
    facts = commit_pending_facts (keeping t aim) s it.facts refl aim.behind commit_stands commit ys (can_put t aim s it commit ys fits) refl (ends_right t aim s it records) mid
        (subst (λ (x : Super). Amid s (end_calls (aim_sizes aim) (x.tail + length aim.behind) ys) mid) (sym it.super_words) amid);
  }
    where
      either : (n : ℕ) (x : Bool) → eqb n ((super_of (current s)).tail + length aim.behind + length ys) ≡ x
          → (committed_from ((super_of (current s)).tail + length aim.behind + length ys) aim.words (λ n. aim.kept) n ≡ aim.kept)
          ⊎ (committed_from ((super_of (current s)).tail + length aim.behind + length ys) aim.words (λ n. aim.kept) n ≡ aim.words)
      either n true e = inr (cond-true (eqb n ((super_of (current s)).tail + length aim.behind + length ys)) aim.words aim.kept e)
      either n false e = inl (cond-false (eqb n ((super_of (current s)).tail + length aim.behind + length ys)) aim.words aim.kept e)

  pub commit_steps : Steps HeldEither (λ (a : Aim). Facts t (ended ys a)) (end_calls (aim_sizes aim) (aim.super.tail + length aim.behind) ys) aim s
  commit_steps = record {
    facts = end_facts t aim s it records.waiting commit ys fits aim.words commit_logged
        (at_end t aim s it records.waiting commit ys fits (λ n x. StoreFacts (keeping t (ended ys aim)) x)
        (commit_pending_done (keeping t aim) s it.facts refl aim.behind commit_stands commit ys (can_put t aim s it commit ys fits) refl (ends_right t aim s it records)));
    moments = commit_moment;
  }

  pub commit_records : Records (ended ys aim)
  commit_records = record {
    waiting = end_waiting t aim s it records.waiting commit ys fits aim.words records.ends;
    ends = λ p l w word h homes.
        let log : log_in (ended ys aim) ≡ extended (log_ahead aim) commit = log_ended t aim s it records.waiting commit ys fits in
        ap (λ (x : Log). replay aim.format (extended x commit) homes p l w) log
        ∙ commit_untouched aim.format (extended (log_ahead aim) commit) homes p l w refl
        ∙ records.ends p l w word (sym (commit_logged (extended (log_ahead aim) commit) p l w) ∙ sym (ap (λ (x : Log). is_logged (extended x commit) p l w) log) ∙ h) homes;
  }

-- that of an abort, where the lines of its records were taken back
module _ (t : Data) (aim : Aim) (s : State) (it : Facts t aim s) (waiting : Waiting aim) (ys : List Line) (fits : FitsBehind aim ys abort) where
  abort_stands : PendingStands (keeping t aim) s aim.behind
  abort_stands = stands_pending t aim s it waiting

  pub abort_steps : Steps Held (λ (a : Aim). Facts t (lengthened ys a)) (end_calls (aim_sizes aim) (aim.super.tail + length aim.behind) ys) aim s
  abort_steps = record {
    facts = end_facts t aim s it waiting abort ys fits aim.kept abort_logged
        (at_end t aim s it waiting abort ys fits (λ n x. StoreFacts (keeping t (lengthened ys aim)) x)
        (abort_pending_done (keeping t aim) s it.facts refl aim.behind abort_stands abort ys (can_put t aim s it abort ys fits) refl (λ p l w. refl)));
    moments = λ mid amid. record {
      keeps = _;
      format_is = refl;
      sizes = refl;
      committed = refl;
      facts = abort_pending_facts (keeping t aim) s it.facts refl aim.behind abort_stands abort ys (can_put t aim s it abort ys fits) refl (λ p l w. refl) mid
          (subst (λ (x : Super). Amid s (end_calls (aim_sizes aim) (x.tail + length aim.behind) ys) mid) (sym it.super_words) amid);
    };
  }

  abort_right : (p l w : ℕ) → IsWord (aim_sizes aim) p l w → is_logged (extended (log_ahead aim) abort) p l w ≡ true → (homes : Words) → replay aim.format (extended (log_ahead aim) abort) homes p l w ≡ aim.kept p l w
  abort_right p l w word h homes = replay-abort aim.format (log_ahead aim) homes p l w ∙ waiting.right p l w word (sym (abort_logged (log_ahead aim) p l w) ∙ h) homes

  pub abort_records : ((p l w : ℕ) → IsWord (aim_sizes aim) p l w → aim.words p l w ≡ aim.kept p l w) → Records (lengthened ys aim)
  abort_records closed = record {
    waiting = end_waiting t aim s it waiting abort ys fits aim.kept abort_right;
    ends = λ p l w word h homes.
        let log : log_in (lengthened ys aim) ≡ extended (log_ahead aim) abort = log_ended t aim s it waiting abort ys fits in
        ap (λ (x : Log). replay aim.format (extended x commit) homes p l w) log
        ∙ commit_untouched aim.format (extended (log_ahead aim) abort) homes p l w refl
        ∙ abort_right p l w word (sym (commit_logged (extended (log_ahead aim) abort) p l w) ∙ sym (ap (λ (x : Log). is_logged (extended x commit) p l w) log) ∙ h) homes
        ∙ sym (closed p l w word);
  }
