-- Behind a harden and an end the log is durable again, with nothing pending: so any call can follow.
use Rattle.std.proofs.Common.{◌≡◌, ◌≢◌, ◌⊎◌, ℕ, ◌+◌, ◌-◌, ◌<◌, ◌≤◌, List, [], ◌∷◌, ◌++◌, length, length-append, get_or, slice_index_or, None, refl, sym, ap, ◌∙◌, subst, inl, inr, arith}
use Rattle.std.proofs.lemmas.Bool.{cases_lt}
use Rattle.nvm_model.specs.declared.line.Line.{Line}
use Rattle.nvm_model.specs.Word.{Word, IsSingle, single, marked, trimmed}
use Rattle.devices.specs.State.{State, Image, Leaves, current, fenced, word_stored, after_all}
use Rattle.devices.specs.State.Call.{fence}
use Rattle.devices.specs.Growth.{Grows, no_store, no_write}
use Rattle.devices.proofs.StateLaws.{flushed_same, word_stored_same}
use Rattle.devices.proofs.GrowthLaws.{Amid-grows, Amid_end, Grows-single, Grows-settled, after_all_append}
use Rattle.store_model.specs.Layout.{Sizes, ring_line, ring_lines, entry_line, entry_word}
use Rattle.store_model.specs.Log.{Change}
use Rattle.store_model.specs.Format.{Format, IsWhole, word_in, zero_line}
use Rattle.store_model.specs.Format.Format.{whole_lines}
use Rattle.store_model.specs.Recovered.{Super, super_of, log_lines, super_check, image_table_check, image_log_check}
use Rattle.store_model.specs.InOrder.{LineStands}
use Rattle.store_model.specs.StoreFacts.{Gate, Bookkeeping, StoreFacts}
use Rattle.store_model.specs.View.{Extends}
use Rattle.store_model.specs.Put.{IsFlushed, put_calls, tail_calls}
use Rattle.store_model.specs.Pending.{harden_calls, end_calls, IsBehind, StandsFlushed}
use Rattle.store_model.specs.Seen.{gate_stores}
use Rattle.home_laws.proofs.FactsLaws.{current_leaves, facts_can_put}
use Rattle.home_laws.proofs.CheckLaws.{checked_whole, checks_none}
use Rattle.home_laws.proofs.PutLaws.{fenced_flushed, named_low}
use Rattle.log_laws.proofs.HardenLaws.{harden_ended}
use Rattle.nvm_log.specs.Offsets.{Offsets, appended, hardened}
use Rattle.nvm_log.specs.Standing.{HasPending}
use Rattle.nvm_log.specs.Facts.{HasFacts}
use Rattle.nvm_log.specs.Entries.{end_lines}
use Rattle.nvm_log.specs.declared.record.EndKind.{EndKind}
use Rattle.nvm_log.specs.declared.record.EndKind.TheVariants.{Commit, Abort}
use Rattle.nvm_log.proofs.EntryLaws.{end_are_lines}
use Rattle.nvm_log.proofs.GroupLaws.{lines_durable, more_stands, more_super, more_lines, harden_super}
use Rattle.nvm_log.proofs.ClauseLaws.{super_log, same_log, next_is, room_is, whole-append}

module _ (format : Format) (s : State) (xs : List Line) (stands : StandsFlushed s xs) where
  abbrev sup : Super
  sup = super_of (current s)

  abbrev new_tail : ℕ
  new_tail = sup.tail + length xs

  abbrev pub hard : State
  hard = after_all (harden_calls new_tail) s

  fence_grows : Grows no_store no_write s (fenced s)
  fence_grows = Amid-grows no_store no_write (fence ∷ []) s (fenced s) (tt, tt) (Amid_end (fence ∷ []) s)

  gate_grows : Grows (gate_stores Gate.tail new_tail) no_write (fenced s) hard
  gate_grows = Amid-grows (gate_stores Gate.tail new_tail) no_write (tail_calls new_tail) (fenced s) hard ((refl, refl, refl), (tt, (tt, tt))) (Amid_end (tail_calls new_tail) (fenced s))

  -- a word that the fence leaves single stays so, and so does one that was single; and the gate is
  single_fenced : (l w : ℕ) → (l ≢ 3) ⊎ (w ≢ 0) → IsSingle ((fenced s).nvm l w) → IsSingle (hard.nvm l w)
  single_fenced l w other one = Grows-single (gate_stores Gate.tail new_tail) no_write (fenced s) hard gate_grows l w (λ v st. elim other [ inl n ↦ n st.0 | inr n ↦ n st.1 ]) one

  single_kept : (l w : ℕ) → (l ≢ 3) ⊎ (w ≢ 0) → IsSingle (s.nvm l w) → IsSingle (hard.nvm l w)
  single_kept l w other one = single_fenced l w other (Grows-single no_store no_write s (fenced s) fence_grows l w (λ v none. none) one)

  gate_is : hard.nvm 3 0 ≡ single new_tail
  gate_is = ap trimmed (flushed_same 3 (word_stored 3 0 new_tail (fenced s)) 0 ∙ ap marked (word_stored_same 3 0 new_tail (fenced s)))

  single_named : (l w : ℕ) → l < 4 → IsSingle (s.nvm l w) → IsSingle (hard.nvm l w)
  single_named l w low one = elim (cases_lt l 3) [
    | inl below ↦ single_kept l w (inl (λ at. omega arith)) one
    | inr third ↦ elim (cases_lt 0 w) [
      | inl later ↦ single_kept l w (inr (λ at. omega arith)) one
      | inr first ↦
          (let line : 3 ≡ l = omega arith in
          let word : 0 ≡ w = omega arith in
          subst (λ k. IsSingle (hard.nvm k w)) line (subst (λ k. IsSingle (hard.nvm 3 k)) word (subst (λ (x : Word). IsSingle x) (sym gate_is) refl)))
    ]
  ]

  line_stands : (o : ℕ) → sup.start ≤ o → o < new_tail → LineStands (record sup { tail = new_tail }) hard o
  line_stands o above below = record {
    in_nvm = λ over w hw. elim (cases_lt o sup.tail) [
      | inl inside ↦ single_kept (ring_line sup.sizes o) w (inl (λ at. omega arith)) (((stands.can).log o above inside).in_nvm over w hw)
      | inr behind ↦
          (let place : sup.tail + (o - sup.tail) ≡ o = omega arith in
          single_fenced (ring_line sup.sizes o) w (inl (λ at. omega arith))
          (subst (λ k. IsSingle ((fenced s).nvm (ring_line sup.sizes k) w)) place
          (subst (λ (x : Word). IsSingle x) (sym (fenced_flushed s (ring_line sup.sizes (sup.tail + (o - sup.tail))) w (word_in (get_or xs (o - sup.tail) zero_line) w) (stands.flushed (o - sup.tail) w (omega arith) hw))) refl)))
    ];
    in_ssd = λ under.
        let low : sup.drained ≤ sup.tail = (stands.can).drained in
        Grows-settled (gate_stores Gate.tail new_tail) (fenced s) hard gate_grows _ (Grows-settled no_store s (fenced s) fence_grows _ (((stands.can).log o above (omega arith)).in_ssd under));
  }

  super_is : super_of (current hard) ≡ record sup { tail = new_tail }
  super_is = harden_super format s xs stands

  pub hard_stands : StandsFlushed hard []
  hard_stands = record {
    can = record {
      superblock = λ l w named. single_named l w (named_low l w named) ((stands.can).superblock l w named);
      entries = subst (λ (x : Super). (k : ℕ) → k ≤ x.sizes.frames → IsSingle (hard.nvm (entry_line k) (entry_word k))) (sym super_is)
          (λ k h. single_kept (entry_line k) (entry_word k) (inl (λ at. omega arith)) ((stands.can).entries k h));
      log = subst (λ (x : Super). (o : ℕ) → x.start ≤ o → o < x.tail → LineStands x hard o) (sym super_is) line_stands;
      ring = subst (λ (x : Super). 0 < x.sizes.log_blocks) (sym super_is) (stands.can).ring;
      started = subst (λ (x : Super). x.start ≤ x.tail) (sym super_is) (let started : sup.start ≤ sup.tail = (stands.can).started in omega arith);
      drained = subst (λ (x : Super). x.drained ≤ x.tail) (sym super_is) (let low : sup.drained ≤ sup.tail = (stands.can).drained in omega arith);
      room = subst (λ (x : Super). x.tail + 0 ≤ x.drained + ring_lines x.sizes) (sym super_is) (let room : sup.tail + length xs ≤ sup.drained + ring_lines sup.sizes = (stands.can).room in omega arith);
    };
    flushed = λ k w less hw. absurd (omega arith);
    are_lines = λ k less. absurd (omega arith);
  }

  pub hard_lines : log_lines (current hard) ≡ log_lines (current s) ++ xs
  hard_lines =
      let found : (j : Image) × Leaves s j × Extends (current hard) j xs = harden_ended s xs stands (current hard) (current_leaves hard) in
      (found.2).log ∙ ap (λ (zs : List Line). zs ++ xs) (lines_durable s (length xs) stands.can found.0 found.1)

-- A harden leaves a log with nothing pending.
pub hardened_pending : (format : Format) (g : Sizes) (at : Offsets) (lines : List Line) (pending : List Change) (s : State) → HasPending format g at lines pending s
    → HasPending format g (hardened at) [] [] (after_all (harden_calls at.written) s)
hardened_pending format g at lines pending s has =
    let next : at.written ≡ (super_of (current s)).tail + length lines = next_is g at s (length lines) has.log_is has.count in
    subst (λ n. HasPending format g (hardened at) [] [] (after_all (harden_calls n) s)) (sym next) (record {
      log_is = super_log g at s (after_all (harden_calls ((super_of (current s)).tail + length lines)) s) ((super_of (current s)).tail + length lines) has.log_is (harden_super format s lines has.stands) (sym next);
      whole = subst (λ (zs : List Line). IsWhole format 0 zs) (sym (hard_lines format s lines has.stands)) (whole-append format 0 (log_lines (current s)) lines has.whole has.whole_behind);
      stands = hard_stands format s lines has.stands;
      count = omega arith;
      holds = refl;
      whole_behind = refl;
    })

-- An end leaves a log with nothing pending.
pub ended_pending : (g : Sizes) (at : Offsets) (lines : List Line) (pending : List Change) (s : State) (kind : EndKind) → HasPending whole_lines g at lines pending s
    → at.written + 1 ≤ at.drained + ring_lines g → HasPending whole_lines g (hardened (appended 1 at)) [] [] (after_all (end_calls g at.written (end_lines kind)) s)
ended_pending g at lines pending s kind has room =
    let next : at.written ≡ (super_of (current s)).tail + length lines = next_is g at s (length lines) has.log_is has.count in
    let full : State = after_all (put_calls (super_of (current s)).sizes ((super_of (current s)).tail + length lines) (end_lines kind)) s in
    let room_here : (super_of (current s)).tail + length lines + 1 ≤ (super_of (current s)).drained + ring_lines (super_of (current s)).sizes = room_is g at s (length lines) 1 has.log_is has.count room in
    let stands : StandsFlushed full (lines ++ end_lines kind) = more_stands whole_lines s lines has.stands (end_lines kind) room_here (end_are_lines kind) in
    let super_full : super_of (current full) ≡ super_of (current s) = more_super whole_lines s lines has.stands (end_lines kind) room_here (end_are_lines kind) in
    let lines_full : log_lines (current full) ≡ log_lines (current s) = more_lines whole_lines s lines has.stands (end_lines kind) room_here (end_are_lines kind) in
    let long : length (lines ++ end_lines kind) ≡ length lines + 1 = length-append lines (end_lines kind) in
    let tail_full : (super_of (current full)).tail ≡ (super_of (current s)).tail = ap (λ (x : Super). x.tail) super_full in
    let reached : (super_of (current full)).tail + length (lines ++ end_lines kind) ≡ at.written + 1 = omega arith in
    let done : HasPending whole_lines g (hardened (appended 1 at)) [] [] (hard whole_lines full (lines ++ end_lines kind) stands) = record {
      log_is = super_log g (appended 1 at) full (hard whole_lines full (lines ++ end_lines kind) stands) ((super_of (current full)).tail + length (lines ++ end_lines kind)) (same_log g at s full 1 has.log_is super_full)
          (harden_super whole_lines full (lines ++ end_lines kind) stands) reached;
      whole = subst (λ (zs : List Line). IsWhole whole_lines 0 zs) (sym (hard_lines whole_lines full (lines ++ end_lines kind) stands))
          (whole-append whole_lines 0 (log_lines (current full)) (lines ++ end_lines kind) (subst (λ (zs : List Line). IsWhole whole_lines 0 zs) (sym lines_full) has.whole)
          (whole-append whole_lines 0 lines (end_lines kind) has.whole_behind (end_whole kind)));
      stands = hard_stands whole_lines full (lines ++ end_lines kind) stands;
      count = omega arith;
      holds = refl;
      whole_behind = refl;
    } in
    subst (HasPending whole_lines g (hardened (appended 1 at)) [] [])
    (ap (λ n. after_all (harden_calls n) full) reached
    ∙ ap (λ (h : Sizes). after_all (harden_calls (at.written + 1)) (after_all (put_calls h ((super_of (current s)).tail + length lines) (end_lines kind)) s)) (has.log_is).sizes
    ∙ ap (λ n. after_all (harden_calls (at.written + 1)) (after_all (put_calls g n (end_lines kind)) s)) (sym next)
    ∙ sym (after_all_append (put_calls g at.written (end_lines kind)) (harden_calls (at.written + 1)) s)) done
  where
    end_whole : (kind : EndKind) → IsWhole whole_lines 0 (end_lines kind)
    end_whole Commit = refl
    end_whole Abort = refl

-- The facts of an open store give what the calls ask for the groups of their log: so any of them can follow a drain and a new
-- start, too.
pub facts_pending : (format : Format) (g : Sizes) (at : Offsets) (b : Bookkeeping) (lines : List Line) (s : State) → HasFacts format g at b lines s → HasPending format g at lines b.pending s
facts_pending format g at b lines s has =
    let facts : StoreFacts b s = has.facts in
    let behind : IsBehind b s lines = (has.stands).behind in
    let same : (super_of (current s)).sizes ≡ b.sizes = facts.sizes (current s) (current_leaves s) in
    let checks : (super_check (super_of (current s)) ≡ None) × (image_table_check (current s) ≡ None) × (image_log_check b.format (current s) ≡ None) =
    checks_none b.format (current s) ((facts.stores (current s) (current_leaves s))).checks in
    subst (λ (f : Format). HasPending f g at lines b.pending s) has.format_is (record {
      log_is = has.log_is;
      whole = checked_whole b.format (super_of (current s)).sizes (super_of (current s)).start 0 (log_lines (current s)) checks.2 (omega arith);
      stands = record {
        can = facts_can_put b s (length lines) facts has.still (subst (λ (h : Sizes). (super_of (current s)).tail + length lines ≤ (super_of (current s)).drained + ring_lines h) (sym same) behind.room);
        flushed = subst (λ (h : Sizes). (k w : ℕ) → k < length lines → w < 8 → IsFlushed (s.nvm (ring_line h ((super_of (current s)).tail + k)) w) (word_in (slice_index_or lines k zero_line) w)) (sym same) behind.flushed;
        are_lines = behind.are_lines;
      };
      count = has.count;
      holds = (has.stands).holds;
      whole_behind = checked_whole b.format b.sizes 0 0 lines (behind.passes 0) (omega arith);
    })
