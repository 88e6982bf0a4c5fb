-- The facts of an open store: what recovery gives by them, and that an entry at the end of the log keeps them.
use Rattle.std.proofs.Common.{◌≡◌, ◌≢◌, ◌⊎◌, ℕ, zero, suc, ◌+◌, ◌-◌, ◌<◌, ◌≤◌, Bool, true, false, ◌||◌, List, [], ◌∷◌, length, refl, sym, ap, ◌∙◌, subst, inl, inr, arith, slice_index, get_or, Some, None, eqb}
use Rattle.std.proofs.lemmas.Bool.{cases_Bool, cases_eq, cases_lt, or_parts, cond-true, cond-false, eq-eqb, ne_eqb}
use Rattle.nvm_model.specs.declared.line.Line.{Line}
use Rattle.devices.specs.State.{State, Image, Amid, Leaves, current}
use Rattle.nvm_model.specs.Word.{Word, IsVersion, IsSingle}
use Rattle.devices.specs.Growth.{Grows, no_write}
use Rattle.flat_store_meaning.specs.Layout.{Sizes, pages, ring_line, ring_lines, ring_start, frame_line}
use Rattle.flat_store_meaning.specs.Log.{Words, Change, Entry, Log, no_log, grouped, extended, names, named_in, changes, is_logged, named_in_groups, applied, applied_with_cuts}
use Rattle.flat_store_meaning.specs.Log.Item.{write}
use Rattle.flat_store_meaning.specs.Log.Entry.{item, commit, abort}
use Rattle.flat_store_meaning.specs.Format.{Format, entries, IsWhole, zero_line, log_check}
use Rattle.flat_store_meaning.specs.Format.Format.{whole_lines, named_words, with_cuts}
use Rattle.flat_store_meaning.specs.Recovered.{Super, super_of, log_lines, log_of, home, replay, recovered, IsStore}
use Rattle.flat_store_meaning.specs.Checked.{SuperPasses}
use Rattle.flat_store_meaning.specs.InOrder.{IsNamed, LineStands, HomeStands}
use Rattle.flat_store_meaning.specs.InOrder.IsNamed.{magic_word, tables, rows, writes, frames, log_blocks, start, drained, tail}
use Rattle.flat_store_meaning.specs.View.{Alike, Extends}
use Rattle.flat_store_meaning.specs.Put.{append_calls, IsLine, CanPut}
use Rattle.flat_store_meaning.specs.StoreFacts.{Gate, gate_line, gate_word, Changing, Bookkeeping, IsWord, is_written, GatesAreOne, NamedIsDurable, HomesAreRight, LogIsRight, CopiesAreRight, StoreFacts, EndsRight, moving, committed_from}
use Rattle.flat_store_meaning.proofs.LogLaws.{plain_replay, replay_with_cuts, replayed-record_named, replayed-abort, replayed_other, not_logged_before, is_logged-extended, or_second, items_of}
use Rattle.devices.proofs.GrowthLaws.{Grows-leaves, Grows-trans, Grows-weaken, Grows-single, Grows-steady, Grows-settled}
use Rattle.flat_store_meaning.proofs.LayoutLaws.{ring_apart}
use Rattle.flat_store_meaning.proofs.AppendLaws.{extended_log, replay-record}
use Rattle.flat_store_meaning.proofs.PutLaws.{put_unseen, put_behind, put_moments, put_stores, tail_stores, put_state, put_grows, put_single, durable_super, free_high}
use Rattle.flat_store_meaning.proofs.CheckLaws.{alike_store, extends_store, store_whole, store_passes, allowed_ring}
use Rattle.nvm_model.proofs.WordLaws.{single_version}

-- what the log doesn't name is its home, in each format
pub replay_other : (format : Format) (log : Log) (a : Words) (p l w : ℕ) → is_logged log p l w ≡ false → replay format log a p l w ≡ a p l w
replay_other whole_lines log a p l w h = replayed_other applied plain_replay log a p l w h
replay_other named_words log a p l w h = replayed_other applied plain_replay log a p l w h
replay_other with_cuts log a p l w h = replayed_other applied_with_cuts replay_with_cuts log a p l w h

-- By the facts every image recovers to the committed words.
pub facts_recover : (b : Bookkeeping) (s : State) → StoreFacts b s → (i : Image) → Leaves s i → (p l w : ℕ) → IsWord b.sizes p l w
    → recovered b.format i p l w ≡ b.committed (super_of i).tail p l w
facts_recover b s facts i leaves p l w word = elim (cases_Bool (is_logged (log_of b.format i) p l w)) [
  | inl logged ↦ (facts.log i leaves).logged p l w word logged (home i)
  | inr unlogged ↦ replay_other b.format (log_of b.format i) (home i) p l w unlogged ∙ elim (cases_Bool (named_in b.pending p l w)) [
    | inl pending ↦ (facts.log i leaves).pending p l w word unlogged pending
    | inr neither ↦ (facts.homes i leaves).committed p l w word (rw (unlogged, neither))
  ]
]

-- a word that only the last record names, in each format
replay-record_named : (format : Format) (log : Log) (c : Change) (a : Words) (p l w : ℕ) → names c p l w ≡ true → named_in (changes log.open_items) p l w ≡ false
    → replay format (extended log (item (write c))) a p l w ≡ slice_index c.before.words w
replay-record_named whole_lines log c a p l w here unnamed = replayed-record_named applied plain_replay log c a p l w here unnamed
replay-record_named named_words log c a p l w here unnamed = replayed-record_named applied plain_replay log c a p l w here unnamed
replay-record_named with_cuts log c a p l w here unnamed = replayed-record_named applied_with_cuts replay_with_cuts log c a p l w here unnamed

-- what is logged with the record and not without it, the record names and no other
only_here : (log : Log) (c : Change) (p l w : ℕ) → is_logged log p l w ≡ false → is_logged (extended log (item (write c))) p l w ≡ true
    → (names c p l w ≡ true) × (named_in (changes log.open_items) p l w ≡ false)
unfolding items_of
only_here log c p l w unlogged logged =
    let both : (is_logged log p l w || (names c p l w || false)) ≡ true = sym (is_logged-extended log (item (write c)) p l w) ∙ logged in (
      or_last (names c p l w) (or_second (is_logged log p l w) (names c p l w || false) unlogged both),
      (or_parts (named_in_groups log.closed p l w) (named_in (changes log.open_items) p l w) unlogged).1,
    )
  where
    or_last : (x : Bool) → (x || false) ≡ true → x ≡ true
    or_last true h = refl
    or_last false h = h

pub some_same : (x y : Changing) → Some x ≡ Some y → x ≡ y
some_same x y e = cc

-- loads and reads give an image that a crash may leave
pub current_leaves : (s : State) → Leaves s (current s)
current_leaves s = record { words = λ l w. inl refl; blocks = λ b h. refl }

module _ (b : Bookkeeping) (s : State) (facts : StoreFacts b s) (xs : List Line) (can : CanPut s (length xs))
    (are_lines : (k : ℕ) → k < length xs → IsLine (get_or xs k zero_line))
    (passes : (at : ℕ) → log_check b.format b.sizes at 0 xs ≡ None)
    (e : Entry) (is : entries b.format 0 xs ≡ e ∷ []) (committed : ℕ → Words)
    (at_old : (p l w : ℕ) → committed (super_of (current s)).tail p l w ≡ b.committed (super_of (current s)).tail p l w)
    (at_new_out : (j : Image) → Leaves s j → (p l w : ℕ) → IsWord b.sizes p l w → is_logged (extended (log_of b.format j) e) p l w ≡ false
    → committed ((super_of (current s)).tail + length xs) p l w ≡ b.committed (super_of (current s)).tail p l w)
    (at_new_in : (j : Image) → Leaves s j → (p l w : ℕ) → IsWord b.sizes p l w → is_logged (extended (log_of b.format j) e) p l w ≡ true
    → (homes : Words) → replay b.format (extended (log_of b.format j) e) homes p l w ≡ committed ((super_of (current s)).tail + length xs) p l w) where
  abbrev sup₀ : Super
  sup₀ = super_of (current s)

  abbrev moved : Bookkeeping
  moved = moving b sup₀.tail (sup₀.tail + length xs) committed

  same_sizes : sup₀.sizes ≡ b.sizes
  same_sizes = facts.sizes (current s) (current_leaves s)

  durable : (j : Image) → Leaves s j → super_of j ≡ sup₀
  durable j left = durable_super s (length xs) can j left

  in_pages : (j : Image) → Leaves s j → (p l w : ℕ) → IsWord b.sizes p l w → p < pages (super_of j).sizes
  in_pages j left p l w word = subst (λ (g : Sizes). p < pages g) (sym (facts.sizes j left)) word.page

  whole : (j : Image) → Leaves s j → IsWhole b.format 0 (log_lines j)
  whole j left = store_whole b.format j (facts.stores j left)

  -- What holds of an image beside the state that left it.
  record ImageFacts (i : Image) : Type 0 where
    sizes : (super_of i).sizes ≡ b.sizes
    homes : HomesAreRight moved i
    log : LogIsRight moved i
    copies : CopiesAreRight moved i
    store : IsStore b.format i

  image_alike : (i j : Image) → Leaves s j → Alike i j → ImageFacts i
  image_alike i j left alike =
      let e_i : super_of i ≡ sup₀ = alike.super_words ∙ durable j left in
      let log : log_of b.format i ≡ log_of b.format j = ap (λ (lines : List Line). grouped no_log (entries b.format 0 lines)) alike.log in
      let same_home : (p l w : ℕ) → IsWord b.sizes p l w → home i p l w ≡ home j p l w = (λ p l w word. alike.homes p l w (in_pages j left p l w word) word.line word.word) in
      let same_committed : (p l w : ℕ) → b.committed (super_of j).tail p l w ≡ committed (super_of i).tail p l w =
      (λ p l w. ap (λ (x : Super). b.committed x.tail p l w) (durable j left) ∙ sym (at_old p l w) ∙ sym (ap (λ (x : Super). committed x.tail p l w) e_i)) in
      let written : (p l w : ℕ) → is_written moved i p l w ≡ is_written b j p l w = (λ p l w. ap (λ (x : Log). is_logged x p l w || named_in b.pending p l w) log) in
      record {
        sizes = ap (λ (x : Super). x.sizes) e_i ∙ same_sizes;
        homes = record {
          current = λ p l w word h. same_home p l w word ∙ (facts.homes j left).current p l w word (sym (written p l w) ∙ h);
          committed = λ p l w word h. same_home p l w word ∙ (facts.homes j left).committed p l w word (sym (written p l w) ∙ h) ∙ same_committed p l w;
        };
        log = record {
          logged = λ p l w word h homes. ap (λ (x : Log). replay b.format x homes p l w) log
              ∙ (facts.log j left).logged p l w word (sym (ap (λ (x : Log). is_logged x p l w) log) ∙ h) homes ∙ same_committed p l w;
          pending = λ p l w word h named. same_home p l w word ∙ (facts.log j left).pending p l w word (sym (ap (λ (x : Log). is_logged x p l w) log) ∙ h) named ∙ same_committed p l w;
        };
        copies = λ p l w line word copy h. facts.copies j left p l w line word copy (sym (written p l w) ∙ h) ∙ sym (same_home p l w word);
        store = alike_store b.format i j alike (facts.stores j left);
      }

  extends_log : (i j : Image) → Leaves s j → Extends i j xs → log_of b.format i ≡ extended (log_of b.format j) e
  extends_log i j left extends = extended_log b.format i j xs extends (whole j left) ∙ ap (grouped (log_of b.format j)) is

  image_extends : (i j : Image) → Leaves s j → Extends i j xs → ImageFacts i
  image_extends i j left extends =
      let e_i : super_of i ≡ record sup₀ { tail = sup₀.tail + length xs } = extends.super_words ∙ ap (λ (x : Super). record x { tail = x.tail + length xs }) (durable j left) in
      let log : log_of b.format i ≡ extended (log_of b.format j) e = extends_log i j left extends in
      let same_home : (p l w : ℕ) → IsWord b.sizes p l w → home i p l w ≡ home j p l w = (λ p l w word. extends.homes p l w (in_pages j left p l w word) word.line word.word) in
      let new : (p l w : ℕ) → committed (super_of i).tail p l w ≡ committed (sup₀.tail + length xs) p l w = (λ p l w. ap (λ (x : Super). committed x.tail p l w) e_i) in
      let out : (p l w : ℕ) → IsWord b.sizes p l w → is_logged (log_of b.format i) p l w ≡ false → b.committed (super_of j).tail p l w ≡ committed (super_of i).tail p l w =
      (λ p l w word h. ap (λ (x : Super). b.committed x.tail p l w) (durable j left)
      ∙ sym (at_new_out j left p l w word (sym (ap (λ (x : Log). is_logged x p l w) log) ∙ h)) ∙ sym (new p l w)) in
      let before : (p l w : ℕ) → is_logged (log_of b.format i) p l w ≡ false → is_logged (log_of b.format j) p l w ≡ false =
      (λ p l w h. not_logged_before (log_of b.format j) e p l w (sym (ap (λ (x : Log). is_logged x p l w) log) ∙ h)) in
      let parts : (p l w : ℕ) → is_written moved i p l w ≡ false → (is_logged (log_of b.format i) p l w ≡ false) × (named_in b.pending p l w ≡ false) =
      (λ p l w h. or_parts (is_logged (log_of b.format i) p l w) (named_in b.pending p l w) h) in
      let unwritten : (p l w : ℕ) → is_written moved i p l w ≡ false → is_written b j p l w ≡ false = (λ p l w h. rw (before p l w (parts p l w h).0, (parts p l w h).1)) in
      record {
        sizes = ap (λ (x : Super). x.sizes) e_i ∙ same_sizes;
        homes = record {
          current = λ p l w word h. same_home p l w word ∙ (facts.homes j left).current p l w word (unwritten p l w h);
          committed = λ p l w word h. same_home p l w word ∙ (facts.homes j left).committed p l w word (unwritten p l w h) ∙ out p l w word (parts p l w h).0;
        };
        log = record {
          logged = λ p l w word h homes. ap (λ (x : Log). replay b.format x homes p l w) log
              ∙ at_new_in j left p l w word (sym (ap (λ (x : Log). is_logged x p l w) log) ∙ h) homes ∙ sym (new p l w);
          pending = λ p l w word h named. same_home p l w word ∙ (facts.log j left).pending p l w word (before p l w h) named ∙ out p l w word h;
        };
        copies = λ p l w line word copy h. facts.copies j left p l w line word copy (unwritten p l w h) ∙ sym (same_home p l w word);
        store = extends_store b.format i j xs extends (facts.stores j left)
            (subst (λ (x : Super). x.tail + length xs ≤ x.start + ring_lines x.sizes) (sym (durable j left)) can.room)
            (λ at. subst (λ (g : Sizes). log_check b.format g at 0 xs ≡ None) (sym (facts.sizes j left)) (passes at));
      }

  -- all that is stored: free lines, and the tail
  abbrev all_stores : ℕ → ℕ → ℕ → Type 0
  all_stores l w v = put_stores sup₀.sizes sup₀.tail (length xs) l w v ⊎ tail_stores s xs can l w v

  -- nothing is stored below the ring but the tail, nothing behind it, and nothing in the log
  apart_low : (l w : ℕ) → l < ring_start sup₀.sizes → (l ≢ 3) ⊎ (w ≢ 0) → (v : ℕ) → all_stores l w v → ⊥
  apart_low l w low other v (inl free) = let high : ring_start sup₀.sizes ≤ l = (free_high s xs can l free).0 in omega arith
  apart_low l w low other v (inr st) = elim other [ inl n ↦ n st.0 | inr n ↦ n st.1 ]

  apart_high : (l w : ℕ) → ring_start sup₀.sizes + ring_lines sup₀.sizes ≤ l → (v : ℕ) → all_stores l w v → ⊥
  apart_high l w high v (inl free) = let low : l < ring_start sup₀.sizes + ring_lines sup₀.sizes = (free_high s xs can l free).1 in omega arith
  apart_high l w high v (inr st) = let three : l ≡ 3 = st.0 in omega arith

  apart_log : (o w : ℕ) → sup₀.drained ≤ o → o < sup₀.tail → (v : ℕ) → all_stores (ring_line sup₀.sizes o) w v → ⊥
  apart_log o w above below v (inl free) =
      let room : sup₀.tail + length xs ≤ sup₀.drained + ring_lines sup₀.sizes = can.room in
      let drained_below : sup₀.drained ≤ sup₀.tail = can.drained in
      let clash : o ≡ free.0 = ring_apart sup₀.sizes sup₀.drained o free.0 above (omega arith) (omega arith) (omega arith) free.3 in omega arith
  apart_log o w above below v (inr st) = let three : ring_line sup₀.sizes o ≡ 3 = st.0 in omega arith

  size_word : (w : ℕ) → 0 < w → w < 6 → IsSingle (s.nvm 0 w)
  size_word zero low high = absurd (omega arith)
  size_word (suc zero) low high = can.superblock 0 1 tables
  size_word (suc (suc zero)) low high = can.superblock 0 2 rows
  size_word (suc (suc (suc zero))) low high = can.superblock 0 3 writes
  size_word (suc (suc (suc (suc zero)))) low high = can.superblock 0 4 frames
  size_word (suc (suc (suc (suc (suc zero))))) low high = can.superblock 0 5 log_blocks
  size_word (suc (suc (suc (suc (suc (suc w)))))) low high = absurd (omega arith)

  -- What holds of a state at some moment, beside its images.
  module _ (mid : State) (grows : Grows all_stores no_write s mid) where
    mid_gate : (gate : Gate) → gate ≢ Gate.tail → IsSingle (mid.nvm (gate_line gate) (gate_word gate))
    mid_gate Gate.magic other = Grows-single all_stores no_write s mid grows 0 0 (apart_low 0 0 (omega arith) (inl (λ n. omega arith))) (can.superblock 0 0 magic_word)
    mid_gate Gate.start other = Grows-single all_stores no_write s mid grows 1 0 (apart_low 1 0 (omega arith) (inl (λ n. omega arith))) (can.superblock 1 0 start)
    mid_gate Gate.drained other = Grows-single all_stores no_write s mid grows 2 0 (apart_low 2 0 (omega arith) (inl (λ n. omega arith))) (can.superblock 2 0 drained)
    mid_gate Gate.tail other = absurd (other refl)

    mid_gates : GatesAreOne moved mid
    mid_gates = record {
      sizes = λ w low high. Grows-single all_stores no_write s mid grows 0 w (apart_low 0 w (omega arith) (inl (λ n. omega arith))) (size_word w low high);
      others = λ gate other. mid_gate gate (other (record { gate = Gate.tail; old = sup₀.tail; new = sup₀.tail + length xs }) refl);
      changing = λ change at v h.
          let same : record { gate = Gate.tail; old = sup₀.tail; new = sup₀.tail + length xs } ≡ change = some_same _ _ at in
          subst (λ (c : Changing). IsVersion (mid.nvm (gate_line c.gate) (gate_word c.gate)) v → (v ≡ c.old) ⊎ (v ≡ c.new)) same
          (λ version. elim (grows.words 3 0 v version) [
            | inl old ↦ inl (single_version (s.nvm 3 0) v (can.superblock 3 0 tail) old)
            | inr stored ↦ elim stored [
              | inl free ↦ absurd (let high : ring_start sup₀.sizes ≤ 3 = (free_high s xs can 3 free).0 in omega arith)
              | inr st ↦ inr st.2
            ]
          ]) h;
    }

    mid_line : (o : ℕ) → sup₀.start ≤ o → o < sup₀.tail → LineStands sup₀ mid o
    mid_line o above below = record {
      in_nvm = λ drained w hw. Grows-single all_stores no_write s mid grows (ring_line sup₀.sizes o) w (apart_log o w drained below) ((can.log o above below).in_nvm drained w hw);
      in_ssd = λ under. Grows-settled all_stores s mid grows _ ((can.log o above below).in_ssd under);
    }

    mid_home : (j : Image) → Leaves s j → (p l w : ℕ) → IsWord b.sizes p l w → is_logged (log_of b.format j) p l w ≡ false → HomeStands b.sizes mid p l w
    mid_home j left p l w word unlogged =
        Grows-steady all_stores no_write s mid grows (frame_line b.sizes p l) w
        (apart_high (frame_line b.sizes p l) w (subst (λ (g : Sizes). ring_start g + ring_lines g ≤ frame_line b.sizes p l) (sym same_sizes) (omega arith)))
        ((facts.durable j left).homes p l w word unlogged)

  -- the lines of an image that is as one before
  alike_durable : (mid : State) → Grows all_stores no_write s mid → (i j : Image) → Leaves s j → Alike i j → NamedIsDurable moved mid i
  alike_durable mid grows i j left alike =
      let e_i : super_of i ≡ sup₀ = alike.super_words ∙ durable j left in
      let log : log_of b.format i ≡ log_of b.format j = ap (λ (lines : List Line). grouped no_log (entries b.format 0 lines)) alike.log in
      record {
        log = subst (λ (x : Super). (o : ℕ) → x.start ≤ o → o < x.tail → LineStands x mid o) (sym e_i) (mid_line mid grows);
        homes = λ p l w word h. mid_home mid grows j left p l w word (sym (ap (λ (x : Log). is_logged x p l w) log) ∙ h);
      }

  -- the same where the lines were put behind its log
  extends_durable : (mid : State) → Grows all_stores no_write s mid → Grows (tail_stores s xs can) no_write (put_state s xs can) mid → (i j : Image) → Leaves s j → Extends i j xs → NamedIsDurable moved mid i
  extends_durable mid grows behind i j left extends =
      let e_i : super_of i ≡ record sup₀ { tail = sup₀.tail + length xs } = extends.super_words ∙ ap (λ (x : Super). record x { tail = x.tail + length xs }) (durable j left) in
      let log : log_of b.format i ≡ extended (log_of b.format j) e = extends_log i j left extends in
      let drained_below : sup₀.drained ≤ sup₀.tail = can.drained in
      record {
        log = subst (λ (x : Super). (o : ℕ) → x.start ≤ o → o < x.tail → LineStands x mid o) (sym e_i) (λ o above below. elim (cases_lt o sup₀.tail) [
          | inl old ↦ (let one : LineStands sup₀ mid o = mid_line mid grows o above old in record { in_nvm = one.in_nvm; in_ssd = one.in_ssd })
          | inr new ↦ record {
            in_nvm = λ drained w hw.
                let at : sup₀.tail + (o - sup₀.tail) ≡ o = omega arith in
                subst (λ n. IsSingle (mid.nvm (ring_line sup₀.sizes n) w)) at
                (Grows-single (tail_stores s xs can) no_write (put_state s xs can) mid behind (ring_line sup₀.sizes (sup₀.tail + (o - sup₀.tail))) w
                (λ v st. let three : ring_line sup₀.sizes (sup₀.tail + (o - sup₀.tail)) ≡ 3 = st.0 in omega arith)
                (ap (λ (x : Word). x.older) (put_single s xs can (o - sup₀.tail) w (omega arith) hw)));
            in_ssd = λ under. absurd (omega arith);
          }
        ]);
        homes = λ p l w word h. mid_home mid grows j left p l w word
            (not_logged_before (log_of b.format j) e p l w (sym (ap (λ (x : Log). is_logged x p l w) log) ∙ h));
      }

  -- While an entry is put at the end of the log, the facts hold at each moment.
  pub put_facts : (mid : State) → Amid s (append_calls sup₀.sizes sup₀.tail xs) mid → StoreFacts moved mid
  put_facts mid amid = elim (put_moments s xs can mid amid) [
    | inl first ↦
        (let grows : Grows all_stores no_write s mid = Grows-weaken (put_stores sup₀.sizes sup₀.tail (length xs)) all_stores no_write s mid (λ l w v st. inl st) first in
        let found : (i : Image) → Leaves mid i → (j : Image) × Leaves s j × Alike i j =
        (λ i leaves. put_unseen s xs can i (Grows-leaves (put_stores sup₀.sizes sup₀.tail (length xs)) no_write s mid i first leaves)) in
        record {
          gates = mid_gates mid grows;
          sizes = λ i leaves. (image_alike i (found i leaves).0 (found i leaves).1 (found i leaves).2).sizes;
          durable = λ i leaves. alike_durable mid grows i (found i leaves).0 (found i leaves).1 (found i leaves).2;
          homes = λ i leaves. (image_alike i (found i leaves).0 (found i leaves).1 (found i leaves).2).homes;
          log = λ i leaves. (image_alike i (found i leaves).0 (found i leaves).1 (found i leaves).2).log;
          copies = λ i leaves. (image_alike i (found i leaves).0 (found i leaves).1 (found i leaves).2).copies;
          stores = λ i leaves. (image_alike i (found i leaves).0 (found i leaves).1 (found i leaves).2).store;
        })
    | inr second ↦
        (let grows : Grows all_stores no_write s mid =
        Grows-trans all_stores no_write s (put_state s xs can) mid
        (Grows-weaken (put_stores sup₀.sizes sup₀.tail (length xs)) all_stores no_write s (put_state s xs can) (λ l w v st. inl st) (put_grows s xs can))
        (Grows-weaken (tail_stores s xs can) all_stores no_write (put_state s xs can) mid (λ l w v st. inr st) second) in
        let found : (i : Image) → Leaves mid i → (j : Image) × Leaves s j × (Alike i j ⊎ Extends i j xs) = (λ i leaves. put_behind s xs can are_lines mid second i leaves) in
        let images : (i : Image) → Leaves mid i → ImageFacts i =
        (λ i leaves. elim (found i leaves).2 [ inl alike ↦ image_alike i (found i leaves).0 (found i leaves).1 alike | inr extends ↦ image_extends i (found i leaves).0 (found i leaves).1 extends ]) in
        record {
          gates = mid_gates mid grows;
          sizes = λ i leaves. (images i leaves).sizes;
          durable = λ i leaves. elim (found i leaves).2 [
            | inl alike ↦ alike_durable mid grows i (found i leaves).0 (found i leaves).1 alike
            | inr extends ↦ extends_durable mid grows second i (found i leaves).0 (found i leaves).1 extends
          ];
          homes = λ i leaves. (images i leaves).homes;
          log = λ i leaves. (images i leaves).log;
          copies = λ i leaves. (images i leaves).copies;
          stores = λ i leaves. (images i leaves).store;
        })
  ]

-- A record at the end of the log keeps the facts, where each word that it names, and that no record of the open group
-- names yet, has its committed word as before value.
pub record_facts : (b : Bookkeeping) (s : State) → StoreFacts b s → (xs : List Line) → CanPut s (length xs)
    → ((k : ℕ) → k < length xs → IsLine (get_or xs k zero_line))
    → ((at : ℕ) → log_check b.format b.sizes at 0 xs ≡ None)
    → (r : Change) → entries b.format 0 xs ≡ item (write r) ∷ []
    → ((p l w : ℕ) → b.committed ((super_of (current s)).tail + length xs) p l w ≡ b.committed (super_of (current s)).tail p l w)
    → ((j : Image) → Leaves s j → (p l w : ℕ) → IsWord b.sizes p l w → names r p l w ≡ true → named_in (changes (log_of b.format j).open_items) p l w ≡ false
    → b.committed (super_of (current s)).tail p l w ≡ slice_index r.before.words w)
    → (mid : State) → Amid s (append_calls (super_of (current s)).sizes (super_of (current s)).tail xs) mid
    → StoreFacts (moving b (super_of (current s)).tail ((super_of (current s)).tail + length xs) b.committed) mid
record_facts b s facts xs can are_lines passes r is constant before =
    put_facts b s facts xs can are_lines passes (item (write r)) is b.committed (λ p l w. refl) (λ j left p l w word h. constant p l w) gives
  where
    gives : (j : Image) → Leaves s j → (p l w : ℕ) → IsWord b.sizes p l w → is_logged (extended (log_of b.format j) (item (write r))) p l w ≡ true
        → (homes : Words) → replay b.format (extended (log_of b.format j) (item (write r))) homes p l w ≡ b.committed ((super_of (current s)).tail + length xs) p l w
    gives j left p l w word h homes =
        let log : Log = log_of b.format j in
        let at_j : b.committed (super_of j).tail p l w ≡ b.committed (super_of (current s)).tail p l w = ap (λ (x : Super). b.committed x.tail p l w) (durable_super s (length xs) can j left) in
        elim (cases_Bool (is_logged log p l w)) [
          | inl logged ↦
              (let old : replay b.format log homes p l w ≡ b.committed (super_of (current s)).tail p l w = (facts.log j left).logged p l w word logged homes ∙ at_j in
              replay-record b.format log r homes p l w (λ named unnamed. old ∙ before j left p l w word named unnamed) ∙ old ∙ sym (constant p l w))
          | inr unlogged ↦
              (let parts : (names r p l w ≡ true) × (named_in (changes log.open_items) p l w ≡ false) = only_here log r p l w unlogged h in
              replay-record_named b.format log r homes p l w parts.0 parts.1 ∙ sym (before j left p l w word parts.0 parts.1) ∙ sym (constant p l w))
        ]

-- an abort at the end, in each format
pub replay-abort : (format : Format) (log : Log) (a : Words) (p l w : ℕ) → replay format (extended log abort) a p l w ≡ replay format log a p l w
replay-abort whole_lines log a p l w = replayed-abort applied plain_replay log a p l w
replay-abort named_words log a p l w = replayed-abort applied plain_replay log a p l w
replay-abort with_cuts log a p l w = replayed-abort applied_with_cuts replay_with_cuts log a p l w

-- The end of an abort keeps the facts, with no further condition.
pub abort_facts : (b : Bookkeeping) (s : State) → StoreFacts b s → (xs : List Line) → CanPut s (length xs)
    → ((k : ℕ) → k < length xs → IsLine (get_or xs k zero_line))
    → ((at : ℕ) → log_check b.format b.sizes at 0 xs ≡ None)
    → entries b.format 0 xs ≡ abort ∷ []
    → ((p l w : ℕ) → b.committed ((super_of (current s)).tail + length xs) p l w ≡ b.committed (super_of (current s)).tail p l w)
    → (mid : State) → Amid s (append_calls (super_of (current s)).sizes (super_of (current s)).tail xs) mid
    → StoreFacts (moving b (super_of (current s)).tail ((super_of (current s)).tail + length xs) b.committed) mid
unfolding items_of
abort_facts b s facts xs can are_lines passes is constant =
    put_facts b s facts xs can are_lines passes abort is b.committed (λ p l w. refl) (λ j left p l w word h. constant p l w)
    (λ j left p l w word h homes.
    replay-abort b.format (log_of b.format j) homes p l w
    ∙ (facts.log j left).logged p l w word (or_none (is_logged (log_of b.format j) p l w) (sym (is_logged-extended (log_of b.format j) abort p l w) ∙ h)) homes
    ∙ ap (λ (x : Super). b.committed x.tail p l w) (durable_super s (length xs) can j left) ∙ sym (constant p l w))
  where
    or_none : (x : Bool) → (x || false) ≡ true → x ≡ true
    or_none true h = refl
    or_none false h = h

-- The end of a commit keeps the facts too, where the groups with it last replay to the current words, which become the
-- committed ones. An image with the new tail has those, one with the old tail the old ones.
pub commit_facts : (b : Bookkeeping) (s : State) → StoreFacts b s → (xs : List Line) → CanPut s (length xs) → 0 < length xs
    → ((k : ℕ) → k < length xs → IsLine (get_or xs k zero_line))
    → ((at : ℕ) → log_check b.format b.sizes at 0 xs ≡ None)
    → entries b.format 0 xs ≡ commit ∷ [] → b.pending ≡ []
    → EndsRight b s
    → (mid : State) → Amid s (append_calls (super_of (current s)).sizes (super_of (current s)).tail xs) mid
    → StoreFacts (moving b (super_of (current s)).tail ((super_of (current s)).tail + length xs)
    (committed_from ((super_of (current s)).tail + length xs) b.current b.committed)) mid
commit_facts b s facts xs can some are_lines passes is none gives =
    put_facts b s facts xs can are_lines passes commit is (committed_from new b.current b.committed)
    (λ p l w. ap (λ (x : Words). x p l w) (cond-false (eqb old new) b.current (b.committed old) (ne_eqb old new (λ e. omega arith))))
    (λ j left p l w word h.
    let unlogged : is_logged (log_of b.format j) p l w ≡ false = not_logged_before (log_of b.format j) commit p l w h in
    let unwritten : is_written b j p l w ≡ false = rw (unlogged, none) refl in
    at_new p l w ∙ sym ((facts.homes j left).current p l w word unwritten) ∙ (facts.homes j left).committed p l w word unwritten
    ∙ ap (λ (x : Super). b.committed x.tail p l w) (durable_super s (length xs) can j left))
    (λ j left p l w word h homes. gives j left p l w word h homes ∙ sym (at_new p l w))
  where
    old : ℕ
    old = (super_of (current s)).tail

    new : ℕ
    new = old + length xs

    at_new : (p l w : ℕ) → committed_from new b.current b.committed new p l w ≡ b.current p l w
    at_new p l w = ap (λ (x : Words). x p l w) (cond-true (eqb new new) b.current (b.committed new) (eq-eqb new new refl))

-- a gate is word 0 of its line
gate_first : (gate : Gate) → gate_word gate ≡ 0
gate_first Gate.magic = refl
gate_first Gate.start = refl
gate_first Gate.drained = refl
gate_first Gate.tail = refl

-- When the word of the gate that is being changed has one version again, no gate is being changed.
pub gate_done : (b : Bookkeeping) (change : Changing) (s : State) → StoreFacts (record b { changing = Some change }) s
    → IsSingle (s.nvm (gate_line change.gate) (gate_word change.gate)) → StoreFacts (record b { changing = None }) s
gate_done b change s facts one = record {
  gates = record {
    sizes = facts.gates.sizes;
    others = λ gate none. elim (cases_eq (gate_line gate) (gate_line change.gate)) [
      | inl same ↦
          subst (λ n. IsSingle (s.nvm n (gate_word gate))) (sym same)
          (subst (λ n. IsSingle (s.nvm (gate_line change.gate) n)) (gate_first change.gate ∙ sym (gate_first gate)) one)
      | inr apart ↦ facts.gates.others gate (λ other at e. apart (ap gate_line (e ∙ sym (ap (λ (c : Changing). c.gate) (some_same change other at)))))
    ];
    changing = λ other at v h. absurd (never other at);
  };
  sizes = facts.sizes;
  durable = λ i leaves. record { log = (facts.durable i leaves).log; homes = (facts.durable i leaves).homes };
  homes = λ i leaves. record { current = (facts.homes i leaves).current; committed = (facts.homes i leaves).committed };
  log = λ i leaves. record { logged = (facts.log i leaves).logged; pending = (facts.log i leaves).pending };
  copies = facts.copies;
  stores = facts.stores;
}
  where
    never : (other : Changing) → None ≡ Some other → ⊥
    never other at = cc

-- so when the tail was changed, and with it what is committed
pub facts_done : (b : Bookkeeping) (old new : ℕ) (committed : ℕ → Words) (s : State) → StoreFacts (moving b old new committed) s → IsSingle (s.nvm 3 0)
    → StoreFacts (record b { changing = None; committed = committed }) s
facts_done b old new committed s facts one = gate_done (record b { committed = committed }) (record { gate = Gate.tail; old = old; new = new }) s facts one

-- Where no gate is being changed and there is room, lines can be put at the end of the log.
pub facts_can_put : (b : Bookkeeping) (s : State) (n : ℕ) → StoreFacts b s → b.changing ≡ None
    → (super_of (current s)).tail + n ≤ (super_of (current s)).start + ring_lines b.sizes → CanPut s n
facts_can_put b s n facts still room =
    let passes : SuperPasses (super_of (current s)) = store_passes b.format (current s) (facts.stores (current s) (current_leaves s)) in
    let same : (super_of (current s)).sizes ≡ b.sizes = facts.sizes (current s) (current_leaves s) in
    let gate : (gate : Gate) → IsSingle (s.nvm (gate_line gate) (gate_word gate)) =
    (λ gate. facts.gates.others gate (λ change at e. never change (sym still ∙ at))) in
    record {
      superblock = λ l w named. by_name l w named (gate Gate.magic) (gate Gate.start) (gate Gate.drained) (gate Gate.tail);
      log = (facts.durable (current s) (current_leaves s)).log;
      ring = allowed_ring (super_of (current s)).sizes passes.sizes;
      started = passes.started;
      drained = passes.started;
      room = subst (λ (g : Sizes). (super_of (current s)).tail + n ≤ (super_of (current s)).start + ring_lines g) (sym same) room;
    }
  where
    never : (change : Changing) → None ≡ Some change → ⊥
    never change at = cc

    by_name : (l w : ℕ) → IsNamed l w → IsSingle (s.nvm 0 0) → IsSingle (s.nvm 1 0) → IsSingle (s.nvm 2 0) → IsSingle (s.nvm 3 0) → IsSingle (s.nvm l w)
    by_name l w magic_word a b c d = a
    by_name l w tables a b c d = facts.gates.sizes 1 (omega arith) (omega arith)
    by_name l w rows a b c d = facts.gates.sizes 2 (omega arith) (omega arith)
    by_name l w writes a b c d = facts.gates.sizes 3 (omega arith) (omega arith)
    by_name l w frames a b c d = facts.gates.sizes 4 (omega arith) (omega arith)
    by_name l w log_blocks a b c d = facts.gates.sizes 5 (omega arith) (omega arith)
    by_name l w start a b c d = b
    by_name l w drained a b c d = c
    by_name l w tail a b c d = d
