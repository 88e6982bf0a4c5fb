-- What loads and reads give after a drain, an append, a harden and an end.
use Rattle.std.proofs.Common.{◌≡◌, ◌≢◌, ℕ, ◌+◌, ◌<◌, ◌≤◌, List, [], ◌∷◌, ◌++◌, length, length-append, get_or, append-nil, append_assoc, refl, sym, ap, ◌∙◌, subst, inl, arith, eqb, None}
use Rattle.std.proofs.lemmas.Bool.{ne_eqb, cond-false}
use Rattle.nvm_model.specs.declared.line.Line.{Line}
use Rattle.nvm_model.specs.Word.{Word}
use Rattle.ssd_model.specs.Block.{Block}
use Rattle.devices.specs.State.{State, Image, current, fenced, after_all}
use Rattle.devices.specs.Growth.{no_store, no_write}
use Rattle.store_model.specs.Layout.{Sizes, pages, ring_line, ring_lines, ring_block, frame_line, page_block, entry_line, entry_word}
use Rattle.store_model.specs.Format.{log_check, zero_line}
use Rattle.store_model.specs.Recovered.{Super, super_of, log_lines}
use Rattle.store_model.specs.StoreFacts.{Gate, Bookkeeping, StoreFacts}
use Rattle.store_model.specs.Put.{put_calls, IsLine}
use Rattle.store_model.specs.Drain.{drain_calls, CanDrain}
use Rattle.store_model.specs.View.{Extends}
use Rattle.store_model.specs.Pending.{harden_calls, end_calls, IsBehind}
use Rattle.store_model.specs.Seen.{Moved, gate_calls}
use Rattle.store_model.specs.Shown.{Lengthened}
use Rattle.devices.proofs.GrowthLaws.{after_all_append}
use Rattle.home_laws.proofs.PutLaws.{put_stores, put_other}
use Rattle.log_laws.proofs.DrainLaws.{moved_gate}
use Rattle.home_laws.proofs.CheckLaws.{store_passes, allowed_ring}
use Rattle.home_laws.proofs.FactsLaws.{current_leaves}
use Rattle.home_laws.proofs.QuietLaws.{quiet_log, quiet_entry}
use Rattle.home_laws.proofs.GateLaws.{moved_current}
use Rattle.log_laws.proofs.DrainFacts.{drain_quiet, settled, grows_to, drained_mirrors}
use Rattle.log_laws.proofs.BehindLaws.{behind_stands, behind_done, put_state, put_grows, put_quiet, put_super}
use Rattle.log_laws.proofs.TailLaws.{tail_extends}
use Rattle.home_laws.proofs.ShownLaws.{home_kept}

Lengthened-trans : (g : Sizes) (a b c : State) (sup₁ sup₂ : Super) (xs ys : List Line) → Lengthened g a b sup₁ xs → Lengthened g b c sup₂ ys → Lengthened g a c sup₂ (xs ++ ys)
Lengthened-trans g a b c sup₁ sup₂ xs ys first second = record {
  super_is = second.super_is;
  log = second.log ∙ ap (λ zs. zs ++ ys) first.log ∙ append_assoc (log_lines (current a)) xs ys;
  entries = λ n h. second.entries n h ∙ first.entries n h;
  all_pages = λ p l w word. second.all_pages p l w word ∙ first.all_pages p l w word;
}

-- A drain: `drained` is raised, and the log, the entries and the pages are as they were.
module _ (b : Bookkeeping) (s : State) (facts : StoreFacts b s) (still : b.changing ≡ None) (bytes : List ℕ) (can : CanDrain s bytes) where
  abbrev sup : Super
  sup = super_of (current s)

  abbrev settled_state : State
  settled_state = settled b s facts still bytes can

  pub drain_lengthened : Lengthened b.sizes s (after_all (drain_calls b.sizes sup.drained bytes) s) (record sup { drained = sup.drained + 64 }) []
  drain_lengthened = subst (λ (g : Sizes). Lengthened b.sizes s (after_all (drain_calls g sup.drained bytes) s) (record sup { drained = sup.drained + 64 }) []) same_sizes (record {
    super_is = moved_gate i (current settled_state) (sup.drained + 64) (λ l w named h. moved.words l w h) moved.at_gate;
    log = (drained_mirrors b s facts still bytes can i (current settled_state) (current_leaves settled_state) moved).log
        ∙ quiet_log b s facts still no_store (λ n. n ≡ ring_block sup.sizes sup.drained) (drain_quiet b s facts still bytes can) settled_state (grows_to b s facts still bytes can)
        ∙ sym (append-nil (log_lines (current s)));
    entries = λ n h. moved.words (entry_line n) (entry_word n) (inl (λ at. omega arith));
    all_pages = λ p l w word. home_kept b.sizes i (current s)
        (ap (λ (x : Super). x.sizes) (moved_gate i (current settled_state) (sup.drained + 64) (λ l w named h. moved.words l w h) moved.at_gate) ∙ same_sizes) same_sizes
        (λ n h. moved.words (entry_line n) (entry_word n) (inl (λ at. omega arith))) p l w
        (λ n h named. moved.words (frame_line b.sizes n l) w (inl (λ at. omega arith)))
        (λ none. ap (λ (x : Block). x.bytes) (cond-false (eqb (page_block b.sizes p) (ring_block sup.sizes sup.drained)) _ (s.ssd (page_block b.sizes p))
        (ne_eqb (page_block b.sizes p) (ring_block sup.sizes sup.drained) (subst (λ (g : Sizes). page_block g p ≢ ring_block sup.sizes sup.drained) same_sizes (λ e. omega arith)))));
  })
    where
      same_sizes : sup.sizes ≡ b.sizes
      same_sizes = facts.sizes (current s) (current_leaves s)

      i : Image
      i = current (after_all (gate_calls Gate.drained (sup.drained + 64)) settled_state)

      moved : Moved Gate.drained (sup.drained + 64) i (current settled_state)
      moved = moved_current Gate.drained (sup.drained + 64) settled_state

-- An append behind the tail: all is as it was.
module _ (b : Bookkeeping) (s : State) (facts : StoreFacts b s) (still : b.changing ≡ None) (xs : List Line) (behind : IsBehind b s xs) (ys : List Line)
    (room : (super_of (current s)).tail + length xs + length ys ≤ (super_of (current s)).drained + ring_lines b.sizes)
    (are_lines : (k : ℕ) → k < length ys → IsLine (get_or ys k zero_line)) (passes : (at : ℕ) → log_check b.format b.sizes at 0 ys ≡ None) where
  abbrev sup₁ : Super
  sup₁ = super_of (current s)

  pub append_lengthened : Lengthened b.sizes s (after_all (put_calls b.sizes (sup₁.tail + length xs) ys) s) sup₁ []
  append_lengthened = record {
    super_is = put_super b s facts still xs behind ys room are_lines passes;
    log = quiet_log b s facts still (put_stores b.sizes (sup₁.tail + length xs) (length ys)) no_write (put_quiet b s facts still xs behind ys room are_lines passes)
        (put_state b s facts still xs behind ys room are_lines passes) (put_grows b s facts still xs behind ys room are_lines passes) ∙ sym (append-nil (log_lines (current s)));
    entries = quiet_entry b s facts still (put_stores b.sizes (sup₁.tail + length xs) (length ys)) no_write (put_quiet b s facts still xs behind ys room are_lines passes)
        (put_state b s facts still xs behind ys room are_lines passes) (put_grows b s facts still xs behind ys room are_lines passes);
    all_pages = λ p l w word. home_kept b.sizes (current (put_state b s facts still xs behind ys room are_lines passes)) (current s)
        (ap (λ (x : Super). x.sizes) (put_super b s facts still xs behind ys room are_lines passes) ∙ same_sizes) same_sizes
        (quiet_entry b s facts still (put_stores b.sizes (sup₁.tail + length xs) (length ys)) no_write (put_quiet b s facts still xs behind ys room are_lines passes)
        (put_state b s facts still xs behind ys room are_lines passes) (put_grows b s facts still xs behind ys room are_lines passes)) p l w
        (λ n h named. ap (λ (x : Word). x.newest) (put_other b.sizes ys (sup₁.tail + length xs) s (frame_line b.sizes n l) w
        (λ free. let at : frame_line b.sizes n l ≡ ring_line b.sizes free.0 = free.3 in let positive : 0 < b.sizes.log_blocks = ring in omega arith)))
        (λ none. blocks ys (sup₁.tail + length xs) s (page_block b.sizes p));
  }
    where
      same_sizes : sup₁.sizes ≡ b.sizes
      same_sizes = facts.sizes (current s) (current_leaves s)

      ring : 0 < b.sizes.log_blocks
      ring = subst (λ (g : Sizes). 0 < g.log_blocks) same_sizes (allowed_ring sup₁.sizes (store_passes b.format (current s) (facts.stores (current s) (current_leaves s))).sizes)

      blocks : (zs : List Line) (u : ℕ) (t : State) (n : ℕ) → ((after_all (put_calls b.sizes u zs) t).ssd n).bytes ≡ (t.ssd n).bytes
      blocks [] u t n = refl
      blocks (z ∷ zs) u t n = blocks zs (u + 1) _ n

-- A harden: the log has the lines that stood behind the tail last.
module _ (b : Bookkeeping) (s : State) (facts : StoreFacts b s) (still : b.changing ≡ None) (xs : List Line) (behind : IsBehind b s xs) where
  abbrev sup₂ : Super
  sup₂ = super_of (current s)

  pub harden_lengthened : Lengthened b.sizes s (after_all (harden_calls (sup₂.tail + length xs)) s) (record sup₂ { tail = sup₂.tail + length xs }) xs
  harden_lengthened =
      let i : Image = current (after_all (gate_calls Gate.tail (sup₂.tail + length xs)) (fenced s)) in
      let extends : Extends i (current (fenced s)) xs = tail_extends b s facts still xs behind i (current (fenced s)) (current_leaves (fenced s)) (moved_current Gate.tail (sup₂.tail + length xs) (fenced s)) in
      let same_sizes : sup₂.sizes ≡ b.sizes = facts.sizes (current s) (current_leaves s) in
      record {
        super_is = extends.super_words;
        log = extends.log;
        entries = λ n h. extends.entries n (subst (λ (g : Sizes). n ≤ g.frames) (sym same_sizes) h);
        all_pages = λ p l w word. extends.homes p l w (subst (λ (g : Sizes). p < pages g) (sym same_sizes) word.page) word.line word.word;
      }

-- An end: the log has the lines that stood behind the tail and the end's last.
module _ (b : Bookkeeping) (s : State) (facts : StoreFacts b s) (still : b.changing ≡ None) (xs : List Line) (behind : IsBehind b s xs) (ys : List Line)
    (room : (super_of (current s)).tail + length xs + length ys ≤ (super_of (current s)).drained + ring_lines b.sizes)
    (are_lines : (k : ℕ) → k < length ys → IsLine (get_or ys k zero_line)) (passes : (at : ℕ) → log_check b.format b.sizes at 0 ys ≡ None) where
  abbrev sup₃ : Super
  sup₃ = super_of (current s)

  pub end_lengthened : Lengthened b.sizes s (after_all (end_calls b.sizes (sup₃.tail + length xs) ys) s) (record sup₃ { tail = sup₃.tail + length xs + length ys }) (xs ++ ys)
  end_lengthened =
      let full : State = put_state b s facts still xs behind ys room are_lines passes in
      let full_super : super_of (current full) ≡ sup₃ = put_super b s facts still xs behind ys room are_lines passes in
      let same_tail : (super_of (current full)).tail ≡ sup₃.tail = ap (λ (x : Super). x.tail) full_super in
      let long : length (xs ++ ys) ≡ length xs + length ys = length-append xs ys in
      let new_tail : (super_of (current full)).tail + length (xs ++ ys) ≡ sup₃.tail + length xs + length ys = omega arith in
      let second : Lengthened b.sizes full (after_all (harden_calls ((super_of (current full)).tail + length (xs ++ ys))) full) (record (super_of (current full)) { tail = (super_of (current full)).tail + length (xs ++ ys) }) (xs ++ ys) =
      harden_lengthened b full (behind_done b s facts still xs behind ys room are_lines passes) still (xs ++ ys) (behind_stands b s facts still xs behind ys room are_lines passes) in
      let second' : Lengthened b.sizes full (after_all (harden_calls (sup₃.tail + length xs + length ys)) full) (record (super_of (current full)) { tail = sup₃.tail + length xs + length ys }) (xs ++ ys) =
      subst (λ n. Lengthened b.sizes full (after_all (harden_calls n) full) (record (super_of (current full)) { tail = n }) (xs ++ ys)) new_tail second in
      subst (λ (t : State). Lengthened b.sizes s t (record sup₃ { tail = sup₃.tail + length xs + length ys }) (xs ++ ys))
      (sym (after_all_append (put_calls b.sizes (sup₃.tail + length xs) ys) (harden_calls (sup₃.tail + length xs + length ys)) s))
      (Lengthened-trans b.sizes s full _ sup₃ (record sup₃ { tail = sup₃.tail + length xs + length ys }) [] (xs ++ ys) (append_lengthened b s facts still xs behind ys room are_lines passes)
      (subst (λ (x : Super). Lengthened b.sizes full (after_all (harden_calls (sup₃.tail + length xs + length ys)) full) (record x { tail = sup₃.tail + length xs + length ys }) (xs ++ ys)) full_super second'))
