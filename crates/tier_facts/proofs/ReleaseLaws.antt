-- A page leaves its frame: with a write of its home block, or without one where the frame is not worn.
use Rattle.std.proofs.Common.{false, ◌≡◌, ◌≢◌, ℕ, ◌+◌, ◌<◌, ◌≤◌, List, [], ◌∷◌, refl, sym, ap, ◌∙◌, subst, inl, inr, arith, IsTrue, Option, Some, None}
use Rattle.std.proofs.lemmas.Bool.{cases_eq}
use Rattle.devices.specs.State.{State, Image, Leaves, current, after_all}
use Rattle.devices.specs.State.Call.{write_block, sync}
use Rattle.devices.specs.Growth.{no_store, no_write}
use Rattle.store_model.specs.Layout.{Sizes, pages, entry_line, ring_line, frame_line, page_block}
use Rattle.store_model.specs.Log.{Log, is_logged}
use Rattle.store_model.specs.Recovered.{Super, entry_at, home, home_in, log_of, block_word}
use Rattle.store_model.specs.Install.{entry_calls, release_calls}
use Rattle.store_model.specs.StoreFacts.{Gate, IsWord, StoreFacts}
use Rattle.store_model.specs.Seen.{CanClear, CanGiveUp, changing_to, gate_stores}
use Rattle.store_model.specs.Shown.{Placed, HomesFlushed}
use Rattle.store_model.specs.Untouched.{Untouched}
use Rattle.home_laws.proofs.ReleaseFacts.{block_quiet, settled_facts, can_clear, give_up_facts, give_up_done, release_clean_facts, release_clean_done}
use Rattle.home_laws.proofs.PlacedFacts.{release_placed}
use Rattle.home_laws.proofs.ShownLaws.{clear_placed}
use Rattle.home_laws.proofs.UntouchedLaws.{calls_untouched}
use Rattle.kept_laws.proofs.FlushedFacts.{quiet_flushed, clear_flushed}
use Rattle.tier_map.proofs.PlacementLaws.{changed-same, changed-other}
use Rattle.device_calls.specs.Leads.{Steps}
use Rattle.tier_facts.specs.Data.{Data, entry_of, or_home, home_of, released}
use Rattle.tier_facts.specs.Facts.{Aim, Held, Facts, IsWritten, InFrame, HoldsFrame, aim_sizes, keeping, log_in}
use Rattle.tier_facts.proofs.PlaceLaws.{IsPlaced, home_placed, frame_entry, entry_frame, log_now, home_now, home_fixed, homes_flushed, frame_flushed, block_settled, some_same}
use Rattle.tier_facts.proofs.InstallLaws.{none_some}

-- What a state behind such calls is like: the page has the words of its frame, its entry is cleared, and nothing else changed.
pub record Left (t : Data) (aim : Aim) (k page : ℕ) (s n : State) : Type 0 where
  pub done : StoreFacts (keeping t aim) n
  pub placed : Placed (aim_sizes aim) s n k 0 page (λ l w. (s.nvm (frame_line (aim_sizes aim) k l) w).newest)
  pub flushed : HomesFlushed (keeping t aim) n
  pub newest : (l w : ℕ) → l ≢ entry_line k → (n.nvm l w).newest ≡ (s.nvm l w).newest
  pub kept : (l w : ℕ) → l ≢ entry_line k → (s.nvm l w).kept ≡ 0 → (n.nvm l w).kept ≡ 0
  pub bytes : (b : ℕ) → b ≢ page_block (aim_sizes aim) page → (n.ssd b).bytes ≡ (s.ssd b).bytes
  pub settled : (b : ℕ) → b ≢ page_block (aim_sizes aim) page → IsTrue (s.ssd b).settled → IsTrue (n.ssd b).settled

module _ (t : Data) (aim : Aim) (s : State) (it : Facts t aim s) (k page : ℕ) (in_store : page < pages (aim_sizes aim)) (framed : t.frame page ≡ Some k) where
  abbrev u : Data
  u = released page k t

  owner_is : t.owner k ≡ Some page
  owner_is = it.owner page k framed

  low : k ≤ (aim_sizes aim).frames
  low = it.framed page k framed

  module _ (next : State) (left : Left t aim k page s next) where
    owned_now : (n p : ℕ) → u.owner n ≡ Some p → (n ≢ k) × (p ≢ page) × (t.owner n ≡ Some p)
    owned_now n p at = elim (cases_eq n k) [
      | inl same ↦ none_some (sym (changed-same k None t.owner n same) ∙ at)
      | inr other ↦ (let was : t.owner n ≡ Some p = sym (changed-other k None t.owner n other) ∙ at in
          (other, (λ same. other (some_same (sym (it.frame n p was) ∙ ap t.frame same ∙ framed))), was))
    ]

    framed_now : (p n : ℕ) → u.frame p ≡ Some n → (p ≢ page) × (n ≢ k) × (t.frame p ≡ Some n)
    framed_now p n at = elim (cases_eq p page) [
      | inl same ↦ none_some (sym (changed-same page None t.frame p same) ∙ at)
      | inr other ↦ (let was : t.frame p ≡ Some n = sym (changed-other page None t.frame p other) ∙ at in
          (other, (λ same. other (some_same (sym (it.owner p n was) ∙ ap t.owner same ∙ owner_is))), was))
    ]

    owner_of : (p n : ℕ) → u.frame p ≡ Some n → u.owner n ≡ Some p
    owner_of p n at = let was = framed_now p n at in changed-other k None t.owner n was.1 ∙ it.owner p n was.2

    frame_of_owner : (n p : ℕ) → u.owner n ≡ Some p → u.frame p ≡ Some n
    frame_of_owner n p at = let was = owned_now n p at in changed-other page None t.frame p was.1 ∙ it.frame n p was.2

    entries_now : (n : ℕ) → n ≤ (aim_sizes aim).frames → entry_at (current next) n ≡ entry_of (u.owner n)
    entries_now n h = elim (cases_eq n k) [
      | inl same ↦ ap (entry_at (current next)) same ∙ left.placed.here ∙ sym (ap entry_of (changed-same k None t.owner n same))
      | inr other ↦ left.placed.others n h other ∙ it.entries_same n h ∙ ap entry_of (sym (changed-other k None t.owner n other))
    ]

    framed_low : (p n : ℕ) → u.frame p ≡ Some n → n ≤ (aim_sizes aim).frames
    framed_low p n at = it.framed p n (framed_now p n at).2

    placed_next : IsPlaced (aim_sizes aim) u (current next)
    placed_next = record { sizes = ap (λ (x : Super). x.sizes) (left.placed.super_words ∙ it.super_words); entries = entries_now; framed = framed_low; owner = owner_of; frame = frame_of_owner }

    -- each home is as it was
    home_same : (p l w : ℕ) → IsWord (aim_sizes aim) p l w → home_of (aim_sizes aim) u (current next) p l w ≡ home_of (aim_sizes aim) t (current s) p l w
    home_same p l w word = sym (home_placed (aim_sizes aim) u (current next) placed_next p l w) ∙ elim (cases_eq p page) [
      | inr other ↦ left.placed.other_pages p l w other word ∙ home_now t aim s it p l w
      | inl same ↦ ap (λ q. home (current next) q l w) same ∙ left.placed.page_words l w (subst (λ q. IsWord (aim_sizes aim) q l w) same word)
          ∙ sym (ap (λ (f : Option ℕ). home_in (aim_sizes aim) (current s) f page l w) framed) ∙ ap (λ q. home_of (aim_sizes aim) t (current s) q l w) (sym same)
    ]

    unworn_now : (n p : ℕ) → u.owner n ≡ Some p → t.worn n ≡ false → IsWritten (aim_sizes aim) p n next
    unworn_now n p at not =
        let was = owned_now n p at in
        let before : IsWritten (aim_sizes aim) p n s = it.unworn n p was.2 not in
        let apart : page_block (aim_sizes aim) p ≢ page_block (aim_sizes aim) page = (λ e. was.1 (omega arith)) in
        record {
          settled = left.settled (page_block (aim_sizes aim) p) apart before.settled;
          words = λ l w hl hw. ap (λ bytes. block_word bytes l w) (left.bytes (page_block (aim_sizes aim) p) apart) ∙ before.words l w hl hw
              ∙ sym (left.newest (frame_line (aim_sizes aim) n l) w (λ e. let table : k ≤ (aim_sizes aim).frames = low in omega arith));
        }

    ring_apart : (o : ℕ) → ring_line (aim_sizes aim) o ≢ entry_line k
    ring_apart o at = let table : k ≤ (aim_sizes aim).frames = low in omega arith

    released_facts : Facts u aim next
    released_facts = record {
      super_words = left.placed.super_words ∙ it.super_words;
      log_same = left.placed.log ∙ it.log_same;
      sizes_same = it.sizes_same;
      facts = left.done;
      entries_same = entries_now;
      owned = λ n p at. it.owned n p (owned_now n p at).2;
      framed = framed_low;
      owner = owner_of;
      frame = frame_of_owner;
      words = λ p l w word. ap (or_home (t.copy p l) w) (home_same p l w word) ∙ it.words p l w word;
      loose = it.loose;
      recorded = it.recorded;
      clean = λ p l w x word at not. it.clean p l w x word at not ∙ sym (home_same p l w word);
      flushed = λ n p l w at hl hw. frame_flushed u (keeping t aim) next placed_next left.flushed n p l w at hl hw;
      settled = λ p hp at. block_settled u (keeping t aim) next placed_next left.flushed p hp at;
      unworn = unworn_now;
      waits = λ n w less hw. record {
        newest = left.newest (ring_line (aim_sizes aim) (aim.super.tail + n)) w (ring_apart (aim.super.tail + n)) ∙ (it.waits n w less hw).newest;
        kept = left.kept (ring_line (aim_sizes aim) (aim.super.tail + n)) w (ring_apart (aim.super.tail + n)) (it.waits n w less hw).kept;
      };
    }

  alone : (n : ℕ) → n ≤ (aim_sizes aim).frames → n ≢ k → entry_at (current s) n ≢ page + 1
  alone n h apart named = apart (some_same (sym (entry_frame t aim s it n page h named) ∙ framed))

  frame_word : (l w : ℕ) → home_of (aim_sizes aim) t (current s) page l w ≡ (s.nvm (frame_line (aim_sizes aim) k l) w).newest
  frame_word l w = ap (λ (f : Option ℕ). home_in (aim_sizes aim) (current s) f page l w) framed

  unlogged_now : (i : Image) → Leaves s i → (l w : ℕ) → is_logged (log_of aim.format i) page l w ≡ false → is_logged (log_in aim) page l w ≡ false
  unlogged_now i left l w unlogged = sym (ap (λ (x : Log). is_logged x page l w) (log_now t aim s it i left)) ∙ unlogged

  abbrev held : Aim → State → Type 0
  held = Held

  moment : (mid : State) → StoreFacts (changing_to (keeping t aim) (Gate.frame k) (page + 1) 0 (λ n. aim.kept)) mid → Held aim mid
  moment mid facts = record { keeps = changing_to (keeping t aim) (Gate.frame k) (page + 1) 0 (λ n. aim.kept); format_is = refl; sizes = refl; committed = refl; facts = facts }

  entry_kept : (x : State) → Untouched (gate_stores (Gate.frame k) 0) no_write x (after_all (entry_calls k 0) x)
  entry_kept x = calls_untouched (gate_stores (Gate.frame k) 0) no_write (entry_calls k 0) x ((refl, refl, refl), (tt, (tt, tt)))

  -- with a write
  module _ (bytes : List ℕ) (holds : (l w : ℕ) → l < 64 → w < 8 → block_word bytes l w ≡ (s.nvm (frame_line (aim_sizes aim) k l) w).newest) where
    can_give : CanGiveUp (keeping t aim) s k page bytes
    can_give = record {
      frame = low;
      named = frame_entry t aim s it k page framed;
      alone = alone;
      homes = λ i left l w word unlogged. holds l w word.line word.word ∙ sym (frame_word l w) ∙ sym (home_fixed t aim s it i left page l w word (unlogged_now i left l w unlogged));
    }

    abbrev written : State
    written = after_all (write_block (page_block (aim_sizes aim) page) bytes ∷ sync ∷ []) s

    write_kept : Untouched no_store (λ n. n ≡ page_block (aim_sizes aim) page) s written
    write_kept = calls_untouched no_store (λ n. n ≡ page_block (aim_sizes aim) page) (write_block (page_block (aim_sizes aim) page) bytes ∷ sync ∷ []) s (refl, (tt, tt))

    left_written : Left t aim k page s (after_all (release_calls (aim_sizes aim) k page bytes) s)
    left_written =
        let placed = release_placed (keeping t aim) s it.facts refl k page bytes can_give in
        let clear : CanClear (keeping t aim) written k page = can_clear (keeping t aim) s it.facts refl k page bytes can_give in
        let cleared = clear_placed (keeping t aim) written (settled_facts (keeping t aim) s it.facts refl k page bytes can_give) refl k page clear in
        record {
          done = give_up_done (keeping t aim) s it.facts refl k page bytes can_give;
          placed = record {
            super_words = placed.super_words;
            log = placed.log;
            here = placed.here;
            others = placed.others;
            page_words = λ l w word. placed.page_words l w word ∙ holds l w word.line word.word;
            other_pages = placed.other_pages;
          };
          flushed = clear_flushed (keeping t aim) written k page clear cleared.here cleared.others
              (quiet_flushed (keeping t aim) s it.facts no_store (λ n. n ≡ page_block (aim_sizes aim) page) (block_quiet (keeping t aim) s it.facts refl k page bytes can_give)
              (write_block (page_block (aim_sizes aim) page) bytes ∷ sync ∷ []) (refl, (tt, tt)) (homes_flushed t aim s it));
          newest = λ l w apart. (entry_kept written).newest l w (λ v st. apart st.0) ∙ write_kept.newest l w (λ v none. none);
          kept = λ l w apart was. (entry_kept written).flushed l w (λ v st. apart st.0) (write_kept.flushed l w (λ v none. none) was);
          bytes = λ b apart. (entry_kept written).bytes b (λ none. none) ∙ write_kept.bytes b apart;
          settled = λ b apart was. (entry_kept written).settled b (λ none. none) (write_kept.settled b apart was);
        }

    release_steps : Steps Held (Facts (released page k t)) (release_calls (aim_sizes aim) k page bytes) aim s
    release_steps = record {
      facts = released_facts (after_all (release_calls (aim_sizes aim) k page bytes) s) left_written;
      moments = λ mid amid. moment mid (give_up_facts (keeping t aim) s it.facts refl k page bytes can_give mid amid);
    }

  -- without one
  module _ (written : IsWritten (aim_sizes aim) page k s) where
    may_clear : CanClear (keeping t aim) s k page
    may_clear = record {
      frame = low;
      named = frame_entry t aim s it k page framed;
      alone = alone;
      settled = written.settled;
      homes = λ i left l w word unlogged. ap (λ bytes. block_word bytes l w) (left.blocks (page_block (aim_sizes aim) page) written.settled) ∙ written.words l w word.line word.word
          ∙ sym (frame_word l w) ∙ sym (home_fixed t aim s it i left page l w word (unlogged_now i left l w unlogged));
    }

    left_clean : Left t aim k page s (after_all (entry_calls k 0) s)
    left_clean =
        let placed = clear_placed (keeping t aim) s it.facts refl k page may_clear in
        record {
          done = release_clean_done (keeping t aim) s it.facts refl k page may_clear;
          placed = record {
            super_words = placed.super_words;
            log = placed.log;
            here = placed.here;
            others = placed.others;
            page_words = λ l w word. placed.page_words l w word ∙ written.words l w word.line word.word;
            other_pages = placed.other_pages;
          };
          flushed = clear_flushed (keeping t aim) s k page may_clear placed.here placed.others (homes_flushed t aim s it);
          newest = λ l w apart. (entry_kept s).newest l w (λ v st. apart st.0);
          kept = λ l w apart was. (entry_kept s).flushed l w (λ v st. apart st.0) was;
          bytes = λ b apart. (entry_kept s).bytes b (λ none. none);
          settled = λ b apart was. (entry_kept s).settled b (λ none. none) was;
        }

    clear_steps : Steps Held (Facts (released page k t)) (entry_calls k 0) aim s
    clear_steps = record {
      facts = released_facts (after_all (entry_calls k 0) s) left_clean;
      moments = λ mid amid. moment mid (release_clean_facts (keeping t aim) s it.facts refl k page may_clear mid amid);
    }

-- A page leaves its frame with a write of what the frame reads.
pub releases : (t : Data) (page k : ℕ) (bytes : List ℕ) → InFrame t page k
    → (aim : Aim) (s : State) → HoldsFrame t.sizes k s bytes → Facts t aim s → Steps Held (Facts (released page k t)) (release_calls t.sizes k page bytes) aim s
releases t page k bytes place aim s holds it =
    let same : t.sizes ≡ aim_sizes aim = it.sizes_same in
    subst (λ (g : Sizes). Steps Held (Facts (released page k t)) (release_calls g k page bytes) aim s) (sym same)
    (release_steps t aim s it k page (subst (λ (g : Sizes). page < pages g) same place.in_store) place.placed bytes
    (λ l w hl hw. holds.words l w hl hw ∙ ap (λ (g : Sizes). (s.nvm (frame_line g k l) w).newest) same))

-- A page leaves a frame that is not worn with no write.
pub releases_clean : (t : Data) (page k : ℕ) → InFrame t page k → t.worn k ≡ false
    → (aim : Aim) (s : State) → Facts t aim s → Steps Held (Facts (released page k t)) (entry_calls k 0) aim s
releases_clean t page k place not aim s it =
    clear_steps t aim s it k page (subst (λ (g : Sizes). page < pages g) it.sizes_same place.in_store) place.placed (it.unworn k page (it.owner page k place.placed) not)
