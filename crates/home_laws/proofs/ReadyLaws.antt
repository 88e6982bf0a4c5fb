-- What a step asks of every image follows from what loads give: a home that the log doesn't name is the same in each image,
-- and so is what is written.
use Rattle.std.proofs.Common.{◌≡◌, ◌≢◌, ℕ, ◌+◌, ◌<◌, ◌≤◌, true, false, List, length, get_or, refl, sym, ap, ◌∙◌, subst, inl, inr, arith, IsTrue, Option, Some, None}
use Rattle.std.proofs.lemmas.Bool.{cases_Bool}
use Rattle.nvm_model.specs.declared.line.Line.{Line}
use Rattle.devices.specs.State.{State, Image, Leaves, current}
use Rattle.store_model.specs.Layout.{Sizes, pages, frame_line, page_block}
use Rattle.store_model.specs.Log.{no_log, grouped, is_logged, named_in}
use Rattle.store_model.specs.Format.{entries, word_in, zero_line}
use Rattle.store_model.specs.Recovered.{Super, super_of, entry_at, frame_of, home_in, home, log_of, block_word}
use Rattle.store_model.specs.StoreFacts.{Bookkeeping, IsWord, is_written, StoreFacts}
use Rattle.store_model.specs.Install.{CanInstall, CanStore}
use Rattle.store_model.specs.Seen.{CanClear, CanGiveUp}
use Rattle.store_model.specs.Copies.{CanWriteCopy}
use Rattle.home_laws.proofs.InstallLaws.{frame_of-here}
use Rattle.home_laws.proofs.ReleaseLaws.{frame_of-none}
use Rattle.home_laws.proofs.FactsLaws.{current_leaves, facts_can_put_none}
use Rattle.home_laws.proofs.SeenLaws.{facts_super, facts_log, facts_written, facts_alone}

module _ (b : Bookkeeping) (s : State) (facts : StoreFacts b s) (still : b.changing ≡ None) where
  pub logged_now : (i : Image) → Leaves s i → (p l w : ℕ) → is_logged (log_of b.format i) p l w ≡ is_logged (log_of b.format (current s)) p l w
  logged_now i left p l w = ap (λ (lines : List Line). is_logged (grouped no_log (entries b.format 0 lines)) p l w) (facts_log b s facts still i left)

  -- what the log doesn't name has the home that loads give, in each image
  pub home_now : (i : Image) → Leaves s i → (p l w : ℕ) → IsWord b.sizes p l w → is_logged (log_of b.format i) p l w ≡ false → home i p l w ≡ home (current s) p l w
  home_now i left p l w word h =
      let now : is_logged (log_of b.format (current s)) p l w ≡ false = sym (logged_now i left p l w) ∙ h in
      elim (cases_Bool (named_in b.pending p l w)) [
        | inl pending ↦ (facts.log i left).pending p l w word h pending ∙ ap (λ (x : Super). b.committed x.tail p l w) (facts_super b s facts still i left)
            ∙ sym ((facts.log (current s) (current_leaves s)).pending p l w word now pending)
        | inr neither ↦ (facts.homes i left).current p l w word (rw (h, neither) refl) ∙ sym ((facts.homes (current s) (current_leaves s)).current p l w word (rw (now, neither) refl))
      ]

  same_sizes : (super_of (current s)).sizes ≡ b.sizes
  same_sizes = facts.sizes (current s) (current_leaves s)

  pub install_ready : (k page : ℕ) (lines : List Line) → page < pages b.sizes → k ≤ b.sizes.frames → entry_at (current s) k ≡ 0
      → ((n : ℕ) → n ≤ b.sizes.frames → entry_at (current s) n ≢ page + 1) → length lines ≡ 64
      → ((l w : ℕ) → IsWord b.sizes page l w → is_logged (log_of b.format (current s)) page l w ≡ false → word_in (get_or lines l zero_line) w ≡ home (current s) page l w)
      → CanInstall b.format s k page lines
  install_ready k page lines in_store framed empty unnamed whole homes = record {
    can = facts_can_put_none b s facts still;
    in_store = subst (λ (g : Sizes). page < pages g) (sym same_sizes) in_store;
    frame = subst (λ (g : Sizes). k ≤ g.frames) (sym same_sizes) framed;
    empty = empty;
    unnamed = λ n h. unnamed n (subst (λ (g : Sizes). n ≤ g.frames) same_sizes h);
    whole = whole;
    homes = λ i left l w hl hw h. let word : IsWord b.sizes page l w = record { page = in_store; line = hl; word = hw } in
        homes l w word (sym (logged_now i left page l w) ∙ h) ∙ sym (home_now i left page l w word h);
  }

  pub give_up_ready : (k page : ℕ) (bytes : List ℕ) → k ≤ b.sizes.frames → entry_at (current s) k ≡ page + 1
      → ((l w : ℕ) → IsWord b.sizes page l w → is_logged (log_of b.format (current s)) page l w ≡ false → block_word bytes l w ≡ home (current s) page l w) → CanGiveUp b s k page bytes
  give_up_ready k page bytes framed named homes = record {
    frame = framed;
    named = named;
    alone = facts_alone b s facts k page framed named;
    homes = λ i left l w word h. homes l w word (sym (logged_now i left page l w) ∙ h) ∙ sym (home_now i left page l w word h);
  }

  pub clear_ready : (k page : ℕ) → k ≤ b.sizes.frames → entry_at (current s) k ≡ page + 1 → IsTrue (s.ssd (page_block b.sizes page)).settled
      → ((l w : ℕ) → IsWord b.sizes page l w → is_logged (log_of b.format (current s)) page l w ≡ false → block_word (s.ssd (page_block b.sizes page)).bytes l w ≡ home (current s) page l w) → CanClear b s k page
  clear_ready k page framed named settled homes = record {
    frame = framed;
    named = named;
    alone = facts_alone b s facts k page framed named;
    settled = settled;
    homes = λ i left l w word h. ap (λ xs. block_word xs l w) (left.blocks (page_block b.sizes page) settled) ∙ homes l w word (sym (logged_now i left page l w) ∙ h) ∙ sym (home_now i left page l w word h);
  }

  pub store_ready : (k page l : ℕ) (line : Line) → page < pages b.sizes → k ≤ b.sizes.frames → l < 64 → entry_at (current s) k ≡ page + 1
      → ((w : ℕ) → IsWord b.sizes page l w → is_logged (log_of b.format (current s)) page l w ≡ false → word_in line w ≡ home (current s) page l w) → CanStore b.format s k page l line
  store_ready k page l line in_store framed in_page named homes = record {
    can = facts_can_put_none b s facts still;
    frame = subst (λ (g : Sizes). k ≤ g.frames) (sym same_sizes) framed;
    in_page = in_page;
    named = named;
    words = λ i left w hw h. let word : IsWord b.sizes page l w = record { page = in_store; line = in_page; word = hw } in
        homes w word (sym (logged_now i left page l w) ∙ h) ∙ sym (home_now i left page l w word h);
  }

  pub copy_ready : (page line : ℕ) (old new : Line) → b.copy page line ≡ Some old → ((w : ℕ) → IsWord b.sizes page line w → word_in new w ≢ word_in old w → is_written b (current s) page line w ≡ true)
      → CanWriteCopy b s page line old new
  copy_ready page line old new resident words = record { resident = resident; words = λ i left w word differs. facts_written b s facts still i left page line w ∙ words w word differs }

-- a page that a frame has is the frame's words, and any other its home block
pub home_framed : (b : Bookkeeping) (s : State) → StoreFacts b s → (k p l w : ℕ) → k ≤ b.sizes.frames → entry_at (current s) k ≡ p + 1 → home (current s) p l w ≡ (current s).nvm (frame_line b.sizes k l) w
home_framed b s facts k p l w framed named =
    ap (λ (g : Sizes). home_in g (current s) (frame_of (entry_at (current s)) (g.frames + 1) p) p l w) (facts.sizes (current s) (current_leaves s))
    ∙ ap (λ (f : Option ℕ). home_in b.sizes (current s) f p l w)
    (frame_of-here (entry_at (current s)) (b.sizes.frames + 1) k p (omega arith) named (λ m less apart. facts_alone b s facts k p framed named m (omega arith) apart))

pub home_unframed : (b : Bookkeeping) (s : State) → StoreFacts b s → (p l w : ℕ) → ((n : ℕ) → n ≤ b.sizes.frames → entry_at (current s) n ≢ p + 1) → home (current s) p l w ≡ block_word (s.ssd (page_block b.sizes p)).bytes l w
home_unframed b s facts p l w unnamed =
    ap (λ (g : Sizes). home_in g (current s) (frame_of (entry_at (current s)) (g.frames + 1) p) p l w) (facts.sizes (current s) (current_leaves s))
    ∙ ap (λ (f : Option ℕ). home_in b.sizes (current s) f p l w) (frame_of-none (entry_at (current s)) (b.sizes.frames + 1) p (λ m less. unnamed m (omega arith)))
