-- A page is given up by its frame: the facts hold at each moment, and when it is done.
use Rattle.std.proofs.Common.{◌≡◌, ℕ, ◌+◌, ◌<◌, ◌≤◌, false, List, [], ◌∷◌, refl, sym, ap, ◌∙◌, subst, inl, inr, arith, eqb, None}
use Rattle.std.proofs.lemmas.Bool.{eq-eqb, cond-true}
use Rattle.ssd_model.specs.Block.{Block}
use Rattle.devices.specs.State.{State, Image, Leaves, current, after_all, Amid}
use Rattle.devices.specs.State.Call.{write_block, sync}
use Rattle.devices.specs.Growth.{Grows, no_store}
use Rattle.store_model.specs.Layout.{Sizes, ring_block, page_block}
use Rattle.store_model.specs.Log.{Log, is_logged}
use Rattle.store_model.specs.Recovered.{super_of, entry_at, log_of, block_word}
use Rattle.store_model.specs.StoreFacts.{Gate, Bookkeeping, StoreFacts}
use Rattle.store_model.specs.Install.{entry_calls, release_calls, CanRelease}
use Rattle.store_model.specs.Seen.{Mirrors, IsQuiet, CanClear, CanGiveUp, changing_to}
use Rattle.devices.proofs.GrowthLaws.{Amid-grows, Amid_append, Amid_end}
use Rattle.home_laws.proofs.LayoutLaws.{home_apart}
use Rattle.home_laws.proofs.FactsLaws.{current_leaves}
use Rattle.home_laws.proofs.SeenLaws.{facts_changing, mirror_log}
use Rattle.home_laws.proofs.QuietLaws.{quiet_facts, quiet_image, quiet_entry}
use Rattle.home_laws.proofs.EntryLaws.{clear_facts, clear_done}

module _ (b : Bookkeeping) (s : State) (facts : StoreFacts b s) (still : b.changing ≡ None) (k page : ℕ) (bytes : List ℕ) (can : CanGiveUp b s k page bytes) where
  abbrev pub block : ℕ
  block = page_block b.sizes page

  same_sizes : (super_of (current s)).sizes ≡ b.sizes
  same_sizes = facts.sizes (current s) (current_leaves s)

  -- the home block of a page that has a frame is quiet
  pub block_quiet : IsQuiet s no_store (λ n. n ≡ block)
  block_quiet = record {
    low = λ l w v below none. none;
    log = λ o w v above over below none. none;
    frames = λ n l w v h hl named none. none;
    ring = λ o above under same. (let low : ring_block (super_of (current s)).sizes o < page_block b.sizes page =
        subst (λ (g : Sizes). ring_block (super_of (current s)).sizes o < page_block g page) same_sizes (home_apart (super_of (current s)).sizes o page) in omega arith);
    blocks = λ p h same. h k (subst (λ (g : Sizes). k ≤ g.frames) (sym same_sizes) can.frame)
        (can.named ∙ ap (λ n. n + 1) (same_page p (subst (λ (g : Sizes). page_block g p ≡ page_block b.sizes page) same_sizes same)));
  }
    where
      same_page : (p : ℕ) → page_block b.sizes p ≡ page_block b.sizes page → page ≡ p
      same_page p e = omega arith

  abbrev pub settled : State
  settled = after_all (write_block block bytes ∷ sync ∷ []) s

  write_grows : (mid : State) → Amid s (write_block block bytes ∷ sync ∷ []) mid → Grows no_store (λ n. n ≡ block) s mid
  write_grows mid amid = Amid-grows no_store (λ n. n ≡ block) (write_block block bytes ∷ sync ∷ []) s mid (refl, (tt, tt)) amid

  pub settled_grows : Grows no_store (λ n. n ≡ block) s settled
  settled_grows = write_grows settled (Amid_end (write_block block bytes ∷ sync ∷ []) s)

  pub settled_facts : StoreFacts b settled
  settled_facts = quiet_facts b s facts still no_store (λ n. n ≡ block) block_quiet settled settled_grows

  -- when the block is settled the frame can lose the entry
  pub can_clear : CanClear b settled k page
  can_clear = record {
    frame = can.frame;
    named = entry_now k can.frame ∙ can.named;
    alone = λ n h apart named. can.alone n h apart (sym (entry_now n h) ∙ named);
    settled = refl;
    homes = λ i left l w word unlogged.
        let seen : (j : Image) × Leaves s j × Mirrors b.format b.sizes settled i j = quiet_image b s facts still no_store (λ n. n ≡ block) block_quiet settled settled_grows i left in
        let unlogged' : is_logged (log_of b.format seen.0) page l w ≡ false = sym (ap (λ (x : Log). is_logged x page l w) (mirror_log seen.2)) ∙ unlogged in
        let written : i.ssd block ≡ bytes = left.blocks block refl ∙ ap (λ (x : Block). x.bytes) (cond-true (eqb block block) _ (s.ssd block) (eq-eqb block block refl)) in
        ap (λ xs. block_word xs l w) written ∙ can.homes seen.0 seen.1 l w word unlogged' ∙ sym ((seen.2).homes page l w word unlogged');
  }
    where
      entry_now : (n : ℕ) → n ≤ b.sizes.frames → entry_at (current settled) n ≡ entry_at (current s) n
      entry_now = quiet_entry b s facts still no_store (λ n. n ≡ block) block_quiet settled settled_grows

  -- At each moment the facts hold while a page is given up, with its frame's entry being changed.
  pub give_up_facts : (mid : State) → Amid s (release_calls b.sizes k page bytes) mid → StoreFacts (changing_to b (Gate.frame k) (page + 1) 0 b.committed) mid
  give_up_facts mid amid = elim (Amid_append (write_block block bytes ∷ sync ∷ []) (entry_calls k 0) s mid amid) [
    | inl first ↦ facts_changing b mid (quiet_facts b s facts still no_store (λ n. n ≡ block) block_quiet mid (write_grows mid first)) still (Gate.frame k) can.frame (page + 1) 0
        (quiet_entry b s facts still no_store (λ n. n ≡ block) block_quiet mid (write_grows mid first) k can.frame ∙ can.named) b.committed (λ p l w. refl)
    | inr second ↦ clear_facts b settled settled_facts still k page can_clear mid second
  ]

  pub give_up_done : StoreFacts b (after_all (release_calls b.sizes k page bytes) s)
  give_up_done = clear_done b settled settled_facts still k page can_clear

pub can_give_up : (b : Bookkeeping) (s : State) → StoreFacts b s → (k page : ℕ) (bytes : List ℕ) → CanRelease b.format s k page bytes → CanGiveUp b s k page bytes
can_give_up b s facts k page bytes can =
    let same_sizes : (super_of (current s)).sizes ≡ b.sizes = facts.sizes (current s) (current_leaves s) in
    record {
      frame = subst (λ (g : Sizes). k ≤ g.frames) same_sizes can.frame;
      named = can.named;
      alone = λ n h apart. can.alone n (subst (λ (g : Sizes). n ≤ g.frames) (sym same_sizes) h) apart;
      homes = λ i left l w word unlogged. can.homes i left l w word.line word.word unlogged;
    }

-- At each moment of a release with a write the facts hold, with the frame's entry being changed.
pub release_facts : (b : Bookkeeping) (s : State) → StoreFacts b s → b.changing ≡ None → (k page : ℕ) (bytes : List ℕ) → CanRelease b.format s k page bytes
    → (mid : State) → Amid s (release_calls b.sizes k page bytes) mid → StoreFacts (changing_to b (Gate.frame k) (page + 1) 0 b.committed) mid
release_facts b s facts still k page bytes can = give_up_facts b s facts still k page bytes (can_give_up b s facts k page bytes can)

-- When it is done they hold with no gate being changed.
pub release_done : (b : Bookkeeping) (s : State) → StoreFacts b s → b.changing ≡ None → (k page : ℕ) (bytes : List ℕ) → CanRelease b.format s k page bytes
    → StoreFacts b (after_all (release_calls b.sizes k page bytes) s)
release_done b s facts still k page bytes can = give_up_done b s facts still k page bytes (can_give_up b s facts k page bytes can)

-- The same of a release without a write, where the home block is settled and its bytes are the home outside of what the
-- log names.
pub release_clean_facts : (b : Bookkeeping) (s : State) → StoreFacts b s → b.changing ≡ None → (k page : ℕ) → CanClear b s k page
    → (mid : State) → Amid s (entry_calls k 0) mid → StoreFacts (changing_to b (Gate.frame k) (page + 1) 0 b.committed) mid
release_clean_facts b s facts still k page can = clear_facts b s facts still k page can

pub release_clean_done : (b : Bookkeeping) (s : State) → StoreFacts b s → b.changing ≡ None → (k page : ℕ) → CanClear b s k page → StoreFacts b (after_all (entry_calls k 0) s)
release_clean_done b s facts still k page can = clear_done b s facts still k page can
