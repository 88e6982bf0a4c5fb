-- By the facts recovery finds each page where the tiers have it, and each word that the log doesn't name as one reads it.
use Rattle.std.proofs.Common.{Bool, ◌||◌, true, false, ◌≡◌, ◌≢◌, ℕ, ◌+◌, ◌<◌, ◌≤◌, List, refl, sym, ap, ◌∙◌, subst, inl, inr, arith, IsTrue, Option, Some, None}
use Rattle.std.proofs.lemmas.Bool.{cases_Bool}
use Rattle.nvm_model.specs.declared.line.Line.{Line}
use Rattle.devices.specs.State.{State, Image, Leaves, current}
use Rattle.store_model.specs.Layout.{Sizes, pages, frame_line, page_block}
use Rattle.store_model.specs.Log.{Change, Log, no_log, grouped, is_logged, named_in}
use Rattle.store_model.specs.Format.{entries}
use Rattle.store_model.specs.Recovered.{Super, super_of, entry_at, frame_of, home, home_in, log_of}
use Rattle.store_model.specs.StoreFacts.{Bookkeeping, IsWord}
use Rattle.store_model.specs.Shown.{HomesFlushed}
use Rattle.store_model.specs.Put.{CanPut}
use Rattle.home_laws.proofs.FactsLaws.{facts_can_put_none, current_leaves}
use Rattle.home_laws.proofs.InstallLaws.{frame_of-here}
use Rattle.home_laws.proofs.ReleaseLaws.{frame_of-none}
use Rattle.home_laws.proofs.SeenLaws.{facts_log}
use Rattle.tier_facts.specs.Data.{Data, entry_of, or_home, home_of, current_in}
use Rattle.tier_facts.specs.Facts.{Aim, Held, Facts, IsHardened, aim_sizes, keeping, log_in, is_recorded}

pub entry_owner : (o : Option ℕ) (p : ℕ) → entry_of o ≡ p + 1 → o ≡ Some p
entry_owner None p e = absurd (omega arith)
entry_owner (Some q) p e = let same : q ≡ p = omega arith in ap (λ (n : ℕ). Some n) same

pub some_same : {m n : ℕ} → Some m ≡ Some n → m ≡ n
some_same e = cc

pub clash : {A : Type 0} {x : Bool} → x ≡ true → x ≡ false → A
clash e f = absurd (let no : ⊥ = cc in no)

-- where no record waits, what a record names the log names
pub hard_logged : (aim : Aim) → IsHardened aim → (p l w : ℕ) → is_recorded aim p l w ≡ true → is_logged (log_in aim) p l w ≡ true
hard_logged aim hard p l w recorded = first (is_logged (log_in aim) p l w) (ap (λ (cs : List Change). is_logged (log_in aim) p l w || named_in cs p l w) (sym hard.none) ∙ recorded)
  where
    first : (x : Bool) → (x || false) ≡ true → x ≡ true
    first true e = e
    first false e = e

-- The image's table names the pages of the frames, and both ways of the placement agree.
pub record IsPlaced (g : Sizes) (t : Data) (i : Image) : Type 0 where
  pub sizes : (super_of i).sizes ≡ g
  pub entries : (k : ℕ) → k ≤ g.frames → entry_at i k ≡ entry_of (t.owner k)
  pub framed : (p k : ℕ) → t.frame p ≡ Some k → k ≤ g.frames
  pub owner : (p k : ℕ) → t.frame p ≡ Some k → t.owner k ≡ Some p
  pub frame : (k p : ℕ) → t.owner k ≡ Some p → t.frame p ≡ Some k

-- so recovery finds each page where the tiers have it
module _ (g : Sizes) (t : Data) (i : Image) (it : IsPlaced g t i) where
  -- an entry that names a page is that of its frame
  pub entry_placed : (k p : ℕ) → k ≤ g.frames → entry_at i k ≡ p + 1 → t.frame p ≡ Some k
  entry_placed k p h named = it.frame k p (entry_owner (t.owner k) p (sym (it.entries k h) ∙ named))

  pub place_placed : (p : ℕ) → frame_of (entry_at i) (g.frames + 1) p ≡ t.frame p
  place_placed p = by (t.frame p) refl
    where
      never : (k : ℕ) → None ≡ Some k → ⊥
      never k at = cc

      by : (f : Option ℕ) → t.frame p ≡ f → frame_of (entry_at i) (g.frames + 1) p ≡ t.frame p
      by None at = frame_of-none (entry_at i) (g.frames + 1) p (λ k less is. never k (sym at ∙ entry_placed k p (omega arith) is)) ∙ sym at
      by (Some k) at =
          let low : k ≤ g.frames = it.framed p k at in
          frame_of-here (entry_at i) (g.frames + 1) k p (omega arith) (it.entries k low ∙ ap entry_of (it.owner p k at))
          (λ m less other is. other (some_same (sym (entry_placed m p (omega arith) is) ∙ at))) ∙ sym at

  pub home_placed : (p l w : ℕ) → home i p l w ≡ home_of g t i p l w
  home_placed p l w = ap (λ (x : Sizes). home_in x i (frame_of (entry_at i) (x.frames + 1) p) p l w) it.sizes
      ∙ ap (λ (f : Option ℕ). home_in g i f p l w) (place_placed p)

module _ (t : Data) (aim : Aim) (s : State) (it : Facts t aim s) where
  pub facts_held : Held aim s
  facts_held = record { keeps = keeping t aim; format_is = refl; sizes = refl; committed = refl; facts = it.facts }

  pub super_sizes : (super_of (current s)).sizes ≡ aim_sizes aim
  super_sizes = ap (λ (x : Super). x.sizes) it.super_words

  pub can : CanPut s 0
  can = facts_can_put_none (keeping t aim) s it.facts refl

  pub positive : 0 < (aim_sizes aim).log_blocks
  positive = subst (λ (g : Sizes). 0 < g.log_blocks) super_sizes can.ring

  -- the log is the same in each image
  pub log_now : (i : Image) → Leaves s i → log_of aim.format i ≡ log_in aim
  log_now i left = ap (λ (xs : List Line). grouped no_log (entries aim.format 0 xs)) (facts_log (keeping t aim) s it.facts refl i left ∙ it.log_same)

  pub entry_frame : (k p : ℕ) → k ≤ (aim_sizes aim).frames → entry_at (current s) k ≡ p + 1 → t.frame p ≡ Some k
  entry_frame k p h named = it.frame k p (entry_owner (t.owner k) p (sym (it.entries_same k h) ∙ named))

  pub frame_entry : (k p : ℕ) → t.frame p ≡ Some k → entry_at (current s) k ≡ p + 1
  frame_entry k p at = it.entries_same k (it.framed p k at) ∙ ap entry_of (it.owner p k at)

  pub placed_now : IsPlaced (aim_sizes aim) t (current s)
  placed_now = record { sizes = super_sizes; entries = it.entries_same; framed = it.framed; owner = it.owner; frame = it.frame }

  pub home_now : (p l w : ℕ) → home (current s) p l w ≡ home_of (aim_sizes aim) t (current s) p l w
  home_now p l w = home_placed (aim_sizes aim) t (current s) placed_now p l w

  -- outside of the log each image has the home that one reads
  pub home_fixed : (i : Image) → Leaves s i → (p l w : ℕ) → IsWord (aim_sizes aim) p l w → is_logged (log_in aim) p l w ≡ false
      → home i p l w ≡ home_of (aim_sizes aim) t (current s) p l w
  home_fixed i left p l w word unlogged = elim (cases_Bool (named_in aim.pending p l w)) [
    | inl named ↦ (it.facts.log i left).pending p l w word (not_in i left) named
        ∙ sym ((it.facts.log (current s) (current_leaves s)).pending p l w word (not_in (current s) (current_leaves s)) named) ∙ home_now p l w
    | inr not ↦ (it.facts.homes i left).current p l w word (neither i left not)
        ∙ sym ((it.facts.homes (current s) (current_leaves s)).current p l w word (neither (current s) (current_leaves s) not)) ∙ home_now p l w
  ]
    where
      not_in : (i : Image) → Leaves s i → is_logged (log_of aim.format i) p l w ≡ false
      not_in i left = ap (λ (x : Log). is_logged x p l w) (log_now i left) ∙ unlogged

      neither : (i : Image) → Leaves s i → named_in aim.pending p l w ≡ false → (is_logged (log_of aim.format i) p l w || named_in aim.pending p l w) ≡ false
      neither i left not = rw (not_in i left, not) refl

  -- a line that is not dirty is its home
  pub current_clean : (p l w : ℕ) → IsWord (aim_sizes aim) p l w → t.dirty p l ≡ false → current_in (aim_sizes aim) t (current s) p l w ≡ home_of (aim_sizes aim) t (current s) p l w
  current_clean p l w word not = by (t.copy p l) refl
    where
      by : (c : Option Line) → t.copy p l ≡ c → or_home c w (home_of (aim_sizes aim) t (current s) p l w) ≡ home_of (aim_sizes aim) t (current s) p l w
      by None e = refl
      by (Some x) e = it.clean p l w x word e not

  -- where no record waits a word that the log doesn't name is
  pub current_hard : IsHardened aim → (p l w : ℕ) → IsWord (aim_sizes aim) p l w → is_logged (log_in aim) p l w ≡ false
      → current_in (aim_sizes aim) t (current s) p l w ≡ home_of (aim_sizes aim) t (current s) p l w
  current_hard hard p l w word unlogged = elim (cases_Bool (t.dirty p l)) [
    | inl dirty ↦ clash (hard_logged aim hard p l w (it.recorded p l w word (it.loose p l word.page word.line dirty))) unlogged
    | inr not ↦ current_clean p l w word not
  ]

  -- each word of a dirty line is one that the log names then
  pub dirty_logged : IsHardened aim → (p l : ℕ) → aim.loose p l ≡ true → (w : ℕ) → IsWord (aim_sizes aim) p l w → is_logged (log_in aim) p l w ≡ true
  dirty_logged hard p l loose w word = hard_logged aim hard p l w (it.recorded p l w word loose)

  -- all homes are flushed or settled
  pub homes_flushed : HomesFlushed (keeping t aim) s
  homes_flushed = record {
    frames = λ k l w h named hl hw. of_owner k l w named hl hw h (t.owner k) refl;
    blocks = λ p hp none. of_frame p hp none (t.frame p) refl;
  }
    where
      of_owner : (k l w : ℕ) → entry_at (current s) k ≢ 0 → l < 64 → w < 8 → k ≤ (aim_sizes aim).frames → (o : Option ℕ) → t.owner k ≡ o → (s.nvm (frame_line (aim_sizes aim) k l) w).kept ≡ 0
      of_owner k l w named hl hw h None at = absurd (named (it.entries_same k h ∙ ap entry_of at))
      of_owner k l w named hl hw h (Some p) at = it.flushed k p l w at hl hw

      of_frame : (p : ℕ) → p < pages (aim_sizes aim) → ((k : ℕ) → k ≤ (aim_sizes aim).frames → entry_at (current s) k ≢ p + 1) → (f : Option ℕ) → t.frame p ≡ f → IsTrue (s.ssd (page_block (aim_sizes aim) p)).settled
      of_frame p hp none None at = it.settled p hp at
      of_frame p hp none (Some k) at = absurd (none k (it.framed p k at) (frame_entry k p at))

-- and back: of a table that names the pages of the frames
module _ (t : Data) (b : Bookkeeping) (s : State) (placed : IsPlaced b.sizes t (current s)) (flushed : HomesFlushed b s) where
  pub frame_flushed : (k p l w : ℕ) → t.owner k ≡ Some p → l < 64 → w < 8 → (s.nvm (frame_line b.sizes k l) w).kept ≡ 0
  frame_flushed k p l w at hl hw =
      let low : k ≤ b.sizes.frames = placed.framed p k (placed.frame k p at) in
      flushed.frames k l w low (λ none. let named : entry_at (current s) k ≡ p + 1 = placed.entries k low ∙ ap entry_of at in omega arith) hl hw

  pub block_settled : (p : ℕ) → p < pages b.sizes → t.frame p ≡ None → IsTrue (s.ssd (page_block b.sizes p)).settled
  block_settled p hp at = flushed.blocks p hp (λ k h named. never k (sym at ∙ entry_placed b.sizes t (current s) placed k p h named))
    where
      never : (k : ℕ) → None ≡ Some k → ⊥
      never k e = cc
