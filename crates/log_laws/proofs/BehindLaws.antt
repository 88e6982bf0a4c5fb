-- Lines are stored and flushed behind those that stand behind the tail: the facts stay at each moment, and then they all
-- stand there.
use Rattle.std.proofs.Common.{◌≡◌, ℕ, ◌+◌, ◌-◌, ◌<◌, ◌≤◌, List, [], ◌∷◌, ◌++◌, length, length-append, get_or, refl, sym, ap, ◌∙◌, subst, arith, None}
use Rattle.nvm_model.specs.declared.line.Line.{Line}
use Rattle.devices.specs.State.{State, current, after_all, Amid}
use Rattle.devices.specs.Growth.{Grows, AreWithin, no_write}
use Rattle.store_model.specs.Layout.{Sizes, ring_line, ring_lines, frame_line}
use Rattle.store_model.specs.Format.{log_check, word_in, zero_line}
use Rattle.store_model.specs.Recovered.{Super, super_of}
use Rattle.store_model.specs.StoreFacts.{Bookkeeping, StoreFacts}
use Rattle.store_model.specs.Put.{put_calls, IsLine, IsFlushed, CanPut}
use Rattle.store_model.specs.Pending.{IsBehind, StandsFlushed}
use Rattle.log_laws.proofs.HardenLaws.{append_stands}
use Rattle.store_model.specs.Checked.{SuperPasses}
use Rattle.store_model.specs.Seen.{IsQuiet}
use Rattle.devices.proofs.GrowthLaws.{Amid-grows, Amid_end}
use Rattle.home_laws.proofs.LayoutLaws.{ring_apart}
use Rattle.home_laws.proofs.PutLaws.{put_stores}
use Rattle.home_laws.proofs.CheckLaws.{store_passes, allowed_ring, log_check-append}
use Rattle.home_laws.proofs.FactsLaws.{current_leaves, facts_can_put}
use Rattle.home_laws.proofs.QuietLaws.{quiet_facts, quiet_super}

-- the calls store in their own lines alone
pub lines_within : (g : Sizes) (t n u : ℕ) (ys : List Line) → t ≤ u → u + length ys ≤ t + n → AreWithin (put_stores g t n) no_write (put_calls g u ys)
lines_within g t n u [] low high = tt
lines_within g t n u (y ∷ ys) low high = ((λ w less. (u, low, omega arith, refl)), (tt, lines_within g t n (u + 1) ys (omega arith) (omega arith)))

-- lines that stand behind the tail of a store, for the layer that knows the log alone
pub behind_flushed : (b : Bookkeeping) (s : State) → StoreFacts b s → b.changing ≡ None → (xs : List Line) → IsBehind b s xs → StandsFlushed s xs
behind_flushed b s facts still xs behind =
    let sup : Super = super_of (current s) in
    let same_sizes : sup.sizes ≡ b.sizes = facts.sizes (current s) (current_leaves s) in
    record {
      can = facts_can_put b s (length xs) facts still (subst (λ (g : Sizes). sup.tail + length xs ≤ sup.drained + ring_lines g) (sym same_sizes) behind.room);
      flushed = λ k w less hw. subst (λ (g : Sizes). IsFlushed (s.nvm (ring_line g (sup.tail + k)) w) (word_in (get_or xs k zero_line) w)) (sym same_sizes) (behind.flushed k w less hw);
      are_lines = behind.are_lines;
    }

module _ (b : Bookkeeping) (s : State) (facts : StoreFacts b s) (still : b.changing ≡ None) (xs : List Line) (behind : IsBehind b s xs) (ys : List Line)
    (room : (super_of (current s)).tail + length xs + length ys ≤ (super_of (current s)).drained + ring_lines b.sizes)
    (are_lines : (k : ℕ) → k < length ys → IsLine (get_or ys k zero_line)) (passes : (at : ℕ) → log_check b.format b.sizes at 0 ys ≡ None) where
  abbrev sup : Super
  sup = super_of (current s)

  same_sizes : sup.sizes ≡ b.sizes
  same_sizes = facts.sizes (current s) (current_leaves s)

  super_passes : SuperPasses sup
  super_passes = store_passes b.format (current s) (facts.stores (current s) (current_leaves s))

  ring : 0 < b.sizes.log_blocks
  ring = subst (λ (g : Sizes). 0 < g.log_blocks) same_sizes (allowed_ring sup.sizes super_passes.sizes)

  abbrev stores : ℕ → ℕ → ℕ → Type 0
  stores = put_stores b.sizes (sup.tail + length xs) (length ys)

  -- lines behind the tail are quiet
  behind_quiet : IsQuiet s stores no_write
  behind_quiet = subst (λ (g : Sizes). IsQuiet s (put_stores g (sup.tail + length xs) (length ys)) no_write) same_sizes (record {
    low = λ l w v below free. let positive : 0 < sup.sizes.log_blocks = allowed_ring sup.sizes super_passes.sizes in let at : l ≡ ring_line sup.sizes free.0 = free.3 in omega arith;
    log = λ o w v above over below free.
        let started : sup.start ≤ sup.tail = super_passes.started in
        let fits : sup.tail + length xs + length ys ≤ sup.drained + ring_lines sup.sizes = subst (λ (g : Sizes). sup.tail + length xs + length ys ≤ sup.drained + ring_lines g) (sym same_sizes) room in
        let drained_below : sup.drained ≤ sup.tail = super_passes.drained in
        let clash : o ≡ free.0 = ring_apart sup.sizes sup.drained o free.0 over (omega arith) (omega arith) (omega arith) free.3 in omega arith;
    frames = λ k l w v h hl named free. let positive : 0 < sup.sizes.log_blocks = allowed_ring sup.sizes super_passes.sizes in let at : frame_line sup.sizes k l ≡ ring_line sup.sizes free.0 = free.3 in omega arith;
    ring = λ o above under none. none;
    blocks = λ p h none. none;
  })

  pub behind_grows : (mid : State) → Amid s (put_calls b.sizes (sup.tail + length xs) ys) mid → Grows stores no_write s mid
  behind_grows mid amid = Amid-grows stores no_write (put_calls b.sizes (sup.tail + length xs) ys) s mid
      (lines_within b.sizes (sup.tail + length xs) (length ys) (sup.tail + length xs) ys (omega arith) (omega arith)) amid

  abbrev pub put_state : State
  put_state = after_all (put_calls b.sizes (sup.tail + length xs) ys) s

  pub put_grows : Grows stores no_write s put_state
  put_grows = behind_grows put_state (Amid_end (put_calls b.sizes (sup.tail + length xs) ys) s)

  pub put_quiet : IsQuiet s stores no_write
  put_quiet = behind_quiet

  pub put_super : super_of (current put_state) ≡ sup
  put_super = quiet_super b s facts still stores no_write behind_quiet put_state put_grows

  -- The facts stay at each moment.
  pub behind_facts : (mid : State) → Amid s (put_calls b.sizes (sup.tail + length xs) ys) mid → StoreFacts b mid
  behind_facts mid amid = quiet_facts b s facts still stores no_write behind_quiet mid (behind_grows mid amid)

  pub behind_done : StoreFacts b put_state
  behind_done = quiet_facts b s facts still stores no_write behind_quiet put_state put_grows

  -- Then all the lines stand behind the tail.
  pub behind_stands : IsBehind b put_state (xs ++ ys)
  behind_stands = record {
    room = subst (λ (x : Super). x.tail + length (xs ++ ys) ≤ x.drained + ring_lines b.sizes) (sym put_super) (let long : length (xs ++ ys) ≡ length xs + length ys = length-append xs ys in omega arith);
    flushed = λ k w less hw. subst (λ (g : Sizes). IsFlushed (put_state.nvm (ring_line g ((super_of (current put_state)).tail + k)) w) (word_in (get_or (xs ++ ys) k zero_line) w))
        (ap (λ (x : Super). x.sizes) put_super ∙ same_sizes)
        ((subst (λ (g : Sizes). StandsFlushed (after_all (put_calls g (sup.tail + length xs) ys) s) (xs ++ ys)) same_sizes (append_stands s xs stands ys all are_lines)).flushed k w less hw);
    are_lines = (append_stands s xs stands ys all are_lines).are_lines;
    passes = λ at. log_check-append b.format b.sizes at 0 xs ys (omega arith) (behind.passes at) passes;
  }
    where
      stands : StandsFlushed s xs
      stands = behind_flushed b s facts still xs behind

      all : CanPut s (length (xs ++ ys))
      all = facts_can_put b s (length (xs ++ ys)) facts still (subst (λ (g : Sizes). sup.tail + length (xs ++ ys) ≤ sup.drained + ring_lines g) (sym same_sizes)
          (let long : length (xs ++ ys) ≡ length xs + length ys = length-append xs ys in omega arith))

-- nothing stands behind the tail of a store
pub none_behind : (b : Bookkeeping) (s : State) → StoreFacts b s → IsBehind b s []
none_behind b s facts = record {
  room = (let passes : SuperPasses (super_of (current s)) = store_passes b.format (current s) (facts.stores (current s) (current_leaves s)) in
      let in_ring : (super_of (current s)).tail - (super_of (current s)).drained ≤ ring_lines b.sizes =
      subst (λ (g : Sizes). (super_of (current s)).tail - (super_of (current s)).drained ≤ ring_lines g) (facts.sizes (current s) (current_leaves s)) passes.in_ring in omega arith);
  flushed = λ k w less hw. absurd (omega arith);
  are_lines = λ k less. absurd (omega arith);
  passes = λ at. refl;
}
