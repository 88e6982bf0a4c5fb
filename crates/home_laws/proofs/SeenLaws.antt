-- The facts by their images: what one image has of the facts, and what an image has that shows what another one shows.
use Rattle.std.proofs.Common.{◌≡◌, ◌≢◌, ◌⊎◌, ℕ, ◌+◌, ◌-◌, ◌<◌, ◌≤◌, false, ◌||◌, List, refl, sym, ap, ◌∙◌, subst, inl, inr, arith, Option, Some, None}
use Rattle.std.proofs.lemmas.Bool.{cases_eq, cases_order, or_parts}
use Rattle.devices.specs.State.{State, Image, Leaves, current}
use Rattle.nvm_model.specs.Word.{IsVersion, IsSingle}
use Rattle.store_model.specs.Layout.{Sizes, pages, ring_start, entry_line, entry_word}
use Rattle.nvm_model.specs.declared.line.Line.{Line}
use Rattle.store_model.specs.Log.{Words, Log, no_log, grouped, is_logged, named_in}
use Rattle.store_model.specs.Format.{Format, entries}
use Rattle.store_model.specs.Recovered.{Super, super_of, entry_at, log_lines, log_of, replay}
use Rattle.store_model.specs.InOrder.{IsNamed}
use Rattle.store_model.specs.InOrder.IsNamed.{magic_word, tables, rows, writes, frames, log_blocks, start, drained, tail}
use Rattle.store_model.specs.StoreFacts.{Gate, IsGate, gate_line, gate_word, Changing, Bookkeeping, is_written, GatesAreOne, StoreFacts}
use Rattle.store_model.specs.Seen.{ImageFacts, Mirrors, changing_to}
use Rattle.store_model.specs.Checked.{TablePasses}
use Rattle.home_laws.proofs.CheckLaws.{checks_none}
use Rattle.home_laws.proofs.TableLaws.{table_passes}
use Rattle.nvm_model.proofs.WordLaws.{single_version}
use Rattle.home_laws.proofs.PutLaws.{super_same, lines_by}
use Rattle.home_laws.proofs.LayoutLaws.{entry_apart}
use Rattle.home_laws.proofs.RecoveredLaws.{from-same}
use Rattle.home_laws.proofs.FreshLaws.{log_line-durable}
use Rattle.home_laws.proofs.FactsLaws.{some_same, current_leaves}

-- the facts are those of the gates, and those of each image
pub image_facts : (b : Bookkeeping) (s : State) → StoreFacts b s → (i : Image) → Leaves s i → ImageFacts b s i
image_facts b s facts i leaves = record {
  sizes = facts.sizes i leaves;
  durable = facts.durable i leaves;
  homes = facts.homes i leaves;
  log = facts.log i leaves;
  copies = facts.copies i leaves;
  store = facts.stores i leaves;
}

pub facts_by_images : (b : Bookkeeping) (s : State) → GatesAreOne b s → ((i : Image) → Leaves s i → ImageFacts b s i) → StoreFacts b s
facts_by_images b s gates images = record {
  gates = gates;
  sizes = λ i leaves. (images i leaves).sizes;
  durable = λ i leaves. (images i leaves).durable;
  homes = λ i leaves. (images i leaves).homes;
  log = λ i leaves. (images i leaves).log;
  copies = λ i leaves. (images i leaves).copies;
  stores = λ i leaves. (images i leaves).store;
}

pub mirror_log : {format : Format} {g : Sizes} {s : State} {i j : Image} → Mirrors format g s i j → log_of format i ≡ log_of format j
mirror_log {format = format} mirrors = ap (λ (lines : List Line). grouped no_log (entries format 0 lines)) mirrors.log

-- An image that shows what another one shows has its facts, whatever gate is being changed.
pub mirror_facts : (b : Bookkeeping) (changing : Option Changing) (committed : ℕ → Words) (s t : State) (i j : Image) → ImageFacts b s j → Mirrors b.format b.sizes t i j
    → ((p l w : ℕ) → b.committed (super_of j).tail p l w ≡ committed (super_of j).tail p l w)
    → ImageFacts (record b { changing = changing; committed = committed }) t i
mirror_facts b changing committed s t i j old mirrors same =
    let log : log_of b.format i ≡ log_of b.format j = mirror_log mirrors in
    let logged : (p l w : ℕ) → is_logged (log_of b.format i) p l w ≡ is_logged (log_of b.format j) p l w = (λ p l w. ap (λ (x : Log). is_logged x p l w) log) in
    let written : (p l w : ℕ) → is_written (record b { changing = changing; committed = committed }) i p l w ≡ is_written b j p l w = (λ p l w. ap (λ (x : Log). is_logged x p l w || named_in b.pending p l w) log) in
    let unlogged : (p l w : ℕ) → is_written b j p l w ≡ false → is_logged (log_of b.format j) p l w ≡ false =
    (λ p l w h. (or_parts (is_logged (log_of b.format j) p l w) (named_in b.pending p l w) h).0) in
    let tails : (p l w : ℕ) → b.committed (super_of j).tail p l w ≡ committed (super_of i).tail p l w = (λ p l w. same p l w ∙ ap (λ n. committed n p l w) (sym mirrors.tail)) in
    record {
      sizes = mirrors.sizes ∙ old.sizes;
      durable = record {
        log = mirrors.lines;
        homes = λ p l w word h. mirrors.stands p l w word (sym (logged p l w) ∙ h);
      };
      homes = record {
        current = λ p l w word h. let h' : is_written b j p l w ≡ false = sym (written p l w) ∙ h in
            mirrors.homes p l w word (unlogged p l w h') ∙ (old.homes).current p l w word h';
        committed = λ p l w word h. let h' : is_written b j p l w ≡ false = sym (written p l w) ∙ h in
            mirrors.homes p l w word (unlogged p l w h') ∙ (old.homes).committed p l w word h' ∙ tails p l w;
      };
      log = record {
        logged = λ p l w word h homes. ap (λ (x : Log). replay b.format x homes p l w) log
            ∙ (old.log).logged p l w word (sym (logged p l w) ∙ h) homes ∙ tails p l w;
        pending = λ p l w word h named. let h' : is_logged (log_of b.format j) p l w ≡ false = sym (logged p l w) ∙ h in
            mirrors.homes p l w word h' ∙ (old.log).pending p l w word h' named ∙ tails p l w;
      };
      copies = λ p l w line word copy h. let h' : is_written b j p l w ≡ false = sym (written p l w) ∙ h in
          old.copies p l w line word copy h' ∙ sym (mirrors.homes p l w word (unlogged p l w h'));
      store = mirrors.store old.store;
    }

-- an image shows what it shows itself
pub mirrors_itself : (b : Bookkeeping) (s : State) (i : Image) → ImageFacts b s i → Mirrors b.format b.sizes s i i
mirrors_itself b s i facts = record {
  sizes = refl;
  tail = refl;
  log = refl;
  store = λ store. store;
  homes = λ p l w word h. refl;
  lines = (facts.durable).log;
  stands = λ p l w word h. (facts.durable).homes p l w word h;
}

pub image_changing : (b : Bookkeeping) (changing : Option Changing) (committed : ℕ → Words) (s : State) (i : Image) → ImageFacts b s i
    → ((p l w : ℕ) → b.committed (super_of i).tail p l w ≡ committed (super_of i).tail p l w) → ImageFacts (record b { changing = changing; committed = committed }) s i
image_changing b changing committed s i facts same = mirror_facts b changing committed s s i i facts (mirrors_itself b s i facts) same

pub no_change : (change : Changing) → None ≡ Some change → ⊥
no_change change e = cc

-- where no gate is being changed each has one version
pub gates_single : (b : Bookkeeping) (s : State) → StoreFacts b s → b.changing ≡ None → (gate : Gate) → IsGate b.sizes gate → IsSingle (s.nvm (gate_line gate) (gate_word gate))
gates_single b s facts still gate in_store = facts.gates.others gate in_store (λ change at e. no_change change (sym still ∙ at))

pub names_single : (b : Bookkeeping) (s : State) → StoreFacts b s → b.changing ≡ None → (l w : ℕ) → IsNamed l w → IsSingle (s.nvm l w)
names_single b s facts still l w magic_word = gates_single b s facts still Gate.magic tt
names_single b s facts still l w tables = facts.gates.sizes 1 (omega arith) (omega arith)
names_single b s facts still l w rows = facts.gates.sizes 2 (omega arith) (omega arith)
names_single b s facts still l w writes = facts.gates.sizes 3 (omega arith) (omega arith)
names_single b s facts still l w frames = facts.gates.sizes 4 (omega arith) (omega arith)
names_single b s facts still l w log_blocks = facts.gates.sizes 5 (omega arith) (omega arith)
names_single b s facts still l w start = gates_single b s facts still Gate.start tt
names_single b s facts still l w drained = gates_single b s facts still Gate.drained tt
names_single b s facts still l w tail = gates_single b s facts still Gate.tail tt

-- so each image has the superblock and the entries that loads give
pub facts_super : (b : Bookkeeping) (s : State) → StoreFacts b s → b.changing ≡ None → (i : Image) → Leaves s i → super_of i ≡ super_of (current s)
facts_super b s facts still i leaves = super_same i (current s) (λ l w named. single_version (s.nvm l w) (i.nvm l w) (names_single b s facts still l w named) (leaves.words l w))

pub facts_entry : (b : Bookkeeping) (s : State) → StoreFacts b s → b.changing ≡ None → (i : Image) → Leaves s i → (k : ℕ) → k ≤ b.sizes.frames → entry_at i k ≡ entry_at (current s) k
facts_entry b s facts still i leaves k h =
    single_version (s.nvm (entry_line k) (entry_word k)) (entry_at i k) (gates_single b s facts still (Gate.frame k) h) (leaves.words (entry_line k) (entry_word k))

-- the log is the same in each image
pub facts_log : (b : Bookkeeping) (s : State) → StoreFacts b s → b.changing ≡ None → (i : Image) → Leaves s i → log_lines i ≡ log_lines (current s)
facts_log b s facts still i left =
    ap (λ (x : Super). lines_by x i) (facts_super b s facts still i left)
    ∙ from-same _ _ (super_of (current s)).start ((super_of (current s)).tail - (super_of (current s)).start)
    (λ o above below. log_line-durable (super_of (current s)) s i o left ((facts.durable (current s) (current_leaves s)).log o above (omega arith)))

pub facts_written : (b : Bookkeeping) (s : State) → StoreFacts b s → b.changing ≡ None → (i : Image) → Leaves s i → (p l w : ℕ) → is_written b i p l w ≡ is_written b (current s) p l w
facts_written b s facts still i left p l w = ap (λ (lines : List Line). is_logged (grouped no_log (entries b.format 0 lines)) p l w || named_in b.pending p l w) (facts_log b s facts still i left)

-- no page has two frames
pub facts_alone : (b : Bookkeeping) (s : State) → StoreFacts b s → (k page : ℕ) → k ≤ b.sizes.frames → entry_at (current s) k ≡ page + 1
    → (n : ℕ) → n ≤ b.sizes.frames → n ≢ k → entry_at (current s) n ≢ page + 1
facts_alone b s facts k page hk at n hn apart named =
    let sized : (super_of (current s)).sizes ≡ b.sizes = facts.sizes (current s) (current_leaves s) in
    let passes : TablePasses (pages b.sizes) (b.sizes.frames + 1) (entry_at (current s)) =
    subst (λ (g : Sizes). TablePasses (pages g) (g.frames + 1) (entry_at (current s))) sized
    (table_passes (pages (super_of (current s)).sizes) ((super_of (current s)).sizes.frames + 1) (entry_at (current s)) (checks_none b.format (current s) ((facts.stores (current s) (current_leaves s))).checks).1) in
    elim (cases_order n k) [
      | inl same ↦ apart same
      | inr (inl below) ↦ passes.once n k below (omega arith) (λ none. omega arith) (named ∙ sym at)
      | inr (inr above) ↦ passes.once k n above (omega arith) (λ none. omega arith) (at ∙ sym named)
    ]

-- A gate that has its old value alone may be about to change.
pub facts_changing : (b : Bookkeeping) (s : State) → StoreFacts b s → b.changing ≡ None → (gate : Gate) → IsGate b.sizes gate → (old new : ℕ) → (s.nvm (gate_line gate) (gate_word gate)).newest ≡ old
    → (committed : ℕ → Words) → ((p l w : ℕ) → b.committed (super_of (current s)).tail p l w ≡ committed (super_of (current s)).tail p l w)
    → StoreFacts (changing_to b gate old new committed) s
facts_changing b s facts still gate in_store old new is_old committed same = facts_by_images (changing_to b gate old new committed) s
    (record {
      sizes = facts.gates.sizes;
      others = λ a a_in_store other. gates_single b s facts still a a_in_store;
      changing = λ change at change_in_store v h.
          subst (λ (c : Changing). IsVersion (s.nvm (gate_line c.gate) (gate_word c.gate)) v → (v ≡ c.old) ⊎ (v ≡ c.new)) (some_same _ _ at)
          (λ version. inl (single_version (s.nvm (gate_line gate) (gate_word gate)) v (gates_single b s facts still gate in_store) version ∙ is_old)) h;
    })
    (λ i left. image_changing b _ committed s i (image_facts b s facts i left) (λ p l w.
    subst (λ (x : Super). b.committed x.tail p l w ≡ committed x.tail p l w) (sym (facts_super b s facts still i left)) (same p l w)))

-- the place of a gate is its own
pub gate_same : (a c : Gate) → gate_line a ≡ gate_line c → gate_word a ≡ gate_word c → a ≡ c
gate_same Gate.magic Gate.magic line word = refl
gate_same Gate.start Gate.start line word = refl
gate_same Gate.drained Gate.drained line word = refl
gate_same Gate.tail Gate.tail line word = refl
gate_same (Gate.frame j) (Gate.frame k) line word = ap Gate.frame (entry_apart j k line word)
gate_same Gate.magic Gate.start line word = absurd (omega arith)
gate_same Gate.magic Gate.drained line word = absurd (omega arith)
gate_same Gate.magic Gate.tail line word = absurd (omega arith)
gate_same Gate.magic (Gate.frame k) line word = absurd (omega arith)
gate_same Gate.start Gate.magic line word = absurd (omega arith)
gate_same Gate.start Gate.drained line word = absurd (omega arith)
gate_same Gate.start Gate.tail line word = absurd (omega arith)
gate_same Gate.start (Gate.frame k) line word = absurd (omega arith)
gate_same Gate.drained Gate.magic line word = absurd (omega arith)
gate_same Gate.drained Gate.start line word = absurd (omega arith)
gate_same Gate.drained Gate.tail line word = absurd (omega arith)
gate_same Gate.drained (Gate.frame k) line word = absurd (omega arith)
gate_same Gate.tail Gate.magic line word = absurd (omega arith)
gate_same Gate.tail Gate.start line word = absurd (omega arith)
gate_same Gate.tail Gate.drained line word = absurd (omega arith)
gate_same Gate.tail (Gate.frame k) line word = absurd (omega arith)
gate_same (Gate.frame k) Gate.magic line word = absurd (omega arith)
gate_same (Gate.frame k) Gate.start line word = absurd (omega arith)
gate_same (Gate.frame k) Gate.drained line word = absurd (omega arith)
gate_same (Gate.frame k) Gate.tail line word = absurd (omega arith)

pub gate_apart : (a c : Gate) → a ≢ c → (gate_line a ≢ gate_line c) ⊎ (gate_word a ≢ gate_word c)
gate_apart a c other = elim (cases_eq (gate_line a) (gate_line c)) [
  | inr line ↦ inl line
  | inl line ↦ inr (λ word. other (gate_same a c line word))
]

-- it lies below the log ring, and apart from the words of the sizes
pub gate_low : (g : Sizes) (gate : Gate) → IsGate g gate → gate_line gate < ring_start g
gate_low g Gate.magic in_store = omega arith
gate_low g Gate.start in_store = omega arith
gate_low g Gate.drained in_store = omega arith
gate_low g Gate.tail in_store = omega arith
gate_low g (Gate.frame k) in_store = omega arith

pub gate_no_size : (gate : Gate) (w : ℕ) → 0 < w → (0 ≢ gate_line gate) ⊎ (w ≢ gate_word gate)
gate_no_size Gate.magic w high = inr (λ e. omega arith)
gate_no_size Gate.start w high = inl (λ e. omega arith)
gate_no_size Gate.drained w high = inl (λ e. omega arith)
gate_no_size Gate.tail w high = inl (λ e. omega arith)
gate_no_size (Gate.frame k) w high = inl (λ e. omega arith)
