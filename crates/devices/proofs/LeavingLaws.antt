-- What choices leave of both devices is an image that a crash leaves.
use Rattle.std.proofs.Common.{◌≡◌, ◌⊎◌, inl, inr, ℕ, ◌<◌, ◌≤◌, List, [], ◌∷◌, length, take, zero, suc, refl, sym, ◌∙◌, ap, subst, arith}
use Rattle.std.specs.Prelude.{Bool, true, false, cond, not, nat_lt, ◌==◌, Option, Some, None, IsSome, IsTrue}
use Rattle.std.specs.List.{list_all}
use Rattle.std.specs.Map.{lookup}
use Rattle.std.specs.Option.{unwrap_or}
use Rattle.std.specs.Ordering.{nat_cmp}
use Rattle.std.specs.BTreeMap.{BTreeMap, get, is_at, Updates}
use Rattle.std.proofs.lemmas.Bool.{cases_eq, cases_lt, lt-ltb, ltb-true}
use Rattle.std.proofs.lemmas.Bool.Decides.{nat_tests}
use Rattle.nvm_model.specs.declared.line.Line.{Line}
use Rattle.nvm_model.specs.declared.line.Choice.{Choice}
use Rattle.nvm_model.specs.Word.{Word, IsVersion, single, marked, trimmed}
use Rattle.nvm_model.specs.Memory.{Memory}
use Rattle.nvm_model.specs.declared.state.NvmState.{NvmState}
use Rattle.nvm_model.specs.Contents.{memory_of}
use Rattle.nvm_model.specs.Choose.{image_of as chosen_lines}
use Rattle.nvm_model.proofs.ImageLaws.{image_version, length-image_of}
use Rattle.ssd_model.specs.declared.state.SsdState.{SsdState}
use Rattle.ssd_model.specs.declared.choice.BlockChoice.{BlockChoice}
use Rattle.ssd_model.specs.Choose.{chosen_bytes}
use Rattle.ssd_model.specs.Block.{Block, Disk, settled_block}
use Rattle.ssd_model.specs.Contents.{disk_of, synced_of, blocks_of}
use Rattle.ssd_model.specs.Page.{zero_page}
use Rattle.ssd_model.proofs.BlockLaws.{chosen_settled}
use Rattle.devices.specs.declared.images.Images.{Images}
use Rattle.devices.specs.declared.step.Step.{Step}
use Rattle.devices.specs.declared.step.Step.TheVariants.{StoreWord, StoreLine, Flush, Fence, WriteBlock, Sync, Send}
use Rattle.devices.specs.declared.step.Entry.{Entry}
use Rattle.devices.specs.State.{State, fresh}
use Rattle.devices.specs.Past.{image_of, made, replay, replay_from, page_in, word_in, zero_line, is_within}
use Rattle.devices.specs.Leaving.{IsLeftBy}
use Rattle.devices.specs.Replay.{state_of, word_at, are_within, spares, all_spare, fits, all_fit, left_of, PutsLeft, AreLeftOf}
use Rattle.devices.specs.Laws.{and_first, and_second}
use Rattle.devices.proofs.StartLaws.{apart}
use Rattle.devices.proofs.ReplayLaws.{word_beyond}
use Rattle.devices.proofs.StateLaws.{line_stored_other, word_stored_other}

-- One block more was put into a map.
module _ (ssd : SsdState) (choice : BlockChoice) where
  pub puts_refl : (map : BTreeMap ℕ (List ℕ)) → PutsLeft ssd choice map map
  puts_refl map = record { left = λ are. are; keeps = λ b some. some }

  pub puts_one : (old new : BTreeMap ℕ (List ℕ)) (k : ℕ) → k < blocks_of ssd → Updates nat_cmp old new k (Some (left_of ssd choice k)) → PutsLeft ssd choice old new
  puts_one old new k lt updates = record {
    left = λ are. record {
      each = λ b. elim (cases_eq b k) [
        | inl same ↦ inl (rw same (lt, updates.1))
        | inr other ↦ elim (are.each b) [
          | inl there ↦ inl (there.0, updates.2 b (apart k b other) ∙ there.1)
          | inr none ↦ inr (updates.2 b (apart k b other) ∙ none)
        ]
      ];
    };
    keeps = λ b some. elim (cases_eq b k) [
      | inl same ↦ rw same (subst (λ (o : Option (List ℕ)). IsSome o) (sym updates.1) refl)
      | inr other ↦ subst (λ (o : Option (List ℕ)). IsSome o) (sym (updates.2 b (apart k b other))) some
    ];
  }

  pub puts_then : (old mid new : BTreeMap ℕ (List ℕ)) → PutsLeft ssd choice old mid → PutsLeft ssd choice mid new → PutsLeft ssd choice old new
  puts_then old mid new first second = record { left = λ are. second.left (first.left are); keeps = λ b some. second.keeps b (first.keeps b some) }

  pub there_more : (old new : BTreeMap ℕ (List ℕ)) (left rest : List (ℕ × List ℕ)) (k : ℕ) (v : List ℕ) (q : ℕ) → left ≡ (k, v) ∷ rest → PutsLeft ssd choice old new → Updates nat_cmp old new k (Some (left_of ssd choice k))
      → IsSome (lookup (is_at (nat_cmp q)) left) ⊎ IsSome (get nat_cmp old q) → IsSome (lookup (is_at (nat_cmp q)) rest) ⊎ IsSome (get nat_cmp new q)
  there_more old new left rest k v q is puts updates (inr there) = inr (puts.keeps q there)
  there_more old new left rest k v q is puts updates (inl coming) = elim (cases_eq q k) [
    | inl same ↦ inr (rw same (subst (λ (o : Option (List ℕ)). IsSome o) (sym updates.1) refl))
    | inr other ↦ inl (subst (λ (b : Bool). IsSome (cond b (Some v) (lookup (is_at (nat_cmp q)) rest))) (apart q k (λ e. other (sym e))) (subst (λ (l : List (ℕ × List ℕ)). IsSome (lookup (is_at (nat_cmp q)) l)) is coming))
  ]

-- the first calls pass a test that all pass
pub all_take : (p : Entry → Bool) (entries : List Entry) (n : ℕ) → list_all p entries ≡ true → list_all p (take n entries) ≡ true
all_take p [] zero all = refl
all_take p [] (suc n) all = refl
all_take p (e ∷ entries) zero all = refl
all_take p (e ∷ entries) (suc n) all = rw (and_first (p e) (list_all p entries) all, all_take p entries n (and_second (p e) (list_all p entries) all)) refl

one_fits : (lines blocks : ℕ) (step : Step) → is_within lines blocks step ≡ true → fits blocks step ≡ true
one_fits lines blocks (StoreWord line word value) h = refl
one_fits lines blocks (StoreLine line value) h = refl
one_fits lines blocks (Flush line) h = refl
one_fits lines blocks Fence h = refl
one_fits lines blocks (WriteBlock block page) h = h
one_fits lines blocks Sync h = refl
one_fits lines blocks Send h = refl

pub fits_within : (lines blocks : ℕ) (entries : List Entry) → are_within lines blocks entries ≡ true → all_fit blocks entries ≡ true
fits_within lines blocks [] all = refl
fits_within lines blocks (e ∷ entries) all =
    rw (one_fits lines blocks e.step (and_first (is_within lines blocks e.step) (are_within lines blocks entries) all), fits_within lines blocks entries (and_second (is_within lines blocks e.step) (are_within lines blocks entries) all)) refl

-- A block that no call writes stays settled with its bytes.
written_apart : (block b : ℕ) (bytes : List ℕ) (d : Disk) → not (b == block) ≡ true → cond (b == block) (record { bytes = bytes; settled = false }) (d b) ≡ d b
written_apart block b bytes d test = either (b == block) test
  where
    either : (t : Bool) → not t ≡ true → cond t (record { bytes = bytes; settled = false }) (d b) ≡ d b
    either false h = refl
    either true h = cc

one_spared : (s : State) (b : ℕ) (bytes : List ℕ) (step : Step) → spares b step ≡ true → s.ssd b ≡ settled_block bytes → (made step s).ssd b ≡ settled_block bytes
one_spared s b bytes (StoreWord line word value) h is = is
one_spared s b bytes (StoreLine line value) h is = is
one_spared s b bytes (Flush line) h is = is
one_spared s b bytes Fence h is = is
one_spared s b bytes (WriteBlock block page) h is = written_apart block b page.value s.ssd h ∙ is
one_spared s b bytes Sync h is = ap (λ (x : Block). settled_block x.bytes) is
one_spared s b bytes Send h is = is

pub spared : (s : State) (b : ℕ) (bytes : List ℕ) (entries : List Entry) → all_spare b entries ≡ true → s.ssd b ≡ settled_block bytes → (replay_from s entries).ssd b ≡ settled_block bytes
spared s b bytes [] all is = is
spared s b bytes (e ∷ entries) all is =
    spared (made e.step s) b bytes entries (and_second (spares b e.step) (all_spare b entries) all) (one_spared s b bytes e.step (and_first (spares b e.step) (all_spare b entries) all) is)

-- A word off the lines stays 0, with one version.
both : (b : Bool) (x : Word) → cond b x x ≡ x
both true x = refl
both false x = refl

marked_zero : (b : Bool) (x : Word) → x ≡ single 0 → cond b (marked x) x ≡ single 0
marked_zero true x e = ap marked e
marked_zero false x e = e

stored_past : (line l w : ℕ) (x y : Word) → 8 ≤ w → cond (l == line) (cond (nat_lt w 8) x y) y ≡ y
stored_past line l w x y le = let test : nat_lt w 8 ≡ false = grind (arith, nat_tests, le) in ap (λ (b : Bool). cond (l == line) (cond b x y) y) test ∙ both (l == line) y

low : (line lines : ℕ) → nat_lt line lines ≡ true → line < lines
low line lines test = ltb-true line lines test

one_off : (lines blocks : ℕ) (s : State) (step : Step) (l w : ℕ) → (lines ≤ l) ⊎ (8 ≤ w) → is_within lines blocks step ≡ true → s.nvm l w ≡ single 0 → (made step s).nvm l w ≡ single 0
one_off lines blocks s (StoreWord line word value) l w (inl off) h is =
    let lt : line < lines = low line lines (and_first (nat_lt line lines) (nat_lt word 8) h) in
    word_stored_other line word value s l w (inl (omega (arith, lt, off))) ∙ is
one_off lines blocks s (StoreWord line word value) l w (inr off) h is =
    let lt : word < 8 = low word 8 (and_second (nat_lt line lines) (nat_lt word 8) h) in
    word_stored_other line word value s l w (inr (omega (arith, lt, off))) ∙ is
one_off lines blocks s (StoreLine line value) l w (inl off) h is =
    let lt : line < lines = low line lines h in
    line_stored_other line value s l w (omega (arith, lt, off)) ∙ is
one_off lines blocks s (StoreLine line value) l w (inr off) h is = stored_past line l w _ (s.nvm l w) off ∙ is
one_off lines blocks s (Flush line) l w off h is = marked_zero (l == line) (s.nvm l w) is
one_off lines blocks s Fence l w off h is = ap trimmed is
one_off lines blocks s (WriteBlock block page) l w off h is = is
one_off lines blocks s Sync l w off h is = is
one_off lines blocks s Send l w off h is = is

pub all_off : (lines blocks : ℕ) (s : State) (entries : List Entry) (l w : ℕ) → (lines ≤ l) ⊎ (8 ≤ w) → are_within lines blocks entries ≡ true → s.nvm l w ≡ single 0 → (replay_from s entries).nvm l w ≡ single 0
all_off lines blocks s [] l w off all is = is
all_off lines blocks s (e ∷ entries) l w off all is =
    all_off lines blocks (made e.step s) entries l w off (and_second (is_within lines blocks e.step) (are_within lines blocks entries) all) (one_off lines blocks s e.step l w off (and_first (is_within lines blocks e.step) (are_within lines blocks entries) all) is)

-- the words of devices at their start
pub start_off : (base : Images) (lines l w : ℕ) → length base.nvm.items ≤ lines → (lines ≤ l) ⊎ (8 ≤ w) → (fresh (image_of base)).nvm l w ≡ single 0
start_off base lines l w le (inl off) = ap single (word_beyond base.nvm.items l w (omega (arith, le, off)))
start_off base lines l w le (inr off) = let test : nat_lt w 8 ≡ false = grind (arith, nat_tests, off) in ap (λ (b : Bool). single (cond b (word_in base.nvm.items l w) 0)) test

-- each word has one of its versions
pub left_words : (memory : Memory) (choice : Choice) (lines : ℕ) (nvm : List Line) → nvm ≡ chosen_lines choice memory lines → ((l w : ℕ) → (lines ≤ l) ⊎ (8 ≤ w) → memory l w ≡ single 0) → (l w : ℕ) → IsVersion (memory l w) (word_at nvm l w)
left_words memory choice lines nvm is off l w = elim (cases_lt w 8) [
  | inr past ↦ let test : nat_lt w 8 ≡ false = grind (arith, nat_tests, past) in
      zero_version (memory l w) (word_at nvm l w) (off l w (inr past)) (ap (λ (b : Bool). cond b (word_in nvm l w) 0) test)
  | inl place ↦ elim (cases_lt l lines) [
    | inr past ↦ zero_version (memory l w) (word_at nvm l w) (off l w (inl past)) (word_beyond nvm l w (omega (arith, size, past)))
    | inl line ↦ subst (λ (v : ℕ). IsVersion (memory l w) v) (sym (ap (λ (b : Bool). cond b (word_in nvm l w) 0) (lt-ltb w 8 place) ∙ ap (λ (n : List Line). word_in n l w) is)) (image_version choice memory lines l w zero_line line place)
  ]
]
  where
    size : length nvm ≡ lines
    size = ap length is ∙ length-image_of choice memory lines

    zero_version : (x : Word) (v : ℕ) → x ≡ single 0 → v ≡ 0 → IsVersion x v
    zero_version x v e f = rw (e, f) (inl refl)

-- What is left of the blocks.
module _ (base : BTreeMap ℕ (List ℕ)) (entries : List Entry) (ssd : SsdState) (choice : BlockChoice) (map : BTreeMap ℕ (List ℕ)) (are : AreLeftOf base entries ssd choice map) (begun : State) (at_first : (b : ℕ) → begun.ssd b ≡ settled_block (page_in base b)) (disk : disk_of ssd ≡ (replay_from begun entries).ssd) where
  some_not_none : (o : Option (List ℕ)) → IsSome o → o ≡ None → ⊥
  some_not_none (Some x) some none = cc
  some_not_none None some none = absurd (none_is some)
    where
      none_is : false ≡ true → ⊥
      none_is e = cc

  not_some : (o : Option (List ℕ)) → (IsSome o → ⊥) → o ≡ None
  not_some None not_it = refl
  not_some (Some x) not_it = absurd (not_it refl)

  -- a block that is not in the map holds zeros, and is settled
  untouched : (b : ℕ) → get nat_cmp map b ≡ None → disk_of ssd b ≡ settled_block zero_page
  untouched b none =
      let not_there : IsSome (get nat_cmp map b) → ⊥ = λ some. some_not_none (get nat_cmp map b) some none in
      let first : get nat_cmp base b ≡ None = not_some (get nat_cmp base b) (λ some. not_there (are.at_first b some)) in
      let settled : begun.ssd b ≡ settled_block zero_page = at_first b ∙ ap (λ (o : Option (List ℕ)). settled_block (unwrap_or o zero_page)) first in
      elim (are.written b) [
        | inl spare ↦ ap (λ (d : Disk). d b) disk ∙ spared begun b zero_page entries spare settled
        | inr there ↦ absurd (not_there there)
      ]

  pub left_blocks : (b : ℕ) → IsTrue (disk_of ssd b).settled → page_in map b ≡ (disk_of ssd b).bytes
  left_blocks b settled = elim (are.left.each b) [
    | inl there ↦ ap (λ (o : Option (List ℕ)). unwrap_or o zero_page) there.1 ∙ chosen_settled choice b (disk_of ssd b) (synced_of ssd b) settled
    | inr none ↦ ap (λ (o : Option (List ℕ)). unwrap_or o zero_page) none ∙ sym (ap (λ (x : Block). x.bytes) (untouched b none))
  ]

  pub chosen_blocks : (b : ℕ) → page_in map b ≡ left_of ssd choice b
  chosen_blocks b = elim (are.left.each b) [
    | inl there ↦ ap (λ (o : Option (List ℕ)). unwrap_or o zero_page) there.1
    | inr none ↦ ap (λ (o : Option (List ℕ)). unwrap_or o zero_page) none ∙ sym (ap (λ (x : Block). chosen_bytes choice b x (synced_of ssd b)) (untouched b none))
  ]

  pub left_within : (b : ℕ) → IsSome (get nat_cmp map b) → b < blocks_of ssd
  left_within b some = elim (are.left.each b) [
    | inl there ↦ there.0
    | inr none ↦ absurd (some_not_none (get nat_cmp map b) some none)
  ]

pub is_left : (base : Images) (entries : List Entry) (lines blocks : ℕ) (nvm : NvmState) (ssd : SsdState) (nvm_choice : Choice) (ssd_choice : BlockChoice) (images : Images) → length base.nvm.items ≤ lines → are_within lines blocks entries ≡ true
    → state_of nvm ssd ≡ replay (image_of base) entries → (synced : ℕ → List ℕ) → synced_of ssd ≡ synced → blocks_of ssd ≡ blocks → images.nvm.items ≡ chosen_lines nvm_choice (memory_of nvm) lines → images.ssd_blocks ≡ blocks → AreLeftOf base.ssd entries ssd ssd_choice images.ssd
    → IsLeftBy (replay (image_of base) entries) synced lines blocks nvm_choice ssd_choice images
unfolding replay
is_left base entries lines blocks nvm ssd nvm_choice ssd_choice images base_size within is synced synced_is size chosen count are =
    subst (λ (s : State). IsLeftBy s synced lines blocks nvm_choice ssd_choice images) is (record {
      leaves = record {
        words = left_words (memory_of nvm) nvm_choice lines images.nvm.items chosen off;
        blocks = left_blocks base.ssd entries ssd ssd_choice images.ssd are (fresh (image_of base)) (λ b. refl) disk;
      };
      nvm = chosen;
      lines = ap length chosen ∙ length-image_of nvm_choice (memory_of nvm) lines;
      blocks = count;
      within = λ b some. subst (λ (n : ℕ). b < n) (size ∙ sym count) (left_within base.ssd entries ssd ssd_choice images.ssd are (fresh (image_of base)) (λ b. refl) disk b some);
      ssd = λ b. chosen_blocks base.ssd entries ssd ssd_choice images.ssd are (fresh (image_of base)) (λ b. refl) disk b ∙ ap (λ (x : ℕ → List ℕ). chosen_bytes ssd_choice b (disk_of ssd b) (x b)) synced_is;
    })
  where
    disk : disk_of ssd ≡ (replay_from (fresh (image_of base)) entries).ssd
    disk = ap (λ (s : State). s.ssd) is

    off : (l w : ℕ) → (lines ≤ l) ⊎ (8 ≤ w) → memory_of nvm l w ≡ single 0
    off l w where_off = ap (λ (s : State). s.nvm l w) is ∙ all_off lines blocks (fresh (image_of base)) entries l w where_off within (start_off base lines l w base_size where_off)
