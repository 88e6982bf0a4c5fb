-- What lines behind the tail, a harden, an end and a new start make of the groups of every image.
use Rattle.std.proofs.Common.{◌≡◌, ◌⊎◌, ℕ, ◌+◌, ◌-◌, ◌<◌, ◌≤◌, List, [], ◌∷◌, ◌++◌, length, length-append, get_or, refl, sym, ap, ◌∙◌, subst, inl, inr, arith}
use Rattle.nvm_model.specs.declared.line.Line.{Line}
use Rattle.nvm_model.specs.Word.{single, marked, trimmed}
use Rattle.devices.specs.State.{State, Image, Leaves, current, word_stored, after_all, Amid}
use Rattle.devices.specs.Growth.{Grows, Reaches, no_write}
use Rattle.devices.proofs.StateLaws.{flushed_same, word_stored_same}
use Rattle.devices.proofs.GrowthLaws.{Amid-grows, Amid_append, Amid_end, Grows-leaves, after_all_append}
use Rattle.store_model.specs.Layout.{ring_lines}
use Rattle.store_model.specs.Log.{Log as Groups, Entry, grouped, extended, no_log}
use Rattle.store_model.specs.Format.{Format, IsWhole, entries, zero_line}
use Rattle.store_model.specs.Recovered.{Super, super_of, log_line, log_lines, log_of, from}
use Rattle.store_model.specs.StoreFacts.{Gate}
use Rattle.store_model.specs.View.{Alike, Extends}
use Rattle.store_model.specs.Put.{put_calls, IsLine, CanPut}
use Rattle.store_model.specs.Pending.{harden_calls, end_calls, StandsFlushed}
use Rattle.store_model.specs.Seen.{gate_calls, gate_stores, Moved}
use Rattle.home_laws.proofs.FactsLaws.{current_leaves}
use Rattle.home_laws.proofs.FreshLaws.{log_line-durable}
use Rattle.home_laws.proofs.GateLaws.{moved_current}
use Rattle.home_laws.proofs.LogLaws.{grouped-append}
use Rattle.home_laws.proofs.PutLaws.{durable_super, without, without_leaves, without_same, single_at}
use Rattle.home_laws.proofs.RecoveredLaws.{from-same, entries-append}
use Rattle.log_laws.proofs.AppendLaws.{extended_log}
use Rattle.log_laws.proofs.HardenLaws.{append_unseen, append_stands, appended_super, harden_images, harden_ended}
use Rattle.log_laws.proofs.StartLaws.{from_none, moved_start}
use Rattle.nvm_log.specs.Groups.{HasGroups, HasEither}

-- every image of a durable log has its lines
pub lines_durable : (s : State) (n : ℕ) → CanPut s n → (j : Image) → Leaves s j → log_lines j ≡ log_lines (current s)
lines_durable s n can j left =
    ap (λ (x : Super). from (log_line x.sizes x.drained j) x.start (x.tail - x.start)) (durable_super s n can j left)
    ∙ from-same _ _ _ _ (λ o above below. log_line-durable (super_of (current s)) s j o left (can.log o above (omega arith)))

pub log_durable : (format : Format) (s : State) (n : ℕ) → CanPut s n → (j : Image) → Leaves s j → log_of format j ≡ log_of format (current s)
log_durable format s n can j left = ap (λ (xs : List Line). grouped no_log (entries format 0 xs)) (lines_durable s n can j left)

-- Lines stand flushed behind the tail, and no entry of the log is cut short.
module _ (format : Format) (s : State) (xs : List Line) (stands : StandsFlushed s xs) where
  abbrev pub before : Groups
  before = log_of format (current s)

  -- the groups with the entries of the lines last
  abbrev pub with_lines : Groups
  with_lines = grouped before (entries format 0 xs)

  alike_log : (i j : Image) → Leaves s j → Alike i j → log_of format i ≡ before
  alike_log i j left alike = ap (λ (zs : List Line). grouped no_log (entries format 0 zs)) (alike.log ∙ lines_durable s (length xs) stands.can j left)

  -- A harden.
  module _ (whole : IsWhole format 0 (log_lines (current s))) where
    extends_log : (i j : Image) → Leaves s j → Extends i j xs → log_of format i ≡ with_lines
    extends_log i j left extends =
        extended_log format i j xs extends (subst (λ (zs : List Line). IsWhole format 0 zs) (sym (lines_durable s (length xs) stands.can j left)) whole)
        ∙ ap (λ (x : Groups). grouped x (entries format 0 xs)) (log_durable format s (length xs) stands.can j left)

    pub harden_groups : (mid : State) → Amid s (harden_calls ((super_of (current s)).tail + length xs)) mid → HasEither format before with_lines mid
    harden_groups mid amid i leaves =
        let found : (j : Image) × Leaves s j × (Alike i j ⊎ Extends i j xs) = harden_images s xs stands mid amid i leaves in
        elim found.2 [
          | inl alike ↦ inl (alike_log i found.0 found.1 alike)
          | inr extends ↦ inr (extends_log i found.0 found.1 extends)
        ]

    pub harden_groups_done : HasGroups format with_lines (after_all (harden_calls ((super_of (current s)).tail + length xs)) s)
    harden_groups_done i leaves =
        let found : (j : Image) × Leaves s j × Extends i j xs = harden_ended s xs stands i leaves in extends_log i found.0 found.1 found.2

  -- what loads give of the superblock then
  pub harden_super : super_of (current (after_all (harden_calls ((super_of (current s)).tail + length xs)) s)) ≡ record (super_of (current s)) { tail = (super_of (current s)).tail + length xs }
  harden_super =
      let done : State = after_all (harden_calls ((super_of (current s)).tail + length xs)) s in
      let found : (j : Image) × Leaves s j × Extends (current done) j xs = harden_ended s xs stands (current done) (current_leaves done) in
      (found.2).super_words ∙ ap (λ (x : Super). record x { tail = x.tail + length xs }) (durable_super s (length xs) stands.can found.0 found.1)

-- More lines are stored behind those.
module _ (format : Format) (s : State) (xs : List Line) (stands : StandsFlushed s xs) (ys : List Line)
    (room : (super_of (current s)).tail + length xs + length ys ≤ (super_of (current s)).drained + ring_lines (super_of (current s)).sizes)
    (are_lines : (k : ℕ) → k < length ys → IsLine (get_or ys k zero_line)) where
  abbrev sup : Super
  sup = super_of (current s)

  all : CanPut s (length (xs ++ ys))
  all = record {
    superblock = stands.can.superblock;
    entries = stands.can.entries;
    log = stands.can.log;
    ring = stands.can.ring;
    started = stands.can.started;
    drained = stands.can.drained;
    room = (let long : length (xs ++ ys) ≡ length xs + length ys = length-append xs ys in omega arith);
  }

  abbrev pub with_more : State
  with_more = after_all (put_calls sup.sizes (sup.tail + length xs) ys) s

  pub append_groups : (mid : State) → Amid s (put_calls sup.sizes (sup.tail + length xs) ys) mid → HasGroups format (log_of format (current s)) mid
  append_groups mid amid i leaves =
      let found : (j : Image) × Leaves s j × Alike i j = append_unseen s xs stands ys all are_lines mid amid i leaves in alike_log format s xs stands i found.0 found.1 found.2

  pub more_stands : StandsFlushed with_more (xs ++ ys)
  more_stands = append_stands s xs stands ys all are_lines

  pub more_super : super_of (current with_more) ≡ sup
  more_super = appended_super s xs stands ys all are_lines

  pub more_lines : log_lines (current with_more) ≡ log_lines (current s)
  more_lines =
      let found : (j : Image) × Leaves s j × Alike (current with_more) j =
      append_unseen s xs stands ys all are_lines with_more (Amid_end (put_calls sup.sizes (sup.tail + length xs) ys) s) (current with_more) (current_leaves with_more) in
      (found.2).log ∙ lines_durable s (length xs) stands.can found.0 found.1

  same_tail : (super_of (current with_more)).tail + length (xs ++ ys) ≡ sup.tail + length xs + length ys
  same_tail =
      let long : length (xs ++ ys) ≡ length xs + length ys = length-append xs ys in
      let same : (super_of (current with_more)).tail ≡ sup.tail = ap (λ (x : Super). x.tail) more_super in omega arith

  -- An end: all of them are hardened.
  pub end_super : super_of (current (after_all (end_calls sup.sizes (sup.tail + length xs) ys) s)) ≡ record sup { tail = sup.tail + length xs + length ys }
  end_super =
      ap (λ (t : State). super_of (current t)) (after_all_append (put_calls sup.sizes (sup.tail + length xs) ys) (harden_calls (sup.tail + length xs + length ys)) s)
      ∙ subst (λ n. super_of (current (after_all (harden_calls n) with_more)) ≡ record (super_of (current with_more)) { tail = n }) same_tail (harden_super format with_more (xs ++ ys) more_stands)
      ∙ ap (λ (x : Super). record x { tail = sup.tail + length xs + length ys }) more_super

  module _ (whole : IsWhole format 0 (log_lines (current s))) (whole_behind : IsWhole format 0 xs) (e : Entry) (is : entries format 0 ys ≡ e ∷ []) where
    abbrev pub with_end : Groups
    with_end = extended (grouped (log_of format (current s)) (entries format 0 xs)) e

    whole_more : IsWhole format 0 (log_lines (current with_more))
    whole_more = subst (λ (zs : List Line). IsWhole format 0 zs) (sym more_lines) whole

    same_before : log_of format (current with_more) ≡ log_of format (current s)
    same_before = ap (λ (zs : List Line). grouped no_log (entries format 0 zs)) more_lines

    same_after : grouped (log_of format (current with_more)) (entries format 0 (xs ++ ys)) ≡ with_end
    same_after =
        ap (λ (x : Groups). grouped x (entries format 0 (xs ++ ys))) same_before
        ∙ ap (grouped (log_of format (current s))) (entries-append format 0 xs ys whole_behind)
        ∙ grouped-append (log_of format (current s)) (entries format 0 xs) (entries format 0 ys)
        ∙ ap (grouped (grouped (log_of format (current s)) (entries format 0 xs))) is

    pub end_groups : (mid : State) → Amid s (end_calls sup.sizes (sup.tail + length xs) ys) mid → HasEither format (log_of format (current s)) with_end mid
    end_groups mid amid i leaves = elim (Amid_append (put_calls sup.sizes (sup.tail + length xs) ys) (harden_calls (sup.tail + length xs + length ys)) s mid amid) [
      | inl first ↦ inl (append_groups mid first i leaves)
      | inr second ↦
          (elim (harden_groups format with_more (xs ++ ys) more_stands whole_more mid (subst (λ n. Amid with_more (harden_calls n) mid) (sym same_tail) second) i leaves) [
            | inl old ↦ inl (old ∙ same_before)
            | inr new ↦ inr (new ∙ same_after)
          ])
    ]

    pub end_groups_done : HasGroups format with_end (after_all (end_calls sup.sizes (sup.tail + length xs) ys) s)
    end_groups_done i leaves =
        harden_groups_done format with_more (xs ++ ys) more_stands whole_more i
        (subst (λ n. Leaves (after_all (harden_calls n) with_more) i) (sym same_tail)
        (subst (λ (t : State). Leaves t i) (after_all_append (put_calls sup.sizes (sup.tail + length xs) ys) (harden_calls (sup.tail + length xs + length ys)) s) leaves))
        ∙ same_after

-- A new start: each image has the old log, or an empty one.
module _ (format : Format) (s : State) (can : CanPut s 0) where
  abbrev sup₁ : Super
  sup₁ = super_of (current s)

  abbrev stores : ℕ → ℕ → ℕ → Type 0
  stores = gate_stores Gate.start sup₁.tail

  start_reaches : (mid : State) → Amid s (gate_calls Gate.start sup₁.tail) mid → (i : Image) → Leaves mid i → Reaches stores no_write s i
  start_reaches mid amid i leaves =
      let grows : Grows stores no_write s mid = Amid-grows stores no_write (gate_calls Gate.start sup₁.tail) s mid ((refl, refl, refl), (tt, (tt, tt))) amid in
      Grows-leaves stores no_write s mid i grows leaves

  start_none : (i : Image) → Reaches stores no_write s i → i.nvm 1 0 ≡ sup₁.tail → log_of format i ≡ no_log
  start_none i reaches at_start =
      let j : Image = without stores s i reaches in
      let e : super_of i ≡ record sup₁ { start = sup₁.tail } =
      moved_start i j sup₁.tail (λ l w named h. sym (without_same stores s i reaches l w (λ st. elim h [ inl n ↦ n st.0 | inr n ↦ n st.1 ]))) at_start
      ∙ ap (λ (x : Super). record x { start = sup₁.tail }) (durable_super s 0 can j (without_leaves stores s i reaches)) in
      ap (λ (zs : List Line). grouped no_log (entries format 0 zs))
      (ap (λ (x : Super). from (log_line x.sizes x.drained i) x.start (x.tail - x.start)) e ∙ from_none _ sup₁.tail (sup₁.tail - sup₁.tail) (omega arith))

  pub start_groups : (mid : State) → Amid s (gate_calls Gate.start sup₁.tail) mid → HasEither format (log_of format (current s)) no_log mid
  start_groups mid amid i leaves =
      let reaches : Reaches stores no_write s i = start_reaches mid amid i leaves in
      elim (reaches.words 1 0) [
        | inl version ↦ inl (log_durable format s 0 can i (record {
          words = λ l w. elim (reaches.words l w) [ inl v ↦ v | inr st ↦ rw (st.0, st.1) version ];
          blocks = λ n. elim (reaches.blocks n) [ inl written ↦ absurd written | inr same ↦ same ];
        }))
        | inr moved ↦ inr (start_none i reaches moved.2)
      ]

  pub start_groups_done : HasGroups format no_log (after_all (gate_calls Gate.start sup₁.tail) s)
  start_groups_done i leaves =
      let done : State = after_all (gate_calls Gate.start sup₁.tail) s in
      let one : done.nvm 1 0 ≡ single sup₁.tail = ap trimmed (flushed_same 1 (word_stored 1 0 sup₁.tail s) 0 ∙ ap marked (word_stored_same 1 0 sup₁.tail s)) in
      start_none i (start_reaches done (Amid_end (gate_calls Gate.start sup₁.tail) s) i leaves) (single_at (done.nvm 1 0) sup₁.tail (i.nvm 1 0) one (leaves.words 1 0))

-- what loads give of the superblock behind a new start
pub start_super : (s : State) → super_of (current (after_all (gate_calls Gate.start (super_of (current s)).tail) s)) ≡ record (super_of (current s)) { start = (super_of (current s)).tail }
start_super s =
    let tail : ℕ = (super_of (current s)).tail in
    let moved : Moved Gate.start tail (current (after_all (gate_calls Gate.start tail) s)) (current s) = moved_current Gate.start tail s in
    moved_start (current (after_all (gate_calls Gate.start tail) s)) (current s) tail (λ l w named h. moved.words l w h) moved.at_gate
