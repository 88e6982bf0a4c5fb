-- A gate that gets a new value: the facts hold at each moment of its three calls, and when they are done, where they hold
-- of each image that has the old or the new value.
use Rattle.std.proofs.Common.{◌≡◌, ◌≢◌, ◌⊎◌, ℕ, ◌<◌, ◌≤◌, false, List, refl, sym, ap, ◌∙◌, subst, inl, inr, arith, Bool, true, cond, eqb, Some, None}
use Rattle.nvm_model.specs.Word.{Word, IsVersion, IsSingle, single, trimmed, marked}
use Rattle.devices.specs.State.{State, Image, word_stored, Leaves, current, after_all, Amid}
use Rattle.devices.specs.Growth.{Grows, Reaches, no_write}
use Rattle.store_model.specs.Layout.{Sizes, ring_start, ring_line, frame_line}
use Rattle.store_model.specs.Log.{Words, Change}
use Rattle.store_model.specs.Recovered.{super_of}
use Rattle.store_model.specs.StoreFacts.{Gate, IsGate, gate_line, gate_word, Changing, Bookkeeping, GatesAreOne, StoreFacts}
use Rattle.store_model.specs.Seen.{ImageFacts, Moved, gate_calls, gate_stores, changing_to}
use Rattle.nvm_model.proofs.WordLaws.{single_version}
use Rattle.devices.proofs.StateLaws.{word_stored_same, word_stored_other, flushed_same}
use Rattle.devices.proofs.GrowthLaws.{Amid-grows, Amid_end, Grows-leaves, Grows-single, Grows-steady, Grows-settled}
use Rattle.home_laws.proofs.PutLaws.{without, without_leaves, without_same, without_blocks, single_at}
use Rattle.home_laws.proofs.FactsLaws.{some_same}
use Rattle.std.proofs.lemmas.Bool.{cases_eq}
use Rattle.home_laws.proofs.SeenLaws.{image_facts, facts_by_images, image_changing, no_change, gates_single, gate_same, gate_apart, gate_low, gate_no_size}

cases_gate : (a c : Gate) → (a ≡ c) ⊎ (a ≢ c)
cases_gate a c = elim (cases_eq (gate_line a) (gate_line c)) [
  | inr line ↦ inr (λ e. line (ap gate_line e))
  | inl line ↦ elim (cases_eq (gate_word a) (gate_word c)) [
    | inr word ↦ inr (λ e. word (ap gate_word e))
    | inl word ↦ inl (gate_same a c line word)
  ]
]

-- When the gate that was being changed has one version again, none is being changed.
pub still_facts : (b : Bookkeeping) (change : Changing) (s : State) → StoreFacts (record b { changing = Some change }) s → IsSingle (s.nvm (gate_line change.gate) (gate_word change.gate))
    → StoreFacts (record b { changing = None }) s
still_facts b change s facts one = facts_by_images (record b { changing = None }) s
    (record {
      sizes = facts.gates.sizes;
      others = λ a in_store other. elim (cases_gate a change.gate) [
        | inl same ↦ subst (λ (x : Gate). IsSingle (s.nvm (gate_line x) (gate_word x))) (sym same) one
        | inr apart ↦ facts.gates.others a in_store (λ c at e. apart (e ∙ sym (ap (λ (x : Changing). x.gate) (some_same _ _ at))))
      ];
      changing = λ c at. absurd (no_change c at);
    })
    (λ i left. image_changing (record b { changing = Some change }) None b.committed s i (image_facts (record b { changing = Some change }) s facts i left) (λ p l w. refl))

module _ (b : Bookkeeping) (s : State) (facts : StoreFacts b s) (still : b.changing ≡ None) (gate : Gate) (in_store : IsGate b.sizes gate)
    (old : ℕ) (is_old : (s.nvm (gate_line gate) (gate_word gate)).newest ≡ old) (new : ℕ) where
  stores : ℕ → ℕ → ℕ → Type 0
  stores = gate_stores gate new

  gate_grows : (mid : State) → Amid s (gate_calls gate new) mid → Grows (gate_stores gate new) no_write s mid
  gate_grows mid amid = Amid-grows (gate_stores gate new) no_write (gate_calls gate new) s mid ((refl, refl, refl), (tt, (tt, tt))) amid

  -- an image with the new value is an old one but for the gate
  moved_image : (i : Image) → Reaches (gate_stores gate new) no_write s i → i.nvm (gate_line gate) (gate_word gate) ≡ new → (j : Image) × Leaves s j × Moved gate new i j
  moved_image i reaches at_gate = (
    without (gate_stores gate new) s i reaches,
    without_leaves (gate_stores gate new) s i reaches,
    record {
      at_gate = at_gate;
      words = λ l w h. sym (without_same (gate_stores gate new) s i reaches l w (λ st. elim h [ inl n ↦ n st.0 | inr n ↦ n st.1 ]));
      blocks = λ n. sym (without_blocks (gate_stores gate new) s i reaches n);
    },
  )

  -- each image on the way is an old one, or that
  gate_images : (i : Image) → Reaches (gate_stores gate new) no_write s i → Leaves s i ⊎ ((j : Image) × Leaves s j × Moved gate new i j)
  gate_images i reaches = elim (reaches.words (gate_line gate) (gate_word gate)) [
    | inl version ↦ inl (record {
      words = λ l w. elim (reaches.words l w) [ inl v ↦ v | inr st ↦ rw (st.0, st.1) version ];
      blocks = λ n. elim (reaches.blocks n) [ inl written ↦ absurd written | inr same ↦ same ];
    })
    | inr st ↦ inr (moved_image i reaches st.2)
  ]

  module _ (mid : State) (grows : Grows (gate_stores gate new) no_write s mid) where
    -- the log ring and the frames are as they were
    high_none : (l w : ℕ) → ring_start b.sizes ≤ l → (v : ℕ) → gate_stores gate new l w v → ⊥
    high_none l w high v st = let low : gate_line gate < ring_start b.sizes = gate_low b.sizes gate in_store in let same : l ≡ gate_line gate = st.0 in omega arith

    carry : (c : Bookkeeping) (i : Image) → c.sizes ≡ b.sizes → ImageFacts c s i → ImageFacts c mid i
    carry c i same image = record {
      sizes = image.sizes;
      durable = record {
        log = λ o above below. record {
          in_nvm = λ over w hw. Grows-single (gate_stores gate new) no_write s mid grows (ring_line (super_of i).sizes o) w
              (high_none (ring_line (super_of i).sizes o) w (subst (λ (g : Sizes). ring_start g ≤ ring_line (super_of i).sizes o) (image.sizes ∙ same) (omega arith)))
              (((image.durable).log o above below).in_nvm over w hw);
          in_ssd = λ under. Grows-settled (gate_stores gate new) s mid grows _ (((image.durable).log o above below).in_ssd under);
        };
        homes = λ p l w word h. record {
          in_frame = λ k found. Grows-steady (gate_stores gate new) no_write s mid grows (frame_line c.sizes k l) w
              (high_none (frame_line c.sizes k l) w (subst (λ (g : Sizes). ring_start g ≤ frame_line c.sizes k l) same (omega arith)))
              (((image.durable).homes p l w word h).in_frame k found);
          in_block = λ none. Grows-settled (gate_stores gate new) s mid grows _ (((image.durable).homes p l w word h).in_block none);
        };
      };
      homes = image.homes;
      log = image.log;
      copies = image.copies;
      store = image.store;
    }

    -- the other gates keep their one version
    gate_other : (a : Gate) → IsGate b.sizes a → a ≢ gate → IsSingle (mid.nvm (gate_line a) (gate_word a))
    gate_other a a_in_store other = Grows-single (gate_stores gate new) no_write s mid grows (gate_line a) (gate_word a)
        (λ v st. elim (gate_apart a gate other) [ inl n ↦ n st.0 | inr n ↦ n st.1 ]) (gates_single b s facts still a a_in_store)

    size_single : (w : ℕ) → 0 < w → w < 6 → IsSingle (mid.nvm 0 w)
    size_single w low high = Grows-single (gate_stores gate new) no_write s mid grows 0 w
        (λ v st. elim (gate_no_size gate w low) [ inl n ↦ n st.0 | inr n ↦ n st.1 ]) (facts.gates.sizes w low high)

    mid_gates : (committed : ℕ → Words) → GatesAreOne (changing_to b gate old new committed) mid
    mid_gates committed = record {
      sizes = size_single;
      others = λ a a_in_store other. gate_other a a_in_store (other (record { gate = gate; old = old; new = new }) refl);
      changing = λ change at change_in_store v h.
          subst (λ (c : Changing). IsVersion (mid.nvm (gate_line c.gate) (gate_word c.gate)) v → (v ≡ c.old) ⊎ (v ≡ c.new)) (some_same _ _ at)
          (λ version. elim (grows.words (gate_line gate) (gate_word gate) v version) [
            | inl before ↦ inl (single_version (s.nvm (gate_line gate) (gate_word gate)) v (gates_single b s facts still gate in_store) before ∙ is_old)
            | inr st ↦ inr st.2
          ]) h;
    }

  -- The facts hold at each moment, with the gate being changed.
  pub gate_facts : (committed : ℕ → Words)
      → ((i : Image) → Leaves s i → ImageFacts (changing_to b gate old new committed) s i)
      → ((i j : Image) → Leaves s j → Moved gate new i j → ImageFacts (changing_to b gate old new committed) s i)
      → (mid : State) → Amid s (gate_calls gate new) mid → StoreFacts (changing_to b gate old new committed) mid
  gate_facts committed before moved mid amid =
      let grows : Grows (gate_stores gate new) no_write s mid = gate_grows mid amid in
      facts_by_images (changing_to b gate old new committed) mid (mid_gates mid grows committed)
      (λ i leaves. carry mid grows (changing_to b gate old new committed) i refl (elim (gate_images i (Grows-leaves (gate_stores gate new) no_write s mid i grows leaves)) [
        | inl left ↦ before i left
        | inr new_image ↦ moved i new_image.0 new_image.1 new_image.2
      ]))

  -- Each image that they leave has the new value.
  made : (after_all (gate_calls gate new) s).nvm (gate_line gate) (gate_word gate) ≡ single new
  made = ap trimmed (flushed_same (gate_line gate) (word_stored (gate_line gate) (gate_word gate) new s) (gate_word gate) ∙ ap marked (word_stored_same (gate_line gate) (gate_word gate) new s))

  pub gate_left : (i : Image) → Leaves (after_all (gate_calls gate new) s) i → (j : Image) × Leaves s j × Moved gate new i j
  gate_left i leaves = moved_image i
      (Grows-leaves (gate_stores gate new) no_write s (after_all (gate_calls gate new) s) i (gate_grows (after_all (gate_calls gate new) s) (Amid_end (gate_calls gate new) s)) leaves)
      (single_at ((after_all (gate_calls gate new) s).nvm (gate_line gate) (gate_word gate)) new _ made (leaves.words (gate_line gate) (gate_word gate)))

  -- When they are done the gate has one version again.
  pub gate_after : (committed : ℕ → Words) (pending : List Change)
      → ((i j : Image) → Leaves s j → Moved gate new i j → ImageFacts (record b { committed = committed; pending = pending }) s i)
      → StoreFacts (record b { committed = committed; pending = pending }) (after_all (gate_calls gate new) s)
  gate_after committed pending moved =
      let c : Bookkeeping = record b { committed = committed; pending = pending } in
      let end : State = after_all (gate_calls gate new) s in
      let grows : Grows (gate_stores gate new) no_write s end = gate_grows end (Amid_end (gate_calls gate new) s) in
      facts_by_images c end
      (record {
        sizes = size_single end grows;
        others = λ a a_in_store other. one end grows made a a_in_store;
        changing = λ change at. absurd (no_change change (sym still ∙ at));
      })
      (λ i leaves. let new_image : (j : Image) × Leaves s j × Moved gate new i j = gate_left i leaves in
      carry end grows c i refl (moved i new_image.0 new_image.1 new_image.2))
    where
      one : (end : State) → Grows (gate_stores gate new) no_write s end → end.nvm (gate_line gate) (gate_word gate) ≡ single new → (a : Gate) → IsGate b.sizes a → IsSingle (end.nvm (gate_line a) (gate_word a))
      one end grows made a a_in_store = elim (cases_gate a gate) [
        | inl same ↦ subst (λ (x : Gate). IsSingle (end.nvm (gate_line x) (gate_word x))) (sym same) (ap (λ (x : Word). x.older) made)
        | inr other ↦ gate_other end grows a a_in_store other
      ]

-- what the calls leave of the last version of each word
pub gate_now : (gate : Gate) (new : ℕ) (s : State) → (current (after_all (gate_calls gate new) s)).nvm (gate_line gate) (gate_word gate) ≡ new
gate_now gate new s = ap (λ (x : Word). x.newest)
    (flushed_same (gate_line gate) (word_stored (gate_line gate) (gate_word gate) new s) (gate_word gate) ∙ ap marked (word_stored_same (gate_line gate) (gate_word gate) new s))

pub gate_others : (gate : Gate) (new : ℕ) (s : State) (l w : ℕ) → (l ≢ gate_line gate) ⊎ (w ≢ gate_word gate)
    → (current (after_all (gate_calls gate new) s)).nvm l w ≡ (current s).nvm l w
gate_others gate new s l w h = marked_newest (eqb l (gate_line gate)) ((word_stored (gate_line gate) (gate_word gate) new s).nvm l w)
    ∙ ap (λ (x : Word). x.newest) (word_stored_other (gate_line gate) (gate_word gate) new s l w h)
  where
    marked_newest : (t : Bool) (x : Word) → (cond t (marked x) x).newest ≡ x.newest
    marked_newest true x = refl
    marked_newest false x = refl

-- so they leave what loads and reads gave, but for the gate
pub moved_current : (gate : Gate) (new : ℕ) (s : State) → Moved gate new (current (after_all (gate_calls gate new) s)) (current s)
moved_current gate new s = record { at_gate = gate_now gate new s; words = gate_others gate new s; blocks = λ n. refl }
