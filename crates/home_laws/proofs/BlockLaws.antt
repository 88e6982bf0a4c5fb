-- An image in which one block may hold anything: a crash leaves it with the block as it was.
use Rattle.std.proofs.Common.{◌≡◌, ◌≢◌, ◌⊎◌, ℕ, List, refl, inl, inr, IsTrue}
use Rattle.devices.specs.State.{State, Image, Leaves}
use Rattle.devices.specs.Growth.{Reaches, no_store}

-- one of two lists
pick : {A B : Type 0} → A ⊎ B → List ℕ → List ℕ → List ℕ
pick (inl a) x y = x
pick (inr b) x y = y

pick_second : {A B : Type 0} (r : A ⊎ B) (x y : List ℕ) → (A → ⊥) → pick r x y ≡ y
unfolding pick
pick_second (inl a) x y h = absurd (h a)
pick_second (inr b) x y h = refl

module _ (s : State) (block : ℕ) where
  pub with_block : (i : Image) → Reaches no_store (λ b. b ≡ block) s i → Image
  with_block i reaches = record { nvm = i.nvm; ssd = λ b. pick (reaches.blocks b) (s.ssd b).bytes (i.ssd b) }

  pub with_block_leaves : (i : Image) (reaches : Reaches no_store (λ b. b ≡ block) s i) → Leaves s (with_block i reaches)
  unfolding with_block pick
  with_block_leaves i reaches = record {
    words = λ l w. elim (reaches.words l w) [ inl v ↦ v | inr none ↦ absurd none ];
    blocks = λ b h. picked b h (reaches.blocks b);
  }
    where
      picked : (b : ℕ) → IsTrue (s.ssd b).settled → (r : (b ≡ block) ⊎ (IsTrue (s.ssd b).settled → i.ssd b ≡ (s.ssd b).bytes)) → pick r (s.ssd b).bytes (i.ssd b) ≡ (s.ssd b).bytes
      picked b h (inl same) = refl
      picked b h (inr kept) = kept h

  pub with_block_other : (i : Image) (reaches : Reaches no_store (λ b. b ≡ block) s i) (b : ℕ) → b ≢ block → (with_block i reaches).ssd b ≡ i.ssd b
  unfolding with_block
  with_block_other i reaches b other = pick_second (reaches.blocks b) (s.ssd b).bytes (i.ssd b) other

  pub with_block_words : (i : Image) (reaches : Reaches no_store (λ b. b ≡ block) s i) (l w : ℕ) → (with_block i reaches).nvm l w ≡ i.nvm l w
  unfolding with_block
  with_block_words i reaches l w = refl
