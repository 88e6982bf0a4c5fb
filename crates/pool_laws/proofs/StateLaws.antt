-- States and placements that say the same are the same.
use Rattle.std.proofs.Common.{◌≡◌, ℕ, ◌<◌, Bool, true, false, List, length, get_or, slice_set, inl, inr, refl, sym, ap, ◌∙◌, subst}
use Rattle.std.specs.Prelude.{◌||◌}
use Rattle.std.proofs.lemmas.Bool.{cases_eq}
use Rattle.std.proofs.lemmas.List.{get_or-set_same, get_or-set_other}
use Rattle.tier_map.specs.Placement.{Placement, changed}
use Rattle.tier_map.proofs.PlacementLaws.{changed-same, changed-other}
use Rattle.migration_policy.specs.Draws.{generator_after}
use Rattle.tier_rules.specs.State.{TierState}
use Rattle.tier_rules.specs.Parts.{Parts}
use Rattle.pool_laws.specs.States.{state_of, IsState}
use Rattle.tier_pool.proofs.SteadyPieces.{set_back}

pub record SameState (s t : TierState) : Type 0 where
  pub plan : s.plan ≡ t.plan
  pub frames : s.frames ≡ t.frames
  pub access : s.access ≡ t.access
  pub map : s.map ≡ t.map
  pub resident : (page : ℕ) → s.resident page ≡ t.resident page
  pub dirty : (page : ℕ) → s.dirty page ≡ t.dirty page
  pub frame_dirty : (k : ℕ) → s.frame_dirty k ≡ t.frame_dirty k
  pub full_clock : s.full_clock ≡ t.full_clock
  pub mini_clock : s.mini_clock ≡ t.mini_clock
  pub nvm_clock : s.nvm_clock ≡ t.nvm_clock
  pub queue : s.queue ≡ t.queue
  pub drawn : s.drawn ≡ t.drawn
  pub tally : s.tally ≡ t.tally

pub same_state : {s t : TierState} → SameState s t → s ≡ t
same_state h = λ i. record {
  plan = h.plan i;
  frames = h.frames i;
  access = h.access i;
  map = h.map i;
  resident = λ page. h.resident page i;
  dirty = λ page. h.dirty page i;
  frame_dirty = λ k. h.frame_dirty k i;
  full_clock = h.full_clock i;
  mini_clock = h.mini_clock i;
  nvm_clock = h.nvm_clock i;
  queue = h.queue i;
  drawn = h.drawn i;
  tally = h.tally i;
}

-- fields show what their state is
pub shown_at : (n : ℕ) (parts : Parts) (s : TierState) → state_of n parts ≡ s → parts.draws ≡ generator_after parts.plan.seed n → IsState parts s
shown_at n parts s e draws = record {
  is = subst (λ (m : ℕ). state_of m parts ≡ s) (ap (λ (t : TierState). t.drawn) e) e;
  draws = subst (λ (m : ℕ). parts.draws ≡ generator_after parts.plan.seed m) (ap (λ (t : TierState). t.drawn) e) draws;
}

pub record SameMap (m n : Placement) : Type 0 where
  pub place : (page : ℕ) → m.place page ≡ n.place page
  pub nvm : (page : ℕ) → m.nvm page ≡ n.nvm page
  pub full_page : (i : ℕ) → m.full_page i ≡ n.full_page i
  pub mini_owner : (j : ℕ) → m.mini_owner j ≡ n.mini_owner j
  pub frame_page : (k : ℕ) → m.frame_page k ≡ n.frame_page k

pub same_map : {m n : Placement} → SameMap m n → m ≡ n
same_map h = λ i. record {
  place = λ page. h.place page i;
  nvm = λ page. h.nvm page i;
  full_page = λ k. h.full_page k i;
  mini_owner = λ k. h.mini_owner k i;
  frame_page = λ k. h.frame_page k i;
}

-- ---- marks of frames

pub mark_set : (xs : List Bool) (k : ℕ) (mark : Bool) → k < length xs → (j : ℕ) → get_or (slice_set xs k mark) j false ≡ changed k mark (λ i. get_or xs i false) j
mark_set xs k mark low j = elim (cases_eq j k) [
  | inl same ↦ ap (λ (n : ℕ). get_or (slice_set xs k mark) n false) same ∙ get_or-set_same xs k mark false low ∙ sym (changed-same k mark (λ i. get_or xs i false) j same)
  | inr other ↦ get_or-set_other xs k j mark false other ∙ sym (changed-other k mark (λ i. get_or xs i false) j other)
]

pub mark_cleared : (xs : List Bool) (k j : ℕ) → get_or (slice_set xs k false) j false ≡ changed k false (λ i. get_or xs i false) j
mark_cleared xs k j = elim (cases_eq j k) [
  | inl same ↦ ap (λ (n : ℕ). get_or (slice_set xs k false) n false) same ∙ set_back xs k false ∙ sym (changed-same k false (λ i. get_or xs i false) j same)
  | inr other ↦ get_or-set_other xs k j false false other ∙ sym (changed-other k false (λ i. get_or xs i false) j other)
]

-- nothing was stored
pub mark_kept : (marks : ℕ → Bool) (k j : ℕ) → marks j ≡ changed k (marks k || false) marks j
mark_kept marks k j = elim (cases_eq j k) [
  | inl same ↦ ap marks same ∙ sym (or_false (marks k)) ∙ sym (changed-same k (marks k || false) marks j same)
  | inr other ↦ sym (changed-other k (marks k || false) marks j other)
]
  where
    or_false : (b : Bool) → (b || false) ≡ b
    or_false true = refl
    or_false false = refl

pub or_true : (b : Bool) → (b || true) ≡ true
or_true true = refl
or_true false = refl

-- ---- changes at two numbers

pub changed-swap : {A : Type 0} (a b : ℕ) (x y : A) (f : ℕ → A) → (a ≡ b → ⊥) → (n : ℕ) → changed a x (changed b y f) n ≡ changed b y (changed a x f) n
changed-swap a b x y f apart n = elim (cases_eq n a) [
  | inl at_a ↦
      changed-same a x (changed b y f) n at_a ∙ sym (changed-other b y (changed a x f) n (λ at_b. apart (sym at_a ∙ at_b)) ∙ changed-same a x f n at_a)
  | inr not_a ↦ changed-other a x (changed b y f) n not_a ∙ elim (cases_eq n b) [
    | inl at_b ↦ changed-same b y f n at_b ∙ sym (changed-same b y (changed a x f) n at_b)
    | inr not_b ↦ changed-other b y f n not_b ∙ sym (changed-other b y (changed a x f) n not_b ∙ changed-other a x f n not_a)
  ]
]
