-- Each page that the frame table names is placed once: its frame is free before, and it has none.
use Rattle.std.proofs.Common.{◌≡◌, ℕ, zero, suc, ◌+◌, ◌<◌, ◌≤◌, Bool, false, List, [], replicate, refl, sym, ap, ◌∙◌, subst, arith}
use Rattle.std.specs.Prelude.{Option, Some, None, IfSome, slice_index}
use Rattle.rand_pcg.specs.Lcg.{Lcg}
use Rattle.page_frame.specs.Frames.{Frame, empty_frame}
use Rattle.mini_page.specs.MiniPages.{MiniPage, empty_mini}
use Rattle.clock_sweep.specs.Clock.{Circle, new_clock}
use Rattle.migration_policy.specs.Draws.{generator, generator_after}
use Rattle.migration_policy.proofs.DrawLaws.{first_generator}
use Rattle.tier_rules.specs.declared.tally.Tally.{Tally}
use Rattle.tier_rules.specs.Tallies.{zero_tally}
use Rattle.tier_rules.specs.Plans.{Plan}
use Rattle.tier_map.specs.Placement.{Placement, nothing_placed}
use Rattle.tier_map.proofs.PlacementLaws.{changed-other}
use Rattle.tier_rules.specs.Opening.{IsTable, named_page}
use Rattle.tier_rules.specs.Parts.{Parts}
use Rattle.tier_pool.specs.declared.pool.TierPool.{TierPool}
use Rattle.tier_pool.specs.Fields.{SameSizes}
use Rattle.tier_pool.specs.Opening.{NamesWithin, empty_parts, entry_placed, entries_placed}

pub if_some : (o : Option ℕ) (P : ℕ → Type 0) → ((x : ℕ) → o ≡ Some x → P x) → IfSome o P
if_some None P h = tt
if_some (Some x) P h = h x refl

pub named_is : (e p : ℕ) → named_page e ≡ Some p → e ≡ suc p
named_is zero p h = absurd (cc)
named_is (suc q) p h = let same : q ≡ p = cc in ap suc same

entry_free : (o : Option ℕ) (k j : ℕ) (parts : Parts) → (j ≡ k → ⊥) → parts.map.frame_page j ≡ None → (entry_placed o k parts).map.frame_page j ≡ None
entry_free None k j parts other free = free
entry_free (Some page) k j parts other free = changed-other k (Some page) parts.map.frame_page j other ∙ free

pub free_at : (words : List ℕ) (parts : Parts) → parts.map ≡ nothing_placed → (k j : ℕ) → k ≤ j → (entries_placed k words parts).map.frame_page j ≡ None
unfolding entries_placed
free_at words parts none zero j h = ap (λ (m : Placement). m.frame_page j) none
free_at words parts none (suc k) j h =
    entry_free (named_page (slice_index words k)) k j (entries_placed k words parts) (λ same. omega arith) (free_at words parts none k j (omega arith))

entry_homeless : (o : Option ℕ) (k page : ℕ) (parts : Parts) → (o ≡ Some page → ⊥) → parts.map.nvm page ≡ None → (entry_placed o k parts).map.nvm page ≡ None
entry_homeless None k page parts other none = none
entry_homeless (Some q) k page parts other none = changed-other q (Some k) parts.map.nvm page (λ same. other (ap Some (sym same))) ∙ none

pub homeless_at : (words : List ℕ) (parts : Parts) → parts.map ≡ nothing_placed → IsTable words
    → (k j page : ℕ) → k ≤ j → slice_index words j ≡ suc page → (entries_placed k words parts).map.nvm page ≡ None
unfolding entries_placed
homeless_at words parts none table zero j page h at = ap (λ (m : Placement). m.nvm page) none
homeless_at words parts none table (suc k) j page h at =
    entry_homeless (named_page (slice_index words k)) k page (entries_placed k words parts)
    (λ same. let twice : k ≡ j = table k j page (named_is (slice_index words k) page same) at in omega arith)
    (homeless_at words parts none table k j page (omega arith) at)

-- what an entry names is a page of the store, and has no frame before
pub named_within : (words : List ℕ) (pages k : ℕ) → NamesWithin pages words → IfSome (named_page (slice_index words k)) (λ page. page < pages)
named_within words pages k within = if_some (named_page (slice_index words k)) (λ page. page < pages) (λ page is. within k page (named_is (slice_index words k) page is))

pub named_homeless : (words : List ℕ) (parts now : Parts) (k : ℕ) → parts.map ≡ nothing_placed → IsTable words → now ≡ entries_placed k words parts
    → IfSome (named_page (slice_index words k)) (λ page. now.map.nvm page ≡ None)
named_homeless words parts now k none table is = if_some (named_page (slice_index words k)) (λ page. now.map.nvm page ≡ None) (λ page e.
    ap (λ (p : Parts). p.map.nvm page) is ∙ homeless_at words parts none table k k page (omega arith) (named_is (slice_index words k) page e))

-- the fields one by one
pub made_empty : (plan : Plan) (frames : ℕ) (arena : List Frame) (full_dirty : List ℕ) (minis : List MiniPage) (map : Placement) (frame_dirty : List Bool)
    (full_clock mini_clock nvm_clock : Circle) (queue : List ℕ) (draws : Lcg) (tally : Tally)
    → arena ≡ replicate plan.dram_frames empty_frame → full_dirty ≡ replicate plan.dram_frames 0 → minis ≡ replicate plan.minis empty_mini → map ≡ nothing_placed
    → frame_dirty ≡ replicate frames false → full_clock ≡ new_clock plan.dram_frames → mini_clock ≡ new_clock plan.minis → nvm_clock ≡ new_clock frames → queue ≡ []
    → draws ≡ generator_after plan.seed 0 → tally ≡ zero_tally
    → record {
      plan = plan;
      frames = frames;
      access = None;
      arena = arena;
      full_dirty = full_dirty;
      minis = minis;
      map = map;
      frame_dirty = frame_dirty;
      full_clock = full_clock;
      mini_clock = mini_clock;
      nvm_clock = nvm_clock;
      queue = queue;
      draws = draws;
      tally = tally;
    } ≡ empty_parts plan frames
made_empty plan frames arena full_dirty minis map frame_dirty full_clock mini_clock nvm_clock queue draws tally a b c d e f g h i j k =
    let first : draws ≡ generator plan.seed = j ∙ sym (first_generator plan.seed) in
    rw (a, b, c, d, e, f, g, h, i, first, k) refl

-- one word more
pub next_placed : (words : List ℕ) (parts now next : Parts) (k : ℕ) (o : Option ℕ) → now ≡ entries_placed k words parts → o ≡ named_page (slice_index words k)
    → next ≡ entry_placed o k now → next ≡ entries_placed (k + 1) words parts
unfolding entries_placed
next_placed words parts now next k o is named placed =
    let one : suc k ≡ k + 1 = omega arith in
    subst (λ (n : ℕ). next ≡ entries_placed n words parts) one
    (placed ∙ ap (λ (o : Option ℕ). entry_placed o k now) named ∙ ap (entry_placed (named_page (slice_index words k)) k) is)

pub next_same : (a b c : TierPool) → SameSizes a b → SameSizes b c → SameSizes a c
next_same a b c first second = record { geometry = second.geometry ∙ first.geometry; policy = second.policy ∙ first.policy; access = second.access ∙ first.access }
