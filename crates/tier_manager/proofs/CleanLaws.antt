-- How far the cleaning of places got, and what the cleaning of one place does.
use Rattle.std.proofs.Common.{Bool, true, false, ◌||◌, ◌≡◌, ℕ, ◌+◌, ◌-◌, ◌<◌, ◌≤◌, ◌^◌, arith, refl, sym, ap, ◌∙◌, subst, Ok, Option, Some, None}
use Rattle.std.specs.Prelude.{◌==◌, IfSome}
use Rattle.devices.specs.World.{Standing}
use Rattle.tier_map.specs.declared.place.Place.{Place}
use Rattle.tier_map.specs.declared.place.Place.TheVariants.{Full, Mini}
use Rattle.page_frame.specs.LineSets.{no_lines}
use Rattle.tier_rules.specs.Parts.{Parts, dirty_at}
use Rattle.tier_pool.specs.declared.pool.TierPool.{TierPool}
use Rattle.tier_pool.specs.Calls.{Stores}
use Rattle.tier_pool.specs.Cleaning.{copy_written}
use Rattle.tier_pool.specs.Fields.{SameSizes}
use Rattle.tier_pool.specs.Handing.{StandsAt}
use Rattle.tier_pool.specs.Standing.{IsSteady}
use Rattle.tier_pool.specs.Storing.{LeadsHard}
use Rattle.tier_pool.proofs.DownLaws.{stands_full}
use Rattle.tier_pool.proofs.SteadyLaws.{steady_written}
use Rattle.tier_manager.specs.declared.tiers.Tiers.{Tiers}
use Rattle.tier_manager.specs.Fields.{parts_of}
use Rattle.tier_manager.specs.Telling.{told_of}
use Rattle.tier_manager.specs.Cleaning.{PartsLeft, written_unless, place_cleaned, minis_cleaned}
use Rattle.tier_manager.proofs.DirtyLaws.{mini_at, fulls_written, minis_written, full_step, mini_step, no_fulls, no_minis}

-- The devices went on and no block was read, the facts hold again, and so does what holds of the fields; what was told and the
-- sizes are as they were; and so many copies may still become clean.
pub record Cleans (old new : Tiers) (a b : Standing) (left : ℕ) : Type 0 where
  pub call : Stores {T = Unit {0}} a b (Ok tt)
  pub leads : LeadsHard {T = Unit {0}} old.pool new.pool a b (Ok tt)
  pub steady : IsSteady (parts_of new)
  pub told : told_of new ≡ told_of old
  pub same : SameSizes old.pool new.pool
  pub few : left < 2 ^ 32

pub same_none : (t : TierPool) → SameSizes t t
same_none t = record { geometry = refl; policy = refl; access = refl }

pub same_then : {t u v : TierPool} → SameSizes t u → SameSizes u v → SameSizes t v
same_then first second = record { geometry = second.geometry ∙ first.geometry; policy = second.policy ∙ first.policy; access = second.access ∙ first.access }

-- ---- one place

-- the copy stays as it is
pub place_stays : (o : Option ℕ) (place : Place) (left dirty : ℕ) (parts : Parts) → dirty ≡ dirty_at place parts.full_dirty parts.minis → (left == 0 || dirty == no_lines) ≡ true
    → place_cleaned o place (record { left = left; parts = parts }) ≡ record { left = left; parts = parts }
place_stays None place left dirty parts is stays = refl
place_stays (Some page) place left dirty parts is stays =
    ap (λ (n : ℕ). written_unless (left == 0 || n == no_lines) page place (record { left = left; parts = parts })) (sym is)
    ∙ ap (λ (b : Bool). written_unless b page place (record { left = left; parts = parts })) stays

-- it becomes clean
pub place_written : (page : ℕ) (place : Place) (left dirty more : ℕ) (parts after : Parts) → dirty ≡ dirty_at place parts.full_dirty parts.minis → (left == 0 || dirty == no_lines) ≡ false
    → more ≡ left - 1 → after ≡ copy_written page place parts → place_cleaned (Some page) place (record { left = left; parts = parts }) ≡ record { left = more; parts = after }
place_written page place left dirty more parts after is writes less made =
    ap (λ (n : ℕ). written_unless (left == 0 || n == no_lines) page place (record { left = left; parts = parts })) (sym is)
    ∙ ap (λ (b : Bool). written_unless b page place (record { left = left; parts = parts })) writes
    ∙ sym (ap (λ (p : Parts). record { left = more; parts = p }) made ∙ ap (λ (n : ℕ). record { left = n; parts = copy_written page place parts }) less)

-- ---- the page of a place stands there, with all its lines where it has no frame

some_none : {A : Type 0} {k : ℕ} → None ≡ Some k → A
some_none e = absurd (let no : ⊥ = cc in no)

stands_mini : (parts : Parts) (page j : ℕ) → IsSteady parts → parts.map.mini_owner j ≡ Some page → StandsAt page (Mini j) parts
stands_mini parts page j steady owner = record {
  here = mini_at parts.map steady.agrees page j owner;
  whole = λ none. let under = steady.standing.over.frame page j (mini_at parts.map steady.agrees page j owner) in some_none (sym none ∙ under.1);
}

pub full_stands : (o : Option ℕ) (i : ℕ) (parts : Parts) → IsSteady parts → o ≡ parts.map.full_page i → IfSome o (λ page. StandsAt page (Full i) parts)
full_stands None i parts steady is = tt
full_stands (Some page) i parts steady is = stands_full parts page i steady.agrees (sym is) steady.whole

pub mini_stands : (o : Option ℕ) (j : ℕ) (parts : Parts) → IsSteady parts → o ≡ parts.map.mini_owner j → IfSome o (λ page. StandsAt page (Mini j) parts)
mini_stands None j parts steady is = tt
mini_stands (Some page) j parts steady is = stands_mini parts page j steady (sym is)

-- ---- what holds of the fields

steady_unless : (b : Bool) (page : ℕ) (place : Place) (at : PartsLeft) → IsSteady at.parts → IsSteady (written_unless b page place at).parts
steady_unless true page place at steady = steady
steady_unless false page place at steady = steady_written page place at.parts steady

steady_cleaned : (o : Option ℕ) (place : Place) (at : PartsLeft) → IsSteady at.parts → IsSteady (place_cleaned o place at).parts
steady_cleaned None place at steady = steady
steady_cleaned (Some page) place at steady = steady_unless (at.left == 0 || dirty_at place at.parts.full_dirty at.parts.minis == no_lines) page place at steady

pub steady_after : (o : Option ℕ) (place : Place) (left more : ℕ) (parts after : Parts) → place_cleaned o place (record { left = left; parts = parts }) ≡ record { left = more; parts = after }
    → IsSteady parts → IsSteady after
steady_after o place left more parts after is steady = subst (λ (at : PartsLeft). IsSteady at.parts) is (steady_cleaned o place (record { left = left; parts = parts }) steady)

-- ---- one place further, and the last one

pub full_next : (i left more n : ℕ) (o : Option ℕ) (parts after : Parts) → IsSteady parts → i < n → parts.plan.dram_frames ≡ n → o ≡ parts.map.full_page i
    → place_cleaned o (Full i) (record { left = left; parts = parts }) ≡ record { left = more; parts = after } → fulls_written (i + 1) more after ≡ fulls_written i left parts
full_next i left more n o parts after steady low same owner is =
    full_step i left more parts after steady.agrees (subst (λ (m : ℕ). i < m) (sym same) low)
    (ap (λ (x : Option ℕ). place_cleaned x (Full i) (record { left = left; parts = parts })) (sym owner) ∙ is)

pub mini_next : (j left more n : ℕ) (o : Option ℕ) (parts after : Parts) → IsSteady parts → j < n → parts.plan.minis ≡ n → o ≡ parts.map.mini_owner j
    → place_cleaned o (Mini j) (record { left = left; parts = parts }) ≡ record { left = more; parts = after } → minis_written (j + 1) more after ≡ minis_written j left parts
mini_next j left more n o parts after steady low same owner is =
    mini_step j left more parts after steady.agrees (subst (λ (m : ℕ). j < m) (sym same) low)
    (ap (λ (x : Option ℕ). place_cleaned x (Mini j) (record { left = left; parts = parts })) (sym owner) ∙ is)

pub fulls_done : (i left n : ℕ) (parts : Parts) → parts.plan.dram_frames ≡ n → n ≤ i → i ≤ n → minis_cleaned left parts ≡ fulls_written i left parts
fulls_done i left n parts same low high =
    let last : parts.plan.dram_frames ≡ i = omega arith in
    sym (no_fulls left parts) ∙ ap (λ (k : ℕ). fulls_written k left parts) last

pub minis_done : (j left n : ℕ) (parts : Parts) → parts.plan.minis ≡ n → n ≤ j → j ≤ n → parts ≡ minis_written j left parts
minis_done j left n parts same low high =
    let last : parts.plan.minis ≡ j = omega arith in
    sym (no_minis left parts) ∙ ap (λ (k : ℕ). minis_written k left parts) last
