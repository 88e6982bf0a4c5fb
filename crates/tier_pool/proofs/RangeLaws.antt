-- What the map names is in range.
use Rattle.std.proofs.Common.{◌≡◌, ℕ, ◌<◌, inl, inr, length, refl, sym, ap, ◌∙◌, subst}
use Rattle.std.specs.Prelude.{Option, Some, None}
use Rattle.std.proofs.lemmas.Bool.{cases_lt}
use Rattle.std.proofs.lemmas.List.{get_or_past}
use Rattle.tier_map.specs.declared.place.Place.{Place}
use Rattle.tier_map.specs.declared.place.PagePlaces.{PagePlaces}
use Rattle.tier_map.specs.declared.place.Place.TheVariants.{Absent, Full, Mini}
use Rattle.tier_map.specs.declared.map.TierMap.{TierMap}
use Rattle.tier_map.specs.Placement.{full_of, mini_of}
use Rattle.tier_map.specs.Contents.{Sizes, placement_of, sizes_of}
use Rattle.tier_map.specs.Tables.{nowhere}
use Rattle.tier_map.proofs.TableLaws.{in_table}
use Rattle.tier_pool.specs.declared.pool.TierPool.{TierPool}
use Rattle.tier_pool.specs.Fields.{parts_of}
use Rattle.tier_pool.specs.Sizes.{map_sizes}
use Rattle.tier_pool.specs.Places.{IsPlace}

full_in : (map : TierMap) (page i : ℕ) → (placement_of map).place page ≡ Full i → i < (sizes_of map).fulls
full_in map page i is = in_table map.fulls.items i page ((map.agrees.full page i).0 (ap full_of is))

mini_in : (map : TierMap) (page j : ℕ) → (placement_of map).place page ≡ Mini j → j < (sizes_of map).minis
mini_in map page j is = in_table map.minis.items j page ((map.agrees.mini page j).0 (ap mini_of is))

frame_in : (map : TierMap) (page k : ℕ) → (placement_of map).nvm page ≡ Some k → k < (sizes_of map).frames
frame_in map page k is = in_table map.frames.items k page ((map.agrees.nvm page k).0 is)

place_by : (t : TierPool) (page : ℕ) (place : Place) → (placement_of t.map).place page ≡ place → IsPlace (parts_of t).plan place
place_by t page Absent is = tt
place_by t page (Full i) is = subst (λ (n : ℕ). i < n) (ap (λ (s : Sizes). s.fulls) t.map_fits) (full_in t.map page i is)
place_by t page (Mini j) is = subst (λ (n : ℕ). j < n) (ap (λ (s : Sizes). s.minis) t.map_fits) (mini_in t.map page j is)

-- the place of a page is one that the plan has
pub place_in : (t : TierPool) (page : ℕ) → IsPlace (parts_of t).plan ((placement_of t.map).place page)
place_in t page = place_by t page ((placement_of t.map).place page) refl

-- the frame of a page is one of those
pub nvm_in : (t : TierPool) (page k : ℕ) → (placement_of t.map).nvm page ≡ Some k → k < t.geometry.frames
nvm_in t page k is = subst (λ (n : ℕ). k < n) (ap (λ (s : Sizes). s.frames) t.map_fits) (frame_in t.map page k is)

none_some : {A : Type 0} (k : ℕ) → ◌≡◌ {A = Option ℕ} None (Some k) → A
none_some k h = absurd (cc)

-- a page that has a place or a frame is one of the store
page_in : (map : TierMap) (page : ℕ) → ((placement_of map).place page ≡ Absent → ⊥) → page < (sizes_of map).pages
page_in map page there = elim (cases_lt page (length map.pages.items)) [
  | inl less ↦ less
  | inr past ↦ absurd (there (ap (λ (s : PagePlaces). s.place) (get_or_past map.pages.items page nowhere past)))
]

framed_in : (map : TierMap) (page k : ℕ) → (placement_of map).nvm page ≡ Some k → page < (sizes_of map).pages
framed_in map page k is = elim (cases_lt page (length map.pages.items)) [
  | inl less ↦ less
  | inr past ↦ none_some k (sym (ap (λ (s : PagePlaces). s.nvm) (get_or_past map.pages.items page nowhere past)) ∙ is)
]

full_not_absent : (place : Place) (i : ℕ) → full_of place ≡ Some i → place ≡ Absent → ⊥
full_not_absent Absent i h is = none_some i h
full_not_absent (Full j) i h is = absurd (cc)
full_not_absent (Mini j) i h is = none_some i h

mini_not_absent : (place : Place) (i : ℕ) → mini_of place ≡ Some i → place ≡ Absent → ⊥
mini_not_absent Absent i h is = none_some i h
mini_not_absent (Full j) i h is = none_some i h
mini_not_absent (Mini j) i h is = absurd (cc)

of_store : (t : TierPool) (page : ℕ) → page < (sizes_of t.map).pages → page < (map_sizes t.geometry t.policy).pages
of_store t page h = subst (λ (n : ℕ). page < n) (ap (λ (s : Sizes). s.pages) t.map_fits) h

-- the page of a frame, of a full place and of a mini place
pub owner_in : (t : TierPool) (k page : ℕ) → (placement_of t.map).frame_page k ≡ Some page → page < (map_sizes t.geometry t.policy).pages
owner_in t k page is = of_store t page (framed_in t.map page k ((t.map.agrees.nvm page k).1 is))

pub full_page_in : (t : TierPool) (i page : ℕ) → (placement_of t.map).full_page i ≡ Some page → page < (map_sizes t.geometry t.policy).pages
full_page_in t i page is = of_store t page (page_in t.map page (full_not_absent _ i ((t.map.agrees.full page i).1 is)))

pub mini_owner_in : (t : TierPool) (j page : ℕ) → (placement_of t.map).mini_owner j ≡ Some page → page < (map_sizes t.geometry t.policy).pages
mini_owner_in t j page is = of_store t page (page_in t.map page (mini_not_absent _ j ((t.map.agrees.mini page j).1 is)))

some_is : (a b : ℕ) → ◌≡◌ {A = Option ℕ} (Some a) (Some b) → a ≡ b
some_is a b h = cc

-- both ways of the placement
pub owner_placed : (t : TierPool) (k page : ℕ) → (placement_of t.map).frame_page k ≡ Some page → (placement_of t.map).nvm page ≡ Some k
owner_placed t k page is = (t.map.agrees.nvm page k).1 is
