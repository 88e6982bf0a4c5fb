-- A mini copy that becomes a full one.
use Rattle.std.proofs.Common.{◌≡◌, ℕ, refl, ap, ◌∙◌}
use Rattle.std.specs.Prelude.{None}
use Rattle.tier_map.specs.declared.place.Place.{Place}
use Rattle.tier_map.specs.declared.place.Place.TheVariants.{Absent, Mini}
use Rattle.tier_map.specs.Placement.{full_of, freed}
use Rattle.tier_map.proofs.PlacementLaws.{changed-same}
use Rattle.tier_rules.specs.Tallies.{counted, one_promotion}
use Rattle.tier_rules.specs.Parts.{Parts}
use Rattle.tier_pool.specs.Places.{copy_dropped}
use Rattle.tier_pool.specs.Bringing.{full_placed}
use Rattle.tier_pool.specs.Touching.{lines_moved, promoted}

pub moved_absent : (page j i : ℕ) (old moved dropped : Parts) → moved ≡ lines_moved j i old → dropped ≡ copy_dropped page moved → dropped.map.place page ≡ Absent
moved_absent page j i old moved dropped is after = ap (λ (p : Parts). p.map.place page) after ∙ changed-same page Absent moved.map.place page refl

pub moved_free : (page j i : ℕ) (old moved dropped : Parts) → old.map.place page ≡ Mini j → old.map.full_page i ≡ None → moved ≡ lines_moved j i old → dropped ≡ copy_dropped page moved
    → dropped.map.full_page i ≡ None
moved_free page j i old moved dropped here free is after =
    ap (λ (p : Parts). p.map.full_page i) after
    ∙ ap (λ (place : Place). freed (full_of place) moved.map.full_page i) (ap (λ (p : Parts). p.map.place page) is ∙ here)
    ∙ ap (λ (p : Parts). p.map.full_page i) is
    ∙ free

pub promoted_is : (page j i n : ℕ) (old moved dropped placed : Parts) → moved ≡ lines_moved j i old → dropped ≡ copy_dropped page moved → placed ≡ full_placed page i dropped
    → n ≡ counted 1 placed.tally.promotions → record placed { tally = record placed.tally { promotions = n } } ≡ promoted page j i old
promoted_is page j i n old moved dropped placed is after there count =
    ap (λ (m : ℕ). record placed { tally = record placed.tally { promotions = m } }) count
    ∙ ap (λ (p : Parts). record p { tally = one_promotion p.tally }) (there ∙ ap (full_placed page i) (after ∙ ap (copy_dropped page) is))
