-- What follows of allowed sizes.
use Rattle.std.proofs.Common.{◌≡◌, ℕ, ◌+◌, ◌*◌, ◌<◌, ◌≤◌, ◌&&◌, true, false, Bool, arith, leb, refl}
use Rattle.std.proofs.lemmas.Bool.{leb-true}
use Rattle.flat_store_meaning.specs.Layout.{Sizes, pages, ring_lines, is_allowed, in_ranges}

last_part : (a b : Bool) → (a && b) ≡ true → b ≡ true
last_part true b h = h
last_part false b h = absurd (cc)

first_part : (a b : Bool) → (a && b) ≡ true → a ≡ true
first_part true b h = refl
first_part false b h = absurd (cc)

-- each page has its frame
pub pages_framed : (g : Sizes) → is_allowed g ≡ true → pages g ≤ g.frames
pages_framed g allowed = leb-true (pages g) g.frames (first_part (leb (pages g) g.frames) _ (last_part (in_ranges g) _ allowed))

pub page_framed : (g : Sizes) (page : ℕ) → is_allowed g ≡ true → page < pages g → page ≤ g.frames
page_framed g page allowed less = let all : pages g ≤ g.frames = pages_framed g allowed in omega (arith, all, less)

-- the ring takes the longest transaction
pub ring_takes : (g : Sizes) → is_allowed g ≡ true → 1920 * g.writes + 1 ≤ ring_lines g
ring_takes g allowed = leb-true (1920 * g.writes + 1) (ring_lines g) (last_part (leb (pages g) g.frames) _ (last_part (in_ranges g) _ allowed))
