-- Which page lies where, in both directions.
use Rattle.std.specs.Prelude.{◌≡◌, ◌↔◌, ℕ, ◌==◌, cond, Option, Some, None}
use Rattle.tier_map.specs.declared.place.Place.{Place}
use Rattle.tier_map.specs.declared.place.Place.TheVariants.{Absent, Full, Mini}

-- a function with another value at k
abbrev pub changed : {A : Type 0} → ℕ → A → (ℕ → A) → ℕ → A
changed k value f i = cond (i == k) value (f i)

-- Of each page its DRAM copy and its NVM frame; of each place and each frame its page.
pub record Placement : Type 0 where
  pub place : ℕ → Place
  pub nvm : ℕ → Option ℕ
  pub full_page : ℕ → Option ℕ
  pub mini_owner : ℕ → Option ℕ
  pub frame_page : ℕ → Option ℕ

abbrev pub nothing_placed : Placement
nothing_placed = record {
  place = λ page. Absent;
  nvm = λ page. None;
  full_page = λ i. None;
  mini_owner = λ j. None;
  frame_page = λ k. None;
}

abbrev pub with_full : ℕ → ℕ → Placement → Placement
with_full page i m = record m { place = changed page (Full i) m.place; full_page = changed i (Some page) m.full_page }

abbrev pub with_mini : ℕ → ℕ → Placement → Placement
with_mini page j m = record m { place = changed page (Mini j) m.place; mini_owner = changed j (Some page) m.mini_owner }

abbrev pub with_nvm : ℕ → ℕ → Placement → Placement
with_nvm page k m = record m { nvm = changed page (Some k) m.nvm; frame_page = changed k (Some page) m.frame_page }

-- the full place, and the mini place, that this is
abbrev pub full_of : Place → Option ℕ
full_of Absent = None
full_of (Full i) = Some i
full_of (Mini j) = None

abbrev pub mini_of : Place → Option ℕ
mini_of Absent = None
mini_of (Full i) = None
mini_of (Mini j) = Some j

-- a function without the value at this number, if there is one
abbrev pub freed : Option ℕ → (ℕ → Option ℕ) → ℕ → Option ℕ
freed None f = f
freed (Some i) f = changed i None f

abbrev pub without_dram : ℕ → Placement → Placement
without_dram page m = record m {
  place = changed page Absent m.place;
  full_page = freed (full_of (m.place page)) m.full_page;
  mini_owner = freed (mini_of (m.place page)) m.mini_owner;
}

abbrev pub without_nvm : ℕ → Placement → Placement
without_nvm page m = record m { nvm = changed page None m.nvm; frame_page = freed (m.nvm page) m.frame_page }

-- two directions of one relation: at most one i for each page, and at most one page for each i
abbrev pub Inverse : (ℕ → Option ℕ) → (ℕ → Option ℕ) → Type 0
Inverse to from = (page i : ℕ) → (to page ≡ Some i) ↔ (from i ≡ Some page)

-- the two directions agree in each tier
pub record Agrees (m : Placement) : Type 0 where
  pub full : Inverse (λ page. full_of (m.place page)) m.full_page
  pub mini : Inverse (λ page. mini_of (m.place page)) m.mini_owner
  pub nvm : Inverse m.nvm m.frame_page
