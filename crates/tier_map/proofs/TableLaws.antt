-- A write to a table is a change of the function that it shows.
use Rattle.std.proofs.Common.{◌≡◌, ℕ, ◌<◌, inl, inr, List, length, refl, sym, ap, ◌∙◌, replicate, arith}
use Rattle.std.specs.Prelude.{Option, Some, None, slice_index_or, slice_set}
use Rattle.std.specs.Global.{Vec}
use Rattle.std.specs.Vec.{with_items}
use Rattle.std.proofs.lemmas.Bool.{cases_eq, cases_lt}
use Rattle.std.proofs.lemmas.List.{get_or-set_same, get_or-set_other, get_or-replicate, get_or_past, length-set, length-replicate, with_items_is}
use Rattle.tier_map.specs.declared.place.PagePlaces.{PagePlaces}
use Rattle.tier_map.specs.declared.place.Place.{Place}
use Rattle.tier_map.specs.declared.place.Place.TheVariants.{Absent, Full, Mini}
use Rattle.tier_map.specs.Placement.{changed, Agrees, nothing_placed, with_full, with_mini, with_nvm, without_dram, without_nvm}
use Rattle.tier_map.specs.Tables.{nowhere, shown}
use Rattle.tier_map.proofs.PlacementLaws.{changed-same, changed-other}

pub shown-set : {A : Type 0} (xs : List A) (k : ℕ) (v d : A) → k < length xs → ◌≡◌ {A = ℕ → A} (λ i. slice_index_or (slice_set xs k v) i d) (changed k v (λ i. slice_index_or xs i d))
shown-set xs k v d h = λ i j. at j i
  where
    at : (j : ℕ) → slice_index_or (slice_set xs k v) j d ≡ changed k v (λ i. slice_index_or xs i d) j
    at j = elim (cases_eq j k) [
      | inl e ↦ rw e (get_or-set_same xs k v d h ∙ sym (changed-same k v (λ i. slice_index_or xs i d) k refl))
      | inr n ↦ get_or-set_other xs k j v d n ∙ sym (changed-other k v (λ i. slice_index_or xs i d) j n)
    ]

-- a part of what stands there changes
pub part-set : {A B : Type 0} (part : A → B) (xs : List A) (k : ℕ) (v d : A) → k < length xs
    → ◌≡◌ {A = ℕ → B} (λ i. part (slice_index_or (slice_set xs k v) i d)) (changed k (part v) (λ i. part (slice_index_or xs i d)))
part-set part xs k v d h = λ i j. at j i
  where
    at : (j : ℕ) → part (slice_index_or (slice_set xs k v) j d) ≡ changed k (part v) (λ i. part (slice_index_or xs i d)) j
    at j = elim (cases_eq j k) [
      | inl e ↦ rw e (ap part (get_or-set_same xs k v d h) ∙ sym (changed-same k (part v) (λ i. part (slice_index_or xs i d)) k refl))
      | inr n ↦ ap part (get_or-set_other xs k j v d n) ∙ sym (changed-other k (part v) (λ i. part (slice_index_or xs i d)) j n)
    ]

-- and a part stays
pub part-kept : {A B : Type 0} (part : A → B) (xs : List A) (k : ℕ) (v d : A) → k < length xs → part v ≡ part (slice_index_or xs k d)
    → ◌≡◌ {A = ℕ → B} (λ i. part (slice_index_or (slice_set xs k v) i d)) (λ i. part (slice_index_or xs i d))
part-kept part xs k v d h same = λ i j. at j i
  where
    at : (j : ℕ) → part (slice_index_or (slice_set xs k v) j d) ≡ part (slice_index_or xs j d)
    at j = elim (cases_eq j k) [
      | inl e ↦ rw e (ap part (get_or-set_same xs k v d h) ∙ same)
      | inr n ↦ ap part (get_or-set_other xs k j v d n)
    ]

-- what a vector holds after one place of it was written
pub written : {A : Type 0} (v : Vec A) (old new : List A) (k : ℕ) (x : A) → old ≡ v.items → new ≡ slice_set old k x → (with_items v new).items ≡ slice_set v.items k x
written v old new k x e f =
    let kept : length new ≡ length v.items = ap length f ∙ length-set old k x ∙ ap length e in
    let size = v.ok.0 in
    with_items_is v new (omega arith) ∙ f ∙ ap (λ xs. slice_set xs k x) e

-- the same, where one part of what stood there was written
pub placed : (v : Vec PagePlaces) (old new : List PagePlaces) (p : ℕ) (place : Place) → old ≡ v.items
    → new ≡ slice_set old p (record (slice_index_or old p nowhere) { place = place })
    → (with_items v new).items ≡ slice_set v.items p (record (slice_index_or v.items p nowhere) { place = place })
placed v old new p place e f = written v old new p (record (slice_index_or v.items p nowhere) { place = place }) e (f ∙ ap (λ xs. slice_set old p (record (slice_index_or xs p nowhere) { place = place })) e)

pub framed : (v : Vec PagePlaces) (old new : List PagePlaces) (p : ℕ) (nvm : Option ℕ) → old ≡ v.items
    → new ≡ slice_set old p (record (slice_index_or old p nowhere) { nvm = nvm })
    → (with_items v new).items ≡ slice_set v.items p (record (slice_index_or v.items p nowhere) { nvm = nvm })
framed v old new p nvm e f = written v old new p (record (slice_index_or v.items p nowhere) { nvm = nvm }) e (f ∙ ap (λ xs. slice_set old p (record (slice_index_or xs p nowhere) { nvm = nvm })) e)

-- ---- what two writes show

module _ (pages : List PagePlaces) (fulls minis frames : List (Option ℕ)) (p i : ℕ) (here : p < length pages) where
  pub full-shows : i < length fulls
      → shown (slice_set pages p (record (slice_index_or pages p nowhere) { place = Full i })) (slice_set fulls i (Some p)) minis frames
      ≡ with_full p i (shown pages fulls minis frames)
  full-shows there = λ j. record {
    place = part-set (λ s. s.place) pages p (record (slice_index_or pages p nowhere) { place = Full i }) nowhere here j;
    nvm = part-kept (λ s. s.nvm) pages p (record (slice_index_or pages p nowhere) { place = Full i }) nowhere here refl j;
    full_page = shown-set fulls i (Some p) None there j;
    mini_owner = λ n. slice_index_or minis n None;
    frame_page = λ n. slice_index_or frames n None;
  }

  pub mini-shows : i < length minis
      → shown (slice_set pages p (record (slice_index_or pages p nowhere) { place = Mini i })) fulls (slice_set minis i (Some p)) frames
      ≡ with_mini p i (shown pages fulls minis frames)
  mini-shows there = λ j. record {
    place = part-set (λ s. s.place) pages p (record (slice_index_or pages p nowhere) { place = Mini i }) nowhere here j;
    nvm = part-kept (λ s. s.nvm) pages p (record (slice_index_or pages p nowhere) { place = Mini i }) nowhere here refl j;
    full_page = λ n. slice_index_or fulls n None;
    mini_owner = shown-set minis i (Some p) None there j;
    frame_page = λ n. slice_index_or frames n None;
  }

  pub frame-shows : i < length frames
      → shown (slice_set pages p (record (slice_index_or pages p nowhere) { nvm = Some i })) fulls minis (slice_set frames i (Some p))
      ≡ with_nvm p i (shown pages fulls minis frames)
  frame-shows there = λ j. record {
    place = part-kept (λ s. s.place) pages p (record (slice_index_or pages p nowhere) { nvm = Some i }) nowhere here refl j;
    nvm = part-set (λ s. s.nvm) pages p (record (slice_index_or pages p nowhere) { nvm = Some i }) nowhere here j;
    full_page = λ n. slice_index_or fulls n None;
    mini_owner = λ n. slice_index_or minis n None;
    frame_page = shown-set frames i (Some p) None there j;
  }

  pub no_full-shows : (slice_index_or pages p nowhere).place ≡ Full i → i < length fulls
      → shown (slice_set pages p (record (slice_index_or pages p nowhere) { place = Absent })) (slice_set fulls i None) minis frames
      ≡ without_dram p (shown pages fulls minis frames)
  no_full-shows is there = rw is (λ j. record {
    place = part-set (λ s. s.place) pages p (record (slice_index_or pages p nowhere) { place = Absent }) nowhere here j;
    nvm = part-kept (λ s. s.nvm) pages p (record (slice_index_or pages p nowhere) { place = Absent }) nowhere here refl j;
    full_page = shown-set fulls i None None there j;
    mini_owner = λ n. slice_index_or minis n None;
    frame_page = λ n. slice_index_or frames n None;
  })

  pub no_mini-shows : (slice_index_or pages p nowhere).place ≡ Mini i → i < length minis
      → shown (slice_set pages p (record (slice_index_or pages p nowhere) { place = Absent })) fulls (slice_set minis i None) frames
      ≡ without_dram p (shown pages fulls minis frames)
  no_mini-shows is there = rw is (λ j. record {
    place = part-set (λ s. s.place) pages p (record (slice_index_or pages p nowhere) { place = Absent }) nowhere here j;
    nvm = part-kept (λ s. s.nvm) pages p (record (slice_index_or pages p nowhere) { place = Absent }) nowhere here refl j;
    full_page = λ n. slice_index_or fulls n None;
    mini_owner = shown-set minis i None None there j;
    frame_page = λ n. slice_index_or frames n None;
  })

  pub no_frame-shows : (slice_index_or pages p nowhere).nvm ≡ Some i → i < length frames
      → shown (slice_set pages p (record (slice_index_or pages p nowhere) { nvm = None })) fulls minis (slice_set frames i None)
      ≡ without_nvm p (shown pages fulls minis frames)
  no_frame-shows is there = rw is (λ j. record {
    place = part-kept (λ s. s.place) pages p (record (slice_index_or pages p nowhere) { nvm = None }) nowhere here refl j;
    nvm = part-set (λ s. s.nvm) pages p (record (slice_index_or pages p nowhere) { nvm = None }) nowhere here j;
    full_page = λ n. slice_index_or fulls n None;
    mini_owner = λ n. slice_index_or minis n None;
    frame_page = shown-set frames i None None there j;
  })

-- ---- a place that has a page is one of the table

pub in_table : (owners : List (Option ℕ)) (i p : ℕ) → slice_index_or owners i None ≡ Some p → i < length owners
in_table owners i p h = elim (cases_lt i (length owners)) [
  | inl less ↦ less
  | inr past ↦ absurd (let none = get_or_past owners i None past in cc)
]

-- ---- nothing is placed

blank : {A : Type 0} (n : ℕ) (a : A) (i : ℕ) → slice_index_or (replicate n a) i a ≡ a
blank n a i = elim (cases_lt i n) [
  | inl less ↦ get_or-replicate n i a a less
  | inr past ↦ get_or_past (replicate n a) i a (rw length-replicate past)
]

pub nothing-shows : (pages fulls minis frames : ℕ) → shown (replicate pages nowhere) (replicate fulls None) (replicate minis None) (replicate frames None) ≡ nothing_placed
nothing-shows pages fulls minis frames = λ j. record {
  place = λ q. ap (λ s. s.place) (blank pages nowhere q) j;
  nvm = λ q. ap (λ s. s.nvm) (blank pages nowhere q) j;
  full_page = λ n. blank fulls None n j;
  mini_owner = λ n. blank minis None n j;
  frame_page = λ n. blank frames None n j;
}

pub nothing-agrees : Agrees nothing_placed
nothing-agrees = record { full = λ p i. (λ h. absurd (cc), λ h. absurd (cc)); mini = λ p i. (λ h. absurd (cc), λ h. absurd (cc)); nvm = λ p i. (λ h. absurd (cc), λ h. absurd (cc)) }

-- ---- what the map shows after each of its calls wrote two places

module _ (pages : Vec PagePlaces) (owners : Vec (Option ℕ)) {spots spots' : List PagePlaces} {places places' : List (Option ℕ)} (others more : List (Option ℕ)) (p i : ℕ)
    (here : p < length pages.items) (there : i < length owners.items) (spots-is : spots ≡ pages.items) (places-is : places ≡ owners.items) where
  pub after_full : spots' ≡ slice_set spots p (record (slice_index_or spots p nowhere) { place = Full i }) → places' ≡ slice_set places i (Some p)
      → shown (with_items pages spots').items (with_items owners places').items others more ≡ with_full p i (shown pages.items owners.items others more)
  after_full put_spot put_owner =
      let spot = placed pages spots spots' p (Full i) spots-is put_spot in
      let owner = written owners places places' i (Some p) places-is put_owner in
      rw (spot, owner) (full-shows pages.items owners.items others more p i here there)

  pub after_mini : spots' ≡ slice_set spots p (record (slice_index_or spots p nowhere) { place = Mini i }) → places' ≡ slice_set places i (Some p)
      → shown (with_items pages spots').items others (with_items owners places').items more ≡ with_mini p i (shown pages.items others owners.items more)
  after_mini put_spot put_owner =
      let spot = placed pages spots spots' p (Mini i) spots-is put_spot in
      let owner = written owners places places' i (Some p) places-is put_owner in
      rw (spot, owner) (mini-shows pages.items others owners.items more p i here there)

  pub after_nvm : spots' ≡ slice_set spots p (record (slice_index_or spots p nowhere) { nvm = Some i }) → places' ≡ slice_set places i (Some p)
      → shown (with_items pages spots').items others more (with_items owners places').items ≡ with_nvm p i (shown pages.items others more owners.items)
  after_nvm put_spot put_owner =
      let spot = framed pages spots spots' p (Some i) spots-is put_spot in
      let owner = written owners places places' i (Some p) places-is put_owner in
      rw (spot, owner) (frame-shows pages.items others more owners.items p i here there)

  pub after_no_full : spots' ≡ slice_set spots p (record (slice_index_or spots p nowhere) { place = Absent }) → places' ≡ slice_set places i None
      → (slice_index_or pages.items p nowhere).place ≡ Full i
      → shown (with_items pages spots').items (with_items owners places').items others more ≡ without_dram p (shown pages.items owners.items others more)
  after_no_full put_spot put_owner is =
      let spot = placed pages spots spots' p Absent spots-is put_spot in
      let owner = written owners places places' i None places-is put_owner in
      rw (spot, owner) (no_full-shows pages.items owners.items others more p i here is there)

  pub after_no_mini : spots' ≡ slice_set spots p (record (slice_index_or spots p nowhere) { place = Absent }) → places' ≡ slice_set places i None
      → (slice_index_or pages.items p nowhere).place ≡ Mini i
      → shown (with_items pages spots').items others (with_items owners places').items more ≡ without_dram p (shown pages.items others owners.items more)
  after_no_mini put_spot put_owner is =
      let spot = placed pages spots spots' p Absent spots-is put_spot in
      let owner = written owners places places' i None places-is put_owner in
      rw (spot, owner) (no_mini-shows pages.items others owners.items more p i here is there)

  pub after_no_frame : spots' ≡ slice_set spots p (record (slice_index_or spots p nowhere) { nvm = None }) → places' ≡ slice_set places i None
      → (slice_index_or pages.items p nowhere).nvm ≡ Some i
      → shown (with_items pages spots').items others more (with_items owners places').items ≡ without_nvm p (shown pages.items others more owners.items)
  after_no_frame put_spot put_owner is =
      let spot = framed pages spots spots' p None spots-is put_spot in
      let owner = written owners places places' i None places-is put_owner in
      rw (spot, owner) (no_frame-shows pages.items others more owners.items p i here is there)
