-- What each change of the fields makes of the plain data.
use Rattle.std.proofs.Common.{Bool, true, false, ◌≡◌, ◌≢◌, ◌⊎◌, ℕ, ◌<◌, ◌&&◌, length, get_or, slice_index, slice_set, refl, sym, ap, ◌∙◌, subst, inl, inr, eqb, Option, Some, None}
use Rattle.std.proofs.lemmas.List.{get_or-set_same, get_or-set_other}
use Rattle.std.proofs.lemmas.Bool.{cases_Bool, cases_eq, and_parts, eqb-true, eq-eqb, ne_eqb, cond-true, cond-false}
use Rattle.nvm_model.specs.declared.line.Line.{Line}
use Rattle.devices.specs.State.{Image}
use Rattle.store_model.specs.Layout.{Sizes}
use Rattle.tier_map.specs.declared.place.Place.{Place}
use Rattle.tier_map.specs.declared.place.Place.TheVariants.{Absent, Full, Mini}
use Rattle.tier_map.specs.Placement.{Placement, Agrees, full_of, mini_of, with_nvm, without_nvm, freed}
use Rattle.tier_map.proofs.PlacementLaws.{changed-same, changed-other}
use Rattle.page_frame.specs.LineSets.{no_lines, has_line, with_line}
use Rattle.page_frame.specs.Frames.{empty_frame, line_at}
use Rattle.mini_page.specs.MiniPages.{empty_mini}
use Rattle.mini_page.proofs.ChangeLaws.{has_set, has_other, has_none}
use Rattle.tier_rules.specs.Parts.{Parts, copy_at, dirty_at, copy_line}
use Rattle.tier_facts.specs.Data.{Data, put_in, page_cleaned, marked_worn, installed, released, SameData, IsHome, Recopied}
use Rattle.part_laws.specs.PartData.{dirty_lines, data_of_parts, SameOthers, SameCopies, SameFrames}

none_some : {A B : Type 0} {x : B} → None ≡ Some x → A
none_some e = absurd (let no : ⊥ = cc in no)

some_same : {m n : ℕ} → Some m ≡ Some n → m ≡ n
some_same e = cc

-- ---- places

-- a full place has one page, and so has a mini place
pub alone_full : (m : Placement) → Agrees m → (p q i : ℕ) → m.place p ≡ Full i → m.place q ≡ Full i → q ≡ p
alone_full m agrees p q i at_p at_q = some_same (sym ((agrees.full q i).0 (ap full_of at_q)) ∙ (agrees.full p i).0 (ap full_of at_p))

pub alone_mini : (m : Placement) → Agrees m → (p q j : ℕ) → m.place p ≡ Mini j → m.place q ≡ Mini j → q ≡ p
alone_mini m agrees p q j at_p at_q = some_same (sym ((agrees.mini q j).0 (ap mini_of at_q)) ∙ (agrees.mini p j).0 (ap mini_of at_p))

-- no page has a free place
pub free_full : (m : Placement) → Agrees m → (i : ℕ) → m.full_page i ≡ None → (p : ℕ) → m.place p ≡ Full i → ⊥
free_full m agrees i free p at = none_some (sym free ∙ (agrees.full p i).0 (ap full_of at))

pub free_mini : (m : Placement) → Agrees m → (j : ℕ) → m.mini_owner j ≡ None → (p : ℕ) → m.place p ≡ Mini j → ⊥
free_mini m agrees j free p at = none_some (sym free ∙ (agrees.mini p j).0 (ap mini_of at))

-- the copies of other pages are as they were where their places are, and what stands there
pub others_by : (page : ℕ) (old new : Parts) → ((p : ℕ) → p ≢ page → new.map.place p ≡ old.map.place p)
    → ((p i : ℕ) → p ≢ page → old.map.place p ≡ Full i → (get_or new.arena i empty_frame ≡ get_or old.arena i empty_frame) × (slice_index new.full_dirty i ≡ slice_index old.full_dirty i))
    → ((p j : ℕ) → p ≢ page → old.map.place p ≡ Mini j → get_or new.minis j empty_mini ≡ get_or old.minis j empty_mini) → SameOthers page old new
others_by page old new places fulls minis = record {
  copies = λ p l other. ap (λ (x : Place). line_at (copy_at x new.arena new.minis) l) (places p other) ∙ copies p l other (old.map.place p) refl;
  dirty = λ p other. ap (λ (x : Place). dirty_at x new.full_dirty new.minis) (places p other) ∙ marks p other (old.map.place p) refl;
}
  where
    copies : (p l : ℕ) → p ≢ page → (x : Place) → old.map.place p ≡ x → line_at (copy_at x new.arena new.minis) l ≡ line_at (copy_at x old.arena old.minis) l
    copies p l other Absent at = refl
    copies p l other (Full i) at = ap (λ f. line_at f l) (fulls p i other at).0
    copies p l other (Mini j) at = ap (λ m. line_at m.places l) (minis p j other at)

    marks : (p : ℕ) → p ≢ page → (x : Place) → old.map.place p ≡ x → dirty_at x new.full_dirty new.minis ≡ dirty_at x old.full_dirty old.minis
    marks p other Absent at = refl
    marks p other (Full i) at = (fulls p i other at).1
    marks p other (Mini j) at = ap (λ m. m.dirty) (minis p j other at)

-- ---- copies

module _ (g : Sizes) (old new : Parts) (page : ℕ) (others : SameOthers page old new) (frames : SameFrames old new) where
  abbrev t : Data
  t = data_of_parts g old

  abbrev u : Data
  u = data_of_parts g new

  -- lines of one page's copy that are as they were or were read from their homes
  pub page_recopied : (i : Image) → ((l : ℕ) → l < 64 → ((copy_line new page l ≡ copy_line old page l) × (has_line (dirty_lines new page) l ≡ has_line (dirty_lines old page) l)) ⊎ IsHome t u i page l) → Recopied t u i
  page_recopied i here = record {
    sizes = refl;
    frame = frames.nvm;
    owner = frames.frame_page;
    worn = λ k p at not. sym (ap (λ marks. get_or marks k false) frames.marks) ∙ not;
    lines = λ p l hp hl. elim (cases_eq p page) [
      | inr other ↦ inl (others.copies p l other, ap (λ set. has_line set l) (others.dirty p other))
      | inl same ↦ subst (λ q. ((copy_line new q l ≡ copy_line old q l) × (has_line (dirty_lines new q) l ≡ has_line (dirty_lines old q) l)) ⊎ IsHome t u i q l) (sym same) (here l hl)
    ];
  }

  -- the page's copy has the same lines, none of them dirty
  pub page_clean : ((l : ℕ) → l < 64 → copy_line new page l ≡ copy_line old page l) → dirty_lines new page ≡ no_lines → SameData (page_cleaned page t) u
  page_clean same clean = record {
    sizes = refl;
    copy = λ p l hp hl. elim (cases_eq p page) [
      | inr other ↦ others.copies p l other
      | inl here ↦ subst (λ q. copy_line new q l ≡ copy_line old q l) (sym here) (same l hl)
    ];
    dirty = λ p l hp hl. elim (cases_eq p page) [
      | inr other ↦ ap (λ set. has_line set l) (others.dirty p other) ∙ sym (cond-false (eqb p page) false (t.dirty p l) (ne_eqb p page other))
      | inl here ↦ ap (λ q. has_line (dirty_lines new q) l) here ∙ ap (λ set. has_line set l) clean ∙ has_none l ∙ sym (cond-true (eqb p page) false (t.dirty p l) (eq-eqb p page here))
    ];
    frame = frames.nvm;
    owner = frames.frame_page;
    worn = λ k p at. ap (λ marks. get_or marks k false) frames.marks;
  }

  -- a line of it has another value, and is dirty
  pub page_put : (line : ℕ) (value : Line) → line < 64 → copy_line new page line ≡ Some value → ((l : ℕ) → l < 64 → l ≢ line → copy_line new page l ≡ copy_line old page l)
      → dirty_lines new page ≡ with_line (dirty_lines old page) line → SameData (put_in page line value t) u
  page_put line value low here rest marked = record {
    sizes = refl;
    copy = λ p l hp hl. elim (cases_Bool (eqb p page && eqb l line)) [
      | inl is ↦ ap (λ q. copy_line new q l) (at p l is).0 ∙ ap (copy_line new page) (at p l is).1 ∙ here ∙ sym (cond-true (eqb p page && eqb l line) (Some value) (copy_line old p l) is)
      | inr not ↦ other_copy p l hl not ∙ sym (cond-false (eqb p page && eqb l line) (Some value) (copy_line old p l) not)
    ];
    dirty = λ p l hp hl. elim (cases_Bool (eqb p page && eqb l line)) [
      | inl is ↦ ap (λ q. has_line (dirty_lines new q) l) (at p l is).0 ∙ ap (has_line (dirty_lines new page)) (at p l is).1 ∙ ap (λ set. has_line set line) marked ∙ has_set (dirty_lines old page) line low
          ∙ sym (cond-true (eqb p page && eqb l line) true (t.dirty p l) is)
      | inr not ↦ other_mark p l hl not ∙ sym (cond-false (eqb p page && eqb l line) true (t.dirty p l) not)
    ];
    frame = frames.nvm;
    owner = frames.frame_page;
    worn = λ k p at. ap (λ marks. get_or marks k false) frames.marks;
  }
    where
      at : (p l : ℕ) → (eqb p page && eqb l line) ≡ true → (p ≡ page) × (l ≡ line)
      at p l is = let parts : (eqb p page ≡ true) × (eqb l line ≡ true) = and_parts (eqb p page) (eqb l line) is in (eqb-true p page parts.0, eqb-true l line parts.1)

      apart : (p l : ℕ) → (eqb p page && eqb l line) ≡ false → p ≡ page → l ≢ line
      apart p l not e f = let is : (eqb p page && eqb l line) ≡ true = rw (eq-eqb p page e, eq-eqb l line f) refl in cc

      other_copy : (p l : ℕ) → l < 64 → (eqb p page && eqb l line) ≡ false → copy_line new p l ≡ copy_line old p l
      other_copy p l hl not = elim (cases_eq p page) [
        | inr other ↦ others.copies p l other
        | inl same ↦ subst (λ q. copy_line new q l ≡ copy_line old q l) (sym same) (rest l hl (apart p l not same))
      ]

      other_mark : (p l : ℕ) → l < 64 → (eqb p page && eqb l line) ≡ false → has_line (dirty_lines new p) l ≡ has_line (dirty_lines old p) l
      other_mark p l hl not = elim (cases_eq p page) [
        | inr other ↦ ap (λ set. has_line set l) (others.dirty p other)
        | inl same ↦ subst (λ q. has_line (dirty_lines new q) l ≡ has_line (dirty_lines old q) l) (sym same)
            (ap (λ set. has_line set l) marked ∙ has_other (dirty_lines old page) line l low (apart p l not same))
      ]

-- ---- frames

-- a frame is marked
pub frame_marked : (g : Sizes) (old new : Parts) (k : ℕ) → SameCopies old new → ((p : ℕ) → new.map.nvm p ≡ old.map.nvm p) → ((n : ℕ) → new.map.frame_page n ≡ old.map.frame_page n)
    → k < length old.frame_dirty → new.frame_dirty ≡ slice_set old.frame_dirty k true → SameData (marked_worn k (data_of_parts g old)) (data_of_parts g new)
frame_marked g old new k copies nvm owners low marks = record {
  sizes = refl;
  copy = λ p l hp hl. copies.copies p l;
  dirty = λ p l hp hl. ap (λ set. has_line set l) (copies.dirty p);
  frame = nvm;
  owner = owners;
  worn = λ n p at. ap (λ xs. get_or xs n false) marks ∙ elim (cases_eq n k) [
    | inl here ↦ ap (λ m. get_or (slice_set old.frame_dirty k true) m false) here ∙ get_or-set_same old.frame_dirty k true false low ∙ sym (changed-same k true (data_of_parts g old).worn n here)
    | inr other ↦ get_or-set_other old.frame_dirty k n true false other ∙ sym (changed-other k true (data_of_parts g old).worn n other)
  ];
}

-- a page gets a frame, and its copy is clean
pub page_installed : (g : Sizes) (old new : Parts) (page k : ℕ) (worn : Bool) → SameOthers page old new → ((l : ℕ) → l < 64 → copy_line new page l ≡ copy_line old page l) → dirty_lines new page ≡ no_lines
    → ((p : ℕ) → new.map.nvm p ≡ (with_nvm page k old.map).nvm p) → ((n : ℕ) → new.map.frame_page n ≡ (with_nvm page k old.map).frame_page n)
    → k < length old.frame_dirty → new.frame_dirty ≡ slice_set old.frame_dirty k worn → SameData (installed page k worn (data_of_parts g old)) (data_of_parts g new)
page_installed g old new page k worn others same clean nvm owners low marks = record {
  sizes = refl;
  copy = λ p l hp hl. elim (cases_eq p page) [
    | inr other ↦ others.copies p l other
    | inl here ↦ subst (λ q. copy_line new q l ≡ copy_line old q l) (sym here) (same l hl)
  ];
  dirty = λ p l hp hl. elim (cases_eq p page) [
    | inr other ↦ ap (λ set. has_line set l) (others.dirty p other) ∙ sym (cond-false (eqb p page) false ((data_of_parts g old).dirty p l) (ne_eqb p page other))
    | inl here ↦ ap (λ q. has_line (dirty_lines new q) l) here ∙ ap (λ set. has_line set l) clean ∙ has_none l ∙ sym (cond-true (eqb p page) false ((data_of_parts g old).dirty p l) (eq-eqb p page here))
  ];
  frame = nvm;
  owner = owners;
  worn = λ n p at. ap (λ xs. get_or xs n false) marks ∙ elim (cases_eq n k) [
    | inl here ↦ ap (λ m. get_or (slice_set old.frame_dirty k worn) m false) here ∙ get_or-set_same old.frame_dirty k worn false low ∙ sym (changed-same k worn (data_of_parts g old).worn n here)
    | inr other ↦ get_or-set_other old.frame_dirty k n worn false other ∙ sym (changed-other k worn (data_of_parts g old).worn n other)
  ];
}

-- a page loses its frame, and the frame its mark
pub page_released : (g : Sizes) (old new : Parts) (page k : ℕ) → SameCopies old new → old.map.nvm page ≡ Some k
    → ((p : ℕ) → new.map.nvm p ≡ (without_nvm page old.map).nvm p) → ((n : ℕ) → new.map.frame_page n ≡ (without_nvm page old.map).frame_page n)
    → new.frame_dirty ≡ slice_set old.frame_dirty k false → SameData (released page k (data_of_parts g old)) (data_of_parts g new)
page_released g old new page k copies placed nvm owners marks = record {
  sizes = refl;
  copy = λ p l hp hl. copies.copies p l;
  dirty = λ p l hp hl. ap (λ set. has_line set l) (copies.dirty p);
  frame = nvm;
  owner = λ n. owners n ∙ ap (λ (o : Option ℕ). freed o old.map.frame_page n) placed;
  worn = λ n p at. ap (λ xs. get_or xs n false) marks ∙ elim (cases_eq n k) [
    | inl here ↦ none_some (sym (changed-same k None old.map.frame_page n here) ∙ at)
    | inr other ↦ get_or-set_other old.frame_dirty k n false false other
  ];
}
