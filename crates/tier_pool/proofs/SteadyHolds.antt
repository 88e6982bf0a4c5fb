-- What stands at the places, after each change of what stands at one of them.
use Rattle.std.proofs.Common.{◌≡◌, ◌≢◌, ℕ, ◌<◌, ◌⊎◌, inl, inr, List, length, get_or, slice_set, refl, sym, ap, ◌∙◌, subst, IsTrue}
use Rattle.std.specs.Prelude.{Option, Some, None}
use Rattle.std.proofs.lemmas.Bool.{cases_eq}
use Rattle.std.proofs.lemmas.List.{get_or-set_other, length-set}
use Rattle.nvm_model.specs.declared.line.Line.{Line}
use Rattle.tier_map.specs.declared.place.Place.{Place}
use Rattle.tier_map.specs.declared.place.Place.TheVariants.{Absent, Full, Mini}
use Rattle.tier_map.specs.Placement.{Placement, Agrees, freed, changed, full_of, mini_of, with_full, with_mini, with_nvm, without_dram, without_nvm}
use Rattle.tier_map.proofs.PlacementLaws.{changed-same, changed-other}
use Rattle.page_frame.specs.LineSets.{no_lines, has_line, with_line}
use Rattle.page_frame.specs.Frames.{Frame, empty_frame, line_at, with_value}
use Rattle.mini_page.specs.MiniPages.{MiniPage, empty_mini, cleaned_mini, mini_changed, mini_at}
use Rattle.mini_page.proofs.ChangeLaws.{has_none, has_other}
use Rattle.part_laws.proofs.PartLaws.{alone_full}
use Rattle.tier_pool.proofs.SteadyPieces.{empty_long, Holds, set_back, set_at, set_keeps}

-- no line is in the empty set
pub in_none : {A : Type 0} (set l : ℕ) → set ≡ no_lines → IsTrue (has_line set l) → A
in_none set l e dirty = absurd (let was = ap (λ (s : ℕ). has_line s l) e in let not = has_none l in cc)

pub none_some : {A B : Type 0} {x : B} → None ≡ Some x → A
none_some e = absurd (let no : ⊥ = cc in no)

pub absent_full : {A : Type 0} {i : ℕ} → Absent ≡ Full i → A
absent_full e = absurd (let no : ⊥ = cc in no)

pub absent_mini : {A : Type 0} {j : ℕ} → Absent ≡ Mini j → A
absent_mini e = absurd (let no : ⊥ = cc in no)

pub full_mini : {A : Type 0} {i j : ℕ} → Full i ≡ Mini j → A
full_mini e = absurd (let no : ⊥ = cc in no)

pub full_same : {i j : ℕ} → Full i ≡ Full j → i ≡ j
full_same e = cc

pub mini_same : {i j : ℕ} → Mini i ≡ Mini j → i ≡ j
mini_same e = cc

-- lines that were there are there
pub value_kept : (frame : Frame) (l k : ℕ) (v : Line) → ((x : Line) × (line_at frame k ≡ Some x)) → (x : Line) × (line_at (with_value l v frame) k ≡ Some x)
value_kept frame l k v was = elim (cases_eq k l) [
  | inr other ↦ (was.0, get_or-set_other frame l k (Some v) None other ∙ was.1)
  | inl same ↦ elim (set_at frame l (Some v) None) [
    | inl is ↦ (v, ap (λ (n : ℕ). line_at (with_value l v frame) n) same ∙ is)
    | inr past ↦ none_some (sym past.1 ∙ ap (line_at frame) (sym same) ∙ was.1)
  ]
]

module _ (map : Placement) (arena : List Frame) (marks : List ℕ) (minis : List MiniPage) where
  -- ---- a copy becomes clean

  pub holds_full_clean : (i : ℕ) → Holds map arena marks minis → Holds map arena (slice_set marks i no_lines) minis
  holds_full_clean i h = record {
    whole = h.whole;
    empty = h.empty;
    clean = λ k free. elim (cases_eq k i) [
      | inl same ↦ ap (λ (n : ℕ). get_or (slice_set marks i no_lines) n 0) same ∙ set_back marks i no_lines
      | inr other ↦ get_or-set_other marks i k no_lines 0 other ∙ h.clean k free
    ];
    mini_empty = h.mini_empty;
    there = λ k l low dirty. elim (cases_eq k i) [
      | inl same ↦ in_none (get_or (slice_set marks i no_lines) k 0) l (ap (λ (n : ℕ). get_or (slice_set marks i no_lines) n 0) same ∙ set_back marks i no_lines) dirty
      | inr other ↦ h.there k l low (subst (λ (set : ℕ). IsTrue (has_line set l)) (get_or-set_other marks i k no_lines 0 other) dirty)
    ];
    mini_there = h.mini_there;
    frame_long = h.frame_long;
    mini_long = h.mini_long;
  }

  -- what stands at a mini place then, where it is changed and where there is none
  changed_at : (h : MiniPage → MiniPage) → h empty_mini ≡ empty_mini → (j : ℕ) → get_or (slice_set minis j (h (get_or minis j empty_mini))) j empty_mini ≡ h (get_or minis j empty_mini)
  changed_at h same j = elim (set_at minis j (h (get_or minis j empty_mini)) empty_mini) [
    | inl is ↦ is
    | inr past ↦ past.0 ∙ sym same ∙ ap h (sym past.1)
  ]

  pub holds_mini_clean : (j : ℕ) → Holds map arena marks minis → Holds map arena marks (mini_changed j cleaned_mini minis)
  holds_mini_clean j h = record {
    whole = h.whole;
    empty = h.empty;
    clean = h.clean;
    mini_empty = λ k free. elim (cases_eq k j) [
      | inl same ↦ ap (λ (n : ℕ). get_or after n empty_mini) same ∙ changed_at cleaned_mini refl j ∙ ap cleaned_mini (ap (λ (n : ℕ). get_or minis n empty_mini) (sym same) ∙ h.mini_empty k free)
      | inr other ↦ get_or-set_other minis j k (cleaned_mini (mini_at minis j)) empty_mini other ∙ h.mini_empty k free
    ];
    there = h.there;
    frame_long = h.frame_long;
    mini_long = set_keeps (λ (m : MiniPage). length m.places ≡ 64) minis j (cleaned_mini (mini_at minis j)) empty_mini (h.mini_long j) h.mini_long;
    mini_there = λ k l low dirty. elim (cases_eq k j) [
      | inl same ↦ in_none (get_or after k empty_mini).dirty l (ap (λ (x : MiniPage). x.dirty) (ap (λ (n : ℕ). get_or after n empty_mini) same ∙ changed_at cleaned_mini refl j)) dirty
      | inr other ↦ kept k l (get_or-set_other minis j k (cleaned_mini (mini_at minis j)) empty_mini other) low dirty
    ];
  }
    where
      after : List MiniPage
      after = mini_changed j cleaned_mini minis

      kept : (k l : ℕ) → get_or (mini_changed j cleaned_mini minis) k empty_mini ≡ get_or minis k empty_mini → l < 64
          → IsTrue (has_line (get_or (mini_changed j cleaned_mini minis) k empty_mini).dirty l)
          → (value : Line) × (line_at (get_or (mini_changed j cleaned_mini minis) k empty_mini).places l ≡ Some value)
      kept k l same low dirty = let x = h.mini_there k l low (subst (λ (m : MiniPage). IsTrue (has_line m.dirty l)) same dirty) in (x.0, ap (λ (m : MiniPage). line_at m.places l) same ∙ x.1)

  -- ---- a page's copy is dropped

  -- who owns a place after that owned it before
  freed_was : (o : Option ℕ) (owner : ℕ → Option ℕ) (i k : ℕ) → o ≡ Some i → k ≢ i → freed o owner k ≡ None → owner k ≡ None
  freed_was o owner i k e other none = sym (changed-other i None owner k other) ∙ sym (ap (λ (x : Option ℕ). freed x owner k) e) ∙ none

  unfreed_was : (o : Option ℕ) (owner : ℕ → Option ℕ) (k : ℕ) → o ≡ None → freed o owner k ≡ None → owner k ≡ None
  unfreed_was o owner k e none = sym (ap (λ (x : Option ℕ). freed x owner k) e) ∙ none

  -- another page that has a copy after had it before
  other_page : (page q : ℕ) (place : Place) → (Absent ≡ place → ⊥) → changed page Absent map.place q ≡ place → (q ≢ page) × (map.place q ≡ place)
  other_page page q place never at = elim (cases_eq q page) [
    | inl same ↦ absurd (never (sym (changed-same page Absent map.place q same) ∙ at))
    | inr other ↦ (other, sym (changed-other page Absent map.place q other) ∙ at)
  ]

  module _ (page : ℕ) (agrees : Agrees map) where
    pub holds_none_dropped : map.place page ≡ Absent → Holds map arena marks minis → Holds (without_dram page map) arena marks minis
    holds_none_dropped here h = record {
      whole = λ q i l at none low. let x = other_page page q (Full i) (λ e. absent_full e) at in h.whole q i l x.1 none low;
      empty = λ i free. h.empty i (unfreed_was (full_of (map.place page)) map.full_page i (ap full_of here) free);
      clean = λ i free. h.clean i (unfreed_was (full_of (map.place page)) map.full_page i (ap full_of here) free);
      mini_empty = λ j free. h.mini_empty j (unfreed_was (mini_of (map.place page)) map.mini_owner j (ap mini_of here) free);
      there = h.there;
      mini_there = h.mini_there;
      frame_long = h.frame_long;
      mini_long = h.mini_long;
    }

    pub holds_full_dropped : (i : ℕ) → map.place page ≡ Full i → Holds map arena marks minis → Holds (without_dram page map) (slice_set arena i empty_frame) (slice_set marks i no_lines) minis
    holds_full_dropped i here h = record {
      whole = λ q k l at none low.
          let x = other_page page q (Full k) (λ e. absent_full e) at in
          let apart : k ≢ i = λ same. x.0 (alone_full map agrees page q i here (x.1 ∙ ap Full same)) in
          let was = h.whole q k l x.1 none low in
          (was.0, ap (λ (f : Frame). line_at f l) (get_or-set_other arena i k empty_frame empty_frame apart) ∙ was.1);
      empty = λ k free. elim (cases_eq k i) [
        | inl same ↦ ap (λ (n : ℕ). get_or (slice_set arena i empty_frame) n empty_frame) same ∙ set_back arena i empty_frame
        | inr other ↦ get_or-set_other arena i k empty_frame empty_frame other ∙ h.empty k (freed_was (full_of (map.place page)) map.full_page i k (ap full_of here) other free)
      ];
      clean = λ k free. elim (cases_eq k i) [
        | inl same ↦ ap (λ (n : ℕ). get_or (slice_set marks i no_lines) n 0) same ∙ set_back marks i no_lines
        | inr other ↦ get_or-set_other marks i k no_lines 0 other ∙ h.clean k (freed_was (full_of (map.place page)) map.full_page i k (ap full_of here) other free)
      ];
      mini_empty = λ j free. h.mini_empty j (unfreed_was (mini_of (map.place page)) map.mini_owner j (ap mini_of here) free);
      there = λ k l low dirty. elim (cases_eq k i) [
        | inl same ↦ in_none (get_or (slice_set marks i no_lines) k 0) l (ap (λ (n : ℕ). get_or (slice_set marks i no_lines) n 0) same ∙ set_back marks i no_lines) dirty
        | inr other ↦
            let was = h.there k l low (subst (λ (set : ℕ). IsTrue (has_line set l)) (get_or-set_other marks i k no_lines 0 other) dirty) in
            (was.0, ap (λ (f : Frame). line_at f l) (get_or-set_other arena i k empty_frame empty_frame other) ∙ was.1)
      ];
      mini_there = h.mini_there;
      frame_long = set_keeps (λ (f : Frame). length f ≡ 64) arena i empty_frame empty_frame empty_long h.frame_long;
      mini_long = h.mini_long;
    }

    pub holds_mini_dropped : (j : ℕ) → map.place page ≡ Mini j → Holds map arena marks minis → Holds (without_dram page map) arena marks (slice_set minis j empty_mini)
    holds_mini_dropped j here h = record {
      whole = λ q i l at none low. let x = other_page page q (Full i) (λ e. absent_full e) at in h.whole q i l x.1 none low;
      empty = λ i free. h.empty i (unfreed_was (full_of (map.place page)) map.full_page i (ap full_of here) free);
      clean = λ i free. h.clean i (unfreed_was (full_of (map.place page)) map.full_page i (ap full_of here) free);
      mini_empty = λ k free. elim (cases_eq k j) [
        | inl same ↦ ap (λ (n : ℕ). get_or (slice_set minis j empty_mini) n empty_mini) same ∙ set_back minis j empty_mini
        | inr other ↦ get_or-set_other minis j k empty_mini empty_mini other ∙ h.mini_empty k (freed_was (mini_of (map.place page)) map.mini_owner j k (ap mini_of here) other free)
      ];
      there = h.there;
      frame_long = h.frame_long;
      mini_long = set_keeps (λ (m : MiniPage). length m.places ≡ 64) minis j empty_mini empty_mini empty_long h.mini_long;
      mini_there = λ k l low dirty. elim (cases_eq k j) [
        | inl same ↦ in_none (get_or (slice_set minis j empty_mini) k empty_mini).dirty l
            (ap (λ (x : MiniPage). x.dirty) (ap (λ (n : ℕ). get_or (slice_set minis j empty_mini) n empty_mini) same ∙ set_back minis j empty_mini)) dirty
        | inr other ↦
            let same = get_or-set_other minis j k empty_mini empty_mini other in
            let was = h.mini_there k l low (subst (λ (m : MiniPage). IsTrue (has_line m.dirty l)) same dirty) in
            (was.0, ap (λ (m : MiniPage). line_at m.places l) same ∙ was.1)
      ];
    }

  -- ---- a page leaves its frame, or gets one

  pub holds_unframed : (page : ℕ) → map.place page ≡ Absent → Holds map arena marks minis → Holds (without_nvm page map) arena marks minis
  holds_unframed page absent h = record {
    whole = λ q i l at none low. h.whole q i l at (sym (changed-other page None map.nvm q (λ same. absent_full (sym absent ∙ ap map.place (sym same) ∙ at))) ∙ none) low;
    empty = h.empty;
    clean = h.clean;
    mini_empty = h.mini_empty;
    there = h.there;
    mini_there = h.mini_there;
    frame_long = h.frame_long;
    mini_long = h.mini_long;
  }

  pub holds_framed : (page k : ℕ) → Holds map arena marks minis → Holds (with_nvm page k map) arena marks minis
  holds_framed page k h = record {
    whole = λ q i l at none low. h.whole q i l at (framed_was q none) low;
    empty = h.empty;
    clean = h.clean;
    mini_empty = h.mini_empty;
    there = h.there;
    mini_there = h.mini_there;
    frame_long = h.frame_long;
    mini_long = h.mini_long;
  }
    where
      framed_was : (q : ℕ) → changed page (Some k) map.nvm q ≡ None → map.nvm q ≡ None
      framed_was q none = elim (cases_eq q page) [
        | inl same ↦ none_some (sym none ∙ changed-same page (Some k) map.nvm q same)
        | inr other ↦ sym (changed-other page (Some k) map.nvm q other) ∙ none
      ]

  -- ---- a page gets a place

  -- in a free full place, with these lines and these dirty ones
  pub holds_full_put : (page i : ℕ) (arena' : List Frame) (marks' : List ℕ) → map.full_page i ≡ None
      → ((k : ℕ) → k ≢ i → get_or arena' k empty_frame ≡ get_or arena k empty_frame) → ((k : ℕ) → k ≢ i → get_or marks' k 0 ≡ get_or marks k 0)
      → (map.nvm page ≡ None → (l : ℕ) → l < 64 → (value : Line) × (line_at (get_or arena' i empty_frame) l ≡ Some value))
      → ((l : ℕ) → l < 64 → IsTrue (has_line (get_or marks' i 0) l) → (value : Line) × (line_at (get_or arena' i empty_frame) l ≡ Some value))
      → ((k : ℕ) → length (get_or arena' k empty_frame) ≡ 64) → Agrees map → Holds map arena marks minis → Holds (with_full page i map) arena' marks' minis
  holds_full_put page i arena' marks' free lines sets all there long agrees h = record {
    whole = λ q k l at none low. elim (cases_eq q page) [
      | inl same ↦
          let here : k ≡ i = full_same (sym at ∙ changed-same page (Full i) map.place q same) in
          let x = all (ap map.nvm (sym same) ∙ none) l low in
          (x.0, ap (λ (n : ℕ). line_at (get_or arena' n empty_frame) l) here ∙ x.1)
      | inr other ↦
          let was : map.place q ≡ Full k = sym (changed-other page (Full i) map.place q other) ∙ at in
          let apart : k ≢ i = λ same. none_some (sym free ∙ ap map.full_page (sym same) ∙ (agrees.full q k).0 (ap full_of was)) in
          let x = h.whole q k l was none low in
          (x.0, ap (λ (f : Frame). line_at f l) (lines k apart) ∙ x.1)
    ];
    empty = λ k none. let apart = owned k none in lines k apart ∙ h.empty k (sym (changed-other i (Some page) map.full_page k apart) ∙ none);
    clean = λ k none. let apart = owned k none in sets k apart ∙ h.clean k (sym (changed-other i (Some page) map.full_page k apart) ∙ none);
    mini_empty = h.mini_empty;
    there = λ k l low dirty. elim (cases_eq k i) [
      | inl same ↦
          let x = there l low (subst (λ (n : ℕ). IsTrue (has_line (get_or marks' n 0) l)) same dirty) in
          (x.0, ap (λ (n : ℕ). line_at (get_or arena' n empty_frame) l) same ∙ x.1)
      | inr other ↦
          let x = h.there k l low (subst (λ (set : ℕ). IsTrue (has_line set l)) (sets k other) dirty) in
          (x.0, ap (λ (f : Frame). line_at f l) (lines k other) ∙ x.1)
    ];
    mini_there = h.mini_there;
    frame_long = long;
    mini_long = h.mini_long;
  }
    where
      owned : (k : ℕ) → changed i (Some page) map.full_page k ≡ None → k ≢ i
      owned k none same = none_some (sym none ∙ changed-same i (Some page) map.full_page k same)

  pub holds_mini_put : (page j : ℕ) → Holds map arena marks minis → Holds (with_mini page j map) arena marks minis
  holds_mini_put page j h = record {
    whole = λ q i l at none low. elim (cases_eq q page) [
      | inl same ↦ full_mini (sym at ∙ changed-same page (Mini j) map.place q same)
      | inr other ↦ h.whole q i l (sym (changed-other page (Mini j) map.place q other) ∙ at) none low
    ];
    empty = h.empty;
    clean = h.clean;
    mini_empty = λ k none. elim (cases_eq k j) [
      | inl same ↦ none_some (sym none ∙ changed-same j (Some page) map.mini_owner k same)
      | inr other ↦ h.mini_empty k (sym (changed-other j (Some page) map.mini_owner k other) ∙ none)
    ];
    there = h.there;
    mini_there = h.mini_there;
    frame_long = h.frame_long;
    mini_long = h.mini_long;
  }

  -- ---- a line of a copy gets a value

  pub holds_full_value : (i l : ℕ) (v : Line) (frame : Frame) → (map.full_page i ≡ None → ⊥) → get_or arena i empty_frame ≡ frame
      → Holds map arena marks minis → Holds map (slice_set arena i (with_value l v frame)) marks minis
  holds_full_value i l v frame owned is h = record {
    whole = λ q k m at none low. kept k m (h.whole q k m at none low);
    empty = λ k free. get_or-set_other arena i k (with_value l v frame) empty_frame (λ same. owned (ap map.full_page (sym same) ∙ free)) ∙ h.empty k free;
    clean = h.clean;
    mini_empty = h.mini_empty;
    there = λ k m low dirty. kept k m (h.there k m low dirty);
    mini_there = h.mini_there;
    frame_long = set_keeps (λ (f : Frame). length f ≡ 64) arena i (with_value l v frame) empty_frame (length-set frame l (Some v) ∙ ap (λ (f : Frame). length f) (sym is) ∙ h.frame_long i) h.frame_long;
    mini_long = h.mini_long;
  }
    where
      after : List Frame
      after = slice_set arena i (with_value l v frame)

      kept : (k m : ℕ) → ((x : Line) × (line_at (get_or arena k empty_frame) m ≡ Some x)) → (x : Line) × (line_at (get_or (slice_set arena i (with_value l v frame)) k empty_frame) m ≡ Some x)
      kept k m was = elim (cases_eq k i) [
        | inr other ↦ (was.0, ap (λ (f : Frame). line_at f m) (get_or-set_other arena i k (with_value l v frame) empty_frame other) ∙ was.1)
        | inl same ↦ elim (set_at arena i (with_value l v frame) empty_frame) [
          | inl put ↦
              let x = value_kept frame l m v (was.0, ap (λ (f : Frame). line_at f m) (sym (ap (λ (n : ℕ). get_or arena n empty_frame) same ∙ is)) ∙ was.1) in
              (x.0, ap (λ (n : ℕ). line_at (get_or after n empty_frame) m) same ∙ ap (λ (f : Frame). line_at f m) put ∙ x.1)
          | inr past ↦ (was.0, ap (λ (n : ℕ). line_at (get_or after n empty_frame) m) same ∙ ap (λ (f : Frame). line_at f m) (past.0 ∙ sym past.1) ∙ ap (λ (n : ℕ). line_at (get_or arena n empty_frame) m) (sym same) ∙ was.1)
        ]
      ]

  -- a line that is there becomes dirty
  pub holds_full_marked : (i l : ℕ) → l < 64 → (map.full_page i ≡ None → ⊥) → ((x : Line) × (line_at (get_or arena i empty_frame) l ≡ Some x))
      → Holds map arena marks minis → Holds map arena (slice_set marks i (with_line (get_or marks i 0) l)) minis
  holds_full_marked i l low owned line h = record {
    whole = h.whole;
    empty = h.empty;
    clean = λ k free. get_or-set_other marks i k (with_line (get_or marks i 0) l) 0 (λ same. owned (ap map.full_page (sym same) ∙ free)) ∙ h.clean k free;
    mini_empty = h.mini_empty;
    there = λ k m small dirty. elim (cases_eq k i) [
      | inr other ↦ h.there k m small (subst (λ (set : ℕ). IsTrue (has_line set m)) (get_or-set_other marks i k (with_line (get_or marks i 0) l) 0 other) dirty)
      | inl same ↦ subst (λ (n : ℕ). (x : Line) × (line_at (get_or arena n empty_frame) m ≡ Some x)) (sym same) (at_i m small (subst (λ (n : ℕ). IsTrue (has_line (get_or (slice_set marks i (with_line (get_or marks i 0) l)) n 0) m)) same dirty))
    ];
    mini_there = h.mini_there;
    frame_long = h.frame_long;
    mini_long = h.mini_long;
  }
    where
      in_set : (m set : ℕ) → m < 64 → (set ≡ with_line (get_or marks i 0) l) ⊎ (set ≡ 0) → IsTrue (has_line set m) → (x : Line) × (line_at (get_or arena i empty_frame) m ≡ Some x)
      in_set m set small (inr none) dirty = in_none set m none dirty
      in_set m set small (inl is) dirty = elim (cases_eq m l) [
        | inl same ↦ subst (λ (n : ℕ). (x : Line) × (line_at (get_or arena i empty_frame) n ≡ Some x)) (sym same) line
        | inr other ↦ h.there i m small (sym (has_other (get_or marks i 0) l m low other) ∙ subst (λ (s : ℕ). IsTrue (has_line s m)) is dirty)
      ]

      at_i : (m : ℕ) → m < 64 → IsTrue (has_line (get_or (slice_set marks i (with_line (get_or marks i 0) l)) i 0) m) → (x : Line) × (line_at (get_or arena i empty_frame) m ≡ Some x)
      at_i m small dirty = elim (set_at marks i (with_line (get_or marks i 0) l) 0) [
        | inl is ↦ in_set m (get_or (slice_set marks i (with_line (get_or marks i 0) l)) i 0) small (inl is) dirty
        | inr past ↦ in_set m (get_or (slice_set marks i (with_line (get_or marks i 0) l)) i 0) small (inr past.0) dirty
      ]

  -- a mini page that has a page is another one, whose dirty lines are there
  pub holds_mini_changed : (j : ℕ) (mini : MiniPage) → (map.mini_owner j ≡ None → ⊥) → ((l : ℕ) → l < 64 → IsTrue (has_line mini.dirty l) → (x : Line) × (line_at mini.places l ≡ Some x)) → length mini.places ≡ 64
      → Holds map arena marks minis → Holds map arena marks (slice_set minis j mini)
  holds_mini_changed j mini owned lines long h = record {
    whole = h.whole;
    empty = h.empty;
    clean = h.clean;
    mini_empty = λ k free. get_or-set_other minis j k mini empty_mini (λ same. owned (ap map.mini_owner (sym same) ∙ free)) ∙ h.mini_empty k free;
    there = h.there;
    frame_long = h.frame_long;
    mini_long = set_keeps (λ (m : MiniPage). length m.places ≡ 64) minis j mini empty_mini long h.mini_long;
    mini_there = λ k l low dirty. elim (cases_eq k j) [
      | inr other ↦ at_mini (get_or (slice_set minis j mini) k empty_mini) (get_or minis k empty_mini) l (get_or-set_other minis j k mini empty_mini other) (h.mini_there k l low) dirty
      | inl same ↦ subst (λ (n : ℕ). IsTrue (has_line (get_or (slice_set minis j mini) n empty_mini).dirty l) → (x : Line) × (line_at (get_or (slice_set minis j mini) n empty_mini).places l ≡ Some x)) (sym same)
          (elim (set_at minis j mini empty_mini) [
            | inl is ↦ at_mini (get_or (slice_set minis j mini) j empty_mini) mini l is (lines l low)
            | inr past ↦ at_mini (get_or (slice_set minis j mini) j empty_mini) (get_or minis j empty_mini) l (past.0 ∙ sym past.1) (h.mini_there j l low)
          ]) dirty
    ];
  }
    where
      at_mini : (new old : MiniPage) (l : ℕ) → new ≡ old → (IsTrue (has_line old.dirty l) → (x : Line) × (line_at old.places l ≡ Some x))
          → IsTrue (has_line new.dirty l) → (x : Line) × (line_at new.places l ≡ Some x)
      at_mini new old l same was dirty = subst (λ (m : MiniPage). IsTrue (has_line m.dirty l) → (x : Line) × (line_at m.places l ≡ Some x)) (sym same) was dirty
