-- A line that is made ready: where it stands then, and what the calls ask.
use Rattle.std.proofs.Common.{◌≡◌, ◌≢◌, ℕ, ◌<◌, Bool, true, false, [], length, get_or, refl, sym, ap, ◌∙◌, subst, arith, inl, inr, is_some, Result, Ok, Err, OnOk}
use Rattle.std.specs.Prelude.{Option, Some, None, IfSome, IsTrue, ◌||◌}
use Rattle.std.proofs.lemmas.List.{get_or-set_same}
use Rattle.nvm_model.specs.declared.line.Line.{Line}
use Rattle.store_model.specs.Layout.{Sizes, pages}
use Rattle.nvm_layout.specs.declared.geometry.Geometry.{Geometry}
use Rattle.nvm_layout.specs.Sizes.{sizes_of}
use Rattle.tier_map.specs.declared.place.Place.{Place}
use Rattle.tier_map.specs.declared.place.Place.TheVariants.{Absent, Full, Mini}
use Rattle.tier_map.specs.Placement.{Placement}
use Rattle.tier_map.proofs.PlacementLaws.{changed-same}
use Rattle.page_frame.specs.LineSets.{no_lines, has_line}
use Rattle.page_frame.specs.Frames.{Frame, empty_frame, frame_at, with_value, line_at, resident_lines, is_resident}
use Rattle.page_frame.proofs.FrameLaws.{resident-has}
use Rattle.page_frame.proofs.ArenaLaws.{blank_mask}
use Rattle.mini_page.specs.MiniPages.{MiniPage, empty_mini, mini_at, added}
use Rattle.tier_rules.specs.Parts.{Parts, copy_at, copy_line}
use Rattle.tier_rules.specs.Entering.{begins}
use Rattle.tier_rules.specs.Quiet.{quiet_at}
use Rattle.tier_laws.proofs.TouchLaws.{goes_on}
use Rattle.tier_pool.specs.declared.pool.TierPool.{TierPool}
use Rattle.tier_pool.specs.declared.pool.Access.{Access}
use Rattle.tier_pool.specs.declared.pool.Spot.{Spot}
use Rattle.tier_pool.specs.Fields.{parts_of, access_of}
use Rattle.tier_pool.specs.Places.{copy_dropped, place_emptied}
use Rattle.tier_pool.specs.NvmRoom.{PartsRoom}
use Rattle.tier_pool.specs.FullRoom.{full_room}
use Rattle.tier_pool.specs.Standing.{IsSteady as AreSteady}
use Rattle.tier_pool.specs.Touching.{HasFrame, lines_moved, promoted, loaded_to_full, loaded_to_mini, LoadedToFull, LoadedToMini, LiesInFrame}
use Rattle.tier_pool.proofs.RangeLaws.{nvm_in}
use Rattle.tier_pool.proofs.SteadyRooms.{steady_full_room, plan_full_room}
use Rattle.tier_pool.proofs.SteadyLaws.{at_default, bare_line, full_low, steady_promoted}
use Rattle.tier_manager.specs.declared.tiers.Tiers.{Tiers}
use Rattle.tier_manager.specs.Fields.{parts_of as tiers_parts}
use Rattle.tier_manager.specs.Entering.{BegunIf, Opened}
use Rattle.tier_manager.specs.Quiet.{quiet_in}
use Rattle.tier_manager.specs.Steady.{IsSteady, LiesAt, WorksThere}
use Rattle.tier_manager.specs.Touching.{IsThere, IsCopy, PromotedTo}
use Rattle.tier_manager.proofs.KeptMini.{Kept, room_kept}

-- ---- a copy that is promoted

pub promoted_place : (page j i : ℕ) (parts : Parts) → (promoted page j i parts).map.place page ≡ Full i
promoted_place page j i parts = changed-same page (Full i) (copy_dropped page (lines_moved j i parts)).map.place page refl

pub promoted_line : (page j i line : ℕ) (parts : Parts) → i < length parts.arena → parts.map.place page ≡ Mini j → copy_line (promoted page j i parts) page line ≡ copy_line parts page line
promoted_line page j i line parts low here =
    let new = promoted page j i parts in
    ap (λ (p : Place). line_at (copy_at p new.arena new.minis) line) (promoted_place page j i parts)
    ∙ ap (λ (p : Place). line_at (get_or (place_emptied p (lines_moved j i parts)).arena i empty_frame) line) here
    ∙ ap (λ (f : Frame). line_at f line) (get_or-set_same parts.arena i (mini_at parts.minis j).places empty_frame low)
    ∙ sym (ap (λ (p : Place). line_at (copy_at p parts.arena parts.minis) line) here)

-- the frame of a page is one of the store
pub has_frame : (t : TierPool) (page k : ℕ) (frame : Option ℕ) → frame ≡ (parts_of t).map.nvm page → (parts_of t).map.nvm page ≡ Some k → HasFrame frame t.geometry.frames
has_frame t page k frame e at = subst (λ (o : Option ℕ). HasFrame o t.geometry.frames) (sym (e ∙ at)) (record { some = refl; within = nvm_in t page k at })

pub none_resident : (frame : Frame) → frame ≡ empty_frame → resident_lines frame ≡ no_lines
none_resident frame e = ap resident_lines e ∙ blank_mask

pub on_ok : {T E : Type 0} {P Q : Type 0} (r : Result T E) → (P → Q) → OnOk r P → OnOk r Q
on_ok (Ok v) f p = f p
on_ok (Err e) f p = p

-- ---- a line that is there, or is not

pub line_none : (frame : Frame) (line : ℕ) → has_line (resident_lines frame) line ≡ false → line_at frame line ≡ None
line_none frame line absent = by (line_at frame line) refl
  where
    by : (o : Option Line) → line_at frame line ≡ o → line_at frame line ≡ None
    by (Some value) e = absurd (let some = sym absent ∙ resident-has frame line in let value = ap (λ (o : Option Line). is_some o) e in let no : ⊥ = cc in no)
    by None e = e

pub there_at : (frame : Frame) (line : ℕ) (value : Line) → line_at frame line ≡ Some value → IsTrue (is_resident frame line)
there_at frame line value at = resident-has frame line ∙ ap (λ (o : Option Line). is_some o) at

pub loaded_there : (i line : ℕ) (value : Line) (parts : Parts) → i < length parts.arena → line < 64 → AreSteady parts → IsThere (Full i) line (loaded_to_full i line value parts)
loaded_there i line value parts low in_page s =
    let whole : length (frame_at parts.arena i) ≡ 64 = ap (λ (f : Frame). length f) (at_default parts.arena i [] empty_frame low) ∙ s.long.each (Full i) in
    there_at (copy_at (Full i) (loaded_to_full i line value parts).arena parts.minis) line value
    (ap (λ (f : Frame). line_at f line) (get_or-set_same parts.arena i (with_value line value (frame_at parts.arena i)) empty_frame low)
    ∙ get_or-set_same (frame_at parts.arena i) line (Some value) None (omega (arith, whole, in_page)))

-- ---- a mini copy that is outgrown

-- the page has a mini copy without the line
pub record Outgrows (page line : ℕ) (parts : Parts) : Type 0 where
  pub mini : ℕ
  pub here : parts.map.place page ≡ Mini mini
  pub absent : has_line (resident_lines (copy_at (Mini mini) parts.arena parts.minis)) line ≡ false

or_false : (a b : Bool) → (a || b) ≡ false → a ≡ false
or_false true b e = absurd (let no : ⊥ = cc in no)
or_false false b e = refl

outgrows_by : (place : Place) (page line : ℕ) (parts : Parts) → parts.map.place page ≡ place → IsCopy place → quiet_at place (resident_lines (copy_at place parts.arena parts.minis)) line ≡ false → Outgrows page line parts
outgrows_by Absent page line parts here copied loud = absurd copied
outgrows_by (Full i) page line parts here copied loud = absurd (let no : ⊥ = cc in no)
outgrows_by (Mini j) page line parts here copied loud = record { mini = j; here = here; absent = or_false _ _ loud }

pub outgrows : (page line : ℕ) (parts : Parts) → IsCopy (parts.map.place page) → quiet_in parts page line ≡ false → Outgrows page line parts
outgrows page line parts copied loud = outgrows_by (parts.map.place page) page line parts refl copied loud

-- behind the room for the full copy
pub room_is : (page line i : ℕ) (parts after : Parts) (it : Outgrows page line parts) → full_room parts ≡ record { place = i; parts = after } → AreSteady parts → Kept page it.mini parts after
room_is page line i parts after it room s = subst (λ (r : PartsRoom). Kept page it.mini parts r.parts) room (room_kept page it.mini parts s.agrees it.here)

pub room_steady : (i : ℕ) (parts after : Parts) → full_room parts ≡ record { place = i; parts = after } → AreSteady parts → AreSteady after
room_steady i parts after room s = subst (λ (r : PartsRoom). AreSteady r.parts) room (steady_full_room parts s)

absent_mini : (j : ℕ) → Mini j ≢ Absent
absent_mini j e = absurd (let no : ⊥ = cc in no)

pub kept_homeless : (page j : ℕ) (parts after : Parts) → Kept page j parts after → after.map.place page ≡ Absent → after.map.nvm page ≡ None
kept_homeless page j parts after (inl stays) absent = absurd (absent_mini j (sym stays.place ∙ absent))
kept_homeless page j parts after (inr lost) absent = lost.frame

pub kept_uncopied : (page line : ℕ) (parts after : Parts) (it : Outgrows page line parts) → line < 64 → AreSteady after → Kept page it.mini parts after → copy_line after page line ≡ None
kept_uncopied page line parts after it low s (inl stays) =
    ap (λ (p : Place). line_at (copy_at p after.arena after.minis) line) stays.place
    ∙ ap (λ (m : MiniPage). line_at m.places line) stays.mini
    ∙ line_none (copy_at (Mini it.mini) parts.arena parts.minis) line it.absent
kept_uncopied page line parts after it low s (inr lost) =
    ap (λ (p : Place). line_at (copy_at p after.arena after.minis) line) lost.place ∙ bare_line after Absent line (s.free.each Absent tt) low

-- ---- where the line stands then

pub record ReadyIn (page line i : ℕ) (parts : Parts) : Type 0 where
  pub place : parts.map.place page ≡ Full i
  pub there : IsThere (Full i) line parts

promoted_by : (place : Place) (page line i : ℕ) (old new : Parts) → PromotedTo place page line i old new → old.map.place page ≡ place → ((h : ℕ) → place ≢ Full h)
    → (old.map.place page ≡ Absent → old.map.nvm page ≡ None) → old.map.full_page i ≡ None → i < old.plan.dram_frames → line < 64 → AreSteady old → AreSteady new → ReadyIn page line i new
promoted_by (Full h) page line i old new is here other homeless free low in_page s then = absurd (other h refl)
promoted_by (Mini j) page line i old new is here other homeless free low in_page s then =
    let after = steady_promoted page j i old here free low s in
    let at = promoted_place page j i old in
    subst (λ (p : Parts). ReadyIn page line i p) (sym is.is) (record {
      place = at;
      there = loaded_there i line is.value (promoted page j i old) (subst (λ (n : ℕ). i < n) (sym after.places.arena) (full_low page i (promoted page j i old) at after)) in_page after;
    })
promoted_by Absent page line i old new is here other homeless free low in_page s then =
    let at : new.map.place page ≡ Full i = ap (λ (p : Parts). p.map.place page) is.is ∙ changed-same page (Full i) old.map.place page refl in
    let framed : new.map.nvm page ≡ None = ap (λ (p : Parts). p.map.nvm page) is.is ∙ homeless here in
    let found = (then.whole.each page i at framed).lines line in_page in
    record {
      place = at;
      there = there_at (copy_at (Full i) new.arena new.minis) line found.0 (ap (λ (p : Place). line_at (copy_at p new.arena new.minis) line) (sym at) ∙ found.1);
    }

kept_not_full : (page j h : ℕ) (parts after : Parts) → Kept page j parts after → after.map.place page ≢ Full h
kept_not_full page j h parts after (inl stays) e = absurd (let same = sym stays.place ∙ e in let no : ⊥ = cc in no)
kept_not_full page j h parts after (inr lost) e = absurd (let same = sym lost.place ∙ e in let no : ⊥ = cc in no)

pub promoted_ready : (page line j i : ℕ) (parts old new : Parts) → Kept page j parts old → PromotedTo (old.map.place page) page line i old new → old.map.full_page i ≡ None → i < old.plan.dram_frames → line < 64
    → AreSteady old → AreSteady new → ReadyIn page line i new
promoted_ready page line j i parts old new kept is free low in_page s then =
    promoted_by (old.map.place page) page line i old new is refl (λ h. kept_not_full page j h parts old kept) (kept_homeless page j parts old kept) free low in_page s then

-- ---- what stands between two calls

pub steady_with : (t u : Tiers) → IsSteady t → AreSteady (tiers_parts u) → (tiers_parts u).map ≡ (tiers_parts t).map → u.pool.access ≡ t.pool.access → u.pool.geometry ≡ t.pool.geometry → IsSteady u
steady_with t u s fields map access geometry = record {
  fields = fields;
  access = subst (λ (m : Placement). IfSome u.pool.access (WorksThere (pages (sizes_of u.pool.geometry)) m)) (sym map)
      (subst (λ (g : Geometry). IfSome u.pool.access (WorksThere (pages (sizes_of g)) (tiers_parts t).map)) (sym geometry)
      (subst (λ (o : Option Access). IfSome o (WorksThere (pages (sizes_of t.pool.geometry)) (tiers_parts t).map)) (sym access) s.access));
}

-- the open access is one of the page, and works where it lies
pub works_there : (o : Option Access) (page count : ℕ) (spot : Spot) (m : Placement) → IfSome (access_of o) (λ access. access.0 ≡ page) → IfSome o (λ access. access.spot ≡ spot) → page < count
    → LiesAt page spot m → IfSome o (WorksThere count m)
works_there None page count spot m of there low lies = tt
works_there (Some access) page count spot m of there low lies = record {
  in_store = subst (λ (n : ℕ). n < count) (sym of) low;
  lies = subst (λ (s : Spot). LiesAt access.page s m) (sym there) (subst (λ (n : ℕ). LiesAt n spot m) (sym of) lies);
}

pub mini_loaded_there : (j line : ℕ) (old new : Parts) → LoadedToMini j line old new → j < length old.minis → line < 64 → AreSteady old → IsThere (Mini j) line new
mini_loaded_there j line old new is low in_page s =
    let whole : length (mini_at old.minis j).places ≡ 64 = s.long.each (Mini j) in
    subst (λ (p : Parts). IsThere (Mini j) line p) (sym is.is)
    (there_at (copy_at (Mini j) old.arena (loaded_to_mini j line is.value old).minis) line is.value
    (ap (λ (m : MiniPage). line_at m.places line) (get_or-set_same old.minis j (added line is.value (mini_at old.minis j)) empty_mini low)
    ∙ get_or-set_same (mini_at old.minis j).places line (Some is.value) None (omega (arith, whole, in_page))))

pub full_loaded_there : (i line : ℕ) (old new : Parts) → LoadedToFull i line old new → i < length old.arena → line < 64 → AreSteady old → IsThere (Full i) line new
full_loaded_there i line old new is low in_page s = subst (λ (p : Parts). IsThere (Full i) line p) (sym is.is) (loaded_there i line is.value old low in_page s)

pub there_in : (place q : Place) (line : ℕ) (parts : Parts) → place ≡ q → IsThere q line parts → IsThere place line parts
there_in place q line parts e it = subst (λ (p : Place). IsThere p line parts) (sym e) it

-- what was loaded leaves the placement
pub full_load_map : (i line : ℕ) (old new : Parts) → LoadedToFull i line old new → new.map ≡ old.map
full_load_map i line old new is = ap (λ (p : Parts). p.map) is.is

pub mini_load_map : (j line : ℕ) (old new : Parts) → LoadedToMini j line old new → new.map ≡ old.map
mini_load_map j line old new is = ap (λ (p : Parts). p.map) is.is

-- the line is not in the page's copy
pub uncopied_at : (place : Place) (page line : ℕ) (parts : Parts) → parts.map.place page ≡ place → has_line (resident_lines (copy_at place parts.arena parts.minis)) line ≡ false → copy_line parts page line ≡ None
uncopied_at place page line parts here absent =
    ap (λ (p : Place). line_at (copy_at p parts.arena parts.minis) line) here ∙ line_none (copy_at place parts.arena parts.minis) line absent

-- the open access stays one of the page
promoted_access : (place : Place) (page line i : ℕ) (old new : Parts) → PromotedTo place page line i old new → new.access ≡ old.access
promoted_access (Mini j) page line i old new is = ap (λ (p : Parts). p.access) is.is ∙ dropped_access (old.map.place page)
  where
    dropped_access : (p : Place) → (place_emptied p (lines_moved j i old)).access ≡ old.access
    dropped_access Absent = refl
    dropped_access (Full k) = refl
    dropped_access (Mini k) = refl
promoted_access Absent page line i old new is = ap (λ (p : Parts). p.access) is.is
promoted_access (Full h) page line i old new is = ap (λ (p : Parts). p.access) is

pub opened_kept : (page line i : ℕ) (old room new last : Parts) → full_room old ≡ record { place = i; parts = room } → PromotedTo (room.map.place page) page line i room new → last ≡ new
    → IfSome old.access (λ (access : ℕ × Bool). access.0 ≡ page) → IfSome last.access (λ (access : ℕ × Bool). access.0 ≡ page)
opened_kept page line i old room new last made is same of =
    let all : last.access ≡ old.access = ap (λ (p : Parts). p.access) same ∙ promoted_access (room.map.place page) page line i room new is
    ∙ ap (λ (r : PartsRoom). r.parts.access) (sym made) ∙ (plan_full_room old).access in
    subst (λ (o : Option (ℕ × Bool)). IfSome o (λ (access : ℕ × Bool). access.0 ≡ page)) (sym all) of

-- the page stands in its frame, and its copy has not the line
pub lies_there : (g : Sizes) (page line lines : ℕ) (spot : Spot) (parts : Parts) → page < pages g → LiesAt page spot parts.map → lines ≡ resident_lines (copy_at spot.place parts.arena parts.minis)
    → has_line lines line ≡ false → LiesInFrame g page line spot.frame parts
lies_there g page line lines spot parts in_store lies are absent = record {
  in_store = in_store;
  framed = sym lies.frame;
  uncopied = uncopied_at spot.place page line parts (sym lies.place) (ap (λ (n : ℕ). has_line n line) (sym are) ∙ absent);
}

-- a full copy that has not all lines lies over a frame
pub full_frame : (t : TierPool) (page i line : ℕ) (frame : Option ℕ) → AreSteady (parts_of t) → (parts_of t).map.place page ≡ Full i → frame ≡ (parts_of t).map.nvm page → copy_line (parts_of t) page line ≡ None → line < 64
    → HasFrame frame t.geometry.frames
full_frame t page i line frame s here e uncopied low = by ((parts_of t).map.nvm page) refl
  where
    by : (o : Option ℕ) → (parts_of t).map.nvm page ≡ o → HasFrame frame t.geometry.frames
    by (Some k) at = has_frame t page k frame e at
    by None at = absurd (let found = (s.whole.each page i here at).lines line low in let both = sym uncopied ∙ found.1 in let no : ⊥ = cc in no)

opened_by : (b : Bool) (page : ℕ) (writes : Bool) (old new : Parts) → begins old.access page writes ≡ b → BegunIf b page writes old new → IfSome new.access (λ (access : ℕ × Bool). access.0 ≡ page)
opened_by true page writes old new e begun = subst (λ (p : Parts). IfSome p.access (λ (access : ℕ × Bool). access.0 ≡ page)) (sym begun.opened) refl
opened_by false page writes old new e same =
    subst (λ (o : Option (ℕ × Bool)). IfSome o (λ (access : ℕ × Bool). access.0 ≡ page)) (sym (ap (λ (p : Parts). p.access) same ∙ goes_on old.access page writes e)) refl

-- an access that was opened is one of the page
pub opened_access : (page : ℕ) (writes : Bool) (old new : Parts) → Opened page writes old new → IfSome new.access (λ (access : ℕ × Bool). access.0 ≡ page)
opened_access page writes old new it = opened_by (begins old.access page writes) page writes old new refl it
