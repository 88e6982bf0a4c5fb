-- The lines of a copy by its place.
use Rattle.std.proofs.Common.{◌≡◌, ℕ, zero, suc, ◌<◌, Bool, false, List, [], ◌∷◌, length, refl, sym, ap, ◌∙◌, arith, get_or, is_some}
use Rattle.std.specs.Prelude.{Option, Some, None, slice_index_or}
use Rattle.std.proofs.lemmas.List.{get_or-replicate}
use Rattle.nvm_model.specs.declared.line.Line.{Line}
use Rattle.tier_map.specs.declared.place.Place.{Place}
use Rattle.tier_map.specs.declared.place.Place.TheVariants.{Absent, Full, Mini}
use Rattle.page_frame.specs.LineSets.{has_line}
use Rattle.page_frame.specs.Frames.{Frame, empty_frame, frame_at, line_at, resident_lines}
use Rattle.page_frame.proofs.FrameLaws.{resident-has}
use Rattle.page_frame.proofs.ArenaLaws.{blank_mask}
use Rattle.mini_page.specs.MiniPages.{MiniPage}
use Rattle.tier_map.specs.Placement.{Placement, without_dram}
use Rattle.tier_rules.specs.Parts.{Parts, copy_at}
use Rattle.tier_pool.specs.Places.{place_emptied, copy_dropped}

pub other_default : {X : Type 0} (xs : List X) (i : ℕ) (d e : X) → i < length xs → get_or xs i d ≡ get_or xs i e
other_default [] i d e h = absurd (omega arith)
other_default (x ∷ xs) zero d e h = refl
other_default (x ∷ xs) (suc i) d e h = other_default xs i d e (omega arith)

not_some : (x : Option Line) → is_some x ≡ false → x ≡ None
not_some None h = refl
not_some (Some line) h = absurd (cc)

pub not_there : (arena : List Frame) (i l set : ℕ) (there : Bool) → i < length arena → set ≡ resident_lines (frame_at arena i) → there ≡ has_line set l → there ≡ false
    → None ≡ line_at (slice_index_or arena i empty_frame) l
not_there arena i l set there h is has none =
    let has_none : has_line (resident_lines (frame_at arena i)) l ≡ false = ap (λ (n : ℕ). has_line n l) (sym is) ∙ sym has ∙ none in
    sym (ap (λ (frame : Frame). line_at frame l) (other_default arena i empty_frame [] h) ∙ not_some (line_at (frame_at arena i) l) (sym (resident-has (frame_at arena i) l) ∙ has_none))

pub nothing_at : (place : Place) (arena : List Frame) (minis : List MiniPage) (l : ℕ) → place ≡ Absent → l < 64 → None ≡ line_at (copy_at place arena minis) l
nothing_at place arena minis l is h = rw is (sym (get_or-replicate 64 l None None h))

pub nothing_resident : (place : Place) (arena : List Frame) (minis : List MiniPage) → place ≡ Absent → 0 ≡ resident_lines (copy_at place arena minis)
nothing_resident place arena minis is = rw is (sym blank_mask)

emptied_map : (place : Place) (parts : Parts) → (place_emptied place parts).map ≡ parts.map
emptied_map Absent parts = refl
emptied_map (Full i) parts = refl
emptied_map (Mini j) parts = refl

pub dropped : (old emptied : Parts) (m : Placement) (page : ℕ) (place : Place) → place ≡ old.map.place page → emptied ≡ place_emptied place old
    → m ≡ without_dram page emptied.map → record emptied { map = m } ≡ copy_dropped page old
dropped old emptied m page place is made mapped =
    ap (λ (n : Placement). record emptied { map = n }) (mapped ∙ ap (λ (n : Placement). without_dram page n) (ap (λ (parts : Parts). parts.map) made ∙ emptied_map place old))
    ∙ ap (λ (parts : Parts). record parts { map = without_dram page old.map }) (made ∙ ap (λ (p : Place). place_emptied p old) is)
