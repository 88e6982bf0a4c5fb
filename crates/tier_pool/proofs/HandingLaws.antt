-- A copy that is put into a buffer, installed and passed through.
use Rattle.std.proofs.Common.{Bool, true, ◌≡◌, ℕ, zero, suc, ◌+◌, ◌<◌, ◌≤◌, List, [], ◌∷◌, length, get_or, slice_index, refl, sym, ap, ◌∙◌, inl, inr, arith, Option, Some, None, Result, Ok, Err}
use Rattle.std.specs.Result.{IsErrAnd}
use Rattle.std.proofs.lemmas.Bool.{cases_lt}
use Rattle.nvm_model.specs.declared.line.Line.{Line}
use Rattle.nvm_model.proofs.ImageLaws.{line_of-word}
use Rattle.devices.specs.State.{Image}
use Rattle.devices.specs.World.{Standing}
use Rattle.line_pages.specs.declared.stop.Stop.{Stop}
use Rattle.line_pages.specs.Lines.{IsLine}
use Rattle.line_pages.specs.Bytes.{line_at as byte_line, with_line_bytes}
use Rattle.line_pages.proofs.ByteLaws.{line_at-written, line_at-other}
use Rattle.store_model.specs.Layout.{Sizes, pages}
use Rattle.store_model.specs.Format.{word_in}
use Rattle.store_model.specs.Recovered.{block_word}
use Rattle.store_model.specs.Install.{install_calls}
use Rattle.device_calls.specs.Leads.{Made, Leads}
use Rattle.device_calls.proofs.LeadsLaws.{leads_then, leads_exit}
use Rattle.home_move.specs.Frames.{page_lines}
use Rattle.home_move.specs.Moves.{Releases}
use Rattle.home_move.proofs.FrameLaws.{line_at-block}
use Rattle.tier_map.specs.declared.place.Place.{Place}
use Rattle.tier_map.specs.Placement.{Agrees}
use Rattle.tier_map.proofs.PlacementLaws.{changed-same}
use Rattle.page_frame.specs.Frames.{line_at}
use Rattle.tier_rules.specs.declared.tally.Tally.{Tally}
use Rattle.tier_rules.specs.Parts.{Parts, copy_at}
use Rattle.tier_facts.specs.Data.{installed}
use Rattle.tier_facts.specs.Facts.{Held, Hard, MayInstall, AreCurrent}
use Rattle.tier_facts.proofs.LineLaws.{passed, copy_current}
use Rattle.tier_facts.proofs.CallLaws.{leads_installed, leads_installed_clean, then_same_hard}
use Rattle.part_laws.specs.PartData.{data_of_parts}
use Rattle.tier_pool.specs.Places.{copy_cleaned}
use Rattle.tier_pool.specs.Handing.{HoldsCopy, StandsWhole, InstallsPage, PassesPage}
use Rattle.tier_pool.proofs.StoringLaws.{cleaned_data}
use Rattle.tier_pool.proofs.RoomLaws.{released_call}

-- ---- the bytes of a copy

clash : {A : Type 0} {x : Line} → Some x ≡ None → A
clash e = absurd (let no : ⊥ = cc in no)

same_some : {x y : Line} → Some x ≡ Some y → x ≡ y
same_some e = cc

line_word : (bytes : List ℕ) (l w : ℕ) (line : Line) → w < 8 → byte_line bytes l ≡ line → block_word bytes l w ≡ word_in line w
line_word bytes l w line hw same =
    sym (line_of-word (block_word bytes l) w hw) ∙ ap (λ (x : Line). slice_index x.words w) (sym (line_at-block bytes l) ∙ same)

pub copy_none : (parts : Parts) (place : Place) (bytes : List ℕ) → HoldsCopy parts place 0 bytes
copy_none parts place bytes = record { words = λ l w line less hw at. absurd (omega arith) }

-- a line that is not in the copy
pub copy_past : (parts : Parts) (place : Place) (n : ℕ) (bytes : List ℕ) → line_at (copy_at place parts.arena parts.minis) n ≡ None → HoldsCopy parts place n bytes → HoldsCopy parts place (n + 1) bytes
copy_past parts place n bytes absent so = record {
  words = λ l w line under hw at. elim (cases_lt l n) [
    | inl before ↦ so.words l w line before hw at
    | inr last ↦ (let here : l ≡ n = omega arith in
        clash (sym at ∙ ap (λ (m : ℕ). line_at (copy_at place parts.arena parts.minis) m) here ∙ absent))
  ];
}

-- one that is
pub copy_more : (parts : Parts) (place : Place) (n : ℕ) (bytes : List ℕ) (found whole : Line) → length bytes ≡ 4096 → n < 64 → line_at (copy_at place parts.arena parts.minis) n ≡ Some found
    → whole ≡ found → IsLine whole → HoldsCopy parts place n bytes → HoldsCopy parts place (n + 1) (with_line_bytes bytes n whole)
copy_more parts place n bytes found whole size less there same is so = record {
  words = λ l w line under hw at. elim (cases_lt l n) [
    | inl before ↦
        line_word (with_line_bytes bytes n whole) l w (byte_line bytes l) hw (line_at-other bytes n l whole size less (omega arith) (λ e. omega arith))
        ∙ sym (line_word bytes l w (byte_line bytes l) hw refl) ∙ so.words l w line before hw at
    | inr last ↦
        (let here : l ≡ n = omega arith in
        let is_found : found ≡ line = same_some (sym there ∙ ap (λ (m : ℕ). line_at (copy_at place parts.arena parts.minis) m) (sym here) ∙ at) in
        line_word (with_line_bytes bytes n whole) l w line hw
        (ap (byte_line (with_line_bytes bytes n whole)) here ∙ line_at-written bytes n whole size less is ∙ same ∙ is_found))
  ];
}

-- the bytes of a whole copy are the page's current lines
whole_current : (g : Sizes) (parts : Parts) (page : ℕ) (place : Place) (bytes : List ℕ) → StandsWhole page place parts → HoldsCopy parts place 64 bytes → (i : Image)
    → AreCurrent (data_of_parts g parts) i page (page_lines bytes)
unfolding page_lines
whole_current g parts page place bytes stands holds i = copy_current (data_of_parts g parts) i page bytes (λ l hl.
    let x : (line : Line) × (line_at (copy_at (parts.map.place page) parts.arena parts.minis) l ≡ Some line) = stands.whole.lines l hl in
    (x.0, x.1, λ w hw. holds.words l w x.0 hl hw (ap (λ (p : Place). line_at (copy_at p parts.arena parts.minis) l) (sym stands.here) ∙ x.1)))

-- ---- a page that is installed

pub page_installs : {T : Type 0} {a b : Standing} {r : Result T Stop} (g : Sizes) (parts : Parts) (page k : ℕ) (worn : Bool) (bytes : List ℕ) → page < pages g → k ≤ g.frames
    → parts.map.nvm page ≡ None → parts.map.frame_page k ≡ None → Made (install_calls g k page (page_lines bytes)) a b r → InstallsPage g page k worn bytes parts a b r
page_installs g parts page k worn bytes low fits homeless free made = record {
  copied = λ place stands holds marked. leads_installed page k (page_lines bytes) worn may marked (whole_current g parts page place bytes stands holds) made;
  read = λ clean are. leads_installed_clean page k (page_lines bytes) worn may clean are made;
}
  where
    may : MayInstall (data_of_parts g parts) page k
    may = record { in_store = low; in_table = fits; homeless = homeless; empty = free }

pub installs_exit : {T U : Type 0} {why : Stop} {g : Sizes} {page k : ℕ} {worn : Bool} {bytes : List ℕ} {parts : Parts} {a b : Standing} (r : Result T Stop) → IsErrAnd r (λ y. y ≡ why)
    → InstallsPage {T = U} g page k worn bytes parts a b (Err why) → InstallsPage g page k worn bytes parts a b r
installs_exit r is it = record {
  copied = λ place stands holds marked. leads_exit r is (it.copied place stands holds marked);
  read = λ clean are. leads_exit r is (it.read clean are);
}

-- ---- a page that passes through

-- what stands past the last frame has no page
pub past_end : (xs : List (Option ℕ)) (n : ℕ) → length xs ≡ n → get_or xs n None ≡ None
past_end [] n e = refl
past_end (x ∷ xs) zero e = absurd (omega arith)
past_end (x ∷ xs) (suc n) e = past_end xs n (omega arith)

module _ {T : Type 0} {a b : Standing} {r : Result T Stop} (g : Sizes) (parts : Parts) (page : ℕ) (place : Place) (low : page < pages g) (free : parts.map.frame_page g.frames ≡ None) where
  pub passes_exit : {U : Type 0} {why : Stop} (bytes : List ℕ) → HoldsCopy parts place 64 bytes → IsErrAnd r (λ y. y ≡ why) → Made {T = U} (install_calls g g.frames page (page_lines bytes)) a b (Err why)
      → PassesPage g page place parts a b r
  passes_exit bytes holds is made = record {
    each = λ stands. leads_exit r is ((page_installs g parts page g.frames true bytes low (omega arith) stands.homeless free made).copied place stands holds (λ e. absurd (let no : ⊥ = cc in no)));
  }

pub passes_page : {T : Type 0} {a b c : Standing} {r : Result T Stop} (g : Sizes) (parts : Parts) (page : ℕ) (place : Place) (bytes : List ℕ) → page < pages g → parts.map.frame_page g.frames ≡ None
    → HoldsCopy parts place 64 bytes → Made {T = Unit {0}} (install_calls g g.frames page (page_lines bytes)) a b (Ok tt) → Releases g g.frames page true b c r → PassesPage g page place parts a c r
passes_page g parts page place bytes low free holds made rel = record {
  each = λ stands. then_same_hard (passed (data_of_parts g parts) page g.frames true stands.homeless free)
      (leads_then ((page_installs g parts page g.frames true bytes low (omega arith) stands.homeless free made).copied place stands holds (λ e. absurd (let no : ⊥ = cc in no)))
      (released_call (installed page g.frames true (data_of_parts g parts)) page g.frames
      (record { in_store = low; placed = changed-same page (Some g.frames) parts.map.nvm page refl }) true (λ e. absurd (let no : ⊥ = cc in no)) rel.loaded rel.made
      (λ told found at. record { words = λ l w hl hw. (rel.holds told found at).words l w hl hw }) rel.whole));
}

-- and whose copy is clean then
pub passed_clean : {a b : Standing} (g : Sizes) (parts : Parts) (page : ℕ) (place : Place) (tally : Tally) → Agrees parts.map → StandsWhole page place parts
    → PassesPage {T = Unit {0}} g page place parts a b (Ok tt)
    → Leads {T = Unit {0}} Held (Hard (data_of_parts g parts)) (Hard (data_of_parts g (copy_cleaned place (record parts { tally = tally })))) a b (Ok tt)
passed_clean g parts page place tally agrees stands passes =
    then_same_hard (cleaned_data g place (record parts { tally = tally }) page agrees stands.here) (passes.each stands)
