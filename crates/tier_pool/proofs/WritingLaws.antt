-- Lines that are stored in place, written in a copy or promoted, over the fields of a pool.
use Rattle.std.proofs.Common.{◌≡◌, ℕ, ◌*◌, ◌<◌, ◌≤◌, [], ◌∷◌, length, sym, ap, subst, arith, Some, None, Result, Ok, Err}
use Rattle.std.specs.Result.{IsErrAnd}
use Rattle.nvm_model.specs.declared.line.Line.{Line}
use Rattle.devices.specs.State.{State, Image, current}
use Rattle.devices.specs.State.Call.{fence}
use Rattle.devices.specs.World.{Standing}
use Rattle.line_pages.specs.declared.stop.Stop.{Stop}
use Rattle.store_model.specs.Layout.{Sizes}
use Rattle.store_model.specs.Install.{store_calls}
use Rattle.nvm_layout.specs.Sizes.{sizes_of}
use Rattle.device_calls.specs.Leads.{Made, Leads, Given}
use Rattle.device_calls.proofs.LeadsLaws.{leads_then, leads_exit}
use Rattle.tier_map.specs.declared.place.Place.TheVariants.{Full, Mini}
use Rattle.page_frame.specs.Blocks.{places_of}
use Rattle.page_frame.specs.Frames.{frame_at}
use Rattle.page_frame.proofs.ArenaLaws.{frames_counted, frame_long}
use Rattle.mini_page.specs.MiniPages.{mini_at}
use Rattle.mini_page.proofs.MiniCalls.{in_masks}
use Rattle.mini_page.proofs.TableLaws.{is_mini}
use Rattle.tier_rules.specs.Parts.{Parts}
use Rattle.tier_facts.specs.Data.{Data, put_in, SameData, Recopied}
use Rattle.tier_facts.specs.Facts.{Aim, Held, Facts, Hard, IsLoose, FactsWith, aim_with}
use Rattle.tier_facts.proofs.CopyLaws.{facts_same, facts_recopied, puts}
use Rattle.tier_facts.proofs.CallLaws.{leads_in_place}
use Rattle.tier_facts.proofs.CurrentLaws.{leads_fenced_with, from_marked_loose}
use Rattle.part_laws.specs.PartData.{data_of_parts}
use Rattle.tier_pool.specs.declared.pool.TierPool.{TierPool}
use Rattle.tier_pool.specs.Fields.{parts_of, SameSizes}
use Rattle.tier_pool.specs.Places.{frame_marked}
use Rattle.tier_pool.specs.Storing.{data_of}
use Rattle.tier_pool.specs.Touching.{LiesInFrame, full_written, mini_written, promoted}
use Rattle.tier_pool.proofs.StoringLaws.{marked_data, is_marked}
use Rattle.tier_pool.proofs.RoomLaws.{at_data}
use Rattle.tier_pool.proofs.LineLaws.{written_full, written_mini, promoted_data}

-- ---- lengths

full_known : (t : TierPool) (i : ℕ) → i < t.policy.dram_frames → i < length (parts_of t).arena
full_known t i low = subst (λ (n : ℕ). i < n) (sym t.arena_fits) low

-- a frame has 64 places
pub full_long : (t : TierPool) (i : ℕ) → i < t.policy.dram_frames → length (frame_at (parts_of t).arena i) ≡ 64
full_long t i low =
    let counted = frames_counted (length t.arena.resident.items) (places_of t.arena.lines) in
    let known = full_known t i low in
    let places = t.arena.places in
    let within : i < length t.arena.resident.items = omega (arith, counted, known) in
    let long : 64 * length t.arena.resident.items ≤ length (places_of t.arena.lines) = omega (arith, places) in
    frame_long (length t.arena.resident.items) i (places_of t.arena.lines) within long

mini_known : (t : TierPool) (j : ℕ) → j < t.policy.minis → j < length (parts_of t).minis
mini_known t j low = subst (λ (n : ℕ). j < n) (sym t.minis_fit) low

-- and so has a mini page
pub mini_long : (t : TierPool) (j : ℕ) → j < t.policy.minis → length (mini_at (parts_of t).minis j).places ≡ 64
mini_long t j low =
    (is_mini t.minis.resident.items t.minis.dirty.items t.minis.table.items (places_of t.minis.lines) t.minis.kept j (in_masks t.minis j (mini_known t j low))).places

-- ---- a line that is stored in place

module _ {g g' : Sizes} (parts : Parts) (page k line : ℕ) (value : Line) (same : g' ≡ g) (lies : LiesInFrame g page line (Some k) parts) (low : k < length parts.frame_dirty) (in_page : line < 64) where
  in_place : {T : Type 0} {a b : Standing} {r : Result T Stop} → Made (store_calls g' k line value) a b r
      → Leads Held (Given (IsLoose page line) (Hard (data_of_parts g parts))) (FactsWith page line value (data_of_parts g (frame_marked k parts))) a b r
  in_place {a = a} {b = b} {r = r} made = from_marked_loose page line k (marked_data g (Full 0) k parts low)
      (leads_in_place page k line value (record { in_store = lies.in_store; placed = lies.framed }) in_page (is_marked g (Full 0) k parts low) lies.uncopied
      (subst (λ (x : Sizes). Made (store_calls x k line value) a b r) same made))

  pub placed_line : {T : Type 0} {a b c : Standing} {r : Result T Stop} → Made {T = Unit {0}} (store_calls g' k line value) a b (Ok tt) → Made (fence ∷ []) b c r
      → Leads Held (Given (IsLoose page line) (Hard (data_of_parts g parts))) (FactsWith page line value (data_of_parts g (frame_marked k parts))) a c r
  placed_line made fenced = leads_then (in_place made) (leads_fenced_with (data_of_parts g (frame_marked k parts)) page line value fenced)

  pub placed_exit : {T U : Type 0} {why : Stop} {C : Aim → State → Type 0} {a b : Standing} (r : Result T Stop) → IsErrAnd r (λ y. y ≡ why) → Made {T = U} (store_calls g' k line value) a b (Err why)
      → Leads Held (Given (IsLoose page line) (Hard (data_of_parts g parts))) C a b r
  placed_exit r is made = leads_exit r is (in_place made)

-- ---- a line that is written in a copy, and a copy that is promoted

data_to : (t u : TierPool) (parts : Parts) → SameSizes t u → parts_of u ≡ parts → data_of_parts (sizes_of t.geometry) parts ≡ data_of u
data_to t u parts same made = sym (at_data (ap sizes_of same.geometry) made)

pub full_put : (t u : TierPool) (page full line : ℕ) (value : Line) → full < t.policy.dram_frames → line < 64 → (parts_of t).map.place page ≡ Full full
    → SameSizes t u → parts_of u ≡ full_written full line value (parts_of t) → SameData (put_in page line value (data_of t)) (data_of u)
full_put t u page full line value low in_page here same made =
    subst (λ (x : Data). SameData (put_in page line value (data_of t)) x) (data_to t u (full_written full line value (parts_of t)) same made)
    (written_full (sizes_of t.geometry) (parts_of t) page full line value t.map.agrees here (full_known t full low) (full_long t full low) in_page (subst (λ (n : ℕ). full < n) (sym t.marks_fit) low))

pub mini_put : (t u : TierPool) (page mini line : ℕ) (value : Line) → mini < t.policy.minis → line < 64 → (parts_of t).map.place page ≡ Mini mini
    → SameSizes t u → parts_of u ≡ mini_written mini line value (parts_of t) → SameData (put_in page line value (data_of t)) (data_of u)
mini_put t u page mini line value low in_page here same made =
    subst (λ (x : Data). SameData (put_in page line value (data_of t)) x) (data_to t u (mini_written mini line value (parts_of t)) same made)
    (written_mini (sizes_of t.geometry) (parts_of t) page mini line value t.map.agrees here (mini_known t mini low) (mini_long t mini low) in_page)

pub full_moved : (t u : TierPool) (page mini full : ℕ) → full < t.policy.dram_frames → (parts_of t).map.place page ≡ Mini mini → (parts_of t).map.full_page full ≡ None
    → SameSizes t u → parts_of u ≡ promoted page mini full (parts_of t) → (image : Image) → Recopied (data_of t) (data_of u) image
full_moved t u page mini full low here free same made image =
    subst (λ (x : Data). Recopied (data_of t) x image) (data_to t u (promoted page mini full (parts_of t)) same made)
    (promoted_data (sizes_of t.geometry) (parts_of t) page mini full t.map.agrees here free (full_known t full low) (subst (λ (n : ℕ). full < n) (sym t.marks_fit) low) image)

-- the same as facts
pub facts_written : (t u : TierPool) (page line : ℕ) (value : Line) → SameData (put_in page line value (data_of t)) (data_of u)
    → (aim : Aim) (s : State) → Given (IsLoose page line) (Facts (data_of t)) aim s → FactsWith page line value (data_of u) aim s
facts_written t u page line value same aim s it = facts_same same (aim_with page line value aim) s (puts (data_of t) page line value aim s it)

pub facts_promoted : (t u : TierPool) (page mini full : ℕ) → full < t.policy.dram_frames → (parts_of t).map.place page ≡ Mini mini → (parts_of t).map.full_page full ≡ None
    → SameSizes t u → parts_of u ≡ promoted page mini full (parts_of t) → (aim : Aim) (s : State) → Facts (data_of t) aim s → Facts (data_of u) aim s
facts_promoted t u page mini full low here free same made aim s it = facts_recopied (data_of t) (data_of u) aim s it (full_moved t u page mini full low here free same made (current s))
