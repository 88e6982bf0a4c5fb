-- No change but a draw changes the generator.
use Rattle.std.proofs.Common.{◌≡◌, ℕ, Bool, true, false, refl, ◌∙◌}
use Rattle.std.specs.Prelude.{Option, Some, None, ◌==◌}
use Rattle.tier_map.specs.declared.place.Place.{Place}
use Rattle.tier_map.specs.declared.place.Place.TheVariants.{Absent, Full, Mini}
use Rattle.clock_sweep.specs.Clock.{Swept, lowest_empty, victim}
use Rattle.page_frame.specs.LineSets.{no_lines}
use Rattle.tier_rules.specs.Parts.{Parts, dirty_at}
use Rattle.tier_pool.specs.Places.{copy_cleaned, place_emptied, copy_dropped, frame_marked, stored_unless, copy_stored}
use Rattle.tier_pool.specs.NvmRoom.{copy_given_up, victim_left, frame_swept, frame_room_by, frame_room}
use Rattle.tier_pool.specs.Bringing.{mini_given_up, mini_left, mini_swept, mini_room_by, mini_room, placed_at}

pub draws_cleaned : (place : Place) (parts : Parts) → (copy_cleaned place parts).draws ≡ parts.draws
draws_cleaned Absent parts = refl
draws_cleaned (Full i) parts = refl
draws_cleaned (Mini j) parts = refl

draws_unless : (b : Bool) (place : Place) (k : ℕ) (parts : Parts) → (stored_unless b place k parts).draws ≡ parts.draws
draws_unless true place k parts = refl
draws_unless false place k parts = draws_cleaned place (frame_marked k parts)

pub draws_stored : (place : Place) (k : ℕ) (parts : Parts) → (copy_stored place k parts).draws ≡ parts.draws
draws_stored place k parts = draws_unless (dirty_at place parts.full_dirty parts.minis == no_lines) place k parts

draws_emptied : (place : Place) (parts : Parts) → (place_emptied place parts).draws ≡ parts.draws
draws_emptied Absent parts = refl
draws_emptied (Full i) parts = refl
draws_emptied (Mini j) parts = refl

pub draws_dropped : (page : ℕ) (parts : Parts) → (copy_dropped page parts).draws ≡ parts.draws
draws_dropped page parts = draws_emptied (parts.map.place page) parts

pub draws_given_up : (page k : ℕ) (parts : Parts) → (copy_given_up page k parts).draws ≡ parts.draws
draws_given_up page k parts = draws_dropped page (copy_stored (parts.map.place page) k parts) ∙ draws_stored (parts.map.place page) k parts

draws_victim : (o : Option ℕ) (k : ℕ) (parts : Parts) → (victim_left o k parts).draws ≡ parts.draws
draws_victim None k parts = refl
draws_victim (Some q) k parts = draws_given_up q k parts

draws_swept : (o : Option Swept) (parts : Parts) → (frame_swept o parts).parts.draws ≡ parts.draws
draws_swept None parts = refl
draws_swept (Some v) parts = refl

draws_room : (o : Option ℕ) (parts : Parts) → (frame_room_by o parts).parts.draws ≡ parts.draws
draws_room (Some k) parts = refl
draws_room None parts =
    let swept = frame_swept (victim parts.nvm_clock) parts in
    draws_victim (swept.parts.map.frame_page swept.place) swept.place swept.parts ∙ draws_swept (victim parts.nvm_clock) parts

pub draws_frame_room : (parts : Parts) → (frame_room parts).parts.draws ≡ parts.draws
draws_frame_room parts = draws_room (lowest_empty parts.nvm_clock) parts

draws_mini_given : (o : Option ℕ) (page : ℕ) (parts : Parts) → (mini_given_up o page parts).draws ≡ parts.draws
draws_mini_given None page parts = refl
draws_mini_given (Some k) page parts = draws_given_up page k parts

draws_mini_left : (o : Option ℕ) (parts : Parts) → (mini_left o parts).draws ≡ parts.draws
draws_mini_left None parts = refl
draws_mini_left (Some page) parts = draws_mini_given (parts.map.nvm page) page parts

draws_mini_swept : (o : Option Swept) (parts : Parts) → (mini_swept o parts).parts.draws ≡ parts.draws
draws_mini_swept None parts = refl
draws_mini_swept (Some v) parts = refl

draws_mini_by : (o : Option ℕ) (parts : Parts) → (mini_room_by o parts).parts.draws ≡ parts.draws
draws_mini_by (Some j) parts = refl
draws_mini_by None parts =
    let swept = mini_swept (victim parts.mini_clock) parts in
    draws_mini_left (swept.parts.map.mini_owner swept.place) swept.parts ∙ draws_mini_swept (victim parts.mini_clock) parts

pub draws_mini_room : (parts : Parts) → (mini_room parts).parts.draws ≡ parts.draws
draws_mini_room parts = draws_mini_by (lowest_empty parts.mini_clock) parts

pub draws_placed : (place : Place) (page : ℕ) (parts : Parts) → (placed_at place page parts).draws ≡ parts.draws
draws_placed Absent page parts = refl
draws_placed (Full i) page parts = refl
draws_placed (Mini j) page parts = refl
