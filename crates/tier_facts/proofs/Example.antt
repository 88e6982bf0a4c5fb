-- The laws in use: one page is evicted with a write, another without, and a third is fetched into the first one's frame.
use Rattle.std.proofs.Common.{false, ◌≡◌, ◌≢◌, ℕ, ◌<◌, ◌≤◌, List, refl, ◌∙◌, IsTrue, Result, Ok, inl, inr, Option, None}
use Rattle.std.proofs.lemmas.Bool.{cases_eq}
use Rattle.tier_map.specs.Placement.{changed}
use Rattle.devices.specs.State.{Image, current}
use Rattle.devices.specs.World.{Standing, now}
use Rattle.line_pages.specs.declared.stop.Stop.{Stop}
use Rattle.store_model.specs.Layout.{pages, page_block}
use Rattle.store_model.specs.Recovered.{from, block_line}
use Rattle.store_model.specs.Install.{entry_calls, install_calls, release_calls}
use Rattle.device_calls.specs.Leads.{Made, Looked, Leads}
use Rattle.device_calls.proofs.LeadsLaws.{leads_then, leads_made, leads_step, leads_looked}
use Rattle.tier_map.proofs.PlacementLaws.{changed-same, changed-other}
use Rattle.tier_facts.specs.Data.{Data, installed, released}
use Rattle.tier_facts.specs.Facts.{Held, Facts, InFrame, MayInstall, IsClean, HoldsFrame}
use Rattle.tier_facts.proofs.PlaceLaws.{facts_held}
use Rattle.tier_facts.proofs.InstallLaws.{installs_clean}
use Rattle.tier_facts.proofs.ReleaseLaws.{releases, releases_clean}
use Rattle.tier_facts.proofs.LineLaws.{block_current, holds_as}
use Rattle.tier_facts.proofs.ShownLaws.{image_seen}

module _ (t : Data) (first k second m page : ℕ) (bytes block : List ℕ) (at_first : InFrame t first k) (at_second : InFrame t second m) (apart : second ≢ first) (unworn : t.worn m ≡ false)
    (in_store : page < pages t.sizes) (in_table : k ≤ t.sizes.frames) (homeless : t.frame page ≡ None) (absent : (l : ℕ) → l < 64 → t.copy page l ≡ None) (clean : IsClean t page) where
  abbrev without_first : Data
  without_first = released first k t

  abbrev without_both : Data
  without_both = released second m without_first

  still : InFrame without_first second m
  still = record { in_store = at_second.in_store; placed = changed-other first None t.frame second apart ∙ at_second.placed }

  none_stays : (n : ℕ) (f : ℕ → Option ℕ) → f page ≡ None → changed n None f page ≡ None
  none_stays n f none = elim (cases_eq page n) [ inl same ↦ changed-same n None f page same | inr other ↦ changed-other n None f page other ∙ none ]

  empty_stays : (n : ℕ) (f : ℕ → Option ℕ) → f k ≡ None → changed n None f k ≡ None
  empty_stays n f none = elim (cases_eq k n) [ inl same ↦ changed-same n None f k same | inr other ↦ changed-other n None f k other ∙ none ]

  may : MayInstall without_both page k
  may = record {
    in_store = in_store;
    in_table = in_table;
    homeless = none_stays second without_first.frame (none_stays first t.frame homeless);
    empty = empty_stays m without_first.owner (changed-same k None t.owner k refl);
  }

  two_evictions : {a b c d e : Standing} {result : Result (Unit {0}) Stop} → (IsTrue a.told → HoldsFrame t.sizes k (now a) bytes)
      → Made {T = Unit {0}} (release_calls t.sizes k first bytes) a b (Ok tt)
      → Made {T = Unit {0}} (entry_calls m 0) b c (Ok tt)
      → Looked {T = Unit {0}} c d (Ok tt) → (IsTrue c.told → block ≡ (current (now c)).ssd (page_block t.sizes page))
      → Made (install_calls t.sizes k page (from (block_line block) 0 64)) d e result
      → Leads Held (Facts t) (Facts (installed page k false without_both)) a e result
  two_evictions {a} {b} {c} {d} {e} holds written cleared looked read made =
      leads_then (leads_made written (λ told aim s reads before. releases t first k bytes at_first aim s (holds_as t.sizes k (now a) s bytes reads (holds told)) before))
      (leads_then (leads_step cleared (releases_clean without_first second m still unworn))
      (leads_then (leads_looked (facts_held without_both) looked)
      (leads_made made (λ told aim s reads before. installs_clean without_both page k (from (block_line block) 0 64) false may (record { lines = clean.lines }) aim s
      (block_current without_both (current s) page block may.homeless absent (image_seen (λ (i : Image). block ≡ i.ssd (page_block t.sizes page)) s looked read told reads)) before))))
