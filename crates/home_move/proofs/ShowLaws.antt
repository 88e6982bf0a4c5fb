-- What loads and reads give at each moment while a page comes into a frame or leaves it, and while a line is stored.
use Rattle.std.proofs.Common.{◌≡◌, ◌≢◌, ◌⊎◌, ℕ, ◌+◌, ◌≤◌, List, [], ◌∷◌, ◌++◌, refl, sym, ap, ◌∙◌, subst, inl, inr, arith, None}
use Rattle.std.proofs.lemmas.Bool.{cases_eq}
use Rattle.nvm_model.specs.declared.line.Line.{Line}
use Rattle.nvm_model.specs.Word.{Word}
use Rattle.ssd_model.specs.Block.{Block}
use Rattle.devices.specs.State.{State, Image, Call, Part, Between, Amid, after, after_all, current}
use Rattle.devices.specs.State.Call.{store_word, store_line, flush, fence, write_block, sync}
use Rattle.devices.specs.Growth.{Grows, IsWithin, AreWithin, no_store, no_write}
use Rattle.devices.proofs.GrowthLaws.{Amid-grows, Amid_append, Amid_end}
use Rattle.devices.proofs.StateLaws.{word_stored_other}
use Rattle.device_calls.proofs.ReadLaws.{current_as}
use Rattle.store_model.specs.Layout.{Sizes, frame_line, page_block, entry_line, entry_word}
use Rattle.store_model.specs.Recovered.{Super, super_of, entry_at, home, log_lines}
use Rattle.store_model.specs.StoreFacts.{Bookkeeping, StoreFacts}
use Rattle.store_model.specs.Untouched.{Untouched}
use Rattle.store_model.specs.Install.{frame_calls, entry_calls, install_calls, release_calls, CanInstall}
use Rattle.store_model.specs.Seen.{IsQuiet, CanGiveUp}
use Rattle.store_model.specs.Shown.{Placed}
use Rattle.home_laws.proofs.FactsLaws.{current_leaves}
use Rattle.home_laws.proofs.UntouchedLaws.{calls_untouched}
use Rattle.home_laws.proofs.QuietLaws.{quiet_super, quiet_entry, quiet_log}
use Rattle.home_laws.proofs.InstallLaws.{frame_stores, frame_within, frame_fits}
use Rattle.home_laws.proofs.InstallFacts.{frame_quiet, full, installed_is}
use Rattle.home_laws.proofs.ReleaseFacts.{block_quiet, settled}
use Rattle.home_laws.proofs.ShownLaws.{home_kept}
use Rattle.home_move.specs.Moves.{ShowsSame}

-- ---- what is stored and written nowhere reads as before, at each moment

pub record ReadsOn (stores : ℕ → ℕ → ℕ → Type 0) (writes : ℕ → Type 0) (old new : State) : Type 0 where
  pub words : (l w : ℕ) → ((v : ℕ) → stores l w v → ⊥) → (new.nvm l w).newest ≡ (old.nvm l w).newest
  pub bytes : (n : ℕ) → (writes n → ⊥) → (new.ssd n).bytes ≡ (old.ssd n).bytes

module _ (stores : ℕ → ℕ → ℕ → Type 0) (writes : ℕ → Type 0) where
  on_then : (a b c : State) → ReadsOn stores writes a b → ReadsOn stores writes b c → ReadsOn stores writes a c
  on_then a b c first second = record { words = λ l w h. second.words l w h ∙ first.words l w h; bytes = λ n h. second.bytes n h ∙ first.bytes n h }

  on_after : (call : Call) (s : State) → IsWithin stores writes call → ReadsOn stores writes s (after call s)
  on_after call s within = let kept : Untouched stores writes s (after_all (call ∷ []) s) = calls_untouched stores writes (call ∷ []) s (within, tt) in record { words = kept.newest; bytes = kept.bytes }

  on_between : (s t mid : State) → ReadsOn stores writes s t → Between s t mid → ReadsOn stores writes s mid
  on_between s t mid whole between = record {
    words = λ l w h. elim (between.words l w) [ inl old ↦ ap (λ (x : Word). x.newest) old | inr new ↦ ap (λ (x : Word). x.newest) new ∙ whole.words l w h ];
    bytes = λ n h. elim (between.blocks n) [ inl old ↦ ap (λ (x : Block). x.bytes) old | inr new ↦ ap (λ (x : Block). x.bytes) new ∙ whole.bytes n h ];
  }

  on_part : (call : Call) (s mid : State) → IsWithin stores writes call → Part call s mid → ReadsOn stores writes s mid
  on_part (store_word line word value) s mid within part = on_between s _ mid (on_after (store_word line word value) s within) part
  on_part (store_line line value) s mid within part = on_between s _ mid (on_after (store_line line value) s within) part
  on_part (flush line) s mid within part = on_between s _ mid (on_after (flush line) s within) part
  on_part fence s mid within part = on_between s _ mid (on_after fence s within) part
  on_part (write_block block bytes) s mid within part = record {
    words = λ l w h. ap (λ (x : Word). x.newest) (part.words l w);
    bytes = λ n h. ap (λ (x : Block). x.bytes) (part.others n (λ same. h (subst writes (sym same) within)));
  }
  on_part sync s mid within part = on_between s _ mid (on_after sync s within) part

  pub amid_on : (calls : List Call) (s mid : State) → AreWithin stores writes calls → Amid s calls mid → ReadsOn stores writes s mid
  amid_on [] s mid within at = record { words = λ l w h. ap (λ (x : State). (x.nvm l w).newest) at; bytes = λ n h. ap (λ (x : State). (x.ssd n).bytes) at }
  amid_on (call ∷ calls) s mid within (inl part) = on_part call s mid within.0 part
  amid_on (call ∷ calls) s mid within (inr later) = on_then s (after call s) mid (on_after call s within.0) (amid_on calls (after call s) mid within.1 later)

-- ---- calls that recovery doesn't see

pub quiet_shows : (b : Bookkeeping) (s : State) → StoreFacts b s → b.changing ≡ None → (stores : ℕ → ℕ → ℕ → Type 0) (writes : ℕ → Type 0) → IsQuiet s stores writes
    → (calls : List Call) → AreWithin stores writes calls → (mid : State) → Amid s calls mid → ShowsSame b.sizes s mid
quiet_shows b s facts still stores writes quiet calls within mid amid = record {
  super_words = same_super;
  log = quiet_log b s facts still stores writes quiet mid grows;
  entries = quiet_entry b s facts still stores writes quiet mid grows;
  homes = λ p l w word. home_kept b.sizes (current mid) (current s) (ap (λ (x : Super). x.sizes) same_super ∙ same_sizes) same_sizes (quiet_entry b s facts still stores writes quiet mid grows) p l w
      (λ n h named. on.words (frame_line b.sizes n l) w (λ v st. quiet.frames n l w v (subst (λ (g : Sizes). n ≤ g.frames) (sym same_sizes) h) word.line (λ none. omega arith)
      (subst (λ (g : Sizes). stores (frame_line g n l) w v) (sym same_sizes) st)))
      (λ none. on.bytes (page_block b.sizes p) (λ written. quiet.blocks p (λ n h named. none n (subst (λ (g : Sizes). n ≤ g.frames) same_sizes h) named)
      (subst (λ (g : Sizes). writes (page_block g p)) (sym same_sizes) written)));
}
  where
    grows : Grows stores writes s mid
    grows = Amid-grows stores writes calls s mid within amid

    on : ReadsOn stores writes s mid
    on = amid_on stores writes calls s mid within amid

    same_sizes : (super_of (current s)).sizes ≡ b.sizes
    same_sizes = facts.sizes (current s) (current_leaves s)

    same_super : super_of (current mid) ≡ super_of (current s)
    same_super = quiet_super b s facts still stores writes quiet mid grows

-- ---- a word that is put reads as before, or as it is put

-- where nothing may be stored or written all reads as before
reads_same : (calls : List Call) (s mid : State) → AreWithin no_store no_write calls → Amid s calls mid → current mid ≡ current s
reads_same calls s mid within amid =
    let on : ReadsOn no_store no_write s mid = amid_on no_store no_write calls s mid within amid in
    current_as mid s (record { words = λ l w. on.words l w (λ v none. none); blocks = λ n. on.bytes n (λ none. none) })

entry_shows : (k new : ℕ) (s mid : State) → Amid s (entry_calls k new) mid → (current mid ≡ current s) ⊎ (current mid ≡ current (after_all (entry_calls k new) s))
entry_shows k new s mid (inr later) = inr (reads_same (flush (entry_line k) ∷ fence ∷ []) first mid (tt, (tt, tt)) later ∙ sym (reads_same (flush (entry_line k) ∷ fence ∷ []) first _ (tt, (tt, tt)) (Amid_end (flush (entry_line k) ∷ fence ∷ []) first)))
  where
    first : State
    first = after (store_word (entry_line k) (entry_word k) new) s
entry_shows k new s mid (inl part) = by_word (part.words (entry_line k) (entry_word k))
  where
    first : State
    first = after (store_word (entry_line k) (entry_word k) new) s

    other : (l w : ℕ) → (l ≢ entry_line k) ⊎ (w ≢ entry_word k) → mid.nvm l w ≡ s.nvm l w
    other l w away = elim (part.words l w) [ inl old ↦ old | inr stored ↦ stored ∙ word_stored_other (entry_line k) (entry_word k) new s l w away ]

    bytes : (n : ℕ) → mid.ssd n ≡ s.ssd n
    bytes n = elim (part.blocks n) [ inl old ↦ old | inr same ↦ same ]

    -- a word is the entry, or another one
    split : (t : State) → mid.nvm (entry_line k) (entry_word k) ≡ t.nvm (entry_line k) (entry_word k) → ((l w : ℕ) → (l ≢ entry_line k) ⊎ (w ≢ entry_word k) → t.nvm l w ≡ s.nvm l w) → (l w : ℕ) → mid.nvm l w ≡ t.nvm l w
    split t here away l w = elim (cases_eq l (entry_line k)) [
      | inr line ↦ other l w (inl line) ∙ sym (away l w (inl line))
      | inl line ↦ elim (cases_eq w (entry_word k)) [
        | inr word ↦ other l w (inr word) ∙ sym (away l w (inr word))
        | inl word ↦ ap (λ n. mid.nvm n w) line ∙ ap (mid.nvm (entry_line k)) word ∙ here ∙ sym (ap (t.nvm (entry_line k)) word) ∙ sym (ap (λ n. t.nvm n w) line)
      ]
    ]

    by_word : (mid.nvm (entry_line k) (entry_word k) ≡ s.nvm (entry_line k) (entry_word k)) ⊎ (mid.nvm (entry_line k) (entry_word k) ≡ first.nvm (entry_line k) (entry_word k))
        → (current mid ≡ current s) ⊎ (current mid ≡ current (after_all (entry_calls k new) s))
    by_word (inl old) = inl (current_as mid s (record { words = λ l w. ap (λ (x : Word). x.newest) (split s old (λ n m away. refl) l w); blocks = λ n. ap (λ (x : Block). x.bytes) (bytes n) }))
    by_word (inr stored) = inr (
        current_as mid first (record { words = λ l w. ap (λ (x : Word). x.newest) (split first stored (word_stored_other (entry_line k) (entry_word k) new s) l w); blocks = λ n. ap (λ (x : Block). x.bytes) (bytes n) })
        ∙ sym (reads_same (flush (entry_line k) ∷ fence ∷ []) first _ (tt, (tt, tt)) (Amid_end (flush (entry_line k) ∷ fence ∷ []) first)))

-- ---- a page is put into a frame, and given up by it: at each moment all is as before, or as it is in the end

as_before : {g : Sizes} {s t mid : State} → current mid ≡ current t → ShowsSame g s t → ShowsSame g s mid
as_before {g = g} {s = s} same shows = record {
  super_words = ap super_of same ∙ shows.super_words;
  log = ap log_lines same ∙ shows.log;
  entries = λ n h. ap (λ (i : Image). entry_at i n) same ∙ shows.entries n h;
  homes = λ p l w word. ap (λ (i : Image). home i p l w) same ∙ shows.homes p l w word;
}

as_after : {g : Sizes} {s t mid : State} {k entry page : ℕ} {words : ℕ → ℕ → ℕ} → current mid ≡ current t → Placed g s t k entry page words → Placed g s mid k entry page words
as_after {k = k} {page = page} same placed = record {
  super_words = ap super_of same ∙ placed.super_words;
  log = ap log_lines same ∙ placed.log;
  here = ap (λ (i : Image). entry_at i k) same ∙ placed.here;
  others = λ n h apart. ap (λ (i : Image). entry_at i n) same ∙ placed.others n h apart;
  page_words = λ l w word. ap (λ (i : Image). home i page l w) same ∙ placed.page_words l w word;
  other_pages = λ p l w apart word. ap (λ (i : Image). home i p l w) same ∙ placed.other_pages p l w apart word;
}

pub shows_itself : (g : Sizes) (s : State) → ShowsSame g s s
shows_itself g s = record { super_words = refl; log = refl; entries = λ n h. refl; homes = λ p l w word. refl }

pub install_shows : (b : Bookkeeping) (s : State) (facts : StoreFacts b s) (still : b.changing ≡ None) (k page : ℕ) (lines : List Line) (can : CanInstall b.format s k page lines) (words : ℕ → ℕ → ℕ)
    → Placed b.sizes s (after_all (install_calls b.sizes k page lines) s) k (page + 1) page words
    → (mid : State) → Amid s (install_calls b.sizes k page lines) mid → ShowsSame b.sizes s mid ⊎ Placed b.sizes s mid k (page + 1) page words
install_shows b s facts still k page lines can words placed mid amid =
    elim (Amid_append (frame_calls g k 0 lines ++ fence ∷ []) (entry_calls k (page + 1)) s mid (subst (λ (x : Sizes). Amid s (install_calls x k page lines) mid) (sym same_sizes) amid)) [
      | inl first ↦ inl (filling mid first)
      | inr second ↦ elim (entry_shows k (page + 1) (full b s facts still k page lines can) mid second) [
        | inl same ↦ inl (as_before same (filling (full b s facts still k page lines can) (Amid_end (frame_calls g k 0 lines ++ fence ∷ []) s)))
        | inr same ↦ inr (as_after (same ∙ ap current (sym (installed_is b s facts still k page lines can))) placed)
      ]
    ]
  where
    g : Sizes
    g = (super_of (current s)).sizes

    same_sizes : g ≡ b.sizes
    same_sizes = facts.sizes (current s) (current_leaves s)

    filling : (mid : State) → Amid s (frame_calls g k 0 lines ++ fence ∷ []) mid → ShowsSame b.sizes s mid
    filling mid amid = quiet_shows b s facts still (frame_stores g k) no_write (frame_quiet b s facts still k page lines can) (frame_calls g k 0 lines ++ fence ∷ [])
        (frame_within g k 0 lines (frame_fits b.format s k page lines can)) mid amid

pub release_shows : (b : Bookkeeping) (s : State) (facts : StoreFacts b s) (still : b.changing ≡ None) (k page : ℕ) (bytes : List ℕ) (can : CanGiveUp b s k page bytes) (words : ℕ → ℕ → ℕ)
    → Placed b.sizes s (after_all (release_calls b.sizes k page bytes) s) k 0 page words
    → (mid : State) → Amid s (release_calls b.sizes k page bytes) mid → ShowsSame b.sizes s mid ⊎ Placed b.sizes s mid k 0 page words
release_shows b s facts still k page bytes can words placed mid amid =
    elim (Amid_append (write_block (page_block b.sizes page) bytes ∷ sync ∷ []) (entry_calls k 0) s mid amid) [
      | inl first ↦ inl (writing mid first)
      | inr second ↦ elim (entry_shows k 0 (settled b s facts still k page bytes can) mid second) [
        | inl same ↦ inl (as_before same (writing (settled b s facts still k page bytes can) (Amid_end (write_block (page_block b.sizes page) bytes ∷ sync ∷ []) s)))
        | inr same ↦ inr (as_after same placed)
      ]
    ]
  where
    writing : (mid : State) → Amid s (write_block (page_block b.sizes page) bytes ∷ sync ∷ []) mid → ShowsSame b.sizes s mid
    writing mid amid = quiet_shows b s facts still no_store (λ n. n ≡ page_block b.sizes page) (block_quiet b s facts still k page bytes can) (write_block (page_block b.sizes page) bytes ∷ sync ∷ []) (refl, (tt, tt)) mid amid

pub clear_shows : (g : Sizes) (s : State) (k page : ℕ) (words : ℕ → ℕ → ℕ) → Placed g s (after_all (entry_calls k 0) s) k 0 page words
    → (mid : State) → Amid s (entry_calls k 0) mid → ShowsSame g s mid ⊎ Placed g s mid k 0 page words
clear_shows g s k page words placed mid amid = elim (entry_shows k 0 s mid amid) [
  | inl same ↦ inl (as_before same (shows_itself g s))
  | inr same ↦ inr (as_after same placed)
]
