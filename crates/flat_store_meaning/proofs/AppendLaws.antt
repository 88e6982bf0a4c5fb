-- An entry put at the end of the log: what each image recovers to, at each moment.
use Rattle.std.proofs.Common.{◌≡◌, ◌⊎◌, ℕ, ◌<◌, true, false, List, [], ◌∷◌, length, refl, ap, ◌∙◌, subst, inl, inr, slice_index, get_or, IsTrue, Result}
use Rattle.nvm_model.specs.declared.line.Line.{Line}
use Rattle.devices.specs.State.{State, Image, after_all, Amid, Leaves, current}
use Rattle.flat_store_meaning.specs.Layout.{pages}
use Rattle.flat_store_meaning.specs.Log.{Words, Change, Entry, Log, no_log, grouped, extended, names, named_in, changes, applied, applied_with_cuts}
use Rattle.flat_store_meaning.specs.Log.Item.{write}
use Rattle.flat_store_meaning.specs.Log.Entry.{item, commit, abort}
use Rattle.flat_store_meaning.specs.Format.{Format, entries, IsWhole, zero_line}
use Rattle.flat_store_meaning.specs.Format.Format.{whole_lines, named_words, with_cuts}
use Rattle.flat_store_meaning.specs.Recovered.{Super, super_of, log_lines, log_of, home, replay, recovered}
use Rattle.flat_store_meaning.specs.View.{Alike, Extends}
use Rattle.flat_store_meaning.specs.Put.{append_calls, IsLine, CanPut}
use Rattle.flat_store_meaning.specs.Append.{RecoversTo, record_of, commit_lines, abort_lines}
use Rattle.devices.specs.World.{Standing, Moments, MakesAll, now}
use Rattle.devices.proofs.MomentLaws.{Moments-map}
use Rattle.flat_store_meaning.proofs.LogLaws.{plain_replay, replay_with_cuts, replayed-record, grouped-append}
use Rattle.flat_store_meaning.proofs.RecoveredLaws.{entries-append, replay_word, alike_recovered}
use Rattle.flat_store_meaning.proofs.PutLaws.{put_at_end, put_done}

-- a record more at the end of the log, in each format
pub replay-record : (format : Format) (log : Log) (c : Change) (a : Words) (p l w : ℕ)
    → (names c p l w ≡ true → named_in (changes log.open_items) p l w ≡ false → replay format log a p l w ≡ slice_index c.before.words w)
    → replay format (extended log (item (write c))) a p l w ≡ replay format log a p l w
replay-record whole_lines log c a p l w h = replayed-record applied plain_replay log c a p l w h
replay-record named_words log c a p l w h = replayed-record applied plain_replay log c a p l w h
replay-record with_cuts log c a p l w h = replayed-record applied_with_cuts replay_with_cuts log c a p l w h

-- a log that whole lines are put behind has their entries last
pub extended_log : (format : Format) (i j : Image) (xs : List Line) → Extends i j xs → IsWhole format 0 (log_lines j) → log_of format i ≡ grouped (log_of format j) (entries format 0 xs)
extended_log format i j xs extends whole =
    ap (λ (lines : List Line). grouped no_log (entries format 0 lines)) extends.log
    ∙ ap (λ (es : List Entry). grouped no_log es) (entries-append format 0 (log_lines j) xs whole)
    ∙ grouped-append no_log (entries format 0 (log_lines j)) (entries format 0 xs)

module _ (format : Format) (s : State) (xs : List Line) (can : CanPut s (length xs))
    (lines : (k : ℕ) → k < length xs → IsLine (get_or xs k zero_line))
    (whole : (j : Image) → Leaves s j → IsWhole format 0 (log_lines j)) where
  extends_words : (i j : Image) (e : Entry) → Leaves s j → entries format 0 xs ≡ e ∷ [] → Extends i j xs → (p l w : ℕ) → p < pages (super_of j).sizes → l < 64 → w < 8
      → recovered format i p l w ≡ replay format (extended (log_of format j) e) (home j) p l w
  extends_words i j e left is extends p l w hp hl hw =
      ap (λ (log : Log). replay format log (home i) p l w) (extended_log format i j xs extends (whole j left) ∙ ap (grouped (log_of format j)) is)
      ∙ replay_word format (extended (log_of format j) e) (home i) (home j) p l w (extends.homes p l w hp hl hw)

  -- While a record is put at the end, and when that is done, every image recovers to the same words, where its before
  -- values are those words, but for the words that an earlier record of the open group names.
  pub append_keeps : (r : Change) (words : Words) → entries format 0 xs ≡ item (write r) ∷ [] → RecoversTo format s words
      → ((j : Image) → Leaves s j → (p l w : ℕ) → names r p l w ≡ true → named_in (changes (log_of format j).open_items) p l w ≡ false → words p l w ≡ slice_index r.before.words w)
      → (mid : State) → Amid s (append_calls (super_of (current s)).sizes (super_of (current s)).tail xs) mid
      → RecoversTo format mid words
  append_keeps r words is recovers before mid amid i leaves p l w hp hl hw =
      let found : (j : Image) × Leaves s j × (Alike i j ⊎ Extends i j xs) = put_at_end s xs can lines mid amid i leaves in
      let j : Image = found.0 in
      elim found.2 [
        | inl alike ↦
            (let hp' : p < pages (super_of j).sizes = subst (λ (x : Super). p < pages x.sizes) alike.super_words hp in
            alike_recovered format i j alike p l w hp' hl hw ∙ recovers j found.1 p l w hp' hl hw)
        | inr extends ↦
            (let hp' : p < pages (super_of j).sizes = subst (λ (x : Super). p < pages x.sizes) extends.super_words hp in
            extends_words i j (item (write r)) found.1 is extends p l w hp' hl hw
            ∙ replay-record format (log_of format j) r (home j) p l w (λ named unnamed. recovers j found.1 p l w hp' hl hw ∙ before j found.1 p l w named unnamed)
            ∙ recovers j found.1 p l w hp' hl hw)
      ]

  -- While an end is put there, each image recovers to the old words or to those that the groups with the end last give.
  pub end_chooses : (e : Entry) (old new : Words) → entries format 0 xs ≡ e ∷ [] → RecoversTo format s old
      → ((j : Image) → Leaves s j → (p l w : ℕ) → p < pages (super_of j).sizes → l < 64 → w < 8 → replay format (extended (log_of format j) e) (home j) p l w ≡ new p l w)
      → (mid : State) → Amid s (append_calls (super_of (current s)).sizes (super_of (current s)).tail xs) mid → (i : Image) → Leaves mid i
      → ((p l w : ℕ) → p < pages (super_of i).sizes → l < 64 → w < 8 → recovered format i p l w ≡ old p l w)
      ⊎ ((p l w : ℕ) → p < pages (super_of i).sizes → l < 64 → w < 8 → recovered format i p l w ≡ new p l w)
  end_chooses e old new is recovers gives mid amid i leaves =
      let found : (j : Image) × Leaves s j × (Alike i j ⊎ Extends i j xs) = put_at_end s xs can lines mid amid i leaves in
      let j : Image = found.0 in
      elim found.2 [
        | inl alike ↦ inl (λ p l w hp hl hw.
            let hp' : p < pages (super_of j).sizes = subst (λ (x : Super). p < pages x.sizes) alike.super_words hp in
            alike_recovered format i j alike p l w hp' hl hw ∙ recovers j found.1 p l w hp' hl hw)
        | inr extends ↦ inr (λ p l w hp hl hw.
            let hp' : p < pages (super_of j).sizes = subst (λ (x : Super). p < pages x.sizes) extends.super_words hp in
            extends_words i j e found.1 is extends p l w hp' hl hw ∙ gives j found.1 p l w hp' hl hw)
      ]

  -- When that is done each image recovers to the new words.
  pub end_done : (e : Entry) (new : Words) → entries format 0 xs ≡ e ∷ []
      → ((j : Image) → Leaves s j → (p l w : ℕ) → p < pages (super_of j).sizes → l < 64 → w < 8 → replay format (extended (log_of format j) e) (home j) p l w ≡ new p l w)
      → RecoversTo format (after_all (append_calls (super_of (current s)).sizes (super_of (current s)).tail xs) s) new
  end_done e new is gives i leaves p l w hp hl hw =
      let found : (j : Image) × Leaves s j × Extends i j xs = put_done s xs can lines i leaves in
      let hp' : p < pages (super_of found.0).sizes = subst (λ (x : Super). p < pages x.sizes) (found.2).super_words hp in
      extends_words i found.0 e found.1 is found.2 p l w hp' hl hw ∙ gives found.0 found.1 p l w hp' hl hw

-- the lines of a record are read as that record
pub record_of-entries : (page line : ℕ) (before after : Line) → entries whole_lines 0 (record_of page line before after)
    ≡ item (write (record { page = page; line = line; mask = 255; before = before; after = after })) ∷ []
record_of-entries page line before after = refl

pub commit_lines-entries : (format : Format) → entries format 0 commit_lines ≡ commit ∷ []
commit_lines-entries whole_lines = refl
commit_lines-entries named_words = refl
commit_lines-entries with_cuts = refl

pub abort_lines-entries : (format : Format) → entries format 0 abort_lines ≡ abort ∷ []
abort_lines-entries whole_lines = refl
abort_lines-entries named_words = refl
abort_lines-entries with_cuts = refl

-- The same of the calls of a device: each moment of them has the old words, and each image that it leaves recovers to them.
pub append_moments : {T E : Type 0} {a b : Standing} {r : Result T E} (format : Format) (xs : List Line) → IsTrue a.told → CanPut (now a) (length xs)
    → ((k : ℕ) → k < length xs → IsLine (get_or xs k zero_line))
    → ((j : Image) → Leaves (now a) j → IsWhole format 0 (log_lines j))
    → (c : Change) (words : Words) → entries format 0 xs ≡ item (write c) ∷ [] → RecoversTo format (now a) words
    → ((j : Image) → Leaves (now a) j → (p l w : ℕ) → names c p l w ≡ true → named_in (changes (log_of format j).open_items) p l w ≡ false → words p l w ≡ slice_index c.before.words w)
    → MakesAll (append_calls (super_of (current (now a))).sizes (super_of (current (now a))).tail xs) a b r
    → Moments a b (λ s. RecoversTo format s words)
append_moments {a = a} format xs told can lines whole c words is recovers before makes =
    Moments-map (λ mid amid. append_keeps format (now a) xs can lines whole c words is recovers before mid amid) (makes.part told)
