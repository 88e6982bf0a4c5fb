-- A format: no magic word while all else is made durable, and then the magic word.
use Rattle.std.proofs.Common.{◌≡◌, ◌≢◌, ◌⊎◌, ℕ, zero, suc, ◌+◌, ◌-◌, ◌*◌, ◌<◌, ◌≤◌, true, ◌&&◌, ltb, List, [], ◌∷◌, ◌++◌, refl, sym, ap, ◌∙◌, subst, inl, inr, arith, false, None, IsTrue, Result, Ok, Err}
use Rattle.std.proofs.lemmas.Bool.{and_parts, lt-ltb, cond-true}
use Rattle.std.proofs.lemmas.Bool.Decides.{nat_tests}
use Rattle.std.specs.Prelude.{nat_le}
use Rattle.nvm_model.specs.declared.line.Line.{Line}
use Rattle.nvm_model.specs.Memory.{line_of}
use Rattle.nvm_model.specs.Word.{Word, IsVersion, IsSingle, single, trimmed}
use Rattle.nvm_model.proofs.WordLaws.{single_version, IsSingle-trimmed}
use Rattle.devices.specs.State.{State, Image, Leaves, Amid, after_all, current, fresh, word_stored}
use Rattle.devices.specs.State.Call.{fence}
use Rattle.devices.specs.Growth.{Grows, AreWithin, no_write}
use Rattle.devices.specs.World.{Standing, Moments, MakesAll, now}
use Rattle.devices.proofs.FreshLaws.{fresh_only}
use Rattle.devices.proofs.StateLaws.{flushed_other, word_stored_other}
use Rattle.devices.proofs.GrowthLaws.{Amid-grows, Amid_append, after_all_append}
use Rattle.devices.proofs.MomentLaws.{Moments-map}
use Rattle.flat_store_meaning.specs.Layout.{Sizes, is_allowed, in_ranges, pages, nvm_lines, ssd_blocks, frame_line}
use Rattle.flat_store_meaning.specs.Log.{Log, no_log, grouped, is_logged}
use Rattle.flat_store_meaning.specs.Format.{Format, magic, word_in, entries, log_check, zero_line}
use Rattle.flat_store_meaning.specs.Format.Format.{whole_lines, named_words, with_cuts}
use Rattle.flat_store_meaning.specs.Recovered.{Super, super_of, super_check, image_log_check, from, log_line, log_lines, log_of, home, replay, recovered, recovered_pages, IsStore}
use Rattle.flat_store_meaning.specs.InOrder.{IsNamed, LineStands, HomeStands}
use Rattle.flat_store_meaning.specs.InOrder.IsNamed.{magic_word, tables, rows, writes, frames, log_blocks, start, drained, tail}
use Rattle.flat_store_meaning.proofs.CheckLaws.{super_check-none, checks_from}
use Rattle.flat_store_meaning.proofs.FactsLaws.{current_leaves}
use Rattle.flat_store_meaning.proofs.FreshLaws.{fresh_stands}
use Rattle.flat_store_meaning.proofs.PutLaws.{single_at}
use Rattle.flat_store_meaning.proofs.RecoveredLaws.{line_of-same}
use Rattle.flat_store_laws.specs.OpenFacts.{super_with}
use Rattle.flat_nvm_log.specs.Puts.{line_put, gate_put}
use Rattle.flat_recovery.specs.Calls.{flush_calls, super_puts, pages_puts, prepare_calls, format_calls, sizes_line, number_line}
use Rattle.flat_recovery.specs.Empty.{catalog_line, IsEmptyStore, MayFormat, Formats}
use Rattle.flat_recovery.proofs.FlushLaws.{within_append, flushes_within, flushes_made, put_other, put_same, put_kept, fenced_single}

zero_no_magic : (x : ℕ) → x ≡ 0 → (format : Format) → x ≢ magic format
zero_no_magic x none whole_lines e = let clash : 0 ≡ magic whole_lines = sym none ∙ e in omega arith
zero_no_magic x none named_words e = let clash : 0 ≡ magic named_words = sym none ∙ e in omega arith
zero_no_magic x none with_cuts e = let clash : 0 ≡ magic with_cuts = sym none ∙ e in omega arith

-- the superblock of an image by its words
super_by : (g : Sizes) (first : ℕ) (i : Image) → i.nvm 0 0 ≡ magic whole_lines → i.nvm 0 1 ≡ g.tables → i.nvm 0 2 ≡ g.rows → i.nvm 0 3 ≡ g.writes → i.nvm 0 4 ≡ g.frames → i.nvm 0 5 ≡ g.log_blocks
    → i.nvm 1 0 ≡ first → i.nvm 3 0 ≡ first → super_of i ≡ super_with g first first
super_by g first i a b c d f h j k =
    let e : super_of i ≡ record {
      magic_word = magic whole_lines;
      sizes = record { tables = g.tables; rows = g.rows; writes = g.writes; frames = g.frames; log_blocks = g.log_blocks };
      start = first;
      drained = first;
      tail = first;
    } = cc in
    e

abbrev at_magic : ℕ → ℕ → ℕ → ℕ → Type 0
at_magic value l w v = (l ≡ 0) × (w ≡ 0) × (v ≡ value)

-- each store of the magic word is one of 0
abbrev no_name : ℕ → ℕ → ℕ → Type 0
no_name l w v = l ≡ 0 → w ≡ 0 → v ≡ 0

-- the pages of allowed sizes have their frames
allowed_framed : (g : Sizes) → is_allowed g ≡ true → pages g ≤ g.frames
allowed_framed g h =
    let test : nat_le (pages g) g.frames ≡ true = (and_parts (nat_le (pages g) g.frames) _ (and_parts (in_ranges g) _ h).1).0 in grind (arith, nat_tests, test)

from_nothing : (f : ℕ → Line) (at n : ℕ) → n ≡ 0 → from f at n ≡ []
from_nothing f at zero e = refl
from_nothing f at (suc n) e = absurd (omega arith)

-- What an image has of an empty store.
record HasEmpty (g : Sizes) (first : ℕ) (i : Image) : Type 0 where
  super_words : super_of i ≡ super_with g first first
  header : (w : ℕ) → w < 8 → i.nvm (frame_line g 0 0) w ≡ word_in catalog_line w

module _ (g : Sizes) (first lines blocks : ℕ) (allowed : is_allowed g ≡ true) (nvm : nvm_lines g ≤ lines) (ssd : ssd_blocks g ≤ blocks) where
  -- An image with that is an empty store.
  module _ (i : Image) (has : HasEmpty g first i) where
    no_lines : log_lines i ≡ []
    no_lines = ap (λ (x : Super). from (log_line x.sizes x.drained i) x.start (x.tail - x.start)) has.super_words ∙ from_nothing (log_line g first i) first (first - first) (omega arith)

    same_log : log_of whole_lines i ≡ no_log
    same_log = ap (λ (xs : List Line). grouped no_log (entries whole_lines 0 xs)) no_lines

    log_passes : image_log_check whole_lines i ≡ None
    log_passes = ap (λ (xs : List Line). log_check whole_lines (super_of i).sizes (super_of i).start 0 xs) no_lines

    super_passes : super_check (super_of i) ≡ None
    super_passes = ap super_check has.super_words ∙ super_check-none (super_with g first first) (record { sizes = allowed; started = omega arith; in_ring = omega arith })

    is_store : IsStore whole_lines i
    is_store = record { magic_word = ap (λ (x : Super). x.magic_word) has.super_words; checks = checks_from whole_lines i super_passes log_passes }

    word_is : (w : ℕ) → w < 8 → recovered whole_lines i 0 0 w ≡ word_in catalog_line w
    word_is w hw = ap (λ (x : Log). replay whole_lines x (home i) 0 0 w) same_log ∙ ap (λ (x : Super). i.nvm (frame_line x.sizes 0 0) w) has.super_words ∙ has.header w hw

    catalog_is : recovered_pages whole_lines i 0 0 ≡ catalog_line
    catalog_is =
        cond-true (ltb 0 (pages (super_of i).sizes) && ltb 0 64) (line_of (recovered whole_lines i 0 0)) zero_line (first_page (super_of i).sizes)
        ∙ line_of-same (recovered whole_lines i 0 0) (word_in catalog_line) word_is
      where
        first_page : (g : Sizes) → (ltb 0 (pages g) && ltb 0 64) ≡ true
        first_page g = rw (lt-ltb 0 (pages g) (omega arith)) refl

    fresh_empty : IsEmptyStore g first lines blocks (fresh i)
    fresh_empty = record {
      stands = fresh_stands whole_lines lines blocks i is_store (subst (λ (x : Super). nvm_lines x.sizes ≤ lines) (sym has.super_words) nvm) (subst (λ (x : Super). ssd_blocks x.sizes ≤ blocks) (sym has.super_words) ssd);
      super_words = has.super_words;
      catalog = λ j left. subst (λ (x : Image). recovered_pages whole_lines x 0 0 ≡ catalog_line) (sym (fresh_only i j left)) catalog_is;
    }

  module _ (m : ℕ) (named : m ≡ magic whole_lines) (entry : State) where
    -- the magic word is away; all that stands in the frames is flushed, and the catalog is there; so is the superblock
    abbrev unnamed : State
    unnamed = after_all (gate_put 0 0) entry

    abbrev flushed_pages : State
    flushed_pages = after_all (flush_calls (frame_line g 0 0) (64 * (g.frames + 1))) unnamed

    abbrev paged : State
    paged = after_all (line_put (frame_line g 0 0) catalog_line) flushed_pages

    abbrev prepared : State
    prepared = after_all (super_puts g first ++ fence ∷ []) paged

    abbrev named_state : State
    named_state = after_all (gate_put 0 m) prepared

    is_prepared : after_all (prepare_calls g first) unnamed ≡ prepared
    is_prepared =
        after_all_append (pages_puts g) (super_puts g first ++ fence ∷ []) unnamed
        ∙ ap (after_all (super_puts g first ++ fence ∷ [])) (after_all_append (flush_calls (frame_line g 0 0) (64 * (g.frames + 1))) (line_put (frame_line g 0 0) catalog_line) unnamed)

    first_may : (mid : State) → Amid entry (gate_put 0 0) mid → MayFormat g first lines blocks entry mid
    first_may mid amid i leaves =
        let grows : Grows (at_magic 0) no_write entry mid = Amid-grows (at_magic 0) no_write (gate_put 0 0) entry mid ((refl, refl, refl), (tt, (tt, tt))) amid in
        elim (grows.words 0 0 (i.nvm 0 0) (leaves.words 0 0)) [
          | inr st ↦ inr (inl (zero_no_magic (i.nvm 0 0) st.2))
          | inl old ↦ inl record {
            words = λ l w. elim (grows.words l w (i.nvm l w) (leaves.words l w)) [
              | inl was ↦ was
              | inr st ↦ rw (st.0, st.1) old
            ];
            blocks = λ b settled. elim (grows.blocks b) [ inl written ↦ absurd written | inr kept ↦ leaves.blocks b (kept.0 settled) ∙ kept.1 ];
          }
        ]

    prepares : AreWithin no_name no_write (prepare_calls g first)
    prepares =
        within_append no_name no_write (pages_puts g) (super_puts g first ++ fence ∷ [])
        (within_append no_name no_write (flush_calls (frame_line g 0 0) (64 * (g.frames + 1))) (line_put (frame_line g 0 0) catalog_line)
        (flushes_within no_name no_write (frame_line g 0 0) (64 * (g.frames + 1))) ((λ w hw l₀ w₀. absurd (omega arith)), (tt, tt)))
        ((λ w hw l₀ w₀. in_sizes w w₀), (tt, ((λ w hw l₀ w₀. absurd (omega arith)), (tt, ((λ w hw l₀ w₀. absurd (omega arith)), (tt, ((λ w hw l₀ w₀. absurd (omega arith)), (tt, (tt, tt)))))))))
      where
        in_sizes : (w : ℕ) → w ≡ 0 → word_in (sizes_line g) w ≡ 0
        in_sizes w e = ap (λ n. word_in (sizes_line g) n) e

    second_may : (mid : State) → Amid unnamed (prepare_calls g first) mid → MayFormat g first lines blocks entry mid
    second_may mid amid i leaves =
        let grows : Grows no_name no_write unnamed mid = Amid-grows no_name no_write (prepare_calls g first) unnamed mid prepares amid in
        inr (inl (zero_no_magic (i.nvm 0 0) (elim (grows.words 0 0 (i.nvm 0 0) (leaves.words 0 0)) [
          | inl old ↦ single_at (unnamed.nvm 0 0) 0 (i.nvm 0 0) refl old
          | inr st ↦ st refl refl
        ])))

    -- the words of a frame's line, but for those of the catalog, are as they were
    framed : (l w : ℕ) → 16 ≤ l → prepared.nvm l w ≡ trimmed (paged.nvm l w)
    framed l w high =
        let a : State = after_all (line_put 0 (sizes_line g)) paged in
        let b : State = after_all (line_put 1 (number_line first)) a in
        let d : State = after_all (line_put 2 (number_line 0)) b in
        ap trimmed (put_other 3 (number_line first) d l w (λ e. omega arith) ∙ put_other 2 (number_line 0) b l w (λ e. omega arith)
        ∙ put_other 1 (number_line first) a l w (λ e. omega arith) ∙ put_other 0 (sizes_line g) paged l w (λ e. omega arith))

    page_single : (p l w : ℕ) → p < pages g → l < 64 → IsSingle (prepared.nvm (frame_line g p l) w)
    page_single p l w hp hl =
        let few : pages g ≤ g.frames = allowed_framed g allowed in
        subst IsSingle (sym (framed (frame_line g p l) w (omega arith)))
        (fenced_single (paged.nvm (frame_line g p l) w) (put_kept (frame_line g 0 0) catalog_line flushed_pages (frame_line g p l) w
        (flushes_made (frame_line g 0 0) (64 * (g.frames + 1)) unnamed (frame_line g p l) w (omega arith) (omega arith))))

    header_word : (w : ℕ) → w < 8 → (prepared.nvm (frame_line g 0 0) w).newest ≡ word_in catalog_line w
    header_word w hw =
        ap (λ (x : Word). x.newest) (framed (frame_line g 0 0) w (omega arith))
        ∙ ap (λ (x : Word). x.newest) (put_same (frame_line g 0 0) catalog_line flushed_pages w hw)

    -- an image with the magic word, of that state
    module _ (i : Image) (name : i.nvm 0 0 ≡ m) (others : (l w : ℕ) → (l ≢ 0) ⊎ (w ≢ 0) → IsVersion (prepared.nvm l w) (i.nvm l w)) where
      word_at : (l w v : ℕ) → (l ≢ 0) ⊎ (w ≢ 0) → prepared.nvm l w ≡ single v → i.nvm l w ≡ v
      word_at l w v other e = single_at (prepared.nvm l w) v (i.nvm l w) e (others l w other)

      named_super : super_of i ≡ super_with g first first
      named_super =
          super_by g first i (name ∙ named) (word_at 0 1 g.tables (inr (λ e. omega arith)) refl) (word_at 0 2 g.rows (inr (λ e. omega arith)) refl)
          (word_at 0 3 g.writes (inr (λ e. omega arith)) refl) (word_at 0 4 g.frames (inr (λ e. omega arith)) refl) (word_at 0 5 g.log_blocks (inr (λ e. omega arith)) refl)
          (word_at 1 0 first (inl (λ e. omega arith)) refl) (word_at 3 0 first (inl (λ e. omega arith)) refl)

      named_empty : HasEmpty g first i
      named_empty = record {
        super_words = named_super;
        header = λ w hw. single_version (prepared.nvm (frame_line g 0 0) w) (i.nvm (frame_line g 0 0) w) (page_single 0 0 w (omega arith) (omega arith)) (others (frame_line g 0 0) w (inl (λ e. omega arith))) ∙ header_word w hw;
      }

    third_may : (mid : State) → Amid prepared (gate_put 0 m) mid → MayFormat g first lines blocks entry mid
    third_may mid amid i leaves =
        let grows : Grows (at_magic m) no_write prepared mid = Amid-grows (at_magic m) no_write (gate_put 0 m) prepared mid ((refl, refl, refl), (tt, (tt, tt))) amid in
        inr (elim (grows.words 0 0 (i.nvm 0 0) (leaves.words 0 0)) [
          | inl old ↦ inl (zero_no_magic (i.nvm 0 0) (single_at (prepared.nvm 0 0) 0 (i.nvm 0 0) refl old))
          | inr st ↦ inr (fresh_empty i (named_empty i st.2 (λ l w other. elim (grows.words l w (i.nvm l w) (leaves.words l w)) [
            | inl was ↦ was
            | inr put ↦ absurd (elim other [ inl line ↦ line put.0 | inr word ↦ word put.1 ])
          ])))
        ])

    -- what is there in the end
    named_other : (l w : ℕ) → 16 ≤ l → named_state.nvm l w ≡ trimmed (prepared.nvm l w)
    named_other l w high = ap trimmed (flushed_other 0 (word_stored 0 0 m prepared) l w (λ e. omega arith) ∙ word_stored_other 0 0 m prepared l w (inl (λ e. omega arith)))

    done_single : (p l w : ℕ) → p < pages g → l < 64 → IsSingle (named_state.nvm (frame_line g p l) w)
    done_single p l w hp hl = subst IsSingle (sym (named_other (frame_line g p l) w (omega arith))) (IsSingle-trimmed (prepared.nvm (frame_line g p l) w) (page_single p l w hp hl))

    done_image : (i : Image) → Leaves named_state i → HasEmpty g first i
    done_image i leaves = record {
      super_words =
          super_by g first i (made_at 0 0 m refl ∙ named) (made_at 0 1 g.tables refl) (made_at 0 2 g.rows refl) (made_at 0 3 g.writes refl) (made_at 0 4 g.frames refl)
          (made_at 0 5 g.log_blocks refl) (made_at 1 0 first refl) (made_at 3 0 first refl);
      header = λ w hw.
          single_version (named_state.nvm (frame_line g 0 0) w) (i.nvm (frame_line g 0 0) w) (done_single 0 0 w (omega arith) (omega arith)) (leaves.words (frame_line g 0 0) w)
          ∙ ap (λ (x : Word). x.newest) (named_other (frame_line g 0 0) w (omega arith)) ∙ header_word w hw;
    }
      where
        made_at : (l w v : ℕ) → named_state.nvm l w ≡ single v → i.nvm l w ≡ v
        made_at l w v e = single_at (named_state.nvm l w) v (i.nvm l w) e (leaves.words l w)

    one_gate : (l w : ℕ) → IsNamed l w → IsSingle (named_state.nvm l w)
    one_gate _ _ magic_word = refl
    one_gate _ _ tables = refl
    one_gate _ _ rows = refl
    one_gate _ _ writes = refl
    one_gate _ _ frames = refl
    one_gate _ _ log_blocks = refl
    one_gate _ _ start = refl
    one_gate _ _ drained = refl
    one_gate _ _ tail = refl

    done : IsEmptyStore g first lines blocks named_state
    done =
        let has : HasEmpty g first (current named_state) = done_image (current named_state) (current_leaves named_state) in
        record {
          stands = record {
            gates = record {
              superblock = one_gate;
              magic = ap (λ (x : Super). x.magic_word) has.super_words;
              super_checks = super_passes (current named_state) has;
              nvm_fits = subst (λ (x : Super). nvm_lines x.sizes ≤ lines) (sym has.super_words) nvm;
              ssd_fits = subst (λ (x : Super). ssd_blocks x.sizes ≤ blocks) (sym has.super_words) ssd;
            };
            log = record {
              lines = subst (λ (x : Super). (o : ℕ) → x.start ≤ o → o < x.tail → LineStands x named_state o) (sym has.super_words) (λ o above below. absurd (omega arith));
              checks = log_passes (current named_state) has;
            };
            homes = subst (λ (x : Sizes). (p l w : ℕ) → p < pages x → l < 64 → w < 8 → is_logged (log_of whole_lines (current named_state)) p l w ≡ false → HomeStands x named_state p l w)
                (sym (ap (λ (x : Super). x.sizes) has.super_words)) (λ p l w hp hl hw none v version. single_version (named_state.nvm (frame_line g p l) w) v (done_single p l w hp hl) version);
          };
          super_words = has.super_words;
          catalog = λ i leaves. catalog_is i (done_image i leaves);
        }

    is_named : after_all (gate_put 0 0 ++ (prepare_calls g first ++ gate_put 0 m)) entry ≡ named_state
    is_named = after_all_append (prepare_calls g first) (gate_put 0 m) unnamed ∙ ap (after_all (gate_put 0 m)) is_prepared

    pub format_moment : (mid : State) → Amid entry (gate_put 0 0 ++ (prepare_calls g first ++ gate_put 0 m)) mid → MayFormat g first lines blocks entry mid
    format_moment mid amid = elim (Amid_append (gate_put 0 0) (prepare_calls g first ++ gate_put 0 m) entry mid amid) [
      | inl begun ↦ first_may mid begun
      | inr later ↦ elim (Amid_append (prepare_calls g first) (gate_put 0 m) unnamed mid later) [
        | inl within ↦ second_may mid within
        | inr last ↦ third_may mid (subst (λ (s : State). Amid s (gate_put 0 m) mid) is_prepared last)
      ]
    ]

-- The same at a device whose function made these calls.
module _ (g : Sizes) (first : ℕ) (a b : Standing) (told : IsTrue a.told) (nvm : nvm_lines g ≤ a.lines) (ssd : ssd_blocks g ≤ a.blocks) (allowed : is_allowed g ≡ true) where
  format_moments : {T E : Type 0} (r : Result T E) → MakesAll (format_calls g first) a b r → Moments a b (MayFormat g first a.lines a.blocks (now a))
  format_moments r makes = Moments-map (λ mid amid. format_moment g first a.lines a.blocks allowed nvm ssd (magic whole_lines) refl (now a) mid amid) (makes.part told)

  pub format_done : {E F : Type 0} → MakesAll {T = Unit {0}} {E = E} (format_calls g first) a b (Ok tt) → Formats {T = Unit {0}} {E = F} g first a b (Ok tt)
  format_done makes = record {
    moments = format_moments (Ok tt) makes;
    ok = subst (λ (s : State). IsEmptyStore g first a.lines a.blocks s) (sym (makes.whole told ∙ is_named g first a.lines a.blocks allowed nvm ssd (magic whole_lines) refl (now a))) (done g first a.lines a.blocks allowed nvm ssd (magic whole_lines) refl (now a));
  }

  pub format_stopped : {E F : Type 0} {e : E} (why : F) → MakesAll {T = Unit {0}} {E = E} (format_calls g first) a b (Err e) → Formats {T = Unit {0}} {E = F} g first a b (Err why)
  format_stopped {e = e} why makes = record { moments = format_moments (Err e) makes; ok = tt }
