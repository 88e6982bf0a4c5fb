-- What recovery reads of an image, and that images which agree there recover to the same pages.
use Rattle.std.proofs.Common.{◌≡◌, ◌⊎◌, ℕ, zero, suc, ◌+◌, ◌<◌, ◌≤◌, true, false, ◌&&◌, List, [], ◌∷◌, ◌++◌, length, take, refl, sym, ap, ◌∙◌, inl, inr, arith, cond, ltb, zero-add, add-zero}
use Rattle.std.proofs.Math.Nat
use mathlib.Core.Path.{fun_ext}
use Rattle.std.proofs.lemmas.Bool.{cases_Bool, ltb-true, cond-false, and_parts}
use Rattle.std.proofs.lemmas.List.{take-append-le}
use Rattle.nvm_model.specs.declared.line.Line.{Line}
use Rattle.devices.specs.State.{Image}
use Rattle.nvm_model.specs.Memory.{line_of}
use Rattle.flat_store_meaning.specs.Layout.{Sizes, pages}
use Rattle.flat_store_meaning.specs.Log.{Words, Log, no_log, grouped, applied, applied_with_cuts, is_logged}
use Rattle.flat_store_meaning.specs.Format.{Format, entries, lines_behind, IsWhole, zero_line}
use Rattle.flat_store_meaning.specs.Format.Format.{whole_lines, named_words, with_cuts}
use Rattle.flat_store_meaning.specs.Recovered.{Super, super_of, home, from, log_of, replay, recovered, recovered_pages, lines_of}
use Rattle.flat_store_meaning.specs.View.{Alike, Agree}
use Rattle.flat_store_meaning.proofs.LogLaws.{plain_replay, replay_with_cuts, replayed_word, replayed_named}

-- eight equal words make equal lines
pub line_of-same : (f g : ℕ → ℕ) → ((w : ℕ) → w < 8 → f w ≡ g w) → line_of f ≡ line_of g
line_of-same f g h =
    let h0 : f 0 ≡ g 0 = h 0 (omega arith) in
    let h1 : f 1 ≡ g 1 = h 1 (omega arith) in
    let h2 : f 2 ≡ g 2 = h 2 (omega arith) in
    let h3 : f 3 ≡ g 3 = h 3 (omega arith) in
    let h4 : f 4 ≡ g 4 = h 4 (omega arith) in
    let h5 : f 5 ≡ g 5 = h 5 (omega arith) in
    let h6 : f 6 ≡ g 6 = h 6 (omega arith) in
    let h7 : f 7 ≡ g 7 = h 7 (omega arith) in
    cc

-- the places from one on: what they are, one stretch behind another
pub from-same : (f g : ℕ → Line) (at n : ℕ) → ((o : ℕ) → at ≤ o → o < at + n → f o ≡ g o) → from f at n ≡ from g at n
from-same f g at zero h = refl
from-same f g at (suc n) h =
    let first : f at ≡ g at = h at (omega arith) (omega arith) in
    let rest : from f (at + 1) n ≡ from g (at + 1) n = from-same f g (at + 1) n (λ o low high. h o (omega arith) (omega arith)) in cc

pub from-append : (f : ℕ → Line) (at n m : ℕ) → from f at (n + m) ≡ from f at n ++ from f (at + n) m
from-append f at zero m = rw (zero-add, add-zero) refl
from-append f at (suc n) m = rw Nat.suc-add (ap (λ xs. f at ∷ xs) (from-append f (at + 1) n m ∙ ap (λ k. from f (at + 1) n ++ from f k m) (omega arith)))

whole_length : (format : Format) (skip : ℕ) (xs : List Line) → IsWhole format skip xs → skip ≤ length xs
whole_length format skip [] whole = omega arith
whole_length format zero (x ∷ xs) whole = omega arith
whole_length format (suc skip) (x ∷ xs) whole = let rest : skip ≤ length xs = whole_length format skip xs whole in omega arith

-- entries of whole lines, and of those behind them
pub entries-append : (format : Format) (skip : ℕ) (xs ys : List Line) → IsWhole format skip xs → entries format skip (xs ++ ys) ≡ entries format skip xs ++ entries format 0 ys
entries-append format zero [] ys whole = refl
entries-append format (suc skip) [] ys whole = absurd (omega arith)
entries-append format (suc skip) (x ∷ xs) ys whole = entries-append format skip xs ys whole
entries-append format zero (x ∷ xs) ys whole =
    let long : lines_behind format x ≤ length xs = whole_length format (lines_behind format x) xs whole in
    let rest : entries format (lines_behind format x) (xs ++ ys) ≡ entries format (lines_behind format x) xs ++ entries format 0 ys = entries-append format (lines_behind format x) xs ys whole in
    let part : take (lines_behind format x) (xs ++ ys) ≡ take (lines_behind format x) xs = take-append-le (lines_behind format x) xs ys long in
    rw (part, rest)

-- replay at a word depends on the home of that word alone
pub replay_word : (format : Format) (log : Log) (a b : Words) (p l w : ℕ) → a p l w ≡ b p l w → replay format log a p l w ≡ replay format log b p l w
replay_word whole_lines log a b p l w e = replayed_word applied plain_replay log a b p l w e
replay_word named_words log a b p l w e = replayed_word applied plain_replay log a b p l w e
replay_word with_cuts log a b p l w e = replayed_word applied_with_cuts replay_with_cuts log a b p l w e

-- what the log names doesn't depend on the homes, in each format
pub replay_named : (format : Format) (log : Log) (a b : Words) (p l w : ℕ) → is_logged log p l w ≡ true → replay format log a p l w ≡ replay format log b p l w
replay_named whole_lines log a b p l w h = replayed_named applied plain_replay log a b p l w h
replay_named named_words log a b p l w h = replayed_named applied plain_replay log a b p l w h
replay_named with_cuts log a b p l w h = replayed_named applied_with_cuts replay_with_cuts log a b p l w h

-- images that agree recover to the same words
pub agree_recovered : (format : Format) (i j : Image) → Agree i j → (p l w : ℕ) → p < pages (super_of j).sizes → l < 64 → w < 8 → recovered format i p l w ≡ recovered format j p l w
agree_recovered format i j agree p l w hp hl hw =
    ap (λ (lines : List Line). replay format (grouped no_log (entries format 0 lines)) (home i) p l w) agree.log
    ∙ replay_word format (log_of format j) (home i) (home j) p l w (agree.homes p l w hp hl hw)

pub alike_agree : {i j : Image} → Alike i j → Agree i j
alike_agree alike = record { sizes = ap (λ (sup : Super). sup.sizes) alike.super_words; log = alike.log; homes = alike.homes }

pub alike_recovered : (format : Format) (i j : Image) → Alike i j → (p l w : ℕ) → p < pages (super_of j).sizes → l < 64 → w < 8 → recovered format i p l w ≡ recovered format j p l w
alike_recovered format i j alike p l w hp hl hw = agree_recovered format i j (alike_agree alike) p l w hp hl hw

-- the same words make the same pages
pub lines_of-same : (n : ℕ) (a b : Words) → ((p l w : ℕ) → p < n → l < 64 → w < 8 → a p l w ≡ b p l w) → lines_of n a ≡ lines_of n b
lines_of-same n a b h = fun_ext (λ p. fun_ext (λ l. at p l))
  where
    at : (p l : ℕ) → lines_of n a p l ≡ lines_of n b p l
    at p l = by_test (cases_Bool (ltb p n && ltb l 64))
      where
        by_test : ((ltb p n && ltb l 64) ≡ true) ⊎ ((ltb p n && ltb l 64) ≡ false) → lines_of n a p l ≡ lines_of n b p l
        by_test (inl inside) =
            let parts : (ltb p n ≡ true) × (ltb l 64 ≡ true) = and_parts (ltb p n) (ltb l 64) inside in
            ap (λ (line : Line). cond (ltb p n && ltb l 64) line zero_line)
            (line_of-same (a p l) (b p l) (λ w hw. h p l w (ltb-true p n parts.0) (ltb-true l 64 parts.1) hw))
        by_test (inr outside) = cond-false (ltb p n && ltb l 64) (line_of (a p l)) zero_line outside ∙ sym (cond-false (ltb p n && ltb l 64) (line_of (b p l)) zero_line outside)

-- images that agree recover to the same pages
pub agree_pages : (format : Format) (i j : Image) → Agree i j → recovered_pages format i ≡ recovered_pages format j
agree_pages format i j agree =
    ap (λ (g : Sizes). lines_of (pages g) (recovered format i)) agree.sizes
    ∙ lines_of-same (pages (super_of j).sizes) (recovered format i) (recovered format j) (agree_recovered format i j agree)
