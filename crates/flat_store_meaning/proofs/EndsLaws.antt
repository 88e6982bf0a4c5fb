-- What a commit at the end of a log gives, and that each entry keeps it right.
use Rattle.std.proofs.Common.{◌≡◌, ℕ, Bool, true, false, ◌||◌, List, [], ◌∷◌, ◌++◌, refl, sym, ap, ◌∙◌, subst, inl, inr}
use Rattle.std.proofs.lemmas.Bool.{cases_Bool}
use Rattle.devices.specs.State.{State, current}
use Rattle.flat_store_meaning.specs.Layout.{Sizes}
use Rattle.flat_store_meaning.specs.Log.{Words, Change, Log, no_log, extended, changes, named_in, names, is_logged, redone, written, applied, applied_all}
use Rattle.flat_store_meaning.specs.Log.Item.{write}
use Rattle.flat_store_meaning.specs.Log.Entry.{item, commit, abort}
use Rattle.flat_store_meaning.specs.Format.{Format}
use Rattle.flat_store_meaning.specs.Format.Format.{whole_lines}
use Rattle.flat_store_meaning.specs.Recovered.{log_of, replay}
use Rattle.flat_store_meaning.specs.StoreFacts.{Bookkeeping, IsWord, EndsRight}
use Rattle.flat_store_meaning.specs.AtEnd.{HasLog, LogEnds}
use Rattle.flat_store_meaning.proofs.LogLaws.{changes-append, applied_all-append, redone_other, undone_other, written_named, written_other, is_logged-extended, items_of}
use Rattle.flat_store_meaning.proofs.FactsLaws.{current_leaves, replay-abort}

redone-append : (cs : List Change) (c : Change) (a : Words) → redone (cs ++ c ∷ []) a ≡ written c c.after (redone cs a)
redone-append [] c a = refl
redone-append (x ∷ cs) c a = redone-append cs c (written x x.after a)

-- a commit redoes the open group
pub commit_redone : (log : Log) (a : Words) → replay whole_lines (extended log commit) a ≡ redone (changes log.open_items) (applied_all applied log.closed a)
commit_redone log a = applied_all-append applied log.closed (record { items = log.open_items; committed = true }) a

-- with one record more, the words that it names have its after values
pub commit_record : (log : Log) (c : Change) (a : Words) → replay whole_lines (extended (extended log (item (write c))) commit) a ≡ written c c.after (replay whole_lines (extended log commit) a)
commit_record log c a =
    commit_redone (extended log (item (write c))) a
    ∙ ap (λ (cs : List Change). redone cs (applied_all applied log.closed a)) (changes-append log.open_items c)
    ∙ redone-append (changes log.open_items) c (applied_all applied log.closed a)
    ∙ ap (written c c.after) (sym (commit_redone log a))

-- what the open group doesn't name is the same without the commit
pub commit_untouched : (log : Log) (a : Words) (p l w : ℕ) → named_in (changes log.open_items) p l w ≡ false → replay whole_lines (extended log commit) a p l w ≡ replay whole_lines log a p l w
commit_untouched log a p l w h =
    ap (λ (x : Words). x p l w) (commit_redone log a)
    ∙ redone_other (changes log.open_items) (applied_all applied log.closed a) p l w h
    ∙ sym (undone_other (changes log.open_items) (applied_all applied log.closed a) p l w h)

or_none : (x : Bool) → (x || false) ≡ x
or_none true = refl
or_none false = refl

-- an end names nothing, a record what it names
pub commit_logged : (log : Log) (p l w : ℕ) → is_logged (extended log commit) p l w ≡ is_logged log p l w
unfolding items_of
commit_logged log p l w = is_logged-extended log commit p l w ∙ or_none (is_logged log p l w)

pub abort_logged : (log : Log) (p l w : ℕ) → is_logged (extended log abort) p l w ≡ is_logged log p l w
unfolding items_of
abort_logged log p l w = is_logged-extended log abort p l w ∙ or_none (is_logged log p l w)

pub record_logged : (log : Log) (c : Change) (p l w : ℕ) → is_logged (extended log (item (write c))) p l w ≡ (is_logged log p l w || names c p l w)
unfolding items_of
record_logged log c p l w = is_logged-extended log (item (write c)) p l w ∙ ap (λ b. is_logged log p l w || b) (or_none (names c p l w))

-- An empty log ends right, whatever the words are.
pub none_ends : (g : Sizes) (words : Words) → LogEnds g no_log words
none_ends g words p l w word logged homes = cc

-- With a record more it gives the words with its after values.
pub record_ends : (g : Sizes) (log : Log) (c : Change) (words : Words) → LogEnds g log words → LogEnds g (extended log (item (write c))) (written c c.after words)
record_ends g log c words ends p l w word logged homes =
    ap (λ (f : Words). f p l w) (commit_record log c homes)
    ∙ elim (cases_Bool (names c p l w)) [
      | inl named ↦ written_named c c.after (replay whole_lines (extended log commit) homes) p l w named ∙ sym (written_named c c.after words p l w named)
      | inr other ↦ written_other c c.after (replay whole_lines (extended log commit) homes) p l w other
          ∙ ends p l w word (commit_logged log p l w ∙ first (is_logged log p l w) (names c p l w) other
          (sym (record_logged log c p l w) ∙ sym (commit_logged (extended log (item (write c))) p l w) ∙ logged)) homes
          ∙ sym (written_other c c.after words p l w other)
    ]
  where
    first : (a b : Bool) → b ≡ false → (a || b) ≡ true → a ≡ true
    first true b e h = refl
    first false b e h = cc

-- With the end of a commit it gives the same words.
pub commit_ends : (g : Sizes) (log : Log) (words : Words) → LogEnds g log words → LogEnds g (extended log commit) words
commit_ends g log words ends p l w word logged homes =
    ap (λ (f : Words). f p l w) (commit_redone (extended log commit) homes) ∙ ends p l w word (sym (commit_logged (extended log commit) p l w) ∙ logged) homes

-- With the end of an abort it gives the words that it gave without an end.
pub abort_ends : (g : Sizes) (log : Log) (words : Words)
    → ((p l w : ℕ) → IsWord g p l w → is_logged log p l w ≡ true → (homes : Words) → replay whole_lines log homes p l w ≡ words p l w) → LogEnds g (extended log abort) words
abort_ends g log words gives p l w word logged homes =
    ap (λ (f : Words). f p l w) (commit_redone (extended log abort) homes) ∙ replay-abort whole_lines log homes p l w
    ∙ gives p l w word (sym (abort_logged log p l w) ∙ sym (commit_logged (extended log abort) p l w) ∙ logged) homes

-- The log of every image ends right where that log does, and the other way round.
pub ends_right : (b : Bookkeeping) (s : State) (log : Log) → b.format ≡ whole_lines → HasLog whole_lines log s → LogEnds b.sizes log b.current → EndsRight b s
ends_right b s log format has ends i leaves p l w word logged homes =
    subst (λ (f : Format). replay f (extended (log_of f i) commit) homes p l w ≡ b.current p l w) (sym format)
    (ap (λ (x : Log). replay whole_lines (extended x commit) homes p l w) (has i leaves)
    ∙ ends p l w word (sym (ap (λ (x : Log). is_logged (extended x commit) p l w) (has i leaves)) ∙ subst (λ (f : Format). is_logged (extended (log_of f i) commit) p l w ≡ true) format logged) homes)

pub log_ends : (b : Bookkeeping) (s : State) (log : Log) → b.format ≡ whole_lines → HasLog whole_lines log s → EndsRight b s → LogEnds b.sizes log b.current
log_ends b s log format has right p l w word logged homes =
    let same : log_of whole_lines (current s) ≡ log = has (current s) (current_leaves s) in
    ap (λ (x : Log). replay whole_lines (extended x commit) homes p l w) (sym same)
    ∙ subst (λ (f : Format). replay f (extended (log_of f (current s)) commit) homes p l w ≡ b.current p l w) format
    (right (current s) (current_leaves s) p l w word
    (subst (λ (f : Format). is_logged (extended (log_of f (current s)) commit) p l w ≡ true) (sym format)
    (ap (λ (x : Log). is_logged (extended x commit) p l w) same ∙ logged)) homes)
