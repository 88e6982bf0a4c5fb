-- What a commit at the end of a log gives, in each format, and with one record more.
use Rattle.std.proofs.Common.{◌≡◌, ℕ, Bool, true, false, ◌||◌, List, [], ◌∷◌, ◌++◌, refl, sym, ap, ◌∙◌, slice_index, take}
use Rattle.store_model.specs.Log.{Words, Change, Item, Group, Log, names, named_in, is_logged, changes, kept, written, redone, undone, applied, applied_with_cuts, applied_all, last_group, replayed_by, extended}
use Rattle.store_model.specs.Log.Item.{write, cut}
use Rattle.store_model.specs.Log.Entry.{item, commit, abort}
use Rattle.store_model.specs.Format.{Format}
use Rattle.store_model.specs.Format.Format.{whole_lines, named_words, with_cuts}
use Rattle.store_model.specs.Recovered.{replay}
use Rattle.home_laws.proofs.LogLaws.{IsReplay, plain_replay, replay_with_cuts, changes-append, applied_all-append, undone-append, redone_word, undone_word, written_named, written_other, is_logged-extended, items_of}

redone-append : (cs : List Change) (c : Change) (a : Words) → redone (cs ++ c ∷ []) a ≡ written c c.after (redone cs a)
redone-append [] c a = refl
redone-append (x ∷ cs) c a = redone-append cs c (written x x.after a)

kept-append : (so_far : List Change) (items : List Item) (c : Change) → kept so_far (items ++ write c ∷ []) ≡ kept so_far items ++ c ∷ []
kept-append so_far [] c = refl
kept-append so_far (write x ∷ items) c = kept-append (so_far ++ x ∷ []) items c
kept-append so_far (cut n ∷ items) c = kept-append (take n so_far) items c

-- a commit applies the open group
commit_applied : (apply : Group → Words → Words) → IsReplay apply → (log : Log) (a : Words) → replayed_by apply (extended log commit) a ≡ apply (record { items = log.open_items; committed = true }) (applied_all apply log.closed a)
commit_applied apply is log a = is.back [] (applied_all apply (log.closed ++ record { items = log.open_items; committed = true } ∷ []) a)
    ∙ applied_all-append apply log.closed (record { items = log.open_items; committed = true }) a

-- what the open group doesn't name is the same without the commit
untouched_by : (apply : Group → Words → Words) → IsReplay apply → (log : Log) (a : Words) (p l w : ℕ) → named_in (changes log.open_items) p l w ≡ false
    → replayed_by apply (extended log commit) a p l w ≡ replayed_by apply log a p l w
untouched_by apply is log a p l w h =
    ap (λ (x : Words). x p l w) (commit_applied apply is log a)
    ∙ is.other (record { items = log.open_items; committed = true }) (applied_all apply log.closed a) p l w h
    ∙ sym (is.other (last_group log) (applied_all apply log.closed a) p l w h)

pub commit_untouched : (format : Format) (log : Log) (a : Words) (p l w : ℕ) → named_in (changes log.open_items) p l w ≡ false → replay format (extended log commit) a p l w ≡ replay format log a p l w
commit_untouched whole_lines log a p l w h = untouched_by applied plain_replay log a p l w h
commit_untouched named_words log a p l w h = untouched_by applied plain_replay log a p l w h
commit_untouched with_cuts log a p l w h = untouched_by applied_with_cuts replay_with_cuts log a p l w h

-- What a committed group with one record more gives: the after values to what that names, and else what it gave without.
record AddsRecord (apply : Group → Words → Words) : Type 0 where
  named : (items : List Item) (c : Change) (a : Words) (p l w : ℕ) → names c p l w ≡ true → apply (record { items = items ++ write c ∷ []; committed = true }) a p l w ≡ slice_index c.after.words w
  other : (items : List Item) (c : Change) (a : Words) (p l w : ℕ) → names c p l w ≡ false
      → apply (record { items = items ++ write c ∷ []; committed = true }) a p l w ≡ apply (record { items = items; committed = true }) a p l w

plain_adds : AddsRecord applied
plain_adds = record {
  named = λ items c a p l w h. more items c a p l w ∙ written_named c c.after (redone (changes items) a) p l w h;
  other = λ items c a p l w h. more items c a p l w ∙ written_other c c.after (redone (changes items) a) p l w h;
}
  where
    more : (items : List Item) (c : Change) (a : Words) (p l w : ℕ) → redone (changes (items ++ write c ∷ [])) a p l w ≡ written c c.after (redone (changes items) a) p l w
    more items c a p l w = ap (λ (cs : List Change). redone cs a p l w) (changes-append items c) ∙ ap (λ (x : Words). x p l w) (redone-append (changes items) c a)

cuts_add : AddsRecord applied_with_cuts
cuts_add = record {
  named = λ items c a p l w h. more items c a p l w ∙ written_named c c.after (redone (kept [] items) (undone (changes items) (written c c.before a))) p l w h;
  other = λ items c a p l w h. more items c a p l w ∙ written_other c c.after (redone (kept [] items) (undone (changes items) (written c c.before a))) p l w h
      ∙ redone_word (kept [] items) (undone (changes items) (written c c.before a)) (undone (changes items) a) p l w
      (undone_word (changes items) (written c c.before a) a p l w (written_other c c.before a p l w h));
}
  where
    more : (items : List Item) (c : Change) (a : Words) (p l w : ℕ) → redone (kept [] (items ++ write c ∷ [])) (undone (changes (items ++ write c ∷ [])) a) p l w
        ≡ written c c.after (redone (kept [] items) (undone (changes items) (written c c.before a))) p l w
    more items c a p l w =
        ap (λ (cs : List Change). redone cs (undone (changes (items ++ write c ∷ [])) a) p l w) (kept-append [] items c)
        ∙ ap (λ (x : Words). x p l w) (redone-append (kept [] items) c (undone (changes (items ++ write c ∷ [])) a))
        ∙ ap (λ (x : Words). written c c.after (redone (kept [] items) x) p l w) (ap (λ (cs : List Change). undone cs a) (changes-append items c) ∙ undone-append (changes items) c a)

record_named_by : (apply : Group → Words → Words) → IsReplay apply → AddsRecord apply → (log : Log) (c : Change) (a : Words) (p l w : ℕ) → names c p l w ≡ true
    → replayed_by apply (extended (extended log (item (write c))) commit) a p l w ≡ slice_index c.after.words w
record_named_by apply is adds log c a p l w h = ap (λ (x : Words). x p l w) (commit_applied apply is (extended log (item (write c))) a) ∙ adds.named log.open_items c (applied_all apply log.closed a) p l w h

record_other_by : (apply : Group → Words → Words) → IsReplay apply → AddsRecord apply → (log : Log) (c : Change) (a : Words) (p l w : ℕ) → names c p l w ≡ false
    → replayed_by apply (extended (extended log (item (write c))) commit) a p l w ≡ replayed_by apply (extended log commit) a p l w
record_other_by apply is adds log c a p l w h = ap (λ (x : Words). x p l w) (commit_applied apply is (extended log (item (write c))) a) ∙ adds.other log.open_items c (applied_all apply log.closed a) p l w h
    ∙ sym (ap (λ (x : Words). x p l w) (commit_applied apply is log a))

-- With a record more, the words that it names have its after values, and the others what they had.
pub commit_record_named : (format : Format) (log : Log) (c : Change) (a : Words) (p l w : ℕ) → names c p l w ≡ true → replay format (extended (extended log (item (write c))) commit) a p l w ≡ slice_index c.after.words w
commit_record_named whole_lines log c a p l w h = record_named_by applied plain_replay plain_adds log c a p l w h
commit_record_named named_words log c a p l w h = record_named_by applied plain_replay plain_adds log c a p l w h
commit_record_named with_cuts log c a p l w h = record_named_by applied_with_cuts replay_with_cuts cuts_add log c a p l w h

pub commit_record_other : (format : Format) (log : Log) (c : Change) (a : Words) (p l w : ℕ) → names c p l w ≡ false
    → replay format (extended (extended log (item (write c))) commit) a p l w ≡ replay format (extended log commit) a p l w
commit_record_other whole_lines log c a p l w h = record_other_by applied plain_replay plain_adds log c a p l w h
commit_record_other named_words log c a p l w h = record_other_by applied plain_replay plain_adds log c a p l w h
commit_record_other with_cuts log c a p l w h = record_other_by applied_with_cuts replay_with_cuts cuts_add log c a p l w h

or_false : (x : Bool) → (x || false) ≡ x
or_false true = refl
or_false false = refl

-- an end names nothing, a record what it names
pub commit_logged : (log : Log) (p l w : ℕ) → is_logged (extended log commit) p l w ≡ is_logged log p l w
unfolding items_of
commit_logged log p l w = is_logged-extended log commit p l w ∙ or_false (is_logged log p l w)

pub abort_logged : (log : Log) (p l w : ℕ) → is_logged (extended log abort) p l w ≡ is_logged log p l w
unfolding items_of
abort_logged log p l w = is_logged-extended log abort p l w ∙ or_false (is_logged log p l w)

pub record_logged : (log : Log) (c : Change) (p l w : ℕ) → is_logged (extended log (item (write c))) p l w ≡ (is_logged log p l w || names c p l w)
unfolding items_of
record_logged log c p l w = is_logged-extended log (item (write c)) p l w ∙ ap (λ x. is_logged log p l w || x) (or_false (names c p l w))
