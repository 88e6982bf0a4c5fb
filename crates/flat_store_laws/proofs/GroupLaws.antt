-- The open group over a record and over both ends, and that its records are those of the log.
use Rattle.std.proofs.Common.{◌≡◌, ℕ, zero, suc, ◌+◌, List, [], ◌∷◌, ◌++◌, length, arith, refl, sym, ap, ◌∙◌, subst, append_assoc, append-nil, flat_map}
use Rattle.nvm_model.specs.declared.line.Line.{Line}
use Rattle.devices.specs.State.{Image}
use Rattle.flat_store_meaning.specs.Layout.{Sizes}
use Rattle.flat_store_meaning.specs.Log.{Change, Log, Item, Entry, grouped, no_log, extended, changes}
use Rattle.flat_store_meaning.specs.Log.Item.{write}
use Rattle.flat_store_meaning.specs.Log.Entry.{item}
use Rattle.flat_store_meaning.specs.Format.{IsWhole, entries}
use Rattle.flat_store_meaning.specs.Format.Format.{whole_lines}
use Rattle.flat_store_meaning.specs.Recovered.{log_lines, log_of}
use Rattle.flat_store_meaning.specs.Append.{commit_lines, abort_lines}
use Rattle.flat_store_meaning.proofs.RecoveredLaws.{entries-append}
use Rattle.flat_store_meaning.proofs.LogLaws.{grouped-append, changes-append}
use Rattle.flat_store_laws.specs.OpenGroup.{OpenGroup, IsOfStore, AreOfStore, change_lines}

whole-append : (skip : ℕ) (xs ys : List Line) → IsWhole whole_lines skip xs → IsWhole whole_lines 0 ys → IsWhole whole_lines skip (xs ++ ys)
whole-append skip [] ys none rest = subst (λ n. IsWhole whole_lines n ys) (sym none) rest
whole-append (suc skip) (x ∷ xs) ys whole rest = whole-append skip xs ys whole rest
whole-append zero (x ∷ xs) ys whole rest = whole-append _ xs ys whole rest

flat-append : (cs : List Change) (c : Change) → flat_map change_lines (cs ++ c ∷ []) ≡ flat_map change_lines cs ++ change_lines c
flat-append [] c = append-nil (change_lines c)
flat-append (x ∷ cs) c = ap (λ (ys : List Line). change_lines x ++ ys) (flat-append cs c) ∙ sym (append_assoc (change_lines x) (flat_map change_lines cs) (change_lines c))

whole_group : (cs : List Change) → IsWhole whole_lines 0 (flat_map change_lines cs)
whole_group [] = refl
whole_group (c ∷ cs) = whole_group cs

are_more : (g : Sizes) (cs : List Change) (c : Change) → AreOfStore g cs → IsOfStore g c → AreOfStore g (cs ++ c ∷ [])
are_more g [] c all one = (one, tt)
are_more g (x ∷ xs) c all one = (all.0, are_more g xs c all.1 one)

-- the records of the open group are those that the log's entries say
group_entries : (g : Sizes) (cs : List Change) → AreOfStore g cs → (log : Log)
    → changes (grouped log (entries whole_lines 0 (flat_map change_lines cs))).open_items ≡ changes log.open_items ++ cs
group_entries g [] all log = sym (append-nil (changes log.open_items))
group_entries g (c ∷ cs) all log =
    group_entries g cs all.1 (extended log (item (write (whole_change c 255))))
    ∙ ap (λ (xs : List Change). xs ++ cs) (changes-append log.open_items (whole_change c 255))
    ∙ append_assoc (changes log.open_items) (whole_change c 255 ∷ []) cs
    ∙ ap (λ m. changes log.open_items ++ whole_change c m ∷ cs) (sym (all.0).mask)
  where
    whole_change : Change → ℕ → Change
    whole_change c m = record { page = c.page; line = c.line; mask = m; before = c.before; after = c.after }

pub group_changes : (g : Sizes) (start first : ℕ) (i : Image) (it : OpenGroup g start first i) → changes (log_of whole_lines i).open_items ≡ it.group
group_changes g start first i it =
    ap (λ (ys : List Line). changes (grouped no_log (entries whole_lines 0 ys)).open_items) it.lines
    ∙ ap (λ (es : List Entry). changes (grouped no_log es).open_items) (entries-append whole_lines 0 it.front (flat_map change_lines it.group) it.whole)
    ∙ ap (λ (x : Log). changes x.open_items) (grouped-append no_log (entries whole_lines 0 it.front) (entries whole_lines 0 (flat_map change_lines it.group)))
    ∙ group_entries g it.group it.of_store (grouped no_log (entries whole_lines 0 it.front))
    ∙ ap (λ (items : List Item). changes items ++ it.group) it.ended

-- an empty log
pub group_none : (g : Sizes) (start : ℕ) (i : Image) → log_lines i ≡ [] → OpenGroup g start start i
group_none g start i none = record { front = []; group = []; lines = none; whole = refl; ended = refl; begins = sym (plus_none start); of_store = tt }
  where
    plus_none : (n : ℕ) → n + 0 ≡ n
    plus_none n = omega arith

-- a record more
pub group_write : (g : Sizes) (start first : ℕ) (i j : Image) (c : Change) → OpenGroup g start first j → IsOfStore g c → log_lines i ≡ log_lines j ++ change_lines c → OpenGroup g start first i
group_write g start first i j c it one more = record {
  front = it.front;
  group = it.group ++ c ∷ [];
  lines = more ∙ ap (λ (ys : List Line). ys ++ change_lines c) it.lines ∙ append_assoc it.front (flat_map change_lines it.group) (change_lines c)
      ∙ ap (λ (ys : List Line). it.front ++ ys) (sym (flat-append it.group c));
  whole = it.whole;
  ended = it.ended;
  begins = it.begins;
  of_store = are_more g it.group c it.of_store one;
}

-- the end of a group: the next one begins behind it
module _ (g : Sizes) (start first : ℕ) (i j : Image) (it : OpenGroup g start first j) where
  whole_before : IsWhole whole_lines 0 (log_lines j)
  whole_before = subst (λ (ys : List Line). IsWhole whole_lines 0 ys) (sym it.lines) (whole-append 0 it.front (flat_map change_lines it.group) it.whole (whole_group it.group))

  group_ended : (xs : List Line) → IsWhole whole_lines 0 xs → ((log : Log) → (grouped log (entries whole_lines 0 xs)).open_items ≡ [])
      → log_lines i ≡ log_lines j ++ xs → OpenGroup g start (start + length (log_lines i)) i
  group_ended xs whole none more = record {
    front = log_lines i;
    group = [];
    lines = sym (append-nil (log_lines i));
    whole = subst (λ (ys : List Line). IsWhole whole_lines 0 ys) (sym more) (whole-append 0 (log_lines j) xs whole_before whole);
    ended = ap (λ (ys : List Line). (grouped no_log (entries whole_lines 0 ys)).open_items) more
        ∙ ap (λ (es : List Entry). (grouped no_log es).open_items) (entries-append whole_lines 0 (log_lines j) xs whole_before)
        ∙ ap (λ (log : Log). log.open_items) (grouped-append no_log (entries whole_lines 0 (log_lines j)) (entries whole_lines 0 xs))
        ∙ none (grouped no_log (entries whole_lines 0 (log_lines j)));
    begins = refl;
    of_store = tt;
  }

  pub group_commit : log_lines i ≡ log_lines j ++ commit_lines → OpenGroup g start (start + length (log_lines i)) i
  group_commit more = group_ended commit_lines refl (λ log. refl) more

  pub group_abort : log_lines i ≡ log_lines j ++ abort_lines → OpenGroup g start (start + length (log_lines i)) i
  group_abort more = group_ended abort_lines refl (λ log. refl) more
