-- Records that are walked by their heads.
use Rattle.std.proofs.Common.{◌≡◌, ℕ, zero, suc, ◌+◌, ◌-◌, ◌*◌, ◌<◌, ◌≤◌, List, [], ◌∷◌, ◌++◌, length, take, refl, sym, ap, ◌∙◌, subst, arith, zero-add, add-zero}
use Rattle.std.proofs.Math.Nat
use Rattle.nvm_model.specs.declared.line.Line.{Line}
use Rattle.store_model.specs.Layout.{Sizes, pages}
use Rattle.store_model.specs.Log.{Change, Entry}
use Rattle.store_model.specs.Log.Item.{write}
use Rattle.store_model.specs.Log.Entry.{item}
use Rattle.store_model.specs.Format.{Format, IsWhole, entries, entry_of, word_in, record_kind, lines_behind, change_of}
use Rattle.store_model.specs.Format.Format.{whole_lines, named_words, with_cuts}
use Rattle.store_model.specs.Recovered.{from}
use Rattle.store_model.specs.Pending.{record_entries}
use Rattle.home_laws.proofs.RecoveredLaws.{from-same}
use Rattle.log_records.specs.Heads.{Headed, StandsAt, HeadsOf, AreOfStore, behind, changes_of}

pub heads_order : (format : Format) (f : ℕ → Line) (first : ℕ) (them : List Headed) (end : ℕ) → HeadsOf format f first them end → first ≤ end
heads_order format f first [] end h = omega (arith, h)
heads_order format f first (it ∷ later) end h = let rest : behind format f first ≤ end = heads_order format f (behind format f first) later end h.2 in omega arith

-- one record more, behind all
pub heads_more : (format : Format) (f : ℕ → Line) (first : ℕ) (them : List Headed) (end : ℕ) (it : Headed) → HeadsOf format f first them end → it.head ≡ end → StandsAt format f it
    → HeadsOf format f first (them ++ it ∷ []) (behind format f end)
heads_more format f first [] end it h at stands = (at ∙ sym h, stands, ap (behind format f) h)
heads_more format f first (x ∷ later) end it h at stands = (h.0, h.1, heads_more format f (behind format f first) later end it h.2 at stands)

pub of_store_more : (g : Sizes) (them : List Headed) (it : Headed) → AreOfStore g them → it.change.page < pages g → it.change.line < 64 → AreOfStore g (them ++ it ∷ [])
of_store_more g [] it of_store page line = ((page, line), tt)
of_store_more g (x ∷ later) it of_store page line = (of_store.0, of_store_more g later it of_store.1 page line)

-- The last of some records.
pub record Last (format : Format) (f : ℕ → Line) (first : ℕ) (them : List Headed) (end : ℕ) : Type 0 where
  pub earlier : List Headed
  pub last : Headed
  pub all : them ≡ earlier ++ last ∷ []
  pub stand : HeadsOf format f first earlier last.head
  pub stands : StandsAt format f last
  pub ends : behind format f last.head ≡ end

pub heads_last : (format : Format) (f : ℕ → Line) (first : ℕ) (it : Headed) (later : List Headed) (end : ℕ) → HeadsOf format f first (it ∷ later) end → Last format f first (it ∷ later) end
heads_last format f first it [] end h = record { earlier = []; last = it; all = refl; stand = sym h.0; stands = h.1; ends = ap (behind format f) h.0 ∙ h.2 }
heads_last format f first it (next ∷ later) end h =
    let rest : Last format f (behind format f first) (next ∷ later) end = heads_last format f (behind format f first) next later end h.2 in
    record {
      earlier = it ∷ rest.earlier;
      last = rest.last;
      all = ap (λ (xs : List Headed). it ∷ xs) rest.all;
      stand = (h.0, h.1, rest.stand);
      stands = rest.stands;
      ends = rest.ends;
    }

-- a record of whole lines has three
pub three_lines : (f : ℕ → Line) (it : Headed) → StandsAt whole_lines f it → lines_behind whole_lines (f it.head) ≡ 2
three_lines f it stands = rw stands.kind refl

pub whole_heads : (f : ℕ → Line) (first : ℕ) (them : List Headed) (end : ℕ) → HeadsOf whole_lines f first them end → first + 3 * length them ≡ end
whole_heads f first [] end h = omega (arith, h)
whole_heads f first (it ∷ later) end h =
    let long : lines_behind whole_lines (f first) ≡ 2 = ap (λ n. lines_behind whole_lines (f n)) (sym h.0) ∙ three_lines f it h.1 in
    let rest : behind whole_lines f first + 3 * length later ≡ end = whole_heads f (behind whole_lines f first) later end h.2 in
    omega (arith, long, rest)

-- the same lines have the same records
pub heads_same : (format : Format) (f g : ℕ → Line) (first : ℕ) (them : List Headed) (end : ℕ) → ((o : ℕ) → first ≤ o → o < end → g o ≡ f o) → HeadsOf format f first them end → HeadsOf format g first them end
heads_same format f g first [] end same h = h
heads_same format f g first (it ∷ later) end same h =
    let order : behind format f first ≤ end = heads_order format f (behind format f first) later end h.2 in
    let low : first < end = omega arith in
    let here : g first ≡ f first = same first (omega arith) low in
    let head_is : it.head ≡ first = h.0 in
    let at : g it.head ≡ f it.head = ap g head_is ∙ here ∙ ap f (sym head_is) in
    let long : lines_behind format (g first) ≡ lines_behind format (f first) = ap (lines_behind format) here in
    let long_at : lines_behind format (f it.head) ≡ lines_behind format (f first) = ap (λ n. lines_behind format (f n)) head_is in
    let rest : from g (it.head + 1) (lines_behind format (f it.head)) ≡ from f (it.head + 1) (lines_behind format (f it.head)) =
    from-same g f (it.head + 1) (lines_behind format (f it.head)) (λ o above below. same o (omega arith) (omega arith)) in
    let next : behind format g first ≡ behind format f first = ap (λ n. first + 1 + n) long in (
      head_is,
      record {
        kind = ap (λ (line : Line). word_in line 0) at ∙ (h.1).kind;
        gives = ap (λ (line : Line). change_of format line (from g (it.head + 1) (lines_behind format line))) at ∙ ap (change_of format (f it.head)) rest ∙ (h.1).gives;
      },
      subst (λ n. HeadsOf format g n later end) (sym next) (heads_same format f g (behind format f first) later end (λ o above below. same o (omega arith) below) h.2),
    )

-- the first lines of some, and what stands behind them
take_from : (f : ℕ → Line) (k m at : ℕ) → take k (from f at (k + m)) ≡ from f at k
take_from f zero m at = refl
take_from f (suc k) m at = rw Nat.suc-add (ap (λ (xs : List Line). f at ∷ xs) (take_from f k m (at + 1)))

skip_from : (format : Format) (f : ℕ → Line) (k m at : ℕ) → entries format k (from f at (k + m)) ≡ entries format 0 (from f (at + k) m)
skip_from format f zero m at = rw (zero-add, add-zero) refl
skip_from format f (suc k) m at = rw Nat.suc-add (skip_from format f k m (at + 1) ∙ ap (λ n. entries format 0 (from f n m)) (omega arith))

skip_whole : (format : Format) (f : ℕ → Line) (k m at : ℕ) → IsWhole format 0 (from f (at + k) m) → IsWhole format k (from f at (k + m))
skip_whole format f zero m at whole = rw (zero-add) (subst (λ n. IsWhole format 0 (from f n m)) (add-zero at) whole)
skip_whole format f (suc k) m at whole = rw Nat.suc-add (skip_whole format f k m (at + 1) (subst (λ n. IsWhole format 0 (from f n m)) (omega arith) whole))

-- a record's head is read as that record
pub record_entry_of : (format : Format) (head : Line) (lines : List Line) → word_in head 0 ≡ record_kind format → entry_of format head lines ≡ item (write (change_of format head lines))
record_entry_of whole_lines head lines kind = rw kind refl
record_entry_of named_words head lines kind = rw kind refl
record_entry_of with_cuts head lines kind = rw kind refl

-- the entries of a record's lines and those behind it
entries_step : (format : Format) (f : ℕ → Line) (first m : ℕ) (change : Change) (later : List Entry) → word_in (f first) 0 ≡ record_kind format
    → change_of format (f first) (from f (first + 1) (lines_behind format (f first))) ≡ change → entries format 0 (from f (behind format f first) m) ≡ later
    → entries format 0 (from f first (suc (lines_behind format (f first) + m))) ≡ item (write change) ∷ later
entries_step format f first m change later kind gives rest =
    ap (λ (e : Entry). e ∷ entries format (lines_behind format (f first)) (from f (first + 1) (lines_behind format (f first) + m)))
    (ap (entry_of format (f first)) (take_from f (lines_behind format (f first)) m (first + 1)) ∙ record_entry_of format (f first) _ kind ∙ ap (λ (c : Change). item (write c)) gives)
    ∙ ap (λ (es : List Entry). item (write change) ∷ es) (skip_from format f (lines_behind format (f first)) m (first + 1) ∙ rest)

-- The entries of lines that are records; none of them is cut short.
pub record Read (format : Format) (f : ℕ → Line) (first : ℕ) (them : List Headed) (n : ℕ) : Type 0 where
  pub entries_are : entries format 0 (from f first n) ≡ record_entries (changes_of them)
  pub whole : IsWhole format 0 (from f first n)

pub heads_read : (format : Format) (f : ℕ → Line) (first : ℕ) (them : List Headed) (n : ℕ) → HeadsOf format f first them (first + n) → Read format f first them n
heads_read format f first [] n h = let none : n ≡ 0 = omega (arith, h) in subst (Read format f first []) (sym none) (record { entries_are = refl; whole = refl })
heads_read format f first (it ∷ later) n h =
    let order : behind format f first ≤ first + n = heads_order format f (behind format f first) later (first + n) h.2 in
    let all : suc (lines_behind format (f first) + (n - 1 - lines_behind format (f first))) ≡ n = omega arith in
    let ends : first + n ≡ behind format f first + (n - 1 - lines_behind format (f first)) = omega arith in
    let rest : Read format f (behind format f first) later (n - 1 - lines_behind format (f first)) =
    heads_read format f (behind format f first) later (n - 1 - lines_behind format (f first)) (subst (HeadsOf format f (behind format f first) later) ends h.2) in
    subst (Read format f first (it ∷ later)) all (record {
      entries_are = entries_step format f first (n - 1 - lines_behind format (f first)) it.change (record_entries (changes_of later)) (ap (λ o. word_in (f o) 0) (sym h.0) ∙ (h.1).kind)
          (subst (λ o. change_of format (f o) (from f (o + 1) (lines_behind format (f o))) ≡ it.change) h.0 (h.1).gives) rest.entries_are;
      whole = skip_whole format f (lines_behind format (f first)) (n - 1 - lines_behind format (f first)) (first + 1) rest.whole;
    })
