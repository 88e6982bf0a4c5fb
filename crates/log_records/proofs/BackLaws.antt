-- The last of the records that stand up to an offset, as it is read back.
use Rattle.std.proofs.Common.{◌≡◌, ℕ, ◌+◌, ◌*◌, ◌<◌, ◌≤◌, List, [], ◌∷◌, ◌++◌, length, get_or, min, refl, sym, ap, ◌∙◌, subst, inl, inr, arith, ltb, Option, Some, None, IsTrue, Result, Err}
use Rattle.std.proofs.lemmas.Bool.{cases_lt, lt-leb, lt-ltb, le-ltb, cond-true, cond-false}
use Rattle.nvm_model.specs.declared.line.Line.{Line}
use Rattle.devices.specs.World.{Standing, last_count}
use Rattle.line_pages.specs.declared.stop.Stop.{Stop}
use Rattle.line_pages.specs.declared.stop.Stop.TheVariants.{Nvm, Ssd, Damaged}
use Rattle.store_model.specs.Layout.{Sizes, pages}
use Rattle.store_model.specs.Log.{Change}
use Rattle.store_model.specs.Format.{word_in, zero_line}
use Rattle.store_model.specs.Format.Format.{whole_lines}
use Rattle.store_model.specs.Recovered.{from}
use Rattle.nvm_layout.specs.Sizes.{sizes_of}
use Rattle.nvm_log.specs.declared.log.Log.{Log}
use Rattle.log_records.specs.Heads.{Headed, StandsAt, HeadsOf, AreOfStore}
use Rattle.log_records.specs.Back.{lines_now, record_check, counted, StopsFor, IsLast, IsUndamaged, ReadsBack}
use Rattle.log_records.specs.declared.back.BeforeImage.{BeforeImage}
use Rattle.log_records.proofs.HeadLaws.{Last, heads_last, three_lines, whole_heads}

-- where there is no room for a record, there is none
pub none_left : (f : ℕ → Line) (first end : ℕ) (them : List Headed) → end < first + 3 → HeadsOf whole_lines f first them end → them ≡ []
none_left f first end [] short h = refl
none_left f first end (it ∷ later) short h = let long : first + 3 * length (it ∷ later) ≡ end = whole_heads f first (it ∷ later) end h in absurd (omega arith)

-- the parts of a record, by its lines
pub record_page : (f : ℕ → Line) (it : Headed) → StandsAt whole_lines f it → word_in (f it.head) 1 ≡ it.change.page
record_page f it stands = ap (λ (c : Change). c.page) stands.gives

pub record_line : (f : ℕ → Line) (it : Headed) → StandsAt whole_lines f it → word_in (f it.head) 2 ≡ it.change.line
record_line f it stands = ap (λ (c : Change). c.line) stands.gives

pub record_before : (f : ℕ → Line) (it : Headed) → StandsAt whole_lines f it → f (it.head + 1) ≡ it.change.before
record_before f it stands = sym (ap (λ n. get_or (from f (it.head + 1) n) 0 zero_line) (three_lines f it stands)) ∙ ap (λ (c : Change). c.before) stands.gives

-- the last of some records ends three lines behind its head
last_head : (f : ℕ → Line) (first end head : ℕ) (them : List Headed) (last : Last whole_lines f first them end) → head + 3 ≡ end → last.last.head ≡ head
last_head f first end head them last at =
    let ends : last.last.head + 1 + 2 ≡ end = ap (λ n. last.last.head + 1 + n) (sym (three_lines f last.last last.stands)) ∙ last.ends in
    omega (arith, ends, at)

-- it is the record whose head and line before were read
pub last_found : (f : ℕ → Line) (first end : ℕ) (them : List Headed) (found : BeforeImage) → HeadsOf whole_lines f first them end → first ≤ found.head → found.head + 3 ≡ end
    → word_in (f found.head) 1 ≡ found.page → word_in (f found.head) 2 ≡ found.line → found.value ≡ f (found.head + 1) → IsLast f first them found
last_found f first end [] found h begins at page line value = absurd (omega (arith, h, begins, at))
last_found f first end (it ∷ later) found h begins at page line value =
    let last : Last whole_lines f first (it ∷ later) end = heads_last whole_lines f first it later end h in
    let here : last.last.head ≡ found.head = last_head f first end found.head (it ∷ later) last at in
    record {
      earlier = last.earlier;
      change = last.last.change;
      all = last.all ∙ ap (λ n. last.earlier ++ record { head = n; change = last.last.change } ∷ []) here;
      page = sym (record_page f last.last last.stands) ∙ ap (λ n. word_in (f n) 1) here ∙ page;
      line = sym (record_line f last.last last.stands) ∙ ap (λ n. word_in (f n) 2) here ∙ line;
      value = sym (record_before f last.last last.stands) ∙ ap (λ n. f (n + 1)) here ∙ sym value;
      stand = subst (λ n. HeadsOf whole_lines f first last.earlier n) here last.stand;
    }

-- the head of a record of a line of the store passes its checks
passes : (g : Sizes) (head : Line) → word_in head 0 ≡ 1 → word_in head 1 < pages g → word_in head 2 < 64 → record_check g head ≡ None
passes g head kind page line = rw (kind, lt-leb (pages g) (word_in head 1) page, lt-leb 64 (word_in head 2) line) refl

of_store_last : (g : Sizes) (earlier : List Headed) (last : Headed) → AreOfStore g (earlier ++ last ∷ []) → (last.change.page < pages g) × (last.change.line < 64)
of_store_last g [] last h = h.0
of_store_last g (it ∷ earlier) last h = of_store_last g earlier last h.1

-- so where a record stands no damage is told
pub undamaged : (log : Log) (first end head : ℕ) (a b : Standing) (why : Stop) → StopsFor log head a b why → IsTrue a.told → first ≤ head → head + 3 ≡ end
    → (them : List Headed) → HeadsOf whole_lines (lines_now log a) first them end → AreOfStore (sizes_of log.geometry) them → IsUndamaged why
undamaged log first end head a b Nvm stops told begins at them h of_store = tt
undamaged log first end head a b Ssd stops told begins at them h of_store = tt
undamaged log first end head a b (Damaged kept) stops told begins at [] h of_store = absurd (omega (arith, h, begins, at))
undamaged log first end head a b (Damaged kept) stops told begins at (it ∷ later) h of_store =
    let f : ℕ → Line = lines_now log a in
    let g : Sizes = sizes_of log.geometry in
    let last : Last whole_lines f first (it ∷ later) end = heads_last whole_lines f first it later end h in
    let here : last.last.head ≡ head = last_head f first end head (it ∷ later) last at in
    let inside : (last.last.change.page < pages g) × (last.last.change.line < 64) = of_store_last g last.earlier last.last (subst (AreOfStore g) last.all of_store) in
    let passed : record_check g (f last.last.head) ≡ None =
    passes g (f last.last.head) last.stands.kind (subst (λ n. n < pages g) (sym (record_page f last.last last.stands)) inside.0) (subst (λ n. n < 64) (sym (record_line f last.last last.stands)) inside.1) in
    let failed : record_check g (f head) ≡ Some stops.check = ap (record_check g) (sym (stops.held told)) ∙ stops.fails in
    let both : Some stops.check ≡ None = sym failed ∙ ap (λ n. record_check g (f n)) (sym here) ∙ passed in
    cc

-- a stop that is handed on
pub back_stops : (log : Log) (first end head : ℕ) (a b : Standing) (r : Result (Option BeforeImage) Stop) (why : Stop) → r ≡ Err why → StopsFor log head a b why → first ≤ head → head + 3 ≡ end
    → ReadsBack log first end a b r
back_stops log first end head a b r why is stops begins at =
    subst (λ (x : Result (Option BeforeImage) Stop). ReadsBack log first end a b x) (sym is)
    (record { value = λ told them h. tt; sound = λ told them h of_store. undamaged log first end head a b why stops told begins at them h of_store; found = tt })

-- the count of blocks behind the read of a line
pub line_counted : (log : Log) (offset x y : ℕ) → (log.drained ≤ offset → y ≡ x) → (offset < log.drained → y ≡ min (x + 1) last_count) → y ≡ counted log offset x
line_counted log offset x y in_nvm in_ssd = elim (cases_lt offset log.drained) [
  | inl under ↦ in_ssd under ∙ sym (cond-true (ltb offset log.drained) (min (x + 1) last_count) x (lt-ltb offset log.drained under))
  | inr above ↦ in_nvm (omega arith) ∙ sym (cond-false (ltb offset log.drained) (min (x + 1) last_count) x (le-ltb offset log.drained above))
]
