-- Lines of a page that are written, as its bytes.
use Rattle.std.proofs.Common.{◌≡◌, ◌≢◌, ℕ, suc, ◌+◌, ◌-◌, ◌*◌, ◌/◌, ◌%◌, ◌<◌, ◌≤◌, inl, inr, List, length, get_or, refl, ap, sym, ◌∙◌, arith, cond, add-one, zero-add, Result, Ok, Err, OnOk, true, false}
use Rattle.std.specs.Str.{bytes_eq}
use Rattle.std.proofs.lemmas.Bool.{cases_lt}
use Rattle.std.proofs.lemmas.List.{ext_get_or}
use Rattle.std.proofs.lemmas.List.Edits.{get_or-between, length-between}
use Rattle.nvm_model.specs.declared.line.Line.{Line}
use Rattle.ssd_model.specs.Page.{Same}
use Rattle.line_pages.specs.Lines.{Lines}
use Rattle.line_pages.specs.Bytes.{bytes_of, page_bytes}
use Rattle.nvm_model.specs.LineBytes.{line_bytes}
use Rattle.line_pages.proofs.ByteLaws.{length-page_bytes, length-line_bytes}
use Rattle.nvm_model.proofs.PieceLaws.{get_or-pieces}
use Rattle.line_pages.proofs.NumberLaws.{range-same, same_then, same_part}
use Rattle.line_pages.specs.Touch.{begins}
use Rattle.line_pages.specs.Standing.{Standing}
use Rattle.line_pages.proofs.TouchLaws.{goes_on_writing}
use Rattle.page_alloc.specs.Written.{Rewrites, OtherPages, SameElsewhere, Visited, line_part, changed_in}
use Rattle.page_alloc.proofs.WrittenLaws.{changed_step}

-- a byte of a page is a byte of one of its lines
pub byte_at : (lines : ℕ → Line) (l j : ℕ) → l < 64 → j < 64 → get_or (page_bytes lines) (64 * l + j) 0 ≡ get_or (line_bytes (lines l)) j 0
unfolding page_bytes
byte_at lines l j below inside =
    get_or-pieces 64 (λ k. line_bytes (lines k)) (λ k. length-line_bytes (lines k)) 0 64 l j below inside ∙ ap (λ (k : ℕ). get_or (line_bytes (lines k)) j 0) (zero-add l)

-- the bytes of one line
pub part_of : (lines : ℕ → Line) (l : ℕ) → l < 64 → line_bytes (lines l) ≡ line_part (page_bytes lines) l
part_of lines l below =
    let all = page_bytes lines in
    let size : length (line_part all l) ≡ 64 = length-between all (64 * l) (64 * l + 64) (omega (arith, length-page_bytes lines)) ∙ omega arith in
    ext_get_or 0 (line_bytes (lines l)) (line_part all l) (length-line_bytes (lines l) ∙ sym size) (λ j within.
    let inside : j < 64 = omega (arith, within, length-line_bytes (lines l)) in
    sym (byte_at lines l j below inside) ∙ sym (get_or-between all (64 * l) (64 * l + 64) j 0 (omega (arith, size, inside))))

-- a line whose bytes a buffer has
pub part_known : (lines : ℕ → Line) (bytes : List ℕ) (l : ℕ) → l < 64 → length bytes ≡ 4096 → Same (64 * l) (64 * l + 64) (page_bytes lines) bytes → line_bytes (lines l) ≡ line_part bytes l
part_known lines bytes l below size same =
    part_of lines l below ∙ sym (range-same (64 * l) (64 * l + 64) (64 * l) (64 * l + 64) (page_bytes lines) bytes same (omega arith) (omega arith) (omega (arith, length-page_bytes lines)) (size ∙ sym (length-page_bytes lines)))

pub part_put : (lines : ℕ → Line) (bytes : List ℕ) (l : ℕ) → l < 64 → length bytes ≡ 4096 → line_bytes (lines l) ≡ line_part bytes l → Same (64 * l) (64 * l + 64) (page_bytes lines) bytes
part_put lines bytes l below size is = record {
  each = λ j low high.
      let k = j - 64 * l in
      let here : j ≡ 64 * l + k = omega (arith, low) in
      let inside : k < 64 = omega (arith, low, high) in
      let long = length-between bytes (64 * l) (64 * l + 64) (omega (arith, size)) in
      ap (λ (p : ℕ). get_or bytes p 0) here ∙ sym (get_or-between bytes (64 * l) (64 * l + 64) k 0 (omega (arith, long, inside)))
      ∙ ap (λ b. get_or b k 0) (sym is) ∙ sym (byte_at lines l k below inside) ∙ ap (λ (p : ℕ). get_or (page_bytes lines) p 0) (sym here);
}

-- lines that are the same are so by their bytes
pub lines_same : (from end : ℕ) (one other : ℕ → Line) → end ≤ 64 → ((l : ℕ) → from ≤ l → l < end → other l ≡ one l) → Same (64 * from) (64 * end) (page_bytes one) (page_bytes other)
lines_same from end one other within same = record {
  each = λ j low high.
      let l = j / 64 in
      let k = j % 64 in
      let here : j ≡ 64 * l + k = omega arith in
      let below : l < 64 = omega arith in
      let inside : k < 64 = omega arith in
      ap (λ (p : ℕ). get_or (page_bytes other) p 0) here ∙ byte_at other l k below inside ∙ ap (λ (x : Line). get_or (line_bytes x) k 0) (same l (omega arith) (omega arith))
      ∙ sym (byte_at one l k below inside) ∙ ap (λ (p : ℕ). get_or (page_bytes one) p 0) (sym here);
}

pub same_on : (from mid end : ℕ) (one other : List ℕ) → Same from mid one other → Same mid end one other → Same from end one other
same_on from mid end one other first second = record { each = λ j low high. elim (cases_lt j mid) [ inl before ↦ first.each j low before | inr past ↦ second.each j past high ] }

-- Lines from one on are as a buffer has them, up to a line; the others are as they were.
pub record Putting (page from line : ℕ) (bytes : List ℕ) (old now : Lines) : Type 0 where
  pub done : Same (64 * from) (64 * line) (bytes_of now page) bytes
  pub before : Same 0 (64 * from) (bytes_of old page) (bytes_of now page)
  pub left : Same (64 * line) 4096 (bytes_of old page) (bytes_of now page)
  pub others : (n : ℕ) → n ≢ page → now n ≡ old n

pub putting_start : (page from : ℕ) (bytes : List ℕ) (lines : Lines) → Putting page from from bytes lines lines
putting_start page from bytes lines = record {
  done = record { each = λ j low high. absurd (omega arith) };
  before = record { each = λ j low high. refl };
  left = record { each = λ j low high. refl };
  others = λ n ne. refl;
}

pub putting_step : (page from line : ℕ) (old_bytes new_bytes : List ℕ) (old now next : Lines) → from ≤ line → line < 64 → length old_bytes ≡ 4096 → length new_bytes ≡ 4096 → Same (64 * line) (64 * line + 64) (bytes_of old page) old_bytes
    → Putting page from line new_bytes old now → (line_bytes (now page line) ≡ line_part old_bytes line → line_bytes (next page line) ≡ line_part new_bytes line) → SameElsewhere page line now next
    → Putting page from (line + 1) new_bytes old next
putting_step page from line old_bytes new_bytes old now next order below size_old size_new known p write same =
    let here : Same (64 * line) (64 * line + 64) (bytes_of now page) old_bytes = record { each = λ j low high. known.each j low high ∙ sym (p.left.each j low (omega arith)) } in
    let put = part_put (next page) new_bytes line below size_new (write (part_known (now page) old_bytes line below size_old here)) in
    let low_same = lines_same 0 line (now page) (next page) (omega arith) (λ l a b. same.lines l (λ e. omega (arith, e, b))) in
    let high_same = lines_same (line + 1) 64 (now page) (next page) (omega arith) (λ l a b. same.lines l (λ e. omega (arith, e, a))) in
    record {
      done = same_on (64 * from) (64 * line) (64 * (line + 1)) (bytes_of next page) new_bytes
          (record { each = λ j low high. p.done.each j low high ∙ sym (low_same.each j (omega arith) high) })
          (same_part (64 * line) (64 * (line + 1)) (64 * line) (64 * line + 64) _ _ put (omega arith) (omega arith));
      before = same_then 0 (64 * from) (bytes_of old page) (bytes_of now page) (bytes_of next page) p.before (same_part 0 (64 * from) 0 (64 * line) _ _ low_same (omega arith) (omega arith));
      left = same_then (64 * (line + 1)) 4096 (bytes_of old page) (bytes_of now page) (bytes_of next page) (same_part (64 * (line + 1)) 4096 (64 * line) 4096 _ _ p.left (omega arith) (omega arith))
          (same_part (64 * (line + 1)) 4096 (64 * (line + 1)) (64 * 64) _ _ high_same (omega arith) (omega arith));
      others = λ n ne. same.pages n ne ∙ p.others n ne;
    }

-- what is left to count
pub changed_next : (old new : List ℕ) (l end : ℕ) → l < end → changed_in old new l (end - l) ≡ cond (bytes_eq (line_part old l) (line_part new l)) 0 1 + changed_in old new (l + 1) (end - (l + 1))
changed_next old new l end below =
    let e : end - l ≡ suc (end - (l + 1)) = omega (arith, below) in
    ap (changed_in old new l) e ∙ changed_step old new l (end - (l + 1)) ∙ ap (λ (k : ℕ). cond (bytes_eq (line_part old l) (line_part new l)) 0 1 + changed_in old new k (end - (l + 1))) (sym (add-one l))

pub still_writing : {A : Type 0} (page : ℕ) (a b : Standing A) → Visited page a b → begins a.access page true ≡ false → begins b.access page true ≡ false
still_writing page a b (inl same) goes = ap (λ o. begins o page true) same.1 ∙ goes
still_writing page a b (inr begun) goes = ap (λ o. begins o page true) begun.1 ∙ goes_on_writing page

-- a page of which all lines are written has the new bytes
pub rewritten : {T E : Type 0} (page : ℕ) (bytes : List ℕ) (old new : Lines) (r : Result T E) → length bytes ≡ 4096 → OnOk r (Same 0 4096 (bytes_of new page) bytes) → OnOk r (OtherPages page old new) → OnOk r (Rewrites page bytes old new)
rewritten page bytes old new (Ok v) size put others = record {
  bytes_are = ext_get_or 0 (bytes_of new page) bytes (length-page_bytes (new page) ∙ sym size) (λ j within. let long = length-page_bytes (new page) in sym (put.each j (omega arith) (omega (arith, within, long))));
  others = others;
}
rewritten page bytes old new (Err e) size put others = tt

-- bytes are those that they are
pub same_bytes : (from end : ℕ) (one other : List ℕ) → other ≡ one → Same from end one other
same_bytes from end one other e = record { each = λ j low high. ap (λ b. get_or b j 0) e }
