-- Lines of a page that are read into a buffer.
use Rattle.std.proofs.Common.{◌≡◌, ℕ, ◌+◌, ◌-◌, ◌*◌, ◌<◌, ◌≤◌, List, length, get_or, ap, sym, ◌∙◌, arith, cond, Bool, true, false}
use Rattle.nvm_model.specs.declared.line.Line.{Line}
use Rattle.ssd_model.specs.Page.{Same}
use Rattle.line_pages.specs.Bytes.{page_bytes, overwritten, with_line_bytes}
use Rattle.nvm_model.specs.LineBytes.{line_bytes}
use Rattle.line_pages.proofs.ByteLaws.{length-line_bytes}
use Rattle.line_pages.proofs.NumberLaws.{Wrote, wrote}
use Rattle.page_alloc.proofs.LineLaws.{byte_at, same_on}

-- one line more was read into its place
pub read_more : (lines : ℕ → Line) (bytes : List ℕ) (from l : ℕ) (value : Line) → l < 64 → length bytes ≡ 4096 → value ≡ lines l → Same (64 * from) (64 * l) (page_bytes lines) bytes
    → Same (64 * from) (64 * (l + 1)) (page_bytes lines) (with_line_bytes bytes l value)
read_more lines bytes from l value below size is same =
    let long = length-line_bytes value in
    let w : Wrote bytes (64 * l) (line_bytes value) (overwritten bytes (64 * l) (line_bytes value)) = wrote bytes (64 * l) (line_bytes value) (omega (arith, long, size)) in
    same_on (64 * from) (64 * l) (64 * (l + 1)) (page_bytes lines) (with_line_bytes bytes l value)
    (record { each = λ j low high. w.before.each j (omega arith) high ∙ same.each j low high })
    (record {
      each = λ j low high.
          let k = j - 64 * l in
          let here : j ≡ 64 * l + k = omega (arith, low) in
          let inside : k < 64 = omega (arith, low, high) in
          ap (λ (p : ℕ). get_or (with_line_bytes bytes l value) p 0) here ∙ w.here k (omega (arith, long, inside)) ∙ ap (λ (x : Line). get_or (line_bytes x) k 0) is
          ∙ sym (byte_at lines l k below inside) ∙ ap (λ (p : ℕ). get_or (page_bytes lines) p 0) (sym here);
    })

-- the bytes beside that line stay
pub read_before : (bytes : List ℕ) (l : ℕ) (value : Line) → l < 64 → length bytes ≡ 4096 → Same 0 (64 * l) bytes (with_line_bytes bytes l value)
read_before bytes l value below size =
    let w : Wrote bytes (64 * l) (line_bytes value) (overwritten bytes (64 * l) (line_bytes value)) = wrote bytes (64 * l) (line_bytes value) (omega (arith, length-line_bytes value, size)) in w.before

pub read_after : (bytes : List ℕ) (l : ℕ) (value : Line) → l < 64 → length bytes ≡ 4096 → Same (64 * (l + 1)) 4096 bytes (with_line_bytes bytes l value)
read_after bytes l value below size =
    let w : Wrote bytes (64 * l) (line_bytes value) (overwritten bytes (64 * l) (line_bytes value)) = wrote bytes (64 * l) (line_bytes value) (omega (arith, length-line_bytes value, size)) in
    record { each = λ j low high. w.after.each j (omega (arith, length-line_bytes value)) (omega (arith, size)) }

-- no access was begun where one is open
pub none_begun : (old now new : ℕ) (b : Bool) → now ≤ old → b ≡ false → new ≡ now + cond b 1 0 → new ≤ old
none_begun old now new true few goes is = absurd (cc)
none_begun old now new false few goes is = omega (arith, few, is)
