-- Frames that are filled and read line by line.
use Rattle.std.proofs.Common.{◌≡◌, ℕ, zero, suc, ◌+◌, ◌-◌, ◌*◌, ◌<◌, List, [], ◌∷◌, ◌++◌, length, get_or, slice_index, refl, sym, ap, ◌∙◌, subst, inl, inr, arith, IsTrue, Result, Ok, Err}
use Rattle.std.specs.Prelude.{IsErr}
use Rattle.std.specs.Result.{IsErrAnd}
use Rattle.std.proofs.lemmas.Bool.{cases_lt}
use Rattle.nvm_model.specs.declared.line.Line.{Line}
use Rattle.nvm_model.proofs.ImageLaws.{line_of-word}
use Rattle.devices.specs.State.{State, Call, line_at as loaded_line}
use Rattle.devices.specs.State.Call.{store_line, flush}
use Rattle.devices.specs.World.{Standing, now}
use Rattle.line_pages.specs.declared.stop.Stop.{Stop}
use Rattle.line_pages.specs.Lines.{IsLine}
use Rattle.line_pages.specs.Bytes.{u64_at, line_at, with_line_bytes}
use Rattle.line_pages.proofs.ByteLaws.{u64_at-drop, line_at-written, line_at-other}
use Rattle.device_calls.specs.Leads.{Made, Looked}
use Rattle.device_calls.proofs.LeadsLaws.{looked_none, looked_then, looked_ok, looked_same, later_told, made_then, made_exit}
use Rattle.store_model.specs.Layout.{Sizes, frame_line}
use Rattle.store_model.specs.Recovered.{from, block_word, block_line}
use Rattle.store_model.specs.Install.{frame_calls}
use Rattle.home_laws.proofs.RecoveredLaws.{from-append}
use Rattle.home_move.specs.Frames.{lines_below, page_lines, HoldsLines, ReadsSo}

-- a line of a page's bytes, as both crates say it
pub line_at-block : (bytes : List ℕ) (l : ℕ) → line_at bytes l ≡ block_line bytes l
unfolding u64_at
line_at-block bytes l =
    let zeroth : 64 * l ≡ 64 * l + 8 * 0 = omega arith in
    let a : u64_at bytes (64 * l) ≡ block_word bytes l 0 = ap (u64_at bytes) zeroth ∙ sym (u64_at-drop (64 * l + 8 * 0) bytes) in
    let b : u64_at bytes (64 * l + 8) ≡ block_word bytes l 1 = sym (u64_at-drop (64 * l + 8) bytes) in
    let c : u64_at bytes (64 * l + 16) ≡ block_word bytes l 2 = sym (u64_at-drop (64 * l + 16) bytes) in
    let d : u64_at bytes (64 * l + 24) ≡ block_word bytes l 3 = sym (u64_at-drop (64 * l + 24) bytes) in
    let e : u64_at bytes (64 * l + 32) ≡ block_word bytes l 4 = sym (u64_at-drop (64 * l + 32) bytes) in
    let f : u64_at bytes (64 * l + 40) ≡ block_word bytes l 5 = sym (u64_at-drop (64 * l + 40) bytes) in
    let g : u64_at bytes (64 * l + 48) ≡ block_word bytes l 6 = sym (u64_at-drop (64 * l + 48) bytes) in
    let h : u64_at bytes (64 * l + 56) ≡ block_word bytes l 7 = sym (u64_at-drop (64 * l + 56) bytes) in
    rw (a, b, c, d, e, f, g, h) refl

-- ---- a frame that is read

pub reads_none : (g : Sizes) (k : ℕ) (bytes : List ℕ) (a : Standing) → ReadsSo g k 0 bytes a a
reads_none g k bytes a = record { looked = looked_none a; reads = refl; holds = λ told. record { words = λ l w less hw. absurd (omega arith) } }

-- the words of a line that is the same as another one of this page
line_word : (bytes : List ℕ) (l w : ℕ) (line : Line) → w < 8 → line_at bytes l ≡ line → block_word bytes l w ≡ slice_index line.words w
line_word bytes l w line hw same =
    sym (line_of-word (block_word bytes l) w hw) ∙ ap (λ (x : Line). slice_index x.words w) (sym (line_at-block bytes l) ∙ same)

pub holds_more : (g : Sizes) (k n : ℕ) (s : State) (bytes : List ℕ) (found whole : Line) → length bytes ≡ 4096 → n < 64 → found ≡ loaded_line s (frame_line g k n) → whole ≡ found → IsLine whole
    → HoldsLines g k n bytes s → HoldsLines g k (n + 1) (with_line_bytes bytes n whole) s
holds_more g k n s bytes found whole size less value same is so = record {
  words = λ l w under hw. elim (cases_lt l n) [
    | inl before ↦
        line_word (with_line_bytes bytes n whole) l w (line_at bytes l) hw (line_at-other bytes n l whole size less (omega arith) (λ e. omega arith))
        ∙ sym (line_word bytes l w (line_at bytes l) hw refl) ∙ so.words l w before hw
    | inr last ↦
        (let here : l ≡ n = omega arith in
        line_word (with_line_bytes bytes n whole) l w (loaded_line s (frame_line g k l)) hw
        (ap (line_at (with_line_bytes bytes n whole)) here ∙ line_at-written bytes n whole size less is ∙ same ∙ value ∙ ap (λ m. loaded_line s (frame_line g k m)) (sym here))
        ∙ line_of-word (λ v. (s.nvm (frame_line g k l) v).newest) w hw)
  ];
}

pub reads_more : {a b c : Standing} (g : Sizes) (k n : ℕ) (bytes : List ℕ) (found whole : Line) → ReadsSo g k n bytes a b → n < 64 → length bytes ≡ 4096
    → Looked {T = Line} b c (Ok found) → c.block_reads ≡ b.block_reads → (IsTrue b.told → found ≡ loaded_line (now b) (frame_line g k n)) → whole ≡ found → IsLine whole
    → ReadsSo g k (n + 1) (with_line_bytes bytes n whole) a c
reads_more {a = a} {b = b} g k n bytes found whole so less size looked reads value same is = record {
  looked = looked_then so.looked (looked_ok looked);
  reads = reads ∙ so.reads;
  holds = λ told. holds_more g k n (now a) bytes found whole size less
      (value (later_told so.looked.goes told) ∙ ap (λ (s : State). loaded_line s (frame_line g k n)) (looked_same so.looked told)) same is (so.holds told);
}

-- ---- a frame that is filled

frame_calls-append : (g : Sizes) (k l : ℕ) (xs ys : List Line) → frame_calls g k l (xs ++ ys) ≡ frame_calls g k l xs ++ frame_calls g k (l + length xs) ys
frame_calls-append g k l [] ys = let e : l ≡ l + 0 = omega arith in ap (λ n. frame_calls g k n ys) e
frame_calls-append g k l (x ∷ xs) ys =
    let e : l + 1 + length xs ≡ l + length (x ∷ xs) = omega arith in
    ap (λ (calls : List Call). store_line (frame_line g k l) x ∷ flush (frame_line g k l) ∷ calls) (frame_calls-append g k (l + 1) xs ys ∙ ap (λ n. frame_calls g k (l + 1) xs ++ frame_calls g k n ys) e)

from-length : (f : ℕ → Line) (at n : ℕ) → length (from f at n) ≡ n
from-length f at zero = refl
from-length f at (suc n) = ap suc (from-length f (at + 1) n)

pub page_lines-length : (bytes : List ℕ) → length (page_lines bytes) ≡ 64
unfolding page_lines
page_lines-length bytes = from-length (block_line bytes) 0 64

from-at : (f : ℕ → Line) (at n l : ℕ) (other : Line) → l < n → get_or (from f at n) l other ≡ f (at + l)
from-at f at zero l other less = absurd (omega arith)
from-at f at (suc n) zero other less = let e : at ≡ at + 0 = omega arith in ap f e
from-at f at (suc n) (suc l) other less = let e : at + 1 + l ≡ at + suc l = omega arith in from-at f (at + 1) n l other (omega arith) ∙ ap f e

pub page_lines-at : (bytes : List ℕ) (l : ℕ) (other : Line) → l < 64 → get_or (page_lines bytes) l other ≡ block_line bytes l
unfolding page_lines
page_lines-at bytes l other less =
    let e : 0 + l ≡ l = omega arith in
    from-at (block_line bytes) 0 64 l other less ∙ ap (block_line bytes) e

lines_next : (g : Sizes) (k n m : ℕ) (bytes : List ℕ) → frame_calls g k 0 (lines_below bytes (n + m)) ≡ frame_calls g k 0 (lines_below bytes n) ++ frame_calls g k n (from (block_line bytes) n m)
lines_next g k n m bytes =
    let behind : 0 + n ≡ n = omega arith in
    ap (frame_calls g k 0) (from-append (block_line bytes) 0 n m)
    ∙ frame_calls-append g k 0 (lines_below bytes n) (from (block_line bytes) (0 + n) m)
    ∙ ap (λ i. frame_calls g k 0 (lines_below bytes n) ++ frame_calls g k i (from (block_line bytes) (0 + n) m)) (places n)
    ∙ ap (λ i. frame_calls g k 0 (lines_below bytes n) ++ frame_calls g k n (from (block_line bytes) i m)) behind
  where
    places : (n : ℕ) → 0 + length (lines_below bytes n) ≡ n
    places n = let long : length (lines_below bytes n) ≡ n = from-length (block_line bytes) 0 n in omega arith

-- one line more is stored
pub fills_more : {T : Type 0} {a b c : Standing} {r : Result T Stop} (g : Sizes) (k n : ℕ) (bytes : List ℕ) (value : Line) → value ≡ line_at bytes n
    → Made {T = Unit {0}} (frame_calls g k 0 (lines_below bytes n)) a b (Ok tt) → Made (store_line (frame_line g k n) value ∷ flush (frame_line g k n) ∷ []) b c r
    → Made (frame_calls g k 0 (lines_below bytes (n + 1))) a c r
fills_more {a = a} {b = b} {c = c} {r = r} g k n bytes value same so next =
    subst (λ (calls : List Call). Made calls a c r) (sym (lines_next g k n 1 bytes))
    (made_then so (subst (λ (x : Line). Made (store_line (frame_line g k n) x ∷ flush (frame_line g k n) ∷ []) b c r) (same ∙ line_at-block bytes n) next))

-- a line that could not be stored
pub fills_exit : {T U : Type 0} {why : Stop} {a c : Standing} (r : Result T Stop) (g : Sizes) (k n : ℕ) (bytes : List ℕ) → n < 64 → IsErr r → IsErrAnd r (λ y. y ≡ why)
    → Made {T = U} (frame_calls g k 0 (lines_below bytes (n + 1))) a c (Err why) → Made (frame_calls g k 0 (page_lines bytes)) a c r
unfolding page_lines
fills_exit {a = a} {c = c} r g k n bytes less failed is made =
    let e : n + 1 + (63 - n) ≡ 64 = omega arith in
    subst (λ m. Made (frame_calls g k 0 (lines_below bytes m)) a c r) e
    (subst (λ (calls : List Call). Made calls a c r) (sym (lines_next g k (n + 1) (63 - n) bytes))
    (made_exit (frame_calls g k (n + 1) (from (block_line bytes) (n + 1) (63 - n))) r failed is made))

pub fills_all : {T : Type 0} {a c : Standing} {r : Result T Stop} (g : Sizes) (k n : ℕ) (bytes : List ℕ) → n ≡ 64 → Made (frame_calls g k 0 (lines_below bytes n)) a c r → Made (frame_calls g k 0 (page_lines bytes)) a c r
unfolding page_lines
fills_all {a = a} {c = c} {r = r} g k n bytes all made = subst (λ m. Made (frame_calls g k 0 (lines_below bytes m)) a c r) all made
