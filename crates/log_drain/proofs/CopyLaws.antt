-- Blocks of log lines that are loaded and written.
use Rattle.std.proofs.Common.{◌≡◌, ℕ, zero, suc, ◌+◌, ◌-◌, ◌*◌, ◌%◌, ◌<◌, ◌≤◌, List, [], ◌∷◌, ◌++◌, length, length-append, get_or, refl, sym, ap, ◌∙◌, subst, inl, inr, arith, IsTrue, Result, Ok, Err}
use Rattle.std.specs.Prelude.{OnOk, IsErr}
use Rattle.std.proofs.lemmas.Bool.{cases_lt}
use Rattle.std.proofs.lemmas.List.{get_or_append_left, get_or-append_right}
use Rattle.nvm_model.specs.declared.line.Line.{Line}
use Rattle.nvm_model.specs.Memory.{line_of}
use Rattle.devices.specs.State.{State, Call, current, line_at as loaded_line, after_all}
use Rattle.devices.specs.State.Call.{write_block}
use Rattle.devices.specs.World.{Standing, Goes, Stays, MakesAll, now}
use Rattle.devices.proofs.MomentLaws.{Goes-refl, Goes-trans, Goes-on}
use Rattle.devices.proofs.JoinLaws.{Stays-refl, Stays-now, Stays-trans}
use Rattle.devices.proofs.CallLaws.{makes_then}
use Rattle.line_pages.specs.Lines.{IsLine}
use Rattle.line_pages.specs.Bytes.{u64_at, line_at, with_line_bytes}
use Rattle.line_pages.specs.declared.stop.Stop.{Stop}
use Rattle.line_pages.proofs.ByteLaws.{u64_at-drop, line_at-written, line_at-other, length-with_line}
use Rattle.store_model.specs.Layout.{Sizes, ring_line, ring_block}
use Rattle.store_model.specs.Recovered.{block_word, block_line}
use Rattle.store_model.specs.Blocks.{block_calls, AreCopied}
use Rattle.log_drain.specs.Copies.{AreLoaded, Copies, LoadsSo, CopiesSo}

-- a line of a block of bytes, as both crates say it
pub line_at-block : (bytes : List ℕ) (l : ℕ) → line_at bytes l ≡ block_line bytes l
unfolding u64_at
line_at-block bytes l =
    let zeroth : 64 * l ≡ 64 * l + 8 * 0 = omega arith in
    let a : u64_at bytes (64 * l) ≡ block_word bytes l 0 = ap (u64_at bytes) zeroth ∙ sym (u64_at-drop (64 * l + 8 * 0) bytes) in
    let b : u64_at bytes (64 * l + 8) ≡ block_word bytes l 1 = sym (u64_at-drop (64 * l + 8) bytes) in
    let c : u64_at bytes (64 * l + 16) ≡ block_word bytes l 2 = sym (u64_at-drop (64 * l + 16) bytes) in
    let d : u64_at bytes (64 * l + 24) ≡ block_word bytes l 3 = sym (u64_at-drop (64 * l + 24) bytes) in
    let e : u64_at bytes (64 * l + 32) ≡ block_word bytes l 4 = sym (u64_at-drop (64 * l + 32) bytes) in
    let f : u64_at bytes (64 * l + 40) ≡ block_word bytes l 5 = sym (u64_at-drop (64 * l + 40) bytes) in
    let g : u64_at bytes (64 * l + 48) ≡ block_word bytes l 6 = sym (u64_at-drop (64 * l + 48) bytes) in
    let h : u64_at bytes (64 * l + 56) ≡ block_word bytes l 7 = sym (u64_at-drop (64 * l + 56) bytes) in
    rw (a, b, c, d, e, f, g, h) refl

pub loads_none : (g : Sizes) (offset : ℕ) (bytes : List ℕ) (a : Standing) → length bytes ≡ 4096 → LoadsSo g offset 0 bytes a a
loads_none g offset bytes a size = record {
  goes = Goes-refl a;
  stays = Stays-refl a;
  nvm = refl;
  ssd = refl;
  reads = refl;
  size = size;
  loaded = λ told. record { each = λ l less. absurd (omega arith) };
}

-- one line more is loaded
pub loads_more : (g : Sizes) (offset n place : ℕ) (bytes : List ℕ) (a b c : Standing) (found whole : Line) → LoadsSo g offset n bytes a b → n < 64 → place ≡ ring_line g (offset + n)
    → Goes b c → Stays b c → c.nvm_faults ≡ b.nvm_faults → c.ssd_faults ≡ b.ssd_faults → c.block_reads ≡ b.block_reads → (IsTrue b.told → found ≡ loaded_line (now b) place)
    → whole ≡ found → IsLine whole → LoadsSo g offset (n + 1) (with_line_bytes bytes n whole) a c
loads_more g offset n place bytes a b c found whole so less at goes stays nvm ssd reads value same is = record {
  goes = Goes-trans so.goes goes;
  stays = Stays-trans (Goes-on so.goes) (Goes-on goes) so.stays stays;
  nvm = nvm ∙ so.nvm;
  ssd = ssd ∙ so.ssd;
  reads = reads ∙ so.reads;
  size = length-with_line bytes n whole so.size less;
  loaded = λ told. record {
    each = λ l under. elim (cases_lt l n) [
      | inl before ↦ line_at-other bytes n l whole so.size less (omega arith) (λ e. omega arith) ∙ (so.loaded told).each l before
      | inr last ↦
          (let here : l ≡ n = omega arith in
          ap (λ k. line_at (with_line_bytes bytes n whole) k) here ∙ line_at-written bytes n whole so.size less is ∙ same
          ∙ value (subst IsTrue (sym (so.goes).told) told)
          ∙ ap (λ (s : State). loaded_line s place) (Stays-now (Goes-on so.goes) so.stays told)
          ∙ ap (λ k. line_of ((current (now a)).nvm k)) (at ∙ ap (λ k. ring_line g (offset + k)) (sym here)))
    ];
  };
}

pub OnOk_of : {T E : Type 0} {P : Type 0} (r : Result T E) → P → OnOk r P
OnOk_of (Ok v) p = p
OnOk_of (Err e) p = tt

pub not_ok : {T E : Type 0} (P : Type 0) (r : Result T E) → IsErr r → OnOk r P
not_ok P (Ok v) failed = cc
not_ok P (Err e) failed = tt

-- what only reads makes no call
pub makes_none : {T E : Type 0} {a b : Standing} (r : Result T E) → Goes a b → Stays a b → MakesAll [] a b r
makes_none r goes stays = record { whole = λ told. OnOk_of r (Stays-now (Goes-on goes) stays told); part = stays }

pub none_copied : (g : Sizes) (offset : ℕ) (s : State) → AreCopied g offset [] s
none_copied g offset s = record { each = λ k o less above below. absurd (omega arith) }

-- a block that could not be loaded
pub copies_unloaded : {T E : Type 0} {a b : Standing} (g : Sizes) (offset n : ℕ) (r : Result T E) → IsErr r → Goes a b → Stays a b → Copies g offset n a b r
copies_unloaded {a = a} g offset n r failed goes stays = record {
  blocks = [];
  makes = makes_none r goes stays;
  most = omega arith;
  count = not_ok _ r failed;
  copied = λ told. none_copied g offset (now a);
}

-- a block that is loaded, and then written
pub copies_one : {T E : Type 0} {a b c : Standing} {r : Result T E} (g : Sizes) (offset place : ℕ) (bytes : List ℕ) → offset % 64 ≡ 0 → place ≡ ring_block g offset
    → Goes a b → Stays a b → (IsTrue a.told → AreLoaded g offset 64 bytes (now a)) → Goes b c → MakesAll (write_block place bytes ∷ []) b c r → Copies g offset 1 a c r
copies_one {a = a} {b = b} {c = c} {r = r} g offset place bytes aligned at goes stays loaded later makes = record {
  blocks = bytes ∷ [];
  makes = makes_then {v = tt} goes later (makes_none {T = Unit {0}} (Ok tt) goes stays) (subst (λ n. MakesAll (write_block n bytes ∷ []) b c r) at makes);
  most = omega arith;
  count = OnOk_of r refl;
  copied = λ told. record { each = λ k o less above below. copied told k o less above below };
}
  where
    copied : IsTrue a.told → (k o : ℕ) → k < 1 → offset + 64 * k ≤ o → o < offset + 64 * k + 64 → block_line (get_or (bytes ∷ []) k []) (o % 64) ≡ line_of ((current (now a)).nvm (ring_line g o))
    copied told (suc k) o less above below = absurd (omega arith)
    copied told zero o less above below =
        let place_is : offset + o % 64 ≡ o = omega arith in
        sym (line_at-block bytes (o % 64)) ∙ (loaded told).each (o % 64) (omega arith) ∙ ap (λ n. line_of ((current (now a)).nvm (ring_line g n))) place_is

-- blocks behind blocks
block_calls-append : (g : Sizes) (offset : ℕ) (xs ys : List (List ℕ)) → block_calls g offset (xs ++ ys) ≡ block_calls g offset xs ++ block_calls g (offset + 64 * length xs) ys
block_calls-append g offset [] ys = let e : offset ≡ offset + 64 * 0 = omega arith in ap (λ n. block_calls g n ys) e
block_calls-append g offset (x ∷ xs) ys =
    let e : offset + 64 + 64 * length xs ≡ offset + 64 * length (x ∷ xs) = omega arith in
    ap (λ (calls : List Call). write_block (ring_block g offset) x ∷ calls) (block_calls-append g (offset + 64) xs ys ∙ ap (λ n. block_calls g (offset + 64) xs ++ block_calls g n ys) e)

-- and none of them changes the NVM
block_nvm : (g : Sizes) (offset : ℕ) (xs : List (List ℕ)) (s : State) → (after_all (block_calls g offset xs) s).nvm ≡ s.nvm
block_nvm g offset [] s = refl
block_nvm g offset (x ∷ xs) s = block_nvm g (offset + 64) xs _

copied-append : (g : Sizes) (offset n : ℕ) (xs ys : List (List ℕ)) (s t : State) → length xs ≡ n → t.nvm ≡ s.nvm → AreCopied g offset xs s → AreCopied g (offset + 64 * n) ys t
    → AreCopied g offset (xs ++ ys) s
copied-append g offset n xs ys s t long same first second = record {
  each = λ k o less above below. elim (cases_lt k (length xs)) [
    | inl before ↦ ap (λ bytes. block_line bytes (o % 64)) (get_or_append_left xs ys [] k before) ∙ first.each k o before above below
    | inr behind ↦ ap (λ bytes. block_line bytes (o % 64)) (get_or-append_right xs ys (length xs) k [] refl behind)
        ∙ second.each (k - length xs) o (let all : length (xs ++ ys) ≡ length xs + length ys = length-append xs ys in omega arith) (omega arith) (omega arith)
        ∙ ap (λ memory. line_of (λ w. (memory (ring_line g o) w).newest)) same
  ];
}

pub copies_none : (g : Sizes) (offset : ℕ) (a : Standing) → CopiesSo g offset 0 a a
copies_none g offset a = record {
  goes = Goes-refl a;
  nvm = refl;
  ssd = refl;
  reads = refl;
  copies = record {
    blocks = [];
    makes = makes_none (Ok tt) (Goes-refl a) (Stays-refl a);
    most = omega arith;
    count = refl;
    copied = λ told. none_copied g offset (now a);
  };
}

pub copies_then : {T : Type 0} {a b c : Standing} {r : Result T Stop} (g : Sizes) (offset n : ℕ) → CopiesSo g offset n a b → Goes b c → Copies g (offset + 64 * n) 1 b c r → Copies g offset (n + 1) a c r
copies_then {T = T} {a = a} {b = b} {c = c} {r = r} g offset n so later next =
    let long : length so.copies.blocks ≡ n = so.copies.count in
    let starts : offset + 64 * n ≡ offset + 64 * length so.copies.blocks = omega arith in
    record {
      blocks = so.copies.blocks ++ next.blocks;
      makes = subst (λ (calls : List Call). MakesAll calls a c r) (sym (block_calls-append g offset so.copies.blocks next.blocks))
          (makes_then so.goes later so.copies.makes (subst (λ k. MakesAll (block_calls g k next.blocks) b c r) starts next.makes));
      most = (let all : length (so.copies.blocks ++ next.blocks) ≡ length so.copies.blocks + length next.blocks = length-append so.copies.blocks next.blocks in
          let few : length next.blocks ≤ 1 = next.most in omega arith);
      count = counted r (length so.copies.blocks) (length next.blocks) (length (so.copies.blocks ++ next.blocks)) next.count (length-append so.copies.blocks next.blocks) long;
      copied = λ told. copied-append g offset n so.copies.blocks next.blocks (now a) (now b) long
          (ap (λ (s : State). s.nvm) (so.copies.makes.whole told) ∙ block_nvm g offset so.copies.blocks (now a))
          (so.copies.copied told) (next.copied (subst IsTrue (sym (so.goes).told) told));
    }
  where
    counted : (r : Result T Stop) (x y z : ℕ) → OnOk r (y ≡ 1) → z ≡ x + y → x ≡ n → OnOk r (z ≡ n + 1)
    counted (Ok v) x y z one all front = let y_is : y ≡ 1 = one in omega arith
    counted (Err e) x y z one all front = tt

pub copies_on : {b c : Standing} (g : Sizes) (offset n : ℕ) (a : Standing) → CopiesSo g offset n a b → Goes b c → c.nvm_faults ≡ b.nvm_faults → c.ssd_faults ≡ b.ssd_faults → c.block_reads ≡ b.block_reads
    → Copies {T = Unit {0}} {E = Stop} g (offset + 64 * n) 1 b c (Ok tt) → CopiesSo g offset (n + 1) a c
copies_on g offset n a so later nvm ssd reads next = record {
  goes = Goes-trans so.goes later;
  nvm = nvm ∙ so.nvm;
  ssd = ssd ∙ so.ssd;
  reads = reads ∙ so.reads;
  copies = copies_then g offset n so later next;
}

-- where the copies stop, more of them might have been made
pub copies_stop : {T U E F : Type 0} {a b : Standing} {e : F} (g : Sizes) (offset n m : ℕ) (r : Result T E) → IsErr r → n ≤ m → Copies {T = U} {E = F} g offset n a b (Err e) → Copies g offset m a b r
copies_stop {a = a} {b = b} g offset n m r failed fits copies = record {
  blocks = copies.blocks;
  makes = record { whole = λ told. not_ok _ r failed; part = copies.makes.part };
  most = (let few : length copies.blocks ≤ n = copies.most in omega arith);
  count = not_ok _ r failed;
  copied = copies.copied;
}
