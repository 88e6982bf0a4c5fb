-- A whole write as it goes on, and two of them.
use Rattle.std.proofs.Common.{◌≡◌, ℕ, ◌+◌, ◌≤◌, List, [], ◌++◌, length, take, drop, Result, Ok, Err, IsErr, refl, sym, ◌∙◌, ap, arith, append_assoc, inl, inr, IsTrue}
use Rattle.std.proofs.lemmas.List.{append-nil, take_all, take-append-le, drop-drop, length-drop}
use Rattle.std.proofs.lemmas.Bool.{cases_lt}
use Rattle.std.proofs.lemmas.Result.{IfOk-from_err}
use Rattle.std.proofs.Math.Seq.{take-add, take-append-add}
use Rattle.devices.specs.World.{Standing, GoesOn, Sends, sent, sent_at}
use Rattle.runner.specs.Sent.{SendsBytes}

-- some first part of the bytes was sent, and these are left
pub record Far (bytes rest : List ℕ) (old mid : Standing) : Type 0 where
  pub count : ℕ
  pub left : rest ≡ drop count bytes
  pub sent_now : sent mid ≡ sent old ++ take count bytes
  pub part : (m : ℕ) → old.clock ≤ m → m ≤ mid.clock → (k : ℕ) × (sent_at mid m ≡ sent old ++ take k bytes)

-- what a write of some of the bytes sent at a moment of it
pub record Step (rest : List ℕ) (mid new : Standing) : Type 0 where
  pub part : (m : ℕ) → mid.clock ≤ m → m ≤ new.clock → (k : ℕ) × (sent_at new m ≡ sent mid ++ take k rest)

step_ok : {E : Type 0} (rest : List ℕ) (mid new : Standing) (result : Result ℕ E) → IsTrue mid.told → Sends mid new rest result → Step rest mid new
step_ok rest mid new (Ok n) told sends = record { part = λ m low high. let at = (sends.within told).each m low high in (at.0, at.2) }
step_ok rest mid new (Err e) told sends = record { part = λ m low high. (0, (sends.err told).each m low high ∙ sym (append-nil (sent mid))) }

module _ (bytes : List ℕ) (old : Standing) where
  pub far_start : Far bytes bytes old old
  far_start = record {
    count = 0;
    left = refl;
    sent_now = sym (append-nil (sent old));
    part = λ m low high. let same : m ≡ old.clock = omega arith in (0, rw same (sym (append-nil (sent old))));
  }

  added : (k n : ℕ) → (sent old ++ take k bytes) ++ take n (drop k bytes) ≡ sent old ++ take (k + n) bytes
  added k n = append_assoc (sent old) (take k bytes) (take n (drop k bytes)) ∙ ap (λ (l : List ℕ). sent old ++ l) (sym (take-add k n bytes))

  module _ {E : Type 0} (rest : List ℕ) (mid new : Standing) (result : Result ℕ E) (far : Far bytes rest old mid) (goes : GoesOn mid new) (told : IsTrue mid.told) (sends : Sends mid new rest result) where
    part_on : (m : ℕ) → old.clock ≤ m → m ≤ new.clock → (k : ℕ) × (sent_at new m ≡ sent old ++ take k bytes)
    part_on m low high = elim (cases_lt mid.clock m) [
      | inr before ↦ let was = far.part m low before in (was.0, goes.earlier_sent m before ∙ was.1)
      | inl after ↦
          let here = (step_ok rest mid new result told sends).part m (omega (arith, after)) high in
          (far.count + here.0, here.1 ∙ ap (λ (l : List ℕ). l ++ take here.0 rest) far.sent_now ∙ ap (λ (l : List ℕ). (sent old ++ take far.count bytes) ++ take here.0 l) far.left ∙ added far.count here.0)
    ]

    pub far_ok : (n : ℕ) (next : List ℕ) → next ≡ drop n rest → sent new ≡ sent mid ++ take n rest → Far bytes next old new
    far_ok n next is_next is = record {
      count = far.count + n;
      left = is_next ∙ ap (λ (l : List ℕ). drop n l) far.left ∙ drop-drop n far.count bytes;
      sent_now = is ∙ ap (λ (l : List ℕ). l ++ take n rest) far.sent_now ∙ ap (λ (l : List ℕ). (sent old ++ take far.count bytes) ++ take n l) far.left ∙ added far.count n;
      part = part_on;
    }

    pub far_err : {T F : Type 0} (r : Result T F) → IsErr r → SendsBytes bytes old new r
    far_err r is = record { ok = IfOk-from_err r _ is; part = part_on }

  pub far_end : {T E : Type 0} (mid : Standing) (rest : List ℕ) → Far bytes rest old mid → length rest ≡ 0 → (value : T) → SendsBytes {E = E} bytes old mid (Ok value)
  far_end mid rest far none value =
      let whole : take far.count bytes ≡ bytes = take_all far.count bytes (omega (arith, length-drop far.count bytes, ap length far.left, none)) in
      record { ok = far.sent_now ∙ ap (λ (l : List ℕ). sent old ++ l) whole; part = far.part }

-- ---- two writes

-- a first part of the first bytes is one of all
part_of_all : (xs ys : List ℕ) (k : ℕ) → (j : ℕ) × (take k xs ≡ take j (xs ++ ys))
part_of_all xs ys k = elim (cases_lt (length xs) k) [
  | inl past ↦ (length xs, take_all k xs (omega (arith, past)) ∙ sym (take-append-le (length xs) xs ys (omega arith) ∙ take_all (length xs) xs (omega arith)))
  | inr within ↦ (k, sym (take-append-le k xs ys within))
]

-- some bytes were sent, and by each moment a first part of them
pub record Wrote (bytes : List ℕ) (old mid : Standing) : Type 0 where
  pub whole : sent mid ≡ sent old ++ bytes
  pub part : (m : ℕ) → old.clock ≤ m → m ≤ mid.clock → (k : ℕ) × (sent_at mid m ≡ sent old ++ take k bytes)

pub wrote_none : (a : Standing) → Wrote [] a a
wrote_none a = record {
  whole = sym (append-nil (sent a));
  part = λ m low high. let same : m ≡ a.clock = omega arith in (0, rw same (sym (append-nil (sent a))));
}

pub wrote_all : {T E : Type 0} (xs all : List ℕ) (old mid : Standing) (v : T) → xs ≡ all → Wrote xs old mid → SendsBytes {E = E} all old mid (Ok v)
wrote_all xs all old mid v same wrote = record {
  ok = wrote.whole ∙ ap (λ (l : List ℕ). sent old ++ l) same;
  part = λ m low high. let part = wrote.part m low high in (part.0, part.1 ∙ ap (λ (l : List ℕ). sent old ++ take part.0 l) same);
}

-- and one write more
module _ (xs ys all : List ℕ) (old mid new : Standing) (wrote : Wrote xs old mid) (goes : GoesOn mid new) (is : xs ++ ys ≡ all) where
  part_then : {T E : Type 0} {r : Result T E} → SendsBytes ys mid new r → (m : ℕ) → old.clock ≤ m → m ≤ new.clock → (k : ℕ) × (sent_at new m ≡ sent old ++ take k all)
  part_then writes m low high = elim (cases_lt mid.clock m) [
    | inr before ↦
        let part = wrote.part m low before in
        let more = part_of_all xs ys part.0 in
        (more.0, goes.earlier_sent m before ∙ part.1 ∙ ap (λ (l : List ℕ). sent old ++ l) (more.1 ∙ ap (λ (l : List ℕ). take more.0 l) is))
    | inl after ↦
        let part = writes.part m (omega (arith, after)) high in (
          length xs + part.0,
          part.1 ∙ ap (λ (l : List ℕ). l ++ take part.0 ys) wrote.whole ∙ append_assoc (sent old) xs (take part.0 ys)
              ∙ ap (λ (l : List ℕ). sent old ++ l) (sym (take-append-add xs ys part.0) ∙ ap (λ (l : List ℕ). take (length xs + part.0) l) is),
        )
  ]

  pub wrote_then : {T E : Type 0} {v : T} → SendsBytes {E = E} ys mid new (Ok v) → Wrote all old new
  wrote_then writes = record {
    whole = writes.ok ∙ ap (λ (l : List ℕ). l ++ ys) wrote.whole ∙ append_assoc (sent old) xs ys ∙ ap (λ (l : List ℕ). sent old ++ l) is;
    part = part_then writes;
  }

  -- where it fails, a part of what was still to be sent stayed behind
  pub wrote_fails : {T E U F : Type 0} {r : Result T E} (more whole : List ℕ) (q : Result U F) → IsErr q → all ++ more ≡ whole → SendsBytes ys mid new r → SendsBytes whole old new q
  wrote_fails more whole q failed same writes = record {
    ok = IfOk-from_err q _ failed;
    part = λ m low high.
        let part = part_then writes m low high in
        let of_all = part_of_all all more part.0 in
        (of_all.0, part.1 ∙ ap (λ (l : List ℕ). sent old ++ l) (of_all.1 ∙ ap (λ (l : List ℕ). take of_all.0 l) same));
  }
