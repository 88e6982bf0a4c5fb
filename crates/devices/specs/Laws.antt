-- The law of a world over what it keeps: nothing was sent after the last call.
use Rattle.std.proofs.Common.{◌≡◌, ℕ, ◌≤◌, List, [], ◌∷◌, length, take, refl, sym, ◌∙◌, ap, arith}
use Rattle.std.specs.Prelude.{Bool, nat_le, true, false, cond, ◌&&◌}
use Rattle.std.specs.List.{list_all}
use Rattle.std.proofs.lemmas.Bool.Decides.{nat_tests}
use Rattle.devices.specs.declared.step.Sending.{Sending}
use Rattle.devices.specs.declared.past.Past.{Past}
use Rattle.devices.specs.World.{last_from, sent_by}
use Rattle.devices.specs.Past.{changes_of, is_past, IsSound}

-- both parts of a test that passes
pub and_first : (a b : Bool) → (a && b) ≡ true → a ≡ true
and_first true b h = refl
and_first false b h = h

pub and_second : (a b : Bool) → (a && b) ≡ true → b ≡ true
and_second true b h = h
and_second false b h = cc

pub past_moment : (n k : ℕ) (s : Sending) → is_past n k s ≡ true → s.moment ≤ n
past_moment n k s h = let test : nat_le s.moment n ≡ true = and_first (nat_le s.moment n) (nat_le s.sent_end k) h in grind (arith, nat_tests)

pub past_bytes : (n k : ℕ) (s : Sending) → is_past n k s ≡ true → s.sent_end ≤ k
past_bytes n k s h = let test : nat_le s.sent_end k ≡ true = and_second (nat_le s.moment n) (nat_le s.sent_end k) h in grind (arith, nat_tests)

-- at a later moment the changes are the same
pub last_later : (before : List ℕ) (sendings : List Sending) (sent : List ℕ) (n m : ℕ) → n ≤ m → list_all (is_past n (length sent)) sendings ≡ true
    → last_from before (changes_of sendings sent) m ≡ last_from before (changes_of sendings sent) n
last_later before [] sent n m le all = refl
last_later before (s ∷ sendings) sent n m le all =
    let low : s.moment ≤ n = past_moment n (length sent) s (and_first _ _ all) in
    let at_m : nat_le s.moment m ≡ true = grind (arith, nat_tests, low) in
    let at_n : nat_le s.moment n ≡ true = grind (arith, nat_tests, low) in
    ap (λ (b : Bool). last_from (cond b (take s.sent_end sent) before) (changes_of sendings sent) m) at_m
    ∙ last_later (take s.sent_end sent) sendings sent n m le (and_second _ _ all)
    ∙ ap (λ (b : Bool). last_from (cond b (take s.sent_end sent) before) (changes_of sendings sent) n) (sym at_n)

pub sent_later : (p : Past) (m : ℕ) → IsSound p → length p.entries.items ≤ m → sent_by (changes_of p.sendings.items p.sent.items) m ≡ sent_by (changes_of p.sendings.items p.sent.items) (length p.entries.items)
unfolding sent_by
sent_later p m sound le = last_later [] p.sendings.items p.sent.items (length p.entries.items) m le sound.sendings
