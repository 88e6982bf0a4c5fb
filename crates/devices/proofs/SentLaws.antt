-- What is sent, as the calls go on.
use Rattle.std.proofs.Common.{◌≡◌, ℕ, ◌+◌, ◌<◌, ◌≤◌, List, [], ◌∷◌, ◌++◌, length, take, drop, refl, sym, ◌∙◌, ap, subst, arith, length-append}
use Rattle.std.proofs.lemmas.Grind.{common_steps}
use Rattle.std.specs.Prelude.{Bool, nat_le, true, false, cond}
use Rattle.std.specs.List.{list_all}
use Rattle.std.proofs.lemmas.Bool.Decides.{nat_tests}
use Rattle.std.proofs.lemmas.List.{take-append-le, take_all}
use Rattle.std.proofs.lemmas.List.Folds.{list_all-append}
use Rattle.devices.specs.declared.step.Entry.{Entry}
use Rattle.devices.specs.declared.step.Step.TheVariants.{Send}
use Rattle.devices.specs.declared.step.Sending.{Sending}
use Rattle.devices.specs.declared.images.Images.{Images}
use Rattle.devices.specs.declared.past.Past.{Past}
use Rattle.devices.specs.State.{State}
use Rattle.devices.specs.World.{last_from, sent_by}
use Rattle.devices.specs.Past.{image_of, replay, standing_state, changes_of, is_past, is_within, IsSound, Sent}
use Rattle.devices.specs.Laws.{and_first, and_second, past_moment, past_bytes}
use Rattle.devices.proofs.PastLaws.{replay_push}

-- more bytes behind leave the changes
changes_same : (sendings : List Sending) (sent bytes : List ℕ) (n : ℕ) → list_all (is_past n (length sent)) sendings ≡ true → changes_of sendings (sent ++ bytes) ≡ changes_of sendings sent
changes_same [] sent bytes n all = refl
changes_same (s ∷ sendings) sent bytes n all =
    let low : s.sent_end ≤ length sent = past_bytes n (length sent) s (and_first (is_past n (length sent) s) (list_all (is_past n (length sent)) sendings) all) in
    let rest = changes_same sendings sent bytes n (and_second (is_past n (length sent) s) (list_all (is_past n (length sent)) sendings) all) in
    λ i. (s.moment, take-append-le s.sent_end sent bytes low i) ∷ rest i

changes_push : (sendings : List Sending) (s : Sending) (sent : List ℕ) → changes_of (sendings ++ s ∷ []) sent ≡ changes_of sendings sent ++ (s.moment, take s.sent_end sent) ∷ []
changes_push [] s sent = refl
changes_push (first ∷ sendings) s sent = λ i. (first.moment, take first.sent_end sent) ∷ changes_push sendings s sent i

last_push : (before : List ℕ) (xs : List (ℕ × List ℕ)) (x : ℕ × List ℕ) (m : ℕ) → last_from before (xs ++ x ∷ []) m ≡ cond (nat_le x.0 m) x.1 (last_from before xs m)
last_push before [] x m = refl
last_push before (y ∷ xs) x m = last_push (cond (nat_le y.0 m) y.1 before) xs x m

past_more : (n m k j : ℕ) (s : Sending) → n ≤ m → k ≤ j → is_past n k s ≡ true → is_past m j s ≡ true
past_more n m k j s le lej h =
    let low : s.moment ≤ n = past_moment n k s h in
    let bytes : s.sent_end ≤ k = past_bytes n k s h in
    let first : nat_le s.moment m ≡ true = grind (arith, nat_tests, low) in
    let second : nat_le s.sent_end j ≡ true = grind (arith, nat_tests, bytes) in
    rw (first, second) refl

all_past_more : (sendings : List Sending) (n m k j : ℕ) → n ≤ m → k ≤ j → list_all (is_past n k) sendings ≡ true → list_all (is_past m j) sendings ≡ true
all_past_more [] n m k j le lej all = refl
all_past_more (s ∷ sendings) n m k j le lej all =
    rw (past_more n m k j s le lej (and_first (is_past n k s) (list_all (is_past n k) sendings) all), all_past_more sendings n m k j le lej (and_second (is_past n k s) (list_all (is_past n k) sendings) all)) refl

module _ {event : ℕ} {bytes : List ℕ} (p q : Past) (sound : IsSound p) (is : Sent event bytes p q) where
  added : Sending
  added = record { moment = length p.entries.items + 1; sent_end = length p.sent.items + length bytes }

  pub one_more : length q.entries.items ≡ length p.entries.items + 1
  one_more = ap length is.entries ∙ length-append p.entries.items (record { event = event; step = Send } ∷ [])

  more_sent : length q.sent.items ≡ length p.sent.items + length bytes
  more_sent = ap length is.sent ∙ length-append p.sent.items bytes

  changes_next : changes_of q.sendings.items q.sent.items ≡ changes_of p.sendings.items p.sent.items ++ (length p.entries.items + 1, q.sent.items) ∷ []
  unfolding added
  changes_next =
      ap (λ (l : List Sending). changes_of l q.sent.items) is.sendings ∙ changes_push p.sendings.items added q.sent.items
      ∙ ap (λ (l : List (ℕ × List ℕ)). l ++ (length p.entries.items + 1, take (length p.sent.items + length bytes) q.sent.items) ∷ []) (ap (changes_of p.sendings.items) is.sent ∙ changes_same p.sendings.items p.sent.items bytes (length p.entries.items) sound.sendings)
      ∙ ap (λ (l : List ℕ). changes_of p.sendings.items p.sent.items ++ (length p.entries.items + 1, l) ∷ []) (take_all (length p.sent.items + length bytes) q.sent.items (omega (arith, more_sent)))

  last_sent : (m : ℕ) → sent_by (changes_of q.sendings.items q.sent.items) m ≡ cond (nat_le (length p.entries.items + 1) m) q.sent.items (sent_by (changes_of p.sendings.items p.sent.items) m)
  unfolding sent_by
  last_sent m = ap (λ (l : List (ℕ × List ℕ)). last_from [] l m) changes_next ∙ last_push [] (changes_of p.sendings.items p.sent.items) (length p.entries.items + 1, q.sent.items) m

  pub later_sent : (m : ℕ) → length p.entries.items < m → sent_by (changes_of q.sendings.items q.sent.items) m ≡ q.sent.items
  later_sent m lt = let test : nat_le (length p.entries.items + 1) m ≡ true = grind (arith, nat_tests, lt) in
      last_sent m ∙ ap (λ (b : Bool). cond b q.sent.items (sent_by (changes_of p.sendings.items p.sent.items) m)) test

  pub earlier_sent : (m : ℕ) → m ≤ length p.entries.items → sent_by (changes_of q.sendings.items q.sent.items) m ≡ sent_by (changes_of p.sendings.items p.sent.items) m
  earlier_sent m le = let test : nat_le (length p.entries.items + 1) m ≡ false = grind (arith, nat_tests, le) in
      last_sent m ∙ ap (λ (b : Bool). cond b q.sent.items (sent_by (changes_of p.sendings.items p.sent.items) m)) test

  pub state_sent : standing_state q ≡ standing_state p
  state_sent =
      ap (λ (b : Images). replay (image_of b) q.entries.items) is.stands.base
      ∙ ap (λ (es : List Entry). replay (image_of p.base) es) is.entries
      ∙ replay_push (image_of p.base) p.entries.items (record { event = event; step = Send })

  pub sound_sent : q.current.nvm.items ≡ p.current.nvm.items → q.current.ssd ≡ p.current.ssd → IsSound q
  unfolding added
  sound_sent nvm ssd = record {
    size = ap length nvm ∙ sound.size ∙ sym is.stands.lines;
    base_size = rw (is.stands.base, is.stands.lines) sound.base_size;
    base_blocks = rw (is.stands.base, is.stands.blocks) sound.base_blocks;
    words = λ l w lt lt8. rw nvm (sound.words l w (subst (λ n. l < n) is.stands.lines lt) lt8) ∙ ap (λ (s : State). (s.nvm l w).newest) (sym state_sent);
    pages = λ b. rw ssd (sound.pages b) ∙ ap (λ (s : State). (s.ssd b).bytes) (sym state_sent);
    within = rw (is.entries, is.stands.lines, is.stands.blocks) (list_all-append (λ (e : Entry). is_within p.lines p.current.ssd_blocks e.step) p.entries.items (record { event = event; step = Send } ∷ []) ∙ rw sound.within refl);
    sendings = rw is.sendings (list_all-append (is_past (length q.entries.items) (length q.sent.items)) p.sendings.items (added ∷ []) ∙ rw (old_past, new_past) refl);
    all_sent = later_sent (length q.entries.items) (omega (arith, one_more));
  }
    where
      old_past : list_all (is_past (length q.entries.items) (length q.sent.items)) p.sendings.items ≡ true
      old_past = all_past_more p.sendings.items (length p.entries.items) _ (length p.sent.items) _ (omega (arith, one_more)) (omega (arith, more_sent)) sound.sendings

      new_past : is_past (length q.entries.items) (length q.sent.items) added ≡ true
      new_past =
          let first : nat_le (length p.entries.items + 1) (length q.entries.items) ≡ true = grind (arith, nat_tests, one_more) in
          let second : nat_le (length p.sent.items + length bytes) (length q.sent.items) ≡ true = grind (arith, nat_tests, more_sent) in
          rw (first, second) refl

-- all changes were looked through
pub sent_end_within : (sendings : List Sending) (sent : List ℕ) (moment sent_end index : ℕ) → sent_end ≤ length sent
    → last_from [] (changes_of sendings sent) moment ≡ last_from (take sent_end sent) (changes_of (drop index sendings) sent) moment → length sendings ≤ index → sent_end ≡ length (sent_by (changes_of sendings sent) moment)
unfolding sent_by
sent_end_within sendings sent moment sent_end index within same end =
    let none : drop index sendings ≡ [] = grind (arith, common_steps, end) in
    let size : length (take sent_end sent) ≡ sent_end = grind (arith, common_steps, within) in
    sym (ap length (same ∙ ap (λ (l : List Sending). last_from (take sent_end sent) (changes_of l sent) moment) none) ∙ size)
