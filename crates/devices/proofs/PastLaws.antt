-- What one call more makes of what is kept.
use Rattle.std.proofs.Common.{◌≡◌, ℕ, ◌+◌, ◌<◌, ◌≤◌, List, [], ◌∷◌, ◌++◌, length, refl, sym, ◌∙◌, ap, subst, arith, length-append}
use Rattle.std.specs.Prelude.{nat_le, true}
use Rattle.std.specs.List.{list_all}
use Rattle.std.proofs.lemmas.Bool.Decides.{nat_tests}
use Rattle.std.proofs.lemmas.List.Folds.{list_all-append}
use Rattle.devices.specs.declared.images.Images.{Images}
use Rattle.devices.specs.declared.step.Step.{Step}
use Rattle.devices.specs.declared.step.Entry.{Entry}
use Rattle.devices.specs.declared.step.Sending.{Sending}
use Rattle.devices.specs.declared.past.Past.{Past}
use Rattle.devices.specs.State.{State, Image, fresh}
use Rattle.devices.specs.World.{sent_by}
use Rattle.devices.specs.Past.{image_of, word_in, page_in, made, replay_from, replay, standing_state, is_within, is_past, IsSound, Same, Kept}
use Rattle.devices.specs.Laws.{and_first, and_second, past_moment, last_later}

pub replay_from_push : (s : State) (entries : List Entry) (e : Entry) → replay_from s (entries ++ e ∷ []) ≡ made e.step (replay_from s entries)
replay_from_push s [] e = refl
replay_from_push s (first ∷ entries) e = replay_from_push (made first.step s) entries e

pub replay_push : (base : Image) (entries : List Entry) (e : Entry) → replay base (entries ++ e ∷ []) ≡ made e.step (replay base entries)
unfolding replay
replay_push base entries e = replay_from_push (fresh base) entries e

-- the state where nothing was done, and after one call more
pub state_same : (p q : Past) → Same p q → standing_state q ≡ standing_state p
state_same p q same = ap (λ (b : Images). replay (image_of b) q.entries.items) same.stands.base ∙ ap (λ (es : List Entry). replay (image_of p.base) es) same.entries

pub state_kept : {event : ℕ} {step : Step} (p q : Past) → Kept event step p q → standing_state q ≡ made step (standing_state p)
state_kept {event} {step} p q kept =
    ap (λ (b : Images). replay (image_of b) q.entries.items) kept.stands.base
    ∙ ap (λ (es : List Entry). replay (image_of p.base) es) kept.entries
    ∙ replay_push (image_of p.base) p.entries.items (record { event = event; step = step })

-- the changes of the output lie in a longer past too
past_more : (n m k : ℕ) (s : Sending) → n ≤ m → is_past n k s ≡ true → is_past m k s ≡ true
past_more n m k s le h =
    let low : s.moment ≤ n = past_moment n k s h in
    let bytes : nat_le s.sent_end k ≡ true = and_second (nat_le s.moment n) (nat_le s.sent_end k) h in
    let test : nat_le s.moment m ≡ true = grind (arith, nat_tests, low) in
    rw (test, bytes) refl

pub all_past_more : (sendings : List Sending) (n m k : ℕ) → n ≤ m → list_all (is_past n k) sendings ≡ true → list_all (is_past m k) sendings ≡ true
all_past_more [] n m k le all = refl
all_past_more (s ∷ sendings) n m k le all =
    rw (past_more n m k s le (and_first (is_past n k s) (list_all (is_past n k) sendings) all), all_past_more sendings n m k le (and_second (is_past n k s) (list_all (is_past n k) sendings) all)) refl

module _ (p q : Past) (sound : IsSound p) where
  -- nothing was done
  pub sound_same : Same p q → q.current.nvm.items ≡ p.current.nvm.items → ((b : ℕ) → page_in q.current.ssd b ≡ page_in p.current.ssd b) → IsSound q
  sound_same same nvm ssd = record {
    size = ap length nvm ∙ sound.size ∙ sym same.stands.lines;
    base_size = rw (same.stands.base, same.stands.lines) sound.base_size;
    base_blocks = rw (same.stands.base, same.stands.blocks) sound.base_blocks;
    words = λ l w lt lt8. rw nvm (sound.words l w (subst (λ n. l < n) same.stands.lines lt) lt8) ∙ ap (λ (s : State). (s.nvm l w).newest) (sym (state_same p q same));
    pages = λ b. ssd b ∙ sound.pages b ∙ ap (λ (s : State). (s.ssd b).bytes) (sym (state_same p q same));
    within = rw (same.entries, same.stands.lines, same.stands.blocks) sound.within;
    sendings = rw (same.entries, same.sent, same.sendings) sound.sendings;
    all_sent = rw (same.entries, same.sent, same.sendings) sound.all_sent;
  }

  -- one call of a device was kept, and the contents are those after it
  pub sound_kept : {event : ℕ} {step : Step} → Kept event step p q → is_within p.lines p.current.ssd_blocks step ≡ true → length q.current.nvm.items ≡ p.lines
      → ((l w : ℕ) → l < p.lines → w < 8 → word_in q.current.nvm.items l w ≡ ((made step (standing_state p)).nvm l w).newest)
      → ((b : ℕ) → page_in q.current.ssd b ≡ ((made step (standing_state p)).ssd b).bytes) → IsSound q
  unfolding sent_by
  sound_kept {event} {step} kept in_range size words pages =
      let more : length q.entries.items ≡ length p.entries.items + 1 = ap length kept.entries ∙ length-append p.entries.items (record { event = event; step = step } ∷ []) in
      let later : length p.entries.items ≤ length q.entries.items = omega arith in
      record {
        size = size ∙ sym kept.stands.lines;
        base_size = rw (kept.stands.base, kept.stands.lines) sound.base_size;
        base_blocks = rw (kept.stands.base, kept.stands.blocks) sound.base_blocks;
        words = λ l w lt lt8. words l w (subst (λ n. l < n) kept.stands.lines lt) lt8 ∙ ap (λ (s : State). (s.nvm l w).newest) (sym (state_kept p q kept));
        pages = λ b. pages b ∙ ap (λ (s : State). (s.ssd b).bytes) (sym (state_kept p q kept));
        within = rw (kept.entries, kept.stands.lines, kept.stands.blocks) (list_all-append (λ (e : Entry). is_within p.lines p.current.ssd_blocks e.step) p.entries.items (record { event = event; step = step } ∷ []) ∙ rw (sound.within, in_range) refl);
        sendings = rw (kept.sent, kept.sendings) (all_past_more p.sendings.items _ _ _ later sound.sendings);
        all_sent = rw (kept.sent, kept.sendings) (last_later [] p.sendings.items p.sent.items _ _ later sound.sendings ∙ sound.all_sent);
      }
