-- The log is emptied, where every home is durable and has the current word, and that is the committed one.
use Rattle.std.proofs.Common.{◌≡◌, ℕ, ◌+◌, ◌-◌, ◌<◌, Bool, true, false, List, [], refl, sym, ap, ◌∙◌, subst, inl, arith, Option, Some}
use Rattle.nvm_model.specs.declared.line.Line.{Line}
use Rattle.devices.specs.State.{State, Image, Leaves, Amid, current, after_all}
use Rattle.store_model.specs.Layout.{Sizes, pages, entry_line, entry_word, frame_line}
use Rattle.store_model.specs.Log.{Change, is_logged}
use Rattle.store_model.specs.Format.{word_in}
use Rattle.store_model.specs.Recovered.{Super, super_of, log_lines, log_line, entry_at, frame_of, home, from, log_of}
use Rattle.store_model.specs.InOrder.{HomeStands}
use Rattle.store_model.specs.Seen.{Moved}
use Rattle.store_model.specs.StoreFacts.{Gate, IsWord, StoreFacts}
use Rattle.nvm_model.proofs.WordLaws.{single_version}
use Rattle.home_laws.proofs.GateLaws.{moved_current}
use Rattle.log_laws.proofs.StartLaws.{start_calls, start_facts, start_done, moved_start, from_none}
use Rattle.device_calls.specs.Leads.{Steps}
use Rattle.tier_facts.specs.Data.{Data, or_home, home_of}
use Rattle.tier_facts.specs.Facts.{Aim, Held, Facts, Settled, AreClean, aim_sizes, keeping}
use Rattle.home_laws.proofs.SeenLaws.{facts_super, facts_entry}
use Rattle.tier_facts.proofs.PlaceLaws.{place_placed, clash}
use Rattle.tier_facts.proofs.CopyLaws.{facts_loose}
use Rattle.transaction_facts.specs.Records.{Records, emptied}
use Rattle.transaction_facts.proofs.RecordLaws.{log_after}

-- in each image a page stands where the tiers have it
pub placed_in : (t : Data) (aim : Aim) (s : State) → Facts t aim s → (j : Image) → Leaves s j → (p : ℕ) → frame_of (entry_at j) ((aim_sizes aim).frames + 1) p ≡ t.frame p
placed_in t aim s it j left p = place_placed (aim_sizes aim) t j (record {
  sizes = ap (λ (x : Super). x.sizes) (facts_super (keeping t aim) s it.facts refl j left ∙ it.super_words);
  entries = λ k h. facts_entry (keeping t aim) s it.facts refl j left k h ∙ it.entries_same k h;
  framed = it.framed;
  owner = it.owner;
  frame = it.frame;
}) p

module _ (t : Data) (clean : AreClean t) (aim : Aim) (s : State) (settled : Settled t aim s)
    (closed : (p l w : ℕ) → IsWord (aim_sizes aim) p l w → aim.words p l w ≡ aim.kept p l w) where
  abbrev it : Facts t aim s
  it = settled.facts

  abbrev none : ℕ → ℕ → Bool
  none p l = false

  -- no line is dirty, so none need be loose
  bare_facts : Facts t (record aim { loose = none }) s
  bare_facts = facts_loose t aim s none
      (λ p l hp hl dirty. clash dirty (clean.lines p l (subst (λ (g : Sizes). p < pages g) (sym it.sizes_same) hp) hl))
      (λ p l w word is. absurd (let no : ⊥ = cc in no)) it

  stand : (j : Image) → Leaves s j → (p l w : ℕ) → IsWord (aim_sizes aim) p l w → is_logged (log_of aim.format j) p l w ≡ true
      → HomeStands (aim_sizes aim) (frame_of (entry_at j) ((aim_sizes aim).frames + 1) p) s p l w × (home j p l w ≡ aim.words p l w) × (home j p l w ≡ aim.kept p l w)
  stand j left p l w word logged = (
    record {
      in_frame = λ k found v version.
          let at : t.frame p ≡ Some k = sym (placed_in t aim s it j left p) ∙ found in
          single_version (s.nvm (frame_line (aim_sizes aim) k l) w) v (settled.durable k p l w (it.owner p k at) word.line word.word) version;
      in_block = λ at. it.settled p word.page (sym (placed_in t aim s it j left p) ∙ at);
    },
    settled.homes j left p l w word,
    settled.homes j left p l w word ∙ closed p l w word,
  )

  copies : (j : Image) → Leaves s j → (p l w : ℕ) (line : Line) → IsWord (aim_sizes aim) p l w → t.copy p l ≡ Some line → word_in line w ≡ home j p l w
  copies j left p l w line word at = sym (ap (λ (c : Option Line). or_home c w (home_of (aim_sizes aim) t (current s) p l w)) at) ∙ it.words p l w word ∙ sym (settled.homes j left p l w word)

  abbrev next : State
  next = after_all (start_calls aim.super.tail) s

  moved : Moved Gate.start aim.super.tail (current next) (current s)
  moved = moved_current Gate.start aim.super.tail s

  super_is : super_of (current next) ≡ record aim.super { start = aim.super.tail }
  super_is = moved_start (current next) (current s) aim.super.tail (λ l w named h. moved.words l w h) moved.at_gate ∙ ap (λ (x : Super). record x { start = aim.super.tail }) it.super_words

  empty_log : log_lines (current next) ≡ []
  empty_log = ap (λ (x : Super). from (log_line x.sizes x.drained (current next)) x.start (x.tail - x.start)) super_is ∙ from_none _ aim.super.tail (aim.super.tail - aim.super.tail) (omega arith)

  by_tail : (P : ℕ → Type 0) → P (super_of (current s)).tail → P aim.super.tail
  by_tail P = subst (λ (x : Super). P x.tail) it.super_words

  -- The log is emptied by one gate.
  pub empty_steps : Steps Held (λ (a : Aim). Facts t (emptied none a)) (start_calls aim.super.tail) aim s
  empty_steps = record {
    facts = log_after t (record aim { loose = none }) s bare_facts (start_calls aim.super.tail) (omega arith, (tt, (tt, tt)))
        aim.super.tail aim.super.drained aim.super.tail [] [] [] aim.kept super_is empty_log
        (λ k h. moved.words (entry_line k) (entry_word k) (inl (λ at. omega arith)))
        (subst (λ (cs : List Change). StoreFacts (record (keeping t aim) { pending = cs }) next) settled.hard.none
        (by_tail (λ n. StoreFacts (keeping t aim) (after_all (start_calls n) s)) (start_done (keeping t aim) s it.facts refl settled.hard.none stand copies)))
        (λ p l w word is. absurd (let no : ⊥ = cc in no))
        (λ k w less hw. absurd (omega arith));
    moments = λ mid amid. record {
      keeps = _;
      format_is = refl;
      sizes = refl;
      committed = refl;
      facts = start_facts (keeping t aim) s it.facts refl settled.hard.none stand copies mid
          (subst (λ (x : Super). Amid s (start_calls x.tail) mid) (sym it.super_words) amid);
    };
  }

-- an empty log names nothing
pub empty_records : (aim : Aim) (loose : ℕ → ℕ → Bool) → Records aim → Records (emptied loose aim)
empty_records aim loose it = record {
  waiting = record {
    room = (let room = it.waiting.room in omega (arith, room));
    are_lines = λ k less. absurd (omega arith);
    passes = λ at. refl;
    holds = refl;
    right = λ p l w word h homes. absurd (let no : ⊥ = cc in no);
  };
  ends = λ p l w word h homes. absurd (let no : ⊥ = cc in no);
}
