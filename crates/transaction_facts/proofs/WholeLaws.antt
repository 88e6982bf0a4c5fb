-- Records of whole lines: what the log stores of a write, and what is read back of it.
use Rattle.std.proofs.Common.{◌≡◌, ℕ, zero, suc, ◌<◌, true, eqb, List, [], ◌∷◌, ◌++◌, append_assoc, refl, ap, ◌∙◌, inl, arith}
use Rattle.std.specs.Int.{bit_at}
use Rattle.std.proofs.lemmas.Bool.{eq-eqb}
use Rattle.nvm_model.specs.declared.line.Line.{Line}
use Rattle.store_model.specs.Layout.{pages}
use Rattle.store_model.specs.Log.{Change, names}
use Rattle.store_model.specs.Format.{word_in}
use Rattle.store_model.specs.Format.Format.{whole_lines}
use Rattle.store_model.specs.Put.{IsLine}
use Rattle.nvm_log.specs.Entries.{change_of, record_lines}
use Rattle.nvm_log.specs.declared.record.LineRecord.{LineRecord}
use Rattle.nvm_log.proofs.EntryLaws.{record_are_lines, record_passes, record_entries_of}
use Rattle.log_records.specs.Heads.{Headed, changes_of}
use Rattle.log_records.specs.Back.{IsLast}
use Rattle.log_records.specs.declared.back.BeforeImage.{BeforeImage}
use Rattle.tier_facts.proofs.PlaceLaws.{clash}
use Rattle.transaction_facts.specs.Books.{BookData, Writes}
use Rattle.transaction_facts.specs.Aborts.{GivesBack}

-- a mask of all words names each word of its line
pub whole_names : (c : Change) (w : ℕ) → c.mask ≡ 255 → w < 8 → names c c.page c.line w ≡ true
whole_names c w mask low = rw (eq-eqb c.page c.page refl, eq-eqb c.line c.line refl, mask) (bits w low)
  where
    bits : (w : ℕ) → w < 8 → eqb (bit_at 255 w) 1 ≡ true
    bits zero h = refl
    bits (suc zero) h = refl
    bits (suc (suc zero)) h = refl
    bits (suc (suc (suc zero))) h = refl
    bits (suc (suc (suc (suc zero)))) h = refl
    bits (suc (suc (suc (suc (suc zero))))) h = refl
    bits (suc (suc (suc (suc (suc (suc zero)))))) h = refl
    bits (suc (suc (suc (suc (suc (suc (suc zero))))))) h = refl
    bits (suc (suc (suc (suc (suc (suc (suc (suc w)))))))) h = absurd (omega arith)

-- A record of the old line and the new one is that of the write.
pub whole_writes : (b : BookData) (r : LineRecord) (old new : Line) → b.format ≡ whole_lines → r.page < pages b.tiers.sizes → r.line < 64
    → ((w : ℕ) → w < 8 → word_in r.before w ≡ word_in old w) → ((w : ℕ) → w < 8 → word_in r.after w ≡ word_in new w) → IsLine r.before → IsLine r.after
    → Writes b r.page r.line old new (change_of r) (record_lines r)
whole_writes b r old new format in_store in_page before after line_before line_after = record {
  in_store = in_store;
  in_page = in_page;
  page_is = refl;
  line_is = refl;
  before = λ w low named. before w low;
  after = λ w low named. after w low;
  rest = λ w low unnamed. clash (whole_names (change_of r) w refl low) unnamed;
  covers = λ w low. inl (whole_names (change_of r) w refl low);
  are_lines = record_are_lines r line_before line_after;
  passes = λ at. rw format (record_passes b.tiers.sizes r in_store in_page at);
  holds = rw format (record_entries_of r);
}

-- The before image of a record of a whole line gives it back, whatever the copy has.
pub whole_back : (b : BookData) (c : Change) → c.mask ≡ 255 → GivesBack b c c.before
whole_back b c mask = record { named = λ w low named. refl; rest = λ w low unnamed. clash (whole_names c w mask low) unnamed }

-- ---- what is read back

changes_of-append : (xs ys : List Headed) → changes_of (xs ++ ys) ≡ changes_of xs ++ changes_of ys
changes_of-append [] ys = refl
changes_of-append (x ∷ xs) ys = ap (λ (cs : List Change). x.change ∷ cs) (changes_of-append xs ys)

-- The record that was found is the last of those that are left, before those that were taken back.
pub found_more : (line_at : ℕ → Line) (first : ℕ) (left : List Headed) (taken all : List Change) (found : BeforeImage) → all ≡ changes_of left ++ taken → (last : IsLast line_at first left found)
    → all ≡ changes_of last.earlier ++ (last.change ∷ taken)
found_more line_at first left taken all found is last = is
    ∙ ap (λ (xs : List Headed). changes_of xs ++ taken) last.all
    ∙ ap (λ (cs : List Change). cs ++ taken) (changes_of-append last.earlier (record { head = found.head; change = last.change } ∷ []))
    ∙ append_assoc (changes_of last.earlier) (last.change ∷ []) taken
