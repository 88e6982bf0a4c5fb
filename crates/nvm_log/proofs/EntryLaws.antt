-- The lines of what is put into a log: they are lines, pass the checks, and are read as their entry.
use Rattle.std.proofs.Common.{◌≡◌, ℕ, zero, suc, ◌<◌, ◌||◌, false, [], ◌∷◌, length, refl, arith, get_or, Some, None, leb}
use Rattle.std.proofs.lemmas.Bool.{lt-leb, cond-false}
use Rattle.store_model.specs.Layout.{Sizes, pages}
use Rattle.store_model.specs.Format.{entries, zero_line, head_check, entry_check, log_check}
use Rattle.store_model.specs.Format.Format.{whole_lines}
use Rattle.store_model.specs.Put.{IsLine}
use Rattle.store_model.specs.Append.{head_line}
use Rattle.home_laws.proofs.CheckLaws.{entry_from, fault_from}
use Rattle.nvm_log.specs.Entries.{record_lines, record_entry, end_lines, end_entry}
use Rattle.nvm_log.specs.declared.record.LineRecord.{LineRecord}
use Rattle.nvm_log.specs.declared.record.EndKind.{EndKind}
use Rattle.nvm_log.specs.declared.record.EndKind.TheVariants.{Commit, Abort}

pub record_are_lines : (r : LineRecord) → IsLine r.before → IsLine r.after → (k : ℕ) → k < length (record_lines r) → IsLine (get_or (record_lines r) k zero_line)
record_are_lines r before after zero less = refl
record_are_lines r before after (suc zero) less = before
record_are_lines r before after (suc (suc zero)) less = after
record_are_lines r before after (suc (suc (suc k))) less = absurd (omega arith)

pub end_are_lines : (kind : EndKind) (k : ℕ) → k < length (end_lines kind) → IsLine (get_or (end_lines kind) k zero_line)
end_are_lines Commit zero less = refl
end_are_lines Abort zero less = refl
end_are_lines kind (suc k) less = absurd (omega arith)

pub record_passes : (g : Sizes) (r : LineRecord) → r.page < pages g → r.line < 64 → (at : ℕ) → log_check whole_lines g at 0 (record_lines r) ≡ None
record_passes g r page line at =
    let in_store : leb (pages g) r.page ≡ false = lt-leb (pages g) r.page page in
    let in_page : leb 64 r.line ≡ false = lt-leb 64 r.line line in
    let head : head_check whole_lines g (head_line 1 r.page r.line 0) ≡ None =
    cond-false (leb (pages g) r.page || (leb 64 r.line || false)) (Some 8) None (rw (in_store, in_page) refl) in
    fault_from (entry_check whole_lines g (head_line 1 r.page r.line 0) 2) at None (entry_from (head_check whole_lines g (head_line 1 r.page r.line 0)) false head refl) refl

pub end_passes : (g : Sizes) (kind : EndKind) (at : ℕ) → log_check whole_lines g at 0 (end_lines kind) ≡ None
end_passes g Commit at = refl
end_passes g Abort at = refl

pub record_entries_of : (r : LineRecord) → entries whole_lines 0 (record_lines r) ≡ record_entry r ∷ []
record_entries_of r = refl

pub end_entries : (kind : EndKind) → entries whole_lines 0 (end_lines kind) ≡ end_entry kind ∷ []
end_entries Commit = refl
end_entries Abort = refl
