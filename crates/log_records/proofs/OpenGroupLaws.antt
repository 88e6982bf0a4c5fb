-- The open group over the calls of a log: an append gives it one record more, a harden and a drain leave it, an end leaves none.
use Rattle.std.proofs.Common.{◌≡◌, ℕ, zero, suc, ◌+◌, ◌-◌, ◌<◌, ◌≤◌, List, [], ◌∷◌, ◌++◌, length, get_or, drop, append-nil, append_assoc, refl, sym, ap, ◌∙◌, subst, inl, inr, arith}
use Rattle.std.proofs.lemmas.Bool.{cases_lt}
use Rattle.nvm_model.specs.declared.line.Line.{Line}
use Rattle.ssd_model.specs.Block.{Block}
use Rattle.devices.specs.State.{State, current, fenced, after_all}
use Rattle.store_model.specs.Layout.{Sizes, pages, ring_line, ring_lines}
use Rattle.store_model.specs.Log.{Log as Groups, Change, Item, Entry, no_log, grouped, extended, changes}
use Rattle.store_model.specs.Log.Item.{write}
use Rattle.store_model.specs.Log.Entry.{item}
use Rattle.store_model.specs.Format.{Format, IsWhole, entries, zero_line}
use Rattle.store_model.specs.Format.Format.{whole_lines}
use Rattle.store_model.specs.Recovered.{Super, super_of, log_line, log_lines, log_of, from}
use Rattle.store_model.specs.Put.{put_calls, IsLine}
use Rattle.store_model.specs.Pending.{record_entries, harden_calls, end_calls}
use Rattle.store_model.specs.StoreFacts.{Gate}
use Rattle.store_model.specs.Seen.{Moved}
use Rattle.devices.proofs.GrowthLaws.{after_all_append}
use Rattle.home_laws.proofs.GateLaws.{moved_current}
use Rattle.home_laws.proofs.LayoutLaws.{ring_apart}
use Rattle.home_laws.proofs.LogLaws.{changes-append, grouped-append}
use Rattle.home_laws.proofs.PutLaws.{put_other, put_made, log_line-same, log_line-in_nvm}
use Rattle.home_laws.proofs.RecoveredLaws.{line_of-same, from-same, from-append, entries-append}
use Rattle.nvm_log.specs.Offsets.{Offsets, appended, hardened}
use Rattle.nvm_log.specs.Standing.{IsLogOf}
use Rattle.nvm_log.specs.Entries.{change_of, record_lines, end_lines, end_entry}
use Rattle.nvm_log.specs.declared.record.LineRecord.{LineRecord}
use Rattle.nvm_log.specs.declared.record.EndKind.{EndKind}
use Rattle.nvm_log.specs.declared.record.EndKind.TheVariants.{Commit, Abort}
use Rattle.nvm_log.proofs.ClauseLaws.{whole-append}
use Rattle.nvm_log.proofs.EntryLaws.{record_are_lines, end_are_lines, end_entries}
use Rattle.log_records.specs.Heads.{Headed, StandsAt, HeadsOf, behind, changes_of}
use Rattle.log_records.specs.OpenGroup.{lines_in, lines_before, OpenGroup}
use Rattle.log_records.proofs.HeadLaws.{Read, of_store_more, heads_order, heads_more, heads_same, heads_read}

-- the records of a log with records last
grouped_records : (log : Groups) (cs : List Change) → changes (grouped log (record_entries cs)).open_items ≡ changes log.open_items ++ cs
grouped_records log [] = sym (append-nil (changes log.open_items))
grouped_records log (c ∷ cs) = grouped_records (extended log (item (write c))) cs ∙ ap (λ xs. xs ++ cs) (changes-append log.open_items c) ∙ append_assoc (changes log.open_items) (c ∷ []) cs

-- the lines of the log, by where it stands in memory
pub lines_of_log : (g : Sizes) (at : Offsets) (s : State) → IsLogOf g at s → log_lines (current s) ≡ from (lines_in g at s) at.start (at.tail - at.start)
lines_of_log g at s is = by_parts (super_of (current s)) is.sizes is.start is.drained is.tail
  where
    by_parts : (x : Super) → x.sizes ≡ g → x.start ≡ at.start → x.drained ≡ at.drained → x.tail ≡ at.tail
        → from (log_line x.sizes x.drained (current s)) x.start (x.tail - x.start) ≡ from (lines_in g at s) at.start (at.tail - at.start)
    by_parts x sizes start drained tail = rw (sizes, start, drained, tail) refl

-- The records of the open group are those of the log that loads give, where nothing is pending.
pub group_changes : (format : Format) (g : Sizes) (at : Offsets) (first : ℕ) (them : List Headed) (s : State) → OpenGroup format g at first them s → IsLogOf g at s → at.written ≡ at.tail
    → changes (log_of format (current s)).open_items ≡ changes_of them
group_changes format g at first them s it is none =
    let order : first ≤ at.written = heads_order format (lines_in g at s) first them at.written it.stand in
    let begins : at.start ≤ first = it.begins in
    let read : Read format (lines_in g at s) first them (at.tail - first) = heads_read format (lines_in g at s) first them (at.tail - first) (subst (HeadsOf format (lines_in g at s) first them) (omega arith) it.stand) in
    let front : List Line = lines_before g at first s in
    let lines : log_lines (current s) ≡ lines_before g at first s ++ from (lines_in g at s) first (at.tail - first) =
    lines_of_log g at s is
    ∙ ap (from (lines_in g at s) at.start) (omega arith)
    ∙ from-append (lines_in g at s) at.start (first - at.start) (at.tail - first)
    ∙ ap (λ n. lines_before g at first s ++ from (lines_in g at s) n (at.tail - first)) (omega arith) in
    ap (λ (xs : List Line). changes (grouped no_log (entries format 0 xs)).open_items) lines
    ∙ ap (λ (es : List Entry). changes (grouped no_log es).open_items) (entries-append format 0 (lines_before g at first s) (from (lines_in g at s) first (at.tail - first)) it.whole)
    ∙ ap (λ (es : List Entry). changes (grouped no_log (entries format 0 (lines_before g at first s) ++ es)).open_items) read.entries_are
    ∙ ap (λ (x : Groups). changes x.open_items) (grouped-append no_log (entries format 0 (lines_before g at first s)) (record_entries (changes_of them)))
    ∙ grouped_records (grouped no_log (entries format 0 (lines_before g at first s))) (changes_of them)
    ∙ ap (λ (items : List Item). changes items ++ changes_of them) it.ended

-- it stays where the lines do
pub group_same : (format : Format) (g : Sizes) (at to : Offsets) (first : ℕ) (them : List Headed) (s t : State) → to.start ≡ at.start → to.written ≡ at.written
    → ((o : ℕ) → at.start ≤ o → o < at.written → lines_in g to t o ≡ lines_in g at s o) → OpenGroup format g at first them s → OpenGroup format g to first them t
group_same format g at to first them s t start written same it =
    let order : first ≤ at.written = heads_order format (lines_in g at s) first them at.written it.stand in
    let begins : at.start ≤ first = it.begins in
    let front : lines_before g to first t ≡ lines_before g at first s =
    ap (λ n. from (lines_in g to t) n (first - n)) start ∙ from-same (lines_in g to t) (lines_in g at s) at.start (first - at.start) (λ o above below. same o above (omega arith)) in
    record {
      begins = omega arith;
      whole = subst (IsWhole format 0) (sym front) it.whole;
      ended = ap (λ (xs : List Line). (grouped no_log (entries format 0 xs)).open_items) front ∙ it.ended;
      stand = subst (HeadsOf format (lines_in g to t) first them) (sym written) (heads_same format (lines_in g at s) (lines_in g to t) first them at.written (λ o above below. same o (omega arith) below) it.stand);
      of_store = it.of_store;
    }

-- lines that are put leave the blocks as they were
put_blocks : (g : Sizes) (ys : List Line) (u : ℕ) (s : State) (n : ℕ) → (after_all (put_calls g u ys) s).ssd n ≡ s.ssd n
put_blocks g [] u s n = refl
put_blocks g (y ∷ ys) u s n = put_blocks g ys (u + 1) _ n

-- Lines that are put behind all that is stored.
module _ (g : Sizes) (at : Offsets) (ys : List Line) (s : State) (drained : at.drained ≤ at.written) (room : at.written + length ys ≤ at.drained + ring_lines g) where
  abbrev pub with_more : State
  with_more = after_all (put_calls g at.written ys) s

  -- those before them stay
  pub put_before : (o : ℕ) → o < at.written → lines_in g at with_more o ≡ lines_in g at s o
  put_before o below = log_line-same g at.drained (current with_more) (current s) o
      (λ above w hw. ap (λ x. x.newest) (put_other g ys at.written s (ring_line g o) w
      (λ free. let clash : o ≡ free.0 = ring_apart g at.drained o free.0 above (omega arith) (omega arith) (omega arith) free.3 in omega arith)))
      (λ n. ap (λ (b : Block). b.bytes) (put_blocks g ys at.written s n))

  -- and they are read
  pub put_read : (k : ℕ) → k < length ys → IsLine (get_or ys k zero_line) → lines_in g at with_more (at.written + k) ≡ get_or ys k zero_line
  put_read k less is = log_line-in_nvm g at.drained (current with_more) (at.written + k) (omega arith)
      ∙ line_of-same _ _ (λ w hw. (put_made g at.drained ys at.written s k (at.written + k) w refl less drained room hw).newest) ∙ is

-- An append: one record more stands, with its head where `written` was.
pub group_more : (g : Sizes) (at : Offsets) (first : ℕ) (them : List Headed) (s : State) (r : LineRecord) → OpenGroup whole_lines g at first them s → at.drained ≤ at.written
    → at.written + 3 ≤ at.drained + ring_lines g → r.page < pages g → r.line < 64 → IsLine r.before → IsLine r.after
    → OpenGroup whole_lines g (appended 3 at) first (them ++ record { head = at.written; change = change_of r } ∷ []) (after_all (put_calls g at.written (record_lines r)) s)
group_more g at first them s r it drained room page line before after =
    let t : State = after_all (put_calls g at.written (record_lines r)) s in
    let lines : (k : ℕ) → k < 3 → lines_in g at t (at.written + k) ≡ get_or (record_lines r) k zero_line =
    (λ k less. put_read g at (record_lines r) s drained room k less (record_are_lines r before after k less)) in
    let kept : OpenGroup whole_lines g at first them t = group_same whole_lines g at at first them s t refl refl (λ o above below. put_before g at (record_lines r) s drained room o below) it in
    let head : lines_in g at t at.written ≡ get_or (record_lines r) 0 zero_line = ap (lines_in g at t) (omega arith) ∙ lines 0 (omega arith) in
    let second : lines_in g at t (at.written + 1) ≡ r.before = lines 1 (omega arith) in
    let third : lines_in g at t (at.written + 1 + 1) ≡ r.after = ap (lines_in g at t) (omega arith) ∙ lines 2 (omega arith) in
    record {
      begins = kept.begins;
      whole = kept.whole;
      ended = kept.ended;
      stand = subst (HeadsOf whole_lines (lines_in g at t) first (them ++ record { head = at.written; change = change_of r } ∷ [])) (ends (lines_in g at t) head)
          (heads_more whole_lines (lines_in g at t) first them at.written (record { head = at.written; change = change_of r }) kept.stand refl (stands (lines_in g at t) head second third));
      of_store = of_store_more g them (record { head = at.written; change = change_of r }) kept.of_store page line;
    }
  where
    ends : (f : ℕ → Line) → f at.written ≡ get_or (record_lines r) 0 zero_line → behind whole_lines f at.written ≡ at.written + 3
    ends f head = rw head (omega arith)

    stands : (f : ℕ → Line) → f at.written ≡ get_or (record_lines r) 0 zero_line → f (at.written + 1) ≡ r.before → f (at.written + 1 + 1) ≡ r.after
        → StandsAt whole_lines f (record { head = at.written; change = change_of r })
    stands f head second third = record { kind = rw head refl; gives = rw (head, second, third) refl }

-- A harden leaves it: the gate is no line of the ring.
pub group_hardened : (format : Format) (g : Sizes) (at : Offsets) (first : ℕ) (them : List Headed) (s : State) (tail : ℕ) → OpenGroup format g at first them s
    → OpenGroup format g (hardened at) first them (after_all (harden_calls tail) s)
group_hardened format g at first them s tail it =
    let moved : Moved Gate.tail tail (current (after_all (harden_calls tail) s)) (current (fenced s)) = moved_current Gate.tail tail (fenced s) in
    group_same format g at (hardened at) first them s (after_all (harden_calls tail) s) refl refl
    (λ o above below. log_line-same g at.drained (current (after_all (harden_calls tail) s)) (current s) o (λ over w hw. moved.words (ring_line g o) w (inl (λ three. omega arith))) moved.blocks) it

-- all that is stored
pub group_lines : (format : Format) (g : Sizes) (at : Offsets) (first : ℕ) (them : List Headed) (s : State) → OpenGroup format g at first them s
    → IsWhole format 0 (lines_before g at at.written s)
group_lines format g at first them s it =
    let order : first ≤ at.written = heads_order format (lines_in g at s) first them at.written it.stand in
    let begins : at.start ≤ first = it.begins in
    let read : Read format (lines_in g at s) first them (at.written - first) = heads_read format (lines_in g at s) first them (at.written - first) (subst (HeadsOf format (lines_in g at s) first them) (omega arith) it.stand) in
    let parts : lines_before g at at.written s ≡ lines_before g at first s ++ from (lines_in g at s) first (at.written - first) =
    ap (from (lines_in g at s) at.start) (omega arith) ∙ from-append (lines_in g at s) at.start (first - at.start) (at.written - first)
    ∙ ap (λ n. lines_before g at first s ++ from (lines_in g at s) n (at.written - first)) (omega arith) in
    subst (IsWhole format 0) (sym parts) (whole-append format 0 (lines_before g at first s) (from (lines_in g at s) first (at.written - first)) it.whole read.whole)

-- nothing is open behind the end of a group
end_closes : (kind : EndKind) (log : Groups) → (extended log (end_entry kind)).open_items ≡ []
end_closes Commit log = refl
end_closes Abort log = refl

end_is_whole : (kind : EndKind) → IsWhole whole_lines 0 (end_lines kind)
end_is_whole Commit = refl
end_is_whole Abort = refl

-- An end: the next group begins behind it, with no record.
pub group_ended : (g : Sizes) (at : Offsets) (first : ℕ) (them : List Headed) (s : State) (kind : EndKind) → OpenGroup whole_lines g at first them s → at.drained ≤ at.written
    → at.written + 1 ≤ at.drained + ring_lines g → OpenGroup whole_lines g (hardened (appended 1 at)) (at.written + 1) [] (after_all (end_calls g at.written (end_lines kind)) s)
group_ended g at first them s kind it drained room =
    let t : State = after_all (put_calls g at.written (end_lines kind)) s in
    let order : first ≤ at.written = heads_order whole_lines (lines_in g at s) first them at.written it.stand in
    let begins : at.start ≤ first = it.begins in
    let one : length (end_lines kind) ≡ 1 = refl in
    let lines : lines_before g (appended 1 at) (at.written + 1) t ≡ lines_before g at at.written s ++ end_lines kind =
    ap (from (lines_in g at t) at.start) (omega arith) ∙ from-append (lines_in g at t) at.start (at.written - at.start) 1
    ∙ ap (λ n. from (lines_in g at t) at.start (at.written - at.start) ++ lines_in g at t n ∷ []) (omega arith)
    ∙ ap (λ line. from (lines_in g at t) at.start (at.written - at.start) ++ line ∷ []) (put_read g at (end_lines kind) s drained room 0 (omega arith) (end_are_lines kind 0 (omega arith)))
    ∙ ap (λ xs. xs ++ end_lines kind) (from-same (lines_in g at t) (lines_in g at s) at.start (at.written - at.start) (λ o above below. put_before g at (end_lines kind) s drained room o (omega arith))) in
    let whole : IsWhole whole_lines 0 (lines_before g at at.written s) = group_lines whole_lines g at first them s it in
    subst (OpenGroup whole_lines g (hardened (appended 1 at)) (at.written + 1) []) (sym (after_all_append (put_calls g at.written (end_lines kind)) (harden_calls (at.written + 1)) s))
    (group_hardened whole_lines g (appended 1 at) (at.written + 1) [] t (at.written + 1) (record {
      begins = omega arith;
      whole = subst (IsWhole whole_lines 0) (sym lines) (whole-append whole_lines 0 (lines_before g at at.written s) (end_lines kind) whole (end_is_whole kind));
      ended = ap (λ (xs : List Line). (grouped no_log (entries whole_lines 0 xs)).open_items) lines
          ∙ ap (λ (es : List Entry). (grouped no_log es).open_items) (entries-append whole_lines 0 (lines_before g at at.written s) (end_lines kind) whole)
          ∙ ap (λ (es : List Entry). (grouped no_log (entries whole_lines 0 (lines_before g at at.written s) ++ es)).open_items) (end_entries kind)
          ∙ ap (λ (x : Groups). x.open_items) (grouped-append no_log (entries whole_lines 0 (lines_before g at at.written s)) (end_entry kind ∷ []))
          ∙ end_closes kind (grouped no_log (entries whole_lines 0 (lines_before g at at.written s)));
      stand = refl;
      of_store = tt;
    }))

-- An empty log has no record: so it is opened, and so a new start leaves it.
pub group_none : (format : Format) (g : Sizes) (at : Offsets) (s : State) → at.start ≡ at.written → OpenGroup format g at at.written [] s
group_none format g at s none =
    let nothing : at.written - at.start ≡ 0 = omega arith in
    let no_lines : lines_before g at at.written s ≡ [] = ap (from (lines_in g at s) at.start) nothing in
    record {
      begins = omega arith;
      whole = subst (IsWhole format 0) (sym no_lines) refl;
      ended = ap (λ (xs : List Line). (grouped no_log (entries format 0 xs)).open_items) no_lines;
      stand = refl;
      of_store = tt;
    }

-- places of equal lists
from_each : (f g : ℕ → Line) (at n : ℕ) → from f at n ≡ from g at n → (o : ℕ) → at ≤ o → o < at + n → f o ≡ g o
from_each f g at zero same o above below = absurd (omega arith)
from_each f g at (suc n) same o above below = elim (cases_lt at o) [
  | inl later ↦ from_each f g (at + 1) n (ap (λ (xs : List Line). drop 1 xs) same) o (omega arith) (omega arith)
  | inr here ↦ (let is : at ≡ o = omega arith in subst (λ n. f n ≡ g n) is (ap (λ (xs : List Line). get_or xs 0 zero_line) same))
]

-- A drain with nothing pending leaves it, as it leaves the lines of the log.
pub group_drained : (format : Format) (g : Sizes) (at to : Offsets) (first : ℕ) (them : List Headed) (s t : State) → OpenGroup format g at first them s → IsLogOf g at s → IsLogOf g to t
    → to.start ≡ at.start → to.tail ≡ at.tail → at.written ≡ at.tail → to.written ≡ to.tail → log_lines (current t) ≡ log_lines (current s) → OpenGroup format g to first them t
group_drained format g at to first them s t it is is_then start tail none none_then lines =
    group_same format g at to first them s t start (omega arith)
    (λ o above below. from_each (lines_in g to t) (lines_in g at s) at.start (at.tail - at.start)
    (ap (λ n. from (lines_in g to t) n (at.tail - n)) (sym start) ∙ ap (λ n. from (lines_in g to t) to.start (n - to.start)) (sym tail)
    ∙ sym (lines_of_log g to t is_then) ∙ lines ∙ lines_of_log g at s is) o above (omega arith)) it
