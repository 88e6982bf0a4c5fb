-- Each kind of step keeps all that a store keeps between its calls: a write, a harden, and both ends.
use Rattle.std.proofs.Common.{◌≡◌, ℕ, ◌+◌, ◌<◌, ◌≤◌, List, [], ◌++◌, length, get_or, refl, sym, subst, inl, arith, None}
use Rattle.nvm_model.specs.declared.line.Line.{Line}
use Rattle.devices.specs.State.{State, current, fenced, after_all}
use Rattle.devices.specs.Growth.{no_write}
use Rattle.store_model.specs.Layout.{ring_lines, entry_line, entry_word}
use Rattle.store_model.specs.Log.{Change, Entry}
use Rattle.store_model.specs.Log.Item.{write}
use Rattle.store_model.specs.Log.Entry.{item, commit, abort}
use Rattle.store_model.specs.Format.{log_check, zero_line}
use Rattle.store_model.specs.Recovered.{super_of}
use Rattle.store_model.specs.StoreFacts.{Gate, Bookkeeping, IsWord, StoreFacts}
use Rattle.store_model.specs.Put.{put_calls, IsLine}
use Rattle.store_model.specs.Pending.{PendingStands, harden_calls, end_calls, IsBehind, CanPutEntry, IsConstant, none_pending}
use Rattle.store_model.specs.Copies.{RecordsWrite, after_write}
use Rattle.store_model.specs.Shown.{ShowsCurrent, HomesFlushed}
use Rattle.store_model.specs.Kept.{Kept, KeptShown, KeptAlone}
use Rattle.devices.proofs.GrowthLaws.{after_all_append}
use Rattle.home_laws.proofs.PutLaws.{put_stores}
use Rattle.home_laws.proofs.GateLaws.{gate_others}
use Rattle.log_laws.proofs.BehindLaws.{lines_within, put_quiet}
use Rattle.log_laws.proofs.PendingFacts.{nothing_stands, nothing_pending, harden_done, commit_pending_done, abort_pending_done}
use Rattle.log_laws.proofs.EndsFacts.{harden_ends, commit_ends, abort_ends}
use Rattle.kept_laws.proofs.WriteFacts.{write_done, write_stands, write_ends, write_shows}
use Rattle.home_laws.proofs.ShownLaws.{lengthened_shows}
use Rattle.log_laws.proofs.LengthenedFacts.{harden_lengthened, end_lengthened}
use Rattle.kept_laws.proofs.FlushedFacts.{quiet_flushed, gate_flushed}

-- lines that are stored behind the tail, a fence, and a new tail leave the homes flushed
pub put_flushed : (b : Bookkeeping) (s : State) (facts : StoreFacts b s) (still : b.changing ≡ None) (xs : List Line) (behind : IsBehind b s xs) (ys : List Line)
    (room : (super_of (current s)).tail + length xs + length ys ≤ (super_of (current s)).drained + ring_lines b.sizes)
    (are_lines : (k : ℕ) → k < length ys → IsLine (get_or ys k zero_line)) (passes : (at : ℕ) → log_check b.format b.sizes at 0 ys ≡ None)
    → HomesFlushed b s → HomesFlushed b (after_all (put_calls b.sizes ((super_of (current s)).tail + length xs) ys) s)
put_flushed b s facts still xs behind ys room are_lines passes = quiet_flushed b s facts (put_stores b.sizes ((super_of (current s)).tail + length xs) (length ys)) no_write
    (put_quiet b s facts still xs behind ys room are_lines passes) (put_calls b.sizes ((super_of (current s)).tail + length xs) ys)
    (lines_within b.sizes ((super_of (current s)).tail + length xs) (length ys) ((super_of (current s)).tail + length xs) ys (omega arith) (omega arith))

pub fence_flushed : (b : Bookkeeping) (s : State) → HomesFlushed b s → HomesFlushed b (fenced s)
fence_flushed b s flushed = record { frames = flushed.frames; blocks = flushed.blocks }

pub harden_flushed : (b : Bookkeeping) (s : State) (tail : ℕ) → HomesFlushed b s → HomesFlushed b (after_all (harden_calls tail) s)
harden_flushed b s tail flushed = gate_flushed b (fenced s) Gate.tail tail tt (λ k h. gate_others Gate.tail tail (fenced s) (entry_line k) (entry_word k) (inl (λ at. omega arith))) (fence_flushed b s flushed)

-- A write to a line that has a copy: its record is pending, and its line current.
pub write_kept : (b : Bookkeeping) (s : State) (lines : List Line) → Kept b s lines → (page line : ℕ) (old new : Line) (c : Change) → RecordsWrite b page line old new c
    → (ys : List Line) → CanPutEntry b s (length lines) ys (item (write c))
    → Kept (after_write b page line new c) (after_all (put_calls b.sizes ((super_of (current s)).tail + length lines) ys) s) (lines ++ ys)
write_kept b s lines kept page line old new c records ys can =
    let flushed : HomesFlushed b (after_all (put_calls b.sizes ((super_of (current s)).tail + length lines) ys) s) =
    put_flushed b s kept.facts kept.still lines kept.stands.behind ys can.room can.are_lines can.passes kept.flushed in
    record {
      facts = write_done b s kept.facts kept.still lines kept.stands kept.ends kept.shows page line old new c records ys can;
      still = kept.still;
      stands = write_stands b s kept.facts kept.still lines kept.stands kept.ends kept.shows page line old new c records ys can;
      ends = write_ends b s kept.facts kept.still lines kept.stands kept.ends kept.shows page line old new c records ys can;
      shows = write_shows b s kept.facts kept.still lines kept.stands kept.ends kept.shows page line old new c records ys can;
      flushed = record { frames = flushed.frames; blocks = flushed.blocks };
    }

-- A harden: nothing is pending.
pub harden_kept : (b : Bookkeeping) (s : State) (lines : List Line) → Kept b s lines → IsConstant b (super_of (current s)).tail ((super_of (current s)).tail + length lines)
    → KeptAlone (none_pending b) (after_all (harden_calls ((super_of (current s)).tail + length lines)) s)
harden_kept b s lines kept constant =
    let t : State = after_all (harden_calls ((super_of (current s)).tail + length lines)) s in
    let facts : StoreFacts (none_pending b) t = harden_done b s kept.facts kept.still lines kept.stands constant in
    let flushed : HomesFlushed b t = harden_flushed b s ((super_of (current s)).tail + length lines) kept.flushed in
    let shows : ShowsCurrent b t = lengthened_shows b s t _ lines kept.shows (harden_lengthened b s kept.facts kept.still lines kept.stands.behind) in
    record {
      shown = record {
        facts = facts;
        still = kept.still;
        alone = refl;
        shows = record { copies = shows.copies; homes = shows.homes };
        flushed = record { frames = flushed.frames; blocks = flushed.blocks };
      };
      ends = harden_ends b s kept.facts kept.still lines kept.stands kept.ends constant;
    }

-- an end: what it leaves flushed, and what loads give
module _ (b : Bookkeeping) (s : State) (facts : StoreFacts b s) (still : b.changing ≡ None) (lines : List Line) (stands : PendingStands b s lines) (e : Entry) (ys : List Line) (can : CanPutEntry b s (length lines) ys e) where
  abbrev ended : State
  ended = after_all (end_calls b.sizes ((super_of (current s)).tail + length lines) ys) s

  end_flushed : HomesFlushed b s → HomesFlushed b ended
  end_flushed flushed = subst (λ (t : State). HomesFlushed b t) (sym (after_all_append (put_calls b.sizes ((super_of (current s)).tail + length lines) ys) (harden_calls ((super_of (current s)).tail + length lines + length ys)) s))
      (harden_flushed b (after_all (put_calls b.sizes ((super_of (current s)).tail + length lines) ys) s) ((super_of (current s)).tail + length lines + length ys)
      (put_flushed b s facts still lines stands.behind ys can.room can.are_lines can.passes flushed))

  end_shows : ShowsCurrent b s → ShowsCurrent b ended
  end_shows shows = lengthened_shows b s ended _ (lines ++ ys) shows (end_lengthened b s facts still lines stands.behind ys can.room can.are_lines can.passes)

-- A commit: the current words are committed.
pub commit_kept : (b : Bookkeeping) (s : State) (lines : List Line) → Kept b s lines → (ys : List Line) → CanPutEntry b s (length lines) ys commit
    → KeptAlone (record b { committed = λ n. b.current; pending = [] }) (after_all (end_calls b.sizes ((super_of (current s)).tail + length lines) ys) s)
commit_kept b s lines kept ys can =
    let c : Bookkeeping = record b { committed = λ n. b.current; pending = [] } in
    let t : State = after_all (end_calls b.sizes ((super_of (current s)).tail + length lines) ys) s in
    let facts : StoreFacts c t = commit_pending_done b s kept.facts kept.still lines kept.stands commit ys can refl kept.ends in
    let flushed : HomesFlushed b t = end_flushed b s kept.facts kept.still lines kept.stands commit ys can kept.flushed in
    let shows : ShowsCurrent b t = end_shows b s kept.facts kept.still lines kept.stands commit ys can kept.shows in
    record {
      shown = record {
        facts = facts;
        still = kept.still;
        alone = refl;
        shows = record { copies = shows.copies; homes = shows.homes };
        flushed = record { frames = flushed.frames; blocks = flushed.blocks };
      };
      ends = commit_ends b s kept.facts kept.still lines kept.stands kept.ends ys can;
    }

-- An abort, where what was written is taken back: the current words are the committed ones.
pub abort_kept : (b : Bookkeeping) (s : State) → KeptShown b s → (ys : List Line) → CanPutEntry b s 0 ys abort
    → IsConstant b (super_of (current s)).tail ((super_of (current s)).tail + 0 + length ys)
    → ((p l w : ℕ) → IsWord b.sizes p l w → b.committed (super_of (current s)).tail p l w ≡ b.current p l w)
    → KeptAlone (none_pending b) (after_all (end_calls b.sizes ((super_of (current s)).tail + 0) ys) s)
abort_kept b s back ys can constant same =
    let t : State = after_all (end_calls b.sizes ((super_of (current s)).tail + 0) ys) s in
    let stands : PendingStands b s [] = nothing_stands b s back.facts back.still back.alone in
    let facts : StoreFacts (none_pending b) t = abort_pending_done b s back.facts back.still [] stands abort ys can refl constant in
    let flushed : HomesFlushed b t = end_flushed b s back.facts back.still [] stands abort ys can back.flushed in
    let shows : ShowsCurrent b t = end_shows b s back.facts back.still [] stands abort ys can back.shows in
    record {
      shown = record {
        facts = facts;
        still = back.still;
        alone = refl;
        shows = record { copies = shows.copies; homes = shows.homes };
        flushed = record { frames = flushed.frames; blocks = flushed.blocks };
      };
      ends = abort_ends b s back.facts back.still [] stands ys can constant same;
    }

-- Where no line stands behind the tail nothing is pending: a harden then needs no call.
pub kept_alone : (b : Bookkeeping) (s : State) → Kept b s [] → KeptAlone b s
kept_alone b s kept = record {
  shown = record { facts = kept.facts; still = kept.still; alone = nothing_pending b s kept.stands; shows = kept.shows; flushed = kept.flushed };
  ends = kept.ends;
}

pub alone_kept : (b : Bookkeeping) (s : State) → KeptAlone b s → Kept b s []
alone_kept b s old = record {
  facts = old.shown.facts;
  still = old.shown.still;
  stands = nothing_stands b s (old.shown.facts) (old.shown.still) (old.shown.alone);
  ends = old.ends;
  shows = old.shown.shows;
  flushed = old.shown.flushed;
}
