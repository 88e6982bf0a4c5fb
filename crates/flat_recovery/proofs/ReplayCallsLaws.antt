-- The calls of a replay, record by record and group by group, and that they leave the log.
use Rattle.std.proofs.Common.{◌≡◌, ℕ, ◌<◌, ◌≤◌, Bool, true, false, cond, List, [], ◌∷◌, ◌++◌, refl, sym, ap, ◌∙◌, arith, append_assoc, append-nil}
use mathlib.Core.Path.{fun_ext}
use Rattle.nvm_model.specs.declared.line.Line.{Line}
use Rattle.nvm_model.specs.Word.{Word}
use Rattle.devices.specs.State.{State, Call, after, after_all, current, line_stored}
use Rattle.devices.specs.State.Call.{store_line}
use Rattle.devices.proofs.StateLaws.{line_stored_other}
use Rattle.flat_store_meaning.specs.Layout.{Sizes, ring_line, frame_line, frames_start}
use Rattle.flat_store_meaning.specs.Log.{Change, Group, Entry, Log, changes, extended, grouped}
use Rattle.flat_store_meaning.specs.Log.Entry.{item, commit, abort}
use Rattle.flat_store_meaning.proofs.PutLaws.{log_line-same}
use Rattle.flat_recovery.specs.Calls.{redo_calls, undo_calls, ending_calls, group_calls, groups_calls, replay_calls}
use Rattle.flat_recovery.specs.Reading.{lines_at}

pub redo_calls-append : (g : Sizes) (xs ys : List Change) → redo_calls g (xs ++ ys) ≡ redo_calls g xs ++ redo_calls g ys
redo_calls-append g [] ys = refl
redo_calls-append g (x ∷ xs) ys = ap (λ (cs : List Call). store_line (frame_line g x.page x.line) x.after ∷ cs) (redo_calls-append g xs ys)

-- those behind are taken back first
pub undo_calls-append : (g : Sizes) (xs ys : List Change) → undo_calls g (xs ++ ys) ≡ undo_calls g ys ++ undo_calls g xs
undo_calls-append g [] ys = sym (append-nil (undo_calls g ys))
undo_calls-append g (x ∷ xs) ys =
    ap (λ (cs : List Call). cs ++ store_line (frame_line g x.page x.line) x.before ∷ []) (undo_calls-append g xs ys)
    ∙ append_assoc (undo_calls g ys) (undo_calls g xs) (store_line (frame_line g x.page x.line) x.before ∷ [])

groups_calls-append : (g : Sizes) (xs : List Group) (x : Group) → groups_calls g (xs ++ x ∷ []) ≡ groups_calls g xs ++ group_calls g x
groups_calls-append g [] x = append-nil (group_calls g x)
groups_calls-append g (y ∷ ys) x = ap (λ (cs : List Call). group_calls g y ++ cs) (groups_calls-append g ys x) ∙ sym (append_assoc (group_calls g y) (groups_calls g ys) (group_calls g x))

-- the calls of the groups with one entry more
pub extended_calls : (g : Sizes) (log : Log) (e : Entry) → groups_calls g (extended log e).closed ≡ groups_calls g log.closed ++ ending_calls g (changes log.open_items) e
extended_calls g log (item x) = sym (append-nil (groups_calls g log.closed))
extended_calls g log commit = groups_calls-append g log.closed (record { items = log.open_items; committed = true })
extended_calls g log abort = groups_calls-append g log.closed (record { items = log.open_items; committed = false })

-- the calls of a log begin with those of its first groups
pub record BeginsWith (whole part : List Call) : Type 0 where
  pub rest : List Call
  pub is : whole ≡ part ++ rest

pub grouped_begins : (g : Sizes) (log : Log) (es : List Entry) → BeginsWith (replay_calls g (grouped log es)) (groups_calls g log.closed)
grouped_begins g log [] = record { rest = undo_calls g (changes log.open_items); is = refl }
grouped_begins g log (e ∷ es) =
    let more : BeginsWith (replay_calls g (grouped (extended log e) es)) (groups_calls g (extended log e).closed) = grouped_begins g (extended log e) es in
    record {
      rest = ending_calls g (changes log.open_items) e ++ more.rest;
      is = more.is ∙ ap (λ (cs : List Call). cs ++ more.rest) (extended_calls g log e) ∙ append_assoc (groups_calls g log.closed) (ending_calls g (changes log.open_items) e) more.rest;
    }

-- and with those of an entry more
pub ending_begins : (g : Sizes) (log : Log) (e : Entry) (es : List Entry) → BeginsWith (replay_calls g (grouped log (e ∷ es))) (groups_calls g log.closed ++ ending_calls g (changes log.open_items) e)
ending_begins g log e es =
    let more : BeginsWith (replay_calls g (grouped (extended log e) es)) (groups_calls g (extended log e).closed) = grouped_begins g (extended log e) es in
    record { rest = more.rest; is = more.is ∙ ap (λ (cs : List Call). cs ++ more.rest) (extended_calls g log e) }

-- stores of lines of frames
pub record IsFrameStore (g : Sizes) (call : Call) : Type 0 where
  pub line : ℕ
  pub value : Line
  pub is : call ≡ store_line line value
  pub in_frames : frames_start g ≤ line

abbrev pub AreFrameStores : Sizes → List Call → Type 0
AreFrameStores g [] = Unit {0}
AreFrameStores g (call ∷ calls) = IsFrameStore g call × AreFrameStores g calls

pub frames_append : (g : Sizes) (xs ys : List Call) → AreFrameStores g xs → AreFrameStores g ys → AreFrameStores g (xs ++ ys)
frames_append g [] ys a b = b
frames_append g (x ∷ xs) ys a b = (a.0, frames_append g xs ys a.1 b)

pub one_frame : (g : Sizes) (page l : ℕ) (value : Line) → IsFrameStore g (store_line (frame_line g page l) value)
one_frame g page l value = record { line = frame_line g page l; value = value; is = refl; in_frames = omega arith }

pub redo_frames : (g : Sizes) (cs : List Change) → AreFrameStores g (redo_calls g cs)
redo_frames g [] = tt
redo_frames g (c ∷ cs) = (one_frame g c.page c.line c.after, redo_frames g cs)

pub undo_frames : (g : Sizes) (cs : List Change) → AreFrameStores g (undo_calls g cs)
undo_frames g [] = tt
undo_frames g (c ∷ cs) = frames_append g (undo_calls g cs) (store_line (frame_line g c.page c.line) c.before ∷ []) (undo_frames g cs) (one_frame g c.page c.line c.before, tt)

pub ending_frames : (g : Sizes) (cs : List Change) (e : Entry) → AreFrameStores g (ending_calls g cs e)
ending_frames g cs (item x) = tt
ending_frames g cs commit = redo_frames g cs
ending_frames g cs abort = undo_frames g cs

pub groups_frames : (g : Sizes) (groups : List Group) → AreFrameStores g (groups_calls g groups)
groups_frames g [] = tt
groups_frames g (group ∷ groups) = frames_append g (group_calls g group) (groups_calls g groups) (by_end group.committed) (groups_frames g groups)
  where
    by_end : (b : Bool) → AreFrameStores g (cond b (redo_calls g (changes group.items)) (undo_calls g (changes group.items)))
    by_end true = redo_frames g (changes group.items)
    by_end false = undo_frames g (changes group.items)

-- They leave every line of the log.
frame_lines : (g : Sizes) (start line : ℕ) (value : Line) (s : State) → 0 < g.log_blocks → frames_start g ≤ line → lines_at g start (line_stored line value s) ≡ lines_at g start s
frame_lines g start line value s ring high =
    fun_ext (λ o. log_line-same g start (current (line_stored line value s)) (current s) o
    (λ above w hw. ap (λ (x : Word). x.newest) (line_stored_other line value s (ring_line g o) w (λ e. omega arith))) (λ b. refl))

pub frames_lines : (g : Sizes) (start : ℕ) (calls : List Call) (s : State) → 0 < g.log_blocks → AreFrameStores g calls → lines_at g start (after_all calls s) ≡ lines_at g start s
frames_lines g start [] s ring all = refl
frames_lines g start (call ∷ calls) s ring all =
    ap (λ (x : Call). lines_at g start (after_all calls (after x s))) (all.0).is
    ∙ frames_lines g start calls (line_stored (all.0).line (all.0).value s) ring all.1
    ∙ frame_lines g start (all.0).line (all.0).value s ring (all.0).in_frames
