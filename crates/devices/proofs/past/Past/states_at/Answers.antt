use Rattle.std.proofs.Common.{◌≡◌, true, ℕ, List, take, ap, ◌∙◌}
use Rattle.ssd_model.specs.Contents.{synced_of}
use Rattle.devices.specs.declared.step.Entry.{Entry}
use Rattle.devices.specs.State.{State, fresh}
use Rattle.devices.specs.Past.{image_of, page_in, is_within, replay, replay_from}
use Rattle.devices.specs.Replay.{are_within, synced_from, synced_at}
use Rattle.devices.proofs.LeavingLaws.{all_take}
use Rattle.devices.proofs.past.Past.states_at.Goals as goal

pub make_all-requires : goal.make_all-requires
make_all-requires c =
    let self = c.args.self.now in
    let states = c.in_ok-made.ensures in
    let first : are_within self.lines self.current.ssd_blocks (take c.args.moment self.entries.items) ≡ true = all_take (λ (e : Entry). is_within self.lines self.current.ssd_blocks e.step) self.entries.items c.args.moment c.requires.sound.within in
    rw (states.lines, c.in_ok-made.ensures.disk_size, c.deref.ensures.value) first

pub returns-clause-state : goal.returns-clause-state
unfolding replay
returns-clause-state c =
    c.in_ok-make_all.ensures.made ∙ ap (λ (s : State). replay_from s (take c.args.moment c.deref.result.now)) c.in_ok-made.ensures.state
    ∙ ap (λ (es : List Entry). replay_from (fresh (image_of c.args.self.now.base)) (take c.args.moment es)) c.deref.ensures.value

pub returns-clause-synced : goal.returns-clause-synced
unfolding synced_at
returns-clause-synced c =
    let self = c.args.self.now in
    let synced = c.in_ok-made.ensures.synced in
    c.in_ok-make_all.ensures.synced
    ∙ ap (λ (s : State). synced_from s (synced_of c.in_ok-made.made.ssd) (take c.args.moment c.deref.result.now)) c.in_ok-made.ensures.state
    ∙ ap (λ (x : ℕ → List ℕ). synced_from (fresh (image_of self.base)) x (take c.args.moment c.deref.result.now)) synced
    ∙ ap (λ (es : List Entry). synced_from (fresh (image_of self.base)) (page_in self.base.ssd) (take c.args.moment es)) c.deref.ensures.value
