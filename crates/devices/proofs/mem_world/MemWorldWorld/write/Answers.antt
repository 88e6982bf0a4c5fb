use Rattle.std.proofs.Common.{arith, ap, ◌∙◌}
use Rattle.devices.specs.Past.{are_by}
use Rattle.devices.proofs.CountLaws.{by_more, by_one, marks_kept}
use Rattle.devices.proofs.WriteLaws.{call_sent, sends_sent}
use Rattle.devices.specs.MemWorld.{rest_of}
use Rattle.devices.proofs.mem_world.MemWorldWorld.write.Goals as goal

pub returns-in-Ok-clause-call : goal.returns-in-Ok-clause-call
returns-in-Ok-clause-call c =
    let old = c.args.self.now in
    call_sent old.past c.send.new.self _ _ _ (rest_of old.settings) (rest_of old.script) _ _ _ _ old.sound c.in-Ok.ensures.ok c.begin.ensures.later

pub returns-in-Ok-clause-sends : goal.returns-in-Ok-clause-sends
returns-in-Ok-clause-sends c =
    let old = c.args.self.now in
    sends_sent old.past c.send.new.self _ _ _ (rest_of old.settings) (rest_of old.script) _ _ _ _ old.sound c.in-Ok.ensures.ok

pub invariant_of-self : goal.invariant_of-self
invariant_of-self c = record { sound = c.args.self.now.sound; counted = by_more c.args.self.now.past.entries.items c.args.self.now.events c.begin.new.events c.begin.ensures.more_events c.args.self.now.counted }

pub invariant_of-self-in-Ok-clause-counted : goal.invariant_of-self-in-Ok-clause-counted
invariant_of-self-in-Ok-clause-counted c = by_one c.args.self.now.past.entries.items c.send.new.self.entries.items c.begin.new.events c.begin.new.events _ c.in-Ok.ensures.ok.entries (omega arith) (by_more c.args.self.now.past.entries.items c.args.self.now.events c.begin.new.events c.begin.ensures.more_events c.args.self.now.counted)

pub invariant_of-self-in-Err-clause-counted : goal.invariant_of-self-in-Err-clause-counted
invariant_of-self-in-Err-clause-counted c = ap (are_by c.begin.new.events) c.in-Err.ensures.err.entries ∙ by_more c.args.self.now.past.entries.items c.args.self.now.events c.begin.new.events c.begin.ensures.more_events c.args.self.now.counted

pub returns-in-Ok-clause-marks : goal.returns-in-Ok-clause-marks
returns-in-Ok-clause-marks c = marks_kept c.args.self.now.past.entries.items c.send.new.self.entries.items c.args.self.now.events c.begin.new.events _ c.in-Ok.ensures.ok.entries c.begin.ensures.events
