use Rattle.std.proofs.Common.{◌≡◌, ◌≤◌, [], length, take, drop}
use Rattle.devices.specs.World.{last_from}
use Rattle.devices.specs.Past.{changes_of}
use Rattle.devices.proofs.past.Past.sent_by.Given as goal

-- what is left is to be looked through from here
abbrev pub invariant-loop-sending : goal.invariant-loop-sending
invariant-loop-sending l = record {
  within : l.sent_end ≤ length l.self.sent.items;
  same : last_from [] (changes_of l.self.sendings.items l.self.sent.items) l.moment ≡ last_from (take l.sent_end l.self.sent.items) (changes_of (drop l.sending-index l.self.sendings.items) l.self.sent.items) l.moment;
}
