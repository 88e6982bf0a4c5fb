use Rattle.std.proofs.Common.{rules}
use Rattle.devices.proofs.SentLaws.{sent_end_within}
use Rattle.devices.proofs.past.Past.sent_by.Goals as goal

pub returns : goal.returns
returns c =
    let self = c.args.self.now in
    sent_end_within self.sendings.items self.sent.items c.args.moment c.loop-sending.sent_end c.loop-sending.sending-index c.loop-sending.invariant.within c.loop-sending.invariant.same (search rules)
