use Rattle.std.proofs.Common.{refl, ◌≡◌, ◌∙◌, ap, List, [], ◌∷◌, ◌++◌, ◌+◌, length, rules}
use Rattle.devices.specs.declared.step.Entry.{Entry}
use Rattle.devices.specs.declared.step.Step.TheVariants.{Send}
use Rattle.devices.proofs.SentLaws.{sound_sent}
use Rattle.devices.proofs.past.Past.send.Goals as goal

pub returns-clause-sound : goal.returns-clause-sound
returns-clause-sound c =
    let old = c.args.self.now in
    let entry : Entry = record { event = c.args.event; step = Send } in
    let entries : c.push_reserved.new.self.items ≡ old.entries.items ++ entry ∷ [] = c.push_reserved.ensures.items ∙ ap (λ (es : List Entry). es ++ entry ∷ []) c.reserve.ensures.items in
    let moment : c.len.result ≡ length old.entries.items + 1 = search rules in
    let sent_end : c.len-2.result ≡ length old.sent.items + length c.args.bytes.now = search rules in
    let last : c.push_reserved-2.new.self.items ≡ old.sendings.items ++ record { moment = length old.entries.items + 1; sent_end = length old.sent.items + length c.args.bytes.now } ∷ [] = search (rules, moment, sent_end) in
    sound_sent {event = c.args.event} {bytes = c.args.bytes.now} old _ c.requires
    (record { stands = record { lines = refl; blocks = refl; base = refl }; entries = entries; sent = c.in-Ok.ensures.items; sendings = last }) refl refl
