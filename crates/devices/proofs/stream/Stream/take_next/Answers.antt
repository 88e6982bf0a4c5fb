use Rattle.std.proofs.Common.{rules, ◌≡◌, ◌-◌, ◌+◌, min, length, ap, ◌∙◌, List, ℕ}
use Rattle.std.specs.Prelude.{slice_range}
use Rattle.devices.proofs.StreamLaws.{takes_next}
use Rattle.devices.proofs.stream.Stream.take_next.Goals as goal

pub returns-clause-takes : goal.returns-clause-takes
returns-clause-takes c =
    let stream = c.args.self.now in
    let count : c.min-count.result ≡ min (length c.args.into.now) (length stream.bytes.items - stream.taken) = search rules in
    let copied : c.copy_from_slice.new.self ≡ slice_range stream.bytes.items stream.taken (stream.taken + c.min-count.result) = c.copy_from_slice.ensures.after ∙ ap (λ (l : List ℕ). slice_range l stream.taken (stream.taken + c.min-count.result)) c.deref.ensures.value in
    takes_next stream.bytes.items c.args.into.now c.copy_from_slice.new.self stream.taken c.min-count.result stream.within c.requires count copied
