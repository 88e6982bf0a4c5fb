use Rattle.std.proofs.Common.{◌∙◌, arith}
use Rattle.nvm_model.proofs.HeldLaws.{Reserved-more, held_same}
use Rattle.nvm_model.proofs.words.reserve_line.Goals as goal

pub returns-in_err-reserve-clause-held : goal.returns-in_err-reserve-clause-held
returns-in_err-reserve-clause-held c =
    held_same c.loop-place.words.items _ c.index_mut.result.now c.reserve.new.self (omega arith) c.index_mut.ensures.value c.reserve.ensures.held
    ∙ c.loop-place.invariant.held

pub loop-place-preserved : goal.loop-place-preserved
loop-place-preserved c = Reserved-more c.args.first c.loop-place.place c.args.words.now.items c.loop-place.words.items c.index_mut.result.now c.reserve.new.self c.loop-place.invariant (omega arith) c.index_mut.ensures.value c.reserve.ensures.held c.in_ok-reserve.ensures.room
