use Rattle.nvm_model.specs.Word.{stored}
use Rattle.nvm_model.proofs.HeldLaws.{held_same, held_reserved, on_err}
use Rattle.nvm_model.proofs.words.store_at.Goals as goal

pub returns-in_err-reserve-clause-unchanged : goal.returns-in_err-reserve-clause-unchanged
returns-in_err-reserve-clause-unchanged c = on_err c.from_residual.result (held_same c.args.words.now.items c.args.at c.index_mut.result.now c.reserve.new.self c.requires c.index_mut.ensures.value c.reserve.ensures.held)

pub returns-clause-stored : goal.returns-clause-stored
returns-clause-stored c = held_reserved c.args.interval (stored c.args.value) c.args.words.now.items c.args.at c.index_mut.result.now c.reserve.new.self c.index_mut-2.result.now c.store.new.self c.requires c.index_mut.ensures.value c.reserve.ensures.held c.index_mut-2.ensures.value c.store.ensures
