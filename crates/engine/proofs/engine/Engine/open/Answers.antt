-- What was recovered is what the engine goes on with.
use Rattle.std.proofs.lemmas.Result.{IfOk-from_err}
use Rattle.engine.specs.Engine.{IsSteadyFor}
use Rattle.engine.proofs.OpenLaws.{over_stands, over_shows, over_rests, over_steady, order_stays}
use Rattle.engine.proofs.engine.Engine.open.Goals as goal

pub returns-clause-stands : goal.returns-clause-stands
returns-clause-stands g c =
    over_stands c.in_ok-parts.parts c.over.result (g.W.Devices.standing c.args.world.now) (g.W.Devices.standing c.recover.new.dev) c.in_ok-parts.ensures.goes c.in_ok-parts.ensures.parts c.over.ensures c.in_ok-parts.ensures.recovered

pub returns-clause-shows : goal.returns-clause-shows
returns-clause-shows g c = λ told sizes T held.
    over_shows c.in_ok-parts.parts c.over.result (g.W.Devices.standing c.args.world.now) (g.W.Devices.standing c.recover.new.dev) c.in_ok-parts.ensures.goes c.in_ok-parts.ensures.parts c.over.ensures
    (c.in_ok-parts.ensures.recovered told) (c.in_ok-parts.ensures.keeps told) sizes T held

pub returns-clause-rests : goal.returns-clause-rests
returns-clause-rests g c = λ told.
    over_rests c.in_ok-parts.parts c.over.result (g.W.Devices.standing c.args.world.now) (g.W.Devices.standing c.recover.new.dev) c.in_ok-parts.ensures.goes c.in_ok-parts.ensures.parts c.over.ensures
    (c.in_ok-parts.ensures.recovered told) (c.in_ok-parts.ensures.keeps told)

pub returns-clause-steady : goal.returns-clause-steady
returns-clause-steady g c =
    over_steady c.in_ok-parts.parts c.over.result (g.W.Devices.standing c.args.world.now) (g.W.Devices.standing c.recover.new.dev) c.in_ok-parts.ensures.goes c.in_ok-parts.ensures.parts c.over.ensures
    c.in_ok-parts.ensures.recovered

pub returns-clause-order : goal.returns-clause-order
returns-clause-order g c = λ told sizes T order. record {
  moments = order_stays sizes T (g.W.Devices.standing c.args.world.now) (g.W.Devices.standing c.recover.new.dev) (c.in_ok-parts.ensures.keeps told) order;
  steady = returns-clause-steady g c;
}

pub returns-in_err-parts-clause-order : goal.returns-in_err-parts-clause-order
returns-in_err-parts-clause-order g c = λ told sizes T order. record {
  moments = order_stays sizes T (g.W.Devices.standing c.args.world.now) (g.W.Devices.standing c.recover.new.dev) (c.in_err-parts.ensures.keeps told) order;
  steady = IfOk-from_err c.from_residual.result (λ engine. IsSteadyFor engine (g.W.Devices.standing c.recover.new.dev)) c.from_residual.ensures.0;
}
