-- A silent line, one of no form, and a command.
use Rattle.std.proofs.Common.{sym, ◌∙◌}
use Rattle.engine.proofs.StepLaws.{leads_silent, leads_none, leads_some}
use Rattle.engine.proofs.engine.Engine.step.Goals as goal

pub returns-then-is_silent-clause-does : goal.returns-then-is_silent-clause-does
returns-then-is_silent-clause-does g c = (leads_silent c.args.line.now c.args.self.now (g.W.Devices.standing c.args.world.now) c.requires.ready c.rest.new.self c.rest.ensures.same (sym c.is_silent.ensures ∙ c.if-is_silent.true)).does

pub returns-then-is_silent-clause-replies : goal.returns-then-is_silent-clause-replies
returns-then-is_silent-clause-replies g c = (leads_silent c.args.line.now c.args.self.now (g.W.Devices.standing c.args.world.now) c.requires.ready c.rest.new.self c.rest.ensures.same (sym c.is_silent.ensures ∙ c.if-is_silent.true)).replies

pub returns-then-is_silent-clause-cause : goal.returns-then-is_silent-clause-cause
returns-then-is_silent-clause-cause g c = (leads_silent c.args.line.now c.args.self.now (g.W.Devices.standing c.args.world.now) c.requires.ready c.rest.new.self c.rest.ensures.same (sym c.is_silent.ensures ∙ c.if-is_silent.true)).cause

pub returns-in-None-clause-does : goal.returns-in-None-clause-does
returns-in-None-clause-does g c = (leads_none c.args.line.now c.args.self.now (g.W.Devices.standing c.args.world.now) c.requires.ready c.rest.new.self c.rest.ensures.same (sym c.is_silent.ensures ∙ c.if-is_silent.false) (sym c.read_line.ensures ∙ c.in-None.is)).does

pub returns-in-None-clause-replies : goal.returns-in-None-clause-replies
returns-in-None-clause-replies g c = (leads_none c.args.line.now c.args.self.now (g.W.Devices.standing c.args.world.now) c.requires.ready c.rest.new.self c.rest.ensures.same (sym c.is_silent.ensures ∙ c.if-is_silent.false) (sym c.read_line.ensures ∙ c.in-None.is)).replies

pub returns-in-None-clause-cause : goal.returns-in-None-clause-cause
returns-in-None-clause-cause g c = (leads_none c.args.line.now c.args.self.now (g.W.Devices.standing c.args.world.now) c.requires.ready c.rest.new.self c.rest.ensures.same (sym c.is_silent.ensures ∙ c.if-is_silent.false) (sym c.read_line.ensures ∙ c.in-None.is)).cause

pub returns-in-Some-clause-does : goal.returns-in-Some-clause-does
returns-in-Some-clause-does g c = (leads_some c.args.line.now c.args.self.now (g.W.Devices.standing c.args.world.now) c.requires.ready c.rest.new.self c.rest.ensures.same c.in-Some.command c.answer.new.self (g.W.Devices.standing c.answer.new.world) c.answer.result (sym c.is_silent.ensures ∙ c.if-is_silent.false) (sym c.read_line.ensures ∙ c.in-Some.is) c.answer.ensures).does

pub returns-in-Some-clause-replies : goal.returns-in-Some-clause-replies
returns-in-Some-clause-replies g c = (leads_some c.args.line.now c.args.self.now (g.W.Devices.standing c.args.world.now) c.requires.ready c.rest.new.self c.rest.ensures.same c.in-Some.command c.answer.new.self (g.W.Devices.standing c.answer.new.world) c.answer.result (sym c.is_silent.ensures ∙ c.if-is_silent.false) (sym c.read_line.ensures ∙ c.in-Some.is) c.answer.ensures).replies

pub returns-in-Some-clause-cause : goal.returns-in-Some-clause-cause
returns-in-Some-clause-cause g c = (leads_some c.args.line.now c.args.self.now (g.W.Devices.standing c.args.world.now) c.requires.ready c.rest.new.self c.rest.ensures.same c.in-Some.command c.answer.new.self (g.W.Devices.standing c.answer.new.world) c.answer.result (sym c.is_silent.ensures ∙ c.if-is_silent.false) (sym c.read_line.ensures ∙ c.in-Some.is) c.answer.ensures).cause

pub returns-then-is_silent-clause-reads : goal.returns-then-is_silent-clause-reads
returns-then-is_silent-clause-reads g c = (leads_silent c.args.line.now c.args.self.now (g.W.Devices.standing c.args.world.now) c.requires.ready c.rest.new.self c.rest.ensures.same (sym c.is_silent.ensures ∙ c.if-is_silent.true)).reads

pub returns-in-None-clause-reads : goal.returns-in-None-clause-reads
returns-in-None-clause-reads g c = (leads_none c.args.line.now c.args.self.now (g.W.Devices.standing c.args.world.now) c.requires.ready c.rest.new.self c.rest.ensures.same (sym c.is_silent.ensures ∙ c.if-is_silent.false) (sym c.read_line.ensures ∙ c.in-None.is)).reads

pub returns-in-Some-clause-reads : goal.returns-in-Some-clause-reads
returns-in-Some-clause-reads g c = (leads_some c.args.line.now c.args.self.now (g.W.Devices.standing c.args.world.now) c.requires.ready c.rest.new.self c.rest.ensures.same c.in-Some.command c.answer.new.self (g.W.Devices.standing c.answer.new.world) c.answer.result (sym c.is_silent.ensures ∙ c.if-is_silent.false) (sym c.read_line.ensures ∙ c.in-Some.is) c.answer.ensures).reads

pub returns-then-is_silent-clause-refused : goal.returns-then-is_silent-clause-refused
returns-then-is_silent-clause-refused g c = (leads_silent c.args.line.now c.args.self.now (g.W.Devices.standing c.args.world.now) c.requires.ready c.rest.new.self c.rest.ensures.same (sym c.is_silent.ensures ∙ c.if-is_silent.true)).refused

pub returns-in-None-clause-refused : goal.returns-in-None-clause-refused
returns-in-None-clause-refused g c = (leads_none c.args.line.now c.args.self.now (g.W.Devices.standing c.args.world.now) c.requires.ready c.rest.new.self c.rest.ensures.same (sym c.is_silent.ensures ∙ c.if-is_silent.false) (sym c.read_line.ensures ∙ c.in-None.is)).refused

pub returns-in-Some-clause-refused : goal.returns-in-Some-clause-refused
returns-in-Some-clause-refused g c = (leads_some c.args.line.now c.args.self.now (g.W.Devices.standing c.args.world.now) c.requires.ready c.rest.new.self c.rest.ensures.same c.in-Some.command c.answer.new.self (g.W.Devices.standing c.answer.new.world) c.answer.result (sym c.is_silent.ensures ∙ c.if-is_silent.false) (sym c.read_line.ensures ∙ c.in-Some.is) c.answer.ensures).refused
