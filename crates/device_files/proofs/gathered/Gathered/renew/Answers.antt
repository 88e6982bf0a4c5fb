use Rattle.std.proofs.Common.{◌<◌, length, rules}
use Rattle.std.proofs.lemmas.List.{get_or-set_same}
use Rattle.device_files.specs.PlacedLines.{no_place}
use Rattle.device_files.proofs.LineLaws.{elsewhere, still_there, not_there, set_placed, renewed_distinct}
use Rattle.device_files.proofs.gathered.Gathered.renew.Goals as goal

pub invariant_of-self : goal.invariant_of-self
invariant_of-self c =
    let lines = c.args.self.now.lines in
    let within : c.args.at < length lines = search rules in
    record {
      bound = search rules;
      placed = set_placed c.args.self.now.count lines c.args.at c.args.placed.now within c.requires.line (λ i h _. c.args.self.now.placed.each i h);
      distinct = renewed_distinct c.args.self.now.count lines c.args.at c.args.placed.now within c.requires.same c.args.self.now.distinct;
    }

pub returns-clause-taken : goal.returns-clause-taken
returns-clause-taken c =
    let lines = c.args.self.now.lines in
    let within : c.args.at < length lines = search rules in
    record { at = c.args.at; below = c.requires.below; stands = get_or-set_same lines c.args.at c.args.placed.now no_place within }

pub returns-clause-fewer : goal.returns-clause-fewer
returns-clause-fewer c = λ other found ne h.
    let lines = c.args.self.now.lines in
    let within : c.args.at < length lines = search rules in
    record { at = h.at; below = h.below; stands = elsewhere lines c.args.at h.at other c.args.placed.now found within ne h.stands }

pub returns-clause-stay : goal.returns-clause-stay
returns-clause-stay c = λ other found ne h.
    let lines = c.args.self.now.lines in
    let apart = not_there lines c.args.at h.at other c.args.placed.now found c.requires.same ne h.stands in
    record { at = h.at; below = h.below; stands = still_there lines c.args.at h.at other c.args.placed.now found apart h.stands }
