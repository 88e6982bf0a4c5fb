use Rattle.device_files.proofs.LineLaws.{recall_cached, recall_gathered}
use Rattle.device_files.proofs.line_memory.LineMemory.get.Goals as goal

pub returns-in-Some-clause-known : goal.returns-in-Some-clause-known
returns-in-Some-clause-known c = λ value h. recall_cached _ _ c.args.line c.in-Some.value value c.args.self.now.agree c.in-Some.ensures h

pub returns-in-None-clause-known : goal.returns-in-None-clause-known
returns-in-None-clause-known c = λ value h.
    recall_gathered _ _ c.args.line c.get-in-None.result value c.args.self.now.gathered.distinct c.get-in-None.ensures c.in-None.ensures h
