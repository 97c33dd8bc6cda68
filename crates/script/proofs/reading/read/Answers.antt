use Rattle.script.proofs.Laws.{one_verdict}
use Rattle.script.specs.Verdicts.{verdict}
use Rattle.script.proofs.reading.read.Goals as goal

pub returns-clause-exact : goal.returns-clause-exact
returns-clause-exact c u j = one_verdict c.args.line.now u (verdict c.judge.result) j c.judge.ensures.judged
