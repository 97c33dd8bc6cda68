use Rattle.script.proofs.Lining.{lines_fit}
use Rattle.script.proofs.lines.Lines.new.Goals as goal

pub returns-clause-few : goal.returns-clause-few
returns-clause-few c = lines_fit c.args.text.now
