use Rattle.layers.proofs.layer.Layer.over.Goals as goal

pub returns-clause-means : goal.returns-clause-means
returns-clause-means g c = c.unfilled.ensures (g.S.Sheet.meaning c.args.below) (g.S.Sheet.lawful c.args.below)
