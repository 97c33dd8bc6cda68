use Rattle.std.proofs.Common.{◌<◌, arith}
use Rattle.sheet.proofs.Filling.{filled_none, filled_more}
use Rattle.sheet.proofs.reading.read_sheet.Goals as goal
use Rattle.sheet.proofs.reading.read_sheet.Goals.{in-Ok, in_default}

pub loop-kind-init : goal.loop-kind-init
loop-kind-init g c =
    filled_none c.new-permitted.result (g.S.Sheet.meaning c.args.sheet.now).permitted c.new-permitted.ensures

pub loop-kind-preserved : goal.loop-kind-preserved
loop-kind-preserved g c =
    let m = g.S.Sheet.meaning c.args.sheet.now in
    let kind = c.loop-kind.kind in
    let small : kind < 64 = omega (arith, c.types-types.ensures, (g.S.Sheet.lawful c.args.sheet.now).shaped.3) in
    elim c.match-permitted.branch [
      | in-Ok w ↦
          rw w.permitted-is
          (filled_more c.loop-kind.permitted m.permitted kind w.in-Ok.set small w.in-Ok.ensures.1 c.loop-kind.invariant)
      | in_default w ↦ absurd (omega (arith, c.types-types.ensures, w.in_default.ensures.0))
    ]

pub returns : goal.returns
returns g c = record {
  rigs = c.rigs-rigs.ensures;
  types = c.types-types.ensures;
  sets = λ t. record {
    permitted = λ h. c.loop-kind.invariant.1 t (omega (arith, c.types-types.ensures));
    spare = λ h. c.loop-kind.invariant.2 t (omega (arith, c.types-types.ensures));
  };
}
