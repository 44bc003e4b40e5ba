use mathlib.Core.Path.{ap, sym}
use Rattle.field.specs.Quotient.{quotient_of}
use Rattle.field.proofs.QuotientLaws.{quotient_of_lem}
use Rattle.field.proofs.div.Goals as goal

pub returns-then-b-eq0 : goal.returns-then-b-eq0
returns-then-b-eq0 c = ap (quotient_of c.args.a) (sym c.if-b-eq0.true)

pub returns : goal.returns
returns c = let a = c.args in quotient_of_lem a.a a.b c.mul.result c.if-b-eq0.false (cc)
