use mathlib.Core.Path.{subst, ◌∙◌}
use borrow.Author.Count.{below_more}
use native.Mathlib.Omega.{arith}
use Rattle.code.specs.Blame.{Blamed}
use Rattle.code.proofs.Shape.accused.Goals as goal

pub loop-r-preserved : goal.loop-r-preserved
loop-r-preserved c = let s = c.args.self in
    let l = c.loop-r in (
      c.blames.ensures.1 ∙ l.invariant.0,
      below_more _ _ l.invariant.1 (subst (Blamed s.k s.m s.len c.args.stripe.now l.r) c.if-blames.false c.blames.ensures.0),
    )

pub returns : goal.returns
returns c = λ r h. c.loop-r.invariant.1 r (omega (arith, h.0)) h
