-- By whether the geometry is in range.
use Rattle.std.proofs.Common.{rules, ◌≡◌, ◌&&◌, Bool, true, false, refl, sym, ap, ◌∙◌}
use Rattle.std.proofs.Math.Bool.{and-false}
use Rattle.std.proofs.lemmas.Result.{MatchResult-at_ok, MatchResult-at_err}
use Rattle.disk.specs.Geometry.{in_range, stripes_of, found, Found}
use Rattle.redo.specs.Decide.{believed}
use Rattle.redo.proofs.belief.believes.Goals as goal

pub returns-then-looked_at : goal.returns-then-looked_at
unfolding believed
returns-then-looked_at c = by (in_range c.args.g) refl
  where
    answer : Bool → Found
    answer b = found b true (stripes_of c.args.g)

    by : (b : Bool) → in_range c.args.g ≡ b → c.is_ok_and.result ≡ (b && believed c.args.g c.args.l c.args.d c.args.t)
    by true e =
        let ran = MatchResult-at_ok _ _ (stripes_of c.args.g) (c.stripes.ensures ∙ ap answer e) c.is_ok_and.ensures in
        rw (sym c.looked_at.ensures ∙ c.if-looked_at.true) (search rules)
    by false e = MatchResult-at_err _ _ _ (c.stripes.ensures ∙ ap answer e) c.is_ok_and.ensures

pub returns-else-looked_at : goal.returns-else-looked_at
unfolding believed
returns-else-looked_at c = rw (sym c.looked_at.ensures ∙ c.if-looked_at.false) (c.if-looked_at.false ∙ sym (and-false (in_range c.args.g)))
