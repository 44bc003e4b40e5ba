-- The strips lie before the end.
use Rattle.std.proofs.Common.{ap₂, ◌∙◌, ◌+◌, ℕ, arith}
use Rattle.disk.specs.declared.geometry.Geometry.{Geometry}
use Rattle.label.proofs.Fits.{fits_says}
use Rattle.position.specs.Search.{some}
use Rattle.requests.proofs.Answers.{few_slots}
use Rattle.rebuilds.specs.On.{some_contradict, strips_within}
use Rattle.rebuilds.specs.Survivors.{contradicted}
use Rattle.rebuilds.proofs.on.are_contradicted.Goals as goal

pub some_contradict-requires : goal.some_contradict-requires
some_contradict-requires c =
    let l = c.args.l in
    let f = fits_says l c.requires.0 in
    rw (c.geometry.ensures (omega (arith, few_slots l c.requires.0)))
    (c.requires.1, f.split, omega (arith, c.strips_on.ensures, strips_within l c.args.batch f.mark_below))

pub returns : goal.returns
unfolding some_contradict
returns c =
    let a = c.args in
    c.some_contradict.ensures
    ∙ ap₂ (λ (g : Geometry) (n : ℕ). some n (λ i. contradicted g a.l.k a.image.now a.l a.absent (a.l.mark + i)))
    (c.geometry.ensures (omega (arith, few_slots a.l c.requires.0))) c.strips_on.ensures
