-- Each refusal is the first test that fails; after both the walk may begin.
use mathlib.Core.Path.{sym, ap, ◌∙◌}
use native.Mathlib.Omega.{arith}
use Rattle.disk.specs.declared.geometry.Geometry.{Geometry}
use Rattle.shelf.specs.Act.{Move}
use Rattle.shelf.specs.Says.{sound_says, step_unsound, step_other, step_goes}
use Rattle.shelf.proofs.step.step.Goals as goal

pub returns-then-not-in_range : goal.returns-then-not-in_range
returns-then-not-in_range c = let a = c.args in
    let m = step_unsound a.s a.work.now a.image.now (sym c.in_range.ensures ∙ c.if-not-in_range.true) in
    (sym (ap (λ (x : Move). x.stepped) m), sym (ap (λ (x : Move). x.image) m))

pub returns-then-not-fits_image : goal.returns-then-not-fits_image
returns-then-not-fits_image c = let a = c.args in
    let ok = sym c.in_range.ensures ∙ c.if-not-in_range.false in
    let f = (sound_says a.s ok).fits in
    let g = c.geometry-g in
    let m = step_other a.s a.work.now a.image.now ok g.result (g.ensures (omega (arith, f.few_data, f.few_parity))) (sym c.fits_image.ensures ∙ c.if-not-fits_image.true) in
    (sym (ap (λ (x : Move). x.stepped) m), sym (ap (λ (x : Move). x.image) m))

pub go-requires : goal.go-requires
go-requires c =
    let o = sound_says c.args.s (sym c.in_range.ensures ∙ c.if-not-in_range.false) in
    let f = o.fits in
    let e = c.geometry-g.ensures (omega (arith, f.few_data, f.few_parity)) in
    (o.staged, omega (arith, o.within, f.range.short), f.not_last, omega (arith, f.range.few, ap (λ (x : Geometry). x.n) e), omega (arith, f.range.short, ap (λ (x : Geometry). x.c) e))

pub returns : goal.returns
returns c = let a = c.args in
    let ok = sym c.in_range.ensures ∙ c.if-not-in_range.false in
    let f = (sound_says a.s ok).fits in
    let g = c.geometry-g in
    let m = step_goes a.s a.work.now a.image.now ok g.result (g.ensures (omega (arith, f.few_data, f.few_parity))) (sym c.fits_image.ensures ∙ c.if-not-fits_image.false) in
    (c.go.ensures.0 ∙ sym (ap (λ (x : Move). x.stepped) m), c.go.ensures.1 ∙ sym (ap (λ (x : Move). x.image) m))
