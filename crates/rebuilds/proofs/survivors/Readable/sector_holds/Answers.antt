-- `sector_holds` meets its contract. What is fetched is what is seen, what is filled in is what is shown, and the scrub says whether it holds. Assumes nothing.
use Prim.Native.Nat.{ℕ, ◌-◌}
use mathlib.Core.Path.{◌≡◌, ap, ◌∙◌, subst}
use mathlib.Core.List.{List, []}
use native.Mathlib.Omega.{arith}
use Rattle.code.specs.Stripes.{Rebuilt}
use Rattle.disk.specs.Limits.{sector_bytes, most_n}
use Rattle.strips.specs.Answers.{after_fetch}
use Rattle.strips.specs.Seen.{row_seen}
use Rattle.rebuilds.specs.Survivors.{range_fits, fetched, row_shown, scrub_says, lost_in_lem}
use lib.ListN.{length}
use Rattle.rebuilds.proofs.survivors.Readable.sector_holds.Goals as goal

pub overflow_sub-m : goal.overflow_sub-m
overflow_sub-m c = omega (arith, c.args.self.now.can.splits.parity)

pub returns : goal.returns
returns c =
    let a = c.args in
    let s = a.self.now in
    let g = s.from.g in
    let p = s.can in
    let row : List ℕ = c.fetch.new.to in
    let full : List ℕ = c.rebuild.new.stripe in
    let e : row ≡ row_seen g s.from.image.now s.from.there 0 [] s.t a.j 1 =
    fetched g s.from.image.now s.from.kept.now a.row.now row s.from.there s.t a.j c.fetch.result
    p.fits p.below c.requires.0 s.keeps c.requires.1 c.fetch.ensures.0
    (c.fetch.ensures.1 ∙ ap (λ (v : ℕ). after_fetch c.fetch.result g s.from.image.now s.from.there v s.from.kept.now s.t a.j 1 a.row.now) s.plain) in
    let lost = c.of.ensures ∙ lost_in_lem g s.t s.from.there most_n (range_fits g (length s.from.image.now) p.fits) p.below (omega arith) in
    let filled = subst (λ (x : List ℕ). Rebuilt s.k (g.n - s.k) sector_bytes x c.rebuild.result row full) lost c.rebuild.ensures in
    c.is_sound.ensures
    ∙ scrub_says g s.k s.from.image.now s.from.there s.t a.j p.splits p.few full c.scrub.result
    (c.rebuild.auto.stripe ∙ c.fetch.auto.to ∙ c.requires.1) c.scrub.ensures
    (row_shown g s.k s.from.image.now s.from.there s.t a.j p.splits p.few c.rebuild.result row full e filled)
