use Prim.Native.Nat.{ℕ}
use mathlib.Core.Path.{◌≡◌, refl, sym, ap, ◌∙◌}
use Rattle.position.specs.Search.{all}
use Rattle.rebuilds.specs.Survivors.{sector_holds, stripe_holds, all_on, all_stop}
use native.Mathlib.Omega.{arith}
use Rattle.rebuilds.proofs.survivors.Readable.stripe_holds.Goals as goal

pub loop-j-init : goal.loop-j-init
unfolding all
loop-j-init c = (refl, refl)

pub sector_holds-requires : goal.sector_holds-requires
sector_holds-requires c = let l = c.loop-j in
    let p = c.requires in
    (omega arith, l.invariant.1 ∙ p)

pub returns-then-not-sector_holds : goal.returns-then-not-sector_holds
unfolding stripe_holds
returns-then-not-sector_holds c = let l = c.loop-j in
    let a = c.args in
    all_stop (sector_holds a.self.now.from.g a.self.now.k a.self.now.from.image.now a.self.now.from.there a.self.now.t) a.self.now.from.g.c l.j (omega arith) (sym c.sector_holds.ensures ∙ c.if-not-sector_holds.true)

pub loop-j-preserved : goal.loop-j-preserved
loop-j-preserved c = let l = c.loop-j in
    let a = c.args in
    (all_on (sector_holds a.self.now.from.g a.self.now.k a.self.now.from.image.now a.self.now.from.there a.self.now.t) l.j l.invariant.0 (sym c.sector_holds.ensures ∙ c.if-not-sector_holds.false), c.sector_holds.auto.row ∙ l.invariant.1)

pub returns : goal.returns
unfolding stripe_holds
returns c = let l = c.loop-j in
    let a = c.args in
    let e : l.j ≡ a.self.now.from.g.c = omega arith in
    sym l.invariant.0 ∙ ap (λ (i : ℕ). all i (sector_holds a.self.now.from.g a.self.now.k a.self.now.from.image.now a.self.now.from.there a.self.now.t)) e
