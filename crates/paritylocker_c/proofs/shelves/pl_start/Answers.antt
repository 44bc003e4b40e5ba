-- What the request begins with is kept. Assumes nothing.
use mathlib.Core.Path.{refl, ap, ◌∙◌}
use lib.ListN.{length}
use Rattle.requests.specs.Begun.{Begun}
use Rattle.paritylocker_c.specs.Shelf.{begun_number, after_begun}
use Rattle.paritylocker_c.proofs.shelves.pl_start.Goals as goal

pub returns : goal.returns
returns c = let a = c.args in
    let k = c.keep.ensures in
    let q = c.start.ensures in
    (k.0 ∙ ap (λ (b : Begun). begun_number b (length a.state.now)) q, k.1 ∙ ap (λ (b : Begun). after_begun b a.state.now) q, refl, refl)
