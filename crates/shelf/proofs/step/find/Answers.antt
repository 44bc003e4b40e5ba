use Rattle.std.proofs.Common.{rules, ◌≡◌, ℕ, true, false, ap, ◌∙◌}
use Rattle.std.specs.Option.{unwrap_or}
use Rattle.std.proofs.lemmas.Iterator.{first_from_Range}
use Rattle.disk.specs.Mask.{in_mask}
use Rattle.shelf.proofs.Seek.{first_or}
use Rattle.shelf.proofs.step.find.Goals as goal

pub returns : goal.returns
returns c = let a = c.args in
    let f = first_from_Range _ _ _ c.find.result (λ d. in_mask a.mask d ≡ true) (λ d. in_mask a.mask d ≡ false) c.find.ensures.ran (λ x q k. search rules) (λ x q k. search rules) in
    c.unwrap_or.ensures ∙ ap (λ (m : ℕ). unwrap_or c.find.result m) c.max.ensures ∙ first_or a.mask a.n a.from c.find.result f
