use mathlib.Core.Path.{refl}
use Rattle.std.proofs.Common.{rules}
use Rattle.disk.proofs.Search.{all_below}
use Rattle.label.specs.Newest.{all_of}
use Rattle.requests.proofs.ready.all_hold.Goals as goal

pub returns : goal.returns
unfolding all_of
returns c = all_below all_of refl (λ k. refl) c.all.ensures.ran (λ d r f l h. search rules)
