-- With nothing laid over it, what is kept makes no difference.
use mathlib.Core.Path.{◌∙◌}
use Prim.Native.Nat.{◌*◌}
use lib.ListN.{take}
use Rattle.strips.specs.Seen.{shard_bytes}
use Rattle.strips.specs.Whole.{row_plain}
use Rattle.strips.proofs.seen.Source.gather_stripe.Goals as goal

pub returns : goal.returns
returns c = let a = c.args in
    c.gather.ensures ∙ row_plain a.self.now.g a.self.now.image.now a.self.now.there (take (a.self.now.g.n * shard_bytes a.self.now.g) a.self.now.image.now) a.t 0 a.self.now.g.c
