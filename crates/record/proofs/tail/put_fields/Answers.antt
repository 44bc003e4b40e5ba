-- One field behind the other.
use mathlib.Core.Path.{ap, ◌∙◌}
use mathlib.Core.List.{List}
use Prim.Native.Nat.{ℕ}
use Rattle.record.specs.Tail.{with_tail}
use Rattle.record.specs.Layout.{stripe_at, shards_at}
use Rattle.disk.specs.Number.{with_number}
use Rattle.record.proofs.tail.put_fields.Goals as goal

pub returns : goal.returns
unfolding with_tail
returns c = let a = c.args in
    c.put_u64-2.ensures
    ∙ ap (λ (x : List ℕ). with_number 8 x shards_at a.tail.shards) c.put_u64.ensures
    ∙ ap (λ (x : List ℕ). with_number 8 (with_number 8 x stripe_at a.tail.stripe) shards_at a.tail.shards) c.put_stamp.ensures
