-- One field behind the other.
use Rattle.record.specs.Tail.{tail_at}
use Rattle.record.proofs.tail.tail_at.Goals as goal

pub returns : goal.returns
unfolding tail_at
returns c = λ i. record { stamp = c.stamp_at.ensures i; stripe = c.u64_at.ensures i; shards = c.u64_at-2.ensures i }
