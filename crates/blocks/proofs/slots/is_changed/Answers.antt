-- By the slot, then by its shard.
use mathlib.Core.Path.{sym, ◌∙◌}
use Rattle.blocks.specs.Slots.{changed_at}
use Rattle.disk.specs.Geometry.{shard_of}
use Rattle.blocks.proofs.slots.is_changed.Goals as goal

pub returns-then-has : goal.returns-then-has
unfolding changed_at shard_of
returns-then-has c = simp (c.has-then-has.ensures, sym c.has.ensures ∙ c.if-has.true)
