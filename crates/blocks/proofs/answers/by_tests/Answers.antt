-- One test after the other.
use Rattle.blocks.specs.Answers.{answered}
use Rattle.blocks.proofs.answers.by_tests.Goals as goal

pub returns-then-few : goal.returns-then-few
unfolding answered
returns-then-few c = simp c.if-few.true

pub returns-then-not-inside : goal.returns-then-not-inside
unfolding answered
returns-then-not-inside c = let a = c.args in simp (c.if-few.false, c.if-not-inside.true)

pub returns-then-not-idle : goal.returns-then-not-idle
unfolding answered
returns-then-not-idle c = let a = c.args in simp (c.if-few.false, c.if-not-inside.false, c.if-not-idle.true)

pub returns-then-not-sense : goal.returns-then-not-sense
unfolding answered
returns-then-not-sense c = let a = c.args in simp (c.if-few.false, c.if-not-inside.false, c.if-not-idle.false, c.if-not-sense.true)

pub returns-then-not-sized : goal.returns-then-not-sized
unfolding answered
returns-then-not-sized c = let a = c.args in simp (c.if-few.false, c.if-not-inside.false, c.if-not-idle.false, c.if-not-sense.false, c.if-not-sized.true)

pub returns : goal.returns
unfolding answered
returns c = let a = c.args in simp (c.if-few.false, c.if-not-inside.false, c.if-not-idle.false, c.if-not-sense.false, c.if-not-sized.false)
