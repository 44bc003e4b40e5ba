-- Each arm is a case of `kind_of`.
use mathlib.Core.Path.{sym, ap}
use Rattle.std.proofs.Common.{rules, tests}
use Rattle.memory.specs.Numbers.{kind_of}
use Rattle.memory.proofs.numbers.kind_of.Goals as goal

pub returns-in-1 : goal.returns-in-1
unfolding kind_of
returns-in-1 c = sym (ap kind_of c.in-1.is)

pub returns-in-2 : goal.returns-in-2
unfolding kind_of
returns-in-2 c = sym (ap kind_of c.in-2.is)

pub returns-in-3 : goal.returns-in-3
unfolding kind_of
returns-in-3 c = sym (ap kind_of c.in-3.is)

pub returns-in-4 : goal.returns-in-4
unfolding kind_of
returns-in-4 c = sym (ap kind_of c.in-4.is)

pub returns-in-5 : goal.returns-in-5
unfolding kind_of
returns-in-5 c = sym (ap kind_of c.in-5.is)

pub returns-in-6 : goal.returns-in-6
unfolding kind_of
returns-in-6 c = sym (ap kind_of c.in-6.is)

pub returns-in-7 : goal.returns-in-7
unfolding kind_of
returns-in-7 c = sym (ap kind_of c.in-7.is)

pub returns-in_default : goal.returns-in_default
unfolding kind_of
returns-in_default c = search (tests, rules)
