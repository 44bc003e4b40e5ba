-- Each turn adds the product of that byte, in whatever words the byte is told: what they come to is left to arithmetic.
use Rattle.std.proofs.Common.{ap, ◌∙◌, arith}
use Rattle.field.specs.Field.{mul_of}
use Rattle.kernel.specs.Kernel.{added}
use Rattle.kernel.specs.KernelTurns.{replaced_none, replaced_done, product_turn}
use Rattle.kernel.proofs.bytes.mul_add_within.Goals as goal

pub loop-i-init : goal.loop-i-init
loop-i-init c = let a = c.args in replaced_none a.dst (added a.c a.dst a.src a.buf.now) a.buf.now

pub loop-i-preserved : goal.loop-i-preserved
loop-i-preserved c = let l = c.loop-i in
    let a = c.args in
    product_turn a.c a.dst a.src a.len l.i c.mul.result a.buf.now l.buf c.requires c.loop-i-test.true (c.mul.ensures ∙ ap (mul_of a.c) (omega arith)) l.invariant

pub returns : goal.returns
returns c = let l = c.loop-i in
    let a = c.args in
    replaced_done a.dst l.i a.len (added a.c a.dst a.src a.buf.now) a.buf.now l.buf (omega arith) l.invariant
