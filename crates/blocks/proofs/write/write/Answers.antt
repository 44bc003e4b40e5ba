-- By its answer.
use Prim.Native.Nat.{◌/◌}
use mathlib.Core.Path.{refl, sym, ap, ◌∙◌}
use native.Mathlib.Omega.{arith}
use Rattle.std.proofs.lemmas.Result.{err_from_is_err_and}
use Rattle.blocks.specs.Write.{changing, write_done}
use Rattle.label.proofs.Fits.{fits_says}
use Rattle.blocks.proofs.write.write.Goals as goal

pub prepare_in-all-requires : goal.prepare_in-all-requires
prepare_in-all-requires c = let a = c.args in (write_done a.s.now a.s.kind a.s.absent a.s.count a.image.now a.block a.bytes.now a.work.now (sym c.write_answer.ensures ∙ c.in_ok-write_answer.was)).0

pub overflow_add-l : goal.overflow_add-l
overflow_add-l c = let a = c.args in omega (arith, (fits_says a.s.now (write_done a.s.now a.s.kind a.s.absent a.s.count a.image.now a.block a.bytes.now a.work.now (sym c.write_answer.ensures ∙ c.in_ok-write_answer.was)).0.fits).range.few)

pub nonzero_rem-block : goal.nonzero_rem-block
nonzero_rem-block c = let a = c.args in omega (arith, (fits_says a.s.now (write_done a.s.now a.s.kind a.s.absent a.s.count a.image.now a.block a.bytes.now a.work.now (sym c.write_answer.ensures ∙ c.in_ok-write_answer.was)).0.fits).split.least)

pub changed_shards-parts-requires : goal.changed_shards-parts-requires
changed_shards-parts-requires c = let a = c.args in (fits_says a.s.now (write_done a.s.now a.s.kind a.s.absent a.s.count a.image.now a.block a.bytes.now a.work.now (sym c.write_answer.ensures ∙ c.in_ok-write_answer.was)).0.fits).range.few

pub nonzero_div-block : goal.nonzero_div-block
nonzero_div-block c = let a = c.args in omega (arith, (fits_says a.s.now (write_done a.s.now a.s.kind a.s.absent a.s.count a.image.now a.block a.bytes.now a.work.now (sym c.write_answer.ensures ∙ c.in_ok-write_answer.was)).0.fits).split.least)

pub begin_change-requires : goal.begin_change-requires
begin_change-requires c = let a = c.args in let p = write_done a.s.now a.s.kind a.s.absent a.s.count a.image.now a.block a.bytes.now a.work.now (sym c.write_answer.ensures ∙ c.in_ok-write_answer.was) in (p.0.fits, p.1)

pub returns-in_err-write_answer : goal.returns-in_err-write_answer
returns-in_err-write_answer c = let p = err_from_is_err_and c.from_residual.result c.from_residual.ensures.1 in rw (p.1, p.2) (sym c.in_err-write_answer.was ∙ c.write_answer.ensures, (refl, refl))

pub returns : goal.returns
returns c = let a = c.args in (
  sym c.in_ok-write_answer.was ∙ c.write_answer.ensures,
  record {
    all = c.prepare_in-all.result;
    prepared = c.prepare_in-all.ensures;
    becomes = c.begin_change.ensures ∙ ap (changing a.s (a.block / a.s.now.k)) c.changed_shards-parts.ensures;
  },
)
