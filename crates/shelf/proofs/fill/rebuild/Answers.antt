use Rattle.std.proofs.lemmas.Result.{err_from_is_err_and}
use Rattle.shelf.specs.Says.{shard_range, rebuild_none, rebuild_answer_lem, rebuild_leaves}
use Rattle.code.specs.Lists.{length_part}
use mathlib.Core.Path.{refl, sym, ◌∙◌}
use native.Mathlib.Omega.{arith}
use Rattle.shelf.proofs.fill.rebuild.Goals as goal

pub overflow_mul-e : goal.overflow_mul-e
overflow_mul-e c = omega (arith, (shard_range c.args.g c.args.t c.args.d _ (sym c.shard.ensures ∙ c.in_ok-r.was)).0)

pub stripe_in-requires : goal.stripe_in-requires
stripe_in-requires c = shard_range c.args.g c.args.t c.args.d _ (sym c.shard.ensures ∙ c.in_ok-r.was)

pub slice_bounds-room-end : goal.slice_bounds-room-end
slice_bounds-room-end c = omega (arith, (shard_range c.args.g c.args.t c.args.d _ (sym c.shard.ensures ∙ c.in_ok-r.was)).0)

pub slice_bounds-shown-end : goal.slice_bounds-shown-end
slice_bounds-shown-end c = sym (length_part _ _ ((omega (arith, (shard_range c.args.g c.args.t c.args.d _ (sym c.shard.ensures ∙ c.in_ok-r.was)).0))))

pub returns-in_err-r : goal.returns-in_err-r
returns-in_err-r c = let a = c.args in
    let f = err_from_is_err_and c.from_residual.result c.from_residual.ensures.1 in
    rw (f.1, f.2) (sym (rebuild_none a.l a.absent a.g a.d a.t a.j a.work.now a.image.now c.shard.result c.shard.ensures _ c.in_err-r.was), refl)

pub returns : goal.returns
returns c = let a = c.args in
    let room = length_part _ _ ((omega (arith, (shard_range c.args.g c.args.t c.args.d _ (sym c.shard.ensures ∙ c.in_ok-r.was)).0))) in
    let size = c.requires in (
      rebuild_answer_lem a.l a.absent a.g a.d a.t a.j a.work.now a.image.now c.shard.result c.shard.ensures _ c.in_ok-r.was
          _ c.seen_slots-there.ensures _ c.stripe_in.ensures _ _ room size c.shown.result c.shown.ensures.0,
      rebuild_leaves a.l a.absent a.g a.d a.t a.j a.work.now a.image.now c.shard.result c.shard.ensures _ c.in_ok-r.was
          _ c.seen_slots-there.ensures _ c.stripe_in.ensures _ _ room size c.shown.result c.shown.ensures.0 _ _ c.shown.ensures.1,
    )
