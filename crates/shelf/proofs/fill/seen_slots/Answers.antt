-- Where n, c and S are those of a shelf there are at most 19 slots; else no slot is believed. Assumes nothing.
use mathlib.Core.Path.{◌≡◌, refl, sym, ap, ◌∙◌}
use mathlib.Core.Bool.{Bool, cond, not, ◌&&◌}
use Prim.Native.Nat.{ℕ, zero, suc}
use borrow.Author.Rules.{rules}
use native.Mathlib.Omega.{arith}
use Rattle.disk.proofs.Masks.{mask_from_filter}
use Rattle.disk.specs.Geometry.{in_range_lem}
use Rattle.disk.specs.Mask.{in_mask, with_slot, mask_of, in_past}
use Rattle.shelf.specs.Fill.{present, seen_slots}
use Rattle.shelf.proofs.fill.seen_slots.Goals as goal

none : (absent n : ℕ) → mask_of (present 0 absent) n ≡ 0
unfolding mask_of present
none absent zero = refl
none absent (suc n) =
    ap (λ (b : Bool). cond (b && not (in_mask absent n)) (with_slot (mask_of (present 0 absent) n) n) (mask_of (present 0 absent) n)) (in_past 0 0 n (omega arith) (omega arith))
    ∙ none absent n

pub returns-then-not-in_range : goal.returns-then-not-in_range
unfolding seen_slots
returns-then-not-in_range c = let a = c.args in rw (sym c.in_range.ensures ∙ c.if-not-in_range.true) (sym (none a.absent a.g.n))

pub returns : goal.returns
unfolding seen_slots present
returns c =
    let e = sym c.in_range.ensures ∙ c.if-not-in_range.false in
    mask_from_filter _ _ (omega (arith, (in_range_lem c.args.g e).few)) c.fold.ensures.ran c.filter.ensures.source c.filter.ensures.closure
    (λ d b q k. search rules) (λ m d w q k. search rules)
