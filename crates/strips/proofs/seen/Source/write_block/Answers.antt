-- The stripe is restored, the bytes are put at their shard, and the parity is computed.
use mathlib.Core.Path.{refl, ap, ◌∙◌, subst, ◌≡◌}
use mathlib.Core.List.{List}
use Prim.Native.Nat.{ℕ, ◌≤◌, ◌-◌, ◌+◌, ◌*◌}
use native.Mathlib.Omega.{arith}
use lib.ListN.{length}
use borrow.Rule.Slice.PartMut.{put_mid}
use Rattle.disk.specs.Geometry.{stripes_le}
use Rattle.disk.specs.Image.{back}
use Rattle.code.specs.Stripes.{Encoded}
use Rattle.strips.specs.Seen.{shard_bytes}
use Rattle.strips.specs.Laws.{row_shaped}
use Rattle.strips.specs.Turns.{row_fits}
use Rattle.strips.specs.Whole.{Restored}
use Rattle.strips.proofs.seen.Source.write_block.Goals as goal

pub restore-all-requires : goal.restore-all-requires
restore-all-requires c = let a = c.args in
    let r = c.requires.0.range in (
      r.few,
      omega (arith, c.requires.1.parity),
      omega (arith, c.requires.0.stripe, stripes_le a.self.now.g, r.most),
      row_shaped a.self.now.g.n a.k (shard_bytes a.self.now.g) _ c.requires.1 (omega (arith, r.some)) (omega (arith, r.short)) (c.gather_stripe.auto.to ∙ c.requires.4),
    )

pub returns : goal.returns
returns c =
    let fits : (let a = c.args in a.i * shard_bytes a.self.now.g + shard_bytes a.self.now.g ≤ length c.restore-all.new.stripe) = omega (
      arith,
      row_fits c.args.self.now.g.n c.args.i (shard_bytes c.args.self.now.g) (omega (arith, c.requires.1.parity, c.requires.2)),
      c.requires.4,
      c.restore-all.auto.stripe,
      c.gather_stripe.auto.to,
    ) in
    let a = c.args in
    let w : ℕ = shard_bytes a.self.now.g in
    let at : ℕ = a.i * w in
    let row : List ℕ = c.restore-all.new.stripe in
    let f : c.copy_from_slice.new.self ≡ a.bytes.now = c.copy_from_slice.ensures.after in
    let e = ap (put_mid at (at + w - at) row) f ∙ back row a.bytes.now at (at + w) w refl c.requires.3 in
    record {
      stripe = row;
      restored = subst (λ (x : List ℕ). Restored a.self.now.g.n a.k a.t a.self.now.there w c.restore-all.result x row) c.gather_stripe.ensures c.restore-all.ensures;
      answer = c.encode.result;
      encoded = subst (λ (x : List ℕ). Encoded a.k (a.self.now.g.n - a.k) w c.encode.result x c.encode.new.stripe) e c.encode.ensures;
    }
