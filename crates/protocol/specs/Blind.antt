-- Start-up does not depend on what an absent slot holds: with the same present sectors it does the same.
use Prim.Native.Nat.{ℕ, ◌<◌}
use Rattle.std.specs.Prelude.{◌≡◌}
use Rattle.std.proofs.Math.Path.{refl, ap, fun_ext}
use Rattle.std.proofs.Math.Bool.{Bool, true, false, cond}
use Rattle.std.proofs.Math.Dec.{ltb}
use Rattle.protocol.specs.World.{Place, label, slot, Image}
use Rattle.protocol.specs.Slots.{leader}
use Rattle.protocol.specs.Log.{RecordCodec}
use Rattle.protocol.specs.Label.{Label, Size, Quorum, LabelCodec, copy}
use Rattle.protocol.specs.Startup.{newest, seen, lead, M}

module _ {X : Type 0} (z : Size) (W : Quorum z.n) (C : LabelCodec X z.n) (K : RecordCodec X) (absent : ℕ → Bool) (f g : Image X) (same : (k : Place) → absent (slot k) ≡ false → f k ≡ g k) (some : 0 < M z C absent f) where
  pub newest_same : (d : ℕ) → absent d ≡ false → newest z C absent f d ≡ newest z C absent g d
  unfolding copy
  newest_same d a =
      let p : copy C f d false ≡ copy C g d false = ap (C.decode d false) (same (label d false) a) in
      let q : copy C f d true ≡ copy C g d true = ap (C.decode d true) (same (label d true) a) in
      λ i. cond (ltb (p i).generation (q i).generation) (q i) (p i)

  pub seen_same : seen z C absent f ≡ seen z C absent g
  seen_same = fun_ext (λ d. go d (absent d) refl)
    where
      go : (d : ℕ) (b : Bool) → absent d ≡ b → cond (absent d) 0 (newest z C absent f d).generation ≡ cond (absent d) 0 (newest z C absent g d).generation
      go d true e = rw e
      go d false e = ap (λ (l : Label). cond (absent d) 0 l.generation) (newest_same d e)

  pub leads : lead z C absent f ≡ lead z C absent g
  leads = ap (λ (k : ℕ → ℕ). leader k z.n) seen_same

  pub M_same : M z C absent f ≡ M z C absent g
  M_same = λ i. seen_same i (leads i)
