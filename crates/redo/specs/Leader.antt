-- The greatest stamp decides, of the lowest slot that has it: no key is later than the leader's, and it is later than each
-- one of a lower slot. Assumes nothing.
use Rattle.std.specs.Prelude.{◌≡◌, Bool, ◌⊎◌, eqb}
use Rattle.std.proofs.Math.Path.{refl}
use Rattle.std.proofs.Common.{sym, ap, ◌∙◌, true≢false, ⊎_elim, eq-or-lt_of_le, le_of_suc-le-suc, eqb-true}
use Rattle.std.proofs.Math.Bool.{true, false, cond}
use Prim.Native.Nat.{ℕ, zero, suc, ◌<◌}
use native.Mathlib.Omega.{arith}
use Rattle.disk.specs.Tests.{and_left, and_right}
use Rattle.record.specs.Stamp.{zero_stamp, later_of, later_is, later_not_self, later_trans, later_or}
use Rattle.record.specs.declared.stamp.Stamp.{Stamp}
use Rattle.redo.specs.Decide.{leader_of}

module _ (key : ℕ → Stamp) where
  pub leader_below : (n : ℕ) → 0 < n → leader_of key n < n
  unfolding leader_of
  leader_below zero h = h
  leader_below (suc zero) h = by (later_of (key 0) (key 0))
    where
      by : (b : Bool) → cond b 0 0 < 1
      by true = omega arith
      by false = omega arith
  leader_below (suc (suc n)) h = by (leader_below (suc n) (omega arith)) (later_of (key (suc n)) (key (leader_of key (suc n))))
    where
      by : leader_of key (suc n) < suc n → (b : Bool) → cond b (suc n) (leader_of key (suc n)) < suc (suc n)
      by r true = omega arith
      by r false = omega arith

  -- no slot's key is later
  pub leader_top : (n d : ℕ) → d < n → later_of (key d) (key (leader_of key n)) ≡ false
  unfolding leader_of
  leader_top zero d h = absurd (omega arith)
  leader_top (suc n) d h = by (leader_top n d) (later_of (key n) (key (leader_of key n))) refl (eq-or-lt_of_le (le_of_suc-le-suc h))
    where
      L : ℕ
      L = leader_of key n

      not_later : later_of (key n) (key L) ≡ true → (r : Bool) → later_of (key d) (key n) ≡ r → later_of (key d) (key L) ≡ false → r ≡ false
      not_later e true q z = absurd (true≢false (sym (later_trans (key d) (key n) (key L) q e) ∙ z))
      not_later e false q z = refl

      by : (d < n → later_of (key d) (key L) ≡ false) → (b : Bool) → later_of (key n) (key L) ≡ b → (d ≡ n) ⊎ (d < n) → later_of (key d) (key (cond b n L)) ≡ false
      by r true e s = ⊎_elim (λ (q : d ≡ n). ap (λ (i : ℕ). later_of (key i) (key n)) q ∙ later_not_self (key n)) (λ (q : d < n). not_later e (later_of (key d) (key n)) refl (r q)) s
      by r false e s = ⊎_elim (λ (q : d ≡ n). ap (λ (i : ℕ). later_of (key i) (key L)) q ∙ e) r s

  -- and it is later than that of each lower slot
  pub leader_first : (n d : ℕ) → d < leader_of key n → later_of (key (leader_of key n)) (key d) ≡ true
  unfolding leader_of
  leader_first zero d h = absurd (omega arith)
  leader_first (suc n) d h = by (leader_first n d) (later_of (key n) (key (leader_of key n))) refl h
    where
      L : ℕ
      L = leader_of key n

      by : (d < L → later_of (key L) (key d) ≡ true) → (b : Bool) → later_of (key n) (key L) ≡ b → d < cond b n L → later_of (key (cond b n L)) (key d) ≡ true
      by r true e h =
          ⊎_elim (λ (q : later_of (key d) (key L) ≡ true). absurd (true≢false (sym q ∙ leader_top n d h)))
          (⊎_elim (λ (q : later_of (key L) (key d) ≡ true). later_trans (key n) (key L) (key d) e q) (λ (q : key d ≡ key L). ap (later_of (key n)) q ∙ e)) (later_or (key d) (key L))
      by r false e h = r h

-- only the stamp of zeros is not later than it
pub zero_top : (a b : Stamp) → zero_stamp b ≡ true → later_of a b ≡ false → zero_stamp a ≡ true
unfolding zero_stamp
zero_top a b z e =
    let p : b.epoch ≡ 0 = eqb-true b.epoch 0 (and_left (eqb b.epoch 0) (eqb b.count 0) z) in
    let q : b.count ≡ 0 = eqb-true b.count 0 (and_right (eqb b.epoch 0) (eqb b.count 0) z) in
    ⊎_elim (λ (h : later_of a b ≡ true). absurd (true≢false (sym h ∙ e)))
    (⊎_elim
    (λ (h : later_of b a ≡ true). ⊎_elim (λ (m : a.epoch < b.epoch). absurd (omega arith)) (λ (m : (b.epoch ≡ a.epoch) × (a.count < b.count)). absurd (omega (arith, m.1))) (later_is b a h))
    (λ (h : a ≡ b). ap zero_stamp h ∙ z)) (later_or a b)
