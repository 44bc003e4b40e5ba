-- The turns of the loops: what is done, and what is left. Assumes nothing.
use Rattle.std.specs.Prelude.{◌≡◌, refl, List, ◌⊎◌, ℕ, zero, suc, ◌+◌, ◌≤◌, ◌<◌, length, get_or, set}
use Rattle.std.proofs.Common.{sym, ◌∙◌, subst, inl, inr, eq-or-lt_of_le, arith, length-set, get_or-set_same, get_or-set_other}
use Rattle.field.specs.Field.{pick}
use Rattle.field.specs.Each.{Each, Changed}

pub pick_pos : (d a : ℕ) → (d ≡ 0 → ⊥) → a ≡ pick d a
pick_pos zero a h = absurd (h refl)
pick_pos (suc d) a h = refl

-- ---- loops over two slices: the places below i have a byte that `made` allows, the others the old one

pub record Begun (made : ℕ → ℕ → ℕ → Type 0) (i : ℕ) (dst src new : List ℕ) : Type 0 where
  pub same : length new ≡ length dst
  pub done : (j : ℕ) → j < i → made (get_or dst j 0) (get_or src j 0) (get_or new j 0)
  pub left : (j : ℕ) → i ≤ j → get_or new j 0 ≡ get_or dst j 0

module _ (made : ℕ → ℕ → ℕ → Type 0) (dst src : List ℕ) where
  pub each_first : Begun made 0 dst src dst
  each_first = record { same = refl; done = λ j h. absurd (omega arith); left = λ j h. refl }

  pub each_turn : (i v : ℕ) (new : List ℕ) → Begun made i dst src new → i < length new → made (get_or new i 0) (get_or src i 0) v
      → Begun made (i + 1) dst src (set new i v)
  each_turn i v new b h e =
      record {
        same = length-set new i v ∙ b.same;
        done = λ j l. at j (eq-or-lt_of_le (omega arith));
        left = λ j l. get_or-set_other new i j v 0 (omega arith) ∙ b.left j (omega arith);
      }
    where
      here : made (get_or dst i 0) (get_or src i 0) (get_or (set new i v) i 0)
      here =
          subst (λ (x : ℕ). made (get_or dst i 0) (get_or src i 0) x) (sym (get_or-set_same new i v 0 h))
          (subst (λ (x : ℕ). made x (get_or src i 0) v) (b.left i (omega arith)) e)

      at : (j : ℕ) → (j ≡ i) ⊎ (j < i) → made (get_or dst j 0) (get_or src j 0) (get_or (set new i v) j 0)
      at j (inl q) = subst (λ (x : ℕ). made (get_or dst x 0) (get_or src x 0) (get_or (set new i v) x 0)) (sym q) here
      at j (inr l) =
          subst (λ (x : ℕ). made (get_or dst j 0) (get_or src j 0) x) (sym (get_or-set_other new i j v 0 (omega arith))) (b.done j l)

  pub each_done : (i : ℕ) (new : List ℕ) → Begun made i dst src new → length new ≤ i → Changed made dst src new
  each_done i new b h = record { same = b.same; each = λ j l. b.done j (omega (arith, b.same)) }

  -- where `made` allows no other byte than f's
  pub changed_each : (f : ℕ → ℕ → ℕ) (new : List ℕ) → ((d s r : ℕ) → made d s r → r ≡ f d s) → Changed made dst src new → Each f dst src new
  changed_each f new e c = record { same = c.same; each = λ i l. e _ _ _ (c.each i l) }
