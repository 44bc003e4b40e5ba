-- The slots that a request concerns, one by one. Assumes nothing.
use Rattle.std.specs.Prelude.{◌≡◌, refl, Bool, true, false, cond, not, ◌&&◌, ◌||◌, ℕ, zero, suc, ◌+◌, ◌-◌, ◌<◌, ◌^◌, ltb, eqb}
use Rattle.std.proofs.Common.{sym, ap, ap₂, ◌∙◌, ⊎_elim, pow-suc, eq-or-lt_of_le, add-one, arith, pow_pos, ltb-true, ltb-false, eqb-true, lt-ltb, le-ltb}
use Rattle.std.proofs.lemmas.Bool.{eqb-false}
use Rattle.disk.specs.Mask.{in_mask, with_slot, in_with, in_past, slots_below}
use Rattle.requests.specs.Begun.{joined, slots_but}

-- one slot more
pub slots_turn : (absent d mask r : ℕ) → mask ≡ slots_but absent d → r ≡ joined absent mask d → r ≡ slots_but absent (d + 1)
unfolding slots_but
slots_turn absent d mask r e q = q ∙ ap (λ (x : ℕ). joined absent x d) e ∙ ap (slots_but absent) (sym (add-one d))

below_suc : (d n : ℕ) → ltb d (suc n) ≡ (eqb d n || ltb d n)
below_suc d n = by (eqb d n) refl
  where
    other : (b : Bool) → ltb d n ≡ b → (d ≡ n → ⊥) → ltb d (suc n) ≡ b
    other true t ne = lt-ltb d (suc n) (omega (arith, ltb-true d n t))
    other false t ne =
        ⊎_elim (λ (e : n ≡ d). absurd (ne (sym e))) (λ (l : n < d). le-ltb d (suc n) l) (eq-or-lt_of_le (ltb-false d n t))

    by : (b : Bool) → eqb d n ≡ b → ltb d (suc n) ≡ (b || ltb d n)
    by true q = lt-ltb d (suc n) (omega (arith, eqb-true d n q))
    by false q = other (ltb d n) refl (eqb-false d n q)

and_false : (b : Bool) → (b && false) ≡ false
and_false true = refl
and_false false = refl

pub slots_are : (absent n d : ℕ) → in_mask (slots_but absent n) d ≡ (ltb d n && not (in_mask absent d))
unfolding slots_but joined
slots_are absent zero d =
    in_past 0 0 d (pow_pos 0) (omega arith) ∙ sym (ap (λ (b : Bool). b && not (in_mask absent d)) (le-ltb d 0 (omega arith)))
slots_are absent (suc n) d = by (in_mask absent n) refl (slots_are absent n d)
  where
    M : ℕ
    M = slots_but absent n

    -- another slot than n
    other : eqb d n ≡ false → (ltb d n && not (in_mask absent d)) ≡ (ltb d (suc n) && not (in_mask absent d))
    other t = ap (λ (b : Bool). b && not (in_mask absent d)) (sym (below_suc d n ∙ ap (λ (b : Bool). b || ltb d n) t))

    -- n is absent
    away : (e : Bool) → eqb d n ≡ e → in_mask absent n ≡ true → (ltb d n && not (in_mask absent d)) ≡ (ltb d (suc n) && not (in_mask absent d))
    away true t q =
        let a : in_mask absent d ≡ true = ap (in_mask absent) (eqb-true d n t) ∙ q in
        ap (λ (x : Bool). ltb d n && not x) a ∙ and_false (ltb d n) ∙ sym (and_false (ltb d (suc n))) ∙ sym (ap (λ (x : Bool). ltb d (suc n) && not x) a)
    away false t q = other t

    -- n is not
    near : (e : Bool) → eqb d n ≡ e → in_mask absent n ≡ false → in_mask M d ≡ (ltb d n && not (in_mask absent d))
        → (e || in_mask M d) ≡ (ltb d (suc n) && not (in_mask absent d))
    near true t q ih =
        let x : ltb d (suc n) ≡ true = lt-ltb d (suc n) (omega (arith, eqb-true d n t)) in
        let y : in_mask absent d ≡ false = ap (in_mask absent) (eqb-true d n t) ∙ q in
        sym (ap₂ (λ (a b : Bool). a && not b) x y)
    near false t q ih = ih ∙ other t

    by : (b : Bool) → in_mask absent n ≡ b → in_mask M d ≡ (ltb d n && not (in_mask absent d))
        → in_mask (cond b M (with_slot M n)) d ≡ (ltb d (suc n) && not (in_mask absent d))
    by true q ih = ih ∙ away (eqb d n) refl q
    by false q ih = in_with M n d ∙ near (eqb d n) refl q ih

pub slots_lt : (absent n : ℕ) → slots_but absent n < 2 ^ n
slots_lt absent n =
    slots_below n (slots_but absent n) (λ e h. slots_are absent n e ∙ ap (λ (b : Bool). b && not (in_mask absent e)) (le-ltb e n h))

-- with none absent: all n
pub all_slots : (n : ℕ) → slots_but 0 n ≡ 2 ^ n - 1
unfolding slots_but joined with_slot
all_slots zero = refl
all_slots (suc n) =
    let M : ℕ = slots_but 0 n in
    let ih : slots_but 0 n ≡ 2 ^ n - 1 = all_slots n in
    let a : in_mask 0 n ≡ false = in_past 0 0 n (pow_pos 0) (omega arith) in
    let b : in_mask M n ≡ false = slots_are 0 n n ∙ ap (λ (x : Bool). x && not (in_mask 0 n)) (le-ltb n n (omega arith)) in
    let s : M + 2 ^ n ≡ 2 ^ suc n - 1 = omega (arith, pow-suc 2 n, pow_pos n) in
    ap (λ (x : Bool). cond x M (with_slot M n)) a ∙ ap (λ (x : Bool). cond x M (M + 2 ^ n)) b ∙ s
