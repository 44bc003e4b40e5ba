-- What `all` and `any` over the numbers below n return, for a closure that computes a test p of each number below n and changes
-- no capture. `all_below` and `any_below` end in any q that is defined by one number more, as q p (suc k) is q p k && p k.
-- Assumes nothing.
use Rattle.std.specs.Prelude.{◌≡◌, refl, Bool, true, false, ◌&&◌, ◌||◌, not, ◌⊎◌, List, [], ◌∷◌, ℕ, zero, suc, ◌+◌, ◌≤◌, ◌<◌, Option}
use Rattle.std.specs.declared.option.Option.TheVariants.{Some, None}
use Rattle.std.specs.declared.ops.Range.{Range}
use Rattle.std.specs.Fn.{Called}
use Rattle.std.specs.Iterator.{Yields, YieldsThen}
use Rattle.std.specs.List.{FoldsTo}
use Rattle.std.specs.Option.{MatchOption}
use Rattle.std.proofs.Common.{sym, ap, ap₂, ◌∙◌, subst, inl, inr, ⊎_elim, eq-or-lt_of_le, le_of_suc-le-suc, arith}
use Rattle.std.proofs.iter.Yields.{nat_range_steps}
use Rattle.std.proofs.Math.Bool.{or-true, and-false}
use denote.Param.Members.{Mut}
use Rattle.disk.specs.Tests.{both}

-- the calls of a closure that answered b go on, and one that doesn't ends them
abbrev pub Ran : {F : Type 0} → Mut F (ℕ × Unit {0}) Bool → F → Bool → Range ℕ → Range ℕ → Bool → Type 0
Ran {F} g f b s u r =
    (xs : List ℕ) × (o : Option ℕ) × (j : F) × YieldsThen nat_range_steps s xs o u × FoldsTo (λ h x q. Called g h (x, tt) b q) f xs j
    × MatchOption o (r ≡ b) (λ x. (r ≡ not b) × ((h : F) × Called g j (x, tt) (not b) h))

-- the closure computes p of each number below n, and stays as it is
abbrev pub Computes : {F : Type 0} → Mut F (ℕ × Unit {0}) Bool → F → (ℕ → Bool) → ℕ → Type 0
Computes {F} g f p n = (x : ℕ) (b : Bool) (h : F) → x < n → Called g f (x, tt) b h → (h ≡ f) × (b ≡ p x)

-- each test answers b, and so did the calls; or one doesn't
Found : (ℕ → Bool) → Bool → ℕ → ℕ → Bool → Type 0
Found p b a n r = ((r ≡ b) × ((d : ℕ) → a ≤ d → d < n → p d ≡ b)) ⊎ ((r ≡ not b) × ((d : ℕ) × (a ≤ d) × (d < n) × (p d ≡ not b)))

module _ {F : Type 0} (g : Mut F (ℕ × Unit {0}) Bool) (f : F) (p : ℕ → Bool) (n : ℕ) (k : Computes g f p n) (b r : Bool) where
  -- the call that ended them, if there is one
  Ends : Option ℕ → F → Type 0
  Ends o j = MatchOption o (r ≡ b) (λ x. (r ≡ not b) × ((h : F) × Called g j (x, tt) (not b) h))

  last : (a : ℕ) (t u : Range ℕ) (o : Option ℕ) → t.start ≡ a → t.end ≡ n → nat_range_steps t o u → Ends o f → Found p b a n r
  unfolding Found Ends
  last a t u None d e z m = inl (m, λ c i l. absurd (omega (arith, z.1)))
  last a t u (Some x) d e z m =
      let l : x < n = omega (arith, z.1) in
      inr (m.0, (a, omega arith, omega (arith, z.1), ap p (sym d ∙ sym z.1.1) ∙ sym (k x (not b) m.1.0 l m.1.1).1))

  walk : (xs : List ℕ) (a : ℕ) (s t u : Range ℕ) (o : Option ℕ) (j : F) → s.start ≡ a → s.end ≡ n → Yields nat_range_steps s xs t
      → nat_range_steps t o u → FoldsTo (λ h x q. Called g h (x, tt) b q) f xs j → Ends o j → Found p b a n r
  unfolding Found
  walk [] a s t u o j d e y z h m =
      last a t u o (ap (λ (v : Range ℕ). v.start) (sym y) ∙ d) (ap (λ (v : Range ℕ). v.end) (sym y) ∙ e) z (subst (Ends o) (sym h) m)
  walk (x ∷ xs) a s t u o j d e y z h m =
      let l : x < n = omega (arith, y.1) in
      let c = k x b h.0 l h.1 in
      let q : x ≡ a = y.1.1.1 ∙ d in
      let rest = walk xs (a + 1) y.0 t u o j (omega (arith, y.1)) (y.1.0 ∙ e) y.2 z (subst (λ (i : F). FoldsTo (λ h x q. Called g h (x, tt) b q) i xs j) c.0 h.2) m in
      ⊎_elim
      (λ (v : (r ≡ b) × ((d : ℕ) → a + 1 ≤ d → d < n → p d ≡ b)).
      inl (v.0, λ d i w. ⊎_elim (λ (y : a ≡ d). ap p (sym y ∙ sym q) ∙ sym c.1) (λ (y : a < d). v.1 d (omega arith) w) (eq-or-lt_of_le i)))
      (λ (v : (r ≡ not b) × ((d : ℕ) × (a + 1 ≤ d) × (d < n) × (p d ≡ not b))). inr (v.0, (v.1.0, omega (arith, v.1.1), v.1.2, v.1.3))) rest

-- ---- by one number more

all_true : (q p : ℕ → Bool) → q 0 ≡ true → ((k : ℕ) → q (suc k) ≡ (q k && p k)) → (n : ℕ) → ((d : ℕ) → d < n → p d ≡ true) → q n ≡ true
all_true q p z s zero h = z
all_true q p z s (suc n) h = s n ∙ both (q n) (p n) (all_true q p z s n (λ d l. h d (omega arith))) (h n (omega arith))

all_false : (q p : ℕ → Bool) → ((k : ℕ) → q (suc k) ≡ (q k && p k)) → (n d : ℕ) → d < n → p d ≡ false → q n ≡ false
all_false q p s zero d l h = absurd (omega arith)
all_false q p s (suc n) d l h = s n
    ∙ ⊎_elim (λ (e : d ≡ n). ap (λ (b : Bool). q n && b) (ap p (sym e) ∙ h) ∙ and-false (q n))
    (λ (i : d < n). ap (λ (b : Bool). b && p n) (all_false q p s n d i h)) (eq-or-lt_of_le (le_of_suc-le-suc l))

any_false : (q p : ℕ → Bool) → q 0 ≡ false → ((k : ℕ) → q (suc k) ≡ (q k || p k)) → (n : ℕ) → ((d : ℕ) → d < n → p d ≡ false) → q n ≡ false
any_false q p z s zero h = z
any_false q p z s (suc n) h = s n ∙ ap₂ ◌||◌ (any_false q p z s n (λ d l. h d (omega arith))) (h n (omega arith))

any_true : (q p : ℕ → Bool) → ((k : ℕ) → q (suc k) ≡ (q k || p k)) → (n d : ℕ) → d < n → p d ≡ true → q n ≡ true
any_true q p s zero d l h = absurd (omega arith)
any_true q p s (suc n) d l h = s n
    ∙ ⊎_elim (λ (e : d ≡ n). ap (λ (b : Bool). q n || b) (ap p (sym e) ∙ h) ∙ or-true (q n))
    (λ (i : d < n). ap (λ (b : Bool). b || p n) (any_true q p s n d i h)) (eq-or-lt_of_le (le_of_suc-le-suc l))

-- ---- what the calls return

module _ {F : Type 0} {g : Mut F (ℕ × Unit {0}) Bool} {f : F} {p : ℕ → Bool} {n : ℕ} {u : Range ℕ} {r : Bool} where
  pub all_below : (q : (ℕ → Bool) → ℕ → Bool) → q p 0 ≡ true → ((k : ℕ) → q p (suc k) ≡ (q p k && p k))
      → Ran g f true (record { start = 0; end = n }) u r → Computes g f p n → r ≡ q p n
  unfolding Found Ends
  all_below q z s e k =
      ⊎_elim (λ (v : (r ≡ true) × ((d : ℕ) → 0 ≤ d → d < n → p d ≡ true)). v.0 ∙ sym (all_true (q p) p z s n (λ d. v.1 d (omega arith))))
      (λ (v : (r ≡ false) × ((d : ℕ) × (0 ≤ d) × (d < n) × (p d ≡ false))). v.0 ∙ sym (all_false (q p) p s n v.1.0 v.1.2 v.1.3))
      (walk g f p n k true r e.0 0 (record { start = 0; end = n }) e.3.0 u e.1 e.2 refl refl e.3.1 e.3.2 e.4 e.5)

  pub any_below : (q : (ℕ → Bool) → ℕ → Bool) → q p 0 ≡ false → ((k : ℕ) → q p (suc k) ≡ (q p k || p k))
      → Ran g f false (record { start = 0; end = n }) u r → Computes g f p n → r ≡ q p n
  unfolding Found Ends
  any_below q z s e k =
      ⊎_elim (λ (v : (r ≡ false) × ((d : ℕ) → 0 ≤ d → d < n → p d ≡ false)). v.0 ∙ sym (any_false (q p) p z s n (λ d. v.1 d (omega arith))))
      (λ (v : (r ≡ true) × ((d : ℕ) × (0 ≤ d) × (d < n) × (p d ≡ true))). v.0 ∙ sym (any_true (q p) p s n v.1.0 v.1.2 v.1.3))
      (walk g f p n k false r e.0 0 (record { start = 0; end = n }) e.3.0 u e.1 e.2 refl refl e.3.1 e.3.2 e.4 e.5)
