-- A unit put to a ring of characteristic 2 that has none: a pair of a Bool and an element x stands for 1 + x or for x. So the
-- solver proves identities of operations whose unit law holds of some numbers only, as bytes. Assumes nothing.
use Rattle.std.specs.Prelude.{◌≡◌, refl, Bool, true, false}
use Rattle.std.proofs.Common.{sym, ap, ap₂, ◌∙◌}
use Rattle.algebra.specs.Ring.{Ring}

-- a ring of characteristic 2 but for the unit
pub record Rng (A : Type 0) : Type 0 where
  pub add : A → A → A
  pub mul : A → A → A
  pub O : A
  pub add_comm : (a b : A) → add a b ≡ add b a
  pub add_assoc : (a b c : A) → add (add a b) c ≡ add a (add b c)
  pub add_zero : (a : A) → add a O ≡ a
  pub add_self : (a : A) → add a a ≡ O
  pub mul_comm : (a b : A) → mul a b ≡ mul b a
  pub mul_assoc : (a b c : A) → mul (mul a b) c ≡ mul a (mul b c)
  pub mul_add : (a b c : A) → mul a (add b c) ≡ add (mul a b) (mul a c)

-- sum and product of two Bools, as 0 and 1 modulo 2
abbrev pub other : Bool → Bool → Bool
other true true = false
other true false = true
other false b = b

abbrev pub also : Bool → Bool → Bool
also true b = b
also false b = false

-- b times x
abbrev pub act : {A : Type 0} → A → Bool → A → A
act O true x = x
act O false x = O

pub other_comm : (b c : Bool) → other b c ≡ other c b
other_comm true true = refl
other_comm true false = refl
other_comm false true = refl
other_comm false false = refl

pub other_assoc : (b c d : Bool) → other (other b c) d ≡ other b (other c d)
other_assoc true true true = refl
other_assoc true true false = refl
other_assoc true false d = refl
other_assoc false c d = refl

pub other_false : (b : Bool) → other b false ≡ b
other_false true = refl
other_false false = refl

pub other_self : (b : Bool) → other b b ≡ false
other_self true = refl
other_self false = refl

pub also_comm : (b c : Bool) → also b c ≡ also c b
also_comm true true = refl
also_comm true false = refl
also_comm false true = refl
also_comm false false = refl

pub also_assoc : (b c d : Bool) → also (also b c) d ≡ also b (also c d)
also_assoc true c d = refl
also_assoc false c d = refl

pub also_true : (b : Bool) → also b true ≡ b
also_true true = refl
also_true false = refl

pub also_other : (b c d : Bool) → also b (other c d) ≡ other (also b c) (also b d)
also_other true c d = refl
also_other false c d = refl

module _ {A : Type 0} (N : Rng A) where
  open N use {add as ◌⊞◌, mul as ◌⊠◌, O, add_comm, add_assoc, add_zero, add_self, mul_comm, mul_assoc, mul_add}

  infixl 60 ◌⊞◌
  infixl 70 ◌⊠◌
  zero_l : (a : A) → O ⊞ a ≡ a
  zero_l a = add_comm O a ∙ add_zero a

  left_comm : (a b c : A) → a ⊞ (b ⊞ c) ≡ b ⊞ (a ⊞ c)
  left_comm a b c = sym (add_assoc a b c) ∙ ap (λ (x : A). x ⊞ c) (add_comm a b) ∙ add_assoc b a c

  mul_zero : (a : A) → a ⊠ O ≡ O
  mul_zero a = ap (λ (x : A). a ⊠ x) (sym (add_self O)) ∙ mul_add a O O ∙ add_self (a ⊠ O)

  add_mul : (a b c : A) → (a ⊞ b) ⊠ c ≡ a ⊠ c ⊞ b ⊠ c
  add_mul a b c = mul_comm (a ⊞ b) c ∙ mul_add c a b ∙ ap₂ ◌⊞◌ (mul_comm c a) (mul_comm c b)

  -- ---- the action of a Bool is a scalar's

  pub record Scalar (α : A → A) : Type 0 where
    pub on_sum : (x y : A) → α (x ⊞ y) ≡ α x ⊞ α y
    pub on_left : (x y : A) → α x ⊠ y ≡ α (x ⊠ y)
    pub on_right : (x y : A) → x ⊠ α y ≡ α (x ⊠ y)

  pub scalar : (b : Bool) → Scalar (act O b)
  scalar true = record { on_sum = λ x y. refl; on_left = λ x y. refl; on_right = λ x y. refl }
  scalar false =
      record { on_sum = λ x y. sym (add_self O); on_left = λ x y. mul_comm O y ∙ mul_zero y; on_right = λ x y. mul_zero x }

  act_also : (b c : Bool) (x : A) → act O (also b c) x ≡ act O b (act O c x)
  act_also true c x = refl
  act_also false c x = refl

  act_swap : (b c : Bool) (x : A) → act O b (act O c x) ≡ act O c (act O b x)
  act_swap true c x = refl
  act_swap false true x = refl
  act_swap false false x = refl

  act_other : (b c : Bool) (x : A) → act O (other b c) x ≡ act O b x ⊞ act O c x
  act_other true true x = sym (add_self x)
  act_other true false x = sym (add_zero x)
  act_other false c x = sym (zero_l (act O c x))

  -- the product, with any three scalars that commute in the Bools' place
  module _ (α β γ : A → A) (sα : Scalar α) (sβ : Scalar β) (sγ : Scalar γ) where
    pub assoc : ((x : A) → γ (α x) ≡ α (γ x)) → ((x : A) → γ (β x) ≡ β (γ x)) → (x y z : A)
        → α (β z) ⊞ (γ (α y ⊞ (β x ⊞ x ⊠ y)) ⊞ (α y ⊞ (β x ⊞ x ⊠ y)) ⊠ z)
        ≡ α (β z ⊞ (γ y ⊞ y ⊠ z)) ⊞ (β (γ x) ⊞ x ⊠ (β z ⊞ (γ y ⊞ y ⊠ z)))
    assoc ga gb x y z =
        simp (sα.on_sum, sγ.on_sum, sα.on_left, sβ.on_left, sγ.on_right, sβ.on_right, ga, gb, add_assoc, left_comm, mul_assoc, mul_add, add_mul)

    pub dist : (x y z : A)
        → α (y ⊞ z) ⊞ (β x ⊞ γ x ⊞ x ⊠ (y ⊞ z)) ≡ (α y ⊞ (β x ⊞ x ⊠ y)) ⊞ (α z ⊞ (γ x ⊞ x ⊠ z))
    dist x y z = simp (sα.on_sum, add_assoc, left_comm, mul_add)

  -- ---- the pairs

  abbrev pub times : Bool × A → Bool × A → Bool × A
  times p q = (also p.0 q.0, act O p.0 q.1 ⊞ (act O q.0 p.1 ⊞ p.1 ⊠ q.1))

  pub pair : {b c : Bool} {x y : A} → b ≡ c → x ≡ y → ◌≡◌ {A = Bool × A} (b, x) (c, y)
  pair p q = λ i. (p i, q i)

  pub times_comm : (p q : Bool × A) → times p q ≡ times q p
  times_comm p q =
      pair (also_comm p.0 q.0)
      (left_comm (act O p.0 q.1) (act O q.0 p.1) (p.1 ⊠ q.1)
      ∙ ap (λ (k : A). act O q.0 p.1 ⊞ (act O p.0 q.1 ⊞ k)) (mul_comm p.1 q.1))

  pub times_assoc : (p q r : Bool × A) → times (times p q) r ≡ times p (times q r)
  times_assoc p q r =
      pair (also_assoc p.0 q.0 r.0)
      (ap (λ (k : A). k ⊞ (act O r.0 (times p q).1 ⊞ (times p q).1 ⊠ r.1)) (act_also p.0 q.0 r.1)
      ∙ assoc (act O p.0) (act O q.0) (act O r.0) (scalar p.0) (scalar q.0) (scalar r.0) (act_swap r.0 p.0) (act_swap r.0 q.0)
      p.1 q.1 r.1
      ∙ ap (λ (k : A). act O p.0 (times q r).1 ⊞ (k ⊞ p.1 ⊠ (times q r).1)) (sym (act_also q.0 r.0 p.1)))

  pub times_one : (b : Bool) (x : A) → act O b O ⊞ (x ⊞ x ⊠ O) ≡ x
  times_one true x = simp (mul_zero, add_zero, zero_l)
  times_one false x = simp (mul_zero, add_zero, zero_l)

  pub times_add : (p q r : Bool × A) → times p (other q.0 r.0, q.1 ⊞ r.1) ≡ (other (times p q).0 (times p r).0, (times p q).1 ⊞ (times p r).1)
  times_add p q r =
      pair (also_other p.0 q.0 r.0)
      (ap (λ (k : A). act O p.0 (q.1 ⊞ r.1) ⊞ (k ⊞ p.1 ⊠ (q.1 ⊞ r.1))) (act_other q.0 r.0 p.1)
      ∙ dist (act O p.0) (act O q.0) (act O r.0) (scalar p.0) (scalar q.0) (scalar r.0) p.1 q.1 r.1)

  abbrev pub adjoin : Ring (Bool × A)
  adjoin =
      record {
        add = λ p q. (other p.0 q.0, p.1 ⊞ q.1);
        mul = times;
        O = (false, O);
        I = (true, O);
        add_comm = λ p q. pair (other_comm p.0 q.0) (add_comm p.1 q.1);
        add_assoc = λ p q r. pair (other_assoc p.0 q.0 r.0) (add_assoc p.1 q.1 r.1);
        add_zero = λ p. pair (other_false p.0) (add_zero p.1);
        add_self = λ p. pair (other_self p.0) (add_self p.1);
        mul_comm = times_comm;
        mul_assoc = times_assoc;
        mul_one = λ p. pair (also_true p.0) (times_one p.0 p.1);
        mul_add = times_add;
      }
