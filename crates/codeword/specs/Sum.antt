-- Sums of n terms in the field. Assumes nothing.
use Rattle.std.specs.Prelude.{◌≡◌, refl, Bool, true, false, cond, [], ◌∷◌, ◌≢◌, ◌⊎◌, ℕ, zero, suc, ◌+◌, ◌<◌, eqb}
use Rattle.std.proofs.Common.{sym, ap, ap₂, ◌∙◌, inl, inr, eq-or-lt_of_le, le_of_suc-le-suc, add-zero, add-suc, arith, lit<, eq-eqb, ne_eqb}
use Rattle.std.specs.Int.Bits.{bit_xor}
use Rattle.std.proofs.lemmas.Bool.{eqb-false}
use Rattle.algebra.specs.Ring.{◌⊕◌}
use Rattle.algebra.specs.Field.{X, Y, Z, P}
use Rattle.field.specs.Field.{mul_of}
use Rattle.field.proofs.Bytes.{bytes}
use Rattle.field.proofs.Solve.{solve}

-- f 0 + f 1 + .. + f (n - 1)
unfoldable pub total : ℕ → (ℕ → ℕ) → ℕ
total zero f = 0
total (suc n) f = bit_xor (total n f) (f n)

-- equal terms, equal sums
pub total_ext : (n : ℕ) (f g : ℕ → ℕ) → ((i : ℕ) → i < n → f i ≡ g i) → total n f ≡ total n g
unfolding total
total_ext zero f g h = refl
total_ext (suc n) f g h = ap₂ bit_xor (total_ext n f g (λ i l. h i (omega arith))) (h n (omega arith))

pub total_byte : (n : ℕ) (f : ℕ → ℕ) → ((i : ℕ) → i < n → f i < 256) → total n f < 256
unfolding total
total_byte zero f h = lit< tt
total_byte (suc n) f h = bytes.add_byte (total n f) (f n) (total_byte n f (λ i l. h i (omega arith))) (h n (omega arith))

pub total_zero : (n : ℕ) (f : ℕ → ℕ) → ((i : ℕ) → i < n → f i ≡ 0) → total n f ≡ 0
unfolding total
total_zero zero f h = refl
total_zero (suc n) f h = ap₂ bit_xor (total_zero n f (λ i l. h i (omega arith))) (h n (omega arith))

-- a sum of four terms, by their values
pub total_four : (f : ℕ → ℕ) {a b c d : ℕ} → f 0 ≡ a → f 1 ≡ b → f 2 ≡ c → f 3 ≡ d → total 4 f ≡ bit_xor (bit_xor (bit_xor a b) c) d
unfolding total
total_four f ea eb ec ed = ap₂ bit_xor (ap₂ bit_xor (ap₂ bit_xor ea eb) ec) ed

-- the sum of sums
pub total_add : (n : ℕ) (f g : ℕ → ℕ) → total n (λ i. bit_xor (f i) (g i)) ≡ bit_xor (total n f) (total n g)
unfolding total
total_add zero f g = refl
total_add (suc n) f g =
    ap (λ (x : ℕ). bit_xor x (bit_xor (f n) (g n))) (total_add n f g)
    ∙ solve (total n f ∷ total n g ∷ f n ∷ g n ∷ []) ((X ⊕ Y) ⊕ (Z ⊕ P)) ((X ⊕ Z) ⊕ (Y ⊕ P)) tt

-- c times a sum
pub total_mul : (n c : ℕ) (f : ℕ → ℕ) → total n (λ i. mul_of c (f i)) ≡ mul_of c (total n f)
unfolding total
total_mul zero c f = sym (bytes.mul_zero c)
total_mul (suc n) c f =
    ap (λ (x : ℕ). bit_xor x (mul_of c (f n))) (total_mul n c f) ∙ sym (bytes.mul_add c (total n f) (f n))

-- a sum in which only the term at a is not 0
pub total_only : (n a : ℕ) (f : ℕ → ℕ) → a < n → ((i : ℕ) → i < n → i ≢ a → f i ≡ 0) → total n f ≡ f a
unfolding total
total_only zero a f h z = absurd (omega arith)
total_only (suc n) a f h z = go (eq-or-lt_of_le (le_of_suc-le-suc h)) (λ l. total_only n a f l (λ i k q. z i (omega arith) q))
  where
    go : (a ≡ n) ⊎ (a < n) → (a < n → total n f ≡ f a) → bit_xor (total n f) (f n) ≡ f a
    go (inl e) ih = ap (λ (x : ℕ). bit_xor x (f n)) (total_zero n f (λ i l. z i (omega arith) (λ q. omega arith))) ∙ ap f (sym e)
    go (inr l) ih = ap₂ bit_xor (ih l) (z n (omega arith) (λ q. omega arith)) ∙ bytes.add_zero (f a)

-- the first n terms, and the next m
pub total_split : (n m : ℕ) (f : ℕ → ℕ) → total (n + m) f ≡ bit_xor (total n f) (total m (λ i. f (n + i)))
unfolding total
total_split n zero f = ap (λ (k : ℕ). total k f) (add-zero n) ∙ sym (bytes.add_zero (total n f))
total_split n (suc m) f =
    ap (λ (k : ℕ). total k f) (add-suc n m)
    ∙ ap (λ (x : ℕ). bit_xor x (f (n + m))) (total_split n m f)
    ∙ bytes.add_assoc (total n f) (total m (λ i. f (n + i))) (f (n + m))

-- f, but 0 at a
unfoldable pub except : ℕ → (ℕ → ℕ) → ℕ → ℕ
except a f i = cond (eqb i a) 0 (f i)

pub except_at : (a : ℕ) (f : ℕ → ℕ) → except a f a ≡ 0
unfolding except
except_at a f = ap (λ (b : Bool). cond b 0 (f a)) (eq-eqb a a refl)

pub except_off : (a i : ℕ) (f : ℕ → ℕ) → i ≢ a → except a f i ≡ f i
unfolding except
except_off a i f n = ap (λ (b : Bool). cond b 0 (f i)) (ne_eqb i a n)

pub except_byte : (a : ℕ) (f : ℕ → ℕ) → ((i : ℕ) → f i < 256) → (i : ℕ) → except a f i < 256
unfolding except
except_byte a f h i = go (eqb i a)
  where
    go : (b : Bool) → cond b 0 (f i) < 256
    go true = lit< tt
    go false = h i

-- two functions that agree but at a
pub except_ext : (a : ℕ) (f g : ℕ → ℕ) (i : ℕ) → (i ≢ a → f i ≡ g i) → except a f i ≡ except a g i
unfolding except
except_ext a f g i h = go (eqb i a) refl
  where
    go : (b : Bool) → eqb i a ≡ b → cond b 0 (f i) ≡ cond b 0 (g i)
    go true e = refl
    go false e = h (eqb-false i a e)

-- the term at a by itself, and the others
pub total_except : (n a : ℕ) (f : ℕ → ℕ) → a < n → total n f ≡ bit_xor (f a) (total n (except a f))
unfolding total
total_except zero a f h = absurd (omega arith)
total_except (suc n) a f h = go (eq-or-lt_of_le (le_of_suc-le-suc h)) (λ l. total_except n a f l)
  where
    go : (a ≡ n) ⊎ (a < n) → (a < n → total n f ≡ bit_xor (f a) (total n (except a f)))
        → bit_xor (total n f) (f n) ≡ bit_xor (f a) (bit_xor (total n (except a f)) (except a f n))
    go (inl e) ih =
        ap₂ bit_xor (total_ext n f (except a f) (λ i l. sym (except_off a i f (λ q. omega arith)))) (ap f (sym e))
        ∙ bytes.add_comm (total n (except a f)) (f a)
        ∙ ap (bit_xor (f a))
        (sym (ap (bit_xor (total n (except a f))) (ap (except a f) (sym e) ∙ except_at a f) ∙ bytes.add_zero (total n (except a f))))
    go (inr l) ih =
        ap₂ bit_xor (ih l) (sym (except_off a n f (λ q. omega arith)))
        ∙ bytes.add_assoc (f a) (total n (except a f)) (except a f n)
