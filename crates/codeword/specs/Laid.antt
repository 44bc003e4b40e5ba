-- Stripes made of their bytes. Assumes nothing.
use Rattle.std.specs.Prelude.{◌≡◌, refl, List, [], ◌∷◌, ℕ, zero, suc, ◌+◌, ◌*◌, ◌/◌, ◌%◌, ◌≤◌, ◌<◌, get_or}
use Rattle.std.proofs.Common.{ap₂, ◌∙◌, mod-lt, arith, lit<}
use Rattle.std.proofs.Math.Arith.{digits_lt, digits_div, digits_mod}
use Rattle.codeword.specs.Stripe.{byte_at}
use Rattle.codeword.specs.Unique.{AllBytes}

-- f 0, f 1, .. f (n - 1)
build : ℕ → (ℕ → ℕ) → List ℕ
build zero f = []
build (suc n) f = f 0 ∷ build n (λ i. f (suc i))

build_at : (n : ℕ) (f : ℕ → ℕ) (i : ℕ) → i < n → get_or (build n f) i 0 ≡ f i
unfolding build
build_at zero f i h = absurd (omega arith)
build_at (suc n) f zero h = refl
build_at (suc n) f (suc i) h = build_at n (λ i. f (suc i)) i (omega arith)

build_bytes : (n : ℕ) (f : ℕ → ℕ) → ((i : ℕ) → f i < 256) → AllBytes (build n f)
unfolding build
build_bytes zero f h i = lit< tt
build_bytes (suc n) f h zero = h 0
build_bytes (suc n) f h (suc i) = build_bytes n (λ i. f (suc i)) (λ i. h (suc i)) i

-- the stripe of n shards that has the bytes x p 0, x p 1, .. at position p
pub laid : ℕ → ℕ → (ℕ → ℕ → ℕ) → List ℕ
laid n len x = build (n * len) (λ i. x (i % len) (i / len))

pub laid_at : (n len : ℕ) (x : ℕ → ℕ → ℕ) (p r : ℕ) → p < len → r < n → byte_at len (laid n len x) p r ≡ x p r
unfolding laid
laid_at n len x p r hp hr =
    build_at (n * len) (λ i. x (i % len) (i / len)) (r * len + p) (digits_lt hr hp) ∙ ap₂ x (digits_mod r hp) (digits_div r hp)

pub laid_bytes : (n len : ℕ) (x : ℕ → ℕ → ℕ) → 1 ≤ len → ((p r : ℕ) → p < len → x p r < 256) → AllBytes (laid n len x)
unfolding laid
laid_bytes n len x h b = build_bytes (n * len) (λ i. x (i % len) (i / len)) (λ i. b (i % len) (i / len) (mod-lt i (omega arith)))
