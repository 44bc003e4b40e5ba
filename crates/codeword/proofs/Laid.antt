-- Stripes made of their bytes. Assumes nothing.
use Rattle.std.specs.Prelude.{◌≡◌, ℕ, ◌+◌, ◌<◌}
use Rattle.std.proofs.Common.{sym, ap, ◌∙◌, arith}
use Rattle.field.specs.Field.{mul_of}
use Rattle.codeword.specs.Sum.{total_ext}
use Rattle.codeword.specs.Stripe.{coef, Holds, byte_at, Sound}
use Rattle.codeword.specs.Laid.{laid, laid_at}

-- equations of bytes that are equal one by one
pub holds_ext : (k m : ℕ) (x y : ℕ → ℕ) → ((r : ℕ) → r < k + m → x r ≡ y r) → Holds k m x → Holds k m y
holds_ext k m x y e h j hj =
    sym (e (k + j) (omega arith)) ∙ h j hj
    ∙ total_ext k (λ i. mul_of (coef m j i) (x i)) (λ i. mul_of (coef m j i) (y i)) (λ i hi. ap (mul_of (coef m j i)) (e i (omega arith)))

pub laid_sound : (k m len : ℕ) (x : ℕ → ℕ → ℕ) → ((p : ℕ) → p < len → Holds k m (x p)) → Sound k m len (laid (k + m) len x)
laid_sound k m len x h p hp =
    holds_ext k m (x p) (byte_at len (laid (k + m) len x) p) (λ r hr. sym (laid_at (k + m) len x p r hp hr)) (h p hp)
