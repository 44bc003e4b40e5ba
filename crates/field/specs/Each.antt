-- What the functions over two slices do, place by place. Assumes nothing.
use Rattle.std.specs.Prelude.{◌≡◌, List, ◌≢◌, ℕ, ◌<◌, length, get_or, Ok, Err}
use Rattle.field.specs.Refusal.{Answer}
use Rattle.field.specs.declared.Refusal.TheVariants.{BadShape}

-- new has at each place f of the bytes that dst and src have there
pub record Each (f : ℕ → ℕ → ℕ) (dst src new : List ℕ) : Type 0 where
  pub same : length new ≡ length dst
  pub each : (i : ℕ) → i < length dst → get_or new i 0 ≡ f (get_or dst i 0) (get_or src i 0)

-- new has at each place a byte that `made` allows for the bytes that dst and src have there
pub record Changed (made : ℕ → ℕ → ℕ → Type 0) (dst src new : List ℕ) : Type 0 where
  pub same : length new ≡ length dst
  pub each : (i : ℕ) → i < length dst → made (get_or dst i 0) (get_or src i 0) (get_or new i 0)

-- slices of one length are combined; of two lengths they are refused, and nothing changes
abbrev pub Combined : (ℕ → ℕ → ℕ) → Answer → List ℕ → List ℕ → List ℕ → Type 0
Combined f (Ok tt) dst src new = (length dst ≡ length src) × Each f dst src new
Combined f (Err x) dst src new = (length dst ≢ length src) × (x ≡ BadShape) × (new ≡ dst)
