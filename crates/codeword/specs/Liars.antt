-- Wrong shards: what a stripe that is not sound tells about them, and for m = 2 what it can't. The theorems come from `determined`
-- alone. Assumes nothing.
use Rattle.std.specs.Prelude.{Bool, true, false, cond, List, [], ◌∷◌, ◌≢◌, ℕ, ◌+◌, ◌*◌, ◌<◌, set}
use Rattle.std.proofs.Common.{sym, ap, ◌∙◌, true≢false, arith, get_or-set_other, eq-eqb}
use Rattle.codeword.specs.Stripe.{byte_at, AgreeOff}

-- s and t differ somewhere in shard r
abbrev pub Differ : ℕ → ℕ → List ℕ → List ℕ → Type 0
Differ len r s t = (p : ℕ) × (p < len) × (byte_at len s p r ≢ byte_at len t p r)

-- ---- with m = 2 that can be: document 01, section 4. Of a stripe of zeros shards 0 and 1 are wrong, and shard 3 is accused

abbrev pub found : List ℕ
found = 0x01 ∷ 0x7b ∷ 0 ∷ 0 ∷ 0 ∷ 0 ∷ []

pub third_alone : AgreeOff 6 1 (3 ∷ []) found (set found 3 0x7a)
third_alone r h n p l = sym (get_or-set_other found 3 (r * 1 + p) 0x7a 0 (λ q. true≢false (ap (λ (b : Bool). cond b true false) (sym (eq-eqb 3 r (omega arith))) ∙ n)))
