-- LISTS OF BYTES, and a stripe of shards as a list: it is the one that has these shards. Assumes nothing.
use Rattle.std.specs.Prelude.{◌≡◌, Bool, true, false, cond, List, [], ◌∷◌, ◌++◌, ℕ, zero, suc, ◌+◌, ◌*◌, ◌≤◌, ◌<◌, ◌/◌, ◌%◌, length, get_or, take}
use Rattle.std.proofs.Common.{sym, subst, ◌∙◌, div-add-mod', div-lt_iff_lt-mul, mod-lt, arith, lit<, ext_get_or}
use Rattle.disk.specs.Limits.{sector_bytes}
use Rattle.disk.specs.Geometry.{strip_of, slot_of}
use Rattle.disk.specs.Mask.{in_mask}
use Rattle.disk.specs.Image.{place}
use Rattle.disk.specs.declared.geometry.Geometry.{Geometry}
use Rattle.codeword.specs.Stripe.{byte_at}
use Rattle.codeword.specs.Unique.{AllBytes}
use Rattle.position.specs.Row.{in_row, listed}
use Rattle.strips.specs.Seen.{shard_bytes, seen, shard_seen, row_seen}

small_append : (a b : List ℕ) → AllBytes a → AllBytes b → AllBytes (a ++ b)
small_append [] b h g i = g i
small_append (x ∷ a) b h g zero = h 0
small_append (x ∷ a) b h g (suc i) = small_append a b (λ j. h (suc j)) g i

pub small_front : (a b : List ℕ) → AllBytes (a ++ b) → AllBytes a
small_front [] b h i = lit< tt
small_front (x ∷ a) b h zero = h 0
small_front (x ∷ a) b h (suc i) = small_front a b (λ j. h (suc j)) i

pub small_take : (n : ℕ) (a : List ℕ) → AllBytes a → AllBytes (take n a)
small_take zero a h i = lit< tt
small_take (suc n) [] h i = lit< tt
small_take (suc n) (x ∷ a) h zero = h 0
small_take (suc n) (x ∷ a) h (suc i) = small_take n a (λ j. h (suc j)) i

small_listed : (n : ℕ) (f : ℕ → ℕ) → ((p : ℕ) → f p < 256) → AllBytes (listed n f)
unfolding listed
small_listed zero f h i = lit< tt
small_listed (suc n) f h zero = h 0
small_listed (suc n) f h (suc i) = small_listed n (λ j. f (suc j)) (λ j. h (suc j)) i

small_row : (n : ℕ) (f : ℕ → List ℕ) → ((r : ℕ) → AllBytes (f r)) → AllBytes (in_row n f)
small_row zero f h = λ i. lit< tt
small_row (suc n) f h = small_append (in_row n f) (f n) (small_row n f h) (h n)

small_cond : (b : Bool) (x y : ℕ) → x < 256 → y < 256 → cond b x y < 256
small_cond true x y h g = h
small_cond false x y h g = g

-- what is seen of bytes is bytes
pub small_seen : (g : Geometry) (img : List ℕ) (there over : ℕ) (kept : List ℕ) (t first count : ℕ) → AllBytes img → AllBytes kept
    → AllBytes (row_seen g img there over kept t first count)
unfolding row_seen shard_seen seen
small_seen g img there over kept t first count hi hk =
    small_row g.n _ (λ r. small_listed (count * sector_bytes) _ (λ p. small_cond (in_mask over (slot_of g.n t r)) _ _ (hk (r * shard_bytes g + (first * sector_bytes + p)))
    (small_cond (in_mask there (slot_of g.n t r)) _ 0 (hi (place g.sectors (slot_of g.n t r) (strip_of g t) + (first * sector_bytes + p))) (lit< tt))))

-- two stripes with the same shards
pub shards_same : (n w : ℕ) (x y : List ℕ) → 1 ≤ w → length x ≡ n * w → length y ≡ n * w
    → ((r p : ℕ) → r < n → p < w → byte_at w x p r ≡ byte_at w y p r) → x ≡ y
shards_same n w x y some hx hy e =
    ext_get_or 0 x y (hx ∙ sym hy) (λ i l. subst (λ (j : ℕ). get_or x j 0 ≡ get_or y j 0) (div-add-mod' i w)
    (e (i / w) (i % w) ((div-lt_iff_lt-mul {k = w} {x = i} {y = n} some).1 (omega arith)) (mod-lt i some)))
