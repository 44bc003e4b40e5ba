-- What the requests of blocks and stripes are refused for, in the document's order. Assumes nothing.
use Rattle.std.specs.Prelude.{◌≡◌, refl, Bool, true, false, cond, ◌&&◌, ℕ, ◌+◌, ◌*◌, ◌≤◌, leb, ltb, eqb, Ok, Err}
use Rattle.std.proofs.Common.{sym, ap, subst, ◌∙◌, true≢false, mul_assoc, arith, eqb-true}
use Rattle.disk.specs.Limits.{least_n, most_n, most_c, sector_bytes, most_k, most_m}
use Rattle.disk.specs.Tests.{and_left, and_right, both}
use Rattle.disk.specs.Geometry.{strip_length, in_range, splits, in_range_with, stripes_of, blocks_of, placed, product_le, InRange}
use Rattle.disk.specs.Image.{fits_image}
use Rattle.disk.specs.declared.geometry.Geometry.{Geometry}
use Rattle.disk.specs.declared.geometry.DataShard.{DataShard}
use Rattle.disk.specs.declared.refusal.Refusal.{Refusal}
use Rattle.disk.specs.declared.refusal.Refusal.TheVariants.{BadImage, TooFew, BadBlock, Busy, NotNow, BadBuffer}
use Rattle.disk.specs.Refusal.{Outcome}
use Rattle.disk.specs.Geometry.{Placed}
use Rattle.label.specs.Fields.{geometry_of, fits_of}
use Rattle.label.proofs.Fits.{fits_says}
use Rattle.label.specs.declared.fields.Label.{Label}
use Rattle.requests.specs.Begun.{work_bytes, first}
use Rattle.requests.specs.Ready.{has_shelf}
use Rattle.requests.specs.Accepted.{passed, has_fits}
use Rattle.stages.specs.declared.state.Kind.{Kind}
use Rattle.stages.specs.declared.state.Kind.TheVariants.{Nothing, Idle, Creating, Starting, Labelling, Writing, Beginning, Filling}
use Rattle.blocks.specs.Slots.{too_few}

-- reads are served: create or start-up has answered
abbrev pub serves : Kind → Bool
serves Nothing = false
serves Idle = true
serves Creating = false
serves Starting = false
serves Labelling = true
serves Writing = true
serves Beginning = true
serves Filling = true

-- no shelf: NOT_NOW; another image: BAD_IMAGE
unfoldable pub look_answer : Label → Kind → ℕ → Outcome
look_answer l kind len = cond (has_shelf l kind) (cond (fits_image (geometry_of l) len) (Ok tt) (Err BadImage)) (Err NotNow)

-- then: more than m slots missing TOO_FEW; no such block or stripe BAD_BLOCK; another request under way BUSY; no sense in this state NOT_NOW;
-- buffers of another size BAD_BUFFER
unfoldable pub answered : Bool → Bool → Bool → Bool → Bool → Outcome
answered few inside idle sense sized =
    cond few (Err TooFew)
    (cond inside (cond idle (cond sense (cond sized (Ok tt) (Err BadBuffer)) (Err NotNow)) (Err Busy)) (Err BadBlock))

-- the work area has its size, and the data is a block
unfoldable pub sizes : ℕ → ℕ → ℕ → ℕ → Bool
sizes n c bytes room = eqb room (work_bytes n c) && eqb bytes (c * sector_bytes)

-- a read or a write of a block
unfoldable pub block_answer : Label → ℕ → Bool → Bool → ℕ → ℕ → ℕ → Outcome
block_answer l absent idle sense block bytes room =
    answered (too_few l absent) (ltb block (blocks_of (geometry_of l) l.k)) idle sense (sizes (l.k + l.m) l.c bytes room)

-- the work area has its size
unfoldable pub sized_of : Label → ℕ → Bool
sized_of l room = eqb room (work_bytes (l.k + l.m) l.c)

-- a scrub or a repair of a stripe
unfoldable pub stripe_answer : Label → ℕ → Bool → Bool → Bool → ℕ → Outcome
stripe_answer l absent idle sense sized t = answered (too_few l absent) (ltb t (stripes_of (geometry_of l))) idle sense sized

-- ---- what the tests of a request that is not refused say

pub look_done : (l : Label) (kind : Kind) (len : ℕ) → look_answer l kind len ≡ Ok tt → (fits_of l ≡ true) × (fits_image (geometry_of l) len ≡ true)
unfolding look_answer
look_done l kind len e =
    let p = passed (has_shelf l kind) _ NotNow e in
    (has_fits l kind p.0, (passed (fits_image (geometry_of l) len) _ BadImage p.1).0)

is_done : Outcome → Bool
is_done (Ok tt) = true
is_done (Err why) = false

pub never : (why : Refusal) → ◌≡◌ {A = Outcome} (Err why) (Ok tt) → ⊥
unfolding is_done
never why e = true≢false (sym (ap is_done e))

pub record Passed (few inside idle sense sized : Bool) : Type 0 where
  pub enough : few ≡ false
  pub there_is : inside ≡ true
  pub at_rest : idle ≡ true
  pub makes_sense : sense ≡ true
  pub fit : sized ≡ true

pub answered_done : (few inside idle sense sized : Bool) → answered few inside idle sense sized ≡ Ok tt → Passed few inside idle sense sized
unfolding answered
answered_done true inside idle sense sized e = absurd (never TooFew e)
answered_done false false idle sense sized e = absurd (never BadBlock e)
answered_done false true false sense sized e = absurd (never Busy e)
answered_done false true true false sized e = absurd (never NotNow e)
answered_done false true true true false e = absurd (never BadBuffer e)
answered_done false true true true true e = record { enough = refl; there_is = refl; at_rest = refl; makes_sense = refl; fit = refl }

-- the first of two is not refused, nor the second
pub first_done : (o p : Outcome) → first o p ≡ Ok tt → (o ≡ Ok tt) × (p ≡ Ok tt)
first_done (Ok tt) p e = (refl, e)
first_done (Err why) p e = absurd (never why e)

pub first_stops : (o p : Outcome) (why : Refusal) → o ≡ Err why → Err why ≡ first o p
first_stops o p why e = ap (λ (x : Outcome). first x p) (sym e)

pub first_goes : (o p : Outcome) → o ≡ Ok tt → p ≡ first o p
first_goes o p e = ap (λ (x : Outcome). first x p) (sym e)

-- the work area of a shelf: each slot's strip twice
pub work_is : (l : Label) → in_range (geometry_of l) ≡ true → work_bytes (l.k + l.m) l.c ≡ 2 * (l.k + l.m) * l.c * sector_bytes
unfolding work_bytes in_range
work_is l e =
    let n : ℕ = l.k + l.m in
    let e1 = and_right (leb least_n n) _ e in
    let e2 = and_right (leb n most_n) _ e1 in
    ap (λ (b : Bool). cond b (2 * n * l.c * sector_bytes) 0)
    (both (leb least_n n) _ (and_left (leb least_n n) _ e)
    (both (leb n most_n) (strip_length l.c) (and_left (leb n most_n) _ e1) (and_left (strip_length l.c) _ e2)))

-- ---- what the answer to a question of place tells

is_shard : Placed → Bool
is_shard (Ok p) = true
is_shard (Err why) = false

shard_is : (a b : Bool) (t r : ℕ) → a ≡ true → is_shard (placed a b t r) ≡ b
unfolding is_shard
shard_is true true t r e = refl
shard_is true false t r e = refl
shard_is false b t r e = absurd (true≢false (sym e))

pub placed_yes : (f : Placed) (a b : Bool) (t r : ℕ) {x : DataShard} → f ≡ placed a b t r → a ≡ true → f ≡ Ok x → true ≡ b
unfolding is_shard
placed_yes f a b t r e h g = sym (ap is_shard g) ∙ ap is_shard e ∙ shard_is a b t r h

pub placed_no : (f : Placed) (a b : Bool) (t r : ℕ) {why : Refusal} → f ≡ placed a b t r → a ≡ true → f ≡ Err why → false ≡ b
unfolding is_shard
placed_no f a b t r e h g = sym (ap is_shard g) ∙ ap is_shard e ∙ shard_is a b t r h

-- ---- a label in range has n, c, S and k in range

pub ranged : (l : Label) → fits_of l ≡ true → in_range_with (geometry_of l) l.k ≡ true
unfolding fits_of
ranged l e = and_left (in_range_with (geometry_of l) l.k) _ (and_right (leb l.m most_m) _ (and_right (leb l.k most_k) _ e))

pub range_of : (l : Label) → fits_of l ≡ true → in_range (geometry_of l) ≡ true
unfolding in_range_with
range_of l e = and_left (in_range (geometry_of l)) (splits (l.k + l.m) l.k) (ranged l e)

pub splits_of : (l : Label) → fits_of l ≡ true → splits (l.k + l.m) l.k ≡ true
unfolding in_range_with
splits_of l e = and_right (in_range (geometry_of l)) (splits (l.k + l.m) l.k) (ranged l e)

-- ---- half of the work area is a stripe

pub half_le : (l : Label) (room : ℕ) → fits_of l ≡ true → room ≡ work_bytes (l.k + l.m) l.c → (l.k + l.m) * (l.c * sector_bytes) ≤ room
half_le l room f e =
    let n : ℕ = l.k + l.m in
    omega (arith, e, work_is l (range_of l f), mul_assoc n l.c sector_bytes, mul_assoc 2 n l.c)

pub sized_half : (l : Label) (room : ℕ) → fits_of l ≡ true → sized_of l room ≡ true → (l.k + l.m) * (l.c * sector_bytes) ≤ room
unfolding sized_of
sized_half l room f e = half_le l room f (eqb-true room (work_bytes (l.k + l.m) l.c) e)

-- the bytes of the largest stripe
abbrev pub most_stripe : ℕ
most_stripe = 77824

-- the same of the geometry that was found
module _ (l : Label) (g : Geometry) (f : fits_of l ≡ true) (ge : g ≡ geometry_of l) where
  pub range_at : InRange g
  range_at = subst InRange (sym ge) (fits_says l f).range

  pub half_small : g.n * (g.c * sector_bytes) ≤ most_stripe
  half_small =
      let r = range_at in
      product_le g.n (g.c * sector_bytes) most_n (most_c * sector_bytes) r.few (omega (arith, r.short))

  pub half_at : (room : ℕ) → room ≡ work_bytes (l.k + l.m) l.c → g.n * (g.c * sector_bytes) ≤ room
  half_at room e = let q = ap (λ (x : Geometry). x.n * (x.c * sector_bytes)) ge in omega (arith, q, half_le l room f e)
