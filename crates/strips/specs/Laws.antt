-- What is seen and what is shown, byte by byte. A rebuild of what is seen gives what is shown; what lies in slots that are not there
-- makes no difference. Assumes nothing.
use Rattle.std.specs.Prelude.{◌≡◌, Bool, true, false, leb, take, drop, replicate, Ok, Err}
use Rattle.std.proofs.Math.Path.{sym, ap}
use Rattle.std.proofs.Common.{◌∙◌, length-drop, get_or-take, get_or-drop, length-take-le, le-leb, eq-eqb, leb-true}
use Rattle.std.proofs.Math.Bool.{cond, not}
use mathlib.Core.List.{List}
use Prim.Native.Nat.{ℕ, ◌+◌, ◌-◌, ◌*◌, ◌≤◌, ◌<◌}
use Rattle.std.proofs.Math.Nat.{mul_assoc, suc-mul, mul-le-mul_right}
use native.Mathlib.Omega.{arith}
use Rattle.std.proofs.Math.ListN.{length, get_or, length-replicate, get_or-replicate}
use Rattle.std.proofs.Math.Seq.{ext_get_or}
use Rattle.std.proofs.lemmas.Bool.{not-false}
use Rattle.field.specs.Refusal.{Answer}
use Rattle.field.specs.declared.Refusal.TheVariants.{BadShape, TooMany, BadShard}
use Rattle.disk.specs.Limits.{sector_bytes}
use Rattle.disk.specs.Geometry.{strip_of, slot_of, Splits, slot_lt}
use Rattle.disk.proofs.GeometryLaws.{strip_inside}
use Rattle.disk.specs.Image.{place}
use Rattle.disk.specs.Mask.{in_mask}
use Rattle.disk.specs.declared.geometry.Geometry.{Geometry}
use Rattle.codeword.specs.Stripe.{k_least, k_most, m_least, m_most, len_most, InRange, byte_at, has}
use Rattle.solve.specs.Lost.{shards_of}
use Rattle.code.specs.Shape.{shaped_of}
use Rattle.code.specs.Stripes.{Rebuilt}
use Rattle.position.specs.Row.{row_length, row_at, listed, listed_length, listed_at}
use Rattle.position.specs.Position.{ascending_has, filled_off, filled_blind}
use Rattle.position.specs.Lists.{ascending_shards}
use Rattle.position.specs.Rebuild.{rebuilt_filled}
use Rattle.strips.specs.Seen.{shard_bytes, lost_of, seen, shown_byte, shard_seen, row_seen, shard_shown}
use Rattle.strips.specs.Answers.{few_lost, Part}

-- ---- lists

-- a part of a list, by its elements
pub part_listed : (l : List ℕ) (at w : ℕ) (f : ℕ → ℕ) → at + w ≤ length l → ((p : ℕ) → p < w → get_or l (at + p) 0 ≡ f p) → take w (drop at l) ≡ listed w f
part_listed l at w f h e =
    let n : length (take w (drop at l)) ≡ w = length-take-le w (drop at l) (omega (arith, length-drop at l)) in
    ext_get_or 0 (take w (drop at l)) (listed w f) (n ∙ sym (listed_length w f))
    (λ p q. let hp : p < w = omega arith in get_or-take w (drop at l) p 0 hp ∙ get_or-drop at l p 0 ∙ e p hp ∙ sym (listed_at w f p hp))

pub listed_ext : (w : ℕ) (f h : ℕ → ℕ) → ((p : ℕ) → p < w → f p ≡ h p) → listed w f ≡ listed w h
listed_ext w f h e =
    ext_get_or 0 (listed w f) (listed w h) (listed_length w f ∙ sym (listed_length w h))
    (λ p q. let hp : p < w = omega (arith, listed_length w f) in listed_at w f p hp ∙ e p hp ∙ sym (listed_at w h p hp))

-- count sectors from sector s of slot d lie within
pub inside : (n S d s count : ℕ) → d < n → s + count ≤ S → place S d s + count * sector_bytes ≤ n * S * sector_bytes
inside n S d s count hd hs = omega (arith, suc-mul d S, mul-le-mul_right S hd)

-- ---- what is seen

module _ (g : Geometry) (img : List ℕ) (there over : ℕ) (kept : List ℕ) (t first count : ℕ) where
  abbrev w : ℕ
  w = count * sector_bytes

  pub seen_length : (r : ℕ) → length (shard_seen g img there over kept t first count r) ≡ w
  unfolding shard_seen
  seen_length r = listed_length w (λ p. seen g img there over kept t r (first * sector_bytes + p))

  pub row_bytes : length (row_seen g img there over kept t first count) ≡ g.n * w
  unfolding row_seen
  row_bytes = row_length w (shard_seen g img there over kept t first count) g.n (λ i l. seen_length i)

  -- byte by byte
  pub row_byte : (r p : ℕ) → r < g.n → p < w → byte_at w (row_seen g img there over kept t first count) p r ≡ seen g img there over kept t r (first * sector_bytes + p)
  unfolding row_seen shard_seen
  row_byte r p hr hp =
      row_at w (shard_seen g img there over kept t first count) g.n (λ i l. seen_length i) r p hr hp
      ∙ listed_at w (λ p. seen g img there over kept t r (first * sector_bytes + p)) p hp

  module _ (b : Part g img kept t first count) (r : ℕ) (hr : r < g.n) where
    abbrev d : ℕ
    d = slot_of g.n t r

    -- its slot is in `over`
    pub seen_over : in_mask over d ≡ true → take w (drop (place g.c r first) kept) ≡ shard_seen g img there over kept t first count r
    unfolding shard_seen seen
    seen_over e =
        part_listed kept (place g.c r first) w (λ p. seen g img there over kept t r (first * sector_bytes + p))
        (omega (arith, inside g.n g.c r first count hr b.within, b.keeps, mul_assoc g.n g.c sector_bytes))
        (λ p hp.
        let q : place g.c r first + p ≡ r * shard_bytes g + (first * sector_bytes + p) = omega (arith, mul_assoc r g.c sector_bytes) in
        ap (λ (i : ℕ). get_or kept i 0) q
        ∙ ap (λ (s : Bool). cond s (get_or kept (r * shard_bytes g + (first * sector_bytes + p)) 0) (cond (in_mask there d) (get_or img (place g.sectors d (strip_of g t) + (first * sector_bytes + p)) 0) 0)) (sym e))

    -- its slot is in `there` alone
    pub seen_there : in_mask over d ≡ false → in_mask there d ≡ true
        → take w (drop (place g.sectors d (strip_of g t + first)) img) ≡ shard_seen g img there over kept t first count r
    unfolding shard_seen seen
    seen_there e f =
        part_listed img (place g.sectors d (strip_of g t + first)) w (λ p. seen g img there over kept t r (first * sector_bytes + p))
        (omega (arith, inside g.n g.sectors d (strip_of g t + first) count (slot_lt g.n t (omega arith) r) (omega (arith, strip_inside g b.range t b.stripe, b.within)), b.whole))
        (λ p hp.
        let q : place g.sectors d (strip_of g t + first) + p ≡ place g.sectors d (strip_of g t) + (first * sector_bytes + p) = omega arith in
        ap (λ (i : ℕ). get_or img i 0) q
        ∙ ap (λ (s : Bool). cond s (get_or img (place g.sectors d (strip_of g t) + (first * sector_bytes + p)) 0) 0) (sym f)
        ∙ ap (λ (s : Bool). cond s (get_or kept (r * shard_bytes g + (first * sector_bytes + p)) 0) (cond (in_mask there d) (get_or img (place g.sectors d (strip_of g t) + (first * sector_bytes + p)) 0) 0)) (sym e))

  -- in neither
  pub seen_none : (r : ℕ) → in_mask over (slot_of g.n t r) ≡ false → in_mask there (slot_of g.n t r) ≡ false
      → replicate w 0 ≡ shard_seen g img there over kept t first count r
  unfolding shard_seen seen
  seen_none r e f =
      let h : ℕ → ℕ = λ p. seen g img there over kept t r (first * sector_bytes + p) in
      ext_get_or 0 (replicate w 0) (listed w h) (length-replicate {A = ℕ} w 0 ∙ sym (listed_length w h))
      (λ p q.
      let hp : p < w = omega (arith, length-replicate {A = ℕ} w 0) in
      get_or-replicate {A = ℕ} w p 0 0 hp
      ∙ ap (λ (s : Bool). cond s (get_or img (place g.sectors (slot_of g.n t r) (strip_of g t) + (first * sector_bytes + p)) 0) 0) (sym f)
      ∙ ap (λ (s : Bool). cond s (get_or kept (r * shard_bytes g + (first * sector_bytes + p)) 0) (cond (in_mask there (slot_of g.n t r)) (get_or img (place g.sectors (slot_of g.n t r) (strip_of g t) + (first * sector_bytes + p)) 0) 0)) (sym e)
      ∙ sym (listed_at w h p hp))

-- ---- what is lost

pub lost_has : (n t there r : ℕ) → r < n → has (lost_of n t there) r ≡ not (in_mask there (slot_of n t r))
unfolding lost_of
lost_has n t there r h = ascending_has (λ r. not (in_mask there (slot_of n t r))) n r h

pub lost_shards : (n t there : ℕ) → shards_of n (lost_of n t there) ≡ true
unfolding lost_of
lost_shards n t there = ascending_shards (λ r. not (in_mask there (slot_of n t r))) n n (omega arith)

pub few_means : (n k t there : ℕ) → few_lost n k t there ≡ true → length (lost_of n t there) ≤ n - k
unfolding few_lost
few_means n k t there e = leb-true (length (lost_of n t there)) (n - k) e

pub code_range : (n k : ℕ) → Splits n k → InRange k (n - k)
code_range n k s =
    record {
      k_least_lem = s.least;
      k_most_lem = s.most;
      m_least_lem = omega (arith, s.parity);
      m_most_lem = omega (arith, s.few);
    }

-- a stripe of n shards of w bytes has a shape that is taken
pub row_shaped : (n k w size : ℕ) → Splits n k → 1 ≤ w → w ≤ len_most → size ≡ n * w → shaped_of k (n - k) w size ≡ true
unfolding shaped_of
row_shaped n k w size s some short e =
    let q : k + (n - k) ≡ n = omega (arith, s.parity) in
    rw (
      le-leb k_least k s.least,
      le-leb k k_most s.most,
      le-leb m_least (n - k) (omega (arith, s.parity)),
      le-leb (n - k) m_most (omega (arith, s.few)),
      le-leb 1 w some,
      le-leb w len_most short,
      eq-eqb size ((k + (n - k)) * w) (e ∙ ap (λ (i : ℕ). i * w) (sym q)),
    )

-- a rebuild of the lost shards is not refused
pub rebuild_done : (n k w t there : ℕ) → Splits n k → 1 ≤ w → w ≤ len_most → few_lost n k t there ≡ true → (a : Answer) (before after : List ℕ) → length before ≡ n * w
    → Rebuilt k (n - k) w (lost_of n t there) a before after → a ≡ Ok tt
rebuild_done n k w t there s some short few a before after e b =
    let lost : List ℕ = lost_of n t there in
    let q : k + (n - k) ≡ n = omega (arith, s.parity) in
    b.answers
    ∙ ap (λ (x : Bool). cond x (cond (leb (length lost) (n - k)) (cond (shards_of (k + (n - k)) lost) (Ok tt) (Err BadShard)) (Err TooMany)) (Err BadShape))
    (row_shaped n k w (length before) s some short e)
    ∙ ap (λ (x : Bool). cond x (cond (shards_of (k + (n - k)) lost) (Ok tt) (Err BadShard)) (Err TooMany)) (le-leb (length lost) (n - k) (few_means n k t there few))
    ∙ ap (λ (x : Bool). cond x (Ok tt) (Err BadShard)) (ap (λ (i : ℕ). shards_of i lost) q ∙ lost_shards n t there)

-- ---- what is shown

module _ (g : Geometry) (k : ℕ) (img : List ℕ) (there over : ℕ) (kept : List ℕ) (t : ℕ) where
  -- a shard whose slot is there is shown as it is seen
  pub shown_seen : (r q : ℕ) → r < g.n → in_mask there (slot_of g.n t r) ≡ true → shown_byte g k img there over kept t r q ≡ seen g img there over kept t r q
  unfolding shown_byte
  shown_seen r q hr e =
      filled_off k (g.n - k) (lost_of g.n t there) (λ i. seen g img there over kept t i q) r
      (lost_has g.n t there r hr ∙ ap not e)

  pub shown_there : (first count r : ℕ) → r < g.n → in_mask there (slot_of g.n t r) ≡ true
      → shard_seen g img there over kept t first count r ≡ shard_shown g k img there over kept t first count r
  unfolding shard_seen shard_shown
  shown_there first count r hr e =
      listed_ext (count * sector_bytes) (λ p. seen g img there over kept t r (first * sector_bytes + p)) (λ p. shown_byte g k img there over kept t r (first * sector_bytes + p))
      (λ p hp. sym (shown_seen r (first * sector_bytes + p) hr e))

  -- A REBUILD OF WHAT IS SEEN has, shard by shard, what is shown
  pub rebuilt_shown : (first count : ℕ) → Splits g.n k → 1 ≤ count → count * sector_bytes ≤ len_most → few_lost g.n k t there ≡ true → (a : Answer) (before after : List ℕ)
      → before ≡ row_seen g img there over kept t first count → Rebuilt k (g.n - k) (count * sector_bytes) (lost_of g.n t there) a before after
      → (r : ℕ) → r < g.n → take (count * sector_bytes) (drop (r * (count * sector_bytes)) after) ≡ shard_shown g k img there over kept t first count r
  unfolding shard_shown shown_byte
  rebuilt_shown first count s some short few a before after e b r hr =
      let w : ℕ = count * sector_bytes in
      let len : length before ≡ g.n * w = ap length e ∙ row_bytes g img there over kept t first count in
      let done : a ≡ (Ok tt) = rebuild_done g.n k w t there s (omega arith) short few a before after len b in
      let in_k : r < k + (g.n - k) = omega (arith, s.parity) in
      part_listed after (r * w) w (λ p. shown_byte g k img there over kept t r (first * sector_bytes + p))
      (omega (arith, b.same, suc-mul r w, mul-le-mul_right w hr))
      (λ p hp.
      rebuilt_filled k (g.n - k) w (code_range g.n k s) (lost_of g.n t there) (few_means g.n k t there few) a before after b done r p in_k hp
      ∙ filled_blind k (g.n - k) (lost_of g.n t there) (byte_at w before p) (λ i. seen g img there over kept t i (first * sector_bytes + p))
      (λ i hi n. ap (λ (l : List ℕ). byte_at w l p i) e ∙ row_byte g img there over kept t first count i p (omega (arith, s.parity)) hp) r in_k)

-- WHAT LIES IN SLOTS THAT ARE NOT THERE makes no difference: images that agree at the strips of the slots that are there show the same
pub shown_blind : (g : Geometry) (k : ℕ) (img other : List ℕ) (there over : ℕ) (kept : List ℕ) (t r q : ℕ) → k ≤ g.n → r < g.n
    → ((d : ℕ) → d < g.n → in_mask there d ≡ true → get_or img (place g.sectors d (strip_of g t) + q) 0 ≡ get_or other (place g.sectors d (strip_of g t) + q) 0)
    → shown_byte g k img there over kept t r q ≡ shown_byte g k other there over kept t r q
unfolding shown_byte seen
shown_blind g k img other there over kept t r q hk hr e =
    filled_blind k (g.n - k) (lost_of g.n t there) (λ i. seen g img there over kept t i q) (λ i. seen g other there over kept t i q)
    (λ i hi n. same i (omega arith) (not-false (in_mask there (slot_of g.n t i)) (sym (lost_has g.n t there i (omega arith)) ∙ n)))
    r (omega arith)
  where
    same : (i : ℕ) → i < g.n → in_mask there (slot_of g.n t i) ≡ true → seen g img there over kept t i q ≡ seen g other there over kept t i q
    same i hi h =
        ap (λ (x : ℕ). cond (in_mask over (slot_of g.n t i)) (get_or kept (i * shard_bytes g + q) 0) (cond (in_mask there (slot_of g.n t i)) x 0))
        (e (slot_of g.n t i) (slot_lt g.n t (omega arith) i) h)
