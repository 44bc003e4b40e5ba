-- The tail: stamp, stripe, shards, then the last bytes of each of the strip's sectors, then zeros. What can be a write's
-- tail, and that a tail that was written reads back. Assumes nothing.
use Rattle.std.specs.Prelude.{◌≡◌, refl, Bool, true, ◌&&◌, cond, not, List, [], ◌++◌, ℕ, zero, suc, ◌+◌, ◌*◌, ◌-◌, ◌≤◌, ◌<◌, ◌^◌, ltb, leb, eqb, length, take, drop, replicate, Ok, Err, Some, None, Option}
use Rattle.std.proofs.Common.{sym, ap, ap₂, ◌∙◌, ⊎_elim, append_assoc, append-nil, suc-mul, eq-or-lt_of_le, le_of_suc-le-suc, add-one, arith, length-drop, length-append, drop_of_length-le, take_at, drop_at, take_all, length-take-le, drop-drop}
use Rattle.std.proofs.lemmas.List.{length-replicate}
use Rattle.std.proofs.Math.Seq.{paste, drop-append-add}
use Rattle.std.proofs.lemmas.List.Edits.{length-paste}
use Rattle.disk.specs.Limits.{sector_bytes}
use Rattle.disk.specs.Geometry.{strip_length}
use Rattle.disk.specs.Number.{number_at, with_number, bytes_of, with_append}
use Rattle.disk.proofs.NumberLaws.{number_append}
use Rattle.disk.specs.declared.refusal.Refusal.TheVariants.{BadImage, BadBuffer}
use Rattle.disk.specs.Refusal.{Outcome}
use Rattle.record.specs.Layout.{body, stripe_at, shards_at, rests_at, rest}
use Rattle.record.specs.Stamp.{stamp_at, stamp_bytes, with_stamp, zero_stamp, StampFits, stamp_back, with_stamp_lem, stamp_zeros}
use Rattle.record.specs.declared.tail.Tail.{Tail}

-- what a sector holds as a tail
abbrev pub Found : Type 0
Found = Option Tail

-- ---- reading

-- the fields of a tail
unfoldable pub tail_at : List ℕ → Tail
tail_at b = record { stamp = stamp_at b; stripe = number_at 8 b stripe_at; shards = number_at 8 b shards_at }

-- a write can have this tail: its stamp is not that of zeros, its epoch no later than the settled generation, its stripe
-- one of T, its shards some of n
unfoldable pub may_be : Tail → ℕ → ℕ → ℕ → Bool
may_be x T n generation =
    not (zero_stamp x.stamp)
    && (leb x.stamp.epoch generation && (ltb x.stripe T && (not (eqb x.shards 0) && ltb x.shards (2 ^ n))))

unfoldable pub decode_of : List ℕ → ℕ → ℕ → ℕ → Found
decode_of b T n generation = cond (may_be (tail_at b) T n generation) (Some (tail_at b)) None

-- ---- writing

-- the last bytes of each of the first c sectors of a strip
unfoldable pub rests : ℕ → List ℕ → List ℕ
rests zero v = []
rests (suc s) v = rests s v ++ take rest (drop (s * sector_bytes + body) v)

-- the fields' bytes
unfoldable pub field_bytes : Tail → List ℕ
field_bytes x = stamp_bytes x.stamp ++ (bytes_of 8 x.stripe ++ bytes_of 8 x.shards)

-- the tail of a record of a strip of c sectors
unfoldable pub tail_sector : Tail → ℕ → List ℕ → List ℕ
tail_sector x c v = field_bytes x ++ (rests c v ++ replicate (sector_bytes - rests_at - c * rest) 0)

-- what writing one answers, and leaves
unfoldable pub tail_answer : ℕ → ℕ → ℕ → Outcome
tail_answer c lv lo =
    cond (strip_length c) (cond (eqb lv (c * sector_bytes) && eqb lo sector_bytes) (Ok tt) (Err BadBuffer)) (Err BadImage)

abbrev pub after_tail : Outcome → Tail → ℕ → List ℕ → List ℕ → List ℕ
after_tail (Ok tt) x c v out = tail_sector x c v
after_tail (Err why) x c v out = out

-- ---- laws

pub record TailFits (x : Tail) : Type 0 where
  pub stamps : StampFits x.stamp
  pub stripes : x.stripe < 2 ^ 64
  pub shardss : x.shards < 2 ^ 64

pub length_fields : (x : Tail) → length (field_bytes x) ≡ rests_at
unfolding field_bytes stamp_bytes bytes_of
length_fields x = refl

-- what is written reads back
pub tail_back : (x : Tail) (q : List ℕ) → TailFits x → tail_at (field_bytes x ++ q) ≡ x
unfolding tail_at field_bytes stamp_bytes bytes_of
tail_back x q f =
    let e : List ℕ = stamp_bytes x.stamp in
    λ i. record {
      stamp = stamp_back x.stamp ((bytes_of 8 x.stripe ++ bytes_of 8 x.shards) ++ q) f.stamps i;
      stripe = number_append 8 e (bytes_of 8 x.shards ++ q) x.stripe f.stripes i;
      shards = number_append 8 (e ++ bytes_of 8 x.stripe) q x.shards f.shardss i;
    }

-- decode of encode: every tail that a write can have comes back
pub decode_encode : (x : Tail) (c : ℕ) (v : List ℕ) (T n generation : ℕ) → TailFits x → may_be x T n generation ≡ true
    → decode_of (tail_sector x c v) T n generation ≡ Some x
unfolding decode_of tail_sector
decode_encode x c v T n generation f m =
    let q : List ℕ = rests c v ++ replicate (sector_bytes - rests_at - c * rest) 0 in
    ap (λ (y : Tail). cond {A = Found} (may_be y T n generation) (Some y) None) (tail_back x q f)
    ∙ ap (λ (b : Bool). cond {A = Found} b (Some x) None) m

-- a sector of zeros is no tail
pub decode_zeros : (T n generation : ℕ) → decode_of (replicate sector_bytes 0) T n generation ≡ None
unfolding decode_of may_be tail_at
decode_zeros T n generation =
    let y : Tail = tail_at (replicate sector_bytes 0) in
    ap
    (λ (b : Bool). cond {A = Found}
    (not b && (leb y.stamp.epoch generation && (ltb y.stripe T && (not (eqb y.shards 0) && ltb y.shards (2 ^ n))))) (Some y) None)
    stamp_zeros

-- ---- the bytes as they are written

unfoldable pub with_tail : List ℕ → Tail → List ℕ
with_tail b x = with_number 8 (with_number 8 (with_stamp b x.stamp) stripe_at x.stripe) shards_at x.shards

-- the last bytes of the first c sectors, each at its place
unfoldable pub pasted : ℕ → List ℕ → List ℕ → List ℕ
pasted zero v b = b
pasted (suc s) v b = paste (pasted s v b) (rests_at + s * rest) (take rest (drop (s * sector_bytes + body) v)) rest

with_tail_lem : (x : Tail) (b : List ℕ) → rests_at ≤ length b → with_tail b x ≡ field_bytes x ++ drop rests_at b
unfolding with_tail field_bytes stamp_bytes bytes_of
with_tail_lem x b h =
    let e : List ℕ = stamp_bytes x.stamp in
    let t : List ℕ = bytes_of 8 x.stripe in
    let s : List ℕ = bytes_of 8 x.shards in
    ap (λ (y : List ℕ). with_number 8 (with_number 8 y 16 x.stripe) 24 x.shards) (with_stamp_lem b x.stamp (omega arith))
    ∙ ap (λ (y : List ℕ). with_number 8 y 24 x.shards) (with_append 8 e (drop 16 b) x.stripe (omega (arith, length-drop 16 b)))
    ∙ ap (λ (y : List ℕ). with_number 8 (e ++ (t ++ y)) 24 x.shards) (drop-drop 8 16 b)
    ∙ with_append 8 (e ++ t) (drop 24 b) x.shards (omega (arith, length-drop 24 b))
    ∙ ap (λ (y : List ℕ). (e ++ t) ++ (s ++ y)) (drop-drop 8 24 b)

-- bytes that are put behind p
pub paste_seam : (p z y : List ℕ) (at n : ℕ) → length p ≡ at → length y ≡ n → paste (p ++ z) at y n ≡ p ++ (y ++ drop n z)
paste_seam p z y at n lp ly =
    ap₂ (λ (u w : List ℕ). u ++ w ++ drop (at + n) (p ++ z)) (take_at p z at lp) (take_all n y (omega arith))
    ∙ ap (λ (w : List ℕ). p ++ y ++ w) (ap (λ (k : ℕ). drop (k + n) (p ++ z)) (sym lp) ∙ drop-append-add p z n)
    ∙ append_assoc p y (drop n z)

drop_replicate : (k n : ℕ) → drop k (replicate {A = ℕ} n 0) ≡ replicate (n - k) 0
drop_replicate zero n = let e : n - 0 ≡ n = omega arith in ap (λ (m : ℕ). replicate m 0) (sym e)
drop_replicate (suc k) zero = let e : 0 - suc k ≡ 0 = omega arith in ap (λ (m : ℕ). replicate m 0) (sym e)
drop_replicate (suc k) (suc n) = let e : n - k ≡ suc n - suc k = omega arith in drop_replicate k n ∙ ap (λ (m : ℕ). replicate m 0) e

-- each sector of the strip has its last bytes
length_rest : (s : ℕ) (v : List ℕ) → suc s * sector_bytes ≤ length v → length (take rest (drop (s * sector_bytes + body) v)) ≡ rest
length_rest s v h =
    length-take-le rest (drop (s * sector_bytes + body) v) (omega (arith, length-drop (s * sector_bytes + body) v, suc-mul s sector_bytes))

pub length_rests : (c : ℕ) (v : List ℕ) → c * sector_bytes ≤ length v → length (rests c v) ≡ c * rest
unfolding rests
length_rests zero v h = refl
length_rests (suc s) v h =
    length-append (rests s v) (take rest (drop (s * sector_bytes + body) v))
    ∙ ap₂ (λ (x y : ℕ). x + y) (length_rests s v (omega (arith, suc-mul s sector_bytes))) (length_rest s v h)
    ∙ sym (suc-mul s rest)

pasted_is : (h v : List ℕ) → length h ≡ rests_at → (c : ℕ) → c * sector_bytes ≤ length v
    → pasted c v (h ++ replicate (sector_bytes - rests_at) 0) ≡ h ++ (rests c v ++ replicate (sector_bytes - rests_at - c * rest) 0)
unfolding pasted rests
pasted_is h v lh zero l = refl
pasted_is h v lh (suc s) l =
    let r : List ℕ = rests s v in
    let y : List ℕ = take rest (drop (s * sector_bytes + body) v) in
    let z : List ℕ = replicate (sector_bytes - rests_at - s * rest) 0 in
    let ls : s * sector_bytes ≤ length v = omega (arith, suc-mul s sector_bytes) in
    let lp : length (h ++ r) ≡ rests_at + s * rest = length-append h r ∙ ap₂ (λ (a b : ℕ). a + b) lh (length_rests s v ls) in
    let e : sector_bytes - rests_at - s * rest - rest ≡ sector_bytes - rests_at - suc s * rest = omega (arith, suc-mul s rest) in
    ap (λ (x : List ℕ). paste x (rests_at + s * rest) y rest) (pasted_is h v lh s ls ∙ sym (append_assoc h r z))
    ∙ paste_seam (h ++ r) z y (rests_at + s * rest) rest lp (length_rest s v l)
    ∙ ap (λ (x : List ℕ). (h ++ r) ++ (y ++ x)) (drop_replicate rest (sector_bytes - rests_at - s * rest) ∙ ap (λ (k : ℕ). replicate k 0) e)
    ∙ append_assoc h r (y ++ replicate (sector_bytes - rests_at - suc s * rest) 0)
    ∙ ap (λ (x : List ℕ). h ++ x) (sym (append_assoc r y (replicate (sector_bytes - rests_at - suc s * rest) 0)))

-- a sector that is filled with zeros
pub zero_filled : (out : List ℕ) → length out ≡ sector_bytes → paste out 0 (replicate sector_bytes 0) sector_bytes ≡ replicate sector_bytes 0
zero_filled out h =
    paste_seam [] out (replicate sector_bytes 0) 0 sector_bytes refl refl
    ∙ ap (λ (x : List ℕ). replicate sector_bytes 0 ++ x) (drop_of_length-le out {i = sector_bytes} (omega arith))
    ∙ append-nil (replicate sector_bytes 0)

-- zeros, then the fields, then the rests: the tail
pub tail_built : (x : Tail) (c : ℕ) (v : List ℕ) → c * sector_bytes ≤ length v → pasted c v (with_tail (replicate sector_bytes 0) x) ≡ tail_sector x c v
unfolding tail_sector
tail_built x c v h =
    ap (pasted c v) (with_tail_lem x (replicate sector_bytes 0) (omega (arith, length-replicate {A = ℕ} sector_bytes 0)))
    ∙ pasted_is (field_bytes x) v (length_fields x) c h

pub length_pasted : (c : ℕ) (v b : List ℕ) → c * sector_bytes ≤ length v → rests_at + c * rest ≤ length b → length (pasted c v b) ≡ length b
unfolding pasted
length_pasted zero v b l h = refl
length_pasted (suc s) v b l h =
    let i : length (pasted s v b) ≡ length b = length_pasted s v b (omega (arith, suc-mul s sector_bytes)) (omega (arith, suc-mul s rest)) in
    length-paste (pasted s v b) (rests_at + s * rest) (take rest (drop (s * sector_bytes + body) v)) rest (omega (arith, suc-mul s rest)) (omega (arith, length_rest s v l)) ∙ i

-- one more sector's last bytes
pub pasted_turn : (s : ℕ) (v b out y : List ℕ) → out ≡ pasted s v b → y ≡ take rest (drop (s * sector_bytes + body) v) → suc s * sector_bytes ≤ length v
    → paste out (rests_at + s * rest) y (length y) ≡ pasted (s + 1) v b
unfolding pasted
pasted_turn s v b out y eo ey h =
    ap₂ (λ (x z : List ℕ). paste x (rests_at + s * rest) z (length z)) eo ey
    ∙ ap (paste (pasted s v b) (rests_at + s * rest) (take rest (drop (s * sector_bytes + body) v))) (length_rest s v h)
    ∙ ap (λ (k : ℕ). pasted k v b) (sym (add-one s))

-- ---- the rests, read again

pub rest_at : (q v : List ℕ) (s c : ℕ) → s < c → c * sector_bytes ≤ length v
    → take rest (drop (s * rest) (rests c v ++ q)) ≡ take rest (drop (s * sector_bytes + body) v)
unfolding rests
rest_at q v s zero l h = absurd (omega arith)
rest_at q v s (suc c) l h =
    let y : List ℕ = take rest (drop (c * sector_bytes + body) v) in
    let k : c * sector_bytes ≤ length v = omega (arith, suc-mul c sector_bytes) in
    ap (λ (x : List ℕ). take rest (drop (s * rest) x)) (append_assoc (rests c v) y q)
    ∙ ⊎_elim (λ (e : s ≡ c). last e k) (λ (m : s < c). rest_at (y ++ q) v s c m k) (eq-or-lt_of_le (le_of_suc-le-suc l))
  where
    last : s ≡ c → c * sector_bytes ≤ length v
        → take rest (drop (s * rest) (rests c v ++ (take rest (drop (c * sector_bytes + body) v) ++ q))) ≡ take rest (drop (s * sector_bytes + body) v)
    last e k =
        let y : List ℕ = take rest (drop (c * sector_bytes + body) v) in
        ap (λ (i : ℕ). take rest (drop (i * rest) (rests c v ++ (y ++ q)))) e
        ∙ ap (take rest) (drop_at (rests c v) (y ++ q) (c * rest) (length_rests c v k))
        ∙ take_at y q rest (length_rest c v h)
        ∙ ap (λ (i : ℕ). take rest (drop (i * sector_bytes + body) v)) (sym e)
