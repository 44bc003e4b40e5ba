-- A record in its area, c + 1 sectors in a row: its log sectors, when it is complete, and the strip that comes back.
-- Assumes nothing.
use Rattle.std.specs.Prelude.{◌≡◌, refl, Bool, true, false, ◌&&◌, cond, not, ltb, eqb, length, take, drop, replicate, Ok, Err}
use Rattle.std.proofs.Common.{sym, ap₂, ◌∙◌, ⊎_elim, eq-or-lt_of_le, le_of_suc-le-suc, suc-mul, length-drop, drop_of_length-le, take_at, drop_at, take-take, take-add, length-take-le, drop-drop, eq-eqb}
use Rattle.std.proofs.Math.Path.{ap}
use Rattle.std.proofs.Math.Bool.{and-true, and-false}
use mathlib.Core.List.{List, [], ◌++◌, append_assoc, append-nil}
use Prim.Native.Nat.{ℕ, zero, suc, ◌+◌, ◌*◌, ◌-◌, ◌≤◌, ◌<◌}
use native.Mathlib.Omega.{arith}
use Rattle.std.proofs.Math.ListN.{length-append}
use Rattle.std.proofs.lemmas.List.{length-replicate}
use Rattle.std.proofs.Math.Seq.{paste, drop-append-add}
use Rattle.std.proofs.lemmas.Bool.{not-true}
use Rattle.disk.specs.Limits.{sector_bytes, first_log, first_strip, most_c}
use Rattle.disk.specs.Tests.{and_left, and_right, both}
use Rattle.disk.specs.Geometry.{strip_length, strip_length_lem, InRange}
use Rattle.disk.specs.Image.{place, sector, fits_image, part_part}
use Rattle.disk.specs.declared.geometry.Geometry.{Geometry}
use Rattle.disk.specs.declared.refusal.Refusal.TheVariants.{BadImage, BadBlock, BadBuffer}
use Rattle.disk.specs.Refusal.{Outcome}
use Rattle.record.specs.Layout.{stamp_length, body, rests_at, rest}
use Rattle.record.specs.Stamp.{stamp_at, stamp_bytes, with_stamp, zero_stamp, same_stamp, StampFits, stamp_back, with_stamp_lem, length_stamp, stamp_zeros, same_true, same_refl}
use Rattle.record.specs.Tail.{field_bytes, tail_sector, rests, rest_at, length_rests, length_fields, paste_seam}
use Rattle.record.specs.declared.stamp.Stamp.{Stamp}
use Rattle.record.specs.declared.tail.Tail.{Tail}

-- ---- definitions

-- sector s of a row of sectors
unfoldable pub part : List ℕ → ℕ → List ℕ
part area s = take sector_bytes (drop (s * sector_bytes) area)

-- the c + 1 sectors of slot d's record, or nothing
unfoldable pub area_of : Geometry → List ℕ → ℕ → List ℕ
area_of g img d =
    cond (fits_image g (length img) && ltb d g.n) (take ((g.c + 1) * sector_bytes) (drop (place g.sectors d first_log) img)) []

-- the log sector of a sector v of the strip
unfoldable pub log_sector : Stamp → List ℕ → List ℕ
log_sector a v = stamp_bytes a ++ take body v

-- what writing one answers, and leaves
unfoldable pub log_answer : ℕ → ℕ → Outcome
log_answer lv lo = cond (eqb lv sector_bytes && eqb lo sector_bytes) (Ok tt) (Err BadBuffer)

abbrev pub after_log : Outcome → Stamp → List ℕ → List ℕ → List ℕ
after_log (Ok tt) a v out = log_sector a v
after_log (Err why) a v out = out

-- the first c sectors have this stamp
unfoldable pub stamps_same : ℕ → List ℕ → Stamp → Bool
stamps_same zero area a = true
stamps_same (suc s) area a = stamps_same s area a && same_stamp (stamp_at (part area s)) a

-- a record is complete: all c + 1 stamps are equal and not zero
unfoldable pub complete_of : List ℕ → ℕ → Bool
complete_of area c =
    strip_length c
    && (eqb (length area) ((c + 1) * sector_bytes) && (not (zero_stamp (stamp_at (part area c))) && stamps_same c area (stamp_at (part area c))))

-- sector s of the strip, from its log sector and the tail
unfoldable pub restore_of : List ℕ → List ℕ → ℕ → List ℕ
restore_of log tail s = take body (drop stamp_length log) ++ take rest (drop (rests_at + s * rest) tail)

-- what giving one back answers, and leaves
unfoldable pub restore_answer : ℕ → ℕ → ℕ → ℕ → Outcome
restore_answer c s la lo =
    cond (strip_length c) (cond (ltb s c) (cond (eqb la ((c + 1) * sector_bytes) && eqb lo sector_bytes) (Ok tt) (Err BadBuffer)) (Err BadBlock)) (Err BadImage)

abbrev pub after_restore : Outcome → List ℕ → ℕ → ℕ → List ℕ → List ℕ
after_restore (Ok tt) area c s out = restore_of (part area s) (part area c) s
after_restore (Err why) area c s out = out

-- ---- the area in the image

-- sector s of the area is sector first_log + s of the slot
pub area_part : (S d c s : ℕ) (img : List ℕ) → place S d first_log + (c + 1) * sector_bytes ≤ length img → s ≤ c
    → part (take ((c + 1) * sector_bytes) (drop (place S d first_log) img)) s ≡ sector S img d (first_log + s)
unfolding part sector
area_part S d c s img h l =
    let N : ℕ = (c + 1) * sector_bytes in
    let e : place S d first_log + s * sector_bytes ≡ place S d (first_log + s) = omega arith in
    part_part img (place S d first_log) N (s * sector_bytes) sector_bytes h (omega arith) ∙ ap (λ (k : ℕ). take sector_bytes (drop k img)) e

-- which is a sector of the log area
pub area_inside : (g : Geometry) → InRange g → (s : ℕ) → s ≤ g.c → first_log + s < first_strip
area_inside g r s l = omega (arith, r.short)

-- ---- log sectors

pub log_stamp : (a : Stamp) (v : List ℕ) → StampFits a → stamp_at (log_sector a v) ≡ a
unfolding log_sector
log_stamp a v f = stamp_back a (take body v) f

pub tail_stamp : (x : Tail) (c : ℕ) (v : List ℕ) → StampFits x.stamp → stamp_at (tail_sector x c v) ≡ x.stamp
unfolding tail_sector field_bytes
tail_stamp x c v f = ap stamp_at (append_assoc (stamp_bytes x.stamp) _ _) ∙ stamp_back x.stamp _ f

-- the stamp, then the first bytes: the log sector
pub log_built : (a : Stamp) (v out : List ℕ) → length v ≡ sector_bytes → length out ≡ sector_bytes
    → paste (with_stamp out a) stamp_length (take body v) (length (take body v)) ≡ log_sector a v
unfolding log_sector
log_built a v out lv lo =
    let y : List ℕ = take body v in
    let r : List ℕ = drop stamp_length out in
    let ly : length y ≡ body = length-take-le body v (omega arith) in
    ap (λ (x : List ℕ). paste x stamp_length y (length y)) (with_stamp_lem out a (omega arith))
    ∙ paste_seam (stamp_bytes a) r y stamp_length (length y) (length_stamp a) refl
    ∙ ap (λ (x : List ℕ). stamp_bytes a ++ (y ++ x)) (drop_of_length-le r {i = length y} (omega (arith, ly, length-drop stamp_length out)))
    ∙ ap (λ (x : List ℕ). stamp_bytes a ++ x) (append-nil y)

-- ---- complete

stamps_all : (c : ℕ) (area : List ℕ) (a : Stamp) → stamps_same c area a ≡ true → (s : ℕ) → s < c → stamp_at (part area s) ≡ a
unfolding stamps_same
stamps_all zero area a e s l = absurd (omega arith)
stamps_all (suc c) area a e s l =
    let p : Bool = stamps_same c area a in
    let q : Bool = same_stamp (stamp_at (part area c)) a in
    ⊎_elim (λ (i : s ≡ c). ap (λ (k : ℕ). stamp_at (part area k)) i ∙ same_true (stamp_at (part area c)) a (and_right p q e))
    (λ (m : s < c). stamps_all c area a (and_left p q e) s m) (eq-or-lt_of_le (le_of_suc-le-suc l))

all_stamps : (c : ℕ) (area : List ℕ) (a : Stamp) → ((s : ℕ) → s < c → stamp_at (part area s) ≡ a) → stamps_same c area a ≡ true
unfolding stamps_same
all_stamps zero area a h = refl
all_stamps (suc c) area a h =
    both (stamps_same c area a) (same_stamp (stamp_at (part area c)) a) (all_stamps c area a (λ s l. h s (omega arith)))
    (ap (λ (b : Stamp). same_stamp b a) (h c (omega arith)) ∙ same_refl a)

pub complete_is : (area : List ℕ) (c : ℕ) → complete_of area c ≡ true
    → (zero_stamp (stamp_at (part area c)) ≡ false) × ((s : ℕ) → s ≤ c → stamp_at (part area s) ≡ stamp_at (part area c))
unfolding complete_of
complete_is area c e =
    let a : Stamp = stamp_at (part area c) in
    let some : Bool = not (zero_stamp a) in
    let e1 = and_right (strip_length c) (eqb (length area) ((c + 1) * sector_bytes) && (some && stamps_same c area a)) e in
    let e2 = and_right (eqb (length area) ((c + 1) * sector_bytes)) (some && stamps_same c area a) e1 in (
      not-true (zero_stamp a) (and_left some (stamps_same c area a) e2),
      λ s l.
          ⊎_elim (λ (i : s ≡ c). ap (λ (k : ℕ). stamp_at (part area k)) i)
          (λ (m : s < c). stamps_all c area a (and_right some (stamps_same c area a) e2) s m) (eq-or-lt_of_le l),
    )

pub is_complete : (area : List ℕ) (c : ℕ) → strip_length c ≡ true → length area ≡ (c + 1) * sector_bytes → zero_stamp (stamp_at (part area c)) ≡ false
    → ((s : ℕ) → s < c → stamp_at (part area s) ≡ stamp_at (part area c)) → complete_of area c ≡ true
unfolding complete_of
is_complete area c lc la z h =
    let a : Stamp = stamp_at (part area c) in
    both (strip_length c) _ lc
    (both (eqb (length area) ((c + 1) * sector_bytes)) _ (eq-eqb (length area) ((c + 1) * sector_bytes) la)
    (both (not (zero_stamp a)) (stamps_same c area a) (ap not z) (all_stamps c area a h)))

-- zeros over the tail end a record
pub killed : (area : List ℕ) (c : ℕ) → part area c ≡ replicate sector_bytes 0 → complete_of area c ≡ false
killed area c e = by (complete_of area c) refl
  where
    by : (b : Bool) → complete_of area c ≡ b → b ≡ false
    by true h = sym (ap (λ (l : List ℕ). zero_stamp (stamp_at l)) e ∙ stamp_zeros) ∙ (complete_is area c h).0
    by false h = refl

-- ---- the strip comes back

pub restore_back : (a : Stamp) (x : Tail) (c s : ℕ) (v : List ℕ) → length v ≡ c * sector_bytes → s < c
    → restore_of (log_sector a (part v s)) (tail_sector x c v) s ≡ part v s
unfolding restore_of log_sector tail_sector part
restore_back a x c s v lv l =
    let r : List ℕ = drop (s * sector_bytes) v in
    let w : List ℕ = take sector_bytes r in
    let q : List ℕ = replicate (sector_bytes - rests_at - c * rest) 0 in
    ap₂ (λ (y z : List ℕ). y ++ z)
    (ap (take body) (drop_at (stamp_bytes a) (take body w) stamp_length (length_stamp a)) ∙ take-take body body w (omega arith) ∙ take-take body sector_bytes r (omega arith))
    (ap (λ (k : ℕ). take rest (drop (k + s * rest) (field_bytes x ++ (rests c v ++ q)))) (sym (length_fields x))
    ∙ ap (take rest) (drop-append-add (field_bytes x) (rests c v ++ q) (s * rest))
    ∙ rest_at q v s c l (omega arith)
    ∙ ap (take rest) (sym (drop-drop body (s * sector_bytes) v)))
    ∙ sym (take-add body rest r)

-- ---- as the code does it

-- the first bytes, then the last: the sector
pub restore_built : (area out : List ℕ) (c s : ℕ) → length area ≡ (c + 1) * sector_bytes → length out ≡ sector_bytes → s < c → c ≤ most_c
    → (y z : List ℕ) → y ≡ take body (drop (s * sector_bytes + stamp_length) area) → z ≡ take rest (drop (c * sector_bytes + rests_at + s * rest) area)
    → paste (paste out 0 y (length y)) body z (length z) ≡ restore_of (part area s) (part area c) s
unfolding restore_of part
restore_built area out c s la lo l m y z ey ez =
    let a : ℕ = s * sector_bytes + stamp_length in
    let b : ℕ = c * sector_bytes + rests_at + s * rest in
    let f : c * sector_bytes + (rests_at + s * rest) ≡ b = omega arith in
    let ly : length y ≡ body = ap length ey ∙ length-take-le body (drop a area) (omega (arith, length-drop a area)) in
    let lz : length z ≡ rest = ap length ez ∙ length-take-le rest (drop b area) (omega (arith, length-drop b area)) in
    let r : List ℕ = drop (length y) out in
    ap (λ (x : List ℕ). paste x body z (length z)) (paste_seam [] out y 0 (length y) refl refl)
    ∙ paste_seam y r z body (length z) ly refl
    ∙ ap (λ (x : List ℕ). y ++ (z ++ x)) (drop_of_length-le r {i = length z} (omega (arith, ly, lz, length-drop (length y) out)))
    ∙ ap (λ (x : List ℕ). y ++ x) (append-nil z)
    ∙ ap₂ (λ (u w : List ℕ). u ++ w)
    (ey ∙ sym (part_part area (s * sector_bytes) sector_bytes stamp_length body (omega arith) (omega arith)))
    (ez ∙ ap (λ (k : ℕ). take rest (drop k area)) (sym f) ∙ sym (part_part area (c * sector_bytes) sector_bytes (rests_at + s * rest) rest (omega arith) (omega arith)))

-- the stamps from i on are the same: sector i - 1 decides next
module _ (area : List ℕ) (a : Stamp) (c i : ℕ) (r : Bool) (p : 0 < i) (h : stamps_same c area a ≡ stamps_same i area a) (e : r ≡ same_stamp (stamp_at (part area (i - 1))) a) where
  stamps_turn : stamps_same c area a ≡ (stamps_same (i - 1) area a && r)
  unfolding stamps_same
  stamps_turn =
      let k : i ≡ suc (i - 1) = omega arith in
      h ∙ ap (λ (j : ℕ). stamps_same j area a) k ∙ ap (λ (b : Bool). stamps_same (i - 1) area a && b) (sym e)

  pub stamps_off : r ≡ false → stamps_same c area a ≡ false
  stamps_off f = stamps_turn ∙ ap (λ (b : Bool). stamps_same (i - 1) area a && b) f ∙ and-false (stamps_same (i - 1) area a)

  pub stamps_on : r ≡ true → stamps_same c area a ≡ stamps_same (i - 1) area a
  stamps_on f = stamps_turn ∙ ap (λ (b : Bool). stamps_same (i - 1) area a && b) f ∙ and-true (stamps_same (i - 1) area a)

-- ---- a whole record

-- the log sectors of the first c sectors of a strip
unfoldable pub logs_of : Stamp → ℕ → List ℕ → List ℕ
logs_of a zero v = []
logs_of a (suc s) v = logs_of a s v ++ log_sector a (part v s)

-- the c + 1 sectors of a record
unfoldable pub record_of : Tail → ℕ → List ℕ → List ℕ
record_of x c v = logs_of x.stamp c v ++ tail_sector x c v

length_part : (v : List ℕ) (s : ℕ) → suc s * sector_bytes ≤ length v → length (part v s) ≡ sector_bytes
unfolding part
length_part v s h = length-take-le sector_bytes (drop (s * sector_bytes) v) (omega (arith, length-drop (s * sector_bytes) v, suc-mul s sector_bytes))

pub length_log : (a : Stamp) (v : List ℕ) → length v ≡ sector_bytes → length (log_sector a v) ≡ sector_bytes
unfolding log_sector
length_log a v h = length-append (stamp_bytes a) (take body v) ∙ ap₂ (λ (i j : ℕ). i + j) (length_stamp a) (length-take-le body v (omega arith))

length_logs : (a : Stamp) (c : ℕ) (v : List ℕ) → c * sector_bytes ≤ length v → length (logs_of a c v) ≡ c * sector_bytes
unfolding logs_of
length_logs a zero v h = refl
length_logs a (suc s) v h =
    length-append (logs_of a s v) (log_sector a (part v s))
    ∙ ap₂ (λ (i j : ℕ). i + j) (length_logs a s v (omega (arith, suc-mul s sector_bytes))) (length_log a (part v s) (length_part v s h))
    ∙ sym (suc-mul s sector_bytes)

pub length_tail : (x : Tail) (c : ℕ) (v : List ℕ) → c * sector_bytes ≤ length v → c ≤ most_c → length (tail_sector x c v) ≡ sector_bytes
unfolding tail_sector
length_tail x c v h l =
    let q : List ℕ = replicate (sector_bytes - rests_at - c * rest) 0 in
    let lq : length q ≡ sector_bytes - rests_at - c * rest = length-replicate (sector_bytes - rests_at - c * rest) 0 in
    omega (arith, length-append (field_bytes x) (rests c v ++ q), length-append (rests c v) q, length_fields x, length_rests c v h, lq)

-- the sector that stands behind c others
seam : (p y q : List ℕ) (c : ℕ) → length p ≡ c * sector_bytes → length y ≡ sector_bytes → part (p ++ (y ++ q)) c ≡ y
unfolding part
seam p y q c lp ly = ap (take sector_bytes) (drop_at p (y ++ q) (c * sector_bytes) lp) ∙ take_at y q sector_bytes ly

-- log sector s of a record
log_part : (a : Stamp) (q v : List ℕ) (s c : ℕ) → s < c → c * sector_bytes ≤ length v → part (logs_of a c v ++ q) s ≡ log_sector a (part v s)
unfolding logs_of
log_part a q v s zero l h = absurd (omega arith)
log_part a q v s (suc c) l h =
    let y : List ℕ = log_sector a (part v c) in
    let k : c * sector_bytes ≤ length v = omega (arith, suc-mul c sector_bytes) in
    ap (λ (x : List ℕ). part x s) (append_assoc (logs_of a c v) y q)
    ∙ ⊎_elim (λ (e : s ≡ c). last e k) (λ (m : s < c). log_part a (y ++ q) v s c m k) (eq-or-lt_of_le (le_of_suc-le-suc l))
  where
    last : s ≡ c → c * sector_bytes ≤ length v → part (logs_of a c v ++ (log_sector a (part v c) ++ q)) s ≡ log_sector a (part v s)
    last e k =
        ap (part (logs_of a c v ++ (log_sector a (part v c) ++ q))) e
        ∙ seam (logs_of a c v) (log_sector a (part v c)) q c (length_logs a c v k) (length_log a (part v c) (length_part v c h))
        ∙ ap (λ (i : ℕ). log_sector a (part v i)) (sym e)

module _ (x : Tail) (c : ℕ) (v : List ℕ) (lc : strip_length c ≡ true) (lv : length v ≡ c * sector_bytes) where
  few : c ≤ most_c
  few = (strip_length_lem c lc).1

  pub record_log : (s : ℕ) → s < c → part (record_of x c v) s ≡ log_sector x.stamp (part v s)
  unfolding record_of
  record_log s l = log_part x.stamp (tail_sector x c v) v s c l (omega arith)

  pub record_tail : part (record_of x c v) c ≡ tail_sector x c v
  unfolding record_of
  record_tail =
      ap (λ (y : List ℕ). part (logs_of x.stamp c v ++ y) c) (sym (append-nil (tail_sector x c v)))
      ∙ seam (logs_of x.stamp c v) (tail_sector x c v) [] c (length_logs x.stamp c v (omega arith)) (length_tail x c v (omega arith) few)

  pub length_record : length (record_of x c v) ≡ (c + 1) * sector_bytes
  unfolding record_of
  length_record =
      omega (arith, length-append (logs_of x.stamp c v) (tail_sector x c v), length_logs x.stamp c v (omega arith), length_tail x c v (omega arith) few)

  -- the strip comes back from its c + 1 sectors
  pub record_back : (s : ℕ) → s < c → restore_of (part (record_of x c v) s) (part (record_of x c v) c) s ≡ part v s
  record_back s l = ap₂ (λ (y z : List ℕ). restore_of y z s) (record_log s l) record_tail ∙ restore_back x.stamp x c s v lv l

  -- and it is complete
  pub record_complete : StampFits x.stamp → zero_stamp x.stamp ≡ false → complete_of (record_of x c v) c ≡ true
  record_complete f z =
      let t : stamp_at (part (record_of x c v) c) ≡ x.stamp = ap stamp_at record_tail ∙ tail_stamp x c v f in
      is_complete (record_of x c v) c lc length_record (ap zero_stamp t ∙ z)
      (λ s l. ap stamp_at (record_log s l) ∙ log_stamp x.stamp (part v s) f ∙ sym t)
