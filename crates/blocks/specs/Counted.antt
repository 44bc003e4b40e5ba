-- A stripe's shards are its slots turned round, so that few missing slots are few lost shards. Assumes nothing.
use Rattle.std.specs.Prelude.{◌≡◌, refl, Bool, true, false, cond, not, ◌&&◌, ◌||◌, [], ◌∷◌, ℕ, zero, suc, ◌+◌, ◌-◌, ◌≤◌, ◌<◌, ◌%◌, ◌^◌, ltb, eqb, length}
use Rattle.std.proofs.Common.{sym, ap, ap₂, ◌∙◌, true≢false, mod-eq_of_lt, add-zero, arith, length-append, ltb-false, eqb-true, le-leb, lt-ltb, eq-eqb}
use Rattle.std.proofs.Math.Nat.{add-mod_left}
use Rattle.std.specs.Int.Count.{ones, ones_in}
use Rattle.disk.specs.Geometry.{stripes_of, slot_of}
use Rattle.disk.specs.Mask.{in_mask, tally, count_is, mask_lt, mask_below}
use Rattle.label.specs.Fields.{geometry_of}
use Rattle.label.specs.declared.fields.Label.{Label}
use Rattle.label.proofs.Fits.{Fits}
use Rattle.position.specs.Position.{ascending}
use Rattle.redo.specs.Decide.{plainly_out, looked, believed}
use Rattle.strips.specs.Seen.{lost_of}
use Rattle.strips.specs.Answers.{few_lost}
use Rattle.strips.specs.Whole.{none_lost}
use Rattle.blocks.specs.Slots.{missing_at, missing, too_few, none_missing, there_at, there}

-- ---- counting

one : Bool → ℕ
one b = cond b 1 0

tally_last : (p : ℕ → Bool) (n : ℕ) → tally p (suc n) ≡ tally p n + one (p n)
unfolding tally one
tally_last p zero = let e : cond (p 0) 1 0 + 0 ≡ 0 + cond (p 0) 1 0 = omega arith in e
tally_last p (suc n) = let e = tally_last (λ i. p (suc i)) n in omega (arith, e)

tally_le : (p q : ℕ → Bool) (n : ℕ) → ((d : ℕ) → d < n → p d ≡ true → q d ≡ true) → tally p n ≤ tally q n
unfolding tally
tally_le p q zero h = omega arith
tally_le p q (suc n) h = go (p 0) refl (q 0) refl (tally_le (λ i. p (suc i)) (λ i. q (suc i)) n (λ d l. h (suc d) (omega arith)))
  where
    go : (x : Bool) → p 0 ≡ x → (y : Bool) → q 0 ≡ y → tally (λ i. p (suc i)) n ≤ tally (λ i. q (suc i)) n
        → cond x 1 0 + tally (λ i. p (suc i)) n ≤ cond y 1 0 + tally (λ i. q (suc i)) n
    go true e true f r = omega arith
    go true e false f r = absurd (true≢false (sym (h 0 (omega arith) e) ∙ f))
    go false e true f r = omega arith
    go false e false f r = omega arith

tally_ext : (p q : ℕ → Bool) (n : ℕ) → ((d : ℕ) → d < n → p d ≡ q d) → tally p n ≡ tally q n
unfolding tally
tally_ext p q zero h = refl
tally_ext p q (suc n) h = ap₂ (λ (b : Bool) (x : ℕ). cond b 1 0 + x) (h 0 (omega arith)) (tally_ext (λ i. p (suc i)) (λ i. q (suc i)) n (λ d l. h (suc d) (omega arith)))

-- one place on, where the ends meet
tally_shift : (p : ℕ → Bool) (n : ℕ) → p n ≡ p 0 → tally (λ i. p (suc i)) n ≡ tally p n
unfolding tally one
tally_shift p n e = let a = tally_last p n in let b : one (p n) ≡ one (p 0) = ap one e in omega (arith, a, b)

tally_turned : (q : ℕ → Bool) (n t : ℕ) → 1 ≤ n → tally (λ r. q ((r + t) % n)) n ≡ tally q n
tally_turned q n zero h = tally_ext (λ r. q ((r + 0) % n)) q n (λ d l. ap (λ (x : ℕ). q (x % n)) (add-zero d) ∙ ap q (mod-eq_of_lt l))
tally_turned q n (suc t) h =
    tally_ext (λ r. q ((r + suc t) % n)) (λ r. q ((suc r + t) % n)) n (λ d l. let e : d + suc t ≡ suc d + t = omega arith in ap (λ (x : ℕ). q (x % n)) e)
    ∙ tally_shift (λ r. q ((r + t) % n)) n (let e : t ≡ 0 + t = omega arith in ap q (add-mod_left n t ∙ ap (λ (x : ℕ). x % n) e))
    ∙ tally_turned q n t h

ascending_tally : (p : ℕ → Bool) (n : ℕ) → length (ascending p n) ≡ tally p n
unfolding ascending tally one
ascending_tally p zero = refl
ascending_tally p (suc n) = length-append (ascending p n) (cond (p n) (n ∷ []) []) ∙ go (p n) ∙ ap (λ (x : ℕ). x + one (p n)) (ascending_tally p n) ∙ sym (tally_last p n)
  where
    go : (b : Bool) → length (ascending p n) + length (cond b (n ∷ []) []) ≡ length (ascending p n) + cond b 1 0
    go true = refl
    go false = refl

-- ---- what is lost lies in a slot that is missing

lost_missing : (l : Label) (absent t d : ℕ) → t < stripes_of (geometry_of l) → d < l.k + l.m → there_at (geometry_of l) l absent t d ≡ false → missing_at l.out absent d ≡ true
unfolding there_at missing_at believed looked plainly_out
lost_missing l absent t d ht hd e = go (in_mask l.out d) (in_mask absent d) (eqb d l.rebuilding) (ltb t l.mark) (lt-ltb d (l.k + l.m) hd) (lt-ltb t (stripes_of (geometry_of l)) ht) e
  where
    go : (out gone being low : Bool) → ltb d (l.k + l.m) ≡ true → ltb t (stripes_of (geometry_of l)) ≡ true
        → ((ltb d (l.k + l.m) && not (out && not being)) && (ltb t (stripes_of (geometry_of l)) && (not out || low))) && not gone ≡ false → (out || gone) ≡ true
    go true gone being low a b e = refl
    go false true being low a b e = refl
    go false false being low a b e =
        absurd (true≢false (sym (ap₂ (λ (x y : Bool). ((x && true) && (y && true)) && true) a b) ∙ e))

missing_lt : (l : Label) (absent : ℕ) → missing l absent < 2 ^ (l.k + l.m)
unfolding missing
missing_lt l absent = mask_lt (missing_at l.out absent) (l.k + l.m)

in_missing : (l : Label) (absent d : ℕ) → d < l.k + l.m → missing_at l.out absent d ≡ true → in_mask (missing l absent) d ≡ true
unfolding missing
in_missing l absent d h e = mask_below (missing_at l.out absent) (l.k + l.m) d h ∙ e

in_there : (l : Label) (absent t d : ℕ) → d < l.k + l.m → in_mask (there (geometry_of l) l absent t) d ≡ there_at (geometry_of l) l absent t d
unfolding there
in_there l absent t d h = mask_below (there_at (geometry_of l) l absent t) (l.k + l.m) d h

not_of : (b : Bool) → not b ≡ true → b ≡ false
not_of true e = absurd (true≢false (sym e))
not_of false e = refl

-- at most as many shards are lost as slots are missing
lost_count : (l : Label) (absent t : ℕ) → 1 ≤ l.k + l.m → t < stripes_of (geometry_of l)
    → length (lost_of (l.k + l.m) t (there (geometry_of l) l absent t)) ≤ ones (missing l absent)
unfolding lost_of slot_of
lost_count l absent t some ht =
    let n : ℕ = l.k + l.m in
    let lost : ℕ → Bool = λ d. not (in_mask (there (geometry_of l) l absent t) d) in
    let e : length (ascending (λ r. lost ((r + t) % n)) n) ≡ tally lost n = ascending_tally (λ r. lost ((r + t) % n)) n ∙ tally_turned lost n t some in
    let f : ones (missing l absent) ≡ tally (in_mask (missing l absent)) n = count_is n (missing l absent) (missing_lt l absent) in
    let h : tally lost n ≤ tally (in_mask (missing l absent)) n = tally_le lost (in_mask (missing l absent)) n (λ d hd q. in_missing l absent d hd (lost_missing l absent t d ht hd (sym (in_there l absent t d hd) ∙ not_of _ q))) in
    omega (arith, e, f, h)

pub few_lost_lem : (l : Label) (absent t : ℕ) → Fits l → t < stripes_of (geometry_of l) → too_few l absent ≡ false
    → few_lost (l.k + l.m) l.k t (there (geometry_of l) l absent t) ≡ true
unfolding few_lost too_few
few_lost_lem l absent t f ht e =
    le-leb (length (lost_of (l.k + l.m) t (there (geometry_of l) l absent t))) (l.k + l.m - l.k)
    (omega (arith, lost_count l absent t (omega (arith, f.range.least)) ht, ltb-false l.m (ones (missing l absent)) e))

pub nothing_lost : (l : Label) (absent t : ℕ) → Fits l → t < stripes_of (geometry_of l) → none_missing l absent ≡ true
    → none_lost (l.k + l.m) t (there (geometry_of l) l absent t) ≡ true
unfolding none_lost none_missing ones ones_in
nothing_lost l absent t f ht e =
    let z : missing l absent ≡ 0 = eqb-true (missing l absent) 0 e in
    eq-eqb (length (lost_of (l.k + l.m) t (there (geometry_of l) l absent t))) 0
    (let o : ones (missing l absent) ≡ 0 = ap ones z in omega (arith, lost_count l absent t (omega (arith, f.range.least)) ht, o))
