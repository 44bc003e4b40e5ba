-- What the test of slices and numbers means, both ways. Assumes nothing.
use Rattle.std.specs.Prelude.{◌≡◌, refl, Bool, true, false, ◌&&◌, ℕ, ◌+◌, ◌-◌, ◌*◌, ◌≤◌, ◌<◌, leb, ltb}
use Rattle.std.proofs.Common.{arith, le-leb, leb-true, lt-ltb}
use Rattle.codeword.specs.Stripe.{len_most}
use Rattle.kernel.specs.Kernel.{n_most, Shards, fits_of}

and_left : (a b : Bool) → (a && b) ≡ true → a ≡ true
and_left true b e = refl
and_left false b e = e

and_right : (a b : Bool) → (a && b) ≡ true → b ≡ true
and_right true b e = e
and_right false b e = absurd (let z : ◌≡◌ {A = ℕ} 0 1 = cc in omega arith)

pub fits_is : (n len size at room : ℕ) → Shards n len size → at + n ≤ room → fits_of n len size at room ≡ true
unfolding fits_of
fits_is n len size at room s h =
    let h5 : at ≤ room - n = omega arith in
    let h4 : n ≤ room = omega arith in
    simp (le-leb n n_most s.few, le-leb len len_most s.short, le-leb (n * len) size s.fits, le-leb n room h4, le-leb at (room - n) h5)

-- the same for a shard a of the n
pub fits_with : (n len size at room a : ℕ) → Shards n len size → at + n ≤ room → a < n → (fits_of n len size at room && ltb a n) ≡ true
fits_with n len size at room a s h l = simp (fits_is n len size at room s h, lt-ltb a n l)

pub fits_shards : (n len size at room : ℕ) → fits_of n len size at room ≡ true → Shards n len size
unfolding fits_of
fits_shards n len size at room e =
    let t2 : Bool = leb n n_most && leb len len_most in
    let t3 : Bool = t2 && leb (n * len) size in
    let t4 : Bool = t3 && leb n room in
    let e3 : t3 ≡ true = and_left t3 (leb n room) (and_left t4 (leb at (room - n)) e) in
    let e2 : t2 ≡ true = and_left t2 (leb (n * len) size) e3 in
    record {
      few = leb-true n n_most (and_left (leb n n_most) (leb len len_most) e2);
      short = leb-true len len_most (and_right (leb n n_most) (leb len len_most) e2);
      fits = leb-true (n * len) size (and_right t2 (leb (n * len) size) e3);
    }

pub fits_row : (n len size at room : ℕ) → fits_of n len size at room ≡ true → at + n ≤ room
unfolding fits_of
fits_row n len size at room e =
    let t3 : Bool = leb n n_most && leb len len_most && leb (n * len) size in
    let t4 : Bool = t3 && leb n room in
    let h4 : n ≤ room = leb-true n room (and_right t3 (leb n room) (and_left t4 (leb at (room - n)) e)) in
    let h5 : at ≤ room - n = leb-true at (room - n) (and_right t4 (leb at (room - n)) e) in
    omega arith
