-- What `(0..n).filter(test).fold(0, with_slot)` returns, for a closure that computes a test p of each number and changes no capture:
-- the mask of p. With no filter it returns the mask of all below n. Assumes nothing.
use Rattle.std.specs.Prelude.{◌≡◌, refl, Bool, true, false, cond, ◌&&◌, List, [], ◌∷◌, ℕ, zero, suc, ◌+◌, ◌≤◌, ◌<◌, ltb, min}
use Rattle.std.specs.declared.iter.Filter.{Filter}
use Rattle.std.specs.declared.ops.Range.{Range}
use Rattle.std.specs.Iterator.{ActsAsAt, ActsAsOnTwo, FoldsItems}
use Rattle.std.specs.Iterator.Adapters.{filter_source, filter_callee, filter_steps}
use Rattle.std.specs.List.{fold, filter, range_with_len}
use Rattle.std.proofs.Common.{sym, ap, ap₂, ◌∙◌, arith, add-one}
use Rattle.std.proofs.iter.Yields.{nat_range_steps}
use Rattle.std.proofs.lemmas.Iterator.{YieldsList-from_range}
use Rattle.std.proofs.lemmas.Iterator.Consumers.{YieldsList-from_filter, fold_from_yields_List}
use borrow.Author.Tests.{lt-ltb}
use denote.Param.Members.{Mut}
use denote.Ref.{Bor}
use Rattle.disk.specs.Limits.{mask_bits}
use Rattle.disk.specs.Mask.{with_slot, mask_of}

-- what `with_slot` returns
abbrev pub put_in : ℕ → ℕ → ℕ
put_in m d = cond (ltb d mask_bits) (with_slot m d) m

-- one slot more
turn : (p : ℕ → Bool) (a : ℕ) (xs : List ℕ) → a < mask_bits → fold put_in (mask_of p a) (filter p (a ∷ xs)) ≡ fold put_in (mask_of p (a + 1)) (filter p xs)
unfolding mask_of
turn p a xs l = rw add-one (by (p a) refl)
  where
    by : (b : Bool) → p a ≡ b → fold put_in (mask_of p a) (filter p (a ∷ xs)) ≡ fold put_in (mask_of p (suc a)) (filter p xs)
    by true e = rw e (ap (λ (b : Bool). fold put_in (cond b (with_slot (mask_of p a) a) (mask_of p a)) (filter p xs)) (lt-ltb a mask_bits l))
    by false e = rw e

-- from the mask of the first a on, n more
mask_on : (p : ℕ → Bool) (a n : ℕ) → a + n ≤ mask_bits → fold put_in (mask_of p a) (filter p (range_with_len a n)) ≡ mask_of p (a + n)
mask_on p a zero l = ap (mask_of p) (let e : a ≡ a + 0 = omega arith in e)
mask_on p a (suc n) l =
    turn p a (range_with_len (a + 1) n) (omega arith) ∙ mask_on p (a + 1) n (omega arith) ∙ ap (mask_of p) (let e : a + 1 + n ≡ a + suc n = omega arith in e)

-- the tests of the first n alone matter
pub mask_same : (p q : ℕ → Bool) (n : ℕ) → ((d : ℕ) → d < n → p d ≡ q d) → mask_of p n ≡ mask_of q n
unfolding mask_of
mask_same p q zero e = refl
mask_same p q (suc n) e = ap₂ (λ (b : Bool) (m : ℕ). cond b (with_slot m n) m) (e n (omega arith)) (mask_same p q n (λ d l. e d (omega arith)))

every : (xs : List ℕ) → filter (λ d. true) xs ≡ xs
every [] = refl
every (d ∷ xs) = ap (λ (ys : List ℕ). d ∷ ys) (every xs)

-- ---- what the calls return

module _ {G : Type 0} {h : Mut G (ℕ × (ℕ × Unit {0})) ℕ} {k : G} {r : ℕ} where
  pub mask_from_filter : {F : Type 0} {g : Mut F (Bor ℕ × Unit {0}) Bool} {f : F} {s : Filter (Range ℕ) F} (p : ℕ → Bool) (n : ℕ) → n ≤ mask_bits
      → FoldsItems (filter_steps nat_range_steps g) h s k 0 r → filter_source s ≡ record { start = 0; end = n } → filter_callee s ≡ f
      → ActsAsAt g f p → ActsAsOnTwo h k put_in → r ≡ mask_of p n
  unfolding mask_of
  mask_from_filter {F} {g} p n l e a c t w =
      fold_from_yields_List h put_in 0 r e (YieldsList-from_filter g p (YieldsList-from_range 0 n n a (omega arith)) c t) w
      ∙ mask_on p 0 n (omega arith) ∙ ap (mask_of p) (let e : 0 + n ≡ n = omega arith in e)

  -- of any n: `(0..n.min(64)).filter(|&d| d < n && test(d)).fold(0, with_slot)` is the mask of p below n, or below 64 where n is more;
  -- p may say anything from n on
  pub mask_from_first : {F : Type 0} {g : Mut F (Bor ℕ × Unit {0}) Bool} {f : F} {s : Filter (Range ℕ) F} (p : ℕ → Bool) (n : ℕ)
      → FoldsItems (filter_steps nat_range_steps g) h s k 0 r → filter_source s ≡ record { start = 0; end = min n mask_bits } → filter_callee s ≡ f
      → ActsAsAt g f (λ d. ltb d n && p d) → ActsAsOnTwo h k put_in → r ≡ mask_of p (min n mask_bits)
  mask_from_first p n e a c t w =
      mask_from_filter (λ d. ltb d n && p d) (min n mask_bits) (omega arith) e a c t w
      ∙ mask_same (λ d. ltb d n && p d) p (min n mask_bits) (λ d l. rw (lt-ltb d n (omega (arith, l))))

  pub mask_from_range : (n : ℕ) → n ≤ mask_bits → FoldsItems nat_range_steps h (record { start = 0; end = n }) k 0 r → ActsAsOnTwo h k put_in
      → r ≡ mask_of (λ d. true) n
  unfolding mask_of
  mask_from_range n l e w =
      fold_from_yields_List h put_in 0 r e (YieldsList-from_range 0 n n refl (omega arith)) w ∙ ap (fold put_in 0) (sym (every (range_with_len 0 n)))
      ∙ mask_on (λ d. true) 0 n (omega arith) ∙ ap (mask_of (λ d. true)) (let e : 0 + n ≡ n = omega arith in e)
