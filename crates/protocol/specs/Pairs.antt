-- FAMILIES OF SETS OF SLOTS of which any two leave a slot out, for shelves with k <= m; a code and a medium for each of them; and that the family is no part of the program. What is asked of the world
-- there, and the promise: Since.
use Rattle.std.specs.Prelude.{ℕ, zero, suc, ◌<◌, ◌≡◌, Bool, true, false, cond, not, ◌&&◌, ◌||◌, ◌⊎◌}
use Rattle.std.proofs.Math.Path.{refl}
use Rattle.std.proofs.Common.{sym, ap, ◌∙◌, true≢false, ⊎_elim, inl, inr, eq-or-lt_of_le, le_of_suc-le-suc, arith}
use Rattle.std.proofs.lemmas.Bool.{false≢true}
use mathlib.Core.List.Memᴰ
use mathlib.Core.List.{List, [], ◌∷◌, ◌++◌, Memᴰ}
use Rattle.protocol.specs.World.{Image}
use Rattle.protocol.specs.Slots.{from, in_from, of_from, every, every_of, every_all}
use Rattle.protocol.specs.Log.{RecordCodec}
use Rattle.protocol.specs.Write.{both}
use Rattle.protocol.specs.Label.{Size, Quorum, LabelCodec}
use Rattle.protocol.specs.Host.{Blocks, Code}
use Rattle.protocol.specs.Program.{Stamps, Medium}
use Rattle.protocol.specs.Promise.{Zeros}

-- a part of a set that passes the test passes it
abbrev pub Parts : ℕ → ((ℕ → Bool) → Bool) → Type 0
Parts n test = (a b : ℕ → Bool) → ((d : ℕ) → d < n → a d ≡ true → b d ≡ true) → test b ≡ true → test a ≡ true

-- any two sets of the list, and each one by itself, leave a slot out
abbrev pub AnyTwo : ℕ → List (ℕ → Bool) → Type 0
AnyTwo n l = (s t : ℕ → Bool) → Memᴰ s l → Memᴰ t l → (d : ℕ) × (d < n) × (s d ≡ false) × (t d ≡ false)

pub two_alone : (n : ℕ) (l : List (ℕ → Bool)) → AnyTwo n l → AnyTwo n (l ++ [])
two_alone n l two s t i j = two s t (only i) (only j)
  where
    only : {s : ℕ → Bool} → Memᴰ s (l ++ []) → Memᴰ s l
    only i = ⊎_elim (λ k. k) (λ k. absurd (Memᴰ.not-nil k)) (Memᴰ.append_cases l i)

pub and_is : (a b : Bool) → a ≡ true → b ≡ true → (a && b) ≡ true
and_is a b p q = rw (p, q)

-- Two sets leave a slot out, or they are all slots: such sets no-telling (Limits) is about.
pub leave_or_cover : (n : ℕ) (s t : ℕ → Bool) → ((d : ℕ) × (d < n) × (s d ≡ false) × (t d ≡ false)) ⊎ ((d : ℕ) → d < n → (s d || t d) ≡ true)
leave_or_cover zero s t = inr (λ d i. absurd (omega arith))
leave_or_cover (suc n) s t = ⊎_elim (λ y. inl (y.0, omega (arith, y.1), y.2, y.3)) (λ h. go h (s n) refl (t n) refl) (leave_or_cover n s t)
  where
    at_last : ((d : ℕ) → d < n → (s d || t d) ≡ true) → (s n || t n) ≡ true → (d : ℕ) → d < suc n → (s d || t d) ≡ true
    at_last h e d i = ⊎_elim (λ q. rw q e) (λ q. h d q) (eq-or-lt_of_le (le_of_suc-le-suc i))

    go : ((d : ℕ) → d < n → (s d || t d) ≡ true) → (x : Bool) → s n ≡ x → (y : Bool) → t n ≡ y → ((d : ℕ) × (d < suc n) × (s d ≡ false) × (t d ≡ false)) ⊎ ((d : ℕ) → d < suc n → (s d || t d) ≡ true)
    go h true p y q = inr (at_last h (rw p))
    go h false p true q = inr (at_last h (rw (p, q)))
    go h false p false q = inl (n, omega arith, p, q)

-- ---- families

-- none at all
abbrev pub no_sets : (n : ℕ) → Quorum n
no_sets n = record { few = λ a. false; part = λ a b h e. e; meet = λ a b p q. absurd (false≢true p) }

-- the sets of a family that pass the test
abbrev pub within : {n : ℕ} (test : (ℕ → Bool) → Bool) → Parts n test → Quorum n → Quorum n
within test part F =
    record {
      few = λ a. test a && F.few a;
      part = λ a b h e. let p = both (test b) (F.few b) e in and_is (test a) (F.few a) (part a b h p.0) (F.part a b h p.1);
      meet = λ a b p q. F.meet a b (both (test a) (F.few a) p).1 (both (test b) (F.few b) q).1;
    }

-- the parts of the sets of a list
unfoldable pub part_of : ℕ → (ℕ → Bool) → (ℕ → Bool) → Bool
part_of n a s = every (λ d. not (a d) || s d) (from 0 n)

unfoldable pub some_part : ℕ → (ℕ → Bool) → List (ℕ → Bool) → Bool
some_part n a [] = false
some_part n a (s ∷ l) = cond (part_of n a s) true (some_part n a l)

part_is : (n : ℕ) (a s : ℕ → Bool) → ((d : ℕ) → d < n → a d ≡ true → s d ≡ true) → part_of n a s ≡ true
unfolding part_of
part_is n a s h = every_all (λ d. not (a d) || s d) (from 0 n) (λ d m. go (a d) (s d) (h d (omega (arith, of_from n 0 d m))))
  where
    go : (x y : Bool) → (x ≡ true → y ≡ true) → (not x || y) ≡ true
    go true y h = h refl
    go false y h = refl

of_part : (n : ℕ) (a s : ℕ → Bool) → part_of n a s ≡ true → (d : ℕ) → d < n → a d ≡ true → s d ≡ true
unfolding part_of
of_part n a s h d i e = go (a d) (s d) e (every_of (λ d. not (a d) || s d) (from 0 n) h d (in_from n 0 d (omega arith) (omega arith)))
  where
    go : (x y : Bool) → x ≡ true → (not x || y) ≡ true → y ≡ true
    go true y e q = q
    go false y e q = absurd (false≢true e)

pub some_is : (n : ℕ) (a s : ℕ → Bool) (l : List (ℕ → Bool)) → Memᴰ s l → ((d : ℕ) → d < n → a d ≡ true → s d ≡ true) → some_part n a l ≡ true
unfolding some_part
some_is n a s [] m h = absurd (Memᴰ.not-nil m)
some_is n a s (t ∷ l) (Memᴰ.head e) h = rw (sym e, part_is n a s h)
some_is n a s (t ∷ l) (Memᴰ.tail m) h = go (part_of n a t) (some_is n a s l m h)
  where
    go : (b : Bool) → some_part n a l ≡ true → cond b true (some_part n a l) ≡ true
    go true e = refl
    go false e = e

pub of_some : (n : ℕ) (a : ℕ → Bool) (l : List (ℕ → Bool)) → some_part n a l ≡ true → (s : ℕ → Bool) × Memᴰ s l × ((d : ℕ) → d < n → a d ≡ true → s d ≡ true)
unfolding some_part
of_some n a [] h = absurd (false≢true h)
of_some n a (t ∷ l) h = go (of_some n a l) (part_of n a t) refl h
  where
    go : (some_part n a l ≡ true → (s : ℕ → Bool) × Memᴰ s l × ((d : ℕ) → d < n → a d ≡ true → s d ≡ true)) → (b : Bool) → part_of n a t ≡ b → cond b true (some_part n a l) ≡ true → (s : ℕ → Bool) × Memᴰ s (t ∷ l) × ((d : ℕ) → d < n → a d ≡ true → s d ≡ true)
    go r true e q = (t, Memᴰ.head refl, of_part n a t e)
    go r false e q = let y = r q in (y.0, Memᴰ.tail y.1, y.2)

abbrev pub parts_of : (n : ℕ) (l : List (ℕ → Bool)) → AnyTwo n l → Quorum n
parts_of n l two =
    record {
      few = λ a. some_part n a l;
      part = λ a b h e. let y = of_some n b l e in some_is n a y.0 l y.1 (λ d i q. y.2 d i (h d i q));
      meet = λ a b p q.
          let x = of_some n a l p in
          let y = of_some n b l q in
          let d = two x.0 y.0 x.1 y.1 in
          (d.0, d.1, outside (a d.0) (x.0 d.0) (x.2 d.0 d.1) d.2, outside (b d.0) (y.0 d.0) (y.2 d.0 d.1) d.3);
    }
  where
    outside : (x y : Bool) → (x ≡ true → y ≡ true) → y ≡ false → x ≡ false
    outside true y h e = absurd (true≢false (sym (h refl) ∙ e))
    outside false y h e = refl

-- with the empty set too
pub with_none : (n : ℕ) → 0 < n → (l : List (ℕ → Bool)) → AnyTwo n l → AnyTwo n ((λ d. false) ∷ l)
with_none n some l two s t i j = ⊎_elim (λ e. ⊎_elim (λ e'. (0, some, ap (λ (a : ℕ → Bool). a 0) e, ap (λ (a : ℕ → Bool). a 0) e')) (λ m. let y = two t t m m in (y.0, y.1, ap (λ (a : ℕ → Bool). a y.0) e, y.3)) (Memᴰ.cases_cons j)) (λ m. ⊎_elim (λ e'. let y = two s s m m in (y.0, y.1, y.2, ap (λ (a : ℕ → Bool). a y.0) e')) (λ m'. two s t m m') (Memᴰ.cases_cons j)) (Memᴰ.cases_cons i)

module _ {n : ℕ} (some : 0 < n) (l : List (ℕ → Bool)) (two : AnyTwo n l) where
  abbrev pub parts : Quorum n
  parts = parts_of n ((λ d. false) ∷ l) (with_none n some l two)

  pub none_listed : parts.few (λ d. false) ≡ true
  none_listed = some_is n (λ d. false) (λ d. false) ((λ d. false) ∷ l) (Memᴰ.head refl) (λ d i e. e)

  pub listed : (s : ℕ → Bool) → Memᴰ s l → parts.few s ≡ true
  listed s m = some_is n s s ((λ d. false) ∷ l) (Memᴰ.tail m) (λ d i q. q)

-- the parts of the sets of a list that pass the test
module _ {n : ℕ} (test : (ℕ → Bool) → Bool) (part : Parts n test) (none : test (λ d. false) ≡ true) (some : 0 < n) (l : List (ℕ → Bool)) (two : AnyTwo n l) where
  abbrev pub tested_parts : Quorum n
  tested_parts = within test part (parts some l two)

  pub parts_pass : (a : ℕ → Bool) → tested_parts.few a ≡ true → test a ≡ true
  parts_pass a e = (both (test a) ((parts some l two).few a) e).0

  pub none_in : tested_parts.few (λ d. false) ≡ true
  none_in = and_is (test (λ d. false)) ((parts some l two).few (λ d. false)) none (none_listed some l two)

  pub in_parts : (s : ℕ → Bool) → Memᴰ s l → test s ≡ true → tested_parts.few s ≡ true
  in_parts s m e = and_is (test s) ((parts some l two).few s) e (listed some l two s m)

-- ---- a code, and a medium, for a family whose sets pass the test

-- what is asked of a code's functions: few strips, by the test, may be missing and the blocks come back; and no block reaches few slots alone
pub record Mends {X : Type 0} {n c : ℕ} (test : (ℕ → Bool) → Bool) (E : Code X n c (no_sets n)) : Type 0 where
  pub back : (t : ℕ) (bad : ℕ → Bool) (b : Blocks X) (g : ℕ → ℕ → X) → test bad ≡ true → ((d j : ℕ) → d < n → bad d ≡ false → j < c → g d j ≡ E.shard t b d j) → (i j : ℕ) → i < E.k → j < c → E.blocks t bad g i j ≡ b i j
  pub broad : (t i : ℕ) → i < E.k → (a : ℕ → Bool) → test a ≡ true → (d : ℕ) × (d < n) × (a d ≡ false) × (E.touched t i d ≡ true)

abbrev pub code_for : {X : Type 0} {n c : ℕ} (test : (ℕ → Bool) → Bool) (E : Code X n c (no_sets n)) → Mends test E → (W : Quorum n) → ((a : ℕ → Bool) → W.few a ≡ true → test a ≡ true) → Code X n c W
code_for test E ok W sub =
    record {
      k = E.k;
      shard = E.shard;
      blocks = E.blocks;
      touched = E.touched;
      touched_n = E.touched_n;
      back = λ t bad b g few. ok.back t bad b g (sub bad few);
      shard_same = E.shard_same;
      keeps = E.keeps;
      scrub = E.scrub;
      scrub_sound = E.scrub_sound;
      broad = λ t i h a few. ok.broad t i h a (sub a few);
      lies = E.lies;
      mended = E.mended;
      at_home = E.at_home;
      mends = E.mends;
      accuses_it = E.accuses_it;
      sharp = E.sharp;
      tells = E.tells;
    }

module _ {X : Type 0} (z : Size) (C : LabelCodec X z.n) (K : RecordCodec X) (E : Code X z.n K.c (no_sets z.n)) (S : Stamps) (R : Medium z (no_sets z.n) C K E S) (test : (ℕ → Bool) → Bool) (ok : Mends test E) where
  module _ (W : Quorum z.n) (sub : (a : ℕ → Bool) → W.few a ≡ true → test a ≡ true) where
    abbrev pub code_of : Code X z.n K.c W
    code_of = code_for test E ok W sub

    abbrev pub medium_for : Medium z W C K code_of S
    medium_for =
        record {
          greatest = R.greatest;
          fits = R.fits;
          is_proper = R.is_proper;
          fits_record = R.fits_record;
          is_zeros = R.is_zeros;
          zeros_of = R.zeros_of;
          zeros_are = R.zeros_are;
          same_zeros = R.same_zeros;
          zeros_label = R.zeros_label;
          zeros_shard = R.zeros_shard;
        }

    pub same_zeros_of : (f : Image X) → Zeros z (no_sets z.n) C K E S R f → Zeros z W C K code_of S medium_for f
    same_zeros_of f h = record { labels = h.labels; logs = h.logs; strips = h.strips }
