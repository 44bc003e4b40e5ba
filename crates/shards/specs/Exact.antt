-- What the blocks and the finding of a scrub are, in the words of the code's own theorems: these are the laws by which a function that
-- rebuilds or scrubs is shown to compute them, also where the strips contradict each other. Assumes nothing.
use Rattle.std.specs.Prelude.{◌≡◌, cond, ◌&&◌, [], ◌∷◌, ◌≢◌}
use Rattle.std.proofs.Math.Path.{refl, sym, ap}
use Rattle.std.proofs.Common.{◌∙◌, true≢false, arith, lit<}
use Rattle.std.proofs.Math.Bool.{Bool, true, false}
use Prim.Native.Nat.{ℕ, ◌+◌, ◌≤◌, ◌<◌}
use Rattle.std.proofs.Math.Dec.{eqb, leb}
use borrow.Author.Tests.{eqb-true, eqb-false, eq-eqb, ne_eqb, leb-true, le-leb}
use Rattle.disk.specs.Limits.{sector_bytes}
use Rattle.disk.specs.Geometry.{slot_of, slot_lt}
use Rattle.codeword.specs.Stripe.{InRange, Holds, Bytes, has}
use Rattle.codeword.specs.Mend.{Mended, put, put_off, put_bytes}
use Rattle.codeword.proofs.Unique.{unique}
use Rattle.protocol.specs.Count.{count}
use Rattle.protocol.specs.Host.{accused, several}
use Rattle.codecs.specs.Sector.{Sector}
use Rattle.codecs.specs.Shelf.{Shelf, slots, some_slots}
use Rattle.position.specs.Search.{all, all_at, all_of, some, some_of, first, first_is, first_lt}
use Rattle.shards.specs.Quorum.{count_none, count_one}
use Rattle.position.specs.Position.{holds, holds_true, holds_is, holds_same, filled_off, filled_blind}
use Rattle.shards.specs.Parity.{byte, sector_ext}
use Rattle.shards.specs.Strips.{position, position_bytes, missing_of, missing_has, in_range_lem, blocks_from, blocks_byte, sound_in, mended_by, one_mends, scrub_of}

-- ---- where two shards can be blamed for a position, none is to be

module _ (k m : ℕ) (range : InRange k m) (two : 2 ≤ m) (x : ℕ → ℕ) (b : Bytes x) where
  pub blamed_twice : (r q : ℕ) → r ≢ q → Mended k m x r → Mended k m x q → Holds k m x
  blamed_twice r q n u w = holds_same k m x (put q w.0 x) there w.2
    where
      apart : (i : ℕ) → has (r ∷ q ∷ []) i ≡ false → put r u.0 x i ≡ put q w.0 x i
      apart i e = go (eqb r i) refl (eqb q i) refl e
        where
          go : (s : Bool) → eqb r i ≡ s → (t : Bool) → eqb q i ≡ t → cond s true (cond t true false) ≡ false → put r u.0 x i ≡ put q w.0 x i
          go true f t g h = absurd (true≢false h)
          go false f true g h = absurd (true≢false h)
          go false f false g h = put_off r u.0 i x (λ e. eqb-false r i f (sym e)) ∙ sym (put_off q w.0 i x (λ e. eqb-false q i g (sym e)))

      same : (i : ℕ) → i < k + m → put r u.0 x i ≡ put q w.0 x i
      same =
          unique k m range (r ∷ q ∷ []) two (put r u.0 x) (put q w.0 x) (put_bytes r u.0 x u.1 b) (put_bytes q w.0 x w.1 b) u.2 w.2
          (λ i h e. apart i e)

      there : (i : ℕ) → i < k + m → x i ≡ put q w.0 x i
      there i h = go (eqb q i) refl
        where
          go : (t : Bool) → eqb q i ≡ t → x i ≡ put q w.0 x i
          go true e = sym (put_off r u.0 i x (λ s. n (sym (eqb-true q i e ∙ s)))) ∙ same i h
          go false e = sym (put_off q w.0 i x (λ s. eqb-false q i e (sym s)))

-- ---- the tests of a scrub

module _ (z : Shelf) (x : ℕ → ℕ → ℕ → ℕ) where
  -- the equations hold at every byte
  abbrev pub Sound : Type 0
  Sound = (j p : ℕ) → j < z.c → p < sector_bytes → Holds z.k z.m (x j p)

  -- there is a content for shard r with which they do
  abbrev pub Blames : ℕ → Type 0
  Blames r = (j p : ℕ) → j < z.c → p < sector_bytes → Mended z.k z.m (x j p) r

  pub sound_of : sound_in z x ≡ true → Sound
  unfolding sound_in
  sound_of e j p hj hp =
      holds_true z.k z.m (x j p)
      (all_at sector_bytes (λ p. holds z.k z.m (x j p)) (all_at z.c (λ j. all sector_bytes (λ p. holds z.k z.m (x j p))) e j hj) p hp)

  mended_of : (r : ℕ) → mended_by z x r ≡ true → Blames r
  unfolding mended_by
  mended_of r e j p hj hp =
      let test : ℕ → Bool = λ v. holds z.k z.m (put r v (x j p)) in
      let s : some 256 test ≡ true =
      all_at sector_bytes (λ p. some 256 (λ v. holds z.k z.m (put r v (x j p))))
      (all_at z.c (λ j. all sector_bytes (λ p. some 256 (λ v. holds z.k z.m (put r v (x j p))))) e j hj) p hp in
      (first 256 test, first_lt 256 test (lit< tt), holds_true z.k z.m (put r (first 256 test) (x j p)) (first_is 256 test s))

  mended_is : (r : ℕ) → Blames r → mended_by z x r ≡ true
  unfolding mended_by
  mended_is r e =
      all_of z.c (λ j. all sector_bytes (λ p. some 256 (λ v. holds z.k z.m (put r v (x j p)))))
      (λ j hj. all_of sector_bytes (λ p. some 256 (λ v. holds z.k z.m (put r v (x j p))))
      (λ p hp. let w = e j p hj hp in some_of 256 (λ v. holds z.k z.m (put r v (x j p))) w.0 w.1 (holds_is z.k z.m (put r w.0 (x j p)) w.2)))

  sound_not : (Sound → ⊥) → sound_in z x ≡ false
  sound_not n = go (sound_in z x) refl
    where
      go : (b : Bool) → sound_in z x ≡ b → sound_in z x ≡ false
      go true e = absurd (n (sound_of e))
      go false e = e

  mended_not : (r : ℕ) → (Blames r → ⊥) → mended_by z x r ≡ false
  mended_not r n = go (mended_by z x r) refl
    where
      go : (b : Bool) → mended_by z x r ≡ b → mended_by z x r ≡ false
      go true e = absurd (n (mended_of r e))
      go false e = e

  module _ (b : (j p : ℕ) → Bytes (x j p)) (not_sound : Sound → ⊥) where
    -- at most one shard is to blame
    pub blamed_once : 2 ≤ z.m → (r q : ℕ) → Blames r → Blames q → r ≢ q → ⊥
    blamed_once two r q u w n = not_sound (λ j p hj hp. blamed_twice z.k z.m (in_range_lem z) two (x j p) (b j p) r q n (u j p hj hp) (w j p hj hp))

    one_is : 2 ≤ z.m → (r : ℕ) → r < slots z → Blames r → one_mends z x ≡ true
    unfolding one_mends
    one_is two r h u =
        rw (le-leb 2 z.m two)
        (eq-eqb (count (mended_by z x) (slots z)) 1
        (count_one (mended_by z x) (slots z) r h (mended_is r u) (λ q l n. mended_not q (λ w. blamed_once two q r w u n))))

    first_one : 2 ≤ z.m → (r : ℕ) → r < slots z → Blames r → first (slots z) (mended_by z x) ≡ r
    first_one two r h u = go (eqb a r) refl
      where
        a : ℕ
        a = first (slots z) (mended_by z x)

        go : (t : Bool) → eqb a r ≡ t → a ≡ r
        go true e = eqb-true a r e
        go false e =
            absurd (blamed_once two a r (mended_of a (first_is (slots z) (mended_by z x) (some_of (slots z) (mended_by z x) r h (mended_is r u)))) u (eqb-false a r e))

    none_is : (2 ≤ z.m → (r : ℕ) → r < slots z → Blames r → ⊥) → one_mends z x ≡ false
    unfolding one_mends
    none_is h = go (leb 2 z.m) refl
      where
        go : (t : Bool) → leb 2 z.m ≡ t → (t && eqb (count (mended_by z x) (slots z)) 1) ≡ false
        go true e =
            ne_eqb (count (mended_by z x) (slots z)) 1
            (λ q. omega (arith, count_none (mended_by z x) (slots z) (λ r l. mended_not r (h (leb-true 2 z.m e) r l))))
        go false e = refl

module _ (z : Shelf) (t : ℕ) where
  -- ---- SCRUB: with `scrub_holds` these say of every stripe what is found
  module _ (g : ℕ → ℕ → Sector) (not_sound : Sound z (position z t g) → ⊥) where
    pub scrub_accuses : 2 ≤ z.m → (r : ℕ) → r < slots z → Blames z (position z t g) r → scrub_of z t g ≡ accused r
    unfolding scrub_of
    scrub_accuses two r h u =
        rw (sound_not z (position z t g) not_sound, one_is z (position z t g) (position_bytes z t g) not_sound two r h u)
        (ap accused (first_one z (position z t g) (position_bytes z t g) not_sound two r h u))

    pub scrub_several : (2 ≤ z.m → (r : ℕ) → r < slots z → Blames z (position z t g) r → ⊥) → scrub_of z t g ≡ several
    unfolding scrub_of
    scrub_several h = rw (sound_not z (position z t g) not_sound, none_is z (position z t g) (position_bytes z t g) not_sound h)

  -- ---- THE BLOCKS
  module _ (bad : ℕ → Bool) (g : ℕ → ℕ → Sector) (i j : ℕ) (hi : i < slots z) where
    -- one whose slot is not bad is what its strip holds
    pub blocks_there : bad (slot_of (slots z) t i) ≡ false → blocks_from z t bad g i j ≡ g (slot_of (slots z) t i) j
    unfolding position
    blocks_there e =
        sector_ext (blocks_from z t bad g i j) (g (slot_of (slots z) t i) j)
        (λ p l. blocks_byte z t bad g i j p l ∙ filled_off z.k z.m (missing_of z t bad) (position z t g j p) i (missing_has z t bad i hi ∙ e))

    -- what the bad slots hold makes no difference, whatever the other strips are
    pub blocks_blind : (h : ℕ → ℕ → Sector) → ((d : ℕ) → d < slots z → bad d ≡ false → g d j ≡ h d j) → blocks_from z t bad g i j ≡ blocks_from z t bad h i j
    unfolding position
    blocks_blind h e =
        sector_ext (blocks_from z t bad g i j) (blocks_from z t bad h i j)
        (λ p l. blocks_byte z t bad g i j p l
        ∙ filled_blind z.k z.m (missing_of z t bad) (position z t g j p) (position z t h j p)
        (λ r q n. ap (λ (x : Sector). byte x p) (e (slot_of (slots z) t r) (slot_lt (slots z) t (some_slots z) r) (sym (missing_has z t bad r q) ∙ n))) i hi
        ∙ sym (blocks_byte z t bad h i j p l))
