-- What rebuild, encode and scrub make of a shelf's stripe, by their contracts alone, is what the protocol's code says: the blocks that
-- a read gives, the strips that a write puts, the finding of a scrub. Whatever the strips hold, also where they contradict each
-- other. Assumes nothing.
use Rattle.std.specs.Prelude.{◌≡◌, refl, Bool, cond, eqb, length, Ok, Err}
use Rattle.std.proofs.Math.Path.{sym, ap}
use Rattle.std.proofs.Common.{◌∙◌, true≢false, lit<}
use Rattle.std.proofs.Math.Bool.{true}
use mathlib.Core.List.{List}
use Prim.Native.Nat.{ℕ, ◌+◌, ◌*◌, ◌<◌}
use Rattle.field.specs.Refusal.{Answer}
use Rattle.disk.specs.Limits.{sector_bytes}
use Rattle.disk.specs.Image.{sector}
use Rattle.codeword.specs.Stripe.{Holds, byte_at, Sound}
use Rattle.codeword.proofs.Laid.{holds_ext}
use Rattle.codeword.specs.Mend.{put}
use Rattle.code.specs.Stripes.{Said, Encoded, Rebuilt, Accuses, Says}
use Rattle.code.specs.Exact.{said_one}
use Rattle.code.specs.declared.Verdict.{Verdict}
use Rattle.code.specs.declared.Verdict.TheVariants as verdict
use Rattle.protocol.specs.Host.{Blocks, Finding, all_sound, accused, several}
use Rattle.codecs.specs.Sector.{Sector}
use Rattle.codecs.specs.Shelf.{Shelf, slots}
use Rattle.shards.specs.Quorum.{few_of}
use Rattle.position.specs.Search.{some, some_of, first, first_is, first_lt}
use Rattle.position.specs.Position.{holds, holds_true, holds_is}
use Rattle.shards.specs.Strips.{position, missing_of, scrub_holds}
use Rattle.shards.proofs.Even.{any_code}
use Rattle.shards.specs.Exact as Exact
use Rattle.shards.specs.Exact.{Blames, scrub_accuses, scrub_several}
use Rattle.stripes.specs.Slice.{shard_bytes, laid_out, each_byte, within, slice_shape}
use Rattle.stripes.proofs.Slice.{laid_length, laid_position, laid_sector, laid_only}
use Rattle.stripes.specs.Same.{rebuilt, written, verdict_of, s, slice, strips}

-- A READ: a rebuild of the stripe as it lies on the disks has the blocks (i < k), and for a parity shard what the code fills in
pub read : (z : Shelf) (t : ℕ) (bad : ℕ → Bool) (g : ℕ → ℕ → Sector) → few_of z bad ≡ true → (a : Answer) (after : List ℕ)
    → Rebuilt z.k z.m (shard_bytes z) (missing_of z t bad) a (laid_out z t g) after
    → (i j : ℕ) → i < slots z → j < z.c → sector z.c after i j ≡ ((any_code z).blocks t bad g i j).bytes
read z t bad g few a after w =
    rebuilt z t bad g few (laid_out z t g) (laid_length z t g) a after w (λ r j hr hj e. laid_sector z t g r j hr hj)

-- ---- WRITE

module _ (z : Shelf) (t : ℕ) (b : Blocks Sector) (before after : List ℕ) (whole : length before ≡ slots z * shard_bytes z) where
  module _ (a : Answer) (w : Encoded z.k z.m (shard_bytes z) a before after) where
    module _ (laid : (i j : ℕ) → i < z.k → j < z.c → sector z.c before i j ≡ (b i j).bytes) where
      -- so the slice is the stripe that the code says
      pub written_all : after ≡ laid_out z t ((any_code z).shard t b)
      written_all = laid_only z t ((any_code z).shard t b) after (w.same ∙ whole) (written z t b before after whole a w laid)

-- how a finding is said
abbrev said_of : Finding → Said
said_of f = Ok (verdict_of f)

-- different findings are said differently
verdict_one : (f h : Finding) → verdict_of f ≡ verdict_of h → f ≡ h
verdict_one f h e = sym (back f) ∙ ap finding_of e ∙ back h
  where
    finding_of : Verdict → Finding
    finding_of verdict.Sound = all_sound
    finding_of (verdict.Accused r) = accused r
    finding_of verdict.Unsound = several

    back : (f : Finding) → finding_of (verdict_of f) ≡ f
    back all_sound = refl
    back (accused r) = refl
    back several = refl

put_ext : (r v i : ℕ) (x y : ℕ → ℕ) → x i ≡ y i → put r v x i ≡ put r v y i
unfolding put
put_ext r v i x y e = ap (λ (u : ℕ). cond (eqb i r) v u) e

module _ (z : Shelf) (t : ℕ) (g : ℕ → ℕ → Sector) where
  -- the equations, and those with another byte v for shard r, hold in the slice where they hold in the strips, and back
  module _ (j p : ℕ) (hj : j < z.c) (hp : p < sector_bytes) where
    to_strips : Holds z.k z.m (slice z t g j p hj hp) → Holds z.k z.m (strips z t g j p hj hp)
    to_strips = holds_ext z.k z.m (slice z t g j p hj hp) (strips z t g j p hj hp) (λ r hr. laid_position z t g j p r hj hp hr)

    to_slice : Holds z.k z.m (strips z t g j p hj hp) → Holds z.k z.m (slice z t g j p hj hp)
    to_slice = holds_ext z.k z.m (strips z t g j p hj hp) (slice z t g j p hj hp) (λ r hr. sym (laid_position z t g j p r hj hp hr))

    put_strips : (r v : ℕ) → Holds z.k z.m (put r v (slice z t g j p hj hp)) → Holds z.k z.m (put r v (strips z t g j p hj hp))
    put_strips r v = holds_ext z.k z.m (put r v (slice z t g j p hj hp)) (put r v (strips z t g j p hj hp)) (λ i hi. put_ext r v i (slice z t g j p hj hp) (strips z t g j p hj hp) (laid_position z t g j p i hj hp hi))

    put_slice : (r v : ℕ) → Holds z.k z.m (put r v (strips z t g j p hj hp)) → Holds z.k z.m (put r v (slice z t g j p hj hp))
    put_slice r v =
        holds_ext z.k z.m (put r v (strips z t g j p hj hp)) (put r v (slice z t g j p hj hp)) (λ i hi. put_ext r v i (strips z t g j p hj hp) (slice z t g j p hj hp) (sym (laid_position z t g j p i hj hp hi)))

  sound_strips : Sound z.k z.m (shard_bytes z) (s z t g) → Exact.Sound z (position z t g)
  sound_strips h j p hj hp = to_strips j p hj hp (h (j * sector_bytes + p) (within z j p hj hp))

  sound_slice : Exact.Sound z (position z t g) → Sound z.k z.m (shard_bytes z) (s z t g)
  sound_slice h = each_byte z.c (λ p. Holds z.k z.m (byte_at (shard_bytes z) (s z t g) p)) (λ j p hj hp. to_slice j p hj hp (h j p hj hp))

  blames : (r : ℕ) → Accuses z.k z.m (shard_bytes z) (s z t g) r → Blames z (position z t g) r
  blames r a j p hj hp =
      let q : ℕ = j * sector_bytes + p in
      let w = a.1.1 q (within z j p hj hp) in
      (a.1.0 q, w.0, put_strips j p hj hp r (a.1.0 q) w.1)

  accuses : (r : ℕ) → r < slots z → Blames z (position z t g) r → Accuses z.k z.m (shard_bytes z) (s z t g) r
  accuses r hr u = (hr, (v, each_byte z.c (λ q. (v q < 256) × Holds z.k z.m (put r (v q) (byte_at (shard_bytes z) (s z t g) q))) at))
    where
      mends : ℕ → ℕ → Bool
      mends q v = holds z.k z.m (put r v (byte_at (shard_bytes z) (s z t g) q))

      v : ℕ → ℕ
      v q = first 256 (mends q)

      at : (j p : ℕ) → j < z.c → p < sector_bytes
          → (v (j * sector_bytes + p) < 256) × Holds z.k z.m (put r (v (j * sector_bytes + p)) (byte_at (shard_bytes z) (s z t g) (j * sector_bytes + p)))
      at j p hj hp =
          let q : ℕ = j * sector_bytes + p in
          let w = u j p hj hp in
          let there : some 256 (mends q) ≡ true =
          some_of 256 (mends q) w.0 w.1 (holds_is z.k z.m (put r w.0 (byte_at (shard_bytes z) (s z t g) q)) (put_slice j p hj hp r w.0 w.2)) in
          (first_lt 256 (mends q) (lit< tt), holds_true z.k z.m (put r (v q) (byte_at (shard_bytes z) (s z t g) q)) (first_is 256 (mends q) there))

  -- THE VERDICT is what the code finds, so a scrub of a stripe is never refused
  pub scrubbed : (v : Said) → Says z.k z.m (shard_bytes z) (s z t g) v → v ≡ Ok (verdict_of ((any_code z).scrub t g))
  scrubbed (Ok verdict.Sound) h = sym (ap said_of (scrub_holds z t g (sound_strips h.1)))
  scrubbed (Ok (verdict.Accused r)) h =
      sym (ap said_of (scrub_accuses z t g (λ e. h.1 (sound_slice e)) h.2 r h.3.0 (blames r h.3)))
  scrubbed (Ok verdict.Unsound) h =
      sym (ap said_of (scrub_several z t g (λ e. h.1 (sound_slice e)) (λ two r hr u. h.2 two r (accuses r hr u))))
  scrubbed (Err x) h = absurd (true≢false (sym (slice_shape z (s z t g) (laid_length z t g)) ∙ h.0))

  -- and back: what is found is what the verdict says
  pub found : (v : Said) → Says z.k z.m (shard_bytes z) (s z t g) v → (f : Finding) → v ≡ Ok (verdict_of f) → (any_code z).scrub t g ≡ f
  found v h f e = verdict_one ((any_code z).scrub t g) f (said_one (sym (scrubbed v h) ∙ e))
