-- Few slots: at most m of a shelf's n. With k > m this is a quorum in the protocol's sense, and of a mask it is the count of its
-- ones. A stripe's shards are its slots turned round, so few slots are few shards. Assumes nothing.
use Rattle.std.specs.Prelude.{◌≡◌, refl, Bool, true, false, ℕ, ◌≤◌, ◌<◌, ◌^◌}
use Rattle.std.proofs.Common.{sym, ⊎_elim, arith}
use Rattle.std.proofs.Math.Path.{ap}
use Rattle.std.specs.Int.Count.{ones}
use Rattle.std.proofs.Math.Dec.{leb}
use borrow.Author.Tests.{leb-true, le-leb}
use Rattle.disk.specs.Mask.{tally, in_mask, count_is}
use Rattle.protocol.specs.Label.{Quorum}
use Rattle.protocol.specs.Count.{count, count_part, count_meet}
use Rattle.codecs.specs.Shelf.{Shelf, slots}
use Rattle.shards.specs.Quorum.{tally_count, count_none, most_few, few_of}

module _ (z : Shelf) where
  pub few_count : (a : ℕ → Bool) → few_of z a ≡ true → count a (slots z) ≤ z.m
  unfolding few_of
  few_count a e = omega (arith, leb-true (tally a (slots z)) (most_few z) e, tally_count a (slots z))

  pub count_few : (a : ℕ → Bool) → count a (slots z) ≤ z.m → few_of z a ≡ true
  unfolding few_of
  count_few a h = le-leb (tally a (slots z)) (most_few z) (omega (arith, tally_count a (slots z)))

  -- none are few
  pub few_none : few_of z (λ d. false) ≡ true
  few_none = count_few (λ d. false) (omega (arith, count_none (λ d. false) (slots z) (λ i l. refl)))

  -- of a mask: at most m ones
  pub few_mask : (mask : ℕ) → mask < 2 ^ slots z → few_of z (in_mask mask) ≡ leb (ones mask) z.m
  unfolding few_of
  few_mask mask h = ap (λ (x : ℕ). leb x z.m) (sym (count_is (slots z) mask h))

abbrev pub quorum : (z : Shelf) → z.m < z.k → Quorum (slots z)
quorum z more =
    record {
      few = few_of z;
      part = λ a b h e. count_few z a (omega (arith, count_part a b (slots z) h, few_count z b e));
      meet = λ a b p q. ⊎_elim (λ r. r) (λ r. absurd (omega (arith, few_count z a p, few_count z b q))) (count_meet a b (slots z));
    }
