-- A whole stripe: what a scrub of it finds is what the protocol finds, a mended shard is the protocol's mended strip, and what is
-- prepared for a write is the stripe that the protocol writes. Whatever the strips hold. That a slice of bytes holds bytes is asked of
-- what a repair left, since its contract says it by the type of the slice alone. Assumes nothing.
use Rattle.std.specs.Prelude.{◌≡◌, refl, Bool, List, [], ◌∷◌, length, Ok}
use Rattle.std.proofs.Math.Path.{sym, ap, ap₂}
use Rattle.std.proofs.Common.{◌∙◌, subst}
use Rattle.std.proofs.Math.Bool.{true, false, not}
use Prim.Native.Nat.{ℕ, ◌+◌, ◌-◌, ◌*◌, ◌<◌}
use native.Mathlib.Omega.{arith}
use Rattle.std.proofs.Math.Dec.{leb}
use borrow.Author.Tests.{eqb-true, eq-eqb, not-false}
use Rattle.disk.specs.Limits.{sector_bytes}
use Rattle.disk.specs.Geometry.{slot_of, shard_of, shard_lt, slot_shard}
use Rattle.disk.specs.Image.{sector}
use Rattle.disk.specs.Mask.{in_mask}
use Rattle.codeword.specs.Stripe.{has}
use Rattle.codeword.specs.Unique.{AllBytes}
use Rattle.code.specs.Stripes.{Said, Says, Repaired}
use Rattle.code.specs.declared.Verdict.TheVariants as verdict
use Rattle.protocol.specs.Count.{count}
use Rattle.protocol.specs.Slots.{from, of_from, every_all}
use Rattle.protocol.specs.Host.{accused}
use Rattle.codecs.specs.Sector.{Sector}
use Rattle.codecs.specs.Shelf.{Shelf, slots, geometry, some_slots}
use Rattle.shards.specs.Quorum.{few_of, count_none, count_shards, tally_count}
use Rattle.shards.proofs.Quorum.{count_few}
use Rattle.shards.specs.Counted.{ascending_length}
use Rattle.shards.specs.Code.{mended_in}
use Rattle.shards.proofs.Even.{any_code}
use Rattle.stripes.specs.Slice.{shard_bytes, laid_out, sector_is}
use Rattle.stripes.proofs.Slice.{laid_length}
use Rattle.stripes.specs.Same.{verdict_of}
use Rattle.stripes.proofs.Same.{scrubbed, found}
use Rattle.strips.specs.Seen.{lost_of, row_seen}
use Rattle.strips.specs.Answers.{few_lost}
use Rattle.strips.specs.Laws.{lost_has}
use Rattle.strips.specs.Whole.{stripe_seen, none_lost}
use Rattle.views.specs.Seen.{Lying, Keeping, gone, laid_over}
use Rattle.views.proofs.Seen.{none_over, row_laid}
use Rattle.views.specs.Whole.{all_there, n, there_all, mended_byte, parity_many, plainly}

same_test : (a b : Bool) → (a ≡ true → b ≡ true) → (b ≡ true → a ≡ true) → a ≡ b
same_test true b f g = sym (f refl)
same_test false true f g = g refl
same_test false false f g = refl

has_empty : (l : List ℕ) (r : ℕ) → length l ≡ 0 → has l r ≡ false
has_empty [] r e = refl
has_empty (a ∷ l) r e = absurd (omega arith)

module _ (z : Shelf) (t there : ℕ) where
  lost_count : length (lost_of (n z t there) t there) ≡ count (gone there) (n z t there)
  unfolding lost_of gone
  lost_count = ascending_length (λ r. not (in_mask there (slot_of (n z t there) t r))) (n z t there) ∙ count_shards (λ d. not (in_mask there d)) (n z t there) t

  -- no shard is lost where every slot is there
  pub none_lost_lem : none_lost (n z t there) t there ≡ all_there (n z t there) there
  unfolding none_lost all_there gone
  none_lost_lem = same_test (none_lost (n z t there) t there) (all_there (n z t there) there) forth back
    where
      forth : none_lost (n z t there) t there ≡ true → all_there (n z t there) there ≡ true
      forth e =
          every_all (in_mask there) (from 0 (n z t there))
          (λ d h. let hd : d < (n z t there) = omega (arith, of_from (n z t there) 0 d h) in
          let r : ℕ = shard_of (n z t there) t d in
          let q : not (in_mask there (slot_of (n z t there) t r)) ≡ false = sym (lost_has (n z t there) t there r (shard_lt (n z t there) t (some_slots z) d)) ∙ has_empty (lost_of (n z t there) t there) r (eqb-true (length (lost_of (n z t there) t there)) 0 e) in
          ap (in_mask there) (sym (slot_shard (n z t there) t (some_slots z) d hd)) ∙ not-false (in_mask there (slot_of (n z t there) t r)) q)

      back : all_there (n z t there) there ≡ true → none_lost (n z t there) t there ≡ true
      back e =
          eq-eqb (length (lost_of (n z t there) t there)) 0
          (lost_count ∙ count_none (gone there) (n z t there) (λ d h. ap not ((there_all z t there) e d h)))

  -- few shards are lost where few slots are not there
  pub few_lost_lem : few_lost (n z t there) z.k t there ≡ few_of z (gone there)
  unfolding few_lost few_of
  few_lost_lem =
      let q : (n z t there) - z.k ≡ z.m = omega arith in
      ap₂ leb (lost_count ∙ sym (tally_count (gone there) (n z t there))) q

  pub few_all : all_there (n z t there) there ≡ true → few_of z (gone there) ≡ true
  unfolding gone
  few_all e = count_few z (gone there) (omega (arith, count_none (gone there) (n z t there) (λ d h. ap not ((there_all z t there) e d h))))

-- ---- scrub, and mend

module _ (z : Shelf) (t : ℕ) (img : List ℕ) (there : ℕ) (g : ℕ → ℕ → Sector) (lies : Lying z t img there g) where
  -- THE VERDICT on a stripe as it is seen is what the protocol's code finds in it
  pub scrub_is : (over : ℕ) (kept : List ℕ) (h : ℕ → ℕ → Sector) → Keeping z t kept over h → none_lost (slots z) t there ≡ true
      → (v : Said) → Says z.k (slots z - z.k) (shard_bytes z) (row_seen (geometry z) img there over kept t 0 z.c) v
      → v ≡ Ok (verdict_of ((any_code z).scrub t (laid_over over h g)))
  scrub_is over kept h keeps none v w =
      scrubbed z t (laid_over over h g) v
      (subst (λ (s : List ℕ). Says z.k z.m (shard_bytes z) s v) (row_laid z t img there over kept g h lies keeps (there_all z t there (sym (none_lost_lem z t there) ∙ none)))
      (subst (λ (m : ℕ). Says z.k m (shard_bytes z) (row_seen (geometry z) img there over kept t 0 z.c) v) (parity_many z t img there g lies) w))

  -- the stripe as it lies on the disks
  pub stripe_laid : none_lost (slots z) t there ≡ true → stripe_seen (geometry z) img there t ≡ laid_out z t g
  stripe_laid none =
      row_laid z t img there 0 [] g g lies (plainly z t img there g lies) (there_all z t there (sym (none_lost_lem z t there) ∙ none))
      ∙ ap (laid_out z t) (none_over g g)

  module _ (none : none_lost (slots z) t there ≡ true) (v : Said) (after : List ℕ)
      (w : Repaired z.k (slots z - z.k) (shard_bytes z) v (stripe_seen (geometry z) img there t) after) where
    pub repaired_laid : Repaired z.k z.m (shard_bytes z) v (laid_out z t g) after
    repaired_laid =
        subst (λ (s : List ℕ). Repaired z.k z.m (shard_bytes z) v s after) (stripe_laid none)
        (subst (λ (m : ℕ). Repaired z.k m (shard_bytes z) v (stripe_seen (geometry z) img there t) after) (parity_many z t img there g lies) w)

    -- what a mend answers is what the protocol finds
    pub mend_finds : v ≡ Ok (verdict_of ((any_code z).scrub t g))
    mend_finds = scrubbed z t g v repaired_laid.says

  -- A MENDED SHARD, with the verdict that accuses it: the protocol accuses it too, and its sectors are those of the protocol's mended strip
  pub mended_is : none_lost (slots z) t there ≡ true → (r : ℕ) (after : List ℕ) → AllBytes after
      → Repaired z.k (slots z - z.k) (shard_bytes z) (Ok (verdict.Accused r)) (stripe_seen (geometry z) img there t) after
      → ((any_code z).scrub t g ≡ accused r) × (r < slots z) × ((j : ℕ) → j < z.c → sector z.c after r j ≡ ((any_code z).mended t g (slot_of (slots z) t r) j).bytes)
  mended_is none r after b w =
      let y = repaired_laid none (Ok (verdict.Accused r)) after w in
      let hr : r < slots z = y.says.3.0 in (
        found z t g (Ok (verdict.Accused r)) y.says (accused r) refl,
        hr,
        λ j hj. sector_is z after r j (y.mends.0 ∙ laid_length z t g) hr hj (mended_in z t g (slot_of (slots z) t r) j)
            (λ p hp. mended_byte z t g r hr after y.mends.1 y.mends.2 j p hj hp (b (r * shard_bytes z + (j * sector_bytes + p)))),
      )
