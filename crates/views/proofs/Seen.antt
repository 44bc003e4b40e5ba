-- A stripe as it is seen in the lent image is the protocol's: the strips of the slots that are there, with those of some slots taken
-- from a slice of shards instead. What is shown of it, shard by shard, are the blocks that the protocol's code reads, whatever is lost
-- and whatever the strips hold. Assumes nothing.
use Rattle.std.specs.Prelude.{◌≡◌, Bool, true, false, cond, drop}
use Rattle.std.proofs.Math.Path.{refl, sym, ap}
use Rattle.std.proofs.Common.{◌∙◌, zero-add, lit<, get_or-take}
use mathlib.Core.List.{List}
use Prim.Native.Nat.{ℕ, ◌+◌, ◌-◌, ◌*◌, ◌≤◌, ◌<◌}
use native.Mathlib.Omega.{arith}
use Rattle.std.proofs.Math.ListN.{length, get_or}
use Rattle.std.proofs.Math.Seq.{get_or-drop, ext_get_or}
use Rattle.std.proofs.lemmas.Bool.{not-false}
use Rattle.disk.specs.Limits.{sector_bytes}
use Rattle.disk.specs.Geometry.{strip_of, slot_of, slot_lt}
use Rattle.disk.specs.Image.{place, sector}
use Rattle.disk.specs.Mask.{in_mask, in_past}
use Rattle.position.specs.Row.{listed, listed_length, listed_at}
use Rattle.position.specs.Position.{filled, filled_blind}
use Rattle.codecs.specs.Sector.{Sector}
use Rattle.codecs.specs.Shelf.{Shelf, geometry, some_slots}
use Rattle.codecs.specs.Records.{strip_bytes}
use Rattle.codecs.proofs.Written.{length_strip}
use Rattle.shards.specs.Parity.{byte}
use Rattle.shards.specs.Strips.{position, missing_of, missing_has, blocks_byte}
use Rattle.shards.proofs.Even.{any_code}
use Rattle.stripes.specs.Slice.{laid_out, each_byte, sector_byte, sector_is, within}
use Rattle.stripes.proofs.Slice.{laid_only}
use Rattle.strips.specs.Seen.{lost_of, seen, shown_byte, shard_shown, row_seen}
use Rattle.strips.specs.Laws.{row_bytes, row_byte}
use Rattle.views.specs.Seen.{Lying, Keeping, gone, laid_over, strip_at, n, view}

-- with nothing laid over them they are g
pub none_over : (h g : ℕ → ℕ → Sector) → laid_over 0 h g ≡ g
unfolding laid_over
none_over h g = λ i d j. cond (in_past 0 0 d (lit< tt) (omega arith) i) (h d j) (g d j)

module _ (z : Shelf) (t : ℕ) (img : List ℕ) (there over : ℕ) (kept : List ℕ) (g h : ℕ → ℕ → Sector) (lies : Lying z t img there g) (keeps : Keeping z t kept over h) where
  -- ---- what is seen

  from_image : (d j p : ℕ) → d < (n z t img there over kept g h lies keeps) → j < z.c → p < sector_bytes → in_mask there d ≡ true
      → get_or img (place z.sectors d (strip_of (geometry z) t) + (j * sector_bytes + p)) 0 ≡ byte (g d j) p
  unfolding sector
  from_image d j p hd hj hp e =
      let at : ℕ = place z.sectors d (strip_of (geometry z) t + j) in
      let q : place z.sectors d (strip_of (geometry z) t) + (j * sector_bytes + p) ≡ at + p = omega arith in
      ap (λ (i : ℕ). get_or img i 0) q ∙ sym (get_or-take sector_bytes (drop at img) p 0 hp ∙ get_or-drop at img p 0)
      ∙ ap (λ (l : List ℕ). get_or l p 0) (lies d j hd hj e)

  from_kept : (r j p : ℕ) → r < (n z t img there over kept g h lies keeps) → j < z.c → p < sector_bytes → in_mask over (slot_of (n z t img there over kept g h lies keeps) t r) ≡ true
      → get_or kept (r * (z.c * sector_bytes) + (j * sector_bytes + p)) 0 ≡ byte (h (slot_of (n z t img there over kept g h lies keeps) t r) j) p
  from_kept r j p hr hj hp e = sym (sector_byte z kept r j p hp) ∙ ap (λ (l : List ℕ). get_or l p 0) (keeps r j hr hj e)

  pub seen_is : (r j p : ℕ) → r < (n z t img there over kept g h lies keeps) → j < z.c → p < sector_bytes → in_mask there (slot_of (n z t img there over kept g h lies keeps) t r) ≡ true
      → seen (geometry z) img there over kept t r (j * sector_bytes + p) ≡ position z t (view z t img there over kept g h lies keeps) j p r
  unfolding seen position laid_over
  seen_is r j p hr hj hp e = go (in_mask over (slot_of (n z t img there over kept g h lies keeps) t r)) refl
    where
      d : ℕ
      d = slot_of (n z t img there over kept g h lies keeps) t r

      a : ℕ
      a = get_or kept (r * (z.c * sector_bytes) + (j * sector_bytes + p)) 0

      b : ℕ
      b = get_or img (place z.sectors d (strip_of (geometry z) t) + (j * sector_bytes + p)) 0

      go : (o : Bool) → in_mask over d ≡ o → cond o a (cond (in_mask there d) b 0) ≡ byte (cond o (h d j) (g d j)) p
      go true q = from_kept r j p hr hj hp q
      go false q = ap (λ (x : Bool). cond x b 0) e ∙ from_image d j p (slot_lt (n z t img there over kept g h lies keeps) t (some_slots z) r) hj hp e

  -- where nothing is lost, the stripe as it is seen is the strips laid out
  pub row_laid : ((d : ℕ) → d < (n z t img there over kept g h lies keeps) → in_mask there d ≡ true) → row_seen (geometry z) img there over kept t 0 z.c ≡ laid_out z t (view z t img there over kept g h lies keeps)
  unfolding position
  row_laid all =
      let s : List ℕ = row_seen (geometry z) img there over kept t 0 z.c in
      let whole : length s ≡ (n z t img there over kept g h lies keeps) * (z.c * sector_bytes) = row_bytes (geometry z) img there over kept t 0 z.c in
      laid_only z t (view z t img there over kept g h lies keeps) s whole
      (λ r j hr hj. sector_is z s r j whole hr hj ((view z t img there over kept g h lies keeps) (slot_of (n z t img there over kept g h lies keeps) t r) j)
      (λ p hp. row_byte (geometry z) img there over kept t 0 z.c r (j * sector_bytes + p) hr (within z j p hj hp)
      ∙ ap (seen (geometry z) img there over kept t r) (none (j * sector_bytes + p)) ∙ seen_is r j p hr hj hp (all (slot_of (n z t img there over kept g h lies keeps) t r) (slot_lt (n z t img there over kept g h lies keeps) t (some_slots z) r))))
    where
      none : (q : ℕ) → 0 * sector_bytes + q ≡ q
      none q = omega arith

  -- ---- what is shown

  -- the shards that are lost are those whose slots are not there
  lost_is : lost_of (n z t img there over kept g h lies keeps) t there ≡ missing_of z t (gone there)
  unfolding lost_of missing_of gone
  lost_is = refl

  -- BYTE BY BYTE what is shown of shard i is block i as the protocol's code reads it (for i < k; for a parity shard, what it fills in)
  pub shown_is : (i j p : ℕ) → i < (n z t img there over kept g h lies keeps) → j < z.c → p < sector_bytes
      → shown_byte (geometry z) z.k img there over kept t i (j * sector_bytes + p) ≡ byte ((any_code z).blocks t (gone there) (view z t img there over kept g h lies keeps) i j) p
  unfolding shown_byte gone
  shown_is i j p hi hj hp =
      let q : (n z t img there over kept g h lies keeps) - z.k ≡ z.m = omega arith in
      let x : ℕ → ℕ = λ r. seen (geometry z) img there over kept t r (j * sector_bytes + p) in
      ap (λ (m : ℕ). filled z.k m (lost_of (n z t img there over kept g h lies keeps) t there) x i) q
      ∙ ap (λ (l : List ℕ). filled z.k z.m l x i) lost_is
      ∙ filled_blind z.k z.m (missing_of z t (gone there)) x (position z t (view z t img there over kept g h lies keeps) j p)
      (λ r hr e. seen_is r j p hr hj hp (not-false (in_mask there (slot_of (n z t img there over kept g h lies keeps) t r)) (sym (missing_has z t (gone there) r hr) ∙ e))) i hi
      ∙ sym (blocks_byte z t (gone there) (view z t img there over kept g h lies keeps) i j p hp)

  -- A PART OF A SHARD that is shown is those sectors one behind the other
  pub shown_part : (i first count : ℕ) → i < (n z t img there over kept g h lies keeps) → first + count ≤ z.c
      → shard_shown (geometry z) z.k img there over kept t first count i ≡ strip_bytes (λ j. (any_code z).blocks t (gone there) (view z t img there over kept g h lies keeps) i (first + j)) count
  unfolding shard_shown
  shown_part i first count hi hc =
      ext_get_or 0 (listed w f) (strip_bytes v count) (listed_length w f ∙ sym (length_strip v count))
      (λ p l. let hp : p < w = omega (arith, listed_length w f) in listed_at w f p hp ∙ each_byte count (λ p. f p ≡ get_or (strip_bytes v count) p 0) at p hp)
    where
      w : ℕ
      w = count * sector_bytes

      f : ℕ → ℕ
      f p = shown_byte (geometry z) z.k img there over kept t i (first * sector_bytes + p)

      v : ℕ → Sector
      v j = (any_code z).blocks t (gone there) (view z t img there over kept g h lies keeps) i (first + j)

      at : (j p : ℕ) → j < count → p < sector_bytes → f (j * sector_bytes + p) ≡ get_or (strip_bytes v count) (j * sector_bytes + p) 0
      at j p hj hp =
          let q : first * sector_bytes + (j * sector_bytes + p) ≡ (first + j) * sector_bytes + p = omega arith in
          ap (shown_byte (geometry z) z.k img there over kept t i) q ∙ shown_is i (first + j) p hi (omega arith) hp ∙ sym (strip_at v count j p hj hp)

  -- A WHOLE BLOCK: its c sectors
  pub shown_block : (i : ℕ) → i < (n z t img there over kept g h lies keeps) → shard_shown (geometry z) z.k img there over kept t 0 z.c i ≡ strip_bytes ((any_code z).blocks t (gone there) (view z t img there over kept g h lies keeps) i) z.c
  shown_block i hi =
      shown_part i 0 z.c hi (omega arith) ∙ (λ e. strip_bytes (λ j. (any_code z).blocks t (gone there) (view z t img there over kept g h lies keeps) i (zero-add j e)) z.c)
