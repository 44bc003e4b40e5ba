-- What the code finds in the log is what the protocol finds: later is greater, complete is all stamps equal and not 0,
-- and a tail that the protocol wrote is one that the code accepts. Assumes nothing.
use Rattle.std.specs.Prelude.{◌≡◌, refl, Bool, true, ◌&&◌, List, eqb, ltb, leb, length}
use Rattle.std.proofs.Math.Path.{sym, ap}
use Rattle.std.proofs.Common.{◌∙◌, true≢false, eq-zero-or-pos, arith}
use Rattle.std.proofs.Math.Logic.{⊎_elim}
use Rattle.std.proofs.Math.Bool.{false, not}
use Prim.Native.Nat.{ℕ, ◌+◌, ◌*◌, ◌≤◌, ◌<◌, ◌/◌, ◌^◌}
use Rattle.std.proofs.Math.Arith.{digits_div, digits_mod}
use Rattle.std.proofs.Math.Pow.{pow_pos}
use borrow.Author.Tests.{lt-ltb, le-ltb, le-leb, eqb-true, eq-eqb, ne_eqb}
use Rattle.disk.specs.Limits.{sector_bytes}
use Rattle.disk.specs.Tests.{both}
use Rattle.disk.proofs.NumberLaws.{number_lt}
use Rattle.disk.specs.Mask.{in_mask, slot_le, mask_lt, mask_below}
use Rattle.disk.specs.Geometry.{stripes_of, shard_of, shard_lt, slot_shard}
use Rattle.record.specs.Stamp.{stamp_at, zero_stamp, later_of, StampFits, stamp_ext, later_is, later_or}
use Rattle.record.specs.Tail.{may_be}
use Rattle.record.specs.Log.{part, complete_of, complete_is, is_complete}
use Rattle.record.specs.declared.stamp.Stamp.{Stamp}
use Rattle.protocol.specs.Log.{Write}
use Rattle.codecs.specs.Sector.{Sector, Bytes}
use Rattle.codecs.specs.Shelf.{Shelf, slots, geometry, some_slots, strips_fit}
use Rattle.codecs.specs.Records.{counts, stamp_number, stamp_of, stamp_in, changes_shard, shards_of, tail_of, Fitting}
use Rattle.codecs.proofs.Written.{stamp_number_lem}

-- ---- one number, one stamp

pub number_stamp : (a : Stamp) → StampFits a → stamp_of (stamp_number a) ≡ a
number_stamp a f = stamp_ext (stamp_of (stamp_number a)) a (digits_div a.epoch f.counts) (digits_mod a.epoch f.counts)

pub stamp_one : (a b : Stamp) → StampFits a → StampFits b → stamp_number a ≡ stamp_number b → a ≡ b
stamp_one a b f g e = sym (number_stamp a f) ∙ ap stamp_of e ∙ number_stamp b g

-- every sector's stamp has 16 bytes
pub sector_stamp : (x : Sector) → StampFits (stamp_at x.bytes)
unfolding stamp_at Bytes
sector_stamp x = record { epochs = number_lt 8 x.bytes 0 x.small; counts = number_lt 8 x.bytes 8 x.small }

pub zero_number : (a : Stamp) → zero_stamp a ≡ eqb (stamp_number a) 0
unfolding zero_stamp
zero_number a = by (eqb a.epoch 0) refl (eqb a.count 0) refl
  where
    by : (p : Bool) → eqb a.epoch 0 ≡ p → (q : Bool) → eqb a.count 0 ≡ q → (p && q) ≡ eqb (stamp_number a) 0
    by true e true f = sym (eq-eqb (stamp_number a) 0 (omega (arith, eqb-true a.epoch 0 e, eqb-true a.count 0 f)))
    by true e false f = sym (ne_eqb (stamp_number a) 0 (λ h. true≢false (sym (eq-eqb a.count 0 (omega arith)) ∙ f)))
    by false e q f = sym (ne_eqb (stamp_number a) 0 (λ h. true≢false (sym (eq-eqb a.epoch 0 (omega arith)) ∙ e)))

-- ---- later is greater

later_lt : (a b : Stamp) → StampFits a → StampFits b → later_of a b ≡ true → stamp_number b < stamp_number a
later_lt a b f g h =
    ⊎_elim (λ (l : b.epoch < a.epoch). omega (arith, g.counts)) (λ (l : (a.epoch ≡ b.epoch) × (b.count < a.count)). omega (arith, l.0, l.1)) (later_is a b h)

pub later_number : (a b : Stamp) → StampFits a → StampFits b → later_of a b ≡ ltb (stamp_number b) (stamp_number a)
later_number a b f g = by (later_of a b) refl
  where
    not_less : later_of a b ≡ false → stamp_number a ≤ stamp_number b
    not_less e =
        ⊎_elim (λ (h : later_of a b ≡ true). absurd (true≢false (sym h ∙ e)))
        (⊎_elim (λ (h : later_of b a ≡ true). omega (arith, later_lt b a g f h)) (λ (h : a ≡ b). omega (arith, ap stamp_number h))) (later_or a b)

    by : (r : Bool) → later_of a b ≡ r → r ≡ ltb (stamp_number b) (stamp_number a)
    by true e = sym (lt-ltb (stamp_number b) (stamp_number a) (later_lt a b f g e))
    by false e = sym (le-ltb (stamp_number b) (stamp_number a) (not_less e))

pub later_in : (x y : Sector) → later_of (stamp_at x.bytes) (stamp_at y.bytes) ≡ ltb (stamp_in y) (stamp_in x)
unfolding stamp_in
later_in x y = later_number (stamp_at x.bytes) (stamp_at y.bytes) (sector_stamp x) (sector_stamp y)

-- ---- complete, of a row of c + 1 sectors

module _ (z : Shelf) (area : List ℕ) (v : ℕ → Sector) (are : (j : ℕ) → j ≤ z.c → part area j ≡ (v j).bytes) where
  stamp_at_lem : (j : ℕ) → j ≤ z.c → stamp_at (part area j) ≡ stamp_at (v j).bytes
  stamp_at_lem j l = ap stamp_at (are j l)

  pub complete_says : complete_of area z.c ≡ true → (0 < stamp_in (v z.c)) × ((j : ℕ) → j ≤ z.c → stamp_in (v j) ≡ stamp_in (v z.c))
  unfolding stamp_in
  complete_says e =
      let h = complete_is area z.c e in
      let last = stamp_at_lem z.c (omega arith) in (
        some (stamp_at (v z.c).bytes) (ap zero_stamp (sym last) ∙ h.0),
        λ j l. ap stamp_number (sym (stamp_at_lem j l) ∙ h.1 j l ∙ last),
      )
    where
      some : (a : Stamp) → zero_stamp a ≡ false → 0 < stamp_number a
      some a q = ⊎_elim (λ (w : stamp_number a ≡ 0). absurd (true≢false (sym (zero_number a ∙ eq-eqb (stamp_number a) 0 w) ∙ q))) (λ (w : 0 < stamp_number a). w) (eq-zero-or-pos (stamp_number a))

  pub says_complete : length area ≡ (z.c + 1) * sector_bytes → 0 < stamp_in (v z.c) → ((j : ℕ) → j < z.c → stamp_in (v j) ≡ stamp_in (v z.c)) → complete_of area z.c ≡ true
  unfolding stamp_in
  says_complete la p h =
      let last = stamp_at_lem z.c (omega arith) in
      is_complete area z.c (strips_fit z) la
      (ap zero_stamp last ∙ zero_number (stamp_at (v z.c).bytes) ∙ ne_eqb (stamp_number (stamp_at (v z.c).bytes)) 0 (λ q. omega arith))
      (λ j l. stamp_at_lem j (omega arith) ∙ stamp_one (stamp_at (v j).bytes) (stamp_at (v z.c).bytes) (sector_stamp (v j)) (sector_stamp (v z.c)) (h j l) ∙ sym last)

-- ---- a tail that the protocol wrote is accepted: its stamp is not 0 and its epoch no later than the settled generation, and it changes a slot

module _ (z : Shelf) (σ : ℕ) (w : Write Sector) (f : Fitting z σ w) where
  pub tail_may : (generation d : ℕ) → 0 < σ → σ / counts ≤ generation → w.changes d ≡ true → may_be (tail_of z σ w) (stripes_of (geometry z)) (slots z) generation ≡ true
  unfolding may_be
  tail_may generation d p e h =
      both (not (zero_stamp (stamp_of σ))) _ (ap not (zero_number (stamp_of σ) ∙ ne_eqb (stamp_number (stamp_of σ)) 0 (λ q. omega (arith, stamp_number_lem σ))))
      (both (leb (σ / counts) generation) _ (le-leb (σ / counts) generation e)
      (both (ltb w.stripe (stripes_of (geometry z))) _ (lt-ltb w.stripe (stripes_of (geometry z)) f.stripes)
      (both (not (eqb (shards_of z w) 0)) _ (ap not (ne_eqb (shards_of z w) 0 (λ q. omega (arith, slot_le (shards_of z w) r changed, pow_pos r))))
      (lt-ltb (shards_of z w) (2 ^ slots z) (mask_lt (changes_shard z w) (slots z))))))
    where
      r : ℕ
      r = shard_of (slots z) w.stripe d

      changed : in_mask (shards_of z w) r ≡ true
      changed =
          mask_below (changes_shard z w) (slots z) r (shard_lt (slots z) w.stripe (some_slots z) d)
          ∙ ap w.changes (slot_shard (slots z) w.stripe (some_slots z) d (f.inside d h)) ∙ h
