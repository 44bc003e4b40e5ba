-- A STRIP THAT IS REBUILT. What a rebuild asks of the shelf's label, its slot, its strips and the work area; and then each of its sectors is the
-- one that the protocol's program rebuilds, and goes to its place. Assumes nothing.
use Rattle.std.specs.Prelude.{◌≡◌, ◌&&◌, take, Ok}
use Rattle.std.proofs.Math.Path.{refl, sym, ap}
use Rattle.std.proofs.Common.{◌∙◌, ⊎_elim, true≢false, suc-mul, div-lt_iff_lt-mul, mod-lt}
use Rattle.std.proofs.Math.Bool.{Bool, true, false, not}
use mathlib.Core.List.{List, []}
use Prim.Native.Nat.{ℕ, ◌+◌, ◌*◌, ◌-◌, ◌≤◌, ◌<◌, ◌/◌, ◌%◌}
use Rattle.std.proofs.Math.Nat.{mul-le-mul_right, div-mul-le_self}
use native.Mathlib.Omega.{arith}
use Rattle.std.proofs.Math.Dec.{ltb, leb, eqb}
use Rattle.std.proofs.Math.ListN.{length}
use Rattle.std.proofs.Math.Seq.{length-take-le}
use borrow.Author.Tests.{lt-ltb, le-ltb, le-leb, eq-eqb}
use Rattle.disk.specs.Limits.{sector_bytes, first_strip, most_sectors}
use Rattle.disk.specs.Tests.{and_right, both}
use Rattle.disk.specs.Geometry.{in_range, splits, in_range_with, stripes_of, shard_of, shard_lt, found, stripes_le}
use Rattle.disk.specs.Image.{fits_image}
use Rattle.disk.specs.Mask.{in_mask, mask_of, mask_below}
use Rattle.disk.specs.declared.geometry.Geometry.{Geometry}
use Rattle.disk.specs.Geometry.{Found}
use Rattle.label.specs.declared.fields.Label as bytes
use Rattle.label.proofs.Counts.{same_says}
use Rattle.redo.specs.Decide.{believed}
use Rattle.protocol.specs.World.{strip}
use Rattle.protocol.specs.Count.{count_part}
use Rattle.protocol.specs.Label as Label
use Rattle.protocol.proofs.Label as Label_laws
use Rattle.protocol.specs.Host.{missing}
use Rattle.protocol.specs.Pairs.{no_sets}
use Rattle.codecs.specs.Sector.{Sector}
use Rattle.codecs.specs.Shelf.{Shelf, slots, geometry, size, limits, some_slots, some_sectors, in_limits}
use Rattle.codecs.specs.Labels.{label_of, ours, fields_of, no_label}
use Rattle.codecs.proofs.Records.{records}
use Rattle.shards.specs.Quorum.{few_of}
use Rattle.shards.proofs.Quorum.{few_count, count_few}
use Rattle.shards.proofs.Even.{any_code}
use Rattle.strips.specs.Seen.{shard_bytes}
use Rattle.strips.specs.Answers.{part_of, few_lost, shown_answer}
use Rattle.views.specs.Seen.{gone}
use Rattle.views.proofs.Whole.{few_lost_lem}
use Rattle.shelf.specs.Act.{in_strips}
use Rattle.shelf.specs.Fill as Fill
use Rattle.shelf.specs.Says.{when, unless}
use Rattle.refine.specs.Disks.{Disks, cur_of, image_fits}
use Rattle.refine.specs.Strips.{mask_believed}

-- the slots of the mask are the one that is being rebuilt, which is out; its strips from the mark on are filled, which the shelf has;
-- few strips are not believed, no absent slot is looked at, and the work area has room for a stripe
pub record Fillable (z : Shelf) (absent : ℕ) (l : bytes.Label) (work : List ℕ) (mask first count : ℕ) : Type 0 where
  pub here : (d : ℕ) → d < slots z → in_mask mask d ≡ true → d ≡ (label_of z l).rebuilding
  pub out : (label_of z l).out (label_of z l).rebuilding ≡ true
  pub mark : l.mark ≤ first
  pub some : 0 < count
  pub within : first + count ≤ stripes_of (geometry z)
  pub few : (t : ℕ) → t < stripes_of (geometry z) → few_of z (missing (size z) (no_sets (slots z)) (records z) (any_code z) (label_of z l) t) ≡ true
  pub dark : (d : ℕ) → d < slots z → in_mask absent d ≡ true → Label.looked (size z) (label_of z l) d ≡ true → ⊥
  pub room : slots z * (z.c * sector_bytes) ≤ length work

-- few of what is the same on the shelf
few_same : (z : Shelf) (a b : ℕ → Bool) → ((d : ℕ) → d < slots z → a d ≡ b d) → few_of z a ≡ true → few_of z b ≡ true
few_same z a b h e = count_few z b (omega (arith, count_part b a (slots z) (λ d i q. h d i ∙ q), few_count z a e))

module _ (z : Shelf) (absent : ℕ) (l : bytes.Label) (work : List ℕ) (mask first count : ℕ) (can : Fillable z absent l work mask first count) where
  abbrev pub G : Geometry
  G = geometry z

  abbrev pub Q : Label.Label
  Q = label_of z l

  -- a strip at or above the mark of the slot that is being rebuilt is not believed
  pub not_believed : (t : ℕ) → l.mark ≤ t → Label.believed (size z) Q Q.rebuilding t ≡ false
  not_believed t m = by (Label.believed (size z) Q Q.rebuilding t) refl
    where
      by : (b : Bool) → Label.believed (size z) Q Q.rebuilding t ≡ b → b ≡ false
      by true q = absurd (⊎_elim (λ y. true≢false (sym can.out ∙ y)) (λ y. omega (arith, y.1)) (Label_laws.believe_of (size z) Q Q.rebuilding t q).2)
      by false q = refl

  -- ---- the places

  pub fill_some : 0 < count * z.c
  fill_some = omega (arith, mul-le-mul_right z.c can.some, suc-mul 0 z.c, some_sectors z)

  pub fill_short : count * z.c < z.sectors
  unfolding stripes_of
  fill_short =
      let few : count ≤ stripes_of G = omega (arith, can.within) in
      omega (arith, (limits z).0.room, mul-le-mul_right z.c few, div-mul-le_self (z.sectors - first_strip) z.c)

  module _ (x : ℕ) (low : x < count * z.c) where
    pub at_stripe : first + x / z.c < stripes_of G
    at_stripe = omega (arith, can.within, (div-lt_iff_lt-mul {k = z.c} {x = x} {y = count} (some_sectors z)).1 low)

    pub at_sector : x % z.c < z.c
    at_sector = mod-lt x (some_sectors z)

    pub in_strips_lem : in_strips first count z.c x ≡ true
    unfolding in_strips
    in_strips_lem =
        let few : stripes_of G ≤ most_sectors = omega (arith, stripes_le G, (limits z).0.most) in
        both (leb first most_sectors) _ (le-leb first most_sectors (omega (arith, can.within, few))) (both (leb count most_sectors) _ (le-leb count most_sectors (omega (arith, can.within, few))) (lt-ltb x (count * z.c) low))

  -- ---- the slots that are there

  module _ (own : ours z l ≡ true) (t : ℕ) (ht : t < stripes_of G) where
    abbrev pub th : ℕ
    th = Fill.seen_slots G l absent t

    pub seen_believed : (d : ℕ) → d < slots z → in_mask th d ≡ Label.believed (size z) Q d t
    unfolding Fill.seen_slots Fill.present Label.belief
    seen_believed d i =
        mask_below (Fill.present (Fill.believed_slots G l t) absent) (slots z) d i
        ∙ ap (λ (m : ℕ). in_mask m d && not (in_mask absent d)) (when (in_range G) (mask_of (λ e. believed G l e t) (slots z)) 0 (in_limits z))
        ∙ ap (λ (b : Bool). b && not (in_mask absent d)) (mask_believed z l t d i) ∙ by (in_mask absent d) refl (Label.believed (size z) Q d t) refl
      where
        by : (a : Bool) → in_mask absent d ≡ a → (b : Bool) → Label.believed (size z) Q d t ≡ b → (b && not a) ≡ b
        by true e true q = absurd (can.dark d i e ((Label.belief (size z) Q).believe_look d t q))
        by false e true q = refl
        by a e false q = refl

    pub few_gone : few_of z (gone th) ≡ true
    unfolding gone
    few_gone = few_same z (missing (size z) (no_sets (slots z)) (records z) (any_code z) Q t) (gone th) (λ d i. ap not (sym (seen_believed d i))) (can.few t ht)

    pub k_is : l.k ≡ z.k
    k_is = sym (same_says (fields_of z 0 (no_label z)) l own).same_k

    stripe_room : length (Fill.stripe_in G work) ≡ slots z * (z.c * sector_bytes)
    unfolding Fill.stripe_in
    stripe_room =
        ap length (unless (ltb (length work) (slots z * (z.c * sector_bytes))) [] (take (slots z * (z.c * sector_bytes)) work) (le-ltb (length work) (slots z * (z.c * sector_bytes)) can.room))
        ∙ length-take-le (slots z * (z.c * sector_bytes)) work can.room

    module _ (img : List ℕ) (disks : Disks z img) where
      abbrev pub g : ℕ → ℕ → Sector
      g d j = cur_of z img (strip d t j)

      module _ (d : ℕ) (hd : d < slots z) (off : Label.believed (size z) Q d t ≡ false) (j : ℕ) (hj : j < z.c) where
        -- and nothing is in its way
        pub can_rebuild : Fill.rebuild_answer l absent G d t j work img ≡ Ok tt
        unfolding Fill.rebuild_answer shown_answer part_of in_range_with
        can_rebuild =
            let r : ℕ = shard_of (slots z) t d in
            let there : found (in_range G) (ltb t (stripes_of G) && ltb d (slots z)) r ≡ Ok r = rw (in_limits z, lt-ltb t (stripes_of G) ht, lt-ltb d (slots z) hd) in
            let split : splits (slots z) l.k ≡ true = ap (splits (slots z)) k_is ∙ and_right (in_range G) (splits (slots z) z.k) z.range in
            let few : few_lost (slots z) l.k t th ≡ true = ap (λ (k : ℕ). few_lost (slots z) k t th) k_is ∙ few_lost_lem z t th ∙ few_gone in
            let one : 1 * sector_bytes ≡ sector_bytes = omega arith in
            ap (λ (f : Found). Fill.shown_from f l absent G t j work img) there
            ∙ when (fits_image G (length img) && splits (slots z) l.k) _ _ (both (fits_image G (length img)) _ (image_fits z img disks) split)
            ∙ when (ltb t (stripes_of G) && (leb 1 1 && leb (j + 1) z.c) && ltb r (slots z)) _ _ (both (ltb t (stripes_of G) && (leb 1 1 && leb (j + 1) z.c)) _ (both (ltb t (stripes_of G)) _ (lt-ltb t (stripes_of G) ht) (le-leb (j + 1) z.c (omega arith))) (lt-ltb r (slots z) (shard_lt (slots z) t (some_slots z) d)))
            ∙ when (few_lost (slots z) l.k t th) _ _ few
            ∙ when (eqb (length (Fill.stripe_in G work)) (slots z * shard_bytes G) && (eqb (slots z * sector_bytes) (slots z * (1 * sector_bytes)) && eqb sector_bytes (1 * sector_bytes))) _ _
            (both (eqb (length (Fill.stripe_in G work)) (slots z * shard_bytes G)) _ (eq-eqb _ _ stripe_room) (both (eqb (slots z * sector_bytes) (slots z * (1 * sector_bytes))) _ (eq-eqb _ _ (ap (λ (x : ℕ). slots z * x) (sym one))) (eq-eqb _ _ (sym one))))
