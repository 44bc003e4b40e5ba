-- The lent image as the protocol's disks: what each place holds is what its sector reads as. A put of a place's sector is the
-- protocol's put, and what is seen with some slots absent goes by the sectors of the others alone. Assumes nothing.
use Rattle.std.specs.Prelude.{◌≡◌, ◌≢◌, Bool, ◌&&◌, List, [], ◌++◌, ℕ, ◌+◌, ◌<◌, length, get_or, drop}
use Rattle.std.proofs.Math.Path.{refl, sym, ap, fun_ext}
use Rattle.std.proofs.Common.{◌∙◌, ⊎_elim, arith, lit<, get_or-take, lt-ltb}
use Rattle.std.proofs.Math.Bool.{true, false, cond}
use Rattle.std.proofs.Math.Nat.{mod-lt, mod-eq_of_lt}
use Rattle.std.proofs.Math.Dec.{ltb}
use Rattle.std.proofs.Math.ListN.{take}
use Rattle.std.proofs.Math.Seq.{ext_get_or, get_or-drop}
use Rattle.disk.specs.Limits.{sector_bytes}
use Rattle.disk.specs.Tests.{both}
use Rattle.disk.specs.Image.{place, sector, put_sector, fits_image, on_shelf, read_of}
use Rattle.disk.proofs.Image.{length_sector, shape_put, sector_put, sector_put_other}
use Rattle.protocol.specs.World.{Place, slot, same, same_true, Image, update, update_here, update_other, same_or_not}
use Rattle.protocol.specs.Program.{mask}
use Rattle.protocol.specs.Pairs.{no_sets}
use Rattle.codecs.specs.Sector.{Sector, Bytes}
use Rattle.codecs.proofs.Sector.{zeros, sector_path, bytes_append, bytes_take, bytes_drop}
use Rattle.codecs.specs.Shelf.{Shelf, slots, geometry, size}
use Rattle.codecs.proofs.Labels.{labels}
use Rattle.codecs.proofs.Records.{records}
use Rattle.codecs.specs.Media.{stamps}
use Rattle.shards.specs.Parity.{byte_of}
use Rattle.shards.specs.Parity as Parity
use Rattle.shards.proofs.Even.{any_code, any_sectors}
use Rattle.refine.specs.Places.{sector_of, inside, slot_below}
use Rattle.refine.proofs.Places.{sector_below, place_one}
use Rattle.refine.specs.Disks.{Disks, byte_in, cur_of, seen_of, image_fits, then}

module _ (z : Shelf) where
  pub cur_outside : (img : List ℕ) (k : Place) → inside z k ≡ false → cur_of z img k ≡ zeros
  unfolding cur_of
  cur_outside img k e = rw e

  module _ (img : List ℕ) (disks : Disks z img) where
    -- WHAT A PLACE HOLDS is what its sector reads as
    pub cur_bytes : (k : Place) → inside z k ≡ true → (cur_of z img k).bytes ≡ sector z.sectors img (slot k) (sector_of z k)
    unfolding cur_of sector Bytes
    cur_bytes k i =
        let at = place z.sectors (slot k) (sector_of z k) in
        let h : (p : ℕ) → byte_in z img k p < 256 = λ p. mod-lt (get_or img (at + p) 0) (lit< tt) in
        let x = Parity.sector_of (byte_in z img k) h in
        ap (λ (b : Bool). (cond b x zeros).bytes) i
        ∙ ext_get_or 0 x.bytes (sector z.sectors img (slot k) (sector_of z k))
        (x.whole ∙ sym (length_sector (slots z) z.sectors img disks.shape (slot k) (sector_of z k) (slot_below z k i) (sector_below z k i)))
        (λ p l. let q : p < sector_bytes = omega (arith, x.whole) in
        byte_of (byte_in z img k) h p q ∙ mod-eq_of_lt (disks.small (at + p))
        ∙ sym (get_or-take sector_bytes (drop at img) p 0 q ∙ get_or-drop at img p 0))

    -- as a read of the image gives it
    pub cur_read : (k : Place) → inside z k ≡ true → (cur_of z img k).bytes ≡ read_of (geometry z) img (slot k) (sector_of z k)
    unfolding read_of on_shelf
    cur_read k i =
        cur_bytes k i
        ∙ sym (ap (λ (b : Bool). cond b (sector z.sectors img (slot k) (sector_of z k)) [])
        (both (fits_image (geometry z) (length img)) (ltb (slot k) (slots z) && ltb (sector_of z k) z.sectors) (image_fits z img disks)
        (both (ltb (slot k) (slots z)) (ltb (sector_of z k) z.sectors) (lt-ltb (slot k) (slots z) (slot_below z k i)) (lt-ltb (sector_of z k) z.sectors (sector_below z k i)))))

  -- ---- a put

  module _ (img : List ℕ) (disks : Disks z img) (k : Place) (v : Sector) (i : inside z k ≡ true) where
    -- it is an image of this shelf again
    pub disks_put : Disks z (then z img disks k v i)
    unfolding put_sector
    disks_put =
        let at = place z.sectors (slot k) (sector_of z k) in
        record {
          shape = shape_put (slots z) z.sectors img v.bytes disks.shape v.whole (slot k) (sector_of z k) (slot_below z k i) (sector_below z k i);
          small =
              bytes_append (take at img ++ take sector_bytes v.bytes) (drop (at + sector_bytes) img)
              (bytes_append (take at img) (take sector_bytes v.bytes) (bytes_take at img disks.small) (bytes_take sector_bytes v.bytes v.small))
              (bytes_drop (at + sector_bytes) img disks.small);
        }

    put_here : cur_of z (then z img disks k v i) k ≡ v
    put_here =
        sector_path (cur_of z (then z img disks k v i) k) v
        (cur_bytes (then z img disks k v i) disks_put k i ∙ sector_put (slots z) z.sectors img v.bytes disks.shape v.whole (slot k) (sector_of z k) (slot_below z k i) (sector_below z k i))

    put_other : (l : Place) → l ≢ k → (b : Bool) → inside z l ≡ b → cur_of z (then z img disks k v i) l ≡ cur_of z img l
    put_other l n true e =
        sector_path (cur_of z (then z img disks k v i) l) (cur_of z img l)
        (cur_bytes (then z img disks k v i) disks_put l e
        ∙ sector_put_other (slots z) z.sectors img v.bytes disks.shape v.whole (slot k) (sector_of z k) (slot_below z k i) (sector_below z k i) (slot l) (sector_of z l)
        (slot_below z l e) (sector_below z l e) (λ q. n (place_one z l k e i q.0 q.1))
        ∙ sym (cur_bytes img disks l e))
    put_other l n false e = cur_outside (then z img disks k v i) l e ∙ sym (cur_outside img l e)

    -- A PUT of the sector of a place is the protocol's put
    pub cur_put : cur_of z (then z img disks k v i) ≡ update (cur_of z img) k v
    cur_put =
        fun_ext
        (λ l. ⊎_elim
        (λ (q : l ≡ k). ap (cur_of z (then z img disks k v i)) q ∙ put_here ∙ sym (ap (update (cur_of z img) k v) q ∙ update_here (cur_of z img) k v))
        (λ (n : l ≢ k). put_other l n (inside z l) refl ∙ sym (update_other (cur_of z img) k v l n))
        (same_or_not l k))

  -- ---- with some slots absent

  -- what is seen is what the protocol's program sees
  pub seen_mask : (A : ℕ → Bool) (img : List ℕ) → mask (size z) (no_sets (slots z)) (labels z) (records z) (any_code z) stamps (any_sectors z) A (cur_of z img) ≡ seen_of z A img
  unfolding mask seen_of
  seen_mask A img = refl

  module _ (A : ℕ → Bool) where
    pub seen_present : (img : List ℕ) (k : Place) → A (slot k) ≡ false → seen_of z A img k ≡ cur_of z img k
    unfolding seen_of
    seen_present img k e = rw e

    pub seen_absent : (img : List ℕ) (k : Place) → A (slot k) ≡ true → seen_of z A img k ≡ zeros
    unfolding seen_of
    seen_absent img k e = rw e

    -- a put of a present slot's sector is the protocol's put, as far as it is seen
    pub seen_put : (img : List ℕ) → Disks z img → (k : Place) (v : Sector) → inside z k ≡ true → A (slot k) ≡ false
        → seen_of z A (put_sector z.sectors img (slot k) (sector_of z k) v.bytes) ≡ update (seen_of z A img) k v
    unfolding seen_of update
    seen_put img disks k v i e =
        ap {B = Image Sector} (λ (f : Image Sector) (l : Place). cond (A (slot l)) zeros (f l)) (cur_put img disks k v i) ∙ fun_ext (λ l. go l (same l k) refl)
      where
        go : (l : Place) (b : Bool) → same l k ≡ b → cond (A (slot l)) zeros (cond b v (cur_of z img l)) ≡ cond b v (cond (A (slot l)) zeros (cur_of z img l))
        go l true q = ap (λ (x : Bool). cond x zeros v) (ap (λ (p : Place). A (slot p)) (same_true l k q) ∙ e)
        go l false q = refl

    -- two images that agree on the sectors of the present slots are seen alike
    pub seen_same : (a b : List ℕ) → Disks z a → Disks z b → ((d s : ℕ) → A d ≡ false → d < slots z → s < z.sectors → sector z.sectors a d s ≡ sector z.sectors b d s)
        → seen_of z A a ≡ seen_of z A b
    seen_same a b p q h = fun_ext (λ k. go k (A (slot k)) refl (inside z k) refl)
      where
        go : (k : Place) (x : Bool) → A (slot k) ≡ x → (y : Bool) → inside z k ≡ y → seen_of z A a k ≡ seen_of z A b k
        go k true e y i = seen_absent a k e ∙ sym (seen_absent b k e)
        go k false e true i =
            seen_present a k e
            ∙ sector_path (cur_of z a k) (cur_of z b k) (cur_bytes a p k i ∙ h (slot k) (sector_of z k) e (slot_below z k i) (sector_below z k i) ∙ sym (cur_bytes b q k i))
            ∙ sym (seen_present b k e)
        go k false e false i = seen_present a k e ∙ cur_outside a k i ∙ sym (seen_present b k e ∙ cur_outside b k i)
