-- AN IMAGE WITH SLOTS OF ANOTHER IMAGE, sector by sector; what is read of slots that are alike is the same; and two images of a shelf of which all sectors are alike are one. Assumes nothing.
use Rattle.std.specs.Prelude.{◌≡◌, ◌≢◌, Bool, cond, ◌&&◌, ltb, length, get_or, drop}
use Rattle.std.proofs.Math.Path.{refl, sym, ap}
use Rattle.std.proofs.Common.{◌∙◌, ⊎_elim, div-add-mod', mod-lt, mul-le-mul_right, arith, lit<, get_or-take, get_or-drop, lt-ltb}
use Rattle.std.proofs.Math.Bool.{true, false, true≢false}
use mathlib.Core.List.{List, [], ◌++◌}
use Prim.Native.Nat.{ℕ, zero, suc, ◌+◌, ◌*◌, ◌≤◌, ◌<◌, ◌/◌, ◌%◌}
use Rattle.std.proofs.Math.Decide.{ℕ_discrete}
use Rattle.std.proofs.Math.ListN.{take}
use Rattle.std.proofs.Math.Seq.{ext_get_or}
use Rattle.disk.specs.Limits.{sector_bytes}
use Rattle.disk.specs.Tests.{both}
use Rattle.disk.specs.Image.{place, sector, put_sector, Shape, fits_image, on_shelf, read_of, lt_or_ge}
use Rattle.disk.proofs.Image.{length_sector, shape_put, sector_put, sector_put_other}
use Rattle.disk.specs.declared.geometry.Geometry.{Geometry}
use Rattle.label.specs.Valid.{decode_of}
use Rattle.label.specs.Newest.{copy_of}
use Rattle.codecs.proofs.Sector.{bytes_append, bytes_take, bytes_drop}
use Rattle.codecs.specs.Shelf.{Shelf, slots, geometry, limits}
use Rattle.refine.specs.Disks.{Disks, image_fits}

-- the first i sectors of slot d as src has them, everything else as x has it
unfoldable pub slot_from : Shelf → ℕ → List ℕ → List ℕ → ℕ → List ℕ
slot_from z d src x zero = x
slot_from z d src x (suc i) = put_sector z.sectors (slot_from z d src x i) d i (sector z.sectors src d i)

module _ (z : Shelf) (d : ℕ) (there : d < slots z) (src x : List ℕ) (from : Disks z src) (to : Disks z x) where
  whole : (i : ℕ) → i < z.sectors → length (sector z.sectors src d i) ≡ sector_bytes
  whole i h = length_sector (slots z) z.sectors src from.shape d i there h

  from_disks : (i : ℕ) → i ≤ z.sectors → Disks z (slot_from z d src x i)
  unfolding slot_from put_sector sector
  from_disks zero h = to
  from_disks (suc i) h =
      let y = from_disks i (omega arith) in
      let at = place z.sectors d i in
      let v = take sector_bytes (drop at src) in
      let old = slot_from z d src x i in
      record {
        shape = shape_put (slots z) z.sectors old v y.shape (whole i h) d i there h;
        small =
            bytes_append (take at old ++ take sector_bytes v) (drop (at + sector_bytes) old)
            (bytes_append (take at old) (take sector_bytes v) (bytes_take at old y.small) (bytes_take sector_bytes v (bytes_take sector_bytes (drop at src) (bytes_drop at src from.small))))
            (bytes_drop (at + sector_bytes) old y.small);
      }

  from_other : (i : ℕ) → i ≤ z.sectors → (e u : ℕ) → e < slots z → u < z.sectors → ((e ≡ d) × (u < i) → ⊥) → sector z.sectors (slot_from z d src x i) e u ≡ sector z.sectors x e u
  unfolding slot_from
  from_other zero h e u a b n = refl
  from_other (suc i) h e u a b n =
      sector_put_other (slots z) z.sectors (slot_from z d src x i) (sector z.sectors src d i) (from_disks i (omega arith)).shape (whole i h) d i there h e u a b (λ q. n (q.0, omega (arith, q.1)))
      ∙ from_other i (omega arith) e u a b (λ q. n (q.0, omega (arith, q.1)))

  from_here : (i : ℕ) → i ≤ z.sectors → (u : ℕ) → u < i → sector z.sectors (slot_from z d src x i) d u ≡ sector z.sectors src d u
  unfolding slot_from
  from_here zero h u l = absurd (omega arith)
  from_here (suc i) h u l = by (ℕ_discrete u i) (λ n. from_here i (omega arith) u n)
    where
      by : Dec (u ≡ i) → (u < i → sector z.sectors (slot_from z d src x i) d u ≡ sector z.sectors src d u)
          → sector z.sectors (put_sector z.sectors (slot_from z d src x i) d i (sector z.sectors src d i)) d u ≡ sector z.sectors src d u
      by (yes q) ih =
          ap (sector z.sectors (put_sector z.sectors (slot_from z d src x i) d i (sector z.sectors src d i)) d) q
          ∙ sector_put (slots z) z.sectors (slot_from z d src x i) (sector z.sectors src d i) (from_disks i (omega arith)).shape (whole i h) d i there h
          ∙ ap (sector z.sectors src d) (sym q)
      by (no q) ih =
          sector_put_other (slots z) z.sectors (slot_from z d src x i) (sector z.sectors src d i) (from_disks i (omega arith)).shape (whole i h) d i there h d u there (omega arith) (λ p. q p.1)
          ∙ ih (omega (arith, q))

  -- slot d is src's, every other slot is x's
  pub disk_of : Disks z (slot_from z d src x z.sectors)
  disk_of = from_disks z.sectors (omega arith)

  pub disk_here : (u : ℕ) → u < z.sectors → sector z.sectors (slot_from z d src x z.sectors) d u ≡ sector z.sectors src d u
  disk_here u h = from_here z.sectors (omega arith) u h

  pub disk_other : (e u : ℕ) → e < slots z → u < z.sectors → e ≢ d → sector z.sectors (slot_from z d src x z.sectors) e u ≡ sector z.sectors x e u
  disk_other e u a b n = from_other z.sectors (omega arith) e u a b (λ q. n q.0)

-- the slots of A below i as src has them, all others as x has them
unfoldable pub slots_from : Shelf → (ℕ → Bool) → List ℕ → List ℕ → ℕ → List ℕ
slots_from z A src x zero = x
slots_from z A src x (suc i) = cond (A i) (slot_from z i src (slots_from z A src x i) z.sectors) (slots_from z A src x i)

module _ (z : Shelf) (A : ℕ → Bool) (src x : List ℕ) (from : Disks z src) (to : Disks z x) where
  pub slots_disks : (i : ℕ) → i ≤ slots z → Disks z (slots_from z A src x i)
  unfolding slots_from
  slots_disks zero h = to
  slots_disks (suc i) h = by (A i) (slots_disks i (omega arith))
    where
      by : (b : Bool) → Disks z (slots_from z A src x i) → Disks z (cond b (slot_from z i src (slots_from z A src x i) z.sectors) (slots_from z A src x i))
      by true y = disk_of z i h src (slots_from z A src x i) from y
      by false y = y

  pub slots_other : (i : ℕ) → i ≤ slots z → (e u : ℕ) → e < slots z → u < z.sectors → A e ≡ false → sector z.sectors (slots_from z A src x i) e u ≡ sector z.sectors x e u
  unfolding slots_from
  slots_other zero h e u a l n = refl
  slots_other (suc i) h e u a l n = by (A i) refl ∙ slots_other i (omega arith) e u a l n
    where
      by : (b : Bool) → A i ≡ b → sector z.sectors (cond b (slot_from z i src (slots_from z A src x i) z.sectors) (slots_from z A src x i)) e u ≡ sector z.sectors (slots_from z A src x i) e u
      by true q = disk_other z i h src (slots_from z A src x i) from (slots_disks i (omega arith)) e u a l (λ y. true≢false (sym q ∙ (ap A (sym y) ∙ n)))
      by false q = refl

  pub slots_here : (i : ℕ) → i ≤ slots z → (e u : ℕ) → e < i → u < z.sectors → A e ≡ true → sector z.sectors (slots_from z A src x i) e u ≡ sector z.sectors src e u
  unfolding slots_from
  slots_here zero h e u a l n = absurd (omega arith)
  slots_here (suc i) h e u a l n = by (A i) refl (ℕ_discrete e i) (λ y. slots_here i (omega arith) e u y l n)
    where
      by : (b : Bool) → A i ≡ b → Dec (e ≡ i) → (e < i → sector z.sectors (slots_from z A src x i) e u ≡ sector z.sectors src e u)
          → sector z.sectors (cond b (slot_from z i src (slots_from z A src x i) z.sectors) (slots_from z A src x i)) e u ≡ sector z.sectors src e u
      by true q (yes y) ih =
          ap (λ (v : ℕ). sector z.sectors (slot_from z i src (slots_from z A src x i) z.sectors) v u) y ∙ disk_here z i h src (slots_from z A src x i) from (slots_disks i (omega arith)) u l
          ∙ ap (λ (v : ℕ). sector z.sectors src v u) (sym y)
      by true q (no y) ih = disk_other z i h src (slots_from z A src x i) from (slots_disks i (omega arith)) e u (omega arith) l y ∙ ih (omega (arith, y))
      by false q (yes y) ih = absurd (true≢false (sym n ∙ (ap A y ∙ q)))
      by false q (no y) ih = ih (omega (arith, y))

-- ---- what is read of slots that are alike

read_is : (g : Geometry) (v : List ℕ) (e u : ℕ) → (fits_image g (length v) && (ltb e g.n && ltb u g.sectors)) ≡ true → read_of g v e u ≡ sector g.sectors v e u
unfolding read_of on_shelf
read_is g v e u h = ap (λ (b : Bool). cond b (sector g.sectors v e u) []) h

module _ (z : Shelf) (x y : List ℕ) (dx : Disks z x) (dy : Disks z y) where
  pub read_alike : (e u : ℕ) → e < slots z → u < z.sectors → sector z.sectors x e u ≡ sector z.sectors y e u → read_of (geometry z) x e u ≡ read_of (geometry z) y e u
  read_alike e u a l h = read_sector x dx ∙ h ∙ sym (read_sector y dy)
    where
      on : (v : List ℕ) → Disks z v → (fits_image (geometry z) (length v) && (ltb e (slots z) && ltb u z.sectors)) ≡ true
      on v d = both (fits_image (geometry z) (length v)) (ltb e (slots z) && ltb u z.sectors) (image_fits z v d) (both (ltb e (slots z)) (ltb u z.sectors) (lt-ltb e (slots z) a) (lt-ltb u z.sectors l))

      read_sector : (v : List ℕ) → Disks z v → read_of (geometry z) v e u ≡ sector z.sectors v e u
      read_sector v d = read_is (geometry z) v e u (on v d)

  pub copy_alike : (e o : ℕ) → e < slots z → o < 2 → sector z.sectors x e o ≡ sector z.sectors y e o → copy_of (geometry z) x e o ≡ copy_of (geometry z) y e o
  unfolding copy_of
  copy_alike e o a l h = ap (λ (v : List ℕ). decode_of v e o) (read_alike e o a (omega (arith, (limits z).0.room)) h)

-- ---- all sectors alike

sector_byte : (S : ℕ) (v : List ℕ) (e u r : ℕ) → r < sector_bytes → get_or (sector S v e u) r 0 ≡ get_or v (place S e u + r) 0
unfolding sector
sector_byte S v e u r h = get_or-take sector_bytes (drop (place S e u) v) r 0 h ∙ get_or-drop (place S e u) v r 0

module _ (z : Shelf) (x y : List ℕ) (dx : Disks z x) (dy : Disks z y) (alike : (e u : ℕ) → e < slots z → u < z.sectors → sector z.sectors x e u ≡ sector z.sectors y e u) where
  pub same_image : x ≡ y
  unfolding Shape
  same_image = ext_get_or 0 x y (dx.shape ∙ sym dy.shape) (λ p l. one p (omega (arith, dx.shape)))
    where
      S : ℕ
      S = z.sectors

      some : 0 < S
      some = omega (arith, (limits z).0.room)

      one : (p : ℕ) → p < slots z * z.sectors * sector_bytes → get_or x p 0 ≡ get_or y p 0
      one p l = sym (read x) ∙ ap (λ (v : List ℕ). get_or v r 0) (alike e u below (mod-lt q some)) ∙ read y
        where
          q : ℕ
          q = p / sector_bytes

          r : ℕ
          r = p % sector_bytes

          e : ℕ
          e = q / S

          u : ℕ
          u = q % S

          small : r < sector_bytes
          small = mod-lt p (lit< tt)

          is_p : place S e u + r ≡ p
          is_p = ap (λ (k : ℕ). k * sector_bytes + r) (div-add-mod' q S) ∙ div-add-mod' p sector_bytes

          below : e < slots z
          below =
              ⊎_elim (λ (h : e < slots z). h)
              (λ (h : slots z ≤ e). let m : slots z * S ≤ e * S = mul-le-mul_right S h in absurd (omega (arith, m, l, is_p))) (lt_or_ge e (slots z))

          read : (v : List ℕ) → get_or (sector S v e u) r 0 ≡ get_or v p 0
          read v = sector_byte S v e u r small ∙ ap (λ (k : ℕ). get_or v k 0) is_p
