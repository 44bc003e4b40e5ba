-- The labels that the code reads are the labels that the protocol reads. `Rattle.label` finds the newest label of each disk and
-- of the shelf among the bytes of the image; the protocol finds them among its places. If the shelf's label names this shelf
-- and every present disk has a label that agrees with it, both find the same. Assumes nothing.
use Rattle.std.specs.Prelude.{◌≡◌, Bool, ◌||◌, ℕ, zero, suc, ◌≤◌, ◌<◌, ltb, Some, None}
use Rattle.std.proofs.Math.Path.{refl, sym, ap, ap₂}
use Rattle.std.proofs.Common.{◌∙◌, arith, ltb-true, ltb-false, lt-ltb, le-ltb}
use Rattle.std.proofs.Math.Bool.{true, false, cond}
use mathlib.Core.List.{List}
use Rattle.disk.specs.Mask.{in_mask}
use Rattle.label.specs.Valid.{decode_of}
use Rattle.label.specs.Newest.{newer, newest_of, copy_of, disk_label, present_label, shelf_label}
use Rattle.label.specs.declared.fields.Label as bytes
use Rattle.label.specs.Fields.{Decoded}
use Rattle.label.proofs.Fits.{fits_says}
use Rattle.label.proofs.Counts.{SameShelf, same_says, agreed_says, present_says, copy_says, disk_own}
use Rattle.rounds.specs.Slot.{age_of}
use Rattle.protocol.specs.World.{label}
use Rattle.protocol.specs.Slots.{from, of_from, leader, leader_below, every_all}
use Rattle.protocol.specs.Label.{Label, copy}
use Rattle.protocol.specs.Startup.{newest, seen, lead, M, L, labelled}
use Rattle.codecs.specs.Sector.{Sector}
use Rattle.codecs.specs.Shelf.{Shelf, slots, geometry, size, some_slots}
use Rattle.codecs.specs.Labels.{no_label, label_of, ours, meant, decode_label}
use Rattle.codecs.proofs.Labels.{labels}
use Rattle.codecs.specs.Labels as Labels
use Rattle.refine.specs.Places.{copy_sector, sector_of, label_inside}
use Rattle.refine.specs.Disks.{Disks, image_fits, seen_of}
use Rattle.refine.proofs.Disks.{cur_read, seen_present}
use Rattle.refine.specs.Labels.{same_shelf_lem, Aged, newer_of, Led, f0}

-- what agrees with a label of the shelf is one of the shelf
ours_same : (z : Shelf) (l x : bytes.Label) → ours z l ≡ true → SameShelf l x → ours z x ≡ true
ours_same z l x e s =
    let y = Labels.fields_of z 0 (no_label z) in
    let t = same_says y l e in
    same_shelf_lem y x
    (record {
      same_k = t.same_k ∙ s.same_k;
      same_m = t.same_m ∙ s.same_m;
      same_c = t.same_c ∙ s.same_c;
      same_sectors = t.same_sectors ∙ s.same_sectors;
      same_number = t.same_number ∙ s.same_number;
    })

newer_age : (x y : Decoded) → Aged x → Aged y → newer x y ≡ cond (ltb (age_of x) (age_of y)) y x
newer_age None None p q = refl
newer_age None (Some b) p q = sym (ap (λ (t : Bool). cond t (Some b) None) (lt-ltb 0 b.generation (q b refl)))
newer_age (Some a) None p q = sym (ap (λ (t : Bool). cond t None (Some a)) (le-ltb a.generation 0 (omega arith)))
newer_age (Some a) (Some b) p q = refl

-- the newest of several is that of the leader, the lowest of those with the greatest generation
newest_lead : (f : ℕ → Decoded) (key : ℕ → ℕ) (n : ℕ) → ((d : ℕ) → Aged (f d)) → ((d : ℕ) → d < suc n → key d ≡ age_of (f d)) → newest_of f (suc n) ≡ f (leader key (suc n))
unfolding newest_of
newest_lead f key zero p q = ap f (sym (go (ltb (key 0) (key 0))))
  where
    go : (b : Bool) → ◌≡◌ {A = ℕ} (cond b 0 0) 0
    go true = refl
    go false = refl
newest_lead f key (suc n) p q = by (leader key (suc n)) (leader_below key (suc n) (omega arith)) (newest_lead f key n p (λ d h. q d (omega arith)))
  where
    go : (b : Bool) (x y : ℕ) → cond b (f x) (f y) ≡ f (cond b x y)
    go true x y = refl
    go false x y = refl

    by : (l : ℕ) → l < suc n → newest_of f (suc n) ≡ f l → newer (newest_of f (suc n)) (f (suc n)) ≡ f (cond (ltb (key l) (key (suc n))) (suc n) l)
    by l h e =
        ap (λ (x : Decoded). newer x (f (suc n))) e ∙ newer_age (f l) (f (suc n)) (p l) (p (suc n))
        ∙ ap₂ (λ (a b : ℕ). cond (ltb a b) (f (suc n)) (f l)) (sym (q l (omega arith))) (sym (q (suc n) (omega arith))) ∙ go (ltb (key l) (key (suc n))) (suc n) l

newest_leads : (f : ℕ → Decoded) (key : ℕ → ℕ) (n : ℕ) → 0 < n → ((d : ℕ) → Aged (f d)) → ((d : ℕ) → d < n → key d ≡ age_of (f d)) → newest_of f n ≡ f (leader key n)
newest_leads f key zero h p q = absurd (omega arith)
newest_leads f key (suc n) h p q = newest_lead f key n p q

module _ (z : Shelf) where
  ours_meant : (x : Decoded) (a : bytes.Label) → ours z a ≡ true → x ≡ Some a → meant z x ≡ label_of z a
  ours_meant x a o e = ap (meant z) e ∙ ap (λ (b : Bool). cond b (label_of z a) (no_label z)) o

  meant_age : (x : Decoded) → (meant z x).generation ≤ age_of x
  meant_age None = omega arith
  meant_age (Some a) = go (ours z a)
    where
      go : (b : Bool) → (cond b (label_of z a) (no_label z)).generation ≤ a.generation
      go true = omega arith
      go false = omega arith

  -- the newer is one of this shelf: so it is in the protocol's words
  newer_ours : (x y : Decoded) (a : bytes.Label) → Aged x → Aged y → ours z a ≡ true → newer x y ≡ Some a → (newer_of z) (meant z x) (meant z y) ≡ label_of z a
  newer_ours x y a p q o e = by (ltb (age_of x) (age_of y)) refl (sym (newer_age x y p q) ∙ e)
    where
      by : (t : Bool) → ltb (age_of x) (age_of y) ≡ t → cond t y x ≡ Some a → (newer_of z) (meant z x) (meant z y) ≡ label_of z a
      by true t e =
          let m = ours_meant y a o e in
          ap (λ (b : Bool). cond b (meant z y) (meant z x))
          (lt-ltb (meant z x).generation (meant z y).generation (omega (arith, ltb-true (age_of x) (age_of y) t, meant_age x, ap age_of e, ap (λ (l : Label). l.generation) m)))
          ∙ m
      by false t e =
          let m = ours_meant x a o e in
          ap (λ (b : Bool). cond b (meant z y) (meant z x))
          (le-ltb (meant z x).generation (meant z y).generation (omega (arith, ltb-false (age_of x) (age_of y) t, meant_age y, ap age_of e, ap (λ (l : Label). l.generation) m)))
          ∙ m

  -- ---- what is read

  module _ (img : List ℕ) (disks : Disks z img) (absent : ℕ) (A : ℕ → Bool) (are : (d : ℕ) → d < slots z → A d ≡ in_mask absent d) where
    -- each copy
    pub copy_is : (d : ℕ) (b : Bool) → d < slots z → in_mask absent d ≡ false → copy (labels z) (seen_of z A img) d b ≡ meant z (copy_of (geometry z) img d (Labels.sector_of b))
    unfolding copy decode_label copy_of sector_of copy_sector
    copy_is d b h e =
        ap (λ (x : List ℕ). meant z (decode_of x d (Labels.sector_of b)))
        (ap (λ (x : Sector). x.bytes) (seen_present z A img (label d b) (are d h ∙ e)) ∙ cur_read z img disks (label d b) (label_inside z d b h))

    copy_aged : (d s : ℕ) → Aged (copy_of (geometry z) img d s)
    copy_aged d s l e = (fits_says l (copy_says (geometry z) img d s l e).fit).from_one

    disk_aged : (d : ℕ) → Aged (disk_label (geometry z) img d)
    disk_aged d l e = (fits_says l (disk_own (geometry z) img d l e).1).from_one

    present_aged : (d : ℕ) → Aged (present_label (geometry z) img absent d)
    present_aged d l e = disk_aged d l (present_says (geometry z) img absent d l e).1

    -- a present disk's label, if it is one of this shelf
    pub newest_is : (d : ℕ) (a : bytes.Label) → d < slots z → in_mask absent d ≡ false → disk_label (geometry z) img d ≡ Some a → ours z a ≡ true
        → newest (size z) (labels z) A (seen_of z A img) d ≡ label_of z a
    unfolding disk_label newest_of
    newest_is d a h e q o =
        ap₂ (newer_of z) (copy_is d false h e) (copy_is d true h e)
        ∙ newer_ours (copy_of (geometry z) img d 0) (copy_of (geometry z) img d 1) a (copy_aged d 0) (copy_aged d 1) o q

module _ (z : Shelf) (img : List ℕ) (absent : ℕ) (A : ℕ → Bool) (l : bytes.Label) (led : Led z img absent A l) where
  -- the label of each present disk, and its generation
  pub newest_of_lem : (d : ℕ) (a : bytes.Label) → d < slots z → in_mask absent d ≡ false → disk_label (geometry z) img d ≡ Some a → newest (size z) (labels z) A (f0 z img absent A l led) d ≡ label_of z a
  newest_of_lem d a h e q =
      let s = agreed_says (geometry z) img absent l led.agree d h e in
      let i : s.label ≡ a = cc s.is in
      newest_is z img led.disks absent A led.are d a h e q (ap (ours z) (sym i) ∙ ours_same z l s.label led.own s.same)

  pub seen_of_lem : (d : ℕ) (a : bytes.Label) → d < slots z → in_mask absent d ≡ false → disk_label (geometry z) img d ≡ Some a → seen (size z) (labels z) A (f0 z img absent A l led) d ≡ a.generation
  seen_of_lem d a h e q =
      ap (λ (b : Bool). cond b 0 (newest (size z) (labels z) A (f0 z img absent A l led) d).generation) (led.are d h ∙ e) ∙ ap (λ (x : Label). x.generation) (newest_of_lem d a h e q)

  seen_age : (d : ℕ) → d < slots z → seen (size z) (labels z) A (f0 z img absent A l led) d ≡ age_of (present_label (geometry z) img absent d)
  unfolding present_label
  seen_age d h = by (in_mask absent d) refl
    where
      by : (b : Bool) → in_mask absent d ≡ b → seen (size z) (labels z) A (f0 z img absent A l led) d ≡ age_of (present_label (geometry z) img absent d)
      by true e =
          ap (λ (b : Bool). cond b 0 (newest (size z) (labels z) A (f0 z img absent A l led) d).generation) (led.are d h ∙ e)
          ∙ sym (ap (λ (b : Bool). age_of (cond b None (disk_label (geometry z) img d))) e)
      by false e =
          let s = agreed_says (geometry z) img absent l led.agree d h e in
          seen_of_lem d s.label h e s.is ∙ sym (ap (λ (b : Bool). age_of (cond b None (disk_label (geometry z) img d))) e ∙ ap age_of s.is)

  -- every present slot has a label
  pub labelled_is : labelled (size z) (labels z) A (f0 z img absent A l led) ≡ true
  labelled_is = every_all (λ d. A d || ltb 0 (seen (size z) (labels z) A (f0 z img absent A l led) d)) (from 0 (slots z)) (λ d m. go d (omega (arith, of_from (slots z) 0 d m)) (in_mask absent d) refl)
    where
      go : (d : ℕ) → d < slots z → (b : Bool) → in_mask absent d ≡ b → (A d || ltb 0 (seen (size z) (labels z) A (f0 z img absent A l led) d)) ≡ true
      go d h true e = ap (λ (b : Bool). b || ltb 0 (seen (size z) (labels z) A (f0 z img absent A l led) d)) (led.are d h ∙ e)
      go d h false e =
          let s = agreed_says (geometry z) img absent l led.agree d h e in
          ap (λ (b : Bool). b || ltb 0 (seen (size z) (labels z) A (f0 z img absent A l led) d)) (led.are d h ∙ e)
          ∙ lt-ltb 0 (seen (size z) (labels z) A (f0 z img absent A l led) d) (omega (arith, seen_of_lem d s.label h e s.is, disk_aged z img led.disks absent A led.are d s.label s.is))

  -- the leader's is the shelf's
  lead_is : present_label (geometry z) img absent (lead (size z) (labels z) A (f0 z img absent A l led)) ≡ Some l
  unfolding shelf_label
  lead_is =
      sym (newest_leads (present_label (geometry z) img absent) (seen (size z) (labels z) A (f0 z img absent A l led)) (slots z) (some_slots z) (present_aged z img led.disks absent A led.are) seen_age)
      ∙ sym (ap (λ (b : Bool). cond b (newest_of (present_label (geometry z) img absent) (slots z)) None) (image_fits z img led.disks)) ∙ led.leads

  lead_below : lead (size z) (labels z) A (f0 z img absent A l led) < slots z
  lead_below = leader_below (seen (size z) (labels z) A (f0 z img absent A l led)) (slots z) (some_slots z)

  pub M_is : M (size z) (labels z) A (f0 z img absent A l led) ≡ l.generation
  M_is = seen_age (lead (size z) (labels z) A (f0 z img absent A l led)) lead_below ∙ ap age_of lead_is

  pub L_is : L (size z) (labels z) A (f0 z img absent A l led) ≡ label_of z l
  L_is =
      let p = present_says (geometry z) img absent (lead (size z) (labels z) A (f0 z img absent A l led)) l lead_is in
      newest_of_lem (lead (size z) (labels z) A (f0 z img absent A l led)) l lead_below p.0 p.1
