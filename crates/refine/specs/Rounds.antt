-- What `Rattle.rounds` makes of the labels is what the protocol's start-up makes of them: who is gone, who adopts, what the
-- settled label is, whether few enough slots are out, and what a slot that adopts is given first. Assumes nothing.
use Rattle.std.proofs.Math.Path.{◌≡◌, refl, sym}
use Rattle.std.proofs.Common.{◌∙◌, subst, ne_eqb, eqb-true, lt-ltb}
use Rattle.std.specs.Prelude.{Bool, ◌||◌, List, [], ◌∷◌, length, Some}
use Rattle.std.proofs.Math.Bool.{true, false, cond, not}
use Prim.Native.Nat.{ℕ, suc, ◌+◌, ◌<◌, ◌^◌}
use native.Mathlib.Omega.{arith}
use Rattle.std.proofs.Math.Dec.{ltb, eqb}
use Rattle.disk.specs.Tests.{and_left, and_right}
use Rattle.disk.specs.Image.{fits_image, fits_image_lem}
use Rattle.disk.specs.Mask.{in_mask}
use Rattle.disk.specs.declared.geometry.Geometry.{Geometry}
use Rattle.label.specs.Fields.{no_slot, geometry_of, fits_of}
use Rattle.label.specs.Newest.{shelf_label, agreed}
use Rattle.label.specs.declared.fields.Label as bytes
use Rattle.rounds.specs.Survey.{fits_shelf}
use Rattle.rounds.specs.Plans.{Grounds}
use Rattle.rounds.specs.declared.plan.Plan as plan
use Rattle.protocol.specs.World.{Image}
use Rattle.protocol.specs.Label.{copy}
use Rattle.protocol.specs.Startup.{M}
use Rattle.protocol.specs.Startup as Startup
use Rattle.protocol.specs.Program.{TOO_FEW, NOT_NOW, Verdict, first, beyond, left_out as left_out'}
use Rattle.protocol.specs.Pairs.{no_sets}
use Rattle.codecs.specs.Sector.{Sector, Bytes}
use Rattle.codecs.specs.Shelf.{Shelf, slots, geometry, size, few_slots}
use Rattle.codecs.specs.Labels.{slot_meant, side_of}
use Rattle.codecs.proofs.Labels.{labels}
use Rattle.codecs.proofs.Records.{records}
use Rattle.codecs.specs.Media.{stamps}
use Rattle.shards.proofs.Even.{any_code, any_sectors}
use Rattle.refine.specs.Disks.{seen_of}
use Rattle.refine.specs.Labels.{shelf_of, shelf_ours, named, Led}

-- the slot being rebuilt: the same test of a slot, whether n or 255 stands for none
pub slot_test : (z : Shelf) (r d : ℕ) → d < slots z → eqb d (slot_meant (slots z) r) ≡ eqb d r
slot_test z r d h = by (eqb r no_slot) refl
  where
    by : (b : Bool) → eqb r no_slot ≡ b → eqb d (cond b (slots z) r) ≡ eqb d r
    by true e = ne_eqb d (slots z) (λ q. omega arith) ∙ sym (ne_eqb d r (λ q. omega (arith, eqb-true r no_slot e, few_slots z)))
    by false e = refl

module _ (z : Shelf) (img : List ℕ) (absent : ℕ) (A : ℕ → Bool) (l : bytes.Label) (led : Led z img absent A l) where
  abbrev pub f0 : Image Sector
  f0 = seen_of z A img

  abbrev pub gone_of : ℕ → Bool
  gone_of = Startup.gone (size z) (labels z) A f0

  -- ---- whether few enough are out

  abbrev pub left_out : ℕ → Bool
  left_out = left_out' (size z) (no_sets (slots z)) (labels z) (records z) (any_code z) stamps (any_sectors z) A f0

  -- M + 1
  abbrev pub after : ℕ
  after = suc (M (size z) (labels z) A f0)

  -- the sector that is not the settled label's may be wiped
  abbrev pub may_wipe : ℕ → Bool
  may_wipe d = ltb 0 (copy (labels z) f0 d (side_of (suc after))).generation || eqb (copy (labels z) f0 d (side_of after)).generation 0

  -- ---- the refusals of the table, once each present disk has a label that agrees

  abbrev pub verdict : Bool → Bool → Verdict
  verdict few left = first (record { why = TOO_FEW; holds = not few } ∷ record { why = NOT_NOW; holds = not left } ∷ [])

-- ---- FROM A PLAN: the shelf that its label names, and all that is said above of it

pub geometry_path : (g : Geometry) (l : bytes.Label) → fits_shelf g l ≡ true → geometry_of l ≡ g
unfolding fits_shelf
geometry_path g l e =
    let e1 = and_right (eqb (l.k + l.m) g.n) _ e in
    let n : l.k + l.m ≡ g.n = eqb-true (l.k + l.m) g.n (and_left (eqb (l.k + l.m) g.n) _ e) in
    let c : l.c ≡ g.c = eqb-true l.c g.c (and_left (eqb l.c g.c) _ e1) in
    let S : l.sectors ≡ g.sectors = eqb-true l.sectors g.sectors (and_right (eqb l.c g.c) _ e1) in
    λ i. record { n = n i; c = c i; sectors = S i }

pub beyond_below : (n absent d : ℕ) → d < n → beyond n (in_mask absent) d ≡ in_mask absent d
beyond_below n absent d h = rw (lt-ltb d n h) (go (in_mask absent d))
  where
    go : (b : Bool) → (b || false) ≡ b
    go true = refl
    go false = refl

pub plan_led : (g : Geometry) (img : List ℕ) (absent : ℕ) (p : plan.Plan) → Bytes img → Grounds g img absent p
    → (z : Shelf) × (geometry z ≡ g) × Led z img absent (beyond (slots z) (in_mask absent)) p.lead
plan_led g img absent p small r = (z, e, led_at g e r.image_fits r.leads r.agree)
  where
    l : bytes.Label
    l = p.lead

    o : (fits_of l ≡ true) × (l.shelf < 2 ^ 64)
    o = named g img absent l small r.leads

    z : Shelf
    z = shelf_of l o.0 o.1

    e : geometry z ≡ g
    e = geometry_path g l r.shelf

    led_at : (y : Geometry) → geometry z ≡ y → fits_image y (length img) ≡ true → shelf_label y img absent ≡ Some l → agreed y img absent l ≡ true → Led z img absent (beyond (slots z) (in_mask absent)) l
    led_at y q = subst
        (λ (y : Geometry). fits_image y (length img) ≡ true → shelf_label y img absent ≡ Some l → agreed y img absent l ≡ true → Led z img absent (beyond (slots z) (in_mask absent)) l) q
        (λ f a b.
        record {
          disks = record { shape = (fits_image_lem (geometry z) img f).1; small = small };
          are = beyond_below (slots z) absent;
          own = shelf_ours l o.0 o.1;
          leads = a;
          agree = b;
        })
