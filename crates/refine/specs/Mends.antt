-- A REPAIR OF A STRIPE THAT IS THE LIST'S finds nothing to mend: a repair that passes the tests has every slot in, so every strip of the
-- stripe is believed; where each believed strip is what the host's list asks for, the verdict is Sound, and the repair is refused.
-- Assumes nothing.
use Rattle.std.specs.Prelude.{◌≡◌, refl, Bool, true, false, ◌&&◌, ◌||◌, List, ℕ, ◌+◌, ◌-◌, ◌*◌, ◌<◌, ltb, length, Ok, Err}
use Rattle.std.proofs.Math.Path.{sym}
use Rattle.std.proofs.Common.{ap, subst, ◌∙◌, inl, arith, lit<, ltb-true, eqb-true}
use Rattle.std.proofs.lemmas.Bool.{false≢true}
use Rattle.code.specs.Stripes.{Said, Repaired}
use Rattle.disk.specs.Tests.{and_right}
use Rattle.disk.specs.Limits.{sector_bytes}
use Rattle.disk.specs.Geometry.{stripes_of}
use Rattle.disk.specs.Mask.{in_mask, in_past, mask_below}
use Rattle.disk.specs.declared.geometry.Geometry.{Geometry}
use Rattle.disk.specs.declared.refusal.Refusal.{Refusal}
use Rattle.disk.specs.Refusal.{Outcome}
use Rattle.label.specs.Fields.{geometry_of}
use Rattle.label.specs.declared.fields.Label as bytes
use Rattle.label.proofs.Counts.{same_says}
use Rattle.protocol.specs.World.{strip}
use Rattle.protocol.specs.Label as Label
use Rattle.protocol.proofs.Label as Label_laws
use Rattle.protocol.specs.Host.{Host}
use Rattle.codecs.specs.Sector.{Sector}
use Rattle.codecs.specs.Shelf.{Shelf, slots, geometry, size}
use Rattle.codecs.specs.Labels.{fields_of, no_label, ours, label_of}
use Rattle.shards.proofs.Even.{any_code}
use Rattle.stripes.specs.Slice.{shard_bytes}
use Rattle.strips.specs.Whole.{stripe_seen}
use Rattle.requests.specs.Begun.{begun, first}
use Rattle.requests.specs.Ready.{is_idle, ready_of}
use Rattle.requests.specs.Begun.{Begun}
use Rattle.blocks.specs.Slots.{missing_at, missing, too_few, none_missing, all_slots}
use Rattle.blocks.specs.Answers.{stripe_answer, first_done, answered_done}
use Rattle.blocks.specs.Write.{stamp_left}
use Rattle.blocks.specs.Repair.{may_repair, mend_answer, mended, RepairedOf, Repairs}
use Rattle.stages.specs.declared.state.State.{State}
use Rattle.refine.specs.Given.{shelf_geometry}
use Rattle.refine.specs.Disks.{Disks, cur_of}
use Rattle.requests.specs.Begun.{outcome_of}

-- ---- what the tests say

-- there is such a stripe, nothing is under way, and no slot is missing
pub record Whole (s : State) (t : ℕ) : Type 0 where
  pub there_is : t < stripes_of (geometry_of s.now)
  pub at_rest : is_idle s.kind ≡ true
  pub none_out : none_missing s.now s.absent ≡ true

pub may_whole : (s : State) (img : List ℕ) (t : ℕ) → may_repair s.now s.kind s.absent s.count t img ≡ Ok tt → Whole s t
unfolding stripe_answer
may_whole s img t e =
    let l = s.now in
    let sense : Bool = stamp_left s.count && none_missing l s.absent in
    let p = first_done (ready_of l s.kind s.absent img) (stripe_answer l s.absent (is_idle s.kind) sense true t) e in
    let r = answered_done (too_few l s.absent) (ltb t (stripes_of (geometry_of l))) (is_idle s.kind) sense true p.1 in
    record {
      there_is = ltb-true _ _ r.there_is;
      at_rest = r.at_rest;
      none_out = and_right (stamp_left s.count) (none_missing l s.absent) r.makes_sense;
    }

neither : (a b : Bool) → (a || b) ≡ false → (a ≡ false) × (b ≡ false)
neither true b e = absurd (false≢true (sym e))
neither false b e = (refl, e)

-- then no slot is out, nor absent
in_all : (l : bytes.Label) (absent : ℕ) → none_missing l absent ≡ true → (d : ℕ) → d < l.k + l.m → (in_mask l.out d ≡ false) × (in_mask absent d ≡ false)
unfolding none_missing missing missing_at
in_all l absent e d h =
    neither (in_mask l.out d) (in_mask absent d)
    (sym (mask_below (missing_at l.out absent) (l.k + l.m) d h) ∙ ap (λ (x : ℕ). in_mask x d) (eqb-true (missing l absent) 0 e) ∙ in_past 0 0 d (lit< tt) (omega arith))

-- a repair that the tests refuse
pub asked_refused : (s : State) (t : ℕ) (img work : List ℕ) (b : Begun) (after : List ℕ) → Repairs s t img work b after
    → (why : Refusal) → may_repair s.now s.kind s.absent s.count t img ≡ Err why → outcome_of b ≡ Err why
asked_refused s t img work b after r why e =
    ap (λ (x : Begun). outcome_of x) r.answers
    ∙ ap (λ (o : Outcome). outcome_of (begun (first o (mend_answer r.found s.now (length work))) (mended s t r.found))) e

-- ---- in the shelf's numbers

module _ (z : Shelf) (s : State) (own : ours z s.now ≡ true) (t : ℕ) (w : Whole s t) where
  pub stripe_inside : t < stripes_of (geometry z)
  stripe_inside = subst (λ (x : Geometry). t < stripes_of x) (shelf_geometry z s.now own) w.there_is

  pub none_missing_lem : (d : ℕ) → d < slots z → (in_mask s.now.out d ≡ false) × (in_mask s.absent d ≡ false)
  none_missing_lem d h =
      in_all s.now s.absent w.none_out d (subst (λ (n : ℕ). d < n) (sym (ap (λ (x : Geometry). x.n) (shelf_geometry z s.now own))) h)

  -- so every strip of the stripe is believed
  pub all_believe : (d : ℕ) → d < slots z → Label.believed (size z) (label_of z s.now) d t ≡ true
  all_believe d h = Label_laws.believe_is (size z) (label_of z s.now) d t h stripe_inside (inl (none_missing_lem d h).0)

-- what the code says of the stripe, and the stripe mended
pub repaired_here : (z : Shelf) (l : bytes.Label) → ours z l ≡ true → (img : List ℕ) (t : ℕ) (found : Said) (stripe : List ℕ) → RepairedOf l img t found stripe
    → Repaired z.k (slots z - z.k) (shard_bytes z) found (stripe_seen (geometry z) img (all_slots (slots z)) t) stripe
repaired_here z l own img t found stripe r =
    let same = same_says (fields_of z 0 (no_label z)) l own in
    let P : ℕ → ℕ → ℕ → ℕ → Type 0 = λ k m c S. Repaired k m (c * sector_bytes) found (stripe_seen (record { n = k + m; c = c; sectors = S }) img (all_slots (k + m)) t) stripe in
    let a : P z.k l.m l.c l.sectors = subst (λ (k : ℕ). P k l.m l.c l.sectors) (sym same.same_k) r in
    let b : P z.k z.m l.c l.sectors = subst (λ (m : ℕ). P z.k m l.c l.sectors) (sym same.same_m) a in
    let c : P z.k z.m z.c l.sectors = subst (λ (c : ℕ). P z.k z.m c l.sectors) (sym same.same_c) b in
    let d : P z.k z.m z.c z.sectors = subst (P z.k z.m z.c) (sym same.same_sectors) c in
    let many : z.m ≡ slots z - z.k = omega arith in
    subst (λ (m : ℕ). Repaired z.k m (shard_bytes z) found (stripe_seen (geometry z) img (all_slots (slots z)) t) stripe) many d

-- ---- the verdict

module _ (z : Shelf) (img : List ℕ) (disks : Disks z img) (s : State) (own : ours z s.now ≡ true) (t : ℕ) (v : Host Sector)
    (list : (d j : ℕ) → Label.believed (size z) (label_of z s.now) d t ≡ true → j < z.c → cur_of z img (strip d t j) ≡ (any_code z).shard t (v t) d j) where
  abbrev pub l : bytes.Label
  l = s.now

  abbrev pub may : Outcome
  may = may_repair l s.kind s.absent s.count t img

  -- the strips as they lie on the disks
  unfoldable pub g : ℕ → ℕ → Sector
  g d j = cur_of z img (strip d t j)
