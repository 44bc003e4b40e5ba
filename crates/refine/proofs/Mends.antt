-- A REPAIR OF A STRIPE THAT IS THE LIST'S finds nothing to mend: a repair that passes the tests has every slot in, so every strip of the
-- stripe is believed; where each believed strip is what the host's list asks for, the verdict is Sound, and the repair is refused.
-- Assumes nothing.
use Rattle.std.specs.Prelude.{◌≡◌, refl, true, List, ℕ, ◌<◌, length, Ok, Err}
use Rattle.std.proofs.Math.Path.{sym}
use Rattle.std.proofs.Common.{ap, ◌∙◌}
use Rattle.code.specs.Stripes.{Said}
use Rattle.code.specs.Exact.{said_one}
use Rattle.code.specs.declared.Verdict.{Verdict}
use Rattle.code.specs.declared.Verdict.TheVariants as verdict
use Rattle.disk.specs.declared.refusal.Refusal.{Refusal}
use Rattle.disk.specs.declared.refusal.Refusal.TheVariants.{NotNow}
use Rattle.disk.specs.Refusal.{Outcome}
use Rattle.protocol.specs.World.{strip}
use Rattle.protocol.specs.Label as Label
use Rattle.protocol.specs.Host.{Host, Finding, all_sound}
use Rattle.codecs.specs.Sector.{Sector}
use Rattle.codecs.specs.Shelf.{Shelf, slots, size, some_slots}
use Rattle.codecs.specs.Labels.{ours, label_of}
use Rattle.shards.proofs.Even.{any_code}
use Rattle.stripes.specs.Same.{verdict_of}
use Rattle.views.specs.Seen.{Lying}
use Rattle.views.proofs.Whole.{mend_finds}
use Rattle.requests.specs.Begun.{begun, first}
use Rattle.requests.specs.Begun.{Begun}
use Rattle.blocks.specs.Slots.{all_slots, none_lost_lem}
use Rattle.blocks.specs.Repair.{mend_answer, mended, RepairedOf, Repairs}
use Rattle.stages.specs.declared.state.State.{State}
use Rattle.refine.specs.Places.{sector_of, strip_is_inside}
use Rattle.refine.specs.Disks.{Disks, cur_of}
use Rattle.refine.proofs.Disks.{cur_bytes}
use Rattle.refine.specs.Mends.{g, Whole, may_whole, asked_refused, stripe_inside, all_believe, repaired_here, l, may}
use Rattle.requests.specs.Begun.{outcome_of}

-- ---- the verdict

module _ (z : Shelf) (img : List ℕ) (disks : Disks z img) (s : State) (own : ours z s.now ≡ true) (t : ℕ) (v : Host Sector)
    (list : (d j : ℕ) → Label.believed (size z) (label_of z s.now) d t ≡ true → j < z.c → cur_of z img (strip d t j) ≡ (any_code z).shard t (v t) d j) where
  module _ (w : Whole s t) where
    -- the code finds nothing
    sound : (any_code z).scrub t (g z img disks s own t v list) ≡ all_sound
    unfolding g
    sound = (any_code z).scrub_sound t (v t) (g z img disks s own t v list) (λ d j h c. list d j (all_believe z s own t w d h) c)

    lies : Lying z t img (all_slots (slots z)) (g z img disks s own t v list)
    unfolding sector_of g
    lies d j hd hj e = sym (cur_bytes z img disks (strip d t j) (strip_is_inside z d t j hd (stripe_inside z s own t w) hj))

    module _ (found : Said) (stripe : List ℕ) (r : RepairedOf (l z img disks s own t v list) img t found stripe) where
      pub finds_nothing : found ≡ Ok verdict.Sound
      finds_nothing =
          mend_finds z t img (all_slots (slots z)) (g z img disks s own t v list) lies (none_lost_lem (slots z) t (some_slots z)) found stripe (repaired_here z (l z img disks s own t v list) own img t found stripe r)
          ∙ ap (λ (f : Finding). Ok (verdict_of f)) sound

  -- THE REPAIR IS REFUSED
  pub mend_refused : (work : List ℕ) (b : Begun) (after : List ℕ) → Repairs s t img work b after → (why : Refusal) × (outcome_of b ≡ Err why)
  mend_refused work b after r = by (may z img disks s own t v list) refl
    where
      by : (o : Outcome) → (may z img disks s own t v list) ≡ o → (why : Refusal) × (outcome_of b ≡ Err why)
      by (Err why) e = (why, asked_refused s t img work b after r why e)
      by (Ok tt) e =
          let q : r.found ≡ verdict.Sound = said_one (finds_nothing (may_whole s img t e) (Ok r.found) r.stripe (r.repaired e).0) in (
            NotNow,
            ap (λ (x : Begun). outcome_of x) r.answers ∙ ap (λ (o : Outcome). outcome_of (begun (first o (mend_answer r.found (l z img disks s own t v list) (length work))) (mended s t r.found))) e
                ∙ ap (λ (x : Verdict). outcome_of (begun (mend_answer x (l z img disks s own t v list) (length work)) (mended s t x))) q,
          )
