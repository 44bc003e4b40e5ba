-- REPAIR on images that are alike. It looks at all slots, and only where none is absent. Assumes nothing.
use Rattle.std.specs.Prelude.{◌≡◌, Bool, true, false, ◌&&◌, ◌||◌, List, [], ℕ, ◌+◌, ◌*◌, ◌<◌, ltb, length, Ok}
use Rattle.std.proofs.Common.{sym, ap, subst, ◌∙◌, true≢false, eqb-true}
use Rattle.code.specs.Stripes.{Repaired}
use Rattle.disk.specs.Limits.{sector_bytes}
use Rattle.disk.specs.Tests.{and_right}
use Rattle.disk.specs.Geometry.{stripes_of}
use Rattle.disk.specs.Mask.{in_mask, mask_below}
use Rattle.disk.specs.declared.geometry.Geometry.{Geometry}
use Rattle.disk.specs.Refusal.{Outcome}
use Rattle.label.specs.Fields.{geometry_of}
use Rattle.label.proofs.Fits.{fits_says}
use Rattle.label.specs.declared.fields.Label.{Label}
use Rattle.requests.specs.Begun.{begun, first}
use Rattle.requests.specs.Ready.{is_idle, ready_of}
use Rattle.requests.specs.Begun.{Begun}
use Rattle.stages.specs.declared.state.State.{State}
use Rattle.strips.specs.Whole.{stripe_seen}
use Rattle.blocks.specs.Slots.{missing_at, missing, too_few, none_missing, all_slots}
use Rattle.blocks.specs.Answers.{stripe_answer, first_done, answered_done}
use Rattle.blocks.specs.Write.{stamp_left}
use Rattle.blocks.specs.Repair.{may_repair, mend_answer, mended, Repairs, may_done}
use Rattle.blind.specs.Alike.{Alike, in_none}
use Rattle.blind.specs.Shown.{row_alike}
use Rattle.blind.specs.Start.{ready_alike}

-- with no slot missing none is absent
none_absent : (l : Label) (absent : ℕ) → none_missing l absent ≡ true → (d : ℕ) → d < l.k + l.m → in_mask absent d ≡ false
unfolding none_missing missing missing_at
none_absent l absent e d hd =
    no (in_mask l.out d) (in_mask absent d)
    (sym (mask_below (missing_at l.out absent) (l.k + l.m) d hd) ∙ ap (λ (m : ℕ). in_mask m d) (eqb-true (missing l absent) 0 e) ∙ in_none d)
  where
    no : (a b : Bool) → (a || b) ≡ false → b ≡ false
    no true b q = absurd (true≢false q)
    no false b q = q

-- a stripe that is repaired makes sense only with no slot missing
stripe_whole : (l : Label) (absent : ℕ) (idle more sized : Bool) (t : ℕ) → stripe_answer l absent idle (more && none_missing l absent) sized t ≡ Ok tt → none_missing l absent ≡ true
unfolding stripe_answer
stripe_whole l absent idle more sized t e =
    and_right more (none_missing l absent) (answered_done (too_few l absent) (ltb t (stripes_of (geometry_of l))) idle (more && none_missing l absent) sized e).makes_sense

module _ (s : State) (t : ℕ) (work x y : List ℕ) (h : Alike (geometry_of s.now) s.absent x y) where
  abbrev l : Label
  l = s.now

  abbrev g : Geometry
  g = geometry_of s.now

  abbrev slots : ℕ
  slots = all_slots (s.now.k + s.now.m)

  may_same : may_repair s.now s.kind s.absent s.count t x ≡ may_repair s.now s.kind s.absent s.count t y
  may_same = ap (λ (o : Outcome). first o (stripe_answer l s.absent (is_idle s.kind) (stamp_left s.count && none_missing l s.absent) true t)) (ready_alike s x y h)

  repair_row : may_repair s.now s.kind s.absent s.count t x ≡ Ok tt → stripe_seen g x slots t ≡ stripe_seen g y slots t
  repair_row e =
      let u = (may_done s x t e).lies in
      let sense : Bool = stamp_left s.count && none_missing l s.absent in
      let w = first_done (ready_of l s.kind s.absent x) (stripe_answer l s.absent (is_idle s.kind) sense true t) e in
      row_alike g s.absent x y h (fits_says l u.fits).range slots (λ d hd q. none_absent l s.absent (stripe_whole l s.absent (is_idle s.kind) (stamp_left s.count) true t w.1) d hd) t u.stripe 0 []

  -- A REPAIR: what it may answer, hand out and leave in the work area on the one image it may on the other
  pub repair_blind : (b : Begun) (after : List ℕ) → Repairs s t x work b after → Repairs s t y work b after
  repair_blind b after r =
      record {
        found = r.found;
        stripe = r.stripe;
        repaired =
            λ e. let f = may_same ∙ e in
            let p = r.repaired f in
            (subst (λ (row : List ℕ). Repaired l.k l.m (l.c * sector_bytes) (Ok r.found) row r.stripe) (repair_row f) p.0, p.1);
        answers = r.answers ∙ ap (λ (o : Outcome). begun (first o (mend_answer r.found s.now (length work))) (mended s t r.found)) may_same;
        left = r.left;
      }
