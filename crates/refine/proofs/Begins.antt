-- The states with which requests begin are in order: their masks name present slots, and their labels can be told to each slot.
-- Assumes nothing.
use Rattle.std.specs.Prelude.{◌≡◌, refl, Bool, false, List, [], ℕ, ◌+◌, ◌≤◌, ◌<◌}
use Rattle.std.proofs.Common.{sym, subst, ◌∙◌, inl, inr, arith}
use Rattle.std.proofs.Math.Bool.{true, not}
use Rattle.std.proofs.lemmas.Bool.{false≢true}
use borrow.Author.Tests.{not-true}
use Rattle.disk.specs.Tests.{and_left}
use Rattle.disk.specs.Geometry.{stripes_of}
use Rattle.disk.specs.Mask.{in_mask}
use Rattle.label.specs.Fields.{most_generation, fits_of}
use Rattle.protocol.specs.Label.{belief}
use Rattle.protocol.proofs.Label.{believe_of}
use Rattle.protocol.specs.Startup.{gone, stale}
use Rattle.codecs.specs.Shelf.{Shelf, slots, geometry, size}
use Rattle.codecs.specs.Labels.{ours}
use Rattle.codecs.proofs.Labels.{labels}
use Rattle.codecs.proofs.Records.{records}
use Rattle.stages.specs.Stage.{stage_at, stage_of}
use Rattle.shelf.specs.Step.{sound}
use Rattle.stages.specs.declared.state.State.{State}
use Rattle.stages.specs.declared.state.Kind.{Kind}
use Rattle.stages.specs.declared.state.Kind.TheVariants.{Creating, Starting, Labelling}
use Rattle.refine.specs.Disks.{Disks}
use Rattle.refine.specs.ToDo.{round_each, create_each, start_each, under_of}
use Rattle.refine.specs.Steps.{Present, Tells, Can, Narrow, Fair}
use Rattle.refine.proofs.Steps.{first_narrow}
use Rattle.refine.specs.Lists.{Says}
use Rattle.refine.specs.StartList.{LogPart, sight, settles, B, last, adopts, readies, forwards, wipes, Starts}
use Rattle.refine.proofs.StartList.{gone_there, seen_there}
use Rattle.refine.specs.Begins.{tells_again, tells}

-- ---- requests

module _ (z : Shelf) (s : State) (img : List ℕ) (in_range_lem : sound s ≡ true) (ours_now : ours z s.now ≡ true) (disks : Disks z img) (first : s.cursor.sector ≡ 0) where
  fair_by : (k : Kind) → s.kind ≡ k → ((i : ℕ) → Can z s.absent (under_of s) [] (stage_at k s i)) → Fair z s [] img
  fair_by k e h =
      let c : (i : ℕ) → Can z s.absent (under_of s) [] (stage_at s.kind s i) = λ i. subst (λ (x : Kind). Can z s.absent (under_of s) [] (stage_at x s i)) (sym e) (h i) in
      record {
        in_range_lem = in_range_lem;
        ours_now = ours_now;
        disks = disks;
        narrow = subst (Narrow z.c (stage_of s)) (sym first) (first_narrow z s.absent (under_of s) [] (stage_of s) (c s.cursor.stage));
        stages = λ i l. c i;
      }

  -- CREATE
  pub create_fair : s.kind ≡ Creating → Present z s.absent s.marks.present → Tells z s.next → Fair z s [] img
  create_fair e p t = fair_by Creating e (create_each (Can z s.absent (under_of s) []) tt s p (p, t))

  -- A LABEL CHANGE
  pub change_fair : s.kind ≡ Labelling → Present z s.absent s.marks.present → Tells z s.next → Fair z s [] img
  change_fair e p t = fair_by Labelling e (round_each (Can z s.absent (under_of s) []) tt s.marks.present s.next (p, t) p)

  -- START-UP
  module _ (A : ℕ → Bool) (h : Starts z A img s) (absent : Says z s.absent A) where
    present_by : (mask : ℕ) (p : ℕ → Bool) → Says z mask p → ((d : ℕ) → d < slots z → p d ≡ true → A d ≡ false) → Present z s.absent mask
    present_by mask p says there d i e = absent d i ∙ there d i (sym (says d i) ∙ e)

    parts_there : (d : ℕ) → d < slots z → not (gone (size z) (labels z) A (sight z A img) d) ≡ true → A d ≡ false
    parts_there d i e = by (A d) refl
      where
        by : (b : Bool) → A d ≡ b → b ≡ false
        by true q = sym (gone_there z A img s h d i q) ∙ not-true (gone (size z) (labels z) A (sight z A img) d) e
        by false q = refl

    adopts_there : (d : ℕ) → d < slots z → adopts z A img d ≡ true → A d ≡ false
    adopts_there d i e = not-true (A d) (and_left (not (A d)) (stale (size z) (labels z) A (sight z A img) d) e)

    readies_there : (d : ℕ) → d < slots z → readies z A img d ≡ true → A d ≡ false
    readies_there d i e = adopts_there d i (and_left (adopts z A img d) _ e)

    forwards_there : (d : ℕ) → d < slots z → forwards z A img d ≡ true → A d ≡ false
    unfolding belief
    forwards_there d i e =
        let t = (records z).stripe_of (last z A img) in
        seen_there z A img s h d ((B z A img).believe_look d t (and_left ((B z A img).believe d t) ((records z).changes_of (last z A img) d) e))

    forwards_in : (d : ℕ) → forwards z A img d ≡ true → (records z).stripe_of (last z A img) < stripes_of (geometry z)
    unfolding belief
    forwards_in d e =
        let t = (records z).stripe_of (last z A img) in
        (believe_of (size z) (settles z A img) d t (and_left ((B z A img).believe d t) ((records z).changes_of (last z A img) d) e)).1

    wipes_there : (d : ℕ) → d < slots z → wipes z A img d ≡ true → A d ≡ false
    unfolding belief
    wipes_there d i e = seen_there z A img s h d (and_left ((B z A img).look d) _ e)

    -- the slots of the log part are present, and a strip that is restored is one of the shelf
    redo_there : Present z s.absent s.marks.redo × (s.marks.forward ≡ true → (d : ℕ) → d < slots z → in_mask s.marks.redo d ≡ true → s.marks.stripe < stripes_of (geometry z))
    redo_there = by h.log_part
      where
        by : LogPart z A img s → Present z s.absent s.marks.redo × (s.marks.forward ≡ true → (d : ℕ) → d < slots z → in_mask s.marks.redo d ≡ true → s.marks.stripe < stripes_of (geometry z))
        by (inl p) = (λ d i e. absurd (false≢true (sym (p.1 d i) ∙ e)), λ f d i e. absurd (false≢true (sym (p.1 d i) ∙ e)))
        by (inr (inl p)) = (present_by s.marks.redo (forwards z A img) p.3 forwards_there, λ f d i e. omega (arith, p.2, forwards_in d (sym (p.3 d i) ∙ e)))
        by (inr (inr p)) = (present_by s.marks.redo (wipes z A img) p.2 wipes_there, λ f d i e. absurd (false≢true (sym p.1 ∙ f)))

    pub start_fair : ours z s.next ≡ true → fits_of s.next ≡ true → s.now.generation + 1 ≤ most_generation → Fair z s [] img
    unfolding sound
    start_fair ours_next fit_next high =
        let fit_now : fits_of s.now ≡ true = and_left (fits_of s.now) _ in_range_lem in
        let present = present_by s.marks.present (λ d. not (A d)) h.present (λ d i e. not-true (A d) e) in
        let parts = present_by s.marks.parts (λ d. not (gone (size z) (labels z) A (sight z A img) d)) h.parts parts_there in
        let late = present_by s.marks.late (adopts z A img) h.late adopts_there in
        let prep = present_by s.marks.prep (readies z A img) h.prep readies_there in
        let next = tells z s.next ours_next fit_next in
        fair_by Starting h.kind
        (start_each (Can z s.absent (under_of s) []) tt s
        present parts prep late redo_there.0
        (parts, tells z s.now ours_now fit_now)
        (parts, tells_again z s.now ours_now fit_now (s.now.generation + 1) (omega arith) high)
        (parts, next)
        (prep, tells_again z s.next ours_next fit_next (s.now.generation + 1) (omega arith) high)
        (late, next)
        (λ e. (redo_there.0, redo_there.1 e))
        (λ e. redo_there.0))
