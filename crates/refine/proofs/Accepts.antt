-- WHAT THE CODE ACCEPTS THE PROTOCOL'S PROGRAM ACCEPTS: create on an image of zeros, start-up by the survey's plan, taking a slot out
-- at rest. (It may refuse more, and nothing changes then: a disk whose newest label is another shelf's.) And start-up finds no
-- garbage in the log, in a world that the protocol keeps. Assumes nothing.
use Rattle.std.proofs.Math.Path.{◌≡◌, refl, sym, ap, ap₂, fun_ext}
use Rattle.std.proofs.Common.{subst, ◌∙◌, inl, inr, suc-mul, arith, lit<, ext_get_or}
use Rattle.std.proofs.Math.Bool.{Bool, true, false, cond, not}
use Rattle.std.specs.Prelude.{◌&&◌, ◌||◌, List, [], ◌∷◌, leb, get_or, Ok}
use Prim.Native.Nat.{ℕ, suc, ◌+◌, ◌*◌, ◌≤◌, ◌<◌, ◌%◌}
use Rattle.std.proofs.Math.Nat.{mod-lt}
use Rattle.std.specs.Int.Count.{ones}
use Rattle.std.proofs.lemmas.List.{get_or-replicate}
use borrow.Author.Tests.{lt-ltb, le-leb}
use Rattle.disk.specs.Limits.{sector_bytes}
use Rattle.disk.specs.Image.{place}
use Rattle.disk.specs.Tests.{both}
use Rattle.disk.specs.Mask.{in_mask}
use Rattle.label.specs.Fields.{most_generation}
use Rattle.label.specs.Bytes.{all_zero}
use Rattle.rounds.specs.Slot.{goes_out}
use Rattle.rounds.specs.Survey.{slots_that, next_of, plan_of, survey_of}
use Rattle.rounds.specs.declared.plan.Plan.{Plan}
use Rattle.rounds.proofs.Plans.{survey_grounds}
use Rattle.protocol.specs.World.{Place, log, strip, slot, Image, World, always_cur}
use Rattle.protocol.specs.Slots.{from, every, every_all}
use Rattle.protocol.specs.Log.{Belief, Logs, Quiet, within_self}
use Rattle.protocol.specs.Label.{Label, plainly_out as plainly_out', looked, belief}
use Rattle.protocol.specs.Startup as startup
use Rattle.protocol.specs.Startup.{Framed, same_self}
use Rattle.protocol.proofs.Startup.{settled_D}
use Rattle.protocol.specs.Decide.{settled, Accepted, Met}
use Rattle.protocol.proofs.Decide.{meets_shelf, done_above}
use Rattle.protocol.specs.Machine.{View, sure, open_write, kept_write}
use Rattle.protocol.specs.Write.{Mid}
use Rattle.protocol.specs.Invariant.{Ghost, Under, Off}
use Rattle.protocol.proofs.Promise.{under_framed, accept_f, same_label_lem}
use Rattle.protocol.specs.Program.{TOO_FEW, BAD_BLOCK, BUSY, NOT_NOW, Verdict, clear, first, nothing, idle, accepted, create, start, take_out, beyond, blank, mask, left_out, may_create, may_start, asked_create, asked_start, asked_out, answer}
use Rattle.protocol.specs.Even.{program_by, may_start_by, may_out_by}
use Rattle.protocol.specs.Pairs.{no_sets}
use Rattle.codecs.specs.Sector.{Sector}
use Rattle.codecs.proofs.Sector.{zeros, sector_path}
use Rattle.codecs.specs.Shelf.{Shelf, slots, geometry, size}
use Rattle.codecs.specs.Labels.{ours, label_of}
use Rattle.codecs.proofs.Labels.{labels}
use Rattle.codecs.specs.Records.{counts}
use Rattle.codecs.proofs.Records.{records}
use Rattle.codecs.specs.Media.{stamps, is_zeros}
use Rattle.codecs.proofs.Media.{medium, zeros_are}
use Rattle.shards.specs.Quorum.{few_of}
use Rattle.shards.specs.Parity.{byte_of}
use Rattle.shards.specs.Parity as Parity
use Rattle.shards.proofs.Even.{any_code, any_sectors}
use Rattle.stages.specs.declared.state.State.{State}
use Rattle.requests.specs.TakeOut.{take_answer, outed}
use Rattle.refine.specs.Places.{sector_of, inside}
use Rattle.refine.specs.Disks.{Disks, byte_in, cur_of, seen_of}
use Rattle.refine.proofs.Disks.{seen_mask, seen_present}
use Rattle.refine.specs.Family.{Family, code_in, sectors_in, leaves_of}
use Rattle.refine.specs.Labels.{Led}
use Rattle.refine.specs.Rounds.{verdict}
use Rattle.refine.proofs.Rounds.{next_is, left_out_is, few_is, start_is, start_in}
use Rattle.refine.specs.Redo.{look_is}
use Rattle.refine.proofs.Redo.{logs_fair, settled_dark}
use Rattle.refine.specs.Redo as Redo
use Rattle.refine.specs.Requests.{out_label}
use Rattle.refine.specs.Tied.{program_of}
use Rattle.refine.specs.Accepts.{plain_is, none_there, A, l, f, new, g, D, now, o, can, there, few}

-- whatever the host's view, the log is in order
logs_under : (z : Shelf) (F : Family z) (g : Ghost Sector) (p : View Sector) (B : Belief) (f : Image Sector)
    → Under (size z) F.sets (labels z) (records z) (code_in z F) stamps (sectors_in z F) g p B f → Logs (records z) B g.history g.u f
unfolding Quiet Mid
logs_under z F g (sure v) B f h = h.logs
logs_under z F g (open_write v v') B f (inl h) = h.logs
logs_under z F g (open_write v v') B f (inr h) = h.logs
logs_under z F g (kept_write v') B f h = h.logs

module _ (z : Shelf) (img : List ℕ) where
  -- such an image holds zeros everywhere
  pub all_zeros : all_zero img ≡ true → cur_of z img ≡ (λ k. zeros)
  unfolding cur_of
  all_zeros e = fun_ext (λ k. by k (inside z k))
    where
      small : (k : Place) (p : ℕ) → byte_in z img k p < 256
      small k p = mod-lt (get_or img (place z.sectors (slot k) (sector_of z k) + p) 0) (lit< tt)

      by : (k : Place) (b : Bool) → cond b (Parity.sector_of (byte_in z img k) (small k)) zeros ≡ zeros
      by k true =
          let x = Parity.sector_of (byte_in z img k) (small k) in
          sector_path x zeros
          (ext_get_or 0 x.bytes zeros.bytes (x.whole ∙ sym zeros.whole)
          (λ p l. let q : p < sector_bytes = omega (arith, x.whole) in
          byte_of (byte_in z img k) (small k) p q ∙ ap (λ (y : ℕ). y % 256) (none_there img e (place z.sectors (slot k) (sector_of z k) + p)) ∙ sym (get_or-replicate sector_bytes p 0 0 q)))
      by k false = refl

  -- zeros are blank
  blank_zeros : blank (size z) (no_sets (slots z)) (labels z) (records z) (any_code z) stamps (any_sectors z) (λ k. zeros) ≡ true
  unfolding any_sectors medium
  blank_zeros =
      let logs : every (λ j. is_zeros zeros) (from 0 (suc z.c)) ≡ true = every_all (λ j. is_zeros zeros) (from 0 (suc z.c)) (λ j m. zeros_are) in
      let one : every (λ j. is_zeros zeros) (from 0 z.c) ≡ true = every_all (λ j. is_zeros zeros) (from 0 z.c) (λ j m. zeros_are) in
      let strips : every (λ t. every (λ j. is_zeros zeros) (from 0 z.c)) (from 0 (size z).T) ≡ true = every_all (λ t. every (λ j. is_zeros zeros) (from 0 z.c)) (from 0 (size z).T) (λ t m. one) in
      every_all (λ d. (is_zeros zeros && is_zeros zeros) && (every (λ j. is_zeros zeros) (from 0 (suc z.c)) && every (λ t. every (λ j. is_zeros zeros) (from 0 z.c)) (from 0 (size z).T))) (from 0 (slots z))
      (λ d m. both (is_zeros zeros && is_zeros zeros) _ (both (is_zeros zeros) (is_zeros zeros) zeros_are zeros_are) (both (every (λ j. is_zeros zeros) (from 0 (suc z.c))) _ logs strips))

  one_left : leb 1 (any_sectors z).greatest ≡ true
  unfolding any_sectors medium
  one_left = refl

  -- CREATE
  pub create_accepted : all_zero img ≡ true → program_of z nothing (cur_of z img) create ≡ (asked_create (size z) (no_sets (slots z)) (labels z) (records z) (any_code z) stamps (any_sectors z), accepted)
  unfolding program_by mask
  create_accepted e =
      let A : ℕ → Bool = beyond (slots z) (λ d. false) in
      let same : (b : Bool) → cond b zeros zeros ≡ zeros = go in
      let seen : ◌≡◌ {A = Image Sector} (λ k. cond (A (slot k)) zeros (cur_of z img k)) (λ k. zeros) = fun_ext (λ k. ap (λ (f : Image Sector). cond (A (slot k)) zeros (f k)) (all_zeros e) ∙ same (A (slot k))) in
      let ok : may_create (size z) (no_sets (slots z)) (labels z) (records z) (any_code z) stamps (any_sectors z) (λ k. cond (A (slot k)) zeros (cur_of z img k)) ≡ clear =
      ap (may_create (size z) (no_sets (slots z)) (labels z) (records z) (any_code z) stamps (any_sectors z)) seen
      ∙ ap₂ (λ (a b : Bool). first (record { why = NOT_NOW; holds = not a } ∷ record { why = NOT_NOW; holds = not b } ∷ [])) blank_zeros one_left in
      ap (λ (v : Verdict). answer (size z) (no_sets (slots z)) (labels z) (records z) (any_code z) stamps (any_sectors z) nothing v (asked_create (size z) (no_sets (slots z)) (labels z) (records z) (any_code z) stamps (any_sectors z)) accepted) ok
    where
      go : (b : Bool) → cond b zeros zeros ≡ zeros
      go true = refl
      go false = refl

  -- START-UP
  module _ (absent : ℕ) (p : Plan) (e : survey_of (geometry z) img absent ≡ Ok p) (led : Led z img absent (beyond (slots z) (in_mask absent)) p.lead) where
    pub start_clear : may_start_by (size z) (no_sets (slots z)) (labels z) (records z) (any_code z) stamps (any_sectors z) (few_of z) (A z img absent p e led) (mask (size z) (no_sets (slots z)) (labels z) (records z) (any_code z) stamps (any_sectors z) (A z img absent p e led) (cur_of z img)) ≡ clear
    unfolding plan_of next_of
    start_clear =
        let r = survey_grounds (geometry z) img absent p e in
        let few : ones (slots_that (geometry z) img absent goes_out (l z img absent p e led)) ≤ (l z img absent p e led).m = omega (arith, r.few_out, ap (λ (x : Plan). ones x.next.out) r.is) in
        ap (may_start_by (size z) (no_sets (slots z)) (labels z) (records z) (any_code z) stamps (any_sectors z) (few_of z) (A z img absent p e led)) (seen_mask z (A z img absent p e led) img)
        ∙ start_is z img absent (A z img absent p e led) (l z img absent p e led) led
        ∙ ap₂ (verdict z img absent (A z img absent p e led) (l z img absent p e led) led) (le-leb (ones (slots_that (geometry z) img absent goes_out (l z img absent p e led))) (l z img absent p e led).m few) (le-leb ((l z img absent p e led).generation + 2) most_generation r.left)

    pub start_accepted : program_of z nothing (cur_of z img) (start (in_mask absent))
        ≡ (asked_start (size z) (no_sets (slots z)) (labels z) (records z) (any_code z) stamps (any_sectors z) (A z img absent p e led) (mask (size z) (no_sets (slots z)) (labels z) (records z) (any_code z) stamps (any_sectors z) (A z img absent p e led) (cur_of z img)), accepted)
    unfolding program_by
    start_accepted = ap (λ (v : Verdict). answer (size z) (no_sets (slots z)) (labels z) (records z) (any_code z) stamps (any_sectors z) nothing v (asked_start (size z) (no_sets (slots z)) (labels z) (records z) (any_code z) stamps (any_sectors z) (A z img absent p e led) (mask (size z) (no_sets (slots z)) (labels z) (records z) (any_code z) stamps (any_sectors z) (A z img absent p e led) (cur_of z img))) accepted) start_clear

    -- the slots that it leaves out: those that the label calls out that it settles
    next_out : in_mask p.next.out ≡ in_mask (slots_that (geometry z) img absent goes_out (l z img absent p e led))
    unfolding plan_of next_of
    next_out = ap (λ (x : Plan). in_mask x.next.out) (survey_grounds (geometry z) img absent p e).is

    pub start_leaves : leaves_of z nothing (cur_of z img) (start (in_mask absent)) ≡ in_mask p.next.out ∷ []
    start_leaves =
        ap (λ (f : Image Sector). left_out (size z) (no_sets (slots z)) (labels z) (records z) (any_code z) stamps (any_sectors z) (A z img absent p e led) f ∷ []) (seen_mask z (A z img absent p e led) img)
        ∙ ap (λ (x : ℕ → Bool). x ∷ []) (fun_ext (left_out_is z img absent (A z img absent p e led) (l z img absent p e led) led) ∙ sym next_out)

    pub start_few : few_of z (in_mask p.next.out) ≡ true
    unfolding plan_of next_of
    start_few =
        let r = survey_grounds (geometry z) img absent p e in
        ap (few_of z) (next_out ∙ sym (fun_ext (left_out_is z img absent (A z img absent p e led) (l z img absent p e led) led))) ∙ few_is z img absent (A z img absent p e led) (l z img absent p e led) led
        ∙ le-leb (ones (slots_that (geometry z) img absent goes_out (l z img absent p e led))) (l z img absent p e led).m (omega (arith, r.few_out, ap (λ (x : Plan). ones x.next.out) r.is))

    -- NO TAIL IS GARBAGE under the label that it settles, where the protocol's invariant holds for a family in which the slots lie that go out
    module _ (F : Family z) (in_family : F.sets.few (in_mask p.next.out) ≡ true) (w : World Sector) (reads : w.cur ≡ cur_of z img) (view : View Sector) (off : Off (size z) F.sets (labels z) (records z) (code_in z F) stamps (sectors_in z F) view w) where
      framed : Framed (D z img absent p e led F in_family w reads view off)
      framed = under_framed (size z) F.sets (labels z) (records z) (code_in z F) stamps (sectors_in z F) (g z img absent p e led F in_family w reads view off) view

      shelf : startup.Shelf (size z) F.sets (labels z) (g z img absent p e led F in_family w reads view off).base (D z img absent p e led F in_family w reads view off) (f z img absent p e led F in_family w reads view off)
      shelf = subst (startup.Shelf (size z) F.sets (labels z) (g z img absent p e led F in_family w reads view off).base (D z img absent p e led F in_family w reads view off)) reads (always_cur (startup.Shelf (size z) F.sets (labels z) (g z img absent p e led F in_family w reads view off).base (D z img absent p e led F in_family w reads view off)) w off.sane off.left)

      agree : (k : Place) → (A z img absent p e led) (slot k) ≡ false → seen_of z (A z img absent p e led) img k ≡ (f z img absent p e led F in_family w reads view off) k
      agree k a = seen_present z (A z img absent p e led) img k a

      clear_seen : may_start (size z) F.sets (labels z) (records z) (code_in z F) stamps (sectors_in z F) (A z img absent p e led) (seen_of z (A z img absent p e led) img) ≡ clear
      unfolding plan_of next_of
      clear_seen =
          let r = survey_grounds (geometry z) img absent p e in
          start_in z img absent (A z img absent p e led) (l z img absent p e led) led F (sym (ap (λ (x : Plan). F.sets.few (in_mask x.next.out)) r.is) ∙ in_family) (le-leb ((l z img absent p e led).generation + 2) most_generation r.left)

      ok : Accepted (size z) F.sets (labels z) (A z img absent p e led) (f z img absent p e led F in_family w reads view off)
      ok = accept_f (size z) F.sets (labels z) (records z) (code_in z F) stamps (sectors_in z F) (A z img absent p e led) (seen_of z (A z img absent p e led) img) clear_seen (f z img absent p e led F in_family w reads view off) agree

      met : Met (size z) F.sets (labels z) (records z) (A z img absent p e led) (g z img absent p e led F in_family w reads view off).base (D z img absent p e led F in_family w reads view off) (startup.Shelf (size z) F.sets (labels z) (g z img absent p e led F in_family w reads view off).base (D z img absent p e led F in_family w reads view off)) (f z img absent p e led F in_family w reads view off)
      met = meets_shelf (size z) F.sets (labels z) (records z) (g z img absent p e led F in_family w reads view off).history (A z img absent p e led) (f z img absent p e led F in_family w reads view off) ok (g z img absent p e led F in_family w reads view off).base (D z img absent p e led F in_family w reads view off) framed shelf

      label_is : settled (size z) (labels z) (records z) (A z img absent p e led) (f z img absent p e led F in_family w reads view off) ≡ label_of z (new z img absent p e led F in_family w reads view off)
      label_is = same_label_lem (size z) F.sets (labels z) (records z) (code_in z F) stamps (sectors_in z F) (A z img absent p e led) (seen_of z (A z img absent p e led) img) clear_seen (f z img absent p e led F in_family w reads view off) agree ∙ next_is z img absent (A z img absent p e led) (l z img absent p e led) led

      under : (D z img absent p e led F in_family w reads view off) (belief (size z) (label_of z (new z img absent p e led F in_family w reads view off))) (f z img absent p e led F in_family w reads view off)
      under =
          subst (λ (x : Label). (D z img absent p e led F in_family w reads view off) (belief (size z) x) (f z img absent p e led F in_family w reads view off)) label_is
          (settled_D (size z) F.sets (labels z) (A z img absent p e led) (f z img absent p e led F in_family w reads view off) met.odd met.last met.Q met.N met.top met.far met.bays met.low ok.labels_there ok.enough ok.fits1 ok.fits1' ok.fits2 (D z img absent p e led F in_family w reads view off) framed met.under_Q met.under_N (f z img absent p e led F in_family w reads view off) (same_self (f z img absent p e led F in_family w reads view off)))

      above : (g z img absent p e led F in_family w reads view off).base.generation < (new z img absent p e led F in_family w reads view off).generation
      above =
          subst (λ (x : Label). (g z img absent p e led F in_family w reads view off).base.generation < x.generation) label_is
          (done_above (size z) F.sets (labels z) (records z) (g z img absent p e led F in_family w reads view off).history (A z img absent p e led) (f z img absent p e led F in_family w reads view off) ok (g z img absent p e led F in_family w reads view off).base (D z img absent p e led F in_family w reads view off) framed (startup.Shelf (size z) F.sets (labels z) (g z img absent p e led F in_family w reads view off).base (D z img absent p e led F in_family w reads view off)) met)

      seen_logs : Logs (records z) (belief (size z) (label_of z (new z img absent p e led F in_family w reads view off))) (g z img absent p e led F in_family w reads view off).history (g z img absent p e led F in_family w reads view off).u (seen_of z (A z img absent p e led) img)
      unfolding Quiet Framed belief
      seen_logs =
          let B = belief (size z) (label_of z (new z img absent p e led F in_family w reads view off)) in
          let dark : (d : ℕ) → looked (size z) (label_of z (new z img absent p e led F in_family w reads view off)) d ≡ true → (A z img absent p e led) d ≡ false = λ d a. settled_dark z img absent (A z img absent p e led) (l z img absent p e led) led d (sym (look_is z (new z img absent p e led F in_family w reads view off) d) ∙ a) in
          logs_under z F (g z img absent p e led F in_family w reads view off) view B (seen_of z (A z img absent p e led) img)
          (framed B B (within_self B) (f z img absent p e led F in_family w reads view off) (seen_of z (A z img absent p e led) img) (record { on_log = λ d j a. agree (log d j) (dark d a); on_strip_lem = λ d t j a. agree (strip d t j) (dark d a) }) under)

      pub start_real : Redo.Fair z (new z img absent p e led F in_family w reads view off) img led.disks (A z img absent p e led) (settled_dark z img absent (A z img absent p e led) (l z img absent p e led) led)
      start_real = logs_fair z (new z img absent p e led F in_family w reads view off) img led.disks (A z img absent p e led) (settled_dark z img absent (A z img absent p e led) (l z img absent p e led) led) (g z img absent p e led F in_family w reads view off).history (g z img absent p e led F in_family w reads view off).u seen_logs (let h : (g z img absent p e led F in_family w reads view off).u < suc (g z img absent p e led F in_family w reads view off).base.generation * counts = off.early in omega (arith, h, suc-mul (g z img absent p e led F in_family w reads view off).base.generation counts, above))

  -- TAKING A SLOT OUT, at rest
  module _ (disks : Disks z img) (s : State) (own : ours z s.now ≡ true) (d room : ℕ) (e : take_answer s.now s.kind s.absent img d room ≡ Ok tt) where
    not_plain : plainly_out' (label_of z (now z img disks s own d room e)) d ≡ false
    not_plain = plain_is z (now z img disks s own d room e) d (there z img disks s own d room e) ∙ (can z img disks s own d room e).not_plain

    left : leb (suc (now z img disks s own d room e).generation) (any_sectors z).greatest ≡ true
    unfolding any_sectors medium
    left = le-leb (suc (now z img disks s own d room e).generation) most_generation (omega (arith, (can z img disks s own d room e).more))

    -- the slots that are out then
    pub out_leaves : leaves_of z (idle (o z img disks s own d room e)) (cur_of z img) (take_out d) ≡ in_mask (outed (now z img disks s own d room e) d).out ∷ []
    out_leaves = ap (λ (x : Label). x.out ∷ []) (sym (out_label z img disks s own d (there z img disks s own d room e)))

    pub out_accepted : program_of z (idle (o z img disks s own d room e)) (cur_of z img) (take_out d) ≡ (asked_out (size z) (no_sets (slots z)) (labels z) (records z) (any_code z) stamps (any_sectors z) (o z img disks s own d room e) d, accepted)
    unfolding program_by
    out_accepted =
        let ok : may_out_by (size z) (no_sets (slots z)) (labels z) (records z) (any_code z) stamps (any_sectors z) (few_of z) false (o z img disks s own d room e) d ≡ clear = λ i.
        first (record { why = TOO_FEW; holds = not ((few z img disks s own d room e) i) } ∷ record { why = BAD_BLOCK; holds = not (lt-ltb d (slots z) (there z img disks s own d room e) i) } ∷ record { why = BUSY; holds = false } ∷ record { why = NOT_NOW; holds = not_plain i || not (left i) } ∷ []) in
        ap (λ (v : Verdict). answer (size z) (no_sets (slots z)) (labels z) (records z) (any_code z) stamps (any_sectors z) (idle (o z img disks s own d room e)) v (asked_out (size z) (no_sets (slots z)) (labels z) (records z) (any_code z) stamps (any_sectors z) (o z img disks s own d room e) d) accepted) ok
