-- GOING ON WITH A REBUILD, accepted at rest: it can be carried out, what the program remembers beside it is what it remembers of that
-- request, and the program accepts it too. Where the mark is T already, it has no strips: a flush, and then the label. Assumes nothing.
use Rattle.std.specs.Prelude.{◌≡◌, Bool, ◌&&◌, ◌||◌, ℕ, zero, suc, ◌+◌, ◌-◌, ◌*◌, ◌/◌, ◌%◌, ◌≤◌, ◌<◌, ◌^◌, max, eqb, Ok}
use Rattle.std.proofs.Math.Path.{refl, ap, ap₂, fun_ext}
use Rattle.std.proofs.Common.{sym, subst, ◌∙◌, inl, true≢false, arith}
use Rattle.std.proofs.Math.Bool.{true, false, cond, not}
use mathlib.Core.List.{List, [], ◌∷◌}
use Rattle.std.proofs.Math.Nat.{mul_assoc, max-le, le-max_left}
use Rattle.std.proofs.Math.Dec.{leb, ltb}
use Rattle.std.proofs.Math.Arith.{bin_ind}
use Rattle.std.specs.Int.Bits.{bit_or, or_step}
use Rattle.std.specs.Int.Count.{ones, ones_step}
use Rattle.std.proofs.Math.ListN.{length}
use borrow.Author.Tests.{lt-ltb, le-leb, eqb-true, ltb-false, not-true}
use Rattle.disk.specs.Limits.{sector_bytes, least_n, most_n}
use Rattle.disk.specs.Tests.{both}
use Rattle.disk.specs.Geometry.{strip_length, stripes_of}
use Rattle.disk.specs.Mask.{in_mask, without_slot, in_with, in_without, in_past}
use Rattle.label.specs.Fields.{no_slot, most_generation, geometry_of, fits_of}
use Rattle.label.proofs.Counts.{same_says}
use Rattle.protocol.specs.World.{Action}
use Rattle.protocol.specs.Count.{count_part}
use Rattle.protocol.specs.Label.{looked, believed, belief}
use Rattle.protocol.proofs.Label.{believe_is}
use Rattle.protocol.specs.Host.{missing}
use Rattle.protocol.specs.Rebuild.{raised, healed}
use Rattle.protocol.specs.Program.{BUSY, NOT_NOW, first, Memory, idle, doing, labelling, accepted, rebuild_on, mask, asked_on as asked_on', answer}
use Rattle.protocol.specs.Even.{program_by}
use Rattle.protocol.specs.Pairs.{no_sets}
use Rattle.codecs.specs.Sector.{Sector}
use Rattle.codecs.specs.Shelf.{Shelf, slots, geometry, size, limits, few_slots, strips_fit}
use Rattle.codecs.specs.Labels.{fields_of, no_label, label_of, ours}
use Rattle.codecs.proofs.Labels.{labels}
use Rattle.codecs.proofs.Records.{records}
use Rattle.codecs.specs.Media.{stamps}
use Rattle.codecs.proofs.Media.{medium}
use Rattle.shards.specs.Quorum.{few_of}
use Rattle.shards.proofs.Quorum.{few_count, count_few, few_mask}
use Rattle.shards.proofs.Even.{any_code, any_sectors}
use Rattle.stages.specs.Limits.{most_stages}
use Rattle.shelf.specs.Step.{sound}
use Rattle.shelf.specs.Says.{when, unless}
use Rattle.stages.specs.declared.state.State.{State}
use Rattle.requests.specs.Begun.{work_bytes, slots_but}
use Rattle.requests.specs.TakeOut.{next_label}
use Rattle.rebuilds.specs.Judge.{too_few, last_one}
use Rattle.rebuilds.specs.Begin.{only}
use Rattle.rebuilds.specs.On.{cannot_go_on, on_answer, at_least_one, last_batch, strips_on, on_label, first_stage, went_on, on_of, strips_within}
use Rattle.refine.specs.Disks.{Disks, cur_of, seen_of}
use Rattle.refine.specs.Rounds.{beyond_below}
use Rattle.refine.specs.Lists.{Says}
use Rattle.refine.specs.ToDo.{slots_from}
use Rattle.refine.specs.Steps.{Present, Fair}
use Rattle.refine.specs.Fills.{Fillable}
use Rattle.refine.specs.Tied.{own_of, memory_of, program_of}
use Rattle.refine.specs.Requests.{goes, slots_say}
use Rattle.refine.specs.Relabels.{one_slot}
use Rattle.refine.proofs.FillList.{fill_list, fill_fair}
use Rattle.refine.specs.OnBegins.{ones_none, l, Q, r, A, t, geo, n_is, goes_on, passed, one_left, fits, there, a_slot, is_out, on_sized, next_tells, o, on_with, one}
use Rattle.requests.specs.Begun.{outcome_of, state_of}

none_of : (a b c : Bool) → (a || (b || c)) ≡ false → (a ≡ false) × (b ≡ false) × (c ≡ false)
none_of true b c e = absurd (true≢false e)
none_of false true c e = absurd (true≢false e)
none_of false false c e = (refl, refl, e)

-- a mask has no more slots than with others
ones_or : (a b : ℕ) → ones a ≤ ones (bit_or a b)
ones_or =
    bin_ind (λ (n : ℕ). (b : ℕ) → ones n ≤ ones (bit_or n b)) (λ b. omega (arith, ones_none))
    (λ n more b.
    let h : ℕ = bit_or (n / 2) (b / 2) in
    let x : ℕ = max (n % 2) (b % 2) in
    let low : x ≤ 1 = max-le (omega arith) (omega arith) in
    let whole : bit_or n b ≡ h * 2 + x = or_step n b in
    let half : bit_or n b / 2 ≡ h = omega arith in
    let odd : bit_or n b % 2 ≡ x = omega arith in
    omega (arith, ones_step n, ones_step (bit_or n b), ap ones half, odd, le-max_left (n % 2) (b % 2), more (b / 2)))

module _ (z : Shelf) (img : List ℕ) (disks : Disks z img) (s : State) (own : ours z s.now ≡ true) (b : ℕ) (work : List ℕ)
    (ok : on_answer s.now s.kind s.absent img (length work) ≡ Ok tt)
    (dark : (d : ℕ) → d < slots z → in_mask s.absent d ≡ true → looked (size z) (label_of z s.now) d ≡ true → ⊥) where
  not_absent : in_mask s.absent (r z img disks s own b work ok dark) ≡ false
  unfolding cannot_go_on
  not_absent = (none_of (eqb (r z img disks s own b work ok dark) no_slot) (in_mask s.absent (r z img disks s own b work ok dark)) (last_one (l z img disks s own b work ok dark)) (passed z img disks s own b work ok dark).time).1

  r_is : (Q z img disks s own b work ok dark).rebuilding ≡ (r z img disks s own b work ok dark)
  r_is = unless (eqb (r z img disks s own b work ok dark) no_slot) (slots z) (r z img disks s own b work ok dark) (a_slot z img disks s own b work ok dark)

  T_is : stripes_of (geometry_of (l z img disks s own b work ok dark)) ≡ stripes_of (geometry z)
  T_is = ap stripes_of (geo z img disks s own b work ok dark)

  room : slots z * (z.c * sector_bytes) ≤ length work
  unfolding work_bytes
  room =
      let e : length work ≡ work_bytes (slots z) z.c = (on_sized z img disks s own b work ok dark) in
      let q : work_bytes (slots z) z.c ≡ 2 * slots z * z.c * sector_bytes =
      when (leb least_n (slots z) && (leb (slots z) most_n && strip_length z.c)) _ _
      (both (leb least_n (slots z)) _ (le-leb least_n (slots z) (limits z).0.least) (both (leb (slots z) most_n) _ (le-leb (slots z) most_n (few_slots z)) (strips_fit z))) in
      omega (arith, e, q, mul_assoc (slots z) z.c sector_bytes, mul_assoc (2 * slots z) z.c sector_bytes, mul_assoc 2 (slots z) (z.c * sector_bytes))

  -- ---- its slots

  only_says : (d : ℕ) → in_mask (only (r z img disks s own b work ok dark) true) d ≡ eqb d (r z img disks s own b work ok dark)
  only_says d = in_with 0 (r z img disks s own b work ok dark) d ∙ ap (λ (x : Bool). eqb d (r z img disks s own b work ok dark) || x) (in_past 0 0 d (omega arith) (omega arith)) ∙ by (eqb d (r z img disks s own b work ok dark))
    where
      by : (x : Bool) → (x || false) ≡ x
      by true = refl
      by false = refl

  one_only : slots_from (slots z) (t z img disks s own b work ok dark).marks.redo 0 ≡ (Q z img disks s own b work ok dark).rebuilding ∷ []
  one_only = one_slot z (only (r z img disks s own b work ok dark) true) (r z img disks s own b work ok dark) (λ d. true) (there z img disks s own b work ok dark) (λ d i. only_says d ∙ by (eqb d (r z img disks s own b work ok dark))) ∙ ap (λ (x : ℕ). x ∷ []) (sym r_is)
    where
      by : (x : Bool) → x ≡ (x && true)
      by true = refl
      by false = refl

  all_say : Says z (t z img disks s own b work ok dark).marks.present (λ d. not (in_mask s.absent d))
  all_say d i =
      ap (λ (m : ℕ). in_mask m d) (when (leb ((l z img disks s own b work ok dark).k + (l z img disks s own b work ok dark).m) most_n) (slots_but s.absent ((l z img disks s own b work ok dark).k + (l z img disks s own b work ok dark).m)) 0 (le-leb ((l z img disks s own b work ok dark).k + (l z img disks s own b work ok dark).m) most_n (omega (arith, (n_is z img disks s own b work ok dark), few_slots z))))
      ∙ ap (λ (n : ℕ). in_mask (slots_but s.absent n) d) (n_is z img disks s own b work ok dark) ∙ slots_say z s.absent d i

  redo_there : Present z s.absent (t z img disks s own b work ok dark).marks.redo
  redo_there d i e = let q : d ≡ (r z img disks s own b work ok dark) = eqb-true d (r z img disks s own b work ok dark) (sym (only_says d) ∙ e) in ap (in_mask s.absent) q ∙ not_absent

  all_there : Present z s.absent (t z img disks s own b work ok dark).marks.present
  all_there d i e = not-true (in_mask s.absent d) (sym (all_say d i) ∙ e)

  -- no absent slot is believed
  seen : (d u : ℕ) → d < slots z → believed (size z) (Q z img disks s own b work ok dark) d u ≡ true → (A z img disks s own b work ok dark) d ≡ false
  unfolding belief
  seen d u i e = beyond_below (slots z) s.absent d i ∙ by (in_mask s.absent d) refl
    where
      by : (x : Bool) → in_mask s.absent d ≡ x → x ≡ false
      by true q = absurd (dark d i q ((belief (size z) (Q z img disks s own b work ok dark)).believe_look d u e))
      by false q = refl

  m_is : (l z img disks s own b work ok dark).m ≡ z.m
  m_is = sym (same_says (fields_of z 0 (no_label z)) (l z img disks s own b work ok dark) own).same_m

  few_out : few_of z (in_mask (l z img disks s own b work ok dark).out) ≡ true
  unfolding too_few
  few_out =
      few_mask z (l z img disks s own b work ok dark).out (subst (λ (n : ℕ). (l z img disks s own b work ok dark).out < 2 ^ n) (n_is z img disks s own b work ok dark) (fits z img disks s own b work ok dark).out_below)
      ∙ le-leb (ones (l z img disks s own b work ok dark).out) z.m (omega (arith, m_is, ltb-false (l z img disks s own b work ok dark).m (ones (bit_or (l z img disks s own b work ok dark).out s.absent)) (passed z img disks s own b work ok dark).enough, ones_or (l z img disks s own b work ok dark).out s.absent))

  few_missing : (u : ℕ) → u < stripes_of (geometry z) → few_of z (missing (size z) (no_sets (slots z)) (records z) (any_code z) (Q z img disks s own b work ok dark) u) ≡ true
  few_missing u hu =
      let bad : ℕ → Bool = missing (size z) (no_sets (slots z)) (records z) (any_code z) (Q z img disks s own b work ok dark) u in
      count_few z bad (omega (arith, count_part bad (in_mask (l z img disks s own b work ok dark).out) (slots z) (λ d i e. by d i (in_mask (l z img disks s own b work ok dark).out d) refl e), few_count z (in_mask (l z img disks s own b work ok dark).out) few_out))
    where
      by : (d : ℕ) → d < slots z → (x : Bool) → in_mask (l z img disks s own b work ok dark).out d ≡ x → not (believed (size z) (Q z img disks s own b work ok dark) d u) ≡ true → x ≡ true
      by d i true q e = refl
      by d i false q e = absurd (true≢false (sym e ∙ ap not (believe_is (size z) (Q z img disks s own b work ok dark) d u i hu (inl q))))

  -- where it begins with its strips, there are some
  some_strips : (n : ℕ) → first_stage n ≤ 0 → 0 < n
  some_strips zero h = h
  some_strips (suc n) h = omega arith

  fillable : (t z img disks s own b work ok dark).cursor.stage ≤ 0 → Fillable z (t z img disks s own b work ok dark).absent (t z img disks s own b work ok dark).now work (t z img disks s own b work ok dark).marks.redo (t z img disks s own b work ok dark).now.mark (t z img disks s own b work ok dark).marks.stripe
  fillable h =
      record {
        here = λ d i e. eqb-true d (r z img disks s own b work ok dark) (sym (only_says d) ∙ e) ∙ sym r_is;
        out = ap (in_mask (l z img disks s own b work ok dark).out) r_is ∙ (is_out z img disks s own b work ok dark);
        mark = omega arith;
        some = some_strips (strips_on (l z img disks s own b work ok dark) b) h;
        within = omega (arith, T_is, strips_within (l z img disks s own b work ok dark) b (fits z img disks s own b work ok dark).mark_below);
        few = few_missing;
        dark = dark;
        room = room;
      }

  -- ---- the beginning

  -- the stage with which it begins is one of those that there are
  early : (n : ℕ) → leb (first_stage n) most_stages ≡ true
  early zero = refl
  early (suc n) = refl

  pub on_fair : Fair z (t z img disks s own b work ok dark) work img
  unfolding sound
  on_fair =
      fill_fair z (t z img disks s own b work ok dark) work img refl (both (fits_of (l z img disks s own b work ok dark)) _ (goes_on z img disks s own b work ok dark).fits (both (leb (t z img disks s own b work ok dark).cursor.stage most_stages) _ (early (strips_on (l z img disks s own b work ok dark) b)) (lt-ltb 0 (l z img disks s own b work ok dark).sectors (omega (arith, (fits z img disks s own b work ok dark).range.room))))) own disks refl redo_there all_there fillable (next_tells z img disks s own b work ok dark)

  one_is : (x : ℕ) → at_least_one x ≡ (one z img disks s own b work ok dark) x
  one_is zero = refl
  one_is (suc x) = refl

  next_one : (l z img disks s own b work ok dark).generation + 1 ≡ suc (l z img disks s own b work ok dark).generation
  next_one = omega arith

  and_swap : (x y : Bool) → (x && y) ≡ (y && x)
  and_swap true true = refl
  and_swap true false = refl
  and_swap false true = refl
  and_swap false false = refl

  heal_is : label_of z (next_label (l z img disks s own b work ok dark) (without_slot (l z img disks s own b work ok dark).out (r z img disks s own b work ok dark)) no_slot 0) ≡ healed (slots z) (Q z img disks s own b work ok dark)
  heal_is =
      let out : in_mask (without_slot (l z img disks s own b work ok dark).out (r z img disks s own b work ok dark)) ≡ (λ e. in_mask (l z img disks s own b work ok dark).out e && not (eqb e (Q z img disks s own b work ok dark).rebuilding)) =
      fun_ext (λ e. in_without (l z img disks s own b work ok dark).out (r z img disks s own b work ok dark) e ∙ and_swap (not (eqb e (r z img disks s own b work ok dark))) (in_mask (l z img disks s own b work ok dark).out e) ∙ ap (λ (x : ℕ). in_mask (l z img disks s own b work ok dark).out e && not (eqb e x)) (sym r_is)) in
      λ i. record { generation = next_one i; out = out i; rebuilding = slots z; mark = 0 }

  raise_is : label_of z (next_label (l z img disks s own b work ok dark) (l z img disks s own b work ok dark).out (r z img disks s own b work ok dark) ((l z img disks s own b work ok dark).mark + at_least_one b)) ≡ raised (Q z img disks s own b work ok dark) ((l z img disks s own b work ok dark).mark + (one z img disks s own b work ok dark) b)
  raise_is = λ i. record { generation = next_one i; out = in_mask (l z img disks s own b work ok dark).out; rebuilding = (Q z img disks s own b work ok dark).rebuilding; mark = (l z img disks s own b work ok dark).mark + one_is b i }

  remembered : memory_of z (t z img disks s own b work ok dark) work img ≡ (on_with z img disks s own b work ok dark) (strips_on (l z img disks s own b work ok dark) b) (label_of z (on_label (l z img disks s own b work ok dark) b))
  unfolding memory_of
  remembered =
      ap (λ (a : List (Action Sector)). doing labelling a (o z img disks s own b work ok dark) (own_of z (t z img disks s own b work ok dark) (t z img disks s own b work ok dark).next))
      (fill_list z (t z img disks s own b work ok dark) work img refl refl one_only (A z img disks s own b work ok dark) (label_of z (on_label (l z img disks s own b work ok dark) b)) seen (λ d i. all_say d i ∙ ap not (sym (beyond_below (slots z) s.absent d i))) refl)

  -- IT IS THE PROGRAM'S
  pub on_asked : memory_of z (t z img disks s own b work ok dark) work img ≡ asked_on' (size z) (no_sets (slots z)) (labels z) (records z) (any_code z) stamps (any_sectors z) (o z img disks s own b work ok dark) (seen_of z (A z img disks s own b work ok dark) img) b
  unfolding strips_on on_label last_batch
  on_asked =
      remembered ∙ by (leb (stripes_of (geometry_of (l z img disks s own b work ok dark))) ((l z img disks s own b work ok dark).mark + at_least_one b))
      ∙ ap (λ (x : Bool). cond x ((on_with z img disks s own b work ok dark) (stripes_of (geometry z) - (l z img disks s own b work ok dark).mark) (healed (slots z) (Q z img disks s own b work ok dark))) ((on_with z img disks s own b work ok dark) ((one z img disks s own b work ok dark) b) (raised (Q z img disks s own b work ok dark) ((l z img disks s own b work ok dark).mark + (one z img disks s own b work ok dark) b)))) (ap₂ (λ (x y : ℕ). leb x ((l z img disks s own b work ok dark).mark + y)) T_is (one_is b))
    where
      by : (x : Bool) → (on_with z img disks s own b work ok dark) (cond x (stripes_of (geometry_of (l z img disks s own b work ok dark)) - (l z img disks s own b work ok dark).mark) (at_least_one b)) (label_of z (cond x (next_label (l z img disks s own b work ok dark) (without_slot (l z img disks s own b work ok dark).out (r z img disks s own b work ok dark)) no_slot 0) (next_label (l z img disks s own b work ok dark) (l z img disks s own b work ok dark).out (r z img disks s own b work ok dark) ((l z img disks s own b work ok dark).mark + at_least_one b))))
          ≡ cond x ((on_with z img disks s own b work ok dark) (stripes_of (geometry z) - (l z img disks s own b work ok dark).mark) (healed (slots z) (Q z img disks s own b work ok dark))) ((on_with z img disks s own b work ok dark) ((one z img disks s own b work ok dark) b) (raised (Q z img disks s own b work ok dark) ((l z img disks s own b work ok dark).mark + (one z img disks s own b work ok dark) b)))
      by true = ap₂ (on_with z img disks s own b work ok dark) (ap (λ (x : ℕ). x - (l z img disks s own b work ok dark).mark) T_is) heal_is
      by false = ap₂ (on_with z img disks s own b work ok dark) (one_is b) raise_is

  left : leb (suc (l z img disks s own b work ok dark).generation) (any_sectors z).greatest ≡ true
  unfolding any_sectors medium
  left = le-leb (suc (l z img disks s own b work ok dark).generation) most_generation (omega (arith, (one_left z img disks s own b work ok dark)))

  -- AND THE PROGRAM ACCEPTS
  pub on_accepted : program_of z (idle (o z img disks s own b work ok dark)) (cur_of z img) (rebuild_on b) ≡ (asked_on' (size z) (no_sets (slots z)) (labels z) (records z) (any_code z) stamps (any_sectors z) (o z img disks s own b work ok dark) (seen_of z (A z img disks s own b work ok dark) img) b, accepted)
  unfolding program_by mask seen_of
  on_accepted =
      let in_n : ltb (Q z img disks s own b work ok dark).rebuilding (slots z) ≡ true = lt-ltb (Q z img disks s own b work ok dark).rebuilding (slots z) (omega (arith, r_is, (there z img disks s own b work ok dark))) in
      ap₂ (λ (x y : Bool). answer (size z) (no_sets (slots z)) (labels z) (records z) (any_code z) stamps (any_sectors z) (idle (o z img disks s own b work ok dark)) (first (record { why = BUSY; holds = false } ∷ record { why = NOT_NOW; holds = not x || not y } ∷ []))
      (asked_on' (size z) (no_sets (slots z)) (labels z) (records z) (any_code z) stamps (any_sectors z) (o z img disks s own b work ok dark) (seen_of z (A z img disks s own b work ok dark) img) b) accepted) in_n left

-- A REBUILD THAT GOES ON, at rest: no absent slot is looked at, as the protocol's invariant has it
pub on_begins : (z : Shelf) (img : List ℕ) → Disks z img → (s : State) → ours z s.now ≡ true → (b : ℕ) (work : List ℕ) → outcome_of (on_of s b img (length work)) ≡ Ok tt
    → ((d : ℕ) → d < slots z → in_mask s.absent d ≡ true → looked (size z) (label_of z s.now) d ≡ true → ⊥)
    → Fair z (state_of s (on_of s b img (length work))) work img
    × (program_of z (idle (own_of z s s.now)) (cur_of z img) (rebuild_on b) ≡ (memory_of z (state_of s (on_of s b img (length work))) work img, accepted))
on_begins z img disks s own b work e dark =
    let p = goes (on_answer s.now s.kind s.absent img (length work)) s (went_on s b img) e in
    subst (λ (x : State). Fair z x work img × (program_of z (idle (own_of z s s.now)) (cur_of z img) (rebuild_on b) ≡ (memory_of z x work img, accepted))) (sym p.1) (
      on_fair z img disks s own b work p.0 dark,
      on_accepted z img disks s own b work p.0 dark ∙ ap (λ (m : Memory Sector). (m, accepted)) (sym (on_asked z img disks s own b work p.0 dark)),
    )
