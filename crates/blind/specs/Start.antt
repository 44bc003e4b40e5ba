-- START-UP, AND TAKING A SLOT OUT, on images that are alike: they answer the same and hand out the same state. Assumes nothing.
use Rattle.std.specs.Prelude.{◌≡◌, Bool, not, ◌&&◌, ◌||◌, eqb, ltb, length, Ok, Err, None}
use Rattle.std.proofs.Math.Path.{refl, sym, ap, ap₂, fun_ext}
use Rattle.std.proofs.Common.{◌∙◌, subst, true≢false, arith, lt-ltb, eqb-true}
use Rattle.std.proofs.Math.Bool.{true, false, cond}
use Rattle.std.proofs.lemmas.Bool.{false≢true}
use mathlib.Core.List.{List}
use Prim.Native.Nat.{ℕ, ◌+◌, ◌≤◌, ◌<◌}
use Rattle.disk.specs.Limits.{most_n, first_log}
use Rattle.disk.specs.Geometry.{stripes_of}
use Rattle.disk.specs.Mask.{in_mask, mask_of}
use Rattle.disk.specs.Image.{fits_image, fits_image_lem}
use Rattle.disk.specs.declared.geometry.Geometry.{Geometry}
use Rattle.disk.specs.declared.refusal.Refusal.TheVariants.{BadImage, NoLabel, NotNow, BadBuffer}
use Rattle.disk.specs.Refusal.{Outcome}
use Rattle.label.specs.Fields.{no_slot, geometry_of}
use Rattle.label.specs.Newest.{newest_of, copy_of, disk_label, all_of}
use Rattle.label.specs.Valid.{decode_of}
use Rattle.label.specs.declared.fields.Label.{Label}
use Rattle.label.specs.Fields.{Decoded}
use Rattle.record.specs.Stamp.{stamp_at, zero_stamp, same_stamp}
use Rattle.record.specs.Tail.{tail_at}
use Rattle.record.specs.Tail as tail
use Rattle.record.specs.declared.stamp.Stamp.{Stamp}
use Rattle.record.specs.declared.tail.Tail.{Tail}
use Rattle.record.specs.Tail.{Found}
use Rattle.rounds.specs.Survey.{next_of, plan_of, survey_of}
use Rattle.rounds.specs.Slot.{stale, gone}
use Rattle.rounds.specs.Plans as plans
use Rattle.rounds.specs.declared.plan.Plan.{Plan}
use Rattle.rounds.specs.Survey.{Survey}
use Rattle.rounds.proofs.Plans.{survey_grounds, plan_sound}
use Rattle.rounds.proofs.Same.{survey_same}
use Rattle.redo.specs.Decide.{plainly_out, looked, log_at, tail_found, stamp_found, key_of, leader_of, lead_of, involved, complete_with, serves, whole_of, marked, settled, decided, redo_of}
use Rattle.redo.specs.Laws.{looked_below}
use Rattle.redo.specs.Complete.{complete_stamps, stamps_complete, involved_looked}
use Rattle.redo.specs.declared.Redo.{Redo}
use Rattle.redo.specs.declared.Redo.TheVariants.{Nothing, Forward, Kill}
use Rattle.shelf.specs.Act.{named}
use Rattle.stages.specs.declared.state.State.{State}
use Rattle.stages.specs.declared.state.Kind.TheVariants.{Starting}
use Rattle.requests.specs.Begun.{work_bytes, slots_but, begun, first}
use Rattle.requests.specs.Ready.{is_idle, is_label, has_shelf, holding, ready_of}
use Rattle.requests.specs.TakeOut.{out_answer, took_out, take_out_of}
use Rattle.requests.specs.Start.{marks_by, by_survey, start_of}
use Rattle.requests.specs.Begun.{Begun}
use Rattle.blind.specs.Alike.{Alike, fits_alike, read_alike}

module _ (g : Geometry) (absent : ℕ) (x y : List ℕ) (h : Alike g absent x y) where
  -- ---- labels

  disk_alike : (d : ℕ) → in_mask absent d ≡ false → disk_label g x d ≡ disk_label g y d
  unfolding disk_label copy_of
  disk_alike d e = ap (λ (f : ℕ → Decoded). newest_of f 2) (fun_ext (λ s. ap (λ (b : List ℕ). decode_of b d s) (read_alike g absent x y h d s e)))

  holding_alike : (l : Label) → holding g x absent l ≡ holding g y absent l
  unfolding holding
  holding_alike l = fun_ext (λ d. by d (in_mask absent d) refl)
    where
      by : (d : ℕ) (b : Bool) → in_mask absent d ≡ b → (b || is_label (named l d) (disk_label g x d)) ≡ (b || is_label (named l d) (disk_label g y d))
      by d true e = refl
      by d false e = ap (is_label (named l d)) (disk_alike d e)

  -- ---- the log, under a label that looks at no absent slot

  module _ (l : Label) (dark : (d : ℕ) → looked g l d ≡ true → in_mask absent d ≡ false) where
    log_alike : (d j : ℕ) → looked g l d ≡ true → log_at g x d j ≡ log_at g y d j
    unfolding log_at
    log_alike d j e = read_alike g absent x y h d (first_log + j) (dark d e)

    found_alike : (d : ℕ) → tail_found g x l d ≡ tail_found g y l d
    unfolding tail_found
    found_alike d = by (looked g l d) refl
      where
        by : (b : Bool) → looked g l d ≡ b
            → cond {A = Found} b (tail.decode_of (log_at g x d g.c) (stripes_of g) g.n l.generation) None
            ≡ cond {A = Found} b (tail.decode_of (log_at g y d g.c) (stripes_of g) g.n l.generation) None
        by true e = ap (λ (v : List ℕ). tail.decode_of v (stripes_of g) g.n l.generation) (log_alike d g.c e)
        by false e = refl

    key_alike : (d : ℕ) → key_of g x l d ≡ key_of g y l d
    unfolding key_of
    key_alike d = ap stamp_found (found_alike d)

    lead_alike : lead_of g x l ≡ lead_of g y l
    unfolding lead_of
    lead_alike = ap (λ (k : ℕ → Stamp). leader_of k g.n) (fun_ext key_alike)

    -- a slot with a stamp is looked at
    key_looked : (d : ℕ) → zero_stamp (key_of g x l d) ≡ false → looked g l d ≡ true
    unfolding key_of tail_found zero_stamp
    key_looked d = by (looked g l d) refl
      where
        by : (b : Bool) → looked g l d ≡ b
            → zero_stamp (stamp_found (cond {A = Found} b (tail.decode_of (log_at g x d g.c) (stripes_of g) g.n l.generation) None)) ≡ false → looked g l d ≡ true
        by true e q = e
        by false e q = absurd (true≢false q)

    marked_alike : (a : Stamp) → marked g x l a ≡ marked g y l a
    unfolding marked
    marked_alike a = fun_ext (λ d. by d (looked g l d) refl)
      where
        by : (d : ℕ) (b : Bool) → looked g l d ≡ b → (b && same_stamp (stamp_at (log_at g x d g.c)) a) ≡ (b && same_stamp (stamp_at (log_at g y d g.c)) a)
        by d true e = ap (λ (v : List ℕ). same_stamp (stamp_at v) a) (log_alike d g.c e)
        by d false e = refl

    module _ (fits : fits_image g (length x) ≡ true) (a : Stamp) (some : zero_stamp a ≡ false) where
      complete_alike : (d : ℕ) → looked g l d ≡ true → complete_with g x a d ≡ complete_with g y a d
      complete_alike d e = by (complete_with g x a d) refl (complete_with g y a d) refl
        where
          below : d < g.n
          below = looked_below g l d e

          fits_y : fits_image g (length y) ≡ true
          fits_y = sym (fits_alike g absent x y h) ∙ fits

          there : complete_with g x a d ≡ true → complete_with g y a d ≡ true
          there q = stamps_complete g y d fits_y below a some (λ j i. ap stamp_at (sym (log_alike d j e)) ∙ complete_stamps g x d fits below a q j i)

          back : complete_with g y a d ≡ true → complete_with g x a d ≡ true
          back q = stamps_complete g x d fits below a some (λ j i. ap stamp_at (log_alike d j e) ∙ complete_stamps g y d fits_y below a q j i)

          by : (p : Bool) → complete_with g x a d ≡ p → (q : Bool) → complete_with g y a d ≡ q → complete_with g x a d ≡ complete_with g y a d
          by true u q v = u ∙ sym (there u)
          by false u true v = absurd (true≢false (sym (back v) ∙ u))
          by false u false v = u ∙ sym v

      whole_alike : (t : Tail) → whole_of g x l a t ≡ whole_of g y l a t
      unfolding whole_of serves
      whole_alike t = ap (λ (p : ℕ → Bool). all_of p g.n) (fun_ext (λ d. by d (involved g l t d) refl))
        where
          by : (d : ℕ) (b : Bool) → involved g l t d ≡ b → (not b || complete_with g x a d) ≡ (not b || complete_with g y a d)
          by d true e = complete_alike d (involved_looked g x l a t d e)
          by d false e = refl

      settled_alike : (t : Tail) → settled g x l a t ≡ settled g y l a t
      unfolding settled
      settled_alike t =
          ap₂ (λ (b : Bool) (m : ℕ → Bool). cond {A = Redo} b (Forward t.stripe (mask_of (involved g l t) g.n)) (Kill (mask_of m g.n))) (whole_alike t) (marked_alike a)

    decided_alike : fits_image g (length x) ≡ true → (d : ℕ) → decided g x l d ≡ decided g y l d
    unfolding decided
    decided_alike fits d = ap (λ (k : Stamp). cond {A = Redo} (zero_stamp k) Nothing (settled g x l k (tail_at (log_at g x d g.c)))) (key_alike d) ∙ by (zero_stamp (key_of g y l d)) refl
      where
        k : Stamp
        k = key_of g y l d

        by : (b : Bool) → zero_stamp (key_of g y l d) ≡ b → cond {A = Redo} (zero_stamp k) Nothing (settled g x l k (tail_at (log_at g x d g.c))) ≡ cond {A = Redo} (zero_stamp k) Nothing (settled g y l k (tail_at (log_at g y d g.c)))
        by true e = ap (λ (b : Bool). cond {A = Redo} b Nothing (settled g x l k (tail_at (log_at g x d g.c)))) e ∙ sym (ap (λ (b : Bool). cond {A = Redo} b Nothing (settled g y l k (tail_at (log_at g y d g.c)))) e)
        by false e =
            let seen = key_looked d (ap zero_stamp (key_alike d) ∙ e) in
            ap (cond {A = Redo} (zero_stamp k) Nothing) (settled_alike fits k e (tail_at (log_at g x d g.c)) ∙ ap (λ (v : List ℕ). settled g y l k (tail_at v)) (log_alike d g.c seen))

    redo_alike : redo_of g x l ≡ redo_of g y l
    unfolding redo_of
    redo_alike = by (fits_image g (length x)) refl
      where
        by : (b : Bool) → fits_image g (length x) ≡ b
            → cond {A = Redo} (fits_image g (length x)) (decided g x l (lead_of g x l)) Nothing ≡ cond {A = Redo} (fits_image g (length y)) (decided g y l (lead_of g y l)) Nothing
        by true e =
            ap (λ (b : Bool). cond {A = Redo} b (decided g x l (lead_of g x l)) Nothing) e ∙ decided_alike e (lead_of g x l) ∙ ap (decided g y l) lead_alike
            ∙ sym (ap (λ (b : Bool). cond {A = Redo} b (decided g y l (lead_of g y l)) Nothing) (sym (fits_alike g absent x y h) ∙ e))
        by false e =
            ap (λ (b : Bool). cond {A = Redo} b (decided g x l (lead_of g x l)) Nothing) e ∙ sym (ap (λ (b : Bool). cond {A = Redo} b (decided g y l (lead_of g y l)) Nothing) (sym (fits_alike g absent x y h) ∙ e))

-- ---- taking a slot out

pub ready_alike : (s : State) (x y : List ℕ) → Alike (geometry_of s.now) s.absent x y → ready_of s.now s.kind s.absent x ≡ ready_of s.now s.kind s.absent y
unfolding ready_of
ready_alike s x y h =
    let l = s.now in
    ap₂ (λ (b : Bool) (p : ℕ → Bool). cond {A = Outcome} (has_shelf l s.kind) (cond b (cond (is_idle s.kind) (cond (all_of p (l.k + l.m)) (Ok tt) (Err NoLabel)) (Ok tt)) (Err BadImage)) (Err NotNow))
    (fits_alike (geometry_of l) s.absent x y h) (holding_alike (geometry_of l) s.absent x y h l)

-- TAKING A SLOT OUT answers the same and hands out the same state
pub out_blind : (s : State) (d room : ℕ) (x y : List ℕ) → Alike (geometry_of s.now) s.absent x y → take_out_of s d x room ≡ take_out_of s d y room
out_blind s d room x y h = ap (λ (o : Outcome). begun (first o (out_answer s.now (is_idle s.kind) s.absent d room)) (took_out s d)) (ready_alike s x y h)

-- ---- start-up

-- the label that start-up settles looks at no absent slot
next_dark : (g : Geometry) (img : List ℕ) (absent : ℕ) (p : Plan) → survey_of g img absent ≡ Ok p → (d : ℕ) → looked g p.next d ≡ true → in_mask absent d ≡ false
unfolding looked plainly_out plan_of next_of gone
next_dark g img absent p e d q = by (in_mask absent d) refl
  where
    below : d < g.n
    below = looked_below g p.next d q

    few : g.n ≤ most_n
    few = (fits_image_lem g img (survey_grounds g img absent p e).image_fits).0.few

    being : (o b : Bool) → o ≡ true → (ltb d g.n && not (o && not b)) ≡ true → b ≡ true
    being true true u v = refl
    being true false u v = absurd (false≢true (sym (ap (λ (t : Bool). t && false) (lt-ltb d g.n below)) ∙ v))
    being false b u v = absurd (false≢true u)

    r : ℕ
    r = p.lead.rebuilding

    rebuilt : p.next.rebuilding ≡ cond (gone g img absent p.lead r) no_slot r
    rebuilt = ap (λ (t : Plan). t.next.rebuilding) (survey_grounds g img absent p e).is

    never : in_mask absent d ≡ true → d ≡ p.next.rebuilding → ⊥
    never a u = go (gone g img absent p.lead r) refl
      where
        is_gone : d ≡ r → gone g img absent p.lead r ≡ true
        is_gone w = subst (λ (t : ℕ). gone g img absent p.lead t ≡ true) w (ap₂ (λ (b c : Bool). b && (c || stale g img absent p.lead d)) (lt-ltb d g.n below) a)

        go : (b : Bool) → gone g img absent p.lead r ≡ b → ⊥
        go true v = let w : d ≡ no_slot = u ∙ rebuilt ∙ ap (λ (b : Bool). cond b no_slot r) v in omega (arith, below, few)
        go false v = true≢false (sym (is_gone (u ∙ rebuilt ∙ ap (λ (b : Bool). cond b no_slot r) v)) ∙ v)

    by : (b : Bool) → in_mask absent d ≡ b → b ≡ false
    by true a = absurd (never a (eqb-true d p.next.rebuilding (being (in_mask p.next.out d) (eqb d p.next.rebuilding) ((plan_sound g img absent p e).absent_out d a) q)))
    by false a = refl

-- START-UP answers the same and hands out the same state
pub start_blind : (g : Geometry) (absent room : ℕ) (x y : List ℕ) → Alike g absent x y → start_of g absent x room ≡ start_of g absent y room
start_blind g absent room x y h =
    ap (λ (v : Survey). by_survey v g absent x room) (survey_same g x y absent absent alike) ∙ by (survey_of g y absent) refl
  where
    alike : plans.Alike g x y absent absent
    alike = record { lengths = h.lengths; absents = λ d i. refl; beyond = refl; sectors = λ d t i j e. read_alike g absent x y h d t e }

    by : (v : Survey) → survey_of g y absent ≡ v → by_survey v g absent x room ≡ by_survey v g absent y room
    by (Err why) e = refl
    by (Ok p) e =
        ap (λ (r : Redo). cond {A = Begun} (eqb room (work_bytes g.n g.c))
        (Ok (record { now = p.lead; next = p.next; absent = absent; epoch = p.next.generation; count = 0; marks = marks_by (slots_but absent g.n) p r; kind = Starting; cursor = record { stage = 0; slot = 0; sector = 0 } })) (Err BadBuffer))
        (redo_alike g absent x y h p.next (next_dark g y absent p e))
