-- THE PROMISE. Whatever happens, the host's view goes on as it is allowed to, and only so: `simulate` for each event, `promise` for any sequence of them.
use Prim.Native.Nat.{ℕ, suc, ◌+◌, ◌-◌, ◌≤◌, ◌<◌}
use Rattle.std.specs.Prelude.{◌≡◌, Bool, ◌&&◌, ◌||◌, ◌⊎◌, leb}
use Rattle.std.proofs.Math.Path.{refl, sym, ap, subst}
use Rattle.std.proofs.Common.{◌∙◌, true≢false, arith}
use Rattle.std.proofs.Math.Bool.{true, false, cond, not, false≢true, or-true}
use Rattle.std.proofs.Math.Logic.{⊎_elim, inl, inr}
use mathlib.Core.List.{List, [], ◌∷◌, ◌++◌, Memᴰ}
use Rattle.std.proofs.Math.Dec.{eqb, ltb}
use borrow.Author.Tests.{eq-eqb, ne_eqb, eqb-true, ltb-true, ltb-false, leb-true, leb-false, not-true}
use Rattle.protocol.specs.World.{Place, log, strip, slot, Image, World, Action, act, run, after, Possible, Sane, Always, During, sane_after, sane_act, sane_run, always_after, always_cur, always_map, during_map, during_start}
use Rattle.protocol.specs.Batch.{flushes, each_append, each_tail}
use Rattle.protocol.specs.Slots.{from, in_from, of_from, in_slots, every, every_of}
use Rattle.protocol.specs.Log.{Write, RecordCodec, Belief, Table, Wrote, Complete, Old, New, Quiet, within_self, Agrees, old_frame, new_frame}
use Rattle.protocol.specs.Write.{both, log_write, store, Mid}
use Rattle.protocol.specs.Redo.{decision}
use Rattle.protocol.specs.Label.{Label, again, plainly_out, Size, looked, believed, belief, Quorum, LabelCodec, Aged, round, Labels}
use Rattle.protocol.proofs.Label.{look_of, look_is, believe_of, believe_is}
use Rattle.protocol.specs.Startup.{Framed, without, Shelf, labelled, gone, stale, L, M, L_valid}
use Rattle.protocol.proofs.Startup.{without_narrow, without_gone, gone_absent, M_positive}
use Rattle.protocol.specs.Decide.{settled, startup, Accepted, quiet_framed, mid_framed, new_framed, Rest, Met}
use Rattle.protocol.proofs.Decide.{meets_shelf, base_below, start_quiet, start_mid, start_new, done_above}
use Rattle.protocol.specs.Request.{outed}
use Rattle.protocol.proofs.Request.{log_rest, store_rest, relabel}
use Rattle.protocol.proofs.Request as Request
use Rattle.protocol.specs.Rebuild.{begun, raised, healed, beginning, Keeps}
use Rattle.protocol.proofs.Rebuild.{begin_safe, on_safe}
use Rattle.protocol.specs.Spare.{Spares, flushes_spares, present_in}
use Rattle.protocol.proofs.Spare.{startup_spares, log_spares, store_spares, round_spares, begin_spares, fill_spares}
use Rattle.protocol.specs.Swap.{Swapped}
use Rattle.protocol.proofs.Swap.{rest_swap}
use Rattle.protocol.proofs.Blind.{startup_blind, settled_same, accepted_same, start_decision_same}
use Rattle.protocol.specs.Restart.{restart}
use Rattle.protocol.specs.Host.{Host, Finding, blames, unsound, all_sound, Change, replace, Code, table, missing, proper, read, read_through, rebuilt, write_of, whole_change}
use Rattle.protocol.proofs.Host.{scrub_believed, scrub_old, scrub_new, few_missing, reached_n, reached_broad, read_old, read_new, read_right, rebuilt_right, write_right}
use Rattle.protocol.specs.Program.{Stamps, Proper, Medium, NO_LABEL, TOO_FEW, BAD_BLOCK, BUSY, NOT_NOW, Verdict, clear, because, Test, first, Own, Kind, creating, starting, logging, storing, labelling, Memory, nothing, idle, doing, Input, create, start, read_block, write, take_out, begin, rebuild_on, scrub_stripe, repair, step, Reply, accepted, block, found, scrubbed, new_label, beyond, mask, flushed_first, left_out, created, asked_create, may_create, started, asked_start, may_start, ask_log, all_in, finding, change_made, all_believed, asked_write, asked_repair, also, may_repair, relabelled, told_to, asked_out, back_in, asked_begin, at_least_one, filling, asked_raise, asked_heal, last_batch, asked_on, generations_left, may, answer, from_nothing, from_idle, one_step, meanwhile, from_doing, unseen, program}
use Rattle.protocol.specs.Machine.{Machine, at, Event, swap, Outside, power_cut, program_dies, disk_swapped, Happens, from_outside, from_host, Runs, stays, goes, View, sure, open_write, kept_write, Goes, Views, same, next}
use Rattle.protocol.specs.Invariant.{Ghost, Under, Left, Pending, Pends, Off, Dark, Ready, Readable, Reads, Ends, Busy, Invariant}
use Rattle.protocol.specs.Promise.{is_clear, first_clear, yes_of, neither, beyond_in, beyond_none, proper_begun, proper_raised, proper_new, table_of, Next, Answers, in_present, start_list, Zeros, zeros_same, copy_zeros, everyone, first_label, create_list, seen_w, σ, v', wr, o', seen_o, create_tests}

either : (a b : Bool) → (a && not b) ≡ false → (a ≡ false) ⊎ (b ≡ true)
either true true q = inr refl
either true false q = absurd (true≢false q)
either false b q = inl refl

conj : (a b : Bool) → (a && not b) ≡ true → a ≡ true
conj true b q = refl
conj false b q = absurd (false≢true q)

-- labels stay proper
module _ (z : Size) where
  pub proper_without : (l : Label) (gone : ℕ → Bool) (g : ℕ) → ((d : ℕ) → z.n ≤ d → gone d ≡ false) → Proper z l → Proper z (without z.n l gone g)
  proper_without l gone g h p =
      record {
        inside = λ d i. rw (p.inside d i, h d i);
        slot_or_none = go1 (gone l.rebuilding);
        also_out = λ i. go2 (gone l.rebuilding) i;
        mark_T = go3 (gone l.rebuilding);
        unmarked = go4 (gone l.rebuilding);
      }
    where
      go1 : (b : Bool) → cond b z.n l.rebuilding ≤ z.n
      go1 true = omega arith
      go1 false = p.slot_or_none

      go2 : (b : Bool) → cond b z.n l.rebuilding < z.n → (l.out (cond b z.n l.rebuilding) || gone (cond b z.n l.rebuilding)) ≡ true
      go2 true i = absurd (omega arith)
      go2 false i = rw (p.also_out i)

      go3 : (b : Bool) → cond b 0 l.mark ≤ z.T
      go3 true = omega arith
      go3 false = p.mark_T

      go4 : (b : Bool) → cond b z.n l.rebuilding ≡ z.n → cond b 0 l.mark ≡ 0
      go4 true e = refl
      go4 false e = p.unmarked e

  proper_again : (l : Label) (g : ℕ) → Proper z l → Proper z (again l g)
  proper_again l g p = record { inside = p.inside; slot_or_none = p.slot_or_none; also_out = p.also_out; mark_T = p.mark_T; unmarked = p.unmarked }

  pub proper_healed : (l : Label) → Proper z l → Proper z (healed z.n l)
  proper_healed l p = record { inside = λ d i. rw (p.inside d i); slot_or_none = omega arith; also_out = λ j. absurd (omega arith); mark_T = omega arith; unmarked = λ e. refl }

module _ {X : Type 0} (z : Size) (W : Quorum z.n) (C : LabelCodec X z.n) (K : RecordCodec X) (E : Code X z.n K.c W) (S : Stamps) (R : Medium z W C K E S) where
  -- WHAT IS SEEN. On slots that are looked at the masked image is the image.
  pub mask_present : (A : ℕ → Bool) (f : Image X) (k : Place) → A (slot k) ≡ false → mask z W C K E S R A f k ≡ f k
  unfolding mask
  mask_present A f k e = rw e

  pub mask_agrees : (Q : Label) (A : ℕ → Bool) (f : Image X) → ((d : ℕ) → A d ≡ true → looked z Q d ≡ true → ⊥) → Agrees (belief z Q) f (mask z W C K E S R A f)
  unfolding belief
  mask_agrees Q A f dark = record { on_log = λ d j l. mask_present A f (log d j) (there d l); on_strip_lem = λ d t j l. mask_present A f (strip d t j) (there d l) }
    where
      there : (d : ℕ) → looked z Q d ≡ true → A d ≡ false
      there d l = go (A d) refl
        where
          go : (b : Bool) → A d ≡ b → A d ≡ false
          go true e = absurd (dark d e l)
          go false e = e

  pub quiet_seen : (history : ℕ → Write X) (u : ℕ) (s : Table X) (Q : Label) (A : ℕ → Bool) (f : Image X) → ((d : ℕ) → A d ≡ true → looked z Q d ≡ true → ⊥) → Quiet K (belief z Q) history u s f → Quiet K (belief z Q) history u s (mask z W C K E S R A f)
  unfolding Quiet
  quiet_seen history u s Q A f dark q = old_frame K (belief z Q) (belief z Q) history (within_self (belief z Q)) f (mask z W C K E S R A f) (mask_agrees Q A f dark) u 0 s q

  -- a refusal, or what is done otherwise
  verdict : (w : World X) (m : Memory X) (i : Input X) (p : View X) → Invariant z W C K E S R (at w m) p → (v : Verdict) (m' : Memory X) (r : Reply X) → (v ≡ clear → (Answers z W C K E S R) w (m', r) i p) → (Answers z W C K E S R) w (answer z W C K E S R m v m' r) i p
  unfolding Next
  verdict w m i p h clear m' r g = g refl
  verdict w m i p h (because why) m' r g = (p, refl, h)

  -- the stamps of a label's generation lie above all that were used before it
  epoch_grows : (o : Own) → o.epoch ≤ o.now.generation → (σ : ℕ) → σ < S.base (suc o.epoch) → σ < S.base (suc o.now.generation)
  epoch_grows o i σ j = omega (arith, S.grows (suc o.epoch) (suc o.now.generation) (omega arith))

  pub ready_early : (v : Host X) (w : World X) (o : Own) → (h : Ready z W C K E S R v w o) → h.u < S.base (suc o.now.generation)
  ready_early v w o h = epoch_grows o h.epoch_now h.u (omega (arith, h.used, h.early))

  -- READY AS LEFT BY A CUT
  pub ready_off : (v : Host X) (w : World X) (o : Own) → Sane w → Ready z W C K E S R v w o → Off z W C K E S R (sure v) w
  ready_off v w o sane h =
      record {
        sane = sane;
        ghost = record { history = h.history; u = h.u; base = o.now };
        early = ready_early v w o h;
        pends = tt;
        left = always_map (Rest z W C K h.history h.u o.now ((table_of z W C K E S R) v)) (Left z W C K E S R (record { history = h.history; u = h.u; base = o.now }) (sure v)) w
            (λ f r. record { Q = o.now; since = inl refl; N = o.now; top = o.now.generation; far = o.now.out; labels = r.labels; under_Q = r.quiet; under_N = r.quiet }) h.rest;
      }

  busy_off : (k : Kind X) (p : View X) (w : World X) (l : List (Action X)) (o o' : Own) → Busy z W C K E S R k p w l o o' → Off z W C K E S R p w
  busy_off k p w l o o' h = record { sane = h.sane; ghost = h.ghost; early = h.early; pends = h.pends; left = during_start (Left z W C K E S R h.ghost p) w l h.during }

  -- what a cut leaves
  pub off_cut : (p : View X) (w : World X) (f : Image X) → Possible w f → Off z W C K E S R p w → Off z W C K E S R p (after f)
  unfolding Always
  off_cut p w f q h = record { sane = sane_after f; ghost = h.ghost; early = h.early; pends = h.pends; left = always_after (Left z W C K E S R h.ghost p) f (h.left f q) }

  pub memory_off : (w : World X) (m : Memory X) (p : View X) → Invariant z W C K E S R (at w m) p → Off z W C K E S R p w
  memory_off w nothing p h = h
  memory_off w (idle o) (sure v) h = ready_off v w o h.0 h.1
  memory_off w (idle o) (open_write v v') h = absurd h
  memory_off w (idle o) (kept_write v') h = absurd h
  memory_off w (doing k l o o') p h = busy_off k p w l o o' h

  -- every present slot is flushed first, and no other
  pub in_flushed : (A : ℕ → Bool) (d : ℕ) → d < z.n → A d ≡ false → Memᴰ d (flushed_first z W C K E S R A)
  unfolding flushed_first
  in_flushed A d i a = (in_present z W C K E S R) A d i a

  flushed_present : (A : ℕ → Bool) (d : ℕ) → Memᴰ d (flushed_first z W C K E S R A) → A d ≡ false
  unfolding flushed_first
  flushed_present A d m = present_in z W C K A d m

  pub under_framed : (g : Ghost X) (p : View X) → Framed (Under z W C K E S R g p)
  under_framed g (sure v) = quiet_framed K g.history g.u ((table_of z W C K E S R) v)
  under_framed g (open_write v v') = mid_framed K g.history g.u ((table_of z W C K E S R) v) ((table_of z W C K E S R) v')
  under_framed g (kept_write v') = new_framed K g.history g.u ((table_of z W C K E S R) v')

  -- START-UP
  module _ (A : ℕ → Bool) (seen : Image X) (ok : may_start z W C K E S R A seen ≡ clear) where
    test1 : (not (labelled z C A seen) ≡ false) × (first (record { why = TOO_FEW; holds = not (W.few (left_out z W C K E S R A seen)) } ∷ record { why = NOT_NOW; holds = not (leb (suc (suc (M z C A seen))) R.greatest) } ∷ []) ≡ clear)
    test1 = first_clear (record { why = NO_LABEL; holds = not (labelled z C A seen) }) (record { why = TOO_FEW; holds = not (W.few (left_out z W C K E S R A seen)) } ∷ record { why = NOT_NOW; holds = not (leb (suc (suc (M z C A seen))) R.greatest) } ∷ []) ok

    test2 : (not (W.few (left_out z W C K E S R A seen)) ≡ false) × (first (record { why = NOT_NOW; holds = not (leb (suc (suc (M z C A seen))) R.greatest) } ∷ []) ≡ clear)
    test2 = first_clear (record { why = TOO_FEW; holds = not (W.few (left_out z W C K E S R A seen)) }) (record { why = NOT_NOW; holds = not (leb (suc (suc (M z C A seen))) R.greatest) } ∷ []) test1.1

    enough : W.few (λ d. (L z C A seen).out d || gone z C A seen d) ≡ true
    unfolding left_out
    enough = yes_of (W.few (left_out z W C K E S R A seen)) test2.0

    room : suc (suc (M z C A seen)) ≤ R.greatest
    room = leb-true (suc (suc (M z C A seen))) R.greatest (yes_of (leb (suc (suc (M z C A seen))) R.greatest) (first_clear (record { why = NOT_NOW; holds = not (leb (suc (suc (M z C A seen))) R.greatest) }) [] test2.1).0)

    some : 0 < M z C A seen
    some = M_positive z W C A seen (yes_of (labelled z C A seen) test1.0) (W.part (gone z C A seen) (λ d. (L z C A seen).out d || gone z C A seen d) (λ d i e. rw (e, or-true)) enough)

    gone_n : (d : ℕ) → z.n ≤ d → gone z C A seen d ≡ false
    unfolding gone
    gone_n d i = go (ltb d z.n) refl
      where
        go : (b : Bool) → ltb d z.n ≡ b → (b && (A d || stale z C A seen d)) ≡ false
        go true e = absurd (omega (arith, ltb-true d z.n e))
        go false e = refl

    proper_L : Proper z (L z C A seen)
    proper_L = (R.is_proper (L z C A seen) (L_valid z W C A seen some).1).0

    proper_settled : (g : ℕ) → Proper z (without z.n (L z C A seen) (gone z C A seen) g)
    proper_settled g = proper_without z (L z C A seen) (gone z C A seen) g gone_n proper_L

    pub accept : Accepted z W C A seen
    accept =
        record {
          enough = enough;
          labels_there = yes_of (labelled z C A seen) test1.0;
          fits1 = R.fits (again (L z C A seen) (suc (M z C A seen))) (proper_again z (L z C A seen) (suc (M z C A seen)) proper_L) (omega arith) (omega (arith, room));
          fits1' = R.fits (without z.n (L z C A seen) (gone z C A seen) (suc (M z C A seen))) (proper_settled (suc (M z C A seen))) (omega arith) (omega (arith, room));
          fits2 = R.fits (settled z C K A seen) (proper_settled (suc (suc (M z C A seen)))) (omega arith) room;
        }

    -- f is on the present slots what is seen
    module _ (f : Image X) (agree : (k : Place) → A (slot k) ≡ false → seen k ≡ f k) where
      pub alike : startup z C K A f ≡ startup z C K A seen
      alike = sym (startup_blind z W C K A seen f agree some)

      pub same_label_lem : settled z C K A f ≡ settled z C K A seen
      same_label_lem = sym (settled_same z W C K A seen f agree some)

      pub accept_f : Accepted z W C A f
      accept_f = accepted_same z W C K A seen f agree some accept

      moved : (P : Image X → Type 0) (history : ℕ → Write X) (u : ℕ) (s : Table X) → During (after f) (startup z C K A f) P × Always (run (after f) (startup z C K A f)) (Rest z W C K history u (settled z C K A f) s) → During (after f) (startup z C K A seen) P × Always (run (after f) (startup z C K A seen)) (Rest z W C K history u (settled z C K A seen) s)
      moved P history u s y =
          let x = subst (λ (l : List (Action X)). During (after f) l P × Always (run (after f) l) (Rest z W C K history u (settled z C K A f) s)) alike y in
          (x.0, subst (λ (q : Label). Always (run (after f) (startup z C K A seen)) (Rest z W C K history u q s)) same_label_lem x.1)

    pub spared : Spares A (flushes (flushed_first z W C K E S R A) ++ startup z C K A seen)
    spared = each_append (λ k. A (slot k) ≡ false) (λ d. A d ≡ false) (flushes (flushed_first z W C K E S R A)) (startup z C K A seen) (flushes_spares z W C K A (flushed_first z W C K E S R A) (flushed_present A)) (startup_spares z W C K A seen)

    dark_start : Dark z W C K E S R (started z W C K E S R A seen)
    dark_start d a h = true≢false (sym a ∙ gone_absent z W C A seen d (look_of z (settled z C K A seen) d h).0 (without_gone z (L z C A seen) (gone z C A seen) (suc (suc (M z C A seen))) d h))

    -- ready, when the log is decided
    start_ready : (g : Ghost X) → g.u < S.base (suc g.base.generation) → g.base.generation < (settled z C K A seen).generation → (v : Host X) (w : World X) → Always w (Rest z W C K g.history g.u (settled z C K A seen) ((table_of z W C K E S R) v)) → Ready z W C K E S R v w (started z W C K E S R A seen)
    start_ready g early above v w r =
        record {
          history = g.history;
          u = g.u;
          used = omega (arith, early, S.grows (suc g.base.generation) (settled z C K A seen).generation above);
          early = S.rises (settled z C K A seen).generation;
          born = omega arith;
          epoch_now = omega arith;
          sound = proper_settled (suc (suc (M z C A seen)));
          most = room;
          rest = r;
          dark = dark_start;
        }

    module _ (w : World X) (agree : (k : Place) → A (slot k) ≡ false → seen k ≡ w.cur k) (inside : (d : ℕ) → A d ≡ false → d < z.n) where
      all_present : (k : Place) → A (slot k) ≡ false → Memᴰ (slot k) (flushed_first z W C K E S R A)
      all_present k a = in_flushed A (slot k) (inside (slot k) a) a

      to_f : (f : Image X) → ((k : Place) → A (slot k) ≡ false → f k ≡ w.cur k) → (k : Place) → A (slot k) ≡ false → seen k ≡ f k
      to_f f h k a = agree k a ∙ sym (h k a)

      -- START-UP ON WHAT IT MEETS. P: what is known of whatever a cut leaves; from it follows what start-up has to meet (`Met`), and then P holds all the while
      module _ (g : Ghost X) (P : Image X → Type 0) (sane : Sane w) (early : g.u < S.base (suc g.base.generation)) (left : Always w P) where
        abbrev pub Meets : (Belief → Image X → Type 0) → Type 0
        Meets D = (f : Image X) → Possible w f → ((k : Place) → A (slot k) ≡ false → f k ≡ w.cur k) → Accepted z W C A f → P f → Met z W C K A g.base D P f

        above : (D : Belief → Image X → Type 0) → Framed D → Meets D → g.base.generation < (settled z C K A seen).generation
        unfolding Sane
        above D fr m =
            let ok = accept_f w.cur agree in
            subst (λ (q : Label). g.base.generation < q.generation) (same_label_lem w.cur agree) (done_above z W C K g.history A w.cur ok g.base D fr P (m w.cur sane (λ k a. refl) ok (always_cur P w sane left)))

        -- from any such f to the world with its caches
        from_here : (s : Table X) → ((f : Image X) → Possible w f → ((k : Place) → A (slot k) ≡ false → f k ≡ w.cur k) → P f → During (after f) (startup z C K A f) P × Always (run (after f) (startup z C K A f)) (Rest z W C K g.history g.u (settled z C K A f) s)) → During w (start_list z W C K E S R A seen ok w agree inside) P × Always (run w (start_list z W C K E S R A seen ok w agree inside)) (Rest z W C K g.history g.u (settled z C K A seen) s)
        from_here s h =
            restart A P (Rest z W C K g.history g.u (settled z C K A seen) s) (flushed_first z W C K E S R A) (startup z C K A seen) (startup_spares z W C K A seen) all_present w sane left
            (λ f q a x. moved f (to_f f a) P g.history g.u s (h f q a x))

        -- the write that was under way is decided from what is seen
        decided : (v v' : Host X) → g.base.generation < (settled z C K A seen).generation → (y : Bool) → Always (run w (start_list z W C K E S R A seen ok w agree inside)) (Rest z W C K g.history g.u (settled z C K A seen) (cond y ((table_of z W C K E S R) v') ((table_of z W C K E S R) v))) → Ready z W C K E S R v (run w (start_list z W C K E S R A seen ok w agree inside)) (started z W C K E S R A seen) ⊎ Ready z W C K E S R v' (run w (start_list z W C K E S R A seen ok w agree inside)) (started z W C K E S R A seen)
        decided v v' up true r = inr (start_ready g early up v' (run w (start_list z W C K E S R A seen ok w agree inside)) r)
        decided v v' up false r = inl (start_ready g early up v (run w (start_list z W C K E S R A seen ok w agree inside)) r)

        pub start_safe : (p : View X) → Pends z W C K E S R g p → Meets (Under z W C K E S R g p) → During w (start_list z W C K E S R A seen ok w agree inside) P × Ends z W C K E S R g starting p (run w (start_list z W C K E S R A seen ok w agree inside)) (started z W C K E S R A seen) (started z W C K E S R A seen)
        start_safe (sure v) b m =
            let r = from_here ((table_of z W C K E S R) v) (λ f q a x. let ok = accept_f f (to_f f a) in start_quiet z W C K g.history A f ok g.base g.u P ((table_of z W C K E S R) v) (m f q a ok x)) in
            (r.0, start_ready g early (above (Under z W C K E S R g (sure v)) (quiet_framed K g.history g.u ((table_of z W C K E S R) v)) m) v (run w (start_list z W C K E S R A seen ok w agree inside)) r.1)
        start_safe (open_write v v') b m =
            let yes = decision K (belief z (settled z C K A seen)) seen g.u in
            let r = from_here (cond yes ((table_of z W C K E S R) v') ((table_of z W C K E S R) v)) (λ f q a x.
            let ok = accept_f f (to_f f a) in
            subst (λ (y : Bool). During (after f) (startup z C K A f) P × Always (run (after f) (startup z C K A f)) (Rest z W C K g.history g.u (settled z C K A f) (cond y ((table_of z W C K E S R) v') ((table_of z W C K E S R) v)))) (sym (start_decision_same z W C K A seen f (to_f f a) some g.u b.pos))
            (start_mid z W C K g.history A f ok g.base g.u P b.pos b.inside b.broad ((table_of z W C K E S R) v) ((table_of z W C K E S R) v') b.wrote (m f q a ok x))) in
            (r.0, decided v v' (above (Under z W C K E S R g (open_write v v')) (mid_framed K g.history g.u ((table_of z W C K E S R) v) ((table_of z W C K E S R) v')) m) yes r.1)
        start_safe (kept_write v') b m =
            let r = from_here ((table_of z W C K E S R) v') (λ f q a x. let ok = accept_f f (to_f f a) in start_new z W C K g.history A f ok g.base g.u P b.1.pos b.1.inside b.1.broad ((table_of z W C K E S R) v') (m f q a ok x)) in
            (r.0, start_ready g early (above (Under z W C K E S R g (kept_write v')) (new_framed K g.history g.u ((table_of z W C K E S R) v')) m) v' (run w (start_list z W C K E S R A seen ok w agree inside)) r.1)

      start_any : (p : View X) → Off z W C K E S R p w → Busy z W C K E S R starting p w (start_list z W C K E S R A seen ok w agree inside) (started z W C K E S R A seen) (started z W C K E S R A seen)
      start_any p h =
          let g = h.ghost in
          let D = Under z W C K E S R g p in
          let r = start_safe g (Left z W C K E S R g p) h.sane h.early h.left p h.pends (λ f q a ok x. meets_shelf z W C K g.history A f ok g.base D (under_framed g p) x) in
          record { sane = h.sane; ghost = g; based = tt; early = h.early; pends = h.pends; during = r.0; ends = r.1; spares = spared; reads = tt }

  -- nothing was ever settled there
  zeros_unborn : (f : Image X) (base : Label) (D : Belief → Image X → Type 0) → (Zeros z W C K E S R) f → Shelf z W C base D f → (base.generation ≡ 0) × (W.few base.out ≡ true)
  unfolding Aged
  zeros_unborn f base D h s =
      let y = W.meet s.Q.out s.Q.out s.labels.few_Q s.labels.few_Q in
      let a = s.labels.low y.0 y.1 y.2 in
      let none : s.Q.generation ≡ 0 = omega (arith, a.1, (copy_zeros z W C K E S R) f h y.0 a.0 y.1) in
      (omega (arith, base_below z W C base D f s), ⊎_elim (λ q. subst (λ (l : Label). W.few l.out ≡ true) q s.labels.few_Q) (λ i. absurd (omega arith)) s.since)

  -- and the list is zeros
  zeros_table : (f : Image X) (history : ℕ → Write X) (u : ℕ) (e : Label) (v : Host X) → (Zeros z W C K E S R) f → Shelf z W C e (λ B g. Quiet K B history u ((table_of z W C K E S R) v) g) f → (t d j : ℕ) → d < z.n → t < z.T → j < K.c → (table_of z W C K E S R) v t d j ≡ K.zeros
  unfolding table read
  zeros_table f history u e v h s t d j i a c =
      E.shard_same t (v t) (λ x y. K.zeros) (λ x y p q. sym (read_right z W K E history u Q v f few s.under_Q t x y a p q) ∙ E.back t (missing z W K E Q t) (λ x y. K.zeros) (λ d l. f (strip d t l)) (few_missing z W K E Q t a few) (λ d l n m g. h.strips d t l n a g ∙ sym (R.zeros_shard t d l n g)) x y p q) d j i c
      ∙ R.zeros_shard t d j i c
    where
      Q : Label
      Q = s.Q

      few : W.few Q.out ≡ true
      few = s.labels.few_Q

  zeros_quiet : (f : Image X) (history : ℕ → Write X) (u : ℕ) (s : Table X) (Q : Label) → (Zeros z W C K E S R) f → ((t d j : ℕ) → d < z.n → t < z.T → j < K.c → s t d j ≡ K.zeros) → Quiet K (belief z Q) history u s f
  unfolding Quiet belief Complete
  zeros_quiet f history u s Q h e =
      record {
        logs = record {
          real = λ d j τ a b p. absurd (omega (arith, p, stampless d j (below d a) b));
          old = λ d j a b. omega (arith, stampless d j (below d a) b);
          inside = λ d τ a p. absurd (omega (arith, p K.c (omega arith), stampless d K.c (below d a) (omega arith)));
        };
        strips = λ d t j a b. let p = believe_of z Q d t a in h.strips d t j p.0 p.1 b ∙ sym (e t d j p.0 p.1 b);
        records = λ d τ a p. absurd (omega (arith, p K.c (omega arith), stampless d K.c (below d a) (omega arith)));
      }
    where
      below : (d : ℕ) → looked z Q d ≡ true → d < z.n
      below d a = (look_of z Q d a).0

      stampless : (d j : ℕ) → d < z.n → j ≤ K.c → K.stamp (f (log d j)) ≡ 0
      stampless d j i b = ap K.stamp (h.logs d j i b) ∙ K.stamp_zeros

  zeros_labels : (f : Image X) (Q : Label) → (Zeros z W C K E S R) f → Q.generation ≡ 0 → W.few Q.out ≡ true → Labels z W C Q Q Q.generation Q.out f
  unfolding Aged
  zeros_labels f Q h none few =
      record {
        few_Q = few;
        few_far = few;
        low = λ d i e. (true, omega arith);
        cap = λ d b i. omega (arith, (copy_zeros z W C K E S R) f h d b i);
        near = λ d g i e j. absurd (omega arith);
        fine = λ d b i p j. absurd (omega (arith, (copy_zeros z W C K E S R) f h d b i, p));
      }

  -- THE BEGINNING: any image of zeros holds the list of zeros
  pub zeros_off : (w : World X) → Sane w → W.few (λ d. false) ≡ true → Always w (Zeros z W C K E S R) → Off z W C K E S R (sure (λ t i j. K.zeros)) w
  unfolding table
  zeros_off w sane few h =
      record {
        sane = sane;
        ghost = record { history = none; u = 0; base = new_label z.n 0 };
        early = omega (arith, S.rises 0);
        pends = tt;
        left = always_map (Zeros z W C K E S R) (Left z W C K E S R (record { history = none; u = 0; base = new_label z.n 0 }) (sure (λ t i j. K.zeros))) w
            (λ f o. let q = zeros_quiet f none 0 ((table_of z W C K E S R) (λ t i j. K.zeros)) (new_label z.n 0) o (λ t d j i a c. R.zeros_shard t d j i c) in record { Q = new_label z.n 0; since = inl refl; N = new_label z.n 0; top = 0; far = λ d. false; labels = zeros_labels f (new_label z.n 0) o refl few; under_Q = q; under_N = q }) h;
      }
    where
      none : ℕ → Write X
      none τ = record { stripe = 0; changes = λ d. false; new = λ d j. K.zeros }

  module _ (w : World X) (h0 : (Zeros z W C K E S R) w.cur) (room : 1 ≤ R.greatest) where
    -- the first round, on zeros
    pub from_zeros : (f : Image X) (v : Host X) (history : ℕ → Write X) (u : ℕ) (Q0 : Label) → Q0.generation ≡ 0 → W.few Q0.out ≡ true → W.few (λ d. false) ≡ true → (Zeros z W C K E S R) f → ((t d j : ℕ) → d < z.n → t < z.T → j < K.c → (table_of z W C K E S R) v t d j ≡ K.zeros) → During (after f) (round C (first_label z W C K E S R w h0 room) (everyone z W C K E S R w h0 room)) (Shelf z W C Q0 (λ B g. Quiet K B history u ((table_of z W C K E S R) v) g)) × Always (run (after f) (round C (first_label z W C K E S R w h0 room) (everyone z W C K E S R w h0 room))) (Rest z W C K history u (first_label z W C K E S R w h0 room) ((table_of z W C K E S R) v))
    from_zeros f v history u Q0 none few0 few zf zt =
        let D : Belief → Image X → Type 0 = λ B g. Quiet K B history u ((table_of z W C K E S R) v) g in
        let y = relabel z W C K history u ((table_of z W C K E S R) v) Q0 (first_label z W C K E S R w h0 room) (everyone z W C K E S R w h0 room) (omega (arith, none)) few (R.fits (first_label z W C K E S R w h0 room) (proper_new z 1) (omega arith) room) (λ d i o. in_from z.n 0 d (omega arith) (omega arith)) (after f) (sane_after f)
        (always_after (λ g. Rest z W C K history u Q0 ((table_of z W C K E S R) v) g × D (belief z (first_label z W C K E S R w h0 room)) g) f (record { labels = zeros_labels f Q0 zf none few0; quiet = zeros_quiet f history u ((table_of z W C K E S R) v) Q0 zf zt }, zeros_quiet f history u ((table_of z W C K E S R) v) (first_label z W C K E S R w h0 room) zf zt)) in
        (during_map (λ g. Shelf z W C Q0 D g × D (belief z Q0) g) (Shelf z W C Q0 D) (after f) (round C (first_label z W C K E S R w h0 room) (everyone z W C K E S R w h0 room)) (λ g o. o.0) y.0, y.1)

    create_sure : (v : Host X) → Off z W C K E S R (sure v) w → Busy z W C K E S R creating (sure v) w (create_list z W C K E S R w h0 room) (created z W C K E S R) (created z W C K E S R)
    create_sure v h =
        let g = h.ghost in
        let A = beyond z.n (λ d. false) in
        let P = Left z W C K E S R g (sure v) in
        let Z = Rest z W C K g.history g.u (first_label z W C K E S R w h0 room) ((table_of z W C K E S R) v) in
        let x = always_cur P w h.sane h.left in
        let born = zeros_unborn w.cur g.base (λ B f. Quiet K B g.history g.u ((table_of z W C K E S R) v) f) h0 x in
        let few : W.few (λ d. false) ≡ true = W.part (λ d. false) g.base.out (λ d i q. absurd (false≢true q)) born.1 in
        let zt = zeros_table w.cur g.history g.u g.base v h0 x in
        let r = restart A P Z (flushed_first z W C K E S R A) (round C (first_label z W C K E S R w h0 room) (everyone z W C K E S R w h0 room)) (round_spares z W C K A (first_label z W C K E S R w h0 room) (everyone z W C K E S R w h0 room) (λ d m. beyond_none z.n d (omega (arith, of_from z.n 0 d m)))) (λ k a. in_flushed A (slot k) (beyond_in z.n (λ d. false) (slot k) a) a) w h.sane h.left
        (λ f q a y. let zf = (zeros_same z W C K E S R) w.cur f (λ k i. a k (beyond_none z.n (slot k) i)) h0 in from_zeros f v g.history g.u g.base born.0 born.1 few zf zt) in
        record {
          sane = h.sane;
          ghost = g;
          based = tt;
          early = h.early;
          pends = tt;
          during = r.0;
          ends = record {
            history = g.history;
            u = g.u;
            used = omega (arith, h.early, S.grows (suc g.base.generation) 1 (omega (arith, born.0)));
            early = S.rises 1;
            born = omega arith;
            epoch_now = omega arith;
            sound = proper_new z 1;
            most = room;
            rest = r.1;
            dark = λ d a l. true≢false (sym a ∙ beyond_none z.n d (look_of z (first_label z W C K E S R w h0 room) d l).0);
          };
          spares = each_append (λ k. A (slot k) ≡ false) (λ d. A d ≡ false) (flushes (flushed_first z W C K E S R A)) (round C (first_label z W C K E S R w h0 room) (everyone z W C K E S R w h0 room)) (flushes_spares z W C K A (flushed_first z W C K E S R A) (flushed_present A)) (round_spares z W C K A (first_label z W C K E S R w h0 room) (everyone z W C K E S R w h0 room) (λ d m. beyond_none z.n d (omega (arith, of_from z.n 0 d m))));
          reads = tt;
        }

    pub create_any : (p : View X) → Off z W C K E S R p w → Busy z W C K E S R creating p w (create_list z W C K E S R w h0 room) (created z W C K E S R) (created z W C K E S R)
    create_any (sure v) h = create_sure v h
    create_any (open_write v v') h = absurd (omega (arith, h.pends.born, (zeros_unborn w.cur h.ghost.base (λ B f. Mid K B h.ghost.history h.ghost.u ((table_of z W C K E S R) v) ((table_of z W C K E S R) v') f) h0 (always_cur (Left z W C K E S R h.ghost (open_write v v')) w h.sane h.left)).0))
    create_any (kept_write v') h = absurd (omega (arith, h.pends.1.born, (zeros_unborn w.cur h.ghost.base (λ B f. New K B h.ghost.history h.ghost.u ((table_of z W C K E S R) v') f) h0 (always_cur (Left z W C K E S R h.ghost (kept_write v')) w h.sane h.left)).0))

  -- WRITE
  module _ (v : Host X) (w : World X) (o : Own) (sane : Sane w) (h : Ready z W C K E S R v w o) where
    here : Rest z W C K h.history h.u o.now ((table_of z W C K E S R) v) w.cur
    here = always_cur (Rest z W C K h.history h.u o.now ((table_of z W C K E S R) v)) w sane h.rest

    few_now : W.few o.now.out ≡ true
    few_now = here.labels.few_Q

    fits_now : C.Fits o.now
    fits_now = R.fits o.now h.sound (omega (arith, h.born, h.epoch_now)) h.most

    readable : Readable z W C K E S R o
    readable = record { few = few_now; dark = h.dark }

    -- the list, as it is seen
    seen_quiet : (A : ℕ → Bool) → ((d : ℕ) → A d ≡ true → looked z o.now d ≡ true → ⊥) → Quiet K (belief z o.now) h.history h.u ((table_of z W C K E S R) v) (mask z W C K E S R A w.cur)
    seen_quiet A dark = quiet_seen h.history h.u ((table_of z W C K E S R) v) o.now A w.cur dark here.quiet

    module _ (t : ℕ) (ch : Change X) (in_t : t < z.T) (fine : proper z W K E ch ≡ true) (room : suc o.count < S.base (suc o.epoch)) where
      history' : ℕ → Write X
      history' τ = cond (eqb τ (σ z W C K E S R v w o sane h t ch in_t fine room)) (wr z W C K E S R v w o sane h t ch in_t fine room) (h.history τ)

      at_σ : history' (σ z W C K E S R v w o sane h t ch in_t fine room) ≡ (wr z W C K E S R v w o sane h t ch in_t fine room)
      unfolding history'
      at_σ = rw (eq-eqb (suc o.count) (suc o.count) refl)

      below : (τ : ℕ) → τ ≤ h.u → h.history τ ≡ history' τ
      unfolding history'
      below τ q = rw (ne_eqb τ (suc o.count) (λ e. omega (arith, h.used)))

      g : Ghost X
      g = record { history = history'; u = (σ z W C K E S R v w o sane h t ch in_t fine room); base = o.now }

      wrote : Wrote z.n K.c (wr z W C K E S R v w o sane h t ch in_t fine room) ((table_of z W C K E S R) v) ((table_of z W C K E S R) (v' z W C K E S R v w o sane h t ch in_t fine room))
      wrote = write_right z W K E h.history h.u o.now v (seen_w z W C K E S R v w o sane h t ch in_t fine room) few_now (seen_quiet o.absent h.dark) t ch in_t

      fits : K.Fits (σ z W C K E S R v w o sane h t ch in_t fine room) (wr z W C K E S R v w o sane h t ch in_t fine room)
      unfolding write_of
      fits = R.fits_record (σ z W C K E S R v w o sane h t ch in_t fine room) (wr z W C K E S R v w o sane h t ch in_t fine room) (omega (arith, S.grows (suc o.epoch) (suc R.greatest) (omega (arith, h.epoch_now, h.most)))) in_t (reached_n z W K E t ch)

      pending : Pending z W C K E S R g v (v' z W C K E S R v w o sane h t ch in_t fine room)
      unfolding write_of g
      pending = record { pos = omega arith; born = omega (arith, h.born, h.epoch_now); wrote = rw at_σ wrote; inside = rw at_σ in_t; broad = rw at_σ (reached_broad z W K E t ch fine) }

      P : Image X → Type 0
      P f = Labels z W C o.now o.now o.now.generation o.now.out f

      B : Belief
      B = belief z o.now

      logged : During w (log_write K B (σ z W C K E S R v w o sane h t ch in_t fine room) (wr z W C K E S R v w o sane h t ch in_t fine room)) (λ f. P f × Old K B history' (σ z W C K E S R v w o sane h t ch in_t fine room) (σ z W C K E S R v w o sane h t ch in_t fine room) ((table_of z W C K E S R) v) f) × Always (run w (log_write K B (σ z W C K E S R v w o sane h t ch in_t fine room) (wr z W C K E S R v w o sane h t ch in_t fine room))) (λ f. P f × New K B history' (σ z W C K E S R v w o sane h t ch in_t fine room) ((table_of z W C K E S R) (v' z W C K E S R v w o sane h t ch in_t fine room)) f)
      unfolding P B
      logged =
          subst (λ (y : Write X). During w (log_write K B (σ z W C K E S R v w o sane h t ch in_t fine room) y) (λ f. P f × Old K B history' (σ z W C K E S R v w o sane h t ch in_t fine room) (σ z W C K E S R v w o sane h t ch in_t fine room) ((table_of z W C K E S R) v) f) × Always (run w (log_write K B (σ z W C K E S R v w o sane h t ch in_t fine room) y)) (λ f. P f × New K B history' (σ z W C K E S R v w o sane h t ch in_t fine room) ((table_of z W C K E S R) (v' z W C K E S R v w o sane h t ch in_t fine room)) f)) at_σ
          (log_rest z W C K h.history history' h.u (σ z W C K E S R v w o sane h t ch in_t fine room) ((table_of z W C K E S R) v) ((table_of z W C K E S R) (v' z W C K E S R v w o sane h t ch in_t fine room)) o.now (omega (arith, h.used)) below (rw at_σ wrote) (rw at_σ fits) w sane h.rest)

      w1 : World X
      w1 = run w (log_write K B (σ z W C K E S R v w o sane h t ch in_t fine room) (wr z W C K E S R v w o sane h t ch in_t fine room))

      stored : During w1 (store K B (wr z W C K E S R v w o sane h t ch in_t fine room).stripe (wr z W C K E S R v w o sane h t ch in_t fine room).changes (wr z W C K E S R v w o sane h t ch in_t fine room).new) (λ f. P f × New K B history' (σ z W C K E S R v w o sane h t ch in_t fine room) ((table_of z W C K E S R) (v' z W C K E S R v w o sane h t ch in_t fine room)) f) × Always (run w1 (store K B (wr z W C K E S R v w o sane h t ch in_t fine room).stripe (wr z W C K E S R v w o sane h t ch in_t fine room).changes (wr z W C K E S R v w o sane h t ch in_t fine room).new)) (Rest z W C K history' (σ z W C K E S R v w o sane h t ch in_t fine room) o.now ((table_of z W C K E S R) (v' z W C K E S R v w o sane h t ch in_t fine room)))
      unfolding P B w1
      stored =
          subst (λ (y : Write X). During w1 (store K B y.stripe y.changes y.new) (λ f. P f × New K B history' (σ z W C K E S R v w o sane h t ch in_t fine room) ((table_of z W C K E S R) (v' z W C K E S R v w o sane h t ch in_t fine room)) f) × Always (run w1 (store K B y.stripe y.changes y.new)) (Rest z W C K history' (σ z W C K E S R v w o sane h t ch in_t fine room) o.now ((table_of z W C K E S R) (v' z W C K E S R v w o sane h t ch in_t fine room)))) at_σ
          (store_rest z W C K history' (σ z W C K E S R v w o sane h t ch in_t fine room) ((table_of z W C K E S R) v) ((table_of z W C K E S R) (v' z W C K E S R v w o sane h t ch in_t fine room)) o.now (rw at_σ wrote) w1 (sane_run w (log_write K B (σ z W C K E S R v w o sane h t ch in_t fine room) (wr z W C K E S R v w o sane h t ch in_t fine room)) sane) logged.1)

      write_busy : Busy z W C K E S R (logging (wr z W C K E S R v w o sane h t ch in_t fine room)) (open_write v (v' z W C K E S R v w o sane h t ch in_t fine room)) w (log_write K (belief z o.now) (σ z W C K E S R v w o sane h t ch in_t fine room) (wr z W C K E S R v w o sane h t ch in_t fine room)) o (o' z W C K E S R v w o sane h t ch in_t fine room)
      unfolding P B w1 g Mid
      write_busy =
          record {
            sane = sane;
            ghost = g;
            based = refl;
            early = epoch_grows o h.epoch_now (σ z W C K E S R v w o sane h t ch in_t fine room) room;
            pends = pending;
            during = during_map (λ f. P f × Old K B history' (σ z W C K E S R v w o sane h t ch in_t fine room) (σ z W C K E S R v w o sane h t ch in_t fine room) ((table_of z W C K E S R) v) f) (Left z W C K E S R g (open_write v (v' z W C K E S R v w o sane h t ch in_t fine room))) w (log_write K B (σ z W C K E S R v w o sane h t ch in_t fine room) (wr z W C K E S R v w o sane h t ch in_t fine room)) (λ f y. record { Q = o.now; since = inl refl; N = o.now; top = o.now.generation; far = o.now.out; labels = y.0; under_Q = inl y.1; under_N = inl y.1 }) logged.0;
            ends = record {
              during = during_map (λ f. P f × New K B history' (σ z W C K E S R v w o sane h t ch in_t fine room) ((table_of z W C K E S R) (v' z W C K E S R v w o sane h t ch in_t fine room)) f) (Left z W C K E S R g (kept_write (v' z W C K E S R v w o sane h t ch in_t fine room))) w1 (store K B (wr z W C K E S R v w o sane h t ch in_t fine room).stripe (wr z W C K E S R v w o sane h t ch in_t fine room).changes (wr z W C K E S R v w o sane h t ch in_t fine room).new) (λ f y. record { Q = o.now; since = inl refl; N = o.now; top = o.now.generation; far = o.now.out; labels = y.0; under_Q = y.1; under_N = y.1 }) stored.0;
              ends = record { history = history'; u = (σ z W C K E S R v w o sane h t ch in_t fine room); used = omega arith; early = room; born = h.born; epoch_now = h.epoch_now; sound = h.sound; most = h.most; rest = stored.1; dark = h.dark };
              spares = store_spares z W C K o.absent o.now h.dark (wr z W C K E S R v w o sane h t ch in_t fine room).stripe (wr z W C K E S R v w o sane h t ch in_t fine room).changes (wr z W C K E S R v w o sane h t ch in_t fine room).new;
              reads = (readable, at_σ, during_map (λ f. P f × New K B history' (σ z W C K E S R v w o sane h t ch in_t fine room) ((table_of z W C K E S R) (v' z W C K E S R v w o sane h t ch in_t fine room)) f) (New K B history' (σ z W C K E S R v w o sane h t ch in_t fine room) ((table_of z W C K E S R) (v' z W C K E S R v w o sane h t ch in_t fine room))) w1 (store K B (wr z W C K E S R v w o sane h t ch in_t fine room).stripe (wr z W C K E S R v w o sane h t ch in_t fine room).changes (wr z W C K E S R v w o sane h t ch in_t fine room).new) (λ f y. y.1) stored.0);
            };
            spares = log_spares z W C K o.absent o.now h.dark (σ z W C K E S R v w o sane h t ch in_t fine room) (wr z W C K E S R v w o sane h t ch in_t fine room);
            reads = (readable, during_map (λ f. P f × Old K B history' (σ z W C K E S R v w o sane h t ch in_t fine room) (σ z W C K E S R v w o sane h t ch in_t fine room) ((table_of z W C K E S R) v) f) (Old K B history' (σ z W C K E S R v w o sane h t ch in_t fine room) (σ z W C K E S R v w o sane h t ch in_t fine room) ((table_of z W C K E S R) v)) w (log_write K B (σ z W C K E S R v w o sane h t ch in_t fine room) (wr z W C K E S R v w o sane h t ch in_t fine room)) (λ f y. y.1) logged.0);
          }

    -- LABEL CHANGES
    label_busy : (l : List (Action X)) (o' : Own) → o'.count ≡ o.count → o'.epoch ≡ o.epoch → o'.now.generation ≡ suc o.now.generation → o'.now.generation ≤ R.greatest → Proper z o'.now → Dark z W C K E S R o' → Spares o'.absent l → During w l (Keeps z W C K h.history h.u ((table_of z W C K E S R) v) o.now) × Always (run w l) (Rest z W C K h.history h.u o'.now ((table_of z W C K E S R) v)) → Busy z W C K E S R labelling (sure v) w l o o'
    label_busy l o' c e g most sound dark spares r =
        let D : Belief → Image X → Type 0 = λ B f. Quiet K B h.history h.u ((table_of z W C K E S R) v) f in
        record {
          sane = sane;
          ghost = record { history = h.history; u = h.u; base = o.now };
          based = refl;
          early = ready_early v w o h;
          pends = tt;
          during = during_map (Keeps z W C K h.history h.u ((table_of z W C K E S R) v) o.now) (Shelf z W C o.now D) w l (λ f y. y.0) r.0;
          ends = record { history = h.history; u = h.u; used = omega (arith, h.used, c); early = subst (λ (x : ℕ). o'.count < S.base (suc x)) (sym e) (omega (arith, h.early, c)); born = omega (arith, h.born, e); epoch_now = omega (arith, h.epoch_now, e, g); sound = sound; most = most; rest = r.1; dark = dark };
          spares = spares;
          reads = (readable, during_map (Keeps z W C K h.history h.u ((table_of z W C K E S R) v) o.now) (D (belief z o.now)) w l (λ f y. y.1) r.0);
        }

    -- whoever is told is present, and whoever is looked at is told
    told_present : (A : ℕ → Bool) (d : ℕ) → Memᴰ d (told_to z W C K E S R A) → A d ≡ false
    unfolding told_to
    told_present A d m = present_in z W C K A d m

    told : (A : ℕ → Bool) → ((d : ℕ) → A d ≡ true → looked z o.now d ≡ true → ⊥) → (e : ℕ) → e < z.n → looked z o.now e ≡ true → Memᴰ e (told_to z W C K E S R A)
    unfolding told_to
    told A dark e i l = in_slots (λ d. not (A d)) z.n e i (go (A e) refl)
      where
        go : (b : Bool) → A e ≡ b → not (A e) ≡ true
        go true q = absurd (dark e q l)
        go false q = rw q

    out_busy : (d : ℕ) → d < z.n → W.few (outed z.n o.now d).out ≡ true → suc o.now.generation ≤ R.greatest → Busy z W C K E S R labelling (sure v) w (round C (outed z.n o.now d) (told_to z W C K E S R o.absent)) o (relabelled z W C K E S R o (outed z.n o.now d))
    unfolding belief
    out_busy d i few room =
        let N = outed z.n o.now d in
        let sound : Proper z N = proper_without z o.now (λ e. eqb e d) (suc o.now.generation) (λ e j. ne_eqb e d (λ q. omega arith)) h.sound in
        label_busy (round C N (told_to z W C K E S R o.absent)) (relabelled z W C K E S R o N) refl refl refl room sound
        (λ e a l. h.dark e a ((without_narrow z o.now (λ x. eqb x d) (suc o.now.generation)).look_in e l))
        (round_spares z W C K o.absent N (told_to z W C K E S R o.absent) (told_present o.absent))
        (Request.take_out z W C K h.history h.u ((table_of z W C K E S R) v) o.now d (told_to z W C K E S R o.absent) few (R.fits N sound (omega arith) room) (λ e j q. told o.absent h.dark e j (look_is z o.now e j (inl (neither (o.now.out e) (eqb e d) q).0))) w sane h.rest)

    -- the slot that begins to be rebuilt counts as present
    back_d : (d e : ℕ) → e ≡ d → back_in z W C K E S R o.absent d e ≡ false
    back_d d e q = rw (eq-eqb e d q) (go (o.absent e))
      where
        go : (b : Bool) → (b && not true) ≡ false
        go true = refl
        go false = refl

    back_dark : (d e : ℕ) → back_in z W C K E S R o.absent d e ≡ true → looked z o.now e ≡ true → ⊥
    back_dark d e a l = h.dark e (conj (o.absent e) (eqb e d) a) l

    begin_busy : (d : ℕ) → d < z.n → o.now.out d ≡ true → suc o.now.generation ≤ R.greatest → (seen : Image X) → Busy z W C K E S R labelling (sure v) w (beginning K C seen o.now d (told_to z W C K E S R (back_in z W C K E S R o.absent d))) o (record { now = begun o.now d; absent = back_in z W C K E S R o.absent d; epoch = o.epoch; count = o.count })
    begin_busy d i out room seen =
        let N = begun o.now d in
        let A = back_in z W C K E S R o.absent d in
        let ds = told_to z W C K E S R A in
        let sound : Proper z N = proper_begun z o.now d i out h.sound in
        label_busy (beginning K C seen o.now d ds) (record { now = N; absent = A; epoch = o.epoch; count = o.count }) refl refl refl room sound
        (λ e a l. let p = look_of z N e l in ⊎_elim (λ q. back_dark d e a (look_is z o.now e p.0 (inl q))) (λ q. true≢false (sym a ∙ back_d d e q)) p.1)
        (begin_spares z W C K A seen o.now d ds (back_d d d refl) (told_present A))
        (begin_safe z W C K h.history h.u ((table_of z W C K E S R) v) seen o.now d ds out fits_now (R.fits N sound (omega arith) room) (λ e j q. told A (back_dark d) e j (look_is z o.now e j (inl q))) w sane h.rest)

    filled : o.now.rebuilding < z.n → (t j : ℕ) → t < z.T → j < K.c → rebuilt z W K E o.now (seen_o z W C K E S R v w o sane h) o.now.rebuilding t j ≡ (table_of z W C K E S R) v t o.now.rebuilding j
    filled i t j a c = rebuilt_right z W K E h.history h.u o.now v (seen_o z W C K E S R v w o sane h) few_now (seen_quiet o.absent h.dark) o.now.rebuilding t j i a c

    raise_busy : (more : ℕ) → o.now.rebuilding < z.n → o.now.mark + more ≤ z.T → suc o.now.generation ≤ R.greatest → Busy z W C K E S R labelling (sure v) w (filling z W C K E S R o (seen_o z W C K E S R v w o sane h) more ++ round C (raised o.now (o.now.mark + more)) (told_to z W C K E S R o.absent)) o (relabelled z W C K E S R o (raised o.now (o.now.mark + more)))
    raise_busy more i in_t room =
        let Q = o.now in
        let N = raised Q (Q.mark + more) in
        let ds = told_to z W C K E S R o.absent in
        let F = filling z W C K E S R o (seen_o z W C K E S R v w o sane h) more in
        let sound : Proper z N = proper_raised z Q (Q.mark + more) i in_t h.sound in
        label_busy (F ++ round C N ds) (relabelled z W C K E S R o N) refl refl refl room sound (λ e a l. h.dark e a l)
        (each_append (λ k. o.absent (slot k) ≡ false) (λ e. o.absent e ≡ false) F (round C N ds) (fill_spares z W C K o.absent Q h.dark i more (rebuilt z W K E Q (seen_o z W C K E S R v w o sane h) Q.rebuilding)) (round_spares z W C K o.absent N ds (told_present o.absent)))
        (on_safe z W C K h.history h.u ((table_of z W C K E S R) v) Q N more (rebuilt z W K E Q (seen_o z W C K E S R v w o sane h) Q.rebuilding) ds (h.sound.also_out i) (λ e l. l)
        (λ e t a. let p = believe_of z Q e t a in believe_is z N e t p.0 p.1 (⊎_elim inl (λ q. inr (q.0, omega (arith, q.1))) p.2))
        (λ e t a. let p = believe_of z N e t a in ⊎_elim (λ q. inl (believe_is z Q e t p.0 p.1 (inl q))) (λ q. go e t p.0 p.1 q.0 q.1 (ltb t Q.mark) refl) p.2)
        (λ t j a b c. filled i t j (omega arith) c)
        refl few_now (R.fits N sound (omega arith) room) (λ e j q. told o.absent h.dark e j (look_is z Q e j (inl q))) w sane h.rest)
      where
        go : (e t : ℕ) → e < z.n → t < z.T → e ≡ o.now.rebuilding → t < o.now.mark + more → (b : Bool) → ltb t o.now.mark ≡ b → (believed z o.now e t ≡ true) ⊎ ((e ≡ o.now.rebuilding) × (o.now.mark ≤ t) × (t < o.now.mark + more))
        go e t j k q m true x = inl (believe_is z o.now e t j k (inr (q, ltb-true t o.now.mark x)))
        go e t j k q m false x = inr (q, ltb-false t o.now.mark x, m)

    heal_busy : (more : ℕ) → o.now.rebuilding < z.n → o.now.mark + more ≡ z.T → suc o.now.generation ≤ R.greatest → Busy z W C K E S R labelling (sure v) w (filling z W C K E S R o (seen_o z W C K E S R v w o sane h) more ++ round C (healed z.n o.now) (told_to z W C K E S R o.absent)) o (relabelled z W C K E S R o (healed z.n o.now))
    heal_busy more i in_t room =
        let Q = o.now in
        let N = healed z.n Q in
        let ds = told_to z W C K E S R o.absent in
        let F = filling z W C K E S R o (seen_o z W C K E S R v w o sane h) more in
        let sound : Proper z N = proper_healed z Q h.sound in
        label_busy (F ++ round C N ds) (relabelled z W C K E S R o N) refl refl refl room sound (λ e a l. h.dark e a (same_look e l))
        (each_append (λ k. o.absent (slot k) ≡ false) (λ e. o.absent e ≡ false) F (round C N ds) (fill_spares z W C K o.absent Q h.dark i more (rebuilt z W K E Q (seen_o z W C K E S R v w o sane h) Q.rebuilding)) (round_spares z W C K o.absent N ds (told_present o.absent)))
        (on_safe z W C K h.history h.u ((table_of z W C K E S R) v) Q N more (rebuilt z W K E Q (seen_o z W C K E S R v w o sane h) Q.rebuilding) ds (h.sound.also_out i) same_look
        (λ e t a. let p = believe_of z Q e t a in believe_is z N e t p.0 p.1 (inl (⊎_elim (λ q. rw q) (λ q. rw (eq-eqb e Q.rebuilding q.0) (last (Q.out e))) p.2)))
        (λ e t a. let p = believe_of z N e t a in ⊎_elim (λ q. ⊎_elim (λ y. inl (believe_is z Q e t p.0 p.1 (inl y))) (λ y. go e t p.0 p.1 (eqb-true e Q.rebuilding y) (ltb t Q.mark) refl) (either (Q.out e) (eqb e Q.rebuilding) q)) (λ q. absurd (omega (arith, q.1))) p.2)
        (λ t j a b c. filled i t j (omega arith) c)
        refl (W.part N.out Q.out (λ e j q. conj (Q.out e) (eqb e Q.rebuilding) q) few_now) (R.fits N sound (omega arith) room) (λ e j q. told o.absent h.dark e j (same_look e (look_is z N e j (inl q)))) w sane h.rest)
      where
        last : (b : Bool) → (b && not true) ≡ false
        last true = refl
        last false = refl

        same_look : (e : ℕ) → looked z (healed z.n o.now) e ≡ true → looked z o.now e ≡ true
        same_look e l =
            let p = look_of z (healed z.n o.now) e l in
            ⊎_elim (λ q. look_is z o.now e p.0 (⊎_elim inl (λ y. inr (eqb-true e o.now.rebuilding y)) (either (o.now.out e) (eqb e o.now.rebuilding) q))) (λ q. absurd (omega (arith, q))) p.1

        go : (e t : ℕ) → e < z.n → t < z.T → e ≡ o.now.rebuilding → (b : Bool) → ltb t o.now.mark ≡ b → (believed z o.now e t ≡ true) ⊎ ((e ≡ o.now.rebuilding) × (o.now.mark ≤ t) × (t < o.now.mark + more))
        go e t j k q true x = inl (believe_is z o.now e t j k (inr (q, ltb-true t o.now.mark x)))
        go e t j k q false x = inr (q, ltb-false t o.now.mark x, omega arith)

    on_busy : (b : ℕ) → o.now.rebuilding < z.n → suc o.now.generation ≤ R.greatest → Invariant z W C K E S R (at w (asked_on z W C K E S R o (seen_o z W C K E S R v w o sane h) b)) (sure v)
    on_busy b i room = go (last_batch z W C K E S R o b) refl
      where
        go : (y : Bool) → last_batch z W C K E S R o b ≡ y → Invariant z W C K E S R (at w (cond y (asked_heal z W C K E S R o (seen_o z W C K E S R v w o sane h)) (asked_raise z W C K E S R o (seen_o z W C K E S R v w o sane h) (at_least_one z W C K E S R b)))) (sure v)
        go true e = heal_busy (z.T - o.now.mark) i (omega (arith, h.sound.mark_T)) room
        go false e = raise_busy (at_least_one z W C K E S R b) i (omega (arith, leb-false z.T (o.now.mark + at_least_one z W C K E S R b) e)) room

  pub in_range_lem : (t i : ℕ) (b : Bool) (o : Own) → may z W C K E S R b o (read_block t i) ≡ clear → (t < z.T) × (i < E.k)
  in_range_lem t i b o e =
      let a = first_clear (record { why = BAD_BLOCK; holds = not (ltb t z.T && ltb i E.k) }) [] e in
      let y = both (ltb t z.T) (ltb i E.k) (yes_of (ltb t z.T && ltb i E.k) a.0) in
      (ltb-true t z.T y.0, ltb-true i E.k y.1)

  -- what the tests of an accepted request say
  pub out_tests : (o : Own) (d : ℕ) → may z W C K E S R false o (take_out d) ≡ clear → (d < z.n) × (W.few (outed z.n o.now d).out ≡ true) × (suc o.now.generation ≤ R.greatest)
  out_tests o d e =
      let N = outed z.n o.now d in
      let left = generations_left z W C K E S R o in
      let r3 : List Test = record { why = NOT_NOW; holds = plainly_out o.now d || not left } ∷ [] in
      let r2 : List Test = record { why = BUSY; holds = false } ∷ r3 in
      let r1 : List Test = record { why = BAD_BLOCK; holds = not (ltb d z.n) } ∷ r2 in
      let a = first_clear (record { why = TOO_FEW; holds = not (W.few N.out) }) r1 e in
      let b = first_clear (record { why = BAD_BLOCK; holds = not (ltb d z.n) }) r2 a.1 in
      let c = first_clear (record { why = NOT_NOW; holds = plainly_out o.now d || not left }) [] (first_clear (record { why = BUSY; holds = false }) r3 b.1).1 in
      (ltb-true d z.n (yes_of (ltb d z.n) b.0), yes_of (W.few N.out) a.0, leb-true (suc o.now.generation) R.greatest (yes_of left (neither (plainly_out o.now d) (not left) c.0).1))

  pub begin_tests : (o : Own) (d : ℕ) → may z W C K E S R false o (begin d) ≡ clear → (d < z.n) × (o.now.out d ≡ true) × (suc o.now.generation ≤ R.greatest)
  begin_tests o d e =
      let other = ltb o.now.rebuilding z.n && not (eqb o.now.rebuilding d) in
      let left = generations_left z W C K E S R o in
      let r2 : List Test = record { why = NOT_NOW; holds = not (o.now.out d) || (other || not left) } ∷ [] in
      let r1 : List Test = record { why = BUSY; holds = false } ∷ r2 in
      let a = first_clear (record { why = BAD_BLOCK; holds = not (ltb d z.n) }) r1 e in
      let c = first_clear (record { why = NOT_NOW; holds = not (o.now.out d) || (other || not left) }) [] (first_clear (record { why = BUSY; holds = false }) r2 a.1).1 in
      let x = neither (not (o.now.out d)) (other || not left) c.0 in
      (ltb-true d z.n (yes_of (ltb d z.n) a.0), yes_of (o.now.out d) x.0, leb-true (suc o.now.generation) R.greatest (yes_of left (neither other (not left) x.1).1))

  pub on_tests : (o : Own) (b : ℕ) → may z W C K E S R false o (rebuild_on b) ≡ clear → (o.now.rebuilding < z.n) × (suc o.now.generation ≤ R.greatest)
  on_tests o b e =
      let left = generations_left z W C K E S R o in
      let r1 : List Test = record { why = NOT_NOW; holds = not (ltb o.now.rebuilding z.n) || not left } ∷ [] in
      let c = first_clear (record { why = NOT_NOW; holds = not (ltb o.now.rebuilding z.n) || not left }) [] (first_clear (record { why = BUSY; holds = false }) r1 e).1 in
      let x = neither (not (ltb o.now.rebuilding z.n)) (not left) c.0 in
      (ltb-true o.now.rebuilding z.n (yes_of (ltb o.now.rebuilding z.n) x.0), leb-true (suc o.now.generation) R.greatest (yes_of left x.1))

  pub scrub_tests : (t : ℕ) (b : Bool) (o : Own) → may z W C K E S R b o (scrub_stripe t) ≡ clear → (t < z.T) × ((d : ℕ) → d < z.n → o.now.out d ≡ false)
  scrub_tests t b o e =
      let none = every (λ d. not (o.now.out d)) (from 0 z.n) in
      let r1 : List Test = record { why = NOT_NOW; holds = not none } ∷ [] in
      let a = first_clear (record { why = BAD_BLOCK; holds = not (ltb t z.T) }) r1 e in
      let c = first_clear (record { why = NOT_NOW; holds = not none }) [] a.1 in
      (ltb-true t z.T (yes_of (ltb t z.T) a.0), λ d i. not-true (o.now.out d) (every_of (λ x. not (o.now.out x)) (from 0 z.n) (yes_of none c.0) d (in_from z.n 0 d (omega arith) (omega arith))))

  quiet_scrub : (history : ℕ → Write X) (u : ℕ) (Q : Label) (v : Host X) (f : Image X) → ((d : ℕ) → d < z.n → Q.out d ≡ false) → Quiet K (belief z Q) history u ((table_of z W C K E S R) v) f → (t : ℕ) → t < z.T → E.scrub t (λ d j. f (strip d t j)) ≡ all_sound
  unfolding Quiet
  quiet_scrub history u Q v f none q t i = scrub_old z W K E history u 0 Q v f none q t i

  pub repair_tests : (t : ℕ) (o : Own) → may z W C K E S R false o (repair t) ≡ clear → (t < z.T) × ((d : ℕ) → d < z.n → o.now.out d ≡ false) × (suc o.count < S.base (suc o.epoch))
  repair_tests t o e =
      let none = all_in z W C K E S R o in
      let left = ltb (suc o.count) (S.base (suc o.epoch)) in
      let r2 : List Test = record { why = NOT_NOW; holds = not none || not left } ∷ [] in
      let r1 : List Test = record { why = BUSY; holds = false } ∷ r2 in
      let a = first_clear (record { why = BAD_BLOCK; holds = not (ltb t z.T) }) r1 e in
      let c = first_clear (record { why = NOT_NOW; holds = not none || not left }) [] (first_clear (record { why = BUSY; holds = false }) r2 a.1).1 in
      let x = neither (not none) (not left) c.0 in
      (ltb-true t z.T (yes_of (ltb t z.T) a.0), (λ d i. not-true (o.now.out d) (every_of (λ y. not (o.now.out y)) (from 0 z.n) (yes_of none x.0) d (in_from z.n 0 d (omega arith) (omega arith)))), ltb-true (suc o.count) (S.base (suc o.epoch)) (yes_of left x.1))

  pub may_repair_tests : (t : ℕ) (o : Own) (f : Image X) → may_repair z W C K E S R false o f t ≡ clear → (t < z.T) × ((d : ℕ) → d < z.n → o.now.out d ≡ false) × (suc o.count < S.base (suc o.epoch)) × (blames (finding z W C K E S R f t) ≡ true)
  unfolding is_clear
  may_repair_tests t o f e = go (may z W C K E S R false o (repair t)) refl e
    where
      go : (v : Verdict) → may z W C K E S R false o (repair t) ≡ v → also z W C K E S R v (not (blames (finding z W C K E S R f t))) ≡ clear → (t < z.T) × ((d : ℕ) → d < z.n → o.now.out d ≡ false) × (suc o.count < S.base (suc o.epoch)) × (blames (finding z W C K E S R f t) ≡ true)
      go clear q h = let a = repair_tests t o q in (a.0, a.1, a.2, yes_of (blames (finding z W C K E S R f t)) (first_clear (record { why = NOT_NOW; holds = not (blames (finding z W C K E S R f t)) }) [] h).0)
      go (because why) q h = absurd (false≢true (ap is_clear h))

  -- with nothing out every stripe is found sound: a write is made as it is asked, and no repair is needed
  module _ (v : Host X) (w : World X) (o : Own) (sane : Sane w) (h : Ready z W C K E S R v w o) where
    pub found_sound : (t : ℕ) → t < z.T → ((d : ℕ) → d < z.n → o.now.out d ≡ false) → finding z W C K E S R (mask z W C K E S R o.absent w.cur) t ≡ all_sound
    found_sound t i none = quiet_scrub h.history h.u o.now v (mask z W C K E S R o.absent w.cur) none (seen_quiet v w o sane h o.absent h.dark) t i

    pub made_as_asked : (t : ℕ) (ch : Change X) → t < z.T → change_made z W C K E S R o (mask z W C K E S R o.absent w.cur) t ch ≡ ch
    unfolding change_made Quiet
    made_as_asked t ch i = go (all_believed z W C K E S R o t) refl
      where
        seen : Image X
        seen = mask z W C K E S R o.absent w.cur

        go : (b : Bool) → all_believed z W C K E S R o t ≡ b → cond (b && unsound (finding z W C K E S R seen t)) (whole_change z W K E o.now seen t ch) ch ≡ ch
        go true e =
            ap (λ (x : Finding). cond (unsound x) (whole_change z W K E o.now seen t ch) ch)
            (scrub_believed z W K E h.history h.u 0 o.now v seen t (λ d j. every_of (λ y. believed z o.now y t) (from 0 z.n) e d (in_from z.n 0 d (omega arith) (omega arith))) (seen_quiet v w o sane h o.absent h.dark))
        go false e = refl

    pub no_repair : (t : ℕ) → may_repair z W C K E S R false o (mask z W C K E S R o.absent w.cur) t ≡ clear → ⊥
    no_repair t e = let a = may_repair_tests t o (mask z W C K E S R o.absent w.cur) e in false≢true (ap blames (sym (found_sound t a.0 a.1)) ∙ a.3)

  -- EACH REQUEST
  -- nothing is known yet
  sim_nothing : (w : World X) (i : Input X) (p : View X) → Off z W C K E S R p w → (Answers z W C K E S R) w (from_nothing z W C K E S R (mask z W C K E S R (unseen z W C K E S R nothing i) w.cur) i) i p
  unfolding Next
  sim_nothing w create p h =
      let A = beyond z.n (λ d. false) in
      let seen = mask z W C K E S R A w.cur in
      verdict w nothing create p h (may_create z W C K E S R seen) (asked_create z W C K E S R) accepted
      (λ e.
      let t = (create_tests z W C K E S R) seen e in
      let zw = (zeros_same z W C K E S R) seen w.cur (λ k i. sym (mask_present A w.cur k (beyond_none z.n (slot k) i))) t.0 in
      (p, refl, create_any w zw t.1 p h))
  sim_nothing w (start A) p h =
      let A' = beyond z.n A in
      let seen = mask z W C K E S R A' w.cur in
      verdict w nothing (start A) p h (may_start z W C K E S R A' seen) (asked_start z W C K E S R A' seen) accepted
      (λ e. (p, refl, start_any A' seen e w (λ k a. mask_present A' w.cur k a) (λ d a. beyond_in z.n A d a) p h))
  sim_nothing w (read_block t i) p h = (p, refl, h)
  sim_nothing w (write t ch) p h = (p, refl, h)
  sim_nothing w (take_out d) p h = (p, refl, h)
  sim_nothing w (begin d) p h = (p, refl, h)
  sim_nothing w (rebuild_on b) p h = (p, refl, h)
  sim_nothing w (scrub_stripe t) p h = (p, refl, h)
  sim_nothing w (repair t) p h = (p, refl, h)
  sim_nothing w step p h = (p, refl, h)

  -- ready, with the list v
  sim_idle : (w : World X) (o : Own) (i : Input X) (v : Host X) → Sane w → Ready z W C K E S R v w o → (Answers z W C K E S R) w (from_idle z W C K E S R o (mask z W C K E S R (unseen z W C K E S R (idle o) i) w.cur) i) i (sure v)
  unfolding Next
  sim_idle w o create v s h = verdict w (idle o) create (sure v) (s, h) (may z W C K E S R false o create) (idle o) accepted (λ e. (sure v, refl, (s, h)))
  sim_idle w o (start A) v s h = verdict w (idle o) (start A) (sure v) (s, h) (may z W C K E S R false o (start A)) (idle o) accepted (λ e. (sure v, refl, (s, h)))
  sim_idle w o (read_block t i) v s h =
      let seen = mask z W C K E S R o.absent w.cur in
      verdict w (idle o) (read_block t i) (sure v) (s, h) (may z W C K E S R false o (read_block t i)) (idle o) (block (read z W K E o.now seen t i))
      (λ e.
      let b = in_range_lem t i false o e in
      (sure v, (refl, λ j g. read_right z W K E h.history h.u o.now v seen (few_now v w o s h) (seen_quiet v w o s h o.absent h.dark) t i j b.0 b.1 g), (s, h)))
  sim_idle w o (write t ch) v s h =
      let seen = mask z W C K E S R o.absent w.cur in
      verdict w (idle o) (write t ch) (sure v) (s, h) (may z W C K E S R false o (write t ch)) (asked_write z W C K E S R o seen t ch) accepted
      (λ e.
      let r2 : List Test = record { why = NOT_NOW; holds = not (ltb (suc o.count) (S.base (suc o.epoch))) } ∷ [] in
      let r1 : List Test = record { why = BUSY; holds = false } ∷ r2 in
      let a = first_clear (record { why = BAD_BLOCK; holds = not (ltb t z.T && proper z W K E ch) }) r1 e in
      let b = both (ltb t z.T) (proper z W K E ch) (yes_of (ltb t z.T && proper z W K E ch) a.0) in
      let c = first_clear (record { why = NOT_NOW; holds = not (ltb (suc o.count) (S.base (suc o.epoch))) }) [] (first_clear (record { why = BUSY; holds = false }) r2 a.1).1 in (
        open_write v (replace v t ch),
        refl,
        subst (λ (y : Change X). Invariant z W C K E S R (at w (ask_log z W C K E S R o (write_of z W K E o.now seen t y))) (open_write v (replace v t ch))) (sym (made_as_asked v w o s h t ch (ltb-true t z.T b.0)))
            (write_busy v w o s h t ch (ltb-true t z.T b.0) b.1 (ltb-true (suc o.count) (S.base (suc o.epoch)) (yes_of (ltb (suc o.count) (S.base (suc o.epoch))) c.0))),
      ))
  sim_idle w o (take_out d) v s h =
      verdict w (idle o) (take_out d) (sure v) (s, h) (may z W C K E S R false o (take_out d)) (asked_out z W C K E S R o d) accepted
      (λ e. let t = out_tests o d e in (sure v, refl, out_busy v w o s h d t.0 t.1 t.2))
  sim_idle w o (begin d) v s h =
      let seen = mask z W C K E S R (back_in z W C K E S R o.absent d) w.cur in
      verdict w (idle o) (begin d) (sure v) (s, h) (may z W C K E S R false o (begin d)) (asked_begin z W C K E S R o seen d) accepted
      (λ e. let t = begin_tests o d e in (sure v, refl, begin_busy v w o s h d t.0 t.1 t.2 seen))
  sim_idle w o (rebuild_on b) v s h =
      let seen = mask z W C K E S R o.absent w.cur in
      verdict w (idle o) (rebuild_on b) (sure v) (s, h) (may z W C K E S R false o (rebuild_on b)) (asked_on z W C K E S R o seen b) accepted
      (λ e. let t = on_tests o b e in (sure v, refl, on_busy v w o s h b t.0 t.1))
  sim_idle w o (scrub_stripe t) v s h =
      let seen = mask z W C K E S R o.absent w.cur in
      verdict w (idle o) (scrub_stripe t) (sure v) (s, h) (may z W C K E S R false o (scrub_stripe t)) (idle o) (found (E.scrub t (λ d j. seen (strip d t j))))
      (λ e. let b = scrub_tests t false o e in (sure v, (refl, quiet_scrub h.history h.u o.now v seen b.1 (seen_quiet v w o s h o.absent h.dark) t b.0), (s, h)))
  sim_idle w o (repair t) v s h =
      let seen = mask z W C K E S R o.absent w.cur in
      verdict w (idle o) (repair t) (sure v) (s, h) (may_repair z W C K E S R false o seen t) (asked_repair z W C K E S R o seen t) accepted (λ e. absurd (no_repair v w o s h t e))
  sim_idle w o step v s h = verdict w (idle o) step (sure v) (s, h) (may z W C K E S R false o step) (idle o) accepted (λ e. (sure v, refl, (s, h)))

  -- a step of a request under way
  reads_tail : (g : Ghost X) (k : Kind X) (p : View X) (w : World X) (a : Action X) (l : List (Action X)) (o : Own) → Reads z W C K E S R g k p w (a ∷ l) o → Reads z W C K E S R g k p (act w a) l o
  reads_tail g creating p w a l o r = tt
  reads_tail g starting p w a l o r = tt
  reads_tail g (logging wr) (sure v) w a l o r = r
  reads_tail g (logging wr) (open_write v v') w a l o r = (r.0, r.1.1)
  reads_tail g (logging wr) (kept_write v') w a l o r = r
  reads_tail g (storing wr) (sure v) w a l o r = r
  reads_tail g (storing wr) (open_write v v') w a l o r = r
  reads_tail g (storing wr) (kept_write v') w a l o r = (r.0, r.1, r.2.1)
  reads_tail g labelling (sure v) w a l o r = (r.0, r.1.1)
  reads_tail g labelling (open_write v v') w a l o r = r
  reads_tail g labelling (kept_write v') w a l o r = r

  sim_act : (k : Kind X) (p : View X) (w : World X) (a : Action X) (l : List (Action X)) (o o' : Own) → Busy z W C K E S R k p w (a ∷ l) o o' → Busy z W C K E S R k p (act w a) l o o'
  sim_act k p w a l o o' h =
      record {
        sane = sane_act w a h.sane;
        ghost = h.ghost;
        based = h.based;
        early = h.early;
        pends = h.pends;
        during = h.during.1;
        ends = h.ends;
        spares = each_tail (λ j. o'.absent (slot j) ≡ false) (λ d. o'.absent d ≡ false) a l h.spares;
        reads = reads_tail h.ghost k p w a l o h.reads;
      }

  sim_step : (k : Kind X) (l : List (Action X)) (p : View X) (w : World X) (o o' : Own) → Busy z W C K E S R k p w l o o' → (Answers z W C K E S R) w (one_step z W C K E S R k l o o') step p
  unfolding Next
  sim_step creating (a ∷ l) p w o o' h = (p, refl, sim_act creating p w a l o o' h)
  sim_step starting (a ∷ l) p w o o' h = (p, refl, sim_act starting p w a l o o' h)
  sim_step (logging wr) (a ∷ l) p w o o' h = (p, refl, sim_act (logging wr) p w a l o o' h)
  sim_step (storing wr) (a ∷ l) p w o o' h = (p, refl, sim_act (storing wr) p w a l o o' h)
  sim_step labelling (a ∷ l) p w o o' h = (p, refl, sim_act labelling p w a l o o' h)
  sim_step creating [] (sure v) w o o' h = (sure v, refl, (h.sane, h.ends))
  sim_step creating [] (open_write v v') w o o' h = absurd h.ends
  sim_step creating [] (kept_write v') w o o' h = absurd h.ends
  sim_step starting [] (sure v) w o o' h = (sure v, refl, (h.sane, h.ends))
  sim_step starting [] (open_write v v') w o o' h = ⊎_elim (λ r. (sure v, inl refl, (h.sane, r))) (λ r. (sure v', inr refl, (h.sane, r))) h.ends
  sim_step starting [] (kept_write v') w o o' h = (sure v', refl, (h.sane, h.ends))
  sim_step (logging wr) [] (sure v) w o o' h = absurd h.ends
  sim_step (logging wr) [] (open_write v v') w o o' h =
      (kept_write v', refl, record { sane = h.sane; ghost = h.ghost; based = h.based; early = h.early; pends = (v, h.pends); during = h.ends.during; ends = h.ends.ends; spares = h.ends.spares; reads = h.ends.reads })
  sim_step (logging wr) [] (kept_write v') w o o' h = absurd h.ends
  sim_step (storing wr) [] (sure v) w o o' h = absurd h.ends
  sim_step (storing wr) [] (open_write v v') w o o' h = absurd h.ends
  sim_step (storing wr) [] (kept_write v') w o o' h = (sure v', refl, (h.sane, h.ends))
  sim_step labelling [] (sure v) w o o' h = (sure v, refl, (h.sane, h.ends))
  sim_step labelling [] (open_write v v') w o o' h = absurd h.ends
  sim_step labelling [] (kept_write v') w o o' h = absurd h.ends

  -- a read meanwhile
  module _ (w : World X) (o : Own) (t i : ℕ) (in_t : t < z.T) (ink : i < E.k) where
    quiet_read : (history : ℕ → Write X) (u : ℕ) (v : Host X) → Readable z W C K E S R o → Quiet K (belief z o.now) history u ((table_of z W C K E S R) v) w.cur → (j : ℕ) → j < K.c → read z W K E o.now (mask z W C K E S R o.absent w.cur) t i j ≡ v t i j
    quiet_read history u v r q j g = read_right z W K E history u o.now v (mask z W C K E S R o.absent w.cur) r.few (quiet_seen history u ((table_of z W C K E S R) v) o.now o.absent w.cur r.dark q) t i j in_t ink g

    old_read : (history : ℕ → Write X) (u σ : ℕ) (v : Host X) → Readable z W C K E S R o → Old K (belief z o.now) history u σ ((table_of z W C K E S R) v) w.cur → (j : ℕ) → j < K.c → read z W K E o.now (mask z W C K E S R o.absent w.cur) t i j ≡ v t i j
    old_read history u σ v r q j g =
        let B = belief z o.now in
        let seen = mask z W C K E S R o.absent w.cur in
        read_old z W K E history u σ o.now v seen r.few (old_frame K B B history (within_self B) w.cur seen (mask_agrees o.now o.absent w.cur r.dark) u σ ((table_of z W C K E S R) v) q) t i j in_t ink g

    new_read : (history : ℕ → Write X) (u : ℕ) (v v' : Host X) (wr : Write X) → history u ≡ wr → Wrote z.n K.c (history u) ((table_of z W C K E S R) v) ((table_of z W C K E S R) v') → Readable z W C K E S R o → New K (belief z o.now) history u ((table_of z W C K E S R) v') w.cur → (j : ℕ) → j < K.c → read_through z W K E wr o.now (mask z W C K E S R o.absent w.cur) t i j ≡ v' t i j
    new_read history u v v' wr e wrote r q j g =
        let B = belief z o.now in
        let seen = mask z W C K E S R o.absent w.cur in
        subst (λ (y : Write X). read_through z W K E y o.now seen t i j ≡ v' t i j) e
        (read_new z W K E history u o.now v v' seen r.few wrote (new_frame K B B history (within_self B) w.cur seen (mask_agrees o.now o.absent w.cur r.dark) u ((table_of z W C K E S R) v') q) t i j in_t ink g)

  sim_read : (k : Kind X) (p : View X) (w : World X) (l : List (Action X)) (o o' : Own) (t i : ℕ) → Busy z W C K E S R k p w l o o' → (y : Verdict) → may z W C K E S R true o (read_block t i) ≡ y → (Answers z W C K E S R) w (doing k l o o', meanwhile z W C K E S R k o (mask z W C K E S R o.absent w.cur) t i y) (read_block t i) p
  unfolding Next
  sim_read k p w l o o' t i h (because why) e = (p, refl, h)
  sim_read creating p w l o o' t i h clear e = (p, refl, h)
  sim_read starting p w l o o' t i h clear e = (p, refl, h)
  sim_read (logging wr) (sure v) w l o o' t i h clear e = absurd h.reads
  sim_read (logging wr) (open_write v v') w l o o' t i h clear e =
      let b = in_range_lem t i true o e in
      let g = h.ghost in
      (open_write v v', (refl, old_read w o t i b.0 b.1 g.history g.u g.u v h.reads.0 (always_cur (Old K (belief z o.now) g.history g.u g.u ((table_of z W C K E S R) v)) w h.sane (during_start (Old K (belief z o.now) g.history g.u g.u ((table_of z W C K E S R) v)) w l h.reads.1))), h)
  sim_read (logging wr) (kept_write v') w l o o' t i h clear e = absurd h.reads
  sim_read (storing wr) (sure v) w l o o' t i h clear e = absurd h.reads
  sim_read (storing wr) (open_write v v') w l o o' t i h clear e = absurd h.reads
  sim_read (storing wr) (kept_write v') w l o o' t i h clear e =
      let b = in_range_lem t i true o e in
      let g = h.ghost in
      (kept_write v', (refl, new_read w o t i b.0 b.1 g.history g.u h.pends.0 v' wr h.reads.1 h.pends.1.wrote h.reads.0 (always_cur (New K (belief z o.now) g.history g.u ((table_of z W C K E S R) v')) w h.sane (during_start (New K (belief z o.now) g.history g.u ((table_of z W C K E S R) v')) w l h.reads.2))), h)
  sim_read labelling (sure v) w l o o' t i h clear e =
      let b = in_range_lem t i true o e in
      let g = h.ghost in
      (sure v, (refl, quiet_read w o t i b.0 b.1 g.history g.u v h.reads.0 (always_cur (Quiet K (belief z o.now) g.history g.u ((table_of z W C K E S R) v)) w h.sane (during_start (Quiet K (belief z o.now) g.history g.u ((table_of z W C K E S R) v)) w l h.reads.1))), h)
  sim_read labelling (open_write v v') w l o o' t i h clear e = absurd h.reads
  sim_read labelling (kept_write v') w l o o' t i h clear e = absurd h.reads

  -- a scrub meanwhile
  sim_scrub : (k : Kind X) (p : View X) (w : World X) (l : List (Action X)) (o o' : Own) (t : ℕ) → Busy z W C K E S R k p w l o o' → (y : Verdict) → may z W C K E S R true o (scrub_stripe t) ≡ y → (Answers z W C K E S R) w (doing k l o o', scrubbed z W C K E S R k o (mask z W C K E S R o.absent w.cur) t y) (scrub_stripe t) p
  unfolding Next
  sim_scrub k p w l o o' t h (because why) e = (p, refl, h)
  sim_scrub creating p w l o o' t h clear e = (p, refl, h)
  sim_scrub starting p w l o o' t h clear e = (p, refl, h)
  sim_scrub (logging wr) (sure v) w l o o' t h clear e = absurd h.reads
  sim_scrub (logging wr) (open_write v v') w l o o' t h clear e =
      let b = scrub_tests t true o e in
      let g = h.ghost in
      let B = belief z o.now in
      let seen = mask z W C K E S R o.absent w.cur in
      let q = always_cur (Old K B g.history g.u g.u ((table_of z W C K E S R) v)) w h.sane (during_start (Old K B g.history g.u g.u ((table_of z W C K E S R) v)) w l h.reads.1) in
      (open_write v v', (refl, scrub_old z W K E g.history g.u g.u o.now v seen b.1 (old_frame K B B g.history (within_self B) w.cur seen (mask_agrees o.now o.absent w.cur h.reads.0.dark) g.u g.u ((table_of z W C K E S R) v) q) t b.0), h)
  sim_scrub (logging wr) (kept_write v') w l o o' t h clear e = absurd h.reads
  sim_scrub (storing wr) (sure v) w l o o' t h clear e = absurd h.reads
  sim_scrub (storing wr) (open_write v v') w l o o' t h clear e = absurd h.reads
  sim_scrub (storing wr) (kept_write v') w l o o' t h clear e =
      let b = scrub_tests t true o e in
      let g = h.ghost in
      let B = belief z o.now in
      let seen = mask z W C K E S R o.absent w.cur in
      let q = always_cur (New K B g.history g.u ((table_of z W C K E S R) v')) w h.sane (during_start (New K B g.history g.u ((table_of z W C K E S R) v')) w l h.reads.2) in (
        kept_write v',
        (
          refl,
          subst (λ (y : Write X). E.scrub t (λ d j. cond (eqb t y.stripe && y.changes d) (y.new d j) (seen (strip d t j))) ≡ all_sound) h.reads.1
              (scrub_new z W K E g.history g.u o.now h.pends.0 v' seen b.1 h.pends.1.wrote (new_frame K B B g.history (within_self B) w.cur seen (mask_agrees o.now o.absent w.cur h.reads.0.dark) g.u ((table_of z W C K E S R) v') q) t b.0),
        ),
        h,
      )
  sim_scrub labelling (sure v) w l o o' t h clear e =
      let b = scrub_tests t true o e in
      let g = h.ghost in
      let q = always_cur (Quiet K (belief z o.now) g.history g.u ((table_of z W C K E S R) v)) w h.sane (during_start (Quiet K (belief z o.now) g.history g.u ((table_of z W C K E S R) v)) w l h.reads.1) in
      (sure v, (refl, quiet_scrub g.history g.u o.now v (mask z W C K E S R o.absent w.cur) b.1 (quiet_seen g.history g.u ((table_of z W C K E S R) v) o.now o.absent w.cur h.reads.0.dark q) t b.0), h)
  sim_scrub labelling (open_write v v') w l o o' t h clear e = absurd h.reads
  sim_scrub labelling (kept_write v') w l o o' t h clear e = absurd h.reads

  sim_doing : (k : Kind X) (l : List (Action X)) (o o' : Own) (w : World X) (i : Input X) (p : View X) → Busy z W C K E S R k p w l o o' → (Answers z W C K E S R) w (from_doing z W C K E S R k l o o' (mask z W C K E S R o.absent w.cur) i) i p
  unfolding Next
  sim_doing k l o o' w create p h = (p, refl, h)
  sim_doing k l o o' w (start A) p h = (p, refl, h)
  sim_doing k l o o' w (read_block t i) p h = sim_read k p w l o o' t i h (may z W C K E S R true o (read_block t i)) refl
  sim_doing k l o o' w (write t ch) p h = busy_refused (not (ltb t z.T && proper z W K E ch))
    where
      busy_refused : (b : Bool) → (Answers z W C K E S R) w (answer z W C K E S R (doing k l o o') (cond b (because BAD_BLOCK) (because BUSY)) (doing k l o o') accepted) (write t ch) p
      busy_refused true = (p, refl, h)
      busy_refused false = (p, refl, h)
  sim_doing k l o o' w (take_out d) p h = busy_refused (not (W.few (outed z.n o.now d).out)) (not (ltb d z.n))
    where
      busy_refused : (a b : Bool) → (Answers z W C K E S R) w (answer z W C K E S R (doing k l o o') (cond a (because TOO_FEW) (cond b (because BAD_BLOCK) (because BUSY))) (doing k l o o') accepted) (take_out d) p
      busy_refused true b = (p, refl, h)
      busy_refused false true = (p, refl, h)
      busy_refused false false = (p, refl, h)
  sim_doing k l o o' w (begin d) p h = busy_refused (not (ltb d z.n))
    where
      busy_refused : (b : Bool) → (Answers z W C K E S R) w (answer z W C K E S R (doing k l o o') (cond b (because BAD_BLOCK) (because BUSY)) (doing k l o o') accepted) (begin d) p
      busy_refused true = (p, refl, h)
      busy_refused false = (p, refl, h)
  sim_doing k l o o' w (rebuild_on b) p h = (p, refl, h)
  sim_doing k l o o' w (repair t) p h = busy_refused (not (ltb t z.T))
    where
      busy_refused : (b : Bool) → (Answers z W C K E S R) w (answer z W C K E S R (doing k l o o') (also z W C K E S R (cond b (because BAD_BLOCK) (because BUSY)) (not (blames (finding z W C K E S R (mask z W C K E S R o.absent w.cur) t)))) (doing k l o o') accepted) (repair t) p
      busy_refused true = (p, refl, h)
      busy_refused false = (p, refl, h)
  sim_doing k l o o' w (scrub_stripe t) p h = sim_scrub k p w l o o' t h (may z W C K E S R true o (scrub_stripe t)) refl
  sim_doing k l o o' w step p h = sim_step k l p w o o' h

  sim_host : (w : World X) (m : Memory X) (i : Input X) (p : View X) → Invariant z W C K E S R (at w m) p → (Answers z W C K E S R) w (program z W C K E S R m w.cur i) i p
  unfolding program
  sim_host w nothing i p h = sim_nothing w i p h
  sim_host w (idle o) i (sure v) h = sim_idle w o i v h.0 h.1
  sim_host w (idle o) i (open_write v v') h = absurd h
  sim_host w (idle o) i (kept_write v') h = absurd h
  sim_host w (doing k l o o') i p h = sim_doing k l o o' w i p h

  sim_swap : (w w' : World X) (o : Own) (d : ℕ) → looked z o.now d ≡ false → Swapped C d o.now.generation w w' → (p : View X) → Invariant z W C K E S R (at w (idle o)) p → (Next z W C K E S R) (at w' (idle o)) swap p
  unfolding Next
  sim_swap w w' o d a s (sure v) h =
      let r = h.1 in
      (sure v, refl, (s.sane, record { history = r.history; u = r.u; used = r.used; early = r.early; born = r.born; epoch_now = r.epoch_now; sound = r.sound; most = r.most; rest = rest_swap z W C K r.history r.u o.now ((table_of z W C K E S R) v) d w w' s h.0 (λ l. false≢true (sym a ∙ l)) r.rest; dark = r.dark }))
  sim_swap w w' o d a s (open_write v v') h = absurd h
  sim_swap w w' o d a s (kept_write v') h = absurd h

  sim_outside : {m m' : Machine X} {e : Event X} → Outside z W C K E S R m e m' → (p : View X) → Invariant z W C K E S R m p → (Next z W C K E S R) m' e p
  unfolding Next
  sim_outside (power_cut {w = w} {m = m} f q) p h = (p, refl, off_cut p w f q (memory_off w m p h))
  sim_outside (program_dies {w = w} {m = m}) p h = (p, refl, memory_off w m p h)
  sim_outside (disk_swapped {w = w} {w' = w'} {o = o} d a s) p h = sim_swap w w' o d a s p h

  -- EACH EVENT: the view goes on as it is allowed to
  pub simulate : {m m' : Machine X} {e : Event X} → Happens z W C K E S R m e m' → (p : View X) → Invariant z W C K E S R m p → (p' : View X) × Goes K.c e p p' × Invariant z W C K E S R m' p'
  unfolding Next
  simulate (from_outside x) p h = sim_outside x p h
  simulate (from_host {w = w} {m = m} i) p h = sim_host w m i p h

  -- THE PROMISE, for any sequence of events
  pub promise : {m m' : Machine X} {l : List (Event X)} → Runs z W C K E S R m l m' → (p : View X) → Invariant z W C K E S R m p → (p' : View X) × Views K.c p l p' × Invariant z W C K E S R m' p'
  promise stays p h = (p, same, h)
  promise (goes s r) p h =
      let a = simulate s p h in
      let b = promise r a.0 a.2 in
      (b.0, next a.1 b.1, b.2)
