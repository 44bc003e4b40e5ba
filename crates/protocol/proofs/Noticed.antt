-- WHAT FOLLOWS from the promise with exchanged disks: another disk than the last is noticed; when nothing is asked of the world; what every sector holds; what labels may say; which slots are touched.
use Prim.Native.Nat.{ℕ, ◌≤◌, ◌<◌}
use Rattle.std.specs.Prelude.{◌≡◌, ◌||◌, ◌⊎◌}
use Rattle.std.proofs.Math.Path.{refl, subst}
use Rattle.std.proofs.Common.{sym, ◌∙◌, inl}
use Rattle.std.proofs.Math.Bool.{Bool, true, false, or-true}
use Rattle.std.proofs.Math.Logic.{⊎_elim}
use Rattle.protocol.specs.World.{Place, strip, slot, Image, World, Action, Sane, Always, always_cur, always_map}
use Rattle.protocol.specs.Log.{RecordCodec, Quiet}
use Rattle.protocol.specs.Label.{Label, Size, looked, believed, belief, Quorum, LabelCodec, copy, MayRule}
use Rattle.protocol.proofs.Label.{look_is}
use Rattle.protocol.specs.Startup.{L, M, gone}
use Rattle.protocol.proofs.Startup.{absent_gone}
use Rattle.protocol.specs.Decide.{settled, Accepted}
use Rattle.protocol.proofs.Decide.{few_absent}
use Rattle.protocol.specs.Host.{Host, Code, table}
use Rattle.protocol.specs.Program.{Stamps, Medium, NOT_NOW, Verdict, clear, because, Own, creating, starting, logging, storing, labelling, Memory, nothing, idle, doing, Input, create, start, read_block, write, take_out, begin, rebuild_on, scrub_stripe, repair, step, accepted, refused, did, beyond, mask, may_start, may_create, answer, asked_start, asked_create, unseen, program}
use Rattle.protocol.specs.Machine.{View, sure}
use Rattle.protocol.specs.Invariant.{Ghost}
use Rattle.protocol.specs.Promise.{beyond_none, create_tests, zeros_same}
use Rattle.protocol.proofs.Promise.{mask_present, accept_f, same_label_lem}
use Rattle.protocol.specs.Kept.{slot_of, away, Sparing}
use Rattle.protocol.proofs.Kept.{spared_away, sparing, sound}
use Rattle.protocol.specs.Exchange.{Disks, room, moved, pile, Familiar, Newest}
use Rattle.protocol.specs.Apart.{same_nat, Whole}
use Rattle.protocol.proofs.Apart.{witness_low, settled_dark}
use Rattle.protocol.specs.Exchanged.{OffAll, Made, Holds}
use Rattle.protocol.proofs.Exchanged.{low, not_blank, made_or_not, ready_kin}
use Rattle.protocol.specs.Even.{not_accepted}
use Rattle.protocol.specs.Noticed.{nothing_asked, Beside, HonestAll}

module _ {X : Type 0} (z : Size) (W : Quorum z.n) (C : LabelCodec X z.n) (K : RecordCodec X) (E : Code X z.n K.c W) (S : Stamps) (R : Medium z W C K E S) where
  -- ANOTHER DISK IS NOTICED. No program runs, and then a start-up is not refused. A slot whose bay holds another disk than its last is not looked at by the label that this start-up
  -- settles: nothing of that disk is believed.
  pub noticed : (w : World X) (x : Disks X) (p : View X) (h : OffAll z W C K E S R p w x) → x.made ≡ true → (A : ℕ → Bool) → may_start z W C K E S R (beyond z.n A) (mask z W C K E S R (beyond z.n A) w.cur) ≡ clear → Familiar z W C K E S R (beyond z.n A) x ⊎ Newest z W C K E S R (beyond z.n A) w x → (d : ℕ) → moved x d ≡ true → looked z (settled z C K (beyond z.n A) (mask z W C K E S R (beyond z.n A) w.cur)) d ≡ true → ⊥
  unfolding Sane
  noticed w x p h made A ok asks d m =
      let A' = beyond z.n A in
      let seen = mask z W C K E S R A' w.cur in
      let agree : (k : Place) → A' (slot k) ≡ false → seen k ≡ w.cur k = λ k a. mask_present z W C K E S R A' w.cur k a in
      let there = accept_f z W C K E S R A' seen ok w.cur agree in
      let y = always_cur (λ f. Whole z W C K E S R h.ghost p x.home (pile x f)) w h.sane h.left in
      subst (λ (l : Label). looked z l d ≡ true → ⊥) (same_label_lem z W C K E S R A' seen ok w.cur agree)
      (settled_dark z W C K E S R h.ghost p x A' w.cur there y (low z W C K E S R w x p made h A' asks w.cur h.sane (λ k a. refl) there y) d m)

  -- and no more than what start-up has to achieve: that it calls every slot out that is absent or holds another disk.
  pub no_more_asked : (A : ℕ → Bool) (f : Image X) (x : Disks X) → Accepted z W C A f → ((d : ℕ) → d < z.n → (A d || moved x d) ≡ true → ((L z C A f).out d || gone z C A f d) ≡ true) → Familiar z W C K E S R A x
  no_more_asked A f x ok h few = W.part (λ d. A d || moved x d) (λ d. (L z C A f).out d || gone z C A f d) h ok.enough

  module _ (w : World X) (x : Disks X) (p : View X) (made : x.made ≡ true) (h : OffAll z W C K E S R p w x) where
    sees : (A : ℕ → Bool) → W.few A ≡ true → (Beside z W C K E S R) A x → (y : Whole z W C K E S R h.ghost p x.home (pile x w.cur)) → y.shelf.Q.generation ≤ M z C A w.cur
    unfolding Sane
    sees A few beside y = witness_low z W C K E S R h.ghost p x A w w.cur h.sane refl few y (beside y.shelf.Q.out y.shelf.labels.few_Q)

    start_enough : (A : ℕ → Bool) → may_start z W C K E S R (beyond z.n A) (mask z W C K E S R (beyond z.n A) w.cur) ≡ clear → (Beside z W C K E S R) (beyond z.n A) x → Familiar z W C K E S R (beyond z.n A) x
    unfolding Sane
    start_enough A ok beside = no_more_asked A' w.cur x there (λ d i e. called d i (A' d) refl e)
      where
        A' : ℕ → Bool
        A' = beyond z.n A

        seen : Image X
        seen = mask z W C K E S R A' w.cur

        there : Accepted z W C A' w.cur
        there = accept_f z W C K E S R A' seen ok w.cur (λ k a. mask_present z W C K E S R A' w.cur k a)

        y : Whole z W C K E S R h.ghost p x.home (pile x w.cur)
        y = always_cur (λ f. Whole z W C K E S R h.ghost p x.home (pile x f)) w h.sane h.left

        S0 : Label
        S0 = settled z C K A' w.cur

        unlit : (d : ℕ) → d < z.n → (b : Bool) → S0.out d ≡ b → (looked z S0 d ≡ true → ⊥) → S0.out d ≡ true
        unlit d i true e dark = e
        unlit d i false e dark = absurd (dark (look_is z S0 d i (inl e)))

        called : (d : ℕ) → d < z.n → (a : Bool) → A' d ≡ a → (a || moved x d) ≡ true → ((L z C A' w.cur).out d || gone z C A' w.cur d) ≡ true
        called d i true q e = rw (absent_gone z W C A' w.cur d i q, or-true)
        called d i false q e = unlit d i (S0.out d) refl (settled_dark z W C K E S R h.ghost p x A' w.cur there y (sees A' (few_absent z W C K h.ghost.history A' w.cur there) beside y) d e)

    made_enough : (i : Input X) → (program z W C K E S R nothing w.cur i).1 ≡ accepted → (Beside z W C K E S R) (unseen z W C K E S R nothing i) x → Familiar z W C K E S R (unseen z W C K E S R nothing i) x
    unfolding program
    made_enough create e beside = go (may_create z W C K E S R seen) refl e
      where
        A' : ℕ → Bool
        A' = beyond z.n (λ d. false)

        seen : Image X
        seen = mask z W C K E S R A' w.cur

        go : (v : Verdict) → may_create z W C K E S R seen ≡ v → (answer z W C K E S R nothing v (asked_create z W C K E S R) accepted).1 ≡ accepted → Familiar z W C K E S R A' x
        go clear q r = absurd (not_blank z W C K E S R w x p made h (zeros_same z W C K E S R seen w.cur (λ k i. sym (mask_present z W C K E S R A' w.cur k (beyond_none z.n (slot k) i))) (create_tests z W C K E S R seen q).0) (λ few y. sees A' few beside y))
        go (because why) q r = absurd (not_accepted (refused why) why refl r)
    made_enough (start A) e beside = go (may_start z W C K E S R A' seen) refl e
      where
        A' : ℕ → Bool
        A' = beyond z.n A

        seen : Image X
        seen = mask z W C K E S R A' w.cur

        go : (v : Verdict) → may_start z W C K E S R A' seen ≡ v → (answer z W C K E S R nothing v (asked_start z W C K E S R A' seen) accepted).1 ≡ accepted → Familiar z W C K E S R A' x
        go clear q r = start_enough A q beside
        go (because why) q r = absurd (not_accepted (refused why) why refl r)
    made_enough (read_block t i) e beside = absurd (not_accepted (refused NOT_NOW) NOT_NOW refl e)
    made_enough (write t ch) e beside = absurd (not_accepted (refused NOT_NOW) NOT_NOW refl e)
    made_enough (take_out d) e beside = absurd (not_accepted (refused NOT_NOW) NOT_NOW refl e)
    made_enough (begin d) e beside = absurd (not_accepted (refused NOT_NOW) NOT_NOW refl e)
    made_enough (rebuild_on b) e beside = absurd (not_accepted (refused NOT_NOW) NOT_NOW refl e)
    made_enough (scrub_stripe t) e beside = absurd (not_accepted (refused NOT_NOW) NOT_NOW refl e)
    made_enough (repair t) e beside = absurd (not_accepted (refused NOT_NOW) NOT_NOW refl e)
    made_enough step e beside = absurd (not_accepted (refused NOT_NOW) NOT_NOW refl e)

  pub beside_enough : (w : World X) (x : Disks X) (p : View X) → Holds z W C K E S R (room w nothing x) p → (i : Input X) → (program z W C K E S R nothing w.cur i).1 ≡ accepted → (Beside z W C K E S R) (unseen z W C K E S R nothing i) x → Familiar z W C K E S R (unseen z W C K E S R nothing i) x
  beside_enough w x p h i e beside = ⊎_elim (λ y. made_enough w x p y.0 y.1 i e beside) (λ y. (nothing_asked z W C K E S R) (unseen z W C K E S R nothing i) x y.2.at_home) (made_or_not z W C K E S R w nothing x p h)

  -- READY: each believed sector is what the list wants there, whatever a cut leaves
  pub exchange_sound : (v : Host X) (w : World X) (o : Own) (x : Disks X) → Holds z W C K E S R (room w (idle o) x) (sure v) → Always w (λ f. (d t j : ℕ) → believed z o.now d t ≡ true → j < K.c → f (strip d t j) ≡ table z W K E v t d j)
  exchange_sound v w o x h = sound z W C K E S R v w o (ready_kin z W C K E S R w o x (sure v) h).0

  whole_honest : (g : Ghost X) (v : Host X) (home : ℕ → ℕ) (P : ℕ → Image X) → Whole z W C K E S R g (sure v) home P → (HonestAll z W C K E S R) v P
  unfolding Quiet belief copy
  whole_honest g v home P h =
      record {
        virt = h.virt;
        q = Q.generation;
        out = Q.out;
        few_out = h.shelf.labels.few_Q;
        everyone = h.shelf.labels.low;
        few = λ d i b n p q. (rules d i b n p q).few_out;
        right = λ d i b n p q e t j a c.
            let l = (belief z (copy C (P i) d b)).believe_look e t a in
            ⊎_elim (λ m. h.shelf.under_Q.strips e t j (sym (m.believe_in e t l) ∙ a) c) (λ m. h.shelf.under_N.strips e t j (sym (m.1.believe_in e t l) ∙ a) c) (rules d i b n p q).narrow;
      }
    where
      Q : Label
      Q = h.shelf.Q

      rules : (d i : ℕ) (b : Bool) → d < z.n → 0 < (copy C (P i) d b).generation → Q.generation ≤ (copy C (P i) d b).generation → MayRule z W C Q h.shelf.N (copy C (P i) d b)
      rules d i b n = ⊎_elim (λ e. subst (λ (y : ℕ). 0 < (copy C (P y) d b).generation → Q.generation ≤ (copy C (P y) d b).generation → MayRule z W C Q h.shelf.N (copy C (P y) d b)) (sym e) (h.shelf.labels.fine d b n)) (λ e. (h.apart d i b n e).fine) (same_nat i (h.virt d))

  pub exchange_honest : (v : Host X) (w : World X) (x : Disks X) → OffAll z W C K E S R (sure v) w x → Always w (λ f. (HonestAll z W C K E S R) v (pile x f))
  exchange_honest v w x h = always_map (λ f. Whole z W C K E S R h.ghost (sure v) x.home (pile x f)) (λ f. (HonestAll z W C K E S R) v (pile x f)) w (λ f y. whole_honest h.ghost v x.home (pile x f) y) h.left

  -- ABSENT SLOTS ARE NOT TOUCHED, whatever is asked in whatever state
  made_sparing : (w : World X) (m : Memory X) (x : Disks X) (p : View X) → Made z W C K E S R w m x p → Sparing z W C K E S R m
  made_sparing w nothing x p h = tt
  made_sparing w (idle o) x p h = tt
  made_sparing w (doing creating l o o') x p h = absurd h
  made_sparing w (doing starting l o o') x p h = h.spares
  made_sparing w (doing (logging wr) l o o') x p h = h.0.spares
  made_sparing w (doing (storing wr) l o o') x p h = h.0.spares
  made_sparing w (doing labelling l o o') x p h = h.0.spares

  pub exchange_untouched : (w : World X) (m : Memory X) (x : Disks X) (p : View X) (i : Input X) (a : Action X) → Holds z W C K E S R (room w m x) p → (program z W C K E S R m w.cur i).1 ≡ did a → away z W C K E S R m (slot_of a) ≡ false
  exchange_untouched w m x p i a h e =
      spared_away z W C K E S R m w.cur i a (⊎_elim (λ y. made_sparing w m x p y.1) (λ y. sparing z W C K E S R w m p y.1) (made_or_not z W C K E S R w m x p h)) e
