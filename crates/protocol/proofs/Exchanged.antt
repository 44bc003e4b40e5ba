-- THE PROMISE WITH EXCHANGED DISKS: whatever happens, older disks in the bays and the last ones back among it, the host's view goes on as it is allowed to.
use Prim.Native.Nat.{ℕ, suc, ◌≤◌, ◌<◌}
use Rattle.std.specs.Prelude.{◌≡◌, not, ◌&&◌, ◌⊎◌, ◌≢◌, ltb}
use Rattle.std.proofs.Math.Path.{refl, sym, ap, subst, fun_ext}
use Rattle.std.proofs.Common.{◌∙◌, true≢false, arith}
use Rattle.std.proofs.Math.Bool.{Bool, true, false, cond}
use Rattle.std.proofs.lemmas.Bool.{false≢true}
use Rattle.std.proofs.Math.Logic.{⊎_elim, inl, inr}
use mathlib.Core.List.{List, [], ◌∷◌}
use Rattle.std.proofs.Math.Dec.{eqb}
use borrow.Author.Tests.{eq-eqb, ne_eqb, eqb-true, eqb-false}
use Rattle.protocol.specs.World.{Place, label, log, strip, slot, Image, World, Action, act, after, Possible, Sane, Always, sane_after, sane_act, always_after, always_cur, always_map, during_start}
use Rattle.protocol.specs.Batch.{each_tail}
use Rattle.protocol.specs.Log.{RecordCodec, within_self}
use Rattle.protocol.specs.Label.{Label, Size, looked, belief, Quorum, LabelCodec, copy, copy_same, Aged, MayRule}
use Rattle.protocol.proofs.Label.{look_is}
use Rattle.protocol.specs.Bays.{Aside}
use Rattle.protocol.specs.Startup.{M, Framed}
use Rattle.protocol.specs.Blind.{M_same}
use Rattle.protocol.specs.Decide.{Accepted, Rest, quiet_framed}
use Rattle.protocol.proofs.Decide.{few_absent, some_seen}
use Rattle.protocol.specs.Host.{Host, blames, Code, proper, table}
use Rattle.protocol.specs.Request.{outed}
use Rattle.protocol.specs.Program.{Stamps, Medium, BAD_BLOCK, BUSY, TOO_FEW, Verdict, clear, because, Own, Kind, creating, starting, logging, storing, labelling, Memory, nothing, idle, doing, Input, create, start, read_block, write, take_out, begin, rebuild_on, scrub_stripe, repair, step, Reply, accepted, beyond, mask, unseen, finding, also, may, may_repair, may_start, may_create, asked_start, asked_create, asked_write, asked_repair, asked_out, asked_begin, asked_on, asked_heal, asked_raise, at_least_one, last_batch, answer, from_idle, from_doing, one_step, meanwhile, scrubbed, program}
use Rattle.protocol.specs.Machine.{at, effect, Event, swap, power_cut, program_dies, from_outside, from_host, View, sure, open_write, kept_write, Goes, Views, same, next}
use Rattle.protocol.specs.Invariant.{Ghost, Left, Ready, Busy, Invariant}
use Rattle.protocol.specs.Promise.{beyond_in, beyond_none, create_tests, Zeros, zeros_same, copy_zeros}
use Rattle.protocol.proofs.Promise.{ready_early, mask_present, accept_f, same_label_lem, spared, start_safe, zeros_off, simulate}
use Rattle.protocol.specs.Exchange as Exchange
use Rattle.protocol.specs.Exchange.{Disks, Room, room, noted, exchanged, with_disk, pile, Strange, Asked, Befalls, Befell}
use Rattle.protocol.specs.Apart.{same_nat, Lying, Whole}
use Rattle.protocol.proofs.Apart.{aside_copy, lying_next, strange_lying, whole_home, asked_low, unborn, meets, settled_lying}
use Rattle.protocol.specs.Exchanged.{OffAll, Rising, Kin, KinOf, Made, Stage, Holds, Next, w', x', back, back_other, Q, At, Replies, All, Asks, me}

module _ {X : Type 0} (z : Size) (W : Quorum z.n) (C : LabelCodec X z.n) (K : RecordCodec X) (E : Code X z.n K.c W) (S : Stamps) (R : Medium z W C K E S) where
  -- made or not
  as_made : (w : World X) (m : Memory X) (x : Disks X) (p : View X) → x.made ≡ true → (Made z W C K E S R) w m x p → (Stage z W C K E S R) x.made w m x p
  as_made w m x p e h = subst (λ (b : Bool). (Stage z W C K E S R) b w m x p) (sym e) h

  as_strange : (w : World X) (m : Memory X) (x : Disks X) (p : View X) → x.made ≡ false → Invariant z W C K E S R (at w m) p × Strange z C x → (Stage z W C K E S R) x.made w m x p
  as_strange w m x p e h = subst (λ (b : Bool). (Stage z W C K E S R) b w m x p) (sym e) h

  pub made_or_not : (w : World X) (m : Memory X) (x : Disks X) (p : View X) → (Stage z W C K E S R) x.made w m x p → ((x.made ≡ true) × (Made z W C K E S R) w m x p) ⊎ ((x.made ≡ false) × Invariant z W C K E S R (at w m) p × Strange z C x)
  made_or_not w m x p h = go x.made refl h
    where
      go : (b : Bool) → x.made ≡ b → (Stage z W C K E S R) b w m x p → ((x.made ≡ true) × (Made z W C K E S R) w m x p) ⊎ ((x.made ≡ false) × Invariant z W C K E S R (at w m) p × Strange z C x)
      go true e y = inl (e, y)
      go false e y = inr (e, y.0, y.1)

  -- POWER OFF
  idle_off : (v : Host X) (w : World X) (o : Own) (x : Disks X) → Sane w → Ready z W C K E S R v w o → (Kin z W C K E S R) x o o → (OffAll z W C K E S R) (sure v) w x
  idle_off v w o x sane h kin =
      let g : Ghost X = record { history = h.history; u = h.u; base = o.now } in
      record {
        sane = sane;
        ghost = g;
        early = ready_early z W C K E S R v w o h;
        pends = tt;
        born = kin.born;
        left = always_map (Rest z W C K h.history h.u o.now (table z W K E v)) (λ f. Whole z W C K E S R g (sure v) x.home (pile x f)) w
            (λ f r. whole_home z W C K E S R g (sure v) x f kin.lying kin.at_home (record { Q = o.now; since = inl refl; N = o.now; top = o.now.generation; far = o.now.out; labels = r.labels; under_Q = r.quiet; under_N = r.quiet })) h.rest;
      }

  busy_off : (k : Kind X) (p : View X) (w : World X) (l : List (Action X)) (o o' : Own) (x : Disks X) → (h : Busy z W C K E S R k p w l o o') → h.ghost.base ≡ o.now → (Kin z W C K E S R) x o o' → (OffAll z W C K E S R) p w x
  busy_off k p w l o o' x h e kin =
      let g = h.ghost in
      record {
        sane = h.sane;
        ghost = g;
        early = h.early;
        pends = h.pends;
        born = omega (arith, kin.born, ap (λ (q : Label). q.generation) e);
        left = always_map (Left z W C K E S R g p) (λ f. Whole z W C K E S R g p x.home (pile x f)) w
            (λ f y. whole_home z W C K E S R g p x f (subst (Lying z W C x) (sym e) kin.lying) kin.at_home y) (during_start (Left z W C K E S R g p) w l h.during);
      }

  made_off : (w : World X) (m : Memory X) (x : Disks X) (p : View X) → (Made z W C K E S R) w m x p → (OffAll z W C K E S R) p w x
  made_off w nothing x p h = h
  made_off w (idle o) x (sure v) h = idle_off v w o x h.0.0 h.0.1 h.1
  made_off w (idle o) x (open_write v v') h = absurd h.0
  made_off w (idle o) x (kept_write v') h = absurd h.0
  made_off w (doing creating l o o') x p h = absurd h
  made_off w (doing starting l o o') x p h =
      record { sane = h.sane; ghost = h.ghost; early = h.early; pends = h.pends; born = h.born; left = during_start (λ f. Whole z W C K E S R h.ghost p x.home (pile x f)) w l h.during }
  made_off w (doing (logging wr) l o o') x p h = busy_off (logging wr) p w l o o' x h.0 h.0.based h.1
  made_off w (doing (storing wr) l o o') x p h = busy_off (storing wr) p w l o o' x h.0 h.0.based h.1
  made_off w (doing labelling l o o') x p h = busy_off labelling p w l o o' x h.0 h.0.based h.1

  off_cut : (p : View X) (w : World X) (x : Disks X) (f : Image X) → Possible w f → (OffAll z W C K E S R) p w x → (OffAll z W C K E S R) p (after f) x
  unfolding Always
  off_cut p w x f q h =
      record { sane = sane_after f; ghost = h.ghost; early = h.early; pends = h.pends; born = h.born; left = always_after (λ y. Whole z W C K E S R h.ghost p x.home (pile x y)) f (h.left f q) }

  -- ANOTHER DISK
  module _ (w : World X) (x : Disks X) (d i : ℕ) (g : Image X) (other : i ≢ x.inn d) (left : Possible w g) where
    disk_sane : Sane w → Sane (w' z W C K E S R w x d i g other left)
    unfolding Sane Possible
    disk_sane h k = (λ q. rw (eq-eqb (slot k) d q), λ n. rw (ne_eqb (slot k) d n) (h k))

    pub back_possible : (f : Image X) → Possible (w' z W C K E S R w x d i g other left) f → Possible w ((back z W C K E S R w x d i g other left) f)
    unfolding Possible back
    back_possible f q k = go (eqb (slot k) d) refl
      where
        go : (b : Bool) → eqb (slot k) d ≡ b → w.may k (cond b (g k) (f k))
        go true e = left k
        go false e = (q k).1 (eqb-false (slot k) d e)

    -- an exchange leaves every disk as it is
    same_pile : (f : Image X) → Possible (w' z W C K E S R w x d i g other left) f → pile x ((back z W C K E S R w x d i g other left) f) ≡ pile (x' z W C K E S R w x d i g other left) f
    unfolding pile back Possible
    same_pile f q = fun_ext (λ j. fun_ext (λ k. go j k (eqb (slot k) d) refl))
      where
        here : (j : ℕ) (k : Place) → slot k ≡ d → (a b : Bool) → eqb j (x.inn d) ≡ a → eqb j i ≡ b → cond a (g k) (x.stock j k) ≡ cond b (f k) (cond a (g k) (x.stock j k))
        here j k s true true p r = absurd (other (sym (eqb-true j i r) ∙ eqb-true j (x.inn d) p))
        here j k s true false p r = refl
        here j k s false true p r = ap (λ (y : ℕ). x.stock y k) (eqb-true j i r) ∙ sym ((q k).0 s)
        here j k s false false p r = refl

        go : (j : ℕ) (k : Place) (b : Bool) → eqb (slot k) d ≡ b → cond (eqb j (x.inn (slot k))) (cond b (g k) (f k)) (x.stock j k) ≡ cond (eqb j (cond b i (x.inn (slot k)))) (f k) (cond (b && eqb j (x.inn d)) (g k) (x.stock j k))
        go j k true e = let s = eqb-true (slot k) d e in rw s (here j k s (eqb j (x.inn d)) (eqb j i) refl refl)
        go j k false e = refl

    disk_off : (p : View X) → (OffAll z W C K E S R) p w x → (OffAll z W C K E S R) p (w' z W C K E S R w x d i g other left) (x' z W C K E S R w x d i g other left)
    unfolding Always
    disk_off p h =
        record {
          sane = disk_sane h.sane;
          ghost = h.ghost;
          early = h.early;
          pends = h.pends;
          born = h.born;
          left = λ f q. subst (Whole z W C K E S R h.ghost p x.home) (same_pile f q) (h.left ((back z W C K E S R w x d i g other left) f) (back_possible f q));
        }

    -- while the program is ready, on a slot that is not looked at
    module _ (v : Host X) (o : Own) (sane : Sane w) (h : Ready z W C K E S R v w o) (kin : (Kin z W C K E S R) x o o) (dark : looked z o.now d ≡ false) where
      unlit : looked z (Q z W C K E S R w x d i g other left v o sane h kin dark) d ≡ true → ⊥
      unlit l = false≢true (sym dark ∙ l)

      lit_other : (e : ℕ) → looked z (Q z W C K E S R w x d i g other left v o sane h kin dark) e ≡ true → e ≢ d
      lit_other e l q = unlit (subst (λ (y : ℕ). looked z (Q z W C K E S R w x d i g other left v o sane h kin dark) y ≡ true) q l)

      disk_rest : Always (w' z W C K E S R w x d i g other left) (At z W C K E S R w x d i g other left v o sane h kin dark)
      unfolding Always Possible Framed Aged belief
      disk_rest f q =
          record {
            labels = record {
              few_Q = r.labels.few_Q;
              few_far = r.labels.few_far;
              low = λ e n u. let y = r.labels.low e n u in (y.0, subst (λ (l : Label). (Q z W C K E S R w x d i g other left v o sane h kin dark).generation ≤ l.generation) (sym (same e y.0 (lit_other e (look_is z (Q z W C K E S R w x d i g other left v o sane h kin dark) e n (inl u))))) y.1);
              cap = λ e b n. ⊎_elim (λ y. subst (λ (l : Label). l.generation ≤ (Q z W C K E S R w x d i g other left v o sane h kin dark).generation) (sym (new e b y)) (kin.lying e i b n (strange e y)).cap) (λ y. subst (λ (l : Label). l.generation ≤ (Q z W C K E S R w x d i g other left v o sane h kin dark).generation) (sym (same e b y)) (r.labels.cap e b n)) (same_nat e d);
              near = λ e t n u j. let y = r.labels.near e t n u j in (y.0, subst (λ (l : Label). t ≤ l.generation) (sym (same e y.0 (lit_other e (look_is z (Q z W C K E S R w x d i g other left v o sane h kin dark) e n (inl u))))) y.1);
              fine = λ e b n. ⊎_elim (λ y. subst (λ (l : Label). 0 < l.generation → (Q z W C K E S R w x d i g other left v o sane h kin dark).generation ≤ l.generation → MayRule z W C (Q z W C K E S R w x d i g other left v o sane h kin dark) (Q z W C K E S R w x d i g other left v o sane h kin dark) l) (sym (new e b y)) (kin.lying e i b n (strange e y)).fine) (λ y. subst (λ (l : Label). 0 < l.generation → (Q z W C K E S R w x d i g other left v o sane h kin dark).generation ≤ l.generation → MayRule z W C (Q z W C K E S R w x d i g other left v o sane h kin dark) (Q z W C K E S R w x d i g other left v o sane h kin dark) l) (sym (same e b y)) (r.labels.fine e b n)) (same_nat e d);
            };
            quiet = quiet_framed K h.history h.u (table z W K E v) (belief z (Q z W C K E S R w x d i g other left v o sane h kin dark)) (belief z (Q z W C K E S R w x d i g other left v o sane h kin dark)) (within_self (belief z (Q z W C K E S R w x d i g other left v o sane h kin dark))) ((back z W C K E S R w x d i g other left) f) f
                (record {
                  on_log = λ e j a. (back_other z W C K E S R w x d i g other left) f (log e j) (lit_other e a);
                  on_strip_lem = λ e t j a. (back_other z W C K E S R w x d i g other left) f (strip e t j) (lit_other e a);
                }) r.quiet;
          }
        where
          r : (At z W C K E S R w x d i g other left v o sane h kin dark) ((back z W C K E S R w x d i g other left) f)
          r = h.rest ((back z W C K E S R w x d i g other left) f) (back_possible f q)

          same : (e : ℕ) (b : Bool) → e ≢ d → copy C f e b ≡ copy C ((back z W C K E S R w x d i g other left) f) e b
          same e b n = copy_same C ((back z W C K E S R w x d i g other left) f) f e b ((back_other z W C K E S R w x d i g other left) f (label e b) n)

          new : (e : ℕ) (b : Bool) → e ≡ d → copy C f e b ≡ copy C (x.stock i) e b
          new e b y = copy_same C (x.stock i) f e b ((q (label e b)).0 y)

          strange : (e : ℕ) → e ≡ d → i ≢ x.inn e
          strange e y n = other (n ∙ ap x.inn y)

      -- the disk that is taken out is aside
      out_aside : (b : Bool) → d < z.n → Aside z W C (Q z W C K E S R w x d i g other left v o sane h kin dark) (Q z W C K E S R w x d i g other left v o sane h kin dark) (Q z W C K E S R w x d i g other left v o sane h kin dark).generation d (copy C g d b)
      unfolding Always belief
      out_aside b dn =
          let r = (h.rest g left).labels in
          record {
            cap = r.cap d b dn;
            fine = r.fine d b dn;
            own = λ p u l. unlit (⊎_elim (λ n. n.look_in d l) (λ n. n.1.look_in d l) (r.fine d b dn p u).narrow);
            near = λ p u l. absurd (unlit l);
          }

      disk_lying : Lying z W C (noted (idle o) (x' z W C K E S R w x d i g other left)) (Q z W C K E S R w x d i g other left v o sane h kin dark)
      disk_lying e j b n m =
          ⊎_elim (λ y. subst (λ (t : ℕ). Aside z W C (Q z W C K E S R w x d i g other left v o sane h kin dark) (Q z W C K E S R w x d i g other left v o sane h kin dark) (Q z W C K E S R w x d i g other left v o sane h kin dark).generation t (copy C ((x' z W C K E S R w x d i g other left).stock j) t b)) (sym y) (here (subst (λ (t : ℕ). t < z.n) y n))) there (same_nat e d)
        where
          there : e ≢ d → Aside z W C (Q z W C K E S R w x d i g other left v o sane h kin dark) (Q z W C K E S R w x d i g other left v o sane h kin dark) (Q z W C K E S R w x d i g other left v o sane h kin dark).generation e (copy C ((x' z W C K E S R w x d i g other left).stock j) e b)
          there y = let q : (x' z W C K E S R w x d i g other left).inn e ≡ x.inn e = rw (ne_eqb e d y) in aside_copy z W C (Q z W C K E S R w x d i g other left v o sane h kin dark) (Q z W C K E S R w x d i g other left v o sane h kin dark) (Q z W C K E S R w x d i g other left v o sane h kin dark).generation e b (x.stock j) ((x' z W C K E S R w x d i g other left).stock j) (rw (ne_eqb e d y)) (kin.lying e j b n (λ u. m (u ∙ sym q)))

          here : d < z.n → Aside z W C (Q z W C K E S R w x d i g other left v o sane h kin dark) (Q z W C K E S R w x d i g other left v o sane h kin dark) (Q z W C K E S R w x d i g other left v o sane h kin dark).generation d (copy C ((x' z W C K E S R w x d i g other left).stock j) d b)
          here dn =
              ⊎_elim (λ q. aside_copy z W C (Q z W C K E S R w x d i g other left v o sane h kin dark) (Q z W C K E S R w x d i g other left v o sane h kin dark) (Q z W C K E S R w x d i g other left v o sane h kin dark).generation d b g ((x' z W C K E S R w x d i g other left).stock j) (rw (eq-eqb d d refl, eq-eqb j (x.inn d) q)) (out_aside b dn))
              (λ q. aside_copy z W C (Q z W C K E S R w x d i g other left v o sane h kin dark) (Q z W C K E S R w x d i g other left v o sane h kin dark) (Q z W C K E S R w x d i g other left v o sane h kin dark).generation d b (x.stock j) ((x' z W C K E S R w x d i g other left).stock j) (rw (eq-eqb d d refl, ne_eqb j (x.inn d) q)) (kin.lying d j b dn q)) (same_nat j (x.inn d))

      disk_idle : (Made z W C K E S R) (w' z W C K E S R w x d i g other left) (idle o) (noted (idle o) (x' z W C K E S R w x d i g other left)) (sure v)
      disk_idle = (
        (
          disk_sane sane,
          record { history = h.history; u = h.u; used = h.used; early = h.early; born = h.born; epoch_now = h.epoch_now; sound = h.sound; most = h.most; rest = disk_rest; dark = h.dark },
        ),
        record { at_home = λ e n. refl; born = kin.born; rises = kin.rises; lying = disk_lying; lying' = disk_lying },
      )

  -- REQUESTS: the old promise, and the disks aside stay so
  kin_answer : (x : Disks X) (m m' : Memory X) (v : Verdict) (r : Reply X) → (KinOf z W C K E S R) x m → (KinOf z W C K E S R) x m' → (KinOf z W C K E S R) x (answer z W C K E S R m v m' r).0
  kin_answer x m m' clear r h g = g
  kin_answer x m m' (because why) r h g = h

  -- the next label
  kin_next : (x : Disks X) (o o' : Own) → o'.now.generation ≡ suc o.now.generation → (Kin z W C K E S R) x o o → (Kin z W C K E S R) x o o'
  kin_next x o o' e h = record { at_home = h.at_home; born = h.born; rises = omega arith; lying = h.lying; lying' = lying_next z W C x o.now o'.now e h.lying }

  kin_end : (x : Disks X) (o o' : Own) → (Kin z W C K E S R) x o o' → (Kin z W C K E S R) x o' o'
  kin_end x o o' h = record { at_home = h.at_home; born = omega (arith, h.born, h.rises); rises = omega arith; lying = h.lying'; lying' = h.lying' }

  kin_idle : (x : Disks X) (o : Own) (f : Image X) (i : Input X) → (Kin z W C K E S R) x o o → (KinOf z W C K E S R) x (from_idle z W C K E S R o f i).0
  kin_idle x o f create h = kin_answer x (idle o) (idle o) (may z W C K E S R false o create) accepted h h
  kin_idle x o f (start A) h = kin_answer x (idle o) (idle o) (may z W C K E S R false o (start A)) accepted h h
  kin_idle x o f (read_block t i) h = kin_answer x (idle o) (idle o) (may z W C K E S R false o (read_block t i)) _ h h
  kin_idle x o f (write t ch) h = kin_answer x (idle o) (asked_write z W C K E S R o f t ch) (may z W C K E S R false o (write t ch)) accepted h (record { at_home = h.at_home; born = h.born; rises = omega arith; lying = h.lying; lying' = h.lying })
  kin_idle x o f (take_out d) h = kin_answer x (idle o) (asked_out z W C K E S R o d) (may z W C K E S R false o (take_out d)) accepted h (kin_next x o _ refl h)
  kin_idle x o f (begin d) h = kin_answer x (idle o) (asked_begin z W C K E S R o f d) (may z W C K E S R false o (begin d)) accepted h (kin_next x o _ refl h)
  kin_idle x o f (rebuild_on b) h = kin_answer x (idle o) (asked_on z W C K E S R o f b) (may z W C K E S R false o (rebuild_on b)) accepted h (go (last_batch z W C K E S R o b))
    where
      go : (y : Bool) → (KinOf z W C K E S R) x (cond y (asked_heal z W C K E S R o f) (asked_raise z W C K E S R o f (at_least_one z W C K E S R b)))
      go true = kin_next x o _ refl h
      go false = kin_next x o _ refl h
  kin_idle x o f (repair t) h = kin_answer x (idle o) (asked_repair z W C K E S R o f t) (may_repair z W C K E S R false o f t) accepted h (record { at_home = h.at_home; born = h.born; rises = omega arith; lying = h.lying; lying' = h.lying })
  kin_idle x o f (scrub_stripe t) h = kin_answer x (idle o) (idle o) (may z W C K E S R false o (scrub_stripe t)) _ h h
  kin_idle x o f step h = kin_answer x (idle o) (idle o) (may z W C K E S R false o step) accepted h h

  kin_step : (x : Disks X) (k : Kind X) (l : List (Action X)) (o o' : Own) → (KinOf z W C K E S R) x (doing k l o o') → (KinOf z W C K E S R) x (one_step z W C K E S R k l o o').0
  kin_step x creating l o o' h = absurd h
  kin_step x starting l o o' h = absurd h
  kin_step x (logging wr) (a ∷ l) o o' h = h
  kin_step x (storing wr) (a ∷ l) o o' h = h
  kin_step x labelling (a ∷ l) o o' h = h
  kin_step x (logging wr) [] o o' h = h
  kin_step x (storing wr) [] o o' h = kin_end x o o' h
  kin_step x labelling [] o o' h = kin_end x o o' h

  kin_doing : (x : Disks X) (k : Kind X) (l : List (Action X)) (o o' : Own) (f : Image X) (i : Input X) → (KinOf z W C K E S R) x (doing k l o o') → (KinOf z W C K E S R) x (from_doing z W C K E S R k l o o' f i).0
  kin_doing x k l o o' f create h = kin_answer x (doing k l o o') (doing k l o o') (may z W C K E S R true o create) accepted h h
  kin_doing x k l o o' f (start A) h = kin_answer x (doing k l o o') (doing k l o o') (may z W C K E S R true o (start A)) accepted h h
  kin_doing x k l o o' f (read_block t i) h = h
  kin_doing x k l o o' f (write t ch) h = kin_answer x (doing k l o o') (doing k l o o') (may z W C K E S R true o (write t ch)) accepted h h
  kin_doing x k l o o' f (take_out d) h = kin_answer x (doing k l o o') (doing k l o o') (may z W C K E S R true o (take_out d)) accepted h h
  kin_doing x k l o o' f (begin d) h = kin_answer x (doing k l o o') (doing k l o o') (may z W C K E S R true o (begin d)) accepted h h
  kin_doing x k l o o' f (rebuild_on b) h = kin_answer x (doing k l o o') (doing k l o o') (may z W C K E S R true o (rebuild_on b)) accepted h h
  kin_doing x k l o o' f (repair t) h = kin_answer x (doing k l o o') (doing k l o o') (may_repair z W C K E S R true o f t) accepted h h
  kin_doing x k l o o' f (scrub_stripe t) h = h
  kin_doing x k l o o' f step h = kin_step x k l o o' h

  kin_program : (x : Disks X) (m : Memory X) (f : Image X) (i : Input X) → (KinOf z W C K E S R) x m → (KinOf z W C K E S R) x (program z W C K E S R m f i).0
  unfolding program
  kin_program x nothing f i h = absurd h
  kin_program x (idle o) f i h = kin_idle x o _ i h
  kin_program x (doing k l o o') f i h = kin_doing x k l o o' _ i h

  noted_kin : (x : Disks X) (o : Own) → (Kin z W C K E S R) x o o → (Kin z W C K E S R) (noted (idle o) x) o o
  noted_kin x o h = record { at_home = λ e n. refl; born = h.born; rises = h.rises; lying = h.lying; lying' = h.lying' }

  -- what holds after an event, from the old invariant
  kin_holds : (w : World X) (m : Memory X) (x : Disks X) (p : View X) → x.made ≡ true → (KinOf z W C K E S R) x m → Invariant z W C K E S R (at w m) p → (Stage z W C K E S R) (noted m x).made w m (noted m x) p
  kin_holds w nothing x p e h i = absurd h
  kin_holds w (idle o) x p e h i = (i, noted_kin x o h)
  kin_holds w (doing creating l o o') x p e h i = absurd h
  kin_holds w (doing starting l o o') x p e h i = absurd h
  kin_holds w (doing (logging wr) l o o') x p e h i = as_made w (doing (logging wr) l o o') x p e (i, h)
  kin_holds w (doing (storing wr) l o o') x p e h i = as_made w (doing (storing wr) l o o') x p e (i, h)
  kin_holds w (doing labelling l o o') x p e h i = as_made w (doing labelling l o o') x p e (i, h)

  kin_host : (w : World X) (m : Memory X) (x : Disks X) (i : Input X) (p : View X) → x.made ≡ true → (KinOf z W C K E S R) x m → Invariant z W C K E S R (at w m) p → (Replies z W C K E S R) w m x i (program z W C K E S R m w.cur i) p
  unfolding Next
  kin_host w m x i p e h inv =
      let y = simulate z W C K E S R (from_host {w = w} {m = m} i) p inv in
      (y.0, y.1, kin_holds (effect w (program z W C K E S R m w.cur i).1) (program z W C K E S R m w.cur i).0 x y.0 e (kin_program x m w.cur i h) y.2)

  -- before the shelf is made
  strange_kin : (x : Disks X) (o : Own) → 0 < o.now.generation → Strange z C x → (Kin z W C K E S R) x o o
  strange_kin x o b h = record { at_home = h.at_home; born = b; rises = omega arith; lying = strange_lying z W C x o.now h; lying' = strange_lying z W C x o.now h }

  ready_born : (w : World X) (o : Own) (p : View X) → Invariant z W C K E S R (at w (idle o)) p → 0 < o.now.generation
  ready_born w o (sure v) h = omega (arith, h.1.born, h.1.epoch_now)
  ready_born w o (open_write v v') h = absurd h
  ready_born w o (kept_write v') h = absurd h

  strange_holds : (w : World X) (m : Memory X) (x : Disks X) (p : View X) → x.made ≡ false → Strange z C x → Invariant z W C K E S R (at w m) p → (Stage z W C K E S R) (noted m x).made w m (noted m x) p
  strange_holds w nothing x p e h i = as_strange w nothing x p e (i, h)
  strange_holds w (idle o) x p e h i = (i, noted_kin x o (strange_kin x o (ready_born w o p i) h))
  strange_holds w (doing k l o o') x p e h i = as_strange w (doing k l o o') x p e (i, h)

  strange_host : (w : World X) (m : Memory X) (x : Disks X) (i : Input X) (p : View X) → x.made ≡ false → Strange z C x → Invariant z W C K E S R (at w m) p → (Replies z W C K E S R) w m x i (program z W C K E S R m w.cur i) p
  unfolding Next
  strange_host w m x i p e h inv =
      let y = simulate z W C K E S R (from_host {w = w} {m = m} i) p inv in
      (y.0, y.1, strange_holds (effect w (program z W C K E S R m w.cur i).1) (program z W C K E S R m w.cur i).0 x y.0 e h y.2)

  -- START-UP
  module _ (w : World X) (x : Disks X) (p : View X) (made : x.made ≡ true) (h : (OffAll z W C K E S R) p w x) where
    -- whatever f turns out to be there, a label is seen that is no older than the settled one
    pub low : (A : ℕ → Bool) → (Asks z W C K E S R w x p made h) A → (f : Image X) → Possible w f → ((k : Place) → A (slot k) ≡ false → f k ≡ w.cur k) → Accepted z W C A f → (y : (All z W C K E S R w x p made h) f) → y.shelf.Q.generation ≤ M z C A f
    low A asks f q a ok y =
        asked_low z W C K E S R h.ghost p x A w f q (M_same z W C K A f w.cur a (some_seen z W C K h.ghost.history A f ok)) (few_absent z W C K h.ghost.history A f ok) y asks

    rising : (A : ℕ → Bool) → may_start z W C K E S R (beyond z.n A) (mask z W C K E S R (beyond z.n A) w.cur) ≡ clear → (Asks z W C K E S R w x p made h) (beyond z.n A) → (Made z W C K E S R) w (asked_start z W C K E S R (beyond z.n A) (mask z W C K E S R (beyond z.n A) w.cur)) x p
    unfolding Sane
    rising A ok asks =
        let A' = beyond z.n A in
        let seen = mask z W C K E S R A' w.cur in
        let g = h.ghost in
        let agree : (k : Place) → A' (slot k) ≡ false → seen k ≡ w.cur k = λ k a. mask_present z W C K E S R A' w.cur k a in
        let r = start_safe z W C K E S R A' seen ok w agree (λ d a. beyond_in z.n A d a) g (All z W C K E S R w x p made h) h.sane h.early h.left p h.pends (λ f q a y u. meets z W C K E S R g p x A' f y u (low A' asks f q a y u)) in
        let there = accept_f z W C K E S R A' seen ok w.cur agree in
        let y = always_cur (All z W C K E S R w x p made h) w h.sane h.left in
        let lying = settled_lying z W C K E S R g p x A' w.cur there y (low A' asks w.cur h.sane (λ k a. refl) there y) in
        record {
          sane = h.sane;
          ghost = g;
          early = h.early;
          pends = h.pends;
          born = h.born;
          during = r.0;
          ends = r.1;
          spares = spared z W C K E S R A' seen ok;
          lying = subst (Lying z W C x) (same_label_lem z W C K E S R A' seen ok w.cur agree) lying;
        }

    host_start : (A : ℕ → Bool) → Asked z W C K E S R w nothing (start A) (program z W C K E S R nothing w.cur (start A)).1 x → (Replies z W C K E S R) w nothing x (start A) (program z W C K E S R nothing w.cur (start A)) p
    unfolding Next program
    host_start A asked = go (may_start z W C K E S R A' seen) refl asked
      where
        A' : ℕ → Bool
        A' = beyond z.n A

        seen : Image X
        seen = mask z W C K E S R A' w.cur

        go : (v : Verdict) → may_start z W C K E S R A' seen ≡ v → ((answer z W C K E S R nothing v (asked_start z W C K E S R A' seen) accepted).1 ≡ accepted → (Asks z W C K E S R w x p made h) A') → (Replies z W C K E S R) w nothing x (start A) (answer z W C K E S R nothing v (asked_start z W C K E S R A' seen) accepted) p
        go clear e a = (p, refl, as_made w (asked_start z W C K E S R A' seen) x p made (rising A e (a refl)))
        go (because why) e a = (p, refl, as_made w nothing x p made h)

    -- create is refused: the bays are not all empty
    pub not_blank : Zeros z W C K E S R w.cur → (W.few (beyond z.n (λ d. false)) ≡ true → (y : (All z W C K E S R w x p made h) w.cur) → y.shelf.Q.generation ≤ M z C (beyond z.n (λ d. false)) w.cur) → ⊥
    unfolding Sane
    not_blank empty sees =
        let y = always_cur (All z W C K E S R w x p made h) w h.sane h.left in
        let A = beyond z.n (λ d. false) in
        let few : W.few A ≡ true = W.part A y.shelf.Q.out (λ d i q. absurd (true≢false (sym q ∙ beyond_none z.n d i))) y.shelf.labels.few_Q in
        omega (arith, h.born, unborn z W C K E S R h.ghost p x A w w.cur h.sane refl few y (sees few y) (copy_zeros z W C K E S R w.cur empty))

    host_create : Asked z W C K E S R w nothing create (program z W C K E S R nothing w.cur create).1 x → (Replies z W C K E S R) w nothing x create (program z W C K E S R nothing w.cur create) p
    unfolding Next program Sane
    host_create asked = go (may_create z W C K E S R seen) refl asked
      where
        A' : ℕ → Bool
        A' = beyond z.n (λ d. false)

        seen : Image X
        seen = mask z W C K E S R A' w.cur

        go : (v : Verdict) → may_create z W C K E S R seen ≡ v → ((answer z W C K E S R nothing v (asked_create z W C K E S R) accepted).1 ≡ accepted → (Asks z W C K E S R w x p made h) A') → (Replies z W C K E S R) w nothing x create (answer z W C K E S R nothing v (asked_create z W C K E S R) accepted) p
        go clear e a = absurd (not_blank (zeros_same z W C K E S R seen w.cur (λ k i. sym (mask_present z W C K E S R A' w.cur k (beyond_none z.n (slot k) i))) (create_tests z W C K E S R seen e).0) (λ few y. asked_low z W C K E S R h.ghost p x A' w w.cur h.sane refl few y (a refl)))
        go (because why) e a = (p, refl, as_made w nothing x p made h)

    host_nothing : (i : Input X) → Asked z W C K E S R w nothing i (program z W C K E S R nothing w.cur i).1 x → (Replies z W C K E S R) w nothing x i (program z W C K E S R nothing w.cur i) p
    unfolding Next program
    host_nothing create a = host_create a
    host_nothing (start A) a = host_start A a
    host_nothing (read_block t i) a = (p, refl, as_made w nothing x p made h)
    host_nothing (write t ch) a = (p, refl, as_made w nothing x p made h)
    host_nothing (take_out d) a = (p, refl, as_made w nothing x p made h)
    host_nothing (begin d) a = (p, refl, as_made w nothing x p made h)
    host_nothing (rebuild_on b) a = (p, refl, as_made w nothing x p made h)
    host_nothing (scrub_stripe t) a = (p, refl, as_made w nothing x p made h)
    host_nothing (repair t) a = (p, refl, as_made w nothing x p made h)
    host_nothing step a = (p, refl, as_made w nothing x p made h)

  -- a start-up under way
  rising_act : (p : View X) (w : World X) (a : Action X) (l : List (Action X)) (o o' : Own) (x : Disks X) → (Rising z W C K E S R) p w (a ∷ l) o o' x → (Rising z W C K E S R) p (act w a) l o o' x
  rising_act p w a l o o' x h =
      record {
        sane = sane_act w a h.sane;
        ghost = h.ghost;
        early = h.early;
        pends = h.pends;
        born = h.born;
        during = h.during.1;
        ends = h.ends;
        spares = each_tail (λ j. o'.absent (slot j) ≡ false) (λ d. o'.absent d ≡ false) a l h.spares;
        lying = h.lying;
      }

  module _ (w : World X) (o o' : Own) (x : Disks X) (made : x.made ≡ true) where
    risen : Lying z W C x o'.now → (v : Host X) → Ready z W C K E S R v w o' → (Kin z W C K E S R) (noted (idle o') x) o' o'
    risen lying v r = record { at_home = λ e n. refl; born = omega (arith, r.born, r.epoch_now); rises = omega arith; lying = lying; lying' = lying }

    rising_step : (l : List (Action X)) (p : View X) → (Rising z W C K E S R) p w l o o' x → (Replies z W C K E S R) w (doing starting l o o') x step (one_step z W C K E S R starting l o o') p
    unfolding Next
    rising_step (a ∷ l) p h = (p, refl, as_made (act w a) (doing starting l o o') x p made (rising_act p w a l o o' x h))
    rising_step [] (sure v) h = (sure v, refl, ((h.sane, h.ends), risen h.lying v h.ends))
    rising_step [] (open_write v v') h = ⊎_elim (λ r. (sure v, inl refl, ((h.sane, r), risen h.lying v r))) (λ r. (sure v', inr refl, ((h.sane, r), risen h.lying v' r))) h.ends
    rising_step [] (kept_write v') h = (sure v', refl, ((h.sane, h.ends), risen h.lying v' h.ends))

    module _ (l : List (Action X)) (p : View X) (h : (Rising z W C K E S R) p w l o o' x) where
      rising_same : (Stage z W C K E S R) x.made w (me z W C K E S R w o o' x made l p h) x p
      rising_same = as_made w (me z W C K E S R w o o' x made l p h) x p made h

      rising_host : (f : Image X) (i : Input X) → (Replies z W C K E S R) w (me z W C K E S R w o o' x made l p h) x i (from_doing z W C K E S R starting l o o' f i) p
      unfolding Next
      rising_host f create = (p, refl, rising_same)
      rising_host f (start A) = (p, refl, rising_same)
      rising_host f (read_block t i) = go (may z W C K E S R true o (read_block t i))
        where
          go : (v : Verdict) → (Replies z W C K E S R) w (me z W C K E S R w o o' x made l p h) x (read_block t i) ((me z W C K E S R w o o' x made l p h), meanwhile z W C K E S R starting o f t i v) p
          go clear = (p, refl, rising_same)
          go (because why) = (p, refl, rising_same)
      rising_host f (write t ch) = go (not (ltb t z.T && proper z W K E ch))
        where
          go : (b : Bool) → (Replies z W C K E S R) w (me z W C K E S R w o o' x made l p h) x (write t ch) (answer z W C K E S R (me z W C K E S R w o o' x made l p h) (cond b (because BAD_BLOCK) (because BUSY)) (me z W C K E S R w o o' x made l p h) accepted) p
          go true = (p, refl, rising_same)
          go false = (p, refl, rising_same)
      rising_host f (take_out d) = go (not (W.few (outed z.n o.now d).out)) (not (ltb d z.n))
        where
          go : (a b : Bool) → (Replies z W C K E S R) w (me z W C K E S R w o o' x made l p h) x (take_out d) (answer z W C K E S R (me z W C K E S R w o o' x made l p h) (cond a (because TOO_FEW) (cond b (because BAD_BLOCK) (because BUSY))) (me z W C K E S R w o o' x made l p h) accepted) p
          go true b = (p, refl, rising_same)
          go false true = (p, refl, rising_same)
          go false false = (p, refl, rising_same)
      rising_host f (begin d) = go (not (ltb d z.n))
        where
          go : (b : Bool) → (Replies z W C K E S R) w (me z W C K E S R w o o' x made l p h) x (begin d) (answer z W C K E S R (me z W C K E S R w o o' x made l p h) (cond b (because BAD_BLOCK) (because BUSY)) (me z W C K E S R w o o' x made l p h) accepted) p
          go true = (p, refl, rising_same)
          go false = (p, refl, rising_same)
      rising_host f (rebuild_on b) = (p, refl, rising_same)
      rising_host f (repair t) = go (not (ltb t z.T))
        where
          go : (b : Bool) → (Replies z W C K E S R) w (me z W C K E S R w o o' x made l p h) x (repair t) (answer z W C K E S R (me z W C K E S R w o o' x made l p h) (also z W C K E S R (cond b (because BAD_BLOCK) (because BUSY)) (not (blames (finding z W C K E S R f t)))) (me z W C K E S R w o o' x made l p h) accepted) p
          go true = (p, refl, rising_same)
          go false = (p, refl, rising_same)
      rising_host f (scrub_stripe t) = go (may z W C K E S R true o (scrub_stripe t))
        where
          go : (v : Verdict) → (Replies z W C K E S R) w (me z W C K E S R w o o' x made l p h) x (scrub_stripe t) ((me z W C K E S R w o o' x made l p h), scrubbed z W C K E S R starting o f t v) p
          go clear = (p, refl, rising_same)
          go (because why) = (p, refl, rising_same)
      rising_host f step = rising_step l p h

  made_host : (w : World X) (m : Memory X) (x : Disks X) (i : Input X) (p : View X) → x.made ≡ true → (Made z W C K E S R) w m x p → Asked z W C K E S R w m i (program z W C K E S R m w.cur i).1 x → (Replies z W C K E S R) w m x i (program z W C K E S R m w.cur i) p
  unfolding program
  made_host w nothing x i p e h a = host_nothing w x p e h i a
  made_host w (idle o) x i p e h a = kin_host w (idle o) x i p e h.1 h.0
  made_host w (doing creating l o o') x i p e h a = absurd h
  made_host w (doing starting l o o') x i p e h a = rising_host w o o' x e l p h (mask z W C K E S R (unseen z W C K E S R (doing starting l o o') i) w.cur) i
  made_host w (doing (logging wr) l o o') x i p e h a = kin_host w (doing (logging wr) l o o') x i p e h.1 h.0
  made_host w (doing (storing wr) l o o') x i p e h a = kin_host w (doing (storing wr) l o o') x i p e h.1 h.0
  made_host w (doing labelling l o o') x i p e h a = kin_host w (doing labelling l o o') x i p e h.1 h.0

  -- the program is ready: made or not, the disks are as they must be
  pub ready_kin : (w : World X) (o : Own) (x : Disks X) (p : View X) → (Holds z W C K E S R) (room w (idle o) x) p → Invariant z W C K E S R (at w (idle o)) p × (Kin z W C K E S R) x o o
  ready_kin w o x p h = ⊎_elim (λ y. y.1) (λ y. (y.1, strange_kin x o (ready_born w o p y.1) y.2)) (made_or_not w (idle o) x p h)

  swap_on : (w : World X) (o : Own) (x : Disks X) (d i : ℕ) (g : Image X) → looked z o.now d ≡ false → i ≢ x.inn d → Possible w g → (p : View X) → Invariant z W C K E S R (at w (idle o)) p × (Kin z W C K E S R) x o o → (Next z W C K E S R) (room (with_disk w d (x.stock i)) (idle o) (noted (idle o) (exchanged x d i g))) swap p
  unfolding Next
  swap_on w o x d i g dark n q (sure v) h = (sure v, refl, disk_idle w x d i g n q v o h.0.0 h.0.1 h.1 dark)
  swap_on w o x d i g dark n q (open_write v v') h = absurd h.0
  swap_on w o x d i g dark n q (kept_write v') h = absurd h.0

  -- EACH EVENT: the view goes on as it is allowed to
  pub exchange_simulate : {r r' : Room X} {e : Event X} → Befalls z W C K E S R r e r' → (p : View X) → (Holds z W C K E S R) r p → (p' : View X) × Goes K.c e p p' × (Holds z W C K E S R) r' p'
  unfolding Next
  exchange_simulate (Exchange.power_cut {w = w} {m = m} {x = x} f q) p h =
      ⊎_elim (λ y. (p, refl, as_made (after f) nothing x p y.0 (off_cut p w x f q (made_off w m x p y.1))))
      (λ y. let s = simulate z W C K E S R (from_outside (power_cut {w = w} {m = m} f q)) p y.1 in (s.0, s.1, as_strange (after f) nothing x s.0 y.0 (s.2, y.2))) (made_or_not w m x p h)
  exchange_simulate (Exchange.program_dies {w = w} {m = m} {x = x}) p h =
      ⊎_elim (λ y. (p, refl, as_made w nothing x p y.0 (made_off w m x p y.1)))
      (λ y. let s = simulate z W C K E S R (from_outside (program_dies {w = w} {m = m})) p y.1 in (s.0, s.1, as_strange w nothing x s.0 y.0 (s.2, y.2))) (made_or_not w m x p h)
  exchange_simulate (Exchange.swapped_off {w = w} {x = x} d i g e n q) p h =
      ⊎_elim (λ y. (p, refl, as_made (with_disk w d (x.stock i)) nothing (exchanged x d i g) p e (disk_off w x d i g n q p y.1)))
      (λ y. absurd (false≢true (sym y.0 ∙ e))) (made_or_not w nothing x p h)
  exchange_simulate (Exchange.swapped_on {w = w} {o = o} {x = x} d i g dark n q) p h = swap_on w o x d i g dark n q p (ready_kin w o x p h)
  exchange_simulate (Exchange.from_host {w = w} {m = m} {x = x} i a) p h =
      ⊎_elim (λ y. made_host w m x i p y.0 y.1 a) (λ y. strange_host w m x i p y.0 y.2 y.1) (made_or_not w m x p h)

  -- THE PROMISE, for any sequence of events
  pub exchange_promise : {r r' : Room X} {l : List (Event X)} → Befell z W C K E S R r l r' → (p : View X) → (Holds z W C K E S R) r p → (p' : View X) × Views K.c p l p' × (Holds z W C K E S R) r' p'
  exchange_promise Exchange.stays p h = (p, same, h)
  exchange_promise (Exchange.goes s r) p h =
      let a = exchange_simulate s p h in
      let b = exchange_promise r a.0 a.2 in
      (b.0, next a.1 b.1, b.2)

  -- FROM ZEROS ON. A shelf begins with disks of zeros in its bays, strange ones lying around, and no program; whatever happens then, in any order and as often as it likes (create,
  -- start-ups, requests, reads, steps, cuts, deaths, exchanged disks), the host's view goes on as it is allowed to, beginning with the list of zeros.
  pub exchange_promised : (w : World X) (x : Disks X) → Sane w → W.few (λ d. false) ≡ true → Always w (Zeros z W C K E S R) → x.made ≡ false → Strange z C x → {r : Room X} {l : List (Event X)} → Befell z W C K E S R (room w nothing x) l r → (p : View X) × Views K.c (sure (λ t i j. K.zeros)) l p × (Holds z W C K E S R) r p
  exchange_promised w x sane few h made strange r =
      exchange_promise r (sure (λ t i j. K.zeros)) (as_strange w nothing x (sure (λ t i j. K.zeros)) made (zeros_off z W C K E S R w sane few h, strange))
