-- ALL DISKS OF ALL SLOTS, and what start-up meets in the bays. In words: for each slot there is one disk that belongs to the shelf, wherever it is. These disks together are as the
-- disks of a shelf must be (Shelf). Every other disk of a slot is aside (Aside): each of its labels is two or more generations older than the settled label Q, or calls its own slot
-- plainly out, or is one generation older, where Q calls the slot plainly out itself. So start-up notices such a disk and calls its slot out. The disk that belongs to the shelf is the
-- slot's last disk, the one that was there when the program was last ready, but for slots that neither Q nor N looks at.
use Rattle.std.specs.Prelude.{ℕ, suc, ◌≤◌, ◌<◌, ◌≡◌, Bool, not, ◌||◌, ◌⊎◌, ◌≢◌, eqb}
use Rattle.std.proofs.Math.Path.{refl, sym, ap, subst, fun_ext}
use Rattle.std.proofs.Common.{◌∙◌, true≢false, inl, inr, arith, eq-eqb, ne_eqb, eqb-true}
use Rattle.std.proofs.Math.Bool.{true, false, cond}
use Rattle.std.proofs.Math.Logic.{⊎_elim}
use Rattle.protocol.specs.World.{label, log, strip, slot, Image, World, Possible}
use Rattle.protocol.specs.Log.{RecordCodec, Belief, within_self}
use Rattle.protocol.specs.Label.{Label, Size, looked, belief, Quorum, LabelCodec, copy, copy_same, Aged, Labels}
use Rattle.protocol.proofs.Label.{look_of, look_is}
use Rattle.protocol.specs.Bays.{front, Aside, Bays}
use Rattle.protocol.proofs.Bays.{aside_top}
use Rattle.protocol.specs.Startup.{M, Framed, Shelf, Same, Settles, seen_aged, M_none}
use Rattle.protocol.specs.Decide.{Accepted, Met}
use Rattle.protocol.proofs.Decide.{base_below, done_settles}
use Rattle.protocol.specs.Host.{Code}
use Rattle.protocol.specs.Program.{Stamps, Medium}
use Rattle.protocol.specs.Machine.{View}
use Rattle.protocol.specs.Invariant.{Ghost, Under, Left}
use Rattle.protocol.proofs.Promise.{under_framed}
use Rattle.protocol.specs.Exchange.{Disks, moved, pile, Strange, Familiar, Newest}
use Rattle.protocol.specs.Apart.{same_nat, pile_in, pile_out, chosen, chosen_inn, Lying, chosen_copy, Whole, AtHome, D, odd, last, Q, N, S0}

module _ {X : Type 0} (z : Size) (W : Quorum z.n) (C : LabelCodec X z.n) where
  pub aside_copy : (Q N : Label) (top d : ℕ) (b : Bool) (f g : Image X) → f (label d b) ≡ g (label d b) → Aside z W C Q N top d (copy C f d b) → Aside z W C Q N top d (copy C g d b)
  aside_copy Q N top d b f g e h = subst (Aside z W C Q N top d) (sym (copy_same C f g d b (sym e))) h

  -- a newer label is settled: what was aside is still aside
  aside_next : (Q N : Label) (top d : ℕ) (l base : Label) → base.generation < Q.generation → Q.generation ≤ top → Aside z W C base base base.generation d l → Aside z W C Q N top d l
  aside_next Q N top d l base i j h =
      record {
        cap = omega (arith, h.cap);
        fine = λ p q. absurd (omega (arith, h.cap));
        own = λ p q. absurd (omega (arith, h.cap));
        near = λ p q a. h.own p (omega (arith, h.cap));
      }

  -- one is about to be
  aside_about : (Q N : Label) (top d : ℕ) (l : Label) → Q.generation ≤ top → Aside z W C Q Q Q.generation d l → Aside z W C Q N top d l
  aside_about Q N top d l j h =
      record {
        cap = omega (arith, h.cap);
        fine = λ p q. let y = h.fine p q in record { few_out = y.few_out; same_out = y.same_out; narrow = inl (⊎_elim (λ n. n) (λ n. n.1) y.narrow) };
        own = h.own;
        near = h.near;
      }

  pub lying_next : (x : Disks X) (Q N : Label) → N.generation ≡ suc Q.generation → (Lying z W C) x Q → (Lying z W C) x N
  lying_next x Q N e h d i b dn n = aside_next N N N.generation d (copy C (x.stock i) d b) Q (omega arith) (omega arith) (h d i b dn n)

  -- strange disks are aside under every label
  pub strange_lying : (x : Disks X) (Q : Label) → Strange z C x → (Lying z W C) x Q
  strange_lying x Q h d i b dn n =
      let e = h.unlabelled d i b dn n in
      record { cap = omega (arith, e); fine = λ p q. absurd (omega (arith, e)); own = λ p q. absurd (omega (arith, e)); near = λ p q. absurd (omega (arith, e)) }

module _ {X : Type 0} (z : Size) (W : Quorum z.n) (C : LabelCodec X z.n) (K : RecordCodec X) (E : Code X z.n K.c W) (S : Stamps) (R : Medium z W C K E S) where
  settled_below : (base : Label) (D : Belief → Image X → Type 0) (f : Image X) → (h : Shelf z W C base D f) → h.Q.generation ≤ h.top
  unfolding Aged
  settled_below base D f h =
      let y = W.meet h.Q.out h.Q.out h.labels.few_Q h.labels.few_Q in
      let a = h.labels.low y.0 y.1 y.2 in
      omega (arith, a.1, h.labels.cap y.0 a.0 y.1)

  -- every slot has its last disk, and the others are aside
  pub whole_home : (g : Ghost X) (p : View X) (x : Disks X) (f : Image X) → Lying z W C x g.base → (AtHome z W C K E S R) x → Left z W C K E S R g p f → (Whole z W C K E S R) g p x.home (pile x f)
  whole_home g p x f lie home h =
      let e = chosen_inn x f in
      record {
        virt = x.inn;
        shelf = record { Q = h.Q; since = h.since; N = h.N; top = h.top; far = h.far; labels = subst (Labels z W C h.Q h.N h.top h.far) e h.labels; under_Q = subst (Under z W C K E S R g p (belief z h.Q)) e h.under_Q; under_N = subst (Under z W C K E S R g p (belief z h.N)) e h.under_N };
        apart = λ d i b dn n. aside_copy z W C h.Q h.N h.top d b (x.stock i) (pile x f i) (sym (pile_out x f i (label d b) n)) (still d i b (lie d i b dn n));
        at_home = λ d dn a. home d dn;
      }
    where
      below : h.Q.generation ≤ h.top
      below = settled_below g.base (Under z W C K E S R g p) f h

      still : (d i : ℕ) (b : Bool) → Aside z W C g.base g.base g.base.generation d (copy C (x.stock i) d b) → Aside z W C h.Q h.N h.top d (copy C (x.stock i) d b)
      still d i b a =
          ⊎_elim (λ q. aside_about z W C h.Q h.N h.top d (copy C (x.stock i) d b) below (subst (λ (Q : Label). Aside z W C Q Q Q.generation d (copy C (x.stock i) d b)) (sym q) a))
          (λ j. aside_next z W C h.Q h.N h.top d (copy C (x.stock i) d b) g.base j below a) h.since

  -- THE WITNESS: a slot that is neither absent nor holds another disk than its last, and is not out, is present with its last disk, which belongs to the shelf
  pub witness : (g : Ghost X) (p : View X) (x : Disks X) (A : ℕ → Bool) (f : Image X) (h : (Whole z W C K E S R) g p x.home (pile x f)) → ((d : ℕ) × (d < z.n) × ((A d || moved x d) ≡ false) × (h.shelf.Q.out d ≡ false)) → (d : ℕ) × (d < z.n) × (A d ≡ false) × (h.virt d ≡ x.inn d) × (h.shelf.Q.out d ≡ false)
  witness g p x A f h y =
      let Q = h.shelf.Q in
      let q = neither (A y.0) (moved x y.0) y.2 in
      (y.0, y.1, q.0, in_place y.0 (h.at_home y.0 y.1 (inl (look_is z Q y.0 y.1 (inl y.3)))) (eqb (x.inn y.0) (x.home y.0)) refl q.1, y.3)
    where
      neither : (a b : Bool) → (a || b) ≡ false → (a ≡ false) × (b ≡ false)
      neither true b q = absurd (true≢false q)
      neither false b q = (refl, q)

      in_place : (d : ℕ) → h.virt d ≡ x.home d → (b : Bool) → eqb (x.inn d) (x.home d) ≡ b → not b ≡ false → h.virt d ≡ x.inn d
      in_place d q true e r = q ∙ sym (eqb-true (x.inn d) (x.home d) e)
      in_place d q false e r = absurd (true≢false r)

  -- START-UP SEES A LABEL THAT IS NO OLDER THAN THE SETTLED ONE
  module _ (g : Ghost X) (p : View X) (x : Disks X) (A : ℕ → Bool) (w : World X) (f : Image X) (possible : Possible w f) (same : M z C A f ≡ M z C A w.cur) (few : W.few A ≡ true) (h : (Whole z W C K E S R) g p x.home (pile x f)) where
    pub witness_low : ((d : ℕ) × (d < z.n) × ((A d || moved x d) ≡ false) × (h.shelf.Q.out d ≡ false)) → h.shelf.Q.generation ≤ M z C A f
    unfolding Aged
    witness_low y =
        let d = witness g p x A f h y in
        let a = h.shelf.labels.low d.0 d.1 d.4 in
        seen_aged z W C A f d.0 h.shelf.Q.generation d.1 d.2 (a.0, subst (λ (l : Label). h.shelf.Q.generation ≤ l.generation) (chosen_copy z W C x f h.virt d.0 a.0 d.3) a.1)

    newest_low : Newest z W C K E S R A w x → h.shelf.Q.generation ≤ M z C A f
    unfolding Aged copy
    newest_low newest =
        let y = W.meet h.shelf.Q.out h.shelf.Q.out h.shelf.labels.few_Q h.shelf.labels.few_Q in
        let a = h.shelf.labels.low y.0 y.1 y.2 in
        omega (arith, same, a.1, newest f possible y.0 (h.virt y.0) a.0 y.1)

    pub asked_low : Familiar z W C K E S R A x ⊎ Newest z W C K E S R A w x → h.shelf.Q.generation ≤ M z C A f
    asked_low q = ⊎_elim (λ familiar. witness_low (W.meet (λ d. A d || moved x d) h.shelf.Q.out (familiar few) h.shelf.labels.few_Q)) newest_low q

    -- so the bays do not all look empty, once there is a shelf
    pub unborn : h.shelf.Q.generation ≤ M z C A f → ((d : ℕ) (b : Bool) → d < z.n → (copy C f d b).generation ≡ 0) → g.base.generation ≡ 0
    unborn low none =
        let y = W.meet h.shelf.Q.out h.shelf.Q.out h.shelf.labels.few_Q h.shelf.labels.few_Q in
        omega (arith, base_below z W C g.base (Under z W C K E S R g p) (chosen h.virt (pile x f)) h.shelf, low, M_none z W C A f (omega (arith, y.1)) none)

  -- START-UP MEETS THIS
  module _ (g : Ghost X) (p : View X) (x : Disks X) (A : ℕ → Bool) (f0 : Image X) (ok : Accepted z W C A f0) (h : (Whole z W C K E S R) g p x.home (pile x f0)) (low : h.shelf.Q.generation ≤ M z C A f0) where
    not_odd : (d : ℕ) → (odd z W C K E S R g p x A f0 ok h low) d ≡ false → h.virt d ≡ x.inn d
    not_odd d o = go (eqb (h.virt d) (x.inn d)) refl o
      where
        go : (b : Bool) → eqb (h.virt d) (x.inn d) ≡ b → not b ≡ false → h.virt d ≡ x.inn d
        go true e q = eqb-true (h.virt d) (x.inn d) e
        go false e q = absurd (true≢false q)

    is_odd : (d : ℕ) → h.virt d ≢ x.inn d → (odd z W C K E S R g p x A f0 ok h low) d ≡ true
    is_odd d n = rw (ne_eqb (h.virt d) (x.inn d) n)

    odd_is : (d : ℕ) → (odd z W C K E S R g p x A f0 ok h low) d ≡ true → x.inn d ≢ h.virt d
    odd_is d o q = true≢false (sym o ∙ ap not (eq-eqb (h.virt d) (x.inn d) (sym q)))

    front_chosen : (f : Image X) → front (odd z W C K E S R g p x A f0 ok h low) (last z W C K E S R g p x A f0 ok h low) f ≡ chosen h.virt (pile x f)
    unfolding front pile
    front_chosen f = fun_ext (λ k. go (eqb (h.virt (slot k)) (x.inn (slot k))) (f k) ((last z W C K E S R g p x A f0 ok h low) k))
      where
        go : (b : Bool) (u v : X) → cond (not b) v u ≡ cond b u v
        go true u v = refl
        go false u v = refl

    -- what is read in an odd bay is aside
    in_bay : (f : Image X) (d : ℕ) (b : Bool) → pile x f (x.inn d) (label d b) ≡ f (label d b)
    in_bay f d b = pile_in x f (x.inn d) (label d b) refl

    met_bays : Bays z W C (Q z W C K E S R g p x A f0 ok h low) (N z W C K E S R g p x A f0 ok h low) h.shelf.top h.shelf.far (odd z W C K E S R g p x A f0 ok h low) (last z W C K E S R g p x A f0 ok h low) f0
    met_bays =
        record {
          lasts = subst (Labels z W C (Q z W C K E S R g p x A f0 ok h low) (N z W C K E S R g p x A f0 ok h low) h.shelf.top h.shelf.far) (sym (front_chosen f0)) h.shelf.labels;
          odds = λ d b dn o. aside_copy z W C (Q z W C K E S R g p x A f0 ok h low) (N z W C K E S R g p x A f0 ok h low) h.shelf.top d b (pile x f0 (x.inn d)) f0 (in_bay f0 d b) (h.apart d (x.inn d) b dn (odd_is d o));
        }

    -- while Q and N stand
    met_before : (t : ℕ) (fr : ℕ → Bool) (f : Image X) → h.shelf.top ≤ t → Bays z W C (Q z W C K E S R g p x A f0 ok h low) (N z W C K E S R g p x A f0 ok h low) t fr (odd z W C K E S R g p x A f0 ok h low) (last z W C K E S R g p x A f0 ok h low) f → Same f0 f → (Whole z W C K E S R) g p x.home (pile x f)
    unfolding Framed pile
    met_before t fr f i o s =
        record {
          virt = h.virt;
          shelf = record {
            Q = (Q z W C K E S R g p x A f0 ok h low);
            since = h.shelf.since;
            N = (N z W C K E S R g p x A f0 ok h low);
            top = t;
            far = fr;
            labels = subst (Labels z W C (Q z W C K E S R g p x A f0 ok h low) (N z W C K E S R g p x A f0 ok h low) t fr) (front_chosen f) o.lasts;
            under_Q = stays (belief z (Q z W C K E S R g p x A f0 ok h low)) h.shelf.under_Q;
            under_N = stays (belief z (N z W C K E S R g p x A f0 ok h low)) h.shelf.under_N;
          };
          apart = λ d j b dn n. ⊎_elim
              (λ q. subst (λ (y : ℕ). Aside z W C (Q z W C K E S R g p x A f0 ok h low) (N z W C K E S R g p x A f0 ok h low) t d (copy C (pile x f y) d b)) (sym q) (aside_copy z W C (Q z W C K E S R g p x A f0 ok h low) (N z W C K E S R g p x A f0 ok h low) t d b f (pile x f (x.inn d)) (sym (in_bay f d b)) (o.odds d b dn (is_odd d (λ r. n (q ∙ sym r))))))
              (λ m. aside_copy z W C (Q z W C K E S R g p x A f0 ok h low) (N z W C K E S R g p x A f0 ok h low) t d b (pile x f0 j) (pile x f j) (pile_out x f0 j (label d b) m ∙ sym (pile_out x f j (label d b) m)) (aside_top z W C (Q z W C K E S R g p x A f0 ok h low) (N z W C K E S R g p x A f0 ok h low) h.shelf.top t d (copy C (pile x f0 j) d b) i (h.apart d j b dn n)))
              (same_nat j (x.inn d));
          at_home = h.at_home;
        }
      where
        stays : (B : Belief) → (D z W C K E S R g p x A f0 ok h low) B (chosen h.virt (pile x f0)) → (D z W C K E S R g p x A f0 ok h low) B (chosen h.virt (pile x f))
        stays B y =
            under_framed z W C K E S R g p B B (within_self B) (chosen h.virt (pile x f0)) (chosen h.virt (pile x f))
            (record {
              on_log = λ d j a. ap (λ (v : X). cond (eqb (h.virt d) (x.inn d)) v (x.stock (h.virt d) (log d j))) (s.logs d j);
              on_strip_lem = λ d t j a. ap (λ (v : X). cond (eqb (h.virt d) (x.inn d)) v (x.stock (h.virt d) (strip d t j))) (s.strips d t j);
            }) y

    -- when the new label is settled, the disks in the bays belong to the shelf, and all the others are aside
    pub met_lying : Settles z (odd z W C K E S R g p x A f0 ok h low) (Q z W C K E S R g p x A f0 ok h low) (N z W C K E S R g p x A f0 ok h low) h.shelf.top (S0 z W C K E S R g p x A f0 ok h low) → Lying z W C x (S0 z W C K E S R g p x A f0 ok h low)
    met_lying y d i b dn n = ⊎_elim (λ q. was q) (λ m. other m) (same_nat i (h.virt d))
      where
        c : Label
        c = copy C (x.stock i) d b

        was : i ≡ h.virt d → Aside z W C (S0 z W C K E S R g p x A f0 ok h low) (S0 z W C K E S R g p x A f0 ok h low) (S0 z W C K E S R g p x A f0 ok h low).generation d c
        was q =
            let a : c.generation ≤ h.shelf.top = subst (λ (l : Label). l.generation ≤ h.shelf.top) (copy_same C (x.stock i) (chosen h.virt (pile x f0)) d b (subst (λ (v : ℕ). pile x f0 v (label d b) ≡ x.stock i (label d b)) q (pile_out x f0 i (label d b) n))) (h.shelf.labels.cap d b dn) in
            record {
              cap = omega (arith, y.over_top);
              fine = λ u v. absurd (omega (arith, y.over_top));
              own = λ u v. absurd (omega (arith, y.over_top));
              near = λ u v lit r. y.dark d (is_odd d (λ r. n (q ∙ r))) lit;
            }

        other : i ≢ h.virt d → Aside z W C (S0 z W C K E S R g p x A f0 ok h low) (S0 z W C K E S R g p x A f0 ok h low) (S0 z W C K E S R g p x A f0 ok h low).generation d c
        other m =
            let a = aside_copy z W C (Q z W C K E S R g p x A f0 ok h low) (N z W C K E S R g p x A f0 ok h low) h.shelf.top d b (pile x f0 i) (x.stock i) (pile_out x f0 i (label d b) n) (h.apart d i b dn m) in
            record {
              cap = omega (arith, a.cap, y.over_top);
              fine = λ u v. absurd (omega (arith, a.cap, y.over_top));
              own = λ u v. absurd (omega (arith, a.cap, y.over_top));
              near = λ u v lit. a.own u (omega (arith, y.over_Q));
            }

    met_later : Settles z (odd z W C K E S R g p x A f0 ok h low) (Q z W C K E S R g p x A f0 ok h low) (N z W C K E S R g p x A f0 ok h low) h.shelf.top (S0 z W C K E S R g p x A f0 ok h low) → (f : Image X) → Labels z W C (S0 z W C K E S R g p x A f0 ok h low) (S0 z W C K E S R g p x A f0 ok h low) (S0 z W C K E S R g p x A f0 ok h low).generation (S0 z W C K E S R g p x A f0 ok h low).out f → (D z W C K E S R g p x A f0 ok h low) (belief z (S0 z W C K E S R g p x A f0 ok h low)) f → (Whole z W C K E S R) g p x.home (pile x f)
    met_later y f l o =
        let e = chosen_inn x f in
        record {
          virt = x.inn;
          shelf = record { Q = (S0 z W C K E S R g p x A f0 ok h low); since = inr (omega (arith, base_below z W C g.base (D z W C K E S R g p x A f0 ok h low) (chosen h.virt (pile x f0)) h.shelf, y.over_Q)); N = (S0 z W C K E S R g p x A f0 ok h low); top = (S0 z W C K E S R g p x A f0 ok h low).generation; far = (S0 z W C K E S R g p x A f0 ok h low).out; labels = subst (Labels z W C (S0 z W C K E S R g p x A f0 ok h low) (S0 z W C K E S R g p x A f0 ok h low) (S0 z W C K E S R g p x A f0 ok h low).generation (S0 z W C K E S R g p x A f0 ok h low).out) e l; under_Q = subst ((D z W C K E S R g p x A f0 ok h low) (belief z (S0 z W C K E S R g p x A f0 ok h low))) e o; under_N = subst ((D z W C K E S R g p x A f0 ok h low) (belief z (S0 z W C K E S R g p x A f0 ok h low))) e o };
          apart = λ d i b dn n. aside_copy z W C (S0 z W C K E S R g p x A f0 ok h low) (S0 z W C K E S R g p x A f0 ok h low) (S0 z W C K E S R g p x A f0 ok h low).generation d b (x.stock i) (pile x f i) (sym (pile_out x f i (label d b) n)) (met_lying y d i b dn n);
          at_home = λ d dn a. let lit : looked z (S0 z W C K E S R g p x A f0 ok h low) d ≡ true = ⊎_elim (λ q. q) (λ q. q) a in sym (not_odd d (in_place d lit)) ∙ h.at_home d dn (y.inner d lit);
        }
      where
        in_place : (d : ℕ) → looked z (S0 z W C K E S R g p x A f0 ok h low) d ≡ true → (odd z W C K E S R g p x A f0 ok h low) d ≡ false
        in_place d lit = go ((odd z W C K E S R g p x A f0 ok h low) d) refl
          where
            go : (b : Bool) → (odd z W C K E S R g p x A f0 ok h low) d ≡ b → (odd z W C K E S R g p x A f0 ok h low) d ≡ false
            go true q = absurd (y.dark d q lit)
            go false q = q

    pub meets : Met z W C K A g.base (D z W C K E S R g p x A f0 ok h low) (λ f. (Whole z W C K E S R) g p x.home (pile x f)) f0
    meets =
        record {
          odd = (odd z W C K E S R g p x A f0 ok h low);
          last = (last z W C K E S R g p x A f0 ok h low);
          Q = (Q z W C K E S R g p x A f0 ok h low);
          N = (N z W C K E S R g p x A f0 ok h low);
          top = h.shelf.top;
          far = h.shelf.far;
          since = base_below z W C g.base (D z W C K E S R g p x A f0 ok h low) (chosen h.virt (pile x f0)) h.shelf;
          bays = met_bays;
          under_Q = subst ((D z W C K E S R g p x A f0 ok h low) (belief z (Q z W C K E S R g p x A f0 ok h low))) (sym (front_chosen f0)) h.shelf.under_Q;
          under_N = subst ((D z W C K E S R g p x A f0 ok h low) (belief z (N z W C K E S R g p x A f0 ok h low))) (sym (front_chosen f0)) h.shelf.under_N;
          low = low;
          before = met_before;
          later = met_later;
        }

    met_settles : Settles z (odd z W C K E S R g p x A f0 ok h low) (Q z W C K E S R g p x A f0 ok h low) (N z W C K E S R g p x A f0 ok h low) h.shelf.top (S0 z W C K E S R g p x A f0 ok h low)
    unfolding meets
    met_settles = done_settles z W C K g.history A f0 ok g.base (D z W C K E S R g p x A f0 ok h low) (under_framed z W C K E S R g p) (λ f. (Whole z W C K E S R) g p x.home (pile x f)) meets

    pub settled_lying : Lying z W C x (S0 z W C K E S R g p x A f0 ok h low)
    settled_lying = met_lying met_settles

    -- ANOTHER DISK THAN THE LAST IS NOTICED: the label that start-up settles does not look at its slot
    pub settled_dark : (d : ℕ) → moved x d ≡ true → looked z (S0 z W C K E S R g p x A f0 ok h low) d ≡ true → ⊥
    settled_dark d m lit = met_settles.dark d (is_odd d (λ q. away (sym q ∙ h.at_home d (look_of z (S0 z W C K E S R g p x A f0 ok h low) d lit).0 (met_settles.inner d lit)))) lit
      where
        away : x.inn d ≢ x.home d
        away q = true≢false (sym m ∙ ap not (eq-eqb (x.inn d) (x.home d) q))
