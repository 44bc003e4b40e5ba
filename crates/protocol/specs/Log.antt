-- The log: what a record is, and the two states in which the strips and records of a shelf can be while one write is undecided.
-- Nothing here knows bytes, labels or parity: a table gives the strip that each slot should have, for each stripe.
use Prim.Native.Nat.{ℕ, suc, ◌≤◌, ◌<◌}
use Rattle.std.specs.Prelude.{◌≡◌, refl, Bool, ◌⊎◌, ◌≢◌}
use Rattle.std.proofs.Common.{sym, ◌∙◌, arith}
use Rattle.std.proofs.Math.Path.{ap, subst}
use Rattle.std.proofs.Math.Bool.{true, false, false≢true}
use Rattle.std.proofs.Math.Logic.{⊎_elim, inl, inr}
use Rattle.std.proofs.Math.Decide.{ℕ_discrete}
use Rattle.protocol.specs.World.{log, strip, slot, Image, update, update_here, update_other, update_cases}

-- a write: its stripe, the slots whose shard it changes, and the new strips of these, sector by sector
pub record Write (X : Type 0) : Type 0 where
  pub stripe : ℕ
  pub changes : ℕ → Bool
  pub new : ℕ → ℕ → X

-- Fits: stamp, stripe and slots are within what a sector can tell.
-- how a record is laid out in c + 1 sectors: each begins with the stamp; the last, the tail, tells stripe and changed slots; the tail and sector j together give sector j of the strip
-- (stamp 0: no record. sector σ w d j: log sector j of slot d for the write w with stamp σ; j = c is the tail. piece t x j: sector j of the strip, from tail t and log sector x.)
pub record RecordCodec (X : Type 0) : Type 1 where
  pub Fits : ℕ → Write X → Type 0
  pub c : ℕ
  pub zeros : X
  pub stamp : X → ℕ
  pub sector : ℕ → Write X → ℕ → ℕ → X
  pub stripe_of : X → ℕ
  pub changes_of : X → ℕ → Bool
  pub piece : X → X → ℕ → X
  pub stamp_zeros : stamp zeros ≡ 0
  pub stamp_sector : (σ : ℕ) (w : Write X) (d j : ℕ) → Fits σ w → j ≤ c → stamp (sector σ w d j) ≡ σ
  pub stripe_tail : (σ : ℕ) (w : Write X) (d : ℕ) → Fits σ w → stripe_of (sector σ w d c) ≡ w.stripe
  pub changes_tail : (σ : ℕ) (w : Write X) (d e : ℕ) → Fits σ w → changes_of (sector σ w d c) e ≡ w.changes e
  pub piece_back : (σ : ℕ) (w : Write X) (d j : ℕ) → Fits σ w → j < c → piece (sector σ w d c) (sector σ w d j) j ≡ w.new d j

-- what a label tells to believe: whose tail is looked at (slots that are not out, and the one being rebuilt), and which of its strips are believed
pub record Belief : Type 0 where
  pub n : ℕ
  pub look : ℕ → Bool
  pub believe : ℕ → ℕ → Bool
  pub believe_look : (d t : ℕ) → believe d t ≡ true → look d ≡ true
  pub look_n : (d : ℕ) → look d ≡ true → d < n

-- what each strip should be: stripe, slot, sector
abbrev pub Table : Type 0 → Type 0
Table X = ℕ → ℕ → ℕ → X

-- the table s becomes s' by the write
pub record Wrote {X : Type 0} (n c : ℕ) (w : Write X) (s s' : Table X) : Type 0 where
  pub changed : (d j : ℕ) → w.changes d ≡ true → j < c → w.new d j ≡ s' w.stripe d j
  pub same : (t d j : ℕ) → d < n → ((t ≡ w.stripe) × (w.changes d ≡ true) → ⊥) → s t d j ≡ s' t d j

-- all c + 1 stamps of slot d's record are σ
unfoldable pub Complete : {X : Type 0} → RecordCodec X → Image X → ℕ → ℕ → Type 0
Complete K f d σ = (j : ℕ) → j ≤ K.c → K.stamp (f (log d j)) ≡ σ

log_strip : (d j e t i : ℕ) → log d j ≢ strip e t i
log_strip d j e t i p = let z : ◌≡◌ {A = ℕ} 0 1 = cc in omega arith

module _ {X : Type 0} (K : RecordCodec X) (B : Belief) (history : ℕ → Write X) where
  -- every log sector is zeros or a true sector of the write that its stamp names (no stamp is used twice); no stamp is above u; a complete record is of a believed strip
  pub record Logs (u : ℕ) (f : Image X) : Type 0 where
    pub real : (d j τ : ℕ) → B.look d ≡ true → j ≤ K.c → K.stamp (f (log d j)) ≡ suc τ → (f (log d j) ≡ K.sector (suc τ) (history (suc τ)) d j) × ((history (suc τ)).changes d ≡ true) × K.Fits (suc τ) (history (suc τ))
    pub old : (d j : ℕ) → B.look d ≡ true → j ≤ K.c → K.stamp (f (log d j)) ≤ u
    pub inside : (d τ : ℕ) → B.look d ≡ true → Complete K f d (suc τ) → B.believe d (history (suc τ)).stripe ≡ true

  -- the undecided write (stamp σ) is not in the strips: every believed strip is the table's, and each complete record is equal to its strip or is the undecided write's. With σ = 0: nothing is undecided.
  pub record Old (u σ : ℕ) (s : Table X) (f : Image X) : Type 0 where
    pub logs : Logs u f
    pub strips : (d t j : ℕ) → B.believe d t ≡ true → j < K.c → f (strip d t j) ≡ s t d j
    pub records : (d τ : ℕ) → B.look d ≡ true → Complete K f d (suc τ) → (suc τ ≡ σ) ⊎ ((j : ℕ) → j < K.c → (history (suc τ)).new d j ≡ s (history (suc τ)).stripe d j)

  -- the write u is in the log of every believed slot that it changes; those strips may hold anything; all else is the new table's
  pub record New (u : ℕ) (s : Table X) (f : Image X) : Type 0 where
    pub logs : Logs u f
    pub full : (d : ℕ) → B.believe d (history u).stripe ≡ true → (history u).changes d ≡ true → Complete K f d u
    pub strips : (d t j : ℕ) → B.believe d t ≡ true → j < K.c → ((t ≡ (history u).stripe) × ((history u).changes d ≡ true) → ⊥) → f (strip d t j) ≡ s t d j
    pub records : (d τ : ℕ) → B.look d ≡ true → Complete K f d (suc τ) → (j : ℕ) → j < K.c → (history (suc τ)).new d j ≡ s (history (suc τ)).stripe d j

  -- no write is undecided, and every believed strip is the table's
  unfoldable pub Quiet : ℕ → Table X → Image X → Type 0
  Quiet u s f = Old u 0 s f

  -- a put in the log of slot d: a record of slot e complete afterwards is of slot d and has that stamp, or was complete before
  complete_log : (f : Image X) (d j : ℕ) (x : X) (e τ : ℕ) → j ≤ K.c → Complete K (update f (log d j) x) e τ → ((e ≡ d) × (K.stamp x ≡ τ)) ⊎ Complete K f e τ
  unfolding Complete
  complete_log f d j x e τ h p = go (ℕ_discrete e d)
    where
      go : Dec (e ≡ d) → ((e ≡ d) × (K.stamp x ≡ τ)) ⊎ ((i : ℕ) → i ≤ K.c → K.stamp (f (log e i)) ≡ τ)
      go (yes q) = inl (q, ap K.stamp (sym (update_here f (log d j) x)) ∙ subst (λ (y : ℕ). K.stamp (update f (log d j) x (log y j)) ≡ τ) q (p j h))
      go (no q) = inr (λ i g. ap K.stamp (sym (update_other f (log d j) x (log e i) (λ z. q (ap slot z)))) ∙ p i g)

  complete_strip : (f : Image X) (d t j : ℕ) (x : X) (e τ : ℕ) → Complete K (update f (strip d t j) x) e τ → Complete K f e τ
  unfolding Complete
  complete_strip f d t j x e τ p i g = ap K.stamp (sym (update_other f (strip d t j) x (log e i) (log_strip e i d t j))) ∙ p i g

  -- what may be put into the log: something without a stamp, or a true sector of the write u
  unfoldable pub Fit : ℕ → ℕ → ℕ → X → Type 0
  Fit u d j x = (K.stamp x ≡ 0) ⊎ ((x ≡ K.sector u (history u) d j) × ((history u).changes d ≡ true) × (B.believe d (history u).stripe ≡ true) × K.Fits u (history u))

  logs_log : (u : ℕ) (f : Image X) (d j : ℕ) (x : X) → j ≤ K.c → Fit u d j x → Logs u f → Logs u (update f (log d j) x)
  unfolding Fit
  logs_log u f d j x h fit l =
      record {
        real = λ e i τ a b. update_cases f (log d j) x (λ y. K.stamp y ≡ suc τ → (y ≡ K.sector (suc τ) (history (suc τ)) e i) × ((history (suc τ)).changes e ≡ true) × K.Fits (suc τ) (history (suc τ))) (log e i)
            (λ q z. new_real e i τ q z) (l.real e i τ a b);
        old = λ e i a b. update_cases f (log d j) x (λ y. K.stamp y ≤ u) (log e i) (λ q. le_u) (l.old e i a b);
        inside = λ e τ a p. ⊎_elim (λ q. new_inside e τ q.0 q.1) (λ q. l.inside e τ a q) (complete_log f d j x e (suc τ) h p);
      }
    where
      le_u : K.stamp x ≤ u
      le_u = ⊎_elim (λ q. omega arith) (λ q. omega (arith, ap K.stamp q.0 ∙ K.stamp_sector u (history u) d j q.3 h)) fit

      is_u : (τ : ℕ) → K.stamp x ≡ suc τ → (x ≡ K.sector u (history u) d j) × ((history u).changes d ≡ true) × (B.believe d (history u).stripe ≡ true) × (u ≡ suc τ) × K.Fits u (history u)
      is_u τ z = ⊎_elim (λ q. absurd (omega arith)) (λ q. (q.0, q.1, q.2, sym (ap K.stamp q.0 ∙ K.stamp_sector u (history u) d j q.3 h) ∙ z, q.3)) fit

      new_real : (e i τ : ℕ) → log e i ≡ log d j → K.stamp x ≡ suc τ → (x ≡ K.sector (suc τ) (history (suc τ)) e i) × ((history (suc τ)).changes e ≡ true) × K.Fits (suc τ) (history (suc τ))
      new_real e i τ q z =
          let r = is_u τ z in
          let a : e ≡ d = cc in
          let b : i ≡ j = cc in
          let g : suc τ ≡ u = sym r.3 in
          rw (a, b, g) (r.0, r.1, r.4)

      new_inside : (e τ : ℕ) → e ≡ d → K.stamp x ≡ suc τ → B.believe e (history (suc τ)).stripe ≡ true
      new_inside e τ q z =
          let r = is_u τ z in
          let g : suc τ ≡ u = sym r.3 in
          rw (q, g) r.2

  logs_strip : (u : ℕ) (f : Image X) (d t j : ℕ) (x : X) → Logs u f → Logs u (update f (strip d t j) x)
  logs_strip u f d t j x l =
      record {
        real = λ e i τ a b. rw (update_other f (strip d t j) x (log e i) (log_strip e i d t j)) (l.real e i τ a b);
        old = λ e i a b. rw (update_other f (strip d t j) x (log e i) (log_strip e i d t j)) (l.old e i a b);
        inside = λ e τ a p. l.inside e τ a (complete_strip f d t j x e (suc τ) p);
      }

  pub old_log : (u σ : ℕ) (s : Table X) (f : Image X) (d j : ℕ) (x : X) → j ≤ K.c → Fit u d j x → ((τ : ℕ) → K.stamp x ≡ suc τ → suc τ ≡ σ) → Old u σ s f → Old u σ s (update f (log d j) x)
  old_log u σ s f d j x h fit g o =
      record {
        logs = logs_log u f d j x h fit o.logs;
        strips = λ e t i a b. update_other f (log d j) x (strip e t i) (λ z. log_strip d j e t i (sym z)) ∙ o.strips e t i a b;
        records = λ e τ a p. ⊎_elim (λ q. inl (g τ q.1)) (λ q. o.records e τ a q) (complete_log f d j x e (suc τ) h p);
      }

  pub old_strip : (u σ : ℕ) (s : Table X) (f : Image X) (d t j : ℕ) (x : X) → x ≡ s t d j → Old u σ s f → Old u σ s (update f (strip d t j) x)
  old_strip u σ s f d t j x e o =
      record {
        logs = logs_strip u f d t j x o.logs;
        strips = λ e' t' i a b. update_cases f (strip d t j) x (λ y. y ≡ s t' e' i) (strip e' t' i) (λ q. let p : e' ≡ d = cc in let r : t' ≡ t = cc in let z : i ≡ j = cc in cc) (o.strips e' t' i a b);
        records = λ e' τ a p. o.records e' τ a (complete_strip f d t j x e' (suc τ) p);
      }

  pub new_strip : (u : ℕ) (s : Table X) (f : Image X) (d t j : ℕ) (x : X) → t ≡ (history u).stripe → (history u).changes d ≡ true → New u s f → New u s (update f (strip d t j) x)
  unfolding Complete
  new_strip u s f d t j x e g o =
      record {
        logs = logs_strip u f d t j x o.logs;
        full = λ e' a b i h. rw (update_other f (strip d t j) x (log e' i) (log_strip e' i d t j)) (o.full e' a b i h);
        strips = λ e' t' i a b r. update_other f (strip d t j) x (strip e' t' i) (λ q. let p : e' ≡ d = cc in let z : t' ≡ t = cc in r (z ∙ e, ap (history u).changes p ∙ g)) ∙ o.strips e' t' i a b r;
        records = λ e' τ a p. o.records e' τ a (complete_strip f d t j x e' (suc τ) p);
      }

  -- the moment from which the write will survive
  pub old_new : (u : ℕ) (s s' : Table X) (f : Image X) → Wrote B.n K.c (history u) s s' → ((d : ℕ) → B.believe d (history u).stripe ≡ true → (history u).changes d ≡ true → Complete K f d u) → Old u u s f → New u s' f
  unfolding Complete
  old_new u s s' f wr full o =
      record {
        logs = o.logs;
        full = full;
        strips = λ d t j a b r. o.strips d t j a b ∙ wr.same t d j (B.look_n d (B.believe_look d t a)) r;
        records = λ d τ a p j h. ⊎_elim (λ q. is_u d τ a p q j h) (λ q. other d τ a p q j h (ℕ_discrete (history (suc τ)).stripe (history u).stripe) ((history u).changes d) refl) (o.records d τ a p);
      }
    where
      is_u : (d τ : ℕ) → B.look d ≡ true → Complete K f d (suc τ) → suc τ ≡ u → (j : ℕ) → j < K.c → (history (suc τ)).new d j ≡ s' (history (suc τ)).stripe d j
      is_u d τ a p q j h =
          let y : (history (suc τ)).changes d ≡ true = (o.logs.real d K.c τ a (omega arith) (p K.c (omega arith))).1 in
          let z : Wrote B.n K.c (history (suc τ)) s s' = rw q wr in
          z.changed d j y h

      other : (d τ : ℕ) → B.look d ≡ true → Complete K f d (suc τ) → ((j : ℕ) → j < K.c → (history (suc τ)).new d j ≡ s (history (suc τ)).stripe d j) → (j : ℕ) → j < K.c → Dec ((history (suc τ)).stripe ≡ (history u).stripe) → (b : Bool) → (history u).changes d ≡ b → (history (suc τ)).new d j ≡ s' (history (suc τ)).stripe d j
      other d τ a p q j h (yes e) true g =
          let i : B.believe d (history u).stripe ≡ true = rw e at (o.logs.inside d τ a p) in
          let z : suc τ ≡ u = sym (p K.c (omega arith)) ∙ full d i g K.c (omega arith) in
          is_u d τ a p z j h
      other d τ a p q j h (yes e) false g = q j h ∙ wr.same (history (suc τ)).stripe d j (B.look_n d a) (λ r. false≢true (sym g ∙ r.1))
      other d τ a p q j h (no e) b g = q j h ∙ wr.same (history (suc τ)).stripe d j (B.look_n d a) (λ r. e r.0)

  pub new_quiet : (u : ℕ) (s : Table X) (f : Image X) → ((d j : ℕ) → B.believe d (history u).stripe ≡ true → (history u).changes d ≡ true → j < K.c → f (strip d (history u).stripe j) ≡ s (history u).stripe d j) → New u s f → Quiet u s f
  unfolding Quiet
  new_quiet u s f g o =
      record {
        logs = o.logs;
        strips = λ d t j a b. go d t j a b (ℕ_discrete t (history u).stripe) ((history u).changes d) refl;
        records = λ d τ a p. inr (o.records d τ a p);
      }
    where
      go : (d t j : ℕ) → B.believe d t ≡ true → j < K.c → Dec (t ≡ (history u).stripe) → (b : Bool) → (history u).changes d ≡ b → f (strip d t j) ≡ s t d j
      go d t j a b (yes e) true r = rw e (g d j (rw e at a) r b)
      go d t j a b (yes e) false r = o.strips d t j a b (λ z. false≢true (sym r ∙ z.1))
      go d t j a b (no e) x r = o.strips d t j a b (λ z. e z.0)

  -- no record with the stamp of the undecided write is complete any more: it never was
  pub old_quiet : (u σ : ℕ) (s : Table X) (f : Image X) → ((d τ : ℕ) → B.look d ≡ true → Complete K f d (suc τ) → suc τ ≢ σ) → Old u σ s f → Quiet u s f
  unfolding Quiet
  old_quiet u σ s f g o =
      record {
        logs = o.logs;
        strips = o.strips;
        records = λ d τ a p. ⊎_elim (λ q. absurd (g d τ a p q)) inr (o.records d τ a p);
      }

-- a write begins: its stamp is above all there are
module _ {X : Type 0} (K : RecordCodec X) (B : Belief) (history history' : ℕ → Write X) (u : ℕ) (same : (τ : ℕ) → τ ≤ u → history τ ≡ history' τ) where
  logs_history : (σ : ℕ) (f : Image X) → u ≤ σ → Logs K B history u f → Logs K B history' σ f
  unfolding Complete
  logs_history σ f h l =
      record {
        real = λ d j τ a b p. rw (← same (suc τ) (omega (arith, p, l.old d j a b))) (l.real d j τ a b p);
        old = λ d j a b. omega (arith, l.old d j a b);
        inside = λ d τ a p. rw (← same (suc τ) (omega (arith, p K.c (omega arith), l.old d K.c a (omega arith)))) (l.inside d τ a p);
      }

  pub quiet_old : (σ : ℕ) (s : Table X) (f : Image X) → u ≤ σ → Quiet K B history u s f → Old K B history' σ σ s f
  unfolding Complete Quiet
  quiet_old σ s f h o =
      record {
        logs = logs_history σ f h o.logs;
        strips = o.strips;
        records = λ d τ a p. ⊎_elim (λ q. absurd (omega arith)) (λ q. inr (rw (← same (suc τ) (omega (arith, p K.c (omega arith), o.logs.old d K.c a (omega arith)))) q)) (o.records d τ a p);
      }

-- Fewer slots are looked at, and other places than these changed: nothing is lost.
pub record Within (B' B : Belief) : Type 0 where
  pub look_in : (d : ℕ) → B'.look d ≡ true → B.look d ≡ true
  pub believe_in : (d t : ℕ) → B'.look d ≡ true → B'.believe d t ≡ B.believe d t

pub within_trans : (a b c : Belief) → Within a b → Within b c → Within a c
within_trans a b c p q = record { look_in = λ d e. q.look_in d (p.look_in d e); believe_in = λ d t e. p.believe_in d t e ∙ q.believe_in d t (p.look_in d e) }

pub within_self : (a : Belief) → Within a a
within_self a = record { look_in = λ d e. e; believe_in = λ d t e. refl }

pub record Agrees {X : Type 0} (B : Belief) (f g : Image X) : Type 0 where
  pub on_log : (d j : ℕ) → B.look d ≡ true → g (log d j) ≡ f (log d j)
  pub on_strip_lem : (d t j : ℕ) → B.look d ≡ true → g (strip d t j) ≡ f (strip d t j)

module _ {X : Type 0} (K : RecordCodec X) (B B' : Belief) (history : ℕ → Write X) (in_b : Within B' B) (f g : Image X) (ag : Agrees B' f g) where
  complete_frame : (d τ : ℕ) → B'.look d ≡ true → Complete K g d τ → Complete K f d τ
  unfolding Complete
  complete_frame d τ a p j h = ap K.stamp (sym (ag.on_log d j a)) ∙ p j h

  complete_back : (d τ : ℕ) → B'.look d ≡ true → Complete K f d τ → Complete K g d τ
  unfolding Complete
  complete_back d τ a p j h = ap K.stamp (ag.on_log d j a) ∙ p j h

  logs_frame : (u : ℕ) → Logs K B history u f → Logs K B' history u g
  logs_frame u l =
      record {
        real = λ d j τ a b. rw (ag.on_log d j a) (l.real d j τ (in_b.look_in d a) b);
        old = λ d j a b. rw (ag.on_log d j a) (l.old d j (in_b.look_in d a) b);
        inside = λ d τ a p. in_b.believe_in d (history (suc τ)).stripe a ∙ l.inside d τ (in_b.look_in d a) (complete_frame d (suc τ) a p);
      }

  pub old_frame : (u σ : ℕ) (s : Table X) → Old K B history u σ s f → Old K B' history u σ s g
  old_frame u σ s o =
      record {
        logs = logs_frame u o.logs;
        strips = λ d t j a b. let e = B'.believe_look d t a in ag.on_strip_lem d t j e ∙ o.strips d t j (sym (in_b.believe_in d t e) ∙ a) b;
        records = λ d τ a p. o.records d τ (in_b.look_in d a) (complete_frame d (suc τ) a p);
      }

  pub new_frame : (u : ℕ) (s : Table X) → New K B history u s f → New K B' history u s g
  new_frame u s o =
      record {
        logs = logs_frame u o.logs;
        full = λ d a b. let e = B'.believe_look d (history u).stripe a in complete_back d u e (o.full d (sym (in_b.believe_in d (history u).stripe e) ∙ a) b);
        strips = λ d t j a b r. let e = B'.believe_look d t a in ag.on_strip_lem d t j e ∙ o.strips d t j (sym (in_b.believe_in d t e) ∙ a) b r;
        records = λ d τ a p. o.records d τ (in_b.look_in d a) (complete_frame d (suc τ) a p);
      }

-- More is believed than before: a slot comes in with an empty log, or strips that are right.
module _ {X : Type 0} (K : RecordCodec X) (B B' : Belief) (history : ℕ → Write X) (u : ℕ) (s : Table X) (f : Image X)
    (lk : (e : ℕ) → B'.look e ≡ true → ((B.look e ≡ true) × ((t : ℕ) → B.believe e t ≡ true → B'.believe e t ≡ true)) ⊎ ((j : ℕ) → j ≤ K.c → K.stamp (f (log e j)) ≡ 0))
    (st : (e t j : ℕ) → B'.believe e t ≡ true → j < K.c → (B.believe e t ≡ true) ⊎ (f (strip e t j) ≡ s t e j)) where
  pub quiet_widen : Quiet K B history u s f → Quiet K B' history u s f
  unfolding Quiet Complete
  quiet_widen o =
      record {
        logs = record {
          real = λ d j τ a b p. ⊎_elim (λ q. o.logs.real d j τ q.0 b p) (λ q. absurd (omega (arith, p, q j b))) (lk d a);
          old = λ d j a b. ⊎_elim (λ q. o.logs.old d j q.0 b) (λ q. omega (arith, q j b)) (lk d a);
          inside = λ d τ a p. ⊎_elim (λ q. q.1 (history (suc τ)).stripe (o.logs.inside d τ q.0 p)) (λ q. absurd (omega (arith, p K.c (omega arith), q K.c (omega arith)))) (lk d a);
        };
        strips = λ d t j a b. ⊎_elim (λ q. o.strips d t j q b) (λ q. q) (st d t j a b);
        records = λ d τ a p. ⊎_elim (λ q. o.records d τ q.0 p) (λ q. absurd (omega (arith, p K.c (omega arith), q K.c (omega arith)))) (lk d a);
      }

-- a strip that is not believed may be written at will
module _ {X : Type 0} (K : RecordCodec X) (B : Belief) (history : ℕ → Write X) where
  pub old_spare : (u σ : ℕ) (s : Table X) (f : Image X) (d t j : ℕ) (x : X) → B.believe d t ≡ false → Old K B history u σ s f → Old K B history u σ s (update f (strip d t j) x)
  old_spare u σ s f d t j x e o =
      record {
        logs = logs_strip K B history u f d t j x o.logs;
        strips = λ e' t' i a b. update_other f (strip d t j) x (strip e' t' i) (λ q. let p : e' ≡ d = cc in let r : t' ≡ t = cc in false≢true (sym e ∙ (sym (rw (p, r)) ∙ a))) ∙ o.strips e' t' i a b;
        records = λ e' τ a p. o.records e' τ a (complete_strip K B history f d t j x e' (suc τ) p);
      }
