-- The host's view: a list of blocks. What is asked of the code that spreads a stripe's blocks over the slots; read, and the strips of a write and of a rebuild, computed from what is believed.
use Prim.Native.Nat.{ℕ, ◌<◌}
use Rattle.std.specs.Prelude.{◌≡◌, Bool, not, ◌&&◌}
use Rattle.std.proofs.Math.Path.{refl, ap}
use Rattle.std.proofs.Common.{sym, ◌∙◌, inl}
use Rattle.std.proofs.Math.Bool.{true, false, cond, true≢false}
use Rattle.std.proofs.Math.Decide.{ℕ_discrete}
use Rattle.std.proofs.Math.Dec.{eqb}
use borrow.Author.Tests.{eq-eqb, ne_eqb, eqb-true, eqb-false, not-true, ltb-true, lt-ltb}
use Rattle.protocol.specs.World.{strip, Image}
use Rattle.protocol.specs.Log.{Write, RecordCodec, Wrote, Old, New, Quiet}
use Rattle.protocol.specs.Label.{Label, Size, believed, belief, Quorum}
use Rattle.protocol.proofs.Label.{believe_is}
use Rattle.protocol.specs.Host.{Blocks, Host, set_block, Change, changed, replace, Code, table, missing, read, proper, reached, write_of, rebuilt, read_through, one_block, all_blocks, all_sound}

module _ {X : Type 0} (z : Size) (W : Quorum z.n) (K : RecordCodec X) (E : Code X z.n K.c W) where
  -- a whole stripe reaches every slot
  all_reached : (t : ℕ) (b : Blocks X) (d : ℕ) → d < z.n → (reached z W K E) t (all_blocks b) d ≡ true
  all_reached t b d i = lt-ltb d z.n i

  pub reached_n : (t : ℕ) (ch : Change X) (d : ℕ) → (reached z W K E) t ch d ≡ true → d < z.n
  reached_n t (one_block i x) d h = E.touched_n t i d h
  reached_n t (all_blocks b) d h = ltb-true d z.n h

  -- whatever few slots are left out, a change reaches another one
  pub reached_broad : (t : ℕ) (ch : Change X) → (proper z W K E) ch ≡ true → (a : ℕ → Bool) → W.few a ≡ true → (d : ℕ) × (d < z.n) × (a d ≡ false) × ((reached z W K E) t ch d ≡ true)
  reached_broad t (one_block i x) p a few = E.broad t i (ltb-true i E.k p) a few
  reached_broad t (all_blocks b) p a few = let y = W.meet a a few few in (y.0, y.1, y.2, all_reached t b y.0 y.1)

  pub few_missing : (Q : Label) (t : ℕ) → t < z.T → W.few Q.out ≡ true → W.few ((missing z W K E) Q t) ≡ true
  few_missing Q t i h = W.part ((missing z W K E) Q t) Q.out (λ d n m. go d n m (Q.out d) refl) h
    where
      go : (d : ℕ) → d < z.n → (missing z W K E) Q t d ≡ true → (o : Bool) → Q.out d ≡ o → Q.out d ≡ true
      go d n m true e = e
      go d n m false e = absurd (true≢false (sym (believe_is z Q d t n i (inl e)) ∙ not-true (believed z Q d t) m))

  sees : (x : Bool) → not x ≡ false → x ≡ true
  sees true e = refl
  sees false e = sym e

  -- READ. While every believed strip is the list's (no write under way, or its log not yet flushed), a read gives the list's entry, whatever is absent or out
  pub read_old : (history : ℕ → Write X) (u σ : ℕ) (Q : Label) (v : Host X) (f : Image X) → W.few Q.out ≡ true → Old K (belief z Q) history u σ ((table z W K E) v) f → (t i j : ℕ) → t < z.T → i < E.k → j < K.c → (read z W K E) Q f t i j ≡ v t i j
  unfolding read table belief
  read_old history u σ Q v f few q t i j a b c =
      E.back t ((missing z W K E) Q t) (v t) (λ d l. f (strip d t l)) (few_missing Q t a few) (λ d l n m g. q.strips d t l (sees (believed z Q d t) m) g) i j b c

  pub read_new : (history : ℕ → Write X) (u : ℕ) (Q : Label) (v v' : Host X) (f : Image X) → W.few Q.out ≡ true → Wrote z.n K.c (history u) ((table z W K E) v) ((table z W K E) v') → New K (belief z Q) history u ((table z W K E) v') f → (t i j : ℕ) → t < z.T → i < E.k → j < K.c → (read_through z W K E) (history u) Q f t i j ≡ v' t i j
  unfolding read_through table belief
  read_new history u Q v v' f few wr q t i j a b c =
      E.back t ((missing z W K E) Q t) (v' t) (λ d l. cond (eqb t (history u).stripe && (history u).changes d) ((history u).new d l) (f (strip d t l))) (few_missing Q t a few)
      (λ d l n m g. go d l (sees (believed z Q d t) m) g (eqb t (history u).stripe) refl ((history u).changes d) refl) i j b c
    where
      go : (d l : ℕ) → believed z Q d t ≡ true → l < K.c → (x : Bool) → eqb t (history u).stripe ≡ x → (y : Bool) → (history u).changes d ≡ y → cond (x && y) ((history u).new d l) (f (strip d t l)) ≡ E.shard t (v' t) d l
      go d l s g true p true r = wr.changed d l r g ∙ ap (λ (y : ℕ). E.shard y (v' y) d l) (sym (eqb-true t (history u).stripe p))
      go d l s g true p false r = q.strips d t l s g (λ e. true≢false (sym e.1 ∙ r))
      go d l s g false p y r = q.strips d t l s g (λ e. eqb-false t (history u).stripe p e.0)

  -- SCRUB of a stripe that is believed throughout: every strip is the list's, so nothing is to blame
  pub scrub_believed : (history : ℕ → Write X) (u σ : ℕ) (Q : Label) (v : Host X) (f : Image X) (t : ℕ) → ((d : ℕ) → d < z.n → believed z Q d t ≡ true) → Old K (belief z Q) history u σ ((table z W K E) v) f → E.scrub t (λ d j. f (strip d t j)) ≡ all_sound
  unfolding table belief
  scrub_believed history u σ Q v f t all q = E.scrub_sound t (v t) (λ d j. f (strip d t j)) (λ d j n c. q.strips d t j (all d n) c)

  -- so with nothing out
  pub scrub_old : (history : ℕ → Write X) (u σ : ℕ) (Q : Label) (v : Host X) (f : Image X) → ((d : ℕ) → d < z.n → Q.out d ≡ false) → Old K (belief z Q) history u σ ((table z W K E) v) f → (t : ℕ) → t < z.T → E.scrub t (λ d j. f (strip d t j)) ≡ all_sound
  scrub_old history u σ Q v f none q t i = scrub_believed history u σ Q v f t (λ d n. believe_is z Q d t n i (inl (none d n))) q

  pub scrub_new : (history : ℕ → Write X) (u : ℕ) (Q : Label) (v v' : Host X) (f : Image X) → ((d : ℕ) → d < z.n → Q.out d ≡ false) → Wrote z.n K.c (history u) ((table z W K E) v) ((table z W K E) v') → New K (belief z Q) history u ((table z W K E) v') f → (t : ℕ) → t < z.T → E.scrub t (λ d j. cond (eqb t (history u).stripe && (history u).changes d) ((history u).new d j) (f (strip d t j))) ≡ all_sound
  unfolding table belief
  scrub_new history u Q v v' f none wr q t i =
      E.scrub_sound t (v' t) (λ d j. cond (eqb t (history u).stripe && (history u).changes d) ((history u).new d j) (f (strip d t j)))
      (λ d j n c. go d j (believe_is z Q d t n i (inl (none d n))) c (eqb t (history u).stripe) refl ((history u).changes d) refl)
    where
      go : (d l : ℕ) → believed z Q d t ≡ true → l < K.c → (x : Bool) → eqb t (history u).stripe ≡ x → (y : Bool) → (history u).changes d ≡ y → cond (x && y) ((history u).new d l) (f (strip d t l)) ≡ E.shard t (v' t) d l
      go d l s g true p true r = wr.changed d l r g ∙ ap (λ (y : ℕ). E.shard y (v' y) d l) (sym (eqb-true t (history u).stripe p))
      go d l s g true p false r = q.strips d t l s g (λ e. true≢false (sym e.1 ∙ r))
      go d l s g false p y r = q.strips d t l s g (λ e. eqb-false t (history u).stripe p e.0)

  module _ (history : ℕ → Write X) (u : ℕ) (Q : Label) (v : Host X) (f : Image X) (few : W.few Q.out ≡ true) (q : Quiet K (belief z Q) history u ((table z W K E) v) f) where
    pub read_right : (t i j : ℕ) → t < z.T → i < E.k → j < K.c → (read z W K E) Q f t i j ≡ v t i j
    unfolding Quiet
    read_right = read_old history u 0 Q v f few q

    pub rebuilt_right : (d t j : ℕ) → d < z.n → t < z.T → j < K.c → (rebuilt z W K E) Q f d t j ≡ (table z W K E) v t d j
    unfolding rebuilt table
    rebuilt_right d t j a b c = E.shard_same t ((read z W K E) Q f t) (v t) (λ i l x y. read_right t i l b x y) d j a c

    -- the strips of a write are those of the changed list
    pub write_right : (t : ℕ) (ch : Change X) → t < z.T → Wrote z.n K.c ((write_of z W K E) Q f t ch) ((table z W K E) v) ((table z W K E) (replace v t ch))
    unfolding write_of table replace set_block
    write_right t ch a =
        record {
          changed = chg;
          same = λ t' d j n h. go t' d j n h (ℕ_discrete t' t);
        }
      where
        put_in : (i : ℕ) (x : ℕ → X) (i' l : ℕ) → i' < E.k → l < K.c → (b : Bool) → cond b x ((read z W K E) Q f t i') l ≡ cond b x (v t i') l
        put_in i x i' l y e true = refl
        put_in i x i' l y e false = read_right t i' l a y e

        inside : (ch : Change X) (i' l : ℕ) → i' < E.k → l < K.c → changed ch ((read z W K E) Q f t) i' l ≡ changed ch (v t) i' l
        inside (one_block i x) i' l y e = put_in i x i' l y e (eqb i' i)
        inside (all_blocks b) i' l y e = refl

        chg : (d j : ℕ) → (reached z W K E) t ch d ≡ true → j < K.c → E.shard t (changed ch ((read z W K E) Q f t)) d j ≡ E.shard t (cond (eqb t t) (changed ch (v t)) (v t)) d j
        chg d j h g = rw (eq-eqb t t refl) (E.shard_same t (changed ch ((read z W K E) Q f t)) (changed ch (v t)) (λ i l x y. inside ch i l x y) d j (reached_n t ch d h) g)

        outside : (ch : Change X) (d j : ℕ) → d < z.n → (reached z W K E) t ch d ≡ false → E.shard t (v t) d j ≡ E.shard t (changed ch (v t)) d j
        outside (one_block i x) d j n r = E.keeps t i (v t) x d j r
        outside (all_blocks b) d j n r = absurd (true≢false (sym (all_reached t b d n) ∙ r))

        off : (b : Bool) → (b ≡ true → ⊥) → b ≡ false
        off true h = absurd (h refl)
        off false h = refl

        go : (t' d j : ℕ) → d < z.n → ((t' ≡ t) × ((reached z W K E) t ch d ≡ true) → ⊥) → Dec (t' ≡ t) → E.shard t' (v t') d j ≡ E.shard t' (cond (eqb t' t) (changed ch (v t)) (v t')) d j
        go t' d j n h (yes e) = rw (e, eq-eqb t t refl) (outside ch d j n (off ((reached z W K E) t ch d) (λ r. h (e, r))))
        go t' d j n h (no e) = rw (ne_eqb t' t e)
