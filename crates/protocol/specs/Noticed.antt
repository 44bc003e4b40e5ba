-- WHAT FOLLOWS from the promise with exchanged disks: another disk than the last is noticed; when nothing is asked of the world; what every sector holds; what labels may say; which slots are touched.
use Prim.Native.Nat.{ℕ, ◌≤◌, ◌<◌}
use Rattle.std.specs.Prelude.{◌≡◌, not, ◌||◌}
use Rattle.std.proofs.Math.Path.{refl}
use Rattle.std.proofs.Common.{sym, ap, ◌∙◌, true≢false, arith, eq-eqb}
use Rattle.std.proofs.Math.Bool.{Bool, true, false}
use Rattle.protocol.specs.World.{strip, Image, World, Possible}
use Rattle.protocol.specs.Log.{RecordCodec}
use Rattle.protocol.specs.Label.{Size, believed, Quorum, LabelCodec, copy, Aged}
use Rattle.protocol.specs.Startup.{seen_aged}
use Rattle.protocol.specs.Host.{Host, Code, table}
use Rattle.protocol.specs.Program.{Stamps, Medium}
use Rattle.protocol.specs.Exchange.{Disks, moved, pile, Familiar, Newest}
use Rattle.protocol.specs.Apart.{chosen, AtHome}

module _ {X : Type 0} (z : Size) (W : Quorum z.n) (C : LabelCodec X z.n) (K : RecordCodec X) (E : Code X z.n K.c W) (S : Stamps) (R : Medium z W C K E S) where
  -- WHAT IS ASKED OF THE WORLD (Familiar or Newest). Nothing, if every slot has its last disk:
  pub nothing_asked : (A : ℕ → Bool) (x : Disks X) → AtHome z W C K E S R x → Familiar z W C K E S R A x
  nothing_asked A x home few = W.part (λ d. A d || moved x d) A (λ d i e. go d (A d) refl (moved x d) (ap not (eq-eqb (x.inn d) (x.home d) (home d i))) e) few
    where
      go : (d : ℕ) (a : Bool) → A d ≡ a → (b : Bool) → b ≡ false → (a || b) ≡ true → A d ≡ true
      go d true q b m e = q
      go d false q true m e = absurd (true≢false m)
      go d false q false m e = q ∙ e

  -- nothing either, if a present disk has a label of generation q and no disk has a newer one;
  pub newest_seen : (A : ℕ → Bool) (w : World X) (x : Disks X) (q : ℕ) → ((f : Image X) → Possible w f → (d i : ℕ) (b : Bool) → d < z.n → (copy C (pile x f i) d b).generation ≤ q) → (d : ℕ) → d < z.n → A d ≡ false → Aged C w.cur d q → Newest z W C K E S R A w x
  newest_seen A w x q cap d n a h f p e i b m = omega (arith, cap f p e i b m, seen_aged z W C A w.cur d q n a h)

  -- no more than the plain rule, that slots which are absent, hold another disk than their last, or are out, are few together;
  pub plain_rule : (A out : ℕ → Bool) (x : Disks X) → W.few (λ d. A d || (moved x d || out d)) ≡ true → Familiar z W C K E S R A x
  plain_rule A out x few q = W.part (λ d. A d || moved x d) (λ d. A d || (moved x d || out d)) (λ d i e. go (A d) (moved x d) (out d) e) few
    where
      go : (a b c : Bool) → (a || b) ≡ true → (a || (b || c)) ≡ true
      go true b c e = refl
      go false true c e = refl
      go false false c e = absurd (true≢false (sym e))

  -- IT IS ENOUGH that the slots which are absent or hold another disk leave a slot out in common with any few slots. (Where few is at most m: that more than m slots are present with their last disk.)
  -- Start-up then calls each of them out, and that they are few is its own test.
  abbrev pub Beside : (ℕ → Bool) → Disks X → Type 0
  Beside A x = (b : ℕ → Bool) → W.few b ≡ true → (d : ℕ) × (d < z.n) × ((A d || moved x d) ≡ false) × (b d ≡ false)

  -- NO LABEL LIES, on any disk. Of all disks there is one for each slot (virt) such that, for a settled generation q: each of them has it that is not called out by it; and each label of
  -- generation q or newer, on any disk, in a bay or not, calls few slots out and believes only sectors that are, on these disks, what the list wants.
  pub record HonestAll (v : Host X) (P : ℕ → Image X) : Type 0 where
    pub virt : ℕ → ℕ
    pub q : ℕ
    pub out : ℕ → Bool
    pub few_out : W.few out ≡ true
    pub everyone : (d : ℕ) → d < z.n → out d ≡ false → Aged C (chosen virt P) d q
    pub few : (d i : ℕ) (b : Bool) → d < z.n → 0 < (copy C (P i) d b).generation → q ≤ (copy C (P i) d b).generation → W.few (copy C (P i) d b).out ≡ true
    pub right : (d i : ℕ) (b : Bool) → d < z.n → 0 < (copy C (P i) d b).generation → q ≤ (copy C (P i) d b).generation → (e t j : ℕ) → believed z (copy C (P i) d b) e t ≡ true → j < K.c → chosen virt P (strip e t j) ≡ table z W K E v t e j
