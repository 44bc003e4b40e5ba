-- Labels: which slots are out, which one is being rebuilt and how far; and what the labels on all disks, present or not, may be while
-- rounds of labels are written, cut, and begun again by start-ups that meet other slots.
use Rattle.std.specs.Prelude.{ℕ, suc, ◌≤◌, ◌<◌, ◌≡◌, Bool, ◌&&◌, ◌||◌, ◌⊎◌}
use Rattle.std.proofs.Math.Path.{refl, sym, ap, subst}
use Rattle.std.proofs.Common.{◌∙◌, arith}
use Rattle.std.proofs.Math.Bool.{true, false, cond, not}
use mathlib.Core.List.{List, [], ◌∷◌, ◌++◌}
use Rattle.std.proofs.Math.Dec.{eqb, ltb}
use borrow.Author.Tests.{ltb-true}
use Rattle.protocol.specs.World.{Place, label, log, strip, slot, Image, update, update_cases, Action}
use Rattle.protocol.specs.Batch.{Batch, actions}
use Rattle.protocol.specs.Slots.{keep, rows}
use Rattle.protocol.specs.Log.{Belief, Within}
use Rattle.protocol.specs.Write.{both}

-- rebuilding: the slot being rebuilt; a number that is no slot where there is none
-- out: these slots' strips are not to be believed; mark: strips of the slot being rebuilt below it are
pub record Label : Type 0 where
  pub generation : ℕ
  pub out : ℕ → Bool
  pub rebuilding : ℕ
  pub mark : ℕ

-- the label l, with the generation g
abbrev pub again : Label → ℕ → Label
again l g = record { generation = g; out = l.out; rebuilding = l.rebuilding; mark = l.mark }

-- called out, and not being rebuilt
abbrev pub plainly_out : Label → ℕ → Bool
plainly_out l d = l.out d && not (eqb d l.rebuilding)

-- n slots, T stripes
pub record Size : Type 0 where
  pub n : ℕ
  pub T : ℕ

-- the belief under a label: tails of the slots that are not plainly out; all strips of those not out, strips below the mark of the one being rebuilt
abbrev pub looked : Size → Label → ℕ → Bool
looked z l d = ltb d z.n && not (plainly_out l d)

abbrev pub believed : Size → Label → ℕ → ℕ → Bool
believed z l d t = looked z l d && (ltb t z.T && (not (l.out d) || ltb t l.mark))

unfoldable pub belief : Size → Label → Belief
belief z l =
    record {
      n = z.n;
      look = looked z l;
      believe = believed z l;
      believe_look = λ d t e. (both (looked z l d) _ e).0;
      look_n = λ d e. ltb-true d z.n (both (ltb d z.n) _ e).0;
    }

-- Few slots: at most m. All that is used of counting: a part of few is few. (What more is asked of few, for k > m: two sets of few leave a slot out.)
pub record Quorum (n : ℕ) : Type 0 where
  pub few : (ℕ → Bool) → Bool
  pub part : (a b : ℕ → Bool) → ((d : ℕ) → d < n → a d ≡ true → b d ≡ true) → few b ≡ true → few a ≡ true
  pub meet : (a b : ℕ → Bool) → few a ≡ true → few b ≡ true → (d : ℕ) × (d < n) × (a d ≡ false) × (b d ≡ false)

-- a label's bytes on the disk of slot d, of n; the label of generation g lies in sector `side g`. What is no valid label reads as generation 0.
-- strange: the generation of a valid copy of another shelf or slot, 0 where the sector holds none
pub record LabelCodec (X : Type 0) (n : ℕ) : Type 1 where
  pub Fits : Label → Type 0
  pub side : ℕ → Bool
  pub zeros : X
  pub encode : ℕ → Label → X
  pub decode : ℕ → Bool → X → Label
  pub decode_fits : (d : ℕ) (b : Bool) (x : X) → 0 < (decode d b x).generation → Fits (decode d b x)
  pub decode_encode : (d : ℕ) (l : Label) → d < n → Fits l → decode d (side l.generation) (encode d l) ≡ l
  pub decode_zeros : (d : ℕ) (b : Bool) → (decode d b zeros).generation ≡ 0
  pub side_next : (g : ℕ) → side (suc g) ≡ not (side g)
  pub decode_side : (d : ℕ) (b : Bool) (x : X) → 0 < (decode d b x).generation → b ≡ side (decode d b x).generation
  pub strange : ℕ → Bool → X → ℕ
  pub strange_none : (d : ℕ) (b : Bool) (x : X) → 0 < strange d b x → (decode d b x).generation ≡ 0
  pub strange_zeros : (d : ℕ) (b : Bool) → strange d b zeros ≡ 0
  pub strange_encode : (d : ℕ) (l : Label) → d < n → Fits l → strange d (side l.generation) (encode d l) ≡ 0

module _ {X : Type 0} {n : ℕ} (C : LabelCodec X n) where
  -- what the copy in sector b of slot d's disk says
  unfoldable pub copy : Image X → ℕ → Bool → Label
  copy f d b = C.decode d b (f (label d b))

  -- slot d's disk has a copy of generation g or more
  unfoldable pub Aged : Image X → ℕ → ℕ → Type 0
  Aged f d g = (b : Bool) × (g ≤ (copy f d b).generation)

  abbrev pub there : Label → ℕ → ℕ → Place
  there l d j = label d (C.side l.generation)

  abbrev pub told : Label → Place → X
  told l k = C.encode (slot k) l

  -- a round: the label to each slot of the list, then a flush of each
  unfoldable pub round_batch : Label → List ℕ → Batch X
  round_batch l ds =
      record {
        value = told l;
        places = rows (there l) (0 ∷ []) ds;
        flushed = ds;
      }

  abbrev pub round : Label → List ℕ → List (Action X)
  round l ds = actions (round_batch l ds)

  -- PREP, so that a disk that may have missed generations can take a label of generation g + 1 and never holds two copies that do not follow
  -- each other (document 02, C6). f0: what is read; l: the present content.
  -- the sector that is not the new label's holds generation g already
  abbrev pub prepared : Image X → ℕ → ℕ → Bool
  prepared f0 g d = eqb (copy f0 d (C.side g)).generation g

  -- otherwise: zeros, or where it holds the disk's only valid copy the present content with generation g
  abbrev pub prep_value : Image X → ℕ → Label → Place → X
  prep_value f0 g l k = cond (ltb 0 (copy f0 (slot k) (C.side (suc g))).generation || eqb (copy f0 (slot k) (C.side g)).generation 0) C.zeros (C.encode (slot k) (again l g))

  -- one sector of each
  unfoldable pub prep_places : ℕ → List ℕ → List Place
  prep_places g ds = rows (λ d j. label d (C.side g)) (0 ∷ []) ds

  unfoldable pub prep_batch : Image X → ℕ → Label → List ℕ → Batch X
  prep_batch f0 g l ds =
      record {
        value = prep_value f0 g l;
        places = prep_places g (keep (λ d. not (prepared f0 g d)) ds);
        flushed = keep (λ d. not (prepared f0 g d)) ds;
      }

  abbrev pub prep : Image X → ℕ → Label → List ℕ → List (Action X)
  prep f0 g l ds = actions (prep_batch f0 g l ds)

  -- COPIES OF ANOTHER SHELF OR SLOT. The generation of the one in sector b of slot d's disk, and whether there is one
  abbrev pub foreign : Image X → ℕ → Bool → ℕ
  foreign f d b = C.strange d b (f (label d b))

  abbrev pub alien : Image X → Bool → ℕ → Bool
  alien f b d = ltb 0 (foreign f d b)

  -- the sector whose foreign copy goes last: that of the greater generation
  unfoldable pub last_side : Image X → ℕ → Bool
  last_side f d = ltb (foreign f d false) (foreign f d true)

  -- zeros over sector s of those slots of the list where it holds a foreign copy, and a flush of each
  unfoldable pub expel_batch : Image X → Bool → List ℕ → Batch X
  expel_batch f0 s ds =
      record {
        value = λ k. C.zeros;
        places = rows (λ d j. label d s) (0 ∷ []) (keep (alien f0 s) ds);
        flushed = keep (alien f0 s) ds;
      }

  abbrev pub expel : Image X → Bool → List ℕ → List (Action X)
  expel f0 s ds = actions (expel_batch f0 s ds)

  -- of one slot: first the copy of the smaller generation, then the other
  abbrev pub expelled : Image X → ℕ → List (Action X)
  expelled f0 d = expel f0 (not (last_side f0 d)) (d ∷ []) ++ expel f0 (last_side f0 d) (d ∷ [])

  -- the image without them
  abbrev pub purged : Image X → Image X
  purged f (label d b) = cond (alien f b d) C.zeros (f (label d b))
  purged f (log d j) = f (log d j)
  purged f (strip d t j) = f (strip d t j)

  -- a copy after slot d was told l: it is that slot's and says l, or it says what it said
  pub copy_told : (P : Label → Type 0) (l : Label) (d : ℕ) (f : Image X) → C.Fits l → (e : ℕ) (b : Bool) → e < n → (e ≡ d → P l) → P (copy f e b) → P (copy (update f (label d (C.side l.generation)) (C.encode d l)) e b)
  unfolding copy
  copy_told P l d f fit e b i h g =
      update_cases f (label d (C.side l.generation)) (C.encode d l) (λ x. P (C.decode e b x)) (label e b)
      (λ q. let x : e ≡ d = cc in let y : b ≡ C.side l.generation = cc in rw (x, y) (rw (C.decode_encode d l (omega arith) fit) (h x))) g

  pub copy_put : (P : Label → Type 0) (l : Label) (d : ℕ) (f : Image X) → C.Fits l → (e : ℕ) (b : Bool) → e < n → P l → P (copy f e b) → P (copy (update f (label d (C.side l.generation)) (C.encode d l)) e b)
  copy_put P l d f fit e b i h g = copy_told P l d f fit e b i (λ q. h) g

  pub aged_told : (l : Label) (f : Image X) (d : ℕ) → d < n → C.Fits l → f (label d (C.side l.generation)) ≡ C.encode d l → (g : ℕ) → g ≤ l.generation → Aged f d g
  unfolding Aged copy
  aged_told l f d i fit e g h = (C.side l.generation, subst (λ (x : Label). g ≤ x.generation) (sym (ap (C.decode d (C.side l.generation)) e ∙ C.decode_encode d l i fit)) h)

  pub copy_same : (f g : Image X) (d : ℕ) (b : Bool) → g (label d b) ≡ f (label d b) → copy g d b ≡ copy f d b
  unfolding copy
  copy_same f g d b e = ap (C.decode d b) e

  pub aged_less : (f : Image X) (d g h : ℕ) → g ≤ h → Aged f d h → Aged f d g
  unfolding Aged
  aged_less f d g h i a = (a.0, omega (arith, a.1))

module _ {X : Type 0} (z : Size) (W : Quorum z.n) (C : LabelCodec X z.n) where
  -- Q is settled; N is Q, or the label that a request was about to settle. A label that may come to rule: few slots are out in it, and it believes nothing that Q does not, or, if it
  -- is newer than Q, nothing that N does not. One of Q's own generation calls out what Q does.
  pub record MayRule (Q N l : Label) : Type 0 where
    pub few_out : W.few l.out ≡ true
    pub same_out : l.generation ≡ Q.generation → l.out ≡ Q.out
    pub narrow : Within (belief z l) (belief z Q) ⊎ ((Q.generation < l.generation) × Within (belief z l) (belief z N))

  -- THE INVARIANT OF THE LABELS, of whatever a cut leaves, on all disks, present or not. top: no generation above it is anywhere. Whoever is not in far is at most one behind it.
  -- low: whoever Q does not call out has its generation or a newer one. cap: nobody has more than top. near: whoever is not far has all but the last generation.
  -- fine: a label of Q's generation or newer calls few slots out, and believes nothing that neither Q nor N does.
  pub record Labels (Q N : Label) (top : ℕ) (far : ℕ → Bool) (f : Image X) : Type 0 where
    pub few_Q : W.few Q.out ≡ true
    pub few_far : W.few far ≡ true
    pub low : (d : ℕ) → d < z.n → Q.out d ≡ false → Aged C f d Q.generation
    pub cap : (d : ℕ) (b : Bool) → d < z.n → (copy C f d b).generation ≤ top
    pub near : (d g : ℕ) → d < z.n → far d ≡ false → g < top → Aged C f d g
    pub fine : (d : ℕ) (b : Bool) → d < z.n → 0 < (copy C f d b).generation → Q.generation ≤ (copy C f d b).generation → MayRule Q N (copy C f d b)

  -- copies of generation g or more are the label l
  unfoldable pub Only : ℕ → Label → Image X → Type 0
  Only g l f = (d : ℕ) (b : Bool) → d < z.n → g ≤ (copy C f d b).generation → copy C f d b ≡ l

  pub only_put : (g : ℕ) (l : Label) (d : ℕ) (f : Image X) → C.Fits l → Only g l f → Only g l (update f (label d (C.side l.generation)) (C.encode d l))
  unfolding Only
  only_put g l d f fit h e s i = copy_put C (λ x. g ≤ x.generation → x ≡ l) l d f fit e s i (λ q. refl) (h e s i)

  -- a statement about other places than labels
  unfoldable pub Bare : (Image X → Type 0) → Type 0
  Bare E = (f : Image X) (d : ℕ) (b : Bool) (x : X) → E f → E (update f (label d b) x)

  -- nobody has g or more: whoever has it soon has it from us
  pub only_start : (top g : ℕ) (l : Label) (f : Image X) → top < g → ((d : ℕ) (b : Bool) → d < z.n → (copy C f d b).generation ≤ top) → Only g l f
  unfolding Only
  only_start top g l f h cap d b i j = absurd (omega (arith, cap d b i))
