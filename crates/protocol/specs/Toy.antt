-- The laws can be met: a shelf of 2 + 1 slots whose sectors hold terms instead of bytes. (The real one is made of bytes. This one shows that nothing
-- impossible is asked, and runs: see Run.)
use Rattle.std.specs.Prelude.{ℕ, zero, suc, ◌+◌, ◌*◌, ◌≤◌, ◌<◌, ◌≡◌, refl, Bool, true, false, cond, not, ◌&&◌, ◌||◌, ◌⊎◌, ◌≢◌, eqb, ltb, leb}
use Rattle.std.proofs.Common.{sym, ap, ap₂, ◌∙◌, true≢false, ⊎_elim, inl, inr, arith, leb-true, le-leb, ltb-true, ltb-false, lt-ltb, eq-eqb}
use Rattle.std.proofs.Math.Path.{fun_ext}
use Rattle.std.specs.Bool.{beq}
use Rattle.std.proofs.lemmas.Bool.{false≢true}
use Rattle.protocol.specs.Log.{RecordCodec}
use Rattle.protocol.specs.Write.{both}
use Rattle.protocol.specs.Label.{Label, Size, Quorum, LabelCodec}
use Rattle.protocol.specs.Count.{at_most, tally}
use Rattle.protocol.specs.Host.{accused, blames, all_sound, several, Blocks, set_block, Code}
use Rattle.protocol.specs.Program.{Stamps, Proper, Medium}

-- 3 slots, 1 stripe
abbrev pub size : Size
size = record { n = 3; T = 1 }

-- zeros; a datum; both data of a stripe; a label of another shelf: its generation; a label: generation, which of the three slots are out, the one being rebuilt, mark; a log sector: stamp, stripe, which slots are changed, content
pub data Sector : Type 0 where
  blank : Sector
  datum : ℕ → Sector
  pair : Sector → Sector → Sector
  other : ℕ → Sector
  told : ℕ → Bool → Bool → Bool → ℕ → ℕ → Sector
  kept : ℕ → ℕ → Bool → Bool → Bool → Sector → Sector

abbrev pub zero_sector : Sector → Bool
zero_sector blank = true
zero_sector (datum a) = false
zero_sector (pair x y) = false
zero_sector (other g) = false
zero_sector (told g a b c r m) = false
zero_sector (kept s t a b c x) = false

pub zero_sector_of : (x : Sector) → zero_sector x ≡ true → x ≡ blank
zero_sector_of blank h = refl
zero_sector_of (datum a) h = absurd (false≢true h)
zero_sector_of (pair x y) h = absurd (false≢true h)
zero_sector_of (other g) h = absurd (false≢true h)
zero_sector_of (told g a b c r m) h = absurd (false≢true h)
zero_sector_of (kept s t a b c x) h = absurd (false≢true h)

-- three flags as a set of slots
abbrev pub flags : Bool → Bool → Bool → ℕ → Bool
flags a b c zero = a
flags a b c (suc zero) = b
flags a b c (suc (suc zero)) = c
flags a b c (suc (suc (suc d))) = false

pub flags_of : (p : ℕ → Bool) → ((d : ℕ) → 3 ≤ d → p d ≡ false) → (d : ℕ) → flags (p 0) (p 1) (p 2) d ≡ p d
flags_of p h zero = refl
flags_of p h (suc zero) = refl
flags_of p h (suc (suc zero)) = refl
flags_of p h (suc (suc (suc d))) = sym (h (suc (suc (suc d))) (omega arith))

flags_high : (a b c : Bool) (d : ℕ) → 3 ≤ d → flags a b c d ≡ false
flags_high a b c zero h = absurd (omega arith)
flags_high a b c (suc zero) h = absurd (omega arith)
flags_high a b c (suc (suc zero)) h = absurd (omega arith)
flags_high a b c (suc (suc (suc d))) h = refl

-- generations up to this
abbrev pub top_generation : ℕ
top_generation = 1000

abbrev pub odd : ℕ → Bool
odd zero = false
odd (suc g) = not (odd g)

-- a label is valid in its own sector, and when it is proper
abbrev pub rebuilding_ok : (ℕ → Bool) → ℕ → Bool
rebuilding_ok out r = leb r 3 && (not (ltb r 3) || out r)

abbrev pub mark_ok : ℕ → ℕ → Bool
mark_ok r m = leb m (cond (ltb r 3) 1 0)

abbrev pub valid : Bool → ℕ → (ℕ → Bool) → ℕ → ℕ → Bool
valid side g out r m = (beq side (odd g) && leb g top_generation) && (rebuilding_ok out r && mark_ok r m)

abbrev pub label_of : Bool → Sector → Label
label_of s blank = record { generation = 0; out = λ d. false; rebuilding = 3; mark = 0 }
label_of s (datum a) = record { generation = 0; out = λ d. false; rebuilding = 3; mark = 0 }
label_of s (pair x y) = record { generation = 0; out = λ d. false; rebuilding = 3; mark = 0 }
label_of s (other g) = record { generation = 0; out = λ d. false; rebuilding = 3; mark = 0 }
label_of s (told g a b c r m) = record { generation = cond (valid s g (flags a b c) r m) g 0; out = flags a b c; rebuilding = r; mark = m }
label_of s (kept u t a b c x) = record { generation = 0; out = λ d. false; rebuilding = 3; mark = 0 }

-- what fits: proper, and not beyond the greatest generation
pub record Fitting (l : Label) : Type 0 where
  pub sound : Proper size l
  pub low : l.generation ≤ top_generation

beq_self : (b : Bool) → beq b b ≡ true
beq_self true = refl
beq_self false = refl

or_either : (a b : Bool) → (not a || b) ≡ true → a ≡ true → b ≡ true
or_either true b h e = h
or_either false b h e = absurd (false≢true e)

-- at most T, and 0 where no slot is being rebuilt
mark_most : (r m : ℕ) → mark_ok r m ≡ true → m ≤ 1
mark_most r m = go (ltb r 3)
  where
    go : (b : Bool) → leb m (cond b 1 0) ≡ true → m ≤ 1
    go true h = leb-true m 1 h
    go false h = omega (arith, leb-true m 0 h)

mark_none : (r m : ℕ) → mark_ok r m ≡ true → r ≡ 3 → m ≡ 0
mark_none r m h e = omega (arith, leb-true m 0 (ap (λ (x : ℕ). mark_ok x m) (sym e) ∙ h))

pub labels_back : (d : ℕ) (s : Bool) (x : Sector) → 0 < (label_of s x).generation → Fitting (label_of s x)
labels_back d s blank h = absurd (omega arith)
labels_back d s (datum a) h = absurd (omega arith)
labels_back d s (pair x y) h = absurd (omega arith)
labels_back d s (other g) h = absurd (omega arith)
labels_back d s (kept u t a b c x) h = absurd (omega arith)
labels_back d s (told g a b c r m) h = go (valid s g (flags a b c) r m) refl h
  where
    go : (y : Bool) → valid s g (flags a b c) r m ≡ y → 0 < cond y g 0 → Fitting (record { generation = cond y g 0; out = flags a b c; rebuilding = r; mark = m })
    go false e i = absurd (omega arith)
    go true e i =
        let p = both (beq s (odd g) && leb g 1000) (rebuilding_ok (flags a b c) r && mark_ok r m) e in
        let q = both (beq s (odd g)) (leb g 1000) p.0 in
        let t = both (rebuilding_ok (flags a b c) r) (mark_ok r m) p.1 in
        let u = both (leb r 3) (not (ltb r 3) || flags a b c r) t.0 in
        record {
          sound = record { inside = flags_high a b c; slot_or_none = leb-true r 3 u.0; also_out = λ j. or_either (ltb r 3) (flags a b c r) u.1 (lt-ltb r 3 j); mark_T = mark_most r m t.1; unmarked = λ j. mark_none r m t.1 j };
          low = leb-true g 1000 q.1;
        }

rebuilding_fits : (l : Label) → Fitting l → rebuilding_ok (flags (l.out 0) (l.out 1) (l.out 2)) l.rebuilding ≡ true
rebuilding_fits l f = rw (le-leb l.rebuilding 3 f.sound.slot_or_none) (go (ltb l.rebuilding 3) refl)
  where
    go : (b : Bool) → ltb l.rebuilding 3 ≡ b → (not b || flags (l.out 0) (l.out 1) (l.out 2) l.rebuilding) ≡ true
    go true e = flags_of l.out f.sound.inside l.rebuilding ∙ f.sound.also_out (ltb-true l.rebuilding 3 e)
    go false e = refl

mark_fits : (l : Label) → Fitting l → mark_ok l.rebuilding l.mark ≡ true
mark_fits l f = go (ltb l.rebuilding 3) refl
  where
    go : (b : Bool) → ltb l.rebuilding 3 ≡ b → leb l.mark (cond b 1 0) ≡ true
    go true e = le-leb l.mark 1 f.sound.mark_T
    go false e = le-leb l.mark 0 (omega (arith, f.sound.unmarked (omega (arith, ltb-false l.rebuilding 3 e, f.sound.slot_or_none))))

beq_true : (a b : Bool) → beq a b ≡ true → a ≡ b
beq_true true true e = refl
beq_true true false e = absurd (false≢true e)
beq_true false true e = absurd (false≢true e)
beq_true false false e = refl

pub own_side : (s : Bool) (x : Sector) → 0 < (label_of s x).generation → s ≡ odd (label_of s x).generation
own_side s blank h = absurd (omega arith)
own_side s (datum a) h = absurd (omega arith)
own_side s (pair x y) h = absurd (omega arith)
own_side s (other g) h = absurd (omega arith)
own_side s (kept u t a b c x) h = absurd (omega arith)
own_side s (told g a b c r m) h = go (valid s g (flags a b c) r m) refl h
  where
    go : (y : Bool) → valid s g (flags a b c) r m ≡ y → 0 < cond y g 0 → s ≡ odd (cond y g 0)
    go false e i = absurd (omega arith)
    go true e i = beq_true s (odd g) (both (beq s (odd g)) (leb g 1000) (both (beq s (odd g) && leb g 1000) (rebuilding_ok (flags a b c) r && mark_ok r m) e).0).0

pub labels_forth : (d : ℕ) (l : Label) → Fitting l → label_of (odd l.generation) (told l.generation (l.out 0) (l.out 1) (l.out 2) l.rebuilding l.mark) ≡ l
labels_forth d l f =
    let e : valid (odd l.generation) l.generation (flags (l.out 0) (l.out 1) (l.out 2)) l.rebuilding l.mark ≡ true = rw (beq_self (odd l.generation), le-leb l.generation 1000 f.low, rebuilding_fits l f, mark_fits l f) in
    let o : flags (l.out 0) (l.out 1) (l.out 2) ≡ l.out = fun_ext (flags_of l.out f.sound.inside) in
    λ i. record { generation = cond (e i) l.generation 0; out = o i; rebuilding = l.rebuilding; mark = l.mark }

-- a label of another shelf, in its own sector
abbrev pub strange_in : Bool → Sector → ℕ
strange_in s blank = 0
strange_in s (datum a) = 0
strange_in s (pair x y) = 0
strange_in s (other g) = cond (beq s (odd g)) g 0
strange_in s (told g a b c r m) = 0
strange_in s (kept u t a b c x) = 0

pub strange_none : (s : Bool) (x : Sector) → 0 < strange_in s x → (label_of s x).generation ≡ 0
strange_none s blank h = refl
strange_none s (datum a) h = refl
strange_none s (pair x y) h = refl
strange_none s (other g) h = refl
strange_none s (told g a b c r m) h = absurd (omega arith)
strange_none s (kept u t a b c x) h = refl

abbrev pub labels : LabelCodec Sector size.n
labels =
    record {
      Fits = Fitting;
      side = odd;
      zeros = blank;
      encode = λ d l. told l.generation (l.out 0) (l.out 1) (l.out 2) l.rebuilding l.mark;
      decode = λ d s x. label_of s x;
      decode_fits = λ d s x h. labels_back d s x h;
      decode_encode = λ d l i h. labels_forth d l h;
      decode_zeros = λ d b. refl;
      side_next = λ g. refl;
      decode_side = λ d b x h. own_side b x h;
      strange = λ d b x. strange_in b x;
      strange_none = λ d b x h. strange_none b x h;
      strange_zeros = λ d b. refl;
      strange_encode = λ d l i h. refl;
    }

abbrev pub stamp_of : Sector → ℕ
stamp_of blank = 0
stamp_of (datum a) = 0
stamp_of (pair x y) = 0
stamp_of (other g) = 0
stamp_of (told g a b c r m) = 0
stamp_of (kept s t a b c x) = s

abbrev pub stripe_in : Sector → ℕ
stripe_in blank = 0
stripe_in (datum a) = 0
stripe_in (pair x y) = 0
stripe_in (other g) = 0
stripe_in (told g a b c r m) = 0
stripe_in (kept s t a b c x) = t

abbrev pub changes_in : Sector → ℕ → Bool
changes_in blank e = false
changes_in (datum a) e = false
changes_in (pair x y) e = false
changes_in (other g) e = false
changes_in (told g a b c r m) e = false
changes_in (kept s t a b c x) e = flags a b c e

abbrev pub inner : Sector → Sector
inner blank = blank
inner (datum a) = blank
inner (pair x y) = blank
inner (other g) = blank
inner (told g a b c r m) = blank
inner (kept s t a b c x) = x

pub off_high : (p : ℕ → Bool) → ((d : ℕ) → p d ≡ true → d < 3) → (d : ℕ) → 3 ≤ d → p d ≡ false
off_high p h d i = go (p d) refl
  where
    go : (b : Bool) → p d ≡ b → p d ≡ false
    go true e = absurd (omega (arith, h d e))
    go false e = e

-- one sector a strip; a record is that sector and the tail
abbrev pub records : RecordCodec Sector
records =
    record {
      Fits = λ σ w. (d : ℕ) → w.changes d ≡ true → d < 3;
      c = 1;
      zeros = blank;
      stamp = stamp_of;
      sector = λ σ w d j. kept σ w.stripe (w.changes 0) (w.changes 1) (w.changes 2) (w.new d j);
      stripe_of = stripe_in;
      changes_of = changes_in;
      piece = λ t x j. inner x;
      stamp_zeros = refl;
      stamp_sector = λ σ w d j f h. refl;
      stripe_tail = λ σ w d f. refl;
      changes_tail = λ σ w d e f. flags_of w.changes (off_high w.changes f) e;
      piece_back = λ σ w d j f h. refl;
    }

-- the parity of two sectors; that of zeros is zeros
abbrev pub joined : Sector → Sector → Sector
joined x y = cond (zero_sector x && zero_sector y) blank (pair x y)

abbrev pub left : Sector → Sector
left blank = blank
left (datum a) = blank
left (pair x y) = x
left (other g) = blank
left (told g a b c r m) = blank
left (kept s t a b c x) = blank

abbrev pub right : Sector → Sector
right blank = blank
right (datum a) = blank
right (pair x y) = y
right (other g) = blank
right (told g a b c r m) = blank
right (kept s t a b c x) = blank

pub left_back : (x y : Sector) → left (joined x y) ≡ x
left_back x y = go (zero_sector x) refl (zero_sector y)
  where
    go : (a : Bool) → zero_sector x ≡ a → (b : Bool) → left (cond (a && b) blank (pair x y)) ≡ x
    go true e true = sym (zero_sector_of x e)
    go true e false = refl
    go false e true = refl
    go false e false = refl

pub right_back : (x y : Sector) → right (joined x y) ≡ y
right_back x y = go (zero_sector x) (zero_sector y) refl
  where
    go : (a b : Bool) → zero_sector y ≡ b → right (cond (a && b) blank (pair x y)) ≡ y
    go true true e = sym (zero_sector_of y e)
    go true false e = refl
    go false true e = refl
    go false false e = refl

-- a scrub compares parity with data (labels and records, which no strip holds, by their kind only); with one parity it cannot tell whom to blame
abbrev pub kind : Sector → ℕ
kind blank = 0
kind (datum a) = 1
kind (pair x y) = 2
kind (other g) = 5
kind (told g a b c r m) = 3
kind (kept s t a b c x) = 4

abbrev pub number : Sector → ℕ
number blank = 0
number (datum a) = suc a
number (pair x y) = 0
number (other g) = 0
number (told g a b c r m) = 0
number (kept s t a b c x) = 0

abbrev pub alike : Sector → Sector → Bool
alike blank y = eqb (kind y) 0
alike (datum a) y = eqb (number y) (suc a)
alike (pair x x') y = eqb (kind y) 2 && (alike x (left y) && alike x' (right y))
alike (other g) y = eqb (kind y) 5
alike (told g a b c r m) y = eqb (kind y) 3
alike (kept s t a b c x) y = eqb (kind y) 4

pub alike_self : (x : Sector) → alike x x ≡ true
alike_self blank = refl
alike_self (datum a) = eq-eqb (suc a) (suc a) refl
alike_self (pair x x') = let p = alike_self x in let q = alike_self x' in rw (p, q)
alike_self (other g) = refl
alike_self (told g a b c r m) = refl
alike_self (kept s t a b c x) = refl

abbrev pub spread : Blocks Sector → ℕ → ℕ → Sector
spread b zero j = b 0 j
spread b (suc zero) j = b 1 j
spread b (suc (suc zero)) j = joined (b 0 j) (b 1 j)
spread b (suc (suc (suc d))) j = blank

abbrev pub gather : (ℕ → Bool) → (ℕ → ℕ → Sector) → Blocks Sector
gather bad g zero j = cond (bad 0) (left (g 2 j)) (g 0 j)
gather bad g (suc i) j = cond (bad 1) (right (g 2 j)) (g 1 j)

abbrev pub reaches : ℕ → ℕ → Bool
reaches i zero = eqb 0 i
reaches i (suc zero) = eqb 1 i
reaches i (suc (suc zero)) = true
reaches i (suc (suc (suc d))) = false

-- a strip from the two others
abbrev pub from_others : (ℕ → ℕ → Sector) → ℕ → ℕ → Sector
from_others g zero j = left (g 2 j)
from_others g (suc zero) j = right (g 2 j)
from_others g (suc (suc zero)) j = joined (g 0 j) (g 1 j)
from_others g (suc (suc (suc d))) j = blank

unfoldable pub quorum : Quorum 3
quorum = at_most 2 1 (omega arith)

-- of three slots at most one is bad
one_bad : (a : ℕ → Bool) → quorum.few a ≡ true → tally (a 2) + (tally (a 1) + (tally (a 0) + 0)) ≤ 1
unfolding quorum at_most
one_bad a h = leb-true (tally (a 2) + (tally (a 1) + (tally (a 0) + 0))) 1 h

pub last_good : (a : ℕ → Bool) → quorum.few a ≡ true → (a 0 ≡ true) ⊎ (a 1 ≡ true) → a 2 ≡ false
last_good a h s = go (a 2) refl (a 1) refl (a 0) refl s
  where
    go : (x : Bool) → a 2 ≡ x → (y : Bool) → a 1 ≡ y → (v : Bool) → a 0 ≡ v → (a 0 ≡ true) ⊎ (a 1 ≡ true) → a 2 ≡ false
    go false p y q v r s = p
    go true p true q v r s = absurd (omega (arith, one_bad a h, ap tally p, ap tally q))
    go true p false q true r s = absurd (omega (arith, one_bad a h, ap tally p, ap tally r))
    go true p false q false r s = ⊎_elim (λ e. absurd (false≢true (sym r ∙ e))) (λ e. absurd (false≢true (sym q ∙ e))) s

unfoldable pub code : Code Sector 3 1 quorum
unfolding set_block
code =
    record {
      k = 2;
      shard = λ t b. spread b;
      blocks = λ t bad g. gather bad g;
      touched = λ t i d. reaches i d;
      touched_n = λ t i d. low i d;
      back = λ t bad b g few h. again bad b g few h;
      shard_same = λ t a b h. same_shards a b h;
      keeps = λ t i b x d j e. spared i b x d j e;
      scrub = λ t g. cond (alike (g 2 0) (joined (g 0 0) (g 1 0))) all_sound several;
      scrub_sound = λ t b g h. blameless b g h;
      broad = λ t i h a few. hit i h a few;
      lies = λ t r. r;
      mended = λ t g d j. from_others g d j;
      at_home = λ t bad g i j h e. home bad g i j h e;
      mends = λ t d b g h e j i. mended_right d b g h e j i;
      accuses_it = λ t d r b g h e q. absurd (nobody (alike (g 2 0) (joined (g 0 0) (g 1 0))) r q);
      sharp = false;
      tells = λ e. absurd (false≢true e);
    }
  where
    blameless : (b : Blocks Sector) (g : ℕ → ℕ → Sector) → ((d j : ℕ) → d < 3 → j < 1 → g d j ≡ spread b d j) → cond (alike (g 2 0) (joined (g 0 0) (g 1 0))) all_sound several ≡ all_sound
    blameless b g h =
        let e : g 2 0 ≡ joined (g 0 0) (g 1 0) = h 2 0 (omega arith) (omega arith) ∙ sym (ap₂ joined (h 0 0 (omega arith) (omega arith)) (h 1 0 (omega arith) (omega arith))) in
        ap (λ (y : Bool). cond y all_sound several) (ap (λ (y : Sector). alike y (joined (g 0 0) (g 1 0))) e ∙ alike_self (joined (g 0 0) (g 1 0)))

    home : (bad : ℕ → Bool) (g : ℕ → ℕ → Sector) (i j : ℕ) → i < 2 → bad i ≡ false → gather bad g i j ≡ g i j
    home bad g zero j h e = rw e
    home bad g (suc zero) j h e = rw e
    home bad g (suc (suc i)) j h e = absurd (omega arith)

    mended_right : (d : ℕ) (b : Blocks Sector) (g : ℕ → ℕ → Sector) → d < 3 → ((e j : ℕ) → e < 3 → e ≢ d → j < 1 → g e j ≡ spread b e j) → (j : ℕ) → j < 1 → from_others g d j ≡ spread b d j
    mended_right zero b g h e j i = ap left (e 2 j (omega arith) (λ q. omega arith) i) ∙ left_back (b 0 j) (b 1 j)
    mended_right (suc zero) b g h e j i = ap right (e 2 j (omega arith) (λ q. omega arith) i) ∙ right_back (b 0 j) (b 1 j)
    mended_right (suc (suc zero)) b g h e j i = ap₂ joined (e 0 j (omega arith) (λ q. omega arith) i) (e 1 j (omega arith) (λ q. omega arith) i)
    mended_right (suc (suc (suc d))) b g h e j i = absurd (omega arith)

    nobody : (y : Bool) (r : ℕ) → cond y all_sound several ≡ accused r → ⊥
    nobody true r q = false≢true (ap blames q)
    nobody false r q = false≢true (ap blames q)

    low : (i d : ℕ) → reaches i d ≡ true → d < 3
    low i zero e = omega arith
    low i (suc zero) e = omega arith
    low i (suc (suc zero)) e = omega arith
    low i (suc (suc (suc d))) e = absurd (false≢true e)

    again : (bad : ℕ → Bool) (b : Blocks Sector) (g : ℕ → ℕ → Sector) → quorum.few bad ≡ true → ((d j : ℕ) → d < 3 → bad d ≡ false → j < 1 → g d j ≡ spread b d j) → (i j : ℕ) → i < 2 → j < 1 → gather bad g i j ≡ b i j
    again bad b g few h zero j p q = go (bad 0) refl
      where
        go : (x : Bool) → bad 0 ≡ x → cond x (left (g 2 j)) (g 0 j) ≡ b 0 j
        go true e = ap left (h 2 j (omega arith) (last_good bad few (inl e)) q) ∙ left_back (b 0 j) (b 1 j)
        go false e = h 0 j (omega arith) e q
    again bad b g few h (suc zero) j p q = go (bad 1) refl
      where
        go : (x : Bool) → bad 1 ≡ x → cond x (right (g 2 j)) (g 1 j) ≡ b 1 j
        go true e = ap right (h 2 j (omega arith) (last_good bad few (inr e)) q) ∙ right_back (b 0 j) (b 1 j)
        go false e = h 1 j (omega arith) e q
    again bad b g few h (suc (suc i)) j p q = absurd (omega arith)

    same_shards : (a b : Blocks Sector) → ((i j : ℕ) → i < 2 → j < 1 → a i j ≡ b i j) → (d j : ℕ) → d < 3 → j < 1 → spread a d j ≡ spread b d j
    same_shards a b h zero j p q = h 0 j (omega arith) q
    same_shards a b h (suc zero) j p q = h 1 j (omega arith) q
    same_shards a b h (suc (suc zero)) j p q = ap₂ joined (h 0 j (omega arith) q) (h 1 j (omega arith) q)
    same_shards a b h (suc (suc (suc d))) j p q = refl

    spared : (i : ℕ) (b : Blocks Sector) (x : ℕ → Sector) (d j : ℕ) → reaches i d ≡ false → spread b d j ≡ spread (set_block b i x) d j
    spared i b x zero j e = let q : cond (eqb 0 i) x (b 0) j ≡ b 0 j = rw e in sym q
    spared i b x (suc zero) j e = let q : cond (eqb 1 i) x (b 1) j ≡ b 1 j = rw e in sym q
    spared i b x (suc (suc zero)) j e = absurd (true≢false e)
    spared i b x (suc (suc (suc d))) j e = refl

    hit : (i : ℕ) → i < 2 → (a : ℕ → Bool) → quorum.few a ≡ true → (d : ℕ) × (d < 3) × (a d ≡ false) × (reaches i d ≡ true)
    hit zero p a few = go (a 0) refl
      where
        go : (x : Bool) → a 0 ≡ x → (d : ℕ) × (d < 3) × (a d ≡ false) × (reaches 0 d ≡ true)
        go true e = (2, omega arith, last_good a few (inl e), refl)
        go false e = (0, omega arith, e, refl)
    hit (suc zero) p a few = go (a 1) refl
      where
        go : (x : Bool) → a 1 ≡ x → (d : ℕ) × (d < 3) × (a d ≡ false) × (reaches 1 d ≡ true)
        go true e = (2, omega arith, last_good a few (inr e), refl)
        go false e = (1, omega arith, e, refl)
    hit (suc (suc i)) p a few = absurd (omega arith)

-- a thousand writes an epoch
abbrev pub stamps : Stamps
stamps = record { base = λ e. e * 1000; rises = λ e. omega arith; grows = λ e g h. omega arith }

unfoldable pub medium : Medium size quorum labels records code stamps
unfolding code
medium =
    record {
      greatest = 1000;
      fits = λ l p h g. record { sound = p; low = g };
      is_proper = λ l f. (f.sound, f.low);
      fits_record = λ σ w a b c. c;
      is_zeros = zero_sector;
      zeros_of = zero_sector_of;
      zeros_are = refl;
      same_zeros = refl;
      zeros_label = λ d b. refl;
      zeros_shard = λ t d j h g. none d j;
    }
  where
    none : (d j : ℕ) → spread (λ i l. blank) d j ≡ blank
    none zero j = refl
    none (suc zero) j = refl
    none (suc (suc zero)) j = refl
    none (suc (suc (suc d))) j = refl
