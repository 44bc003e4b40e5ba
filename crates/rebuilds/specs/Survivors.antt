-- Whether the strips of a stripe that are there and believed contradict each other. Assumes nothing.
use Rattle.std.specs.Prelude.{◌≡◌, refl, Bool, true, false, cond, not, ◌&&◌, ◌||◌, ◌⊎◌, leb, ltb, eqb, length, drop, Ok, Err}
use Rattle.std.proofs.Math.Path.{sym, ap}
use Rattle.std.proofs.Common.{◌∙◌, true≢false, inl, inr, eq-or-lt_of_le, arith, get_or-take, le-leb, lt-ltb, eq-eqb, ltb-true}
use mathlib.Core.List.{List, []}
use Prim.Native.Nat.{ℕ, suc, ◌+◌, ◌-◌, ◌*◌, ◌≤◌, ◌<◌}
use Rattle.std.proofs.Math.ListN.{get_or}
use Rattle.std.proofs.Math.Seq.{get_or-drop}
use Rattle.std.proofs.lemmas.Bool.{not-true, not-false}
use Rattle.disk.specs.Limits.{sector_bytes, most_n}
use Rattle.disk.specs.Tests.{and_left, both}
use Rattle.disk.specs.Geometry.{in_range, image_bytes, stripes_of, in_range_lem, Splits}
use Rattle.disk.specs.Image.{fits_image, Shape, fits_image_lem}
use Rattle.disk.specs.declared.geometry.Geometry.{Geometry}
use Rattle.disk.specs.Refusal.{Outcome}
use Rattle.disk.specs.declared.refusal.Refusal.TheVariants.{BadImage, BadBlock, BadBuffer}
use Rattle.field.specs.Refusal.{Answer}
use Rattle.codeword.specs.Stripe.{Sound, byte_at}
use Rattle.code.specs.Stripes.{Said, Rebuilt, Says}
use Rattle.code.specs.declared.Verdict.TheVariants as verdict
use Rattle.label.specs.declared.fields.Label.{Label}
use Rattle.position.specs.Position.{holds, holds_true, holds_is, holds_same}
use Rattle.position.specs.Row.{listed_at}
use Rattle.position.specs.Search.{all, all_at, all_of, some}
use Rattle.shelf.specs.Fill.{seen_slots}
use Rattle.strips.specs.Seen.{shard_bytes, lost_of, shown_byte, row_seen, shard_shown}
use Rattle.strips.specs.Answers.{few_lost, lost_in, part_of, fetch_answer, after_fetch}
use Rattle.strips.specs.Laws.{rebuilt_shown, row_shaped}
use Rattle.strips.specs.Whole.{row_plain, stripe_fits}

-- all equations hold
abbrev pub is_sound : Said → Bool
is_sound (Ok verdict.Sound) = true
is_sound (Ok (verdict.Accused r)) = false
is_sound (Ok verdict.Unsound) = false
is_sound (Err why) = false

-- the equations hold at each byte of sector j of the stripe's shards, with what is lost filled in
unfoldable pub sector_holds : Geometry → ℕ → List ℕ → ℕ → ℕ → ℕ → Bool
sector_holds g k img there t j = all sector_bytes (λ p. holds k (g.n - k) (λ r. shown_byte g k img there 0 [] t r (j * sector_bytes + p)))

-- in every sector
unfoldable pub stripe_holds : Geometry → ℕ → List ℕ → ℕ → ℕ → Bool
stripe_holds g k img there t = all g.c (sector_holds g k img there t)

-- fewer shards are lost than there is parity
unfoldable pub spare : Geometry → ℕ → ℕ → ℕ → Bool
spare g k there t = ltb (length (lost_of g.n t there)) (g.n - k)

-- what is there and believed of stripe t contradicts itself
unfoldable pub contradicted : Geometry → ℕ → List ℕ → Label → ℕ → ℕ → Bool
contradicted g k img l absent t = spare g k (seen_slots g l absent t) t && not (stripe_holds g k img (seen_slots g l absent t) t)

-- a stripe that can be read, with at most as many shards lost as there is parity
pub record Stripe (g : Geometry) (k : ℕ) (img : List ℕ) (there t : ℕ) : Type 0 where
  pub fits : fits_image g (length img) ≡ true
  pub splits : Splits g.n k
  pub below : t < stripes_of g
  pub few : few_lost g.n k t there ≡ true

module _ (g : Geometry) (k : ℕ) (img : List ℕ) (there t j : ℕ) (s : Splits g.n k) (few : few_lost g.n k t there ≡ true) where
  -- a rebuild of what is seen has, byte by byte, what is shown
  pub row_shown : (a : Answer) (before after : List ℕ) → before ≡ row_seen g img there 0 [] t j 1
      → Rebuilt k (g.n - k) sector_bytes (lost_of g.n t there) a before after
      → (r p : ℕ) → r < g.n → p < sector_bytes → byte_at sector_bytes after p r ≡ shown_byte g k img there 0 [] t r (j * sector_bytes + p)
  unfolding shard_shown
  row_shown a before after e b r p hr hp =
      let w : ℕ = sector_bytes in
      let f : ℕ → ℕ = λ q. shown_byte g k img there 0 [] t r (j * sector_bytes + q) in
      sym (get_or-take w (drop (r * w) after) p 0 hp ∙ get_or-drop (r * w) after p 0)
      ∙ ap (λ (l : List ℕ). get_or l p 0) (rebuilt_shown g k img there 0 [] t j 1 s (omega arith) (omega arith) few a before after e b r hr)
      ∙ listed_at w f p hp

  -- and the scrub of it says whether the equations hold
  pub scrub_says : (after : List ℕ) (v : Said) → length after ≡ g.n * sector_bytes → Says k (g.n - k) sector_bytes after v
      → ((r p : ℕ) → r < g.n → p < sector_bytes → byte_at sector_bytes after p r ≡ shown_byte g k img there 0 [] t r (j * sector_bytes + p))
      → is_sound v ≡ sector_holds g k img there t j
  unfolding sector_holds
  scrub_says after v len says e = by v says
    where
      m : ℕ
      m = g.n - k

      x : ℕ → ℕ → ℕ
      x p r = shown_byte g k img there 0 [] t r (j * sector_bytes + p)

      bad : (Sound k m sector_bytes after → ⊥) → (b : Bool) → all sector_bytes (λ p. holds k m (x p)) ≡ b → false ≡ b
      bad n true q =
          absurd (n (λ p hp. holds_same k m (byte_at sector_bytes after p) (x p) (λ r l. e r p (omega (arith, s.parity)) hp)
          (holds_true k m (x p) (all_at sector_bytes (λ p. holds k m (x p)) q p hp))))
      bad n false q = refl

      by : (v : Said) → Says k m sector_bytes after v → is_sound v ≡ all sector_bytes (λ p. holds k m (x p))
      by (Ok verdict.Sound) h =
          sym (all_of sector_bytes (λ p. holds k m (x p)) (λ p hp.
          holds_is k m (x p) (holds_same k m (x p) (byte_at sector_bytes after p) (λ r l. sym (e r p (omega (arith, s.parity)) hp)) (h.1 p hp))))
      by (Ok (verdict.Accused r)) h = bad h.1 (all sector_bytes (λ p. holds k m (x p))) refl
      by (Ok verdict.Unsound) h = bad h.1 (all sector_bytes (λ p. holds k m (x p))) refl
      by (Err why) h = absurd (true≢false (sym (row_shaped g.n k sector_bytes (length after) s (omega arith) (omega arith) len) ∙ h.0))

-- ---- the code beside the definitions

pub range_fits : (g : Geometry) (len : ℕ) → fits_image g len ≡ true → in_range g ≡ true
unfolding fits_image
range_fits g len e = and_left (in_range g) (eqb len (image_bytes g)) e

-- a stripe that there is has its lost shards listed
pub lost_in_lem : (g : Geometry) (t there room : ℕ) → in_range g ≡ true → t < stripes_of g → most_n ≤ room → lost_in g t there room ≡ lost_of g.n t there
unfolding lost_in
lost_in_lem g t there room e h w =
    let f = in_range_lem g e in
    let b : (in_range g && (ltb t (stripes_of g) && leb g.n room)) ≡ true =
    both (in_range g) _ e (both (ltb t (stripes_of g)) _ (lt-ltb t (stripes_of g) h) (le-leb g.n room (omega (arith, f.few)))) in
    ap (λ (x : Bool). cond x (lost_of g.n t there) []) b

-- fewer than the parity are at most as many
pub spare_few : (g : Geometry) (k there t : ℕ) → spare g k there t ≡ true → few_lost g.n k t there ≡ true
unfolding spare few_lost
spare_few g k there t e = let x : ℕ = length (lost_of g.n t there) in le-leb x (g.n - k) (omega (arith, ltb-true x (g.n - k) e))

-- as many bytes as a stripe has are in the image
pub stripe_within : (g : Geometry) (img : List ℕ) (t : ℕ) → fits_image g (length img) ≡ true → t < stripes_of g → g.n * shard_bytes g ≤ length img
unfolding Shape
stripe_within g img t e h = let a = fits_image_lem g img e in stripe_fits g img t (record { range = a.0; whole = a.1; stripe = h })

taken : (a b c : Bool) → a ≡ true → b ≡ true → c ≡ true
    → cond {A = Outcome} a (cond b (cond c (Ok tt) (Err BadBuffer)) (Err BadBlock)) (Err BadImage) ≡ Ok tt
taken a b c x y z = λ i. cond {A = Outcome} (x i) (cond (y i) (cond (z i) (Ok tt) (Err BadBuffer)) (Err BadBlock)) (Err BadImage)

-- one sector of each shard is fetched, whatever is kept
pub fetched : (g : Geometry) (img kept to after : List ℕ) (there t j : ℕ) (o : Outcome) → fits_image g (length img) ≡ true → t < stripes_of g → j < g.c
    → length kept ≡ g.n * shard_bytes g → length to ≡ g.n * sector_bytes → o ≡ fetch_answer g (length img) t j 1 (length kept) (length to)
    → after ≡ after_fetch o g img there 0 kept t j 1 to → after ≡ row_seen g img there 0 [] t j 1
unfolding fetch_answer part_of
fetched g img kept to after there t j o fits below hj hk ht eo ea =
    let p : (ltb t (stripes_of g) && (leb 1 1 && leb (j + 1) g.c)) ≡ true =
    both (ltb t (stripes_of g)) _ (lt-ltb t (stripes_of g) below) (both (leb 1 1) _ refl (le-leb (j + 1) g.c (omega arith))) in
    let q : (eqb (length kept) (g.n * shard_bytes g) && eqb (length to) (g.n * (1 * sector_bytes))) ≡ true =
    both (eqb (length kept) (g.n * shard_bytes g)) _ (eq-eqb _ _ hk) (eq-eqb _ _ ht) in
    let d : o ≡ (Ok tt) = eo ∙ taken (fits_image g (length img)) _ _ fits p q in
    ea ∙ ap (λ (x : Outcome). after_fetch x g img there 0 kept t j 1 to) d ∙ row_plain g img there kept t j 1

-- the loops
pub all_on : (p : ℕ → Bool) (n : ℕ) → all n p ≡ true → p n ≡ true → all (n + 1) p ≡ true
all_on p n e h = all_of (n + 1) p (λ i l. let w : i ≤ n = omega arith in go i (eq-or-lt_of_le w))
  where
    go : (i : ℕ) → (i ≡ n) ⊎ (i < n) → p i ≡ true
    go i (inl q) = ap p q ∙ h
    go i (inr l) = all_at n p e i l

pub all_stop : (p : ℕ → Bool) (n i : ℕ) → i < n → p i ≡ false → false ≡ all n p
all_stop p n i h e = by (all n p) refl
  where
    by : (b : Bool) → all n p ≡ b → false ≡ b
    by true q = absurd (true≢false (sym (all_at n p q i h) ∙ e))
    by false q = refl

pub some_on : (p : ℕ → Bool) (n : ℕ) → some n p ≡ false → p n ≡ false → some (n + 1) p ≡ false
unfolding some
some_on p n e h = let s : n + 1 ≡ suc n = omega arith in ap (λ (i : ℕ). some i p) s ∙ (λ i. e i || h i)

-- no stripe without a spare shard contradicts itself
pub no_spare : (g : Geometry) (k : ℕ) (img : List ℕ) (l : Label) (absent t x : ℕ) (y : Bool) → x ≡ seen_slots g l absent t → y ≡ spare g k x t → not y ≡ true
    → false ≡ contradicted g k img l absent t
unfolding contradicted
no_spare g k img l absent t x y ex ey n =
    let e : spare g k (seen_slots g l absent t) t ≡ false = ap (λ (u : ℕ). spare g k u t) (sym ex) ∙ sym ey ∙ not-true y n in
    ap (λ (b : Bool). b && not (stripe_holds g k img (seen_slots g l absent t) t)) (sym e)

pub with_spare : (g : Geometry) (k : ℕ) (img : List ℕ) (l : Label) (absent t x : ℕ) (y z : Bool) → x ≡ seen_slots g l absent t → y ≡ spare g k x t → not y ≡ false
    → z ≡ stripe_holds g k img x t → not z ≡ contradicted g k img l absent t
unfolding contradicted
with_spare g k img l absent t x y z ex ey n ez =
    let e : spare g k (seen_slots g l absent t) t ≡ true = ap (λ (u : ℕ). spare g k u t) (sym ex) ∙ sym ey ∙ not-false y n in
    ap not (ez ∙ ap (λ (u : ℕ). stripe_holds g k img u t) ex) ∙ ap (λ (b : Bool). b && not (stripe_holds g k img (seen_slots g l absent t) t)) (sym e)
