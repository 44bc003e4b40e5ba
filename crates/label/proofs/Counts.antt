-- Which label counts: the newest is one of them and none is newer; labels that agree with one agree with each other.
-- Assumes nothing.
use mathlib.Core.Path.{◌≡◌, refl, sym, ap, ◌∙◌}
use mathlib.Core.Bool.{Bool, true, false, ◌||◌, cond}
use mathlib.Core.Logic.{⊎_elim}
use mathlib.Core.List.{List}
use Prim.Native.Nat.{ℕ, zero, suc, ◌+◌, ◌≤◌, ◌<◌}
use native.Mathlib.Nat.{eq-or-lt_of_le}
use native.Mathlib.Numerals.{add-one}
use native.Mathlib.Omega.{arith}
use lib.Dec.{ltb, eqb}
use borrow.Author.Tests.{ltb-true, ltb-false, eqb-true}
use Rattle.std.specs.Prelude.{Some, None}
use Rattle.std.specs.List.{fold, range_with_len}
use Rattle.disk.specs.Tests.{and_left, and_right}
use lib.ListN.{length}
use Rattle.disk.specs.Image.{fits_image, read_of}
use Rattle.disk.specs.Mask.{in_mask}
use Rattle.disk.specs.declared.geometry.Geometry.{Geometry}
use Rattle.label.specs.Fields.{fits_of}
use Rattle.label.specs.Newest.{newer, newest_of, copy_of, disk_label, present_label, shelf_label, same_shelf, agreeing, standing, all_of, agreed}
use Rattle.label.proofs.Laws.{Meant, decode_says}
use Rattle.label.specs.declared.fields.Label.{Label}
use Rattle.label.specs.Fields.{Decoded}

-- ---- one more

-- from the newest of the first a over n more
pub newest_on : (f : ℕ → Decoded) (a n : ℕ) → fold (λ x d. newer x (f d)) (newest_of f a) (range_with_len a n) ≡ newest_of f (a + n)
unfolding newest_of
newest_on f a zero = ap (newest_of f) (let e : a ≡ a + 0 = omega arith in e)
newest_on f a (suc n) =
    ap (λ (x : Decoded). fold (λ x d. newer x (f d)) x (range_with_len (a + 1) n)) (ap (newest_of f) (sym (add-one a)))
    ∙ newest_on f (a + 1) n ∙ ap (newest_of f) (let e : a + 1 + n ≡ a + suc n = omega arith in e)

-- ---- a test that holds of all, and one that fails

pub all_at : (p : ℕ → Bool) (n : ℕ) → all_of p n ≡ true → (d : ℕ) → d < n → p d ≡ true
unfolding all_of
all_at p zero e d h = absurd (omega arith)
all_at p (suc n) e d h =
    let f = all_at p n (and_left (all_of p n) (p n) e) d in
    let l : d ≤ n = omega arith in
    ⊎_elim (λ (q : d ≡ n). ap p q ∙ and_right (all_of p n) (p n) e) (λ (q : d < n). f q) (eq-or-lt_of_le l)

pub all_not : (p : ℕ → Bool) (n d : ℕ) → d < n → p d ≡ false → all_of p n ≡ false
all_not p n d h e = by (all_of p n) refl
  where
    by : (b : Bool) → all_of p n ≡ b → b ≡ false
    by true q = sym (all_at p n q d h) ∙ e
    by false q = refl

-- ---- the newest: it is one of them, and none is newer

-- l is among the first n, and of the greatest generation
pub record Newest (f : ℕ → Decoded) (n : ℕ) (l : Label) : Type 0 where
  pub whose : ℕ
  pub among : whose < n
  pub is : f whose ≡ Some l
  pub greatest : (d : ℕ) (x : Label) → d < n → f d ≡ Some x → x.generation ≤ l.generation

-- what a step of the search makes of the newest so far
newest_step : (f : ℕ → Decoded) (n : ℕ) (old new : Decoded) → f n ≡ new
    → ((l : Label) → old ≡ Some l → Newest f n l)
    → (old ≡ None → (d : ℕ) (x : Label) → d < n → f d ≡ Some x → ⊥)
    → (l : Label) → newer old new ≡ Some l → Newest f (suc n) l
newest_step f n None None e some none l q = absurd (let z : ◌≡◌ {A = ℕ} 0 1 = cc in omega arith)
newest_step f n None (Some b) e some none l q =
    record {
      whose = n;
      among = omega arith;
      is = e ∙ q;
      greatest = λ d x h r.
          let k : d ≤ n = omega arith in
          ⊎_elim (λ (p : d ≡ n). let g : x ≡ l = cc in omega (arith, ap (λ (y : Label). y.generation) g)) (λ (p : d < n). absurd (none refl d x p r))
          (eq-or-lt_of_le k);
    }
newest_step f n (Some a) None e some none l q =
    let s = some l q in
    record {
      whose = s.whose;
      among = omega (arith, s.among);
      is = s.is;
      greatest = λ d x h r.
          let k : d ≤ n = omega arith in
          ⊎_elim (λ (p : d ≡ n). absurd (let z : ◌≡◌ {A = ℕ} 0 1 = cc in omega arith)) (λ (p : d < n). s.greatest d x p r) (eq-or-lt_of_le k);
    }
newest_step f n (Some a) (Some b) e some none l q = by (ltb a.generation b.generation) refl q
  where
    by : (t : Bool) → ltb a.generation b.generation ≡ t → cond t (Some b) (Some a) ≡ Some l → Newest f (suc n) l
    by true t q =
        let s = some a refl in
        let w : b ≡ l = cc in
        let g : a.generation < l.generation = omega (arith, ltb-true a.generation b.generation t, ap (λ (y : Label). y.generation) w) in
        record {
          whose = n;
          among = omega arith;
          is = e ∙ q;
          greatest = λ d x h r.
              let k : d ≤ n = omega arith in
              ⊎_elim (λ (p : d ≡ n). let v : x ≡ l = cc in omega (arith, ap (λ (y : Label). y.generation) v))
              (λ (p : d < n). omega (arith, s.greatest d x p r)) (eq-or-lt_of_le k);
        }
    by false t q =
        let w : a ≡ l = cc in
        let s = some l q in
        let g : b.generation ≤ l.generation = omega (arith, ltb-false a.generation b.generation t, ap (λ (y : Label). y.generation) w) in
        record {
          whose = s.whose;
          among = omega (arith, s.among);
          is = s.is;
          greatest = λ d x h r.
              let k : d ≤ n = omega arith in
              ⊎_elim (λ (p : d ≡ n). let v : x ≡ b = cc in omega (arith, ap (λ (y : Label). y.generation) v))
              (λ (p : d < n). s.greatest d x p r) (eq-or-lt_of_le k);
        }

newer_nothing : (old new : Decoded) → newer old new ≡ None → (old ≡ None) × (new ≡ None)
newer_nothing None None q = (refl, refl)
newer_nothing None (Some b) q = absurd (let z : ◌≡◌ {A = ℕ} 0 1 = cc in omega arith)
newer_nothing (Some a) None q = absurd (let z : ◌≡◌ {A = ℕ} 0 1 = cc in omega arith)
newer_nothing (Some a) (Some b) q = by (ltb a.generation b.generation) q
  where
    by : (t : Bool) → cond t (Some b) (Some a) ≡ None → (Some a ≡ None) × (Some b ≡ None)
    by true q = absurd (let z : ◌≡◌ {A = ℕ} 0 1 = cc in omega arith)
    by false q = absurd (let z : ◌≡◌ {A = ℕ} 0 1 = cc in omega arith)

-- there is no newest only where there is none at all
pub newest_none : (f : ℕ → Decoded) (n : ℕ) → newest_of f n ≡ None → (d : ℕ) (x : Label) → d < n → f d ≡ Some x → ⊥
unfolding newest_of
newest_none f zero q d x h r = omega arith
newest_none f (suc n) q d x h r =
    let p = newer_nothing (newest_of f n) (f n) q in
    let k : d ≤ n = omega arith in
    let below = newest_none f n p.0 d x in
    ⊎_elim (λ (e : d ≡ n). let z : ◌≡◌ {A = ℕ} 0 1 = cc p.1 in omega arith) (λ (l : d < n). below l r) (eq-or-lt_of_le k)

pub newest_is : (f : ℕ → Decoded) (n : ℕ) (l : Label) → newest_of f n ≡ Some l → Newest f n l
unfolding newest_of
newest_is f zero l q = absurd (let z : ◌≡◌ {A = ℕ} 0 1 = cc in omega arith)
newest_is f (suc n) l q = newest_step f n (newest_of f n) (f n) refl (newest_is f n) (newest_none f n) l q

-- ---- a disk's label and the shelf's

-- a disk's label is a valid copy of that slot
pub disk_says : (g : Geometry) (img : List ℕ) (d : ℕ) (l : Label) → disk_label g img d ≡ Some l → Newest (copy_of g img d) 2 l
unfolding disk_label
disk_says g img d l e = newest_is (copy_of g img d) 2 l e

pub copy_says : (g : Geometry) (img : List ℕ) (d s : ℕ) (l : Label) → copy_of g img d s ≡ Some l → Meant (read_of g img d s) d s l
unfolding copy_of
copy_says g img d s l e = decode_says (read_of g img d s) d s l e

pub disk_own : (g : Geometry) (img : List ℕ) (d : ℕ) (l : Label) → disk_label g img d ≡ Some l → (l.slot ≡ d) × (fits_of l ≡ true)
disk_own g img d l e =
    let n = disk_says g img d l e in
    let m = copy_says g img d n.whose l n.is in
    (m.own, m.fit)

pub shelf_says : (g : Geometry) (img : List ℕ) (absent : ℕ) (l : Label) → shelf_label g img absent ≡ Some l
    → Newest (present_label g img absent) g.n l
unfolding shelf_label
shelf_says g img absent l e = by (fits_image g (length img)) e
  where
    by : (b : Bool) → cond b (newest_of (present_label g img absent) g.n) None ≡ Some l → Newest (present_label g img absent) g.n l
    by true q = newest_is (present_label g img absent) g.n l q
    by false q = absurd (let z : ◌≡◌ {A = ℕ} 0 1 = cc in omega arith)

-- the label of a present disk
pub present_says : (g : Geometry) (img : List ℕ) (absent d : ℕ) (l : Label) → present_label g img absent d ≡ Some l
    → (in_mask absent d ≡ false) × (disk_label g img d ≡ Some l)
unfolding present_label
present_says g img absent d l = by (in_mask absent d)
  where
    by : (b : Bool) → cond b None (disk_label g img d) ≡ Some l → (b ≡ false) × (disk_label g img d ≡ Some l)
    by true q = absurd (let z : ◌≡◌ {A = ℕ} 0 1 = cc in omega arith)
    by false q = (refl, q)

-- ---- labels that agree

pub record SameShelf (x y : Label) : Type 0 where
  pub same_k : x.k ≡ y.k
  pub same_m : x.m ≡ y.m
  pub same_c : x.c ≡ y.c
  pub same_sectors : x.sectors ≡ y.sectors
  pub same_number : x.shelf ≡ y.shelf

pub same_says : (x y : Label) → same_shelf x y ≡ true → SameShelf x y
unfolding same_shelf
same_says x y e =
    let e1 = and_right (eqb x.k y.k) _ e in
    let e2 = and_right (eqb x.m y.m) _ e1 in
    let e3 = and_right (eqb x.c y.c) _ e2 in
    record {
      same_k = eqb-true _ _ (and_left (eqb x.k y.k) _ e);
      same_m = eqb-true _ _ (and_left (eqb x.m y.m) _ e1);
      same_c = eqb-true _ _ (and_left (eqb x.c y.c) _ e2);
      same_sectors = eqb-true _ _ (and_left (eqb x.sectors y.sectors) (eqb x.shelf y.shelf) e3);
      same_number = eqb-true _ _ (and_right (eqb x.sectors y.sectors) (eqb x.shelf y.shelf) e3);
    }

-- a disk's label that agrees with l
pub record Stands (g : Geometry) (img : List ℕ) (l : Label) (d : ℕ) : Type 0 where
  pub label : Label
  pub is : disk_label g img d ≡ Some label
  pub same : SameShelf l label

-- each present disk has a label, and it agrees with l
pub agreed_says : (g : Geometry) (img : List ℕ) (absent : ℕ) (l : Label) → agreed g img absent l ≡ true
    → (d : ℕ) → d < g.n → in_mask absent d ≡ false → Stands g img l d
unfolding standing agreed
agreed_says g img absent l e d h p =
    by (in_mask absent d) p (disk_label g img d) refl
    (all_at (standing g img absent l) g.n (and_right (fits_image g (length img)) (all_of (standing g img absent l) g.n) e) d h)
  where
    by : (b : Bool) → b ≡ false → (x : Decoded) → disk_label g img d ≡ x → (b || agreeing l x) ≡ true → Stands g img l d
    by true p x q t = absurd (let z : ◌≡◌ {A = ℕ} 0 1 = cc in omega arith)
    by false p None q t = absurd (let z : ◌≡◌ {A = ℕ} 0 1 = cc in omega arith)
    by false p (Some x) q t = record { label = x; is = q; same = same_says l x t }
