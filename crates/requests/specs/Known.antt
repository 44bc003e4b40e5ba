-- A changing request that nothing is in the way of finds the state's own label on every present disk. Assumes nothing.
use Rattle.std.specs.Prelude.{◌≡◌, Bool, true, false, cond, ◌&&◌, ◌||◌, List, ℕ, ◌+◌, ◌<◌, eqb, length, Ok, Err, Some, None}
use Rattle.std.proofs.Common.{sym, ap, ◌∙◌, arith, eqb-true}
use Rattle.disk.specs.Tests.{and_left, and_right}
use Rattle.disk.specs.Image.{fits_image}
use Rattle.disk.specs.Mask.{in_mask}
use Rattle.disk.specs.declared.refusal.Refusal.TheVariants.{BadImage, NoLabel, NotNow}
use Rattle.disk.specs.Refusal.{Outcome}
use Rattle.label.specs.Fields.{geometry_of}
use Rattle.label.specs.Newest.{disk_label, same_shelf, all_of}
use Rattle.label.proofs.Counts.{all_at}
use Rattle.label.specs.declared.fields.Label.{Label}
use Rattle.label.specs.Fields.{Decoded}
use Rattle.shelf.specs.Act.{named}
use Rattle.requests.specs.Ready.{is_idle, has_shelf, same_label, is_label, holding, ready_of}
use Rattle.requests.specs.Accepted.{passed}
use Rattle.stages.specs.declared.state.Kind.{Kind}

pub same_label_lem : (x y : Label) → same_label x y ≡ true → x ≡ y
unfolding same_label same_shelf
same_label_lem x y e =
    let s = and_left (eqb x.k y.k && (eqb x.m y.m && (eqb x.c y.c && (eqb x.sectors y.sectors && eqb x.shelf y.shelf)))) _ e in
    let s1 = and_right (eqb x.k y.k) _ s in
    let s2 = and_right (eqb x.m y.m) _ s1 in
    let s3 = and_right (eqb x.c y.c) _ s2 in
    let r = and_right (eqb x.k y.k && (eqb x.m y.m && (eqb x.c y.c && (eqb x.sectors y.sectors && eqb x.shelf y.shelf)))) _ e in
    let r1 = and_right (eqb x.slot y.slot) _ r in
    let r2 = and_right (eqb x.generation y.generation) _ r1 in
    let r3 = and_right (eqb x.out y.out) _ r2 in
    let k : x.k ≡ y.k = eqb-true _ _ (and_left (eqb x.k y.k) _ s) in
    let m : x.m ≡ y.m = eqb-true _ _ (and_left (eqb x.m y.m) _ s1) in
    let c : x.c ≡ y.c = eqb-true _ _ (and_left (eqb x.c y.c) _ s2) in
    let S : x.sectors ≡ y.sectors = eqb-true _ _ (and_left (eqb x.sectors y.sectors) _ s3) in
    let h : x.shelf ≡ y.shelf = eqb-true _ _ (and_right (eqb x.sectors y.sectors) _ s3) in
    let d : x.slot ≡ y.slot = eqb-true _ _ (and_left (eqb x.slot y.slot) _ r) in
    let g : x.generation ≡ y.generation = eqb-true _ _ (and_left (eqb x.generation y.generation) _ r1) in
    let o : x.out ≡ y.out = eqb-true _ _ (and_left (eqb x.out y.out) _ r2) in
    let b : x.rebuilding ≡ y.rebuilding = eqb-true _ _ (and_left (eqb x.rebuilding y.rebuilding) _ r3) in
    let t : x.mark ≡ y.mark = eqb-true _ _ (and_right (eqb x.rebuilding y.rebuilding) _ r3) in
    λ i. record {
      k = k i;
      m = m i;
      slot = d i;
      c = c i;
      sectors = S i;
      shelf = h i;
      generation = g i;
      out = o i;
      rebuilding = b i;
      mark = t i;
    }

is_label_lem : (l : Label) (x : Decoded) → is_label l x ≡ true → x ≡ Some l
is_label_lem l (Some y) e = ap Some (sym (same_label_lem l y e))
is_label_lem l None e = absurd (let z : ◌≡◌ {A = ℕ} 0 1 = cc in omega arith)

or_left : (a b : Bool) → a ≡ false → (a || b) ≡ true → b ≡ true
or_left true b h e = absurd (let z : ◌≡◌ {A = ℕ} 0 1 = cc in omega arith)
or_left false b h e = e

pub ready_labels : (l : Label) (kind : Kind) (absent : ℕ) (img : List ℕ) → ready_of l kind absent img ≡ Ok tt → is_idle kind ≡ true
    → (d : ℕ) → d < l.k + l.m → in_mask absent d ≡ false → disk_label (geometry_of l) img d ≡ Some (named l d)
unfolding ready_of holding
ready_labels l kind absent img e idle d h here =
    let p = passed (has_shelf l kind) _ NotNow e in
    let q = passed (fits_image (geometry_of l) (length img)) _ BadImage p.1 in
    let all : Bool = all_of (holding (geometry_of l) img absent l) (l.k + l.m) in
    let u : cond {A = Outcome} all (Ok tt) (Err NoLabel) ≡ (Ok tt) = ap (λ (b : Bool). cond {A = Outcome} b (cond {A = Outcome} all (Ok tt) (Err NoLabel)) (Ok tt)) (sym idle) ∙ q.1 in
    let a = all_at (holding (geometry_of l) img absent l) (l.k + l.m) (passed all (Ok tt) NoLabel u).0 d h in
    is_label_lem (named l d) (disk_label (geometry_of l) img d) (or_left (in_mask absent d) (is_label (named l d) (disk_label (geometry_of l) img d)) here a)
