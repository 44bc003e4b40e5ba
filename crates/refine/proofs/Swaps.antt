-- ANOTHER DISK IN A SLOT while the program is at rest and its state calls the slot absent: a fresh one, one that held something else, or one that was in the slot before. It may hold anything but
-- a label of another shelf, or one of this shelf of the settled generation or newer. To the protocol's machine it is a disk that is exchanged, and what ties the two is kept. Assumes nothing.
use Rattle.std.specs.Prelude.{◌≡◌, ◌⊎◌, ◌≢◌, Bool, true, not, ℕ, suc, ◌≤◌, ◌<◌, eqb, Some, None}
use Rattle.std.proofs.Math.Path.{refl, ap, subst, fun_ext}
use Rattle.std.proofs.Common.{sym, ◌∙◌, inl, inr, arith, eq-eqb, ne_eqb}
use Rattle.std.proofs.Math.Logic.{⊎_elim}
use Rattle.std.proofs.Math.Bool.{false, cond}
use Rattle.std.proofs.lemmas.Bool.{false≢true, eqb-false}
use mathlib.Core.List.{List, []}
use Rattle.disk.specs.Image.{sector}
use Rattle.label.specs.Valid.{decode_of}
use Rattle.label.specs.Newest.{copy_of}
use Rattle.label.specs.declared.fields.Label as bytes
use Rattle.label.specs.Fields.{Decoded}
use Rattle.protocol.specs.World.{Place, label, log, strip, slot, Image, update, update_here, update_cases, World, Possible, Sane, Always}
use Rattle.protocol.specs.Label.{Label, looked, copy, copy_same}
use Rattle.protocol.specs.Shape.{ShapeBy, shape_same}
use Rattle.protocol.specs.Formed.{Standing}
use Rattle.protocol.proofs.Formed.{standing}
use Rattle.protocol.specs.Program.{Memory, idle}
use Rattle.protocol.specs.Swap.{Swapped}
use Rattle.protocol.specs.Apart.{same_nat}
use Rattle.protocol.specs.Even as even
use Rattle.protocol.specs.Machine.{Machine, disk_swapped, from_outside, View}
use Rattle.codecs.specs.Sector.{Sector}
use Rattle.codecs.proofs.Sector.{sector_path, zeros}
use Rattle.codecs.specs.Shelf.{Shelf, slots, geometry, size}
use Rattle.codecs.specs.Labels.{sector_of, ours, no_label, label_of, meant}
use Rattle.codecs.proofs.Labels.{labels}
use Rattle.codecs.proofs.Records.{records}
use Rattle.codecs.specs.Media.{stamps}
use Rattle.stages.specs.declared.state.State.{State}
use Rattle.stages.specs.declared.state.Kind.TheVariants.{Idle}
use Rattle.refine.specs.Family.{Family, code_in, sectors_in}
use Rattle.refine.specs.Places.{label_inside}
use Rattle.refine.specs.Places as places
use Rattle.refine.specs.Disks.{Disks, cur_of}
use Rattle.refine.proofs.Disks.{cur_bytes, cur_read}
use Rattle.refine.specs.Rounds.{beyond_below}
use Rattle.refine.specs.Steps.{Fair}
use Rattle.refine.specs.Tied.{memory_of, plain}
use Rattle.refine.specs.Named.{Named, NamesIn, Names, left_in}
use Rattle.refine.specs.Chain.{has, Reached, Tie, happens}
use Rattle.refine.proofs.Chain.{rests}
use Rattle.refine.proofs.Holds.{copy_meant, copy_there, copy_counts}
use Rattle.refine.proofs.Merged.{cur_alike}
use Rattle.refine.specs.Swaps.{Exchanged, new_disk, own, w'}

-- what is read then
pub new_reads : (z : Shelf) (w : World Sector) (img : List ℕ) (d : ℕ) (left : List ℕ) → Disks z left → Disks z img → w.cur ≡ cur_of z img
    → ((e i : ℕ) → e < slots z → i < z.sectors → e ≢ d → sector z.sectors left e i ≡ sector z.sectors img e i) → (new_disk z w d left).cur ≡ cur_of z left
new_reads z w img d left dl di reads others = fun_ext (λ k. by k (eqb (slot k) d) refl)
  where
    by : (k : Place) (c : Bool) → eqb (slot k) d ≡ c → cond c (cur_of z left k) (w.cur k) ≡ cur_of z left k
    by k true e = refl
    by k false e = ap (λ (f : Image Sector). f k) reads ∙ sym (cur_alike z left img dl di k (λ u i l. others (slot k) u i l (eqb-false (slot k) d e)))

-- the two sectors of the label
two : (b : Bool) → sector_of b < 2
two true = omega arith
two false = omega arith

-- a label that names no other shelf, whatever a cut leaves, is so in each place by itself
may_named : (z : Shelf) (w : World Sector) → Sane w → Always w (Named z) → (k : Place) (x : Sector) → w.may k x → NamesIn z k x
unfolding Sane Possible Always Named
may_named z w sane named k x m =
    subst (NamesIn z k) (update_here w.cur k x)
    (named (update w.cur k x) (λ l. update_cases w.cur k x (w.may l) l (λ q. subst (λ (y : Place). w.may y x) (sym q) m) (sane l)) k)

module _ (z : Shelf) (F : Family z) (first : Machine Sector) (p : View Sector) (w : World Sector) (img : List ℕ) (s : State) (d : ℕ) (left : List ℕ) (x : Exchanged z s d img left) (t : Tie z F first p w img (has s)) where
  reached : Reached z F first p w (idle (own z F first p w img s d left x t))
  reached = subst (Reached z F first p w) (rests z s img x.at_rest) t.reached

  stands : Standing (size z) F.sets (labels z) (records z) (code_in z F) stamps (sectors_in z F) false w (idle (own z F first p w img s d left x t))
  stands = standing (size z) F.sets (labels z) (records z) (code_in z F) stamps (sectors_in z F) false w (idle (own z F first p w img s d left x t)) p reached.keeps

  -- the slot is absent, so it is not looked at
  away : (own z F first p w img s d left x t).absent d ≡ true
  away = beyond_below (slots z) s.absent d x.there ∙ x.absent

  dark : looked (size z) (own z F first p w img s d left x t).now d ≡ false
  dark = by (looked (size z) (own z F first p w img s d left x t).now d) refl
    where
      by : (b : Bool) → looked (size z) (own z F first p w img s d left x t).now d ≡ b → b ≡ false
      by true e = absurd (stands.1.1.dark d away e)
      by false e = refl

  -- ---- the disks

  reads : (w' z F first p w img s d left x t).cur ≡ cur_of z left
  reads = new_reads z w img d left x.disks t.disks t.reads x.others

  sane : Sane (w' z F first p w img s d left x t)
  unfolding Sane Possible
  sane k = ((λ q. ap (λ (b : Bool). cond b (cur_of z left k) (w.cur k)) (eq-eqb (slot k) d q)), λ n. subst (w.may k) (sym (ap (λ (b : Bool). cond b (cur_of z left k) (w.cur k)) (ne_eqb (slot k) d n))) (stands.0 k))

  -- whatever a cut leaves, the new disk holds what is read of it
  here : (f : Image Sector) → Possible (w' z F first p w img s d left x t) f → (b : Bool) → f (label d b) ≡ cur_of z left (label d b)
  unfolding Possible
  here f q b = (q (label d b)).0 refl

  named_here : (k : Place) → slot k ≡ d → NamesIn z k (cur_of z left k)
  unfolding copy_of places.sector_of places.copy_sector
  named_here (label e b) q =
      subst (λ (y : ℕ). NamesIn z (label y b) (cur_of z left (label y b))) (sym q)
      (λ a i. (x.older (sector_of b) a (two b) (sym (ap (λ (y : List ℕ). decode_of y d (sector_of b)) (cur_read z left x.disks (label d b) (label_inside z d b x.there))) ∙ i)).0)
  named_here (log e j) q = tt
  named_here (strip e u j) q = tt

  named : Always (w' z F first p w img s d left x t) (Named z)
  unfolding Always Possible Named
  named f q k =
      ⊎_elim (λ (e : slot k ≡ d). subst (NamesIn z k) (sym ((q k).0 e)) (named_here k e)) (λ (n : slot k ≢ d). may_named z w stands.0 t.named k (f k) ((q k).1 n)) (same_nat (slot k) d)

  -- ---- its labels

  named_left : Named z (cur_of z left)
  unfolding Always Sane
  named_left = subst (Named z) reads (named (w' z F first p w img s d left x t).cur sane)

  some : 0 < s.now.generation
  some = let born : 0 < s.epoch = stands.1.1.born in let since : s.epoch ≤ s.now.generation = stands.1.1.epoch_now in omega (arith, born, since)

  -- each is older than the settled one
  copy_older : (b : Bool) → (copy (labels z) (cur_of z left) d b).generation < s.now.generation
  copy_older b = subst (λ (l : Label). l.generation < s.now.generation) (sym (copy_meant z F left x.disks d b x.there)) (by (copy_of (geometry z) left d (sector_of b)) refl)
    where
      by : (c : Decoded) → copy_of (geometry z) left d (sector_of b) ≡ c → (meant z c).generation < s.now.generation
      by None e = some
      by (Some a) e = let y = x.older (sector_of b) a (two b) e in subst (λ (o : Bool). (cond o (label_of z a) (no_label z)).generation < s.now.generation) (sym y.0) (omega (arith, y.1))

  -- and the labels have their shape
  zero_is : (b : Bool) → sector z.sectors left d (sector_of b) ≡ zeros.bytes → cur_of z left (label d b) ≡ zeros
  unfolding places.sector_of places.copy_sector
  zero_is b e = sector_path (cur_of z left (label d b)) zeros (cur_bytes z left x.disks (label d b) (label_inside z d b x.there) ∙ e)

  shaped_left : ShapeBy (labels z) false (cur_of z left) d
  shaped_left = record { calm = calm; follow = follow }
    where
      G : Bool → ℕ
      G b = (copy (labels z) (cur_of z left) d b).generation

      valid : (b : Bool) → 0 < G b → (a : bytes.Label) × (copy_of (geometry z) left d (sector_of b) ≡ Some a) × (G b ≡ a.generation)
      valid b h = let y = copy_there z F left x.disks named_left d b 1 x.there (omega arith) h in (y.0, y.1, (copy_counts z F left x.disks named_left d b y.0 x.there y.1).0)

      calm : (b : Bool) → (false ≡ true) ⊎ (0 < G (not b)) → (cur_of z left (label d b) ≡ zeros) ⊎ (0 < G b)
      calm b (inl e) = absurd (false≢true e)
      calm b (inr h) =
          let y = valid (not b) h in
          ⊎_elim (λ (e : sector z.sectors left d (sector_of b) ≡ zeros.bytes). inl (zero_is b e))
          (λ (q : (a : bytes.Label) × (copy_of (geometry z) left d (sector_of b) ≡ Some a)). let c = copy_counts z F left x.disks named_left d b q.0 x.there q.1 in inr (omega (arith, c.0, c.1)))
          (x.shape.calm (sector_of b) (sector_of (not b)) y.0 (two b) (two (not b)) y.1)

      follow : (b : Bool) → 0 < G b → 0 < G (not b) → (G b ≡ suc (G (not b))) ⊎ (G (not b) ≡ suc (G b))
      follow false h g =
          let y = valid false h in
          let u = valid true g in
          ⊎_elim (λ e. inl (omega (arith, e, y.2, u.2))) (λ e. inr (omega (arith, e, y.2, u.2))) (x.shape.follow y.0 u.0 y.1 u.1)
      follow true h g =
          let y = valid true h in
          let u = valid false g in
          ⊎_elim (λ e. inr (omega (arith, e, y.2, u.2))) (λ e. inl (omega (arith, e, y.2, u.2))) (x.shape.follow u.0 y.0 u.1 y.1)

  -- ---- THE EVENT of the protocol's machine

  swapped : Swapped (labels z) d (own z F first p w img s d left x t).now.generation w (w' z F first p w img s d left x t)
  swapped =
      record {
        sane = sane;
        others = λ k n y m. m.1 n;
        older = λ f q b. subst (λ (l : Label). l.generation < s.now.generation) (sym (copy_same (labels z) (cur_of z left) f d b (here f q b))) (copy_older b);
      }

  new_shaped : Always (w' z F first p w img s d left x t) (λ f. ShapeBy (labels z) false f d)
  unfolding Always
  new_shaped f q = shape_same (labels z) false (cur_of z left) f d (here f q) shaped_left

  after_swap : Reached z F first p (w' z F first p w img s d left x t) (idle (own z F first p w img s d left x t))
  after_swap = happens z F first p reached (even.from_outside (disk_swapped d dark swapped)) (from_outside (disk_swapped d dark swapped)) (away, new_shaped) (λ q e. e)

  -- THE TIE IS KEPT, with the view as it was
  pub swap_kept : Tie z F first p (w' z F first p w img s d left x t) left (has s)
  swap_kept =
      let m : memory_of z s [] left ≡ idle (own z F first p w img s d left x t) = rests z s left x.at_rest in
      let mine : ours z s.now ≡ true = ⊎_elim (λ (f : Fair z s [] img × (plain s.kind ≡ true)). f.0.ours_now) (λ (q : (s.kind ≡ Idle) × (ours z s.now ≡ true)). q.1) t.order.1 in
      record {
        disks = x.disks;
        reads = reads;
        reached = subst (Reached z F first p (w' z F first p w img s d left x t)) (sym m) after_swap;
        named = named;
        names = subst (λ (y : Memory Sector). Names z (left_in z y)) (sym m) tt;
        order = (t.order.0, inr (x.at_rest, mine));
      }
