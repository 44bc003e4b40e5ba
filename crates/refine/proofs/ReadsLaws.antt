-- WHAT A READ SHOWS, at any moment of a chain of calls with writes, is the entry of the host's view. In the words of read's contract.
-- Assumes nothing.
use Rattle.std.specs.Prelude.{◌≡◌, ◌&&◌, eqb, leb, ltb, Ok}
use Rattle.std.proofs.Math.Path.{refl, sym, ap, ap₂, subst, fun_ext}
use Rattle.std.proofs.Common.{◌∙◌, inl, inr, mod-eq_of_lt, mul_assoc, lit<, lt-ltb, le-ltb, le-leb, leb-true, eq-eqb, ne_eqb, eqb-true}
use Rattle.std.proofs.Math.Logic.{⊎_elim}
use Rattle.std.proofs.Math.Bool.{Bool, true, false, cond, not}
use Rattle.std.proofs.lemmas.Bool.{false≢true, eqb-false}
use mathlib.Core.List.{List, [], ◌∷◌}
use Prim.Native.Nat.{ℕ, ◌+◌, ◌-◌, ◌*◌, ◌≤◌, ◌<◌, ◌/◌, ◌%◌}
use Rattle.std.proofs.Math.Nat.{mod-lt, suc-mul, mul-le-mul_right}
use native.Mathlib.Omega.{arith}
use Rattle.std.proofs.Math.ListN.{length, get_or}
use Rattle.std.proofs.Math.Seq.{get_or-take}
use Rattle.disk.specs.Tests.{and_left, and_right}
use Rattle.disk.specs.Limits.{sector_bytes}
use Rattle.disk.specs.Geometry.{slot_of, slot_lt, shard_slot}
use Rattle.disk.specs.Image.{sector, lt_or_ge}
use Rattle.disk.specs.Mask.{in_mask, in_past}
use Rattle.disk.specs.declared.geometry.Geometry.{Geometry}
use Rattle.label.specs.Fields.{geometry_of}
use Rattle.label.specs.declared.fields.Label as bytes
use Rattle.label.proofs.Counts.{same_says}
use Rattle.position.specs.Row.{listed}
use Rattle.protocol.specs.World.{strip, World, Action}
use Rattle.protocol.specs.Label as Label
use Rattle.protocol.specs.Log.{Write}
use Rattle.protocol.specs.Host.{Blocks, missing, read, read_through}
use Rattle.protocol.specs.Program.{BAD_BLOCK, first, Own, Memory, idle, doing, labelling, logging, storing, block, read_block, beyond, mask, answer, meanwhile}
use Rattle.protocol.specs.Even.{program_by}
use Rattle.protocol.specs.Machine.{Machine, View, sure, open_write, kept_write, list_of}
use Rattle.protocol.specs.Pairs.{no_sets}
use Rattle.codecs.specs.Sector.{Sector, Bytes}
use Rattle.codecs.proofs.Sector.{zeros}
use Rattle.codecs.specs.Shelf.{Shelf, slots, geometry, size, some_slots}
use Rattle.codecs.specs.Labels.{fields_of, no_label, label_of, ours}
use Rattle.codecs.proofs.Labels.{labels}
use Rattle.codecs.specs.Records.{strip_bytes}
use Rattle.codecs.proofs.Records.{records}
use Rattle.codecs.specs.Media.{stamps}
use Rattle.shards.specs.Parity.{byte_of}
use Rattle.shards.specs.Exact.{blocks_blind}
use Rattle.shards.proofs.Even.{any_code, any_sectors}
use Rattle.stripes.specs.Slice.{sector_is}
use Rattle.strips.specs.Seen.{shown_byte, shard_shown}
use Rattle.views.specs.Seen.{Keeping, gone}
use Rattle.views.proofs.Seen.{none_over, shown_block}
use Rattle.views.specs.Seen as views
use Rattle.views.specs.Program.{bad_same}
use Rattle.blocks.specs.Slots.{too_few}
use Rattle.blocks.specs.Answers.{serves, look_answer, sizes, block_answer, first_done, answered_done}
use Rattle.blocks.specs.Read.{laid_by, block_shown, half_of, shown_of, read_answer, after_read, Shows, read_done, shows_block}
use Rattle.stages.specs.Limits.{most_stages}
use Rattle.stages.specs.Stage.{write_stage}
use Rattle.stages.specs.declared.state.State.{State}
use Rattle.stages.specs.declared.state.Kind.{Kind}
use Rattle.stages.specs.declared.state.Kind.TheVariants.{Nothing, Idle, Creating, Starting, Labelling, Writing, Beginning, Filling}
use Rattle.refine.specs.Family.{Family}
use Rattle.refine.specs.Disks.{Disks, cur_of, seen_of}
use Rattle.refine.specs.Rounds.{beyond_below}
use Rattle.refine.specs.Keeps.{Works, kept_at, kept_byte, kept_strip}
use Rattle.refine.specs.ToDo.{left_of, to_do}
use Rattle.refine.specs.Steps.{Fair}
use Rattle.refine.specs.Tied.{own_of, own_before, write_in, write_memory, memory_by, memory_with, memory_of, plain, program_of}
use Rattle.refine.specs.WriteList.{Writes, strip_same}
use Rattle.refine.specs.Sees.{there_believed}
use Rattle.refine.proofs.Sees.{there_lying}
use Rattle.refine.specs.Chain.{Reached, Tie}
use Rattle.refine.proofs.Chain.{asks_to}
use Rattle.refine.specs.Chain as chain
use Rattle.refine.specs.Refills.{Refilling}
use Rattle.refine.specs.Hosts.{has, Laying, Readying, Bound}
use Rattle.refine.specs.Reads.{NoBlock, stripe, in_stripe, th, f, g, k_is, geo, in_T, in_k, may_read, own, T, I, o, seen, M, Shown, Right}

lt_leb_false : (a c : ℕ) → c < a → leb a c ≡ false
lt_leb_false a c h = by (leb a c) refl
  where
    by : (x : Bool) → leb a c ≡ x → x ≡ false
    by true e = absurd (omega (arith, leb-true a c e))
    by false e = refl

module _ (z : Shelf) (img : List ℕ) (disks : Disks z img) (l : bytes.Label) (own : ours z l ≡ true) (absent b : ℕ) (work buf : List ℕ) (shows : Shows l absent img work b buf) where
  in_n : (in_stripe z img disks l own absent b work buf shows) < slots z
  in_n = omega (arith, (in_k z img disks l own absent b work buf shows))

  -- the block as the views have it
  shown_is : (over : ℕ) → shown_of l absent over img work b ≡ shard_shown (geometry z) z.k img (th z img disks l own absent b work buf shows) over (half_of (geometry_of l) work) (stripe z img disks l own absent b work buf shows) 0 z.c (in_stripe z img disks l own absent b work buf shows)
  unfolding shown_of block_shown shard_shown
  shown_is over =
      let at : (p : ℕ) → p ≡ 0 * sector_bytes + p = λ p. omega arith in
      ap₂ (λ (x : Geometry) (k : ℕ). block_shown x k img (th z img disks l own absent b work buf shows) over (half_of (geometry_of l) work) (stripe z img disks l own absent b work buf shows) (in_stripe z img disks l own absent b work buf shows)) (geo z img disks l own absent b work buf shows) (k_is z img disks l own absent b work buf shows)
      ∙ ap (λ (h : ℕ → ℕ). listed (z.c * sector_bytes) h) (fun_ext (λ p. ap (shown_byte (geometry z) z.k img (th z img disks l own absent b work buf shows) over (half_of (geometry_of l) work) (stripe z img disks l own absent b work buf shows) (in_stripe z img disks l own absent b work buf shows)) (at p)))

  module _ (dark : (d : ℕ) → d < slots z → in_mask absent d ≡ true → Label.looked (size z) (label_of z l) d ≡ true → ⊥) where
    -- READ, with nothing laid over
    pub shown_read : shown_of l absent 0 img work b ≡ strip_bytes (read (size z) (no_sets (slots z)) (records z) (any_code z) (label_of z l) (f z img disks l own absent b work buf shows) (stripe z img disks l own absent b work buf shows) (in_stripe z img disks l own absent b work buf shows)) z.c
    unfolding read gone
    shown_read =
        shown_is 0 ∙ shown_block z (stripe z img disks l own absent b work buf shows) img (th z img disks l own absent b work buf shows) 0 (half_of (geometry_of l) work) (g z img disks l own absent b work buf shows) (g z img disks l own absent b work buf shows) (there_lying z l own absent (stripe z img disks l own absent b work buf shows) img disks (in_T z img disks l own absent b work buf shows)) nothing_over (in_stripe z img disks l own absent b work buf shows) in_n
        ∙ ap (λ (v : ℕ → ℕ → Sector). strip_bytes ((any_code z).blocks (stripe z img disks l own absent b work buf shows) (gone (th z img disks l own absent b work buf shows)) v (in_stripe z img disks l own absent b work buf shows)) z.c) (none_over (g z img disks l own absent b work buf shows) (g z img disks l own absent b work buf shows))
        ∙ ap (λ (x : Blocks Sector). strip_bytes (x (in_stripe z img disks l own absent b work buf shows)) z.c)
        (bad_same z (stripe z img disks l own absent b work buf shows) (gone (th z img disks l own absent b work buf shows)) (missing (size z) (no_sets (slots z)) (records z) (any_code z) (label_of z l) (stripe z img disks l own absent b work buf shows)) (g z img disks l own absent b work buf shows) (λ d h. ap not (there_believed z l own absent (stripe z img disks l own absent b work buf shows) dark d h)))
      where
        nothing_over : Keeping z (stripe z img disks l own absent b work buf shows) (half_of (geometry_of l) work) 0 (g z img disks l own absent b work buf shows)
        nothing_over r j hr hj e = absurd (false≢true (sym (in_past 0 0 (slot_of (slots z) (stripe z img disks l own absent b work buf shows) r) (lit< tt) (omega arith)) ∙ e))

    -- READ, with the shards of a write laid over that is on its way to its strips
    pub shown_through : (u : Write Sector) (over : ℕ) → ((d : ℕ) → d < slots z → Label.believed (size z) (label_of z l) d (stripe z img disks l own absent b work buf shows) ≡ true → in_mask over d ≡ (eqb (stripe z img disks l own absent b work buf shows) u.stripe && u.changes d))
        → Keeping z (stripe z img disks l own absent b work buf shows) (half_of (geometry_of l) work) over u.new
        → shown_of l absent over img work b ≡ strip_bytes (read_through (size z) (no_sets (slots z)) (records z) (any_code z) u (label_of z l) (f z img disks l own absent b work buf shows) (stripe z img disks l own absent b work buf shows) (in_stripe z img disks l own absent b work buf shows)) z.c
    unfolding read_through views.laid_over gone
    shown_through u over same keeps =
        let bad : ℕ → Bool = missing (size z) (no_sets (slots z)) (records z) (any_code z) (label_of z l) (stripe z img disks l own absent b work buf shows) in
        shown_is over ∙ shown_block z (stripe z img disks l own absent b work buf shows) img (th z img disks l own absent b work buf shows) over (half_of (geometry_of l) work) (g z img disks l own absent b work buf shows) u.new (there_lying z l own absent (stripe z img disks l own absent b work buf shows) img disks (in_T z img disks l own absent b work buf shows)) keeps (in_stripe z img disks l own absent b work buf shows) in_n
        ∙ ap (λ (x : Blocks Sector). strip_bytes (x (in_stripe z img disks l own absent b work buf shows)) z.c) (bad_same z (stripe z img disks l own absent b work buf shows) (gone (th z img disks l own absent b work buf shows)) bad (views.laid_over over u.new (g z img disks l own absent b work buf shows)) (λ d h. ap not (there_believed z l own absent (stripe z img disks l own absent b work buf shows) dark d h)))
        ∙ ap (λ (x : ℕ → Sector). strip_bytes x z.c)
        (fun_ext (λ j. blocks_blind z (stripe z img disks l own absent b work buf shows) bad (views.laid_over over u.new (g z img disks l own absent b work buf shows)) (in_stripe z img disks l own absent b work buf shows) j in_n (λ d i. cond (eqb (stripe z img disks l own absent b work buf shows) u.stripe && u.changes d) (u.new d i) ((g z img disks l own absent b work buf shows) d i))
        (λ d h e. ap (λ (x : Bool). cond x (u.new d j) ((g z img disks l own absent b work buf shows) d j)) (same d h (sees (Label.believed (size z) (label_of z l) d (stripe z img disks l own absent b work buf shows)) e)))))
      where
        sees : (x : Bool) → not x ≡ false → x ≡ true
        sees true e = refl
        sees false e = sym e

  module _ (F : Family z) (first_one : Machine Sector) (p : View Sector) (w : World Sector) (reads : w.cur ≡ cur_of z img) where
    -- what the program gives is the view's entry
    pub given_entry : (m : Memory Sector) (x : ℕ → Sector) → Reached z F first_one p w m → program_of z m (cur_of z img) (read_block (stripe z img disks l own absent b work buf shows) (in_stripe z img disks l own absent b work buf shows)) ≡ (m, block x)
        → strip_bytes x z.c ≡ strip_bytes (list_of p (stripe z img disks l own absent b work buf shows) (in_stripe z img disks l own absent b work buf shows)) z.c
    given_entry m x r e =
        let y = asks_to z F first_one img reads r m (read_block (stripe z img disks l own absent b work buf shows) (in_stripe z img disks l own absent b work buf shows)) (block x) e (λ why q. absurd (subst NoBlock (sym q) tt)) (λ q. absurd (subst NoBlock (sym q) tt)) in
        strip_same x (list_of p (stripe z img disks l own absent b work buf shows) (in_stripe z img disks l own absent b work buf shows)) z.c y.1.1

  -- the work area's shards, as strips
  pub half_keeps : Works z work → (r j : ℕ) → r < slots z → j < z.c → sector z.c (half_of (geometry_of l) work) r j ≡ (kept_strip z work (stripe z img disks l own absent b work buf shows) (slot_of (slots z) (stripe z img disks l own absent b work buf shows) r) j).bytes
  unfolding half_of kept_strip Bytes
  half_keeps works r j hr hj =
      let d : ℕ = slot_of (slots z) (stripe z img disks l own absent b work buf shows) r in
      let len : length (half_of (geometry_of l) work) ≡ slots z * (z.c * sector_bytes) = (shows_block l absent img work b buf shows).keeps ∙ ap (λ (x : Geometry). x.n * (x.c * sector_bytes)) (geo z img disks l own absent b work buf shows) in
      let H : ℕ = (l.k + l.m) * (l.c * sector_bytes) in
      let he : H ≡ slots z * (z.c * sector_bytes) = ap (λ (x : Geometry). x.n * (x.c * sector_bytes)) (geo z img disks l own absent b work buf shows) in
      sector_is z (half_of (geometry_of l) work) r j len hr hj (kept_strip z work (stripe z img disks l own absent b work buf shows) d j)
      (λ p hp.
      let at : r * (z.c * sector_bytes) + (j * sector_bytes + p) < H = omega (arith, he, mul-le-mul_right (z.c * sector_bytes) hr, suc-mul r (z.c * sector_bytes), mul-le-mul_right sector_bytes hj, suc-mul j sector_bytes) in
      get_or-take H work (r * (z.c * sector_bytes) + (j * sector_bytes + p)) 0 at
      ∙ ap (λ (x : ℕ). get_or work (x + (j * sector_bytes + p)) 0) (sym (mul_assoc r z.c sector_bytes) ∙ ap (λ (x : ℕ). x * z.c * sector_bytes) (sym (shard_slot (slots z) (stripe z img disks l own absent b work buf shows) (some_slots z) r hr)))
      ∙ sym (mod-eq_of_lt (works.small (kept_at z (stripe z img disks l own absent b work buf shows) d j p)))
      ∙ sym (byte_of (kept_byte z work (stripe z img disks l own absent b work buf shows) d j) (λ i. mod-lt (get_or work (kept_at z (stripe z img disks l own absent b work buf shows) d j i) 0) (lit< tt)) p hp))

-- ---- while a write is under way

module _ (z : Shelf) (img : List ℕ) (s : State) (b : ℕ) (work buf : List ℕ) (shows : Shows s.now s.absent img work b buf) (u : Write Sector) (writes : Writes z s work u) (fair : Fair z s work img)
    (dark : (d : ℕ) → d < slots z → in_mask s.absent d ≡ true → Label.looked (size z) (label_of z s.now) d ≡ true → ⊥) where
  same_over : (x : Bool) → eqb s.marks.stripe (T z img s b work buf shows u writes fair dark) ≡ x → (d : ℕ) → d < slots z → Label.believed (size z) (label_of z s.now) d (T z img s b work buf shows u writes fair dark) ≡ true → in_mask (cond x s.marks.redo 0) d ≡ (eqb (T z img s b work buf shows u writes fair dark) u.stripe && u.changes d)
  same_over true e d h y =
      let q : (T z img s b work buf shows u writes fair dark) ≡ u.stripe = sym (eqb-true s.marks.stripe (T z img s b work buf shows u writes fair dark) e) ∙ writes.stripe in
      writes.involves d h ∙ ap (λ (x : ℕ). Label.believed (size z) (label_of z s.now) d x && u.changes d) (sym q) ∙ ap (λ (x : Bool). x && u.changes d) (y ∙ sym (eq-eqb (T z img s b work buf shows u writes fair dark) u.stripe q))
  same_over false e d h y =
      in_past 0 0 d (lit< tt) (omega arith)
      ∙ ap (λ (x : Bool). x && u.changes d) (sym (ne_eqb (T z img s b work buf shows u writes fair dark) u.stripe (λ q. eqb-false s.marks.stripe (T z img s b work buf shows u writes fair dark) e (writes.stripe ∙ sym q))))

  keeps_over : (x : Bool) → eqb s.marks.stripe (T z img s b work buf shows u writes fair dark) ≡ x → Keeping z (T z img s b work buf shows u writes fair dark) (half_of (geometry_of s.now) work) (cond x s.marks.redo 0) u.new
  keeps_over true e r j hr hj y =
      let d : ℕ = slot_of (slots z) (T z img s b work buf shows u writes fair dark) r in
      let hd : d < slots z = slot_lt (slots z) (T z img s b work buf shows u writes fair dark) (some_slots z) r in
      let c : u.changes d ≡ true = and_right (Label.believed (size z) (label_of z s.now) d u.stripe) (u.changes d) (sym (writes.involves d hd) ∙ y) in
      half_keeps z img fair.disks s.now (own z img s b work buf shows u writes fair dark) s.absent b work buf shows writes.works r j hr hj
      ∙ ap (λ (x : ℕ). (kept_strip z work x d j).bytes) (sym (eqb-true s.marks.stripe (T z img s b work buf shows u writes fair dark) e)) ∙ ap (λ (x : Sector). x.bytes) (writes.strips d j c hj)
  keeps_over false e r j hr hj y = absurd (false≢true (sym (in_past 0 0 (slot_of (slots z) (T z img s b work buf shows u writes fair dark) r) (lit< tt) (omega arith)) ∙ y))

  -- THE CODE SHOWS WHAT THE PROGRAM GIVES
  pub writing_shown : (Shown z img s b work buf shows u writes fair dark)
  unfolding write_memory write_stage program_by mask seen_of laid_by
  writing_shown = ⊎_elim early late (lt_or_ge s.cursor.stage 2)
    where
      memory_is : (M z img s b work buf shows u writes fair dark) ≡ write_memory z u s work (cur_of z img)
      memory_is = ap (λ (k : Kind). memory_by k z s (write_memory z u s work (cur_of z img)) (to_do z s work img)) writes.kind

      gives : (x : ℕ → Sector) (m : Memory Sector) → (M z img s b work buf shows u writes fair dark) ≡ m → program_of z m (cur_of z img) (read_block (T z img s b work buf shows u writes fair dark) (I z img s b work buf shows u writes fair dark)) ≡ (m, block x) → program_of z (M z img s b work buf shows u writes fair dark) (cur_of z img) (read_block (T z img s b work buf shows u writes fair dark) (I z img s b work buf shows u writes fair dark)) ≡ ((M z img s b work buf shows u writes fair dark), block x)
      gives x m e q = ap (λ (y : Memory Sector). program_of z y (cur_of z img) (read_block (T z img s b work buf shows u writes fair dark) (I z img s b work buf shows u writes fair dark))) e ∙ (q ∙ ap (λ (y : Memory Sector). (y, block x)) (sym e))

      early : s.cursor.stage < 2 → (Shown z img s b work buf shows u writes fair dark)
      early e =
          let X : ℕ → Sector = read (size z) (no_sets (slots z)) (records z) (any_code z) (label_of z s.now) (seen z img s b work buf shows u writes fair dark) (T z img s b work buf shows u writes fair dark) (I z img s b work buf shows u writes fair dark) in
          let a : List (Action Sector) = left_of z work (cur_of z img) (2 - s.cursor.stage) s in (
            X,
            gives X (doing (logging u) a (o z img s b work buf shows u writes fair dark) (own_of z s s.next))
                (memory_is ∙ ap (λ (x : Bool). cond x (doing (logging u) a (o z img s b work buf shows u writes fair dark) (own_of z s s.next)) (doing (storing u) (left_of z work (cur_of z img) most_stages s) (o z img s b work buf shows u writes fair dark) (own_of z s s.next))) (lt-ltb s.cursor.stage 2 e))
                (ap (λ (x : Bool). (doing (logging u) a (o z img s b work buf shows u writes fair dark) (own_of z s s.next), meanwhile (size z) (no_sets (slots z)) (labels z) (records z) (any_code z) stamps (any_sectors z) (logging u) (o z img s b work buf shows u writes fair dark) (seen z img s b work buf shows u writes fair dark) (T z img s b work buf shows u writes fair dark) (I z img s b work buf shows u writes fair dark) (first (record { why = BAD_BLOCK; holds = not x } ∷ []))))
                (may_read z img fair.disks s.now (own z img s b work buf shows u writes fair dark) s.absent b work buf shows)),
            ap (λ (x : Bool). shown_of s.now s.absent (cond (x && eqb s.marks.stripe (T z img s b work buf shows u writes fair dark)) s.marks.redo 0) img work b) (lt_leb_false 2 s.cursor.stage e)
                ∙ shown_read z img fair.disks s.now (own z img s b work buf shows u writes fair dark) s.absent b work buf shows dark,
          )

      late : 2 ≤ s.cursor.stage → (Shown z img s b work buf shows u writes fair dark)
      late e =
          let X : ℕ → Sector = read_through (size z) (no_sets (slots z)) (records z) (any_code z) u (label_of z s.now) (seen z img s b work buf shows u writes fair dark) (T z img s b work buf shows u writes fair dark) (I z img s b work buf shows u writes fair dark) in
          let a : List (Action Sector) = left_of z work (cur_of z img) most_stages s in (
            X,
            gives X (doing (storing u) a (o z img s b work buf shows u writes fair dark) (own_of z s s.next))
                (memory_is ∙ ap (λ (x : Bool). cond x (doing (logging u) (left_of z work (cur_of z img) (2 - s.cursor.stage) s) (o z img s b work buf shows u writes fair dark) (own_of z s s.next)) (doing (storing u) a (o z img s b work buf shows u writes fair dark) (own_of z s s.next))) (le-ltb s.cursor.stage 2 e))
                (ap (λ (x : Bool). (doing (storing u) a (o z img s b work buf shows u writes fair dark) (own_of z s s.next), meanwhile (size z) (no_sets (slots z)) (labels z) (records z) (any_code z) stamps (any_sectors z) (storing u) (o z img s b work buf shows u writes fair dark) (seen z img s b work buf shows u writes fair dark) (T z img s b work buf shows u writes fair dark) (I z img s b work buf shows u writes fair dark) (first (record { why = BAD_BLOCK; holds = not x } ∷ []))))
                (may_read z img fair.disks s.now (own z img s b work buf shows u writes fair dark) s.absent b work buf shows)),
            ap (λ (x : Bool). shown_of s.now s.absent (cond (x && eqb s.marks.stripe (T z img s b work buf shows u writes fair dark)) s.marks.redo 0) img work b) (le-leb 2 s.cursor.stage e)
                ∙ shown_through z img fair.disks s.now (own z img s b work buf shows u writes fair dark) s.absent b work buf shows dark u (cond (eqb s.marks.stripe (T z img s b work buf shows u writes fair dark)) s.marks.redo 0) (same_over (eqb s.marks.stripe (T z img s b work buf shows u writes fair dark)) refl) (keeps_over (eqb s.marks.stripe (T z img s b work buf shows u writes fair dark)) refl),
          )

module _ (z : Shelf) (F : Family z) (first_one : Machine Sector) (p : View Sector) (w : World Sector) (img : List ℕ) (s : State) (b : ℕ) (work buf : List ℕ)
    (ok : read_answer s.now s.kind s.absent b (length img) (length buf) (length work) ≡ Ok tt) where
  served : serves s.kind ≡ true
  unfolding block_answer
  served =
      (answered_done (too_few s.now s.absent) _ true (serves s.kind) (sizes (s.now.k + s.now.m) s.now.c (length buf) (length work))
      (first_done (look_answer s.now s.kind (length img)) (block_answer s.now s.absent true (serves s.kind) b (length buf) (length work)) ok).1).makes_sense

  shows_it : Shows s.now s.absent img work b buf
  shows_it = read_done s.now s.kind s.absent b img work buf ok

  -- at rest, and while labels change
  pub read_plain : Tie z F first_one p w img (chain.has s) → (Right z F first_one p w img s b work buf ok) s.kind
  unfolding memory_of program_by mask seen_of laid_by
  read_plain t = by s.kind plainly served (write_memory z (write_in z s []) s [] (cur_of z img)) t.reached
    where
      plainly : plain s.kind ≡ true
      plainly = ⊎_elim (λ (f : Fair z s [] img × (plain s.kind ≡ true)). f.1) (λ (q : (s.kind ≡ Idle) × (ours z s.now ≡ true)). ap plain q.0) t.order.1

      own : ours z s.now ≡ true
      own = ⊎_elim (λ (f : Fair z s [] img × (plain s.kind ≡ true)). f.0.ours_now) (λ (q : (s.kind ≡ Idle) × (ours z s.now ≡ true)). q.1) t.order.1

      T : ℕ
      T = stripe z img t.disks s.now own s.absent b work buf shows_it

      I : ℕ
      I = in_stripe z img t.disks s.now own s.absent b work buf shows_it

      o : Own
      o = own_of z s s.now

      X : ℕ → Sector
      X = read (size z) (no_sets (slots z)) (records z) (any_code z) (label_of z s.now) (seen_of z (beyond (slots z) (in_mask s.absent)) img) T I

      at_rest : Reached z F first_one p w (idle o) → ((d : ℕ) → o.absent d ≡ true → Label.looked (size z) (label_of z s.now) d ≡ true → ⊥) → shown_of s.now s.absent 0 img work b ≡ strip_bytes (list_of p T I) z.c
      at_rest r dark =
          shown_read z img t.disks s.now own s.absent b work buf shows_it (λ d i a q. dark d (beyond_below (slots z) s.absent d i ∙ a) q)
          ∙ given_entry z img t.disks s.now own s.absent b work buf shows_it F first_one p w t.reads (idle o) X r
          (ap (λ (x : Bool). answer (size z) (no_sets (slots z)) (labels z) (records z) (any_code z) stamps (any_sectors z) (idle o) (first (record { why = BAD_BLOCK; holds = not x } ∷ [])) (idle o) (block X)) (may_read z img t.disks s.now own s.absent b work buf shows_it))

      relabels : (a : List (Action Sector)) → Reached z F first_one p w (doing labelling a o (own_of z s s.next)) → ((d : ℕ) → o.absent d ≡ true → Label.looked (size z) (label_of z s.now) d ≡ true → ⊥) → shown_of s.now s.absent 0 img work b ≡ strip_bytes (list_of p T I) z.c
      relabels a r dark =
          shown_read z img t.disks s.now own s.absent b work buf shows_it (λ d i a q. dark d (beyond_below (slots z) s.absent d i ∙ a) q)
          ∙ given_entry z img t.disks s.now own s.absent b work buf shows_it F first_one p w t.reads (doing labelling a o (own_of z s s.next)) X r
          (ap (λ (x : Bool). (doing labelling a o (own_of z s s.next), meanwhile (size z) (no_sets (slots z)) (labels z) (records z) (any_code z) stamps (any_sectors z) labelling o (seen_of z (beyond (slots z) (in_mask s.absent)) img) T I (first (record { why = BAD_BLOCK; holds = not x } ∷ []))))
          (may_read z img t.disks s.now own s.absent b work buf shows_it))

      rest_dark : (p : View Sector) → Reached z F first_one p w (idle o) → (d : ℕ) → o.absent d ≡ true → Label.looked (size z) (label_of z s.now) d ≡ true → ⊥
      rest_dark (sure v) r d a q = r.keeps.1.dark d a q
      rest_dark (open_write v v') r d a q = r.keeps
      rest_dark (kept_write v') r d a q = r.keeps

      label_dark : (p : View Sector) (a : List (Action Sector)) → Reached z F first_one p w (doing labelling a o (own_of z s s.next)) → (d : ℕ) → o.absent d ≡ true → Label.looked (size z) (label_of z s.now) d ≡ true → ⊥
      label_dark (sure v) l r d a q = r.keeps.reads.0.dark d a q
      label_dark (open_write v v') l r d a q = r.keeps.reads
      label_dark (kept_write v') l r d a q = r.keeps.reads

      by : (k : Kind) → plain k ≡ true → serves k ≡ true → (v : Memory Sector) → Reached z F first_one p w (memory_by k z s v (to_do z s [] img)) → (Right z F first_one p w img s b work buf ok) k
      by Nothing e q v r = absurd (false≢true q)
      by Idle e q v r = at_rest r (rest_dark p r)
      by Creating e q v r = absurd (false≢true q)
      by Starting e q v r = absurd (false≢true q)
      by Labelling e q v r = relabels (to_do z s [] img) r (label_dark p (to_do z s [] img) r)
      by Writing e q v r = absurd (false≢true e)
      by Beginning e q v r = relabels (to_do z s [] img) r (label_dark p (to_do z s [] img) r)
      by Filling e q v r = absurd (false≢true e)

  -- while a write is under way
  pub read_writing : Laying z F first_one p w img s work → (Right z F first_one p w img s b work buf ok) s.kind
  unfolding write_memory
  read_writing t =
      let y =
      writing_shown z img s b work buf shows_it t.written t.writes t.fair
      (λ d i a q. by (ltb s.cursor.stage 2) (left_of z work (cur_of z img) (2 - s.cursor.stage) s) (left_of z work (cur_of z img) most_stages s)
      (subst (λ (k : Kind). Reached z F first_one p w (memory_by k z s (write_memory z t.written s work (cur_of z img)) (to_do z s work img))) t.writes.kind t.reached) d (beyond_below (slots z) s.absent d i ∙ a) q) in
      subst (Right z F first_one p w img s b work buf ok) (sym t.writes.kind)
      (y.2 ∙ given_entry z img t.disks s.now t.fair.ours_now s.absent b work buf shows_it F first_one p w t.reads (memory_with z t.written s work img) y.0 t.reached y.1)
    where
      u : Write Sector
      u = t.written

      o : Own
      o = own_before z s

      log_dark : (p : View Sector) (a : List (Action Sector)) → Reached z F first_one p w (doing (logging u) a o (own_of z s s.next)) → (d : ℕ) → o.absent d ≡ true → Label.looked (size z) (label_of z s.now) d ≡ true → ⊥
      log_dark (sure v) l r d a q = r.keeps.reads
      log_dark (open_write v v') l r d a q = r.keeps.reads.0.dark d a q
      log_dark (kept_write v') l r d a q = r.keeps.reads

      store_dark : (p : View Sector) (a : List (Action Sector)) → Reached z F first_one p w (doing (storing u) a o (own_of z s s.next)) → (d : ℕ) → o.absent d ≡ true → Label.looked (size z) (label_of z s.now) d ≡ true → ⊥
      store_dark (sure v) l r d a q = r.keeps.reads
      store_dark (open_write v v') l r d a q = r.keeps.reads
      store_dark (kept_write v') l r d a q = r.keeps.reads.0.dark d a q

      by : (x : Bool) (l l' : List (Action Sector)) → Reached z F first_one p w (cond x (doing (logging u) l o (own_of z s s.next)) (doing (storing u) l' o (own_of z s s.next)))
          → (d : ℕ) → o.absent d ≡ true → Label.looked (size z) (label_of z s.now) d ≡ true → ⊥
      by true l l' r = log_dark p l r
      by false l l' r = store_dark p l' r

  -- while the program changes labels, it reads as before: with the label as it was, and without the slots that were absent
  read_before : (o : Own) (acts : List (Action Sector)) → Disks z img → w.cur ≡ cur_of z img → ours z s.now ≡ true → o.now ≡ label_of z s.now
      → ((d : ℕ) → d < slots z → in_mask s.absent d ≡ true → o.absent d ≡ true) → Reached z F first_one p w (doing labelling acts o (own_of z s s.next))
      → shown_of s.now s.absent 0 img work b ≡ strip_bytes (list_of p (b / s.now.k) (b % s.now.k)) z.c
  unfolding read program_by mask seen_of
  read_before o acts disks reads own same_label_lem more_absent reached = shown
    where
      T : ℕ
      T = b / s.now.k

      I : ℕ
      I = b % s.now.k

      A : ℕ → Bool
      A = beyond (slots z) (in_mask s.absent)

      m : Memory Sector
      m = doing labelling acts o (own_of z s s.next)

      before_dark : (p : View Sector) → Reached z F first_one p w m → (d : ℕ) → o.absent d ≡ true → Label.looked (size z) o.now d ≡ true → ⊥
      before_dark (sure v) r d a q = r.keeps.reads.0.dark d a q
      before_dark (open_write v v') r d a q = r.keeps.reads
      before_dark (kept_write v') r d a q = r.keeps.reads

      was_dark : (d : ℕ) → o.absent d ≡ true → Label.looked (size z) (label_of z s.now) d ≡ true → ⊥
      was_dark d a q = before_dark p reached d a (ap (λ (x : Label.Label). Label.looked (size z) x d) same_label_lem ∙ q)

      dark : (d : ℕ) → d < slots z → in_mask s.absent d ≡ true → Label.looked (size z) (label_of z s.now) d ≡ true → ⊥
      dark d i a q = was_dark d (more_absent d i a) q

      bad : ℕ → Bool
      bad = missing (size z) (no_sets (slots z)) (records z) (any_code z) (label_of z s.now) T

      -- a strip that is believed is seen with either set of absent slots
      seen_here : (B : ℕ → Bool) (d j : ℕ) → (B d ≡ true → ⊥) → seen_of z B img (strip d T j) ≡ cur_of z img (strip d T j)
      seen_here B d j h = go (B d) refl
        where
          go : (x : Bool) → B d ≡ x → cond x zeros (cur_of z img (strip d T j)) ≡ cur_of z img (strip d T j)
          go true e = absurd (h e)
          go false e = refl

      looks : (d : ℕ) → bad d ≡ false → Label.looked (size z) (label_of z s.now) d ≡ true
      looks d e = and_left (Label.looked (size z) (label_of z s.now) d) _ (sees (Label.believed (size z) (label_of z s.now) d T) e)
        where
          sees : (x : Bool) → not x ≡ false → x ≡ true
          sees true e = refl
          sees false e = sym e

      X : (ℕ → Bool) → ℕ → Sector
      X B = read (size z) (no_sets (slots z)) (records z) (any_code z) (label_of z s.now) (seen_of z B img) T I

      same_read : X A ≡ X o.absent
      same_read =
          fun_ext
          (λ j. blocks_blind z T bad (λ d i. seen_of z A img (strip d T i)) I j (omega (arith, in_k z img disks s.now own s.absent b work buf shows_it)) (λ d i. seen_of z o.absent img (strip d T i))
          (λ d h e. seen_here A d j (λ a. dark d h (sym (beyond_below (slots z) s.absent d h) ∙ a) (looks d e)) ∙ sym (seen_here o.absent d j (λ a. was_dark d a (looks d e)))))

      Y : ℕ → Sector
      Y = read (size z) (no_sets (slots z)) (records z) (any_code z) o.now (seen_of z o.absent img) T I

      shown : shown_of s.now s.absent 0 img work b ≡ strip_bytes (list_of p T I) z.c
      shown =
          shown_read z img disks s.now own s.absent b work buf shows_it dark
          ∙ ap (λ (x : ℕ → Sector). strip_bytes x z.c) (same_read ∙ ap (λ (x : Label.Label). read (size z) (no_sets (slots z)) (records z) (any_code z) x (seen_of z o.absent img) T I) (sym same_label_lem))
          ∙ given_entry z img disks s.now own s.absent b work buf shows_it F first_one p w reads m Y reached
          (ap (λ (x : Bool). (m, meanwhile (size z) (no_sets (slots z)) (labels z) (records z) (any_code z) stamps (any_sectors z) labelling o (seen_of z o.absent img) T I (first (record { why = BAD_BLOCK; holds = not x } ∷ []))))
          (may_read z img disks s.now own s.absent b work buf shows_it))

  -- while begin is under way: the slot may have been absent before; none of its strips is believed then
  pub read_beginning : Readying z F first_one p w img s work → (Right z F first_one p w img s b work buf ok) s.kind
  unfolding laid_by
  read_beginning t = subst (Right z F first_one p w img s b work buf ok) (sym t.kind) (read_before t.before (to_do z s work img) t.disks t.reads t.fair.ours_now t.same_label_lem t.more_absent t.reached)

  -- while a rebuild is under way: the slot's strips below the mark are believed, as before it, and no other one of them
  pub read_filling : Refilling z F first_one p w img s work → (Right z F first_one p w img s b work buf ok) s.kind
  unfolding laid_by
  read_filling t =
      subst (Right z F first_one p w img s b work buf ok) (sym t.kind)
      (read_before t.before (to_do z s work img) t.disks t.reads t.fair.ours_now t.same_label_lem (λ d i a. ap (λ (x : ℕ → Bool). x d) t.same_absent ∙ beyond_below (slots z) s.absent d i ∙ a) t.reached)

  -- A READ, whenever it answers Done, shows the view's entry
  pub read_right : Bound z F first_one p w img (has s work) → after_read (Ok tt) s b img work buf ≡ strip_bytes (list_of p (b / z.k) (b % z.k)) z.c
  read_right (inl t) =
      let own = ⊎_elim (λ (f : Fair z s [] img × (plain s.kind ≡ true)). f.0.ours_now) (λ (q : (s.kind ≡ Idle) × (ours z s.now ≡ true)). q.1) t.order.1 in
      read_plain t ∙ ap (λ (k : ℕ). strip_bytes (list_of p (b / k) (b % k)) z.c) (sym (same_says (fields_of z 0 (no_label z)) s.now own).same_k)
  read_right (inr (inr (inl t))) = read_beginning t ∙ ap (λ (k : ℕ). strip_bytes (list_of p (b / k) (b % k)) z.c) (sym (same_says (fields_of z 0 (no_label z)) s.now t.fair.ours_now).same_k)
  read_right (inr (inr (inr t))) = read_filling t.refills ∙ ap (λ (k : ℕ). strip_bytes (list_of p (b / k) (b % k)) z.c) (sym (same_says (fields_of z 0 (no_label z)) s.now t.refills.fair.ours_now).same_k)
  read_right (inr (inl t)) = read_writing t ∙ ap (λ (k : ℕ). strip_bytes (list_of p (b / k) (b % k)) z.c) (sym (same_says (fields_of z 0 (no_label z)) s.now t.fair.ours_now).same_k)
