-- The same in the words of the protocol's program. Its label says which strips are believed: `there` has the slots of these. What is shown
-- of a block is what the program reads (from the work area, where a write is on its way to its strips), what is filled in is what it
-- rebuilds, what is prepared for a write is what it writes, and a scrub finds what it finds. Assumes nothing.
use Rattle.std.specs.Prelude.{◌≡◌, ◌&&◌, eqb, ltb, Ok}
use Rattle.std.proofs.Math.Path.{refl, ap, fun_ext}
use Rattle.std.proofs.Common.{sym, ap₂, ◌∙◌, arith, lit<}
use Rattle.std.proofs.Math.Bool.{Bool, true, false, cond, not}
use Rattle.std.proofs.lemmas.Bool.{false≢true}
use mathlib.Core.List.{List, []}
use Prim.Native.Nat.{ℕ, zero, suc, ◌+◌, ◌-◌, ◌≤◌, ◌<◌}
use Rattle.disk.specs.Geometry.{slot_of, shard_of}
use Rattle.disk.specs.Image.{sector}
use Rattle.disk.specs.Mask.{in_mask, in_past}
use Rattle.codeword.specs.Unique.{AllBytes}
use Rattle.code.specs.Stripes.{Said, Says, Repaired}
use Rattle.code.specs.declared.Verdict.TheVariants as verdict
use Rattle.protocol.specs.World.{Image}
use Rattle.protocol.specs.Slots.{from, every}
use Rattle.protocol.specs.Log.{Write}
use Rattle.protocol.specs.Label.{Label, believed}
use Rattle.protocol.specs.Host.{Blocks, one_block, all_blocks, changed, Finding, all_sound, accused, several, unsound, mend, missing, read, read_through, reached, write_of, strips_of, accused_slot, repair_of, whole_change}
use Rattle.protocol.specs.Host as Host
use Rattle.protocol.specs.Program.{Own, finding, change_made}
use Rattle.protocol.specs.Pairs.{no_sets}
use Rattle.codecs.specs.Sector.{Sector}
use Rattle.codecs.specs.Shelf.{Shelf, slots, geometry, size}
use Rattle.codecs.proofs.Labels.{labels}
use Rattle.codecs.specs.Records.{strip_bytes}
use Rattle.codecs.proofs.Records.{records}
use Rattle.codecs.specs.Media.{stamps}
use Rattle.shards.specs.Quorum.{few_of}
use Rattle.shards.specs.Exact.{blocks_blind}
use Rattle.shards.proofs.Even.{any_code, any_sectors}
use Rattle.stripes.specs.Slice.{shard_bytes, laid_out}
use Rattle.stripes.specs.Same.{verdict_of}
use Rattle.strips.specs.Seen.{shard_shown, row_seen}
use Rattle.strips.specs.Whole.{stripe_seen, none_lost, PreparedBy}
use Rattle.views.specs.Seen.{Lying, Keeping, gone, laid_over}
use Rattle.views.proofs.Seen.{none_over, shown_block}
use Rattle.views.specs.Whole.{all_there}
use Rattle.views.proofs.Whole.{scrub_is, mended_is}
use Rattle.views.specs.Prepared.{mended_first}
use Rattle.views.proofs.Prepared.{prepared_is}
use Rattle.views.proofs.Filled.{filled_part}
use Rattle.views.specs.Program.{bad_same, n, g, W, strips, asked}

every_same : (p q : ℕ → Bool) (a n : ℕ) → ((d : ℕ) → d < a + n → p d ≡ q d) → every p (from a n) ≡ every q (from a n)
every_same p q a zero h = refl
every_same p q a (suc n) h =
    ap₂ (λ (x y : Bool). cond x y false) (h a (omega arith)) (every_same p q (suc a) n (λ d l. h d (omega arith)))

module _ (z : Shelf) (Q : Label) (t there : ℕ) (img : List ℕ) (f : Image Sector) (holds : (d : ℕ) → d < slots z → in_mask there d ≡ believed (size z) Q d t)
    (lies : Lying z t img there (strips_of (size z) (no_sets (slots z)) (records z) (any_code z) f t)) where
  same_bad : (v : ℕ → ℕ → Sector) → (any_code z).blocks t (gone there) v ≡ (any_code z).blocks t (missing (size z) (no_sets (n z Q t there img f holds lies)) (records z) (any_code z) Q t) v
  unfolding gone
  same_bad v = bad_same z t (gone there) (missing (size z) (no_sets (n z Q t there img f holds lies)) (records z) (any_code z) Q t) v (λ d h. ap not (holds d h))

  plain : Keeping z t [] 0 (g z Q t there img f holds lies)
  plain r j hr hj e = absurd (false≢true (sym (in_past 0 0 (slot_of (n z Q t there img f holds lies) t r) (lit< tt) (omega arith)) ∙ e))

  -- READ
  pub read_shown : (i : ℕ) → i < (n z Q t there img f holds lies) → shard_shown (geometry z) z.k img there 0 [] t 0 z.c i ≡ strip_bytes (read (size z) (no_sets (n z Q t there img f holds lies)) (records z) (any_code z) Q f t i) z.c
  unfolding read
  read_shown i hi =
      shown_block z t img there 0 [] (g z Q t there img f holds lies) (g z Q t there img f holds lies) lies plain i hi
      ∙ ap (λ (v : ℕ → ℕ → Sector). strip_bytes ((any_code z).blocks t (gone there) v i) z.c) (none_over (g z Q t there img f holds lies) (g z Q t there img f holds lies))
      ∙ ap (λ (b : Blocks Sector). strip_bytes (b i) z.c) (same_bad (g z Q t there img f holds lies))

  -- READ while a write is on its way to its strips: `kept` has the shards that it changes
  pub read_through_shown : (w : Write Sector) (over : ℕ) (kept : List ℕ) → ((d : ℕ) → d < (n z Q t there img f holds lies) → in_mask over d ≡ (eqb t w.stripe && w.changes d))
      → Keeping z t kept over w.new → (i : ℕ) → i < (n z Q t there img f holds lies)
      → shard_shown (geometry z) z.k img there over kept t 0 z.c i ≡ strip_bytes (read_through (size z) (no_sets (n z Q t there img f holds lies)) (records z) (any_code z) w Q f t i) z.c
  unfolding read_through laid_over
  read_through_shown w over kept same keeps i hi =
      shown_block z t img there over kept (g z Q t there img f holds lies) w.new lies keeps i hi
      ∙ ap (λ (b : Blocks Sector). strip_bytes (b i) z.c) (same_bad (laid_over over w.new (g z Q t there img f holds lies)))
      ∙ ap (λ (x : ℕ → Sector). strip_bytes x z.c)
      (fun_ext (λ j. blocks_blind z t (missing (size z) (no_sets (n z Q t there img f holds lies)) (records z) (any_code z) Q t) (laid_over over w.new (g z Q t there img f holds lies)) i j hi
      (λ d j. cond (eqb t w.stripe && w.changes d) (w.new d j) ((g z Q t there img f holds lies) d j))
      (λ d h e. ap (λ (b : Bool). cond b (w.new d j) ((g z Q t there img f holds lies) d j)) (same d h))))

  -- REBUILD: the sectors first .. first + count of the strip of a slot that is not there
  pub rebuilt_shown : few_of z (gone there) ≡ true → (d : ℕ) → d < (n z Q t there img f holds lies) → in_mask there d ≡ false → (first count : ℕ) → first + count ≤ z.c
      → shard_shown (geometry z) z.k img there 0 [] t first count (shard_of (n z Q t there img f holds lies) t d) ≡ strip_bytes (λ j. Host.rebuilt (size z) (no_sets (n z Q t there img f holds lies)) (records z) (any_code z) Q f d t (first + j)) count
  unfolding Host.rebuilt read
  rebuilt_shown few d hd out first count hc =
      filled_part z t img there 0 [] (g z Q t there img f holds lies) (g z Q t there img f holds lies) lies plain few d hd out first count hc
      ∙ ap (λ (v : ℕ → ℕ → Sector). strip_bytes (λ j. (any_code z).shard t ((any_code z).blocks t (gone there) v) d (first + j)) count) (none_over (g z Q t there img f holds lies) (g z Q t there img f holds lies))
      ∙ ap (λ (b : Blocks Sector). strip_bytes (λ j. (any_code z).shard t b d (first + j)) count) (same_bad (g z Q t there img f holds lies))

  -- SCRUB, of a stripe that is believed throughout
  pub scrub_found : none_lost (n z Q t there img f holds lies) t there ≡ true → (v : Said) → Says z.k ((n z Q t there img f holds lies) - z.k) (shard_bytes z) (row_seen (geometry z) img there 0 [] t 0 z.c) v
      → v ≡ Ok (verdict_of ((any_code z).scrub t (strips_of (size z) (no_sets (n z Q t there img f holds lies)) (records z) (any_code z) f t)))
  scrub_found none v w =
      scrub_is z t img there (g z Q t there img f holds lies) lies 0 [] (g z Q t there img f holds lies) plain none v w ∙ ap (λ (y : ℕ → ℕ → Sector). Ok (verdict_of ((any_code z).scrub t y))) (none_over (g z Q t there img f holds lies) (g z Q t there img f holds lies))

-- WRITE of block i, by a program in the state o: the whole stripe as it will be, and whether all of it is to be written
module _ (z : Shelf) (o : Own) (t there : ℕ) (img : List ℕ) (f : Image Sector) (holds : (d : ℕ) → d < slots z → in_mask there d ≡ believed (size z) o.now d t)
    (lies : Lying z t img there (strips_of (size z) (no_sets (slots z)) (records z) (any_code z) f t)) (few : few_of z (gone there) ≡ true)
    (i : ℕ) (hi : i < z.k) (x : ℕ → Sector) (all : Bool) (after : List ℕ) (small : AllBytes after)
    (w : PreparedBy (geometry z) z.k img there t i (strip_bytes x z.c) all after) where
  same_all : all_there (slots z) there ≡ (asked z o t there img f holds lies few i hi x all after small w)
  unfolding all_there
  same_all = every_same (in_mask there) (λ d. believed (size z) o.now d t) 0 (slots z) (λ d h. holds d (omega arith))

  -- all of it is, where the program finds every strip believed and the stripe not sound
  pub all_made : all ≡ ((asked z o t there img f holds lies few i hi x all after small w) && unsound (finding (size z) (W z o t there img f holds lies few i hi x all after small w) (labels z) (records z) (any_code z) stamps (any_sectors z) f t))
  all_made =
      (prepared_is z t img there (strips z o t there img f holds lies few i hi x all after small w) lies few i hi x after small (strip_bytes x z.c) refl all w).1
      ∙ ap (λ (b : Bool). b && unsound ((any_code z).scrub t (strips z o t there img f holds lies few i hi x all after small w))) same_all

  -- THE STRIPE is the program's
  pub write_prepared : after ≡ laid_out z t (write_of (size z) (W z o t there img f holds lies few i hi x all after small w) (records z) (any_code z) o.now f t (change_made (size z) (W z o t there img f holds lies few i hi x all after small w) (labels z) (records z) (any_code z) stamps (any_sectors z) o f t (one_block i x))).new
  unfolding write_of change_made whole_change read mended_first
  write_prepared =
      (prepared_is z t img there (strips z o t there img f holds lies few i hi x all after small w) lies few i hi x after small (strip_bytes x z.c) refl all w).0
      ∙ ap (λ (b : Blocks Sector). laid_out z t ((any_code z).shard t (changed (one_block i x) b))) (same_bad z o.now t there img f holds lies (mended_first z t there (strips z o t there img f holds lies few i hi x all after small w)))
      ∙ ap (λ (b : Bool). laid_out z t ((any_code z).shard t (changed (one_block i x) ((any_code z).blocks t bad (cond b (M ((any_code z).scrub t (strips z o t there img f holds lies few i hi x all after small w))) (strips z o t there img f holds lies few i hi x all after small w)))))) same_all
      ∙ go (asked z o t there img f holds lies few i hi x all after small w) ((any_code z).scrub t (strips z o t there img f holds lies few i hi x all after small w))
    where
      bad : ℕ → Bool
      bad = missing (size z) (W z o t there img f holds lies few i hi x all after small w) (records z) (any_code z) o.now t

      M : Finding → ℕ → ℕ → Sector
      M y = mend (size z) (W z o t there img f holds lies few i hi x all after small w) (records z) (any_code z) t y (strips z o t there img f holds lies few i hi x all after small w)

      go : (b : Bool) (y : Finding) → laid_out z t ((any_code z).shard t (changed (one_block i x) ((any_code z).blocks t bad (cond b (M y) (strips z o t there img f holds lies few i hi x all after small w)))))
          ≡ laid_out z t ((any_code z).shard t (changed (cond (b && unsound y) (all_blocks (changed (one_block i x) ((any_code z).blocks t bad (M y)))) (one_block i x)) ((any_code z).blocks t bad (strips z o t there img f holds lies few i hi x all after small w))))
      go true all_sound = refl
      go true (accused r) = refl
      go true several = refl
      go false y = refl

  -- THE SLOTS whose strips it changes: all of them, or the block's and those of the parity
  pub changes_made : (d : ℕ) → (write_of (size z) (W z o t there img f holds lies few i hi x all after small w) (records z) (any_code z) o.now f t (change_made (size z) (W z o t there img f holds lies few i hi x all after small w) (labels z) (records z) (any_code z) stamps (any_sectors z) o f t (one_block i x))).changes d
      ≡ cond all (ltb d (slots z)) ((any_code z).touched t i d)
  unfolding write_of change_made whole_change read
  changes_made d = go ((asked z o t there img f holds lies few i hi x all after small w) && unsound ((any_code z).scrub t (strips z o t there img f holds lies few i hi x all after small w))) ∙ ap (λ (b : Bool). cond b (ltb d (slots z)) ((any_code z).touched t i d)) (sym all_made)
    where
      go : (b : Bool) → reached (size z) (W z o t there img f holds lies few i hi x all after small w) (records z) (any_code z) t (cond b (all_blocks (changed (one_block i x) ((any_code z).blocks t (missing (size z) (W z o t there img f holds lies few i hi x all after small w) (records z) (any_code z) o.now t) (mend (size z) (W z o t there img f holds lies few i hi x all after small w) (records z) (any_code z) t ((any_code z).scrub t (strips z o t there img f holds lies few i hi x all after small w)) (strips z o t there img f holds lies few i hi x all after small w))))) (one_block i x)) d
          ≡ cond b (ltb d (slots z)) ((any_code z).touched t i d)
      go true = refl
      go false = refl

-- REPAIR of a stripe that is believed throughout: where a shard is accused, the program accuses its slot, and what is written there is the program's
pub repair_mended : (z : Shelf) (t there : ℕ) (img : List ℕ) (f : Image Sector)
    → Lying z t img there (strips_of (size z) (no_sets (slots z)) (records z) (any_code z) f t) → none_lost (slots z) t there ≡ true → (r : ℕ) (after : List ℕ) → AllBytes after
    → Repaired z.k (slots z - z.k) (shard_bytes z) (Ok (verdict.Accused r)) (stripe_seen (geometry z) img there t) after
    → let d = accused_slot (size z) (no_sets (slots z)) (records z) (any_code z) t ((any_code z).scrub t (strips_of (size z) (no_sets (slots z)) (records z) (any_code z) f t)) in
    (d ≡ slot_of (slots z) t r) × ((j : ℕ) → j < z.c → sector z.c after r j ≡ ((repair_of (size z) (no_sets (slots z)) (records z) (any_code z) f t d).new d j).bytes)
unfolding repair_of
repair_mended z t there img f lies none r after small w = (e, λ j hj. y.2 j hj ∙ ap (λ (d : ℕ). ((any_code z).mended t g d j).bytes) (sym e))
  where
    g : ℕ → ℕ → Sector
    g = strips_of (size z) (no_sets (slots z)) (records z) (any_code z) f t

    y : ((any_code z).scrub t g ≡ accused r) × (r < slots z) × ((j : ℕ) → j < z.c → sector z.c after r j ≡ ((any_code z).mended t g (slot_of (slots z) t r) j).bytes)
    y = mended_is z t img there g lies none r after small w

    e : accused_slot (size z) (no_sets (slots z)) (records z) (any_code z) t ((any_code z).scrub t g) ≡ slot_of (slots z) t r
    e = ap (accused_slot (size z) (no_sets (slots z)) (records z) (any_code z) t) y.0
