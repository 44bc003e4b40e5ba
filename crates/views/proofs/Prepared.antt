-- A write of one block: what is prepared for it is the stripe that the protocol writes, and all shards are to change where the protocol
-- changes them all. Whatever the strips hold. Assumes nothing.
use Rattle.std.specs.Prelude.{◌≡◌, Bool, true, false, cond, ◌&&◌, ◌≢◌, ◌⊎◌, length, Ok}
use Rattle.std.proofs.Math.Path.{refl, sym, ap, subst}
use Rattle.std.proofs.Common.{◌∙◌, inl, inr, ⊎_elim, suc-mul, mul-le-mul_right, eq-or-lt_of_le, arith, eq-eqb, ne_eqb}
use Rattle.std.proofs.Math.Bool.{not}
use mathlib.Core.List.{List, [], ◌∷◌}
use Prim.Native.Nat.{ℕ, suc, ◌+◌, ◌-◌, ◌*◌, ◌≤◌, ◌<◌}
use Rattle.std.proofs.Math.Decide.{ℕ_discrete}
use Rattle.std.proofs.Math.ListN.{get_or}
use Rattle.std.proofs.Math.Seq.{paste}
use Rattle.std.proofs.lemmas.List.Edits.{length-paste}
use Rattle.std.proofs.lemmas.Bool.{not-false}
use Rattle.field.specs.Refusal.{Answer}
use Rattle.disk.specs.Limits.{sector_bytes}
use Rattle.disk.specs.Geometry.{slot_of, slot_lt, slot_one}
use Rattle.disk.specs.Image.{sector, get_or_paste_inside, get_or_paste_other}
use Rattle.disk.specs.Mask.{in_mask}
use Rattle.codeword.specs.Stripe.{byte_at, Sound, AgreeOff}
use Rattle.codeword.specs.Unique.{AllBytes}
use Rattle.code.specs.Lists.{below_or_not}
use Rattle.code.specs.Stripes.{Said, Encoded, Rebuilt, Repaired}
use Rattle.code.specs.Exact.{said_one}
use Rattle.code.specs.declared.Verdict.{Verdict}
use Rattle.protocol.specs.Host.{Blocks, one_block, changed, set_block, Finding, all_sound, accused, several, unsound, mend}
use Rattle.protocol.specs.Pairs.{no_sets}
use Rattle.codecs.specs.Sector.{Sector}
use Rattle.codecs.specs.Shelf.{Shelf, slots, geometry, size, some_slots}
use Rattle.codecs.specs.Records.{strip_bytes}
use Rattle.codecs.proofs.Written.{length_strip}
use Rattle.codecs.proofs.Records.{records}
use Rattle.shards.specs.Quorum.{few_of}
use Rattle.shards.specs.Parity.{byte}
use Rattle.shards.specs.Strips.{position, missing_of}
use Rattle.shards.specs.Exact.{blocks_there}
use Rattle.shards.specs.Code.{mended_in}
use Rattle.shards.proofs.Even.{any_code}
use Rattle.stripes.specs.Slice.{shard_bytes, laid_out, within, sector_byte, sector_is}
use Rattle.stripes.proofs.Slice.{laid_length, laid_position}
use Rattle.stripes.specs.Same.{verdict_of, rebuilt, encode_done}
use Rattle.stripes.proofs.Same.{written_all}
use Rattle.strips.specs.Seen.{lost_of, seen}
use Rattle.strips.specs.Laws.{row_bytes, row_byte}
use Rattle.strips.specs.Whole.{stripe_seen, none_lost, changes, PreparedBy}
use Rattle.views.specs.Seen.{Lying, gone, strip_at}
use Rattle.views.proofs.Seen.{none_over, seen_is}
use Rattle.views.specs.Whole.{all_there, there_all, mended_byte, parity_many, plainly}
use Rattle.views.proofs.Whole.{none_lost_lem, repaired_laid, mend_finds}
use Rattle.views.specs.Prepared.{mended_first, w, pasted, n, len, Reads, M}

-- a strip's bytes put at shard i of a slice
module _ (z : Shelf) (s : List ℕ) (whole : length s ≡ slots z * shard_bytes z) (i : ℕ) (hi : i < slots z) (x : ℕ → Sector) where
  room : i * (w z s whole i hi x) + (w z s whole i hi x) ≤ length s
  room = omega (arith, suc-mul i (w z s whole i hi x), mul-le-mul_right (w z s whole i hi x) hi)

  bytes_many : (w z s whole i hi x) ≤ length (strip_bytes x z.c)
  bytes_many = omega (arith, length_strip x z.c)

  pasted_length : length (pasted z s whole i hi x) ≡ slots z * (w z s whole i hi x)
  pasted_length = length-paste s (i * (w z s whole i hi x)) (strip_bytes x z.c) (w z s whole i hi x) room bytes_many ∙ whole

  pasted_here : (j p : ℕ) → j < z.c → p < sector_bytes → byte_at (w z s whole i hi x) (pasted z s whole i hi x) (j * sector_bytes + p) i ≡ byte (x j) p
  pasted_here j p hj hp =
      get_or_paste_inside s (i * (w z s whole i hi x)) (strip_bytes x z.c) (w z s whole i hi x) room bytes_many (j * sector_bytes + p) (within z j p hj hp) ∙ strip_at x z.c j p hj hp

  pasted_other : (r q : ℕ) → r ≢ i → q < (w z s whole i hi x) → byte_at (w z s whole i hi x) (pasted z s whole i hi x) q r ≡ byte_at (w z s whole i hi x) s q r
  pasted_other r q ne hq = get_or_paste_other s (i * (w z s whole i hi x)) (strip_bytes x z.c) (w z s whole i hi x) room bytes_many (r * (w z s whole i hi x) + q) (go (below_or_not r i))
    where
      go : (r < i) ⊎ (i ≤ r) → (r * (w z s whole i hi x) + q < i * (w z s whole i hi x)) ⊎ (i * (w z s whole i hi x) + (w z s whole i hi x) ≤ r * (w z s whole i hi x) + q)
      go (inl h) = inl (omega (arith, suc-mul r (w z s whole i hi x), mul-le-mul_right (w z s whole i hi x) h))
      go (inr h) =
          let l : suc i ≤ r = above h in
          inr (omega (arith, suc-mul i (w z s whole i hi x), mul-le-mul_right (w z s whole i hi x) l))
        where
          above : i ≤ r → suc i ≤ r
          above h = ⊎_elim (λ (e : i ≡ r). absurd (ne (sym e))) (λ (l : i < r). l) (eq-or-lt_of_le h)

module _ (z : Shelf) (t : ℕ) (img : List ℕ) (there : ℕ) (g : ℕ → ℕ → Sector) (lies : Lying z t img there g) (few : few_of z (gone there) ≡ true)
    (i : ℕ) (hi : i < z.k) (x : ℕ → Sector) (after : List ℕ) (small : AllBytes after) where
  row_whole : length (stripe_seen (geometry z) img there t) ≡ (n z t img there g lies few i hi x after small) * (len z t img there g lies few i hi x after small)
  row_whole = row_bytes (geometry z) img there 0 [] t 0 z.c

  -- an encode with the block put in
  written : (stripe : List ℕ) (v : ℕ → ℕ → Sector) (a : Answer) → length stripe ≡ (n z t img there g lies few i hi x after small) * (len z t img there g lies few i hi x after small) → (Reads z t img there g lies few i hi x after small) stripe v
      → Encoded z.k ((n z t img there g lies few i hi x after small) - z.k) (len z t img there g lies few i hi x after small) a (paste stripe (i * (len z t img there g lies few i hi x after small)) (strip_bytes x z.c) (len z t img there g lies few i hi x after small)) after
      → after ≡ laid_out z t ((any_code z).shard t (changed (one_block i x) ((any_code z).blocks t (gone there) v)))
  unfolding set_block
  written stripe v a whole reads w =
      written_all z t b before after (pasted_length z stripe whole i (omega arith) x) a
      (subst (λ (m : ℕ). Encoded z.k m (len z t img there g lies few i hi x after small) a before after) (parity_many z t img there g lies) w)
      (λ r j hr hj. go r j hr hj (ℕ_discrete r i))
    where
      before : List ℕ
      before = paste stripe (i * (len z t img there g lies few i hi x after small)) (strip_bytes x z.c) (len z t img there g lies few i hi x after small)

      b : Blocks Sector
      b = changed (one_block i x) ((any_code z).blocks t (gone there) v)

      go : (r j : ℕ) → r < z.k → j < z.c → Dec (r ≡ i) → sector z.c before r j ≡ (b r j).bytes
      go r j hr hj (yes e) =
          subst (λ (r : ℕ). sector z.c before r j ≡ (b r j).bytes) (sym e)
          (sector_is z before i j (pasted_length z stripe whole i (omega arith) x) (omega arith) hj (x j) (λ p hp. pasted_here z stripe whole i (omega arith) x j p hj hp)
          ∙ ap (λ (u : Bool). (cond u x ((any_code z).blocks t (gone there) v i) j).bytes) (sym (eq-eqb i i refl)))
      go r j hr hj (no e) =
          sector_is z before r j (pasted_length z stripe whole i (omega arith) x) (omega arith) hj ((any_code z).blocks t (gone there) v r j)
          (λ p hp. pasted_other z stripe whole i (omega arith) x r (j * sector_bytes + p) e (within z j p hj hp) ∙ reads r j p hr e hj hp)
          ∙ ap (λ (u : Bool). (cond u x ((any_code z).blocks t (gone there) v r) j).bytes) (sym (ne_eqb r i e))

  -- what the encode keeps is bytes
  kept_small : (stripe : List ℕ) (a : Answer) → length stripe ≡ (n z t img there g lies few i hi x after small) * (len z t img there g lies few i hi x after small) → Encoded z.k ((n z t img there g lies few i hi x after small) - z.k) (len z t img there g lies few i hi x after small) a (paste stripe (i * (len z t img there g lies few i hi x after small)) (strip_bytes x z.c) (len z t img there g lies few i hi x after small)) after
      → (r q : ℕ) → r < z.k → r ≢ i → q < (len z t img there g lies few i hi x after small) → byte_at (len z t img there g lies few i hi x after small) stripe q r < 256
  kept_small stripe a whole w r q hr e hq =
      let before : List ℕ = paste stripe (i * (len z t img there g lies few i hi x after small)) (strip_bytes x z.c) (len z t img there g lies few i hi x after small) in
      let y = subst (λ (m : ℕ). Encoded z.k m (len z t img there g lies few i hi x after small) a before after) (parity_many z t img there g lies) w in
      let done = encode_done z t ((any_code z).blocks t (gone there) g) before after (pasted_length z stripe whole i (omega arith) x) a y in
      subst (λ (u : ℕ). u < 256) (y.kept done r hr q hq ∙ pasted_other z stripe whole i (omega arith) x r q e hq) (small (r * (len z t img there g lies few i hi x after small) + q))

  -- what is lost is rebuilt
  rebuilt_reads : (a : Answer) (stripe : List ℕ) → Rebuilt z.k ((n z t img there g lies few i hi x after small) - z.k) (len z t img there g lies few i hi x after small) (lost_of (n z t img there g lies few i hi x after small) t there) a (stripe_seen (geometry z) img there t) stripe
      → (length stripe ≡ (n z t img there g lies few i hi x after small) * (len z t img there g lies few i hi x after small)) × (Reads z t img there g lies few i hi x after small) stripe g
  unfolding lost_of missing_of gone position
  rebuilt_reads a stripe w = (w.same ∙ row_whole, λ r j p hr ne hj hp. sym (sector_byte z stripe r j p hp) ∙ ap (λ (l : List ℕ). get_or l p 0) (at r j (omega arith) hj))
    where
      s : List ℕ
      s = stripe_seen (geometry z) img there t

      none : (q : ℕ) → 0 * sector_bytes + q ≡ q
      none q = omega arith

      lying : (r j : ℕ) → r < (n z t img there g lies few i hi x after small) → j < z.c → gone there (slot_of (n z t img there g lies few i hi x after small) t r) ≡ false → sector z.c s r j ≡ (g (slot_of (n z t img there g lies few i hi x after small) t r) j).bytes
      lying r j hr hj e =
          sector_is z s r j row_whole hr hj (g (slot_of (n z t img there g lies few i hi x after small) t r) j)
          (λ p hp. row_byte (geometry z) img there 0 [] t 0 z.c r (j * sector_bytes + p) hr (within z j p hj hp)
          ∙ ap (seen (geometry z) img there 0 [] t r) (none (j * sector_bytes + p))
          ∙ seen_is z t img there 0 [] g g lies (plainly z t img there g lies) r j p hr hj hp (not-false (in_mask there (slot_of (n z t img there g lies few i hi x after small) t r)) e)
          ∙ ap (λ (v : ℕ → ℕ → Sector). byte (v (slot_of (n z t img there g lies few i hi x after small) t r) j) p) (none_over g g))

      at : (r j : ℕ) → r < (n z t img there g lies few i hi x after small) → j < z.c → sector z.c stripe r j ≡ ((any_code z).blocks t (gone there) g r j).bytes
      at = rebuilt z t (gone there) g few s row_whole a stripe (subst (λ (m : ℕ). Rebuilt z.k m (len z t img there g lies few i hi x after small) (lost_of (n z t img there g lies few i hi x after small) t there) a s stripe) (parity_many z t img there g lies) w) lying

  -- a stripe of which nothing is lost is repaired
  module _ (none : none_lost (n z t img there g lies few i hi x after small) t there ≡ true) (stripe : List ℕ)
      (fits : length stripe ≡ (n z t img there g lies few i hi x after small) * (len z t img there g lies few i hi x after small) → (r q : ℕ) → r < z.k → r ≢ i → q < (len z t img there g lies few i hi x after small) → byte_at (len z t img there g lies few i hi x after small) stripe q r < 256) where
    all_in : (d : ℕ) → d < (n z t img there g lies few i hi x after small) → in_mask there d ≡ true
    all_in = there_all z t there (sym (none_lost_lem z t there) ∙ none)

    -- a block reads as its strip
    home_byte : (v : ℕ → ℕ → Sector) (r j p : ℕ) → r < z.k → byte ((any_code z).blocks t (gone there) v r j) p ≡ byte (v (slot_of (n z t img there g lies few i hi x after small) t r) j) p
    unfolding gone
    home_byte v r j p hr =
        ap (λ (s : Sector). byte s p) (blocks_there z t (gone there) v r j (omega arith) (ap not (all_in (slot_of (n z t img there g lies few i hi x after small) t r) (slot_lt (n z t img there g lies few i hi x after small) t (some_slots z) r))))

    laid_byte : (r j p : ℕ) → r < z.k → j < z.c → p < sector_bytes → byte_at (len z t img there g lies few i hi x after small) (laid_out z t g) (j * sector_bytes + p) r ≡ byte (g (slot_of (n z t img there g lies few i hi x after small) t r) j) p
    unfolding position
    laid_byte r j p hr hj hp = laid_position z t g j p r hj hp (omega arith)

    as_laid : stripe ≡ laid_out z t g → (length stripe ≡ (n z t img there g lies few i hi x after small) * (len z t img there g lies few i hi x after small)) × (Reads z t img there g lies few i hi x after small) stripe g
    as_laid e = (
      ap length e ∙ laid_length z t g,
      λ r j p hr ne hj hp. ap (λ (s : List ℕ). byte_at (len z t img there g lies few i hi x after small) s (j * sector_bytes + p) r) e ∙ laid_byte r j p hr hj hp ∙ sym (home_byte g r j p hr),
    )

    as_mended : (q : ℕ) → q < (n z t img there g lies few i hi x after small) → length stripe ≡ (n z t img there g lies few i hi x after small) * (len z t img there g lies few i hi x after small) → AgreeOff (n z t img there g lies few i hi x after small) (len z t img there g lies few i hi x after small) (q ∷ []) (laid_out z t g) stripe → Sound z.k z.m (len z t img there g lies few i hi x after small) stripe → (Reads z t img there g lies few i hi x after small) stripe ((M z t img there g lies few i hi x after small none stripe fits) (accused q))
    as_mended q hq whole agree sound r j p hr ne hj hp = go (ℕ_discrete r q) ∙ sym (home_byte ((M z t img there g lies few i hi x after small none stripe fits) (accused q)) r j p hr)
      where
        a : ℕ
        a = byte_at (len z t img there g lies few i hi x after small) stripe (j * sector_bytes + p) r

        go : Dec (r ≡ q) → a ≡ byte ((M z t img there g lies few i hi x after small none stripe fits) (accused q) (slot_of (n z t img there g lies few i hi x after small) t r) j) p
        go (yes e) =
            subst (λ (u : ℕ). byte_at (len z t img there g lies few i hi x after small) stripe (j * sector_bytes + p) u ≡ byte ((M z t img there g lies few i hi x after small none stripe fits) (accused q) (slot_of (n z t img there g lies few i hi x after small) t u) j) p) (sym e)
            (mended_byte z t g q hq stripe agree sound j p hj hp (subst (λ (u : ℕ). byte_at (len z t img there g lies few i hi x after small) stripe (j * sector_bytes + p) u < 256) e (fits whole r (j * sector_bytes + p) hr ne (within z j p hj hp)))
            ∙ ap (λ (u : Bool). byte (cond u (mended_in z t g (slot_of (n z t img there g lies few i hi x after small) t q)) (g (slot_of (n z t img there g lies few i hi x after small) t q)) j) p) (sym (eq-eqb (slot_of (n z t img there g lies few i hi x after small) t q) (slot_of (n z t img there g lies few i hi x after small) t q) refl)))
        go (no e) =
            sym (agree r (omega arith) (ap (λ (u : Bool). cond u true false) (ne_eqb q r (λ s. e (sym s)))) (j * sector_bytes + p) (within z j p hj hp))
            ∙ laid_byte r j p hr hj hp
            ∙ ap (λ (u : Bool). byte (cond u (mended_in z t g (slot_of (n z t img there g lies few i hi x after small) t r)) (g (slot_of (n z t img there g lies few i hi x after small) t r)) j) p)
            (sym (ne_eqb (slot_of (n z t img there g lies few i hi x after small) t r) (slot_of (n z t img there g lies few i hi x after small) t q) (λ s. e (slot_one (n z t img there g lies few i hi x after small) t (some_slots z) r q (omega arith) hq s))))

    repaired_reads : (v : Said) → Repaired z.k ((n z t img there g lies few i hi x after small) - z.k) (len z t img there g lies few i hi x after small) v (stripe_seen (geometry z) img there t) stripe
        → (length stripe ≡ (n z t img there g lies few i hi x after small) * (len z t img there g lies few i hi x after small)) × (Reads z t img there g lies few i hi x after small) stripe ((M z t img there g lies few i hi x after small none stripe fits) ((any_code z).scrub t g)) × (f : Verdict) × (v ≡ Ok f) × (changes f ≡ unsound ((any_code z).scrub t g))
    repaired_reads v w = go ((any_code z).scrub t g) finds (subst (λ (v : Said). Repaired z.k z.m (len z t img there g lies few i hi x after small) v (laid_out z t g) stripe) finds (repaired_laid z t img there g lies none v stripe w))
      where
        finds : v ≡ Ok (verdict_of ((any_code z).scrub t g))
        finds = mend_finds z t img there g lies none v stripe w

        go : (f : Finding) → v ≡ Ok (verdict_of f) → Repaired z.k z.m (len z t img there g lies few i hi x after small) (Ok (verdict_of f)) (laid_out z t g) stripe → (length stripe ≡ (n z t img there g lies few i hi x after small) * (len z t img there g lies few i hi x after small)) × (Reads z t img there g lies few i hi x after small) stripe ((M z t img there g lies few i hi x after small none stripe fits) f) × (r : Verdict) × (v ≡ Ok r) × (changes r ≡ unsound f)
        go all_sound e y = let a = as_laid y.mends in (a.0, a.1, verdict_of all_sound, e, refl)
        go (accused q) e y =
            let whole : length stripe ≡ (n z t img there g lies few i hi x after small) * (len z t img there g lies few i hi x after small) = y.mends.0 ∙ laid_length z t g in
            (whole, as_mended q y.says.3.0 whole y.mends.1 y.mends.2, verdict_of (accused q), e, refl)
        go several e y = let a = as_laid y.mends in (a.0, a.1, verdict_of several, e, refl)

  -- WHAT IS PREPARED is the stripe of the blocks as they are read, with the new one; and every shard is to change where every slot is there
  -- and the stripe is not sound
  pub prepared_is : (bytes : List ℕ) → bytes ≡ strip_bytes x z.c → (all : Bool) → PreparedBy (geometry z) z.k img there t i bytes all after
      → (after ≡ laid_out z t ((any_code z).shard t (changed (one_block i x) ((any_code z).blocks t (gone there) (mended_first z t there g)))))
      × (all ≡ (all_there (n z t img there g lies few i hi x after small) there && unsound ((any_code z).scrub t g)))
  unfolding mended_first
  prepared_is bytes eb all w = go (none_lost (n z t img there g lies few i hi x after small) t there) refl
    where
      encoded : Encoded z.k ((n z t img there g lies few i hi x after small) - z.k) (len z t img there g lies few i hi x after small) w.answer (paste w.stripe (i * (len z t img there g lies few i hi x after small)) (strip_bytes x z.c) (len z t img there g lies few i hi x after small)) after
      encoded = subst (λ (b : List ℕ). Encoded z.k ((n z t img there g lies few i hi x after small) - z.k) (len z t img there g lies few i hi x after small) w.answer (paste w.stripe (i * (len z t img there g lies few i hi x after small)) b (len z t img there g lies few i hi x after small)) after) eb w.encoded

      Says_it : Bool → Type 0
      Says_it c = (after ≡ laid_out z t ((any_code z).shard t (changed (one_block i x) ((any_code z).blocks t (gone there) (cond c (mend (size z) (no_sets (n z t img there g lies few i hi x after small)) (records z) (any_code z) t ((any_code z).scrub t g) g) g)))))
          × (all ≡ (c && unsound ((any_code z).scrub t g)))

      go : (b : Bool) → none_lost (n z t img there g lies few i hi x after small) t there ≡ b → Says_it (all_there (n z t img there g lies few i hi x after small) there)
      go true e =
          let y = w.restored.repaired e in
          let a = repaired_reads e w.stripe (λ whole. kept_small w.stripe w.answer whole encoded) (Ok y.0) y.1 in
          subst Says_it (sym e ∙ none_lost_lem z t there)
          (written w.stripe (mend (size z) (no_sets (n z t img there g lies few i hi x after small)) (records z) (any_code z) t ((any_code z).scrub t g) g) w.answer a.0 a.1 encoded, y.2 ∙ ap changes (said_one a.3) ∙ a.4)
      go false e =
          let y = w.restored.rebuilt e in
          let a = rebuilt_reads y.0 w.stripe y.1 in
          subst Says_it (sym e ∙ none_lost_lem z t there) (written w.stripe g w.answer a.0 a.1 encoded, y.2)
