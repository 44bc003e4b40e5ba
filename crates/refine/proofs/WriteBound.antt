-- HOW MANY STEPS A WRITE TAKES, in the words of its contract: at most (m + 1)(2c + 1) puts and 2(m + 1) flushes; where the stripe's shards contradicted each other and all of them change, n in m + 1's
-- place. Assumes nothing.
use Rattle.std.specs.Prelude.{◌≡◌, refl, Bool, true, false, cond, List, ℕ, zero, suc, ◌+◌, ◌*◌, ◌≤◌, ◌<◌, ◌/◌, ◌%◌, length, Ok}
use Rattle.std.proofs.Common.{sym, ap, ap₂, subst, ◌∙◌, add-zero, add-suc, mul-le-mul_left, mul-le-mul_right, arith, eq-eqb, ne_eqb}
use Rattle.std.proofs.lemmas.Bool.{lt-leb}
use Rattle.disk.specs.Geometry.{slot_of, shard_of, shard_slot, block_inside}
use Rattle.disk.specs.Mask.{in_mask, tally, mask_below}
use Rattle.label.specs.Fields.{geometry_of}
use Rattle.label.proofs.Fits.{fits_says}
use Rattle.protocol.specs.Write.{both}
use Rattle.protocol.specs.Count as Count
use Rattle.protocol.specs.Count.{count, count_part}
use Rattle.shards.specs.Quorum.{tally_count, count_one, count_shards}
use Rattle.stages.specs.declared.state.State.{State}
use Rattle.shelf.specs.Bound.{many_from, Steps, writing_steps}
use Rattle.blocks.specs.Slots.{there, changes_at, changed_shards, changed_at, changed_slots}
use Rattle.blocks.specs.Write.{write_answer, changing, Written, write_done}
use Rattle.refine.specs.WriteBound.{wide}

-- ---- counting

many_tally : (mask k d : ℕ) (p : ℕ → Bool) → ((i : ℕ) → in_mask mask (d + i) ≡ p i) → many_from mask k d ≡ tally p k
unfolding many_from tally
many_tally mask zero d p h = refl
many_tally mask (suc k) d p h =
    ap₂ (λ (b : Bool) (x : ℕ). cond b 1 0 + x) (let e : d ≡ d + 0 = omega arith in ap (in_mask mask) e ∙ h 0)
    (many_tally mask k (suc d) (λ i. p (suc i)) (λ i. let e : suc d + i ≡ d + suc i = omega arith in ap (in_mask mask) e ∙ h (suc i)))

many_count : (mask n : ℕ) → many_from mask n 0 ≡ count (in_mask mask) n
many_count mask n = many_tally mask n 0 (in_mask mask) (λ i. let e : 0 + i ≡ i = omega arith in ap (in_mask mask) e) ∙ tally_count (in_mask mask) n

one_most : (b : Bool) → Count.tally b ≤ 1
one_most true = omega arith
one_most false = omega arith

-- from k on each counts for one at the most
count_up : (p : ℕ → Bool) (k m : ℕ) → count p (k + m) ≤ count p k + m
count_up p k zero = let e : count p (k + 0) ≡ count p k = ap (count p) (add-zero k) in omega (arith, e)
count_up p k (suc m) = let e : count p (k + suc m) ≡ Count.tally (p (k + m)) + count p (k + m) = ap (count p) (add-suc k m) in omega (arith, e, one_most (p (k + m)), count_up p k m)

shards_few : (k m i : ℕ) (all : Bool) → i < k → count (changes_at k i all) (k + m) ≤ wide k m all
unfolding changes_at
shards_few k m i true h =
    let z : 0 + (k + m) ≡ k + m = omega arith in
    let e : count (changes_at k i true) (0 + (k + m)) ≡ count (changes_at k i true) (k + m) = ap (count (changes_at k i true)) z in
    omega (arith, e, count_up (changes_at k i true) 0 (k + m))
shards_few k m i false h =
    let e : count (changes_at k i false) k ≡ 1 = count_one (changes_at k i false) k i h (rw (eq-eqb i i refl)) (λ r l u. rw (ne_eqb r i u, lt-leb k r l)) in
    omega (arith, e, count_up (changes_at k i false) k m)

-- they lie in as many slots at the most
changed_few : (k m t i th : ℕ) (all : Bool) → i < k → many_from (changed_slots (k + m) t th (changed_shards (k + m) k i all)) (k + m) 0 ≤ wide k m all
unfolding changed_slots changed_shards changed_at
changed_few k m t i th all h =
    let n : ℕ = k + m in
    let parts : ℕ = changed_shards n k i all in
    let some : 1 ≤ n = omega arith in
    let a : ℕ → Bool = λ d. in_mask parts (shard_of n t d) in
    let e = many_count (changed_slots n t th parts) n in
    let f : count (in_mask (changed_slots n t th parts)) n ≤ count a n =
    count_part (in_mask (changed_slots n t th parts)) a n (λ d l q. (both (in_mask th d) (in_mask parts (shard_of n t d)) (sym (mask_below (changed_at n t th parts) n d l) ∙ q)).1) in
    let g : count (λ r. a (slot_of n t r)) n ≡ count a n = count_shards a n t in
    let u : count (λ r. a (slot_of n t r)) n ≤ count (changes_at k i all) n =
    count_part (λ r. a (slot_of n t r)) (changes_at k i all) n (λ r l q. sym (mask_below (changes_at k i all) n r l) ∙ ap (in_mask parts) (sym (shard_slot n t some r l)) ∙ q) in
    omega (arith, e, f, g, u, shards_few k m i all h)

-- ---- the theorem

-- A WRITE THAT IS ACCEPTED takes at most so many puts and flushes, whatever the disks and the work area hold at each step
pub write_steps : {p f : ℕ} (s s' : State) (b : ℕ) (given img work after : List ℕ) → write_answer s.now s.kind s.absent s.count img b (length given) (length work) ≡ Ok tt
    → (w : Written s b given img work s' after) → Steps p f s'
    → (p ≤ wide s.now.k s.now.m w.all * (2 * s.now.c + 1)) × (f ≤ 2 * wide s.now.k s.now.m w.all)
write_steps {p} {f} s s' b given img work after e w r =
    let l = s.now in
    let shows = (write_done l s.kind s.absent s.count img b given work e).0 in
    let fit = fits_says l shows.fits in
    let in_k : b % l.k < l.k = (block_inside (geometry_of l) l.k b (omega (arith, fit.split.least)) shows.inside).1 in
    let parts : ℕ = changed_shards (l.k + l.m) l.k (b % l.k) w.all in
    let begins : State = changing s (b / l.k) parts in
    let few = changed_few l.k l.m (b / l.k) (b % l.k) (there (geometry_of l) l s.absent (b / l.k)) w.all in_k in
    let h = writing_steps {p = p} {f = f} {s = begins} (record { kind_is = refl; slot_is = refl; sector_is = refl }) (subst (Steps p f) w.becomes r) in
    (omega (arith, h.0, mul-le-mul_right (2 * l.c + 1) few), omega (arith, h.1, mul-le-mul_left 2 few))
