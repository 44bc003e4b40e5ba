-- START-UP, as the plan has it: the protocol's whole list of actions, with the plan's masks and labels in the place of what the
-- protocol reads: flush all; three rounds; what those that adopt are given first; the round for them; the log part. Assumes nothing.
use Rattle.std.specs.Prelude.{◌≡◌, refl, true, false, ◌&&◌, ◌||◌}
use Rattle.std.proofs.Math.Path.{sym, ap}
use Rattle.std.proofs.Common.{ap₂, ◌∙◌}
use Rattle.std.proofs.Math.Bool.{Bool, cond, not}
use mathlib.Core.List.{List, [], ◌∷◌, ◌++◌, Memᴰ}
use Prim.Native.Nat.{ℕ, suc, ◌<◌}
use Rattle.std.proofs.Math.Dec.{eqb}
use Rattle.disk.specs.Mask.{in_mask}
use Rattle.label.specs.declared.fields.Label as bytes
use Rattle.redo.specs.Decide.{looked, redo_of}
use Rattle.redo.specs.declared.Redo.TheVariants.{Forward, Kill}
use Rattle.rounds.specs.Slot.{gets_label}
use Rattle.rounds.specs.Survey.{slots_that, next_of}
use Rattle.protocol.specs.World.{Place, label, log, strip, slot, Action, put}
use Rattle.protocol.specs.Batch.{puts, flushes, actions}
use Rattle.protocol.specs.Slots.{from, keep, slots, rows, of_rows, of_slots}
use Rattle.protocol.specs.Label.{Label, again, belief, prepared, prep, prep_value, round, round_batch}
use Rattle.protocol.specs.Label as Label
use Rattle.protocol.specs.Write.{stored, store_batch, stored_sectors, involved}
use Rattle.protocol.specs.Startup.{next, stale, rounds, level_to, again_to, last_to}
use Rattle.protocol.specs.Startup as Startup
use Rattle.protocol.specs.Decide.{in_turn, startup}
use Rattle.protocol.specs.Redo.{key, lead, tail, redone, forward, marked, kill_batch, redo}
use Rattle.protocol.specs.Program.{flushed_first}
use Rattle.protocol.proofs.Walk.{prep_walk}
use Rattle.protocol.specs.Pairs.{no_sets}
use Rattle.codecs.specs.Sector.{Sector}
use Rattle.codecs.proofs.Sector.{zeros}
use Rattle.codecs.specs.Shelf.{Shelf, geometry, size}
use Rattle.codecs.specs.Shelf as Shelf
use Rattle.codecs.specs.Labels.{label_of, side_of}
use Rattle.codecs.proofs.Labels.{encode_label, labels}
use Rattle.codecs.specs.Records.{stamp_in, stripe_in, changes_in}
use Rattle.codecs.proofs.Records.{records}
use Rattle.codecs.specs.Media.{stamps}
use Rattle.shards.proofs.Even.{any_code, any_sectors}
use Rattle.refine.specs.Disks.{Disks, seen_of}
use Rattle.refine.specs.Labels.{Led}
use Rattle.refine.proofs.Labels.{L_is}
use Rattle.refine.specs.Redo.{Fair}
use Rattle.refine.proofs.Redo.{redo_forward, redo_kill}
use Rattle.refine.specs.Rounds.{may_wipe}
use Rattle.refine.proofs.Rounds.{after_is, parts_is, late_is, next_is, zeroed_is, kept_is, zeroed_value, kept_value}
use Rattle.refine.specs.Start.{slots_same, giving, f0, after, parts_in, late_in, zeroed_in, prep_in, planned, restoring, wiping}

puts_same : {X : Type 0} (v w : Place → X) (l : List Place) → ((k : Place) → Memᴰ k l → v k ≡ w k) → puts v l ≡ puts w l
puts_same v w [] h = refl
puts_same v w (k ∷ l) h = ap₂ (λ x (y : List (Action _)). put k x ∷ y) (h k (Memᴰ.head refl)) (puts_same v w l (λ j m. h j (Memᴰ.tail m)))

module _ (z : Shelf) (img : List ℕ) (absent : ℕ) (A : ℕ → Bool) (l : bytes.Label) (led : Led z img absent A l) where
  split : (a p w : Bool) → ((a && (p && w)) || (a && (p && not w))) ≡ (a && p)
  split true true true = refl
  split true true false = refl
  split true false w = refl
  split false p w = refl

  prep_test : (d : ℕ) → d < Shelf.slots z → ((not (A d) && stale (size z) (labels z) A (f0 z img absent A l led) d) && not (prepared (labels z) (f0 z img absent A l led) (after z img absent A l led) d)) ≡ (prep_in z img absent A l led) d
  prep_test d h =
      let w = may_wipe z img absent A l led d in
      let p = not (prepared (labels z) (f0 z img absent A l led) (after z img absent A l led) d) in
      ap (λ (b : Bool). b && p) (sym (late_is z img absent A l led d h)) ∙ sym (split ((late_in z img absent A l led) d) p w)
      ∙ ap₂ (λ (a b : Bool). a || b) (sym (zeroed_is z img absent A l led d h)) (sym (kept_is z img absent A l led d h))

  -- what is given
  prep_values : (new : Label) (d : ℕ) → d < Shelf.slots z → (prep_in z img absent A l led) d ≡ true
      → prep_value (labels z) (f0 z img absent A l led) (after z img absent A l led) new (label d (side_of (after z img absent A l led))) ≡ cond ((zeroed_in z img absent A l led) d) zeros (encode_label z d (again new (after z img absent A l led)))
  prep_values new d h e = by ((zeroed_in z img absent A l led) d) refl
    where
      by : (b : Bool) → (zeroed_in z img absent A l led) d ≡ b → prep_value (labels z) (f0 z img absent A l led) (after z img absent A l led) new (label d (side_of (after z img absent A l led))) ≡ cond b zeros (encode_label z d (again new (after z img absent A l led)))
      by true q = zeroed_value z img absent A l led new d h q
      by false q = kept_value z img absent A l led new d h (sym (ap (λ (b : Bool). b || in_mask (slots_that (geometry z) img absent gets_label l) d) q) ∙ e)

  prep_giving : (new : Label) → prep (labels z) (f0 z img absent A l led) (after z img absent A l led) new (Startup.late (size z) (labels z) A (f0 z img absent A l led)) ≡ giving z (prep_in z img absent A l led) (zeroed_in z img absent A l led) (again new (after z img absent A l led))
  unfolding slots
  prep_giving new =
      let n = Shelf.slots z in
      let late : ℕ → Bool = λ d. not (A d) && stale (size z) (labels z) A (f0 z img absent A l led) d in
      let e : keep (λ d. late d && not (prepared (labels z) (f0 z img absent A l led) (after z img absent A l led) d)) (from 0 n) ≡ slots n (prep_in z img absent A l led) = slots_same n (λ d. late d && not (prepared (labels z) (f0 z img absent A l led) (after z img absent A l led) d)) (prep_in z img absent A l led) prep_test in
      ap actions (prep_walk (labels z) (records z) (belief (size z) new) (f0 z img absent A l led) (after z img absent A l led) new n late)
      ∙ ap (λ (ds : List ℕ). puts (prep_value (labels z) (f0 z img absent A l led) (after z img absent A l led) new) (rows (λ d j. label d (side_of (after z img absent A l led))) (0 ∷ []) ds) ++ flushes ds) e
      ∙ ap (λ (x : List (Action Sector)). x ++ flushes (slots n (prep_in z img absent A l led)))
      (puts_same (prep_value (labels z) (f0 z img absent A l led) (after z img absent A l led) new) (λ k. cond ((zeroed_in z img absent A l led) (slot k)) zeros (encode_label z (slot k) (again new (after z img absent A l led)))) (rows (λ d j. label d (side_of (after z img absent A l led))) (0 ∷ []) (slots n (prep_in z img absent A l led)))
      (λ k m.
      let y = of_rows (λ d j. label d (side_of (after z img absent A l led))) (0 ∷ []) (slots n (prep_in z img absent A l led)) k m in
      let i = of_slots (prep_in z img absent A l led) n y.0 y.2 in
      ap (prep_value (labels z) (f0 z img absent A l led) (after z img absent A l led) new) y.4 ∙ prep_values new y.0 i.0 i.1
      ∙ sym (ap (λ (j : Place). cond ((zeroed_in z img absent A l led) (slot j)) zeros (encode_label z (slot j) (again new (after z img absent A l led)))) y.4)))

  pub start_list : flushes (flushed_first (size z) (no_sets (Shelf.slots z)) (labels z) (records z) (any_code z) stamps (any_sectors z) A) ++ startup (size z) (labels z) (records z) A (f0 z img absent A l led)
      ≡ (planned z img absent A l led) l (next_of (geometry z) img absent l)
  unfolding flushed_first startup in_turn rounds level_to again_to last_to round_batch
  start_list =
      let n = Shelf.slots z in
      let C = labels z in
      let a : slots n (λ d. not (A d)) ≡ slots n (λ d. not (in_mask absent d)) = slots_same n (λ d. not (A d)) (λ d. not (in_mask absent d)) (λ d h. ap not (led.are d h)) in
      let p : slots n (λ d. not (Startup.gone (size z) C A (f0 z img absent A l led) d)) ≡ slots n (parts_in z img absent A l led) = slots_same n (λ d. not (Startup.gone (size z) C A (f0 z img absent A l led) d)) (parts_in z img absent A l led) (λ d h. sym (parts_is z img absent A l led d h)) in
      let q : slots n (λ d. not (A d) && stale (size z) C A (f0 z img absent A l led) d) ≡ slots n (late_in z img absent A l led) = slots_same n (λ d. not (A d) && stale (size z) C A (f0 z img absent A l led) d) (late_in z img absent A l led) (λ d h. sym (late_is z img absent A l led d h)) in
      let x = L_is z img absent A l led in
      let y = next_is z img absent A l led in
      let g = after_is z img absent A l led in
      let r = prep_giving (next (size z) C A (f0 z img absent A l led) (suc (after z img absent A l led))) ∙ (λ i. giving z (prep_in z img absent A l led) (zeroed_in z img absent A l led) (again (y i) (g i))) in
      λ i.
      flushes (a i)
      ++ ((round C (x i) (p i) ++ (round C (again (x i) (g i)) (p i) ++ (round C (y i) (p i) ++ (r i ++ round C (y i) (q i)))))
      ++ redo (records z) (belief (size z) (y i)) (f0 z img absent A l led))

module _ (z : Shelf) (l : bytes.Label) (img : List ℕ) (disks : Disks z img) (A : ℕ → Bool) (dark : (d : ℕ) → looked (geometry z) l d ≡ true → A d ≡ false) (fair : Fair z l img disks A dark) where
  pub forward_list : (t m : ℕ) → redo_of (geometry z) img l ≡ Forward t m
      → redo (records z) (belief (size z) (label_of z l)) (seen_of z A img) ≡ restoring z (seen_of z A img) (in_mask m) t (belief (size z) (label_of z l))
  unfolding forward store_batch stored_sectors involved belief
  forward_list t m e =
      let r = redo_forward z l img disks A dark fair t m e in
      let B = belief (size z) (label_of z l) in
      let f = seen_of z A img in
      let p = tail (records z) B f in
      let q : slots (Shelf.slots z) (λ d. Label.believed (size z) (label_of z l) d (stripe_in p) && changes_in z p d) ≡ slots (Shelf.slots z) (in_mask m) =
      slots_same (Shelf.slots z) (λ d. Label.believed (size z) (label_of z l) d (stripe_in p) && changes_in z p d) (in_mask m) (λ d h. sym (r.2 d h)) in
      let s = r.1 in
      r.0 ∙ (λ i. puts (stored (records z) (redone (records z) B f)) (rows (λ d j. strip d (s i) j) (from 0 z.c) (q i)) ++ flushes (q i))

  pub kill_list : (m : ℕ) → redo_of (geometry z) img l ≡ Kill m
      → redo (records z) (belief (size z) (label_of z l)) (seen_of z A img) ≡ wiping z (seen_of z A img) (in_mask m)
  unfolding kill_batch marked belief
  kill_list m e =
      let r = redo_kill z l img disks A dark fair m e in
      let B = belief (size z) (label_of z l) in
      let f = seen_of z A img in
      let test : ℕ → Bool = λ d. Label.looked (size z) (label_of z l) d && eqb (stamp_in (f (log d z.c))) (key (records z) B f (lead (records z) B f)) in
      r.0 ∙ ap (λ (ds : List ℕ). puts (λ k. zeros) (rows (λ d j. log d z.c) (0 ∷ []) ds) ++ flushes ds) (slots_same (Shelf.slots z) test (in_mask m) (λ d h. sym (r.1 d h)))
