-- What is left to do of the request under way, as the protocol's actions: what is left of its stage from the cursor on, and
-- all later stages. And of a stage: what is left when a slot, or a sector of it, is done. Assumes nothing.
use Rattle.std.specs.Prelude.{◌≡◌}
use Rattle.std.proofs.Math.Path.{refl, sym, ap, ap₂, fun_ext}
use Rattle.std.proofs.Common.{◌∙◌, arith}
use Rattle.std.proofs.Math.Bool.{Bool, true, false, cond}
use mathlib.Core.List.{List, [], ◌∷◌, ◌++◌}
use Prim.Native.Nat.{ℕ, zero, suc, ◌+◌, ◌-◌, ◌*◌, ◌≤◌, ◌<◌, ◌%◌}
use Rattle.disk.specs.Limits.{first_log}
use Rattle.disk.specs.Mask.{in_mask}
use Rattle.label.specs.declared.fields.Label as bytes
use Rattle.protocol.specs.World.{Place, label, log, strip, slot, Image, Action}
use Rattle.protocol.specs.Batch.{puts}
use Rattle.protocol.specs.Slots.{from, row, rows}
use Rattle.protocol.specs.Label as Label
use Rattle.codecs.specs.Sector.{Sector}
use Rattle.codecs.proofs.Sector.{zeros}
use Rattle.codecs.specs.Shelf.{Shelf, slots, size}
use Rattle.codecs.specs.Labels.{label_of}
use Rattle.codecs.proofs.Labels.{sector_side, encode_label}
use Rattle.codecs.proofs.Written.{piece_of}
use Rattle.stages.specs.Limits.{most_stages}
use Rattle.stages.specs.State.{moved}
use Rattle.stages.specs.Stage.{stage_of}
use Rattle.shelf.specs.Act.{odd_sector}
use Rattle.shelf.specs.Step.{is_end, on_stage}
use Rattle.stages.specs.declared.state.State.{State}
use Rattle.stages.specs.declared.stage.Stage.{Stage}
use Rattle.stages.specs.declared.stage.Stage.TheVariants.{Flush, Give, Wipe, Restore, Log, Store, Clear, Erase, Fill, End}
use Rattle.refine.specs.Places.{copy_sector, sector_of}
use Rattle.refine.specs.ToDo.{slots_from, rows_from, told_at, tail_at, given, restored, copy_at, fill_at, refilled, acts_of, under_of, left_of, stage_same, restores, Redoes, redoes, fills, Refills, refills, stage_over, Alike, rebuilt_same}

-- ---- where things go, and what

module _ (z : Shelf) where
  pub told_sector : (l : bytes.Label) (d i : ℕ) → sector_of z (told_at l d i) ≡ l.generation % 2
  unfolding sector_of copy_sector
  told_sector l d i = sector_side l.generation

  pub copy_sector_lem : (odd : Bool) (d i : ℕ) → sector_of z (copy_at odd d i) ≡ odd_sector odd
  unfolding sector_of copy_sector
  copy_sector_lem odd d i = refl

  pub tail_sector : (d i : ℕ) → sector_of z (tail_at z d i) ≡ first_log + z.c
  unfolding sector_of
  tail_sector d i = refl

  module _ (zeroed : ℕ) (l : bytes.Label) (k : Place) where
    pub given_zeros : in_mask zeroed (slot k) ≡ true → given z zeroed l k ≡ zeros
    given_zeros e = rw e

    pub given_label : in_mask zeroed (slot k) ≡ false → given z zeroed l k ≡ encode_label z (slot k) (label_of z l)
    given_label e = rw e

-- ---- the next sector of a slot

module _ (mk : ℕ → ℕ → Place) (c : ℕ) where
  pub rows_fresh : (ds : List ℕ) → rows_from mk c 0 ds ≡ rows mk (from 0 c) ds
  rows_fresh [] = refl
  rows_fresh (d ∷ ds) = let q : c - 0 ≡ c = omega arith in ap (λ (k : ℕ). row mk d (from 0 k) ++ rows mk (from 0 c) ds) q

  pub rows_next : (j d : ℕ) (ds : List ℕ) → j < c → rows_from mk c j (d ∷ ds) ≡ mk d j ∷ rows_from mk c (j + 1) (d ∷ ds)
  rows_next j d ds l =
      let p : suc j ≡ j + 1 = omega arith in
      let q : c - j ≡ suc (c - (j + 1)) = omega arith in
      ap (λ (k : ℕ). row mk d (from j k) ++ rows mk (from 0 c) ds) q ∙ ap (λ (a : ℕ). mk d j ∷ (row mk d (from a (c - (j + 1))) ++ rows mk (from 0 c) ds)) p

  pub rows_last : (j d : ℕ) (ds : List ℕ) → c ≤ j → rows_from mk c j (d ∷ ds) ≡ rows mk (from 0 c) ds
  rows_last j d ds l = let q : c - j ≡ 0 = omega arith in ap (λ (k : ℕ). row mk d (from j k) ++ rows mk (from 0 c) ds) q

-- ---- what is left

module _ (z : Shelf) where
  module _ (work : List ℕ) (f g : Image Sector) where
    restored_same : ((d j : ℕ) → g (log d j) ≡ f (log d j)) → (k : Place) → restored z g k ≡ restored z f k
    restored_same h (label d b) = refl
    restored_same h (log d j) = refl
    restored_same h (strip d t j) = ap₂ (λ (x y : Sector). piece_of z x y j) (h d z.c) (h d j)

    refilled_same : (l : bytes.Label) → ((d t j : ℕ) → Label.believed (size z) (label_of z l) d t ≡ true → g (strip d t j) ≡ f (strip d t j)) → (k : Place) → refilled z l g k ≡ refilled z l f k
    refilled_same l h (label d b) = refl
    refilled_same l h (log d j) = refl
    refilled_same l h (strip d t j) = (rebuilt_same z) (label_of z l) f g t (λ e i o q. h e t i q) (label_of z l).rebuilding j

    pub acts_same : (s : State) → (Alike z) s f g → (x : Stage) → Redoes (restores s.kind s.marks.forward) x → Refills (fills s.kind) x → (d j : ℕ)
        → acts_of z (under_of s) work g x d j ≡ acts_of z (under_of s) work f x d j
    unfolding Alike
    acts_same s h (Flush mask) r v d j = refl
    acts_same s h (Give mask zeroed l) r v d j = refl
    acts_same s h (Wipe mask) r v d j = refl
    acts_same s h (Restore mask t) r v d j =
        ap (λ (y : Place → Sector). puts y (rows_from (λ e i. strip e t i) z.c j (slots_from (slots z) mask d))) (fun_ext (restored_same (h.0 r)))
    acts_same s h (Log mask t shards) r v d j = refl
    acts_same s h (Store mask t) r v d j = refl
    acts_same s h (Clear mask) r v d j = refl
    acts_same s h (Erase mask odd) r v d j = refl
    acts_same s h (Fill mask first count) r v d j =
        ap (λ (y : Place → Sector). puts y (rows_from (fill_at z first) (count * z.c) j (slots_from (slots z) mask d))) (fun_ext (refilled_same s.now (h.1 v)))
    acts_same s h End r v d j = refl

    pub left_same : (k : ℕ) (s : State) → (Alike z) s f g → left_of z work g k s ≡ left_of z work f k s
    unfolding left_of Alike
    left_same zero s h = refl
    left_same (suc k) s h =
        ap₂ (λ (a l : List (Action Sector)). cond (is_end (stage_of s)) [] (a ++ l))
        (acts_same s h (stage_of s) (redoes s.kind s s.cursor.stage) (refills s.kind s s.cursor.stage) s.cursor.slot s.cursor.sector) (left_same k (on_stage s) h)

  module _ (work : List ℕ) (f : Image Sector) where
    -- where the request is over, nothing
    pub left_ended : (k : ℕ) (s : State) → is_end (stage_of s) ≡ true → left_of z work f (suc k) s ≡ []
    unfolding left_of
    left_ended k s e = rw e

    -- any number of stages that is enough
    pub left_any : (k j : ℕ) (s : State) → most_stages ≤ suc (s.cursor.stage + k) → most_stages ≤ suc (s.cursor.stage + j) → left_of z work f k s ≡ left_of z work f j s
    unfolding left_of
    left_any zero zero s a b = refl
    left_any zero (suc j) s a b = sym (left_ended j s (stage_over s.kind s s.cursor.stage (omega arith)))
    left_any (suc k) zero s a b = left_ended k s (stage_over s.kind s s.cursor.stage (omega arith))
    left_any (suc k) (suc j) s a b =
        ap (λ (l : List (Action Sector)). cond (is_end (stage_of s)) [] (acts_of z (under_of s) work f (stage_of s) s.cursor.slot s.cursor.sector ++ l))
        (left_any k j (on_stage s) (omega arith) (omega arith))

    -- from slot d, sector j of the stage on: the rest of the stage, and what comes after it
    pub left_at : (k : ℕ) (s : State) (d j : ℕ) → is_end (stage_of s) ≡ false → most_stages ≤ suc (s.cursor.stage + 1 + k)
        → left_of z work f most_stages (moved s s.cursor.stage d j) ≡ acts_of z (under_of s) work f (stage_of s) d j ++ left_of z work f k (on_stage s)
    unfolding left_of
    left_at k s d j e h =
        let q : stage_of (moved s s.cursor.stage d j) ≡ stage_of s = stage_same s.kind s s.cursor.stage d j s.cursor.stage in
        ap₂ (λ (x : Stage) (l : List (Action Sector)). cond (is_end x) [] (acts_of z (under_of s) work f x d j ++ l)) q (left_any (most_stages - 1) k (on_stage s) (omega arith) h)
        ∙ ap (λ (b : Bool). cond b [] (acts_of z (under_of s) work f (stage_of s) d j ++ left_of z work f k (on_stage s))) e
