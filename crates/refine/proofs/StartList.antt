-- START-UP'S LIST IS THE PROTOCOL'S: with masks that say what the protocol's tests say of what is seen, and the labels that it
-- reads and settles, what is left to do at the beginning of start-up is the protocol's list. Assumes nothing.
use Rattle.std.specs.Prelude.{◌≡◌}
use Rattle.std.proofs.Math.Path.{refl, sym, ap, ap₂}
use Rattle.std.proofs.Common.{◌∙◌, inl, inr, arith, lt-ltb}
use Rattle.std.proofs.Math.Bool.{Bool, true, false, cond, not}
use mathlib.Core.List.{List, [], ◌∷◌, ◌++◌, append-nil, Memᴰ}
use Prim.Native.Nat.{ℕ, zero, suc, ◌+◌, ◌<◌}
use Rattle.disk.specs.Mask.{in_mask}
use Rattle.disk.specs.Tests.{and_left}
use Rattle.label.specs.declared.fields.Label as bytes
use Rattle.protocol.specs.World.{Place, label, log, strip, slot, Action, put}
use Rattle.protocol.specs.Batch.{puts, flushes, actions}
use Rattle.protocol.specs.Slots as Slots
use Rattle.protocol.specs.Slots.{from, of_from, keep, of_keep, rows, of_rows}
use Rattle.protocol.specs.Write.{stored, store_batch, stored_sectors, involved}
use Rattle.protocol.specs.Redo.{redone, forward, marked, kill_batch, kill, redo}
use Rattle.protocol.specs.Label.{Label, again, looked, belief, prep_value}
use Rattle.protocol.proofs.Label.{look_of}
use Rattle.protocol.specs.Startup.{L, gone}
use Rattle.protocol.proofs.Startup.{without_gone}
use Rattle.protocol.specs.Decide.{startup}
use Rattle.protocol.specs.Program.{flushed_first}
use Rattle.protocol.specs.Walk.{append_assoc, batch_of}
use Rattle.protocol.specs.Phases.{all_of, prep_phase, redo_phases}
use Rattle.protocol.proofs.Phases.{redo_is, start_phases}
use Rattle.protocol.specs.Pairs.{no_sets}
use Rattle.codecs.specs.Sector.{Sector}
use Rattle.codecs.proofs.Sector.{zeros}
use Rattle.codecs.specs.Shelf.{Shelf, slots, size}
use Rattle.codecs.specs.Labels.{side_of, label_of}
use Rattle.codecs.proofs.Labels.{encode_label, labels}
use Rattle.codecs.proofs.Written.{piece_of}
use Rattle.codecs.proofs.Records.{records}
use Rattle.codecs.specs.Media.{stamps}
use Rattle.shards.proofs.Even.{any_code, any_sectors}
use Rattle.stages.specs.Stage as Stage
use Rattle.stages.specs.Stage.{round_stage, late_stage, start_stage, stage_at}
use Rattle.shelf.specs.Step.{is_end}
use Rattle.stages.specs.declared.state.State.{State}
use Rattle.stages.specs.declared.state.Kind.{Kind}
use Rattle.stages.specs.declared.stage.Stage.{Stage}
use Rattle.stages.specs.declared.stage.Stage.TheVariants.{Flush, Give, Wipe, Restore}
use Rattle.refine.proofs.Disks.{seen_present}
use Rattle.refine.specs.ToDo.{slots_from, tail_at, rows_from, restored, under_of, acts_of, to_do, stage_over}
use Rattle.refine.proofs.ToDo.{rows_fresh}
use Rattle.refine.specs.Lists.{Says, slots_are, from_stage}
use Rattle.refine.proofs.Lists.{begun, staged, over, flush_is, round_staged}
use Rattle.refine.specs.StartList.{B, last, blanked, adopts, readies, forwards, wipes, LogPart, Starts, f, F, N, g, rounds_of, preps}

-- ---- two values that agree where they are put

puts_same : {X : Type 0} (v w : Place → X) (ks : List Place) → ((k : Place) → Memᴰ k ks → v k ≡ w k) → puts v ks ≡ puts w ks
puts_same v w [] h = refl
puts_same v w (k ∷ ks) h = ap₂ (λ (x : _) (l : List (Action _)). put k x ∷ l) (h k (Memᴰ.head refl)) (puts_same v w ks (λ l m. h l (Memᴰ.tail m)))

-- ---- the stages

module _ (z : Shelf) (A : ℕ → Bool) (img : List ℕ) (s : State) (h : Starts z A img s) where
  g_is : s.now.generation + 1 ≡ (g z A img s h)
  g_is = omega (arith, h.level)

  at : (i : ℕ) → stage_at s.kind s i ≡ start_stage s i
  at i = ap (λ (k : Kind). stage_at k s i) h.kind

  -- the label once more, with the next generation
  again_is : (l : bytes.Label) (L : Label) → label_of z l ≡ L → label_of z (Stage.again l (s.now.generation + 1)) ≡ again L (g z A img s h)
  again_is l L e = ap₂ again e g_is

  -- PREP: its slots, and zeros or the label there
  prep_is : (rest : List (Action Sector))
      → acts_of z (under_of s) [] (F z A img s h) (Give s.marks.prep s.marks.zeroed (Stage.again s.next (s.now.generation + 1))) 0 0 ++ (acts_of z (under_of s) [] (F z A img s h) (Flush s.marks.prep) 0 0 ++ rest)
      ≡ actions (batch_of (prep_phase (labels z) (records z) (f z A img s h) (g z A img s h) (N z A img s h) (slots z) (adopts z A img))) ++ rest
  prep_is rest =
      let l = Stage.again s.next (s.now.generation + 1) in
      let q = slots_are z s.marks.prep (readies z A img) h.prep in
      sym (append_assoc (acts_of z (under_of s) [] (F z A img s h) (Give s.marks.prep s.marks.zeroed l) 0 0) (flushes (slots_from (slots z) s.marks.prep 0)) rest)
      ∙ (λ i. (puts (λ k. cond (in_mask s.marks.zeroed (slot k)) zeros (encode_label z (slot k) (again_is s.next (N z A img s h) h.next i))) (rows (λ d j. label d (side_of (g_is i))) (0 ∷ []) (q i)) ++ flushes (q i)) ++ rest)
      ∙ ap (λ (a : List (Action Sector)). (a ++ flushes (keep (readies z A img) (from 0 (slots z)))) ++ rest)
      (puts_same (λ k. cond (in_mask s.marks.zeroed (slot k)) zeros (encode_label z (slot k) (again (N z A img s h) (g z A img s h)))) (prep_value (labels z) (f z A img s h) (g z A img s h) (N z A img s h)) (rows (λ d j. label d (side_of (g z A img s h))) (0 ∷ []) (keep (readies z A img) (from 0 (slots z))))
      (λ k m.
      let y = of_rows (λ d j. label d (side_of (g z A img s h))) (0 ∷ []) (keep (readies z A img) (from 0 (slots z))) k m in
      let o = of_keep (readies z A img) (from 0 (slots z)) y.0 y.2 in
      let zd : in_mask s.marks.zeroed y.0 ≡ blanked z A img y.0 = h.zeroed y.0 (omega (arith, of_from (slots z) 0 y.0 o.0)) o.1 in
      rw y.4 (ap (λ (b : Bool). cond b zeros (encode_label z y.0 (again (N z A img s h) (g z A img s h)))) zd)))

  -- ---- the log part

  pub gone_there : (d : ℕ) → d < slots z → A d ≡ true → gone (size z) (labels z) A (f z A img s h) d ≡ true
  unfolding gone
  gone_there d l e = rw (lt-ltb d (slots z) l, e)

  -- a slot that is looked at is present
  pub seen_there : (d : ℕ) → looked (size z) (N z A img s h) d ≡ true → A d ≡ false
  seen_there d e = by (A d) refl
    where
      by : (b : Bool) → A d ≡ b → b ≡ false
      by true q = sym (gone_there d (look_of (size z) (N z A img s h) d e).0 q) ∙ without_gone (size z) (L (size z) (labels z) A (f z A img s h)) (gone (size z) (labels z) A (f z A img s h)) (suc (g z A img s h)) d e
      by false q = refl

  -- its record is what is seen
  piece_same : (t d j : ℕ) → (B z A img).believe d t ≡ true → piece_of z ((F z A img s h) (log d z.c)) ((F z A img s h) (log d j)) j ≡ piece_of z ((f z A img s h) (log d z.c)) ((f z A img s h) (log d j)) j
  unfolding belief
  piece_same t d j e =
      let a = seen_there d ((B z A img).believe_look d t e) in
      ap₂ (λ (x y : Sector). piece_of z x y j) (sym (seen_present z A img (log d z.c) a)) (sym (seen_present z A img (log d j) a))

  -- stages 11 and 12
  log_stages : (x : Stage) → start_stage s 11 ≡ x → is_end x ≡ false → from_stage z s img 11 ≡ acts_of z (under_of s) [] (F z A img s h) x 0 0 ++ flushes (slots_from (slots z) s.marks.redo 0)
  unfolding start_stage late_stage
  log_stages x e o =
      staged z s img 11 x (at 11 ∙ e) o
      ∙ ap (λ (l : List (Action Sector)). acts_of z (under_of s) [] (F z A img s h) x 0 0 ++ l)
      (staged z s img 12 (Flush s.marks.redo) (at 12) refl ∙ ap (λ (l : List (Action Sector)). flushes (slots_from (slots z) s.marks.redo 0) ++ l) (over z s img 13 (stage_over s.kind s 13 (omega arith))) ∙ append-nil (flushes (slots_from (slots z) s.marks.redo 0)))

  redo_stage : (b : Bool) → s.marks.forward ≡ b → start_stage s 11 ≡ cond b (Restore s.marks.redo s.marks.stripe) (Wipe s.marks.redo)
  unfolding start_stage late_stage
  redo_stage b e = ap (λ (x : Bool). cond x (Restore s.marks.redo s.marks.stripe) (Wipe s.marks.redo)) e

  keep_none : (a n : ℕ) → keep (λ d. false) (from a n) ≡ []
  keep_none a zero = refl
  keep_none a (suc n) = keep_none (suc a) n

  log_none : Says z s.marks.redo (λ d. false) → from_stage z s img 11 ≡ []
  log_none says = by s.marks.forward refl
    where
      q : slots_from (slots z) s.marks.redo 0 ≡ []
      q = slots_are z s.marks.redo (λ d. false) says ∙ keep_none 0 (slots z)

      by : (b : Bool) → s.marks.forward ≡ b → from_stage z s img 11 ≡ []
      by true e =
          log_stages (Restore s.marks.redo s.marks.stripe) (redo_stage true e) refl
          ∙ (λ i. puts (restored z (F z A img s h)) (rows_from (λ d j. strip d s.marks.stripe j) z.c 0 (q i)) ++ flushes (q i))
      by false e = log_stages (Wipe s.marks.redo) (redo_stage false e) refl ∙ (λ i. puts (λ k. zeros) (rows (tail_at z) (0 ∷ []) (q i)) ++ flushes (q i))

  -- FORWARD: the strips from the records
  log_forward : s.marks.forward ≡ true → s.marks.stripe ≡ (records z).stripe_of (last z A img) → Says z s.marks.redo (forwards z A img)
      → from_stage z s img 11 ≡ forward (records z) (B z A img) (f z A img s h)
  unfolding forward store_batch stored_sectors involved Slots.slots belief
  log_forward e u says =
      let t = (records z).stripe_of (last z A img) in
      let ds = keep (forwards z A img) (from 0 (slots z)) in
      let q = slots_are z s.marks.redo (forwards z A img) says in
      log_stages (Restore s.marks.redo s.marks.stripe) (redo_stage true e) refl
      ∙ (λ i. puts (restored z (F z A img s h)) (rows_from (λ d j. strip d (u i) j) z.c 0 (q i)) ++ flushes (q i))
      ∙ ap (λ (ks : List Place). puts (restored z (F z A img s h)) ks ++ flushes ds) (rows_fresh (λ d j. strip d t j) z.c ds)
      ∙ ap (λ (a : List (Action Sector)). a ++ flushes ds)
      (puts_same (restored z (F z A img s h)) (stored (records z) (redone (records z) (B z A img) (f z A img s h))) (rows (λ d j. strip d t j) (from 0 z.c) ds)
      (λ k m.
      let y = of_rows (λ d j. strip d t j) (from 0 z.c) ds k m in
      let o = of_keep (forwards z A img) (from 0 (slots z)) y.0 y.2 in
      rw y.4 (piece_same t y.0 y.1 (and_left ((B z A img).believe y.0 t) ((records z).changes_of (last z A img) y.0) o.1))))

  -- KILL: zeros over the tails
  log_kill : s.marks.forward ≡ false → Says z s.marks.redo (wipes z A img) → from_stage z s img 11 ≡ kill (records z) (B z A img) (f z A img s h)
  unfolding kill_batch marked Slots.slots belief
  log_kill e says =
      let q = slots_are z s.marks.redo (wipes z A img) says in
      log_stages (Wipe s.marks.redo) (redo_stage false e) refl ∙ (λ i. puts (λ k. zeros) (rows (tail_at z) (0 ∷ []) (q i)) ++ flushes (q i))

  log_is : from_stage z s img 11 ≡ all_of (redo_phases (labels z) (records z) (B z A img) (f z A img s h))
  log_is = by h.log_part ∙ redo_is (labels z) (records z) (B z A img) (f z A img s h)
    where
      by : LogPart z A img s → from_stage z s img 11 ≡ redo (records z) (B z A img) (f z A img s h)
      by (inl p) = log_none p.1 ∙ sym p.0
      by (inr (inl p)) = log_forward p.1 p.2 p.3 ∙ sym p.0
      by (inr (inr p)) = log_kill p.1 p.2 ∙ sym p.0

  prep_stages : from_stage z s img 7 ≡ (preps z A img s h) ++ from_stage z s img 9
  unfolding start_stage late_stage
  prep_stages =
      let x = Give s.marks.prep s.marks.zeroed (Stage.again s.next (s.now.generation + 1)) in
      staged z s img 7 x (at 7) refl
      ∙ ap (λ (l : List (Action Sector)). acts_of z (under_of s) [] (F z A img s h) x 0 0 ++ l) (staged z s img 8 (Flush s.marks.prep) (at 8) refl)
      ∙ prep_is (from_stage z s img 9)

  -- START-UP: flushes of all present slots, then what the protocol makes of what it sees
  pub start_list : to_do z s [] img ≡ flushes (flushed_first (size z) (no_sets (slots z)) (labels z) (records z) (any_code z) stamps (any_sectors z) A) ++ startup (size z) (labels z) (records z) A (f z A img s h)
  unfolding start_stage late_stage round_stage
  start_list =
      let m = s.marks in
      let taking : ℕ → Bool = λ d. not (gone (size z) (labels z) A (f z A img s h) d) in
      let l1 = L (size z) (labels z) A (f z A img s h) in
      begun z s img h.at_first
      ∙ staged z s img 0 (Flush m.present) (at 0) refl
      ∙ ap₂ (λ (a l : List (Action Sector)). a ++ l) (flush_is z s img m.present (λ d. not (A d)) h.present)
      (round_staged z s img m.parts taking h.parts 1 s.now l1 h.now (at 1) (at 2)
      ∙ ap (λ (l : List (Action Sector)). (rounds_of z A img s h) l1 taking ++ l)
      (round_staged z s img m.parts taking h.parts 3 (Stage.again s.now (s.now.generation + 1)) (again l1 (g z A img s h)) (again_is s.now l1 h.now) (at 3) (at 4)
      ∙ ap (λ (l : List (Action Sector)). (rounds_of z A img s h) (again l1 (g z A img s h)) taking ++ l)
      (round_staged z s img m.parts taking h.parts 5 s.next (N z A img s h) h.next (at 5) (at 6)
      ∙ ap (λ (l : List (Action Sector)). (rounds_of z A img s h) (N z A img s h) taking ++ l)
      (prep_stages
      ∙ ap (λ (l : List (Action Sector)). (preps z A img s h) ++ l)
      (round_staged z s img m.late (adopts z A img) h.late 9 s.next (N z A img s h) h.next (at 9) (at 10)
      ∙ ap (λ (l : List (Action Sector)). (rounds_of z A img s h) (N z A img s h) (adopts z A img) ++ l) log_is)))))
      ∙ sym (start_phases (size z) (no_sets (slots z)) (labels z) (records z) (any_code z) stamps (any_sectors z) A (f z A img s h))
