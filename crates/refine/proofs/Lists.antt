-- THE LISTS ARE THE PROTOCOL'S: at the beginning of a request, with masks that say what the protocol's tests say and labels
-- that are the protocol's, what is left to do is the protocol's list of actions. Assumes nothing.
use Rattle.std.specs.Prelude.{◌≡◌, Bool, true, false, cond, ℕ, ◌+◌, ◌-◌}
use Rattle.std.proofs.Math.Path.{refl, sym, ap, ap₂, fun_ext}
use Rattle.std.proofs.Common.{◌∙◌, arith, lt-ltb}
use Rattle.std.proofs.Math.Bool.{not}
use mathlib.Core.List.{List, [], ◌∷◌, ◌++◌}
use Rattle.disk.specs.Mask.{in_past}
use Rattle.label.specs.declared.fields.Label as bytes
use Rattle.protocol.specs.World.{slot, Action}
use Rattle.protocol.specs.Batch.{puts, flushes, actions}
use Rattle.protocol.specs.Slots.{from, rows}
use Rattle.protocol.specs.Label.{Label, there, told, round}
use Rattle.protocol.specs.Program.{new_label, beyond, flushed_first, told_to}
use Rattle.protocol.specs.Walk.{append_assoc, batch_of}
use Rattle.protocol.specs.Phases.{label_phase, flush_phase}
use Rattle.protocol.proofs.Phases.{change_phases, create_phases}
use Rattle.protocol.specs.Pairs.{no_sets}
use Rattle.codecs.specs.Sector.{Sector}
use Rattle.codecs.proofs.Sector.{zeros}
use Rattle.codecs.specs.Shelf.{Shelf, slots, size}
use Rattle.codecs.specs.Labels.{label_of}
use Rattle.codecs.proofs.Labels.{encode_label, labels}
use Rattle.codecs.proofs.Records.{records}
use Rattle.codecs.specs.Media.{stamps}
use Rattle.shards.proofs.Even.{any_code, any_sectors}
use Rattle.stages.specs.Limits.{most_stages}
use Rattle.stages.specs.State.{moved}
use Rattle.stages.specs.Stage.{round_stage, create_stage, stage_at, stage_of}
use Rattle.shelf.specs.Step.{is_end}
use Rattle.stages.specs.declared.state.State.{State}
use Rattle.stages.specs.declared.state.Kind.{Kind}
use Rattle.stages.specs.declared.state.Kind.TheVariants.{Creating, Labelling}
use Rattle.stages.specs.declared.stage.Stage.{Stage}
use Rattle.stages.specs.declared.stage.Stage.TheVariants.{Flush, Give}
use Rattle.refine.specs.ToDo.{slots_from, given, under_of, acts_of, left_of, to_do, stage_same}
use Rattle.refine.proofs.ToDo.{left_ended, left_at}
use Rattle.refine.specs.Lists.{Says, slots_are, F, from_stage}

-- ---- stage by stage

module _ (z : Shelf) (s : State) (img : List ℕ) where
  pub begun : s.cursor ≡ record { stage = 0; slot = 0; sector = 0 } → to_do z s [] img ≡ (from_stage z s img) 0
  unfolding to_do
  begun e =
      ap (left_of z [] (F z s img) most_stages)
      (λ i. record { now = s.now; next = s.next; absent = s.absent; epoch = s.epoch; count = s.count; marks = s.marks; kind = s.kind; cursor = e i })

  pub staged : (i : ℕ) (x : Stage) → stage_at s.kind s i ≡ x → is_end x ≡ false → (from_stage z s img) i ≡ acts_of z (under_of s) [] (F z s img) x 0 0 ++ (from_stage z s img) (i + 1)
  staged i x e o =
      let q : stage_of (moved s i 0 0) ≡ x = stage_same s.kind s i 0 0 i ∙ e in
      left_at z [] (F z s img) most_stages (moved s i 0 0) 0 0 (ap is_end q ∙ o) (omega arith) ∙ ap (λ (y : Stage). acts_of z (under_of s) [] (F z s img) y 0 0 ++ (from_stage z s img) (i + 1)) q

  pub over : (i : ℕ) → is_end (stage_at s.kind s i) ≡ true → (from_stage z s img) i ≡ []
  over i e = left_ended z [] (F z s img) (most_stages - 1) (moved s i 0 0) (ap is_end (stage_same s.kind s i 0 0 i) ∙ e)

  -- A ROUND: a label to each slot of a mask, then a flush of each
  module _ (mask : ℕ) (p : ℕ → Bool) (says : Says z mask p) where
    pub flush_is : acts_of z (under_of s) [] (F z s img) (Flush mask) 0 0 ≡ actions (batch_of (flush_phase (labels z) (records z) (slots z) p))
    flush_is = ap (λ (ds : List ℕ). flushes ds) (slots_are z mask p says)

    told_is : (l : bytes.Label) → given z 0 l ≡ told (labels z) (label_of z l)
    told_is l = fun_ext (λ k. ap (λ (b : Bool). cond b zeros (encode_label z (slot k) (label_of z l))) (in_past 0 0 (slot k) (omega arith) (omega arith)))

    pub round_is : (l : bytes.Label) (L : Label) → label_of z l ≡ L → (rest : List (Action Sector))
        → acts_of z (under_of s) [] (F z s img) (Give mask 0 l) 0 0 ++ (acts_of z (under_of s) [] (F z s img) (Flush mask) 0 0 ++ rest) ≡ actions (batch_of (label_phase (labels z) (records z) L (slots z) p)) ++ rest
    round_is l L e rest =
        let ds = slots_from (slots z) mask 0 in
        let q = slots_are z mask p says in
        sym (append_assoc (acts_of z (under_of s) [] (F z s img) (Give mask 0 l) 0 0) (flushes ds) rest)
        ∙ (λ i. (puts (told_is l i) (rows (there (labels z) (label_of z l)) (0 ∷ []) ds) ++ flushes ds) ++ rest)
        ∙ (λ i. (puts (told (labels z) (e i)) (rows (there (labels z) (e i)) (0 ∷ []) (q i)) ++ flushes (q i)) ++ rest)

    -- stages i and i + 1 of the request
    pub round_staged : (i : ℕ) (l : bytes.Label) (L : Label) → label_of z l ≡ L → stage_at s.kind s i ≡ Give mask 0 l → stage_at s.kind s (i + 1) ≡ Flush mask
        → (from_stage z s img) i ≡ actions (batch_of (label_phase (labels z) (records z) L (slots z) p)) ++ (from_stage z s img) (i + 1 + 1)
    round_staged i l L e a b =
        staged i (Give mask 0 l) a refl ∙ ap (λ (r : List (Action Sector)). acts_of z (under_of s) [] (F z s img) (Give mask 0 l) 0 0 ++ r) (staged (i + 1) (Flush mask) b refl)
        ∙ round_is l L e ((from_stage z s img) (i + 1 + 1))

  module _ (zero_cursor : s.cursor ≡ record { stage = 0; slot = 0; sector = 0 }) where
    -- CREATE: all slots are flushed, and the first label goes to all
    pub create_list : s.kind ≡ Creating → Says z s.marks.present (λ d. true) → label_of z s.next ≡ new_label (slots z) 1
        → to_do z s [] img ≡ flushes (flushed_first (size z) (no_sets (slots z)) (labels z) (records z) (any_code z) stamps (any_sectors z) (beyond (slots z) (λ d. false))) ++ round (labels z) (new_label (slots z) 1) (from 0 (slots z))
    unfolding create_stage round_stage
    create_list kind says label_is =
        let m = s.marks.present in
        let at : (i : ℕ) → stage_at s.kind s i ≡ create_stage s i = λ i. ap (λ (k : Kind). stage_at k s i) kind in
        let present : Says z m (λ d. not (beyond (slots z) (λ e. false) d)) = λ d l. says d l ∙ sym (ap (λ (b : Bool). not (not b)) (lt-ltb d (slots z) l)) in
        begun zero_cursor
        ∙ staged 0 (Flush m) (at 0) refl
        ∙ ap₂ (λ (a l : List (Action Sector)). a ++ l) (flush_is m (λ d. not (beyond (slots z) (λ e. false) d)) present)
        (round_staged m (λ d. true) says 1 s.next (new_label (slots z) 1) label_is (at 1) (at 2) ∙ ap (λ (l : List (Action Sector)). actions (batch_of (label_phase (labels z) (records z) (new_label (slots z) 1) (slots z) (λ d. true))) ++ l) (over 3 (ap is_end (at 3))))
        ∙ sym (create_phases (size z) (no_sets (slots z)) (labels z) (records z) (any_code z) stamps (any_sectors z) (new_label (slots z) 1) (beyond (slots z) (λ d. false)))

    -- A LABEL CHANGE (taking a slot out): the new label to all present slots
    pub change_list : (A : ℕ → Bool) (N : Label) → s.kind ≡ Labelling → Says z s.marks.present (λ d. not (A d)) → label_of z s.next ≡ N
        → to_do z s [] img ≡ round (labels z) N (told_to (size z) (no_sets (slots z)) (labels z) (records z) (any_code z) stamps (any_sectors z) A)
    unfolding round_stage
    change_list A N kind says label_is =
        let m = s.marks.present in
        let at : (i : ℕ) → stage_at s.kind s i ≡ round_stage i m s.next = λ i. ap (λ (k : Kind). stage_at k s i) kind in
        begun zero_cursor
        ∙ round_staged m (λ d. not (A d)) says 0 s.next N label_is (at 0) (at 1)
        ∙ ap (λ (l : List (Action Sector)). actions (batch_of (label_phase (labels z) (records z) N (slots z) (λ d. not (A d)))) ++ l) (over 2 (ap is_end (at 2)))
        ∙ sym (change_phases (size z) (no_sets (slots z)) (labels z) (records z) (any_code z) stamps (any_sectors z) N A)
