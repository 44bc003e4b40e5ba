-- WHAT EVERY CHAIN OF CALLS WITH WRITES KEEPS beside the host's view: a step can be followed; a write, a begin or a rebuild under way is carried out by its steps;
-- at rest the view is a list, and every believed strip is what it asks for, whatever a cut leaves; no disk names another shelf, and every label has its shape. Assumes nothing.
use Rattle.std.specs.Prelude.{◌≡◌, Bool, ℕ, ◌<◌, length, Some}
use Rattle.std.proofs.Math.Path.{refl, ap}
use Rattle.std.proofs.Common.{sym, subst, ◌∙◌, ⊎_elim, inl, inr}
use Rattle.std.proofs.Math.Bool.{true, false}
use Rattle.std.proofs.lemmas.Bool.{false≢true}
use mathlib.Core.List.{List, []}
use Rattle.disk.specs.declared.refusal.Refusal.{Refusal}
use Rattle.label.specs.Newest.{copy_of}
use Rattle.label.specs.declared.fields.Label as bytes
use Rattle.redo.specs.Decide.{believed}
use Rattle.protocol.specs.World.{strip, World, Possible, Always}
use Rattle.protocol.specs.Host.{Host}
use Rattle.protocol.proofs.Formed.{shaped_off}
use Rattle.protocol.specs.Program.{Memory, nothing, idle}
use Rattle.protocol.specs.Machine.{Machine, View, sure, open_write, kept_write}
use Rattle.protocol.specs.Machine as machine
use Rattle.codecs.specs.Sector.{Sector}
use Rattle.codecs.specs.Shelf.{Shelf, slots, geometry, size}
use Rattle.codecs.specs.Labels.{ours}
use Rattle.codecs.proofs.Labels.{labels}
use Rattle.codecs.proofs.Records.{records}
use Rattle.codecs.specs.Media.{stamps}
use Rattle.shards.proofs.Even.{any_code}
use Rattle.shelf.specs.Act.{Move, refuses}
use Rattle.shelf.specs.Step.{step_move}
use Rattle.stages.specs.declared.state.State.{State}
use Rattle.stages.specs.declared.state.Kind.TheVariants.{Idle}
use Rattle.requests.specs.Step.{other_work, step_with, step_short, step_goes}
use Rattle.requests.specs.Ready.{is_idle}
use Rattle.refine.specs.Family.{Family, code_in, sectors_in, KeepsIn, sound_in}
use Rattle.refine.specs.Disks.{Disks, cur_of}
use Rattle.refine.specs.Redo.{believe_is}
use Rattle.refine.specs.ToDo.{to_do}
use Rattle.refine.specs.Tied.{own_of, Tied}
use Rattle.refine.proofs.Writes.{write_tied}
use Rattle.refine.proofs.Relabels.{label_tied}
use Rattle.refine.specs.Ends.{EndsAfter}
use Rattle.refine.proofs.Ends.{request_ends}
use Rattle.refine.proofs.Named.{copy_ours}
use Rattle.refine.specs.Chain.{Heard}
use Rattle.refine.proofs.Chain.{rests, step_is, heard_by}
use Rattle.refine.specs.Holds.{Follows}
use Rattle.refine.proofs.Holds.{shape_of}
use Rattle.refine.specs.Hosts.{Held, has, Laying, Readying, Going, Bound}
use Rattle.refine.proofs.Hosts.{loose}

module _ (z : Shelf) (F : Family z) (first : Machine Sector) (p : View Sector) (w : World Sector) (img : List ℕ) where
  -- NO DISK NAMES ANOTHER SHELF, whatever a cut leaves
  pub bound_labels : (h : Held) → Bound z F first p w img h → (left : List ℕ) → Disks z left → Possible w (cur_of z left)
      → (d s : ℕ) (a : bytes.Label) → d < slots z → s < 2 → copy_of (geometry z) left d s ≡ Some a → ours z a ≡ true
  unfolding Always
  bound_labels h t left here possible = copy_ours z left here ((loose z F first p w img h t).named (cur_of z left) possible)

  -- EVERY DISK'S LABEL HAS ITS SHAPE
  pub bound_shaped : (h : Held) → Bound z F first p w img h → (left : List ℕ) → Disks z left → Possible w (cur_of z left) → (d : ℕ) → d < slots z → Follows z left d
  unfolding Always
  bound_shaped h t left here possible d i =
      let n = loose z F first p w img h t in
      shape_of z F left here (n.named (cur_of z left) possible) d i
      (shaped_off (size z) F.sets (labels z) (records z) (code_in z F) stamps (sectors_in z F) false w nothing n.reached.tidy (cur_of z left) possible d i)

  module _ (s : State) (work : List ℕ) where
    -- A STEP CAN BE FOLLOWED
    pub bound_followed : Bound z F first p w img (has s work) → (w' : World Sector) × Heard z w (step_with s img work).stepped.answer (step_with s img work).image w'
    bound_followed (inl t) =
        ⊎_elim (λ (d : Tied z s [] img (step_with s img work)). heard_by z F first w (step_with s img work).image d.reply (step_with s img work).stepped.answer d.answers (d.acts w t.reads))
        (λ (d : (why : Refusal) × (step_with s img work ≡ refuses s why img)). subst (λ (m : Move). (w' : World Sector) × Heard z w m.stepped.answer m.image w') (sym d.1) (w, refl)) (step_is z F first p w img s work t)
    bound_followed (inr (inl t)) = by (other_work s.now (length img) (length work)) refl
      where
        by : (b : Bool) → other_work s.now (length img) (length work) ≡ b → (w' : World Sector) × Heard z w (step_with s img work).stepped.answer (step_with s img work).image w'
        by true e = subst (λ (m : Move). (w' : World Sector) × Heard z w m.stepped.answer m.image w') (sym (step_short s img work t.fair.in_range_lem e)) (w, refl)
        by false e =
            let d = write_tied z t.written s work img t.writes t.fair in
            subst (λ (m : Move). (w' : World Sector) × Heard z w m.stepped.answer m.image w') (sym (step_goes s img work t.fair.in_range_lem e))
            (heard_by z F first w (step_move s work img).image d.reply (step_move s work img).stepped.answer d.answers (d.acts w t.reads))
    bound_followed (inr (inr (inl t))) = by (other_work s.now (length img) (length work)) refl
      where
        by : (b : Bool) → other_work s.now (length img) (length work) ≡ b → (w' : World Sector) × Heard z w (step_with s img work).stepped.answer (step_with s img work).image w'
        by true e = subst (λ (m : Move). (w' : World Sector) × Heard z w m.stepped.answer m.image w') (sym (step_short s img work t.fair.in_range_lem e)) (w, refl)
        by false e =
            let d = label_tied z t.before s work img t.fair in
            subst (λ (m : Move). (w' : World Sector) × Heard z w m.stepped.answer m.image w') (sym (step_goes s img work t.fair.in_range_lem e))
            (heard_by z F first w (step_move s work img).image d.reply (step_move s work img).stepped.answer d.answers (d.acts w t.reads))
    bound_followed (inr (inr (inr g))) = by (other_work s.now (length img) (length work)) refl
      where
        by : (b : Bool) → other_work s.now (length img) (length work) ≡ b → (w' : World Sector) × Heard z w (step_with s img work).stepped.answer (step_with s img work).image w'
        by true e = subst (λ (m : Move). (w' : World Sector) × Heard z w m.stepped.answer m.image w') (sym (step_short s img work g.refills.fair.in_range_lem e)) (w, refl)
        by false e =
            let t = g.refills in
            let d = label_tied z t.before s work img t.fair in
            subst (λ (m : Move). (w' : World Sector) × Heard z w m.stepped.answer m.image w') (sym (step_goes s img work t.fair.in_range_lem e))
            (heard_by z F first w (step_move s work img).image d.reply (step_move s work img).stepped.answer d.answers (d.acts w t.reads))

    -- A WRITE UNDER WAY IS CARRIED OUT by its steps: some actions, and then it is done; none of them is refused
    pub write_carried_out : Laying z F first p w img s work → (n : ℕ) × EndsAfter n work s img
    write_carried_out t = (length (to_do z s work img), request_ends z work t.sized s img t.fair)

    -- AND SO IS BEGIN
    pub begin_carried_out : Readying z F first p w img s work → (n : ℕ) × EndsAfter n work s img
    begin_carried_out t = (length (to_do z s work img), request_ends z work t.sized s img t.fair)

    -- AND A REBUILD
    pub rebuild_carried_out : Going z F first p w img s work → (n : ℕ) × EndsAfter n work s img
    rebuild_carried_out t = (length (to_do z s work img), request_ends z work t.sized s img t.refills.fair)

    -- AT REST the view is a list, and each strip sector that the state's label believes is what the list asks for, whatever a cut leaves
    pub bound_rests : s.kind ≡ Idle → Bound z F first p w img (has s work)
        → (v : Host Sector) × (p ≡ sure v) × ((left : List ℕ) → Possible w (cur_of z left) → (d t j : ℕ) → believed (geometry z) s.now d t ≡ true → j < z.c → cur_of z left (strip d t j) ≡ (any_code z).shard t (v t) d j)
    unfolding Always
    bound_rests e (inr (inl t)) = absurd (false≢true (sym (ap is_idle t.writes.kind) ∙ ap is_idle e))
    bound_rests e (inr (inr (inl t))) = absurd (false≢true (sym (ap is_idle t.kind) ∙ ap is_idle e))
    bound_rests e (inr (inr (inr t))) = absurd (false≢true (sym (ap is_idle t.refills.kind) ∙ ap is_idle e))
    bound_rests e (inl t) = by p (subst (λ (x : Memory Sector). KeepsIn z F (machine.at w x) p) (rests z s img e) t.reached.keeps)
      where
        by : (p : View Sector) → KeepsIn z F (machine.at w (idle (own_of z s s.now))) p
            → (v : Host Sector) × (p ≡ sure v) × ((left : List ℕ) → Possible w (cur_of z left) → (d t j : ℕ) → believed (geometry z) s.now d t ≡ true → j < z.c → cur_of z left (strip d t j) ≡ (any_code z).shard t (v t) d j)
        by (sure v) k = (v, refl, λ left possible d t j b l. sound_in z F v w (own_of z s s.now) k (cur_of z left) possible d t j (believe_is z s.now d t ∙ b) l)
        by (open_write v v') k = absurd k
        by (kept_write v') k = absurd k
