-- A REBUILD UNDER WAY, beside the protocol's machine: an accepted one begins where the machine is at rest; each of its steps is the machine's,
-- and leaves it under way or at rest. Assumes nothing.
use Rattle.std.specs.Prelude.{◌≡◌, refl, ◌⊎◌, true, ℕ, ◌*◌, ◌≤◌, ◌<◌, length, Ok}
use Rattle.std.proofs.Common.{sym, ap, ◌∙◌, inl, inr, ⊎_elim}
use Rattle.std.proofs.Math.Path.{subst}
use mathlib.Core.List.Memᴰ
use mathlib.Core.List.{List, []}
use Rattle.disk.specs.Limits.{sector_bytes}
use Rattle.disk.specs.Mask.{in_mask}
use Rattle.label.specs.declared.fields.Label as bytes
use Rattle.protocol.specs.World.{World, Action, Always}
use Rattle.protocol.specs.Label.{looked}
use Rattle.protocol.specs.Program.{Own, Memory, idle, doing, labelling, Reply, accepted, rebuild_on, step, beyond, asked_on}
use Rattle.protocol.specs.Machine.{Machine, View, effect, Answered}
use Rattle.protocol.specs.Pairs.{no_sets}
use Rattle.codecs.specs.Sector.{Sector}
use Rattle.codecs.specs.Shelf.{Shelf, slots, size}
use Rattle.codecs.specs.Labels.{label_of, ours}
use Rattle.codecs.proofs.Labels.{labels}
use Rattle.codecs.proofs.Records.{records}
use Rattle.codecs.specs.Media.{stamps}
use Rattle.shards.proofs.Even.{any_code, any_sectors}
use Rattle.shelf.specs.Act.{Move}
use Rattle.shelf.specs.Step.{finished, step_move}
use Rattle.stages.specs.declared.state.State.{State}
use Rattle.stages.specs.declared.state.Kind.TheVariants.{Idle}
use Rattle.rebuilds.specs.On.{on_answer, went_on, on_of}
use Rattle.refine.specs.Family.{Family}
use Rattle.refine.specs.Disks.{Disks, cur_of, seen_of}
use Rattle.refine.specs.Rounds.{beyond_below}
use Rattle.refine.specs.ToDo.{to_do}
use Rattle.refine.specs.Steps.{Fair}
use Rattle.refine.specs.Tied.{own_of, memory_of, plain}
use Rattle.refine.specs.Requests.{goes}
use Rattle.refine.specs.Relabels.{TiedLabel}
use Rattle.refine.proofs.Relabels.{label_tied}
use Rattle.refine.proofs.FillList.{fill_memory, fill_work, fill_same}
use Rattle.refine.specs.OnBegins.{on_rests, on_next, on_heals}
use Rattle.refine.proofs.OnBegins.{on_fair, on_asked, on_accepted}
use Rattle.refine.specs.Named.{Named, Names, left_in, on_names, step_names}
use Rattle.refine.specs.Chain.{Heard, has, Reached, Tie, off, accepted_none, idle_is}
use Rattle.refine.proofs.Chain.{asks_to, rests, step_some, step_leaves, heard_is}
use Rattle.refine.specs.Refills.{Heals, Refilling, rest_dark, saw_label}
use Rattle.requests.specs.Begun.{outcome_of, state_of}

module _ (z : Shelf) (F : Family z) (first : Machine Sector) where
  -- GOING ON WITH A REBUILD, accepted: the program begins it too, and the view stays
  pub on_kept : (p : View Sector) (w : World Sector) (img : List ℕ) (s : State) (b : ℕ) (work : List ℕ) → Tie z F first p w img (has s) → outcome_of (on_of s b img (length work)) ≡ Ok tt
      → (Refilling z F first) p w img (state_of s (on_of s b img (length work))) work
  on_kept p w img s b work t e = subst (λ (x : State). (Refilling z F first) p w img x work) (sym g.1) begun
    where
      g : (on_answer s.now s.kind s.absent img (length work) ≡ Ok tt) × (state_of s (on_of s b img (length work)) ≡ went_on s b img)
      g = goes (on_answer s.now s.kind s.absent img (length work)) s (went_on s b img) e

      own : ours z s.now ≡ true
      own = ⊎_elim (λ (f : Fair z s [] img × (plain s.kind ≡ true)). f.0.ours_now) (λ (q : (s.kind ≡ Idle) × (ours z s.now ≡ true)). q.1) t.order.1

      then : State
      then = went_on s b img

      o : Own
      o = own_of z s s.now

      r : Reached z F first p w (idle o)
      r = subst (Reached z F first p w) (rests z s img (idle_is z F first p s.kind (on_rests s.now s.kind s.absent img (length work) g.0))) t.reached

      dark : (d : ℕ) → d < slots z → in_mask s.absent d ≡ true → looked (size z) (label_of z s.now) d ≡ true → ⊥
      dark d i a q = (rest_dark z F first) p w o r d (beyond_below (slots z) s.absent d i ∙ a) q

      after : Memory Sector
      after = doing labelling (to_do z then work img) o (own_of z then then.next)

      asked_is : asked_on (size z) (no_sets (slots z)) (labels z) (records z) (any_code z) stamps (any_sectors z) o (seen_of z (beyond (slots z) (in_mask s.absent)) img) b ≡ after
      asked_is = sym (on_asked z img t.disks s own b work g.0 dark) ∙ fill_memory z then work img refl

      asked : (q : View Sector) × Answered z.c (rebuild_on b) accepted p q × Reached z F first q w after
      asked =
          asks_to z F first img t.reads r after (rebuild_on b) accepted (on_accepted z img t.disks s own b work g.0 dark ∙ ap (λ (m : Memory Sector). (m, accepted)) asked_is)
          (accepted_none z F first p) (λ q x n. absurd (Memᴰ.not-nil n))

      begun : (Refilling z F first) p w img then work
      begun =
          record {
            before = o;
            same_label_lem = refl;
            same_absent = refl;
            disks = t.disks;
            reads = t.reads;
            reached = subst (λ (q : View Sector). Reached z F first q w after) asked.1 asked.2;
            named = t.named;
            names = subst (λ (x : Memory Sector). Names z (left_in z x)) asked_is (on_names z o (seen_of z (beyond (slots z) (in_mask s.absent)) img) b);
            own_next = on_next z img t.disks s own b work g.0 dark;
            heals = on_heals z img t.disks s own b work g.0 dark;
            fair = on_fair z img t.disks s own b work g.0 dark;
            kind = refl;
          }

  -- any work area with room for a stripe does
  pub refilling_work : (p : View Sector) (w : World Sector) (img : List ℕ) (s : State) (work other : List ℕ) → slots z * (z.c * sector_bytes) ≤ length other → (Refilling z F first) p w img s work → (Refilling z F first) p w img s other
  refilling_work p w img s work other room t =
      let same : to_do z s work img ≡ to_do z s other img = fill_same z s work other img t.kind in
      record {
        before = t.before;
        same_label_lem = t.same_label_lem;
        same_absent = t.same_absent;
        disks = t.disks;
        reads = t.reads;
        reached = subst (λ (l : List (Action Sector)). Reached z F first p w (doing labelling l t.before (own_of z s s.next))) same t.reached;
        named = t.named;
        names = subst (Names z) same t.names;
        own_next = t.own_next;
        heals = t.heals;
        fair = fill_work z s work img t.kind other room t.fair;
        kind = t.kind;
      }

  -- A STEP is the program's, and the view stays: the rebuild goes on, or is done and all is at rest
  pub fill_kept : (p : View Sector) (w : World Sector) (img : List ℕ) (s : State) (work : List ℕ) (w' : World Sector) → (Refilling z F first) p w img s work
      → Heard z w (step_move s work img).stepped.answer (step_move s work img).image w'
      → (reply : Reply Sector) × (q : View Sector) × Answered z.c step reply p q × (q ≡ p)
      × ((Refilling z F first) q w' (step_move s work img).image (step_move s work img).stepped.state work ⊎ Tie z F first q w' (step_move s work img).image (has (step_move s work img).stepped.state))
  fill_kept p w img s work w' t h = (d.reply, y.0, y.1, stays, subst Next same (⊎_elim (λ x. inl (on x)) (λ x. inr (done x)) d.goes_on))
    where
      m : Move
      m = step_move s work img

      d : TiedLabel z t.before s work img m
      d = label_tied z t.before s work img t.fair

      y : (q : View Sector) × Answered z.c step d.reply p q × Reached z F first q (effect w d.reply) d.after
      y =
          asks_to z F first img t.reads t.reached d.after step d.reply d.steps (step_some z F first p d.reply m.stepped.answer d.answers)
          (λ e x n. step_leaves z F first p d.reply m.stepped.answer d.answers e x _ n)

      n : Always (effect w d.reply) (Named z) × Names z (left_in z d.after)
      n =
          subst (λ (x : Memory Sector × Reply Sector). Always (effect w x.1) (Named z) × Names z (left_in z x.0)) d.steps
          (step_names z (doing labelling (to_do z s work img) t.before (own_of z s s.next)) (cur_of z img) w (off z F first p t.reached).keeps.sane t.named t.names)

      stays : y.0 ≡ p
      stays = (saw_label z F first) (to_do z s work img) t.before (own_of z s s.next) (cur_of z img) d.reply (ap (λ (b : Memory Sector × Reply Sector). b.1) d.steps) p y.0 y.1

      same : effect w d.reply ≡ w'
      same = heard_is z F first p w w' m.image d.reply m.stepped.answer d.answers (d.acts w t.reads) h

      Next : World Sector → Type 1
      Next v = (Refilling z F first) y.0 v m.image m.stepped.state work ⊎ Tie z F first y.0 v m.image (has m.stepped.state)

      on : Fair z m.stepped.state work m.image × (m.stepped.state.kind ≡ s.kind) × (m.stepped.state.now ≡ s.now) × (m.stepped.state.absent ≡ s.absent)
          × (d.after ≡ doing labelling (to_do z m.stepped.state work m.image) t.before (own_of z m.stepped.state m.stepped.state.next))
          → (Refilling z F first) y.0 (effect w d.reply) m.image m.stepped.state work
      on x =
          record {
            before = t.before;
            same_label_lem = t.same_label_lem ∙ ap (label_of z) (sym x.2);
            same_absent = t.same_absent ∙ ap (λ (a : ℕ). beyond (slots z) (in_mask a)) (sym x.3);
            disks = x.0.disks;
            reads = d.acts w t.reads;
            reached = subst (Reached z F first y.0 (effect w d.reply)) x.4 y.2;
            named = n.0;
            names = subst (λ (v : Memory Sector). Names z (left_in z v)) x.4 n.1;
            own_next = ap (ours z) d.settles ∙ t.own_next;
            heals = subst (λ (l : bytes.Label). Heals z l m.stepped.state.next) (sym x.2) (subst (Heals z s.now) (sym d.settles) t.heals);
            fair = x.0;
            kind = x.1 ∙ t.kind;
          }

      rest : (x : Move) → x ≡ finished s img → memory_of z x.stepped.state [] x.image ≡ idle (own_of z s s.next)
      rest x e = ap (λ (v : Move). memory_of z v.stepped.state [] v.image) e ∙ rests z (finished s img).stepped.state img refl

      done : (m ≡ finished s img) × (d.after ≡ idle (own_of z s s.next)) → Tie z F first y.0 (effect w d.reply) m.image (has m.stepped.state)
      done x =
          let is : d.after ≡ memory_of z m.stepped.state [] m.image = x.1 ∙ sym (rest m x.0) in
          record {
            disks = subst (λ (v : Move). Disks z v.image) (sym x.0) t.disks;
            reads = d.acts w t.reads;
            reached = subst (Reached z F first y.0 (effect w d.reply)) is y.2;
            named = n.0;
            names = subst (λ (v : Memory Sector). Names z (left_in z v)) is n.1;
            order = (
              ap (ours z) d.settles ∙ t.own_next,
              inr (ap (λ (v : Move). v.stepped.state.kind) x.0, ap (λ (v : Move). ours z v.stepped.state.now) x.0 ∙ t.own_next),
            );
          }
