-- DISKS EXCHANGED WHILE NO PROGRAM RUNS: any disk of the shelf, of a slot that was healthy, out or absent, may be exchanged for one that holds no valid label; a fresh one, say. A start-up that does not
-- call such a slot absent is refused, and one that does never looks at it. So the disk may as well have been exchanged when that start-up came to rest (Swaps): until then the old disk is told to be
-- there still. And so it is at rest, with a slot that is out but not called absent: every request that would change something is refused then, until the shelf is started anew, and reads do not look at the slot.
-- So the host's view goes on as without the exchange, and every read shows it. Nothing else is asked of the caller than in Hosts, but that create is not called on an image of zeros any more; and of the sets
-- of slots that are left out the same is asked as without exchanges (Since): from one moment of rest to the next any two leave a slot out in common; for k > m nothing. Assumes nothing.
use Rattle.std.specs.Prelude.{◌≡◌, ◌⊎◌, ◌≢◌, Bool, true, false, cond, not, ◌||◌, ℕ, ◌+◌, ◌<◌, ◌/◌, ◌%◌, eqb, Ok, Err, Some, None}
use Rattle.std.proofs.Math.Path.{refl, sym, ap, subst, fun_ext}
use Rattle.std.proofs.Common.{◌∙◌, inl, inr, true≢false, arith, eq-eqb, ne_eqb, eqb-true}
use Rattle.std.proofs.Math.Logic.{⊎_elim}
use Rattle.std.proofs.lemmas.Bool.{false≢true, eqb-false}
use mathlib.Core.List.Memᴰ
use mathlib.Core.List.{List, [], ◌∷◌, Memᴰ, ◌++◌}
use Rattle.std.proofs.Math.Decide.{ℕ_discrete}
use Rattle.std.proofs.Math.ListN.{length}
use Rattle.disk.specs.Mask.{in_mask}
use Rattle.disk.specs.Image.{sector}
use Rattle.disk.specs.declared.geometry.Geometry.{Geometry}
use Rattle.disk.specs.declared.refusal.Refusal.TheVariants.{NotNow}
use Rattle.disk.specs.Refusal.{Outcome}
use Rattle.disk.specs.Tests.{and_left}
use Rattle.label.specs.Bytes.{all_zero}
use Rattle.label.specs.Fields.{geometry_of}
use Rattle.label.specs.Newest.{copy_of, disk_label}
use Rattle.redo.specs.Decide.{looked}
use Rattle.protocol.specs.Apart.{same_nat}
use Rattle.protocol.specs.World.{Possible, Place, slot, Image, World, after, strip}
use Rattle.protocol.specs.Machine.{Machine, View, sure, list_of}
use Rattle.protocol.specs.Even.{Shared}
use Rattle.protocol.specs.Pairs.{AnyTwo, no_sets}
use Rattle.protocol.specs.Label as Label
use Rattle.protocol.specs.Host.{missing, read}
use Rattle.protocol.specs.Program.{idle, beyond}
use Rattle.codecs.specs.Sector.{Sector}
use Rattle.codecs.proofs.Sector.{zeros}
use Rattle.codecs.specs.Shelf.{Shelf, slots, geometry, size}
use Rattle.codecs.specs.Labels.{ours, label_of}
use Rattle.codecs.specs.Records.{strip_bytes}
use Rattle.codecs.proofs.Records.{records}
use Rattle.shards.proofs.Even.{any_code}
use Rattle.shards.specs.Exact.{blocks_blind}
use Rattle.shelf.specs.Act.{Move, named}
use Rattle.stages.specs.declared.state.State.{State}
use Rattle.stages.specs.declared.state.Kind.{Kind}
use Rattle.stages.specs.declared.state.Kind.TheVariants.{Idle}
use Rattle.stages.specs.Told as answer
use Rattle.requests.specs.Begun.{begun, state_of}
use Rattle.requests.specs.Create.{created}
use Rattle.requests.specs.TakeOut.{take_answer, took_out}
use Rattle.requests.specs.Step.{step_with}
use Rattle.requests.specs.Accepted.{take_done}
use Rattle.requests.specs.Ready.{is_idle, ready_of}
use Rattle.requests.specs.Known.{ready_labels}
use Rattle.rebuilds.specs.Begin.{begin_answer, began}
use Rattle.rebuilds.specs.On.{on_answer, went_on}
use Rattle.blocks.specs.Answers.{first_done}
use Rattle.blocks.specs.Read.{read_answer, Shows, after_read, shown_of, laid_by, read_done}
use Rattle.blocks.specs.Write.{write_answer, AfterWrite}
use Rattle.blocks.specs.Repair.{may_repair, repair_refused}
use Rattle.refine.specs.Family.{Family, every_few, parts_few, in_parts}
use Rattle.refine.specs.Disks.{seen_of, Disks, cur_of}
use Rattle.refine.specs.Rounds.{beyond_below}
use Rattle.refine.specs.Redo.{look_is}
use Rattle.refine.specs.Given.{shelf_geometry}
use Rattle.refine.specs.Steps.{Fair}
use Rattle.refine.specs.Tied.{own_of, plain}
use Rattle.refine.specs.OnBegins.{on_rests}
use Rattle.refine.specs.BeginBegins.{begin_goes}
use Rattle.refine.specs.Other.{create_late}
use Rattle.refine.specs.Chain.{Reached, step_rests, Heard, Allowed, Tie, blocks, fresh}
use Rattle.refine.proofs.Chain.{fresh_tie}
use Rattle.refine.specs.Chain as chain
use Rattle.refine.proofs.Chain as chain_laws
use Rattle.refine.specs.Merged.{disk_of, disk_here, disk_other, copy_alike}
use Rattle.refine.proofs.Merged.{cur_alike}
use Rattle.refine.specs.Swaps.{Exchanged, new_disk}
use Rattle.refine.proofs.Swaps.{new_reads, swap_kept}
use Rattle.refine.specs.Lags.{lags_more, follows_alike, bare, Lags, nowhere, Behind, not_valid, few_low}
use Rattle.refine.specs.Sees.{sectors_of}
use Rattle.refine.specs.Mends.{may_whole, asked_refused}
use Rattle.refine.specs.Hosts.{Held, rest_dark, none, has, Time, at, held, HostCalls, creates, starts, creates_late, takes_out, begins, ons, writes, repairs, steps, cut, dies, swaps, HostChain, sets_call, sets, SawStep, SawAsked, Saw, Bound, BoundAt, rest_of}
use Rattle.refine.proofs.Hosts.{loose, loose_tie, not_rest, call_bound}
use Rattle.refine.specs.Reads.{in_k}
use Rattle.refine.proofs.ReadsLaws.{shown_read, read_right}
use Rattle.refine.specs.Since.{AnyTwoSince, since, RestsIn, parts, with_call}
use Rattle.refine.proofs.Since.{rests_in, tie_for, bound_for, before, rests_out, settled_in, since_in, pairs_since}
use Rattle.refine.specs.Serves.{ReadsAs, Served}
use Rattle.refine.proofs.Serves.{served_bound, bound_since, bound_for_since}
use Rattle.refine.specs.Exchanges.{Blanked, NotAnew, Exchanges, calls, replaced, pulled, swapped_off, ExchangeChain, stays, goes_on, sets_exchange, all_sets, since_then, AnyTwoThen, SawExchange, AllServed}
use Rattle.refine.specs.Late.{told, LagsAt, Starts, Pulled, hand_of, same_length, Late, LateAt, StandsAt, late_busy, late_unread}
use Rattle.refine.proofs.Late.{retell, late_cut, late_start, late_step}
use Rattle.refine.specs.Replaced.{also, onto, onto0, first_left}

in_also : (d : ℕ) (A : ℕ → Bool) (e : ℕ) → also d A e ≡ true → (e ≡ d) ⊎ ((e ≢ d) × (A e ≡ true))
in_also d A e q = by (eqb e d) refl q
  where
    by : (c : Bool) → eqb e d ≡ c → (c || A e) ≡ true → (e ≡ d) ⊎ ((e ≢ d) × (A e ≡ true))
    by true u r = inl (eqb-true e d u)
    by false u r = inr (eqb-false e d u, r)

seen_alike : (z : Shelf) (A : ℕ → Bool) (x y : List ℕ) (k : Place) → cur_of z x k ≡ cur_of z y k → seen_of z A x k ≡ seen_of z A y k
unfolding seen_of
seen_alike z A x y k e = ap (cond (A (slot k)) zeros) e

-- the same disk put into the slot of another image
module _ (z : Shelf) (s : State) (d : ℕ) (img left : List ℕ) (x : Exchanged z s d img left) (base : List ℕ) (disks : Disks z base) where
  onto_disks : Disks z (onto z s d img left x base disks)
  onto_disks = disk_of z d x.there left base x.disks disks

  onto_here : (u : ℕ) → u < z.sectors → sector z.sectors (onto z s d img left x base disks) d u ≡ sector z.sectors left d u
  onto_here = disk_here z d x.there left base x.disks disks

  onto_other : (e u : ℕ) → e < slots z → u < z.sectors → e ≢ d → sector z.sectors (onto z s d img left x base disks) e u ≡ sector z.sectors base e u
  onto_other = disk_other z d x.there left base x.disks disks

  onto_swap : Exchanged z s d base (onto z s d img left x base disks)
  onto_swap =
      record {
        at_rest = x.at_rest;
        there = x.there;
        absent = x.absent;
        disks = onto_disks;
        others = onto_other;
        older = λ o a l q. x.older o a l (sym (copy_alike z (onto z s d img left x base disks) left onto_disks x.disks d o x.there l (onto_here o (few_low z o l))) ∙ q);
        shape = follows_alike z (onto z s d img left x base disks) left onto_disks x.disks d x.there (λ o l. onto_here o (few_low z o l)) x.shape;
      }

module _ (z : Shelf) (F : Family z) (first : Machine Sector) where
  -- ---- AT REST, with slots behind that are out but not called absent

  module _ (p : View Sector) (w : World Sector) (img : List ℕ) (s : State) (work : List ℕ) (t : Late z F first p w img (has s work)) (lost : Pulled z t.away s) where
    mine : ours z s.now ≡ true
    mine = ⊎_elim (λ (f : Fair z s [] t.img0 × (plain s.kind ≡ true)). f.0.ours_now) (λ (q : (s.kind ≡ Idle) × (ours z s.now ≡ true)). q.1) t.tie.order.1

    -- their disks have not the state's label
    not_ready : ready_of s.now s.kind s.absent img ≡ Ok tt → ⊥
    not_ready e =
        let g : geometry_of s.now ≡ geometry z = shelf_geometry z s.now mine in
        let i : lost.one < s.now.k + s.now.m = subst (λ (x : Geometry). lost.one < x.n) (sym g) (t.behind.inner lost.one lost.is_one) in
        let y = ready_labels s.now s.kind s.absent img e (ap is_idle lost.rests) lost.one i (lost.present lost.one lost.is_one) in
        not_valid z (named s.now lost.one)
        (sym (bare z img lost.one (λ o l. t.behind.blank lost.one o lost.is_one l)) ∙ subst (λ (x : Geometry). disk_label x img lost.one ≡ Some (named s.now lost.one)) g y)

    -- no step is taken
    pulled_step : (w' : World Sector) → Heard z w (step_with s img work).stepped.answer (step_with s img work).image w'
        → (q : View Sector) × SawStep s.kind (step_with s img work).stepped.answer p q × StandsAt z F first q (at w' (step_with s img work).image (has (step_with s img work).stepped.state work))
    pulled_step w' h =
        subst (λ (m : Move). Heard z w m.stepped.answer m.image w' → (q : View Sector) × SawStep s.kind m.stepped.answer p q × StandsAt z F first q (at w' m.image (has m.stepped.state work))) (sym (step_rests z F first p s img work lost.rests))
        (λ i. (p, subst (λ (k : Kind). SawStep k (answer.Refused NotNow) p p) (sym lost.rests) refl, subst (λ (x : World Sector). StandsAt z F first p (at x img (has s work))) (sym i) (inr t))) h

    -- a disk that is exchanged in a slot that is called absent is told at once
    module _ (d : ℕ) (left : List ℕ) (x : Exchanged z s d img left) where
      d0 : Disks z (onto0 z F first p w img s work t lost d left x)
      d0 = onto_disks z s d img left x t.img0 t.tie.disks

      tie0 : Tie z F first p (new_disk z t.w0 d (onto0 z F first p w img s work t lost d left x)) (onto0 z F first p w img s work t lost d left x) (chain.has s)
      tie0 = swap_kept z F first p t.w0 t.img0 s d (onto0 z F first p w img s work t lost d left x) (onto_swap z s d img left x t.img0 t.tie.disks) t.tie

      not_away : (e : ℕ) → t.away e ≡ true → e ≢ d
      not_away e a q = true≢false (sym (subst (λ (y : ℕ). in_mask s.absent y ≡ true) (sym q) x.absent) ∙ lost.present e a)

      sector0 : (e u : ℕ) → e < slots z → u < z.sectors → t.away e ≡ false → sector z.sectors left e u ≡ sector z.sectors (onto0 z F first p w img s work t lost d left x) e u
      sector0 e u i l a = by (ℕ_discrete e d)
        where
          by : Dec (e ≡ d) → sector z.sectors left e u ≡ sector z.sectors (onto0 z F first p w img s work t lost d left x) e u
          by (yes q) = subst (λ (y : ℕ). sector z.sectors left y u ≡ sector z.sectors (onto0 z F first p w img s work t lost d left x) y u) (sym q) (sym (onto_here z s d img left x t.img0 t.tie.disks u l))
          by (no q) = x.others e u i l q ∙ t.behind.alike e u i l a ∙ sym (onto_other z s d img left x t.img0 t.tie.disks e u i l q)

      cur0 : (k : Place) → t.away (slot k) ≡ false → cur_of z left k ≡ cur_of z (onto0 z F first p w img s work t lost d left x) k
      cur0 k a = cur_alike z left (onto0 z F first p w img s work t lost d left x) x.disks d0 k (λ u i l. sector0 (slot k) u i l a)

      reads0 : (new_disk z w d left).cur ≡ cur_of z left
      reads0 = new_reads z w img d left x.disks t.behind.disks t.behind.reads x.others

      pulled_swap : StandsAt z F first p (at (new_disk z w d left) left (has s work))
      pulled_swap =
          inr
          (record {
            away = t.away;
            w0 = new_disk z t.w0 d (onto0 z F first p w img s work t lost d left x);
            img0 = (onto0 z F first p w img s work t lost d left x);
            behind = record {
              inner = t.behind.inner;
              lags = record {
                reads = λ k a. ap (λ (f : Image Sector). f k) reads0 ∙ cur0 k a ∙ sym (ap (λ (f : Image Sector). f k) tie0.reads);
                fewer = λ k v a m. ((λ q. m.0 q ∙ cur0 k a), λ n. t.behind.lags.fewer k v a (m.1 n));
                certain = λ k v a m.
                    t.behind.lags.certain k v a (m.1 (not_away (slot k) a)) ∙ sym (ap (λ (c : Bool). cond c (cur_of z left k) (w.cur k)) (ne_eqb (slot k) d (not_away (slot k) a)));
              };
              disks = x.disks;
              reads = reads0;
              alike = sector0;
              blank = λ e o a l.
                  copy_alike z left img x.disks t.behind.disks e o (t.behind.inner e a) l (x.others e o (t.behind.inner e a) (few_low z o l) (not_away e a)) ∙ t.behind.blank e o a l;
            };
            tie = tie0;
            waits = inr lost;
          })

    -- a read looks at none of them
    pulled_read : (b : ℕ) (buf : List ℕ) → read_answer s.now s.kind s.absent b (length img) (length buf) (length work) ≡ Ok tt → after_read (Ok tt) s b img work buf ≡ strip_bytes (list_of p (b / z.k) (b % z.k)) z.c
    unfolding laid_by read
    pulled_read b buf ok = over img ∙ same_shown ∙ sym (over t.img0) ∙ told_read
      where
        lengths : length img ≡ length t.img0
        lengths = same_length z img t.img0 t.behind.disks t.tie.disks

        ok0 : read_answer s.now s.kind s.absent b (length t.img0) (length buf) (length work) ≡ Ok tt
        ok0 = ap (λ (n : ℕ). read_answer s.now s.kind s.absent b n (length buf) (length work)) (sym lengths) ∙ ok

        told_read : after_read (Ok tt) s b t.img0 work buf ≡ strip_bytes (list_of p (b / z.k) (b % z.k)) z.c
        told_read = read_right z F first p t.w0 t.img0 s b work buf ok0 (inl t.tie)

        over : (y : List ℕ) → after_read (Ok tt) s b y work buf ≡ shown_of s.now s.absent 0 y work b
        over y = ap (λ (k : Kind). shown_of s.now s.absent (laid_by k s.cursor.stage s.marks.redo s.marks.stripe (b / s.now.k)) y work b) lost.rests

        ready : Reached z F first p t.w0 (idle (own_of z s s.now))
        ready = subst (Reached z F first p t.w0) (chain_laws.rests z s t.img0 lost.rests) t.tie.reached

        dark : (d : ℕ) → d < slots z → in_mask s.absent d ≡ true → Label.looked (size z) (label_of z s.now) d ≡ true → ⊥
        dark d i a q = rest_dark z F first p t.w0 (own_of z s s.now) ready d (beyond_below (slots z) s.absent d i ∙ a) q

        T : ℕ
        T = b / s.now.k

        I : ℕ
        I = b % s.now.k

        unseen : ℕ → Bool
        unseen = beyond (slots z) (in_mask s.absent)

        bad : ℕ → Bool
        bad = missing (size z) (no_sets (slots z)) (records z) (any_code z) (label_of z s.now) T

        looks : (d : ℕ) → bad d ≡ false → Label.looked (size z) (label_of z s.now) d ≡ true
        looks d e = and_left (Label.looked (size z) (label_of z s.now) d) _ (sees (Label.believed (size z) (label_of z s.now) d T) e)
          where
            sees : (x : Bool) → not x ≡ false → x ≡ true
            sees true e = refl
            sees false e = sym e

        not_lost : (d : ℕ) → bad d ≡ false → t.away d ≡ false
        not_lost d e = by (t.away d) refl
          where
            by : (c : Bool) → t.away d ≡ c → c ≡ false
            by true q = absurd (true≢false (sym (looks d e) ∙ look_is z s.now d ∙ lost.out d q))
            by false q = refl

        seen_same : (d j : ℕ) → bad d ≡ false → seen_of z unseen img (strip d T j) ≡ seen_of z unseen t.img0 (strip d T j)
        seen_same d j e = seen_alike z unseen img t.img0 (strip d T j) (cur_alike z img t.img0 t.behind.disks t.tie.disks (strip d T j) (λ u i l. t.behind.alike d u i l (not_lost d e)))

        shows : Shows s.now s.absent img work b buf
        shows = read_done s.now s.kind s.absent b img work buf ok

        same_shown : shown_of s.now s.absent 0 img work b ≡ shown_of s.now s.absent 0 t.img0 work b
        same_shown =
            shown_read z img t.behind.disks s.now mine s.absent b work buf shows dark
            ∙ ap (λ (x : ℕ → Sector). strip_bytes x z.c)
            (fun_ext (λ j. blocks_blind z T bad (λ d i. seen_of z unseen img (strip d T i)) I j (omega (arith, in_k z img t.behind.disks s.now mine s.absent b work buf shows)) (λ d i. seen_of z unseen t.img0 (strip d T i)) (λ d h e. seen_same d j e)))
            ∙ sym (shown_read z t.img0 t.tie.disks s.now mine s.absent b work buf (read_done s.now s.kind s.absent b t.img0 work buf ok0) dark)

  -- what needs a ready shelf is refused
  late_refused : (p : View Sector) (w : World Sector) (img : List ℕ) (s : State) (work : List ℕ) → Late z F first p w img (has s work) → is_idle s.kind ≡ true → ready_of s.now s.kind s.absent img ≡ Ok tt → ⊥
  late_refused p w img s work t e r = ⊎_elim (λ (up : Starts z t.away s). late_busy z F first p w img s work t up e) (λ (lost : Pulled z t.away s). not_ready p w img s work t lost r) t.waits

  -- ---- EVERY CALL: those that are neither start-ups, steps nor cuts are refused meanwhile, and change nothing

  late_call : {a b : Time} (x : HostCalls z a b) → NotAnew x → Allowed z F (sets_call x) → (p : View Sector) → LateAt z F first p a → (q : View Sector) × Saw x p q × StandsAt z F first q b
  late_call (creates {w} {img} {h} s work) e ok p t =
      (p, refl, subst (λ (o : Outcome). StandsAt z F first p (at w img (held h (begun o (created z.k z.m z.c z.sectors z.number)) work))) (sym (create_late z.k z.m z.c z.sectors img (length work) e)) (inr t))
  late_call (creates_late {w} {img} {h} s k m c S number work e) u ok p t =
      (p, refl, subst (λ (o : Outcome). StandsAt z F first p (at w img (held h (begun o (created k m c S number)) work))) (sym (create_late k m c S img (length work) e)) (inr t))
  late_call (starts {w} {img} {h} s g absent work sits) u ok p t = (p, refl, late_start z F first p w img h t s absent work g sits ok)
  late_call (takes_out {w} {img} {s} {work} d) u ok p t = (p, refl, by (take_answer s.now s.kind s.absent img d (length work)) refl)
    where
      by : (o : Outcome) → take_answer s.now s.kind s.absent img d (length work) ≡ o → StandsAt z F first p (at w img (held (has s work) (begun o (took_out s d)) work))
      by (Ok tt) e = absurd (late_refused p w img s work t (take_done s.now s.kind s.absent img d (length work) e).1.at_rest (first_done (ready_of s.now s.kind s.absent img) _ e).0)
      by (Err why) e = inr t
  late_call (begins {w} {img} {s} {work} d) u ok p t = (p, refl, by (begin_answer s.now s.kind s.absent img d (length work)) refl)
    where
      by : (o : Outcome) → begin_answer s.now s.kind s.absent img d (length work) ≡ o → StandsAt z F first p (at w img (held (has s work) (begun o (began s d img)) work))
      by (Ok tt) e = absurd (late_refused p w img s work t (begin_goes s.now s.kind s.absent img d (length work) e).at_rest (first_done (ready_of s.now s.kind s.absent img) _ e).0)
      by (Err why) e = inr t
  late_call (ons {w} {img} {s} {work} b) u ok p t = (p, refl, by (on_answer s.now s.kind s.absent img (length work)) refl)
    where
      by : (o : Outcome) → on_answer s.now s.kind s.absent img (length work) ≡ o → StandsAt z F first p (at w img (held (has s work) (begun o (went_on s b img)) work))
      by (Ok tt) e = absurd (late_refused p w img s work t (on_rests s.now s.kind s.absent img (length work) e) (first_done (ready_of s.now s.kind s.absent img) _ e).0)
      by (Err why) e = inr t
  late_call (writes {w} {img} {s} {work} b given s' then x y e) u ok p t = by (write_answer s.now s.kind s.absent s.count img b (length given) (length work)) refl e
    where
      by : (o : Outcome) → write_answer s.now s.kind s.absent s.count img b (length given) (length work) ≡ o → AfterWrite o s b given img work s' then
          → (q : View Sector) × SawAsked o (b / z.k) (b % z.k) (sectors_of z.c given) p q × StandsAt z F first q (at w img (has s' then))
      by (Ok tt) i a = absurd (late_refused p w img s work t (rest_of z F first p w img s work b given s' then x y i) (first_done (ready_of s.now s.kind s.absent img) _ i).0)
      by (Err why) i a = (p, refl, subst (λ (v : State). StandsAt z F first p (at w img (has v then))) (sym a.0) (subst (λ (v : List ℕ). StandsAt z F first p (at w img (has s v))) (sym a.1) (inr t)))
  late_call (repairs {w} {img} {s} {work} i b then r) u ok p t = (p, refl, by (may_repair s.now s.kind s.absent s.count i img) refl)
    where
      by : (o : Outcome) → may_repair s.now s.kind s.absent s.count i img ≡ o → StandsAt z F first p (at w img (has (state_of s b) then))
      by (Ok tt) e = absurd (late_refused p w img s work t (may_whole s img i e).at_rest (first_done (ready_of s.now s.kind s.absent img) _ e).0)
      by (Err why) e =
          let y = repair_refused s i img work b then r why (asked_refused s i img work b then r why e) in
          subst (λ (v : State). StandsAt z F first p (at w img (has v then))) (sym y.0) (subst (λ (v : List ℕ). StandsAt z F first p (at w img (has s v))) (sym y.1) (inr t))
  late_call (steps {w} {w'} {img} {s} {work} heard) u ok p t = ⊎_elim (λ (up : Starts z t.away s). late_step z F first p w img s work t up w' heard) (λ (lost : Pulled z t.away s). pulled_step p w img s work t lost w' heard) t.waits
  late_call (cut {w} {img} {h} left d x) u ok p t = (p, refl, inr (late_cut z F first p w img h t left d x))
  late_call (dies {w} {img} {h}) u ok p t = (p, refl, inr (record { away = t.away; w0 = t.w0; img0 = t.img0; behind = t.behind; tie = loose_tie z F first p t.w0 t.img0 (hand_of z h) t.tie; waits = tt }))
  late_call (swaps {w} {img} {s} {work} d left x) u ok p t =
      (p, refl, ⊎_elim (λ (up : Starts z t.away s). absurd (late_busy z F first p w img s work t up (ap is_idle x.at_rest))) (λ (lost : Pulled z t.away s). pulled_swap p w img s work t lost d left x) t.waits)

  -- another disk: one slot more is behind
  one_more : (w : World Sector) (img : List ℕ) (d : ℕ) (left : List ℕ) → Blanked z d img left → (A : ℕ → Bool) (w0 : World Sector) (img0 : List ℕ) → Behind z A w img w0 img0 → Behind z (also d A) (new_disk z w d left) left w0 img0
  one_more w img d left x A w0 img0 b = behind
    where
      not_d : (e : ℕ) → also d A e ≡ false → (e ≢ d) × (A e ≡ false)
      not_d e q = by (eqb e d) refl q
        where
          by : (c : Bool) → eqb e d ≡ c → (c || A e) ≡ false → (e ≢ d) × (A e ≡ false)
          by true u r = absurd (true≢false r)
          by false u r = (eqb-false e d u, r)

      reads : (new_disk z w d left).cur ≡ cur_of z left
      reads = new_reads z w img d left x.disks b.disks b.reads x.others

      other_cur : (k : Place) → slot k ≢ d → (new_disk z w d left).cur k ≡ w.cur k
      other_cur k n = ap (λ (c : Bool). cond c (cur_of z left k) (w.cur k)) (ne_eqb (slot k) d n)

      behind : Behind z (also d A) (new_disk z w d left) left w0 img0
      behind =
          record {
            inner = λ e q. ⊎_elim (λ (y : e ≡ d). subst (λ (v : ℕ). v < slots z) (sym y) x.there) (λ (y : (e ≢ d) × (A e ≡ true)). b.inner e y.1) (in_also d A e q);
            lags = record {
              reads = λ k q. let y = not_d (slot k) q in other_cur k y.0 ∙ b.lags.reads k y.1;
              fewer = λ k v q m. let y = not_d (slot k) q in b.lags.fewer k v y.1 (m.1 y.0);
              certain = λ k v q m.
                  ⊎_elim (λ (y : slot k ≡ d). m.0 y ∙ sym (ap (λ (c : Bool). cond c (cur_of z left k) (w.cur k)) (eq-eqb (slot k) d y)))
                  (λ (y : (slot k ≢ d) × (A (slot k) ≡ true)). b.lags.certain k v y.1 (m.1 y.0) ∙ sym (other_cur k y.0)) (in_also d A (slot k) q);
            };
            disks = x.disks;
            reads = reads;
            alike = λ e u i l q. let y = not_d e q in x.others e u i l y.0 ∙ b.alike e u i l y.1;
            blank = λ e o q l.
                ⊎_elim (λ (y : e ≡ d). subst (λ (v : ℕ). copy_of (geometry z) left v o ≡ None) (sym y) (x.blank o (omega (arith, l))))
                (λ (y : (e ≢ d) × (A e ≡ true)). copy_alike z left img x.disks b.disks e o (b.inner e y.1) l (x.others e o (b.inner e y.1) (few_low z o l) y.0) ∙ b.blank e o y.1 l) (in_also d A e q);
          }

  -- nothing is behind
  not_behind : (w : World Sector) (img : List ℕ) (w0 : World Sector) → Lags nowhere w w0 → Disks z img → w0.cur ≡ cur_of z img → Behind z nowhere w img w0 img
  not_behind w img w0 h d r =
      record {
        inner = λ e q. absurd (false≢true q);
        lags = h;
        disks = d;
        reads = fun_ext (λ k. h.reads k refl) ∙ r;
        alike = λ e u i l q. refl;
        blank = λ e o q l. absurd (false≢true q);
      }

  pulled_more : (s : State) (d : ℕ) (A : ℕ → Bool) → s.kind ≡ Idle → looked (geometry z) s.now d ≡ false → in_mask s.absent d ≡ false → ((e : ℕ) → A e ≡ true → looked (geometry z) s.now e ≡ false) → ((e : ℕ) → A e ≡ true → in_mask s.absent e ≡ false)
      → Pulled z (also d A) s
  pulled_more s d A k l n out present =
      record {
        rests = k;
        one = d;
        is_one = ap (λ (c : Bool). c || A d) (eq-eqb d d refl);
        out = λ e q. ⊎_elim (λ (y : e ≡ d). subst (λ (v : ℕ). looked (geometry z) s.now v ≡ false) (sym y) l) (λ (y : (e ≢ d) × (A e ≡ true)). out e y.1) (in_also d A e q);
        present = λ e q. ⊎_elim (λ (y : e ≡ d). subst (λ (v : ℕ). in_mask s.absent v ≡ false) (sym y) n) (λ (y : (e ≢ d) × (A e ≡ true)). present e y.1) (in_also d A e q);
      }

  -- the image is one of this shelf
  stands_disks : (p : View Sector) (w : World Sector) (img : List ℕ) (h : Held) → StandsAt z F first p (at w img h) → Disks z img
  stands_disks p w img h (inl t) = (loose z F first p t.0 img h t.2).disks
  stands_disks p w img h (inr t) = t.behind.disks

  -- a world that may hold less after a cut
  stands_less : (p : View Sector) (w v : World Sector) (img : List ℕ) (h : Held) → Lags nowhere w v → StandsAt z F first p (at v img h) → StandsAt z F first p (at w img h)
  stands_less p w v img h l (inl t) = inl (t.0, lags_more nowhere w v t.0 l t.1, t.2)
  stands_less p w v img h l (inr t) =
      inr
      (record {
        away = t.away;
        w0 = t.w0;
        img0 = t.img0;
        behind = record {
          inner = t.behind.inner;
          lags = lags_more t.away w v t.w0 l t.behind.lags;
          disks = t.behind.disks;
          reads = fun_ext (λ k. l.reads k refl) ∙ t.behind.reads;
          alike = t.behind.alike;
          blank = t.behind.blank;
        };
        tie = t.tie;
        waits = t.waits;
      })

  -- an exchange while power is off is one before the cut
  module _ (w : World Sector) (img : List ℕ) (disks : Disks z img) (s : State) (d : ℕ) (left then : List ℕ) (y : Disks z left) (possible : Possible w (cur_of z left)) (x : Exchanged z s d left then) where
    then_other : (k : Place) → slot k ≢ d → cur_of z then k ≡ cur_of z left k
    then_other k n = cur_alike z then left x.disks y k (λ u i l. x.others (slot k) u i l n)

    then_here : (k : Place) → slot k ≡ d → cur_of z then k ≡ cur_of z (first_left z F first w img disks s d left then y possible x) k
    then_here k q =
        cur_alike z then (first_left z F first w img disks s d left then y possible x) x.disks (onto_disks z s d left then x img disks) k (λ u i l. subst (λ (e : ℕ). sector z.sectors then e u ≡ sector z.sectors (first_left z F first w img disks s d left then y possible x) e u) (sym q) (sym (onto_here z s d left then x img disks u l)))

    then_possible : Possible (new_disk z w d (first_left z F first w img disks s d left then y possible x)) (cur_of z then)
    unfolding Possible
    then_possible k = (then_here k, λ n. subst (w.may k) (sym (then_other k n)) (possible k))

    then_less : Lags nowhere (new_disk z (after (cur_of z left)) d then) (after (cur_of z then))
    unfolding after
    then_less =
        record {
          reads = λ k a. ap (λ (f : Image Sector). f k) (new_reads z (after (cur_of z left)) left d then x.disks y refl x.others);
          fewer = λ k v a m. ⊎_elim (λ (q : slot k ≡ d). m.0 q) (λ (n : slot k ≢ d). m.1 n ∙ sym (then_other k n)) (same_nat (slot k) d);
          certain = λ k v a m. absurd (false≢true a);
        }

  -- a call
  calls_bound : {a b : Time} (x : HostCalls z a b) → NotAnew x → Allowed z F (sets_call x) → (p : View Sector) → StandsAt z F first p a → (q : View Sector) × Saw x p q × StandsAt z F first q b
  calls_bound x n ok p (inl t) =
      let y = retell z x t.0 t.1 in
      let r = call_bound z F first y.call (subst (Allowed z F) (sym y.same_sets) ok) p t.2 in
      (r.0, y.saw p r.0 r.1, inl (y.world, y.lags, r.2))
  calls_bound x n ok p (inr t) = late_call x n ok p t

  -- A CALL, OR AN EXCHANGE, KEEPS WHAT IS TOLD, and the view goes on as it may
  pub exchange_bound : {a b : Time} (x : Exchanges z a b) → Allowed z F (sets_exchange x) → (p : View Sector) → StandsAt z F first p a → (q : View Sector) × SawExchange x p q × StandsAt z F first q b
  exchange_bound (calls x n) ok p t = calls_bound x n ok p t
  exchange_bound (swapped_off {w} {img} {s} {work} d left then y u x) ok p t =
      let i = stands_disks p w img (has s work) t in
      let a = calls_bound (swaps {w = w} {img = img} {s = s} {work = work} d ((first_left z F first) w img i s d left then y u x) (onto_swap z s d left then x img i)) tt (λ e m. absurd (Memᴰ.not-nil m)) p t in
      let b =
      calls_bound (cut {w = new_disk z w d ((first_left z F first) w img i s d left then y u x)} {img = (first_left z F first) w img i s d left then y u x} {h = has s work} then x.disks (then_possible w img i s d left then y u x)) tt (λ e m. absurd (Memᴰ.not-nil m)) a.0 a.2 in
      (b.0, b.1 ∙ a.1, stands_less b.0 (new_disk z (after (cur_of z left)) d then) (after (cur_of z then)) then none (then_less w img i s d left then y u x) b.2)
  exchange_bound (replaced {w} {img} d left x) ok p (inl t) =
      let tie : Tie z F first p t.0 img chain.none = t.2 in (
        p,
        refl,
        inr
            (record { away = also d nowhere; w0 = t.0; img0 = img; behind = one_more w img d left x nowhere t.0 img (not_behind w img t.0 t.1 tie.disks tie.reads); tie = tie; waits = tt }),
      )
  exchange_bound (replaced {w} {img} d left x) ok p (inr t) =
      (p, refl, inr (record { away = also d t.away; w0 = t.w0; img0 = t.img0; behind = one_more w img d left x t.away t.w0 t.img0 t.behind; tie = t.tie; waits = tt }))
  exchange_bound (pulled {w} {img} {s} {work} d left e l n x) ok p (inl t) = (p, refl, by t.2)
    where
      by : Bound z F first p t.0 img (has s work) → StandsAt z F first p (at (new_disk z w d left) left (has s work))
      by (inl tie) =
          inr
          (record {
            away = also d nowhere;
            w0 = t.0;
            img0 = img;
            behind = one_more w img d left x nowhere t.0 img (not_behind w img t.0 t.1 tie.disks tie.reads);
            tie = tie;
            waits = inr (pulled_more s d nowhere e l n (λ y q. absurd (false≢true q)) (λ y q. absurd (false≢true q)));
          })
      by (inr b) = absurd (not_rest z F first p t.0 img s work b (ap is_idle e))
  exchange_bound (pulled {w} {img} {s} {work} d left e l n x) ok p (inr t) = (
    p,
    refl,
    inr
        (record {
          away = also d t.away;
          w0 = t.w0;
          img0 = t.img0;
          behind = one_more w img d left x t.away t.w0 t.img0 t.behind;
          tie = t.tie;
          waits = inr (⊎_elim (λ (up : Starts z t.away s). absurd (late_busy z F first p w img s work t up (ap is_idle e))) (λ (lost : Pulled z t.away s). pulled_more s d t.away e l n lost.out lost.present) t.waits);
        }),
  )

  -- a read shows the view's entry
  stands_reads : (t : Time) (p : View Sector) → StandsAt z F first p t → ReadsAs z t p
  stands_reads (at w img none) p t = tt
  stands_reads (at w img (has s work)) p (inl t) = λ b buf ok. read_right z F first p t.0 img s b work buf ok t.2
  stands_reads (at w img (has s work)) p (inr t) =
      λ b buf ok. ⊎_elim (λ (up : Starts z t.away s). absurd (late_unread z F first p w img s work t up b buf ok)) (λ (lost : Pulled z t.away s). pulled_read p w img s work t lost b buf ok) t.waits

  all_served : {a b : Time} (c : ExchangeChain z a b) → Allowed z F (all_sets c) → (p : View Sector) → StandsAt z F first p a → (q : View Sector) × AllServed c p q × StandsAt z F first q b
  all_served {a} stays ok p t = (p, (refl, stands_reads a p t), t)
  all_served {b = b} (goes_on c x) ok p t =
      let y = all_served c (λ s m. ok s (Memᴰ.append_right (sets_exchange x) m)) p t in
      let r = exchange_bound x (λ s m. ok s (Memᴰ.append_left (all_sets c) m)) y.0 y.2 in
      (r.0, (y.0, y.1, r.1, stands_reads b r.0 r.2), r.2)

-- ---- A FAMILY FOR EACH CALL, where any two of the sets since the last rest leave a slot out

module _ (z : Shelf) (first : Machine Sector) where
  -- at rest another family can be chosen, disks exchanged or not: any that has the set which the label calls out
  stands_for : (F F' : Family z) (p : View Sector) (w : World Sector) (img : List ℕ) (s : State) (work : List ℕ) → is_idle s.kind ≡ true → Allowed z F' (in_mask s.now.out ∷ [])
      → StandsAt z F first p (at w img (has s work)) → StandsAt z F' first p (at w img (has s work))
  stands_for F F' p w img s work e ok (inl t) = inl (t.0, t.1, bound_for z first F F' p t.0 img s work e ok t.2)
  stands_for F F' p w img s work e ok (inr t) = inr (record { away = t.away; w0 = t.w0; img0 = t.img0; behind = t.behind; tie = tie_for z first F F' p t.w0 t.img0 s e ok t.tie; waits = t.waits })

  -- the views along the chain, and what is told, for a family that has the sets since the last rest; k are those before the chain, and P is what is known of the view with which it begins
  then_served : (F : Family z) {a b : Time} (r : ExchangeChain z a b) (k : List (ℕ → Bool)) → AnyTwoThen k r → Allowed z F (since_then k r) → (P : View Sector → Type 0)
      → ((G : Family z) → Allowed z G k → (p : View Sector) × P p × StandsAt z G first p a) → (p : View Sector) × (q : View Sector) × P p × AllServed r p q × StandsAt z F first q b
  then_served F {a} stays k two ok P from_here = let y = from_here F ok in (y.0, y.0, y.1, (refl, stands_reads z F first a y.0 y.2), y.2)
  then_served F {b = b} (goes_on c x) k two ok P from_here =
      let g = before z first (λ G q t. StandsAt z G first q t) stands_for b (sets_exchange x ++ since_then k c) two.1 F ok in
      let G = g.0 in
      let y = then_served G c k two.0 (λ s m. g.1 s (Memᴰ.append_right (sets_exchange x) m)) P from_here in
      let r = exchange_bound z G first x (λ s m. g.1 s (Memᴰ.append_left (since_then k c) m)) y.1 y.4 in
      (y.0, r.0, y.2, (y.1, y.3, r.1, stands_reads z G first b r.0 r.2), g.2 r.0 r.2)

  -- ---- IT IS LESS THAN TO ASK IT OF ALL SETS OF THE CHAIN: at rest the label calls out a part of one of them, or nothing

  pub stands_out : (F : Family z) (p : View Sector) (b : Time) → StandsAt z F first p b → RestsIn z F b
  stands_out F p (at w img none) t = tt
  stands_out F p (at w img (has s work)) (inl t) = rests_out z first F p (at t.0 img (has s work)) t.2
  stands_out F p (at w img (has s work)) (inr t) = λ e. (rests_in z first F p t.w0 t.img0 s e t.tie).1

  module _ (l : List (ℕ → Bool)) (two : AnyTwo (slots z) l) where
    then_in : {a b : Time} (r : ExchangeChain z a b) (k : List (ℕ → Bool)) → Shared (parts z first l two).few k → ((s : ℕ → Bool) → Memᴰ s (all_sets r) → Memᴰ s l) → (p : View Sector) → StandsAt z (parts_few z l two) first p a
        → Shared (parts z first l two).few (since_then k r)
    then_in stays k h of p t = h
    then_in {b = b} (goes_on c x) k h of p t =
        let y = all_served z (parts_few z l two) first (goes_on c x) (λ s m. in_parts z l two s (of s m)) p t in
        settled_in z first l two b (sets_exchange x ++ since_then k c) (stands_out (parts_few z l two) y.0 b y.2) (with_call z first l two (sets_exchange x) (all_sets c) (since_then k c) of (then_in c k h (λ s m. of s (Memᴰ.append_right (sets_exchange x) m)) p t))

    pairs_then : {a b : Time} (r : ExchangeChain z a b) (k : List (ℕ → Bool)) → Shared (parts z first l two).few k → ((s : ℕ → Bool) → Memᴰ s (all_sets r) → Memᴰ s l) → (p : View Sector) → StandsAt z (parts_few z l two) first p a
        → AnyTwoThen k r
    pairs_then stays k h of p t = tt
    pairs_then (goes_on c x) k h of p t =
        let of' : (s : ℕ → Bool) → Memᴰ s (all_sets c) → Memᴰ s l = λ s m. of s (Memᴰ.append_right (sets_exchange x) m) in
        let all = with_call z first l two (sets_exchange x) (all_sets c) (since_then k c) of (then_in c k h of' p t) in
        (pairs_then c k h of' p t, λ a b i j. (parts z first l two).meet a b (all a i) (all b j))

-- ---- FROM ZEROS ON: any chain of calls, and then any chain in which disks are exchanged while no program runs too

-- the same world
lags_self : (t : Time) → (w0 : World Sector) × LagsAt t w0 × (told t w0 ≡ t)
lags_self (at w img h) = (w, record { reads = λ k q. refl; fewer = λ k v q m. m; certain = λ k v q m. absurd (false≢true q) }, refl)

module _ (z : Shelf) (img : List ℕ) (disks : Disks z img) (blank : all_zero img ≡ true) where
  -- no disk is exchanged yet
  stands_first : (F : Family z) (p : View Sector) (a : Time) → BoundAt z F (fresh z img disks blank) p a → StandsAt z F (fresh z img disks blank) p a
  stands_first F p a t = let s = lags_self a in inl (s.0, s.1, subst (λ (t : Time). BoundAt z F (fresh z img disks blank) p t) (sym s.2) t)

  -- the views, and what is told (ExchangeHolds says what else follows from it)
  pub exchanged_stands : (F : Family z) {a b : Time} (c : HostChain z (at (after (cur_of z img)) img none) a) (r : ExchangeChain z a b) → Allowed z F (sets c) → Allowed z F (all_sets r)
      → (p : View Sector) × (q : View Sector) × Served c (sure blocks) p × AllServed r p q × StandsAt z F (fresh z img disks blank) q b
  exchanged_stands F {a} c r before then =
      let y = served_bound z img disks blank F c before in
      let e = all_served z F (fresh z img disks blank) r then y.0 (stands_first F y.0 a y.2) in
      (y.0, e.0, y.1, e.1, e.2)

  -- FOR EVERY SHELF, where any two of the sets that are left out from one moment of rest to the next leave a slot out in common: the views, and what is told, for a family of these sets
  pub any_exchanged_stands : {a b : Time} (c : HostChain z (at (after (cur_of z img)) img none) a) (r : ExchangeChain z a b) → AnyTwoSince c → AnyTwoThen (since c) r
      → (F : Family z) × (p : View Sector) × (q : View Sector) × Served c (sure blocks) p × AllServed r p q × StandsAt z F (fresh z img disks blank) q b
  any_exchanged_stands {a} c stays two then =
      let y = bound_since z img disks blank c two in
      let t = stands_first y.0 y.1 a y.3 in
      (y.0, y.1, y.1, y.2, (refl, stands_reads z y.0 (fresh z img disks blank) a y.1 t), t)
  any_exchanged_stands {a} {b} c (goes_on r x) two then =
      let l = sets_exchange x ++ since_then (since c) r in
      let F = parts_few z l then.1 in
      let y = then_served z (fresh z img disks blank) F r (since c) then.0 (λ s m. in_parts z l then.1 s (Memᴰ.append_right (sets_exchange x) m)) (Served c (sure blocks))
      (λ G ok. let h = bound_for_since z img disks blank G c two ok in (h.0, h.1, stands_first G h.0 a h.2)) in
      let e = exchange_bound z F (fresh z img disks blank) x (λ s m. in_parts z l then.1 s (Memᴰ.append_left (since_then (since c) r) m)) y.1 y.4 in
      (F, y.0, e.0, y.2, (y.1, y.3, e.1, stands_reads z F (fresh z img disks blank) b e.0 e.2), e.2)

  pub any_exchanged_reads_right : {a b : Time} (c : HostChain z (at (after (cur_of z img)) img none) a) (r : ExchangeChain z a b) → AnyTwoSince c → AnyTwoThen (since c) r
      → (p : View Sector) × (q : View Sector) × Served c (sure blocks) p × AllServed r p q
  any_exchanged_reads_right c r two then = let y = any_exchanged_stands c r two then in (y.1, y.2, y.3, y.4)

  -- it is less than to ask it of all sets of the two chains
  pub exchanged_pairs : {a b : Time} (c : HostChain z (at (after (cur_of z img)) img none) a) (r : ExchangeChain z a b) → AnyTwo (slots z) (all_sets r ++ sets c) → AnyTwoSince c × AnyTwoThen (since c) r
  exchanged_pairs {a} c r two =
      let l = all_sets r ++ sets c in
      let F = parts_few z l two in
      let m0 = fresh z img disks blank in
      let of : (s : ℕ → Bool) → Memᴰ s (sets c) → Memᴰ s l = λ s m. Memᴰ.append_right (all_sets r) m in
      let y = served_bound z img disks blank F c (λ s m. in_parts z l two s (of s m)) in (
        pairs_since z m0 l two c of (sure blocks) (fresh_tie z img disks blank F),
        pairs_then z m0 l two r (since c) (since_in z m0 l two c of (sure blocks) (fresh_tie z img disks blank F)) (λ s m. Memᴰ.append_left (sets c) m) y.0 (stands_first F y.0 a y.2),
      )

  -- FOR k > m
  pub exchanged_reads_right : z.m < z.k → {a b : Time} (c : HostChain z (at (after (cur_of z img)) img none) a) (r : ExchangeChain z a b) → (p : View Sector) × (q : View Sector) × Served c (sure blocks) p × AllServed r p q
  exchanged_reads_right more c r = let y = exchanged_stands (every_few z more) c r (λ s m e. e) (λ s m e. e) in (y.0, y.1, y.2, y.3)
