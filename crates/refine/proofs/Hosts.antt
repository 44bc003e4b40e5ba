-- CHAINS OF CALLS WITH WRITES: create, start, take out, begin, go on with a rebuild, write, repair and step, with power cuts, deaths
-- of the caller and exchanged disks in between, and the host's view beside them. The caller hands back the state and the work area that it was handed last.
-- What a call does to the view is said in the words of its answer (`Saw`). A repair is always refused, since no sector changes by itself.
-- Assumes nothing.
use Rattle.std.specs.Prelude.{◌≡◌, refl, ◌⊎◌, Bool, false, ℕ, ◌<◌, ◌/◌, ◌%◌, length, Ok, Err}
use Rattle.std.proofs.Common.{sym, ◌∙◌, inr}
use Rattle.std.proofs.Math.Path.{ap, subst}
use Rattle.std.proofs.Math.Logic.{⊎_elim, inl}
use Rattle.std.proofs.Math.Bool.{true}
use Rattle.std.proofs.lemmas.Bool.{false≢true}
use mathlib.Core.List.Memᴰ
use mathlib.Core.List.{List, [], ◌∷◌}
use Rattle.disk.specs.Mask.{in_mask}
use Rattle.disk.specs.declared.geometry.Geometry.{Geometry}
use Rattle.disk.specs.declared.refusal.Refusal.{Refusal}
use Rattle.disk.specs.declared.refusal.Refusal.TheVariants.{BadBuffer}
use Rattle.disk.specs.Refusal.{Outcome}
use Rattle.label.proofs.Counts.{same_says}
use Rattle.protocol.specs.World.{strip, Image, Action, put, flush, World, Possible, Sane, Always}
use Rattle.protocol.specs.Log.{Write}
use Rattle.protocol.specs.Label as Label
use Rattle.protocol.specs.Host.{Host, one_block, replace}
use Rattle.protocol.specs.Program.{Memory, idle, doing, labelling, Reply, accepted, refused, did, safe, done, block, found, step, write, begin}
use Rattle.protocol.specs.Program as program
use Rattle.protocol.specs.Machine.{Machine, effect, View, sure, open_write, kept_write, Saved, Ended, Answered}
use Rattle.protocol.specs.Even.{program_by}
use Rattle.codecs.specs.Sector.{Sector, Bytes}
use Rattle.codecs.specs.Shelf.{Shelf, slots, size}
use Rattle.codecs.specs.Labels.{fields_of, no_label, ours, label_of}
use Rattle.shards.proofs.Even.{any_code}
use Rattle.shelf.specs.Act.{Move, refuses}
use Rattle.shelf.specs.Step.{step_move, finished}
use Rattle.stages.specs.declared.state.State.{State}
use Rattle.stages.specs.declared.state.Kind.{Kind}
use Rattle.stages.specs.declared.state.Kind.TheVariants.{Nothing, Idle, Creating, Starting, Labelling, Writing, Beginning, Filling}
use Rattle.stages.specs.Told.{Answer}
use Rattle.stages.specs.Told as answer
use Rattle.requests.specs.Begun.{work_bytes, begun}
use Rattle.requests.specs.Create.{create_of}
use Rattle.requests.specs.Start.{start_of}
use Rattle.requests.specs.TakeOut.{take_answer, took_out, take_out_of}
use Rattle.requests.specs.Step.{other_work, step_with, step_short, step_goes}
use Rattle.requests.specs.Accepted.{take_done}
use Rattle.requests.specs.Ready.{is_idle}
use Rattle.requests.specs.Begun.{Begun}
use Rattle.rebuilds.specs.Begin.{begin_answer, began, begin_of}
use Rattle.rebuilds.specs.On.{on_answer, went_on, on_of}
use Rattle.blocks.specs.Write.{Written, AfterWrite, write_done}
use Rattle.blocks.specs.Repair.{may_repair, Repairs, repair_refused}
use Rattle.refine.specs.Given.{shelf_geometry}
use Rattle.refine.specs.Family.{Family, sound_in}
use Rattle.refine.specs.Disks.{Disks, cur_of}
use Rattle.refine.specs.Rounds.{beyond_below}
use Rattle.refine.specs.ToDo.{to_do}
use Rattle.refine.specs.Steps.{Fair}
use Rattle.refine.specs.Tied.{own_of, write_memory, memory_by, memory_with, memory_of, plain, Same, program_of, Tied}
use Rattle.refine.specs.WriteList.{Writes}
use Rattle.refine.specs.Writes.{OfWrite, TiedWrite}
use Rattle.refine.proofs.Writes.{write_tied}
use Rattle.refine.specs.Relabels.{TiedLabel}
use Rattle.refine.proofs.Relabels.{label_tied}
use Rattle.refine.specs.BeginBegins.{begin_goes, begun_ours, fewer_absent}
use Rattle.refine.proofs.BeginBegins.{begin_asked, begin_begins}
use Rattle.refine.specs.Named.{Named, Names, left_in, begin_names, step_names, names_log}
use Rattle.refine.specs.Sees.{sectors_of}
use Rattle.refine.specs.WriteAsked.{W}
use Rattle.refine.proofs.WriteAsked.{write_goes, write_accepted}
use Rattle.refine.specs.Mends.{may_whole, asked_refused}
use Rattle.refine.proofs.Mends.{mend_refused}
use Rattle.refine.specs.Chain.{Heard, outs, handed, Allowed, Reached, Tie, off, accepted_none, idle_is}
use Rattle.refine.proofs.Chain.{rests, asks_to, create_kept, late_kept, start_any, out_kept, cut_kept, goes_to, refused_kept, step_is, step_some, step_leaves, heard_is}
use Rattle.refine.specs.Chain as chain
use Rattle.refine.specs.OnBegins.{on_rests, on_sized}
use Rattle.refine.specs.Refills.{Refilling, saw_label}
use Rattle.refine.proofs.Refills.{on_kept, fill_kept}
use Rattle.refine.specs.Swaps.{Exchanged, new_disk}
use Rattle.refine.proofs.Swaps.{swap_kept}
use Rattle.refine.specs.Hosts.{Held, Time, held, HostCalls, HostChain, sets_call, sets, Acknowledged, SawWrite, SawStart, SawStep, SawAsked, Saw, Seen, NotSafe, Laying, Readying, Going, Busy, Bound, BoundAt, rest_dark, asked, rest_of, none, has, creates, starts, creates_late, takes_out, begins, ons, writes, repairs, steps, cut, dies, swaps, stays, goes_on}
use Rattle.requests.specs.Begun.{outcome_of, state_of}

module _ (z : Shelf) (F : Family z) (first : Machine Sector) where
  -- the state is lost
  pub loose_tie : (p : View Sector) (w : World Sector) (img : List ℕ) (h : chain.Hand) → Tie z F first p w img h → Tie z F first p w img chain.none
  loose_tie p w img h t = record { disks = t.disks; reads = t.reads; reached = off z F first p t.reached; named = t.named; names = tt; order = tt }

  loose_write : (p : View Sector) (w : World Sector) (img : List ℕ) (s : State) (work : List ℕ) → (Laying z F first) p w img s work → Tie z F first p w img chain.none
  loose_write p w img s work t = record { disks = t.disks; reads = t.reads; reached = off z F first p t.reached; named = t.named; names = tt; order = tt }

  loose_begin : (p : View Sector) (w : World Sector) (img : List ℕ) (s : State) (work : List ℕ) → (Readying z F first) p w img s work → Tie z F first p w img chain.none
  loose_begin p w img s work t = record { disks = t.disks; reads = t.reads; reached = off z F first p t.reached; named = t.named; names = tt; order = tt }

  loose_on : (p : View Sector) (w : World Sector) (img : List ℕ) (s : State) (work : List ℕ) → (Going z F first) p w img s work → Tie z F first p w img chain.none
  loose_on p w img s work g = let t = g.refills in record { disks = t.disks; reads = t.reads; reached = off z F first p t.reached; named = t.named; names = tt; order = tt }

  pub loose : (p : View Sector) (w : World Sector) (img : List ℕ) (h : Held) → (Bound z F first) p w img h → Tie z F first p w img chain.none
  loose p w img none t = t
  loose p w img (has s work) (inl t) = loose_tie p w img (chain.has s) t
  loose p w img (has s work) (inr (inl t)) = loose_write p w img s work t
  loose p w img (has s work) (inr (inr (inl t))) = loose_begin p w img s work t
  loose p w img (has s work) (inr (inr (inr t))) = loose_on p w img s work t

  -- a request that begins anew
  anew : (p : View Sector) (w : World Sector) (img : List ℕ) (h : Held) (b : Begun) (work : List ℕ) → (Bound z F first) p w img h → Tie z F first p w img (handed chain.none b) → (Bound z F first) p w img (held h b work)
  anew p w img h (Ok s) work t n = inl n
  anew p w img h (Err why) work t n = t

  -- no request of these is at rest
  pub not_rest : (p : View Sector) (w : World Sector) (img : List ℕ) (s : State) (work : List ℕ) → (Busy z F first) p w img s work → is_idle s.kind ≡ true → ⊥
  not_rest p w img s work (inl t) e = false≢true (sym (ap is_idle t.writes.kind) ∙ e)
  not_rest p w img s work (inr (inl t)) e = false≢true (sym (ap is_idle t.kind) ∙ e)
  not_rest p w img s work (inr (inr t)) e = false≢true (sym (ap is_idle t.refills.kind) ∙ e)

  -- taking out
  out_bound : (p : View Sector) (w : World Sector) (img : List ℕ) (s : State) (work : List ℕ) (d : ℕ) → Allowed z F (outs (take_out_of s d img (length work))) → (Bound z F first) p w img (has s work)
      → (Bound z F first) p w img (held (has s work) (take_out_of s d img (length work)) work)
  out_bound p w img s work d ok (inl t) = by (take_answer s.now s.kind s.absent img d (length work)) (out_kept z F first p w img s d (length work) ok t)
    where
      by : (o : Outcome) → Tie z F first p w img (handed (chain.has s) (begun o (took_out s d))) → (Bound z F first) p w img (held (has s work) (begun o (took_out s d)) work)
      by (Ok tt) n = inl n
      by (Err why) n = inl n
  out_bound p w img s work d ok (inr t) = by (take_answer s.now s.kind s.absent img d (length work)) refl
    where
      by : (o : Outcome) → take_answer s.now s.kind s.absent img d (length work) ≡ o → (Bound z F first) p w img (held (has s work) (begun o (took_out s d)) work)
      by (Ok tt) e = absurd (not_rest p w img s work t (take_done s.now s.kind s.absent img d (length work) e).1.at_rest)
      by (Err why) e = inr t

  begin_bound : (p : View Sector) (w : World Sector) (img : List ℕ) (s : State) (work : List ℕ) (d : ℕ) → (Bound z F first) p w img (has s work) → (Bound z F first) p w img (held (has s work) (begin_of s d img (length work)) work)
  begin_bound p w img s work d (inl t) = by (begin_answer s.now s.kind s.absent img d (length work)) refl
    where
      own : ours z s.now ≡ true
      own = ⊎_elim (λ (f : Fair z s [] img × (plain s.kind ≡ true)). f.0.ours_now) (λ (q : (s.kind ≡ Idle) × (ours z s.now ≡ true)). q.1) t.order.1

      by : (o : Outcome) → begin_answer s.now s.kind s.absent img d (length work) ≡ o → (Bound z F first) p w img (held (has s work) (begun o (began s d img)) work)
      by (Ok tt) e =
          let g = begin_goes s.now s.kind s.absent img d (length work) e in
          let there : d < slots z = subst (λ (n : ℕ). d < n) (ap (λ (x : Geometry). x.n) (shelf_geometry z s.now own)) g.there in
          let r : Reached z F first p w (idle (own_of z s s.now)) = subst (Reached z F first p w) (rests z s img (idle_is z F first p s.kind g.at_rest)) t.reached in
          let dark : in_mask s.absent d ≡ true → Label.looked (size z) (label_of z s.now) d ≡ true → ⊥ = λ a q. (rest_dark z F first) p w (own_of z s s.now) r d (beyond_below (slots z) s.absent d there ∙ a) q in
          let b = begin_begins z img t.disks s own d (length work) e dark work in
          let y = asks_to z F first img t.reads r _ (begin d) accepted b.2 (accepted_none z F first p) (λ q x n. absurd (Memᴰ.not-nil n)) in
          inr
          (inr
          (inl
          (record {
            before = own_of z s s.now;
            same_label_lem = refl;
            more_absent = fewer_absent z img t.disks s own d (length work) e dark;
            disks = t.disks;
            reads = t.reads;
            reached = subst (λ (q : View Sector). Reached z F first q w (doing labelling (to_do z (began s d img) work img) (own_of z s s.now) (own_of z (began s d img) (began s d img).next))) y.1 y.2;
            named = t.named;
            names = subst (λ (m : Memory Sector). Names z (left_in z m)) (begin_asked z img t.disks s own d (length work) e dark work) (begin_names z (own_of z s s.now) _ d);
            next_ours = begun_ours z img t.disks s own d (length work) e dark;
            fair = b.0;
            kind = refl;
            sized = g.whole ∙ ap (λ (x : Geometry). work_bytes x.n x.c) (shelf_geometry z s.now own);
          })))
      by (Err why) e = inl t
  begin_bound p w img s work d (inr t) = by (begin_answer s.now s.kind s.absent img d (length work)) refl
    where
      by : (o : Outcome) → begin_answer s.now s.kind s.absent img d (length work) ≡ o → (Bound z F first) p w img (held (has s work) (begun o (began s d img)) work)
      by (Ok tt) e = absurd (not_rest p w img s work t (begin_goes s.now s.kind s.absent img d (length work) e).at_rest)
      by (Err why) e = inr t

  -- going on with a rebuild
  on_bound : (p : View Sector) (w : World Sector) (img : List ℕ) (s : State) (work : List ℕ) (b : ℕ) → (Bound z F first) p w img (has s work) → (Bound z F first) p w img (held (has s work) (on_of s b img (length work)) work)
  on_bound p w img s work b (inl t) = by (on_answer s.now s.kind s.absent img (length work)) refl
    where
      own : ours z s.now ≡ true
      own = ⊎_elim (λ (f : Fair z s [] img × (plain s.kind ≡ true)). f.0.ours_now) (λ (q : (s.kind ≡ Idle) × (ours z s.now ≡ true)). q.1) t.order.1

      by : (o : Outcome) → on_answer s.now s.kind s.absent img (length work) ≡ o → (Bound z F first) p w img (held (has s work) (begun o (went_on s b img)) work)
      by (Ok tt) e =
          let r : Reached z F first p w (idle (own_of z s s.now)) = subst (Reached z F first p w) (rests z s img (idle_is z F first p s.kind (on_rests s.now s.kind s.absent img (length work) e))) t.reached in
          let dark : (d : ℕ) → d < slots z → in_mask s.absent d ≡ true → Label.looked (size z) (label_of z s.now) d ≡ true → ⊥ = λ d i a q. (rest_dark z F first) p w (own_of z s s.now) r d (beyond_below (slots z) s.absent d i ∙ a) q in
          let n : Refilling z F first p w img (state_of s (on_of s b img (length work))) work = on_kept z F first p w img s b work t (ap (λ (o : Outcome). outcome_of (begun o (went_on s b img))) e) in
          inr
          (inr
          (inr
          (record {
            refills = subst (λ (o : Outcome). Refilling z F first p w img (state_of s (begun o (went_on s b img))) work) e n;
            sized = on_sized z img t.disks s own b work e dark;
          })))
      by (Err why) e = inl t
  on_bound p w img s work b (inr t) = by (on_answer s.now s.kind s.absent img (length work)) refl
    where
      by : (o : Outcome) → on_answer s.now s.kind s.absent img (length work) ≡ o → (Bound z F first) p w img (held (has s work) (begun o (went_on s b img)) work)
      by (Ok tt) e = absurd (not_rest p w img s work t (on_rests s.now s.kind s.absent img (length work) e))
      by (Err why) e = inr t

  -- ---- a write is asked for

  module _ (p : View Sector) (w : World Sector) (img : List ℕ) (s : State) (work : List ℕ) (b : ℕ) (given : List ℕ) (s' : State) (then : List ℕ) (small : Bytes given) (small' : Bytes then) where
    accepted_write : (asked z F first p w img s work b given s' then small small') ≡ Ok tt → Written s b given img work s' then → Tie z F first p w img (chain.has s)
        → (q : View Sector) × SawAsked (Ok tt) (b / z.k) (b % z.k) (sectors_of z.c given) p q × (Bound z F first) q w img (has s' then)
    accepted_write e h t = by p (subst (Reached z F first p w) (rests z s img (idle_is z F first p s.kind ((rest_of z F first p w img s work b given s' then small small') e))) t.reached)
      where
        own : ours z s.now ≡ true
        own = ⊎_elim (λ (f : Fair z s [] img × (plain s.kind ≡ true)). f.0.ours_now) (λ (q : (s.kind ≡ Idle) × (ours z s.now ≡ true)). q.1) t.order.1

        by : (p : View Sector) → Reached z F first p w (idle (own_of z s s.now)) → (q : View Sector) × SawAsked (Ok tt) (b / z.k) (b % z.k) (sectors_of z.c given) p q × (Bound z F first) q w img (has s' then)
        by (sure v) r =
            let dark : (d : ℕ) → d < slots z → in_mask s.absent d ≡ true → Label.looked (size z) (label_of z s.now) d ≡ true → ⊥ =
            λ d i a l. r.keeps.1.dark d (beyond_below (slots z) s.absent d i ∙ a) l in
            let g = write_goes z img t.disks s own dark b given work small e s' then small' h in
            let y = asks_to z F first img t.reads r _ (write (b / s.now.k) (one_block (b % s.now.k) (sectors_of z.c given))) accepted (write_accepted z img t.disks s own dark b given work small e)
            (accepted_none z F first (sure v)) (λ x a n. absurd (Memᴰ.not-nil n)) in (
              y.0,
              (v, refl, y.1 ∙ ap (λ (k : ℕ). open_write v (replace v (b / k) (one_block (b % k) (sectors_of z.c given)))) (sym (same_says (fields_of z 0 (no_label z)) s.now own).same_k)),
              inr
                  (inl
                  (record {
                    written = W z img t.disks s own dark b given work small e;
                    disks = t.disks;
                    reads = t.reads;
                    reached = subst (Reached z F first y.0 w) (sym g.2) y.2;
                    named = t.named;
                    names = subst (λ (x : Memory Sector). Names z (left_in z x)) (sym g.2) (names_log z _ _ _);
                    next_ours = ap (ours z) g.3 ∙ own;
                    fair = g.0;
                    writes = g.1;
                    sized = g.4 ∙ (write_done s.now s.kind s.absent s.count img b given work e).0.whole ∙ ap (λ (x : Geometry). work_bytes x.n x.c) (shelf_geometry z s.now own);
                  })),
            )
        by (open_write v v') r = absurd r.keeps
        by (kept_write v') r = absurd r.keeps

    write_bound : AfterWrite (asked z F first p w img s work b given s' then small small') s b given img work s' then → (Bound z F first) p w img (has s work)
        → (q : View Sector) × SawAsked (asked z F first p w img s work b given s' then small small') (b / z.k) (b % z.k) (sectors_of z.c given) p q × (Bound z F first) q w img (has s' then)
    write_bound h t = by (asked z F first p w img s work b given s' then small small') refl h
      where
        by : (o : Outcome) → (asked z F first p w img s work b given s' then small small') ≡ o → AfterWrite o s b given img work s' then → (q : View Sector) × SawAsked o (b / z.k) (b % z.k) (sectors_of z.c given) p q × (Bound z F first) q w img (has s' then)
        by (Ok tt) e a =
            ⊎_elim (λ (x : Tie z F first p w img (chain.has s)). accepted_write e a x) (λ (x : (Busy z F first) p w img s work). absurd (not_rest p w img s work x ((rest_of z F first p w img s work b given s' then small small') e))) t
        by (Err why) e a = (p, refl, subst (λ (x : State). (Bound z F first) p w img (has x then)) (sym a.0) (subst (λ (x : List ℕ). (Bound z F first) p w img (has s x)) (sym a.1) t))

  -- ---- a repair

  -- what is read is one of the things that a cut may leave
  read_left : (p : View Sector) (w : World Sector) (img : List ℕ) (s : State) → Tie z F first p w img (chain.has s) → Possible w (cur_of z img)
  unfolding Sane
  read_left p w img s t = subst (Possible w) t.reads (off z F first p t.reached).keeps.sane

  -- at rest each strip sector that is believed is the list's, as it is read
  rest_list : (p : View Sector) (w : World Sector) (img : List ℕ) (s : State) → Tie z F first p w img (chain.has s) → is_idle s.kind ≡ true
      → (v : Host Sector) × ((d t j : ℕ) → Label.believed (size z) (label_of z s.now) d t ≡ true → j < z.c → cur_of z img (strip d t j) ≡ (any_code z).shard t (v t) d j)
  unfolding Always
  rest_list p w img s t e = by p (subst (Reached z F first p w) (rests z s img (idle_is z F first p s.kind e)) t.reached)
    where
      by : (p : View Sector) → Reached z F first p w (idle (own_of z s s.now))
          → (v : Host Sector) × ((d t j : ℕ) → Label.believed (size z) (label_of z s.now) d t ≡ true → j < z.c → cur_of z img (strip d t j) ≡ (any_code z).shard t (v t) d j)
      by (sure v) r = (v, sound_in z F v w (own_of z s s.now) r.keeps (cur_of z img) (read_left p w img s t))
      by (open_write v v') r = absurd r.keeps
      by (kept_write v') r = absurd r.keeps

  -- A REPAIR IS REFUSED THERE: no sector changes by itself in these chains, so that a repair finds nothing to mend
  pub repair_refused_there : (p : View Sector) (w : World Sector) (img : List ℕ) (s : State) (work : List ℕ) (t : ℕ) (b : Begun) (then : List ℕ) → Repairs s t img work b then → (Bound z F first) p w img (has s work)
      → (why : Refusal) × (outcome_of b ≡ Err why)
  repair_refused_there p w img s work t b then r h = by (may_repair s.now s.kind s.absent s.count t img) refl h
    where
      by : (o : Outcome) → may_repair s.now s.kind s.absent s.count t img ≡ o → (Bound z F first) p w img (has s work) → (why : Refusal) × (outcome_of b ≡ Err why)
      by (Err why) e h = (why, asked_refused s t img work b then r why e)
      by (Ok tt) e (inl n) =
          let own : ours z s.now ≡ true = ⊎_elim (λ (f : Fair z s [] img × (plain s.kind ≡ true)). f.0.ours_now) (λ (q : (s.kind ≡ Idle) × (ours z s.now ≡ true)). q.1) n.order.1 in
          let y = rest_list p w img s n (may_whole s img t e).at_rest in
          mend_refused z img n.disks s own t y.0 (λ d j. y.1 d t j) work b then r
      by (Ok tt) e (inr n) = absurd (not_rest p w img s work n (may_whole s img t e).at_rest)

  -- and changes neither the state nor the work area
  pub repair_changes_nothing : (p : View Sector) (w : World Sector) (img : List ℕ) (s : State) (work : List ℕ) (t : ℕ) (b : Begun) (then : List ℕ) → Repairs s t img work b then → (Bound z F first) p w img (has s work)
      → (state_of s b ≡ s) × (then ≡ work)
  repair_changes_nothing p w img s work t b then r h = let y = repair_refused_there p w img s work t b then r h in repair_refused s t img work b then r y.0 y.1

  repair_bound : (p : View Sector) (w : World Sector) (img : List ℕ) (s : State) (work : List ℕ) (t : ℕ) (b : Begun) (then : List ℕ) → Repairs s t img work b then → (Bound z F first) p w img (has s work)
      → (Bound z F first) p w img (has (state_of s b) then)
  repair_bound p w img s work t b then r h =
      let y = repair_changes_nothing p w img s work t b then r h in
      subst (λ (x : State). (Bound z F first) p w img (has x then)) (sym y.0) (subst (λ (x : List ℕ). (Bound z F first) p w img (has s x)) (sym y.1) h)

  -- ---- a step

  saw_refused : (k : Kind) (why : Refusal) (p : View Sector) → SawStep k (answer.Refused why) p p
  saw_refused Nothing why p = refl
  saw_refused Idle why p = refl
  saw_refused Creating why p = refl
  saw_refused Starting why p = refl
  saw_refused Labelling why p = refl
  saw_refused Writing why p = refl
  saw_refused Beginning why p = refl
  saw_refused Filling why p = refl

  saw_started : (x : Action Sector) (a : Answer) → Same z a (did x) → (p q : View Sector) → q ≡ p → SawStart a p q
  saw_started (put k v) a s p q e = subst (λ (y : Answer). SawStart y p q) (sym s.1) e
  saw_started (flush d) a s p q e = subst (λ (y : Answer). SawStart y p q) (sym s) e

  -- of a request that keeps nothing in the work area
  saw_step : (k : Kind) → plain k ≡ true → (s : State) (v : Memory Sector) (l : List (Action Sector)) (f : Image Sector) (r : Reply Sector) (a : Answer) → (program_of z (memory_by k z s v l) f step).1 ≡ r → Same z a r
      → (p q : View Sector) → Answered z.c step r p q → SawStep k a p q
  unfolding program_by
  saw_step Nothing e s v l f r a m same p q h = absurd (subst (Same z a) (sym m) same)
  saw_step Idle e s v l f r a m same p q h = absurd (subst (Same z a) (sym m) same)
  saw_step Creating e s v [] f r a m same p q h = subst (λ (x : Reply Sector). Answered z.c step x p q) (sym m) h
  saw_step Creating e s v (x ∷ l) f r a m same p q h = subst (λ (x : Reply Sector). Answered z.c step x p q) (sym m) h
  saw_step Starting e s v [] f r a m same p q h =
      let d : a ≡ answer.Done = subst (Same z a) (sym m) same in
      subst (λ (y : Answer). SawStart y p q) (sym d) (subst (λ (x : Reply Sector). Answered z.c step x p q) (sym m) h)
  saw_step Starting e s v (x ∷ l) f r a m same p q h = saw_started x a (subst (Same z a) (sym m) same) p q (subst (λ (x : Reply Sector). Answered z.c step x p q) (sym m) h)
  saw_step Labelling e s v [] f r a m same p q h = subst (λ (x : Reply Sector). Answered z.c step x p q) (sym m) h
  saw_step Labelling e s v (x ∷ l) f r a m same p q h = subst (λ (x : Reply Sector). Answered z.c step x p q) (sym m) h
  saw_step Writing e s v l f r a m same p q h = absurd (false≢true e)
  saw_step Beginning e s v [] f r a m same p q h = subst (λ (x : Reply Sector). Answered z.c step x p q) (sym m) h
  saw_step Beginning e s v (x ∷ l) f r a m same p q h = subst (λ (x : Reply Sector). Answered z.c step x p q) (sym m) h
  saw_step Filling e s v l f r a m same p q h = absurd (false≢true e)

  step_plain : (p : View Sector) (w : World Sector) (img : List ℕ) (s : State) (work : List ℕ) (w' : World Sector) → Tie z F first p w img (chain.has s)
      → Heard z w (step_with s img work).stepped.answer (step_with s img work).image w'
      → (q : View Sector) × SawStep s.kind (step_with s img work).stepped.answer p q × (Bound z F first) q w' (step_with s img work).image (has (step_with s img work).stepped.state work)
  unfolding memory_of
  step_plain p w img s work w' t h =
      ⊎_elim
      (λ (d : Tied z s [] img (step_with s img work)).
      let y = goes_to z F first p w img s (step_with s img work) w' d t h in
      (y.0, saw_step s.kind plainly s _ (to_do z s [] img) (cur_of z img) d.reply (step_with s img work).stepped.answer (ap (λ (b : Memory Sector × Reply Sector). b.1) d.steps) d.answers p y.0 y.1, inl y.2))
      (λ (d : (why : Refusal) × (step_with s img work ≡ refuses s why img)).
      (p, subst (λ (m : Move). SawStep s.kind m.stepped.answer p p) (sym d.1) (saw_refused s.kind d.0 p), inl (refused_kept z F first p w img s d.0 (step_with s img work) w' d.1 t h)))
      (step_is z F first p w img s work t)
    where
      plainly : plain s.kind ≡ true
      plainly = ⊎_elim (λ (f : Fair z s [] img × (plain s.kind ≡ true)). f.1) (λ (q : (s.kind ≡ Idle) × (ours z s.now ≡ true)). ap plain q.0) t.order.1

  -- of a write
  acknowledges : (x : Write Sector) (p q : View Sector) → Ended (program.storing x) p q → Acknowledged p q
  acknowledges x (sure v) q h = h
  acknowledges x (open_write v v') q h = absurd h
  acknowledges x (kept_write v') q h = h

  saved_then : (x : Write Sector) (p r q : View Sector) → Saved p r → Ended (program.storing x) r q → Acknowledged p q
  saved_then x (sure v) r q s h = absurd s
  saved_then x (open_write v v') r q s h = subst (λ (y : View Sector). Ended (program.storing x) y q) s h
  saved_then x (kept_write v') r q s h = absurd s

  may_save : (p r q : View Sector) → (r ≡ p) ⊎ Saved p r → q ≡ r → (q ≡ p) ⊎ Saved p q
  may_save p r q (inl e) h = inl (h ∙ e)
  may_save p r q (inr e) h = inr (subst (Saved p) (sym h) e)

  saw_write : (y : Reply Sector) → OfWrite y → (a : Answer) → Same z a y → (p r q : View Sector) → (r ≡ p) ⊎ Saved p r → Answered z.c step y r q → SawWrite a p q
  saw_write accepted o a s p r q e h = absurd s
  saw_write (refused why) o a s p r q e h = absurd s
  saw_write (did (put k v)) o a s p r q e h = subst (λ (y : Answer). SawWrite y p q) (sym s.1) (may_save p r q e h)
  saw_write (did (flush d)) o a s p r q e h = subst (λ (y : Answer). SawWrite y p q) (sym s) (may_save p r q e h)
  saw_write safe o a s p r q e h = absurd s
  saw_write (done program.creating) o a s p r q e h = absurd o
  saw_write (done program.starting) o a s p r q e h = absurd o
  saw_write (done (program.logging x)) o a s p r q e h = absurd o
  saw_write (done (program.storing x)) o a s p r q e h =
      subst (λ (y : Answer). SawWrite y p q) (sym s)
      (⊎_elim (λ (i : r ≡ p). acknowledges x p q (subst (λ (y : View Sector). Ended (program.storing x) y q) i h)) (λ (i : Saved p r). saved_then x p r q i h) e)
  saw_write (done program.labelling) o a s p r q e h = absurd o
  saw_write (block b) o a s p r q e h = absurd s
  saw_write (found x) o a s p r q e h = absurd s

  -- at rest it remembers its own
  with_rests : (u : Write Sector) (s : State) (work img : List ℕ) → s.kind ≡ Idle → memory_with z u s work img ≡ idle (own_of z s s.now)
  with_rests u s work img e = ap (λ (k : Kind). memory_by k z s (write_memory z u s work (cur_of z img)) (to_do z s work img)) e

  safe_none : (why : program.Refusal) → ◌≡◌ {A = Reply Sector} safe (refused why) → ⊥
  safe_none why e = absurd (subst NotSafe (sym e) tt)

  step_write : (p : View Sector) (w : World Sector) (img : List ℕ) (s : State) (work : List ℕ) (m : Move) (w' : World Sector) (t : (Laying z F first) p w img s work) → TiedWrite z t.written s work img m → Heard z w m.stepped.answer m.image w'
      → (q : View Sector) × SawWrite m.stepped.answer p q × (Bound z F first) q w' m.image (has m.stepped.state work)
  step_write p w img s work m w' t d h =
      let y = asks_to z F first img t.reads begins.2 (memory_with z u m.stepped.state work m.image) step d.reply d.steps (step_some z F first p d.reply m.stepped.answer d.answers) (λ e x n. step_leaves z F first p d.reply m.stepped.answer d.answers e x _ n) in
      let n = subst (λ (y : Memory Sector × Reply Sector). Always (effect w y.1) (Named z) × Names z (left_in z y.0)) d.steps (step_names z d.before (cur_of z img) w (off z F first p t.reached).keeps.sane t.named begins.3) in (
        y.0,
        saw_write d.reply d.of_write m.stepped.answer d.answers p begins.0 y.0 begins.1 y.1,
        subst (λ (x : World Sector). (Bound z F first) y.0 x m.image (has m.stepped.state work)) (heard_is z F first p w w' m.image d.reply m.stepped.answer d.answers (d.acts w t.reads) h)
            (⊎_elim
            (λ (g : Fair z m.stepped.state work m.image × Writes z m.stepped.state work u).
            inr
            (inl
            (record {
              written = u;
              disks = g.0.disks;
              reads = d.acts w t.reads;
              reached = y.2;
              named = n.0;
              names = n.1;
              next_ours = ap (ours z) d.settles ∙ t.next_ours;
              fair = g.0;
              writes = g.1;
              sized = t.sized;
            })))
            (λ (g : m ≡ finished s img).
            let k : m.stepped.state.kind ≡ Idle = ap (λ (x : Move). x.stepped.state.kind) g in
            let e : memory_with z u m.stepped.state work m.image ≡ memory_of z m.stepped.state [] m.image = with_rests u m.stepped.state work m.image k ∙ sym (rests z m.stepped.state m.image k) in
            inl
            (record {
              disks = subst (λ (x : Move). Disks z x.image) (sym g) t.disks;
              reads = d.acts w t.reads;
              reached = subst (Reached z F first y.0 (effect w d.reply)) e y.2;
              named = n.0;
              names = subst (λ (x : Memory Sector). Names z (left_in z x)) e n.1;
              order = (ap (ours z) d.settles ∙ t.next_ours, inr (k, ap (λ (x : Move). ours z x.stepped.state.now) g ∙ t.next_ours));
            })) d.goes_on),
      )
    where
      u : Write Sector
      u = t.written

      begins : (r : View Sector) × ((r ≡ p) ⊎ Saved p r) × Reached z F first r w d.before × Names z (left_in z d.before)
      begins =
          ⊎_elim
          (λ (e : memory_with z u s work img ≡ d.before). (p, inl refl, subst (Reached z F first p w) e t.reached, subst (λ (x : Memory Sector). Names z (left_in z x)) e t.names))
          (λ (e : program_of z (memory_with z u s work img) (cur_of z img) step ≡ (d.before, safe)).
          let y = asks_to z F first img t.reads t.reached d.before step safe e safe_none (λ q. absurd (subst NotSafe (sym q) tt)) in
          let n = subst (λ (y : Memory Sector × Reply Sector). Names z (left_in z y.0)) e (step_names z (memory_with z u s work img) (cur_of z img) w (off z F first p t.reached).keeps.sane t.named t.names).1 in
          (y.0, inr y.1, y.2, n)) d.first

  -- of begin
  step_begin : (p : View Sector) (w : World Sector) (img : List ℕ) (s : State) (work : List ℕ) (m : Move) (w' : World Sector) (t : (Readying z F first) p w img s work) → TiedLabel z t.before s work img m → Heard z w m.stepped.answer m.image w'
      → (q : View Sector) × (q ≡ p) × (Bound z F first) q w' m.image (has m.stepped.state work)
  step_begin p w img s work m w' t d h =
      let M : Memory Sector = doing labelling (to_do z s work img) t.before (own_of z s s.next) in
      let y = asks_to z F first img t.reads t.reached d.after step d.reply d.steps (step_some z F first p d.reply m.stepped.answer d.answers) (λ e x n. step_leaves z F first p d.reply m.stepped.answer d.answers e x _ n) in
      let n = subst (λ (y : Memory Sector × Reply Sector). Always (effect w y.1) (Named z) × Names z (left_in z y.0)) d.steps (step_names z M (cur_of z img) w (off z F first p t.reached).keeps.sane t.named t.names) in (
        y.0,
        saw_label z F first (to_do z s work img) t.before (own_of z s s.next) (cur_of z img) d.reply (ap (λ (b : Memory Sector × Reply Sector). b.1) d.steps) p y.0 y.1,
        subst (λ (x : World Sector). (Bound z F first) y.0 x m.image (has m.stepped.state work)) (heard_is z F first p w w' m.image d.reply m.stepped.answer d.answers (d.acts w t.reads) h)
            (⊎_elim
            (λ (g : Fair z m.stepped.state work m.image × (m.stepped.state.kind ≡ s.kind) × (m.stepped.state.now ≡ s.now) × (m.stepped.state.absent ≡ s.absent)
            × (d.after ≡ doing labelling (to_do z m.stepped.state work m.image) t.before (own_of z m.stepped.state m.stepped.state.next))).
            inr
            (inr
            (inl
            (record {
              before = t.before;
              same_label_lem = t.same_label_lem ∙ ap (label_of z) (sym g.2);
              more_absent = λ x i a. t.more_absent x i (ap (λ (mask : ℕ). in_mask mask x) (sym g.3) ∙ a);
              disks = g.0.disks;
              reads = d.acts w t.reads;
              reached = subst (Reached z F first y.0 (effect w d.reply)) g.4 y.2;
              named = n.0;
              names = subst (λ (x : Memory Sector). Names z (left_in z x)) g.4 n.1;
              next_ours = ap (ours z) d.settles ∙ t.next_ours;
              fair = g.0;
              kind = g.1 ∙ t.kind;
              sized = t.sized;
            }))))
            (λ (g : (m ≡ finished s img) × (d.after ≡ idle (own_of z s s.next))).
            let k : m.stepped.state.kind ≡ Idle = ap (λ (x : Move). x.stepped.state.kind) g.0 in
            let e : d.after ≡ memory_of z m.stepped.state [] m.image = g.1 ∙ ap (λ (x : Move). idle (own_of z x.stepped.state x.stepped.state.now)) (sym g.0) ∙ sym (rests z m.stepped.state m.image k) in
            inl
            (record {
              disks = subst (λ (x : Move). Disks z x.image) (sym g.0) t.disks;
              reads = d.acts w t.reads;
              reached = subst (Reached z F first y.0 (effect w d.reply)) e y.2;
              named = n.0;
              names = subst (λ (x : Memory Sector). Names z (left_in z x)) e n.1;
              order = (ap (ours z) d.settles ∙ t.next_ours, inr (k, ap (λ (x : Move). ours z x.stepped.state.now) g.0 ∙ t.next_ours));
            })) d.goes_on),
      )

  -- of a rebuild
  step_on : (p : View Sector) (w : World Sector) (img : List ℕ) (s : State) (work : List ℕ) (w' : World Sector) → (Going z F first) p w img s work → ((q : View Sector) (a : Answer) → q ≡ p → SawStep s.kind a p q)
      → Heard z w (step_move s work img).stepped.answer (step_move s work img).image w'
      → (q : View Sector) × SawStep s.kind (step_move s work img).stepped.answer p q × (Bound z F first) q w' (step_move s work img).image (has (step_move s work img).stepped.state work)
  step_on p w img s work w' t saw h =
      let m : Move = step_move s work img in
      let y = fill_kept z F first p w img s work w' t.refills h in (
        y.1,
        saw y.1 m.stepped.answer y.3,
        ⊎_elim (λ (x : Refilling z F first y.1 w' m.image m.stepped.state work). inr (inr (inr (record { refills = x; sized = t.sized }))))
            (λ (x : Tie z F first y.1 w' m.image (chain.has m.stepped.state)). inl x) y.4,
      )

  step_bound : (p : View Sector) (w : World Sector) (img : List ℕ) (s : State) (work : List ℕ) (w' : World Sector) → (Bound z F first) p w img (has s work)
      → Heard z w (step_with s img work).stepped.answer (step_with s img work).image w'
      → (q : View Sector) × SawStep s.kind (step_with s img work).stepped.answer p q × (Bound z F first) q w' (step_with s img work).image (has (step_with s img work).stepped.state work)
  step_bound p w img s work w' (inl t) h = step_plain p w img s work w' t h
  step_bound p w img s work w' (inr (inl t)) h = by (other_work s.now (length img) (length work)) refl
    where
      kind_is : (q : View Sector) (a : Answer) → SawWrite a p q → SawStep s.kind a p q
      kind_is q a x = subst (λ (k : Kind). SawStep k a p q) (sym t.writes.kind) x

      by : (b : Bool) → other_work s.now (length img) (length work) ≡ b → (q : View Sector) × SawStep s.kind (step_with s img work).stepped.answer p q × (Bound z F first) q w' (step_with s img work).image (has (step_with s img work).stepped.state work)
      by true e =
          let d = step_short s img work t.fair.in_range_lem e in
          subst (λ (m : Move). Heard z w m.stepped.answer m.image w' → (q : View Sector) × SawStep s.kind m.stepped.answer p q × (Bound z F first) q w' m.image (has m.stepped.state work)) (sym d)
          (λ i. (p, saw_refused s.kind BadBuffer p, subst (λ (x : World Sector). (Bound z F first) p x img (has s work)) (sym i) (inr (inl t)))) h
      by false e =
          let d = step_goes s img work t.fair.in_range_lem e in
          subst (λ (m : Move). Heard z w m.stepped.answer m.image w' → (q : View Sector) × SawStep s.kind m.stepped.answer p q × (Bound z F first) q w' m.image (has m.stepped.state work)) (sym d)
          (λ i. let y = step_write p w img s work (step_move s work img) w' t (write_tied z t.written s work img t.writes t.fair) i in (y.0, kind_is y.0 (step_move s work img).stepped.answer y.1, y.2)) h
  step_bound p w img s work w' (inr (inr (inl t))) h = by (other_work s.now (length img) (length work)) refl
    where
      kind_is : (q : View Sector) (a : Answer) → q ≡ p → SawStep s.kind a p q
      kind_is q a x = subst (λ (k : Kind). SawStep k a p q) (sym t.kind) x

      by : (b : Bool) → other_work s.now (length img) (length work) ≡ b → (q : View Sector) × SawStep s.kind (step_with s img work).stepped.answer p q × (Bound z F first) q w' (step_with s img work).image (has (step_with s img work).stepped.state work)
      by true e =
          let d = step_short s img work t.fair.in_range_lem e in
          subst (λ (m : Move). Heard z w m.stepped.answer m.image w' → (q : View Sector) × SawStep s.kind m.stepped.answer p q × (Bound z F first) q w' m.image (has m.stepped.state work)) (sym d)
          (λ i. (p, saw_refused s.kind BadBuffer p, subst (λ (x : World Sector). (Bound z F first) p x img (has s work)) (sym i) (inr (inr (inl t))))) h
      by false e =
          let d = step_goes s img work t.fair.in_range_lem e in
          subst (λ (m : Move). Heard z w m.stepped.answer m.image w' → (q : View Sector) × SawStep s.kind m.stepped.answer p q × (Bound z F first) q w' m.image (has m.stepped.state work)) (sym d)
          (λ i. let y = step_begin p w img s work (step_move s work img) w' t (label_tied z t.before s work img t.fair) i in (y.0, kind_is y.0 (step_move s work img).stepped.answer y.1, y.2)) h
  step_bound p w img s work w' (inr (inr (inr t))) h = by (other_work s.now (length img) (length work)) refl
    where
      kind_is : (q : View Sector) (a : Answer) → q ≡ p → SawStep s.kind a p q
      kind_is q a x = subst (λ (k : Kind). SawStep k a p q) (sym t.refills.kind) x

      by : (b : Bool) → other_work s.now (length img) (length work) ≡ b → (q : View Sector) × SawStep s.kind (step_with s img work).stepped.answer p q × (Bound z F first) q w' (step_with s img work).image (has (step_with s img work).stepped.state work)
      by true e =
          let d = step_short s img work t.refills.fair.in_range_lem e in
          subst (λ (m : Move). Heard z w m.stepped.answer m.image w' → (q : View Sector) × SawStep s.kind m.stepped.answer p q × (Bound z F first) q w' m.image (has m.stepped.state work)) (sym d)
          (λ i. (p, saw_refused s.kind BadBuffer p, subst (λ (x : World Sector). (Bound z F first) p x img (has s work)) (sym i) (inr (inr (inr t))))) h
      by false e =
          let d = step_goes s img work t.refills.fair.in_range_lem e in
          subst (λ (m : Move). Heard z w m.stepped.answer m.image w' → (q : View Sector) × SawStep s.kind m.stepped.answer p q × (Bound z F first) q w' m.image (has m.stepped.state work)) (sym d) (step_on p w img s work w' t kind_is) h

  -- ---- another disk

  swap_bound : (p : View Sector) (w : World Sector) (img : List ℕ) (s : State) (work : List ℕ) (d : ℕ) (left : List ℕ) → Exchanged z s d img left → (Bound z F first) p w img (has s work) → (Bound z F first) p (new_disk z w d left) left (has s work)
  swap_bound p w img s work d left x (inl t) = inl (swap_kept z F first p w img s d left x t)
  swap_bound p w img s work d left x (inr t) = absurd (not_rest p w img s work t (ap is_idle x.at_rest))

  -- ---- A CALL KEEPS THE TIE, and the view goes on as it may

  pub call_bound : {a b : Time} (x : HostCalls z a b) → Allowed z F (sets_call x) → (p : View Sector) → (BoundAt z F first) p a → (q : View Sector) × Saw x p q × (BoundAt z F first) q b
  call_bound (creates {w} {img} {h} s work) ok p t = (p, refl, anew p w img h (create_of z.k z.m z.c z.sectors z.number img (length work)) work t (create_kept z F first p w img chain.none s (length work) (loose p w img h t)))
  call_bound (creates_late {w} {img} {h} s k m c S number work e) ok p t = (p, refl, anew p w img h (create_of k m c S number img (length work)) work t (late_kept z F first p w img chain.none s k m c S number (length work) e (loose p w img h t)))
  call_bound (starts {w} {img} {h} s g absent work sits) ok p t = (p, refl, anew p w img h (start_of g absent img (length work)) work t (start_any z F first p w img chain.none s g absent (length work) sits ok (loose p w img h t)))
  call_bound (takes_out {w} {img} {s} {work} d) ok p t = (p, refl, out_bound p w img s work d ok t)
  call_bound (begins {w} {img} {s} {work} d) ok p t = (p, refl, begin_bound p w img s work d t)
  call_bound (ons {w} {img} {s} {work} b) ok p t = (p, refl, on_bound p w img s work b t)
  call_bound (writes {w} {img} {s} {work} b given s' then x y e) ok p t = write_bound p w img s work b given s' then x y e t
  call_bound (repairs {w} {img} {s} {work} t b then r) ok p h = (p, refl, repair_bound p w img s work t b then r h)
  call_bound (steps {w} {w'} {img} {s} {work} heard) ok p t = step_bound p w img s work w' t heard
  call_bound (cut {w} {img} {h} left d x) ok p t = (p, refl, cut_kept z F first p w img chain.none left d x (loose p w img h t))
  call_bound (dies {w} {img} {h}) ok p t = (p, refl, loose p w img h t)
  call_bound (swaps {w} {img} {s} {work} d left x) ok p t = (p, refl, swap_bound p w img s work d left x t)

  -- AND A CHAIN
  pub chain_bound : {a b : Time} (c : HostChain z a b) → Allowed z F (sets c) → (p : View Sector) → (BoundAt z F first) p a → (q : View Sector) × Seen c p q × (BoundAt z F first) q b
  chain_bound stays ok p t = (p, refl, t)
  chain_bound (goes_on c x) ok p t =
      let y = chain_bound c (λ s m. ok s (Memᴰ.append_right (sets_call x) m)) p t in
      let r = call_bound x (λ s m. ok s (Memᴰ.append_left (sets c) m)) y.0 y.2 in
      (r.0, (y.0, y.1, r.1), r.2)
