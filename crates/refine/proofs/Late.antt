-- DISKS THAT WERE EXCHANGED AND ARE NOT TOLD OF YET: while no program runs, while a start-up runs that was told that their slots are absent, and at rest where they are out. A call in a world that may hold
-- less after a cut can be told in the one that may hold more; a cut leaves the old disks as they are read; a start-up that is not refused, and its steps, are told on the old disks; and when it comes to
-- rest, the exchanges are told, one after the other. Assumes nothing.
use Rattle.std.specs.Prelude.{◌≡◌, ◌⊎◌, ◌≢◌, Bool, not, ◌&&◌, List, [], ◌∷◌, ℕ, zero, suc, ◌≤◌, ◌<◌, eqb, length, Ok, Err, Some, None}
use Rattle.std.proofs.Math.Path.{refl, sym, ap, subst}
use Rattle.std.proofs.Common.{◌∙◌, ⊎_elim, inl, inr, true≢false, arith, eq-eqb, ne_eqb}
use Rattle.std.proofs.Math.Bool.{true, false, cond, false≢true}
use mathlib.Core.List.Memᴰ
use Rattle.std.proofs.Math.Decide.{ℕ_discrete}
use Rattle.std.proofs.lemmas.Bool.{eqb-false}
use Rattle.disk.specs.Mask.{in_mask}
use Rattle.disk.specs.Image.{sector, Shape}
use Rattle.disk.specs.declared.geometry.Geometry.{Geometry}
use Rattle.disk.specs.declared.refusal.Refusal.{Refusal}
use Rattle.disk.specs.declared.refusal.Refusal.TheVariants.{NoLabel, BadBuffer}
use Rattle.label.specs.Fields.{geometry_of}
use Rattle.label.specs.Newest.{copy_of}
use Rattle.label.specs.declared.fields.Label as bytes
use Rattle.rounds.specs.Survey.{survey_of}
use Rattle.rounds.specs.Survey.{Survey}
use Rattle.protocol.specs.World.{Place, label, slot, Image, World, Action, put, flush, after, Possible, Sane}
use Rattle.protocol.specs.Machine.{Machine, View}
use Rattle.codecs.specs.Sector.{Sector}
use Rattle.codecs.specs.Shelf.{Shelf, slots, geometry}
use Rattle.codecs.specs.Labels.{ours}
use Rattle.shelf.specs.Act.{Move}
use Rattle.shelf.specs.Step.{step_move, finished}
use Rattle.shelf.specs.Laws.{Legal, Agree, step_one, step_blind, step_agrees}
use Rattle.stages.specs.declared.state.State.{State}
use Rattle.stages.specs.Told.{Told}
use Rattle.stages.specs.declared.state.Kind.{Kind}
use Rattle.stages.specs.declared.state.Kind.TheVariants.{Idle, Writing, Beginning, Filling}
use Rattle.stages.specs.Told as answer
use Rattle.requests.specs.Begun.{work_bytes}
use Rattle.requests.specs.Start.{started, by_survey, start_of}
use Rattle.requests.specs.Step.{other_work, step_with, step_short, step_goes}
use Rattle.requests.specs.Ready.{is_idle}
use Rattle.requests.specs.Begun.{Begun}
use Rattle.blind.specs.Start.{start_blind}
use Rattle.refine.specs.Family.{Family}
use Rattle.refine.specs.Disks.{Disks, cur_of}
use Rattle.refine.specs.Given.{shelf_geometry}
use Rattle.refine.specs.ToDo.{to_do}
use Rattle.refine.specs.Steps.{Fair, Does}
use Rattle.refine.proofs.Steps.{step_does}
use Rattle.refine.specs.Tied.{plain}
use Rattle.refine.proofs.Tied.{fair_work, step_tied}
use Rattle.refine.specs.Other.{Sits, same_numbers}
use Rattle.refine.proofs.Other.{start_other}
use Rattle.refine.specs.Named.{side}
use Rattle.refine.specs.Chain.{Heard, outs, handed, Allowed, Tie, off}
use Rattle.refine.proofs.Chain.{start_any, cut_kept, heard_is, ours_in}
use Rattle.refine.specs.Chain as chain
use Rattle.refine.specs.Merged.{slot_from, disk_of, disk_here, disk_other, slots_here, copy_alike, same_image}
use Rattle.refine.proofs.Merged.{cur_alike}
use Rattle.refine.specs.Swaps.{Exchanged, new_disk}
use Rattle.refine.proofs.Swaps.{swap_kept}
use Rattle.refine.specs.Lags.{Lags, nowhere, Behind, not_valid, unlabelled, few_low, covers, absent_kept}
use Rattle.refine.proofs.Lags.{lags_heard, label_alike}
use Rattle.refine.specs.Touched.{touch_present}
use Rattle.refine.specs.Hosts.{Held, none, has, Time, at, HostCalls, creates, starts, creates_late, takes_out, begins, ons, writes, repairs, steps, cut, dies, swaps, SawStep, Bound}
use Rattle.refine.proofs.Hosts.{not_rest, call_bound}
use Rattle.refine.specs.Late.{LagsAt, Retold, Starts, hand_of, starting, same_length, Late, StandsAt, onto, rest, told_left, told_disks, told_alike, After, plainly, m, m0, present}

module _ (z : Shelf) where
  pub retell : {a b : Time} (x : HostCalls z a b) (w0 : World Sector) → LagsAt a w0 → (Retold z) x w0
  unfolding Possible after
  retell (creates s work) w0 h = record { world = w0; call = creates s work; lags = h; same_sets = refl; saw = λ p q y. y }
  retell (creates_late s k m c S number work e) w0 h = record { world = w0; call = creates_late s k m c S number work e; lags = h; same_sets = refl; saw = λ p q y. y }
  retell (starts s g absent work sits) w0 h = record { world = w0; call = starts s g absent work sits; lags = h; same_sets = refl; saw = λ p q y. y }
  retell (takes_out d) w0 h = record { world = w0; call = takes_out d; lags = h; same_sets = refl; saw = λ p q y. y }
  retell (begins d) w0 h = record { world = w0; call = begins d; lags = h; same_sets = refl; saw = λ p q y. y }
  retell (ons b) w0 h = record { world = w0; call = ons b; lags = h; same_sets = refl; saw = λ p q y. y }
  retell (writes b given s' then x y e) w0 h = record { world = w0; call = writes b given s' then x y e; lags = h; same_sets = refl; saw = λ p q y. y }
  retell (repairs t b then r) w0 h = record { world = w0; call = repairs t b then r; lags = h; same_sets = refl; saw = λ p q y. y }
  retell (steps {w} {w'} {img} {s} {work} heard) w0 h =
      let m : Move = step_with s img work in
      let y = lags_heard z nowhere w w0 m.stepped.answer m.image m.image w' h (λ e t. refl) (λ k a. refl) heard in
      record { world = y.0; call = steps y.1; lags = y.2; same_sets = refl; saw = λ p q y. y }
  retell (cut left d p) w0 h =
      record { world = after (cur_of z left); call = cut left d (λ k. h.fewer k (cur_of z left k) refl (p k)); lags = record { reads = λ k a. refl; fewer = λ k x a m. m; certain = λ k x a m. m }; same_sets = refl; saw = λ p q y. y }
  retell dies w0 h = record { world = w0; call = dies; lags = h; same_sets = refl; saw = λ p q y. y }
  retell (swaps d left x) w0 h =
      record {
        world = new_disk z w0 d left;
        call = swaps d left x;
        lags = record {
          reads = λ k a. ap (λ (y : Sector). cond (eqb (slot k) d) (cur_of z left k) y) (h.reads k a);
          fewer = λ k y a m. (m.0, λ n. h.fewer k y a (m.1 n));
          certain = λ k y a m. absurd (false≢true a);
        };
        same_sets = refl;
        saw = λ p q y. y;
      }

module _ (z : Shelf) (F : Family z) (first : Machine Sector) where
  -- ---- AT REST all is told: the disks are exchanged one after the other

  module _ (p : View Sector) (w : World Sector) (img : List ℕ) (s : State) (e : s.kind ≡ Idle) where
    module _ (A : ℕ → Bool) (w0 : World Sector) (img0 : List ℕ) (b : Behind z A w img w0 img0) (t : Tie z F first p w0 img0 (chain.has s)) (d : ℕ) (here : A d ≡ true) (gone : in_mask s.absent d ≡ true) where
      there : d < slots z
      there = b.inner d here

      onto_disks : Disks z (onto z F first p w img s e A w0 img0 b t d here gone)
      onto_disks = disk_of z d there img img0 b.disks t.disks

      none_valid : (o : ℕ) (a : bytes.Label) → o < 2 → copy_of (geometry z) (onto z F first p w img s e A w0 img0 b t d here gone) d o ≡ Some a → ⊥
      none_valid o a l q =
          not_valid z a
          (sym (b.blank d o here l) ∙ sym (copy_alike z (onto z F first p w img s e A w0 img0 b t d here gone) img onto_disks b.disks d o there l (disk_here z d there img img0 b.disks t.disks o (few_low z o l))) ∙ q)

      exchange : Exchanged z s d img0 (onto z F first p w img s e A w0 img0 b t d here gone)
      exchange =
          record {
            at_rest = e;
            there = there;
            absent = gone;
            disks = onto_disks;
            others = λ x u i l n. disk_other z d there img img0 b.disks t.disks x u i l n;
            older = λ o a l q. absurd (none_valid o a l q);
            shape = record { calm = λ x o a i l q. absurd (none_valid o a l q); follow = λ a c q r. absurd (none_valid 0 a (omega arith) q) };
          }

      other : (x : ℕ) → x ≢ d → (rest z F first p w img s e A w0 img0 b t d here gone) x ≡ false → A x ≡ false
      other x n q = by (A x) q
        where
          by : (y : Bool) → (y && not (eqb x d)) ≡ false → y ≡ false
          by true r = absurd (true≢false (sym (ap not (ne_eqb x d n)) ∙ r))
          by false r = refl

      still : (x : ℕ) → (rest z F first p w img s e A w0 img0 b t d here gone) x ≡ true → (A x ≡ true) × (x ≢ d)
      still x q = by (A x) refl (eqb x d) refl q
        where
          by : (y : Bool) → A x ≡ y → (c : Bool) → eqb x d ≡ c → (y && not c) ≡ true → (A x ≡ true) × (x ≢ d)
          by true u true v r = absurd (false≢true r)
          by true u false v r = (u, eqb-false x d v)
          by false u c v r = absurd (false≢true r)

      told_sector : (x u : ℕ) → x < slots z → u < z.sectors → (rest z F first p w img s e A w0 img0 b t d here gone) x ≡ false → sector z.sectors img x u ≡ sector z.sectors (onto z F first p w img s e A w0 img0 b t d here gone) x u
      told_sector x u i l q = by (ℕ_discrete x d)
        where
          by : Dec (x ≡ d) → sector z.sectors img x u ≡ sector z.sectors (onto z F first p w img s e A w0 img0 b t d here gone) x u
          by (yes y) = subst (λ (v : ℕ). sector z.sectors img v u ≡ sector z.sectors (onto z F first p w img s e A w0 img0 b t d here gone) v u) (sym y) (sym (disk_here z d there img img0 b.disks t.disks u l))
          by (no y) = b.alike x u i l (other x y q) ∙ sym (disk_other z d there img img0 b.disks t.disks x u i l y)

      told_cur : (k : Place) → (rest z F first p w img s e A w0 img0 b t d here gone) (slot k) ≡ false → cur_of z img k ≡ cur_of z (onto z F first p w img s e A w0 img0 b t d here gone) k
      told_cur k q = cur_alike z img (onto z F first p w img s e A w0 img0 b t d here gone) b.disks onto_disks k (λ u i l. told_sector (slot k) u i l q)

      one_told : Behind z (rest z F first p w img s e A w0 img0 b t d here gone) w img (new_disk z w0 d (onto z F first p w img s e A w0 img0 b t d here gone)) (onto z F first p w img s e A w0 img0 b t d here gone) × Tie z F first p (new_disk z w0 d (onto z F first p w img s e A w0 img0 b t d here gone)) (onto z F first p w img s e A w0 img0 b t d here gone) (chain.has s)
      one_told =
          let y = swap_kept z F first p w0 img0 s d (onto z F first p w img s e A w0 img0 b t d here gone) exchange t in (
            record {
              inner = λ x q. b.inner x (still x q).0;
              lags = record {
                reads = λ k q. ap (λ (f : Image Sector). f k) b.reads ∙ told_cur k q ∙ sym (ap (λ (f : Image Sector). f k) y.reads);
                fewer = λ k v q m. (
                  (λ i. b.lags.certain k v (ap A i ∙ here) m ∙ ap (λ (f : Image Sector). f k) b.reads ∙ told_cur k q),
                  λ n. b.lags.fewer k v (other (slot k) n q) m,
                );
                certain = λ k v q m. b.lags.certain k v (still (slot k) q).0 m;
              };
              disks = b.disks;
              reads = b.reads;
              alike = told_sector;
              blank = λ x o q l. b.blank x o (still x q).0 l;
            },
            y,
          )

    all_told : (i : ℕ) (A : ℕ → Bool) (w0 : World Sector) (img0 : List ℕ) → ((x : ℕ) → i ≤ x → A x ≡ false) → ((x : ℕ) → A x ≡ true → in_mask s.absent x ≡ true) → Behind z A w img w0 img0 → Tie z F first p w0 img0 (chain.has s)
        → (v : World Sector) × Lags nowhere w v × Tie z F first p v img (chain.has s)
    all_told zero A w0 img0 free gone b t =
        let same : img ≡ img0 = same_image z img img0 b.disks t.disks (λ x u i l. b.alike x u i l (free x (omega arith))) in (
          w0,
          record { reads = λ k q. b.lags.reads k (free (slot k) (omega arith)); fewer = λ k v q m. b.lags.fewer k v (free (slot k) (omega arith)) m; certain = λ k v q m. absurd (false≢true q) },
          subst (λ (x : List ℕ). Tie z F first p w0 x (chain.has s)) (sym same) t,
        )
    all_told (suc i) A w0 img0 free gone b t = by (A i) refl (λ A' w0' img0'. all_told i A' w0' img0')
      where
        Goal : Type 1
        Goal = (v : World Sector) × Lags nowhere w v × Tie z F first p v img (chain.has s)

        by : (c : Bool) → A i ≡ c
            → ((A' : ℕ → Bool) (w0' : World Sector) (img0' : List ℕ) → ((x : ℕ) → i ≤ x → A' x ≡ false) → ((x : ℕ) → A' x ≡ true → in_mask s.absent x ≡ true) → Behind z A' w img w0' img0' → Tie z F first p w0' img0' (chain.has s) → Goal) → Goal
        by true q ih =
            let y = one_told A w0 img0 b t i q (gone i q) in
            ih (λ x. A x && not (eqb x i)) (new_disk z w0 i (slot_from z i img img0 z.sectors)) (slot_from z i img img0 z.sectors) (λ x l. past x l (ℕ_discrete x i)) (λ x r. gone x (still A w0 img0 b t i q (gone i q) x r).0) y.0 y.1
          where
            past : (x : ℕ) → i ≤ x → Dec (x ≡ i) → (A x && not (eqb x i)) ≡ false
            past x l (yes r) = ap (λ (c : Bool). A x && not c) (eq-eqb x i r) ∙ by_none (A x)
              where
                by_none : (c : Bool) → (c && false) ≡ false
                by_none true = refl
                by_none false = refl
            past x l (no r) = ap (λ (c : Bool). c && not (eqb x i)) (free x (omega (arith, r)))
        by false q ih = ih A w0 img0 (λ x l. low x l (ℕ_discrete x i)) gone b t
          where
            low : (x : ℕ) → i ≤ x → Dec (x ≡ i) → A x ≡ false
            low x l (yes r) = ap A r ∙ q
            low x l (no r) = free x (omega (arith, r))

  -- ---- A CUT: each old disk is told to hold what is read of it

  module _ (p : View Sector) (w : World Sector) (img : List ℕ) (h : Held) (t : (Late z F first) p w img h) where
    module _ (left : List ℕ) (d : Disks z left) (possible : Possible w (cur_of z left)) where
      cur_out : (k : Place) → t.away (slot k) ≡ false → cur_of z left k ≡ cur_of z (told_left z F first p w img h t left d possible) k
      cur_out k a = cur_alike z left (told_left z F first p w img h t left d possible) d (told_disks z F first p w img h t left d possible) k (λ u i l. (told_alike z F first p w img h t left d possible) (slot k) u i l a)

      cur_in : (k : Place) → t.away (slot k) ≡ true → cur_of z (told_left z F first p w img h t left d possible) k ≡ t.w0.cur k
      unfolding told_left
      cur_in k a = cur_alike z (told_left z F first p w img h t left d possible) t.img0 (told_disks z F first p w img h t left d possible) t.tie.disks k (λ u i l. slots_here z t.away t.img0 left t.tie.disks d (slots z) (omega arith) (slot k) u i l a) ∙ sym (ap (λ (f : Image Sector). f k) t.tie.reads)

      pub told_possible : Possible t.w0 (cur_of z (told_left z F first p w img h t left d possible))
      unfolding Possible Sane
      told_possible k = by (t.away (slot k)) refl
        where
          by : (b : Bool) → t.away (slot k) ≡ b → t.w0.may k (cur_of z (told_left z F first p w img h t left d possible) k)
          by true a = subst (t.w0.may k) (sym (cur_in k a)) ((off z F first p t.tie.reached).keeps.sane k)
          by false a = subst (t.w0.may k) (cur_out k a) (t.behind.lags.fewer k (cur_of z left k) a (possible k))

      pub late_cut : (Late z F first) p (after (cur_of z left)) left none
      unfolding Possible after
      late_cut =
          record { away = t.away; w0 = after (cur_of z (told_left z F first p w img h t left d possible)); img0 = (told_left z F first p w img h t left d possible); behind = behind; tie = cut_kept z F first p t.w0 t.img0 (hand_of z h) (told_left z F first p w img h t left d possible) (told_disks z F first p w img h t left d possible) told_possible t.tie; waits = tt }
        where
          bare : (e o : ℕ) → t.away e ≡ true → o < 2 → copy_of (geometry z) left e o ≡ None
          bare e o a l =
              let b = side o l in
              let k : Place = label e b.0 in
              let same : cur_of z left k ≡ cur_of z img k = t.behind.lags.certain k (cur_of z left k) a (possible k) ∙ ap (λ (f : Image Sector). f k) t.behind.reads in
              subst (λ (x : ℕ). copy_of (geometry z) left e x ≡ None) b.1 (label_alike z left img d t.behind.disks e b.0 (t.behind.inner e a) same ∙ ap (copy_of (geometry z) img e) b.1 ∙ t.behind.blank e o a l)

          behind : Behind z t.away (after (cur_of z left)) left (after (cur_of z (told_left z F first p w img h t left d possible))) (told_left z F first p w img h t left d possible)
          behind =
              record {
                inner = t.behind.inner;
                lags = record { reads = cur_out; fewer = λ k v a m. m ∙ cur_out k a; certain = λ k v a m. m };
                disks = d;
                reads = refl;
                alike = (told_alike z F first p w img h t left d possible);
                blank = bare;
              }

    -- ---- A START-UP

    pub late_own : (d o : ℕ) (a : bytes.Label) → d < slots z → o < 2 → copy_of (geometry z) img d o ≡ Some a → ours z a ≡ true
    late_own d o a i l e = by (t.away d) refl
      where
        by : (b : Bool) → t.away d ≡ b → ours z a ≡ true
        by true q = absurd (not_valid z a (sym (t.behind.blank d o q l) ∙ e))
        by false q = ours_in z F first p t.w0 t.img0 (hand_of z h) t.tie d o a i l (sym (copy_alike z img t.img0 t.behind.disks t.tie.disks d o i l (t.behind.alike d o i (few_low z o l) q)) ∙ e)

    module _ (s : State) (absent : ℕ) (work : List ℕ) where
      refused_start : (why : Refusal) → survey_of (geometry z) img absent ≡ Err why → (After z F first p w img h t s absent work) (start_of (geometry z) absent img (length work))
      refused_start why e = subst (λ (x : Survey). (After z F first p w img h t s absent work) (by_survey x (geometry z) absent img (length work))) (sym e) (inr t)

      blind_start : ((e : ℕ) → e < slots z → t.away e ≡ true → in_mask absent e ≡ true) → (g : Geometry) → g ≡ geometry z → start_of g absent img (length work) ≡ start_of g absent t.img0 (length work)
      unfolding Shape
      blind_start all g e =
          start_blind g absent (length work) img t.img0
          (record {
            lengths = t.behind.disks.shape ∙ sym t.tie.disks.shape;
            sectors = λ d u i l n.
                let j : d < slots z = subst (λ (x : Geometry). d < x.n) e i in
                let m : u < z.sectors = subst (λ (x : Geometry). u < x.sectors) e l in
                subst (λ (x : Geometry). sector x.sectors img d u ≡ sector x.sectors t.img0 d u) (sym e) (t.behind.alike d u j m (present d j n));
          })
        where
          present : (d : ℕ) → d < slots z → in_mask absent d ≡ false → t.away d ≡ false
          present d i n = by (t.away d) refl
            where
              by : (b : Bool) → t.away d ≡ b → b ≡ false
              by true q = absurd (true≢false (sym (all d i q) ∙ n))
              by false q = refl

      told_start : ((e : ℕ) → t.away e ≡ true → in_mask absent e ≡ true) → Tie z F first p t.w0 t.img0 (handed (hand_of z h) (start_of (geometry z) absent t.img0 (length work))) → (After z F first p w img h t s absent work) (start_of (geometry z) absent t.img0 (length work))
      told_start all = by (survey_of (geometry z) t.img0 absent)
        where
          by : (x : Survey) → Tie z F first p t.w0 t.img0 (handed (hand_of z h) (by_survey x (geometry z) absent t.img0 (length work))) → (After z F first p w img h t s absent work) (by_survey x (geometry z) absent t.img0 (length work))
          by (Err why) y = inr t
          by (Ok plan) y = go (eqb (length work) (work_bytes (slots z) z.c)) y
            where
              go : (b : Bool) → Tie z F first p t.w0 t.img0 (handed (hand_of z h) (cond b (Ok (started (geometry z) absent plan t.img0)) (Err BadBuffer)))
                  → (After z F first p w img h t s absent work) (cond b (Ok (started (geometry z) absent plan t.img0)) (Err BadBuffer))
              go true y = inr (record { away = t.away; w0 = t.w0; img0 = t.img0; behind = t.behind; tie = y; waits = inl (refl, all) })
              go false y = inr t

      pub late_start : (g : Geometry) → Sits z g absent → Allowed z F (outs (start_of g absent img (length work))) → (After z F first p w img h t s absent work) (start_of g absent img (length work))
      late_start g sits ok = ⊎_elim same other (same_numbers z g)
        where
          other : (g ≡ geometry z → ⊥) → (After z F first p w img h t s absent work) (start_of g absent img (length work))
          other n = subst (λ (x : Survey). (After z F first p w img h t s absent work) (by_survey x g absent img (length work))) (sym (start_other z img t.behind.disks late_own g absent n sits)) (inr t)

          same : g ≡ geometry z → (After z F first p w img h t s absent work) (start_of g absent img (length work))
          same e =
              ⊎_elim
              (λ (all : (x : ℕ) → x < slots z → t.away x ≡ true → in_mask absent x ≡ true).
              let y = blind_start all g e in
              subst (λ (b : Begun). (After z F first p w img h t s absent work) b) (sym y)
              (subst (λ (x : Geometry). (After z F first p w img h t s absent work) (start_of x absent t.img0 (length work))) (sym e)
              (told_start (λ x q. all x (t.behind.inner x q) q)
              (subst (λ (x : Geometry). Tie z F first p t.w0 t.img0 (handed (hand_of z h) (start_of x absent t.img0 (length work)))) e
              (start_any z F first p t.w0 t.img0 (hand_of z h) s g absent (length work) sits (subst (λ (b : Begun). Allowed z F (outs b)) y ok) t.tie)))))
              (λ (x : (d : ℕ) × (d < slots z) × (t.away d ≡ true) × (in_mask absent d ≡ false)).
              subst (λ (y : Geometry). (After z F first p w img h t s absent work) (start_of y absent img (length work))) (sym e) (refused_start NoLabel (unlabelled z img t.behind.disks absent x.0 x.1 x.3 (λ o l. t.behind.blank x.0 o x.2 l))))
              (covers z t.away absent (slots z))

  -- ---- A STEP of such a start-up is told on the old disks; when it comes to rest, all is told

  -- the state goes on, or the request is done
  kept_or_done : (s : State) (work img : List ℕ) (m : Move) (l : List (Action Sector)) → Does z work img s m l → ((m.stepped.state.kind ≡ s.kind) × (m.stepped.state.absent ≡ s.absent)) ⊎ (m ≡ finished s img)
  kept_or_done s work img m [] h = inr h
  kept_or_done s work img m (put k v ∷ l) h =
      inl (ap (λ (x : Move). x.stepped.state.kind) h.is ∙ ap (λ (x : State). x.kind) h.kept, ap (λ (x : Move). x.stepped.state.absent) h.is ∙ ap (λ (x : State). x.absent) h.kept)
  kept_or_done s work img m (flush d ∷ l) h =
      inl (ap (λ (x : Move). x.stepped.state.kind) h.is ∙ ap (λ (x : State). x.kind) h.kept, ap (λ (x : Move). x.stepped.state.absent) h.is ∙ ap (λ (x : State). x.absent) h.kept)

  module _ (p : View Sector) (w : World Sector) (img : List ℕ) (s : State) (work : List ℕ) (t : (Late z F first) p w img (has s work)) (up : Starts z t.away s) where
    busy : (k : Kind) → s.kind ≡ k → starting k ≡ false → ⊥
    busy k e f = true≢false (sym (ap starting up.0) ∙ ap starting e ∙ f)

    fair0 : Fair z s [] t.img0
    fair0 = ⊎_elim (λ (f : Fair z s [] t.img0 × (plain s.kind ≡ true)). f.0) (λ (q : (s.kind ≡ Idle) × (ours z s.now ≡ true)). absurd (busy Idle q.0 refl)) t.tie.order.1

    pub fair : Fair z s [] img
    fair = record { in_range_lem = fair0.in_range_lem; ours_now = fair0.ours_now; disks = t.behind.disks; narrow = fair0.narrow; stages = fair0.stages }

    g_is : geometry_of s.now ≡ geometry z
    g_is = shelf_geometry z s.now fair0.ours_now

    lengths : length img ≡ length t.img0
    lengths = same_length z img t.img0 t.behind.disks t.tie.disks

    same : (m0 z F first p w img s work t up).stepped ≡ (m z F first p w img s work t up).stepped
    same = sym (step_blind s work img t.img0 lengths)

    legal : (x : List ℕ) → Legal (step_move s work x).stepped.answer s.absent (geometry z) x (step_move s work x).image
    legal x = subst (λ (g : Geometry). Legal (step_move s work x).stepped.answer s.absent g x (step_move s work x).image) g_is (step_one s work x)

    absent_same : (x : List ℕ) (e u : ℕ) → e < slots z → u < z.sectors → in_mask s.absent e ≡ true → sector z.sectors (step_move s work x).image e u ≡ sector z.sectors x e u
    absent_same x = absent_kept s (geometry z) x (step_move s work x).image (step_move s work x).stepped.answer (legal x)

    agree : Agree s.absent (geometry z) (m z F first p w img s work t up).image (m0 z F first p w img s work t up).image
    agree =
        subst (λ (g : Geometry). Agree s.absent g (step_move s work img).image (step_move s work t.img0).image) g_is
        (step_agrees s work img t.img0 lengths (subst (λ (g : Geometry). Agree s.absent g img t.img0) (sym g_is) (λ e u i l n. t.behind.alike e u i l ((present z F first p w img s work t up) e n))))

    then_alike : (e u : ℕ) → e < slots z → u < z.sectors → t.away e ≡ false → sector z.sectors (m z F first p w img s work t up).image e u ≡ sector z.sectors (m0 z F first p w img s work t up).image e u
    then_alike e u i l a = by (in_mask s.absent e) refl
      where
        by : (b : Bool) → in_mask s.absent e ≡ b → sector z.sectors (m z F first p w img s work t up).image e u ≡ sector z.sectors (m0 z F first p w img s work t up).image e u
        by true q = absent_same img e u i l q ∙ t.behind.alike e u i l a ∙ sym (absent_same t.img0 e u i l q)
        by false q = agree e u i l q

    then_disks : (x : List ℕ) → Disks z x → Fair z s [] x → Disks z (step_move s work x).image
    then_disks x d f = ⊎_elim (λ (y : Fair z (step_move s work x).stepped.state [] (step_move s work x).image). y.disks) (λ (y : step_move s work x ≡ finished s x). subst (λ (v : Move). Disks z v.image) (sym y) d) (step_tied z s [] work x (plainly z F first p w img s work t up) f).goes_on

    module _ (w' : World Sector) (h : Heard z w (m z F first p w img s work t up).stepped.answer (m z F first p w img s work t up).image w') where
      then_reads : w'.cur ≡ cur_of z (m z F first p w img s work t up).image
      then_reads =
          let d = step_tied z s [] work img (plainly z F first p w img s work t up) fair in
          let r = d.acts w t.behind.reads in
          sym (ap (λ (v : World Sector). v.cur) (heard_is z F first p w w' (m z F first p w img s work t up).image d.reply (m z F first p w img s work t up).stepped.answer d.answers r h)) ∙ r

      heard_told : (v : World Sector) × Heard z t.w0 (m z F first p w img s work t up).stepped.answer (m0 z F first p w img s work t up).image v × Lags t.away w' v
      heard_told =
          lags_heard z t.away w t.w0 (m z F first p w img s work t up).stepped.answer (m z F first p w img s work t up).image (m0 z F first p w img s work t up).image w' t.behind.lags (λ e q. (present z F first p w img s work t up) e (touch_present s (geometry z) img (m z F first p w img s work t up).image (m z F first p w img s work t up).stepped.answer (legal img) e q))
          (λ k a. cur_alike z (m z F first p w img s work t up).image (m0 z F first p w img s work t up).image (then_disks img t.behind.disks fair) (then_disks t.img0 t.tie.disks fair0) k (λ u i l. then_alike (slot k) u i l a)) h

      then_behind : Behind z t.away w' (m z F first p w img s work t up).image heard_told.0 (m0 z F first p w img s work t up).image
      then_behind =
          let d = then_disks img t.behind.disks fair in
          record {
            inner = t.behind.inner;
            lags = heard_told.2;
            disks = d;
            reads = then_reads;
            alike = then_alike;
            blank = λ e o q l. copy_alike z (m z F first p w img s work t up).image img d t.behind.disks e o (t.behind.inner e q) l (absent_same img e o (t.behind.inner e q) (few_low z o l) (up.1 e q)) ∙ t.behind.blank e o q l;
          }

      told_step : other_work s.now (length img) (length work) ≡ false → (q : View Sector) × SawStep s.kind (m z F first p w img s work t up).stepped.answer p q × Bound z F first q heard_told.0 (m0 z F first p w img s work t up).image (has (m z F first p w img s work t up).stepped.state work)
      told_step e =
          let e0 : other_work s.now (length t.img0) (length work) ≡ false = ap (λ (n : ℕ). other_work s.now n (length work)) (sym lengths) ∙ e in
          let goes : step_with s t.img0 work ≡ (m0 z F first p w img s work t up) = step_goes s t.img0 work fair0.in_range_lem e0 in
          let heard : Heard z t.w0 (step_with s t.img0 work).stepped.answer (step_with s t.img0 work).image heard_told.0 =
          subst (λ (v : Move). Heard z t.w0 v.stepped.answer v.image heard_told.0) (sym goes) (subst (λ (v : Told). Heard z t.w0 v.answer (m0 z F first p w img s work t up).image heard_told.0) (sym same) heard_told.1) in
          let r = call_bound z F first (steps {w = t.w0} {w' = heard_told.0} {img = t.img0} {s = s} {work = work} heard) (λ a n. absurd (Memᴰ.not-nil n)) p (inl t.tie) in
          subst (λ (v : Told). (q : View Sector) × SawStep s.kind v.answer p q × Bound z F first q heard_told.0 (m0 z F first p w img s work t up).image (has v.state work)) same
          (subst (λ (v : Move). (q : View Sector) × SawStep s.kind v.stepped.answer p q × Bound z F first q heard_told.0 v.image (has v.stepped.state work)) goes r)

      stands_then : (q : View Sector) → Bound z F first q heard_told.0 (m0 z F first p w img s work t up).image (has (m z F first p w img s work t up).stepped.state work) → (StandsAt z F first) q (at w' (m z F first p w img s work t up).image (has (m z F first p w img s work t up).stepped.state work))
      stands_then q b = ⊎_elim on over (kept_or_done s work img (m z F first p w img s work t up) (to_do z s work img) (step_does z work img s (fair_work z [] work s img (plainly z F first p w img s work t up) fair)))
        where
          on : ((m z F first p w img s work t up).stepped.state.kind ≡ s.kind) × ((m z F first p w img s work t up).stepped.state.absent ≡ s.absent) → (StandsAt z F first) q (at w' (m z F first p w img s work t up).image (has (m z F first p w img s work t up).stepped.state work))
          on k = go b
            where
              go : Bound z F first q heard_told.0 (m0 z F first p w img s work t up).image (has (m z F first p w img s work t up).stepped.state work) → (StandsAt z F first) q (at w' (m z F first p w img s work t up).image (has (m z F first p w img s work t up).stepped.state work))
              go (inl y) = inr (record { away = t.away; w0 = heard_told.0; img0 = (m0 z F first p w img s work t up).image; behind = then_behind; tie = y; waits = inl (k.0 ∙ up.0, λ e r. ap (λ (a : ℕ). in_mask a e) k.1 ∙ up.1 e r) })
              go (inr (inl y)) = absurd (busy Writing (sym k.0 ∙ y.writes.kind) refl)
              go (inr (inr (inl y))) = absurd (busy Beginning (sym k.0 ∙ y.kind) refl)
              go (inr (inr (inr y))) = absurd (busy Filling (sym k.0 ∙ y.refills.kind) refl)

          over : (m z F first p w img s work t up) ≡ finished s img → (StandsAt z F first) q (at w' (m z F first p w img s work t up).image (has (m z F first p w img s work t up).stepped.state work))
          over k = go b
            where
              rests : (m z F first p w img s work t up).stepped.state.kind ≡ Idle
              rests = ap (λ (x : Move). x.stepped.state.kind) k

              free : (e : ℕ) → slots z ≤ e → t.away e ≡ false
              free e l = by (t.away e) refl
                where
                  by : (c : Bool) → t.away e ≡ c → c ≡ false
                  by true r = absurd (omega (arith, l, t.behind.inner e r))
                  by false r = refl

              go : Bound z F first q heard_told.0 (m0 z F first p w img s work t up).image (has (m z F first p w img s work t up).stepped.state work) → (StandsAt z F first) q (at w' (m z F first p w img s work t up).image (has (m z F first p w img s work t up).stepped.state work))
              go (inl y) =
                  let a = all_told q w' (m z F first p w img s work t up).image (m z F first p w img s work t up).stepped.state rests (slots z) t.away heard_told.0 (m0 z F first p w img s work t up).image free (λ e r. ap (λ (x : Move). in_mask x.stepped.state.absent e) k ∙ up.1 e r) then_behind y in
                  inl (a.0, a.1, inl a.2)
              go (inr y) = absurd (not_rest z F first q heard_told.0 (m0 z F first p w img s work t up).image (m z F first p w img s work t up).stepped.state work y (ap is_idle rests))

    pub late_step : (w' : World Sector) → Heard z w (step_with s img work).stepped.answer (step_with s img work).image w'
        → (q : View Sector) × SawStep s.kind (step_with s img work).stepped.answer p q × (StandsAt z F first) q (at w' (step_with s img work).image (has (step_with s img work).stepped.state work))
    late_step w' h = by (other_work s.now (length img) (length work)) refl
      where
        Goal : Move → Type 1
        Goal v = (q : View Sector) × SawStep s.kind v.stepped.answer p q × (StandsAt z F first) q (at w' v.image (has v.stepped.state work))

        by : (b : Bool) → other_work s.now (length img) (length work) ≡ b → Goal (step_with s img work)
        by true e =
            subst (λ (v : Move). Heard z w v.stepped.answer v.image w' → Goal v) (sym (step_short s img work fair0.in_range_lem e))
            (λ i. (p, subst (λ (k : Kind). SawStep k (answer.Refused BadBuffer) p p) (sym up.0) refl, subst (λ (x : World Sector). (StandsAt z F first) p (at x img (has s work))) (sym i) (inr t))) h
        by false e =
            subst (λ (v : Move). Heard z w v.stepped.answer v.image w' → Goal v) (sym (step_goes s img work fair0.in_range_lem e))
            (λ i. let y = told_step w' i e in (y.0, y.1, stands_then w' i y.0 y.2)) h
