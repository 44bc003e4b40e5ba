-- THE PROMISE WHILE STRIPS ROT: sectors of a strip change by themselves, of at most one strip of a stripe, while nothing is being written there. The disks are compared with clean ones
-- (Veil), which satisfy the old invariant; a repair is on these a refresh (Refresh). So the host's list goes on as it is allowed to (`rot_promise`), reads of blocks that are fine
-- give its entries, and the acknowledgement of a repair, or of a write into a rotten stripe, ends the rot there. Assumes nothing.
use Prim.Native.Nat.{ℕ, suc, ◌≤◌, ◌<◌}
use Rattle.std.specs.Prelude.{◌≡◌, Bool, ◌&&◌, ◌⊎◌, ◌≢◌}
use Rattle.std.proofs.Math.Path.{refl, sym, ap, subst, fun_ext}
use Rattle.std.proofs.Common.{◌∙◌, true≢false, ⊎_elim, inl, inr, arith}
use Rattle.std.proofs.Math.Bool.{true, false, cond, not}
use Rattle.std.proofs.lemmas.Bool.{false≢true}
use mathlib.Core.List.{List, [], ◌∷◌, ◌++◌}
use Rattle.std.proofs.Math.Decide.{ℕ_discrete}
use Rattle.std.proofs.Math.Dec.{eqb, ltb}
use borrow.Author.Tests.{eq-eqb, ne_eqb, eqb-true, eqb-false, ltb-true, ltb-false, not-true}
use Rattle.protocol.proofs.Told.{rounds_told, turn_told}
use Rattle.protocol.specs.World.{Place, label, log, strip, slot, Image, World, Action, act, run, after, Possible, Sane, Always, During, sane_act, sane_run, always_cur, during_start}
use Rattle.protocol.specs.Slots.{from, in_from, of_from, every_of, every_all}
use Rattle.protocol.specs.Log.{Write, RecordCodec, Belief, Quiet}
use Rattle.protocol.specs.Write.{log_write, store_batch}
use Rattle.protocol.specs.Redo.{whole, complete_b, forward, marked, kill_batch, redo}
use Rattle.protocol.specs.Label.{Label, copy, last_side, expel_batch, prep_batch, Size, looked, believed, belief, Quorum, LabelCodec}
use Rattle.protocol.proofs.Label.{believe_is}
use Rattle.protocol.specs.Startup.{gone, level_to, again_to, last_to, rounds}
use Rattle.protocol.specs.Decide.{in_turn, startup, Rest}
use Rattle.protocol.specs.Request.{outed}
use Rattle.protocol.specs.Swap.{Swapped}
use Rattle.protocol.specs.Host.{Host, Blocks, Finding, blames, unsound, all_sound, accused, several, Change, one_block, all_blocks, changed, set_block, replace, Code, table, proper, reached, read, read_through, write_of, strips_of, mend, accused_slot, repair_of, whole_change, missing}
use Rattle.protocol.proofs.Host.{few_missing, read_right}
use Rattle.protocol.specs.Program.{Stamps, Medium, Refusal, TOO_FEW, BAD_BLOCK, BUSY, NOT_NOW, Verdict, clear, because, Own, Kind, creating, starting, logging, storing, labelling, Memory, nothing, idle, doing, Input, create, start, read_block, write, take_out, begin, rebuild_on, scrub_stripe, repair, step, Reply, accepted, refused, did, safe, done, block, found, mask, left_out, beyond, ask_log, all_in, finding, change_made, all_believed, asked_create, may_create, asked_start, may_start, asked_out, asked_begin, asked_on, asked_heal, asked_raise, at_least_one, last_batch, asked_write, asked_repair, may, also, may_repair, answer, from_nothing, from_idle, one_step, meanwhile, scrubbed, unseen, back_in, program}
use Rattle.protocol.specs.Machine.{Machine, at, effect, Event, disk_swapped, from_outside, from_host, View, sure, open_write, kept_write, list_of, Accepting, Saved, Ended, Gives, Answered}
use Rattle.protocol.specs.Invariant.{Ready, Invariant, Off}
use Rattle.protocol.proofs.Promise.{simulate, in_range_lem, scrub_tests, repair_tests, ready_off, off_cut, memory_off, quiet_seen, found_sound, made_as_asked, may_repair_tests}
use Rattle.protocol.specs.Refresh.{Stored}
use Rattle.protocol.proofs.Refresh.{store_done, refresh}
use Rattle.protocol.specs.Veil.{Rot, rotten, OneEach, spread, mended, either, two, mended_one, Agree, Veiled, veiled_act, veiled_run, cleaned, cleaned_agrees, cleaned_possible, veiled_cut, veiled_stored, Decayed, veiled_decay}
use Rattle.protocol.specs.Rot.{bones, same_bones, Listed, Fine, RotAccepts, RotSaved, RotEnded, RotGives, RotFinds, RotAnswered, Mending, stores_of, Holds, Stores, Rotten, if_done, rot_after, label_of, Follows, seen, seen_c, wr, σ, o', whole_of, Allowed, ends_it, seen_w, strips_w, strips_c, Still, RotHappens, RotRuns, RottenAt, Onward, Promised, no_rot, cut_off, died, swapped, asked, stays, goes, decays}

module _ {X : Type 0} (z : Size) (W : Quorum z.n) (C : LabelCodec X z.n) (K : RecordCodec X) (E : Code X z.n K.c W) (S : Stamps) (R : Medium z W C K E S) where
  module _ (rot : Rot) (f g : Image X) (same : Agree K.c rot f g) where
    -- stripes in which nothing is rotten look the same
    same_strips : (t : ℕ) → ((d : ℕ) → rot d t ≡ false) → strips_of z W K E f t ≡ strips_of z W K E g t
    same_strips t none = fun_ext (λ d. fun_ext (λ j. same (strip d t j) (rw (none d))))

    same_all : ((d t : ℕ) → rot d t ≡ false) → f ≡ g
    same_all none = fun_ext (λ k. go k)
      where
        go : (k : Place) → f k ≡ g k
        go (label d b) = same (label d b) refl
        go (log d j) = same (log d j) refl
        go (strip d t j) = same (strip d t j) (rw (none d t))

    pub mask_same : (A : ℕ → Bool) → Agree K.c rot (mask z W C K E S R A f) (mask z W C K E S R A g)
    unfolding mask
    mask_same A k e = go (A (slot k))
      where
        go : (b : Bool) → cond b K.zeros (f k) ≡ cond b K.zeros (g k)
        go true = refl
        go false = same k e

  start_bones : (A : ℕ → Bool) (f : Image X) → from_nothing z W C K E S R f (start A) ≡ from_nothing z W C K E S R ((bones z W C K E S R) f) (start A)
  unfolding copy gone left_out startup in_turn rounds level_to again_to last_to prep_batch redo whole complete_b forward marked kill_batch store_batch
  start_bones A f =
      let told1 = rounds_told in
      let told2 = turn_told in
      refl

  begin_bones : (o : Own) (d : ℕ) (f : Image X) → from_idle z W C K E S R o f (begin d) ≡ from_idle z W C K E S R o ((bones z W C K E S R) f) (begin d)
  unfolding copy last_side expel_batch prep_batch
  begin_bones o d f = refl

  -- a write looks at its own stripe
  write_strips : (o : Own) (t : ℕ) (ch : Change X) (f g : Image X) → strips_of z W K E f t ≡ strips_of z W K E g t → asked_write z W C K E S R o f t ch ≡ asked_write z W C K E S R o g t ch
  unfolding write_of change_made whole_change read
  write_strips o t ch f g e = ap (λ (y : ℕ → ℕ → X). written y) e
    where
      made : (ℕ → ℕ → X) → Change X
      made y = cond (all_believed z W C K E S R o t && unsound (E.scrub t y)) (all_blocks (changed ch (E.blocks t (missing z W K E o.now t) (mend z W K E t (E.scrub t y) y)))) ch

      written : (ℕ → ℕ → X) → Memory X
      written y = ask_log z W C K E S R o (record { stripe = t; changes = reached z W K E t (made y); new = E.shard t (changed (made y) (E.blocks t (missing z W K E o.now t) y)) })

  -- what is promised without rot is more
  accepts_rot : (i : Input X) (p p' : View X) → Accepting i p p' → (RotAccepts z W C K E S R) i p p'
  accepts_rot create p p' h = h
  accepts_rot (start A) p p' h = h
  accepts_rot (read_block t i) p p' h = h
  accepts_rot (write t ch) (sure v) p' h = (replace v t ch, h, λ a b c x y q. refl)
  accepts_rot (write t ch) (open_write v v') p' h = h
  accepts_rot (write t ch) (kept_write v') p' h = h
  accepts_rot (take_out d) p p' h = h
  accepts_rot (begin d) p p' h = h
  accepts_rot (rebuild_on b) p p' h = h
  accepts_rot (scrub_stripe t) p p' h = h
  accepts_rot (repair t) p p' h = h
  accepts_rot step p p' h = h

  ended_rot : (k : Kind X) (p p' : View X) → Ended k p p' → (RotEnded z W C K E S R) k p p'
  ended_rot creating p p' h = h
  ended_rot starting p p' h = h
  ended_rot (logging w) p p' h = h
  ended_rot (storing w) (sure v) p' h = absurd h
  ended_rot (storing w) (open_write v v') p' h = h
  ended_rot (storing w) (kept_write v') p' h = h
  ended_rot labelling p p' h = h

  saved_rot : (p p' : View X) → Saved p p' → (RotSaved z W C K E S R) p p'
  saved_rot (sure v) p' h = absurd h
  saved_rot (open_write v v') p' h = h
  saved_rot (kept_write v') p' h = h

  gives_rot : (rot : Rot) (Q : Label) (b : ℕ → X) (i : Input X) (p p' : View X) → Gives K.c b i p p' → (RotGives z W C K E S R) rot Q b i p p'
  gives_rot rot Q b create p p' h = h
  gives_rot rot Q b (start A) p p' h = h
  gives_rot rot Q b (read_block t i) p p' h = (h.0, λ j g f. h.1 j g)
  gives_rot rot Q b (write t ch) p p' h = h
  gives_rot rot Q b (take_out d) p p' h = h
  gives_rot rot Q b (begin d) p p' h = h
  gives_rot rot Q b (rebuild_on x) p p' h = h
  gives_rot rot Q b (scrub_stripe t) p p' h = h
  gives_rot rot Q b (repair t) p p' h = h
  gives_rot rot Q b step p p' h = h

  finds_rot : (rot : Rot) (x : Finding) (i : Input X) → x ≡ all_sound → (RotFinds z W C K E S R) rot x i
  finds_rot rot x create h = h
  finds_rot rot x (start A) h = h
  finds_rot rot x (read_block t i) h = h
  finds_rot rot x (write t ch) h = h
  finds_rot rot x (take_out d) h = h
  finds_rot rot x (begin d) h = h
  finds_rot rot x (rebuild_on b) h = h
  finds_rot rot x (scrub_stripe t) h = λ n. h
  finds_rot rot x (repair t) h = h
  finds_rot rot x step h = h

  answered_rot : (rot : Rot) (Q : Label) (i : Input X) (r : Reply X) (p p' : View X) → Answered K.c i r p p' → (RotAnswered z W C K E S R) rot Q i r p p'
  answered_rot rot Q i accepted p p' h = accepts_rot i p p' h
  answered_rot rot Q i (refused why) p p' h = h
  answered_rot rot Q i (did a) p p' h = h
  answered_rot rot Q i safe p p' h = saved_rot p p' h
  answered_rot rot Q i (done k) p p' h = ended_rot k p p' h
  answered_rot rot Q i (block b) p p' h = gives_rot rot Q b i p p' h
  answered_rot rot Q i (found x) p p' h = (h.0, finds_rot rot x i h.1)

  mending_ready : (v : Host X) (wr : Write X) (c : World X) (l : List (Action X)) (o o' : Own) → (Mending z W C K E S R) v wr c l o o' → Ready z W C K E S R v c o'
  mending_ready v wr c l o o' h =
      record {
        history = h.history;
        u = h.u;
        used = h.used;
        early = h.early;
        born = h.born;
        epoch_now = h.epoch_now;
        sound = h.sound;
        most = h.most;
        rest = during_start (Rest z W C K h.history h.u o'.now (table z W K E v)) c l h.during;
        dark = h.dark;
      }

  mending_act : (v : Host X) (wr : Write X) (c : World X) (a : Action X) (l : List (Action X)) (o o' : Own) → (Mending z W C K E S R) v wr c (a ∷ l) o o' → (Mending z W C K E S R) v wr (act c a) l o o'
  mending_act v wr c a l o o' h =
      record {
        sane = sane_act c a h.sane;
        history = h.history;
        u = h.u;
        used = h.used;
        stamped = h.stamped;
        last = h.last;
        early = h.early;
        born = h.born;
        epoch_now = h.epoch_now;
        sound = h.sound;
        most = h.most;
        dark = h.dark;
        same_now = h.same_now;
        same_absent = h.same_absent;
        during = h.during.1;
        right = h.right;
      }

  inv_holds : (m : Memory X) (p : View X) (c : World X) → Invariant z W C K E S R (at c m) p → (Holds z W C K E S R) m p c
  inv_holds nothing p c h = h
  inv_holds (idle o) p c h = h
  inv_holds (doing creating l o o') p c h = h
  inv_holds (doing starting l o o') p c h = h
  inv_holds (doing (logging wr) l o o') (sure v) c h = absurd h.reads
  inv_holds (doing (logging wr) l o o') (open_write v v') c h = h
  inv_holds (doing (logging wr) l o o') (kept_write v') c h = h
  inv_holds (doing (storing wr) l o o') (sure v) c h = absurd h.reads
  inv_holds (doing (storing wr) l o o') (open_write v v') c h = h
  inv_holds (doing (storing wr) l o o') (kept_write v') c h = h
  inv_holds (doing labelling l o o') p c h = h

  -- what a cut or a program that dies leaves of it
  holds_off : (m : Memory X) (p : View X) (c : World X) → (Holds z W C K E S R) m p c → Off z W C K E S R p c
  holds_off nothing p c h = memory_off z W C K E S R c nothing p h
  holds_off (idle o) p c h = memory_off z W C K E S R c (idle o) p h
  holds_off (doing creating l o o') p c h = memory_off z W C K E S R c (doing creating l o o') p h
  holds_off (doing starting l o o') p c h = memory_off z W C K E S R c (doing starting l o o') p h
  holds_off (doing (logging wr) l o o') (sure v) c h = ready_off z W C K E S R v c o' h.sane (mending_ready v wr c (l ++ (stores_of z W C K E S R) o wr) o o' h)
  holds_off (doing (logging wr) l o o') (open_write v v') c h = memory_off z W C K E S R c (doing (logging wr) l o o') (open_write v v') h
  holds_off (doing (logging wr) l o o') (kept_write v') c h = memory_off z W C K E S R c (doing (logging wr) l o o') (kept_write v') h
  holds_off (doing (storing wr) l o o') (sure v) c h = ready_off z W C K E S R v c o' h.sane (mending_ready v wr c l o o' h)
  holds_off (doing (storing wr) l o o') (open_write v v') c h = memory_off z W C K E S R c (doing (storing wr) l o o') (open_write v v') h
  holds_off (doing (storing wr) l o o') (kept_write v') c h = memory_off z W C K E S R c (doing (storing wr) l o o') (kept_write v') h
  holds_off (doing labelling l o o') p c h = memory_off z W C K E S R c (doing labelling l o o') p h

  -- EVENTS
  veiled_effect : (rot : Rot) (w c : World X) (r : Reply X) → Veiled K.c rot w c → Veiled K.c rot (effect w r) (effect c r)
  veiled_effect rot w c accepted h = h
  veiled_effect rot w c (refused why) h = h
  veiled_effect rot w c (did a) h = veiled_act K.c rot w c a h
  veiled_effect rot w c safe h = h
  veiled_effect rot w c (done k) h = h
  veiled_effect rot w c (block b) h = h
  veiled_effect rot w c (found x) h = h

  plain_answer : (m : Memory X) (y : Verdict) (m' : Memory X) (r : Reply X) (w c : World X) → (Stores z W C K E S R) m w c → (Stores z W C K E S R) m' w c → (Stores z W C K E S R) (answer z W C K E S R m y m' r).0 w c
  plain_answer m clear m' r w c a b = b
  plain_answer m (because why) m' r w c a b = a

  plain_nothing : (f : Image X) (i : Input X) (w c : World X) → (Stores z W C K E S R) (from_nothing z W C K E S R f i).0 w c
  plain_nothing f create w c = plain_answer nothing (may_create z W C K E S R f) (asked_create z W C K E S R) accepted w c tt tt
  plain_nothing f (start A) w c = plain_answer nothing (may_start z W C K E S R (beyond z.n A) f) (asked_start z W C K E S R (beyond z.n A) f) accepted w c tt tt
  plain_nothing f (read_block t i) w c = tt
  plain_nothing f (write t ch) w c = tt
  plain_nothing f (take_out d) w c = tt
  plain_nothing f (begin d) w c = tt
  plain_nothing f (rebuild_on b) w c = tt
  plain_nothing f (scrub_stripe t) w c = tt
  plain_nothing f (repair t) w c = tt
  plain_nothing f step w c = tt

  plain_idle : (o : Own) (f : Image X) (i : Input X) (w c : World X) → (Stores z W C K E S R) (from_idle z W C K E S R o f i).0 w c
  plain_idle o f create w c = plain_answer (idle o) (may z W C K E S R false o create) (idle o) accepted w c tt tt
  plain_idle o f (start A) w c = plain_answer (idle o) (may z W C K E S R false o (start A)) (idle o) accepted w c tt tt
  plain_idle o f (read_block t i) w c = plain_answer (idle o) (may z W C K E S R false o (read_block t i)) (idle o) (block (read z W K E o.now f t i)) w c tt tt
  plain_idle o f (write t ch) w c = plain_answer (idle o) (may z W C K E S R false o (write t ch)) (asked_write z W C K E S R o f t ch) accepted w c tt tt
  plain_idle o f (take_out d) w c = plain_answer (idle o) (may z W C K E S R false o (take_out d)) (asked_out z W C K E S R o d) accepted w c tt tt
  plain_idle o f (begin d) w c = plain_answer (idle o) (may z W C K E S R false o (begin d)) (asked_begin z W C K E S R o f d) accepted w c tt tt
  plain_idle o f (rebuild_on b) w c = plain_answer (idle o) (may z W C K E S R false o (rebuild_on b)) (asked_on z W C K E S R o f b) accepted w c tt (go (last_batch z W C K E S R o b))
    where
      go : (y : Bool) → (Stores z W C K E S R) (cond y (asked_heal z W C K E S R o f) (asked_raise z W C K E S R o f (at_least_one z W C K E S R b))) w c
      go true = tt
      go false = tt
  plain_idle o f (scrub_stripe t) w c = plain_answer (idle o) (may z W C K E S R false o (scrub_stripe t)) (idle o) (found (E.scrub t (λ d j. f (strip d t j)))) w c tt tt
  plain_idle o f (repair t) w c = plain_answer (idle o) (may_repair z W C K E S R false o f t) (asked_repair z W C K E S R o f t) accepted w c tt tt
  plain_idle o f step w c = plain_answer (idle o) (may z W C K E S R false o step) (idle o) accepted w c tt tt

  -- where the program does the same on the disks as on the clean ones
  same_nothing : (rot : Rot) (w : World X) (p : View X) (h : (Rotten z W C K E S R) rot w nothing p) (i : Input X) → program z W C K E S R nothing w.cur i ≡ program z W C K E S R nothing h.clean.cur i → (Follows z W C K E S R) rot w nothing i p (program z W C K E S R nothing w.cur i)
  unfolding program
  same_nothing rot w p h i e =
      let c = h.clean in
      let x = program z W C K E S R nothing c.cur i in
      let s = simulate z W C K E S R (from_host {w = c} {m = nothing} i) p h.holds in
      subst ((Follows z W C K E S R) rot w nothing i p) (sym e)
      (record {
        view = s.0;
        told = answered_rot rot ((label_of z W C K E S R) nothing) i x.1 p s.0 s.1;
        rests = record { clean = effect c x.1; veil = veiled_effect rot w c x.1 h.veil; one = h.one; stores = plain_nothing (mask z W C K E S R (unseen z W C K E S R nothing i) c.cur) i (effect w x.1) (effect c x.1); holds = inv_holds x.0 s.0 (effect c x.1) s.2 };
      })

  same_idle : (rot : Rot) (w : World X) (o : Own) (p : View X) (h : (Rotten z W C K E S R) rot w (idle o) p) (i : Input X) → program z W C K E S R (idle o) w.cur i ≡ program z W C K E S R (idle o) h.clean.cur i → (Follows z W C K E S R) rot w (idle o) i p (program z W C K E S R (idle o) w.cur i)
  unfolding program
  same_idle rot w o p h i e =
      let c = h.clean in
      let x = program z W C K E S R (idle o) c.cur i in
      let s = simulate z W C K E S R (from_host {w = c} {m = idle o} i) p h.holds in
      subst ((Follows z W C K E S R) rot w (idle o) i p) (sym e)
      (record {
        view = s.0;
        told = answered_rot rot o.now i x.1 p s.0 s.1;
        rests = record { clean = effect c x.1; veil = veiled_effect rot w c x.1 h.veil; one = h.one; stores = plain_idle o (mask z W C K E S R (unseen z W C K E S R (idle o) i) c.cur) i (effect w x.1) (effect c x.1); holds = inv_holds x.0 s.0 (effect c x.1) s.2 };
      })

  -- a block that is fine reads the same
  module _ (rot : Rot) (f g : Image X) (same : Agree K.c rot f g) (Q : Label) (t i : ℕ) (ink : i < E.k) where
    fine_blocks : (a b : ℕ → ℕ → X) → (((d : ℕ) → rot d t ≡ false) → a ≡ b) → (rot (E.lies t i) t ≡ false → (j : ℕ) → a (E.lies t i) j ≡ b (E.lies t i) j) → (Fine z W C K E S R) rot Q t i → (j : ℕ) → E.blocks t (missing z W K E Q t) a i j ≡ E.blocks t (missing z W K E Q t) b i j
    fine_blocks a b all one (inl none) j = ap (λ (y : ℕ → ℕ → X). E.blocks t (missing z W K E Q t) y i j) (all none)
    fine_blocks a b all one (inr h) j =
        let m : missing z W K E Q t (E.lies t i) ≡ false = ap not h.0 in
        E.at_home t (missing z W K E Q t) a i j ink m ∙ (one h.1 j ∙ sym (E.at_home t (missing z W K E Q t) b i j ink m))

    read_alike : (Fine z W C K E S R) rot Q t i → (j : ℕ) → read z W K E Q f t i j ≡ read z W K E Q g t i j
    unfolding read
    read_alike = fine_blocks (strips_of z W K E f t) (strips_of z W K E g t) (same_strips rot f g same t) (λ n j. same (strip (E.lies t i) t j) (rw n))

    through_alike : (wr : Write X) → (Fine z W C K E S R) rot Q t i → (j : ℕ) → read_through z W K E wr Q f t i j ≡ read_through z W K E wr Q g t i j
    unfolding read_through
    through_alike wr =
        fine_blocks (λ d j. cond (eqb t wr.stripe && wr.changes d) (wr.new d j) (f (strip d t j))) (λ d j. cond (eqb t wr.stripe && wr.changes d) (wr.new d j) (g (strip d t j)))
        (λ none. ap (λ (y : ℕ → ℕ → X). λ d j. cond (eqb t wr.stripe && wr.changes d) (wr.new d j) (y d j)) (same_strips rot f g same t none))
        (λ n j. ap (λ (y : X). cond (eqb t wr.stripe && wr.changes (E.lies t i)) (wr.new (E.lies t i) j) y) (same (strip (E.lies t i) t j) (rw n)))

  -- A BLOCK WHOSE OWN SLOT IS BELIEVED READS AS ITS STRIP IS, rotten or not
  pub reads_as_found : (Q : Label) (f : Image X) (t i j : ℕ) → i < E.k → believed z Q (E.lies t i) t ≡ true → read z W K E Q f t i j ≡ f (strip (E.lies t i) t j)
  unfolding read
  reads_as_found Q f t i j ink b = E.at_home t (missing z W K E Q t) (strips_of z W K E f t) i j ink (ap not b)

  -- READY
  idle_read : (rot : Rot) (w : World X) (o : Own) (p : View X) (h : (Rotten z W C K E S R) rot w (idle o) p) (t i : ℕ) (y : Verdict) → may z W C K E S R false o (read_block t i) ≡ y → (Follows z W C K E S R) rot w (idle o) (read_block t i) p (answer z W C K E S R (idle o) y (idle o) (block (read z W K E o.now (mask z W C K E S R o.absent w.cur) t i)))
  unfolding program
  idle_read rot w o p h t i (because why) e = record { view = p; told = refl; rests = h }
  idle_read rot w o p h t i clear e =
      let c = h.clean in
      let s = simulate z W C K E S R (from_host {w = c} {m = idle o} (read_block t i)) p h.holds in
      let a = subst (λ (y : Verdict). Answered K.c (read_block t i) (answer z W C K E S R (idle o) y (idle o) (block (read z W K E o.now (mask z W C K E S R o.absent c.cur) t i))).1 p s.0) e s.1 in
      record {
        view = p;
        told = (refl, λ j g f. read_alike rot (mask z W C K E S R o.absent w.cur) (mask z W C K E S R o.absent c.cur) (mask_same rot w.cur c.cur h.veil.reads o.absent) o.now t i (in_range_lem z W C K E S R t i false o e).1 f j ∙ a.1 j g);
        rests = h;
      }

  idle_scrub : (rot : Rot) (w : World X) (o : Own) (p : View X) (h : (Rotten z W C K E S R) rot w (idle o) p) (t : ℕ) (y : Verdict) → may z W C K E S R false o (scrub_stripe t) ≡ y → (Follows z W C K E S R) rot w (idle o) (scrub_stripe t) p (answer z W C K E S R (idle o) y (idle o) (found (E.scrub t (λ d j. mask z W C K E S R o.absent w.cur (strip d t j)))))
  unfolding program
  idle_scrub rot w o p h t (because why) e = record { view = p; told = refl; rests = h }
  idle_scrub rot w o p h t clear e =
      let c = h.clean in
      let s = simulate z W C K E S R (from_host {w = c} {m = idle o} (scrub_stripe t)) p h.holds in
      let a = subst (λ (y : Verdict). Answered K.c (scrub_stripe t) (answer z W C K E S R (idle o) y (idle o) (found (E.scrub t (λ d j. mask z W C K E S R o.absent c.cur (strip d t j))))).1 p s.0) e s.1 in
      record {
        view = p;
        told = (refl, λ none. ap (E.scrub t) (same_strips rot (mask z W C K E S R o.absent w.cur) (mask z W C K E S R o.absent c.cur) (mask_same rot w.cur c.cur h.veil.reads o.absent) t none) ∙ a.1);
        rests = h;
      }

  -- A ROTTEN STRIPE, with nothing out: all its strips but one are the list's
  clean_strips : (v : Host X) (c : World X) (o : Own) → Sane c → Ready z W C K E S R v c o → ((d : ℕ) → d < z.n → o.now.out d ≡ false) → (t : ℕ) → t < z.T → (d j : ℕ) → d < z.n → j < K.c → mask z W C K E S R o.absent c.cur (strip d t j) ≡ E.shard t (v t) d j
  unfolding Quiet table belief
  clean_strips v c o sane h none t in_t d j i g =
      let rest = always_cur (Rest z W C K h.history h.u o.now (table z W K E v)) c sane h.rest in
      let q = quiet_seen z W C K E S R h.history h.u (table z W K E v) o.now o.absent c.cur h.dark rest.quiet in
      q.strips d t j (believe_is z o.now d t i in_t (inl (none d i))) g

  blamed : (x : Finding) → blames x ≡ true → (r : ℕ) × (x ≡ accused r)
  blamed all_sound e = absurd (false≢true e)
  blamed (accused r) e = (r, refl)
  blamed several e = absurd (false≢true e)

  module _ (rot : Rot) (w : World X) (o : Own) (v : Host X) (h : (Rotten z W C K E S R) rot w (idle o) (sure v)) (none : (d : ℕ) → d < z.n → o.now.out d ≡ false) (t : ℕ) (in_t : t < z.T) where
    agree : Agree K.c rot (seen z W C K E S R rot w o v h none t in_t) (seen_c z W C K E S R rot w o v h none t in_t)
    agree = mask_same rot w.cur h.clean.cur h.veil.reads o.absent

    -- a strip that is not rotten is the list's
    strip_right : (d j : ℕ) → d < z.n → rot d t ≡ false → j < K.c → (seen z W C K E S R rot w o v h none t in_t) (strip d t j) ≡ E.shard t (v t) d j
    strip_right d j i n g = agree (strip d t j) (rw n) ∙ clean_strips v h.clean o h.holds.0 h.holds.1 none t in_t d j i g

    module _ (r : ℕ) (acc : finding z W C K E S R (seen z W C K E S R rot w o v h none t in_t) t ≡ accused r) where
      -- whoever is not accused is not rotten
      others : (d : ℕ) → d < z.n → d ≢ E.lies t r → rot d t ≡ false
      others d i n = go (rot d t) refl
        where
          go : (b : Bool) → rot d t ≡ b → rot d t ≡ false
          go true q = absurd (n (sym (E.accuses_it t d r (v t) (strips_of z W K E (seen z W C K E S R rot w o v h none t in_t) t) i (λ e j k m g. strip_right e j k (off e m (rot e t) refl) g) acc)))
            where
              off : (e : ℕ) → e ≢ d → (b : Bool) → rot e t ≡ b → rot e t ≡ false
              off e m true y = absurd (m (h.one e d t y q))
              off e m false y = y
          go false q = q

      right_but : (d j : ℕ) → d < z.n → d ≢ E.lies t r → j < K.c → strips_of z W K E (seen z W C K E S R rot w o v h none t in_t) t d j ≡ E.shard t (v t) d j
      right_but d j i n g = strip_right d j i (others d i n) g

      pub in_shelf : E.lies t r < z.n
      in_shelf = go (ltb (E.lies t r) z.n) refl
        where
          go : (b : Bool) → ltb (E.lies t r) z.n ≡ b → E.lies t r < z.n
          go true q = ltb-true (E.lies t r) z.n q
          go false q = absurd (true≢false (ap blames (sym acc ∙ E.scrub_sound t (v t) (strips_of z W K E (seen z W C K E S R rot w o v h none t in_t) t) (λ d j i g. right_but d j i (λ y. omega (arith, ltb-false (E.lies t r) z.n q, y)) g))))

      -- THE ACCUSATION IS RIGHT
      pub accused_rotten : rot (E.lies t r) t ≡ true
      accused_rotten = go (rot (E.lies t r) t) refl
        where
          go : (b : Bool) → rot (E.lies t r) t ≡ b → rot (E.lies t r) t ≡ true
          go true e = e
          go false e = absurd (true≢false (ap blames (sym acc ∙ E.scrub_sound t (v t) (strips_of z W K E (seen z W C K E S R rot w o v h none t in_t) t) (λ d j i g. strip_right d j i (off d i (ℕ_discrete d (E.lies t r))) g))))
            where
              off : (d : ℕ) → d < z.n → Dec (d ≡ E.lies t r) → rot d t ≡ false
              off d i (yes q) = ap (λ (x : ℕ). rot x t) q ∙ e
              off d i (no q) = others d i q

      mended_is : (j : ℕ) → j < K.c → E.mended t (strips_of z W K E (seen z W C K E S R rot w o v h none t in_t) t) (E.lies t r) j ≡ E.shard t (v t) (E.lies t r) j
      mended_is = E.mends t (E.lies t r) (v t) (strips_of z W K E (seen z W C K E S R rot w o v h none t in_t) t) in_shelf (λ d j i n g. right_but d j i n g)

      -- with the accused one mended, all are
      mend_right : (d j : ℕ) → d < z.n → j < K.c → mend z W K E t (finding z W C K E S R (seen z W C K E S R rot w o v h none t in_t) t) (strips_of z W K E (seen z W C K E S R rot w o v h none t in_t) t) d j ≡ E.shard t (v t) d j
      mend_right d j i g = ap (λ (x : Finding). mend z W K E t x (strips_of z W K E (seen z W C K E S R rot w o v h none t in_t) t) d j) acc ∙ go (eqb d (E.lies t r)) refl
        where
          go : (b : Bool) → eqb d (E.lies t r) ≡ b → cond b (E.mended t (strips_of z W K E (seen z W C K E S R rot w o v h none t in_t) t) d) (strips_of z W K E (seen z W C K E S R rot w o v h none t in_t) t d) j ≡ E.shard t (v t) d j
          go true q = let y : d ≡ E.lies t r = eqb-true d (E.lies t r) q in subst (λ (x : ℕ). E.mended t (strips_of z W K E (seen z W C K E S R rot w o v h none t in_t) t) x j ≡ E.shard t (v t) x j) (sym y) (mended_is j g)
          go false q = right_but d j i (eqb-false d (E.lies t r) q) g

      history' : ℕ → Write X
      history' τ = cond (eqb τ (σ z W C K E S R rot w o v h none t in_t r acc)) (wr z W C K E S R rot w o v h none t in_t r acc) (h.holds.1.history τ)

      at_σ : history' (σ z W C K E S R rot w o v h none t in_t r acc) ≡ (wr z W C K E S R rot w o v h none t in_t r acc)
      unfolding history'
      at_σ = rw (eq-eqb (suc o.count) (suc o.count) refl)

      below : (τ : ℕ) → τ ≤ h.holds.1.u → h.holds.1.history τ ≡ history' τ
      unfolding history'
      below τ q = rw (ne_eqb τ (suc o.count) (λ e. omega (arith, h.holds.1.used)))

      pub wr_right : (d j : ℕ) → (wr z W C K E S R rot w o v h none t in_t r acc).changes d ≡ true → j < K.c → (wr z W C K E S R rot w o v h none t in_t r acc).new d j ≡ table z W K E v (wr z W C K E S R rot w o v h none t in_t r acc).stripe d j
      unfolding repair_of table
      wr_right d j e g = let y : d ≡ E.lies t r = eqb-true d (E.lies t r) e in subst (λ (x : ℕ). E.mended t (strips_of z W K E (seen z W C K E S R rot w o v h none t in_t) t) x j ≡ E.shard t (v t) x j) (sym y) (mended_is j g)

      pub wr_fits : (σ z W C K E S R rot w o v h none t in_t r acc) < S.base (suc o.epoch) → K.Fits (σ z W C K E S R rot w o v h none t in_t r acc) (wr z W C K E S R rot w o v h none t in_t r acc)
      unfolding repair_of
      wr_fits room =
          let q = h.holds.1 in
          R.fits_record (σ z W C K E S R rot w o v h none t in_t r acc) (wr z W C K E S R rot w o v h none t in_t r acc) (omega (arith, room, S.grows (suc o.epoch) (suc R.greatest) (omega (arith, q.epoch_now, q.most)))) in_t (λ d e. subst (λ (x : ℕ). x < z.n) (sym (eqb-true d (E.lies t r) e)) in_shelf)

      pub mends_now : (σ z W C K E S R rot w o v h none t in_t r acc) < S.base (suc o.epoch) → (Mending z W C K E S R) v (wr z W C K E S R rot w o v h none t in_t r acc) h.clean (log_write K (belief z o.now) (σ z W C K E S R rot w o v h none t in_t r acc) (wr z W C K E S R rot w o v h none t in_t r acc) ++ (stores_of z W C K E S R) o (wr z W C K E S R rot w o v h none t in_t r acc)) o (o' z W C K E S R rot w o v h none t in_t r acc)
      mends_now room =
          let q = h.holds.1 in
          let during = refresh z W C K q.history history' q.u (σ z W C K E S R rot w o v h none t in_t r acc) (table z W K E v) o.now (omega (arith, q.used)) below (subst (λ (y : Write X). (d j : ℕ) → y.changes d ≡ true → j < K.c → y.new d j ≡ table z W K E v y.stripe d j) (sym at_σ) wr_right) (subst (K.Fits (σ z W C K E S R rot w o v h none t in_t r acc)) (sym at_σ) (wr_fits room)) h.clean h.holds.0 q.rest in
          record {
            sane = h.holds.0;
            history = history';
            u = (σ z W C K E S R rot w o v h none t in_t r acc);
            used = omega arith;
            stamped = refl;
            last = at_σ;
            early = room;
            born = q.born;
            epoch_now = q.epoch_now;
            sound = q.sound;
            most = q.most;
            dark = q.dark;
            same_now = refl;
            same_absent = refl;
            during = subst (λ (y : Write X). During h.clean (log_write K (belief z o.now) (σ z W C K E S R rot w o v h none t in_t r acc) y ++ (stores_of z W C K E S R) o y) (Rest z W C K history' (σ z W C K E S R rot w o v h none t in_t r acc) o.now (table z W K E v))) at_σ during;
            right = wr_right;
          }

      blocks_right : (i j : ℕ) → i < E.k → j < K.c → E.blocks t (missing z W K E o.now t) (mend z W K E t (finding z W C K E S R (seen z W C K E S R rot w o v h none t in_t) t) (strips_of z W K E (seen z W C K E S R rot w o v h none t in_t) t)) i j ≡ v t i j
      blocks_right i j a b =
          let rest = always_cur (Rest z W C K h.holds.1.history h.holds.1.u o.now (table z W K E v)) h.clean h.holds.0 h.holds.1.rest in
          E.back t (missing z W K E o.now t) (v t) (mend z W K E t (finding z W C K E S R (seen z W C K E S R rot w o v h none t in_t) t) (strips_of z W K E (seen z W C K E S R rot w o v h none t in_t) t)) (few_missing z W K E o.now t in_t rest.labels.few_Q) (λ d l n m g. mend_right d l n g) i j a b

      whole_right : (ch : Change X) → (Listed z W C K E S R) (replace v t (all_blocks ((whole_of z W C K E S R rot w o v h none t in_t r acc) ch))) (replace v t ch)
      unfolding replace set_block
      whole_right ch u i j a b g = go (eqb u t)
        where
          one : (l : ℕ) (x : ℕ → X) (q : Bool) → cond q x (E.blocks t (missing z W K E o.now t) (mend z W K E t (finding z W C K E S R (seen z W C K E S R rot w o v h none t in_t) t) (strips_of z W K E (seen z W C K E S R rot w o v h none t in_t) t)) i) j ≡ cond q x (v t i) j
          one l x true = refl
          one l x false = blocks_right i j b g

          in_stripe : (ch : Change X) → changed ch (E.blocks t (missing z W K E o.now t) (mend z W K E t (finding z W C K E S R (seen z W C K E S R rot w o v h none t in_t) t) (strips_of z W K E (seen z W C K E S R rot w o v h none t in_t) t))) i j ≡ changed ch (v t) i j
          in_stripe (one_block l x) = one l x (eqb i l)
          in_stripe (all_blocks x) = refl

          go : (q : Bool) → cond q ((whole_of z W C K E S R rot w o v h none t in_t r acc) ch) (v u) i j ≡ cond q (changed ch (v t)) (v u) i j
          go true = in_stripe ch
          go false = refl

      made_whole : (ch : Change X) → all_believed z W C K E S R o t ≡ true → change_made z W C K E S R o (seen z W C K E S R rot w o v h none t in_t) t ch ≡ all_blocks ((whole_of z W C K E S R rot w o v h none t in_t r acc) ch)
      unfolding change_made whole_change
      made_whole ch e = ap (λ (b : Bool). cond b (all_blocks ((whole_of z W C K E S R rot w o v h none t in_t r acc) ch)) ch) (two_true (all_believed z W C K E S R o t) (unsound (finding z W C K E S R (seen z W C K E S R rot w o v h none t in_t) t)) e (ap unsound acc))
        where
          two_true : (a b : Bool) → a ≡ true → b ≡ true → (a && b) ≡ true
          two_true a b p q = rw (p, q)

  is_clear : Verdict → Bool
  is_clear clear = true
  is_clear (because why) = false

  -- a repair is accepted: on the clean disks it is a refresh, and the list stays
  idle_repair : (rot : Rot) (w : World X) (o : Own) (v : Host X) (h : (Rotten z W C K E S R) rot w (idle o) (sure v)) (t : ℕ) (y : Verdict) → may_repair z W C K E S R false o (mask z W C K E S R o.absent w.cur) t ≡ y → (Follows z W C K E S R) rot w (idle o) (repair t) (sure v) (answer z W C K E S R (idle o) y (asked_repair z W C K E S R o (mask z W C K E S R o.absent w.cur) t) accepted)
  idle_repair rot w o v h t (because why) e = record { view = sure v; told = refl; rests = h }
  idle_repair rot w o v h t clear e =
      let a = may_repair_tests z W C K E S R t o (mask z W C K E S R o.absent w.cur) e in
      let b = blamed (finding z W C K E S R (mask z W C K E S R o.absent w.cur) t) a.3 in
      let m = mends_now rot w o v h a.1 t a.0 b.0 b.1 a.2 in
      subst (λ (x : Finding). (Follows z W C K E S R) rot w (idle o) (repair t) (sure v) (ask_log z W C K E S R o (repair_of z W K E (mask z W C K E S R o.absent w.cur) t (accused_slot z W K E t x)), accepted)) (sym b.1)
      (record { view = sure v; told = refl; rests = record { clean = h.clean; veil = h.veil; one = h.one; stores = tt; holds = m } })

  -- A REPAIR IS ACCEPTED where one strip of the stripe is rotten, nothing is out, a stamp is left and the code can tell whom to blame; or the strip is the list's (healed by
  -- start-up). So a repair that was cut is mended by another one.
  pub accepts_repair : (rot : Rot) (w : World X) (o : Own) (v : Host X) (h : (Rotten z W C K E S R) rot w (idle o) (sure v)) (t d : ℕ) → E.sharp ≡ true → rot d t ≡ true → d < z.n → may z W C K E S R false o (repair t) ≡ clear → (may_repair z W C K E S R false o (mask z W C K E S R o.absent w.cur) t ≡ clear) ⊎ ((j : ℕ) → j < K.c → mask z W C K E S R o.absent w.cur (strip d t j) ≡ E.shard t (v t) d j)
  accepts_repair rot w o v h t d sharp r i e =
      let a = repair_tests z W C K E S R t o e in
      let seen = mask z W C K E S R o.absent w.cur in
      ⊎_elim (λ q. inr q) (λ q. inl (ap (λ (y : Verdict). also z W C K E S R y (not (blames (finding z W C K E S R seen t)))) e ∙ ap (λ (x : Finding). also z W C K E S R clear (not (blames x))) q.1))
      (E.tells sharp t d (v t) (strips_of z W K E seen t) i (λ e j k m g. strip_right rot w o v h a.1 t a.0 e j k (off e m (rot e t) refl) g))
    where
      off : (e : ℕ) → e ≢ d → (b : Bool) → rot e t ≡ b → rot e t ≡ false
      off e m true y = absurd (m (h.one e d t y r))
      off e m false y = y

  -- the tests of a write, for the whole stripe
  tests_whole : (o : Own) (t : ℕ) (ch : Change X) (b : Blocks X) → may z W C K E S R false o (write t ch) ≡ clear → (t < z.T) × (may z W C K E S R false o (write t (all_blocks b)) ≡ clear)
  unfolding is_clear
  tests_whole o t ch b e = go (ltb t z.T) refl (proper z W K E ch) (ltb (suc o.count) (S.base (suc o.epoch))) e
    where
      go : (x : Bool) → ltb t z.T ≡ x → (q s : Bool) → cond (not (x && q)) (because BAD_BLOCK) (cond (not s) (because NOT_NOW) clear) ≡ clear → (t < z.T) × (cond (not (x && true)) (because BAD_BLOCK) (cond (not s) (because NOT_NOW) clear) ≡ clear)
      go true p true true h = (ltb-true t z.T p, refl)
      go true p true false h = absurd (false≢true (ap is_clear h))
      go true p false s h = absurd (false≢true (ap is_clear h))
      go false p q s h = absurd (false≢true (ap is_clear h))

  all_in_of : (o : Own) → all_in z W C K E S R o ≡ true → (d : ℕ) → d < z.n → o.now.out d ≡ false
  all_in_of o e d i = not-true (o.now.out d) (every_of (λ x. not (o.now.out x)) (from 0 z.n) e d (in_from z.n 0 d (omega arith) (omega arith)))

  all_believed_of : (o : Own) (t : ℕ) → t < z.T → ((d : ℕ) → d < z.n → o.now.out d ≡ false) → all_believed z W C K E S R o t ≡ true
  all_believed_of o t i none = every_all (λ d. believed z o.now d t) (from 0 z.n) (λ d m. let j : d < z.n = omega (arith, of_from z.n 0 d m) in believe_is z o.now d t j i (inl (none d j)))

  -- a write into a rotten stripe is accepted
  idle_whole : (rot : Rot) (w : World X) (o : Own) (v : Host X) (h : (Rotten z W C K E S R) rot w (idle o) (sure v)) (t : ℕ) (ch : Change X) → all_in z W C K E S R o ≡ true → blames (finding z W C K E S R (mask z W C K E S R o.absent w.cur) t) ≡ true → (y : Verdict) → may z W C K E S R false o (write t ch) ≡ y → (Follows z W C K E S R) rot w (idle o) (write t ch) (sure v) (answer z W C K E S R (idle o) y (asked_write z W C K E S R o (mask z W C K E S R o.absent w.cur) t ch) accepted)
  unfolding program write_of
  idle_whole rot w o v h t ch all bl (because why) e = record { view = sure v; told = refl; rests = h }
  idle_whole rot w o v h t ch all bl clear e =
      let c = h.clean in
      let seen = mask z W C K E S R o.absent w.cur in
      let seen_c = mask z W C K E S R o.absent c.cur in
      let b = blamed (finding z W C K E S R seen t) bl in
      let none = all_in_of o all in
      let y : Blocks X = changed ch (E.blocks t (missing z W K E o.now t) (mend z W K E t (finding z W C K E S R seen t) (strips_of z W K E seen t))) in
      let q = tests_whole o t ch y e in
      let made = made_whole rot w o v h none t q.0 b.0 b.1 ch (all_believed_of o t q.0 none) in
      let listed = whole_right rot w o v h none t q.0 b.0 b.1 ch in
      let s = simulate z W C K E S R (from_host {w = c} {m = idle o} (write t (all_blocks y))) (sure v) h.holds in
      let s' : Accepting (write t (all_blocks y)) (sure v) s.0 × Invariant z W C K E S R (at c (ask_log z W C K E S R o (write_of z W K E o.now seen_c t (change_made z W C K E S R o seen_c t (all_blocks y))))) s.0 =
      subst (λ (g : Verdict). Answered K.c (write t (all_blocks y)) (answer z W C K E S R (idle o) g (asked_write z W C K E S R o seen_c t (all_blocks y)) accepted).1 (sure v) s.0 × Invariant z W C K E S R (at (effect c (answer z W C K E S R (idle o) g (asked_write z W C K E S R o seen_c t (all_blocks y)) accepted).1) (answer z W C K E S R (idle o) g (asked_write z W C K E S R o seen_c t (all_blocks y)) accepted).0) s.0) q.1 (s.1, s.2) in
      let i1 = subst (λ (g : Change X). Invariant z W C K E S R (at c (ask_log z W C K E S R o (write_of z W K E o.now seen_c t g))) s.0) (made_as_asked z W C K E S R v c o h.holds.0 h.holds.1 t (all_blocks y) q.0) s'.1 in
      subst (λ (g : Change X). (Follows z W C K E S R) rot w (idle o) (write t ch) (sure v) (ask_log z W C K E S R o (write_of z W K E o.now seen t g), accepted)) (sym made)
      (record {
        view = s.0;
        told = (replace v t (all_blocks y), s'.0, listed);
        rests = record { clean = c; veil = h.veil; one = h.one; stores = tt; holds = inv_holds (ask_log z W C K E S R o (write_of z W K E o.now seen t (all_blocks y))) s.0 c i1 };
      })

  host_nothing : (rot : Rot) (w : World X) (p : View X) → (Rotten z W C K E S R) rot w nothing p → (i : Input X) → (Allowed z W C K E S R) rot nothing w.cur i → (Follows z W C K E S R) rot w nothing i p (program z W C K E S R nothing w.cur i)
  unfolding program
  host_nothing rot w p h create a = same_nothing rot w p h create (ap (λ (f : Image X). program z W C K E S R nothing f create) (same_all rot w.cur h.clean.cur h.veil.reads a))
  host_nothing rot w p h (start A) a =
      let m = mask_same rot w.cur h.clean.cur h.veil.reads (beyond z.n A) in
      let f = mask z W C K E S R (beyond z.n A) w.cur in
      let g = mask z W C K E S R (beyond z.n A) h.clean.cur in
      same_nothing rot w p h (start A) (start_bones A f ∙ (ap (λ (y : Image X). from_nothing z W C K E S R y (start A)) ((same_bones z W C K E S R) rot f g m) ∙ sym (start_bones A g)))
  host_nothing rot w p h (read_block t i) a = same_nothing rot w p h (read_block t i) refl
  host_nothing rot w p h (write t ch) a = same_nothing rot w p h (write t ch) refl
  host_nothing rot w p h (take_out d) a = same_nothing rot w p h (take_out d) refl
  host_nothing rot w p h (begin d) a = same_nothing rot w p h (begin d) refl
  host_nothing rot w p h (rebuild_on b) a = same_nothing rot w p h (rebuild_on b) refl
  host_nothing rot w p h (scrub_stripe t) a = same_nothing rot w p h (scrub_stripe t) refl
  host_nothing rot w p h (repair t) a = same_nothing rot w p h (repair t) refl
  host_nothing rot w p h step a = same_nothing rot w p h step refl

  host_idle : (rot : Rot) (w : World X) (o : Own) (v : Host X) → (Rotten z W C K E S R) rot w (idle o) (sure v) → (i : Input X) → (Allowed z W C K E S R) rot (idle o) w.cur i → (Follows z W C K E S R) rot w (idle o) i (sure v) (program z W C K E S R (idle o) w.cur i)
  unfolding program
  host_idle rot w o v h create a = same_idle rot w o (sure v) h create refl
  host_idle rot w o v h (start A) a = same_idle rot w o (sure v) h (start A) refl
  host_idle rot w o v h (read_block t i) a = idle_read rot w o (sure v) h t i (may z W C K E S R false o (read_block t i)) refl
  host_idle rot w o v h (write t ch) (inl none) =
      let m = mask_same rot w.cur h.clean.cur h.veil.reads o.absent in
      let f = mask z W C K E S R o.absent w.cur in
      let g = mask z W C K E S R o.absent h.clean.cur in
      same_idle rot w o (sure v) h (write t ch) (ap (λ (y : Memory X). answer z W C K E S R (idle o) (may z W C K E S R false o (write t ch)) y accepted) (write_strips o t ch f g (same_strips rot f g m t none)))
  host_idle rot w o v h (write t ch) (inr a) = idle_whole rot w o v h t ch a.0 a.1 (may z W C K E S R false o (write t ch)) refl
  host_idle rot w o v h (take_out d) a = same_idle rot w o (sure v) h (take_out d) refl
  host_idle rot w o v h (begin d) a =
      let A = back_in z W C K E S R o.absent d in
      let m = mask_same rot w.cur h.clean.cur h.veil.reads A in
      let f = mask z W C K E S R A w.cur in
      let g = mask z W C K E S R A h.clean.cur in
      same_idle rot w o (sure v) h (begin d) (begin_bones o d f ∙ (ap (λ (y : Image X). from_idle z W C K E S R o y (begin d)) ((same_bones z W C K E S R) rot f g m) ∙ sym (begin_bones o d g)))
  host_idle rot w o v h (rebuild_on b) a = same_idle rot w o (sure v) h (rebuild_on b) (ap (λ (f : Image X). program z W C K E S R (idle o) f (rebuild_on b)) (same_all rot w.cur h.clean.cur h.veil.reads a))
  host_idle rot w o v h (scrub_stripe t) a = idle_scrub rot w o (sure v) h t (may z W C K E S R false o (scrub_stripe t)) refl
  host_idle rot w o v h (repair t) a = idle_repair rot w o v h t (may_repair z W C K E S R false o (mask z W C K E S R o.absent w.cur) t) refl
  host_idle rot w o v h step a = same_idle rot w o (sure v) h step refl

  not_ended : (r : Reply X) (a b : Rot) → (ends_it z W C K E S R) r ≡ false → (if_done z W C K E S R) r a b ≡ a
  unfolding ends_it
  not_ended accepted a b e = refl
  not_ended (refused why) a b e = refl
  not_ended (did x) a b e = refl
  not_ended safe a b e = refl
  not_ended (done k) a b e = absurd (true≢false e)
  not_ended (block x) a b e = refl
  not_ended (found x) a b e = refl

  rot_kept : (rot : Rot) (k : Kind X) (l : List (Action X)) (o o' : Own) (r : Reply X) → (ends_it z W C K E S R) r ≡ false → (rot_after z W C K E S R) rot (doing k l o o') r ≡ rot
  rot_kept rot creating l o o' r e = refl
  rot_kept rot starting l o o' r e = refl
  rot_kept rot (logging wr) l o o' r e = refl
  rot_kept rot (storing wr) l o o' r e = not_ended r rot (mended rot (belief z o.now) wr.stripe wr.changes) e
  rot_kept rot labelling l o o' r e = refl

  -- an answer that is no step
  module _ (rot : Rot) (w : World X) (k : Kind X) (l : List (Action X)) (o o' : Own) (p : View X) (h : (Rotten z W C K E S R) rot w (doing k l o o') p) (i : Input X) where
    refuse : (why : Refusal) → (Follows z W C K E S R) rot w (doing k l o o') i p (doing k l o o', refused why)
    unfolding ends_it
    refuse why = record { view = p; told = refl; rests = subst (λ (y : Rot). (Rotten z W C K E S R) y w (doing k l o o') p) (sym (rot_kept rot k l o o' (refused why) refl)) h }

    gives : (b : ℕ → X) → (RotGives z W C K E S R) rot o.now b i p p → (Follows z W C K E S R) rot w (doing k l o o') i p (doing k l o o', block b)
    unfolding ends_it
    gives b t = record { view = p; told = t; rests = subst (λ (y : Rot). (Rotten z W C K E S R) y w (doing k l o o') p) (sym (rot_kept rot k l o o' (block b) refl)) h }

    finds : (x : Finding) → (RotFinds z W C K E S R) rot x i → (Follows z W C K E S R) rot w (doing k l o o') i p (doing k l o o', found x)
    unfolding ends_it
    finds x t = record { view = p; told = (refl, t); rests = subst (λ (y : Rot). (Rotten z W C K E S R) y w (doing k l o o') p) (sym (rot_kept rot k l o o' (found x) refl)) h }

  read_over : (wr : Write X) (Q : Label) (f : Image X) (v : Host X) (t i j : ℕ) → W.few (missing z W K E Q t) ≡ true → ((d l : ℕ) → d < z.n → missing z W K E Q t d ≡ false → l < K.c → cond (eqb t wr.stripe && wr.changes d) (wr.new d l) (f (strip d t l)) ≡ E.shard t (v t) d l) → i < E.k → j < K.c → read_through z W K E wr Q f t i j ≡ v t i j
  unfolding read_through
  read_over wr Q f v t i j few right b g = E.back t (missing z W K E Q t) (v t) (λ d l. cond (eqb t wr.stripe && wr.changes d) (wr.new d l) (f (strip d t l))) few right i j b g

  -- what a repair under way reads on the clean disks
  module _ (v : Host X) (wr : Write X) (c : World X) (l : List (Action X)) (o o' : Own) (h : (Mending z W C K E S R) v wr c l o o') where
    mending_quiet : Quiet K (belief z o'.now) h.history h.u (table z W K E v) (mask z W C K E S R o'.absent c.cur)
    mending_quiet =
        let rest = always_cur (Rest z W C K h.history h.u o'.now (table z W K E v)) c h.sane (during_start (Rest z W C K h.history h.u o'.now (table z W K E v)) c l h.during) in
        quiet_seen z W C K E S R h.history h.u (table z W K E v) o'.now o'.absent c.cur h.dark rest.quiet

    mending_few : W.few o'.now.out ≡ true
    mending_few = (always_cur (Rest z W C K h.history h.u o'.now (table z W K E v)) c h.sane (during_start (Rest z W C K h.history h.u o'.now (table z W K E v)) c l h.during)).labels.few_Q

    -- in the words of o
    back_to : (P : Label → (ℕ → Bool) → Type 0) → P o'.now o'.absent → P o.now o.absent
    back_to P x = subst (λ (q : Label). P q o.absent) (sym h.same_now) (subst (λ (A : ℕ → Bool). P o'.now A) (sym h.same_absent) x)

    mending_read : (t i j : ℕ) → t < z.T → i < E.k → j < K.c → read z W K E o.now (mask z W C K E S R o.absent c.cur) t i j ≡ v t i j
    mending_read t i j a b g = back_to (λ q A. read z W K E q (mask z W C K E S R A c.cur) t i j ≡ v t i j) (read_right z W K E h.history h.u o'.now v (mask z W C K E S R o'.absent c.cur) mending_few mending_quiet t i j a b g)

    -- with the mended strip laid over
    over_right : (t d j : ℕ) → believed z o'.now d t ≡ true → j < K.c → cond (eqb t wr.stripe && wr.changes d) (wr.new d j) (mask z W C K E S R o'.absent c.cur (strip d t j)) ≡ E.shard t (v t) d j
    unfolding Quiet table belief
    over_right t d j b g = go (eqb t wr.stripe) refl (wr.changes d) refl
      where
        go : (x : Bool) → eqb t wr.stripe ≡ x → (y : Bool) → wr.changes d ≡ y → cond (x && y) (wr.new d j) (mask z W C K E S R o'.absent c.cur (strip d t j)) ≡ E.shard t (v t) d j
        go true p true r = h.right d j r g ∙ ap (λ (u : ℕ). E.shard u (v u) d j) (sym (eqb-true t wr.stripe p))
        go true p false r = mending_quiet.strips d t j b g
        go false p y r = mending_quiet.strips d t j b g

    mending_through : (t i j : ℕ) → t < z.T → i < E.k → j < K.c → read_through z W K E wr o.now (mask z W C K E S R o.absent c.cur) t i j ≡ v t i j
    mending_through t i j a b g = back_to (λ q A. read_through z W K E wr q (mask z W C K E S R A c.cur) t i j ≡ v t i j) (through t i j a b g)
      where
        sees : (x : Bool) → not x ≡ false → x ≡ true
        sees true e = refl
        sees false e = sym e

        through : (t i j : ℕ) → t < z.T → i < E.k → j < K.c → read_through z W K E wr o'.now (mask z W C K E S R o'.absent c.cur) t i j ≡ v t i j
        through t i j a b g =
            read_over wr o'.now (mask z W C K E S R o'.absent c.cur) v t i j
            (few_missing z W K E o'.now t a mending_few) (λ d y n m x. over_right t d y (sees (believed z o'.now d t) m) x) b g

    mending_scrub : (t : ℕ) → t < z.T → ((d : ℕ) → d < z.n → o.now.out d ≡ false) → E.scrub t (λ d j. mask z W C K E S R o.absent c.cur (strip d t j)) ≡ all_sound
    mending_scrub t i none =
        back_to (λ q A. ((d : ℕ) → d < z.n → q.out d ≡ false) → E.scrub t (λ d j. mask z W C K E S R A c.cur (strip d t j)) ≡ all_sound)
        (λ n. found_sound z W C K E S R v c o' h.sane (mending_ready v wr c l o o' h) t i n) none

    mending_over : (t : ℕ) → t < z.T → ((d : ℕ) → d < z.n → o.now.out d ≡ false) → E.scrub t (λ d j. cond (eqb t wr.stripe && wr.changes d) (wr.new d j) (mask z W C K E S R o.absent c.cur (strip d t j))) ≡ all_sound
    mending_over t i none =
        back_to (λ q A. ((d : ℕ) → d < z.n → q.out d ≡ false) → E.scrub t (λ d j. cond (eqb t wr.stripe && wr.changes d) (wr.new d j) (mask z W C K E S R A c.cur (strip d t j))) ≡ all_sound)
        (λ n. E.scrub_sound t (v t) (λ d j. cond (eqb t wr.stripe && wr.changes d) (wr.new d j) (mask z W C K E S R o'.absent c.cur (strip d t j))) (λ d j y g. over_right t d j (believe_is z o'.now d t y i (inl (n d y))) g)) none

  -- a read meanwhile
  module _ (rot : Rot) (w : World X) (l : List (Action X)) (o o' : Own) (t i : ℕ) (e : may z W C K E S R true o (read_block t i) ≡ clear) where
    range : (t < z.T) × (i < E.k)
    range = in_range_lem z W C K E S R t i true o e

    module _ (c : World X) (veil : Veiled K.c rot w c) where
      same_w : Agree K.c rot (mask z W C K E S R o.absent w.cur) (mask z W C K E S R o.absent c.cur)
      same_w = mask_same rot w.cur c.cur veil.reads o.absent

      by_read : (p : View X) → ((j : ℕ) → j < K.c → read z W K E o.now (mask z W C K E S R o.absent c.cur) t i j ≡ list_of p t i j) → (RotGives z W C K E S R) rot o.now (read z W K E o.now (seen_w z W C K E S R rot w l o o' t i e) t i) (read_block t i) p p
      by_read p g = (refl, λ j b f. read_alike rot (seen_w z W C K E S R rot w l o o' t i e) (mask z W C K E S R o.absent c.cur) same_w o.now t i range.1 f j ∙ g j b)

      by_through : (wr : Write X) (p : View X) → ((j : ℕ) → j < K.c → read_through z W K E wr o.now (mask z W C K E S R o.absent c.cur) t i j ≡ list_of p t i j) → (RotGives z W C K E S R) rot o.now (read_through z W K E wr o.now (seen_w z W C K E S R rot w l o o' t i e) t i) (read_block t i) p p
      by_through wr p g = (refl, λ j b f. through_alike rot (seen_w z W C K E S R rot w l o o' t i e) (mask z W C K E S R o.absent c.cur) same_w o.now t i range.1 wr f j ∙ g j b)

      -- as the clean disks answer
      clean_read : (k : Kind X) (p : View X) → Invariant z W C K E S R (at c (doing k l o o')) p → (p' : View X) × Answered K.c (read_block t i) (meanwhile z W C K E S R k o (mask z W C K E S R o.absent c.cur) t i clear) p p'
      unfolding program
      clean_read k p h =
          let s = simulate z W C K E S R (from_host {w = c} {m = doing k l o o'} (read_block t i)) p h in
          (s.0, subst (λ (y : Verdict). Answered K.c (read_block t i) (meanwhile z W C K E S R k o (mask z W C K E S R o.absent c.cur) t i y) p s.0) e s.1)

    doing_read : (k : Kind X) (p : View X) (h : (Rotten z W C K E S R) rot w (doing k l o o') p) → (Follows z W C K E S R) rot w (doing k l o o') (read_block t i) p (doing k l o o', meanwhile z W C K E S R k o (seen_w z W C K E S R rot w l o o' t i e) t i clear)
    doing_read creating p h = refuse rot w creating l o o' p h (read_block t i) NOT_NOW
    doing_read starting p h = refuse rot w starting l o o' p h (read_block t i) NOT_NOW
    doing_read (logging wr) (sure v) h = gives rot w (logging wr) l o o' (sure v) h (read_block t i) (read z W K E o.now (seen_w z W C K E S R rot w l o o' t i e) t i) (by_read h.clean h.veil (sure v) (λ j g. mending_read v wr h.clean (l ++ (stores_of z W C K E S R) o wr) o o' h.holds t i j range.0 range.1 g))
    doing_read (logging wr) (open_write v v') h = gives rot w (logging wr) l o o' (open_write v v') h (read_block t i) (read z W K E o.now (seen_w z W C K E S R rot w l o o' t i e) t i) (by_read h.clean h.veil (open_write v v') (clean_read h.clean h.veil (logging wr) (open_write v v') h.holds).1.1)
    doing_read (logging wr) (kept_write v') h = absurd h.holds.reads
    doing_read (storing wr) (sure v) h = gives rot w (storing wr) l o o' (sure v) h (read_block t i) (read_through z W K E wr o.now (seen_w z W C K E S R rot w l o o' t i e) t i) (by_through h.clean h.veil wr (sure v) (λ j g. mending_through v wr h.clean l o o' h.holds t i j range.0 range.1 g))
    doing_read (storing wr) (open_write v v') h = absurd h.holds.reads
    doing_read (storing wr) (kept_write v') h = gives rot w (storing wr) l o o' (kept_write v') h (read_block t i) (read_through z W K E wr o.now (seen_w z W C K E S R rot w l o o' t i e) t i) (by_through h.clean h.veil wr (kept_write v') (clean_read h.clean h.veil (storing wr) (kept_write v') h.holds).1.1)
    doing_read labelling p h = gives rot w labelling l o o' p h (read_block t i) (read z W K E o.now (seen_w z W C K E S R rot w l o o' t i e) t i) (by_read h.clean h.veil p (clean_read h.clean h.veil labelling p h.holds).1.1)

  -- a scrub meanwhile
  module _ (rot : Rot) (w : World X) (l : List (Action X)) (o o' : Own) (t : ℕ) (e : may z W C K E S R true o (scrub_stripe t) ≡ clear) where
    module _ (c : World X) (veil : Veiled K.c rot w c) where
      as_clean : ((d : ℕ) → rot d t ≡ false) → (strips_w z W C K E S R rot w l o o' t e) ≡ (strips_c z W C K E S R rot w l o o' t e c veil)
      as_clean none = same_strips rot (mask z W C K E S R o.absent w.cur) (mask z W C K E S R o.absent c.cur) (mask_same rot w.cur c.cur veil.reads o.absent) t none

      by_strips : E.scrub t (strips_c z W C K E S R rot w l o o' t e c veil) ≡ all_sound → ((d : ℕ) → rot d t ≡ false) → E.scrub t (strips_w z W C K E S R rot w l o o' t e) ≡ all_sound
      by_strips q none = ap (E.scrub t) (as_clean none) ∙ q

      by_over : (wr : Write X) → E.scrub t (λ d j. cond (eqb t wr.stripe && wr.changes d) (wr.new d j) ((strips_c z W C K E S R rot w l o o' t e c veil) d j)) ≡ all_sound → ((d : ℕ) → rot d t ≡ false) → E.scrub t (λ d j. cond (eqb t wr.stripe && wr.changes d) (wr.new d j) ((strips_w z W C K E S R rot w l o o' t e) d j)) ≡ all_sound
      by_over wr q none = ap (λ (y : ℕ → ℕ → X). E.scrub t (λ d j. cond (eqb t wr.stripe && wr.changes d) (wr.new d j) (y d j))) (as_clean none) ∙ q

      clean_scrub : (k : Kind X) (p : View X) → Invariant z W C K E S R (at c (doing k l o o')) p → (p' : View X) × Answered K.c (scrub_stripe t) (scrubbed z W C K E S R k o (mask z W C K E S R o.absent c.cur) t clear) p p'
      unfolding program
      clean_scrub k p h =
          let s = simulate z W C K E S R (from_host {w = c} {m = doing k l o o'} (scrub_stripe t)) p h in
          (s.0, subst (λ (y : Verdict). Answered K.c (scrub_stripe t) (scrubbed z W C K E S R k o (mask z W C K E S R o.absent c.cur) t y) p s.0) e s.1)

    doing_scrub : (k : Kind X) (p : View X) (h : (Rotten z W C K E S R) rot w (doing k l o o') p) → (Follows z W C K E S R) rot w (doing k l o o') (scrub_stripe t) p (doing k l o o', scrubbed z W C K E S R k o (mask z W C K E S R o.absent w.cur) t clear)
    doing_scrub creating p h = refuse rot w creating l o o' p h (scrub_stripe t) NOT_NOW
    doing_scrub starting p h = refuse rot w starting l o o' p h (scrub_stripe t) NOT_NOW
    doing_scrub (logging wr) (sure v) h = let a = scrub_tests z W C K E S R t true o e in finds rot w (logging wr) l o o' (sure v) h (scrub_stripe t) (E.scrub t (strips_w z W C K E S R rot w l o o' t e)) (by_strips h.clean h.veil (mending_scrub v wr h.clean (l ++ (stores_of z W C K E S R) o wr) o o' h.holds t a.0 a.1))
    doing_scrub (logging wr) (open_write v v') h = finds rot w (logging wr) l o o' (open_write v v') h (scrub_stripe t) (E.scrub t (strips_w z W C K E S R rot w l o o' t e)) (by_strips h.clean h.veil (clean_scrub h.clean h.veil (logging wr) (open_write v v') h.holds).1.1)
    doing_scrub (logging wr) (kept_write v') h = absurd h.holds.reads
    doing_scrub (storing wr) (sure v) h = let a = scrub_tests z W C K E S R t true o e in finds rot w (storing wr) l o o' (sure v) h (scrub_stripe t) (E.scrub t (λ d j. cond (eqb t wr.stripe && wr.changes d) (wr.new d j) ((strips_w z W C K E S R rot w l o o' t e) d j))) (by_over h.clean h.veil wr (mending_over v wr h.clean l o o' h.holds t a.0 a.1))
    doing_scrub (storing wr) (open_write v v') h = absurd h.holds.reads
    doing_scrub (storing wr) (kept_write v') h = finds rot w (storing wr) l o o' (kept_write v') h (scrub_stripe t) (E.scrub t (λ d j. cond (eqb t wr.stripe && wr.changes d) (wr.new d j) ((strips_w z W C K E S R rot w l o o' t e) d j))) (by_over h.clean h.veil wr (clean_scrub h.clean h.veil (storing wr) (kept_write v') h.holds).1.1)
    doing_scrub labelling p h = finds rot w labelling l o o' p h (scrub_stripe t) (E.scrub t (strips_w z W C K E S R rot w l o o' t e)) (by_strips h.clean h.veil (clean_scrub h.clean h.veil labelling p h.holds).1.1)

  -- A STEP: the same action on the disks and on the clean ones
  inv_act : (k : Kind X) (p : View X) (c : World X) (a : Action X) (l : List (Action X)) (o o' : Own) → Invariant z W C K E S R (at c (doing k (a ∷ l) o o')) p → Invariant z W C K E S R (at (act c a) (doing k l o o')) p
  unfolding program
  inv_act k p c a l o o' h = let s = simulate z W C K E S R (from_host {w = c} {m = doing k (a ∷ l) o o'} step) p h in subst (Invariant z W C K E S R (at (act c a) (doing k l o o'))) s.1 s.2

  holds_act : (k : Kind X) (p : View X) (c : World X) (a : Action X) (l : List (Action X)) (o o' : Own) → (Holds z W C K E S R) (doing k (a ∷ l) o o') p c → (Holds z W C K E S R) (doing k l o o') p (act c a)
  holds_act creating p c a l o o' h = inv_act creating p c a l o o' h
  holds_act starting p c a l o o' h = inv_act starting p c a l o o' h
  holds_act (logging wr) (sure v) c a l o o' h = mending_act v wr c a (l ++ (stores_of z W C K E S R) o wr) o o' h
  holds_act (logging wr) (open_write v v') c a l o o' h = inv_act (logging wr) (open_write v v') c a l o o' h
  holds_act (logging wr) (kept_write v') c a l o o' h = inv_act (logging wr) (kept_write v') c a l o o' h
  holds_act (storing wr) (sure v) c a l o o' h = mending_act v wr c a l o o' h
  holds_act (storing wr) (open_write v v') c a l o o' h = inv_act (storing wr) (open_write v v') c a l o o' h
  holds_act (storing wr) (kept_write v') c a l o o' h = inv_act (storing wr) (kept_write v') c a l o o' h
  holds_act labelling p c a l o o' h = inv_act labelling p c a l o o' h

  stores_act : (k : Kind X) (w c : World X) (a : Action X) (l : List (Action X)) (o o' : Own) → (Stores z W C K E S R) (doing k (a ∷ l) o o') w c → (Stores z W C K E S R) (doing k l o o') (act w a) (act c a)
  stores_act creating w c a l o o' h = tt
  stores_act starting w c a l o o' h = tt
  stores_act (logging wr) w c a l o o' h = tt
  stores_act (storing wr) w c a l o o' h = h
  stores_act labelling w c a l o o' h = tt

  step_act : (rot : Rot) (w : World X) (k : Kind X) (a : Action X) (l : List (Action X)) (o o' : Own) (p : View X) → (Rotten z W C K E S R) rot w (doing k (a ∷ l) o o') p → (Follows z W C K E S R) rot w (doing k (a ∷ l) o o') step p (doing k l o o', did a)
  unfolding ends_it
  step_act rot w k a l o o' p h =
      record {
        view = p;
        told = refl;
        rests = subst (λ (y : Rot). (Rotten z W C K E S R) y (act w a) (doing k l o o') p) (sym (rot_kept rot k (a ∷ l) o o' (did a) refl))
            (record { clean = act h.clean a; veil = veiled_act K.c rot w h.clean a h.veil; one = h.one; stores = stores_act k w h.clean a l o o' h.stores; holds = holds_act k p h.clean a l o o' h.holds });
      }

  step_end : (rot : Rot) (w : World X) (k : Kind X) (o o' : Own) (p : View X) → (Rotten z W C K E S R) rot w (doing k [] o o') p → (Follows z W C K E S R) rot w (doing k [] o o') step p (one_step z W C K E S R k [] o o')
  unfolding program
  step_end rot w creating o o' p h =
      let s = simulate z W C K E S R (from_host {w = h.clean} {m = doing creating [] o o'} step) p h.holds in
      record { view = s.0; told = s.1; rests = record { clean = h.clean; veil = h.veil; one = h.one; stores = tt; holds = s.2 } }
  step_end rot w starting o o' p h =
      let s = simulate z W C K E S R (from_host {w = h.clean} {m = doing starting [] o o'} step) p h.holds in
      record { view = s.0; told = s.1; rests = record { clean = h.clean; veil = h.veil; one = h.one; stores = tt; holds = s.2 } }
  step_end rot w (logging wr) o o' (sure v) h =
      let B = belief z o.now in
      record {
        view = sure v;
        told = refl;
        rests = record {
          clean = h.clean;
          veil = h.veil;
          one = h.one;
          stores = (store_done K B wr.stripe wr.changes wr.new w h.veil.sane, store_done K B wr.stripe wr.changes wr.new h.clean h.holds.sane);
          holds = h.holds;
        };
      }
  step_end rot w (logging wr) o o' (open_write v v') h =
      let B = belief z o.now in
      let s = simulate z W C K E S R (from_host {w = h.clean} {m = doing (logging wr) [] o o'} step) (open_write v v') h.holds in
      record {
        view = s.0;
        told = s.1;
        rests = record {
          clean = h.clean;
          veil = h.veil;
          one = h.one;
          stores = (store_done K B wr.stripe wr.changes wr.new w h.veil.sane, store_done K B wr.stripe wr.changes wr.new h.clean h.holds.sane);
          holds = inv_holds (doing (storing wr) ((stores_of z W C K E S R) o wr) o o') s.0 h.clean s.2;
        };
      }
  step_end rot w (logging wr) o o' (kept_write v') h = absurd h.holds.ends
  step_end rot w (storing wr) o o' (sure v) h =
      let B = belief z o.now in
      record {
        view = sure v;
        told = refl;
        rests = record {
          clean = h.clean;
          veil = veiled_stored K.c K refl rot B wr.stripe wr.changes wr.new w h.clean h.holds.sane h.stores.0 h.stores.1 h.veil;
          one = mended_one rot B wr.stripe wr.changes h.one;
          stores = tt;
          holds = (h.holds.sane, mending_ready v wr h.clean [] o o' h.holds);
        };
      }
  step_end rot w (storing wr) o o' (open_write v v') h = absurd h.holds.ends
  step_end rot w (storing wr) o o' (kept_write v') h =
      let B = belief z o.now in
      let s = simulate z W C K E S R (from_host {w = h.clean} {m = doing (storing wr) [] o o'} step) (kept_write v') h.holds in
      record {
        view = s.0;
        told = s.1;
        rests = record {
          clean = h.clean;
          veil = veiled_stored K.c K refl rot B wr.stripe wr.changes wr.new w h.clean h.holds.sane h.stores.0 h.stores.1 h.veil;
          one = mended_one rot B wr.stripe wr.changes h.one;
          stores = tt;
          holds = s.2;
        };
      }
  step_end rot w labelling o o' p h =
      let s = simulate z W C K E S R (from_host {w = h.clean} {m = doing labelling [] o o'} step) p h.holds in
      record { view = s.0; told = s.1; rests = record { clean = h.clean; veil = h.veil; one = h.one; stores = tt; holds = s.2 } }

  step_any : (rot : Rot) (w : World X) (k : Kind X) (l : List (Action X)) (o o' : Own) (p : View X) → (Rotten z W C K E S R) rot w (doing k l o o') p → (Follows z W C K E S R) rot w (doing k l o o') step p (one_step z W C K E S R k l o o')
  step_any rot w k [] o o' p h = step_end rot w k o o' p h
  step_any rot w k (a ∷ l) o o' p h = step_act rot w k a l o o' p h

  host_doing : (rot : Rot) (w : World X) (k : Kind X) (l : List (Action X)) (o o' : Own) (p : View X) → (Rotten z W C K E S R) rot w (doing k l o o') p → (i : Input X) → (Follows z W C K E S R) rot w (doing k l o o') i p (program z W C K E S R (doing k l o o') w.cur i)
  unfolding program
  host_doing rot w k l o o' p h create = refuse rot w k l o o' p h create BUSY
  host_doing rot w k l o o' p h (start A) = refuse rot w k l o o' p h (start A) BUSY
  host_doing rot w k l o o' p h (read_block t i) = go (may z W C K E S R true o (read_block t i)) refl
    where
      go : (y : Verdict) → may z W C K E S R true o (read_block t i) ≡ y → (Follows z W C K E S R) rot w (doing k l o o') (read_block t i) p (doing k l o o', meanwhile z W C K E S R k o (mask z W C K E S R o.absent w.cur) t i y)
      go clear e = doing_read rot w l o o' t i e k p h
      go (because why) e = refuse rot w k l o o' p h (read_block t i) why
  host_doing rot w k l o o' p h (write t ch) = go (not (ltb t z.T && proper z W K E ch))
    where
      go : (b : Bool) → (Follows z W C K E S R) rot w (doing k l o o') (write t ch) p (answer z W C K E S R (doing k l o o') (cond b (because BAD_BLOCK) (because BUSY)) (doing k l o o') accepted)
      go true = refuse rot w k l o o' p h (write t ch) BAD_BLOCK
      go false = refuse rot w k l o o' p h (write t ch) BUSY
  host_doing rot w k l o o' p h (take_out d) = go (not (W.few (outed z.n o.now d).out)) (not (ltb d z.n))
    where
      go : (a b : Bool) → (Follows z W C K E S R) rot w (doing k l o o') (take_out d) p (answer z W C K E S R (doing k l o o') (cond a (because TOO_FEW) (cond b (because BAD_BLOCK) (because BUSY))) (doing k l o o') accepted)
      go true b = refuse rot w k l o o' p h (take_out d) TOO_FEW
      go false true = refuse rot w k l o o' p h (take_out d) BAD_BLOCK
      go false false = refuse rot w k l o o' p h (take_out d) BUSY
  host_doing rot w k l o o' p h (begin d) = go (not (ltb d z.n))
    where
      go : (b : Bool) → (Follows z W C K E S R) rot w (doing k l o o') (begin d) p (answer z W C K E S R (doing k l o o') (cond b (because BAD_BLOCK) (because BUSY)) (doing k l o o') accepted)
      go true = refuse rot w k l o o' p h (begin d) BAD_BLOCK
      go false = refuse rot w k l o o' p h (begin d) BUSY
  host_doing rot w k l o o' p h (rebuild_on b) = refuse rot w k l o o' p h (rebuild_on b) BUSY
  host_doing rot w k l o o' p h (scrub_stripe t) = go (may z W C K E S R true o (scrub_stripe t)) refl
    where
      go : (y : Verdict) → may z W C K E S R true o (scrub_stripe t) ≡ y → (Follows z W C K E S R) rot w (doing k l o o') (scrub_stripe t) p (doing k l o o', scrubbed z W C K E S R k o (mask z W C K E S R o.absent w.cur) t y)
      go clear e = doing_scrub rot w l o o' t e k p h
      go (because why) e = refuse rot w k l o o' p h (scrub_stripe t) why
  host_doing rot w k l o o' p h (repair t) = go (not (ltb t z.T))
    where
      go : (b : Bool) → (Follows z W C K E S R) rot w (doing k l o o') (repair t) p (answer z W C K E S R (doing k l o o') (also z W C K E S R (cond b (because BAD_BLOCK) (because BUSY)) (not (blames (finding z W C K E S R (mask z W C K E S R o.absent w.cur) t)))) (doing k l o o') accepted)
      go true = refuse rot w k l o o' p h (repair t) BAD_BLOCK
      go false = refuse rot w k l o o' p h (repair t) BUSY
  host_doing rot w k l o o' p h step = step_any rot w k l o o' p h

  -- EACH THING THAT THE HOST ASKS
  pub rot_host : (rot : Rot) (w : World X) (m : Memory X) (p : View X) → (Rotten z W C K E S R) rot w m p → (i : Input X) → (Allowed z W C K E S R) rot m w.cur i → (Follows z W C K E S R) rot w m i p (program z W C K E S R m w.cur i)
  rot_host rot w nothing p h i a = host_nothing rot w p h i a
  rot_host rot w (idle o) (sure v) h i a = host_idle rot w o v h i a
  rot_host rot w (idle o) (open_write v v') h i a = absurd h.holds
  rot_host rot w (idle o) (kept_write v') h i a = absurd h.holds
  rot_host rot w (doing k l o o') p h i a = host_doing rot w k l o o' p h i

  -- WHAT HAPPENS FROM OUTSIDE
  rot_cut : (rot : Rot) (w : World X) (m : Memory X) (p : View X) (f : Image X) → Possible w f → (Rotten z W C K E S R) rot w m p → (Rotten z W C K E S R) rot (after f) nothing p
  rot_cut rot w m p f q h =
      let c = h.clean in
      let off = holds_off m p c h.holds in
      record {
        clean = after (cleaned K.c rot c f);
        veil = veiled_cut K.c rot w c f h.veil;
        one = h.one;
        stores = tt;
        holds = off_cut z W C K E S R p c (cleaned K.c rot c f) (cleaned_possible K.c rot w c f h.veil off.sane q) off;
      }

  rot_dies : (rot : Rot) (w : World X) (m : Memory X) (p : View X) → (Rotten z W C K E S R) rot w m p → (Rotten z W C K E S R) rot w nothing p
  rot_dies rot w m p h = record { clean = h.clean; veil = h.veil; one = h.one; stores = tt; holds = holds_off m p h.clean h.holds }

  -- another disk in a slot that is not looked at: the clean disks get the same one
  module _ (rot : Rot) (w w' c : World X) (d g : ℕ) (veil : Veiled K.c rot w c) (sane : Sane c) (s : Swapped C d g w w') where
    hidden : Place → Bool
    hidden k = rotten K.c rot k && not (eqb (slot k) d)

    swapped_in : World X
    swapped_in = record { cur = λ k. cond (hidden k) (c.cur k) (w'.cur k); may = λ k x. cond (hidden k) (c.may k x) (w'.may k x) }

    seen_hidden : (k : Place) → hidden k ≡ false → rotten K.c rot k ≡ true → slot k ≡ d
    unfolding hidden
    seen_hidden k e r = go (eqb (slot k) d) refl
      where
        off : (a b : Bool) → a ≡ true → (a && not b) ≡ false → b ≡ true
        off true true p q = refl
        off true false p q = absurd (true≢false q)
        off false b p q = absurd (false≢true p)

        go : (b : Bool) → eqb (slot k) d ≡ b → slot k ≡ d
        go true q = eqb-true (slot k) d q
        go false q = absurd (true≢false (sym (off (rotten K.c rot k) (eqb (slot k) d) r e) ∙ q))

    swapped_sane : Sane swapped_in
    unfolding Sane Possible swapped_in
    swapped_sane k = go (hidden k)
      where
        go : (b : Bool) → cond b (c.may k (cond b (c.cur k) (w'.cur k))) (w'.may k (cond b (c.cur k) (w'.cur k)))
        go true = sane k
        go false = s.sane k

    swapped_veil : Veiled K.c rot w' swapped_in
    unfolding swapped_in hidden
    swapped_veil =
        record {
          sane = s.sane;
          reads = λ k e. rw e;
          allows = λ k x e m. rw e m;
        }

    clean_swapped : Swapped C d g c swapped_in
    unfolding swapped_in hidden Possible Sane copy
    clean_swapped =
        record {
          sane = swapped_sane;
          others = λ k n x m. other k n x (rotten K.c rot k) refl (hidden k) refl m;
          older = λ f p b. s.older (λ k. cond (hidden k) (w'.cur k) (f k)) (λ k. back f p k (hidden k) refl) b;
        }
      where
        other : (k : Place) → slot k ≢ d → (x : X) → (r : Bool) → rotten K.c rot k ≡ r → (b : Bool) → hidden k ≡ b → cond b (c.may k x) (w'.may k x) → c.may k x
        other k n x r q true e m = m
        other k n x true q false e m = absurd (n (seen_hidden k e q))
        other k n x false q false e m = veil.allows k x q (s.others k n x m)

        back : (f : Image X) → ((k : Place) → cond (hidden k) (c.may k (f k)) (w'.may k (f k))) → (k : Place) (b : Bool) → hidden k ≡ b → w'.may k (cond (hidden k) (w'.cur k) (f k))
        back f p k true e = rw e (s.sane k)
        back f p k false e = let y : cond (hidden k) (c.may k (f k)) (w'.may k (f k)) = p k in rw e (subst (λ (b : Bool). cond b (c.may k (f k)) (w'.may k (f k))) e y)

  rot_swap : (rot : Rot) (w w' : World X) (o : Own) (d : ℕ) (p : View X) → looked z o.now d ≡ false → Swapped C d o.now.generation w w' → (Rotten z W C K E S R) rot w (idle o) p → (Rotten z W C K E S R) rot w' (idle o) p
  rot_swap rot w w' o d p a s h =
      let c = h.clean in
      let sane = (holds_off (idle o) p c h.holds).sane in
      let c' = swapped_in rot w w' c d o.now.generation h.veil sane s in
      let r = simulate z W C K E S R (from_outside (disk_swapped {w = c} {w' = c'} {o = o} d a (clean_swapped rot w w' c d o.now.generation h.veil sane s))) p h.holds in
      record { clean = c'; veil = swapped_veil rot w w' c d o.now.generation h.veil sane s; one = h.one; stores = tt; holds = subst (λ (y : View X). Invariant z W C K E S R (at c' (idle o)) y) r.1 r.2 }

  stored_decay : (d t u : ℕ) (w w' : World X) → Sane w → Decayed K.c d t w w' → u ≢ t → (l : List (Action X)) (B : Belief) (ch : ℕ → Bool) (new : ℕ → ℕ → X) → Always (run w l) (Stored K B u ch new) → Always (run w' l) (Stored K B u ch new)
  unfolding Always
  stored_decay d t u w w' sane h n l B ch new a f p e j x y i =
      let none : Rot = λ e u. false in
      let self : Veiled K.c none w w = record { sane = sane; reads = λ k q. refl; allows = λ k x q m. m } in
      let v = veiled_run K.c (spread none d t) w' w l (veiled_decay K.c none d t w w' w h self) in
      let q = cleaned_possible K.c (spread none d t) (run w' l) (run w l) f v (sane_run w l sane) p in
      let off : rotten K.c (spread none d t) (strip e u j) ≡ false = rw (ne_eqb u t n) (last (eqb e d)) in
      cleaned_agrees K.c (spread none d t) (run w l) f (strip e u j) off ∙ a (cleaned K.c (spread none d t) (run w l) f) q e j x y i
    where
      last : (b : Bool) → ((b && false) && ltb j K.c) ≡ false
      last true = refl
      last false = refl

  spread_one : (rot : Rot) (d t : ℕ) → OneEach rot → ((e : ℕ) → rot e t ≡ true → e ≡ d) → OneEach (spread rot d t)
  spread_one rot d t one alone a b u p q = ⊎_elim (λ x. ⊎_elim (λ y. one a b u x y) (λ y. both_old a b u x y) (either (rot b u) (eqb b d && eqb u t) q)) (λ x. ⊎_elim (λ y. sym (both_old b a u y x)) (λ y. let s = two (eqb a d) (eqb u t) x in let r = two (eqb b d) (eqb u t) y in eqb-true a d s.0 ∙ sym (eqb-true b d r.0)) (either (rot b u) (eqb b d && eqb u t) q)) (either (rot a u) (eqb a d && eqb u t) p)
    where
      both_old : (a b u : ℕ) → rot a u ≡ true → (eqb b d && eqb u t) ≡ true → a ≡ b
      both_old a b u x y = let s = two (eqb b d) (eqb u t) y in alone a (subst (λ (v : ℕ). rot a v ≡ true) (eqb-true u t s.1) x) ∙ sym (eqb-true b d s.0)

  stores_decay : (m : Memory X) (d t : ℕ) (w w' c : World X) → Sane w → Decayed K.c d t w w' → (Still z W C K E S R) m t → (Stores z W C K E S R) m w c → (Stores z W C K E S R) m w' c
  stores_decay nothing d t w w' c s h q a = tt
  stores_decay (idle o) d t w w' c s h q a = tt
  stores_decay (doing creating l o o') d t w w' c s h q a = tt
  stores_decay (doing starting l o o') d t w w' c s h q a = tt
  stores_decay (doing (logging wr) l o o') d t w w' c s h q a = tt
  stores_decay (doing (storing wr) l o o') d t w w' c s h q a = (stored_decay d t wr.stripe w w' s h q l (belief z o.now) wr.changes wr.new a.0, a.1)
  stores_decay (doing labelling l o o') d t w w' c s h q a = tt

  rot_decays : (rot : Rot) (w w' : World X) (m : Memory X) (p : View X) (d t : ℕ) → Decayed K.c d t w w' → ((e : ℕ) → rot e t ≡ true → e ≡ d) → (Still z W C K E S R) m t → (Rotten z W C K E S R) rot w m p → (Rotten z W C K E S R) (spread rot d t) w' m p
  rot_decays rot w w' m p d t q alone still h =
      record {
        clean = h.clean;
        veil = veiled_decay K.c rot d t w w' h.clean q h.veil;
        one = spread_one rot d t h.one alone;
        stores = stores_decay m d t w w' h.clean h.veil.sane q still h.stores;
        holds = h.holds;
      }

  -- EACH EVENT
  pub rot_simulate : {rot rot' : Rot} {m m' : Machine X} {e : Event X} (s : (RotHappens z W C K E S R) rot m e rot' m') (p : View X) → (RottenAt z W C K E S R) rot m p → (Onward z W C K E S R) s p
  rot_simulate (cut_off {rot = rot} {w = w} {m = m} f q) p h = record { view = p; told = refl; rests = rot_cut rot w m p f q h }
  rot_simulate (died {rot = rot} {w = w} {m = m}) p h = record { view = p; told = refl; rests = rot_dies rot w m p h }
  rot_simulate (swapped {rot = rot} {w = w} {w' = w'} {o = o} d a s) p h = record { view = p; told = refl; rests = rot_swap rot w w' o d p a s h }
  rot_simulate (asked {rot = rot} {w = w} {m = m} i a) p h = let f = rot_host rot w m p h i a in record { view = f.view; told = f.told; rests = f.rests }

  -- THE PROMISE, for any sequence of events while strips rot
  pub rot_promise : {rot rot' : Rot} {m m' : Machine X} (r : (RotRuns z W C K E S R) rot m rot' m') (p : View X) → (RottenAt z W C K E S R) rot m p → (Promised z W C K E S R) r p
  rot_promise stays p h = record { view = p; told = refl; rests = h }
  rot_promise (goes s r) p h =
      let a = rot_simulate s p h in
      let b = rot_promise r a.view a.rests in
      record { view = b.view; told = (a.view, a.told, b.told); rests = b.rests }
  rot_promise (decays {rot = rot} {w = w} {w' = w'} {m = m} d t q alone still r) p h =
      let b = rot_promise r p (rot_decays rot w w' m p d t q alone still h) in
      record { view = b.view; told = b.told; rests = b.rests }

  pub rot_ready : (w : World X) (o : Own) (v : Host X) → Sane w → Ready z W C K E S R v w o → (Rotten z W C K E S R) (no_rot z W C K E S R) w (idle o) (sure v)
  rot_ready w o v sane h = record { clean = w; veil = record { sane = sane; reads = λ k e. refl; allows = λ k x e m. m }; one = λ d e t a b. absurd (false≢true a); stores = tt; holds = (sane, h) }

  pub rot_off : (w : World X) (p : View X) → Off z W C K E S R p w → (Rotten z W C K E S R) (no_rot z W C K E S R) w nothing p
  rot_off w p h = record { clean = w; veil = record { sane = h.sane; reads = λ k e. refl; allows = λ k x e m. m }; one = λ d e t a b. absurd (false≢true a); stores = tt; holds = h }
