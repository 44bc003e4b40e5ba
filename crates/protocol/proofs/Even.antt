-- WHERE TWO SETS OF FEW SLOTS CAN BE ALL SLOTS (k <= m). The program is the same one, and its own test of few slots is any test at all: "at most m", say. As long as the sets of slots that are left
-- out by accepted start-ups and take-outs lie in one family of which any two sets leave a slot out (a Quorum), it does what the program does whose test is that family. (What is asked of the world
-- there, and the promise: Since.)
use Rattle.std.specs.Prelude.{ℕ, ◌≡◌, Bool, cond, ◌⊎◌, ltb}
use Rattle.std.proofs.Math.Path.{refl, subst}
use Rattle.std.proofs.Common.{sym, ap, true≢false, inr}
use Rattle.std.proofs.Math.Bool.{true, false}
use Rattle.std.proofs.lemmas.Bool.{false≢true}
use Rattle.std.proofs.Math.Logic.{⊎_elim, inl}
use mathlib.Core.List.Memᴰ
use mathlib.Core.List.{List, [], ◌∷◌, Memᴰ}
use Rattle.protocol.specs.World.{Image}
use Rattle.protocol.specs.Log.{RecordCodec}
use Rattle.protocol.specs.Label.{Size, Quorum, LabelCodec}
use Rattle.protocol.specs.Request.{outed}
use Rattle.protocol.specs.Host.{Code}
use Rattle.protocol.specs.Program.{Stamps, Medium, BUSY, NOT_NOW, Verdict, clear, because, Memory, nothing, idle, doing, Input, create, start, read_block, write, take_out, begin, rebuild_on, scrub_stripe, repair, step, Reply, accepted, refused, did, safe, done, block, found, beyond, may_start, may, answer, asked_start, asked_out, program}
use Rattle.protocol.specs.Machine as Machine
use Rattle.protocol.specs.Machine.{Machine, at, effect, Event, ask, Runs, View, Views, next}
use Rattle.protocol.specs.Even.{Alike, Shared, is_accepted, may_start_by, may_out_by, program_by, leaves, Common, Refused, start_verdict, out_verdict, sight, set_start, some_label, some_room, no_need, HappensBy, RunsBy, left_one, left_by, refusable, none, same_event, both_refused, from_outside, from_host, stays, goes}

pub views_alike : {X : Type 0} {c : ℕ} {p q : View X} {l l' : List (Event X)} → Alike l l' → Views c p l' q → Views c p l q
views_alike none v = v
views_alike (same_event a) (next g v) = next g (views_alike a v)
views_alike (both_refused a) (next g v) = next g (views_alike a v)

is_clear : Verdict → Bool
is_clear clear = true
is_clear (because why) = false

module _ {X : Type 0} (z : Size) (W : Quorum z.n) (C : LabelCodec X z.n) (K : RecordCodec X) (E : Code X z.n K.c W) (S : Stamps) (R : Medium z W C K E S) (test : (ℕ → Bool) → Bool) where
  either : (m m' : Memory X) (v v' : Verdict) → (v ≡ clear → v' ≡ clear) → (answer z W C K E S R m v m' accepted ≡ answer z W C K E S R m v' m' accepted) ⊎ (Refused z W C K E S R test) m (answer z W C K E S R m v m' accepted)
  either m m' clear v' h = inl (rw (h refl))
  either m m' (because why) v' h = inr (why, refl)

  start_clear : (a t b : Bool) → (start_verdict z W C K E S R test) a t b ≡ clear → (t ≡ true) × ((u : Bool) → u ≡ true → (start_verdict z W C K E S R test) a u b ≡ clear)
  unfolding is_clear
  start_clear true true true e = (refl, λ u h. rw h)
  start_clear true true false e = absurd (false≢true (ap is_clear e))
  start_clear true false b e = absurd (false≢true (ap is_clear e))
  start_clear false t b e = absurd (false≢true (ap is_clear e))

  out_clear : (t a b c : Bool) → (out_verdict z W C K E S R test) t a b c ≡ clear → (t ≡ true) × (b ≡ false) × ((u : Bool) → u ≡ true → (out_verdict z W C K E S R test) u a b c ≡ clear)
  unfolding is_clear
  out_clear true true true c e = absurd (false≢true (ap is_clear e))
  out_clear true true false true e = absurd (false≢true (ap is_clear e))
  out_clear true true false false e = (refl, refl, λ u h. rw h)
  out_clear true false b c e = absurd (false≢true (ap is_clear e))
  out_clear false a b c e = absurd (false≢true (ap is_clear e))

  -- what is accepted was clear
  was_clear : (m m' : Memory X) (v : Verdict) → (answer z W C K E S R m v m' accepted).1 ≡ accepted → v ≡ clear
  unfolding is_accepted
  was_clear m m' clear e = refl
  was_clear m m' (because why) e = absurd (false≢true (ap is_accepted e))

  only_one : (family : (ℕ → Bool) → Bool) (s t : ℕ → Bool) → family s ≡ true → Memᴰ t (s ∷ []) → family t ≡ true
  only_one family s t h (Memᴰ.head e) = rw e h
  only_one family s t h (Memᴰ.tail m) = absurd (Memᴰ.not-nil m)

  -- the program's own test holds of whatever it accepts
  pub passed : (m : Memory X) (f : Image X) (i : Input X) → (Common z W C K E S R test) test m f i
  unfolding program_by
  passed nothing f create e s m = absurd (Memᴰ.not-nil m)
  passed nothing f (start A) e s m = only_one test ((set_start z W C K E S R test) A f) s (start_clear ((some_label z W C K E S R test) A f) (test ((set_start z W C K E S R test) A f)) ((some_room z W C K E S R test) A f) (was_clear nothing (asked_start z W C K E S R (beyond z.n A) ((sight z W C K E S R test) A f)) ((may_start_by z W C K E S R test) (beyond z.n A) ((sight z W C K E S R test) A f)) e)).0 m
  passed nothing f (read_block t i) e s m = absurd (Memᴰ.not-nil m)
  passed nothing f (write t ch) e s m = absurd (Memᴰ.not-nil m)
  passed nothing f (take_out d) e s m = absurd (Memᴰ.not-nil m)
  passed nothing f (begin d) e s m = absurd (Memᴰ.not-nil m)
  passed nothing f (rebuild_on b) e s m = absurd (Memᴰ.not-nil m)
  passed nothing f (scrub_stripe t) e s m = absurd (Memᴰ.not-nil m)
  passed nothing f (repair t) e s m = absurd (Memᴰ.not-nil m)
  passed nothing f step e s m = absurd (Memᴰ.not-nil m)
  passed (idle o) f create e s m = absurd (Memᴰ.not-nil m)
  passed (idle o) f (start A) e s m = absurd (Memᴰ.not-nil m)
  passed (idle o) f (read_block t i) e s m = absurd (Memᴰ.not-nil m)
  passed (idle o) f (write t ch) e s m = absurd (Memᴰ.not-nil m)
  passed (idle o) f (take_out d) e s m = only_one test (outed z.n o.now d).out s (out_clear (test (outed z.n o.now d).out) (ltb d z.n) false ((no_need z W C K E S R test) o d) (was_clear (idle o) (asked_out z W C K E S R o d) ((may_out_by z W C K E S R test) false o d) e)).0 m
  passed (idle o) f (begin d) e s m = absurd (Memᴰ.not-nil m)
  passed (idle o) f (rebuild_on b) e s m = absurd (Memᴰ.not-nil m)
  passed (idle o) f (scrub_stripe t) e s m = absurd (Memᴰ.not-nil m)
  passed (idle o) f (repair t) e s m = absurd (Memᴰ.not-nil m)
  passed (idle o) f step e s m = absurd (Memᴰ.not-nil m)
  passed (doing k l o o') f i e s m = absurd (Memᴰ.not-nil m)

  -- WHAT IT ANSWERS IS WHAT THE PROGRAM ANSWERS WHOSE TEST IS THE FAMILY, if the set left out is in the family; or it is a refusal
  pub by_step : (m : Memory X) (f : Image X) (i : Input X) → (Common z W C K E S R test) W.few m f i → ((program_by z W C K E S R test) m f i ≡ program z W C K E S R m f i) ⊎ (Refused z W C K E S R test) m ((program_by z W C K E S R test) m f i)
  unfolding program_by program
  by_step nothing f create h = inl refl
  by_step nothing f (start A) h =
      either nothing (asked_start z W C K E S R (beyond z.n A) ((sight z W C K E S R test) A f)) ((may_start_by z W C K E S R test) (beyond z.n A) ((sight z W C K E S R test) A f)) (may_start z W C K E S R (beyond z.n A) ((sight z W C K E S R test) A f))
      (λ e. (start_clear ((some_label z W C K E S R test) A f) (test ((set_start z W C K E S R test) A f)) ((some_room z W C K E S R test) A f) e).1 (W.few ((set_start z W C K E S R test) A f)) (h (ap (λ (v : Verdict). (answer z W C K E S R nothing v (asked_start z W C K E S R (beyond z.n A) ((sight z W C K E S R test) A f)) accepted).1) e) ((set_start z W C K E S R test) A f) (Memᴰ.head refl)))
  by_step nothing f (read_block t i) h = inl refl
  by_step nothing f (write t ch) h = inl refl
  by_step nothing f (take_out d) h = inl refl
  by_step nothing f (begin d) h = inl refl
  by_step nothing f (rebuild_on b) h = inl refl
  by_step nothing f (scrub_stripe t) h = inl refl
  by_step nothing f (repair t) h = inl refl
  by_step nothing f step h = inl refl
  by_step (idle o) f create h = inl refl
  by_step (idle o) f (start A) h = inl refl
  by_step (idle o) f (read_block t i) h = inl refl
  by_step (idle o) f (write t ch) h = inl refl
  by_step (idle o) f (take_out d) h =
      either (idle o) (asked_out z W C K E S R o d) ((may_out_by z W C K E S R test) false o d) (may z W C K E S R false o (take_out d))
      (λ e. (out_clear (test (outed z.n o.now d).out) (ltb d z.n) false ((no_need z W C K E S R test) o d) e).2 (W.few (outed z.n o.now d).out) (h (ap (λ (v : Verdict). (answer z W C K E S R (idle o) v (asked_out z W C K E S R o d) accepted).1) e) (outed z.n o.now d).out (Memᴰ.head refl)))
  by_step (idle o) f (begin d) h = inl refl
  by_step (idle o) f (rebuild_on b) h = inl refl
  by_step (idle o) f (scrub_stripe t) h = inl refl
  by_step (idle o) f (repair t) h = inl refl
  by_step (idle o) f step h = inl refl
  by_step (doing k l o o') f create h = inl refl
  by_step (doing k l o o') f (start A) h = inl refl
  by_step (doing k l o o') f (read_block t i) h = inl refl
  by_step (doing k l o o') f (write t ch) h = inl refl
  by_step (doing k l o o') f (take_out d) h =
      either (doing k l o o') (doing k l o o') ((may_out_by z W C K E S R test) true o d) (may z W C K E S R true o (take_out d))
      (λ e. absurd (true≢false (out_clear (test (outed z.n o.now d).out) (ltb d z.n) true ((no_need z W C K E S R test) o d) e).1))
  by_step (doing k l o o') f (begin d) h = inl refl
  by_step (doing k l o o') f (rebuild_on b) h = inl refl
  by_step (doing k l o o') f (scrub_stripe t) h = inl refl
  by_step (doing k l o o') f (repair t) h = inl refl
  by_step (doing k l o o') f step h = inl refl

  pub refuses : (m : Memory X) (f : Image X) → (Refused z W C K E S R test) m (program z W C K E S R m f ((refusable z W C K E S R test) m))
  unfolding program refusable
  refuses nothing f = (NOT_NOW, refl)
  refuses (idle o) f = (NOT_NOW, refl)
  refuses (doing k l o o') f = (BUSY, refl)

  -- an event is one of the machine whose test is the family, or a refusal, as there is one in that machine
  one_by : {m m' m'' : Machine X} {e : Event X} {l l' : List (Event X)} (s : (HappensBy z W C K E S R test) m e m') → Shared W.few ((left_one z W C K E S R test) s) → Alike l l' → Runs z W C K E S R m' l' m'' → (l'' : List (Event X)) × Alike (e ∷ l) l'' × Runs z W C K E S R m l'' m''
  unfolding is_accepted
  one_by (from_outside {e = e} x) h a r = (e ∷ _, same_event a, Machine.goes (Machine.from_outside x) r)
  one_by {m'' = m''} {l = l} {l' = l'} (from_host {w = w} {m = m} i) h a r =
      ⊎_elim (λ e. subst Goal (sym e) (λ q. (ask i (program z W C K E S R m w.cur i).1 ∷ l', same_event a, Machine.goes (Machine.from_host {w = w} {m = m} i) q)) r)
      (λ y. subst Goal (sym y.1) (λ q. (ask ((refusable z W C K E S R test) m) (refused no.0) ∷ l', both_refused a, subst (λ (b : Memory X × Reply X). Runs z W C K E S R (at (effect w b.1) b.0) l' m'' → Runs z W C K E S R (at w m) (ask ((refusable z W C K E S R test) m) b.1 ∷ l') m'') no.1 (λ x. Machine.goes (Machine.from_host {w = w} {m = m} ((refusable z W C K E S R test) m)) x) q)) r)
      (by_step m w.cur i (λ e t j. h t (subst (λ (x : Reply X). Memᴰ t (cond (is_accepted x) ((leaves z W C K E S R test) m w.cur i) [])) (sym e) j)))
    where
      Goal : Memory X × Reply X → Type 1
      Goal b = Runs z W C K E S R (at (effect w b.1) b.0) l' m'' → (l'' : List (Event X)) × Alike (ask i b.1 ∷ l) l'' × Runs z W C K E S R (at w m) l'' m''

      no : (Refused z W C K E S R test) m (program z W C K E S R m w.cur ((refusable z W C K E S R test) m))
      no = refuses m w.cur

  -- SUCH A RUN IS A RUN OF THE MACHINE WHOSE TEST IS THE FAMILY, but for refusals: so all that is promised there is promised here
  pub asked_runs : {m m' : Machine X} {l : List (Event X)} (r : (RunsBy z W C K E S R test) m l m') → Shared W.few ((left_by z W C K E S R test) r) → (l' : List (Event X)) × Alike l l' × Runs z W C K E S R m l' m'
  asked_runs stays h = ([], none, Machine.stays)
  asked_runs (goes s r) h =
      let y = asked_runs r (λ t j. h t (Memᴰ.append_right ((left_one z W C K E S R test) s) j)) in
      one_by s (λ t j. h t (Memᴰ.append_left ((left_by z W C K E S R test) r) j)) y.1 y.2

  -- the program's own test holds of all of them
  one_passed : {m m' : Machine X} {e : Event X} (s : (HappensBy z W C K E S R test) m e m') → Shared test ((left_one z W C K E S R test) s)
  unfolding is_accepted
  one_passed (from_outside x) t j = absurd (Memᴰ.not-nil j)
  one_passed (from_host {w = w} {m = m} i) t j = go ((program_by z W C K E S R test) m w.cur i).1 refl j
    where
      go : (x : Reply X) → ((program_by z W C K E S R test) m w.cur i).1 ≡ x → Memᴰ t (cond (is_accepted x) ((leaves z W C K E S R test) m w.cur i) []) → test t ≡ true
      go accepted e j = passed m w.cur i e t j
      go (refused why) e j = absurd (Memᴰ.not-nil j)
      go (did a) e j = absurd (Memᴰ.not-nil j)
      go safe e j = absurd (Memᴰ.not-nil j)
      go (done k) e j = absurd (Memᴰ.not-nil j)
      go (block b) e j = absurd (Memᴰ.not-nil j)
      go (found x) e j = absurd (Memᴰ.not-nil j)

  pub all_passed : {m m' : Machine X} {l : List (Event X)} (r : (RunsBy z W C K E S R test) m l m') → Shared test ((left_by z W C K E S R test) r)
  all_passed stays t j = absurd (Memᴰ.not-nil j)
  all_passed (goes s r) t j = ⊎_elim (one_passed s t) (all_passed r t) (Memᴰ.append_cases ((left_one z W C K E S R test) s) j)

-- WHERE THE TEST IS ITSELF SUCH A FAMILY (at most m, for k > m), it is the same program, and nothing is asked: all-passed
module _ {X : Type 0} (z : Size) (W : Quorum z.n) (C : LabelCodec X z.n) (K : RecordCodec X) (E : Code X z.n K.c W) (S : Stamps) (R : Medium z W C K E S) where
  pub same_program : (m : Memory X) (f : Image X) (i : Input X) → program_by z W C K E S R W.few m f i ≡ program z W C K E S R m f i
  unfolding program_by program
  same_program nothing f create = refl
  same_program nothing f (start A) = refl
  same_program nothing f (read_block t i) = refl
  same_program nothing f (write t ch) = refl
  same_program nothing f (take_out d) = refl
  same_program nothing f (begin d) = refl
  same_program nothing f (rebuild_on b) = refl
  same_program nothing f (scrub_stripe t) = refl
  same_program nothing f (repair t) = refl
  same_program nothing f step = refl
  same_program (idle o) f create = refl
  same_program (idle o) f (start A) = refl
  same_program (idle o) f (read_block t i) = refl
  same_program (idle o) f (write t ch) = refl
  same_program (idle o) f (take_out d) = refl
  same_program (idle o) f (begin d) = refl
  same_program (idle o) f (rebuild_on b) = refl
  same_program (idle o) f (scrub_stripe t) = refl
  same_program (idle o) f (repair t) = refl
  same_program (idle o) f step = refl
  same_program (doing k l o o') f create = refl
  same_program (doing k l o o') f (start A) = refl
  same_program (doing k l o o') f (read_block t i) = refl
  same_program (doing k l o o') f (write t ch) = refl
  same_program (doing k l o o') f (take_out d) = refl
  same_program (doing k l o o') f (begin d) = refl
  same_program (doing k l o o') f (rebuild_on b) = refl
  same_program (doing k l o o') f (scrub_stripe t) = refl
  same_program (doing k l o o') f (repair t) = refl
  same_program (doing k l o o') f step = refl
