-- DISKS THAT WERE EXCHANGED AND ARE NOT TOLD OF YET: while no program runs, while a start-up runs that was told that their slots are absent, and at rest where they are out. A call in a world that may hold
-- less after a cut can be told in the one that may hold more; a cut leaves the old disks as they are read; a start-up that is not refused, and its steps, are told on the old disks; and when it comes to
-- rest, the exchanges are told, one after the other. Assumes nothing.
use Rattle.std.specs.Prelude.{◌≡◌, ◌⊎◌, Bool, not, ◌&&◌, List, ℕ, ◌+◌, ◌<◌, eqb, length, Ok}
use Rattle.std.proofs.Math.Path.{refl, sym, ap}
use Rattle.std.proofs.Common.{◌∙◌, true≢false, arith}
use Rattle.std.proofs.Math.Bool.{true, false, false≢true}
use Rattle.disk.specs.Mask.{in_mask}
use Rattle.disk.specs.Image.{sector, Shape}
use Rattle.redo.specs.Decide.{looked}
use Rattle.protocol.specs.World.{World, Possible}
use Rattle.protocol.specs.Machine.{Machine, View}
use Rattle.codecs.specs.Sector.{Sector}
use Rattle.codecs.specs.Shelf.{Shelf, slots, geometry}
use Rattle.shelf.specs.Act.{Move}
use Rattle.shelf.specs.Step.{step_move}
use Rattle.stages.specs.declared.state.State.{State}
use Rattle.stages.specs.declared.state.Kind.{Kind}
use Rattle.stages.specs.declared.state.Kind.TheVariants.{Idle, Creating, Starting, Labelling, Writing, Beginning, Filling}
use Rattle.stages.specs.declared.state.Kind.TheVariants as kind
use Rattle.requests.specs.Ready.{is_idle}
use Rattle.requests.specs.Begun.{Begun}
use Rattle.blocks.specs.Slots.{too_few}
use Rattle.blocks.specs.Answers.{serves, look_answer, sizes, block_answer, first_done, answered_done}
use Rattle.blocks.specs.Read.{read_answer}
use Rattle.refine.specs.Family.{Family}
use Rattle.refine.specs.Disks.{Disks, cur_of}
use Rattle.refine.specs.Tied.{plain}
use Rattle.refine.specs.Chain.{Tie}
use Rattle.refine.specs.Chain as chain
use Rattle.refine.specs.Merged.{slot_from, slots_from, slots_disks, slots_other}
use Rattle.refine.specs.Lags.{Lags, nowhere, Behind}
use Rattle.refine.specs.Hosts.{Held, none, has, Time, at, held, HostCalls, sets_call, Saw, BoundAt}

-- ---- THE SAME CALL, TOLD IN A WORLD THAT MAY HOLD MORE

abbrev pub told : Time → World Sector → Time
told (at w img h) w0 = at w0 img h

abbrev pub LagsAt : Time → World Sector → Type 0
LagsAt (at w img h) w0 = Lags nowhere w w0

module _ (z : Shelf) where
  pub record Retold {a b : Time} (x : HostCalls z a b) (w0 : World Sector) : Type 1 where
    pub world : World Sector
    pub call : HostCalls z (told a w0) (told b world)
    pub lags : LagsAt b world
    pub same_sets : sets_call call ≡ sets_call x
    pub saw : (p q : View Sector) → Saw call p q → Saw x p q

  -- a start-up waits for the slots of A, which it was told are absent
  abbrev pub Starts : (ℕ → Bool) → State → Type 0
  Starts A s = (s.kind ≡ Starting) × ((e : ℕ) → A e ≡ true → in_mask s.absent e ≡ true)

  -- or the program is at rest, and they are out but not called absent
  pub record Pulled (A : ℕ → Bool) (s : State) : Type 0 where
    pub rests : s.kind ≡ Idle
    pub one : ℕ
    pub is_one : A one ≡ true
    pub out : (e : ℕ) → A e ≡ true → looked (geometry z) s.now e ≡ false
    pub present : (e : ℕ) → A e ≡ true → in_mask s.absent e ≡ false

  abbrev pub Waits : (ℕ → Bool) → Held → Type 0
  Waits A none = Unit {0}
  Waits A (has s work) = Starts A s ⊎ Pulled A s

  abbrev pub hand_of : Held → chain.Hand
  hand_of none = chain.none
  hand_of (has s work) = chain.has s

-- a start-up, and no other request
abbrev pub starting : Kind → Bool
starting kind.Nothing = false
starting Idle = false
starting Creating = false
starting Starting = true
starting Labelling = false
starting Writing = false
starting Beginning = false
starting Filling = false

pub same_length : (z : Shelf) (x y : List ℕ) → Disks z x → Disks z y → length x ≡ length y
unfolding Shape
same_length z x y dx dy = dx.shape ∙ sym dy.shape

module _ (z : Shelf) (F : Family z) (first : Machine Sector) where
  pub record Late (p : View Sector) (w : World Sector) (img : List ℕ) (h : Held) : Type 1 where
    pub away : ℕ → Bool
    pub w0 : World Sector
    pub img0 : List ℕ
    pub behind : Behind z away w img w0 img0
    pub tie : Tie z F first p w0 img0 (hand_of z h)
    pub waits : Waits z away h

  abbrev pub LateAt : View Sector → Time → Type 1
  LateAt p (at w img h) = Late p w img h

  -- the world that is told may hold more after a cut, and is otherwise the same; or it is behind
  abbrev pub StandsAt : View Sector → Time → Type 1
  StandsAt p t = ((w0 : World Sector) × LagsAt t w0 × BoundAt z F first p (told t w0)) ⊎ LateAt p t

  -- ---- AT REST all is told: the disks are exchanged one after the other

  module _ (p : View Sector) (w : World Sector) (img : List ℕ) (s : State) (e : s.kind ≡ Idle) where
    module _ (A : ℕ → Bool) (w0 : World Sector) (img0 : List ℕ) (b : Behind z A w img w0 img0) (t : Tie z F first p w0 img0 (chain.has s)) (d : ℕ) (here : A d ≡ true) (gone : in_mask s.absent d ≡ true) where
      abbrev pub onto : List ℕ
      onto = slot_from z d img img0 z.sectors

      abbrev pub rest : ℕ → Bool
      rest x = A x && not (eqb x d)

  -- ---- A CUT: each old disk is told to hold what is read of it

  module _ (p : View Sector) (w : World Sector) (img : List ℕ) (h : Held) (t : Late p w img h) where
    module _ (left : List ℕ) (d : Disks z left) (possible : Possible w (cur_of z left)) where
      -- what it leaves, with the old disks still there
      unfoldable pub told_left : List ℕ
      told_left = slots_from z t.away t.img0 left (slots z)

      pub told_disks : Disks z told_left
      unfolding told_left
      told_disks = slots_disks z t.away t.img0 left t.tie.disks d (slots z) (omega arith)

      pub told_alike : (e u : ℕ) → e < slots z → u < z.sectors → t.away e ≡ false → sector z.sectors left e u ≡ sector z.sectors told_left e u
      unfolding told_left
      told_alike e u i l a = sym (slots_other z t.away t.img0 left t.tie.disks d (slots z) (omega arith) e u i l a)

    module _ (s : State) (absent : ℕ) (work : List ℕ) where
      abbrev pub After : Begun → Type 1
      After b = StandsAt p (at w img (held h b work))

  module _ (p : View Sector) (w : World Sector) (img : List ℕ) (s : State) (work : List ℕ) (t : Late p w img (has s work)) (up : Starts z t.away s) where
    pub late_busy : is_idle s.kind ≡ true → ⊥
    late_busy e = false≢true (sym (ap is_idle up.0) ∙ e)

    -- no read is answered meanwhile
    pub late_unread : (b : ℕ) (buf : List ℕ) → read_answer s.now s.kind s.absent b (length img) (length buf) (length work) ≡ Ok tt → ⊥
    unfolding block_answer
    late_unread b buf ok =
        false≢true
        (sym (ap serves up.0)
        ∙ (answered_done (too_few s.now s.absent) _ true (serves s.kind) (sizes (s.now.k + s.now.m) s.now.c (length buf) (length work))
        (first_done (look_answer s.now s.kind (length img)) (block_answer s.now s.absent true (serves s.kind) b (length buf) (length work)) ok).1).makes_sense)

    pub plainly : plain s.kind ≡ true
    plainly = ap plain up.0

    abbrev pub m : Move
    m = step_move s work img

    abbrev pub m0 : Move
    m0 = step_move s work t.img0

    -- slots that are present were not exchanged
    pub present : (e : ℕ) → in_mask s.absent e ≡ false → t.away e ≡ false
    present e n = by (t.away e) refl
      where
        by : (b : Bool) → t.away e ≡ b → b ≡ false
        by true q = absurd (true≢false (sym (up.1 e q) ∙ n))
        by false q = refl
