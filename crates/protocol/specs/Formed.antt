-- The C6 shape along every history: `shaped` for each event, `shaped_always` for any sequence of them. A disk that is put in has it itself: strictly, or a disk without a label of this
-- shelf and slot may hold anything.
use Rattle.std.specs.Prelude.{ℕ, ◌<◌, ◌≡◌, Bool, ◌⊎◌, ◌≢◌}
use Rattle.std.proofs.Math.Path.{sym}
use Rattle.std.proofs.Common.{◌∙◌, arith}
use Rattle.std.proofs.Math.Bool.{true, false}
use Rattle.std.proofs.Math.Logic.{inl}
use mathlib.Core.List.{List}
use Rattle.protocol.specs.World.{Place, label, Image, World, run, Sane, Always, During}
use Rattle.protocol.specs.Log.{RecordCodec}
use Rattle.protocol.specs.Label.{alien, Size, Quorum, LabelCodec}
use Rattle.protocol.specs.Decide.{data_place}
use Rattle.protocol.specs.Host.{Host, Code}
use Rattle.protocol.specs.Program.{Stamps, Medium, Own, Memory, nothing, idle, doing, Reply}
use Rattle.protocol.specs.Invariant.{Ready}
use Rattle.protocol.specs.Promise as Promise
use Rattle.protocol.specs.Promise.{Zeros}
use Rattle.protocol.specs.Machine.{Machine, at, effect, Event, Outside, power_cut, program_dies, disk_swapped, Happens, from_outside, from_host, Runs, stays, goes}
use Rattle.protocol.specs.Shape.{ShapeBy, ShapesBy}
use Rattle.protocol.specs.Tidy.{Has}

module _ {X : Type 0} (z : Size) (W : Quorum z.n) (C : LabelCodec X z.n) (K : RecordCodec X) (E : Code X z.n K.c W) (S : Stamps) (R : Medium z W C K E S) (strict : Bool) where
  -- every present disk has the settled generation
  abbrev pub Current : Own → Image X → Type 0
  Current o f = ShapesBy C strict f × ((d : ℕ) → d < z.n → o.absent d ≡ false → Has z W C K f d o.now.generation)

  -- actions that put data only
  abbrev pub Data : Place → Type 0
  Data k = data_place k ≡ true

  abbrev pub Any : ℕ → Type 0
  Any d = Unit {0}

  -- ZEROS OVER COPIES OF ANOTHER SHELF on disk d: the disks keep their shape
  module _ (o : Own) (d : ℕ) (seen : Image X) where
    abbrev pub Others : Image X → Type 0
    Others f = (e : ℕ) → e < z.n → o.absent e ≡ false → e ≢ d → Has z W C K f e o.now.generation

    -- a label sector of d holds what was read, or zeros where that was another shelf's
    abbrev pub Purge : Image X → Bool → Type 0
    Purge f b = (f (label d b) ≡ seen (label d b)) ⊎ ((alien C seen b d ≡ true) × (f (label d b) ≡ C.zeros))

  -- THE SHAPE, in every state of the machine
  abbrev pub Shaped : Machine X → Type 0
  Shaped (at w nothing) = Always w (ShapesBy C strict)
  Shaped (at w (idle o)) = Always w (Current o)
  Shaped (at w (doing k l o o')) = During w l (ShapesBy C strict) × Always (run w l) (Current o')

  abbrev pub After : World X → Memory X × Reply X → Type 0
  After w r = Shaped (at (effect w r.1) r.0)

  -- what the shape needs of the machine's state: what is read is possible, and if the program is ready it is so with some list
  abbrev pub Standing : World X → Memory X → Type 0
  Standing w nothing = Sane w
  Standing w (idle o) = Sane w × ((v : Host X) × Ready z W C K E S R v w o)
  Standing w (doing k l o o') = Sane w

  -- a disk that is put in has the shape, and its slot is absent until its rebuild begins
  abbrev pub NewShaped : {m m' : Machine X} {e : Event X} → Outside z W C K E S R m e m' → Type 0
  NewShaped (power_cut f q) = Unit {0}
  NewShaped program_dies = Unit {0}
  NewShaped (disk_swapped {w' = w'} {o = o} d a s) = (o.absent d ≡ true) × Always w' (λ f. ShapeBy C strict f d)

  abbrev pub AllShaped : {m m' : Machine X} {e : Event X} → Happens z W C K E S R m e m' → Type 0
  AllShaped (from_outside x) = NewShaped x
  AllShaped (from_host i) = Unit {0}

  abbrev pub Tidily : {m m' : Machine X} {l : List (Event X)} → Runs z W C K E S R m l m' → Type 0
  Tidily stays = Unit {0}
  Tidily (goes x r) = AllShaped x × Tidily r

  -- zeros have the shape
  pub zeros_shaped : (f : Image X) → Zeros z W C K E S R f → ShapesBy C strict f
  zeros_shaped f h d i = record { calm = λ b u. inl (h.labels d b i ∙ sym R.same_zeros); follow = λ b p q. absurd (omega (arith, p, Promise.copy_zeros z W C K E S R f h d b i)) }
