-- WHAT IS TRUE AT EVERY MOMENT OF A CHAIN OF CALLS, whatever is under way, in the words of the bytes: no label on any disk lies, nor does the state's own; at rest every absent slot is plainly out and
-- create is refused; start with other numbers is refused; what was accepted is carried out, and its steps lead to rest. All from the tie with the protocol's machine (`Bound`), for any family. Assumes nothing.
use Rattle.std.specs.Prelude.{◌≡◌, Bool, length}
use Rattle.std.proofs.Math.Bool.{true, false}
use Rattle.protocol.specs.Machine.{Machine, View}
use Rattle.codecs.specs.Sector.{Sector}
use Rattle.codecs.specs.Shelf.{Shelf, slots}
use Rattle.stages.specs.declared.state.Kind.{Kind}
use Rattle.stages.specs.declared.state.Kind.TheVariants.{Nothing, Idle, Creating, Starting, Labelling, Writing, Beginning, Filling}
use Rattle.requests.specs.Begun.{work_bytes}
use Rattle.refine.specs.Family.{Family}
use Rattle.refine.specs.Hosts.{Held, none, has, Time, at, HostChain, stays, goes_on, BoundAt}

-- a state at rest, or with a request under way that began at rest: every one but create and start-up, which have no label of their own yet
abbrev pub from_rest : Kind → Bool
from_rest Nothing = false
from_rest Idle = true
from_rest Creating = false
from_rest Starting = false
from_rest Labelling = true
from_rest Writing = true
from_rest Beginning = true
from_rest Filling = true

-- ---- CHAINS

unfoldable pub chained_on : {z : Shelf} {a b c : Time} → HostChain z a b → HostChain z b c → HostChain z a c
chained_on p stays = p
chained_on p (goes_on q x) = goes_on (chained_on p q) x

-- ---- WHAT HOLDS AT EVERY MOMENT OF A CHAIN

-- the work area that the caller holds has the size that the requests ask for
abbrev pub Room : Shelf → Held → Type 0
Room z none = Unit {0}
Room z (has s work) = length work ≡ work_bytes (slots z) z.c

abbrev pub Sized : Shelf → Time → Type 0
Sized z (at w img h) = Room z h

module _ (z : Shelf) (first : Machine Sector) where
  -- at this moment the tie holds, for some family and some view
  abbrev pub SomeBound : Time → Type 1
  SomeBound t = (F : Family z) × (p : View Sector) × BoundAt z F first p t

  -- at every moment of the chain
  abbrev pub Along : {a b : Time} → HostChain z a b → Type 1
  Along {a} stays = SomeBound a
  Along {b = b} (goes_on c x) = Along c × SomeBound b
