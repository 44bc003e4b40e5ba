-- CHAINS OF CALLS WITH DISKS EXCHANGED WHILE NO PROGRAM RUNS, or at rest where the slot is out, what is asked of the sets of slots that they leave out, and what they do to the host's view. (Exchanges in
-- slots that the state calls absent are calls of Hosts.) Assumes nothing.
use Rattle.std.specs.Prelude.{◌≡◌, ◌≢◌, Bool, false, List, [], ◌++◌, ℕ, ◌<◌, None}
use Rattle.disk.specs.Mask.{in_mask}
use Rattle.disk.specs.Image.{sector}
use Rattle.label.specs.Bytes.{all_zero}
use Rattle.label.specs.Newest.{copy_of}
use Rattle.redo.specs.Decide.{looked}
use Rattle.protocol.specs.World.{World, after, Possible}
use Rattle.protocol.specs.Machine.{View}
use Rattle.protocol.specs.Pairs.{AnyTwo}
use Rattle.codecs.specs.Sector.{Sector}
use Rattle.codecs.specs.Shelf.{Shelf, slots, geometry}
use Rattle.stages.specs.declared.state.State.{State}
use Rattle.stages.specs.declared.state.Kind.TheVariants.{Idle}
use Rattle.refine.specs.Disks.{Disks, cur_of}
use Rattle.refine.specs.Swaps.{Exchanged, new_disk}
use Rattle.refine.specs.Hosts.{none, has, Time, at, HostCalls, creates, starts, creates_late, takes_out, begins, ons, writes, repairs, steps, cut, dies, swaps, sets_call, Saw}
use Rattle.refine.specs.Since.{settles}
use Rattle.refine.specs.Serves.{ReadsAs}

-- the disk of slot d is exchanged: the image was img and is left then; the new disk holds no valid label, every other slot stays
pub record Blanked (z : Shelf) (d : ℕ) (img left : List ℕ) : Type 0 where
  pub there : d < slots z
  pub disks : Disks z left
  pub others : (e i : ℕ) → e < slots z → i < z.sectors → e ≢ d → sector z.sectors left e i ≡ sector z.sectors img e i
  pub blank : (o : ℕ) → o < 2 → copy_of (geometry z) left d o ≡ None

-- the shelf is not created anew: create is not called on an image of zeros any more
abbrev pub NotAnew : {z : Shelf} {a b : Time} → HostCalls z a b → Type 0
NotAnew (creates {img = img} s work) = all_zero img ≡ false
NotAnew (creates_late s k m c S number work e) = Unit {0}
NotAnew (starts s g absent work sits) = Unit {0}
NotAnew (takes_out d) = Unit {0}
NotAnew (begins d) = Unit {0}
NotAnew (ons b) = Unit {0}
NotAnew (writes b given s' then x y e) = Unit {0}
NotAnew (repairs t b then r) = Unit {0}
NotAnew (steps heard) = Unit {0}
NotAnew (cut left d p) = Unit {0}
NotAnew dies = Unit {0}
NotAnew (swaps d left x) = Unit {0}

-- a call of Hosts; or, while no state is held, another disk
pub data Exchanges (z : Shelf) : Time → Time → Type 1 where
  calls : {a b : Time} (x : HostCalls z a b) → NotAnew x → Exchanges z a b
  replaced : {w : World Sector} {img : List ℕ} (d : ℕ) (left : List ℕ) → Blanked z d img left → Exchanges z (at w img none) (at (new_disk z w d left) left none)
  -- at rest, with the state held: slot d is out, but the state does not call it absent (that case is `swaps`). From then on every request that would change something is refused, until the shelf is started anew
  pulled : {w : World Sector} {img : List ℕ} {s : State} {work : List ℕ} (d : ℕ) (left : List ℕ) → s.kind ≡ Idle → looked (geometry z) s.now d ≡ false → in_mask s.absent d ≡ false → Blanked z d img left
      → Exchanges z (at w img (has s work)) (at (new_disk z w d left) left (has s work))
  -- power is lost at rest, and while it is off another disk is put into slot d, which the state called absent: one that `swaps` may put in
  swapped_off : {w : World Sector} {img : List ℕ} {s : State} {work : List ℕ} (d : ℕ) (left then : List ℕ) → Disks z left → Possible w (cur_of z left) → Exchanged z s d left then
      → Exchanges z (at w img (has s work)) (at (new_disk z (after (cur_of z left)) d then) then none)

pub data ExchangeChain (z : Shelf) : Time → Time → Type 1 where
  stays : {a : Time} → ExchangeChain z a a
  goes_on : {a b c : Time} → ExchangeChain z a b → Exchanges z b c → ExchangeChain z a c

abbrev pub sets_exchange : {z : Shelf} {a b : Time} → Exchanges z a b → List (ℕ → Bool)
sets_exchange (calls x n) = sets_call x
sets_exchange (replaced d left x) = []
sets_exchange (pulled d left e l n x) = []
sets_exchange (swapped_off d left then y q x) = []

abbrev pub all_sets : {z : Shelf} {a b : Time} → ExchangeChain z a b → List (ℕ → Bool)
all_sets stays = []
all_sets (goes_on c x) = sets_exchange x ++ all_sets c

-- ---- WHAT IS ASKED, for shelves with k <= m, as without exchanges (Since)

-- the sets that are left out since the last moment of rest; `old` are those before the chain. (A state at rest has its label settled, even where the disk of a slot that is out was exchanged. While no state is
-- held, and while a start-up is under way, there is no rest.)
abbrev pub since_then : {z : Shelf} {a b : Time} → List (ℕ → Bool) → ExchangeChain z a b → List (ℕ → Bool)
since_then old stays = old
since_then {b = b} old (goes_on c x) = settles b (sets_exchange x ++ since_then old c)

-- at every call any two of them leave a slot out
abbrev pub AnyTwoThen : {z : Shelf} {a b : Time} → List (ℕ → Bool) → ExchangeChain z a b → Type 0
AnyTwoThen old stays = Unit {0}
AnyTwoThen {z} old (goes_on c x) = AnyTwoThen old c × AnyTwo (slots z) (sets_exchange x ++ since_then old c)

-- ---- THE VIEW

-- an exchange leaves the view
abbrev pub SawExchange : {z : Shelf} {a b : Time} → Exchanges z a b → View Sector → View Sector → Type 0
SawExchange (calls x n) p q = Saw x p q
SawExchange (replaced d left x) p q = q ≡ p
SawExchange (pulled d left e l n x) p q = q ≡ p
SawExchange (swapped_off d left then y u x) p q = q ≡ p

-- the views along a chain: each call changes them as its answer says, and reads show their entries at every moment
abbrev pub AllServed : {z : Shelf} {a b : Time} → ExchangeChain z a b → View Sector → View Sector → Type 0
AllServed {z} {a} stays p q = (q ≡ p) × ReadsAs z a q
AllServed {z} {b = b} (goes_on c x) p q = (r : View Sector) × AllServed c p r × SawExchange x r q × ReadsAs z b q
