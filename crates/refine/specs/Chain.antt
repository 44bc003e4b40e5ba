-- THE TIE BETWEEN THE CALLS AND THE PROTOCOL'S MACHINE, of the public functions create, start, take_out and step, on disks with caches, with
-- power cuts and deaths of the caller in between. What the functions return and leave is said in the words of their contracts
-- (`create_of`, `start_of`, `take_out_of`, `step_with`). Each call is an event of the protocol's machine or changes nothing, and the disks are
-- that machine's. (Hosts has the chains of calls, with those that need the work area too.) Assumes nothing.
--
-- A refusal is an answer that leaves everything as it was, and needs no event. The code may refuse more than the protocol's program:
-- a disk whose newest label is another shelf's.
use Rattle.std.specs.Prelude.{◌≡◌, ◌⊎◌, Bool, true, ◌&&◌, ℕ, leb, length, Ok, Err}
use Rattle.std.proofs.Math.Path.{refl, ap, subst}
use Rattle.std.proofs.Common.{◌∙◌, true≢false}
use Rattle.std.proofs.Math.Bool.{false, cond}
use Rattle.std.proofs.lemmas.Bool.{false≢true}
use mathlib.Core.List.{List, [], ◌∷◌, ◌++◌, Memᴰ}
use Rattle.std.proofs.Math.Dec.{ltb}
use Rattle.disk.specs.Mask.{in_mask}
use Rattle.disk.specs.Image.{fits_image}
use Rattle.disk.specs.declared.refusal.Refusal.TheVariants.{BadImage, NotNow}
use Rattle.label.specs.Fields.{geometry_of, fits_of}
use Rattle.label.specs.Bytes.{all_zero}
use Rattle.protocol.specs.World.{Place, slot, World, put, flush, act, after, Always}
use Rattle.protocol.specs.Program.{Memory, nothing, Reply, accepted, refused}
use Rattle.protocol.specs.Program as program
use Rattle.protocol.specs.Host.{Host}
use Rattle.protocol.specs.Machine.{Machine, Event, from_outside, program_dies, View, Goes}
use Rattle.protocol.specs.Machine as machine
use Rattle.protocol.specs.Formed.{Shaped, AllShaped}
use Rattle.protocol.proofs.Formed.{shaped}
use Rattle.protocol.proofs.Promise.{simulate}
use Rattle.protocol.specs.Even.{is_accepted}
use Rattle.protocol.specs.Even as even
use Rattle.protocol.specs.Pairs.{no_sets}
use Rattle.codecs.specs.Sector.{Sector}
use Rattle.codecs.proofs.Sector.{zeros}
use Rattle.codecs.specs.Shelf.{Shelf, slots, size}
use Rattle.codecs.specs.Labels.{ours}
use Rattle.codecs.proofs.Labels.{labels}
use Rattle.codecs.proofs.Records.{records}
use Rattle.codecs.specs.Media.{stamps}
use Rattle.shards.specs.Quorum.{few_of}
use Rattle.shards.proofs.Even.{any_code, any_sectors, ShelfRuns}
use Rattle.shelf.specs.Act.{refuses}
use Rattle.shelf.specs.Step.{under_way, sound, walk, step_move, finished}
use Rattle.shelf.specs.Step as Step
use Rattle.stages.specs.Limits.{most_stages}
use Rattle.stages.specs.declared.state.State.{State}
use Rattle.stages.specs.declared.state.Kind.{Kind}
use Rattle.stages.specs.declared.state.Kind.TheVariants.{Nothing, Idle, Creating, Starting, Labelling, Writing, Beginning, Filling}
use Rattle.stages.specs.Told.{Answer}
use Rattle.stages.specs.Told as answer
use Rattle.requests.specs.Step.{step_with, step_unsound}
use Rattle.requests.specs.Ready.{is_idle}
use Rattle.requests.specs.Begun.{Begun}
use Rattle.refine.specs.Family.{Family, code_in, sectors_in, HappensIn, KeepsIn}
use Rattle.refine.specs.Places.{sector_of, inside}
use Rattle.refine.specs.Disks.{Disks, cur_of}
use Rattle.refine.specs.Steps.{Fair}
use Rattle.refine.specs.Tied.{memory_of, plain}
use Rattle.refine.specs.Named.{Named, Names, left_in}

-- ---- THE CALLS

-- what the caller holds: no state (none yet, or it was lost), or the one that it was handed last
pub data Hand : Type 0 where
  none : Hand
  has : State → Hand

-- the state of a request that was accepted; a refusal leaves what was held
abbrev pub handed : Hand → Begun → Hand
handed h (Ok s) = has s
handed h (Err why) = h

-- what the disks are once the caller has done what a step's answer says, with the image that the step left: the sector put is read
-- at once, and may or may not be there after a cut; a flush makes certain what its slot reads as; no other answer does anything
abbrev pub Heard : Shelf → World Sector → Answer → List ℕ → World Sector → Type 1
Heard z w (answer.Put d to) img w' = (k : Place) × (inside z k ≡ true) × (slot k ≡ d) × (sector_of z k ≡ to) × (w' ≡ act w (put k (cur_of z img k)))
Heard z w (answer.Flush d) img w' = w' ≡ act w (flush d)
Heard z w answer.Done img w' = w' ≡ w
Heard z w (answer.Refused why) img w' = w' ≡ w

-- THE SET OF SLOTS THAT A START-UP OR A TAKE-OUT LEAVES OUT, if it is accepted: those that the label calls out which it settles
abbrev pub outs : Begun → List (ℕ → Bool)
outs (Ok s) = in_mask s.next.out ∷ []
outs (Err why) = []

-- ---- THE TIE with the protocol's machine

-- the host's blocks at first: all zeros
abbrev pub blocks : Host Sector
blocks t i j = zeros

-- what the protocol's program remembers
abbrev pub memory_in : Shelf → Hand → List ℕ → Memory Sector
memory_in z none img = nothing
memory_in z (has s) img = memory_of z s [] img

-- the state is of this shelf, and at rest or with a request under way that can be carried out
abbrev InOrder : Shelf → Hand → List ℕ → Type 0
InOrder z none img = Unit {0}
InOrder z (has s) img = (ours z s.next ≡ true) × ((Fair z s [] img × (plain s.kind ≡ true)) ⊎ ((s.kind ≡ Idle) × (ours z s.now ≡ true)))

-- what is asked of the sets that are left out: those of at most m slots are in the family
abbrev pub Allowed : (z : Shelf) → Family z → List (ℕ → Bool) → Type 0
Allowed z F l = (s : ℕ → Bool) → Memᴰ s l → few_of z s ≡ true → F.sets.few s ≡ true

module _ (z : Shelf) where
  -- what happens to the machine with the shelf's program
  abbrev pub HappensTo : Machine Sector → Event Sector → Machine Sector → Type 1
  HappensTo = even.HappensBy (size z) (no_sets (slots z)) (labels z) (records z) (any_code z) stamps (any_sectors z) (few_of z)

  run_on : {a b c : Machine Sector} {e : Event Sector} (l : List (Event Sector)) → ShelfRuns z a l b → HappensTo b e c → ShelfRuns z a (l ++ (e ∷ [])) c
  run_on l even.stays h = even.goes h even.stays
  run_on l (even.goes {l = r} y x) h = even.goes y (run_on r x h)

module _ (z : Shelf) (F : Family z) (first : Machine Sector) where
  -- the protocol's machine comes here from the first one by its own events, and its invariant holds for the family, with the host's view p;
  -- and the disks' labels have their shape (document 02, C6)
  pub record Reached (p : View Sector) (w : World Sector) (m : Memory Sector) : Type 1 where
    pub events : List (Event Sector)
    pub runs : ShelfRuns z first events (machine.at w m)
    pub keeps : KeepsIn z F (machine.at w m) p
    pub tidy : Shaped (size z) F.sets (labels z) (records z) (code_in z F) stamps (sectors_in z F) false (machine.at w m)

  -- the image is that of the disks as they are read, no label on them names another shelf or is about to, and what the caller holds is in order
  pub record Tie (p : View Sector) (w : World Sector) (img : List ℕ) (h : Hand) : Type 1 where
    pub disks : Disks z img
    pub reads : w.cur ≡ cur_of z img
    pub reached : Reached p w (memory_in z h img)
    pub named : Always w (Named z)
    pub names : Names z (left_in z (memory_in z h img))
    pub order : InOrder z h img

  -- one event more: the view goes on as it may
  pub happens_to : {p : View Sector} {w w' : World Sector} {m m' : Memory Sector} {e : Event Sector} → Reached p w m → HappensTo z (machine.at w m) e (machine.at w' m') → (h : HappensIn z F (machine.at w m) e (machine.at w' m'))
      → AllShaped (size z) F.sets (labels z) (records z) (code_in z F) stamps (sectors_in z F) false h → (q : View Sector) × Goes z.c e p q × Reached q w' m'
  happens_to {p} {w} {w'} {m} {m'} {e} t x h new =
      let r = simulate (size z) F.sets (labels z) (records z) (code_in z F) stamps (sectors_in z F) h p t.keeps in (
        r.0,
        r.1,
        record {
          events = t.events ++ (e ∷ []);
          runs = run_on z t.events t.runs x;
          keeps = r.2;
          tidy = shaped (size z) F.sets (labels z) (records z) (code_in z F) stamps (sectors_in z F) false h new p t.keeps t.tidy;
        },
      )

module _ (z : Shelf) (F : Family z) (first : Machine Sector) (view : View Sector) where
  -- one event more, that leaves the view
  pub happens : {w w' : World Sector} {m m' : Memory Sector} {e : Event Sector} → Reached z F first view w m → HappensTo z (machine.at w m) e (machine.at w' m') → (h : HappensIn z F (machine.at w m) e (machine.at w' m'))
      → AllShaped (size z) F.sets (labels z) (records z) (code_in z F) stamps (sectors_in z F) false h → ((q : View Sector) → Goes z.c e view q → q ≡ view) → Reached z F first view w' m'
  happens {w' = w'} {m' = m'} t x h new same = let y = happens_to z F first t x h new in subst (λ (q : View Sector). Reached z F first q w' m') (same y.0 y.1) y.2

  -- the program dies
  pub off : {w : World Sector} {m : Memory Sector} → Reached z F first view w m → Reached z F first view w nothing
  off t = happens t (even.from_outside program_dies) (from_outside program_dies) tt (λ q e. e)

  -- a request that is accepted, and leaves out one set, or none
  pub accepted_none : (why : program.Refusal) → ◌≡◌ {A = Reply Sector} accepted (refused why) → ⊥
  unfolding is_accepted
  accepted_none why e = absurd (true≢false (ap is_accepted e))

  -- taking a slot out
  pub idle_is : (k : Kind) → is_idle k ≡ true → k ≡ Idle
  idle_is Nothing e = absurd (false≢true e)
  idle_is Idle e = refl
  idle_is Creating e = absurd (false≢true e)
  idle_is Starting e = absurd (false≢true e)
  idle_is Labelling e = absurd (false≢true e)
  idle_is Writing e = absurd (false≢true e)
  idle_is Beginning e = absurd (false≢true e)
  idle_is Filling e = absurd (false≢true e)

  -- at rest every step is refused
  and_none : (a : Bool) → (a && false) ≡ false
  and_none true = refl
  and_none false = refl

  pub step_rests : (s : State) (img : List ℕ) (work : List ℕ) → s.kind ≡ Idle → step_with s img work ≡ refuses s NotNow img
  unfolding sound step_move
  step_rests s img work k =
      let no : sound s ≡ false = ap (λ (x : Kind). fits_of s.now && (under_way x && (leb s.cursor.stage most_stages && ltb s.cursor.sector s.now.sectors))) k ∙ and_none (fits_of s.now) in
      step_unsound s img work no
      ∙ ap (λ (b : Bool). cond b (cond (fits_image (geometry_of s.now) (length img)) (Step.keeps s (walk most_stages s (geometry_of s.now) work img)) (refuses s BadImage img)) (refuses s NotNow img)) no

-- ---- THE BEGINNING

module _ (z : Shelf) (img : List ℕ) (disks : Disks z img) (blank : all_zero img ≡ true) where
  -- the protocol's machine on these disks, with nothing in their caches and no program
  abbrev pub fresh : Machine Sector
  fresh = machine.at (after (cur_of z img)) nothing
