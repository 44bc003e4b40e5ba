-- THE PROMISE TO THE HOST. Along every chain of calls from an image of zeros on there is a view of the host's, at first all blocks
-- zeros, which each call changes only as its answer says, and at every moment a read that answers Done shows the view's entry, and a
-- repair is refused, since it finds nothing to mend. For every shelf, where any two of the sets of slots that the chain leaves out from
-- one moment of rest to the next leave a slot out in common (`AnyTwoSince`); for k > m nothing is asked. And what the list's entries are:
-- those of a write that is acknowledged are the bytes given, all others stay. Assumes nothing.
use Rattle.std.specs.Prelude.{◌≡◌, List, ℕ, ◌<◌, Err}
use Rattle.std.proofs.Math.Path.{refl}
use Rattle.std.proofs.Common.{subst}
use Rattle.std.proofs.Math.Bool.{true}
use Rattle.disk.specs.declared.refusal.Refusal.{Refusal}
use Rattle.label.specs.Bytes.{all_zero}
use Rattle.protocol.specs.World.{World, after}
use Rattle.protocol.specs.Host.{Host}
use Rattle.protocol.specs.Machine.{Machine, View, sure}
use Rattle.protocol.specs.Pairs.{AnyTwo}
use Rattle.codecs.specs.Sector.{Sector}
use Rattle.codecs.specs.Shelf.{Shelf, slots}
use Rattle.stages.specs.declared.state.State.{State}
use Rattle.stages.specs.declared.state.Kind.TheVariants.{Idle}
use Rattle.requests.specs.Begun.{Begun, state_of}
use Rattle.blocks.specs.Repair.{Repairs}
use Rattle.refine.specs.Family.{Family, every_few, parts_few}
use Rattle.refine.specs.Disks.{Disks, cur_of}
use Rattle.refine.specs.Chain.{Allowed, blocks, fresh}
use Rattle.refine.proofs.Chain.{fresh_tie}
use Rattle.refine.specs.Hosts.{none, has, Time, at, HostChain, stays, goes_on, sets, Bound, BoundAt}
use Rattle.refine.proofs.Hosts.{repair_refused_there, repair_changes_nothing, call_bound}
use Rattle.refine.proofs.HostHolds.{bound_rests}
use Rattle.refine.specs.Since.{AnyTwoSince, since, Suits}
use Rattle.refine.proofs.Since.{one_suits, since_suits, some_family}
use Rattle.refine.proofs.Since as Since
use Rattle.refine.proofs.ReadsLaws.{read_right}
use Rattle.refine.specs.Serves.{ReadsAs, Served}
use Rattle.requests.specs.Begun.{outcome_of}

module _ (z : Shelf) (F : Family z) (first : Machine Sector) where
  reads_as : (t : Time) (p : View Sector) → BoundAt z F first p t → ReadsAs z t p
  reads_as (at w img none) p h = tt
  reads_as (at w img (has s work)) p h = λ b buf ok. read_right z F first p w img s b work buf ok h

module _ (z : Shelf) (first : Machine Sector) where
  served_in : (F : Family z) {a b : Time} (c : HostChain z a b) → Suits z first c F → (p : View Sector) → ((G : Family z) → BoundAt z G first p a) → (q : View Sector) × Served c p q × BoundAt z F first q b
  served_in F {a} stays ok p t = (p, (refl, reads_as z F first a p (t F)), t F)
  served_in F {b = b} (goes_on c x) ok p t =
      let G = ok.0 in
      let y = served_in G c ok.2 p t in
      let r = call_bound z G first x ok.1 y.0 y.2 in
      (r.0, (y.0, y.1, r.1, reads_as z G first b r.0 r.2), ok.3 r.0 r.2)

-- ---- FROM ZEROS ON

module _ (z : Shelf) (img : List ℕ) (disks : Disks z img) (blank : all_zero img ≡ true) where
  -- the view, and the tie with the protocol's machine (HostHolds says what else follows from it)
  pub served_bound : (F : Family z) {b : Time} (c : HostChain z (at (after (cur_of z img)) img none) b) → Allowed z F (sets c) → (p : View Sector) × Served c (sure blocks) p × BoundAt z F (fresh z img disks blank) p b
  served_bound F c ok = served_in z (fresh z img disks blank) F c (one_suits z (fresh z img disks blank) F c ok) (sure blocks) (fresh_tie z img disks blank)

  -- at rest it is a list
  pub served_rests : (F : Family z) {w : World Sector} {left : List ℕ} {s : State} {work : List ℕ} (c : HostChain z (at (after (cur_of z img)) img none) (at w left (has s work))) → Allowed z F (sets c) → s.kind ≡ Idle
      → (v : Host Sector) × Served c (sure blocks) (sure v)
  served_rests F {w} {left} {s} {work} c ok e =
      let y = served_bound F c ok in
      let r = bound_rests z F (fresh z img disks blank) y.0 w left s work e y.2 in
      (r.0, subst (λ (p : View Sector). Served c (sure blocks) p) r.1 y.1)

  -- FOR EVERY SHELF: the view and the tie, for a family of the sets since the last rest
  pub bound_since : {b : Time} (c : HostChain z (at (after (cur_of z img)) img none) b) → AnyTwoSince c → (F : Family z) × (p : View Sector) × Served c (sure blocks) p × BoundAt z F (fresh z img disks blank) p b
  bound_since c two =
      let f = some_family z (fresh z img disks blank) c two in
      let y = served_in z (fresh z img disks blank) f.0 c f.1 (sure blocks) (fresh_tie z img disks blank) in
      (f.0, y.0, y.1, y.2)

  -- for any family that has them
  pub bound_for_since : (F : Family z) {b : Time} (c : HostChain z (at (after (cur_of z img)) img none) b) → AnyTwoSince c → Allowed z F (since c) → (p : View Sector) × Served c (sure blocks) p × BoundAt z F (fresh z img disks blank) p b
  bound_for_since F c two ok = served_in z (fresh z img disks blank) F c (since_suits z (fresh z img disks blank) c two F ok) (sure blocks) (fresh_tie z img disks blank)

  pub any_reads_right : {b : Time} (c : HostChain z (at (after (cur_of z img)) img none) b) → AnyTwoSince c → (p : View Sector) × Served c (sure blocks) p
  any_reads_right c two = let y = bound_since c two in (y.1, y.2)

  -- it is less than to ask it of all sets of the chain: so it is, for one, where one slot takes part in all of them (one-takes-part)
  pub pairs_since : {b : Time} (c : HostChain z (at (after (cur_of z img)) img none) b) → AnyTwo (slots z) (sets c) → AnyTwoSince c
  pairs_since c two = Since.pairs_since z (fresh z img disks blank) (sets c) two c (λ s m. m) (sure blocks) (fresh_tie z img disks blank (parts_few z (sets c) two))

  -- FOR k > m
  pub reads_right : z.m < z.k → {b : Time} (c : HostChain z (at (after (cur_of z img)) img none) b) → (p : View Sector) × Served c (sure blocks) p
  reads_right more c = let y = served_bound (every_few z more) c (λ s m e. e) in (y.0, y.1)

  -- A REPAIR IS REFUSED at every moment, since it finds nothing to mend, and changes nothing
  repair_bound : (F : Family z) (p : View Sector) (w : World Sector) (left : List ℕ) (s : State) (work : List ℕ) → Bound z F (fresh z img disks blank) p w left (has s work)
      → (t : ℕ) (b : Begun) (then : List ℕ) → Repairs s t left work b then → ((why : Refusal) × (outcome_of b ≡ Err why)) × (state_of s b ≡ s) × (then ≡ work)
  repair_bound F p w left s work h t b then r =
      let same = repair_changes_nothing z F (fresh z img disks blank) p w left s work t b then r h in
      (repair_refused_there z F (fresh z img disks blank) p w left s work t b then r h, same.0, same.1)

  -- for every shelf
  pub any_repair_refused : {w : World Sector} {left : List ℕ} {s : State} {work : List ℕ} (c : HostChain z (at (after (cur_of z img)) img none) (at w left (has s work))) → AnyTwoSince c
      → (t : ℕ) (b : Begun) (then : List ℕ) → Repairs s t left work b then → ((why : Refusal) × (outcome_of b ≡ Err why)) × (state_of s b ≡ s) × (then ≡ work)
  any_repair_refused {w} {left} {s} {work} c two = let y = bound_since c two in repair_bound y.0 y.1 w left s work y.3

  -- for k > m
  pub repairs_refused : z.m < z.k → {w : World Sector} {left : List ℕ} {s : State} {work : List ℕ} (c : HostChain z (at (after (cur_of z img)) img none) (at w left (has s work)))
      → (t : ℕ) (b : Begun) (then : List ℕ) → Repairs s t left work b then → ((why : Refusal) × (outcome_of b ≡ Err why)) × (state_of s b ≡ s) × (then ≡ work)
  repairs_refused more {w} {left} {s} {work} c = let y = served_bound (every_few z more) c (λ s m e. e) in repair_bound (every_few z more) y.0 w left s work y.2
