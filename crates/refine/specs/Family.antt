-- A FAMILY OF SETS OF SLOTS, of which any two leave a slot out, and each is at most m: what is kept along a history is kept for such a family, in which lie the sets of slots that accepted
-- start-ups and take-outs leave out. For k > m all sets of at most m are one, and nothing is asked. For every shelf the parts of sets of which any two leave a slot out are one.
-- The program is the shelf's own throughout, whose test is "at most m". Assumes nothing.
use Rattle.std.specs.Prelude.{◌≡◌, Bool, true, false, ℕ, ◌<◌}
use Rattle.std.proofs.Common.{sym, ap, subst, ◌∙◌, ⊎_elim}
use mathlib.Core.List.{List, Memᴰ}
use Rattle.protocol.specs.World.{Image, World, strip, Always}
use Rattle.protocol.specs.Label.{Quorum, believed}
use Rattle.protocol.specs.Host.{Host, Code, table}
use Rattle.protocol.specs.Program.{Medium, Refusal, Own, Memory, idle, Input, Reply, accepted, refused, program}
use Rattle.protocol.specs.Machine.{Machine, at, Event, Happens, View, sure}
use Rattle.protocol.specs.Invariant.{Invariant}
use Rattle.protocol.specs.Promise.{Zeros}
use Rattle.protocol.proofs.Kept as Kept
use Rattle.protocol.specs.Even.{leaves}
use Rattle.protocol.proofs.Even.{by_step}
use Rattle.protocol.specs.Pairs.{AnyTwo, no_sets, tested_parts, parts_pass, none_in, code_for, medium_for}
use Rattle.protocol.proofs.Pairs.{same_by, same_leaves}
use Rattle.protocol.specs.Pairs as Pairs
use Rattle.protocol.proofs.Since.{rest_for, rest_few}
use Rattle.codecs.specs.Sector.{Sector}
use Rattle.codecs.specs.Shelf.{Shelf, slots, size, some_slots}
use Rattle.codecs.proofs.Labels.{labels}
use Rattle.codecs.proofs.Records.{records}
use Rattle.codecs.specs.Media.{stamps}
use Rattle.shards.specs.Quorum.{few_of}
use Rattle.shards.proofs.Quorum.{few_none, quorum}
use Rattle.shards.proofs.Even.{any_code, mends, any_sectors, few_parts, shelf_program}

pub record Family (z : Shelf) : Type 0 where
  pub sets : Quorum (slots z)
  pub few : (a : ℕ → Bool) → sets.few a ≡ true → few_of z a ≡ true
  pub none : sets.few (λ d. false) ≡ true

-- for k > m: all sets of at most m slots
abbrev pub every_few : (z : Shelf) → z.m < z.k → Family z
every_few z more = record { sets = quorum z more; few = λ a e. e; none = few_none z }

-- any two sets leave a slot out in common where one slot takes part in all of them
pub one_takes_part : (n v : ℕ) → v < n → (l : List (ℕ → Bool)) → ((s : ℕ → Bool) → Memᴰ s l → s v ≡ false) → AnyTwo n l
one_takes_part n v i l takes s t a b = (v, i, takes s a, takes t b)

-- for every shelf: the parts of the sets of a list, where any two of them leave a slot out
module _ (z : Shelf) (l : List (ℕ → Bool)) (two : AnyTwo (slots z) l) where
  abbrev pub parts_few : Family z
  parts_few =
      record {
        sets = tested_parts (few_of z) (few_parts z) (few_none z) (some_slots z) l two;
        few = parts_pass (few_of z) (few_parts z) (few_none z) (some_slots z) l two;
        none = none_in (few_of z) (few_parts z) (few_none z) (some_slots z) l two;
      }

  pub in_parts : (s : ℕ → Bool) → Memᴰ s l → few_of z s ≡ true → parts_few.sets.few s ≡ true
  in_parts = Pairs.in_parts (few_of z) (few_parts z) (few_none z) (some_slots z) l two

-- the set of slots that a request leaves out, if it is accepted
abbrev pub leaves_of : (z : Shelf) → Memory Sector → Image Sector → Input Sector → List (ℕ → Bool)
leaves_of z = leaves (size z) (no_sets (slots z)) (labels z) (records z) (any_code z) stamps (any_sectors z) (few_of z)

module _ (z : Shelf) (F : Family z) where
  -- the code and the medium, as the protocol needs them for the family
  abbrev pub code_in : Code Sector (slots z) z.c F.sets
  code_in = code_for (few_of z) (any_code z) (mends z) F.sets F.few

  abbrev pub sectors_in : Medium (size z) F.sets (labels z) (records z) code_in stamps
  sectors_in = medium_for (size z) (labels z) (records z) (any_code z) stamps (any_sectors z) (few_of z) (mends z) F.sets F.few

  -- the protocol's words, of this family
  abbrev pub ZerosIn : Image Sector → Type 0
  ZerosIn = Zeros (size z) F.sets (labels z) (records z) code_in stamps sectors_in

  abbrev pub HappensIn : Machine Sector → Event Sector → Machine Sector → Type 1
  HappensIn = Happens (size z) F.sets (labels z) (records z) code_in stamps sectors_in

  abbrev pub KeepsIn : Machine Sector → View Sector → Type 0
  KeepsIn = Invariant (size z) F.sets (labels z) (records z) code_in stamps sectors_in

  abbrev pub program_in : Memory Sector → Image Sector → Input Sector → Memory Sector × Reply Sector
  program_in = program (size z) F.sets (labels z) (records z) code_in stamps sectors_in

  -- WHAT THE SHELF'S PROGRAM ANSWERS, IF IT IS NO REFUSAL, IS WHAT THE FAMILY'S ANSWERS, if the set that is left out is in the family
  pub program_in_lem : (m : Memory Sector) (f : Image Sector) (i : Input Sector) (m' : Memory Sector) (r : Reply Sector) → shelf_program z m f i ≡ (m', r)
      → ((why : Refusal) → r ≡ refused why → ⊥) → (r ≡ accepted → (s : ℕ → Bool) → Memᴰ s (leaves_of z m f i) → F.sets.few s ≡ true) → program_in m f i ≡ (m', r)
  program_in_lem m f i m' r e some shared =
      let q = sym (same_by (size z) (labels z) (records z) (any_code z) stamps (any_sectors z) (few_of z) (mends z) F.sets F.few m f i) ∙ e in
      ⊎_elim (λ x. sym x ∙ q) (λ y. absurd (some y.0 (ap (λ (b : Memory Sector × Reply Sector). b.1) (sym q ∙ y.1))))
      (by_step (size z) F.sets (labels z) (records z) code_in stamps sectors_in (few_of z) m f i
      (λ a s j. shared (sym (ap (λ (b : Memory Sector × Reply Sector). b.1) q) ∙ a) s
      (subst (λ (l : List (ℕ → Bool)). Memᴰ s l) (sym (same_leaves (size z) (labels z) (records z) (any_code z) stamps (any_sectors z) (few_of z) (mends z) F.sets F.few m f i)) j)))

  -- READY: each believed sector is what the host's list asks for, whatever a cut leaves
  pub sound_in : (v : Host Sector) (w : World Sector) (o : Own) → KeepsIn (at w (idle o)) (sure v)
      → Always w (λ f. (d t j : ℕ) → believed (size z) o.now d t ≡ true → j < z.c → f (strip d t j) ≡ (any_code z).shard t (v t) d j)
  unfolding table
  sound_in = Kept.sound (size z) F.sets (labels z) (records z) code_in stamps sectors_in

-- AT REST what is kept for one family is kept for every other that has the set of slots which the settled label calls out
pub keeps_for : (z : Shelf) (F F' : Family z) (w : World Sector) (o : Own) (p : View Sector) → F'.sets.few o.now.out ≡ true → KeepsIn z F (at w (idle o)) p → KeepsIn z F' (at w (idle o)) p
keeps_for z F F' = rest_for (size z) (labels z) (records z) (any_code z) stamps (any_sectors z) (few_of z) (mends z) F.sets F.few F'.sets F'.few

-- and that set is in the first one
pub keeps_few : (z : Shelf) (F : Family z) (w : World Sector) (o : Own) (p : View Sector) → KeepsIn z F (at w (idle o)) p → F.sets.few o.now.out ≡ true
keeps_few z F = rest_few (size z) (labels z) (records z) (any_code z) stamps (any_sectors z) (few_of z) (mends z) F.sets F.few
