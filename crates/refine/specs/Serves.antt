-- THE PROMISE TO THE HOST. Along every chain of calls from an image of zeros on there is a view of the host's, at first all blocks
-- zeros, which each call changes only as its answer says, and at every moment a read that answers Done shows the view's entry, and a
-- repair is refused, since it finds nothing to mend. For every shelf, where any two of the sets of slots that the chain leaves out from
-- one moment of rest to the next leave a slot out in common (`AnyTwoSince`); for k > m nothing is asked. And what the list's entries are:
-- those of a write that is acknowledged are the bytes given, all others stay. Assumes nothing.
use Rattle.std.specs.Prelude.{◌≡◌, Bool, List, ℕ, ◌+◌, ◌*◌, ◌/◌, ◌%◌, length, Ok}
use Rattle.std.proofs.Math.Path.{refl, sym, ap}
use Rattle.std.proofs.Common.{◌∙◌, eq-eqb, eqb-true}
use Rattle.std.proofs.Math.Bool.{true, false, cond}
use Rattle.std.proofs.Math.Nat.{div-add-mod'}
use Rattle.std.proofs.Math.Dec.{eqb}
use Rattle.disk.specs.Limits.{sector_bytes}
use Rattle.protocol.specs.Host.{Host, one_block, set_block, replace}
use Rattle.protocol.specs.Machine.{View, list_of}
use Rattle.codecs.specs.Sector.{Sector, Bytes}
use Rattle.codecs.specs.Shelf.{Shelf}
use Rattle.codecs.specs.Records.{strip_bytes}
use Rattle.blocks.specs.Read.{read_answer, after_read}
use Rattle.refine.specs.Sees.{sectors_of, sectors_strip}
use Rattle.refine.specs.Hosts.{none, has, Time, at, HostChain, stays, goes_on, Saw}

-- at this moment every read that answers Done shows the entry of the view p
abbrev pub ReadsAs : Shelf → Time → View Sector → Type 0
ReadsAs z (at w img none) p = Unit {0}
ReadsAs z (at w img (has s work)) p =
    (b : ℕ) (buf : List ℕ) → read_answer s.now s.kind s.absent b (length img) (length buf) (length work) ≡ Ok tt → after_read (Ok tt) s b img work buf ≡ strip_bytes (list_of p (b / z.k) (b % z.k)) z.c

-- the views along a chain: each call changes them as its answer says, and reads show their entries at every moment
abbrev pub Served : {z : Shelf} {a b : Time} → HostChain z a b → View Sector → View Sector → Type 0
Served {z} {a} stays p q = (q ≡ p) × ReadsAs z a q
Served {z} {b = b} (goes_on c x) p q = (r : View Sector) × Served c p r × Saw x r q × ReadsAs z b q

-- ---- THE ENTRIES

module _ (z : Shelf) (v : Host Sector) (b : ℕ) (given : List ℕ) where
  -- the list with block b replaced by the bytes given
  abbrev pub with_block : Host Sector
  with_block = replace v (b / z.k) (one_block (b % z.k) (sectors_of z.c given))

  -- its entry are these bytes
  pub entry_written : length given ≡ z.c * sector_bytes → Bytes given → strip_bytes (with_block (b / z.k) (b % z.k)) z.c ≡ given
  unfolding replace set_block
  entry_written e small =
      ap (λ (x : Bool). strip_bytes (cond x (λ i. cond (eqb i (b % z.k)) (sectors_of z.c given) (v (b / z.k) i)) (v (b / z.k)) (b % z.k)) z.c) (eq-eqb (b / z.k) (b / z.k) refl)
      ∙ ap (λ (x : Bool). strip_bytes (cond x (sectors_of z.c given) (v (b / z.k) (b % z.k))) z.c) (eq-eqb (b % z.k) (b % z.k) refl) ∙ sym (sectors_strip z.c given e small)

  -- every other block's entry is as it was
  pub entry_other : (o : ℕ) → (o ≡ b → ⊥) → with_block (o / z.k) (o % z.k) ≡ v (o / z.k) (o % z.k)
  unfolding replace set_block
  entry_other o n = by (eqb (o / z.k) (b / z.k)) refl (eqb (o % z.k) (b % z.k)) refl
    where
      by : (x : Bool) → eqb (o / z.k) (b / z.k) ≡ x → (y : Bool) → eqb (o % z.k) (b % z.k) ≡ y
          → cond x (λ i. cond (eqb i (b % z.k)) (sectors_of z.c given) (v (b / z.k) i)) (v (o / z.k)) (o % z.k) ≡ v (o / z.k) (o % z.k)
      by true e true q =
          absurd (n (sym (div-add-mod' o z.k) ∙ ap (λ (x : ℕ). x * z.k + o % z.k) (eqb-true (o / z.k) (b / z.k) e) ∙ ap (λ (x : ℕ). b / z.k * z.k + x) (eqb-true (o % z.k) (b % z.k) q) ∙ div-add-mod' b z.k))
      by true e false q = ap (λ (x : Bool). cond x (sectors_of z.c given) (v (b / z.k) (o % z.k))) q ∙ ap (λ (t : ℕ). v t (o % z.k)) (sym (eqb-true (o / z.k) (b / z.k) e))
      by false e y q = refl
