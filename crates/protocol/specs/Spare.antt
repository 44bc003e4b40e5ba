-- No action touches an absent slot: neither a put nor a flush.
use Rattle.std.specs.Prelude.{ℕ, ◌≡◌, Bool}
use Rattle.std.proofs.Math.Bool.{false, not}
use mathlib.Core.List.{List, [], Memᴰ}
use borrow.Author.Tests.{not-true}
use Rattle.protocol.specs.World.{Place, slot, Action}
use Rattle.protocol.specs.Batch.{flushes, each_flushes, Each}
use Rattle.protocol.specs.Slots.{slots, of_slots}
use Rattle.protocol.specs.Log.{RecordCodec}
use Rattle.protocol.specs.Label.{Size, Quorum, LabelCodec}

-- the list of actions leaves the absent slots alone
abbrev pub Spares : {X : Type 0} → (ℕ → Bool) → List (Action X) → Type 0
Spares absent l = Each (λ k. absent (slot k) ≡ false) (λ d. absent d ≡ false) l

module _ {X : Type 0} (z : Size) (W : Quorum z.n) (C : LabelCodec X z.n) (K : RecordCodec X) (absent : ℕ → Bool) where
  abbrev pub Far : Place → Type 0
  Far k = absent (slot k) ≡ false

  abbrev pub Not : ℕ → Type 0
  Not d = absent d ≡ false

  pub flushes_spares : (ds : List ℕ) → ((d : ℕ) → Memᴰ d ds → absent d ≡ false) → Spares {X = X} absent (flushes ds)
  flushes_spares ds h = each_flushes Far Not [] ds h tt

  pub present_in : (d : ℕ) → Memᴰ d (slots z.n (λ d. not (absent d))) → absent d ≡ false
  present_in d m = not-true (absent d) (of_slots (λ e. not (absent e)) z.n d m).1
