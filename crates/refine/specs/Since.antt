-- WHAT IS ASKED OF THE WORLD ALONG A CHAIN OF CALLS, for shelves with k <= m: from each moment of rest up to the next one, any two of the sets of slots that accepted start-ups and take-outs leave out,
-- and the set that the state's label calls out at the first, leave a slot out in common. (A state at rest has its label settled; what was left out before no longer matters.) And a family of sets for
-- each call of such a chain, so that all is kept from call to call. Assumes nothing.
use Rattle.std.specs.Prelude.{◌≡◌, Bool, true, false, cond, ℕ}
use Rattle.std.proofs.Common.{⊎_elim}
use mathlib.Core.List.Memᴰ
use mathlib.Core.List.{List, [], ◌∷◌, ◌++◌, Memᴰ}
use Rattle.disk.specs.Mask.{in_mask}
use Rattle.protocol.specs.Label.{Quorum}
use Rattle.protocol.specs.Machine.{Machine, View}
use Rattle.protocol.specs.Even.{Shared}
use Rattle.protocol.specs.Pairs.{AnyTwo, parts_of, with_none, some_is}
use Rattle.codecs.specs.Sector.{Sector}
use Rattle.codecs.specs.Shelf.{Shelf, slots, some_slots}
use Rattle.requests.specs.Ready.{is_idle}
use Rattle.refine.specs.Family.{Family}
use Rattle.refine.specs.Chain.{Allowed}
use Rattle.refine.specs.Hosts.{none, has, Time, at, HostChain, stays, goes_on, sets_call, BoundAt}

-- ---- WHAT IS ASKED

-- at rest: the set that the state's label calls out, and no other
abbrev pub settles : Time → List (ℕ → Bool) → List (ℕ → Bool)
settles (at w img none) l = l
settles (at w img (has s work)) l = cond (is_idle s.kind) (in_mask s.now.out ∷ []) l

-- the sets that are left out since the last moment of rest
abbrev pub since : {z : Shelf} {a b : Time} → HostChain z a b → List (ℕ → Bool)
since {b = b} stays = settles b []
since {b = b} (goes_on c x) = settles b (sets_call x ++ since c)

-- at every call any two of them leave a slot out
abbrev pub AnyTwoSince : {z : Shelf} {a b : Time} → HostChain z a b → Type 0
AnyTwoSince stays = Unit {0}
AnyTwoSince {z} (goes_on c x) = AnyTwoSince c × AnyTwo (slots z) (sets_call x ++ since c)

-- at rest the family has the set that the state's label calls out
abbrev pub RestsIn : (z : Shelf) → Family z → Time → Type 0
RestsIn z F (at w img none) = Unit {0}
RestsIn z F (at w img (has s work)) = is_idle s.kind ≡ true → F.sets.few (in_mask s.now.out) ≡ true

module _ (z : Shelf) (first : Machine Sector) where
  -- ---- the families

  -- a family for each call of the chain, which has the sets that the call leaves out; what is kept for it after the call is kept for the next one, and for F in the end
  abbrev pub Suits : {a b : Time} → HostChain z a b → Family z → Type 1
  Suits stays F = Unit {1}
  Suits {b = b} (goes_on c x) F = (G : Family z) × Allowed z G (sets_call x) × Suits c G × ((q : View Sector) → BoundAt z G first q b → BoundAt z F first q b)

  -- ---- IT IS LESS THAN TO ASK IT OF ALL SETS OF THE CHAIN: at rest the label calls out a part of one of them, or nothing

  module _ (l : List (ℕ → Bool)) (two : AnyTwo (slots z) l) where
    abbrev pub parts : Quorum (slots z)
    parts = parts_of (slots z) ((λ d. false) ∷ l) (with_none (slots z) (some_slots z) l two)

    pub with_call : (k r r' : List (ℕ → Bool)) → ((s : ℕ → Bool) → Memᴰ s (k ++ r) → Memᴰ s l) → Shared parts.few r' → Shared parts.few (k ++ r')
    with_call k r r' of h s m = ⊎_elim (λ n. some_is (slots z) s s ((λ d. false) ∷ l) (Memᴰ.tail (of s (Memᴰ.append_left r n))) (λ d i e. e)) (λ n. h s n) (Memᴰ.append_cases k m)
