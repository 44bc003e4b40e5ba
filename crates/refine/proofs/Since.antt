-- WHAT IS ASKED OF THE WORLD ALONG A CHAIN OF CALLS, for shelves with k <= m: from each moment of rest up to the next one, any two of the sets of slots that accepted start-ups and take-outs leave out,
-- and the set that the state's label calls out at the first, leave a slot out in common. (A state at rest has its label settled; what was left out before no longer matters.) And a family of sets for
-- each call of such a chain, so that all is kept from call to call. Assumes nothing.
use Rattle.std.specs.Prelude.{◌≡◌, refl, Bool, true, false, cond, ℕ}
use Rattle.std.proofs.Common.{sym, ap, subst, ◌∙◌, ⊎_elim, inl, inr}
use mathlib.Core.List.Memᴰ
use mathlib.Core.List.{List, [], ◌∷◌, ◌++◌, Memᴰ}
use Rattle.disk.specs.Mask.{in_mask}
use Rattle.protocol.specs.World.{World}
use Rattle.protocol.specs.Write.{both}
use Rattle.protocol.specs.Program.{idle}
use Rattle.protocol.specs.Machine.{Machine, View}
use Rattle.protocol.specs.Even.{Shared}
use Rattle.protocol.specs.Pairs.{AnyTwo}
use Rattle.codecs.specs.Sector.{Sector}
use Rattle.codecs.specs.Shelf.{Shelf, slots}
use Rattle.shards.specs.Quorum.{few_of}
use Rattle.stages.specs.declared.state.State.{State}
use Rattle.requests.specs.Ready.{is_idle}
use Rattle.refine.specs.Family.{Family, parts_few, in_parts, keeps_for, keeps_few}
use Rattle.refine.specs.Tied.{own_of}
use Rattle.refine.specs.Chain.{Allowed, Reached, Tie, idle_is}
use Rattle.refine.proofs.Chain.{rests}
use Rattle.refine.specs.Chain as chain
use Rattle.refine.specs.Hosts.{none, has, Time, at, HostChain, stays, goes_on, sets_call, sets, Bound, BoundAt}
use Rattle.refine.proofs.Hosts.{not_rest, chain_bound}
use Rattle.refine.specs.Since.{settles, since, AnyTwoSince, RestsIn, Suits, parts, with_call}

module _ (z : Shelf) (first : Machine Sector) where
  -- ---- at rest another family can be chosen: any that has the set which the label calls out

  reached_for : (F F' : Family z) (p : View Sector) (w : World Sector) (s : State) → F'.sets.few (in_mask s.now.out) ≡ true → Reached z F first p w (idle (own_of z s s.now)) → Reached z F' first p w (idle (own_of z s s.now))
  reached_for F F' p w s few r = record { events = r.events; runs = r.runs; keeps = keeps_for z F F' w (own_of z s s.now) p few r.keeps; tidy = r.tidy }

  -- the family for which the tie holds has it
  pub rests_in : (F : Family z) (p : View Sector) (w : World Sector) (img : List ℕ) (s : State) → is_idle s.kind ≡ true → Tie z F first p w img (chain.has s) → Reached z F first p w (idle (own_of z s s.now)) × (F.sets.few (in_mask s.now.out) ≡ true)
  rests_in F p w img s e t =
      let r : Reached z F first p w (idle (own_of z s s.now)) = subst (Reached z F first p w) (rests z s img (idle_is z F first p s.kind e)) t.reached in
      (r, keeps_few z F w (own_of z s s.now) p r.keeps)

  pub tie_for : (F F' : Family z) (p : View Sector) (w : World Sector) (img : List ℕ) (s : State) → is_idle s.kind ≡ true → Allowed z F' (in_mask s.now.out ∷ []) → Tie z F first p w img (chain.has s) → Tie z F' first p w img (chain.has s)
  tie_for F F' p w img s e ok t =
      let r = rests_in F p w img s e t in
      let few = ok (in_mask s.now.out) (Memᴰ.head refl) (F.few (in_mask s.now.out) r.1) in
      record {
        disks = t.disks;
        reads = t.reads;
        reached = subst (Reached z F' first p w) (sym (rests z s img (idle_is z F first p s.kind e))) (reached_for F F' p w s few r.0);
        named = t.named;
        names = t.names;
        order = t.order;
      }

  pub bound_for : (F F' : Family z) (p : View Sector) (w : World Sector) (img : List ℕ) (s : State) (work : List ℕ) → is_idle s.kind ≡ true → Allowed z F' (in_mask s.now.out ∷ []) → Bound z F first p w img (has s work) → Bound z F' first p w img (has s work)
  bound_for F F' p w img s work e ok (inl t) = inl (tie_for F F' p w img s e ok t)
  bound_for F F' p w img s work e ok (inr t) = absurd (not_rest z F first p w img s work t e)

  -- one that has all sets of the chain suits every call
  pub one_suits : (F : Family z) {a b : Time} (c : HostChain z a b) → Allowed z F (sets c) → (Suits z first) c F
  one_suits F stays ok = tt
  one_suits F (goes_on c x) ok = (F, (λ s m. ok s (Memᴰ.append_left (sets c) m)), one_suits F c (λ s m. ok s (Memᴰ.append_right (sets_call x) m)), λ q h. h)

  -- the family for the sets since the last rest, for one that has what is left of them after this moment; P is what is kept for a family, and at rest it is kept for any other that has the label's set
  pub before : (P : Family z → View Sector → Time → Type 1)
      → ((G F : Family z) (q : View Sector) (w : World Sector) (img : List ℕ) (s : State) (work : List ℕ) → is_idle s.kind ≡ true → Allowed z F (in_mask s.now.out ∷ []) → P G q (at w img (has s work)) → P F q (at w img (has s work)))
      → (b : Time) (l : List (ℕ → Bool)) → AnyTwo (slots z) l → (F : Family z) → Allowed z F (settles b l) → (G : Family z) × Allowed z G l × ((q : View Sector) → P G q b → P F q b)
  before P other (at w img none) l two F ok = (F, ok, λ q h. h)
  before P other (at w img (has s work)) l two F ok = by (is_idle s.kind) refl ok
    where
      by : (i : Bool) → is_idle s.kind ≡ i → Allowed z F (cond i (in_mask s.now.out ∷ []) l) → (G : Family z) × Allowed z G l × ((q : View Sector) → P G q (at w img (has s work)) → P F q (at w img (has s work)))
      by true e ok = (parts_few z l two, in_parts z l two, λ q h. other (parts_few z l two) F q w img s work e ok h)
      by false e ok = (F, ok, λ q h. h)

  -- for all sets since the last rest
  pub since_suits : {a b : Time} (c : HostChain z a b) → AnyTwoSince c → (F : Family z) → Allowed z F (since c) → (Suits z first) c F
  since_suits stays two F ok = tt
  since_suits {b = b} (goes_on c x) two F ok =
      let g = before (λ G q t. BoundAt z G first q t) bound_for b (sets_call x ++ since c) two.1 F ok in
      (g.0, (λ s m. g.1 s (Memᴰ.append_left (since c) m)), since_suits c two.0 g.0 (λ s m. g.1 s (Memᴰ.append_right (sets_call x) m)), g.2)

  -- WHERE ANY TWO OF THE SETS SINCE THE LAST REST LEAVE A SLOT OUT, there are families for all calls
  pub some_family : {a b : Time} (c : HostChain z a b) → AnyTwoSince c → (F : Family z) × (Suits z first) c F
  some_family stays two = (parts_few z [] (λ s t i j. absurd (Memᴰ.not-nil i)), tt)
  some_family (goes_on c x) two =
      let l = sets_call x ++ since c in
      let F = parts_few z l two.1 in
      (F, (F, (λ s m. in_parts z l two.1 s (Memᴰ.append_left (since c) m)), since_suits c two.0 F (λ s m. in_parts z l two.1 s (Memᴰ.append_right (sets_call x) m)), λ q h. h))

  -- ---- THE SETS SINCE THE LAST REST THEMSELVES: any two of them leave a slot out. At rest it is one, and the family for which the tie holds has it

  pub rests_out : (F : Family z) (p : View Sector) (b : Time) → BoundAt z F first p b → RestsIn z F b
  rests_out F p (at w img none) t = tt
  rests_out F p (at w img (has s work)) (inl t) = λ e. (rests_in F p w img s e t).1
  rests_out F p (at w img (has s work)) (inr t) = λ e. absurd (not_rest z F first p w img s work t e)

  settles_two : (F : Family z) (b : Time) (l : List (ℕ → Bool)) → AnyTwo (slots z) l → RestsIn z F b → AnyTwo (slots z) (settles b l)
  settles_two F (at w img none) l two t = two
  settles_two F (at w img (has s work)) l two t = by (is_idle s.kind) refl
    where
      by : (i : Bool) → is_idle s.kind ≡ i → AnyTwo (slots z) (cond i (in_mask s.now.out ∷ []) l)
      by true e = λ a b i j. F.sets.meet a b (one a i) (one b j)
        where
          one : (a : ℕ → Bool) → Memᴰ a (in_mask s.now.out ∷ []) → F.sets.few a ≡ true
          one a m = ⊎_elim (λ x. ap F.sets.few x ∙ t e) (λ n. absurd (Memᴰ.not-nil n)) (Memᴰ.cases_cons m)
      by false e = two

  pub since_two : {a b : Time} (c : HostChain z a b) → AnyTwoSince c → (F : Family z) (p : View Sector) → BoundAt z F first p b → AnyTwo (slots z) (since c)
  since_two {b = b} stays two F p t = settles_two F b [] (λ s r i j. absurd (Memᴰ.not-nil i)) (rests_out F p b t)
  since_two {b = b} (goes_on c x) two F p t = settles_two F b (sets_call x ++ since c) two.1 (rests_out F p b t)

  -- ---- IT IS LESS THAN TO ASK IT OF ALL SETS OF THE CHAIN: at rest the label calls out a part of one of them, or nothing

  module _ (l : List (ℕ → Bool)) (two : AnyTwo (slots z) l) where
    pub settled_in : (b : Time) (r : List (ℕ → Bool)) → RestsIn z (parts_few z l two) b → Shared (parts z first l two).few r → Shared (parts z first l two).few (settles b r)
    settled_in (at w img none) r t h = h
    settled_in (at w img (has s work)) r t h = by (is_idle s.kind) refl
      where
        by : (i : Bool) → is_idle s.kind ≡ i → Shared (parts z first l two).few (cond i (in_mask s.now.out ∷ []) r)
        by true e = λ a m. ⊎_elim (λ x. ap (parts z first l two).few x ∙ (both (few_of z (in_mask s.now.out)) ((parts z first l two).few (in_mask s.now.out)) (t e)).1) (λ n. absurd (Memᴰ.not-nil n)) (Memᴰ.cases_cons m)
        by false e = h

    pub since_in : {a b : Time} (c : HostChain z a b) → ((s : ℕ → Bool) → Memᴰ s (sets c) → Memᴰ s l) → (p : View Sector) → BoundAt z (parts_few z l two) first p a → Shared (parts z first l two).few (since c)
    since_in {b = b} stays of p t = settled_in b [] (rests_out (parts_few z l two) p b t) (λ s m. absurd (Memᴰ.not-nil m))
    since_in {b = b} (goes_on c x) of p t =
        let y = chain_bound z (parts_few z l two) first (goes_on c x) (λ s m. in_parts z l two s (of s m)) p t in
        settled_in b (sets_call x ++ since c) (rests_out (parts_few z l two) y.0 b y.2) ((with_call z first l two) (sets_call x) (sets c) (since c) of (since_in c (λ s m. of s (Memᴰ.append_right (sets_call x) m)) p t))

    pub pairs_since : {a b : Time} (c : HostChain z a b) → ((s : ℕ → Bool) → Memᴰ s (sets c) → Memᴰ s l) → (p : View Sector) → BoundAt z (parts_few z l two) first p a → AnyTwoSince c
    pairs_since stays of p t = tt
    pairs_since (goes_on c x) of p t =
        let of' : (s : ℕ → Bool) → Memᴰ s (sets c) → Memᴰ s l = λ s m. of s (Memᴰ.append_right (sets_call x) m) in
        let all = (with_call z first l two) (sets_call x) (sets c) (since c) of (since_in c of' p t) in
        (pairs_since c of' p t, λ a b i j. (parts z first l two).meet a b (all a i) (all b j))
