-- A STRIPE IS SEEN THE SAME on images that are alike, where every slot that is looked at is present. Assumes nothing.
use Rattle.std.specs.Prelude.{◌≡◌, Bool, true, false, cond, not, ◌&&◌, ◌||◌, eqb}
use Rattle.std.proofs.Math.Path.{refl, ap, fun_ext}
use Rattle.std.proofs.Common.{sym, ap₂, ◌∙◌, arith}
use mathlib.Core.List.{List, []}
use Prim.Native.Nat.{ℕ, zero, suc, ◌+◌, ◌-◌, ◌*◌, ◌≤◌, ◌<◌}
use Rattle.std.proofs.Math.ListN.{get_or}
use Rattle.std.proofs.lemmas.Bool.{not-true}
use Rattle.disk.specs.Limits.{sector_bytes}
use Rattle.disk.specs.Tests.{and_right}
use Rattle.disk.specs.Geometry.{stripes_of, strip_of, slot_of, slot_lt, InRange}
use Rattle.disk.specs.Mask.{in_mask, mask_below}
use Rattle.disk.specs.Image.{place}
use Rattle.disk.specs.declared.geometry.Geometry.{Geometry}
use Rattle.label.specs.declared.fields.Label.{Label}
use Rattle.redo.specs.Decide.{believed}
use Rattle.position.specs.Row.{in_row}
use Rattle.position.specs.Search.{all, some}
use Rattle.position.specs.Position.{holds, parity_ext}
use Rattle.shelf.specs.Fill.{present, believed_slots, seen_slots}
use Rattle.strips.specs.Seen.{shard_bytes, seen, shown_byte, shard_seen, row_seen}
use Rattle.strips.specs.Laws.{listed_ext, shown_blind}
use Rattle.blocks.specs.Slots.{there_at, there}
use Rattle.rebuilds.specs.Survivors.{sector_holds, stripe_holds, spare, contradicted}
use Rattle.blind.specs.Alike.{Alike, strip_alike}

-- ---- what is there is present

pub there_dark : (g : Geometry) (l : Label) (absent t d : ℕ) → d < g.n → in_mask (there g l absent t) d ≡ true → in_mask absent d ≡ false
unfolding there there_at
there_dark g l absent t d hd e =
    not-true (in_mask absent d) (and_right (believed g l d t) (not (in_mask absent d)) (sym (mask_below (there_at g l absent t) g.n d hd) ∙ e))

seen_dark : (g : Geometry) (l : Label) (absent t d : ℕ) → d < g.n → in_mask (seen_slots g l absent t) d ≡ true → in_mask absent d ≡ false
unfolding seen_slots present
seen_dark g l absent t d hd e =
    not-true (in_mask absent d)
    (and_right (in_mask (believed_slots g l t) d) (not (in_mask absent d)) (sym (mask_below (present (believed_slots g l t) absent) g.n d hd) ∙ e))

-- ---- tests of each number below n

all_same : (n : ℕ) (p q : ℕ → Bool) → ((i : ℕ) → i < n → p i ≡ q i) → all n p ≡ all n q
unfolding all
all_same zero p q e = refl
all_same (suc n) p q e = ap₂ (λ (x y : Bool). x && y) (all_same n p q (λ i l. e i (omega arith))) (e n (omega arith))

pub some_same : (n : ℕ) (p q : ℕ → Bool) → ((i : ℕ) → i < n → p i ≡ q i) → some n p ≡ some n q
unfolding some
some_same zero p q e = refl
some_same (suc n) p q e = ap₂ (λ (x y : Bool). x || y) (some_same n p q (λ i l. e i (omega arith))) (e n (omega arith))

holds_alike : (k m : ℕ) (x y : ℕ → ℕ) → ((r : ℕ) → r < k + m → x r ≡ y r) → holds k m x ≡ holds k m y
unfolding holds
holds_alike k m x y e = all_same m _ _ (λ j l. ap₂ eqb (e (k + j) (omega arith)) (parity_ext k m j x y (λ i h. e i (omega arith))))

-- ---- the stripe

module _ (g : Geometry) (absent : ℕ) (a b : List ℕ) (h : Alike g absent a b) (range : InRange g) (slots : ℕ)
    (dark : (d : ℕ) → d < g.n → in_mask slots d ≡ true → in_mask absent d ≡ false) (t : ℕ) (ht : t < stripes_of g) where
  seen_alike : (over : ℕ) (kept : List ℕ) (i q : ℕ) → q < shard_bytes g → seen g a slots over kept t i q ≡ seen g b slots over kept t i q
  unfolding seen
  seen_alike over kept i q hq = by (in_mask slots (slot_of g.n t i)) refl
    where
      at : List ℕ → ℕ
      at x = get_or x (place g.sectors (slot_of g.n t i) (strip_of g t) + q) 0

      laid : ℕ → ℕ
      laid v = cond (in_mask over (slot_of g.n t i)) (get_or kept (i * shard_bytes g + q) 0) v

      by : (x : Bool) → in_mask slots (slot_of g.n t i) ≡ x → laid (cond x (at a) 0) ≡ laid (cond x (at b) 0)
      by true e =
          let hd : slot_of g.n t i < g.n = slot_lt g.n t (omega (arith, range.least)) i in
          ap laid (strip_alike g absent a b h range t (slot_of g.n t i) q ht hd hq (dark (slot_of g.n t i) hd e))
      by false e = refl

  -- AS IT IS SEEN
  pub row_alike : (over : ℕ) (kept : List ℕ) → row_seen g a slots over kept t 0 g.c ≡ row_seen g b slots over kept t 0 g.c
  unfolding row_seen shard_seen
  row_alike over kept =
      ap (in_row g.n) (fun_ext (λ i. listed_ext (g.c * sector_bytes) (λ p. seen g a slots over kept t i (0 * sector_bytes + p)) (λ p. seen g b slots over kept t i (0 * sector_bytes + p))
      (λ p hp. seen_alike over kept i (0 * sector_bytes + p) (omega arith))))

  -- AS IT IS SHOWN, with what is lost filled in
  pub shown_alike : (k : ℕ) → k ≤ g.n → (over : ℕ) (kept : List ℕ) (r q : ℕ) → r < g.n → q < shard_bytes g
      → shown_byte g k a slots over kept t r q ≡ shown_byte g k b slots over kept t r q
  shown_alike k hk over kept r q hr hq =
      shown_blind g k a b slots over kept t r q hk hr (λ d hd e. strip_alike g absent a b h range t d q ht hd hq (dark d hd e))

  holds_same : (k : ℕ) → k ≤ g.n → stripe_holds g k a slots t ≡ stripe_holds g k b slots t
  unfolding stripe_holds sector_holds
  holds_same k hk =
      all_same g.c _ _ (λ j hj. all_same sector_bytes _ _ (λ p hp. holds_alike k (g.n - k) _ _
      (λ r hr. shown_alike k hk 0 [] r (j * sector_bytes + p) (omega arith) (omega arith))))

-- WHETHER IT CONTRADICTS ITSELF
pub contradicted_alike : (g : Geometry) (absent : ℕ) (a b : List ℕ) → Alike g absent a b → InRange g → (k : ℕ) → k ≤ g.n → (l : Label) (t : ℕ) → t < stripes_of g
    → contradicted g k a l absent t ≡ contradicted g k b l absent t
unfolding contradicted
contradicted_alike g absent a b h range k hk l t ht =
    ap (λ (x : Bool). spare g k (seen_slots g l absent t) t && not x)
    (holds_same g absent a b h range (seen_slots g l absent t) (seen_dark g l absent t) t ht k hk)
