-- What the protocol asks of its medium beyond the two codecs, as far as it is about bytes: which labels and records fit,
-- which stamps belong to an epoch, and what zeros are; and so the medium as a whole, for every code that makes zeros of zeros.
-- Assumes nothing.
use Rattle.std.specs.Prelude.{◌≡◌, refl, Bool, true, List, [], ◌∷◌, ℕ, suc, ◌≤◌, ◌<◌, eqb, length, replicate}
use Rattle.std.proofs.Common.{ap, ap₂, ◌∙◌, lt_trans, lit<, eqb-true}
use Rattle.disk.specs.Tests.{and_left, and_right}
use Rattle.label.specs.Fields.{most_generation}
use Rattle.label.specs.Bytes.{all_zero}
use Rattle.protocol.specs.Log.{Write}
use Rattle.protocol.specs.Label.{Label, Quorum}
use Rattle.protocol.specs.Host.{Code}
use Rattle.protocol.specs.Program.{Proper, Medium}
use Rattle.codecs.specs.Sector.{Sector}
use Rattle.codecs.proofs.Sector.{zeros, sector_path}
use Rattle.codecs.specs.Shelf.{Shelf, slots, size}
use Rattle.codecs.proofs.Labels.{labels}
use Rattle.codecs.proofs.Records.{records}
use Rattle.codecs.specs.Media.{stamps, is_zeros}

module _ (z : Shelf) where
  -- every proper label fits
  pub label_fits : (l : Label) → Proper (size z) l → 0 < l.generation → l.generation ≤ most_generation → (labels z).Fits l
  label_fits l p a b = record { sound = p; from_one = a; not_last = b }

  pub is_proper : (l : Label) → (labels z).Fits l → Proper (size z) l × (l.generation ≤ most_generation)
  is_proper l f = (f.sound, f.not_last)

  pub record_fits : (σ : ℕ) (w : Write Sector) → σ < stamps.base (suc most_generation) → w.stripe < (size z).T → ((d : ℕ) → w.changes d ≡ true → d < (size z).n) → (records z).Fits σ w
  record_fits σ w a b h = record { stamps = lt_trans a (lit< tt); stripes = b; inside = h }

  pub same_zeros : (labels z).zeros ≡ (records z).zeros
  same_zeros = refl

  pub zeros_label : (d : ℕ) (b : Bool) → ((labels z).decode d b (records z).zeros).generation ≡ 0
  zeros_label d b = (labels z).decode_zeros d b

all_zero_lem : (b : List ℕ) → all_zero b ≡ true → b ≡ replicate (length b) 0
unfolding all_zero
all_zero_lem [] e = refl
all_zero_lem (x ∷ b) e = ap₂ (λ (y : ℕ) (r : List ℕ). y ∷ r) (eqb-true x 0 (and_left (eqb x 0) (all_zero b) e)) (all_zero_lem b (and_right (eqb x 0) (all_zero b) e))

pub zeros_of : (x : Sector) → is_zeros x ≡ true → x ≡ zeros
unfolding is_zeros
zeros_of x e = sector_path x zeros (all_zero_lem x.bytes e ∙ ap (λ (n : ℕ). replicate n 0) x.whole)

pub zeros_are : is_zeros zeros ≡ true
unfolding is_zeros all_zero
zeros_are = refl

-- ---- the medium

-- the sectors of every shelf hold what the protocol asks for, with any code that makes shards of zeros from blocks of zeros
unfoldable pub medium : (z : Shelf) (W : Quorum (slots z)) (E : Code Sector (slots z) z.c W) → ((t d j : ℕ) → d < slots z → j < z.c → E.shard t (λ i l. zeros) d j ≡ zeros)
    → Medium (size z) W (labels z) (records z) E stamps
medium z W E h =
    record {
      greatest = most_generation;
      fits = label_fits z;
      is_proper = is_proper z;
      fits_record = record_fits z;
      is_zeros = is_zeros;
      zeros_of = zeros_of;
      zeros_are = zeros_are;
      same_zeros = same_zeros z;
      zeros_label = zeros_label z;
      zeros_shard = h;
    }
