-- The part of a slice between two places, or the empty part where it is shorter. Assumes nothing.
use Rattle.std.specs.Prelude.{◌≡◌, cond, ◌⊎◌, ◌&&◌, List, [], ℕ, ◌≤◌, ◌<◌, ltb, length, slice_range, Option, Some, None, Ok, Err}
use Rattle.std.specs.Option.{MatchOption, unwrap_or}
use Rattle.std.proofs.Math.Path.{refl, sym}
use Rattle.std.proofs.Common.{Bor, ◌∙◌, ⊎_elim, arith, lt-ltb, le-ltb}
use Rattle.disk.specs.Geometry.{Found, in_range, stripes_of, shard_of, found}
use Rattle.disk.specs.declared.geometry.Geometry.{Geometry}
use Rattle.shelf.specs.Kept.{kept_of}
use Rattle.shelf.specs.Says.{when, unless, kept_none}

pub part_or_none : (l : List ℕ) (a e : ℕ) → a ≤ e → (r : Option (Bor (List ℕ))) (z : Bor (List ℕ)) (P : Bor (List ℕ) → Type 0) → z.now ≡ []
    → MatchOption r ((e < a) ⊎ (length l < e)) (λ x. (a ≤ e) × (e ≤ length l) × (x.now ≡ slice_range l a e) × P x)
    → (unwrap_or r z).now ≡ cond (ltb (length l) e) [] (slice_range l a e)
part_or_none l a e i None z P n m =
    n ∙ sym (when (ltb (length l) e) [] (slice_range l a e) (lt-ltb (length l) e (⊎_elim (λ (h : e < a). absurd (omega arith)) (λ (h : length l < e). h) m)))
part_or_none l a e i (Some x) z P n m = m.2 ∙ sym (unless (ltb (length l) e) [] (slice_range l a e) (le-ltb (length l) e m.1))

-- nothing is kept where there is no shard
pub kept_nowhere : (g : Geometry) (t d : ℕ) (work : List ℕ) (f : Found) → f ≡ found (in_range g) (ltb t (stripes_of g) && ltb d g.n) (shard_of g.n t d)
    → ((r : ℕ) → f ≡ Ok r → ⊥) → kept_of g t d work ≡ []
kept_nowhere g t d work (Ok r) e h = absurd (h r refl)
kept_nowhere g t d work (Err w) e h = kept_none g t d work (Err w) e w refl
