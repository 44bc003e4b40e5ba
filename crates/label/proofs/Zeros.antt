-- That all bytes are 0, as std has it. Assumes nothing.
use Rattle.std.specs.Prelude.{◌≡◌, refl, List, [], ◌∷◌, ◌&&◌, Bool, ℕ, eqb}
use Rattle.std.specs.List.{list_all}
use Rattle.std.proofs.Math.Path.{ap}
use Rattle.label.specs.Bytes.{all_zero}

pub zeros_are : (b : List ℕ) → list_all (λ x. eqb x 0) b ≡ all_zero b
unfolding all_zero
zeros_are [] = refl
zeros_are (x ∷ b) = ap (λ (t : Bool). eqb x 0 && t) (zeros_are b)
