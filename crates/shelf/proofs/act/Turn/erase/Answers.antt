use Prim.Native.Nat.{ℕ}
use mir.Val.{bool_byte}
use mathlib.Core.Bool.{Bool, true, false}
use mathlib.Core.Path.{◌≡◌, refl, ap, ◌∙◌}
use lib.ListN.{replicate}
use Rattle.disk.specs.Limits.{sector_bytes}
use Rattle.shelf.specs.Act.{Move, odd_sector, put_move, erase_move}
use Rattle.shelf.proofs.act.Turn.erase.Goals as goal

sector_is : (odd : Bool) → bool_byte odd ≡ odd_sector odd
sector_is true = refl
sector_is false = refl

pub returns : goal.returns
unfolding erase_move
returns c = let a = c.args in
    let m = ap (λ (k : ℕ). put_move a.self.state a.self.shelf a.self.slot k 1 (replicate sector_bytes 0) a.image.now) (c.from.ensures ∙ sector_is a.odd) in
    (c.put_bytes.ensures.0 ∙ ap (λ (x : Move). x.stepped) m, c.put_bytes.ensures.1 ∙ ap (λ (x : Move). x.image) m)
