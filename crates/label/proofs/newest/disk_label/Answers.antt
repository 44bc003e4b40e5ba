-- `label::newest::disk_label` meets its contract. The newest of the two copies. Assumes nothing.
use mathlib.Core.Path.{ap, ap₂, ◌∙◌}
use mathlib.Core.List.{List}
use Prim.Native.Nat.{ℕ}
use Rattle.label.specs.Valid.{decode_of}
use Rattle.label.specs.Newest.{newer, newest_of, copy_of, disk_label}
use Rattle.label.proofs.newest.disk_label.Goals as goal

pub returns : goal.returns
unfolding newest_of copy_of disk_label
returns c = let a = c.args in
    c.newer_of.ensures
    ∙ ap₂ newer
    (c.decode-even.ensures ∙ ap (λ (b : List ℕ). decode_of b a.d 0) c.read.ensures)
    (c.decode-odd.ensures ∙ ap (λ (b : List ℕ). decode_of b a.d 1) c.read-2.ensures)
