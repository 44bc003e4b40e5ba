-- `label::codec::unsealed_of` meets its contract. Field after field, and the whole is the document's table. Assumes nothing.
use mathlib.Core.Path.{ap, ◌∙◌}
use mathlib.Core.List.{List, [], ◌∷◌}
use Prim.Native.Nat.{ℕ, ◌%◌}
use lib.ListN.{set}
use lib.Seq.{sets}
use Rattle.disk.specs.Number.{with_number}
use Rattle.label.specs.Bytes.{version}
use Rattle.label.proofs.Build.{built_is}
use Rattle.label.proofs.codec.unsealed_of.Goals as goal

pub returns : goal.returns
returns c = let l = c.args.l in
    c.put_u32-3.ensures
    ∙ ap (λ (x : List ℕ). with_number 4 (set x 40 (l.rebuilding % 256)) 44 l.mark)
    (c.put_u32-2.ensures
    ∙ ap (λ (x : List ℕ). with_number 4 x 36 l.out)
    (c.put_u64-3.ensures
    ∙ ap (λ (x : List ℕ). with_number 8 x 28 l.generation)
    (c.put_u64-2.ensures
    ∙ ap (λ (x : List ℕ). with_number 8 x 20 l.shelf)
    (c.put_u32.ensures
    ∙ ap (λ (x : List ℕ). with_number 4 (sets x 10 (l.k % 256 ∷ l.m % 256 ∷ l.slot % 256 ∷ l.c % 256 ∷ [])) 16 l.sectors)
    (c.put_u16.ensures ∙ ap (λ (x : List ℕ). with_number 2 x 8 version) c.put_u64.ensures)))))
    ∙ built_is l
