-- The first bytes, then the last, each from its place in the area.
use borrow.Author.Rules.{rules}
use borrow.Author.Tests.{tests}
use mathlib.Core.Path.{◌≡◌, sym, ap, ◌∙◌}
use mathlib.Core.List.{List}
use native.Mathlib.Omega.{arith}
use lib.ListN.{length, take, drop}
use lib.Seq.{length-take-le}
use Rattle.std.proofs.Common.{length-drop}
use Prim.Native.Nat.{ℕ, ◌+◌, ◌*◌, ◌-◌}
use Rattle.record.specs.Log.{restore_answer, restore_built}
use Rattle.record.specs.Layout.{stamp_length, body, rests_at, rest}
use Rattle.disk.specs.Limits.{sector_bytes}
use Rattle.disk.specs.Geometry.{strip_length_lem}
use Rattle.record.proofs.Places.{both_copied}
use Rattle.record.proofs.log.restore.Goals as goal

pub slice_bounds-copy_from_slice-end-2 : goal.slice_bounds-copy_from_slice-end-2
slice_bounds-copy_from_slice-end-2 c = sym (length-take-le _ c.args.out.now (omega arith))

pub copy_from_slice-requires : goal.copy_from_slice-requires
copy_from_slice-requires c =
    let a = c.args in
    let p : ℕ = a.s * sector_bytes + stamp_length in
    omega (arith, length-take-le body a.out.now (omega arith), length-take-le (p + body - p) (drop p a.area.now) (omega (arith, length-drop p a.area.now)))

pub returns : goal.returns
unfolding restore_answer
returns c =
    let a = c.args in
    let m = (strip_length_lem a.c (sym c.strip_length.ensures ∙ c.if-not-strip_length.false)).1 in
    let p : ℕ = a.s * sector_bytes + stamp_length in
    let q : ℕ = a.c * sector_bytes + rests_at + a.s * rest in
    let y : List ℕ = take (p + body - p) (drop p a.area.now) in
    let z : List ℕ = take (q + rest - q) (drop q a.area.now) in
    let e : p + body - p ≡ body = omega arith in
    let g : q + rest - q ≡ rest = omega arith in
    let ly : length y ≡ body = length-take-le (p + body - p) (drop p a.area.now) (omega (arith, length-drop p a.area.now)) ∙ e in
    let lz : length z ≡ rest = length-take-le (q + rest - q) (drop q a.area.now) (omega (arith, length-drop q a.area.now)) ∙ g in (
      search (rules, tests),
      both_copied a.out.now y z _ _ c.copy_from_slice.ensures.after c.copy_from_slice-2.ensures.after ly lz (omega arith)
          ∙ restore_built a.area.now a.out.now a.c a.s (omega arith) (omega arith) (omega arith) m y z
          (ap (λ (k : ℕ). take k (drop p a.area.now)) e) (ap (λ (k : ℕ). take k (drop q a.area.now)) g),
    )
