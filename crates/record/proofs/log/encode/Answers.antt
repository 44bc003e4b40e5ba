-- The stamp, then the first bytes.
use borrow.Author.Rules.{rules}
use borrow.Author.Tests.{tests}
use mathlib.Core.Path.{◌≡◌, sym, ap, ◌∙◌}
use mathlib.Core.List.{List}
use native.Mathlib.Omega.{arith}
use lib.ListN.{length, take, drop}
use lib.Seq.{paste, length-take-le}
use Rattle.std.proofs.Common.{length-drop}
use Prim.Native.Nat.{ℕ, ◌-◌}
use Rattle.record.specs.Log.{log_answer, log_built}
use Rattle.record.specs.Layout.{stamp_length, body}
use Rattle.disk.specs.Limits.{sector_bytes}
use Rattle.record.proofs.Places.{copied}
use Rattle.record.proofs.log.encode.Goals as goal

whole : (v : List ℕ) → length v ≡ sector_bytes → length (take body v) ≡ body
whole v h = length-take-le body v (omega arith)

pub slice_bounds-copy_from_slice-end-2 : goal.slice_bounds-copy_from_slice-end-2
slice_bounds-copy_from_slice-end-2 c = sym (whole c.args.bytes.now (omega arith))

pub copy_from_slice-requires : goal.copy_from_slice-requires
copy_from_slice-requires c =
    let x = c.put_stamp.new.sector in
    omega (arith, length-take-le (length x - stamp_length) (drop stamp_length x) (omega (arith, length-drop stamp_length x)), whole c.args.bytes.now (omega arith))

pub returns : goal.returns
unfolding log_answer
returns c = let a = c.args in (
  search (rules, tests),
  copied c.put_stamp.new.sector (take body a.bytes.now) _ stamp_length (length c.put_stamp.new.sector) c.copy_from_slice.ensures.after (omega (arith, whole a.bytes.now (omega arith)))
      ∙ ap (λ (x : List ℕ). paste x stamp_length (take body a.bytes.now) (length (take body a.bytes.now))) c.put_stamp.ensures
      ∙ log_built a.stamp a.bytes.now a.out.now (omega arith) (omega arith),
)
