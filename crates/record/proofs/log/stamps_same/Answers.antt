-- The stamp of each sector is tested.
use mathlib.Core.Path.{refl}
use Rattle.std.proofs.Common.{rules}
use Rattle.disk.proofs.Search.{all_below}
use Rattle.record.specs.Stamp.{stamp_at, same_stamp}
use Rattle.record.specs.Log.{part, stamps_same}
use Rattle.record.proofs.log.stamps_same.Goals as goal

pub returns : goal.returns
unfolding stamps_same same_stamp
returns c =
    let a = c.args in
    all_below {p = λ s. same_stamp (stamp_at (part a.area.now s)) a.stamp} (λ p n. stamps_same n a.area.now a.stamp) refl (λ k. refl) c.all.ensures.ran
    (λ d r f l h. search rules)
