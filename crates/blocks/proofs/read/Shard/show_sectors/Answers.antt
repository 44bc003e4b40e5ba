use Prim.Native.Nat.{ℕ, ◌-◌, ◌+◌, ◌*◌}
use mathlib.Core.Path.{◌≡◌, refl, sym, ap, ◌∙◌}
use native.Mathlib.Omega.{arith}
use lib.ListN.{length, take, drop, length-drop}
use Rattle.blocks.specs.Read.{sectors_shown, shown_length, sector_goes}
use mathlib.Core.List.{List}
use lib.Seq.{length-take-le}
use borrow.Rule.Slice.PartMut.{put_mid}
use Rattle.disk.specs.Limits.{sector_bytes}
use Rattle.disk.specs.Image.{back}
use Rattle.disk.specs.Refusal.{Outcome}
use Rattle.strips.specs.Seen.{shard_shown}
use Rattle.strips.specs.Answers.{after_shown}
use Rattle.strips.specs.Turns.{row_turn, row_long, row_done}
use Rattle.blocks.proofs.read.Shard.show_sectors.Goals as goal

pub loop-j-preserved : goal.loop-j-preserved
loop-j-preserved c =
    let long : (length c.loop-j.bytes ≡ length c.args.bytes.now) = let l = c.loop-j in
    let a = c.args in
    row_long a.self.now.from.g.c sector_bytes l.j (λ i. shard_shown a.self.now.from.g a.self.now.k a.self.now.from.image.now a.self.now.from.there a.self.now.from.over a.self.now.from.kept.now a.self.now.t i 1 a.self.now.r) (λ i. shown_length a.self.now.from.g a.self.now.k a.self.now.from.image.now a.self.now.from.there a.self.now.from.over a.self.now.from.kept.now a.self.now.t i a.self.now.r) l.bytes a.bytes.now (omega arith) c.requires.1 l.invariant.1 ∙ sym c.requires.1 in
    let l = c.loop-j in
    let a = c.args in
    let e = c.shown.ensures in
    let f : ℕ → List ℕ = (λ i. shard_shown a.self.now.from.g a.self.now.k a.self.now.from.image.now a.self.now.from.there a.self.now.from.over a.self.now.from.kept.now a.self.now.t i 1 a.self.now.r) in
    let h : (i : ℕ) → length (f i) ≡ sector_bytes = (λ i. shown_length a.self.now.from.g a.self.now.k a.self.now.from.image.now a.self.now.from.there a.self.now.from.over a.self.now.from.kept.now a.self.now.t i a.self.now.r) in
    let q : l.j * sector_bytes + sector_bytes - l.j * sector_bytes ≡ sector_bytes = omega arith in
    let p : List ℕ = take (l.j * sector_bytes + sector_bytes - l.j * sector_bytes) (drop (l.j * sector_bytes) l.bytes) in
    let w : length p ≡ sector_bytes =
    length-take-le (l.j * sector_bytes + sector_bytes - l.j * sector_bytes) (drop (l.j * sector_bytes) l.bytes) (omega (arith, long, c.requires.1, length-drop (l.j * sector_bytes) l.bytes)) ∙ q in (
      c.shown.auto.room ∙ l.invariant.0,
      ap (put_mid (l.j * sector_bytes) (l.j * sector_bytes + sector_bytes - l.j * sector_bytes) l.bytes)
          (e.1 ∙ ap (λ (x : Outcome). after_shown x a.self.now.from.g a.self.now.k a.self.now.from.image.now a.self.now.from.there a.self.now.from.over a.self.now.from.kept.now a.self.now.t l.j 1 a.self.now.r p)
          (e.0 ∙ sector_goes a.self.now.from.g a.self.now.k a.self.now.from.image.now a.self.now.from.there a.self.now.from.kept.now a.self.now.t a.self.now.r c.args.self.now.can l.j _ _ (omega arith) (l.invariant.0 ∙ c.requires.0) w))
          ∙ back l.bytes (f l.j) (l.j * sector_bytes) (l.j * sector_bytes + sector_bytes) sector_bytes refl (h l.j) ∙ row_turn sector_bytes l.j f h l.bytes a.bytes.now l.invariant.1,
    )

pub returns : goal.returns
returns c = let l = c.loop-j in
    let a = c.args in
    row_done a.self.now.from.g.c sector_bytes l.j (λ i. shard_shown a.self.now.from.g a.self.now.k a.self.now.from.image.now a.self.now.from.there a.self.now.from.over a.self.now.from.kept.now a.self.now.t i 1 a.self.now.r) l.bytes a.bytes.now (omega arith) c.requires.1 l.invariant.1
    ∙ sectors_shown a.self.now.from.g a.self.now.k a.self.now.from.image.now a.self.now.from.there a.self.now.from.over a.self.now.from.kept.now a.self.now.t a.self.now.r
