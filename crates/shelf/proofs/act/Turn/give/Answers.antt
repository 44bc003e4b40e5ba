-- Zeros, or the bytes of the label, where it has any.
use Rattle.std.proofs.Common.{rules}
use Rattle.std.proofs.lemmas.Result.{err_from_is_err_and}
use mathlib.Core.Path.{◌≡◌, refl, sym, ap, ◌∙◌}
use Rattle.disk.specs.declared.refusal.Refusal.TheVariants.{NotNow}
use Rattle.shelf.specs.Act.{Move}
use Rattle.shelf.specs.Says.{give_put, give_not}
use Rattle.shelf.proofs.Results.{mapped_ok, mapped_err}
use Rattle.shelf.proofs.act.Turn.give.Goals as goal

pub returns-in_err-map_err : goal.returns-in_err-map_err
returns-in_err-map_err c = let a = c.args in
    let f = err_from_is_err_and c.from_residual.result c.from_residual.ensures.1 in
    let n = mapped_err c.map_err.result c.encode.result _ c.map_err.ensures.cases _ c.in_err-map_err.was in
    let why : c.in_err-map_err.field-0.0 ≡ NotNow = search rules in
    let m = give_not a.self.state a.self.shelf a.self.slot a.zeroed a.l a.image.now (sym c.has.ensures ∙ c.if-has.false) _ refl c.encode.result c.encode.ensures.0 _ n.1 in
    (rw (f.1, f.2, why) (sym (ap (λ (x : Move). x.stepped) m)), sym (ap (λ (x : Move). x.image) m))

pub returns : goal.returns
returns c = let a = c.args in
    let e = c.encode in
    let n = mapped_ok c.map_err.result e.result _ c.map_err.ensures.cases _ c.in_ok-map_err.was in
    let m = give_put a.self.state a.self.shelf a.self.slot a.zeroed a.l a.image.now (sym c.has.ensures ∙ c.if-has.false) _ refl e.result e.ensures.0 n _ refl _ _ e.ensures.1 in
    (c.put_bytes-2.ensures.0 ∙ sym (ap (λ (x : Move). x.stepped) m), c.put_bytes-2.ensures.1 ∙ sym (ap (λ (x : Move). x.image) m))
