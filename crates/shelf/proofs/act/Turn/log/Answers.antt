use mathlib.Core.Path.{sym, ap, ◌∙◌}
use Rattle.shelf.specs.Act.{Move}
use Rattle.shelf.specs.Says.{log_put}
use Rattle.shelf.proofs.Results.{mapped_ok}
use Rattle.shelf.proofs.act.Turn.log.Goals as goal

pub returns : goal.returns
returns c = let a = c.args in
    let r = c.record_sector in
    let n = mapped_ok c.map_err.result r.result _ c.map_err.ensures.cases _ c.in_ok-map_err.was in
    let m = log_put a.self.state a.self.shelf a.self.slot a.stripe a.work.now a.image.now _ c.kept-shard.ensures a.shards _ c.tail_of-tail.ensures r.result r.ensures.0 n _ r.ensures.1 in
    (c.put_bytes.ensures.0 ∙ sym (ap (λ (x : Move). x.stepped) m), c.put_bytes.ensures.1 ∙ sym (ap (λ (x : Move). x.image) m))
