-- The geometry is in range.
use Rattle.std.proofs.Common.{rules, Bool, true, ap}
use Rattle.disk.specs.Geometry.{stripes_of, found}
use Rattle.label.specs.Fields.{geometry_of}
use Rattle.rebuilds.specs.On.{range_of}
use Rattle.requests.proofs.Answers.{few_slots}
use Rattle.rebuilds.proofs.on.stripes_of.Goals as goal

pub returns : goal.returns
returns c =
    let l = c.args.l in
    let q = few_slots l c.requires in
    let e = ap (λ (b : Bool). found b true (stripes_of (geometry_of l))) (range_of l c.requires) in
    search (rules, e, q)
