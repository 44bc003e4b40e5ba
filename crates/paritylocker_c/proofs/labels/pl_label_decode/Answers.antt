use mathlib.Core.Path.{sym, ◌∙◌}
use Rattle.paritylocker_c.specs.Labels.{decode_sizes, decode_none, decode_valid, sizes_sector, sizes_fields, sizes_right}
use Rattle.paritylocker_c.proofs.labels.pl_label_decode.Goals as goal

pub returns-then-sector-ne512 : goal.returns-then-sector-ne512
returns-then-sector-ne512 c = let a = c.args in
    rw c.number.ensures (decode_sizes a.slot a.place a.sector.now a.fields.now (sizes_sector _ _ c.if-sector-ne512.true))

pub returns-then-fields-ne9 : goal.returns-then-fields-ne9
returns-then-fields-ne9 c = let a = c.args in
    rw c.number-then-fields-ne9.ensures (decode_sizes a.slot a.place a.sector.now a.fields.now (sizes_fields _ _ c.if-sector-ne512.false c.if-fields-ne9.true))

pub returns-in-None : goal.returns-in-None
returns-in-None c = let a = c.args in
    rw c.number-in-None.ensures (decode_none a.slot a.place a.sector.now a.fields.now (sizes_right _ _ c.if-sector-ne512.false c.if-fields-ne9.false) (sym c.decode.ensures ∙ c.in-None.is))

pub returns-in-Some : goal.returns-in-Some
returns-in-Some c = let a = c.args in
    decode_valid a.slot a.place a.sector.now a.fields.now _ _ (sizes_right _ _ c.if-sector-ne512.false c.if-fields-ne9.false) (sym c.decode.ensures ∙ c.in-Some.is) c.put_fields.ensures
