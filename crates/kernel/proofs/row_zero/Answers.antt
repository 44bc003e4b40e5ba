use Rattle.std.proofs.Common.{◌+◌, Bool, sym, ◌∙◌, subst, length, slice_range, arith}
use Rattle.kernel.specs.Kernel.{Tests}
use Rattle.kernel.specs.Fits.{fits_shards, fits_row}
use Rattle.kernel.specs.KernelTurns.{row_get, part_length, shards_row, row_zero_row}
use Rattle.kernel.proofs.row_zero.Goals as goal

pub overflow_add-row : goal.overflow_add-row
overflow_add-row c = let a = c.args in
    let e = sym c.fits.ensures ∙ c.if-not-fits.false in
    record { fits = omega (arith, fits_row a.n a.len (length a.stripe.now) a.at (length a.table.now) e) }

pub slice_bounds-row-end : goal.slice_bounds-row-end
slice_bounds-row-end c = let a = c.args in
    let e = sym c.fits.ensures ∙ c.if-not-fits.false in
    fits_row a.n a.len (length a.stripe.now) a.at (length a.table.now) e

pub invariant_of-shards : goal.invariant_of-shards
invariant_of-shards c = let a = c.args in
    let e = sym c.fits.ensures ∙ c.if-not-fits.false in
    let q = part_length a.table.now a.at a.n (fits_row _ _ _ _ _ e) in
    let s = shards_row (slice_range a.table.now a.at (a.at + a.n)) a.n a.len _ q (fits_shards _ _ _ _ _ e) in
    record { few = s.few; short = s.short; fits = s.fits; bytes = λ i. omega (arith, c.type_inv.stripe i) }

pub invariant_of-shards-else-len-lt-COLUMNS : goal.invariant_of-shards-else-len-lt-COLUMNS
invariant_of-shards-else-len-lt-COLUMNS c = let a = c.args in
    let e = sym c.fits.ensures ∙ c.if-not-fits.false in
    let q = part_length a.table.now a.at a.n (fits_row _ _ _ _ _ e) in
    let s = shards_row (slice_range a.table.now a.at (a.at + a.n)) a.n a.len _ q (fits_shards _ _ _ _ _ e) in
    record { few = s.few; short = s.short; fits = s.fits; bytes = λ i. omega (arith, c.type_inv.stripe i) }

pub returns-then-len-lt-COLUMNS : goal.returns-then-len-lt-COLUMNS
returns-then-len-lt-COLUMNS c = let a = c.args in
    let e = sym c.fits.ensures ∙ c.if-not-fits.false in
    let q = part_length a.table.now a.at a.n (fits_row _ _ _ _ _ e) in
    subst (λ (b : Bool). Tests b c.row_zero_bytes.result a.n a.len a.stripe.now a.table.now a.at) (sym e)
    (row_zero_row a.n a.len a.table.now _ a.at q (row_get a.table.now a.at a.n) _ _ c.row_zero_bytes.ensures)

pub returns-else-len-lt-COLUMNS : goal.returns-else-len-lt-COLUMNS
returns-else-len-lt-COLUMNS c = let a = c.args in
    let e = sym c.fits.ensures ∙ c.if-not-fits.false in
    let q = part_length a.table.now a.at a.n (fits_row _ _ _ _ _ e) in
    subst (λ (b : Bool). Tests b c.row_zero_blocks.result a.n a.len a.stripe.now a.table.now a.at) (sym e)
    (row_zero_row a.n a.len a.table.now _ a.at q (row_get a.table.now a.at a.n) _ _ c.row_zero_blocks.ensures)
