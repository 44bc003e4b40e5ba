use Rattle.std.proofs.Common.{Bool, sym, ◌∙◌, subst, arith}
use Rattle.kernel.specs.Kernel.{Combines}
use Rattle.kernel.specs.Fits.{fits_shards, fits_row, fits_with}
use Rattle.kernel.specs.KernelTurns.{row_get, part_length, shards_row, combined_row}
use Rattle.kernel.proofs.combine.Goals as goal

pub overflow_add-row : goal.overflow_add-row
overflow_add-row c = let a = c.args in
    let e = sym c.fits.ensures ∙ c.if-not-fits.false in
    record { fits = omega (arith, fits_row _ _ _ _ _ e) }

pub slice_bounds-row-end : goal.slice_bounds-row-end
slice_bounds-row-end c = fits_row _ _ _ _ _ (sym c.fits.ensures ∙ c.if-not-fits.false)

pub combine_bytes-requires : goal.combine_bytes-requires
combine_bytes-requires c = let a = c.args in
    let e = sym c.fits.ensures ∙ c.if-not-fits.false in
    let q = part_length a.table.now a.at a.n (fits_row _ _ _ _ _ e) in
    (shards_row _ a.n a.len _ q (fits_shards _ _ _ _ _ e), omega (arith, q))

pub combine_blocks-requires : goal.combine_blocks-requires
combine_blocks-requires c = let a = c.args in
    let e = sym c.fits.ensures ∙ c.if-not-fits.false in
    let q = part_length a.table.now a.at a.n (fits_row _ _ _ _ _ e) in
    (shards_row _ a.n a.len _ q (fits_shards _ _ _ _ _ e), omega (arith, q), c.if-len-lt-COLUMNS.false)

pub returns-then-len-lt-COLUMNS : goal.returns-then-len-lt-COLUMNS
returns-then-len-lt-COLUMNS c = let a = c.args in
    let e = sym c.fits.ensures ∙ c.if-not-fits.false in
    let q = part_length a.table.now a.at a.n (fits_row _ _ _ _ _ e) in
    subst (λ (b : Bool). Combines b a.n a.len a.a a.table.now a.at a.buf.now c.combine_bytes.new.buf)
    (sym (fits_with a.n a.len _ a.at _ a.a (fits_shards _ _ _ _ _ e) (fits_row _ _ _ _ _ e) c.if-n-a.false))
    (combined_row a.n a.len a.table.now _ a.at q (row_get a.table.now a.at a.n) a.a _ _ c.combine_bytes.ensures)

pub returns-else-len-lt-COLUMNS : goal.returns-else-len-lt-COLUMNS
returns-else-len-lt-COLUMNS c = let a = c.args in
    let e = sym c.fits.ensures ∙ c.if-not-fits.false in
    let q = part_length a.table.now a.at a.n (fits_row _ _ _ _ _ e) in
    subst (λ (b : Bool). Combines b a.n a.len a.a a.table.now a.at a.buf.now c.combine_blocks.new.buf)
    (sym (fits_with a.n a.len _ a.at _ a.a (fits_shards _ _ _ _ _ e) (fits_row _ _ _ _ _ e) c.if-n-a.false))
    (combined_row a.n a.len a.table.now _ a.at q (row_get a.table.now a.at a.n) a.a _ _ c.combine_blocks.ensures)
