-- A run of the program on the shelf of Toy, computed: create, two writes, a third one cut in the middle of its strips, start-up with another disk
-- lost, and reads. This is the classic hole of document 03, section 5: the data strip is written, the parity strip is not, power is lost, then
-- another disk; and the block that nobody was writing comes back right.
use Rattle.std.specs.Prelude.{◌≡◌, refl}
use Rattle.protocol.proofs.Told.{flushed_told, rounds_told, turn_told}
use Rattle.protocol.specs.World.{update, after}
use Rattle.protocol.specs.Slots.{slots}
use Rattle.protocol.specs.Label.{belief, copy, round_batch, prep_places, prep_batch}
use Rattle.protocol.specs.Write.{logged_sectors, stored_sectors, involved, log_batch, store_batch}
use Rattle.protocol.specs.Redo.{compared_sectors, complete_b, whole, forward, marked, kill_batch, redo}
use Rattle.protocol.specs.Startup.{behind, disowned, gone, level_to, again_to, last_to, rounds}
use Rattle.protocol.specs.Decide.{in_turn, startup}
use Rattle.protocol.specs.Host.{set_block, replace, table, read, read_through, write_of}
use Rattle.protocol.specs.Count.{at_most}
use Rattle.protocol.specs.Program.{mask, change_made, told_to, flushed_first, left_out, program}
use Rattle.protocol.specs.Toy.{blank, datum, quorum, code, medium}
use Rattle.protocol.specs.Run.{ask_block, made, filled, risen}

made_reads : ask_block made 0 ≡ blank
unfolding update after belief copy round_batch prep_batch slots logged_sectors stored_sectors compared_sectors involved log_batch store_batch complete_b whole forward marked kill_batch redo gone level_to again_to last_to rounds in_turn behind disowned prep_places startup set_block replace table read read_through write_of change_made at_most mask told_to flushed_first left_out program quorum code medium
made_reads =
    let flushed = flushed_told in
    let told1 = rounds_told in
    let told2 = turn_told in
    refl

filled_reads : (ask_block filled 0 ≡ datum 7) × (ask_block filled 1 ≡ datum 8)
unfolding update after belief copy round_batch prep_batch slots logged_sectors stored_sectors compared_sectors involved log_batch store_batch complete_b whole forward marked kill_batch redo gone level_to again_to last_to rounds in_turn behind disowned prep_places startup set_block replace table read read_through write_of change_made at_most mask told_to flushed_first left_out program quorum code medium
filled_reads =
    let flushed = flushed_told in
    let told1 = rounds_told in
    let told2 = turn_told in
    (refl, refl)

-- THE NEW ONE, AND THE ONE THAT NOBODY WAS WRITING
pub risen_reads : (ask_block risen 0 ≡ datum 9) × (ask_block risen 1 ≡ datum 8)
unfolding update after belief copy round_batch prep_batch slots logged_sectors stored_sectors compared_sectors involved log_batch store_batch complete_b whole forward marked kill_batch redo gone level_to again_to last_to rounds in_turn behind disowned prep_places startup set_block replace table read read_through write_of change_made at_most mask told_to flushed_first left_out program quorum code medium
risen_reads =
    let flushed = flushed_told in
    let told1 = rounds_told in
    let told2 = turn_told in
    (refl, refl)
