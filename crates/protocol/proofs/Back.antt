-- A run with exchanged disks on the shelf of Toy, computed. Two blocks are written; power is off, and a strange disk comes into slot 0, is rebuilt there, and the first block is written anew.
-- Power is off again, and the old disk of slot 0 is back, with the old block on it: start-up notices it, and reads are right. So they are when the last disk is back after that.
use Rattle.std.specs.Prelude.{ℕ, zero, suc, ◌≡◌, refl, List, [], ◌∷◌, ◌++◌, true, false, ◌≢◌, eqb}
use Rattle.std.proofs.Common.{ap, inl, arith, eq-eqb, ne_eqb}
use Rattle.std.proofs.lemmas.Bool.{false≢true}
use Rattle.protocol.proofs.Told.{flushed_told, rounds_told, turn_told}
use Rattle.protocol.specs.World.{slot, update, World, after, Possible, Sane, sane_after, sane_act, always_after}
use Rattle.protocol.specs.Slots.{slots}
use Rattle.protocol.specs.Label.{belief, copy, round_batch, prep_places, prep_batch, last_side, expel_batch}
use Rattle.protocol.specs.Write.{logged_sectors, stored_sectors, involved, log_batch, store_batch}
use Rattle.protocol.specs.Redo.{compared_sectors, complete_b, whole, forward, marked, kill_batch, redo}
use Rattle.protocol.specs.Startup.{behind, disowned, gone, level_to, again_to, last_to, rounds}
use Rattle.protocol.specs.Decide.{in_turn, startup}
use Rattle.protocol.specs.Rebuild.{wiped_sectors, filled_sectors, wipe_batch, fill_batch, flushed_at_begin, expel_first}
use Rattle.protocol.specs.Host.{Change, one_block, set_block, replace, table, read, read_through, write_of, rebuilt}
use Rattle.protocol.specs.Count.{at_most}
use Rattle.protocol.specs.Program.{nothing, idle, doing, Input, create, start, write, begin, rebuild_on, step, Reply, accepted, refused, did, safe, done, block, found, mask, change_made, told_to, flushed_first, left_out, program}
use Rattle.protocol.specs.Machine.{effect, Event, cut, swap, ask, View, sure, Views}
use Rattle.protocol.specs.Promise.{Zeros}
use Rattle.protocol.specs.Exchange as Exchange
use Rattle.protocol.specs.Exchange.{Strange, Befalls, Befell, Room, room}
use Rattle.protocol.specs.Exchanged.{Holds}
use Rattle.protocol.proofs.Exchanged.{exchange_promised}
use Rattle.protocol.specs.Toy.{Sector, blank, datum, size, labels, records, quorum, code, stamps, medium}
use Rattle.protocol.specs.Back.{react, steps, cut_now, disk_in, seen, familiar, empty, made, first, filled, strange, without, begun, whole_again, mended, returned, risen, last_back, again_risen, out_now, begun_again, disowning, Came, Fair, is_accepted, disks}

mended_seen : (seen filled 0 ≡ datum 7) × (seen filled 1 ≡ datum 8) × (seen mended 0 ≡ datum 9) × (seen mended 1 ≡ datum 8) × (out_now mended ≡ false)
unfolding update after belief copy round_batch prep_batch slots logged_sectors stored_sectors compared_sectors involved log_batch store_batch complete_b whole forward marked kill_batch redo gone level_to again_to last_to rounds in_turn behind disowned last_side expel_batch expel_first prep_places startup wiped_sectors filled_sectors wipe_batch fill_batch flushed_at_begin set_block replace table read read_through write_of change_made rebuilt at_most mask told_to flushed_first left_out program quorum code medium
mended_seen =
    let flushed = flushed_told in
    let told1 = rounds_told in
    let told2 = turn_told in
    (refl, refl, refl, refl, refl)

-- THE OLD DISK, WITH THE OLD BLOCK, IS NOTICED
pub returned_seen : (familiar returned ≡ true) × (out_now risen ≡ true) × (seen risen 0 ≡ datum 9) × (seen risen 1 ≡ datum 8)
unfolding update after belief copy round_batch prep_batch slots logged_sectors stored_sectors compared_sectors involved log_batch store_batch complete_b whole forward marked kill_batch redo gone level_to again_to last_to rounds in_turn behind disowned last_side expel_batch expel_first prep_places startup wiped_sectors filled_sectors wipe_batch fill_batch flushed_at_begin set_block replace table read read_through write_of change_made rebuilt at_most mask told_to flushed_first left_out program quorum code medium
returned_seen =
    let flushed = flushed_told in
    let told1 = rounds_told in
    let told2 = turn_told in
    (refl, refl, refl, refl)

pub again_seen : (out_now again_risen ≡ true) × (seen again_risen 0 ≡ datum 9) × (seen again_risen 1 ≡ datum 8)
unfolding update after belief copy round_batch prep_batch slots logged_sectors stored_sectors compared_sectors involved log_batch store_batch complete_b whole forward marked kill_batch redo gone level_to again_to last_to rounds in_turn behind disowned last_side expel_batch expel_first prep_places startup wiped_sectors filled_sectors wipe_batch fill_batch flushed_at_begin set_block replace table read read_through write_of change_made rebuilt at_most mask told_to flushed_first left_out program quorum code medium
again_seen =
    let flushed = flushed_told in
    let told1 = rounds_told in
    let told2 = turn_told in
    (refl, refl, refl)

pub disowned_seen : (out_now begun_again ≡ false) × (out_now disowning ≡ true) × (seen disowning 0 ≡ datum 7) × (seen disowning 1 ≡ datum 8)
unfolding update after belief copy round_batch prep_batch slots logged_sectors stored_sectors compared_sectors involved log_batch store_batch complete_b whole forward marked kill_batch redo gone level_to again_to last_to rounds in_turn behind disowned last_side expel_batch expel_first prep_places startup wiped_sectors filled_sectors wipe_batch fill_batch flushed_at_begin set_block replace table read read_through write_of change_made rebuilt at_most mask told_to flushed_first left_out program quorum code medium
disowned_seen =
    let flushed = flushed_told in
    let told1 = rounds_told in
    let told2 = turn_told in
    (refl, refl, refl, refl)

then : {r r' r'' : Room Sector} {l : List (Event Sector)} {e : Event Sector} → Befell size quorum labels records code stamps medium r l r' → Befalls size quorum labels records code stamps medium r' e r'' → Befell size quorum labels records code stamps medium r (l ++ (e ∷ [])) r''
then Exchange.stays b = Exchange.goes b Exchange.stays
then (Exchange.goes a r) b = Exchange.goes a (then r b)

sane_effect : (w : World Sector) (r : Reply Sector) → Sane w → Sane (effect w r)
sane_effect w accepted h = h
sane_effect w (refused why) h = h
sane_effect w (did a) h = sane_act w a h
sane_effect w safe h = h
sane_effect w (done k) h = h
sane_effect w (block b) h = h
sane_effect w (found y) h = h

came_ask : (r : Room Sector) (i : Input Sector) → Fair r i → Came r → Came (react r i)
came_ask (room w m x) i a h = let r = (program size quorum labels records code stamps medium m w.cur i).1 in (h.0 ++ (ask i r ∷ []), then h.1 (Exchange.from_host i a), sane_effect w r h.2)

fair_step : (r : Room Sector) → Fair r step
unfolding program
fair_step (room w nothing x) = λ e. absurd (false≢true (ap is_accepted e))
fair_step (room w (idle o) x) = tt
fair_step (room w (doing k l o o') x) = tt

came_steps : (n : ℕ) (r : Room Sector) → Came r → Came (steps n r)
came_steps zero r h = h
came_steps (suc n) r h = came_steps n (react r step) (came_ask r step (fair_step r) h)

-- the same of the other requests that no start-up makes
fair_write : (r : Room Sector) (t : ℕ) (ch : Change Sector) → Fair r (write t ch)
unfolding program
fair_write (room w nothing x) t ch = λ e. absurd (false≢true (ap is_accepted e))
fair_write (room w (idle o) x) t ch = tt
fair_write (room w (doing k l o o') x) t ch = tt

fair_begin : (r : Room Sector) (d : ℕ) → Fair r (begin d)
unfolding program
fair_begin (room w nothing x) d = λ e. absurd (false≢true (ap is_accepted e))
fair_begin (room w (idle o) x) d = tt
fair_begin (room w (doing k l o o') x) d = tt

fair_on : (r : Room Sector) (b : ℕ) → Fair r (rebuild_on b)
unfolding program
fair_on (room w nothing x) b = λ e. absurd (false≢true (ap is_accepted e))
fair_on (room w (idle o) x) b = tt
fair_on (room w (doing k l o o') x) b = tt

-- a cut, and disk i comes into slot 0
came_disk : (i : ℕ) (r : Room Sector) → (disks r).made ≡ true → i ≢ (disks r).inn 0 → Came r → Came (disk_in i (cut_now r))
unfolding Possible Sane after
came_disk i (room w m x) e n h = (
  (h.0 ++ (cut ∷ [])) ++ (swap ∷ []),
  then (then h.1 (Exchange.power_cut w.cur h.2)) (Exchange.swapped_off 0 i w.cur e n (sane_after w.cur)),
  λ k. (λ q. rw (eq-eqb (slot k) 0 q), λ q. rw (ne_eqb (slot k) 0 q)),
)

filled_came : Came filled
unfolding update after belief copy round_batch prep_batch slots logged_sectors stored_sectors compared_sectors involved log_batch store_batch complete_b whole forward marked kill_batch redo gone level_to again_to last_to rounds in_turn behind disowned last_side expel_batch expel_first prep_places startup wiped_sectors filled_sectors wipe_batch fill_batch flushed_at_begin set_block replace table read read_through write_of change_made rebuilt at_most mask told_to flushed_first left_out program quorum code medium
filled_came =
    let flushed = flushed_told in
    let told1 = rounds_told in
    let told2 = turn_told in
    let a = came_steps 10 (react empty create) (came_ask empty create (λ p. inl (λ q. refl {a = true})) ([], Exchange.stays, sane_after (λ k. blank))) in
    let b = came_steps 12 (react made (write 0 (one_block 0 (λ j. datum 7)))) (came_ask made (write 0 (one_block 0 (λ j. datum 7))) (fair_write made 0 (one_block 0 (λ j. datum 7))) a) in
    came_steps 12 (react first (write 0 (one_block 1 (λ j. datum 8)))) (came_ask first (write 0 (one_block 1 (λ j. datum 8))) (fair_write first 0 (one_block 1 (λ j. datum 8))) b)

mended_came : Came mended
unfolding update after belief copy round_batch prep_batch slots logged_sectors stored_sectors compared_sectors involved log_batch store_batch complete_b whole forward marked kill_batch redo gone level_to again_to last_to rounds in_turn behind disowned last_side expel_batch expel_first prep_places startup wiped_sectors filled_sectors wipe_batch fill_batch flushed_at_begin set_block replace table read read_through write_of change_made rebuilt at_most mask told_to flushed_first left_out program quorum code medium
mended_came =
    let flushed = flushed_told in
    let told1 = rounds_told in
    let told2 = turn_told in
    let a = came_disk 1 filled (refl {a = true}) (λ q. omega (arith, q)) filled_came in
    let b = came_steps 30 (react strange (start (λ d. eqb d 0))) (came_ask strange (start (λ d. eqb d 0)) (λ p. inl (λ q. refl {a = true})) a) in
    let c = came_steps 20 (react without (begin 0)) (came_ask without (begin 0) (fair_begin without 0) b) in
    let d = came_steps 20 (react begun (rebuild_on 1)) (came_ask begun (rebuild_on 1) (fair_on begun 1) c) in
    came_steps 12 (react whole_again (write 0 (one_block 0 (λ j. datum 9)))) (came_ask whole_again (write 0 (one_block 0 (λ j. datum 9))) (fair_write whole_again 0 (one_block 0 (λ j. datum 9))) d)

pub again_came : Came again_risen
unfolding update after belief copy round_batch prep_batch slots logged_sectors stored_sectors compared_sectors involved log_batch store_batch complete_b whole forward marked kill_batch redo gone level_to again_to last_to rounds in_turn behind disowned last_side expel_batch expel_first prep_places startup wiped_sectors filled_sectors wipe_batch fill_batch flushed_at_begin set_block replace table read read_through write_of change_made rebuilt at_most mask told_to flushed_first left_out program quorum code medium
again_came =
    let flushed = flushed_told in
    let told1 = rounds_told in
    let told2 = turn_told in
    let a = came_disk 0 mended (refl {a = true}) (λ q. omega (arith, q)) mended_came in
    let b = came_steps 30 (react returned (start (λ d. false))) (came_ask returned (start (λ d. false)) (λ p. inl (λ q. refl {a = true})) a) in
    let c = came_disk 1 risen (refl {a = true}) (λ q. omega (arith, q)) b in
    came_steps 30 (react last_back (start (λ d. false))) (came_ask last_back (start (λ d. false)) (λ p. inl (λ q. refl {a = true})) c)

strange_disks : Strange size labels (disks empty)
unfolding copy
strange_disks = record { at_home = λ d n. refl; unlabelled = λ d i b n m. labels.decode_zeros d b }

-- SO THE PROMISE HOLDS OF IT
pub again_promised : (p : View Sector) × Views records.c (sure (λ t i j. blank)) again_came.0 p × Holds size quorum labels records code stamps medium again_risen p
unfolding quorum at_most
again_promised =
    exchange_promised size quorum labels records code stamps medium (after (λ k. blank)) (disks empty) (sane_after (λ k. blank)) (refl {a = true})
    (always_after (Zeros size quorum labels records code stamps medium) (λ k. blank) (record { labels = λ d b n. refl; logs = λ d j n c. refl; strips = λ d t j n u c. refl })) refl strange_disks again_came.1
