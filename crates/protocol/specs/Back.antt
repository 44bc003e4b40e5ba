-- A run with exchanged disks on the shelf of Toy, computed. Two blocks are written; power is off, and a strange disk comes into slot 0, is rebuilt there, and the first block is written anew.
-- Power is off again, and the old disk of slot 0 is back, with the old block on it: start-up notices it, and reads are right. So they are when the last disk is back after that.
use Rattle.std.specs.Prelude.{ℕ, zero, suc, List, Bool, true, false, eqb}
use Rattle.protocol.specs.World.{after, Sane}
use Rattle.protocol.specs.Label.{plainly_out}
use Rattle.protocol.specs.Host.{one_block}
use Rattle.protocol.specs.Program.{nothing, idle, doing, Input, create, start, write, take_out, begin, rebuild_on, step, Reply, accepted, refused, did, safe, done, block, found, program}
use Rattle.protocol.specs.Machine.{at, effect, Event}
use Rattle.protocol.specs.Exchange.{Asked, Befell, Disks, Room, room, moved, noted, exchanged, with_disk}
use Rattle.protocol.specs.Run.{ask_block}
use Rattle.protocol.specs.Toy.{Sector, blank, datum, size, labels, records, quorum, code, stamps, medium}

-- one request or step
abbrev pub react : Room Sector → Input Sector → Room Sector
react (room w m x) i = let r = program size quorum labels records code stamps medium m w.cur i in room (effect w r.1) r.0 (noted r.0 x)

abbrev pub steps : ℕ → Room Sector → Room Sector
steps zero r = r
steps (suc n) r = steps n (react r step)

-- power is lost, and each sector holds what was written last; then disk i comes into slot 0
abbrev pub cut_now : Room Sector → Room Sector
cut_now (room w m x) = room (after w.cur) nothing x

abbrev pub disk_in : ℕ → Room Sector → Room Sector
disk_in i (room w m x) = room (with_disk w 0 (x.stock i)) m (noted m (exchanged x 0 i w.cur))

abbrev pub seen : Room Sector → ℕ → Sector
seen (room w m x) i = ask_block (at w m) i

-- few slots hold another disk than their last
abbrev pub familiar : Room Sector → Bool
familiar (room w m x) = quorum.few (moved x)

abbrev pub empty : Room Sector
empty = room (after (λ k. blank)) nothing (record { inn = λ d. 0; stock = λ i k. blank; home = λ d. 0; made = false })

-- disk 0 of each slot; two blocks
abbrev pub made : Room Sector
made = steps 10 (react empty create)

abbrev pub first : Room Sector
first = steps 12 (react made (write 0 (one_block 0 (λ j. datum 7))))

abbrev pub filled : Room Sector
filled = steps 12 (react first (write 0 (one_block 1 (λ j. datum 8))))

-- a strange disk comes into slot 0: it starts up as absent, is rebuilt, and block 0 is written anew
abbrev pub strange : Room Sector
strange = disk_in 1 (cut_now filled)

abbrev pub without : Room Sector
without = steps 30 (react strange (start (λ d. eqb d 0)))

abbrev pub begun : Room Sector
begun = steps 20 (react without (begin 0))

abbrev pub whole_again : Room Sector
whole_again = steps 20 (react begun (rebuild_on 1))

abbrev pub mended : Room Sector
mended = steps 12 (react whole_again (write 0 (one_block 0 (λ j. datum 9))))

-- the old disk is back, and nobody says that it is absent
abbrev pub returned : Room Sector
returned = disk_in 0 (cut_now mended)

abbrev pub risen : Room Sector
risen = steps 30 (react returned (start (λ d. false)))

-- and then the last disk is back
abbrev pub last_back : Room Sector
last_back = disk_in 1 (cut_now risen)

abbrev pub again_risen : Room Sector
again_risen = steps 30 (react last_back (start (λ d. false)))

-- whether the settled label calls slot 0 plainly out
abbrev pub out_now : Room Sector → Bool
out_now (room w nothing x) = false
out_now (room w (idle o) x) = plainly_out o.now 0
out_now (room w (doing k l o o') x) = false

-- A slot is taken out, another disk comes into it, and its rebuild begins: the label is one generation newer than that of the disk that was taken out. Power is off, and that disk is back. It is
-- no more behind than any disk may be that missed the last label; but its own label calls it plainly out, and so it is noticed.
abbrev pub begun_again : Room Sector
begun_again = steps 20 (react (disk_in 1 (steps 20 (react filled (take_out 0)))) (begin 0))

abbrev pub disowning : Room Sector
disowning = steps 30 (react (disk_in 0 (cut_now begun_again)) (start (λ d. false)))

-- THIS HISTORY IS ONE OF THOSE THAT THE PROMISE IS ABOUT: the events that lead to a room from the empty one, each with what is asked of the world
abbrev Sound : Room Sector → Type 0
Sound (room w m x) = Sane w

abbrev pub Came : Room Sector → Type 1
Came r = (l : List (Event Sector)) × Befell size quorum labels records code stamps medium empty l r × Sound r

abbrev pub Fair : Room Sector → Input Sector → Type 0
Fair (room w m x) i = Asked size quorum labels records code stamps medium w m i (program size quorum labels records code stamps medium m w.cur i).1 x

abbrev pub is_accepted : Reply Sector → Bool
is_accepted accepted = true
is_accepted (refused why) = false
is_accepted (did a) = false
is_accepted safe = false
is_accepted (done k) = false
is_accepted (block b) = false
is_accepted (found y) = false

abbrev pub disks : Room Sector → Disks Sector
disks (room w m x) = x
