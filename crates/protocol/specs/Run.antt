-- A run of the program on the shelf of Toy, computed: create, two writes, a third one cut in the middle of its strips, start-up with another disk
-- lost, and reads. This is the classic hole of document 03, section 5: the data strip is written, the parity strip is not, power is lost, then
-- another disk; and the block that nobody was writing comes back right.
use Rattle.std.specs.Prelude.{ℕ, zero, suc, eqb}
use Rattle.protocol.specs.World.{after}
use Rattle.protocol.specs.Host.{one_block}
use Rattle.protocol.specs.Program.{nothing, Input, create, start, read_block, write, step, Reply, accepted, refused, did, safe, done, block, found, program}
use Rattle.protocol.specs.Machine.{Machine, at, effect}
use Rattle.protocol.specs.Toy.{Sector, blank, datum, size, labels, records, quorum, code, stamps, medium}

-- one request or step
abbrev react : Machine Sector → Input Sector → Machine Sector
react (at w m) i = let r = program size quorum labels records code stamps medium m w.cur i in at (effect w r.1) r.0

abbrev steps : ℕ → Machine Sector → Machine Sector
steps zero m = m
steps (suc n) m = steps n (react m step)

-- what a read answers
abbrev shown : Reply Sector → Sector
shown accepted = blank
shown (refused why) = blank
shown (did a) = blank
shown safe = blank
shown (done k) = blank
shown (block b) = b 0
shown (found x) = blank

abbrev pub ask_block : Machine Sector → ℕ → Sector
ask_block (at w m) i = shown (program size quorum labels records code stamps medium m w.cur (read_block 0 i)).1

-- power is lost, and each sector holds what was written last
abbrev cut_now : Machine Sector → Machine Sector
cut_now (at w m) = at (after w.cur) nothing

abbrev pub made : Machine Sector
made = steps 10 (react (at (after (λ k. blank)) nothing) create)

-- two blocks are written and acknowledged (6 actions, the step that makes it safe, 4 actions, the answer)
abbrev pub filled : Machine Sector
filled = steps 12 (react (steps 12 (react made (write 0 (one_block 0 (λ j. datum 7))))) (write 0 (one_block 1 (λ j. datum 8))))

-- a third write: its log is flushed, and the data strip is written, the parity strip not
abbrev torn : Machine Sector
torn = cut_now (steps 8 (react filled (write 0 (one_block 0 (λ j. datum 9)))))

-- start-up, with slot 1 lost: 18 actions and the answer
abbrev pub risen : Machine Sector
risen = steps 19 (react torn (start (λ d. eqb d 1)))
