-- FAMILIES OF SETS OF SLOTS of which any two leave a slot out, for shelves with k <= m; a code and a medium for each of them; and that the family is no part of the program. What is asked of the world
-- there, and the promise: Since.
use Rattle.std.specs.Prelude.{ℕ, ◌≡◌, Bool, true, cond}
use Rattle.std.proofs.Math.Path.{refl}
use Rattle.std.proofs.Common.{sym, ap, subst}
use mathlib.Core.List.{List, []}
use Rattle.protocol.specs.World.{Image}
use Rattle.protocol.specs.Log.{RecordCodec}
use Rattle.protocol.specs.Label.{Size, Quorum, LabelCodec}
use Rattle.protocol.specs.Host.{Code, read, read_through, write_of, whole_change, repair_of, rebuilt}
use Rattle.protocol.specs.Program.{Stamps, Medium, Memory, nothing, idle, doing, Input, create, start, read_block, write, take_out, begin, rebuild_on, scrub_stripe, repair, step, Reply, mask, change_made, left_out, flushed_first, told_to}
use Rattle.protocol.specs.Machine as Machine
use Rattle.protocol.specs.Machine.{Machine, at, effect, Event, ask, Outside}
use Rattle.protocol.specs.Even as Even
use Rattle.protocol.specs.Even.{is_accepted, program_by, leaves, HappensBy, RunsBy, left_one, left_by}
use Rattle.protocol.specs.Pairs.{no_sets, Mends, code_of, medium_for}

module _ {X : Type 0} (z : Size) (C : LabelCodec X z.n) (K : RecordCodec X) (E : Code X z.n K.c (no_sets z.n)) (S : Stamps) (R : Medium z (no_sets z.n) C K E S) (test : (ℕ → Bool) → Bool) (ok : Mends test E) where
  module _ (W : Quorum z.n) (sub : (a : ℕ → Bool) → W.few a ≡ true → test a ≡ true) where
    -- THE FAMILY IS NO PART OF THE PROGRAM
    pub same_by : (m : Memory X) (f : Image X) (i : Input X) → program_by z (no_sets z.n) C K E S R test m f i ≡ program_by z W C K (code_of z C K E S R test ok W sub) S (medium_for z C K E S R test ok W sub) test m f i
    unfolding program_by mask left_out flushed_first told_to read read_through write_of change_made whole_change repair_of rebuilt
    same_by nothing f create = refl
    same_by nothing f (start A) = refl
    same_by nothing f (read_block t i) = refl
    same_by nothing f (write t ch) = refl
    same_by nothing f (take_out d) = refl
    same_by nothing f (begin d) = refl
    same_by nothing f (rebuild_on b) = refl
    same_by nothing f (scrub_stripe t) = refl
    same_by nothing f (repair t) = refl
    same_by nothing f step = refl
    same_by (idle o) f create = refl
    same_by (idle o) f (start A) = refl
    same_by (idle o) f (read_block t i) = refl
    same_by (idle o) f (write t ch) = refl
    same_by (idle o) f (take_out d) = refl
    same_by (idle o) f (begin d) = refl
    same_by (idle o) f (rebuild_on b) = refl
    same_by (idle o) f (scrub_stripe t) = refl
    same_by (idle o) f (repair t) = refl
    same_by (idle o) f step = refl
    same_by (doing k l o o') f create = refl
    same_by (doing k l o o') f (start A) = refl
    same_by (doing k l o o') f (read_block t i) = refl
    same_by (doing k l o o') f (write t ch) = refl
    same_by (doing k l o o') f (take_out d) = refl
    same_by (doing k l o o') f (begin d) = refl
    same_by (doing k l o o') f (rebuild_on b) = refl
    same_by (doing k l o o') f (scrub_stripe t) = refl
    same_by (doing k l o o') f (repair t) = refl
    same_by (doing k l o o') f step = refl

    pub same_leaves : (m : Memory X) (f : Image X) (i : Input X) → leaves z (no_sets z.n) C K E S R test m f i ≡ leaves z W C K (code_of z C K E S R test ok W sub) S (medium_for z C K E S R test ok W sub) test m f i
    unfolding mask left_out
    same_leaves nothing f create = refl
    same_leaves nothing f (start A) = refl
    same_leaves nothing f (read_block t i) = refl
    same_leaves nothing f (write t ch) = refl
    same_leaves nothing f (take_out d) = refl
    same_leaves nothing f (begin d) = refl
    same_leaves nothing f (rebuild_on b) = refl
    same_leaves nothing f (scrub_stripe t) = refl
    same_leaves nothing f (repair t) = refl
    same_leaves nothing f step = refl
    same_leaves (idle o) f create = refl
    same_leaves (idle o) f (start A) = refl
    same_leaves (idle o) f (read_block t i) = refl
    same_leaves (idle o) f (write t ch) = refl
    same_leaves (idle o) f (take_out d) = refl
    same_leaves (idle o) f (begin d) = refl
    same_leaves (idle o) f (rebuild_on b) = refl
    same_leaves (idle o) f (scrub_stripe t) = refl
    same_leaves (idle o) f (repair t) = refl
    same_leaves (idle o) f step = refl
    same_leaves (doing k l o o') f i = refl

    -- nor of the machine
    same_outside : {m m' : Machine X} {e : Event X} → Outside z (no_sets z.n) C K E S R m e m' → Outside z W C K (code_of z C K E S R test ok W sub) S (medium_for z C K E S R test ok W sub) m e m'
    same_outside (Machine.power_cut f p) = Machine.power_cut f p
    same_outside Machine.program_dies = Machine.program_dies
    same_outside (Machine.disk_swapped d l s) = Machine.disk_swapped d l s

    same_happens : {m m' : Machine X} {e : Event X} (s : HappensBy z (no_sets z.n) C K E S R test m e m') → (s' : HappensBy z W C K (code_of z C K E S R test ok W sub) S (medium_for z C K E S R test ok W sub) test m e m') × (left_one z W C K (code_of z C K E S R test ok W sub) S (medium_for z C K E S R test ok W sub) test s' ≡ left_one z (no_sets z.n) C K E S R test s)
    same_happens (Even.from_outside x) = (Even.from_outside (same_outside x), refl)
    same_happens (Even.from_host {w = w} {m = m} i) =
        subst (λ (b : Memory X × Reply X). (s' : HappensBy z W C K (code_of z C K E S R test ok W sub) S (medium_for z C K E S R test ok W sub) test (at w m) (ask i b.1) (at (effect w b.1) b.0)) × (left_one z W C K (code_of z C K E S R test ok W sub) S (medium_for z C K E S R test ok W sub) test s' ≡ cond (is_accepted b.1) (leaves z (no_sets z.n) C K E S R test m w.cur i) [])) (sym (same_by m w.cur i))
        (Even.from_host {w = w} {m = m} i, ap (λ (l : List (ℕ → Bool)). cond (is_accepted (program_by z W C K (code_of z C K E S R test ok W sub) S (medium_for z C K E S R test ok W sub) test m w.cur i).1) l []) (sym (same_leaves m w.cur i)))

    pub same_runs : {m m' : Machine X} {l : List (Event X)} (r : RunsBy z (no_sets z.n) C K E S R test m l m') → (r' : RunsBy z W C K (code_of z C K E S R test ok W sub) S (medium_for z C K E S R test ok W sub) test m l m') × (left_by z W C K (code_of z C K E S R test ok W sub) S (medium_for z C K E S R test ok W sub) test r' ≡ left_by z (no_sets z.n) C K E S R test r)
    same_runs Even.stays = (Even.stays, refl)
    same_runs (Even.goes s r) =
        let x = same_happens s in
        let y = same_runs r in
        (Even.goes x.0 y.0, rw (x.1, y.1))
