-- THE PROGRAM: a function from what it remembers and what it sees to what it remembers next and its reply. It sees the sectors of the present slots
-- alone: all others read as zeros to it. When it accepts a request it makes the whole list of the request's actions; each step then carries out
-- one of them, a put of one sector or a flush of one slot. Nothing here is assumed; that it keeps the promise is shown in Promise.
use Rattle.std.specs.Prelude.{◌≡◌, refl, Bool}
use Rattle.std.proofs.Math.Path.{ap, fun_ext}
use Rattle.std.proofs.Math.Bool.{true, false, cond}
use Rattle.protocol.specs.World.{Place, slot, Image}
use Rattle.protocol.specs.Log.{RecordCodec}
use Rattle.protocol.specs.Label.{Size, Quorum, LabelCodec}
use Rattle.protocol.specs.Host.{Code}
use Rattle.protocol.specs.Program.{Stamps, Medium, Memory, Input, mask, choose, unseen, program}

module _ {X : Type 0} (z : Size) (W : Quorum z.n) (C : LabelCodec X z.n) (K : RecordCodec X) (E : Code X z.n K.c W) (S : Stamps) (R : Medium z W C K E S) where
  -- NO ACTION AND NO ANSWER DEPENDS ON A SECTOR OF AN ABSENT SLOT, at every step anew
  pub blind : (m : Memory X) (i : Input X) (f g : Image X) → ((k : Place) → (unseen z W C K E S R) m i (slot k) ≡ false → f k ≡ g k) → (program z W C K E S R) m f i ≡ (program z W C K E S R) m g i
  unfolding program mask
  blind m i f g h = ap (λ (s : Image X). (choose z W C K E S R) m s i) (fun_ext (λ k. go k ((unseen z W C K E S R) m i (slot k)) refl))
    where
      go : (k : Place) (b : Bool) → (unseen z W C K E S R) m i (slot k) ≡ b → cond ((unseen z W C K E S R) m i (slot k)) K.zeros (f k) ≡ cond ((unseen z W C K E S R) m i (slot k)) K.zeros (g k)
      go k true e = rw e
      go k false e = rw e (h k e)
