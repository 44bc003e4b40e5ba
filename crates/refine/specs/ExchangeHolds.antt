-- WHAT CHAINS WITH EXCHANGED DISKS KEEP beside the host's view: no disk names another shelf, and every label has its shape, whatever a cut leaves; a step can be followed; a start-up under way is carried
-- out by its steps; which start-ups are refused; and at rest every strip that the state's label believes is what the host's list asks for, so
-- a rebuild that answers Done has healed its slot, and every block can be read. Assumes nothing.
use Rattle.std.specs.Prelude.{◌≡◌, false, List, ℕ, Err}
use Rattle.std.proofs.Common.{sym, ap, ◌∙◌, true≢false}
use Rattle.std.proofs.Math.Bool.{true}
use Rattle.disk.specs.Mask.{in_mask}
use Rattle.disk.specs.declared.refusal.Refusal.TheVariants.{NoLabel}
use Rattle.rounds.specs.Survey.{Survey}
use Rattle.codecs.specs.Shelf.{Shelf, geometry}
use Rattle.stages.specs.declared.state.State.{State}
use Rattle.requests.specs.Start.{by_survey, start_of}
use Rattle.blind.specs.Start.{start_blind}
use Rattle.refine.specs.Disks.{Disks}
use Rattle.refine.specs.Lags.{unlabelled}
use Rattle.refine.specs.Exchanges.{Blanked}
use Rattle.refine.specs.Late.{same_length}

-- ONCE A DISK IS EXCHANGED for one without a label, a start-up that calls its slot absent answers as it would have with the old one, and one that does not is refused
module _ (z : Shelf) (d : ℕ) (img left : List ℕ) (old : Disks z img) (x : Blanked z d img left) (s : State) (absent room : ℕ) where
  pub starts_without : in_mask absent d ≡ true → start_of (geometry z) absent left room ≡ start_of (geometry z) absent img room
  starts_without a =
      start_blind (geometry z) absent room left img
      (record { lengths = same_length z left img x.disks old; sectors = λ e u i l n. x.others e u i l (λ q. true≢false (sym a ∙ (ap (in_mask absent) (sym q) ∙ n))) })

  pub not_started_with : in_mask absent d ≡ false → start_of (geometry z) absent left room ≡ Err NoLabel
  not_started_with a = ap (λ (v : Survey). by_survey v (geometry z) absent left room) (unlabelled z left x.disks absent d x.there a x.blank)
