-- NO ANSWER DEPENDS ON WHAT THE ABSENT SLOTS HOLD. Two runs make the same calls, each on an image of its own. Before each call the host may
-- change both images as it likes, as long as they are then alike where the slots are present that the call looks at: so the bytes of
-- absent slots may be others on each image, at every call anew. The two runs get the same answers, the same states and the same work
-- areas (`same_answers`); and to each run on the one image there is that run on the other (`other_run`). Assumes nothing.
use Rattle.std.specs.Prelude.{◌≡◌, refl, false, List, [], ◌∷◌, ℕ, ◌+◌}
use Rattle.std.proofs.Common.{sym, ap₂, subst, arith}
use Rattle.disk.specs.Mask.{in_mask}
use Rattle.disk.specs.declared.geometry.Geometry.{Geometry}
use Rattle.label.specs.Fields.{geometry_of}
use Rattle.stages.specs.declared.state.State.{State}
use Rattle.blind.specs.Alike.{Alike, alike_under, alike_back, alike_through}
use Rattle.blind.specs.Own.{Own}
use Rattle.blind.specs.Calls.{Call, start, Reply, Makes, shelf_of, hidden}
use Rattle.blind.specs.Agree.{Both, Follows}
use Rattle.blind.proofs.Agree.{call_blind}
use Rattle.blind.specs.Single.{makes_once}
use Rattle.blind.specs.Runs.{Run, Lent, Twin, ones, others, Befalls, Fair, AtEnd, asks_both, anew_both}

-- what one call makes of both
followed : (g : Geometry) (absent : ℕ) (s : State) (c : Call) (one other : List ℕ → List ℕ) → Befalls g absent s c one other → Own (geometry_of s.now) s.absent s
    → (work a b : List ℕ) → Alike g absent a b → (r : Reply) (left : List ℕ) → Makes c s work (one a) r left → Follows c s work (other b) r left
followed g absent s c one other f own work a b h r left m =
    call_blind c s work (one a) (other b) (record { own = own; alike = f.for_state a b h }) (f.for_call a b h) r left m

-- TO EACH RUN ON THE ONE IMAGE there is the run on the other: the same calls, whatever befalls the other disks, the same replies
pub other_run : (qs : List Twin) (g : Geometry) (absent : ℕ) (s : State) (work a b : List ℕ) (rs : List Reply) (x : List ℕ) → Own (geometry_of s.now) s.absent s
    → Alike g absent a b → Fair g absent s qs rs → Run s work a (ones qs) rs x → (y : List ℕ) × Run s work b (others qs) rs y × AtEnd g absent qs rs x y
other_run [] g absent s work a b [] x own h f m = (b, refl, subst (λ (z : List ℕ). Alike g absent z b) (sym m) h)
other_run [] g absent s work a b (r ∷ rs) x own h f m = absurd m
other_run (asks_both one other c ∷ qs) g absent s work a b [] x own h f m = absurd m
other_run (asks_both one other c ∷ qs) g absent s work a b (r ∷ rs) x own h f m =
    let u = followed g absent s c one other f.0 own work a b h r m.0 m.1 in
    let v = other_run qs (geometry_of r.state.now) r.state.absent r.state r.work m.0 u.after rs x u.both.own u.both.alike f.1 m.2 in
    (v.0, (u.after, u.makes, v.1), v.2)
other_run (anew_both t spare ∷ qs) g absent s work a b rs x own h f m = other_run qs g absent t spare a b rs x f.0 h f.1 m

-- THE SAME ANSWERS, THE SAME STATES, THE SAME WORK AREAS in any two such runs, and the images alike again at the end
pub same_answers : (qs : List Twin) (g : Geometry) (absent : ℕ) (s : State) (work a b : List ℕ) (rs ts : List Reply) (x y : List ℕ) → Own (geometry_of s.now) s.absent s
    → Alike g absent a b → Fair g absent s qs rs → (m : Run s work a (ones qs) rs x) (n : Run s work b (others qs) ts y)
    → Lent s work a (ones qs) rs x m → Lent s work b (others qs) ts y n → (rs ≡ ts) × AtEnd g absent qs rs x y
same_answers [] g absent s work a b [] [] x y own h f m n i j = (
  refl,
  subst (λ (z : List ℕ). Alike g absent z y) (sym m) (subst (λ (z : List ℕ). Alike g absent a z) (sym n) h),
)
same_answers [] g absent s work a b [] (t ∷ ts) x y own h f m n i j = absurd n
same_answers [] g absent s work a b (r ∷ rs) ts x y own h f m n i j = absurd m
same_answers (asks_both one other c ∷ qs) g absent s work a b [] ts x y own h f m n i j = absurd m
same_answers (asks_both one other c ∷ qs) g absent s work a b (r ∷ rs) [] x y own h f m n i j = absurd n
same_answers (asks_both one other c ∷ qs) g absent s work a b (r ∷ rs) (t ∷ ts) x y own h f m n i j =
    let u = followed g absent s c one other f.0 own work a b h r m.0 m.1 in
    let e = makes_once c s work (other b) j.1 j.0 r t u.after n.0 u.makes n.1 i.2 j.2 in
    let both = subst (λ (z : List ℕ). Both r.state m.0 z) e.1 u.both in
    let on = subst (λ (z : Reply). (l : Run z.state z.work n.0 (others qs) ts y) × Lent z.state z.work n.0 (others qs) ts y l) (sym e.0) (n.2, j.3) in
    let v = same_answers qs (geometry_of r.state.now) r.state.absent r.state r.work m.0 n.0 rs ts x y both.own both.alike f.1 m.2 on.0 i.3 on.1 in
    (ap₂ (λ (p : Reply) (ps : List Reply). p ∷ ps) e.0 v.0, v.1)
same_answers (anew_both t spare ∷ qs) g absent s work a b rs ts x y own h f m n i j = same_answers qs g absent t spare a b rs ts x y f.0 h f.1 m n i j

-- ---- what a host may do, for one

-- THE BYTES OF ABSENT SLOTS MAY BECOME ANYTHING, on each image what it likes: a host that leaves the present slots as they are is fair,
-- where neither the state nor the call looks at a slot that was absent
pub absent_anything : (g : Geometry) (absent : ℕ) (s : State) (c : Call) (one other : List ℕ → List ℕ)
    → ((a b : List ℕ) → Alike g absent a b → Alike (geometry_of s.now) s.absent a b) → ((a b : List ℕ) → Alike g absent a b → Alike (shelf_of c s) (hidden c s) a b)
    → ((a : List ℕ) → Alike g absent a (one a)) → ((b : List ℕ) → Alike g absent b (other b)) → Befalls g absent s c one other
absent_anything g absent s c one other state call h k = record { for_state = λ a b w. state (one a) (other b) (alike a b w); for_call = λ a b w. call (one a) (other b) (alike a b w) }
  where
    alike : (a b : List ℕ) → Alike g absent a b → Alike g absent (one a) (other b)
    alike a b w = alike_through g absent (one a) a (other b) (alike_back g absent a (one a) (h a)) (alike_through g absent a b (other b) w (k b))

-- between two calls of one shelf that is every call but create, start-up and begin
pub between_calls : (s : State) (c : Call) (one other : List ℕ → List ℕ) → shelf_of c s ≡ geometry_of s.now → hidden c s ≡ s.absent
    → ((a : List ℕ) → Alike (geometry_of s.now) s.absent a (one a)) → ((b : List ℕ) → Alike (geometry_of s.now) s.absent b (other b))
    → Befalls (geometry_of s.now) s.absent s c one other
between_calls s c one other e f =
    absent_anything (geometry_of s.now) s.absent s c one other (λ a b w. w)
    (λ a b w. subst (λ (x : Geometry). Alike x (hidden c s) a b) (sym e) (subst (λ (m : ℕ). Alike (geometry_of s.now) m a b) (sym f) w))

-- and after a power cut, the state blank, it is a start-up of the same shelf that calls the slots absent that were, or more of them
pub after_a_cut : (g : Geometry) (absent more room : ℕ) (blank : State) (one other : List ℕ → List ℕ) → blank.now.k + blank.now.m ≡ 0
    → ((d : ℕ) → in_mask more d ≡ false → in_mask absent d ≡ false)
    → ((a : List ℕ) → Alike g absent a (one a)) → ((b : List ℕ) → Alike g absent b (other b)) → Befalls g absent blank (start g more room) one other
after_a_cut g absent more room blank one other none wider =
    absent_anything g absent blank (start g more room) one other
    (λ a b w. record { lengths = w.lengths; sectors = λ d s hd hs p. absurd (omega (arith, none)) }) (λ a b w. alike_under g absent more a b wider w)
