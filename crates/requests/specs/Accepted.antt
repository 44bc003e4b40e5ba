-- A refusal leaves the state. What is accepted begins with a state that the steps take, and with labels that can be written on
-- every slot, so that no step is refused for them. Assumes nothing.
use Rattle.std.specs.Prelude.{◌≡◌, refl, Bool, true, false, cond, not, ◌&&◌, ◌||◌, List, ℕ, ◌+◌, ◌≤◌, ◌<◌, ◌^◌, leb, ltb, eqb, length, Ok, Err}
use Rattle.std.proofs.Common.{sym, ◌∙◌, true≢false, arith, pow_pos, leb-true, leb-false, ltb-false, le-leb, lt-ltb}
use Rattle.std.specs.Int.Count.{ones}
use Rattle.disk.specs.Limits.{least_k, most_k, least_m, most_m}
use Rattle.disk.specs.Tests.{and_left, and_right, both}
use Rattle.disk.specs.Geometry.{in_range, splits, in_range_with, image_bytes, stripes_of, in_range_lem}
use Rattle.disk.specs.Image.{fits_image}
use Rattle.disk.specs.Mask.{in_mask, with_slot, in_with, with_lt}
use Rattle.disk.specs.declared.geometry.Geometry.{Geometry}
use Rattle.disk.specs.declared.refusal.Refusal.{Refusal}
use Rattle.disk.specs.declared.refusal.Refusal.TheVariants.{BadImage, TooFew, BadBlock, Busy, NotNow}
use Rattle.disk.specs.Refusal.{Outcome}
use Rattle.label.specs.Fields.{no_slot, most_generation, geometry_of, rebuild_fits, fits_of}
use Rattle.label.specs.Bytes.{all_zero}
use Rattle.label.proofs.Fits.{Fits, fits_says}
use Rattle.label.specs.declared.fields.Label.{Label}
use Rattle.shelf.specs.Act.{named}
use Rattle.shelf.specs.Step.{sound}
use Rattle.requests.specs.Begun.{begun, first}
use Rattle.requests.specs.Ready.{is_nothing, is_idle, has_shelf, ready_of}
use Rattle.requests.specs.Create.{shards_fit, shelf_fits, create_answer, first_label, created, create_of}
use Rattle.requests.specs.TakeOut.{out_with, plainly_out, out_now, out_answer, take_answer, next_label, outed, took_out, take_out_of}
use Rattle.stages.specs.declared.state.State.{State}
use Rattle.stages.specs.declared.state.Kind.{Kind}
use Rattle.requests.specs.Begun.{outcome_of, state_of}

never : (why : Refusal) → ◌≡◌ {A = Outcome} (Err why) (Ok tt) → ⊥
never why e = let z : ◌≡◌ {A = ℕ} 0 1 = cc in omega arith

-- ---- a refusal leaves the state

refusal_leaves : (o : Outcome) (s t : State) (why : Refusal) → outcome_of (begun o t) ≡ Err why → state_of s (begun o t) ≡ s
refusal_leaves (Ok tt) s t why e = absurd (never why (sym e))
refusal_leaves (Err x) s t why e = refl

pub create_refused : (s : State) (k m c S shelf : ℕ) (img : List ℕ) (room : ℕ) (why : Refusal)
    → outcome_of (create_of k m c S shelf img room) ≡ Err why → state_of s (create_of k m c S shelf img room) ≡ s
create_refused s k m c S shelf img room why = refusal_leaves (create_answer k m c S img room) s (created k m c S shelf) why

pub out_refused : (s : State) (d : ℕ) (img : List ℕ) (room : ℕ) (why : Refusal)
    → outcome_of (take_out_of s d img room) ≡ Err why → state_of s (take_out_of s d img room) ≡ s
out_refused s d img room why = refusal_leaves (take_answer s.now s.kind s.absent img d room) s (took_out s d) why

-- ---- what the tests of an accepted request say

pub passed : (b : Bool) (x : Outcome) (why : Refusal) → cond {A = Outcome} b x (Err why) ≡ Ok tt → (b ≡ true) × (x ≡ Ok tt)
passed true x why e = (refl, e)
passed false x why e = absurd (never why e)

spared : (b : Bool) (x : Outcome) (why : Refusal) → cond {A = Outcome} b (Err why) x ≡ Ok tt → (b ≡ false) × (x ≡ Ok tt)
spared true x why e = absurd (never why e)
spared false x why e = (refl, e)

first_done : (o p : Outcome) → first o p ≡ Ok tt → (o ≡ Ok tt) × (p ≡ Ok tt)
first_done (Ok tt) p e = (refl, e)
first_done (Err why) p e = absurd (never why e)

pub record Shards (k m : ℕ) : Type 0 where
  pub k_least_lem : least_k ≤ k
  pub k_most_lem : k ≤ most_k
  pub m_least_lem : least_m ≤ m
  pub m_most_lem : m ≤ most_m

pub shards_say : (k m : ℕ) → shards_fit k m ≡ true → Shards k m
unfolding shards_fit
shards_say k m e =
    let e1 = and_right (leb least_k k) _ e in
    let e2 = and_right (leb k most_k) _ e1 in
    record {
      k_least_lem = leb-true _ _ (and_left (leb least_k k) _ e);
      k_most_lem = leb-true _ _ (and_left (leb k most_k) _ e1);
      m_least_lem = leb-true _ _ (and_left (leb least_m m) _ e2);
      m_most_lem = leb-true _ _ (and_right (leb least_m m) _ e2);
    }

pub shelf_shards : (k m c S len : ℕ) → shelf_fits k m c S len ≡ true → Shards k m
unfolding shelf_fits
shelf_shards k m c S len e = shards_say k m (and_left (shards_fit k m) (fits_image (record { n = k + m; c = c; sectors = S }) len) e)

shelf_range : (k m c S len : ℕ) → shelf_fits k m c S len ≡ true → in_range (record { n = k + m; c = c; sectors = S }) ≡ true
unfolding shelf_fits fits_image
shelf_range k m c S len e =
    let g : Geometry = record { n = k + m; c = c; sectors = S } in
    and_left (in_range g) (eqb len (image_bytes g)) (and_right (shards_fit k m) (fits_image g len) e)

-- create goes on: a shelf, on an image that is zeros throughout
pub create_done : (k m c S : ℕ) (img : List ℕ) (room : ℕ) → create_answer k m c S img room ≡ Ok tt
    → (shelf_fits k m c S (length img) ≡ true) × (all_zero img ≡ true)
unfolding create_answer
create_done k m c S img room e =
    let p = passed (shelf_fits k m c S (length img)) _ BadImage e in (p.0, (passed (all_zero img) _ NotNow p.1).0)

pub has_fits : (l : Label) (kind : Kind) → has_shelf l kind ≡ true → fits_of l ≡ true
unfolding has_shelf
has_fits l kind e = and_right (not (is_nothing kind)) (fits_of l) e

pub ready_done : (l : Label) (kind : Kind) (absent : ℕ) (img : List ℕ) → ready_of l kind absent img ≡ Ok tt → fits_of l ≡ true
unfolding ready_of
ready_done l kind absent img e = has_fits l kind (passed (has_shelf l kind) _ NotNow e).0

-- take out goes on: a slot of the shelf that is present and not plainly out, at most m out then, nothing under way, and a generation is left
pub record Goes (l : Label) (idle : Bool) (absent d : ℕ) : Type 0 where
  pub few : ones (out_with l d) ≤ l.m
  pub there : d < l.k + l.m
  pub at_rest : idle ≡ true
  pub here : in_mask absent d ≡ false
  pub not_plain : plainly_out l d ≡ false
  pub more : l.generation < most_generation

out_neither : (a b : Bool) → (a || b) ≡ false → (a ≡ false) × (b ≡ false)
out_neither true b e = absurd (true≢false e)
out_neither false b e = (refl, e)

pub out_done : (l : Label) (idle : Bool) (absent d room : ℕ) → out_answer l idle absent d room ≡ Ok tt → Goes l idle absent d
unfolding out_answer out_now
out_done l idle absent d room e =
    let p1 = spared (ltb l.m (ones (out_with l d))) _ TooFew e in
    let p2 = spared (leb (l.k + l.m) d) _ BadBlock p1.1 in
    let p3 = passed idle _ Busy p2.1 in
    let p4 = spared (out_now l absent d) _ NotNow p3.1 in
    let p5 = spared (ltb most_generation (l.generation + 1)) _ NotNow p4.1 in
    record {
      few = ltb-false _ _ p1.0;
      there = leb-false _ _ p2.0;
      at_rest = p3.0;
      here = (out_neither (in_mask absent d) (plainly_out l d) p4.0).0;
      not_plain = (out_neither (in_mask absent d) (plainly_out l d) p4.0).1;
      more = omega (arith, ltb-false most_generation (l.generation + 1) p5.0);
    }

pub take_done : (l : Label) (kind : Kind) (absent : ℕ) (img : List ℕ) (d room : ℕ) → take_answer l kind absent img d room ≡ Ok tt
    → (fits_of l ≡ true) × Goes l (is_idle kind) absent d
take_done l kind absent img d room e =
    let p = first_done (ready_of l kind absent img) (out_answer l (is_idle kind) absent d room) e in
    (ready_done l kind absent img p.0, out_done l (is_idle kind) absent d room p.1)

-- ---- labels that can be written

fit : (l : Label) → l.k ≤ most_k → l.m ≤ most_m → in_range_with (geometry_of l) l.k ≡ true → l.slot < l.k + l.m → 1 ≤ l.generation
    → l.generation ≤ most_generation → l.out < 2 ^ (l.k + l.m) → rebuild_fits l ≡ true → fits_of l ≡ true
unfolding fits_of
fit l k m r s g h o b =
    both (leb l.k most_k) _ (le-leb _ _ k)
    (both (leb l.m most_m) _ (le-leb _ _ m)
    (both (in_range_with (geometry_of l) l.k) _ r
    (both (ltb l.slot (l.k + l.m)) _ (lt-ltb _ _ s)
    (both (leb 1 l.generation) _ (le-leb _ _ g)
    (both (leb l.generation most_generation) _ (le-leb _ _ h) (both (ltb l.out (2 ^ (l.k + l.m))) _ (lt-ltb _ _ o) b))))))

tests : (l : Label) → fits_of l ≡ true → (in_range_with (geometry_of l) l.k ≡ true) × (rebuild_fits l ≡ true)
unfolding fits_of
tests l e =
    let e2 = and_right (leb l.m most_m) _ (and_right (leb l.k most_k) _ e) in
    let e3 = and_right (in_range_with (geometry_of l) l.k) _ e2 in
    let e5 = and_right (leb 1 l.generation) _ (and_right (ltb l.slot (l.k + l.m)) _ e3) in (
      and_left (in_range_with (geometry_of l) l.k) _ e2,
      and_right (ltb l.out (2 ^ (l.k + l.m))) (rebuild_fits l) (and_right (leb l.generation most_generation) _ e5),
    )

-- with the number of any slot
pub fits_named : (l : Label) (d : ℕ) → fits_of l ≡ true → d < l.k + l.m → fits_of (named l d) ≡ true
unfolding rebuild_fits
fits_named l d e h =
    let f = fits_says l e in
    let t = tests l e in
    fit (named l d) f.few_data f.few_parity t.0 h f.from_one f.not_last f.out_below t.1

-- the label of generation 1
first_fits : (k m c S shelf : ℕ) → Shards k m → in_range (record { n = k + m; c = c; sectors = S }) ≡ true → fits_of (first_label k m c S shelf) ≡ true
unfolding in_range_with splits rebuild_fits
first_fits k m c S shelf s r =
    fit (first_label k m c S shelf) s.k_most_lem s.m_most_lem
    (both (in_range (record { n = k + m; c = c; sectors = S })) (splits (k + m) k) r
    (both (leb least_k k) _ (le-leb _ _ s.k_least_lem)
    (both (leb k most_k) _ (le-leb _ _ s.k_most_lem)
    (both (leb (k + least_m) (k + m)) (leb (k + m) (k + most_m)) (le-leb (k + least_m) (k + m) (omega (arith, s.m_least_lem)))
    (le-leb (k + m) (k + most_m) (omega (arith, s.m_most_lem)))))))
    (omega (arith, s.k_least_lem)) (omega arith) (omega arith) (pow_pos (k + m)) refl

or_right : (a b : Bool) → b ≡ true → (a || b) ≡ true
or_right true b e = refl
or_right false b e = e

-- one more slot out: the slot being rebuilt is still out
still : (l : Label) (d : ℕ) → rebuild_fits l ≡ true → rebuild_fits (next_label l (with_slot l.out d) l.rebuilding l.mark) ≡ true
unfolding rebuild_fits
still l d = by (eqb l.rebuilding no_slot)
  where
    n : ℕ
    n = l.k + l.m

    T : ℕ
    T = stripes_of (geometry_of l)

    by : (b : Bool) → cond b (eqb l.mark 0) (ltb l.rebuilding n && (in_mask l.out l.rebuilding && leb l.mark T)) ≡ true
        → cond b (eqb l.mark 0) (ltb l.rebuilding n && (in_mask (with_slot l.out d) l.rebuilding && leb l.mark T)) ≡ true
    by true e = e
    by false e =
        let u = and_right (ltb l.rebuilding n) _ e in
        both (ltb l.rebuilding n) _ (and_left (ltb l.rebuilding n) _ e)
        (both (in_mask (with_slot l.out d) l.rebuilding) _
        (in_with l.out d l.rebuilding
        ∙ or_right (eqb l.rebuilding d) (in_mask l.out l.rebuilding) (and_left (in_mask l.out l.rebuilding) (leb l.mark T) u))
        (and_right (in_mask l.out l.rebuilding) (leb l.mark T) u))

none : (l : Label) (out : ℕ) → rebuild_fits (next_label l out no_slot 0) ≡ true
unfolding rebuild_fits
none l out = refl

-- the label that takes slot d out, with the number of any slot
pub out_fits : (l : Label) (d e : ℕ) → fits_of l ≡ true → d < l.k + l.m → l.generation < most_generation → e < l.k + l.m
    → fits_of (named (outed l d) e) ≡ true
unfolding outed
out_fits l d e q hd hg he = by (eqb l.rebuilding d)
  where
    f : Fits l
    f = fits_says l q

    one : (rebuilding mark : ℕ) → rebuild_fits (next_label l (with_slot l.out d) rebuilding mark) ≡ true
        → fits_of (next_label l (with_slot l.out d) rebuilding mark) ≡ true
    one r k b =
        fit (next_label l (with_slot l.out d) r k) f.few_data f.few_parity (tests l q).0 f.on_shelf_lem (omega arith) (omega arith)
        (with_lt (l.k + l.m) l.out d f.out_below hd) b

    by : (b : Bool)
        → fits_of (named (cond {A = Label} b (next_label l (with_slot l.out d) no_slot 0) (next_label l (with_slot l.out d) l.rebuilding l.mark)) e) ≡ true
    by true = fits_named (next_label l (with_slot l.out d) no_slot 0) e (one no_slot 0 (none l (with_slot l.out d))) he
    by false = fits_named (next_label l (with_slot l.out d) l.rebuilding l.mark) e (one l.rebuilding l.mark (still l d (tests l q).1)) he

-- ---- what is accepted can be carried out

-- the steps take the state, and both its labels can be written on every slot
pub record Steps (s : State) : Type 0 where
  pub taken : sound s ≡ true
  pub now_fits : (d : ℕ) → d < s.now.k + s.now.m → fits_of (named s.now d) ≡ true
  pub next_fits : (d : ℕ) → d < s.now.k + s.now.m → fits_of (named s.next d) ≡ true

steps_of : (o : Outcome) (s t : State) → (o ≡ Ok tt → Steps t) → outcome_of (begun o t) ≡ Ok tt → Steps (state_of s (begun o t))
steps_of (Ok tt) s t f e = f refl
steps_of (Err why) s t f e = absurd (never why e)

created_steps : (k m c S shelf : ℕ) → fits_of (first_label k m c S shelf) ≡ true → 1 ≤ S → Steps (created k m c S shelf)
unfolding sound
created_steps k m c S shelf e some =
    record {
      taken = both (fits_of (first_label k m c S shelf)) _ e (lt-ltb 0 S some);
      now_fits = λ d h. fits_named (first_label k m c S shelf) d e h;
      next_fits = λ d h. fits_named (first_label k m c S shelf) d e h;
    }

pub create_steps : (s : State) (k m c S shelf : ℕ) (img : List ℕ) (room : ℕ)
    → outcome_of (create_of k m c S shelf img room) ≡ Ok tt → Steps (state_of s (create_of k m c S shelf img room))
create_steps s k m c S shelf img room =
    steps_of (create_answer k m c S img room) s (created k m c S shelf) (λ e.
    let p = (create_done k m c S img room e).0 in
    let r = shelf_range k m c S (length img) p in
    created_steps k m c S shelf (first_fits k m c S shelf (shelf_shards k m c S (length img) p) r) (omega (arith, (in_range_lem (record { n = k + m; c = c; sectors = S }) r).room)))

taken_steps : (s : State) (d : ℕ) → fits_of s.now ≡ true → Goes s.now (is_idle s.kind) s.absent d → Steps (took_out s d)
unfolding sound
taken_steps s d e g =
    record {
      taken = both (fits_of s.now) _ e (lt-ltb 0 s.now.sectors (omega (arith, (fits_says s.now e).range.room)));
      now_fits = λ i h. fits_named s.now i e h;
      next_fits = λ i h. out_fits s.now d i e g.there g.more h;
    }

pub out_steps : (s : State) (d : ℕ) (img : List ℕ) (room : ℕ) → outcome_of (take_out_of s d img room) ≡ Ok tt → Steps (state_of s (take_out_of s d img room))
out_steps s d img room =
    steps_of (take_answer s.now s.kind s.absent img d room) s (took_out s d) (λ e.
    let p = take_done s.now s.kind s.absent img d room e in taken_steps s d p.0 p.1)
