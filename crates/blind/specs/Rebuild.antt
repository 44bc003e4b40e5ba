-- BEGIN, AND GOING ON, WITH A REBUILD on images that are alike. Begin counts its slot as present: it looks at the labels on that disk,
-- and at no other absent slot. Assumes nothing.
use Rattle.std.specs.Prelude.{◌≡◌, refl, Bool, true, false, cond, ◌&&◌, ◌||◌, ℕ, ◌+◌, leb, ltb, Ok, Err}
use Rattle.std.proofs.Math.Path.{ap, ap₂, fun_ext}
use Rattle.std.proofs.Common.{◌∙◌, arith, eq-eqb}
use Rattle.std.proofs.Math.Bool.{not}
use mathlib.Core.List.{List}
use Rattle.std.proofs.Math.Dec.{eqb}
use Rattle.disk.specs.Limits.{most_n}
use Rattle.disk.specs.Mask.{in_mask, without_slot, in_without}
use Rattle.disk.specs.declared.geometry.Geometry.{Geometry}
use Rattle.disk.specs.Refusal.{Outcome}
use Rattle.label.specs.Fields.{geometry_of}
use Rattle.label.specs.Newest.{copy_of}
use Rattle.label.specs.Valid.{decode_of}
use Rattle.label.specs.Strange.{strange_of}
use Rattle.label.specs.declared.fields.Label.{Label}
use Rattle.label.proofs.Fits.{fits_says}
use Rattle.rounds.specs.Slot.{age_under, copy_age, sector_for}
use Rattle.shelf.specs.Act.{odd_sector}
use Rattle.stages.specs.declared.state.State.{State}
use Rattle.requests.specs.Begun.{begun, first, slots_but}
use Rattle.requests.specs.Ready.{is_idle}
use Rattle.rebuilds.specs.Readied.{foreign, odd_first, alien, prepared, wiped, gets_zeros}
use Rattle.rebuilds.specs.Begin.{begin_answer, asked_begin, only, begun_label, began_with, began, begin_of}
use Rattle.rebuilds.specs.On.{asked_on, on_answer, strips_on, some_contradict, went_on, on_of, on_label, on_marks, went_on_with, on_done, strips_within}
use Rattle.blind.specs.Alike.{Alike, alike_under, read_alike}
use Rattle.blind.specs.Shown.{some_same, contradicted_alike}
use Rattle.blind.specs.Start.{ready_alike}

-- ---- begin

-- what is present still is with slot d counted as present, and so is slot d
pub without_more : (absent d e : ℕ) → in_mask absent e ≡ false → in_mask (without_slot absent d) e ≡ false
without_more absent d e p = in_without absent d e ∙ ap (λ (b : Bool). not (eqb e d) && b) p ∙ none (not (eqb e d))
  where
    none : (b : Bool) → (b && false) ≡ false
    none true = refl
    none false = refl

without_own : (absent d : ℕ) → in_mask (without_slot absent d) d ≡ false
without_own absent d = in_without absent d d ∙ ap (λ (b : Bool). not b && in_mask absent d) (eq-eqb d d refl)

module _ (g : Geometry) (absent : ℕ) (x y : List ℕ) (h : Alike g absent x y) (l : Label) (d : ℕ) (here : in_mask absent d ≡ false) where
  foreign_alike : (s : ℕ) → foreign g x l d s ≡ foreign g y l d s
  unfolding foreign
  foreign_alike s = ap (λ (v : List ℕ). strange_of v l d s) (read_alike g absent x y h d s here)

  odd_alike : odd_first g x l d ≡ odd_first g y l d
  unfolding odd_first
  odd_alike = ap₂ (λ (p q : ℕ). not (ltb p q)) (foreign_alike 0) (foreign_alike 1)

  alien_alike : alien g x l d ≡ alien g y l d
  unfolding alien
  alien_alike = fun_ext (λ odd. ap (ltb 0) (foreign_alike (odd_sector odd)))

  age_alike : (s : ℕ) → copy_age g x l d s ≡ copy_age g y l d s
  unfolding copy_age copy_of
  age_alike s = ap (λ (v : List ℕ). age_under l (decode_of v d s)) (read_alike g absent x y h d s here)

  prepared_alike : prepared g x l d ≡ prepared g y l d
  unfolding prepared
  prepared_alike = ap (λ (q : ℕ). eqb q l.generation) (age_alike (sector_for l.generation))

  zeros_alike : gets_zeros g x l d ≡ gets_zeros g y l d
  unfolding gets_zeros wiped
  zeros_alike =
      λ i. not (prepared_alike i) && (ltb 0 (age_alike (sector_for (l.generation + 1)) i) || eqb (age_alike (sector_for l.generation) i) 0)

-- WHETHER BEGIN IS ACCEPTED, and which refusal it gives, no absent slot's bytes decide, not even its own slot's
pub begin_answer_blind : (s : State) (d room : ℕ) (x y : List ℕ) → Alike (geometry_of s.now) s.absent x y → begin_answer s.now s.kind s.absent x d room ≡ begin_answer s.now s.kind s.absent y d room
begin_answer_blind s d room x y h = ap (λ (o : Outcome). first o (asked_begin s.now (is_idle s.kind) s.absent d room)) (ready_alike s x y h)

-- BEGIN answers the same and hands out the same state
pub begin_blind : (s : State) (d room : ℕ) (x y : List ℕ) → Alike (geometry_of s.now) (without_slot s.absent d) x y → begin_of s d x room ≡ begin_of s d y room
begin_blind s d room x y h =
    ap₂ (λ (o : Outcome) (t : State). begun o t) (begin_answer_blind s d room x y (alike_under g then s.absent x y (without_more s.absent d) h)) state
  where
    g : Geometry
    g = geometry_of s.now

    then : ℕ
    then = without_slot s.absent d

    here : in_mask then d ≡ false
    here = without_own s.absent d

    odd : odd_first g x s.now d ≡ odd_first g y s.now d
    odd = odd_alike g then x y h s.now d here

    foreigns : alien g x s.now d ≡ alien g y s.now d
    foreigns = alien_alike g then x y h s.now d here

    state : began s d x ≡ began s d y
    state =
        λ i. began_with s (begun_label s.now d) then (record {
          present = cond (leb g.n most_n) (slots_but then g.n) 0;
          parts = only d (foreigns i (odd i));
          late = only d (foreigns i (not (odd i)));
          prep = only d (not (prepared_alike g then x y h s.now d here i));
          zeroed = only d (zeros_alike g then x y h s.now d here i);
          redo = only d true;
          stripe = 0;
          forward = odd i;
        })

-- ---- on

contradict_alike : (s : State) (b room : ℕ) (x y : List ℕ) → Alike (geometry_of s.now) s.absent x y → on_answer s.now s.kind s.absent x room ≡ Ok tt
    → some_contradict s.now s.absent x b ≡ some_contradict s.now s.absent y b
unfolding some_contradict
contradict_alike s b room x y h e =
    let f = fits_says s.now (on_done s.now s.kind s.absent x room e).fits in
    some_same (strips_on s.now b) _ _
    (λ i hi. contradicted_alike (geometry_of s.now) s.absent x y h f.range s.now.k (omega arith) s.now (s.now.mark + i)
    (omega (arith, strips_within s.now b f.mark_below)))

-- GOING ON answers the same and hands out the same state
pub on_blind : (s : State) (b room : ℕ) (x y : List ℕ) → Alike (geometry_of s.now) s.absent x y → on_of s b x room ≡ on_of s b y room
on_blind s b room x y h =
    by (on_answer s.now s.kind s.absent x room) refl
    ∙ ap (λ (o : Outcome). begun (first o (asked_on s.now (is_idle s.kind) s.absent room)) (went_on s b y)) (ready_alike s x y h)
  where
    by : (o : Outcome) → on_answer s.now s.kind s.absent x room ≡ o → begun o (went_on s b x) ≡ begun o (went_on s b y)
    by (Ok tt) e =
        ap (λ (c : Bool). Ok (went_on_with s (on_label s.now b) (on_marks s.now s.absent b c))) (contradict_alike s b room x y h e)
    by (Err why) e = refl
