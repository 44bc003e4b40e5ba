-- BEGIN, ACCEPTED AT REST, is accepted by the protocol's program too: it begins with a state in order, beside which the program remembers
-- that same request. Asked is that the slot, if it is absent, is not looked at, as the protocol's invariant has it at rest; so it is out.
-- Assumes nothing.
use Rattle.std.specs.Prelude.{◌≡◌, Bool, cond, ◌&&◌, ◌||◌, List, [], ◌∷◌, eqb, ltb, leb, Ok}
use Rattle.std.proofs.Math.Path.{refl}
use Rattle.std.proofs.Common.{sym, ap, ◌∙◌, true≢false, arith}
use Rattle.std.proofs.Math.Bool.{true, false, not}
use Prim.Native.Nat.{ℕ, suc, ◌+◌, ◌<◌, ◌^◌}
use borrow.Author.Tests.{eq-eqb, ne_eqb, eqb-true, lt-ltb, le-ltb, le-leb, leb-false}
use Rattle.disk.specs.Limits.{most_k, most_m}
use Rattle.disk.specs.Tests.{and_left, and_right, both}
use Rattle.disk.specs.Geometry.{in_range_with, stripes_of}
use Rattle.disk.specs.Mask.{in_mask, with_slot, in_with, in_without, with_lt}
use Rattle.label.specs.Fields.{no_slot, most_generation, geometry_of, rebuild_fits, fits_of}
use Rattle.label.specs.Newest.{same_shelf}
use Rattle.label.specs.declared.fields.Label as bytes
use Rattle.label.proofs.Fits.{fits_says}
use Rattle.protocol.specs.Label as protocol
use Rattle.protocol.specs.Program.{BAD_BLOCK, BUSY, NOT_NOW, clear, first, Own, begin, may}
use Rattle.protocol.specs.Pairs.{no_sets}
use Rattle.codecs.specs.Shelf.{Shelf, slots, size}
use Rattle.codecs.specs.Labels.{slot_meant, label_of, ours}
use Rattle.codecs.proofs.Labels.{labels}
use Rattle.codecs.proofs.Records.{records}
use Rattle.codecs.specs.Media.{stamps}
use Rattle.codecs.proofs.Media.{medium}
use Rattle.shards.proofs.Even.{any_code, any_sectors}
use Rattle.stages.specs.declared.state.State.{State}
use Rattle.stages.specs.declared.state.Kind.{Kind}
use Rattle.requests.specs.Begun.{work_bytes}
use Rattle.requests.specs.Ready.{is_idle, ready_of}
use Rattle.requests.specs.Accepted.{ready_done}
use Rattle.rebuilds.specs.Judge.{too_few, last_one, sized, judged_done, first_done, one_more}
use Rattle.rebuilds.specs.Begin.{lacks, other_rebuilt, cannot_begin, asked_begin, begin_answer, begun_label, began}
use Rattle.refine.specs.Disks.{Disks}
use Rattle.refine.specs.Tied.{own_of}
use Rattle.refine.specs.Requests.{n_is}

-- ---- the label

pub begun_fits : (l : bytes.Label) (d : ℕ) → fits_of l ≡ true → d < l.k + l.m → d < no_slot → l.generation < most_generation → fits_of (begun_label l d) ≡ true
unfolding fits_of rebuild_fits
begun_fits l d e i small more =
    let w = fits_says l e in
    let e1 = and_right (leb l.k most_k) _ e in
    let e2 = and_right (leb l.m most_m) _ e1 in
    let e3 = and_right (in_range_with (geometry_of l) l.k) _ e2 in
    let out : in_mask (with_slot l.out d) d ≡ true = in_with l.out d d ∙ ap (λ (b : Bool). b || in_mask l.out d) (eq-eqb d d refl) in
    let r : cond (eqb d no_slot) (eqb 0 0) (ltb d (l.k + l.m) && (in_mask (with_slot l.out d) d && leb 0 (stripes_of (geometry_of l)))) ≡ true =
    ap (λ (b : Bool). cond b (eqb 0 0) (ltb d (l.k + l.m) && (in_mask (with_slot l.out d) d && leb 0 (stripes_of (geometry_of l))))) (ne_eqb d no_slot (λ q. omega arith))
    ∙ both (ltb d (l.k + l.m)) _ (lt-ltb d (l.k + l.m) i) (both (in_mask (with_slot l.out d) d) _ out (le-leb 0 (stripes_of (geometry_of l)) (omega arith))) in
    both (leb l.k most_k) _ (and_left (leb l.k most_k) _ e)
    (both (leb l.m most_m) _ (and_left (leb l.m most_m) _ e1)
    (both (in_range_with (geometry_of l) l.k) _ (and_left (in_range_with (geometry_of l) l.k) _ e2)
    (both (ltb l.slot (l.k + l.m)) _ (and_left (ltb l.slot (l.k + l.m)) _ e3)
    (both (leb 1 (l.generation + 1)) _ (le-leb 1 (l.generation + 1) (omega arith))
    (both (leb (l.generation + 1) most_generation) _ (le-leb (l.generation + 1) most_generation (omega arith))
    (both (ltb (with_slot l.out d) (2 ^ (l.k + l.m))) _ (lt-ltb (with_slot l.out d) (2 ^ (l.k + l.m)) (with_lt (l.k + l.m) l.out d w.out_below i)) r))))))

-- ---- what is accepted

three : (a b c : Bool) → (not a || (b || c)) ≡ false → (a ≡ true) × (b ≡ false) × (c ≡ false)
three true false false e = (refl, refl, refl)
three true false true e = absurd (true≢false e)
three true true c e = absurd (true≢false e)
three false b c e = absurd (true≢false e)

pub record Goes (l : bytes.Label) (kind : Kind) (absent d room : ℕ) : Type 0 where
  pub fits : fits_of l ≡ true
  pub there : d < l.k + l.m
  pub at_rest : is_idle kind ≡ true
  pub lacking : lacks l absent d ≡ true
  pub alone : other_rebuilt l d ≡ false
  pub more : l.generation < most_generation
  pub whole : room ≡ work_bytes (l.k + l.m) l.c

pub begin_goes : (l : bytes.Label) (kind : Kind) (absent : ℕ) (img : List ℕ) (d room : ℕ) → begin_answer l kind absent img d room ≡ Ok tt → Goes l kind absent d room
unfolding asked_begin cannot_begin sized
begin_goes l kind absent img d room e =
    let q = first_done (ready_of l kind absent img) (asked_begin l (is_idle kind) absent d room) e in
    let p = judged_done (too_few l absent) (leb (l.k + l.m) d) (is_idle kind) (cannot_begin l absent d) (sized l room) q.1 in
    let h = three (lacks l absent d) (other_rebuilt l d) (last_one l) p.time in
    record {
      fits = ready_done l kind absent img q.0;
      there = leb-false (l.k + l.m) d p.there;
      at_rest = p.free;
      lacking = h.0;
      alone = h.1;
      more = one_more l h.2;
      whole = eqb-true room (work_bytes (l.k + l.m) l.c) p.room;
    }

module _ (z : Shelf) (img : List ℕ) (disks : Disks z img) (s : State) (own : ours z s.now ≡ true) (d room : ℕ) (e : begin_answer s.now s.kind s.absent img d room ≡ Ok tt)
    (dark : in_mask s.absent d ≡ true → protocol.looked (size z) (label_of z s.now) d ≡ true → ⊥) where
  abbrev pub l : bytes.Label
  l = s.now

  abbrev pub o : Own
  o = own_of z s l

  pub goes : Goes l s.kind s.absent d room
  goes = begin_goes l s.kind s.absent img d room e

  pub there : d < slots z
  there = omega (arith, n_is z img disks s own d, goes.there)

  -- the slot is out
  pub is_out : in_mask l.out d ≡ true
  unfolding lacks
  is_out = by (in_mask l.out d) refl (in_mask s.absent d) refl goes.lacking
    where
      by : (a : Bool) → in_mask l.out d ≡ a → (b : Bool) → in_mask s.absent d ≡ b → (a || b) ≡ true → a ≡ true
      by true q b p h = refl
      by false q true p h = absurd (dark p (both (ltb d (slots z)) _ (lt-ltb d (slots z) there) (ap (λ (x : Bool). not (x && not (eqb d (slot_meant (slots z) l.rebuilding)))) q)))
      by false q false p h = h

  -- the state with which it begins
  abbrev pub t' : State
  t' = began s d img

  pub begun_ours : ours z (begun_label l d) ≡ true
  unfolding same_shelf
  begun_ours = own

  -- no slot is absent that was not
  pub fewer_absent : (x : ℕ) → x < slots z → in_mask t'.absent x ≡ true → o.absent x ≡ true
  fewer_absent x i a = ap (λ (b : Bool). b || not (ltb x (slots z))) (and_right (not (eqb x d)) (in_mask s.absent x) (sym (in_without s.absent d x) ∙ a))

  alone_is : (ltb (label_of z l).rebuilding (slots z) && not (eqb (label_of z l).rebuilding d)) ≡ false
  unfolding other_rebuilt
  alone_is = by (eqb l.rebuilding no_slot) goes.alone
    where
      r : ℕ
      r = l.rebuilding

      ends : (a b : Bool) → b ≡ false → (a && b) ≡ false
      ends true b h = h
      ends false b h = refl

      by : (b : Bool) → (not b && not (eqb r d)) ≡ false → (ltb (cond b (slots z) r) (slots z) && not (eqb (cond b (slots z) r) d)) ≡ false
      by true h = ap (λ (x : Bool). x && not (eqb (slots z) d)) (le-ltb (slots z) (slots z) (omega arith))
      by false h = ends (ltb r (slots z)) (not (eqb r d)) h

  left : leb (suc l.generation) (any_sectors z).greatest ≡ true
  unfolding any_sectors medium
  left = le-leb (suc l.generation) most_generation (omega (arith, goes.more))

  pub begin_clear : may (size z) (no_sets (slots z)) (labels z) (records z) (any_code z) stamps (any_sectors z) false o (begin d) ≡ clear
  begin_clear = λ i.
      first
      (record { why = BAD_BLOCK; holds = not (lt-ltb d (slots z) there i) }
      ∷ record { why = BUSY; holds = false } ∷ record { why = NOT_NOW; holds = not (is_out i) || (alone_is i || not (left i)) } ∷ [])
