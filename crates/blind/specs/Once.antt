-- WHERE A CONTRACT IS NO FUNCTION IT STILL ALLOWS ONE RESULT ONLY, on lists of bytes: what a scrub finds, what a write and a repair hand
-- out and leave in the work area. Assumes nothing.
use Rattle.std.specs.Prelude.{◌≡◌, Bool, true, false, cond, eqb, length, get_or, take, drop, Ok, Err}
use Rattle.std.proofs.Math.Path.{refl, subst}
use Rattle.std.proofs.Common.{sym, ap, ap₂, ◌∙◌, ⊎_elim, mul-le-mul_right, arith, lit<, take-append-drop, get_or-take, get_or-drop, eqb-true, true≢false}
use mathlib.Core.List.{List, [], ◌∷◌, ◌++◌}
use Prim.Native.Nat.{ℕ, ◌+◌, ◌-◌, ◌*◌, ◌≤◌, ◌<◌, ◌/◌, ◌%◌}
use Rattle.std.proofs.Math.ListN.{get_or-eq_default}
use Rattle.std.proofs.lemmas.Bool.{eqb-false}
use Rattle.disk.specs.Limits.{sector_bytes}
use Rattle.disk.specs.Geometry.{block_inside, InRange, Splits}
use Rattle.disk.specs.Image.{lt_or_ge}
use Rattle.disk.specs.declared.geometry.Geometry.{Geometry}
use Rattle.disk.specs.declared.refusal.Refusal.{Refusal}
use Rattle.disk.specs.declared.refusal.Refusal.TheVariants.{NotNow}
use Rattle.disk.specs.Refusal.{Outcome}
use Rattle.codeword.specs.Stripe.{byte_at, AgreeOff}
use Rattle.codeword.specs.Unique.{AllBytes}
use Rattle.codeword.proofs.Unique.{unique}
use Rattle.code.specs.Shape.{shaped_of}
use Rattle.code.specs.Stripes.{Said, Says, Mends, Repaired}
use Rattle.code.specs.Exact.{said_one, scrub_sound, scrub_accused, scrub_unsound, repaired_only}
use Rattle.code.specs.declared.Verdict.{Verdict}
use Rattle.code.specs.declared.Verdict.TheVariants as verdict
use Rattle.position.specs.Position.{parity_ext}
use Rattle.label.specs.Fields.{geometry_of, fits_of}
use Rattle.label.proofs.Fits.{fits_says}
use Rattle.label.specs.declared.fields.Label.{Label}
use Rattle.requests.specs.Begun.{Begun, begun, outcome_of, begun_says, first}
use Rattle.stages.specs.declared.state.State.{State}
use Rattle.strips.specs.Seen.{shard_bytes, row_seen}
use Rattle.strips.specs.Answers.{few_lost}
use Rattle.strips.specs.Laws.{row_bytes, row_shaped, code_range}
use Rattle.strips.specs.Whole.{stripe_seen, none_lost, changes, PreparedBy}
use Rattle.strips.specs.Prepared.{prepared_length, prepared_sound, prepared_block, prepared_others, prepared_shown}
use Rattle.strips.specs.Whole.{Scrubbed}
use Rattle.blocks.specs.Slots.{all_slots, there, changed_shards}
use Rattle.blocks.specs.Answers.{never}
use Rattle.blocks.specs.Read.{half_of, shows_block}
use Rattle.blocks.specs.Write.{write_answer, changing, AfterWrite, write_done}
use Rattle.blocks.specs.Scrub as blocks_scrub
use Rattle.blocks.specs.Repair.{stripe_bytes, may_repair, sized_answer, mend_answer, mended, leaves, Repairs, may_done}
use Rattle.blind.specs.Small.{small_front, small_take, small_seen, shards_same}

-- ---- the verdict

says_once : (k m len : ℕ) (s : List ℕ) → shaped_of k m len (length s) ≡ true → AllBytes s → (v w : Said) → Says k m len s v → Says k m len s w → v ≡ w
says_once k m len s fits b (Ok verdict.Sound) w h e = sym (scrub_sound k m len s fits b w e h.1)
says_once k m len s fits b (Ok (verdict.Accused r)) w h e = sym (scrub_accused k m len s fits b w e h.2 h.1 r h.3)
says_once k m len s fits b (Ok verdict.Unsound) w h e = sym (scrub_unsound k m len s fits b w e h.1 h.2)
says_once k m len s fits b (Err x) w h e = absurd (true≢false (sym fits ∙ h.0))

-- ---- a mended stripe, at a data shard j that is bytes

module _ (k m len : ℕ) (before : List ℕ) (fits : length before ≡ (k + m) * len) (small : AllBytes before) (r j p : ℕ) (hp : p < len) (same : eqb r j ≡ true) where
  all_small : (x : List ℕ) → length x ≡ length before → AgreeOff (k + m) len (r ∷ []) before x → byte_at len x p j < 256 → (q : ℕ) → byte_at len x p q < 256
  all_small x e ag hj q = ⊎_elim (λ (l : q < k + m). at l (eqb r q) refl) beyond (lt_or_ge q (k + m))
    where
      at : q < k + m → (b : Bool) → eqb r q ≡ b → byte_at len x p q < 256
      at l true f = subst (λ (i : ℕ). byte_at len x p i < 256) (sym (eqb-true r j same) ∙ eqb-true r q f) hj
      at l false f = subst (λ (v : ℕ). v < 256) (ag q l (ap (λ (c : Bool). cond c true false) f) p hp) (small (q * len + p))

      beyond : k + m ≤ q → byte_at len x p q < 256
      beyond l = subst (λ (v : ℕ). v < 256) (sym (get_or-eq_default x 0 {n = q * len + p} (omega (arith, e, fits, mul-le-mul_right len l)))) (lit< tt)

mends_once : (n k len : ℕ) → Splits n k → (before : List ℕ) → length before ≡ n * len → AllBytes before → (v : Said) (x y : List ℕ)
    → Mends k (n - k) len v before x → Mends k (n - k) len v before y → (j p : ℕ) → j < k → p < len → byte_at len x p j < 256 → byte_at len y p j < 256
    → byte_at len x p j ≡ byte_at len y p j
mends_once n k len s before fits small (Err why) x y h g j p hj hp bx by = ap (λ (z : List ℕ). byte_at len z p j) (h ∙ sym g)
mends_once n k len s before fits small (Ok verdict.Sound) x y h g j p hj hp bx by = ap (λ (z : List ℕ). byte_at len z p j) (h ∙ sym g)
mends_once n k len s before fits small (Ok verdict.Unsound) x y h g j p hj hp bx by = ap (λ (z : List ℕ). byte_at len z p j) (h ∙ sym g)
mends_once n k len s before fits small (Ok (verdict.Accused r)) x y h g j p hj hp bx by = at (eqb r j) refl
  where
    all : k + (n - k) ≡ n
    all = omega (arith, s.parity)

    whole : length before ≡ (k + (n - k)) * len
    whole = fits ∙ ap (λ (i : ℕ). i * len) (sym all)

    at : (b : Bool) → eqb r j ≡ b → byte_at len x p j ≡ byte_at len y p j
    at true e =
        unique k (n - k) (code_range n k s) (r ∷ []) (omega (arith, s.parity)) (byte_at len x p) (byte_at len y p)
        (all_small k (n - k) len before whole small r j p hp e x h.0 h.1 bx) (all_small k (n - k) len before whole small r j p hp e y g.0 g.1 by) (h.2 p hp) (g.2 p hp)
        (λ q hq o. sym (h.1 q hq o p hp) ∙ g.1 q hq o p hp) j (omega arith)
    at false e = let o = ap (λ (c : Bool). cond c true false) e in sym (h.1 j (omega arith) o p hp) ∙ g.1 j (omega arith) o p hp

-- ---- a prepared write

module _ (g : Geometry) (k : ℕ) (img : List ℕ) (there t i : ℕ) (bytes : List ℕ) (range : InRange g) (split : Splits g.n k) (hi : i < k)
    (whole : length bytes ≡ shard_bytes g) (few : few_lost g.n k t there ≡ true) (small : AllBytes img) where
  abbrev len : ℕ
  len = shard_bytes g

  abbrev before : List ℕ
  before = stripe_seen g img there t

  before_length : length before ≡ g.n * len
  before_length = row_bytes g img there 0 [] t 0 g.c

  before_small : AllBytes before
  before_small = small_seen g img there 0 [] t 0 g.c small (λ j. lit< tt)

  shaped : shaped_of k (g.n - k) len (length before) ≡ true
  shaped = row_shaped g.n k len (length before) split (omega (arith, range.some)) (omega (arith, range.short)) before_length

  module _ (a b : Bool) (x y : List ℕ) (v : PreparedBy g k img there t i bytes a x) (w : PreparedBy g k img there t i bytes b y) (bx : AllBytes x) (by : AllBytes y) where
    other_x : (j p : ℕ) → j < k → (j ≡ i → ⊥) → p < len → byte_at len x p j ≡ byte_at len v.stripe p j
    other_x j p hj o hp = prepared_others g k img there t i bytes a x v range split hi whole j hj o p hp

    other_y : (j p : ℕ) → j < k → (j ≡ i → ⊥) → p < len → byte_at len y p j ≡ byte_at len w.stripe p j
    other_y j p hj o hp = prepared_others g k img there t i bytes b y w range split hi whole j hj o p hp

    restored_once : (a ≡ b) × ((j p : ℕ) → j < k → (j ≡ i → ⊥) → p < len → byte_at len v.stripe p j ≡ byte_at len w.stripe p j)
    restored_once = go (none_lost g.n t there) refl
      where
        go : (c : Bool) → none_lost g.n t there ≡ c → (a ≡ b) × ((j p : ℕ) → j < k → (j ≡ i → ⊥) → p < len → byte_at len v.stripe p j ≡ byte_at len w.stripe p j)
        go true e =
            let h = v.restored.repaired e in
            let u = w.restored.repaired e in
            let q = says_once k (g.n - k) len before shaped before_small (Ok h.0) (Ok u.0) h.1.says u.1.says in (
              h.2 ∙ ap changes (said_one q) ∙ sym u.2,
              λ j p hj o hp. mends_once g.n k len split before before_length before_small (Ok u.0) v.stripe w.stripe
                  (subst (λ (z : Said). Mends k (g.n - k) len z before v.stripe) q h.1.mends) u.1.mends j p hj hp
                  (subst (λ (z : ℕ). z < 256) (other_x j p hj o hp) (bx (j * len + p))) (subst (λ (z : ℕ). z < 256) (other_y j p hj o hp) (by (j * len + p))),
            )
        go false e = (
          (v.restored.rebuilt e).2 ∙ sym (w.restored.rebuilt e).2,
          λ j p hj o hp.
              let hn : j < g.n = omega (arith, split.parity) in
              sym (get_or-take len (drop (j * len) v.stripe) p 0 hp ∙ get_or-drop (j * len) v.stripe p 0)
              ∙ ap (λ (z : List ℕ). get_or z p 0) (prepared_shown g k img there t i bytes a x v range split hi whole e few j hn
              ∙ sym (prepared_shown g k img there t i bytes b y w range split hi whole e few j hn))
              ∙ (get_or-take len (drop (j * len) w.stripe) p 0 hp ∙ get_or-drop (j * len) w.stripe p 0),
        )

    data_once : (j p : ℕ) → j < k → p < len → byte_at len x p j ≡ byte_at len y p j
    data_once j p hj hp = go (eqb j i) refl
      where
        go : (c : Bool) → eqb j i ≡ c → byte_at len x p j ≡ byte_at len y p j
        go true e =
            let at = eqb-true j i e in
            ap (byte_at len x p) at ∙ prepared_block g k img there t i bytes a x v range split hi whole p hp
            ∙ sym (ap (byte_at len y p) at ∙ prepared_block g k img there t i bytes b y w range split hi whole p hp)
        go false e = let o = eqb-false j i e in other_x j p hj o hp ∙ restored_once.1 j p hj o hp ∙ sym (other_y j p hj o hp)

    shard_once : (r p : ℕ) → r < g.n → p < len → byte_at len x p r ≡ byte_at len y p r
    shard_once r p hr hp = ⊎_elim (λ (l : r < k). data_once r p l hp) parity (lt_or_ge r k)
      where
        parity : k ≤ r → byte_at len x p r ≡ byte_at len y p r
        parity l =
            let j : ℕ = r - k in
            let q : r ≡ k + j = omega arith in
            let hj : j < g.n - k = omega arith in
            ap (byte_at len x p) q ∙ prepared_sound g k img there t i bytes a x v range split hi whole p hp j hj
            ∙ parity_ext k (g.n - k) j (byte_at len x p) (byte_at len y p) (λ d hd. data_once d p hd hp)
            ∙ sym (ap (byte_at len y p) q ∙ prepared_sound g k img there t i bytes b y w range split hi whole p hp j hj)

    prepared_once : (a ≡ b) × (x ≡ y)
    prepared_once = (
      restored_once.0,
      shards_same g.n len x y (omega (arith, range.some)) (prepared_length g k img there t i bytes a x v range split hi whole)
          (prepared_length g k img there t i bytes b y w range split hi whole) shard_once,
    )

-- WHAT A WRITE HANDS OUT AND LEAVES
pub write_once : (o : Outcome) (s : State) (block : ℕ) (bytes img work : List ℕ) → o ≡ write_answer s.now s.kind s.absent s.count img block (length bytes) (length work)
    → AllBytes img → (t u : State) (x y : List ℕ) → AfterWrite o s block bytes img work t x → AfterWrite o s block bytes img work u y → AllBytes x → AllBytes y → (t ≡ u) × (x ≡ y)
unfolding half_of
write_once (Ok tt) s block bytes img work e small t u x y v w bx by =
    let l : Label = s.now in
    let g : Geometry = geometry_of l in
    let H : ℕ = (l.k + l.m) * (l.c * sector_bytes) in
    let c = (write_done l s.kind s.absent s.count img block bytes work (sym e)).0 in
    let z = shows_block l s.absent img work block bytes c in
    let f = fits_says l c.fits in
    let hi : block % l.k < l.k = (block_inside g l.k block (omega (arith, f.split.least)) c.inside).1 in
    let p = prepared_once g l.k img (there g l s.absent (block / l.k)) (block / l.k) (block % l.k) bytes f.range f.split hi c.sized z.few small
    v.all w.all (take H x) (take H y) v.prepared.stripe w.prepared.stripe (small_take H x bx) (small_take H y by) in (
      v.becomes ∙ ap (λ (a : Bool). changing s (block / l.k) (changed_shards (l.k + l.m) l.k (block % l.k) a)) p.0 ∙ sym w.becomes,
      sym (take-append-drop H x) ∙ ap₂ (λ (a b : List ℕ). a ++ b) p.1 (v.prepared.rest ∙ sym w.prepared.rest) ∙ take-append-drop H y,
    )
write_once (Err why) s block bytes img work e small t u x y v w bx by = (v.0 ∙ sym w.0, v.1 ∙ sym w.1)

-- ---- scrubs

-- the refusal of a scrub that is refused
refused_once : (x y : Refusal) → ◌≡◌ {A = Outcome} (Err x) (Err y) → ◌≡◌ {A = Scrubbed} (Err x) (Err y)
refused_once x y e = cc

-- WHAT A SCRUB FINDS
pub scrub_once : (s : State) (t over : ℕ) (img work : List ℕ) → AllBytes img → AllBytes work → (x y : Scrubbed)
    → blocks_scrub.ScrubbedBy (blocks_scrub.scrub_answer s.now s.kind s.absent t (length img) (length work)) (blocks_scrub.SaysOf s.now s.absent over img work t) x
    → blocks_scrub.ScrubbedBy (blocks_scrub.scrub_answer s.now s.kind s.absent t (length img) (length work)) (blocks_scrub.SaysOf s.now s.absent over img work t) y
    → x ≡ y
unfolding half_of
scrub_once s t over img work small sw (Ok v) (Ok w) h e =
    let l : Label = s.now in
    let g : Geometry = geometry_of l in
    let len : ℕ = l.c * sector_bytes in
    let f = fits_says l (blocks_scrub.scrub_done l s.kind s.absent t img work h.0).lies.fits in
    let kept : List ℕ = take ((l.k + l.m) * (l.c * sector_bytes)) work in
    let row : List ℕ = row_seen g img (there g l s.absent t) over kept t 0 l.c in
    let fits : shaped_of l.k (l.k + l.m - l.k) len (length row) ≡ true =
    row_shaped (l.k + l.m) l.k len (length row) f.split (omega (arith, f.range.some)) (omega (arith, f.range.short)) (row_bytes g img (there g l s.absent t) over kept t 0 l.c) in
    ap Ok (said_one (says_once l.k (l.k + l.m - l.k) len row fits
    (small_seen g img (there g l s.absent t) over kept t 0 l.c small (small_take ((l.k + l.m) * (l.c * sector_bytes)) work sw)) (Ok v) (Ok w) h.1 e.1))
scrub_once s t over img work small sw (Ok v) (Err y) h e = absurd (never y (sym e ∙ h.0))
scrub_once s t over img work small sw (Err x) (Ok w) h e = absurd (never x (sym h ∙ e.0))
scrub_once s t over img work small sw (Err x) (Err y) h e = refused_once x y (sym h ∙ e)

-- a stripe of the shelf, all its slots there
module _ (l : Label) (img : List ℕ) (t over : ℕ) (kept : List ℕ) (fits : fits_of l ≡ true) (small : AllBytes img) (sk : AllBytes kept) where
  abbrev row : List ℕ
  row = row_seen (geometry_of l) img (all_slots (l.k + l.m)) over kept t 0 l.c

  row_small : AllBytes row
  row_small = small_seen (geometry_of l) img (all_slots (l.k + l.m)) over kept t 0 l.c small sk

  row_whole : length row ≡ (l.k + l.m) * (l.c * sector_bytes)
  row_whole = row_bytes (geometry_of l) img (all_slots (l.k + l.m)) over kept t 0 l.c

  row_fits : shaped_of l.k l.m (l.c * sector_bytes) (length row) ≡ true
  row_fits =
      let f = fits_says l fits in
      let e : l.k + l.m - l.k ≡ l.m = omega arith in
      subst (λ (m : ℕ). shaped_of l.k m (l.c * sector_bytes) (length row) ≡ true) e
      (row_shaped (l.k + l.m) l.k (l.c * sector_bytes) (length row) f.split (omega (arith, f.range.some)) (omega (arith, f.range.short)) row_whole)

  row_says : (v w : Said) → Says l.k l.m (l.c * sector_bytes) row v → Says l.k l.m (l.c * sector_bytes) row w → v ≡ w
  row_says v w = says_once l.k l.m (l.c * sector_bytes) row row_fits row_small v w

-- ---- repair

-- WHAT A REPAIR ANSWERS, HANDS OUT AND LEAVES
module _ (s : State) (t : ℕ) (img work : List ℕ) (small : AllBytes img) (b c : Begun) (x y : List ℕ) (v : Repairs s t img work b x) (w : Repairs s t img work c y)
    (bx : AllBytes x) (by : AllBytes y) where
  abbrev l : Label
  l = s.now

  abbrev may : Outcome
  may = may_repair s.now s.kind s.absent s.count t img

  left_x : (o : Outcome) → outcome_of b ≡ o → x ≡ leaves o l v.stripe work
  left_x o e = v.left ∙ ap (λ (p : Outcome). leaves p l v.stripe work) e

  left_y : (o : Outcome) → outcome_of c ≡ o → y ≡ leaves o l w.stripe work
  left_y o e = w.left ∙ ap (λ (p : Outcome). leaves p l w.stripe work) e

  -- refused before the stripe is looked at
  turned_away : (why : Refusal) → may ≡ Err why → (b ≡ c) × (x ≡ y)
  turned_away why e =
      let at : (f : Verdict) → begun (first may (mend_answer f l (length work))) (mended s t f) ≡ begun (Err why) s =
      λ f. ap (λ (o : Outcome). begun (first o (mend_answer f l (length work))) (mended s t f)) e in
      let p = v.answers ∙ at v.found in
      let q = w.answers ∙ at w.found in
      (p ∙ sym q, left_x (Err why) (ap (λ (z : Begun). outcome_of z) p) ∙ sym (left_y (Err why) (ap (λ (z : Begun). outcome_of z) q)))

  module _ (done : may ≡ Ok tt) where
    fits : fits_of l ≡ true
    fits = (may_done s img t done).lies.fits

    empty_small : AllBytes []
    empty_small i = lit< tt

    found_once : v.found ≡ w.found
    found_once = said_one (row_says l img t 0 [] fits small empty_small (Ok v.found) (Ok w.found) (v.repaired done).0.says (w.repaired done).0.says)

    outcome_x : outcome_of b ≡ mend_answer v.found l (length work)
    outcome_x =
        ap (λ (z : Begun). outcome_of z) v.answers ∙ begun_says (first may (mend_answer v.found l (length work))) (mended s t v.found)
        ∙ ap (λ (o : Outcome). first o (mend_answer v.found l (length work))) done

    outcome_y : outcome_of c ≡ mend_answer w.found l (length work)
    outcome_y =
        ap (λ (z : Begun). outcome_of z) w.answers ∙ begun_says (first may (mend_answer w.found l (length work))) (mended s t w.found)
        ∙ ap (λ (o : Outcome). first o (mend_answer w.found l (length work))) done

    -- the mended stripe, where a shard is accused
    stripe_once : (r : ℕ) → v.found ≡ verdict.Accused r → w.found ≡ verdict.Accused r → AllBytes v.stripe → AllBytes w.stripe → v.stripe ≡ w.stripe
    unfolding stripe_bytes
    stripe_once r e f sx sy =
        let len : ℕ = l.c * sector_bytes in
        let before : List ℕ = stripe_seen (geometry_of l) img (all_slots (l.k + l.m)) t in
        let p = subst (λ (z : Verdict). Repaired l.k l.m len (Ok z) before v.stripe) e (v.repaired done).0 in
        let q = subst (λ (z : Verdict). Repaired l.k l.m len (Ok z) before w.stripe) f (w.repaired done).0 in
        let a = repaired_only l.k l.m len before (row_fits l img t 0 [] fits small empty_small) (row_small l img t 0 [] fits small empty_small) r v.stripe w.stripe p sx sy
        q.mends.2 q.mends.1 in
        shards_same (l.k + l.m) len v.stripe w.stripe (omega (arith, (fits_says l fits).range.some)) (v.repaired done).1 (w.repaired done).1 (λ i j hi hj. a i hi refl j hj)

    -- one refusal
    both_refused : (why : Refusal) → outcome_of b ≡ Err why → outcome_of c ≡ Err why → x ≡ y
    both_refused why e f = left_x (Err why) e ∙ sym (left_y (Err why) f)

    by_size : (o : Outcome) (r : ℕ) → v.found ≡ verdict.Accused r → w.found ≡ verdict.Accused r → outcome_of b ≡ o → outcome_of c ≡ o → x ≡ y
    by_size (Ok tt) r e f p q =
        let ex = left_x (Ok tt) p in
        let ey = left_y (Ok tt) q in
        let rest : List ℕ = drop (stripe_bytes l) work in
        let sx = small_front v.stripe rest (subst AllBytes ex bx) in
        let sy = small_front w.stripe rest (subst AllBytes ey by) in
        ex ∙ ap (λ (z : List ℕ). z ++ rest) (stripe_once r e f sx sy) ∙ sym ey
    by_size (Err why) r e f p q = both_refused why p q

    by_found : (f : Verdict) → v.found ≡ f → w.found ≡ f → outcome_of b ≡ mend_answer f l (length work) → outcome_of c ≡ mend_answer f l (length work) → x ≡ y
    by_found (verdict.Accused r) e f p q = by_size (sized_answer l (length work)) r e f p q
    by_found verdict.Sound e f p q = both_refused NotNow p q
    by_found verdict.Unsound e f p q = both_refused NotNow p q

    taken_up : (b ≡ c) × (x ≡ y)
    taken_up = (
      v.answers ∙ ap (λ (f : Verdict). begun (first may (mend_answer f l (length work))) (mended s t f)) found_once ∙ sym w.answers,
      by_found w.found found_once refl (outcome_x ∙ ap (λ (f : Verdict). mend_answer f l (length work)) found_once) outcome_y,
    )

  pub repair_once : (b ≡ c) × (x ≡ y)
  repair_once = go may refl
    where
      go : (o : Outcome) → may ≡ o → (b ≡ c) × (x ≡ y)
      go (Ok tt) e = taken_up e
      go (Err why) e = turned_away why e
