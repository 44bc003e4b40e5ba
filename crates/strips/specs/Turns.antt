-- What a turn of each loop adds. Assumes nothing.
use Rattle.std.specs.Prelude.{◌≡◌, refl, Bool, true, false, cond, not, ◌&&◌, List, [], ◌∷◌, ◌++◌, ℕ, zero, suc, ◌+◌, ◌-◌, ◌*◌, ◌≤◌, ◌<◌, length, get_or, take, drop, set, replicate, Ok, Err}
use Rattle.std.proofs.Common.{sym, ap, ap₂, ◌∙◌, append_assoc, append-nil, suc-mul, mul-le-mul_right, add-one, arith, length-append, length-drop, drop_of_length-le, take_at, take_all, length-take-le, drop-drop, drop-cons}
use Rattle.std.proofs.lemmas.List.{length-replicate, replicate-append-replicate, set_at}
use Rattle.std.proofs.Math.Seq.{paste, take-length, drop-append-add}
use Rattle.disk.specs.Geometry.{slot_of, found}
use Rattle.disk.specs.Mask.{in_mask}
use Rattle.disk.specs.Geometry.{Found}
use Rattle.position.specs.Row.{in_row, row_length}
use Rattle.position.specs.Position.{ascending}
use Rattle.strips.specs.Seen.{lost_of}

-- one part more in the row
pub row_turn : (w r : ℕ) (f : ℕ → List ℕ) → ((i : ℕ) → length (f i) ≡ w) → (to start : List ℕ) → to ≡ in_row r f ++ drop (r * w) start
    → paste to (r * w) (f r) w ≡ in_row (r + 1) f ++ drop ((r + 1) * w) start
row_turn w r f h to start e =
    let n : length (in_row r f) ≡ r * w = row_length w f r (λ i l. h i) in
    let A : List ℕ = in_row r f in
    let D : List ℕ = drop (r * w) start in
    let q : r * w + w ≡ (r + 1) * w = sym (ap (λ (i : ℕ). i * w) (add-one r) ∙ suc-mul r w) in
    ap (λ (l : List ℕ). take (r * w) l ++ take w (f r) ++ drop (r * w + w) l) e
    ∙ ap₂ (λ (x y : List ℕ). x ++ y ++ drop (r * w + w) (A ++ D)) (take_at A D (r * w) n) (take_all w (f r) (omega (arith, h r)))
    ∙ ap (λ (l : List ℕ). A ++ f r ++ l) (ap (λ (i : ℕ). drop (i + w) (A ++ D)) (sym n) ∙ drop-append-add A D w ∙ drop-drop w (r * w) start ∙ ap (λ (i : ℕ). drop i start) q)
    ∙ ap (λ (i : ℕ). in_row i f ++ drop ((r + 1) * w) start) (sym (add-one r))

-- part r of n lies within
pub row_fits : (n r w : ℕ) → r < n → r * w + w ≤ n * w
row_fits n r w h = omega (arith, suc-mul r w, mul-le-mul_right w h)

-- the length stays
pub row_long : (n w r : ℕ) (f : ℕ → List ℕ) → ((i : ℕ) → length (f i) ≡ w) → (to start : List ℕ) → r ≤ n → length start ≡ n * w
    → to ≡ in_row r f ++ drop (r * w) start → length to ≡ n * w
row_long n w r f h to start l s e =
    ap length e ∙ length-append (in_row r f) (drop (r * w) start)
    ∙ omega (arith, row_length w f r (λ i l. h i), length-drop (r * w) start, mul-le-mul_right w l)

-- the whole row
pub row_done : (n w r : ℕ) (f : ℕ → List ℕ) (to start : List ℕ) → r ≡ n → length start ≡ n * w → to ≡ in_row r f ++ drop (r * w) start → to ≡ in_row n f
row_done n w r f to start q s e =
    e ∙ ap (λ (i : ℕ). in_row i f ++ drop (i * w) start) q ∙ ap (λ (l : List ℕ). in_row n f ++ l) (drop_of_length-le start {i = n * w} (omega arith)) ∙ append-nil (in_row n f)

-- ---- the list of the numbers that pass a test

pub ascending_few : (p : ℕ → Bool) (n : ℕ) → length (ascending p n) ≤ n
unfolding ascending
ascending_few p zero = omega arith
ascending_few p (suc n) = go (p n) (ascending_few p n)
  where
    go : (b : Bool) → length (ascending p n) ≤ n → length (ascending p n ++ cond b (n ∷ []) []) ≤ suc n
    go true h = omega (arith, length-append (ascending p n) (n ∷ []))
    go false h = omega (arith, length-append (ascending p n) [])

pub lost_few : (n t there : ℕ) → length (lost_of n t there) ≤ n
unfolding lost_of
lost_few n t there = ascending_few (λ r. not (in_mask there (slot_of n t r))) n

pub lost_turn : (p : ℕ → Bool) (r c c' : ℕ) (list list' start : List ℕ) (pass : Bool) → pass ≡ p r → c ≡ length (ascending p r) → list ≡ ascending p r ++ drop c start → c < length start
    → c' ≡ cond pass (c + 1) c → list' ≡ cond pass (set list c r) list → (c' ≡ length (ascending p (r + 1))) × (list' ≡ ascending p (r + 1) ++ drop c' start)
unfolding ascending
lost_turn p r c c' list list' start pass y e f h g k = by pass y g k
  where
    A : List ℕ
    A = ascending p r

    next : (b : Bool) → b ≡ p r → ascending p (r + 1) ≡ A ++ cond b (r ∷ []) []
    next b q = ap (ascending p) (add-one r) ∙ ap (λ (b : Bool). A ++ cond b (r ∷ []) []) (sym q)

    by : (b : Bool) → b ≡ p r → c' ≡ cond b (c + 1) c → list' ≡ cond b (set list c r) list → (c' ≡ length (ascending p (r + 1))) × (list' ≡ ascending p (r + 1) ++ drop c' start)
    by true q u v = (
      u ∙ sym (ap length (next true q) ∙ length-append A (r ∷ []) ∙ ap (λ (i : ℕ). i + 1) (sym e)),
      v ∙ ap (λ (l : List ℕ). set l c r) (f ∙ ap (λ (l : List ℕ). A ++ l) (drop-cons start c 0 h))
          ∙ set_at A (get_or start c 0) (drop (suc c) start) r c (sym e)
          ∙ sym (append_assoc A (r ∷ []) (drop (suc c) start))
          ∙ ap₂ (λ (x : List ℕ) (i : ℕ). x ++ drop i start) (sym (next true q)) (sym (add-one c) ∙ sym u),
    )
    by false q u v = (
      u ∙ e ∙ ap length (sym (next false q ∙ append-nil A)),
      v ∙ f ∙ ap₂ (λ (x : List ℕ) (i : ℕ). x ++ drop i start) (sym (next false q ∙ append-nil A)) (sym u),
    )

-- ---- parts that are copied or wiped

-- a copy of a part of a list, as long as what it is copied to
pub copied_part : (from part : List ℕ) (at e : ℕ) → e ≡ at + length part → e ≤ length from
    → take (length (take (e - at) (drop at from))) (take (e - at) (drop at from)) ++ drop (length (take (e - at) (drop at from))) part ≡ take (length part) (drop at from)
copied_part from part at e q h =
    let s : List ℕ = take (e - at) (drop at from) in
    let n : length s ≡ e - at = length-take-le (e - at) (drop at from) (omega (arith, length-drop at from)) in
    let m : e - at ≡ length part = omega arith in
    ap₂ (λ (x y : List ℕ). x ++ y) (take-length s) (drop_of_length-le part {i = length s} (omega arith)) ∙ append-nil s
    ∙ ap (λ (i : ℕ). take i (drop at from)) m

-- one zero more
pub wipe_turn : (part start : List ℕ) (i : ℕ) → part ≡ replicate i 0 ++ drop i start → i < length start → set part i 0 ≡ replicate (i + 1) 0 ++ drop (i + 1) start
wipe_turn part start i e h =
    ap (λ (l : List ℕ). set l i 0) (e ∙ ap (λ (l : List ℕ). replicate i 0 ++ l) (drop-cons start i 0 h))
    ∙ set_at (replicate i 0) (get_or start i 0) (drop (suc i) start) 0 i (length-replicate {A = ℕ} i 0)
    ∙ sym (append_assoc (replicate i 0) (0 ∷ []) (drop (suc i) start))
    ∙ ap₂ (λ (x : List ℕ) (j : ℕ). x ++ drop j start) (replicate-append-replicate {A = ℕ} i 1 0) (sym (add-one i))

pub wipe_done : (part start : List ℕ) (i : ℕ) → part ≡ replicate i 0 ++ drop i start → i ≡ length start → part ≡ replicate (length start) 0
wipe_done part start i e q =
    e ∙ ap₂ (λ (j : ℕ) (l : List ℕ). replicate j 0 ++ l) q (drop_of_length-le start {i = i} (omega arith)) ∙ append-nil (replicate (length start) 0)

-- ---- what the answer to a question of place tells

is_at : Found → Bool
is_at (Ok x) = true
is_at (Err why) = false

at_is : (a b : Bool) (x : ℕ) → is_at (found a b x) ≡ (a && b)
unfolding is_at
at_is true true x = refl
at_is true false x = refl
at_is false b x = refl

pub found_at : (f : Found) (a b : Bool) (x y : ℕ) → f ≡ found a b x → f ≡ Ok y → (a && b) ≡ true
unfolding is_at
found_at f a b x y h e = sym (at_is a b x) ∙ ap is_at (sym h ∙ e)

pub found_none : (f : Found) (a b : Bool) (x : ℕ) {why : _} → f ≡ found a b x → f ≡ Err why → (a && b) ≡ false
unfolding is_at
found_none f a b x h e = sym (at_is a b x) ∙ ap is_at (sym h ∙ e)

pub and_rest : (a b c : Bool) → (a && b) ≡ true → c ≡ (a && (b && c))
and_rest true true c e = refl
and_rest true false c e = absurd (let z : ◌≡◌ {A = ℕ} 0 1 = cc in omega arith)
and_rest false b c e = absurd (let z : ◌≡◌ {A = ℕ} 0 1 = cc in omega arith)

pub and_none : (a b c : Bool) → (a && b) ≡ false → false ≡ (a && (b && c))
and_none true true c e = absurd (let z : ◌≡◌ {A = ℕ} 0 1 = cc in omega arith)
and_none true false c e = refl
and_none false b c e = refl
